-- What the code of apply knows from step to step. There is nothing to believe here: the call's contract cites the reply of `replication`.
use Rattle.std.specs.Prelude.{ℕ, ◌+◌, ◌≤◌, ◌≡◌, Ok, Bool, List, [], ◌∷◌, length}
use Rattle.codec.specs.Number.{Bytes}
use Rattle.codec.specs.Reply.{Reply}
use Rattle.layout.specs.Knowledge.{Limits, Knowledge, any_id}
use Rattle.layout.specs.declared.Limits as R
use Rattle.layout.specs.Decode.{decode}
use Rattle.ticks.specs.Meaning.{highest, Normal}
use Rattle.ticks.specs.Operations.{covers_for}
use Rattle.replication.specs.OpenStore.{store_knowledge}
use Rattle.replication.specs.Operate.{applied}
use Rattle.replication.specs.MethodTable.{table_at}
use Rattle.replication.specs.MethodOpening.{store_at, batch_at}
use Rattle.replication.specs.MethodReplies.{store_reply}
use Rattle.lookup.specs.declared.View.{View}
use Rattle.lookup.specs.Method.{Opens}
use Rattle.results.specs.MethodOpened.{Reads}
use Rattle.store_open.specs.declared.KnowledgePart.{KnowledgePart}
use Rattle.store_open.specs.declared.OpenStore.{OpenStore}
use Rattle.store_open.specs.declared.OpenBatch.{OpenBatch}
use Rattle.store_open.specs.Method.{store_opened, batch_opened}

-- for every item the first knowledge has at least the second's tick of one replica
abbrev pub own_covered : ℕ → Knowledge → Knowledge → Bool
own_covered p a b = covers_for (p ∷ []) a b 0 highest

-- what is left of the call once 18 is not met
abbrev pub applied_reply : Limits → List ℕ → List ℕ → Reply
applied_reply L s t = store_reply L (applied (store_at L s) (batch_at L t))

-- both checks have accepted: a store s with its knowledge, and a batch t with its two
pub record BothValid (L : Limits) (s : List ℕ) (mine : OpenStore) (t : List ℕ) (theirs : OpenBatch) : Type 0 where
  pub store_bytes : Bytes s
  pub store : store_opened L s ≡ Ok mine
  pub batch_bytes : Bytes t
  pub batch : batch_opened L t ≡ Ok theirs

-- the bytes k of a store's knowledge, which is in normal form, and those of a learned one, both opened under the limits
pub record OwnAndLearned (most : R.Limits) (k : List ℕ) (v : View) (l : List ℕ) (w : View) : Type 0 where
  pub mine : Reads most k v
  pub normal : Normal (decode k)
  pub theirs : Reads most l w

-- what the result goes by: of the store s its own id p, its knowledge in the bytes k and its records behind that; of the batch t its
-- learned knowledge in the bytes l, which stand at a place of t, and its records behind that
pub record Merges (L : Limits) (s k : List ℕ) (own : KnowledgePart) (p : ℕ) (t l : List ℕ) (learned : KnowledgePart) (at : ℕ)
    : Type 0 where
  pub store_bytes : Bytes s
  pub batch_bytes : Bytes t
  pub id : p ≡ (store_at L s).own
  pub mine : Opens (any_id L) k own.view.r own.view.start
  pub mine_is : (store_at L s).knowledge ≡ decode k
  pub normal : Normal (decode k)
  pub theirs : Opens (any_id L) l learned.view.r learned.view.start
  pub theirs_is : (batch_at L t).learned ≡ decode l
  pub room : store_knowledge + own.length ≤ length s
  pub other_room : at + learned.length ≤ length t
  pub records : table_at s (store_knowledge + own.length) ≡ (store_at L s).records
  pub others : table_at t (at + learned.length) ≡ (batch_at L t).records
