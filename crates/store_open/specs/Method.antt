-- What the check of a store or a batch answers: the tests of opening, then its sizes by places. There is nothing to believe here: the laws
-- `store_open`, `store_closed`, `batch_open` and `batch_closed` say what these answers are in the terms of specs/OpenStore.antt and
-- specs/OpenBatch.antt of `replication`.
use Rattle.std.specs.Prelude.{ℕ, ◌≤◌, ◌≡◌, Bool, true, false, List, length, take, drop, Result, Ok, Err}
use Rattle.codec.specs.Number.{Bytes, be_at}
use Rattle.codec.specs.declared.Refusal.{Refusal}
use Rattle.codec.specs.declared.Refusal.TheVariants.{StoreNotValid, BatchNotValid}
use Rattle.layout.specs.Knowledge.{Limits, any_id}
use Rattle.layout.specs.Permitted.{largest_replicas}
use Rattle.layout.specs.Decode.{decode}
use Rattle.layout.specs.Parse.{checked_by, parse}
use Rattle.ticks.specs.Written.{is_normal}
use Rattle.ticks.specs.Calls.{read_as}
use Rattle.replication.specs.OpenStore.{knowledge_length, store_count, store_knowledge, store_table}
use Rattle.replication.specs.OpenBatch.{first_id, last_id, needed_length, learned_length, batch_count, batch_needed, batch_learned, batch_table}
use Rattle.replication.specs.MethodRecords.{shaped_at}
use Rattle.replication.specs.MethodOpening.{is_accepted, is_store, is_batch}
use Rattle.lookup.specs.declared.View.{View}
use Rattle.lookup.specs.Opened.{Opened}
use Rattle.lookup.specs.Opened as O
use Rattle.lookup.specs.Method.{open_of, Opens}
use Rattle.store_open.specs.declared.KnowledgePart.{KnowledgePart}
use Rattle.store_open.specs.declared.OpenStore.{OpenStore}
use Rattle.store_open.specs.declared.OpenBatch.{OpenBatch}
use Rattle.std.specs.Prelude as R

-- a knowledge of n bytes
abbrev pub sized_part : ℕ → View → KnowledgePart
sized_part n v = record { length = n; view = v }

-- a knowledge in normal form that was opened for lookup, with no more replicas than scratch of the largest size has room for
pub record NormalOf (L : Limits) (k : List ℕ) (p : KnowledgePart) : Type 0 where
  pub opens : Opens (any_id L) k p.view.r p.view.start
  pub normal : is_normal (decode k) ≡ true
  pub length : p.length ≡ length k
  pub small : p.view.r ≤ largest_replicas

-- bytes that the check does not accept, or that are not in normal form
abbrev pub NotNormal : Limits → List ℕ → Type 0
NotNormal L k = is_accepted (parse (any_id L) k) ≡ true → is_normal (read_as (parse (any_id L) k)) ≡ true → ⊥

-- what the check of a knowledge and of its normal form came to
pub record NormalityOf (L : Limits) (k : List ℕ) (z : R.Option KnowledgePart) : Type 0 where
  pub normal : (p : KnowledgePart) → z ≡ R.Some p → NormalOf L k p
  pub other : z ≡ R.None → NotNormal L k

-- ---- stores

-- the bytes of a store's knowledge
abbrev pub own_bytes : List ℕ → List ℕ
own_bytes s = take (knowledge_length s) (drop store_knowledge s)

-- from what the check of the knowledge answered
unfoldable pub store_from : List ℕ → Opened → Result OpenStore Refusal
store_from s (O.At v) = Ok (record { own = sized_part (knowledge_length s) v; count = store_count s })
store_from s (O.Refused n) = Err StoreNotValid

unfoldable pub store_if : Bool → Result OpenStore Refusal → Result OpenStore Refusal
store_if true x = x
store_if false x = Err StoreNotValid

unfoldable pub store_opened : Limits → List ℕ → Result OpenStore Refusal
store_opened L s = store_if (is_store L s) (store_from s (open_of (checked_by (any_id L) (own_bytes s))))

-- the tests before the knowledge hold, but for the limit of records; k is the knowledge's bytes, and n the count of records
pub record StoreHeader (s k : List ℕ) (n : ℕ) : Type 0 where
  pub header : store_knowledge ≤ length s
  pub kind : be_at s 1 0 ≡ 3
  pub inside : store_table s ≤ length s
  pub ordered : shaped_at s 0 (store_count s) (store_table s) ≡ true
  pub part : k ≡ own_bytes s
  pub count : n ≡ store_count s

-- ---- batches

abbrev pub needed_bytes : List ℕ → List ℕ
needed_bytes s = take (needed_length s) (drop batch_needed s)

abbrev pub learned_bytes : List ℕ → List ℕ
learned_bytes s = take (learned_length s) (drop (batch_learned s) s)

unfoldable pub batch_from : List ℕ → Opened → Opened → Result OpenBatch Refusal
batch_from s (O.At v) (O.At w) = Ok (record {
  needed = sized_part (needed_length s) v;
  learned = sized_part (learned_length s) w;
  count = batch_count s;
})
batch_from s (O.At v) (O.Refused n) = Err BatchNotValid
batch_from s (O.Refused n) o = Err BatchNotValid

unfoldable pub batch_if : Bool → Result OpenBatch Refusal → Result OpenBatch Refusal
batch_if true x = x
batch_if false x = Err BatchNotValid

unfoldable pub batch_opened : Limits → List ℕ → Result OpenBatch Refusal
batch_opened L s =
    batch_if (is_batch L s)
    (batch_from s (open_of (checked_by (any_id L) (needed_bytes s))) (open_of (checked_by (any_id L) (learned_bytes s))))

-- the same for a batch: k and l are the bytes of the needed and of the learned knowledge
pub record BatchHeader (s k l : List ℕ) (n : ℕ) : Type 0 where
  pub bytes : Bytes s
  pub header : batch_needed ≤ length s
  pub kind : be_at s 1 0 ≡ 4
  pub inside : batch_table s ≤ length s
  pub span : first_id s ≤ last_id s
  pub ordered : shaped_at s 0 (batch_count s) (batch_table s) ≡ true
  pub needed : k ≡ needed_bytes s
  pub learned : l ≡ learned_bytes s
  pub count : n ≡ batch_count s
