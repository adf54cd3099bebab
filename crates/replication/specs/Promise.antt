-- What demand 3 promises of a list of calls.
use Rattle.std.specs.Prelude.{ℕ, ◌≤◌, ◌≡◌, List, []}
use Rattle.codec.specs.Prelude.{Option, some}
use Rattle.codec.specs.Number.{put}
use Rattle.codec.specs.Reply.{gives}
use Rattle.layout.specs.Knowledge.{Limits, Rules}
use Rattle.ticks.specs.Meaning.{highest, known}
use Rattle.replication.specs.Call.{ReplicaId, Call}
use Rattle.replication.specs.Formats.{find, Store, encode_store}
use Rattle.replication.specs.Valid.{LawfulStore}
use Rattle.replication.specs.Calls.{new_reply, apply_reply}
use Rattle.replication.specs.Lists.{World, start, run, trace, outcome, batch_number}
use Rattle.replication.specs.Machine.{State, initial, history, greatest}

-- the world and the machine after a list of calls
unfoldable pub ends : Rules → List Call → World
ends R calls = run R start calls

unfoldable pub machine : Rules → List Call → State
machine R calls = history initial (trace R start calls)

-- the store bytes of replica p after the list, and the bytes of batch n of the list
abbrev pub store_after : Rules → List Call → ℕ → List ℕ
store_after R calls p = (ends R calls).stores p

abbrev pub batch_of : Rules → List Call → ℕ → Option (List ℕ)
batch_of R calls n = batch_number n (ends R calls).batches

-- s are the bytes of a store that meets document 01's list "A valid store"
pub record IsStore (L : Limits) (s : List ℕ) (st : Store) : Type 0 where
  pub bytes : s ≡ encode_store st
  pub valid : LawfulStore L st

-- the store bytes s of replica p: of a valid store, under its own id, and compared with the machine
pub record Agrees (L : Limits) (s : List ℕ) (m : State) (p : ℕ) : Type 0 where
  pub store : Store
  pub is : IsStore L s store
  pub own : store.own ≡ p
  -- "the tick known in its store's knowledge, for every item and replica id, equals the machine's"
  pub ticks : (i q : ℕ) → i ≤ highest → ReplicaId q → known store.knowledge i q ≡ m.ticks p i q
  -- "its records, by rising item id, are, for each item with versions made that this replica's ticks in the machine contain, the whole
  -- record of the greatest of these, by tick and then replica id, and no others"; they rise because the store is valid
  pub records : (i : ℕ) → i ≤ highest → find i store.records ≡ greatest m.versions (m.ticks p) i

-- one apply after the other, into buffers of any lengths; the bytes are there where neither is refused
pub record Twofold (L : Limits) (s a b : List ℕ) (result : List ℕ) : Type 0 where
  pub first_room : ℕ
  pub second_room : ℕ
  pub middle : List ℕ
  pub first : outcome (apply_reply L s a) first_room ≡ some middle
  pub second : outcome (apply_reply L middle b) second_room ≡ some result

pub record Promise (R : Rules) (calls : List Call) : Type 0 where
  -- "It starts from stores that new returned, each under an id of its own"
  pub begins : (p : ℕ) → ReplicaId p → new_reply (put 16 p []) ≡ gives (start.stores p)
  pub agrees : (p : ℕ) → ReplicaId p → Agrees R.limits (store_after R calls p) (machine R calls) p
  -- two batches of the list in either order end in the same store bytes, and one twice as once, wherever none of these applies is refused
  pub either_order : (p m n : ℕ) (a b x y : List ℕ) → ReplicaId p → batch_of R calls m ≡ some a → batch_of R calls n ≡ some b
      → Twofold R.limits (store_after R calls p) a b x → Twofold R.limits (store_after R calls p) b a y → x ≡ y
  pub twice : (p n : ℕ) (a x y : List ℕ) (first_room second_room : ℕ) → ReplicaId p → batch_of R calls n ≡ some a
      → outcome (apply_reply R.limits (store_after R calls p) a) first_room ≡ some x
      → outcome (apply_reply R.limits x a) second_room ≡ some y → x ≡ y
  -- two replicas with equal knowledge hold equal tables
  pub equal_tables : (p q : ℕ) (a b : Store) → ReplicaId p → ReplicaId q → IsStore R.limits (store_after R calls p) a
      → IsStore R.limits (store_after R calls q) b
      → ((i r : ℕ) → i ≤ highest → ReplicaId r → known a.knowledge i r ≡ known b.knowledge i r) → a.records ≡ b.records
