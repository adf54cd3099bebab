-- What demand 3 says of the bytes that a program keeps (Program.antt), after any list of calls that it made.
use Rattle.std.specs.Prelude.{ℕ, ◌≡◌, List, take}
use Rattle.codec.specs.Prelude.{some}
use Rattle.layout.specs.Knowledge.{basic, base}
use Rattle.ticks.specs.Demand2.{SameVersions}
use Rattle.replication.specs.Call.{ReplicaId, Call}
use Rattle.replication.specs.Formats.{Store}
use Rattle.replication.specs.Lists.{World, batch_number}
use Rattle.replication.specs.Promise.{ends, machine, store_after, IsStore, Agrees}
use Rattle.joined.specs.Step.{ApplyStep}

-- apply, given a store and a batch, was not refused, and this is what it wrote
pub record Applied (store batch result : List ℕ) : Type 0 where
  pub number : ℕ
  pub old : ℕ
  pub written : ℕ
  pub out : List ℕ
  pub left : List ℕ
  pub called : ApplyStep store batch number old written out left
  pub fine : number ≡ 0
  pub taken : result ≡ take written left

pub record OnCode (calls : List Call) (w : World) : Type 0 where
  -- the program's bytes are those of the list
  pub stores : (p : ℕ) → ReplicaId p → w.stores p ≡ store_after basic calls p
  pub batches : w.batches ≡ (ends basic calls).batches
  -- each replica knows and holds exactly what the plain history machine says
  pub agrees : (p : ℕ) → ReplicaId p → Agrees base (w.stores p) (machine basic calls) p
  -- "applying two batches of that list in either order ends in the same store bytes, and one batch twice as once, wherever none of these
  -- applies is refused"
  pub either_order : (p m n : ℕ) (a b u v x y : List ℕ) → ReplicaId p → batch_number m w.batches ≡ some a
      → batch_number n w.batches ≡ some b
      → Applied (w.stores p) a u → Applied u b x → Applied (w.stores p) b v → Applied v a y → x ≡ y
  pub twice : (p n : ℕ) (a x y : List ℕ) → ReplicaId p → batch_number n w.batches ≡ some a → Applied (w.stores p) a x → Applied x a y
      → x ≡ y
  -- "Two replicas with equal knowledge so hold equal tables"
  pub equal_tables : (p q : ℕ) (a b : Store) → ReplicaId p → ReplicaId q → IsStore base (w.stores p) a → IsStore base (w.stores q) b
      → SameVersions a.knowledge b.knowledge → a.records ≡ b.records
