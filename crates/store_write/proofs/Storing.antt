-- How a call ends that writes so many bytes where it has room: without room 14 is answered and the buffer stays. Two tables of records joined are
-- records at chosen addresses; and a call that has ended under document 01's limits, given as numbers, has ended as document 01 says.
use Prim.Native.Nat.{ℕ, ◌≤◌, ◌<◌}
use mathlib.Core.Path.{◌≡◌, sym, ap, ◌∙◌}
use mathlib.Core.List.{List}
use native.Mathlib.Omega.{arith}
use lib.ListN.{length, take}
use borrow.Author.Tests.{le-leb, lt-leb}
use Rattle.codec.specs.Number.{Bytes}
use Rattle.codec.specs.Reply.{Reply, answer, after}
use Rattle.codec.specs.MethodEnded.{Ended}
use Rattle.codec.specs.Answer.{Answer}
use Rattle.codec.specs.Answer.{Written, Refused}
use Rattle.layout.specs.Knowledge.{Limits, base}
use Rattle.layout.specs.Permitted.{within}
use Rattle.layout.proofs.Within.{base_within}
use Rattle.replication.specs.Operate.{join}
use Rattle.replication.specs.MethodTable.{table_at}
use Rattle.records_join.specs.MethodJoin.{copied, size_from, join_at, fronted}
use Rattle.records_join.proofs.Copies.{joined_count, joined_size, joined_copied}
use Rattle.store_write.specs.MethodStoring.{ends_with, leaves, Chosen}

-- ---- room or not: 14 where the whole has no room, else the whole

module _ (whole : ℕ) (out written : List ℕ) where
  pub put_short : length out < whole → (Refused 14 ≡ ends_with whole (length out)) × (out ≡ leaves whole out written)
  unfolding ends_with leaves
  put_short h = (sym (rw (lt-leb whole (length out) h, ends_with)), sym (rw (lt-leb whole (length out) h, leaves)))

  pub put_whole : (u : List ℕ) → whole ≤ length out → u ≡ written → (Written whole ≡ ends_with whole (length out)) × (u ≡ leaves whole out written)
  unfolding ends_with leaves
  put_whole u h e = (sym (rw (le-leb whole (length out) h, ends_with)), e ∙ sym (rw (le-leb whole (length out) h, leaves)))

-- ---- two tables joined

pub joined_chosen : (s : List ℕ) (a : ℕ) (t : List ℕ) (b : ℕ) (d picks : List ℕ) (count size : ℕ) → Bytes s → Bytes t
    → count ≡ length (join_at s a t b) → size ≡ size_from s t (join_at s a t b) → picks ≡ fronted d (join_at s a t b) → count ≤ length d
    → Chosen s t picks count size (join (table_at s a) (table_at t b))
joined_chosen s a t b d picks count size x y e f g l =
    record {
      counted = e ∙ joined_count s a t b;
      sized = f ∙ joined_size s a t b;
      copies = λ o at h.
          ap (λ (p : List ℕ). copied s t o at (take count p)) g
          ∙ joined_copied s a t b x y d count e l o at (omega (arith, f));
    }

-- ---- document 01's limits

-- a call that has ended under document 01's limits, given as numbers
pub ended_base : (call : Limits → Reply) (out u : List ℕ) (x : Answer)
    → Ended (call (within base.replicas base.ranges base.records)) out u x
    → (x ≡ answer (call base) (length out)) × (u ≡ after (call base) out)
ended_base call out u x h =
    let e : call (within base.replicas base.ranges base.records) ≡ call base = ap call base_within in
    (h.answers ∙ ap (λ (r : Reply). answer r (length out)) e, h.leaves ∙ ap (λ (r : Reply). after r out) e)
