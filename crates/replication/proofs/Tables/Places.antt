-- The places of the records that a walker goes through. Where a whole record of a known kind stands, it is one of them and the others follow
-- behind it; anywhere else there are none. The bound on the steps, the number of bytes, is never met: a record has at least one byte, so as
-- many steps as bytes are left always suffice. Where records are read from a place to the very end, they are the values at these places:
-- so for the tables of every store and batch that opens.
use Prim.Native.Nat.{ℕ, zero, suc, ◌+◌, ◌≤◌}
use mathlib.Core.Path.{◌≡◌, refl, sym, ap, ◌∙◌}
use mathlib.Core.Bool.{Bool, true, false}
use mathlib.Core.List.{List, [], ◌∷◌}
use mathlib.Core.Option.{some}
use native.Mathlib.Omega.{arith}
use lib.ListN.{length}
use Rattle.codec.specs.Parsed.{accepted}
use Rattle.layout.specs.Knowledge.{Limits, All}
use Rattle.replication.specs.Record.{Rec}
use Rattle.replication.specs.Formats.{Store}
use Rattle.replication.specs.BatchFormat.{Batch}
use Rattle.replication.specs.Reading.{behind, rec_at, whole, recs_at}
use Rattle.replication.specs.OpenStore.{store_table, open_store}
use Rattle.replication.specs.OpenBatch.{batch_table, open_batch}
use Rattle.replication.specs.Queries.{places_from, places}
use Rattle.replication.specs.MethodTable.{recs_of, table_at}
use Rattle.replication.proofs.Bytes.Record.{whole_back, more_back, end_back}
use Rattle.replication.proofs.Bytes.Store.{store_read_lem}
use Rattle.replication.proofs.Bytes.Batch.{batch_read}

-- ---- steps

from_step : (n : ℕ) (s : List ℕ) (at : ℕ) → whole s at ≡ true → places_from (suc n) s at ≡ at ∷ places_from n s (behind s at)
unfolding places_from
from_step n s at h = rw (h, places_from)

from_end : (n : ℕ) (s : List ℕ) (at : ℕ) → whole s at ≡ false → places_from n s at ≡ []
unfolding places_from
from_end zero s at h = refl
from_end (suc n) s at h = rw (h, places_from)

-- a whole record ends inside the bytes
beyond : (s : List ℕ) (at : ℕ) → length s ≤ at → whole s at ≡ false
beyond s at l = go (whole s at) refl
  where
    go : (t : Bool) → whole s at ≡ t → whole s at ≡ false
    go true e = let w = whole_back s at e in absurd (omega (arith, w.later, w.inside))
    go false e = e

-- as many steps as bytes are left suffice, and more change nothing
enough : (n m : ℕ) (s : List ℕ) (at : ℕ) → length s ≤ at + n → length s ≤ at + m → places_from n s at ≡ places_from m s at
enough zero m s at h l = from_end zero s at (beyond s at (omega arith)) ∙ sym (from_end m s at (beyond s at (omega arith)))
enough (suc n) zero s at h l = from_end (suc n) s at (beyond s at (omega arith)) ∙ sym (from_end zero s at (beyond s at (omega arith)))
enough (suc n) (suc m) s at h l = go (whole s at) refl (enough n m s (behind s at))
  where
    go : (t : Bool) → whole s at ≡ t →
        (length s ≤ behind s at + n → length s ≤ behind s at + m → places_from n s (behind s at) ≡ places_from m s (behind s at))
        → places_from (suc n) s at ≡ places_from (suc m) s at
    go true e i =
        let w = whole_back s at e in
        from_step n s at e ∙ ap {B = List ℕ} (λ (l : List ℕ). at ∷ l) (i (omega (arith, w.later)) (omega (arith, w.later))) ∙ sym (from_step m s at e)
    go false e i = from_end (suc n) s at e ∙ sym (from_end (suc m) s at e)

pub places_step : (s : List ℕ) (at : ℕ) → whole s at ≡ true → places s at ≡ at ∷ places s (behind s at)
unfolding places
places_step s at e =
    enough (length s) (suc (length s)) s at (omega arith) (omega arith) ∙ from_step (length s) s at e

pub places_end : (s : List ℕ) (at : ℕ) → whole s at ≡ false → places s at ≡ []
unfolding places
places_end s at e = from_end (length s) s at e

-- at each place stands a whole record
whole_from : (n : ℕ) (s : List ℕ) (at : ℕ) → All (λ a. whole s a ≡ true) (places_from n s at)
unfolding places_from
whole_from zero s at = tt
whole_from (suc n) s at = go (whole s at) refl (whole_from n s (behind s at))
  where
    go : (t : Bool) → whole s at ≡ t → All (λ a. whole s a ≡ true) (places_from n s (behind s at)) → All (λ a. whole s a ≡ true) (elim t [ true ↦ at ∷ places_from n s (behind s at) | false ↦ [] ])
    go true e i = (e, i)
    go false e i = tt

pub places_whole : (s : List ℕ) (at : ℕ) → All (λ a. whole s a ≡ true) (places s at)
unfolding places
places_whole s at = whole_from (length s) s at

-- ---- tables

recs_of_lem : (s : List ℕ) (a : ℕ) (ats : List ℕ) → recs_of s (a ∷ ats) ≡ rec_at s a ∷ recs_of s ats
unfolding recs_of
recs_of_lem s a ats = refl

pub table_step : (s : List ℕ) (at : ℕ) → whole s at ≡ true → table_at s at ≡ rec_at s at ∷ table_at s (behind s at)
unfolding table_at
table_step s at e = ap (recs_of s) (places_step s at e) ∙ recs_of_lem s at (places s (behind s at))

pub table_end_lem : (s : List ℕ) (at : ℕ) → whole s at ≡ false → table_at s at ≡ []
unfolding table_at recs_of
table_end_lem s at e = ap (recs_of s) (places_end s at e)

-- the records read from a place to the very end are the table there
pub table_read : (s : List ℕ) (n at : ℕ) (rs : List Rec) → recs_at s n at ≡ some rs → table_at s at ≡ rs
table_read s zero at rs e =
    let q = end_back s at rs e in
    table_end_lem s at (beyond s at (omega (arith, q.1))) ∙ sym q.0
table_read s (suc n) at rs e =
    more_back s n at rs (table_at s at ≡ rs) e
    (λ qs w f g. table_step s at w ∙ ap {B = List Rec} (λ (l : List Rec). rec_at s at ∷ l) (table_read s n (behind s at) qs f) ∙ g)

-- the table of a store that opens is its records, and so for a batch
pub store_table_lem : (L : Limits) (s : List ℕ) (st : Store) → open_store L s ≡ accepted st → table_at s (store_table s) ≡ st.records
store_table_lem L s st e = let h = (store_read_lem L s st e).0 in table_read s _ (store_table s) st.records h.records

pub batch_table_lem : (L : Limits) (s : List ℕ) (b : Batch) → open_batch L s ≡ accepted b → table_at s (batch_table s) ≡ b.records
batch_table_lem L s b e = let h = (batch_read L s b e).0 in table_read s _ (batch_table s) b.records h.records
