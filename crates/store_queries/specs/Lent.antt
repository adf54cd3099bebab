-- "The winner is returned as a part of the store's or of the batch's bytes", said of the slices themselves: what is handed out points into
-- the slice that it is a part of, at the part's place. `ptr` of a slice is the memory that it is in and the place there.
use Rattle.std.specs.Prelude.{ℕ, ◌+◌, ◌≡◌, List}
use Rattle.std.specs.Borrow.{Bor}
use Rattle.replication.specs.Part.{Part}
use Rattle.replication.specs.Part as P

pub record PointsInto (p : Part) (store batch r : Bor (List ℕ)) : Type 0 where
  pub of_store : (at n : ℕ) → p ≡ P.OfStore at n → r.ref_ptr ≡ (store.ref_ptr.0, at + store.ref_ptr.1)
  pub of_batch : (at n : ℕ) → p ≡ P.OfBatch at n → r.ref_ptr ≡ (batch.ref_ptr.0, at + batch.ref_ptr.1)
