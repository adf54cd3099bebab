-- A number at the front of a part of a slice is the number at the part's place. The part is spelt as the code's
-- `&s[lo..hi]` gives it.
use mathlib.Core.Path.{◌≡◌, ◌∙◌, ap}
use mathlib.Core.List.{List}
use Prim.Native.Nat.{ℕ, ◌+◌, ◌-◌, ◌≤◌}
use native.Mathlib.Omega.{arith}
use lib.ListN.{length, take, drop, length-drop}
use lib.Seq.{length-take-le}
use Rattle.codec.specs.Number.{be_at}
use Rattle.codec.specs.Total.{read_at}
use Rattle.codec.proofs.Numbers.{be_take, be_drop}
use Rattle.codec.proofs.Total.{read_there}

module _ (s : List ℕ) (lo hi n : ℕ) (h : lo + n ≤ hi) (k : hi ≤ length s) where
  long : n ≤ length (take (hi - lo) (drop lo s))
  long =
      let d : length (drop lo s) ≡ length s - lo = length-drop lo s in
      let l : hi - lo ≤ length (drop lo s) = omega arith in
      let t : length (take (hi - lo) (drop lo s)) ≡ hi - lo = length-take-le (hi - lo) (drop lo s) l in
      omega arith

  pub part_there : read_at (take (hi - lo) (drop lo s)) n 0 ≡ be_at s n lo
  part_there =
      let l : 0 + n ≤ hi - lo = omega arith in
      let m = long in
      read_there (take (hi - lo) (drop lo s)) n 0 (omega arith)
      ∙ be_take (drop lo s) n 0 (hi - lo) l ∙ be_drop s n lo 0 ∙ ap (λ (x : ℕ). be_at s n x) (omega arith)

-- the same for a part of n bytes, as `&s[at..at + n]`
pub part_at : (s : List ℕ) (at n : ℕ) → at + n ≤ length s → read_at (take (at + n - at) (drop at s)) n 0 ≡ be_at s n at
part_at s at n k = part_there s at (at + n) n (omega arith) k

-- what a read of such a part gives
pub part_is : (s : List ℕ) (at n x : ℕ) → x ≡ read_at (take (at + n - at) (drop at s)) n 0 → at + n ≤ length s → x ≡ be_at s n at
part_is s at n x e k = e ∙ part_at s at n k
