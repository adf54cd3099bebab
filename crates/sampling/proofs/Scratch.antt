-- Scratch that a call begins with: lists of zeros have room by their lengths, and all their cells are 0.
use Prim.Native.Nat.{ℕ, zero, suc, ◌*◌, ◌≤◌, ◌<◌}
use mathlib.Core.Path.{◌≡◌, refl}
use native.Mathlib.Omega.{arith}
use lib.ListN.{get_or, replicate}
use Rattle.codec.proofs.Writing.{zeros-length}
use Rattle.tables.specs.MethodWords.{stride, most_rows, cell}
use Rattle.sampling.specs.MethodTables.{TableRoom}

zero-at : (n c : ℕ) → get_or (replicate {A = ℕ} n 0) c 0 ≡ 0
zero-at zero c = refl
zero-at (suc n) zero = refl
zero-at (suc n) (suc c) = zero-at n c

pub table_room : (m n a b c : ℕ) → m ≤ stride → n < most_rows → 2 * m ≤ a → 3 * suc n ≤ b → stride * suc n ≤ c
    → TableRoom m n (replicate a 0) (replicate b 0) (replicate c 0)
unfolding cell
table_room m n a b c h k x y z = record {
  columns = h;
  rows = k;
  id_words = omega (arith, zeros-length a);
  bound_words = omega (arith, zeros-length b);
  cells = omega (arith, zeros-length c);
  clear = λ r d. zero-at c _;
}
