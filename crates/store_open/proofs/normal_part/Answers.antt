-- `store_open::normal_part` meets its contract, in each of the check's results. The sizes of accepted bytes fit four bytes.
use mathlib.Core.Path.{refl, sym}
use native.Mathlib.Omega.{arith}
use Rattle.normal_form.proofs.Calls.{sizes}
use Rattle.store_open.proofs.Judged.{none_other, counts_of, accepted_normal, accepted_other}
use borrow.Author.Tests.{not-true, not-false}
use Rattle.store_open.proofs.normal_part.Goals as goal

pub returns-in_err-counts : goal.returns-in_err-counts
returns-in_err-counts c =
    rw c.from_residual.ensures (none_other _ _ _ _ c.check_within.ensures (sym c.in_err-counts.ensures.value))

pub overflow_cast-r : goal.overflow_cast-r
overflow_cast-r c =
    omega (
      arith,
      sizes _ _ _ _ c.check_within.ensures _ _ _ _ (record { below = λ i. omega (arith, c.type_inv.k i) })
          (counts_of _ _ (sym c.in_ok-counts.ensures.value)),
    )

pub overflow_cast-v : goal.overflow_cast-v
overflow_cast-v c =
    omega (
      arith,
      sizes _ _ _ _ c.check_within.ensures _ _ _ _ (record { below = λ i. omega (arith, c.type_inv.k i) })
          (counts_of _ _ (sym c.in_ok-counts.ensures.value)),
    )

pub overflow_cast-e : goal.overflow_cast-e
overflow_cast-e c =
    omega (
      arith,
      sizes _ _ _ _ c.check_within.ensures _ _ _ _ (record { below = λ i. omega (arith, c.type_inv.k i) })
          (counts_of _ _ (sym c.in_ok-counts.ensures.value)),
    )

pub overflow_cast-g : goal.overflow_cast-g
overflow_cast-g c =
    omega (
      arith,
      sizes _ _ _ _ c.check_within.ensures _ _ _ _ (record { below = λ i. omega (arith, c.type_inv.k i) })
          (counts_of _ _ (sym c.in_ok-counts.ensures.value)),
    )

pub returns-then-not-normal_in : goal.returns-then-not-normal_in
returns-then-not-normal_in c = λ n.
    accepted_other _ _ _ _ c.check_within.ensures _ _ _ _ (record { below = λ i. omega (arith, c.type_inv.k i) })
    (counts_of _ _ (sym c.in_ok-counts.ensures.value)) _ c.normal_in.ensures n (not-true _ c.if-not-normal_in.true-raw)

pub returns : goal.returns
returns c = λ n.
    accepted_normal _ _ _ _ c.check_within.ensures _ _ _ _ (record { below = λ i. omega (arith, c.type_inv.k i) })
    (counts_of _ _ (sym c.in_ok-counts.ensures.value)) _ c.normal_in.ensures n
    (not-false _ c.if-not-normal_in.false-raw) _ _ refl c.start-start.ensures
