-- `check_parts::ranges` meets its contract.
use Rattle.std.proofs.Common.{◌≡◌, ℕ, ◌+◌, ◌-◌, ◌*◌, ap, sym, ◌∙◌, arith, add-zero, Some}
use Rattle.layout.specs.Got.{Got, Num, got_of}
use Rattle.layout.specs.Read.{◌▷◌, repeat, range}
use Rattle.check_fields.proofs.Steps.{passed_on}
use Rattle.check_fields.proofs.Repeat.{repeat_all, repeat_refused, repeat_on, repeat_end}
use Rattle.check_parts.specs.Method.{lowest, ranged, ranges_from}
use Rattle.check_parts.proofs.Bound.{range_went}
use Rattle.check_parts.proofs.ranges.Goals as goal

pub loop-k-init : goal.loop-k-init
unfolding lowest
loop-k-init c =
    let a = c.args in
    record {
      rest = repeat_all _ _ _ _ ∙ ap (λ (p : ℕ). repeat (range a.s.now a.v) (a.g - 0) 0 p) (sym (add-zero a.start));
      inside = omega arith;
    }

pub returns-in_err-range : goal.returns-in_err-range
unfolding got_of ranged ranges_from
returns-in_err-range c =
    passed_on _ _ c.from_residual.ensures.1 _
    (repeat_refused _ _ _ _ _ _ c.loop-k.invariant.rest (omega arith) _ c.in_err-range.ensures) _

pub loop-k-preserved : goal.loop-k-preserved
unfolding got_of ranged lowest
loop-k-preserved c =
    let a = c.args in
    let p : a.start + 28 * c.loop-k.k + 28 ≡ a.start + 28 * (c.loop-k.k + 1) = omega arith in
    let w = range_went _ _ _ _ _ _ c.in_ok-range.ensures in
    record {
      rest =
          repeat_on _ _ _ _ _ _ c.loop-k.invariant.rest (omega arith) _ c.in_ok-range.ensures
          ∙ ap (λ (b : ℕ). repeat (range a.s.now a.v) (a.g - (c.loop-k.k + 1)) (lowest (Some c.in_ok-range.field-0)) b) p;
      inside = omega arith;
    }

pub returns : goal.returns
unfolding got_of ranges_from
returns c =
    let e : c.args.g ≡ c.loop-k.k = omega arith in
    ap (λ (j : ℕ). Num c.args.g (c.args.start + 28 * j)) e
    ∙ ap (λ (h : Got). h ▷ λ low next. Num c.args.g next) (repeat_end _ _ _ _ _ _ c.loop-k.invariant.rest (omega arith))
