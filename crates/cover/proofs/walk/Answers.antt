-- `cover::walk` meets its contract. The loop's invariant: the whole answer is the one from the item on to which both cursors have
-- come.
use mathlib.Core.Path.{◌≡◌, sym, ◌∙◌}
use Rattle.std.specs.Ordering.{is_le}
use Rattle.cover.specs.Method.{step_if}
use Rattle.cover.proofs.Steps.{clears_starts, clears_whole, clears_not, clears_ends, clears_less, clears_on, first_goes, second_goes, step_on, step_stays}
use Rattle.cover.proofs.walk.Goals as goal
use Rattle.cover.proofs.walk.Goals.{After-is_ge, then-is_le, else-is_le}

pub loop-last-init : goal.loop-last-init
loop-last-init c = clears_starts _ _ _ _ _ _ _ _ _ _ c.advance-x.ensures c.advance-y.ensures _ c.requires.0 c.requires.1
    c.requires.2 c.requires.3

pub returns-then-not-none_above : goal.returns-then-not-none_above
returns-then-not-none_above c = clears_whole _ _ _ _ _ _ _ _ _ _ c.advance-x.ensures c.advance-y.ensures _
    (clears_not _ _ _ _ _ _ _ _ _ c.loop-last.invariant _ c.none_above.ensures c.if-not-none_above.true)

pub returns-in_default : goal.returns-in_default
returns-in_default c = clears_whole _ _ _ _ _ _ _ _ _ _ c.advance-x.ensures c.advance-y.ensures _
    (clears_ends _ _ _ _ _ _ _ _ _ c.loop-last.invariant _ c.none_above.ensures c.if-not-none_above.false _ c.turn.ensures
    c.in_default.is)

pub step-x-requires : goal.step-x-requires
step-x-requires c = (
  c.loop-last.invariant.first,
  first_goes _ _ _ _ _ _ _ _ _ c.loop-last.invariant _ c.none_above.ensures c.if-not-none_above.false _ c.turn.ensures
      _ c.in-Some.is _ c.is_le.ensures c.if-is_le.true,
)

pub step-y-requires : goal.step-y-requires
step-y-requires c = (
  c.loop-last.invariant.second,
  second_goes _ _ _ _ _ _ _ _ _ c.loop-last.invariant _ c.none_above.ensures c.if-not-none_above.false _ c.turn.ensures
      _ c.in-Some.is _ c.is_ge.ensures c.if-is_ge.true,
)

-- the first cursor, where it goes on and where it stays
first-moved : (c : After-is_ge) → c.if-is_le.x ≡ step_if c.args.s.now c.args.v.r (is_le c.in-Some.o) c.loop-last.x
first-moved c =
    elim c.if-is_le.branch [
      | then-is_le w ↦ w.x-is ∙ step_on _ _ _ _ _ (sym c.is_le.ensures ∙ w.if-is_le.true) w.step-x.ensures
      | else-is_le w ↦ w.x-is ∙ step_stays _ _ _ _ (sym c.is_le.ensures ∙ w.if-is_le.false)
    ]

pub loop-last-smaller-then-is_ge : goal.loop-last-smaller-then-is_ge
loop-last-smaller-then-is_ge c = clears_less _ _ _ _ _ _ _ _ _ c.loop-last.invariant _ c.none_above.ensures
    c.if-not-none_above.false _ c.turn.ensures _ c.in-Some.is _ _ (first-moved (goal.at.loop-last-smaller-then-is_ge c).After-is_ge)
    (step_on _ _ _ _ _ (sym c.is_ge.ensures ∙ c.if-is_ge.true) c.step-y.ensures)

pub loop-last-preserved-then-is_ge : goal.loop-last-preserved-then-is_ge
loop-last-preserved-then-is_ge c = clears_on _ _ _ _ _ _ _ _ _ c.loop-last.invariant _ c.none_above.ensures
    c.if-not-none_above.false _ c.turn.ensures _ c.in-Some.is _ _ (first-moved (goal.at.loop-last-preserved-then-is_ge c).After-is_ge)
    (step_on _ _ _ _ _ (sym c.is_ge.ensures ∙ c.if-is_ge.true) c.step-y.ensures)

pub loop-last-smaller : goal.loop-last-smaller
loop-last-smaller c = clears_less _ _ _ _ _ _ _ _ _ c.loop-last.invariant _ c.none_above.ensures
    c.if-not-none_above.false _ c.turn.ensures _ c.in-Some.is _ _ (first-moved (goal.at.loop-last-smaller c).After-is_ge)
    (step_stays _ _ _ _ (sym c.is_ge.ensures ∙ c.if-is_ge.false))

pub loop-last-preserved : goal.loop-last-preserved
loop-last-preserved c = clears_on _ _ _ _ _ _ _ _ _ c.loop-last.invariant _ c.none_above.ensures
    c.if-not-none_above.false _ c.turn.ensures _ c.in-Some.is _ _ (first-moved (goal.at.loop-last-preserved c).After-is_ge)
    (step_stays _ _ _ _ (sym c.is_ge.ensures ∙ c.if-is_ge.false))
