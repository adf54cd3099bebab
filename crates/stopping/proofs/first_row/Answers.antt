-- `stopping::first_row` meets its contract: row 1 is at the first item of all.
use native.Mathlib.Omega.{arith}
use mathlib.Core.Path.{◌∙◌}
use Rattle.codec.proofs.Ids.{item_eq}
use Rattle.sampling.proofs.Span.{first_at_once, first_after_one}
use Rattle.stopping.proofs.first_row.Goals as goal

pub returns-then-eq : goal.returns-then-eq
returns-then-eq c = (first_at_once _ _ _ _ c.put_bound.ensures.0 (c.eq.ensures ∙ item_eq _ _ (record { high = omega arith; middle = omega arith; low = omega arith }) (record { high = omega arith; middle = omega arith; low = omega arith })) c.if-eq.true, omega arith, omega arith, omega arith)

pub returns : goal.returns
returns c = (first_after_one _ _ _ _ c.put_bound.ensures.0 (c.eq.ensures ∙ item_eq _ _ (record { high = omega arith; middle = omega arith; low = omega arith }) (record { high = omega arith; middle = omega arith; low = omega arith })) c.if-eq.false, omega arith, omega arith, omega arith)
