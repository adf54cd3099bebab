-- `stopping::last_row` meets its contract: nothing follows the top item, and after any other one there is a row more.
use native.Mathlib.Omega.{arith}
use mathlib.Core.Path.{refl, ◌∙◌}
use Rattle.codec.proofs.Ids.{item_eq}
use Rattle.sampling.proofs.Span.{below_top, last_none, last_more}
use Rattle.stopping.proofs.last_row.Goals as goal

pub returns-then-eq : goal.returns-then-eq
returns-then-eq c = (last_none _ _ _ _ (c.eq.ensures ∙ item_eq _ _ (record { high = omega arith; middle = omega arith; low = omega arith }) (record { high = omega arith; middle = omega arith; low = omega arith })) c.if-eq.true, refl)

pub after_item-next-requires : goal.after_item-next-requires
after_item-next-requires c = below_top c.args.last _ (c.eq.ensures ∙ item_eq _ _ (record { high = omega arith; middle = omega arith; low = omega arith }) (record { high = omega arith; middle = omega arith; low = omega arith })) c.if-eq.false
    (record { high = omega arith; middle = omega arith; low = omega arith })

pub returns : goal.returns
returns c = (
  last_more _ _ _ _ (c.eq.ensures ∙ item_eq _ _ (record { high = omega arith; middle = omega arith; low = omega arith }) (record { high = omega arith; middle = omega arith; low = omega arith })) c.if-eq.false _ _ c.after_item-next.ensures
      c.put_bound.ensures.0,
  omega arith,
)
