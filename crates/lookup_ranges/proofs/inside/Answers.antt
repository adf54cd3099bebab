-- `lookup_ranges::inside` meets its contract: the test of each range's number.
use Rattle.std.proofs.Common.{rules, refl, ◌∙◌, arith}
use Rattle.std.proofs.lemmas.Iterator.{YieldsList-from_range}
use Rattle.std.proofs.lemmas.Iterator.Search.{all_from_yields_List}
use Rattle.lookup_ranges.proofs.Outside.{inside_there, inside_all}
use Rattle.lookup_ranges.proofs.inside.Goals as goal

pub returns : goal.returns
returns c =
    inside_there _ c.args.v.start _ _ _ (c.beyond.ensures.1 c.if-beyond.false)
    (all_from_yields_List _ _ _ _ c.all.ensures.ran (YieldsList-from_range 0 c.args.v.start.left c.args.v.start.left refl (omega arith)) (λ x b q k. search rules)
    ∙ inside_all _ _ _ _ _)
