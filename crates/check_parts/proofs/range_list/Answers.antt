-- `check_parts::range_list` meets its contract: the count and its limits, then as many parts.
use Rattle.std.proofs.Common.{refl}
use Rattle.layout.specs.Got.{got_of}
use Rattle.layout.specs.Knowledge.{before_ranges}
use Rattle.layout.specs.Read.{fields}
use Rattle.check_fields.proofs.Steps.{passed, limited}
use Rattle.check_parts.proofs.Lists.{limited_inside, range_list_fault, range_list_on}
use Rattle.check_parts.proofs.range_list.Goals as goal

pub returns-in_err-g : goal.returns-in_err-g
unfolding got_of
returns-in_err-g c =
    passed _ _ c.from_residual.ensures.1 _
    (range_list_fault _ _ _ _ _ _ c.count_of_ranges.ensures (limited _ _ _ _ c.in_err-g.ensures) _ refl)

pub ranges-requires : goal.ranges-requires
unfolding got_of
ranges-requires c = let a = c.args in
    limited_inside a.s.now 4 _ _ (fields a.s.now before_ranges 0 a.at) _ _ c.count_of_ranges.ensures (limited _ _ _ _ c.in_ok-g.ensures) _ _ refl

pub returns : goal.returns
unfolding got_of
returns c =
    range_list_on _ _ _ _ _ _ c.count_of_ranges.ensures (limited _ _ _ _ c.in_ok-g.ensures) _ _ refl _ c.ranges-2.ensures
