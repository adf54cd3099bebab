-- `filling::filled_two` meets its contract: columns for the replicas of both maps, rows at the bounds of both, and the rows raised twice.
use native.Mathlib.Omega.{arith}
use mathlib.Core.Path.{refl}
use Rattle.sampling.proofs.Tables.{two_put}
use Rattle.filling.proofs.filled_two.Goals as goal

pub slice_bounds-add_ids-end : goal.slice_bounds-add_ids-end
slice_bounds-add_ids-end c = refl

pub add_ids-first-requires : goal.add_ids-first-requires
add_ids-first-requires c = let f = c.requires.0 in
    (f.map, omega (arith, f.small), omega (arith, f.id_words), omega (arith, f.small))

pub slice_bounds-add_ids-end-2 : goal.slice_bounds-add_ids-end-2
slice_bounds-add_ids-end-2 c = refl

pub add_ids-columns-requires : goal.add_ids-columns-requires
add_ids-columns-requires c = let f = c.requires.0 in
    let g = c.requires.1 in
    let x = c.add_ids-first.ensures in
    (g.map, omega (arith, g.small), omega (arith, g.id_words, x.1, x.2), omega (arith, f.small, g.small, x.1))

pub returns : goal.returns
returns c = two_put _ _ _ _ _ _ _ _ _ c.add_ids-first.ensures.0 _ _ _ _ _ _ _ _ c.add_ids-columns.ensures.0
    c.all_stops-rows.ensures.0 c.all_stops-rows.ensures.1
    c.all_stops-rows.ensures.2 c.requires.0 c.requires.1 _ _ c.fill.ensures
    c.fill-2.ensures
