-- `filling::filled_one` meets its contract: columns for the replicas, rows at the bounds, and the rows raised.
use native.Mathlib.Omega.{arith}
use mathlib.Core.Path.{refl, ap, ◌∙◌}
use lib.ListN.{length}
use Rattle.sampling.proofs.Tables.{in_length, one_put}
use Rattle.filling.proofs.filled_one.Goals as goal

pub slice_bounds-add_ids-end : goal.slice_bounds-add_ids-end
slice_bounds-add_ids-end c = refl

pub add_ids-columns-requires : goal.add_ids-columns-requires
add_ids-columns-requires c = let f = c.requires in
    (f.map, omega (arith, f.small), omega (arith, f.id_words), omega (arith, f.small))

pub returns : goal.returns
returns c = let x = c.add_ids-columns.ensures in
    let y = c.all_stops-rows.ensures in (
      one_put _ _ _ _ _ _ _ _ _ x.0 _ _ y.0 y.1 y.2 c.requires _ c.fill.ensures,
      omega (arith, x.1),
      omega (arith, y.1),
      x.2,
      ap length c.fill.ensures ∙ in_length _ _ _ _ _ _ _ _,
    )
