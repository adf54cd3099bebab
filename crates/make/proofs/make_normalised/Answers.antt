-- `make::make_normalised` meets its contract: needed is given in short scratch, or refused there with 11 or 12, or it is left to the long scratch.
use Rattle.std.proofs.Common.{arith, rules}
use Rattle.codec.specs.Answer.{answer_of}
use Rattle.codec.proofs.Writing.{zeros-length}
use Rattle.make.proofs.Short.{not_short}
use Rattle.make.proofs.Batches.{left_written, left_refused, needed_inside, needed_counted, needed_given, needed_refused}
use Rattle.make.proofs.make_normalised.Goals as goal

pub slice_bounds-short-end : goal.slice_bounds-short-end
slice_bounds-short-end c = let a = c.args in
    omega (
      arith,
      zeros-length 1024,
      needed_inside a.store.now a.mine.now a.knowledge.now a.w c.requires _ _ _
          (left_written _ _ _ c.normalise_by_table.ensures _ c.in-Ok.is),
    )

pub slice_bounds-make_learned-end : goal.slice_bounds-make_learned-end
slice_bounds-make_learned-end c = let a = c.args in
    needed_counted a.store.now a.mine.now a.knowledge.now a.w c.requires _ _ _
    (left_written _ _ _ c.normalise_by_table.ensures _ c.in-Ok.is)

pub make_learned-requires : goal.make_learned-requires
make_learned-requires c = let a = c.args in (
  c.requires,
  needed_given a.store.now a.mine.now a.knowledge.now a.w c.requires _ _ _
      (left_written _ _ _ c.normalise_by_table.ensures _ c.in-Ok.is),
)

pub returns-in_default : goal.returns-in_default
unfolding answer_of
returns-in_default c = let a = c.args in
    needed_refused a.store.now a.mine.now a.knowledge.now a.w c.requires _ _ _
    (left_refused _ _ _ c.normalise_by_table.ensures _ c.in-Err.is) a.out.now (not_short _ (search rules))
