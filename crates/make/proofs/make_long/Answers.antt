-- `make::make_long` meets its contract: needed has room in scratch for the longest knowledge, so it is given, or refused with 11 or 12.
use native.Mathlib.Omega.{arith}
use Rattle.std.proofs.lemmas.Result.{err_from_is_err_and}
use Rattle.codec.specs.Answer.{answer_of}
use Rattle.codec.proofs.Writing.{zeros-length}
use Rattle.make.proofs.Batches.{longest_knowledge, needed_inside, needed_counted, needed_given, needed_refused_long}
use Rattle.make.proofs.make_long.Goals as goal

pub slice_bounds-long-end : goal.slice_bounds-long-end
unfolding answer_of
slice_bounds-long-end c = let a = c.args in
    omega (
      arith,
      zeros-length longest_knowledge,
      needed_inside a.store.now a.mine.now a.knowledge.now a.w c.requires _ _ _ c.in_ok-n.ensures,
    )

pub slice_bounds-make_learned-end : goal.slice_bounds-make_learned-end
unfolding answer_of
slice_bounds-make_learned-end c = let a = c.args in
    needed_counted a.store.now a.mine.now a.knowledge.now a.w c.requires _ _ _ c.in_ok-n.ensures

pub make_learned-requires : goal.make_learned-requires
unfolding answer_of
make_learned-requires c = let a = c.args in (
  c.requires,
  needed_given a.store.now a.mine.now a.knowledge.now a.w c.requires _ _ _ c.in_ok-n.ensures,
)

pub returns-in_err-n : goal.returns-in_err-n
unfolding answer_of
returns-in_err-n c = let a = c.args in
    let p = err_from_is_err_and c.from_residual.result c.from_residual.ensures.1 in
    rw (p.1, p.2)
    (needed_refused_long a.store.now a.mine.now a.knowledge.now a.w c.requires _ _ _ c.in_err-n.ensures
    a.out.now (omega (arith, zeros-length longest_knowledge)))
