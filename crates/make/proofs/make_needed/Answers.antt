-- `make::make_needed` meets its contract: the given knowledge is needed where it is in normal form, and else its normal form.
use Rattle.make.proofs.Batches.{needed_normal_lem}
use Rattle.make.proofs.make_needed.Goals as goal

pub make_learned-requires : goal.make_learned-requires
make_learned-requires c = let a = c.args in (
  c.requires,
  needed_normal_lem a.store.now a.mine.now a.knowledge.now a.w c.requires _ c.normal_opened.ensures c.if-normal_opened.true,
)
