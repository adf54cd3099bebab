-- `cover::covers` meets its contract: both are laid out, or the answer is yes.
use Rattle.lacking.proofs.Walking.{laid_parts}
use Rattle.cover.proofs.Steps.{covers_first, covers_second, covers_whole}
use Rattle.cover.proofs.covers.Goals as goal
use Rattle.cover.proofs.covers.Goals.{else-laid_out-via-then-laid_out+else-laid_out-2, else-laid_out-via-else-laid_out}

pub search-requires : goal.search-requires
search-requires c = (
  laid_parts _ _ _ _ c.laid_out.ensures c.if-laid_out.true,
  laid_parts _ _ _ _ c.laid_out-then-laid_out.ensures c.if-laid_out-2.true,
)

pub returns-then-laid_out-2 : goal.returns-then-laid_out-2
returns-then-laid_out-2 c = covers_whole _ _ _ _ _ _ _ _ _ c.laid_out.ensures c.if-laid_out.true _
    c.laid_out-then-laid_out.ensures _ c.if-laid_out-2.true c.search.ensures

pub returns : goal.returns
returns c =
    elim c.else-laid_out.branch [
      | else-laid_out-via-then-laid_out+else-laid_out-2 w ↦
          covers_second _ _ _ _ _ _ _ _ _ c.laid_out.ensures w.if-laid_out.true _ w.laid_out-then-laid_out.ensures w.if-laid_out-2.false
      | else-laid_out-via-else-laid_out w ↦ covers_first _ _ _ _ _ _ _ _ _ c.laid_out.ensures w.if-laid_out.false
    ]
