-- `writer::write_cell` meets its contract: no element where the tick is 0.
use Rattle.writer.proofs.Laying.{cell_none, cell_some, none_after, some_after}
use Rattle.writer.proofs.write_cell.Goals as goal

pub returns-then-tick-eq0 : goal.returns-then-tick-eq0
returns-then-tick-eq0 c = (
  cell_none _ _ _ _ _ _ _ c.tick-tick.ensures c.if-tick-eq0.true,
  none_after _ _ _ _ _ c.tick-tick.ensures c.if-tick-eq0.true,
)

pub returns : goal.returns
returns c = (
  cell_some _ _ _ _ _ _ _ c.tick-tick.ensures _ _ c.if-tick-eq0.false c.write_element.ensures,
  some_after _ _ _ _ _ c.tick-tick.ensures c.if-tick-eq0.false,
)
