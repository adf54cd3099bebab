-- `records::rises` meets its contract: an item above the last one is at least the one after it.
use Rattle.std.proofs.Common.{◌∙◌, arith}
use Rattle.codec.specs.Ids.{InWords}
use Rattle.codec.proofs.Ids.{item_lt}
use Rattle.records.proofs.Shape.{rises_above, rises_first}
use Rattle.records.proofs.rises.Goals as goal

pub returns-in-Some : goal.returns-in-Some
returns-in-Some c =
    let i : InWords c.args.i = record { high = omega arith; middle = omega arith; low = omega arith } in
    let l : InWords c.in-Some.l = record { high = omega arith; middle = omega arith; low = omega arith } in
    rises_above _ _ _ c.in-Some.is _ (c.lt.ensures ∙ item_lt _ _ l i)

pub returns-in-None : goal.returns-in-None
returns-in-None c = rises_first _ _ c.in-None.is
