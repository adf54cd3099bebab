-- `records::record_length` meets its contract: both kinds have the same length, any other number has none.
use Rattle.std.proofs.Common.{rules}
use Rattle.records.proofs.Fields.{length-first, length-second, length_none}
use Rattle.records.proofs.record_length.Goals as goal

pub returns-in-1 : goal.returns-in-1
returns-in-1 c = length-first _ c.in-1.is

pub returns-in-2 : goal.returns-in-2
returns-in-2 c = length-second _ c.in-2.is

pub returns-in_default : goal.returns-in_default
returns-in_default c = length_none _ (search rules) (search rules)
