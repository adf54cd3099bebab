-- `records_join::length_from` meets its contract: an address is a place of the first bytes or of the second.
use mathlib.Core.Path.{sym, ◌∙◌}
use native.Mathlib.Omega.{arith}
use Rattle.replication.specs.Queries.{length_at}
use Rattle.records_join.proofs.Addresses.{at_first, at_later}
use Rattle.records_join.proofs.length_from.Goals as goal

pub returns-then-x-s : goal.returns-then-x-s
returns-then-x-s c = c.length_at.ensures ∙ sym (at_first length_at _ _ _ c.if-x-s.true)

pub returns : goal.returns
returns c = c.length_at-2.ensures ∙ sym (at_later length_at _ _ _ (omega arith))
