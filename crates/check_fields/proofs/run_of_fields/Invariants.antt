-- `check_fields::run_of_fields` meets its contract. The loop's invariant: the whole answer is the answer from here on.
use Rattle.std.proofs.Common.{◌≡◌, drop}
use Rattle.layout.specs.Read.{fields}
use Rattle.check_fields.specs.Method.{fields_of}
use Rattle.check_fields.proofs.run_of_fields.Given as goal

abbrev pub invariant-loop-f : goal.invariant-loop-f
invariant-loop-f l = fields l.s (fields_of l.list) 0 l.start ≡ fields l.s (fields_of (drop l.f-index l.list)) l.x.number l.x.next
