-- `check_fields::closing_fields` meets its contract. Where each word has its value, each field has its own; else the run is read field by field.
use Rattle.std.proofs.Common.{◌∙◌, ◌+◌, ◌≤◌, length, arith}
use Rattle.layout.specs.Got.{got_of}
use Rattle.layout.specs.Knowledge.{closing}
use Rattle.check_fields.specs.Method.{field_of, fields_of}
use Rattle.check_fields.proofs.Known.{closed, inside_read, inside_first, inside_byte}
use Rattle.check_fields.proofs.closing_fields.Goals as goal

pub returns-then-beyond : goal.returns-then-beyond
unfolding closing field_of fields_of
returns-then-beyond c = c.run_of_fields.ensures

pub returns-then-a-ne25 : goal.returns-then-a-ne25
unfolding closing field_of fields_of
returns-then-a-ne25 c = c.run_of_fields-then-a-ne25.ensures

pub returns : goal.returns
unfolding got_of
returns c =
    let h : c.args.at + 13 ≤ length c.args.s.now = c.beyond.ensures.1 c.if-beyond.false in
    closed c.args.s.now c.args.at _ _ _ (record { below = λ i. omega (arith, c.type_inv.s i) }) h
    (c.read-a.ensures.value ∙ inside_first c.args.s.now c.args.at 13 h 8 (omega arith)) c.if-a-ne25.false
    (inside_byte c.args.s.now c.args.at 13 h 8 (omega arith)) c.if-w-ne1.false
    (c.read-b.ensures.value ∙ inside_read c.args.s.now c.args.at 13 h 4 9 (omega arith)) c.if-b-ne0.false
