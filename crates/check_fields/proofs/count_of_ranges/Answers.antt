-- `check_fields::count_of_ranges` meets its contract. Where each word has its value, each field has its own; else the run is read field by field.
use Rattle.std.proofs.Common.{◌∙◌, ◌+◌, ◌≤◌, length, arith}
use Rattle.layout.specs.Got.{got_of}
use Rattle.layout.specs.Knowledge.{before_ranges}
use Rattle.check_fields.specs.Method.{field_of, fields_of}
use Rattle.check_fields.proofs.Known.{ranging, inside_read, inside_first, inside_byte}
use Rattle.check_fields.proofs.count_of_ranges.Goals as goal

pub returns-then-beyond : goal.returns-then-beyond
unfolding before_ranges field_of fields_of
returns-then-beyond c = c.run_and_count.ensures

pub returns-then-a-ne98784247809 : goal.returns-then-a-ne98784247809
unfolding before_ranges field_of fields_of
returns-then-a-ne98784247809 c = c.run_and_count-then-a-ne98784247809.ensures

pub returns : goal.returns
unfolding got_of
returns c =
    let h : c.args.at + 16 ≤ length c.args.s.now = c.beyond.ensures.1 c.if-beyond.false in
    let r = inside_read c.args.s.now c.args.at 16 h in
    ranging c.args.s.now c.args.at _ _ _ _ (record { below = λ i. omega (arith, c.type_inv.s i) }) h
    (c.read-a.ensures.value ∙ inside_first c.args.s.now c.args.at 16 h 8 (omega arith)) c.if-a-ne98784247809.false
    (c.read-b.ensures.value ∙ r 4 8 (omega arith)) c.if-b-ne22.false
    (c.read-c.ensures.value ∙ r 3 12 (omega arith)) c.if-c-ne0.false
    (inside_byte c.args.s.now c.args.at 16 h 15 (omega arith))
