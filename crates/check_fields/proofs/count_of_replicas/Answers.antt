-- `check_fields::count_of_replicas` meets its contract. Where each word has its value, each field has its own; else the run is read field by field.
use Rattle.std.proofs.Common.{arith}
use Rattle.layout.specs.Got.{got_of}
use Rattle.layout.specs.Knowledge.{opening}
use Rattle.check_fields.specs.Method.{field_of, fields_of}
use Rattle.check_fields.proofs.Known.{opened, byte_there}
use Rattle.check_fields.proofs.count_of_replicas.Goals as goal

pub returns-then-s-lt-IDS_PLACE : goal.returns-then-s-lt-IDS_PLACE
unfolding opening field_of fields_of
returns-then-s-lt-IDS_PLACE c = c.run_and_count.ensures

pub returns-then-a-ne21474836480 : goal.returns-then-a-ne21474836480
unfolding opening field_of fields_of
returns-then-a-ne21474836480 c = c.run_and_count-then-a-ne21474836480.ensures

pub returns : goal.returns
unfolding got_of
returns c =
    opened c.args.s.now _ _ _ _ _ _ (record { below = λ i. omega (arith, c.type_inv.s i) }) (omega arith)
    c.read-a.ensures.value c.if-a-ne21474836480.false c.read-b.ensures.value c.if-b-ne4294967296.false
    c.read-c.ensures.value c.if-c-ne5.false c.read-d.ensures.value c.if-d-ne4096.false c.read-e.ensures.value c.if-e-ne0.false
    (byte_there c.args.s.now 26 (omega arith))
