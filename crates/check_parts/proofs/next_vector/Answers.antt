-- `check_parts::next_vector` meets its contract. A vector whose field, count and elements stand is what reading it gives; any other is read field by field.
use Rattle.std.proofs.Common.{◌+◌, ◌∙◌, sym, arith}
use Rattle.layout.specs.Got.{got_of}
use Rattle.leaves.proofs.Part.{part_there}
use Rattle.check_parts.proofs.Lists.{vector_stands}
use Rattle.check_parts.proofs.next_vector.Goals as goal

pub returns-then-elements_stand : goal.returns-then-elements_stand
unfolding got_of
returns-then-elements_stand c =
    let a = c.args in
    let f = part_there a.s.now a.at (a.at + 4) 4 (omega arith) (omega (arith, c.beyond.ensures.1 c.if-beyond.false)) in
    let n = part_there a.s.now (a.at + 4) (a.at + 8) 4 (omega arith) (omega (arith, c.beyond.ensures.1 c.if-beyond.false)) in
    vector_stands a.s.now a.r a.at _ (c.beyond.ensures.1 c.if-beyond.false)
    (sym (c.first-field.ensures.0 ∙ f) ∙ c.if-field-eq1.true) (c.first-n.ensures.0 ∙ n)
    c.if-n-r.true (c.elements_stand.ensures c.if-elements_stand.true)
