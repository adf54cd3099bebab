-- `check_fields::vector_by_fields` meets its contract: the count, then as many elements.
use Rattle.std.proofs.Common.{refl}
use Rattle.layout.specs.Got.{got_of}
use Rattle.check_fields.proofs.Steps.{passed, limited}
use Rattle.check_fields.proofs.Vector.{vector_count_fault, vector_start, vector_alone}
use Rattle.check_fields.proofs.vector_by_fields.Goals as goal

pub returns-in_err-n : goal.returns-in_err-n
unfolding got_of
returns-in_err-n c = let a = c.args in
    passed _ _ c.from_residual.ensures.1 _
    (vector_count_fault a.s.now a.r 0 a.at _ _ c.count_of_elements.ensures (limited _ _ _ _ c.in_err-n.ensures) _ refl)

pub elements-requires : goal.elements-requires
unfolding got_of
elements-requires c = let a = c.args in
    (vector_start a.s.now a.r 0 a.at _ _ c.count_of_elements.ensures (limited _ _ _ _ c.in_ok-n.ensures) _ _ refl).inside

pub returns : goal.returns
unfolding got_of
returns c = let a = c.args in
    vector_alone a.s.now a.r 0 a.at _ _ c.count_of_elements.ensures (limited _ _ _ _ c.in_ok-n.ensures) _ _ refl _ c.elements.ensures refl
