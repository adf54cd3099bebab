-- `store_queries::learned` meets its contract: the part told is inside, and it is what is handed out.
use Rattle.layout.specs.Knowledge.{base}
use Rattle.store_queries.proofs.Parts.{handed_as}
use Rattle.store_queries.proofs.Handed.{learned_inside}
use Rattle.store_queries.proofs.learned.Goals as goal

pub part_of-requires : goal.part_of-requires
part_of-requires c = learned_inside base _ _ c.learned_part-p.ensures

pub returns-clause-part : goal.returns-clause-part
returns-clause-part c = (handed_as _ _ c.learned_part-p.ensures _ _ _ _ (c.part_of.ensures.part, (c.part_of.ensures.place, c.part_of.ensures.number))).0

pub returns-clause-place : goal.returns-clause-place
returns-clause-place c = (handed_as _ _ c.learned_part-p.ensures _ _ _ _ (c.part_of.ensures.part, (c.part_of.ensures.place, c.part_of.ensures.number))).1.0

pub returns-clause-number : goal.returns-clause-number
returns-clause-number c = (handed_as _ _ c.learned_part-p.ensures _ _ _ _ (c.part_of.ensures.part, (c.part_of.ensures.place, c.part_of.ensures.number))).1.1
