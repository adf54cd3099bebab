-- The contracts of the exported functions, and of the functions here, taken as hypotheses by the places of their parameters: each asks nothing
-- of what it is given, and tells for any arguments the number, the values behind the pointers and the buffer that are stated here once more.
-- So a C function whose contract was changed along with it, its arguments exchanged or its inputs narrowed, is refused here.
use mathlib.Core.Path.{◌≡◌}
use contract.Lifetimes.{Lfts}
use denote.Triple.Clauses.{AtExit}
use borrow.Fn.Kinds.{Dens, res_t, ended_of}
use borrow.Author.Rules.{rules}
use lib.ListN.{length}
use Rattle.codec.specs.Reply.{answer}
use Rattle.layout.specs.Knowledge.{basic, base}
use Rattle.layout.specs.Parse.{checked_by}
use Rattle.layout.specs.Answer.{checked_number, checked_sizes}
use Rattle.ticks.specs.Calls.{contain_number, contain_value, contain_answer, lead_number, lead_value, lead_answer}
use Rattle.ticks.specs.Calls.{cover_number, cover_value, cover_answer, normalise_reply, merge_reply, project_reply}
use Rattle.ticks.specs.Compare.{compare_reply, order_value}
use Rattle.replication.specs.Call.{brings}
use Rattle.replication.specs.Calls.{new_reply, edit_reply, delete_reply, make_reply, apply_reply}
use Rattle.replication.specs.Queries.{part_number, part_side, part_at_place, part_length, winner_part, learned_part, knowledge_part, length_at}
use Rattle.replication.specs.Queries.{coverage_number, coverage_contained, coverage_all, coverage_thousandths, coverage_answer}
use Rattle.joined.specs.Step.{Called, NewStep, EditStep, DeleteStep, MakeStep, ApplyStep}
use Rattle.collector.proofs.sync_check.Kinds as check-kinds
use Rattle.collector.proofs.sync_check.Reads as check-reads
use Rattle.collector.proofs.sync_contain.Kinds as contain-kinds
use Rattle.collector.proofs.sync_contain.Reads as contain-reads
use Rattle.collector.proofs.sync_lead.Kinds as lead-kinds
use Rattle.collector.proofs.sync_lead.Reads as lead-reads
use Rattle.collector.proofs.sync_cover.Kinds as cover-kinds
use Rattle.collector.proofs.sync_cover.Reads as cover-reads
use Rattle.collector.proofs.sync_normalise.Kinds as normalise-kinds
use Rattle.collector.proofs.sync_normalise.Reads as normalise-reads
use Rattle.collector.proofs.sync_merge.Kinds as merge-kinds
use Rattle.collector.proofs.sync_merge.Reads as merge-reads
use Rattle.collector.proofs.sync_project.Kinds as project-kinds
use Rattle.collector.proofs.sync_project.Reads as project-reads
use Rattle.collector.proofs.sync_compare.Kinds as compare-kinds
use Rattle.collector.proofs.sync_compare.Reads as compare-reads
use Rattle.collector.proofs.sync_new.Kinds as new-kinds
use Rattle.collector.proofs.sync_new.Reads as new-reads
use Rattle.collector.proofs.sync_edit.Kinds as edit-kinds
use Rattle.collector.proofs.sync_edit.Reads as edit-reads
use Rattle.collector.proofs.sync_delete.Kinds as delete-kinds
use Rattle.collector.proofs.sync_delete.Reads as delete-reads
use Rattle.collector.proofs.sync_make.Kinds as make-kinds
use Rattle.collector.proofs.sync_make.Reads as make-reads
use Rattle.collector.proofs.sync_apply.Kinds as apply-kinds
use Rattle.collector.proofs.sync_apply.Reads as apply-reads
use Rattle.collector.proofs.sync_winner.Kinds as winner-kinds
use Rattle.collector.proofs.sync_winner.Reads as winner-reads
use Rattle.collector.proofs.sync_learned.Kinds as learned-kinds
use Rattle.collector.proofs.sync_learned.Reads as learned-reads
use Rattle.collector.proofs.sync_knowledge.Kinds as knowledge-kinds
use Rattle.collector.proofs.sync_knowledge.Reads as knowledge-reads
use Rattle.collector.proofs.sync_coverage.Kinds as coverage-kinds
use Rattle.collector.proofs.sync_coverage.Reads as coverage-reads
use Rattle.collector.proofs.sync_walk.Kinds as walk-kinds
use Rattle.collector.proofs.sync_walk.Reads as walk-reads
use Rattle.joined.proofs.new_step.Kinds as new-step-kinds
use Rattle.joined.proofs.new_step.Reads as new-step-reads
use Rattle.joined.proofs.edit_step.Kinds as edit-step-kinds
use Rattle.joined.proofs.edit_step.Reads as edit-step-reads
use Rattle.joined.proofs.delete_step.Kinds as delete-step-kinds
use Rattle.joined.proofs.delete_step.Reads as delete-step-reads
use Rattle.joined.proofs.make_step.Kinds as make-step-kinds
use Rattle.joined.proofs.make_step.Reads as make-step-reads
use Rattle.joined.proofs.apply_step.Kinds as apply-step-kinds
use Rattle.joined.proofs.apply_step.Reads as apply-step-reads

-- sync_check(knowledge, sizes)
pub check_asks : (κs : Lfts 2) (a : Dens κs check-kinds.ps) → check-reads.Asked κs a
check_asks κs a = search rules

pub check_told : (κs : Lfts 2) (a : Dens κs check-kinds.ps) (r : (res_t check-kinds.r κs).Denot)
    (s : AtExit (ended_of 2 check-kinds.ps check-kinds.r) κs) → check-reads.Learnt κs a r s
    → (r ≡ checked_number (checked_by basic a.0.now))
    × (s.1.0.now ≡ checked_sizes (checked_by basic a.0.now) a.1.0.now)
check_told κs a r s h = (h.0, h.1)

-- sync_contain(knowledge, item, replica, tick, contained)
pub contain_asks : (κs : Lfts 4) (a : Dens κs contain-kinds.ps) → contain-reads.Asked κs a
contain_asks κs a = search rules

pub contain_told : (κs : Lfts 4) (a : Dens κs contain-kinds.ps) (r : (res_t contain-kinds.r κs).Denot)
    (s : AtExit (ended_of 4 contain-kinds.ps contain-kinds.r) κs) → contain-reads.Learnt κs a r s
    → (r ≡ contain_number (contain_answer basic a.0.now a.1.0.now a.1.1.0.now a.1.1.1.0))
    × (s.1.1.1.1.0.now ≡ contain_value (contain_answer basic a.0.now a.1.0.now a.1.1.0.now a.1.1.1.0) a.1.1.1.1.0.now)
contain_told κs a r s h = (h.0, h.1)

-- sync_lead(first, second, item, replica, lead)
pub lead_asks : (κs : Lfts 5) (a : Dens κs lead-kinds.ps) → lead-reads.Asked κs a
lead_asks κs a = search rules

pub lead_told : (κs : Lfts 5) (a : Dens κs lead-kinds.ps) (r : (res_t lead-kinds.r κs).Denot)
    (s : AtExit (ended_of 5 lead-kinds.ps lead-kinds.r) κs) → lead-reads.Learnt κs a r s
    → (r ≡ lead_number (lead_answer basic a.0.now a.1.0.now a.1.1.0.now a.1.1.1.0.now))
    × (s.1.1.1.1.0.now ≡ lead_value (lead_answer basic a.0.now a.1.0.now a.1.1.0.now a.1.1.1.0.now) a.1.1.1.1.0.now)
lead_told κs a r s h = (h.0, h.1)

-- sync_cover(knowledge, other, first, last, covers)
pub cover_asks : (κs : Lfts 5) (a : Dens κs cover-kinds.ps) → cover-reads.Asked κs a
cover_asks κs a = search rules

pub cover_told : (κs : Lfts 5) (a : Dens κs cover-kinds.ps) (r : (res_t cover-kinds.r κs).Denot)
    (s : AtExit (ended_of 5 cover-kinds.ps cover-kinds.r) κs) → cover-reads.Learnt κs a r s
    → (r ≡ cover_number (cover_answer basic a.0.now a.1.0.now a.1.1.0.now a.1.1.1.0.now))
    × (s.1.1.1.1.0.now ≡ cover_value (cover_answer basic a.0.now a.1.0.now a.1.1.0.now a.1.1.1.0.now) a.1.1.1.1.0.now)
cover_told κs a r s h = (h.0, h.1)

-- sync_normalise(knowledge, out, written)
pub normalise_asks : (κs : Lfts 3) (a : Dens κs normalise-kinds.ps) → normalise-reads.Asked κs a
normalise_asks κs a = search rules

pub normalise_told : (κs : Lfts 3) (a : Dens κs normalise-kinds.ps) (r : (res_t normalise-kinds.r κs).Denot)
    (s : AtExit (ended_of 3 normalise-kinds.ps normalise-kinds.r) κs) → normalise-reads.Learnt κs a r s
    → Called (normalise_reply basic a.0.now)
    r a.1.1.0.now s.1.1.0.now a.1.0.now s.1.0.now
normalise_told κs a r s h = record { returned = h.0; told = h.1.0; buffer = h.1.1 }

-- sync_merge(first, second, out, written)
pub merge_asks : (κs : Lfts 4) (a : Dens κs merge-kinds.ps) → merge-reads.Asked κs a
merge_asks κs a = search rules

pub merge_told : (κs : Lfts 4) (a : Dens κs merge-kinds.ps) (r : (res_t merge-kinds.r κs).Denot)
    (s : AtExit (ended_of 4 merge-kinds.ps merge-kinds.r) κs) → merge-reads.Learnt κs a r s
    → Called (merge_reply basic a.0.now a.1.0.now)
    r a.1.1.1.0.now s.1.1.1.0.now a.1.1.0.now s.1.1.0.now
merge_told κs a r s h = record { returned = h.0; told = h.1.0; buffer = h.1.1 }

-- sync_project(knowledge, first, last, out, written)
pub project_asks : (κs : Lfts 5) (a : Dens κs project-kinds.ps) → project-reads.Asked κs a
project_asks κs a = search rules

pub project_told : (κs : Lfts 5) (a : Dens κs project-kinds.ps) (r : (res_t project-kinds.r κs).Denot)
    (s : AtExit (ended_of 5 project-kinds.ps project-kinds.r) κs) → project-reads.Learnt κs a r s
    → Called (project_reply basic a.0.now a.1.0.now a.1.1.0.now)
    r a.1.1.1.1.0.now s.1.1.1.1.0.now a.1.1.1.0.now s.1.1.1.0.now
project_told κs a r s h = record { returned = h.0; told = h.1.0; buffer = h.1.1 }

-- sync_compare(first, second, order, out, written)
pub compare_asks : (κs : Lfts 5) (a : Dens κs compare-kinds.ps) → compare-reads.Asked κs a
compare_asks κs a = search rules

pub compare_told : (κs : Lfts 5) (a : Dens κs compare-kinds.ps) (r : (res_t compare-kinds.r κs).Denot)
    (s : AtExit (ended_of 5 compare-kinds.ps compare-kinds.r) κs) → compare-reads.Learnt κs a r s
    → Called (compare_reply basic a.0.now a.1.0.now)
    r a.1.1.1.1.0.now s.1.1.1.1.0.now a.1.1.1.0.now s.1.1.1.0.now
    × (s.1.1.0.now ≡ order_value basic a.0.now a.1.0.now
    (answer (compare_reply basic a.0.now a.1.0.now) (length a.1.1.1.0.now)) a.1.1.0.now)
compare_told κs a r s h = (record { returned = h.0.0; told = h.0.1.0; buffer = h.0.1.1 }, h.1)

-- sync_new(own, out, written)
pub new_asks : (κs : Lfts 3) (a : Dens κs new-kinds.ps) → new-reads.Asked κs a
new_asks κs a = search rules

pub new_told : (κs : Lfts 3) (a : Dens κs new-kinds.ps) (r : (res_t new-kinds.r κs).Denot)
    (s : AtExit (ended_of 3 new-kinds.ps new-kinds.r) κs) → new-reads.Learnt κs a r s
    → Called (new_reply a.0.now)
    r a.1.1.0.now s.1.1.0.now a.1.0.now s.1.0.now
new_told κs a r s h = record { returned = h.0; told = h.1.0; buffer = h.1.1 }

-- sync_edit(store, item, tag, out, written)
pub edit_asks : (κs : Lfts 5) (a : Dens κs edit-kinds.ps) → edit-reads.Asked κs a
edit_asks κs a = search rules

pub edit_told : (κs : Lfts 5) (a : Dens κs edit-kinds.ps) (r : (res_t edit-kinds.r κs).Denot)
    (s : AtExit (ended_of 5 edit-kinds.ps edit-kinds.r) κs) → edit-reads.Learnt κs a r s
    → Called (edit_reply base a.0.now a.1.0.now (brings a.1.1.0.now))
    r a.1.1.1.1.0.now s.1.1.1.1.0.now a.1.1.1.0.now s.1.1.1.0.now
edit_told κs a r s h = record { returned = h.0; told = h.1.0; buffer = h.1.1 }

-- sync_delete(store, item, out, written)
pub delete_asks : (κs : Lfts 4) (a : Dens κs delete-kinds.ps) → delete-reads.Asked κs a
delete_asks κs a = search rules

pub delete_told : (κs : Lfts 4) (a : Dens κs delete-kinds.ps) (r : (res_t delete-kinds.r κs).Denot)
    (s : AtExit (ended_of 4 delete-kinds.ps delete-kinds.r) κs) → delete-reads.Learnt κs a r s
    → Called (delete_reply base a.0.now a.1.0.now)
    r a.1.1.1.0.now s.1.1.1.0.now a.1.1.0.now s.1.1.0.now
delete_told κs a r s h = record { returned = h.0; told = h.1.0; buffer = h.1.1 }

-- sync_make(store, knowledge, first, last, out, written)
pub make_asks : (κs : Lfts 6) (a : Dens κs make-kinds.ps) → make-reads.Asked κs a
make_asks κs a = search rules

pub make_told : (κs : Lfts 6) (a : Dens κs make-kinds.ps) (r : (res_t make-kinds.r κs).Denot)
    (s : AtExit (ended_of 6 make-kinds.ps make-kinds.r) κs) → make-reads.Learnt κs a r s
    → Called (make_reply basic a.0.now a.1.0.now a.1.1.0.now a.1.1.1.0.now)
    r a.1.1.1.1.1.0.now s.1.1.1.1.1.0.now a.1.1.1.1.0.now s.1.1.1.1.0.now
make_told κs a r s h = record { returned = h.0; told = h.1.0; buffer = h.1.1 }

-- sync_apply(store, batch, out, written)
pub apply_asks : (κs : Lfts 4) (a : Dens κs apply-kinds.ps) → apply-reads.Asked κs a
apply_asks κs a = search rules

pub apply_told : (κs : Lfts 4) (a : Dens κs apply-kinds.ps) (r : (res_t apply-kinds.r κs).Denot)
    (s : AtExit (ended_of 4 apply-kinds.ps apply-kinds.r) κs) → apply-reads.Learnt κs a r s
    → Called (apply_reply base a.0.now a.1.0.now)
    r a.1.1.1.0.now s.1.1.1.0.now a.1.1.0.now s.1.1.0.now
apply_told κs a r s h = record { returned = h.0; told = h.1.0; buffer = h.1.1 }

-- sync_winner(store, batch, item, side, at, length)
pub winner_asks : (κs : Lfts 6) (a : Dens κs winner-kinds.ps) → winner-reads.Asked κs a
winner_asks κs a = search rules

pub winner_told : (κs : Lfts 6) (a : Dens κs winner-kinds.ps) (r : (res_t winner-kinds.r κs).Denot)
    (s : AtExit (ended_of 6 winner-kinds.ps winner-kinds.r) κs) → winner-reads.Learnt κs a r s
    → (r ≡ part_number (winner_part base a.0.now a.1.0.now a.1.1.0.now))
    × ((s.1.1.1.0.now ≡ part_side (winner_part base a.0.now a.1.0.now a.1.1.0.now) a.1.1.1.0.now)
    × ((s.1.1.1.1.0.now ≡ part_at_place (winner_part base a.0.now a.1.0.now a.1.1.0.now) a.1.1.1.1.0.now)
    × (s.1.1.1.1.1.0.now ≡ part_length (winner_part base a.0.now a.1.0.now a.1.1.0.now) a.1.1.1.1.1.0.now)))
winner_told κs a r s h = (h.0, (h.1.0, (h.1.1.0, h.1.1.1)))

-- sync_learned(batch, at, length)
pub learned_asks : (κs : Lfts 3) (a : Dens κs learned-kinds.ps) → learned-reads.Asked κs a
learned_asks κs a = search rules

pub learned_told : (κs : Lfts 3) (a : Dens κs learned-kinds.ps) (r : (res_t learned-kinds.r κs).Denot)
    (s : AtExit (ended_of 3 learned-kinds.ps learned-kinds.r) κs) → learned-reads.Learnt κs a r s
    → (r ≡ part_number (learned_part base a.0.now))
    × ((s.1.0.now ≡ part_at_place (learned_part base a.0.now) a.1.0.now)
    × (s.1.1.0.now ≡ part_length (learned_part base a.0.now) a.1.1.0.now))
learned_told κs a r s h = (h.0, (h.1.0, h.1.1))

-- sync_knowledge(store, at, length)
pub knowledge_asks : (κs : Lfts 3) (a : Dens κs knowledge-kinds.ps) → knowledge-reads.Asked κs a
knowledge_asks κs a = search rules

pub knowledge_told : (κs : Lfts 3) (a : Dens κs knowledge-kinds.ps) (r : (res_t knowledge-kinds.r κs).Denot)
    (s : AtExit (ended_of 3 knowledge-kinds.ps knowledge-kinds.r) κs) → knowledge-reads.Learnt κs a r s
    → (r ≡ part_number (knowledge_part base a.0.now))
    × ((s.1.0.now ≡ part_at_place (knowledge_part base a.0.now) a.1.0.now)
    × (s.1.1.0.now ≡ part_length (knowledge_part base a.0.now) a.1.1.0.now))
knowledge_told κs a r s h = (h.0, (h.1.0, h.1.1))

-- sync_coverage(store, knowledge, contained, all, thousandths)
pub coverage_asks : (κs : Lfts 5) (a : Dens κs coverage-kinds.ps) → coverage-reads.Asked κs a
coverage_asks κs a = search rules

pub coverage_told : (κs : Lfts 5) (a : Dens κs coverage-kinds.ps) (r : (res_t coverage-kinds.r κs).Denot)
    (s : AtExit (ended_of 5 coverage-kinds.ps coverage-kinds.r) κs) → coverage-reads.Learnt κs a r s
    → (r ≡ coverage_number (coverage_answer basic a.0.now a.1.0.now))
    × ((s.1.1.0.now ≡ coverage_contained (coverage_answer basic a.0.now a.1.0.now) a.1.1.0.now)
    × ((s.1.1.1.0.now ≡ coverage_all (coverage_answer basic a.0.now a.1.0.now) a.1.1.1.0.now)
    × (s.1.1.1.1.0.now ≡ coverage_thousandths (coverage_answer basic a.0.now a.1.0.now) a.1.1.1.1.0.now)))
coverage_told κs a r s h = (h.0, (h.1.0, (h.1.1.0, h.1.1.1)))

-- sync_walk(table, at, length)
pub walk_asks : (κs : Lfts 2) (a : Dens κs walk-kinds.ps) → walk-reads.Asked κs a
walk_asks κs a = search rules

pub walk_told : (κs : Lfts 2) (a : Dens κs walk-kinds.ps) (r : (res_t walk-kinds.r κs).Denot)
    (s : AtExit (ended_of 2 walk-kinds.ps walk-kinds.r) κs) → walk-reads.Learnt κs a r s
    → (r ≡ 0) × (s.1.1.0.now ≡ length_at a.0.now a.1.0)
walk_told κs a r s h = (h.0, h.1)

-- ---- the functions here

-- new_step(own, out, written)
pub new_step_asks : (κs : Lfts 3) (a : Dens κs new-step-kinds.ps) → new-step-reads.Asked κs a
new_step_asks κs a = search rules

pub new_step_told : (κs : Lfts 3) (a : Dens κs new-step-kinds.ps) (r : (res_t new-step-kinds.r κs).Denot)
    (s : AtExit (ended_of 3 new-step-kinds.ps new-step-kinds.r) κs) → new-step-reads.Learnt κs a r s
    → NewStep a.0.now
    r a.1.1.0.now s.1.1.0.now a.1.0.now s.1.0.now
new_step_told κs a r s h = h

-- edit_step(store, item, tag, out, written)
pub edit_step_asks : (κs : Lfts 5) (a : Dens κs edit-step-kinds.ps) → edit-step-reads.Asked κs a
edit_step_asks κs a = search rules

pub edit_step_told : (κs : Lfts 5) (a : Dens κs edit-step-kinds.ps) (r : (res_t edit-step-kinds.r κs).Denot)
    (s : AtExit (ended_of 5 edit-step-kinds.ps edit-step-kinds.r) κs) → edit-step-reads.Learnt κs a r s
    → EditStep a.0.now a.1.0.now a.1.1.0.now
    r a.1.1.1.1.0.now s.1.1.1.1.0.now a.1.1.1.0.now s.1.1.1.0.now
edit_step_told κs a r s h = h

-- delete_step(store, item, out, written)
pub delete_step_asks : (κs : Lfts 4) (a : Dens κs delete-step-kinds.ps) → delete-step-reads.Asked κs a
delete_step_asks κs a = search rules

pub delete_step_told : (κs : Lfts 4) (a : Dens κs delete-step-kinds.ps) (r : (res_t delete-step-kinds.r κs).Denot)
    (s : AtExit (ended_of 4 delete-step-kinds.ps delete-step-kinds.r) κs) → delete-step-reads.Learnt κs a r s
    → DeleteStep a.0.now a.1.0.now
    r a.1.1.1.0.now s.1.1.1.0.now a.1.1.0.now s.1.1.0.now
delete_step_told κs a r s h = h

-- make_step(store, knowledge, first, last, out, written)
pub make_step_asks : (κs : Lfts 6) (a : Dens κs make-step-kinds.ps) → make-step-reads.Asked κs a
make_step_asks κs a = search rules

pub make_step_told : (κs : Lfts 6) (a : Dens κs make-step-kinds.ps) (r : (res_t make-step-kinds.r κs).Denot)
    (s : AtExit (ended_of 6 make-step-kinds.ps make-step-kinds.r) κs) → make-step-reads.Learnt κs a r s
    → MakeStep a.0.now a.1.0.now a.1.1.0.now a.1.1.1.0.now
    r a.1.1.1.1.1.0.now s.1.1.1.1.1.0.now a.1.1.1.1.0.now s.1.1.1.1.0.now
make_step_told κs a r s h = h

-- apply_step(store, batch, out, written)
pub apply_step_asks : (κs : Lfts 4) (a : Dens κs apply-step-kinds.ps) → apply-step-reads.Asked κs a
apply_step_asks κs a = search rules

pub apply_step_told : (κs : Lfts 4) (a : Dens κs apply-step-kinds.ps) (r : (res_t apply-step-kinds.r κs).Denot)
    (s : AtExit (ended_of 4 apply-step-kinds.ps apply-step-kinds.r) κs) → apply-step-reads.Learnt κs a r s
    → ApplyStep a.0.now a.1.0.now
    r a.1.1.1.0.now s.1.1.1.0.now a.1.1.0.now s.1.1.0.now
apply_step_told κs a r s h = h
