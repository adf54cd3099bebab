-- `store_queries::part_of` meets its contract, in each of the answers.
use Rattle.std.proofs.Common.{refl, sym, ap, ◌∙◌, arith}
use Rattle.replication.specs.Part.{Part}
use Rattle.replication.specs.Queries.{part_bytes, part_number}
use Rattle.store_queries.proofs.Parts.{taken, found_none, found_refused, found_in_store, found_in_batch}
use Rattle.store_queries.proofs.Parts.{hands_nothing, hands_store, hands_batch, hands_refusal}
use Rattle.store_queries.proofs.part_of.Goals as goal

pub overflow_add-result : goal.overflow_add-result
overflow_add-result c = omega (arith, c.requires.of_store _ _ (found_in_store _ _ c.in-Ok.is _ c.in-Some.is c.in-Store.is))

pub slice_bounds-result-end-in-Store : goal.slice_bounds-result-end-in-Store
slice_bounds-result-end-in-Store c = omega (arith, c.requires.of_store _ _ (found_in_store _ _ c.in-Ok.is _ c.in-Some.is c.in-Store.is))

pub overflow_add-result-in-Batch : goal.overflow_add-result-in-Batch
overflow_add-result-in-Batch c = omega (arith, c.requires.of_batch _ _ (found_in_batch _ _ c.in-Ok.is _ c.in-Some.is c.in-Batch.is))

pub slice_bounds-result-end-in-Batch : goal.slice_bounds-result-end-in-Batch
slice_bounds-result-end-in-Batch c = omega (arith, c.requires.of_batch _ _ (found_in_batch _ _ c.in-Ok.is _ c.in-Some.is c.in-Batch.is))

pub returns-in-None-clause-part : goal.returns-in-None-clause-part
unfolding part_bytes
returns-in-None-clause-part c =
    sym (ap (λ (q : Part). part_bytes q c.args.store.now c.args.batch.now) (found_none _ _ c.in-Ok.is c.in-None.is))

pub returns-in-None-clause-place : goal.returns-in-None-clause-place
returns-in-None-clause-place c = (hands_nothing _ _ _ _ (found_none _ _ c.in-Ok.is c.in-None.is) refl).1.0

pub returns-in-None-clause-number : goal.returns-in-None-clause-number
unfolding part_number
returns-in-None-clause-number c = sym (ap part_number (found_none _ _ c.in-Ok.is c.in-None.is))

pub returns-in-Store-clause-part : goal.returns-in-Store-clause-part
unfolding part_bytes
returns-in-Store-clause-part c =
    let e = found_in_store _ _ c.in-Ok.is _ c.in-Some.is c.in-Store.is in
    taken c.args.store.now _ _ ∙ sym (ap (λ (q : Part). part_bytes q c.args.store.now c.args.batch.now) e)

pub returns-in-Store-clause-place : goal.returns-in-Store-clause-place
returns-in-Store-clause-place c = (hands_store _ _ _ _ _ _ (found_in_store _ _ c.in-Ok.is _ c.in-Some.is c.in-Store.is) refl refl).1.0

pub returns-in-Store-clause-number : goal.returns-in-Store-clause-number
unfolding part_number
returns-in-Store-clause-number c = sym (ap part_number (found_in_store _ _ c.in-Ok.is _ c.in-Some.is c.in-Store.is))

pub returns-in-Batch-clause-part : goal.returns-in-Batch-clause-part
unfolding part_bytes
returns-in-Batch-clause-part c =
    let e = found_in_batch _ _ c.in-Ok.is _ c.in-Some.is c.in-Batch.is in
    taken c.args.batch.now _ _ ∙ sym (ap (λ (q : Part). part_bytes q c.args.store.now c.args.batch.now) e)

pub returns-in-Batch-clause-place : goal.returns-in-Batch-clause-place
returns-in-Batch-clause-place c = (hands_batch _ _ _ _ _ _ (found_in_batch _ _ c.in-Ok.is _ c.in-Some.is c.in-Batch.is) refl refl).1.0

pub returns-in-Batch-clause-number : goal.returns-in-Batch-clause-number
unfolding part_number
returns-in-Batch-clause-number c = sym (ap part_number (found_in_batch _ _ c.in-Ok.is _ c.in-Some.is c.in-Batch.is))

pub returns-in-Err-clause-part : goal.returns-in-Err-clause-part
unfolding part_bytes
returns-in-Err-clause-part c =
    sym (ap (λ (q : Part). part_bytes q c.args.store.now c.args.batch.now) (found_refused _ _ c.in-Err.is))

pub returns-in-Err-clause-place : goal.returns-in-Err-clause-place
returns-in-Err-clause-place c = (hands_refusal _ _ _ _ _ (found_refused _ _ c.in-Err.is) refl).1.0

pub returns-in-Err-clause-number : goal.returns-in-Err-clause-number
unfolding part_number
returns-in-Err-clause-number c = c.from.ensures ∙ sym (ap part_number (found_refused _ _ c.in-Err.is))
