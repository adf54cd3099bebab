-- The examples of `layout` that are accepted though they are no normal form: what normalise makes of each, and which versions
-- each contains. They are computed.
use mathlib.Core.Path.{◌≡◌, refl}
use mathlib.Core.Bool.{true, false}
use mathlib.Core.List.{[], ◌∷◌}
use Rattle.layout.specs.Knowledge.{bounds}
use Rattle.layout.proofs.NotNormal.{el, ran, knowledge, tick_zero, unused_replica, unused_vector, equal_vectors, empty_twice, equal_neighbours, first_above_lem, later_first_lem, replicas_fall, keys_fall}
use Rattle.ticks.specs.Meaning.{highest, place_by, tick_at, index_from, vector_found, vector_at, known, contains}
use Rattle.ticks.specs.Table.{get, eq_list, eq_pair, insert, sorted, in_span, within, sample, build, canonical, row_ids, step_ids, used_ids}
use Rattle.ticks.specs.Written.{vector_from, vector_steps_from, vector_steps, eq_element, grown, vectors_of, ranges_of, indexed, knowledge_of, normal_of}
use Rattle.ticks.specs.Operations.{normalise}

-- the normal form of each
pub record NormalForms : Type 0 where
  pub tick-zero : normalise tick_zero ≡ knowledge (3 ∷ []) ([] ∷ (el 0 7 ∷ []) ∷ []) (ran 0 1 ∷ [])
  pub unused_replica_lem : normalise unused_replica ≡ knowledge (5 ∷ []) ([] ∷ (el 0 4 ∷ []) ∷ []) (ran 0 1 ∷ [])
  pub unused_vector_lem : normalise unused_vector ≡ knowledge (3 ∷ []) ([] ∷ (el 0 7 ∷ []) ∷ []) (ran 0 1 ∷ [])
  pub equal_vectors_lem : normalise equal_vectors ≡ knowledge (3 ∷ []) ([] ∷ (el 0 7 ∷ []) ∷ []) (ran 0 1 ∷ ran 9 0 ∷ ran 20 1 ∷ [])
  pub empty_twice_lem : normalise empty_twice ≡ knowledge (3 ∷ []) ([] ∷ (el 0 7 ∷ []) ∷ []) (ran 0 0 ∷ ran 9 1 ∷ [])
  pub equal_neighbours_lem : normalise equal_neighbours ≡ knowledge (3 ∷ []) ([] ∷ (el 0 7 ∷ []) ∷ []) (ran 0 1 ∷ ran 20 0 ∷ [])
  pub first_above : normalise first_above_lem ≡ knowledge (3 ∷ []) ([] ∷ (el 0 7 ∷ []) ∷ []) (ran 0 0 ∷ ran 9 1 ∷ [])
  pub later_first : normalise later_first_lem ≡ knowledge (3 ∷ []) ([] ∷ (el 0 7 ∷ []) ∷ (el 0 4 ∷ []) ∷ []) (ran 0 1 ∷ ran 9 2 ∷ [])
  pub replicas_fall_lem : normalise replicas_fall ≡ knowledge (3 ∷ 5 ∷ []) ([] ∷ (el 0 7 ∷ el 1 4 ∷ []) ∷ []) (ran 0 1 ∷ [])
  pub keys_fall_lem : normalise keys_fall ≡ knowledge (3 ∷ 5 ∷ []) ([] ∷ (el 0 7 ∷ el 1 4 ∷ []) ∷ []) (ran 0 1 ∷ [])

pub normal_forms : NormalForms
unfolding tick_zero unused_replica unused_vector equal_vectors empty_twice equal_neighbours first_above_lem later_first_lem replicas_fall keys_fall bounds
    highest place_by tick_at index_from vector_found vector_at known get eq_list eq_pair insert sorted in_span within sample build canonical row_ids
    step_ids used_ids vector_from vector_steps_from vector_steps eq_element grown vectors_of ranges_of indexed knowledge_of normal_of normalise
normal_forms = record {
  tick-zero = refl;
  unused_replica_lem = refl;
  unused_vector_lem = refl;
  equal_vectors_lem = refl;
  empty_twice_lem = refl;
  equal_neighbours_lem = refl;
  first_above = refl;
  later_first = refl;
  replicas_fall_lem = refl;
  keys_fall_lem = refl;
}

-- versions of each that are contained, and the next tick or the nearest item that is not
pub record Versions : Type 0 where
  pub tick-zero : (contains tick_zero 0 3 7 ≡ true) × ((contains tick_zero 0 5 0 ≡ false) × (contains tick_zero 0 5 1 ≡ false))
  pub unused_replica_lem : (contains unused_replica 0 5 4 ≡ true) × (contains unused_replica 0 3 1 ≡ false)
  pub unused_vector_lem : (contains unused_vector 0 3 7 ≡ true) × (contains unused_vector 0 3 8 ≡ false)
  pub equal_vectors_lem : (contains equal_vectors 8 3 7 ≡ true) × ((contains equal_vectors 9 3 1 ≡ false) × (contains equal_vectors 20 3 7 ≡ true))
  pub empty_twice_lem : (contains empty_twice 8 3 1 ≡ false) × (contains empty_twice 9 3 7 ≡ true)
  pub equal_neighbours_lem : (contains equal_neighbours 19 3 7 ≡ true) × (contains equal_neighbours 20 3 1 ≡ false)
  pub first_above : (contains first_above_lem 8 3 1 ≡ false) × (contains first_above_lem 9 3 7 ≡ true)
  pub later_first : (contains later_first_lem 8 3 7 ≡ true) × ((contains later_first_lem 9 3 5 ≡ false) × (contains later_first_lem 9 3 4 ≡ true))
  pub replicas_fall_lem : (contains replicas_fall 0 3 7 ≡ true) × (contains replicas_fall 0 5 5 ≡ false)
  pub keys_fall_lem : (contains keys_fall 0 3 7 ≡ true) × (contains keys_fall 0 5 5 ≡ false)

pub versions : Versions
unfolding tick_zero unused_replica unused_vector equal_vectors empty_twice equal_neighbours first_above_lem later_first_lem replicas_fall keys_fall place_by tick_at index_from vector_found vector_at known contains
versions = record {
  tick-zero = (refl, (refl, refl));
  unused_replica_lem = (refl, refl);
  unused_vector_lem = (refl, refl);
  equal_vectors_lem = (refl, (refl, refl));
  empty_twice_lem = (refl, refl);
  equal_neighbours_lem = (refl, refl);
  first_above = (refl, refl);
  later_first = (refl, (refl, refl));
  replicas_fall_lem = (refl, refl);
  keys_fall_lem = (refl, refl);
}
