-- What is accepted though it is no normal form: every row of its table holds. Both sides are closed, so the definitions are
-- computed and the results compared.
use mathlib.Core.Path.{refl}
use Rattle.codec.specs.Number.{be_from, be_at, put}
use Rattle.codec.specs.Parsed.{read_or, own_fault}
use Rattle.codec.specs.Reply.{first_fault}
use Rattle.layout.specs.Knowledge.{put_fields, put_ids, put_elements, put_vectors, put_ranges, encode, opening, before_vectors, before_elements, before_ranges, closing, bounds}
use Rattle.layout.specs.Parse.{replica_map, vector_count, vector_list, range_list, ended, checked, told, parse}
use Rattle.layout.specs.Decode.{ids_at, elements_at, vectors_at, after_vectors, ranges_at, decode}
use Rattle.layout.specs.Read.{repeat, number, same, fields, limit, empty, among, judged, replica_id, tick, element, first_vector, vector, index, range}
use Rattle.layout.proofs.NotNormal.{tick_zero, unused_replica, unused_vector, equal_vectors, empty_twice, equal_neighbours, first_above_lem, later_first_lem, replicas_fall, keys_fall}
use Rattle.ticks.specs.Calls.{id_of, wrong_length, wrong_ids, contain_found, contain_answer, result_lines, normalise_reply}
use Rattle.ticks.specs.Meaning.{highest, place_by, tick_at, index_from, vector_found, vector_at, known, contains, empty_knowledge}
use Rattle.ticks.specs.Written.{vector_from, vector_steps_from, vector_steps, eq_element, grown, vectors_of, ranges_of, indexed, knowledge_of, normal_of}
use Rattle.ticks.specs.Operations.{normalise, too_many_replicas, too_many_ranges}
use Rattle.ticks.specs.Table.{get, eq_list, eq_pair, insert, sorted, in_span, within, sample, build, canonical, row_ids, step_ids, used_ids}
use Rattle.instances.specs.Given.{item_bytes, replica_bytes}
use Rattle.instances.specs.Table.{AllHold}
use Rattle.instances.specs.NotNormal.{bytes_tick_zero, bytes_seven, not_normal_rows}

pub not_normal : AllHold not_normal_rows
unfolding be_from be_at put first_fault put_fields put_ids put_elements put_vectors put_ranges encode opening before_vectors before_elements
    before_ranges closing bounds replica_map vector_count vector_list range_list ended checked ids_at elements_at vectors_at after_vectors ranges_at
    decode told parse repeat number same fields limit empty among judged replica_id tick element first_vector vector index range id_of read_or
    own_fault wrong_length wrong_ids contain_found contain_answer result_lines normalise_reply highest place_by tick_at index_from vector_found
    vector_at known contains vector_from vector_steps_from vector_steps eq_element grown vectors_of ranges_of indexed knowledge_of normal_of
    empty_knowledge normalise too_many_replicas too_many_ranges get eq_list eq_pair insert sorted in_span within sample build canonical row_ids
    step_ids used_ids item_bytes replica_bytes bytes_tick_zero bytes_seven not_normal_rows tick_zero unused_replica unused_vector equal_vectors
    empty_twice equal_neighbours first_above_lem later_first_lem replicas_fall keys_fall
not_normal = (
  refl,
  (
    (refl, refl),
    (
      refl,
      (
        (refl, refl),
        (
          refl,
          (
            refl,
            (
              refl,
              (
                refl,
                (
                  (refl, refl),
                  (
                    refl,
                    (
                      refl,
                      (
                        refl,
                        (
                          (refl, refl),
                          (
                            refl,
                            (
                              refl,
                              (
                                refl,
                                (
                                  (refl, refl),
                                  (
                                    refl,
                                    (
                                      refl,
                                      (
                                        refl,
                                        (
                                          refl,
                                          (
                                            (refl, refl),
                                            (
                                              refl,
                                              (
                                                refl,
                                                (
                                                  refl,
                                                  (
                                                    (refl, refl),
                                                    (
                                                      refl,
                                                      (
                                                        refl,
                                                        (
                                                          refl,
                                                          (
                                                            (refl, refl),
                                                            (
                                                              refl,
                                                              (
                                                                refl,
                                                                (
                                                                  refl,
                                                                  (
                                                                    (refl, refl),
                                                                    (refl, (refl, (refl, (refl, ((refl, refl), (refl, (refl, (refl, ((refl, refl), (refl, (refl, tt))))))))))),
                                                                  ),
                                                                ),
                                                              ),
                                                            ),
                                                          ),
                                                        ),
                                                      ),
                                                    ),
                                                  ),
                                                ),
                                              ),
                                            ),
                                          ),
                                        ),
                                      ),
                                    ),
                                  ),
                                ),
                              ),
                            ),
                          ),
                        ),
                      ),
                    ),
                  ),
                ),
              ),
            ),
          ),
        ),
      ),
    ),
  ),
)
