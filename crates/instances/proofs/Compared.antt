-- The instances of request 13 hold: both sides are closed, so the definitions are computed and the results compared.
use mathlib.Core.Path.{◌≡◌, refl, ap, ◌∙◌}
use Rattle.codec.specs.Number.{be_from, be_at, put}
use Rattle.codec.specs.Parsed.{own_fault, read_or}
use Rattle.codec.specs.Reply.{gives, first_fault}
use Rattle.layout.specs.Decode.{ids_at, elements_at, vectors_at, after_vectors, ranges_at, decode}
use Rattle.layout.specs.Knowledge.{basic}
use Rattle.layout.specs.Knowledge.{opening, before_vectors, before_elements, before_ranges, closing, put_fields, put_ids, put_elements, put_vectors}
use Rattle.layout.specs.Knowledge.{put_ranges, encode, keys, bounds}
use Rattle.layout.specs.Parse.{replica_map, vector_count, vector_list, range_list, ended, checked, told, parse}
use Rattle.layout.specs.Read.{repeat, number, same, fields, limit, empty, among, judged, replica_id, tick, element, first_vector, vector, index}
use Rattle.layout.specs.Read.{range}
use Rattle.ticks.specs.Meaning.{highest, place_by, tick_at, index_from, vector_found, vector_at, known}
use Rattle.ticks.specs.Operations.{lacking_at, or_else, lacking_from, lacking}
use Rattle.ticks.specs.Table.{insert, sorted, in_span, within}
use Rattle.ticks.specs.Compare.{order_of, order, put_place, put_lack, compared, compare_reply, order_value}
use Rattle.instances.specs.Given.{empty_value, one, two, parts, p1, q1, p2, q2}
use Rattle.instances.specs.Compared.{Gives, entry, a_and_b, empty_and_a, on_span, span_and_a, empty_and_span, a_and_front, empty_and_map, a_and_a}
use Rattle.instances.specs.Compared.{bytes_aand_b, Comparisons}

pub first_compared : Comparisons p1 q1
unfolding be_from be_at put own_fault read_or first_fault ids_at elements_at vectors_at after_vectors ranges_at decode opening before_vectors
    before_elements before_ranges closing put_fields put_ids put_elements put_vectors put_ranges encode keys bounds replica_map vector_count
    vector_list range_list ended checked told parse repeat number same fields limit empty among judged replica_id tick element
    first_vector vector index range highest place_by tick_at index_from vector_found vector_at known lacking_at or_else lacking_from lacking
    insert sorted in_span within order_of order put_place put_lack compared compare_reply order_value empty_value one two parts p1 q1 p2 q2
    entry a_and_b empty_and_a on_span span_and_a empty_and_span a_and_front empty_and_map a_and_a
first_compared = record {
  a_and_b_lem = record { reply = refl; value = λ n old. refl; size = refl };
  empty_and_a_lem = record { reply = refl; value = λ n old. refl; size = refl };
  span_and_a_lem = record { reply = refl; value = λ n old. refl; size = refl };
  empty_and_span_lem = record { reply = refl; value = λ n old. refl; size = refl };
  a_and_front_lem = record { reply = refl; value = λ n old. refl; size = refl };
  empty_and_map_lem = record { reply = refl; value = λ n old. refl; size = refl };
  a_and_a_lem = record { reply = refl; value = λ n old. refl; size = refl };
}

-- the two that name both ids, for the other pair
pub last_compared : Gives (a_and_b p2 q2) × Gives (empty_and_map p2 q2)
unfolding be_from be_at put own_fault read_or first_fault ids_at elements_at vectors_at after_vectors ranges_at decode opening before_vectors
    before_elements before_ranges closing put_fields put_ids put_elements put_vectors put_ranges encode keys bounds replica_map vector_count
    vector_list range_list ended checked told parse repeat number same fields limit empty among judged replica_id tick element
    first_vector vector index range highest place_by tick_at index_from vector_found vector_at known lacking_at or_else lacking_from lacking
    insert sorted in_span within order_of order put_place put_lack compared compare_reply order_value empty_value one two parts p1 q1 p2 q2
    entry a_and_b empty_and_a on_span span_and_a empty_and_span a_and_front empty_and_map a_and_a
last_compared = (record { reply = refl; value = λ n old. refl; size = refl }, record { reply = refl; value = λ n old. refl; size = refl })

-- with the bytes written out
same_bytes : (a_and_b p1 q1).bytes ≡ bytes_aand_b
unfolding put entry a_and_b bytes_aand_b p1 q1
same_bytes = refl

pub spelled_compared : compare_reply basic (encode (a_and_b p1 q1).first) (encode (a_and_b p1 q1).second) ≡ gives bytes_aand_b
spelled_compared = first_compared.a_and_b_lem.reply ∙ ap gives same_bytes
