-- Demand 1: "Safe on every input", one line for each call. Whatever bytes it is given, a call is refused with a number that is at least 1,
-- and then nothing behind any pointer changes; or its number is 0, and then its values are there, or the stated bytes stand in front of
-- the buffer and the rest is as it was. The contracts of the C functions say that number, values and buffer are those named here
-- (`crates/collector/src/lib.rt`); the number of a walk is always 0.
use Rattle.std.specs.Prelude.{ℕ, List}
use Rattle.codec.specs.Reply.{answer, number_of}
use Rattle.layout.specs.Knowledge.{Rules}
use Rattle.ticks.specs.Calls.{contain_number, contain_value, contain_answer, lead_number, lead_value, lead_answer}
use Rattle.ticks.specs.Calls.{cover_number, cover_value, cover_answer, normalise_reply, merge_reply, project_reply}
use Rattle.ticks.specs.Compare.{compare_reply, order_value}
use Rattle.ticks.specs.Demand1.{WritesOrRefuses, SaysOrRefuses, ChecksOrRefuses}
use Rattle.replication.specs.Call.{Brought}
use Rattle.replication.specs.Calls.{new_reply, edit_reply, delete_reply, make_reply, apply_reply}
use Rattle.replication.specs.Part.{Part}
use Rattle.replication.specs.Coverage.{Coverage}
use Rattle.replication.specs.Queries.{part_number, part_side, part_at_place, part_length, winner_part, learned_part, knowledge_part}
use Rattle.replication.specs.Queries.{coverage_number, coverage_contained, coverage_all, coverage_thousandths, coverage_answer}

-- the values behind the pointers: side, place and length of a part; the three numbers of a coverage
unfoldable pub part_values : Part → ℕ × (ℕ × ℕ) → ℕ × (ℕ × ℕ)
part_values p old = (part_side p old.0, (part_at_place p old.1.0, part_length p old.1.1))

unfoldable pub coverage_values : Coverage → ℕ × (ℕ × ℕ) → ℕ × (ℕ × ℕ)
coverage_values c old = (coverage_contained c old.0, (coverage_all c old.1.0, coverage_thousandths c old.1.1))

pub record Demand1 (R : Rules) : Type 0 where
  pub check : (s : List ℕ) → ChecksOrRefuses R s
  pub contain : (s item replica : List ℕ) (t : ℕ) → SaysOrRefuses contain_number contain_value (contain_answer R s item replica t)
  pub lead : (s t item replica : List ℕ) → SaysOrRefuses lead_number lead_value (lead_answer R s t item replica)
  pub cover : (s t first last : List ℕ) → SaysOrRefuses cover_number cover_value (cover_answer R s t first last)
  pub normalise : (s out : List ℕ) (old : ℕ) → WritesOrRefuses (normalise_reply R s) out old
  pub merge : (s t out : List ℕ) (old : ℕ) → WritesOrRefuses (merge_reply R s t) out old
  pub project : (s first last out : List ℕ) (old : ℕ) → WritesOrRefuses (project_reply R s first last) out old
  pub compare : (s t out : List ℕ) (old : ℕ) → WritesOrRefuses (compare_reply R s t) out old
  pub order : (s t : List ℕ) (room : ℕ) → SaysOrRefuses number_of (order_value R s t) (answer (compare_reply R s t) room)
  pub new : (own out : List ℕ) (old : ℕ) → WritesOrRefuses (new_reply own) out old
  pub edit : (s item : List ℕ) (b : Brought) (out : List ℕ) (old : ℕ) → WritesOrRefuses (edit_reply R.limits s item b) out old
  pub delete : (s item out : List ℕ) (old : ℕ) → WritesOrRefuses (delete_reply R.limits s item) out old
  pub make : (s knowledge first last out : List ℕ) (old : ℕ) → WritesOrRefuses (make_reply R s knowledge first last) out old
  pub apply : (s batch out : List ℕ) (old : ℕ) → WritesOrRefuses (apply_reply R.limits s batch) out old
  pub winner : (s batch item : List ℕ) → SaysOrRefuses part_number part_values (winner_part R.limits s batch item)
  pub learned : (batch : List ℕ) → SaysOrRefuses part_number part_values (learned_part R.limits batch)
  pub knowledge : (s : List ℕ) → SaysOrRefuses part_number part_values (knowledge_part R.limits s)
  pub coverage : (s knowledge : List ℕ) → SaysOrRefuses coverage_number coverage_values (coverage_answer R s knowledge)
