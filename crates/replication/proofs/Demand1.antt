-- Demand 1 holds of every call, for any permitted limits: each answer is its table of refusals, whose numbers are at least 1, and else
-- what was found, whose number is 0. For the calls on knowledge that was shown in `ticks`.
use Prim.Native.Nat.{ℕ}
use mathlib.Core.Path.{◌≡◌, refl}
use mathlib.Core.List.{List, [], ◌∷◌}
use mathlib.Core.Option.{Option, none, some}
use mathlib.Core.Bool.{Bool, true, false}
use native.Mathlib.Omega.{arith}
use Rattle.codec.specs.Parsed.{own_fault}
use Rattle.codec.specs.Reply.{refuses, Line}
use Rattle.layout.specs.Knowledge.{Limits, Rules, basic, All}
use Rattle.layout.specs.Permitted.{Permitted}
use Rattle.layout.proofs.Exact.{base_permitted}
use Rattle.ticks.specs.Demand1.{WritesOrRefuses, SaysOrRefuses}
use Rattle.ticks.proofs.Demand1.{Positive, table_ends, number_positive, fault_positive, parse_positive, result_positive, ends_writing, ends_saying}
use Rattle.ticks.proofs.Demand1.{check_checking, contain_saying, lead_saying, cover_saying, normalise_writing, merge_writing, project_writing}
use Rattle.ticks.proofs.Demand1.{compare_writing, compare_saying}
use Rattle.replication.specs.Call.{Brought}
use Rattle.replication.specs.Calls.{then, store_lines, new_reply, edit_lines, edit_reply, delete_lines, delete_reply, make_lines, make_reply, apply_lines, apply_reply}
use Rattle.replication.specs.Demand1.{part_values, coverage_values, Demand1}
use Rattle.replication.specs.Formats.{Store}
use Rattle.replication.specs.OpenStore.{open_store}
use Rattle.replication.specs.OpenBatch.{open_batch}
use Rattle.replication.specs.Operate.{wins}
use Rattle.replication.specs.Reading.{rec_at}
use Rattle.replication.specs.Part.{Part}
use Rattle.replication.specs.Part as P
use Rattle.replication.specs.Coverage as G
use Rattle.replication.specs.Queries.{of_store, of_batch, winner_at, winner_part, learned_part, knowledge_part, part_number, part_side, part_at_place, part_length}
use Rattle.replication.specs.Queries.{coverage_number, coverage_contained, coverage_all, coverage_thousandths, coverage_answer}
use Rattle.replication.proofs.Contents.Valid.{store_number, batch_number_lem}

store_positive : (L : Limits) (s : List ℕ) → Positive (own_fault (open_store L s))
store_positive L s = fault_positive (open_store L s) (λ n e. omega (arith, store_number L s n e))

batch_positive : (L : Limits) (t : List ℕ) → Positive (own_fault (open_batch L t))
batch_positive L t = fault_positive (open_batch L t) (λ n e. omega (arith, batch_number_lem L t n e))

then_positive : (ls ms : List Line) → All Positive ls → All Positive ms → All Positive (then ls ms)
unfolding then
then_positive [] ms a b = b
then_positive (l ∷ ls) ms a b = (a.0, then_positive ls ms a.1 b)

result_store : (L : Limits) (st : Store) → All Positive (store_lines L st)
unfolding store_lines
result_store L st = then_positive _ _ (result_positive L _) (number_positive 13 _ (omega arith), tt)

-- ---- what was found by the calls that return parts

abbrev Found : Part → Type 0
Found p = (part_number p ≡ 0) × ((old other : ℕ × (ℕ × ℕ)) → part_values p old ≡ part_values p other)

store_found : (at n : ℕ) → Found (P.OfStore at n)
unfolding part_number part_side part_at_place part_length part_values
store_found at n = (refl, λ old other. refl)

batch_found : (at n : ℕ) → Found (P.OfBatch at n)
unfolding part_number part_side part_at_place part_length part_values
batch_found at n = (refl, λ old other. refl)

nothing_found : Found P.Nothing
unfolding part_number part_side part_at_place part_length part_values
nothing_found = (refl, λ old other. refl)

part_number_lem : (k : ℕ) → part_number (P.Refused k) ≡ k
unfolding part_number
part_number_lem k = refl

part_stays : (k : ℕ) (old : ℕ × (ℕ × ℕ)) → part_values (P.Refused k) old ≡ old
unfolding part_side part_at_place part_length part_values
part_stays k old = refl

winner_found : (s batch : List ℕ) (a b : Option ℕ) → Found (winner_at s batch a b)
unfolding winner_at of_store of_batch
winner_found s batch none none = nothing_found
winner_found s batch none (some b) = batch_found b _
winner_found s batch (some a) none = store_found a _
winner_found s batch (some a) (some b) = go (wins (rec_at s a) (rec_at batch b))
  where
    go : (t : Bool) → Found (elim t [ true ↦ of_batch batch b | false ↦ of_store s a ])
    go true = batch_found b _
    go false = store_found a _

coverage_found : (c n t : ℕ) → (coverage_number (G.Covered c n t) ≡ 0)
    × ((old other : ℕ × (ℕ × ℕ)) → coverage_values (G.Covered c n t) old ≡ coverage_values (G.Covered c n t) other)
unfolding coverage_number coverage_contained coverage_all coverage_thousandths coverage_values
coverage_found c n t = (refl, λ old other. refl)

coverage_number_lem : (k : ℕ) → coverage_number (G.Refused k) ≡ k
unfolding coverage_number
coverage_number_lem k = refl

coverage_stays : (k : ℕ) (old : ℕ × (ℕ × ℕ)) → coverage_values (G.Refused k) old ≡ old
unfolding coverage_contained coverage_all coverage_thousandths coverage_values
coverage_stays k old = refl

-- ---- the calls

pub new_writing : (own out : List ℕ) (old : ℕ) → WritesOrRefuses (new_reply own) out old
unfolding new_reply
new_writing own out old = ends_writing _ _ out old (table_ends refuses _ _ (number_positive 17 _ (omega arith), tt))

module _ (L : Limits) where
  pub edit_writing : (s item : List ℕ) (b : Brought) (out : List ℕ) (old : ℕ) → WritesOrRefuses (edit_reply L s item b) out old
  unfolding edit_reply edit_lines
  edit_writing s item b out old =
      ends_writing _ _ out old
      (table_ends refuses _ _ (store_positive L s, (number_positive 17 _ (omega arith), (number_positive 20 _ (omega arith), result_store L _))))

  pub delete_writing : (s item out : List ℕ) (old : ℕ) → WritesOrRefuses (delete_reply L s item) out old
  unfolding delete_reply delete_lines
  delete_writing s item out old =
      ends_writing _ _ out old
      (table_ends refuses _ _ (
        store_positive L s,
        (
          number_positive 17 _ (omega arith),
          (number_positive 19 _ (omega arith), (number_positive 20 _ (omega arith), result_store L _)),
        ),
      ))

  pub apply_writing : (s batch out : List ℕ) (old : ℕ) → WritesOrRefuses (apply_reply L s batch) out old
  unfolding apply_reply apply_lines
  apply_writing s batch out old =
      ends_writing _ _ out old
      (table_ends refuses _ _ (store_positive L s, (batch_positive L batch, (number_positive 18 _ (omega arith), result_store L _))))

  pub winner_saying : (s batch item : List ℕ) → SaysOrRefuses part_number part_values (winner_part L s batch item)
  unfolding winner_part
  winner_saying s batch item =
      ends_saying part_number part_values P.Refused _ _
      (table_ends P.Refused _ _ (store_positive L s, (batch_positive L batch, (number_positive 17 _ (omega arith), tt)))) part_number_lem part_stays
      (winner_found s batch _ _).0 (winner_found s batch _ _).1

  pub learned_saying : (batch : List ℕ) → SaysOrRefuses part_number part_values (learned_part L batch)
  unfolding learned_part
  learned_saying batch =
      ends_saying part_number part_values P.Refused _ _ (table_ends P.Refused _ _ (batch_positive L batch, tt)) part_number_lem part_stays
      (batch_found _ _).0 (batch_found _ _).1

  pub knowledge_saying : (s : List ℕ) → SaysOrRefuses part_number part_values (knowledge_part L s)
  unfolding knowledge_part
  knowledge_saying s =
      ends_saying part_number part_values P.Refused _ _ (table_ends P.Refused _ _ (store_positive L s, tt)) part_number_lem part_stays
      (store_found _ _).0 (store_found _ _).1

module _ (R : Rules) (permitted : Permitted R.limits) where
  pub make_writing : (s knowledge first last out : List ℕ) (old : ℕ) → WritesOrRefuses (make_reply R s knowledge first last) out old
  unfolding make_reply make_lines
  make_writing s knowledge first last out old =
      ends_writing _ _ out old
      (table_ends refuses _ _ (
        store_positive R.limits s,
        (
          parse_positive R permitted knowledge,
          (
            number_positive 17 _ (omega arith),
            then_positive _ _ (result_positive R.limits _)
                (then_positive _ _ (result_positive R.limits _) (number_positive 13 _ (omega arith), tt)),
          ),
        ),
      ))

  pub coverage_saying : (s knowledge : List ℕ) → SaysOrRefuses coverage_number coverage_values (coverage_answer R s knowledge)
  unfolding coverage_answer
  coverage_saying s knowledge =
      ends_saying coverage_number coverage_values G.Refused _ _
      (table_ends G.Refused _ _ (store_positive R.limits s, (parse_positive R permitted knowledge, tt))) coverage_number_lem coverage_stays
      (coverage_found _ _ _).0 (coverage_found _ _ _).1

  pub demand1 : Demand1 R
  demand1 = record {
    check = check_checking R permitted;
    contain = contain_saying R permitted;
    lead = lead_saying R permitted;
    cover = cover_saying R permitted;
    normalise = normalise_writing R permitted;
    merge = merge_writing R permitted;
    project = project_writing R permitted;
    compare = compare_writing R permitted;
    order = compare_saying R permitted;
    new = new_writing;
    edit = edit_writing R.limits;
    delete = delete_writing R.limits;
    make = make_writing;
    apply = apply_writing R.limits;
    winner = winner_saying R.limits;
    learned = learned_saying R.limits;
    knowledge = knowledge_saying R.limits;
    coverage = coverage_saying;
  }

-- with document 01's limits
pub demand1_basic : Demand1 basic
demand1_basic = demand1 basic base_permitted
