-- Demand 1 of the calls on knowledge. The answer of a call is what its table of refusals gives (`first_fault`): where a line holds, the
-- refusal with that line's number, and the numbers of the lines are 11 to 20 or a reading's own fault, which is 1 to 10, so none is 0; where
-- none holds, what was found, whose number is 0 and whose values are all new.
use Prim.Native.Nat.{ℕ, ◌≤◌, ◌<◌}
use mathlib.Core.Path.{◌≡◌, refl, sym, ap, ◌∙◌, subst}
use mathlib.Core.Logic.{◌⊎◌, inl, inr}
use mathlib.Core.Bool.{Bool, true, false}
use mathlib.Core.List.{List, [], ◌∷◌}
use native.Mathlib.Omega.{arith}
use lib.Dec.{leb}
use lib.ListN.{length, drop}
use lib.Seq.{sets, sets-eq, drop-length}
use borrow.Author.Tests.{leb-true, leb-false}
use Rattle.codec.specs.Parsed.{Parsed, accepted, refused, line, own_fault}
use Rattle.codec.specs.Answer.{Answer}
use Rattle.codec.specs.Answer as A
use Rattle.codec.specs.Reply.{Reply, gives, refuses, Line, first_fault, answer, after, number_of}
use Rattle.codec.proofs.Replies.{fault_here, fault_later, answer_fits, answer_short, number_fits, number_short, number_refused, after_fits, after_short}
use Rattle.layout.specs.Knowledge.{Limits, Rules, All, Knowledge}
use Rattle.layout.specs.Permitted.{Permitted}
use Rattle.layout.specs.Parse.{parse, checked_by}
use Rattle.layout.specs.Answer.{checked_number, checked_sizes}
use Rattle.layout.specs.Checked.{Checked}
use Rattle.layout.specs.Checked.{Accepted, Refused}
use Rattle.layout.proofs.Answers.{answer_refused}
use Rattle.layout.proofs.Exact.{refused_exact}
use Rattle.ticks.specs.Contain as C
use Rattle.ticks.specs.Lead as D
use Rattle.ticks.specs.Cover as E
use Rattle.ticks.specs.Calls.{contain_number, contain_value, contain_found, contain_answer, lead_number, lead_value, lead_answer}
use Rattle.ticks.specs.Calls.{cover_number, cover_value, cover_found, cover_answer, normalise_reply, merge_reply, project_reply, result_lines}
use Rattle.ticks.specs.Calls.{read_as}
use Rattle.ticks.specs.Compare.{compared, compare_reply, order_value}
use Rattle.ticks.specs.Demand1.{WritesOrRefuses, it_refuses, it_writes, SaysOrRefuses, says_nothing, says_values, ChecksOrRefuses, checks_nothing, checks_sizes}

-- a line that holds has a number that is not 0
abbrev pub Positive : Line → Type 0
Positive l = l.holds ≡ true → 1 ≤ l.number

-- the answer is what was found, or a refusal with a number that is not 0
abbrev pub Ends : {A : Type 0} → (ℕ → A) → A → A → Type 0
Ends refusal found x = (x ≡ found) ⊎ ((n : ℕ) × ((1 ≤ n) × (x ≡ refusal n)))

pub table_ends : {A : Type 0} (refusal : ℕ → A) (ls : List Line) (found : A) → All Positive ls → Ends refusal found (first_fault refusal ls found)
unfolding first_fault
table_ends refusal [] found h = inl refl
table_ends {A} refusal (l ∷ ls) found h = by_case l.holds refl (table_ends refusal ls found h.1)
  where
    by_case : (b : Bool) → l.holds ≡ b → Ends refusal found (first_fault refusal ls found) → Ends refusal found (first_fault refusal (l ∷ ls) found)
    by_case true e rest = inr (l.number, (h.0 e, fault_here refusal l ls found e))
    by_case false e (inl q) = inl (fault_later refusal l ls found e ∙ q)
    by_case false e (inr q) = inr (q.0, (q.1.0, fault_later refusal l ls found e ∙ q.1.1))

pub number_positive : (n : ℕ) (b : Bool) → 1 ≤ n → Positive (line n b)
number_positive n b h e = h

-- a reading whose faults have numbers that are not 0
pub fault_positive : {A : Type 0} (p : Parsed A) → ((n : ℕ) → p ≡ refused n → 1 ≤ n) → Positive (own_fault p)
unfolding own_fault
fault_positive (accepted x) h e = let z : ◌≡◌ {A = ℕ} 0 1 = cc in absurd (omega arith)
fault_positive (refused n) h e = h n refl

pub parse_positive : (R : Rules) → Permitted R.limits → (s : List ℕ) → Positive (own_fault (parse R s))
parse_positive R permitted s = fault_positive (parse R s) (λ n e. elim (answer_refused R permitted s n e).table [ inl h ↦ h.0 | inr h ↦ h.1 ])

pub result_positive : (L : Limits) (k : Knowledge) → All Positive (result_lines L k)
unfolding result_lines
result_positive L k = (number_positive 11 _ (omega arith), (number_positive 12 _ (omega arith), tt))

-- ---- calls that write

pub gives_writing : (bs out : List ℕ) (old : ℕ) → WritesOrRefuses (gives bs) out old
gives_writing bs out old = go (leb (length bs) (length out)) refl
  where
    go : (t : Bool) → leb (length bs) (length out) ≡ t → WritesOrRefuses (gives bs) out old
    go true e =
        let l : length bs ≤ length out = leb-true (length bs) (length out) e in
        it_writes bs refl l (number_fits bs (length out) old l).0 (number_fits bs (length out) old l).1 (after_fits bs out l)
    go false e =
        let l : length out < length bs = leb-false (length bs) (length out) e in
        let n = number_short bs (length out) old l in
        it_refuses (omega (arith, n.0)) n.1 (after_short bs out l)

pub refuses_after : (n : ℕ) (out : List ℕ) → after (refuses n) out ≡ out
unfolding after
refuses_after n out = refl

pub refuses_writing : (n : ℕ) (out : List ℕ) (old : ℕ) → 1 ≤ n → WritesOrRefuses (refuses n) out old
refuses_writing n out old h =
    let m = number_refused n (length out) old in
    it_refuses (omega (arith, m.0)) m.1 (refuses_after n out)

pub ends_writing : (bs : List ℕ) (r : Reply) (out : List ℕ) (old : ℕ) → Ends refuses (gives bs) r → WritesOrRefuses r out old
ends_writing bs r out old (inl e) = subst (λ (x : Reply). WritesOrRefuses x out old) (sym e) (gives_writing bs out old)
ends_writing bs r out old (inr e) = subst (λ (x : Reply). WritesOrRefuses x out old) (sym e.1.1) (refuses_writing e.0 out old e.1.0)

-- the number of an answer that is refused is not 0, 14 too
pub answer_positive : (bs : List ℕ) (r : Reply) (room : ℕ) → Ends refuses (gives bs) r → (n : ℕ) → answer r room ≡ A.Refused n → 1 ≤ n
unfolding answer
answer_positive bs r room (inl e) n h = go (leb (length bs) room) refl (sym (ap (λ (x : Reply). answer x room) e) ∙ h)
  where
    go : (t : Bool) → leb (length bs) room ≡ t → answer (gives bs) room ≡ A.Refused n → 1 ≤ n
    go true f g =
        let z : ◌≡◌ {A = ℕ} 0 1 = cc (sym (answer_fits bs room (leb-true (length bs) room f)) ∙ g) in
        absurd (omega arith)
    go false f g =
        let z : 14 ≡ n = cc (sym (answer_short bs room (leb-false (length bs) room f)) ∙ g) in
        omega arith
answer_positive bs r room (inr e) n h =
    let z : e.0 ≡ n = cc (sym (ap (λ (x : Reply). answer x room) e.1.1) ∙ h) in
    omega (arith, e.1.0)

-- ---- calls that say

pub ends_saying : {A B : Type 0} (number : A → ℕ) (values : A → B → B) (refusal : ℕ → A) (found x : A) → Ends refusal found x
    → ((n : ℕ) → number (refusal n) ≡ n) → ((n : ℕ) (old : B) → values (refusal n) old ≡ old) → number found ≡ 0
    → ((old other : B) → values found old ≡ values found other) → SaysOrRefuses number values x
ends_saying {A} {B} number values refusal found x (inl e) a b c d =
    subst (λ (y : A). SaysOrRefuses number values y) (sym e) (says_values c d)
ends_saying {A} {B} number values refusal found x (inr e) a b c d =
    subst (λ (y : A). SaysOrRefuses number values y) (sym e.1.1)
    (says_nothing (subst (λ (m : ℕ). 1 ≤ m) (sym (a e.0)) e.1.0) (b e.0))

contain_found_lem : (t : Bool)
    → (contain_number (contain_found t) ≡ 0) × ((old other : ℕ) → contain_value (contain_found t) old ≡ contain_value (contain_found t) other)
unfolding contain_number contain_value contain_found
contain_found_lem true = (refl, λ old other. refl)
contain_found_lem false = (refl, λ old other. refl)

cover_found_lem : (t : Bool)
    → (cover_number (cover_found t) ≡ 0) × ((old other : ℕ) → cover_value (cover_found t) old ≡ cover_value (cover_found t) other)
unfolding cover_number cover_value cover_found
cover_found_lem true = (refl, λ old other. refl)
cover_found_lem false = (refl, λ old other. refl)

module _ (R : Rules) (permitted : Permitted R.limits) where
  pub contain_saying : (s item replica : List ℕ) (t : ℕ) → SaysOrRefuses contain_number contain_value (contain_answer R s item replica t)
  unfolding contain_answer contain_number contain_value
  contain_saying s item replica t =
      ends_saying contain_number contain_value C.Refused _ _
      (table_ends C.Refused _ _ (parse_positive R permitted s, (number_positive 17 _ (omega arith), tt)))
      (λ n. refl) (λ n old. refl) (contain_found_lem _).0 (contain_found_lem _).1

  pub lead_saying : (s t item replica : List ℕ) → SaysOrRefuses lead_number lead_value (lead_answer R s t item replica)
  unfolding lead_answer lead_number lead_value
  lead_saying s t item replica =
      ends_saying lead_number lead_value D.Refused _ _
      (table_ends D.Refused _ _ (parse_positive R permitted s, (parse_positive R permitted t, (number_positive 17 _ (omega arith), tt))))
      (λ n. refl) (λ n old. refl) refl (λ old other. refl)

  pub cover_saying : (s t first last : List ℕ) → SaysOrRefuses cover_number cover_value (cover_answer R s t first last)
  unfolding cover_answer cover_number cover_value
  cover_saying s t first last =
      ends_saying cover_number cover_value E.Refused _ _
      (table_ends E.Refused _ _ (parse_positive R permitted s, (parse_positive R permitted t, (number_positive 17 _ (omega arith), tt))))
      (λ n. refl) (λ n old. refl) (cover_found_lem _).0 (cover_found_lem _).1

  pub normalise_writing : (s out : List ℕ) (old : ℕ) → WritesOrRefuses (normalise_reply R s) out old
  unfolding normalise_reply
  normalise_writing s out old =
      ends_writing _ _ out old (table_ends refuses _ _ (parse_positive R permitted s, result_positive R.limits _))

  pub merge_writing : (s t out : List ℕ) (old : ℕ) → WritesOrRefuses (merge_reply R s t) out old
  unfolding merge_reply
  merge_writing s t out old =
      ends_writing _ _ out old
      (table_ends refuses _ _ (parse_positive R permitted s, (parse_positive R permitted t, result_positive R.limits _)))

  pub project_writing : (s first last out : List ℕ) (old : ℕ) → WritesOrRefuses (project_reply R s first last) out old
  unfolding project_reply
  project_writing s first last out old =
      ends_writing _ _ out old
      (table_ends refuses _ _ (parse_positive R permitted s, (number_positive 17 _ (omega arith), result_positive R.limits _)))

  -- compare, which writes bytes and says an order
  compare_ends : (s t : List ℕ) → Ends refuses (gives (compared (read_as (parse R s)) (read_as (parse R t)))) (compare_reply R s t)
  unfolding compare_reply
  compare_ends s t = table_ends refuses _ _ (parse_positive R permitted s, (parse_positive R permitted t, tt))

  pub compare_writing : (s t out : List ℕ) (old : ℕ) → WritesOrRefuses (compare_reply R s t) out old
  compare_writing s t out old = ends_writing _ _ out old (compare_ends s t)

  order_saying : (s t : List ℕ) (a : Answer) → ((n : ℕ) → a ≡ A.Refused n → 1 ≤ n) → SaysOrRefuses number_of (order_value R s t) a
  unfolding number_of order_value
  order_saying s t (A.Written n) h = says_values refl (λ old other. refl)
  order_saying s t (A.Refused n) h = says_nothing (h n refl) (λ old. refl)

  pub compare_saying : (s t : List ℕ) (room : ℕ) → SaysOrRefuses number_of (order_value R s t) (answer (compare_reply R s t) room)
  compare_saying s t room = order_saying s t (answer (compare_reply R s t) room) (answer_positive _ _ room (compare_ends s t))

  -- the check, whose four sizes fill what they are put into
  four_put : (r v e g : ℕ) (old : List ℕ) → length old ≡ 4 → sets old 0 (r ∷ v ∷ e ∷ g ∷ []) ≡ r ∷ v ∷ e ∷ g ∷ []
  four_put r v e g old h =
      sets-eq (r ∷ v ∷ e ∷ g ∷ []) old 0 (omega (arith, h))
      ∙ ap (λ (l : List ℕ). r ∷ v ∷ e ∷ g ∷ l) (ap (λ (n : ℕ). drop n old) (sym h) ∙ drop-length old)

  check_case : (s : List ℕ) (c : Checked) → checked_by R s ≡ c → ChecksOrRefuses R s
  unfolding checked_number checked_sizes
  check_case s (Accepted r v e g) h =
      checks_sizes (ap checked_number h)
      (λ old other a b.
      ap (λ (c : Checked). checked_sizes c old) h
      ∙ (four_put r v e g old a ∙ (sym (four_put r v e g other b) ∙ ap (λ (c : Checked). checked_sizes c other) (sym h))))
  check_case s (Refused n) h =
      let l : 1 ≤ n = elim (answer_refused R permitted s n ((refused_exact R permitted s n).0 h)).table [ inl q ↦ q.0 | inr q ↦ q.1 ] in
      checks_nothing (subst (λ (m : ℕ). 1 ≤ m) (sym (ap checked_number h)) l) (λ old. ap (λ (c : Checked). checked_sizes c old) h)

  pub check_checking : (s : List ℕ) → ChecksOrRefuses R s
  check_checking s = check_case s (checked_by R s) refl
