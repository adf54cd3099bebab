-- What contain, lead and cover answer, case by case: the number and the value of the answer, in the document's own terms:
-- lengths, ids and known ticks. Each table is walked line by line with codec's laws, and what is found is exact by the laws of
-- known ticks.
use Prim.Native.Nat.{ℕ, zero, suc, ◌-◌, ◌≤◌, ◌<◌}
use mathlib.Core.Path.{◌≡◌, refl, ◌∙◌, ap}
use mathlib.Core.Logic.{◌↔◌}
use mathlib.Core.Bool.{Bool, true, false, not, ◌||◌}
use mathlib.Core.List.{List, [], ◌∷◌}
use native.Mathlib.Omega.{arith}
use lib.Dec.{eqb, ltb}
use lib.ListN.{length}
use lib.IntN.{pos, negsuc, ◌-ℤ◌}
use borrow.Author.Tests.{lt-ltb, le-ltb, ltb-false, eq-eqb, eqb-true, not-false}
use Rattle.codec.specs.Number.{be_at}
use Rattle.codec.specs.Parsed.{read_or, line, own_fault, Parsed, accepted, refused}
use Rattle.codec.specs.Reply.{first_fault}
use Rattle.codec.proofs.Replies.{fault_here, fault_none, read_fault, read_fine}
use Rattle.layout.specs.Knowledge.{Rules, Knowledge, Lawful, basic}
use Rattle.layout.specs.Permitted.{Permitted}
use Rattle.layout.specs.Parse.{parse}
use Rattle.layout.proofs.Exact.{base_permitted}
use Rattle.ticks.specs.Meaning.{known, contains}
use Rattle.ticks.specs.Operations.{covers}
use Rattle.ticks.specs.Contain.{Contain}
use Rattle.ticks.specs.Contain as C
use Rattle.ticks.specs.Lead.{Lead}
use Rattle.ticks.specs.Lead as D
use Rattle.ticks.specs.Cover.{Cover}
use Rattle.ticks.specs.Cover as E
use Rattle.ticks.specs.Calls.{contain_number, contain_value, lead_number, lead_value, cover_number, cover_value, id_of, read_as, wrong_length}
use Rattle.ticks.specs.Calls.{wrong_ids, wrong_span, contain_found, cover_found, contain_answer, lead_of, lead_answer, cover_answer}
use Rattle.ticks.specs.Demand2.{Decides}
use Rattle.ticks.specs.Answers.{RefusedWith, ContainSays, Difference, LeadSays, AtLeast, ProperIds, ProperSpan, CoverSays, Answers}
use Rattle.ticks.proofs.Lists.{less, same, more, order}
use Rattle.ticks.proofs.Equality.{clash}
use Rattle.ticks.proofs.Replies.{read_lawful}
use Rattle.ticks.proofs.Meaning.{known_id}
use Rattle.ticks.proofs.Algebra.{contains_exact}
use Rattle.ticks.proofs.Search.{Covers, covers_exact}

-- 17: what it is that none of its conditions holds

neither : (a b : Bool) → (a || b ≡ false) ↔ ((a ≡ false) × (b ≡ false))
neither false b = ((λ e. (refl, e)), (λ e. e.1))
neither true b = ((λ e. clash true refl e), (λ e. clash true refl e.0))

pub length_exact : (n : ℕ) (s : List ℕ) → (wrong_length n s ≡ false) ↔ (length s ≡ n)
unfolding wrong_length
length_exact n s = ((λ e. eqb-true (length s) n (not-false (eqb (length s) n) e)), (λ e. ap not (eq-eqb (length s) n e)))

pub wrong_ids_exact : (item replica : List ℕ) → (wrong_ids item replica ≡ false) ↔ ProperIds item replica
unfolding wrong_ids
wrong_ids_exact item replica =
    let w = neither (wrong_length 24 item) (wrong_length 16 replica) in (
      (λ e. ((length_exact 24 item).0 (w.0 e).0, (length_exact 16 replica).0 (w.0 e).1)),
      (λ e. w.1 ((length_exact 24 item).1 e.0, (length_exact 16 replica).1 e.1)),
    )

pub span_exact : (first last : List ℕ) → (wrong_span first last ≡ false) ↔ ProperSpan first last
unfolding wrong_span id_of
span_exact first last =
    let v = neither (wrong_length 24 first) (wrong_length 24 last || ltb (be_at last 24 0) (be_at first 24 0)) in
    let w = neither (wrong_length 24 last) (ltb (be_at last 24 0) (be_at first 24 0)) in (
      (λ e. (
        (length_exact 24 first).0 (v.0 e).0,
        ((length_exact 24 last).0 (w.0 (v.0 e).1).0, ltb-false (be_at last 24 0) (be_at first 24 0) (w.0 (v.0 e).1).1),
      )),
      (λ e. v.1 ((length_exact 24 first).1 e.0, w.1 ((length_exact 24 last).1 e.1.0, le-ltb (be_at last 24 0) (be_at first 24 0) e.1.1))),
    )

-- the table of a call on one knowledge, and of one on two, with 17 as the last line
module _ {A : Type 0} (refusal : ℕ → A) (w : Bool) (found : Knowledge → A) where
  pub one : Parsed Knowledge → A
  one p = first_fault refusal (own_fault p ∷ line 17 w ∷ []) (found (read_as p))

  pub one_refused : (p : Parsed Knowledge) (n : ℕ) → p ≡ refused n → one p ≡ refusal n
  unfolding one
  one_refused p n e = ap one e ∙ read_fault Knowledge refusal n (line 17 w ∷ []) _

  pub one_wrong : (p : Parsed Knowledge) (k : Knowledge) → p ≡ accepted k → w ≡ true → one p ≡ refusal 17
  unfolding one
  one_wrong p k e f = ap one e ∙ read_fine refusal k (line 17 w ∷ []) _ ∙ fault_here refusal (line 17 w) [] _ f

  pub one_right : (p : Parsed Knowledge) (k : Knowledge) → p ≡ accepted k → w ≡ false → one p ≡ found k
  unfolding one read_or
  one_right p k e f = ap one e ∙ read_fine refusal k (line 17 w ∷ []) _ ∙ fault_none refusal (line 17 w ∷ []) _ (f, tt)

module _ {A : Type 0} (refusal : ℕ → A) (w : Bool) (found : Knowledge → Knowledge → A) where
  pub two : Parsed Knowledge → Parsed Knowledge → A
  two p q = first_fault refusal (own_fault p ∷ own_fault q ∷ line 17 w ∷ []) (found (read_as p) (read_as q))

  pub two_first : (p q : Parsed Knowledge) (n : ℕ) → p ≡ refused n → two p q ≡ refusal n
  unfolding two
  two_first p q n e = ap (λ p. two p q) e ∙ read_fault Knowledge refusal n (own_fault q ∷ line 17 w ∷ []) _

  -- with the first accepted, it is the table of the second alone
  pub two_later : (p q : Parsed Knowledge) (a : Knowledge) → p ≡ accepted a → two p q ≡ one refusal w (found a) q
  unfolding one two read_or
  two_later p q a e = ap (λ p. two p q) e ∙ read_fine refusal a (own_fault q ∷ line 17 w ∷ []) _

-- a test that is not one of its two values is the other
pub no_false : (b : Bool) → (b ≡ false → ⊥) → b ≡ true
no_false true h = refl
no_false false h = absurd (h refl)

-- the answer of a test says whether what the test is exact for holds
module _ {A : Type 0} (number : A → ℕ) (value : A → ℕ → ℕ) (found : Bool → A) (fine : (b : Bool) → number (found b) ≡ 0)
    (one : (old : ℕ) → value (found true) old ≡ 1) (none : (old : ℕ) → value (found false) old ≡ 0) where
  decides : (b : Bool) (P : Type 0) → (b ≡ true) ↔ P → Decides number value (found b) P
  decides true P e = record {
    fine = fine true;
    yes = λ old. ((λ q. e.0 refl), (λ p. one old));
    no = λ old. ((λ q. absurd (omega (arith, one old))), (λ n. absurd (n (e.0 refl))));
  }
  decides false P e = record {
    fine = fine false;
    yes = λ old. ((λ q. absurd (omega (arith, none old))), (λ p. clash false (e.1 p) refl));
    no = λ old. ((λ q p. clash false (e.1 p) refl), (λ n. none old));
  }

contain_decides : (b : Bool) (P : Type 0) → (b ≡ true) ↔ P → Decides contain_number contain_value (contain_found b) P
unfolding contain_number contain_value contain_found
contain_decides =
    decides contain_number contain_value contain_found
    (λ b. elim b as (λ x. contain_number (contain_found x) ≡ 0) [ true ↦ refl | false ↦ refl ]) (λ old. refl) (λ old. refl)

cover_decides : (b : Bool) (P : Type 0) → (b ≡ true) ↔ P → Decides cover_number cover_value (cover_found b) P
unfolding cover_number cover_value cover_found
cover_decides =
    decides cover_number cover_value cover_found
    (λ b. elim b as (λ x. cover_number (cover_found x) ≡ 0) [ true ↦ refl | false ↦ refl ]) (λ old. refl) (λ old. refl)

-- a refusal: its number, and the old value
contain_refused : (x : Contain) (n : ℕ) → x ≡ C.Refused n → RefusedWith contain_number contain_value x n
unfolding contain_number contain_value
contain_refused x n e = record { told = ap contain_number e; stays = λ old. ap (λ y. contain_value y old) e }

lead_refused : (x : Lead) (n : ℕ) → x ≡ D.Refused n → RefusedWith lead_number lead_value x n
unfolding lead_number lead_value
lead_refused x n e = record { told = ap lead_number e; stays = λ old. ap (λ y. lead_value y old) e }

cover_refused : (x : Cover) (n : ℕ) → x ≡ E.Refused n → RefusedWith cover_number cover_value x n
unfolding cover_number cover_value
cover_refused x n e = record { told = ap cover_number e; stays = λ old. ap (λ y. cover_value y old) e }

-- Contain

module _ (R : Rules) (s item replica : List ℕ) (t : ℕ) where
  -- what is found for a knowledge
  unfoldable pub contain_here : Knowledge → Contain
  contain_here k = contain_found (contains k (be_at item 24 0) (be_at replica 16 0) t)

  pub contain_is : contain_answer R s item replica t ≡ one C.Refused (wrong_ids item replica) contain_here (parse R s)
  unfolding contain_answer one contain_here id_of
  contain_is = refl

  pub contain_says : ContainSays R s item replica t (contain_answer R s item replica t)
  unfolding contain_here
  contain_says = record {
    own = λ n e. contain_refused _ n (contain_is ∙ one_refused C.Refused (wrong_ids item replica) contain_here (parse R s) n e);
    ids = λ k e f.
        let wrong = no_false (wrong_ids item replica) (λ w. f ((wrong_ids_exact item replica).0 w)) in
        contain_refused _ 17 (contain_is ∙ one_wrong C.Refused (wrong_ids item replica) contain_here (parse R s) k e wrong);
    found = λ k e f.
        let right = (wrong_ids_exact item replica).1 f in
        rw (contain_is ∙ one_right C.Refused (wrong_ids item replica) contain_here (parse R s) k e right)
        (contain_decides (contains k (be_at item 24 0) (be_at replica 16 0) t)
        ((1 ≤ t) × (t ≤ known k (be_at item 24 0) (be_at replica 16 0)))
        (contains_exact k (be_at item 24 0) (be_at replica 16 0) t));
  }

-- Lead

pub sub-ahead : (a b : ℕ) → b ≤ a → pos a -ℤ pos b ≡ pos (a - b)
sub-ahead a zero h = ap pos (omega arith)
sub-ahead a (suc b) h = rw (le-ltb a (suc b) h)

pub sub-behind : (a b : ℕ) → a < b → pos a -ℤ pos b ≡ negsuc (b - suc a)
sub-behind a zero h = absurd (omega arith)
sub-behind a (suc b) h = rw (lt-ltb a (suc b) h)

-- where the first knows at least as much, the lead is the difference; else it is the negated difference
pub lead_ahead : (a b : Knowledge) (i p : ℕ) → known b i p ≤ known a i p → lead_of a b i p ≡ pos (known a i p - known b i p)
unfolding lead_of
lead_ahead a b i p h = sub-ahead (known a i p) (known b i p) h

pub lead_behind : (a b : Knowledge) (i p : ℕ) → known a i p < known b i p → lead_of a b i p ≡ negsuc (known b i p - suc (known a i p))
unfolding lead_of
lead_behind a b i p h = sub-behind (known a i p) (known b i p) h

lead_difference : (a b : Knowledge) (i p : ℕ) → Difference (D.Ahead (lead_of a b i p)) (known a i p) (known b i p)
unfolding lead_number lead_value
lead_difference a b i p = record { fine = refl; ahead = λ h old. lead_ahead a b i p h; behind = λ h old. lead_behind a b i p h }

module _ (R : Rules) (s t item replica : List ℕ) where
  unfoldable pub lead_here : Knowledge → Knowledge → Lead
  lead_here a b = D.Ahead (lead_of a b (be_at item 24 0) (be_at replica 16 0))

  pub lead_is : lead_answer R s t item replica ≡ two D.Refused (wrong_ids item replica) lead_here (parse R s) (parse R t)
  unfolding lead_answer two lead_here id_of
  lead_is = refl

  pub lead_later : (a : Knowledge) → parse R s ≡ accepted a
      → lead_answer R s t item replica ≡ one D.Refused (wrong_ids item replica) (lead_here a) (parse R t)
  lead_later a e = lead_is ∙ two_later D.Refused (wrong_ids item replica) lead_here (parse R s) (parse R t) a e

  pub lead_says : LeadSays R s t item replica (lead_answer R s t item replica)
  unfolding lead_here
  lead_says = record {
    one = λ n e. lead_refused _ n (lead_is ∙ two_first D.Refused (wrong_ids item replica) lead_here (parse R s) (parse R t) n e);
    other = λ a n e f.
        lead_refused _ n (lead_later a e ∙ one_refused D.Refused (wrong_ids item replica) (lead_here a) (parse R t) n f);
    ids = λ a b e f g.
        let wrong = no_false (wrong_ids item replica) (λ w. g ((wrong_ids_exact item replica).0 w)) in
        lead_refused _ 17 (lead_later a e ∙ one_wrong D.Refused (wrong_ids item replica) (lead_here a) (parse R t) b f wrong);
    found = λ a b e f g.
        let right = (wrong_ids_exact item replica).1 g in
        rw (lead_later a e ∙ one_right D.Refused (wrong_ids item replica) (lead_here a) (parse R t) b f right)
        (lead_difference a b (be_at item 24 0) (be_at replica 16 0));
  }

-- Cover

-- knowing at least as much for the replica ids of 16 bytes is knowing at least as much for all: no other is in a lawful map
at_least : (R : Rules) (a b : Knowledge) (first last : ℕ) → Lawful R b → Covers a b first last ↔ AtLeast a b first last
at_least R a b first last l = (
  (λ c. record { known = λ i p h k small. c.known i p h k }),
  (λ c.
      record {
        known = λ i p h k.
            elim (order (known b i p) 0) [
              | less z ↦ absurd (omega arith)
              | same z ↦ omega arith
              | more z ↦ c.known i p h k (known_id R b l i p z)
            ];
      }),
)

module _ (R : Rules) (s t first last : List ℕ) where
  unfoldable pub cover_here : Knowledge → Knowledge → Cover
  cover_here a b = cover_found (covers a b (be_at first 24 0) (be_at last 24 0))

  pub cover_is : cover_answer R s t first last ≡ two E.Refused (wrong_span first last) cover_here (parse R s) (parse R t)
  unfolding cover_answer two cover_here id_of
  cover_is = refl

  pub cover_later : (a : Knowledge) → parse R s ≡ accepted a
      → cover_answer R s t first last ≡ one E.Refused (wrong_span first last) (cover_here a) (parse R t)
  cover_later a e = cover_is ∙ two_later E.Refused (wrong_span first last) cover_here (parse R s) (parse R t) a e

  pub cover_says : Permitted R.limits → CoverSays R s t first last (cover_answer R s t first last)
  unfolding cover_here
  cover_says permitted = record {
    one = λ n e. cover_refused _ n (cover_is ∙ two_first E.Refused (wrong_span first last) cover_here (parse R s) (parse R t) n e);
    other = λ a n e f.
        cover_refused _ n (cover_later a e ∙ one_refused E.Refused (wrong_span first last) (cover_here a) (parse R t) n f);
    span = λ a b e f g.
        let wrong = no_false (wrong_span first last) (λ w. g ((span_exact first last).0 w)) in
        cover_refused _ 17 (cover_later a e ∙ one_wrong E.Refused (wrong_span first last) (cover_here a) (parse R t) b f wrong);
    found = λ a b octets e f g.
        let c = covers_exact a b (be_at first 24 0) (be_at last 24 0) in
        let d = at_least R a b (be_at first 24 0) (be_at last 24 0) (read_lawful R t b permitted octets f) in
        let right = (span_exact first last).1 g in
        rw (cover_later a e ∙ one_right E.Refused (wrong_span first last) (cover_here a) (parse R t) b f right)
        (cover_decides (covers a b (be_at first 24 0) (be_at last 24 0)) (AtLeast a b (be_at first 24 0) (be_at last 24 0))
        ((λ q. d.0 (c.0 q)), (λ q. c.1 (d.1 q))));
  }

pub answers : (R : Rules) → Permitted R.limits → Answers R
answers R permitted = record {
  contains = contain_says R;
  leads = lead_says R;
  covers = λ s t first last. cover_says R s t first last permitted;
}

-- with document 01's limits
pub answers_basic : Answers basic
answers_basic = answers basic base_permitted
