-- A table of refusals told in plain relations. A line of a call's table is a number and a test; here each line stands
-- beside a rule: its number, what holds where the test is met, and what holds where it is not. Then the call refuses n
-- exactly where the rule with that number has its condition met and every rule before it has its otherwise, and it
-- gives its bytes exactly where every rule has its otherwise. Each follows from the law of tables line by line.
use Prim.Native.Nat.{ℕ, zero, suc}
use mathlib.Core.Path.{◌≡◌, refl, sym, ap, ◌∙◌}
use mathlib.Core.Logic.{◌⊎◌, inl, inr, ◌↔◌}
use mathlib.Core.Bool.{Bool, true, false, not}
use mathlib.Core.List.{List, [], ◌∷◌, ◌++◌}
use native.Mathlib.Omega.{arith}
use lib.Dec.{eqb}
use borrow.Author.Tests.{eqb-true, eqb-false, not-true}
use Rattle.codec.specs.Reply.{Reply, gives, refuses, Line, first_fault}
use Rattle.codec.proofs.Replies.{First, None, fault_exact, fault_gives, fault_none}
use Rattle.ticks.proofs.Lists.{Among}
use Rattle.replication.specs.Reading.{both}
use Rattle.replication.specs.Calls.{then}
use Rattle.replication.proofs.Tables.Rising.{both_parts}

pub record Rule : Type 1 where
  pub number : ℕ
  pub condition : Type 0
  pub otherwise : Type 0

abbrev pub rule : ℕ → Type 0 → Type 0 → Rule
rule n C D = record { number = n; condition = C; otherwise = D }

-- a line says what a rule says
pub record Means (l : Line) (c : Rule) : Type 0 where
  pub number : l.number ≡ c.number
  pub yes : l.holds ≡ true → c.condition
  pub no : l.holds ≡ false → c.otherwise
  pub apart : c.condition → c.otherwise → ⊥

-- n is the number of the first rule whose condition is met
abbrev pub FirstOf : ℕ → List Rule → Type 0
FirstOf n [] = ⊥
FirstOf n (c ∷ cs) = (c.condition × (c.number ≡ n)) ⊎ (c.otherwise × FirstOf n cs)

-- no condition is met
abbrev pub NoneOf : List Rule → Type 0
NoneOf [] = Unit
NoneOf (c ∷ cs) = c.otherwise × NoneOf cs

-- the condition at a place is met and none before it
abbrev pub At : ℕ → List Rule → Type 0
At k [] = ⊥
At zero (c ∷ cs) = c.condition
At (suc k) (c ∷ cs) = c.otherwise × At k cs

abbrev pub numbers : List Rule → List ℕ
numbers [] = []
numbers (c ∷ cs) = c.number ∷ numbers cs

-- no rule has the number; only the rule at this place has it; only those at these two places
abbrev pub absent : ℕ → List Rule → Bool
absent n [] = true
absent n (c ∷ cs) = both (not (eqb c.number n)) (absent n cs)

abbrev pub only : ℕ → ℕ → List Rule → Bool
only n k [] = false
only n zero (c ∷ cs) = both (eqb c.number n) (absent n cs)
only n (suc k) (c ∷ cs) = both (not (eqb c.number n)) (only n k cs)

abbrev pub pair : ℕ → ℕ → ℕ → List Rule → Bool
pair n j k [] = false
pair n zero k (c ∷ cs) = both (eqb c.number n) (only n k cs)
pair n (suc j) k (c ∷ cs) = both (not (eqb c.number n)) (pair n j k cs)

-- ---- one line, one rule

holds_apart : (l : Line) (c : Rule) → Means l c → c.condition → l.holds ≡ true
holds_apart l c m x = go l.holds refl
  where
    go : (t : Bool) → l.holds ≡ t → l.holds ≡ true
    go true e = e
    go false e = absurd (m.apart x (m.no e))

fails_apart : (l : Line) (c : Rule) → Means l c → c.otherwise → l.holds ≡ false
fails_apart l c m x = go l.holds refl
  where
    go : (t : Bool) → l.holds ≡ t → l.holds ≡ false
    go true e = absurd (m.apart (m.yes e) x)
    go false e = e

-- ---- the whole table

-- lines say what rules say: the first that holds has the same number, and none holds in the same case
pub record Told (ls : List Line) (cs : List Rule) : Type 0 where
  pub first : (n : ℕ) → First n ls ↔ FirstOf n cs
  pub none : None ls ↔ NoneOf cs

pub told-nil : Told [] []
told-nil = record { first = λ n. (λ f. f, λ f. f); none = (λ f. tt, λ f. tt) }

pub told-cons : (l : Line) (ls : List Line) (c : Rule) (cs : List Rule) → Means l c → Told ls cs → Told (l ∷ ls) (c ∷ cs)
told-cons l ls c cs m t = record {
  first = λ n. (there n, back n);
  none = (λ f. (m.no f.0, t.none.0 f.1), λ f. (fails_apart l c m f.0, t.none.1 f.1));
}
  where
    there : (n : ℕ) → First n (l ∷ ls) → FirstOf n (c ∷ cs)
    there n (inl h) = inl (m.yes h.0, sym m.number ∙ h.1)
    there n (inr h) = inr (m.no h.0, (t.first n).0 h.1)

    back : (n : ℕ) → FirstOf n (c ∷ cs) → First n (l ∷ ls)
    back n (inl h) = inl (holds_apart l c m h.0, m.number ∙ h.1)
    back n (inr h) = inr (fails_apart l c m h.0, (t.first n).1 h.1)

-- one list of lines after the other
first_then : (n : ℕ) (ls ms : List Line) → First n (then ls ms) ↔ (First n ls ⊎ (None ls × First n ms))
unfolding then
first_then n [] ms = (λ f. inr (tt, f), λ f. elim f [ inl x ↦ absurd x | inr x ↦ x.1 ])
first_then n (l ∷ ls) ms = (there (first_then n ls ms).0, back (first_then n ls ms).1)
  where
    there : (First n (then ls ms) → First n ls ⊎ (None ls × First n ms)) → First n (then (l ∷ ls) ms) → First n (l ∷ ls) ⊎ (None (l ∷ ls) × First n ms)
    there rest (inl h) = inl (inl h)
    there rest (inr h) = elim (rest h.1) [ inl x ↦ inl (inr (h.0, x)) | inr x ↦ inr ((h.0, x.0), x.1) ]

    back : (First n ls ⊎ (None ls × First n ms) → First n (then ls ms)) → First n (l ∷ ls) ⊎ (None (l ∷ ls) × First n ms) → First n (then (l ∷ ls) ms)
    back rest (inl (inl h)) = inl h
    back rest (inl (inr h)) = inr (h.0, rest (inl h.1))
    back rest (inr h) = inr (h.0.0, rest (inr (h.0.1, h.1)))

none_then : (ls ms : List Line) → None (then ls ms) ↔ (None ls × None ms)
unfolding then
none_then [] ms = (λ f. (tt, f), λ f. f.1)
none_then (l ∷ ls) ms = (
  (λ f. let r = (none_then ls ms).0 f.1 in ((f.0, r.0), r.1)),
  λ f. (f.0.0, (none_then ls ms).1 (f.0.1, f.1)),
)

first_after : (n : ℕ) (cs ds : List Rule) → FirstOf n (cs ++ ds) ↔ (FirstOf n cs ⊎ (NoneOf cs × FirstOf n ds))
first_after n [] ds = (λ f. inr (tt, f), λ f. elim f [ inl x ↦ absurd x | inr x ↦ x.1 ])
first_after n (c ∷ cs) ds = (there (first_after n cs ds).0, back (first_after n cs ds).1)
  where
    there : (FirstOf n (cs ++ ds) → FirstOf n cs ⊎ (NoneOf cs × FirstOf n ds)) → FirstOf n (c ∷ cs ++ ds) → FirstOf n (c ∷ cs) ⊎ (NoneOf (c ∷ cs) × FirstOf n ds)
    there rest (inl h) = inl (inl h)
    there rest (inr h) = elim (rest h.1) [ inl x ↦ inl (inr (h.0, x)) | inr x ↦ inr ((h.0, x.0), x.1) ]

    back : (FirstOf n cs ⊎ (NoneOf cs × FirstOf n ds) → FirstOf n (cs ++ ds)) → FirstOf n (c ∷ cs) ⊎ (NoneOf (c ∷ cs) × FirstOf n ds) → FirstOf n (c ∷ cs ++ ds)
    back rest (inl (inl h)) = inl h
    back rest (inl (inr h)) = inr (h.0, rest (inl h.1))
    back rest (inr h) = inr (h.0.0, rest (inr (h.0.1, h.1)))

none_after : (cs ds : List Rule) → NoneOf (cs ++ ds) ↔ (NoneOf cs × NoneOf ds)
none_after [] ds = (λ f. (tt, f), λ f. f.1)
none_after (c ∷ cs) ds = (
  (λ f. let r = (none_after cs ds).0 f.1 in ((f.0, r.0), r.1)),
  λ f. (f.0.0, (none_after cs ds).1 (f.0.1, f.1)),
)

pub told_then : (ls ms : List Line) (cs ds : List Rule) → Told ls cs → Told ms ds → Told (then ls ms) (cs ++ ds)
told_then ls ms cs ds t u = record {
  first = λ n. (
    (λ f. (first_after n cs ds).1 (there n ((first_then n ls ms).0 f))),
    λ f. (first_then n ls ms).1 (back n ((first_after n cs ds).0 f)),
  );
  none = (
    (λ f. let r = (none_then ls ms).0 f in (none_after cs ds).1 (t.none.0 r.0, u.none.0 r.1)),
    λ f. let r = (none_after cs ds).0 f in (none_then ls ms).1 (t.none.1 r.0, u.none.1 r.1),
  );
}
  where
    there : (n : ℕ) → First n ls ⊎ (None ls × First n ms) → FirstOf n cs ⊎ (NoneOf cs × FirstOf n ds)
    there n (inl x) = inl ((t.first n).0 x)
    there n (inr x) = inr (t.none.0 x.0, (u.first n).0 x.1)

    back : (n : ℕ) → FirstOf n cs ⊎ (NoneOf cs × FirstOf n ds) → First n ls ⊎ (None ls × First n ms)
    back n (inl x) = inl ((t.first n).1 x)
    back n (inr x) = inr (t.none.1 x.0, (u.first n).1 x.1)

-- ---- numbers

number_is : (n : ℕ) (cs : List Rule) → FirstOf n cs → Among n (numbers cs)
number_is n [] f = f
number_is n (c ∷ cs) (inl h) = inl (sym h.1)
number_is n (c ∷ cs) (inr h) = inr (number_is n cs h.1)

absent_no : (n : ℕ) (cs : List Rule) → absent n cs ≡ true → FirstOf n cs → ⊥
absent_no n [] a f = f
absent_no n (c ∷ cs) a (inl h) =
    eqb-false c.number n (not-true (eqb c.number n) (both_parts (not (eqb c.number n)) (absent n cs) a).0) h.1
absent_no n (c ∷ cs) a (inr h) = absent_no n cs (both_parts (not (eqb c.number n)) (absent n cs) a).1 h.1

only_there : (n k : ℕ) (cs : List Rule) → only n k cs ≡ true → FirstOf n cs → At k cs
only_there n k [] o f = f
only_there n zero (c ∷ cs) o (inl h) = h.0
only_there n zero (c ∷ cs) o (inr h) = absurd (absent_no n cs (both_parts (eqb c.number n) (absent n cs) o).1 h.1)
only_there n (suc k) (c ∷ cs) o (inl h) =
    absurd (eqb-false c.number n (not-true (eqb c.number n) (both_parts (not (eqb c.number n)) (only n k cs) o).0) h.1)
only_there n (suc k) (c ∷ cs) o (inr h) = (h.0, only_there n k cs (both_parts (not (eqb c.number n)) (only n k cs) o).1 h.1)

only_back : (n k : ℕ) (cs : List Rule) → only n k cs ≡ true → At k cs → FirstOf n cs
only_back n k [] o a = a
only_back n zero (c ∷ cs) o a = inl (a, eqb-true c.number n (both_parts (eqb c.number n) (absent n cs) o).0)
only_back n (suc k) (c ∷ cs) o a = inr (a.0, only_back n k cs (both_parts (not (eqb c.number n)) (only n k cs) o).1 a.1)

-- the two places j and j + 1 + k
abbrev pub later : ℕ → ℕ → ℕ
later zero k = suc k
later (suc j) k = suc (later j k)

pair_there : (n j k : ℕ) (cs : List Rule) → pair n j k cs ≡ true → FirstOf n cs → At j cs ⊎ At (later j k) cs
pair_there n j k [] o f = absurd f
pair_there n zero k (c ∷ cs) o (inl h) = inl h.0
pair_there n zero k (c ∷ cs) o (inr h) = inr (h.0, only_there n k cs (both_parts (eqb c.number n) (only n k cs) o).1 h.1)
pair_there n (suc j) k (c ∷ cs) o (inl h) =
    absurd (eqb-false c.number n (not-true (eqb c.number n) (both_parts (not (eqb c.number n)) (pair n j k cs) o).0) h.1)
pair_there n (suc j) k (c ∷ cs) o (inr h) =
    elim (pair_there n j k cs (both_parts (not (eqb c.number n)) (pair n j k cs) o).1 h.1) [
      | inl a ↦ inl (h.0, a)
      | inr a ↦ inr (h.0, a)
    ]

pair_back : (n j k : ℕ) (cs : List Rule) → pair n j k cs ≡ true → At j cs ⊎ At (later j k) cs → FirstOf n cs
pair_back n j k [] o f = elim f [ inl a ↦ only_none j a | inr a ↦ only_none (later j k) a ]
  where
    only_none : (i : ℕ) → At i [] → FirstOf n []
    only_none i a = a
pair_back n zero k (c ∷ cs) o (inl a) = inl (a, eqb-true c.number n (both_parts (eqb c.number n) (only n k cs) o).0)
pair_back n zero k (c ∷ cs) o (inr a) = inr (a.0, only_back n k cs (both_parts (eqb c.number n) (only n k cs) o).1 a.1)
pair_back n (suc j) k (c ∷ cs) o (inl a) = inr (a.0, pair_back n j k cs (both_parts (not (eqb c.number n)) (pair n j k cs) o).1 (inl a.1))
pair_back n (suc j) k (c ∷ cs) o (inr a) = inr (a.0, pair_back n j k cs (both_parts (not (eqb c.number n)) (pair n j k cs) o).1 (inr a.1))

-- ---- a call that is a table

module _ (r : Reply) (ls : List Line) (cs : List Rule) (bs : List ℕ) (e : r ≡ first_fault refuses ls (gives bs)) (t : Told ls cs) where
  pub refused_first : (n : ℕ) → (r ≡ refuses n) ↔ FirstOf n cs
  refused_first n = (
    (λ h. (t.first n).0 ((fault_exact ls bs n).0 (sym e ∙ h))),
    λ f. e ∙ (fault_exact ls bs n).1 ((t.first n).1 f),
  )

  -- the number of one rule only
  pub refused_at : (n k : ℕ) → only n k cs ≡ true → (r ≡ refuses n) ↔ At k cs
  refused_at n k o = (
    (λ h. only_there n k cs o ((refused_first n).0 h)),
    λ a. (refused_first n).1 (only_back n k cs o a),
  )

  -- the number of two rules
  pub refused_pair : (n j k : ℕ) → pair n j k cs ≡ true → (r ≡ refuses n) ↔ (At j cs ⊎ At (later j k) cs)
  refused_pair n j k o = (
    (λ h. pair_there n j k cs o ((refused_first n).0 h)),
    λ a. (refused_first n).1 (pair_back n j k cs o a),
  )

  -- the numbers of the table and no others
  pub refused_among : (n : ℕ) → r ≡ refuses n → Among n (numbers cs)
  refused_among n h = number_is n cs ((refused_first n).0 h)

  pub refused_never : (n : ℕ) → absent n cs ≡ true → r ≡ refuses n → ⊥
  refused_never n a h = absent_no n cs a ((refused_first n).0 h)

  pub given_none : (cs' : List ℕ) → (r ≡ gives cs') ↔ (NoneOf cs × (cs' ≡ bs))
  given_none cs' = (
    (λ h. let g = fault_gives ls bs cs' (sym e ∙ h) in (t.none.0 g.0, sym g.1)),
    λ h. e ∙ (fault_none refuses ls (gives bs) (t.none.1 h.0) ∙ ap gives (sym h.1)),
  )

-- a reply is no refusal with another number, and bytes are no refusal
pub refuses_same : (r : Reply) (m n : ℕ) → r ≡ refuses m → r ≡ refuses n → m ≡ n
refuses_same r m n a b = cc

pub gives_refuses : (r : Reply) (bs : List ℕ) (n : ℕ) → r ≡ gives bs → r ≡ refuses n → ⊥
gives_refuses r bs n a b =
    let z : ◌≡◌ {A = ℕ} 0 1 = cc in
    omega arith
