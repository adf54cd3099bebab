-- The steps of reading, one law for each way that a function of the code returns: its premises are the facts that
-- the code has tested there. Each holds since the definition makes the same test.
use mathlib.Core.Path.{◌≡◌, refl, sym, ap, ◌∙◌}
use Rattle.std.specs.Prelude.{Result, Ok, Err, IsErrAnd}
use Rattle.std.proofs.lemmas.Result.{err_from_is_err_and}
use mathlib.Core.List.{List}
use Prim.Native.Nat.{ℕ, ◌+◌, ◌≤◌, ◌<◌}
use borrow.Author.Tests.{le-leb, lt-leb, eq-eqb, ne_eqb}
use lib.ListN.{length}
use Rattle.codec.specs.Number.{be_at}
use Rattle.codec.specs.Total.{read_at}
use Rattle.codec.proofs.Total.{read_there}
use Rattle.layout.specs.Got.{Got}
use Rattle.codec.specs.declared.Refusal.{Refusal}
use Rattle.layout.specs.declared.Read.{Read}
use Rattle.layout.specs.Got.{Num, Fault, got_of}
use Rattle.layout.specs.Read.{◌▷◌, number, same, limit, empty}
use Rattle.codec.specs.Refusal.{number as refusal}
use Rattle.check_fields.specs.Method.{got_under}

-- one more part of a size, counted, and inside the bytes
pub record Went (s : List ℕ) (size k at y b : ℕ) : Type 0 where
  pub count : y ≡ k + 1
  pub place : b ≡ at + size
  pub inside : b ≤ length s

pub number_there : (s : List ℕ) (n x at : ℕ) → at + n ≤ length s → number s n x at ≡ Num (be_at s n at) (at + n)
unfolding number
number_there s n x at h = rw (le-leb (at + n) (length s) h, number)

pub number_short : (s : List ℕ) (n x at : ℕ) → length s < at + n → number s n x at ≡ Fault 1
unfolding number
number_short s n x at h = rw (lt-leb (at + n) (length s) h, number)

pub number_is : (s : List ℕ) (n x at y : ℕ) → at + n ≤ length s → y ≡ read_at s n at → Num y (at + n) ≡ number s n x at
number_is s n x at y h e = rw (e, read_there s n at h) (sym (number_there s n x at h))

-- the number before does not matter
pub number_any : (s : List ℕ) (n x at : ℕ) → number s n 0 at ≡ number s n x at
unfolding number
number_any s n x at = refl

-- ---- the exits of a `?`: the refusal is handed on, and without one the next step follows

module _ (r : Result Read Refusal) (e : Refusal) (h : IsErrAnd r (λ x. x ≡ e)) (g : Got) (i : got_of (Err e) ≡ g) where
  pub passed : got_of r ≡ g
  passed = let p = err_from_is_err_and r h in ap got_of (p.1 ∙ ap Err p.2) ∙ i

  pub passed_on : (f : ℕ → ℕ → Got) → got_of r ≡ (g ▷ f)
  unfolding got_of
  passed_on f = passed ∙ sym i ∙ ap (λ (k : Got). k ▷ f) i

-- the same where the errors have numbers, whichever type they are of
module _ {E : Type 0} (number_of : E → ℕ) (g : Result Read E) where
  pub under_fault : (e : E) → g ≡ Err e → (f : ℕ → ℕ → Got) → got_under number_of (Err e) ≡ (got_under number_of g ▷ f)
  unfolding got_under
  under_fault e is f = sym (ap (λ x. got_under number_of x ▷ f) is)

-- under the numbers of the refusals it is what reading comes to
pub got_refusals : (r : Result Read Refusal) → got_under refusal r ≡ got_of r
unfolding got_under got_of
got_refusals (Ok x) = refl
got_refusals (Err e) = refl

pub limited : (a b : Result Read Refusal) (lo hi : ℕ) → got_under refusal b ≡ (got_under refusal a ▷ limit lo hi)
    → got_of b ≡ (got_of a ▷ limit lo hi)
limited a b lo hi h = sym (got_refusals b) ∙ h ∙ ap (λ (k : Got). k ▷ limit lo hi) (got_refusals a)

pub then_on : (x : Read) (g h : Got) (f : ℕ → ℕ → Got) → got_of (Ok x) ≡ g → h ≡ f x.number x.next → h ≡ (g ▷ f)
unfolding got_of
then_on x g h f e i = i ∙ ap (λ (k : Got). k ▷ f) e

-- ---- a comparison

pub same_yes : (w : ℕ) (g : Got) (x at : ℕ) → g ≡ Num x at → x ≡ w → Num x at ≡ (g ▷ same w)
unfolding same
same_yes w g x at e f = rw (e, eq-eqb x w f, same)

pub same_no : (w : ℕ) (g : Got) (x at : ℕ) → g ≡ Num x at → (x ≡ w → ⊥) → Fault 2 ≡ (g ▷ same w)
unfolding same
same_no w g x at e f = rw (e, ne_eqb x w f, same)

pub limit_low : (lo hi : ℕ) (g : Got) (x at : ℕ) → g ≡ Num x at → x < lo → Fault 3 ≡ (g ▷ limit lo hi)
unfolding limit
limit_low lo hi g x at e h = rw (e, lt-leb lo x h, limit)

pub limit_high : (lo hi : ℕ) (g : Got) (x at : ℕ) → g ≡ Num x at → lo ≤ x → hi < x → Fault 3 ≡ (g ▷ limit lo hi)
unfolding limit
limit_high lo hi g x at e h k = rw (e, le-leb lo x h, lt-leb x hi k, limit)

pub limit_in : (lo hi : ℕ) (g : Got) (x at : ℕ) → g ≡ Num x at → lo ≤ x → x ≤ hi → Num x at ≡ (g ▷ limit lo hi)
unfolding limit
limit_in lo hi g x at e h k = rw (e, le-leb lo x h, le-leb x hi k, limit)

pub empty_yes : (g : Got) (x at : ℕ) → g ≡ Num x at → x ≡ 0 → Num x at ≡ (g ▷ empty)
unfolding empty
empty_yes g x at e f = rw (e, f)

pub empty_no : (g : Got) (x at : ℕ) → g ≡ Num x at → (x ≡ 0 → ⊥) → Fault 4 ≡ (g ▷ empty)
unfolding empty
empty_no g x at e f = rw (e, ne_eqb x 0 f, empty)
