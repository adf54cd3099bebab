-- The answer of the check, part by part: a fault is the answer, and where a part has none the answer is that of what is left.
use Rattle.std.proofs.Common.{◌≡◌, ℕ, ap, sym, ◌∙◌, List, length}
use Rattle.std.specs.Prelude.{Result, Ok, Err, IsErrAnd}
use Rattle.std.proofs.lemmas.Result.{err_from_is_err_and}
use borrow.Author.Tests.{eq-eqb, ne_eqb}
use Rattle.codec.specs.declared.Refusal.{Refusal}
use Rattle.layout.specs.declared.Counts.{Counts}
use Rattle.layout.specs.declared.Read.{Read}
use Rattle.layout.specs.Got.{Got, got_of}
use Rattle.layout.specs.Checked.{Checked, checked_of}
use Rattle.layout.specs.Checked.{Refused}
use Rattle.layout.specs.Parse.{◌▶◌, ended}

-- a part's refusal is handed on by `?`
module _ (r : Result Counts Refusal) (e : Refusal) (h : IsErrAnd r (λ x. x ≡ e)) where
  pub told_fault : (g : Got) (f : ℕ → ℕ → Checked) → got_of (Err e) ≡ g → checked_of r ≡ (g ▶ f)
  unfolding got_of checked_of
  told_fault g f i =
      let p = err_from_is_err_and r h in
      ap checked_of (p.1 ∙ ap Err p.2) ∙ ap (λ (k : Got). k ▶ f) i

pub told_on : (x : Read) (g : Got) (f : ℕ → ℕ → Checked) (c : Checked) → got_of (Ok x) ≡ g → c ≡ f x.number x.next → c ≡ (g ▶ f)
unfolding got_of
told_on x g f c e i = i ∙ ap (λ (k : Got). k ▶ f) e

module _ (s : List ℕ) (c : Checked) (x at : ℕ) where
  pub ended_there : at ≡ length s → c ≡ ended s c x at
  unfolding ended
  ended_there h = sym (rw (eq-eqb at (length s) h, ended))

  pub ended_before : (at ≡ length s → ⊥) → Refused 10 ≡ ended s c x at
  unfolding ended
  ended_before h = sym (rw (ne_eqb at (length s) h, ended))
