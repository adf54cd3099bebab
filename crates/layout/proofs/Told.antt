-- What a caller of the check is told, for each of its two answers: the number; and the four stores of an accepted knowledge's sizes are
-- those that the definition names, while a refusal leaves the numbers as they were. And what the code finds, as such an answer.
use Prim.Native.Nat.{ℕ}
use mathlib.Core.Path.{◌≡◌, refl, sym, ap}
use mathlib.Core.List.{List}
use lib.ListN.{set}
use Rattle.std.proofs.Common.{Ok, Err}
use Rattle.codec.specs.declared.Refusal.{Refusal}
use Rattle.codec.specs.Refusal.{number}
use Rattle.layout.specs.declared.Counts.{Counts}
use Rattle.layout.specs.Checked.{Checked, Accepted, Refused, checked_of}
use Rattle.layout.specs.Answer.{checked_number, checked_sizes}

module _ (c : Checked) (r v e g : ℕ) (is : c ≡ Accepted r v e g) where
  pub number_accepted : 0 ≡ checked_number c
  unfolding checked_number
  number_accepted = sym (ap checked_number is)

  pub sizes_accepted : (old : List ℕ) → set (set (set (set old 0 r) 1 v) 2 e) 3 g ≡ checked_sizes c old
  unfolding checked_sizes
  sizes_accepted old = sym (ap (λ k. checked_sizes k old) is)

module _ (c : Checked) (n : ℕ) (is : c ≡ Refused n) where
  pub number_refused : n ≡ checked_number c
  unfolding checked_number
  number_refused = sym (ap checked_number is)

  pub sizes_refused : (old : List ℕ) → old ≡ checked_sizes c old
  unfolding checked_sizes
  sizes_refused old = sym (ap (λ k. checked_sizes k old) is)

-- what the code finds
pub checked_counts : (n : Counts) → checked_of (Ok n) ≡ Accepted n.r n.v n.e n.g
unfolding checked_of
checked_counts n = refl

pub checked_refusal : (e : Refusal) → checked_of (Err e) ≡ Refused (number e)
unfolding checked_of
checked_refusal e = refl
