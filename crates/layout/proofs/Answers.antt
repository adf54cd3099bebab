-- The check's answer as a number and four sizes, for all bytes (`answer_accepted`, `answer_refused`): where reading accepts
-- a knowledge, the number is 0, and r, v, e and g of that knowledge stand at the front of the list of sizes, whose other
-- entries stay; where it refuses, the number is reading's, from 1 to 10 or the rules' own for a replica id, and the list
-- stays as it was.
use Prim.Native.Nat.{ℕ, ◌<◌, ◌≤◌}
use mathlib.Core.Path.{◌≡◌, refl, sym, ap, subst, ◌∙◌}
use mathlib.Core.Logic.{◌⊎◌, inl, inr}
use mathlib.Core.List.{List, [], ◌∷◌}
use native.Mathlib.Omega.{arith}
use lib.ListN.{length, get_or, set, length-set}
use lib.Seq.{sets, length-sets, get_or-set_same, get_or-set_other}
use Rattle.codec.specs.Number.{Bytes}
use Rattle.layout.specs.Checked.{Accepted, Refused}
use Rattle.layout.specs.Knowledge.{Rules, basic, Knowledge}
use Rattle.layout.specs.Permitted.{Permitted}
use Rattle.layout.specs.Answer.{checked_number, checked_sizes, elements}
use Rattle.layout.specs.Parse.{parse, checked_by}
use Rattle.layout.proofs.BackwardRefused.{refused_numbers}
use Rattle.layout.proofs.Exact.{sizes_exact, refused_exact, base_permitted}
use Rattle.codec.specs.Parsed.{accepted, refused}

-- the list `new` is `old` with r, v, e and g put over its first four entries, as many as it has
pub record Sizes (r v e g : ℕ) (old new : List ℕ) : Type 0 where
  pub same : length new ≡ length old
  pub first : 0 < length old → get_or new 0 0 ≡ r
  pub second : 1 < length old → get_or new 1 0 ≡ v
  pub third : 2 < length old → get_or new 2 0 ≡ e
  pub fourth : 3 < length old → get_or new 3 0 ≡ g
  pub others : (i : ℕ) → 4 ≤ i → get_or new i 0 ≡ get_or old i 0

sizes_put : (r v e g : ℕ) (old : List ℕ) → Sizes r v e g old (sets old 0 (r ∷ v ∷ e ∷ g ∷ []))
sizes_put r v e g old =
    let a = set old 0 r in
    let b = set a 1 v in
    let c = set b 2 e in
    let one : length a ≡ length old = length-set old 0 r in
    let two : length b ≡ length a = length-set a 1 v in
    let three : length c ≡ length b = length-set b 2 e in
    record {
      same = length-sets old 0 (r ∷ v ∷ e ∷ g ∷ []);
      first = λ h.
          get_or-set_other c 3 0 g 0 (λ z. omega arith) ∙ get_or-set_other b 2 0 e 0 (λ z. omega arith) ∙
          get_or-set_other a 1 0 v 0 (λ z. omega arith) ∙ get_or-set_same old 0 r 0 h;
      second = λ h.
          get_or-set_other c 3 1 g 0 (λ z. omega arith) ∙ get_or-set_other b 2 1 e 0 (λ z. omega arith) ∙ get_or-set_same a 1 v 0
          (omega arith);
      third = λ h. get_or-set_other c 3 2 g 0 (λ z. omega arith) ∙ get_or-set_same b 2 e 0 (omega arith);
      fourth = λ h. get_or-set_same c 3 g 0 (omega arith);
      others = λ i h.
          get_or-set_other c 3 i g 0 (λ z. omega arith) ∙ get_or-set_other b 2 i e 0 (λ z. omega arith) ∙
          get_or-set_other a 1 i v 0 (λ z. omega arith) ∙ get_or-set_other old 0 i r 0 (λ z. omega arith);
    }

-- the answer's cases
number_accepted : (r v e g : ℕ) → checked_number (Accepted r v e g) ≡ 0
unfolding checked_number
number_accepted r v e g = refl

number_refused : (n : ℕ) → checked_number (Refused n) ≡ n
unfolding checked_number
number_refused n = refl

sizes_accepted : (r v e g : ℕ) (old : List ℕ) → Sizes r v e g old (checked_sizes (Accepted r v e g) old)
unfolding checked_sizes
sizes_accepted r v e g old = sizes_put r v e g old

sizes_refused : (n : ℕ) (old : List ℕ) → checked_sizes (Refused n) old ≡ old
unfolding checked_sizes
sizes_refused n old = refl

-- what the check answers where reading accepts k
pub record Accepts (R : Rules) (s : List ℕ) (k : Knowledge) : Type 0 where
  pub number : checked_number (checked_by R s) ≡ 0
  pub sizes : (old : List ℕ) →
      Sizes (length k.replicas) (length k.vectors) (elements k.vectors) (length k.ranges) old (checked_sizes
      (checked_by R s) old)

-- and where it refuses with n
pub record Refusal (R : Rules) (s : List ℕ) (n : ℕ) : Type 0 where
  pub number : checked_number (checked_by R s) ≡ n
  pub table : ((1 ≤ n) × (n ≤ 10)) ⊎ ((id : ℕ) × (1 ≤ n) × (R.judge id ≡ n))
  pub sizes : (old : List ℕ) → checked_sizes (checked_by R s) old ≡ old

module _ (R : Rules) (permitted : Permitted R.limits) where
  pub answer_accepted : (s : List ℕ) (k : Knowledge) → Bytes s → parse R s ≡ accepted k → Accepts R s k
  answer_accepted s k b h =
      let is = sizes_exact R permitted s k b h in
      let r = length k.replicas in
      let v = length k.vectors in
      let e = elements k.vectors in
      let g = length k.ranges in
      record {
        number = ap checked_number is ∙ number_accepted r v e g;
        sizes = λ old. subst (λ c. Sizes r v e g old (checked_sizes c old)) (sym is) (sizes_accepted r v e g old);
      }

  pub answer_refused : (s : List ℕ) (n : ℕ) → parse R s ≡ refused n → Refusal R s n
  answer_refused s n h =
      let is = (refused_exact R permitted s n).1 h in
      record {
        number = ap checked_number is ∙ number_refused n;
        table =
            refused_numbers (λ m. ((1 ≤ m) × (m ≤ 10)) ⊎ ((id : ℕ) × (1 ≤ m) × (R.judge id ≡ m))) (λ m lo hi. inl (lo, hi)) R
            (λ id m e. inr (id, omega arith, refl)) s n is;
        sizes = λ old. ap (λ c. checked_sizes c old) is ∙ sizes_refused n old;
      }

-- document 01's rules refuse no id for itself: the numbers are those of its table
pub answer_basic : (s : List ℕ) (n : ℕ) → parse basic s ≡ refused n → (1 ≤ n) × (n ≤ 10)
answer_basic s n h = elim (answer_refused basic base_permitted s n h).table [
  | inl l ↦ l
  | inr j ↦ absurd (omega
      (arith, j.1, j.2))
]
