-- The part that is handed out, for each answer: its bytes, its place in the lent slices, and the number beside it. A slice from a place on
-- points that far into the slice that it was taken of.
use Prim.Native.Nat.{ℕ, ◌+◌, ◌-◌}
use mathlib.Core.Path.{◌≡◌, sym, ap, subst, ◌∙◌}
use mathlib.Core.List.{List, []}
use native.Mathlib.Omega.{arith}
use lib.ListN.{take, drop}
use denote.Ref.{Bor}
use Rattle.std.specs.Prelude.{Option, Some, None, Result, Ok, Err}
use Rattle.codec.specs.declared.Refusal.{Refusal}
use Rattle.codec.specs.Refusal.{number}
use Rattle.replication.specs.declared.Location.{Location}
use Rattle.replication.specs.declared.Side.{Side}
use Rattle.replication.specs.declared.Side.TheVariants.{Store, Batch}
use Rattle.replication.specs.Part.{Part, located, part_of}
use Rattle.replication.specs.Part as P
use Rattle.replication.specs.Queries.{part_bytes, part_number}
use Rattle.store_queries.specs.Lent.{PointsInto}

-- what a call found, as the definitions' answer
module _ (p : Result (Option Location) Refusal) where
  pub found_none : (o : Option Location) → p ≡ Ok o → o ≡ None → part_of p ≡ P.Nothing
  unfolding part_of
  found_none o e g = ap part_of e ∙ ap (λ (x : Option Location). part_of (Ok x)) g

  pub found_refused : (d : Refusal) → p ≡ Err d → part_of p ≡ P.Refused (number d)
  unfolding part_of
  found_refused d e = ap part_of e

  module _ (o : Option Location) (e : p ≡ Ok o) (l : Location) (g : o ≡ Some l) where
    pub found_in_store : l.side ≡ Store → part_of p ≡ P.OfStore l.at l.length
    unfolding part_of located
    found_in_store f = ap part_of e ∙ ap (λ (x : Option Location). part_of (Ok x)) g ∙ ap (λ (d : Side). located d l.at l.length) f

    pub found_in_batch : l.side ≡ Batch → part_of p ≡ P.OfBatch l.at l.length
    unfolding part_of located
    found_in_batch f = ap part_of e ∙ ap (λ (x : Option Location). part_of (Ok x)) g ∙ ap (λ (d : Side). located d l.at l.length) f

-- what `part_of` ensures
abbrev pub Handed : Part → Bor (List ℕ) → Bor (List ℕ) → Bor (List ℕ) → ℕ → Type 0
Handed p s t r number = (r.now ≡ part_bytes p s.now t.now) × (PointsInto p s t r × (number ≡ part_number p))

-- a slice from a place on for so many bytes
pub taken : (s : List ℕ) (at n : ℕ) → take (at + n - at) (drop at s) ≡ take n (drop at s)
taken s at n = let e : at + n - at ≡ n = omega arith in ap (λ (m : ℕ). take m (drop at s)) e

module _ (p : Part) (s t r : Bor (List ℕ)) where
  pub hands_nothing : p ≡ P.Nothing → r.now ≡ [] → Handed p s t r 0
  unfolding part_bytes part_number
  hands_nothing e b = (
    b ∙ sym (ap (λ (q : Part). part_bytes q s.now t.now) e),
    (
      record {
        of_store = λ at n f. absurd (let z : ◌≡◌ {A = ℕ} 0 1 = cc in omega arith);
        of_batch = λ at n f. absurd (let z : ◌≡◌ {A = ℕ} 0 1 = cc in omega arith);
      },
      sym (ap part_number e),
    ),
  )

  pub hands_refusal : (k : ℕ) → p ≡ P.Refused k → r.now ≡ [] → Handed p s t r k
  unfolding part_bytes part_number
  hands_refusal k e b = (
    b ∙ sym (ap (λ (q : Part). part_bytes q s.now t.now) e),
    (
      record {
        of_store = λ at n f. absurd (let z : ◌≡◌ {A = ℕ} 0 1 = cc in omega arith);
        of_batch = λ at n f. absurd (let z : ◌≡◌ {A = ℕ} 0 1 = cc in omega arith);
      },
      sym (ap part_number e),
    ),
  )

  module _ (at n : ℕ) where
    pub hands_store : p ≡ P.OfStore at n → r.now ≡ take (at + n - at) (drop at s.now) → r.ref_ptr ≡ (s.ref_ptr.0, at + s.ref_ptr.1)
        → Handed p s t r 0
    unfolding part_bytes part_number
    hands_store e b h = (
      b ∙ taken s.now at n ∙ sym (ap (λ (q : Part). part_bytes q s.now t.now) e),
      (
        record {
          of_store = λ x m f.
              let g : at ≡ x = cc in
              h ∙ ap (λ (y : ℕ). (s.ref_ptr.0, y + s.ref_ptr.1)) g;
          of_batch = λ x m f. absurd (let z : ◌≡◌ {A = ℕ} 0 1 = cc in omega arith);
        },
        sym (ap part_number e),
      ),
    )

    pub hands_batch : p ≡ P.OfBatch at n → r.now ≡ take (at + n - at) (drop at t.now) → r.ref_ptr ≡ (t.ref_ptr.0, at + t.ref_ptr.1)
        → Handed p s t r 0
    unfolding part_bytes part_number
    hands_batch e b h = (
      b ∙ taken t.now at n ∙ sym (ap (λ (q : Part). part_bytes q s.now t.now) e),
      (
        record {
          of_store = λ x m f. absurd (let z : ◌≡◌ {A = ℕ} 0 1 = cc in omega arith);
          of_batch = λ x m f.
              let g : at ≡ x = cc in
              h ∙ ap (λ (y : ℕ). (t.ref_ptr.0, y + t.ref_ptr.1)) g;
        },
        sym (ap part_number e),
      ),
    )

-- what is handed out for an answer, by what the answer is
pub handed_as : (p q : Part) → p ≡ q → (s t r : Bor (List ℕ)) (number : ℕ) → Handed p s t r number → Handed q s t r number
handed_as p q e s t r number h = subst (λ (x : Part). Handed x s t r number) e h
