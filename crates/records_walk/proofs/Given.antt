-- What a walker gives, by the length of the record at its place: where a whole record stands the part is its bytes and the next place is
-- behind it; elsewhere nothing is left to give, the part is empty and the place stays. A part that is given is never empty, so that
-- the empty part tells the end.
use Prim.Native.Nat.{ℕ, zero, suc, max, ◌+◌, ◌-◌, ◌≤◌}
use mathlib.Core.Path.{◌≡◌, refl, sym, ap, ◌∙◌}
use mathlib.Core.Bool.{Bool, true, false}
use mathlib.Core.List.{List, [], ◌∷◌}
use native.Mathlib.Omega.{arith}
use lib.ListN.{length, take, drop}
use Rattle.codec.specs.Number.{be_at}
use Rattle.replication.specs.Reading.{rec_length, behind, whole}
use Rattle.replication.specs.Queries.{to_give, length_at}
use Rattle.replication.proofs.Queries.Walk.{give_step, give_end}
use Rattle.records.specs.Method.{record_part}
use Rattle.records.proofs.Fields.{length_whole, length-size, length_stands, length-ends, length-behind, part_whole, part_nothing, part_length_lem}
use Rattle.records.proofs.Finding.{length-inside}
use Rattle.records_walk.specs.Method.{after_at}
use Rattle.records_walk.specs.Given.{next_part, later_parts, part_place}

next-nil : next_part [] ≡ []
unfolding next_part
next-nil = refl

next-cons : (p : List ℕ) (ps : List (List ℕ)) → next_part (p ∷ ps) ≡ p
unfolding next_part
next-cons p ps = refl

later-nil : later_parts [] ≡ []
unfolding later_parts
later-nil = refl

later-cons : (p : List ℕ) (ps : List (List ℕ)) → later_parts (p ∷ ps) ≡ ps
unfolding later_parts
later-cons p ps = refl

module _ (s : List ℕ) (at : ℕ) where
  -- the part that is given next is the record at the place
  pub next_record : next_part (to_give s at) ≡ record_part s at
  next_record = go (whole s at) refl
    where
      go : (t : Bool) → whole s at ≡ t → next_part (to_give s at) ≡ record_part s at
      go true w = ap next_part (give_step s at w) ∙ (next-cons _ _ ∙ sym (part_whole s at w))
      go false w = ap next_part (give_end s at w) ∙ (next-nil ∙ sym (part_nothing s at w))

  -- where a whole record stands
  module _ (w : whole s at ≡ true) where
    pub place_whole : part_place s at ≡ at
    unfolding part_place
    place_whole = rw (w, part_place)

    pub after_whole : after_at s at ≡ behind s at
    unfolding after_at
    after_whole = rw (w, after_at)

    pub gives : to_give s at ≡ record_part s at ∷ to_give s (after_at s at)
    gives =
        give_step s at w
        ∙ (ap {B = List (List ℕ)} (λ (p : List ℕ). p ∷ to_give s (behind s at)) (sym (part_whole s at w))
        ∙ ap {B = List (List ℕ)} (λ (b : ℕ). record_part s at ∷ to_give s b) (sym after_whole))

  -- where none does
  module _ (w : whole s at ≡ false) where
    pub place_nothing : part_place s at ≡ 0
    unfolding part_place
    place_nothing = rw (w, part_place)

    pub after_nothing : after_at s at ≡ at
    unfolding after_at
    after_nothing = rw (w, after_at)

    pub ends : to_give s at ≡ []
    ends = give_end s at w

  -- what is left behind it is what comes later
  pub later_after : to_give s (after_at s at) ≡ later_parts (to_give s at)
  later_after = go (whole s at) refl
    where
      go : (t : Bool) → whole s at ≡ t → to_give s (after_at s at) ≡ later_parts (to_give s at)
      go true w = sym (ap later_parts (gives w) ∙ later-cons _ _)
      go false w = ap (to_give s) (after_nothing w) ∙ (ends w ∙ sym (ap later_parts (ends w) ∙ later-nil))

  -- the empty part tells the end
  pub empty_ends : next_part (to_give s at) ≡ [] → to_give s at ≡ []
  empty_ends e = go (whole s at) refl
    where
      go : (t : Bool) → whole s at ≡ t → to_give s at ≡ []
      go true w =
          let l : length (record_part s at) ≡ 0 = ap length (sym next_record ∙ e) in
          absurd (omega (arith, l, part_length_lem s at, length-size s at w))
      go false w = ends w

  -- and a walker that has ended stays where it is
  pub ended_stays : to_give s at ≡ [] → after_at s at ≡ at
  ended_stays e = go (whole s at) refl
    where
      go : (t : Bool) → whole s at ≡ t → after_at s at ≡ at
      go true w = let c : record_part s at ∷ to_give s (after_at s at) ≡ [] = sym (gives w) ∙ e in absurd
          (let z : ◌≡◌ {A = ℕ} 0 1 = cc in omega arith)
      go false w = after_nothing w

  -- by the length that the code reads
  module _ (n : ℕ) (e : n ≡ length_at s at) where
    pub after_added : at + n ≡ after_at s at
    after_added = go n refl
      where
        go : (m : ℕ) → n ≡ m → at + n ≡ after_at s at
        go zero z = omega (arith, after_nothing (length-ends s at n e z))
        go (suc m) z =
            let d : n ≡ 0 → ⊥ = λ x. omega (arith, z) in
            omega (arith, after_whole (length_stands s at n e d), length-behind s at n e d)

    pub later_added : to_give s (at + n) ≡ later_parts (to_give s at)
    later_added = ap (to_give s) after_added ∙ later_after

    pub part_none : n ≡ 0 → [] ≡ next_part (to_give s at)
    part_none z = sym (ap next_part (ends (length-ends s at n e z)) ∙ next-nil)

    pub start_none : n ≡ 0 → 0 ≡ part_place s at
    start_none z = sym (place_nothing (length-ends s at n e z))

    pub part_some : (n ≡ 0 → ⊥) → take (at + n - at) (drop at s) ≡ next_part (to_give s at)
    part_some d =
        let w = length_stands s at n e d in
        let m : at + n - at ≡ rec_length (be_at s 1 at) = omega (arith, e, length_whole s at w) in
        ap (λ (k : ℕ). take k (drop at s)) m ∙ sym (next_record ∙ part_whole s at w)

    pub start_some : (n ≡ 0 → ⊥) → at ≡ part_place s at
    start_some d = sym (place_whole (length_stands s at n e d))

    -- the next place is inside the table, or the place itself
    pub after_fits : at + n ≤ max at (length s)
    after_fits = go n refl
      where
        go : (m : ℕ) → n ≡ m → at + n ≤ max at (length s)
        go zero z = omega (arith, z)
        go (suc m) z = omega (arith, length-inside s at n e (λ x. omega (arith, z)))
