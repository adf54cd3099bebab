-- A part of bytes whose length is known: where it stands, it is read there and the rest stands after it, and bytes are
-- the part taken there in front of the rest. And what it says that a test or a pair of tests came out true.
use Prim.Native.Nat.{ℕ, zero, suc, ◌+◌, ◌≤◌}
use mathlib.Core.Path.{◌≡◌, refl, sym, ap, ◌∙◌}
use mathlib.Core.Bool.{Bool, true, false}
use mathlib.Core.List.{List, [], ◌∷◌, ◌++◌}
use mathlib.Core.Option.{Option, none, some}
use native.Mathlib.Omega.{arith}
use lib.ListN.{length, take, drop, length-append, length-take, length-drop, take-append-drop}
use lib.Seq.{take-append_seam, drop-append_seam, drop-drop, get_or-drop}
use Rattle.codec.specs.Number.{Bytes}
use Rattle.codec.proofs.Numbers.{cons-bytes}
use Rattle.layout.proofs.Chain.{Stands, stands_length}
use Rattle.replication.specs.Reading.{both}
use Rattle.replication.proofs.Tables.Rising.{both_parts}
use Rattle.codec.specs.Parsed.{Parsed, accepted, refused}

-- ---- parts that stand at a place

pub part_over : (s : List ℕ) (at : ℕ) (a t : List ℕ) → Stands s at (a ++ t) → Stands s (at + length a) t
part_over s at a t h = record {
  inside = omega (arith, stands_length s at (a ++ t) h, length-append a t);
  rest = sym (drop-drop (length a) at s) ∙ ap (drop (length a)) h.rest ∙ drop-append_seam a t;
}

pub part_reads : (s : List ℕ) (at : ℕ) (a t : List ℕ) → Stands s at (a ++ t) → take (length a) (drop at s) ≡ a
part_reads s at a t h = ap (take (length a)) h.rest ∙ take-append_seam a t

-- ---- parts that were taken

pub part_length_lem : (s : List ℕ) (n at : ℕ) → at + n ≤ length s → length (take n (drop at s)) ≡ n
part_length_lem s n at l = simp (length-take, length-drop) (omega arith)

pub part_back : (s : List ℕ) (n at : ℕ) → drop at s ≡ take n (drop at s) ++ drop (at + n) s
part_back s n at = sym (take-append-drop n (drop at s)) ∙ ap (λ t. take n (drop at s) ++ t) (drop-drop n at s)

-- ---- bytes

pub no_bytes : Bytes []
no_bytes = record { below = λ i. omega arith }

tail_bytes : (x : ℕ) (s : List ℕ) → Bytes (x ∷ s) → Bytes s
tail_bytes x s b = record { below = λ i. b.below (suc i) }

pub append-bytes : (a t : List ℕ) → Bytes a → Bytes t → Bytes (a ++ t)
append-bytes [] t b c = c
append-bytes (x ∷ a) t b c = cons-bytes (b.below 0) (append-bytes a t (tail_bytes x a b) c)

pub take-bytes : (n : ℕ) (s : List ℕ) → Bytes s → Bytes (take n s)
take-bytes zero s b = no_bytes
take-bytes (suc n) [] b = b
take-bytes (suc n) (x ∷ s) b = cons-bytes (b.below 0) (take-bytes n s (tail_bytes x s b))

pub drop-bytes : (n : ℕ) (s : List ℕ) → Bytes s → Bytes (drop n s)
drop-bytes n s b = record { below = λ i. omega (arith, b.below (n + i), get_or-drop n s i 0) }

pub part_bytes_lem : (s : List ℕ) (n at : ℕ) → Bytes s → Bytes (take n (drop at s))
part_bytes_lem s n at b = take-bytes n (drop at s) (drop-bytes at s b)

-- ---- tests

-- a value came out of a test: the test was true
pub valid_back : {A : Type 0} (t : Bool) (x y : A) (n : ℕ) → ◌≡◌ {A = Parsed A} (elim t [ true ↦ accepted x | false ↦ refused n ]) (accepted y) → (t ≡ true) × (x ≡ y)
valid_back true x y n e = (refl, cc)
valid_back false x y n e = absurd (let z : ◌≡◌ {A = ℕ} 0 1 = cc in omega arith)

pub test_back : {A : Type 0} (t : Bool) (o : Option A) (x : A) (C : Type 0) →
    ◌≡◌ {A = Option A} (elim t [ true ↦ o | false ↦ none ]) (some x) → (t ≡ true → o ≡ some x → C) → C
test_back true o x C e k = k refl e
test_back false o x C e k = absurd (let z : ◌≡◌ {A = ℕ} 0 1 = cc in omega arith)

pub both_left : (a b : Bool) → both a b ≡ true → a ≡ true
both_left a b e = (both_parts a b e).0

pub both_right : (a b : Bool) → both a b ≡ true → b ≡ true
both_right a b e = (both_parts a b e).1
