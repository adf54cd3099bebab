-- Reading from the front what `put` wrote. `Stands s at t`: from the place on, the bytes s are t, to their end. Where t
-- begins with a number of n bytes, that number is read there, and the rest stands n bytes further on. So each part of
-- an encoding is read back by stepping over it, and places are plain sums of sizes.
use Prim.Native.Nat.{ℕ, zero, suc, ◌+◌, ◌-◌, ◌*◌, ◌^◌, ◌<◌, ◌≤◌}
use mathlib.Core.Path.{◌≡◌, refl, sym, ap, ◌∙◌}
use mathlib.Core.Bool.{false}
use mathlib.Core.Logic.{inl, inr}
use mathlib.Core.List.{List, [], ◌∷◌}
use native.Mathlib.Omega.{arith}
use native.Mathlib.Nat.{add-zero, mul-suc, eq-or-lt_of_le}
use lib.ListN.{length, drop, length-drop}
use lib.Seq.{drop-drop}
use borrow.Author.Tests.{le-leb, eq-eqb, ne_eqb}
use Rattle.codec.specs.Number.{be_at, put}
use Rattle.codec.proofs.Numbers.{be_drop, put-length, put_be, put-drop}
use Rattle.layout.specs.Got.{Num}
use Rattle.layout.specs.Knowledge.{Field, opening, before_vectors, before_elements, before_ranges, closing, put_fields, All}
use Rattle.layout.specs.Read.{number, same, fields, limit, among}

pub record Stands (s : List ℕ) (at : ℕ) (t : List ℕ) : Type 0 where
  pub inside : at ≤ length s
  pub rest : drop at s ≡ t

pub stands_whole : (s : List ℕ) → Stands s 0 s
stands_whole s = record { inside = omega arith; rest = refl }

-- the same place, written otherwise
pub moved : (s : List ℕ) (a b : ℕ) (t : List ℕ) → a ≡ b → Stands s a t → Stands s b t
moved s a b t e h = rw (← e) h

pub stands_length : (s : List ℕ) (at : ℕ) (t : List ℕ) → Stands s at t → length s ≡ at + length t
stands_length s at t h = let l : length s - at ≡ length t = sym (length-drop at s) ∙ ap length h.rest in omega arith

-- over one number, and the number itself
pub over : (s : List ℕ) (at n x : ℕ) (t : List ℕ) → Stands s at (put n x t) → Stands s (at + n) t
over s at n x t h = record {
  inside = omega (arith, stands_length s at (put n x t) h, put-length n x t);
  rest = sym (drop-drop n at s) ∙ ap (drop n) h.rest ∙ ap (λ m. drop m (put n x t)) (sym (add-zero n)) ∙ put-drop n x 0 t;
}

pub reads : (s : List ℕ) (at n x : ℕ) (t : List ℕ) → Stands s at (put n x t) → x < 256 ^ n → be_at s n at ≡ x
reads s at n x t h l =
    ap (be_at s n) (sym (add-zero at)) ∙ sym (be_drop s n at 0) ∙ ap (λ u. be_at u n 0) h.rest ∙ put_be n x t l

pub number_reads : (s : List ℕ) (at n x y : ℕ) (t : List ℕ) → Stands s at (put n x t) → x < 256 ^ n →
    number s n y at ≡ Num x (at + n)
unfolding number
number_reads s at n x y t h l = rw (le-leb (at + n) (length s) (over s at n x t h).inside, reads s at n x t h l, number)

pub limit_holds : (lo hi x at : ℕ) → lo ≤ x → x ≤ hi → limit lo hi x at ≡ Num x at
unfolding limit
limit_holds lo hi x at h l = rw (le-leb lo x h, le-leb x hi l, limit)

-- runs of fixed fields
pub record Fit (f : Field) : Type 0 where
  pub below : f.value < 256 ^ f.size

abbrev pub sizes : List Field → ℕ
sizes [] = 0
sizes (f ∷ fs) = f.size + sizes fs

abbrev pub last_of : ℕ → List Field → ℕ
last_of x [] = x
last_of x (f ∷ fs) = last_of f.value fs

pub fields_over : (s : List ℕ) (at : ℕ) (fs : List Field) (t : List ℕ) → Stands s at (put_fields fs t) →
    Stands s (at + sizes fs) t
unfolding put_fields
fields_over s at [] t h = moved s at (at + 0) t (omega arith) h
fields_over s at (f ∷ fs) t h =
    moved s (at + f.size + sizes fs) (at + (f.size + sizes fs)) t (omega arith)
    (fields_over s (at + f.size) fs t (over s at f.size f.value (put_fields fs t) h))

pub fields_read : (s : List ℕ) (x at : ℕ) (fs : List Field) (t : List ℕ) → Stands s at (put_fields fs t) → All Fit fs →
    fields s fs x at ≡ Num (last_of x fs) (at + sizes fs)
unfolding put_fields fields same
fields_read s x at [] t h l = ap (Num x) (sym (add-zero at))
fields_read s x at (f ∷ fs) t h l =
    rw (number_reads s at f.size f.value x (put_fields fs t) h l.0.below, eq-eqb f.value f.value refl, same)
    (fields_read s f.value (at + f.size) fs t (over s at f.size f.value (put_fields fs t) h) l.1 ∙
    ap (Num (last_of f.value fs)) (omega arith))

pub opening_fits : All Fit opening
unfolding opening
opening_fits = omega arith

pub before_vectors-fits : All Fit before_vectors
unfolding before_vectors
before_vectors-fits = omega arith

pub before_elements-fits : All Fit before_elements
unfolding before_elements
before_elements-fits = omega arith

pub before_ranges-fits : All Fit before_ranges
unfolding before_ranges
before_ranges-fits = omega arith

pub closing_fits : All Fit closing
unfolding closing
closing_fits = omega arith

-- x is none of the k numbers of n bytes from a place on, one each `step` bytes
pub record Fresh (s : List ℕ) (n step at k x : ℕ) : Type 0 where
  pub none : (j : ℕ) → j < k → be_at s n (at + step * j) ≡ x → ⊥

pub fresh_none : (s : List ℕ) (n step at x : ℕ) → Fresh s n step at 0 x
fresh_none s n step at x = record { none = λ j l e. omega arith }

pub fresh_all : (s : List ℕ) (n step at : ℕ) (xs : List ℕ) → All (Fresh s n step at 0) xs
fresh_all s n step at [] = tt
fresh_all s n step at (x ∷ xs) = (fresh_none s n step at x, fresh_all s n step at xs)

pub among_none : (s : List ℕ) (n step at k x : ℕ) → Fresh s n step at k x → among s n step at k x ≡ false
unfolding among
among_none s n step at zero x d = refl
among_none s n step at (suc k) x d =
    rw (ne_eqb (be_at s n at) x (λ e. d.none 0 (omega arith) (ap (be_at s n) (omega arith) ∙ e)), among)
    (among_none s n step (at + step) k x
    (record { none = λ j l e. d.none (suc j) (omega arith) (ap (be_at s n) (omega (arith, mul-suc step j)) ∙ e) }))

pub fresh_more : (s : List ℕ) (n step at k x y : ℕ) → Fresh s n step at k y → be_at s n (at + step * k) ≡ x → (x ≡ y → ⊥) →
    Fresh s n step at (k + 1) y
fresh_more s n step at k x y d b u = record {
  none = λ j l e.
      elim (eq-or-lt_of_le {n = j} {m = k} (omega arith)) [
        | inl q ↦ u (sym b ∙ ap (λ i. be_at s n (at + step * i)) (sym q) ∙ e)
        | inr q ↦ d.none j q e
      ];
}

pub fresh_mores : (s : List ℕ) (n step at k x : ℕ) (ys : List ℕ) → All (Fresh s n step at k) ys →
    be_at s n (at + step * k) ≡ x → All (λ y. x ≡ y → ⊥) ys → All (Fresh s n step at (k + 1)) ys
fresh_mores s n step at k x [] d b u = tt
fresh_mores s n step at k x (y ∷ ys) d b u =
    (fresh_more s n step at k x y d.0 b u.0, fresh_mores s n step at k x ys d.1 b u.1)
