-- Addresses: what is said at an address is said at a place of the first bytes or of the second. The records at addresses, their number and
-- their bytes together are said one after the other. Numbers stored one after the other from the front of a list stand there, as many as it
-- has room for, since a store past the end changes nothing.
use Prim.Native.Nat.{ℕ, suc, ◌+◌, ◌-◌, ◌≤◌, ◌<◌}
use mathlib.Core.Path.{◌≡◌, refl, sym, ap, ◌∙◌}
use mathlib.Core.List.{List, [], ◌∷◌, ◌++◌}
use native.Mathlib.Omega.{arith}
use lib.ListN.{length, take, drop, set}
use lib.Seq.{sets, drop-nil, take_all, take-append_seam}
use borrow.Author.Tests.{lt-ltb, le-ltb}
use Rattle.replication.specs.Reading.{rec_at}
use Rattle.replication.specs.Queries.{length_at}
use Rattle.records_join.specs.MethodJoin.{at_address, recs_from, size_from, addresses, fronted}

module _ {A : Type 0} (f : List ℕ → ℕ → A) (s t : List ℕ) where
  pub at_first : (x : ℕ) → x < length s → at_address f s t x ≡ f s x
  unfolding at_address
  at_first x h = rw (lt-ltb x (length s) h, at_address)

  pub at_later : (x : ℕ) → length s ≤ x → at_address f s t x ≡ f t (x - length s)
  unfolding at_address
  at_later x h = rw (le-ltb x (length s) h, at_address)

  pub at_second : (b : ℕ) → at_address f s t (length s + b) ≡ f t b
  at_second b =
      let l : length s ≤ length s + b = omega arith in
      let e : length s + b - length s ≡ b = omega arith in
      at_later (length s + b) l ∙ ap (f t) e

-- ---- clauses

module _ (s t : List ℕ) where
  pub recs_none : recs_from s t [] ≡ []
  unfolding recs_from
  recs_none = refl

  pub recs_more : (x : ℕ) (xs : List ℕ) → recs_from s t (x ∷ xs) ≡ at_address rec_at s t x ∷ recs_from s t xs
  unfolding recs_from
  recs_more x xs = refl

  pub size_none : size_from s t [] ≡ 0
  unfolding size_from
  size_none = refl

  pub size_more : (x : ℕ) (xs : List ℕ) → size_from s t (x ∷ xs) ≡ at_address length_at s t x + size_from s t xs
  unfolding size_from
  size_more x xs = refl

  pub recs_count : (xs : List ℕ) → length (recs_from s t xs) ≡ length xs
  recs_count [] = ap length recs_none
  recs_count (x ∷ xs) = ap length (recs_more x xs) ∙ ap suc (recs_count xs)

module _ (s : List ℕ) where
  pub addresses_none : addresses s [] ≡ []
  unfolding addresses
  addresses_none = refl

  pub addresses_more : (b : ℕ) (bs : List ℕ) → addresses s (b ∷ bs) ≡ (length s + b) ∷ addresses s bs
  unfolding addresses
  addresses_more b bs = refl

-- ---- numbers at the front of a list

-- stores from a place on, and what is in front of it
sets-later : (y : ℕ) (d : List ℕ) (i : ℕ) (xs : List ℕ) → sets (y ∷ d) (suc i) xs ≡ y ∷ sets d i xs
sets-later y d i [] = refl
sets-later y d i (x ∷ xs) = sets-later y (set d i x) (suc i) xs

sets-nothing : (i : ℕ) (xs : List ℕ) → sets [] i xs ≡ []
sets-nothing i [] = refl
sets-nothing i (x ∷ xs) = sets-nothing (suc i) xs

fronted_is : (d xs : List ℕ) → fronted d xs ≡ take (length d) xs ++ drop (length xs) d
unfolding fronted
fronted_is d xs = refl

pub fronted-sets : (d xs : List ℕ) → sets d 0 xs ≡ fronted d xs
fronted-sets [] xs = sets-nothing 0 xs ∙ sym (fronted_is [] xs ∙ drop-nil (length xs))
fronted-sets (y ∷ d) [] = sym (fronted_is (y ∷ d) [])
fronted-sets (y ∷ d) (x ∷ xs) =
    sets-later x d 0 xs ∙ (ap (λ (l : List ℕ). x ∷ l) (fronted-sets d xs ∙ fronted_is d xs) ∙ sym (fronted_is (y ∷ d) (x ∷ xs)))

-- with room for all of them, they are what the front has
pub fronted-take : (d xs : List ℕ) → length xs ≤ length d → take (length xs) (fronted d xs) ≡ xs
fronted-take d xs l =
    ap (take (length xs)) (fronted_is d xs ∙ ap (λ (l : List ℕ). l ++ drop (length xs) d) (take_all (length d) xs l))
    ∙ take-append_seam xs (drop (length xs) d)
