-- The loops over the elements of a vector and over vectors: what is left to be written, from the present place on, is all that was to be
-- written. Beside them, what the functions with no loop leave.
use Prim.Native.Nat.{ℕ, suc, ◌+◌, ◌-◌, ◌*◌, ◌≤◌, ◌<◌}
use mathlib.Core.Path.{◌≡◌, sym, ap, ap₂, ◌∙◌}
use mathlib.Core.List.{List, ◌∷◌}
use native.Mathlib.Omega.{arith}
use lib.ListN.{length}
use borrow.Author.Tests.{le-leb, lt-leb}
use Rattle.codec.specs.Number.{be_at}
use Rattle.codec.specs.Part.{part, placed, bytes}
use Rattle.codec.specs.Total.{read_at}
use Rattle.codec.specs.Ids.{replica_of}
use Rattle.codec.specs.MethodEnded.{end_of}
use Rattle.codec.specs.Answer.{Written, Refused}
use Rattle.codec.specs.declared.Replica.{Replica}
use Rattle.layout.specs.declared.ReplicaKey.{ReplicaKey}
use Rattle.layout.specs.Decode.{elements_at}
use Rattle.layout.specs.MethodPlaces.{vectors_place}
use Rattle.ticks.proofs.Lists.{less, same, more, order}
use Rattle.lookup.specs.Method.{key_at, There, element_at, elements_here}
use Rattle.lookup.specs.declared.View.{View}
use Rattle.lookup.proofs.Loops.{here_is, elements-zero, elements-cons}
use Rattle.results_copied.specs.MethodRaised.{first_written, vector_written, vectors_written, all_written, copied_end}
use Rattle.results_copied.proofs.Whole.{part_whole}
use Rattle.results_copied.proofs.Overwritten.{first-nil, first_here, first_later, vector_beyond, vector_guessed, vector_other}
use Rattle.results_copied.proofs.Overwritten.{vectors_none, vectors_next}

-- ---- the first element that has a key

module _ (key t : ℕ) (s : List ℕ) (start n : ℕ) where
  -- after i of the n elements
  abbrev pub left_from : List ℕ → ℕ → List ℕ
  left_from u i = first_written key t u (start + 12 * i) (elements_at s (n - i) (start + 12 * i))

  pub first_start : (u : List ℕ) → first_written key t u start (elements_at s n start) ≡ left_from u 0
  first_start u =
      let e : start ≡ start + 12 * 0 = omega arith in
      let f : n ≡ n - 0 = omega arith in
      ap₂ (λ a m. first_written key t u a (elements_at s m a)) e f

  module _ (w u : List ℕ) (i : ℕ) (inv : w ≡ left_from u i) where
    module _ (took : i < n) (at x : ℕ) (place : at ≡ start + 12 * i) (is : x ≡ be_at s 4 at) where
      next : elements_at s (n - i) (start + 12 * i) ≡ element_at s (start + 12 * i) ∷ elements_at s (n - i - 1) (start + 12 * i + 12)
      next = elements-cons s (n - i) (start + 12 * i) (omega arith)

      pub first_found : (u' : List ℕ) → x ≡ key → u' ≡ placed u (at + 4) (bytes 8 t) → u' ≡ w
      first_found u' e f =
          f ∙ ap (λ a. placed u (a + 4) (bytes 8 t)) place
          ∙ sym (inv ∙ ap (first_written key t u (start + 12 * i)) next
          ∙ first_here key t u (start + 12 * i) _ _ (ap (be_at s 4) (sym place) ∙ sym is ∙ e))

      pub first_on : (x ≡ key → ⊥) → w ≡ left_from u (i + 1)
      first_on e =
          let a : start + 12 * i + 12 ≡ start + 12 * (i + 1) = omega arith in
          let m : n - i - 1 ≡ n - (i + 1) = omega arith in
          inv ∙ ap (first_written key t u (start + 12 * i)) next
          ∙ first_later key t u (start + 12 * i) _ _ (λ f. e (is ∙ ap (be_at s 4) place ∙ f))
          ∙ ap₂ (λ p j. first_written key t u p (elements_at s j p)) a m

    pub first_end : n ≤ i → u ≡ w
    first_end h =
        sym (inv ∙ ap (first_written key t u (start + 12 * i)) (elements-zero s (n - i) (start + 12 * i) (omega arith))
        ∙ first-nil key t u (start + 12 * i))

-- ---- a vector

module _ (key : ReplicaKey) (t : ℕ) (s u w : List ℕ) (at n : ℕ) (h : There s at n) where
  module _ (searched : w ≡ first_written key.0 t u (at + 8) (elements_at s n (at + 8))) where
    searched_here : w ≡ first_written key.0 t u (at + 8) (elements_here s at)
    searched_here = searched ∙ ap (first_written key.0 t u (at + 8)) (sym (here_is s at n h))

    pub written_beyond : n ≤ key.0 → w ≡ vector_written key.0 t s u at
    written_beyond l = searched_here ∙ sym (vector_beyond key.0 t s u at (omega (arith, h.is)))

    pub written_other : key.0 < n → (x : ℕ) → x ≡ be_at s 4 (at + 8 + 12 * key.0) → (x ≡ key.0 → ⊥) → w ≡ vector_written key.0 t s u at
    written_other l x e f = searched_here ∙ sym (vector_other key.0 t s u at (omega (arith, h.is)) (λ g. f (e ∙ g)))

  pub written_guessed : key.0 < n → (x : ℕ) → x ≡ be_at s 4 (at + 8 + 12 * key.0) → x ≡ key.0
      → w ≡ placed u (at + 8 + 12 * key.0 + 4) (bytes 8 t) → w ≡ vector_written key.0 t s u at
  written_guessed l x e f g = g ∙ sym (vector_guessed key.0 t s u at (omega (arith, h.is)) (sym e ∙ f))

-- ---- vectors

module _ (key t : ℕ) (s : List ℕ) (n : ℕ) where
  pub vectors_start : (u : List ℕ) (start : ℕ) → vectors_written key t s u n start ≡ vectors_written key t s u (n - 0) start
  vectors_start u start = let e : n ≡ n - 0 = omega arith in ap (λ m. vectors_written key t s u m start) e

  module _ (w u : List ℕ) (k at : ℕ) (inv : w ≡ vectors_written key t s u (n - k) at) where
    pub vectors_on : k < n → (m : ℕ) → There s at m → (u' : List ℕ) → u' ≡ vector_written key t s u at
        → w ≡ vectors_written key t s u' (n - (k + 1)) (at + (8 + 12 * m))
    vectors_on h m there u' e =
        let f : n - k ≡ suc (n - (k + 1)) = omega arith in
        let g : at + 8 + 12 * m ≡ at + (8 + 12 * m) = omega arith in
        inv
        ∙ ap (λ j. vectors_written key t s u j at) f
        ∙ vectors_next key t s u (n - (k + 1)) at
        ∙ ap₂ (λ x j. vectors_written key t s x (n - (k + 1)) (at + 8 + 12 * j)) (sym e) (sym there.is)
        ∙ ap (vectors_written key t s u' (n - (k + 1))) g

    pub vectors_end : n ≤ k → u ≡ w
    vectors_end h =
        let e : n - k ≡ 0 = omega arith in
        sym (inv ∙ ap (λ j. vectors_written key t s u j at) e ∙ vectors_none key t s u at)

-- a vector with elements ends inside the bytes, and another has 8 bytes
pub there_next : (s : List ℕ) (start k at m : ℕ) → There s at m → at ≤ start + length s + 8 * k
    → at + (8 + 12 * m) ≤ start + length s + 8 * (k + 1)
there_next s start k at m h l =
    elim (order m 0) [
      | less e ↦ absurd (omega arith)
      | same e ↦ omega arith
      | more e ↦ let r = h.room e in omega (arith, r)
    ]

-- ---- the copy

module _ (s : List ℕ) (v : View) (p : Replica) (t : ℕ) (out : List ℕ) where
  pub copied_short : length out < length s → end_of out (Refused 14) ≡ copied_end s v p t out
  unfolding copied_end
  copied_short h = sym (rw (lt-leb (length s) (length out) h, copied_end))

  pub copied_raised : (u w : List ℕ) (key : ReplicaKey) (start n : ℕ) → length s ≤ length out → u ≡ placed out 0 (part s 0 (length s))
      → key ≡ key_at s v.r (replica_of p) → start ≡ vectors_place v.r → n ≡ read_at s 4 (start - 4)
      → w ≡ vectors_written key.0 t s u n start → end_of w (Written (length s)) ≡ copied_end s v p t out
  unfolding copied_end all_written
  copied_raised u w key start n h e f g d is =
      ap (λ x. end_of x (Written (length s)))
      (is
      ∙ ap₂ (λ x m. vectors_written key.0 t s x m start) (e ∙ ap (placed out 0) (part_whole s)) d
      ∙ ap (λ a. vectors_written key.0 t s (placed out 0 s) (read_at s 4 (a - 4)) a) g
      ∙ ap (λ (q : ReplicaKey). all_written q.0 t s v.r (placed out 0 s)) f)
      ∙ sym (rw (le-leb (length s) (length out) h, copied_end))
