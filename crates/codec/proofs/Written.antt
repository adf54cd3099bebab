-- Bytes written one after the other. Each part is written where the one before it ended, so with room for all what is written is what
-- the parts put in front of each other. A list of bytes is one part, and so is a number; an id is its words.
use Rattle.std.proofs.Common.{◌≡◌, ℕ, ◌+◌, ◌^◌, ◌<◌, ◌≤◌, List, [], ◌++◌, length, sym, ap, ◌∙◌, subst, arith, length-append}
use Rattle.codec.specs.Number.{put}
use Rattle.codec.specs.Part.{placed, bytes}
use Rattle.codec.specs.Words.{words2, words3}
use Rattle.codec.specs.MethodWritten.{Wrote}
use Rattle.codec.proofs.Numbers.{put-append}
use Rattle.codec.proofs.Words.{put_words2, put_words3}
use Rattle.codec.proofs.Writing.{placed-length, placed-append, bytes-length, nothing}

module _ {d : List ℕ} {at : ℕ} {f : List ℕ → List ℕ} where
  -- one part behind another
  pub wrote_then : {e : List ℕ} {p : ℕ} → Wrote d at f e p → {g : List ℕ → List ℕ} {u : List ℕ} {q : ℕ} → Wrote e p g u q
      → Wrote d at (λ t. f (g t)) u q
  wrote_then a {g} b = record {
    same = b.same ∙ a.same;
    size = λ t. a.size (g t) ∙ b.size t;
    is = λ t h. a.is (g t) h ∙ b.is t (omega (arith, h, a.size (g t), a.same));
  }

  -- the place behind it, and the bytes, said in another way
  pub wrote_to : {u : List ℕ} {p q : ℕ} → p ≡ q → Wrote d at f u p → Wrote d at f u q
  wrote_to {u} e w = subst (Wrote d at f u) e w

  pub wrote_by : {g : List ℕ → List ℕ} → ((t : List ℕ) → f t ≡ g t) → {u : List ℕ} {p : ℕ} → Wrote d at f u p → Wrote d at g u p
  wrote_by e w = record {
    same = w.same;
    size = λ t. ap (λ (l : List ℕ). at + length l) (sym (e t)) ∙ w.size t;
    is = λ t h.
        ap (placed d at) (sym (e t)) ∙ w.is t (subst (λ (l : List ℕ). at + length l ≤ length d) (sym (e t)) h);
  }

  -- where there is room for all, all is placed
  pub wrote_all : {u : List ℕ} {p : ℕ} → Wrote d at f u p → p ≤ length d → u ≡ placed d at (f [])
  wrote_all {u} {p} w h = sym (w.is [] (omega (arith, h, w.size [])) ∙ sym (nothing u p))

-- a list of bytes
pub wrote_bytes : (d u : List ℕ) (at : ℕ) (vs : List ℕ) → u ≡ placed d at vs → Wrote d at (λ t. vs ++ t) u (at + length vs)
wrote_bytes d u at vs e = record {
  same = ap length e ∙ placed-length d at vs;
  size = λ t. omega (arith, length-append vs t);
  is = λ t h. sym (placed-append d at vs t h) ∙ ap (λ (v : List ℕ). placed v (at + length vs) t) (sym e);
}

-- the n bytes of a number
pub wrote_number : (d u : List ℕ) (at n x : ℕ) → u ≡ placed d at (bytes n x) → Wrote d at (put n x) u (at + n)
unfolding bytes
wrote_number d u at n x e =
    wrote_to (ap (λ (k : ℕ). at + k) (bytes-length n x))
    (wrote_by (λ (t : List ℕ). sym (put-append n x t)) (wrote_bytes d u at (bytes n x) e))

-- ---- ids by their words

pub pair_wrote : (d e u : List ℕ) (at x y : ℕ) → y < 2 ^ 64 → e ≡ placed d at (bytes 8 x) → u ≡ placed e (at + 8) (bytes 8 y)
    → Wrote d at (put 16 (words2 x y)) u (at + 16)
pair_wrote d e u at x y h a b =
    wrote_to (omega arith)
    (wrote_by (λ (t : List ℕ). sym (put_words2 x y t h))
    (wrote_then (wrote_number d e at 8 x a) (wrote_number e u (at + 8) 8 y b)))

pub item_wrote : (d e f u : List ℕ) (at x y z : ℕ) → y < 2 ^ 64 → z < 2 ^ 64 → e ≡ placed d at (bytes 8 x)
    → f ≡ placed e (at + 8) (bytes 8 y)
    → u ≡ placed f (at + 16) (bytes 8 z) → Wrote d at (put 24 (words3 x y z)) u (at + 24)
item_wrote d e f u at x y z h k a b c =
    wrote_to (omega arith)
    (wrote_by (λ (t : List ℕ). sym (put_words3 x y z t h k))
    (wrote_then (wrote_number d e at 8 x a)
    (wrote_then (wrote_to (omega arith) (wrote_number e f (at + 8) 8 y b)) (wrote_number f u (at + 16) 8 z c))))
