-- Writing into a buffer: stores one after the other from a place on leave what `placed` says, where the place has
-- room for all of them, and a buffer that has no room stays as it was. Copying a part byte by byte is the same.
use Rattle.std.proofs.Common.{◌≡◌, ℕ, zero, suc, ◌+◌, ◌-◌, ◌*◌, ◌/◌, ◌%◌, ◌^◌, ◌<◌, ◌≤◌, Bool, true, false, leb, List, [], ◌∷◌, ◌++◌, length, get_or, take, drop, set, replicate, sym, refl, ap, ◌∙◌, append_assoc, add-zero, add-one, arith, length-append, length-drop, take-append-drop, length-take, get_or-drop, get_or-take, le-leb, leb-false, leb-true}
use borrow.Author.Tests.{lt-leb}
use lib.Seq.{sets, sets-eq, length-sets, take-length, paste, paste-zero, paste-suc}
use Rattle.codec.specs.Number.{put}
use Rattle.codec.specs.Part.{placed, part, bytes}
use Rattle.codec.proofs.Numbers.{put-length}
use Rattle.codec.proofs.Reading.{powers}

-- scratch
pub zeros-length : (n : ℕ) → length (replicate {A = ℕ} n 0) ≡ n
zeros-length zero = refl
zeros-length (suc n) = omega (arith, zeros-length n)

pub bytes-length : (n x : ℕ) → length (bytes n x) ≡ n
unfolding bytes
bytes-length n x = put-length n x [] ∙ add-zero n

module _ (d : List ℕ) (at : ℕ) (vs : List ℕ) where
  pub placed_in : at + length vs ≤ length d → placed d at vs ≡ take at d ++ (vs ++ drop (at + length vs) d)
  unfolding placed
  placed_in h = rw (le-leb (at + length vs) (length d) h, placed)

  pub placed_out : length d < at + length vs → d ≡ placed d at vs
  unfolding placed
  placed_out h = rw (lt-leb (at + length vs) (length d) h, placed)

  pub stored : at + length vs ≤ length d → sets d at vs ≡ placed d at vs
  stored h = sets-eq vs d at h ∙ append_assoc (take at d) vs _ ∙ sym (placed_in h)

-- nothing is nothing to write, anywhere
pub nothing : (d : List ℕ) (at : ℕ) → d ≡ placed d at []
nothing d at = go (leb (at + 0) (length d)) refl
  where
    go : (t : Bool) → leb (at + 0) (length d) ≡ t → d ≡ placed d at []
    go true e = sym (placed_in d at [] (leb-true (at + 0) (length d) e) ∙ rw add-zero (take-append-drop at d))
    go false e = placed_out d at [] (leb-false (at + 0) (length d) e)

-- a buffer keeps its length
pub placed-length : (d : List ℕ) (at : ℕ) (vs : List ℕ) → length (placed d at vs) ≡ length d
placed-length d at vs = go (leb (at + length vs) (length d)) refl
  where
    go : (t : Bool) → leb (at + length vs) (length d) ≡ t → length (placed d at vs) ≡ length d
    go true e = ap length (sym (stored d at vs (leb-true (at + length vs) (length d) e))) ∙ length-sets d at vs
    go false e = ap length (sym (placed_out d at vs (leb-false (at + length vs) (length d) e)))

-- the n bytes of x
module _ (d : List ℕ) (at n x : ℕ) where
  pub no_room : length d < at + n → d ≡ placed d at (bytes n x)
  no_room h = placed_out d at (bytes n x) (rw bytes-length h)

  pub written : at + n ≤ length d → sets d at (bytes n x) ≡ placed d at (bytes n x)
  written h = stored d at (bytes n x) (rw bytes-length h)

pub sets-append : (d vs ws : List ℕ) (at : ℕ) → sets d at (vs ++ ws) ≡ sets (sets d at vs) (at + length vs) ws
sets-append d [] ws at = rw (add-zero at)
sets-append d (v ∷ vs) ws at =
    let e : suc at + length vs ≡ at + suc (length vs) = omega arith in
    sets-append (set d at v) vs ws (suc at) ∙ ap (λ (k : ℕ). sets (sets (set d at v) (suc at) vs) k ws) e

-- with room for both, one list of bytes after another is both as one
pub placed-append :
    (d : List ℕ) (at : ℕ) (vs ws : List ℕ)
    → at + length (vs ++ ws) ≤ length d
    → placed (placed d at vs) (at + length vs) ws ≡ placed d at (vs ++ ws)
placed-append d at vs ws h =
    let l : at + length vs + length ws ≤ length d = omega (arith, length-append vs ws) in
    let m : at + length vs ≤ length d = omega arith in
    let k : at + length vs + length ws ≤ length (placed d at vs) = rw (placed-length d at vs) l in
    sym (stored (placed d at vs) (at + length vs) ws k)
    ∙ ap (λ (e : List ℕ). sets e (at + length vs) ws) (sym (stored d at vs m))
    ∙ sym (sets-append d vs ws at)
    ∙ stored d at (vs ++ ws) h

-- bytes that stand before others may be written after them
set_swap : (l : List ℕ) (i j x y : ℕ) → i < j → set (set l i x) j y ≡ set (set l j y) i x
set_swap [] i j x y h = refl
set_swap (z ∷ l) zero zero x y h = absurd (omega arith)
set_swap (z ∷ l) zero (suc j) x y h = refl
set_swap (z ∷ l) (suc i) zero x y h = absurd (omega arith)
set_swap (z ∷ l) (suc i) (suc j) x y h = ap (λ (r : List ℕ). z ∷ r) (set_swap l i j x y (omega arith))

set-sets : (d vs : List ℕ) (at j y : ℕ) → at + length vs ≤ j → set (sets d at vs) j y ≡ sets (set d j y) at vs
set-sets d [] at j y h = refl
set-sets d (v ∷ vs) at j y h =
    set-sets (set d at v) vs (suc at) j y (omega arith)
    ∙ ap (λ (l : List ℕ). sets l (suc at) vs) (set_swap d at j v y (omega arith))

sets_swap : (d vs ws : List ℕ) (at j : ℕ) → at + length vs ≤ j → sets (sets d at vs) j ws ≡ sets (sets d j ws) at vs
sets_swap d vs [] at j h = refl
sets_swap d vs (w ∷ ws) at j h =
    ap (λ (l : List ℕ). sets l (suc j) ws) (set-sets d vs at j w h)
    ∙ sets_swap (set d j w) vs ws at (suc j) (omega arith)

pub placed_swap :
    (d : List ℕ) (at j : ℕ) (vs ws : List ℕ)
    → at + length vs ≤ j
    → placed (placed d at vs) j ws ≡ placed (placed d j ws) at vs
placed_swap d at j vs ws h = go (leb (j + length ws) (length d)) refl
  where
    go : (t : Bool) → leb (j + length ws) (length d) ≡ t → placed (placed d at vs) j ws ≡ placed (placed d j ws) at vs
    go true e =
        let r : j + length ws ≤ length d = leb-true (j + length ws) (length d) e in
        let m : at + length vs ≤ length d = omega arith in
        sym (stored (placed d at vs) j ws (rw (placed-length d at vs) r))
        ∙ ap (λ (l : List ℕ). sets l j ws) (sym (stored d at vs m))
        ∙ sets_swap d vs ws at j h
        ∙ ap (λ (l : List ℕ). sets l at vs) (stored d j ws r)
        ∙ stored (placed d j ws) at vs (rw (placed-length d j ws) m)
    go false e =
        let r : length d < j + length ws = leb-false (j + length ws) (length d) e in
        sym (placed_out (placed d at vs) j ws (rw (placed-length d at vs) r))
        ∙ ap (λ (l : List ℕ). placed l at vs) (placed_out d j ws r)

-- a part that is not there is empty, and so nothing is written
module _ (s : List ℕ) (from n : ℕ) where
  part_in : from + n ≤ length s → part s from n ≡ take n (drop from s)
  unfolding part
  part_in h = rw (le-leb (from + n) (length s) h, part)

  part_out : length s < from + n → part s from n ≡ []
  unfolding part
  part_out h = rw (lt-leb (from + n) (length s) h, part)

  part_length_lem : from + n ≤ length s → length (part s from n) ≡ n
  part_length_lem h = rw (part_in h, length-take, length-drop) (omega arith)

module _ (d s : List ℕ) (at from n : ℕ) where
  pub no_part : length s < from + n → d ≡ placed d at (part s from n)
  no_part h = rw (part_out s from n h) (nothing d at)

  pub no_place : from + n ≤ length s → length d < at + n → d ≡ placed d at (part s from n)
  no_place h k = placed_out d at (part s from n) (rw (part_length_lem s from n h) k)

-- ---- writing a number and copying a part, byte by byte

-- a byte of a number, by its place
byte_at : (n x i : ℕ) → i < n → get_or (put n x []) i 0 ≡ x / 256 ^ (n - 1 - i) % 256
unfolding put
byte_at zero x i h = absurd (omega arith)
byte_at (suc n) x zero h = ap (λ (m : ℕ). x / 256 ^ m % 256) (omega arith)
byte_at (suc n) x (suc i) h = byte_at n x i (omega arith) ∙ ap (λ (m : ℕ). x / 256 ^ m % 256) (omega arith)

-- d, with the first i of vs from a place on
pub copying : List ℕ → ℕ → List ℕ → ℕ → List ℕ
copying d at vs i = paste d at vs i

pub copying_none : (d : List ℕ) (at : ℕ) (vs : List ℕ) → d ≡ copying d at vs 0
unfolding copying
copying_none d at vs = paste-zero d at vs

-- a part that is copied byte by byte into a place that has room for it
module _ (d s : List ℕ) (at from n : ℕ) (h : from + n ≤ length s) (k : at + n ≤ length d) where
  part_at : (i : ℕ) → i < n → get_or (part s from n) i 0 ≡ get_or s (from + i) 0
  part_at i l = rw (part_in s from n h, get_or-take, get_or-drop)

  pub part_more :
      (e : List ℕ) (i : ℕ)
      → i < n
      → e ≡ copying d at (part s from n) i
      → set e (at + i) (get_or s (from + i) 0) ≡ copying d at (part s from n) (i + 1)
  unfolding copying
  part_more e i l c =
      let v : i < length (part s from n) = rw (part_length_lem s from n h) l in
      rw (c, ← part_at i l, add-one i) (paste-suc d at (part s from n) i 0 (omega arith) v)

  pub part_all : (e : List ℕ) (i : ℕ) → i ≡ n → e ≡ copying d at (part s from n) i → e ≡ placed d at (part s from n)
  unfolding copying
  part_all e i l c =
      let z : length (part s from n) ≡ i = part_length_lem s from n h ∙ sym l in
      c ∙ rw (placed_in d at (part s from n) (omega arith), ← z, take-length, append_assoc)

module _ (d : List ℕ) (at n x : ℕ) (k : at + n ≤ length d) where
  pub copying_more :
      (e : List ℕ) (i : ℕ)
      → i < n
      → e ≡ copying d at (bytes n x) i
      → set e (at + i) (x / 2 ^ (8 * (n - 1 - i)) % 256) ≡ copying d at (bytes n x) (i + 1)
  unfolding copying bytes
  copying_more e i l c =
      let v : i < length (put n x []) = rw (bytes-length n x) l in
      rw (c, powers, ← byte_at n x i l, add-one i) (paste-suc d at (put n x []) i 0 (omega arith) v)

  pub copying_all : (e : List ℕ) (i : ℕ) → i ≡ n → e ≡ copying d at (bytes n x) i → e ≡ placed d at (bytes n x)
  unfolding copying
  copying_all e i l c =
      let z : length (bytes n x) ≡ i = bytes-length n x ∙ sym l in
      c ∙ rw (placed_in d at (bytes n x) (omega arith), ← z, take-length, append_assoc)
