-- Neighbouring records copied at once. The bytes from an address on and those behind them, in the same bytes, are together the bytes from
-- the first address on. So of records that follow each other the bytes of all may be written once, where there is room for all of them.
use Prim.Native.Nat.{ℕ, ◌+◌, ◌-◌, ◌≤◌, ◌<◌}
use mathlib.Core.Path.{◌≡◌, refl, sym, ap, ap₂, ◌∙◌}
use mathlib.Core.Bool.{Bool, true, false}
use mathlib.Core.List.{List, [], ◌∷◌, ◌++◌}
use native.Mathlib.Omega.{arith}
use native.Mathlib.Numerals.{add-one}
use lib.Dec.{leb}
use lib.ListN.{length, take, drop, get_or, length-append, drop_of_length-le}
use lib.Seq.{drop-cons, drop-drop, take-add}
use borrow.Author.Tests.{le-leb, lt-leb, leb-true, leb-false}
use Rattle.codec.specs.Part.{placed, part}
use Rattle.codec.proofs.Writing.{placed_out, placed-length, placed-append, nothing}
use Rattle.replication.specs.Queries.{length_at}
use Rattle.records.specs.Method.{record_part}
use Rattle.records.proofs.Fields.{part_length_lem}
use Rattle.records_join.specs.MethodJoin.{at_address, run_part, copied}
use Rattle.records_join.proofs.Addresses.{at_first, at_later}
use Rattle.records_join.proofs.Copies.{either, copied_none, copied_more, copied_past}

-- ---- parts

module _ (s : List ℕ) (from n : ℕ) where
  part_in : from + n ≤ length s → part s from n ≡ take n (drop from s)
  unfolding part
  part_in h = rw (le-leb (from + n) (length s) h, part)

  part_out : length s < from + n → part s from n ≡ []
  unfolding part
  part_out h = rw (lt-leb (from + n) (length s) h, part)

part_none : (s : List ℕ) (from : ℕ) → part s from 0 ≡ []
part_none s from = go (leb (from + 0) (length s)) refl
  where
    go : (b : Bool) → leb (from + 0) (length s) ≡ b → part s from 0 ≡ []
    go true e = part_in s from 0 (leb-true (from + 0) (length s) e)
    go false e = part_out s from 0 (leb-false (from + 0) (length s) e)

-- a part and the one behind it, where no byte of them is missing
part-append : (s : List ℕ) (x m k : ℕ) → length (part s x m) ≡ m → length (part s (x + m) k) ≡ k
    → part s x m ++ part s (x + m) k ≡ part s x (m + k)
part-append s x m k e f = go (leb (x + m + k) (length s)) refl
  where
    go : (b : Bool) → leb (x + m + k) (length s) ≡ b → part s x m ++ part s (x + m) k ≡ part s x (m + k)
    go true b =
        let h : x + m + k ≤ length s = leb-true (x + m + k) (length s) b in
        let i : x + m ≤ length s = omega arith in
        let j : x + (m + k) ≤ length s = omega arith in
        ap₂ {C = List ℕ} ◌++◌ (part_in s x m i) (part_in s (x + m) k h ∙ ap (take k) (sym (drop-drop m x s)))
        ∙ (sym (take-add m k (drop x s)) ∙ sym (part_in s x (m + k) j))
    go false b =
        let h : length s < x + m + k = leb-false (x + m + k) (length s) b in
        let g = part_out s (x + m) k h in
        let z : k ≡ 0 = sym f ∙ ap length g in
        let i : length s < x + m = omega (arith, z) in
        let j : length s < x + (m + k) = omega (arith, z) in
        ap₂ {C = List ℕ} ◌++◌ (part_out s x m i) g ∙ sym (part_out s x (m + k) j)

-- ---- runs

module _ (s t : List ℕ) (x m : ℕ) where
  pub run_first : x < length s → run_part s t x m ≡ part s x m
  unfolding run_part
  run_first h = at_first (λ u y. part u y m) s t x h

  pub run_later : length s ≤ x → run_part s t x m ≡ part t (x - length s) m
  unfolding run_part
  run_later h = at_later (λ u y. part u y m) s t x h

module _ (s t : List ℕ) where
  run_none : (x : ℕ) → run_part s t x 0 ≡ []
  run_none x =
      either s t x (run_part s t x 0 ≡ []) (λ h. run_first s t x 0 h ∙ part_none s x) (λ h. run_later s t x 0 h ∙ part_none t (x - length s))

  -- the bytes of one record
  module _ (y k : ℕ) (e : k ≡ at_address length_at s t y) where
    record_run : at_address record_part s t y ≡ run_part s t y k
    unfolding record_part
    record_run =
        either s t y (at_address record_part s t y ≡ run_part s t y k)
        (λ h. at_first record_part s t y h ∙ (ap (part s y) (sym (e ∙ at_first length_at s t y h)) ∙ sym (run_first s t y k h)))
        (λ h. at_later record_part s t y h
        ∙ (ap (part t (y - length s)) (sym (e ∙ at_later length_at s t y h)) ∙ sym (run_later s t y k h)))

    record-length : length (run_part s t y k) ≡ k
    record-length =
        ap length (sym record_run) ∙ (either s t y (length (at_address record_part s t y) ≡ at_address length_at s t y)
        (λ h. ap length (at_first record_part s t y h) ∙ (part_length_lem s y ∙ sym (at_first length_at s t y h)))
        (λ h. ap length (at_later record_part s t y h) ∙ (part_length_lem t (y - length s) ∙ sym (at_later length_at s t y h))) ∙ sym e)

  -- a run and the one behind it, in the same bytes
  run-append : (x m y k : ℕ) → y ≡ x + m → (x < length s → y < length s) → length (run_part s t x m) ≡ m → length (run_part s t y k) ≡ k
      → run_part s t x m ++ run_part s t y k ≡ run_part s t x (m + k)
  run-append x m y k e l f g = either s t x (run_part s t x m ++ run_part s t y k ≡ run_part s t x (m + k)) first later
    where
      first : x < length s → run_part s t x m ++ run_part s t y k ≡ run_part s t x (m + k)
      first h =
          let a : run_part s t x m ≡ part s x m = run_first s t x m h in
          let b : run_part s t y k ≡ part s (x + m) k = run_first s t y k (l h) ∙ ap (λ (z : ℕ). part s z k) e in
          ap₂ {C = List ℕ} ◌++◌ a b
          ∙ (part-append s x m k (ap length (sym a) ∙ f) (ap length (sym b) ∙ g) ∙ sym (run_first s t x (m + k) h))

      later : length s ≤ x → run_part s t x m ++ run_part s t y k ≡ run_part s t x (m + k)
      later h =
          let i : length s ≤ y = omega (arith, e) in
          let j : y - length s ≡ x - length s + m = omega (arith, e) in
          let a : run_part s t x m ≡ part t (x - length s) m = run_later s t x m h in
          let b : run_part s t y k ≡ part t (x - length s + m) k = run_later s t y k i ∙ ap (λ (z : ℕ). part t z k) j in
          ap₂ {C = List ℕ} ◌++◌ a b
          ∙ (part-append t (x - length s) m k (ap length (sym a) ∙ f) (ap length (sym b) ∙ g) ∙ sym (run_later s t x (m + k) h))

-- ---- the copy

-- Of all addresses those from i on are left, and a run that has room is still to be written from the place p on.
pub record Pending (s t chosen d : List ℕ) (at : ℕ) (u : List ℕ) (p x m i : ℕ) : Type 0 where
  pub left : copied s t d at chosen ≡ copied s t (placed u p (run_part s t x m)) (p + m) (drop i chosen)
  pub size : length (run_part s t x m) ≡ m
  pub room : p + m ≤ length u
  pub kept : length u ≡ length d

module _ (s t chosen d : List ℕ) (at : ℕ) where
  -- a run of no bytes
  none_pending : (u : List ℕ) (p x i : ℕ) → copied s t d at chosen ≡ copied s t u p (drop i chosen) → p ≤ length u → length u ≡ length d
      → Pending s t chosen d at u p x 0 i
  none_pending u p x i e h k =
      let z : p ≡ p + 0 = omega arith in
      record {
        left =
            e ∙ ap₂ {C = List ℕ} (λ (v : List ℕ) (q : ℕ). copied s t v q (drop i chosen))
            (nothing u p ∙ ap (placed u p) (sym (run_none s t x))) z;
        size = ap length (run_none s t x);
        room = omega arith;
        kept = k;
      }

  pub pending_none : (x : ℕ) → at ≤ length d → Pending s t chosen d at d at x 0 0
  pending_none x h = none_pending d at x 0 refl h refl

  module _ (u : List ℕ) (p x m i : ℕ) (inv : Pending s t chosen d at u p x m i) where
    pub pending_end : length chosen ≤ i → (v : List ℕ) → v ≡ placed u p (run_part s t x m) → v ≡ copied s t d at chosen
    pending_end h v e =
        let w = placed u p (run_part s t x m) in
        e ∙ sym (inv.left ∙ (ap (copied s t w (p + m)) (drop_of_length-le chosen h) ∙ copied_none s t w (p + m)))

    module _ (h : i < length chosen) (y k : ℕ) (c : y ≡ get_or chosen i 0) (e : k ≡ at_address length_at s t y) where
      next : copied s t d at chosen
          ≡ copied s t (placed (placed u p (run_part s t x m)) (p + m) (run_part s t y k)) (p + m + k) (drop (i + 1) chosen)
      next =
          let w = placed u p (run_part s t x m) in
          let j : drop i chosen ≡ y ∷ drop (i + 1) chosen =
          drop-cons chosen i 0 h ∙ ap₂ {C = List ℕ} (λ (y j : ℕ). y ∷ drop j chosen) (sym c) (sym (add-one i)) in
          inv.left
          ∙ (ap (copied s t w (p + m)) j
          ∙ (copied_more s t w (p + m) y (drop (i + 1) chosen)
          ∙ ap₂ {C = List ℕ} (λ (v : List ℕ) (q : ℕ). copied s t (placed w (p + m) v) (p + m + q) (drop (i + 1) chosen))
          (record_run s t y k e) (sym e)))

      -- the next record goes on with the run
      longer : y ≡ x + m → (x < length s → y < length s) → p + m + k ≤ length u → Pending s t chosen d at u p x (m + k) (i + 1)
      longer a l r =
          let b = run_part s t x m in
          let o = run_part s t y k in
          let f : b ++ o ≡ run_part s t x (m + k) = run-append s t x m y k a l inv.size (record-length s t y k e) in
          let n : length (b ++ o) ≡ m + k = length-append b o ∙ ap₂ {C = ℕ} ◌+◌ inv.size (record-length s t y k e) in
          let z : p + m + k ≡ p + (m + k) = omega arith in
          let q : p + m ≡ p + length b = ap (λ (z : ℕ). p + z) (sym inv.size) in
          let r' : p + length (b ++ o) ≤ length u = omega (arith, n) in
          record {
            left =
                next
                ∙ ap₂ {C = List ℕ} (λ (v : List ℕ) (j : ℕ). copied s t v j (drop (i + 1) chosen))
                (ap (λ (j : ℕ). placed (placed u p b) j o) q ∙ (placed-append u p b o r' ∙ ap (placed u p) f)) z;
            size = ap length (sym f) ∙ n;
            room = omega arith;
            kept = inv.kept;
          }

      -- the next record has no room, so that none is written from it on
      pub pending_full : length u < p + m + k → (v : List ℕ) → v ≡ placed u p (run_part s t x m) → v ≡ copied s t d at chosen
      pending_full r v f =
          let w = placed u p (run_part s t x m) in
          let n : length w ≡ length u = placed-length u p (run_part s t x m) in
          let g : w ≡ placed w (p + m) (run_part s t y k) =
          placed_out w (p + m) (run_part s t y k) (omega (arith, n, record-length s t y k e)) in
          f ∙ sym (next ∙ (ap (λ (o : List ℕ). copied s t o (p + m + k) (drop (i + 1) chosen)) (sym g)
          ∙ copied_past s t w (p + m + k) (drop (i + 1) chosen) (omega (arith, n))))

  -- a record that has room is taken: it goes on with the run, or the run is written and the next begins with it
  module _ (u : List ℕ) (p x m i : ℕ) (inv : Pending s t chosen d at u p x m i) (h : i < length chosen) (y k : ℕ) (c : y ≡ get_or chosen i 0)
      (e : k ≡ at_address length_at s t y) (r : p + m + k ≤ length u) (u' : List ℕ) (p' x' m' : ℕ) where
    pub pending_longer : (y ≡ x + m) × (x < length s → y < length s) → u' ≡ u → p' ≡ p → x' ≡ x → m' ≡ m + k
        → Pending s t chosen d at u' p' x' m' (i + 1)
    pending_longer l f g o n = rw (f, g, o, n) (longer u p x m i inv h y k c e l.0 l.1 r)

    pub pending_begun : (v : List ℕ) → v ≡ placed u p (run_part s t x m) → u' ≡ v → p' ≡ p + m → x' ≡ y → m' ≡ k
        → Pending s t chosen d at u' p' x' m' (i + 1)
    pending_begun v w f g o n =
        let l : length v ≡ length u = ap length w ∙ placed-length u p (run_part s t x m) in
        let z : m' ≡ 0 + k = omega arith in
        let j : Pending s t chosen d at v (p + m) y 0 i =
        none_pending v (p + m) y i (inv.left ∙ ap (λ (w : List ℕ). copied s t w (p + m) (drop i chosen)) (sym w))
        (omega (arith, inv.room)) (l ∙ inv.kept) in
        rw (f, g, o, z) (longer v (p + m) y 0 i j h y k c e (omega arith) (λ b. b) (omega arith))

-- ---- the addresses

-- none
pub copied_empty : (s t d : List ℕ) (at : ℕ) (l : List ℕ) → length l ≡ 0 → d ≡ copied s t d at l
copied_empty s t d at [] h = sym (copied_none s t d at)
copied_empty s t d at (x ∷ l) h = absurd (omega arith)
