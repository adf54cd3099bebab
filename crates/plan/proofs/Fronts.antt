-- Numbers at the front of a lent list, and the numbers that a loop has still to pass: a loop that stores one number after the
-- other leaves them at the front and all after them as it was.
use Rattle.std.proofs.Common.{◌≡◌, ℕ, zero, suc, ◌+◌, ◌-◌, ◌<◌, ◌≤◌, List, [], ◌∷◌, ◌++◌, length, get_or, take, drop, set, sym, refl, ap, ◌∙◌, ap₂, arith, length-set, take-append-drop, get_or-set_other, take-suc, get_or-set_same, drop-drop, drop-set-lt}
use Rattle.tables.specs.MethodWords.{numbers_at}
use Rattle.tables.specs.MethodPlan.{Over}
use Rattle.tables.proofs.Clauses.{numbers_at-zero, numbers_at-suc, numbers_at-length, numbers_at-end, numbers_at_snoc, numbers_at-set}
use Rattle.plan.specs.Method.{Front}

-- The numbers that are left

pub left_all : (l : List ℕ) (n : ℕ) → numbers_at l 0 n ≡ numbers_at l 0 (n - 0)
left_all l n = let e : n ≡ n - 0 = omega arith in ap (numbers_at l 0) e

-- a number put before those listed changes none of them
pub left-set : (l : List ℕ) (j x i n : ℕ) → j < i → numbers_at (set l j x) i n ≡ numbers_at l i n
left-set l j x i zero h = numbers_at-zero (set l j x) i ∙ sym (numbers_at-zero l i)
left-set l j x i (suc n) h =
    numbers_at-suc (set l j x) i n
    ∙ ap₂ (λ y ys. y ∷ ys) (get_or-set_other l j i x 0 (λ e. omega arith)) (left-set l j x (i + 1) n (omega arith))
    ∙ sym (numbers_at-suc l i n)

-- Numbers at the front

pub front_none : (d : List ℕ) → Front [] d d 0
front_none d = record { is = numbers_at-zero d 0; rest = refl; size = refl; room = omega arith }

pub front_as : (vs ws d u : List ℕ) (v : ℕ) → Front vs d u v → vs ≡ ws → Front ws d u v
front_as vs ws d u v h e = record { is = h.is ∙ e; rest = h.rest; size = h.size; room = h.room }

pub front_count : (vs d u : List ℕ) (v w : ℕ) → v ≡ w → Front vs d u v → Front vs d u w
front_count vs d u v w e h = rw (← e) h

drop_more : (d u : List ℕ) (v k : ℕ) → drop v u ≡ drop v d → drop (v + k) u ≡ drop (v + k) d
drop_more d u v k h = sym (drop-drop k v u) ∙ ap (drop k) h ∙ drop-drop k v d

pub front-set : (vs d u : List ℕ) (v x : ℕ) → Front vs d u v → v < length d → Front (vs ++ (x ∷ [])) d (set u v x) (v + 1)
front-set vs d u v x h l = record {
  is =
      numbers_at_snoc (set u v x) v
      ∙ ap₂ (λ ns y. ns ++ (y ∷ [])) (numbers_at-set u 0 v v x (omega arith) ∙ h.is) (get_or-set_same u v x 0 (omega (arith, h.size)));
  rest = drop-set-lt (v + 1) u v x (omega arith) ∙ drop_more d u v 1 h.rest;
  size = length-set u v x ∙ h.size;
  room = omega arith;
}

pub front_then : (vs ws d u w : List ℕ) (v x : ℕ) → Front vs d u v → Front ws u w x → v ≤ x → Front ws d w x
front_then vs ws d u w v x h k l =
    let e : v + (x - v) ≡ x = omega arith in
    record {
      is = k.is;
      rest = k.rest ∙ rw e at (drop_more d u v (x - v) h.rest);
      size = k.size ∙ h.size;
      room = omega (arith, h.size, k.room);
    }

pub numbers_front : (u : List ℕ) (v : ℕ) → v ≤ length u → numbers_at u 0 v ≡ take v u
numbers_front u zero h = numbers_at-zero u 0
numbers_front u (suc v) h =
    let z : 0 + v ≡ v = omega arith in
    numbers_at-end u 0 v ∙ ap₂ (λ ns m. ns ++ (get_or u m 0 ∷ [])) (numbers_front u v (omega arith)) z ∙ sym (take-suc u v 0 (omega arith))

pub front_length : (vs d u : List ℕ) (v : ℕ) → Front vs d u v → length vs ≡ v
front_length vs d u v h = ap length (sym h.is) ∙ numbers_at-length u 0 v

pub front_over : (vs d u : List ℕ) (v : ℕ) → Front vs d u v → Over vs d u
front_over vs d u v h =
    sym (take-append-drop v u)
    ∙ ap₂ (λ xs ys. xs ++ ys) (sym (numbers_front u v (omega (arith, h.size, h.room))) ∙ h.is)
    (h.rest ∙ ap (λ (n : ℕ). drop n d) (sym (front_length vs d u v h)))
