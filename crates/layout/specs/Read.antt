-- Reading one part of the bytes after the other, left to right. Each definition takes the number read before and the
-- place, and gives the next number with the place after it, or the fault. The numbers are those of document 01's
-- table "Where a fault is caught".
use Rattle.std.specs.Prelude.{ℕ, zero, suc, ◌+◌, Bool, true, false, List, [], ◌∷◌, eqb, ltb, leb, length}
use Rattle.codec.specs.Number.{be_at}
use Rattle.layout.specs.Got.{Got}
use Rattle.layout.specs.Got.{Num, Fault}
use Rattle.layout.specs.Knowledge.{largest_tick, Field, before_elements}

infixl 40 ◌▷◌
-- the next part is read only where the one before has no fault
abbrev pub ◌▷◌ : Got → (ℕ → ℕ → Got) → Got
Num x at ▷ f = f x at
Fault n ▷ f = Fault n

-- the same part n times
unfoldable pub repeat : (ℕ → ℕ → Got) → ℕ → ℕ → ℕ → Got
repeat f zero x at = Num x at
repeat f (suc n) x at = f x at ▷ repeat f n

-- 1: the bytes end inside the field, whatever its first bytes are
unfoldable pub number : List ℕ → ℕ → ℕ → ℕ → Got
number s n x at = elim (leb (at + n) (length s)) [ true ↦ Num (be_at s n at) (at + n) | false ↦ Fault 1 ]

-- 2: a fixed field differs
unfoldable pub same : ℕ → ℕ → ℕ → Got
same w x at = elim (eqb x w) [ true ↦ Num x at | false ↦ Fault 2 ]

unfoldable pub fields : List ℕ → List Field → ℕ → ℕ → Got
fields s [] x at = Num x at
fields s (f ∷ fs) x at = number s f.size x at ▷ same f.value ▷ fields s fs

-- 3: a count beyond its limits
unfoldable pub limit : ℕ → ℕ → ℕ → ℕ → Got
limit lo hi x at = elim (leb lo x) [ true ↦ elim (leb x hi) [ true ↦ Num x at | false ↦ Fault 3 ] | false ↦ Fault 3 ]

-- 4: the first vector is not empty; it is looked for before 3
unfoldable pub empty : ℕ → ℕ → Got
empty x at = elim (eqb x 0) [ true ↦ Num 0 at | false ↦ Fault 4 ]

-- is x one of the k numbers of n bytes from a place on, one each `step` bytes
unfoldable pub among : List ℕ → ℕ → ℕ → ℕ → ℕ → ℕ → Bool
among s n step at zero x = false
among s n step at (suc k) x = elim (eqb (be_at s n at) x) [ true ↦ true | false ↦ among s n step (at + step) k x ]

-- the rules' own judgement of a replica id, where it refuses
unfoldable pub judged : ℕ → ℕ → ℕ → Got
judged zero k at = Num k at
judged (suc n) k at = Fault (suc n)

-- a replica id that the rules judge, with k ids before it from `start` on. 5: replica id seen before
unfoldable pub replica_id : (ℕ → ℕ) → List ℕ → ℕ → ℕ → ℕ → Got
replica_id judge s start k at =
    number s 16 k at ▷ λ id next.
    elim (among s 16 16 start k id) [ true ↦ Fault 5 | false ↦ judged (judge id) (k + 1) next ]

-- 7: tick above the largest
unfoldable pub tick : List ℕ → ℕ → ℕ → Got
tick s k at = number s 8 k at ▷ λ t next. elim (leb t largest_tick) [ true ↦ Num (k + 1) next | false ↦ Fault 7 ]

-- a vector's element, with k elements before it from `start` on. 6: key at or above r, or repeated in its vector
unfoldable pub element : List ℕ → ℕ → ℕ → ℕ → ℕ → Got
element s r start k at =
    number s 4 k at ▷ λ key next.
    elim (ltb key r) [ true ↦ elim (among s 4 12 start k key) [ true ↦ Fault 6 | false ↦ tick s k next ] | false ↦ Fault 6 ]

-- the first clock vector
unfoldable pub first_vector : List ℕ → ℕ → ℕ → Got
first_vector s x at = fields s before_elements x at ▷ number s 4 ▷ empty

-- a clock vector of a knowledge of r replicas, with e elements in those before it. 3: an element count above r
unfoldable pub vector : List ℕ → ℕ → ℕ → ℕ → Got
vector s r e at =
    fields s before_elements e at ▷ number s 4 ▷ limit 0 r ▷ λ n start.
    repeat (element s r start) n 0 start ▷ λ m next. Num (e + m) next

-- 9: index at or above v
unfoldable pub index : List ℕ → ℕ → ℕ → ℕ → Got
index s v low at = number s 4 low at ▷ λ i next. elim (ltb i v) [ true ↦ Num low next | false ↦ Fault 9 ]

-- a range, whose bound must be `low` or more: 0 at first, then one more than the bound before.
-- 8: bound not above the one before
unfoldable pub range : List ℕ → ℕ → ℕ → ℕ → Got
range s v low at =
    number s 24 low at ▷ λ bound next. elim (leb low bound) [ true ↦ index s v (suc bound) next | false ↦ Fault 8 ]
