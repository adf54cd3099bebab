-- The clauses of the definitions of the plan and of the numbers that stand in a list, one law each: others unfold these
-- definitions nowhere. A test of a clause is a premise here.
use Prim.Native.Nat.{ℕ, zero, suc, ◌+◌, ◌-◌, ◌≤◌, ◌<◌}
use mathlib.Core.Path.{◌≡◌, refl, sym, ◌∙◌, ap, ap₂}
use mathlib.Core.Bool.{Bool, true, false}
use mathlib.Core.List.{List, [], ◌∷◌, ◌++◌}
use native.Mathlib.Omega.{arith}
use lib.ListN.{length, get_or, set, drop}
use lib.Seq.{get_or-set_other}
use borrow.Author.Tests.{lt-ltb, le-ltb, eq-eqb, ne_eqb}
use Rattle.ticks.specs.Meaning.{place_by}
use Rattle.ticks.specs.Written.{element_with, range_with}
use Rattle.tables.specs.MethodWords.{numbers_at}
use Rattle.tables.specs.MethodPlan.{same_below, same, stir, mix_below, rows_from, grown_by, firsts_from, numbers_from, firsts_of, numbers_of}
use Rattle.tables.specs.MethodPlan.{used_in}
use Rattle.tables.specs.MethodPlan.{insert_column, with_column, columns_from, columns_of, ids_of, elements_from, vectors_in, ranges_from, ranges_in}
use Rattle.tables.specs.MethodPlan.{element_count, range_count, Over}

-- Rows

pub same_below-zero : (T : ℕ → ℕ → ℕ) (j k : ℕ) → same_below T j k 0 ≡ true
unfolding same_below
same_below-zero T j k = refl

pub same_below_equal : (T : ℕ → ℕ → ℕ) (j k c : ℕ) → T j c ≡ T k c → same_below T j k (suc c) ≡ same_below T j k c
unfolding same_below
same_below_equal T j k c e = rw (eq-eqb (T j c) (T k c) e, same_below)

pub same_below_unlike : (T : ℕ → ℕ → ℕ) (j k c : ℕ) → (T j c ≡ T k c → ⊥) → same_below T j k (suc c) ≡ false
unfolding same_below
same_below_unlike T j k c n = rw (ne_eqb (T j c) (T k c) n, same_below)

pub same_is : (T : ℕ → ℕ → ℕ) (r j k : ℕ) → same T r j k ≡ same_below T j k r
unfolding same
same_is T r j k = refl

pub mix_below-zero : (T : ℕ → ℕ → ℕ) (k : ℕ) → mix_below T k 0 ≡ 0
unfolding mix_below
mix_below-zero T k = refl

pub mix_below-suc : (T : ℕ → ℕ → ℕ) (k c : ℕ) → mix_below T k (suc c) ≡ stir (mix_below T k c) (T k c)
unfolding mix_below
mix_below-suc T k c = refl

pub rows-zero : (k : ℕ) → rows_from k 0 ≡ []
unfolding rows_from
rows-zero k = refl

pub rows-suc : (k n : ℕ) → rows_from k (suc n) ≡ k ∷ rows_from (k + 1) n
unfolding rows_from
rows-suc k n = refl

-- The place of a row among those met, by any test

pub place_by_nil : {A : Type 0} (eq : A → A → Bool) (x : A) → place_by eq x [] ≡ 0
unfolding place_by
place_by_nil eq x = refl

pub place_by_here : {A : Type 0} (eq : A → A → Bool) (x y : A) (ys : List A) → eq y x ≡ true → place_by eq x (y ∷ ys) ≡ 0
unfolding place_by
place_by_here eq x y ys e = rw (e, place_by)

pub place_by_later : {A : Type 0} (eq : A → A → Bool) (x y : A) (ys : List A) → eq y x ≡ false → place_by eq x (y ∷ ys) ≡ suc (place_by eq x ys)
unfolding place_by
place_by_later eq x y ys e = rw (e, place_by)

-- The distinct rows and their numbers

pub grown_by_old : (eq : ℕ → ℕ → Bool) (seen : List ℕ) (k : ℕ) → place_by eq k seen < length seen → grown_by eq seen k ≡ seen
unfolding grown_by
grown_by_old eq seen k h = rw (lt-ltb (place_by eq k seen) (length seen) h, grown_by)

pub grown_by_new : (eq : ℕ → ℕ → Bool) (seen : List ℕ) (k : ℕ) → length seen ≤ place_by eq k seen → grown_by eq seen k ≡ seen ++ (k ∷ [])
unfolding grown_by
grown_by_new eq seen k h = rw (le-ltb (place_by eq k seen) (length seen) h, grown_by)

pub firsts-nil : (eq : ℕ → ℕ → Bool) (seen : List ℕ) → firsts_from eq seen [] ≡ seen
unfolding firsts_from
firsts-nil eq seen = refl

pub firsts-cons : (eq : ℕ → ℕ → Bool) (seen : List ℕ) (k : ℕ) (ks : List ℕ) → firsts_from eq seen (k ∷ ks) ≡ firsts_from eq (grown_by eq seen k) ks
unfolding firsts_from
firsts-cons eq seen k ks = refl

pub numbers-nil : (eq : ℕ → ℕ → Bool) (seen : List ℕ) → numbers_from eq seen [] ≡ []
unfolding numbers_from
numbers-nil eq seen = refl

pub numbers-cons : (eq : ℕ → ℕ → Bool) (seen : List ℕ) (k : ℕ) (ks : List ℕ)
    → numbers_from eq seen (k ∷ ks) ≡ place_by eq k seen ∷ numbers_from eq (grown_by eq seen k) ks
unfolding numbers_from
numbers-cons eq seen k ks = refl

pub firsts_of_lem : (T : ℕ → ℕ → ℕ) (r n : ℕ) → firsts_of T r n ≡ firsts_from (same T r) (0 ∷ []) (rows_from 1 n)
unfolding firsts_of
firsts_of_lem T r n = refl

pub numbers_of_lem : (T : ℕ → ℕ → ℕ) (r n : ℕ) → numbers_of T r n ≡ numbers_from (same T r) (0 ∷ []) (rows_from 1 n)
unfolding numbers_of
numbers_of_lem T r n = refl

-- The replica map

pub used-nil : (T : ℕ → ℕ → ℕ) (c : ℕ) → used_in T [] c ≡ false
unfolding used_in
used-nil T c = refl

pub used_here : (T : ℕ → ℕ → ℕ) (k : ℕ) (ks : List ℕ) (c : ℕ) → (T k c ≡ 0 → ⊥) → used_in T (k ∷ ks) c ≡ true
unfolding used_in
used_here T k ks c n = rw (ne_eqb (T k c) 0 n, used_in)

pub used_later : (T : ℕ → ℕ → ℕ) (k : ℕ) (ks : List ℕ) (c : ℕ) → T k c ≡ 0 → used_in T (k ∷ ks) c ≡ used_in T ks c
unfolding used_in
used_later T k ks c e = rw (eq-eqb (T k c) 0 e, used_in)

pub insert_column-nil : (P : ℕ → ℕ) (c : ℕ) → insert_column P c [] ≡ c ∷ []
unfolding insert_column
insert_column-nil P c = refl

pub insert_column_before : (P : ℕ → ℕ) (c d : ℕ) (ds : List ℕ) → P c < P d → insert_column P c (d ∷ ds) ≡ c ∷ insert_column P d ds
unfolding insert_column
insert_column_before P c d ds h = rw (lt-ltb (P c) (P d) h, insert_column)

pub insert_column_after : (P : ℕ → ℕ) (c d : ℕ) (ds : List ℕ) → P d ≤ P c → insert_column P c (d ∷ ds) ≡ d ∷ insert_column P c ds
unfolding insert_column
insert_column_after P c d ds h = rw (le-ltb (P c) (P d) h, insert_column)

pub with_column_used : (P : ℕ → ℕ) (c : ℕ) (cols : List ℕ) → with_column P true c cols ≡ insert_column P c cols
unfolding with_column
with_column_used P c cols = refl

pub with_column_unused : (P : ℕ → ℕ) (c : ℕ) (cols : List ℕ) → with_column P false c cols ≡ cols
unfolding with_column
with_column_unused P c cols = refl

pub columns-zero : (P : ℕ → ℕ) (T : ℕ → ℕ → ℕ) (ks : List ℕ) (c : ℕ) (cols : List ℕ) → columns_from P T ks 0 c cols ≡ cols
unfolding columns_from
columns-zero P T ks c cols = refl

pub columns-suc : (P : ℕ → ℕ) (T : ℕ → ℕ → ℕ) (ks : List ℕ) (n c : ℕ) (cols : List ℕ)
    → columns_from P T ks (suc n) c cols ≡ columns_from P T ks n (c + 1) (with_column P (used_in T ks c) c cols)
unfolding columns_from
columns-suc P T ks n c cols = refl

pub columns_of_lem : (P : ℕ → ℕ) (T : ℕ → ℕ → ℕ) (r : ℕ) (ks : List ℕ) → columns_of P T r ks ≡ columns_from P T ks r 0 []
unfolding columns_of
columns_of_lem P T r ks = refl

pub ids-nil : (P : ℕ → ℕ) → ids_of P [] ≡ []
unfolding ids_of
ids-nil P = refl

pub ids-cons : (P : ℕ → ℕ) (c : ℕ) (cs : List ℕ) → ids_of P (c ∷ cs) ≡ P c ∷ ids_of P cs
unfolding ids_of
ids-cons P c cs = refl

-- Vectors and ranges

pub elements-nil : (g : ℕ → ℕ) (key : ℕ) → elements_from g key [] ≡ []
unfolding elements_from
elements-nil g key = refl

pub elements_none : (g : ℕ → ℕ) (key c : ℕ) (cs : List ℕ) → g c ≡ 0 → elements_from g key (c ∷ cs) ≡ elements_from g (key + 1) cs
unfolding elements_from
elements_none g key c cs e = rw (eq-eqb (g c) 0 e, elements_from)

pub elements_some : (g : ℕ → ℕ) (key c : ℕ) (cs : List ℕ) → (g c ≡ 0 → ⊥)
    → elements_from g key (c ∷ cs) ≡ element_with key (g c) ∷ elements_from g (key + 1) cs
unfolding elements_from
elements_some g key c cs n = rw (ne_eqb (g c) 0 n, elements_from)

pub vectors_in_nil : (T : ℕ → ℕ → ℕ) (cols : List ℕ) → vectors_in T cols [] ≡ []
unfolding vectors_in
vectors_in_nil T cols = refl

pub vectors_in_cons : (T : ℕ → ℕ → ℕ) (cols : List ℕ) (k : ℕ) (ks : List ℕ)
    → vectors_in T cols (k ∷ ks) ≡ elements_from (T k) 0 cols ∷ vectors_in T cols ks
unfolding vectors_in
vectors_in_cons T cols k ks = refl

pub ranges_from-nil : (B : ℕ → ℕ) (k before : ℕ) → ranges_from B k before [] ≡ []
unfolding ranges_from
ranges_from-nil B k before = refl

pub ranges_from_joined : (B : ℕ → ℕ) (k before x : ℕ) (xs : List ℕ) → x ≡ before → ranges_from B k before (x ∷ xs) ≡ ranges_from B (k + 1) x xs
unfolding ranges_from
ranges_from_joined B k before x xs e = rw (eq-eqb x before e, ranges_from)

pub ranges_from_kept : (B : ℕ → ℕ) (k before x : ℕ) (xs : List ℕ) → (x ≡ before → ⊥)
    → ranges_from B k before (x ∷ xs) ≡ range_with (B k) x ∷ ranges_from B (k + 1) x xs
unfolding ranges_from
ranges_from_kept B k before x xs n = rw (ne_eqb x before n, ranges_from)

pub ranges_in_lem : (B : ℕ → ℕ) (numbers : List ℕ) → ranges_in B numbers ≡ ranges_from B 1 (length numbers + 1) numbers
unfolding ranges_in
ranges_in_lem B numbers = refl

-- Sizes

pub element_count-nil : (T : ℕ → ℕ → ℕ) (cols : List ℕ) → element_count T cols [] ≡ 0
unfolding element_count
element_count-nil T cols = refl

pub element_count-cons : (T : ℕ → ℕ → ℕ) (cols : List ℕ) (k : ℕ) (ks : List ℕ)
    → element_count T cols (k ∷ ks) ≡ length (elements_from (T k) 0 cols) + element_count T cols ks
unfolding element_count
element_count-cons T cols k ks = refl

pub range_count-nil : (before : ℕ) → range_count before [] ≡ 0
unfolding range_count
range_count-nil before = refl

pub range_count_joined : (before x : ℕ) (xs : List ℕ) → x ≡ before → range_count before (x ∷ xs) ≡ range_count x xs
unfolding range_count
range_count_joined before x xs e = rw (eq-eqb x before e, range_count)

pub range_count_kept : (before x : ℕ) (xs : List ℕ) → (x ≡ before → ⊥) → range_count before (x ∷ xs) ≡ suc (range_count x xs)
unfolding range_count
range_count_kept before x xs n = rw (ne_eqb x before n, range_count)

-- Numbers that stand in a list

pub numbers_at-zero : (l : List ℕ) (i : ℕ) → numbers_at l i 0 ≡ []
unfolding numbers_at
numbers_at-zero l i = refl

pub numbers_at-suc : (l : List ℕ) (i n : ℕ) → numbers_at l i (suc n) ≡ get_or l i 0 ∷ numbers_at l (i + 1) n
unfolding numbers_at
numbers_at-suc l i n = refl

-- the numbers from a place on, of the first n
pub numbers_left_more : (l : List ℕ) (i n : ℕ) → i < n → numbers_at l i (n - i) ≡ get_or l i 0 ∷ numbers_at l (i + 1) (n - (i + 1))
numbers_left_more l i n h = let e : n - i ≡ suc (n - (i + 1)) = omega arith in ap (numbers_at l i) e ∙ numbers_at-suc l i (n - (i + 1))

pub numbers_left_none : (l : List ℕ) (i n : ℕ) → n ≤ i → numbers_at l i (n - i) ≡ []
numbers_left_none l i n h = let e : n - i ≡ 0 = omega arith in ap (numbers_at l i) e ∙ numbers_at-zero l i

pub numbers_at-length : (l : List ℕ) (i n : ℕ) → length (numbers_at l i n) ≡ n
numbers_at-length l i zero = ap length (numbers_at-zero l i)
numbers_at-length l i (suc n) = ap length (numbers_at-suc l i n) ∙ ap suc (numbers_at-length l (i + 1) n)

-- one number more, at the end
pub numbers_at-end : (l : List ℕ) (i n : ℕ) → numbers_at l i (suc n) ≡ numbers_at l i n ++ (get_or l (i + n) 0 ∷ [])
numbers_at-end l i zero =
    let e : i ≡ i + 0 = omega arith in
    numbers_at-suc l i 0 ∙ ap₂ (λ m ns. get_or l m 0 ∷ ns) e (numbers_at-zero l (i + 1))
    ∙ ap (λ ns. ns ++ (get_or l (i + 0) 0 ∷ [])) (sym (numbers_at-zero l i))
numbers_at-end l i (suc n) =
    let e : i + 1 + n ≡ i + suc n = omega arith in
    numbers_at-suc l i (suc n)
    ∙ ap (λ ns. get_or l i 0 ∷ ns) (numbers_at-end l (i + 1) n ∙ ap (λ m. numbers_at l (i + 1) n ++ (get_or l m 0 ∷ [])) e)
    ∙ ap (λ ns. ns ++ (get_or l (i + suc n) 0 ∷ [])) (sym (numbers_at-suc l i n))

pub numbers_at_snoc : (l : List ℕ) (n : ℕ) → numbers_at l 0 (n + 1) ≡ numbers_at l 0 n ++ (get_or l n 0 ∷ [])
numbers_at_snoc l n =
    let e : n + 1 ≡ suc n = omega arith in
    let z : 0 + n ≡ n = omega arith in
    ap (numbers_at l 0) e ∙ numbers_at-end l 0 n ∙ ap (λ m. numbers_at l 0 n ++ (get_or l m 0 ∷ [])) z

-- a number put at or past the end of those listed changes none of them
pub numbers_at-set : (l : List ℕ) (i n j x : ℕ) → i + n ≤ j → numbers_at (set l j x) i n ≡ numbers_at l i n
numbers_at-set l i zero j x h = numbers_at-zero (set l j x) i ∙ sym (numbers_at-zero l i)
numbers_at-set l i (suc n) j x h =
    numbers_at-suc (set l j x) i n
    ∙ ap₂ (λ y ys. y ∷ ys) (get_or-set_other l j i x 0 (λ e. omega arith)) (numbers_at-set l (i + 1) n j x (omega arith))
    ∙ sym (numbers_at-suc l i n)

-- the numbers at the front of a list that begins with them
numbers_at_tail : (x : ℕ) (l : List ℕ) (i n : ℕ) → numbers_at (x ∷ l) (suc i) n ≡ numbers_at l i n
numbers_at_tail x l i zero = numbers_at-zero (x ∷ l) (suc i) ∙ sym (numbers_at-zero l i)
numbers_at_tail x l i (suc n) =
    let e : suc i + 1 ≡ suc (i + 1) = omega arith in
    numbers_at-suc (x ∷ l) (suc i) n
    ∙ ap (λ ns. get_or l i 0 ∷ ns) (ap (λ m. numbers_at (x ∷ l) m n) e ∙ numbers_at_tail x l (i + 1) n)
    ∙ sym (numbers_at-suc l i n)

pub numbers_at-append : (vs rest : List ℕ) → numbers_at (vs ++ rest) 0 (length vs) ≡ vs
numbers_at-append [] rest = numbers_at-zero rest 0
numbers_at-append (v ∷ vs) rest =
    numbers_at-suc (v ∷ (vs ++ rest)) 0 (length vs)
    ∙ ap (λ ns. v ∷ ns) (numbers_at_tail v (vs ++ rest) 0 (length vs) ∙ numbers_at-append vs rest)

pub numbers_at-over : (vs d u : List ℕ) → Over vs d u → numbers_at u 0 (length vs) ≡ vs
numbers_at-over vs d u o = ap (λ l. numbers_at l 0 (length vs)) o ∙ numbers_at-append vs (drop (length vs) d)
