-- The fault of a single part, at any place where its bytes stand: the bytes end inside it, or it has a value that its
-- condition forbids. "Seen before" speaks of places, so the laws on ids and keys also take where the earlier ones stand.
-- And the fault of a run of parts: where some are read without a fault and the next one has a fault, the run has it.
use Prim.Native.Nat.{ℕ, zero, suc, ◌+◌, ◌-◌, ◌*◌, ◌^◌, ◌<◌, ◌≤◌}
use mathlib.Core.Path.{◌≡◌, refl, sym, ap, ◌∙◌}
use mathlib.Core.Bool.{Bool, true, false}
use mathlib.Core.List.{List, [], ◌∷◌, ◌++◌}
use native.Mathlib.Omega.{arith}
use native.Mathlib.Nat.{zero-add, suc-add, mul-suc}
use lib.Dec.{eqb}
use lib.ListN.{length, get_or}
use borrow.Author.Tests.{lt-ltb, le-ltb, le-leb, lt-leb, eq-eqb, ne_eqb}
use Rattle.codec.specs.Number.{be_at, put}
use Rattle.layout.specs.Got.{Got}
use Rattle.layout.specs.Got.{Num, Fault}
use Rattle.layout.specs.Knowledge.{Rules, largest_tick, Element, Field, put_fields, put_ids, put_elements, All, keys}
use Rattle.layout.specs.Read.{◌▷◌, repeat, number, same, fields, limit, empty, among, judged, replica_id, tick, element, index, range}
use Rattle.layout.proofs.Parts.{LawfulId, LawfulElement}
use Rattle.layout.proofs.Chain.{Stands, stands_length, over, reads, number_reads, Fit, sizes, last_of, fields_over, fields_read}
use Rattle.layout.proofs.Chain.{Fresh, among_none}

-- a run of n + m parts is a run of n, then one of m
repeat-add : (f : ℕ → ℕ → Got) (n m x at : ℕ) → repeat f (n + m) x at ≡ (repeat f n x at ▷ repeat f m)
unfolding repeat
repeat-add f zero m x at = ap (λ i. repeat f i x at) (zero-add m)
repeat-add f (suc n) m x at = ap (λ i. repeat f i x at) (suc-add n m) ∙ go (f x at) (repeat-add f n m)
  where
    go : (g : Got) → ((y b : ℕ) → repeat f (n + m) y b ≡ (repeat f n y b ▷ repeat f m)) →
        (g ▷ repeat f (n + m)) ≡ (g ▷ repeat f n ▷ repeat f m)
    go (Num y b) rest = rest y b
    go (Fault j) rest = refl

-- n parts without a fault, and a fault in the next of m
pub repeat_fault : (f : ℕ → ℕ → Got) (n m x at y b j : ℕ) → n < m → repeat f n x at ≡ Num y b → f y b ≡ Fault j →
    repeat f m x at ≡ Fault j
unfolding repeat
repeat_fault f n m x at y b j l h e =
    let split : m ≡ n + suc (m - suc n) = omega arith in
    ap (λ i. repeat f i x at) split ∙ repeat-add f n (suc (m - suc n)) x at ∙ rw (h, e)

-- 1, for any number
pub number_cut : (s : List ℕ) (at n y : ℕ) (t : List ℕ) → Stands s at t → length t < n → number s n y at ≡ Fault 1
unfolding number
number_cut s at n y t h l = rw (lt-leb (at + n) (length s) (omega (arith, stands_length s at t h)), number)

-- 1 and 2, for a fixed field
pub fixed_cut : (s : List ℕ) (n w y at : ℕ) (t : List ℕ) → Stands s at t → length t < n →
    (number s n y at ▷ same w) ≡ Fault 1
fixed_cut s n w y at t h l = rw (number_cut s at n y t h l)

pub fixed_differs : (s : List ℕ) (n w y at x : ℕ) (t : List ℕ) → Stands s at (put n x t) → x < 256 ^ n → (x ≡ w → ⊥) →
    (number s n y at ▷ same w) ≡ Fault 2
unfolding same
fixed_differs s n w y at x t h l d = rw (number_reads s at n x y t h l, ne_eqb x w d, same)

-- a run of fixed fields in which some are as they should be, and the next one has a fault
pub fields_fault : (s : List ℕ) (y at : ℕ) (before : List Field) (f : Field) (after : List Field) (t : List ℕ) (j : ℕ) →
    Stands s at (put_fields before t) → All Fit before →
    ((z b : ℕ) → Stands s b t → (number s f.size z b ▷ same f.value) ≡ Fault j) →
    fields s (before ++ (f ∷ after)) y at ≡ Fault j
unfolding fields put_fields same
fields_fault s y at [] f after t j h l e = ap (λ g. g ▷ fields s after) (e y at h)
fields_fault s y at (b ∷ bs) f after t j h l e =
    rw (number_reads s at b.size b.value y (put_fields bs t) h l.0.below, eq-eqb b.value b.value refl, same)
    (fields_fault s b.value (at + b.size) bs f after t j (over s at b.size b.value (put_fields bs t) h) l.1 e)

-- 1 and 3, for a count
pub count_cut : (s : List ℕ) (lo hi y at : ℕ) (t : List ℕ) → Stands s at t → length t < 4 →
    (number s 4 y at ▷ limit lo hi) ≡ Fault 1
count_cut s lo hi y at t h l = rw (number_cut s at 4 y t h l)

pub count_low : (s : List ℕ) (lo hi y at x : ℕ) (t : List ℕ) → Stands s at (put 4 x t) → x < 256 ^ 4 → x < lo →
    (number s 4 y at ▷ limit lo hi) ≡ Fault 3
unfolding limit
count_low s lo hi y at x t h l b = rw (number_reads s at 4 x y t h l, lt-leb lo x b, limit)

pub count_high : (s : List ℕ) (lo hi y at x : ℕ) (t : List ℕ) → Stands s at (put 4 x t) → x < 256 ^ 4 → lo ≤ x → hi < x →
    (number s 4 y at ▷ limit lo hi) ≡ Fault 3
unfolding limit
count_high s lo hi y at x t h l a b = rw (number_reads s at 4 x y t h l, le-leb lo x a, lt-leb x hi b, limit)

-- a fault of the count that stands after fixed fields
pub counted_fault : (s : List ℕ) (fs : List Field) (lo hi y at : ℕ) (t : List ℕ) (j : ℕ) → Stands s at (put_fields fs t) → All Fit fs →
    ((z b : ℕ) → Stands s b t → (number s 4 z b ▷ limit lo hi) ≡ Fault j) →
    (fields s fs y at ▷ number s 4 ▷ limit lo hi) ≡ Fault j
counted_fault s fs lo hi y at t j h l e =
    rw (fields_read s y at fs t h l) (e (last_of y fs) (at + sizes fs) (fields_over s at fs t h))

-- 1 and 4, for the count of the first vector
pub first_cut : (s : List ℕ) (y at : ℕ) (t : List ℕ) → Stands s at t → length t < 4 → (number s 4 y at ▷ empty) ≡ Fault 1
first_cut s y at t h l = rw (number_cut s at 4 y t h l)

pub first_filled : (s : List ℕ) (y at x : ℕ) (t : List ℕ) → Stands s at (put 4 x t) → x < 256 ^ 4 → (x ≡ 0 → ⊥) →
    (number s 4 y at ▷ empty) ≡ Fault 4
unfolding empty
first_filled s y at x t h l d = rw (number_reads s at 4 x y t h l, ne_eqb x 0 d, empty)

-- one of the k numbers from a place on is x
or_true : (a b : Bool) → b ≡ true → ◌≡◌ {A = Bool} (elim a [ true ↦ true | false ↦ b ]) true
or_true true b e = refl
or_true false b e = e

pub among_seen : (s : List ℕ) (n step at k j x : ℕ) → j < k → be_at s n (at + step * j) ≡ x → among s n step at k x ≡ true
unfolding among
among_seen s n step at zero j x l e = absurd (omega arith)
among_seen s n step at (suc k) zero x l e =
    rw (eq-eqb (be_at s n at) x (ap (be_at s n) (omega arith) ∙ e), among)
among_seen s n step at (suc k) (suc j) x l e =
    or_true (eqb (be_at s n at) x) (among s n step (at + step) k x)
    (among_seen s n step (at + step) k j x (omega arith) (ap (be_at s n) (omega (arith, mul-suc step j)) ∙ e))

-- the id and the key at a place of their list
pub id_at_lem : (R : Rules) (s : List ℕ) (at : ℕ) (ids t : List ℕ) (j : ℕ) → Stands s at (put_ids ids t) → All (LawfulId R) ids →
    j < length ids → be_at s 16 (at + 16 * j) ≡ get_or ids j 0
unfolding put_ids
id_at_lem R s at [] t j h l b = absurd (omega arith)
id_at_lem R s at (x ∷ xs) t zero h l b = ap (be_at s 16) (omega arith) ∙ reads s at 16 x (put_ids xs t) h l.0.size
id_at_lem R s at (x ∷ xs) t (suc j) h l b =
    ap (be_at s 16) (omega arith) ∙ id_at_lem R s (at + 16) xs t j (over s at 16 x (put_ids xs t) h) l.1 (omega arith)

pub key_at_lem : (s : List ℕ) (r at : ℕ) (es : List Element) (t : List ℕ) (j : ℕ) → r ≤ 4294967296 → Stands s at (put_elements es t) →
    All (LawfulElement r) es → j < length es → be_at s 4 (at + 12 * j) ≡ get_or (keys es) j 0
unfolding put_elements keys
key_at_lem s r at [] t j m h l b = absurd (omega arith)
key_at_lem s r at (x ∷ xs) t zero m h l b =
    ap (be_at s 4) (omega arith) ∙ reads s at 4 x.key.0 (put 8 x.tick (put_elements xs t)) h (omega arith)
key_at_lem s r at (x ∷ xs) t (suc j) m h l b =
    ap (be_at s 4) (omega arith) ∙
    key_at_lem s r (at + 4 + 8) xs t j m
    (over s (at + 4) 8 x.tick (put_elements xs t) (over s at 4 x.key.0 (put 8 x.tick (put_elements xs t)) h)) l.1
    (omega arith)

-- 1 and 5, for a replica id; and the rules' own number for one that was not there before
pub id_cut : (R : Rules) (s : List ℕ) (start k at : ℕ) (t : List ℕ) → Stands s at t → length t < 16 →
    replica_id R.judge s start k at ≡ Fault 1
unfolding replica_id
id_cut R s start k at t h l = rw (number_cut s at 16 k t h l)

pub id_seen : (R : Rules) (s : List ℕ) (start at : ℕ) (ids : List ℕ) (x j : ℕ) (t : List ℕ) →
    Stands s start (put_ids ids (put 16 x t)) → Stands s at (put 16 x t) → All (LawfulId R) ids → x < 256 ^ 16 →
    j < length ids → x ≡ get_or ids j 0 → replica_id R.judge s start (length ids) at ≡ Fault 5
unfolding replica_id
id_seen R s start at ids x j t g h l m b e =
    rw (
      number_reads s at 16 x (length ids) t h m,
      among_seen s 16 16 start (length ids) j x b (id_at_lem R s start ids (put 16 x t) j g l b ∙ sym e),
      ◌▷◌,
    )

pub id_judged : (R : Rules) (s : List ℕ) (start at : ℕ) (ids : List ℕ) (x n : ℕ) (t : List ℕ) →
    Stands s start (put_ids ids (put 16 x t)) → Stands s at (put 16 x t) → All (LawfulId R) ids → x < 256 ^ 16 →
    ((j : ℕ) → j < length ids → x ≡ get_or ids j 0 → ⊥) → R.judge x ≡ suc n → replica_id R.judge s start (length ids) at ≡ Fault (suc n)
unfolding replica_id judged
id_judged R s start at ids x n t g h l m new e =
    let fresh : Fresh s 16 16 start (length ids) x = record {
      none = λ j b q. new j b (sym q ∙ id_at_lem R s start ids (put 16 x t) j g l b);
    } in
    rw (number_reads s at 16 x (length ids) t h m, among_none s 16 16 start (length ids) x fresh, e, ◌▷◌)

-- 1 and 6, for a key; 1 and 7, for the tick after a key
pub key_cut : (s : List ℕ) (r start k at : ℕ) (t : List ℕ) → Stands s at t → length t < 4 → element s r start k at ≡ Fault 1
unfolding element
key_cut s r start k at t h l = rw (number_cut s at 4 k t h l)

pub key_above : (s : List ℕ) (r start k at x : ℕ) (t : List ℕ) → Stands s at (put 4 x t) → x < 256 ^ 4 → r ≤ x →
    element s r start k at ≡ Fault 6
unfolding element
key_above s r start k at x t h l b = rw (number_reads s at 4 x k t h l, le-ltb x r b, ◌▷◌)

pub key_seen : (s : List ℕ) (r start at : ℕ) (es : List Element) (x j : ℕ) (t : List ℕ) → r ≤ 4294967296 →
    Stands s start (put_elements es (put 4 x t)) → Stands s at (put 4 x t) → All (LawfulElement r) es → x < r →
    j < length es → x ≡ get_or (keys es) j 0 → element s r start (length es) at ≡ Fault 6
unfolding element
key_seen s r start at es x j t m g h l c b e =
    rw (
      number_reads s at 4 x (length es) t h (omega arith),
      lt-ltb x r c,
      among_seen s 4 12 start (length es) j x b (key_at_lem s r start es (put 4 x t) j m g l b ∙ sym e),
      ◌▷◌,
    )

-- the key of an element is as it should be, and its tick has a fault
pub tick_fault : (s : List ℕ) (r start at : ℕ) (es : List Element) (x : ℕ) (t : List ℕ) (n : ℕ) → r ≤ 4294967296 →
    Stands s start (put_elements es (put 4 x t)) → Stands s at (put 4 x t) → All (LawfulElement r) es → x < r →
    ((j : ℕ) → j < length es → x ≡ get_or (keys es) j 0 → ⊥) →
    ((b : ℕ) → Stands s b t → tick s (length es) b ≡ Fault n) → element s r start (length es) at ≡ Fault n
unfolding element
tick_fault s r start at es x t n m g h l c new e =
    let fresh : Fresh s 4 12 start (length es) x = record {
      none = λ j b q. new j b (sym q ∙ key_at_lem s r start es (put 4 x t) j m g l b);
    } in
    rw (
      number_reads s at 4 x (length es) t h (omega arith),
      lt-ltb x r c,
      among_none s 4 12 start (length es) x fresh,
      ◌▷◌,
    )
    (e (at + 4) (over s at 4 x t h))

pub tick_cut : (s : List ℕ) (k at : ℕ) (t : List ℕ) → Stands s at t → length t < 8 → tick s k at ≡ Fault 1
unfolding tick
tick_cut s k at t h l = rw (number_cut s at 8 k t h l)

pub tick_above : (s : List ℕ) (k at x : ℕ) (t : List ℕ) → Stands s at (put 8 x t) → x < 256 ^ 8 → largest_tick < x →
    tick s k at ≡ Fault 7
unfolding tick
tick_above s k at x t h l b = rw (number_reads s at 8 x k t h l, lt-leb x largest_tick b, ◌▷◌)

-- 1 and 8, for a bound; 1 and 9, for the index after a bound
pub bound_cut : (s : List ℕ) (v low at : ℕ) (t : List ℕ) → Stands s at t → length t < 24 → range s v low at ≡ Fault 1
unfolding range
bound_cut s v low at t h l = rw (number_cut s at 24 low t h l)

pub bound_low : (s : List ℕ) (v low at x : ℕ) (t : List ℕ) → Stands s at (put 24 x t) → x < 256 ^ 24 → x < low →
    range s v low at ≡ Fault 8
unfolding range
bound_low s v low at x t h l b = rw (number_reads s at 24 x low t h l, lt-leb low x b, ◌▷◌)

pub index_fault : (s : List ℕ) (v low at x : ℕ) (t : List ℕ) (n : ℕ) → Stands s at (put 24 x t) → x < 256 ^ 24 → low ≤ x →
    ((b : ℕ) → Stands s b t → index s v (suc x) b ≡ Fault n) → range s v low at ≡ Fault n
unfolding range
index_fault s v low at x t n h l b e =
    rw (number_reads s at 24 x low t h l, le-leb low x b, ◌▷◌) (e (at + 24) (over s at 24 x t h))

pub index_cut : (s : List ℕ) (v low at : ℕ) (t : List ℕ) → Stands s at t → length t < 4 → index s v low at ≡ Fault 1
unfolding index
index_cut s v low at t h l = rw (number_cut s at 4 low t h l)

pub index_above : (s : List ℕ) (v low at x : ℕ) (t : List ℕ) → Stands s at (put 4 x t) → x < 256 ^ 4 → v ≤ x →
    index s v low at ≡ Fault 9
unfolding index
index_above s v low at x t h l b = rw (number_reads s at 4 x low t h l, le-ltb x v b, ◌▷◌)
