-- The writer's steps. Each function writes some pieces and gives the place after them; whatever is written next goes on from
-- there. Loops keep what is left to write: one thing less at each turn, nothing at the end. Past the end of the buffer nothing
-- has room, so there any place is the place after.
use Prim.Native.Nat.{ℕ, zero, suc, ◌+◌, ◌-◌, ◌*◌, ◌/◌, ◌≤◌, ◌<◌}
use mathlib.Core.Path.{◌≡◌, refl, sym, ap, ap₂, ◌∙◌}
use mathlib.Core.Bool.{Bool, true, false}
use mathlib.Core.List.{List, [], ◌∷◌, ◌++◌, append-nil, append_assoc}
use native.Mathlib.Omega.{arith}
use lib.Dec.{eqb}
use lib.ListN.{length, get_or}
use borrow.Author.Tests.{eq-eqb, ne_eqb}
use Rattle.codec.specs.Number.{put}
use Rattle.codec.specs.Part.{placed, bytes}
use Rattle.codec.proofs.Writing.{bytes-length}
use Rattle.layout.specs.Knowledge.{Field, put_fields, opening, before_vectors, before_elements, before_ranges, closing}
use Rattle.tables.specs.declared.Sizes.{Sizes}
use Rattle.tables.specs.MethodWords.{cell, numbers_at}
use Rattle.tables.specs.MethodPlan.{elements_from}
use Rattle.tables.specs.MethodPieces.{laid, id_pieces, element_pieces, vector_pieces, vectors_pieces, range_pieces, ranges_pieces, page_pieces}
use Rattle.tables.proofs.Clauses.{numbers_left_more, numbers_left_none}
use Rattle.tables.proofs.Pieces.{laid_past, laid_behind}
use Rattle.writer.specs.Method.{Left, Wrote, elements_of}

-- ---- what is left

module _ (d : List ℕ) (at : ℕ) (ps : List (List ℕ)) where
  pub left_all : Left d at ps d at ps
  left_all = record { is = λ ts. refl }

  pub left_past : length d < at → Wrote d at ps d at
  left_past h = record { is = λ ts. laid_past d at (ps ++ ts) h ∙ sym (laid_past d at ts h) }

  -- the first part of what is left is written
  pub left_on : (u : List ℕ) (p : ℕ) (qs xs rs : List (List ℕ)) → Left d at ps u p qs → qs ≡ xs ++ rs
      → (w : List ℕ) (q : ℕ) → Wrote u p xs w q → Left d at ps w q rs
  left_on u p qs xs rs l e w q o = record {
    is = λ ts. l.is ts ∙ ap (λ (v : List (List ℕ)). laid u p (v ++ ts)) e ∙ ap (laid u p) (append_assoc xs rs ts) ∙ o.is (rs ++ ts);
  }

  pub left_none : (u : List ℕ) (p : ℕ) (qs : List (List ℕ)) → Left d at ps u p qs → qs ≡ [] → Wrote d at ps u p
  left_none u p qs l e = record { is = λ ts. l.is ts ∙ ap (λ (v : List (List ℕ)). laid u p (v ++ ts)) e }

  -- one piece of what is left is written
  pub left_piece : (u : List ℕ) (p : ℕ) (x : List ℕ) (rs : List (List ℕ)) → Left d at ps u p (x ∷ rs)
      → (w : List ℕ) (n q : ℕ) → w ≡ placed u p x → length x ≡ n → p + n ≡ q → Left d at ps w q rs
  unfolding laid
  left_piece u p x rs l w n q e s f =
      record { is = λ ts. l.is ts ∙ ap₂ (λ (v : List ℕ) (k : ℕ). laid v k (rs ++ ts)) (sym e) (ap (λ (k : ℕ). p + k) s ∙ f) }

  pub left_number : (u : List ℕ) (p n x : ℕ) (rs : List (List ℕ)) → Left d at ps u p (bytes n x ∷ rs)
      → (w : List ℕ) (q : ℕ) → w ≡ placed u p (bytes n x) → p + n ≡ q → Left d at ps w q rs
  left_number u p n x rs l w q e f = left_piece u p (bytes n x) rs l w n q e (bytes-length n x) f

-- ---- the ids of the replica map

pub id_wrote : (d e f ids : List ℕ) (at c a b : ℕ) → a ≡ get_or ids (2 * c) 0 → b ≡ get_or ids (2 * c + 1) 0
    → e ≡ placed d at (bytes 8 a) → f ≡ placed e (at + 8) (bytes 8 b) → Wrote d at (id_pieces ids (c ∷ [])) f (at + 16)
unfolding id_pieces
id_wrote d e f ids at c a b ia ib p q =
    let x = get_or ids (2 * c) 0 in
    let y = get_or ids (2 * c + 1) 0 in
    let ps = bytes 8 x ∷ bytes 8 y ∷ [] in
    left_number d at ps e (at + 8) 8 y []
    (left_number d at ps d at 8 x (bytes 8 y ∷ []) (left_all d at ps) e (at + 8) (p ∙ ap (λ (v : ℕ). placed d at (bytes 8 v)) ia) refl)
    f (at + 16) (q ∙ ap (λ (v : ℕ). placed e (at + 8) (bytes 8 v)) ib) (omega arith)

module _ (ids cols : List ℕ) (m : ℕ) (d : List ℕ) (at : ℕ) where
  module _ (ps : List (List ℕ)) (u : List ℕ) (p i : ℕ) (l : Left d at ps u p (id_pieces ids (numbers_at cols i (m - i)))) where
    pub ids_more : (w : List ℕ) (q c : ℕ) → i < m → c ≡ get_or cols i 0 → Wrote u p (id_pieces ids (c ∷ [])) w q
        → Left d at ps w q (id_pieces ids (numbers_at cols (i + 1) (m - (i + 1))))
    ids_more w q c h e o = left_on d at ps u p _ (id_pieces ids (c ∷ [])) _ l split w q o
      where
        split : id_pieces ids (numbers_at cols i (m - i))
            ≡ id_pieces ids (c ∷ []) ++ id_pieces ids (numbers_at cols (i + 1) (m - (i + 1)))
        split = unfold id_pieces in rw (numbers_left_more cols i m h, e)

    pub ids_end : i ≡ m → Wrote d at ps u p
    ids_end h = left_none d at ps u p _ l (unfold id_pieces in ap (id_pieces ids) (numbers_left_none cols i m (omega arith)))

-- ---- the elements of a vector

elements_split : (g : ℕ → ℕ) (key c : ℕ) (cs : List ℕ)
    → element_pieces g key (c ∷ cs) ≡ element_pieces g key (c ∷ []) ++ element_pieces g (key + 1) cs
elements_split g key c cs = go (eqb (g c) 0) refl
  where
    go : (t : Bool) → eqb (g c) 0 ≡ t → element_pieces g key (c ∷ cs) ≡ element_pieces g key (c ∷ []) ++ element_pieces g (key + 1) cs
    go true e = unfold element_pieces in rw (e, element_pieces)
    go false e = unfold element_pieces in rw (e, element_pieces)

pub element_wrote : (d e f : List ℕ) (at key tick : ℕ) → e ≡ placed d at (bytes 4 key) → f ≡ placed e (at + 4) (bytes 8 tick)
    → Wrote d at (bytes 4 key ∷ bytes 8 tick ∷ []) f (at + 12)
element_wrote d e f at key tick p q =
    let ps = bytes 4 key ∷ bytes 8 tick ∷ [] in
    left_number d at ps e (at + 4) 8 tick []
    (left_number d at ps d at 4 key (bytes 8 tick ∷ []) (left_all d at ps) e (at + 4) p refl)
    f (at + 12) q (omega arith)

module _ (t : List ℕ) (k key c tick : ℕ) (d : List ℕ) (at : ℕ) (is : tick ≡ cell t k c) where
  pub cell_none : tick ≡ 0 → Wrote d at (element_pieces (cell t k) key (c ∷ [])) d at
  unfolding element_pieces
  cell_none e = rw (eq-eqb (cell t k c) 0 (sym is ∙ e), element_pieces) (left_all d at [])

  pub cell_some : (u : List ℕ) (p : ℕ) → (tick ≡ 0 → ⊥) → Wrote d at (bytes 4 key ∷ bytes 8 tick ∷ []) u p
      → Wrote d at (element_pieces (cell t k) key (c ∷ [])) u p
  unfolding element_pieces
  cell_some u p n w = rw (ne_eqb (cell t k c) 0 (λ e. n (is ∙ e)), element_pieces, ← is) w

module _ (g : ℕ → ℕ) (cols : List ℕ) (m : ℕ) (d : List ℕ) (at : ℕ) where
  module _ (ps : List (List ℕ)) (u : List ℕ) (p i : ℕ) (l : Left d at ps u p (element_pieces g i (numbers_at cols i (m - i)))) where
    pub elements_more : (w : List ℕ) (q c : ℕ) → i < m → c ≡ get_or cols i 0 → Wrote u p (element_pieces g i (c ∷ [])) w q
        → Left d at ps w q (element_pieces g (i + 1) (numbers_at cols (i + 1) (m - (i + 1))))
    elements_more w q c h e o =
        left_on d at ps u p _ (element_pieces g i (c ∷ [])) _ l
        (ap (element_pieces g i) (numbers_left_more cols i m h ∙ ap (λ (v : ℕ). v ∷ numbers_at cols (i + 1) (m - (i + 1))) (sym e))
        ∙ elements_split g i c (numbers_at cols (i + 1) (m - (i + 1))))
        w q o

    pub elements_end : i ≡ m → Wrote d at ps u p
    elements_end h = left_none d at ps u p _ l (unfold element_pieces in ap (element_pieces g i) (numbers_left_none cols i m (omega arith)))

-- ---- how many they are: each takes twelve bytes

elements_of_none : (x : ℕ) → x ≡ 0 → elements_of x ≡ 0
unfolding elements_of
elements_of_none x e = rw (eq-eqb x 0 e, elements_of)

elements_of_one : (x : ℕ) → (x ≡ 0 → ⊥) → elements_of x ≡ 1
unfolding elements_of
elements_of_one x n = rw (ne_eqb x 0 n, elements_of)

pub elements_of_most : (x : ℕ) → elements_of x ≤ 1
elements_of_most zero = omega (arith, elements_of_none 0 refl)
elements_of_most (suc x) = omega (arith, elements_of_one (suc x) (λ e. omega arith))

module _ (t : List ℕ) (k c tick at : ℕ) (is : tick ≡ cell t k c) where
  pub none_after : tick ≡ 0 → at ≡ at + 12 * elements_of (cell t k c)
  none_after e = omega (arith, elements_of_none (cell t k c) (sym is ∙ e))

  pub some_after : (tick ≡ 0 → ⊥) → at + 12 ≡ at + 12 * elements_of (cell t k c)
  some_after n = omega (arith, elements_of_one (cell t k c) (λ e. n (is ∙ e)))

count_split : (g : ℕ → ℕ) (key c : ℕ) (cs : List ℕ)
    → length (elements_from g key (c ∷ cs)) ≡ elements_of (g c) + length (elements_from g (key + 1) cs)
count_split g key c cs = go (eqb (g c) 0) refl
  where
    go : (t : Bool) → eqb (g c) 0 ≡ t → length (elements_from g key (c ∷ cs)) ≡ elements_of (g c) + length (elements_from g (key + 1) cs)
    go true e = unfold elements_from elements_of in rw (e, elements_from, elements_of) (omega arith)
    go false e = unfold elements_from elements_of in rw (e, elements_from, elements_of) (omega arith)

module _ (g : ℕ → ℕ) (cols : List ℕ) (m at : ℕ) where
  module _ (whole i : ℕ) (l : at + 12 * length (elements_from g i (numbers_at cols i (m - i))) ≡ whole) where
    pub places_more : (c p : ℕ) → i < m → c ≡ get_or cols i 0 → p ≡ at + 12 * elements_of (g c)
        → p + 12 * length (elements_from g (i + 1) (numbers_at cols (i + 1) (m - (i + 1)))) ≡ whole
    places_more c p h e f =
        let s = ap (λ (v : List ℕ). length (elements_from g i v))
        (numbers_left_more cols i m h ∙ ap (λ (v : ℕ). v ∷ numbers_at cols (i + 1) (m - (i + 1))) (sym e)) in
        omega (arith, l, s, f, count_split g i c (numbers_at cols (i + 1) (m - (i + 1))))

    pub places_end : i ≡ m → at ≡ whole
    places_end h =
        let s : length (elements_from g i (numbers_at cols i (m - i))) ≡ 0 =
        unfold elements_from in ap (λ (v : List ℕ). length (elements_from g i v)) (numbers_left_none cols i m (omega arith)) in
        omega (arith, l, s)

-- ---- a fixed part, a count and what is counted

module _ (d e f w : List ℕ) (at m q : ℕ) (ps : List (List ℕ)) where
  part_wrote : (fs : List Field) (n a b : ℕ) → length (put_fields fs []) ≡ n → at + n ≡ a → a + 4 ≡ b
      → e ≡ placed d at (put_fields fs []) → f ≡ placed e a (bytes 4 m) → Wrote f b ps w q
      → Wrote d at (put_fields fs [] ∷ bytes 4 m ∷ ps) w q
  part_wrote fs n a b s ea eb p r o =
      let all = put_fields fs [] ∷ bytes 4 m ∷ ps in
      left_on d at all f b ps ps []
      (left_number d at all e a 4 m ps
      (left_piece d at all d at (put_fields fs []) (bytes 4 m ∷ ps) (left_all d at all) e n a p s ea)
      f b r eb)
      (sym (append-nil ps)) w q o

  pub map-wrote : e ≡ placed d at (put_fields opening []) → f ≡ placed e (at + 23) (bytes 4 m) → Wrote f (at + 27) ps w q
      → Wrote d at (put_fields opening [] ∷ bytes 4 m ∷ ps) w q
  map-wrote p r o = part_wrote opening 23 (at + 23) (at + 27) (unfold opening put_fields put in refl) refl (omega arith) p r o

  pub vector_list_wrote : e ≡ placed d at (put_fields before_vectors []) → f ≡ placed e (at + 17) (bytes 4 m) → Wrote f (at + 21) ps w q
      → Wrote d at (put_fields before_vectors [] ∷ bytes 4 m ∷ ps) w q
  vector_list_wrote p r o =
      part_wrote before_vectors 17 (at + 17) (at + 21) (unfold before_vectors put_fields put in refl) refl (omega arith) p r o

  pub range_list_wrote : e ≡ placed d at (put_fields before_ranges []) → f ≡ placed e (at + 12) (bytes 4 m) → Wrote f (at + 16) ps w q
      → Wrote d at (put_fields before_ranges [] ∷ bytes 4 m ∷ ps) w q
  range_list_wrote p r o =
      part_wrote before_ranges 12 (at + 12) (at + 16) (unfold before_ranges put_fields put in refl) refl (omega arith) p r o

before_elements_lem : put_fields before_elements [] ≡ bytes 4 1
unfolding before_elements put_fields put bytes
before_elements_lem = refl

-- the count stands before the elements, and is written when they are
wrote_behind : (d u : List ℕ) (at j q : ℕ) (x : List ℕ) (ps : List (List ℕ)) → at + length x ≤ j → j ≤ q
    → Wrote d j ps u q → Wrote (placed d at x) j ps (placed u at x) q
wrote_behind d u at j q x ps h k o = record {
  is = λ ts. laid_behind d at j x (ps ++ ts) h ∙ ap (λ (l : List ℕ). placed l at x) (o.is ts) ∙ sym (laid_behind u at q x ts (omega arith));
}

pub vector_wrote : (g : ℕ → ℕ) (cols d e f w : List ℕ) (at n q : ℕ)
    → e ≡ placed d at (bytes 4 1) → Wrote e (at + 8) (element_pieces g 0 cols) f q
    → q ≡ at + 8 + 12 * length (elements_from g 0 cols) → n ≡ (q - (at + 8)) / 12 → w ≡ placed f (at + 4) (bytes 4 n)
    → Wrote d at (vector_pieces g cols) w q
unfolding vector_pieces
vector_wrote g cols d e f w at n q p o iq is r =
    let m = length (elements_from g 0 cols) in
    let c : n ≡ m = omega (arith, is, iq) in
    let l : at + 4 + length (bytes 4 m) ≤ at + 8 = rw (bytes-length 4 m) (omega arith) in
    part_wrote d e (placed e (at + 4) (bytes 4 m)) w at m q (element_pieces g 0 cols) before_elements 4 (at + 4) (at + 8)
    (ap length before_elements_lem ∙ bytes-length 4 1) refl (omega arith)
    (p ∙ ap (placed d at) (sym before_elements_lem)) refl
    (rw (r, c) (wrote_behind e f (at + 4) (at + 8) q (bytes 4 m) (element_pieces g 0 cols) l (omega (arith, iq)) o))

-- ---- the vectors

module _ (T : ℕ → ℕ → ℕ) (cs firsts : List ℕ) (v : ℕ) (d : List ℕ) (at : ℕ) where
  module _ (ps : List (List ℕ)) (u : List ℕ) (p i : ℕ) (l : Left d at ps u p (vectors_pieces T cs (numbers_at firsts i (v - i)))) where
    pub vectors_more : (w : List ℕ) (q k : ℕ) → i < v → k ≡ get_or firsts i 0 → Wrote u p (vector_pieces (T k) cs) w q
        → Left d at ps w q (vectors_pieces T cs (numbers_at firsts (i + 1) (v - (i + 1))))
    vectors_more w q k h e o = left_on d at ps u p _ (vector_pieces (T k) cs) _ l split w q o
      where
        split : vectors_pieces T cs (numbers_at firsts i (v - i))
            ≡ vector_pieces (T k) cs ++ vectors_pieces T cs (numbers_at firsts (i + 1) (v - (i + 1)))
        split = unfold vectors_pieces in rw (numbers_left_more firsts i v h, e)

    pub vectors_end : i ≡ v → Wrote d at ps u p
    vectors_end h = left_none d at ps u p _ l (unfold vectors_pieces in ap (vectors_pieces T cs) (numbers_left_none firsts i v (omega arith)))

-- ---- the ranges

pub range_wrote : (d e f g h bounds : List ℕ) (at k x a b c : ℕ)
    → a ≡ get_or bounds (3 * k) 0 → b ≡ get_or bounds (3 * k + 1) 0 → c ≡ get_or bounds (3 * k + 2) 0
    → e ≡ placed d at (bytes 8 a) → f ≡ placed e (at + 8) (bytes 8 b) → g ≡ placed f (at + 16) (bytes 8 c)
    → h ≡ placed g (at + 24) (bytes 4 x) → Wrote d at (range_pieces bounds k x) h (at + 28)
unfolding range_pieces
range_wrote d e f g h bounds at k x a b c ia ib ic p q r s =
    let a' = get_or bounds (3 * k) 0 in
    let b' = get_or bounds (3 * k + 1) 0 in
    let c' = get_or bounds (3 * k + 2) 0 in
    let ps = bytes 8 a' ∷ bytes 8 b' ∷ bytes 8 c' ∷ bytes 4 x ∷ [] in
    left_number d at ps g (at + 24) 4 x []
    (left_number d at ps f (at + 16) 8 c' (bytes 4 x ∷ [])
    (left_number d at ps e (at + 8) 8 b' (bytes 8 c' ∷ bytes 4 x ∷ [])
    (left_number d at ps d at 8 a' (bytes 8 b' ∷ bytes 8 c' ∷ bytes 4 x ∷ []) (left_all d at ps)
    e (at + 8) (p ∙ ap (λ (v : ℕ). placed d at (bytes 8 v)) ia) refl)
    f (at + 16) (q ∙ ap (λ (v : ℕ). placed e (at + 8) (bytes 8 v)) ib) (omega arith))
    g (at + 24) (r ∙ ap (λ (v : ℕ). placed f (at + 16) (bytes 8 v)) ic) (omega arith))
    h (at + 28) s (omega arith)

ranges_split : (bounds : List ℕ) (k before x : ℕ) (xs : List ℕ)
    → ranges_pieces bounds k before (x ∷ xs) ≡ ranges_pieces bounds k before (x ∷ []) ++ ranges_pieces bounds (k + 1) x xs
ranges_split bounds k before x xs = go (eqb x before) refl
  where
    go : (t : Bool) → eqb x before ≡ t
        → ranges_pieces bounds k before (x ∷ xs) ≡ ranges_pieces bounds k before (x ∷ []) ++ ranges_pieces bounds (k + 1) x xs
    go true e = unfold ranges_pieces in rw (e, ranges_pieces)
    go false e =
        unfold ranges_pieces in
        rw (e, ranges_pieces, append-nil (range_pieces bounds k x))

module _ (bounds : List ℕ) (k before x : ℕ) (d : List ℕ) (at : ℕ) where
  pub row_joined : x ≡ before → Wrote d at (ranges_pieces bounds k before (x ∷ [])) d at
  unfolding ranges_pieces
  row_joined e = rw (eq-eqb x before e, ranges_pieces) (left_all d at [])

  pub row_new : (u : List ℕ) (p : ℕ) → (x ≡ before → ⊥) → Wrote d at (range_pieces bounds k x) u p
      → Wrote d at (ranges_pieces bounds k before (x ∷ [])) u p
  unfolding ranges_pieces
  row_new u p n w = rw (ne_eqb x before n, ranges_pieces, append-nil (range_pieces bounds k x)) w

module _ (bounds numbers : List ℕ) (n : ℕ) (d : List ℕ) (at : ℕ) where
  module _ (ps : List (List ℕ)) (u : List ℕ) (p i k before : ℕ)
      (l : Left d at ps u p (ranges_pieces bounds k before (numbers_at numbers i (n - i)))) where
    pub ranges_more : (w : List ℕ) (q x : ℕ) → i < n → x ≡ get_or numbers i 0 → Wrote u p (ranges_pieces bounds k before (x ∷ [])) w q
        → Left d at ps w q (ranges_pieces bounds (k + 1) x (numbers_at numbers (i + 1) (n - (i + 1))))
    ranges_more w q x h e o =
        left_on d at ps u p _ (ranges_pieces bounds k before (x ∷ [])) _ l
        (ap (ranges_pieces bounds k before) (numbers_left_more numbers i n h ∙ ap (λ (v : ℕ). v ∷ numbers_at numbers (i + 1) (n - (i + 1))) (sym e))
        ∙ ranges_split bounds k before x (numbers_at numbers (i + 1) (n - (i + 1))))
        w q o

    pub ranges_end : i ≡ n → Wrote d at ps u p
    ranges_end h = left_none d at ps u p _ l (unfold ranges_pieces in ap (ranges_pieces bounds k before) (numbers_left_none numbers i n (omega arith)))

-- ---- all of it

module _ (z : Sizes) (ids bounds t : List ℕ) (n : ℕ) (cols firsts numbers : List ℕ) where
  pub page_wrote : (d e f g h : List ℕ) (at a b c : ℕ)
      → Wrote d at (put_fields opening [] ∷ bytes 4 z.replicas ∷ id_pieces ids (numbers_at cols 0 z.replicas)) e a
      → Wrote e a (put_fields before_vectors [] ∷ bytes 4 z.vectors
      ∷ vectors_pieces (cell t) (numbers_at cols 0 z.replicas) (numbers_at firsts 0 z.vectors)) f b
      → Wrote f b (put_fields before_ranges [] ∷ bytes 4 z.ranges ∷ ranges_pieces bounds 1 (n + 1) (numbers_at numbers 0 n)) g c
      → h ≡ placed g c (put_fields closing [])
      → h ≡ laid d at (page_pieces z ids bounds t n cols firsts numbers)
  unfolding page_pieces laid
  page_wrote d e f g h at a b c o p q r =
      let cs = numbers_at cols 0 z.replicas in
      let end : List (List ℕ) = put_fields closing [] ∷ [] in
      let spans = put_fields before_ranges [] ∷ bytes 4 z.ranges ∷ ranges_pieces bounds 1 (n + 1) (numbers_at numbers 0 n) in
      let clocks = put_fields before_vectors [] ∷ bytes 4 z.vectors ∷ vectors_pieces (cell t) cs (numbers_at firsts 0 z.vectors) in
      r ∙ sym (o.is (clocks ++ (spans ++ end)) ∙ p.is (spans ++ end) ∙ q.is end)
