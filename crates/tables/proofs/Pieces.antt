-- What is written for a plan are the bytes of the planned knowledge. With room for all of them, pieces that are written one
-- after the other are one list of bytes, which stands where the first begins. This list is what `encode` puts together: each
-- field of a number is the piece with its bytes, the bytes of an id are those of its words, and the counts are the sizes of
-- the plan. Past the end of the buffer no piece has room.
use Prim.Native.Nat.{ℕ, ◌+◌, ◌*◌, ◌≤◌, ◌<◌}
use mathlib.Core.Path.{◌≡◌, refl, sym, ap, ◌∙◌}
use mathlib.Core.Bool.{Bool, true, false}
use mathlib.Core.List.{List, [], ◌∷◌, ◌++◌, append_assoc}
use native.Mathlib.Omega.{arith}
use lib.Dec.{eqb}
use lib.ListN.{length, get_or, length-append}
use Rattle.codec.specs.Number.{put}
use Rattle.codec.specs.Part.{placed, bytes}
use Rattle.codec.specs.Words.{words2}
use Rattle.codec.proofs.Numbers.{put-append}
use Rattle.codec.proofs.Words.{put_words2, put_words3}
use Rattle.codec.proofs.Writing.{nothing, placed_out, placed-length, placed-append, placed_swap}
use Rattle.layout.specs.Knowledge.{Field, put_fields, put_ids, put_elements, put_vectors, put_ranges, encode}
use Rattle.layout.specs.Knowledge.{opening, before_vectors, before_elements, before_ranges, closing}
use Rattle.tables.specs.declared.Sizes.{Sizes}
use Rattle.tables.specs.MethodWords.{cell, id_at, bound_at, numbers_at, Words}
use Rattle.tables.specs.MethodPlan.{firsts_of, numbers_of, columns_of, ids_of, elements_from}
use Rattle.tables.specs.MethodPlan.{vectors_in, ranges_from, ranges_in}
use Rattle.tables.specs.MethodPlan.{page_of, page, range_count, sizes_of, length_of, Over, Plans}
use Rattle.tables.specs.MethodPieces.{laid, joined, id_pieces, element_pieces, vector_pieces, vectors_pieces}
use Rattle.tables.specs.MethodPieces.{range_pieces, ranges_pieces, page_pieces}
use Rattle.tables.proofs.Clauses.{numbers_at-over}
use Rattle.tables.proofs.PageSizes.{ids-length, vectors_in_length, ranges_from-length, page-length, numbers_of_length}

-- ---- pieces, one after the other

pub laid_room : (d : List ℕ) (at : ℕ) (ps : List (List ℕ)) → at + length (joined ps) ≤ length d → laid d at ps ≡ placed d at (joined ps)
unfolding laid joined
laid_room d at [] h = nothing d at
laid_room d at (p ∷ ps) h =
    let l : at + length p + length (joined ps) ≤ length (placed d at p) =
    rw (placed-length d at p) (omega (arith, length-append p (joined ps))) in
    laid_room (placed d at p) (at + length p) ps l ∙ placed-append d at p (joined ps) h

-- past the end nothing has room
placed_past : (d : List ℕ) (at : ℕ) (p : List ℕ) → length d < at → d ≡ placed d at p
placed_past d at p h = placed_out d at p (omega arith)

pub laid_past : (d : List ℕ) (at : ℕ) (ps : List (List ℕ)) → length d < at → laid d at ps ≡ d
unfolding laid
laid_past d at [] h = refl
laid_past d at (p ∷ ps) h =
    let e : d ≡ placed d at p = placed_past d at p h in
    rw (← e) (laid_past d (at + length p) ps (omega arith))

-- a piece that stands before others may be written after them
pub laid_behind : (d : List ℕ) (at j : ℕ) (p : List ℕ) (ps : List (List ℕ)) → at + length p ≤ j
    → laid (placed d at p) j ps ≡ placed (laid d j ps) at p
unfolding laid
laid_behind d at j p [] h = refl
laid_behind d at j p (q ∷ ps) h =
    ap (λ (l : List ℕ). laid l (j + length q) ps) (placed_swap d at j p q h)
    ∙ laid_behind (placed d j q) at (j + length q) p ps (omega arith)

-- ---- a piece in front of others is a field in front of their bytes

piece_put : (n x : ℕ) (qs : List (List ℕ)) → joined (bytes n x ∷ qs) ≡ put n x (joined qs)
unfolding joined bytes
piece_put n x qs = sym (put-append n x (joined qs))

fields-append : (fs : List Field) (t : List ℕ) → put_fields fs t ≡ put_fields fs [] ++ t
unfolding put_fields
fields-append [] t = refl
fields-append (f ∷ fs) t =
    put-append f.size f.value (put_fields fs t)
    ∙ ap (λ (r : List ℕ). put f.size f.value [] ++ r) (fields-append fs t)
    ∙ sym (append_assoc (put f.size f.value []) (put_fields fs []) t)
    ∙ ap (λ (r : List ℕ). r ++ t) (sym (put-append f.size f.value (put_fields fs [])))

piece_fields : (fs : List Field) (qs : List (List ℕ)) → joined (put_fields fs [] ∷ qs) ≡ put_fields fs (joined qs)
unfolding joined
piece_fields fs qs = sym (fields-append fs (joined qs))

module _ (ids : List ℕ) (w : Words ids) where
  ids_put : (cs : List ℕ) (qs : List (List ℕ)) → joined (id_pieces ids cs ++ qs) ≡ put_ids (ids_of (id_at ids) cs) (joined qs)
  unfolding id_pieces put_ids ids_of id_at
  ids_put [] qs = refl
  ids_put (c ∷ cs) qs =
      piece_put 8 (get_or ids (2 * c) 0) (bytes 8 (get_or ids (2 * c + 1) 0) ∷ (id_pieces ids cs ++ qs))
      ∙ ap (put 8 (get_or ids (2 * c) 0)) (piece_put 8 (get_or ids (2 * c + 1) 0) (id_pieces ids cs ++ qs))
      ∙ sym (put_words2 (get_or ids (2 * c) 0) (get_or ids (2 * c + 1) 0) (joined (id_pieces ids cs ++ qs)) (w.below (2 * c + 1)))
      ∙ ap (put 16 (words2 (get_or ids (2 * c) 0) (get_or ids (2 * c + 1) 0))) (ids_put cs qs)

elements_put : (g : ℕ → ℕ) (key : ℕ) (cs : List ℕ) (qs : List (List ℕ))
    → joined (element_pieces g key cs ++ qs) ≡ put_elements (elements_from g key cs) (joined qs)
unfolding element_pieces put_elements elements_from
elements_put g key [] qs = refl
elements_put g key (c ∷ cs) qs = go (eqb (g c) 0) refl (elements_put g (key + 1) cs qs)
  where
    go : (t : Bool) → eqb (g c) 0 ≡ t
        → joined (element_pieces g (key + 1) cs ++ qs) ≡ put_elements (elements_from g (key + 1) cs) (joined qs)
        → joined (element_pieces g key (c ∷ cs) ++ qs) ≡ put_elements (elements_from g key (c ∷ cs)) (joined qs)
    go true e ih = unfold element_pieces put_elements elements_from in rw (e, element_pieces, elements_from) ih
    go false e ih =
        unfold element_pieces put_elements elements_from in
        rw (e, element_pieces, elements_from)
        (piece_put 4 key (bytes 8 (g c) ∷ (element_pieces g (key + 1) cs ++ qs))
        ∙ ap (put 4 key) (piece_put 8 (g c) (element_pieces g (key + 1) cs ++ qs) ∙ ap (put 8 (g c)) ih))

vectors_put : (T : ℕ → ℕ → ℕ) (cols ks : List ℕ) (qs : List (List ℕ))
    → joined (vectors_pieces T cols ks ++ qs) ≡ put_vectors (vectors_in T cols ks) (joined qs)
unfolding vector_pieces vectors_pieces put_vectors vectors_in
vectors_put T cols [] qs = refl
vectors_put T cols (k ∷ ks) qs =
    let es = elements_from (T k) 0 cols in
    let rest = vectors_pieces T cols ks ++ qs in
    ap joined (append_assoc (vector_pieces (T k) cols) (vectors_pieces T cols ks) qs)
    ∙ piece_fields before_elements (bytes 4 (length es) ∷ (element_pieces (T k) 0 cols ++ rest))
    ∙ ap (put_fields before_elements)
    (piece_put 4 (length es) (element_pieces (T k) 0 cols ++ rest)
    ∙ ap (put 4 (length es)) (elements_put (T k) 0 cols rest ∙ ap (put_elements es) (vectors_put T cols ks qs)))

module _ (bounds : List ℕ) (w : Words bounds) where
  range_put : (k x : ℕ) (qs : List (List ℕ)) → joined (range_pieces bounds k x ++ qs) ≡ put 24 (bound_at bounds k) (put 4 x (joined qs))
  unfolding range_pieces bound_at
  range_put k x qs =
      let a = get_or bounds (3 * k) 0 in
      let b = get_or bounds (3 * k + 1) 0 in
      let d = get_or bounds (3 * k + 2) 0 in
      piece_put 8 a (bytes 8 b ∷ bytes 8 d ∷ bytes 4 x ∷ qs)
      ∙ ap (put 8 a)
      (piece_put 8 b (bytes 8 d ∷ bytes 4 x ∷ qs)
      ∙ ap (put 8 b) (piece_put 8 d (bytes 4 x ∷ qs) ∙ ap (put 8 d) (piece_put 4 x qs)))
      ∙ sym (put_words3 a b d (put 4 x (joined qs)) (w.below (3 * k + 1)) (w.below (3 * k + 2)))

  ranges_put : (k before : ℕ) (xs : List ℕ) (qs : List (List ℕ))
      → joined (ranges_pieces bounds k before xs ++ qs) ≡ put_ranges (ranges_from (bound_at bounds) k before xs) (joined qs)
  unfolding ranges_pieces put_ranges ranges_from
  ranges_put k before [] qs = refl
  ranges_put k before (x ∷ xs) qs = go (eqb x before) refl (ranges_put (k + 1) x xs qs)
    where
      go : (t : Bool) → eqb x before ≡ t
          → joined (ranges_pieces bounds (k + 1) x xs ++ qs) ≡ put_ranges (ranges_from (bound_at bounds) (k + 1) x xs) (joined qs)
          → joined (ranges_pieces bounds k before (x ∷ xs) ++ qs) ≡ put_ranges (ranges_from (bound_at bounds) k before (x ∷ xs)) (joined qs)
      go true e ih = unfold ranges_pieces put_ranges ranges_from in rw (e, ranges_pieces, ranges_from) ih
      go false e ih =
          unfold ranges_pieces put_ranges ranges_from in
          rw (e, ranges_pieces, ranges_from)
          (ap joined (append_assoc (range_pieces bounds k x) (ranges_pieces bounds (k + 1) x xs) qs)
          ∙ range_put k x (ranges_pieces bounds (k + 1) x xs ++ qs)
          ∙ ap (λ (t : List ℕ). put 24 (bound_at bounds k) (put 4 x t)) ih)

-- ---- all of it

page_put : (z : Sizes) (ids bounds t : List ℕ) (n : ℕ) (cols firsts numbers : List ℕ) → Words ids → Words bounds
    → joined (page_pieces z ids bounds t n cols firsts numbers)
    ≡ put_fields opening (put 4 z.replicas (put_ids (ids_of (id_at ids) (numbers_at cols 0 z.replicas))
    (put_fields before_vectors (put 4 z.vectors
    (put_vectors (vectors_in (cell t) (numbers_at cols 0 z.replicas) (numbers_at firsts 0 z.vectors))
    (put_fields before_ranges (put 4 z.ranges (put_ranges (ranges_from (bound_at bounds) 1 (n + 1) (numbers_at numbers 0 n))
    (put_fields closing [])))))))))
unfolding page_pieces joined
page_put z ids bounds t n cols firsts numbers wi wb =
    let cs = numbers_at cols 0 z.replicas in
    let fs = numbers_at firsts 0 z.vectors in
    let xs = numbers_at numbers 0 n in
    let end : List (List ℕ) = put_fields closing [] ∷ [] in
    let spans = ranges_pieces bounds 1 (n + 1) xs ++ end in
    let clocks = vectors_pieces (cell t) cs fs ++ (put_fields before_ranges [] ∷ bytes 4 z.ranges ∷ spans) in
    let map = id_pieces ids cs ++ (put_fields before_vectors [] ∷ bytes 4 z.vectors ∷ clocks) in
    piece_fields opening (bytes 4 z.replicas ∷ map)
    ∙ ap (put_fields opening)
    (piece_put 4 z.replicas map
    ∙ ap (put 4 z.replicas)
    (ids_put ids wi cs (put_fields before_vectors [] ∷ bytes 4 z.vectors ∷ clocks)
    ∙ ap (put_ids (ids_of (id_at ids) cs))
    (piece_fields before_vectors (bytes 4 z.vectors ∷ clocks)
    ∙ ap (put_fields before_vectors)
    (piece_put 4 z.vectors clocks
    ∙ ap (put 4 z.vectors)
    (vectors_put (cell t) cs fs (put_fields before_ranges [] ∷ bytes 4 z.ranges ∷ spans)
    ∙ ap (put_vectors (vectors_in (cell t) cs fs))
    (piece_fields before_ranges (bytes 4 z.ranges ∷ spans)
    ∙ ap (put_fields before_ranges)
    (piece_put 4 z.ranges spans
    ∙ ap (put 4 z.ranges)
    (ranges_put bounds wb 1 (n + 1) xs end
    ∙ ap (put_ranges (ranges_from (bound_at bounds) 1 (n + 1) xs)) (piece_fields closing [])))))))))

encode_page : (P B : ℕ → ℕ) (T : ℕ → ℕ → ℕ) (cs fs xs : List ℕ) (r v g n : ℕ)
    → r ≡ length cs → v ≡ length fs → g ≡ range_count (length xs + 1) xs → n ≡ length xs
    → put_fields opening (put 4 r (put_ids (ids_of P cs)
    (put_fields before_vectors (put 4 v (put_vectors (vectors_in T cs fs)
    (put_fields before_ranges (put 4 g (put_ranges (ranges_from B 1 (n + 1) xs)
    (put_fields closing [])))))))))
    ≡ encode (page_of P B T cs fs xs)
unfolding encode page_of ranges_in
encode_page P B T cs fs xs r v g n er ev eg en =
    rw (er, ev, eg, en, ids-length P cs, vectors_in_length T cs fs, ranges_from-length B 1 (length xs + 1) xs)

-- with the sizes of what stands in the lists, the pieces are the bytes of that knowledge
pub pieces_encode : (z : Sizes) (ids bounds t : List ℕ) (n : ℕ) (cols firsts numbers cs fs xs : List ℕ)
    → Words ids → Words bounds
    → z ≡ sizes_of (cell t) cs fs xs
    → cs ≡ numbers_at cols 0 z.replicas → fs ≡ numbers_at firsts 0 z.vectors → xs ≡ numbers_at numbers 0 n → n ≡ length xs
    → joined (page_pieces z ids bounds t n cols firsts numbers) ≡ encode (page_of (id_at ids) (bound_at bounds) (cell t) cs fs xs)
unfolding sizes_of
pieces_encode z ids bounds t n cols firsts numbers cs fs xs wi wb ez ec ef ex en =
    page_put z ids bounds t n cols firsts numbers wi wb
    ∙ rw (← ec, ← ef, ← ex)
    (encode_page (id_at ids) (bound_at bounds) (cell t) cs fs xs z.replicas z.vectors z.ranges n
    (ap (λ (y : Sizes). y.replicas) ez) (ap (λ (y : Sizes). y.vectors) ez) (ap (λ (y : Sizes). y.ranges) ez) en)

-- ---- what a plan leaves in the lists

numbers_over : (vs d u : List ℕ) (n : ℕ) → n ≡ length vs → Over vs d u → vs ≡ numbers_at u 0 n
numbers_over vs d u n en e = sym (numbers_at-over vs d u e) ∙ ap (numbers_at u 0) (sym en)

module _ (r n : ℕ) (ids bounds t c f x c' f' x' : List ℕ) (z : Sizes) (plans : Plans (id_at ids) (cell t) r n c f x c' f' x' z) where
  -- the planned knowledge is as long as its sizes say
  pub planned-length : length (encode (page (id_at ids) (bound_at bounds) (cell t) r n)) ≡ length_of z
  unfolding page
  planned-length =
      let fs = firsts_of (cell t) r n in
      page-length (id_at ids) (bound_at bounds) (cell t) (columns_of (id_at ids) (cell t) r fs) fs (numbers_of (cell t) r n)
      ∙ ap length_of (sym plans.sizes)

  planned_joined : Words ids → Words bounds
      → joined (page_pieces z ids bounds t n c' f' x') ≡ encode (page (id_at ids) (bound_at bounds) (cell t) r n)
  unfolding page sizes_of
  planned_joined wi wb =
      let fs = firsts_of (cell t) r n in
      let cs = columns_of (id_at ids) (cell t) r fs in
      let xs = numbers_of (cell t) r n in
      pieces_encode z ids bounds t n c' f' x' cs fs xs wi wb plans.sizes
      (numbers_over cs c c' z.replicas (ap (λ (y : Sizes). y.replicas) plans.sizes) plans.columns)
      (numbers_over fs f f' z.vectors (ap (λ (y : Sizes). y.vectors) plans.sizes) plans.firsts)
      (numbers_over xs x x' n (sym (numbers_of_length (cell t) r n)) plans.numbers)
      (sym (numbers_of_length (cell t) r n))

  -- with room for it, what is written is the planned knowledge
  pub planned_written : (d : List ℕ) (at : ℕ) → Words ids → Words bounds → at + length_of z ≤ length d
      → laid d at (page_pieces z ids bounds t n c' f' x') ≡ placed d at (encode (page (id_at ids) (bound_at bounds) (cell t) r n))
  planned_written d at wi wb h =
      let e = planned_joined wi wb in
      laid_room d at (page_pieces z ids bounds t n c' f' x') (rw (e, planned-length) h) ∙ ap (placed d at) e
