-- For code that goes through rows of ticks.
--
-- The first lacking place of a span is settled by its description (`first_is_lem`, `none_is`), so it can be looked for from
-- stop to stop: where nothing lacks at an item and both knowledges stay as they are up to the next stop, the first lacking
-- place from the item on is the one from the next stop on (`lacking_on`); where they stay so to the span's end there is
-- none (`lacking_past`); and where something lacks at the item, the least replica there is it (`lacking_here`). Cover is
-- whether there is one, so its steps are the same.
--
-- What lacks at an item is found by the elements of the second knowledge's vector alone: a replica without an element there
-- has tick 0.
--
-- The largest tick and a tick alike in all ranges are found range by range: the range of a bound is its own.
--
-- The answers of cover are equations, one for each way that the call goes, from what the check of the bytes answered.
use Prim.Native.Nat.{ℕ, suc, ◌≤◌, ◌<◌, max}
use mathlib.Core.Path.{◌≡◌, refl, sym, ap, ap₂, subst, ◌∙◌}
use mathlib.Core.Logic.{inl, inr, ◌⊎◌, ⊎_elim}
use mathlib.Core.Bool.{Bool, true, false}
use mathlib.Core.Option.{Option, none, some}
use mathlib.Core.List.{List, [], ◌∷◌}
use native.Mathlib.Omega.{arith}
use lib.Dec.{eqb, ltb}
use lib.ListN.{length, get_or}
use borrow.Author.Tests.{lt-ltb, le-ltb, le-leb, lt-leb}
use Rattle.layout.specs.declared.VectorIndex.{VectorIndex}
use Rattle.layout.specs.Knowledge.{Rules, Element, Range, Knowledge, All, Rising, bounds, Lawful}
use Rattle.ticks.specs.Meaning.{known, tick_at, vector_at, vector_of}
use Rattle.ticks.specs.MethodLookup.{key_of, index_at, first_index}
use Rattle.ticks.specs.MethodRows.{lesser, least_with, least_of, top_tick, top_from, alike_rows}
use Rattle.ticks.specs.Operations.{Lack, nowhere, here, lacking, is_nowhere, covers, largest_at, largest_from, largest, own_alike, alike_from}
use Rattle.ticks.specs.Cover as E
use Rattle.ticks.specs.Calls.{wrong_span, cover_found, cover_answer}
use Rattle.ticks.specs.Answers.{ProperSpan}
use Rattle.codec.specs.Number.{be_at}
use Rattle.layout.specs.Decode.{decode}
use Rattle.layout.specs.Parse.{parse}
use Rattle.layout.proofs.Places.{Reading}
use Rattle.ticks.proofs.Answers.{no_false, span_exact, one_refused, one_wrong, one_right, two_first, cover_here, cover_is, cover_later}
use Rattle.ticks.proofs.Lists.{Among, less, same, more, order, rising_above}
use Rattle.ticks.proofs.Search.{Covers, covers_exact, FirstLacking, lacking_first}
use Rattle.ticks.proofs.Meaning.{In, tick_element}
use Rattle.ticks.proofs.Unique.{key_known}
use Rattle.ticks.proofs.Written.{among_get}
use Rattle.ticks.proofs.LawfulResults.{lawful_sound}
use Rattle.ticks.proofs.Largest.{largest_at_lem}
use Rattle.ticks.proofs.ForCode.{each_in, in_all, keys_below_lem, keys_once_lem, known_place, known_at_most, index_at-nil, index_at-lt, index_at-ge, vector_indexed, Refusing, refusing, reading}

-- The first lacking place by its description

module _ (a b : Knowledge) where
  none_covers : (lo hi : ℕ) → lacking a b lo hi ≡ nowhere → Covers a b lo hi
  unfolding covers is_nowhere
  none_covers lo hi e = (covers_exact a b lo hi).0 (ap is_nowhere e)

  module _ (lo hi : ℕ) where
    pub none_is : Covers a b lo hi → lacking a b lo hi ≡ nowhere
    none_is c = go (lacking a b lo hi) refl
      where
        go : (x : Lack) → lacking a b lo hi ≡ x → x ≡ nowhere
        go nowhere e = refl
        go (here i p) e =
            let f = lacking_first a b lo hi i p e in
            absurd (omega (arith, f.lacks, c.known i p f.above f.below))

    pub first_is_lem : (i p : ℕ) → FirstLacking a b lo hi i p → lacking a b lo hi ≡ here i p
    first_is_lem i p f = go (lacking a b lo hi) refl
      where
        go : (x : Lack) → lacking a b lo hi ≡ x → x ≡ here i p
        go nowhere e = absurd (omega (arith, f.lacks, (none_covers lo hi e).known i p f.above f.below))
        go (here j q) e =
            let g = lacking_first a b lo hi j q e in
            let s : j ≡ i =
            elim (order j i) [
              | less h ↦ absurd (omega (arith, g.lacks, f.items j q g.above h))
              | same h ↦ h
              | more h ↦ absurd (omega (arith, f.lacks, g.items i p f.above h))
            ] in
            let t : q ≡ p =
            elim (order q p) [
              | less h ↦ absurd (omega (arith, rw s at g.lacks, f.replicas q h))
              | same h ↦ h
              | more h ↦ absurd (omega (arith, f.lacks, rw s at (g.replicas p h)))
            ] in
            ap₂ here s t

  -- nothing lacks at an item
  pub record NothingLacks (i : ℕ) : Type 0 where
    pub known : (p : ℕ) → known b i p ≤ known a i p

  -- from an item up to a stop both stay as they are
  pub record Still (i stop : ℕ) : Type 0 where
    pub first : (j p : ℕ) → i ≤ j → j < stop → known a j p ≡ known a i p
    pub second : (j p : ℕ) → i ≤ j → j < stop → known b j p ≡ known b i p

  module _ (i stop hi : ℕ) (f : NothingLacks i) (s : Still i stop) where
    before : (j p : ℕ) → i ≤ j → j < stop → known b j p ≤ known a j p
    before j p h k = omega (arith, f.known p, s.first j p h k, s.second j p h k)

    pub lacking_on : i ≤ stop → lacking a b i hi ≡ lacking a b stop hi
    lacking_on l = go (lacking a b stop hi) refl
      where
        go : (x : Lack) → lacking a b stop hi ≡ x → lacking a b i hi ≡ x
        go nowhere e =
            let c = none_covers stop hi e in
            none_is i hi
            (record {
              known = λ j p h k.
                  elim (order j stop) [
                    | less m ↦ before j p h m
                    | same m ↦ c.known j p (omega arith) k
                    | more m ↦ c.known j p (omega arith) k
                  ];
            })
        go (here j p) e =
            let g = lacking_first a b stop hi j p e in
            first_is_lem i hi j p
            (record {
              above = omega (arith, g.above);
              below = g.below;
              lacks = g.lacks;
              items = λ m q h k.
                  elim (order m stop) [
                    | less o ↦ before m q h o
                    | same o ↦ g.items m q (omega arith) k
                    | more o ↦ g.items m q (omega arith) k
                  ];
              replicas = g.replicas;
            })

    pub lacking_past : hi < stop → lacking a b i hi ≡ nowhere
    lacking_past l = none_is i hi (record { known = λ j p h k. before j p h (omega arith) })

    -- cover goes on, and ends, alike
    pub covers_on : i ≤ stop → covers a b i hi ≡ covers a b stop hi
    unfolding covers
    covers_on l = ap is_nowhere (lacking_on l)

    pub covers_past : hi < stop → covers a b i hi ≡ true
    unfolding covers is_nowhere
    covers_past l = ap is_nowhere (lacking_past l)

  -- p is the least replica that lacks at an item
  pub record LeastLacking (i p : ℕ) : Type 0 where
    pub lacks : known a i p < known b i p
    pub least : (q : ℕ) → q < p → known b i q ≤ known a i q

  module _ (i hi p : ℕ) (f : LeastLacking i p) (h : i ≤ hi) where
    pub lacking_here : lacking a b i hi ≡ here i p
    lacking_here =
        first_is_lem i hi i p
        (record { above = omega arith; below = h; lacks = f.lacks; items = λ j q k l. absurd (omega arith); replicas = f.least })

    pub covers_not : covers a b i hi ≡ false
    unfolding covers is_nowhere
    covers_not = ap is_nowhere lacking_here

-- The least replica that lacks, by elements

-- the lesser of what is best so far and one id more
record Lesser (best : Option ℕ) (p : ℕ) (r : Option ℕ) : Type 0 where
  least : ℕ
  is : r ≡ some least
  from : (best ≡ some least) ⊎ (least ≡ p)
  before : (q : ℕ) → best ≡ some q → least ≤ q
  new : least ≤ p

some_same : (p q : ℕ) → some p ≡ some q → p ≡ q
some_same p q e = cc

some_none : {C : Type 0} (p : ℕ) → some p ≡ none → C
some_none p e = let z : ◌≡◌ {A = ℕ} 0 1 = cc in absurd (omega arith)

lesser_is : (best : Option ℕ) (p : ℕ) → Lesser best p (lesser best p)
unfolding lesser
lesser_is none p = record { least = p; is = refl; from = inr refl; before = λ q e. some_none q (sym e); new = omega arith }
lesser_is (some q) p =
    let keeps : q ≤ p → Lesser (some q) p (lesser (some q) p) =
    λ h.
    record {
      least = q;
      is = rw (le-ltb p q h, lesser);
      from = inl refl;
      before = λ n e. omega (arith, some_same q n e);
      new = h;
    } in
    elim (order p q) [
      | less h ↦
          record {
            least = p;
            is = rw (lt-ltb p q h, lesser);
            from = inr refl;
            before = λ n e. omega (arith, some_same q n e);
            new = omega arith;
          }
      | same h ↦ keeps (omega arith)
      | more h ↦ keeps (omega arith)
    ]

module _ (level id : ℕ → ℕ) where
  pub least_with_not : (best : Option ℕ) (x : Element) → x.tick ≤ level x.key.0 → least_with level id best x ≡ best
  unfolding least_with
  least_with_not best x h = rw (le-leb x.tick (level x.key.0) h, least_with)

  pub least_with_lacking : (best : Option ℕ) (x : Element) → level x.key.0 < x.tick
      → least_with level id best x ≡ lesser best (id x.key.0)
  unfolding least_with
  least_with_lacking best x h = rw (lt-leb x.tick (level x.key.0) h, least_with)

  -- what the search through elements says
  abbrev Says : Option ℕ → List Element → Option ℕ → Type 0
  Says best es none = (best ≡ none) × All (λ x. x.tick ≤ level x.key.0) es
  Says best es (some p) =
      ((best ≡ some p) ⊎ ((x : Element) × (In x es × ((level x.key.0 < x.tick) × (id x.key.0 ≡ p)))))
      × (((q : ℕ) → best ≡ some q → p ≤ q) × All (λ x. level x.key.0 < x.tick → p ≤ id x.key.0) es)

  least_says : (best : Option ℕ) (es : List Element) → Says best es (least_of level id best es)
  unfolding least_of
  least_says none [] = (refl, tt)
  least_says (some p) [] = (inl refl, ((λ q e. omega (arith, some_same p q e)), tt))
  least_says best (x ∷ xs) =
      elim (order (level x.key.0) x.tick) [
        | less h ↦ lacks h (least_of level id (least_with level id best x) xs) (least_says (least_with level id best x) xs)
        | same h ↦ fine (omega arith) (least_of level id (least_with level id best x) xs) (least_says (least_with level id best x) xs)
        | more h ↦ fine (omega arith) (least_of level id (least_with level id best x) xs) (least_says (least_with level id best x) xs)
      ]
    where
      fine : x.tick ≤ level x.key.0 → (r : Option ℕ) → Says (least_with level id best x) xs r → Says best (x ∷ xs) r
      fine h none f = (sym (least_with_not best x h) ∙ f.0, (h, f.1))
      fine h (some p) f =
          let e = least_with_not best x h in (
            ⊎_elim (λ g. inl (sym e ∙ g)) (λ w. inr (w.0, (inr w.1.0, w.1.1))) f.0,
            ((λ q g. f.1.0 q (e ∙ g)), ((λ k. absurd (omega arith)), f.1.1)),
          )

      lacks : level x.key.0 < x.tick → (r : Option ℕ) → Says (least_with level id best x) xs r → Says best (x ∷ xs) r
      lacks h none f =
          let w = lesser_is best (id x.key.0) in
          some_none w.least (sym w.is ∙ sym (least_with_lacking best x h) ∙ f.0)
      lacks h (some p) f =
          let w = lesser_is best (id x.key.0) in
          let e = least_with_lacking best x h ∙ w.is in
          let below : p ≤ w.least = f.1.0 w.least e in (
            ⊎_elim
                (λ g.
                let n : w.least ≡ p = some_same w.least p (sym e ∙ g) in
                ⊎_elim (λ (k : best ≡ some w.least). inl (k ∙ ap some n)) (λ (k : w.least ≡ id x.key.0). inr (x, (inl refl, (h, sym k ∙ n)))) w.from)
                (λ y. inr (y.0, (inr y.1.0, y.1.1))) f.0,
            ((λ q g. omega (arith, w.before q g)), ((λ k. omega (arith, w.new)), f.1.1)),
          )

-- an element's tick is known for the replica of its key
module _ (R : Rules) (k : Knowledge) (l : Lawful R k) (i : ℕ) (x : Element) (m : In x (vector_at k i)) where
  key_small : x.key.0 < length k.replicas
  key_small = in_all (λ x. x.key.0 < length k.replicas) (vector_at k i) (keys_below_lem R k l i) x m

  element_known : known k i (get_or k.replicas x.key.0 0) ≡ x.tick
  element_known = key_known k i x.key.0 (lawful_sound R k l) key_small ∙ tick_element (vector_at k i) x (keys_once_lem R k l i) m

-- the replica of a key, by the second knowledge's map
abbrev pub id_in : Knowledge → ℕ → ℕ
id_in k key = get_or k.replicas key 0

-- the levels are the first knowledge's ticks of the second's replicas, and the ids are theirs: what the search through the
-- elements at an item finds
module _ (R : Rules) (a b : Knowledge) (l : Lawful R b) (i : ℕ) (level id : ℕ → ℕ)
    (is : (key : ℕ) → key < length b.replicas → level key ≡ known a i (id_in b key))
    (own : (key : ℕ) → key < length b.replicas → id key ≡ id_in b key) where
  said : (r : Option ℕ) → least_of level id none (vector_at b i) ≡ r → Says level id none (vector_at b i) r
  said r e = subst (Says level id none (vector_at b i)) e (least_says level id none (vector_at b i))

  pub least_none : least_of level id none (vector_at b i) ≡ none → NothingLacks a b i
  least_none e =
      let f = said none e in
      record {
        known = (known_at_most R b l (λ p. known a i p) i).1
            (each_in (λ x. x.tick ≤ known a i (id_in b x.key.0)) (vector_at b i)
            (λ x m.
            omega (
              arith,
              in_all (λ x. x.tick ≤ level x.key.0) (vector_at b i) f.1 x m,
              is x.key.0 (key_small R b l i x m),
            )));
      }

  -- the first knowledge's tick below p, and else the second's
  up_to : ℕ → ℕ → ℕ
  up_to p q = elim (ltb q p) [ true ↦ known a i q | false ↦ known b i q ]

  up_below : (p q : ℕ) → q < p → up_to p q ≡ known a i q
  unfolding up_to
  up_below p q h = rw (lt-ltb q p h, up_to)

  up_above : (p q : ℕ) → p ≤ q → up_to p q ≡ known b i q
  unfolding up_to
  up_above p q h = rw (le-ltb q p h, up_to)

  pub least_some : (p : ℕ) → least_of level id none (vector_at b i) ≡ some p → LeastLacking a b i p
  least_some p e = go (said (some p) e)
    where
      go : Says level id none (vector_at b i) (some p) → LeastLacking a b i p
      go f =
          let each : (x : Element) → In x (vector_at b i) → x.tick ≤ up_to p (id_in b x.key.0) =
          λ x m.
          elim (order (id_in b x.key.0) p) [
            | less h ↦
                elim (order (level x.key.0) x.tick) [
                  | less k ↦
                      absurd (omega (arith, in_all (λ x. level x.key.0 < x.tick → p ≤ id x.key.0) (vector_at b i) f.1.1 x m k, own x.key.0 (key_small R b l i x m)))
                  | same k ↦ omega (arith, up_below p (id_in b x.key.0) h, is x.key.0 (key_small R b l i x m))
                  | more k ↦ omega (arith, up_below p (id_in b x.key.0) h, is x.key.0 (key_small R b l i x m))
                ]
            | same h ↦ omega (arith, up_above p (id_in b x.key.0) (omega arith), element_known R b l i x m)
            | more h ↦ omega (arith, up_above p (id_in b x.key.0) (omega arith), element_known R b l i x m)
          ] in
          let all = (known_at_most R b l (up_to p) i).1 (each_in (λ x. x.tick ≤ up_to p (id_in b x.key.0)) (vector_at b i) each) in
          record {
            lacks = ⊎_elim (λ (n : none ≡ some p). some_none p (sym n))
                (λ (w : (x : Element) × (In x (vector_at b i) × ((level x.key.0 < x.tick) × (id x.key.0 ≡ p)))).
                omega (
                  arith,
                  w.1.1.0,
                  is w.0.key.0 (key_small R b l i w.0 w.1.0),
                  element_known R b l i w.0 w.1.0,
                  ap (known a i) (sym (own w.0.key.0 (key_small R b l i w.0 w.1.0)) ∙ w.1.1.1),
                  ap (known b i) (sym (own w.0.key.0 (key_small R b l i w.0 w.1.0)) ∙ w.1.1.1),
                ))
                f.0;
            least = λ q h. omega (arith, all q, up_below p q h);
          }

-- Range by range

among_bound : (x : Range) (xs : List Range) → In x xs → Among x.bound (bounds xs)
unfolding bounds
among_bound x [] m = absurd m
among_bound x (y ∷ ys) (inl e) = inl (ap (λ (z : Range). z.bound) e)
among_bound x (y ∷ ys) (inr m) = inr (among_bound x ys m)

-- the range of a bound is its own
pub index_own : (found : VectorIndex) (lo : ℕ) (xs : List Range) (x : Range) → Rising lo (bounds xs) → In x xs
    → index_at found xs x.bound ≡ x.index
unfolding bounds
index_own found lo [] x r m = absurd m
index_own found lo (y ∷ ys) x r (inl e) =
    ap (λ (z : Range). index_at found (y ∷ ys) z.bound) e ∙ index_at-ge found y ys y.bound (omega arith) ∙ stays ys r.1
    ∙ ap (λ (z : Range). z.index) (sym e)
  where
    stays : (zs : List Range) → Rising (suc y.bound) (bounds zs) → index_at y.index zs y.bound ≡ y.index
    stays [] q = index_at-nil y.index y.bound
    stays (z ∷ zs) q = index_at-lt y.index z zs y.bound q.0
index_own found lo (y ∷ ys) x r (inr m) =
    let h : y.bound ≤ x.bound = omega (arith, rising_above (suc y.bound) x.bound (bounds ys) r.1 (among_bound x ys m)) in
    index_at-ge found y ys x.bound h ∙ index_own y.index (suc y.bound) ys x r.1 m

module _ (R : Rules) (k : Knowledge) (l : Lawful R k) where
  -- the elements of an index
  abbrev pub vector_by : VectorIndex → List Element
  vector_by y = vector_of k y.0

  range_vector : (x : Range) → In x k.ranges → vector_at k x.bound ≡ vector_by x.index
  range_vector x m =
      sym (vector_indexed k x.bound l.first) ∙ ap (λ (y : VectorIndex). vector_of k y.0) (index_own first_index 0 k.ranges x l.rising m)

  alike_from_lem : (p t : ℕ) (xs : List Range) → ((x : Range) → In x xs → In x k.ranges)
      → alike_from p k t xs ≡ alike_rows vector_by (key_of k.replicas p) t xs
  unfolding alike_from alike_rows key_of
  alike_from_lem p t [] f = refl
  alike_from_lem p t (x ∷ xs) f =
      let e : known k x.bound p ≡ tick_at (vector_by x.index) (key_of k.replicas p).0 =
      known_place R k l x.bound p ∙ ap (λ es. tick_at es (key_of k.replicas p).0) (range_vector x (f x (inl refl))) in
      ap₂ (λ (y : ℕ) (z : Bool). elim (eqb y t) [ true ↦ z | false ↦ false ]) e (alike_from_lem p t xs (λ y m. f y (inr m)))

  pub alike_rows_lem : (p : ℕ) → own_alike p k ≡ alike_rows vector_by (key_of k.replicas p) (known k 0 p) k.ranges
  unfolding own_alike
  alike_rows_lem p = alike_from_lem p (known k 0 p) k.ranges (λ x m. m)

  -- the largest tick at an item is the largest of its elements
  top-le : (top : ℕ) (es : List Element) → top ≤ top_tick top es
  unfolding top_tick
  top-le top [] = omega arith
  top-le top (x ∷ xs) = omega (arith, top-le (max top x.tick) xs)

  top_bounds : (top : ℕ) (es : List Element) (x : Element) → In x es → x.tick ≤ top_tick top es
  unfolding top_tick
  top_bounds top [] x m = absurd m
  top_bounds top (y ∷ ys) x (inl e) = omega (arith, ap (λ (z : Element). z.tick) e, top-le (max top y.tick) ys)
  top_bounds top (y ∷ ys) x (inr m) = top_bounds (max top y.tick) ys x m

  top_within : (n top : ℕ) (es : List Element) → top ≤ n → ((x : Element) → In x es → x.tick ≤ n) → top_tick top es ≤ n
  unfolding top_tick
  top_within n top [] h f = h
  top_within n top (x ∷ xs) h f =
      let t : x.tick ≤ n = f x (inl refl) in
      top_within n (max top x.tick) xs (omega arith) (λ y m. f y (inr m))

  at_within : (n i : ℕ) (ps : List ℕ) → ((p : ℕ) → known k i p ≤ n) → largest_at k i ps ≤ n
  unfolding largest_at
  at_within n i [] f = omega arith
  at_within n i (p ∷ ps) f = omega (arith, f p, at_within n i ps f)

  top_at : (top i : ℕ) → top_tick top (vector_at k i) ≡ max top (largest_at k i k.replicas)
  top_at top i =
      let n = top_tick top (vector_at k i) in
      let m = max top (largest_at k i k.replicas) in
      let all = (known_at_most R k l (λ p. n) i).1 (each_in (λ x. x.tick ≤ n) (vector_at k i) (top_bounds top (vector_at k i))) in
      let low : n ≤ m =
      top_within m top (vector_at k i) (omega arith)
      (λ x o.
      omega (
        arith,
        element_known R k l i x o,
        largest_at_lem k i (id_in k x.key.0) k.replicas (among_get k.replicas x.key.0 (key_small R k l i x o)),
      )) in
      omega (arith, low, at_within n i k.replicas all, top-le top (vector_at k i))

  top_from_lem : (top : ℕ) (xs : List Range) → ((x : Range) → In x xs → In x k.ranges)
      → top_from vector_by top xs ≡ max top (largest_from k xs)
  unfolding top_from largest_from
  top_from_lem top [] f = omega arith
  top_from_lem top (x ∷ xs) f =
      let e : top_tick top (vector_by x.index) ≡ max top (largest_at k x.bound k.replicas) =
      ap (top_tick top) (sym (range_vector x (f x (inl refl)))) ∙ top_at top x.bound in
      omega (arith, top_from_lem (top_tick top (vector_by x.index)) xs (λ y m. f y (inr m)))

  pub largest_rows : largest k ≡ top_from vector_by 0 k.ranges
  unfolding largest
  largest_rows = omega (arith, top_from_lem 0 k.ranges (λ x m. m))

-- The answers of cover

module _ (R : Rules) (s t first last : List ℕ) where
  pub cover_refuses_first : (n : ℕ) → Refusing R s n → cover_answer R s t first last ≡ E.Refused n
  cover_refuses_first n h =
      cover_is R s t first last
      ∙ two_first E.Refused (wrong_span first last) (cover_here R s t first last) (parse R s) (parse R t) n (refusing R s n h)

  module _ (r v e g : ℕ) (h : Reading R s r v e g) where
    pub cover_refuses_second : (n : ℕ) → Refusing R t n → cover_answer R s t first last ≡ E.Refused n
    cover_refuses_second n k =
        cover_later R s t first last (decode s) (reading R s r v e g h)
        ∙ one_refused E.Refused (wrong_span first last) (cover_here R s t first last (decode s)) (parse R t) n (refusing R t n k)

    module _ (r' v' e' g' : ℕ) (k : Reading R t r' v' e' g') where
      pub cover_wrong : (ProperSpan first last → ⊥) → cover_answer R s t first last ≡ E.Refused 17
      cover_wrong f =
          cover_later R s t first last (decode s) (reading R s r v e g h)
          ∙ one_wrong E.Refused (wrong_span first last) (cover_here R s t first last (decode s)) (parse R t) (decode t)
          (reading R t r' v' e' g' k) (no_false (wrong_span first last) (λ w. f ((span_exact first last).0 w)))

      pub cover_answers : ProperSpan first last
          → cover_answer R s t first last ≡ cover_found (is_nowhere (lacking (decode s) (decode t) (be_at first 24 0) (be_at last 24 0)))
      unfolding cover_here covers
      cover_answers f =
          cover_later R s t first last (decode s) (reading R s r v e g h)
          ∙ one_right E.Refused (wrong_span first last) (cover_here R s t first last (decode s)) (parse R t) (decode t)
          (reading R t r' v' e' g' k) ((span_exact first last).1 f)
