-- For code: the answers of contain and lead as equations, one for each way that a call goes, from what the check of the
-- bytes answered; the known tick by key and index, the search beginning at index 0, whose vector is empty; and, for the
-- comparing of whole vectors, that the known ticks at an item are at most f exactly where the elements of its vector are.
use Prim.Native.Nat.{ℕ, ◌≤◌, ◌<◌}
use mathlib.Core.Path.{◌≡◌, refl, sym, ap, subst, ◌∙◌}
use mathlib.Core.Logic.{◌↔◌, inl, inr}
use mathlib.Core.Option.{none, some}
use mathlib.Core.List.{List, [], ◌∷◌}
use native.Mathlib.Omega.{arith}
use lib.ListN.{length, get_or}
use lib.IntN.{pos, ◌-ℤ◌}
use borrow.Author.Tests.{lt-ltb, le-ltb, le-leb, lt-leb}
use Rattle.codec.specs.Number.{be_at}
use Rattle.codec.specs.Parsed.{accepted, refused}
use Rattle.layout.specs.declared.VectorIndex.{VectorIndex}
use Rattle.layout.specs.Checked.{Refused}
use Rattle.layout.specs.Knowledge.{Rules, Element, Range, Knowledge, All, Distinct, keys, Lawful}
use Rattle.layout.specs.Permitted.{Permitted}
use Rattle.layout.specs.Decode.{decode}
use Rattle.layout.specs.Parse.{checked_by, parse}
use Rattle.layout.proofs.Exact.{refused_exact}
use Rattle.layout.proofs.Places.{Reading, places}
use Rattle.ticks.specs.Meaning.{place, tick_at, index_from, vector_found, vector_at, vector_of, known, contains}
use Rattle.ticks.specs.MethodLookup.{index_at, first_index}
use Rattle.ticks.specs.Contain as C
use Rattle.ticks.specs.Lead as D
use Rattle.ticks.specs.Calls.{contain_found, contain_answer, lead_of, lead_answer, wrong_ids}
use Rattle.ticks.specs.Answers.{ProperIds}
use Rattle.ticks.proofs.Lists.{Among, less, same, more, order, among?}
use Rattle.ticks.proofs.Equality.{exact?, eqb_exact, place_found}
use Rattle.ticks.proofs.Vectors.{tick-nil, tick_same, tick_other, tick_none}
use Rattle.ticks.proofs.Numbering.{index-nil, index-lt, index-ge, found_some}
use Rattle.ticks.proofs.Written.{known_in, known_out, place_among, among_place}
use Rattle.ticks.proofs.Unique.{key_known, found_all}
use Rattle.ticks.proofs.LawfulResults.{lawful_sound}
use Rattle.ticks.proofs.Meaning.{In, vector_at-zero, tick_element}
use Rattle.ticks.proofs.Answers.{no_false, wrong_ids_exact, one_refused, one_wrong, one_right, two_first}
use Rattle.ticks.proofs.Answers.{contain_here, contain_is, lead_here, lead_is, lead_later}
use lib.Dec.{eqb}

-- The answers

-- bytes that the check refuses with n
pub record Refusing (R : Rules) (s : List ℕ) (n : ℕ) : Type 0 where
  pub permitted : Permitted R.limits
  pub refuses : checked_by R s ≡ Refused n

pub refusing : (R : Rules) (s : List ℕ) (n : ℕ) → Refusing R s n → parse R s ≡ refused n
refusing R s n h = (refused_exact R h.permitted s n).0 h.refuses

pub reading : (R : Rules) (s : List ℕ) (r v e g : ℕ) → Reading R s r v e g → parse R s ≡ accepted (decode s)
reading R s r v e g h = let p = places R s r v e g h in p.read ∙ ap accepted (sym p.value)

module _ (R : Rules) (s item replica : List ℕ) (t : ℕ) where
  pub contain_refuses : (n : ℕ) → Refusing R s n → contain_answer R s item replica t ≡ C.Refused n
  contain_refuses n h =
      contain_is R s item replica t
      ∙ one_refused C.Refused (wrong_ids item replica) (contain_here R s item replica t) (parse R s) n (refusing R s n h)

  module _ (r v e g : ℕ) (h : Reading R s r v e g) where
    pub contain_wrong : (ProperIds item replica → ⊥) → contain_answer R s item replica t ≡ C.Refused 17
    contain_wrong f =
        contain_is R s item replica t
        ∙ one_wrong C.Refused (wrong_ids item replica) (contain_here R s item replica t) (parse R s) (decode s)
        (reading R s r v e g h) (no_false (wrong_ids item replica) (λ w. f ((wrong_ids_exact item replica).0 w)))

    pub contain_answers : ProperIds item replica
        → contain_answer R s item replica t ≡ contain_found (contains (decode s) (be_at item 24 0) (be_at replica 16 0) t)
    unfolding contain_here
    contain_answers f =
        contain_is R s item replica t
        ∙ one_right C.Refused (wrong_ids item replica) (contain_here R s item replica t) (parse R s) (decode s)
        (reading R s r v e g h) ((wrong_ids_exact item replica).1 f)

module _ (R : Rules) (s t item replica : List ℕ) where
  pub lead_refuses_first : (n : ℕ) → Refusing R s n → lead_answer R s t item replica ≡ D.Refused n
  lead_refuses_first n h =
      lead_is R s t item replica
      ∙ two_first D.Refused (wrong_ids item replica) (lead_here R s t item replica) (parse R s) (parse R t) n (refusing R s n h)

  module _ (r v e g : ℕ) (h : Reading R s r v e g) where
    pub lead_refuses_second : (n : ℕ) → Refusing R t n → lead_answer R s t item replica ≡ D.Refused n
    lead_refuses_second n k =
        lead_later R s t item replica (decode s) (reading R s r v e g h)
        ∙ one_refused D.Refused (wrong_ids item replica) (lead_here R s t item replica (decode s)) (parse R t) n (refusing R t n k)

    module _ (r' v' e' g' : ℕ) (k : Reading R t r' v' e' g') where
      pub lead_wrong : (ProperIds item replica → ⊥) → lead_answer R s t item replica ≡ D.Refused 17
      lead_wrong f =
          lead_later R s t item replica (decode s) (reading R s r v e g h)
          ∙ one_wrong D.Refused (wrong_ids item replica) (lead_here R s t item replica (decode s)) (parse R t) (decode t)
          (reading R t r' v' e' g' k) (no_false (wrong_ids item replica) (λ w. f ((wrong_ids_exact item replica).0 w)))

      pub lead_answers : ProperIds item replica
          → lead_answer R s t item replica
          ≡ D.Ahead (pos (known (decode s) (be_at item 24 0) (be_at replica 16 0)) -ℤ pos (known (decode t) (be_at item 24 0) (be_at replica 16 0)))
      unfolding lead_here lead_of
      lead_answers f =
          lead_later R s t item replica (decode s) (reading R s r v e g h)
          ∙ one_right D.Refused (wrong_ids item replica) (lead_here R s t item replica (decode s)) (parse R t) (decode t)
          (reading R t r' v' e' g' k) ((wrong_ids_exact item replica).1 f)

-- what contain finds, by its two tests
pub found_yes : (k : Knowledge) (i p t : ℕ) → 1 ≤ t → t ≤ known k i p → contain_found (contains k i p t) ≡ C.Contained
unfolding contain_found contains
found_yes k i p t h l = rw (le-leb 1 t h, contains, le-leb t (known k i p) l, contain_found)

pub found-zero : (k : Knowledge) (i p t : ℕ) → t ≡ 0 → contain_found (contains k i p t) ≡ C.Lacking
unfolding contain_found contains
found-zero k i p t h = let l : t < 1 = omega arith in rw (lt-leb 1 t l, contains, contain_found)

pub found_later : (k : Knowledge) (i p t : ℕ) → known k i p < t → contain_found (contains k i p t) ≡ C.Lacking
unfolding contain_found contains
found_later k i p t h =
    let l : 1 ≤ t = omega arith in
    rw (le-leb 1 t l, contains, lt-leb t (known k i p) h, contain_found)

-- Lists

pub each_in : {A : Type 0} (P : A → Type 0) (xs : List A) → ((x : A) → In x xs → P x) → All P xs
each_in P [] f = tt
each_in P (x ∷ xs) f = (f x (inl refl), each_in P xs (λ y m. f y (inr m)))

pub in_all : {A : Type 0} (P : A → Type 0) (xs : List A) → All P xs → (x : A) → In x xs → P x
in_all P [] a x m = absurd m
in_all P (y ∷ ys) a x (inl e) = subst P (sym e) a.0
in_all P (y ∷ ys) a x (inr m) = in_all P ys a.1 x m

-- elements with ticks at most f of their keys
tick_within : (f : ℕ → ℕ) (es : List Element) (key : ℕ) → All (λ x. x.tick ≤ f x.key.0) es → tick_at es key ≤ f key
tick_within f [] key a = omega (arith, tick-nil key)
tick_within f (x ∷ xs) key a =
    elim (exact? eqb eqb_exact x.key.0 key) [
      | inl e ↦ omega (arith, tick_same x xs key e, a.0, ap f e)
      | inr n ↦ omega (arith, tick_other x xs key n, tick_within f xs key a.1)
    ]

place_out : (p : ℕ) (ids : List ℕ) → (Among p ids → ⊥) → length ids ≤ place p ids
place_out p ids n =
    elim (order (place p ids) (length ids)) [
      | less h ↦ absurd (n (place_among p ids h))
      | same h ↦ omega arith
      | more h ↦ omega arith
    ]

-- The known tick by key and index

pub index_at-nil : (found : VectorIndex) (i : ℕ) → index_at found [] i ≡ found
unfolding index_at
index_at-nil found i = refl

pub index_at-lt : (found : VectorIndex) (x : Range) (xs : List Range) (i : ℕ) → i < x.bound → index_at found (x ∷ xs) i ≡ found
unfolding index_at
index_at-lt found x xs i h = rw (lt-ltb i x.bound h, index_at)

pub index_at-ge : (found : VectorIndex) (x : Range) (xs : List Range) (i : ℕ) → x.bound ≤ i
    → index_at found (x ∷ xs) i ≡ index_at x.index xs i
unfolding index_at
index_at-ge found x xs i h = rw (le-ltb i x.bound h, index_at)

-- a search that has found one finds one
index_some : (found : VectorIndex) (xs : List Range) (i : ℕ) → index_from (some found) xs i ≡ some (index_at found xs i)
index_some found [] i = index-nil (some found) i ∙ ap some (sym (index_at-nil found i))
index_some found (x ∷ xs) i =
    let later : x.bound ≤ i → index_from (some found) (x ∷ xs) i ≡ some (index_at found (x ∷ xs) i) =
    λ h. index-ge (some found) x xs i h ∙ index_some x.index xs i ∙ ap some (sym (index_at-ge found x xs i h)) in
    elim (order i x.bound) [
      | less h ↦ index-lt (some found) x xs i h ∙ ap some (sym (index_at-lt found x xs i h))
      | same h ↦ later (omega arith)
      | more h ↦ later (omega arith)
    ]

-- the vector that a search from index 0 finds
pub vector_indexed : (k : Knowledge) (i : ℕ) → vector_of k 0 ≡ [] → vector_of k (index_at first_index k.ranges i).0 ≡ vector_at k i
vector_indexed k i e =
    sym (found_some k.vectors (index_at first_index k.ranges i))
    ∙ ap (vector_found k.vectors) (sym (index_some first_index k.ranges i)) ∙ vector_at-zero k i e

-- a property of every vector, and of none, holds for the one at an item
vector_all : (P : List Element → Type 0) (k : Knowledge) (i : ℕ) → All P k.vectors → P [] → P (vector_at k i)
unfolding vector_at
vector_all P k i a e = found_all P k.vectors (index_from none k.ranges i) a e

module _ (R : Rules) (k : Knowledge) (l : Lawful R k) where
  pub keys_below_lem : (i : ℕ) → All (λ x. x.key.0 < length k.replicas) (vector_at k i)
  keys_below_lem i = vector_all (All (λ x. x.key.0 < length k.replicas)) k i l.keys_below tt

  pub keys_once_lem : (i : ℕ) → Distinct (keys (vector_at k i))
  unfolding keys
  keys_once_lem i = vector_all (λ es. Distinct (keys es)) k i l.keys_once tt

  -- no element has the key of an id that is not in the map
  pub known_place : (i p : ℕ) → known k i p ≡ tick_at (vector_at k i) (place p k.replicas)
  known_place i p =
      elim (among? p k.replicas) [
        | inl m ↦ known_in k i p m
        | inr n ↦
            known_out k i p n
            ∙ sym (tick_none (length k.replicas) (vector_at k i) (place p k.replicas) (keys_below_lem i) (place_out p k.replicas n))
      ]

  -- the known ticks at an item are at most f exactly where the elements there are
  pub known_at_most : (f : ℕ → ℕ) (i : ℕ)
      → ((p : ℕ) → known k i p ≤ f p) ↔ All (λ x. x.tick ≤ f (get_or k.replicas x.key.0 0)) (vector_at k i)
  known_at_most f i = (there, back)
    where
      there : ((p : ℕ) → known k i p ≤ f p) → All (λ x. x.tick ≤ f (get_or k.replicas x.key.0 0)) (vector_at k i)
      there h =
          each_in (λ x. x.tick ≤ f (get_or k.replicas x.key.0 0)) (vector_at k i)
          (λ x m.
          let small : x.key.0 < length k.replicas = in_all (λ x. x.key.0 < length k.replicas) (vector_at k i) (keys_below_lem i) x m in
          omega (
            arith,
            h (get_or k.replicas x.key.0 0),
            key_known k i x.key.0 (lawful_sound R k l) small,
            tick_element (vector_at k i) x (keys_once_lem i) m,
          ))

      back : All (λ x. x.tick ≤ f (get_or k.replicas x.key.0 0)) (vector_at k i) → (p : ℕ) → known k i p ≤ f p
      back a p =
          elim (among? p k.replicas) [
            | inl m ↦
                let at_key = tick_within (λ n. f (get_or k.replicas n 0)) (vector_at k i) (place p k.replicas) a in
                let own : get_or k.replicas (place p k.replicas) 0 ≡ p =
                place_found eqb eqb_exact p 0 k.replicas (among_place p k.replicas m) in
                omega (arith, known_in k i p m, at_key, ap f own)
            | inr n ↦ omega (arith, known_out k i p n)
          ]
