-- What the reading of the ids, of a clock vector, of all vectors and of the ranges says of the bytes where it finds
-- no fault: there is a lawful list whose encoding stands there. One law takes a repeated part apart from the front;
-- the lists' own laws are carried along. That no id or key stands twice follows from the places: what comes after
-- the first k + 1 places differs from what stands at place k.
use Prim.Native.Nat.{ℕ, zero, suc, ◌+◌, ◌*◌, ◌-◌, ◌≤◌, ◌<◌}
use native.Mathlib.Nat.{mul-suc, mul-zero, add-zero}
use native.Mathlib.Numerals.{add-one}
use native.Mathlib.Omega.{arith}
use mathlib.Core.Bool.{Bool, true, false}
use mathlib.Core.List.{List, [], ◌∷◌}
use mathlib.Core.Path.{◌≡◌, refl, sym, ap, subst, ◌∙◌}
use lib.Dec.{leb, ltb, eqb}
use lib.ListN.{length, drop}
use borrow.Author.Tests.{leb-true, ltb-true, eqb-true, eqb-false}
use Rattle.codec.specs.Number.{Bytes, be_at, put}
use Rattle.layout.specs.Got.{Got}
use Rattle.layout.specs.Got.{Num, Fault}
use Rattle.layout.specs.Knowledge.{Rules, largest_tick, Element, Range, before_elements, put_fields, put_ids, put_elements, put_vectors, put_ranges, All, Distinct, Rising, keys, bounds}
use Rattle.layout.proofs.Parts.{LawfulId, LawfulElement, LawfulVector, LawfulRange, all_map}
use Rattle.layout.specs.Answer.{elements}
use Rattle.layout.specs.Read.{◌▷◌, repeat, number, fields, limit, empty, among, judged, replica_id, tick, element, first_vector, vector, index, range}
use Rattle.layout.specs.Parse.{vector_list}
use Rattle.layout.proofs.ForwardRead.{lowest}
use Rattle.layout.proofs.BackwardSteps.{fault_num, then_inv, test_inv, not_inv}
use Rattle.layout.proofs.BackwardSteps.{Took, number_inv, fields_inv, count_inv}

-- the values of a part that was read n times, and what holds of them
pub record Looped {A : Type 0} (T : ℕ → ℕ → List A → ℕ → ℕ → Type 0) (n x at z b : ℕ) : Type 0 where
  pub values : List A
  pub count : length values ≡ n
  pub are : T x at values z b

module _ {A : Type 0} (f : ℕ → ℕ → Got) (T : ℕ → ℕ → List A → ℕ → ℕ → Type 0)
    (done : (x at : ℕ) → T x at [] x at)
    (more : (x at y c z b : ℕ) (l : List A) → f x at ≡ Num y c → T y c l z b → (a : A) × T x at (a ∷ l) z b) where
  pub repeat_inv : (n x at z b : ℕ) → repeat f n x at ≡ Num z b → Looped T n x at z b
  unfolding repeat
  repeat_inv zero x at z b e =
      let p : x ≡ z = cc in
      let q : at ≡ b = cc in
      record { values = []; count = refl; are = rw (← p, ← q) (done x at) }
  repeat_inv (suc n) x at z b e = then_inv (f x at) (repeat f n) z b _ e λ y c u v.
      let rest = repeat_inv n y c z b v in
      let first = more x at y c z b rest.values u rest.are in
      record { values = first.0 ∷ rest.values; count = ap suc rest.count; are = first.1 }

-- x is none of the first k numbers
abbrev pub Apart : List ℕ → ℕ → ℕ → ℕ → ℕ → ℕ → Type 0
Apart s n step start k x = among s n step start k x ≡ false

or_false : (a b : Bool) → ◌≡◌ {A = Bool} (elim a [ true ↦ true | false ↦ b ]) false → (a ≡ false) × (b ≡ false)
or_false true b e = (e, cc)
or_false false b e = (refl, e)

-- none of the first k + 1: none of the first k, and not the one after them
pub apart_last : (s : List ℕ) (n step k start x : ℕ) → Apart s n step start (suc k) x
    → Apart s n step start k x × (be_at s n (start + step * k) ≡ x → ⊥)
unfolding among
apart_last s n step zero start x h =
    let t = or_false (eqb (be_at s n start) x) false h in
    let p : start + step * 0 ≡ start = rw mul-zero (add-zero start) in
    (refl, rw p (eqb-false _ _ t.0))
apart_last s n step (suc k) start x h =
    let t = or_false (eqb (be_at s n start) x) (among s n step (start + step) (suc k) x) h in
    let ih = apart_last s n step k (start + step) x t.1 in
    let p : start + step * suc k ≡ start + step + step * k = omega (arith, mul-suc step k) in
    (rw (t.0, among) ih.0, rw p ih.1)

pub apart_next : (s : List ℕ) (n step k start : ℕ) (l : List ℕ) → All (Apart s n step start (k + 1)) l
    → All (Apart s n step start k) l × All (λ y. be_at s n (start + step * k) ≡ y → ⊥) l
apart_next s n step k start l h = (
  all_map (Apart s n step start (k + 1)) (Apart s n step start k) (λ x g. (apart_last s n step k start x (rw add-one at g)).0) l h,
  all_map (Apart s n step start (k + 1)) (λ y. be_at s n (start + step * k) ≡ y → ⊥) (λ x g. (apart_last s n step k start x (rw add-one at g)).1) l h,
)

-- ids that were read with k of them before
pub record Ids (R : Rules) (s : List ℕ) (start k at : ℕ) (l : List ℕ) (z b : ℕ) : Type 0 where
  pub bytes : drop at s ≡ put_ids l (drop b s)
  pub lawful : All (LawfulId R) l
  pub distinct : Distinct l
  pub apart : All (Apart s 16 16 start k) l
  pub last : z ≡ k + length l

-- elements that were read with k of them before
pub record Elements (s : List ℕ) (r start k at : ℕ) (l : List Element) (z b : ℕ) : Type 0 where
  pub bytes : drop at s ≡ put_elements l (drop b s)
  pub lawful : All (LawfulElement r) l
  pub distinct : Distinct (keys l)
  pub apart : All (Apart s 4 12 start k) (keys l)
  pub last : z ≡ k + length l

-- one clock vector, with e elements before it
pub record Vector (s : List ℕ) (r e at : ℕ) (z b : ℕ) : Type 0 where
  pub values : List Element
  pub bytes : drop at s ≡ put_fields before_elements (put 4 (length values) (put_elements values (drop b s)))
  pub lawful : LawfulVector r values
  pub last : z ≡ e + length values

-- clock vectors, with e elements before them
pub record Vectors (s : List ℕ) (r e at : ℕ) (l : List (List Element)) (z b : ℕ) : Type 0 where
  pub bytes : drop at s ≡ put_vectors l (drop b s)
  pub lawful : All (LawfulVector r) l
  pub last : z ≡ e + elements l

-- all clock vectors: the first, which is empty, and those after it
pub record VectorList (s : List ℕ) (r v at : ℕ) (z b : ℕ) : Type 0 where
  pub rest : List (List Element)
  pub count : suc (length rest) ≡ v
  pub are : Vectors s r 0 at ([] ∷ rest) z b

-- ranges whose bounds are low or more
pub record Ranges (s : List ℕ) (v low at : ℕ) (l : List Range) (z b : ℕ) : Type 0 where
  pub bytes : drop at s ≡ put_ranges l (drop b s)
  pub lawful : All (LawfulRange v) l
  pub rising : Rising low (bounds l)
  pub last : z ≡ lowest low l

judged_inv : (n k at x b : ℕ) → judged n k at ≡ Num x b → (n ≡ 0) × ((x ≡ k) × (b ≡ at))
unfolding judged
judged_inv zero k at x b e = (refl, (cc, cc))
judged_inv (suc n) k at x b e = fault_num (suc n) x b _ e

-- the place and the count after one more, apart from the large bounds of ids
next_place : (start step k y at next c : ℕ) → at ≡ start + step * k → y ≡ k + 1 → next ≡ at + step → c ≡ next → c ≡ start + step * y
next_place start step k y at next c e p q h = let m : step * y ≡ step * suc k = rw p (rw add-one refl) in omega (arith, mul-suc step k)

next_count : (z y k n : ℕ) → z ≡ y + n → y ≡ k + 1 → z ≡ k + suc n
next_count z y k n e p = omega arith

-- what differs from the number at the place before stands nowhere after it
differs : (s : List ℕ) (n at x b : ℕ) (l : List ℕ) → x ≡ be_at s n at → at ≡ b → All (λ y. be_at s n b ≡ y → ⊥) l → All (λ y. x ≡ y → ⊥) l
differs s n at x b l i p h = subst (λ a. All (λ y. a ≡ y → ⊥) l) (sym (i ∙ ap (be_at s n) p)) h

module _ (R : Rules) (s : List ℕ) (bs : Bytes s) where
  abbrev IdsFrom : ℕ → ℕ → ℕ → List ℕ → ℕ → ℕ → Type 0
  IdsFrom start k at l z b = at ≡ start + 16 * k → Ids R s start k at l z b

  id_inv : (start k at y c z b : ℕ) (l : List ℕ) → replica_id R.judge s start k at ≡ Num y c → IdsFrom start y c l z b
      → (a : ℕ) × IdsFrom start k at (a ∷ l) z b
  unfolding replica_id put_ids
  id_inv start k at y c z b l e rest =
      then_inv (number s 16 k at) (λ id next. elim (among s 16 16 start k id) [ true ↦ Fault 5 | false ↦ judged (R.judge id) (k + 1) next ])
      y c _ e λ id next u v.
      not_inv (among s 16 16 start k id) (judged (R.judge id) (k + 1) next) 5 y c _ v λ t w.
      let took = number_inv s bs 16 k at id next u in
      let (j, (p, q)) = judged_inv (R.judge id) (k + 1) next y c w in (
        id,
        λ place.
            let r = rest (next_place start 16 k y at next c place p took.end q) in
            let others = apart_next s 16 16 k start l (rw p at r.apart) in
            record {
              bytes = took.bytes ∙ ap (put 16 id) (ap (λ n. drop n s) (sym q) ∙ r.bytes);
              lawful = (record { size = took.small; acceptable = j }, r.lawful);
              distinct = (differs s 16 at id (start + 16 * k) l took.is place others.1, r.distinct);
              apart = (t, others.0);
              last = next_count z y k (length l) r.last p;
            },
      )

  pub ids_inv : (n start z b : ℕ) → repeat (replica_id R.judge s start) n 0 start ≡ Num z b
      → Looped (λ k at l z b. Ids R s start k at l z b) n 0 start z b
  unfolding put_ids
  ids_inv n start z b e =
      let all = repeat_inv (replica_id R.judge s start) (IdsFrom start)
      (λ x at place. record { bytes = refl; lawful = tt; distinct = tt; apart = tt; last = sym (add-zero x) }) (id_inv start) n 0 start z b e in
      record { values = all.values; count = all.count; are = all.are (sym (ap (λ m. start + m) (mul-zero 16) ∙ add-zero start)) }

module _ (s : List ℕ) (bs : Bytes s) (r : ℕ) where
  tick_inv : (k at y c : ℕ) → tick s k at ≡ Num y c → (t : ℕ) × (Took s 8 at t c × (t ≤ largest_tick) × (y ≡ k + 1))
  unfolding tick
  tick_inv k at y c e =
      then_inv (number s 8 k at) (λ t next. elim (leb t largest_tick) [ true ↦ Num (k + 1) next | false ↦ Fault 7 ]) y c _ e λ t next u v.
      test_inv (leb t largest_tick) (Num (k + 1) next) 7 y c _ v λ h w.
      let p : next ≡ c = cc in
      (t, (subst (λ n. Took s 8 at t n) p (number_inv s bs 8 k at t next u), leb-true t largest_tick h, cc))

  abbrev ElementsFrom : ℕ → ℕ → ℕ → List Element → ℕ → ℕ → Type 0
  ElementsFrom start k at l z b = at ≡ start + 12 * k → Elements s r start k at l z b

  element_inv : (start k at y c z b : ℕ) (l : List Element) → element s r start k at ≡ Num y c → ElementsFrom start y c l z b
      → (a : Element) × ElementsFrom start k at (a ∷ l) z b
  unfolding element put_elements keys
  element_inv start k at y c z b l e rest =
      then_inv (number s 4 k at)
      (λ key next. elim (ltb key r)
      [ true ↦ elim (among s 4 12 start k key) [ true ↦ Fault 6 | false ↦ tick s k next ] | false ↦ Fault 6 ])
      y c _ e λ key next u v.
      test_inv (ltb key r) (elim (among s 4 12 start k key) [ true ↦ Fault 6 | false ↦ tick s k next ]) 6 y c _ v λ below v'.
      not_inv (among s 4 12 start k key) (tick s k next) 6 y c _ v' λ t w.
      let took = number_inv s bs 4 k at key next u in
      let (x, (second, small, p)) = tick_inv k next y c w in (
        record { key = record { 0 = key }; tick = x },
        λ place.
            let after : c ≡ at + 12 = omega (arith, took.end, second.end) in
            let m = rest (next_place start 12 k y at c c place p after refl) in
            let others = apart_next s 4 12 k start (keys l) (rw p at m.apart) in
            record {
              bytes = took.bytes ∙ ap (put 4 key) (second.bytes ∙ ap (put 8 x) m.bytes);
              lawful = (record { key = ltb-true key r below; tick = small }, m.lawful);
              distinct = (differs s 4 at key (start + 12 * k) (keys l) took.is place others.1, m.distinct);
              apart = (t, others.0);
              last = next_count z y k (length l) m.last p;
            },
      )

  pub elements_inv : (n start z b : ℕ) → repeat (element s r start) n 0 start ≡ Num z b
      → Looped (λ k at l z b. Elements s r start k at l z b) n 0 start z b
  unfolding put_elements keys
  elements_inv n start z b e =
      let all = repeat_inv (element s r start) (ElementsFrom start)
      (λ x at place. record { bytes = refl; lawful = tt; distinct = tt; apart = tt; last = sym (add-zero x) }) (element_inv start) n 0 start z b e in
      record { values = all.values; count = all.count; are = all.are (sym (ap (λ m. start + m) (mul-zero 12) ∙ add-zero start)) }

  pub vector_inv : (e at z b : ℕ) → vector s r e at ≡ Num z b → Vector s r e at z b
  unfolding vector
  vector_inv e at z b h =
      then_inv (fields s before_elements e at ▷ number s 4 ▷ limit 0 r) (λ n start. repeat (element s r start) n 0 start ▷ λ m next. Num (e + m) next)
      z b _ h λ n start u v.
      then_inv (repeat (element s r start) n 0 start) (λ m next. Num (e + m) next) z b _ v λ m next w f.
      let counted = count_inv s bs before_elements 0 r e at n start u in
      let all = elements_inv n start m next w in
      let p : next ≡ b = cc in
      let q : e + m ≡ z = cc in
      record {
        values = all.values;
        bytes = counted.bytes ∙ ap (λ l. put_fields before_elements (put 4 n l)) all.are.bytes
            ∙ ap (λ l. put_fields before_elements (put 4 l (put_elements all.values (drop next s)))) (sym all.count)
            ∙ ap (λ l. put_fields before_elements (put 4 (length all.values) (put_elements all.values (drop l s)))) p;
        lawful = record { count = rw all.count counted.high; elements = all.are.lawful; distinct = all.are.distinct };
        last = omega (arith, all.are.last);
      }

  pub vectors_inv : (n e at z b : ℕ) → repeat (vector s r) n e at ≡ Num z b → Looped (Vectors s r) n e at z b
  unfolding put_vectors elements
  vectors_inv n e at z b h = repeat_inv (vector s r) (Vectors s r)
      (λ x at. record { bytes = refl; lawful = tt; last = sym (add-zero x) })
      (λ x at y c z b l u rest.
      let one = vector_inv x at y c u in (
        one.values,
        record {
          bytes = one.bytes ∙ ap (λ t. put_fields before_elements (put 4 (length one.values) (put_elements one.values t))) rest.bytes;
          lawful = (one.lawful, rest.lawful);
          last = omega (arith, one.last, rest.last);
        },
      ))
      n e at z b h

  pub vector_list_inv : (v at z b : ℕ) → 1 ≤ v → vector_list s r v at ≡ Num z b → VectorList s r v at z b
  unfolding vector_list first_vector empty put_vectors put_elements elements keys
  vector_list_inv v at z b some h =
      then_inv (first_vector s 0 at) (repeat (vector s r) (v - 1)) z b _ h λ y c u w.
      then_inv (fields s before_elements 0 at ▷ number s 4) empty y c _ u λ n next u' w'.
      then_inv (fields s before_elements 0 at) (number s 4) n next _ u' λ x start u'' w''.
      test_inv (eqb n 0) (Num 0 next) 4 y c _ w' λ t f.
      let none : n ≡ 0 = eqb-true n 0 t in
      let p : 0 ≡ y = cc in
      let q : next ≡ c = cc in
      let all = vectors_inv (v - 1) y c z b w in
      let took = number_inv s bs 4 x start n next w'' in
      record {
        rest = all.values;
        count = omega (arith, all.count);
        are = record {
          bytes = fields_inv s bs before_elements 0 at x start u''
              ∙ ap (put_fields before_elements) (took.bytes ∙ ap (λ m. put 4 m (drop next s)) none
              ∙ ap (λ m. put 4 0 (drop m s)) q ∙ ap (put 4 0) all.are.bytes);
          lawful = (record { count = omega arith; elements = tt; distinct = tt }, all.are.lawful);
          last = omega (arith, all.are.last);
        };
      }

module _ (s : List ℕ) (bs : Bytes s) (v : ℕ) where
  index_inv : (low at y c : ℕ) → index s v low at ≡ Num y c → (i : ℕ) × (Took s 4 at i c × (i < v) × (y ≡ low))
  unfolding index
  index_inv low at y c e =
      then_inv (number s 4 low at) (λ i next. elim (ltb i v) [ true ↦ Num low next | false ↦ Fault 9 ]) y c _ e λ i next u w.
      test_inv (ltb i v) (Num low next) 9 y c _ w λ h f.
      let p : next ≡ c = cc in
      (i, (subst (λ n. Took s 4 at i n) p (number_inv s bs 4 low at i next u), ltb-true i v h, cc))

  range_inv : (low at y c z b : ℕ) (l : List Range) → range s v low at ≡ Num y c → Ranges s v y c l z b
      → (a : Range) × Ranges s v low at (a ∷ l) z b
  unfolding range put_ranges bounds
  range_inv low at y c z b l e rest =
      then_inv (number s 24 low at) (λ bound next. elim (leb low bound) [ true ↦ index s v (suc bound) next | false ↦ Fault 8 ])
      y c _ e λ bound next u w.
      test_inv (leb low bound) (index s v (suc bound) next) 8 y c _ w λ t w'.
      let took = number_inv s bs 24 low at bound next u in
      let (i, (second, below, p)) = index_inv (suc bound) next y c w' in (
        record { bound = bound; index = record { 0 = i } },
        record {
          bytes = took.bytes ∙ ap (put 24 bound) (second.bytes ∙ ap (put 4 i) rest.bytes);
          lawful = (record { size = took.small; index = below }, rest.lawful);
          rising = (leb-true low bound t, rw p at rest.rising);
          last = rest.last ∙ ap (λ m. lowest m l) p;
        },
      )

  pub ranges_inv : (n at z b : ℕ) → repeat (range s v) n 0 at ≡ Num z b → Looped (Ranges s v) n 0 at z b
  unfolding put_ranges bounds
  ranges_inv n at z b e = repeat_inv (range s v) (Ranges s v) (λ x at. record { bytes = refl; lawful = tt; rising = tt; last = refl }) range_inv n 0 at z b e
