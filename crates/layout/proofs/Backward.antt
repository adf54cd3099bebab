-- The backward half of the exactness of the layout: bytes that the check accepts are the encoding of some lawful
-- knowledge, and the check's numbers are that knowledge's sizes. Each part that was read without fault gives the
-- equation between the bytes before and after it; the whole is these equations one after the other. Also: a
-- refusal's number is from 1 to 10, where every replica id is acceptable.
use Prim.Native.Nat.{ℕ, ◌≤◌}
use native.Mathlib.Nat.{zero-add}
use native.Mathlib.Omega.{arith}
use mathlib.Core.Bool.{Bool, true, false}
use mathlib.Core.List.{List, [], ◌∷◌}
use mathlib.Core.Path.{◌≡◌, refl, sym, ap, ◌∙◌, subst}
use lib.Dec.{eqb}
use lib.ListN.{length, drop}
use lib.Seq.{drop-length}
use borrow.Author.Tests.{eqb-true}
use Rattle.codec.specs.Number.{Bytes, put}
use Rattle.layout.specs.Got.{Got}
use Rattle.layout.specs.Got.{Num, Fault}
use Rattle.layout.specs.Checked.{Checked}
use Rattle.layout.specs.Checked.{Accepted, Refused}
use Rattle.layout.specs.Knowledge.{Rules, basic, Range, Knowledge, All, opening, before_vectors, before_ranges, closing, encode, put_fields, put_ids, put_vectors, put_ranges, Lawful}
use Rattle.layout.specs.Permitted.{most_vectors}
use Rattle.layout.specs.Answer.{elements}
use Rattle.layout.specs.Read.{◌▷◌, repeat, number, fields, limit, replica_id, range}
use Rattle.layout.specs.Parse.{◌▶◌, replica_map, vector_count, vector_list, range_list, ended, checked, checked_by}
use Rattle.layout.proofs.BackwardSteps.{then_inv, Counted, fields_inv, count_inv}
use Rattle.layout.proofs.BackwardRefused.{refused_within}
use Rattle.layout.proofs.Parts.{LawfulVector, whole as whole-lawful}
use Rattle.layout.proofs.BackwardParts.{Ids, ids_inv, VectorList, vector_list_inv, Ranges, ranges_inv}

-- the knowledge that bytes stand for, with r replicas, v vectors, e elements and g ranges
pub record Means (R : Rules) (s : List ℕ) (r v e g : ℕ) : Type 0 where
  pub value : Knowledge
  pub bytes : s ≡ encode value
  pub lawful : Lawful R value
  pub rs : length value.replicas ≡ r
  pub vs : length value.vectors ≡ v
  pub es : elements value.vectors ≡ e
  pub gs : length value.ranges ≡ g

-- the check went on from a part without fault
next_inv : (p : Got) (f : ℕ → ℕ → Checked) (r v e g : ℕ) (C : Type 0) → (p ▶ f) ≡ Accepted r v e g
    → ((y c : ℕ) → p ≡ Num y c → f y c ≡ Accepted r v e g → C) → C
next_inv (Num y c) f r v e g C h k = k y c refl h
next_inv (Fault n) f r v e g C h k = let z : ◌≡◌ {A = ℕ} 0 1 = cc in absurd (omega arith)

ended_inv : (t : Bool) (a : Checked) (r v e g : ℕ) → ◌≡◌ {A = Checked} (elim t [ true ↦ a | false ↦ Refused 10 ]) (Accepted r v e g)
    → (t ≡ true) × (a ≡ Accepted r v e g)
ended_inv true a r v e g h = (refl, h)
ended_inv false a r v e g h = let z : ◌≡◌ {A = ℕ} 0 1 = cc in absurd (omega arith)

-- the ids, and the ranges, each with the fields and the count before them
pub record IdPart (R : Rules) (s : List ℕ) (r b : ℕ) : Type 0 where
  pub values : List ℕ
  pub count : length values ≡ r
  pub high : r ≤ R.limits.replicas
  pub start : ℕ
  pub are : Ids R s start 0 start values r b
  pub bytes : s ≡ put_fields opening (put 4 r (put_ids values (drop b s)))

pub record RangePart (R : Rules) (s : List ℕ) (v at g b : ℕ) : Type 0 where
  pub values : List Range
  pub count : length values ≡ g
  pub some : 1 ≤ g
  pub high : g ≤ R.limits.ranges
  pub start : ℕ
  pub last : ℕ
  pub are : Ranges s v 0 start values last b
  pub bytes : drop at s ≡ put_fields before_ranges (put 4 g (put_ranges values (drop b s)))

module _ (R : Rules) (s : List ℕ) (bs : Bytes s) where
  pub id_part : (r b : ℕ) → replica_map R.limits.replicas R.judge s ≡ Num r b → IdPart R s r b
  unfolding replica_map
  id_part r b h =
      then_inv (fields s opening 0 0 ▷ number s 4 ▷ limit 0 R.limits.replicas)
      (λ n start. repeat (replica_id R.judge s start) n 0 start) r b _ h λ n start u w.
      let counted = count_inv s bs opening 0 R.limits.replicas 0 0 n start u in
      let all = ids_inv R s bs n start r b w in
      let p : n ≡ r = omega (arith, all.count, all.are.last) in
      record {
        values = all.values;
        count = all.count ∙ p;
        high = omega (arith, counted.high);
        start = start;
        are = all.are;
        bytes = counted.bytes
            ∙ ap (λ m. put_fields opening (put 4 m (drop start s))) p
            ∙ ap (λ t. put_fields opening (put 4 r t)) all.are.bytes;
      }

  pub range_part : (v at g b : ℕ) → range_list R.limits.ranges s v at ≡ Num g b → RangePart R s v at g b
  unfolding range_list
  range_part v at g b h =
      then_inv (fields s before_ranges 0 at ▷ number s 4 ▷ limit 1 R.limits.ranges)
      (λ n start. repeat (range s v) n 0 start ▷ λ low next. Num n next) g b _ h λ n start u w.
      then_inv (repeat (range s v) n 0 start) (λ low next. Num n next) g b _ w λ low next x y.
      let counted = count_inv s bs before_ranges 1 R.limits.ranges 0 at n start u in
      let p : n ≡ g = cc in
      let q : next ≡ b = cc in
      let all = ranges_inv s bs v n start low b (x ∙ ap (Num low) q) in
      record {
        values = all.values;
        count = all.count ∙ p;
        some = omega (arith, counted.low);
        high = omega (arith, counted.high);
        start = start;
        last = low;
        are = all.are;
        bytes = counted.bytes
            ∙ ap (λ m. put_fields before_ranges (put 4 m (drop start s))) p
            ∙ ap (λ t. put_fields before_ranges (put 4 g t)) all.are.bytes;
      }

  pub vector_count_lem : (at v b : ℕ) → vector_count R.limits.ranges s at ≡ Num v b → Counted s before_vectors 1 (most_vectors R.limits) at v b
  unfolding vector_count
  vector_count_lem at v b h = count_inv s bs before_vectors 1 (most_vectors R.limits) 0 at v b h

  -- the parts, joined
  joined : (r v e g a b c d end : ℕ) → IdPart R s r a → Counted s before_vectors 1 (most_vectors R.limits) a v b → VectorList s r v b e c
      → RangePart R s v c g d → drop d s ≡ put_fields closing (drop end s) → end ≡ length s → Means R s r v e g
  unfolding encode
  joined r v e g a b c d end ids counted vectors ranges last whole =
      let k : Knowledge = record { replicas = ids.values; vectors = [] ∷ vectors.rest; ranges = ranges.values } in
      record {
        value = k;
        bytes =
            rw (ids.count, vectors.count, ranges.count)
            (ids.bytes ∙ ap (λ t. put_fields opening (put 4 r (put_ids ids.values t)))
            (counted.bytes ∙ ap (λ t. put_fields before_vectors (put 4 v t))
            (vectors.are.bytes ∙ ap (put_vectors ([] ∷ vectors.rest))
            (ranges.bytes ∙ ap (λ t. put_fields before_ranges (put 4 g (put_ranges ranges.values t)))
            (last ∙ ap (put_fields closing) (ap (λ n. drop n s) whole ∙ drop-length s))))));
        lawful =
            whole-lawful R k (record {
              replicas = rw ids.count ids.high;
              ids = ids.are.lawful;
              distinct = ids.are.distinct;
              some_vector = rw vectors.count counted.low;
              vectors = rw vectors.count counted.high;
              first = refl;
              clocks = subst (λ (n : ℕ). All (LawfulVector n) ([] ∷ vectors.rest)) (sym ids.count) vectors.are.lawful;
              some_range = rw ranges.count ranges.some;
              ranges = rw ranges.count ranges.high;
              spans = rw vectors.count ranges.are.lawful;
              rising = ranges.are.rising;
            });
        rs = ids.count;
        vs = vectors.count;
        es = sym (vectors.are.last ∙ zero-add (elements ([] ∷ vectors.rest)));
        gs = ranges.count;
      }

  accepted : (r v e g : ℕ) → checked_by R s ≡ Accepted r v e g → Means R s r v e g
  unfolding checked ended
  accepted r v e g h =
      next_inv (replica_map R.limits.replicas R.judge s)
      (λ r at. vector_count R.limits.ranges s at ▶ λ v at. vector_list s r v at ▶ λ e at. range_list R.limits.ranges s v at ▶ λ g at.
      fields s closing 0 at ▶ ended s (Accepted r v e g))
      r v e g _ h λ r₁ a is₁ h₁.
      next_inv (vector_count R.limits.ranges s a)
      (λ v at. vector_list s r₁ v at ▶ λ e at. range_list R.limits.ranges s v at ▶ λ g at. fields s closing 0 at ▶ ended s (Accepted r₁ v e g))
      r v e g _ h₁ λ v₁ b is₂ h₂.
      next_inv (vector_list s r₁ v₁ b)
      (λ e at. range_list R.limits.ranges s v₁ at ▶ λ g at. fields s closing 0 at ▶ ended s (Accepted r₁ v₁ e g))
      r v e g _ h₂ λ e₁ c is₃ h₃.
      next_inv (range_list R.limits.ranges s v₁ c) (λ g at. fields s closing 0 at ▶ ended s (Accepted r₁ v₁ e₁ g)) r v e g _ h₃ λ g₁ d is₄ h₄.
      next_inv (fields s closing 0 d) (ended s (Accepted r₁ v₁ e₁ g₁)) r v e g _ h₄ λ x end is₅ h₅.
      let (whole, is₆) = ended_inv (eqb end (length s)) (Accepted r₁ v₁ e₁ g₁) r v e g h₅ in
      let counted = vector_count_lem a v₁ b is₂ in
      let found = joined r₁ v₁ e₁ g₁ a b c d end (id_part r₁ a is₁) counted (vector_list_inv s bs r₁ v₁ b e₁ c counted.low is₃)
      (range_part v₁ c g₁ d is₄) (fields_inv s bs closing 0 d x end is₅) (eqb-true end (length s) whole) in
      let pr : r₁ ≡ r = cc in
      let pv : v₁ ≡ v = cc in
      let pe : e₁ ≡ e = cc in
      let pg : g₁ ≡ g = cc in
      record {
        value = found.value;
        bytes = found.bytes;
        lawful = found.lawful;
        rs = found.rs ∙ pr;
        vs = found.vs ∙ pv;
        es = found.es ∙ pe;
        gs = found.gs ∙ pg;
      }

-- accepted bytes are the encoding of some lawful knowledge of the sizes that the check gives
pub backward : (R : Rules) (s : List ℕ) (r v e g : ℕ) → Bytes s → checked_by R s ≡ Accepted r v e g → Means R s r v e g
backward R s r v e g bs h = accepted R s bs r v e g h

-- a refusal's number is one of the table's
pub refused_number : (s : List ℕ) (n : ℕ) → checked_by basic s ≡ Refused n → (1 ≤ n) × (n ≤ 10)
refused_number s n h = refused_within 10 (omega arith) basic s (λ id. omega arith) n h
