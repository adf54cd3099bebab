-- The numbers 1 to 9 of the table `Numbers`, for all bytes whose first faulty field is the one in question. Each line
-- holds as what stands before the field is read without a fault, and nothing after the field is looked at.
use Prim.Native.Nat.{ℕ, suc, ◌+◌, ◌-◌, ◌^◌, ◌<◌, ◌≤◌}
use mathlib.Core.Path.{◌≡◌, refl, sym, ap, subst, ◌∙◌}
use mathlib.Core.Logic.{◌⊎◌, inl, inr}
use mathlib.Core.List.{List, [], ◌∷◌, ◌++◌}
use native.Mathlib.Omega.{arith}
use mathlib.Core.Bool.{Bool, true, false}
use lib.Dec.{leb}
use borrow.Author.Tests.{leb-true, leb-false}
use lib.ListN.{length, get_or}
use Rattle.codec.specs.Number.{put}
use Rattle.layout.specs.Got.{Fault}
use Rattle.layout.specs.Checked.{Refused}
use Rattle.layout.specs.Knowledge.{Rules, Element, Range, Field, opening, before_vectors, before_elements, before_ranges, put_fields, All, keys, bounds}
use Rattle.layout.specs.Permitted.{Permitted}
use Rattle.layout.specs.Read.{◌▷◌, number, fields, limit}
use Rattle.layout.specs.Parse.{vector_count, checked_by}
use Rattle.layout.proofs.Chain.{Stands, stands_whole, Fit, opening_fits, before_vectors-fits, before_elements-fits, before_ranges-fits, closing_fits}
use Rattle.layout.proofs.ForwardRead.{lowest}
use Rattle.layout.proofs.FaultSteps.{fixed_cut, fixed_differs, fields_fault, count_cut, count_low, count_high, counted_fault}
use Rattle.layout.proofs.FaultSteps.{first_cut, first_filled, id_cut, id_seen, id_judged, key_cut, key_above, key_seen, tick_fault}
use Rattle.layout.proofs.FaultSteps.{tick_cut, tick_above, bound_cut, bound_low, index_fault, index_cut, index_above}
use Rattle.layout.proofs.Table.{map_bytes, vector_bytes, element_bytes, range_bytes, FirstIds, FirstVectors}
use Rattle.layout.proofs.Table.{Refuses, Parted, Differs, NotAbove, Line}
use Rattle.layout.proofs.Table.{fixed_opening, count_r, replica_id_lem, replica_judged, fixed_vectors, count_v, fixed_vector}
use Rattle.layout.proofs.Table.{count_first, count_elements, key, tick, fixed_ranges, count_g, bound, index, fixed_closing}
use Rattle.layout.proofs.FaultPlaces.{opening_fault, id_fault, vectors_fault, first_fault_lem, vector_fault, ranges_fault, range_fault}
use Rattle.layout.proofs.FaultPlaces.{closing_fault, element_fault, vector_count_fault, first_count_fault, first_fixed_fault}
use Rattle.layout.proofs.FaultPlaces.{range_count_fault}

-- both halves of a line by one law: a fault of the part where t stands is the check's
line : (R : Rules) (n : ℕ) (p : List ℕ → List ℕ) (Bad : ℕ → Type 0) (j : ℕ) →
    (Part : List ℕ → ℕ → List ℕ → Type 0) →
    ((t : List ℕ) (i : ℕ) → Part (p t) i t → checked_by R (p t) ≡ Refused i) →
    ((s t : List ℕ) → length t < n → Part s 1 t) →
    ((s : List ℕ) (x : ℕ) (t : List ℕ) → x < 256 ^ n → Bad x → Part s j (put n x t)) →
    Refuses R n p Bad j
line R n p Bad j Part whole cut wrong = record {
  ends = λ t l. whole t 1 (cut (p t) t l);
  bad = λ x t l b. whole (put n x t) j (wrong (p (put n x t)) x t l b);
}

pub all_front : {A : Type 0} (P : A → Type 0) (a b : List A) → All P (a ++ b) → All P a
all_front P [] b h = tt
all_front P (x ∷ a) b h = (h.0, all_front P a b h.1)

-- a run of fixed fields with a fault where t stands
abbrev Fixed : List Field → Field → List Field → List ℕ → ℕ → List ℕ → Type 0
Fixed before f after s i t = (y at : ℕ) → Stands s at (put_fields before t) → fields s (before ++ (f ∷ after)) y at ≡ Fault i

module _ (before : List Field) (f : Field) (after : List Field) (fits : All Fit (before ++ (f ∷ after))) where
  cut_fixed : (s t : List ℕ) → length t < f.size → Fixed before f after s 1 t
  cut_fixed s t l y at h =
      fields_fault s y at before f after t 1 h (all_front Fit before (f ∷ after) fits) λ z b g. fixed_cut s f.size
      f.value z b t g l

  wrong_fixed : (s : List ℕ) (x : ℕ) (t : List ℕ) → x < 256 ^ f.size → Differs f x → Fixed before f after s 2 (put f.size x t)
  wrong_fixed s x t l d y at h =
      fields_fault s y at before f after (put f.size x t) 2 h (all_front Fit before (f ∷ after) fits)
      λ z b g. fixed_differs s f.size f.value z b x t g l d

  -- a line of a fixed field
  fixed_line : (R : Rules) (p : List ℕ → List ℕ) →
      ((t : List ℕ) (i : ℕ) → Fixed before f after (p t) i t → checked_by R (p t) ≡ Refused i) → Refuses R f.size p (Differs f) 2
  fixed_line R p whole = line R f.size p (Differs f) 2 (Fixed before f after) whole cut_fixed wrong_fixed

le_or_lt : (a b : ℕ) → (a ≤ b) ⊎ (b < a)
le_or_lt a b = go (leb a b) refl
  where
    go : (t : Bool) → leb a b ≡ t → (a ≤ b) ⊎ (b < a)
    go true e = inl (leb-true a b e)
    go false e = inr (leb-false a b e)

-- a count within lo and hi with a fault where t stands
abbrev Count : ℕ → ℕ → List ℕ → ℕ → List ℕ → Type 0
Count lo hi s i t = (y at : ℕ) → Stands s at t → (number s 4 y at ▷ limit lo hi) ≡ Fault i

count_line : (R : Rules) (p : List ℕ → List ℕ) (lo hi : ℕ) (Bad : ℕ → Type 0) → ((x : ℕ) → Bad x → (x < lo) ⊎ (hi < x)) →
    ((t : List ℕ) (i : ℕ) → Count lo hi (p t) i t → checked_by R (p t) ≡ Refused i) → Refuses R 4 p Bad 3
count_line R p lo hi Bad beyond whole = line R 4 p Bad 3 (Count lo hi) whole
    (λ s t l y at h. count_cut s lo hi y at t h l)
    λ s x t l b y at h. elim (le_or_lt lo x) [
      | inl above ↦ count_high s lo hi y at x t h l above (elim (beyond x b) [ inl below ↦ absurd (omega arith) | inr high ↦ high ])
      | inr below ↦ count_low s lo hi y at x t h l below
    ]

-- the least bound that may follow is one more than the bound before
pub lowest_last : (low : ℕ) (xs : List Range) → 1 ≤ length xs → lowest low xs ≡ suc (get_or (bounds xs) (length xs - 1) 0)
unfolding bounds
lowest_last low [] h = absurd (omega arith)
lowest_last low (x ∷ []) h = refl
lowest_last low (x ∷ (y ∷ ys)) h =
    lowest_last (suc x.bound) (y ∷ ys) (omega arith) ∙ sym (ap (λ i. suc (get_or (x.bound ∷ bounds (y ∷ ys)) i 0)) place)
  where
    place : suc (suc (length ys)) - 1 ≡ suc (suc (length ys) - 1)
    place = omega arith

lowest_above : (xs : List Range) (x : ℕ) → NotAbove xs x → x < lowest 0 xs
lowest_above xs x h = omega (arith, lowest_last 0 xs h.0, h.1)

pub lowest_fits : (xs : List Range) (x : ℕ) → (NotAbove xs x → ⊥) → lowest 0 xs ≤ x
lowest_fits [] x n = omega arith
lowest_fits (y ∷ ys) x n = elim (le_or_lt (lowest 0 (y ∷ ys)) x) [
  | inl l ↦ l
  | inr l ↦ absurd (n (omega arith, omega (arith, lowest_last 0 (y ∷ ys) (omega arith))))
]

keys_count : (es : List Element) → length (keys es) ≡ length es
unfolding keys
keys_count [] = refl
keys_count (x ∷ xs) = ap suc (keys_count xs)

pub keys_length : (es : List Element) {j : ℕ} → j < length (keys es) → j < length es
keys_length es {j} h = omega (arith, keys_count es)

pub keys_less : (es : List Element) {j : ℕ} → j < length es → j < length (keys es)
keys_less es {j} h = omega (arith, keys_count es)

module _ (R : Rules) (permitted : Permitted R.limits) where
  -- fixed fields and a count after them, in front of t
  counted : (s : List ℕ) (fs : List Field) (lo hi i : ℕ) (y at : ℕ) → fields s fs y at ≡ Fault i →
      (fields s fs y at ▷ number s 4 ▷ limit lo hi) ≡ Fault i
  counted s fs lo hi i y at e = rw e

  few : (ids : List ℕ) → FirstIds R (length ids) ids → length ids < 4294967296
  few ids l = omega (arith, l.most, permitted.replicas)

  vector_fixed : (ids : List ℕ) (v : ℕ) (vs : List (List Element)) → FirstIds R (length ids) ids →
      FirstVectors R (length ids) v vs → length vs < v →
      (before : List Field) (f : Field) (after : List Field) → Parted before_elements before f after →
      (t : List ℕ) (i : ℕ) → Fixed before f after (vector_bytes ids v vs (put_fields before t)) i t →
      checked_by R (vector_bytes ids v vs (put_fields before t)) ≡ Refused i
  vector_fixed ids v [] l w c before f after e t i fault =
      let s = vector_bytes ids v [] (put_fields before t) in
      first_fault_lem R permitted s ids v (put_fields before t) i (stands_whole s) l w λ b h.
      first_fixed_fault s 0 b i (ap (λ fs. fields s fs 0 b) e ∙ fault 0 b h)
  vector_fixed ids v (es ∷ vs) l w c before f after e t i fault =
      let s = vector_bytes ids v (es ∷ vs) (put_fields before t) in
      vector_fault R permitted s ids v (es ∷ vs) (put_fields before t) i (stands_whole s) l w (omega arith) c λ n b h.
      vector_count_fault s (length ids) n b i
      (counted s before_elements 0 (length ids) i n b (ap (λ fs. fields s fs n b) e ∙ fault n b h))

  vector_count-counted : (s : List ℕ) (at i : ℕ) →
      (fields s before_vectors 0 at ▷ number s 4 ▷ limit 1 (R.limits.ranges + 1)) ≡ Fault i → vector_count R.limits.ranges s at ≡ Fault i
  unfolding vector_count
  vector_count-counted s at i e = e

  pub numbers_exact : {n : ℕ} {p : List ℕ → List ℕ} {Bad : ℕ → Type 0} {j : ℕ} → Line R n p Bad j → Refuses R n p Bad j
  numbers_exact (fixed_opening before f after e) =
      fixed_line before f after (subst (All Fit) e opening_fits) R (put_fields before) λ t i fault.
      let s = put_fields before t in
      opening_fault R permitted s i
      (counted s opening 0 R.limits.replicas i 0 0 (ap (λ fs. fields s fs 0 0) e ∙ fault 0 0 (stands_whole s)))
  numbers_exact count_r =
      count_line R (put_fields opening) 0 R.limits.replicas (λ x. R.limits.replicas < x) (λ x b. inr b) λ t i fault.
      let s = put_fields opening t in
      opening_fault R permitted s i (counted_fault s opening 0 R.limits.replicas 0 0 t i (stands_whole s) opening_fits fault)
  numbers_exact (replica_id_lem r ids l c) = record {
    ends = λ t short.
        id_fault R permitted (map_bytes r ids t) r ids t 1 (stands_whole (map_bytes r ids t)) l c λ start b g h.
        id_cut R (map_bytes r ids t) start (length ids) b t h short;
    bad = λ x t small seen.
        let s = map_bytes r ids (put 16 x t) in
        id_fault R permitted s r ids (put 16 x t) 5 (stands_whole s) l c λ start b g h.
        id_seen R s start b ids x seen.0 t g h l.lawful small seen.1 seen.2;
  }
  numbers_exact (replica_judged r ids l c n) = record {
    ends = λ t short.
        id_fault R permitted (map_bytes r ids t) r ids t 1 (stands_whole (map_bytes r ids t)) l c λ start b g h.
        id_cut R (map_bytes r ids t) start (length ids) b t h short;
    bad = λ x t small new.
        let s = map_bytes r ids (put 16 x t) in
        id_fault R permitted s r ids (put 16 x t) (suc n) (stands_whole s) l c λ start b g h.
        id_judged R s start b ids x n t g h l.lawful small (λ j less same. new.0 (j, less, same)) new.1;
  }
  numbers_exact (fixed_vectors ids l before f after e) =
      fixed_line before f after (subst (All Fit) e before_vectors-fits) R
      (λ t. map_bytes (length ids) ids (put_fields before t)) λ t i fault.
      let s = map_bytes (length ids) ids (put_fields before t) in
      vectors_fault R permitted s ids (put_fields before t) i (stands_whole s) l λ b h.
      vector_count-counted s b i (counted s before_vectors 1 (R.limits.ranges + 1) i 0 b (ap (λ fs. fields s fs 0 b) e ∙ fault 0 b h))
  numbers_exact (count_v ids l) =
      count_line R (λ t. map_bytes (length ids) ids (put_fields before_vectors t)) 1 (R.limits.ranges + 1)
      (λ x. (x < 1) ⊎ (R.limits.ranges + 1 < x)) (λ x b. b) λ t i fault.
      let s = map_bytes (length ids) ids (put_fields before_vectors t) in
      vectors_fault R permitted s ids (put_fields before_vectors t) i (stands_whole s) l λ b h.
      vector_count-counted s b i (counted_fault s before_vectors 1 (R.limits.ranges + 1) 0 b t i h before_vectors-fits fault)
  numbers_exact (fixed_vector ids v vs l w c before f after e) =
      fixed_line before f after (subst (All Fit) e before_elements-fits) R (λ t. vector_bytes ids v vs (put_fields before t))
      (vector_fixed ids v vs l w c before f after e)
  numbers_exact (count_first ids v l w) = record {
    ends = λ t short.
        let s = vector_bytes ids v [] (put_fields before_elements t) in
        first_fault_lem R permitted s ids v (put_fields before_elements t) 1 (stands_whole s) l w λ b h.
        first_count_fault s 0 b t 1 h λ z a g. first_cut s z a t g short;
    bad = λ x t small some.
        let s = vector_bytes ids v [] (put_fields before_elements (put 4 x t)) in
        first_fault_lem R permitted s ids v (put_fields before_elements (put 4 x t)) 4 (stands_whole s) l w λ b h.
        first_count_fault s 0 b (put 4 x t) 4 h λ z a g. first_filled s z a x t g small some;
  }
  numbers_exact (count_elements ids v vs l w some c) =
      count_line R (λ t. vector_bytes ids v vs (put_fields before_elements t)) 0 (length ids) (λ x. length ids < x)
      (λ x b. inr b) λ t i fault.
      let s = vector_bytes ids v vs (put_fields before_elements t) in
      vector_fault R permitted s ids v vs (put_fields before_elements t) i (stands_whole s) l w some c λ n b h.
      vector_count_fault s (length ids) n b i (counted_fault s before_elements 0 (length ids) n b t i h before_elements-fits fault)
  numbers_exact (key ids v vs n es l w some c m d) = record {
    ends = λ t short.
        let s = vector_bytes ids v vs (element_bytes n es t) in
        vector_fault R permitted s ids v vs (element_bytes n es t) 1 (stands_whole s) l w some c λ e b h.
        element_fault s (length ids) e b n es t 1 (few ids l) h m d λ start a u g.
        key_cut s (length ids) start (length es) a t g short;
    bad = λ x t small wrong.
        let s = vector_bytes ids v vs (element_bytes n es (put 4 x t)) in
        vector_fault R permitted s ids v vs (element_bytes n es (put 4 x t)) 6 (stands_whole s) l w some c λ e b h.
        element_fault s (length ids) e b n es (put 4 x t) 6 (few ids l) h m d λ start a u g.
        elim (le_or_lt (length ids) x) [
          | inl above ↦ key_above s (length ids) start (length es) a x t g small above
          | inr below ↦ elim wrong [
            | inl above ↦ key_above s (length ids) start (length es) a x t g small above
            | inr seen ↦
                key_seen s (length ids) start a es x seen.0 t (omega (arith, few ids l)) u g m.elements below
                (keys_length es seen.1) seen.2
          ]
        ];
  }
  numbers_exact (tick ids v vs n es x l w some c m d below new) = record {
    ends = λ t short.
        let s = vector_bytes ids v vs (element_bytes n es (put 4 x t)) in
        vector_fault R permitted s ids v vs (element_bytes n es (put 4 x t)) 1 (stands_whole s) l w some c λ e b h.
        element_fault s (length ids) e b n es (put 4 x t) 1 (few ids l) h m d λ start a u g.
        tick_fault s (length ids) start a es x t 1 (omega (arith, few ids l)) u g m.elements below
        (λ j less same. new (j, keys_less es less, same)) λ a' g'. tick_cut s (length es) a' t g' short;
    bad = λ y t small above.
        let s = vector_bytes ids v vs (element_bytes n es (put 4 x (put 8 y t))) in
        vector_fault R permitted s ids v vs (element_bytes n es (put 4 x (put 8 y t))) 7 (stands_whole s) l w some c λ e b h.
        element_fault s (length ids) e b n es (put 4 x (put 8 y t)) 7 (few ids l) h m d λ start a u g.
        tick_fault s (length ids) start a es x (put 8 y t) 7 (omega (arith, few ids l)) u g m.elements below
        (λ j less same. new (j, keys_less es less, same)) λ a' g'. tick_above s (length es) a' y t g' small above;
  }
  numbers_exact (fixed_ranges ids vs l w before f after e) =
      fixed_line before f after (subst (All Fit) e before_ranges-fits) R
      (λ t. vector_bytes ids (length vs) vs (put_fields before t)) λ t i fault.
      let s = vector_bytes ids (length vs) vs (put_fields before t) in
      ranges_fault R permitted s ids vs (put_fields before t) i (stands_whole s) l w λ b h.
      range_count_fault R permitted s (length vs) b i
      (counted s before_ranges 1 R.limits.ranges i 0 b (ap (λ fs. fields s fs 0 b) e ∙ fault 0 b h))
  numbers_exact (count_g ids vs l w) =
      count_line R (λ t. vector_bytes ids (length vs) vs (put_fields before_ranges t)) 1 R.limits.ranges
      (λ x. (x < 1) ⊎ (R.limits.ranges < x)) (λ x b. b) λ t i fault.
      let s = vector_bytes ids (length vs) vs (put_fields before_ranges t) in
      ranges_fault R permitted s ids vs (put_fields before_ranges t) i (stands_whole s) l w λ b h.
      range_count_fault R permitted s (length vs) b i
      (counted_fault s before_ranges 1 R.limits.ranges 0 b t i h before_ranges-fits fault)
  numbers_exact (bound ids vs g xs l w o c) = record {
    ends = λ t short.
        let s = range_bytes ids vs g xs t in
        range_fault R permitted s ids vs g xs t 1 (stands_whole s) l w o c λ b h. bound_cut s (length vs) (lowest 0 xs) b t h short;
    bad = λ x t small low.
        let s = range_bytes ids vs g xs (put 24 x t) in
        range_fault R permitted s ids vs g xs (put 24 x t) 8 (stands_whole s) l w o c λ b h.
        bound_low s (length vs) (lowest 0 xs) b x t h small (lowest_above xs x low);
  }
  numbers_exact (index ids vs g xs x l w o c small above) = record {
    ends = λ t short.
        let s = range_bytes ids vs g xs (put 24 x t) in
        range_fault R permitted s ids vs g xs (put 24 x t) 1 (stands_whole s) l w o c λ b h.
        index_fault s (length vs) (lowest 0 xs) b x t 1 h small (lowest_fits xs x above) λ a u.
        index_cut s (length vs) (suc x) a t u short;
    bad = λ i t less high.
        let s = range_bytes ids vs g xs (put 24 x (put 4 i t)) in
        range_fault R permitted s ids vs g xs (put 24 x (put 4 i t)) 9 (stands_whole s) l w o c λ b h.
        index_fault s (length vs) (lowest 0 xs) b x (put 4 i t) 9 h small (lowest_fits xs x above) λ a u.
        index_above s (length vs) (suc x) a i t u less high;
  }
  numbers_exact (fixed_closing ids vs xs l w o before f after e) =
      fixed_line before f after (subst (All Fit) e closing_fits) R
      (λ t. range_bytes ids vs (length xs) xs (put_fields before t)) λ t i fault.
      let s = range_bytes ids vs (length xs) xs (put_fields before t) in
      closing_fault R permitted s ids vs xs (put_fields before t) i (stands_whole s) l w o λ b h.
      ap (λ fs. fields s fs 0 b) e ∙ fault 0 b h
