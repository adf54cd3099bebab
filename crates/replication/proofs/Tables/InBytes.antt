-- Records in bytes, read by places. A table's bytes are read exactly where whole records stand there to the very end, and then as the
-- values at their places. The code's check of a table is two passes: the first, which goes from record to record, is shown to be the
-- test that records stand to the very end and rise, each valid; the second asks a property of each record. All of it holds step by step
-- along the records: the tests of one record are the same and stand in another order only, and `both` may be put in any order.
use Prim.Native.Nat.{ℕ, zero, suc, ◌≤◌, ◌<◌}
use mathlib.Core.Path.{◌≡◌, refl, sym, ap, ap₂, ◌∙◌}
use mathlib.Core.Bool.{Bool, true, false}
use mathlib.Core.List.{List, [], ◌∷◌}
use mathlib.Core.Option.{Option, none, some}
use native.Mathlib.Omega.{arith}
use lib.Dec.{leb, eqb}
use lib.ListN.{length}
use borrow.Author.Tests.{le-leb, lt-leb, eq-eqb, ne_eqb, eqb-true, eqb-false}
use Rattle.replication.specs.Record.{Rec}
use Rattle.replication.specs.Reading.{behind, rec_at, both, whole, front, recs_at, valid_rec, valid_recs}
use Rattle.replication.specs.MethodRecords.{only_if, any_rec, each, records_at, fits_at, shaped_at, WholeAt}
use Rattle.replication.proofs.Bytes.Record.{whole_back, recs_end, recs_more, recs_stop, front_some, end_back}
use Rattle.replication.proofs.Tables.Rising.{both_parts}

-- ---- clauses

module _ {A : Type 0} (x : A) where
  pub only_true : only_if true x ≡ some x
  unfolding only_if
  only_true = refl

  pub only_false : only_if false x ≡ none
  unfolding only_if
  only_false = refl

pub any_rec_lem : (r : Rec) → any_rec r ≡ true
unfolding any_rec
any_rec_lem r = refl

module _ (P : Rec → Bool) where
  pub each_nil : each P [] ≡ true
  unfolding each
  each_nil = refl

  pub each-cons : (r : Rec) (rs : List Rec) → each P (r ∷ rs) ≡ both (P r) (each P rs)
  unfolding each
  each-cons r rs = refl

  pub each_on : (r : Rec) (rs : List Rec) → P r ≡ true → each P (r ∷ rs) ≡ each P rs
  each_on r rs h = each-cons r rs ∙ ap (λ (t : Bool). both t (each P rs)) h

  pub each_stop : (r : Rec) (rs : List Rec) → P r ≡ false → each P (r ∷ rs) ≡ false
  each_stop r rs h = each-cons r rs ∙ ap (λ (t : Bool). both t (each P rs)) h

  pub valid-nil : (lo : ℕ) → valid_recs P lo [] ≡ true
  unfolding valid_recs
  valid-nil lo = refl

  pub valid-cons : (lo : ℕ) (r : Rec) (rs : List Rec) →
      valid_recs P lo (r ∷ rs) ≡ both (leb lo r.item) (both (valid_rec r) (both (P r) (valid_recs P (suc r.item) rs)))
  unfolding valid_recs
  valid-cons lo r rs = refl

module _ (s : List ℕ) where
  pub records-nil : (at : ℕ) → records_at s 0 at ≡ []
  unfolding records_at
  records-nil at = refl

  pub records-cons : (n at : ℕ) → records_at s (suc n) at ≡ rec_at s at ∷ records_at s n (behind s at)
  unfolding records_at
  records-cons n at = refl

  pub fits-nil : (at : ℕ) → fits_at s 0 at ≡ eqb at (length s)
  unfolding fits_at
  fits-nil at = refl

  pub fits-cons : (n at : ℕ) → fits_at s (suc n) at ≡ both (whole s at) (fits_at s n (behind s at))
  unfolding fits_at
  fits-cons n at = refl

  pub shaped_nil : (lo at : ℕ) → shaped_at s lo 0 at ≡ eqb at (length s)
  unfolding shaped_at
  shaped_nil lo at = refl

  pub shaped_cons : (lo n at : ℕ) →
      shaped_at s lo (suc n) at ≡
      both (whole s at) (both (leb lo (rec_at s at).item) (both (valid_rec (rec_at s at)) (shaped_at s (suc (rec_at s at).item) n (behind s at))))
  unfolding shaped_at
  shaped_cons lo n at = refl

-- ---- the clauses by what a test says

module _ (s : List ℕ) where
  pub fits_end : (at : ℕ) → at ≡ length s → fits_at s 0 at ≡ true
  fits_end at e = fits-nil s at ∙ eq-eqb at (length s) e

  pub fits_over : (at : ℕ) → (at ≡ length s → ⊥) → fits_at s 0 at ≡ false
  fits_over at n = fits-nil s at ∙ ne_eqb at (length s) n

  pub fits_on : (n at : ℕ) → whole s at ≡ true → fits_at s (suc n) at ≡ fits_at s n (behind s at)
  fits_on n at w = fits-cons s n at ∙ ap (λ (t : Bool). both t (fits_at s n (behind s at))) w

  pub fits_stop : (n at : ℕ) → whole s at ≡ false → fits_at s (suc n) at ≡ false
  fits_stop n at w = fits-cons s n at ∙ ap (λ (t : Bool). both t (fits_at s n (behind s at))) w

module _ (s : List ℕ) (lo : ℕ) where
  pub shaped_end : (at : ℕ) → at ≡ length s → shaped_at s lo 0 at ≡ true
  shaped_end at e = shaped_nil s lo at ∙ eq-eqb at (length s) e

  module _ (n at : ℕ) where
    by_tests : (w l v : Bool) → whole s at ≡ w → leb lo (rec_at s at).item ≡ l → valid_rec (rec_at s at) ≡ v →
        shaped_at s lo (suc n) at ≡ both w (both l (both v (shaped_at s (suc (rec_at s at).item) n (behind s at))))
    by_tests w l v d e f = shaped_cons s lo n at ∙ rw (d, e, f)

    pub shaped_on : whole s at ≡ true → lo ≤ (rec_at s at).item → valid_rec (rec_at s at) ≡ true →
        shaped_at s lo (suc n) at ≡ shaped_at s (suc (rec_at s at).item) n (behind s at)
    shaped_on w l v = by_tests true true true w (le-leb lo (rec_at s at).item l) v

    -- no whole record, a record out of order, a record that is not valid
    pub shaped_stop : whole s at ≡ false → shaped_at s lo (suc n) at ≡ false
    shaped_stop w = by_tests false _ _ w refl refl

    pub shaped_low : whole s at ≡ true → (rec_at s at).item < lo → shaped_at s lo (suc n) at ≡ false
    shaped_low w l = by_tests true false _ w (lt-leb lo (rec_at s at).item l) refl

    pub shaped_invalid : whole s at ≡ true → lo ≤ (rec_at s at).item → valid_rec (rec_at s at) ≡ false → shaped_at s lo (suc n) at ≡ false
    shaped_invalid w l v = by_tests true true false w (le-leb lo (rec_at s at).item l) v

-- ---- a whole record, with a bound for each field

pub whole_at : (s : List ℕ) (at : ℕ) → whole s at ≡ true → WholeAt s at
whole_at s at e =
    let w = whole_back s at e in
    record {
      kind = w.kind;
      first = omega (arith, w.later, w.inside);
      item = omega (arith, w.size, w.inside);
      change_replica = omega (arith, w.size, w.inside);
      change_tick = omega (arith, w.size, w.inside);
      create_replica = omega (arith, w.size, w.inside);
      create_tick = omega (arith, w.size, w.inside);
      tag = omega (arith, w.size, w.inside);
      ends = omega (arith, w.size);
      later = w.later;
      inside = w.inside;
    }

-- ---- what is read

-- the table does not end with the bytes: nothing is read
recs_over : (s : List ℕ) (at : ℕ) → (at ≡ length s → ⊥) → recs_at s 0 at ≡ none
recs_over s at n = go (recs_at s 0 at) refl
  where
    go : (o : Option (List Rec)) → recs_at s 0 at ≡ o → recs_at s 0 at ≡ none
    go none e = e
    go (some rs) e = absurd (n (end_back s at rs e).1)

front_none : (r : Rec) → front r none ≡ none
unfolding front
front_none r = refl

front_only : (r : Rec) (t : Bool) (rs : List Rec) → front r (only_if t rs) ≡ only_if t (r ∷ rs)
front_only r true rs = ap (front r) (only_true rs) ∙ front_some r rs ∙ sym (only_true (r ∷ rs))
front_only r false rs = ap (front r) (only_false rs) ∙ front_none r ∙ sym (only_false (r ∷ rs))

only_if_lem : (t u : Bool) (rs qs : List Rec) → t ≡ u → rs ≡ qs → only_if t rs ≡ only_if u qs
only_if_lem t u rs qs e f = ap₂ {C = Option (List Rec)} (λ (x : Bool) (l : List Rec). only_if x l) e f

-- records are read exactly where whole ones stand to the very end, and then as the values at their places
pub recs_fit : (s : List ℕ) (n at : ℕ) → recs_at s n at ≡ only_if (fits_at s n at) (records_at s n at)
recs_fit s zero at = go (eqb at (length s)) refl
  where
    go : (t : Bool) → eqb at (length s) ≡ t → recs_at s 0 at ≡ only_if (fits_at s 0 at) (records_at s 0 at)
    go true e =
        let k = eqb-true at (length s) e in
        recs_end s at k ∙ sym (only_if_lem (fits_at s 0 at) true (records_at s 0 at) [] (fits_end s at k) (records-nil s at) ∙ only_true [])
    go false e =
        let k = eqb-false at (length s) e in
        recs_over s at k ∙ sym (only_if_lem (fits_at s 0 at) false (records_at s 0 at) [] (fits_over s at k) (records-nil s at) ∙ only_false [])
recs_fit s (suc n) at = go (whole s at) refl (recs_fit s n (behind s at))
  where
    go : (t : Bool) → whole s at ≡ t → recs_at s n (behind s at) ≡ only_if (fits_at s n (behind s at)) (records_at s n (behind s at)) →
        recs_at s (suc n) at ≡ only_if (fits_at s (suc n) at) (records_at s (suc n) at)
    go true w i =
        recs_more s n at w
        ∙ (ap (front (rec_at s at)) i
        ∙ (front_only (rec_at s at) (fits_at s n (behind s at)) (records_at s n (behind s at))
        ∙ sym (only_if_lem (fits_at s (suc n) at) _ (records_at s (suc n) at) _ (fits_on s n at w) (records-cons s n at))))
    go false w i =
        recs_stop s n at w
        ∙ sym (only_if_lem (fits_at s (suc n) at) false (records_at s (suc n) at) _ (fits_stop s n at w) refl ∙ only_false (records_at s (suc n) at))

module _ (s : List ℕ) (n at : ℕ) where
  pub recs_fits : fits_at s n at ≡ true → recs_at s n at ≡ some (records_at s n at)
  recs_fits e = recs_fit s n at ∙ (only_if_lem (fits_at s n at) true _ _ e refl ∙ only_true (records_at s n at))

-- ---- a table's check is two passes

split_order : (l v p t e : Bool) → both l (both v (both p (both t e))) ≡ both (both l (both v (both true t))) (both p e)
split_order false v p t e = refl
split_order true false p t e = refl
split_order true true true t e = refl
split_order true true false true e = refl
split_order true true false false e = refl

-- the test with a property is the test with none, and then the property of each record
pub valid_split : (P : Rec → Bool) (lo : ℕ) (rs : List Rec) → valid_recs P lo rs ≡ both (valid_recs any_rec lo rs) (each P rs)
valid_split P lo [] = valid-nil P lo ∙ sym (ap₂ {C = Bool} both (valid-nil any_rec lo) (each_nil P))
valid_split P lo (r ∷ rs) =
    let t = valid_recs any_rec (suc r.item) rs in
    let c : valid_recs any_rec lo (r ∷ rs) ≡ both (leb lo r.item) (both (valid_rec r) (both true t)) =
    valid-cons any_rec lo r rs ∙ ap (λ (x : Bool). both (leb lo r.item) (both (valid_rec r) (both x t))) (any_rec_lem r) in
    valid-cons P lo r rs
    ∙ (ap (λ (x : Bool). both (leb lo r.item) (both (valid_rec r) (both (P r) x))) (valid_split P (suc r.item) rs)
    ∙ (split_order (leb lo r.item) (valid_rec r) (P r) t (each P rs)
    ∙ sym (ap₂ {C = Bool} both c (each-cons P r rs))))

shaped_order : (w l v f t : Bool) → both w (both l (both v (both f t))) ≡ both (both w f) (both l (both v (both true t)))
shaped_order false l v f t = refl
shaped_order true false v true t = refl
shaped_order true false v false t = refl
shaped_order true true false true t = refl
shaped_order true true false false t = refl
shaped_order true true true true t = refl
shaped_order true true true false t = refl

both_true : (b : Bool) → b ≡ both b true
both_true true = refl
both_true false = refl

-- the first pass: whole records to the very end, that rise and are valid
pub shaped_is : (s : List ℕ) (lo n at : ℕ) → shaped_at s lo n at ≡ both (fits_at s n at) (valid_recs any_rec lo (records_at s n at))
shaped_is s lo zero at =
    shaped_nil s lo at
    ∙ (both_true (eqb at (length s))
    ∙ sym (ap₂ {C = Bool} both (fits-nil s at) (ap (valid_recs any_rec lo) (records-nil s at) ∙ valid-nil any_rec lo)))
shaped_is s lo (suc n) at =
    let r = rec_at s at in
    let b = behind s at in
    let t = valid_recs any_rec (suc r.item) (records_at s n b) in
    let c : valid_recs any_rec lo (records_at s (suc n) at) ≡ both (leb lo r.item) (both (valid_rec r) (both true t)) =
    ap (valid_recs any_rec lo) (records-cons s n at)
    ∙ (valid-cons any_rec lo r (records_at s n b) ∙ ap (λ (x : Bool). both (leb lo r.item) (both (valid_rec r) (both x t))) (any_rec_lem r)) in
    shaped_cons s lo n at
    ∙ (ap (λ (x : Bool). both (whole s at) (both (leb lo r.item) (both (valid_rec r) x))) (shaped_is s (suc r.item) n b)
    ∙ (shaped_order (whole s at) (leb lo r.item) (valid_rec r) (fits_at s n b) t
    ∙ sym (ap₂ {C = Bool} both (fits-cons s n at) c)))

-- what the first pass finds
pub shaped_parts : (s : List ℕ) (lo n at : ℕ) → shaped_at s lo n at ≡ true →
    (fits_at s n at ≡ true) × (valid_recs any_rec lo (records_at s n at) ≡ true)
shaped_parts s lo n at e = both_parts (fits_at s n at) (valid_recs any_rec lo (records_at s n at)) (sym (shaped_is s lo n at) ∙ e)
