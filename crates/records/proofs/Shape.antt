-- The check of a table's records, one after the other. A record is valid by tests of its ticks and tag, which are read at their places. The
-- whole check is the check of the records that are left, with the item above the last one as the lower bound: a record that passes
-- takes one step, one that does not ends it, and with none left the place is the end of the bytes, as their length is right.
use Prim.Native.Nat.{ℕ, suc, ◌+◌, ◌-◌, ◌*◌, ◌^◌, ◌≤◌, ◌<◌}
use mathlib.Core.Path.{◌≡◌, refl, sym, ap, ap₂, ◌∙◌}
use mathlib.Core.Bool.{Bool, true, false}
use mathlib.Core.List.{List}
use native.Mathlib.Omega.{arith}
use lib.Dec.{eqb, ltb, leb}
use lib.ListN.{length, get_or}
use borrow.Author.Tests.{le-leb, lt-leb, eq-eqb, ne_eqb, ltb-true, ltb-false, leb-true, leb-false}
use Rattle.codec.specs.Number.{be_at}
use Rattle.codec.proofs.Reading.{be_one}
use Rattle.codec.specs.Words.{words2}
use Rattle.codec.specs.Ids.{item_of}
use Rattle.codec.specs.declared.Item.{Item}
use Rattle.std.specs.Prelude as R
use Rattle.layout.specs.Knowledge.{largest_tick}
use Rattle.replication.specs.Record.{Content, Rec}
use Rattle.replication.specs.Reading.{item_place, change_tick_place, create_tick_place, tag_place, rec_at, both, whole, tag_kept, valid_rec}
use Rattle.replication.specs.MethodRecords.{shaped_at}
use Rattle.replication.proofs.Tables.InBytes.{shaped_end, shaped_on, shaped_stop, shaped_low, shaped_invalid}
use Rattle.replication.specs.Queries.{length_at}
use Rattle.records.specs.Method.{common_length, least}
use Rattle.records.proofs.Fields.{length-ends, length_stands, length-behind, pair_read, item_at, change_tick_at, create_tick_at, tag_at, deleted_at}

-- ---- the tag

kept_dead : (c : Content) → c.deleted ≡ true → tag_kept c ≡ eqb c.tag 0
unfolding tag_kept
kept_dead c e = rw (e, tag_kept)

kept_live : (c : Content) → c.deleted ≡ false → tag_kept c ≡ true
unfolding tag_kept
kept_live c e = rw (e, tag_kept)

pair_low : (x y : ℕ) → x ≡ 0 → eqb y 0 ≡ eqb (words2 x y) 0
unfolding words2
pair_low x y e = ap (λ (n : ℕ). eqb n 0) (omega (arith, e))

pair_high : (x y : ℕ) → (x ≡ 0 → ⊥) → eqb x 0 ≡ eqb (words2 x y) 0
unfolding words2
pair_high x y n = ne_eqb x 0 n ∙ sym (ne_eqb (x * 2 ^ 64 + y) 0 (λ e. n (omega (arith, e))))

module _ (s : List ℕ) (at kind : ℕ) (e : kind ≡ get_or s at 0) where
  kind_at : kind ≡ be_at s 1 at
  kind_at = e ∙ sym (be_one s at)

  pub tag_live : (kind ≡ 2 → ⊥) → true ≡ tag_kept (rec_at s at).content
  tag_live n = sym (kept_live (rec_at s at).content (deleted_at s at ∙ ne_eqb (be_at s 1 at) 2 (λ h. n (kind_at ∙ h))))

  module _ (f : kind ≡ 2) (t0 t1 : ℕ) (a : t0 ≡ be_at s 8 (at + tag_place)) (b : t1 ≡ be_at s 8 (at + tag_place + 8)) where
    tag_dead : eqb (words2 t0 t1) 0 ≡ tag_kept (rec_at s at).content
    tag_dead =
        ap (λ (n : ℕ). eqb n 0) (pair_read s (at + tag_place) t0 t1 a b ∙ sym (tag_at s at))
        ∙ sym (kept_dead (rec_at s at).content (deleted_at s at ∙ eq-eqb (be_at s 1 at) 2 (sym kind_at ∙ f)))

    pub tag_low : t0 ≡ 0 → eqb t1 0 ≡ tag_kept (rec_at s at).content
    tag_low z = pair_low t0 t1 z ∙ tag_dead

    pub tag_high : (t0 ≡ 0 → ⊥) → eqb t0 0 ≡ tag_kept (rec_at s at).content
    tag_high n = pair_high t0 t1 n ∙ tag_dead

-- ---- one record

valid_is : (r : Rec) →
    valid_rec r ≡
    both (leb 1 r.create_tick) (both (leb r.create_tick r.change_tick) (both (leb r.change_tick largest_tick) (tag_kept r.content)))
unfolding valid_rec
valid_is r = refl

valid_by : (r : Rec) (a b c d : Bool) → leb 1 r.create_tick ≡ a → leb r.create_tick r.change_tick ≡ b →
    leb r.change_tick largest_tick ≡ c → tag_kept r.content ≡ d → valid_rec r ≡ both a (both b (both c d))
valid_by r a b c d h i j k = valid_is r ∙ rw (h, i, j, k)

module _ (s : List ℕ) (at create change : ℕ) (e : create ≡ be_at s 8 (at + create_tick_place)) (f : change ≡ be_at s 8 (at + change_tick_place)) where
  created : create ≡ (rec_at s at).create_tick
  created = e ∙ sym (create_tick_at s at)

  changed : change ≡ (rec_at s at).change_tick
  changed = f ∙ sym (change_tick_at s at)

  pub valid-zero : create < 1 → false ≡ valid_rec (rec_at s at)
  valid-zero l =
      sym (valid_by (rec_at s at) false _ _ _ (lt-leb 1 (rec_at s at).create_tick (omega (arith, created))) refl refl refl)

  module _ (l : 1 ≤ create) where
    first : leb 1 (rec_at s at).create_tick ≡ true
    first = le-leb 1 (rec_at s at).create_tick (omega (arith, created))

    pub valid_later : change < create → false ≡ valid_rec (rec_at s at)
    valid_later m =
        sym (valid_by (rec_at s at) true false _ _ first
        (lt-leb (rec_at s at).create_tick (rec_at s at).change_tick (omega (arith, created, changed))) refl refl)

    module _ (m : create ≤ change) where
      second : leb (rec_at s at).create_tick (rec_at s at).change_tick ≡ true
      second = le-leb (rec_at s at).create_tick (rec_at s at).change_tick (omega (arith, created, changed))

      pub valid_large : largest_tick < change → false ≡ valid_rec (rec_at s at)
      valid_large k =
          sym (valid_by (rec_at s at) true true false _ first second (lt-leb (rec_at s at).change_tick largest_tick (omega (arith, changed))) refl)

      pub valid_tag : change ≤ largest_tick → (r : Bool) → r ≡ tag_kept (rec_at s at).content → r ≡ valid_rec (rec_at s at)
      valid_tag k r h =
          sym (valid_by (rec_at s at) true true true r first second
          (le-leb (rec_at s at).change_tick largest_tick (omega (arith, changed))) (sym h))

-- ---- the lower bound

least_some : (i : Item) → least (R.Some i) ≡ suc (item_of i)
unfolding least
least_some i = refl

least_none : least R.None ≡ 0
unfolding least
least_none = refl

above : (x y : ℕ) → ltb x y ≡ leb (suc x) y
above x y = go (ltb x y) refl
  where
    go : (t : Bool) → ltb x y ≡ t → ltb x y ≡ leb (suc x) y
    go true e = let l = ltb-true x y e in e ∙ sym (le-leb (suc x) y (omega arith))
    go false e = let l = ltb-false x y e in e ∙ sym (lt-leb (suc x) y (omega arith))

pub rises_above : (last : R.Option Item) (l : Item) (x : ℕ) → last ≡ R.Some l → (r : Bool) → r ≡ ltb (item_of l) x → r ≡ leb (least last) x
rises_above last l x e r h =
    h ∙ (above (item_of l) x ∙ ap (λ (n : ℕ). leb n x) (sym (ap least e ∙ least_some l)))

pub rises_first : (last : R.Option Item) (x : ℕ) → last ≡ R.None → true ≡ leb (least last) x
rises_first last x e = sym (le-leb (least last) x (omega (arith, ap least e ∙ least_none)))

-- ---- the records one after the other

pub shape_all : (s : List ℕ) (n at p left : ℕ) → p ≡ at → left ≡ n → shaped_at s 0 n at ≡ shaped_at s (least R.None) left p
shape_all s n at p left e f = rw (e, f, least_none) refl

module _ (s : List ℕ) (n first lo left at : ℕ) (inv : shaped_at s 0 n first ≡ shaped_at s lo left at) where
  pub shape_end : left ≤ 0 → at + common_length * left ≡ length s → true ≡ shaped_at s 0 n first
  shape_end l room =
      let z : left ≡ 0 = omega arith in
      sym (inv ∙ (ap (λ (k : ℕ). shaped_at s lo k at) z ∙ shaped_end s lo at (omega arith)))

  module _ (took : 0 < left) (m : ℕ) (e : m ≡ length_at s at) where
    one : shaped_at s 0 n first ≡ shaped_at s lo (suc (left - 1)) at
    one = let z : left ≡ suc (left - 1) = omega arith in inv ∙ ap (λ (k : ℕ). shaped_at s lo k at) z

    pub shape_stop : m ≡ 0 → false ≡ shaped_at s 0 n first
    shape_stop z = sym (one ∙ shaped_stop s lo (left - 1) at (length-ends s at m e z))

    module _ (z : m ≡ 0 → ⊥) (i : Item) (g : item_of i ≡ be_at s 24 (at + item_place)) (r : Bool)
        (h : r ≡ leb lo (item_of i)) where
      stands : whole s at ≡ true
      stands = length_stands s at m e z

      item_is : item_of i ≡ (rec_at s at).item
      item_is = g ∙ sym (item_at s at)

      pub shape_low : r ≡ false → false ≡ shaped_at s 0 n first
      shape_low k =
          let l = leb-false lo (item_of i) (sym h ∙ k) in
          sym (one ∙ shaped_low s lo (left - 1) at stands (omega (arith, l, item_is)))

      module _ (k : r ≡ true) (v : Bool) (j : v ≡ valid_rec (rec_at s at)) where
        low : lo ≤ (rec_at s at).item
        low = omega (arith, leb-true lo (item_of i) (sym h ∙ k), item_is)

        pub shape_invalid : v ≡ false → false ≡ shaped_at s 0 n first
        shape_invalid q = sym (one ∙ shaped_invalid s lo (left - 1) at stands low (sym j ∙ q))

        pub shape_on : v ≡ true → (more next : ℕ) → more ≡ left - 1 → next ≡ at + m →
            shaped_at s 0 n first ≡ shaped_at s (least (R.Some i)) more next
        shape_on q more next x y =
            let b : suc (rec_at s at).item ≡ least (R.Some i) = sym (least_some i ∙ ap suc item_is) in
            one
            ∙ (shaped_on s lo (left - 1) at stands low (sym j ∙ q)
            ∙ (ap₂ {C = Bool} (λ (x y : ℕ). shaped_at s x (left - 1) y) b (sym (length-behind s at m e z))
            ∙ ap₂ {C = Bool} (λ (k p : ℕ). shaped_at s (least (R.Some i)) k p) (sym x) (sym y)))
