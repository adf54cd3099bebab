-- The rows of a span. Row 1 is at the first item of all; the span's rows begin there or one row later (`first_facts`), and where an item
-- follows the last one there is one row more for it (`last_facts`). The item after the last one is found word by word: a word that is not
-- full takes one more, and a full one becomes 0 and hands it on, as w more in one word is one more in the word above it.
use Prim.Native.Nat.{ℕ, suc, ◌+◌, ◌*◌, ◌^◌, ◌≤◌, ◌<◌}
use mathlib.Core.Path.{◌≡◌, refl, sym, ap, ◌∙◌, subst}
use mathlib.Core.Logic.{inl, inr}
use mathlib.Core.Bool.{Bool, true, false}
use mathlib.Core.List.{List}
use native.Mathlib.Nat.{suc-mul, mul-le-mul_right}
use native.Mathlib.Omega.{arith}
use lib.Dec.{eqb}
use lib.ListN.{length}
use borrow.Author.Tests.{eqb-false, eq-eqb, ne_eqb, lt-ltb, le-ltb}
use Rattle.codec.specs.Words.{words3}
use Rattle.ticks.specs.Meaning.{highest}
use Rattle.ticks.proofs.Lists.{order, less, same, more}
use Rattle.ticks.proofs.Equality.{exact?, eqb_exact}
use Rattle.ticks.proofs.LawfulResults.{highest_words}
use Rattle.loading.specs.Method.{Stops, Begins, at_once, after_one, Ends, at_top, with_one}
use Rattle.codec.specs.declared.Item.{Item}
use Rattle.codec.specs.Ids.{item_of, InWords}
use Rattle.sampling.specs.MethodRows.{bound_of, top_word, first_item, top_item, put_bound}
use Rattle.sampling.specs.MethodRows.{RowList, rows_of, first_row, after, last_row}
use Rattle.sampling.proofs.Columns.{Kept}
use Rattle.sampling.proofs.Bounds.{bound_put, put_size}
use Rattle.tables.specs.MethodWords.{bound_at}

pub top_words : item_of top_item ≡ highest
top_words = highest_words

pub zero-words : item_of first_item ≡ 0
unfolding words3
zero-words = refl

-- Three words

module _ (w x y z : ℕ) where
  rest_low : suc ((x * w + y) * w + z) ≡ (x * w + y) * w + (z + 1)
  rest_low = omega arith

  rest_middle : suc z ≡ w → suc ((x * w + y) * w + z) ≡ (x * w + (y + 1)) * w + 0
  rest_middle e =
      let a : x * w + (y + 1) ≡ suc (x * w + y) = omega arith in
      let b : (x * w + (y + 1)) * w ≡ suc (x * w + y) * w = ap (λ n. n * w) a in
      omega (arith, suc-mul (x * w + y) w)

  rest_high : suc y ≡ w → suc z ≡ w → suc ((x * w + y) * w + z) ≡ ((x + 1) * w + 0) * w + 0
  rest_high e f =
      let a : (x + 1) * w ≡ suc x * w = ap (λ n. n * w) (omega arith) in
      let b : (x + 1) * w + 0 ≡ suc (x * w + y) = omega (arith, suc-mul x w) in
      let d : ((x + 1) * w + 0) * w ≡ suc (x * w + y) * w = ap (λ n. n * w) b in
      omega (arith, suc-mul (x * w + y) w)

  rest_most : (x' y' z' : ℕ) → x ≤ x' → y ≤ y' → z ≤ z' → (x * w + y) * w + z ≤ (x' * w + y') * w + z'
  rest_most x' y' z' a b d =
      let e : x * w ≤ x' * w = mul-le-mul_right w a in
      let f : x * w + y ≤ x' * w + y' = omega arith in
      let g : (x * w + y) * w ≤ (x' * w + y') * w = mul-le-mul_right w f in
      omega arith

words_up : (x y z x' y' z' : ℕ) → x ≤ x' → y ≤ y' → z ≤ z' → words3 x y z ≤ words3 x' y' z'
unfolding words3
words_up x y z x' y' z' a b d = rest_most (2 ^ 64) x y z x' y' z' a b d

module _ (x y z : ℕ) where
  -- no id is above the top one
  words_most : x < 2 ^ 64 → y < 2 ^ 64 → z < 2 ^ 64 → words3 x y z ≤ highest
  words_most a b d =
      subst (λ n. words3 x y z ≤ n) top_words
      (words_up x y z top_word top_word top_word (omega arith) (omega arith) (omega arith))

  -- the item after an id
  after_low : words3 x y (z + 1) ≡ suc (words3 x y z)
  unfolding words3
  after_low = sym (rest_low (2 ^ 64) x y z)

  after_middle : top_word ≤ z → z < 2 ^ 64 → words3 x (y + 1) 0 ≡ suc (words3 x y z)
  unfolding words3
  after_middle h k = sym (rest_middle (2 ^ 64) x y z (omega arith))

  after_high : top_word ≤ y → y < 2 ^ 64 → top_word ≤ z → z < 2 ^ 64 → words3 (x + 1) 0 0 ≡ suc (words3 x y z)
  unfolding words3
  after_high g h k l = sym (rest_high (2 ^ 64) x y z (omega arith) (omega arith))

  -- where the lower words are full and the id is not the top one, the highest word is not full
  pub high_room : words3 x y z < highest → top_word ≤ y → top_word ≤ z → x < top_word
  high_room h k l = elim (order x top_word) [
    | less a ↦ a
    | same a ↦ absurd (full (omega arith))
    | more a ↦ absurd (full (omega arith))
  ]
    where
      full : top_word ≤ x → ⊥
      full a =
          let b : words3 top_word top_word top_word ≤ words3 x y z = words_up top_word top_word top_word x y z a k l in
          omega (arith, top_words)

-- The item after one, as code finds it

module _ (x y z : ℕ) where
  pub after_one_low : z < top_word → bound_of x y (z + 1) ≡ after (bound_of x y z)
  unfolding after
  after_one_low h = rw (lt-ltb z top_word h, after)

  module _ (l : top_word ≤ z) where
    pub after_one_middle : y < top_word → bound_of x (y + 1) 0 ≡ after (bound_of x y z)
    unfolding after
    after_one_middle h = rw (le-ltb z top_word l, lt-ltb y top_word h, after)

    pub after_one_high : top_word ≤ y → bound_of (x + 1) 0 0 ≡ after (bound_of x y z)
    unfolding after
    after_one_high h = rw (le-ltb z top_word l, le-ltb y top_word h, after)

after_item_lem : (b : Item) → InWords b → item_of (after b) ≡ suc (item_of b)
after_item_lem b w =
    elim (order b.low top_word) [
      | less h ↦ ap item_of (sym (after_one_low b.high b.middle b.low h)) ∙ after_low b.high b.middle b.low
      | same h ↦ full (omega arith)
      | more h ↦ full (omega arith)
    ]
  where
    full : top_word ≤ b.low → item_of (after b) ≡ suc (item_of b)
    full l =
        elim (order b.middle top_word) [
          | less h ↦
              ap item_of (sym (after_one_middle b.high b.middle b.low l h))
              ∙ after_middle b.high b.middle b.low l w.low
          | same h ↦ fuller (omega arith)
          | more h ↦ fuller (omega arith)
        ]
      where
        fuller : top_word ≤ b.middle → item_of (after b) ≡ suc (item_of b)
        fuller m =
            ap item_of (sym (after_one_high b.high b.middle b.low l m))
            ∙ after_high b.high b.middle b.low m w.middle l w.low

-- The first row

pub first_at_once : (l u : List ℕ) (b : Item) (t : Bool) → u ≡ put_bound l 1 first_item → t ≡ eqb (item_of b) (item_of first_item) → t ≡ true
    → rows_of u 1 ≡ first_row l b
unfolding first_row
first_at_once l u b t e f g = rw (e, sym f ∙ g, first_row)

pub first_after_one : (l u : List ℕ) (b : Item) (t : Bool) → u ≡ put_bound l 1 first_item → t ≡ eqb (item_of b) (item_of first_item) → t ≡ false
    → rows_of u 2 ≡ first_row l b
unfolding first_row
first_after_one l u b t e f g = rw (e, sym f ∙ g, first_row)

-- what it comes to where there is room
pub record FirstFacts (l : List ℕ) (b : Item) (x : RowList) : Type 0 where
  pub begins : Begins x.top (item_of b)
  pub zero-bound : bound_at x.bounds 1 ≡ 0
  pub size : length x.bounds ≡ length l
  pub low : x.top ≤ 2
  pub some : 1 ≤ x.top

pub first_facts : (l : List ℕ) (b : Item) → 5 < length l → FirstFacts l b (first_row l b)
first_facts l b h =
    let u = put_bound l 1 first_item in
    let z : bound_at u 1 ≡ 0 = (bound_put l 1 first_item (omega arith)).is ∙ zero-words in
    elim (order (item_of b) (item_of first_item)) [
      | less e ↦ absurd (omega (arith, zero-words))
      | same e ↦
          subst (FirstFacts l b) (first_at_once l u b true refl (sym (eq-eqb (item_of b) (item_of first_item) e)) refl)
          (record {
            begins = at_once refl (e ∙ zero-words);
            zero-bound = z;
            size = put_size l 1 first_item;
            low = omega arith;
            some = omega arith;
          })
      | more e ↦
          subst (FirstFacts l b) (first_after_one l u b false refl (sym (ne_eqb (item_of b) (item_of first_item) (λ f. omega arith))) refl)
          (record {
            begins = after_one refl (omega (arith, zero-words));
            zero-bound = z;
            size = put_size l 1 first_item;
            low = omega arith;
            some = omega arith;
          })
    ]

-- row 1 stays at the first item of all
module _ (A B C : ℕ → ℕ) (from top first last : ℕ) (xs ys : List ℕ) where
  pub zero-stays : A 1 ≡ 0 → Begins from first → Kept A B from → Stops B from top first last xs ys → Kept B C (suc top) → C 1 ≡ 0
  zero-stays z (at_once e f) k s m =
      let one : B 1 ≡ 0 = sym (ap B e) ∙ s.starts ∙ f in
      m.is 1 (omega (arith, s.some)) ∙ one
  zero-stays z (after_one e f) k s m = m.is 1 (omega (arith, s.some)) ∙ k.is 1 (omega arith) ∙ z

-- The last row

-- an id that is not the top one is below it
pub below_top : (b : Item) (t : Bool) → t ≡ eqb (item_of b) (item_of top_item) → t ≡ false → InWords b → item_of b < highest
below_top b t is h w = elim (order (item_of b) highest) [
  | less e ↦ e
  | same e ↦ absurd (eqb-false (item_of b) (item_of top_item) (sym is ∙ h) (e ∙ sym top_words))
  | more e ↦ absurd (omega (arith, words_most b.high b.middle b.low w.high w.middle w.low))
]

module _ (l : List ℕ) (top : ℕ) (b : Item) (t : Bool) (is : t ≡ eqb (item_of b) (item_of top_item)) where
  pub last_none : t ≡ true → rows_of l top ≡ last_row (rows_of l top) b
  unfolding last_row
  last_none h = rw (sym is ∙ h, last_row)

  pub last_more : t ≡ false → (u : List ℕ) (d : Item) → d ≡ after b → u ≡ put_bound l (top + 1) d → rows_of u (top + 1) ≡ last_row (rows_of l top) b
  unfolding last_row
  last_more h u d e f = rw (f, e, sym is ∙ h, last_row)

-- what it comes to where there is room
pub record LastFacts (l : List ℕ) (top : ℕ) (b : Item) (x : RowList) : Type 0 where
  pub ends : Ends (bound_at x.bounds) top (item_of b) x.top
  pub kept : Kept (bound_at l) (bound_at x.bounds) (suc top)
  pub most : x.top ≤ suc top
  pub low : item_of b ≤ highest

pub last_facts : (l : List ℕ) (top : ℕ) (b : Item) → InWords b → 3 * top + 5 < length l → LastFacts l top b (last_row (rows_of l top) b)
last_facts l top b w h = elim (exact? eqb eqb_exact (item_of b) (item_of top_item)) [
  | inl e ↦
      subst (LastFacts l top b) (last_none l top b true (sym (eq-eqb (item_of b) (item_of top_item) e)) refl)
      (record {
        ends = at_top refl (e ∙ top_words);
        kept = record { is = λ k m. refl };
        most = omega arith;
        low = omega (arith, top_words);
      })
  | inr e ↦
      let f = sym (ne_eqb (item_of b) (item_of top_item) e) in
      let u = put_bound l (top + 1) (after b) in
      let p = bound_put l (top + 1) (after b) (omega arith) in
      let below = below_top b false f refl w in
      let z : suc top ≡ top + 1 = omega arith in
      subst (LastFacts l top b) (last_more l top b false f refl u (after b) refl refl)
      (record {
        ends = with_one (omega arith) (ap (bound_at u) z ∙ p.is ∙ after_item_lem b w) below;
        kept = record { is = λ k m. p.others k (λ g. absurd (omega arith)) };
        most = omega arith;
        low = omega arith;
      })
]
