-- A table that was filled step by step samples the ticks of its operation. The rows stand at the first item and at every later
-- bound, so between two of them nothing changes; each cell was 0 and was raised to the known ticks at its row's bound; and
-- a replica without a column is in no map, so it has no tick. From this the link of the plan gives the normal form: normalise fills
-- once, merge twice, project once inside the span, and an edit sets one column.
use Prim.Native.Nat.{ℕ, zero, suc, max, ◌+◌, ◌-◌, ◌≤◌, ◌<◌}
use mathlib.Core.Path.{◌≡◌, sym, ap, ap₂, ◌∙◌}
use mathlib.Core.Logic.{inl, inr}
use mathlib.Core.List.{List, [], ◌∷◌}
use native.Mathlib.Nat.{add-zero}
use native.Mathlib.Omega.{arith}
use lib.Dec.{eqb}
use lib.ListN.{length, get_or}
use Rattle.layout.specs.Knowledge.{Knowledge, bounds}
use Rattle.ticks.specs.Meaning.{highest, known}
use Rattle.ticks.specs.Operations.{larger, known_inside, known_raised}
use Rattle.ticks.proofs.Lists.{Among, order, less, same, more}
use Rattle.ticks.proofs.Equality.{exact?, eqb_exact}
use Rattle.ticks.proofs.Written.{known_out}
use Rattle.ticks.proofs.Operations.{known_steady, inside_yes, inside_low, inside_high, raised_own, raised_other}
use Rattle.tables.specs.MethodWords.{stride}
use Rattle.tables.specs.MethodPlan.{Sampled}
use Rattle.loading.specs.Method.{Unlike, Columns, Added, Stops, Raised, Set, Begins, at_once, after_one, Ends, at_top, with_one}

-- Between two rows

-- where a number stands in a list
record Stood (x : ℕ) (xs : List ℕ) : Type 0 where
  n : ℕ
  inside : n < length xs
  is : get_or xs n 0 ≡ x

stood : (x : ℕ) (xs : List ℕ) → Among x xs → Stood x xs
stood x [] m = absurd m
stood x (y ∷ ys) (inl e) = record { n = 0; inside = omega arith; is = sym e }
stood x (y ∷ ys) (inr m) = let h = stood x ys m in record { n = suc h.n; inside = omega (arith, h.inside); is = h.is }

-- no bound of the list is above i and at most j
record Between (xs : List ℕ) (i j : ℕ) : Type 0 where
  none : (n : ℕ) → n < length xs → i < get_or xs n 0 → get_or xs n 0 ≤ j → ⊥

known_still : (k : Knowledge) (i d p : ℕ) → Between (bounds k.ranges) i (i + d) → known k (i + d) p ≡ known k i p
known_still k i zero p h = ap (λ j. known k j p) (add-zero i)
known_still k i (suc d) p h =
    let e : i + suc d ≡ suc (i + d) = omega arith in
    ap (λ j. known k j p) e
    ∙ known_steady k (i + d) p
    (λ m. let s = stood (suc (i + d)) (bounds k.ranges) m in h.none s.n s.inside (omega (arith, s.is)) (omega (arith, s.is)))
    ∙ known_still k i d p (record { none = λ n a b c. h.none n a b (omega arith) })

known_between : (k : Knowledge) (i j p : ℕ) → i ≤ j → Between (bounds k.ranges) i j → known k j p ≡ known k i p
known_between k i j p l h =
    let e : i + (j - i) ≡ j = omega arith in
    ap (λ x. known k x p) (sym e) ∙ known_still k i (j - i) p (record { none = λ n a b c. h.none n a b (omega arith) })

module _ (B : ℕ → ℕ) (from top first last : ℕ) (k : Knowledge) where
  first_steady : (ys : List ℕ) → Stops B from top first last (bounds k.ranges) ys → (j i p : ℕ) → from ≤ j → j ≤ top → B j ≤ i
      → i ≤ last → (j < top → i < B (suc j)) → known k i p ≡ known k (B j) p
  first_steady ys s j i p a b l m h =
      known_between k (B j) i p l
      (record { none = λ n c d e. s.firsts j n a b c d (omega arith) (λ q. omega (arith, h q)) })

  second_steady : (xs : List ℕ) → Stops B from top first last xs (bounds k.ranges) → (j i p : ℕ) → from ≤ j → j ≤ top → B j ≤ i
      → i ≤ last → (j < top → i < B (suc j)) → known k i p ≡ known k (B j) p
  second_steady xs s j i p a b l m h =
      known_between k (B j) i p l
      (record { none = λ n c d e. s.seconds j n a b c d (omega arith) (λ q. omega (arith, h q)) })

-- A replica without a column

no_column : (P : ℕ → ℕ) (n : ℕ) (k : Knowledge) (keys : List ℕ) → Columns P n k.replicas keys → (i p : ℕ)
    → ((c : ℕ) → c < n → P c ≡ p → ⊥) → known k i p ≡ 0
no_column P n k keys h i p none =
    known_out k i p
    (λ m. let s = stood p k.replicas m in none (get_or keys s.n 0) (h.below s.n s.inside) (h.is s.n s.inside ∙ s.is))

-- columns that were put to those of another map
pub columns_later : (P Q : ℕ → ℕ) (n m : ℕ) (ids others keys columns : List ℕ) → Columns P n ids keys → Added P Q n m others columns → Columns Q m ids keys
columns_later P Q n m ids others keys columns h a = record {
  size = h.size;
  below = λ j l. omega (arith, h.below j l, a.more);
  is = λ j l. a.kept (get_or keys j 0) (h.below j l) ∙ h.is j l;
}

-- Normalise

pub sampled_normalise :
    (k : Knowledge) (P B : ℕ → ℕ) (T U : ℕ → ℕ → ℕ) (r n : ℕ) (keys : List ℕ)
    → Unlike P r
    → Columns P r k.replicas keys
    → r ≤ stride
    → Stops B 1 n 0 highest (bounds k.ranges) []
    → ((j c : ℕ) → T j c ≡ 0)
    → Raised P B 1 n r k T U
    → Sampled P B U r n (known k)
sampled_normalise k P B T U r n keys u h l s z f = record {
  some_row = s.some;
  first_bound = s.starts;
  rising = s.rising;
  items = s.inside;
  distinct = u.is;
  empty = λ c a. f.others 0 c (inl (omega arith)) (omega arith) ∙ z 0 c;
  cells = λ j c a b d. omega (arith, f.is j c a b d, z j c);
  steady = λ j i p a b. first_steady B 1 n 0 highest k [] s j i p a b;
  others = λ i p none. no_column P r k keys h i p none;
}

-- Merge

pub sampled_merge :
    (a b : Knowledge) (P Q B : ℕ → ℕ) (T U W : ℕ → ℕ → ℕ) (m r n : ℕ) (keys columns : List ℕ)
    → Unlike P m
    → Columns P m a.replicas keys
    → Added P Q m r b.replicas columns
    → r ≤ stride
    → Stops B 1 n 0 highest (bounds a.ranges) (bounds b.ranges)
    → ((j c : ℕ) → T j c ≡ 0)
    → Raised Q B 1 n r a T U
    → Raised Q B 1 n r b U W
    → Sampled Q B W r n (larger a b)
unfolding larger
sampled_merge a b P Q B T U W m r n keys columns u h add l s z f g = record {
  some_row = s.some;
  first_bound = s.starts;
  rising = s.rising;
  items = s.inside;
  distinct = (add.unlike u).is;
  empty = λ c d. g.others 0 c (inl (omega arith)) (omega arith) ∙ f.others 0 c (inl (omega arith)) (omega arith) ∙ z 0 c;
  cells = λ j c d e y. omega (arith, f.is j c d e y, g.is j c d e y, z j c);
  steady = λ j i p c d e o y.
      ap₂ max (first_steady B 1 n 0 highest a (bounds b.ranges) s j i p c d e o y)
      (second_steady B 1 n 0 highest b (bounds a.ranges) s j i p c d e o y);
  others = λ i p none.
      ap₂ max (no_column Q r a keys (columns_later P Q m r a.replicas b.replicas keys columns h add) i p none)
      (no_column Q r b columns add.columns i p none);
}

-- Project

module _ (k : Knowledge) (P B : ℕ → ℕ) (T U : ℕ → ℕ → ℕ) (r n from top first last : ℕ) (keys : List ℕ) (u : Unlike P r)
    (h : Columns P r k.replicas keys) (l : r ≤ stride) (zero-bound : B 1 ≡ 0) (span : first ≤ last) (low : last ≤ highest)
    (begins : Begins from first) (s : Stops B from top first last (bounds k.ranges) []) (ends : Ends B top last n)
    (z : (j c : ℕ) → T j c ≡ 0) (f : Raised P B from top r k T U) where
  from_one : (1 ≤ from) × (from ≤ 2)
  from_one = elim begins [ at_once a b ↦ (omega arith, omega arith) | after_one a b ↦ (omega arith, omega arith) ]

  top_last : (top ≤ n) × (n ≤ suc top)
  top_last = elim ends [ at_top a b ↦ (omega arith, omega arith) | with_one a b c ↦ (omega arith, omega arith) ]

  not_below_lem : (d : ℕ) → from + d ≤ top → first ≤ B (from + d)
  not_below_lem zero a = omega (arith, s.starts, ap B (add-zero from))
  not_below_lem (suc d) a =
      let e : suc (from + d) ≡ from + suc d = omega arith in
      omega (arith, not_below_lem d (omega arith), s.rising (from + d) (omega arith) (omega arith), ap B e)

  from_first_lem : (j : ℕ) → from ≤ j → j ≤ top → first ≤ B j
  from_first_lem j a b = let e : from + (j - from) ≡ j = omega arith in omega (arith, not_below_lem (j - from) (omega arith), ap B e)

  -- a row before the span, inside it or behind it
  data Part (j : ℕ) : Type 0 where
    before : j < from → j ≡ 1 → B j ≡ 0 → 1 ≤ first → from ≡ 2 → Part j
    inside : from ≤ j → j ≤ top → first ≤ B j → B j ≤ last → Part j
    behind : top < j → j ≡ suc top → B j ≡ suc last → last < highest → n ≡ suc top → Part j

  part : (j : ℕ) → 1 ≤ j → j ≤ n → Part j
  part j a b =
      elim (order j from) [
        | less c ↦ early c
        | same c ↦ late (omega arith)
        | more c ↦ late (omega arith)
      ]
    where
      early : j < from → Part j
      early c =
          elim begins [
            | at_once d e ↦ absurd (omega arith)
            | after_one d e ↦ let i : j ≡ 1 = omega arith in before c i (ap B i ∙ zero-bound) e d
          ]

      last_row_lem : top < j → Part j
      last_row_lem c =
          elim ends [
            | at_top d e ↦ absurd (omega arith)
            | with_one d e g ↦ let i : j ≡ suc top = omega arith in behind c i (ap B i ∙ e) g d
          ]

      late : from ≤ j → Part j
      late c =
          elim (order top j) [
            | less d ↦ last_row_lem d
            | same d ↦ inside c (omega arith) (from_first_lem j c (omega arith)) (s.inside j c (omega arith))
            | more d ↦ inside c (omega arith) (from_first_lem j c (omega arith)) (s.inside j c (omega arith))
          ]

  rises : (j : ℕ) → 1 ≤ j → j < n → B j < B (suc j)
  rises j a b = go (part j a (omega arith)) (part (suc j) (omega arith) b)
    where
      go : Part j → Part (suc j) → B j < B (suc j)
      go (before c d e g m) (before c' d' e' g' m') = absurd (omega arith)
      go (before c d e g m) (inside c' d' e' g') = omega arith
      go (before c d e g m) (behind c' d' e' g' m') = omega arith
      go (inside c d e g) (before c' d' e' g' m') = absurd (omega arith)
      go (inside c d e g) (inside c' d' e' g') = s.rising j c (omega arith)
      go (inside c d e g) (behind c' d' e' g' m') = omega arith
      go (behind c d e g m) y = absurd (omega arith)

  cell_is : (j c : ℕ) → 1 ≤ j → j ≤ n → c < r → U j c ≡ known_inside first last k (B j) (P c)
  cell_is j c a b d = go (part j a b)
    where
      go : Part j → U j c ≡ known_inside first last k (B j) (P c)
      go (before e g i m o) =
          f.others j c (inl e) (omega arith) ∙ z j c ∙ sym (inside_low first last k (B j) (P c) (omega arith))
      go (inside e g i m) =
          let y : U j c ≡ known k (B j) (P c) = omega (arith, f.is j c e g d, z j c) in
          y ∙ sym (inside_yes first last k (B j) (P c) i m)
      go (behind e g i m o) =
          f.others j c (inr e) (omega arith) ∙ z j c ∙ sym (inside_high first last k (B j) (P c) (omega arith))

  stays : (j i p : ℕ) → 1 ≤ j → j ≤ n → B j ≤ i → i ≤ highest → (j < n → i < B (suc j))
      → known_inside first last k i p ≡ known_inside first last k (B j) p
  stays j i p a b c d e = go (part j a b)
    where
      go : Part j → known_inside first last k i p ≡ known_inside first last k (B j) p
      go (before g m o q v) =
          let two : suc j ≡ from = omega arith in
          let next : i < first = omega (arith, e (omega (arith, s.some, top_last)), ap B two, s.starts) in
          inside_low first last k i p next ∙ sym (inside_low first last k (B j) p (omega arith))
      go (inside g m o q) =
          elim (order last i) [
            | less v ↦ absurd (beyond v)
            | same v ↦ within (omega arith)
            | more v ↦ within (omega arith)
          ]
        where
          beyond : last < i → ⊥
          beyond v =
              elim ends [
                | at_top w x ↦ omega arith
                | with_one w x y ↦
                    elim (order j top) [
                      | less t ↦ omega (arith, e (omega arith), s.inside (suc j) (omega arith) (omega arith))
                      | same t ↦ omega (arith, e (omega arith), ap (λ o'. B (suc o')) t)
                      | more t ↦ omega arith
                    ]
              ]

          within : i ≤ last → known_inside first last k i p ≡ known_inside first last k (B j) p
          within v =
              inside_yes first last k i p (omega arith) v
              ∙ first_steady B from top first last k [] s j i p g m c v (λ t. e (omega (arith, top_last)))
              ∙ sym (inside_yes first last k (B j) p o q)
      go (behind g m o q v) =
          inside_high first last k i p (omega arith) ∙ sym (inside_high first last k (B j) p (omega arith))

  pub sampled_project : Sampled P B U r n (known_inside first last k)
  sampled_project = record {
    some_row = omega (arith, s.some, from_one, top_last);
    first_bound = zero-bound;
    rising = rises;
    items = λ j a b. elim (part j a b) [
      | before c d e g m ↦ omega arith
      | inside c d e g ↦ omega arith
      | behind c d e g m ↦ omega arith
    ];
    distinct = u.is;
    empty = λ c a. f.others 0 c (inl (omega (arith, from_one))) (omega arith) ∙ z 0 c;
    cells = cell_is;
    steady = stays;
    others = λ i p none. out i p (no_column P r k keys h i p none);
  }
    where
      out : (i p : ℕ) → known k i p ≡ 0 → known_inside first last k i p ≡ 0
      out i p e =
          elim (order i first) [
            | less a ↦ inside_low first last k i p a
            | same a ↦ further (omega arith)
            | more a ↦ further (omega arith)
          ]
        where
          further : first ≤ i → known_inside first last k i p ≡ 0
          further a =
              elim (order last i) [
                | less b ↦ inside_high first last k i p b
                | same b ↦ inside_yes first last k i p a (omega arith) ∙ e
                | more b ↦ inside_yes first last k i p a (omega arith) ∙ e
              ]

-- An edit: the own tick in every row. The own id has a column among them

pub sampled_raise :
    (k : Knowledge) (own tick : ℕ) (P Q B : ℕ → ℕ) (T U W : ℕ → ℕ → ℕ) (m r n column : ℕ) (keys columns : List ℕ)
    → Unlike P m
    → Columns P m k.replicas keys
    → Added P Q m r (own ∷ []) columns
    → column < r
    → Q column ≡ own
    → r ≤ stride
    → Stops B 1 n 0 highest (bounds k.ranges) []
    → ((j c : ℕ) → T j c ≡ 0)
    → Raised Q B 1 n r k T U
    → Set 1 n column tick U W
    → Sampled Q B W r n (known_raised own tick k)
sampled_raise k own tick P Q B T U W m r n column keys columns u h add l e o s z f g = record {
  some_row = s.some;
  first_bound = s.starts;
  rising = s.rising;
  items = s.inside;
  distinct = (add.unlike u).is;
  empty = λ c a.
      g.others 0 c (inr (inl (omega arith))) (omega arith) ∙ f.others 0 c (inl (omega arith)) (omega arith) ∙ z 0 c;
  cells = λ j c a b d. elim (exact? eqb eqb_exact c column) [
    | inl x ↦ ap (W j) x ∙ g.is j a b ∙ sym (raised_own own tick k (B j) (Q c) (ap Q x ∙ e))
    | inr x ↦
        let y : U j c ≡ known k (B j) (Q c) = omega (arith, f.is j c a b d, z j c) in
        g.others j c (inl x) (omega arith) ∙ y
        ∙ sym (raised_other own tick k (B j) (Q c) (λ w. x ((add.unlike u).is c column d l (w ∙ sym e))))
  ];
  steady = λ j i p a b c d v. elim (exact? eqb eqb_exact p own) [
    | inl x ↦ raised_own own tick k i p x ∙ sym (raised_own own tick k (B j) p x)
    | inr x ↦
        raised_other own tick k i p x ∙ first_steady B 1 n 0 highest k [] s j i p a b c d v
        ∙ sym (raised_other own tick k (B j) p x)
  ];
  others = λ i p none.
      raised_other own tick k i p (λ x. none column l (e ∙ sym x))
      ∙ no_column Q r k keys (columns_later P Q m r k.replicas (own ∷ []) keys columns h add) i p none;
}
