-- Cover from what was opened on, by any rules that accept both knowledges: each way that the call goes has its equation. Document 01's rules are those of its two numbers (`cover_basic`).
use Prim.Native.Nat.{ℕ}
use mathlib.Core.Path.{◌≡◌, refl, sym, ap, ap₂, ◌∙◌}
use mathlib.Core.Bool.{Bool, true, false}
use Rattle.std.specs.Prelude.{Ok, Err}
use mathlib.Core.List.{List}
use native.Mathlib.Omega.{arith}
use lib.ListN.{length}
use Rattle.codec.specs.Number.{be_at}
use Rattle.codec.specs.declared.Item.{Item}
use Rattle.codec.specs.declared.Refusal.{Refusal}
use Rattle.codec.specs.declared.Refusal.TheVariants.{WrongIds}
use Rattle.codec.specs.Refusal.{number}
use Rattle.codec.specs.Ids.{item_of, item_read}
use Rattle.codec.proofs.Ids.{item_there}
use Rattle.layout.specs.Knowledge.{Rules, basic, base}
use Rattle.layout.specs.Permitted.{rules_within}
use Rattle.layout.specs.Decode.{decode}
use Rattle.layout.proofs.Within.{basic_within}
use Rattle.ticks.specs.Operations.{covers}
use Rattle.ticks.specs.Cover.{Cover, cover_of}
use Rattle.ticks.specs.Calls.{wrong_span, cover_found, cover_answer}
use Rattle.ticks.proofs.Answers.{span_exact}
use Rattle.ticks.proofs.Equality.{clash}
use Rattle.ticks.proofs.ForCode.{Refusing}
use Rattle.ticks.proofs.ForRows.{cover_refuses_first, cover_refuses_second, cover_wrong, cover_answers}
use Rattle.lookup.specs.declared.Cursor.{Cursor}
use Rattle.lookup.specs.Method.{Opens, Open}
use Rattle.lookup.proofs.Leaf.{opens_reading}
use Rattle.cover.specs.Method.{covers_by}
use Rattle.cover.proofs.Covering.{covers_is}

-- The ids of a span

item_is : (id : List ℕ) (i : Item) → length id ≡ 24 → i ≡ item_read id → item_of i ≡ be_at id 24 0
item_is id i h e = ap (λ (j : Item). item_of j) e ∙ item_there id (omega arith)

-- The ways that the call goes

pub cover_basic : (s t first last : List ℕ) (a : Cover)
    → a ≡ cover_answer (rules_within base.replicas base.ranges) s t first last → a ≡ cover_answer basic s t first last
cover_basic s t first last a e = e ∙ ap (λ R. cover_answer R s t first last) basic_within

found : (a : Bool) → cover_of (Ok a) ≡ cover_found a
unfolding cover_of cover_found
found true = refl
found false = refl

module _ (R : Rules) (s t first last : List ℕ) where
  pub cover_first : (e : Refusal) → Refusing R s (number e) → cover_of (Err e) ≡ cover_answer R s t first last
  unfolding cover_of
  cover_first e h = sym (cover_refuses_first R s t first last (number e) h)

  module _ (r : ℕ) (x : Cursor) (o : Opens R s r x) where
    pub cover_second : (e : Refusal) → Refusing R t (number e) → cover_of (Err e) ≡ cover_answer R s t first last
    unfolding cover_of
    cover_second e h = sym (cover_refuses_second R s t first last r o.v o.e o.g (opens_reading R s r x o) (number e) h)

    module _ (m : ℕ) (y : Cursor) (q : Opens R t m y) (wrong : Bool) (is : wrong ≡ wrong_span first last) where
      pub cover_17 : wrong ≡ true → cover_of (Err WrongIds) ≡ cover_answer R s t first last
      unfolding cover_of number
      cover_17 f =
          sym (cover_wrong R s t first last r o.v o.e o.g (opens_reading R s r x o) m q.v q.e q.g (opens_reading R t m y q)
          (λ p. clash wrong f (is ∙ (span_exact first last).1 p)))

      module _ (right : wrong ≡ false) (i j : Item) (ei : i ≡ item_read first) (ej : j ≡ item_read last) (open-first : Open s r x)
          (open-second : Open t m y) where
        pub cover_answered : (a : Bool) → a ≡ covers_by s r x t m y (item_of i) (item_of j)
            → cover_of (Ok a) ≡ cover_answer R s t first last
        unfolding covers
        cover_answered a e =
            let p = (span_exact first last).0 (sym is ∙ right) in
            let f = item_is first i p.0 ei in
            let l = item_is last j p.1.0 ej in
            let by = covers_is s r x t m y (item_of i) (item_of j) open-first open-second (omega (arith, p.1.1, f, l)) in
            found a
            ∙ sym (cover_answers R s t first last r o.v o.e o.g (opens_reading R s r x o) m q.v q.e q.g (opens_reading R t m y q) p
            ∙ ap cover_found (sym (e ∙ by ∙ ap₂ (covers (decode s) (decode t)) f l)))
