-- Learned, in its room in the buffer. The knowledge of a valid store is in normal form, and onto a span of all ids nothing that it knows is left
-- out: it is its own projection, and its bytes are given as they stand. Onto another span it is projected.
use Prim.Native.Nat.{ℕ, ◌<◌}
use mathlib.Core.Path.{◌≡◌, refl, sym, ap, ◌∙◌, subst}
use mathlib.Core.Logic.{⊎_elim}
use mathlib.Core.Bool.{Bool, true, false}
use mathlib.Core.List.{List}
use native.Mathlib.Omega.{arith}
use lib.Dec.{eqb}
use borrow.Author.Tests.{eqb-true}
use Rattle.codec.specs.Reply.{Reply, gives}
use Rattle.codec.specs.Words.{words3}
use Rattle.codec.specs.Ids.{item_of}
use Rattle.codec.specs.MethodEnded.{Ended, End, end_of}
use Rattle.codec.specs.Answer.{Answer}
use Rattle.codec.specs.declared.Span.{Span}
use Rattle.layout.specs.Knowledge.{Knowledge, any_id}
use Rattle.layout.specs.Decode.{decode}
use Rattle.ticks.specs.Meaning.{highest, Normal}
use Rattle.ticks.specs.Operations.{project}
use Rattle.ticks.proofs.Algebra.{project_same}
use Rattle.ticks.proofs.Equality.{clash}
use Rattle.ticks.proofs.LawfulResults.{highest_words}
use Rattle.results.specs.MethodOpened.{limits_of, Reads, result_of, copied_end, projected_end}
use Rattle.results.proofs.Copied.{copied_end_lem, end_copied, opened_given}
use Rattle.results.proofs.Opened.{project_opened}
use Rattle.make.specs.declared.Task.{Task}
use Rattle.make.specs.Method.{all_ids, learned_end, Parts}

-- ---- a span of all ids

zero-words : words3 0 0 0 ≡ 0
unfolding words3
zero-words = refl

-- a word of the highest id
abbrev top : ℕ
top = 18446744073709551615

module _ (x : Span) where
  module _ (a : Bool) (e : a ≡ eqb (item_of x.first) (words3 0 0 0)) where
    begins : eqb (item_of x.first) 0 ≡ a
    begins = sym (e ∙ ap (eqb (item_of x.first)) zero-words)

    pub not_first : a ≡ false → false ≡ all_ids x
    unfolding all_ids
    not_first t = sym (rw (begins ∙ t, all_ids))

    pub from_first_lem : (b : Bool) → a ≡ true → b ≡ eqb (item_of x.last) (words3 top top top) → b ≡ all_ids x
    unfolding all_ids
    from_first_lem b t f = f ∙ ap (eqb (item_of x.last)) highest_words ∙ sym (rw (begins ∙ t, all_ids))

  all_span : all_ids x ≡ true → (item_of x.first ≡ 0) × (item_of x.last ≡ highest)
  unfolding all_ids
  all_span t = go (eqb (item_of x.first) 0) refl t
    where
      go : (b : Bool) → eqb (item_of x.first) 0 ≡ b → elim b [ true ↦ eqb (item_of x.last) highest | false ↦ false ] ≡ true
          → (item_of x.first ≡ 0) × (item_of x.last ≡ highest)
      go true e f = (eqb-true (item_of x.first) 0 e, eqb-true (item_of x.last) highest f)
      go false e f = clash false f refl

  -- no id is outside
  all_kept : all_ids x ≡ true → (k : Knowledge) → Normal k → project (item_of x.first) (item_of x.last) k ≡ k
  all_kept t k n =
      let z = all_span t in
      project_same (item_of x.first) (item_of x.last) k n
      (λ i p l o. ⊎_elim (λ (below : i < item_of x.first). absurd (omega (arith, z.0, below)))
      (λ (above : item_of x.last < i). absurd (omega (arith, z.1, l, above))) o)

-- ---- what is left of the buffer

module _ (mine : List ℕ) (w : Task) (out : List ℕ) where
  is_copied : all_ids w.span ≡ true → learned_end mine w out ≡ copied_end mine out
  unfolding learned_end
  is_copied t = rw (t, learned_end)

  is_projected : all_ids w.span ≡ false → learned_end mine w out ≡ projected_end w.limits mine w.own w.span out
  unfolding learned_end
  is_projected t = rw (t, learned_end)

  module _ (b : Bool) (is : b ≡ all_ids w.span) where
    pub learned_copied : (u : List ℕ) (a : Answer) → b ≡ true → Ended (gives mine) out u a → end_of u a ≡ learned_end mine w out
    learned_copied u a t h = copied_end_lem mine out u a h ∙ sym (is_copied (sym is ∙ t))

    pub learned_projected : (e : End) → b ≡ false → e ≡ projected_end w.limits mine w.own w.span out → e ≡ learned_end mine w out
    learned_projected e t h = h ∙ sym (is_projected (sym is ∙ t))

-- ---- it is learned

module _ (s mine k : List ℕ) (w : Task) (p : Parts s mine k w) where
  own : Reads w.limits mine w.own
  own = record { rules = any_id (limits_of w.limits); limits = refl; opens = p.opens }

  abbrev pub learned_reply : Reply
  learned_reply = result_of w.limits (project (item_of w.span.first) (item_of w.span.last) (decode mine))

  pub learned_ends : (d u : List ℕ) (a : Answer) → end_of u a ≡ learned_end mine w d → Ended learned_reply d u a
  learned_ends d u a e = go (all_ids w.span) refl
    where
      go : (b : Bool) → all_ids w.span ≡ b → Ended learned_reply d u a
      go true t =
          subst (λ (reply : Reply). Ended reply d u a)
          (sym (ap (result_of w.limits) (all_kept w.span t (decode mine) p.normal) ∙ opened_given w.limits mine w.own own))
          (end_copied mine d u a (e ∙ is_copied mine w d t))
      go false t =
          project_opened w.limits mine w.own w.span d u a (e ∙ is_projected mine w d t) own p.begins p.words p.rises
