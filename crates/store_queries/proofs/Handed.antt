-- The learned knowledge of a batch and a store's own knowledge, by what the checks answered; both parts are inside.
use Prim.Native.Nat.{ℕ, ◌+◌, ◌≤◌}
use mathlib.Core.Path.{◌≡◌, refl, sym, ap, ap₂, ◌∙◌, subst}
use mathlib.Core.List.{List}
use native.Mathlib.Omega.{arith}
use lib.ListN.{length}
use Rattle.std.specs.Prelude.{Result, Ok, Err}
use Rattle.codec.specs.declared.Refusal.{Refusal}
use Rattle.codec.specs.Refusal.{number}
use Rattle.codec.specs.Number.{Bytes}
use Rattle.codec.specs.Parsed.{Parsed, accepted, refused}
use Rattle.layout.specs.Knowledge.{Limits, base}
use Rattle.layout.specs.Permitted.{within}
use Rattle.layout.proofs.Within.{base_within}
use Rattle.replication.specs.Part.{Part}
use Rattle.replication.specs.Part as P
use Rattle.replication.specs.Formats.{Store}
use Rattle.replication.specs.BatchFormat.{Batch}
use Rattle.replication.specs.OpenStore.{knowledge_length, store_knowledge, open_store}
use Rattle.replication.specs.OpenBatch.{learned_length, batch_needed, batch_learned, open_batch}
use Rattle.replication.specs.Queries.{learned_part, knowledge_part}
use Rattle.replication.proofs.Queries.Winner.{learned_exact, learned_batch}
use Rattle.replication.proofs.Queries.Knowledge.{knowledge_exact, knowledge_store}
use Rattle.store_open.specs.declared.OpenStore.{OpenStore}
use Rattle.store_open.specs.declared.OpenBatch.{OpenBatch}
use Rattle.store_open.specs.Method.{store_opened, batch_opened}
use Rattle.store_open.proofs.Opened.{BatchOpen, store_open, store_closed, batch_open, batch_closed}
use Rattle.store_queries.specs.Method.{Inside}
use Rattle.store_queries.proofs.Winning.{inside_refused, inside_store, inside_batch}

-- ---- learned

module _ (a b n : ℕ) (t : List ℕ) (q : Result OpenBatch Refusal) (g : q ≡ batch_opened (within a b n) t) where
  pub learned_not_batch : (d : Refusal) → q ≡ Err d → P.Refused (number d) ≡ learned_part (within a b n) t
  learned_not_batch d h = sym (learned_batch (within a b n) t (number d) (batch_closed a b n t d (sym g ∙ h))).is

  module _ (z : Bytes t) (x : OpenBatch) (h : q ≡ Ok x) where
    opened_batch : BatchOpen (within a b n) t x.needed x.learned x.count
    opened_batch = batch_open a b n t z x (sym g ∙ h)

    -- its place is inside the bytes
    pub learned_place : batch_needed + x.needed.length ≤ length t
    learned_place = omega (arith, opened_batch.needed_size, opened_batch.tests.inside)

    pub learned_is : P.OfBatch (batch_needed + x.needed.length) x.learned.length ≡ learned_part (within a b n) t
    learned_is =
        let o : batch_needed + x.needed.length ≡ batch_learned t = omega (arith, opened_batch.needed_size) in
        ap₂ {C = Part} P.OfBatch o opened_batch.learned_size ∙ sym (learned_exact (within a b n) t _ opened_batch.value).part.is

pub learned_base : (t : List ℕ) (p : Part) → p ≡ learned_part (within base.replicas base.ranges base.records) t
    → p ≡ learned_part base t
learned_base t p e = e ∙ ap (λ (L : Limits). learned_part L t) base_within

pub learned_inside : (L : Limits) (t : List ℕ) (p : Part) → p ≡ learned_part L t → Inside p t t
learned_inside L t p is = subst (λ (q : Part). Inside q t t) (sym is) (go (open_batch L t) refl)
  where
    go : (o : Parsed Batch) → open_batch L t ≡ o → Inside (learned_part L t) t t
    go (refused n) e = subst (λ (q : Part). Inside q t t) (sym (learned_batch L t n e).is) (inside_refused t t n)
    go (accepted b) e =
        let h = (learned_exact L t b e).part in
        subst (λ (q : Part). Inside q t t) (sym h.is) (inside_batch t t (batch_learned t) (learned_length t) h.inside)

-- ---- a store's own knowledge

module _ (a b n : ℕ) (s : List ℕ) (r : Result OpenStore Refusal) (e : r ≡ store_opened (within a b n) s) where
  pub knowledge_not_store : (d : Refusal) → r ≡ Err d → P.Refused (number d) ≡ knowledge_part (within a b n) s
  knowledge_not_store d f = sym (knowledge_store (within a b n) s (number d) (store_closed a b n s d (sym e ∙ f))).is

  module _ (y : Bytes s) (x : OpenStore) (f : r ≡ Ok x) where
    pub knowledge_is : P.OfStore store_knowledge x.own.length ≡ knowledge_part (within a b n) s
    knowledge_is =
        let o = store_open a b n s y x (sym e ∙ f) in
        ap (P.OfStore store_knowledge) o.length ∙ sym (knowledge_exact (within a b n) s _ o.value).part.is

pub knowledge_base : (s : List ℕ) (p : Part) → p ≡ knowledge_part (within base.replicas base.ranges base.records) s
    → p ≡ knowledge_part base s
knowledge_base s p e = e ∙ ap (λ (L : Limits). knowledge_part L s) base_within

pub knowledge_inside : (L : Limits) (s : List ℕ) (p : Part) → p ≡ knowledge_part L s → Inside p s s
knowledge_inside L s p is = subst (λ (q : Part). Inside q s s) (sym is) (go (open_store L s) refl)
  where
    go : (o : Parsed Store) → open_store L s ≡ o → Inside (knowledge_part L s) s s
    go (refused n) e = subst (λ (q : Part). Inside q s s) (sym (knowledge_store L s n e).is) (inside_refused s s n)
    go (accepted st) e =
        let h = (knowledge_exact L s st e).part in
        subst (λ (q : Part). Inside q s s) (sym h.is) (inside_store s s store_knowledge (knowledge_length s) h.inside)
