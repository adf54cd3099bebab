-- What the records of a batch must meet. A record whose change version is contained in learned has a tick there, and learned knows nothing
-- outside the span: so its item is inside the span, with no test of its own. What is left is that both of its versions are contained in
-- learned and that needed lacks the change version (`carried_by`).
use Prim.Native.Nat.{ℕ, zero, suc, ◌≤◌}
use mathlib.Core.Path.{◌≡◌, refl, sym, ap, ap₂, ◌∙◌}
use mathlib.Core.Logic.{inl, inr}
use mathlib.Core.Bool.{Bool, true}
use mathlib.Core.List.{List}
use native.Mathlib.Omega.{arith}
use Rattle.codec.specs.Number.{Bytes}
use Rattle.layout.specs.Knowledge.{Limits, Knowledge}
use Rattle.ticks.specs.Meaning.{contains}
use Rattle.ticks.specs.Table.{in_span}
use Rattle.ticks.specs.Calls.{read_as}
use Rattle.ticks.proofs.Lists.{less, same, more, order, in_span_lem}
use Rattle.ticks.proofs.Algebra.{contains_exact}
use Rattle.ticks.proofs.LawfulResults.{below_top}
use Rattle.replication.specs.Record.{Rec}
use Rattle.replication.specs.Reading.{rec_at, behind, both}
use Rattle.replication.specs.OpenStore.{versions_in}
use Rattle.replication.specs.OpenBatch.{first_id, last_id, lacks_change, carried}
use Rattle.replication.specs.MethodRecords.{records_at, each}
use Rattle.replication.specs.MethodOpening.{needed_read, learned_read, batch_at}
use Rattle.replication.proofs.Tables.Rising.{both_parts, both_holds}
use Rattle.replication.proofs.Bytes.Record.{rec_fits}
use Rattle.replication.proofs.Tables.InBytes.{each_nil, each-cons, records-nil, records-cons}
use Rattle.replication.proofs.Opening.Batch.{NothingOutside, carried_is}
use Rattle.store_open.specs.MethodEach.{carried_by}

-- ---- properties of each record

-- what follows from a property at every place follows for the records
each_follows : (P T : Rec → Bool) (s : List ℕ) → ((at : ℕ) → P (rec_at s at) ≡ true → T (rec_at s at) ≡ true)
    → (n at : ℕ) → each P (records_at s n at) ≡ true → each T (records_at s n at) ≡ true
each_follows P T s f zero at p = ap (each T) (records-nil s at) ∙ each_nil T
each_follows P T s f (suc n) at p =
    let r = rec_at s at in
    let rs = records_at s n (behind s at) in
    let a = both_parts (P r) (each P rs) (sym (ap (each P) (records-cons s n at) ∙ each-cons P r rs) ∙ p) in
    ap (each T) (records-cons s n at) ∙ each-cons T r rs
    ∙ both_holds (T r) (each T rs) (f at a.0) (each_follows P T s f n (behind s at) a.1)

-- ---- the span

versions_change : (k : Knowledge) (r : Rec) → versions_in k r ≡ true → contains k r.item r.change_replica r.change_tick ≡ true
unfolding versions_in
versions_change k r e = (both_parts (contains k r.item r.change_replica r.change_tick) _ e).0

-- an item of which something is known, where nothing is known outside
known_inside_lem : (first last : ℕ) (k : Knowledge) → NothingOutside first last k → (s : List ℕ) → Bytes s → (at : ℕ)
    → versions_in k (rec_at s at) ≡ true → in_span first last (rec_at s at).item ≡ true
known_inside_lem first last k none s b at e =
    let r = rec_at s at in
    let i = r.item in
    let c = (contains_exact k i r.change_replica r.change_tick).0 (versions_change k r e) in
    let top = below_top i (rec_fits s at b).item in
    let low : first ≤ i =
    elim (order i first) [
      | less l ↦ absurd (omega (arith, c.0, c.1, none i r.change_replica top (inl l)))
      | same l ↦ omega arith
      | more l ↦ omega arith
    ] in
    let high : i ≤ last =
    elim (order last i) [
      | less l ↦ absurd (omega (arith, c.0, c.1, none i r.change_replica top (inr l)))
      | same l ↦ omega arith
      | more l ↦ omega arith
    ] in
    (in_span_lem first last i).1 (low, high)

-- ---- the records of a batch

by_is : (needed learned : Knowledge) (r : Rec) → carried_by needed learned r ≡ both (versions_in learned r) (lacks_change needed r)
unfolding carried_by
by_is needed learned r = refl

module _ (L : Limits) (s : List ℕ) (needed learned : Knowledge) (k : read_as (needed_read L s) ≡ needed)
    (l : read_as (learned_read L s) ≡ learned) where
  carried_here : (r : Rec) → carried (batch_at L s) r ≡ both (in_span (first_id s) (last_id s) r.item) (carried_by needed learned r)
  carried_here r =
      carried_is L s r
      ∙ ap₂ (λ (x y : Knowledge). both (in_span (first_id s) (last_id s) r.item) (both (versions_in x r) (lacks_change y r))) l k
      ∙ ap (both (in_span (first_id s) (last_id s) r.item)) (sym (by_is needed learned r))

  module _ (n at : ℕ) where
    pub carried_by_lem : each (carried (batch_at L s)) (records_at s n at) ≡ true → each (carried_by needed learned) (records_at s n at) ≡ true
    carried_by_lem =
        each_follows (carried (batch_at L s)) (carried_by needed learned) s
        (λ p x. (both_parts (in_span (first_id s) (last_id s) (rec_at s p).item) _ (sym (carried_here (rec_at s p)) ∙ x)).1) n at

    pub carried_all : Bytes s → NothingOutside (first_id s) (last_id s) learned → each (carried_by needed learned) (records_at s n at) ≡ true
        → each (carried (batch_at L s)) (records_at s n at) ≡ true
    carried_all b none =
        each_follows (carried_by needed learned) (carried (batch_at L s)) s
        (λ p x.
        let a = both_parts (versions_in learned (rec_at s p)) _ (sym (by_is needed learned (rec_at s p)) ∙ x) in
        carried_here (rec_at s p) ∙ both_holds _ _ (known_inside_lem (first_id s) (last_id s) learned none s b p a.0) x) n at
