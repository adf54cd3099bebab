-- An apply keeps bytes and machine together. The merged knowledge knows the larger of the two ticks inside the span and
-- the store's outside, as in the machine. Where the batch has a record of an item, the greater of the two is the
-- greatest of both. Where it left one out that its ticks contain, needed contains it, so the store that covers needed
-- contains it too, and the store's own record is at least as great. The own tick stays alike for all items, since no
-- batch's tick of a replica is above that replica's own.
use Prim.Native.Nat.{ℕ, ◌≤◌, ◌<◌, ◌^◌, max}
use mathlib.Core.Path.{◌≡◌, refl, sym, ap, ◌∙◌, subst}
use mathlib.Core.Logic.{inl, inr, ⊎_elim}
use mathlib.Core.Bool.{Bool, true, false}
use mathlib.Core.List.{List}
use mathlib.Core.Option.{Option, none, some}
use native.Mathlib.Omega.{arith}
use lib.Dec.{leb}
use borrow.Author.Tests.{leb-true, leb-false, not-false}
use Rattle.layout.specs.Knowledge.{Limits}
use Rattle.ticks.specs.Meaning.{highest, known, contains}
use Rattle.ticks.specs.Operations.{merge, covers}
use Rattle.ticks.proofs.Operations.{known_merge}
use Rattle.ticks.proofs.Algebra.{contains_exact}
use Rattle.ticks.proofs.Search.{covers_exact}
use Rattle.replication.specs.Formats.{encode_store, find}
use Rattle.replication.specs.Valid.{LawfulStore}
use Rattle.replication.specs.Reading.{both}
use Rattle.replication.specs.OpenBatch.{lacks_change}
use Rattle.ticks.specs.Table.{in_span}
use Rattle.replication.specs.Operate.{join, applied}
use Rattle.replication.specs.Machine.{Ticks, Remembered, State, holds, greatest, learns, with_ticks, applies}
use Rattle.replication.specs.Lists.{World, put_at}
use Rattle.replication.proofs.Machine.Best.{contained_holds, Apart, greatest_item}
use Rattle.replication.proofs.Machine.Greatest.{greater, greatest_equal, greatest_larger, greatest_covered, greatest_nothing}
use Rattle.replication.proofs.Machine.Steps.{with_same, with_other, learns_below, learns_above, learns_inside}
use Rattle.replication.proofs.Machine.Laws.{Good}
use Rattle.replication.proofs.Tables.Rising.{both_holds}
use Rattle.ticks.proofs.Lists.{in_span_lem}
use Rattle.replication.proofs.Tables.Join.{joined, joined_left, find_join}
use Rattle.replication.proofs.Tables.Selected.{kept, kept_none, kept_in, kept_out}
use Rattle.replication.proofs.Agree.Lines.{ApplyMet}
use Rattle.replication.proofs.Contents.Apply.{applied_lawful}
use Rattle.replication.proofs.Agree.Invariant.{StoreFollows, BatchFollows, stored, Follows}
use Rattle.replication.proofs.Agree.Edit.{put_same, put_other, store_moved}
use Rattle.replication.proofs.Agree.Arguments.{same?}
use Rattle.replication.specs.Record.{Rec}

-- ---- inside the span or not

data Where (first last i : ℕ) : Type 0 where
  within : first ≤ i → i ≤ last → Where first last i
  below : i < first → Where first last i
  above : last < i → Where first last i

where_is : (first last i : ℕ) → Where first last i
where_is first last i = go (leb first i) refl (leb i last) refl
  where
    go : (s : Bool) → leb first i ≡ s → (t : Bool) → leb i last ≡ t → Where first last i
    go false e t d = below (leb-false first i e)
    go true e true d = within (leb-true first i e) (leb-true i last d)
    go true e false d = above (leb-false i last d)

-- the greater of two in the machine and the winner of two in tables
greater_joined : (a b : Option Rec) → greater a b ≡ joined a b
unfolding greater joined
greater_joined none o = refl
greater_joined (some x) none = refl
greater_joined (some x) (some y) = refl

-- ---- the store after an apply

module _ (L : Limits) (s t bs : List ℕ) (vs : List Rec) (k : Ticks) (p : ℕ) (b : Remembered) (f : StoreFollows L s vs k p)
    (g : BatchFollows L t vs b) (apart : Apart vs) (covered : covers f.st.knowledge g.b.needed g.b.first g.b.last ≡ true) where
  pub new_ticks : (i q : ℕ) → i ≤ highest → known (merge f.st.knowledge g.b.learned) i q ≡ learns b k i q
  new_ticks i q h =
      known_merge f.st.knowledge g.b.learned i q h
      ∙ elim (where_is g.b.first g.b.last i) [
        | within a c ↦
            rw (f.ticks i q h, g.inside i q a c)
            (sym (learns_inside b k i q (omega (arith, g.first, a)) (omega (arith, g.last, c))))
        | below a ↦
            rw (f.ticks i q h, g.valid.outside i q h (inl a))
            (omega (arith, learns_below b k i q (omega (arith, g.first, a))))
        | above a ↦
            rw (f.ticks i q h, g.valid.outside i q h (inr a))
            (omega (arith, learns_above b k i q (omega (arith, g.last, a))))
      ]

  out_of_span : (i : ℕ) → (g.b.first ≤ i → i ≤ g.b.last → ⊥) → (o : Option Rec) → ((r : Rec) → o ≡ some r → r.item ≡ i) → kept g.b.first g.b.last g.b.needed o ≡ none
  out_of_span i n none h = kept_none g.b.first g.b.last g.b.needed
  out_of_span i n (some r) h =
      kept_out g.b.first g.b.last g.b.needed r (outside (in_span g.b.first g.b.last r.item) refl)
    where
      outside : (x : Bool) → in_span g.b.first g.b.last r.item ≡ x → both (in_span g.b.first g.b.last r.item) (lacks_change g.b.needed r) ≡ false
      outside false e = rw e
      outside true e =
          let q = (in_span_lem g.b.first g.b.last r.item).0 e in
          let l : r.item ≡ i = h r refl in
          absurd (n (omega (arith, q.0, l)) (omega (arith, q.1, l)))

  -- outside the span nothing moves
  still : (i : ℕ) → (g.b.first ≤ i → i ≤ g.b.last → ⊥) → ((q : ℕ) → learns b k i q ≡ k i q)
      → joined (greatest vs k i) (kept g.b.first g.b.last g.b.needed (greatest vs b.ticks i)) ≡ greatest vs (learns b k) i
  still i n same =
      ap (λ (o : Option Rec). joined (greatest vs k i) o)
      (out_of_span i n (greatest vs b.ticks i) (λ r e. greatest_item vs b.ticks i r e))
      ∙ (joined_left (greatest vs k i) ∙ greatest_equal vs k (learns b k) i (λ q. sym (same q)))

  -- a version that needed contains, in the span, the store contains too
  store_holds : (i : ℕ) (y : Rec) → g.b.first ≤ i → i ≤ g.b.last → y.item ≡ i → lacks_change g.b.needed y ≡ false → holds k y ≡ true
  unfolding lacks_change
  store_holds i y a c e h =
      let n = (contains_exact g.b.needed y.item y.change_replica y.change_tick).0 (not-false (contains g.b.needed y.item y.change_replica y.change_tick) h) in
      let l : y.item ≤ highest = omega (arith, c, e, g.top) in
      let d = ((covers_exact f.st.knowledge g.b.needed g.b.first g.b.last).0 covered).known y.item y.change_replica (omega (arith, a, e)) (omega (arith, c, e)) in
      contained_holds k y (n.0, omega (arith, n.1, d, f.ticks y.item y.change_replica l))

  -- in the span, the greater of the two
  merged : (i : ℕ) → g.b.first ≤ i → i ≤ g.b.last → (o : Option Rec) → greatest vs b.ticks i ≡ o
      → joined (greatest vs k i) (kept g.b.first g.b.last g.b.needed o) ≡ greatest vs (learns b k) i
  merged i a c none e =
      ap (λ (o : Option Rec). joined (greatest vs k i) o) (kept_none g.b.first g.b.last g.b.needed)
      ∙ (joined_left (greatest vs k i)
      ∙ sym (greatest_nothing vs apart k b.ticks (learns b k) i (λ q. learns_inside b k i q (omega (arith, g.first, a)) (omega (arith, g.last, c))) e))
  merged i a c (some y) e = go (lacks_change g.b.needed y) refl
    where
      at_item : y.item ≡ i
      at_item = greatest_item vs b.ticks i y e

      spanned : in_span g.b.first g.b.last y.item ≡ true
      spanned = (in_span_lem g.b.first g.b.last y.item).1 (omega (arith, a, at_item), omega (arith, c, at_item))

      larger : (q : ℕ) → learns b k i q ≡ max (k i q) (b.ticks i q)
      larger q = learns_inside b k i q (omega (arith, g.first, a)) (omega (arith, g.last, c))

      go : (x : Bool) → lacks_change g.b.needed y ≡ x → joined (greatest vs k i) (kept g.b.first g.b.last g.b.needed (some y)) ≡ greatest vs (learns b k) i
      go true h =
          ap (λ (o : Option Rec). joined (greatest vs k i) o)
          (kept_in g.b.first g.b.last g.b.needed y (both_holds (in_span g.b.first g.b.last y.item) (lacks_change g.b.needed y) spanned h))
          ∙ (sym (greater_joined (greatest vs k i) (some y))
          ∙ (ap (λ (o : Option Rec). greater (greatest vs k i) o) (sym e)
          ∙ sym (greatest_larger vs apart k b.ticks (learns b k) i larger)))
      go false h =
          ap (λ (o : Option Rec). joined (greatest vs k i) o)
          (kept_out g.b.first g.b.last g.b.needed y (rw (spanned, h)))
          ∙ (joined_left (greatest vs k i)
          ∙ sym (greatest_covered vs apart k b.ticks (learns b k) i larger y e (store_holds i y a c at_item h)))

  pub new_records : (i : ℕ) → find i (join f.st.records g.b.records) ≡ greatest vs (learns b k) i
  new_records i =
      find_join 0 i f.st.records g.b.records f.valid.rising g.valid.rising
      ∙ (ap (λ (o : Option Rec). joined o (find i g.b.records)) (f.records i)
      ∙ (ap (λ (o : Option Rec). joined (greatest vs k i) o) (g.records i)
      ∙ elim (where_is g.b.first g.b.last i) [
        | within a c ↦ merged i a c (greatest vs b.ticks i) refl
        | below a ↦ still i (λ u v. omega arith) (λ q. learns_below b k i q (omega (arith, g.first, a)))
        | above a ↦ still i (λ u v. omega arith) (λ q. learns_above b k i q (omega (arith, g.last, a)))
      ]))

  pub applied_follows : LawfulStore L (applied f.st g.b) → bs ≡ encode_store (applied f.st g.b) → StoreFollows L bs vs (learns b k) p
  unfolding applied
  applied_follows valid bytes =
      record {
        st = applied f.st g.b;
        bytes = bytes;
        valid = valid;
        own = f.own;
        ticks = new_ticks;
        records = new_records;
      }

-- ---- the whole step

module _ (L : Limits) (w : World) (m : State) (f : Follows L w m) (who : ℕ) (small : who < 256 ^ 16) (t bs : List ℕ) (b : Remembered) (g : BatchFollows L t m.versions b) where
  pub apply_follows : Good (applies who (some b) m) → ApplyMet L (f.stores who small).st g.b bs → Follows L (stored who bs w) (applies who (some b) m)
  unfolding stored applies
  apply_follows good h =
      record {
        good = good;
        items = f.items;
        stores = λ q l. ⊎_elim (λ (e : q ≡ who). taker q e) (λ (n : q ≡ who → ⊥). other q l n) (same? q who);
        batches = f.batches;
      }
    where
      after : ℕ → Ticks
      after q = with_ticks who (learns b (m.ticks who)) m.ticks q

      taker : (q : ℕ) → q ≡ who → StoreFollows L (put_at who bs w.stores q) m.versions (after q) q
      taker q e =
          subst (λ (x : ℕ). StoreFollows L (put_at who bs w.stores x) m.versions (after x) x) (sym e)
          (subst (λ (s : List ℕ). StoreFollows L s m.versions (after who) who) (sym (put_same who who bs w.stores refl))
          (store_moved L bs m.versions (learns b (m.ticks who)) (after who) who
          (λ i p. ap (λ (k : Ticks). k i p) (sym (with_same who who (learns b (m.ticks who)) m.ticks refl)))
          (applied_follows L (w.stores who) t bs m.versions (m.ticks who) who b (f.stores who small) g f.good.apart h.covered
          (applied_lawful L (f.stores who small).st g.b (f.stores who small).valid g.valid h.behind h.room) h.bytes)))

      other : (q : ℕ) → q < 256 ^ 16 → (q ≡ who → ⊥) → StoreFollows L (put_at who bs w.stores q) m.versions (after q) q
      other q l n =
          subst (λ (s : List ℕ). StoreFollows L s m.versions (after q) q) (sym (put_other who q bs w.stores n))
          (store_moved L (w.stores q) m.versions (m.ticks q) (after q) q
          (λ i p. ap (λ (k : Ticks). k i p) (sym (with_other who q (learns b (m.ticks who)) m.ticks (λ e. n (sym e)))))
          (f.stores q l))
