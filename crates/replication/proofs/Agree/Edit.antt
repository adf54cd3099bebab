-- An edit or delete keeps bytes and machine together. The store's largest tick is the machine's, so both give the new
-- version the same tick, which is above every tick known to its maker. So the new version is the greatest of its item
-- for its maker, and no other version becomes contained there. No other replica's ticks and no batch's contain the new
-- version, so their records stay the greatest.
use Prim.Native.Nat.{ℕ, ◌+◌, ◌≤◌, ◌<◌, ◌^◌}
use mathlib.Core.Path.{◌≡◌, refl, sym, ap, ◌∙◌, subst}
use mathlib.Core.Logic.{◌⊎◌, inl, inr, ⊎_elim}
use mathlib.Core.Bool.{Bool, true, false}
use mathlib.Core.List.{List, [], ◌∷◌, ◌++◌}
use mathlib.Core.Option.{Option, none, some}
use native.Mathlib.Omega.{arith}
use lib.Dec.{ltb}
use borrow.Author.Tests.{eq-eqb, ne_eqb, ltb-true, ltb-false}
use Rattle.layout.specs.Knowledge.{Limits, Knowledge}
use Rattle.ticks.specs.Meaning.{highest, known, Normal}
use Rattle.ticks.specs.Operations.{raise, largest}
use Rattle.ticks.proofs.Operations.{known_raise_own, known_raise_other}
use Rattle.ticks.proofs.Largest.{largest_bounds, largest_attained}
use Rattle.ticks.proofs.LawfulResults.{top_below, below_top}
use Rattle.replication.specs.Record.{Content, Rec}
use Rattle.replication.specs.Valid.{LawfulStore}
use Rattle.replication.specs.Formats.{encode_store, find}
use Rattle.replication.specs.Operate.{replace, next_tick, changed_rec, changed}
use Rattle.replication.specs.Machine.{Ticks, Remembered, State, holds, greatest, largest_known, record_of, with_ticks, own_tick, changes}
use Rattle.replication.specs.Lists.{World, put_at}
use Rattle.replication.proofs.Machine.Best.{Mem, mem_added, Contained, holds_contained, contained_holds, not_holds}
use Rattle.replication.proofs.Machine.Greatest.{greatest_alike, holds_alike, greatest_equal, greatest_added_lacks, greatest_added_other, greatest_added_above}
use Rattle.replication.proofs.Machine.Supremum.{largest_known_bounds, largest_known_is}
use Rattle.replication.proofs.Tables.Rising.{find_replace_same, find_replace_other}
use Rattle.replication.proofs.Tables.Selected.{kept}
use Rattle.replication.proofs.Agree.Arguments.{same?}
use Rattle.replication.proofs.Agree.Invariant.{StoreFollows, BatchFollows, stored, Paired, Follows}
use Rattle.replication.proofs.Machine.Steps.{own_same, own_other, with_same, with_other}
use Rattle.replication.proofs.Machine.Laws.{Good}

-- ---- clauses

pub put_same : (p q : ℕ) (x : List ℕ) (f : ℕ → List ℕ) → q ≡ p → put_at p x f q ≡ x
unfolding put_at
put_same p q x f e = rw (eq-eqb q p e, put_at)

pub put_other : (p q : ℕ) (x : List ℕ) (f : ℕ → List ℕ) → (q ≡ p → ⊥) → put_at p x f q ≡ f q
unfolding put_at
put_other p q x f n = rw (ne_eqb q p n, put_at)

-- the store's new record is the machine's
changed_record : (content : Content) (item who t : ℕ) (o : Option Rec) → changed_rec content item who t o ≡ record_of content item who t o
unfolding changed_rec record_of
changed_record content item who t none = refl
changed_record content item who t (some r) = refl

record Stamped (i who t : ℕ) (r : Rec) : Type 0 where
  pub item : r.item ≡ i
  pub replica : r.change_replica ≡ who
  pub tick : r.change_tick ≡ t

stamped : (content : Content) (item who t : ℕ) (o : Option Rec) → Stamped item who t (record_of content item who t o)
unfolding record_of
stamped content item who t none = record { item = refl; replica = refl; tick = refl }
stamped content item who t (some r) = record { item = refl; replica = refl; tick = refl }

-- ---- ticks that stay while a version is made that they do not contain

pub store_later : (L : Limits) (s : List ℕ) (vs : List Rec) (k : Ticks) (p : ℕ) (v : Rec) → holds k v ≡ false → StoreFollows L s vs k p → StoreFollows L s (vs ++ (v ∷ [])) k p
store_later L s vs k p v h f =
    record {
      st = f.st;
      bytes = f.bytes;
      valid = f.valid;
      own = f.own;
      ticks = f.ticks;
      records = λ i. f.records i ∙ sym (greatest_added_lacks vs v k i h);
    }

-- ticks written otherwise
pub store_moved : (L : Limits) (s : List ℕ) (vs : List Rec) (k l : Ticks) (p : ℕ) → ((i q : ℕ) → k i q ≡ l i q) → StoreFollows L s vs k p → StoreFollows L s vs l p
store_moved L s vs k l p e f =
    record {
      st = f.st;
      bytes = f.bytes;
      valid = f.valid;
      own = f.own;
      ticks = λ i q h. f.ticks i q h ∙ e i q;
      records = λ i. f.records i ∙ greatest_equal vs k l i (λ q. e i q);
    }

batch_later : (L : Limits) (s : List ℕ) (vs : List Rec) (m : Remembered) (v : Rec) → holds m.ticks v ≡ false → BatchFollows L s vs m → BatchFollows L s (vs ++ (v ∷ [])) m
batch_later L s vs m v h f =
    record {
      b = f.b;
      bytes = f.bytes;
      valid = f.valid;
      first = f.first;
      last = f.last;
      top = f.top;
      inside = f.inside;
      records =
          λ i. f.records i ∙ ap (kept f.b.first f.b.last f.b.needed) (sym (greatest_added_lacks vs v m.ticks i h));
    }

paired_later : (L : Limits) (vs : List Rec) (v : Rec) (ss : List (List ℕ)) (ms : List Remembered)
    → ((b : Remembered) → Mem b ms → holds b.ticks v ≡ false) → Paired L vs ss ms → Paired L (vs ++ (v ∷ [])) ss ms
paired_later L vs v [] [] h p = tt
paired_later L vs v [] (m ∷ ms) h p = absurd p
paired_later L vs v (s ∷ ss) [] h p = absurd p
paired_later L vs v (s ∷ ss) (m ∷ ms) h p =
    (batch_later L s vs m v (h m (inl refl)) p.0, paired_later L vs v ss ms (λ b l. h b (inr l)) p.1)

-- ---- the largest tick

pub largest_same : (kn : Knowledge) (k : Ticks) → Normal kn → ((i q : ℕ) → i ≤ highest → known kn i q ≡ k i q) → ((i q : ℕ) → 256 ^ 16 ≤ q → k i q ≡ 0) → largest_known k ≡ largest kn
largest_same kn k f same zero-out =
    largest_known_is k (largest kn)
    (λ i p a b. rw (← same i p (below_top i a)) (largest_bounds kn i p))
    (⊎_elim (λ e. inl e) (λ z. near z.0 z.1.0 z.1.1.0 z.1.1.1) (largest_attained kn f.formed.sound))
  where
    near : (i p : ℕ) → i ≤ highest → known kn i p ≡ largest kn → (largest kn ≡ 0) ⊎ ((i : ℕ) × (p : ℕ) × (i < 256 ^ 24) × (p < 256 ^ 16) × (k i p ≡ largest kn))
    near i p h e = go (ltb p (256 ^ 16)) refl
      where
        go : (t : Bool) → ltb p (256 ^ 16) ≡ t → (largest kn ≡ 0) ⊎ ((i : ℕ) × (p : ℕ) × (i < 256 ^ 24) × (p < 256 ^ 16) × (k i p ≡ largest kn))
        go true l = inr (i, p, top_below i h, ltb-true p (256 ^ 16) l, sym (same i p h) ∙ e)
        go false l = inl (sym e ∙ same i p h ∙ zero-out i p (ltb-false p (256 ^ 16) l))

-- ---- the new version is the greatest of its item

-- what is known of the versions made before, for the maker's ticks k and the new tick t: those that k contains and
-- those of the maker are below t, and k contains all of the maker's
pub record Before (vs : List Rec) (k : Ticks) (who t : ℕ) : Type 0 where
  pub below : (r : Rec) → Mem r vs → r.change_tick ≤ k r.item r.change_replica → r.change_tick < t
  pub maker : (r : Rec) → Mem r vs → who ≡ r.change_replica → Contained k r

module _ (vs : List Rec) (k : Ticks) (who t : ℕ) (h : Before vs k who t) where
  -- with the new own tick the same versions are contained
  same_held : (r : Rec) → Mem r vs → holds k r ≡ holds (own_tick who t k) r
  same_held r l = ⊎_elim same other (same? who r.change_replica)
    where
      same : who ≡ r.change_replica → holds k r ≡ holds (own_tick who t k) r
      same e =
          let c = h.maker r l e in
          let b = h.below r l c.1 in
          contained_holds k r c
          ∙ sym (contained_holds (own_tick who t k) r (c.0, rw (own_same who t k r.item r.change_replica e) (omega arith)))

      other : (who ≡ r.change_replica → ⊥) → holds k r ≡ holds (own_tick who t k) r
      other n = holds_alike k (own_tick who t k) r (sym (own_other who t k r.item r.change_replica n))

  held_below : (r : Rec) → Mem r vs → holds (own_tick who t k) r ≡ true → r.change_tick < t
  held_below r l e = h.below r l (holds_contained k r (same_held r l ∙ e)).1

  pub greatest_new : (v : Rec) (i : ℕ) → v.item ≡ i → v.change_replica ≡ who → v.change_tick ≡ t → 1 ≤ t → greatest (vs ++ (v ∷ [])) (own_tick who t k) i ≡ some v
  greatest_new v i a b c d =
      greatest_added_above vs v (own_tick who t k) i a
      (contained_holds (own_tick who t k) v (omega arith, rw (own_same who t k v.item v.change_replica (sym b)) (omega arith)))
      (λ r l e g. omega (arith, held_below r l g))

  pub greatest_old : (v : Rec) (i : ℕ) → (v.item ≡ i → ⊥) → greatest (vs ++ (v ∷ [])) (own_tick who t k) i ≡ greatest vs k i
  greatest_old v i n =
      greatest_added_other vs v (own_tick who t k) i n
      ∙ sym (greatest_alike vs k (own_tick who t k) i (λ r l e. same_held r l))

-- ---- the maker's store

module _ (L : Limits) (s bs : List ℕ) (vs : List Rec) (k : Ticks) (content : Content) (who item t : ℕ) (f : StoreFollows L s vs k who)
    (h : Before vs k who t) (next : next_tick f.st ≡ t) (one : 1 ≤ t) where
  new_version_lem : changed_rec content item f.st.own (next_tick f.st) (find item f.st.records) ≡ record_of content item who t (greatest vs k item)
  new_version_lem =
      ap (λ (p : ℕ). changed_rec content item p (next_tick f.st) (find item f.st.records)) f.own
      ∙ ap (λ (n : ℕ). changed_rec content item who n (find item f.st.records)) next
      ∙ ap (λ (o : Option Rec). changed_rec content item who t o) (f.records item)
      ∙ changed_record content item who t (greatest vs k item)

  pub changed_follows : LawfulStore L (changed content item f.st) → bs ≡ encode_store (changed content item f.st)
      → StoreFollows L bs (vs ++ (record_of content item who t (greatest vs k item) ∷ [])) (own_tick who t k) who
  unfolding changed
  changed_follows valid bytes =
      record {
        st = changed content item f.st;
        bytes = bytes;
        valid = valid;
        own = f.own;
        ticks = new_ticks;
        records = λ i. rw new_version_lem (new_records i (record_of content item who t (greatest vs k item)) (stamped content item who t (greatest vs k item)));
      }
    where
      new_ticks : (i q : ℕ) → i ≤ highest → known (raise f.st.own (next_tick f.st) f.st.knowledge) i q ≡ own_tick who t k i q
      new_ticks i q l =
          ap (λ (p : ℕ). known (raise p (next_tick f.st) f.st.knowledge) i q) f.own
          ∙ (ap (λ (n : ℕ). known (raise who n f.st.knowledge) i q) next
          ∙ ⊎_elim
          (λ (e : q ≡ who). rw e (known_raise_own who t f.st.knowledge i who l refl ∙ sym (own_same who t k i who refl)))
          (λ (n : q ≡ who → ⊥).
          known_raise_other who t f.st.knowledge i q l n ∙ f.ticks i q l ∙ sym (own_other who t k i q (λ e. n (sym e))))
          (same? q who))

      new_records : (i : ℕ) (v : Rec) → Stamped item who t v → find i (replace v f.st.records) ≡ greatest (vs ++ (v ∷ [])) (own_tick who t k) i
      new_records i v d =
          ⊎_elim
          (λ (e : v.item ≡ i).
          rw (← e)
          (find_replace_same v 0 f.st.records f.valid.rising ∙ sym (greatest_new vs k who t h v v.item refl d.replica d.tick one)))
          (λ (n : v.item ≡ i → ⊥).
          find_replace_other v i 0 f.st.records f.valid.rising (λ e. n (sym e)) ∙ f.records i ∙ sym (greatest_old vs k who t h v i n))
          (same? v.item i)

-- ---- the whole step

module _ (m : State) (good : Good m) (items : (r : Rec) → Mem r m.versions → r.item ≤ highest) (who : ℕ) (small : who < 256 ^ 16) where
  own_below : (j : ℕ) → m.ticks who j who < 1 + largest_known (m.ticks who)
  own_below j =
      omega (arith, good.replicas who who j 0, largest_known_bounds (m.ticks who) 0 who (top_below 0 (omega arith)) small)

  before : Before m.versions (m.ticks who) who (1 + largest_known (m.ticks who))
  before =
      record {
        below =
            λ r l h. omega (
              arith,
              h,
              largest_known_bounds (m.ticks who) r.item r.change_replica (top_below r.item (items r l)) (good.made r l).replica,
            );
        maker = λ r l e. ((good.made r l).tick, subst (λ p. r.change_tick ≤ m.ticks p r.item r.change_replica) (sym e) ((good.made r l).within r.item));
      }

  -- no other ticks contain the new version
  new_lacked : (v : Rec) (k : Ticks) → v.change_replica ≡ who → v.change_tick ≡ 1 + largest_known (m.ticks who) → ((i p j : ℕ) → k i p ≤ m.ticks p j p) → holds k v ≡ false
  new_lacked v k a b h =
      not_holds k v
      (λ c.
      let l : k v.item v.change_replica ≤ m.ticks who 0 who = subst (λ p. k v.item v.change_replica ≤ m.ticks p 0 p) a (h v.item v.change_replica 0) in
      omega (arith, c.1, b, l, own_below 0))

module _ (L : Limits) (w : World) (m : State) (f : Follows L w m) (content : Content) (who item : ℕ) (small : who < 256 ^ 16) where
  next_tick_lem : next_tick (f.stores who small).st ≡ 1 + largest_known (m.ticks who)
  unfolding next_tick
  next_tick_lem =
      let s = f.stores who small in
      ap (λ (n : ℕ). 1 + n) (sym (largest_same s.st.knowledge (m.ticks who) s.valid.normal s.ticks (λ i q h. f.good.strangers who i q h)))

  pub change_follows : (bs : List ℕ) → Good (changes content who item m) → item ≤ highest
      → LawfulStore L (changed content item (f.stores who small).st) → bs ≡ encode_store (changed content item (f.stores who small).st)
      → Follows L (stored who bs w) (changes content who item m)
  unfolding stored changes
  change_follows bs good top valid bytes =
      record {
        good = good;
        items = λ r l. ⊎_elim (λ (o : Mem r m.versions). f.items r o)
            (λ (e : r ≡ new). subst (λ (x : Rec). x.item ≤ highest) (sym e) (omega (arith, stamp.item, top))) (mem_added r new m.versions l);
        stores = λ q l. ⊎_elim (λ (e : q ≡ who). maker q e) (λ (n : q ≡ who → ⊥). other q l n) (same? q who);
        batches =
            paired_later L m.versions new w.batches m.batches
            (λ b l. new_lacked m f.good f.items who small new b.ticks stamp.replica stamp.tick (λ i p j. f.good.remembered b l p i j))
            f.batches;
      }
    where
      new : Rec
      new = record_of content item who (1 + largest_known (m.ticks who)) (greatest m.versions (m.ticks who) item)

      stamp : Stamped item who (1 + largest_known (m.ticks who)) new
      stamp = stamped content item who (1 + largest_known (m.ticks who)) (greatest m.versions (m.ticks who) item)

      after : ℕ → Ticks
      after q = with_ticks who (own_tick who (1 + largest_known (m.ticks who)) (m.ticks who)) m.ticks q

      maker : (q : ℕ) → q ≡ who → StoreFollows L (put_at who bs w.stores q) (m.versions ++ (new ∷ [])) (after q) q
      maker q e =
          subst (λ (x : ℕ). StoreFollows L (put_at who bs w.stores x) (m.versions ++ (new ∷ [])) (after x) x) (sym e)
          (subst (λ (s : List ℕ). StoreFollows L s (m.versions ++ (new ∷ [])) (after who) who) (sym (put_same who who bs w.stores refl))
          (store_moved L bs (m.versions ++ (new ∷ [])) (own_tick who (1 + largest_known (m.ticks who)) (m.ticks who)) (after who) who
          (λ i p. ap (λ (k : Ticks). k i p) (sym (with_same who who (own_tick who (1 + largest_known (m.ticks who)) (m.ticks who)) m.ticks refl)))
          (changed_follows L (w.stores who) bs m.versions (m.ticks who) content who item (1 + largest_known (m.ticks who)) (f.stores who small)
          (before m f.good f.items who small) next_tick_lem (omega arith) valid bytes)))

      other : (q : ℕ) → q < 256 ^ 16 → (q ≡ who → ⊥) → StoreFollows L (put_at who bs w.stores q) (m.versions ++ (new ∷ [])) (after q) q
      other q l n =
          subst (λ (s : List ℕ). StoreFollows L s (m.versions ++ (new ∷ [])) (after q) q) (sym (put_other who q bs w.stores n))
          (store_moved L (w.stores q) (m.versions ++ (new ∷ [])) (m.ticks q) (after q) q
          (λ i p. ap (λ (k : Ticks). k i p) (sym (with_other who q (own_tick who (1 + largest_known (m.ticks who)) (m.ticks who)) m.ticks (λ e. n (sym e)))))
          (store_later L (w.stores q) m.versions (m.ticks q) q new
          (new_lacked m f.good f.items who small new (m.ticks q) stamp.replica stamp.tick (λ i p j. f.good.replicas q p i j))
          (f.stores q l)))
