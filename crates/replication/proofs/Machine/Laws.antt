-- What the machine keeps along every history. No replica and no remembered batch knows more of p than p itself, whose
-- tick for itself is alike for all items. Each version made has a tick from 1 to its maker's own, and no two have the
-- same replica and tick. Ids of more than 16 bytes are known to nobody. Wherever a change version is contained, the
-- create version of its record is contained too.
-- An edit's tick is above all that its maker knows, so above its own tick, and hence above what anybody knows of it:
-- that keeps versions apart, and makes the new version contained nowhere but at its maker. A make remembers what a
-- replica knows; an apply takes the larger of two ticks that are both at most the tick of their own replica.
use Prim.Native.Nat.{ℕ, ◌^◌, ◌≤◌, ◌<◌}
use mathlib.Core.Path.{◌≡◌, refl, sym, ◌∙◌, ap}
use mathlib.Core.Logic.{◌⊎◌, inl, inr, ⊎_elim}
use mathlib.Core.List.{[], ◌∷◌, ◌++◌}
use mathlib.Core.Option.{Option, none, some}
use native.Mathlib.Nat.{le_trans, lt_irrefl}
use native.Mathlib.Omega.{arith}
use Rattle.codec.proofs.Numbers.{power_positive}
use Rattle.replication.specs.Machine.{Remembered, State, initial, greatest, changes}
use Rattle.replication.proofs.Machine.Best.{Mem, mem_added, Contained, holds_contained, Apart, greatest_mem, greatest_item, greatest_holds}
use Rattle.replication.proofs.Machine.Supremum.{largest_known_bounds}
use Rattle.replication.proofs.Machine.Steps.{next_of, new_version, new_item_lem, new_replica, new_tick_lem, new_created, new_inherits}
use Rattle.replication.proofs.Machine.Steps.{changes_versions, changes_batches, changes_own, changes_same, own, other, whose}
use Rattle.replication.specs.Record.{Rec, Content}

-- a version made
pub record Made (m : State) (r : Rec) : Type 0 where
  pub tick : 1 ≤ r.change_tick
  pub within : (j : ℕ) → r.change_tick ≤ m.ticks r.change_replica j r.change_replica
  pub replica : r.change_replica < 256 ^ 16
  pub create_tick : 1 ≤ r.create_tick
  pub create_replica : r.create_replica < 256 ^ 16
  pub order : r.item < 256 ^ 24 → r.create_tick ≤ r.change_tick

pub record Good (m : State) : Type 0 where
  pub replicas : (q p i j : ℕ) → m.ticks q i p ≤ m.ticks p j p
  pub remembered : (b : Remembered) → Mem b m.batches → (p i j : ℕ) → b.ticks i p ≤ m.ticks p j p
  pub made : (r : Rec) → Mem r m.versions → Made m r
  pub apart : Apart m.versions
  pub strangers : (q i p : ℕ) → 256 ^ 16 ≤ p → m.ticks q i p ≡ 0
  pub unheard : (b : Remembered) → Mem b m.batches → (i p : ℕ) → 256 ^ 16 ≤ p → b.ticks i p ≡ 0
  pub creates : (r : Rec) → Mem r m.versions → (q : ℕ) → Contained (m.ticks q) r → r.create_tick ≤ m.ticks q r.item r.create_replica
  pub carries : (r : Rec) → Mem r m.versions → (b : Remembered) → Mem b m.batches → Contained b.ticks r → r.create_tick ≤ b.ticks r.item r.create_replica

pub good_initial : Good initial
unfolding initial
good_initial =
    record {
      replicas = λ q p i j. omega arith;
      remembered = λ b n p i j. absurd n;
      made = λ r n. absurd n;
      apart = λ v w n o e d. absurd n;
      strangers = λ q i p h. refl;
      unheard = λ b n i p h. absurd n;
      creates = λ r n q c. absurd n;
      carries = λ r n b o c. absurd n;
    }

-- ---- an edit or delete

module _ (content : Content) (who item : ℕ) (m : State) (id : who < 256 ^ 16) (g : Good m) where
  -- its tick is above what anybody knows of the maker
  pub next_above : (q i p : ℕ) → who ≡ p → m.ticks q i p < next_of who m
  next_above q i p e =
      rw (← e)
      (omega (arith, g.replicas q who i 0, largest_known_bounds (m.ticks who) 0 who (power_positive 24) id))

  next_above_batch : (b : Remembered) → Mem b m.batches → (i p : ℕ) → who ≡ p → b.ticks i p < next_of who m
  next_above_batch b n i p e =
      rw (← e)
      (omega (arith, g.remembered b n who i 0, largest_known_bounds (m.ticks who) 0 who (power_positive 24) id))

  -- so the new version is contained in nothing that is known before, at its maker, at any other replica or in any
  -- batch
  pub fresh : (q : ℕ) → Contained (m.ticks q) (new_version content who item m) → ⊥
  fresh q c =
      omega (arith, next_above q (new_version content who item m).item (new_version content who item m).change_replica (sym (new_replica content who item m)), new_tick_lem content who item m)

  pub fresh_batch : (b : Remembered) → Mem b m.batches → Contained b.ticks (new_version content who item m) → ⊥
  fresh_batch b n c =
      omega (arith, next_above_batch b n (new_version content who item m).item (new_version content who item m).change_replica (sym (new_replica content who item m)), new_tick_lem content who item m)

  -- ticks only grow
  pub changes_grows : (q i p : ℕ) → m.ticks q i p ≤ (changes content who item m).ticks q i p
  changes_grows q i p =
      elim (whose who q p) [
        | own e d ↦ omega (arith, changes_own content who item m q i p e d, next_above q i p d)
        | other n ↦ omega (arith, changes_same content who item m q i p n)
      ]

  -- a version of before that the new ticks contain was contained before
  pub contained_before : (r : Rec) → Mem r m.versions → (q : ℕ) → Contained ((changes content who item m).ticks q) r → Contained (m.ticks q) r
  contained_before r n q c =
      elim (whose who q r.change_replica) [
        | own e d ↦ (c.0, rw (sym e ∙ d) ((g.made r n).within r.item))
        | other o ↦ (c.0, omega (arith, changes_same content who item m q r.item r.change_replica o))
      ]

  changes_replicas : (q p i j : ℕ) → (changes content who item m).ticks q i p ≤ (changes content who item m).ticks p j p
  changes_replicas q p i j =
      elim (whose who p p) [
        | own e d ↦
            elim (whose who q p) [
              | own f h ↦ omega (arith, changes_own content who item m q i p f h, changes_own content who item m p j p d d)
              | other n ↦ omega (arith, changes_same content who item m q i p n, changes_own content who item m p j p d d, next_above q i p d)
            ]
        | other n ↦ omega (arith, changes_same content who item m q i p (λ e d. n d d), changes_same content who item m p j p n, g.replicas q p i j)
      ]

  old_made : (r : Rec) → Mem r m.versions → Made (changes content who item m) r
  old_made r n =
      let a = g.made r n in
      record {
        tick = a.tick;
        within = λ j. le_trans (a.within j) (changes_grows r.change_replica j r.change_replica);
        replica = a.replica;
        create_tick = a.create_tick;
        create_replica = a.create_replica;
        order = a.order;
      }

  -- the create version of the new record: at most the maker's next tick, and known to the maker afterwards
  record NewCreate (r : Rec) : Type 0 where
    create_tick : 1 ≤ r.create_tick
    create_replica : r.create_replica < 256 ^ 16
    order : item < 256 ^ 24 → r.create_tick ≤ next_of who m
    within : (q : ℕ) → who ≡ q → r.create_tick ≤ (changes content who item m).ticks q item r.create_replica

  new_create : NewCreate (new_version content who item m)
  new_create = go (greatest m.versions (m.ticks who) item) refl
    where
      go : (o : Option Rec) → greatest m.versions (m.ticks who) item ≡ o → NewCreate (new_version content who item m)
      go none e =
          let c = new_created content who item m e in
          record {
            create_tick = omega arith;
            create_replica = rw c.0 id;
            order = λ h. omega arith;
            within = λ q d. omega (arith, changes_own content who item m q item (new_version content who item m).create_replica d (sym c.0));
          }
      go (some v) e =
          let c = new_inherits content who item m v e in
          let n = greatest_mem m.versions (m.ticks who) item v e in
          let a = g.made v n in
          let h = holds_contained (m.ticks who) v (greatest_holds m.versions (m.ticks who) item v e) in
          let i = greatest_item m.versions (m.ticks who) item v e in
          record {
            create_tick = rw c.1 a.create_tick;
            create_replica = rw c.0 a.create_replica;
            order = λ l.
                let k : v.item < 256 ^ 24 = rw i l in
                omega (arith, a.order k, largest_known_bounds (m.ticks who) v.item v.change_replica k a.replica);
            within = λ q d.
                le_trans (rw (c.1, c.0, ← d) (rw i at (g.creates v n who h))) (changes_grows q item (new_version content who item m).create_replica);
          }

  new_made : Made (changes content who item m) (new_version content who item m)
  new_made =
      record {
        tick = omega (arith, new_tick_lem content who item m);
        within = λ j. omega (
          arith,
          new_tick_lem content who item m,
          changes_own content who item m
              (new_version content who item m).change_replica j (new_version content who item m).change_replica
              (sym (new_replica content who item m)) (sym (new_replica content who item m)),
        );
        replica = rw (new_replica content who item m) id;
        create_tick = new_create.create_tick;
        create_replica = new_create.create_replica;
        order = λ h. omega (arith, new_tick_lem content who item m, new_create.order (rw (new_item_lem content who item m) at h));
      }

  -- a version of before has another tick than the new one, or another replica
  old_new : (v : Rec) → Mem v m.versions → v.change_replica ≡ (new_version content who item m).change_replica → v.change_tick ≡ (new_version content who item m).change_tick → ⊥
  old_new v n e d =
      omega (arith, (g.made v n).within 0, next_above v.change_replica 0 v.change_replica (sym (e ∙ new_replica content who item m)), new_tick_lem content who item m)

  changes_apart : Apart (m.versions ++ (new_version content who item m ∷ []))
  changes_apart v w n o e d = go (mem_added v (new_version content who item m) m.versions n) (mem_added w (new_version content who item m) m.versions o)
    where
      go : Mem v m.versions ⊎ (v ≡ new_version content who item m) → Mem w m.versions ⊎ (w ≡ new_version content who item m) → v ≡ w
      go (inl a) (inl b) = g.apart v w a b e d
      go (inl a) (inr b) = absurd (old_new v a (e ∙ ap (λ (x : Rec). x.change_replica) b) (d ∙ ap (λ (x : Rec). x.change_tick) b))
      go (inr a) (inl b) = absurd (old_new w b (sym e ∙ ap (λ (x : Rec). x.change_replica) a) (sym d ∙ ap (λ (x : Rec). x.change_tick) a))
      go (inr a) (inr b) = a ∙ sym b

  changes_strangers : (q i p : ℕ) → 256 ^ 16 ≤ p → (changes content who item m).ticks q i p ≡ 0
  changes_strangers q i p h =
      elim (whose who q p) [
        | own e d ↦ absurd (lt_irrefl p (le_trans (rw d at id) h))
        | other n ↦ changes_same content who item m q i p n ∙ g.strangers q i p h
      ]

  changes_creates : (r : Rec) → Mem r (m.versions ++ (new_version content who item m ∷ [])) → (q : ℕ)
      → Contained ((changes content who item m).ticks q) r → r.create_tick ≤ (changes content who item m).ticks q r.item r.create_replica
  changes_creates r n q c = go (mem_added r (new_version content who item m) m.versions n)
    where
      new : Contained ((changes content who item m).ticks q) (new_version content who item m)
          → (new_version content who item m).create_tick ≤ (changes content who item m).ticks q (new_version content who item m).item
          (new_version content who item m).create_replica
      new h =
          elim (whose who q (new_version content who item m).change_replica) [
            | own e d ↦ rw (new_item_lem content who item m) (new_create.within q e)
            | other o ↦ absurd (fresh q (h.0, omega (arith, changes_same content who item m q (new_version content who item m).item (new_version content who item m).change_replica o)))
          ]

      go : Mem r m.versions ⊎ (r ≡ new_version content who item m) → r.create_tick ≤ (changes content who item m).ticks q r.item r.create_replica
      go (inl a) = le_trans (g.creates r a q (contained_before r a q c)) (changes_grows q r.item r.create_replica)
      go (inr e) = rw e (new (rw e at c))

  changes_carries : (r : Rec) → Mem r (m.versions ++ (new_version content who item m ∷ [])) → (b : Remembered) → Mem b m.batches
      → Contained b.ticks r → r.create_tick ≤ b.ticks r.item r.create_replica
  changes_carries r n b o c =
      ⊎_elim (λ (a : Mem r m.versions). g.carries r a b o c)
      (λ (e : r ≡ new_version content who item m). absurd (fresh_batch b o (rw e at c)))
      (mem_added r (new_version content who item m) m.versions n)

  changes_made : (r : Rec) → Mem r (m.versions ++ (new_version content who item m ∷ [])) → Made (changes content who item m) r
  changes_made r n =
      ⊎_elim (λ (a : Mem r m.versions). old_made r a) (λ (e : r ≡ new_version content who item m). rw e new_made) (mem_added r (new_version content who item m) m.versions n)

  pub good_changes : Good (changes content who item m)
  good_changes =
      record {
        replicas = changes_replicas;
        remembered = λ b n p i j. le_trans (g.remembered b (rw changes_batches at n) p i j) (changes_grows p j p);
        made = λ r n. changes_made r (rw changes_versions at n);
        apart = rw changes_versions changes_apart;
        strangers = changes_strangers;
        unheard = λ b n. g.unheard b (rw changes_batches at n);
        creates = λ r n. changes_creates r (rw changes_versions at n);
        carries = λ r n b o. changes_carries r (rw changes_versions at n) b (rw changes_batches at o);
      }
