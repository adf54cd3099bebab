-- The machine's invariant along every history: a make remembers what a replica knows, so the batch inherits what holds
-- of the replica; an apply takes, inside the span, the larger of two ticks that are both at most the tick of their own
-- replica, and a version contained in the larger of two ticks is contained in one of them, with its create version.
use Prim.Native.Nat.{ℕ, ◌^◌, ◌≤◌, max}
use mathlib.Core.Path.{◌≡◌, refl}
use mathlib.Core.Logic.{⊎_elim}
use mathlib.Core.Bool.{Bool, true, false}
use mathlib.Core.List.{List, [], ◌∷◌, ◌++◌}
use mathlib.Core.Option.{Option, none, some}
use native.Mathlib.Nat.{le_trans}
use native.Mathlib.Omega.{arith}
use lib.Dec.{leb}
use borrow.Author.Tests.{leb-true, leb-false}
use Rattle.layout.specs.Knowledge.{Rules, All}
use Rattle.replication.specs.Lists.{World, writes, keep, trace}
use Rattle.replication.specs.Machine.{Ticks, Remembered, State, initial, value, applies, acts, history, live, dead, remembered_at}
use Rattle.replication.proofs.Machine.Best.{Mem, mem_added, Contained}
use Rattle.replication.proofs.Machine.Steps.{numbered_mem, taken_by, unchanged, raised, learned, applies_versions, applies_batches}
use Rattle.replication.proofs.Machine.Laws.{Good, good_initial, good_changes}
use Rattle.replication.specs.Record.{Rec}
use Rattle.replication.specs.Call.{edit, delete, make, apply, Call, Fed, Given}

-- ---- a make

module _ (who first last : ℕ) (m : State) (g : Good m) where
  -- what holds of the replica's ticks holds of the batch's
  from_maker : (P : Ticks → Type 0) (b : Remembered) → (Mem b m.batches → P b.ticks) → P (m.ticks who) → Mem b (m.batches ++ (taken_by who first last m ∷ [])) → P b.ticks
  from_maker P b old new n =
      ⊎_elim old (λ (e : b ≡ taken_by who first last m). rw e new) (mem_added b (taken_by who first last m) m.batches n)

  pub good_make : Good (record { versions = m.versions; ticks = m.ticks; batches = m.batches ++ (taken_by who first last m ∷ []) })
  good_make =
      record {
        replicas = g.replicas;
        remembered = λ b n p i j. from_maker (λ k. k i p ≤ m.ticks p j p) b (λ o. g.remembered b o p i j) (g.replicas who p i j) n;
        made = λ r n.
            let a = g.made r n in
            record {
              tick = a.tick;
              within = a.within;
              replica = a.replica;
              create_tick = a.create_tick;
              create_replica = a.create_replica;
              order = a.order;
            };
        apart = g.apart;
        strangers = g.strangers;
        unheard = λ b n i p h. from_maker (λ k. k i p ≡ 0) b (λ o. g.unheard b o i p h) (g.strangers who i p h) n;
        creates = g.creates;
        carries = λ r n b o. from_maker (λ k. Contained k r → r.create_tick ≤ k r.item r.create_replica) b (λ a. g.carries r n b a) (g.creates r n who) o;
      }

-- ---- an apply

module _ (who : ℕ) (b : Remembered) (m : State) (here : Mem b m.batches) (g : Good m) where
  pub applies_grows : (q i p : ℕ) → m.ticks q i p ≤ (applies who (some b) m).ticks q i p
  applies_grows q i p =
      elim (learned who b q i) [
        | unchanged f ↦ omega (arith, f m p)
        | raised e h l f ↦ omega (arith, f m p)
      ]

  -- a tick after an apply is at most the own tick before it
  applies_most : (q p i j : ℕ) → (applies who (some b) m).ticks q i p ≤ m.ticks p j p
  applies_most q p i j =
      elim (learned who b q i) [
        | unchanged f ↦ omega (arith, f m p, g.replicas q p i j)
        | raised e h l f ↦ omega (arith, f m p, g.replicas q p i j, g.remembered b here p i j)
      ]

  applies_strangers : (q i p : ℕ) → 256 ^ 16 ≤ p → (applies who (some b) m).ticks q i p ≡ 0
  applies_strangers q i p h = omega (arith, applies_most q p i 0, g.strangers p 0 p h)

  applies_creates : (r : Rec) → Mem r m.versions → (q : ℕ) → Contained ((applies who (some b) m).ticks q) r → r.create_tick ≤ (applies who (some b) m).ticks q r.item r.create_replica
  applies_creates r n q c =
      elim (learned who b q r.item) [
        | unchanged f ↦ omega (arith, f m r.create_replica, g.creates r n q (omega (arith, f m r.change_replica)))
        | raised e h l f ↦ go (f m) (leb r.change_tick (m.ticks q r.item r.change_replica)) refl
      ]
    where
      go : ((p : ℕ) → (applies who (some b) m).ticks q r.item p ≡ max (m.ticks q r.item p) (b.ticks r.item p)) → (t : Bool)
          → leb r.change_tick (m.ticks q r.item r.change_replica) ≡ t
          → r.create_tick ≤ (applies who (some b) m).ticks q r.item r.create_replica
      go f true e =
          omega (arith, f r.create_replica, g.creates r n q (c.0, leb-true r.change_tick (m.ticks q r.item r.change_replica) e))
      go f false e =
          let h : r.change_tick ≤ b.ticks r.item r.change_replica = omega (arith, f r.change_replica, leb-false r.change_tick (m.ticks q r.item r.change_replica) e) in
          omega (arith, f r.create_replica, g.carries r n b here (c.0, h))

  pub good_apply : Good (applies who (some b) m)
  good_apply =
      record {
        replicas = λ q p i j. le_trans (applies_most q p i j) (applies_grows p j p);
        remembered = λ a n p i j. le_trans (g.remembered a (rw applies_batches at n) p i j) (applies_grows p j p);
        made = λ r n.
            let a = g.made r (rw applies_versions at n) in
            record {
              tick = a.tick;
              within = λ j. le_trans (a.within j) (applies_grows r.change_replica j r.change_replica);
              replica = a.replica;
              create_tick = a.create_tick;
              create_replica = a.create_replica;
              order = a.order;
            };
        apart = rw applies_versions g.apart;
        strangers = applies_strangers;
        unheard = λ a n. g.unheard a (rw applies_batches at n);
        creates = λ r n. applies_creates r (rw applies_versions at n);
        carries = λ r n a o. g.carries r (rw applies_versions at n) a (rw applies_batches at o);
      }

-- ---- every call

pub good_acts : (m : State) (c : Call) → Given c → Good m → Good (acts m c)
unfolding acts
good_acts m (edit who item b room) h g = good_changes (live b) who (value 0 item) m h.0 g
good_acts m (delete who item room) h g = good_changes dead who (value 0 item) m h.0 g
good_acts m (make who knowledge first last room) h g = good_make who (value 0 first) (value 0 last) m g
good_acts m (apply who which room) h g = go (remembered_at which m.batches) refl
  where
    go : (o : Option Remembered) → remembered_at which m.batches ≡ o → Good (applies who o m)
    go none e = unfold applies in g
    go (some b) e = good_apply who b m (numbered_mem which m.batches b e) g

-- a refused call does nothing, another one acts
pub history_refused : (m : State) (x : Fed) (xs : List Fed) → x.refused ≡ true → history m (x ∷ xs) ≡ history m xs
unfolding history
history_refused m x xs e = rw (e, history)

pub history_acts : (m : State) (x : Fed) (xs : List Fed) → x.refused ≡ false → history m (x ∷ xs) ≡ history (acts m x.call) xs
unfolding history
history_acts m x xs e = rw (e, history)

pub good_history : (m : State) (xs : List Fed) → All (λ x. Given x.call) xs → Good m → Good (history m xs)
good_history m [] h g = unfold history in g
good_history m (x ∷ xs) h g = go x.refused refl (λ n. good_history n xs h.1)
  where
    go : (t : Bool) → x.refused ≡ t → ((n : State) → Good n → Good (history n xs)) → Good (history m (x ∷ xs))
    go true e next = rw (history_refused m x xs e) (next m g)
    go false e next = rw (history_acts m x xs e) (next (acts m x.call) (good_acts m x.call h.0 g))

-- the histories that lists of calls feed
pub trace_given : (R : Rules) (w : World) (calls : List Call) → All Given calls → All (λ x. Given x.call) (trace R w calls)
unfolding trace
trace_given R w [] h = tt
trace_given R w (c ∷ cs) h = (h.0, trace_given R (keep w c (writes R w c)) cs h.1)

pub good_trace : (R : Rules) (w : World) (calls : List Call) → All Given calls → Good (history initial (trace R w calls))
good_trace R w calls h = good_history initial (trace R w calls) (trace_given R w calls h) good_initial
