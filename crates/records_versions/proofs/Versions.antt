-- A record asked of a knowledge. For accepted bytes and a cursor that stands at the record's item, the tick that the clock vector has for a
-- replica is the known one (`stands_known`). A valid record's ticks are 1 or more, so what is asked is whether the knowledge contains
-- the version (`change_in_lem`, `create_in_lem`, `both_in_lem`). Moved on to the next record's item, the cursor stands there (`moved_stands`).
use Prim.Native.Nat.{ℕ, suc, ◌+◌, ◌≤◌}
use mathlib.Core.Path.{◌≡◌, refl, sym, ap, ap₂, ◌∙◌, subst}
use mathlib.Core.Bool.{Bool, true, false}
use mathlib.Core.List.{List}
use native.Mathlib.Omega.{arith}
use lib.Dec.{leb}
use lib.ListN.{length}
use borrow.Author.Tests.{leb-true, leb-false}
use Rattle.codec.specs.Number.{be_at}
use Rattle.codec.specs.Total.{read_at}
use Rattle.codec.specs.Words.{words2, words3}
use Rattle.codec.proofs.Total.{read_there}
use Rattle.layout.specs.declared.ReplicaKey.{ReplicaKey}
use Rattle.layout.specs.Knowledge.{Rules, Knowledge}
use Rattle.layout.specs.Decode.{decode}
use Rattle.ticks.specs.Meaning.{known, contains}
use Rattle.ticks.proofs.Algebra.{contains_yes, contains_more}
use Rattle.replication.specs.Record.{Rec}
use Rattle.replication.specs.Reading.{item_place, change_replica_place, change_tick_place, create_replica_place, create_tick_place}
use Rattle.replication.specs.Reading.{rec_at, both, valid_rec}
use Rattle.replication.specs.MethodRecords.{WholeAt}
use Rattle.replication.specs.OpenStore.{versions_in}
use Rattle.replication.proofs.Tables.Rising.{both_parts}
use Rattle.lookup.specs.declared.Cursor.{Cursor}
use Rattle.lookup.specs.Method.{key_at, advanced, tick_of}
use Rattle.lookup.proofs.Leaf.{Stands, stands_advanced, stands_known}
use Rattle.records_versions.specs.Method.{moved_to, tick_in, version_in, change_in, create_in, both_in}

-- ---- what the code reads

pub moved_is : (s : List ℕ) (at : ℕ) (k : List ℕ) (r : ℕ) (c d : Cursor) (i0 i1 i2 : ℕ) → words3 i0 i1 i2 ≡ read_at s 24 (at + item_place)
    → d ≡ advanced k r c (words3 i0 i1 i2) → d ≡ moved_to s at k r c
unfolding moved_to
moved_is s at k r c d i0 i1 i2 e f = f ∙ ap (advanced k r c) e

module _ (k : List ℕ) (r vector : ℕ) where
  pub tick_in_is : (p tick t : ℕ) (key : ReplicaKey) → key ≡ key_at k r p → t ≡ tick_of k vector key → leb tick t ≡ tick_in k r vector p tick
  unfolding tick_in
  tick_in_is p tick t key e f = ap (leb tick) (f ∙ ap (tick_of k vector) e)

  pub version_in_is : (s : List ℕ) (replica tick p0 p1 t : ℕ) (b : Bool) → words2 p0 p1 ≡ read_at s 16 replica → t ≡ read_at s 8 tick
      → b ≡ tick_in k r vector (words2 p0 p1) t → b ≡ version_in s replica tick k r vector
  unfolding version_in
  version_in_is s replica tick p0 p1 t b e f h = h ∙ ap₂ (tick_in k r vector) e f

-- ---- the ticks of a valid record

pub record SomeTicks (r : Rec) : Type 0 where
  pub change : 1 ≤ r.change_tick
  pub create : 1 ≤ r.create_tick

pub valid_ticks : (r : Rec) → valid_rec r ≡ true → SomeTicks r
unfolding valid_rec
valid_ticks r v =
    let a = both_parts (leb 1 r.create_tick) _ v in
    let b = both_parts (leb r.create_tick r.change_tick) _ a.1 in
    let c = leb-true 1 r.create_tick a.0 in
    record { change = omega (arith, c, leb-true r.create_tick r.change_tick b.0); create = c }

-- ---- the versions that a knowledge contains

-- with a tick of 1 or more, only the known tick decides
contains_later : (k : Knowledge) (i p t : ℕ) → 1 ≤ t → leb t (known k i p) ≡ contains k i p t
contains_later k i p t h = go (leb t (known k i p)) refl
  where
    go : (b : Bool) → leb t (known k i p) ≡ b → leb t (known k i p) ≡ contains k i p t
    go true e = e ∙ sym (contains_yes k i p t h (leb-true t (known k i p) e))
    go false e = e ∙ sym (contains_more k i p t (leb-false t (known k i p) e))

module _ (R : Rules) (k : List ℕ) (r : ℕ) (c : Cursor) where
  module _ (i : ℕ) (st : Stands R k r c (suc i)) where
    -- at an item, a replica and a tick
    tick_in_lem : (p t : ℕ) → 1 ≤ t → tick_in k r c.vector p t ≡ contains (decode k) i p t
    unfolding tick_in
    tick_in_lem p t h =
        ap (leb t) (stands_known R k r c (suc i) st i (omega arith) st.ahead p) ∙ contains_later (decode k) i p t h

    -- and where these are read
    version_in_lem : (s : List ℕ) (replica tick : ℕ) → replica + 16 ≤ length s → tick + 8 ≤ length s → 1 ≤ be_at s 8 tick
        → version_in s replica tick k r c.vector ≡ contains (decode k) i (be_at s 16 replica) (be_at s 8 tick)
    unfolding version_in
    version_in_lem s replica tick a b h =
        ap₂ (tick_in k r c.vector) (read_there s 16 replica a) (read_there s 8 tick b) ∙ tick_in_lem (be_at s 16 replica) (be_at s 8 tick) h

  module _ (s : List ℕ) (at : ℕ) (w : WholeAt s at) where
    item_read_lem : read_at s 24 (at + item_place) ≡ (rec_at s at).item
    unfolding rec_at
    item_read_lem = read_there s 24 (at + item_place) w.item

    pub moved_stands : (n : ℕ) → Stands R k r c n → n ≤ suc (rec_at s at).item → Stands R k r (moved_to s at k r c) (suc (rec_at s at).item)
    unfolding moved_to
    moved_stands n st l =
        subst (λ i. Stands R k r (advanced k r c i) (suc (rec_at s at).item)) (sym item_read_lem)
        (stands_advanced R k r c n st (rec_at s at).item l)

    module _ (st : Stands R k r c (suc (rec_at s at).item)) (t : SomeTicks (rec_at s at)) where
      pub change_in_lem : change_in s at k r c.vector
          ≡ contains (decode k) (rec_at s at).item (rec_at s at).change_replica (rec_at s at).change_tick
      unfolding rec_at
      change_in_lem =
          version_in_lem (rec_at s at).item st s (at + change_replica_place) (at + change_tick_place) w.change_replica w.change_tick t.change

      pub create_in_lem : create_in s at k r c.vector
          ≡ contains (decode k) (rec_at s at).item (rec_at s at).create_replica (rec_at s at).create_tick
      unfolding rec_at
      create_in_lem =
          version_in_lem (rec_at s at).item st s (at + create_replica_place) (at + create_tick_place) w.create_replica w.create_tick t.create

      pub both_in_lem : both_in s at k r c.vector ≡ versions_in (decode k) (rec_at s at)
      unfolding both_in versions_in
      both_in_lem = ap₂ {C = Bool} both change_in_lem create_in_lem
