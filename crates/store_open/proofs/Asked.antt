-- What is asked of the records of a table. A create version need not be looked for where it has the change version's replica and no later
-- tick: it is asked of the same element of the same clock vector (`tick_less`). What is asked at a cursor that follows the records is asked of
-- the knowledge (`follows_asked`). That learned contains both versions and that needed lacks the change version is asked in two
-- passes: the one and the other of each record is the one of each and the other of each (`each_both`).
use Prim.Native.Nat.{ℕ, ◌+◌, ◌≤◌, ◌<◌}
use mathlib.Core.Path.{◌≡◌, refl, sym, ap, ap₂, ◌∙◌}
use mathlib.Core.Bool.{Bool, true, false, not}
use mathlib.Core.List.{List, [], ◌∷◌}
use native.Mathlib.Omega.{arith}
use borrow.Author.Tests.{le-leb, leb-true}
use Rattle.codec.specs.Number.{be_at}
use Rattle.codec.specs.Words.{words2}
use Rattle.codec.proofs.Total.{read_there}
use Rattle.layout.specs.Knowledge.{Knowledge}
use Rattle.layout.specs.Decode.{decode}
use Rattle.replication.specs.Record.{Rec}
use Rattle.replication.specs.Reading.{rec_at, both, change_replica_place, change_tick_place, create_replica_place, create_tick_place}
use Rattle.replication.specs.OpenStore.{versions_in}
use Rattle.replication.specs.OpenBatch.{lacks_change}
use Rattle.replication.specs.MethodRecords.{each, WholeAt}
use Rattle.replication.proofs.Tables.InBytes.{each_nil, each-cons}
use Rattle.lookup.specs.declared.Cursor.{Cursor}
use Rattle.lookup.specs.Method.{key_at, tick_of}
use Rattle.records_versions.specs.Method.{moved_to, tick_in, change_in, create_in, both_in}
use Rattle.records_versions.proofs.Versions.{version_in_is}
use Rattle.records_versions.proofs.Passing.{Follows, follows_change, follows_both}
use Rattle.store_open.specs.declared.Wanted.{Wanted}
use Rattle.store_open.specs.declared.Wanted.TheVariants.{Contained, Lacking}
use Rattle.store_open.specs.MethodEach.{asked_in, asked, carried_by}

-- ---- one record

tick_less : (k : List ℕ) (r vector p q tick t : ℕ) → p ≡ q → t ≤ tick → tick_in k r vector p tick ≡ true
    → tick_in k r vector q t ≡ true
unfolding tick_in
tick_less k r vector p q tick t e l h =
    let m = leb-true tick (tick_of k vector (key_at k r p)) h in
    let n : tick_of k vector (key_at k r p) ≡ tick_of k vector (key_at k r q) = ap (λ x. tick_of k vector (key_at k r x)) e in
    le-leb t (tick_of k vector (key_at k r q)) (omega arith)

-- of the whole record at a place, with the change version read
module _ (s : List ℕ) (at : ℕ) (w : WholeAt s at) (k : List ℕ) (r vector p0 p1 tick : ℕ)
    (e : words2 p0 p1 ≡ be_at s 16 (at + change_replica_place)) (f : tick ≡ be_at s 8 (at + change_tick_place))
    (b : Bool) (is : b ≡ tick_in k r vector (words2 p0 p1) tick) (z : Wanted) where
  change_is : b ≡ change_in s at k r vector
  change_is =
      version_in_is k r vector s (at + change_replica_place) (at + change_tick_place) p0 p1 tick b
      (e ∙ sym (read_there s 16 (at + change_replica_place) w.change_replica))
      (f ∙ sym (read_there s 8 (at + change_tick_place) w.change_tick)) is

  pub asked_lacking : z ≡ Lacking → not b ≡ asked_in z s at k r vector
  unfolding asked_in
  asked_lacking u = ap not change_is ∙ sym (ap (λ x. asked_in x s at k r vector) u)

  module _ (u : z ≡ Contained) where
    both_is : asked_in z s at k r vector ≡ both b (create_in s at k r vector)
    unfolding asked_in both_in
    both_is = ap (λ x. asked_in x s at k r vector) u ∙ ap (λ (x : Bool). both x (create_in s at k r vector)) (sym change_is)

    pub asked_none : b ≡ false → false ≡ asked_in z s at k r vector
    asked_none t = sym (both_is ∙ ap (λ (x : Bool). both x (create_in s at k r vector)) t)

    module _ (t : b ≡ true) (q0 q1 x : ℕ) (g : words2 q0 q1 ≡ be_at s 16 (at + create_replica_place))
        (h : x ≡ be_at s 8 (at + create_tick_place)) where
      pub asked_create : (d : Bool) → d ≡ tick_in k r vector (words2 q0 q1) x → d ≡ asked_in z s at k r vector
      asked_create d i =
          version_in_is k r vector s (at + create_replica_place) (at + create_tick_place) q0 q1 x d
          (g ∙ sym (read_there s 16 (at + create_replica_place) w.create_replica))
          (h ∙ sym (read_there s 8 (at + create_tick_place) w.create_tick)) i
          ∙ sym (both_is ∙ ap (λ (y : Bool). both y (create_in s at k r vector)) t)

      pub asked_same : words2 p0 p1 ≡ words2 q0 q1 → x ≤ tick → true ≡ asked_in z s at k r vector
      asked_same i l = asked_create true (sym (tick_less k r vector (words2 p0 p1) (words2 q0 q1) tick x i l (sym is ∙ t)))

-- of the record that the cursor was moved on to
module _ (s k : List ℕ) (r n at : ℕ) (c : Cursor) (f : Follows s k r n at c) (some : 0 < n) (d : Cursor) (moved : d ≡ moved_to s at k r c) where
  pub follows_asked : (z : Wanted) (b : Bool) → b ≡ asked_in z s at k r d.vector → b ≡ asked z (decode k) (rec_at s at)
  unfolding asked_in asked lacks_change
  follows_asked Lacking b e = e ∙ ap not (follows_change s k r n at c f some d moved (change_in s at k r d.vector) refl)
  follows_asked Contained b e = follows_both s k r n at c f some d moved b e

-- ---- each record of a table

pub asked_contained : (k : Knowledge) (rs : List Rec) (b : Bool) → b ≡ each (asked Contained k) rs → b ≡ each (versions_in k) rs
unfolding asked
asked_contained k rs b e = e

pub asked_each_lacking : (k : Knowledge) (rs : List Rec) (b : Bool) → b ≡ each (asked Lacking k) rs → b ≡ each (lacks_change k) rs
unfolding asked
asked_each_lacking k rs b e = e

both_swap : (a b c d : Bool) → both (both a b) (both c d) ≡ both (both a c) (both b d)
both_swap true true c d = refl
both_swap true false true d = refl
both_swap true false false d = refl
both_swap false b c d = refl

module _ (P Q S : Rec → Bool) (is : (r : Rec) → S r ≡ both (P r) (Q r)) where
  each_both : (rs : List Rec) → each S rs ≡ both (each P rs) (each Q rs)
  each_both [] = each_nil S ∙ sym (ap₂ both (each_nil P) (each_nil Q))
  each_both (r ∷ rs) =
      each-cons S r rs ∙ ap₂ both (is r) (each_both rs) ∙ both_swap (P r) (Q r) (each P rs) (each Q rs)
      ∙ sym (ap₂ both (each-cons P r rs) (each-cons Q r rs))

module _ (needed learned : Knowledge) (rs : List Rec) (a : Bool) (e : a ≡ each (versions_in learned) rs) where
  passes : each (carried_by needed learned) rs ≡ both a (each (lacks_change needed) rs)
  unfolding carried_by
  passes =
      each_both (versions_in learned) (lacks_change needed) (carried_by needed learned) (λ r. refl) rs
      ∙ ap (λ (x : Bool). both x (each (lacks_change needed) rs)) (sym e)

  pub carried_yes : a ≡ true → (b : Bool) → b ≡ each (lacks_change needed) rs → b ≡ each (carried_by needed learned) rs
  carried_yes t b f = f ∙ sym (passes ∙ ap (λ (x : Bool). both x (each (lacks_change needed) rs)) t)

  pub carried_no : a ≡ false → false ≡ each (carried_by needed learned) rs
  carried_no t = sym (passes ∙ ap (λ (x : Bool). both x (each (lacks_change needed) rs)) t)
