-- The places of clock vectors, in a table. Stepping over n vectors and then over m is stepping over n + m, for any bytes (`stepped-add`): so
-- from any vector whose place is known, walking leads to the place that the table has (`place_taken`), and the table is filled
-- vector by vector (`Filling`). The cursor that is moved on with the table is the one that is moved on by walking (`move_is`).
use Prim.Native.Nat.{ℕ, zero, suc, ◌+◌, ◌-◌, ◌*◌, ◌≤◌, ◌<◌}
use mathlib.Core.Path.{◌≡◌, refl, sym, ap, ◌∙◌}
use mathlib.Core.List.{List}
use native.Mathlib.Omega.{arith}
use lib.ListN.{length, get_or, set, take, length-set}
use lib.Seq.{get_or-set_same, get_or-set_other, get_or-take, length-take-le}
use Rattle.codec.specs.Number.{be_at}
use Rattle.codec.specs.declared.Item.{Item}
use Rattle.codec.specs.Ids.{item_of}
use Rattle.codec.proofs.Total.{read_there}
use Rattle.layout.specs.declared.VectorIndex.{VectorIndex}
use Rattle.layout.specs.Knowledge.{Rules}
use Rattle.layout.specs.MethodPlaces.{vectors_place, count_at}
use Rattle.ticks.proofs.Lists.{Order, less, same, more, order}
use Rattle.replication.specs.Reading.{item_place}
use Rattle.replication.specs.MethodRecords.{WholeAt}
use Rattle.lookup.specs.declared.Cursor.{Cursor}
use Rattle.lookup.specs.Method.{stepped, vector_from, passed}
use Rattle.lookup.proofs.Loops.{stepped-zero, stepped_on, stepped_stop, from_here, from_first_lem, cursor, advance_is}
use Rattle.lookup.proofs.Leaf.{Stands, first_place, next_place}
use Rattle.records_versions.specs.Method.{moved_to}
use Rattle.records_versions.proofs.Versions.{moved_is}
use Rattle.store_open.specs.MethodEach.{VectorPlaces, CursorAt}

stepped-add : (s : List ℕ) (n m at : ℕ) → stepped s (n + m) at ≡ stepped s m (stepped s n at)
stepped-add s zero m at =
    let z : 0 + m ≡ m = omega arith in
    ap (λ x. stepped s x at) z ∙ sym (ap (stepped s m) (stepped-zero s at))
stepped-add s (suc n) m at =
    let next = at + 8 + 12 * count_at s at in
    let z : suc n + m ≡ suc (n + m) = omega arith in
    let on : at + 8 ≤ length s → stepped s (suc n + m) at ≡ stepped s m (stepped s (suc n) at) =
    λ h.
    ap (λ x. stepped s x at) z ∙ stepped_on s (n + m) at h ∙ stepped-add s n m next ∙ sym (ap (stepped s m) (stepped_on s n at h)) in
    elim (order (length s) (at + 8)) [
      | less h ↦ stepped_stop s (suc n + m) at h ∙ sym (ap (stepped s m) (stepped_stop s (suc n) at h) ∙ stepped_stop s m at h)
      | same h ↦ on (omega arith)
      | more h ↦ on (omega arith)
    ]

-- one vector further
pub next_stays : (s : List ℕ) (at : ℕ) → length s < at + 8 → at ≡ stepped s 1 at
next_stays s at h = sym (stepped_stop s 1 at h)

pub next_on : (s : List ℕ) (at n : ℕ) → at + 8 ≤ length s → n ≡ count_at s at → at + 8 + 12 * n ≡ stepped s 1 at
next_on s at n h e =
    sym (stepped_on s 0 at h ∙ stepped-zero s (at + 8 + 12 * count_at s at) ∙ ap (λ x. at + 8 + 12 * x) (sym e))

-- from a vector whose place is known to any other
place_from : (s : List ℕ) (r : ℕ) (a : VectorIndex) (at : ℕ) (b : VectorIndex) → at ≡ stepped s a.0 (vectors_place r)
    → stepped s b.0 (vectors_place r) ≡ vector_from s r a at b
place_from s r a at b is =
    elim (order b.0 a.0) [
      | less l ↦ from_first_lem s r a at b (stepped s b.0 (vectors_place r)) l refl
      | same l ↦ onwards (omega arith)
      | more l ↦ onwards (omega arith)
    ]
  where
    onwards : a.0 ≤ b.0 → stepped s b.0 (vectors_place r) ≡ vector_from s r a at b
    onwards l =
        let z : b.0 ≡ a.0 + (b.0 - a.0) = omega arith in
        from_here s r a at b (stepped s b.0 (vectors_place r)) l
        (ap (λ n. stepped s n (vectors_place r)) z ∙ stepped-add s a.0 (b.0 - a.0) (vectors_place r)
        ∙ ap (stepped s (b.0 - a.0)) (sym is))

pub place_taken : (k : List ℕ) (r n : ℕ) (places : List ℕ) → VectorPlaces k r n places → (a : VectorIndex) (at : ℕ) (b : VectorIndex)
    → at ≡ stepped k a.0 (vectors_place r) → b.0 < n → get_or places b.0 0 ≡ vector_from k r a at b
place_taken k r n places p a at b is l = p.is b.0 l ∙ place_from k r a at b is

-- ---- the table, filled up to number j, and the place of vector j

pub record Filling (k : List ℕ) (r n j at : ℕ) (places : List ℕ) : Type 0 where
  pub room : n ≤ length places
  pub below : j ≤ n
  pub next : at ≡ stepped k j (vectors_place r)
  pub is : (i : ℕ) → i < j → get_or places i 0 ≡ stepped k i (vectors_place r)

pub filling_start : (k : List ℕ) (r n : ℕ) (places : List ℕ) → n ≤ length places → Filling k r n 0 (vectors_place r) places
filling_start k r n places h =
    record { room = h; below = omega arith; next = sym (stepped-zero k (vectors_place r)); is = λ i l. absurd (omega arith) }

module _ (k : List ℕ) (r n j at : ℕ) (places : List ℕ) (f : Filling k r n j at places) where
  pub filling_on : j < n → (next : ℕ) → next ≡ stepped k 1 at → Filling k r n (j + 1) next (set places j at)
  filling_on l next e =
      record {
        room = omega (arith, f.room, length-set places j at);
        below = omega arith;
        next = e ∙ ap (stepped k 1) f.next ∙ sym (stepped-add k j 1 (vectors_place r));
        is = λ i m. filled i m (order i j);
      }
    where
      filled : (i : ℕ) → i < j + 1 → Order i j → get_or (set places j at) i 0 ≡ stepped k i (vectors_place r)
      filled i m (less h) = get_or-set_other places j i at 0 (λ z. omega arith) ∙ f.is i h
      filled i m (same h) =
          ap (λ x. get_or (set places j at) x 0) h ∙ get_or-set_same places j at 0 (omega (arith, f.room)) ∙ f.next
          ∙ ap (λ x. stepped k x (vectors_place r)) (sym h)
      filled i m (more h) = absurd (omega arith)

  pub filling_end : n ≤ j → VectorPlaces k r n places
  filling_end h = record { room = f.room; is = λ i l. f.is i (omega arith) }

-- the part of the table that is filled
pub places_part : (k : List ℕ) (r n : ℕ) (places : List ℕ) → VectorPlaces k r n places
    → VectorPlaces k r (length (take n places)) (take n places)
places_part k r n places p =
    let size : length (take n places) ≡ n = length-take-le n places p.room in
    record { room = omega arith; is = λ j l. get_or-take n places j 0 (omega arith) ∙ p.is j (omega arith) }

-- ---- the cursor

pub cursor_at : (R : Rules) (k : List ℕ) (r : ℕ) (c : Cursor) (n : ℕ) → Stands R k r c n → CursorAt k r c
cursor_at R k r c n st =
    let first : VectorIndex = record { 0 = 0 } in
    record {
      room = st.room;
      vector =
          st.vector
          ∙ sym (next_place R k r st.v st.e st.g st.reading first c.index (vectors_place r) st.index
          (first_place R k r st.v st.e st.g st.reading))
          ∙ sym (place_from k r first (vectors_place r) c.index (sym (stepped-zero k (vectors_place r))));
    }

pub move_is : (s : List ℕ) (at : ℕ) → WholeAt s at → (k : List ℕ) (r : ℕ) (c d : Cursor) (i : Item) (p : ℕ) → CursorAt k r c
    → item_of i ≡ be_at s 24 (at + item_place) → d ≡ passed k (item_of i) c.left c
    → p ≡ vector_from k r c.index c.vector d.index → cursor d.left d.next d.index p ≡ moved_to s at k r c
move_is s at w k r c d i p st e f g =
    moved_is s at k r c (cursor d.left d.next d.index p) i.high i.middle i.low (e ∙ sym (read_there s 24 (at + item_place) w.item))
    (advance_is k r c (item_of i) d p st.room f g)
