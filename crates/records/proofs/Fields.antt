-- A record's length, whether a whole one stands at a place, the place behind it, its bytes, its fields, and which of two records wins.
--
-- The length comes from the kind alone. Past the end there is no record and the place behind is the place itself, since the byte read there
-- is 0, which is no kind; so each function of a place is total. Where a record is whole, all of its fields are there, so that the
-- total reads give the record's values; then the part of the bytes that it takes is what the record's values are written as.
use Prim.Native.Nat.{ℕ, zero, suc, ◌+◌, ◌-◌, ◌≤◌, ◌<◌}
use mathlib.Core.Path.{◌≡◌, refl, sym, ap, ap₂, ◌∙◌}
use mathlib.Core.Bool.{Bool, true, false}
use mathlib.Core.Logic.{inl, inr}
use mathlib.Core.List.{List, []}
use native.Mathlib.Omega.{arith}
use lib.Dec.{eqb, ltb, leb}
use lib.ListN.{length, get_or, take, drop, length-take, length-drop, get_or-eq_default}
use borrow.Author.Tests.{le-leb, lt-ltb, le-ltb, eq-eqb, ne_eqb, ltb-true, ltb-false, leb-true, leb-false}
use Rattle.codec.specs.Number.{Bytes, be_at}
use Rattle.codec.specs.Part.{part}
use Rattle.codec.specs.Total.{read_at}
use Rattle.codec.specs.Words.{words2, words3}
use Rattle.codec.specs.Ids.{item_of, replica_of, item_read, replica_read}
use Rattle.codec.specs.declared.Item.{Item}
use Rattle.codec.specs.declared.Replica.{Replica}
use Rattle.codec.proofs.Ids.{item_there, replica_there}
use Rattle.codec.proofs.Order.{words2_be}
use Rattle.codec.proofs.Reading.{be_one}
use Rattle.codec.proofs.Total.{read_there, read_missing}
use Rattle.leaves.proofs.Part.{part_at}
use Rattle.replication.specs.Record.{Rec}
use Rattle.replication.specs.Formats.{put_rec}
use Rattle.replication.specs.Operate.{wins}
use Rattle.replication.specs.Reading.{item_place, change_replica_place, change_tick_place, create_replica_place, create_tick_place, tag_place}
use Rattle.replication.specs.Reading.{rec_length, behind, content_at, rec_at, whole}
use Rattle.replication.specs.MethodRecords.{WholeAt}
use Rattle.replication.proofs.Bytes.Record.{rec_size, kind-length, kind_known, whole_exact, whole_back, rec_part}
use Rattle.replication.specs.Queries.{length_at}
use Rattle.records.specs.Method.{record_part, read_rec}

-- ---- lengths

module _ (kind : ℕ) where
  pub length-first : kind ≡ 1 → rec_size ≡ rec_length kind
  length-first e = sym (kind-length kind (inl e))

  pub length-second : kind ≡ 2 → rec_size ≡ rec_length kind
  length-second e = sym (kind-length kind (inr e))

  pub length_none : (kind ≡ 1 → ⊥) → (kind ≡ 2 → ⊥) → 0 ≡ rec_length kind
  unfolding rec_length
  length_none a b = sym (rw (ne_eqb kind 1 a, ne_eqb kind 2 b, rec_length))

-- no length is larger
pub length_most : (kind : ℕ) → rec_length kind ≤ rec_size
length_most kind = go (rec_length kind) refl
  where
    go : (n : ℕ) → rec_length kind ≡ n → rec_length kind ≤ rec_size
    go zero e = omega (arith, e)
    go (suc n) e = omega (arith, kind-length kind (kind_known kind (λ z. omega (arith, e, z))))

-- ---- places

get_d_past : (s : List ℕ) (at : ℕ) → length s ≤ at → get_or s at 0 ≡ 0
get_d_past s at l = get_or-eq_default s 0 l

module _ (s : List ℕ) (at : ℕ) where
  -- the kind at a place is read by a total read
  pub kind_read : read_at s 1 at ≡ be_at s 1 at
  kind_read = go (leb (at + 1) (length s)) refl
    where
      go : (t : Bool) → leb (at + 1) (length s) ≡ t → read_at s 1 at ≡ be_at s 1 at
      go true e = read_there s 1 at (leb-true (at + 1) (length s) e)
      go false e =
          let l = leb-false (at + 1) (length s) e in
          read_missing s 1 at (omega arith) ∙ sym (be_one s at ∙ get_d_past s at (omega arith))

  behind_is : behind s at ≡ at + rec_length (be_at s 1 at)
  unfolding behind
  behind_is = refl

  pub behind_past : length s ≤ at → at ≡ behind s at
  behind_past l =
      let k : be_at s 1 at ≡ 0 = be_one s at ∙ get_d_past s at l in
      let z : 0 ≡ rec_length (be_at s 1 at) = length_none (be_at s 1 at) (λ e. omega (arith, k, e)) (λ e. omega (arith, k, e)) in
      omega (arith, behind_is)

  -- by what would follow from a whole record
  not_whole : (whole s at ≡ true → ⊥) → whole s at ≡ false
  not_whole n = go (whole s at) refl
    where
      go : (t : Bool) → whole s at ≡ t → whole s at ≡ false
      go true e = absurd (n e)
      go false e = e

  pub whole_past : length s ≤ at → whole s at ≡ false
  whole_past l = not_whole (λ e. omega (arith, ((whole_exact s at).0 e).1))

  -- the length of the whole record
  pub length_whole : whole s at ≡ true → length_at s at ≡ rec_length (be_at s 1 at)
  unfolding length_at
  length_whole w = rw (w, length_at)

  pub length-size : whole s at ≡ true → length_at s at ≡ rec_size
  length-size w = length_whole w ∙ kind-length (be_at s 1 at) ((whole_exact s at).0 w).0

  pub length-nothing : whole s at ≡ false → length_at s at ≡ 0
  unfolding length_at
  length-nothing w = rw (w, length_at)

  pub length-past : length s ≤ at → 0 ≡ length_at s at
  length-past l = sym (length-nothing (whole_past l))

  -- the kind and the length of it, as the code reads them
  module _ (kind n : ℕ) (e : kind ≡ get_or s at 0) (f : n ≡ rec_length kind) where
    size : n ≡ rec_length (be_at s 1 at)
    size = f ∙ ap rec_length (e ∙ sym (be_one s at))

    pub behind_added : at + n ≡ behind s at
    behind_added = omega (arith, size, behind_is)

    pub length_cut : at < length s → length s - at < n → 0 ≡ length_at s at
    length_cut l h =
        sym (length-nothing (not_whole (λ w.
        omega (arith, size, kind-length (be_at s 1 at) ((whole_exact s at).0 w).0, ((whole_exact s at).0 w).1))))

    pub length-there : at < length s → n ≤ length s - at → n ≡ length_at s at
    length-there l h = go (whole s at) refl n refl
      where
        go : (t : Bool) → whole s at ≡ t → (m : ℕ) → n ≡ m → n ≡ length_at s at
        go true w m x = size ∙ sym (length_whole w)
        go false w zero x = x ∙ sym (length-nothing w)
        go false w (suc m) x =
            let k = kind_known (be_at s 1 at) (λ z. omega (arith, size, z, x)) in
            let y : true ≡ false = sym ((whole_exact s at).1 (k, omega (arith, size, kind-length (be_at s 1 at) k))) ∙ w in
            absurd (let z : ◌≡◌ {A = ℕ} 0 1 = cc in omega arith)

  -- what the length of the whole record says
  module _ (n : ℕ) (e : n ≡ length_at s at) where
    pub length-ends : n ≡ 0 → whole s at ≡ false
    length-ends z =
        not_whole (λ w. omega (arith, length_whole w, kind-length (be_at s 1 at) ((whole_exact s at).0 w).0))

    pub length_stands : (n ≡ 0 → ⊥) → whole s at ≡ true
    length_stands z = go (whole s at) refl
      where
        go : (t : Bool) → whole s at ≡ t → whole s at ≡ true
        go true w = w
        go false w = absurd (z (e ∙ length-nothing w))

    pub length-behind : (n ≡ 0 → ⊥) → at + n ≡ behind s at
    length-behind z = omega (arith, behind_is, length_whole (length_stands z))

-- ---- bytes

part_is : (s : List ℕ) (at n : ℕ) → at + n ≤ length s → part s at n ≡ take n (drop at s)
unfolding part
part_is s at n h = rw (le-leb (at + n) (length s) h, part)

part_none : (s : List ℕ) (at : ℕ) → part s at 0 ≡ []
unfolding part
part_none s at = go (leb (at + 0) (length s)) refl
  where
    go : (t : Bool) → leb (at + 0) (length s) ≡ t → ◌≡◌ {A = List ℕ} (elim t [ true ↦ take 0 (drop at s) | false ↦ [] ]) []
    go true e = refl
    go false e = refl

module _ (s : List ℕ) (at : ℕ) where
  part_by : record_part s at ≡ part s at (length_at s at)
  unfolding record_part
  part_by = refl

  pub part_nothing : whole s at ≡ false → record_part s at ≡ []
  part_nothing w = part_by ∙ (ap (part s at) (length-nothing s at w) ∙ part_none s at)

  pub part_whole : whole s at ≡ true → record_part s at ≡ take (rec_length (be_at s 1 at)) (drop at s)
  part_whole w =
      let k = (whole_exact s at).0 w in
      part_by
      ∙ (ap (part s at) (length_whole s at w)
      ∙ part_is s at (rec_length (be_at s 1 at)) (omega (arith, kind-length (be_at s 1 at) k.0, k.1)))

  pub part_length_lem : length (record_part s at) ≡ length_at s at
  part_length_lem = go (whole s at) refl
    where
      go : (t : Bool) → whole s at ≡ t → length (record_part s at) ≡ length_at s at
      go true w =
          let k = (whole_exact s at).0 w in
          let n = rec_length (be_at s 1 at) in
          ap length (part_whole w)
          ∙ omega (arith, length_whole s at w, kind-length (be_at s 1 at) k.0, k.1, length-take n (drop at s), length-drop at s)
      go false w = ap length (part_nothing w) ∙ sym (length-nothing s at w)

  -- the bytes of the whole record at a place are what its value is written as
  pub part_record : Bytes s → whole s at ≡ true → record_part s at ≡ put_rec (rec_at s at) []
  part_record b w = part_whole w ∙ rec_part s at b (whole_back s at w)

-- ---- fields

-- a field as the code reads it: all of its bytes are there, or it is 0
module _ (s : List ℕ) (at : ℕ) where
  pub item_part_there : at + 24 ≤ length s → (i : Item) → i ≡ item_read (take (at + 24 - at) (drop at s)) → item_of i ≡ be_at s 24 at
  item_part_there h i e =
      let id = take (at + 24 - at) (drop at s) in
      let l : 24 ≤ length id = omega (arith, h, length-take (at + 24 - at) (drop at s), length-drop at s) in
      ap item_of e ∙ item_there id l ∙ sym (read_there id 24 0 (omega (arith, l))) ∙ part_at s at 24 h

  pub item_part : at + 24 ≤ length s → (i : Item) → i ≡ item_read (take (at + 24 - at) (drop at s)) → item_of i ≡ read_at s 24 at
  item_part h i e = item_part_there h i e ∙ sym (read_there s 24 at h)

  pub item_missing : length s < at + 24 → words3 0 0 0 ≡ read_at s 24 at
  unfolding words3
  item_missing h = sym (read_missing s 24 at h)

  pub pair_read : (a b : ℕ) → a ≡ be_at s 8 at → b ≡ be_at s 8 (at + 8) → words2 a b ≡ be_at s 16 at
  pair_read a b e f = ap₂ words2 e f ∙ sym (words2_be s at)

  pub replica_part : at + 16 ≤ length s → (p : Replica) → p ≡ replica_read (take (at + 16 - at) (drop at s))
      → replica_of p ≡ read_at s 16 at
  replica_part h p e =
      let id = take (at + 16 - at) (drop at s) in
      let l : 16 ≤ length id = omega (arith, h, length-take (at + 16 - at) (drop at s), length-drop at s) in
      ap replica_of e ∙ replica_there id l ∙ sym (read_there id 16 0 (omega (arith, l))) ∙ part_at s at 16 h
      ∙ sym (read_there s 16 at h)

  pub replica_missing : length s < at + 16 → words2 0 0 ≡ read_at s 16 at
  unfolding words2
  replica_missing h = sym (read_missing s 16 at h)

  pub tick_total : at + 8 ≤ length s → (t : ℕ) → t ≡ be_at s 8 at → t ≡ read_at s 8 at
  tick_total h t e = e ∙ sym (read_there s 8 at h)

-- the fields of a record, by their places
module _ (s : List ℕ) (at : ℕ) where
  pub item_at : (rec_at s at).item ≡ be_at s 24 (at + item_place)
  unfolding rec_at
  item_at = refl

  pub change_tick_at : (rec_at s at).change_tick ≡ be_at s 8 (at + change_tick_place)
  unfolding rec_at
  change_tick_at = refl

  pub create_tick_at : (rec_at s at).create_tick ≡ be_at s 8 (at + create_tick_place)
  unfolding rec_at
  create_tick_at = refl

  pub tag_at : (rec_at s at).content.tag ≡ be_at s 16 (at + tag_place)
  unfolding rec_at content_at
  tag_at = refl

  pub deleted_at : (rec_at s at).content.deleted ≡ eqb (be_at s 1 at) 2
  unfolding rec_at content_at
  deleted_at = refl

  pub deleted_read : (kind : ℕ) → kind ≡ read_at s 1 at → eqb kind 2 ≡ (rec_at s at).content.deleted
  deleted_read kind e = ap (λ (k : ℕ). eqb k 2) (e ∙ kind_read s at) ∙ sym deleted_at

-- where the record is whole, the total reads give its values
module _ (s : List ℕ) (at : ℕ) (w : WholeAt s at) where
  pub item_word : read_at s 24 (at + item_place) ≡ (rec_at s at).item
  unfolding rec_at
  item_word = read_there s 24 (at + item_place) w.item

  tag_word : read_at s 16 (at + tag_place) ≡ be_at s 16 (at + tag_place)
  tag_word = read_there s 16 (at + tag_place) w.tag

  pub read_whole : read_rec s at ≡ rec_at s at
  unfolding read_rec rec_at content_at
  read_whole = rw (
    read_there s 24 (at + item_place) w.item,
    read_there s 16 (at + change_replica_place) w.change_replica,
    read_there s 8 (at + change_tick_place) w.change_tick,
    read_there s 16 (at + create_replica_place) w.create_replica,
    read_there s 8 (at + create_tick_place) w.create_tick,
    kind_read s at,
    tag_word,
  )

-- ---- which of two records wins

module _ (x y : Rec) where
  wins_less : x.change_tick < y.change_tick → wins x y ≡ true
  unfolding wins
  wins_less l = rw (lt-ltb x.change_tick y.change_tick l, wins)

  wins_more : y.change_tick < x.change_tick → wins x y ≡ false
  unfolding wins
  wins_more l =
      let a : y.change_tick ≤ x.change_tick = omega arith in
      rw (le-ltb x.change_tick y.change_tick a, ne_eqb x.change_tick y.change_tick (λ e. omega (arith, e)), wins)

  wins_same : x.change_tick ≡ y.change_tick → wins x y ≡ ltb x.change_replica y.change_replica
  unfolding wins
  wins_same e =
      let a : y.change_tick ≤ x.change_tick = omega arith in
      rw (le-ltb x.change_tick y.change_tick a, eq-eqb x.change_tick y.change_tick e, wins)

  wins_ticks : (x.change_tick ≡ y.change_tick → ⊥) → wins x y ≡ ltb x.change_tick y.change_tick
  wins_ticks n = go (ltb x.change_tick y.change_tick) refl
    where
      go : (t : Bool) → ltb x.change_tick y.change_tick ≡ t → wins x y ≡ ltb x.change_tick y.change_tick
      go true e = wins_less (ltb-true x.change_tick y.change_tick e) ∙ sym e
      go false e = let l = ltb-false x.change_tick y.change_tick e in wins_more (omega arith) ∙ sym e

module _ (s : List ℕ) (at : ℕ) where
  read_tick : (read_rec s at).change_tick ≡ read_at s 8 (at + change_tick_place)
  unfolding read_rec
  read_tick = refl

  read_replica : (read_rec s at).change_replica ≡ read_at s 16 (at + change_replica_place)
  unfolding read_rec
  read_replica = refl

module _ (s : List ℕ) (a : ℕ) (t : List ℕ) (b mine theirs : ℕ) (e : mine ≡ read_at s 8 (a + change_tick_place))
    (f : theirs ≡ read_at t 8 (b + change_tick_place)) where
  first : mine ≡ (read_rec s a).change_tick
  first = e ∙ sym (read_tick s a)

  second : theirs ≡ (read_rec t b).change_tick
  second = f ∙ sym (read_tick t b)

  pub wins_by_tick : (mine ≡ theirs → ⊥) → ltb mine theirs ≡ wins (read_rec s a) (read_rec t b)
  wins_by_tick n =
      ap₂ {C = Bool} ltb first second ∙ sym (wins_ticks (read_rec s a) (read_rec t b) (λ k. n (first ∙ (k ∙ sym second))))

  pub wins_by_replica : mine ≡ theirs → (p q : ℕ) → p ≡ read_at s 16 (a + change_replica_place) → q ≡ read_at t 16 (b + change_replica_place) →
      (r : Bool) → r ≡ ltb p q → r ≡ wins (read_rec s a) (read_rec t b)
  wins_by_replica k p q g h r i =
      i
      ∙ (ap₂ {C = Bool} ltb (g ∙ sym (read_replica s a)) (h ∙ sym (read_replica t b))
      ∙ sym (wins_same (read_rec s a) (read_rec t b) (sym first ∙ (k ∙ second))))

-- of whole records on both sides, the winner is the defined one
pub wins_whole : (s : List ℕ) (a : ℕ) (t : List ℕ) (b : ℕ) → WholeAt s a → WholeAt t b →
    wins (read_rec s a) (read_rec t b) ≡ wins (rec_at s a) (rec_at t b)
wins_whole s a t b v w = ap₂ {C = Bool} wins (read_whole s a v) (read_whole t b w)
