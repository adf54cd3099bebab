-- The selected places have the records that a make carries. Records rise by item: those that are skipped are below the first item, and the
-- one that ends the selection and all behind it are above the last item; in between the cursor stands at each record's item, so that what
-- it finds says whether the knowledge lacks the record's change version. Normal form contains the same versions, so that the given knowledge
-- may be asked as it stands. At each selected place stands a whole record of the table's own bytes: so the records at the places as
-- addresses, their size, and their bytes when they are copied, are those of the selected table.
use Prim.Native.Nat.{ℕ, zero, suc, ◌+◌, ◌^◌, ◌≤◌, ◌<◌}
use mathlib.Core.Path.{◌≡◌, sym, ap, ap₂, subst, ◌∙◌}
use mathlib.Core.Bool.{Bool, true, false, not}
use mathlib.Core.List.{List, [], ◌∷◌}
use native.Mathlib.Omega.{arith}
use lib.ListN.{length, take}
use borrow.Author.Tests.{le-leb, leb-true, eqb-true}
use Rattle.codec.specs.Number.{Bytes}
use Rattle.codec.specs.Part.{placed}
use Rattle.codec.proofs.Numbers.{be_below}
use Rattle.layout.specs.Knowledge.{All, Rules, Knowledge}
use Rattle.layout.specs.Decode.{decode}
use Rattle.ticks.specs.Meaning.{highest}
use Rattle.ticks.specs.Table.{in_span}
use Rattle.ticks.specs.Operations.{normalise}
use Rattle.ticks.specs.Demand2.{SameVersions}
use Rattle.ticks.proofs.Lists.{span_below, span_above, in_span_lem}
use Rattle.ticks.proofs.Algebra.{contains_normalise}
use Rattle.ticks.proofs.LawfulResults.{below_top}
use Rattle.replication.specs.Record.{Rec}
use Rattle.replication.specs.Formats.{put_recs}
use Rattle.replication.specs.Reading.{behind, rec_at, both, whole, valid_rec}
use Rattle.replication.specs.OpenBatch.{lacks_change}
use Rattle.replication.specs.Operate.{selected}
use Rattle.replication.specs.Queries.{places}
use Rattle.replication.specs.MethodTable.{recs_of, table_at}
use Rattle.replication.specs.MethodRecords.{shaped_at}
use Rattle.replication.proofs.Tables.Places.{places_step, places_end, places_whole, table_step, table_end_lem}
use Rattle.replication.proofs.Tables.InBytes.{whole_at, shaped_nil, shaped_parts}
use Rattle.replication.proofs.Tables.Walked.{recs_nil, recs_cons, count_places}
use Rattle.replication.proofs.Opening.Records.{OrderedMore, ordered_parts, ordered_of}
use Rattle.replication.proofs.Tables.Selected.{selected-nil, selected_in, selected_out, selects}
use Rattle.replication.proofs.Tables.Selected as T
use Rattle.records.proofs.Fields.{whole_past}
use Rattle.lookup.specs.declared.Cursor.{Cursor}
use Rattle.lookup.specs.Method.{Opens}
use Rattle.lookup.proofs.Leaf.{Stands, stands_start}
use Rattle.records_versions.specs.Method.{moved_to, change_in}
use Rattle.records_versions.proofs.Versions.{valid_ticks, moved_stands, change_in_lem}
use Rattle.records_join.specs.MethodJoin.{at_address, recs_from, size_from, fronted, copied}
use Rattle.records_join.proofs.Addresses.{at_first, recs_count, fronted-take}
use Rattle.records_join.proofs.JoinedTables.{recs_first, map-all, whole_inside}
use Rattle.records_join.proofs.Copies.{bytes_whole, copied_fits}
use Rattle.records_select.specs.MethodSelect.{from_first, lacking, select_places}
use Rattle.records_select.proofs.SelectedPlaces.{first_none, skipped, begins, skips, lacking_none, ends, leaves, takes, looks}
use Rattle.records_select.proofs.SelectedPlaces.{select_is, select_all, select_fewer}

-- ---- a table of no records

module _ (s : List ℕ) (low at : ℕ) (h : shaped_at s low 0 at ≡ true) where
  nothing_whole : whole s at ≡ false
  nothing_whole = let e = eqb-true at (length s) (sym (shaped_nil s low at) ∙ h) in whole_past s at (omega (arith, e))

-- from the item of its first record on a table is in order
from_item : (s : List ℕ) (low n at : ℕ) → OrderedMore s low n at → shaped_at s (rec_at s at).item (suc n) at ≡ true
from_item s low n at o =
    let i = (rec_at s at).item in
    ordered_of s i n at (record { whole = o.whole; low = le-leb i i (omega arith); valid = o.valid; rest = o.rest })

-- ---- what a make carries of a record

-- the change version is lacking where it is not found
lacks_is : (s : List ℕ) (at : ℕ) (R : Rules) (k : List ℕ) (r : ℕ) (d : Cursor) → whole s at ≡ true → Stands R k r d (suc (rec_at s at).item)
    → valid_rec (rec_at s at) ≡ true → lacks_change (decode k) (rec_at s at) ≡ not (change_in s at k r d.vector)
unfolding lacks_change
lacks_is s at R k r d w st v = ap not (sym (change_in_lem R k r d s at (whole_at s at w) st (valid_ticks (rec_at s at) v)))

module _ (first last : ℕ) (needed : Knowledge) (r : Rec) where
  out_by : in_span first last r.item ≡ false → both (in_span first last r.item) (lacks_change needed r) ≡ false
  out_by e = ap (λ (t : Bool). both t (lacks_change needed r)) e

  in_by : first ≤ r.item → r.item ≤ last → (b : Bool) → lacks_change needed r ≡ b
      → both (in_span first last r.item) (lacks_change needed r) ≡ b
  in_by h l b e = ap₂ {C = Bool} both ((in_span_lem first last r.item).1 (h, l)) e

-- ---- the selected records

module _ (s : List ℕ) (first last : ℕ) where
  -- above the last item there are none
  none_above_lem : (needed : Knowledge) (n low at : ℕ) → shaped_at s low n at ≡ true → last < low → selected first last needed (table_at s at) ≡ []
  none_above_lem needed zero low at h l =
      ap (selected first last needed) (table_end_lem s at (nothing_whole s low at h)) ∙ selected-nil first last needed
  none_above_lem needed (suc n) low at h l =
      let o = ordered_parts s low n at h in
      let i = (rec_at s at).item in
      let m : last < i = omega (arith, leb-true low i o.low) in
      let out = out_by first last needed (rec_at s at) (span_above first last i m) in
      ap (selected first last needed) (table_step s at o.whole)
      ∙ (selected_out first last needed (rec_at s at) (table_at s (behind s at)) out
      ∙ none_above_lem needed n (suc i) (behind s at) o.rest (omega arith))

  module _ (R : Rules) (k : List ℕ) (r : ℕ) where
    -- from the first item on
    lacking_table : (n low at m : ℕ) (c : Cursor) → shaped_at s low n at ≡ true → m ≤ low → first ≤ low → Stands R k r c m
        → recs_of s (lacking s k r c last (places s at)) ≡ selected first last (decode k) (table_at s at)
    lacking_table zero low at m c h a b st =
        let w = nothing_whole s low at h in
        ap (λ (ps : List ℕ). recs_of s (lacking s k r c last ps)) (places_end s at w)
        ∙ (ap (recs_of s) (lacking_none s k r c last)
        ∙ (recs_nil s ∙ sym (ap (selected first last (decode k)) (table_end_lem s at w) ∙ selected-nil first last (decode k))))
    lacking_table (suc n) low at m c h a b st =
        let o = ordered_parts s low n at h in
        let x = rec_at s at in
        let i = x.item in
        let l = leb-true low i o.low in
        let u : m ≤ suc i = omega arith in
        let d = moved_to s at k r c in
        let sd = moved_stands R k r c s at (whole_at s at o.whole) m st u in
        let q = places s (behind s at) in
        let xs = table_at s (behind s at) in
        let found : lacks_change (decode k) x ≡ not (change_in s at k r d.vector) = lacks_is s at R k r d o.whole sd o.valid in
        let f : first ≤ i = omega arith in
        let rest = lacking_table n (suc i) (behind s at) (suc i) d o.rest (omega arith) (omega arith) sd in
        let left = ap (λ (ps : List ℕ). recs_of s (lacking s k r c last ps)) (places_step s at o.whole) in
        let right = sym (ap (selected first last (decode k)) (table_step s at o.whole)) in
        elim (looks s k r c last at q) [
          | ends g e ↦
              left ∙ (ap (recs_of s) e ∙ (recs_nil s
              ∙ sym (ap (selected first last (decode k)) (table_step s at o.whole)
              ∙ (selected_out first last (decode k) x xs (out_by first last (decode k) x (span_above first last i g))
              ∙ none_above_lem (decode k) n (suc i) (behind s at) o.rest (omega arith)))))
          | leaves g t e ↦
              left ∙ (ap (recs_of s) e ∙ (rest
              ∙ (sym (selected_out first last (decode k) x xs (in_by first last (decode k) x f g false (found ∙ ap not t))) ∙ right)))
          | takes g t e ↦
              left ∙ (ap (recs_of s) e ∙ (recs_cons s at (lacking s k r d last q) ∙ (ap (λ (rs : List Rec). x ∷ rs) rest
              ∙ (sym (selected_in first last (decode k) x xs (in_by first last (decode k) x f g true (found ∙ ap not t))) ∙ right))))
        ]

    -- from any place of the table on
    first_table : (c : Cursor) → Opens R k r c → (n low at : ℕ) → shaped_at s low n at ≡ true
        → recs_of s (lacking s k r c last (from_first s first (places s at))) ≡ selected first last (decode k) (table_at s at)
    first_table c op zero low at h =
        let w = nothing_whole s low at h in
        ap (λ (ps : List ℕ). recs_of s (lacking s k r c last (from_first s first ps))) (places_end s at w)
        ∙ (ap (λ (ps : List ℕ). recs_of s (lacking s k r c last ps)) (first_none s first)
        ∙ (ap (recs_of s) (lacking_none s k r c last)
        ∙ (recs_nil s ∙ sym (ap (selected first last (decode k)) (table_end_lem s at w) ∙ selected-nil first last (decode k)))))
    first_table c op (suc n) low at h =
        let o = ordered_parts s low n at h in
        let x = rec_at s at in
        let i = x.item in
        let left = ap (λ (ps : List ℕ). recs_of s (lacking s k r c last (from_first s first ps))) (places_step s at o.whole) in
        elim (skips s first at (places s (behind s at))) [
          | skipped l e ↦
              left ∙ (ap (λ (ps : List ℕ). recs_of s (lacking s k r c last ps)) e
              ∙ (first_table c op n (suc i) (behind s at) o.rest
              ∙ (sym (selected_out first last (decode k) x (table_at s (behind s at))
              (out_by first last (decode k) x (span_below first last i l)))
              ∙ sym (ap (selected first last (decode k)) (table_step s at o.whole)))))
          | begins l e ↦
              left ∙ (ap (λ (ps : List ℕ). recs_of s (lacking s k r c last ps)) (e ∙ sym (places_step s at o.whole))
              ∙ lacking_table (suc n) i at 0 c (from_item s low n at o) (omega arith) l (stands_start R k r c op))
        ]

-- ---- normal form

-- a record whose item and change replica are ids
record Ids (x : Rec) : Type 0 where
  item : x.item ≤ highest
  replica : x.change_replica < 256 ^ 16

ids_at_lem : (s : List ℕ) (at : ℕ) → Bytes s → Ids (rec_at s at)
unfolding rec_at
ids_at_lem s at b = record { item = below_top _ (be_below s 24 _ b); replica = be_below s 16 _ b }

table_ids : (s : List ℕ) → Bytes s → (ps : List ℕ) → All Ids (recs_of s ps)
table_ids s b [] = subst (All Ids) (sym (recs_nil s)) tt
table_ids s b (p ∷ ps) = subst (All Ids) (sym (recs_cons s p ps)) (ids_at_lem s p b, table_ids s b ps)

lacks_same : (a b : Knowledge) → SameVersions a b → (x : Rec) → Ids x → lacks_change a x ≡ lacks_change b x
unfolding lacks_change
lacks_same a b v x i = ap not (v.both x.item x.change_replica x.change_tick i.item i.replica)

module _ (first last : ℕ) where
  -- knowledges that contain the same versions lack the same records
  selected_same : (a b : Knowledge) → SameVersions a b → (xs : List Rec) → All Ids xs → selected first last a xs ≡ selected first last b xs
  selected_same a b v [] h = selected-nil first last a ∙ sym (selected-nil first last b)
  selected_same a b v (x ∷ xs) h =
      let e = ap (both (in_span first last x.item)) (lacks_same a b v x h.0) in
      let rest = selected_same a b v xs h.1 in
      elim (selects first last a x xs) [
        | T.takes t f ↦ f ∙ (ap (λ (ys : List Rec). x ∷ ys) rest ∙ sym (selected_in first last b x xs (sym e ∙ t)))
        | T.leaves t f ↦ f ∙ (rest ∙ sym (selected_out first last b x xs (sym e ∙ t)))
      ]

  pub selected_normal : (k : Knowledge) (s : List ℕ) (at : ℕ) → Bytes s
      → selected first last k (table_at s at) ≡ selected first last (normalise k) (table_at s at)
  unfolding table_at
  selected_normal k s at b =
      sym (selected_same (normalise k) k (contains_normalise k) (recs_of s (places s at)) (table_ids s b (places s at)))

-- ---- the table

module _ (s : List ℕ) (at : ℕ) (k : List ℕ) (r : ℕ) (c : Cursor) (first last : ℕ) where
  pub selected_table : (R : Rules) (n : ℕ) → Opens R k r c → shaped_at s 0 n at ≡ true
      → recs_of s (select_places s at k r c first last) ≡ selected first last (decode k) (table_at s at)
  selected_table R n o h = ap (recs_of s) (select_is s at k r c first last) ∙ first_table s first last R k r c o n 0 at h

  -- for the needed knowledge, which is the normal form of the given one
  pub selected_needed : (R : Rules) (n : ℕ) → Opens R k r c → shaped_at s 0 n at ≡ true → Bytes s
      → recs_of s (select_places s at k r c first last) ≡ selected first last (normalise (decode k)) (table_at s at)
  selected_needed R n o h b = selected_table R n o h ∙ selected_normal first last (decode k) s at b

  -- no more than the table's records
  pub selected_fewer : (n : ℕ) → shaped_at s 0 n at ≡ true → length (select_places s at k r c first last) ≤ n
  selected_fewer n h = omega (arith, select_fewer s at k r c first last, count_places s n at (shaped_parts s 0 n at h).0)

  -- ---- the places as addresses, beside any other bytes

  pub selected_whole : (t : List ℕ) → All (λ x. at_address whole s t x ≡ true) (select_places s at k r c first last)
  selected_whole t =
      select_all s at k r c first last (λ x. at_address whole s t x ≡ true)
      (map-all (λ x. whole s x ≡ true) (λ x. at_address whole s t x ≡ true)
      (λ x e. at_first whole s t x (whole_inside s x e) ∙ e) (places s at) (places_whole s at))

  pub selected_from : (t : List ℕ) → recs_from s t (select_places s at k r c first last) ≡ recs_of s (select_places s at k r c first last)
  selected_from t =
      recs_first s t (select_places s at k r c first last)
      (select_all s at k r c first last (λ x. x < length s)
      (map-all (λ x. whole s x ≡ true) (λ x. x < length s) (whole_inside s) (places s at) (places_whole s at)))

  -- for the records that are selected: `selected_table` and `selected_needed`
  module _ (rs : List Rec) (is : recs_of s (select_places s at k r c first last) ≡ rs) (t : List ℕ) where
    pub selected_recs : recs_from s t (select_places s at k r c first last) ≡ rs
    selected_recs = selected_from t ∙ is

    pub selected_count : length (select_places s at k r c first last) ≡ length rs
    selected_count = sym (recs_count s t (select_places s at k r c first last)) ∙ ap length selected_recs

    pub selected_size : size_from s t (select_places s at k r c first last) ≡ length (put_recs rs [])
    selected_size =
        sym (bytes_whole s t (select_places s at k r c first last) (selected_whole t))
        ∙ ap (λ (xs : List Rec). length (put_recs xs [])) selected_recs

    -- the places at the front of a list with room for them, copied with room for the records: the bytes of the records
    pub selected_copied : Bytes s → Bytes t → (d : List ℕ) (n : ℕ) → n ≡ length (select_places s at k r c first last) → n ≤ length d
        → (o : List ℕ) (to : ℕ) → to + size_from s t (select_places s at k r c first last) ≤ length o
        → copied s t o to (take n (fronted d (select_places s at k r c first last))) ≡ placed o to (put_recs rs [])
    selected_copied x y d n e l o to h =
        let ps = select_places s at k r c first last in
        ap (copied s t o to) (ap (λ (m : ℕ). take m (fronted d ps)) e ∙ fronted-take d ps (omega (arith, e)))
        ∙ (copied_fits s t o to ps x y (selected_whole t) h ∙ ap (λ (xs : List Rec). placed o to (put_recs xs [])) selected_recs)
