-- The records at addresses, copied one after the other. Where at each address stands a whole record and there is room for all, what is
-- written is the bytes of the records: for the addresses of two joined tables, the bytes of the join.
use Prim.Native.Nat.{ℕ, ◌+◌, ◌-◌, ◌≤◌, ◌<◌}
use mathlib.Core.Path.{◌≡◌, refl, sym, ap, ap₂, ◌∙◌}
use mathlib.Core.Bool.{Bool, true, false}
use mathlib.Core.List.{List, [], ◌∷◌, ◌++◌}
use native.Mathlib.Omega.{arith}
use lib.Dec.{ltb}
use lib.ListN.{length, take}
use borrow.Author.Tests.{ltb-true, ltb-false}
use Rattle.codec.specs.Number.{Bytes}
use Rattle.codec.specs.Part.{placed}
use Rattle.codec.proofs.Writing.{placed_out, placed-length, placed-append, nothing}
use Rattle.layout.specs.Knowledge.{All}
use Rattle.replication.specs.Record.{Rec}
use Rattle.replication.specs.Formats.{put_rec, put_recs}
use Rattle.replication.specs.Reading.{rec_at, whole}
use Rattle.replication.specs.Operate.{join}
use Rattle.replication.specs.MethodTable.{table_at}
use Rattle.replication.proofs.Bytes.Record.{rec_size, kind-length, whole_back, rec-length, rec-append}
use Rattle.replication.specs.Queries.{length_at}
use Rattle.records.specs.Method.{record_part}
use Rattle.records.proofs.Fields.{length_whole, part_record}
use Rattle.records_join.specs.MethodJoin.{at_address, recs_from, size_from, join_at, fronted, copied}
use Rattle.records_join.proofs.Addresses.{at_first, at_later, recs_none, recs_more, recs_count, size_none, size_more, fronted-take}
use Rattle.records_join.proofs.JoinedTables.{joined_table, joined_whole}

-- ---- one record

whole_size : (s : List ℕ) (x : ℕ) → whole s x ≡ true → length_at s x ≡ rec_size
whole_size s x w = length_whole s x w ∙ kind-length _ (whole_back s x w).kind

-- an address is a place of one of the two
module _ (s t : List ℕ) (x : ℕ) (C : Type 0) (first : x < length s → C) (later : length s ≤ x → C) where
  pub either : C
  either = go (ltb x (length s)) refl
    where
      go : (b : Bool) → ltb x (length s) ≡ b → C
      go true e = first (ltb-true x (length s) e)
      go false e = later (ltb-false x (length s) e)

module _ (s t : List ℕ) (x : ℕ) (w : at_address whole s t x ≡ true) where
  from_size : at_address length_at s t x ≡ rec_size
  from_size =
      either s t x (at_address length_at s t x ≡ rec_size)
      (λ h. at_first length_at s t x h ∙ whole_size s x (sym (at_first whole s t x h) ∙ w))
      (λ h. at_later length_at s t x h ∙ whole_size t (x - length s) (sym (at_later whole s t x h) ∙ w))

  from_part : Bytes s → Bytes t → at_address record_part s t x ≡ put_rec (at_address rec_at s t x) []
  from_part b c =
      either s t x (at_address record_part s t x ≡ put_rec (at_address rec_at s t x) [])
      (λ h.
      at_first record_part s t x h
      ∙ (part_record s x b (sym (at_first whole s t x h) ∙ w) ∙ ap (λ (r : Rec). put_rec r []) (sym (at_first rec_at s t x h))))
      (λ h.
      at_later record_part s t x h
      ∙ (part_record t (x - length s) c (sym (at_later whole s t x h) ∙ w)
      ∙ ap (λ (r : Rec). put_rec r []) (sym (at_later rec_at s t x h))))

-- ---- all of them

put_none : put_recs [] [] ≡ []
unfolding put_recs
put_none = refl

put_more : (r : Rec) (rs : List Rec) → put_recs (r ∷ rs) [] ≡ put_rec r [] ++ put_recs rs []
unfolding put_recs
put_more r rs = rec-append r (put_recs rs [])

module _ (s t : List ℕ) where
  pub copied_none : (d : List ℕ) (at : ℕ) → copied s t d at [] ≡ d
  unfolding copied
  copied_none d at = refl

  pub copied_more : (d : List ℕ) (at x : ℕ) (xs : List ℕ)
      → copied s t d at (x ∷ xs) ≡ copied s t (placed d at (at_address record_part s t x)) (at + at_address length_at s t x) xs
  unfolding copied
  copied_more d at x xs = refl

  -- past the end of the buffer nothing is written
  pub copied_past : (d : List ℕ) (at : ℕ) (xs : List ℕ) → length d < at → copied s t d at xs ≡ d
  copied_past d at [] h = copied_none d at
  copied_past d at (x ∷ xs) h =
      let e : placed d at (at_address record_part s t x) ≡ d = sym (placed_out d at (at_address record_part s t x) (omega arith)) in
      copied_more d at x xs
      ∙ (ap (λ (u : List ℕ). copied s t u (at + at_address length_at s t x) xs) e
      ∙ copied_past d (at + at_address length_at s t x) xs (omega arith))

  -- the bytes of the records together
  pub bytes_whole : (xs : List ℕ) → All (λ x. at_address whole s t x ≡ true) xs → length (put_recs (recs_from s t xs) []) ≡ size_from s t xs
  bytes_whole [] w = ap (λ (rs : List Rec). length (put_recs rs [])) (recs_none s t) ∙ (ap length put_none ∙ sym (size_none s t))
  bytes_whole (x ∷ xs) w =
      let r = at_address rec_at s t x in
      ap (λ (rs : List Rec). length (put_recs rs [])) (recs_more s t x xs)
      ∙ (ap length (put_more r (recs_from s t xs) ∙ sym (rec-append r (put_recs (recs_from s t xs) [])))
      ∙ omega (arith, rec-length r (put_recs (recs_from s t xs) []), bytes_whole xs w.1, size_more s t x xs, from_size s t x w.0))

  -- with room for all, what is written is their bytes
  pub copied_fits : (d : List ℕ) (at : ℕ) (xs : List ℕ) → Bytes s → Bytes t → All (λ x. at_address whole s t x ≡ true) xs
      → at + size_from s t xs ≤ length d → copied s t d at xs ≡ placed d at (put_recs (recs_from s t xs) [])
  copied_fits d at [] b c w h =
      copied_none d at ∙ (nothing d at ∙ sym (ap (λ (rs : List Rec). placed d at (put_recs rs [])) (recs_none s t)
      ∙ ap (placed d at) put_none))
  copied_fits d at (x ∷ xs) b c w h =
      let r = at_address rec_at s t x in
      let rs = recs_from s t xs in
      let u = placed d at (put_rec r []) in
      let n : at_address length_at s t x ≡ length (put_rec r []) = from_size s t x w.0 ∙ omega (arith, rec-length r []) in
      let k = size_more s t x xs in
      let l : at + length (put_rec r []) + size_from s t xs ≤ length u = omega (arith, n, k, placed-length d at (put_rec r [])) in
      let m : at + length (put_rec r [] ++ put_recs rs []) ≤ length d =
      omega (arith, n, k, rec-length r [], rec-length r (put_recs rs []), ap length (rec-append r (put_recs rs [])), bytes_whole xs w.1) in
      copied_more d at x xs
      ∙ (ap₂ {C = List ℕ} (λ (v : List ℕ) (i : ℕ). copied s t v i xs) (ap (placed d at) (from_part s t x w.0 b c))
      (ap (λ (i : ℕ). at + i) n)
      ∙ (copied_fits u (at + length (put_rec r [])) xs b c w.1 l
      ∙ (placed-append d at (put_rec r []) (put_recs rs []) m
      ∙ ap (placed d at) (sym (ap (λ (qs : List Rec). put_recs qs []) (recs_more s t x xs) ∙ put_more r rs)))))

-- ---- the joined tables

module _ (s : List ℕ) (a : ℕ) (t : List ℕ) (b : ℕ) where
  pub joined_count : length (join_at s a t b) ≡ length (join (table_at s a) (table_at t b))
  joined_count = sym (recs_count s t (join_at s a t b)) ∙ ap length (joined_table s a t b)

  pub joined_size : size_from s t (join_at s a t b) ≡ length (put_recs (join (table_at s a) (table_at t b)) [])
  joined_size =
      sym (bytes_whole s t (join_at s a t b) (joined_whole s a t b)) ∙ ap (λ (rs : List Rec). length (put_recs rs [])) (joined_table s a t b)

  -- the addresses at the front of a list with room for them, copied with room for the records: the bytes of the join
  pub joined_copied : Bytes s → Bytes t → (d : List ℕ) (n : ℕ) → n ≡ length (join_at s a t b) → n ≤ length d → (o : List ℕ) (at : ℕ)
      → at + size_from s t (join_at s a t b) ≤ length o
      → copied s t o at (take n (fronted d (join_at s a t b))) ≡ placed o at (put_recs (join (table_at s a) (table_at t b)) [])
  joined_copied x y d n e l o at h =
      ap (copied s t o at)
      (ap (λ (k : ℕ). take k (fronted d (join_at s a t b))) e ∙ fronted-take d (join_at s a t b) (omega (arith, e)))
      ∙ (copied_fits s t o at (join_at s a t b) x y (joined_whole s a t b) h
      ∙ ap (λ (rs : List Rec). placed o at (put_recs rs [])) (joined_table s a t b))
