-- The walker over a lent table. At a place where a whole record of kind 1 or 2 stands it gives that part of the bytes and goes on behind it;
-- anywhere else it has nothing to give. In plain bytes: where the bytes from the place on are those of a lawful record and anything behind
-- them, it gives that record's bytes. Over the table of a store or batch that opens it gives the bytes of its records, in their order. The
-- length at a place tells the same in numbers.
use Prim.Native.Nat.{ℕ, ◌+◌, ◌-◌, ◌≤◌, ◌<◌}
use mathlib.Core.Path.{◌≡◌, refl, sym, ap, ap₂, ◌∙◌}
use mathlib.Core.Bool.{Bool, true, false}
use mathlib.Core.Logic.{inl, inr}
use mathlib.Core.List.{List, [], ◌∷◌}
use native.Mathlib.Omega.{arith}
use lib.ListN.{length, get_or, take, drop, length-drop}
use Rattle.codec.specs.Number.{Bytes, be_at}
use Rattle.codec.specs.Parsed.{accepted}
use Rattle.codec.proofs.Reading.{be_one}
use Rattle.layout.specs.Knowledge.{Limits, All}
use Rattle.layout.proofs.Chain.{Stands}
use Rattle.replication.specs.Record.{Rec}
use Rattle.replication.specs.Formats.{put_rec, Store}
use Rattle.replication.specs.BatchFormat.{Batch}
use Rattle.replication.specs.Valid.{LawfulRec}
use Rattle.replication.specs.Reading.{rec_length, behind, whole}
use Rattle.replication.specs.OpenStore.{store_table, open_store}
use Rattle.replication.specs.OpenBatch.{batch_table, open_batch}
use Rattle.replication.specs.Queries.{length_at, places, parts_at, to_give}
use Rattle.replication.specs.MethodTable.{recs_of, table_at}
use Rattle.replication.proofs.Bytes.Record.{KnownKind, rec_size, kind-length, whole_back, whole_exact, rec-length, rec_whole, rec_reads, rec_part}
use Rattle.replication.proofs.Contents.Valid.{rec_fits}
use Rattle.replication.proofs.Tables.Places.{places_step, places_end, places_whole, store_table_lem, batch_table_lem}

-- ---- steps

pub give_step : (s : List ℕ) (at : ℕ) → whole s at ≡ true → to_give s at ≡ take (rec_length (be_at s 1 at)) (drop at s) ∷ to_give s (behind s at)
unfolding to_give parts_at
give_step s at e = ap (parts_at s) (places_step s at e)

pub give_end : (s : List ℕ) (at : ℕ) → whole s at ≡ false → to_give s at ≡ []
unfolding to_give parts_at
give_end s at e = ap (parts_at s) (places_end s at e)

-- the length at a place (`length_at`) tells what the walker gives there: where it is not 0, a part that long and then what is given behind
-- it; where it is 0, nothing
length_whole : (s : List ℕ) (at : ℕ) → whole s at ≡ true → length_at s at ≡ rec_length (be_at s 1 at)
unfolding length_at
length_whole s at e = rw (e, length_at)

length_none : (s : List ℕ) (at : ℕ) → whole s at ≡ false → length_at s at ≡ 0
unfolding length_at
length_none s at e = rw (e, length_at)

behind-length : (s : List ℕ) (at : ℕ) → whole s at ≡ true → behind s at ≡ at + length_at s at
unfolding behind
behind-length s at e = ap (λ (n : ℕ). at + n) (sym (length_whole s at e))

pub length-gives : (s : List ℕ) (at : ℕ) → (length_at s at ≡ 0 → ⊥)
    → to_give s at ≡ take (length_at s at) (drop at s) ∷ to_give s (at + length_at s at)
length-gives s at h = go (whole s at) refl
  where
    go : (t : Bool) → whole s at ≡ t → to_give s at ≡ take (length_at s at) (drop at s) ∷ to_give s (at + length_at s at)
    go true e =
        give_step s at e
        ∙ ap₂ {C = List (List ℕ)} (λ (n p : ℕ). take n (drop at s) ∷ to_give s p) (sym (length_whole s at e)) (behind-length s at e)
    go false e = absurd (h (length_none s at e))

pub length-ends : (s : List ℕ) (at : ℕ) → length_at s at ≡ 0 → to_give s at ≡ []
length-ends s at z = go (whole s at) refl
  where
    go : (t : Bool) → whole s at ≡ t → to_give s at ≡ []
    go false e = give_end s at e
    go true e =
        let k = (whole_exact s at).0 e in
        let n : rec_length (be_at s 1 at) ≡ rec_size = kind-length (be_at s 1 at) k.0 in
        absurd (omega (arith, z, length_whole s at e, n))

-- where a whole record of a known kind stands, the walker gives it and goes on behind it
pub walk_step : (s : List ℕ) (at : ℕ) → KnownKind (get_or s at 0) → at + rec_size ≤ length s → to_give s at ≡ take (rec_length (be_at s 1 at)) (drop at s) ∷ to_give s (behind s at)
walk_step s at k l = give_step s at ((whole_exact s at).1 (elim k [ inl e ↦ inl (be_one s at ∙ e) | inr e ↦ inr (be_one s at ∙ e) ], l))

-- "it ends where no whole record of a known kind follows": the byte there is neither 1 nor 2, or bytes of the record are missing
pub walk_end : (s : List ℕ) (at : ℕ) → (KnownKind (get_or s at 0) → length s < at + rec_size) → to_give s at ≡ []
walk_end s at h = give_end s at (go (whole s at) refl)
  where
    go : (t : Bool) → whole s at ≡ t → whole s at ≡ false
    go false e = e
    go true e =
        let w = (whole_exact s at).0 e in
        absurd (omega (arith, w.1, h (elim w.0 [ inl k ↦ inl (sym (be_one s at) ∙ k) | inr k ↦ inr (sym (be_one s at) ∙ k) ])))

-- ---- in plain bytes

-- where the bytes from a place on are those of a lawful record and anything behind them, it gives the record's bytes and goes on behind it
pub walk_gives : (s : List ℕ) (at : ℕ) (r : Rec) (t : List ℕ) → Bytes s → LawfulRec r → drop at s ≡ put_rec r t → to_give s at ≡ put_rec r [] ∷ to_give s (behind s at)
walk_gives s at r t b l e =
    let n : length s - at ≡ rec_size + length t = sym (length-drop at s) ∙ ap length e ∙ rec-length r t in
    let h : Stands s at (put_rec r t) = record { inside = omega arith; rest = e } in
    let w = rec_whole s at r t h (rec_fits r l) in
    give_step s at w
    ∙ ap {B = List (List ℕ)} (λ (x : List ℕ). x ∷ to_give s (behind s at))
    (rec_part s at b (whole_back s at w) ∙ ap (λ (x : Rec). put_rec x []) (rec_reads s at r t h (rec_fits r l)))

-- ---- tables

-- each record's bytes
unfoldable pub bytes_of : List Rec → List (List ℕ)
bytes_of [] = []
bytes_of (r ∷ rs) = put_rec r [] ∷ bytes_of rs

parts_bytes : (s : List ℕ) (ats : List ℕ) → Bytes s → All (λ a. whole s a ≡ true) ats → parts_at s ats ≡ bytes_of (recs_of s ats)
unfolding parts_at recs_of bytes_of
parts_bytes s [] b h = refl
parts_bytes s (a ∷ ats) b h =
    ap₂ {C = List (List ℕ)} (λ (x : List ℕ) (l : List (List ℕ)). x ∷ l) (rec_part s a b (whole_back s a h.0)) (parts_bytes s ats b h.1)

-- the parts that it gives are the bytes of the records at its places
pub walk_table : (s : List ℕ) (at : ℕ) → Bytes s → to_give s at ≡ bytes_of (table_at s at)
unfolding to_give table_at
walk_table s at b = parts_bytes s (places s at) b (places_whole s at)

-- over a store that opens, from its first record on, it gives the bytes of its records; over a batch too
pub walk_store : (L : Limits) (s : List ℕ) (st : Store) → Bytes s → open_store L s ≡ accepted st → to_give s (store_table s) ≡ bytes_of st.records
walk_store L s st b e = walk_table s (store_table s) b ∙ ap bytes_of (store_table_lem L s st e)

pub walk_batch : (L : Limits) (s : List ℕ) (b : Batch) → Bytes s → open_batch L s ≡ accepted b → to_give s (batch_table s) ≡ bytes_of b.records
walk_batch L s b y e = walk_table s (batch_table s) y ∙ ap bytes_of (batch_table_lem L s b e)
