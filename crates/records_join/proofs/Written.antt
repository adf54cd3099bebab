-- A record written field by field. Each part is written where the one before it ended, so that with room for all what is written is the
-- record's bytes, which are those of its fields one after the other. Read again, an array of one record so written is the table of that
-- record; so an edit is the join of a store's table with such an array.
use Prim.Native.Nat.{ℕ, ◌+◌, ◌^◌, ◌≤◌, ◌<◌}
use mathlib.Core.Path.{◌≡◌, sym, ap, ◌∙◌}
use mathlib.Core.Bool.{true, false}
use mathlib.Core.List.{List, [], ◌∷◌, ◌++◌, append-nil}
use mathlib.Core.Option.{some}
use native.Mathlib.Omega.{arith}
use lib.ListN.{length, drop}
use lib.Seq.{drop-length}
use Rattle.codec.specs.Ids.{item_of, replica_of}
use Rattle.codec.specs.MethodWritten.{Wrote}
use Rattle.codec.specs.Part.{placed, bytes}
use Rattle.codec.specs.Words.{words2}
use Rattle.codec.proofs.Writing.{placed_in, placed_out}
use Rattle.codec.proofs.Written.{wrote_number, wrote_then, wrote_to, wrote_all, pair_wrote}
use Rattle.layout.proofs.Runs.{run_puts}
use Rattle.layout.proofs.Chain.{stands_whole}
use Rattle.replication.specs.Record.{Rec}
use Rattle.replication.specs.Formats.{kind_of, rec_fields, put_rec, put_recs, find}
use Rattle.replication.specs.Operate.{wins, replace, join}
use Rattle.replication.specs.MethodTable.{table_at}
use Rattle.replication.proofs.Bytes.Record.{FitsRec, rec_size, rec-length, recs_read}
use Rattle.replication.proofs.Tables.Places.{table_read}
use Rattle.replication.proofs.Tables.Join.{replace_join_won}
use Rattle.records_join.specs.declared.RecordWords.{RecordWords}
use Rattle.records_join.specs.declared.VersionWords.{VersionWords}
use Rattle.records_join.specs.MethodWritten.{record_of, put_version, put_versions}

pub version_wrote : (d e u : List ℕ) (at : ℕ) (v : VersionWords) → e ≡ placed d at (bytes 16 (replica_of v.replica))
    → u ≡ placed e (at + 16) (bytes 8 v.tick) → Wrote d at (put_version v) u (at + 24)
version_wrote d e u at v a b =
    wrote_to (omega arith)
    (wrote_then (wrote_number d e at 16 (replica_of v.replica) a) (wrote_number e u (at + 16) 8 v.tick b))

pub versions_wrote : (d e u : List ℕ) (at : ℕ) (change create : VersionWords) → Wrote d at (put_version change) e (at + 24)
    → Wrote e (at + 24) (put_version create) u (at + 24 + 24) → Wrote d at (put_versions change create) u (at + 48)
versions_wrote d e u at change create a b = wrote_to (omega arith) (wrote_then a b)

module _ (w : RecordWords) where
  pub kind_deleted : w.deleted ≡ true → 2 ≡ kind_of (record_of w).content
  unfolding record_of kind_of
  kind_deleted e = rw (e, kind_of, record_of)

  pub kind_live : w.deleted ≡ false → 1 ≡ kind_of (record_of w).content
  unfolding record_of kind_of
  kind_live e = rw (e, kind_of, record_of)

  pub record_out : (d : List ℕ) (at : ℕ) → length d < at + rec_size → d ≡ placed d at (put_rec (record_of w) [])
  record_out d at h = placed_out d at (put_rec (record_of w) []) (omega (arith, rec-length (record_of w) []))

  pub record_wrote : (d e f g u : List ℕ) (at k : ℕ) → at + rec_size ≤ length d → k ≡ kind_of (record_of w).content
      → e ≡ placed d at (bytes 1 k) → f ≡ placed e (at + 1) (bytes 24 (item_of w.item))
      → Wrote f (at + 25) (put_versions w.change w.create) g (at + 25 + 48)
      → (h : List ℕ) → h ≡ placed g (at + 73) (bytes 8 w.tag.high) → w.tag.low < 2 ^ 64 → u ≡ placed h (at + 81) (bytes 8 w.tag.low)
      → u ≡ placed d at (put_rec (record_of w) [])
  unfolding record_of put_rec rec_fields
  record_wrote d e f g u at k room kind a b c h x low y =
      let first = a ∙ ap (λ (x : ℕ). placed d at (bytes 1 x)) kind in
      let fields = run_puts (rec_fields (record_of w)) [] in
      wrote_all
      (wrote_then (wrote_number d e at 1 (kind_of (record_of w).content) first)
      (wrote_then (wrote_to (omega arith) (wrote_number e f (at + 1) 24 (item_of w.item) b))
      (wrote_then (wrote_to (omega arith) c) (pair_wrote g h u (at + 73) w.tag.high w.tag.low low x (y ∙ ap (λ (p : ℕ). placed h p (bytes 8 w.tag.low)) (omega arith))))))
      (omega (arith, room))
      ∙ ap (placed d at) (sym fields)

-- ---- read again

-- the bytes of a record are a table of one record
pub record_table : (r : Rec) → FitsRec r → table_at (put_rec r []) 0 ≡ r ∷ []
unfolding put_recs
record_table r f =
    table_read (put_rec r []) 1 0 (r ∷ []) (recs_read (put_rec r []) 0 (r ∷ []) (f, tt) (stands_whole (put_rec r [])))

-- an array that has just the record's length
pub record_placed : (d : List ℕ) (r : Rec) → length d ≡ rec_size → placed d 0 (put_rec r []) ≡ put_rec r []
record_placed d r e =
    let n : 0 + length (put_rec r []) ≡ length d = omega (arith, rec-length r [], e) in
    let z : drop (0 + length (put_rec r [])) d ≡ [] = ap (λ (k : ℕ). drop k d) n ∙ drop-length d in
    placed_in d 0 (put_rec r []) (omega (arith, n)) ∙ (ap (λ (l : List ℕ). put_rec r [] ++ l) z ∙ append-nil (put_rec r []))

-- an edit is the join with the table of its record, which wins over the one of its item
pub replaced_table : (s : List ℕ) (a : ℕ) (t : List ℕ) (r : Rec) → table_at t 0 ≡ r ∷ []
    → ((x : Rec) → find r.item (table_at s a) ≡ some x → wins x r ≡ true)
    → join (table_at s a) (table_at t 0) ≡ replace r (table_at s a)
replaced_table s a t r e f = ap (join (table_at s a)) e ∙ sym (replace_join_won r (table_at s a) f)
