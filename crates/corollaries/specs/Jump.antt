-- How far one record of a new item moves the figure of coverage. Document 02, paper 14.
use Rattle.std.specs.Prelude.{ℕ, suc, ◌+◌, ◌/◌, ◌≤◌, ◌≡◌, false, List, length}
use Rattle.codec.specs.Prelude.{none, some}
use Rattle.codec.specs.Number.{Bytes, be_at}
use Rattle.codec.specs.Parsed.{accepted}
use Rattle.codec.specs.Reply.{gives}
use Rattle.layout.specs.Knowledge.{Rules, Knowledge}
use Rattle.layout.specs.Parse.{parse}
use Rattle.replication.specs.Record.{Rec}
use Rattle.replication.specs.Call.{Brought, BytesBrought}
use Rattle.replication.specs.Formats.{find, Store}
use Rattle.replication.specs.BatchFormat.{Batch}
use Rattle.replication.specs.Machine.{later}
use Rattle.replication.specs.OpenStore.{open_store}
use Rattle.replication.specs.OpenBatch.{open_batch}
use Rattle.replication.specs.Calls.{edit_reply, apply_reply}
use Rattle.replication.specs.Queries.{coverage_thousandths, coverage_answer}

-- "With n records before …: 1000 / (n + 1), rounded up"
unfoldable pub jump : ℕ → ℕ
jump n = (1000 + n) / suc n

-- "moves the figure by at most": from a to b by at most d, downwards and upwards
pub record MovesAtMost (d a b : ℕ) : Type 0 where
  pub down : a ≤ b + d
  pub up : b ≤ a + d

-- "adding one record of a new item": the item had no record and has this one; every other item has the record that it had, or none
pub record Adds (r : Rec) (before after : List Rec) : Type 0 where
  pub new : find r.item before ≡ none
  pub there : find r.item after ≡ some r
  pub others : (i : ℕ) → (i ≡ r.item → ⊥) → find i after ≡ find i before

-- a batch brings one record of a new item: the item had none and the batch has this one; of every other item that the batch has, the
-- store has a record already, and the batch's is not of a greater version
pub record OneNew (r : Rec) (before brought : List Rec) : Type 0 where
  pub absent : find r.item before ≡ none
  pub carried : find r.item brought ≡ some r
  pub stay : (i : ℕ) (y : Rec) → (i ≡ r.item → ⊥) → find i brought ≡ some y
      → (x : Rec) × ((find i before ≡ some x) × (later x y ≡ false))

-- "the figure" of a store and a compared knowledge: the third number of coverage. The 0 is the value before the call, which only a
-- refusal would leave
abbrev pub figure : Rules → List ℕ → List ℕ → ℕ
figure R s t = coverage_thousandths (coverage_answer R s t) 0

-- from a store s of n records to a store u, with the same compared knowledge t
abbrev pub FigureMoves : Rules → ℕ → List ℕ → List ℕ → List ℕ → Type 0
FigureMoves R n s u t = MovesAtMost (jump n) (figure R s t) (figure R u t)

-- "for every store valid before and after, n = 0 included"
pub record CoverageMoves (R : Rules) : Type 0 where
  -- whatever brought the record
  pub added : (s u t : List ℕ) (before after : Store) (k : Knowledge) (r : Rec) → Bytes s → Bytes u
      → open_store R.limits s ≡ accepted before → open_store R.limits u ≡ accepted after → parse R t ≡ accepted k
      → Adds r before.records after.records → FigureMoves R (length before.records) s u t
  -- an edit of an item that has no record
  pub edited : (s item : List ℕ) (b : Brought) (u t : List ℕ) (before : Store) (k : Knowledge) → Bytes s → Bytes item → BytesBrought b
      → open_store R.limits s ≡ accepted before → find (be_at item 24 0) before.records ≡ none
      → edit_reply R.limits s item b ≡ gives u → parse R t ≡ accepted k
      → FigureMoves R (length before.records) s u t
  -- an apply of a batch that brings one such record
  pub applied : (s batch u t : List ℕ) (before : Store) (b : Batch) (k : Knowledge) (r : Rec) → Bytes s → Bytes batch
      → open_store R.limits s ≡ accepted before → open_batch R.limits batch ≡ accepted b
      → OneNew r before.records b.records → apply_reply R.limits s batch ≡ gives u → parse R t ≡ accepted k
      → FigureMoves R (length before.records) s u t
