-- How the bytes follow the machine. A store's bytes are those of a valid store whose known ticks are the machine's for its
-- replica and whose record of each item is the greatest version made that these ticks contain. A batch's bytes are
-- those of a valid batch whose learned ticks are the remembered ones inside the span, and whose record of
-- each item in the span is the greatest version that these contain, left out where needed contains it. Valid stores and batches open.
use Prim.Native.Nat.{ℕ, ◌≤◌, ◌<◌, ◌^◌}
use mathlib.Core.Path.{◌≡◌, sym, subst}
use mathlib.Core.List.{List, [], ◌∷◌}
use Rattle.codec.specs.Number.{Bytes}
use Rattle.codec.specs.Parsed.{accepted}
use Rattle.layout.specs.Knowledge.{Limits}
use Rattle.layout.specs.Permitted.{Permitted}
use Rattle.ticks.specs.Meaning.{highest, known}
use Rattle.replication.specs.Record.{Rec}
use Rattle.replication.specs.Formats.{Store, encode_store, find}
use Rattle.replication.specs.BatchFormat.{Batch, encode_batch}
use Rattle.replication.specs.Valid.{LawfulStore}
use Rattle.replication.specs.ValidBatch.{LawfulBatch}
use Rattle.replication.specs.OpenStore.{open_store}
use Rattle.replication.specs.OpenBatch.{open_batch}
use Rattle.replication.specs.Machine.{Ticks, Remembered, State, greatest}
use Rattle.replication.specs.Lists.{World, put_at}
use Rattle.replication.proofs.Machine.Best.{Mem}
use Rattle.replication.proofs.Tables.Selected.{kept}
use Rattle.replication.proofs.Bytes.Store.{store_bytes_lem}
use Rattle.replication.proofs.Bytes.Batch.{batch_bytes_lem}
use Rattle.replication.proofs.Contents.Valid.{store_exact, batch_exact}
use Rattle.replication.proofs.Machine.Laws.{Good}

-- ---- stores

pub record StoreFollows (L : Limits) (s : List ℕ) (vs : List Rec) (k : Ticks) (p : ℕ) : Type 0 where
  pub st : Store
  pub bytes : s ≡ encode_store st
  pub valid : LawfulStore L st
  pub own : st.own ≡ p
  pub ticks : (i q : ℕ) → i ≤ highest → known st.knowledge i q ≡ k i q
  pub records : (i : ℕ) → find i st.records ≡ greatest vs k i

module _ (L : Limits) (s : List ℕ) (vs : List Rec) (k : Ticks) (p : ℕ) (f : StoreFollows L s vs k p) where
  pub store_octets : Bytes s
  store_octets = subst Bytes (sym f.bytes) (store_bytes_lem f.st)

  pub store_opens : Permitted L → open_store L s ≡ accepted f.st
  store_opens permitted = (store_exact L s f.st permitted store_octets).1 (f.bytes, f.valid)

-- ---- batches

pub record BatchFollows (L : Limits) (s : List ℕ) (vs : List Rec) (m : Remembered) : Type 0 where
  pub b : Batch
  pub bytes : s ≡ encode_batch b
  pub valid : LawfulBatch L b
  pub first : b.first ≡ m.first
  pub last : b.last ≡ m.last
  pub top : b.last ≤ highest
  pub inside : (i q : ℕ) → b.first ≤ i → i ≤ b.last → known b.learned i q ≡ m.ticks i q
  pub records : (i : ℕ) → find i b.records ≡ kept b.first b.last b.needed (greatest vs m.ticks i)

pub batch_opens : (L : Limits) (s : List ℕ) (vs : List Rec) (m : Remembered) (f : BatchFollows L s vs m) → Permitted L → open_batch L s ≡ accepted f.b
batch_opens L s vs m f permitted =
    (batch_exact L s f.b permitted (subst Bytes (sym f.bytes) (batch_bytes_lem f.b))).1 (f.bytes, f.valid)

-- ---- world and machine

-- the world with other bytes of one store
unfoldable pub stored : ℕ → List ℕ → World → World
stored who bs w = record { stores = put_at who bs w.stores; batches = w.batches }

abbrev pub Paired : Limits → List Rec → List (List ℕ) → List Remembered → Type 0
Paired L vs [] [] = Unit {0}
Paired L vs [] (m ∷ ms) = ⊥
Paired L vs (s ∷ ss) [] = ⊥
Paired L vs (s ∷ ss) (m ∷ ms) = BatchFollows L s vs m × Paired L vs ss ms

pub record Follows (L : Limits) (w : World) (m : State) : Type 0 where
  pub good : Good m
  pub items : (r : Rec) → Mem r m.versions → r.item ≤ highest
  pub stores : (p : ℕ) → p < 256 ^ 16 → StoreFollows L (w.stores p) m.versions (m.ticks p) p
  pub batches : Paired L m.versions w.batches m.batches

module _ (L : Limits) (permitted : Permitted L) (w : World) (m : State) (f : Follows L w m) where
  pub opens : (p : ℕ) (small : p < 256 ^ 16) → open_store L (w.stores p) ≡ accepted (f.stores p small).st
  opens p small = store_opens L (w.stores p) m.versions (m.ticks p) p (f.stores p small) permitted
