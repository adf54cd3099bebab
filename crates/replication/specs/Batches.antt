-- What each batch of a list carries, in the terms of the machine and of the knowledge that it was made for. The promise of demand 3
-- speaks of stores; this says of batches that they are valid, and the rest of document 01's "Make".
use Rattle.std.specs.Prelude.{ℕ, ◌≤◌, ◌<◌, ◌≡◌, ◌↔◌, List, [], ◌∷◌, ◌++◌}
use Rattle.codec.specs.Prelude.{Option, none, some}
use Rattle.layout.specs.Knowledge.{Limits, Rules, Knowledge, encode, Lawful}
use Rattle.ticks.specs.Meaning.{highest, known}
use Rattle.replication.specs.Record.{Rec}
use Rattle.replication.specs.Call.{ReplicaId, Call, edit, delete, make, apply}
use Rattle.replication.specs.Formats.{find, Store}
use Rattle.replication.specs.BatchFormat.{Batch, encode_batch}
use Rattle.replication.specs.ValidBatch.{LawfulBatch}
use Rattle.replication.specs.Lists.{World, start, batch_number, writes, keep}
use Rattle.replication.specs.Machine.{Remembered, State, greatest, remembered_at}
use Rattle.replication.specs.Promise.{store_after, batch_of, machine, IsStore}

-- s are the bytes of a batch that meets document 01's list "A valid batch"
pub record IsBatch (L : Limits) (s : List ℕ) (b : Batch) : Type 0 where
  pub bytes : s ≡ encode_batch b
  pub valid : LawfulBatch L b

-- the knowledge bytes that the batches of a list were made for, the oldest first: those given to each make that writes
unfoldable pub asks : Call → Option (List ℕ) → List (List ℕ)
asks c none = []
asks (make who knowledge first last room) (some bs) = knowledge ∷ []
asks (edit who item brought room) (some bs) = []
asks (delete who item room) (some bs) = []
asks (apply who which room) (some bs) = []

unfoldable pub asked : Rules → World → List Call → List (List ℕ)
asked R w [] = []
asked R w (c ∷ cs) = asks c (writes R w c) ++ asked R (keep w c (writes R w c)) cs

-- a record that a batch carries: the whole record of the greatest version of an item of the span that the maker's ticks contained, where
-- needed lacks that version
pub record Carries (vs : List Rec) (m : Remembered) (b : Batch) (i : ℕ) (r : Rec) : Type 0 where
  pub greatest : greatest vs m.ticks i ≡ some r
  pub above : m.first ≤ i
  pub below : i ≤ m.last
  pub lacked : known b.needed i r.change_replica < r.change_tick

-- one batch made, with its bytes, compared with what the machine remembers under the same number and with the knowledge that it was
-- made for
pub record BatchAgrees (L : Limits) (m : State) (n : ℕ) (k : Knowledge) (s : List ℕ) : Type 0 where
  pub batch : Batch
  pub is : IsBatch L s batch
  pub remembered : Remembered
  pub remembers : remembered_at n m.batches ≡ some remembered
  -- the span
  pub first : batch.first ≡ remembered.first
  pub last : batch.last ≡ remembered.last
  -- needed: the ticks known in the given knowledge
  pub needed : (i q : ℕ) → i ≤ highest → ReplicaId q → known batch.needed i q ≡ known k i q
  -- learned: the maker's known ticks inside the span; outside there are none, because the batch is valid
  pub inside : (i q : ℕ) → batch.first ≤ i → i ≤ batch.last → ReplicaId q
      → known batch.learned i q ≡ remembered.ticks i q
  -- its records, by rising item id because it is valid
  pub records : (i : ℕ) (r : Rec) → (find i batch.records ≡ some r) ↔ Carries m.versions remembered batch i r

-- batch n of a list and its bytes: the make that wrote it was given the bytes of a lawful knowledge
pub record BatchMade (R : Rules) (calls : List Call) (n : ℕ) (s : List ℕ) : Type 0 where
  pub given : Knowledge
  pub bytes : batch_number n (asked R start calls) ≡ some (encode given)
  pub lawful : Lawful R given
  pub agrees : BatchAgrees R.limits (machine R calls) n given s

-- every batch made is valid and what the machine remembers, for the knowledge that its make was given
pub record Batches (R : Rules) (calls : List Call) : Type 0 where
  pub agree : (n : ℕ) (s : List ℕ) → batch_of R calls n ≡ some s → BatchMade R calls n s
  -- the second half of 18 is never met: learned never has a tick of the store's own replica above the store's
  pub never18 : (p n i : ℕ) (s : List ℕ) (st : Store) (b : Batch) → ReplicaId p → i ≤ highest → batch_of R calls n ≡ some s
      → IsStore R.limits (store_after R calls p) st → IsBatch R.limits s b
      → known b.learned i st.own ≤ known st.knowledge i st.own
