-- Lists of calls. Document 01: "It starts from stores that new returned, each under an id of its own." There is a replica under each
-- id of 16 bytes, so that a list may name any number of them and no two share an id.
use Rattle.std.specs.Prelude.{ℕ, zero, suc, true, false, List, [], ◌∷◌, ◌++◌, leb, eqb, length}
use Rattle.codec.specs.Prelude.{Option, none, some}
use Rattle.codec.specs.Reply.{Reply, gives, refuses}
use Rattle.layout.specs.Knowledge.{Limits, Rules}
use Rattle.replication.specs.Formats.{new_store, encode_store}
use Rattle.replication.specs.Call.{Call, edit, delete, make, apply, Fed}
use Rattle.replication.specs.Calls.{edit_reply, delete_reply, make_reply, apply_reply}

-- the bytes of every replica's store, and of the batches made, the oldest first
pub record World : Type 0 where
  pub stores : ℕ → List ℕ
  pub batches : List (List ℕ)

unfoldable pub start : World
start = record { stores = λ p. encode_store (new_store p); batches = [] }

-- what a call writes into a buffer of the given length; none where it is refused, for whatever reason
unfoldable pub outcome : Reply → ℕ → Option (List ℕ)
outcome (gives bs) room = elim (leb (length bs) room) [ true ↦ some bs | false ↦ none ]
outcome (refuses n) room = none

unfoldable pub batch_number : ℕ → List (List ℕ) → Option (List ℕ)
batch_number n [] = none
batch_number zero (b ∷ bs) = some b
batch_number (suc n) (b ∷ bs) = batch_number n bs

-- "An apply gets a batch just as an earlier make of the list wrote it, on any replica, the maker too."
unfoldable pub apply_to : Limits → List ℕ → Option (List ℕ) → ℕ → Option (List ℕ)
apply_to L s none room = none
apply_to L s (some batch) room = outcome (apply_reply L s batch) room

unfoldable pub writes : Rules → World → Call → Option (List ℕ)
writes R w (edit who item brought room) = outcome (edit_reply R.limits (w.stores who) item brought) room
writes R w (delete who item room) = outcome (delete_reply R.limits (w.stores who) item) room
writes R w (make who knowledge first last room) = outcome (make_reply R (w.stores who) knowledge first last) room
writes R w (apply who which room) = apply_to R.limits (w.stores who) (batch_number which w.batches) room

unfoldable pub put_at : {A : Type 0} → ℕ → A → (ℕ → A) → ℕ → A  -- a function with another value at one place
put_at p x f q = elim (eqb q p) [ true ↦ x | false ↦ f q ]

-- "Each call gets its replica's store bytes as new or the last edit, delete or apply on that replica wrote them; a refused one leaves
-- them as they were."
unfoldable pub keep : World → Call → Option (List ℕ) → World
keep w c none = w
keep w (make who knowledge first last room) (some bs) = record { stores = w.stores; batches = w.batches ++ (bs ∷ []) }
keep w (edit who item brought room) (some bs) = record { stores = put_at who bs w.stores; batches = w.batches }
keep w (delete who item room) (some bs) = record { stores = put_at who bs w.stores; batches = w.batches }
keep w (apply who which room) (some bs) = record { stores = put_at who bs w.stores; batches = w.batches }

unfoldable pub run : Rules → World → List Call → World
run R w [] = w
run R w (c ∷ cs) = run R (keep w c (writes R w c)) cs

unfoldable pub trace : Rules → World → List Call → List Fed
trace R w [] = []
trace R w (c ∷ cs) =
    record { call = c; refused = elim (writes R w c) [ none ↦ true | some bs ↦ false ] } ∷ trace R (keep w c (writes R w c)) cs
