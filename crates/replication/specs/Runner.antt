-- What a list of calls does, call by call, said without the definitions that run it (`run`, `trace`, `history`): the stores begin as new
-- returns them and the machine empty; a call writes bytes exactly where its reply of Calls.antt gives them and they fit the buffer; then
-- its replica's bytes become these, or one batch joins at the end, and nothing else changes; where it writes nothing, nothing changes; and
-- the machine does the call in the first case and nothing in the second.
use Rattle.std.specs.Prelude.{ℕ, ◌≤◌, ◌≡◌, ◌⊎◌, ◌↔◌, true, false, List, [], ◌∷◌, ◌++◌, length}
use Rattle.codec.specs.Prelude.{some}
use Rattle.codec.specs.Number.{put}
use Rattle.codec.specs.Reply.{gives}
use Rattle.layout.specs.Knowledge.{Rules}
use Rattle.replication.specs.Call.{ReplicaId, Call, edit, delete, make, apply, Fed}
use Rattle.replication.specs.Calls.{new_reply, edit_reply, delete_reply, make_reply, apply_reply}
use Rattle.replication.specs.Lists.{World, batch_number}
use Rattle.replication.specs.Machine.{Remembered, State, remembered_at, acts}

-- x has number n in a list, counted from 0: n others stand before it
pub record Number {A : Type 0} (n : ℕ) (l : List A) (x : A) : Type 0 where
  pub before : List A
  pub behind : List A
  pub is : l ≡ before ++ (x ∷ behind)
  pub count : length before ≡ n

-- the call's reply gives bs. "Each call gets its replica's store bytes"; "An apply gets a batch just as an earlier make of the list
-- wrote it", by its number in the order made
abbrev pub Replies : Rules → World → Call → List ℕ → Type 0
Replies R w (edit who item brought room) bs = edit_reply R.limits (w.stores who) item brought ≡ gives bs
Replies R w (delete who item room) bs = delete_reply R.limits (w.stores who) item ≡ gives bs
Replies R w (make who knowledge first last room) bs = make_reply R (w.stores who) knowledge first last ≡ gives bs
Replies R w (apply who which room) bs =
    (t : List ℕ) × (Number which w.batches t × (apply_reply R.limits (w.stores who) t ≡ gives bs))

-- the length of the call's output buffer
abbrev pub room_of : Call → ℕ
room_of (edit who item brought room) = room
room_of (delete who item room) = room
room_of (make who knowledge first last room) = room
room_of (apply who which room) = room

-- the call is not refused and writes bs
pub record Writes (R : Rules) (w : World) (c : Call) (bs : List ℕ) : Type 0 where
  pub reply : Replies R w c bs
  pub room : length bs ≤ room_of c

-- the call is refused, for whatever reason
pub record WritesNothing (R : Rules) (w : World) (c : Call) : Type 0 where
  pub nothing : (bs : List ℕ) → Writes R w c bs → ⊥

-- one replica's bytes are bs, and all else is as it was
pub record Stored (who : ℕ) (bs : List ℕ) (w after : World) : Type 0 where
  pub own : after.stores who ≡ bs
  pub others : (q : ℕ) → (q ≡ who → ⊥) → after.stores q ≡ w.stores q
  pub batches : after.batches ≡ w.batches

-- bs is one batch more, at the end, and all else is as it was
pub record Joined (bs : List ℕ) (w after : World) : Type 0 where
  pub stores : (q : ℕ) → after.stores q ≡ w.stores q
  pub batches : after.batches ≡ w.batches ++ (bs ∷ [])

-- what a call that wrote bs leaves
abbrev pub Leaves : Call → List ℕ → World → World → Type 0
Leaves (edit who item brought room) bs w after = Stored who bs w after
Leaves (delete who item room) bs w after = Stored who bs w after
Leaves (make who knowledge first last room) bs w after = Joined bs w after
Leaves (apply who which room) bs w after = Stored who bs w after

-- what the machine is told of a call: the call itself, and whether it was refused
pub record Told (R : Rules) (w : World) (c : Call) (x : Fed) : Type 0 where
  pub call : x.call ≡ c
  pub refused : (x.refused ≡ true) ↔ WritesNothing R w c
  pub done : (x.refused ≡ false) ↔ ((bs : List ℕ) × Writes R w c bs)

abbrev pub one : Call → List Call
one c = c ∷ []

-- of worlds, states of the machine and what the machine was told, after each list of calls. There is no other way to begin and no other
-- step, so this settles them (`runner_settled`)
pub record Runner (R : Rules) (world : List Call → World) (state : List Call → State) (fed : List Call → List Fed) : Type 0 where
  -- "It starts from stores that new returned, each under an id of its own"; no batch was made, and the machine is empty
  pub stores : (p : ℕ) → ReplicaId p → new_reply (put 16 p []) ≡ gives ((world []).stores p)
  pub batches : (world []).batches ≡ []
  pub versions : (state []).versions ≡ []
  pub ticks : (p i q : ℕ) → (state []).ticks p i q ≡ 0
  pub remembered : (state []).batches ≡ []
  -- "Each call gets its replica's store bytes as new or the last edit, delete or apply on that replica wrote them; a refused one leaves
  -- them as they were. Nothing else writes them meanwhile."
  pub written : (calls : List Call) (c : Call) (bs : List ℕ) → Writes R (world calls) c bs
      → Leaves c bs (world calls) (world (calls ++ one c))
  pub refused : (calls : List Call) (c : Call) → WritesNothing R (world calls) c → world (calls ++ one c) ≡ world calls
  -- a call writes or is refused
  pub decided : (calls : List Call) (c : Call) → ((bs : List ℕ) × Writes R (world calls) c bs) ⊎ WritesNothing R (world calls) c
  -- "The machine is fed each call's replica and arguments, whether the call was refused, and for an apply which make wrote the batch";
  -- "A refused call does nothing"
  pub untold : fed [] ≡ []
  pub told : (calls : List Call) (c : Call)
      → (x : Fed) × (Told R (world calls) c x × (fed (calls ++ one c) ≡ fed calls ++ (x ∷ [])))
  pub acted : (calls : List Call) (c : Call) (bs : List ℕ) → Writes R (world calls) c bs
      → state (calls ++ one c) ≡ acts (state calls) c
  pub idle : (calls : List Call) (c : Call) → WritesNothing R (world calls) c → state (calls ++ one c) ≡ state calls
  -- batches by number in the order made, in the bytes and in the machine
  pub numbered : (n : ℕ) (l : List (List ℕ)) (t : List ℕ) → (batch_number n l ≡ some t) ↔ Number n l t
  pub numbers : (n : ℕ) (l : List Remembered) (b : Remembered) → (remembered_at n l ≡ some b) ↔ Number n l b
