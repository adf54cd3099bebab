-- What a program does that uses the C functions, call by call. It keeps, for each replica, the bytes that the functions last wrote, and the
-- batches as they were written, the oldest first (a `World`). What a function tells is its contract (Step.antt); what the program hands over
-- and what it keeps is said here. How it stores bytes is its own affair: that they come back unaltered is what is taken as given.
use Rattle.std.specs.Prelude.{ℕ, ◌≡◌, List, [], ◌++◌, take, length}
use Rattle.codec.specs.Prelude.{none, some}
use Rattle.codec.specs.Number.{put}
use Rattle.replication.specs.Call.{ReplicaId, Call, edit, delete, make, apply, Given}
use Rattle.replication.specs.Lists.{World, batch_number}
use Rattle.replication.specs.Runner.{one, Leaves}
use Rattle.joined.specs.Step.{NewStep, EditStep, DeleteStep, MakeStep, ApplyStep}

-- a replica's first bytes: what new wrote under its id
pub record Begun (p : ℕ) (store : List ℕ) : Type 0 where
  pub number : ℕ
  pub old : ℕ
  pub written : ℕ
  pub out : List ℕ
  pub left : List ℕ
  pub called : NewStep (put 16 p []) number old written out left
  pub fine : number ≡ 0
  pub taken : store ≡ take written left

-- the program makes a call: it hands over the bytes that it keeps for the replica, for an apply the batch of that number as it was written,
-- and a buffer of the call's length; and it is told what the function's contract says
abbrev pub Makes : World → Call → ℕ → ℕ → ℕ → List ℕ → List ℕ → Type 0
Makes w (edit who item brought room) number old written out left =
    (length out ≡ room) × EditStep (w.stores who) item brought.tag number old written out left
Makes w (delete who item room) number old written out left =
    (length out ≡ room) × DeleteStep (w.stores who) item number old written out left
Makes w (make who knowledge first last room) number old written out left =
    (length out ≡ room) × MakeStep (w.stores who) knowledge first last number old written out left
Makes w (apply who which room) number old written out left =
    (length out ≡ room)
    × ((batch : List ℕ) × ((batch_number which w.batches ≡ some batch) × ApplyStep (w.stores who) batch number old written out left))

-- what it keeps then: at number 0 it takes from the front of the buffer as many bytes as it was told, which are the replica's from now on,
-- or one batch more; at any other number it keeps what it had
pub record Keeps (c : Call) (number written : ℕ) (left : List ℕ) (w next : World) : Type 0 where
  pub taken : number ≡ 0 → Leaves c (take written left) w next
  pub same : (number ≡ 0 → ⊥) → next ≡ w

-- what it may have after a list of calls. A replica that is begun later is one that no call has named before
pub data Reached : List Call → World → Type 0 where
  begun : (w : World) → ((p : ℕ) → ReplicaId p → Begun p (w.stores p)) → w.batches ≡ [] → Reached [] w
  called : (calls : List Call) (w next : World) (c : Call) (number old written : ℕ) (out left : List ℕ) → Reached calls w → Given c
      → Makes w c number old written out left → Keeps c number written left w next → Reached (calls ++ one c) next
  -- there is nothing to hand over for a batch that was not made, so no function is called
  passed : (calls : List Call) (w : World) (who which room : ℕ) → Reached calls w → ReplicaId who → batch_number which w.batches ≡ none
      → Reached (calls ++ one (apply who which room)) w
