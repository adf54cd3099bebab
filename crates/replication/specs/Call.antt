-- Calls of a list, as values, which the runner of lists and the plain history machine share. Document 01: "A list of calls in demand 3
-- has edit, delete, make and apply, in any order, with any arguments and any output buffers, refused calls included."
use Rattle.std.specs.Prelude.{ℕ, ◌^◌, ◌<◌, Bool, List}
use Rattle.codec.specs.Number.{Bytes}

abbrev pub ReplicaId : ℕ → Type 0  -- the ids that lists speak of: those of 16 bytes
ReplicaId p = p < 256 ^ 16

pub record Brought : Type 0 where  -- what an edit brings beside the item, as bytes of any number
  pub tag : List ℕ

abbrev pub brings : List ℕ → Brought  -- the tag's bytes
brings tag = record { tag = tag }

-- a call: its replica's id, its arguments as bytes, for an apply the number of the batch in the order in which the list made them, and
-- the length of the output buffer
pub data Call : Type 0 where
  edit : (who : ℕ) (item : List ℕ) (brought : Brought) (room : ℕ) → Call
  delete : (who : ℕ) (item : List ℕ) (room : ℕ) → Call
  make : (who : ℕ) (knowledge first last : List ℕ) (room : ℕ) → Call
  apply : (who which : ℕ) (room : ℕ) → Call

pub record BytesBrought (b : Brought) : Type 0 where
  pub tag : Bytes b.tag

-- what is given of a call: the id has 16 bytes, and the arguments are bytes
abbrev pub Given : Call → Type 0
Given (edit who item brought room) = ReplicaId who × (Bytes item × BytesBrought brought)
Given (delete who item room) = ReplicaId who × Bytes item
Given (make who knowledge first last room) = ReplicaId who × (Bytes knowledge × (Bytes first × Bytes last))
Given (apply who which room) = ReplicaId who

-- "The machine is fed each call's replica and arguments, whether the call was refused, and for an apply which make wrote the batch."
pub record Fed : Type 0 where
  pub call : Call
  pub refused : Bool
