-- A call of a list, made by its C function. What the function returned and left is told by five values: the number, the length behind the
-- pointer `written` before and after the call, and the output buffer before and after.
use Rattle.std.specs.Prelude.{ℕ, ◌≤◌, ◌≡◌, List, ◌++◌, length, drop}
use Rattle.codec.specs.Prelude.{Option, none, some}
use Rattle.codec.specs.Reply.{Reply, answer, after, number_of, written_of}
use Rattle.layout.specs.Knowledge.{basic, base}
use Rattle.replication.specs.Call.{brings, edit, delete, make, apply}
use Rattle.replication.specs.Calls.{new_reply, edit_reply, delete_reply, make_reply, apply_reply}
use Rattle.replication.specs.Lists.{World, outcome, batch_number, writes}

-- number, length and buffer are those of a reply: the three equations of a C function's contract
pub record Called (reply : Reply) (number old written : ℕ) (out left : List ℕ) : Type 0 where
  pub returned : number ≡ number_of (answer reply (length out))
  pub told : written ≡ written_of (answer reply (length out)) old
  pub buffer : left ≡ after reply out

-- what a call of a list writes, as the C function tells it: at number 0 the bytes stand in front of the buffer, as many as told, and the
-- rest is as it was; at any other number the call wrote nothing, and nothing changed
pub data Step (number old written : ℕ) (out left : List ℕ) : Option (List ℕ) → Type 0 where
  wrote : (bs : List ℕ) → number ≡ 0 → written ≡ length bs → left ≡ bs ++ drop (length bs) out
      → Step number old written out left (some bs)
  refused : 1 ≤ number → written ≡ old → left ≡ out → Step number old written out left none

-- what the contract of each function says: the equations of its C function, and, for every world in which the bytes handed over are the
-- replica's, and the batch the one of the number, that it tells what `writes` of lists says of the call there
pub record NewStep (own : List ℕ) (number old written : ℕ) (out left : List ℕ) : Type 0 where
  pub equations : Called (new_reply own) number old written out left
  pub lists : Step number old written out left (outcome (new_reply own) (length out))

pub record EditStep (store item tag : List ℕ) (number old written : ℕ) (out left : List ℕ) : Type 0 where
  pub equations : Called (edit_reply base store item (brings tag)) number old written out left
  pub lists : (w : World) (who : ℕ) → w.stores who ≡ store
      → Step number old written out left (writes basic w (edit who item (brings tag) (length out)))

pub record DeleteStep (store item : List ℕ) (number old written : ℕ) (out left : List ℕ) : Type 0 where
  pub equations : Called (delete_reply base store item) number old written out left
  pub lists : (w : World) (who : ℕ) → w.stores who ≡ store → Step number old written out left (writes basic w (delete who item (length out)))

pub record MakeStep (store knowledge first last : List ℕ) (number old written : ℕ) (out left : List ℕ) : Type 0 where
  pub equations : Called (make_reply basic store knowledge first last) number old written out left
  pub lists : (w : World) (who : ℕ) → w.stores who ≡ store
      → Step number old written out left (writes basic w (make who knowledge first last (length out)))

pub record ApplyStep (store batch : List ℕ) (number old written : ℕ) (out left : List ℕ) : Type 0 where
  pub equations : Called (apply_reply base store batch) number old written out left
  pub lists : (w : World) (who which : ℕ) → w.stores who ≡ store → batch_number which w.batches ≡ some batch
      → Step number old written out left (writes basic w (apply who which (length out)))
