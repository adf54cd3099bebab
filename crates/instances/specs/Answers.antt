-- What is asked of a list of calls: what each call answers, from the bytes as the calls before it left them, which is the length that it
-- wrote or the number of its refusal; which calls were refused; and the bytes of the stores.
use Rattle.std.specs.Prelude.{ℕ, Bool, List, [], ◌∷◌}
use Rattle.std.proofs.Math.Option.{Option, none, some}
use Rattle.codec.specs.Answer.{Answer}
use Rattle.codec.specs.Reply.{Reply, refuses, answer}
use Rattle.layout.specs.Knowledge.{Limits, Rules}
use Rattle.replication.specs.Call.{Call, edit, delete, make, apply, Fed}
use Rattle.replication.specs.Calls.{edit_reply, delete_reply, make_reply, apply_reply}
use Rattle.replication.specs.Lists.{World, batch_number, writes, keep}
use Rattle.replication.specs.Runner.{room_of}

-- the reply to a call. An apply of a batch that was not made gets 0, which is no refusal's number
unfoldable pub applied_to : Limits → List ℕ → Option (List ℕ) → Reply
applied_to L s none = refuses 0
applied_to L s (some batch) = apply_reply L s batch

unfoldable pub replied : Rules → World → Call → Reply
replied R w (edit who item brought room) = edit_reply R.limits (w.stores who) item brought
replied R w (delete who item room) = delete_reply R.limits (w.stores who) item
replied R w (make who knowledge first last room) = make_reply R (w.stores who) knowledge first last
replied R w (apply who which room) = applied_to R.limits (w.stores who) (batch_number which w.batches)

-- the answer to each call of a list
unfoldable pub answers : Rules → World → List Call → List Answer
answers R w [] = []
answers R w (c ∷ cs) = answer (replied R w c) (room_of c) ∷ answers R (keep w c (writes R w c)) cs

-- was each call refused
unfoldable pub flags : List Fed → List Bool
flags [] = []
flags (x ∷ xs) = x.refused ∷ flags xs

-- the bytes of the stores of the given replicas
unfoldable pub stores_of : List ℕ → World → List (List ℕ)
stores_of [] w = []
stores_of (p ∷ ps) w = w.stores p ∷ stores_of ps w
