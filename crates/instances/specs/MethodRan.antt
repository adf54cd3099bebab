-- Nothing to believe: flags, answers and end of a list of calls in one run, so that each list is computed once, in one piece or in stages;
-- and when a store stays.
use Rattle.std.specs.Prelude.{ℕ, zero, suc, ◌≡◌, Bool, true, false, List, [], ◌∷◌, eqb, get_or}
use Rattle.std.proofs.Math.Option.{Option, none, some}
use Rattle.codec.specs.Answer.{Answer}
use Rattle.codec.specs.Answer.{Refused}
use Rattle.codec.specs.Reply.{answer}
use Rattle.layout.specs.Knowledge.{Rules}
use Rattle.replication.specs.Call.{Call, edit, delete, make, apply}
use Rattle.replication.specs.Lists.{World, outcome, keep}
use Rattle.replication.specs.Runner.{room_of}
use Rattle.instances.specs.Answers.{replied, stores_of}

-- call k of a list and the answer to it
abbrev pub call_at : List Call → ℕ → Call
call_at cs k = get_or cs k (apply 0 0 0)

abbrev pub answer_at : List Answer → ℕ → Answer
answer_at xs k = get_or xs k (Refused 0)

pub record Ran : Type 0 where
  pub flags : List Bool
  pub answers : List Answer
  pub ends : World

unfoldable pub noted : Answer → Option (List ℕ) → Ran → Ran
noted a o r =
    record { flags = elim o [ none ↦ true | some bs ↦ false ] ∷ r.flags; answers = a ∷ r.answers; ends = r.ends }

unfoldable pub ran_once : Rules → World → List Call → Ran
ran_once R w [] = record { flags = []; answers = []; ends = w }
ran_once R w (c ∷ cs) =
    let r = replied R w c in
    let o = outcome r (room_of c) in
    noted (answer r (room_of c)) o (ran_once R (keep w c o) cs)

pub record Seen : Type 0 where
  pub flags : List Bool
  pub answers : List Answer
  pub stores : List (List ℕ)
  pub batches : List (List ℕ)

unfoldable pub seen : List ℕ → Ran → Seen
seen ps r = record { flags = r.flags; answers = r.answers; stores = stores_of ps r.ends; batches = r.ends.batches }

-- the same of a list of calls in stages, each from where the one before it ended
unfoldable pub in_stages : Rules → List ℕ → World → List (List Call) → List Seen
in_stages R ps w [] = []
in_stages R ps w (cs ∷ stages) = let r = ran_once R w cs in seen ps r ∷ in_stages R ps r.ends stages

abbrev pub caller_of : Call → ℕ
caller_of (edit who item brought room) = who
caller_of (delete who item room) = who
caller_of (make who knowledge first last room) = who
caller_of (apply who which room) = who

-- from call k on, each call is by another replica than p, or was refused
abbrev pub Idle : ℕ → ℕ → List Call → List Bool → Type 0
Idle k p [] fs = Unit {0}
Idle k p (c ∷ cs) [] = Unit {0}
Idle zero p (c ∷ cs) (true ∷ fs) = Idle zero p cs fs
Idle zero p (c ∷ cs) (false ∷ fs) = (eqb p (caller_of c) ≡ false) × Idle zero p cs fs
Idle (suc k) p (c ∷ cs) (f ∷ fs) = Idle k p cs fs
