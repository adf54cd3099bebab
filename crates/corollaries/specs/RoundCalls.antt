-- The round of document 02's paper 12 written out as a list of calls, one district after the other. Round.antt says what a round is; a
-- list like this, none of whose calls is refused, is one (`calls_round`), for any number of districts, each of them once.
use Rattle.std.specs.Prelude.{ℕ, suc, List, [], ◌∷◌, ◌++◌}
use Rattle.codec.specs.Number.{put}
use Rattle.layout.specs.Knowledge.{Rules}
use Rattle.ticks.specs.Meaning.{highest}
use Rattle.replication.specs.Call.{Call, make, apply}
use Rattle.replication.specs.Runner.{one}
use Rattle.corollaries.specs.Round.{Done}

-- what the calls of one half are given for each district: the knowledge that its batch is made for, in the paper that of the server
-- which applies it, and the lengths of the two output buffers
pub record Half : Type 0 where
  pub knowledge : ℕ → List ℕ
  pub make_room : ℕ → ℕ
  pub apply_room : ℕ → ℕ

-- for each district a batch over all ids, made by one server and then applied by another; n batches were made before
abbrev pub sends : (ℕ → ℕ) → (ℕ → ℕ) → Half → ℕ → List ℕ → List Call
sends maker taker h n [] = []
sends maker taker h n (d ∷ ds) =
    make (maker d) (h.knowledge d) (put 24 0 []) (put 24 highest []) (h.make_room d) ∷
    apply (taker d) n (h.apply_room d) ∷
    sends maker taker h (suc n) ds

-- "each district sends the centre a batch"
abbrev pub gathers : ℕ → Half → ℕ → List ℕ → List Call
gathers centre h n ds = sends (λ d. d) (λ d. centre) h n ds

-- "the centre sends each one"
abbrev pub spreads : ℕ → Half → ℕ → List ℕ → List Call
spreads centre h n ds = sends (λ d. centre) (λ d. d) h n ds

-- "no call refused": each of the calls writes, after those before it
abbrev pub AllDone : Rules → List Call → List Call → Type 0
AllDone R before [] = Unit {0}
AllDone R before (c ∷ cs) = Done R before c × AllDone R (before ++ one c) cs
