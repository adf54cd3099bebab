-- What demand 2 leaves unsaid of the calls that write: what project writes, and that normalise leaves a normal form as it
-- is.
use Rattle.std.specs.Prelude.{ℕ, ◌^◌, ◌≤◌, ◌<◌, ◌≡◌, ◌↔◌, List}
use Rattle.codec.specs.Number.{Bytes}
use Rattle.codec.specs.Reply.{gives}
use Rattle.layout.specs.Knowledge.{Rules, Knowledge}
use Rattle.layout.specs.Parse.{parse}
use Rattle.ticks.specs.Meaning.{highest, known, Normal}
use Rattle.ticks.specs.Operations.{known_inside}
use Rattle.ticks.specs.Demand2.{NormalBytes}
use Rattle.ticks.specs.Calls.{id_of, normalise_reply, project_reply}
use Rattle.codec.specs.Parsed.{accepted}

-- what project wrote is a normal form, reads back, and knows what was known inside the span and nothing outside
pub record Projected (R : Rules) (s first last bs : List ℕ) : Type 0 where
  pub given : Knowledge
  pub result : Knowledge
  pub read : parse R s ≡ accepted given
  pub normal : NormalBytes R bs result
  pub ticks : (i p : ℕ) → i ≤ highest → p < 256 ^ 16
      → known result i p ≡ known_inside (id_of 24 first) (id_of 24 last) given i p

pub record Results (R : Rules) : Type 0 where
  -- being in normal form is being what normalise writes
  pub test : (s : List ℕ) (k : Knowledge) → Bytes s → parse R s ≡ accepted k
      → Normal k ↔ (normalise_reply R s ≡ gives s)
  pub projected : (s first last bs : List ℕ) → Bytes s → project_reply R s first last ≡ gives bs
      → Projected R s first last bs
