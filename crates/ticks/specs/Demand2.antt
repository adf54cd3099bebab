-- Demand 2, in its own words: "Knowledge bytes are accepted exactly by the published layout and our limits, and contain
-- exactly the versions it says. Normal forms are equal exactly when they contain the same versions, and reading one back
-- gives what was written. Merged knowledge contains a version exactly when either input did."
use Rattle.std.specs.Prelude.{ℕ, ◌^◌, ◌≤◌, ◌<◌, ◌≡◌, ◌⊎◌, ◌↔◌, true, List, length}
use Rattle.codec.specs.Number.{Bytes, be_at}
use Rattle.codec.specs.Reply.{gives}
use Rattle.layout.specs.Knowledge.{Rules, Knowledge, Lawful, encode}
use Rattle.layout.specs.Parse.{parse}
use Rattle.ticks.specs.Meaning.{highest, known, contains, Normal}
use Rattle.ticks.specs.Calls.{contain_number, contain_value, contain_answer, normalise_reply, merge_reply}
use Rattle.codec.specs.Parsed.{accepted}

-- the same versions are contained: for every item id of 24 bytes, replica id of 16 bytes and tick
pub record SameVersions (a b : Knowledge) : Type 0 where
  pub both : (i p t : ℕ) → i ≤ highest → p < 256 ^ 16 → contains a i p t ≡ contains b i p t

-- bs are the bytes of k, which is in normal form, and reading them back gives k
pub record NormalBytes (R : Rules) (bs : List ℕ) (k : Knowledge) : Type 0 where
  pub bytes : bs ≡ encode k
  pub back : parse R bs ≡ accepted k
  pub form : Normal k

-- what normalise wrote for s contains the same versions
pub record Normalised (R : Rules) (s bs : List ℕ) : Type 0 where
  pub given : Knowledge
  pub result : Knowledge
  pub read : parse R s ≡ accepted given
  pub normal : NormalBytes R bs result
  pub versions : SameVersions result given

-- what merge wrote for s and t contains a version exactly when either did
pub record Merged (R : Rules) (s t bs : List ℕ) : Type 0 where
  pub one : Knowledge
  pub other : Knowledge
  pub result : Knowledge
  pub first : parse R s ≡ accepted one
  pub second : parse R t ≡ accepted other
  pub normal : NormalBytes R bs result
  pub versions : (i p v : ℕ) → i ≤ highest → p < 256 ^ 16
      → (contains result i p v ≡ true) ↔ ((contains one i p v ≡ true) ⊎ (contains other i p v ≡ true))

-- an answer says whether P holds: its number is 0, its value 1 exactly where P holds and 0 exactly where it does not
pub record Decides {A : Type 0} (number : A → ℕ) (value : A → ℕ → ℕ) (answer : A) (P : Type 0) : Type 0 where
  pub fine : number answer ≡ 0
  pub yes : (old : ℕ) → (value answer old ≡ 1) ↔ P
  pub no : (old : ℕ) → (value answer old ≡ 0) ↔ (P → ⊥)

-- the five claims of the demand, one after the other
pub record Demand2 (R : Rules) : Type 0 where
  pub layout : (s : List ℕ) (k : Knowledge) → Bytes s
      → (parse R s ≡ accepted k) ↔ ((s ≡ encode k) × Lawful R k)
  pub versions : (s item replica : List ℕ) (t : ℕ) (k : Knowledge) → parse R s ≡ accepted k
      → length item ≡ 24 → length replica ≡ 16
      → Decides contain_number contain_value (contain_answer R s item replica t)
      ((1 ≤ t) × (t ≤ known k (be_at item 24 0) (be_at replica 16 0)))
  pub equal : (s t : List ℕ) (a b : Knowledge) → Bytes s → Bytes t → parse R s ≡ accepted a → parse R t ≡ accepted b
      → Normal a → Normal b → SameVersions a b ↔ (s ≡ t)
  pub normalised : (s bs : List ℕ) → Bytes s → normalise_reply R s ≡ gives bs → Normalised R s bs
  pub merged : (s t bs : List ℕ) → Bytes s → Bytes t → merge_reply R s t ≡ gives bs → Merged R s t bs
