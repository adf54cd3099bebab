-- What contain, lead and cover answer, in document 01's terms: the number, 0 where nothing is refused, and the value, from the
-- value before the call. "Only the number returns" on a refusal: the value is as it was.
use Rattle.std.specs.Prelude.{ℕ, suc, ◌-◌, ◌^◌, ◌≤◌, ◌<◌, ◌≡◌, List, length, ℤ, pos, negsuc}
use Rattle.codec.specs.Number.{Bytes, be_at}
use Rattle.layout.specs.Knowledge.{Rules, Knowledge}
use Rattle.layout.specs.Parse.{parse}
use Rattle.ticks.specs.Meaning.{known}
use Rattle.ticks.specs.Demand2.{Decides}
use Rattle.ticks.specs.Contain.{Contain}
use Rattle.ticks.specs.Lead.{Lead}
use Rattle.ticks.specs.Cover.{Cover}
use Rattle.ticks.specs.Calls.{contain_number, contain_value, lead_number, lead_value, cover_number, cover_value}
use Rattle.ticks.specs.Calls.{contain_answer, lead_answer, cover_answer}
use Rattle.codec.specs.Parsed.{accepted, refused}

-- an answer is refused with n: its number is n, and the value stays
pub record RefusedWith {A B : Type 0} (number : A → ℕ) (value : A → B → B) (answer : A) (n : ℕ) : Type 0 where
  pub told : number answer ≡ n
  pub stays : (old : B) → value answer old ≡ old

-- ids that 17 does not refuse: an item id of 24 bytes and a replica id of 16
abbrev pub ProperIds : List ℕ → List ℕ → Type 0
ProperIds item replica = (length item ≡ 24) × (length replica ≡ 16)

-- "is a version contained": the tick is 1 or more and at most the known one
pub record ContainSays (R : Rules) (s item replica : List ℕ) (t : ℕ) (answer : Contain) : Type 0 where
  pub own : (n : ℕ) → parse R s ≡ refused n → RefusedWith contain_number contain_value answer n
  pub ids : (k : Knowledge) → parse R s ≡ accepted k → (ProperIds item replica → ⊥)
      → RefusedWith contain_number contain_value answer 17
  pub found : (k : Knowledge) → parse R s ≡ accepted k → ProperIds item replica
      → Decides contain_number contain_value answer ((1 ≤ t) × (t ≤ known k (be_at item 24 0) (be_at replica 16 0)))

-- "the first's tick minus the second's, a signed number": a − b where b is at most a, and else −(b − a)
pub record Difference (answer : Lead) (a b : ℕ) : Type 0 where
  pub fine : lead_number answer ≡ 0
  pub ahead : b ≤ a → (old : ℤ) → lead_value answer old ≡ pos (a - b)
  pub behind : a < b → (old : ℤ) → lead_value answer old ≡ negsuc (b - suc a)

pub record LeadSays (R : Rules) (s t item replica : List ℕ) (answer : Lead) : Type 0 where
  pub one : (n : ℕ) → parse R s ≡ refused n → RefusedWith lead_number lead_value answer n
  pub other : (a : Knowledge) (n : ℕ) → parse R s ≡ accepted a → parse R t ≡ refused n
      → RefusedWith lead_number lead_value answer n
  pub ids : (a b : Knowledge) → parse R s ≡ accepted a → parse R t ≡ accepted b → (ProperIds item replica → ⊥)
      → RefusedWith lead_number lead_value answer 17
  pub found : (a b : Knowledge) → parse R s ≡ accepted a → parse R t ≡ accepted b → ProperIds item replica
      → Difference answer (known a (be_at item 24 0) (be_at replica 16 0)) (known b (be_at item 24 0) (be_at replica 16 0))

-- "does one knowledge know at least as much as another throughout a span", for every replica id of 16 bytes
pub record AtLeast (a b : Knowledge) (first last : ℕ) : Type 0 where
  pub known : (i p : ℕ) → first ≤ i → i ≤ last → p < 256 ^ 16 → known b i p ≤ known a i p

-- a span that 17 does not refuse: its ids are 24 bytes long, and the first is not above the last
abbrev pub ProperSpan : List ℕ → List ℕ → Type 0
ProperSpan first last = (length first ≡ 24) × ((length last ≡ 24) × (be_at first 24 0 ≤ be_at last 24 0))

pub record CoverSays (R : Rules) (s t first last : List ℕ) (answer : Cover) : Type 0 where
  pub one : (n : ℕ) → parse R s ≡ refused n → RefusedWith cover_number cover_value answer n
  pub other : (a : Knowledge) (n : ℕ) → parse R s ≡ accepted a → parse R t ≡ refused n
      → RefusedWith cover_number cover_value answer n
  pub span : (a b : Knowledge) → parse R s ≡ accepted a → parse R t ≡ accepted b → (ProperSpan first last → ⊥)
      → RefusedWith cover_number cover_value answer 17
  pub found : (a b : Knowledge) → Bytes t → parse R s ≡ accepted a → parse R t ≡ accepted b → ProperSpan first last
      → Decides cover_number cover_value answer (AtLeast a b (be_at first 24 0) (be_at last 24 0))

pub record Answers (R : Rules) : Type 0 where
  pub contains : (s item replica : List ℕ) (t : ℕ) → ContainSays R s item replica t (contain_answer R s item replica t)
  pub leads : (s t item replica : List ℕ) → LeadSays R s t item replica (lead_answer R s t item replica)
  pub covers : (s t first last : List ℕ) → CoverSays R s t first last (cover_answer R s t first last)
