-- Request 13: which of two knowledges is ahead, over all ids. The order is a number: 0 alike, 1 the first is behind, 2 the first is ahead,
-- 3 each lacks something. For every side that lacks, the first's before the second's, 56 bytes are written: the lowest item id (24) and
-- there the lowest replica id (16) at which its tick is smaller, then the first's tick (8) and the second's (8).
use Rattle.std.specs.Prelude.{ℕ, ◌^◌, ◌≤◌, ◌<◌, ◌≡◌, ◌↔◌, List, [], ◌∷◌}
use Rattle.codec.specs.Number.{Bytes, put}
use Rattle.codec.specs.Reply.{Reply, gives, refuses, first_fault}
use Rattle.codec.specs.Answer.{Answer}
use Rattle.codec.specs.Answer.{Written, Refused}
use Rattle.codec.specs.Parsed.{accepted, refused, own_fault}
use Rattle.layout.specs.Knowledge.{Rules, Knowledge}
use Rattle.layout.specs.Parse.{parse}
use Rattle.ticks.specs.Meaning.{highest, known}
use Rattle.ticks.specs.Operations.{Lack, nowhere, here, lacking}
use Rattle.ticks.specs.Calls.{read_as}
use Rattle.ticks.specs.Answers.{AtLeast}

-- from where the first lacks and where the second does
unfoldable pub order_of : Lack → Lack → ℕ
order_of nowhere nowhere = 0
order_of (here i p) nowhere = 1
order_of nowhere (here j q) = 2
order_of (here i p) (here j q) = 3

-- by the search that cover uses, each way
unfoldable pub order : Knowledge → Knowledge → ℕ
order a b = order_of (lacking a b 0 highest) (lacking b a 0 highest)

-- the 56 bytes of an item and a replica, in front of t
unfoldable pub put_place : Knowledge → Knowledge → ℕ → ℕ → List ℕ → List ℕ
put_place a b i p t = put 24 i (put 16 p (put 8 (known a i p) (put 8 (known b i p) t)))

-- a side that lacks nothing writes nothing
unfoldable pub put_lack : Knowledge → Knowledge → Lack → List ℕ → List ℕ
put_lack a b nowhere t = t
put_lack a b (here i p) t = put_place a b i p t

unfoldable pub compared : Knowledge → Knowledge → List ℕ
compared a b = put_lack a b (lacking a b 0 highest) (put_lack a b (lacking b a 0 highest) [])

-- "first knowledge, then second"; nothing else is refused but a short buffer (14)
unfoldable pub compare_reply : Rules → List ℕ → List ℕ → Reply
compare_reply R s t =
    let p = parse R s in
    let q = parse R t in
    first_fault refuses (own_fault p ∷ own_fault q ∷ []) (gives (compared (read_as p) (read_as q)))

-- the order behind its pointer, from the value before the call, which stays on a refusal
unfoldable pub order_value : Rules → List ℕ → List ℕ → Answer → ℕ → ℕ
order_value R s t (Written n) old = order (read_as (parse R s)) (read_as (parse R t))
order_value R s t (Refused n) old = old

-- ---- what is said

-- a knows everything that b knows
abbrev pub Knows : Knowledge → Knowledge → Type 0
Knows a b = AtLeast a b 0 highest

-- "alike, first behind, first ahead, or each lacks something"
pub record Ordered (a b : Knowledge) (x : ℕ) : Type 0 where
  pub alike : (x ≡ 0) ↔ (Knows a b × Knows b a)
  pub behind : (x ≡ 1) ↔ (Knows b a × (Knows a b → ⊥))
  pub ahead : (x ≡ 2) ↔ (Knows a b × (Knows b a → ⊥))
  pub apart : (x ≡ 3) ↔ ((Knows a b → ⊥) × (Knows b a → ⊥))

-- "the lowest item id, then lowest replica id, at which its tick is smaller": of a, compared with b
pub record Lowest (a b : Knowledge) (i p : ℕ) : Type 0 where
  pub item : i ≤ highest
  pub replica : p < 256 ^ 16
  pub lacks : known a i p < known b i p
  pub items : (j q : ℕ) → j < i → known b j q ≤ known a j q
  pub replicas : (q : ℕ) → q < p → known b i q ≤ known a i q

-- the bytes that go with each order
pub record Reported (a b : Knowledge) (x : ℕ) (bs : List ℕ) : Type 0 where
  pub alike : x ≡ 0 → bs ≡ []
  pub behind : x ≡ 1 → (i : ℕ) × (p : ℕ) × Lowest a b i p × (bs ≡ put_place a b i p [])
  pub ahead : x ≡ 2 → (i : ℕ) × (p : ℕ) × Lowest b a i p × (bs ≡ put_place a b i p [])
  pub apart : x ≡ 3 → (i : ℕ) × (p : ℕ) × (j : ℕ) × (q : ℕ) × Lowest a b i p × Lowest b a j q
      × (bs ≡ put_place a b i p (put_place a b j q []))

-- what the call does with bytes that are read as a and b
pub record Finds (R : Rules) (s t : List ℕ) (a b : Knowledge) : Type 0 where
  pub bytes : compare_reply R s t ≡ gives (compared a b)
  pub value : (n old : ℕ) → order_value R s t (Written n) old ≡ order a b
  pub ordered : Ordered a b (order a b)
  pub reported : Reported a b (order a b) (compared a b)

pub record CompareSays (R : Rules) : Type 0 where
  pub one : (s t : List ℕ) (n : ℕ) → parse R s ≡ refused n → compare_reply R s t ≡ refuses n
  pub other : (s t : List ℕ) (a : Knowledge) (n : ℕ) → parse R s ≡ accepted a → parse R t ≡ refused n → compare_reply R s t ≡ refuses n
  pub found : (s t : List ℕ) (a b : Knowledge) → Bytes s → Bytes t → parse R s ≡ accepted a → parse R t ≡ accepted b → Finds R s t a b
  -- "The relation carries over: behind and behind gives behind."
  pub carries : (s t u : List ℕ) (a b c : Knowledge) → Bytes s → Bytes t → Bytes u → parse R s ≡ accepted a → parse R t ≡ accepted b
      → parse R u ≡ accepted c → order a b ≡ 1 → order b c ≡ 1 → order a c ≡ 1
