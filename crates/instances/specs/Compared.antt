-- The instances of request 13, beside document 01's: two knowledges as bytes, their order, and all that is written. A is P 5 everywhere,
-- B is P 3 and Q 2, as in K4; A on the span 1..1 is that of K6.
use Rattle.std.specs.Prelude.{ℕ, ◌≡◌, List, [], ◌∷◌, length}
use Rattle.codec.specs.Number.{put}
use Rattle.codec.specs.Reply.{gives}
use Rattle.codec.specs.Answer.{Written}
use Rattle.layout.specs.Knowledge.{basic, Knowledge, encode}
use Rattle.ticks.specs.Compare.{compare_reply, order_value}
use Rattle.instances.specs.Given.{empty_value, ran, one, two, parts}

pub record Comparison : Type 0 where
  pub first : Knowledge
  pub second : Knowledge
  pub order : ℕ
  pub bytes : List ℕ
  pub size : ℕ

-- the call gives these bytes, so many, and this order over whatever was there
pub record Gives (c : Comparison) : Type 0 where
  pub reply : compare_reply basic (encode c.first) (encode c.second) ≡ gives c.bytes
  pub value : (n old : ℕ) → order_value basic (encode c.first) (encode c.second) (Written n) old ≡ c.order
  pub size : length c.bytes ≡ c.size

-- an item, a replica, the first's tick and the second's, in front of t
unfoldable pub entry : ℕ → ℕ → ℕ → ℕ → List ℕ → List ℕ
entry i p m n t = put 24 i (put 16 p (put 8 m (put 8 n t)))

-- A and B: A lacks Q 2, and B has P 3 only
unfoldable pub a_and_b : ℕ → ℕ → Comparison
a_and_b P Q = record { first = one P 5; second = two P 3 Q 2; order = 3; bytes = entry 0 Q 0 2 (entry 0 P 5 3 []); size = 112 }

-- the empty knowledge and A
unfoldable pub empty_and_a : ℕ → Comparison
empty_and_a P = record { first = empty_value; second = one P 5; order = 1; bytes = entry 0 P 0 5 []; size = 56 }

-- A on the span 1..1
unfoldable pub on_span : ℕ → Knowledge
on_span P = parts P 5 (ran 0 0 ∷ ran 1 1 ∷ ran 2 0 ∷ [])

-- A on the span 1..1, and A
unfoldable pub span_and_a : ℕ → Comparison
span_and_a P = record { first = on_span P; second = one P 5; order = 1; bytes = entry 0 P 0 5 []; size = 56 }

-- the empty knowledge, and A on the span 1..1: with the one above, behind and behind
unfoldable pub empty_and_span : ℕ → Comparison
empty_and_span P = record { first = empty_value; second = on_span P; order = 1; bytes = entry 1 P 0 5 []; size = 56 }

-- A, and A up to item 1: nothing lacks before item 2
unfoldable pub a_and_front : ℕ → Comparison
a_and_front P = record { first = one P 5; second = parts P 5 (ran 0 1 ∷ ran 2 0 ∷ []); order = 2; bytes = entry 2 P 5 0 []; size = 56 }

-- the empty knowledge, and B with Q before P in its map: P is the lowest replica id, though its key is the higher
unfoldable pub empty_and_map : ℕ → ℕ → Comparison
empty_and_map P Q = record { first = empty_value; second = two Q 2 P 3; order = 1; bytes = entry 0 P 0 3 []; size = 56 }

-- A and A
unfoldable pub a_and_a : ℕ → Comparison
a_and_a P = record { first = one P 5; second = one P 5; order = 0; bytes = []; size = 0 }

-- the bytes of the first of these for P1 and Q1, written out, which rest on no definition
unfoldable pub bytes_aand_b : List ℕ
bytes_aand_b =
    0 ∷ 0 ∷ 0 ∷ 0 ∷ 0 ∷ 0 ∷ 0 ∷ 0 ∷ 0 ∷ 0 ∷ 0 ∷ 0 ∷ 0 ∷ 0 ∷ 0 ∷ 0 ∷ 0 ∷ 0 ∷ 0 ∷ 0 ∷ 0 ∷ 0 ∷ 0 ∷ 0 ∷
    2 ∷ 0 ∷ 0 ∷ 0 ∷ 0 ∷ 0 ∷ 0 ∷ 0 ∷ 0 ∷ 0 ∷ 0 ∷ 0 ∷ 0 ∷ 0 ∷ 0 ∷ 7 ∷
    0 ∷ 0 ∷ 0 ∷ 0 ∷ 0 ∷ 0 ∷ 0 ∷ 0 ∷
    0 ∷ 0 ∷ 0 ∷ 0 ∷ 0 ∷ 0 ∷ 0 ∷ 2 ∷
    0 ∷ 0 ∷ 0 ∷ 0 ∷ 0 ∷ 0 ∷ 0 ∷ 0 ∷ 0 ∷ 0 ∷ 0 ∷ 0 ∷ 0 ∷ 0 ∷ 0 ∷ 0 ∷ 0 ∷ 0 ∷ 0 ∷ 0 ∷ 0 ∷ 0 ∷ 0 ∷ 0 ∷
    1 ∷ 0 ∷ 0 ∷ 0 ∷ 0 ∷ 0 ∷ 0 ∷ 0 ∷ 0 ∷ 0 ∷ 0 ∷ 0 ∷ 0 ∷ 0 ∷ 0 ∷ 7 ∷
    0 ∷ 0 ∷ 0 ∷ 0 ∷ 0 ∷ 0 ∷ 0 ∷ 5 ∷
    0 ∷ 0 ∷ 0 ∷ 0 ∷ 0 ∷ 0 ∷ 0 ∷ 3 ∷
    []

-- the table, for two replica ids of which the first is the lower
pub record Comparisons (P Q : ℕ) : Type 0 where
  pub a_and_b_lem : Gives (a_and_b P Q)
  pub empty_and_a_lem : Gives (empty_and_a P)
  pub span_and_a_lem : Gives (span_and_a P)
  pub empty_and_span_lem : Gives (empty_and_span P)
  pub a_and_front_lem : Gives (a_and_front P)
  pub empty_and_map_lem : Gives (empty_and_map P Q)
  pub a_and_a_lem : Gives (a_and_a P)
