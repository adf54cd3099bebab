-- A tick raised in a copy of a knowledge's bytes: in each clock vector that has the replica's element, the new tick is written over the old
-- one. Here is what the code leaves for any bytes, any view of them and any buffer; and, as values, a knowledge in which the ticks of one key
-- are set. There is nothing to believe here: the law `copy_raised` says that the copy is what `raise` gives, where the knowledge is in normal
-- form and the replica has one tick for all items.
use Rattle.std.specs.Prelude.{ℕ, zero, suc, ◌+◌, ◌-◌, ◌*◌, ◌≤◌, ◌≡◌, true, false, List, [], ◌∷◌, eqb, ltb, leb, length}
use Rattle.codec.specs.Number.{be_at}
use Rattle.codec.specs.Part.{placed, bytes}
use Rattle.codec.specs.Total.{read_at}
use Rattle.codec.specs.Ids.{replica_of}
use Rattle.codec.specs.MethodEnded.{End, end_of}
use Rattle.codec.specs.Answer.{Written, Refused}
use Rattle.codec.specs.declared.Replica.{Replica}
use Rattle.layout.specs.Knowledge.{Element, Knowledge}
use Rattle.layout.specs.MethodPlaces.{vectors_place}
use Rattle.ticks.specs.Meaning.{highest, known}
use Rattle.lookup.specs.Method.{key_at, elements_there, elements_here}
use Rattle.lookup.specs.declared.View.{View}

-- Values

-- an element with another tick
abbrev pub with_tick : Element → ℕ → Element
with_tick x t = record { key = x.key; tick = t }

-- the first element that has the key has the tick
unfoldable pub tick_set : ℕ → ℕ → List Element → List Element
tick_set key t [] = []
tick_set key t (x ∷ xs) = elim (eqb x.key.0 key) [ true ↦ with_tick x t ∷ xs | false ↦ x ∷ tick_set key t xs ]

-- in each vector
unfoldable pub ticks_set : ℕ → ℕ → List (List Element) → List (List Element)
ticks_set key t [] = []
ticks_set key t (es ∷ vs) = tick_set key t es ∷ ticks_set key t vs

unfoldable pub knowledge_set : ℕ → ℕ → Knowledge → Knowledge
knowledge_set key t k = record { replicas = k.replicas; vectors = ticks_set key t k.vectors; ranges = k.ranges }

-- the replica p has the tick o, of 1 or more, for every item
pub record OneTick (k : Knowledge) (p o : ℕ) : Type 0 where
  pub alike : (i : ℕ) → i ≤ highest → known k i p ≡ o
  pub some : 1 ≤ o

-- Bytes

-- in a buffer u, elements stand from a place on: the tick is written over that of the first one that has the key
unfoldable pub first_written : ℕ → ℕ → List ℕ → ℕ → List Element → List ℕ
first_written key t u at [] = u
first_written key t u at (x ∷ xs) =
    elim (eqb x.key.0 key) [ true ↦ placed u (at + 4) (bytes 8 t) | false ↦ first_written key t u (at + 12) xs ]

-- The bytes s stand at the front of u, and in s a vector stands at a place. The element whose index is the key is taken where that one has the
-- key, and else the first that has it: where no key is there twice, these are the same.
unfoldable pub vector_written : ℕ → ℕ → List ℕ → List ℕ → ℕ → List ℕ
vector_written key t s u at =
    elim (ltb key (elements_there s at)) [
      | true ↦ elim (eqb (be_at s 4 (at + 8 + 12 * key)) key) [
        | true ↦ placed u (at + 8 + 12 * key + 4) (bytes 8 t)
        | false ↦ first_written key t u (at + 8) (elements_here s at)
      ]
      | false ↦ first_written key t u (at + 8) (elements_here s at)
    ]

-- n vectors stand there, one behind the other
unfoldable pub vectors_written : ℕ → ℕ → List ℕ → List ℕ → ℕ → ℕ → List ℕ
vectors_written key t s u zero at = u
vectors_written key t s u (suc n) at = vectors_written key t s (vector_written key t s u at) n (at + 8 + 12 * elements_there s at)

-- all vectors, behind r ids; their number stands in the four bytes before them
unfoldable pub all_written : ℕ → ℕ → List ℕ → ℕ → List ℕ → List ℕ
all_written key t s r u = vectors_written key t s u (read_at s 4 (vectors_place r - 4)) (vectors_place r)

-- what the call leaves: 14, or the copy with the tick of the replica written over
unfoldable pub copied_end : List ℕ → View → Replica → ℕ → List ℕ → End
copied_end s v p tick out =
    elim (leb (length s) (length out)) [
      | true ↦ end_of (all_written (key_at s v.r (replica_of p)).0 tick s v.r (placed out 0 s)) (Written (length s))
      | false ↦ end_of out (Refused 14)
    ]
