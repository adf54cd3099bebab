-- What is accepted though it is no normal form: the answer of the check, the bytes that normalise gives, and what contain
-- says. The values are `layout`'s own examples; the first one's bytes are written out from the paper's text.
use Rattle.std.specs.Prelude.{ℕ, List, [], ◌∷◌}
use Rattle.layout.specs.Checked.{Accepted}
use Rattle.layout.specs.Knowledge.{basic, Knowledge, encode}
use Rattle.layout.proofs.NotNormal.{el, ran, knowledge}
use Rattle.layout.proofs.NotNormal.{tick_zero, unused_replica, unused_vector, equal_vectors, empty_twice}
use Rattle.layout.proofs.NotNormal.{equal_neighbours, first_above_lem, later_first_lem, replicas_fall, keys_fall}
use Rattle.ticks.specs.Calls.{contain_answer, normalise_reply}
use Rattle.ticks.specs.Contain.{Contain}
use Rattle.ticks.specs.Contain as C
use Rattle.instances.specs.Given.{item_bytes, replica_bytes}
use Rattle.instances.specs.Table.{Row, checks, gets, contained, bytes_are}

unfoldable pub bytes_tick_zero : List ℕ
bytes_tick_zero =
    0 ∷ 0 ∷ 0 ∷ 5 ∷ 0 ∷ 0 ∷ 0 ∷ 0 ∷ 0 ∷ 0 ∷ 0 ∷ 1 ∷ 0 ∷ 0 ∷ 0 ∷ 0 ∷ 0 ∷ 0 ∷ 0 ∷ 5 ∷ 0 ∷ 0 ∷ 16 ∷ 0 ∷
    0 ∷ 0 ∷ 2 ∷ 0 ∷ 0 ∷ 0 ∷ 0 ∷ 0 ∷ 0 ∷ 0 ∷ 0 ∷ 0 ∷ 0 ∷ 0 ∷ 0 ∷ 0 ∷ 0 ∷ 0 ∷ 3 ∷ 0 ∷ 0 ∷ 0 ∷ 0 ∷ 0 ∷
    0 ∷ 0 ∷ 0 ∷ 0 ∷ 0 ∷ 0 ∷ 0 ∷ 0 ∷ 0 ∷ 0 ∷ 5 ∷ 0 ∷ 0 ∷ 0 ∷ 24 ∷ 0 ∷ 0 ∷ 16 ∷ 0 ∷ 0 ∷ 24 ∷ 0 ∷ 0 ∷ 1 ∷
    0 ∷ 0 ∷ 0 ∷ 21 ∷ 0 ∷ 0 ∷ 0 ∷ 2 ∷ 0 ∷ 0 ∷ 0 ∷ 1 ∷ 0 ∷ 0 ∷ 0 ∷ 0 ∷ 0 ∷ 0 ∷ 0 ∷ 1 ∷ 0 ∷ 0 ∷ 0 ∷ 2 ∷
    0 ∷ 0 ∷ 0 ∷ 0 ∷ 0 ∷ 0 ∷ 0 ∷ 0 ∷ 0 ∷ 0 ∷ 0 ∷ 7 ∷ 0 ∷ 0 ∷ 0 ∷ 1 ∷ 0 ∷ 0 ∷ 0 ∷ 0 ∷ 0 ∷ 0 ∷ 0 ∷ 0 ∷
    0 ∷ 0 ∷ 0 ∷ 23 ∷ 0 ∷ 0 ∷ 0 ∷ 1 ∷ 0 ∷ 0 ∷ 0 ∷ 22 ∷ 0 ∷ 0 ∷ 0 ∷ 1 ∷ 0 ∷ 0 ∷ 0 ∷ 0 ∷ 0 ∷ 0 ∷ 0 ∷ 0 ∷
    0 ∷ 0 ∷ 0 ∷ 0 ∷ 0 ∷ 0 ∷ 0 ∷ 0 ∷ 0 ∷ 0 ∷ 0 ∷ 0 ∷ 0 ∷ 0 ∷ 0 ∷ 0 ∷ 0 ∷ 0 ∷ 0 ∷ 1 ∷ 0 ∷ 0 ∷ 0 ∷ 0 ∷
    0 ∷ 0 ∷ 0 ∷ 25 ∷ 1 ∷ 0 ∷ 0 ∷ 0 ∷ 0 ∷
    []

unfoldable pub bytes_seven : List ℕ
bytes_seven =
    0 ∷ 0 ∷ 0 ∷ 5 ∷ 0 ∷ 0 ∷ 0 ∷ 0 ∷ 0 ∷ 0 ∷ 0 ∷ 1 ∷ 0 ∷ 0 ∷ 0 ∷ 0 ∷ 0 ∷ 0 ∷ 0 ∷ 5 ∷ 0 ∷ 0 ∷ 16 ∷ 0 ∷
    0 ∷ 0 ∷ 1 ∷ 0 ∷ 0 ∷ 0 ∷ 0 ∷ 0 ∷ 0 ∷ 0 ∷ 0 ∷ 0 ∷ 0 ∷ 0 ∷ 0 ∷ 0 ∷ 0 ∷ 0 ∷ 3 ∷ 0 ∷ 0 ∷ 0 ∷ 24 ∷ 0 ∷
    0 ∷ 16 ∷ 0 ∷ 0 ∷ 24 ∷ 0 ∷ 0 ∷ 1 ∷ 0 ∷ 0 ∷ 0 ∷ 21 ∷ 0 ∷ 0 ∷ 0 ∷ 2 ∷ 0 ∷ 0 ∷ 0 ∷ 1 ∷ 0 ∷ 0 ∷ 0 ∷ 0 ∷
    0 ∷ 0 ∷ 0 ∷ 1 ∷ 0 ∷ 0 ∷ 0 ∷ 1 ∷ 0 ∷ 0 ∷ 0 ∷ 0 ∷ 0 ∷ 0 ∷ 0 ∷ 0 ∷ 0 ∷ 0 ∷ 0 ∷ 7 ∷ 0 ∷ 0 ∷ 0 ∷ 23 ∷
    0 ∷ 0 ∷ 0 ∷ 1 ∷ 0 ∷ 0 ∷ 0 ∷ 22 ∷ 0 ∷ 0 ∷ 0 ∷ 1 ∷ 0 ∷ 0 ∷ 0 ∷ 0 ∷ 0 ∷ 0 ∷ 0 ∷ 0 ∷ 0 ∷ 0 ∷ 0 ∷ 0 ∷
    0 ∷ 0 ∷ 0 ∷ 0 ∷ 0 ∷ 0 ∷ 0 ∷ 0 ∷ 0 ∷ 0 ∷ 0 ∷ 0 ∷ 0 ∷ 0 ∷ 0 ∷ 1 ∷ 0 ∷ 0 ∷ 0 ∷ 0 ∷ 0 ∷ 0 ∷ 0 ∷ 25 ∷
    1 ∷ 0 ∷ 0 ∷ 0 ∷ 0 ∷
    []

-- what normalise gives for a knowledge, and whether it contains a version
abbrev pub normalised : Knowledge → Knowledge → ℕ → Row
normalised k result n = gets (normalise_reply basic (encode k)) (encode result) n

abbrev pub asked : Knowledge → ℕ → ℕ → ℕ → Contain → Row
asked k i p t x = contained (contain_answer basic (encode k) (item_bytes i) (replica_bytes p) t) x

unfoldable pub not_normal_rows : List Row
not_normal_rows =
    bytes_are (encode tick_zero) bytes_tick_zero ∷
    gets (normalise_reply basic bytes_tick_zero) bytes_seven 149 ∷
    -- a tick of 0 says nothing: replica 5 goes
    checks (encode tick_zero) (Accepted 2 2 2 1) ∷
    normalised tick_zero (knowledge (3 ∷ []) ([] ∷ (el 0 7 ∷ []) ∷ []) (ran 0 1 ∷ [])) 149 ∷
    asked tick_zero 0 3 7 C.Contained ∷
    asked tick_zero 0 5 0 C.Lacking ∷
    asked tick_zero 0 5 1 C.Lacking ∷
    -- an unused replica goes, and keys count anew
    checks (encode unused_replica) (Accepted 2 2 1 1) ∷
    normalised unused_replica (knowledge (5 ∷ []) ([] ∷ (el 0 4 ∷ []) ∷ []) (ran 0 1 ∷ [])) 149 ∷
    asked unused_replica 0 5 4 C.Contained ∷
    asked unused_replica 0 3 1 C.Lacking ∷
    -- an unused vector goes
    checks (encode unused_vector) (Accepted 1 3 2 1) ∷
    normalised unused_vector (knowledge (3 ∷ []) ([] ∷ (el 0 7 ∷ []) ∷ []) (ran 0 1 ∷ [])) 149 ∷
    asked unused_vector 0 3 7 C.Contained ∷
    asked unused_vector 0 3 8 C.Lacking ∷
    -- equal vectors become one
    checks (encode equal_vectors) (Accepted 1 3 2 3) ∷
    normalised equal_vectors (knowledge (3 ∷ []) ([] ∷ (el 0 7 ∷ []) ∷ []) (ran 0 1 ∷ ran 9 0 ∷ ran 20 1 ∷ [])) 205 ∷
    asked equal_vectors 8 3 7 C.Contained ∷
    asked equal_vectors 9 3 1 C.Lacking ∷
    asked equal_vectors 20 3 7 C.Contained ∷
    -- a second empty vector is vector 0
    checks (encode empty_twice) (Accepted 1 3 1 2) ∷
    normalised empty_twice (knowledge (3 ∷ []) ([] ∷ (el 0 7 ∷ []) ∷ []) (ran 0 0 ∷ ran 9 1 ∷ [])) 177 ∷
    asked empty_twice 8 3 1 C.Lacking ∷
    asked empty_twice 9 3 7 C.Contained ∷
    -- neighbours with one vector become one range
    checks (encode equal_neighbours) (Accepted 1 2 1 3) ∷
    normalised equal_neighbours (knowledge (3 ∷ []) ([] ∷ (el 0 7 ∷ []) ∷ []) (ran 0 1 ∷ ran 20 0 ∷ [])) 177 ∷
    asked equal_neighbours 19 3 7 C.Contained ∷
    asked equal_neighbours 20 3 1 C.Lacking ∷
    -- below the first range nothing is known: a range at 0 says so
    checks (encode first_above_lem) (Accepted 1 2 1 1) ∷
    normalised first_above_lem (knowledge (3 ∷ []) ([] ∷ (el 0 7 ∷ []) ∷ []) (ran 0 0 ∷ ran 9 1 ∷ [])) 177 ∷
    asked first_above_lem 8 3 1 C.Lacking ∷
    asked first_above_lem 9 3 7 C.Contained ∷
    -- vectors come in order of first use
    checks (encode later_first_lem) (Accepted 1 3 2 2) ∷
    normalised later_first_lem (knowledge (3 ∷ []) ([] ∷ (el 0 7 ∷ []) ∷ (el 0 4 ∷ []) ∷ []) (ran 0 1 ∷ ran 9 2 ∷ [])) 197 ∷
    asked later_first_lem 8 3 7 C.Contained ∷
    asked later_first_lem 9 3 5 C.Lacking ∷
    asked later_first_lem 9 3 4 C.Contained ∷
    -- replicas rise
    checks (encode replicas_fall) (Accepted 2 2 2 1) ∷
    normalised replicas_fall (knowledge (3 ∷ 5 ∷ []) ([] ∷ (el 0 7 ∷ el 1 4 ∷ []) ∷ []) (ran 0 1 ∷ [])) 177 ∷
    asked replicas_fall 0 3 7 C.Contained ∷
    asked replicas_fall 0 5 5 C.Lacking ∷
    -- elements come by rising key
    checks (encode keys_fall) (Accepted 2 2 2 1) ∷
    normalised keys_fall (knowledge (3 ∷ 5 ∷ []) ([] ∷ (el 0 7 ∷ el 1 4 ∷ []) ∷ []) (ran 0 1 ∷ [])) 177 ∷
    asked keys_fall 0 3 7 C.Contained ∷
    asked keys_fall 0 5 5 C.Lacking ∷
    []
