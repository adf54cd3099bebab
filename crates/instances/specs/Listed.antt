-- K12 as a list of calls: P edits item 1 and makes batch 0, edits item 2 and makes batch 1; Q applies batch 1, which is
-- refused, then batch 0 and batch 1.
use Rattle.std.specs.Prelude.{ℕ, List, [], ◌∷◌}
use Rattle.layout.specs.Knowledge.{encode}
use Rattle.ticks.specs.Meaning.{highest}
use Rattle.replication.specs.Call.{Call, edit, make, apply}
use Rattle.instances.specs.Given.{empty_value, item_bytes, tagged, one}

unfoldable pub calls12 : ℕ → ℕ → List Call
calls12 P Q =
    edit P (item_bytes 1) (tagged 9) 1000 ∷
    make P (encode empty_value) (item_bytes 0) (item_bytes highest) 1000 ∷
    edit P (item_bytes 2) (tagged 8) 1000 ∷
    make P (encode (one P 1)) (item_bytes 0) (item_bytes highest) 1000 ∷
    apply Q 1 1000 ∷
    apply Q 0 1000 ∷
    apply Q 1 1000 ∷
    []
