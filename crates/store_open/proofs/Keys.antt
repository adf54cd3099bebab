-- The key of a replica id, by a guess. The id that the guessed key stands for is compared with the one that is looked for, and no id is there
-- twice: so the guess is the key, or it is not taken (`guess_is`). Nothing need hold of the guesses.
use Prim.Native.Nat.{ℕ, ◌+◌, ◌*◌, ◌<◌}
use mathlib.Core.Path.{◌≡◌, sym, ap, ◌∙◌, subst}
use mathlib.Core.Bool.{Bool, true}
use mathlib.Core.List.{List}
use native.Mathlib.Omega.{arith}
use lib.Dec.{eqb}
use lib.ListN.{get_or}
use borrow.Author.Tests.{eqb-true}
use Rattle.codec.specs.Number.{be_at}
use Rattle.layout.specs.Knowledge.{Distinct}
use Rattle.layout.specs.Decode.{ids_at}
use Rattle.layout.specs.MethodPlaces.{ids_place}
use Rattle.layout.proofs.Places.{ids-length, id_at_lem}
use Rattle.ticks.specs.Meaning.{place}
use Rattle.ticks.proofs.Unique.{place_own}
use Rattle.lookup.specs.declared.Cursor.{Cursor}
use Rattle.lookup.specs.Method.{key_at, Open}
use Rattle.lookup.proofs.Loops.{key_there}
use Rattle.lookup.proofs.Leaf.{opens_reading, read_lawful, read_ids, ids_room}
use Rattle.store_open.specs.MethodEach.{IdsOnce}

pub guess_is : (k : List ℕ) (r : ℕ) → IdsOnce k r → (guess p : ℕ) → guess < r → (b : Bool)
    → b ≡ eqb (be_at k 16 (ids_place + 16 * guess)) p → b ≡ true → record { 0 = guess } ≡ key_at k r p
guess_is k r o guess p l b e t =
    let ids = ids_at k r ids_place in
    let is : get_or ids guess 0 ≡ p =
    id_at_lem k r guess ids_place l ∙ eqb-true (be_at k 16 (ids_place + 16 * guess)) p (sym e ∙ t) in
    key_there k r p (record { 0 = guess }) o.room
    (sym (ap (λ x. place x ids) (sym is) ∙ place_own ids guess o.once (omega (arith, ids-length k r ids_place))))

-- so it is in bytes that the check accepts
pub ids_once : (k : List ℕ) (r : ℕ) (c : Cursor) → Open k r c → IdsOnce k r
ids_once k r c o =
    let h = opens_reading o.rules k r c o.opens in
    let v = o.opens.v in
    let e = o.opens.e in
    let g = o.opens.g in
    record {
      room = ids_room o.rules k r v e g h;
      once = subst Distinct (read_ids o.rules k r v e g h) (read_lawful o.rules k r v e g h).distinct;
    }
