-- Arguments as numbers: the calls' number of an id is the machine's, and it is below the powers of its size. And a decision of equality.
use Prim.Native.Nat.{ℕ, ◌^◌, ◌<◌}
use mathlib.Core.Path.{◌≡◌, refl, sym, ap, ◌∙◌}
use mathlib.Core.Logic.{◌⊎◌, inl, inr}
use mathlib.Core.Bool.{Bool, true, false}
use mathlib.Core.List.{List}
use lib.Dec.{eqb}
use lib.ListN.{length}
use borrow.Author.Tests.{eqb-true, eqb-false}
use Rattle.codec.specs.Number.{Bytes, be_at}
use Rattle.codec.proofs.Numbers.{be_below}
use Rattle.ticks.specs.Calls.{id_of}
use Rattle.ticks.proofs.ForCalls.{id_is}
use Rattle.replication.specs.Machine.{value}
use Rattle.replication.proofs.Machine.Supremum.{value_be}

pub same? : (p q : ℕ) → (p ≡ q) ⊎ (p ≡ q → ⊥)
same? p q = go (eqb p q) refl
  where
    go : (t : Bool) → eqb p q ≡ t → (p ≡ q) ⊎ (p ≡ q → ⊥)
    go true e = inl (eqb-true p q e)
    go false e = inr (eqb-false p q e)

-- an id as a number, in the calls and in the machine
pub id_value : (n : ℕ) (s : List ℕ) → length s ≡ n → id_of n s ≡ value 0 s
id_value n s e = id_is n s ∙ (ap (λ (l : ℕ). be_at s l 0) (sym e) ∙ sym (value_be s))

pub id_below : (n : ℕ) (s : List ℕ) → Bytes s → id_of n s < 256 ^ n
id_below n s b = rw (id_is n s) (be_below s n 0 b)
