-- `lacking::level` meets its contract: the cell of the other key, 0 where there is none.
use mathlib.Core.Path.{◌∙◌, ap}
use native.Mathlib.Omega.{arith}
use lib.ListN.{get_or}
use Rattle.std.specs.Prelude as Std
use Rattle.std.specs.Option.{unwrap_or}
use Prim.Native.Nat.{ℕ}
use Rattle.lacking.proofs.Cells.{level_none, level_is}
use Rattle.lacking.proofs.level.Goals as goal

pub returns-in_default : goal.returns-in_default
returns-in_default c = level_none _ _ _ c.in_default.ensures.lookup.3

pub returns : goal.returns
returns c = let there = c.in-Some.ensures.lookup in
    c.unwrap_or.ensures ∙ ap (λ (o : Std.Option ℕ). unwrap_or o 0) c.copied.ensures ∙ c.get-2.ensures.lookup.4 (omega arith) 0
    ∙ ap (λ (k : ℕ). get_or c.args.row.now k 0) (there.3.1 0) ∙ level_is _ _ _ there.3.0
