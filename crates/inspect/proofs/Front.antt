-- The contract of `check_front`, taken as a hypothesis by the places of its parameters: its answer is the check's for every input, however
-- long, whose first bytes, at most 14,934 of them, are the first n of the buffer.
use Prim.Native.Nat.{ℕ}
use mathlib.Core.Path.{◌≡◌}
use mathlib.Core.List.{List}
use lib.ListN.{take}
use contract.Lifetimes.{Lfts}
use denote.Triple.Clauses.{AtExit}
use borrow.Fn.Kinds.{Dens, res_t, ended_of}
use Rattle.layout.specs.Checked.{checked_of}
use Rattle.layout.specs.Knowledge.{basic}
use Rattle.layout.specs.Parse.{checked_by}
use Rattle.inspect.proofs.check_front.Kinds as kinds
use Rattle.inspect.proofs.check_front.Reads as reads

pub front_told : (κs : Lfts 1) (a : Dens κs kinds.ps) (r : (res_t kinds.r κs).Denot) (s : AtExit (ended_of 1 kinds.ps kinds.r) κs)
    → reads.Learnt κs a r s → (input : List ℕ) → take 14934 input ≡ take a.1.0 a.0.now → checked_of r ≡ checked_by basic input
front_told κs a r s h input e = h input e
