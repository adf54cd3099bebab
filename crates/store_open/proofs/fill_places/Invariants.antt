-- `store_open::fill_places` meets its contract. The loop's invariant: the table has the places of the vectors so far, and the next one is known.
use mathlib.Core.Path.{◌≡◌}
use lib.ListN.{length}
use Rattle.store_open.proofs.Places.{Filling}
use Rattle.store_open.proofs.fill_places.Given as goal

abbrev pub invariant-loop-j : goal.invariant-loop-j
invariant-loop-j l = Filling l.k l.r l.n l.j l.at l.places × (length l.places ≡ length l.initial.places)
