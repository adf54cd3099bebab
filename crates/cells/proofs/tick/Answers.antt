-- `cells::tick` meets its contract: the word at the place of a row and a column.
use Rattle.std.proofs.Common.{ℕ, ◌∙◌, ap, arith}
use Rattle.std.specs.Prelude.{slice_index}
use Rattle.tables.specs.MethodWords.{cell}
use Rattle.cells.proofs.tick.Goals as goal

pub returns : goal.returns
unfolding cell
returns c = c.word.ensures ∙ ap (λ (i : ℕ). slice_index c.args.t.now i) (omega arith)
