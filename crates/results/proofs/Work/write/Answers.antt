-- `Work::write` meets its contract: it works in the scratch for the last row that the table may have.
use Rattle.std.proofs.Common.{ℕ, ◌*◌, ◌≤◌, refl, ap₂, ◌∙◌, replicate, arith}
use Rattle.tables.specs.MethodWords.{stride, most_rows}
use Rattle.results.specs.declared.Work.{Work}
use Rattle.results.specs.declared.Work.TheVariants as W
use Rattle.results.specs.MethodOpened.{row_of, large_for, filled_by, table_end}
use Rattle.results.proofs.Opened.{small_sized, middle_sized, large_sized}
use Rattle.results.proofs.Work.write.Goals as goal

-- no table has more rows than the largest
large_most : (x : Work) → large_for x ≤ most_rows
large_most (W.Normalise s v) = omega arith
large_most (W.Merge s v other w) = omega arith
large_most (W.Raise s v p tick) = omega arith
large_most (W.Project s v x) = omega arith

pub returns-then-row-lt-SMALL : goal.returns-then-row-lt-SMALL
returns-then-row-lt-SMALL g c = let x = c.args.self in
    small_sized c.args.limits _ (row_of x) (large_for x) (filled_by x) _ (omega (arith, c.row-row.ensures)) c.write_in.ensures

pub returns-then-row-lt-MIDDLE : goal.returns-then-row-lt-MIDDLE
returns-then-row-lt-MIDDLE g c = let x = c.args.self in
    middle_sized c.args.limits _ (row_of x) (large_for x) (filled_by x) _ (omega (arith, c.row-row.ensures))
    (omega (arith, c.row-row.ensures)) c.write_in-then-row-lt-MIDDLE.ensures

pub returns : goal.returns
returns g c = let x = c.args.self in
    large_sized c.args.limits _ (row_of x) (large_for x) (filled_by x) _ (omega (arith, c.row-row.ensures))
    (omega (arith, c.row-row.ensures)) (large_for x) refl
    (c.write_in-2.ensures
    ∙ ap₂ (λ (b t : ℕ). table_end c.args.limits c.args.out.now (filled_by x (replicate (2 * stride) 0) (replicate b 0) (replicate t 0)))
    c.requires.0 c.requires.1)
