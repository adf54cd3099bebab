-- `inspect::check_front` meets its contract: it checks the bytes that were read, and the first 14,934 bytes decide (`prefix_base`).
use mathlib.Core.Path.{sym, ap, ◌∙◌}
use native.Mathlib.Omega.{arith}
use lib.ListN.{length-take}
use Rattle.layout.specs.Knowledge.{basic}
use Rattle.layout.specs.Parse.{checked_by}
use Rattle.layout.proofs.Prefix.{prefix_base}
use Rattle.inspect.proofs.check_front.Goals as goal

pub slice_bounds-check-end : goal.slice_bounds-check-end
slice_bounds-check-end c = let a = c.args in
    let p = c.requires in
    omega (arith, p.0, p.1, length-take a.n a.buffer.now)

pub returns : goal.returns
returns c = λ input e. c.check.ensures ∙ (ap (checked_by basic) (sym e) ∙ prefix_base input)
