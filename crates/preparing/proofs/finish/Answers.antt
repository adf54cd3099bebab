-- `preparing::finish` meets its contract: the end goes by what was made ready, and by the room in the buffer.
use Rattle.std.proofs.Common.{arith}
use Rattle.std.proofs.lemmas.Result.{err_from_is_err_and}
use Rattle.codec.specs.declared.Refusal.TheVariants.{BufferTooShort}
use Rattle.codec.specs.Refusal.{number}
use Rattle.preparing.proofs.Ends.{ends_refused, ends_short, ends_written}
use Rattle.preparing.proofs.finish.Goals as goal

-- what was not made ready ends with its error, whichever number that has
-- and with the buffer as it was
pub returns-in_err-z : goal.returns-in_err-z
returns-in_err-z g c =
    let e = err_from_is_err_and c.from_residual.result c.from_residual.ensures.1 in
    rw (e.1, e.2) (ends_refused _ _ _ _ _ _ _ g.E.Numbered.number_of _ _ _ c.in_err-z.was)

pub returns-then-out-n : goal.returns-then-out-n
unfolding number
returns-then-out-n g c =
    ends_short _ _ _ _ _ _ _ g.E.Numbered.number_of _ _ _ c.in_ok-z.was (omega (arith, c.length-n.ensures)) _
    (g.met.E.Numbered.of_refusal BufferTooShort _ c.from.ensures)

pub returns : goal.returns
returns g c =
    ends_written _ _ _ _ _ _ _ g.E.Numbered.number_of _ _ _ c.in_ok-z.was _ _ (omega (arith, c.length-n.ensures)) c.write.ensures
    c.length-n.ensures
