-- `lookup::from_check` meets its contract, in each of the check's two answers.
use Rattle.std.proofs.lemmas.Result.{err_from_is_err_and}
use Rattle.lookup.proofs.Calls.{counts_opened, fault_opened}
use Rattle.lookup.proofs.from_check.Goals as goal

pub returns-in_err-n : goal.returns-in_err-n
returns-in_err-n g c number_of =
    let p = err_from_is_err_and c.from_residual.result c.from_residual.ensures.1 in
    rw (p.1, p.2) (fault_opened _ number_of _ c.in_err-n.was)

pub returns : goal.returns
returns g c number_of = counts_opened _ number_of c.in_ok-n.n _ c.in_ok-n.was c.start-start.ensures
