-- `lookup::ahead` meets its contract: the difference of two numbers below 2^63 fits.
use Rattle.lookup.proofs.Calls.{difference_fits, difference_exact}
use Rattle.lookup.proofs.ahead.Goals as goal

pub overflow_sub-result : goal.overflow_sub-result
overflow_sub-result c = difference_fits _ _ c.requires.0 c.requires.1

pub returns : goal.returns
returns c = difference_exact _ _ c.requires.0 c.requires.1
