-- `lookup::open_within` meets its contract: it opens with what the check answers, whose errors are refusals.
use Rattle.std.proofs.Common.{◌∙◌, ap, sym}
use Rattle.codec.specs.Refusal.{number}
use Rattle.lookup.specs.Method.{open_of}
use Rattle.lookup.proofs.Calls.{checked_refusals, opened_refusals}
use Rattle.lookup.proofs.open_within.Goals as goal

pub returns : goal.returns
returns c =
    sym (opened_refusals _) ∙ c.from_check.ensures number ∙ ap open_of (checked_refusals _) ∙ ap open_of c.check_within.ensures
