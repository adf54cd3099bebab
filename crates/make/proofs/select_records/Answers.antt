-- `make::select_records` meets its contract: the records of the span that the given knowledge lacks.
use Rattle.make.proofs.select_records.Goals as goal

pub returns-clause-count_value : goal.returns-clause-count_value
returns-clause-count_value c = c.select.ensures.count_value

pub returns-clause-picks_after : goal.returns-clause-picks_after
returns-clause-picks_after c = c.select.ensures.picks_after
