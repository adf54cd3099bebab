-- `records_select::select` meets its contract: what is selected behind the places that are skipped is the whole selection.
use Rattle.records_select.proofs.Picking.{select_count, select_size, select_picks}
use Rattle.records_select.proofs.select.Goals as goal

pub returns-clause-count_value : goal.returns-clause-count_value
returns-clause-count_value c = let f = c.from_first-p.ensures in
    let e = c.all_lacking.ensures in (select_count _ _ _ _ _ _ _ _ f _ e.count_value.0, select_size _ _ _ _ _ _ _ _ f _ e.count_value.1)

pub returns-clause-picks_after : goal.returns-clause-picks_after
returns-clause-picks_after c = let f = c.from_first-p.ensures in
    let e = c.all_lacking.ensures in select_picks _ _ _ _ _ _ _ _ f _ _ e.picks_after
