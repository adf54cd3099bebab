-- `apply::write_merged` meets its contract: a copy where learned is covered, and else what the knowledge part merges.
use Rattle.results.proofs.Opened.{merge_opened}
use Rattle.apply.proofs.Merged.{both_open, merged_copied}
use Rattle.apply.proofs.write_merged.Goals as goal

pub covers_all-requires : goal.covers_all-requires
covers_all-requires c = both_open _ _ _ _ _ c.requires

pub returns-then-covers_all : goal.returns-then-covers_all
returns-then-covers_all c = merged_copied _ _ _ _ _ c.requires _ c.covers_all.ensures c.if-covers_all.true _ _ _ c.copy_whole.ensures

pub returns : goal.returns
returns c = merge_opened _ _ _ _ _ _ _ _ c.merge_opened.ensures c.requires.mine c.requires.theirs
