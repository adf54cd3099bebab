-- `store_open::each_by` meets its contract. The loop's invariant: the answer is the one for the records that are left, and the cursor has come
-- to the last record's item.
use native.Mathlib.Omega.{arith}
use Prim.Native.Nat.{◌-◌, ◌<◌}
use mathlib.Core.Path.{sym, ◌∙◌}
use borrow.Author.Tests.{not-true, not-false}
use Rattle.records_versions.proofs.Passing.{follows_whole, passes_start, passes_end, passes_stop, passes_on}
use Rattle.store_open.proofs.Keys.{ids_once}
use Rattle.store_open.proofs.Places.{cursor_at}
use Rattle.store_open.proofs.Asked.{follows_asked}
use Rattle.store_open.proofs.each_by.Goals as goal

pub loop-i-init : goal.loop-i-init
loop-i-init c = passes_start _ _ _ _ _ _ _ _ (omega arith) c.requires.0 c.requires.1

pub move_on-c-requires : goal.move_on-c-requires
move_on-c-requires c = let follows = c.loop-i.invariant.follows in (
  follows_whole _ _ _ _ _ _ follows (omega (arith, c.loop-i-test.true)),
  cursor_at _ _ _ _ _ follows.stands,
  c.requires.2,
)

pub asked_by-requires : goal.asked_by-requires
asked_by-requires c = (
  follows_whole _ _ _ _ _ _ c.loop-i.invariant.follows (omega (arith, c.loop-i-test.true)),
  ids_once _ _ _ c.requires.1,
  c.requires.3,
)

pub returns-then-not-asked_by : goal.returns-then-not-asked_by
returns-then-not-asked_by c = let some : 0 < c.args.n - c.loop-i._i = (omega (arith, c.loop-i-test.true)) in
    let i = c.loop-i.invariant in
    passes_stop _ _ _ _ _ _ _ _ _ i some
    (sym (not-true _ c.if-not-asked_by.true-raw)
    ∙ follows_asked _ _ _ _ _ _ i.follows some _ c.move_on-c.ensures _ _ c.asked_by.ensures)

pub loop-i-preserved : goal.loop-i-preserved
loop-i-preserved c = let some : 0 < c.args.n - c.loop-i._i = (omega (arith, c.loop-i-test.true)) in
    let i = c.loop-i.invariant in
    passes_on _ _ _ _ _ _ _ _ _ i some _ c.move_on-c.ensures
    (sym (not-false _ c.if-not-asked_by.false-raw)
    ∙ follows_asked _ _ _ _ _ _ i.follows some _ c.move_on-c.ensures _ _ c.asked_by.ensures)
    _ c.behind-p.ensures _ (omega arith)

pub returns : goal.returns
returns c = passes_end _ _ _ _ _ _ _ _ _ c.loop-i.invariant (omega (arith, c.loop-i-test.false))
