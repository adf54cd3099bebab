-- `records::in_order` meets its contract. The loop's invariant: the check of all records is the check of those that are left, above
-- the last item. Their places follow from their number, as all have one length.
use Prim.Native.Nat.{◌+◌, ◌-◌, ◌*◌, ◌<◌}
use mathlib.Core.Path.{◌≡◌}
use lib.ListN.{length}
use native.Mathlib.Omega.{arith}
use borrow.Author.Tests.{not-true, not-false}
use Rattle.records.proofs.Fields.{item_part_there}
use Rattle.records.proofs.Lengths.{left-length, left_whole, left-size}
use Rattle.records.proofs.Shape.{shape_all, shape_end, shape_stop, shape_low, shape_invalid, shape_on}
use Rattle.records.proofs.in_order.Goals as goal

pub loop-k-init : goal.loop-k-init
loop-k-init c = shape_all _ _ _ _ _ (omega arith) (omega arith)

pub returns-then-size-eq0 : goal.returns-then-size-eq0
returns-then-size-eq0 c =
    let m = left-length c.args.s.now (c.args.at + 89 * c.loop-k.k) (c.args.n - c.loop-k.k) (omega (arith, c.requires)) (omega (arith, c.loop-k-test.true))
    _ _ c.from.ensures c.record_length-size.ensures in
    shape_stop _ _ _ _ _ _ c.loop-k.invariant (omega (arith, c.loop-k-test.true)) _ m c.if-size-eq0.true

pub returns-then-not-rises : goal.returns-then-not-rises
returns-then-not-rises c =
    let m = left-length c.args.s.now (c.args.at + 89 * c.loop-k.k) (c.args.n - c.loop-k.k) (omega (arith, c.requires)) (omega (arith, c.loop-k-test.true))
    _ _ c.from.ensures c.record_length-size.ensures in
    shape_low _ _ _ _ _ _ c.loop-k.invariant (omega (arith, c.loop-k-test.true)) _ m c.if-size-eq0.false _ (item_part_there _ _ (omega (arith, c.requires, c.loop-k-test.true)) _ c.from_bytes-i.ensures.value) _ c.rises.ensures
    (not-true _ c.if-not-rises.true-raw)

pub valid-requires : goal.valid-requires
valid-requires c =
    left_whole c.args.s.now (c.args.at + 89 * c.loop-k.k) (c.args.n - c.loop-k.k) (omega (arith, c.requires)) (omega (arith, c.loop-k-test.true))
    _ _ c.from.ensures c.record_length-size.ensures c.if-size-eq0.false

pub returns-then-not-valid : goal.returns-then-not-valid
returns-then-not-valid c =
    let m = left-length c.args.s.now (c.args.at + 89 * c.loop-k.k) (c.args.n - c.loop-k.k) (omega (arith, c.requires)) (omega (arith, c.loop-k-test.true))
    _ _ c.from.ensures c.record_length-size.ensures in
    shape_invalid _ _ _ _ _ _ c.loop-k.invariant (omega (arith, c.loop-k-test.true)) _ m c.if-size-eq0.false _ (item_part_there _ _ (omega (arith, c.requires, c.loop-k-test.true)) _ c.from_bytes-i.ensures.value) _ c.rises.ensures
    (not-false _ c.if-not-rises.false-raw) _ c.valid.ensures (not-true _ c.if-not-valid.true-raw)

pub loop-k-preserved : goal.loop-k-preserved
loop-k-preserved c =
    let room : c.args.at + 89 * c.loop-k.k + 89 * (c.args.n - c.loop-k.k) ≡ length c.args.s.now = omega (arith, c.requires, c.loop-k-test.true) in
    let took : 0 < c.args.n - c.loop-k.k = omega (arith, c.loop-k-test.true) in
    let m = left-length c.args.s.now (c.args.at + 89 * c.loop-k.k) (c.args.n - c.loop-k.k) room took _ _ c.from.ensures c.record_length-size.ensures in
    let size = left-size c.args.s.now (c.args.at + 89 * c.loop-k.k) (c.args.n - c.loop-k.k) room took _ _ c.from.ensures c.record_length-size.ensures
    c.if-size-eq0.false in
    shape_on _ _ _ _ _ _ c.loop-k.invariant took _ m c.if-size-eq0.false _ (item_part_there _ _ (omega (arith, c.requires, c.loop-k-test.true)) _ c.from_bytes-i.ensures.value) _ c.rises.ensures
    (not-false _ c.if-not-rises.false-raw) _ c.valid.ensures (not-false _ c.if-not-valid.false-raw) _ _ (omega arith) (omega (arith, size))

pub returns : goal.returns
returns c = shape_end _ _ _ _ _ _ c.loop-k.invariant (omega (arith, c.loop-k-test.false)) (omega (arith, c.requires, c.loop-k-test.false))
