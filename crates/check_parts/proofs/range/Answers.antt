-- `check_parts::range` meets its contract: each return has the test that the definition makes there.
use Rattle.std.proofs.Common.{◌+◌, ◌∙◌, sym, arith}
use borrow.Author.Tests.{leb-true, leb-false}
use Rattle.codec.specs.Refusal.{number as refusal}
use Rattle.leaves.proofs.Part.{part_there}
use Rattle.check_parts.specs.Method.{ranged}
use Rattle.check_parts.proofs.Bound.{bound_cut, bound_low, index_cut, index_high, range_read}
use Rattle.check_parts.proofs.Ids.{item_here}
use Rattle.check_parts.proofs.range.Goals as goal

pub returns-then-left-lt24 : goal.returns-then-left-lt24
unfolding ranged refusal
returns-then-left-lt24 c = bound_cut _ _ _ _ (omega arith)

pub returns-then-not-is_above : goal.returns-then-not-is_above
unfolding ranged refusal
returns-then-not-is_above c =
    let b = item_here c.args.s.now c.args.at _ (omega arith) c.from_bytes-bound.ensures.value in
    let l = leb-false _ _ (sym c.is_above.ensures ∙ c.if-not-is_above.true) in
    bound_low _ _ _ _ (omega arith) (omega arith)

pub returns-then-left-lt28 : goal.returns-then-left-lt28
unfolding ranged refusal
returns-then-left-lt28 c =
    let b = item_here c.args.s.now c.args.at _ (omega arith) c.from_bytes-bound.ensures.value in
    let l = leb-true _ _ (sym c.is_above.ensures ∙ c.if-not-is_above.false) in
    index_cut _ _ _ _ (omega arith) (omega arith) (omega arith)

pub returns-then-v-first : goal.returns-then-v-first
unfolding ranged refusal
returns-then-v-first c =
    let b = item_here c.args.s.now c.args.at _ (omega arith) c.from_bytes-bound.ensures.value in
    let l = leb-true _ _ (sym c.is_above.ensures ∙ c.if-not-is_above.false) in
    let i = c.first.ensures.0 ∙ part_there c.args.s.now (c.args.at + 24) (c.args.at + 28) 4 (omega arith) (omega arith) in
    index_high _ _ _ _ (omega arith) (omega arith) (omega arith) (omega arith)

pub returns : goal.returns
unfolding ranged
returns c =
    let b = item_here c.args.s.now c.args.at _ (omega arith) c.from_bytes-bound.ensures.value in
    let l = leb-true _ _ (sym c.is_above.ensures ∙ c.if-not-is_above.false) in
    let i = c.first.ensures.0 ∙ part_there c.args.s.now (c.args.at + 24) (c.args.at + 28) 4 (omega arith) (omega arith) in
    range_read _ _ _ _ (omega arith) (omega arith) _ (omega arith) (omega arith) b
