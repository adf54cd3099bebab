-- `records::item_of` meets its contract: the words are read where all bytes of the item are there.
use Rattle.std.proofs.Common.{arith}
use Rattle.codec.specs.Ids.{InWords}
use Rattle.records.proofs.Fields.{item_part, item_missing}
use Rattle.records.proofs.item_of.Goals as goal

pub returns-then-beyond-clause-value : goal.returns-then-beyond-clause-value
returns-then-beyond-clause-value c = item_missing _ _ (omega (arith, c.beyond.ensures.0 c.if-beyond.true))

pub returns-then-beyond-clause-in_words : goal.returns-then-beyond-clause-in_words
returns-then-beyond-clause-in_words c = record { high = omega arith; middle = omega arith; low = omega arith }

pub overflow_add-at : goal.overflow_add-at
overflow_add-at c = omega (arith, c.beyond.ensures.1 c.if-beyond.false)

pub overflow_add-at-2 : goal.overflow_add-at-2
overflow_add-at-2 c = omega (arith, c.beyond.ensures.1 c.if-beyond.false)

pub overflow_add-at-3 : goal.overflow_add-at-3
overflow_add-at-3 c = omega (arith, c.beyond.ensures.1 c.if-beyond.false)

pub slice_bounds-from_bytes-end : goal.slice_bounds-from_bytes-end
slice_bounds-from_bytes-end c = omega (arith, c.beyond.ensures.1 c.if-beyond.false)

pub returns-clause-value : goal.returns-clause-value
returns-clause-value c =
    item_part _ _ (omega (arith, c.beyond.ensures.1 c.if-beyond.false)) _ c.from_bytes.ensures.value

pub returns-clause-in_words : goal.returns-clause-in_words
returns-clause-in_words c = c.from_bytes.ensures.in_words
