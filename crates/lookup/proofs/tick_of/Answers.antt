-- `lookup::tick_of` meets its contract: the ids are read as words, and what lookup finds for them is the known tick.
use Rattle.std.proofs.Common.{refl}
use Rattle.lookup.proofs.Calls.{tick_known}
use Rattle.lookup.proofs.tick_of.Goals as goal
use Rattle.lookup.proofs.tick_of.Goals.{then-item-ne24-via-then-item-ne24, then-item-ne24-via-else-item-ne24+then-replica-ne16}

pub returns-then-item-ne24 : goal.returns-then-item-ne24
returns-then-item-ne24 c =
    elim c.then-item-ne24.branch [
      | then-item-ne24-via-then-item-ne24 w ↦ (refl, λ p. w.if-item-ne24.true p.0)
      | then-item-ne24-via-else-item-ne24+then-replica-ne16 w ↦ (refl, λ p. w.if-replica-ne16.true p.1)
    ]

pub returns : goal.returns
returns c =
    let h = c.if-item-ne24.false in
    let k = c.if-replica-ne16.false in (
      (h, k),
      tick_known _ _ _ c.requires _ _ h k _ _ _ c.from_bytes.ensures.value c.from_bytes-2.ensures.value c.known_tick.ensures,
    )
