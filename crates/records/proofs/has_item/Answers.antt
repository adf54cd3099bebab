-- `records::has_item` meets its contract: the words read are those of the item.
use Rattle.std.proofs.Common.{◌∙◌, arith}
use Rattle.codec.specs.Ids.{InWords}
use Rattle.codec.proofs.Ids.{item_eq}
use Rattle.records.proofs.Fields.{item_part_there}
use Rattle.records.proofs.Finding.{same_item}
use Rattle.records.proofs.has_item.Goals as goal

pub returns : goal.returns
returns c =
    let i : InWords c.args.item = record { high = omega arith; middle = omega arith; low = omega arith } in
    same_item _ _ _ _ (item_part_there _ _ c.requires.item _ c.from_bytes.ensures.value) _
    (c.eq.ensures ∙ item_eq _ _ c.from_bytes.ensures.in_words i)
