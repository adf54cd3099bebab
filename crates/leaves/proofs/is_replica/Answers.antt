-- `leaves::is_replica` meets its contract: ids are the same where both of their words are.
use Rattle.std.proofs.Common.{◌≡◌, ◌∙◌, arith}
use Rattle.codec.specs.Number.{Bytes, be_at}
use Rattle.codec.proofs.Ids.{replica_eq}
use Rattle.codec.proofs.Total.{read_there}
use Rattle.leaves.proofs.Compare.{id_differs, id_rest, same_missing, same_there}
use Rattle.leaves.proofs.Part.{part_is}
use Rattle.leaves.proofs.is_replica.Goals as goal

pub returns-then-w-lt16 : goal.returns-then-w-lt16
returns-then-w-lt16 c =
    same_missing _ _ c.if-w-lt16.true _
    (c.eq.ensures ∙ replica_eq (record { high = 0; low = 0 }) c.args.p (omega arith) (omega arith))

pub returns-then-first-p : goal.returns-then-first-p
returns-then-first-p c =
    let b : Bytes c.args.w.now = record { below = λ i. omega (arith, c.type_inv.w i) } in
    same_there _ _ c.if-w-lt16.false _
    (id_differs _ 0 _ _ _ (c.first.ensures.0 ∙ read_there _ 8 0 (omega arith)) b (omega arith) c.if-first-p.true)

pub returns : goal.returns
returns c =
    same_there _ _ c.if-w-lt16.false _
    (id_rest _ 0 _ _ _ (c.first.ensures.0 ∙ read_there _ 8 0 (omega arith)) _ (part_is _ 8 8 _ c.first-2.ensures.0 (omega arith)) c.if-first-p.false)
