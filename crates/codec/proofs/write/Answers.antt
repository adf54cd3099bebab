-- `codec::write` meets its contract: each byte stands in its place, and then all of them do.
use Rattle.std.proofs.Common.{ℕ, ap, ◌∙◌, arith}
use Rattle.codec.specs.Part.{placed, bytes}
use Rattle.codec.proofs.Writing.{no_room, copying_none, copying_more, copying_all}
use Rattle.codec.proofs.write.Goals as goal

pub returns-then-beyond : goal.returns-then-beyond
returns-then-beyond g c =
    no_room _ _ _ _ (c.beyond.ensures.0 c.if-beyond.true)
    ∙ ap (λ (n : ℕ). placed c.args.out.now c.args.at (bytes n c.args.x)) c.min-n.ensures

pub loop-i-init : goal.loop-i-init
loop-i-init g c = (c.beyond.ensures.1 c.if-beyond.false, copying_none _ _ _)

pub loop-i-preserved : goal.loop-i-preserved
loop-i-preserved g c =
    let v = c.loop-i.invariant in
    (v.0, copying_more _ _ _ _ v.0 _ _ (omega arith) v.1)

pub returns : goal.returns
returns g c =
    let v = c.loop-i.invariant in
    copying_all _ _ _ _ v.0 _ c.loop-i.i (omega arith) v.1
    ∙ ap (λ (n : ℕ). placed c.args.out.now c.args.at (bytes n c.args.x)) c.min-n.ensures
