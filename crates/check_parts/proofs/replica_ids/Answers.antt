-- `check_parts::replica_ids` meets its contract.
use Rattle.std.proofs.Common.{ℕ, ap, sym, ◌∙◌, arith}
use Rattle.layout.specs.Got.{got_of}
use Rattle.layout.specs.Knowledge.{basic}
use Rattle.layout.specs.Read.{replica_id}
use Rattle.check_fields.proofs.Repeat.{repeat_fault, repeat_on, repeat_end}
use Rattle.check_parts.proofs.Ids.{id_on}
use Rattle.check_parts.proofs.replica_ids.Goals as goal

pub returns-in_err-x : goal.returns-in_err-x
returns-in_err-x c =
    let a = c.args in
    let e = ap (λ (j : ℕ). replica_id basic.judge a.s.now a.start j c.loop-k.x.next) (sym c.loop-k.invariant.count) in
    repeat_fault _ _ _ _ _ _ c.loop-k.invariant.rest (omega arith) _ _ c.from_residual.ensures.1 (c.in_err-x.ensures ∙ e)

pub loop-k-preserved : goal.loop-k-preserved
loop-k-preserved c =
    let a = c.args in
    let e = ap (λ (j : ℕ). replica_id basic.judge a.s.now a.start j c.loop-k.x.next) (sym c.loop-k.invariant.count) in
    let w = id_on _ _ _ _ c.in_ok-x.x c.in_ok-x.ensures in
    record {
      rest = repeat_on _ _ _ _ _ _ c.loop-k.invariant.rest (omega arith) _ (c.in_ok-x.ensures ∙ e);
      count = omega arith;
      place = omega arith;
      inside = omega arith;
    }

pub returns : goal.returns
unfolding got_of
returns c = repeat_end _ _ _ _ _ _ c.loop-k.invariant.rest (omega arith)
