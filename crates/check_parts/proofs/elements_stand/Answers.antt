-- `check_parts::elements_stand` meets its contract.
use Rattle.std.proofs.Common.{arith, refl, length-set}
use borrow.Author.Tests.{leb-false}
use Rattle.leaves.proofs.Part.{part_is}
use Rattle.check_parts.proofs.Marked.{marked_none, marked_more, marked_all, neither, not_true}
use Rattle.check_parts.proofs.elements_stand.Goals as goal

pub loop-k-init : goal.loop-k-init
loop-k-init c = record { places = refl; marked = λ h i. marked_none _ _ _ _ _ }

pub loop-k-preserved : goal.loop-k-preserved
loop-k-preserved c =
    let l = c.loop-k in
    let a = c.args in
    record {
      places = simp length-set (omega arith);
      marked = λ h i.
          let m = neither _ _ h in
          let t = neither _ _ i in
          marked_more a.s.now a.r a.start a.n l.k _ c.first-key.result l.seen (l.invariant.marked m.0 t.0) (omega arith)
          refl (part_is a.s.now _ 4 _ c.first-key.ensures.0 (omega arith)) (omega arith) (omega arith) m.1 (leb-false _ _ t.1) (omega arith) (record { below = λ j. omega (arith, c.type_inv.s j) });
    }

pub returns-then-not-twice : goal.returns-then-not-twice
returns-then-not-twice c = λ e.
    let l = c.loop-k in
    marked_all _ _ _ _ _ _ (l.invariant.marked c.if-not-twice.true (not_true _ e)) (omega arith) (omega arith)
