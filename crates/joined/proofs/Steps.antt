-- A C function makes the call of a list: what its contract says of number, length and buffer is what `writes` of lists says of the call.
-- The number is 0 exactly where the call wrote, because a refusal's number is at least 1 (demand 1), so a program that tests it for 0 knows
-- which it is, and finds the bytes at the front of the buffer.
use Prim.Native.Nat.{ℕ, ◌≤◌}
use mathlib.Core.Path.{◌≡◌, refl, sym, ap, ◌∙◌, subst}
use mathlib.Core.Logic.{◌↔◌}
use mathlib.Core.List.{List, [], ◌∷◌}
use mathlib.Core.Option.{Option, none, some}
use native.Mathlib.Omega.{arith}
use lib.ListN.{length, take, drop}
use lib.Seq.{take-append_seam, drop-append_seam}
use Rattle.codec.specs.Reply.{Reply, gives, answer, after, number_of, written_of}
use Rattle.codec.proofs.Replies.{number_fits}
use Rattle.layout.specs.Knowledge.{basic, base}
use Rattle.ticks.specs.Demand1.{WritesOrRefuses, it_refuses, it_writes}
use Rattle.replication.specs.Call.{brings, edit, delete, make, apply}
use Rattle.replication.specs.Calls.{new_reply, edit_reply, delete_reply, make_reply, apply_reply}
use Rattle.replication.specs.Lists.{World, outcome, batch_number, apply_to, writes}
use Rattle.replication.proofs.Demand1.{demand1_basic}
use Rattle.replication.proofs.Runner.{outcome_exact}
use Rattle.joined.specs.Step.{Called, Step, wrote, refused, NewStep, EditStep, DeleteStep, MakeStep, ApplyStep}

-- ---- what a step says

-- the number is 0 exactly where the call wrote, and then its bytes are at the front of the buffer
pub zero_exactly : (number old written : ℕ) (out left : List ℕ) (o : Option (List ℕ)) → Step number old written out left o
    → (number ≡ 0) ↔ (o ≡ some (take written left))
zero_exactly number old written out left _ (wrote bs n a l) = (
  (λ e. ap some (sym (ap (λ (k : ℕ). take k left) a ∙ (ap (take (length bs)) l ∙ take-append_seam bs (drop (length bs) out))))),
  λ e. n,
)
zero_exactly number old written out left _ (refused n a l) = (
  (λ e. absurd (omega (arith, n, e))),
  λ e. let z : ◌≡◌ {A = ℕ} 0 1 = cc in absurd (omega arith),
)

-- the rest of the buffer is as it was
pub zero_rest : (number old written : ℕ) (out left : List ℕ) (o : Option (List ℕ)) → Step number old written out left o → number ≡ 0
    → drop written left ≡ drop written out
zero_rest number old written out left _ (wrote bs n a l) e =
    ap (λ (k : ℕ). drop k left) a ∙ (ap (drop (length bs)) l ∙ (drop-append_seam bs (drop (length bs) out) ∙ ap (λ (k : ℕ). drop k out) (sym a)))
zero_rest number old written out left _ (refused n a l) e = absurd (omega (arith, n, e))

pub other_none : (number old written : ℕ) (out left : List ℕ) (o : Option (List ℕ)) → Step number old written out left o
    → (number ≡ 0 → ⊥) → o ≡ none
other_none number old written out left _ (wrote bs n a l) h = absurd (h n)
other_none number old written out left _ (refused n a l) h = refl

-- else nothing changed, neither the length nor the buffer
pub other_same : (number old written : ℕ) (out left : List ℕ) (o : Option (List ℕ)) → Step number old written out left o
    → (number ≡ 0 → ⊥) → (written ≡ old) × (left ≡ out)
other_same number old written out left _ (wrote bs n a l) h = absurd (h n)
other_same number old written out left _ (refused n a l) h = (a, l)

-- ---- a step from the three equations of a contract and the call's line of demand 1

pub called_of : (reply : Reply) (number old written : ℕ) (out left : List ℕ) → number ≡ number_of (answer reply (length out))
    → written ≡ written_of (answer reply (length out)) old → left ≡ after reply out → Called reply number old written out left
called_of reply number old written out left x y z = record { returned = x; told = y; buffer = z }

none_there : (o : Option (List ℕ)) → ((bs : List ℕ) → o ≡ some bs → ⊥) → o ≡ none
none_there none h = refl
none_there (some bs) h = absurd (h bs refl)

module _ (reply : Reply) (number old written : ℕ) (out left : List ℕ) (c : Called reply number old written out left) where
  pub step_of : WritesOrRefuses reply out old → Step number old written out left (outcome reply (length out))
  step_of (it_writes bs g l x y z) =
      subst (λ (o : Option (List ℕ)). Step number old written out left o) (sym ((outcome_exact reply (length out) bs).1 (g, l)))
      (wrote bs (c.returned ∙ x) (c.told ∙ y) (c.buffer ∙ z))
  step_of (it_refuses x y z) =
      subst (λ (o : Option (List ℕ)). Step number old written out left o)
      (sym (none_there (outcome reply (length out)) (λ bs e. absurd (given bs ((outcome_exact reply (length out) bs).0 e)))))
      (refused (omega (arith, x, c.returned)) (c.told ∙ y) (c.buffer ∙ z))
    where
      given : (bs : List ℕ) → (reply ≡ gives bs) × (length bs ≤ length out) → ⊥
      given bs h =
          let e : number_of (answer reply (length out)) ≡ 0 =
          ap (λ (r : Reply). number_of (answer r (length out))) h.0 ∙ (number_fits bs (length out) old h.1).0 in
          omega (arith, x, e)

-- ---- the calls

batch_first : (b : List ℕ) → batch_number 0 (b ∷ []) ≡ some b
unfolding batch_number
batch_first b = refl

module _ (number old written : ℕ) (out left : List ℕ) where
  pub new_called : (own : List ℕ) → Called (new_reply own) number old written out left → NewStep own number old written out left
  new_called own c = record {
    equations = c;
    lists = step_of (new_reply own) number old written out left c (demand1_basic.new own out old);
  }

  edit_there : (s item tag : List ℕ) → Step number old written out left (outcome (edit_reply base s item (brings tag)) (length out))
      → (w : World) (who : ℕ) → w.stores who ≡ s → Step number old written out left (writes basic w (edit who item (brings tag) (length out)))
  unfolding writes
  edit_there s item tag h w who e =
      subst (λ (t : List ℕ). Step number old written out left (outcome (edit_reply base t item (brings tag)) (length out))) (sym e) h

  pub edit_called : (s item tag : List ℕ) → Called (edit_reply base s item (brings tag)) number old written out left
      → EditStep s item tag number old written out left
  edit_called s item tag c = record {
    equations = c;
    lists =
        edit_there s item tag
        (step_of (edit_reply base s item (brings tag)) number old written out left c (demand1_basic.edit s item (brings tag) out old));
  }

  delete_there : (s item : List ℕ) → Step number old written out left (outcome (delete_reply base s item) (length out))
      → (w : World) (who : ℕ) → w.stores who ≡ s → Step number old written out left (writes basic w (delete who item (length out)))
  unfolding writes
  delete_there s item h w who e =
      subst (λ (t : List ℕ). Step number old written out left (outcome (delete_reply base t item) (length out))) (sym e) h

  pub delete_called : (s item : List ℕ) → Called (delete_reply base s item) number old written out left
      → DeleteStep s item number old written out left
  delete_called s item c = record {
    equations = c;
    lists =
        delete_there s item (step_of (delete_reply base s item) number old written out left c (demand1_basic.delete s item out old));
  }

  make_there : (s knowledge first last : List ℕ)
      → Step number old written out left (outcome (make_reply basic s knowledge first last) (length out))
      → (w : World) (who : ℕ) → w.stores who ≡ s
      → Step number old written out left (writes basic w (make who knowledge first last (length out)))
  unfolding writes
  make_there s knowledge first last h w who e =
      subst (λ (t : List ℕ). Step number old written out left (outcome (make_reply basic t knowledge first last) (length out))) (sym e) h

  pub make_called : (s knowledge first last : List ℕ) → Called (make_reply basic s knowledge first last) number old written out left
      → MakeStep s knowledge first last number old written out left
  make_called s knowledge first last c = record {
    equations = c;
    lists =
        make_there s knowledge first last
        (step_of (make_reply basic s knowledge first last) number old written out left c
        (demand1_basic.make s knowledge first last out old));
  }

  apply_outcome : (w : World) (who which room : ℕ) (s batch : List ℕ) → w.stores who ≡ s → batch_number which w.batches ≡ some batch
      → writes basic w (apply who which room) ≡ outcome (apply_reply base s batch) room
  unfolding writes apply_to
  apply_outcome w who which room s batch e f =
      ap (λ (o : Option (List ℕ)). apply_to base (w.stores who) o room) f
      ∙ ap (λ (t : List ℕ). outcome (apply_reply base t batch) room) e

  pub apply_called : (s batch : List ℕ) → Called (apply_reply base s batch) number old written out left
      → ApplyStep s batch number old written out left
  apply_called s batch c = record {
    equations = c;
    lists = λ w who which e f.
        subst (λ (o : Option (List ℕ)). Step number old written out left o) (sym (apply_outcome w who which (length out) s batch e f))
        (step_of (apply_reply base s batch) number old written out left c (demand1_basic.apply s batch out old));
  }

  -- from a step back: an apply with the number 0 wrote what its reply gives
  pub apply_wrote : (s batch : List ℕ) → ApplyStep s batch number old written out left → number ≡ 0
      → outcome (apply_reply base s batch) (length out) ≡ some (take written left)
  apply_wrote s batch a fine =
      let w : World = record { stores = λ p. s; batches = batch ∷ [] } in
      let f : batch_number 0 w.batches ≡ some batch = batch_first batch in
      sym (apply_outcome w 0 0 (length out) s batch refl f)
      ∙ (zero_exactly number old written out left (writes basic w (apply 0 0 (length out))) (a.lists w 0 0 refl f)).0 fine
