-- What the batches of a list were made for. Along every list, the batches made stand beside the knowledge bytes that their makes were
-- given: each batch is valid, those bytes are of a lawful knowledge, and needed knows what that knowledge knows. A make that writes
-- adds one to both, and every other call adds to neither.
use Prim.Native.Nat.{ℕ, zero, suc, ◌≤◌}
use mathlib.Core.Path.{◌≡◌, refl, sym, subst}
use mathlib.Core.List.{List, [], ◌∷◌, ◌++◌, append_assoc, append-nil}
use mathlib.Core.Option.{Option, none, some}
use native.Mathlib.Omega.{arith}
use Rattle.layout.specs.Knowledge.{Rules, Knowledge, All, Lawful, encode}
use Rattle.layout.specs.Permitted.{Permitted}
use Rattle.layout.proofs.Exact.{exact}
use Rattle.ticks.specs.Meaning.{highest, known}
use Rattle.ticks.specs.Calls.{id_of}
use Rattle.ticks.proofs.LawfulResults.{below_top}
use Rattle.replication.specs.BatchFormat.{Batch}
use Rattle.replication.specs.Call.{Call, edit, delete, make, apply, Given}
use Rattle.replication.specs.Calls.{make_reply}
use Rattle.replication.specs.Lists.{World, outcome, batch_number, writes, keep, run}
use Rattle.replication.specs.Batches.{asks, asked, IsBatch}
use Rattle.replication.specs.Machine.{State}
use Rattle.replication.proofs.Agree.Arguments.{id_below}
use Rattle.replication.proofs.Agree.Lines.{make_met}
use Rattle.replication.proofs.Agree.Invariant.{Follows, opens}
use Rattle.replication.proofs.Agree.Run.{fed, is_none, step_follows}
use Rattle.replication.proofs.Contents.Make.{made_makes}

-- a batch's bytes and the knowledge bytes that it was made for
pub record MadeFor (R : Rules) (s asked : List ℕ) : Type 0 where
  pub batch : Batch
  pub is : IsBatch R.limits s batch
  pub given : Knowledge
  pub bytes : asked ≡ encode given
  pub lawful : Lawful R given
  pub needed : (i q : ℕ) → i ≤ highest → known batch.needed i q ≡ known given i q

-- batches and the knowledge bytes that they were made for, one by one
abbrev pub AllMadeFor : Rules → List (List ℕ) → List (List ℕ) → Type 0
AllMadeFor R [] [] = Unit {0}
AllMadeFor R [] (k ∷ ks) = ⊥
AllMadeFor R (s ∷ ss) [] = ⊥
AllMadeFor R (s ∷ ss) (k ∷ ks) = MadeFor R s k × AllMadeFor R ss ks

made-add : (R : Rules) (s k : List ℕ) (ss ks : List (List ℕ)) → MadeFor R s k → AllMadeFor R ss ks
    → AllMadeFor R (ss ++ (s ∷ [])) (ks ++ (k ∷ []))
made-add R s k [] [] f p = (f, tt)
made-add R s k [] (y ∷ ks) f p = absurd p
made-add R s k (x ∷ ss) [] f p = absurd p
made-add R s k (x ∷ ss) (y ∷ ks) f p = (p.0, made-add R s k ss ks f p.1)

-- by number
pub record MadeAt (R : Rules) (n : ℕ) (s : List ℕ) (ks : List (List ℕ)) : Type 0 where
  pub asked : List ℕ
  pub at : batch_number n ks ≡ some asked
  pub for : MadeFor R s asked

pub made_number : (R : Rules) (n : ℕ) (s : List ℕ) (ss ks : List (List ℕ)) → AllMadeFor R ss ks → batch_number n ss ≡ some s
    → MadeAt R n s ks
unfolding batch_number
made_number R zero s [] ks p e = let z : ◌≡◌ {A = ℕ} 0 1 = cc in absurd (omega arith)
made_number R (suc n) s [] ks p e = let z : ◌≡◌ {A = ℕ} 0 1 = cc in absurd (omega arith)
made_number R n s (x ∷ ss) [] p e = absurd p
made_number R zero s (x ∷ ss) (k ∷ ks) p e =
    let q : x ≡ s = cc in
    record { asked = k; at = refl; for = subst (λ (y : List ℕ). MadeFor R y k) q p.0 }
made_number R (suc n) s (x ∷ ss) (k ∷ ks) p e =
    let r = made_number R n s ss ks p.1 e in
    record { asked = r.asked; at = r.at; for = r.for }

-- ---- one call

module _ (R : Rules) (permitted : Permitted R.limits) (w : World) (m : State) (f : Follows R.limits w m) where
  make_for : (who : ℕ) (knowledge first last : List ℕ) (room : ℕ) (bs : List ℕ) → Given (make who knowledge first last room)
      → outcome (make_reply R (w.stores who) knowledge first last) room ≡ some bs → MadeFor R bs knowledge
  make_for who knowledge first last room bs h e =
      let s = f.stores who h.0 in
      let d = make_met R (w.stores who) knowledge first last s.st room bs (opens R.limits permitted w m f who h.0) e in
      let x = (exact R permitted knowledge d.given h.1.0).0 d.reads in
      let b = made_makes R s.st d.given (id_of 24 first) (id_of 24 last) s.valid x.1 d.span
      (below_top (id_of 24 last) (id_below 24 last h.1.1.1)) bs d.needed d.learned d.records d.bytes in
      record {
        batch = b.batch;
        is = record { bytes = b.bytes; valid = b.valid };
        given = d.given;
        bytes = x.0;
        lawful = x.1;
        needed = b.needed;
      }

  module _ (ks : List (List ℕ)) (a : AllMadeFor R w.batches ks) where
    unasked : AllMadeFor R w.batches (ks ++ [])
    unasked = subst (AllMadeFor R w.batches) (sym (append-nil ks)) a

    step_made : (c : Call) → Given c → (o : Option (List ℕ)) → writes R w c ≡ o → AllMadeFor R (keep w c o).batches (ks ++ asks c o)
    unfolding keep asks writes
    step_made c h none e = unasked
    step_made (make who knowledge first last room) h (some bs) e =
        made-add R bs knowledge w.batches ks (make_for who knowledge first last room bs h e) a
    step_made (edit who item brought room) h (some bs) e = unasked
    step_made (delete who item room) h (some bs) e = unasked
    step_made (apply who which room) h (some bs) e = unasked

-- ---- lists of calls

module _ (R : Rules) (permitted : Permitted R.limits) where
  pub run_made : (w : World) (m : State) (calls : List Call) (ks : List (List ℕ)) → Follows R.limits w m
      → AllMadeFor R w.batches ks → All Given calls → AllMadeFor R (run R w calls).batches (ks ++ asked R w calls)
  unfolding run asked
  run_made w m [] ks f a h = unasked R permitted w m f ks a
  run_made w m (c ∷ cs) ks f a h =
      let v = keep w c (writes R w c) in
      subst (AllMadeFor R (run R v cs).batches) (append_assoc ks (asks c (writes R w c)) (asked R v cs))
      (run_made v (fed m (record { call = c; refused = is_none (writes R w c) })) cs (ks ++ asks c (writes R w c))
      (step_follows R permitted w m f c h.0) (step_made R permitted w m f ks a c h.0 (writes R w c) refl) h.1)
