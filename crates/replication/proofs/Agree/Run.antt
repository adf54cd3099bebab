-- Bytes and machine stay together along every list of calls: they begin together, each call that writes keeps them
-- together, and a refused one changes neither.
use Prim.Native.Nat.{ℕ, zero, suc, ◌<◌, ◌^◌}
use mathlib.Core.Path.{◌≡◌, refl, sym, ap, ◌∙◌, subst}
use mathlib.Core.Bool.{Bool, true, false}
use mathlib.Core.List.{List, [], ◌∷◌, ◌++◌}
use mathlib.Core.Option.{Option, none, some}
use native.Mathlib.Omega.{arith}
use Rattle.layout.specs.Knowledge.{Rules, All, Limits, any_id}
use Rattle.layout.specs.Permitted.{Permitted}
use Rattle.ticks.specs.Calls.{id_of}
use Rattle.ticks.proofs.Operations.{known_empty, normal_empty}
use Rattle.ticks.proofs.LawfulResults.{below_top, lawful_empty}
use Rattle.replication.specs.Formats.{new_store, encode_store}
use Rattle.replication.specs.OpenBatch.{open_batch}
use Rattle.replication.specs.Calls.{live_content, tombstone, edit_reply, delete_reply, make_reply, apply_reply, RightBrought}
use Rattle.replication.specs.Lists.{World, start, outcome, batch_number, apply_to, writes, keep, run, trace}
use Rattle.replication.specs.Machine.{live, dead, Remembered, State, initial, changes, remembered_at, applies, acts, history}
use Rattle.replication.proofs.Machine.Best.{greatest-nil}
use Rattle.replication.proofs.Tables.Rising.{find-nil, rising-nil}
use Rattle.replication.proofs.Machine.Steps.{numbered_mem}
use Rattle.replication.proofs.Machine.Laws.{good_initial, good_changes}
use Rattle.replication.proofs.Machine.History.{good_acts, good_apply}
use Rattle.replication.proofs.Agree.Lines.{edit_met, delete_met, make_met, apply_met}
use Rattle.replication.proofs.Agree.Invariant.{StoreFollows, BatchFollows, batch_opens, stored, Paired, Follows, opens}
use Rattle.replication.proofs.Agree.Edit.{change_follows}
use Rattle.replication.proofs.Agree.Make.{make_follows}
use Rattle.replication.proofs.Agree.Arguments.{id_value, id_below}
use Rattle.replication.proofs.Contents.Edit.{changed_lawful, live_lawful, tombstone_lawful}
use Rattle.replication.proofs.Agree.Apply.{apply_follows}
use Rattle.codec.specs.Parsed.{accepted}
use Rattle.replication.specs.Call.{Brought, Fed, Given, apply, Call, edit, delete, make}
use Rattle.replication.specs.Record.{Rec, Content}
use Rattle.replication.specs.Valid.{LawfulStore}

-- ---- the start

pub new_lawful : (L : Limits) (p : ℕ) → Permitted L → p < 256 ^ 16 → LawfulStore L (new_store p)
unfolding new_store
new_lawful L p permitted small =
    record {
      own = small;
      lawful = lawful_empty (any_id L) permitted.some_range;
      normal = normal_empty;
      alike = λ i j a b. known_empty i p ∙ sym (known_empty j p);
      count = omega arith;
      rising = rising-nil 0;
      records = tt;
      versions = tt;
    }

module _ (L : Limits) (permitted : Permitted L) where
  new_follows : (p : ℕ) → p < 256 ^ 16 → StoreFollows L (encode_store (new_store p)) [] (λ i q. 0) p
  unfolding new_store
  new_follows p small =
      record {
        st = new_store p;
        bytes = refl;
        valid = new_lawful L p permitted small;
        own = refl;
        ticks = λ i q h. known_empty i q;
        records = λ i. find-nil i ∙ sym (greatest-nil (λ j q. 0) i);
      }

  pub start_follows : Follows L start initial
  unfolding start initial
  start_follows =
      record { good = good_initial; items = λ r l. absurd l; stores = new_follows; batches = tt }

-- ---- the batches, by number

pub record Numbered (L : Limits) (vs : List Rec) (n : ℕ) (s : List ℕ) (ms : List Remembered) : Type 0 where
  pub b : Remembered
  pub is : remembered_at n ms ≡ some b
  pub follows : BatchFollows L s vs b

pub paired_number : (L : Limits) (vs : List Rec) (n : ℕ) (s : List ℕ) (ss : List (List ℕ)) (ms : List Remembered) → Paired L vs ss ms → batch_number n ss ≡ some s → Numbered L vs n s ms
unfolding batch_number remembered_at
paired_number L vs zero s [] ms p e =
    let z : ◌≡◌ {A = ℕ} 0 1 = cc in
    absurd (omega arith)
paired_number L vs (suc n) s [] ms p e =
    let z : ◌≡◌ {A = ℕ} 0 1 = cc in
    absurd (omega arith)
paired_number L vs n s (x ∷ ss) [] p e = absurd p
paired_number L vs zero s (x ∷ ss) (m ∷ ms) p e =
    let q : x ≡ s = cc in
    record { b = m; is = refl; follows = subst (λ (y : List ℕ). BatchFollows L y vs m) q p.0 }
paired_number L vs (suc n) s (x ∷ ss) (m ∷ ms) p e =
    let r = paired_number L vs n s ss ms p.1 e in
    record { b = r.b; is = r.is; follows = r.follows }

-- ---- one call

-- what an edit brings, in the calls and in the machine
live_same : (b : Brought) → RightBrought b → live_content b ≡ live b
unfolding live_content live
live_same b r = ap (λ (x : ℕ). record { deleted = false; tag = x }) (id_value 16 b.tag r.tag)

-- was a call refused, and what the machine does with a call that it is fed
unfoldable pub is_none : Option (List ℕ) → Bool
is_none o = elim o [ none ↦ true | some bs ↦ false ]

unfoldable pub fed : State → Fed → State
fed m x = elim x.refused [ true ↦ m | false ↦ acts m x.call ]

module _ (R : Rules) (permitted : Permitted R.limits) (w : World) (m : State) (f : Follows R.limits w m) where
  step_edit : (who : ℕ) (item : List ℕ) (b : Brought) (room : ℕ) → Given (edit who item b room) → (o : Option (List ℕ))
      → outcome (edit_reply R.limits (w.stores who) item b) room ≡ o
      → Follows R.limits (keep w (edit who item b room) o) (fed m (record { call = edit who item b room; refused = is_none o }))
  unfolding keep stored is_none fed acts
  step_edit who item b room h none e = f
  step_edit who item b room h (some bs) e =
      let s = f.stores who h.0 in
      let d = edit_met R.limits (w.stores who) item b s.st room bs (opens R.limits permitted w m f who h.0) e in
      let below = id_below 24 item h.1.0 in
      subst (λ (i : ℕ). Follows R.limits (stored who bs w) (changes (live b) who i m)) (id_value 24 item d.item24)
      (subst (λ (c : Content). Follows R.limits (stored who bs w) (changes c who (id_of 24 item) m)) (live_same b d.brought)
      (change_follows R.limits w m f (live_content b) who (id_of 24 item) h.0 bs
      (good_changes (live_content b) who (id_of 24 item) m h.0 f.good) (below_top (id_of 24 item) below)
      (changed_lawful R.limits s.st s.valid (live_content b) (id_of 24 item) below (live_lawful b h.1.1) d.below d.room) d.bytes))

  step_delete : (who : ℕ) (item : List ℕ) (room : ℕ) → Given (delete who item room) → (o : Option (List ℕ))
      → outcome (delete_reply R.limits (w.stores who) item) room ≡ o
      → Follows R.limits (keep w (delete who item room) o) (fed m (record { call = delete who item room; refused = is_none o }))
  unfolding keep stored is_none fed acts tombstone dead
  step_delete who item room h none e = f
  step_delete who item room h (some bs) e =
      let s = f.stores who h.0 in
      let d = delete_met R.limits (w.stores who) item s.st room bs (opens R.limits permitted w m f who h.0) e in
      let below = id_below 24 item h.1 in
      subst (λ (i : ℕ). Follows R.limits (stored who bs w) (changes dead who i m)) (id_value 24 item d.item24)
      (change_follows R.limits w m f tombstone who (id_of 24 item) h.0 bs
      (good_changes tombstone who (id_of 24 item) m h.0 f.good) (below_top (id_of 24 item) below)
      (changed_lawful R.limits s.st s.valid tombstone (id_of 24 item) below tombstone_lawful d.below d.room) d.bytes)

  step_make : (who : ℕ) (knowledge first last : List ℕ) (room : ℕ) → Given (make who knowledge first last room) → (o : Option (List ℕ))
      → outcome (make_reply R (w.stores who) knowledge first last) room ≡ o
      → Follows R.limits (keep w (make who knowledge first last room) o)
      (fed m (record { call = make who knowledge first last room; refused = is_none o }))
  unfolding keep is_none fed
  step_make who knowledge first last room h none e = f
  step_make who knowledge first last room h (some bs) e =
      make_follows R permitted w m f who knowledge first last room h.0 h.1.0 h.1.1.0 h.1.1.1 bs
      (good_acts m (make who knowledge first last room) h f.good)
      (make_met R (w.stores who) knowledge first last (f.stores who h.0).st room bs (opens R.limits permitted w m f who h.0) e)

  -- a batch of the list opens
  pub batch_open_at : (n : ℕ) (s : List ℕ) (x : Numbered R.limits m.versions n s m.batches) → open_batch R.limits s ≡ accepted x.follows.b
  batch_open_at n s x = batch_opens R.limits s m.versions x.b x.follows permitted

  -- an apply that wrote: the machine's apply
  pub apply_step : (who n room : ℕ) (s bs : List ℕ) (small : who < 256 ^ 16) (e : batch_number n w.batches ≡ some s)
      (x : Numbered R.limits m.versions n s m.batches) → outcome (apply_reply R.limits (w.stores who) s) room ≡ some bs
      → Follows R.limits (stored who bs w) (applies who (some x.b) m)
  apply_step who n room s bs small e x o =
      apply_follows R.limits w m f who small s bs x.b x.follows
      (good_apply who x.b m (numbered_mem n m.batches x.b x.is) f.good)
      (apply_met R.limits (w.stores who) s (f.stores who small).st x.follows.b room bs (opens R.limits permitted w m f who small) (batch_open_at n s x) o)

  step_apply : (who which room : ℕ) → who < 256 ^ 16 → (t : Option (List ℕ)) → batch_number which w.batches ≡ t → (o : Option (List ℕ))
      → apply_to R.limits (w.stores who) t room ≡ o → Follows R.limits (keep w (apply who which room) o)
      (fed m (record { call = apply who which room; refused = is_none o }))
  unfolding keep stored is_none fed acts apply_to
  step_apply who which room h t d none e = f
  step_apply who which room h none d (some bs) e =
      let z : ◌≡◌ {A = ℕ} 0 1 = cc in
      absurd (omega arith)
  step_apply who which room h (some s) d (some bs) e =
      let x = paired_number R.limits m.versions which s w.batches m.batches f.batches d in
      subst (λ (q : Option Remembered). Follows R.limits (stored who bs w) (applies who q m)) (sym x.is)
      (apply_step who which room s bs h d x e)

  pub step_follows : (c : Call) → Given c → Follows R.limits (keep w c (writes R w c)) (fed m (record { call = c; refused = is_none (writes R w c) }))
  unfolding writes
  step_follows (edit who item b room) h = step_edit who item b room h (outcome (edit_reply R.limits (w.stores who) item b) room) refl
  step_follows (delete who item room) h = step_delete who item room h (outcome (delete_reply R.limits (w.stores who) item) room) refl
  step_follows (make who knowledge first last room) h =
      step_make who knowledge first last room h (outcome (make_reply R (w.stores who) knowledge first last) room) refl
  step_follows (apply who which room) h =
      step_apply who which room h (batch_number which w.batches) refl (apply_to R.limits (w.stores who) (batch_number which w.batches) room) refl

-- ---- lists of calls

module _ (R : Rules) (permitted : Permitted R.limits) where
  pub run_follows : (w : World) (m : State) (calls : List Call) → Follows R.limits w m → All Given calls → Follows R.limits (run R w calls) (history m (trace R w calls))
  unfolding run trace fed is_none history
  run_follows w m [] f h = f
  run_follows w m (c ∷ cs) f h =
      run_follows (keep w c (writes R w c)) (fed m (record { call = c; refused = is_none (writes R w c) })) cs (step_follows R permitted w m f c h.0) h.1

-- one list after another
pub run-append : (R : Rules) (w : World) (a b : List Call) → run R w (a ++ b) ≡ run R (run R w a) b
unfolding run
run-append R w [] b = refl
run-append R w (c ∷ cs) b = run-append R (keep w c (writes R w c)) cs b

pub history-append : (R : Rules) (w : World) (m : State) (a b : List Call) → history m (trace R w (a ++ b)) ≡ history (history m (trace R w a)) (trace R (run R w a) b)
unfolding run trace fed is_none history
history-append R w m [] b = refl
history-append R w m (c ∷ cs) b =
    history-append R (keep w c (writes R w c)) (fed m (record { call = c; refused = is_none (writes R w c) })) cs b
