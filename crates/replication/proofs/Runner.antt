-- What specs/Runner.antt says of a list of calls, call by call, holds of `ends`, `machine` and `trace`: each is its own step for one call
-- more, and `writes` gives bytes exactly where the call's reply gives them and they fit the buffer.
use Prim.Native.Nat.{ℕ, zero, suc, ◌≤◌, ◌<◌, ◌^◌}
use mathlib.Core.Path.{◌≡◌, refl, sym, ap, ◌∙◌, subst}
use mathlib.Core.Logic.{◌⊎◌, inl, inr, ◌↔◌}
use mathlib.Core.Bool.{Bool, true, false}
use mathlib.Core.List.{List, [], ◌∷◌, ◌++◌}
use mathlib.Core.Option.{Option, none, some}
use native.Mathlib.Omega.{arith}
use lib.Dec.{leb}
use lib.ListN.{length}
use borrow.Author.Tests.{leb-true, le-leb}
use Rattle.codec.specs.Number.{Bytes}
use Rattle.codec.specs.Reply.{Reply, gives, refuses}
use Rattle.layout.specs.Knowledge.{Rules}
use Rattle.replication.specs.Call.{Brought, Call, edit, delete, make, apply, Given, Fed}
use Rattle.replication.specs.Calls.{edit_reply, delete_reply, make_reply, apply_reply}
use Rattle.replication.specs.Lists.{World, start, outcome, batch_number, apply_to, writes, keep, run, trace}
use Rattle.replication.specs.Machine.{Remembered, State, initial, remembered_at, acts, history}
use Rattle.replication.specs.Promise.{ends, machine}
use Rattle.replication.specs.Runner.{Number, Writes, WritesNothing, Leaves, Told, one, Runner}
use Rattle.replication.proofs.Agree.Edit.{put_same, put_other}
use Rattle.replication.proofs.Agree.Run.{run-append, history-append}
use Rattle.replication.proofs.Demand3.{begin}

-- ---- numbers of batches

nothing_some : {A : Type 0} (x : A) → none ≡ some x → ⊥
nothing_some x e =
    let z : ◌≡◌ {A = ℕ} 0 1 = cc in
    omega arith

-- the first has number 0, and one before it makes a number one greater
number_first : {A : Type 0} (x : A) (xs : List A) → Number 0 (x ∷ xs) x
number_first x xs = record { before = []; behind = xs; is = refl; count = refl }

number_later : {A : Type 0} (n : ℕ) (y x : A) (xs : List A) → Number n xs x → Number (suc n) (y ∷ xs) x
number_later {A = A} n y x xs k =
    record { before = y ∷ k.before; behind = k.behind; is = ap (λ (l : List A). y ∷ l) k.is; count = ap suc k.count }

-- the batch after n others, and none past the end
pub batch_after_lem : (xs : List (List ℕ)) (b : List ℕ) (ys : List (List ℕ)) → batch_number (length xs) (xs ++ (b ∷ ys)) ≡ some b
unfolding batch_number
batch_after_lem [] b ys = refl
batch_after_lem (x ∷ xs) b ys = batch_after_lem xs b ys

batch_number_lem : (n : ℕ) (l : List (List ℕ)) (t : List ℕ) → batch_number n l ≡ some t → Number n l t
unfolding batch_number
batch_number_lem zero [] t e = absurd (nothing_some t e)
batch_number_lem (suc n) [] t e = absurd (nothing_some t e)
batch_number_lem zero (x ∷ xs) t e =
    let q : x ≡ t = cc in
    subst (λ (y : List ℕ). Number 0 (x ∷ xs) y) q (number_first x xs)
batch_number_lem (suc n) (x ∷ xs) t e = number_later n x t xs (batch_number_lem n xs t e)

pub batch_exact_number : (n : ℕ) (l : List (List ℕ)) (t : List ℕ) → (batch_number n l ≡ some t) ↔ Number n l t
batch_exact_number n l t = (
  batch_number_lem n l t,
  λ k. ap (λ (m : ℕ). batch_number m l) (sym k.count) ∙ (ap (batch_number (length k.before)) k.is ∙ batch_after_lem k.before t k.behind),
)

pub remembered_after : (xs : List Remembered) (b : Remembered) (ys : List Remembered) → remembered_at (length xs) (xs ++ (b ∷ ys)) ≡ some b
unfolding remembered_at
remembered_after [] b ys = refl
remembered_after (x ∷ xs) b ys = remembered_after xs b ys

remembered_number : (n : ℕ) (l : List Remembered) (b : Remembered) → remembered_at n l ≡ some b → Number n l b
unfolding remembered_at
remembered_number zero [] b e = absurd (nothing_some b e)
remembered_number (suc n) [] b e = absurd (nothing_some b e)
remembered_number zero (x ∷ xs) b e =
    let q : x ≡ b = cc in
    subst (λ (y : Remembered). Number 0 (x ∷ xs) y) q (number_first x xs)
remembered_number (suc n) (x ∷ xs) b e = number_later n x b xs (remembered_number n xs b e)

pub remembered_exact_number : (n : ℕ) (l : List Remembered) (b : Remembered) → (remembered_at n l ≡ some b) ↔ Number n l b
remembered_exact_number n l b = (
  remembered_number n l b,
  λ k. ap (λ (m : ℕ). remembered_at m l) (sym k.count) ∙ (ap (remembered_at (length k.before)) k.is ∙ remembered_after k.before b k.behind),
)

-- ---- what a call writes

outcome_fits : (cs : List ℕ) (room : ℕ) → length cs ≤ room → outcome (gives cs) room ≡ some cs
unfolding outcome
outcome_fits cs room h = rw (le-leb (length cs) room h, outcome)

outcome_short : (cs : List ℕ) (room : ℕ) → leb (length cs) room ≡ false → outcome (gives cs) room ≡ none
unfolding outcome
outcome_short cs room e = rw (e, outcome)

outcome_some : (r : Reply) (room : ℕ) (bs : List ℕ) → outcome r room ≡ some bs → (r ≡ gives bs) × (length bs ≤ room)
unfolding outcome
outcome_some (refuses n) room bs e = absurd (nothing_some bs e)
outcome_some (gives cs) room bs e = go (leb (length cs) room) refl
  where
    go : (t : Bool) → leb (length cs) room ≡ t → (gives cs ≡ gives bs) × (length bs ≤ room)
    go true h =
        let l : length cs ≤ room = leb-true (length cs) room h in
        let f : outcome (gives cs) room ≡ some cs = outcome_fits cs room l in
        let q : cs ≡ bs = cc in
        (ap gives q, subst (λ (x : List ℕ). length x ≤ room) q l)
    go false h = absurd (nothing_some bs (sym (outcome_short cs room h) ∙ e))

-- the bytes of a reply are written where there is room for them
pub outcome_exact : (r : Reply) (room : ℕ) (bs : List ℕ) → (outcome r room ≡ some bs) ↔ ((r ≡ gives bs) × (length bs ≤ room))
outcome_exact r room bs = (
  outcome_some r room bs,
  λ h. ap (λ (x : Reply). outcome x room) h.0 ∙ outcome_fits bs room h.1,
)

module _ (R : Rules) (w : World) where
  -- the four calls, each with its reply
  pub edit_writes : (who : ℕ) (item : List ℕ) (b : Brought) (room : ℕ) (bs : List ℕ)
      → (writes R w (edit who item b room) ≡ some bs) ↔ ((edit_reply R.limits (w.stores who) item b ≡ gives bs) × (length bs ≤ room))
  unfolding writes
  edit_writes who item b room bs = outcome_exact (edit_reply R.limits (w.stores who) item b) room bs

  pub delete_writes : (who : ℕ) (item : List ℕ) (room : ℕ) (bs : List ℕ)
      → (writes R w (delete who item room) ≡ some bs) ↔ ((delete_reply R.limits (w.stores who) item ≡ gives bs) × (length bs ≤ room))
  unfolding writes
  delete_writes who item room bs = outcome_exact (delete_reply R.limits (w.stores who) item) room bs

  pub make_writes : (who : ℕ) (knowledge first last : List ℕ) (room : ℕ) (bs : List ℕ)
      → (writes R w (make who knowledge first last room) ≡ some bs)
      ↔ ((make_reply R (w.stores who) knowledge first last ≡ gives bs) × (length bs ≤ room))
  unfolding writes
  make_writes who knowledge first last room bs = outcome_exact (make_reply R (w.stores who) knowledge first last) room bs

  -- an apply, by the batch that it gets, if there is one under its number
  some_apply : (who room : ℕ) (bs t : List ℕ) → apply_reply R.limits (w.stores who) t ≡ gives bs → length bs ≤ room → apply_to R.limits (w.stores who) (some t) room ≡ some bs
  unfolding apply_to
  some_apply who room bs t e h = (outcome_exact (apply_reply R.limits (w.stores who) t) room bs).1 (e, h)

  apply_some : (who room : ℕ) (bs : List ℕ) (o : Option (List ℕ)) → apply_to R.limits (w.stores who) o room ≡ some bs
      → (t : List ℕ) × ((o ≡ some t) × ((apply_reply R.limits (w.stores who) t ≡ gives bs) × (length bs ≤ room)))
  unfolding apply_to
  apply_some who room bs none e = absurd (nothing_some bs e)
  apply_some who room bs (some t) e = (t, (refl, outcome_some (apply_reply R.limits (w.stores who) t) room bs e))

  pub apply_writes : (who which room : ℕ) (bs : List ℕ) → (writes R w (apply who which room) ≡ some bs) ↔
      ((t : List ℕ) × ((batch_number which w.batches ≡ some t) × ((apply_reply R.limits (w.stores who) t ≡ gives bs) × (length bs ≤ room))))
  unfolding writes
  apply_writes who which room bs = (
    apply_some who room bs (batch_number which w.batches),
    λ h. ap (λ (o : Option (List ℕ)). apply_to R.limits (w.stores who) o room) h.1.0 ∙ some_apply who room bs h.0 h.1.1.0 h.1.1.1,
  )

  -- all four at once
  pub writes_exact : (c : Call) (bs : List ℕ) → (writes R w c ≡ some bs) ↔ Writes R w c bs
  writes_exact (edit who item b room) bs =
      let law = edit_writes who item b room bs in
      ((λ e. record { reply = (law.0 e).0; room = (law.0 e).1 }), λ h. law.1 (h.reply, h.room))
  writes_exact (delete who item room) bs =
      let law = delete_writes who item room bs in
      ((λ e. record { reply = (law.0 e).0; room = (law.0 e).1 }), λ h. law.1 (h.reply, h.room))
  writes_exact (make who knowledge first last room) bs =
      let law = make_writes who knowledge first last room bs in
      ((λ e. record { reply = (law.0 e).0; room = (law.0 e).1 }), λ h. law.1 (h.reply, h.room))
  writes_exact (apply who which room) bs =
      let law = apply_writes who which room bs in (
        (λ e. let a = law.0 e in record { reply = (a.0, ((batch_exact_number which w.batches a.0).0 a.1.0, a.1.1.0)); room = a.1.1.1 }),
        λ h. law.1 (h.reply.0, ((batch_exact_number which w.batches h.reply.0).1 h.reply.1.0, (h.reply.1.1, h.room))),
      )

  none_nothing : (c : Call) → writes R w c ≡ none → WritesNothing R w c
  none_nothing c e = record { nothing = λ bs h. nothing_some bs (sym e ∙ (writes_exact c bs).1 h) }

  -- the result is there or it is not
  cases : (c : Call) (o : Option (List ℕ)) → writes R w c ≡ o → ((bs : List ℕ) × (writes R w c ≡ some bs)) ⊎ (writes R w c ≡ none)
  cases c none e = inr e
  cases c (some bs) e = inl (bs, e)

  nothing_none : (c : Call) → WritesNothing R w c → writes R w c ≡ none
  nothing_none c h =
      elim (cases c (writes R w c) refl) [
        | inl x ↦ absurd (h.nothing x.0 ((writes_exact c x.0).0 x.1))
        | inr e ↦ e
      ]

  pub writes_decided : (c : Call) → ((bs : List ℕ) × Writes R w c bs) ⊎ WritesNothing R w c
  writes_decided c =
      elim (cases c (writes R w c) refl) [
        | inl x ↦ inl (x.0, (writes_exact c x.0).0 x.1)
        | inr e ↦ inr (none_nothing c e)
      ]

  pub writes_single : (c : Call) (bs cs : List ℕ) → Writes R w c bs → Writes R w c cs → bs ≡ cs
  writes_single c bs cs a b =
      let e = (writes_exact c bs).1 a in
      let d = (writes_exact c cs).1 b in
      cc

-- ---- what it leaves

pub keep_leaves : (w : World) (c : Call) (bs : List ℕ) → Leaves c bs w (keep w c (some bs))
unfolding keep
keep_leaves w (edit who item b room) bs =
    record { own = put_same who who bs w.stores refl; others = λ q n. put_other who q bs w.stores n; batches = refl }
keep_leaves w (delete who item room) bs =
    record { own = put_same who who bs w.stores refl; others = λ q n. put_other who q bs w.stores n; batches = refl }
keep_leaves w (make who knowledge first last room) bs = record { stores = λ q. refl; batches = refl }
keep_leaves w (apply who which room) bs =
    record { own = put_same who who bs w.stores refl; others = λ q n. put_other who q bs w.stores n; batches = refl }

pub keep_none : (w : World) (c : Call) → keep w c none ≡ w
unfolding keep
keep_none w (edit who item b room) = refl
keep_none w (delete who item room) = refl
keep_none w (make who knowledge first last room) = refl
keep_none w (apply who which room) = refl

-- ---- what the machine is told, and does

-- the entry for a call of which the outcome is known
unfoldable pub entry : Call → Option (List ℕ) → Fed
entry c o = record { call = c; refused = elim o [ none ↦ true | some bs ↦ false ] }

entry_call : (c : Call) (o : Option (List ℕ)) → (entry c o).call ≡ c
unfolding entry
entry_call c o = refl

-- refused exactly where there is no outcome
entry_refused : (c : Call) (o : Option (List ℕ)) → ((entry c o).refused ≡ true) ↔ (o ≡ none)
unfolding entry
entry_refused c none = (λ h. refl, λ h. refl)
entry_refused c (some bs) = ((λ h. let z : ◌≡◌ {A = ℕ} 0 1 = cc in absurd (omega arith)), λ h. absurd (nothing_some bs (sym h)))

entry_done : (c : Call) (o : Option (List ℕ)) → ((entry c o).refused ≡ false) ↔ ((bs : List ℕ) × (o ≡ some bs))
unfolding entry
entry_done c none = ((λ h. let z : ◌≡◌ {A = ℕ} 0 1 = cc in absurd (omega arith)), λ h. absurd (nothing_some h.0 h.1))
entry_done c (some bs) = ((λ h. (bs, refl)), λ h. refl)

module _ (R : Rules) where
  pub entry_told : (w : World) (c : Call) → Told R w c (entry c (writes R w c))
  entry_told w c =
      let refused = entry_refused c (writes R w c) in
      let done = entry_done c (writes R w c) in
      record {
        call = entry_call c (writes R w c);
        refused = (λ h. none_nothing R w c (refused.0 h), λ h. refused.1 (nothing_none R w c h));
        done = (
          (λ h. let x = done.0 h in (x.0, (writes_exact R w c x.0).0 x.1)),
          λ h. done.1 (h.0, (writes_exact R w c h.0).1 h.1),
        );
      }

  -- ---- one call more, and one list after another

  trace_more : (w : World) (calls : List Call) (c : Call) → trace R w (calls ++ one c) ≡ trace R w calls ++ (entry c (writes R (run R w calls) c) ∷ [])
  unfolding trace run entry
  trace_more w [] c = refl
  trace_more w (x ∷ xs) c =
      ap (λ (l : List Fed). record { call = x; refused = elim (writes R w x) [ none ↦ true | some bs ↦ false ] } ∷ l) (trace_more (keep w x (writes R w x)) xs c)

  pub ends-append : (a b : List Call) → ends R (a ++ b) ≡ run R (ends R a) b
  unfolding ends
  ends-append a b = run-append R start a b

  pub machine-append : (a b : List Call) → machine R (a ++ b) ≡ history (machine R a) (trace R (ends R a) b)
  unfolding ends machine
  machine-append a b = history-append R start initial a b

  pub ends_more : (calls : List Call) (c : Call) → ends R (calls ++ one c) ≡ keep (ends R calls) c (writes R (ends R calls) c)
  unfolding run
  ends_more calls c = ends-append calls (one c)

  pub machine_more : (calls : List Call) (c : Call) → machine R (calls ++ one c) ≡ history (machine R calls) (entry c (writes R (ends R calls) c) ∷ [])
  unfolding trace entry
  machine_more calls c = machine-append calls (one c)

  history_done : (m : State) (c : Call) (bs : List ℕ) → history m (entry c (some bs) ∷ []) ≡ acts m c
  unfolding history entry
  history_done m c bs = refl

  history_refused : (m : State) (c : Call) → history m (entry c none ∷ []) ≡ m
  unfolding history entry
  history_refused m c = refl

  written_leaves : (calls : List Call) (c : Call) (bs : List ℕ) → Writes R (ends R calls) c bs → Leaves c bs (ends R calls) (ends R (calls ++ one c))
  written_leaves calls c bs h =
      let w = ends R calls in
      subst (Leaves c bs w) (sym (ends_more calls c ∙ ap (keep w c) ((writes_exact R w c bs).1 h))) (keep_leaves w c bs)

  refused_leaves : (calls : List Call) (c : Call) → WritesNothing R (ends R calls) c → ends R (calls ++ one c) ≡ ends R calls
  refused_leaves calls c h =
      let w = ends R calls in
      ends_more calls c ∙ (ap (keep w c) (nothing_none R w c h) ∙ keep_none w c)

  told_more : (calls : List Call) (c : Call) → (x : Fed) × (Told R (ends R calls) c x × (trace R start (calls ++ one c) ≡ trace R start calls ++ (x ∷ [])))
  unfolding ends
  told_more calls c = (entry c (writes R (ends R calls) c), (entry_told (ends R calls) c, trace_more start calls c))

  written_acts : (calls : List Call) (c : Call) (bs : List ℕ) → Writes R (ends R calls) c bs → machine R (calls ++ one c) ≡ acts (machine R calls) c
  written_acts calls c bs h =
      machine_more calls c
      ∙ (ap (λ (o : Option (List ℕ)). history (machine R calls) (entry c o ∷ [])) ((writes_exact R (ends R calls) c bs).1 h)
      ∙ history_done (machine R calls) c bs)

  refused_idle : (calls : List Call) (c : Call) → WritesNothing R (ends R calls) c → machine R (calls ++ one c) ≡ machine R calls
  refused_idle calls c h =
      machine_more calls c
      ∙ (ap (λ (o : Option (List ℕ)). history (machine R calls) (entry c o ∷ [])) (nothing_none R (ends R calls) c h)
      ∙ history_refused (machine R calls) c)

  -- the start
  ends_start : ends R [] ≡ start
  unfolding ends run
  ends_start = refl

  machine_start : machine R [] ≡ initial
  unfolding machine trace history
  machine_start = refl

  trace_start : trace R start [] ≡ []
  unfolding trace
  trace_start = refl

  start_batches : start.batches ≡ []
  unfolding start
  start_batches = refl

  initial_empty : (initial.versions ≡ []) × (((p i q : ℕ) → initial.ticks p i q ≡ 0) × (initial.batches ≡ []))
  unfolding initial
  initial_empty = (refl, ((λ p i q. refl), refl))

  pub runner : Runner R (ends R) (machine R) (trace R start)
  runner = record {
    stores = λ p small. begin p small ∙ ap (λ (w : World). gives (w.stores p)) (sym ends_start);
    batches = ap (λ (w : World). w.batches) ends_start ∙ start_batches;
    versions = ap (λ (m : State). m.versions) machine_start ∙ initial_empty.0;
    ticks = λ p i q. ap (λ (m : State). m.ticks p i q) machine_start ∙ initial_empty.1.0 p i q;
    remembered = ap (λ (m : State). m.batches) machine_start ∙ initial_empty.1.1;
    written = written_leaves;
    refused = refused_leaves;
    decided = λ calls c. writes_decided R (ends R calls) c;
    untold = trace_start;
    told = told_more;
    acted = written_acts;
    idle = refused_idle;
    numbered = batch_exact_number;
    numbers = remembered_exact_number;
  }

-- ---- what is given of a call: an id of 16 bytes, and bytes as arguments; nothing else is asked of any call

pub edit_given : (who : ℕ) (item : List ℕ) (b : Brought) (room : ℕ) → Given (edit who item b room) ↔ ((who < 256 ^ 16) × (Bytes item × Bytes b.tag))
edit_given who item b room = (λ h. (h.0, (h.1.0, h.1.1.tag)), λ h. (h.0, (h.1.0, record { tag = h.1.1 })))

pub delete_given : (who : ℕ) (item : List ℕ) (room : ℕ) → Given (delete who item room) ↔ ((who < 256 ^ 16) × Bytes item)
delete_given who item room = (λ h. h, λ h. h)

pub make_given : (who : ℕ) (knowledge first last : List ℕ) (room : ℕ) → Given (make who knowledge first last room) ↔ ((who < 256 ^ 16) × (Bytes knowledge × (Bytes first × Bytes last)))
make_given who knowledge first last room = (λ h. h, λ h. h)

pub apply_given : (who which room : ℕ) → Given (apply who which room) ↔ (who < 256 ^ 16)
apply_given who which room = (λ h. h, λ h. h)
