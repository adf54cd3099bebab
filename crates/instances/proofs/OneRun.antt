-- A list of calls, whatever the rules: flags, answers and end as they are computed in one run are those of its trace, of its calls one by
-- one and of its run, by going along the list. So what a list comes to is computed once, and the answer to call k, from the bytes as the
-- calls before it left them, is read off. An apply gets the batch as it stands at the end, because a batch once made stays; and a store
-- stands at the end as it was before call k where each call from k on is another replica's or was refused. A run in stages gives the same
-- of each stage.
use Prim.Native.Nat.{ℕ, zero, suc, ◌<◌}
use mathlib.Core.Path.{◌≡◌, refl, sym, ap, subst, ◌∙◌}
use mathlib.Core.Bool.{Bool, true, false}
use mathlib.Core.List.{List, [], ◌∷◌, ◌++◌}
use mathlib.Core.Option.{Option, none, some}
use native.Mathlib.Omega.{arith}
use lib.ListN.{length, take, drop, take-append-drop}
use Rattle.codec.specs.Answer.{Answer}
use Rattle.codec.specs.Answer.{Refused}
use Rattle.codec.specs.Reply.{answer, number_of}
use Rattle.layout.specs.Knowledge.{Limits, Rules}
use Rattle.replication.specs.Call.{Call, edit, delete, make, apply}
use Rattle.replication.specs.Calls.{apply_reply}
use Rattle.replication.specs.Lists.{World, start, outcome, batch_number, apply_to, writes, put_at, keep, run, trace}
use Rattle.replication.specs.Promise.{ends}
use Rattle.replication.proofs.Agree.Run.{run-append}
use Rattle.replication.specs.Runner.{room_of}
use Rattle.instances.specs.Answers.{applied_to, replied, answers, flags, stores_of}
use Rattle.instances.specs.MethodRan.{call_at, answer_at, Ran, noted, ran_once, Seen, seen, in_stages, Idle}

-- ---- a batch once made stays

number_append : (n : ℕ) (l m : List (List ℕ)) (b : List ℕ) → batch_number n l ≡ some b → batch_number n (l ++ m) ≡ some b
unfolding batch_number
number_append n [] m b e = cc
number_append zero (x ∷ l) m b e = e
number_append (suc n) (x ∷ l) m b e = number_append n l m b e

number_keep : (w : World) (c : Call) (o : Option (List ℕ)) (n : ℕ) (b : List ℕ) → batch_number n w.batches ≡ some b
    → batch_number n (keep w c o).batches ≡ some b
unfolding keep
number_keep w c none n b e = e
number_keep w (edit who item brought room) (some bs) n b e = e
number_keep w (delete who item room) (some bs) n b e = e
number_keep w (make who knowledge first last room) (some bs) n b e = number_append n w.batches (bs ∷ []) b e
number_keep w (apply who which room) (some bs) n b e = e

number_run : (R : Rules) (w : World) (cs : List Call) (n : ℕ) (b : List ℕ) → batch_number n w.batches ≡ some b
    → batch_number n (run R w cs).batches ≡ some b
unfolding run
number_run R w [] n b e = e
number_run R w (c ∷ cs) n b e = number_run R (keep w c (writes R w c)) cs n b (number_keep w c (writes R w c) n b e)

-- ---- a store stays over calls of others and over refused calls

idle_step : (p : ℕ) (w : World) (c : Call) (o : Option (List ℕ)) (cs : List Call) (fs : List Bool)
    → Idle 0 p (c ∷ cs) (elim o [ none ↦ true | some bs ↦ false ] ∷ fs) → ((keep w c o).stores p ≡ w.stores p) × Idle 0 p cs fs
unfolding keep put_at
idle_step p w c none cs fs h = (refl, h)
idle_step p w (edit who item brought room) (some bs) cs fs h = (rw (h.0, put_at), h.1)
idle_step p w (delete who item room) (some bs) cs fs h = (rw (h.0, put_at), h.1)
idle_step p w (make who knowledge first last room) (some bs) cs fs h = (refl, h.1)
idle_step p w (apply who which room) (some bs) cs fs h = (rw (h.0, put_at), h.1)

-- ---- one run

apply_replied : (L : Limits) (s : List ℕ) (t : Option (List ℕ)) (room : ℕ) → apply_to L s t room ≡ outcome (applied_to L s t) room
unfolding apply_to applied_to outcome
apply_replied L s none room = refl
apply_replied L s (some b) room = refl

-- what a stage comes to, after the calls before it
pub record Stage (R : Rules) (ps : List ℕ) (before cs : List Call) (x : Seen) : Type 0 where
  pub flags : flags (trace R (ends R before) cs) ≡ x.flags
  pub answers : answers R (ends R before) cs ≡ x.answers
  pub stores : stores_of ps (ends R (before ++ cs)) ≡ x.stores
  pub batches : (ends R (before ++ cs)).batches ≡ x.batches

module _ (R : Rules) where
  writes_replied : (w : World) (c : Call) → writes R w c ≡ outcome (replied R w c) (room_of c)
  unfolding writes replied
  writes_replied w (edit who item brought room) = refl
  writes_replied w (delete who item room) = refl
  writes_replied w (make who knowledge first last room) = refl
  writes_replied w (apply who which room) = apply_replied R.limits (w.stores who) (batch_number which w.batches) room

  ran_is : (w : World) (cs : List Call)
      → ran_once R w cs ≡ record { flags = flags (trace R w cs); answers = answers R w cs; ends = run R w cs }
  unfolding ran_once noted flags trace answers run
  ran_is w [] = refl
  ran_is w (c ∷ cs) =
      let a = answer (replied R w c) (room_of c) in
      ap (λ (o : Option (List ℕ)). noted a o (ran_once R (keep w c o) cs)) (sym (writes_replied w c))
      ∙ ap (noted a (writes R w c)) (ran_is (keep w c (writes R w c)) cs)

  -- ---- in stages

  -- the stages one after the other, after the calls before them
  abbrev pub Stages : List ℕ → List Call → List (List Call) → List Seen → Type 0
  Stages ps before [] xs = Unit {0}
  Stages ps before (cs ∷ stages) [] = ⊥
  Stages ps before (cs ∷ stages) (x ∷ xs) = Stage R ps before cs x × Stages ps (before ++ cs) stages xs

  stages_run : (ps : List ℕ) (stages : List (List Call)) (before : List Call)
      → Stages ps before stages (in_stages R ps (ends R before) stages)
  unfolding in_stages seen ends
  stages_run ps [] before = tt
  stages_run ps (cs ∷ stages) before =
      let w = ends R before in
      let is = ran_is w cs in
      let on : ends R (before ++ cs) ≡ (ran_once R w cs).ends =
      run-append R start before cs ∙ sym (ap (λ (r : Ran). r.ends) is) in (
        record {
          flags = sym (ap (λ (r : Ran). r.flags) is);
          answers = sym (ap (λ (r : Ran). r.answers) is);
          stores = ap (stores_of ps) on;
          batches = ap (λ (x : World). x.batches) on;
        },
        subst (λ (x : World). Stages ps (before ++ cs) stages (in_stages R ps x stages)) on (stages_run ps stages (before ++ cs)),
      )

  pub stages_are : (ps : List ℕ) (stages : List (List Call)) (xs : List Seen) → in_stages R ps start stages ≡ xs → Stages ps [] stages xs
  unfolding ends run
  stages_are ps stages xs computed = subst (Stages ps [] stages) computed (stages_run ps stages [])

  -- the answer to call k is from the world after the calls before it
  answer_at_lem : (k : ℕ) (w : World) (cs : List Call) → k < length cs
      → answer (replied R (run R w (take k cs)) (call_at cs k)) (room_of (call_at cs k)) ≡ answer_at (answers R w cs) k
  unfolding answers run
  answer_at_lem k w [] h = absurd (omega arith)
  answer_at_lem zero w (c ∷ cs) h = refl
  answer_at_lem (suc k) w (c ∷ cs) h = answer_at_lem k (keep w c (writes R w c)) cs (omega arith)

  number_early : (k n : ℕ) (cs : List Call) (b : List ℕ) → batch_number n (ends R (take k cs)).batches ≡ some b
      → batch_number n (ends R cs).batches ≡ some b
  unfolding ends
  number_early k n cs b e =
      ap (λ (l : List Call). batch_number n (run R start l).batches) (sym (take-append-drop k cs))
      ∙ ap (λ (w : World). batch_number n w.batches) (run-append R start (take k cs) (drop k cs))
      ∙ number_run R (run R start (take k cs)) (drop k cs) n b e

  -- the store of p before call k and at the end
  stays : (k p : ℕ) (w : World) (cs : List Call) → Idle k p cs (flags (trace R w cs)) → (run R w cs).stores p ≡ (run R w (take k cs)).stores p
  unfolding run trace flags
  stays zero p w [] h = refl
  stays (suc k) p w [] h = refl
  stays zero p w (c ∷ cs) h =
      let o = writes R w c in
      let i = idle_step p w c o cs (flags (trace R (keep w c o) cs)) h in
      stays zero p (keep w c o) cs i.1 ∙ i.0
  stays (suc k) p w (c ∷ cs) h = stays k p (keep w c (writes R w c)) cs h

  apply_told : (s : List ℕ) (b : List ℕ) (room m : ℕ) (t : Option (List ℕ)) → ((x : List ℕ) → t ≡ some x → some x ≡ some b)
      → answer (applied_to R.limits s t) room ≡ Refused (suc m) → answer (apply_reply R.limits s b) room ≡ Refused (suc m)
  unfolding applied_to answer number_of
  apply_told s b room m none same e = let z : ◌≡◌ {A = ℕ} 0 (suc m) = ap number_of e in absurd (omega arith)
  apply_told s b room m (some x) same e = let z : x ≡ b = cc (same x refl) in ap (λ y. answer (apply_reply R.limits s y) room) (sym z) ∙ e

  module _ (ps : List ℕ) (cs : List Call) (fs : List Bool) (xs : List Answer) (ss bs : List (List ℕ))
      (computed : seen ps (ran_once R start cs) ≡ record { flags = fs; answers = xs; stores = ss; batches = bs }) where
    all_are : seen ps (record { flags = flags (trace R start cs); answers = answers R start cs; ends = run R start cs })
        ≡ record { flags = fs; answers = xs; stores = ss; batches = bs }
    all_are = sym (ap (seen ps) (ran_is start cs)) ∙ computed

    -- which calls were refused
    pub flags_are : flags (trace R start cs) ≡ fs
    unfolding seen
    flags_are = ap (λ (x : Seen). x.flags) all_are

    -- the bytes of the stores and batches at the end
    pub stores_are : stores_of ps (ends R cs) ≡ ss
    unfolding seen ends
    stores_are = ap (λ (x : Seen). x.stores) all_are

    pub batches_are : (ends R cs).batches ≡ bs
    unfolding seen ends
    batches_are = ap (λ (x : Seen). x.batches) all_are

    -- what each call answers
    pub answers_are : answers R start cs ≡ xs
    unfolding seen
    answers_are = ap (λ (x : Seen). x.answers) all_are

    -- the store of p at the end is that before call k, where the calls from k on are others' or were refused
    pub store_stays_lem : (k p : ℕ) → Idle k p cs fs → (ends R cs).stores p ≡ (ends R (take k cs)).stores p
    unfolding ends
    store_stays_lem k p h = stays k p start cs (subst (Idle k p cs) (sym flags_are) h)

    -- the answer to call k, from the bytes as the calls before it left them
    pub answer_is : (k : ℕ) → k < length cs
        → answer (replied R (ends R (take k cs)) (call_at cs k)) (room_of (call_at cs k)) ≡ answer_at xs k
    unfolding ends
    answer_is k h = answer_at_lem k start cs h ∙ ap (λ (l : List Answer). answer_at l k) answers_are

    -- where it is an apply that is refused, its batch is the one with its number at the end
    pub apply_is : (k who n room m : ℕ) (b : List ℕ) → k < length cs → call_at cs k ≡ apply who n room → answer_at xs k ≡ Refused (suc m)
        → batch_number n bs ≡ some b → answer (apply_reply R.limits ((ends R (take k cs)).stores who) b) room ≡ Refused (suc m)
    unfolding replied
    apply_is k who n room m b h call told at =
        let w = ends R (take k cs) in
        apply_told (w.stores who) b room m (batch_number n w.batches)
        (λ x e. sym (number_early k n cs x e) ∙ ap (batch_number n) batches_are ∙ at)
        (ap (λ (c : Call). answer (replied R w c) (room_of c)) (sym call) ∙ answer_is k h ∙ told)
