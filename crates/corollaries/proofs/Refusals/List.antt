-- Refusals in a list of calls, and the buffer. A call writes bytes into a buffer exactly where the codec's answer says that
-- so many were written and the buffer afterwards starts with them, and it writes none exactly where the answer is a
-- refusal, 14 included, and the buffer is as it was. After any list of calls no call is refused with 15 or 16; the other
-- conditions are read off the machine, whose ticks and greatest versions are those of the stores: a delete gives 19 where
-- the machine has no greatest version of the item or a tombstone, an edit or delete 20 where the replica's largest known
-- tick is the largest there is, an apply 18 where the replica's ticks are below needed's somewhere in the span.
use Prim.Native.Nat.{ℕ, ◌≤◌, ◌<◌, ◌^◌}
use mathlib.Core.Path.{◌≡◌, refl, sym, ap, ◌∙◌, subst}
use mathlib.Core.Logic.{◌⊎◌, inl, inr, ⊎_elim, ◌↔◌}
use mathlib.Core.Bool.{Bool, true, false}
use mathlib.Core.List.{List, [], ◌∷◌}
use mathlib.Core.Option.{none, some}
use native.Mathlib.Omega.{arith}
use lib.Dec.{leb}
use lib.ListN.{length, take}
use borrow.Author.Tests.{leb-true, leb-false, le-leb}
use Rattle.codec.specs.Number.{be_at, Bytes}
use Rattle.codec.specs.Reply.{Reply, gives, refuses, answer, after}
use Rattle.codec.specs.Answer.{Written, Refused}
use Rattle.codec.proofs.Replies.{answer_fits, answer_short, after_front, after_refused}
use Rattle.layout.specs.Knowledge.{Rules, largest_tick, basic, All, any_id}
use Rattle.layout.specs.Permitted.{Permitted}
use Rattle.layout.proofs.Exact.{base_permitted}
use Rattle.ticks.specs.Meaning.{highest, known}
use Rattle.ticks.specs.Operations.{largest}
use Rattle.ticks.proofs.ForCalls.{id_is}
use Rattle.ticks.proofs.Largest.{largest_bounds}
use Rattle.ticks.proofs.Meaning.{lawful_largest}
use Rattle.replication.specs.Formats.{find}
use Rattle.replication.specs.BatchFormat.{Batch}
use Rattle.replication.specs.OpenStore.{open_store}
use Rattle.replication.specs.OpenBatch.{open_batch}
use Rattle.replication.specs.Calls.{exhausted, edit_reply, delete_reply, make_reply, apply_reply, RightBrought}
use Rattle.replication.specs.Lists.{World, outcome, batch_number}
use Rattle.replication.specs.Machine.{Remembered, State, value, greatest, largest_known, remembered_at}
use Rattle.replication.specs.Promise.{ends, machine}
use Rattle.replication.specs.Batches.{IsBatch}
use Rattle.replication.proofs.Agree.Invariant.{store_octets, Follows, opens}
use Rattle.replication.proofs.Agree.Edit.{largest_same}
use Rattle.replication.proofs.Agree.Run.{paired_number, batch_open_at}
use Rattle.replication.proofs.Demand3.{ahead_fails, ends_follow, accepted_same}
use Rattle.replication.proofs.Refusals.Tests.{Lacks, Ahead, Behind, ahead_exact, behind_apart, Gone, Present, Exhausted, means_20}
use Rattle.replication.proofs.Refusals.Edit.{edit_20, delete_19, delete_20, edit_numbers_lem, delete_numbers_lem}
use Rattle.replication.proofs.Refusals.Make.{make_numbers_lem}
use Rattle.replication.proofs.Refusals.Apply.{apply_18, apply_numbers_lem}
use Rattle.codec.specs.Parsed.{accepted, Parsed, refused}
use Rattle.ticks.proofs.Lists.{Among}
use Rattle.layout.specs.Parse.{parse}
use Rattle.replication.proofs.Agree.Arguments.{id_value}
use Rattle.replication.specs.Call.{Call, Given, Brought}

-- ---- the buffer

outcome_fits : (bs : List ℕ) (room : ℕ) → length bs ≤ room → outcome (gives bs) room ≡ some bs
unfolding outcome
outcome_fits bs room h = rw (le-leb (length bs) room h, outcome)

outcome_short : (bs : List ℕ) (room : ℕ) → room < length bs → outcome (gives bs) room ≡ none
unfolding outcome
outcome_short bs room h = go (leb (length bs) room) refl
  where
    go : (t : Bool) → leb (length bs) room ≡ t → outcome (gives bs) room ≡ none
    go true e = absurd (omega (arith, leb-true (length bs) room e))
    go false e = rw (e, outcome)

fits? : (bs : List ℕ) (room : ℕ) → (length bs ≤ room) ⊎ (room < length bs)
fits? bs room = go (leb (length bs) room) refl
  where
    go : (t : Bool) → leb (length bs) room ≡ t → (length bs ≤ room) ⊎ (room < length bs)
    go true e = inl (leb-true (length bs) room e)
    go false e = inr (leb-false (length bs) room e)

-- what a call writes, by the answer and the buffer after it
pub outcome_written : (r : Reply) (out bs : List ℕ) → (outcome r (length out) ≡ some bs) ↔ ((answer r (length out) ≡ Written (length bs)) × (take (length bs) (after r out) ≡ bs))
unfolding outcome answer
outcome_written (refuses n) out bs = (
  (λ h. let z : ◌≡◌ {A = ℕ} 0 1 = cc in absurd (omega arith)),
  λ h. let a = h.0 in let z : ◌≡◌ {A = ℕ} 0 1 = cc in absurd (omega arith),
)
outcome_written (gives cs) out bs =
    elim (fits? cs (length out)) [
      | inl l ↦
          let o = outcome_fits cs (length out) l in
          let a = answer_fits cs (length out) l in (
            (λ h. let e : cs ≡ bs = cc in subst (λ (x : List ℕ). (answer (gives cs) (length out) ≡ Written (length x)) × (take (length x) (after (gives cs) out) ≡ x)) e (a, after_front cs out l)),
            λ h.
                let b : answer (gives cs) (length out) ≡ Written (length bs) = h.0 in
                let n : length cs ≡ length bs = cc in
                let f : cs ≡ bs = sym (after_front cs out l) ∙ (ap (λ (x : ℕ). take x (after (gives cs) out)) n ∙ h.1) in
                o ∙ ap some f,
          )
      | inr l ↦
          let o = outcome_short cs (length out) l in
          let a = answer_short cs (length out) l in (
            (λ h. let z : ◌≡◌ {A = ℕ} 0 1 = cc in absurd (omega arith)),
            λ h.
                let b : answer (gives cs) (length out) ≡ Written (length bs) = h.0 in
                let z : ◌≡◌ {A = ℕ} 0 1 = cc in
                absurd (omega arith),
          )
    ]

-- a call writes nothing: the answer is a refusal, and the buffer is as it was
pub outcome_refused : (r : Reply) (out : List ℕ) → (outcome r (length out) ≡ none) ↔ ((n : ℕ) × ((answer r (length out) ≡ Refused n) × (after r out ≡ out)))
unfolding outcome answer after
outcome_refused (refuses n) out = (λ h. (n, (refl, refl)), λ h. refl)
outcome_refused (gives cs) out =
    elim (fits? cs (length out)) [
      | inl l ↦
          let o = outcome_fits cs (length out) l in
          let a = answer_fits cs (length out) l in (
            (λ h. let z : ◌≡◌ {A = ℕ} 0 1 = cc in absurd (omega arith)),
            λ h.
                let b : answer (gives cs) (length out) ≡ Refused h.0 = h.1.0 in
                let z : ◌≡◌ {A = ℕ} 0 1 = cc in
                absurd (omega arith),
          )
      | inr l ↦
          let a = answer_short cs (length out) l in
          ((λ h. (14, (a, after_refused (gives cs) out 14 a))), λ h. outcome_short cs (length out) l)
    ]

-- ---- after a list of calls

-- an item of the span and a replica of which the machine's replica knows less than the batch needs
pub record LacksNeeded (m : State) (p : ℕ) (span : Remembered) (b : Batch) : Type 0 where
  pub item : ℕ
  pub replica : ℕ
  pub above : span.first ≤ item
  pub below : item ≤ span.last
  pub less : m.ticks p item replica < known b.needed item replica

-- how the calls on replica p are refused, in the machine's terms
pub record RefusedAsMachine (R : Rules) (w : World) (m : State) (p : ℕ) : Type 0 where
  -- the numbers that can be given: neither a store's own nor that of a batch of the list (15, 16) is among them
  pub edit_numbers : (item : List ℕ) (b : Brought) (n : ℕ) → edit_reply R.limits (w.stores p) item b ≡ refuses n → Among n (17 ∷ 20 ∷ 11 ∷ 12 ∷ 13 ∷ [])
  pub delete_numbers : (item : List ℕ) (n : ℕ) → delete_reply R.limits (w.stores p) item ≡ refuses n → Among n (17 ∷ 19 ∷ 20 ∷ 11 ∷ 12 ∷ 13 ∷ [])
  pub make_numbers : (knowledge first last : List ℕ) (n : ℕ) → make_reply R (w.stores p) knowledge first last ≡ refuses n → (parse R knowledge ≡ refused n) ⊎ Among n (17 ∷ 11 ∷ 12 ∷ 13 ∷ [])
  pub apply_numbers : (k : ℕ) (t : List ℕ) (n : ℕ) → batch_number k w.batches ≡ some t → apply_reply R.limits (w.stores p) t ≡ refuses n → Among n (18 ∷ 11 ∷ 12 ∷ 13 ∷ [])
  -- 18 is given where the replica knows less than needed somewhere in the span, and on no other condition
  pub apply18 : (n : ℕ) (t : List ℕ) (span : Remembered) (b : Batch) → batch_number n w.batches ≡ some t
      → remembered_at n m.batches ≡ some span → open_batch R.limits t ≡ accepted b
      → (apply_reply R.limits (w.stores p) t ≡ refuses 18) ↔ LacksNeeded m p span b
  -- 19 is given where the greatest version of the item that the replica's ticks contain is missing or a tombstone
  pub delete19 : (item : List ℕ) → (delete_reply R.limits (w.stores p) item ≡ refuses 19) ↔ ((length item ≡ 24) × Gone (greatest m.versions (m.ticks p) (value 0 item)))
  -- 20 is given where the replica's largest known tick is the largest there is
  pub delete20 : (item : List ℕ) → (delete_reply R.limits (w.stores p) item ≡ refuses 20) ↔
      ((length item ≡ 24) × (Present (greatest m.versions (m.ticks p) (value 0 item)) × (largest_known (m.ticks p) ≡ largest_tick)))
  pub edit20 : (item : List ℕ) (b : Brought) → (edit_reply R.limits (w.stores p) item b ≡ refuses 20) ↔ (((length item ≡ 24) × RightBrought b) × (largest_known (m.ticks p) ≡ largest_tick))

same_some : {A : Type 0} (x y : A) → some x ≡ some y → x ≡ y
same_some x y e = cc

not_refused : {A : Type 0} (o : Parsed A) (x : A) (n : ℕ) → o ≡ accepted x → o ≡ refused n → ⊥
not_refused o x n e f =
    let z : ◌≡◌ {A = ℕ} 0 1 = cc in
    omega arith

module _ (R : Rules) (permitted : Permitted R.limits) (w : World) (m : State) (f : Follows R.limits w m) (p : ℕ) (small : p < 256 ^ 16) where
  open_here : open_store R.limits (w.stores p) ≡ accepted (f.stores p small).st
  open_here = opens R.limits permitted w m f p small

  octets : Bytes (w.stores p)
  octets = store_octets R.limits (w.stores p) m.versions (m.ticks p) p (f.stores p small)

  -- the largest tick, in the store and in the machine
  exhausted_same : Exhausted (f.stores p small).st ↔ (largest_known (m.ticks p) ≡ largest_tick)
  unfolding exhausted
  exhausted_same =
      let s = f.stores p small in
      let k = s.st.knowledge in
      let same : largest_known (m.ticks p) ≡ largest k = largest_same k (m.ticks p) s.valid.normal s.ticks (λ i q h. f.good.strangers p i q h) in (
        (λ x. omega (arith, same, x.tick, largest_bounds k x.item x.replica, lawful_largest (any_id R.limits) k s.valid.lawful)),
        λ e. (means_20 R.limits s.st s.valid.lawful).yes (le-leb largest_tick (largest k) (omega (arith, same, e))),
      )

  -- the record of an item, in the store and in the machine
  record_same : (item : List ℕ) → length item ≡ 24 → find (be_at item 24 0) (f.stores p small).st.records ≡ greatest m.versions (m.ticks p) (value 0 item)
  record_same item e =
      (f.stores p small).records (be_at item 24 0) ∙ ap (greatest m.versions (m.ticks p)) (sym (id_is 24 item) ∙ id_value 24 item e)

  in_list_19 : (item : List ℕ) → (delete_reply R.limits (w.stores p) item ≡ refuses 19) ↔ ((length item ≡ 24) × Gone (greatest m.versions (m.ticks p) (value 0 item)))
  in_list_19 item =
      let law = delete_19 R.limits permitted (w.stores p) item octets (f.stores p small).st open_here in (
        (λ h. let a = law.0 h in (a.0, subst Gone (record_same item a.0) a.1)),
        λ a. law.1 (a.0, subst Gone (sym (record_same item a.0)) a.1),
      )

  in_list_20 : (item : List ℕ) → (delete_reply R.limits (w.stores p) item ≡ refuses 20)
      ↔ ((length item ≡ 24) × (Present (greatest m.versions (m.ticks p) (value 0 item)) × (largest_known (m.ticks p) ≡ largest_tick)))
  in_list_20 item =
      let law = delete_20 R.limits permitted (w.stores p) item octets (f.stores p small).st open_here in (
        (λ h. let a = law.0 h in (a.0, (subst Present (record_same item a.0) a.1.0, exhausted_same.0 a.1.1))),
        λ a. law.1 (a.0, (subst Present (sym (record_same item a.0)) a.1.0, exhausted_same.1 a.1.1)),
      )

  in_list_edit_20 : (item : List ℕ) (b : Brought) → (edit_reply R.limits (w.stores p) item b ≡ refuses 20) ↔ (((length item ≡ 24) × RightBrought b) × (largest_known (m.ticks p) ≡ largest_tick))
  in_list_edit_20 item b =
      let law = edit_20 R.limits permitted (w.stores p) item b octets (f.stores p small).st open_here in (
        (λ h. let a = law.0 h in (a.0, exhausted_same.0 a.1)),
        λ a. law.1 (a.0, exhausted_same.1 a.1),
      )

  in_list_edit : (item : List ℕ) (b : Brought) (n : ℕ) → edit_reply R.limits (w.stores p) item b ≡ refuses n → Among n (17 ∷ 20 ∷ 11 ∷ 12 ∷ 13 ∷ [])
  in_list_edit item b n h =
      elim (edit_numbers_lem R.limits permitted (w.stores p) item b octets n h) [
        | inl e ↦ absurd (not_refused (open_store R.limits (w.stores p)) (f.stores p small).st n open_here e)
        | inr a ↦ a.1
      ]

  in_list_delete : (item : List ℕ) (n : ℕ) → delete_reply R.limits (w.stores p) item ≡ refuses n → Among n (17 ∷ 19 ∷ 20 ∷ 11 ∷ 12 ∷ 13 ∷ [])
  in_list_delete item n h =
      elim (delete_numbers_lem R.limits permitted (w.stores p) item octets n h) [
        | inl e ↦ absurd (not_refused (open_store R.limits (w.stores p)) (f.stores p small).st n open_here e)
        | inr a ↦ a.1
      ]

  in_list_make : (knowledge first last : List ℕ) (n : ℕ) → make_reply R (w.stores p) knowledge first last ≡ refuses n → (parse R knowledge ≡ refused n) ⊎ Among n (17 ∷ 11 ∷ 12 ∷ 13 ∷ [])
  in_list_make knowledge first last n h =
      elim (make_numbers_lem R (w.stores p) knowledge first last n h) [
        | inl e ↦ absurd (not_refused (open_store R.limits (w.stores p)) (f.stores p small).st n open_here e)
        | inr a ↦ a.1
      ]

  in_list_apply : (k : ℕ) (t : List ℕ) (n : ℕ) → batch_number k w.batches ≡ some t → apply_reply R.limits (w.stores p) t ≡ refuses n → Among n (18 ∷ 11 ∷ 12 ∷ 13 ∷ [])
  in_list_apply k t n d h =
      let x = paired_number R.limits m.versions k t w.batches m.batches f.batches d in
      elim (apply_numbers_lem R.limits (w.stores p) t n h) [
        | inl e ↦ absurd (not_refused (open_store R.limits (w.stores p)) (f.stores p small).st n open_here e)
        | inr a ↦ elim a.1 [
          | inl e ↦ absurd (not_refused (open_batch R.limits t) x.follows.b n (batch_open_at R permitted w m f k t x) e)
          | inr b ↦ b.1
        ]
      ]

  in_list_18 : (n : ℕ) (t : List ℕ) (span : Remembered) (b : Batch) → batch_number n w.batches ≡ some t
      → remembered_at n m.batches ≡ some span → open_batch R.limits t ≡ accepted b
      → (apply_reply R.limits (w.stores p) t ≡ refuses 18) ↔ LacksNeeded m p span b
  in_list_18 n t span b e numb ob =
      let x = paired_number R.limits m.versions n t w.batches m.batches f.batches e in
      let s = f.stores p small in
      let law = apply_18 R.limits (w.stores p) t s.st b open_here ob in
      let eb : x.follows.b ≡ b = accepted_same x.follows.b b (sym (batch_open_at R permitted w m f n t x) ∙ ob) in
      let es : x.b ≡ span = same_some x.b span (sym x.is ∙ numb) in
      let first : b.first ≡ span.first = ap (λ (y : Batch). y.first) (sym eb) ∙ (x.follows.first ∙ ap (λ (y : Remembered). y.first) es) in
      let last : b.last ≡ span.last = ap (λ (y : Batch). y.last) (sym eb) ∙ (x.follows.last ∙ ap (λ (y : Remembered). y.last) es) in
      let top : b.last ≤ highest = subst (λ (y : Batch). y.last ≤ highest) eb x.follows.top in
      let behind : Behind s.st b = (ahead_exact s.st b).0
      (ahead_fails R permitted w m f p n t s.st b small e (record { bytes = s.bytes; valid = s.valid })
      (subst (IsBatch R.limits t) eb (record { bytes = x.follows.bytes; valid = x.follows.valid }))) in (
        (λ h. ⊎_elim (λ (l : Lacks s.st b). told first last top l) (λ (a : Ahead s.st b). absurd (behind_apart s.st b a behind)) (law.0 h)),
        λ l.
            law.1
            (inl
            (record {
              item = l.item;
              replica = l.replica;
              above = omega (arith, first, l.above);
              below = omega (arith, last, l.below);
              less = omega (arith, l.less, s.ticks l.item l.replica (omega (arith, last, l.below, top)));
            })),
      )
    where
      told : b.first ≡ span.first → b.last ≡ span.last → b.last ≤ highest → Lacks (f.stores p small).st b → LacksNeeded m p span b
      told first last top l = record {
        item = l.item;
        replica = l.replica;
        above = omega (arith, l.above);
        below = omega (arith, l.below);
        less = omega (arith, l.less, (f.stores p small).ticks l.item l.replica (omega (arith, l.below)));
      }

  pub refused_follows : RefusedAsMachine R w m p
  refused_follows = record {
    edit_numbers = in_list_edit;
    delete_numbers = in_list_delete;
    make_numbers = in_list_make;
    apply_numbers = in_list_apply;
    apply18 = in_list_18;
    delete19 = in_list_19;
    delete20 = in_list_20;
    edit20 = in_list_edit_20;
  }

-- after any list of calls, for every replica
pub refused_in_list : (R : Rules) → Permitted R.limits → (calls : List Call) → All Given calls → (p : ℕ) → p < 256 ^ 16 → RefusedAsMachine R (ends R calls) (machine R calls) p
refused_in_list R permitted calls given p small =
    refused_follows R permitted (ends R calls) (machine R calls) (ends_follow R permitted calls given) p small

-- with document 01's limits
pub refused_in_list_basic : (calls : List Call) → All Given calls → (p : ℕ) → p < 256 ^ 16 → RefusedAsMachine basic (ends basic calls) (machine basic calls) p
refused_in_list_basic calls given p small = refused_in_list basic base_permitted calls given p small
