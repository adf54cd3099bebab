-- How a call that makes a batch ends once its inputs are accepted: with 11 or 12 of needed, then of learned, else with the bytes of the batch or 14.
-- A given knowledge in normal form is needed; else what the knowledge part wrote into scratch is, whose normal form has room there where the
-- scratch is as long as the longest knowledge. What was written into the room in the buffer is learned (proofs/Learned.antt); and the records at
-- the places that were selected are the batch's. No more records are selected than the store has, so there is no 13.
use Prim.Native.Nat.{ℕ, ◌+◌, ◌-◌, ◌≤◌}
use mathlib.Core.Path.{◌≡◌, refl, sym, ap, ◌∙◌, subst}
use mathlib.Core.Bool.{Bool, true}
use mathlib.Core.List.{List, [], ◌∷◌, ◌++◌}
use native.Mathlib.Omega.{arith}
use lib.ListN.{length, take, drop, length-take}
use Rattle.codec.specs.Reply.{gives, refuses}
use Rattle.codec.specs.Part.{placed}
use Rattle.codec.specs.Ids.{item_of}
use Rattle.codec.specs.MethodEnded.{Ended, End, end_of}
use Rattle.codec.specs.Answer.{answer_of}
use Rattle.codec.specs.Refusal.{number}
use Rattle.codec.specs.declared.Refusal.{Refusal}
use Rattle.std.specs.Prelude.{Result, Ok, Err}
use Rattle.codec.specs.Answer.{Answer}
use Rattle.codec.specs.Answer.{Written, Refused}
use Rattle.codec.proofs.Ended.{ended_refused, ended_cases}
use Rattle.codec.proofs.Replies.{fault_gives}
use Rattle.codec.proofs.Total.{clamp_within}
use Rattle.codec.proofs.Writing.{placed_in, placed-length}
use Rattle.layout.specs.Knowledge as K
use Rattle.layout.specs.Knowledge.{Knowledge, encode, any_id}
use Rattle.layout.specs.Permitted.{largest_records}
use Rattle.layout.specs.Decode.{decode}
use Rattle.layout.proofs.Lengths.{lawful-length}
use Rattle.layout.proofs.Within.{longest_within}
use Rattle.ticks.proofs.ForCalls.{within_lines}
use Rattle.ticks.specs.Calls.{result_lines}
use Rattle.ticks.specs.Operations.{normalise, project}
use Rattle.ticks.proofs.LawfulResults.{lawful_normalise}
use Rattle.lookup.proofs.Leaf.{opens_reading, read_lawful}
use Rattle.normal_form.specs.MethodNormal.{normal_opened}
use Rattle.replication.specs.BatchFormat.{Batch}
use Rattle.replication.specs.Operate.{made}
use Rattle.replication.specs.MethodOpening.{store_at}
use Rattle.replication.proofs.Opening.Calls.{batch_needed_result}
use Rattle.records_join.specs.MethodJoin.{copied, size_from, fronted}
use Rattle.records_select.proofs.SelectedTables.{selected_count, selected_size, selected_copied}
use Rattle.results.specs.MethodOpened.{limits_of, Reads, result_of, by_table_end}
use Rattle.results.proofs.Copied.{normal_given}
use Rattle.results.proofs.Opened.{normalise_by_table}
use Rattle.store_write.specs.MethodStoring.{Chosen}
use Rattle.store_write.specs.MethodClosing.{RoomBehind, with_part, InsideBatch}
use Rattle.make.specs.declared.Task.{Task}
use Rattle.make.specs.Method.{made_of, made_reply, needed_reply, learned_end, chosen_places, Parts}
use Rattle.make.proofs.Learned.{learned_ends}

-- ---- how long a normal form is

-- the length at the largest limits
abbrev pub longest_knowledge : ℕ
longest_knowledge = 14933

-- a part that was written from the front
front : (d bs : List ℕ) → length bs ≤ length d → take (length bs) (placed d 0 bs) ≡ bs
front d bs h =
    ap (take (length bs)) (placed_in d 0 bs (omega arith)) ∙ take-front bs (drop (0 + length bs) d)
  where
    take-front : (xs ys : List ℕ) → take (length xs) (xs ++ ys) ≡ xs
    take-front [] ys = refl
    take-front (x ∷ xs) ys = ap (λ (r : List ℕ). x ∷ r) (take-front xs ys)

-- what a call left, by its result
module _ (u : List ℕ) (q : Result ℕ Refusal) (x : End) (left : end_of u (answer_of q) ≡ x) where
  pub left_written : (n : ℕ) → q ≡ Ok n → end_of u (Written n) ≡ x
  unfolding answer_of
  left_written n e = sym (ap (λ (r : Result ℕ Refusal). end_of u (answer_of r)) e) ∙ left

  pub left_refused : (e : Refusal) → q ≡ Err e → end_of u (Refused (number e)) ≡ x
  unfolding answer_of
  left_refused e f = sym (ap (λ (r : Result ℕ Refusal). end_of u (answer_of r)) f) ∙ left

module _ (s mine k : List ℕ) (w : Task) (p : Parts s mine k w) where
  abbrev L : K.Limits
  L = limits_of w.limits

  abbrev batch : Batch
  batch = made_of s k w

  made_needed : batch.needed ≡ normalise (decode k)
  unfolding made
  made_needed = refl

  made_learned : batch.learned ≡ project (item_of w.span.first) (item_of w.span.last) (store_at L s).knowledge
  unfolding made
  made_learned = refl

  made_first : item_of w.span.first ≡ batch.first
  unfolding made
  made_first = refl

  made_last : item_of w.span.last ≡ batch.last
  unfolding made
  made_last = refl

  -- ---- needed

  theirs : Reads w.limits k w.given
  theirs = record { rules = any_id L; limits = refl; opens = p.theirs }

  -- the given knowledge as it stands
  pub needed_normal_lem : (b : Bool) → b ≡ normal_opened k w.given.r w.given.start → b ≡ true → needed_reply k w ≡ gives k
  needed_normal_lem b is t = normal_given w.limits k w.given theirs (sym is ∙ t)

  needed_ends : (d u : List ℕ) (a : Answer) → end_of u a ≡ by_table_end w.limits k w.given d → Ended (needed_reply k w) d u a
  needed_ends d u a e = normalise_by_table w.limits k w.given d u a e theirs

  needed_short : (bs : List ℕ) → needed_reply k w ≡ gives bs → length bs ≤ longest_knowledge
  needed_short bs e =
      let m = normalise (decode k) in
      let h = fault_gives (result_lines L m) (encode m) bs e in
      let o = p.theirs in
      let lawful = read_lawful (any_id L) k w.given.r o.v o.e o.g (opens_reading (any_id L) k w.given.r w.given.start o) in
      omega (
        arith,
        ap length h.1,
        lawful-length (any_id L) m (lawful_normalise (any_id L) (decode k) lawful (within_lines L m h.0).ranges),
        longest_within w.limits.replicas w.limits.ranges w.limits.records,
      )

  -- it was written into scratch
  module _ (d u : List ℕ) (n : ℕ) (ends : end_of u (Written n) ≡ by_table_end w.limits k w.given d) where
    written : Ended (needed_reply k w) d u (Written n)
    written = needed_ends d u (Written n) ends

    pub needed_inside : n ≤ length d
    needed_inside =
        ended_cases d u (Written n) (n ≤ length d) (needed_reply k w) written
        (λ m h g v. let z : ◌≡◌ {A = ℕ} 0 1 = cc in absurd (omega arith))
        (λ bs h l g v. let z : ◌≡◌ {A = ℕ} 0 1 = cc in absurd (omega arith))
        (λ bs h l g v. let z : n ≡ length bs = cc in omega arith)

    pub needed_counted : n ≡ length (take n u)
    needed_counted =
        ended_cases d u (Written n) (n ≡ length (take n u)) (needed_reply k w) written
        (λ m h g v. let z : ◌≡◌ {A = ℕ} 0 1 = cc in absurd (omega arith))
        (λ bs h l g v. let z : ◌≡◌ {A = ℕ} 0 1 = cc in absurd (omega arith))
        (λ bs h l g v. let z : n ≡ length bs = cc in omega (arith, length-take n u, ap length v, placed-length d 0 bs))

    pub needed_given : needed_reply k w ≡ gives (take n u)
    needed_given =
        ended_cases d u (Written n) (needed_reply k w ≡ gives (take n u)) (needed_reply k w) written
        (λ m h g v. let z : ◌≡◌ {A = ℕ} 0 1 = cc in absurd (omega arith))
        (λ bs h l g v. let z : ◌≡◌ {A = ℕ} 0 1 = cc in absurd (omega arith))
        (λ bs h l g v. let z : n ≡ length bs = cc in
        h ∙ ap gives (sym (ap (λ (i : ℕ). take i u) z ∙ ap (take (length bs)) v ∙ front d bs l)))

  -- it was refused: with 11 or 12, or 14 for scratch that is too short
  module _ (d u : List ℕ) (n : ℕ) (ends : end_of u (Refused n) ≡ by_table_end w.limits k w.given d) where
    stopped : Ended (needed_reply k w) d u (Refused n)
    stopped = needed_ends d u (Refused n) ends

    refused : (out : List ℕ) → needed_reply k w ≡ refuses n → Ended (made_reply s k w) out out (Refused n)
    refused out h =
        ended_refused (made_reply s k w) out n
        (batch_needed_result L batch n (subst (λ (x : Knowledge). result_of w.limits x ≡ refuses n) (sym made_needed) h))

    pub needed_refused : (out : List ℕ) → (n ≡ 14 → ⊥) → Ended (made_reply s k w) out out (Refused n)
    needed_refused out other =
        ended_cases d u (Refused n) (Ended (made_reply s k w) out out (Refused n)) (needed_reply k w) stopped
        (λ m h g v. let z : m ≡ n = cc in refused out (h ∙ ap refuses z))
        (λ bs h l g v. let z : n ≡ 14 = cc in absurd (other z))
        (λ bs h l g v. let z : ◌≡◌ {A = ℕ} 0 1 = cc in absurd (omega arith))

    pub needed_refused_long : (out : List ℕ) → longest_knowledge ≤ length d → Ended (made_reply s k w) out out (Refused n)
    needed_refused_long out room =
        ended_cases d u (Refused n) (Ended (made_reply s k w) out out (Refused n)) (needed_reply k w) stopped
        (λ m h g v. let z : m ≡ n = cc in refused out (h ∙ ap refuses z))
        (λ bs h l g v. absurd (omega (arith, needed_short bs h)))
        (λ bs h l g v. let z : ◌≡◌ {A = ℕ} 0 1 = cc in absurd (omega arith))

  -- ---- learned, and the records at the places that were selected

  module _ (needed : List ℕ) (given : needed_reply k w ≡ gives needed) (d picks : List ℕ) (count size : ℕ)
      (counted : count ≡ length (chosen_places s k w)) (sized : size ≡ size_from s s (chosen_places s k w))
      (fronts : picks ≡ fronted d (chosen_places s k w)) (most : largest_records ≤ length d) where
    record_count : length (chosen_places s k w) ≡ length batch.records
    record_count =
        selected_count s w.table k w.given.r w.given.start (item_of w.span.first) (item_of w.span.last) batch.records p.records s

    chosen : Chosen s s picks count size batch.records
    chosen =
        let first = item_of w.span.first in
        let last = item_of w.span.last in
        let r = w.given.r in
        let c = w.given.start in
        let room : count ≤ length d = omega (arith, counted, p.fewer, most, (clamp_within w.limits.records largest_records (omega arith)).1) in
        record {
          counted = counted ∙ record_count;
          sized = sized ∙ selected_size s w.table k r c first last batch.records p.records s;
          copies = λ o at h.
              ap (λ (q : List ℕ). copied s s o at (take count q)) fronts
              ∙ selected_copied s w.table k r c first last batch.records p.records s p.bytes p.bytes d count counted room o at
              (omega (arith, sized));
        }

    pub made_inside : (out : List ℕ) (from to : ℕ) → RoomBehind (length out) (length needed) size from to → (part : List ℕ) (a : Answer)
        → end_of part a ≡ learned_end mine w (take (to - from) (drop from out))
        → InsideBatch L batch (item_of w.span.first) (item_of w.span.last) a needed s picks count size out (with_part out from to part)
    made_inside out from to room part a e = record {
      begins = made_first;
      stops = made_last;
      given = subst (λ (x : Knowledge). result_of w.limits x ≡ gives needed) (sym made_needed) given;
      fewer = omega (arith, record_count, p.fewer);
      chosen = chosen;
      from = from;
      to = to;
      room = room;
      part = part;
      ended =
          subst (λ (x : Knowledge). Ended (result_of w.limits x) (take (to - from) (drop from out)) part a)
          (sym (made_learned ∙ ap (project (item_of w.span.first) (item_of w.span.last)) p.knowledge))
          (learned_ends s mine k w p (take (to - from) (drop from out)) part a e);
      is = refl;
    }
