-- How a call that writes a store or a batch ends once the knowledge part has written a knowledge into its room, or has refused: so many bytes stand
-- in front of the knowledge and so many behind it. A refusal of the knowledge part is 11, 12 or 14; 14 there means that the whole has no room, or,
-- where there may be no room at all, that the records were too many, which is 13.
use Prim.Native.Nat.{ℕ, ◌+◌, ◌-◌, ◌≤◌, ◌<◌}
use mathlib.Core.Path.{◌≡◌, refl, sym, ap, subst, ◌∙◌}
use mathlib.Core.Bool.{Bool, true, false}
use mathlib.Core.List.{List, ◌++◌, append_assoc}
use native.Mathlib.Nat.{zero-add}
use native.Mathlib.Omega.{arith}
use lib.Dec.{leb}
use lib.ListN.{length, take, drop, length-take, length-drop, take-append-drop}
use lib.Seq.{drop-append-le, drop-drop}
use borrow.Author.Tests.{le-leb, lt-leb, lt-ltb, le-ltb, leb-true, leb-false}
use Rattle.codec.specs.declared.Refusal.{Refusal}
use Rattle.codec.specs.declared.Refusal.TheVariants.{BufferTooShort}
use Rattle.codec.specs.Refusal.{number}
use Rattle.codec.specs.Reply.{Reply, gives, refuses}
use Rattle.codec.specs.Part.{placed}
use Rattle.std.specs.Prelude.{Result, Ok, Err}
use Rattle.codec.specs.MethodEnded.{Ended, answer_under}
use Rattle.codec.specs.Answer.{Answer, answer_of}
use Rattle.codec.specs.Answer.{Written, Refused}
use Rattle.codec.proofs.Writing.{placed_in, placed-length}
use Rattle.codec.proofs.Replies.{fault_first, fault_gives}
use Rattle.codec.proofs.Calls.{short_answer, short_after, written_answer, written_after}
use Rattle.codec.proofs.Ended.{ended_refused, ended_cases}
use Rattle.layout.specs.Knowledge.{Limits, Knowledge, encode}
use Rattle.layout.proofs.Forward.{encode-length}
use Rattle.ticks.specs.Calls.{result_lines}
use Rattle.ticks.proofs.ForCalls.{result_number}
use Rattle.store_write.specs.MethodStoring.{ends_with, leaves}
use Rattle.store_write.specs.declared.Room.{Room}
use Rattle.store_write.specs.MethodClosing.{knowledge_reply, with_part, nowhere, room_between, Between, answer_around, after_around}
use Rattle.store_write.proofs.Storing.{put_whole}

-- ---- a part of a buffer that was lent

with_same : (out : List ℕ) (from to : ℕ) → with_part out from to (take (to - from) (drop from out)) ≡ out
with_same out from to =
    ap (λ (z : List ℕ). take from out ++ z) (take-append-drop (to - from) (drop from out)) ∙ take-append-drop from out

with_placed : (out : List ℕ) (from to : ℕ) (bs : List ℕ) → from ≤ to → to ≤ length out → length bs ≤ to - from
    → with_part out from to (placed (take (to - from) (drop from out)) 0 bs) ≡ placed out from bs
with_placed out from to bs h i j =
    let d = drop from out in
    let p = take (to - from) d in
    let l : length p ≡ to - from = omega (arith, length-take (to - from) d, length-drop from out) in
    let front : placed p 0 bs ≡ bs ++ drop (length bs) p =
    placed_in p 0 bs (omega arith) ∙ ap (λ (n : ℕ). bs ++ drop n p) (zero-add (length bs)) in
    let rest : drop (length bs) p ++ drop (to - from) d ≡ drop (from + length bs) out =
    sym (drop-append-le (length bs) p (drop (to - from) d) (omega arith))
    ∙ ap (drop (length bs)) (take-append-drop (to - from) d) ∙ drop-drop (length bs) from out in
    ap (λ (z : List ℕ). with_part out from to z) front
    ∙ ap (λ (z : List ℕ). take from out ++ z)
    (append_assoc bs (drop (length bs) p) (drop (to - from) d) ∙ ap (λ (z : List ℕ). bs ++ z) rest)
    ∙ sym (placed_in out from bs (omega arith))

-- ---- the part that is lent

module _ (may : Bool) (room front size : ℕ) where
  pub room_not : may ≡ false → nowhere ≡ room_between may room front size
  unfolding room_between
  room_not e = sym (rw (e, room_between))

  pub room_short : may ≡ true → room < front + size → nowhere ≡ room_between may room front size
  unfolding room_between
  room_short e h = sym (rw (e, lt-leb (front + size) room h, room_between))

  pub room_some : may ≡ true → front + size ≤ room → record { from = front; to = room - size } ≡ room_between may room front size
  unfolding room_between
  room_some e h = sym (rw (e, le-leb (front + size) room h, room_between))

  abbrev Lent : Room → Type 0
  Lent p = Between may room front size p.from p.to

  pub between : (p : Room) → p ≡ room_between may room front size → Lent p
  between p e = subst Lent (sym e) (go may refl (leb (front + size) room) refl)
    where
      go : (x : Bool) → may ≡ x → (y : Bool) → leb (front + size) room ≡ y → Lent (room_between may room front size)
      go false f y g =
          subst Lent (room_not f)
          (record {
            ordered = omega arith;
            inside = omega arith;
            only = λ l. absurd (omega arith);
            some = λ m l. let z : ◌≡◌ {A = ℕ} 0 1 = cc (m, f) in absurd (omega arith);
          })
      go true f true g =
          let h = leb-true (front + size) room g in
          subst Lent (room_some f h) (record { ordered = omega arith; inside = omega arith; only = λ l. (f, h); some = λ m l. (refl, omega arith) })
      go true f false g =
          let h = leb-false (front + size) room g in
          subst Lent (room_short f h)
          (record { ordered = omega arith; inside = omega arith; only = λ l. absurd (omega arith); some = λ m l. absurd (omega arith) })

-- ---- the answer and the buffer, by the knowledge's answer

-- an error below 14, or not, by its number in the code
module _ (n x y : ℕ) (is : x ≡ n) (short : y ≡ number BufferTooShort) where
  pub small : x < y → n < 14
  unfolding number
  small h = omega (arith, is, short)

  pub large : y ≤ x → 14 ≤ n
  unfolding number
  large h = omega (arith, is, short)

-- what was put around the knowledge is answered as it was, whatever the errors are that the call has: a refusal keeps its number
module _ {E : Type 0} (number_of : E → ℕ) (p : Result ℕ Refusal) where
  pub put_handed : (r : Refusal) (q : Result ℕ E) (e : E) → p ≡ Err r → q ≡ Err e → number_of e ≡ number r
      → answer_under number_of q ≡ answer_of p
  unfolding answer_under answer_of
  put_handed r q e is f k = ap (answer_under number_of) f ∙ ap Refused k ∙ sym (ap answer_of is)

  pub put_kept : (n : ℕ) → p ≡ Ok n → answer_under number_of (Ok n) ≡ answer_of p
  unfolding answer_under answer_of
  put_kept n is = sym (ap answer_of is)

-- 11 or 12
answer_own : (may : Bool) (front size n room : ℕ) → n < 14 → Refused n ≡ answer_around may front size (Refused n) room
unfolding answer_around
answer_own true front size n room h = refl
answer_own false front size n room h = sym (rw (lt-ltb n 14 h, answer_around))

module _ (may : Bool) (front size : ℕ) (around : ℕ → List ℕ) (a : Answer) (out : List ℕ) where
  abbrev Closed : Answer → List ℕ → Type 0
  Closed r u = (r ≡ answer_around may front size a (length out)) × (u ≡ after_around front size around a out)

  module _ (n : ℕ) where
    pub closed_written : a ≡ Written n → (r : Answer) (u : List ℕ) → r ≡ ends_with (front + n + size) (length out)
        → u ≡ leaves (front + n + size) out (around n) → Closed r u
    unfolding answer_around after_around
    closed_written e r u f g = rw e (f, g)

    module _ (e : a ≡ Refused n) where
      -- the buffer stays, whichever refusal is answered
      pub closed_stays : out ≡ after_around front size around a out
      unfolding after_around
      closed_stays = sym (ap (λ x. after_around front size around x out) e)

      pub closed_fits : may ≡ true → Closed (Refused n) out
      unfolding answer_around after_around
      closed_fits f = rw (e, f) (refl, refl)

      pub closed_other : n < 14 → Closed (Refused n) out
      unfolding after_around
      closed_other h = rw e (answer_own may front size n (length out) h, refl)

      pub closed_over : may ≡ false → 14 ≤ n → Closed (Refused 13) out
      unfolding answer_around after_around
      closed_over f h = rw (e, f, le-ltb n 14 h, answer_around) (refl, refl)

-- ---- the end

-- of a reply whose bytes ws are a knowledge k with bytes around it, where the knowledge part has ended in the part that was lent
module _ (L : Limits) (k : Knowledge) (may : Bool) (front size : ℕ) (whole : Reply) (ws : List ℕ) (around : ℕ → List ℕ) (first out : List ℕ) (a : Answer)
    (own : (n : ℕ) → knowledge_reply L k ≡ refuses n → whole ≡ refuses n)
    (over : (bs : List ℕ) → knowledge_reply L k ≡ gives bs → may ≡ false → whole ≡ refuses 13)
    (given : (bs : List ℕ) → knowledge_reply L k ≡ gives bs → may ≡ true → whole ≡ gives ws)
    (sized : length ws ≡ front + length (encode k) + size)
    (made : may ≡ true → out ≡ placed first front (encode k) → length ws ≤ length first → around (length (encode k)) ≡ placed first 0 ws)
    (from to : ℕ) (room : Between may (length first) front size from to) (part : List ℕ)
    (ended : Ended (knowledge_reply L k) (take (to - from) (drop from first)) part a) (is : out ≡ with_part first from to part) where
  abbrev before : List ℕ
  before = take (to - from) (drop from first)

  before-length : length before ≡ to - from
  before-length = omega (arith, length-take (to - from) (drop from first), length-drop from first, room.inside)

  module _ (r : Answer) (u : List ℕ) (h : Closed may front size around a out r u) where
    stays : (m : ℕ) → part ≡ before → Closed may front size around a out (Refused m) out → Ended whole first first (Refused m) → Ended whole first u r
    stays m e c f = record {
      answers = h.0 ∙ sym c.0 ∙ f.answers;
      leaves = h.1 ∙ sym c.1 ∙ is ∙ ap (λ (z : List ℕ). with_part first from to z) e ∙ with_same first from to ∙ f.leaves;
    }

    refused : (n : ℕ) → knowledge_reply L k ≡ refuses n → a ≡ Refused n → part ≡ before → Ended whole first u r
    refused n e f p =
        stays n p (closed_other may front size around a out n f (result_number L k n (fault_first (result_lines L k) (encode k) n e)))
        (ended_refused whole first n (own n e))

    short : may ≡ true → length before < length (encode k) → length first < length ws
    short m l = go (leb (front + size) (length first)) refl
      where
        go : (y : Bool) → leb (front + size) (length first) ≡ y → length first < length ws
        go true e =
            let at = room.some m (leb-true (front + size) (length first) e) in
            omega (arith, before-length, sized, at.0, at.1)
        go false e = omega (arith, sized, leb-false (front + size) (length first) e)

    no_room : (e : knowledge_reply L k ≡ gives (encode k)) → length before < length (encode k) → a ≡ Refused 14 → part ≡ before
        → (x : Bool) → may ≡ x → Ended whole first u r
    no_room e l f p true m =
        stays 14 p (closed_fits may front size around a out 14 f m)
        (record {
          answers = short_answer whole first ws (given (encode k) e m) (short m l);
          leaves = short_after whole first ws (given (encode k) e m) (short m l);
        })
    no_room e l f p false m =
        stays 13 p (closed_over may front size around a out 14 f m (omega arith)) (ended_refused whole first 13 (over (encode k) e m))

    written : knowledge_reply L k ≡ gives (encode k) → length (encode k) ≤ length before → a ≡ Written (length (encode k))
        → part ≡ placed before 0 (encode k) → Ended whole first u r
    written e l f p =
        let n = length (encode k) in
        let g = room.only (omega (arith, before-length, encode-length k)) in
        let at = room.some g.0 g.1 in
        let fits : length ws ≤ length first = omega (arith, before-length, sized, at.0, at.1) in
        let there : out ≡ placed first front (encode k) =
        is ∙ ap (λ (z : List ℕ). with_part first from to z) p
        ∙ with_placed first from to (encode k) room.ordered room.inside (omega (arith, before-length))
        ∙ ap (λ (x : ℕ). placed first x (encode k)) at.0 in
        let c = put_whole (front + n + size) out (around n) (around n)
        (omega (arith, sized, fits, ap length there, placed-length first front (encode k))) refl in
        let w = closed_written may front size around a out n f (Written (front + n + size)) (around n) c.0 c.1 in
        record {
          answers = h.0 ∙ sym w.0 ∙ ap Written (sym sized) ∙ written_answer whole first ws (given (encode k) e g.0) fits;
          leaves = written_after whole first ws (given (encode k) e g.0) u fits (h.1 ∙ sym w.1 ∙ made g.0 there fits);
        }

    pub ends_around : Ended whole first u r
    ends_around =
        ended_cases before part a (Ended whole first u r) (knowledge_reply L k) ended
        refused
        (λ bs e l f p.
        let z = (fault_gives (result_lines L k) (encode k) bs e).1 in
        no_room (e ∙ ap gives (sym z)) (omega (arith, ap length z)) f p may refl)
        (λ bs e l f p.
        let z = (fault_gives (result_lines L k) (encode k) bs e).1 in
        written (e ∙ ap gives (sym z)) (omega (arith, ap length z)) (f ∙ ap (λ (x : List ℕ). Written (length x)) (sym z))
        (p ∙ ap (placed before 0) (sym z)))
