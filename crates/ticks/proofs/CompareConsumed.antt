-- The sentences of request 13, from its statement alone: each law takes `CompareSays` as a hypothesis, never its proof, and gives its
-- sentence for all arguments, in terms of what a program is told: the number, the order behind its pointer, the length, and the numbers
-- that it reads in the buffer. So a statement that says less, of fewer inputs or in one direction only, no longer gives its sentence here.
-- At the end the statement's own proof is put in, with document 01's limits.
use Prim.Native.Nat.{ℕ, ◌+◌, ◌≤◌, ◌<◌, ◌^◌}
use mathlib.Core.Path.{◌≡◌, refl, sym, ap, ◌∙◌, subst}
use mathlib.Core.Logic.{◌↔◌}
use mathlib.Core.List.{List, []}
use native.Mathlib.Omega.{arith}
use lib.ListN.{length, take, drop, replicate}
use Rattle.codec.specs.Number.{Bytes, be_from, be_at, put}
use Rattle.codec.specs.Answer.{Answer}
use Rattle.codec.specs.Answer.{Written, Refused}
use Rattle.codec.specs.Parsed.{accepted, refused}
use Rattle.codec.specs.Reply.{Reply, refuses, answer, after, number_of, written_of}
use Rattle.codec.proofs.Numbers.{put_be, put-drop, be_drop, be_take}
use Rattle.codec.proofs.Calls.{refused_answer, refused_after}
use Rattle.codec.proofs.Replies.{answer_fits, answer_short, number_fits, number_short, number_refused, after_front, after_short}
use Rattle.layout.specs.Knowledge.{Rules, basic, Knowledge, Lawful}
use Rattle.layout.specs.Permitted.{Permitted}
use Rattle.layout.specs.Parse.{parse}
use Rattle.ticks.specs.Meaning.{highest, known}
use Rattle.ticks.specs.Answers.{AtLeast, ProperSpan, Answers}
use Rattle.ticks.specs.Calls.{cover_number, cover_value, cover_answer}
use Rattle.ticks.specs.Compare.{order, put_place, compared, compare_reply, order_value}
use Rattle.ticks.specs.Compare.{Knows, Ordered, Lowest, Reported, Finds, CompareSays}
use Rattle.ticks.proofs.Answers.{answers_basic}
use Rattle.ticks.proofs.Comparing.{compares_basic, order_settled, reported_settled, order_stays, place-length}
use Rattle.ticks.proofs.Consumed.{Says, cover_answers}
use Rattle.ticks.proofs.LawfulResults.{lawful_ticks, top_below}
use Rattle.ticks.proofs.Replies.{read_lawful}

-- ---- refused: the number alone

-- the number is n, and nothing behind any pointer changes
pub record RefusedAlone (R : Rules) (s t out : List ℕ) (n : ℕ) : Type 0 where
  pub number : number_of (answer (compare_reply R s t) (length out)) ≡ n
  pub written : (old : ℕ) → written_of (answer (compare_reply R s t) (length out)) old ≡ old
  pub order : (old : ℕ) → order_value R s t (answer (compare_reply R s t) (length out)) old ≡ old
  pub buffer : after (compare_reply R s t) out ≡ out

refused_alone : (R : Rules) (s t out : List ℕ) (n : ℕ) → compare_reply R s t ≡ refuses n → RefusedAlone R s t out n
refused_alone R s t out n e =
    let room = length out in
    record {
      number = ap (λ (r : Reply). number_of (answer r room)) e ∙ (number_refused n room 0).0;
      written = λ old. ap (λ (r : Reply). written_of (answer r room) old) e ∙ (number_refused n room old).1;
      order = λ old. order_stays R s t _ n old (sym (refused_answer (compare_reply R s t) out n e));
      buffer = sym (refused_after (compare_reply R s t) out n e);
    }

-- ---- reading the buffer

-- what a program reads in the 56 bytes from a place on
pub record Entry (out : List ℕ) (at i p m n : ℕ) : Type 0 where
  pub item : be_at out 24 at ≡ i
  pub replica : be_at out 16 (at + 24) ≡ p
  pub first : be_at out 8 (at + 40) ≡ m
  pub second : be_at out 8 (at + 48) ≡ n

module _ (R : Rules) (a b : Knowledge) (la : Lawful R a) (lb : Lawful R b) (i p : ℕ) (t : List ℕ) where
  place_behind : drop 56 (put_place a b i p t) ≡ t
  unfolding put_place
  place_behind =
      put-drop 24 i 32 _ ∙ put-drop 16 p 16 _ ∙ put-drop 8 (known a i p) 8 _ ∙ put-drop 8 (known b i p) 0 t

  place_entry : i ≤ highest → p < 256 ^ 16 → Entry (put_place a b i p t) 0 i p (known a i p) (known b i p)
  unfolding put_place
  place_entry item small =
      let ticks = put 8 (known a i p) (put 8 (known b i p) t) in
      record {
        item = put_be 24 i (put 16 p ticks) (top_below i item);
        replica = sym (be_drop _ 16 24 0) ∙ ap (λ (u : List ℕ). be_at u 16 0) (put-drop 24 i 0 (put 16 p ticks)) ∙ put_be 16 p ticks small;
        first = sym (be_drop _ 8 40 0)
            ∙ ap (λ (u : List ℕ). be_at u 8 0) (put-drop 24 i 16 (put 16 p ticks) ∙ put-drop 16 p 0 ticks)
            ∙ put_be 8 (known a i p) (put 8 (known b i p) t) (omega (arith, lawful_ticks R a i p la));
        second = sym (be_drop _ 8 48 0)
            ∙ ap (λ (u : List ℕ). be_at u 8 0)
            (put-drop 24 i 24 (put 16 p ticks) ∙ put-drop 16 p 8 ticks ∙ put-drop 8 (known a i p) 0 (put 8 (known b i p) t))
            ∙ put_be 8 (known b i p) t (omega (arith, lawful_ticks R b i p lb));
      }

-- an entry further back, and one in the buffer of which the bytes are the front
entry_later : (out : List ℕ) (k at i p m n : ℕ) → Entry (drop k out) at i p m n → Entry out (k + at) i p m n
entry_later out k at i p m n e = record {
  item = sym (be_drop out 24 k at) ∙ e.item;
  replica = ap (be_at out 16) (omega arith) ∙ sym (be_drop out 16 k (at + 24)) ∙ e.replica;
  first = ap (be_at out 8) (omega arith) ∙ sym (be_drop out 8 k (at + 40)) ∙ e.first;
  second = ap (be_at out 8) (omega arith) ∙ sym (be_drop out 8 k (at + 48)) ∙ e.second;
}

entry_front : (out : List ℕ) (k at i p m n : ℕ) → at + 56 ≤ k → Entry (take k out) at i p m n → Entry out at i p m n
entry_front out k at i p m n h e = record {
  item = sym (be_take out 24 at k (omega arith)) ∙ e.item;
  replica = sym (be_take out 16 (at + 24) k (omega arith)) ∙ e.replica;
  first = sym (be_take out 8 (at + 40) k (omega arith)) ∙ e.first;
  second = sym (be_take out 8 (at + 48) k (omega arith)) ∙ e.second;
}

-- ---- the call's sentences

-- all ids: from 24 bytes 0 to 24 bytes 255
pub zeros : List ℕ
zeros = replicate {A = ℕ} 24 0

pub top : List ℕ
top = replicate {A = ℕ} 24 255

zeros_is : be_at zeros 24 0 ≡ 0
unfolding zeros be_at be_from
zeros_is = refl

top_is : be_at top 24 0 ≡ highest
unfolding top be_at be_from highest
top_is = refl

all_proper : ProperSpan zeros top
unfolding zeros top
all_proper = (refl, (refl, omega (arith, zeros_is, top_is)))

-- cover over all ids, as it was before
module _ (R : Rules) (A : Answers R) (s t : List ℕ) (a b : Knowledge) (y : Bytes t) (e : parse R s ≡ accepted a)
    (f : parse R t ≡ accepted b) where
  cover_all : (old : ℕ) → Says cover_number cover_value (cover_answer R s t zeros top) (Knows a b) old
  cover_all old =
      subst (λ (n : ℕ). Says cover_number cover_value (cover_answer R s t zeros top) (AtLeast a b n highest) old) zeros_is
      (subst (λ (n : ℕ). Says cover_number cover_value (cover_answer R s t zeros top) (AtLeast a b (be_at zeros 24 0) n) old) top_is
      ((((cover_answers R A s t zeros top old y).1 a e).1 b f).1 all_proper))

module _ (R : Rules) (C : CompareSays R) where
  -- "first knowledge, then second"
  pub refused_first : (s t out : List ℕ) (n : ℕ) → parse R s ≡ refused n → RefusedAlone R s t out n
  refused_first s t out n e = refused_alone R s t out n (C.one s t n e)

  pub refused_second : (s t out : List ℕ) (a : Knowledge) (n : ℕ) → parse R s ≡ accepted a → parse R t ≡ refused n → RefusedAlone R s t out n
  refused_second s t out a n e f = refused_alone R s t out n (C.other s t a n e f)

  module _ (s t : List ℕ) (a b : Knowledge) (x : Bytes s) (y : Bytes t) (e : parse R s ≡ accepted a) (f : parse R t ≡ accepted b) where
    finds : Finds R s t a b
    finds = C.found s t a b x y e f

    -- then 14
    pub refused_short : (out : List ℕ) → length out < length (compared a b) → RefusedAlone R s t out 14
    refused_short out l =
        let room = length out in
        let g = finds.bytes in
        let short : answer (compare_reply R s t) room ≡ Refused 14 = ap (λ (r : Reply). answer r room) g ∙ answer_short (compared a b) room l in
        record {
          number = ap (λ (r : Reply). number_of (answer r room)) g ∙ (number_short (compared a b) room 0 l).0;
          written = λ old. ap (λ (r : Reply). written_of (answer r room) old) g ∙ (number_short (compared a b) room old l).1;
          order = λ old. order_stays R s t _ 14 old short;
          buffer = ap (λ (r : Reply). after r out) g ∙ after_short (compared a b) out l;
        }

    -- the order and the bytes are the only ones that meet what is said
    pub order_only : Permitted R.limits → (n : ℕ) → Ordered a b n → order a b ≡ n
    order_only permitted n o =
        order_settled R a b (read_lawful R s a permitted x e) (read_lawful R t b permitted y f) (order a b) n finds.ordered o

    pub bytes_only : Permitted R.limits → (bs : List ℕ) → Reported a b (order a b) bs → compared a b ≡ bs
    bytes_only permitted bs r =
        reported_settled R a b (read_lawful R s a permitted x e) (read_lawful R t b permitted y f) (order a b) (compared a b) bs
        finds.ordered finds.reported r

    -- "'Behind' holds exactly when the second covers the first and not the reverse", and the other three likewise
    module _ (A : Answers R) (old : ℕ) where
      abbrev First : ℕ → Type 0
      First n = cover_value (cover_answer R s t zeros top) old ≡ n

      abbrev Second : ℕ → Type 0
      Second n = cover_value (cover_answer R t s zeros top) old ≡ n

      first_covers : Says cover_number cover_value (cover_answer R s t zeros top) (Knows a b) old
      first_covers = cover_all R A s t a b y e f old

      second_covers : Says cover_number cover_value (cover_answer R t s zeros top) (Knows b a) old
      second_covers = cover_all R A t s b a x f e old

      pub alike_exactly : (order a b ≡ 0) ↔ (First 1 × Second 1)
      alike_exactly =
          let o = finds.ordered.alike in (
            (λ h. (first_covers.1.0.1 (o.0 h).0, second_covers.1.0.1 (o.0 h).1)),
            λ h. o.1 (first_covers.1.0.0 h.0, second_covers.1.0.0 h.1),
          )

      pub behind_exactly : (order a b ≡ 1) ↔ (Second 1 × First 0)
      behind_exactly =
          let o = finds.ordered.behind in (
            (λ h. (second_covers.1.0.1 (o.0 h).0, first_covers.1.1.1 (o.0 h).1)),
            λ h. o.1 (second_covers.1.0.0 h.0, first_covers.1.1.0 h.1),
          )

      pub ahead_exactly : (order a b ≡ 2) ↔ (First 1 × Second 0)
      ahead_exactly =
          let o = finds.ordered.ahead in (
            (λ h. (first_covers.1.0.1 (o.0 h).0, second_covers.1.1.1 (o.0 h).1)),
            λ h. o.1 (first_covers.1.0.0 h.0, second_covers.1.1.0 h.1),
          )

      pub apart_exactly : (order a b ≡ 3) ↔ (First 0 × Second 0)
      apart_exactly =
          let o = finds.ordered.apart in (
            (λ h. (first_covers.1.1.1 (o.0 h).0, second_covers.1.1.1 (o.0 h).1)),
            λ h. o.1 (first_covers.1.1.0 h.0, second_covers.1.1.0 h.1),
          )

    -- in a buffer with room: the number is 0, and what is told
    module _ (permitted : Permitted R.limits) (out : List ℕ) (room : length (compared a b) ≤ length out) where
      abbrev left : List ℕ
      left = after (compare_reply R s t) out

      la : Lawful R a
      la = read_lawful R s a permitted x e

      lb : Lawful R b
      lb = read_lawful R t b permitted y f

      pub number_told : number_of (answer (compare_reply R s t) (length out)) ≡ 0
      number_told = ap (λ (r : Reply). number_of (answer r (length out))) finds.bytes ∙ (number_fits (compared a b) (length out) 0 room).0

      pub length-told : (old : ℕ) → written_of (answer (compare_reply R s t) (length out)) old ≡ length (compared a b)
      length-told old =
          ap (λ (r : Reply). written_of (answer r (length out)) old) finds.bytes ∙ (number_fits (compared a b) (length out) old room).1

      pub order_told : (old : ℕ) → order_value R s t (answer (compare_reply R s t) (length out)) old ≡ order a b
      order_told old =
          ap (λ (r : Reply). order_value R s t (answer r (length out)) old) finds.bytes
          ∙ ap (λ (z : Answer). order_value R s t z old) (answer_fits (compared a b) (length out) room)
          ∙ finds.value (length (compared a b)) old

      front : take (length (compared a b)) left ≡ compared a b
      front =
          ap (λ (r : Reply). take (length (compared a b)) (after r out)) finds.bytes ∙ after_front (compared a b) out room

      -- what is read of a place at the front, and of one behind it
      read_first : (i p : ℕ) (u : List ℕ) → i ≤ highest → p < 256 ^ 16 → compared a b ≡ put_place a b i p u
          → Entry left 0 i p (known a i p) (known b i p)
      read_first i p u item small c =
          let n : length (compared a b) ≡ 56 + length u = ap length c ∙ place-length a b i p u in
          entry_front left (length (compared a b)) 0 i p (known a i p) (known b i p) (omega arith)
          (subst (λ (l : List ℕ). Entry l 0 i p (known a i p) (known b i p)) (sym (front ∙ c)) (place_entry R a b la lb i p u item small))

      read_second : (i p j q : ℕ) → j ≤ highest → q < 256 ^ 16 → compared a b ≡ put_place a b i p (put_place a b j q [])
          → Entry left 56 j q (known a j q) (known b j q)
      read_second i p j q item small c =
          let u = put_place a b j q [] in
          let n : length (compared a b) ≡ 112 =
          ap length c ∙ omega (arith, place-length a b i p u, place-length a b j q []) in
          let later : Entry (put_place a b i p u) 56 j q (known a j q) (known b j q) =
          entry_later (put_place a b i p u) 56 0 j q (known a j q) (known b j q)
          (subst (λ (l : List ℕ). Entry l 0 j q (known a j q) (known b j q)) (sym (place_behind R a b la lb i p u))
          (place_entry R a b la lb j q [] item small)) in
          entry_front left (length (compared a b)) 56 j q (known a j q) (known b j q) (omega arith)
          (subst (λ (l : List ℕ). Entry l 56 j q (known a j q) (known b j q)) (sym (front ∙ c)) later)

      -- "For every side that lacks, it returns the lowest item id, then lowest replica id, at which its tick is smaller, with both ticks"
      pub nothing_read : order a b ≡ 0 → length (compared a b) ≡ 0
      nothing_read o = ap length (finds.reported.alike o)

      pub behind_read : order a b ≡ 1
          → (length (compared a b) ≡ 56) × ((i : ℕ) × (p : ℕ) × Lowest a b i p × Entry left 0 i p (known a i p) (known b i p))
      behind_read o =
          let (i, p, f, c) = finds.reported.behind o in
          (ap length c ∙ place-length a b i p [], (i, p, f, read_first i p [] f.item f.replica c))

      pub ahead_read : order a b ≡ 2
          → (length (compared a b) ≡ 56) × ((i : ℕ) × (p : ℕ) × Lowest b a i p × Entry left 0 i p (known a i p) (known b i p))
      ahead_read o =
          let (i, p, f, c) = finds.reported.ahead o in
          (ap length c ∙ place-length a b i p [], (i, p, f, read_first i p [] f.item f.replica c))

      pub apart_read : order a b ≡ 3
          → (length (compared a b) ≡ 112) × ((i : ℕ) × (p : ℕ) × (j : ℕ) × (q : ℕ) × Lowest a b i p × Lowest b a j q
          × Entry left 0 i p (known a i p) (known b i p) × Entry left 56 j q (known a j q) (known b j q))
      apart_read o =
          let (i, p, j, q, f, g, c) = finds.reported.apart o in
          let u = put_place a b j q [] in (
            ap length c ∙ omega (arith, place-length a b i p u, place-length a b j q []),
            (i, p, j, q, f, g, read_first i p u f.item f.replica c, read_second i p j q g.item g.replica c),
          )

  -- "The relation carries over: behind and behind gives behind", as the call tells it, into any buffers with room
  pub carries_over : (s t u : List ℕ) (a b c : Knowledge) → Bytes s → Bytes t → Bytes u → parse R s ≡ accepted a → parse R t ≡ accepted b
      → parse R u ≡ accepted c → (m n k old : ℕ) → order_value R s t (Written m) old ≡ 1 → order_value R t u (Written n) old ≡ 1
      → order_value R s u (Written k) old ≡ 1
  carries_over s t u a b c x y z e f g m n k old o p =
      (C.found s u a c x z e g).value k old
      ∙ C.carries s t u a b c x y z e f g (sym ((C.found s t a b x y e f).value m old) ∙ o) (sym ((C.found t u b c y z f g).value n old) ∙ p)

-- ---- with document 01's limits, and no hypothesis left: the statement holds

pub behind_basic : (s t : List ℕ) (a b : Knowledge) → Bytes s → Bytes t → parse basic s ≡ accepted a → parse basic t ≡ accepted b → (old : ℕ)
    → (order a b ≡ 1) ↔ ((cover_value (cover_answer basic t s zeros top) old ≡ 1) × (cover_value (cover_answer basic s t zeros top) old ≡ 0))
behind_basic s t a b x y e f old = behind_exactly basic compares_basic s t a b x y e f answers_basic old

pub carries_basic : (s t u : List ℕ) (a b c : Knowledge) → Bytes s → Bytes t → Bytes u → parse basic s ≡ accepted a
    → parse basic t ≡ accepted b → parse basic u ≡ accepted c → (m n k old : ℕ) → order_value basic s t (Written m) old ≡ 1
    → order_value basic t u (Written n) old ≡ 1 → order_value basic s u (Written k) old ≡ 1
carries_basic = carries_over basic compares_basic
