-- Comparing from what was opened on, by any rules that accept both knowledges. The place that is looked for from how far both are alike to
-- three full words is the first of all ids (`place_found`); it is written with the ticks that lookup finds there, one behind the other
-- (`lack_wrote`), and the second's behind the first's; and each way that the call goes has its three equations, of the answer, the buffer and the
-- order (`ends_first` to `ends_written`). Document 01's rules are those of its two numbers (`ends_basic`).
use Prim.Native.Nat.{ℕ, ◌+◌, ◌≤◌, ◌<◌}
use mathlib.Core.Path.{◌≡◌, refl, sym, ap, ap₂, ◌∙◌, subst}
use mathlib.Core.List.{List, []}
use native.Mathlib.Omega.{arith}
use lib.ListN.{length}
use Rattle.codec.specs.Number.{put}
use Rattle.codec.specs.Part.{placed, bytes}
use Rattle.codec.specs.Reply.{gives, refuses, answer}
use Rattle.codec.specs.Answer.{Answer, answer_of}
use Rattle.codec.specs.declared.Refusal.{Refusal}
use Rattle.codec.specs.declared.Refusal.TheVariants.{BufferTooShort}
use Rattle.codec.specs.Refusal.{number}
use Rattle.codec.specs.Answer as A
use Rattle.codec.specs.Words.{words3}
use Rattle.codec.specs.MethodWritten.{Wrote}
use Rattle.codec.specs.declared.Item.{Item}
use Rattle.codec.specs.Ids.{item_of, replica_of}
use Rattle.codec.proofs.Calls.{refused_answer, refused_after, short_answer, short_after, written_answer, written_after}
use Rattle.codec.proofs.Written.{wrote_then, wrote_to, wrote_by, wrote_all, wrote_number}
use Rattle.layout.specs.Knowledge.{Rules, basic, base, Knowledge}
use Rattle.layout.specs.Permitted.{rules_within}
use Rattle.layout.specs.Decode.{decode}
use Rattle.layout.specs.Parse.{parse}
use Rattle.layout.proofs.Within.{basic_within}
use Rattle.codec.specs.Parsed.{accepted}
use Rattle.ticks.specs.Meaning.{highest}
use Rattle.ticks.specs.Operations.{Lack, nowhere, here, lacking}
use Rattle.ticks.specs.Compare.{order_of, order, put_place, put_lack, compared, compare_reply, order_value}
use Rattle.ticks.proofs.Comparing.{place-length, compare_first, compare_second, compare_found, order_found, order_stays}
use Rattle.ticks.proofs.ForCode.{Refusing, refusing, reading}
use Rattle.ticks.proofs.LawfulResults.{highest_words}
use Rattle.lookup.specs.declared.Cursor.{Cursor}
use Rattle.lookup.specs.Method.{Opens, Open, tick_from}
use Rattle.lookup.proofs.Leaf.{opens_reading, leaf_known}
use Rattle.lacking.specs.declared.Lack as D
use Rattle.std.specs.Prelude.{Option, Some, None, Ok, Err}
use Rattle.lacking.specs.Method.{lacking_by, lack_of}
use Rattle.lacking.proofs.FirstLacking.{lacking_is}
use Rattle.compare.specs.Method.{Reached, size_of, Compared}

-- ---- the places

-- a full word
abbrev pub full : ℕ
full = 18446744073709551615

pub place_nowhere : (a b : Knowledge) (e : Option Item) → Reached a b e → e ≡ None → lack_of None ≡ lacking a b 0 highest
unfolding lack_of
place_nowhere a b e h f = sym (h.whole f)

module _ (s : List ℕ) (r : ℕ) (c : Cursor) (t : List ℕ) (m : ℕ) (d : Cursor) (e : Option Item) (h : Reached (decode s) (decode t) e) where
  pub place_found : (x : Option D.Lack) (i : Item) → lack_of x ≡ lacking_by s r c t m d (item_of i) (words3 full full full) → Open s r c
      → Open t m d → e ≡ Some i → lack_of x ≡ lacking (decode s) (decode t) 0 highest
  place_found x i g a b f =
      let w = h.from i f in
      g ∙ lacking_is s r c t m d (item_of i) (words3 full full full) a b (omega (arith, w.0, highest_words))
      ∙ ap (lacking (decode s) (decode t) (item_of i)) highest_words
      ∙ sym w.1

module _ (x y : Option D.Lack) where
  order_by : (v w : Option D.Lack) → x ≡ v → y ≡ w → order_of (lack_of v) (lack_of w) ≡ order_of (lack_of x) (lack_of y)
  order_by v w e f = ap₂ (λ (i j : Option D.Lack). order_of (lack_of i) (lack_of j)) (sym e) (sym f)

  pub order_alike : x ≡ None → y ≡ None → 0 ≡ order_of (lack_of x) (lack_of y)
  unfolding order_of lack_of
  order_alike e f = order_by None None e f

  pub order_behind : (l : D.Lack) → x ≡ Some l → y ≡ None → 1 ≡ order_of (lack_of x) (lack_of y)
  unfolding order_of lack_of
  order_behind l e f = order_by (Some l) None e f

  pub order_ahead : (l : D.Lack) → x ≡ None → y ≡ Some l → 2 ≡ order_of (lack_of x) (lack_of y)
  unfolding order_of lack_of
  order_ahead l e f = order_by None (Some l) e f

  pub order_apart : (k l : D.Lack) → x ≡ Some k → y ≡ Some l → 3 ≡ order_of (lack_of x) (lack_of y)
  unfolding order_of lack_of
  order_apart k l e f = order_by (Some k) (Some l) e f

pub size_none : (x : Option D.Lack) → x ≡ None → 0 ≡ size_of (lack_of x)
unfolding size_of lack_of
size_none x e = ap (λ (i : Option D.Lack). size_of (lack_of i)) (sym e)

pub size_some : (x : Option D.Lack) (l : D.Lack) → x ≡ Some l → 56 ≡ size_of (lack_of x)
unfolding size_of lack_of
size_some x l e = ap (λ (i : Option D.Lack). size_of (lack_of i)) (sym e)

size_most : (i : Lack) → size_of i ≤ 56
unfolding size_of
size_most nowhere = omega arith
size_most (here i p) = omega arith

pub size_small : (x : Option D.Lack) (k : ℕ) → k ≡ size_of (lack_of x) → k ≤ 56
size_small x k e = omega (arith, size_most (lack_of x))

-- ---- a place with both ticks

module _ (s : List ℕ) (r : ℕ) (c : Cursor) (t : List ℕ) (m : ℕ) (d : Cursor) (x : Option D.Lack) where
  -- what is written for a side
  abbrev side : List ℕ → List ℕ
  side = put_lack (decode s) (decode t) (lack_of x)

  pub lack_nothing : (out : List ℕ) (at : ℕ) → x ≡ None → Wrote out at side out (at + size_of (lack_of x))
  unfolding put_lack lack_of size_of
  lack_nothing out at e =
      subst (λ (y : Option D.Lack). Wrote out at (put_lack (decode s) (decode t) (lack_of y)) out (at + size_of (lack_of y))) (sym e)
      (record { same = refl; size = λ u. omega arith; is = λ u h. ap (λ (n : ℕ). placed out n u) (omega arith) })

  module _ (out : List ℕ) (at : ℕ) (l : D.Lack) (a b : ℕ) (e f g u : List ℕ) where
    abbrev i : ℕ
    i = item_of l.item

    abbrev p : ℕ
    p = replica_of l.replica

    -- an id, an id, a tick and a tick, one behind the other
    fields : e ≡ placed out at (bytes 24 i) → f ≡ placed e (at + 24) (bytes 16 p) → g ≡ placed f (at + 40) (bytes 8 a)
        → u ≡ placed g (at + 48) (bytes 8 b) → Wrote out at (λ z. put 24 i (put 16 p (put 8 a (put 8 b z)))) u (at + 56)
    fields h₁ h₂ h₃ h₄ =
        wrote_then (wrote_number out e at 24 i h₁)
        (wrote_then (wrote_to (omega arith) (wrote_number e f (at + 24) 16 p h₂))
        (wrote_then (wrote_to (omega arith) (wrote_number f g (at + 40) 8 a h₃))
        (wrote_to (omega arith) (wrote_number g u (at + 48) 8 b h₄))))

    pub lack_wrote : x ≡ Some l → Open s r c → Open t m d → a ≡ tick_from s r c i p → b ≡ tick_from t m d i p
        → e ≡ placed out at (bytes 24 i) → f ≡ placed e (at + 24) (bytes 16 p) → g ≡ placed f (at + 40) (bytes 8 a)
        → u ≡ placed g (at + 48) (bytes 8 b) → Wrote out at side u (at + size_of (lack_of x))
    unfolding put_lack put_place lack_of size_of
    lack_wrote is o q ea eb h₁ h₂ h₃ h₄ =
        subst (λ (y : Option D.Lack). Wrote out at (put_lack (decode s) (decode t) (lack_of y)) u (at + size_of (lack_of y))) (sym is)
        (wrote_by
        (λ (z : List ℕ).
        ap₂ (λ (j k : ℕ). put 24 i (put 16 p (put 8 j (put 8 k z))))
        (ea ∙ leaf_known o.rules s r c o.opens i p) (eb ∙ leaf_known q.rules t m d q.opens i p))
        (fields h₁ h₂ h₃ h₄))

-- ---- how the call ends

-- where the reply refuses, nothing changes
module _ (R : Rules) (s t out : List ℕ) (old : ℕ) where
  refused_whole : (e : Refusal) → compare_reply R s t ≡ refuses (number e) → Compared R s t out out old old (answer_of (Err e))
  unfolding answer_of
  refused_whole e h =
      let n = number e in
      let a = refused_answer (compare_reply R s t) out n h in
      record { is = a; buffer = refused_after (compare_reply R s t) out n h; order = sym (order_stays R s t _ n old (sym a)) }

  pub ends_first : (e : Refusal) → Refusing R s (number e) → Compared R s t out out old old (answer_of (Err e))
  ends_first e h = refused_whole e (compare_first R s t (number e) (refusing R s (number e) h))

  module _ (r : ℕ) (c : Cursor) (o : Opens R s r c) where
    read_first : parse R s ≡ accepted (decode s)
    read_first = reading R s r o.v o.e o.g (opens_reading R s r c o)

    pub ends_second : (e : Refusal) → Refusing R t (number e) → Compared R s t out out old old (answer_of (Err e))
    ends_second e h = refused_whole e (compare_second R s t (decode s) (number e) read_first (refusing R t (number e) h))

    module _ (m : ℕ) (d : Cursor) (q : Opens R t m d) (x y : Option D.Lack)
        (ex : lack_of x ≡ lacking (decode s) (decode t) 0 highest) (ey : lack_of y ≡ lacking (decode t) (decode s) 0 highest) where
      abbrev a : Knowledge
      a = decode s

      abbrev b : Knowledge
      b = decode t

      read_second : parse R t ≡ accepted b
      read_second = reading R t m q.v q.e q.g (opens_reading R t m d q)

      -- what is written, by the two places
      abbrev both : List ℕ
      both = put_lack a b (lack_of x) (put_lack a b (lack_of y) [])

      reply : compare_reply R s t ≡ gives both
      unfolding compared
      reply =
          compare_found R s t a b read_first read_second
          ∙ ap₂ (λ (i j : Lack). gives (put_lack a b i (put_lack a b j []))) (sym ex) (sym ey)

      lack-length : (i : Lack) (u : List ℕ) → length (put_lack a b i u) ≡ size_of i + length u
      unfolding put_lack size_of
      lack-length nowhere u = omega arith
      lack-length (here i p) u = place-length a b i p u

      both-length : length both ≡ size_of (lack_of x) + size_of (lack_of y)
      both-length = omega (arith, lack-length (lack_of x) (put_lack a b (lack_of y) []), lack-length (lack_of y) [])

      module _ (k l : ℕ) (ek : k ≡ size_of (lack_of x)) (el : l ≡ size_of (lack_of y)) where
        pub ends_short : length out < k + l → Compared R s t out out old old (answer_of (Err BufferTooShort))
        unfolding answer_of number
        ends_short h =
            let short : length out < length both = omega (arith, both-length) in
            let e = short_answer (compare_reply R s t) out both reply short in
            record {
              is = e;
              buffer = short_after (compare_reply R s t) out both reply short;
              order = sym (order_stays R s t _ 14 old (sym e));
            }

        module _ (u w : List ℕ) (n : ℕ) (first : Wrote out 0 (put_lack a b (lack_of x)) u (0 + size_of (lack_of x)))
            (second : Wrote u k (put_lack a b (lack_of y)) w (k + size_of (lack_of y))) (is : n ≡ order_of (lack_of x) (lack_of y)) where
          wrote : k + l ≤ length out → w ≡ placed out 0 both
          wrote h = wrote_all (wrote_then (wrote_to (omega arith) first) second) (omega arith)

          pub ends_written : k + l ≤ length out → Compared R s t out w old n (answer_of (Ok (k + l)))
          unfolding order order_value answer_of
          ends_written h =
              let size : length both ≡ k + l = omega (arith, both-length) in
              let room : length both ≤ length out = omega arith in
              let e : A.Written (k + l) ≡ answer (compare_reply R s t) (length out) =
              ap A.Written (sym size) ∙ written_answer (compare_reply R s t) out both reply room in
              record {
                is = e;
                buffer = written_after (compare_reply R s t) out both reply w room (wrote h);
                order = is ∙ ap₂ order_of ex ey ∙ sym (order_found R s t a b read_first read_second (k + l) old)
                    ∙ ap (λ (z : Answer). order_value R s t z old) e;
              }

pub ends_basic : (s t out left : List ℕ) (old new : ℕ) (a : Answer)
    → Compared (rules_within base.replicas base.ranges) s t out left old new a → Compared basic s t out left old new a
ends_basic s t out left old new a c = subst (λ (R : Rules). Compared R s t out left old new a) basic_within c
