-- A copy with the tick of a replica written over is the raised knowledge (`copy_raised`), where the bytes were opened, are in normal form, and
-- the replica has one tick, of 1 or more, for all items. It has as many replicas, vectors, elements and ranges as before: it is as long, and
-- within the limits that the bytes were opened under. This law is all that a caller needs to know of `copy_raised`.
use Prim.Native.Nat.{ℕ, ◌+◌, ◌-◌, ◌*◌, ◌≤◌, ◌<◌}
use mathlib.Core.Path.{◌≡◌, refl, sym, ap, ap₂, ◌∙◌, subst}
use mathlib.Core.Bool.{Bool, true, false}
use mathlib.Core.List.{List, [], ◌∷◌, ◌++◌}
use native.Mathlib.Omega.{arith}
use lib.Dec.{leb}
use lib.ListN.{length, drop}
use borrow.Author.Tests.{le-ltb, leb-true, leb-false}
use Rattle.codec.specs.Number.{be_at}
use Rattle.codec.specs.Part.{placed}
use Rattle.codec.specs.Total.{read_at}
use Rattle.codec.specs.Ids.{replica_of}
use Rattle.codec.specs.Parsed.{line}
use Rattle.codec.specs.Reply.{Reply, gives, refuses, first_fault}
use Rattle.codec.specs.MethodEnded.{Ended, End, end_of}
use Rattle.codec.specs.Answer.{Answer}
use Rattle.codec.specs.Answer.{Written}
use Rattle.codec.specs.declared.Replica.{Replica}
use Rattle.codec.proofs.Calls.{short_answer, short_after, written_answer, written_after}
use Rattle.codec.proofs.Replies.{fault_none}
use Rattle.codec.proofs.Total.{read_there}
use Rattle.codec.proofs.Writing.{placed_in}
use Rattle.layout.specs.Knowledge.{Rules, Element, Knowledge, encode}
use Rattle.layout.specs.Answer.{elements}
use Rattle.layout.specs.Decode.{vectors_at, after_vectors, decode}
use Rattle.layout.specs.MethodPlaces.{vectors_place, value_at}
use Rattle.layout.proofs.Exact.{exact}
use Rattle.layout.proofs.Forward.{encode-length}
use Rattle.layout.proofs.Places.{Reading, Places, places, counts, ids-length, vectors-length}
use Rattle.ticks.specs.Meaning.{place, Normal}
use Rattle.ticks.specs.Operations.{raise, too_many_replicas, too_many_ranges}
use Rattle.ticks.specs.Calls.{result_lines}
use Rattle.ticks.specs.MethodLookup.{key_of}
use Rattle.ticks.proofs.ForCode.{reading}
use Rattle.lookup.specs.declared.View.{View}
use Rattle.lookup.specs.Method.{key_at, Opens}
use Rattle.lookup.proofs.Leaf.{opens_reading, read_key, read_lawful}
use Rattle.results_copied.specs.MethodRaised.{ticks_set, knowledge_set, OneTick, vectors_written, all_written, copied_end}
use Rattle.results_copied.proofs.TickSet.{set-raise, length-set, vectors-nil, vectors-cons, vectors_count}
use Rattle.results_copied.proofs.Overwritten.{written_bytes}
use Rattle.results_copied.proofs.Loops.{copied_short}

-- as many elements as before, and as many bytes
elements-set : (key t : ℕ) (vs : List (List Element)) → elements (ticks_set key t vs) ≡ elements vs
unfolding elements
elements-set key t [] = ap elements (vectors-nil key t)
elements-set key t (es ∷ vs) =
    ap elements (vectors-cons key t es vs) ∙ ap₂ (λ m n. m + n) (length-set key t es) (elements-set key t vs)

set-length : (key t : ℕ) (k : Knowledge) → length (encode (knowledge_set key t k)) ≡ length (encode k)
unfolding knowledge_set
set-length key t k =
    encode-length (knowledge_set key t k)
    ∙ omega (arith, encode-length k, elements-set key t k.vectors, vectors_count key t k.vectors)

module _ (R : Rules) (s : List ℕ) (v : View) (o : Opens R s v.r v.start) where
  abbrev k : Knowledge
  k = decode s

  read : Reading R s v.r o.v o.e o.g
  read = opens_reading R s v.r v.start o

  at_places : Places R s v.r o.v o.e o.g
  at_places = places R s v.r o.v o.e o.g read

  whole : s ≡ encode k
  whole = ((exact R o.permitted s k o.bytes).0 (reading R s v.r o.v o.e o.g read)).0

  replicas : length k.replicas ≡ v.r
  replicas = (counts R s v.r o.v o.e o.g read).replicas

  first_count : be_at s 4 23 ≡ v.r
  unfolding decode
  first_count = sym (ids-length s (be_at s 4 23) 27) ∙ replicas

  -- the number of vectors stands before them
  vector_count_lem : read_at s 4 (vectors_place v.r - 4) ≡ o.v
  unfolding decode
  vector_count_lem =
      let e : vectors_place v.r - 4 ≡ 44 + 16 * v.r = omega arith in
      ap (read_at s 4) e
      ∙ read_there s 4 (44 + 16 * v.r) (omega (arith, at_places.whole))
      ∙ ap (λ n. be_at s 4 (44 + 16 * n)) (sym first_count)
      ∙ sym (vectors-length s (be_at s 4 (44 + 16 * be_at s 4 23)) (48 + 16 * be_at s 4 23))
      ∙ (counts R s v.r o.v o.e o.g read).vectors

  -- the key that is found is the replica's place in the map
  pub key_place : (p : ℕ) → (key_at s v.r p).0 ≡ place p k.replicas
  unfolding key_of
  key_place p = ap (λ x. x.0) (read_key R s v.r o.v o.e o.g read p)

  module _ (p : Replica) (old t : ℕ) (normal : Normal k) (one : OneTick k (replica_of p) old) (pos : 1 ≤ t) where
    abbrev key : ℕ
    key = place (replica_of p) k.replicas

    abbrev raised : Knowledge
    raised = raise (replica_of p) t k

    set : knowledge_set key t k ≡ raised
    set = sym (set-raise k (replica_of p) old t normal one pos)

    raised-length : length (encode raised) ≡ length s
    raised-length = ap (λ x. length (encode x)) (sym set) ∙ set-length key t k ∙ ap length (sym whole)

    -- neither 11 nor 12
    abbrev reply : Reply
    reply = first_fault refuses (result_lines R.limits raised) (gives (encode raised))

    given : reply ≡ gives (encode raised)
    unfolding result_lines too_many_replicas too_many_ranges knowledge_set
    given =
        fault_none refuses (line 11 (too_many_replicas R.limits raised) ∷ line 12 (too_many_ranges R.limits raised) ∷ [])
        (gives (encode raised)) (
          le-ltb R.limits.replicas (length raised.replicas)
              (omega (arith, ap (λ x. length x.replicas) set, replicas, at_places.replicas)),
          (
            le-ltb R.limits.ranges (length raised.ranges)
                (omega (
                  arith,
                  ap (λ x. length x.ranges) set,
                  (counts R s v.r o.v o.e o.g read).ranges,
                  at_places.ranges,
                )),
            tt,
          ),
        )

    module _ (out : List ℕ) where
      written : length s ≤ length out
          → all_written (key_at s v.r (replica_of p)).0 t s v.r (placed out 0 s) ≡ placed out 0 (encode raised)
      unfolding all_written value_at
      written h =
          let z = drop (0 + length s) out in
          let start : vectors_place (length k.replicas) ≡ vectors_place v.r = ap vectors_place replicas in
          let vectors : k.vectors ≡ vectors_at s o.v (vectors_place (length k.replicas)) =
          ap (λ x. x.vectors) at_places.value ∙ ap (vectors_at s o.v) (sym start) in
          ap₂ (λ j n. vectors_written j t s (placed out 0 s) n (vectors_place v.r)) (key_place (replica_of p)) vector_count_lem
          ∙ ap₂ (λ u a. vectors_written key t s u o.v a) (placed_in out 0 s (omega arith) ∙ ap (λ x. x ++ z) whole) (sym start)
          ∙ written_bytes key t s k o.v vectors
          (subst (λ a. after_vectors s o.v a ≤ length s) (sym start) (omega (arith, at_places.after_vectors, at_places.whole)))
          (read_lawful R s v.r o.v o.e o.g read).keys_once z
          ∙ ap₂ (λ x n. encode x ++ drop (0 + n) out) set (sym raised-length)
          ∙ sym (placed_in out 0 (encode raised) (omega (arith, raised-length)))

      abbrev Good : End → Type 0
      Good e = Ended reply out e.out e.answer

      ends : (b : Bool) → leb (length s) (length out) ≡ b → Good (copied_end s v p t out)
      unfolding copied_end
      ends true e =
          let h : length s ≤ length out = leb-true (length s) (length out) e in
          let l : length (encode raised) ≤ length out = omega (arith, raised-length) in
          rw (e, copied_end)
          (record {
            answers = ap Written (sym raised-length) ∙ written_answer reply out (encode raised) given l;
            leaves = written_after reply out (encode raised) given _ l (written h);
          })
      ends false e =
          let h : length out < length s = leb-false (length s) (length out) e in
          let l : length out < length (encode raised) = omega (arith, raised-length) in
          subst Good (copied_short s v p t out h)
          (record { answers = short_answer reply out (encode raised) given l; leaves = short_after reply out (encode raised) given l })

      pub copy_raised : (u : List ℕ) (a : Answer) → end_of u a ≡ copied_end s v p t out
          → Ended (first_fault refuses (result_lines R.limits (raise (replica_of p) t (decode s)))
          (gives (encode (raise (replica_of p) t (decode s))))) out u a
      copy_raised u a e = subst Good (sym e) (ends (leb (length s) (length out)) refl)
