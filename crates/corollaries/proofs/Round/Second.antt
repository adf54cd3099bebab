-- Where the first half of the paper's round went through, the second does: each make of the centre is given what its district knows after
-- the first half, so it is not refused (`make_never_refused`), and the district's apply comes to what the centre has already
-- (`second_half`). It goes along the districts; on the way no call but its own apply changes a district, and none changes the centre. So
-- of "no call refused" the first half is all that need be asked, where the buffers are long enough.
use Prim.Native.Nat.{ℕ, suc, ◌≤◌}
use mathlib.Core.Path.{◌≡◌, refl, sym, ap, ◌∙◌, subst}
use mathlib.Core.Logic.{inl, inr}
use mathlib.Core.List.{List, [], ◌∷◌, ◌++◌, append_assoc, append-nil}
use mathlib.Core.Option.{some}
use native.Mathlib.Omega.{arith}
use lib.ListN.{length}
use Rattle.codec.specs.Number.{Bytes, put}
use Rattle.codec.proofs.Numbers.{put_bytes}
use Rattle.layout.specs.Knowledge.{Rules, All, Distinct, Lawful, encode}
use Rattle.layout.specs.Permitted.{Permitted}
use Rattle.layout.proofs.Forward.{encode_bytes}
use Rattle.ticks.specs.Meaning.{highest}
use Rattle.replication.specs.Call.{ReplicaId, Call, Given}
use Rattle.replication.specs.Formats.{Store}
use Rattle.corollaries.specs.Room.{longest_store, longest_batch}
use Rattle.replication.specs.Lists.{batch_number}
use Rattle.replication.specs.Calls.{make_reply}
use Rattle.replication.specs.Promise.{ends, store_after, batch_of, IsStore}
use Rattle.replication.specs.Runner.{one, Writes}
use Rattle.corollaries.specs.Round.{Server, Still, Done, Sent, Round}
use Rattle.corollaries.specs.RoundCalls.{Half, sends, AllDone}
use Rattle.replication.proofs.Bytes.Part.{no_bytes}
use Rattle.replication.proofs.Runner.{batch_after_lem, batch_exact_number, runner}
use Rattle.corollaries.proofs.Round.Moments.{all_append}
use Rattle.corollaries.proofs.Round.Premises.{done_writes, sent_there}
use Rattle.corollaries.proofs.Round.Calls.{of_server, id-length, lowest_id, highest_id, making, taking, one_more}
use Rattle.corollaries.proofs.Round.Calls.{gather_calls, spread_calls, brought, calls_round}
use Rattle.corollaries.proofs.Round.Refused.{make_never_refused, second_half}

-- a buffer for the longest batch, and one for the longest store
pub record Roomy (R : Rules) (h : Half) (d : ℕ) : Type 0 where
  pub batch : longest_batch R.limits ≤ h.make_room d
  pub store : longest_store R.limits ≤ h.apply_room d

-- the half's batch for district d is made for what d knows after these calls, a knowledge that the rules accept
pub record ForDistrict (R : Rules) (calls : List Call) (h : Half) (d : ℕ) : Type 0 where
  pub store : Store
  pub is : IsStore R.limits (store_after R calls d) store
  pub accepted : Lawful R store.knowledge
  pub knowledge : h.knowledge d ≡ encode store.knowledge

module _ (R : Rules) (permitted : Permitted R.limits) (before : List Call) (centre : ℕ) (ds : List ℕ) (into out : Half)
    (distinct : Distinct (centre ∷ ds)) (first : AllDone R before (gather_calls R before centre ds into)) (gb : All Given before)
    (gg : All Given (gather_calls R before centre ds into)) (sc : ReplicaId centre) (small : (d : ℕ) → Server d ds → ReplicaId d)
    (for : (d : ℕ) → Server d ds → ForDistrict R (before ++ gather_calls R before centre ds into) out d)
    (roomy : (d : ℕ) → Server d ds → Roomy R out d) where
  abbrev gather : List Call
  gather = gather_calls R before centre ds into

  abbrev half : List Call
  half = before ++ gather

  given_half : All Given half
  given_half = all_append Given before gather gb gg

  -- the calls for one district
  abbrev makes : ℕ → Call
  makes d = making R (λ e. centre) (λ e. e) out d

  abbrev takes : ℕ → ℕ → Call
  takes d n = taking R (λ e. centre) (λ e. e) out d n

  -- one district, after the calls of those before it
  module _ (d : ℕ) (s : Server d ds) (earlier : List Call) (n : ℕ) (ge : All Given earlier) (rests : All (Still centre) earlier)
      (quiet : All (Still d) earlier) (number : length (ends R (half ++ earlier)).batches ≡ n) where
    pub makes_given : Given (makes d)
    makes_given = (
      sc,
      (
        subst Bytes (sym (for d s).knowledge) (encode_bytes (for d s).store.knowledge),
        (put_bytes 24 0 [] no_bytes, put_bytes 24 highest [] no_bytes),
      ),
    )

    made : (bs : List ℕ) × Writes R (ends R (half ++ earlier)) (makes d) bs
    made =
        let f = for d s in
        let w = make_never_refused R permitted (half ++ earlier) (all_append Given half earlier given_half ge) centre sc
        (store_after R half d) f.store f.is f.accepted (put 24 0 []) (put 24 highest []) (put_bytes 24 highest [] no_bytes)
        (id-length 0) (id-length highest) lowest_id highest_id in (
          w.0,
          record {
            reply =
                ap (λ (k : List ℕ). make_reply R (store_after R (half ++ earlier) centre) k (put 24 0 []) (put 24 highest [])) f.knowledge
                ∙ w.1.0;
            room = omega (arith, w.1.1, (roomy d s).batch);
          },
        )

    pub made_done : Done R (half ++ earlier) (makes d)
    made_done = done_writes R (half ++ earlier) (makes d) made.0 made.1

    -- with the make
    abbrev through : List Call
    through = earlier ++ one (makes d)

    both : half ++ through ≡ (half ++ earlier) ++ one (makes d)
    both = sym (append_assoc half earlier (one (makes d)))

    abbrev sent : Sent R half through centre n
    sent =
        sent_there R half earlier [] centre (out.knowledge d) (put 24 0 []) (put 24 highest []) (out.make_room d) n lowest_id highest_id
        made_done number

    batch : batch_of R (half ++ through) n ≡ some made.0
    batch =
        let old = (ends R (half ++ earlier)).batches in
        let j = (runner R).written (half ++ earlier) (makes d) made.0 made.1 in
        ap (λ (l : List Call). batch_of R l n) both
        ∙ (ap (batch_number n) j.batches
        ∙ (ap (λ (x : ℕ). batch_number x (old ++ (made.0 ∷ []))) (sym number) ∙ batch_after_lem old made.0 []))

    through_given : All Given through
    through_given = all_append Given earlier (one (makes d)) ge (makes_given, tt)

    pub taken_done : Done R ((half ++ earlier) ++ one (makes d)) (takes d n)
    taken_done =
        let f = for d s in
        let b = brought R before centre ds into distinct first d s in
        let w = second_half R permitted before gather through gb gg through_given centre d n sc (small d s) b.0 b.1
        (all_append (Still centre) earlier (one (makes d)) rests (tt, tt)) (all_append (Still d) earlier (one (makes d)) quiet (tt, tt))
        sent half earlier refl f.store f.is f.knowledge made.0 batch in
        subst (λ (l : List Call). Done R l (takes d n)) both
        (done_writes R (half ++ through) (takes d n) w.0
        (record {
          reply = (made.0, ((batch_exact_number n (ends R (half ++ through)).batches made.0).0 batch, w.1.0));
          room = omega (arith, w.1.1, (roomy d s).store);
        }))

  -- the districts one after the other
  rest_done : (es : List ℕ) (earlier : List Call) (n : ℕ) → ((d : ℕ) → Server d es → Server d ds) → Distinct es → All Given earlier
      → All (Still centre) earlier → ((d : ℕ) → Server d es → All (Still d) earlier) → length (ends R (half ++ earlier)).batches ≡ n
      → AllDone R (half ++ earlier) (sends (λ d. centre) (λ d. d) out n es)
  rest_done [] earlier n of apart ge rests quiet number = tt
  rest_done (d ∷ es) earlier n of apart ge rests quiet number =
      let here = of d (inl refl) in
      let q = quiet d (inl refl) in
      let pair = makes d ∷ takes d n ∷ [] in
      let other : d ≡ centre → ⊥ = λ x. of_server (λ y. centre ≡ y → ⊥) ds distinct.0 d here (sym x) in
      let made = made_done d here earlier n ge rests q number in
      let taken = taken_done d here earlier n ge rests q number in
      let both : half ++ (earlier ++ pair) ≡ ((half ++ earlier) ++ one (makes d)) ++ one (takes d n) =
      sym (append_assoc half earlier pair) ∙ sym (append_assoc (half ++ earlier) (one (makes d)) (one (takes d n))) in (
        made,
        (
          taken,
          subst (λ (l : List Call). AllDone R l (sends (λ e. centre) (λ e. e) out (suc n) es)) both
              (rest_done es (earlier ++ pair) (suc n) (λ e t. of e (inr t)) apart.1
              (all_append Given earlier pair ge (makes_given d here earlier n ge rests q number, (small d here, tt)))
              (all_append (Still centre) earlier pair rests (tt, (other, tt)))
              (λ e t. all_append (Still e) earlier pair (quiet e (inr t)) (tt, (of_server (λ y. d ≡ y → ⊥) es apart.0 e t, tt)))
              (ap (λ (l : List Call). length (ends R l).batches) both
              ∙ one_more R (λ e. centre) (λ e. e) out (half ++ earlier) d n number made taken)),
        ),
      )

  -- the second half goes through
  pub spread_done : AllDone R half (spread_calls R half centre ds out)
  spread_done =
      subst (λ (l : List Call). AllDone R l (spread_calls R half centre ds out)) (append-nil half)
      (rest_done ds [] (length (ends R half).batches) (λ d s. s) distinct.1 tt tt (λ d s. tt)
      (ap (λ (l : List Call). length (ends R l).batches) (append-nil half)))

  -- so both are a round
  pub round_done : Round R before gather (spread_calls R half centre ds out) centre ds
  round_done = calls_round R before centre ds into distinct first out spread_done
