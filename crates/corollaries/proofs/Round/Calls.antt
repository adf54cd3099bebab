-- The paper's round, written out for any number of districts, is a round where none of its calls is refused. A batch that a call of the
-- list makes has the number that the list gives it, since each make that is not refused adds one batch and an apply adds none. Districts
-- are distinct and none is the centre, so no call but its own apply is an edit, deletion or apply on it.
use Prim.Native.Nat.{ℕ, suc, ◌≤◌}
use mathlib.Core.Path.{◌≡◌, refl, sym, ap, ◌∙◌, subst}
use mathlib.Core.Logic.{inl, inr}
use mathlib.Core.List.{List, [], ◌∷◌, ◌++◌, append_assoc, append-nil}
use native.Mathlib.Nat.{add-zero}
use native.Mathlib.Omega.{arith}
use lib.ListN.{length, length-append}
use Rattle.codec.specs.Number.{be_at, put}
use Rattle.codec.proofs.Numbers.{put_be, put-length}
use Rattle.layout.specs.Knowledge.{Rules, All, Distinct}
use Rattle.ticks.specs.Meaning.{highest}
use Rattle.ticks.proofs.LawfulResults.{top_below}
use Rattle.replication.specs.Call.{Call, make, apply}
use Rattle.replication.specs.Machine.{value}
use Rattle.replication.specs.Promise.{ends}
use Rattle.replication.specs.Runner.{one}
use Rattle.corollaries.specs.Round.{Server, Still, Done, Sent, Delivered, Round}
use Rattle.corollaries.specs.RoundCalls.{Half, sends, gathers, spreads, AllDone}
use Rattle.replication.proofs.Machine.Supremum.{value_be}
use Rattle.replication.proofs.Runner.{writes_exact, runner}
use Rattle.corollaries.proofs.Round.Premises.{sent_there, delivered_there, round_from}

-- ---- all ids

pub id-length : (x : ℕ) → length (put 24 x []) ≡ 24
id-length x = put-length 24 x [] ∙ add-zero 24

id_put : (x : ℕ) → x ≤ highest → value 0 (put 24 x []) ≡ x
id_put x h =
    let s = put 24 x [] in
    value_be s ∙ (ap (λ (n : ℕ). be_at s n 0) (id-length x) ∙ put_be 24 x [] (top_below x h))

pub lowest_id : value 0 (put 24 0 []) ≡ 0
lowest_id = id_put 0 (omega arith)

pub highest_id : value 0 (put 24 highest []) ≡ highest
highest_id = id_put highest (omega arith)

-- ---- servers

-- what holds of all of them holds of each, and the other way round
pub of_server : (Q : ℕ → Type 0) (ds : List ℕ) → All Q ds → (d : ℕ) → Server d ds → Q d
of_server Q [] a d s = absurd s
of_server Q (x ∷ ds) a d (inl e) = subst Q (sym e) a.0
of_server Q (x ∷ ds) a d (inr s) = of_server Q ds a.1 d s

of_all : (Q : ℕ → Type 0) (ds : List ℕ) → ((d : ℕ) → Server d ds → Q d) → All Q ds
of_all Q [] f = tt
of_all Q (d ∷ ds) f = (f d (inl refl), of_all Q ds (λ e s. f e (inr s)))

-- ---- calls in front

module _ (R : Rules) (before front : List Call) where
  done_behind : (earlier : List Call) (c : Call) → Done R ((before ++ front) ++ earlier) c → Done R (before ++ (front ++ earlier)) c
  done_behind earlier c d = subst (λ (l : List Call). Done R l c) (append_assoc before front earlier) d

  sent_behind : (calls : List Call) (who n : ℕ) → Sent R (before ++ front) calls who n → Sent R before (front ++ calls) who n
  sent_behind calls who n s =
      let c = make who s.knowledge s.first s.last s.room in
      record {
        earlier = front ++ s.earlier;
        later = s.later;
        knowledge = s.knowledge;
        first = s.first;
        last = s.last;
        room = s.room;
        is = ap (λ (l : List Call). front ++ l) s.is ∙ sym (append_assoc front s.earlier (c ∷ s.later));
        done = done_behind s.earlier c s.done;
        number = ap (λ (l : List Call). length (ends R l).batches) (sym (append_assoc before front s.earlier)) ∙ s.number;
        lowest = s.lowest;
        top = s.top;
      }

  abbrev delivered_behind : (calls : List Call) (maker taker : ℕ) → Delivered R (before ++ front) calls maker taker
      → Delivered R before (front ++ calls) maker taker
  delivered_behind calls maker taker d =
      let c = apply taker d.number d.room in
      record {
        earlier = front ++ d.earlier;
        later = d.later;
        number = d.number;
        room = d.room;
        is = ap (λ (l : List Call). front ++ l) d.is ∙ sym (append_assoc front d.earlier (c ∷ d.later));
        done = done_behind d.earlier c d.done;
        sent = sent_behind d.earlier maker d.number d.sent;
      }

-- ---- one half

module _ (R : Rules) (maker taker : ℕ → ℕ) (h : Half) where
  abbrev pub making : ℕ → Call
  making d = make (maker d) (h.knowledge d) (put 24 0 []) (put 24 highest []) (h.make_room d)

  abbrev pub taking : ℕ → ℕ → Call
  taking d n = apply (taker d) n (h.apply_room d)

  -- a make and an apply, none refused: one batch more
  pub one_more : (before : List Call) (d n : ℕ) → length (ends R before).batches ≡ n → Done R before (making d)
      → Done R (before ++ one (making d)) (taking d n) → length (ends R ((before ++ one (making d)) ++ one (taking d n))).batches ≡ suc n
  one_more before d n e made taken =
      let a = before ++ one (making d) in
      let m = (runner R).written before (making d) made.0 ((writes_exact R (ends R before) (making d) made.0).0 made.1) in
      let t = (runner R).written a (taking d n) taken.0 ((writes_exact R (ends R a) (taking d n) taken.0).0 taken.1) in
      omega (
        arith,
        ap (λ (l : List (List ℕ)). length l) t.batches,
        ap (λ (l : List (List ℕ)). length l) m.batches,
        length-append (ends R before).batches (made.0 ∷ []),
        e,
      )

  sent_first : (d : ℕ) (before : List Call) (n : ℕ) → length (ends R before).batches ≡ n → Done R before (making d)
      → Sent R before (one (making d)) (maker d) n
  sent_first d before n e done =
      let same : before ++ [] ≡ before = append-nil before in
      sent_there R before [] [] (maker d) (h.knowledge d) (put 24 0 []) (put 24 highest []) (h.make_room d) n lowest_id highest_id
      (subst (λ (l : List Call). Done R l (making d)) (sym same) done) (ap (λ (l : List Call). length (ends R l).batches) same ∙ e)

  -- the first of them: the batch is made and applied at once
  abbrev sends_first : (d : ℕ) (ds : List ℕ) (before : List Call) (n : ℕ) → length (ends R before).batches ≡ n
      → AllDone R before (sends maker taker h n (d ∷ ds)) → Delivered R before (sends maker taker h n (d ∷ ds)) (maker d) (taker d)
  sends_first d ds before n e done =
      delivered_there R before (one (making d)) (sends maker taker h (suc n) ds) (maker d) (taker d) n (h.apply_room d)
      (sent_first d before n e done.0) done.1.0

  -- what holds of every make and of every apply for another district holds of every call but the apply for this one
  module _ (P : Call → Type 0) (d : ℕ) (makes : (e : ℕ) → P (making e)) (others : (e n : ℕ) → (e ≡ d → ⊥) → P (taking e n)) where
    all_others : (ds : List ℕ) (n : ℕ) → All (λ e. d ≡ e → ⊥) ds → All P (sends maker taker h n ds)
    all_others [] n a = tt
    all_others (e ∷ ds) n a = (makes e, (others e n (λ x. a.0 (sym x)), all_others ds (suc n) a.1))

    -- the batch for a district is made and applied
    pub sends_delivers : (ds : List ℕ) (before : List Call) (n : ℕ) → length (ends R before).batches ≡ n
        → AllDone R before (sends maker taker h n ds) → Distinct ds → Server d ds
        → (x : Delivered R before (sends maker taker h n ds) (maker d) (taker d)) × (All P x.earlier × All P x.later)
    sends_delivers [] before n e done distinct s = absurd s
    sends_delivers (c ∷ ds) before n e done distinct (inl same) =
        let apart : All (λ y. d ≡ y → ⊥) ds = subst (λ (x : ℕ). All (λ y. x ≡ y → ⊥) ds) (sym same) distinct.0 in
        subst
        (λ (x : ℕ).
        (y : Delivered R before (sends maker taker h n (c ∷ ds)) (maker x) (taker x)) × (All P y.earlier × All P y.later))
        (sym same) (sends_first c ds before n e done, ((makes c, tt), all_others ds (suc n) apart))
    sends_delivers (c ∷ ds) before n e done distinct (inr s) =
        let front = making c ∷ taking c n ∷ [] in
        let both : (before ++ one (making c)) ++ one (taking c n) ≡ before ++ front =
        append_assoc before (one (making c)) (one (taking c n)) in
        let w = sends_delivers ds (before ++ front) (suc n)
        (ap (λ (l : List Call). length (ends R l).batches) (sym both) ∙ one_more before c n e done.0 done.1.0)
        (subst (λ (l : List Call). AllDone R l (sends maker taker h (suc n) ds)) both done.1.1) distinct.1 s in (
          delivered_behind R before front (sends maker taker h (suc n) ds) (maker d) (taker d) w.0,
          ((makes c, (others c n (of_server (λ x. c ≡ x → ⊥) ds distinct.0 d s), w.1.0)), w.1.1),
        )

-- ---- the round

-- no call of a list of sends is an edit, deletion or apply on a server that is no taker
sends_still : (maker taker : ℕ → ℕ) (h : Half) (p n : ℕ) (ds : List ℕ) → All (λ d. taker d ≡ p → ⊥) ds
    → All (Still p) (sends maker taker h n ds)
sends_still maker taker h p n [] a = tt
sends_still maker taker h p n (d ∷ ds) a = (tt, (a.0, sends_still maker taker h p (suc n) ds a.1))

-- the two halves, with the numbers that the batches get
abbrev pub gather_calls : Rules → List Call → ℕ → List ℕ → Half → List Call
gather_calls R before centre ds into = gathers centre into (length (ends R before).batches) ds

abbrev pub spread_calls : Rules → List Call → ℕ → List ℕ → Half → List Call
spread_calls R half centre ds out = spreads centre out (length (ends R half).batches) ds

module _ (R : Rules) (before : List Call) (centre : ℕ) (ds : List ℕ) (into : Half) (distinct : Distinct (centre ∷ ds))
    (first : AllDone R before (gather_calls R before centre ds into)) where
  abbrev gather : List Call
  gather = gather_calls R before centre ds into

  apart : (d : ℕ) → Server d ds → centre ≡ d → ⊥
  apart d s = of_server (λ x. centre ≡ x → ⊥) ds distinct.0 d s

  pub brought : (d : ℕ) → Server d ds → Delivered R before gather d centre × All (Still d) gather
  brought d s = (
    (sends_delivers R (λ e. e) (λ e. centre) into (λ c. Unit {0}) d (λ e. tt) (λ e n other. tt) ds before
        (length (ends R before).batches) refl first distinct.1 s).0,
    sends_still (λ e. e) (λ e. centre) into d (length (ends R before).batches) ds
        (of_all (λ e. centre ≡ d → ⊥) ds (λ e t. apart d s)),
  )

  module _ (out : Half) (second : AllDone R (before ++ gather) (spread_calls R (before ++ gather) centre ds out)) where
    abbrev half : List Call
    half = before ++ gather

    abbrev spread : List Call
    spread = spread_calls R half centre ds out

    rest : All (Still centre) spread
    rest =
        sends_still (λ e. centre) (λ e. e) out centre (length (ends R half).batches) ds
        (of_all (λ e. e ≡ centre → ⊥) ds (λ e t x. apart e t (sym x)))

    taken : (d : ℕ) → Server d ds
        → (x : Delivered R half spread centre d) × (All (Still d) x.earlier × All (Still d) x.later)
    taken d s =
        sends_delivers R (λ e. centre) (λ e. e) out (Still d) d (λ e. tt) (λ e n other. other) ds half
        (length (ends R half).batches) refl second distinct.1 s

    pub calls_round : Round R before gather spread centre ds
    calls_round = round_from R before gather spread centre ds brought rest taken
