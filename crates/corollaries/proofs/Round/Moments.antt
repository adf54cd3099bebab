-- What the machine knows and remembers from one moment of a list of calls to a later one. A replica without an edit, deletion or apply
-- meanwhile knows what it knew; no tick ever falls; batches join at the end, so that a batch keeps its number and what was remembered of
-- it; and an apply that is not refused takes the larger of two ticks. Each is shown for one call and then goes along the list.
use Prim.Native.Nat.{ℕ, suc, max, ◌≤◌}
use mathlib.Core.Path.{◌≡◌, refl, sym, ap, ◌∙◌, subst}
use mathlib.Core.Logic.{⊎_elim}
use mathlib.Core.List.{List, [], ◌∷◌, ◌++◌, append_assoc, append-nil}
use mathlib.Core.Option.{Option, none, some}
use native.Mathlib.Omega.{arith}
use lib.ListN.{length}
use Rattle.layout.specs.Knowledge.{Limits, Rules, All}
use Rattle.layout.specs.Permitted.{Permitted}
use Rattle.layout.proofs.Numbers.{all_front}
use Rattle.replication.specs.Record.{Rec}
use Rattle.replication.specs.Call.{Call, edit, delete, make, apply, Given}
use Rattle.replication.specs.Lists.{start}
use Rattle.replication.specs.Machine.{Remembered, State, value, remembered_at, live, dead, applies, acts}
use Rattle.replication.specs.Promise.{ends, machine}
use Rattle.replication.specs.Runner.{one, Writes, WritesNothing}
use Rattle.corollaries.specs.Round.{Still, Done, Sent}
use Rattle.replication.proofs.Machine.Laws.{Good, changes_grows}
use Rattle.replication.proofs.Machine.History.{applies_grows, good_trace}
use Rattle.replication.proofs.Machine.Steps.{numbered_mem, changes_elsewhere, changes_batches, taken_by, applies_elsewhere}
use Rattle.replication.proofs.Machine.Steps.{applies_batches, applies_inside}
use Rattle.replication.proofs.Agree.Invariant.{Paired}
use Rattle.replication.proofs.Demand3.{ends_follow}
use Rattle.replication.proofs.Runner.{writes_exact, runner, remembered_after}

-- ---- lists

pub all_behind : {A : Type 0} (P : A → Type 0) (xs ys : List A) → All P (xs ++ ys) → All P ys
all_behind P [] ys h = h
all_behind P (x ∷ xs) ys h = all_behind P xs ys h.1

pub all_append : {A : Type 0} (P : A → Type 0) (xs ys : List A) → All P xs → All P ys → All P (xs ++ ys)
all_append P [] ys g h = h
all_append P (x ∷ xs) ys g h = (g.0, all_append P xs ys g.1 h)

-- the first of some calls joins those before it
pub call_first : (a : List Call) (c : Call) (cs : List Call) → a ++ (c ∷ cs) ≡ (a ++ one c) ++ cs
call_first a c cs = sym (append_assoc a (one c) cs)

paired_length : (L : Limits) (vs : List Rec) (ss : List (List ℕ)) (ms : List Remembered) → Paired L vs ss ms → length ss ≡ length ms
paired_length L vs [] [] h = refl
paired_length L vs [] (m ∷ ms) h = absurd h
paired_length L vs (s ∷ ss) [] h = absurd h
paired_length L vs (s ∷ ss) (m ∷ ms) h = ap suc (paired_length L vs ss ms h.1)

-- ---- one call

-- one list of batches goes on where the other ends
abbrev More : State → State → Type 0
More m n = (bs : List Remembered) × (n.batches ≡ m.batches ++ bs)

no_more : (m n : State) → n.batches ≡ m.batches → More m n
no_more m n e = ([], e ∙ sym (append-nil m.batches))

apply_still : (p who : ℕ) (o : Option Remembered) (m : State) → (who ≡ p → ⊥) → (applies who o m).ticks p ≡ m.ticks p
apply_still p who none m n = unfold applies in refl
apply_still p who (some b) m n = applies_elsewhere who b m p n

apply_grows : (who n : ℕ) (m : State) → Good m → (o : Option Remembered) → remembered_at n m.batches ≡ o
    → (q i p : ℕ) → m.ticks q i p ≤ (applies who o m).ticks q i p
apply_grows who n m g none e q i p = unfold applies in omega arith
apply_grows who n m g (some b) e q i p = applies_grows who b m (numbered_mem n m.batches b e) g q i p

apply_batches : (who : ℕ) (o : Option Remembered) (m : State) → (applies who o m).batches ≡ m.batches
apply_batches who none m = unfold applies in refl
apply_batches who (some b) m = applies_batches who b m

acts_still : (p : ℕ) (c : Call) (m : State) → Still p c → (acts m c).ticks p ≡ m.ticks p
unfolding acts
acts_still p (edit who item b room) m s = changes_elsewhere (live b) who (value 0 item) m p s
acts_still p (delete who item room) m s = changes_elsewhere dead who (value 0 item) m p s
acts_still p (make who knowledge first last room) m s = refl
acts_still p (apply who which room) m s = apply_still p who (remembered_at which m.batches) m s

acts_grows : (c : Call) (m : State) → Given c → Good m → (q i p : ℕ) → m.ticks q i p ≤ (acts m c).ticks q i p
unfolding acts
acts_grows (edit who item b room) m h g q i p = changes_grows (live b) who (value 0 item) m h.0 g q i p
acts_grows (delete who item room) m h g q i p = changes_grows dead who (value 0 item) m h.0 g q i p
acts_grows (make who knowledge first last room) m h g q i p = omega arith
acts_grows (apply who which room) m h g q i p = apply_grows who which m g (remembered_at which m.batches) refl q i p

acts_more : (c : Call) (m : State) → More m (acts m c)
unfolding acts
acts_more (edit who item b room) m =
    no_more m (acts m (edit who item b room)) (changes_batches (live b) who (value 0 item) m)
acts_more (delete who item room) m = no_more m (acts m (delete who item room)) (changes_batches dead who (value 0 item) m)
acts_more (make who knowledge first last room) m = (taken_by who (value 0 first) (value 0 last) m ∷ [], refl)
acts_more (apply who which room) m =
    no_more m (acts m (apply who which room)) (apply_batches who (remembered_at which m.batches) m)

module _ (R : Rules) where
  pub done_acts : (a : List Call) (c : Call) → Done R a c → machine R (a ++ one c) ≡ acts (machine R a) c
  done_acts a c d = (runner R).acted a c d.0 ((writes_exact R (ends R a) c d.0).0 d.1)

  -- what holds of the machine as it was, and of the machine that acts, holds after a call
  one_call : (P : State → Type 0) (a : List Call) (c : Call) → P (machine R a) → P (acts (machine R a) c) → P (machine R (a ++ one c))
  one_call P a c was acted =
      ⊎_elim
      (λ (d : (bs : List ℕ) × Writes R (ends R a) c bs). subst P (sym ((runner R).acted a c d.0 d.1)) acted)
      (λ (n : WritesNothing R (ends R a) c). subst P (sym ((runner R).idle a c n)) was)
      ((runner R).decided a c)

  still_one : (p : ℕ) (a : List Call) (c : Call) → Still p c → (machine R (a ++ one c)).ticks p ≡ (machine R a).ticks p
  still_one p a c s = one_call (λ m. m.ticks p ≡ (machine R a).ticks p) a c refl (acts_still p c (machine R a) s)

  good : (a : List Call) → All Given a → Good (machine R a)
  unfolding machine
  good a h = good_trace R start a h

  grows_one : (a : List Call) (c : Call) → All Given a → Given c
      → (q i p : ℕ) → (machine R a).ticks q i p ≤ (machine R (a ++ one c)).ticks q i p
  grows_one a c ga gc q i p =
      one_call (λ m. (machine R a).ticks q i p ≤ m.ticks q i p) a c (omega arith) (acts_grows c (machine R a) gc (good a ga) q i p)

  more_one : (a : List Call) (c : Call) → More (machine R a) (machine R (a ++ one c))
  more_one a c = one_call (λ m. More (machine R a) m) a c (no_more (machine R a) (machine R a) refl) (acts_more c (machine R a))

  -- ---- many calls

  pub still_all : (p : ℕ) (cs a : List Call) → All (Still p) cs → (machine R (a ++ cs)).ticks p ≡ (machine R a).ticks p
  still_all p [] a s = ap (λ (l : List Call). (machine R l).ticks p) (append-nil a)
  still_all p (c ∷ cs) a s =
      ap (λ (l : List Call). (machine R l).ticks p) (call_first a c cs) ∙ (still_all p cs (a ++ one c) s.1 ∙ still_one p a c s.0)

  pub grows_all : (cs a : List Call) → All Given a → All Given cs
      → (q i p : ℕ) → (machine R a).ticks q i p ≤ (machine R (a ++ cs)).ticks q i p
  grows_all [] a ga gc q i p = omega (arith, ap (λ (l : List Call). (machine R l).ticks q i p) (append-nil a))
  grows_all (c ∷ cs) a ga gc q i p =
      omega (
        arith,
        ap (λ (l : List Call). (machine R l).ticks q i p) (call_first a c cs),
        grows_one a c ga gc.0 q i p,
        grows_all cs (a ++ one c) (all_append Given a (one c) ga (gc.0, tt)) gc.1 q i p,
      )

  more_all : (cs a : List Call) → More (machine R a) (machine R (a ++ cs))
  more_all [] a =
      no_more (machine R a) (machine R (a ++ [])) (ap (λ (l : List Call). (machine R l).batches) (append-nil a))
  more_all (c ∷ cs) a =
      let u = more_one a c in
      let v = more_all cs (a ++ one c) in (
        u.0 ++ v.0,
        ap (λ (l : List Call). (machine R l).batches) (call_first a c cs)
            ∙ (v.1 ∙ (ap (λ (l : List Remembered). l ++ v.0) u.1 ∙ append_assoc (machine R a).batches u.0 v.0)),
      )

  -- ---- a batch that was sent

  -- there are as many batches as the machine remembers
  pub batches-length : Permitted R.limits → (a : List Call) → All Given a → length (ends R a).batches ≡ length (machine R a).batches
  batches-length permitted a g =
      paired_length R.limits (machine R a).versions (ends R a).batches (machine R a).batches (ends_follow R permitted a g).batches

  -- what a make that is not refused remembers stands under its number, at once and ever after
  module _ (permitted : Permitted R.limits) (a : List Call) (who : ℕ) (knowledge first last : List ℕ) (room : ℕ) where
    pub made_remembered : All Given a → Done R a (make who knowledge first last room) → (cs : List Call)
        → remembered_at (length (ends R a).batches) (machine R ((a ++ one (make who knowledge first last room)) ++ cs)).batches
        ≡ some (taken_by who (value 0 first) (value 0 last) (machine R a))
    unfolding acts
    made_remembered g d cs =
        let c = make who knowledge first last room in
        let b = taken_by who (value 0 first) (value 0 last) (machine R a) in
        let bs = (machine R a).batches in
        let w = more_all cs (a ++ one c) in
        let made : (machine R (a ++ one c)).batches ≡ bs ++ (b ∷ []) = ap (λ (m : State). m.batches) (done_acts a c d) in
        let all : (machine R ((a ++ one c) ++ cs)).batches ≡ bs ++ (b ∷ w.0) =
        w.1 ∙ (ap (λ (l : List Remembered). l ++ w.0) made ∙ append_assoc bs (b ∷ []) w.0) in
        ap (λ (n : ℕ). remembered_at n (machine R ((a ++ one c) ++ cs)).batches) (batches-length permitted a g)
        ∙ (ap (remembered_at (length bs)) all ∙ remembered_after bs b w.0)

  module _ (before calls : List Call) (who n : ℕ) (s : Sent R before calls who n) where
    abbrev made : Call
    made = make who s.knowledge s.first s.last s.room

    -- the calls up to the make, and those after it
    pub sent_split : before ++ calls ≡ ((before ++ s.earlier) ++ one made) ++ s.later
    sent_split =
        ap (λ (x : List Call). before ++ x) s.is
        ∙ (sym (append_assoc before s.earlier (made ∷ s.later)) ∙ call_first (before ++ s.earlier) made s.later)

    pub sent_remembered : Permitted R.limits → All Given before → All Given calls
        → remembered_at n (machine R (before ++ calls)).batches
        ≡ some (taken_by who (value 0 s.first) (value 0 s.last) (machine R (before ++ s.earlier)))
    sent_remembered permitted gb gc =
        let g : All Given (before ++ s.earlier) =
        all_append Given before s.earlier gb (all_front Given s.earlier (made ∷ s.later) (subst (All Given) s.is gc)) in
        ap (λ (x : ℕ). remembered_at x (machine R (before ++ calls)).batches) (sym s.number)
        ∙ (ap (λ (l : List Call). remembered_at (length (ends R (before ++ s.earlier)).batches) (machine R l).batches) sent_split
        ∙ made_remembered permitted (before ++ s.earlier) who s.knowledge s.first s.last s.room g s.done s.later)

  -- ---- an apply that is not refused

  pub taken_in : (a : List Call) (who n room : ℕ) (b : Remembered) → Done R a (apply who n room)
      → remembered_at n (machine R a).batches ≡ some b → (i p : ℕ) → b.first ≤ i → i ≤ b.last
      → (machine R (a ++ one (apply who n room))).ticks who i p ≡ max ((machine R a).ticks who i p) (b.ticks i p)
  unfolding acts
  taken_in a who n room b d e i p l h =
      ap (λ (m : State). m.ticks who i p) (done_acts a (apply who n room) d)
      ∙ (ap (λ (o : Option Remembered). (applies who o (machine R a)).ticks who i p) e
      ∙ applies_inside who b (machine R a) who i p refl l h)
