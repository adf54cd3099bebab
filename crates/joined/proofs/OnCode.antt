-- Demand 3 on the running code, `demand3_on_code`. A program that keeps, for each replica, the bytes that the C functions last wrote, and
-- hands over batches as they were written (`Reached`), has after every list of calls the stores and batches of the list's own world
-- (`ends basic calls`). So what `Promise` says of these holds of the program's bytes: each replica knows and holds exactly what the plain
-- history machine says, two batches in either order end in the same bytes, one twice as once, and equal knowledge means equal tables.
--
-- It holds because each step is the list's: the contract of the C function says what the call writes in the program's own world, the number
-- tells the program whether it wrote, and so the program keeps just what the list keeps.
use Prim.Native.Nat.{ℕ}
use mathlib.Core.Path.{◌≡◌, refl, sym, ap, ◌∙◌, subst}
use mathlib.Core.Logic.{◌⊎◌, inl, inr}
use mathlib.Core.List.{List, [], ◌∷◌, ◌++◌}
use mathlib.Core.Option.{Option, none, some}
use native.Mathlib.Omega.{arith}
use lib.ListN.{length, take}
use Rattle.codec.specs.Number.{put}
use Rattle.codec.specs.Reply.{Reply, gives}
use Rattle.layout.specs.Knowledge.{basic, base, All}
use Rattle.ticks.proofs.Lists.{less, same, more, order}
use Rattle.replication.specs.Call.{ReplicaId, Call, edit, delete, make, apply, Given}
use Rattle.replication.specs.Calls.{new_reply, apply_reply}
use Rattle.replication.specs.Lists.{World, start, outcome, batch_number, apply_to, writes}
use Rattle.replication.specs.Promise.{ends, machine, IsStore, Agrees, Promise}
use Rattle.replication.specs.Runner.{Number, Writes, WritesNothing, one}
use Rattle.replication.proofs.Consumed.{either_exactly, twice_exactly, tables_exactly}
use Rattle.replication.proofs.Demand3.{begin, demand3_basic}
use Rattle.replication.proofs.Runner.{runner, outcome_exact, writes_exact, batch_exact_number}
use Rattle.replication.proofs.RunnerSettled.{SameWorld, same_writes, same_nothing, leaves_same}
use Rattle.joined.specs.Step.{Step}
use Rattle.joined.specs.Program.{Begun, Makes, Keeps, Reached, begun, called, passed}
use Rattle.joined.specs.OnCode.{Applied, OnCode}
use Rattle.joined.proofs.Steps.{zero_exactly, other_none, apply_wrote}

-- the calls that were made are given, and the program's bytes are those of the list
pub record Here (calls : List Call) (w : World) : Type 0 where
  pub given : All Given calls
  pub world : SameWorld w (ends basic calls)

given_more : (calls : List Call) (c : Call) → All Given calls → Given c → All Given (calls ++ one c)
given_more [] c g h = (h, tt)
given_more (x ∷ xs) c g h = (g.0, given_more xs c g.1 h)

pub zero_or : (n : ℕ) → (n ≡ 0) ⊎ (n ≡ 0 → ⊥)
zero_or n = elim (order n 0) [ less l ↦ absurd (omega arith) | same e ↦ inl e | more l ↦ inr (λ e. omega (arith, l, e)) ]

-- ---- one call

-- what the program was told is what the call writes in its own world
pub makes_step : (w : World) (c : Call) (number old written : ℕ) (out left : List ℕ) → Makes w c number old written out left
    → Step number old written out left (writes basic w c)
makes_step w (edit who item brought room) number old written out left m =
    subst (λ (n : ℕ). Step number old written out left (writes basic w (edit who item brought n))) m.0 (m.1.lists w who refl)
makes_step w (delete who item room) number old written out left m =
    subst (λ (n : ℕ). Step number old written out left (writes basic w (delete who item n))) m.0 (m.1.lists w who refl)
makes_step w (make who knowledge first last room) number old written out left m =
    subst (λ (n : ℕ). Step number old written out left (writes basic w (make who knowledge first last n))) m.0 (m.1.lists w who refl)
makes_step w (apply who which room) number old written out left m =
    subst (λ (n : ℕ). Step number old written out left (writes basic w (apply who which n))) m.0
    (m.1.1.1.lists w who which refl m.1.1.0)

nothing_none : (w : World) (c : Call) → writes basic w c ≡ none → WritesNothing basic w c
nothing_none w c o = record { nothing = λ bs x. clash bs (sym ((writes_exact basic w c bs).1 x) ∙ o) }
  where
    clash : (bs : List ℕ) → some bs ≡ none → ⊥
    clash bs e = let z : ◌≡◌ {A = ℕ} 0 1 = cc in absurd (omega arith)

module _ (calls : List Call) (w : World) (c : Call) (h : Here calls w) (g : Given c) where
  -- a call that writes nothing leaves the list's world, too
  idle_same : writes basic w c ≡ none → SameWorld w (ends basic (calls ++ one c))
  idle_same o =
      let n = same_nothing basic w (ends basic calls) h.world c g (nothing_none w c o) in
      subst (SameWorld w) (sym ((runner basic).refused calls c n)) h.world

  module _ (next : World) (number old written : ℕ) (out left : List ℕ) (m : Makes w c number old written out left) (k : Keeps c number written left w next) where
    wrote_same : number ≡ 0 → SameWorld next (ends basic (calls ++ one c))
    wrote_same e =
        let bs = take written left in
        let o : writes basic w c ≡ some bs =
        (zero_exactly number old written out left (writes basic w c) (makes_step w c number old written out left m)).0 e in
        let v : Writes basic (ends basic calls) c bs =
        same_writes basic w (ends basic calls) h.world c g bs ((writes_exact basic w c bs).0 o) in
        leaves_same c bs w (ends basic calls) next (ends basic (calls ++ one c)) h.world (k.taken e) ((runner basic).written calls c bs v)

    refused_same : (number ≡ 0 → ⊥) → SameWorld next (ends basic (calls ++ one c))
    refused_same e =
        let o = other_none number old written out left (writes basic w c) (makes_step w c number old written out left m) e in
        subst (λ (x : World). SameWorld x (ends basic (calls ++ one c))) (sym (k.same e)) (idle_same o)

    step_here : Here (calls ++ one c) next
    step_here = record {
      given = given_more calls c h.given g;
      world = elim (zero_or number) [ inl e ↦ wrote_same e | inr e ↦ refused_same e ];
    }

apply_none : (w : World) (who which room : ℕ) → batch_number which w.batches ≡ none → writes basic w (apply who which room) ≡ none
unfolding writes apply_to
apply_none w who which room e = ap (λ (o : Option (List ℕ)). apply_to base (w.stores who) o room) e

-- ---- the beginning

gave : (x y : List ℕ) (r : Reply) → r ≡ gives x → r ≡ gives y → x ≡ y
gave x y r e f = cc

begun_gives : (p : ℕ) (s : List ℕ) → Begun p s → new_reply (put 16 p []) ≡ gives s
begun_gives p s b =
    let reply = new_reply (put 16 p []) in
    let bs = take b.written b.left in
    let o = (zero_exactly b.number b.old b.written b.out b.left (outcome reply (length b.out)) b.called.lists).0 b.fine in
    ((outcome_exact reply (length b.out) bs).0 o).0 ∙ ap gives (sym b.taken)

-- and that is the store that a list begins with
pub begun_start : (p : ℕ) (s : List ℕ) → ReplicaId p → Begun p s → s ≡ start.stores p
begun_start p s small b = gave s (start.stores p) (new_reply (put 16 p [])) (begun_gives p s b) (begin p small)

start_here : (w : World) → ((p : ℕ) → ReplicaId p → Begun p (w.stores p)) → w.batches ≡ [] → Here [] w
start_here w b e = record {
  given = tt;
  world = record {
    stores = λ p small.
        gave (w.stores p) ((ends basic []).stores p) (new_reply (put 16 p [])) (begun_gives p (w.stores p) (b p small))
        ((runner basic).stores p small);
    batches = e ∙ sym (runner basic).batches;
  };
}

-- ---- every list

pub reached_here : (calls : List Call) (w : World) → Reached calls w → Here calls w
reached_here _ _ (begun w b e) = start_here w b e
reached_here _ _ (called calls w next c number old written out left r g m k) =
    step_here calls w c (reached_here calls w r) g next number old written out left m k
reached_here _ _ (passed calls w who which room r small e) =
    let h = reached_here calls w r in
    record {
      given = given_more calls (apply who which room) h.given small;
      world = idle_same calls w (apply who which room) h small (apply_none w who which room e);
    }

-- what apply wrote is what its reply gives
applied_gives : (s batch result : List ℕ) (a : Applied s batch result) → outcome (apply_reply base s batch) (length a.out) ≡ some result
applied_gives s batch result a =
    apply_wrote a.number a.old a.written a.out a.left s batch a.called a.fine ∙ ap some (sym a.taken)

-- the batches of the program, by their number in the list
number_there : (n : ℕ) (l k : List (List ℕ)) (a : List ℕ) → l ≡ k → batch_number n l ≡ some a → Number n k a
number_there n l k a e f = (batch_exact_number n k a).0 (ap (batch_number n) (sym e) ∙ f)

pub demand3_on_code : (calls : List Call) (w : World) → Reached calls w → OnCode calls w
demand3_on_code calls w r =
    let h = reached_here calls w r in
    let s = h.world.stores in
    let l : w.batches ≡ (ends basic calls).batches = h.world.batches in
    let P : Promise basic calls = demand3_basic calls h.given in
    record {
      stores = s;
      batches = l;
      agrees = λ p small. subst (λ (x : List ℕ). Agrees base x (machine basic calls) p) (sym (s p small)) (P.agrees p small);
      either_order = λ p m n a b u v x y small e f c d i j.
          either_exactly basic calls P p m n (length c.out) (length d.out) (length i.out) (length j.out) a b u v x y small
          (number_there m w.batches (ends basic calls).batches a l e) (number_there n w.batches (ends basic calls).batches b l f)
          (ap (λ (z : List ℕ). outcome (apply_reply base z a) (length c.out)) (sym (s p small)) ∙ applied_gives (w.stores p) a u c)
          (applied_gives u b x d)
          (ap (λ (z : List ℕ). outcome (apply_reply base z b) (length i.out)) (sym (s p small)) ∙ applied_gives (w.stores p) b v i)
          (applied_gives v a y j);
      twice = λ p n a x y small e c d.
          twice_exactly basic calls P p n (length c.out) (length d.out) a x y small
          (number_there n w.batches (ends basic calls).batches a l e)
          (ap (λ (z : List ℕ). outcome (apply_reply base z a) (length c.out)) (sym (s p small)) ∙ applied_gives (w.stores p) a x c)
          (applied_gives x a y d);
      equal_tables = λ p q a b small tiny x y v.
          tables_exactly basic calls P p q a b small tiny (subst (λ (z : List ℕ). IsStore base z a) (s p small) x)
          (subst (λ (z : List ℕ). IsStore base z b) (s q tiny) y) v;
    }
