-- `Runner` (specs/Runner.antt) settles what it speaks of: two worlds, machines and lists of what the machine was told that meet it are the
-- same after every list of given calls, for every replica id of 16 bytes. They begin alike, and one call more writes the same bytes in
-- both or nothing in both, and leaves the same. `ends`, `machine` and `trace` meet it, so nothing else does.
use Prim.Native.Nat.{ℕ, ◌<◌, ◌^◌}
use mathlib.Core.Path.{◌≡◌, sym, ap, ◌∙◌, subst, fun_ext}
use mathlib.Core.Logic.{inl, inr}
use mathlib.Core.Bool.{Bool}
use mathlib.Core.List.{List, [], ◌∷◌, ◌++◌, append_assoc, append-nil}
use native.Mathlib.Omega.{arith}
use Rattle.codec.specs.Number.{put}
use Rattle.codec.specs.Reply.{Reply, gives}
use Rattle.layout.specs.Knowledge.{Rules, All}
use Rattle.ticks.proofs.Lists.{less, same, more, order}
use Rattle.replication.specs.Call.{Call, edit, delete, make, apply, Given, Fed}
use Rattle.replication.specs.Calls.{new_reply, edit_reply, delete_reply, make_reply, apply_reply}
use Rattle.replication.specs.Lists.{World, start, trace}
use Rattle.replication.specs.Machine.{Ticks, Remembered, State, acts}
use Rattle.replication.specs.Promise.{ends, machine}
use Rattle.replication.specs.Record.{Rec}
use Rattle.replication.specs.Runner.{Number, Writes, WritesNothing, Stored, Leaves, Told, one, Runner}
use Rattle.replication.proofs.Runner.{runner}

-- the same bytes under every id of 16 bytes, and the same batches
pub record SameWorld (w v : World) : Type 0 where
  pub stores : (p : ℕ) → p < 256 ^ 16 → w.stores p ≡ v.stores p
  pub batches : w.batches ≡ v.batches

pub record SameRun (w v : World) (m n : State) (t u : List Fed) : Type 0 where
  pub world : SameWorld w v
  pub machine : m ≡ n
  pub told : t ≡ u

pub same_sym : (w v : World) → SameWorld w v → SameWorld v w
same_sym w v s = record { stores = λ p h. sym (s.stores p h); batches = sym s.batches }

state_same : (m n : State) → m.versions ≡ n.versions → ((p i q : ℕ) → m.ticks p i q ≡ n.ticks p i q) → m.batches ≡ n.batches
    → m ≡ n
state_same m n a b c =
    ap (λ (x : List Rec). record { versions = x; ticks = m.ticks; batches = m.batches }) a
    ∙ (ap (λ (x : ℕ → Ticks). record { versions = n.versions; ticks = x; batches = m.batches })
    (fun_ext (λ p. fun_ext (λ i. fun_ext (λ q. b p i q))))
    ∙ ap (λ (x : List Remembered). record { versions = n.versions; ticks = n.ticks; batches = x }) c)

fed_same : (x y : Fed) → x.call ≡ y.call → x.refused ≡ y.refused → x ≡ y
fed_same x y a b =
    ap (λ (c : Call). record { call = c; refused = x.refused }) a ∙ ap (λ (t : Bool). record { call = y.call; refused = t }) b

gave : (x y : List ℕ) (r : Reply) → r ≡ gives x → r ≡ gives y → x ≡ y
gave x y r e f = cc

module _ (R : Rules) where
  -- a call writes the same bytes in both worlds
  pub same_writes : (w v : World) → SameWorld w v → (c : Call) → Given c → (bs : List ℕ) → Writes R w c bs → Writes R v c bs
  same_writes w v s (edit who item b room) g bs h = record {
    reply = ap (λ (x : List ℕ). edit_reply R.limits x item b) (sym (s.stores who g.0)) ∙ h.reply;
    room = h.room;
  }
  same_writes w v s (delete who item room) g bs h = record {
    reply = ap (λ (x : List ℕ). delete_reply R.limits x item) (sym (s.stores who g.0)) ∙ h.reply;
    room = h.room;
  }
  same_writes w v s (make who knowledge first last room) g bs h = record {
    reply = ap (λ (x : List ℕ). make_reply R x knowledge first last) (sym (s.stores who g.0)) ∙ h.reply;
    room = h.room;
  }
  same_writes w v s (apply who which room) g bs h = record {
    reply = (
      h.reply.0,
      (
        subst (λ (l : List (List ℕ)). Number which l h.reply.0) s.batches h.reply.1.0,
        ap (λ (x : List ℕ). apply_reply R.limits x h.reply.0) (sym (s.stores who g)) ∙ h.reply.1.1,
      ),
    );
    room = h.room;
  }

  pub same_nothing : (w v : World) → SameWorld w v → (c : Call) → Given c → WritesNothing R w c → WritesNothing R v c
  same_nothing w v s c g h = record { nothing = λ bs x. h.nothing bs (same_writes v w (same_sym w v s) c g bs x) }

-- what it leaves is the same
pub stored_same : (who : ℕ) (bs : List ℕ) (w v a b : World) → SameWorld w v → Stored who bs w a → Stored who bs v b → SameWorld a b
stored_same who bs w v a b s x y = record {
  stores = λ q h. elim (order q who) [
    | less l ↦ x.others q (λ e. omega (arith, l, e)) ∙ (s.stores q h ∙ sym (y.others q (λ e. omega (arith, l, e))))
    | same e ↦ ap (λ (p : ℕ). a.stores p) e ∙ (x.own ∙ (sym y.own ∙ ap (λ (p : ℕ). b.stores p) (sym e)))
    | more l ↦ x.others q (λ e. omega (arith, l, e)) ∙ (s.stores q h ∙ sym (y.others q (λ e. omega (arith, l, e))))
  ];
  batches = x.batches ∙ (s.batches ∙ sym y.batches);
}

pub leaves_same : (c : Call) (bs : List ℕ) (w v a b : World) → SameWorld w v → Leaves c bs w a → Leaves c bs v b → SameWorld a b
leaves_same (edit who item brought room) bs w v a b s x y = stored_same who bs w v a b s x y
leaves_same (delete who item room) bs w v a b s x y = stored_same who bs w v a b s x y
leaves_same (apply who which room) bs w v a b s x y = stored_same who bs w v a b s x y
leaves_same (make who knowledge first last room) bs w v a b s x y = record {
  stores = λ q h. x.stores q ∙ (s.stores q h ∙ sym (y.stores q));
  batches = x.batches ∙ (ap (λ (l : List (List ℕ)). l ++ (bs ∷ [])) s.batches ∙ sym y.batches);
}

module _ (R : Rules) (w v : List Call → World) (m n : List Call → State) (t u : List Call → List Fed) (A : Runner R w m t) (B : Runner R v n u) where
  abbrev Same : List Call → Type 0
  Same calls = SameRun (w calls) (v calls) (m calls) (n calls) (t calls) (u calls)

  begins_same : Same []
  begins_same = record {
    world = record {
      stores = λ p h. gave ((w []).stores p) ((v []).stores p) (new_reply (put 16 p [])) (A.stores p h) (B.stores p h);
      batches = A.batches ∙ sym B.batches;
    };
    machine =
        state_same (m []) (n []) (A.versions ∙ sym B.versions) (λ p i q. A.ticks p i q ∙ sym (B.ticks p i q))
        (A.remembered ∙ sym B.remembered);
    told = A.untold ∙ sym B.untold;
  }

  module _ (calls : List Call) (c : Call) (g : Given c) (s : Same calls) where
    told_same : (x y : Fed) → Told R (w calls) c x → Told R (v calls) c y → x.refused ≡ y.refused
        → t (calls ++ one c) ≡ t calls ++ (x ∷ []) → u (calls ++ one c) ≡ u calls ++ (y ∷ []) → t (calls ++ one c) ≡ u (calls ++ one c)
    told_same x y h k r e f =
        e ∙ (ap (λ (l : List Fed). l ++ (x ∷ [])) s.told
        ∙ (ap (λ (z : Fed). u calls ++ (z ∷ [])) (fed_same x y (h.call ∙ sym k.call) r) ∙ sym f))

    wrote_same : (bs : List ℕ) → Writes R (w calls) c bs → Same (calls ++ one c)
    wrote_same bs h =
        let k = same_writes R (w calls) (v calls) s.world c g bs h in
        let x = A.told calls c in
        let y = B.told calls c in
        record {
          world =
              leaves_same c bs (w calls) (v calls) (w (calls ++ one c)) (v (calls ++ one c)) s.world (A.written calls c bs h)
              (B.written calls c bs k);
          machine = A.acted calls c bs h ∙ (ap (λ (z : State). acts z c) s.machine ∙ sym (B.acted calls c bs k));
          told =
              told_same x.0 y.0 x.1.0 y.1.0 (x.1.0.done.1 (bs, h) ∙ sym (y.1.0.done.1 (bs, k))) x.1.1
              y.1.1;
        }

    nothing_same : WritesNothing R (w calls) c → Same (calls ++ one c)
    nothing_same h =
        let k = same_nothing R (w calls) (v calls) s.world c g h in
        let x = A.told calls c in
        let y = B.told calls c in
        let a = A.refused calls c h in
        let b = B.refused calls c k in
        record {
          world = subst (λ (z : World). SameWorld z (v (calls ++ one c))) (sym a) (subst (SameWorld (w calls)) (sym b) s.world);
          machine = A.idle calls c h ∙ (s.machine ∙ sym (B.idle calls c k));
          told = told_same x.0 y.0 x.1.0 y.1.0 (x.1.0.refused.1 h ∙ sym (y.1.0.refused.1 k)) x.1.1 y.1.1;
        }

    more_same : Same (calls ++ one c)
    more_same = elim (A.decided calls c) [ inl x ↦ wrote_same x.0 x.1 | inr h ↦ nothing_same h ]

  after_same : (before calls : List Call) → All Given calls → Same before → Same (before ++ calls)
  after_same before [] g s = subst Same (sym (append-nil before)) s
  after_same before (c ∷ cs) g s =
      subst Same (append_assoc before (one c) cs) (after_same (before ++ one c) cs g.1 (more_same before c g.0 s))

  pub runner_settled : (calls : List Call) → All Given calls → Same calls
  runner_settled calls g = after_same [] calls g begins_same

-- whatever meets it is what the definitions compute
pub runner_only : (R : Rules) (w : List Call → World) (m : List Call → State) (t : List Call → List Fed) → Runner R w m t
    → (calls : List Call) → All Given calls → SameRun (w calls) (ends R calls) (m calls) (machine R calls) (t calls) (trace R start calls)
runner_only R w m t A calls g = runner_settled R w (ends R) m (machine R) t (trace R start) A (runner R) calls g
