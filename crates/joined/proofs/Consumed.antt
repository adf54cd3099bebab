-- What is said of the running code, taken from the statements alone. From the contracts (`NewStep` and so on): the number is the reply's own
-- for every refusal, 14 where the buffer is too short, and 0 where the bytes were written. From `OnCode`: two programs that made the same
-- calls keep the same bytes; its stores know and hold what the machine says; batches applied by it in either order, and one twice, end in
-- the same bytes; equal knowledge means equal tables. Each law has a statement as a hypothesis, not its proof, and speaks of any arguments,
-- so a statement that says less no longer gives it.
use Prim.Native.Nat.{ℕ, ◌≤◌, ◌<◌}
use mathlib.Core.Path.{◌≡◌, sym, ap, ◌∙◌, subst}
use mathlib.Core.List.{List, [], ◌++◌}
use mathlib.Core.Option.{Option, none, some}
use lib.ListN.{length, take, drop}
use Rattle.codec.specs.Number.{put}
use Rattle.codec.specs.Reply.{Reply, gives, refuses, answer, after, number_of, written_of}
use Rattle.codec.proofs.Replies.{number_fits, number_short, number_refused, after_fits, after_short}
use Rattle.layout.specs.Knowledge.{basic, base, Knowledge, All}
use Rattle.layout.proofs.Exact.{base_permitted}
use Rattle.ticks.specs.Meaning.{highest, known, contains}
use Rattle.ticks.proofs.Demand1.{refuses_after}
use Rattle.replication.specs.Call.{ReplicaId, brings, Call, apply, Given}
use Rattle.replication.specs.Calls.{new_reply, edit_reply, delete_reply, make_reply, apply_reply}
use Rattle.replication.specs.Formats.{Store, find}
use Rattle.replication.specs.Lists.{World, batch_number}
use Rattle.replication.specs.Machine.{greatest}
use Rattle.replication.specs.Promise.{machine, IsStore, Agrees}
use Rattle.replication.specs.Runner.{one, Leaves}
use Rattle.replication.proofs.Demand3.{store_one}
use Rattle.joined.specs.Step.{Called, NewStep, EditStep, DeleteStep, MakeStep, ApplyStep}
use Rattle.joined.specs.Program.{Makes, Keeps, Reached, begun, called, passed}
use Rattle.joined.specs.OnCode.{Applied, OnCode}
use Rattle.joined.proofs.OnCode.{demand3_on_code}
use Rattle.joined.proofs.Every.{reached_every}

-- ---- what a C function returned and left

-- by its reply: refused; written into a buffer that is too short; written
pub record TellsReply (reply : Reply) (number old written : ℕ) (out left : List ℕ) : Type 0 where
  pub refused : (n : ℕ) → reply ≡ refuses n → (number ≡ n) × ((written ≡ old) × (left ≡ out))
  pub short : (bs : List ℕ) → reply ≡ gives bs → length out < length bs → (number ≡ 14) × ((written ≡ old) × (left ≡ out))
  pub wrote : (bs : List ℕ) → reply ≡ gives bs → length bs ≤ length out
      → (number ≡ 0) × ((written ≡ length bs) × (left ≡ bs ++ drop (length bs) out))

tells : (reply : Reply) (number old written : ℕ) (out left : List ℕ) → Called reply number old written out left
    → TellsReply reply number old written out left
tells reply number old written out left c = record {
  refused = λ n e.
      let m = number_refused n (length out) old in
      (told_number e ∙ m.0, (told_written e ∙ m.1, told_buffer e ∙ refuses_after n out));
  short = λ bs e l.
      let m = number_short bs (length out) old l in
      (told_number e ∙ m.0, (told_written e ∙ m.1, told_buffer e ∙ after_short bs out l));
  wrote = λ bs e l.
      let m = number_fits bs (length out) old l in
      (told_number e ∙ m.0, (told_written e ∙ m.1, told_buffer e ∙ after_fits bs out l));
}
  where
    told_number : {x : Reply} → reply ≡ x → number ≡ number_of (answer x (length out))
    told_number e = c.returned ∙ ap (λ (r : Reply). number_of (answer r (length out))) e

    told_written : {x : Reply} → reply ≡ x → written ≡ written_of (answer x (length out)) old
    told_written e = c.told ∙ ap (λ (r : Reply). written_of (answer r (length out)) old) e

    told_buffer : {x : Reply} → reply ≡ x → left ≡ after x out
    told_buffer e = c.buffer ∙ ap (λ (r : Reply). after r out) e

module _ (number old written : ℕ) (out left : List ℕ) where
  pub new_tells : (own : List ℕ) → NewStep own number old written out left → TellsReply (new_reply own) number old written out left
  new_tells own s = tells (new_reply own) number old written out left s.equations

  pub edit_tells : (store item tag : List ℕ) → EditStep store item tag number old written out left
      → TellsReply (edit_reply base store item (brings tag)) number old written out left
  edit_tells store item tag s = tells (edit_reply base store item (brings tag)) number old written out left s.equations

  pub delete_tells : (store item : List ℕ) → DeleteStep store item number old written out left
      → TellsReply (delete_reply base store item) number old written out left
  delete_tells store item s = tells (delete_reply base store item) number old written out left s.equations

  pub make_tells : (store knowledge first last : List ℕ) → MakeStep store knowledge first last number old written out left
      → TellsReply (make_reply basic store knowledge first last) number old written out left
  make_tells store knowledge first last s =
      tells (make_reply basic store knowledge first last) number old written out left s.equations

  pub apply_tells : (store batch : List ℕ) → ApplyStep store batch number old written out left
      → TellsReply (apply_reply base store batch) number old written out left
  apply_tells store batch s = tells (apply_reply base store batch) number old written out left s.equations

-- ---- what a program does leads on: any call with any buffer, and any beginning

pub begins_with : (w : World) (number old written : ℕ → ℕ) (out left : ℕ → List ℕ)
    → ((p : ℕ) → ReplicaId p → NewStep (put 16 p []) (number p) (old p) (written p) (out p) (left p))
    → ((p : ℕ) → ReplicaId p → number p ≡ 0) → ((p : ℕ) → ReplicaId p → w.stores p ≡ take (written p) (left p)) → w.batches ≡ []
    → Reached [] w
begins_with w number old written out left c f t e =
    begun w (λ p small. record {
      number = number p;
      old = old p;
      written = written p;
      out = out p;
      left = left p;
      called = c p small;
      fine = f p small;
      taken = t p small;
    }) e

pub leads_on : (calls : List Call) (w next : World) (c : Call) (number old written : ℕ) (out left : List ℕ) → Reached calls w → Given c
    → Makes w c number old written out left → (number ≡ 0 → Leaves c (take written left) w next) → ((number ≡ 0 → ⊥) → next ≡ w)
    → Reached (calls ++ one c) next
leads_on calls w next c number old written out left r g m a b =
    called calls w next c number old written out left r g m (record { taken = a; same = b })

pub passes_on : (calls : List Call) (w : World) (who which room : ℕ) → Reached calls w → ReplicaId who
    → batch_number which w.batches ≡ none → Reached (calls ++ one (apply who which room)) w
passes_on = passed

-- ---- what a program keeps

-- the program applied batch n on replica p, and it was not refused
pub record Applies (p n : ℕ) (w next : World) : Type 0 where
  pub room : ℕ
  pub number : ℕ
  pub old : ℕ
  pub written : ℕ
  pub out : List ℕ
  pub left : List ℕ
  pub makes : Makes w (apply p n room) number old written out left
  pub fine : number ≡ 0
  pub keeps : Keeps (apply p n room) number written left w next

module _ (p n : ℕ) (w next : World) (a : Applies p n w next) where
  -- the batch that it handed over
  pub handed : List ℕ
  handed = a.makes.1.0

  pub handed_is : batch_number n w.batches ≡ some handed
  unfolding handed
  handed_is = a.makes.1.1.0

  pub then_batches : next.batches ≡ w.batches
  then_batches = (a.keeps.taken a.fine).batches

  pub then_stores : Applied (w.stores p) handed (next.stores p)
  unfolding handed
  then_stores = record {
    number = a.number;
    old = a.old;
    written = a.written;
    out = a.out;
    left = a.left;
    called = a.makes.1.1.1;
    fine = a.fine;
    taken = (a.keeps.taken a.fine).own;
  }

one_batch : (x y : List ℕ) (o : Option (List ℕ)) → o ≡ some x → o ≡ some y → x ≡ y
one_batch x y o e f = cc

-- a second apply gets the same batch as a first one would
handed_same : (p m n : ℕ) (w next last other : World) (a : Applies p m w next) (b : Applies p n next last) (c : Applies p n w other)
    → handed p n next last b ≡ handed p n w other c
handed_same p m n w next last other a b c =
    one_batch (handed p n next last b) (handed p n w other c) (batch_number n w.batches)
    (ap (batch_number n) (sym (then_batches p m w next a)) ∙ handed_is p n next last b) (handed_is p n w other c)

module _ (calls : List Call) (w : World) (C : OnCode calls w) where
  -- "each replica's knowledge contains exactly the versions that the plain history machine … gives it", and the record of each item
  agrees_told : (p : ℕ) → ReplicaId p → Agrees base (w.stores p) (machine basic calls) p
  agrees_told p small = C.agrees p small

  module _ (p : ℕ) (small : ReplicaId p) (st : Store) (is : IsStore base (w.stores p) st) where
    agreed : (agrees_told p small).store ≡ st
    agreed = store_one base (w.stores p) (agrees_told p small).store st base_permitted (agrees_told p small).is is

    pub known_kept : (i q : ℕ) → i ≤ highest → ReplicaId q → known st.knowledge i q ≡ (machine basic calls).ticks p i q
    known_kept i q h l = ap (λ (x : Store). known x.knowledge i q) (sym agreed) ∙ (agrees_told p small).ticks i q h l

    pub records_kept : (i : ℕ) → i ≤ highest
        → find i st.records ≡ greatest (machine basic calls).versions ((machine basic calls).ticks p) i
    records_kept i h = ap (λ (x : Store). find i x.records) (sym agreed) ∙ (agrees_told p small).records i h

  -- "applying two batches of that list in either order ends in the same store bytes"
  pub either_kept : (p m n : ℕ) (u x v y : World) → ReplicaId p → Applies p m w u → Applies p n u x → Applies p n w v → Applies p m v y
      → x.stores p ≡ y.stores p
  either_kept p m n u x v y small a b c d =
      C.either_order p m n (handed p m w u a) (handed p n w v c) (u.stores p) (v.stores p) (x.stores p) (y.stores p) small
      (handed_is p m w u a) (handed_is p n w v c) (then_stores p m w u a)
      (subst (λ (z : List ℕ). Applied (u.stores p) z (x.stores p)) (handed_same p m n w u x v a b c) (then_stores p n u x b))
      (then_stores p n w v c)
      (subst (λ (z : List ℕ). Applied (v.stores p) z (y.stores p)) (handed_same p n m w v y u c d a) (then_stores p m v y d))

  -- "and one batch twice as once"
  pub twice_kept : (p n : ℕ) (u x : World) → ReplicaId p → Applies p n w u → Applies p n u x → u.stores p ≡ x.stores p
  twice_kept p n u x small a b =
      C.twice p n (handed p n w u a) (u.stores p) (x.stores p) small (handed_is p n w u a) (then_stores p n w u a)
      (subst (λ (z : List ℕ). Applied (u.stores p) z (x.stores p)) (handed_same p n n w u x u a b a) (then_stores p n u x b))

  -- "Two replicas with equal knowledge so hold equal tables"
  pub tables_kept : (p q : ℕ) (a b : Store) → ReplicaId p → ReplicaId q → IsStore base (w.stores p) a → IsStore base (w.stores q) b
      → a.knowledge ≡ b.knowledge → a.records ≡ b.records
  tables_kept p q a b small tiny x y e =
      C.equal_tables p q a b small tiny x y (record { both = λ i r t h l. ap (λ (k : Knowledge). contains k i r t) e })

-- two programs that made the same calls, with whatever buffers, keep the same bytes
pub programs_same : (calls : List Call) (w v : World) → OnCode calls w → OnCode calls v
    → ((p : ℕ) → ReplicaId p → w.stores p ≡ v.stores p) × (w.batches ≡ v.batches)
programs_same calls w v C D = ((λ p small. C.stores p small ∙ sym (D.stores p small)), C.batches ∙ sym D.batches)

-- for every list of calls there is a program that made it, and the statement holds of what it keeps: no hypothesis is left
pub every_list : (calls : List Call) → All Given calls → (w : World) × (Reached calls w × OnCode calls w)
every_list calls g =
    let r = reached_every calls g in
    (r.0, (r.1, demand3_on_code calls r.0 r.1))
