-- What contain and lead return, one law for each way that a call goes. Accepted bytes are opened with their own sizes, which
-- are far below 2^32 (`opens`; for limits given as numbers `opens_within`); the tick that lookup finds from there is the known
-- one (`tick_known`), and so the answer is the definition's. Known ticks are below 2^63, so their difference is exact.
-- Document 01's rules are those of its two numbers (`contain_basic`, `lead_basic`).
use Prim.Native.Nat.{ℕ, ◌≤◌, ◌<◌, ◌^◌}
use mathlib.Core.Path.{◌≡◌, refl, sym, ap, ap₂, ◌∙◌, subst}
use mathlib.Core.List.{List}
use native.Mathlib.Omega.{arith}
use lib.IntN.{ℤ, pos, ◌-ℤ◌}
use lib.ListN.{length}
use lib.Signed.{mag}
use mir.Syntax.{w64}
use mir.Val.{SFits, to_z, of_z}
use mir.Facts.{to_z_pos, to_z-of_z}
use Rattle.codec.specs.Number.{Bytes, be_at}
use Rattle.codec.specs.declared.Item.{Item}
use Rattle.codec.specs.declared.Replica.{Replica}
use Rattle.codec.specs.Ids.{item_of, replica_of, item_read, replica_read}
use Rattle.codec.proofs.Ids.{item_there, replica_there}
use Rattle.std.proofs.Common.{Result, Ok, Err, Bool, true, false, nat_lt, leb, leb-true, leb-false}
use borrow.Author.Tests.{le-ltb}
use Rattle.codec.specs.declared.Refusal.{Refusal}
use Rattle.codec.specs.Refusal.{number}
use Rattle.layout.specs.declared.Counts.{Counts}
use Rattle.layout.specs.Checked.{Checked, checked_of}
use Rattle.layout.specs.Checked as A
use Rattle.layout.specs.Knowledge.{Rules, basic, base}
use Rattle.layout.specs.Permitted.{Permitted, rules_within}
use Rattle.layout.specs.Decode.{decode}
use Rattle.layout.specs.MethodPlaces.{vectors_place, ranges_place}
use Rattle.layout.specs.Parse.{checked_by}
use Rattle.layout.proofs.Places.{Reading, places}
use Rattle.layout.proofs.Within.{within_permitted, basic_within, few_replicas}
use Rattle.ticks.specs.Meaning.{known, contains}
use Rattle.ticks.specs.MethodLookup.{first_index}
use Rattle.ticks.specs.Contain.{Contain, contain_of}
use Rattle.ticks.specs.Lead.{Lead, lead_given}
use Rattle.ticks.specs.Lead as D
use Rattle.ticks.specs.Calls.{contain_found, contain_answer, lead_answer}
use Rattle.ticks.proofs.Lists.{less, same, more, order}
use Rattle.ticks.proofs.Answers.{sub-ahead, sub-behind}
use Rattle.ticks.proofs.ForCode.{Refusing, contain_refuses, contain_wrong, contain_answers, found_yes, found-zero, found_later}
use Rattle.ticks.proofs.ForCode.{lead_refuses_first, lead_refuses_second, lead_wrong, lead_answers}
use Rattle.lookup.specs.declared.Cursor.{Cursor}
use Rattle.lookup.specs.declared.View.{View}
use Rattle.lookup.specs.Opened.{opened_of}
use Rattle.lookup.specs.Opened as O
use Rattle.lookup.specs.Method.{start_at, tick_from, in_four, view, open_of, checked_under, opened_under, Opens, Open, Known, Ticked}
use Rattle.lookup.proofs.Loops.{cursor}
use Rattle.lookup.proofs.Leaf.{opens_reading, leaf_known, known_small}

-- Opening

pub start_is : (r v e g : ℕ) → cursor g (ranges_place r v e) first_index (vectors_place r) ≡ start_at r v e g
unfolding start_at
start_is r v e g = refl

-- an accepted knowledge is opened with the counts that the check gives, and the check's refusal is handed on
pub opened_at : (k : Checked) (r v e g : ℕ) (c : Cursor) → k ≡ A.Accepted r v e g
    → c ≡ start_at (in_four r) (in_four v) (in_four e) (in_four g) → O.At (view (in_four r) c) ≡ open_of k
unfolding open_of
opened_at k r v e g c is from = ap (λ (d : Cursor). O.At (view (in_four r) d)) from ∙ sym (ap open_of is)

pub opened_refused : (c : Checked) (n : ℕ) → c ≡ A.Refused n → O.Refused n ≡ open_of c
unfolding open_of
opened_refused c n is = sym (ap open_of is)

-- what was refused was refused by the check
pub check_refused : (k : Checked) (n : ℕ) → open_of k ≡ O.Refused n → k ≡ A.Refused n
unfolding open_of
check_refused (A.Accepted r v e g) n f = absurd (let z : ◌≡◌ {A = ℕ} 0 1 = cc in omega arith)
check_refused (A.Refused m) n f = cc

-- what the code finds, as an answer
pub opened_view : (v : View) → opened_of (Ok v) ≡ O.At v
unfolding opened_of
opened_view v = refl

pub opened_refusal : (e : Refusal) → opened_of (Err e) ≡ O.Refused (number e)
unfolding opened_of
opened_refusal e = refl

-- the same of what the check finds, whatever its errors are and whichever numbers they have
module _ {E : Type 0} (c : Result Counts E) (number_of : E → ℕ) where
  pub counts_opened : (n : Counts) (d : Cursor) → c ≡ Ok n → d ≡ start_at (in_four n.r) (in_four n.v) (in_four n.e) (in_four n.g)
      → opened_under number_of (Ok (view (in_four n.r) d)) ≡ open_of (checked_under number_of c)
  unfolding opened_under checked_under
  counts_opened n d is from = opened_at (checked_under number_of c) n.r n.v n.e n.g d (ap (checked_under number_of) is) from

  pub fault_opened : (e : E) → c ≡ Err e → opened_under number_of (Err e) ≡ open_of (checked_under number_of c)
  unfolding opened_under checked_under
  fault_opened e is = opened_refused (checked_under number_of c) (number_of e) (ap (checked_under number_of) is)

-- and under the numbers of the refusals it is what it is in a call
pub checked_refusals : (c : Result Counts Refusal) → checked_under number c ≡ checked_of c
unfolding checked_under checked_of
checked_refusals (Ok n) = refl
checked_refusals (Err e) = refl

pub opened_refusals : (v : Result View Refusal) → opened_under number v ≡ opened_of v
unfolding opened_under opened_of
opened_refusals (Ok v) = refl
opened_refusals (Err e) = refl

module _ (R : Rules) (permitted : Permitted R.limits) (s : List ℕ) where
  open_cases : (k : Checked) → Bytes s → k ≡ checked_by R s → (w : View) → open_of k ≡ O.At w → Opens R s w.r w.start
  unfolding open_of
  open_cases (A.Accepted r v e g) b h w f =
      let p = places R s r v e g (record { permitted = permitted; bytes = b; accepts = sym h }) in
      let er : in_four r ≡ r = omega (arith, p.whole, p.small) in
      let ev : in_four v ≡ v = omega (arith, p.whole, p.small) in
      let ee : in_four e ≡ e = omega (arith, p.whole, p.small) in
      let eg : in_four g ≡ g = omega (arith, p.whole, p.small) in
      let whole : view (in_four r) (start_at (in_four r) (in_four v) (in_four e) (in_four g)) ≡ w = cc in
      let own : r ≡ w.r = sym er ∙ ap (λ (x : View). x.r) whole in
      let start : start_at (in_four r) (in_four v) (in_four e) (in_four g) ≡ w.start = ap (λ (x : View). x.start) whole in
      record {
        permitted = permitted;
        v = v;
        e = e;
        g = g;
        bytes = b;
        accepts = sym h ∙ ap (λ n. A.Accepted n v e g) own;
        start = sym start ∙ cc;
      }
  open_cases (A.Refused n) b h w f = absurd (let z : ◌≡◌ {A = ℕ} 0 1 = cc in omega arith)

  refused_cases : (k : Checked) → k ≡ checked_by R s → (n : ℕ) → open_of k ≡ O.Refused n → checked_by R s ≡ A.Refused n
  unfolding open_of
  refused_cases (A.Accepted r v e g) h n f = absurd (let z : ◌≡◌ {A = ℕ} 0 1 = cc in omega arith)
  refused_cases (A.Refused m) h n f = sym h ∙ cc

  module _ (o : Result View Refusal) (is : opened_of o ≡ open_of (checked_by R s)) where
    pub opens : Bytes s → (v : View) → o ≡ Ok v → Opens R s v.r v.start
    unfolding opened_of
    opens b v e = open_cases (checked_by R s) b refl v (sym is ∙ ap opened_of e)

    pub opens_refused : (e : Refusal) → o ≡ Err e → Refusing R s (number e)
    unfolding opened_of
    opens_refused e f = record {
      permitted = permitted;
      refuses = refused_cases (checked_by R s) refl (number e) (sym is ∙ ap opened_of f);
    }

-- limits given as numbers
module _ (replicas ranges : ℕ) (s : List ℕ) where
  module _ (o : Result View Refusal) (is : opened_of o ≡ open_of (checked_by (rules_within replicas ranges) s)) where
    pub opens_within : Bytes s → (v : View) → o ≡ Ok v → Opens (rules_within replicas ranges) s v.r v.start
    opens_within = opens (rules_within replicas ranges) (within_permitted replicas ranges base.records) s o is

    pub refuses_within : (e : Refusal) → o ≡ Err e → Refusing (rules_within replicas ranges) s (number e)
    refuses_within = opens_refused (rules_within replicas ranges) (within_permitted replicas ranges base.records) s o is

  pub opens_open : (r : ℕ) (c : Cursor) → Opens (rules_within replicas ranges) s r c → Open s r c
  opens_open r c o =
      let R = rules_within replicas ranges in
      let p = places R s r o.v o.e o.g (opens_reading R s r c o) in
      record { rules = R; opens = o; small = omega (arith, p.replicas, few_replicas replicas ranges) }

-- The known tick, ids given as bytes

pub tick_known : (s : List ℕ) (r : ℕ) (c : Cursor) → Open s r c → (item replica : List ℕ) → length item ≡ 24
    → length replica ≡ 16 → (i : Item) (p : Replica) (t : ℕ) → i ≡ item_read item → p ≡ replica_read replica
    → t ≡ tick_from s r c (item_of i) (replica_of p) → Known s item replica t
tick_known s r c w item replica h k i p t e f is =
    let R = w.rules in
    let o = w.opens in
    let x = be_at item 24 0 in
    let y = be_at replica 16 0 in
    let ie : item_of i ≡ x = ap (λ (j : Item). item_of j) e ∙ item_there item (omega arith) in
    let pe : replica_of p ≡ y = ap (λ (q : Replica). replica_of q) f ∙ replica_there replica (omega arith) in
    let found : t ≡ known (decode s) x y = is ∙ ap₂ (λ x y. tick_from s r c x y) ie pe ∙ leaf_known R s r c o x y in
    record { is = found; small = omega (arith, found, known_small R s r o.v o.e o.g (opens_reading R s r c o) x y) }

-- Contain

pub contain_basic : (s item replica : List ℕ) (t : ℕ) (a : Contain)
    → a ≡ contain_answer (rules_within base.replicas base.ranges) s item replica t → a ≡ contain_answer basic s item replica t
contain_basic s item replica t a e = e ∙ ap (λ R. contain_answer R s item replica t) basic_within

pub contain_refused : (R : Rules) (s item replica : List ℕ) (t : ℕ) (e : Refusal) → Refusing R s (number e)
    → contain_of (Err e) ≡ contain_answer R s item replica t
unfolding contain_of
contain_refused R s item replica t e h = sym (contain_refuses R s item replica t (number e) h)

module _ (R : Rules) (s : List ℕ) (r : ℕ) (c : Cursor) (o : Opens R s r c) (item replica : List ℕ) (t : ℕ) where
  pub contain_17 : (e : Refusal) → Ticked s item replica (Err e) → contain_of (Err e) ≡ contain_answer R s item replica t
  unfolding contain_of number
  contain_17 e h =
      ap (λ (k : Refusal). contain_of (Err k)) h.0
      ∙ sym (contain_wrong R s item replica t r o.v o.e o.g (opens_reading R s r c o) h.1)

  module _ (x : ℕ) (is : Ticked s item replica (Ok x)) where
    answers : contain_answer R s item replica t ≡ contain_found (contains (decode s) (be_at item 24 0) (be_at replica 16 0) t)
    answers = contain_answers R s item replica t r o.v o.e o.g (opens_reading R s r c o) is.0

    pub contain-zero : t ≤ 0 → contain_of (Ok (nat_lt 0 t)) ≡ contain_answer R s item replica t
    unfolding contain_of
    contain-zero z =
        ap (λ (b : Bool). contain_of (Ok b)) (le-ltb 0 t z)
        ∙ sym (answers ∙ found-zero (decode s) (be_at item 24 0) (be_at replica 16 0) t (omega arith))

    pub contain_later : 0 < t → contain_of (Ok (leb t x)) ≡ contain_answer R s item replica t
    unfolding contain_of
    contain_later n = go (leb t x) refl
      where
        go : (b : Bool) → leb t x ≡ b → contain_of (Ok (leb t x)) ≡ contain_answer R s item replica t
        go true e =
            let l : t ≤ x = leb-true t x e in
            ap (λ (b : Bool). contain_of (Ok b)) e
            ∙ sym (answers ∙ found_yes (decode s) (be_at item 24 0) (be_at replica 16 0) t (omega arith) (omega (arith, is.1.is)))
        go false e =
            let l : x < t = leb-false t x e in
            ap (λ (b : Bool). contain_of (Ok b)) e
            ∙ sym (answers ∙ found_later (decode s) (be_at item 24 0) (be_at replica 16 0) t (omega (arith, is.1.is)))

-- Lead

pub lead_basic : (s t item replica : List ℕ) (a : Lead)
    → a ≡ lead_answer (rules_within base.replicas base.ranges) s t item replica → a ≡ lead_answer basic s t item replica
lead_basic s t item replica a e = e ∙ ap (λ R. lead_answer R s t item replica) basic_within

-- ticks are below 2^63, so their difference fits 64 bits with a sign
difference_small : (a b : ℕ) → a < 2 ^ 63 → b < 2 ^ 63 → mag (pos a -ℤ pos b) < 2 ^ 63
difference_small a b h k =
    elim (order a b) [
      | less l ↦ subst (λ z. mag z < 2 ^ 63) (sym (sub-behind a b l)) (omega arith)
      | same l ↦ subst (λ z. mag z < 2 ^ 63) (sym (sub-ahead a b (omega arith))) (omega arith)
      | more l ↦ subst (λ z. mag z < 2 ^ 63) (sym (sub-ahead a b (omega arith))) (omega arith)
    ]

module _ (a b : ℕ) (h : a < 2 ^ 63) (k : b < 2 ^ 63) where
  signed : to_z w64 a -ℤ to_z w64 b ≡ pos a -ℤ pos b
  signed = ap₂ (λ x y. x -ℤ y) (to_z_pos w64 h) (to_z_pos w64 k)

  pub difference_fits : SFits w64 (to_z w64 a -ℤ to_z w64 b)
  difference_fits = subst (SFits w64) (sym signed) (record { sfits = difference_small a b h k })

  pub difference_exact : to_z w64 (of_z w64 (to_z w64 a -ℤ to_z w64 b)) ≡ pos a -ℤ pos b
  difference_exact = to_z-of_z difference_fits ∙ signed

pub lead_refused_first : (R : Rules) (s t item replica : List ℕ) (e : Refusal) → Refusing R s (number e)
    → lead_given (Err e) ≡ lead_answer R s t item replica
unfolding lead_given
lead_refused_first R s t item replica e h = sym (lead_refuses_first R s t item replica (number e) h)

module _ (R : Rules) (s : List ℕ) (r : ℕ) (c : Cursor) (o : Opens R s r c) (t item replica : List ℕ) where
  one : Reading R s r o.v o.e o.g
  one = opens_reading R s r c o

  pub lead_refused_second : (e : Refusal) → Refusing R t (number e) → lead_given (Err e) ≡ lead_answer R s t item replica
  unfolding lead_given
  lead_refused_second e h = sym (lead_refuses_second R s t item replica r o.v o.e o.g one (number e) h)

  module _ (m : ℕ) (d : Cursor) (q : Opens R t m d) where
    other : Reading R t m q.v q.e q.g
    other = opens_reading R t m d q

    pub lead_17 : (u : List ℕ) (e : Refusal) → Ticked u item replica (Err e) → lead_given (Err e) ≡ lead_answer R s t item replica
    unfolding lead_given number
    lead_17 u e h =
        ap (λ (k : Refusal). lead_given (Err k)) h.0
        ∙ sym (lead_wrong R s t item replica r o.v o.e o.g one m q.v q.e q.g other h.1)

    pub lead_ahead : (x y : ℕ) → Ticked s item replica (Ok x) → Ticked t item replica (Ok y)
        → (z : ℤ) → z ≡ pos x -ℤ pos y → lead_given (Ok z) ≡ lead_answer R s t item replica
    unfolding lead_given
    lead_ahead x y a b z e =
        ap D.Ahead (e ∙ ap₂ (λ u w. pos u -ℤ pos w) a.1.is b.1.is)
        ∙ sym (lead_answers R s t item replica r o.v o.e o.g one m q.v q.e q.g other a.0)
