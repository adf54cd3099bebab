-- The check of a knowledge and of its normal form. Accepted bytes are read as what they decode to, and there the test by places is
-- the test of normal form (`normal_by_places`); refused bytes are not read. A knowledge in normal form is where lookup goes on
-- (`normal_open`), and its sizes are those that opening gives (`normal_opened_lem`).
use Prim.Native.Nat.{ℕ, ◌≤◌}
use mathlib.Core.Path.{◌≡◌, refl, sym, ap, ap₂, ◌∙◌, subst}
use mathlib.Core.Bool.{Bool, true, false}
use mathlib.Core.List.{List}
use native.Mathlib.Omega.{arith}
use lib.ListN.{length}
use Rattle.codec.specs.Number.{Bytes}
use Rattle.codec.specs.Parsed.{accepted}
use Rattle.codec.specs.Total.{clamp}
use Rattle.codec.proofs.Total.{clamp_within}
use Rattle.codec.specs.declared.Refusal.{Refusal}
use Rattle.codec.specs.Refusal.{number}
use Rattle.std.specs.Result.{result_ok}
use Rattle.layout.specs.declared.Counts.{Counts}
use Rattle.layout.specs.Checked.{Checked, checked_of}
use Rattle.layout.specs.Checked as A
use Rattle.layout.specs.Knowledge.{Limits, Rules, any_id, basic}
use Rattle.layout.specs.Permitted.{largest_replicas, largest_ranges, within}
use Rattle.layout.specs.Decode.{decode}
use Rattle.layout.specs.Parse.{checked, checked_by, parse}
use Rattle.layout.proofs.Told.{checked_counts, checked_refusal}
use Rattle.layout.proofs.Places.{Reading, places}
use Rattle.lookup.proofs.Calls.{opened_at}
use Rattle.layout.proofs.Within.{within_permitted}
use Rattle.ticks.specs.Written.{is_normal}
use Rattle.ticks.specs.Calls.{read_as}
use Rattle.ticks.proofs.ForCode.{reading, refusing}
use Rattle.replication.specs.MethodOpening.{is_accepted}
use Rattle.replication.proofs.Opening.Records.{not_accepted, is_accepted_lem, read_is}
use Rattle.lookup.specs.declared.Cursor.{Cursor}
use Rattle.lookup.specs.Opened as O
use Rattle.lookup.specs.Method.{start_at, in_four, view, open_of, Open}
use Rattle.lookup.proofs.Leaf.{opens_reading}
use Rattle.normal_form.specs.MethodNormal.{normal_in}
use Rattle.normal_form.proofs.ByPlaces.{within_roomy, normal_by_places}
use Rattle.store_open.specs.declared.KnowledgePart.{KnowledgePart}
use Rattle.std.specs.Prelude as N
use Rattle.store_open.specs.Method.{sized_part, NormalOf, NotNormal, NormalityOf}

normal_answer : (L : Limits) (k : List ℕ) (p : KnowledgePart) → NormalOf L k p → NormalityOf L k (N.Some p)
normal_answer L k p q = record {
  normal = λ o h. let e : p ≡ o = cc in subst (NormalOf L k) e q;
  other = λ h. absurd (let z : ◌≡◌ {A = ℕ} 0 1 = cc in omega arith);
}

other_answer : (L : Limits) (k : List ℕ) → NotNormal L k → NormalityOf L k N.None
other_answer L k n = record {
  normal = λ p h. absurd (let z : ◌≡◌ {A = ℕ} 0 1 = cc in omega arith);
  other = λ h. n;
}

-- ---- what a knowledge in normal form is read as, and where lookup goes on

module _ (L : Limits) (k : List ℕ) (p : KnowledgePart) (q : NormalOf L k p) where
  read : parse (any_id L) k ≡ accepted (decode k)
  read =
      let o = q.opens in
      reading (any_id L) k p.view.r o.v o.e o.g (opens_reading (any_id L) k p.view.r p.view.start o)

  pub normal_accepted : is_accepted (parse (any_id L) k) ≡ true
  normal_accepted = is_accepted_lem (parse (any_id L) k) (decode k) read

  pub normal_read : read_as (parse (any_id L) k) ≡ decode k
  normal_read = read_is (parse (any_id L) k) (decode k) read

  pub normal_open : Open k p.view.r p.view.start
  normal_open = record { rules = any_id L; opens = q.opens; small = q.small }

  -- the sizes of accepted bytes fit their fields
  pub normal_opened_lem : open_of (checked_by (any_id L) k) ≡ O.At p.view
  normal_opened_lem =
      let o = q.opens in
      let r = p.view.r in
      let f = places (any_id L) k r o.v o.e o.g (opens_reading (any_id L) k r p.view.start o) in
      let er : in_four r ≡ r = omega (arith, f.whole, f.small) in
      let ev : in_four o.v ≡ o.v = omega (arith, f.whole, f.small) in
      let ee : in_four o.e ≡ o.e = omega (arith, f.whole, f.small) in
      let eg : in_four o.g ≡ o.g = omega (arith, f.whole, f.small) in
      let start : p.view.start ≡ start_at (in_four r) (in_four o.v) (in_four o.e) (in_four o.g) = o.start ∙ cc in
      sym (opened_at (checked_by (any_id L) k) r o.v o.e o.g p.view.start o.accepts start)
      ∙ ap (λ (n : ℕ). O.At (view n p.view.start)) er

-- ---- the check's result

-- the counts that it gives
pub counts_of : (r : N.Result Counts Refusal) (n : Counts) → result_ok r ≡ N.Some n → checked_of r ≡ A.Accepted n.r n.v n.e n.g
counts_of (N.Ok m) n e = let f : m ≡ n = cc in checked_counts m ∙ ap (λ (x : Counts). A.Accepted x.r x.v x.e x.g) f
counts_of (N.Err q) n e = absurd (let z : ◌≡◌ {A = ℕ} 0 1 = cc in omega arith)

module _ (a b : ℕ) (k : List ℕ) (c : Checked)
    (is : c ≡ checked (clamp a largest_replicas) (clamp b largest_ranges) basic.judge k) where
  refused_other : (m : ℕ) → c ≡ A.Refused m → (n : ℕ) → NormalityOf (within a b n) k N.None
  refused_other m e n =
      let R = any_id (within a b n) in
      other_answer (within a b n) k
      (λ t u.
      let f : is_accepted (parse R k) ≡ false =
      not_accepted (parse R k) m (refusing R k m (record { permitted = within_permitted a b n; refuses = sym is ∙ e })) in
      let z : ◌≡◌ {A = ℕ} 0 1 = cc in
      omega arith)

pub none_other : (a b : ℕ) (k : List ℕ) (r : N.Result Counts Refusal)
    → checked_of r ≡ checked (clamp a largest_replicas) (clamp b largest_ranges) basic.judge k → result_ok r ≡ N.None
    → (n : ℕ) → NormalityOf (within a b n) k N.None
none_other a b k (N.Ok m) is e n = absurd (let z : ◌≡◌ {A = ℕ} 0 1 = cc in omega arith)
none_other a b k (N.Err q) is e n = refused_other a b k (checked_of (N.Err q)) is (number q) (checked_refusal q) n

module _ (a b : ℕ) (k : List ℕ) (c : Checked)
    (is : c ≡ checked (clamp a largest_replicas) (clamp b largest_ranges) basic.judge k) where
  module _ (r v e g : ℕ) (bytes : Bytes k) (d : c ≡ A.Accepted r v e g) (t : Bool) (q : t ≡ normal_in k r v e g) (n : ℕ) where
    abbrev R : Rules
    R = any_id (within a b n)

    accepts : Reading R k r v e g
    accepts = record { permitted = within_permitted a b n; bytes = bytes; accepts = sym is ∙ d }

    few : R.limits.replicas ≤ largest_replicas
    few = (clamp_within a largest_replicas (omega arith)).1

    decides : t ≡ is_normal (decode k)
    decides =
        q ∙ normal_by_places R k r v e g accepts (within_roomy R k r v e g accepts few (clamp_within b largest_ranges (omega arith)).1)

    pub accepted_normal : t ≡ true → (size : ℕ) (s : Cursor) → size ≡ length k → s ≡ start_at r v e g
        → NormalityOf (within a b n) k (N.Some (sized_part size (view r s)))
    accepted_normal u size s l st =
        normal_answer (within a b n) k (sized_part size (view r s))
        (record {
          opens = record {
            permitted = within_permitted a b n;
            v = v;
            e = e;
            g = g;
            bytes = bytes;
            accepts = sym is ∙ d;
            start = st;
          };
          normal = sym decides ∙ u;
          length = l;
          small = omega (arith, (places R k r v e g accepts).replicas, few);
        })

    pub accepted_other : t ≡ false → NormalityOf (within a b n) k N.None
    accepted_other u =
        other_answer (within a b n) k
        (λ w x.
        let f : is_normal (decode k) ≡ true = ap is_normal (sym (read_is (parse R k) (decode k) (reading R k r v e g accepts))) ∙ x in
        let h = decides in
        let z : ◌≡◌ {A = ℕ} 0 1 = cc in
        omega arith)
