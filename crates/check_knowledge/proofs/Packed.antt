-- The answer of the check as one number, and back. Accepted bytes are no longer than a knowledge at the largest limits, and that has fewer
-- than 2^15 bytes, so each count has room in its field; a refusal's number is at most 10. So the number says what the check says.
use mathlib.Core.Path.{◌≡◌, refl, sym, ap, ◌∙◌}
use mathlib.Core.List.{List}
use Prim.Native.Nat.{ℕ, ◌+◌, ◌*◌, ◌/◌, ◌%◌, ◌^◌, ◌≤◌, ◌<◌}
use native.Mathlib.Nat.{mod-eq_of_lt}
use native.Mathlib.Omega.{arith}
use borrow.Author.Tests.{lt-ltb, le-ltb}
use lib.Arith.{digits_div, digits_mod}
use lib.ListN.{length}
use Rattle.codec.specs.Number.{Bytes}
use Rattle.layout.specs.Checked.{Checked}
use Rattle.layout.specs.Checked.{Accepted, Refused}
use Rattle.layout.specs.Knowledge.{Rules, basic, base, encode}
use Rattle.layout.specs.Permitted.{rules_within}
use Rattle.layout.specs.Parse.{checked_by}
use Rattle.layout.specs.MethodPlaces.{value_at}
use Rattle.layout.proofs.BackwardRefused.{refused_within}
use Rattle.layout.proofs.Exact.{exact}
use Rattle.layout.proofs.Lengths.{lawful-length}
use Rattle.layout.proofs.Places.{places}
use Rattle.layout.proofs.Within.{within_permitted, longest_within, basic_within}
use Rattle.check_knowledge.specs.Method.{packed, unpacked}

-- ---- a number, and back

refused_back : (n : ℕ) → n ≤ 10 → unpacked (packed (Refused n)) ≡ Refused n
unfolding packed unpacked
refused_back n h = rw (lt-ltb n (2 ^ 63) (omega arith), unpacked) (ap Refused (mod-eq_of_lt {m = 4294967296} (omega arith)))

-- the two parts of a number
rest_of : (x q n y : ℕ) → y < n → x ≡ q * n + y → x % n ≡ y
rest_of x q n y h e = ap (λ (z : ℕ). z % n) e ∙ digits_mod q h

front_of : (x q n y : ℕ) → y < n → x ≡ q * n + y → x / n ≡ q
front_of x q n y h e = ap (λ (z : ℕ). z / n) e ∙ digits_div q h

module _ (r v e g : ℕ) (fr : r < 65536) (fv : v < 65536) (fe : e < 65536) (fg : g < 32768) where
  abbrev w : ℕ
  w = 2 ^ 63 + (g * 65536 + e) * 4294967296 + (v * 65536 + r)

  packed_is : packed (Accepted r v e g) ≡ w
  unfolding packed
  packed_is = rw (mod-eq_of_lt fr, mod-eq_of_lt fv, mod-eq_of_lt fe, mod-eq_of_lt fg)

  accepted_back : unpacked (packed (Accepted r v e g)) ≡ Accepted r v e g
  unfolding unpacked
  accepted_back =
      let x = 2147483648 + g * 65536 + e in
      let a : w % 65536 ≡ r = rest_of w (x * 65536 + v) 65536 r fr (omega arith) in
      let b : w / 65536 % 65536 ≡ v =
      rest_of (w / 65536) x 65536 v fv (front_of w (x * 65536 + v) 65536 r fr (omega arith)) in
      let c : w / 4294967296 % 65536 ≡ e =
      rest_of (w / 4294967296) (32768 + g) 65536 e (omega arith)
      (front_of w x 4294967296 (v * 65536 + r) (omega arith) (omega arith) ∙ omega arith) in
      let d : w / 281474976710656 % 32768 ≡ g =
      rest_of (w / 281474976710656) 1 32768 g fg
      (front_of w (32768 + g) 281474976710656 (e * 4294967296 + v * 65536 + r) (omega arith) (omega arith) ∙ omega arith) in
      ap unpacked packed_is ∙ rw (le-ltb w (2 ^ 63) (omega arith), unpacked) (rw (a, b, c, d))

-- ---- what the check says

module _ (replicas ranges : ℕ) (s : List ℕ) (bytes : Bytes s) where
  abbrev R : Rules
  R = rules_within replicas ranges

  answer_back : (c : Checked) → c ≡ checked_by R s → unpacked (packed c) ≡ c
  answer_back (Accepted r v e g) h =
      let permitted = within_permitted replicas ranges base.records in
      let p = places R s r v e g (record { permitted = permitted; bytes = bytes; accepts = sym h }) in
      let same : s ≡ encode (value_at s r v e g) = ((exact R permitted s (value_at s r v e g) bytes).0 p.read).0 in
      let short = lawful-length R (value_at s r v e g) p.lawful in
      let n : length s < 32768 = omega (arith, ap length same, longest_within replicas ranges base.records) in
      let q = p.whole in
      accepted_back r v e g (omega arith) (omega arith) (omega arith) (omega arith)
  answer_back (Refused n) h = refused_back n (refused_within 10 (omega arith) R s (λ id. omega arith) n (sym h)).1

  -- the number of the check, and the answer that it stands for
  pub answer_unpacked : (w : ℕ) (c : Checked) → w ≡ packed (checked_by R s) → c ≡ unpacked w → c ≡ checked_by R s
  answer_unpacked w c e f = f ∙ ap unpacked e ∙ answer_back (checked_by R s) refl

-- with document 01's limits
pub basic_unpacked : (s : List ℕ) → Bytes s → (w : ℕ) (c : Checked) → w ≡ packed (checked_by (rules_within base.replicas base.ranges) s)
    → c ≡ unpacked w → c ≡ checked_by basic s
basic_unpacked s b w c e f =
    answer_unpacked base.replicas base.ranges s b w c e f ∙ ap (λ (R : Rules). checked_by R s) basic_within
