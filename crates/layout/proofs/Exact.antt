-- The layout is exact: for a list of bytes and permitted limits, reading accepts a knowledge exactly where the bytes
-- are its encoding and it is lawful. Forward, the encoding of a lawful knowledge is read field by field without a
-- fault, and its values are those that were written. Backward, accepted bytes are the encoding of some lawful
-- knowledge, whose values are then the ones that reading gives. So two lawful knowledges with the same bytes are the
-- same, and the sizes that the check answers are those of the knowledge.
use Prim.Native.Nat.{ℕ, suc, ◌+◌, ◌*◌, ◌%◌, ◌^◌, ◌≤◌, ◌<◌}
use mathlib.Core.Path.{◌≡◌, refl, sym, ap, ◌∙◌, subst}
use mathlib.Core.List.{List}
use mathlib.Core.Logic.{◌↔◌}
use native.Mathlib.Omega.{arith}
use lib.ListN.{length}
use Rattle.codec.specs.Number.{Bytes}
use Rattle.layout.specs.Checked.{Checked}
use Rattle.layout.specs.Checked.{Accepted, Refused}
use lib.Dec.{leb, lit≤}
use mir.Val.{bool_byte}
use Rattle.layout.specs.Knowledge.{Rules, largest_tick, Knowledge, encode, Lawful, basic, base}
use Rattle.layout.specs.Permitted.{Permitted, longest, most_vectors}
use Rattle.layout.specs.Answer.{elements}
use Rattle.layout.specs.Parse.{told, parse, checked_by}
use Rattle.layout.specs.Decode.{decode}
use Rattle.layout.proofs.Forward.{forward, decoded, encode-length}
use Rattle.layout.proofs.Backward.{Means, backward}
use Rattle.codec.specs.Parsed.{accepted, refused}
use Rattle.codec.proofs.Difference.{Larger, larger_tick}

told_refusal : (s : List ℕ) (n : ℕ) → told s (Refused n) ≡ refused n
unfolding told
told_refusal s n = refl

told_refused : (s : List ℕ) (n : ℕ) (c : Checked) → told s c ≡ refused n → c ≡ Refused n
unfolding told
told_refused s n (Accepted r v e g) h = absurd (let z : ◌≡◌ {A = ℕ} 0 1 = cc in omega arith)
told_refused s n (Refused m) h = cc

-- a knowledge and its sizes, for bytes that the check accepts
module _ (R : Rules) (permitted : Permitted R.limits) where
  accepted_lawful : (k : Knowledge) → Lawful R k → parse R (encode k) ≡ accepted k
  unfolding parse told
  accepted_lawful k l = ap (told (encode k)) (forward R k permitted l) ∙ ap accepted (decoded R k permitted l)

  from_means : (s : List ℕ) (r v e g : ℕ) (k : Knowledge) → Means R s r v e g → accepted (decode s) ≡ accepted k → (s ≡ encode k) × Lawful R k
  from_means s r v e g k m q =
      let same : m.value ≡ k = sym (decoded R m.value permitted m.lawful) ∙ cc (ap decode m.bytes) in
      (m.bytes ∙ ap encode same, subst (Lawful R) same m.lawful)

  from_checked : (s : List ℕ) (k : Knowledge) (c : Checked) → Bytes s → checked_by R s ≡ c → told s c ≡ accepted k → (s ≡ encode k) × Lawful R k
  unfolding told
  from_checked s k (Accepted r v e g) b h q = from_means s r v e g k (backward R s r v e g b h) q
  from_checked s k (Refused n) b h q = absurd (let z : ◌≡◌ {A = ℕ} 0 1 = cc in omega arith)

  pub exact : (s : List ℕ) (k : Knowledge) → Bytes s → (parse R s ≡ accepted k) ↔ ((s ≡ encode k) × Lawful R k)
  unfolding parse
  exact s k b = (
    (λ h. from_checked s k (checked_by R s) b refl h),
    λ h. ap (parse R) h.0 ∙ accepted_lawful k h.1,
  )

  -- writing a lawful knowledge and reading it back
  pub read_back : (k : Knowledge) → Lawful R k → parse R (encode k) ≡ accepted k
  read_back = accepted_lawful

  -- lawful knowledges with the same bytes are the same
  pub encode_injective : (a b : Knowledge) → Lawful R a → Lawful R b → encode a ≡ encode b → a ≡ b
  encode_injective a b la lb h = sym (decoded R a permitted la) ∙ ap decode h ∙ decoded R b permitted lb

  -- the sizes that the check answers, and the length that they give
  pub sizes_exact : (s : List ℕ) (k : Knowledge) → Bytes s → parse R s ≡ accepted k
      → checked_by R s ≡ Accepted (length k.replicas) (length k.vectors) (elements k.vectors) (length k.ranges)
  sizes_exact s k b h =
      let m = (exact s k b).0 h in
      ap (checked_by R) m.0 ∙ forward R k permitted m.1

  pub length_exact : (s : List ℕ) (r v e g : ℕ) → Bytes s → checked_by R s ≡ Accepted r v e g → length s ≡ 77 + 16 * r + 8 * v + 12 * e + 28 * g
  length_exact s r v e g b h =
      let m = backward R s r v e g b h in
      omega (arith, ap length m.bytes, encode-length m.value, m.rs, m.vs, m.es, m.gs)

  -- the check refuses a number exactly where reading does
  pub refused_exact : (s : List ℕ) (n : ℕ) → (checked_by R s ≡ Refused n) ↔ (parse R s ≡ refused n)
  unfolding parse
  refused_exact s n = (λ h. ap (told s) h ∙ told_refusal s n, λ h. told_refused s n (checked_by R s) h)

-- document 01's limits are permitted
pub base_permitted : Permitted base
unfolding longest
base_permitted = record { some_replica = lit≤ tt; some_range = lit≤ tt; replicas = lit≤ tt; ranges = lit≤ tt; records = lit≤ tt; lengths = lit≤ tt }

-- document 01's numbers: the largest tick is 2^63 − 1; at most 16 replicas, 64 ranges, 65 vectors and 256 records
pub largest_tick_lem : suc largest_tick ≡ 2 ^ 63
largest_tick_lem = refl

-- codec's law of the larger tick, which has that number written out
pub larger_of_ticks : (a b d : ℕ) → a ≤ largest_tick → b ≤ largest_tick → d < 2 ^ 64 → (d + b) % 2 ^ 64 ≡ a →
    Larger a b (b + d * bool_byte (leb d a))
larger_of_ticks = larger_tick

pub base_limits : (base.replicas ≡ 16) × (base.ranges ≡ 64) × (most_vectors base ≡ 65) × (base.records ≡ 256)
base_limits = (refl, refl, refl, refl)

-- and its rules refuse no replica id for itself
pub base_judges : (id : ℕ) → basic.judge id ≡ 0
base_judges id = refl
