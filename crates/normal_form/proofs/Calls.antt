-- What the functions with no loop return, one law for each way that they go. For accepted bytes the sizes fit their numbers (`sizes`).
use Rattle.std.proofs.Common.{◌≡◌, ℕ, zero, suc, ◌+◌, ◌-◌, ◌<◌, ◌≤◌, Bool, true, false, eqb, ltb, leb, List, length, sym, refl, ap, subst, ◌∙◌, ap₂, arith, leb-true}
use Rattle.codec.specs.Number.{Bytes, be_at}
use Rattle.codec.specs.Words.{words3}
use Rattle.codec.specs.declared.Item.{Item}
use Rattle.codec.specs.declared.Replica.{Replica}
use Rattle.codec.specs.Ids.{InWords, item_of, replica_of, item_read, replica_read}
use Rattle.codec.specs.Total.{clamp}
use Rattle.codec.proofs.Ids.{item_there, replica_there}
use Rattle.codec.proofs.Total.{read_there}
use Rattle.leaves.proofs.Part.{part_there}
use lib.ListN.{take, drop, length-drop}
use lib.Seq.{length-take-le}
use Rattle.layout.specs.Checked.{Checked}
use Rattle.layout.specs.Checked.{Accepted}
use Rattle.layout.specs.Knowledge.{Element, Rules, basic, base}
use Rattle.layout.specs.Permitted.{most_count, largest_replicas, largest_ranges, rules_within}
use Rattle.layout.specs.Decode.{ranges_at}
use Rattle.layout.specs.MethodPlaces.{whole_length}
use Rattle.layout.specs.Parse.{checked}
use Rattle.layout.proofs.Places.{Reading, places}
use Rattle.layout.proofs.Within.{within_permitted}
use Rattle.ticks.specs.Written.{eq_vector}
use Rattle.normal_form.specs.MethodNormal.{marked_by, keys_marked, vectors_here, numbered, standing}
use Rattle.normal_form.specs.MethodNormal.{VectorsTaken, unlike, apart, no_marks, vectors_normal}
use Rattle.normal_form.specs.MethodNormal.{used_in_order, ranges_normal, normal_there, roomy, RoomFor, normal_in}
use Rattle.normal_form.proofs.Tests.{both}

-- Ids

-- ids that are read from parts of the bytes
module _ (s : List ℕ) (lo hi : ℕ) (k : hi ≤ length s) where
  abbrev id_part : List ℕ
  id_part = take (hi - lo) (drop lo s)

  part-length : lo ≤ hi → hi - lo ≤ length id_part
  part-length h =
      let d = length-drop lo s in
      omega (arith, d, length-take-le (hi - lo) (drop lo s) (omega (arith, d)))

  replica_part : lo + 16 ≤ hi → replica_of (replica_read id_part) ≡ be_at s 16 lo
  replica_part h =
      let l = part-length (omega arith) in
      replica_there id_part (omega arith) ∙ sym (read_there id_part 16 0 (omega arith)) ∙ part_there s lo hi 16 h k

  item_part : lo + 24 ≤ hi → item_of (item_read id_part) ≡ be_at s 24 lo
  item_part h =
      let l = part-length (omega arith) in
      item_there id_part (omega arith) ∙ sym (read_there id_part 24 0 (omega arith)) ∙ part_there s lo hi 24 h k

pub rises_is : (s : List ℕ) (at : ℕ) → at + 32 ≤ length s → (p q : Replica) (b : Bool)
    → p ≡ replica_read (take (at + 16 - at) (drop at s)) → q ≡ replica_read (take (at + 32 - (at + 16)) (drop (at + 16) s))
    → b ≡ ltb (replica_of p) (replica_of q) → b ≡ ltb (be_at s 16 at) (be_at s 16 (at + 16))
rises_is s at h p q b e f t =
    t ∙ ap₂ ltb (ap replica_of e ∙ replica_part s at (at + 16) (omega arith) (omega arith))
    (ap replica_of f ∙ replica_part s (at + 16) (at + 32) h (omega arith))

-- The vectors after vector 0

unlike_alike : (f h : ℕ → List Element) (k n j : ℕ) → f k ≡ h k → ((i : ℕ) → j ≤ i → i < j + n → f i ≡ h i)
    → unlike f k n j ≡ unlike h k n j
unfolding unlike
unlike_alike f h k zero j e g = refl
unlike_alike f h k (suc n) j e g =
    ap₂ {C = Bool} (λ us vs. elim (eq_vector us vs) [ true ↦ false | false ↦ unlike f k n (suc j) ]) (g j (omega arith) (omega arith)) e
    ∙ ap (λ b. elim (eq_vector (h j) (h k)) [ true ↦ false | false ↦ b ])
    (unlike_alike f h k n (suc j) e (λ i l m. g i (omega arith) (omega arith)))

apart_alike : (f h : ℕ → List Element) (n k : ℕ) → ((i : ℕ) → i < k + n → f i ≡ h i) → apart f n k ≡ apart h n k
unfolding apart
apart_alike f h zero k g = refl
apart_alike f h (suc n) k g =
    ap₂ (λ b c. elim b [ true ↦ c | false ↦ false ])
    (unlike_alike f h k k 0 (g k (omega arith)) (λ i l m. g i (omega arith)))
    (apart_alike f h n (suc k) (λ i l. g i (omega arith)))

here-length : (s : List ℕ) (n at : ℕ) → length (vectors_here s n at) ≡ n
unfolding vectors_here
here-length s zero at = refl
here-length s (suc n) at = ap suc (here-length s n _)

pub taken_of : (s : List ℕ) (r m n at : ℕ) (old new : List Bool) (hashes places : List ℕ) (b : Bool)
    → VectorsTaken s r m at old new hashes places b → m ≡ n → VectorsTaken s r n at old new hashes places b
taken_of s r m n at old new hashes places b t e = subst (λ i. VectorsTaken s r i at old new hashes places b) e t

module _ (s : List ℕ) (r n at : ℕ) (marks : List Bool) (hashes places : List ℕ) (b : Bool)
    (t : VectorsTaken s r n at no_marks marks hashes places b) where
  abbrev vs : List (List Element)
  vs = vectors_here s n at

  module _ (c : Bool) (e : b ≡ true) (k : c ≡ keys_marked marks r 0) where
    pub shell_unused : c ≡ false → false ≡ vectors_normal r vs
    unfolding vectors_normal
    shell_unused f =
        let m : keys_marked (marked_by no_marks vs) r 0 ≡ false = ap (λ xs. keys_marked xs r 0) (sym (t.marks e)) ∙ sym k ∙ f in
        sym (rw (sym t.is ∙ e, vectors_normal, m))

    pub shell_apart : (d : Bool) → c ≡ true → d ≡ apart (standing s places) n 0 → d ≡ vectors_normal r vs
    unfolding vectors_normal
    shell_apart d f g =
        let m : keys_marked (marked_by no_marks vs) r 0 ≡ true = ap (λ xs. keys_marked xs r 0) (sym (t.marks e)) ∙ sym k ∙ f in
        let q : d ≡ apart (numbered vs) (length vs) 0 =
        g ∙ apart_alike (standing s places) (numbered vs) n 0 (λ i l. (t.listed e).place i (omega arith))
        ∙ ap (λ j. apart (numbered vs) j 0) (sym (here-length s n at)) in
        q ∙ sym (rw (sym t.is ∙ e, vectors_normal, m))

-- The ranges

pub lowest_words : InWords (record { high = 0; middle = 0; low = 0 })
lowest_words = record { high = omega arith; middle = omega arith; low = omega arith }

module _ (s : List ℕ) (v g at : ℕ) (room : at + 24 ≤ length s) (i : Item) (t : Bool)
    (read : i ≡ item_read (take (at + 24 - at) (drop at s)))
    (is : t ≡ eqb (item_of i) (item_of (record { high = 0; middle = 0; low = 0 }))) where
  bound-zero : t ≡ eqb (be_at s 24 at) 0
  unfolding words3
  bound-zero = is ∙ ap (λ x. eqb x 0) (ap item_of read ∙ item_part s at (at + 24) room (omega arith))

  pub bound_above : t ≡ false → false ≡ ranges_normal s v g at
  unfolding ranges_normal
  bound_above k = sym (rw (sym bound-zero ∙ k, ranges_normal))

  pub bound_first : (u : Bool) → t ≡ true → u ≡ used_in_order v 1 v (ranges_at s g at) → u ≡ ranges_normal s v g at
  unfolding ranges_normal
  bound_first u k q = q ∙ sym (rw (sym bound-zero ∙ k, ranges_normal))

-- The whole

module _ (s : List ℕ) (r v e g : ℕ) where
  pub room_for : (b : Bool) → b ≡ roomy s r v e g → b ≡ true → RoomFor s r v e g
  unfolding roomy
  room_for b q t =
      let x = both (leb r largest_replicas) _ (sym q ∙ t) in
      let y = both (leb 1 v) _ x.1 in
      let z = both (leb (v - 1) largest_ranges) _ y.1 in
      let w = both (leb 1 g) _ z.1 in
      record {
        replicas = leb-true r largest_replicas x.0;
        some_vector = leb-true 1 v y.0;
        vectors = leb-true (v - 1) largest_ranges z.0;
        some_range = leb-true 1 g w.0;
        whole = leb-true (whole_length r v e g) (length s) w.1;
      }

  pub in_not : (b : Bool) → b ≡ roomy s r v e g → b ≡ false → false ≡ normal_in s r v e g
  unfolding normal_in
  in_not b q t = sym (rw (sym q ∙ t, normal_in))

  pub in_there : (b c : Bool) → b ≡ roomy s r v e g → b ≡ true → c ≡ normal_there s r v e g → c ≡ normal_in s r v e g
  unfolding normal_in
  in_there b c q t d = d ∙ sym (rw (sym q ∙ t, normal_in))

-- The bytes

module _ (s : List ℕ) (replicas ranges : ℕ) (c : Checked)
    (is : c ≡ checked (clamp replicas largest_replicas) (clamp ranges largest_ranges) basic.judge s) where
  abbrev R : Rules
  R = rules_within replicas ranges

  module _ (r v e g : ℕ) (bytes : Bytes s) (k : c ≡ Accepted r v e g) where
    read : Reading R s r v e g
    read = record { permitted = within_permitted replicas ranges base.records; bytes = bytes; accepts = sym is ∙ k }

    -- the sizes fit numbers of four bytes
    pub sizes : (r ≤ most_count) × (v ≤ most_count) × (e ≤ most_count) × (g ≤ most_count)
    sizes =
        let p = places R s r v e g read in (
          omega (arith, p.whole, p.small),
          omega (arith, p.whole, p.small),
          omega (arith, p.whole, p.small),
          omega (arith, p.whole, p.small),
        )
