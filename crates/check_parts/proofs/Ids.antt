-- Ids in a part of the bytes, and a replica id at a place with the ids before it, in the order in which the definition looks at them.
use mathlib.Core.Path.{◌≡◌, refl, sym, ap, ◌∙◌}
use mathlib.Core.Bool.{Bool, true, false}
use mathlib.Core.List.{List}
use Prim.Native.Nat.{ℕ, ◌+◌, ◌-◌, ◌<◌, ◌≤◌}
use native.Mathlib.Omega.{arith}
use borrow.Author.Tests.{leb-true, leb-false}
use lib.Dec.{leb}
use lib.ListN.{length, take, drop, length-take, length-drop}
use native.Mathlib.Nat.{add-zero}
use Rattle.codec.specs.Number.{be_at}
use Rattle.layout.specs.Got.{Got}
use Rattle.std.specs.Prelude.{Ok}
use Rattle.codec.specs.declared.Item.{Item}
use Rattle.codec.specs.declared.Replica.{Replica}
use Rattle.codec.specs.Ids.{item_of, replica_of, item_read, replica_read}
use Rattle.codec.proofs.Ids.{item_there, replica_there}
use Rattle.codec.proofs.Numbers.{be_take, be_drop}
use Rattle.layout.specs.declared.Read.{Read}
use Rattle.layout.specs.Got.{Num, Fault, got_of}
use Rattle.layout.specs.Knowledge.{basic}
use Rattle.layout.specs.Read.{◌▷◌, among, judged, replica_id}
use Rattle.check_fields.proofs.Steps.{Went, number_there, number_short}

-- the bytes of a part are those of its place
module _ (s : List ℕ) (at n : ℕ) (h : at + n ≤ length s) where
  pub part_length : length (take (at + n - at) (drop at s)) ≡ n
  part_length = simp (length-take, length-drop) (omega arith)

  pub part_number : be_at (take (at + n - at) (drop at s)) n 0 ≡ be_at s n at
  part_number =
      be_take (drop at s) n 0 (at + n - at) (omega arith) ∙ be_drop s n at 0 ∙ ap (λ (p : ℕ). be_at s n p) (add-zero at)

pub replica_here : (s : List ℕ) (at : ℕ) (p : Replica) → at + 16 ≤ length s → p ≡ replica_read (take (at + 16 - at) (drop at s)) → replica_of p ≡ be_at s 16 at
replica_here s at p h e =
    ap replica_of e ∙ replica_there (take (at + 16 - at) (drop at s)) (omega (arith, part_length s at 16 h)) ∙ part_number s at 16 h

pub item_here : (s : List ℕ) (at : ℕ) (i : Item) → at + 24 ≤ length s → i ≡ item_read (take (at + 24 - at) (drop at s)) → item_of i ≡ be_at s 24 at
item_here s at i h e =
    ap item_of e ∙ item_there (take (at + 24 - at) (drop at s)) (omega (arith, part_length s at 24 h)) ∙ part_number s at 24 h

-- ---- an id at a place, with k ids before it

module _ (s : List ℕ) (start k at : ℕ) where
  id_cut : length s < at + 16 → replica_id basic.judge s start k at ≡ Fault 1
  unfolding replica_id
  id_cut h = rw (number_short s 16 k at h)

  id_there_seen : at + 16 ≤ length s → among s 16 16 start k (be_at s 16 at) ≡ true → replica_id basic.judge s start k at ≡ Fault 5
  unfolding replica_id
  id_there_seen h m = rw (number_there s 16 k at h, m, ◌▷◌)

  pub id_there_new : at + 16 ≤ length s → among s 16 16 start k (be_at s 16 at) ≡ false → replica_id basic.judge s start k at ≡ Num (k + 1) (at + 16)
  unfolding replica_id judged
  id_there_new h m = rw (number_there s 16 k at h, m, ◌▷◌)

  pub id_short : at ≤ length s → length s - at < 16 → Fault 1 ≡ replica_id basic.judge s start k at
  id_short h l = sym (id_cut (omega arith))

  module _ (p : ℕ) (b : Bool) (h : at ≤ length s) (l : 16 ≤ length s - at) (e : p ≡ be_at s 16 at) (m : b ≡ among s 16 16 start k p) where
    answer : among s 16 16 start k (be_at s 16 at) ≡ b
    answer = ap (λ (x : ℕ). among s 16 16 start k x) (sym e) ∙ sym m

    pub id_seen : b ≡ true → Fault 5 ≡ replica_id basic.judge s start k at
    id_seen t = sym (id_there_seen (omega arith) (answer ∙ t))

    pub id_new : b ≡ false → Num (k + 1) (at + 16) ≡ replica_id basic.judge s start k at
    id_new t = sym (id_there_new (omega arith) (answer ∙ t))

-- where there is an id, it is one more, and it stands inside the bytes
pub id_went : (s : List ℕ) (start k at : ℕ) (g : Got) → g ≡ replica_id basic.judge s start k at → (y b : ℕ) → g ≡ Num y b → Went s 16 k at y b
id_went s start k at g e y b f = by_length (leb (at + 16) (length s)) refl (among s 16 16 start k (be_at s 16 at)) refl
  where
    by_length : (r : Bool) → leb (at + 16) (length s) ≡ r → (t : Bool) → among s 16 16 start k (be_at s 16 at) ≡ t → Went s 16 k at y b
    by_length false l t m =
        let h : length s < at + 16 = leb-false (at + 16) (length s) l in
        let z : ◌≡◌ {A = ℕ} 0 1 = cc (id_cut s start k at h) in
        absurd (omega arith)
    by_length true l true m =
        let h : at + 16 ≤ length s = leb-true (at + 16) (length s) l in
        let z : ◌≡◌ {A = ℕ} 0 1 = cc (id_there_seen s start k at h m) in
        absurd (omega arith)
    by_length true l false m =
        let h : at + 16 ≤ length s = leb-true (at + 16) (length s) l in
        let p : y ≡ k + 1 = cc (id_there_new s start k at h m) in
        let q : b ≡ at + 16 = cc (id_there_new s start k at h m) in
        record { count = p; place = q; inside = omega arith }

pub id_on : (s : List ℕ) (start k at : ℕ) (x : Read) → got_of (Ok x) ≡ replica_id basic.judge s start k at → Went s 16 k at x.number x.next
unfolding got_of
id_on s start k at x e = id_went s start k at (got_of (Ok x)) e x.number x.next refl
