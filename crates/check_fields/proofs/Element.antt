-- An element of a clock vector: its key, that no element before it has the key, and its tick, in the order in which
-- the definition looks at them.
use mathlib.Core.Path.{◌≡◌, refl, sym, ap, ◌∙◌}
use mathlib.Core.Bool.{Bool, true, false}
use mathlib.Core.List.{List}
use Prim.Native.Nat.{ℕ, ◌+◌, ◌-◌, ◌<◌, ◌≤◌}
use native.Mathlib.Omega.{arith}
use borrow.Author.Tests.{lt-ltb, le-ltb, le-leb, lt-leb, leb-true, leb-false, ltb-true, ltb-false}
use lib.Dec.{leb, ltb}
use lib.ListN.{length}
use Rattle.codec.specs.Number.{be_at}
use Rattle.codec.specs.Total.{read_at}
use Rattle.codec.proofs.Total.{read_there}
use Rattle.layout.specs.Got.{Got}
use Rattle.std.specs.Prelude.{Ok}
use Rattle.layout.specs.declared.Read.{Read}
use Rattle.layout.specs.Got.{Num, Fault, got_of}
use Rattle.layout.specs.Knowledge.{largest_tick}
use Rattle.layout.specs.Read.{◌▷◌, among, tick, element}
use Rattle.check_fields.proofs.Steps.{Went, number_there, number_short}

module _ (s : List ℕ) (r start k at : ℕ) where
  pub key_cut : length s < at + 4 → Fault 1 ≡ element s r start k at
  unfolding element
  key_cut h = sym (rw (number_short s 4 k at h))

  pub key_high : at + 4 ≤ length s → r ≤ be_at s 4 at → Fault 6 ≡ element s r start k at
  unfolding element
  key_high h l = sym (rw (number_there s 4 k at h, le-ltb (be_at s 4 at) r l, ◌▷◌))

  pub key_twice : at + 4 ≤ length s → be_at s 4 at < r → among s 4 12 start k (be_at s 4 at) ≡ true → Fault 6 ≡ element s r start k at
  unfolding element
  key_twice h l m = sym (rw (number_there s 4 k at h, lt-ltb (be_at s 4 at) r l, m, ◌▷◌))

  module _ (h : at + 4 ≤ length s) (l : be_at s 4 at < r) (m : among s 4 12 start k (be_at s 4 at) ≡ false) where
    key_good : element s r start k at ≡ tick s k (at + 4)
    unfolding element
    key_good = rw (number_there s 4 k at h, lt-ltb (be_at s 4 at) r l, m, ◌▷◌)

    pub tick_cut : length s < at + 12 → Fault 1 ≡ element s r start k at
    unfolding tick
    tick_cut t = sym (key_good ∙ rw (number_short s 8 k (at + 4) (omega arith)))

    pub tick_high : at + 12 ≤ length s → largest_tick < be_at s 8 (at + 4) → Fault 7 ≡ element s r start k at
    unfolding tick
    tick_high t u =
        sym (key_good ∙ rw (number_there s 8 k (at + 4) (omega arith), lt-leb (be_at s 8 (at + 4)) largest_tick u, ◌▷◌))

    pub element_good : at + 12 ≤ length s → be_at s 8 (at + 4) ≤ largest_tick → Num (k + 1) (at + 12) ≡ element s r start k at
    unfolding tick
    element_good t u =
        let p : at + 12 ≡ at + 4 + 8 = omega arith in
        ap (λ (b : ℕ). Num (k + 1) b) p
        ∙ sym (key_good ∙ rw (number_there s 8 k (at + 4) (omega arith), le-leb (be_at s 8 (at + 4)) largest_tick u, ◌▷◌))

-- ---- the code's returns, with what it has read

module _ (s : List ℕ) (r start k at : ℕ) (h : at ≤ length s) where
  pub element_short : length s - at < 4 → Fault 1 ≡ element s r start k at
  element_short l = key_cut s r start k at (omega arith)

  module _ (l : 4 ≤ length s - at) (key : ℕ) (e : key ≡ read_at s 4 at) where
    key_is : key ≡ be_at s 4 at
    key_is = e ∙ read_there s 4 at (omega arith)

    pub element_beyond : r ≤ key → Fault 6 ≡ element s r start k at
    element_beyond m = key_high s r start k at (omega arith) (omega (arith, key_is))

    module _ (m : key < r) (b : Bool) (f : b ≡ among s 4 12 start k key) where
      seen_is : among s 4 12 start k (be_at s 4 at) ≡ b
      seen_is = ap (λ (x : ℕ). among s 4 12 start k x) (sym key_is) ∙ sym f

      pub element_seen : b ≡ true → Fault 6 ≡ element s r start k at
      element_seen n = key_twice s r start k at (omega arith) (omega (arith, key_is)) (seen_is ∙ n)

      module _ (n : b ≡ false) where
        pub element_cut : length s - at < 12 → Fault 1 ≡ element s r start k at
        element_cut o = tick_cut s r start k at (omega arith) (omega (arith, key_is)) (seen_is ∙ n) (omega arith)

        module _ (o : 12 ≤ length s - at) (t : ℕ) (g : t ≡ read_at s 8 (at + 4)) where
          tick_is : t ≡ be_at s 8 (at + 4)
          tick_is = g ∙ read_there s 8 (at + 4) (omega arith)

          pub element_late : largest_tick < t → Fault 7 ≡ element s r start k at
          element_late u = tick_high s r start k at (omega arith) (omega (arith, key_is)) (seen_is ∙ n) (omega arith) (omega (arith, tick_is))

          pub element_whole : t ≤ largest_tick → Num (k + 1) (at + 12) ≡ element s r start k at
          element_whole u = element_good s r start k at (omega arith) (omega (arith, key_is)) (seen_is ∙ n) (omega arith) (omega (arith, tick_is))

-- where there is an element, it is one more, and it stands inside the bytes
pub element_went : (s : List ℕ) (r start k at : ℕ) (g : Got) → g ≡ element s r start k at → (y b : ℕ) → g ≡ Num y b → Went s 12 k at y b
element_went s r start k at g e y b f =
    by_case
    (leb (at + 4) (length s))
    refl
    (ltb (be_at s 4 at) r)
    refl
    (among s 4 12 start k (be_at s 4 at))
    refl
    (leb (at + 12) (length s))
    refl
    (leb (be_at s 8 (at + 4)) largest_tick)
    refl
  where
    by_case :
        (h : Bool)
        → leb (at + 4) (length s) ≡ h
        → (l : Bool)
        → ltb (be_at s 4 at) r ≡ l
        → (m : Bool)
        → among s 4 12 start k (be_at s 4 at) ≡ m
        → (t : Bool)
        → leb (at + 12) (length s) ≡ t
        → (u : Bool)
        → leb (be_at s 8 (at + 4)) largest_tick ≡ u
        → Went s 12 k at y b
    by_case false h l l' m m' t t' u u' =
        let z : ◌≡◌ {A = ℕ} 0 1 = cc (key_cut s r start k at (leb-false _ _ h)) in
        absurd (omega arith)
    by_case true h false l m m' t t' u u' =
        let z : ◌≡◌ {A = ℕ} 0 1 = cc (key_high s r start k at (leb-true _ _ h) (ltb-false _ _ l)) in
        absurd (omega arith)
    by_case true h true l true m t t' u u' =
        let z : ◌≡◌ {A = ℕ} 0 1 = cc (key_twice s r start k at (leb-true _ _ h) (ltb-true _ _ l) m) in
        absurd (omega arith)
    by_case true h true l false m false t u u' =
        let z : ◌≡◌ {A = ℕ} 0 1 = cc (tick_cut s r start k at (leb-true _ _ h) (ltb-true _ _ l) m (leb-false _ _ t)) in
        absurd (omega arith)
    by_case true h true l false m true t false u =
        let z : ◌≡◌ {A = ℕ} 0 1 = cc (tick_high s r start k at (leb-true _ _ h) (ltb-true _ _ l) m (leb-true _ _ t) (leb-false _ _ u)) in
        absurd (omega arith)
    by_case true h true l false m true t true u =
        let q = element_good s r start k at (leb-true _ _ h) (ltb-true _ _ l) m (leb-true _ _ t) (leb-true _ _ u) in
        let p : y ≡ k + 1 = cc q in
        let o : b ≡ at + 12 = cc q in
        let i : at + 12 ≤ length s = leb-true _ _ t in
        record { count = p; place = o; inside = omega arith }

pub element_on : (s : List ℕ) (r start k at : ℕ) (x : Read) → got_of (Ok x) ≡ element s r start k at → Went s 12 k at x.number x.next
unfolding got_of
element_on s r start k at x e = element_went s r start k at (got_of (Ok x)) e x.number x.next refl
