-- What a caller of contain, lead and cover is told, for each answer: the number, and the value that the definition names or, on a
-- refusal, the value that was there. And what the code finds, as such an answer.
use Prim.Native.Nat.{ℕ}
use mathlib.Core.Path.{◌≡◌, sym, ap}
use lib.IntN.{ℤ}
use mir.Val.{bool_byte}
use Rattle.std.proofs.Common.{Bool, true, false, Ok, Err, refl}
use Rattle.codec.specs.declared.Refusal.{Refusal}
use Rattle.codec.specs.Refusal.{number}
use Rattle.ticks.specs.Contain.{Contain, contain_of}
use Rattle.ticks.specs.Contain as C
use Rattle.ticks.specs.Lead.{Lead, lead_given}
use Rattle.ticks.specs.Lead as D
use Rattle.ticks.specs.Cover.{Cover, cover_of}
use Rattle.ticks.specs.Cover as E
use Rattle.ticks.specs.Calls.{contain_number, contain_value, lead_number, lead_value, cover_number, cover_value}

module _ (a : Contain) (old : ℕ) where
  pub value_contained : a ≡ C.Contained → (0 ≡ contain_number a) × (1 ≡ contain_value a old)
  unfolding contain_number contain_value
  value_contained is = (sym (ap contain_number is), sym (ap (λ x. contain_value x old) is))

  pub value_lacking : a ≡ C.Lacking → (0 ≡ contain_number a) × (0 ≡ contain_value a old)
  unfolding contain_number contain_value
  value_lacking is = (sym (ap contain_number is), sym (ap (λ x. contain_value x old) is))

  pub contain_stays : (n : ℕ) → a ≡ C.Refused n → (n ≡ contain_number a) × (old ≡ contain_value a old)
  unfolding contain_number contain_value
  contain_stays n is = (sym (ap contain_number is), sym (ap (λ x. contain_value x old) is))

module _ (a : Lead) (old : ℤ) where
  pub value_ahead : (z : ℤ) → a ≡ D.Ahead z → (0 ≡ lead_number a) × (z ≡ lead_value a old)
  unfolding lead_number lead_value
  value_ahead z is = (sym (ap lead_number is), sym (ap (λ x. lead_value x old) is))

  pub lead_stays : (n : ℕ) → a ≡ D.Refused n → (n ≡ lead_number a) × (old ≡ lead_value a old)
  unfolding lead_number lead_value
  lead_stays n is = (sym (ap lead_number is), sym (ap (λ x. lead_value x old) is))

module _ (a : Cover) (old : ℕ) where
  pub value_covers : a ≡ E.Covers → (0 ≡ cover_number a) × (1 ≡ cover_value a old)
  unfolding cover_number cover_value
  value_covers e = (sym (ap cover_number e), sym (ap (λ x. cover_value x old) e))

  pub value_lacks : a ≡ E.Lacks → (0 ≡ cover_number a) × (0 ≡ cover_value a old)
  unfolding cover_number cover_value
  value_lacks e = (sym (ap cover_number e), sym (ap (λ x. cover_value x old) e))

  pub cover_stays : (n : ℕ) → a ≡ E.Refused n → (n ≡ cover_number a) × (old ≡ cover_value a old)
  unfolding cover_number cover_value
  cover_stays n e = (sym (ap cover_number e), sym (ap (λ x. cover_value x old) e))

-- ---- what the code finds

pub told_contain : (a : Contain) (old : ℕ) (yes : Bool) → a ≡ contain_of (Ok yes)
    → (0 ≡ contain_number a) × (bool_byte yes ≡ contain_value a old)
unfolding contain_of
told_contain a old true is = value_contained a old is
told_contain a old false is = value_lacking a old is

pub contain_refusal : (e : Refusal) → contain_of (Err e) ≡ C.Refused (number e)
unfolding contain_of
contain_refusal e = refl

pub ahead_given : (x : ℤ) → lead_given (Ok x) ≡ D.Ahead x
unfolding lead_given
ahead_given x = refl

pub lead_refusal : (e : Refusal) → lead_given (Err e) ≡ D.Refused (number e)
unfolding lead_given
lead_refusal e = refl

pub told_cover : (a : Cover) (old : ℕ) (yes : Bool) → a ≡ cover_of (Ok yes) → (0 ≡ cover_number a) × (bool_byte yes ≡ cover_value a old)
unfolding cover_of
told_cover a old true is = value_covers a old is
told_cover a old false is = value_lacks a old is

pub cover_refusal : (e : Refusal) → cover_of (Err e) ≡ E.Refused (number e)
unfolding cover_of
cover_refusal e = refl
