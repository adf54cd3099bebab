-- The distinct rows of a plan: each row is alike to one of them, so a column that none of them uses has tick 0 in every row.
use Prim.Native.Nat.{ℕ, zero, suc, ◌+◌, ◌≤◌, ◌<◌}
use mathlib.Core.Path.{◌≡◌, refl, sym, ◌∙◌, ap}
use mathlib.Core.Logic.{◌⊎◌, inl, inr, ⊎_elim}
use mathlib.Core.Bool.{Bool, true, false}
use mathlib.Core.List.{List, [], ◌∷◌}
use native.Mathlib.Omega.{arith}
use lib.Dec.{eqb}
use lib.ListN.{length}
use Rattle.ticks.specs.Meaning.{place_by}
use Rattle.ticks.proofs.Lists.{Among, less, same as equal, more, order, among_left, among_right, among_cases}
use Rattle.ticks.proofs.Equality.{eqb_exact, exact?}
use Rattle.tables.specs.MethodPlan.{same, rows_from, grown_by, firsts_from, firsts_of, used_in, columns_of}
use Rattle.tables.proofs.Clauses.{rows-suc, place_by_later, grown_by_old, grown_by_new, firsts-nil, firsts-cons, firsts_of_lem}
use Rattle.tables.proofs.Alike.{same_agree, same_self}
use Rattle.tables.proofs.Columns.{unused-zero, columns_of_in}

pub rows_among : (k n j : ℕ) → k ≤ j → j < k + n → Among j (rows_from k n)
rows_among k zero j h l = absurd (omega arith)
rows_among k (suc n) j h l =
    elim (exact? eqb eqb_exact j k) [
      | inl e ↦ rw rows-suc (inl e)
      | inr d ↦ rw rows-suc (inr (rows_among (k + 1) n j (omega (arith, d)) (omega arith)))
    ]

module _ (eq : ℕ → ℕ → Bool) where
  -- one of the rows is alike to row k
  pub record Met (k : ℕ) (rows : List ℕ) : Type 0 where
    pub row : ℕ
    pub among : Among row rows
    pub alike : eq row k ≡ true

  pub place_by_met : (k : ℕ) (seen : List ℕ) → place_by eq k seen < length seen → Met k seen
  place_by_met k [] h = absurd (omega arith)
  place_by_met k (j ∷ seen) h = go (eq j k) refl (place_by_met k seen)
    where
      go : (t : Bool) → eq j k ≡ t → (place_by eq k seen < length seen → Met k seen) → Met k (j ∷ seen)
      go true e f = record { row = j; among = inl refl; alike = e }
      go false e f =
          let m : Met k seen = f (omega (arith, place_by_later eq k j seen e)) in
          record { row = m.row; among = inr m.among; alike = m.alike }

  pub grown_by_keeps : (seen : List ℕ) (k j : ℕ) → Among j seen → Among j (grown_by eq seen k)
  grown_by_keeps seen k j m =
      elim (order (place_by eq k seen) (length seen)) [
        | less h ↦ rw (grown_by_old eq seen k h) m
        | equal h ↦ let l : length seen ≤ place_by eq k seen = omega arith in rw (grown_by_new eq seen k l) (among_left j seen (k ∷ []) m)
        | more h ↦ let l : length seen ≤ place_by eq k seen = omega arith in rw (grown_by_new eq seen k l) (among_left j seen (k ∷ []) m)
      ]

  pub grown_by_only : (seen : List ℕ) (k j : ℕ) → Among j (grown_by eq seen k) → (j ≡ k) ⊎ Among j seen
  grown_by_only seen k j m =
      elim (order (place_by eq k seen) (length seen)) [
        | less h ↦ inr (rw (grown_by_old eq seen k h) at m)
        | equal h ↦ new (omega arith)
        | more h ↦ new (omega arith)
      ]
    where
      new : length seen ≤ place_by eq k seen → (j ≡ k) ⊎ Among j seen
      new l =
          ⊎_elim (λ o. inr o) (λ o. ⊎_elim (λ e. inl e) (λ a. absurd a) o)
          (among_cases j seen (k ∷ []) (rw (grown_by_new eq seen k l) at m))

  module _ (self : (k : ℕ) → eq k k ≡ true) where
    pub grown_by_met : (seen : List ℕ) (k : ℕ) → Met k (grown_by eq seen k)
    grown_by_met seen k =
        elim (order (place_by eq k seen) (length seen)) [
          | less h ↦ rw (grown_by_old eq seen k h) (place_by_met k seen h)
          | equal h ↦ new (omega arith)
          | more h ↦ new (omega arith)
        ]
      where
        new : length seen ≤ place_by eq k seen → Met k (grown_by eq seen k)
        new l = rw (grown_by_new eq seen k l) (record { row = k; among = among_right k seen (k ∷ []) (inl refl); alike = self k })

    pub firsts_keep : (seen ks : List ℕ) (j : ℕ) → Among j seen → Among j (firsts_from eq seen ks)
    firsts_keep seen [] j m = rw firsts-nil m
    firsts_keep seen (k ∷ ks) j m = rw firsts-cons (firsts_keep (grown_by eq seen k) ks j (grown_by_keeps seen k j m))

    pub firsts_met : (seen ks : List ℕ) (k : ℕ) → Among k ks → Met k (firsts_from eq seen ks)
    firsts_met seen [] k m = absurd m
    firsts_met seen (j ∷ ks) k m =
        rw firsts-cons (⊎_elim (λ e. here e (grown_by_met seen j)) (λ o. firsts_met (grown_by eq seen j) ks k o) m)
      where
        here : k ≡ j → Met j (grown_by eq seen j) → Met k (firsts_from eq (grown_by eq seen j) ks)
        here e g = record {
          row = g.row;
          among = firsts_keep (grown_by eq seen j) ks g.row g.among;
          alike = ap (eq g.row) e ∙ g.alike;
        }

module _ (T : ℕ → ℕ → ℕ) (r n : ℕ) where
  -- row 0 and each row that has a range is alike to a distinct one
  pub firsts_of_met : (k : ℕ) → k ≤ n → Met (same T r) k (firsts_of T r n)
  firsts_of_met zero h =
      rw firsts_of_lem
      (record { row = 0; among = firsts_keep (same T r) (same_self T r) (0 ∷ []) (rows_from 1 n) 0 (inl refl); alike = same_self T r 0 })
  firsts_of_met (suc k) h =
      rw firsts_of_lem (firsts_met (same T r) (same_self T r) (0 ∷ []) (rows_from 1 n) (suc k) (rows_among 1 n (suc k) (omega arith) (omega arith)))

  -- a column that is not in the plan has tick 0 in every row
  pub out-zero : (P : ℕ → ℕ) (k c : ℕ) → k ≤ n → c < r → (Among c (columns_of P T r (firsts_of T r n)) → ⊥) → T k c ≡ 0
  out-zero P k c h l out =
      let m : Met (same T r) k (firsts_of T r n) = firsts_of_met k h in
      sym (same_agree T m.row k r c m.alike l) ∙ go (used_in T (firsts_of T r n) c) refl m.row m.among
    where
      go : (t : Bool) → used_in T (firsts_of T r n) c ≡ t → (j : ℕ) → Among j (firsts_of T r n) → T j c ≡ 0
      go true u j a = absurd (out (columns_of_in P T (firsts_of T r n) r c l u))
      go false u j a = unused-zero T (firsts_of T r n) j c u a
