-- The length of a table. Both kinds of records have the same length, so n records that stand from a place on, up to the very end of the bytes,
-- take just n times that length: bytes of another length hold no such table. Where the length is right, a whole record stands wherever one
-- of a known kind begins, as long as records are left.
use Prim.Native.Nat.{ℕ, zero, suc, ◌+◌, ◌-◌, ◌*◌, ◌≤◌, ◌<◌}
use mathlib.Core.Path.{◌≡◌, refl, sym, ◌∙◌}
use mathlib.Core.Bool.{Bool, true, false}
use mathlib.Core.List.{List}
use native.Mathlib.Omega.{arith}
use lib.ListN.{length, get_or}
use borrow.Author.Tests.{eqb-true}
use Rattle.replication.specs.Reading.{rec_length, behind, rec_at}
use Rattle.replication.specs.MethodRecords.{shaped_at, WholeAt}
use Rattle.replication.proofs.Tables.InBytes.{whole_at, shaped_nil}
use Rattle.replication.proofs.Opening.Records.{ordered_parts}
use Rattle.replication.specs.Queries.{length_at}
use Rattle.records.specs.Method.{common_length}
use Rattle.records.proofs.Fields.{length_most, length-there, length_stands, length-size}

-- ---- the whole table

pub table-length : (s : List ℕ) (lo n at : ℕ) → shaped_at s lo n at ≡ true → at + common_length * n ≡ length s
table-length s lo zero at e = omega (arith, eqb-true at (length s) (sym (shaped_nil s lo at) ∙ e))
table-length s lo (suc n) at e =
    let o = ordered_parts s lo n at e in
    omega (arith, (whole_at s at o.whole).ends, table-length s (suc (rec_at s at).item) n (behind s at) o.rest)

module _ (s : List ℕ) (n at : ℕ) where
  not_shaped : (shaped_at s 0 n at ≡ true → ⊥) → false ≡ shaped_at s 0 n at
  not_shaped never = go (shaped_at s 0 n at) refl
    where
      go : (t : Bool) → shaped_at s 0 n at ≡ t → false ≡ shaped_at s 0 n at
      go true e = absurd (never e)
      go false e = sym e

  pub table_past : length s < at → false ≡ shaped_at s 0 n at
  table_past l = not_shaped (λ e. omega (arith, table-length s 0 n at e))

  pub table_other : at ≤ length s → (length s - at ≡ common_length * n → ⊥) → false ≡ shaped_at s 0 n at
  table_other l never = not_shaped (λ e. never (omega (arith, table-length s 0 n at e)))

-- ---- the records that are left

module _ (s : List ℕ) (at left : ℕ) (room : at + common_length * left ≡ length s) (took : 0 < left) where
  module _ (kind m : ℕ) (e : kind ≡ get_or s at 0) (f : m ≡ rec_length kind) where
    pub left-length : m ≡ length_at s at
    left-length = length-there s at kind m e f (omega arith) (omega (arith, length_most kind))

    module _ (z : m ≡ 0 → ⊥) where
      pub left_whole : WholeAt s at
      left_whole = whole_at s at (length_stands s at m left-length z)

      pub left-size : m ≡ common_length
      left-size = omega (arith, left-length, length-size s at (length_stands s at m left-length z))
