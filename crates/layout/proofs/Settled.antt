-- The table of faults and the lawful knowledges share out all bytes: any bytes have one fault or are those of a lawful knowledge,
-- never both and never two faults. So `table_exact` and `exact` settle the check's answer: there is no second one that meets them.
use Prim.Native.Nat.{ℕ}
use mathlib.Core.Path.{◌≡◌, refl}
use mathlib.Core.Logic.{◌⊎◌, inl, inr}
use mathlib.Core.List.{List}
use native.Mathlib.Omega.{arith}
use Rattle.codec.specs.Number.{Bytes}
use Rattle.codec.specs.Parsed.{Parsed, accepted, refused}
use Rattle.layout.specs.Knowledge.{Rules, Knowledge, encode, Lawful}
use Rattle.layout.specs.Permitted.{Permitted}
use Rattle.layout.specs.Parse.{parse}
use Rattle.layout.proofs.Exact.{exact}
use Rattle.layout.proofs.Table.{Faulty}
use Rattle.layout.proofs.TableExact.{parse_table}

-- two readings of one list of bytes
same_number : (i j : ℕ) (p : Parsed Knowledge) → p ≡ refused i → p ≡ refused j → i ≡ j
same_number i j p e f = cc

not_both : (j : ℕ) (k : Knowledge) (p : Parsed Knowledge) → p ≡ refused j → p ≡ accepted k → ⊥
not_both j k p e f =
    let z : ◌≡◌ {A = ℕ} 0 1 = cc in
    omega arith

module _ (R : Rules) (permitted : Permitted R.limits) (s : List ℕ) (bs : Bytes s) where
  pub one_fault : (i j : ℕ) → Faulty R s i → Faulty R s j → i ≡ j
  one_fault i j f g = same_number i j (parse R s) ((parse_table R permitted s bs i).1 f) ((parse_table R permitted s bs j).1 g)

  pub no_lawful_fault : (j : ℕ) (k : Knowledge) → Faulty R s j → s ≡ encode k → Lawful R k → ⊥
  no_lawful_fault j k f e l = not_both j k (parse R s) ((parse_table R permitted s bs j).1 f) ((exact R permitted s k bs).1 (e, l))

  pub fault_or_lawful : ((j : ℕ) × Faulty R s j) ⊎ ((k : Knowledge) × ((s ≡ encode k) × Lawful R k))
  fault_or_lawful = go (parse R s) refl
    where
      go : (p : Parsed Knowledge) → parse R s ≡ p → ((j : ℕ) × Faulty R s j) ⊎ ((k : Knowledge) × ((s ≡ encode k) × Lawful R k))
      go (refused j) e = inl (j, (parse_table R permitted s bs j).0 e)
      go (accepted k) e = inr (k, (exact R permitted s k bs).0 e)
