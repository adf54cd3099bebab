-- A replica that is not in the map of a knowledge is one replica more in the raised knowledge: each replica of a knowledge in normal form has a
-- tick at some item, which it keeps, and the new one has its own. And a result with more replicas than the limit is refused with 11.
use Prim.Native.Nat.{ℕ, suc, ◌≤◌, ◌<◌}
use mathlib.Core.Path.{◌≡◌, refl, subst}
use mathlib.Core.Logic.{inl, inr}
use mathlib.Core.List.{List, [], ◌∷◌}
use native.Mathlib.Omega.{arith}
use lib.ListN.{length}
use Rattle.codec.specs.Reply.{Reply, refuses}
use Rattle.layout.specs.Knowledge.{Limits, Knowledge, All}
use Rattle.ticks.specs.Meaning.{Normal}
use Rattle.ticks.specs.Operations.{raise}
use Rattle.ticks.proofs.Lists.{Among}
use Rattle.ticks.proofs.Operations.{known_raise_own, known_raise_other}
use Rattle.ticks.proofs.Unique.{known_replica}
use Rattle.ticks.proofs.Counts.{distinct_count, replicas_are, replicas_fit}
use Rattle.ticks.proofs.Replies.{ResultSays, over_replicas, over_ranges, result_given}

apart : (p : ℕ) (ids : List ℕ) → (Among p ids → ⊥) → All (λ q. p ≡ q → ⊥) ids
apart p [] n = tt
apart p (q ∷ ids) n = (λ e. n (inl e), apart p ids (λ m. n (inr m)))

module _ (p t : ℕ) (k : Knowledge) (normal : Normal k) (new : Among p k.replicas → ⊥) (some : 1 ≤ t) where
  kept : (q : ℕ) → Among q (p ∷ k.replicas) → Among q (raise p t k).replicas
  kept q (inl e) = known_replica (raise p t k) 0 q (omega (arith, known_raise_own p t k 0 q (omega arith) e))
  kept q (inr m) =
      let w = (replicas_are k q normal.formed normal.used).0 m in
      let other : q ≡ p → ⊥ = λ e. new (subst (λ x. Among x k.replicas) e m) in
      known_replica (raise p t k) w.0 q (omega (arith, w.1.1, known_raise_other p t k w.0 q w.1.0 other))

  pub raise_more : suc (length k.replicas) ≤ length (raise p t k).replicas
  raise_more =
      distinct_count (p ∷ k.replicas) (raise p t k).replicas
      (apart p k.replicas new, normal.formed.sound.distinct) kept

pub over_11 : (L : Limits) (k : Knowledge) (r : Reply) → ResultSays L k r → L.replicas < length k.replicas → r ≡ refuses 11
over_11 L k r (over_replicas e) h = refl
over_11 L k r (over_ranges e f) h = absurd (omega (arith, (replicas_fit L k).0 e))
over_11 L k r (result_given e f) h = absurd (omega (arith, (replicas_fit L k).0 e))
