-- One round through the centre on the running code: the program's bytes are those of the list (`demand3_on_code`), so what `one_round`
-- says of the list's stores holds of the bytes that the program keeps.
use mathlib.Core.Path.{sym, subst}
use mathlib.Core.List.{List, ◌∷◌, ◌++◌}
use Prim.Native.Nat.{ℕ}
use Rattle.layout.specs.Knowledge.{basic, base, All}
use Rattle.layout.proofs.Numbers.{all_front}
use Rattle.replication.specs.Call.{ReplicaId, Call, Given}
use Rattle.replication.specs.Lists.{World}
use Rattle.replication.specs.Promise.{store_after}
use Rattle.corollaries.specs.Round.{Server, Round, Alike, after_round}
use Rattle.corollaries.proofs.Round.Moments.{all_behind}
use Rattle.corollaries.proofs.Round.OneRound.{one_round_basic}
use Rattle.joined.specs.Program.{Reached}
use Rattle.joined.proofs.OnCode.{reached_here, demand3_on_code}

pub round_on_code : (before gather spread : List Call) (w : World) (centre : ℕ) (districts : List ℕ)
    → Reached (after_round before gather spread) w → Round basic before gather spread centre districts
    → (p q : ℕ) → ReplicaId p → ReplicaId q → Server p (centre ∷ districts) → Server q (centre ∷ districts)
    → Alike base (w.stores p) (w.stores q)
round_on_code before gather spread w centre districts r round p q sp sq x y =
    let given = (reached_here (after_round before gather spread) w r).given in
    let half : All Given (before ++ gather) = all_front Given (before ++ gather) spread given in
    let same = (demand3_on_code (after_round before gather spread) w r).stores in
    subst (λ (s : List ℕ). Alike base s (w.stores q)) (sym (same p sp))
    (subst (Alike base (store_after basic (after_round before gather spread) p)) (sym (same q sq))
    (one_round_basic.alike before gather spread centre districts (all_front Given before gather half) (all_behind Given before gather half)
    (all_behind Given (before ++ gather) spread given) round p q sp sq x y))
