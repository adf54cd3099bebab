-- What project writes, and that normalise leaves a normal form as it is: a normal form is its own normal form and within the limits it
-- was read with, so its own bytes are given; and what normalise gives is a normal form.
use Prim.Native.Nat.{ℕ}
use mathlib.Core.Path.{◌≡◌, refl, sym, ◌∙◌, ap, subst}
use mathlib.Core.Logic.{◌↔◌}
use mathlib.Core.List.{List}
use Rattle.codec.specs.Number.{Bytes}
use Rattle.codec.specs.Reply.{Reply, gives}
use Rattle.layout.specs.Knowledge.{Rules, basic, Knowledge, Lawful, encode}
use Rattle.layout.specs.Permitted.{Permitted}
use Rattle.layout.specs.Parse.{parse}
use Rattle.layout.proofs.Exact.{exact, base_permitted}
use Rattle.ticks.specs.Meaning.{Normal}
use Rattle.ticks.specs.Operations.{normalise, project, too_many_replicas, too_many_ranges}
use Rattle.ticks.specs.Calls.{id_of, normalise_reply}
use Rattle.ticks.specs.Demand2.{Normalised}
use Rattle.ticks.specs.Results.{Projected, Results}
use Rattle.ticks.proofs.Equality.{clash}
use Rattle.ticks.proofs.Operations.{normalise_normal, normal_project, known_project}
use Rattle.ticks.proofs.Counts.{replicas_fit, ranges_fit}
use Rattle.ticks.proofs.LawfulResults.{lawful_project}
use Rattle.ticks.proofs.Replies.{read_lawful, ResultSays, over_replicas, over_ranges, result_given, NormaliseSays, normalise_own}
use Rattle.ticks.proofs.Replies.{normalise_result, normalise_says, ProjectSays, project_own, project_17, project_result}
use Rattle.ticks.proofs.Replies.{project_says}
use Rattle.ticks.proofs.Demand2.{gave, accepted_same, not_refused, Given, given_result, given_normal, demand2}
use Rattle.codec.specs.Parsed.{accepted}

-- a lawful knowledge's own bytes are given
given_own : (R : Rules) (k : Knowledge) {r : Reply} → Lawful R k → ResultSays R.limits k r → r ≡ gives (encode k)
given_own R k l (over_replicas e) = clash (too_many_replicas R.limits k) e ((replicas_fit R.limits k).1 l.replicas)
given_own R k l (over_ranges e f) = clash (too_many_ranges R.limits k) f ((ranges_fit R.limits k).1 l.ranges)
given_own R k l (result_given e f) = refl

module _ (R : Rules) (permitted : Permitted R.limits) where
  written_anew : (s : List ℕ) (k : Knowledge) → Bytes s → parse R s ≡ accepted k → Normal k → {r : Reply} → NormaliseSays R s r → r ≡ gives s
  written_anew s k b e n (normalise_own m h) = not_refused k m (parse R s) e h
  written_anew s k b e n (normalise_result a r h w) =
      let same : normalise a ≡ k = ap normalise (accepted_same a k (parse R s) h e) ∙ normalise_normal k n in
      given_own R k (read_lawful R s k permitted b e) (subst (λ l. ResultSays R.limits l r) same w)
      ∙ ap gives (sym ((exact R permitted s k b).0 e).0)

  test_of : (s : List ℕ) (k : Knowledge) → Bytes s → parse R s ≡ accepted k → Normal k ↔ (normalise_reply R s ≡ gives s)
  test_of s k b e = (
    (λ n. written_anew s k b e n (normalise_says R s)),
    (λ q.
        let w : Normalised R s s = (demand2 R permitted).normalised s s b q in
        subst Normal (accepted_same w.result k (parse R s) w.normal.back e) w.normal.form),
  )

  projected_of : (s first last bs : List ℕ) → Bytes s → {r : Reply} → ProjectSays R s first last r → r ≡ gives bs → Projected R s first last bs
  projected_of s first last bs b (project_own n h) q = gave n bs q
  projected_of s first last bs b (project_17 k h w) q = gave 17 bs q
  projected_of s first last bs b (project_result k r h f w) q =
      let k' = project (id_of 24 first) (id_of 24 last) k in
      let g : Given R k' bs = given_result R k' bs w q in
      record {
        given = k;
        result = k';
        read = h;
        normal =
            given_normal R permitted k' bs g
            (lawful_project R (id_of 24 first) (id_of 24 last) k (read_lawful R s k permitted b h) g.short)
            (normal_project (id_of 24 first) (id_of 24 last) k);
        ticks = λ i p l small. known_project (id_of 24 first) (id_of 24 last) k i p l;
      }

  pub results : Results R
  results = record {
    test = test_of;
    projected = λ s first last bs b q. projected_of s first last bs b (project_says R s first last) q;
  }

-- with document 01's limits
pub results_basic : Results basic
results_basic = results basic base_permitted
