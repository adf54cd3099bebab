-- What is said of a normalise, a merge and a project settles the bytes: at most one byte string meets it. The results have the
-- same versions or ticks, for every item id and every replica id of 16 bytes; their own bytes read back as them, so their maps
-- have no other ids; and normal forms with the same ticks are equal. So a statement that left out a version, a tick or a
-- condition would not do here. What is said of contain, lead and cover settles number and value, for all arguments; and the tables of
-- normalise, merge and project settle the reply, refused or not, for all arguments.
use Prim.Native.Nat.{ℕ, ◌^◌, ◌≤◌, ◌<◌}
use mathlib.Core.Path.{◌≡◌, refl, sym, ◌∙◌, ap, subst}
use mathlib.Core.Logic.{◌⊎◌, inl, inr, ◌↔◌}
use mathlib.Core.Bool.{Bool, true, false}
use mathlib.Core.List.{List}
use native.Mathlib.Omega.{arith}
use lib.Dec.{eqb}
use Rattle.codec.specs.Number.{Bytes, be_at}
use Rattle.codec.specs.Reply.{Reply, refuses}
use Rattle.layout.specs.Knowledge.{Limits, Rules, Knowledge, encode}
use Rattle.layout.specs.Permitted.{Permitted}
use Rattle.layout.specs.Parse.{parse}
use Rattle.layout.proofs.Forward.{encode_bytes}
use Rattle.ticks.specs.Meaning.{highest, known, contains}
use Rattle.ticks.specs.Operations.{normalise, merge, project, known_inside, too_many_replicas, too_many_ranges}
use Rattle.ticks.specs.Calls.{contain_number, contain_value, lead_number, lead_value, cover_number, cover_value, id_of, wrong_ids, wrong_span}
use Rattle.ticks.specs.Contain.{Contain}
use Rattle.ticks.specs.Lead.{Lead}
use Rattle.ticks.specs.Cover.{Cover}
use Rattle.ticks.specs.Answers.{RefusedWith, ContainSays, Difference, LeadSays, AtLeast, ProperIds, ProperSpan, CoverSays}
use Rattle.ticks.specs.Demand2.{SameVersions, NormalBytes, Normalised, Merged, Decides}
use Rattle.ticks.specs.Results.{Projected}
use Rattle.ticks.proofs.Equality.{clash, eqb_exact, exact?}
use Rattle.ticks.proofs.Answers.{wrong_ids_exact, span_exact}
use Rattle.ticks.proofs.Lists.{less, same, more, order}
use Rattle.ticks.proofs.Unique.{SameTicks, normal_unique}
use Rattle.ticks.proofs.Algebra.{IdsOf16, ticks_of_16, versions_ticks}
use Rattle.ticks.proofs.Replies.{read_lawful, ResultSays, over_replicas, over_ranges, result_given}
use Rattle.ticks.proofs.Replies.{NormaliseSays, normalise_own, normalise_result, MergeSays, merge_first, merge_second_lem, merge_result}
use Rattle.ticks.proofs.Replies.{ProjectSays, project_own, project_17, project_result}
use Rattle.ticks.proofs.Demand2.{accepted_same, not_refused}
use Rattle.codec.specs.Parsed.{Parsed, accepted, refused}

-- two tests that are exact for the same are equal
pub same_truth : (b c : Bool) (P : Type 0) → (b ≡ true) ↔ P → (c ≡ true) ↔ P → b ≡ c
same_truth true true P e f = refl
same_truth true false P e f = clash false (f.1 (e.0 refl)) refl
same_truth false true P e f = clash false (e.1 (f.0 refl)) refl
same_truth false false P e f = refl

-- what is said of a result: it has the versions of c; those of c or of d; the ticks of c inside a span

versions_settle : (a b c d : Knowledge) → c ≡ d → SameVersions a c → SameVersions b d → SameVersions a b
versions_settle a b c d e f g = record {
  both = λ i p t h small. f.both i p t h small ∙ ap (λ k. contains k i p t) e ∙ sym (g.both i p t h small);
}

abbrev Either : Knowledge → Knowledge → Knowledge → Type 0
Either a c d = (i p t : ℕ) → i ≤ highest → p < 256 ^ 16
    → (contains a i p t ≡ true) ↔ ((contains c i p t ≡ true) ⊎ (contains d i p t ≡ true))

either_settle : (a b c d : Knowledge) → Either a c d → Either b c d → SameVersions a b
either_settle a b c d f g = record {
  both = λ i p t h small.
      same_truth (contains a i p t) (contains b i p t) ((contains c i p t ≡ true) ⊎ (contains d i p t ≡ true))
      (f i p t h small) (g i p t h small);
}

abbrev Inside : ℕ → ℕ → Knowledge → Knowledge → Type 0
Inside first last a c = (i p : ℕ) → i ≤ highest → p < 256 ^ 16 → known a i p ≡ known_inside first last c i p

inside_settle : (first last : ℕ) (a b c : Knowledge) → IdsOf16 a → IdsOf16 b
    → Inside first last a c → Inside first last b c → SameTicks a b
inside_settle first last a b c x y f g = ticks_of_16 a b x y (λ i p h small. f i p h small ∙ sym (g i p h small))

module _ (R : Rules) (permitted : Permitted R.limits) where
  -- bytes that read back have replica ids of 16 bytes
  back_ids : (bs : List ℕ) (k : Knowledge) → NormalBytes R bs k → IdsOf16 k
  back_ids bs k n = (read_lawful R bs k permitted (subst Bytes (sym n.bytes) (encode_bytes k)) n.back).ids

  same_bytes : (bs cs : List ℕ) (a b : Knowledge) → NormalBytes R bs a → NormalBytes R cs b → SameTicks a b → bs ≡ cs
  same_bytes bs cs a b x y s = x.bytes ∙ ap encode (normal_unique a b x.form y.form s.known) ∙ sym y.bytes

  pub normalised_settled : (s bs cs : List ℕ) → Normalised R s bs → Normalised R s cs → bs ≡ cs
  normalised_settled s bs cs x y =
      let e : x.given ≡ y.given = accepted_same x.given y.given (parse R s) x.read y.read in
      same_bytes bs cs x.result y.result x.normal y.normal
      (versions_ticks x.result y.result (back_ids bs x.result x.normal) (back_ids cs y.result y.normal)
      (versions_settle x.result y.result x.given y.given e x.versions y.versions))

  pub merged_settled : (s t bs cs : List ℕ) → Merged R s t bs → Merged R s t cs → bs ≡ cs
  merged_settled s t bs cs x y =
      let e : y.one ≡ x.one = accepted_same y.one x.one (parse R s) y.first x.first in
      let f : y.other ≡ x.other = accepted_same y.other x.other (parse R t) y.second x.second in
      let g : Either y.result x.one y.other = subst (λ k. Either y.result k y.other) e y.versions in
      same_bytes bs cs x.result y.result x.normal y.normal
      (versions_ticks x.result y.result (back_ids bs x.result x.normal) (back_ids cs y.result y.normal)
      (either_settle x.result y.result x.one x.other x.versions (subst (Either y.result x.one) f g)))

  pub projected_settled : (s first last bs cs : List ℕ) → Projected R s first last bs → Projected R s first last cs → bs ≡ cs
  projected_settled s first last bs cs x y =
      let e : y.given ≡ x.given = accepted_same y.given x.given (parse R s) y.read x.read in
      same_bytes bs cs x.result y.result x.normal y.normal
      (inside_settle (id_of 24 first) (id_of 24 last) x.result y.result x.given
      (back_ids bs x.result x.normal) (back_ids cs y.result y.normal)
      x.ticks (subst (Inside (id_of 24 first) (id_of 24 last) y.result) e y.ticks))

-- two answers have the same number and, from the same old value, the same value
pub record SameAnswer {A B : Type 0} (number : A → ℕ) (value : A → B → B) (x y : A) : Type 0 where
  pub numbers : number x ≡ number y
  pub values : (old : B) → value x old ≡ value y old

gives_back : {P Q : Type 0} → P ↔ Q → Q → P
gives_back e = e.1

module _ {A : Type 0} (number : A → ℕ) (x y : A) where
  refused_settle : {B : Type 0} (value : A → B → B) (n : ℕ) → RefusedWith number value x n → RefusedWith number value y n
      → SameAnswer number value x y
  refused_settle value n f g = record { numbers = f.told ∙ sym g.told; values = λ old. f.stays old ∙ sym (g.stays old) }

  decides_settle : (value : A → ℕ → ℕ) (P : Type 0) → Decides number value x P → Decides number value y P
      → SameAnswer number value x y
  decides_settle value P f g = record {
    numbers = f.fine ∙ sym g.fine;
    values = λ old.
        elim (exact? eqb eqb_exact (value x old) 1) [
          | inl e ↦ e ∙ sym ((g.yes old).1 ((f.yes old).0 e))
          | inr n ↦ let no : P → ⊥ = λ q. n ((f.yes old).1 q) in gives_back (f.no old) no ∙ sym (gives_back (g.no old) no)
        ];
  }

-- 17's condition holds or not
or_not : (w : Bool) (P : Type 0) → (w ≡ false) ↔ P → P ⊎ (P → ⊥)
or_not true P e = inr (λ q. clash true refl (e.1 q))
or_not false P e = inl (e.0 refl)

module _ (R : Rules) where
  pub contain_settled : (s item replica : List ℕ) (t : ℕ) (x y : Contain)
      → ContainSays R s item replica t x → ContainSays R s item replica t y → SameAnswer contain_number contain_value x y
  contain_settled s item replica t x y f g = go (parse R s) refl (or_not (wrong_ids item replica) (ProperIds item replica) (wrong_ids_exact item replica))
    where
      go : (p : Parsed Knowledge) → parse R s ≡ p → ProperIds item replica ⊎ (ProperIds item replica → ⊥)
          → SameAnswer contain_number contain_value x y
      go (refused n) e w = refused_settle contain_number x y contain_value n (f.own n e) (g.own n e)
      go (accepted k) e (inr w) = refused_settle contain_number x y contain_value 17 (f.ids k e w) (g.ids k e w)
      go (accepted k) e (inl w) =
          decides_settle contain_number x y contain_value ((1 ≤ t) × (t ≤ known k (be_at item 24 0) (be_at replica 16 0)))
          (f.found k e w) (g.found k e w)

  difference_settle : (a b : ℕ) (x y : Lead) → Difference x a b → Difference y a b → SameAnswer lead_number lead_value x y
  difference_settle a b x y f g = record {
    numbers = f.fine ∙ sym g.fine;
    values = λ old.
        elim (order a b) [
          | less h ↦ f.behind h old ∙ sym (g.behind h old)
          | same h ↦ let l : b ≤ a = omega arith in f.ahead l old ∙ sym (g.ahead l old)
          | more h ↦ let l : b ≤ a = omega arith in f.ahead l old ∙ sym (g.ahead l old)
        ];
  }

  pub lead_settled : (s t item replica : List ℕ) (x y : Lead) → LeadSays R s t item replica x → LeadSays R s t item replica y
      → SameAnswer lead_number lead_value x y
  lead_settled s t item replica x y f g = go (parse R s) refl (parse R t) refl (or_not (wrong_ids item replica) (ProperIds item replica) (wrong_ids_exact item replica))
    where
      go : (p : Parsed Knowledge) → parse R s ≡ p → (q : Parsed Knowledge) → parse R t ≡ q
          → ProperIds item replica ⊎ (ProperIds item replica → ⊥) → SameAnswer lead_number lead_value x y
      go (refused n) e q h w = refused_settle lead_number x y lead_value n (f.one n e) (g.one n e)
      go (accepted a) e (refused n) h w = refused_settle lead_number x y lead_value n (f.other a n e h) (g.other a n e h)
      go (accepted a) e (accepted b) h (inr w) = refused_settle lead_number x y lead_value 17 (f.ids a b e h w) (g.ids a b e h w)
      go (accepted a) e (accepted b) h (inl w) =
          difference_settle (known a (be_at item 24 0) (be_at replica 16 0)) (known b (be_at item 24 0) (be_at replica 16 0)) x y
          (f.found a b e h w) (g.found a b e h w)

  pub cover_settled : (s t first last : List ℕ) (x y : Cover) → Bytes t
      → CoverSays R s t first last x → CoverSays R s t first last y → SameAnswer cover_number cover_value x y
  cover_settled s t first last x y octets f g = go (parse R s) refl (parse R t) refl (or_not (wrong_span first last) (ProperSpan first last) (span_exact first last))
    where
      go : (p : Parsed Knowledge) → parse R s ≡ p → (q : Parsed Knowledge) → parse R t ≡ q
          → ProperSpan first last ⊎ (ProperSpan first last → ⊥) → SameAnswer cover_number cover_value x y
      go (refused n) e q h w = refused_settle cover_number x y cover_value n (f.one n e) (g.one n e)
      go (accepted a) e (refused n) h w = refused_settle cover_number x y cover_value n (f.other a n e h) (g.other a n e h)
      go (accepted a) e (accepted b) h (inr w) =
          refused_settle cover_number x y cover_value 17 (f.span a b e h w) (g.span a b e h w)
      go (accepted a) e (accepted b) h (inl w) =
          decides_settle cover_number x y cover_value (AtLeast a b (be_at first 24 0) (be_at last 24 0))
          (f.found a b octets e h w) (g.found a b octets e h w)

-- Normalise, merge and project, refused or not: one reply only
same_refusal : (i j : ℕ) (p : Parsed Knowledge) → p ≡ refused i → p ≡ refused j → refuses i ≡ refuses j
same_refusal i j p e f = let same : i ≡ j = cc in ap refuses same

result_settled : (L : Limits) (k : Knowledge) {r u : Reply} → ResultSays L k r → ResultSays L k u → r ≡ u
result_settled L k (over_replicas e) (over_replicas f) = refl
result_settled L k (over_replicas e) (over_ranges f g) = clash (too_many_replicas L k) e f
result_settled L k (over_replicas e) (result_given f g) = clash (too_many_replicas L k) e f
result_settled L k (over_ranges e h) (over_replicas f) = clash (too_many_replicas L k) f e
result_settled L k (over_ranges e h) (over_ranges f g) = refl
result_settled L k (over_ranges e h) (result_given f g) = clash (too_many_ranges L k) h g
result_settled L k (result_given e h) (over_replicas f) = clash (too_many_replicas L k) f e
result_settled L k (result_given e h) (over_ranges f g) = clash (too_many_ranges L k) g h
result_settled L k (result_given e h) (result_given f g) = refl

-- of results that are the same
results_settled : (L : Limits) (j k : Knowledge) {r u : Reply} → j ≡ k → ResultSays L j r → ResultSays L k u → r ≡ u
results_settled L j k {r} e x y = result_settled L k (subst (λ l. ResultSays L l r) e x) y

module _ (R : Rules) where
  pub normalise_settled : (s : List ℕ) {r u : Reply} → NormaliseSays R s r → NormaliseSays R s u → r ≡ u
  normalise_settled s (normalise_own n e) (normalise_own m f) = same_refusal n m (parse R s) e f
  normalise_settled s (normalise_own n e) (normalise_result k u f y) = not_refused k n (parse R s) f e
  normalise_settled s (normalise_result j r e x) (normalise_own m f) = not_refused j m (parse R s) e f
  normalise_settled s (normalise_result j r e x) (normalise_result k u f y) =
      results_settled R.limits (normalise j) (normalise k) (ap normalise (accepted_same j k (parse R s) e f)) x y

  pub merge_settled : (s t : List ℕ) {r u : Reply} → MergeSays R s t r → MergeSays R s t u → r ≡ u
  merge_settled s t (merge_first n e) (merge_first m f) = same_refusal n m (parse R s) e f
  merge_settled s t (merge_first n e) (merge_second_lem a m f g) = not_refused a n (parse R s) f e
  merge_settled s t (merge_first n e) (merge_result a b u f g y) = not_refused a n (parse R s) f e
  merge_settled s t (merge_second_lem a n e h) (merge_first m f) = not_refused a m (parse R s) e f
  merge_settled s t (merge_second_lem a n e h) (merge_second_lem c m f g) = same_refusal n m (parse R t) h g
  merge_settled s t (merge_second_lem a n e h) (merge_result c d u f g y) = not_refused d n (parse R t) g h
  merge_settled s t (merge_result a b r e h x) (merge_first m f) = not_refused a m (parse R s) e f
  merge_settled s t (merge_result a b r e h x) (merge_second_lem c m f g) = not_refused b m (parse R t) h g
  merge_settled s t (merge_result a b r e h x) (merge_result c d u f g y) =
      results_settled R.limits (merge a b) (merge c d)
      (ap (λ k. merge k b) (accepted_same a c (parse R s) e f) ∙ ap (merge c) (accepted_same b d (parse R t) h g)) x y

  pub project_settled : (s first last : List ℕ) {r u : Reply} → ProjectSays R s first last r → ProjectSays R s first last u → r ≡ u
  project_settled s first last (project_own n e) (project_own m f) = same_refusal n m (parse R s) e f
  project_settled s first last (project_own n e) (project_17 k f g) = not_refused k n (parse R s) f e
  project_settled s first last (project_own n e) (project_result k u f g y) = not_refused k n (parse R s) f e
  project_settled s first last (project_17 j e w) (project_own m f) = not_refused j m (parse R s) e f
  project_settled s first last (project_17 j e w) (project_17 k f g) = refl
  project_settled s first last (project_17 j e w) (project_result k u f g y) = clash (wrong_span first last) w g
  project_settled s first last (project_result j r e w x) (project_own m f) = not_refused j m (parse R s) e f
  project_settled s first last (project_result j r e w x) (project_17 k f g) = clash (wrong_span first last) g w
  project_settled s first last (project_result j r e w x) (project_result k u f g y) =
      results_settled R.limits (project (id_of 24 first) (id_of 24 last) j) (project (id_of 24 first) (id_of 24 last) k)
      (ap (project (id_of 24 first) (id_of 24 last)) (accepted_same j k (parse R s) e f)) x y
