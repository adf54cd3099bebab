-- Demand 2 holds. The layout is exact; containment is read off the known ticks; normal forms are known by their ticks, so by
-- their versions; a result within the limits is lawful, so its bytes read back; and merge's known tick is the larger.
use Prim.Native.Nat.{ℕ}
use mathlib.Core.Path.{◌≡◌, sym, ◌∙◌, ap}
use mathlib.Core.Logic.{◌↔◌}
use mathlib.Core.Bool.{false}
use mathlib.Core.List.{List}
use native.Mathlib.Omega.{arith}
use Rattle.codec.specs.Number.{Bytes}
use Rattle.codec.specs.Reply.{Reply, gives, refuses}
use Rattle.layout.specs.Knowledge.{Rules, basic, Knowledge, Lawful, encode}
use Rattle.layout.specs.Permitted.{Permitted}
use Rattle.layout.specs.Parse.{parse}
use Rattle.layout.proofs.Exact.{exact, read_back, base_permitted}
use Rattle.ticks.specs.Meaning.{Normal}
use Rattle.ticks.specs.Operations.{normalise, merge, too_many_replicas, too_many_ranges}
use Rattle.ticks.specs.Demand2.{SameVersions, NormalBytes, Normalised, Merged, Demand2}
use Rattle.ticks.proofs.Operations.{normal_normalise, normal_merge}
use Rattle.ticks.proofs.Algebra.{versions_unique, contains_normalise, contains_merge}
use Rattle.ticks.proofs.LawfulResults.{lawful_normalise, lawful_merge}
use Rattle.ticks.proofs.Replies.{read_lawful, ResultSays, over_replicas, over_ranges, result_given, NormaliseSays, normalise_own}
use Rattle.ticks.proofs.Replies.{normalise_result, normalise_says, MergeSays, merge_first, merge_second_lem, merge_result, merge_says}
use Rattle.ticks.proofs.Answers.{contain_says}
use Rattle.codec.specs.Parsed.{Parsed, accepted, refused}

pub gave : (n : ℕ) (bs : List ℕ) {A : Type 0} → refuses n ≡ gives bs → A
gave n bs e = let z : ◌≡◌ {A = ℕ} 0 1 = cc in absurd (omega arith)

gave_same : (xs ys : List ℕ) → gives xs ≡ gives ys → xs ≡ ys
gave_same xs ys e = cc

pub accepted_same : (a b : Knowledge) (p : Parsed Knowledge) → p ≡ accepted a → p ≡ accepted b → a ≡ b
accepted_same a b p e f = cc

pub not_refused : (k : Knowledge) (n : ℕ) (p : Parsed Knowledge) {A : Type 0} → p ≡ accepted k → p ≡ refused n → A
not_refused k n p e f = let z : ◌≡◌ {A = ℕ} 0 1 = cc in absurd (omega arith)

-- a result that was given
pub record Given (R : Rules) (k : Knowledge) (bs : List ℕ) : Type 0 where
  pub few : too_many_replicas R.limits k ≡ false
  pub short : too_many_ranges R.limits k ≡ false
  pub bytes : bs ≡ encode k

pub given_result : (R : Rules) (k : Knowledge) (bs : List ℕ) {r : Reply} → ResultSays R.limits k r → r ≡ gives bs → Given R k bs
given_result R k bs (over_replicas e) q = gave 11 bs q
given_result R k bs (over_ranges e f) q = gave 12 bs q
given_result R k bs (result_given e f) q = record { few = e; short = f; bytes = sym (gave_same (encode k) bs q) }

module _ (R : Rules) (permitted : Permitted R.limits) where
  -- a lawful normal form that was given reads back
  pub given_normal : (k : Knowledge) (bs : List ℕ) → Given R k bs → Lawful R k → Normal k → NormalBytes R bs k
  given_normal k bs g l n = record { bytes = g.bytes; back = ap (parse R) g.bytes ∙ read_back R permitted k l; form = n }

  normalised_of : (s bs : List ℕ) → Bytes s → {r : Reply} → NormaliseSays R s r → r ≡ gives bs → Normalised R s bs
  normalised_of s bs b (normalise_own n h) q = gave n bs q
  normalised_of s bs b (normalise_result k r h w) q =
      let g : Given R (normalise k) bs = given_result R (normalise k) bs w q in
      record {
        given = k;
        result = normalise k;
        read = h;
        normal = given_normal (normalise k) bs g (lawful_normalise R k (read_lawful R s k permitted b h) g.short) (normal_normalise k);
        versions = contains_normalise k;
      }

  merged_of : (s t bs : List ℕ) → Bytes s → Bytes t → {r : Reply} → MergeSays R s t r → r ≡ gives bs → Merged R s t bs
  merged_of s t bs b c (merge_first n h) q = gave n bs q
  merged_of s t bs b c (merge_second_lem a n h f) q = gave n bs q
  merged_of s t bs b c (merge_result x y r h f w) q =
      let g : Given R (merge x y) bs = given_result R (merge x y) bs w q in
      record {
        one = x;
        other = y;
        result = merge x y;
        first = h;
        second = f;
        normal =
            given_normal (merge x y) bs g
            (lawful_merge R x y (read_lawful R s x permitted b h) (read_lawful R t y permitted c f) g.few g.short) (normal_merge x y);
        versions = λ i p v l small. contains_merge x y i p v l;
      }

  equal_of : (s t : List ℕ) (a b : Knowledge) → Bytes s → Bytes t → parse R s ≡ accepted a → parse R t ≡ accepted b → Normal a → Normal b
      → SameVersions a b ↔ (s ≡ t)
  equal_of s t a b x y e f n m =
      let own = (exact R permitted s a x).0 e in
      let its = (exact R permitted t b y).0 f in
      let law = versions_unique a b own.1.ids its.1.ids n m in (
        (λ v. own.0 ∙ ap encode (law.0 v) ∙ sym its.0),
        (λ q. law.1 (accepted_same a b (parse R t) (ap (parse R) (sym q) ∙ e) f)),
      )

  pub demand2 : Demand2 R
  demand2 = record {
    layout = λ s k b. exact R permitted s k b;
    versions = λ s item replica t k e f g. (contain_says R s item replica t).found k e (f, g);
    equal = equal_of;
    normalised = λ s bs b q. normalised_of s bs b (normalise_says R s) q;
    merged = λ s t bs b c q. merged_of s t bs b c (merge_says R s t) q;
  }

-- with document 01's limits
pub demand2_basic : Demand2 basic
demand2_basic = demand2 basic base_permitted
