-- What the calls that write come to, case by case: for normalise, merge and project the refusals in the order of document
-- 01's table, or the bytes of the result. The cases exclude one another, so a number is given on no other condition.
use Prim.Native.Nat.{ℕ}
use mathlib.Core.Path.{◌≡◌, refl, sym, ◌∙◌, ap, ap₂, subst}
use mathlib.Core.Bool.{Bool, true, false}
use mathlib.Core.List.{List, [], ◌∷◌}
use Rattle.codec.specs.Number.{Bytes}
use Rattle.codec.specs.Parsed.{read_or, line, own_fault, Parsed, accepted, refused}
use Rattle.codec.specs.Reply.{Reply, gives, refuses, Line, first_fault}
use Rattle.codec.proofs.Replies.{fault_here, fault_later, fault_none, read_fault, read_fine}
use Rattle.layout.specs.Knowledge.{Limits, Rules, Knowledge, Lawful, encode}
use Rattle.layout.specs.Permitted.{Permitted}
use Rattle.layout.specs.Parse.{parse}
use Rattle.layout.proofs.Exact.{exact}
use Rattle.ticks.specs.Operations.{normalise, merge, project, too_many_replicas, too_many_ranges}
use Rattle.ticks.specs.Calls.{id_of, read_as, wrong_span, result_lines, normalise_reply, merge_reply, project_reply}

-- the knowledge read from accepted bytes is lawful
pub read_lawful : (R : Rules) (s : List ℕ) (k : Knowledge) → Permitted R.limits → Bytes s → parse R s ≡ accepted k → Lawful R k
read_lawful R s k m b e = ((exact R m s k b).0 e).1

-- Results

-- 11 over the most replicas; then 12 over the most ranges; or the bytes of the result
pub data ResultSays (L : Limits) (k : Knowledge) : Reply → Type 0 where
  over_replicas : too_many_replicas L k ≡ true → ResultSays L k (refuses 11)
  over_ranges : too_many_replicas L k ≡ false → too_many_ranges L k ≡ true → ResultSays L k (refuses 12)
  result_given : too_many_replicas L k ≡ false → too_many_ranges L k ≡ false → ResultSays L k (gives (encode k))

pub result_says : (L : Limits) (k : Knowledge) → ResultSays L k (first_fault refuses (result_lines L k) (gives (encode k)))
unfolding result_lines
result_says L k = go (too_many_replicas L k) refl (too_many_ranges L k) refl
  where
    twelve : List Line
    twelve = line 12 (too_many_ranges L k) ∷ []

    lines : List Line
    lines = line 11 (too_many_replicas L k) ∷ twelve

    go : (t : Bool) → too_many_replicas L k ≡ t → (u : Bool) → too_many_ranges L k ≡ u → ResultSays L k (first_fault refuses lines (gives (encode k)))
    go true e u f = subst (ResultSays L k) (sym (fault_here refuses (line 11 (too_many_replicas L k)) twelve (gives (encode k)) e)) (over_replicas e)
    go false e true f =
        subst (ResultSays L k)
        (sym (fault_later refuses (line 11 (too_many_replicas L k)) twelve (gives (encode k)) e
        ∙ fault_here refuses (line 12 (too_many_ranges L k)) [] (gives (encode k)) f))
        (over_ranges e f)
    go false e false f = subst (ResultSays L k) (sym (fault_none refuses lines (gives (encode k)) (e, (f, tt)))) (result_given e f)

-- Normalise: the knowledge's own fault, or the result's line or bytes

pub data NormaliseSays (R : Rules) (s : List ℕ) : Reply → Type 0 where
  normalise_own : (n : ℕ) → parse R s ≡ refused n → NormaliseSays R s (refuses n)
  normalise_result : (k : Knowledge) (r : Reply) → parse R s ≡ accepted k → ResultSays R.limits (normalise k) r → NormaliseSays R s r

normalise_of : Rules → Parsed Knowledge → Reply
normalise_of R p = first_fault refuses (own_fault p ∷ result_lines R.limits (normalise (read_as p))) (gives (encode (normalise (read_as p))))

normalise_reply_lem : (R : Rules) (s : List ℕ) (p : Parsed Knowledge) → parse R s ≡ p → normalise_reply R s ≡ normalise_of R p
unfolding normalise_reply normalise_of
normalise_reply_lem R s p e = ap (normalise_of R) e

pub normalise_says : (R : Rules) (s : List ℕ) → NormaliseSays R s (normalise_reply R s)
unfolding normalise_of read_or
normalise_says R s = go (parse R s) refl
  where
    go : (p : Parsed Knowledge) → parse R s ≡ p → NormaliseSays R s (normalise_reply R s)
    go (refused n) e =
        let k = normalise (read_as (refused n)) in
        subst (NormaliseSays R s) (sym (normalise_reply_lem R s (refused n) e ∙ read_fault Knowledge refuses n (result_lines R.limits k) (gives (encode k)))) (normalise_own n e)
    go (accepted k) e =
        let result = first_fault refuses (result_lines R.limits (normalise k)) (gives (encode (normalise k))) in
        subst (NormaliseSays R s)
        (sym (normalise_reply_lem R s (accepted k) e ∙ read_fine refuses k (result_lines R.limits (normalise k)) (gives (encode (normalise k)))))
        (normalise_result k result e (result_says R.limits (normalise k)))

-- Merge: the first knowledge's own fault, then the second's

pub data MergeSays (R : Rules) (s t : List ℕ) : Reply → Type 0 where
  merge_first : (n : ℕ) → parse R s ≡ refused n → MergeSays R s t (refuses n)
  merge_second_lem : (a : Knowledge) (n : ℕ) → parse R s ≡ accepted a → parse R t ≡ refused n → MergeSays R s t (refuses n)
  merge_result : (a b : Knowledge) (r : Reply) → parse R s ≡ accepted a → parse R t ≡ accepted b → ResultSays R.limits (merge a b) r → MergeSays R s t r

merge_of : Rules → Parsed Knowledge → Parsed Knowledge → Reply
merge_of R p q =
    first_fault refuses (own_fault p ∷ own_fault q ∷ result_lines R.limits (merge (read_as p) (read_as q))) (gives (encode (merge (read_as p) (read_as q))))

merge_reply_lem : (R : Rules) (s t : List ℕ) (p q : Parsed Knowledge) → parse R s ≡ p → parse R t ≡ q → merge_reply R s t ≡ merge_of R p q
unfolding merge_reply merge_of
merge_reply_lem R s t p q e f = ap₂ (merge_of R) e f

pub merge_says : (R : Rules) (s t : List ℕ) → MergeSays R s t (merge_reply R s t)
unfolding merge_of read_or
merge_says R s t = go (parse R s) refl (parse R t) refl
  where
    go : (p : Parsed Knowledge) → parse R s ≡ p → (q : Parsed Knowledge) → parse R t ≡ q → MergeSays R s t (merge_reply R s t)
    go (refused n) e q f =
        let k = merge (read_as (refused n)) (read_as q) in
        subst (MergeSays R s t)
        (sym (merge_reply_lem R s t (refused n) q e f ∙ read_fault Knowledge refuses n (own_fault q ∷ result_lines R.limits k) (gives (encode k)))) (merge_first n e)
    go (accepted a) e (refused n) f =
        let k = merge (read_as (accepted a)) (read_as (refused n)) in
        subst (MergeSays R s t)
        (sym (merge_reply_lem R s t (accepted a) (refused n) e f
        ∙ read_fine refuses a (own_fault (refused n) ∷ result_lines R.limits k) (gives (encode k)) ∙ read_fault Knowledge refuses n (result_lines R.limits k) (gives (encode k))))
        (merge_second_lem a n e f)
    go (accepted a) e (accepted b) f =
        let k = merge a b in
        subst (MergeSays R s t)
        (sym (merge_reply_lem R s t (accepted a) (accepted b) e f
        ∙ read_fine refuses a (own_fault (accepted b) ∷ result_lines R.limits k) (gives (encode k)) ∙ read_fine refuses b (result_lines R.limits k) (gives (encode k))))
        (merge_result a b (first_fault refuses (result_lines R.limits k) (gives (encode k))) e f (result_says R.limits k))

-- Project: the knowledge's own fault, then 17

pub data ProjectSays (R : Rules) (s first last : List ℕ) : Reply → Type 0 where
  project_own : (n : ℕ) → parse R s ≡ refused n → ProjectSays R s first last (refuses n)
  project_17 : (k : Knowledge) → parse R s ≡ accepted k → wrong_span first last ≡ true → ProjectSays R s first last (refuses 17)
  project_result : (k : Knowledge) (r : Reply) → parse R s ≡ accepted k → wrong_span first last ≡ false
      → ResultSays R.limits (project (id_of 24 first) (id_of 24 last) k) r → ProjectSays R s first last r

project_of : Rules → List ℕ → List ℕ → Parsed Knowledge → Reply
project_of R first last p =
    first_fault refuses (own_fault p ∷ line 17 (wrong_span first last) ∷ result_lines R.limits (project (id_of 24 first) (id_of 24 last) (read_as p)))
    (gives (encode (project (id_of 24 first) (id_of 24 last) (read_as p))))

project_reply_lem : (R : Rules) (s first last : List ℕ) (p : Parsed Knowledge) → parse R s ≡ p → project_reply R s first last ≡ project_of R first last p
unfolding project_reply project_of
project_reply_lem R s first last p e = ap (project_of R first last) e

pub project_says : (R : Rules) (s first last : List ℕ) → ProjectSays R s first last (project_reply R s first last)
unfolding project_of read_or
project_says R s first last = go (parse R s) refl (wrong_span first last) refl
  where
    go : (p : Parsed Knowledge) → parse R s ≡ p → (t : Bool) → wrong_span first last ≡ t → ProjectSays R s first last (project_reply R s first last)
    go (refused n) e t f =
        let k = project (id_of 24 first) (id_of 24 last) (read_as (refused n)) in
        subst (ProjectSays R s first last)
        (sym (project_reply_lem R s first last (refused n) e ∙ read_fault Knowledge refuses n (line 17 (wrong_span first last) ∷ result_lines R.limits k) (gives (encode k))))
        (project_own n e)
    go (accepted a) e true f =
        let k = project (id_of 24 first) (id_of 24 last) a in
        subst (ProjectSays R s first last)
        (sym (project_reply_lem R s first last (accepted a) e ∙ read_fine refuses a (line 17 (wrong_span first last) ∷ result_lines R.limits k) (gives (encode k))
        ∙ fault_here refuses (line 17 (wrong_span first last)) (result_lines R.limits k) (gives (encode k)) f))
        (project_17 a e f)
    go (accepted a) e false f =
        let k = project (id_of 24 first) (id_of 24 last) a in
        subst (ProjectSays R s first last)
        (sym (project_reply_lem R s first last (accepted a) e ∙ read_fine refuses a (line 17 (wrong_span first last) ∷ result_lines R.limits k) (gives (encode k))
        ∙ fault_later refuses (line 17 (wrong_span first last)) (result_lines R.limits k) (gives (encode k)) f))
        (project_result a (first_fault refuses (result_lines R.limits k) (gives (encode k))) e f (result_says R.limits k))
