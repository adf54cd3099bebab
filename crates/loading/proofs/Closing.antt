-- From a planned table to the reply of a call. A knowledge given to an operation was accepted, so the lines of its own fault do not
-- hold, and what is left of the call's table are the lines of the result: 11, 12, and else the bytes. The plan has their sizes, and the
-- pieces that are written for it are the result's bytes (`Tabled`).
use Prim.Native.Nat.{ℕ, ◌≤◌, ◌<◌}
use mathlib.Core.Path.{◌≡◌, refl, sym, ap, ◌∙◌}
use mathlib.Core.Bool.{true, false}
use mathlib.Core.List.{List, [], ◌∷◌}
use lib.ListN.{length}
use borrow.Author.Tests.{lt-ltb, le-ltb}
use Rattle.codec.specs.Part.{placed}
use Rattle.codec.specs.Parsed.{Parsed, accepted, refused, line, own_fault, read_or}
use Rattle.codec.specs.Reply.{Reply, gives, refuses, Line, first_fault}
use Rattle.codec.proofs.Replies.{fault_here, fault_later, fault_none, read_fault, read_fine}
use Rattle.layout.specs.Knowledge.{Limits, Rules, Knowledge, encode}
use Rattle.layout.specs.Parse.{parse}
use Rattle.ticks.specs.Operations.{normalise, merge, project, too_many_replicas, too_many_ranges}
use Rattle.ticks.specs.Calls.{id_of, read_as, wrong_span, result_lines, normalise_reply, merge_reply, project_reply}
use Rattle.tables.specs.declared.Sizes.{Sizes}
use Rattle.tables.specs.MethodWords.{Words, cell, id_at, bound_at}
use Rattle.tables.specs.MethodPlan.{firsts_of, numbers_of, columns_of, page, sizes_of, Plans}
use Rattle.tables.proofs.PageSizes.{page_replicas, page_ranges}
use Rattle.tables.proofs.Pieces.{planned-length, planned_written}
use Rattle.loading.specs.MethodReply.{result_reply, Tabled}

-- The lines of a result

module _ (L : Limits) (k : Knowledge) where
  abbrev twelve : List Line
  twelve = line 12 (too_many_ranges L k) ∷ []

  -- for others: the lines of the result
  pub result_is : result_reply L k ≡ first_fault refuses (result_lines L k) (gives (encode k))
  unfolding result_reply
  result_is = refl

  pub result_replicas : L.replicas < length k.replicas → result_reply L k ≡ refuses 11
  unfolding result_reply result_lines too_many_replicas
  result_replicas h = fault_here refuses (line 11 (too_many_replicas L k)) twelve (gives (encode k)) (lt-ltb L.replicas (length k.replicas) h)

  pub result_ranges : length k.replicas ≤ L.replicas → L.ranges < length k.ranges → result_reply L k ≡ refuses 12
  unfolding result_reply result_lines too_many_replicas too_many_ranges
  result_ranges l h =
      fault_later refuses (line 11 (too_many_replicas L k)) twelve (gives (encode k)) (le-ltb L.replicas (length k.replicas) l)
      ∙ fault_here refuses (line 12 (too_many_ranges L k)) [] (gives (encode k)) (lt-ltb L.ranges (length k.ranges) h)

  pub result_gives : length k.replicas ≤ L.replicas → length k.ranges ≤ L.ranges → result_reply L k ≡ gives (encode k)
  unfolding result_reply result_lines too_many_replicas too_many_ranges
  result_gives l h =
      fault_none refuses (line 11 (too_many_replicas L k) ∷ twelve) (gives (encode k))
      (le-ltb L.replicas (length k.replicas) l, (le-ltb L.ranges (length k.ranges) h, tt))

-- The replies of the calls

module _ (R : Rules) (s : List ℕ) where
  of : Parsed Knowledge → Reply
  of p = first_fault refuses (own_fault p ∷ result_lines R.limits (normalise (read_as p))) (gives (encode (normalise (read_as p))))

  pub normalise_refused : (n : ℕ) → parse R s ≡ refused n → normalise_reply R s ≡ refuses n
  unfolding normalise_reply of
  normalise_refused n e =
      let k = normalise (read_as (refused n)) in
      ap of e ∙ read_fault Knowledge refuses n (result_lines R.limits k) (gives (encode k))

  pub normalise_accepted : (k : Knowledge) → parse R s ≡ accepted k → normalise_reply R s ≡ result_reply R.limits (normalise k)
  unfolding normalise_reply of result_reply read_or
  normalise_accepted k e = ap of e ∙ read_fine refuses k (result_lines R.limits (normalise k)) (gives (encode (normalise k)))

module _ (R : Rules) (s t : List ℕ) where
  both : Parsed Knowledge → Parsed Knowledge → Reply
  both p q =
      first_fault refuses (own_fault p ∷ own_fault q ∷ result_lines R.limits (merge (read_as p) (read_as q)))
      (gives (encode (merge (read_as p) (read_as q))))

  pub merge_first : (n : ℕ) → parse R s ≡ refused n → merge_reply R s t ≡ refuses n
  unfolding merge_reply both
  merge_first n e =
      let q = parse R t in
      let k = merge (read_as (refused n)) (read_as q) in
      ap (λ p. both p q) e ∙ read_fault Knowledge refuses n (own_fault q ∷ result_lines R.limits k) (gives (encode k))

  module _ (a : Knowledge) (e : parse R s ≡ accepted a) where
    pub merge_second_lem : (n : ℕ) → parse R t ≡ refused n → merge_reply R s t ≡ refuses n
    unfolding merge_reply both
    merge_second_lem n f =
        let k = merge (read_as (accepted a)) (read_as (refused n)) in
        let p : Parsed Knowledge = accepted a in
        ap (λ p'. both p' (parse R t)) e ∙ ap (λ q. both p q) f
        ∙ read_fine refuses a (own_fault {A = Knowledge} (refused n) ∷ result_lines R.limits k) (gives (encode k))
        ∙ read_fault Knowledge refuses n (result_lines R.limits k) (gives (encode k))

    pub merge_accepted : (b : Knowledge) → parse R t ≡ accepted b → merge_reply R s t ≡ result_reply R.limits (merge a b)
    unfolding merge_reply both result_reply read_or
    merge_accepted b f =
        let p : Parsed Knowledge = accepted a in
        ap (λ p'. both p' (parse R t)) e ∙ ap (λ q. both p q) f
        ∙ read_fine refuses a (own_fault (accepted b) ∷ result_lines R.limits (merge a b)) (gives (encode (merge a b)))
        ∙ read_fine refuses b (result_lines R.limits (merge a b)) (gives (encode (merge a b)))

module _ (R : Rules) (s first last : List ℕ) where
  inside : Parsed Knowledge → Reply
  inside p =
      first_fault refuses
      (own_fault p ∷ line 17 (wrong_span first last) ∷ result_lines R.limits (project (id_of 24 first) (id_of 24 last) (read_as p)))
      (gives (encode (project (id_of 24 first) (id_of 24 last) (read_as p))))

  pub project_refused : (n : ℕ) → parse R s ≡ refused n → project_reply R s first last ≡ refuses n
  unfolding project_reply inside
  project_refused n e =
      let k = project (id_of 24 first) (id_of 24 last) (read_as (refused n)) in
      ap inside e
      ∙ read_fault Knowledge refuses n (line 17 (wrong_span first last) ∷ result_lines R.limits k) (gives (encode k))

  module _ (k : Knowledge) (e : parse R s ≡ accepted k) where
    result : Knowledge
    result = project (id_of 24 first) (id_of 24 last) k

    pub project_span : wrong_span first last ≡ true → project_reply R s first last ≡ refuses 17
    unfolding project_reply inside result read_or
    project_span f =
        ap inside e
        ∙ read_fine refuses k (line 17 (wrong_span first last) ∷ result_lines R.limits result) (gives (encode result))
        ∙ fault_here refuses (line 17 (wrong_span first last)) (result_lines R.limits result) (gives (encode result)) f

    pub project_accepted : wrong_span first last ≡ false
        → project_reply R s first last ≡ result_reply R.limits (project (id_of 24 first) (id_of 24 last) k)
    unfolding project_reply inside result result_reply read_or
    project_accepted f =
        ap inside e
        ∙ read_fine refuses k (line 17 (wrong_span first last) ∷ result_lines R.limits result) (gives (encode result))
        ∙ fault_later refuses (line 17 (wrong_span first last)) (result_lines R.limits result) (gives (encode result)) f

-- A planned table

pub tabled :
    (r n : ℕ) (ids bounds t c f x c' f' x' : List ℕ) (z : Sizes) (k : Knowledge)
    → Plans (id_at ids) (cell t) r n c f x c' f' x' z
    → Words ids
    → Words bounds
    → page (id_at ids) (bound_at bounds) (cell t) r n ≡ k
    → Tabled k z ids bounds t n c' f' x'
unfolding page sizes_of
tabled r n ids bounds t c f x c' f' x' z k p wi wb e =
    let fs = firsts_of (cell t) r n in
    let cs = columns_of (id_at ids) (cell t) r fs in
    let xs = numbers_of (cell t) r n in
    record {
      replicas = ap (λ (y : Sizes). y.replicas) p.sizes ∙ sym (page_replicas (id_at ids) (bound_at bounds) (cell t) cs fs xs)
          ∙ ap (λ (y : Knowledge). length y.replicas) e;
      ranges = ap (λ (y : Sizes). y.ranges) p.sizes ∙ sym (page_ranges (id_at ids) (bound_at bounds) (cell t) cs fs xs)
          ∙ ap (λ (y : Knowledge). length y.ranges) e;
      size = ap (λ (y : Knowledge). length (encode y)) (sym e) ∙ planned-length r n ids bounds t c f x c' f' x' z p;
      writes = λ d at h.
          planned_written r n ids bounds t c f x c' f' x' z p d at wi wb h ∙ ap (λ (y : Knowledge). placed d at (encode y)) e;
    }
