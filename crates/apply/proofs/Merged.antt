-- The merged knowledge of an applied store. Where the store's knowledge covers learned, merging changes nothing that it knows; it is in
-- normal form, and normal forms that know the same are the same, so its bytes are given as they stand (`merged_copied`).
use Prim.Native.Nat.{ℕ, ◌≤◌}
use mathlib.Core.Path.{◌≡◌, refl, sym, ap, ap₂, subst, ◌∙◌}
use mathlib.Core.Bool.{Bool, true, false}
use mathlib.Core.List.{List}
use native.Mathlib.Omega.{arith}
use Rattle.codec.specs.Reply.{Reply, gives}
use Rattle.codec.specs.Words.{words3}
use Rattle.codec.specs.MethodEnded.{Ended}
use Rattle.codec.specs.Answer.{Answer}
use Rattle.layout.specs.Knowledge as K
use Rattle.layout.specs.Permitted.{largest_replicas}
use Rattle.layout.specs.declared.Limits.{Limits}
use Rattle.layout.specs.Decode.{decode}
use Rattle.layout.proofs.Places.{places}
use Rattle.layout.proofs.Within.{few_replicas}
use Rattle.ticks.specs.Meaning.{highest}
use Rattle.ticks.specs.Operations.{covers, merge}
use Rattle.ticks.proofs.Algebra.{merge_covered}
use Rattle.ticks.proofs.LawfulResults.{highest_words}
use Rattle.ticks.proofs.Search.{covers_exact}
use Rattle.lookup.specs.declared.Cursor.{Cursor}
use Rattle.lookup.specs.declared.View.{View}
use Rattle.lookup.specs.Method.{Open}
use Rattle.lookup.proofs.Leaf.{opens_reading}
use Rattle.cover.specs.Method.{covers_by}
use Rattle.cover.proofs.Covering.{covers_is}
use Rattle.results.specs.MethodOpened.{Reads, result_of}
use Rattle.results.proofs.Copied.{opened_given}
use Rattle.apply.specs.Method.{OwnAndLearned}
use Rattle.apply.proofs.Applying.{first_item_lem}

-- a full word, three of which are the top item id
abbrev pub top : ℕ
top = 18446744073709551615

-- ---- everything that another knows

pub all_covered : (k : List ℕ) (r : ℕ) (c : Cursor) (l : List ℕ) (m : ℕ) (d : Cursor) → Open k r c → Open l m d → (z : Bool)
    → z ≡ covers_by k r c l m d (words3 0 0 0) (words3 top top top) → z ≡ covers (decode k) (decode l) 0 highest
all_covered k r c l m d a b z e =
    e ∙ ap₂ (covers_by k r c l m d) first_item_lem highest_words ∙ covers_is k r c l m d 0 highest a b (omega arith)

-- ---- bytes that were opened under limits are open

open_within : (most : Limits) (s : List ℕ) (v : View) → Reads most s v → Open s v.r v.start
open_within most s v x =
    let R = x.rules in
    let o = x.opens in
    let p = places R s v.r o.v o.e o.g (opens_reading R s v.r v.start o) in
    let few : R.limits.replicas ≤ largest_replicas =
    omega (arith, ap (λ (L : K.Limits). L.replicas) x.limits, few_replicas most.replicas most.ranges) in
    record { rules = R; opens = o; small = omega (arith, p.replicas, few) }

-- ---- the copy

module _ (most : Limits) (k : List ℕ) (v : View) (l : List ℕ) (w : View) (h : OwnAndLearned most k v l w) where
  pub both_open : Open k v.r v.start × Open l w.r w.start
  both_open = (open_within most k v h.mine, open_within most l w h.theirs)

  covered_given : covers (decode k) (decode l) 0 highest ≡ true → result_of most (merge (decode k) (decode l)) ≡ gives k
  covered_given t =
      let less = (covers_exact (decode k) (decode l) 0 highest).0 t in
      ap (result_of most) (merge_covered (decode k) (decode l) h.normal (λ i p e. less.known i p (omega arith) e))
      ∙ opened_given most k v h.mine

  pub merged_copied : (b : Bool) → b ≡ covers (decode k) (decode l) 0 highest → b ≡ true → (out u : List ℕ) (a : Answer)
      → Ended (gives k) out u a → Ended (result_of most (merge (decode k) (decode l))) out u a
  merged_copied b is t out u a e = subst (λ (reply : Reply). Ended reply out u a) (sym (covered_given (sym is ∙ t))) e
