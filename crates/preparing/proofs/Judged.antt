-- A planned table, judged by the limits, is what the call's reply says: a plan has the sizes of the result, so 11 and 12 are found in
-- it, and else what is written for it are the result's bytes.
use Prim.Native.Nat.{ℕ, ◌≤◌, ◌<◌}
use mathlib.Core.Path.{◌≡◌, refl, sym, ap, ◌∙◌, subst}
use mathlib.Core.List.{List}
use native.Mathlib.Omega.{arith}
use lib.ListN.{length}
use borrow.Author.Tests.{lt-ltb, le-ltb}
use mathlib.Core.Bool.{Bool, true, false}
use Rattle.layout.specs.Knowledge.{Limits, Knowledge, encode}
use Rattle.ticks.proofs.Lists.{order, less, same, more}
use Rattle.tables.specs.declared.Sizes.{Sizes}
use Rattle.tables.specs.MethodWords.{stride, most_rows, cell, id_at, bound_at, Words}
use Rattle.tables.specs.MethodPlan.{firsts_of, numbers_of, columns_of, sizes_of, page, Plans}
use Rattle.plan.specs.Method.{fits, no_sizes}
use Rattle.plan.proofs.Whole.{Fits, fits_holds}
use Rattle.loading.specs.MethodReply.{result_reply, Tabled}
use Rattle.loading.proofs.Closing.{result_replicas, result_ranges, result_gives, tabled}
use Rattle.sampling.specs.declared.Filled.{Filled}
use Rattle.std.specs.Prelude.{Result, Ok, Err}
use Rattle.codec.specs.declared.Refusal.{Refusal}
use Rattle.codec.specs.Refusal.{number}
use Rattle.codec.specs.declared.Refusal.TheVariants.{TooManyReplicas, TooManyRanges}
use Rattle.preparing.specs.MethodPrepared.{judged, Plan, plan_of, over, planned, Prepares}

-- the cases of what is judged

module _ (L : Limits) (z : Sizes) where
  pub judged_11 : L.replicas < z.replicas → Err TooManyReplicas ≡ judged L z
  unfolding judged
  judged_11 h = rw (lt-ltb L.replicas z.replicas h, judged)

  pub judged_12 : z.replicas ≤ L.replicas → L.ranges < z.ranges → Err TooManyRanges ≡ judged L z
  unfolding judged
  judged_12 l h = rw (le-ltb L.replicas z.replicas l, lt-ltb L.ranges z.ranges h, judged)

  pub judged_ready : z.replicas ≤ L.replicas → z.ranges ≤ L.ranges → Ok z ≡ judged L z
  unfolding judged
  judged_ready l h = rw (le-ltb L.replicas z.replicas l, le-ltb L.ranges z.ranges h, judged)

module _ (L : Limits) (k : Knowledge) (z : Sizes) (ids bounds t : List ℕ) (n : ℕ) (cols firsts numbers : List ℕ)
    (h : Tabled k z ids bounds t n cols firsts numbers) where
  abbrev Fine : Result Sizes Refusal → Type 0
  Fine p = Prepares (result_reply L k) ids bounds t cols firsts numbers n p

  pub judged_prepares : Fine (judged L z)
  unfolding number
  judged_prepares =
      elim (order L.replicas z.replicas) [
        | less a ↦ subst Fine (judged_11 L z a) (record { is = result_replicas L k (omega (arith, h.replicas)) })
        | same a ↦ ranges (omega arith)
        | more a ↦ ranges (omega arith)
      ]
    where
      ready : z.replicas ≤ L.replicas → z.ranges ≤ L.ranges → Fine (judged L z)
      ready a b =
          subst Fine (judged_ready L z a b)
          (record {
            is = record {
              bs = encode k;
              is = result_gives L k (omega (arith, h.replicas)) (omega (arith, h.ranges));
              size = h.size;
              writes = h.writes;
            };
          })

      ranges : z.replicas ≤ L.replicas → Fine (judged L z)
      ranges a =
          elim (order L.ranges z.ranges) [
            | less b ↦
                subst Fine (judged_12 L z a b)
                (record { is = result_ranges L k (omega (arith, h.replicas)) (omega (arith, h.ranges)) })
            | same b ↦ ready a (omega arith)
            | more b ↦ ready a (omega arith)
          ]

-- A plan that was made

module _ (L : Limits) (q : Filled) (ids t c f x : List ℕ) where
  abbrev rows : List ℕ
  rows = firsts_of (cell t) q.columns q.rows

  abbrev columns : List ℕ
  columns = columns_of (id_at ids) (cell t) q.columns rows

  abbrev each : List ℕ
  each = numbers_of (cell t) q.columns q.rows

  abbrev test : Bool
  test = fits q.columns q.rows (length c) (length f) (length x)

  made : test ≡ true
      → plan_of (over columns c) (over rows f) (over each x) (judged L (sizes_of (cell t) columns rows each)) ≡ planned L q ids t c f x
  unfolding planned
  made e = rw (e, planned)

  not_made : test ≡ false → plan_of c f x (judged L no_sizes) ≡ planned L q ids t c f x
  unfolding planned
  not_made e = rw (e, planned)

  -- what planning leaves is that
  pub planned_is : (c' f' x' : List ℕ) (z : Sizes) (p : Result Sizes Refusal)
      → (test ≡ true → Plans (id_at ids) (cell t) q.columns q.rows c f x c' f' x' z)
      → (test ≡ false → (z ≡ no_sizes) × (c' ≡ c) × (f' ≡ f) × (x' ≡ x)) → p ≡ judged L z → plan_of c' f' x' p ≡ planned L q ids t c f x
  planned_is c' f' x' z p plans none e = go test refl
    where
      go : (b : Bool) → test ≡ b → plan_of c' f' x' p ≡ planned L q ids t c f x
      go true g =
          let h = plans g in
          ap (plan_of c' f' x') (e ∙ ap (λ y. judged L y) h.sizes)
          ∙ rw (h.columns, h.firsts, h.numbers) (made g)
      go false g =
          let h = none g in
          ap (plan_of c' f' x') (e ∙ ap (λ y. judged L y) h.0) ∙ rw (h.1, h.2, h.3) (not_made g)

  -- and is what the reply of the planned knowledge says
  pub planned_prepares : (bounds c' f' x' : List ℕ) (p : Result Sizes Refusal) → plan_of c' f' x' p ≡ planned L q ids t c f x → q.columns ≤ stride
      → q.rows < most_rows → q.columns ≤ length c → q.rows < length f → q.rows ≤ length x → Words ids → Words bounds → (k : Knowledge)
      → page (id_at ids) (bound_at bounds) (cell t) q.columns q.rows ≡ k → Prepares (result_reply L k) ids bounds t c' f' x' q.rows p
  planned_prepares bounds c' f' x' p e a b i j l wi wb k g =
      let there : Fits q.columns q.rows (length c) (length f) (length x) =
      record { columns = a; rows = b; to_columns = i; to_firsts = j; to_numbers = l } in
      let z = sizes_of (cell t) columns rows each in
      let plan : Plans (id_at ids) (cell t) q.columns q.rows c f x (over columns c) (over rows f) (over each x) z =
      record { sizes = refl; columns = refl; firsts = refl; numbers = refl } in
      subst (λ (w : Plan). Prepares (result_reply L k) ids bounds t w.cols w.firsts w.numbers q.rows w.prepared)
      (made (fits_holds q.columns q.rows (length c) (length f) (length x) there) ∙ sym e)
      (judged_prepares L k z ids bounds t q.rows (over columns c) (over rows f) (over each x)
      (tabled q.columns q.rows ids bounds t c f x (over columns c) (over rows f) (over each x) z k plan wi wb g))
