-- The sentences of demands 1 and 3, from their statements alone. Each law takes `Promise`, `Batches`, `Runner` or `Demand1` as a
-- hypothesis, never its proof, and gives one sentence for all arguments: any replica, any two batches, buffers of any lengths, any call.
-- So a statement that says less than the demand no longer gives its sentence here. At the end the statements' own proofs are put in, with
-- document 01's limits and for every list of calls.
use Prim.Native.Nat.{ℕ, ◌≤◌, ◌<◌, ◌^◌}
use mathlib.Core.Path.{◌≡◌, refl, sym, ap, ◌∙◌, subst}
use mathlib.Core.Logic.{⊎_elim, ◌↔◌}
use mathlib.Core.Bool.{true, false, not}
use mathlib.Core.List.{List, [], ◌∷◌, ◌++◌}
use mathlib.Core.Option.{Option, some}
use native.Mathlib.Omega.{arith}
use lib.ListN.{length, drop}
use lib.Seq.{drop-length}
use Rattle.codec.specs.Number.{Bytes, be_at, put}
use Rattle.codec.specs.Reply.{gives, answer, number_of}
use Rattle.codec.proofs.Numbers.{be_below, put_back}
use Rattle.layout.specs.Knowledge.{Rules, basic, base, Knowledge, All, Lawful, encode}
use Rattle.layout.specs.Permitted.{Permitted}
use Rattle.ticks.specs.Meaning.{highest, known}
use Rattle.ticks.specs.Calls.{contain_number, contain_value, contain_answer, lead_number, lead_value, lead_answer}
use Rattle.ticks.specs.Calls.{cover_number, cover_value, cover_answer, normalise_reply, merge_reply, project_reply}
use Rattle.ticks.specs.Compare.{compare_reply, order_value}
use Rattle.ticks.specs.Demand1.{SaysOrRefuses}
use Rattle.ticks.specs.Demand2.{SameVersions}
use Rattle.ticks.proofs.Algebra.{versions_ticks}
use Rattle.ticks.proofs.Consumed.{WritesAtZero, writes_at-zero, SaysAtZero, says_at-zero, ChecksAtZero, checks_at-zero}
use Rattle.ticks.proofs.ForCover.{covers_for_exact}
use Rattle.replication.specs.Call.{Brought, Call, apply, Given, Fed}
use Rattle.replication.specs.Formats.{Store, encode_store, find}
use Rattle.replication.specs.BatchFormat.{Batch}
use Rattle.replication.specs.Valid.{LawfulStore}
use Rattle.replication.specs.Calls.{new_reply, edit_reply, delete_reply, make_reply, apply_reply, own_ahead}
use Rattle.replication.specs.Demand1.{part_values, coverage_values, Demand1}
use Rattle.replication.specs.Part.{Part}
use Rattle.replication.specs.Coverage.{Coverage}
use Rattle.replication.specs.Queries.{part_number, part_side, part_at_place, part_length, winner_part, learned_part, knowledge_part}
use Rattle.replication.specs.Queries.{coverage_number, coverage_contained, coverage_all, coverage_thousandths, coverage_answer}
use Rattle.replication.specs.Lists.{World, start, outcome, batch_number, trace}
use Rattle.replication.specs.Machine.{Remembered, State, greatest, acts}
use Rattle.replication.specs.Promise.{ends, machine, store_after, IsStore, Agrees, Promise}
use Rattle.replication.specs.Batches.{IsBatch, BatchAgrees, asked, Batches}
use Rattle.replication.proofs.Demand1.{demand1_basic}
use Rattle.replication.proofs.Demand3.{store_one, demand3_basic, demand3_batches_basic}
use Rattle.replication.specs.Runner.{Number, Writes, WritesNothing, Stored, Leaves, one, Runner}
use Rattle.replication.proofs.Runner.{runner, outcome_exact, batch_exact_number}
use Rattle.replication.proofs.RunnerSettled.{runner_only}

no_more : (n : ℕ) (s : List ℕ) → length s ≡ n → drop n s ≡ []
no_more n s e = ap (λ (k : ℕ). drop k s) (sym e) ∙ drop-length s

-- an id of 16 bytes, as a number and back
own_put : (own : List ℕ) → Bytes own → length own ≡ 16 → own ≡ put 16 (be_at own 16 0) []
own_put own b e = put_back own 16 0 b (omega (arith, e)) ∙ ap (put 16 (be_at own 16 0)) (no_more 16 own e)

pub some_same : {A : Type 0} (x y : A) (o : Option A) → o ≡ some x → o ≡ some y → x ≡ y
some_same x y o e f = cc

module _ (R : Rules) (calls : List Call) (P : Promise R calls) where
  -- "It starts from stores that new returned, each under an id of its own": under any 16 bytes
  pub begins_exactly : (own : List ℕ) → Bytes own → length own ≡ 16 → new_reply own ≡ gives (start.stores (be_at own 16 0))
  begins_exactly own b e =
      ap new_reply (own_put own b e) ∙ P.begins (be_at own 16 0) (be_below own 16 0 b)

  agrees_told : (p : ℕ) → p < 256 ^ 16 → Agrees R.limits (store_after R calls p) (machine R calls) p
  agrees_told p small = P.agrees p small

  -- every store is valid and under its own id
  pub valid_exactly : (p : ℕ) → p < 256 ^ 16
      → (st : Store) × ((store_after R calls p ≡ encode_store st) × (LawfulStore R.limits st × (st.own ≡ p)))
  valid_exactly p small =
      let a = agrees_told p small in
      (a.store, (a.is.bytes, (a.is.valid, a.own)))

  module _ (permitted : Permitted R.limits) (p : ℕ) (small : p < 256 ^ 16) (st : Store) (is : IsStore R.limits (store_after R calls p) st) where
    agreed : (agrees_told p small).store ≡ st
    agreed = store_one R.limits (store_after R calls p) (agrees_told p small).store st permitted (agrees_told p small).is is

    -- "the tick known in its store's knowledge, for every item and replica id, equals the machine's"
    pub known_exactly : (i q : ℕ) → i ≤ highest → q < 256 ^ 16 → known st.knowledge i q ≡ (machine R calls).ticks p i q
    known_exactly i q h l = ap (λ (x : Store). known x.knowledge i q) (sym agreed) ∙ (agrees_told p small).ticks i q h l

    -- its records are the greatest versions that its ticks contain
    pub records_exactly : (i : ℕ) → i ≤ highest → find i st.records ≡ greatest (machine R calls).versions ((machine R calls).ticks p) i
    records_exactly i h = ap (λ (x : Store). find i x.records) (sym agreed) ∙ (agrees_told p small).records i h

  -- "two batches in either order": any two of the list, on any replica, into buffers of any four lengths
  pub either_exactly : (p m n r₁ r₂ r₃ r₄ : ℕ) (a b u v x y : List ℕ) → p < 256 ^ 16
      → Number m (ends R calls).batches a → Number n (ends R calls).batches b
      → outcome (apply_reply R.limits (store_after R calls p) a) r₁ ≡ some u → outcome (apply_reply R.limits u b) r₂ ≡ some x
      → outcome (apply_reply R.limits (store_after R calls p) b) r₃ ≡ some v → outcome (apply_reply R.limits v a) r₄ ≡ some y
      → x ≡ y
  either_exactly p m n r₁ r₂ r₃ r₄ a b u v x y small ma nb e f g h =
      P.either_order p m n a b x y small ((batch_exact_number m (ends R calls).batches a).1 ma) ((batch_exact_number n (ends R calls).batches b).1 nb)
      (record { first_room = r₁; second_room = r₂; middle = u; first = e; second = f })
      (record { first_room = r₃; second_room = r₄; middle = v; first = g; second = h })

  -- "one twice is as once": any one of the list, on any replica, into buffers of any two lengths
  pub twice_exactly : (p n r₁ r₂ : ℕ) (a x y : List ℕ) → p < 256 ^ 16 → Number n (ends R calls).batches a
      → outcome (apply_reply R.limits (store_after R calls p) a) r₁ ≡ some x → outcome (apply_reply R.limits x a) r₂ ≡ some y → x ≡ y
  twice_exactly p n r₁ r₂ a x y small na e f =
      P.twice p n a x y r₁ r₂ small ((batch_exact_number n (ends R calls).batches a).1 na) e f

  -- "two replicas with equal knowledge hold equal tables": any two whose knowledge contains the same versions
  pub tables_exactly : (p q : ℕ) (a b : Store) → p < 256 ^ 16 → q < 256 ^ 16
      → IsStore R.limits (store_after R calls p) a → IsStore R.limits (store_after R calls q) b
      → SameVersions a.knowledge b.knowledge → a.records ≡ b.records
  tables_exactly p q a b small tiny x y s =
      P.equal_tables p q a b small tiny x y
      (λ i r h l. (versions_ticks a.knowledge b.knowledge x.valid.lawful.ids y.valid.lawful.ids s).known i r h)

  -- the same of lists: after both applies, none refused, the replica's bytes are the same
  module _ (W : Runner R (ends R) (machine R) (trace R start)) where
    apply_left : (before : List Call) (p n r : ℕ) (x : List ℕ) → Writes R (ends R before) (apply p n r) x
        → Stored p x (ends R before) (ends R (before ++ one (apply p n r)))
    apply_left before p n r x h = W.written before (apply p n r) x h

    -- the batch of a number is the one with as many made before it, and every such is found
    pub number_exactly : (n : ℕ) (a b : List (List ℕ)) (t : List ℕ) → length a ≡ n → batch_number n (a ++ (t ∷ b)) ≡ some t
    number_exactly n a b t e = (W.numbered n (a ++ (t ∷ b)) t).1 (record { before = a; behind = b; is = refl; count = e })

    pub number_found : (n : ℕ) (l : List (List ℕ)) (t : List ℕ) → batch_number n l ≡ some t
        → (a : List (List ℕ)) × ((b : List (List ℕ)) × ((l ≡ a ++ (t ∷ b)) × (length a ≡ n)))
    number_found n l t e = let k = (W.numbered n l t).0 e in (k.before, (k.behind, (k.is, k.count)))

    number_one : (n : ℕ) (l : List (List ℕ)) (a b : List ℕ) → Number n l a → Number n l b → a ≡ b
    number_one n l a b x y = some_same a b (batch_number n l) ((W.numbered n l a).1 x) ((W.numbered n l b).1 y)

    -- an apply after another gets the replica's new bytes, and the batch under its number
    apply_second : (p m n r₁ r₂ : ℕ) (u x b : List ℕ) → Number n (ends R calls).batches b → Writes R (ends R calls) (apply p m r₁) u
        → Writes R (ends R (calls ++ one (apply p m r₁))) (apply p n r₂) x → outcome (apply_reply R.limits u b) r₂ ≡ some x
    apply_second p m n r₁ r₂ u x b nb h k =
        let s = apply_left calls p m r₁ u h in
        let t = k.reply.0 in
        let q : t ≡ b = number_one n (ends R calls).batches t b (subst (λ (l : List (List ℕ)). Number n l t) s.batches k.reply.1.0) nb in
        (outcome_exact (apply_reply R.limits u b) r₂ x).1 (
          ap (λ (z : List ℕ). apply_reply R.limits u z) (sym q)
              ∙ (ap (λ (z : List ℕ). apply_reply R.limits z t) (sym s.own) ∙ k.reply.1.1),
          k.room,
        )

    apply_first : (p n r : ℕ) (x b : List ℕ) → Number n (ends R calls).batches b → Writes R (ends R calls) (apply p n r) x
        → outcome (apply_reply R.limits (store_after R calls p) b) r ≡ some x
    apply_first p n r x b nb h =
        let q : h.reply.0 ≡ b = number_one n (ends R calls).batches h.reply.0 b h.reply.1.0 nb in
        (outcome_exact (apply_reply R.limits (store_after R calls p) b) r x).1 (
          ap (λ (z : List ℕ). apply_reply R.limits (store_after R calls p) z) (sym q) ∙ h.reply.1.1,
          h.room,
        )

    pub either_lists : (p m n r₁ r₂ r₃ r₄ : ℕ) (u x v y : List ℕ) → p < 256 ^ 16
        → Writes R (ends R calls) (apply p m r₁) u → Writes R (ends R (calls ++ one (apply p m r₁))) (apply p n r₂) x
        → Writes R (ends R calls) (apply p n r₃) v → Writes R (ends R (calls ++ one (apply p n r₃))) (apply p m r₄) y
        → store_after R ((calls ++ one (apply p m r₁)) ++ one (apply p n r₂)) p
        ≡ store_after R ((calls ++ one (apply p n r₃)) ++ one (apply p m r₄)) p
    either_lists p m n r₁ r₂ r₃ r₄ u x v y small e f g h =
        let a = e.reply.0 in
        let b = g.reply.0 in
        let na = e.reply.1.0 in
        let nb = g.reply.1.0 in
        (apply_left (calls ++ one (apply p m r₁)) p n r₂ x f).own
        ∙ (either_exactly p m n r₁ r₂ r₃ r₄ a b u v x y small na nb (apply_first p m r₁ u a na e) (apply_second p m n r₁ r₂ u x b nb e f)
        (apply_first p n r₃ v b nb g) (apply_second p n m r₃ r₄ v y a na g h)
        ∙ sym (apply_left (calls ++ one (apply p n r₃)) p m r₄ y h).own)

    pub twice_lists : (p n r₁ r₂ : ℕ) (x y : List ℕ) → p < 256 ^ 16
        → Writes R (ends R calls) (apply p n r₁) x → Writes R (ends R (calls ++ one (apply p n r₁))) (apply p n r₂) y
        → store_after R ((calls ++ one (apply p n r₁)) ++ one (apply p n r₂)) p ≡ store_after R (calls ++ one (apply p n r₁)) p
    twice_lists p n r₁ r₂ x y small e f =
        let a = e.reply.0 in
        let na = e.reply.1.0 in
        (apply_left (calls ++ one (apply p n r₁)) p n r₂ y f).own
        ∙ (sym (twice_exactly p n r₁ r₂ a x y small na (apply_first p n r₁ x a na e) (apply_second p n n r₁ r₂ x y a na e f))
        ∙ sym (apply_left calls p n r₁ x e).own)

-- what runs the calls as `Runner` says: it begins empty; one call more, and only that, is what the machine is told; it acts where the call
-- writes, and nothing changes where it does not
module _ (R : Rules) (w : List Call → World) (m : List Call → State) (t : List Call → List Fed) (W : Runner R w m t) where
  pub first_exactly : ((p : ℕ) → p < 256 ^ 16 → new_reply (put 16 p []) ≡ gives ((w []).stores p))
      × (((w []).batches ≡ []) × (((m []).versions ≡ []) × (((p i q : ℕ) → (m []).ticks p i q ≡ 0) × (((m []).batches ≡ []) × (t [] ≡ [])))))
  first_exactly = (W.stores, (W.batches, (W.versions, (W.ticks, (W.remembered, W.untold)))))

  pub acts_exactly : (calls : List Call) (c : Call) (bs : List ℕ) → Writes R (w calls) c bs
      → Leaves c bs (w calls) (w (calls ++ one c)) × (m (calls ++ one c) ≡ acts (m calls) c)
  acts_exactly calls c bs h = (W.written calls c bs h, W.acted calls c bs h)

  pub idle_exactly : (calls : List Call) (c : Call) → WritesNothing R (w calls) c
      → (w (calls ++ one c) ≡ w calls) × (m (calls ++ one c) ≡ m calls)
  idle_exactly calls c h = (W.refused calls c h, W.idle calls c h)

  -- "whether the call was refused", both ways
  pub told_exactly : (calls : List Call) (c : Call)
      → (x : Fed) × ((t (calls ++ one c) ≡ t calls ++ (x ∷ [])) × ((x.call ≡ c) × (((x.refused ≡ true) ↔ WritesNothing R (w calls) c)
      × ((x.refused ≡ false) ↔ ((bs : List ℕ) × Writes R (w calls) c bs)))))
  told_exactly calls c =
      let x = W.told calls c in
      (x.0, (x.1.1, (x.1.0.call, (x.1.0.refused, x.1.0.done))))

module _ (R : Rules) (calls : List Call) (B : Batches R calls) where
  -- every batch made is valid, under whatever number, and was made for a lawful knowledge that the list gave
  pub batches_exactly : (n : ℕ) (s : List ℕ) → Number n (ends R calls).batches s
      → (k : Knowledge) × (Lawful R k × ((batch_number n (asked R start calls) ≡ some (encode k)) × BatchAgrees R.limits (machine R calls) n k s))
  batches_exactly n s h =
      let d = B.agree n s ((batch_exact_number n (ends R calls).batches s).1 h) in
      (d.given, (d.lawful, (d.bytes, d.agrees)))

  -- and the machine remembers it under the same number
  pub remembered_exactly : Runner R (ends R) (machine R) (trace R start) → (n : ℕ) (s : List ℕ) → Number n (ends R calls).batches s
      → (m : Remembered) × Number n (machine R calls).batches m
  remembered_exactly W n s h =
      let a = (batches_exactly n s h).1.1.1 in
      (a.remembered, (W.numbers n (machine R calls).batches a.remembered).0 a.remembers)

  -- "the second half of 18 is never met", by the test that the calls make
  pub ahead_exactly : (p n : ℕ) (s : List ℕ) (st : Store) (b : Batch) → p < 256 ^ 16 → Number n (ends R calls).batches s
      → IsStore R.limits (store_after R calls p) st → IsBatch R.limits s b → own_ahead st b ≡ false
  unfolding own_ahead
  ahead_exactly p n s st b small h xs xb =
      ap not ((covers_for_exact (st.own ∷ []) st.knowledge b.learned 0 highest).1 (record {
        known = λ i q l top a. ⊎_elim
            (λ (d : q ≡ st.own). subst (λ (y : ℕ). known b.learned i y ≤ known st.knowledge i y) (sym d)
            (B.never18 p n i s st b small top ((batch_exact_number n (ends R calls).batches s).1 h) xs xb)) (λ z. absurd z) a;
      }))

-- ---- demand 1: what a caller knows that tests the number for 0, of every call

-- three values, each behind a pointer of its own
three : (x y : ℕ × (ℕ × ℕ)) → x ≡ y → (x.0 ≡ y.0) × ((x.1.0 ≡ y.1.0) × (x.1.1 ≡ y.1.1))
three x y e = (ap (λ (t : ℕ × (ℕ × ℕ)). t.0) e, (ap (λ (t : ℕ × (ℕ × ℕ)). t.1.0) e, ap (λ (t : ℕ × (ℕ × ℕ)). t.1.1) e))

-- side, place and length of a part
pub record PartAtZero (p : Part) : Type 0 where
  pub zero : part_number p ≡ 0 → (a b c x y z : ℕ)
      → (part_side p a ≡ part_side p x) × ((part_at_place p b ≡ part_at_place p y) × (part_length p c ≡ part_length p z))
  pub other : (part_number p ≡ 0 → ⊥) → (a b c : ℕ) → (part_side p a ≡ a) × ((part_at_place p b ≡ b) × (part_length p c ≡ c))

part_at-zero : (p : Part) → SaysOrRefuses part_number part_values p → PartAtZero p
unfolding part_values
part_at-zero p s =
    let d = says_at-zero part_number part_values p s in
    record {
      zero = λ n a b c x y z. three (part_values p (a, (b, c))) (part_values p (x, (y, z))) (d.zero n (a, (b, c)) (x, (y, z)));
      other = λ n a b c. three (part_values p (a, (b, c))) (a, (b, c)) (d.other n (a, (b, c)));
    }

-- the three numbers of a coverage
pub record CoverageAtZero (c : Coverage) : Type 0 where
  pub zero : coverage_number c ≡ 0 → (i j k x y z : ℕ) → (coverage_contained c i ≡ coverage_contained c x)
      × ((coverage_all c j ≡ coverage_all c y) × (coverage_thousandths c k ≡ coverage_thousandths c z))
  pub other : (coverage_number c ≡ 0 → ⊥) → (i j k : ℕ)
      → (coverage_contained c i ≡ i) × ((coverage_all c j ≡ j) × (coverage_thousandths c k ≡ k))

coverage_at-zero : (c : Coverage) → SaysOrRefuses coverage_number coverage_values c → CoverageAtZero c
unfolding coverage_values
coverage_at-zero c s =
    let d = says_at-zero coverage_number coverage_values c s in
    record {
      zero = λ n i j k x y z. three (coverage_values c (i, (j, k))) (coverage_values c (x, (y, z))) (d.zero n (i, (j, k)) (x, (y, z)));
      other = λ n i j k. three (coverage_values c (i, (j, k))) (i, (j, k)) (d.other n (i, (j, k)));
    }

module _ (R : Rules) (D : Demand1 R) where
  pub check-zero : (s : List ℕ) → ChecksAtZero R s
  check-zero s = checks_at-zero R s (D.check s)

  pub contain-zero : (s item replica : List ℕ) (t : ℕ) → SaysAtZero contain_number contain_value (contain_answer R s item replica t)
  contain-zero s item replica t = says_at-zero contain_number contain_value (contain_answer R s item replica t) (D.contain s item replica t)

  pub lead_zero : (s t item replica : List ℕ) → SaysAtZero lead_number lead_value (lead_answer R s t item replica)
  lead_zero s t item replica = says_at-zero lead_number lead_value (lead_answer R s t item replica) (D.lead s t item replica)

  pub cover-zero : (s t first last : List ℕ) → SaysAtZero cover_number cover_value (cover_answer R s t first last)
  cover-zero s t first last = says_at-zero cover_number cover_value (cover_answer R s t first last) (D.cover s t first last)

  pub normalise-zero : (s out : List ℕ) (old : ℕ) → WritesAtZero (normalise_reply R s) out old
  normalise-zero s out old = writes_at-zero (normalise_reply R s) out old (D.normalise s out old)

  pub merge-zero : (s t out : List ℕ) (old : ℕ) → WritesAtZero (merge_reply R s t) out old
  merge-zero s t out old = writes_at-zero (merge_reply R s t) out old (D.merge s t out old)

  pub project-zero : (s first last out : List ℕ) (old : ℕ) → WritesAtZero (project_reply R s first last) out old
  project-zero s first last out old = writes_at-zero (project_reply R s first last) out old (D.project s first last out old)

  pub compare-zero : (s t out : List ℕ) (old : ℕ) → WritesAtZero (compare_reply R s t) out old
  compare-zero s t out old = writes_at-zero (compare_reply R s t) out old (D.compare s t out old)

  pub order-zero : (s t out : List ℕ) → SaysAtZero number_of (order_value R s t) (answer (compare_reply R s t) (length out))
  order-zero s t out =
      says_at-zero number_of (order_value R s t) (answer (compare_reply R s t) (length out)) (D.order s t (length out))

  pub new-zero : (own out : List ℕ) (old : ℕ) → WritesAtZero (new_reply own) out old
  new-zero own out old = writes_at-zero (new_reply own) out old (D.new own out old)

  pub edit-zero : (s item : List ℕ) (b : Brought) (out : List ℕ) (old : ℕ) → WritesAtZero (edit_reply R.limits s item b) out old
  edit-zero s item b out old = writes_at-zero (edit_reply R.limits s item b) out old (D.edit s item b out old)

  pub delete-zero : (s item out : List ℕ) (old : ℕ) → WritesAtZero (delete_reply R.limits s item) out old
  delete-zero s item out old = writes_at-zero (delete_reply R.limits s item) out old (D.delete s item out old)

  pub make-zero : (s knowledge first last out : List ℕ) (old : ℕ) → WritesAtZero (make_reply R s knowledge first last) out old
  make-zero s knowledge first last out old =
      writes_at-zero (make_reply R s knowledge first last) out old (D.make s knowledge first last out old)

  pub apply-zero : (s batch out : List ℕ) (old : ℕ) → WritesAtZero (apply_reply R.limits s batch) out old
  apply-zero s batch out old = writes_at-zero (apply_reply R.limits s batch) out old (D.apply s batch out old)

  pub winner-zero : (s batch item : List ℕ) → PartAtZero (winner_part R.limits s batch item)
  winner-zero s batch item = part_at-zero (winner_part R.limits s batch item) (D.winner s batch item)

  pub learned-zero : (batch : List ℕ) → PartAtZero (learned_part R.limits batch)
  learned-zero batch = part_at-zero (learned_part R.limits batch) (D.learned batch)

  pub knowledge-zero : (s : List ℕ) → PartAtZero (knowledge_part R.limits s)
  knowledge-zero s = part_at-zero (knowledge_part R.limits s) (D.knowledge s)

  pub coverage-zero : (s knowledge : List ℕ) → CoverageAtZero (coverage_answer R s knowledge)
  coverage-zero s knowledge = coverage_at-zero (coverage_answer R s knowledge) (D.coverage s knowledge)

-- ---- with document 01's limits, for every list of calls, and no hypothesis left: the statements hold

pub either_basic : (calls : List Call) → All Given calls → (p m n r₁ r₂ r₃ r₄ : ℕ) (u x v y : List ℕ) → p < 256 ^ 16
    → Writes basic (ends basic calls) (apply p m r₁) u → Writes basic (ends basic (calls ++ one (apply p m r₁))) (apply p n r₂) x
    → Writes basic (ends basic calls) (apply p n r₃) v → Writes basic (ends basic (calls ++ one (apply p n r₃))) (apply p m r₄) y
    → store_after basic ((calls ++ one (apply p m r₁)) ++ one (apply p n r₂)) p
    ≡ store_after basic ((calls ++ one (apply p n r₃)) ++ one (apply p m r₄)) p
either_basic calls given = either_lists basic calls (demand3_basic calls given) (runner basic)

pub ahead_basic : (calls : List Call) → All Given calls → (p n : ℕ) (s : List ℕ) (st : Store) (b : Batch) → p < 256 ^ 16
    → Number n (ends basic calls).batches s → IsStore basic.limits (store_after basic calls p) st → IsBatch basic.limits s b
    → own_ahead st b ≡ false
ahead_basic calls given = ahead_exactly basic calls (demand3_batches_basic calls given)

pub winner_basic : (s batch item : List ℕ) → PartAtZero (winner_part base s batch item)
winner_basic = winner-zero basic demand1_basic

-- whatever runs the calls as `Runner` says keeps stores that agree with its machine
pub agrees_run : (w : List Call → World) (m : List Call → State) (t : List Call → List Fed) → Runner basic w m t
    → (calls : List Call) → All Given calls → (p : ℕ) → p < 256 ^ 16 → Agrees base ((w calls).stores p) (m calls) p
agrees_run w m t W calls given p small =
    let s = runner_only basic w m t W calls given in
    subst (λ (x : List ℕ). Agrees base x (m calls) p) (sym (s.world.stores p small))
    (subst (λ (x : State). Agrees base (store_after basic calls p) x p) (sym s.machine) ((demand3_basic calls given).agrees p small))
