-- Of each call that writes, all that document 01 says in one statement: the number of the store's own fault and of the second
-- argument's; else which numbers there are, each with its condition, and what is written where none is given. The statements
-- settle the reply, refused or not: at most one reply meets them. A table that left out a number, a condition or an order would
-- not do that. They gather the laws of Refusals and Contents in `replication`.
use Prim.Native.Nat.{ℕ, ◌≤◌, ◌<◌}
use mathlib.Core.Path.{◌≡◌, refl, sym, ap, ◌∙◌, subst}
use mathlib.Core.Logic.{◌⊎◌, inl, inr, ◌↔◌}
use mathlib.Core.List.{List, [], ◌∷◌, ◌++◌}
use mathlib.Core.Option.{none}
use native.Mathlib.Omega.{arith}
use lib.ListN.{length}
use Rattle.codec.specs.Number.{Bytes, be_at}
use Rattle.codec.specs.Reply.{Reply, gives, refuses}
use Rattle.codec.specs.Parsed.{Parsed, accepted, refused}
use Rattle.layout.specs.Knowledge.{Limits, Rules, Knowledge}
use Rattle.layout.specs.Permitted.{Permitted}
use Rattle.layout.specs.Parse.{parse}
use Rattle.ticks.specs.Meaning.{known}
use Rattle.ticks.specs.Operations.{normalise, merge, project}
use Rattle.ticks.specs.Table.{sorted}
use Rattle.ticks.proofs.Lists.{Among, less, same, more, order}
use Rattle.ticks.proofs.Counts.{normalise_replicas, project_replicas}
use Rattle.ticks.proofs.Replies.{read_lawful}
use Rattle.replication.specs.Call.{Brought, BytesBrought}
use Rattle.replication.specs.Formats.{Store, find, items}
use Rattle.replication.specs.BatchFormat.{Batch}
use Rattle.replication.specs.OpenStore.{open_store}
use Rattle.replication.specs.OpenBatch.{open_batch}
use Rattle.replication.specs.Calls.{RightBrought, edit_reply, delete_reply, make_reply, apply_reply}
use Rattle.replication.proofs.Contents.Edit.{Changes, edit_writes, delete_writes}
use Rattle.replication.proofs.Contents.Make.{Makes, make_writes}
use Rattle.replication.proofs.Contents.Apply.{Applies, apply_writes}
use Rattle.replication.proofs.Contents.Settled.{changes_settled, makes_settled, applies_settled}
use Rattle.replication.proofs.Refusals.Table.{gives_refuses}
use Rattle.replication.proofs.Refusals.Tests.{opened_lawful, Lacks, Covered, Ahead, Behind, Gone, Present, Exhausted, Unexhausted, NoSpan, Span}
use Rattle.replication.proofs.Refusals.Edit.{edit_store, delete_store, edit_17, edit_20, edit_numbers_lem, delete_17, delete_19, delete_20, delete_numbers_lem}
use Rattle.replication.proofs.Refusals.Make.{Fits, make_store, make_own, make_17, make_12, make_numbers_lem}
use Rattle.replication.proofs.Refusals.Apply.{apply_store, apply_batch, apply_18, apply_11, apply_12, apply_numbers_lem}
use Rattle.corollaries.proofs.Refusals.Counts.{edit_11_full, edit_never_12, edit_13_full, delete_11_full, delete_never_12, delete_never_13}
use Rattle.corollaries.proofs.Refusals.Counts.{make_never_11, make_never_13}
use Rattle.corollaries.proofs.Refusals.Join.{ids_rising, ids_either, apply_13_plain}
use mathlib.Core.Bool.{false, true}

-- ---- two replies

-- refused with the same of these numbers
abbrev Each : List ℕ → Reply → Reply → Type 0
Each [] r u = Unit {0}
Each (n ∷ ns) r u = ((r ≡ refuses n) ↔ (u ≡ refuses n)) × Each ns r u

each_of : (n : ℕ) (ns : List ℕ) (r u : Reply) → Among n ns → Each ns r u → (r ≡ refuses n) ↔ (u ≡ refuses n)
each_of n [] r u x' h = elim x' [ ]
each_of n (m ∷ ns) r u (inl e) h = subst (λ (k : ℕ). (r ≡ refuses k) ↔ (u ≡ refuses k)) (sym e) h.0
each_of n (m ∷ ns) r u (inr a) h = each_of n ns r u a h.1

through : (A B P : Type 0) → A ↔ P → B ↔ P → A ↔ B
through A B P a b = (λ x. b.1 (a.0 x), λ y. a.1 (b.0 y))

-- no other number is given, and the bytes are the same: so are the replies
settle : (ns : List ℕ) (r u : Reply) → ((n : ℕ) → r ≡ refuses n → Among n ns) → ((n : ℕ) → u ≡ refuses n → Among n ns)
    → Each ns r u → ((bs cs : List ℕ) → r ≡ gives bs → u ≡ gives cs → bs ≡ cs) → r ≡ u
settle ns r u f g h bytes = go r refl u refl
  where
    go : (x : Reply) → r ≡ x → (y : Reply) → u ≡ y → r ≡ u
    go (refuses n) e y k = e ∙ sym ((each_of n ns r u (f n e) h).0 e)
    go (gives bs) e (refuses n) k = absurd (gives_refuses r bs n e ((each_of n ns r u (g n k) h).1 k))
    go (gives bs) e (gives cs) k = e ∙ (ap gives (bytes bs cs e k) ∙ sym k)

-- ---- edit and delete

-- for a store that opens; 12 is never given
pub record EditTable (L : Limits) (st : Store) (item : List ℕ) (b : Brought) (r : Reply) : Type 0 where
  pub numbers : (n : ℕ) → r ≡ refuses n → Among n (17 ∷ 20 ∷ 11 ∷ 13 ∷ [])
  pub n17 : (r ≡ refuses 17) ↔ ((length item ≡ 24 → ⊥) ⊎ (RightBrought b → ⊥))
  pub n20 : (r ≡ refuses 20) ↔ (((length item ≡ 24) × RightBrought b) × Exhausted st)
  -- the own id would be one replica too many
  pub n11 : (r ≡ refuses 11) ↔ (((length item ≡ 24) × RightBrought b) × (Unexhausted st
      × ((known st.knowledge 0 st.own ≡ 0) × (length st.knowledge.replicas ≡ L.replicas))))
  -- the item would be one record too many
  pub n13 : (r ≡ refuses 13) ↔ (((length item ≡ 24) × RightBrought b) × (Unexhausted st
      × (((1 ≤ known st.knowledge 0 st.own) ⊎ (length st.knowledge.replicas < L.replicas))
      × ((find (be_at item 24 0) st.records ≡ none) × (length st.records ≡ L.records)))))
  pub writes : (bs : List ℕ) → r ≡ gives bs
      → Changes L st (record { deleted = false; tag = be_at b.tag 16 0 }) (be_at item 24 0) bs

pub record EditSays (L : Limits) (s item : List ℕ) (b : Brought) (r : Reply) : Type 0 where
  pub own : (n : ℕ) → open_store L s ≡ refused n → r ≡ refuses n
  pub table : (st : Store) → open_store L s ≡ accepted st → EditTable L st item b r

-- 12 and 13 are never given
pub record DeleteTable (L : Limits) (st : Store) (item : List ℕ) (r : Reply) : Type 0 where
  pub numbers : (n : ℕ) → r ≡ refuses n → Among n (17 ∷ 19 ∷ 20 ∷ 11 ∷ [])
  pub n17 : (r ≡ refuses 17) ↔ (length item ≡ 24 → ⊥)
  pub n19 : (r ≡ refuses 19) ↔ ((length item ≡ 24) × Gone (find (be_at item 24 0) st.records))
  pub n20 : (r ≡ refuses 20) ↔ ((length item ≡ 24) × (Present (find (be_at item 24 0) st.records) × Exhausted st))
  pub n11 : (r ≡ refuses 11) ↔ ((length item ≡ 24) × (Present (find (be_at item 24 0) st.records) × (Unexhausted st
      × ((known st.knowledge 0 st.own ≡ 0) × (length st.knowledge.replicas ≡ L.replicas)))))
  pub writes : (bs : List ℕ) → r ≡ gives bs → Changes L st (record { deleted = true; tag = 0 }) (be_at item 24 0) bs

pub record DeleteSays (L : Limits) (s item : List ℕ) (r : Reply) : Type 0 where
  pub own : (n : ℕ) → open_store L s ≡ refused n → r ≡ refuses n
  pub table : (st : Store) → open_store L s ≡ accepted st → DeleteTable L st item r

not_refused : {A C : Type 0} (o : Parsed A) (x : A) (n : ℕ) → o ≡ accepted x → o ≡ refused n → C
not_refused o x n e f =
    let z : ◌≡◌ {A = ℕ} 0 1 = cc in
    absurd (omega arith)

module _ (L : Limits) (permitted : Permitted L) (s item : List ℕ) (b : Brought) (octets : Bytes s) (given : Bytes item) (brings : BytesBrought b) where
  edit_table : (st : Store) → open_store L s ≡ accepted st → EditTable L st item b (edit_reply L s item b)
  edit_table st e =
      record {
        numbers = λ n h. among n h (edit_numbers_lem L permitted s item b octets n h);
        n17 = edit_17 L permitted s item b octets st e;
        n20 = edit_20 L permitted s item b octets st e;
        n11 = edit_11_full L permitted s octets st e item b;
        n13 = edit_13_full L permitted s octets st e item b;
        writes = λ bs h. edit_writes L s item b bs st permitted octets given brings e h;
      }
    where
      among : (n : ℕ) → edit_reply L s item b ≡ refuses n
          → (open_store L s ≡ refused n) ⊎ (((st : Store) × (open_store L s ≡ accepted st)) × Among n (17 ∷ 20 ∷ 11 ∷ 12 ∷ 13 ∷ []))
          → Among n (17 ∷ 20 ∷ 11 ∷ 13 ∷ [])
      among n h (inl f) = not_refused (open_store L s) st n e f
      among n h (inr (x, inl a)) = inl a
      among n h (inr (x, inr (inl a))) = inr (inl a)
      among n h (inr (x, inr (inr (inl a)))) = inr (inr (inl a))
      among n h (inr (x, inr (inr (inr (inl a))))) = absurd (edit_never_12 L permitted s octets st e item b (h ∙ ap refuses a))
      among n h (inr (x, inr (inr (inr (inr a))))) = inr (inr (inr a))

  pub edit_says : EditSays L s item b (edit_reply L s item b)
  edit_says = record { own = λ n e. edit_store L s item b n e; table = edit_table }

module _ (L : Limits) (permitted : Permitted L) (s item : List ℕ) (octets : Bytes s) (given : Bytes item) where
  delete_table : (st : Store) → open_store L s ≡ accepted st → DeleteTable L st item (delete_reply L s item)
  delete_table st e =
      record {
        numbers = λ n h. among n h (delete_numbers_lem L permitted s item octets n h);
        n17 = delete_17 L permitted s item octets st e;
        n19 = delete_19 L permitted s item octets st e;
        n20 = delete_20 L permitted s item octets st e;
        n11 = delete_11_full L permitted s octets st e item;
        writes = λ bs h. delete_writes L s item bs st permitted octets given e h;
      }
    where
      among : (n : ℕ) → delete_reply L s item ≡ refuses n
          → (open_store L s ≡ refused n) ⊎ (((st : Store) × (open_store L s ≡ accepted st)) × Among n (17 ∷ 19 ∷ 20 ∷ 11 ∷ 12 ∷ 13 ∷ []))
          → Among n (17 ∷ 19 ∷ 20 ∷ 11 ∷ [])
      among n h (inl f) = not_refused (open_store L s) st n e f
      among n h (inr (x, inl a)) = inl a
      among n h (inr (x, inr (inl a))) = inr (inl a)
      among n h (inr (x, inr (inr (inl a)))) = inr (inr (inl a))
      among n h (inr (x, inr (inr (inr (inl a))))) = inr (inr (inr (inl a)))
      among n h (inr (x, inr (inr (inr (inr (inl a)))))) = absurd (delete_never_12 L permitted s octets st e item (h ∙ ap refuses a))
      among n h (inr (x, inr (inr (inr (inr (inr (inl a))))))) = absurd (delete_never_13 L permitted s octets st e item (h ∙ ap refuses a))
      among n h (inr (x, inr (inr (inr (inr (inr (inr a))))))) = absurd a

  pub delete_says : DeleteSays L s item (delete_reply L s item)
  delete_says = record { own = λ n e. delete_store L s item n e; table = delete_table }

module _ (L : Limits) (s item : List ℕ) where
  pub edit_settled : (b : Brought) (r u : Reply) → EditSays L s item b r → EditSays L s item b u → r ≡ u
  edit_settled b r u x y = go (open_store L s) refl
    where
      go : (o : Parsed Store) → open_store L s ≡ o → r ≡ u
      go (refused n) e = x.own n e ∙ sym (y.own n e)
      go (accepted st) e =
          let v = x.table st e in
          let w = y.table st e in
          settle (17 ∷ 20 ∷ 11 ∷ 13 ∷ []) r u v.numbers w.numbers
          (through _ _ _ v.n17 w.n17, (through _ _ _ v.n20 w.n20, (through _ _ _ v.n11 w.n11, (through _ _ _ v.n13 w.n13, tt))))
          (λ bs cs f g.
          changes_settled L st (record { deleted = false; tag = be_at b.tag 16 0 }) (be_at item 24 0) bs cs (v.writes bs f) (w.writes cs g))

  pub delete_settled : (r u : Reply) → DeleteSays L s item r → DeleteSays L s item u → r ≡ u
  delete_settled r u x y = go (open_store L s) refl
    where
      go : (o : Parsed Store) → open_store L s ≡ o → r ≡ u
      go (refused n) e = x.own n e ∙ sym (y.own n e)
      go (accepted st) e =
          let v = x.table st e in
          let w = y.table st e in
          settle (17 ∷ 19 ∷ 20 ∷ 11 ∷ []) r u v.numbers w.numbers
          (through _ _ _ v.n17 w.n17, (through _ _ _ v.n19 w.n19, (through _ _ _ v.n20 w.n20, (through _ _ _ v.n11 w.n11, tt))))
          (λ bs cs f g. changes_settled L st (record { deleted = true; tag = 0 }) (be_at item 24 0) bs cs (v.writes bs f) (w.writes cs g))

-- ---- make

-- for a store that opens and a knowledge that is read; 11 and 13 are never given
pub record MakeTable (R : Rules) (st : Store) (k : Knowledge) (first last : List ℕ) (r : Reply) : Type 0 where
  pub numbers : (n : ℕ) → r ≡ refuses n → Among n (17 ∷ 12 ∷ [])
  pub n17 : (r ≡ refuses 17) ↔ NoSpan first last
  -- needed has too many ranges, or learned has
  pub n12 : (r ≡ refuses 12) ↔ (Span first last × ((R.limits.ranges < length (normalise k).ranges)
      ⊎ (R.limits.ranges < length (project (be_at first 24 0) (be_at last 24 0) st.knowledge).ranges)))
  pub writes : (bs : List ℕ) → r ≡ gives bs → Makes R st k (be_at first 24 0) (be_at last 24 0) bs

pub record MakeSays (R : Rules) (s knowledge first last : List ℕ) (r : Reply) : Type 0 where
  pub own : (n : ℕ) → open_store R.limits s ≡ refused n → r ≡ refuses n
  pub second : (st : Store) (n : ℕ) → open_store R.limits s ≡ accepted st → parse R knowledge ≡ refused n → r ≡ refuses n
  pub table : (st : Store) (k : Knowledge) → open_store R.limits s ≡ accepted st → parse R knowledge ≡ accepted k
      → MakeTable R st k first last r

module _ (R : Rules) (permitted : Permitted R.limits) (s knowledge first last : List ℕ) (octets : Bytes s) (given : Bytes knowledge)
    (bound : Bytes last) where
  module _ (st : Store) (k : Knowledge) (e : open_store R.limits s ≡ accepted st) (f : parse R knowledge ≡ accepted k) where
    needed_few : length (normalise k).replicas ≤ R.limits.replicas
    needed_few = omega (arith, normalise_replicas k, (read_lawful R knowledge k permitted given f).replicas)

    learned_few : length (project (be_at first 24 0) (be_at last 24 0) st.knowledge).replicas ≤ R.limits.replicas
    learned_few =
        omega (arith, project_replicas (be_at first 24 0) (be_at last 24 0) st.knowledge, (opened_lawful R.limits s st permitted octets e).replicas)

    abbrev ManyRanges : Type 0
    ManyRanges =
        (R.limits.ranges < length (normalise k).ranges)
        ⊎ (R.limits.ranges < length (project (be_at first 24 0) (be_at last 24 0) st.knowledge).ranges)

    abbrev TooMany : Type 0
    TooMany =
        (Span first last × ((length (normalise k).replicas ≤ R.limits.replicas) × (R.limits.ranges < length (normalise k).ranges)))
        ⊎ (Span first last × (Fits R (normalise k)
        × ((length (project (be_at first 24 0) (be_at last 24 0) st.knowledge).replicas ≤ R.limits.replicas)
        × (R.limits.ranges < length (project (be_at first 24 0) (be_at last 24 0) st.knowledge).ranges))))

    make_ranges : (make_reply R s knowledge first last ≡ refuses 12) ↔ (Span first last × ManyRanges)
    make_ranges =
        let law = make_12 R s knowledge first last st k e f in (
          (λ h. elim (law.0 h) [ inl a ↦ (a.0, inl a.1.1) | inr a ↦ (a.0, inr a.1.1.1) ]),
          λ a. law.1 (elim (order R.limits.ranges (length (normalise k).ranges)) [
            | less h ↦ inl (a.0, (needed_few, h))
            | same h ↦ fits a.0 (omega arith) a.1
            | more h ↦ fits a.0 (omega arith) a.1
          ]),
        )
      where
        fits : Span first last → length (normalise k).ranges ≤ R.limits.ranges → ManyRanges → TooMany
        fits span l (inl h) = absurd (omega arith)
        fits span l (inr h) = inr (span, (record { replicas = needed_few; ranges = l }, (learned_few, h)))

    make_table : MakeTable R st k first last (make_reply R s knowledge first last)
    make_table =
        record {
          numbers = λ n h. among n h (make_numbers_lem R s knowledge first last n h);
          n17 = make_17 R s knowledge first last st k e f;
          n12 = make_ranges;
          writes = λ bs h. make_writes R s knowledge first last bs st k permitted octets given bound e f h;
        }
      where
        among : (n : ℕ) → make_reply R s knowledge first last ≡ refuses n
            → (open_store R.limits s ≡ refused n) ⊎ (((st : Store) × (open_store R.limits s ≡ accepted st))
            × ((parse R knowledge ≡ refused n) ⊎ Among n (17 ∷ 11 ∷ 12 ∷ 13 ∷ [])))
            → Among n (17 ∷ 12 ∷ [])
        among n h (inl g) = not_refused (open_store R.limits s) st n e g
        among n h (inr (x, inl g)) = not_refused (parse R knowledge) k n f g
        among n h (inr (x, inr (inl a))) = inl a
        among n h (inr (x, inr (inr (inl a)))) =
            absurd (make_never_11 R.limits permitted s octets st e R.judge knowledge first last given k f (h ∙ ap refuses a))
        among n h (inr (x, inr (inr (inr (inl a))))) = inr (inl a)
        among n h (inr (x, inr (inr (inr (inr (inl a)))))) =
            absurd (make_never_13 R.limits permitted s octets st e R.judge knowledge first last given k f (h ∙ ap refuses a))
        among n h (inr (x, inr (inr (inr (inr (inr a)))))) = absurd a

  pub make_says : MakeSays R s knowledge first last (make_reply R s knowledge first last)
  make_says =
      record {
        own = λ n e. make_store R s knowledge first last n e;
        second = λ st n e f. (make_own R s knowledge first last st n n e f).1 refl;
        table = make_table;
      }

pub make_settled : (R : Rules) (s knowledge first last : List ℕ) (r u : Reply) → MakeSays R s knowledge first last r
    → MakeSays R s knowledge first last u → r ≡ u
make_settled R s knowledge first last r u x y = go (open_store R.limits s) refl (parse R knowledge) refl
  where
    go : (o : Parsed Store) → open_store R.limits s ≡ o → (p : Parsed Knowledge) → parse R knowledge ≡ p → r ≡ u
    go (refused n) e p f = x.own n e ∙ sym (y.own n e)
    go (accepted st) e (refused n) f = x.second st n e f ∙ sym (y.second st n e f)
    go (accepted st) e (accepted k) f =
        let v = x.table st k e f in
        let w = y.table st k e f in
        settle (17 ∷ 12 ∷ []) r u v.numbers w.numbers (through _ _ _ v.n17 w.n17, (through _ _ _ v.n12 w.n12, tt))
        (λ bs cs g h. makes_settled R st k (be_at first 24 0) (be_at last 24 0) bs cs (v.writes bs g) (w.writes cs h))

-- ---- apply

-- for a store and a batch that open; 13 counts the item ids of both tables, each once
pub record ApplyTable (L : Limits) (st : Store) (b : Batch) (r : Reply) : Type 0 where
  pub numbers : (n : ℕ) → r ≡ refuses n → Among n (18 ∷ 11 ∷ 12 ∷ 13 ∷ [])
  pub n18 : (r ≡ refuses 18) ↔ (Lacks st b ⊎ Ahead st b)
  pub n11 : (r ≡ refuses 11) ↔ ((Covered st b × Behind st b) × (L.replicas < length (merge st.knowledge b.learned).replicas))
  pub n12 : (r ≡ refuses 12) ↔ ((Covered st b × Behind st b) × ((length (merge st.knowledge b.learned).replicas ≤ L.replicas)
      × (L.ranges < length (merge st.knowledge b.learned).ranges)))
  pub n13 : (r ≡ refuses 13) ↔ ((Covered st b × Behind st b) × ((length (merge st.knowledge b.learned).replicas ≤ L.replicas)
      × ((length (merge st.knowledge b.learned).ranges ≤ L.ranges)
      × (L.records < length (sorted (items st.records ++ items b.records))))))
  pub writes : (bs : List ℕ) → r ≡ gives bs → Applies L st b bs

pub record ApplySays (L : Limits) (s t : List ℕ) (r : Reply) : Type 0 where
  pub own : (n : ℕ) → open_store L s ≡ refused n → r ≡ refuses n
  pub second : (st : Store) (n : ℕ) → open_store L s ≡ accepted st → open_batch L t ≡ refused n → r ≡ refuses n
  pub table : (st : Store) (b : Batch) → open_store L s ≡ accepted st → open_batch L t ≡ accepted b → ApplyTable L st b r

module _ (L : Limits) (permitted : Permitted L) (s t : List ℕ) (octets : Bytes s) (given : Bytes t) where
  apply_table : (st : Store) (b : Batch) → open_store L s ≡ accepted st → open_batch L t ≡ accepted b → ApplyTable L st b (apply_reply L s t)
  apply_table st b e f =
      record {
        numbers = λ n h. among n (apply_numbers_lem L s t n h);
        n18 = apply_18 L s t st b e f;
        n11 = apply_11 L s t st b e f;
        n12 = apply_12 L s t st b e f;
        n13 =
            apply_13_plain L permitted s t octets given st b e f (sorted (items st.records ++ items b.records))
            (ids_rising st.records b.records) (λ i. ids_either st.records b.records i);
        writes = λ bs h. apply_writes L s t bs st b permitted octets given e f h;
      }
    where
      among : (n : ℕ) → (open_store L s ≡ refused n) ⊎ (((st : Store) × (open_store L s ≡ accepted st))
          × ((open_batch L t ≡ refused n) ⊎ (((b : Batch) × (open_batch L t ≡ accepted b)) × Among n (18 ∷ 11 ∷ 12 ∷ 13 ∷ []))))
          → Among n (18 ∷ 11 ∷ 12 ∷ 13 ∷ [])
      among n (inl g) = not_refused (open_store L s) st n e g
      among n (inr (x, inl g)) = not_refused (open_batch L t) b n f g
      among n (inr (x, inr (y, a))) = a

  pub apply_says : ApplySays L s t (apply_reply L s t)
  apply_says = record { own = λ n e. apply_store L s t n e; second = λ st n e f. apply_batch L s t st n e f; table = apply_table }

pub apply_settled : (L : Limits) (s t : List ℕ) (r u : Reply) → ApplySays L s t r → ApplySays L s t u → r ≡ u
apply_settled L s t r u x y = go (open_store L s) refl (open_batch L t) refl
  where
    go : (o : Parsed Store) → open_store L s ≡ o → (p : Parsed Batch) → open_batch L t ≡ p → r ≡ u
    go (refused n) e p f = x.own n e ∙ sym (y.own n e)
    go (accepted st) e (refused n) f = x.second st n e f ∙ sym (y.second st n e f)
    go (accepted st) e (accepted b) f =
        let v = x.table st b e f in
        let w = y.table st b e f in
        settle (18 ∷ 11 ∷ 12 ∷ 13 ∷ []) r u v.numbers w.numbers
        (through _ _ _ v.n18 w.n18, (through _ _ _ v.n11 w.n11, (through _ _ _ v.n12 w.n12, (through _ _ _ v.n13 w.n13, tt))))
        (λ bs cs g h. applies_settled L st b bs cs (v.writes bs g) (w.writes cs h))
