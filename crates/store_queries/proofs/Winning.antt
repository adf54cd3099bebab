-- The winner, one law for each way that the search goes. What is found on each side is the place of the item's record there, a whole
-- one; so which of two wins is asked of records that are all there, and the part, which is as long as its kind says, is inside.
use Prim.Native.Nat.{ℕ, ◌+◌, ◌^◌, ◌≤◌, ◌<◌}
use mathlib.Core.Path.{◌≡◌, refl, sym, ap, ap₂, ◌∙◌, subst}
use mathlib.Core.Bool.{Bool, true, false}
use mathlib.Core.List.{List}
use mathlib.Core.Option.{Option, none, some}
use native.Mathlib.Omega.{arith}
use lib.Dec.{eqb}
use lib.ListN.{length}
use borrow.Author.Tests.{eqb-true, eqb-false}
use Rattle.std.specs.Prelude.{Result, Ok, Err}
use Rattle.codec.specs.declared.Refusal.{Refusal}
use Rattle.codec.specs.Refusal.{number}
use Rattle.codec.specs.Number.{Bytes, be_at}
use Rattle.codec.specs.Parsed.{Parsed, accepted, refused}
use Rattle.codec.specs.Total.{read_at}
use Rattle.codec.specs.declared.Item.{Item}
use Rattle.codec.specs.Ids.{item_of, item_read}
use Rattle.codec.proofs.Ids.{item_there}
use Rattle.codec.proofs.Numbers.{be_below}
use Rattle.layout.specs.Knowledge.{Limits, base}
use Rattle.layout.specs.Permitted.{within}
use Rattle.layout.proofs.Within.{base_within}
use Rattle.replication.specs.Part.{Part}
use Rattle.replication.specs.Part as P
use Rattle.replication.specs.Formats.{Store}
use Rattle.replication.specs.BatchFormat.{Batch}
use Rattle.replication.specs.Reading.{rec_length, behind, rec_at, whole}
use Rattle.replication.specs.OpenStore.{store_knowledge, store_table, open_store}
use Rattle.replication.specs.OpenBatch.{batch_needed, batch_table, open_batch}
use Rattle.replication.specs.Operate.{wins}
use Rattle.replication.specs.Queries.{places, place_of, of_store, of_batch, winner_at, winner_part}
use Rattle.replication.proofs.Tables.InBytes.{whole_at}
use Rattle.replication.proofs.Tables.Walked.{found_place_lem}
use Rattle.replication.proofs.Queries.Winner.{winner_found, winner_store, winner_batch, winner_17}
use Rattle.std.specs.Prelude as R
use Rattle.records.specs.Method.{found_place, read_rec}
use Rattle.records.proofs.Fields.{kind_read, wins_whole}
use Rattle.records.proofs.Finding.{found_at_lem, found_nothing}
use Rattle.store_open.specs.declared.OpenStore.{OpenStore}
use Rattle.store_open.specs.declared.OpenBatch.{OpenBatch}
use Rattle.store_open.specs.Method.{store_opened, batch_opened}
use Rattle.store_open.proofs.Opened.{StoreOpen, BatchOpen, store_open, store_closed, batch_open, batch_closed}
use Rattle.store_queries.specs.Method.{Inside}

-- ---- the record at a place

module _ (s : List ℕ) (at n : ℕ) (f : n ≡ rec_length (read_at s 1 at)) where
  size : n ≡ rec_length (be_at s 1 at)
  size = f ∙ ap rec_length (kind_read s at)

  pub store_record : P.OfStore at n ≡ of_store s at
  unfolding of_store
  store_record = ap (P.OfStore at) size

  pub batch_record : P.OfBatch at n ≡ of_batch s at
  unfolding of_batch
  batch_record = ap (P.OfBatch at) size

-- ---- by what was found on each side

module _ (s t : List ℕ) (i x y : ℕ) (m n : R.Option ℕ) (e : found_place m ≡ place_of s i (places s x))
    (f : found_place n ≡ place_of t i (places t y)) where
  -- the winner, among the records from x on in s and from y on in t
  abbrev Winner : Part
  Winner = winner_at s t (place_of s i (places s x)) (place_of t i (places t y))

  on_both : (o q : Option ℕ) → found_place m ≡ o → found_place n ≡ q → Winner ≡ winner_at s t o q
  on_both o q g h = ap₂ {C = Part} (winner_at s t) (sym e ∙ g) (sym f ∙ h)

  mine_none : m ≡ R.None → found_place m ≡ none
  mine_none g = ap found_place g ∙ found_nothing

  mine_at : (a : ℕ) → m ≡ R.Some a → found_place m ≡ some a
  mine_at a g = ap found_place g ∙ found_at_lem a

  theirs_none : n ≡ R.None → found_place n ≡ none
  theirs_none g = ap found_place g ∙ found_nothing

  theirs_at : (b : ℕ) → n ≡ R.Some b → found_place n ≡ some b
  theirs_at b g = ap found_place g ∙ found_at_lem b

  pub winner_nobody : m ≡ R.None → n ≡ R.None → P.Nothing ≡ Winner
  unfolding winner_at
  winner_nobody g h = sym (on_both none none (mine_none g) (theirs_none h))

  pub winner_theirs : m ≡ R.None → (b : ℕ) → n ≡ R.Some b → (p : Part) → p ≡ of_batch t b → p ≡ Winner
  unfolding winner_at
  winner_theirs g b h p q = q ∙ sym (on_both none (some b) (mine_none g) (theirs_at b h))

  module _ (a : ℕ) (g : m ≡ R.Some a) (p : Part) where
    pub winner_mine : n ≡ R.None → p ≡ of_store s a → p ≡ Winner
    unfolding winner_at
    winner_mine h q = q ∙ sym (on_both (some a) none (mine_at a g) (theirs_none h))

    module _ (b : ℕ) (h : n ≡ R.Some b) (w : Bool) (k : w ≡ wins (read_rec s a) (read_rec t b)) where
      won : w ≡ wins (rec_at s a) (rec_at t b)
      won =
          let u = found_place_lem s i x a (sym e ∙ mine_at a g) in
          let v = found_place_lem t i y b (sym f ∙ theirs_at b h) in
          k ∙ wins_whole s a t b (whole_at s a u.0) (whole_at t b v.0)

      pub winner_wins : w ≡ true → p ≡ of_batch t b → p ≡ Winner
      unfolding winner_at
      winner_wins j q =
          let z : wins (rec_at s a) (rec_at t b) ≡ true = sym won ∙ j in
          q ∙ sym (on_both (some a) (some b) (mine_at a g) (theirs_at b h) ∙ rw (z, winner_at))

      pub winner_stays : w ≡ false → p ≡ of_store s a → p ≡ Winner
      unfolding winner_at
      winner_stays j q =
          let z : wins (rec_at s a) (rec_at t b) ≡ false = sym won ∙ j in
          q ∙ sym (on_both (some a) (some b) (mine_at a g) (theirs_at b h) ∙ rw (z, winner_at))

-- ---- the call, by what the checks answered

module _ (a b n : ℕ) (s t item : List ℕ) (r : Result OpenStore Refusal) (e : r ≡ store_opened (within a b n) s) where
  pub winner_not_store : (d : Refusal) → r ≡ Err d → P.Refused (number d) ≡ winner_part (within a b n) s t item
  winner_not_store d f = sym (winner_store (within a b n) s t item (number d) (store_closed a b n s d (sym e ∙ f))).is

  module _ (y : Bytes s) (x : OpenStore) (f : r ≡ Ok x) (q : Result OpenBatch Refusal) (g : q ≡ batch_opened (within a b n) t) where
    opened : StoreOpen (within a b n) s x.own x.count
    opened = store_open a b n s y x (sym e ∙ f)

    pub winner_not_batch : (d : Refusal) → q ≡ Err d → P.Refused (number d) ≡ winner_part (within a b n) s t item
    winner_not_batch d h =
        sym (winner_batch (within a b n) s t item _ (number d) opened.value (batch_closed a b n t d (sym g ∙ h))).is

    module _ (z : Bytes t) (v : OpenBatch) (h : q ≡ Ok v) where
      opened_too : BatchOpen (within a b n) t v.needed v.learned v.count
      opened_too = batch_open a b n t z v (sym g ∙ h)

      pub winner_no_item : (length item ≡ 24 → ⊥) → P.Refused 17 ≡ winner_part (within a b n) s t item
      winner_no_item w = sym (winner_17 (within a b n) s t item _ _ opened.value opened_too.value w).is

      -- lengths are numbers of four bytes
      pub winner_lengths : (x.own.length < 256 ^ 4) × ((v.needed.length < 256 ^ 4) × (v.learned.length < 256 ^ 4))
      winner_lengths = (
        omega (arith, opened.length, be_below s 4 17 y),
        (omega (arith, opened_too.needed_size, be_below t 4 49 z), omega (arith, opened_too.learned_size, be_below t 4 53 z)),
      )

      pub winner_is : length item ≡ 24 → (h : Item) → h ≡ item_read item → (p : Part)
          → p ≡ winner_at s t (place_of s (item_of h) (places s (store_knowledge + x.own.length)))
          (place_of t (item_of h) (places t (batch_needed + v.needed.length + v.learned.length))) → p ≡ winner_part (within a b n) s t item
      winner_is w h d p is =
          let i = item_of h in
          let id : i ≡ be_at item 24 0 = ap (λ (x : Item). item_of x) d ∙ item_there item (omega arith) in
          let c : store_knowledge + x.own.length ≡ store_table s = omega (arith, opened.length) in
          let o : batch_needed + v.needed.length + v.learned.length ≡ batch_table t =
          omega (arith, opened_too.needed_size, opened_too.learned_size) in
          is
          ∙ ap₂ {C = Part} (λ (c o : ℕ). winner_at s t (place_of s i (places s c)) (place_of t i (places t o))) c o
          ∙ sym (winner_found (within a b n) s t item _ _ opened.value opened_too.value w i id)

-- document 01's limits
pub winner_base : (s t item : List ℕ) (p : Part) → p ≡ winner_part (within base.replicas base.ranges base.records) s t item
    → p ≡ winner_part base s t item
winner_base s t item p e = e ∙ ap (λ (L : Limits). winner_part L s t item) base_within

-- ---- the part is inside

module _ (s t : List ℕ) where
  inside_none : Inside P.Nothing s t
  inside_none = record {
    of_store = λ at n f. absurd (let z : ◌≡◌ {A = ℕ} 0 1 = cc in omega arith);
    of_batch = λ at n f. absurd (let z : ◌≡◌ {A = ℕ} 0 1 = cc in omega arith);
  }

  pub inside_refused : (k : ℕ) → Inside (P.Refused k) s t
  inside_refused k = record {
    of_store = λ at n f. absurd (let z : ◌≡◌ {A = ℕ} 0 1 = cc in omega arith);
    of_batch = λ at n f. absurd (let z : ◌≡◌ {A = ℕ} 0 1 = cc in omega arith);
  }

  pub inside_store : (x m : ℕ) → x + m ≤ length s → Inside (P.OfStore x m) s t
  inside_store x m l = record {
    of_store = λ at n f. let g : x ≡ at = cc in let h : m ≡ n = cc in omega (arith, l, g, h);
    of_batch = λ at n f. absurd (let z : ◌≡◌ {A = ℕ} 0 1 = cc in omega arith);
  }

  pub inside_batch : (x m : ℕ) → x + m ≤ length t → Inside (P.OfBatch x m) s t
  inside_batch x m l = record {
    of_store = λ at n f. absurd (let z : ◌≡◌ {A = ℕ} 0 1 = cc in omega arith);
    of_batch = λ at n f. let g : x ≡ at = cc in let h : m ≡ n = cc in omega (arith, l, g, h);
  }

  -- the record at a place
  record_inside : (u : List ℕ) (at : ℕ) → whole u at ≡ true → at + rec_length (be_at u 1 at) ≤ length u
  unfolding behind
  record_inside u at w = (whole_at u at w).inside

  store_inside : (at : ℕ) → whole s at ≡ true → Inside (of_store s at) s t
  unfolding of_store
  store_inside at w = inside_store at (rec_length (be_at s 1 at)) (record_inside s at w)

  batch_inside : (at : ℕ) → whole t at ≡ true → Inside (of_batch t at) s t
  unfolding of_batch
  batch_inside at w = inside_batch at (rec_length (be_at t 1 at)) (record_inside t at w)

  found_inside : (o q : Option ℕ) → ((a : ℕ) → o ≡ some a → whole s a ≡ true) → ((b : ℕ) → q ≡ some b → whole t b ≡ true)
      → Inside (winner_at s t o q) s t
  unfolding winner_at
  found_inside none none f g = inside_none
  found_inside none (some b) f g = batch_inside b (g b refl)
  found_inside (some a) none f g = store_inside a (f a refl)
  found_inside (some a) (some b) f g = go (wins (rec_at s a) (rec_at t b))
    where
      go : (w : Bool) → Inside (elim w [ true ↦ of_batch t b | false ↦ of_store s a ]) s t
      go true = batch_inside b (g b refl)
      go false = store_inside a (f a refl)

  at_inside : (i x y : ℕ) → Inside (winner_at s t (place_of s i (places s x)) (place_of t i (places t y))) s t
  at_inside i x y =
      found_inside (place_of s i (places s x)) (place_of t i (places t y)) (λ a e. (found_place_lem s i x a e).0)
      (λ b e. (found_place_lem t i y b e).0)

  module _ (L : Limits) (item : List ℕ) where
    inside_as : (p : Part) → winner_part L s t item ≡ p → Inside p s t → Inside (winner_part L s t item) s t
    inside_as p e h = subst (λ (q : Part). Inside q s t) (sym e) h

    pub winner_inside : (p : Part) → p ≡ winner_part L s t item → Inside p s t
    winner_inside p is =
        subst (λ (q : Part). Inside q s t) (sym is) (go (open_store L s) refl (open_batch L t) refl (eqb (length item) 24) refl)
      where
        go : (o : Parsed Store) → open_store L s ≡ o → (q : Parsed Batch) → open_batch L t ≡ q → (w : Bool) → eqb (length item) 24 ≡ w
            → Inside (winner_part L s t item) s t
        go (refused n) e q f w g = inside_as _ (winner_store L s t item n e).is (inside_refused n)
        go (accepted st) e (refused n) f w g = inside_as _ (winner_batch L s t item st n e f).is (inside_refused n)
        go (accepted st) e (accepted b) f true g =
            inside_as _ (winner_found L s t item st b e f (eqb-true (length item) 24 g) (be_at item 24 0) refl)
            (at_inside (be_at item 24 0) (store_table s) (batch_table t))
        go (accepted st) e (accepted b) f false g =
            inside_as _ (winner_17 L s t item st b e f (eqb-false (length item) 24 g)).is (inside_refused 17)
