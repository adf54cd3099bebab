-- The join in steps, as the code makes them. Each finds the next address of the result, since it makes the comparisons of the definition,
-- and passes a whole record of one table or of both, so that fewer bytes are left. What was counted and stored so far, with what is left
-- to join, is the whole.
use Prim.Native.Nat.{ℕ, ◌+◌, ◌-◌, ◌≤◌, ◌<◌}
use mathlib.Core.Path.{◌≡◌, refl, sym, ap, ap₂, ◌∙◌}
use mathlib.Core.Bool.{Bool, true, false}
use mathlib.Core.List.{List, [], ◌∷◌}
use native.Mathlib.Omega.{arith}
use native.Mathlib.Numerals.{add-one}
use lib.Dec.{ltb}
use lib.ListN.{length, set}
use lib.Seq.{sets}
use borrow.Author.Tests.{ltb-true, ltb-false}
use Rattle.codec.specs.Total.{read_at}
use Rattle.replication.specs.Reading.{behind, item_place, rec_at, whole}
use Rattle.replication.specs.Operate.{wins}
use Rattle.replication.specs.Queries.{length_at}
use Rattle.records.specs.Method.{read_rec}
use Rattle.records.proofs.Fields.{length-ends, length_stands, length-behind, item_word, wins_whole}
use Rattle.records.proofs.Finding.{length-at, length-inside}
use Rattle.records_join.specs.declared.Step.{Step}
use Rattle.records_join.specs.MethodJoin.{size_from, winner_from, join_at, Steps, fronted}
use Rattle.records_join.proofs.Addresses.{at_first, at_second, size_none, size_more, fronted-sets}
use Rattle.records_join.proofs.JoinedTables.{winner_theirs, winner_mine, step_end, step_first, step_second, step_left, step_right, step_same}

-- a number that is not 0
none_of : (m : ℕ) → 0 < m → m ≡ 0 → ⊥
none_of m h z = omega arith

module _ (s : List ℕ) (a m : ℕ) (t : List ℕ) (b n : ℕ) (e : m ≡ length_at s a) (f : n ≡ length_at t b) where
  -- a step that passes a record of the first table, of the second, and of both
  passes_first : (m ≡ 0 → ⊥) → join_at s a t b ≡ a ∷ join_at s (behind s a) t b
      → Steps s a t b (record { chosen = a; size = m; first = a + m; second = b })
  passes_first z h =
      let l : a + m ≤ length s = length-inside s a m e z in
      let k : a < length s = (length-at s a m e z).first in
      record {
        next = h ∙ ap (λ (c : ℕ). a ∷ join_at s c t b) (sym (length-behind s a m e z));
        sized = e ∙ sym (at_first length_at s t a k);
        some = omega (arith, z);
        left = omega arith;
      }

  passes_second : (n ≡ 0 → ⊥) → join_at s a t b ≡ (length s + b) ∷ join_at s a t (behind t b)
      → Steps s a t b (record { chosen = length s + b; size = n; first = a; second = b + n })
  passes_second z h =
      let l : b + n ≤ length t = length-inside t b n f z in
      record {
        next = h ∙ ap (λ (c : ℕ). (length s + b) ∷ join_at s a t c) (sym (length-behind t b n f z));
        sized = f ∙ sym (at_second length_at s t b);
        some = omega (arith, z);
        left = omega arith;
      }

  pub steps_none : m ≡ 0 → n ≡ 0 → join_at s a t b ≡ []
  steps_none y z = step_end s a t b (length-ends s a m e y) (length-ends t b n f z)

  pub steps_first : (m ≡ 0 → ⊥) → n ≡ 0 → Steps s a t b (record { chosen = a; size = m; first = a + m; second = b })
  steps_first y z = passes_first y (step_first s a t b (length_stands s a m e y) (length-ends t b n f z))

  pub steps_second : m ≡ 0 → (n ≡ 0 → ⊥) → Steps s a t b (record { chosen = length s + b; size = n; first = a; second = b + n })
  steps_second y z = passes_second z (step_second s a t b (length-ends s a m e y) (length_stands t b n f z))

  -- both tables have a record
  module _ (y : 0 < m) (z : 0 < n) (i j : ℕ) (g : i ≡ read_at s 24 (a + item_place)) (h : j ≡ read_at t 24 (b + item_place)) where
    u : whole s a ≡ true
    u = length_stands s a m e (none_of m y)

    v : whole t b ≡ true
    v = length_stands t b n f (none_of n z)

    mine : i ≡ (rec_at s a).item
    mine = g ∙ item_word s a (length-at s a m e (none_of m y))

    theirs : j ≡ (rec_at t b).item
    theirs = h ∙ item_word t b (length-at t b n f (none_of n z))

    pub steps_left : (w : Bool) → w ≡ ltb i j → w ≡ true → Steps s a t b (record { chosen = a; size = m; first = a + m; second = b })
    steps_left w p q =
        let l = ltb-true i j (sym p ∙ q) in
        passes_first (none_of m y) (step_left s a t b u v (omega (arith, l, mine, theirs)))

    module _ (w : Bool) (p : w ≡ ltb i j) (q : w ≡ false) (k : Bool) (o : k ≡ ltb j i) where
      pub steps_right : k ≡ true → Steps s a t b (record { chosen = length s + b; size = n; first = a; second = b + n })
      steps_right r =
          let l = ltb-true j i (sym o ∙ r) in
          passes_second (none_of n z) (step_right s a t b u v (omega (arith, l, mine, theirs)))

      module _ (r : k ≡ false) (x : Bool) (won : x ≡ wins (read_rec s a) (read_rec t b)) where
        both : join_at s a t b ≡ winner_from s a t b ∷ join_at s (a + m) t (b + n)
        both =
            step_same s a t b u v (omega (arith, ltb-false i j (sym p ∙ q), ltb-false j i (sym o ∙ r), mine, theirs))
            ∙ ap₂ {C = List ℕ} (λ (c d : ℕ). winner_from s a t b ∷ join_at s c t d) (sym (length-behind s a m e (none_of m y)))
            (sym (length-behind t b n f (none_of n z)))

        won_whole : x ≡ wins (rec_at s a) (rec_at t b)
        won_whole = won ∙ wins_whole s a t b (length-at s a m e (none_of m y)) (length-at t b n f (none_of n z))

        first_left : a + m ≤ length s
        first_left = length-inside s a m e (none_of m y)

        second_left : b + n ≤ length t
        second_left = length-inside t b n f (none_of n z)

        pub steps_theirs : x ≡ true → Steps s a t b (record { chosen = length s + b; size = n; first = a + m; second = b + n })
        steps_theirs c =
            let k : a + m ≤ length s = first_left in
            let l : b + n ≤ length t = second_left in
            record {
              next = both ∙ ap (λ (w : ℕ). w ∷ join_at s (a + m) t (b + n)) (winner_theirs s t a b (sym won_whole ∙ c));
              sized = f ∙ sym (at_second length_at s t b);
              some = z;
              left = omega arith;
            }

        pub steps_mine : x ≡ false → Steps s a t b (record { chosen = a; size = m; first = a + m; second = b + n })
        steps_mine c =
            let k : a + m ≤ length s = first_left in
            let l : b + n ≤ length t = second_left in
            let i : a < length s = (length-at s a m e (none_of m y)).first in
            record {
              next = both ∙ ap (λ (w : ℕ). w ∷ join_at s (a + m) t (b + n)) (winner_mine s t a b (sym won_whole ∙ c));
              sized = e ∙ sym (at_first length_at s t a i);
              some = y;
              left = omega arith;
            }

-- ---- the loop

-- what is counted and stored, and the places from which the rest is joined
pub record Joining (s : List ℕ) (a : ℕ) (t : List ℕ) (b : ℕ) (d : List ℕ) (x y count size : ℕ) (p : List ℕ) : Type 0 where
  pub counted : length (join_at s a t b) ≡ count + length (join_at s x t y)
  pub sized : size_from s t (join_at s a t b) ≡ size + size_from s t (join_at s x t y)
  pub stored : sets d 0 (join_at s a t b) ≡ sets p count (join_at s x t y)
  pub few : count ≤ size
  pub left : size + ((length s - x) + (length t - y)) ≤ (length s - a) + (length t - b)

module _ (s : List ℕ) (a : ℕ) (t : List ℕ) (b : ℕ) (d : List ℕ) where
  pub joining_all : Joining s a t b d a b 0 0 d
  joining_all = record { counted = omega arith; sized = omega arith; stored = refl; few = omega arith; left = omega arith }

  module _ (x y count size : ℕ) (p : List ℕ) (i : Joining s a t b d x y count size p) where
    module _ (z : join_at s x t y ≡ []) where
      pub count_end : count ≡ length (join_at s a t b)
      count_end = omega (arith, i.counted, ap length z)

      pub size_end : size ≡ size_from s t (join_at s a t b)
      size_end = omega (arith, i.sized, ap (size_from s t) z ∙ size_none s t)

      pub chosen_end : p ≡ fronted d (join_at s a t b)
      chosen_end = sym (sym (fronted-sets d (join_at s a t b)) ∙ (i.stored ∙ ap (sets p count) z))

    module _ (r : Step) (h : Steps s x t y r) where
      pub joining_more : (q : List ℕ) → q ≡ set p count r.chosen → Joining s a t b d r.first r.second (count + 1) (size + r.size) q
      joining_more q e = record {
        counted = omega (arith, i.counted, ap length h.next);
        sized = omega (arith, i.sized, ap (size_from s t) h.next ∙ size_more s t r.chosen (join_at s r.first t r.second), h.sized);
        stored =
            i.stored
            ∙ (ap (sets p count) h.next
            ∙ ap₂ {C = List ℕ} (λ (l : List ℕ) (c : ℕ). sets l c (join_at s r.first t r.second)) (sym e) (sym (add-one count)));
        few = omega (arith, i.few, h.some);
        left = omega (arith, i.left, h.left);
      }

      -- what the code needs for its sums, and that fewer bytes are left
      pub joining_room : (size + r.size ≤ length s + length t) × (count ≤ size)
      joining_room = (omega (arith, i.left, h.left), i.few)

      pub joining_less : (length s - r.first) + (length t - r.second) < (length s - x) + (length t - y)
      joining_less = omega (arith, h.left, h.some)
