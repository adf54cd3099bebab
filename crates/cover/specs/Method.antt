-- The method of cover, by places, for any bytes: nothing here is to be believed. The laws show that for bytes that the check accepts it
-- tells whether one knowledge covers another. The cursor and the keys are lookup's, bounds are those of the crate lacking.
use Rattle.std.specs.Prelude.{ℕ, zero, suc, ◌+◌, ◌-◌, ◌*◌, Bool, true, false, List, [], ◌∷◌, ltb, leb, length, get_or}
use Rattle.std.specs.Prelude as Std
use Rattle.std.specs.Prelude.{Some, None}
use Rattle.std.specs.Ordering.{nat_cmp, is_le, is_ge}
use Rattle.std.specs.declared.cmp.Ordering.{Ordering}
use Rattle.std.specs.declared.cmp.Ordering.TheVariants.{Less, Greater}
use Rattle.codec.specs.Prelude.{Option, none, some}
use Rattle.codec.specs.Number.{be_at}
use Rattle.layout.specs.Knowledge.{Element}
use Rattle.layout.specs.MethodPlaces.{ids_place}
use Rattle.lookup.specs.declared.Cursor.{Cursor}
use Rattle.lookup.specs.Method.{key_at, past, settled, advanced, elements_here, tick_of}
use Rattle.lacking.specs.Method.{bound_of, laid_out}

-- What lacks at an item

-- the tick in s, in the vector at a place, for a key of another knowledge, with the keys of its replicas in s
unfoldable pub level_in : List ℕ → List ℕ → ℕ → ℕ → ℕ
level_in keys s vector key = elim (ltb key (length keys)) [ true ↦ tick_of s vector (record { 0 = get_or keys key 0 }) | false ↦ 0 ]

-- the same by the ids of both
unfoldable pub level_by : List ℕ → ℕ → List ℕ → ℕ → ℕ → ℕ → ℕ
level_by s r t m vector key =
    elim (ltb key m) [ true ↦ tick_of s vector (key_at s r (be_at t 16 (ids_place + 16 * key))) | false ↦ 0 ]

-- no element's tick is above the level of its key
unfoldable pub none_above : (ℕ → ℕ) → List Element → Bool
none_above level [] = true
none_above level (x ∷ xs) = elim (leb x.tick (level x.key.0)) [ true ↦ none_above level xs | false ↦ false ]

-- of t's vector at a place, by s's vector at another
unfoldable pub fine_at : List ℕ → ℕ → List ℕ → ℕ → ℕ → ℕ → Bool
fine_at s r t m vector other = none_above (level_by s r t m vector) (elements_here t other)

-- The next stop

-- whose bound is the next stop: less for the first's, greater for the second's, equal for that of both; none where neither has one
unfoldable pub turn_of : Option ℕ → Option ℕ → Std.Option Ordering
turn_of none none = None
turn_of none (some b) = Some Greater
turn_of (some a) none = Some Less
turn_of (some a) (some b) = Some (nat_cmp a b)

-- past the next range, where the cursor is to go
unfoldable pub step_if : List ℕ → ℕ → Bool → Cursor → Cursor
step_if s r true c = settled s r c (past s c (c.left - 1))
step_if s r false c = c

-- The walk

-- from an item on, to which both cursors have come, in at most n steps more: from stop to stop up to the last item
unfoldable pub clear_by : List ℕ → ℕ → List ℕ → ℕ → ℕ → ℕ → Cursor → Cursor → Bool
clear_by s r t m last zero x y = fine_at s r t m x.vector y.vector
clear_by s r t m last (suc n) x y =
    elim (fine_at s r t m x.vector y.vector) [
      | true ↦
          elim (turn_of (bound_of s x last) (bound_of t y last)) [
            | None ↦ true
            | Some o ↦ clear_by s r t m last n (step_if s r (is_le o) x) (step_if t m (is_ge o) y)
          ]
      | false ↦ false
    ]

-- from the first item of a span on, to which both cursors are moved; each step passes a range
unfoldable pub clear_from : List ℕ → ℕ → Cursor → List ℕ → ℕ → Cursor → ℕ → ℕ → Bool
clear_from s r from t m begin first last =
    let x = advanced s r from first in
    let y = advanced t m begin first in
    clear_by s r t m last (x.left + y.left) x y

-- whether the knowledge of s knows everything in a span that that of t knows; yes where one of them is not laid out
unfoldable pub covers_by : List ℕ → ℕ → Cursor → List ℕ → ℕ → Cursor → ℕ → ℕ → Bool
covers_by s r from t m begin first last =
    elim (laid_out s r from) [
      | true ↦ elim (laid_out t m begin) [ true ↦ clear_from s r from t m begin first last | false ↦ true ]
      | false ↦ true
    ]
