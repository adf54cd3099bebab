-- The cells of a table of words, raised from the elements of clock vectors, in lists of any length: past the end nothing is set. There is
-- nothing to believe here: the laws say that each cell comes to the larger of what it was and the known tick.
use Rattle.std.specs.Prelude.{ℕ, zero, suc, max, ◌+◌, ◌-◌, ◌*◌, List, [], ◌∷◌, get_or, set}
use Rattle.layout.specs.Knowledge.{Element}
use Rattle.tables.specs.MethodWords.{stride, bound_at}
use Rattle.lookup.specs.declared.Cursor.{Cursor}
use Rattle.lookup.specs.Method.{advanced, elements_here}

-- a list of words with the one at a place raised to x
unfoldable pub raised_to : List ℕ → ℕ → ℕ → List ℕ
raised_to t i x = set t i (max (get_or t i 0) x)

-- row k, the cell of a key's column raised to a tick
unfoldable pub raised_in : List ℕ → List ℕ → ℕ → ℕ → ℕ → List ℕ
raised_in keys t k key tick = raised_to t (stride * k + get_or keys key 0) tick

-- by each of some elements
unfoldable pub raised_by : List ℕ → List Element → List ℕ → ℕ → List ℕ
raised_by keys [] t k = t
raised_by keys (x ∷ xs) t k = raised_by keys xs (raised_in keys t k x.key.0 x.tick) k

-- n rows from k on, each raised by the elements at its bound, to which the cursor moves
unfoldable pub filled_from : List ℕ → ℕ → List ℕ → List ℕ → ℕ → Cursor → ℕ → List ℕ → List ℕ
filled_from s r keys bounds zero c k t = t
filled_from s r keys bounds (suc n) c k t =
    let d = advanced s r c (bound_at bounds k) in
    filled_from s r keys bounds n d (k + 1) (raised_by keys (elements_here s d.vector) t k)

-- the rows `from` to `top`
unfoldable pub filled : List ℕ → ℕ → Cursor → List ℕ → List ℕ → ℕ → ℕ → List ℕ → List ℕ
filled s r c keys bounds from top t = filled_from s r keys bounds (suc top - from) c from t

-- column c of n rows from k on is x
unfoldable pub column_set_from : ℕ → ℕ → ℕ → ℕ → List ℕ → List ℕ
column_set_from c x zero k t = t
column_set_from c x (suc n) k t = column_set_from c x n (k + 1) (set t (stride * k + c) x)

-- of the rows `from` to `top`
unfoldable pub column_set : ℕ → ℕ → ℕ → ℕ → List ℕ → List ℕ
column_set c x from top t = column_set_from c x (suc top - from) from t
