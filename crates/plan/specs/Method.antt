-- What the functions of planning leave behind, step by step, and the tables that get a plan: as code works. There is nothing
-- to believe here: the laws of `tables` say that the plan of a table that samples known ticks is their normal form.
use Rattle.std.specs.Prelude.{ℕ, ◌+◌, ◌≤◌, ◌<◌, ◌≡◌, Bool, List, ◌∷◌, ◌&&◌, leb, ltb, length, get_or, drop, set}
use Rattle.ticks.specs.Meaning.{place_by}
use Rattle.tables.specs.declared.Sizes.{Sizes}
use Rattle.tables.specs.MethodWords.{stride, most_rows, numbers_at}
use Rattle.tables.specs.MethodPlan.{same, mix_below, grown_by, firsts_of, numbers_of, insert_column}

-- u is d with the v numbers vs at its front
pub record Front (vs d u : List ℕ) (v : ℕ) : Type 0 where
  pub is : numbers_at u 0 v ≡ vs
  pub rest : drop v u ≡ drop v d
  pub size : length u ≡ length d
  pub room : v ≤ length d

-- the words of v distinct rows
pub record Mixed (T : ℕ → ℕ → ℕ) (r : ℕ) (firsts : List ℕ) (v : ℕ) (mixed : List ℕ) : Type 0 where
  pub is : (y : ℕ) → y < v → get_or mixed y 0 ≡ mix_below T (get_or firsts y 0) r
  pub rows : v ≤ length firsts
  pub words : v ≤ length mixed

-- row i + 1 after v distinct rows: its number stands at place i, and where it is new there is a distinct row more
pub record RowMore (T : ℕ → ℕ → ℕ) (r i v : ℕ) (f x m f' x' m' : List ℕ) (w : ℕ) : Type 0 where
  pub firsts : Front (grown_by (same T r) (numbers_at f 0 v) (i + 1)) f f' w
  pub numbers : x' ≡ set x i (place_by (same T r) (i + 1) (numbers_at f 0 v))
  pub mixed : Mixed T r f' w m'
  pub size : length m' ≡ length m
  pub least : v ≤ w
  pub most : w ≤ v + 1

-- the rows 1 to n: the v distinct ones, and the number of each
pub record Numbered (T : ℕ → ℕ → ℕ) (r n : ℕ) (f x f' x' : List ℕ) (v : ℕ) : Type 0 where
  pub firsts : Front (firsts_of T r n) f f' v
  pub numbers : Front (numbers_of T r n) x x' n
  pub most : v ≤ n + 1

-- column c is put at place i where its id is the lower, and the one there is carried on; the columns ds after it wait
pub record Exchanged (P : ℕ → ℕ) (c i : ℕ) (cols cols' : List ℕ) (d : ℕ) : Type 0 where
  pub kept : ℕ
  pub is : cols' ≡ set cols i kept
  pub later : (ds : List ℕ) → insert_column P c (get_or cols i 0 ∷ ds) ≡ kept ∷ insert_column P d ds

-- a plan is made for a table of at most the largest sizes, where the lists have room: r columns, n rows, and the lengths of the
-- lists of columns, distinct rows and numbers
unfoldable pub fits : ℕ → ℕ → ℕ → ℕ → ℕ → Bool
fits r n c f x = leb r stride && (ltb n most_rows && (leb r c && (ltb n f && leb n x)))

unfoldable pub no_sizes : Sizes
no_sizes = record { replicas = 0; vectors = 0; elements = 0; ranges = 0 }
