-- What filling a table of words comes to, step by step: P gives the id of a column, B the bound of a row, T and U the ticks
-- before and after a step. There is nothing to believe here: the laws say that a table so filled samples known ticks.
use Rattle.std.specs.Prelude.{ℕ, suc, max, ◌+◌, ◌≤◌, ◌<◌, ◌≡◌, ◌⊎◌, List, length, get_or}
use Rattle.layout.specs.Knowledge.{Knowledge}
use Rattle.ticks.specs.Meaning.{highest, known}
use Rattle.tables.specs.MethodWords.{stride}

-- Columns

-- no two of n columns have the same id
pub record Unlike (P : ℕ → ℕ) (n : ℕ) : Type 0 where
  pub is : (c d : ℕ) → c < n → d < n → P c ≡ P d → c ≡ d

-- for each key of a replica map, the column of its replica, among n columns
pub record Columns (P : ℕ → ℕ) (n : ℕ) (ids keys : List ℕ) : Type 0 where
  pub size : length ids ≤ length keys
  pub below : (j : ℕ) → j < length ids → get_or keys j 0 < n
  pub is : (j : ℕ) → j < length ids → P (get_or keys j 0) ≡ get_or ids j 0

-- the columns of a replica map, put to n columns that were there before with the ids P: now m columns with the ids Q
pub record Added (P Q : ℕ → ℕ) (n m : ℕ) (ids keys : List ℕ) : Type 0 where
  pub more : n ≤ m
  pub most : m ≤ n + length ids
  pub kept : (c : ℕ) → c < n → Q c ≡ P c
  pub unlike : Unlike P n → Unlike Q m
  pub columns : Columns Q m ids keys

-- Rows

-- the rows `from` to `top`, at the first item and at every later bound of two lists up to the last item
pub record Stops (B : ℕ → ℕ) (from top first last : ℕ) (xs ys : List ℕ) : Type 0 where
  pub some : from ≤ top
  pub most : top ≤ from + length xs + length ys
  pub starts : B from ≡ first
  pub rising : (k : ℕ) → from ≤ k → k < top → B k < B (suc k)
  pub inside : (k : ℕ) → from ≤ k → k ≤ top → B k ≤ last
  pub firsts : (k n : ℕ) → from ≤ k → k ≤ top → n < length xs → B k < get_or xs n 0 → get_or xs n 0 ≤ last
      → (k < top → get_or xs n 0 < B (suc k)) → ⊥
  pub seconds : (k n : ℕ) → from ≤ k → k ≤ top → n < length ys → B k < get_or ys n 0 → get_or ys n 0 ≤ last
      → (k < top → get_or ys n 0 < B (suc k)) → ⊥

-- where the rows begin: at the first item of all, or one row after it
pub data Begins (from first : ℕ) : Type 0 where
  at_once : from ≡ 1 → first ≡ 0 → Begins from first
  after_one : from ≡ 2 → 1 ≤ first → Begins from first

-- where they end: at the last item of all, or with one row more, behind the last item of the span
pub data Ends (B : ℕ → ℕ) (top last n : ℕ) : Type 0 where
  at_top : n ≡ top → last ≡ highest → Ends B top last n
  with_one : n ≡ suc top → B (suc top) ≡ suc last → last < highest → Ends B top last n

-- Cells

-- the rows `from` to `top` of n columns, each cell raised to the tick that a knowledge knows there; the other rows as they were
pub record Raised (P B : ℕ → ℕ) (from top n : ℕ) (k : Knowledge) (T U : ℕ → ℕ → ℕ) : Type 0 where
  pub is : (j c : ℕ) → from ≤ j → j ≤ top → c < n → U j c ≡ max (T j c) (known k (B j) (P c))
  pub others : (j c : ℕ) → (j < from) ⊎ (top < j) → c < stride → U j c ≡ T j c

-- column c of the rows `from` to `top` is x; the other cells are as they were
pub record Set (from top c x : ℕ) (T U : ℕ → ℕ → ℕ) : Type 0 where
  pub is : (j : ℕ) → from ≤ j → j ≤ top → U j c ≡ x
  pub others : (j d : ℕ) → (d ≡ c → ⊥) ⊎ ((j < from) ⊎ (top < j)) → d < stride → U j d ≡ T j d
