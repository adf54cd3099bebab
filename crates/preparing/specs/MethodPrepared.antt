-- What an operation has made ready before its buffer is looked at. There is nothing to believe here:
-- the calls' contracts cite the replies of `ticks`.
use Rattle.std.specs.Prelude.{Result, Ok, Err, ℕ, ◌+◌, ◌≤◌, ◌<◌, ◌≡◌, true, false, List, ◌++◌, ltb, length, drop, replicate}
use Rattle.codec.specs.Part.{placed}
use Rattle.codec.specs.MethodEnded.{End, end_of}
use Rattle.codec.specs.Reply.{Reply, gives, refuses}
use Rattle.codec.specs.Answer as A
use Rattle.codec.specs.declared.Refusal.{Refusal}
use Rattle.codec.specs.declared.Refusal.TheVariants.{TooManyReplicas, TooManyRanges}
use Rattle.codec.specs.Refusal.{number}
use Rattle.layout.specs.Knowledge.{Limits, Knowledge}
use Rattle.tables.specs.declared.Sizes.{Sizes}
use Rattle.tables.specs.MethodWords.{stride, most_rows, cell, id_at, bound_at}
use Rattle.tables.specs.MethodPlan.{firsts_of, numbers_of, columns_of, sizes_of, page, length_of}
use Rattle.tables.specs.MethodPieces.{laid, page_pieces}
use Rattle.plan.specs.Method.{fits, no_sizes}
use Rattle.sampling.specs.declared.Filled.{Filled}

-- up to so many rows a call takes less room
abbrev pub few : ℕ
few = 12

-- 11 over the most replicas, 12 over the most ranges, or the sizes
unfoldable pub judged : Limits → Sizes → Result Sizes Refusal
judged L z =
    elim (ltb L.replicas z.replicas) [
      | true ↦ Err TooManyReplicas
      | false ↦ elim (ltb L.ranges z.ranges) [ true ↦ Err TooManyRanges | false ↦ Ok z ]
    ]

-- What planning leaves in the lists that are lent for it

pub record Plan : Type 0 where
  pub cols : List ℕ
  pub firsts : List ℕ
  pub numbers : List ℕ
  pub prepared : Result Sizes Refusal

abbrev pub plan_of : List ℕ → List ℕ → List ℕ → Result Sizes Refusal → Plan
plan_of cols firsts numbers p = record { cols = cols; firsts = firsts; numbers = numbers; prepared = p }

-- a list with the numbers vs at its front
abbrev pub over : List ℕ → List ℕ → List ℕ
over vs d = vs ++ drop (length vs) d

-- the columns in use, the distinct rows and the number of each row, and the plan judged by the limits; where there is no plan, the lists
-- stay, and the sizes are 0
unfoldable pub planned : Limits → Filled → List ℕ → List ℕ → List ℕ → List ℕ → List ℕ → Plan
planned L q ids t c f x =
    let fs = firsts_of (cell t) q.columns q.rows in
    let cs = columns_of (id_at ids) (cell t) q.columns fs in
    let xs = numbers_of (cell t) q.columns q.rows in
    elim (fits q.columns q.rows (length c) (length f) (length x)) [
      | true ↦ plan_of (over cs c) (over fs f) (over xs x) (judged L (sizes_of (cell t) cs fs xs))
      | false ↦ plan_of c f x (judged L no_sizes)
    ]

-- How a call ends that writes a knowledge

-- with n rows of a table that was planned so: 14 and the buffer as it was where it is too short, or the table written from its front
unfoldable pub written_end : List ℕ → List ℕ → List ℕ → List ℕ → List ℕ → List ℕ → List ℕ → Sizes → ℕ → End
written_end out ids bounds t cols firsts numbers z n =
    elim (ltb (length out) (length_of z)) [
      | true ↦ end_of out (A.Refused 14)
      | false ↦ end_of (laid out 0 (page_pieces z ids bounds t n cols firsts numbers)) (A.Written (length_of z))
    ]

-- with what was prepared for n rows: the number of its error and the buffer as it was, or that
unfoldable pub finished : {E : Type 0} → (E → ℕ) → List ℕ → List ℕ → List ℕ → List ℕ → List ℕ → List ℕ → List ℕ → ℕ → Result Sizes E → End
finished number_of out ids bounds t cols firsts numbers n (Ok z) = written_end out ids bounds t cols firsts numbers z n
finished number_of out ids bounds t cols firsts numbers n (Err e) = end_of out (A.Refused (number_of e))

-- with what planning has left for n rows
unfoldable pub planned_end : Plan → ℕ → List ℕ → List ℕ → List ℕ → List ℕ → End
planned_end w n out ids bounds t = finished number out ids bounds t w.cols w.firsts w.numbers n w.prepared

-- with a plan in lists of zeros, for n rows
abbrev pub blank_end : ℕ → Limits → Filled → List ℕ → List ℕ → List ℕ → List ℕ → End
blank_end n L q out ids bounds t = planned_end (planned L q ids t (replicate stride 0) (replicate n 0) (replicate n 0)) q.rows out ids bounds t

-- with a filled table: its plan has less room where the rows are few
unfoldable pub concluded : Limits → Filled → List ℕ → List ℕ → List ℕ → List ℕ → End
concluded L q out ids bounds t =
    elim (ltb q.rows few) [ true ↦ blank_end few L q out ids bounds t | false ↦ blank_end most_rows L q out ids bounds t ]

-- What was made ready

-- the reply gives bytes, and what is written for the table are these
pub record Holds (reply : Reply) (ids bounds t cols firsts numbers : List ℕ) (z : Sizes) (n : ℕ) : Type 0 where
  pub bs : List ℕ
  pub is : reply ≡ gives bs
  pub size : length bs ≡ length_of z
  pub writes : (d : List ℕ) (at : ℕ) → at + length_of z ≤ length d
      → laid d at (page_pieces z ids bounds t n cols firsts numbers) ≡ placed d at bs

-- what was made ready is what the reply says, by its cases
abbrev pub Says : Reply → List ℕ → List ℕ → List ℕ → List ℕ → List ℕ → List ℕ → ℕ → Result Sizes Refusal → Type 0
Says reply ids bounds t cols firsts numbers n (Ok z) = Holds reply ids bounds t cols firsts numbers z n
Says reply ids bounds t cols firsts numbers n (Err e) = reply ≡ refuses (number e)

pub record Prepares (reply : Reply) (ids bounds t cols firsts numbers : List ℕ) (n : ℕ) (p : Result Sizes Refusal) : Type 0 where
  pub is : Says reply ids bounds t cols firsts numbers n p

-- a table is filled up to m columns and up to row n, which the most rows have room for, and its plan is the knowledge k
pub record Sheet (ids bounds t : List ℕ) (m n : ℕ) (q : Filled) (k : Knowledge) : Type 0 where
  pub columns : q.columns ≤ m
  pub rows : q.rows ≤ n
  pub in_stride : m ≤ stride
  pub in_rows : n < most_rows
  pub is : page (id_at ids) (bound_at bounds) (cell t) q.columns q.rows ≡ k
