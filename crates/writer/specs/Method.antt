-- The method of the writer: what is left to write. There is nothing to believe here: the contracts that others use speak of
-- the bytes in the buffer.
use Rattle.std.specs.Prelude.{ℕ, ◌≡◌, true, false, List, [], ◌++◌, eqb}
use Rattle.tables.specs.MethodPieces.{laid}
use Rattle.tables.specs.MethodWords.{numbers_at}
use Rattle.writer.specs.declared.Numbers.{Numbers}

-- the first numbers of a list, 0 past its end
abbrev pub listed : Numbers → List ℕ
listed l = numbers_at l.list.now 0 l.count

-- writing ps into d from a place on, and then anything, comes to writing qs into u from p on, and then that
pub record Left (d : List ℕ) (at : ℕ) (ps : List (List ℕ)) (u : List ℕ) (p : ℕ) (qs : List (List ℕ)) : Type 0 where
  pub is : (ts : List (List ℕ)) → laid d at (ps ++ ts) ≡ laid u p (qs ++ ts)

-- the pieces are written, and p is the place after them; past the end of the buffer any place is
abbrev pub Wrote : List ℕ → ℕ → List (List ℕ) → List ℕ → ℕ → Type 0
Wrote d at ps u p = Left d at ps u p []

-- how many elements a tick makes: none for 0
unfoldable pub elements_of : ℕ → ℕ
elements_of x = elim (eqb x 0) [ true ↦ 0 | false ↦ 1 ]
