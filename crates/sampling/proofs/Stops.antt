-- The rows of a table, put after a test: where it fails there is no row, and where the ranges are in the bytes and there is room, as the
-- test of the whole table asks, the rows are those that the table has (`stopped_is`, `spanned_is`).
use Prim.Native.Nat.{ℕ, suc, ◌+◌, ◌*◌, ◌≤◌, ◌<◌}
use mathlib.Core.Path.{◌≡◌, refl, sym, ap, ◌∙◌}
use mathlib.Core.Bool.{Bool, true, false}
use mathlib.Core.List.{List, [], ◌∷◌}
use native.Mathlib.Omega.{arith}
use lib.Dec.{leb}
use lib.ListN.{length}
use borrow.Author.Tests.{le-leb, lt-leb}
use Rattle.layout.specs.Knowledge.{All}
use Rattle.ticks.proofs.Equality.{clash}
use Rattle.ticks.proofs.Lists.{order, less, same, more}
use Rattle.tables.specs.MethodWords.{most_rows}
use Rattle.lookup.specs.declared.Cursor.{Cursor}
use Rattle.codec.specs.declared.Item.{Item}
use Rattle.sampling.specs.MethodRows.{first_item, top_item, RowList, rows_of, stopped, first_row, last_row}
use Rattle.sampling.specs.MethodStops.{at_most, rows_fit, all_stopped, span_of, spanned, span_stopped}

-- Tests of numbers

abbrev pub Le : ℕ × ℕ → Type 0
Le x = x.0 ≤ x.1

module _ (x : ℕ × ℕ) (xs : List (ℕ × ℕ)) where
  pub most_not : x.1 < x.0 → false ≡ at_most (x ∷ xs)
  unfolding at_most
  most_not h = rw (lt-leb x.0 x.1 h, at_most)

  pub most_next : x.0 ≤ x.1 → at_most xs ≡ at_most (x ∷ xs)
  unfolding at_most
  most_next h = rw (le-leb x.0 x.1 h, at_most)

most_none : at_most [] ≡ true
unfolding at_most
most_none = refl

pub last_is : (x : ℕ × ℕ) → leb x.0 x.1 ≡ at_most (x ∷ [])
last_is x =
    elim (order x.0 x.1) [
      | less h ↦ le-leb x.0 x.1 (omega arith) ∙ sym most_none ∙ most_next x [] (omega arith)
      | same h ↦ le-leb x.0 x.1 (omega arith) ∙ sym most_none ∙ most_next x [] (omega arith)
      | more h ↦ lt-leb x.0 x.1 h ∙ most_not x [] h
    ]

pub all_most : (xs : List (ℕ × ℕ)) → All Le xs → at_most xs ≡ true
all_most [] a = most_none
all_most (x ∷ xs) a = sym (most_next x xs a.0) ∙ all_most xs a.1

pub most_all : (xs : List (ℕ × ℕ)) → at_most xs ≡ true → All Le xs
most_all [] e = tt
most_all (x ∷ xs) e =
    elim (order x.0 x.1) [
      | less h ↦ (omega arith, most_all xs (most_next x xs (omega arith) ∙ e))
      | same h ↦ (omega arith, most_all xs (most_next x xs (omega arith) ∙ e))
      | more h ↦ clash (at_most (x ∷ xs)) e (sym (most_not x xs h))
    ]

-- The test of the rows

-- all of it, with names
pub record RowsFit (s : List ℕ) (c : Cursor) (t : List ℕ) (b bt n bounds : ℕ) : Type 0 where
  pub ranges : c.next + 28 * c.left ≤ length s
  pub others : bt + 28 * b ≤ length t
  pub rows : suc n ≤ most_rows
  pub bound_words : 3 * suc n ≤ bounds

module _ (s : List ℕ) (c : Cursor) (t : List ℕ) (b bt n bounds : ℕ) where
  pub rows_tell : (q : Bool) → q ≡ rows_fit s c t b bt n bounds → q ≡ true → RowsFit s c t b bt n bounds
  unfolding rows_fit
  rows_tell q is e =
      let a = most_all _ (sym is ∙ e) in
      record { ranges = a.0; others = a.1.0; rows = a.1.1.0; bound_words = a.1.1.1.0 }

  pub rows_hold : RowsFit s c t b bt n bounds → rows_fit s c t b bt n bounds ≡ true
  unfolding rows_fit
  rows_hold h = all_most _ (h.ranges, (h.others, (h.rows, (h.bound_words, tt))))

  -- test by test, as code makes them
  pub rows_1 : length s < c.next + 28 * c.left → false ≡ rows_fit s c t b bt n bounds
  unfolding rows_fit
  rows_1 h = most_not _ _ h

  module _ (a : c.next + 28 * c.left ≤ length s) where
    pub rows_2 : length t < bt + 28 * b → false ≡ rows_fit s c t b bt n bounds
    unfolding rows_fit
    rows_2 h = most_not _ _ h ∙ most_next _ _ a

    module _ (d : bt + 28 * b ≤ length t) where
      pub rows_3 : most_rows < suc n → false ≡ rows_fit s c t b bt n bounds
      unfolding rows_fit
      rows_3 h = most_not _ _ h ∙ most_next _ _ d ∙ most_next _ _ a

      pub rows_last : suc n ≤ most_rows → (x : ℕ) → x ≡ 3 * suc n → leb x bounds ≡ rows_fit s c t b bt n bounds
      unfolding rows_fit
      rows_last i x e =
          last_is (x, bounds) ∙ ap (λ y. at_most ((y, bounds) ∷ [])) e ∙ most_next _ _ i ∙ most_next _ _ d ∙ most_next _ _ a

-- The rows of all items

module _ (s : List ℕ) (c : Cursor) (t : List ℕ) (b bt : ℕ) (bounds : List ℕ) where
  module _ (q : Bool) (is : q ≡ rows_fit s c t b bt (c.left + b + 1) (length bounds)) where
    pub stopped_none : q ≡ false → rows_of bounds 0 ≡ all_stopped s c t b bt bounds
    unfolding all_stopped
    stopped_none e = rw (sym is ∙ e, all_stopped)

    pub stopped_some : q ≡ true → stopped s c.left c.next t b bt first_item top_item bounds 1 ≡ all_stopped s c t b bt bounds
    unfolding all_stopped
    stopped_some e = rw (sym is ∙ e, all_stopped)

  pub stopped_is : RowsFit s c t b bt (c.left + b + 1) (length bounds)
      → all_stopped s c t b bt bounds ≡ stopped s c.left c.next t b bt first_item top_item bounds 1
  stopped_is h = sym (stopped_some true (sym (rows_hold s c t b bt (c.left + b + 1) (length bounds) h)) refl)

-- The rows of a span

module _ (s : List ℕ) (c : Cursor) (first last : Item) (bounds : List ℕ) where
  module _ (q : Bool) (is : q ≡ rows_fit s c s 0 c.next (c.left + 3) (length bounds)) where
    pub spanned_none : q ≡ false → span_of bounds 1 0 0 ≡ span_stopped s c first last bounds
    unfolding span_stopped
    spanned_none e = rw (sym is ∙ e, span_stopped)

    pub spanned_some : q ≡ true → spanned s c first last bounds ≡ span_stopped s c first last bounds
    unfolding span_stopped
    spanned_some e = rw (sym is ∙ e, span_stopped)

  pub spanned_is : RowsFit s c s 0 c.next (c.left + 3) (length bounds)
      → span_stopped s c first last bounds ≡ spanned s c first last bounds
  spanned_is h = sym (spanned_some true (sym (rows_hold s c s 0 c.next (c.left + 3) (length bounds) h)) refl)

  -- as code puts them together
  pub spanned_put : (u v w : List ℕ) (from top rows : ℕ) → rows_of u from ≡ first_row bounds first
      → rows_of v top ≡ stopped s c.left c.next s 0 c.next first last u from → rows_of w rows ≡ last_row (rows_of v top) last
      → span_of w from top rows ≡ spanned s c first last bounds
  unfolding spanned
  spanned_put u v w from top rows begin stops end =
      ap (λ (z : RowList). span_of z.bounds from top z.top) end
      ∙ ap (λ (y : RowList). let z = last_row y last in span_of z.bounds from y.top z.top) stops
      ∙ ap (λ (f : RowList).
      let y = stopped s c.left c.next s 0 c.next first last f.bounds f.top in
      let z = last_row y last in
      span_of z.bounds f.top y.top z.top) begin
