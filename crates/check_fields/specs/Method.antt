-- The method of the reading of fields: nothing here is to be believed.
use Rattle.std.specs.Prelude.{ℕ, List, [], ◌∷◌, Result, Ok, Err}
use Rattle.layout.specs.declared.Read.{Read}
use Rattle.layout.specs.Got.{Got, Num, Fault}
use Rattle.layout.specs.Knowledge.{Field, field}
use Rattle.check_fields.specs.declared.Field.{Field as CodeField}
use Rattle.check_fields.specs.declared.Field.TheVariants.{One, Two, Four}

-- a fixed field of the code's lists, and a list of them, as the definitions have them
unfoldable pub field_of : CodeField → Field
field_of (One x) = field 1 x
field_of (Two x) = field 2 x
field_of (Four x) = field 4 x

unfoldable pub fields_of : List CodeField → List Field
fields_of [] = []
fields_of (f ∷ fs) = field_of f ∷ fields_of fs

-- what reading comes to where the errors have numbers; where they are refusals, `got_of`
unfoldable pub got_under : {E : Type 0} → (E → ℕ) → Result Read E → Got
got_under number_of (Ok x) = Num x.number x.next
got_under number_of (Err e) = Fault (number_of e)
