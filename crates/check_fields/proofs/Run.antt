-- A run of fixed fields, read one after the other.
use Rattle.std.proofs.Common.{◌≡◌, refl, sym, ap, ap₂, ◌∙◌, ℕ, ◌+◌, ◌<◌, ◌≤◌, List, [], length, get_or, drop, add-one}
use Rattle.std.proofs.Math.Seq.{drop-cons}
use Rattle.std.proofs.lemmas.List.{drop_all}
use Rattle.layout.specs.Got.{Got}
use Rattle.layout.specs.Got.{Num, Fault}
use Rattle.layout.specs.Knowledge.{before_elements}
use Rattle.layout.specs.Read.{◌▷◌, number, same, fields}
use Rattle.check_fields.specs.declared.Field.{Field}
use Rattle.check_fields.specs.declared.Field.TheVariants.{One}
use Rattle.check_fields.specs.Method.{field_of, fields_of}
use Rattle.check_fields.proofs.Steps.{number_any}

-- no field
run_none : (s : List ℕ) (g : Got) → (g ▷ fields s []) ≡ g
unfolding fields
run_none s (Num x at) = refl
run_none s (Fault n) = refl

-- the one field before the elements
pub run_one : (s : List ℕ) (at : ℕ) → (number s 4 0 at ▷ same 1) ≡ fields s before_elements 0 at
unfolding fields before_elements
run_one s at = sym (run_none s (number s 4 0 at ▷ same 1))

-- with i fields of a list read
module _ (s : List ℕ) (list : List Field) (whole : Got) (i x at : ℕ) (inv : whole ≡ fields s (fields_of (drop i list)) x at) where
  pub run_end : length list ≤ i → Num x at ≡ whole
  unfolding fields fields_of
  run_end h = sym (inv ∙ ap (λ (l : List Field). fields s (fields_of l) x at) (drop_all i list h))

  -- the field here, and what is left after it
  pub run_next : i < length list
      → whole ≡ (number s (field_of (get_or list i (One 0))).size 0 at ▷ same (field_of (get_or list i (One 0))).value ▷ fields s (fields_of (drop (i + 1) list)))
  unfolding fields fields_of
  run_next h =
      let f = get_or list i (One 0) in
      inv
      ∙ ap (λ (l : List Field). fields s (fields_of l) x at) (drop-cons list i (One 0) h)
      ∙ ap₂ (λ (g : Got) (j : ℕ). g ▷ same (field_of f).value ▷ fields s (fields_of (drop j list))) (sym (number_any s (field_of f).size x at)) (sym (add-one i))
