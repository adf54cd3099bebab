-- Runs of fields, each with its size and its value, stated once for records and headers. Where the bytes of a run stand, each field is read
-- at its place as its value, and the rest stands behind the run; and where each field is read so, the bytes of the run are what stands
-- there. Places are counted from the run's own, so that with given sizes they are plain numbers.
use Prim.Native.Nat.{ℕ, ◌+◌, ◌≤◌}
use mathlib.Core.Path.{◌≡◌, refl, sym, ap, ap₂, ◌∙◌}
use mathlib.Core.List.{List, [], ◌∷◌, ◌++◌, append_assoc}
use native.Mathlib.Omega.{arith}
use lib.ListN.{length, drop}
use Rattle.codec.specs.Number.{Bytes, be_at, put}
use Rattle.codec.proofs.Numbers.{put-append, put_back, put_bytes, put-length}
use Rattle.layout.specs.Knowledge.{Field, put_fields, All}
use Rattle.layout.proofs.Chain.{Stands, moved, over, reads, Fit, sizes}

-- each field of a run at a place is read as its value; the run's first field stands o bytes further on
abbrev pub ReadAs : List ℕ → ℕ → ℕ → List Field → Type 0
ReadAs s at o [] = Unit {0}
ReadAs s at o (f ∷ fs) = (be_at s f.size (at + o) ≡ f.value) × ReadAs s at (o + f.size) fs

-- the clauses of a run's bytes
pub run_none : (t : List ℕ) → put_fields [] t ≡ t
unfolding put_fields
run_none t = refl

pub run_first : (f : Field) (fs : List Field) (t : List ℕ) → put_fields (f ∷ fs) t ≡ put f.size f.value (put_fields fs t)
unfolding put_fields
run_first f fs t = refl

-- a run written out, number by number
abbrev pub puts : List Field → List ℕ → List ℕ
puts [] t = t
puts (f ∷ fs) t = put f.size f.value (puts fs t)

pub run_puts : (fs : List Field) (t : List ℕ) → put_fields fs t ≡ puts fs t
run_puts [] t = run_none t
run_puts (f ∷ fs) t = run_first f fs t ∙ ap (put f.size f.value) (run_puts fs t)

pub run_length : (fs : List Field) (t : List ℕ) → length (put_fields fs t) ≡ sizes fs + length t
unfolding put_fields
run_length [] t = omega arith
run_length (f ∷ fs) t = omega (arith, put-length f.size f.value (put_fields fs t), run_length fs t)

pub run_bytes : (fs : List Field) (t : List ℕ) → Bytes t → Bytes (put_fields fs t)
unfolding put_fields
run_bytes [] t b = b
run_bytes (f ∷ fs) t b = put_bytes f.size f.value (put_fields fs t) (run_bytes fs t b)

put_before : (n x : ℕ) (a t u : List ℕ) → a ≡ t ++ u → put n x a ≡ put n x t ++ u
put_before n x a t u e =
    ap (put n x) e ∙ put-append n x (t ++ u) ∙ sym (append_assoc (put n x []) t u) ∙ ap (λ (l : List ℕ). l ++ u) (sym (put-append n x t))

pub run-append : (fs : List Field) (t : List ℕ) → put_fields fs t ≡ put_fields fs [] ++ t
unfolding put_fields
run-append [] t = refl
run-append (f ∷ fs) t = put_before f.size f.value (put_fields fs t) (put_fields fs []) t (run-append fs t)

pub run_reads : (s : List ℕ) (at o : ℕ) (fs : List Field) (t : List ℕ) → Stands s (at + o) (put_fields fs t) → All Fit fs → ReadAs s at o fs
unfolding put_fields
run_reads s at o [] t h l = tt
run_reads s at o (f ∷ fs) t h l = (
  reads s (at + o) f.size f.value (put_fields fs t) h l.0.below,
  run_reads s at (o + f.size) fs t
      (moved s (at + o + f.size) (at + (o + f.size)) (put_fields fs t) (omega arith) (over s (at + o) f.size f.value (put_fields fs t) h)) l.1,
)

pub run_back : (s : List ℕ) (at o : ℕ) (fs : List Field) → Bytes s → ReadAs s at o fs → at + (o + sizes fs) ≤ length s →
    drop (at + o) s ≡ put_fields fs (drop (at + (o + sizes fs)) s)
unfolding put_fields
run_back s at o [] b r l =
    let e : at + o ≡ at + (o + 0) = omega arith in
    ap (λ n. drop n s) e
run_back s at o (f ∷ fs) b r l =
    let e : at + o + f.size ≡ at + (o + f.size) = omega arith in
    let g : at + (o + f.size + sizes fs) ≡ at + (o + (f.size + sizes fs)) = omega arith in
    put_back s f.size (at + o) b (omega arith)
    ∙ ap₂ (λ (x : ℕ) (t : List ℕ). put f.size x t) r.0
    (ap (λ n. drop n s) e ∙ (run_back s at (o + f.size) fs b r.1 (omega arith) ∙ ap (λ n. put_fields fs (drop n s)) g))
