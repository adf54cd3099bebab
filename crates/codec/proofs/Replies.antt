-- The answer of a call that writes. A table of refusals gives a number exactly where that line's condition
-- holds and none before it does; where no condition holds, the reply stands. A refusal leaves the buffer as
-- it was, a success leaves all that stands after the written bytes, and neither changes the buffer's length.
-- The number returned is 0 where bytes are given that fit, 14 where they do not fit, and the refusal's otherwise;
-- as many bytes are written as are given where they fit, and otherwise the count is the old one.
-- Each is read off the definitions by the outcome of their one test.
use Rattle.std.proofs.Common.{◌≡◌, ℕ, ◌<◌, ◌≤◌, Bool, true, false, leb, ◌⊎◌, ◌↔◌, List, [], ◌∷◌, ◌++◌, length, take, drop, sym, refl, ap, ◌∙◌, inl, inr, arith, length-append, length-drop, drop_at, le-leb, leb-false, leb-true}
use lib.Seq.{take-append_seam}
use borrow.Author.Tests.{lt-leb}
use Rattle.codec.specs.Answer.{Answer}
use Rattle.codec.specs.Answer.{Written, Refused}
use Rattle.codec.specs.Reply.{Reply, gives, refuses, answer, after, number_of, written_of, Line, first_fault}
use Rattle.codec.specs.Parsed.{accepted, refused, line, own_fault, read_or}

-- ---- tables of refusals

-- n is the number of the first line whose condition holds
abbrev pub First : ℕ → List Line → Type 0
First n [] = ⊥
First n (l ∷ ls) = ((l.holds ≡ true) × (l.number ≡ n)) ⊎ ((l.holds ≡ false) × First n ls)

-- no line's condition holds
abbrev pub None : List Line → Type 0
None [] = Unit
None (l ∷ ls) = (l.holds ≡ false) × None ls

-- the clauses of `first_fault`
pub fault_here : {A : Type 0} (refusal : ℕ → A) (l : Line) (ls : List Line) (r : A) → l.holds ≡ true → first_fault refusal (l ∷ ls) r ≡ refusal l.number
unfolding first_fault
fault_here refusal l ls r e = rw (e, first_fault)

pub fault_later : {A : Type 0} (refusal : ℕ → A) (l : Line) (ls : List Line) (r : A) → l.holds ≡ false → first_fault refusal (l ∷ ls) r ≡ first_fault refusal ls r
unfolding first_fault
fault_later refusal l ls r e = rw (e, first_fault)

pub fault_none : {A : Type 0} (refusal : ℕ → A) (ls : List Line) (r : A) → None ls → first_fault refusal ls r ≡ r
unfolding first_fault
fault_none refusal [] r h = refl
fault_none refusal (l ∷ ls) r h = fault_later refusal l ls r h.0 ∙ fault_none refusal ls r h.1

-- a refusal does not depend on what stands behind the table
pub fault_at : {A : Type 0} (refusal : ℕ → A) (ls : List Line) (r : A) (n : ℕ) → First n ls → first_fault refusal ls r ≡ refusal n
fault_at refusal [] r n h = absurd h
fault_at refusal (l ∷ ls) r n (inl h) = fault_here refusal l ls r h.0 ∙ ap refusal h.1
fault_at refusal (l ∷ ls) r n (inr h) = fault_later refusal l ls r h.0 ∙ fault_at refusal ls r n h.1

pub fault_gives : (ls : List Line) (bs bs' : List ℕ) → first_fault refuses ls (gives bs) ≡ gives bs' → None ls × (bs ≡ bs')
unfolding first_fault
fault_gives [] bs bs' e = (tt, cc)
fault_gives (l ∷ ls) bs bs' e = by_case l.holds refl (λ f. fault_gives ls bs bs' f)
  where
    by_case :
        (b : Bool)
        → l.holds ≡ b
        → (first_fault refuses ls (gives bs) ≡ gives bs' → None ls × (bs ≡ bs'))
        → None (l ∷ ls) × (bs ≡ bs')
    by_case true h rest =
        let z : ◌≡◌ {A = ℕ} 0 1 = cc (fault_here refuses l ls (gives bs) h, e) in
        absurd (omega arith)
    by_case false h rest = let r = rest (sym (fault_later refuses l ls (gives bs) h) ∙ e) in ((h, r.0), r.1)

pub fault_first : (ls : List Line) (bs : List ℕ) (n : ℕ) → first_fault refuses ls (gives bs) ≡ refuses n → First n ls
unfolding first_fault
fault_first [] bs n e =
    let z : ◌≡◌ {A = ℕ} 0 1 = cc in
    absurd (omega arith)
fault_first (l ∷ ls) bs n e = by_case l.holds refl (λ f. fault_first ls bs n f)
  where
    by_case : (b : Bool) → l.holds ≡ b → (first_fault refuses ls (gives bs) ≡ refuses n → First n ls) → First n (l ∷ ls)
    by_case true h rest = inl (h, cc (fault_here refuses l ls (gives bs) h, e))
    by_case false h rest = inr (h, rest (sym (fault_later refuses l ls (gives bs) h) ∙ e))

pub fault_exact : (ls : List Line) (bs : List ℕ) (n : ℕ) → (first_fault refuses ls (gives bs) ≡ refuses n) ↔ First n ls
fault_exact ls bs n = (fault_first ls bs n, fault_at refuses ls (gives bs) n)

-- ---- the line of what was read

pub fault_refused : (A : Type 0) (n : ℕ) → (own_fault {A = A} (refused n)).holds ≡ true
unfolding own_fault
fault_refused A n = refl

pub read_accepted : {A : Type 0} (other x : A) → read_or other (accepted x) ≡ x
unfolding read_or
read_accepted other x = refl

pub read_fault : {A : Type 0} (B : Type 0) (refusal : ℕ → A) (n : ℕ) (ls : List Line) (r : A) → first_fault refusal (own_fault {A = B} (refused n) ∷ ls) r ≡ refusal n
unfolding own_fault
read_fault B refusal n ls r = fault_here refusal (line n true) ls r refl

pub read_fine : {A B : Type 0} (refusal : ℕ → A) (x : B) (ls : List Line) (r : A) → first_fault refusal (own_fault (accepted x) ∷ ls) r ≡ first_fault refusal ls r
unfolding own_fault
read_fine refusal x ls r = fault_later refusal (line 0 false) ls r refl

-- ---- the answer, and the buffer after the call

pub answer_fits : (bs : List ℕ) (room : ℕ) → length bs ≤ room → answer (gives bs) room ≡ Written (length bs)
unfolding answer
answer_fits bs room h = rw (le-leb (length bs) room h, answer)

pub answer_short : (bs : List ℕ) (room : ℕ) → room < length bs → answer (gives bs) room ≡ Refused 14
unfolding answer
answer_short bs room h = rw (lt-leb (length bs) room h, answer)

-- the number returned and how many bytes are written, in each case
pub number_fits : (bs : List ℕ) (room old : ℕ) → length bs ≤ room → (number_of (answer (gives bs) room) ≡ 0) × (written_of (answer (gives bs) room) old ≡ length bs)
unfolding number_of written_of
number_fits bs room old h = (ap number_of (answer_fits bs room h), ap (λ (a : Answer). written_of a old) (answer_fits bs room h))

pub number_short : (bs : List ℕ) (room old : ℕ) → room < length bs → (number_of (answer (gives bs) room) ≡ 14) × (written_of (answer (gives bs) room) old ≡ old)
unfolding number_of written_of
number_short bs room old h = (ap number_of (answer_short bs room h), ap (λ (a : Answer). written_of a old) (answer_short bs room h))

pub number_refused : (n room old : ℕ) → (number_of (answer (refuses n) room) ≡ n) × (written_of (answer (refuses n) room) old ≡ old)
unfolding answer number_of written_of
number_refused n room old = (refl, refl)

-- bytes that are given return 0 exactly where they fit
pub number_given : (bs : List ℕ) (room : ℕ) → (number_of (answer (gives bs) room) ≡ 0) ↔ (length bs ≤ room)
number_given bs room = (there (leb (length bs) room) refl, λ h. (number_fits bs room 0 h).0)
  where
    there : (b : Bool) → leb (length bs) room ≡ b → number_of (answer (gives bs) room) ≡ 0 → length bs ≤ room
    there true e z = leb-true (length bs) room e
    there false e z =
        let f : number_of (answer (gives bs) room) ≡ 14 = (number_short bs room 0 (leb-false (length bs) room e)).0 in
        absurd (omega arith)

pub after_fits : (bs out : List ℕ) → length bs ≤ length out → after (gives bs) out ≡ bs ++ drop (length bs) out
unfolding after
after_fits bs out h = rw (le-leb (length bs) (length out) h, after)

pub after_short : (bs out : List ℕ) → length out < length bs → after (gives bs) out ≡ out
unfolding after
after_short bs out h = rw (lt-leb (length bs) (length out) h, after)

-- the bytes that are written stand at the front
pub after_front : (bs out : List ℕ) → length bs ≤ length out → take (length bs) (after (gives bs) out) ≡ bs
after_front bs out h = rw (after_fits bs out h) (take-append_seam bs (drop (length bs) out))

pub after-length : (r : Reply) (out : List ℕ) → length (after r out) ≡ length out
unfolding after
after-length (refuses n) out = refl
after-length (gives bs) out = by_case (leb (length bs) (length out)) refl
  where
    by_case : (b : Bool) → leb (length bs) (length out) ≡ b → length (after (gives bs) out) ≡ length out
    by_case true e =
        let h : length bs ≤ length out = leb-true (length bs) (length out) e in
        ap length (after_fits bs out h) ∙ simp (length-append, length-drop) (omega arith)
    by_case false e = ap length (after_short bs out (leb-false (length bs) (length out) e))

pub after_refused : (r : Reply) (out : List ℕ) (n : ℕ) → answer r (length out) ≡ Refused n → after r out ≡ out
unfolding after
after_refused (refuses m) out n a = refl
after_refused (gives bs) out n a = by_case (leb (length bs) (length out)) refl
  where
    by_case : (b : Bool) → leb (length bs) (length out) ≡ b → after (gives bs) out ≡ out
    by_case true e =
        let f : answer (gives bs) (length out) ≡ Written (length bs) = answer_fits bs (length out) (leb-true (length bs) (length out) e) in
        let z : ◌≡◌ {A = ℕ} 0 1 = cc in
        absurd (omega arith)
    by_case false e = after_short bs out (leb-false (length bs) (length out) e)

pub after_written : (r : Reply) (out : List ℕ) (n : ℕ) → answer r (length out) ≡ Written n → drop n (after r out) ≡ drop n out
unfolding answer
after_written (refuses m) out n a =
    let z : ◌≡◌ {A = ℕ} 0 1 = cc in
    absurd (omega arith)
after_written (gives bs) out n a = by_case (leb (length bs) (length out)) refl
  where
    by_case : (b : Bool) → leb (length bs) (length out) ≡ b → drop n (after (gives bs) out) ≡ drop n out
    by_case true e =
        let h : length bs ≤ length out = leb-true (length bs) (length out) e in
        let f : answer (gives bs) (length out) ≡ Written (length bs) = answer_fits bs (length out) h in
        let m : length bs ≡ n = cc in
        ap (drop n) (after_fits bs out h) ∙ drop_at bs (drop (length bs) out) n m ∙ ap (λ (k : ℕ). drop k out) m
    by_case false e =
        let f : answer (gives bs) (length out) ≡ Refused 14 = answer_short bs (length out) (leb-false (length bs) (length out) e) in
        let z : ◌≡◌ {A = ℕ} 0 1 = cc in
        absurd (omega arith)
