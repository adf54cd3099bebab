-- The records of a store or a batch, checked in the code's order (specs/MethodOpening.antt). One pass finds n records whole, rising and
-- valid up to the very end of the bytes; a second looks at a property of each. Together they say that the n records are read and
-- that the table is valid with the property, and the other way round: both walk the same places, one record at a time. Before that, a
-- value that is accepted where a test holds.
use Prim.Native.Nat.{ℕ, zero, suc}
use mathlib.Core.Path.{◌≡◌, refl, sym, ap, ◌∙◌}
use mathlib.Core.Bool.{Bool, true, false}
use mathlib.Core.List.{List, ◌∷◌}
use mathlib.Core.Option.{some}
use native.Mathlib.Omega.{arith}
use lib.Dec.{leb}
use lib.ListN.{length}
use borrow.Author.Tests.{eq-eqb, eqb-true}
use Rattle.codec.specs.Parsed.{Parsed, accepted, refused}
use Rattle.codec.proofs.Replies.{read_accepted}
use Rattle.layout.specs.Knowledge.{Knowledge}
use Rattle.ticks.specs.Meaning.{empty_knowledge}
use Rattle.ticks.specs.Calls.{read_as}
use Rattle.replication.specs.Record.{Rec}
use Rattle.replication.specs.Reading.{whole, rec_at, behind, recs_at, front, valid_rec, valid_recs}
use Rattle.replication.specs.MethodTable.{table_at}
use Rattle.replication.specs.MethodRecords.{records_at, shaped_at, each}
use Rattle.replication.specs.MethodOpening.{accepted_if, is_accepted}
use Rattle.replication.proofs.Tables.Rising.{both_parts, both_holds}
use Rattle.replication.proofs.Bytes.Record.{recs_end, recs_more, front_some, more_back, end_back}
use Rattle.replication.proofs.Tables.Places.{table_read}
use Rattle.replication.proofs.Tables.InBytes.{each_nil, each-cons, valid-nil, valid-cons, records-nil, records-cons, shaped_nil, shaped_cons}

-- ---- values under a test

pub if_holds : {A : Type 0} (n : ℕ) (t : Bool) (x : A) → t ≡ true → accepted_if n t x ≡ accepted x
unfolding accepted_if
if_holds n t x e = ap (λ (b : Bool). accepted_if n b x) e

pub if_fails : {A : Type 0} (n : ℕ) (t : Bool) (x : A) → t ≡ false → accepted_if n t x ≡ refused n
unfolding accepted_if
if_fails n t x e = ap (λ (b : Bool). accepted_if n b x) e

-- a test that cannot be true is false
pub fails : (t : Bool) → (t ≡ true → ⊥) → t ≡ false
fails true n = absurd (n refl)
fails false n = refl

-- a value that opens exactly where a test holds, and is refused with one number only
pub opens_if : {A : Type 0} (n : ℕ) (t : Bool) (x : A) (p : Parsed A) → (t ≡ true → p ≡ accepted x)
    → ((y : A) → p ≡ accepted y → t ≡ true) → ((m : ℕ) → p ≡ refused m → m ≡ n) → p ≡ accepted_if n t x
opens_if n t x p f g h = go t refl p refl
  where
    go : (b : Bool) → t ≡ b → (q : _) → p ≡ q → p ≡ accepted_if n t x
    go true e q d = f e ∙ sym (if_holds n t x e)
    go false e (accepted y) d = absurd (let z : ◌≡◌ {A = ℕ} 0 1 = cc (g y d) in omega arith)
    go false e (refused m) d = d ∙ ap refused (h m d) ∙ sym (if_fails n t x e)

-- what was accepted is what the bytes are read as
pub accepted_is : (p : Parsed Knowledge) → is_accepted p ≡ true → p ≡ accepted (read_as p)
unfolding is_accepted
accepted_is (accepted k) e = ap accepted (sym (read_accepted empty_knowledge k))
accepted_is (refused n) e = absurd (let z : ◌≡◌ {A = ℕ} 0 1 = cc in omega arith)

pub is_accepted_lem : {A : Type 0} (p : Parsed A) (x : A) → p ≡ accepted x → is_accepted p ≡ true
unfolding is_accepted
is_accepted_lem p x e = ap is_accepted e

pub not_accepted : {A : Type 0} (p : Parsed A) (n : ℕ) → p ≡ refused n → is_accepted p ≡ false
unfolding is_accepted
not_accepted p n e = ap is_accepted e

pub read_is : (p : Parsed Knowledge) (k : Knowledge) → p ≡ accepted k → read_as p ≡ k
read_is p k e = ap (λ (q : Parsed Knowledge). read_as q) e ∙ read_accepted empty_knowledge k

-- ---- one record more

-- what the first pass says of the record at a place, and of the others behind it
pub record OrderedMore (s : List ℕ) (lo n at : ℕ) : Type 0 where
  pub whole : whole s at ≡ true
  pub low : leb lo (rec_at s at).item ≡ true
  pub valid : valid_rec (rec_at s at) ≡ true
  pub rest : shaped_at s (suc (rec_at s at).item) n (behind s at) ≡ true

pub ordered_parts : (s : List ℕ) (lo n at : ℕ) → shaped_at s lo (suc n) at ≡ true → OrderedMore s lo n at
ordered_parts s lo n at e =
    let a = both_parts (whole s at) _ (sym (shaped_cons s lo n at) ∙ e) in
    let b = both_parts (leb lo (rec_at s at).item) _ a.1 in
    let c = both_parts (valid_rec (rec_at s at)) _ b.1 in
    record { whole = a.0; low = b.0; valid = c.0; rest = c.1 }

pub ordered_of : (s : List ℕ) (lo n at : ℕ) → OrderedMore s lo n at → shaped_at s lo (suc n) at ≡ true
ordered_of s lo n at o =
    shaped_cons s lo n at
    ∙ both_holds (whole s at) _ o.whole
    (both_holds (leb lo (rec_at s at).item) _ o.low
    (both_holds (valid_rec (rec_at s at)) (shaped_at s (suc (rec_at s at).item) n (behind s at)) o.valid o.rest))

-- ---- from the two passes to the table

-- records in order are read
pub ordered_read : (s : List ℕ) (lo n at : ℕ) → shaped_at s lo n at ≡ true → recs_at s n at ≡ some (records_at s n at)
ordered_read s lo zero at e =
    recs_end s at (eqb-true at (length s) (sym (shaped_nil s lo at) ∙ e)) ∙ ap some (sym (records-nil s at))
ordered_read s lo (suc n) at e =
    let o = ordered_parts s lo n at e in
    recs_more s n at o.whole
    ∙ ap (front (rec_at s at)) (ordered_read s (suc (rec_at s at).item) n (behind s at) o.rest)
    ∙ front_some (rec_at s at) (records_at s n (behind s at))
    ∙ ap some (sym (records-cons s n at))

-- and are a valid table with each property that every one has
pub ordered_valid : (P : Rec → Bool) (s : List ℕ) (lo n at : ℕ) → shaped_at s lo n at ≡ true → each P (records_at s n at) ≡ true
    → valid_recs P lo (records_at s n at) ≡ true
ordered_valid P s lo zero at e f = ap (valid_recs P lo) (records-nil s at) ∙ valid-nil P lo
ordered_valid P s lo (suc n) at e f =
    let r = rec_at s at in
    let rs = records_at s n (behind s at) in
    let o = ordered_parts s lo n at e in
    let p = both_parts (P r) (each P rs) (sym (ap (each P) (records-cons s n at) ∙ each-cons P r rs) ∙ f) in
    ap (valid_recs P lo) (records-cons s n at) ∙ valid-cons P lo r rs
    ∙ both_holds (leb lo r.item) _ o.low
    (both_holds (valid_rec r) _ o.valid
    (both_holds (P r) (valid_recs P (suc r.item) rs) p.0 (ordered_valid P s (suc r.item) n (behind s at) o.rest p.1)))

-- ---- and back

-- records that are read are those at their places
pub read_counted : (s : List ℕ) (n at : ℕ) (rs : List Rec) → recs_at s n at ≡ some rs → records_at s n at ≡ rs
read_counted s zero at rs e = records-nil s at ∙ sym (end_back s at rs e).0
read_counted s (suc n) at rs e =
    more_back s n at rs (records_at s (suc n) at ≡ rs) e
    (λ qs w f g. records-cons s n at ∙ ap (λ (l : List Rec). rec_at s at ∷ l) (read_counted s n (behind s at) qs f) ∙ g)

-- a valid table with a property is in order, and every record has the property
pub valid_ordered : (P : Rec → Bool) (s : List ℕ) (lo n at : ℕ) (rs : List Rec) → recs_at s n at ≡ some rs → valid_recs P lo rs ≡ true
    → (shaped_at s lo n at ≡ true) × (each P (records_at s n at) ≡ true)
valid_ordered P s lo zero at rs e v =
    (shaped_nil s lo at ∙ eq-eqb at (length s) (end_back s at rs e).1, ap (each P) (records-nil s at) ∙ each_nil P)
valid_ordered P s lo (suc n) at rs e v =
    more_back s n at rs _ e
    (λ qs w f g.
    let r = rec_at s at in
    let a = both_parts (leb lo r.item) _ (sym (ap (valid_recs P lo) (sym g) ∙ valid-cons P lo r qs) ∙ v) in
    let b = both_parts (valid_rec r) _ a.1 in
    let c = both_parts (P r) (valid_recs P (suc r.item) qs) b.1 in
    let h = valid_ordered P s (suc r.item) n (behind s at) qs f c.1 in (
      ordered_of s lo n at (record { whole = w; low = a.0; valid = b.0; rest = h.0 }),
      ap (each P) (records-cons s n at) ∙ each-cons P r (records_at s n (behind s at)) ∙ both_holds (P r) _ c.0 h.1,
    ))

-- the walker's table is the counted one
pub ordered_table : (s : List ℕ) (lo n at : ℕ) → shaped_at s lo n at ≡ true → table_at s at ≡ records_at s n at
ordered_table s lo n at e = table_read s n at (records_at s n at) (ordered_read s lo n at e)
