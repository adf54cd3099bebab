-- Records and their bytes, both ways. Where the bytes of records stand, to the very end, reading gives these records, since each field is
-- read where it was put and the next record stands behind it. And where reading gives records, their bytes are what stands there, since
-- the bytes of a number read and put again are the same.
use Prim.Native.Nat.{ℕ, zero, suc, ◌+◌, ◌^◌, ◌<◌, ◌≤◌}
use mathlib.Core.Path.{◌≡◌, refl, sym, ap, ◌∙◌, subst}
use mathlib.Core.Bool.{Bool, true, false}
use mathlib.Core.Logic.{◌⊎◌, inl, inr, ◌↔◌}
use mathlib.Core.List.{List, [], ◌∷◌, ◌++◌}
use mathlib.Core.Option.{Option, none, some}
use native.Mathlib.Omega.{arith}
use native.Mathlib.Nat.{add-zero}
use lib.Dec.{leb, eqb}
use lib.ListN.{length, take, drop}
use lib.Seq.{drop-length, take-append_seam}
use borrow.Author.Tests.{le-leb, eq-eqb, ne_eqb, leb-true, eqb-true, eqb-false}
use Rattle.codec.specs.Number.{Bytes, be_at}
use Rattle.codec.proofs.Numbers.{be_below}
use Rattle.layout.specs.Knowledge.{put_fields, All}
use Rattle.layout.proofs.Chain.{Stands, stands_length, moved, fields_over, Fit, sizes}
use Rattle.layout.proofs.Runs.{ReadAs, run_length, run_bytes, run-append, run_reads, run_back}
use Rattle.replication.specs.Record.{Content, Rec}
use Rattle.replication.specs.Formats.{kind_of, rec_fields, put_rec, put_recs}
use Rattle.replication.specs.Reading.{rec_length, behind, content_at, rec_at, whole, front, recs_at}

-- a record whose values have room in their fields
pub record FitsRec (r : Rec) : Type 0 where
  pub item : r.item < 256 ^ 24
  pub change_replica : r.change_replica < 256 ^ 16
  pub change_tick : r.change_tick < 256 ^ 8
  pub create_replica : r.create_replica < 256 ^ 16
  pub create_tick : r.create_tick < 256 ^ 8
  pub tag : r.content.tag < 256 ^ 16

-- ---- kinds and lengths: the only place that knows them

abbrev pub KnownKind : ℕ → Type 0
KnownKind x = (x ≡ 1) ⊎ (x ≡ 2)

-- the length of a record of a known kind, which every record value has
abbrev pub rec_size : ℕ
rec_size = 89

-- a known kind is 1 or 2 and has that length; any other number has the length 0
pub kind-length : (x : ℕ) → KnownKind x → rec_length x ≡ rec_size
unfolding rec_length
kind-length x (inl e) = rw (eq-eqb x 1 e, rec_length)
kind-length x (inr e) = rw e

pub kind_known : (x : ℕ) → (rec_length x ≡ 0 → ⊥) → KnownKind x
unfolding rec_length
kind_known x h = go (eqb x 1) (eqb x 2) refl refl h
  where
    go : (a b : Bool) → eqb x 1 ≡ a → eqb x 2 ≡ b → (◌≡◌ {A = ℕ} (elim a [ true ↦ rec_size | false ↦ elim b [ true ↦ rec_size | false ↦ 0 ] ]) 0 → ⊥) → KnownKind x
    go true b e f h = inl (eqb-true x 1 e)
    go false true e f h = inr (eqb-true x 2 f)
    go false false e f h = absurd (h refl)

kind_of_lem : (c : Content) → KnownKind (kind_of c)
unfolding kind_of
kind_of_lem c = go c.deleted
  where
    go : (t : Bool) → KnownKind (elim t [ true ↦ 2 | false ↦ 1 ])
    go true = inr refl
    go false = inl refl

kind_below : (c : Content) → kind_of c < 256 ^ 1
kind_below c = elim (kind_of_lem c) [ inl e ↦ omega (arith, e) | inr e ↦ omega (arith, e) ]

-- the kind says whether the record is deleted, and back
deleted_reads : (c : Content) (x : ℕ) → x ≡ kind_of c → eqb x 2 ≡ c.deleted
unfolding kind_of
deleted_reads c x e = go c.deleted e
  where
    go : (t : Bool) → x ≡ elim t [ true ↦ 2 | false ↦ 1 ] → eqb x 2 ≡ t
    go true e = eq-eqb x 2 e
    go false e = ne_eqb x 2 (λ h. omega (arith, e, h))

kind_back : (x tag : ℕ) → KnownKind x → kind_of (record { deleted = eqb x 2; tag = tag }) ≡ x
unfolding kind_of
kind_back x tag (inl e) = ap {B = ℕ} (λ (t : Bool). elim t [ true ↦ 2 | false ↦ 1 ]) (ne_eqb x 2 (λ h. omega (arith, e, h))) ∙ sym e
kind_back x tag (inr e) = ap {B = ℕ} (λ (t : Bool). elim t [ true ↦ 2 | false ↦ 1 ]) (eq-eqb x 2 e) ∙ sym e

fields_size : (r : Rec) → sizes (rec_fields r) ≡ rec_size
unfolding rec_fields
fields_size r = refl

pub rec-length : (r : Rec) (t : List ℕ) → length (put_rec r t) ≡ rec_size + length t
unfolding put_rec
rec-length r t = omega (arith, run_length (rec_fields r) t, fields_size r)

-- ---- one record

pub rec_bytes : (r : Rec) (t : List ℕ) → Bytes t → Bytes (put_rec r t)
unfolding put_rec
rec_bytes r t b = run_bytes (rec_fields r) t b

fits_fields : (r : Rec) → FitsRec r → All Fit (rec_fields r)
unfolding rec_fields
fits_fields r f = (
  record { below = kind_below r.content },
  (
    record { below = f.item },
    (
      record { below = f.change_replica },
      (
        record { below = f.change_tick },
        (record { below = f.create_replica }, (record { below = f.create_tick }, (record { below = f.tag }, tt))),
      ),
    ),
  ),
)

module _ (s : List ℕ) (at : ℕ) (r : Rec) (t : List ℕ) (h : Stands s at (put_rec r t)) (f : FitsRec r) where
  read_as_lem : ReadAs s at 0 (rec_fields r)
  unfolding put_rec
  read_as_lem = run_reads s at 0 (rec_fields r) t (moved s at (at + 0) (put_fields (rec_fields r) t) (sym (add-zero at)) h) (fits_fields r f)

  pub kind_reads : be_at s 1 at ≡ kind_of r.content
  unfolding rec_fields
  kind_reads = ap (be_at s 1) (sym (add-zero at)) ∙ read_as_lem.0

  content_reads : content_at s at ≡ r.content
  unfolding rec_fields content_at
  content_reads = rw (deleted_reads r.content (be_at s 1 at) kind_reads, read_as_lem.1.1.1.1.1.1.0)

  -- the record that stands at a place is read there
  pub rec_reads : rec_at s at ≡ r
  unfolding rec_fields rec_at
  rec_reads =
      let w = read_as_lem.1 in
      rw (w.0, w.1.0, w.1.1.0, w.1.1.1.0, w.1.1.1.1.0, content_reads)

  behind_is : behind s at ≡ at + rec_size
  unfolding behind
  behind_is = ap (λ (n : ℕ). at + n) (ap rec_length kind_reads ∙ kind-length (kind_of r.content) (kind_of_lem r.content))

  -- and what is behind it stands at the place behind it
  pub rec_over : Stands s (behind s at) t
  unfolding put_rec
  rec_over = moved s (at + sizes (rec_fields r)) (behind s at) t (omega (arith, fields_size r, behind_is)) (fields_over s at (rec_fields r) t h)

  pub rec_whole : whole s at ≡ true
  unfolding whole
  rec_whole =
      ap {B = Bool} (λ (n : ℕ). elim (eqb n 0) [ true ↦ false | false ↦ leb (behind s at) (length s) ]) (ap rec_length kind_reads ∙ kind-length (kind_of r.content) (kind_of_lem r.content))
      ∙ le-leb (behind s at) (length s) rec_over.inside

-- what a whole record at a place says of the bytes
pub record Whole (s : List ℕ) (at : ℕ) : Type 0 where
  pub kind : KnownKind (be_at s 1 at)
  pub size : behind s at ≡ at + rec_size
  pub later : at < behind s at
  pub inside : behind s at ≤ length s

pub whole_of : (s : List ℕ) (at : ℕ) → KnownKind (be_at s 1 at) → behind s at ≤ length s → whole s at ≡ true
unfolding whole
whole_of s at k l =
    ap {B = Bool} (λ (n : ℕ). elim (eqb n 0) [ true ↦ false | false ↦ leb (behind s at) (length s) ]) (kind-length (be_at s 1 at) k)
    ∙ le-leb (behind s at) (length s) l

pub whole_back : (s : List ℕ) (at : ℕ) → whole s at ≡ true → Whole s at
unfolding whole behind
whole_back s at h = go (eqb (rec_length (be_at s 1 at)) 0) refl h
  where
    go : (t : Bool) → eqb (rec_length (be_at s 1 at)) 0 ≡ t → ◌≡◌ {A = Bool} (elim t [ true ↦ false | false ↦ leb (at + rec_length (be_at s 1 at)) (length s) ]) true → Whole s at
    go true e h = absurd (let z : ◌≡◌ {A = ℕ} 0 1 = cc in omega arith)
    go false e h =
        let k = kind_known (be_at s 1 at) (eqb-false (rec_length (be_at s 1 at)) 0 e) in
        let l = kind-length (be_at s 1 at) k in
        record { kind = k; size = omega (arith, l); later = omega (arith, l); inside = leb-true (at + rec_length (be_at s 1 at)) (length s) h }

-- a whole record of a known kind, in plain numbers: the byte there is 1 or 2, and no more than the bytes of a record are missing
pub whole_exact : (s : List ℕ) (at : ℕ) → (whole s at ≡ true) ↔ (KnownKind (be_at s 1 at) × (at + rec_size ≤ length s))
unfolding behind
whole_exact s at = (
  (λ e. let w = whole_back s at e in (w.kind, omega (arith, w.size, w.inside))),
  λ h. whole_of s at h.0 (omega (arith, kind-length (be_at s 1 at) h.0, h.1)),
)

pub rec_back : (s : List ℕ) (at : ℕ) → Bytes s → Whole s at → drop at s ≡ put_rec (rec_at s at) (drop (behind s at) s)
unfolding put_rec rec_fields rec_at content_at
rec_back s at b w =
    let e : at + (0 + rec_size) ≡ behind s at = omega (arith, w.size) in
    ap (λ (n : ℕ). drop n s) (sym (add-zero at))
    ∙ (run_back s at 0 (rec_fields (rec_at s at)) b
    (ap (be_at s 1) (add-zero at) ∙ sym (kind_back (be_at s 1 at) (be_at s 16 (at + 73)) w.kind), (refl, (refl, (refl, (refl, (refl, (refl, tt)))))))
    (omega (arith, e, w.inside))
    ∙ ap (λ (n : ℕ). put_fields (rec_fields (rec_at s at)) (drop n s)) e)

pub rec_fits : (s : List ℕ) (at : ℕ) → Bytes s → FitsRec (rec_at s at)
unfolding rec_at content_at
rec_fits s at b = record {
  item = be_below s 24 (at + 1) b;
  change_replica = be_below s 16 (at + 25) b;
  change_tick = be_below s 8 (at + 41) b;
  create_replica = be_below s 16 (at + 49) b;
  create_tick = be_below s 8 (at + 65) b;
  tag = be_below s 16 (at + 73) b;
}

pub rec-append : (r : Rec) (t : List ℕ) → put_rec r t ≡ put_rec r [] ++ t
unfolding put_rec
rec-append r t = run-append (rec_fields r) t

-- the part that a whole record is: its bytes
pub rec_part : (s : List ℕ) (at : ℕ) → Bytes s → Whole s at → take (rec_length (be_at s 1 at)) (drop at s) ≡ put_rec (rec_at s at) []
rec_part s at b w =
    let n : rec_length (be_at s 1 at) ≡ length (put_rec (rec_at s at) []) = kind-length (be_at s 1 at) w.kind ∙ omega (arith, rec-length (rec_at s at) []) in
    ap (take (rec_length (be_at s 1 at))) (rec_back s at b w ∙ rec-append (rec_at s at) (drop (behind s at) s))
    ∙ (ap (λ (k : ℕ). take k (put_rec (rec_at s at) [] ++ drop (behind s at) s)) n
    ∙ take-append_seam (put_rec (rec_at s at) []) (drop (behind s at) s))

-- ---- tables of records

pub recs_bytes : (rs : List Rec) (t : List ℕ) → Bytes t → Bytes (put_recs rs t)
unfolding put_recs
recs_bytes [] t b = b
recs_bytes (r ∷ rs) t b = rec_bytes r (put_recs rs t) (recs_bytes rs t b)

pub recs_end : (s : List ℕ) (at : ℕ) → at ≡ length s → recs_at s 0 at ≡ some []
unfolding recs_at
recs_end s at e = rw (eq-eqb at (length s) e, recs_at)

pub recs_more : (s : List ℕ) (n at : ℕ) → whole s at ≡ true → recs_at s (suc n) at ≡ front (rec_at s at) (recs_at s n (behind s at))
unfolding recs_at
recs_more s n at w = rw (w, recs_at)

pub recs_stop : (s : List ℕ) (n at : ℕ) → whole s at ≡ false → recs_at s (suc n) at ≡ none
unfolding recs_at
recs_stop s n at w = rw (w, recs_at)

pub front_some : (r : Rec) (rs : List Rec) → front r (some rs) ≡ some (r ∷ rs)
unfolding front
front_some r rs = refl

-- the records that stand from a place on, to the very end, are read there
pub recs_read : (s : List ℕ) (at : ℕ) (rs : List Rec) → All FitsRec rs → Stands s at (put_recs rs []) → recs_at s (length rs) at ≡ some rs
unfolding put_recs
recs_read s at [] f h = recs_end s at (omega (arith, stands_length s at [] h))
recs_read s at (r ∷ rs) f h =
    recs_more s (length rs) at (rec_whole s at r (put_recs rs []) h f.0)
    ∙ rw (rec_reads s at r (put_recs rs []) h f.0, recs_read s (behind s at) rs f.1 (rec_over s at r (put_recs rs []) h f.0))
    (front_some r rs)

-- what records read from a place on say of the bytes
pub record Read (s : List ℕ) (n at : ℕ) (rs : List Rec) : Type 0 where
  pub bytes : drop at s ≡ put_recs rs []
  pub count : length rs ≡ n
  pub fits : All FitsRec rs

pub front_back : (r : Rec) (o : Option (List Rec)) (rs : List Rec) (C : Type 0) → front r o ≡ some rs →
    ((qs : List Rec) → o ≡ some qs → r ∷ qs ≡ rs → C) → C
unfolding front
front_back r none rs C e k = absurd (let z : ◌≡◌ {A = ℕ} 0 1 = cc in omega arith)
front_back r (some qs) rs C e k = k qs refl (cc)

-- one record more: it is whole, and the others are read behind it
pub more_back : (s : List ℕ) (n at : ℕ) (rs : List Rec) (C : Type 0) → recs_at s (suc n) at ≡ some rs →
    ((qs : List Rec) → whole s at ≡ true → recs_at s n (behind s at) ≡ some qs → rec_at s at ∷ qs ≡ rs → C) → C
more_back s n at rs C e k = go (whole s at) refl
  where
    go : (t : Bool) → whole s at ≡ t → C
    go true w = front_back (rec_at s at) (recs_at s n (behind s at)) rs C (sym (recs_more s n at w) ∙ e) (λ qs f g. k qs w f g)
    go false w = absurd (let z : ◌≡◌ {A = ℕ} 0 1 = cc (recs_stop s n at w) in omega arith)

-- no record more: nothing is left, and the table ends with the bytes
pub end_back : (s : List ℕ) (at : ℕ) (rs : List Rec) → recs_at s 0 at ≡ some rs → (rs ≡ []) × (at ≡ length s)
unfolding recs_at
end_back s at rs e = go (eqb at (length s)) refl e
  where
    go : (t : Bool) → eqb at (length s) ≡ t → ◌≡◌ {A = Option (List Rec)} (elim t [ true ↦ some [] | false ↦ none ]) (some rs) → (rs ≡ []) × (at ≡ length s)
    go true l e = (cc, eqb-true at (length s) l)
    go false l e = absurd (let z : ◌≡◌ {A = ℕ} 0 1 = cc in omega arith)

pub recs_back : (s : List ℕ) (n at : ℕ) (rs : List Rec) → Bytes s → recs_at s n at ≡ some rs → Read s n at rs
unfolding put_recs
recs_back s zero at rs b e =
    let q = end_back s at rs e in
    subst (Read s 0 at) (sym q.0) (record { bytes = ap (λ (n : ℕ). drop n s) q.1 ∙ drop-length s; count = refl; fits = tt })
recs_back s (suc n) at rs b e =
    more_back s n at rs (Read s (suc n) at rs) e (λ qs w f g.
    let i = recs_back s n (behind s at) qs b f in
    subst (Read s (suc n) at) g
    (record { bytes = rec_back s at b (whole_back s at w) ∙ ap (put_rec (rec_at s at)) i.bytes; count = ap suc i.count; fits = (rec_fits s at b, i.fits) }))
