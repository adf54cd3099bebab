-- The conditions on the records of a store or batch, in document 01's words and in plain numbers. They are written from the paper's
-- text and cite nothing of specs/Valid.antt, so that a condition that is lost there and in the definitions alike is missed here. A
-- record is one of the records where these are some records, then it, then others; so the laws go along the records in front of it.
-- Last, what bytes read as records say: where they end, and that each begins with a known kind.
use Prim.Native.Nat.{ℕ, zero, suc, ◌+◌, ◌^◌, ◌≤◌, ◌<◌}
use mathlib.Core.Path.{◌≡◌, refl, ap, subst, ◌∙◌}
use mathlib.Core.Bool.{true}
use mathlib.Core.List.{List, [], ◌∷◌, ◌++◌}
use mathlib.Core.Option.{some}
use native.Mathlib.Omega.{arith}
use lib.ListN.{length}
use Rattle.codec.specs.Number.{be_at}
use Rattle.layout.specs.Knowledge.{All, Rising}
use Rattle.replication.specs.Record.{Rec}
use Rattle.replication.specs.Formats.{items}
use Rattle.replication.specs.Valid.{LawfulRec}
use Rattle.replication.specs.Reading.{rec_length, behind, recs_at}
use Rattle.replication.proofs.Tables.Rising.{rising-nil, rising-cons, rising_low, rising_rest}
use Rattle.replication.proofs.Bytes.Record.{FitsRec, KnownKind, whole_back, more_back, end_back}

-- r is one of the records
pub record OneOf (r : Rec) (rs : List Rec) : Type 0 where
  pub before : List Rec
  pub after : List Rec
  pub is : rs ≡ before ++ (r ∷ after)

-- q stands right behind r
pub record Neighbours (r q : Rec) (rs : List Rec) : Type 0 where
  pub before : List Rec
  pub after : List Rec
  pub is : rs ≡ before ++ (r ∷ (q ∷ after))

-- "with ticks 1 to 2^63 − 1, create tick at most change tick"; "content tag 16 (zeros in a tombstone)"
pub record RecordConditions (r : Rec) : Type 0 where
  pub change_least : 1 ≤ r.change_tick
  pub change_most : r.change_tick < 2 ^ 63
  pub create_least : 1 ≤ r.create_tick
  pub create_most : r.create_tick < 2 ^ 63
  pub order : r.create_tick ≤ r.change_tick
  pub tombstone : r.content.deleted ≡ true → r.content.tag ≡ 0

-- ---- what holds for each record holds for one of them, and back

pub one_of_all : (P : Rec → Type 0) (rs : List Rec) (r : Rec) → All P rs → OneOf r rs → P r
one_of_all P rs r a h = go h.before (subst (All P) h.is a)
  where
    go : (xs : List Rec) → All P (xs ++ (r ∷ h.after)) → P r
    go [] a = a.0
    go (x ∷ xs) a = go xs a.1

pub all_one_of : (P : Rec → Type 0) (rs : List Rec) → ((r : Rec) → OneOf r rs → P r) → All P rs
all_one_of P [] f = tt
all_one_of P (x ∷ xs) f = (
  f x (record { before = []; after = xs; is = refl }),
  all_one_of P xs (λ r h. f r (record { before = x ∷ h.before; after = h.after; is = ap (λ (t : List Rec). x ∷ t) h.is })),
)

-- ---- rising item ids: each is below the one right behind it

pub rising_neighbours : (rs : List Rec) (r q : Rec) → Rising 0 (items rs) → Neighbours r q rs → r.item < q.item
rising_neighbours rs r q h n = go n.before 0 (subst (λ t. Rising 0 (items t)) n.is h)
  where
    go : (xs : List Rec) (lo : ℕ) → Rising lo (items (xs ++ (r ∷ (q ∷ n.after)))) → r.item < q.item
    go [] lo h = rising_low (suc r.item) q n.after (rising_rest lo r (q ∷ n.after) h)
    go (x ∷ xs) lo h = go xs (suc x.item) (rising_rest lo x (xs ++ (r ∷ (q ∷ n.after))) h)

behind_first : (x : Rec) (xs : List Rec) → ((r q : Rec) → Neighbours r q (x ∷ xs) → r.item < q.item) →
    Rising (suc x.item) (items xs)
behind_first x [] f = rising-nil (suc x.item)
behind_first x (y ∷ ys) f =
    rising-cons (suc x.item) y ys (f x y (record { before = []; after = ys; is = refl }))
    (behind_first y ys (λ r q n. f r q (record { before = x ∷ n.before; after = n.after; is = ap (λ (t : List Rec). x ∷ t) n.is })))

pub neighbours_rising : (rs : List Rec) → ((r q : Rec) → Neighbours r q rs → r.item < q.item) → Rising 0 (items rs)
neighbours_rising [] f = rising-nil 0
neighbours_rising (x ∷ xs) f = rising-cons 0 x xs (omega arith) (behind_first x xs f)

-- ---- one record

pub record_lawful : (r : Rec) → FitsRec r → RecordConditions r → LawfulRec r
record_lawful r f c =
    record {
      item = f.item;
      change_replica = f.change_replica;
      create_replica = f.create_replica;
      content = record { tag = f.tag; bare = λ d. omega (arith, c.tombstone d) };
      create_tick = omega (arith, c.create_least);
      order = omega (arith, c.order);
      change_tick = omega (arith, c.change_most);
    }

pub lawful_record : (r : Rec) → LawfulRec r → RecordConditions r
lawful_record r l =
    record {
      change_least = omega (arith, l.create_tick, l.order);
      change_most = omega (arith, l.change_tick);
      create_least = omega (arith, l.create_tick);
      create_most = omega (arith, l.order, l.change_tick);
      order = omega (arith, l.order);
      tombstone = λ d. omega (arith, l.content.bare d);
    }

-- ---- records in bytes: the last ends with the bytes, and each begins with a known kind

-- the place behind the n records from a place on
unfoldable pub behind_all : List ℕ → ℕ → ℕ → ℕ
behind_all s at zero = at
behind_all s at (suc n) = behind_all s (behind s at) n

pub recs_length : (s : List ℕ) (n at : ℕ) (rs : List Rec) → recs_at s n at ≡ some rs → length s ≡ behind_all s at n
unfolding behind_all
recs_length s zero at rs e = omega (arith, (end_back s at rs e).1)
recs_length s (suc n) at rs e =
    more_back s n at rs (length s ≡ behind_all s (behind s at) n) e (λ qs w f g. recs_length s n (behind s at) qs f)

pub recs_kinds : (s : List ℕ) (n at : ℕ) (rs : List Rec) → recs_at s n at ≡ some rs → (j : ℕ) → j < n →
    KnownKind (be_at s 1 (behind_all s at j))
unfolding behind_all
recs_kinds s zero at rs e j l = absurd (omega arith)
recs_kinds s (suc n) at rs e zero l =
    more_back s n at rs (KnownKind (be_at s 1 at)) e (λ qs w f g. (whole_back s at w).kind)
recs_kinds s (suc n) at rs e (suc j) l =
    more_back s n at rs (KnownKind (be_at s 1 (behind_all s (behind s at) j))) e
    (λ qs w f g. recs_kinds s n (behind s at) qs f j (omega arith))

behind_same : (s t : List ℕ) (at : ℕ) → be_at (s ++ t) 1 at ≡ be_at s 1 at → behind (s ++ t) at ≡ behind s at
unfolding behind
behind_same s t at e = ap (λ (k : ℕ). at + rec_length k) e

-- more bytes behind change nothing of that
pub behind_more : (s t : List ℕ) (n at : ℕ) (rs : List Rec) → recs_at s n at ≡ some rs → ((m at : ℕ) → at + m ≤ length s → be_at (s ++ t) m at ≡ be_at s m at) → behind_all (s ++ t) at n ≡ behind_all s at n
unfolding behind_all
behind_more s t zero at rs e r = refl
behind_more s t (suc n) at rs e r =
    more_back s n at rs (behind_all (s ++ t) (behind (s ++ t) at) n ≡ behind_all s (behind s at) n) e
    (λ qs w f g.
    let k = whole_back s at w in
    ap (λ (x : ℕ). behind_all (s ++ t) x n) (behind_same s t at (r 1 at (omega (arith, k.later, k.inside)))) ∙ behind_more s t n (behind s at) qs f r)
