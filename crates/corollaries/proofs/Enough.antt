-- A buffer as long as the longest store is long enough for every result of new, edit, delete and apply, and one as long as the longest batch for
-- every result of make: with such a buffer no call answers 14. What a call writes is a valid store or batch, so its knowledges are lawful and its
-- records are at most the limit, and the length of the bytes is the sum of their lengths. No line of a call's table has the number 14.
use Prim.Native.Nat.{ℕ, ◌*◌, ◌≤◌}
use mathlib.Core.Path.{◌≡◌, refl, sym, ap, ◌∙◌}
use mathlib.Core.Logic.{inl, inr}
use mathlib.Core.List.{List, [], ◌∷◌}
use native.Mathlib.Nat.{mul-le-mul_left}
use native.Mathlib.Omega.{arith}
use lib.ListN.{length}
use Rattle.codec.specs.Number.{Bytes, be_at}
use Rattle.codec.specs.Reply.{Reply, gives, refuses, answer, number_of}
use Rattle.codec.specs.Parsed.{Parsed, accepted, refused}
use Rattle.codec.proofs.Numbers.{be_below}
use Rattle.codec.proofs.Replies.{number_fits, number_refused}
use Rattle.layout.specs.Knowledge.{Limits, any_id, basic, Knowledge, All, base}
use Rattle.layout.specs.Permitted.{Permitted}
use Rattle.layout.specs.Parse.{parse}
use Rattle.layout.proofs.Lengths.{lawful-length}
use Rattle.layout.proofs.Prefix.{longest_base}
use Rattle.layout.proofs.Answers.{answer_basic}
use Rattle.layout.proofs.Exact.{base_permitted}
use Rattle.ticks.proofs.Lists.{Among}
use Rattle.replication.specs.Call.{Brought, BytesBrought}
use Rattle.replication.specs.Formats.{Store, new_store, encode_store}
use Rattle.replication.specs.BatchFormat.{Batch, encode_batch}
use Rattle.replication.specs.Valid.{LawfulStore}
use Rattle.replication.specs.ValidBatch.{LawfulBatch}
use Rattle.replication.specs.Reading.{rec_length}
use Rattle.replication.specs.OpenStore.{open_store}
use Rattle.replication.specs.OpenBatch.{open_batch}
use Rattle.replication.specs.Calls.{new_reply, edit_reply, delete_reply, make_reply, apply_reply}
use Rattle.corollaries.specs.Room.{longest_record, longest_store, longest_batch}
use Rattle.replication.proofs.Bytes.Record.{rec_size}
use Rattle.replication.proofs.Bytes.Sizes.{store_size, batch_size}
use Rattle.replication.proofs.Contents.Valid.{store_number, batch_number_lem}
use Rattle.replication.proofs.Contents.Edit.{edit_writes, delete_writes}
use Rattle.replication.proofs.Contents.Make.{make_writes}
use Rattle.replication.proofs.Contents.Apply.{apply_writes}
use Rattle.replication.proofs.Agree.Run.{new_lawful}
use Rattle.replication.proofs.Refusals.New.{new_17, new_gives}
use Rattle.replication.proofs.Refusals.Table.{refuses_same, gives_refuses}
use Rattle.replication.proofs.Refusals.Edit.{edit_store, edit_numbers_lem, delete_store, delete_numbers_lem}
use Rattle.replication.proofs.Refusals.Make.{make_store, make_own, make_numbers_lem}
use Rattle.replication.proofs.Refusals.Apply.{apply_store, apply_batch, apply_numbers_lem}

-- ---- lengths

pub record_most : longest_record ≡ rec_size
unfolding longest_record rec_length
record_most = refl

pub store_enough : (L : Limits) (st : Store) → LawfulStore L st → length (encode_store st) ≤ longest_store L
unfolding longest_store
store_enough L st v =
    omega (
      arith,
      store_size st,
      lawful-length (any_id L) st.knowledge v.lawful,
      mul-le-mul_left rec_size v.count,
      ap (λ (n : ℕ). n * L.records) record_most,
    )

pub batch_enough : (L : Limits) (b : Batch) → LawfulBatch L b → length (encode_batch b) ≤ longest_batch L
unfolding longest_batch
batch_enough L b v =
    omega (
      arith,
      batch_size b,
      lawful-length (any_id L) b.needed v.needed_lawful,
      lawful-length (any_id L) b.learned v.learned_lawful,
      mul-le-mul_left rec_size v.count,
      ap (λ (n : ℕ). n * L.records) record_most,
    )

-- document 01's limits
pub store_most : longest_store base ≡ 37742
unfolding longest_store longest_record rec_length
store_most = omega (arith, longest_base)

pub batch_most : longest_batch base ≡ 52711
unfolding longest_batch longest_record rec_length
batch_most = omega (arith, longest_base)

-- ---- no call answers 14

-- by the number that C is told
never_14 : (reply : Reply) (room most : ℕ) → most ≤ room → ((bs : List ℕ) → reply ≡ gives bs → length bs ≤ most)
    → (reply ≡ refuses 14 → ⊥) → number_of (answer reply room) ≡ 14 → ⊥
never_14 (gives bs) room most l f n e = omega (arith, (number_fits bs room 0 (omega (arith, f bs refl))).0, e)
never_14 (refuses k) room most l f n e = n (ap refuses (sym (number_refused k room 0).0 ∙ e))

among_not : (n : ℕ) (xs : List ℕ) → All (λ x. n ≡ x → ⊥) xs → Among n xs → ⊥
among_not n [] a m = m
among_not n (x ∷ xs) a (inl e) = a.0 e
among_not n (x ∷ xs) a (inr m) = among_not n xs a.1 m

-- what a reply gives is so long at most, and it never refuses with 14
record Short (reply : Reply) (most : ℕ) : Type 0 where
  size : (bs : List ℕ) → reply ≡ gives bs → length bs ≤ most
  number : reply ≡ refuses 14 → ⊥

short_never : (reply : Reply) (room most : ℕ) → most ≤ room → Short reply most → number_of (answer reply room) ≡ 14 → ⊥
short_never reply room most l h = never_14 reply room most l h.size h.number

-- a reply that refuses with a number of its own
refused_short : (reply : Reply) (n most : ℕ) → reply ≡ refuses n → (n ≡ 14 → ⊥) → Short reply most
refused_short reply n most e h = record {
  size = λ bs g. absurd (gives_refuses reply bs n g e);
  number = λ f. h (refuses_same reply n 14 e f);
}

module _ (L : Limits) (permitted : Permitted L) (s : List ℕ) (bytes : Bytes s) where
  edit_short : (item : List ℕ) (b : Brought) → Bytes item → BytesBrought b → Short (edit_reply L s item b) (longest_store L)
  edit_short item b x y = go (open_store L s) refl
    where
      go : (o : Parsed Store) → open_store L s ≡ o → Short (edit_reply L s item b) (longest_store L)
      go (refused n) e =
          refused_short (edit_reply L s item b) n (longest_store L) (edit_store L s item b n e)
          (λ h. omega (arith, store_number L s n e, h))
      go (accepted st) e =
          record {
            size = λ bs g.
                let c = edit_writes L s item b bs st permitted bytes x y e g in
                omega (arith, ap length c.bytes, store_enough L c.store c.valid);
            number = λ g. elim (edit_numbers_lem L permitted s item b bytes 14 g) [
              | inl o ↦ omega (arith, store_number L s 14 o)
              | inr o ↦ among_not 14 (17 ∷ 20 ∷ 11 ∷ 12 ∷ 13 ∷ []) (omega arith) o.1
            ];
          }

  delete_short : (item : List ℕ) → Bytes item → Short (delete_reply L s item) (longest_store L)
  delete_short item x = go (open_store L s) refl
    where
      go : (o : Parsed Store) → open_store L s ≡ o → Short (delete_reply L s item) (longest_store L)
      go (refused n) e =
          refused_short (delete_reply L s item) n (longest_store L) (delete_store L s item n e)
          (λ h. omega (arith, store_number L s n e, h))
      go (accepted st) e =
          record {
            size = λ bs g.
                let c = delete_writes L s item bs st permitted bytes x e g in
                omega (arith, ap length c.bytes, store_enough L c.store c.valid);
            number = λ g. elim (delete_numbers_lem L permitted s item bytes 14 g) [
              | inl o ↦ omega (arith, store_number L s 14 o)
              | inr o ↦ among_not 14 (17 ∷ 19 ∷ 20 ∷ 11 ∷ 12 ∷ 13 ∷ []) (omega arith) o.1
            ];
          }

  apply_short : (t : List ℕ) → Bytes t → Short (apply_reply L s t) (longest_store L)
  apply_short t x = go (open_store L s) refl (open_batch L t) refl
    where
      go : (o : Parsed Store) → open_store L s ≡ o → (p : Parsed Batch) → open_batch L t ≡ p → Short (apply_reply L s t) (longest_store L)
      go (refused n) e p f =
          refused_short (apply_reply L s t) n (longest_store L) (apply_store L s t n e)
          (λ h. omega (arith, store_number L s n e, h))
      go (accepted st) e (refused n) f =
          refused_short (apply_reply L s t) n (longest_store L) (apply_batch L s t st n e f)
          (λ h. omega (arith, batch_number_lem L t n f, h))
      go (accepted st) e (accepted b) f =
          record {
            size = λ bs g.
                let c = apply_writes L s t bs st b permitted bytes x e f g in
                omega (arith, ap length c.bytes, store_enough L c.store c.valid);
            number = λ g. elim (apply_numbers_lem L s t 14 g) [
              | inl o ↦ omega (arith, store_number L s 14 o)
              | inr o ↦ elim o.1 [
                | inl q ↦ omega (arith, batch_number_lem L t 14 q)
                | inr q ↦ among_not 14 (18 ∷ 11 ∷ 12 ∷ 13 ∷ []) (omega arith) q.1
              ]
            ];
          }

module _ (s : List ℕ) (bytes : Bytes s) (knowledge first last : List ℕ) where
  make_short : Bytes knowledge → Bytes last → Short (make_reply basic s knowledge first last) (longest_batch base)
  make_short x y = go (open_store base s) refl (parse basic knowledge) refl
    where
      go : (o : Parsed Store) → open_store base s ≡ o → (p : Parsed Knowledge) → parse basic knowledge ≡ p
          → Short (make_reply basic s knowledge first last) (longest_batch base)
      go (refused n) e p f =
          refused_short (make_reply basic s knowledge first last) n (longest_batch base) (make_store basic s knowledge first last n e)
          (λ h. omega (arith, store_number base s n e, h))
      go (accepted st) e (refused n) f =
          refused_short (make_reply basic s knowledge first last) n (longest_batch base)
          ((make_own basic s knowledge first last st n n e f).1 refl)
          (λ h. omega (arith, (answer_basic knowledge n f).1, h))
      go (accepted st) e (accepted k) f =
          record {
            size = λ bs g.
                let c = make_writes basic s knowledge first last bs st k base_permitted bytes x y e f g in
                omega (arith, ap length c.bytes, batch_enough base c.batch c.valid);
            number = λ g. elim (make_numbers_lem basic s knowledge first last 14 g) [
              | inl o ↦ omega (arith, store_number base s 14 o)
              | inr o ↦ elim o.1 [
                | inl q ↦ omega (arith, (answer_basic knowledge 14 q).1)
                | inr q ↦ among_not 14 (17 ∷ 11 ∷ 12 ∷ 13 ∷ []) (omega arith) q
              ]
            ];
          }

module _ (own : List ℕ) (bytes : Bytes own) where
  new_short : Short (new_reply own) (longest_store base)
  unfolding new_store
  new_short =
      record {
        size = λ bs g.
            omega (
              arith,
              ap length ((new_gives own bs).0 g).1,
              store_enough base (new_store (be_at own 16 0)) (new_lawful base (be_at own 16 0) base_permitted (be_below own 16 0 bytes)),
            );
        number = λ g. omega (arith, ((new_17 own 14).0 g).0);
      }

-- With document 01's limits: a buffer of the longest store or batch is enough, and then no call returns 14
pub record Enough : Type 0 where
  pub new : (own : List ℕ) (room : ℕ) → Bytes own → longest_store base ≤ room → number_of (answer (new_reply own) room) ≡ 14 → ⊥
  pub edit : (s item : List ℕ) (b : Brought) (room : ℕ) → Bytes s → Bytes item → BytesBrought b → longest_store base ≤ room
      → number_of (answer (edit_reply base s item b) room) ≡ 14 → ⊥
  pub delete : (s item : List ℕ) (room : ℕ) → Bytes s → Bytes item → longest_store base ≤ room
      → number_of (answer (delete_reply base s item) room) ≡ 14 → ⊥
  pub make : (s knowledge first last : List ℕ) (room : ℕ) → Bytes s → Bytes knowledge → Bytes last → longest_batch base ≤ room
      → number_of (answer (make_reply basic s knowledge first last) room) ≡ 14 → ⊥
  pub apply : (s batch : List ℕ) (room : ℕ) → Bytes s → Bytes batch → longest_store base ≤ room
      → number_of (answer (apply_reply base s batch) room) ≡ 14 → ⊥

pub enough : Enough
enough =
    record {
      new = λ own room o l. short_never (new_reply own) room (longest_store base) l (new_short own o);
      edit = λ s item b room o x y l.
          short_never (edit_reply base s item b) room (longest_store base) l (edit_short base base_permitted s o item b x y);
      delete = λ s item room o x l.
          short_never (delete_reply base s item) room (longest_store base) l (delete_short base base_permitted s o item x);
      make = λ s knowledge first last room o x y l.
          short_never (make_reply basic s knowledge first last) room (longest_batch base) l (make_short s o knowledge first last x y);
      apply = λ s batch room o x l.
          short_never (apply_reply base s batch) room (longest_store base) l (apply_short base base_permitted s o batch x);
    }
