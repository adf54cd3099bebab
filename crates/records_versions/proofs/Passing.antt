-- A pass over rising records with a cursor that is moved on from record to record. While records are left, the cursor has passed just the
-- ranges below the next item (`Follows`): so at the start, and again after each record. What holds of each record of a table holds of the
-- first and of each of the rest: the answer for the whole table is the answer for what is left.
use Prim.Native.Nat.{ℕ, suc, ◌-◌, ◌≤◌, ◌<◌}
use mathlib.Core.Path.{◌≡◌, refl, sym, ap, ◌∙◌, subst}
use mathlib.Core.Bool.{Bool, true, false}
use mathlib.Core.List.{List, ◌∷◌}
use native.Mathlib.Omega.{arith}
use borrow.Author.Tests.{leb-true}
use Rattle.layout.specs.Knowledge.{Rules}
use Rattle.layout.specs.Decode.{decode}
use Rattle.ticks.specs.Meaning.{contains}
use Rattle.replication.specs.Record.{Rec}
use Rattle.replication.specs.Reading.{behind, rec_at}
use Rattle.replication.specs.MethodRecords.{records_at, shaped_at, each, WholeAt}
use Rattle.replication.specs.OpenStore.{versions_in}
use Rattle.replication.proofs.Tables.InBytes.{whole_at, each_nil, each_on, each_stop, records-nil, records-cons}
use Rattle.replication.proofs.Opening.Records.{OrderedMore, ordered_parts}
use Rattle.lookup.specs.declared.Cursor.{Cursor}
use Rattle.lookup.specs.Method.{Open}
use Rattle.lookup.proofs.Leaf.{Stands, stands_start}
use Rattle.records_versions.specs.Method.{moved_to, change_in, both_in}
use Rattle.records_versions.proofs.Versions.{SomeTicks, valid_ticks, moved_stands, change_in_lem, both_in_lem}

-- n records of s from a place on, whole, valid and rising, none with an item before the one that a cursor of k has come to
pub record Follows (s k : List ℕ) (r n at : ℕ) (c : Cursor) : Type 0 where
  pub rules : Rules
  pub low : ℕ
  pub ordered : shaped_at s low n at ≡ true
  pub stands : Stands rules k r c low

pub follows_start : (s k : List ℕ) (r n at : ℕ) (c : Cursor) → Open k r c → shaped_at s 0 n at ≡ true → Follows s k r n at c
follows_start s k r n at c o h =
    record { rules = o.rules; low = 0; ordered = h; stands = stands_start o.rules k r c o.opens }

module _ (s k : List ℕ) (r n at : ℕ) (c : Cursor) (f : Follows s k r n at c) (some : 0 < n) where
  parts : OrderedMore s f.low (n - 1) at
  parts =
      let z : n ≡ suc (n - 1) = omega arith in
      ordered_parts s f.low (n - 1) at (ap (λ m. shaped_at s f.low m at) (sym z) ∙ f.ordered)

  pub follows_whole : WholeAt s at
  follows_whole = whole_at s at parts.whole

  pub follows_ticks : SomeTicks (rec_at s at)
  follows_ticks = valid_ticks (rec_at s at) parts.valid

  module _ (d : Cursor) (moved : d ≡ moved_to s at k r c) where
    -- moved on, the cursor stands at the item of the next record
    pub follows_stands : Stands f.rules k r d (suc (rec_at s at).item)
    follows_stands =
        let l = leb-true f.low (rec_at s at).item parts.low in
        subst (λ x. Stands f.rules k r x (suc (rec_at s at).item)) (sym moved)
        (moved_stands f.rules k r c s at follows_whole f.low f.stands (omega arith))

    pub follows_next : (next : ℕ) → next ≡ behind s at → Follows s k r (n - 1) next d
    follows_next next e =
        record {
          rules = f.rules;
          low = suc (rec_at s at).item;
          ordered = ap (shaped_at s (suc (rec_at s at).item) (n - 1)) e ∙ parts.rest;
          stands = follows_stands;
        }

    -- there the record's versions are looked up
    pub follows_change : (b : Bool) → b ≡ change_in s at k r d.vector
        → b ≡ contains (decode k) (rec_at s at).item (rec_at s at).change_replica (rec_at s at).change_tick
    follows_change b e = e ∙ change_in_lem f.rules k r d s at follows_whole follows_stands follows_ticks

    pub follows_both : (b : Bool) → b ≡ both_in s at k r d.vector → b ≡ versions_in (decode k) (rec_at s at)
    follows_both b e = e ∙ both_in_lem f.rules k r d s at follows_whole follows_stands follows_ticks

-- ---- a property of each record

-- the answer for n records from a place on is the answer for those that are left, which the cursor follows
pub record Passes (P : Rec → Bool) (s k : List ℕ) (r n at left p : ℕ) (c : Cursor) : Type 0 where
  pub is : each P (records_at s n at) ≡ each P (records_at s left p)
  pub follows : Follows s k r left p c

pub passes_start : (P : Rec → Bool) (s k : List ℕ) (r n at : ℕ) (c : Cursor) (left : ℕ) → left ≡ n → shaped_at s 0 n at ≡ true → Open k r c
    → Passes P s k r n at left at c
passes_start P s k r n at c left e h o =
    subst (λ m. Passes P s k r n at m at c) (sym e) (record { is = refl; follows = follows_start s k r n at c o h })

module _ (P : Rec → Bool) (s k : List ℕ) (r n at left p : ℕ) (c : Cursor) (inv : Passes P s k r n at left p c) where
  pub passes_end : left ≤ 0 → true ≡ each P (records_at s n at)
  passes_end l =
      let z : left ≡ 0 = omega arith in
      sym (inv.is ∙ ap (λ m. each P (records_at s m p)) z ∙ ap (each P) (records-nil s p) ∙ each_nil P)

  module _ (some : 0 < left) where
    one : each P (records_at s n at) ≡ each P (rec_at s p ∷ records_at s (left - 1) (behind s p))
    one =
        let z : left ≡ suc (left - 1) = omega arith in
        inv.is ∙ ap (λ m. each P (records_at s m p)) z ∙ ap (each P) (records-cons s (left - 1) p)

    pub passes_stop : false ≡ P (rec_at s p) → false ≡ each P (records_at s n at)
    passes_stop e = sym (one ∙ each_stop P (rec_at s p) (records_at s (left - 1) (behind s p)) (sym e))

    pub passes_on : (d : Cursor) → d ≡ moved_to s p k r c → true ≡ P (rec_at s p) → (next : ℕ) → next ≡ behind s p
        → (more : ℕ) → more ≡ left - 1 → Passes P s k r n at more next d
    passes_on d e f next g more h =
        subst (λ m. Passes P s k r n at m next d) (sym h) (record {
          is =
              one ∙ each_on P (rec_at s p) (records_at s (left - 1) (behind s p)) (sym f)
              ∙ ap (λ q. each P (records_at s (left - 1) q)) (sym g);
          follows = follows_next s k r left p c inv.follows some d e next g;
        })
