-- The plain history machine, literally document 01's. It takes nothing from the bytes of a store or batch and shares
-- no definition with the calls: numbers, order of versions, span and create rule are its own.
use Rattle.std.specs.Prelude.{ℕ, zero, suc, max, ◌+◌, ◌*◌, ◌^◌, Bool, true, false, List, [], ◌∷◌, ◌++◌, leb, ltb, eqb}
use Rattle.codec.specs.Prelude.{Option, none, some}
use Rattle.replication.specs.Record.{Content, Rec}
use Rattle.replication.specs.Call.{Brought, Call, edit, delete, make, apply, Fed}

abbrev pub Ticks : Type 0  -- by item, then replica id
Ticks = ℕ → ℕ → ℕ

-- "Make: remembers the span and the maker's known ticks"
pub record Remembered : Type 0 where
  pub first : ℕ
  pub last : ℕ
  pub ticks : Ticks

-- "State: a list of versions made, each with its record; for each replica a known tick per item and replica id, all
-- 0; the batches made." A version is its record's item, change replica and change tick
pub record State : Type 0 where
  pub versions : List Rec
  pub ticks : ℕ → Ticks
  pub batches : List Remembered

unfoldable pub initial : State
initial = record { versions = []; ticks = λ who i p. 0; batches = [] }

unfoldable pub value : ℕ → List ℕ → ℕ  -- the number that bytes are, the first byte the highest
value acc [] = acc
value acc (b ∷ bs) = value (acc * 256 + b) bs

unfoldable pub supremum : ℕ → (ℕ → ℕ) → ℕ  -- the largest of f 0, …, f (n − 1)
supremum zero f = 0
supremum (suc n) f = max (supremum n f) (f n)

unfoldable pub largest_known : Ticks → ℕ  -- "the largest of the maker's known ticks", over all item ids and replica ids
largest_known k = supremum (256 ^ 24) (λ i. supremum (256 ^ 16) (λ p. k i p))

-- a version that ticks contain: its tick is 1 or more and at most the known one
unfoldable pub holds : Ticks → Rec → Bool
holds k r = elim (leb 1 r.change_tick) [ true ↦ leb r.change_tick (k r.item r.change_replica) | false ↦ false ]

unfoldable pub later : Rec → Rec → Bool  -- "by tick and then replica id": is the second version the greater
later a b =
    elim (eqb a.change_tick b.change_tick) [
      | true ↦ ltb a.change_replica b.change_replica
      | false ↦ ltb a.change_tick b.change_tick
    ]

unfoldable pub better : Rec → Option Rec → Rec
better r none = r
better r (some best) = elim (later r best) [ true ↦ best | false ↦ r ]

-- the record of the greatest version of an item, among those made, that the ticks contain
unfoldable pub greatest : List Rec → Ticks → ℕ → Option Rec
greatest [] k i = none
greatest (r ∷ rs) k i =
    elim (eqb r.item i) [
      | true ↦ elim (holds k r) [ true ↦ some (better r (greatest rs k i)) | false ↦ greatest rs k i ]
      | false ↦ greatest rs k i
    ]

-- "with the create version of the maker's greatest contained version of the item or, if none, this version itself"
abbrev pub record_with : Content → ℕ → ℕ → ℕ → ℕ → ℕ → Rec
record_with content item who t p u =
    record { item = item; change_replica = who; change_tick = t; create_replica = p; create_tick = u; content = content }

unfoldable pub record_of : Content → ℕ → ℕ → ℕ → Option Rec → Rec
record_of content item who t none = record_with content item who t who t
record_of content item who t (some g) = record_with content item who t g.create_replica g.create_tick

unfoldable pub with_ticks : ℕ → Ticks → (ℕ → Ticks) → ℕ → Ticks  -- the ticks of one replica changed
with_ticks who k f q = elim (eqb who q) [ true ↦ k | false ↦ f q ]

unfoldable pub own_tick : ℕ → ℕ → Ticks → Ticks  -- "the maker's tick for itself becomes that for all items"
own_tick who t k i p = elim (eqb who p) [ true ↦ t | false ↦ k i p ]

-- "Edit or delete: tick 1 + the largest of the maker's known ticks; the record … joins the versions made"
unfoldable pub changes : Content → ℕ → ℕ → State → State
changes content who item m =
    let k = m.ticks who in
    let t = 1 + largest_known k in
    record {
      versions = m.versions ++ (record_of content item who t (greatest m.versions k item) ∷ []);
      ticks = with_ticks who (own_tick who t k) m.ticks;
      batches = m.batches;
    }

unfoldable pub learns : Remembered → Ticks → Ticks  -- "Apply: inside the span each known tick becomes the larger"
learns b k i p =
    elim (ltb i b.first) [ true ↦ k i p | false ↦ elim (ltb b.last i) [ true ↦ k i p | false ↦ max (k i p) (b.ticks i p) ] ]

unfoldable pub remembered_at : ℕ → List Remembered → Option Remembered
remembered_at n [] = none
remembered_at zero (b ∷ bs) = some b
remembered_at (suc n) (b ∷ bs) = remembered_at n bs

unfoldable pub applies : ℕ → Option Remembered → State → State
applies who none m = m
applies who (some b) m =
    record { versions = m.versions; ticks = with_ticks who (learns b (m.ticks who)) m.ticks; batches = m.batches }

unfoldable pub live : Brought → Content  -- "live with the given tag"
live b = record { deleted = false; tag = value 0 b.tag }

unfoldable pub dead : Content  -- "or a tombstone", whose tag is zeros
dead = record { deleted = true; tag = 0 }

unfoldable pub acts : State → Call → State  -- one call that was not refused
acts m (edit who item b room) = changes (live b) who (value 0 item) m
acts m (delete who item room) = changes dead who (value 0 item) m
acts m (make who knowledge first last room) =
    let b : Remembered = record { first = value 0 first; last = value 0 last; ticks = m.ticks who } in
    record { versions = m.versions; ticks = m.ticks; batches = m.batches ++ (b ∷ []) }
acts m (apply who which room) = applies who (remembered_at which m.batches) m

unfoldable pub history : State → List Fed → State  -- "A refused call does nothing"
history m [] = m
history m (x ∷ xs) = history (elim x.refused [ true ↦ m | false ↦ acts m x.call ]) xs
