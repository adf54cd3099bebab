-- The operations on values of stores and batches. Document 01, "New", "Edit or delete", "Make", "Apply".
use Rattle.std.specs.Prelude.{ℕ, ◌+◌, Bool, true, false, List, [], ◌∷◌, eqb, ltb}
use Rattle.codec.specs.Prelude.{Option, none, some}
use Rattle.layout.specs.Knowledge.{Knowledge}
use Rattle.ticks.specs.Operations.{normalise, merge, project, raise, largest}
use Rattle.replication.specs.Record.{Content, Rec}
use Rattle.replication.specs.Formats.{find, Store}
use Rattle.replication.specs.BatchFormat.{Batch}
use Rattle.replication.specs.Reading.{both}
use Rattle.replication.specs.OpenBatch.{lacks_change}
use Rattle.ticks.specs.Table.{in_span}

-- the table with a record in its place, instead of the one of the same item
unfoldable pub replace : Rec → List Rec → List Rec
replace r [] = r ∷ []
replace r (x ∷ xs) =
    elim (ltb x.item r.item) [
      | true ↦ x ∷ replace r xs
      | false ↦ elim (eqb x.item r.item) [ true ↦ r ∷ xs | false ↦ r ∷ x ∷ xs ]
    ]

-- "tick = 1 + the largest tick in the store's knowledge"
unfoldable pub next_tick : Store → ℕ
next_tick st = 1 + largest st.knowledge

-- "An absent item gets its create version from the edit; an item already there, tombstones too, keeps its own"
unfoldable pub changed_rec : Content → ℕ → ℕ → ℕ → Option Rec → Rec
changed_rec content item own t none =
    record { item = item; change_replica = own; change_tick = t; create_replica = own; create_tick = t; content = content }
changed_rec content item own t (some old) =
    record {
      item = item;
      change_replica = own;
      change_tick = t;
      create_replica = old.create_replica;
      create_tick = old.create_tick;
      content = content;
    }

-- an edit or a delete, by the content that it brings. "The own tick becomes that in every range"
unfoldable pub changed : Content → ℕ → Store → Store
changed content item st =
    record {
      own = st.own;
      knowledge = raise st.own (next_tick st) st.knowledge;
      records = replace (changed_rec content item st.own (next_tick st) (find item st.records)) st.records;
    }

-- the records that a make carries: "those in the span whose change version needed lacks"
unfoldable pub selected : ℕ → ℕ → Knowledge → List Rec → List Rec
selected first last needed [] = []
selected first last needed (r ∷ rs) =
    elim (both (in_span first last r.item) (lacks_change needed r)) [
      | true ↦ r ∷ selected first last needed rs
      | false ↦ selected first last needed rs
    ]

-- "needed = normal form of the given knowledge; learned = own knowledge projected"
unfoldable pub made : Store → Knowledge → ℕ → ℕ → Batch
made st k first last =
    record {
      first = first;
      last = last;
      needed = normalise k;
      learned = project first last st.knowledge;
      records = selected first last (normalise k) st.records;
    }

-- does the batch's record win: the greater change tick, then the greater change replica
unfoldable pub wins : Rec → Rec → Bool
wins mine theirs =
    elim (ltb mine.change_tick theirs.change_tick) [
      | true ↦ true
      | false ↦ elim (eqb mine.change_tick theirs.change_tick) [
        | true ↦ ltb mine.change_replica theirs.change_replica
        | false ↦ false
      ]
    ]

unfoldable pub winner_of : Rec → Rec → Rec
winner_of mine theirs = elim (wins mine theirs) [ true ↦ theirs | false ↦ mine ]

-- the store's record x and those after it, joined with the batch's records, rest being what joins those after x
unfoldable pub join_from : Rec → List Rec → (List Rec → List Rec) → List Rec → List Rec
join_from x xs rest [] = x ∷ xs
join_from x xs rest (y ∷ ys) =
    elim (ltb x.item y.item) [
      | true ↦ x ∷ rest (y ∷ ys)
      | false ↦ elim (ltb y.item x.item) [
        | true ↦ y ∷ join_from x xs rest ys
        | false ↦ winner_of x y ∷ rest ys
      ]
    ]

-- "for each record, the winner …; an item on one side only keeps that side's record"
unfoldable pub join : List Rec → List Rec → List Rec
join [] ys = ys
join (x ∷ xs) ys = join_from x xs (join xs) ys

-- "Knowledge is merged with learned"
unfoldable pub applied : Store → Batch → Store
applied st b =
    record {
      own = st.own;
      knowledge = merge st.knowledge b.learned;
      records = join st.records b.records;
    }
