-- Records and stores as values and as bytes. Document 01, "Records, store, batch".
use Rattle.std.specs.Prelude.{ℕ, true, false, List, [], ◌∷◌, ◌++◌, eqb, length}
use Rattle.codec.specs.Prelude.{Option, none, some}
use Rattle.layout.specs.Knowledge.{Field, field, put_fields, Knowledge, encode}
use Rattle.ticks.specs.Meaning.{empty_knowledge}
use Rattle.replication.specs.Record.{Content, Rec}

-- "Kind 1 live, kind 2 tombstone"
unfoldable pub kind_of : Content → ℕ
kind_of c = elim c.deleted [ true ↦ 2 | false ↦ 1 ]

-- one byte of kind, "body 88: item id 24, change replica 16, change tick 8, create replica 16, create tick 8, content tag 16 (zeros in a
-- tombstone)"
unfoldable pub rec_fields : Rec → List Field
rec_fields r =
    field 1 (kind_of r.content) ∷ field 24 r.item ∷ field 16 r.change_replica ∷ field 8 r.change_tick ∷
    field 16 r.create_replica ∷ field 8 r.create_tick ∷ field 16 r.content.tag ∷ []

-- a record's bytes in front of t
unfoldable pub put_rec : Rec → List ℕ → List ℕ
put_rec r t = put_fields (rec_fields r) t

unfoldable pub put_recs : List Rec → List ℕ → List ℕ
put_recs [] t = t
put_recs (r ∷ rs) t = put_rec r (put_recs rs t)

unfoldable pub items : List Rec → List ℕ
items [] = []
items (r ∷ rs) = r.item ∷ items rs

-- the record of an item
unfoldable pub find : ℕ → List Rec → Option Rec
find i [] = none
find i (r ∷ rs) = elim (eqb r.item i) [ true ↦ some r | false ↦ find i rs ]

pub record Store : Type 0 where
  pub own : ℕ
  pub knowledge : Knowledge
  pub records : List Rec

-- "New: own id, empty knowledge, no records"
unfoldable pub new_store : ℕ → Store
new_store p = record { own = p; knowledge = empty_knowledge; records = [] }

-- "Kind 3 store, body 24: own replica id 16, knowledge length 4, record count 4; then knowledge, then records."
unfoldable pub store_fields : Store → List Field
store_fields st = field 1 3 ∷ field 16 st.own ∷ field 4 (length (encode st.knowledge)) ∷ field 4 (length st.records) ∷ []

unfoldable pub encode_store : Store → List ℕ
encode_store st = put_fields (store_fields st) (encode st.knowledge ++ put_recs st.records [])
