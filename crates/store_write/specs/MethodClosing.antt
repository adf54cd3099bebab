-- A store or batch whose knowledge is written into its room by the knowledge part: where that room is, how the call ends around it for any inputs,
-- and what is known once the knowledge is written. There is nothing to believe here: the laws say that the call has then ended as the reply of
-- the store or batch says.
use Rattle.std.specs.Prelude.{ℕ, ◌+◌, ◌-◌, ◌≤◌, ◌<◌, ◌≡◌, Bool, true, false, List, [], ◌++◌, leb, ltb, length, take, drop}
use Rattle.codec.specs.Reply.{Reply, gives, refuses, first_fault}
use Rattle.codec.specs.Part.{placed}
use Rattle.codec.specs.Answer.{Answer}
use Rattle.codec.specs.Answer.{Written, Refused}
use Rattle.layout.specs.Knowledge.{Limits, Knowledge, encode}
use Rattle.ticks.specs.Calls.{result_lines}
use Rattle.replication.specs.Formats.{Store, put_recs}
use Rattle.replication.specs.BatchFormat.{Batch}
use Rattle.replication.specs.OpenStore.{store_knowledge}
use Rattle.replication.specs.OpenBatch.{batch_needed}
use Rattle.codec.specs.MethodEnded.{Ended}
use Rattle.records_join.specs.MethodJoin.{copied}
use Rattle.store_headers.specs.MethodHeaders.{store_head, batch_head}
use Rattle.store_write.specs.declared.Room.{Room}
use Rattle.store_write.specs.MethodStoring.{ends_with, leaves, Chosen}

-- 11 or 12, and else the bytes of a knowledge
abbrev pub knowledge_reply : Limits → Knowledge → Reply
knowledge_reply L k = first_fault refuses (result_lines L k) (gives (encode k))

-- an empty part
abbrev pub nowhere : Room
nowhere = record { from = 0; to = 0 }

-- a buffer whose part has other bytes
abbrev pub with_part : List ℕ → ℕ → ℕ → List ℕ → List ℕ
with_part out from to part = take from out ++ (part ++ drop (to - from) (drop from out))

-- ---- around any knowledge

-- of a buffer of so many bytes, the part between `front` bytes and the last `size` bytes, if there may be one; nothing, where these have no room
unfoldable pub room_between : Bool → ℕ → ℕ → ℕ → Room
room_between may room front size =
    elim may [
      | true ↦ elim (leb (front + size) room) [ true ↦ record { from = front; to = room - size } | false ↦ nowhere ]
      | false ↦ nowhere
    ]

-- what is known of that part
pub record Between (may : Bool) (room front size from to : ℕ) : Type 0 where
  pub ordered : from ≤ to
  pub inside : to ≤ room
  pub only : from < to → (may ≡ true) × (front + size ≤ room)
  pub some : may ≡ true → front + size ≤ room → (from ≡ front) × (to + size ≡ room)

-- the answer once the knowledge was answered, and the buffer: what stands around a knowledge of n bytes, or 14; a refusal of the knowledge stays,
-- but for one that is no own fault of it where there may be no part: that is 13
unfoldable pub answer_around : Bool → ℕ → ℕ → Answer → ℕ → Answer
answer_around may front size (Written n) room = ends_with (front + n + size) room
answer_around may front size (Refused n) room =
    elim may [ true ↦ Refused n | false ↦ elim (ltb n 14) [ true ↦ Refused n | false ↦ Refused 13 ] ]

unfoldable pub after_around : ℕ → ℕ → (ℕ → List ℕ) → Answer → List ℕ → List ℕ
after_around front size around (Written n) out = leaves (front + n + size) out (around n)
after_around front size around (Refused n) out = out

-- ---- a store

-- the part for the knowledge: from the end of the header to where the records begin; nothing, where the records are too many, or have no room
unfoldable pub store_room : ℕ → ℕ → ℕ → ℕ → Room
store_room room most count size = room_between (leb count most) room store_knowledge size

pub record RoomFor (room most count size from to : ℕ) : Type 0 where
  pub is : Between (leb count most) room store_knowledge size from to

-- header and records around a knowledge of n bytes
abbrev pub store_around : ℕ → List ℕ → List ℕ → List ℕ → ℕ → List ℕ → ℕ → List ℕ
store_around own s other picks count out n = copied s other (placed out 0 (store_head own n count)) (store_knowledge + n) (take count picks)

abbrev pub store_answer : Answer → ℕ → ℕ → ℕ → ℕ → Answer
store_answer a most count size room = answer_around (leb count most) store_knowledge size a room

abbrev pub store_after : Answer → ℕ → List ℕ → List ℕ → List ℕ → ℕ → ℕ → List ℕ → List ℕ
store_after a own s other picks count size out = after_around store_knowledge size (store_around own s other picks count out) a out

-- a store st whose knowledge was written into its room of a buffer, with an answer, and whose records are chosen
pub record Inside (L : Limits) (st : Store) (own : ℕ) (a : Answer) (most : ℕ) (s other picks : List ℕ) (count size : ℕ)
    (first out : List ℕ) : Type 0 where
  pub id : own ≡ st.own
  pub limit : most ≡ L.records
  pub counted : count ≡ length st.records
  pub chosen : count ≤ most → Chosen s other picks count size st.records
  pub sized : size ≡ length (put_recs st.records [])
  pub from : ℕ
  pub to : ℕ
  pub room : RoomFor (length first) most count size from to
  pub part : List ℕ
  pub ended : Ended (knowledge_reply L st.knowledge) (take (to - from) (drop from first)) part a
  pub is : out ≡ with_part first from to part

-- ---- a batch

-- the part for learned: behind the header and so many bytes of needed, up to where the records begin; nothing, where there is no room
unfoldable pub batch_room : ℕ → ℕ → ℕ → Room
batch_room room needed size = room_between true room (batch_needed + needed) size

pub record RoomBehind (room needed size from to : ℕ) : Type 0 where
  pub is : Between true room (batch_needed + needed) size from to

-- header, needed and records around a knowledge of n bytes
abbrev pub batch_around : ℕ → ℕ → List ℕ → List ℕ → List ℕ → ℕ → List ℕ → ℕ → List ℕ
batch_around first last needed s picks count out n =
    copied s s (placed (placed out 0 (batch_head first last (length needed) n count)) batch_needed needed) (batch_needed + length needed + n)
    (take count picks)

abbrev pub batch_answer : Answer → ℕ → ℕ → ℕ → Answer
batch_answer a needed size room = answer_around true (batch_needed + needed) size a room

abbrev pub batch_after : Answer → ℕ → ℕ → List ℕ → List ℕ → List ℕ → ℕ → ℕ → List ℕ → List ℕ
batch_after a first last needed s picks count size out =
    after_around (batch_needed + length needed) size (batch_around first last needed s picks count out) a out

-- a batch b whose needed knowledge is in other bytes, whose learned knowledge was written into its room, and whose records are chosen
pub record InsideBatch (L : Limits) (b : Batch) (begin end : ℕ) (a : Answer) (needed s picks : List ℕ) (count size : ℕ)
    (first out : List ℕ) : Type 0 where
  pub begins : begin ≡ b.first
  pub stops : end ≡ b.last
  pub given : knowledge_reply L b.needed ≡ gives needed
  pub fewer : length b.records ≤ L.records
  pub chosen : Chosen s s picks count size b.records
  pub from : ℕ
  pub to : ℕ
  pub room : RoomBehind (length first) (length needed) size from to
  pub part : List ℕ
  pub ended : Ended (knowledge_reply L b.learned) (take (to - from) (drop from first)) part a
  pub is : out ≡ with_part first from to part
