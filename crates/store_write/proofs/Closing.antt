-- How a call that writes a store ends once the knowledge part has written the knowledge into its room, or has refused: header and records stand
-- around it, and with more records than the limit there is no room.
use Prim.Native.Nat.{ℕ, ◌+◌, ◌-◌, ◌≤◌}
use mathlib.Core.Path.{◌≡◌, refl, sym, ap, subst, ◌∙◌}
use mathlib.Core.List.{List, []}
use native.Mathlib.Omega.{arith}
use lib.Dec.{leb}
use lib.ListN.{length, take, drop}
use borrow.Author.Tests.{leb-true, leb-false}
use Rattle.codec.specs.Number.{Bytes}
use Rattle.codec.specs.Total.{clamp}
use Rattle.codec.specs.Part.{placed, part}
use Rattle.std.specs.Prelude.{Result}
use Rattle.codec.specs.Answer.{Answer, answer_of}
use Rattle.codec.specs.declared.Refusal.{Refusal}
use Rattle.codec.specs.Refusal.{number}
use Rattle.codec.proofs.Ended.{under_refusals}
use Rattle.codec.proofs.Writing.{placed-length, placed_swap}
use Rattle.codec.proofs.Total.{clamp_within}
use Rattle.layout.specs.Knowledge.{Limits, encode}
use Rattle.layout.specs.Permitted.{largest_records}
use Rattle.replication.specs.Record.{Rec}
use Rattle.replication.specs.Formats.{put_recs, Store, encode_store}
use Rattle.replication.specs.Operate.{join}
use Rattle.replication.specs.MethodTable.{table_at}
use Rattle.replication.specs.OpenStore.{store_knowledge}
use Rattle.replication.specs.MethodReplies.{store_reply}
use Rattle.replication.proofs.Opening.Calls.{store_result, store_over, store_fits}
use Rattle.replication.proofs.Bytes.Sizes.{recs_size, store_size}
use Rattle.records_join.specs.MethodJoin.{size_from, join_at, fronted}
use Rattle.records_join.proofs.Copies.{joined_count, joined_size}
use Rattle.codec.specs.MethodEnded.{Ended, answer_under}
use Rattle.store_headers.specs.MethodHeaders.{store_head}
use Rattle.store_headers.proofs.Headers.{store_placed, store_head_length}
use Rattle.store_write.specs.MethodStoring.{Chosen}
use Rattle.store_write.specs.declared.Room.{Room}
use Rattle.store_write.specs.MethodClosing.{knowledge_reply, with_part, store_room, store_around, store_answer, store_after, RoomFor, Inside}
use Rattle.store_write.proofs.Storing.{joined_chosen}
use Rattle.store_write.proofs.Around.{between, ends_around}

-- ---- what is known once the knowledge is written into its room, and two tables of records are joined

module _ (L : Limits) (st : Store) (own : ℕ) (mine : own ≡ st.own) (n : ℕ) (limit : clamp n largest_records ≡ L.records) (s : List ℕ) (a : ℕ)
    (other : List ℕ) (b : ℕ) (bytes : Bytes s) (others : Bytes other) (joins : join (table_at s a) (table_at other b) ≡ st.records) where
  module _ (d picks : List ℕ) (count size : ℕ) (counts : count ≡ length (join_at s a other b)) (sizes : size ≡ size_from s other (join_at s a other b))
      (picked : picks ≡ fronted d (join_at s a other b)) (most : largest_records ≤ length d) where
    pub joined_inside : (first : List ℕ) (from to : ℕ) → RoomFor (length first) (clamp n largest_records) count size from to
        → (part : List ℕ) (r : Answer) → Ended (knowledge_reply L st.knowledge) (take (to - from) (drop from first)) part r
        → Inside L st own r (clamp n largest_records) s other picks count size first (with_part first from to part)
    joined_inside first from to room part r e = record {
      id = mine;
      limit = limit;
      counted = counts ∙ joined_count s a other b ∙ ap length joins;
      chosen = λ h.
          subst (Chosen s other picks count size) joins
          (joined_chosen s a other b d picks count size bytes others counts sizes picked
          (omega (arith, h, most, (clamp_within n largest_records (omega arith)).1)));
      sized = sizes ∙ joined_size s a other b ∙ ap (λ (rs : List Rec). length (put_recs rs [])) joins;
      from = from;
      to = to;
      room = room;
      part = part;
      ended = e;
      is = refl;
    }

-- ---- a store around its knowledge

pub store_room_lem : {room most count size : ℕ} (p : Room) → p ≡ store_room room most count size → RoomFor room most count size p.from p.to
unfolding store_room
store_room_lem {room} {most} {count} {size} p e = record { is = between (leb count most) room store_knowledge size p e }

-- header and records around the bytes of the knowledge are the store
store_written : (st : Store) (own : ℕ) (s other picks : List ℕ) (count size : ℕ) (first out : List ℕ) → own ≡ st.own
    → Chosen s other picks count size st.records → out ≡ placed first store_knowledge (encode st.knowledge)
    → length (encode_store st) ≤ length first
    → store_around own s other picks count out (length (encode st.knowledge)) ≡ placed first 0 (encode_store st)
store_written st own s other picks count size first out mine chosen there fits =
    let k = encode st.knowledge in
    let n = length k in
    let head = store_head own n count in
    let rs = put_recs st.records [] in
    let v = placed out 0 head in
    let swapped : v ≡ placed (placed first 0 head) store_knowledge k =
    ap (λ (x : List ℕ). placed x 0 head) there
    ∙ sym (placed_swap first 0 store_knowledge head k (omega (arith, store_head_length own n count))) in
    let lv : length v ≡ length first = placed-length out 0 head ∙ ap length there ∙ placed-length first store_knowledge k in
    chosen.copies v (store_knowledge + n) (omega (arith, lv, fits, store_size st, recs_size st.records, chosen.sized))
    ∙ store_placed first (placed first 0 head) v (placed v (store_knowledge + n) rs) st k rs own n count mine refl refl refl chosen.counted
    refl swapped refl fits

-- around a knowledge in its room that is the store's reply
pub close_store : (L : Limits) (st : Store) (first : List ℕ) {own : ℕ} {a : Answer} {most : ℕ} {s other picks : List ℕ} {count size : ℕ}
    {out : List ℕ} → Inside L st own a most s other picks count size first out → {r : Answer} {u : List ℕ}
    → (r ≡ store_answer a most count size (length out)) × (u ≡ store_after a own s other picks count size out)
    → Ended (store_reply L st) first u r
close_store L st first {own} {a} {most} {s} {other} {picks} {count} {size} {out} i {r} {u} h =
    ends_around L st.knowledge (leb count most) store_knowledge size (store_reply L st) (encode_store st)
    (store_around own s other picks count out) first out a (store_result L st)
    (λ bs e m. store_over L st bs e (omega (arith, i.counted, i.limit, leb-false count most m)))
    (λ bs e m. store_fits L st bs e (omega (arith, i.counted, i.limit, leb-true count most m)))
    (omega (arith, store_size st, recs_size st.records, i.sized))
    (λ m there fits. store_written st own s other picks count size first out i.id (i.chosen (leb-true count most m)) there fits)
    i.from i.to i.room.is i.part i.ended i.is r u h

-- the same where its errors are refusals
pub close_store_refused : (L : Limits) (st : Store) (first : List ℕ) (a r : Result ℕ Refusal) {own most : ℕ} {s other picks : List ℕ}
    {count size : ℕ} {out : List ℕ} → Inside L st own (answer_of a) most s other picks count size first out → {u : List ℕ}
    → (answer_under number r ≡ store_answer (answer_under number a) most count size (length out))
    × (u ≡ store_after (answer_under number a) own s other picks count size out) → Ended (store_reply L st) first u (answer_of r)
close_store_refused L st first a r {own} {most} {s} {other} {picks} {count} {size} {out} i {u} h =
    close_store L st first i (
      sym (under_refusals r) ∙ h.0 ∙ ap (λ x. store_answer x most count size (length out)) (under_refusals a),
      h.1 ∙ ap (λ x. store_after x own s other picks count size out) (under_refusals a),
    )
