-- How a call that writes a batch ends once the knowledge part has written learned into its room, or has refused: needed is there already, and the
-- records are no more than the limit, so a refusal is learned's own, or 14 where the whole batch has no room.
use Prim.Native.Nat.{ℕ, ◌+◌, ◌≤◌}
use mathlib.Core.Path.{◌≡◌, refl, sym, ap, ◌∙◌}
use mathlib.Core.Bool.{true}
use mathlib.Core.List.{List, [], ◌∷◌}
use native.Mathlib.Omega.{arith}
use lib.ListN.{length, take}
use borrow.Author.Tests.{le-leb}
use Rattle.codec.specs.Part.{placed, part}
use Rattle.std.specs.Prelude.{Result}
use Rattle.codec.specs.Answer.{Answer, answer_of}
use Rattle.codec.specs.declared.Refusal.{Refusal}
use Rattle.codec.specs.Refusal.{number}
use Rattle.codec.proofs.Ended.{under_refusals}
use Rattle.codec.proofs.Writing.{placed-length, placed_swap}
use Rattle.codec.proofs.Replies.{fault_gives}
use Rattle.layout.specs.Knowledge.{Limits, encode}
use Rattle.ticks.specs.Calls.{result_lines}
use Rattle.replication.specs.Formats.{put_recs}
use Rattle.replication.specs.BatchFormat.{Batch, encode_batch}
use Rattle.replication.specs.OpenBatch.{batch_needed}
use Rattle.replication.specs.MethodReplies.{batch_reply}
use Rattle.replication.proofs.Opening.Calls.{batch_learned_result, batch_fits}
use Rattle.replication.proofs.Bytes.Sizes.{recs_size, batch_size}
use Rattle.records_join.specs.MethodJoin.{copied}
use Rattle.codec.specs.MethodEnded.{Ended, answer_under}
use Rattle.store_headers.specs.MethodHeaders.{batch_head}
use Rattle.store_headers.proofs.Headers.{batch_placed, batch_head_length}
use Rattle.store_write.specs.MethodStoring.{Chosen}
use Rattle.store_write.specs.declared.Room.{Room}
use Rattle.store_write.specs.MethodClosing.{batch_room, batch_around, batch_answer, batch_after, RoomBehind, InsideBatch}
use Rattle.store_write.proofs.Around.{between, ends_around}

-- ---- a batch around its learned knowledge

part_whole : (s : List ℕ) → part s 0 (length s) ≡ s
unfolding part
part_whole s = rw (le-leb (0 + length s) (length s) (omega arith), part) (take_whole s)
  where
    take_whole : (xs : List ℕ) → take (length xs) xs ≡ xs
    take_whole [] = refl
    take_whole (x ∷ xs) = ap (λ (r : List ℕ). x ∷ r) (take_whole xs)

-- the parts, one behind the other, as the code writes them
pub batch_around_lem : (out u v w s picks needed : List ℕ) (head : List ℕ) (n count : ℕ)
    → u ≡ placed out 0 head → v ≡ placed u batch_needed (part needed 0 (length needed))
    → w ≡ copied s s v (batch_needed + length needed + n) (take count picks)
    → w ≡ copied s s (placed (placed out 0 head) batch_needed needed) (batch_needed + length needed + n) (take count picks)
batch_around_lem out u v w s picks needed head n count a b c =
    c
    ∙ ap (λ (x : List ℕ). copied s s x (batch_needed + length needed + n) (take count picks))
    (b ∙ ap (placed u batch_needed) (part_whole needed) ∙ ap (λ (x : List ℕ). placed x batch_needed needed) a)

pub batch_room_lem : {room needed size : ℕ} (p : Room) → p ≡ batch_room room needed size → RoomBehind room needed size p.from p.to
unfolding batch_room
batch_room_lem {room} {needed} {size} p e = record { is = between true room (batch_needed + needed) size p e }

-- header, needed and records around the bytes of learned are the batch
batch_written : (b : Batch) (begin end : ℕ) (needed s picks : List ℕ) (count size : ℕ) (first out : List ℕ) → begin ≡ b.first → end ≡ b.last
    → encode b.needed ≡ needed → Chosen s s picks count size b.records
    → out ≡ placed first (batch_needed + length needed) (encode b.learned) → length (encode_batch b) ≤ length first
    → batch_around begin end needed s picks count out (length (encode b.learned)) ≡ placed first 0 (encode_batch b)
batch_written b begin end needed s picks count size first out begins stops given chosen there fits =
    let k = encode b.learned in
    let m = length needed in
    let n = length k in
    let head = batch_head begin end m n count in
    let rs = put_recs b.records [] in
    let t = placed first 0 head in
    let v = placed (placed out 0 head) batch_needed needed in
    let swapped : v ≡ placed (placed t batch_needed needed) (batch_needed + m) k =
    ap (λ (x : List ℕ). placed (placed x 0 head) batch_needed needed) there
    ∙ ap (λ (x : List ℕ). placed x batch_needed needed)
    (sym (placed_swap first 0 (batch_needed + m) head k (omega (arith, batch_head_length begin end m n count))))
    ∙ sym (placed_swap t batch_needed (batch_needed + m) needed k (omega arith)) in
    let lv : length v ≡ length first =
    placed-length (placed out 0 head) batch_needed needed ∙ placed-length out 0 head ∙ ap length there ∙ placed-length first (batch_needed + m) k in
    chosen.copies v (batch_needed + m + n)
    (omega (arith, lv, fits, batch_size b, recs_size b.records, chosen.sized, ap length given))
    ∙ batch_placed first t (placed t batch_needed needed) v (placed v (batch_needed + m + n) rs) b needed k rs begin end m n count begins stops
    (sym given) refl refl refl refl chosen.counted refl refl swapped refl fits

-- around a learned knowledge in its room that is the batch's reply
pub close_batch : (L : Limits) (b : Batch) (first : List ℕ) {begin end : ℕ} {a : Answer} {needed s picks : List ℕ} {count size : ℕ}
    {out : List ℕ} → InsideBatch L b begin end a needed s picks count size first out → {r : Answer} {u : List ℕ}
    → (r ≡ batch_answer a (length needed) size (length out)) × (u ≡ batch_after a begin end needed s picks count size out)
    → Ended (batch_reply L b) first u r
close_batch L b first {begin} {end} {a} {needed} {s} {picks} {count} {size} {out} i {r} {u} h =
    let needed_is = (fault_gives (result_lines L b.needed) (encode b.needed) needed i.given).1 in
    ends_around L b.learned true (batch_needed + length needed) size (batch_reply L b) (encode_batch b)
    (batch_around begin end needed s picks count out) first out a (batch_learned_result L b needed i.given)
    (λ bs e m. let z : ◌≡◌ {A = ℕ} 0 1 = cc in absurd (omega arith))
    (λ bs e m. batch_fits L b needed i.given bs e i.fewer)
    (omega (arith, batch_size b, recs_size b.records, i.chosen.sized, ap length needed_is))
    (λ m there fits. batch_written b begin end needed s picks count size first out i.begins i.stops needed_is i.chosen there fits)
    i.from i.to i.room.is i.part i.ended i.is r u h

-- the same where its errors are refusals
pub close_batch_refused : (L : Limits) (b : Batch) (first : List ℕ) (a r : Result ℕ Refusal) {begin end : ℕ} {needed s picks : List ℕ}
    {count size : ℕ} {out : List ℕ} → InsideBatch L b begin end (answer_of a) needed s picks count size first out → {u : List ℕ}
    → (answer_under number r ≡ batch_answer (answer_under number a) (length needed) size (length out))
    × (u ≡ batch_after (answer_under number a) begin end needed s picks count size out) → Ended (batch_reply L b) first u (answer_of r)
close_batch_refused L b first a r {begin} {end} {needed} {s} {picks} {count} {size} {out} i {u} h =
    close_batch L b first i (
      sym (under_refusals r) ∙ h.0 ∙ ap (λ x. batch_answer x (length needed) size (length out)) (under_refusals a),
      h.1 ∙ ap (λ x. batch_after x begin end needed s picks count size out) (under_refusals a),
    )
