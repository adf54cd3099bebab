-- A store's bytes are its header, its knowledge and its records, and a batch's are its header, two knowledges and its records; written one after
-- the other, each at the place behind the one before, they are the bytes as a whole. A header itself is written field by field.
use Prim.Native.Nat.{ℕ, ◌+◌, ◌≤◌, ◌<◌}
use mathlib.Core.Path.{◌≡◌, sym, ap, ◌∙◌}
use mathlib.Core.List.{List, [], ◌∷◌, ◌++◌, append-nil}
use native.Mathlib.Omega.{arith}
use lib.ListN.{length}
use Rattle.codec.specs.MethodWritten.{Wrote}
use Rattle.codec.specs.Part.{placed, bytes}
use Rattle.codec.proofs.Writing.{placed_out}
use Rattle.codec.proofs.Written.{wrote_then, wrote_to, wrote_all, wrote_bytes, wrote_number}
use Rattle.layout.specs.Knowledge.{field, put_fields, encode}
use Rattle.layout.proofs.Runs.{run-append, run_length, run_puts}
use Rattle.replication.specs.Formats.{put_recs, Store, store_fields, encode_store}
use Rattle.replication.specs.BatchFormat.{Batch, batch_fields, encode_batch}
use Rattle.replication.specs.OpenStore.{store_knowledge}
use Rattle.replication.specs.OpenBatch.{batch_needed}
use Rattle.store_headers.specs.MethodHeaders.{store_head, batch_head, put_both}

-- ---- the length of a header

pub store_head_length : (own n c : ℕ) → length (store_head own n c) ≡ store_knowledge
unfolding store_head
store_head_length own n c =
    let fs = field 1 3 ∷ field 16 own ∷ field 4 n ∷ field 4 c ∷ [] in
    ap length (sym (run_puts fs [])) ∙ run_length fs []

pub batch_head_length : (f l n m c : ℕ) → length (batch_head f l n m c) ≡ batch_needed
unfolding batch_head
batch_head_length f l n m c =
    let fs = field 1 4 ∷ field 24 f ∷ field 24 l ∷ field 4 n ∷ field 4 m ∷ field 4 c ∷ [] in
    ap length (sym (run_puts fs [])) ∙ run_length fs []

-- where it has no room, nothing is written
pub store_head_short : (d : List ℕ) (own n c : ℕ) → length d < store_knowledge → d ≡ placed d 0 (store_head own n c)
store_head_short d own n c h = placed_out d 0 (store_head own n c) (omega (arith, store_head_length own n c))

pub batch_head_short : (d : List ℕ) (f l n m c : ℕ) → length d < batch_needed → d ≡ placed d 0 (batch_head f l n m c)
batch_head_short d f l n m c h = placed_out d 0 (batch_head f l n m c) (omega (arith, batch_head_length f l n m c))

-- ---- a header, field by field

pub both_wrote : (d e u : List ℕ) (at p n x y : ℕ) → e ≡ placed d at (bytes n x) → u ≡ placed e (at + n) (bytes n y) → at + n + n ≡ p
    → Wrote d at (put_both n x y) u p
both_wrote d e u at p n x y a b h = wrote_to h (wrote_then (wrote_number d e at n x a) (wrote_number e u (at + n) n y b))

pub store_head_wrote : (d a b u : List ℕ) (own n c : ℕ) → store_knowledge ≤ length d → a ≡ placed d 0 (bytes 1 3)
    → b ≡ placed a 1 (bytes 16 own) → Wrote b 17 (put_both 4 n c) u store_knowledge → u ≡ placed d 0 (store_head own n c)
unfolding store_head
store_head_wrote d a b u own n c room x y z =
    wrote_all (wrote_then (wrote_number d a 0 1 3 x) (wrote_then (wrote_number a b 1 16 own y) z)) room

pub batch_head_wrote : (d a b e u : List ℕ) (f l n m c : ℕ) → batch_needed ≤ length d → a ≡ placed d 0 (bytes 1 4)
    → Wrote a 1 (put_both 24 f l) b 49 → Wrote b 49 (put_both 4 n m) e 57 → u ≡ placed e 57 (bytes 4 c)
    → u ≡ placed d 0 (batch_head f l n m c)
unfolding batch_head
batch_head_wrote d a b e u f l n m c room x y z w =
    wrote_all (wrote_then (wrote_number d a 0 1 4 x) (wrote_then y (wrote_then z (wrote_number e u 57 4 c w)))) room

-- ---- the parts of a store and of a batch, one after the other

store_parts_lem : (st : Store) →
    encode_store st
    ≡ store_head st.own (length (encode st.knowledge)) (length st.records) ++ (encode st.knowledge ++ put_recs st.records [])
unfolding encode_store store_fields store_head
store_parts_lem st =
    let rest = encode st.knowledge ++ put_recs st.records [] in
    run-append (store_fields st) rest ∙ ap (λ (h : List ℕ). h ++ rest) (run_puts (store_fields st) [])

pub store_placed : (out u v w : List ℕ) (st : Store) (k rs : List ℕ) (own n c : ℕ)
    → own ≡ st.own → k ≡ encode st.knowledge → n ≡ length k → rs ≡ put_recs st.records [] → c ≡ length st.records
    → u ≡ placed out 0 (store_head own n c) → v ≡ placed u store_knowledge k → w ≡ placed v (store_knowledge + n) rs
    → length (encode_store st) ≤ length out → w ≡ placed out 0 (encode_store st)
store_placed out u v w st k rs own n c a b f g h x y z room =
    let head = store_head own n c in
    let parts = store_parts_lem st in
    let nil = append-nil rs in
    let whole : head ++ (k ++ (rs ++ [])) ≡ encode_store st = cc in
    let wrote : Wrote out 0 (λ t. head ++ (k ++ (rs ++ t))) w (store_knowledge + n + length rs) =
    wrote_then (wrote_to (omega (arith, store_head_length own n c)) (wrote_bytes out u 0 head x))
    (wrote_then (wrote_to (omega (arith, f)) (wrote_bytes u v store_knowledge k y)) (wrote_bytes v w (store_knowledge + n) rs z)) in
    let size : length (head ++ (k ++ (rs ++ []))) ≡ length (encode_store st) = ap length whole in
    wrote_all wrote (omega (arith, wrote.size [], size, room)) ∙ ap (placed out 0) whole

batch_parts_lem : (b : Batch) →
    encode_batch b
    ≡ batch_head b.first b.last (length (encode b.needed)) (length (encode b.learned)) (length b.records)
    ++ (encode b.needed ++ (encode b.learned ++ put_recs b.records []))
unfolding encode_batch batch_fields batch_head
batch_parts_lem b =
    let rest = encode b.needed ++ (encode b.learned ++ put_recs b.records []) in
    run-append (batch_fields b) rest ∙ ap (λ (h : List ℕ). h ++ rest) (run_puts (batch_fields b) [])

pub batch_placed : (out t u v w : List ℕ) (b : Batch) (needed learned rs : List ℕ) (f l n m c : ℕ)
    → f ≡ b.first → l ≡ b.last → needed ≡ encode b.needed → n ≡ length needed → learned ≡ encode b.learned → m ≡ length learned
    → rs ≡ put_recs b.records [] → c ≡ length b.records
    → t ≡ placed out 0 (batch_head f l n m c) → u ≡ placed t batch_needed needed → v ≡ placed u (batch_needed + n) learned
    → w ≡ placed v (batch_needed + n + m) rs
    → length (encode_batch b) ≤ length out → w ≡ placed out 0 (encode_batch b)
batch_placed out t u v w b needed learned rs f l n m c a₁ a₂ a₃ a₄ a₅ a₆ a₇ a₈ x₁ x₂ x₃ x₄ room =
    let head = batch_head f l n m c in
    let parts = batch_parts_lem b in
    let nil = append-nil rs in
    let whole : head ++ (needed ++ (learned ++ (rs ++ []))) ≡ encode_batch b = cc in
    let wrote : Wrote out 0 (λ x. head ++ (needed ++ (learned ++ (rs ++ x)))) w (batch_needed + n + m + length rs) =
    wrote_then (wrote_to (omega (arith, batch_head_length f l n m c)) (wrote_bytes out t 0 head x₁))
    (wrote_then (wrote_to (omega (arith, a₄)) (wrote_bytes t u batch_needed needed x₂))
    (wrote_then (wrote_to (omega (arith, a₆)) (wrote_bytes u v (batch_needed + n) learned x₃))
    (wrote_bytes v w (batch_needed + n + m) rs x₄))) in
    let size : length (head ++ (needed ++ (learned ++ (rs ++ [])))) ≡ length (encode_batch b) = ap length whole in
    wrote_all wrote (omega (arith, wrote.size [], size, room)) ∙ ap (placed out 0) whole
