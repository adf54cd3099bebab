-- 15 and 16 for what no value of a store or batch can show: the byte of kind, the exact length, a record of no known kind, and
-- knowledge bytes that are of no knowledge in normal form. Each law holds for any bytes, by the places of the fields as document 01
-- gives them: a store has its knowledge length at 17, its record count at 21 and its knowledge at 25; a batch has its
-- lengths at 49 and 53, its record count at 57 and its needed knowledge at 61. Bytes that open were read
-- there field by field, and the records one behind the other up to the very end.
use Prim.Native.Nat.{ℕ, ◌+◌, ◌^◌, ◌≤◌, ◌<◌}
use mathlib.Core.Path.{◌≡◌, refl, sym, ap, ap₂, ◌∙◌}
use mathlib.Core.Logic.{inl, inr}
use mathlib.Core.List.{List, [], ◌∷◌, ◌++◌}
use native.Mathlib.Omega.{arith}
use lib.ListN.{length, get_or, take, drop, length-append, length-drop, take-append-drop}
use lib.Seq.{take-append_seam}
use Rattle.codec.specs.Number.{Bytes, be_at}
use Rattle.codec.specs.Parsed.{Parsed, accepted, refused}
use Rattle.codec.proofs.Numbers.{be_suc, be_zero, be_take}
use Rattle.layout.specs.Knowledge.{field, put_fields, Limits, any_id, Knowledge, encode, Lawful}
use Rattle.layout.specs.Permitted.{Permitted}
use Rattle.layout.specs.Parse.{parse}
use Rattle.layout.proofs.Chain.{Stands, stands_whole, fields_over}
use Rattle.layout.proofs.Runs.{ReadAs, run_reads}
use Rattle.layout.proofs.Exact.{exact}
use Rattle.ticks.specs.Meaning.{Normal}
use Rattle.ticks.proofs.Operations.{normal_test}
use Rattle.replication.specs.Formats.{put_recs, Store, store_fields, encode_store}
use Rattle.replication.specs.BatchFormat.{Batch, batch_fields, encode_batch}
use Rattle.replication.specs.OpenStore.{open_store}
use Rattle.replication.specs.OpenBatch.{open_batch}
use Rattle.replication.proofs.Bytes.Part.{part_over, part_reads}
use Rattle.replication.proofs.Bytes.Record.{KnownKind}
use Rattle.replication.proofs.Bytes.Store.{store_read_lem, valid_store_lem}
use Rattle.replication.proofs.Bytes.Batch.{batch_read, valid_batch_lem}
use Rattle.replication.proofs.Contents.Valid.{store_number, batch_number_lem}
use Rattle.replication.proofs.Broken.Records.{behind_all, recs_length, recs_kinds, behind_more}

-- ---- reading

one_byte : (s : List ℕ) (at : ℕ) → be_at s 1 at ≡ get_or s at 0
one_byte s at = omega (arith, be_suc s 0 at, be_zero s (at + 1))

front_reads : (s t : List ℕ) (n at : ℕ) → at + n ≤ length s → be_at (s ++ t) n at ≡ be_at s n at
front_reads s t n at l = sym (be_take (s ++ t) n at (length s) l) ∙ ap (λ (u : List ℕ). be_at u n at) (take-append_seam s t)

no_kind : {C : Type 0} (x : ℕ) → KnownKind x → (x ≡ 1 → ⊥) → (x ≡ 2 → ⊥) → C
no_kind x (inl e) a b = absurd (a e)
no_kind x (inr e) a b = absurd (b e)

-- knowledge bytes that are of a lawful knowledge in normal form
pub record OfNormalForm (L : Limits) (s : List ℕ) : Type 0 where
  pub knowledge : Knowledge
  pub bytes : s ≡ encode knowledge
  pub lawful : Lawful (any_id L) knowledge
  pub normal : Normal knowledge

-- ---- stores

module _ (L : Limits) (s : List ℕ) where
  store_refused : ((st : Store) → open_store L s ≡ accepted st → ⊥) → open_store L s ≡ refused 15
  store_refused n = go (open_store L s) refl
    where
      go : (o : Parsed Store) → open_store L s ≡ o → open_store L s ≡ refused 15
      go (refused k) e = e ∙ ap refused (store_number L s k e)
      go (accepted st) e = absurd (n st e)

  store_sized : (st : Store) → open_store L s ≡ accepted st → length s ≡ behind_all s (25 + be_at s 4 17) (be_at s 4 21)
  store_sized st e = recs_length s (be_at s 4 21) (25 + be_at s 4 17) st.records (store_read_lem L s st e).0.records

  -- the byte of kind is not 3
  pub store_kind : (get_or s 0 0 ≡ 3 → ⊥) → open_store L s ≡ refused 15
  store_kind n = store_refused (λ st e. n (sym (one_byte s 0) ∙ (store_read_lem L s st e).0.kind))

  -- "exact length": the length is not that of the header, the knowledge and the records
  pub store_length : (length s ≡ behind_all s (25 + be_at s 4 17) (be_at s 4 21) → ⊥) → open_store L s ≡ refused 15
  store_length n = store_refused (λ st e. n (store_sized st e))

  -- a record of no known kind
  pub store_record_kind : (j : ℕ) → j < be_at s 4 21 → (get_or s (behind_all s (25 + be_at s 4 17) j) 0 ≡ 1 → ⊥) →
      (get_or s (behind_all s (25 + be_at s 4 17) j) 0 ≡ 2 → ⊥) → open_store L s ≡ refused 15
  store_record_kind j l a b =
      store_refused (λ st e.
      let x = behind_all s (25 + be_at s 4 17) j in
      no_kind (be_at s 1 x) (recs_kinds s (be_at s 4 21) (25 + be_at s 4 17) st.records (store_read_lem L s st e).0.records j l)
      (λ h. a (sym (one_byte s x) ∙ h)) (λ h. b (sym (one_byte s x) ∙ h)))

  -- the knowledge bytes are of no lawful knowledge in normal form, or the check of knowledge refuses them
  module _ (permitted : Permitted L) (kb : List ℕ) (bytes : Bytes kb) (part : take (be_at s 4 17) (drop 25 s) ≡ kb) where
    pub store_knowledge_lem : (OfNormalForm L kb → ⊥) → open_store L s ≡ refused 15
    store_knowledge_lem n =
        store_refused (λ st e.
        let o = store_read_lem L s st e in
        let x = (exact (any_id L) permitted kb st.knowledge bytes).0 (sym (ap (parse (any_id L)) part) ∙ o.0.knowledge) in
        n (record { knowledge = st.knowledge; bytes = x.0; lawful = x.1; normal = (normal_test st.knowledge).0 ((valid_store_lem L st).0 o.1).normal }))

  pub store_knowledge_refused : (n : ℕ) → parse (any_id L) (take (be_at s 4 17) (drop 25 s)) ≡ refused n → open_store L s ≡ refused 15
  store_knowledge_refused n h =
      store_refused (λ st e.
      let k = (store_read_lem L s st e).0.knowledge in
      let z : ◌≡◌ {A = ℕ} 0 1 = cc in
      omega arith)

-- bytes that open, with any bytes behind them, or cut anywhere
pub store_bytes_behind : (L : Limits) (s t : List ℕ) (st : Store) → open_store L s ≡ accepted st → 1 ≤ length t →
    open_store L (s ++ t) ≡ refused 15
store_bytes_behind L s t st e l =
    let o = (store_read_lem L s st e).0 in
    let size : be_at (s ++ t) 4 17 ≡ be_at s 4 17 = front_reads s t 4 17 (omega (arith, o.inside)) in
    let count : be_at (s ++ t) 4 21 ≡ be_at s 4 21 = front_reads s t 4 21 (omega (arith, o.inside)) in
    let same = ap₂ (λ (x y : ℕ). behind_all (s ++ t) (25 + x) y) size count
    ∙ behind_more s t (be_at s 4 21) (25 + be_at s 4 17) st.records o.records (front_reads s t) in
    store_length L (s ++ t) (λ h. omega (arith, store_sized L s st e, h, same, length-append s t, l))

pub store_bytes_missing : (L : Limits) (s : List ℕ) (n : ℕ) (st : Store) → open_store L s ≡ accepted st → n < length s →
    open_store L (take n s) ≡ refused 15
store_bytes_missing L s n st e l =
    store_refused L (take n s)
    (λ u f.
    let g : open_store L s ≡ refused 15 =
    ap (open_store L) (sym (take-append-drop n s)) ∙ store_bytes_behind L (take n s) (drop n s) u f (omega (arith, length-drop n s, l)) in
    let z : ◌≡◌ {A = ℕ} 0 1 = cc in
    omega arith)

-- a store by its parts: the header, knowledge bytes, and what follows them
abbrev pub store_parts : ℕ → ℕ → List ℕ → List ℕ → List ℕ
store_parts own count kb t = put_fields (field 1 3 ∷ field 16 own ∷ field 4 (length kb) ∷ field 4 count ∷ []) (kb ++ t)

pub store_of : (st : Store) →
    encode_store st ≡ store_parts st.own (length st.records) (encode st.knowledge) (put_recs st.records [])
unfolding encode_store store_fields
store_of st = refl

pub store_parts_knowledge : (L : Limits) (own count : ℕ) (kb t : List ℕ) → Permitted L → own < 256 ^ 16 → count < 256 ^ 4 →
    length kb < 256 ^ 4 → Bytes kb →
    (OfNormalForm L kb → ⊥) → open_store L (store_parts own count kb t) ≡ refused 15
store_parts_knowledge L own count kb t permitted a b c bytes n =
    let fs = field 1 3 ∷ field 16 own ∷ field 4 (length kb) ∷ field 4 count ∷ [] in
    let s = store_parts own count kb t in
    let w : ReadAs s 0 0 fs =
    run_reads s 0 0 fs (kb ++ t) (stands_whole s) (record { below = omega arith }, (record { below = a }, (record { below = c }, (record { below = b }, tt)))) in
    let at : Stands s 25 (kb ++ t) = fields_over s 0 fs (kb ++ t) (stands_whole s) in
    store_knowledge_lem L s permitted kb bytes (ap (λ (m : ℕ). take m (drop 25 s)) w.1.1.0 ∙ part_reads s 25 kb t at) n

-- ---- batches

module _ (L : Limits) (s : List ℕ) where
  batch_refused : ((b : Batch) → open_batch L s ≡ accepted b → ⊥) → open_batch L s ≡ refused 16
  batch_refused n = go (open_batch L s) refl
    where
      go : (o : Parsed Batch) → open_batch L s ≡ o → open_batch L s ≡ refused 16
      go (refused k) e = e ∙ ap refused (batch_number_lem L s k e)
      go (accepted b) e = absurd (n b e)

  batch_sized : (b : Batch) → open_batch L s ≡ accepted b → length s ≡ behind_all s (61 + be_at s 4 49 + be_at s 4 53) (be_at s 4 57)
  batch_sized b e = recs_length s (be_at s 4 57) (61 + be_at s 4 49 + be_at s 4 53) b.records (batch_read L s b e).0.records

  -- the byte of kind is not 4
  pub batch_kind : (get_or s 0 0 ≡ 4 → ⊥) → open_batch L s ≡ refused 16
  batch_kind n = batch_refused (λ b e. n (sym (one_byte s 0) ∙ (batch_read L s b e).0.kind))

  -- "exact length"
  pub batch-length : (length s ≡ behind_all s (61 + be_at s 4 49 + be_at s 4 53) (be_at s 4 57) → ⊥) → open_batch L s ≡ refused 16
  batch-length n = batch_refused (λ b e. n (batch_sized b e))

  -- a record of no known kind
  pub batch_record_kind : (j : ℕ) → j < be_at s 4 57 → (get_or s (behind_all s (61 + be_at s 4 49 + be_at s 4 53) j) 0 ≡ 1 → ⊥) →
      (get_or s (behind_all s (61 + be_at s 4 49 + be_at s 4 53) j) 0 ≡ 2 → ⊥) → open_batch L s ≡ refused 16
  batch_record_kind j l a c =
      batch_refused (λ b e.
      let x = behind_all s (61 + be_at s 4 49 + be_at s 4 53) j in
      no_kind (be_at s 1 x) (recs_kinds s (be_at s 4 57) (61 + be_at s 4 49 + be_at s 4 53) b.records (batch_read L s b e).0.records j l)
      (λ h. a (sym (one_byte s x) ∙ h)) (λ h. c (sym (one_byte s x) ∙ h)))

  -- the bytes of needed, or of learned, are of no lawful knowledge in normal form, or the check of knowledge refuses them
  module _ (permitted : Permitted L) (kb : List ℕ) (bytes : Bytes kb) where
    pub batch_needed_lem : take (be_at s 4 49) (drop 61 s) ≡ kb → (OfNormalForm L kb → ⊥) → open_batch L s ≡ refused 16
    batch_needed_lem part n =
        batch_refused (λ b e.
        let o = batch_read L s b e in
        let x = (exact (any_id L) permitted kb b.needed bytes).0 (sym (ap (parse (any_id L)) part) ∙ o.0.needed) in
        n (record { knowledge = b.needed; bytes = x.0; lawful = x.1; normal = (normal_test b.needed).0 ((valid_batch_lem L b).0 o.1).needed }))

    pub batch_learned_lem : take (be_at s 4 53) (drop (61 + be_at s 4 49) s) ≡ kb → (OfNormalForm L kb → ⊥) → open_batch L s ≡ refused 16
    batch_learned_lem part n =
        batch_refused (λ b e.
        let o = batch_read L s b e in
        let x = (exact (any_id L) permitted kb b.learned bytes).0 (sym (ap (parse (any_id L)) part) ∙ o.0.learned) in
        n (record { knowledge = b.learned; bytes = x.0; lawful = x.1; normal = (normal_test b.learned).0 ((valid_batch_lem L b).0 o.1).learned }))

  pub batch_needed_refused : (n : ℕ) → parse (any_id L) (take (be_at s 4 49) (drop 61 s)) ≡ refused n → open_batch L s ≡ refused 16
  batch_needed_refused n h =
      batch_refused (λ b e.
      let k = (batch_read L s b e).0.needed in
      let z : ◌≡◌ {A = ℕ} 0 1 = cc in
      omega arith)

  pub batch_learned_refused : (n : ℕ) → parse (any_id L) (take (be_at s 4 53) (drop (61 + be_at s 4 49) s)) ≡ refused n →
      open_batch L s ≡ refused 16
  batch_learned_refused n h =
      batch_refused (λ b e.
      let k = (batch_read L s b e).0.learned in
      let z : ◌≡◌ {A = ℕ} 0 1 = cc in
      omega arith)

-- bytes that open, with any bytes behind them, or cut anywhere
pub batch_bytes_behind : (L : Limits) (s t : List ℕ) (b : Batch) → open_batch L s ≡ accepted b → 1 ≤ length t →
    open_batch L (s ++ t) ≡ refused 16
batch_bytes_behind L s t b e l =
    let o = (batch_read L s b e).0 in
    let needed : be_at (s ++ t) 4 49 ≡ be_at s 4 49 = front_reads s t 4 49 (omega (arith, o.inside)) in
    let learned : be_at (s ++ t) 4 53 ≡ be_at s 4 53 = front_reads s t 4 53 (omega (arith, o.inside)) in
    let count : be_at (s ++ t) 4 57 ≡ be_at s 4 57 = front_reads s t 4 57 (omega (arith, o.inside)) in
    let same = ap₂ (λ (x y : ℕ). behind_all (s ++ t) (61 + x + y) (be_at (s ++ t) 4 57)) needed learned
    ∙ (ap (behind_all (s ++ t) (61 + be_at s 4 49 + be_at s 4 53)) count
    ∙ behind_more s t (be_at s 4 57) (61 + be_at s 4 49 + be_at s 4 53) b.records o.records (front_reads s t)) in
    batch-length L (s ++ t) (λ h. omega (arith, batch_sized L s b e, h, same, length-append s t, l))

pub batch_bytes_missing : (L : Limits) (s : List ℕ) (n : ℕ) (b : Batch) → open_batch L s ≡ accepted b → n < length s →
    open_batch L (take n s) ≡ refused 16
batch_bytes_missing L s n b e l =
    batch_refused L (take n s)
    (λ u f.
    let g : open_batch L s ≡ refused 16 =
    ap (open_batch L) (sym (take-append-drop n s)) ∙ batch_bytes_behind L (take n s) (drop n s) u f (omega (arith, length-drop n s, l)) in
    let z : ◌≡◌ {A = ℕ} 0 1 = cc in
    omega arith)

-- a batch by its parts: the header, the bytes of both knowledges, and what follows them
abbrev pub batch_parts : ℕ → ℕ → ℕ → List ℕ → List ℕ → List ℕ → List ℕ
batch_parts first last count nb lb t =
    put_fields (field 1 4 ∷ field 24 first ∷ field 24 last ∷ field 4 (length nb) ∷ field 4 (length lb) ∷ field 4 count ∷ []) (nb ++ (lb ++ t))

pub batch_of_lem : (b : Batch) →
    encode_batch b ≡ batch_parts b.first b.last (length b.records) (encode b.needed) (encode b.learned) (put_recs b.records [])
unfolding encode_batch batch_fields
batch_of_lem b = refl

module _ (first last count : ℕ) (nb lb t : List ℕ) (first_fits : first < 256 ^ 24) (last_fits : last < 256 ^ 24) (count_fits : count < 256 ^ 4)
    (needed_fits : length nb < 256 ^ 4) (learned_fits : length lb < 256 ^ 4) where
  parts_read : (take (be_at (batch_parts first last count nb lb t) 4 49) (drop 61 (batch_parts first last count nb lb t)) ≡ nb) ×
      (take (be_at (batch_parts first last count nb lb t) 4 53) (drop (61 + be_at (batch_parts first last count nb lb t) 4 49) (batch_parts first last count nb lb t)) ≡ lb)
  parts_read =
      let fs = field 1 4 ∷ field 24 first ∷ field 24 last ∷ field 4 (length nb) ∷ field 4 (length lb) ∷ field 4 count ∷ [] in
      let s = batch_parts first last count nb lb t in
      let w : ReadAs s 0 0 fs =
      run_reads s 0 0 fs (nb ++ (lb ++ t)) (stands_whole s) (
        record { below = omega arith },
        (record { below = first_fits }, (record { below = last_fits }, (record { below = needed_fits }, (record { below = learned_fits }, (record { below = count_fits }, tt))))),
      ) in
      let at : Stands s 61 (nb ++ (lb ++ t)) = fields_over s 0 fs (nb ++ (lb ++ t)) (stands_whole s) in
      let behind : Stands s (61 + length nb) (lb ++ t) = part_over s 61 nb (lb ++ t) at in
      let n : be_at s 4 49 ≡ length nb = w.1.1.1.0 in
      let m : be_at s 4 53 ≡ length lb = w.1.1.1.1.0 in (
        ap (λ (x : ℕ). take x (drop 61 s)) n ∙ part_reads s 61 nb (lb ++ t) at,
        ap₂ (λ (x y : ℕ). take x (drop (61 + y) s)) m n ∙ part_reads s (61 + length nb) lb t behind,
      )

  pub batch_parts_needed : (L : Limits) → Permitted L → Bytes nb → (OfNormalForm L nb → ⊥) →
      open_batch L (batch_parts first last count nb lb t) ≡ refused 16
  batch_parts_needed L permitted bytes n = batch_needed_lem L (batch_parts first last count nb lb t) permitted nb bytes parts_read.0 n

  pub batch_parts_learned : (L : Limits) → Permitted L → Bytes lb → (OfNormalForm L lb → ⊥) →
      open_batch L (batch_parts first last count nb lb t) ≡ refused 16
  batch_parts_learned L permitted bytes n = batch_learned_lem L (batch_parts first last count nb lb t) permitted lb bytes parts_read.1 n
