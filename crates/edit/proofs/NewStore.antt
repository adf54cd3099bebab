-- The call new. Its reply is 17 for an id of another length, else the store with that id, the empty knowledge and no records, which has 138 bytes:
-- a header, and behind it the knowledge.
use Prim.Native.Nat.{ℕ, ◌+◌, ◌≤◌, ◌<◌}
use mathlib.Core.Path.{◌≡◌, refl, sym, ap, ◌∙◌}
use mathlib.Core.List.{List, []}
use native.Mathlib.Omega.{arith}
use lib.ListN.{length}
use Rattle.codec.specs.Number.{be_at}
use Rattle.codec.specs.Reply.{gives, answer, after}
use Rattle.codec.specs.Answer.{Written, Refused}
use Rattle.codec.specs.declared.Replica.{Replica}
use Rattle.codec.specs.Ids.{replica_of, replica_read}
use Rattle.codec.specs.Part.{placed}
use Rattle.codec.proofs.Writing.{nothing}
use Rattle.codec.proofs.Total.{read_id2}
use Rattle.codec.proofs.Calls.{refused_answer, refused_after, short_answer, short_after, written_answer, written_after}
use Rattle.layout.specs.Knowledge.{encode}
use Rattle.ticks.specs.Meaning.{empty_knowledge}
use Rattle.ticks.proofs.LawfulResults.{empty-length}
use Rattle.replication.specs.Calls.{new_reply}
use Rattle.replication.proofs.Bytes.Sizes.{store_size}
use Rattle.replication.proofs.Refusals.New.{new_17, new_gives}
use Rattle.replication.specs.Formats.{put_recs, Store, encode_store}
use Rattle.replication.specs.OpenStore.{store_knowledge}
use Rattle.store_headers.specs.MethodHeaders.{store_head}
use Rattle.store_headers.proofs.Headers.{store_placed}

no_records_lem : [] ≡ put_recs [] []
unfolding put_recs
no_records_lem = refl

-- the id's words as they are read
own_read : (own : List ℕ) (p : Replica) → length own ≡ 16 → p ≡ replica_read own → replica_of p ≡ be_at own 16 0
unfolding replica_read
own_read own p h e = ap replica_of e ∙ read_id2 own 0 (omega arith)

module _ (own out : List ℕ) where
  abbrev new_store_lem : Store
  new_store_lem = record { own = be_at own 16 0; knowledge = empty_knowledge; records = [] }

  new_given : length own ≡ 16 → new_reply own ≡ gives (encode_store new_store_lem)
  new_given h = (new_gives own (encode_store new_store_lem)).1 (h, refl)

  new_size : length (encode_store new_store_lem) ≡ 138
  new_size = omega (arith, store_size new_store_lem, empty-length)

  pub new_wrong : (length own ≡ 16 → ⊥) → (Refused 17 ≡ answer (new_reply own) (length out)) × (out ≡ after (new_reply own) out)
  new_wrong h =
      let e = (new_17 own 17).1 (refl, h) in
      (refused_answer (new_reply own) out 17 e, refused_after (new_reply own) out 17 e)

  module _ (h : length own ≡ 16) where
    pub new_short : length out < 138 → (Refused 14 ≡ answer (new_reply own) (length out)) × (out ≡ after (new_reply own) out)
    new_short l = (
      short_answer (new_reply own) out (encode_store new_store_lem) (new_given h) (omega (arith, new_size)),
      short_after (new_reply own) out (encode_store new_store_lem) (new_given h) (omega (arith, new_size)),
    )

    pub new_written : (u w : List ℕ) (p : Replica) → 138 ≤ length out → p ≡ replica_read own
        → u ≡ placed out 0 (store_head (replica_of p) 113 0) → w ≡ placed u store_knowledge (encode empty_knowledge)
        → (Written 138 ≡ answer (new_reply own) (length out)) × (w ≡ after (new_reply own) out)
    new_written u w p l a x y = (
      ap Written (sym new_size) ∙ written_answer (new_reply own) out (encode_store new_store_lem) (new_given h) (omega (arith, new_size)),
      written_after (new_reply own) out (encode_store new_store_lem) (new_given h) w (omega (arith, new_size))
          (store_placed out u w w new_store_lem (encode empty_knowledge) [] (replica_of p) 113 0 (own_read own p h a) refl (sym empty-length)
          no_records_lem refl x y (nothing w (store_knowledge + 113)) (omega (arith, new_size))),
    )
