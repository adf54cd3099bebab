-- A store's own knowledge, as a part of the store's bytes: of a valid store it is the part that the length field of its header shows, and
-- it is read as the store's knowledge. Else the call is refused by the store's own number, and the part is empty.
use Prim.Native.Nat.{ℕ}
use mathlib.Core.Path.{◌≡◌, refl, ap, ◌∙◌}
use mathlib.Core.Logic.{◌↔◌}
use mathlib.Core.List.{List, [], ◌∷◌}
use native.Mathlib.Omega.{arith}
use lib.ListN.{take, drop}
use Rattle.codec.specs.Number.{Bytes}
use Rattle.codec.specs.Parsed.{Parsed, accepted, refused, own_fault}
use Rattle.codec.specs.Reply.{first_fault}
use Rattle.codec.proofs.Replies.{fault_none, read_fine, read_fault}
use Rattle.layout.specs.Knowledge.{Limits, any_id, encode}
use Rattle.layout.specs.Permitted.{Permitted}
use Rattle.layout.specs.Parse.{parse}
use Rattle.layout.proofs.Exact.{exact}
use Rattle.replication.specs.Formats.{Store}
use Rattle.replication.specs.OpenStore.{knowledge_length, store_knowledge, open_store}
use Rattle.replication.specs.Queries.{part_bytes, knowledge_part}
use Rattle.replication.specs.Part.{Part}
use Rattle.replication.specs.Part as P
use Rattle.replication.proofs.Bytes.Part.{part_bytes_lem}
use Rattle.replication.proofs.Bytes.Store.{store_read_lem}
use Rattle.replication.proofs.Queries.Winner.{StorePart, NoPartBut, store_part, part_refused}

told : List ℕ → Parsed Store → Part
told s p = first_fault P.Refused (own_fault p ∷ []) (P.OfStore store_knowledge (knowledge_length s))

told_is : (L : Limits) (s : List ℕ) (p : Parsed Store) → open_store L s ≡ p → knowledge_part L s ≡ told s p
unfolding knowledge_part told
told_is L s p e = ap (told s) e

told_none : (s : List ℕ) (n : ℕ) → told s (refused n) ≡ P.Refused n
unfolding told
told_none s n = read_fault Store P.Refused n [] (P.OfStore store_knowledge (knowledge_length s))

told_some : (s : List ℕ) (st : Store) → told s (accepted st) ≡ P.OfStore store_knowledge (knowledge_length s)
unfolding told
told_some s st =
    let part = P.OfStore store_knowledge (knowledge_length s) in
    read_fine P.Refused st [] part ∙ fault_none P.Refused [] part tt

-- the knowledge of a store that opens: the part that is read as it
pub record KnowledgeIs (L : Limits) (s : List ℕ) (st : Store) (p : Part) : Type 0 where
  pub part : StorePart s store_knowledge (knowledge_length s) p
  pub reads : parse (any_id L) (take (knowledge_length s) (drop store_knowledge s)) ≡ accepted st.knowledge

pub knowledge_exact : (L : Limits) (s : List ℕ) (st : Store) → open_store L s ≡ accepted st → KnowledgeIs L s st (knowledge_part L s)
knowledge_exact L s st o =
    let h = (store_read_lem L s st o).0 in
    record {
      part =
          store_part s (knowledge_part L s) store_knowledge (knowledge_length s) (told_is L s (accepted st) o ∙ told_some s st) h.inside;
      reads = h.knowledge;
    }

-- its bytes are those of the knowledge
pub knowledge_bytes : (L : Limits) (s batch : List ℕ) (st : Store) (p : Part) → Permitted L → Bytes s → KnowledgeIs L s st p
    → part_bytes p s batch ≡ encode st.knowledge
knowledge_bytes L s batch st p m y h =
    let own = take (knowledge_length s) (drop store_knowledge s) in
    h.part.part batch ∙ ((exact (any_id L) m own st.knowledge (part_bytes_lem s (knowledge_length s) store_knowledge y)).0 h.reads).0

pub knowledge_store : (L : Limits) (s : List ℕ) (n : ℕ) → open_store L s ≡ refused n → NoPartBut n (knowledge_part L s)
knowledge_store L s n o = part_refused n (knowledge_part L s) (told_is L s (refused n) o ∙ told_none s n)

-- and on no other condition
pub knowledge_refused : (L : Limits) (s : List ℕ) (n : ℕ) → (knowledge_part L s ≡ P.Refused n) ↔ (open_store L s ≡ refused n)
knowledge_refused L s n = (go (open_store L s) refl, λ h. (knowledge_store L s n h).is)
  where
    go : (p : Parsed Store) → open_store L s ≡ p → knowledge_part L s ≡ P.Refused n → open_store L s ≡ refused n
    go (refused m) e h =
        let w = (knowledge_store L s m e).is in
        let q : m ≡ n = cc in
        e ∙ ap refused q
    go (accepted st) e h =
        let w = (knowledge_exact L s st e).part.is in
        absurd (let z : ◌≡◌ {A = ℕ} 0 1 = cc in omega arith)
