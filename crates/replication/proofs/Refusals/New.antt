-- When new refuses, and what it gives otherwise: its table has the one line 17, which asks for an id of 16 bytes.
use Prim.Native.Nat.{ℕ}
use mathlib.Core.Path.{◌≡◌, sym, ap}
use mathlib.Core.Logic.{inl, inr, ◌↔◌}
use mathlib.Core.List.{List, [], ◌∷◌}
use lib.ListN.{length}
use Rattle.codec.specs.Number.{be_at}
use Rattle.codec.specs.Reply.{gives, refuses, first_fault}
use Rattle.ticks.specs.Meaning.{empty_knowledge}
use Rattle.ticks.specs.Calls.{wrong_length}
use Rattle.ticks.proofs.ForCalls.{id_is}
use Rattle.replication.specs.Formats.{new_store, encode_store}
use Rattle.replication.specs.Calls.{new_reply}
use Rattle.replication.proofs.Refusals.Table.{rule, FirstOf, Told, told-nil, told-cons, refused_first, given_none}
use Rattle.replication.proofs.Refusals.Tests.{means_length}
use Rattle.codec.specs.Parsed.{line}

module _ (own : List ℕ) where
  -- "New: own id, empty knowledge, no records"
  abbrev fresh : List ℕ
  fresh = encode_store (record { own = be_at own 16 0; knowledge = empty_knowledge; records = [] })

  new_table : new_reply own ≡ first_fault refuses (line 17 (wrong_length 16 own) ∷ []) (gives fresh)
  unfolding new_reply new_store
  new_table = ap (λ (p : ℕ). first_fault refuses (line 17 (wrong_length 16 own) ∷ []) (gives (encode_store (new_store p)))) (id_is 16 own)

  new_told : Told (line 17 (wrong_length 16 own) ∷ []) (rule 17 (length own ≡ 16 → ⊥) (length own ≡ 16) ∷ [])
  new_told = told-cons (line 17 (wrong_length 16 own)) [] (rule 17 (length own ≡ 16 → ⊥) (length own ≡ 16)) [] (means_length 16 own) told-nil

  pub new_17 : (n : ℕ) → (new_reply own ≡ refuses n) ↔ ((n ≡ 17) × (length own ≡ 16 → ⊥))
  new_17 n =
      let law = refused_first (new_reply own) (line 17 (wrong_length 16 own) ∷ []) (rule 17 (length own ≡ 16 → ⊥) (length own ≡ 16) ∷ []) fresh new_table new_told n in
      ((λ h. one (law.0 h)), λ h. law.1 (inl (h.1, sym h.0)))
    where
      one : FirstOf n (rule 17 (length own ≡ 16 → ⊥) (length own ≡ 16) ∷ []) → (n ≡ 17) × (length own ≡ 16 → ⊥)
      one (inl h) = (sym h.1, h.0)
      one (inr h) = absurd h.1

  pub new_gives : (bs : List ℕ) → (new_reply own ≡ gives bs) ↔ ((length own ≡ 16) × (bs ≡ encode_store (record { own = be_at own 16 0; knowledge = empty_knowledge; records = [] })))
  new_gives bs =
      let law = given_none (new_reply own) (line 17 (wrong_length 16 own) ∷ []) (rule 17 (length own ≡ 16 → ⊥) (length own ≡ 16) ∷ []) fresh new_table new_told bs in
      ((λ h. let w = law.0 h in (w.0.0, w.1)), λ h. law.1 ((h.0, tt), h.1))
