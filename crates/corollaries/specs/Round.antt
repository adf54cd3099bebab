-- One round through the centre, after any list of calls. Document 02, paper 12. First each district makes a batch over all ids, which
-- the centre applies; when all of these are applied, the centre makes one over all ids for each district, which that district applies.
-- Batches may be made for any knowledge, the order of the districts is free, and makes of any server and calls of other servers may
-- stand between; in the first half the centre may also edit, delete and apply other batches.
use Rattle.std.specs.Prelude.{ℕ, ◌≤◌, ◌≡◌, ◌⊎◌, true, List, [], ◌∷◌, ◌++◌, length}
use Rattle.codec.specs.Prelude.{some}
use Rattle.layout.specs.Knowledge.{Limits, Rules, All}
use Rattle.ticks.specs.Meaning.{highest, contains}
use Rattle.ticks.specs.Demand2.{SameVersions}
use Rattle.replication.specs.Call.{ReplicaId, Call, edit, delete, make, apply, Given}
use Rattle.replication.specs.Formats.{Store}
use Rattle.replication.specs.Lists.{writes}
use Rattle.replication.specs.Machine.{value}
use Rattle.replication.specs.Promise.{ends, store_after, IsStore}

-- p is one of these
abbrev pub Server : ℕ → List ℕ → Type 0
Server p [] = ⊥
Server p (q ∷ qs) = (p ≡ q) ⊎ Server p qs

-- "no other edit, deletion or apply on these servers": the call is none on p, refused or not
abbrev pub Still : ℕ → Call → Type 0
Still p (edit who item brought room) = who ≡ p → ⊥
Still p (delete who item room) = who ≡ p → ⊥
Still p (make who knowledge first last room) = Unit {0}
Still p (apply who which room) = who ≡ p → ⊥

-- "no call refused": after the list the call writes
abbrev pub Done : Rules → List Call → Call → Type 0
Done R calls c = (bs : List ℕ) × (writes R (ends R calls) c ≡ some bs)

-- one of the calls after `before` is a make by `who` over all ids, which is not refused and writes batch n
pub record Sent (R : Rules) (before calls : List Call) (who n : ℕ) : Type 0 where
  pub earlier : List Call
  pub later : List Call
  pub knowledge : List ℕ
  pub first : List ℕ
  pub last : List ℕ
  pub room : ℕ
  pub is : calls ≡ earlier ++ (make who knowledge first last room ∷ later)
  pub done : Done R (before ++ earlier) (make who knowledge first last room)
  pub number : length (ends R (before ++ earlier)).batches ≡ n
  pub lowest : value 0 first ≡ 0
  pub top : value 0 last ≡ highest

-- one of the calls after `before` is an apply by `taker`, not refused, of a batch that `maker` sent among the calls before it
pub record Delivered (R : Rules) (before calls : List Call) (maker taker : ℕ) : Type 0 where
  pub earlier : List Call
  pub later : List Call
  pub number : ℕ
  pub room : ℕ
  pub is : calls ≡ earlier ++ (apply taker number room ∷ later)
  pub done : Done R (before ++ earlier) (apply taker number room)
  pub sent : Sent R before earlier maker number

pub record Round (R : Rules) (before gather spread : List Call) (centre : ℕ) (districts : List ℕ) : Type 0 where
  -- "each district sends the centre a batch", which is applied; a district changes nothing itself meanwhile
  pub arrives : (d : ℕ) → Server d districts → Delivered R before gather d centre
  pub waits : (d : ℕ) → Server d districts → All (Still d) gather
  -- "when all of these are applied the centre sends each one …, which the district applies", and changes nothing itself
  pub rests : All (Still centre) spread
  pub takes : (d : ℕ) → Server d districts → Delivered R (before ++ gather) spread centre d
  -- that apply is the only change on the district
  pub quiet : (d : ℕ) (s : Server d districts) → All (Still d) (takes d s).earlier × All (Still d) (takes d s).later

-- "containing the same versions and holding the same records": the bytes of two stores
pub record Alike (L : Limits) (s t : List ℕ) : Type 0 where
  pub first : Store
  pub second : Store
  pub first_is : IsStore L s first
  pub second_is : IsStore L t second
  pub versions : SameVersions first.knowledge second.knowledge
  pub records : first.records ≡ second.records

-- every version that the first of two stores contains, the second contains
pub record NothingLost (L : Limits) (s t : List ℕ) : Type 0 where
  pub first : Store
  pub second : Store
  pub first_is : IsStore L s first
  pub second_is : IsStore L t second
  pub versions : (i p v : ℕ) → i ≤ highest → ReplicaId p → contains first.knowledge i p v ≡ true
      → contains second.knowledge i p v ≡ true

abbrev pub after_round : List Call → List Call → List Call → List Call
after_round before gather spread = (before ++ gather) ++ spread

-- "for any number of districts and any state that a list of calls can reach": of any two of these servers
pub record OneRound (R : Rules) : Type 0 where
  pub alike : (before gather spread : List Call) (centre : ℕ) (districts : List ℕ)
      → All Given before → All Given gather → All Given spread → Round R before gather spread centre districts
      → (p q : ℕ) → ReplicaId p → ReplicaId q → Server p (centre ∷ districts) → Server q (centre ∷ districts)
      → Alike R.limits (store_after R (after_round before gather spread) p) (store_after R (after_round before gather spread) q)
  -- what one of them contained before, all contain after
  pub keeps : (before gather spread : List Call) (centre : ℕ) (districts : List ℕ)
      → All Given before → All Given gather → All Given spread → Round R before gather spread centre districts
      → (p q : ℕ) → ReplicaId p → ReplicaId q → Server p (centre ∷ districts) → Server q (centre ∷ districts)
      → NothingLost R.limits (store_after R before p) (store_after R (after_round before gather spread) q)
