-- One round through the centre ends alike. While the districts wait, each batch brings the centre what its district knows, and no tick
-- of the centre falls; so after the first half the centre knows at least what each of them knows. While the centre rests, each batch
-- brings that to a district, which knew no more. So all end with the centre's ticks. Equal ticks contain the same versions, and by demand
-- 3 they mean equal records. Only the machine's ticks are looked at on the way.
use Prim.Native.Nat.{ℕ, max, ◌≤◌}
use mathlib.Core.Path.{◌≡◌, sym, ap, ◌∙◌, subst}
use mathlib.Core.Logic.{inl, inr}
use mathlib.Core.Bool.{true}
use mathlib.Core.List.{List, ◌∷◌, ◌++◌, append_assoc}
use mathlib.Core.Option.{some}
use native.Mathlib.Omega.{arith}
use Rattle.layout.specs.Knowledge.{Limits, Rules, basic, All}
use Rattle.layout.specs.Permitted.{Permitted}
use Rattle.layout.proofs.Exact.{base_permitted}
use Rattle.layout.proofs.Numbers.{all_front}
use Rattle.ticks.specs.Meaning.{highest, known, contains}
use Rattle.ticks.proofs.Algebra.{contains_yes, contains_exact, ticks_of_16, ticks_versions, versions_unique}
use Rattle.replication.specs.Record.{Rec}
use Rattle.replication.specs.Call.{ReplicaId, Call, make, apply, Given}
use Rattle.replication.specs.Formats.{find, Store, encode_store}
use Rattle.replication.specs.Machine.{value}
use Rattle.replication.specs.Promise.{machine, store_after, IsStore}
use Rattle.replication.specs.Runner.{one}
use Rattle.corollaries.specs.Round.{Still, Server, Delivered, Round, Alike, NothingLost, after_round, OneRound}
use Rattle.replication.proofs.Machine.Steps.{taken_by}
use Rattle.replication.proofs.Demand3.{demand3, same_store, store_one}
use Rattle.corollaries.proofs.Round.Moments.{all_behind, all_append, call_first, still_all, grows_all, sent_remembered, taken_in}

-- ---- a batch that is made and applied

module _ (R : Rules) (before calls : List Call) (maker taker : ℕ) (d : Delivered R before calls maker taker) where
  -- the apply, the calls before it and those after it
  abbrev taking : Call
  taking = apply taker d.number d.room

  pub apart : before ++ calls ≡ ((before ++ d.earlier) ++ one taking) ++ d.later
  apart =
      ap (λ (x : List Call). before ++ x) d.is
      ∙ (sym (append_assoc before d.earlier (taking ∷ d.later)) ∙ call_first (before ++ d.earlier) taking d.later)

  -- what holds of all calls holds of those before the apply, of the apply and those after it, and of those before the make
  pub all_earlier : (P : Call → Type 0) → All P calls → All P d.earlier
  all_earlier P h = all_front P d.earlier (taking ∷ d.later) (subst (All P) d.is h)

  pub all_later : (P : Call → Type 0) → All P calls → P taking × All P d.later
  all_later P h = all_behind P d.earlier (taking ∷ d.later) (subst (All P) d.is h)

  pub all_unsent : (P : Call → Type 0) → All P calls → All P d.sent.earlier
  all_unsent P h =
      let s = d.sent in
      all_front P s.earlier (make maker s.knowledge s.first s.last s.room ∷ s.later)
      (subst (All P) s.is (all_earlier P h))

  -- the taker then knows the larger of what it knew and what the maker knew at the make
  pub delivered : Permitted R.limits → All Given before → All Given calls → (i q : ℕ) → i ≤ highest
      → (machine R ((before ++ d.earlier) ++ one taking)).ticks taker i q
      ≡ max ((machine R (before ++ d.earlier)).ticks taker i q) ((machine R (before ++ d.sent.earlier)).ticks maker i q)
  delivered permitted gb gc i q h =
      let s = d.sent in
      taken_in R (before ++ d.earlier) taker d.number d.room
      (taken_by maker (value 0 s.first) (value 0 s.last) (machine R (before ++ s.earlier))) d.done
      (sent_remembered R before d.earlier maker d.number s permitted gb (all_earlier Given gc)) i q
      (omega (arith, s.lowest)) (omega (arith, s.top))

-- a district that waits sends the centre a batch: then the centre knows at least what the district knows
pub gathered : (R : Rules) → Permitted R.limits → (before gather : List Call) (d centre : ℕ) → All Given before → All Given gather
    → Delivered R before gather d centre → All (Still d) gather → (i q : ℕ) → i ≤ highest
    → (machine R (before ++ gather)).ticks d i q ≤ (machine R (before ++ gather)).ticks centre i q
gathered R permitted before gather d centre gb gg x waits i q h =
    let c = apply centre x.number x.room in
    let rest = all_later R before gather d centre x Given gg in
    let ga : All Given ((before ++ x.earlier) ++ one c) =
    all_append Given (before ++ x.earlier) (one c)
    (all_append Given before x.earlier gb (all_earlier R before gather d centre x Given gg)) (rest.0, tt) in
    omega (
      arith,
      -- the district knows what it knew at its make
      ap (λ f. f i q) (still_all R d gather before waits),
      ap (λ f. f i q) (still_all R d x.sent.earlier before (all_unsent R before gather d centre x (Still d) waits)),
      -- the centre took that in, and knows no less at the end
      delivered R before gather d centre x permitted gb gg i q h,
      grows_all R x.later ((before ++ x.earlier) ++ one c) ga rest.1 centre i q,
      ap (λ (l : List Call). (machine R l).ticks centre i q) (apart R before gather d centre x),
    )

-- ---- the round

module _ (R : Rules) (permitted : Permitted R.limits) (before gather spread : List Call) (centre : ℕ) (districts : List ℕ)
    (gb : All Given before) (gg : All Given gather) (gs : All Given spread) (round : Round R before gather spread centre districts) where
  given_half : All Given (before ++ gather)
  given_half = all_append Given before gather gb gg

  given_all : All Given (after_round before gather spread)
  given_all = all_append Given (before ++ gather) spread given_half gs

  -- after the first half the centre knows at least what each district knows
  gathered_all : (d : ℕ) → Server d districts → (i q : ℕ) → i ≤ highest
      → (machine R (before ++ gather)).ticks d i q ≤ (machine R (before ++ gather)).ticks centre i q
  gathered_all d s = gathered R permitted before gather d centre gb gg (round.arrives d s) (round.waits d s)

  -- after the second half each district knows what the centre knew after the first
  spread_out : (d : ℕ) → Server d districts → (i q : ℕ) → i ≤ highest
      → (machine R (after_round before gather spread)).ticks d i q ≡ (machine R (before ++ gather)).ticks centre i q
  spread_out d s i q h =
      let half = before ++ gather in
      let x = round.takes d s in
      let c = apply d x.number x.room in
      let still = round.quiet d s in
      let rests = all_unsent R half spread centre d x (Still centre) round.rests in
      omega (
        arith,
        gathered_all d s i q h,
        -- the district knows what it knew, takes the larger, and knows that at the end
        ap (λ f. f i q) (still_all R d x.earlier half still.0),
        delivered R half spread centre d x permitted given_half gs i q h,
        ap (λ f. f i q) (still_all R d x.later ((half ++ x.earlier) ++ one c) still.1),
        ap (λ (l : List Call). (machine R l).ticks d i q) (apart R half spread centre d x),
        -- the centre's batch has what the centre knew after the first half
        ap (λ f. f i q) (still_all R centre x.sent.earlier half rests),
      )

  -- every server ends with the ticks that the centre had after the first half
  ends_with : (p : ℕ) → Server p (centre ∷ districts) → (i q : ℕ) → i ≤ highest
      → (machine R (after_round before gather spread)).ticks p i q ≡ (machine R (before ++ gather)).ticks centre i q
  ends_with p (inl e) i q h =
      ap (λ (y : ℕ). (machine R (after_round before gather spread)).ticks y i q) e
      ∙ ap (λ f. f i q) (still_all R centre spread (before ++ gather) round.rests)
  ends_with p (inr s) i q h = spread_out p s i q h

  -- and no server knew more before
  began_below : (p : ℕ) → Server p (centre ∷ districts) → (i q : ℕ) → i ≤ highest
      → (machine R before).ticks p i q ≤ (machine R (before ++ gather)).ticks centre i q
  began_below p (inl e) i q h =
      omega (arith, grows_all R gather before gb gg p i q, ap (λ (y : ℕ). (machine R (before ++ gather)).ticks y i q) e)
  began_below p (inr s) i q h =
      omega (arith, gathered_all p s i q h, ap (λ f. f i q) (still_all R p gather before (round.waits p s)))

  module _ (p q : ℕ) (sp : ReplicaId p) (sq : ReplicaId q) (x : Server p (centre ∷ districts)) (y : Server q (centre ∷ districts)) where
    ends_alike : Alike R.limits (store_after R (after_round before gather spread) p) (store_after R (after_round before gather spread) q)
    ends_alike =
        let promise = demand3 R permitted (after_round before gather spread) given_all in
        let a = promise.agrees p sp in
        let b = promise.agrees q sq in
        let ticks : (i r : ℕ) → i ≤ highest → ReplicaId r → known a.store.knowledge i r ≡ known b.store.knowledge i r =
        λ i r h l. a.ticks i r h l ∙ (ends_with p x i r h ∙ (sym (ends_with q y i r h) ∙ sym (b.ticks i r h l))) in
        record {
          first = a.store;
          second = b.store;
          first_is = a.is;
          second_is = b.is;
          versions = ticks_versions a.store.knowledge b.store.knowledge
              (ticks_of_16 a.store.knowledge b.store.knowledge a.is.valid.lawful.ids b.is.valid.lawful.ids ticks);
          records = promise.equal_tables p q a.store b.store sp sq a.is b.is ticks;
        }

    loses_nothing : NothingLost R.limits (store_after R before p) (store_after R (after_round before gather spread) q)
    loses_nothing =
        let a = (demand3 R permitted before gb).agrees p sp in
        let b = (demand3 R permitted (after_round before gather spread) given_all).agrees q sq in
        record {
          first = a.store;
          second = b.store;
          first_is = a.is;
          second_is = b.is;
          versions = λ i r v h l e.
              let w = (contains_exact a.store.knowledge i r v).0 e in
              contains_yes b.store.knowledge i r v w.0
              (omega (arith, w.1, a.ticks i r h l, began_below p x i r h, ends_with q y i r h, b.ticks i r h l));
        }

-- ---- the theorem

pub one_round : (R : Rules) → Permitted R.limits → OneRound R
one_round R permitted = record {
  alike = λ before gather spread centre districts gb gg gs round p q sp sq x y.
      ends_alike R permitted before gather spread centre districts gb gg gs round p q sp sq x y;
  keeps = λ before gather spread centre districts gb gg gs round p q sp sq x y.
      loses_nothing R permitted before gather spread centre districts gb gg gs round p q sp sq x y;
}

-- document 01's limits
pub one_round_basic : OneRound basic
one_round_basic = one_round basic base_permitted

-- ---- what follows from the statement alone, for any round, any two of its servers, and whatever stores their bytes are of

module _ (R : Rules) (W : OneRound R) (permitted : Permitted R.limits) (before gather spread : List Call) (centre : ℕ)
    (districts : List ℕ) (gb : All Given before) (gg : All Given gather) (gs : All Given spread)
    (round : Round R before gather spread centre districts) (p q : ℕ) (sp : ReplicaId p) (sq : ReplicaId q)
    (x : Server p (centre ∷ districts)) (y : Server q (centre ∷ districts)) where
  module _ (a b : Store) (is_a : IsStore R.limits (store_after R (after_round before gather spread) p) a)
      (is_b : IsStore R.limits (store_after R (after_round before gather spread) q) b) where
    told : Alike R.limits (store_after R (after_round before gather spread) p) (store_after R (after_round before gather spread) q)
    told = W.alike before gather spread centre districts gb gg gs round p q sp sq x y

    first_is_lem : told.first ≡ a
    first_is_lem = store_one R.limits (store_after R (after_round before gather spread) p) told.first a permitted told.first_is is_a

    second_is_lem : told.second ≡ b
    second_is_lem = store_one R.limits (store_after R (after_round before gather spread) q) told.second b permitted told.second_is is_b

    -- a version that one of the servers contains, each of them contains
    pub contained_by_all : (i r v : ℕ) → i ≤ highest → ReplicaId r → contains a.knowledge i r v ≡ true
        → contains b.knowledge i r v ≡ true
    contained_by_all i r v h l e =
        ap (λ (s : Store). contains s.knowledge i r v) (sym second_is_lem)
        ∙ (sym (told.versions.both i r v h l) ∙ (ap (λ (s : Store). contains s.knowledge i r v) first_is_lem ∙ e))

    -- a record that one of the servers holds, each of them holds
    pub held_by_all : (i : ℕ) (r : Rec) → find i a.records ≡ some r → find i b.records ≡ some r
    held_by_all i r e =
        ap (λ (s : Store). find i s.records) (sym second_is_lem)
        ∙ (ap (find i) (sym told.records) ∙ (ap (λ (s : Store). find i s.records) first_is_lem ∙ e))

  -- a version that one of the servers contained before the round, each of them contains after it
  pub kept_by_all : (a b : Store) → IsStore R.limits (store_after R before p) a
      → IsStore R.limits (store_after R (after_round before gather spread) q) b
      → (i r v : ℕ) → i ≤ highest → ReplicaId r → contains a.knowledge i r v ≡ true → contains b.knowledge i r v ≡ true
  kept_by_all a b is_a is_b i r v h l e =
      let k = W.keeps before gather spread centre districts gb gg gs round p q sp sq x y in
      let fa : k.first ≡ a = store_one R.limits (store_after R before p) k.first a permitted k.first_is is_a in
      let fb : k.second ≡ b =
      store_one R.limits (store_after R (after_round before gather spread) q) k.second b permitted k.second_is is_b in
      ap (λ (s : Store). contains s.knowledge i r v) (sym fb)
      ∙ k.versions i r v h l (ap (λ (s : Store). contains s.knowledge i r v) fa ∙ e)

-- ---- what is said settles the stores

-- two stores that are alike and have one own id are the same bytes
pub alike_settled : (L : Limits) (s t : List ℕ) (w : Alike L s t) → w.first.own ≡ w.second.own → s ≡ t
alike_settled L s t w e =
    let a = w.first_is.valid in
    let b = w.second_is.valid in
    let k : w.first.knowledge ≡ w.second.knowledge =
    (versions_unique w.first.knowledge w.second.knowledge a.lawful.ids b.lawful.ids a.normal b.normal).0
    w.versions in
    w.first_is.bytes ∙ (ap encode_store (same_store w.first w.second e k w.records) ∙ sym w.second_is.bytes)
