-- The addresses of two joined tables. They are found by the comparisons of the join, so that the records at them are the joined records; at
-- each of them stands a whole record; and they are found in steps, each of which takes the next record of one table or of both.
use Prim.Native.Nat.{ℕ, ◌+◌, ◌≤◌, ◌<◌}
use mathlib.Core.Path.{◌≡◌, refl, sym, ap, ap₂, subst, ◌∙◌}
use mathlib.Core.Bool.{Bool, true, false}
use mathlib.Core.List.{List, [], ◌∷◌}
use native.Mathlib.Omega.{arith}
use lib.ListN.{length}
use borrow.Author.Tests.{lt-ltb, le-ltb}
use Rattle.layout.specs.Knowledge.{All}
use Rattle.ticks.proofs.Lists.{less, same, more, order}
use Rattle.replication.specs.Record.{Rec}
use Rattle.replication.specs.Reading.{behind, rec_at, whole}
use Rattle.replication.specs.Operate.{wins, winner_of, join}
use Rattle.replication.specs.Queries.{places}
use Rattle.replication.specs.MethodTable.{recs_of, table_at}
use Rattle.replication.proofs.Tables.Join.{join_none, join-nil, join_left, join_right, join_same}
use Rattle.replication.proofs.Tables.Places.{places_step, places_end, places_whole}
use Rattle.replication.proofs.Tables.Walked.{recs_nil, recs_cons}
use Rattle.replication.proofs.Bytes.Record.{whole_back}
use Rattle.records_join.specs.MethodJoin.{at_address, recs_from, addresses, winner_from, join_on, join_places, join_at}
use Rattle.records_join.proofs.Addresses.{at_first, at_second, recs_none, recs_more, addresses_none, addresses_more}

-- ---- clauses

module _ (s t : List ℕ) where
  module _ (a b : ℕ) where
    pub winner_theirs : wins (rec_at s a) (rec_at t b) ≡ true → winner_from s a t b ≡ length s + b
    unfolding winner_from
    winner_theirs e = rw (e, winner_from)

    pub winner_mine : wins (rec_at s a) (rec_at t b) ≡ false → winner_from s a t b ≡ a
    unfolding winner_from
    winner_mine e = rw (e, winner_from)

    -- the winner is one of the two
    winner_one : (P : ℕ → Type 0) → P a → P (length s + b) → P (winner_from s a t b)
    winner_one P p q = go (wins (rec_at s a) (rec_at t b)) refl
      where
        go : (w : Bool) → wins (rec_at s a) (rec_at t b) ≡ w → P (winner_from s a t b)
        go true e = subst P (sym (winner_theirs e)) q
        go false e = subst P (sym (winner_mine e)) p

  -- with what joins the later places as a variable, and then for the join itself
  module _ (a : ℕ) (us : List ℕ) (rest : List ℕ → List ℕ) where
    on_none : join_on s t a us rest [] ≡ a ∷ us
    unfolding join_on
    on_none = refl

    module _ (b : ℕ) (vs : List ℕ) where
      on_left : (rec_at s a).item < (rec_at t b).item → join_on s t a us rest (b ∷ vs) ≡ a ∷ rest (b ∷ vs)
      unfolding join_on
      on_left h = rw (lt-ltb (rec_at s a).item (rec_at t b).item h, join_on)

      on_right : (rec_at t b).item < (rec_at s a).item → join_on s t a us rest (b ∷ vs) ≡ (length s + b) ∷ join_on s t a us rest vs
      unfolding join_on
      on_right h =
          let l : (rec_at t b).item ≤ (rec_at s a).item = omega arith in
          rw (le-ltb (rec_at s a).item (rec_at t b).item l, lt-ltb (rec_at t b).item (rec_at s a).item h, join_on)

      on_same : (rec_at s a).item ≡ (rec_at t b).item → join_on s t a us rest (b ∷ vs) ≡ winner_from s a t b ∷ rest vs
      unfolding join_on
      on_same h =
          let l : (rec_at t b).item ≤ (rec_at s a).item = omega arith in
          let k : (rec_at s a).item ≤ (rec_at t b).item = omega arith in
          rw (le-ltb (rec_at s a).item (rec_at t b).item l, le-ltb (rec_at t b).item (rec_at s a).item k, join_on)

  pub joined_none : (vs : List ℕ) → join_places s t [] vs ≡ addresses s vs
  unfolding join_places
  joined_none vs = refl

  pub joined-nil : (us : List ℕ) → join_places s t us [] ≡ us
  unfolding join_places
  joined-nil [] = addresses_none s
  joined-nil (a ∷ us) = on_none a us (join_places s t us)

  module _ (a : ℕ) (us : List ℕ) (b : ℕ) (vs : List ℕ) where
    pub joined_left : (rec_at s a).item < (rec_at t b).item → join_places s t (a ∷ us) (b ∷ vs) ≡ a ∷ join_places s t us (b ∷ vs)
    unfolding join_places
    joined_left h = on_left a us (join_places s t us) b vs h

    pub joined_right : (rec_at t b).item < (rec_at s a).item → join_places s t (a ∷ us) (b ∷ vs) ≡ (length s + b) ∷ join_places s t (a ∷ us) vs
    unfolding join_places
    joined_right h = on_right a us (join_places s t us) b vs h

    pub joined_same : (rec_at s a).item ≡ (rec_at t b).item → join_places s t (a ∷ us) (b ∷ vs) ≡ winner_from s a t b ∷ join_places s t us vs
    unfolding join_places
    joined_same h = on_same a us (join_places s t us) b vs h

-- ---- the records at the addresses

module _ (s t : List ℕ) where
  pub recs_first : (us : List ℕ) → All (λ x. x < length s) us → recs_from s t us ≡ recs_of s us
  recs_first [] h = recs_none s t ∙ sym (recs_nil s)
  recs_first (a ∷ us) h =
      recs_more s t a us
      ∙ (ap₂ {C = List Rec} (λ (r : Rec) (rs : List Rec). r ∷ rs) (at_first rec_at s t a h.0) (recs_first us h.1)
      ∙ sym (recs_cons s a us))

  recs_second : (vs : List ℕ) → recs_from s t (addresses s vs) ≡ recs_of t vs
  recs_second [] = ap (recs_from s t) (addresses_none s) ∙ (recs_none s t ∙ sym (recs_nil t))
  recs_second (b ∷ vs) =
      ap (recs_from s t) (addresses_more s b vs)
      ∙ (recs_more s t (length s + b) (addresses s vs)
      ∙ (ap₂ {C = List Rec} (λ (r : Rec) (rs : List Rec). r ∷ rs) (at_second rec_at s t b) (recs_second vs) ∙ sym (recs_cons t b vs)))

  -- the record at the winner's address is the winner
  rec_winner : (a b : ℕ) → a < length s → at_address rec_at s t (winner_from s a t b) ≡ winner_of (rec_at s a) (rec_at t b)
  unfolding winner_of
  rec_winner a b h = go (wins (rec_at s a) (rec_at t b)) refl
    where
      go : (w : Bool) → wins (rec_at s a) (rec_at t b) ≡ w → at_address rec_at s t (winner_from s a t b) ≡ winner_of (rec_at s a) (rec_at t b)
      go true e = ap (at_address rec_at s t) (winner_theirs s t a b e) ∙ (at_second rec_at s t b ∙ rw (e, winner_of))
      go false e = ap (at_address rec_at s t) (winner_mine s t a b e) ∙ (at_first rec_at s t a h ∙ rw (e, winner_of))

  step : (x : ℕ) (xs ys : List ℕ) (r : Rec) (rs : List Rec) → ys ≡ x ∷ xs → at_address rec_at s t x ≡ r → recs_from s t xs ≡ rs
      → recs_from s t ys ≡ r ∷ rs
  step x xs ys r rs e f g =
      ap (recs_from s t) e ∙ (recs_more s t x xs ∙ ap₂ {C = List Rec} (λ (q : Rec) (qs : List Rec). q ∷ qs) f g)

  from_join : (a : ℕ) (us : List ℕ) → a < length s → All (λ x. x < length s) us
      → ((vs : List ℕ) → recs_from s t (join_places s t us vs) ≡ join (recs_of s us) (recs_of t vs))
      → (vs : List ℕ) → recs_from s t (join_places s t (a ∷ us) vs) ≡ join (rec_at s a ∷ recs_of s us) (recs_of t vs)
  from_join a us h k rest [] =
      ap (recs_from s t) (joined-nil s t (a ∷ us))
      ∙ (recs_first (a ∷ us) (h, k)
      ∙ (recs_cons s a us ∙ sym (ap (join (rec_at s a ∷ recs_of s us)) (recs_nil t) ∙ join-nil (rec_at s a ∷ recs_of s us))))
  from_join a us h k rest (b ∷ vs) =
      let x = rec_at s a in
      let y = rec_at t b in
      let xs = recs_of s us in
      let ys = recs_of t vs in
      elim (order x.item y.item) [
        | less l ↦
            step a (join_places s t us (b ∷ vs)) _ x (join xs (y ∷ ys)) (joined_left s t a us b vs l) (at_first rec_at s t a h)
            (rest (b ∷ vs) ∙ ap (join xs) (recs_cons t b vs))
            ∙ sym (ap (join (x ∷ xs)) (recs_cons t b vs) ∙ join_left x xs y ys l)
        | same l ↦
            step (winner_from s a t b) (join_places s t us vs) _ (winner_of x y) (join xs ys) (joined_same s t a us b vs l)
            (rec_winner a b h) (rest vs)
            ∙ sym (ap (join (x ∷ xs)) (recs_cons t b vs) ∙ join_same x xs y ys l)
        | more l ↦
            step (length s + b) (join_places s t (a ∷ us) vs) _ y (join (x ∷ xs) ys) (joined_right s t a us b vs l) (at_second rec_at s t b)
            (from_join a us h k rest vs)
            ∙ sym (ap (join (x ∷ xs)) (recs_cons t b vs) ∙ join_right x xs y ys l)
      ]

  -- the records at the addresses are the joined tables
  pub joined_recs : (us vs : List ℕ) → All (λ x. x < length s) us → recs_from s t (join_places s t us vs) ≡ join (recs_of s us) (recs_of t vs)
  joined_recs [] vs h =
      ap (recs_from s t) (joined_none s t vs) ∙ (recs_second vs
      ∙ sym (ap (λ (rs : List Rec). join rs (recs_of t vs)) (recs_nil s) ∙ join_none (recs_of t vs)))
  joined_recs (a ∷ us) vs h =
      from_join a us h.0 h.1 (λ ws. joined_recs us ws h.1) vs
      ∙ sym (ap (λ (rs : List Rec). join rs (recs_of t vs)) (recs_cons s a us))

  -- ---- what holds of the places of both tables holds of the addresses

  all_second : (P : ℕ → Type 0) (vs : List ℕ) → All (λ b. P (length s + b)) vs → All P (addresses s vs)
  unfolding addresses
  all_second P [] h = tt
  all_second P (b ∷ vs) h = (h.0, all_second P vs h.1)

  from_all : (P : ℕ → Type 0) (a : ℕ) (us : List ℕ) → P a → All P us
      → ((vs : List ℕ) → All (λ b. P (length s + b)) vs → All P (join_places s t us vs))
      → (vs : List ℕ) → All (λ b. P (length s + b)) vs → All P (join_places s t (a ∷ us) vs)
  from_all P a us p ps rest [] q = subst (All P) (sym (joined-nil s t (a ∷ us))) (p, ps)
  from_all P a us p ps rest (b ∷ vs) q =
      elim (order (rec_at s a).item (rec_at t b).item) [
        | less l ↦ subst (All P) (sym (joined_left s t a us b vs l)) (p, rest (b ∷ vs) q)
        | same l ↦ subst (All P) (sym (joined_same s t a us b vs l)) (winner_one s t a b P p q.0, rest vs q.1)
        | more l ↦ subst (All P) (sym (joined_right s t a us b vs l)) (q.0, from_all P a us p ps rest vs q.1)
      ]

  pub joined_all : (P : ℕ → Type 0) (us vs : List ℕ) → All P us → All (λ b. P (length s + b)) vs → All P (join_places s t us vs)
  joined_all P [] vs p q = subst (All P) (sym (joined_none s t vs)) (all_second P vs q)
  joined_all P (a ∷ us) vs p q = from_all P a us p.0 p.1 (λ ws r. joined_all P us ws p.1 r) vs q

-- ---- the walker's tables

pub map-all : (P Q : ℕ → Type 0) → ((x : ℕ) → P x → Q x) → (xs : List ℕ) → All P xs → All Q xs
map-all P Q f [] h = tt
map-all P Q f (x ∷ xs) h = (f x h.0, map-all P Q f xs h.1)

pub whole_inside : (s : List ℕ) (x : ℕ) → whole s x ≡ true → x < length s
whole_inside s x e = let w = whole_back s x e in omega (arith, w.later, w.inside)

module _ (s : List ℕ) (a : ℕ) (t : List ℕ) (b : ℕ) where
  at_is : join_at s a t b ≡ join_places s t (places s a) (places t b)
  unfolding join_at
  at_is = refl

  pub joined_table : recs_from s t (join_at s a t b) ≡ join (table_at s a) (table_at t b)
  unfolding table_at
  joined_table =
      ap (recs_from s t) at_is
      ∙ joined_recs s t (places s a) (places t b) (map-all (λ x. whole s x ≡ true) (λ x. x < length s) (whole_inside s) (places s a)
      (places_whole s a))

  -- at each address stands a whole record
  pub joined_whole : All (λ x. at_address whole s t x ≡ true) (join_at s a t b)
  joined_whole =
      subst (All (λ x. at_address whole s t x ≡ true)) (sym at_is)
      (joined_all s t (λ x. at_address whole s t x ≡ true) (places s a) (places t b)
      (map-all (λ x. whole s x ≡ true) (λ x. at_address whole s t x ≡ true) (λ x e. at_first whole s t x (whole_inside s x e) ∙ e)
      (places s a) (places_whole s a))
      (map-all (λ x. whole t x ≡ true) (λ x. at_address whole s t (length s + x) ≡ true) (λ x e. at_second whole s t x ∙ e) (places t b)
      (places_whole t b)))

  -- ---- steps

  two : (us vs : List ℕ) → places s a ≡ us → places t b ≡ vs → join_at s a t b ≡ join_places s t us vs
  two us vs e f = at_is ∙ ap₂ {C = List ℕ} (join_places s t) e f

module _ (s : List ℕ) (a : ℕ) (t : List ℕ) (b : ℕ) where
  next : (c d x : ℕ) (us vs zs : List ℕ) → zs ≡ x ∷ join_places s t us vs → places s c ≡ us → places t d ≡ vs → zs ≡ x ∷ join_at s c t d
  next c d x us vs zs e f g = e ∙ ap (λ (l : List ℕ). x ∷ l) (sym (two s c t d us vs f g))

  pub step_end : whole s a ≡ false → whole t b ≡ false → join_at s a t b ≡ []
  step_end u v =
      two s a t b [] [] (places_end s a u) (places_end t b v) ∙ (joined_none s t [] ∙ addresses_none s)

  pub step_first : whole s a ≡ true → whole t b ≡ false → join_at s a t b ≡ a ∷ join_at s (behind s a) t b
  step_first u v =
      two s a t b _ [] (places_step s a u) (places_end t b v)
      ∙ next (behind s a) b a (places s (behind s a)) [] _
      (joined-nil s t (a ∷ places s (behind s a)) ∙ ap (λ (l : List ℕ). a ∷ l) (sym (joined-nil s t (places s (behind s a)))))
      refl (places_end t b v)

  pub step_second : whole s a ≡ false → whole t b ≡ true → join_at s a t b ≡ (length s + b) ∷ join_at s a t (behind t b)
  step_second u v =
      two s a t b [] _ (places_end s a u) (places_step t b v)
      ∙ next a (behind t b) (length s + b) [] (places t (behind t b)) _
      (joined_none s t (b ∷ places t (behind t b))
      ∙ (addresses_more s b (places t (behind t b)) ∙ ap (λ (l : List ℕ). (length s + b) ∷ l)
      (sym (joined_none s t (places t (behind t b))))))
      (places_end s a u) refl

  module _ (u : whole s a ≡ true) (v : whole t b ≡ true) where
    both : join_at s a t b ≡ join_places s t (a ∷ places s (behind s a)) (b ∷ places t (behind t b))
    both = two s a t b _ _ (places_step s a u) (places_step t b v)

    pub step_left : (rec_at s a).item < (rec_at t b).item → join_at s a t b ≡ a ∷ join_at s (behind s a) t b
    step_left h =
        both
        ∙ next (behind s a) b a (places s (behind s a)) (b ∷ places t (behind t b)) _
        (joined_left s t a (places s (behind s a)) b (places t (behind t b)) h) refl (places_step t b v)

    pub step_right : (rec_at t b).item < (rec_at s a).item → join_at s a t b ≡ (length s + b) ∷ join_at s a t (behind t b)
    step_right h =
        both
        ∙ next a (behind t b) (length s + b) (a ∷ places s (behind s a)) (places t (behind t b)) _
        (joined_right s t a (places s (behind s a)) b (places t (behind t b)) h) (places_step s a u) refl

    pub step_same : (rec_at s a).item ≡ (rec_at t b).item → join_at s a t b ≡ winner_from s a t b ∷ join_at s (behind s a) t (behind t b)
    step_same h =
        both
        ∙ next (behind s a) (behind t b) (winner_from s a t b) (places s (behind s a)) (places t (behind t b)) _
        (joined_same s t a (places s (behind s a)) b (places t (behind t b)) h) refl refl
