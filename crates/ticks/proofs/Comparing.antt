-- Which of two knowledges is ahead. Each way the first lacking place is found, or there is none; and there is none exactly where the one
-- knows at least as much as the other (`side`). So the four orders are the four cases, and the bytes are those of the places. "Behind"
-- carries over because "at least" does: were the first to know all that the third knows, it would know all that the second does. What is
-- said settles the order and the bytes (`order_settled`, `lowest_settled`, `reported_settled`), and a lowest place is the first of all
-- where a tick is smaller (`lowest_first`).
use Prim.Native.Nat.{ℕ, ◌+◌, ◌≤◌, ◌<◌, ◌^◌}
use mathlib.Core.Path.{◌≡◌, refl, sym, ap, ap₂, ◌∙◌, subst}
use mathlib.Core.Logic.{◌⊎◌, inl, inr, ◌↔◌}
use mathlib.Core.List.{List, [], ◌∷◌}
use native.Mathlib.Omega.{arith}
use lib.ListN.{length}
use Rattle.codec.specs.Number.{put}
use Rattle.codec.specs.Answer.{Answer}
use Rattle.codec.specs.Answer.{Written, Refused}
use Rattle.codec.specs.Parsed.{Parsed, accepted, refused, own_fault, read_or}
use Rattle.codec.specs.Reply.{Reply, gives, refuses, first_fault}
use Rattle.codec.proofs.Numbers.{put-length}
use Rattle.codec.proofs.Replies.{fault_none, read_fault, read_fine}
use Rattle.layout.specs.Knowledge.{Rules, basic, Knowledge, Lawful}
use Rattle.layout.specs.Permitted.{Permitted}
use Rattle.layout.specs.Parse.{parse}
use Rattle.layout.proofs.Exact.{base_permitted}
use Rattle.ticks.specs.Meaning.{highest, known}
use Rattle.ticks.specs.Operations.{Lack, nowhere, here, lacking, is_nowhere, covers}
use Rattle.ticks.specs.Calls.{read_as}
use Rattle.ticks.specs.Compare.{order_of, order, put_place, put_lack, compared, compare_reply, order_value}
use Rattle.ticks.specs.Compare.{Knows, Ordered, Lowest, Reported, CompareSays}
use Rattle.ticks.proofs.Lists.{less, same, more, order as trichotomy}
use Rattle.ticks.proofs.Meaning.{known_id}
use Rattle.ticks.proofs.Replies.{read_lawful}
use Rattle.ticks.proofs.Search.{Covers, covers_exact, lacking_first}

-- ---- what the search each way says

module _ (R : Rules) (a b : Knowledge) (l : Lawful R b) where
  covers_knows : Covers a b 0 highest → Knows a b
  covers_knows c = record { known = λ i p h k small. c.known i p h k }

  data Side : Lack → Type 0 where
    none : Knows a b → Side nowhere
    some : (i p : ℕ) → Lowest a b i p → (Knows a b → ⊥) → Side (here i p)

  side_of : (x : Lack) → lacking a b 0 highest ≡ x → Side x
  unfolding covers is_nowhere
  side_of nowhere e = none (covers_knows ((covers_exact a b 0 highest).0 (ap is_nowhere e)))
  side_of (here i p) e =
      let f = lacking_first a b 0 highest i p e in
      let small : p < 256 ^ 16 = known_id R b l i p (omega (arith, f.lacks)) in
      some i p
      (record {
        item = f.below;
        replica = small;
        lacks = f.lacks;
        items = λ j q h. f.items j q (omega arith) h;
        replicas = f.replicas;
      })
      (λ k. omega (arith, f.lacks, k.known i p (omega arith) f.below small))

  side : Side (lacking a b 0 highest)
  side = side_of (lacking a b 0 highest) refl

-- ---- the four orders, and the bytes of each

holds : {m n : ℕ} {P : Type 0} → m ≡ n → P → (m ≡ n) ↔ P
holds e p = ((λ f. p), λ q. e)

fails : {m n : ℕ} {P : Type 0} → (m ≡ n → ⊥) → (P → ⊥) → (m ≡ n) ↔ P
fails f g = ((λ e. absurd (f e)), λ p. absurd (g p))

module _ (R : Rules) (a b : Knowledge) (la : Lawful R a) (lb : Lawful R b) where
  ordered : {x y : Lack} → Side R a b lb x → Side R b a la y → Ordered a b (order_of x y)
  unfolding order_of
  ordered (none k) (none l) = record {
    alike = holds refl (k, l);
    behind = fails (λ e. omega arith) (λ w. w.1 k);
    ahead = fails (λ e. omega arith) (λ w. w.1 l);
    apart = fails (λ e. omega arith) (λ w. w.0 k);
  }
  ordered (some i p f n) (none l) = record {
    alike = fails (λ e. omega arith) (λ w. n w.0);
    behind = holds refl (l, n);
    ahead = fails (λ e. omega arith) (λ w. n w.0);
    apart = fails (λ e. omega arith) (λ w. w.1 l);
  }
  ordered (none k) (some j q g m) = record {
    alike = fails (λ e. omega arith) (λ w. m w.1);
    behind = fails (λ e. omega arith) (λ w. m w.0);
    ahead = holds refl (k, m);
    apart = fails (λ e. omega arith) (λ w. w.0 k);
  }
  ordered (some i p f n) (some j q g m) = record {
    alike = fails (λ e. omega arith) (λ w. n w.0);
    behind = fails (λ e. omega arith) (λ w. m w.0);
    ahead = fails (λ e. omega arith) (λ w. n w.0);
    apart = holds refl (n, m);
  }

  reported : {x y : Lack} → Side R a b lb x → Side R b a la y → Reported a b (order_of x y) (put_lack a b x (put_lack a b y []))
  unfolding order_of put_lack
  reported (none k) (none l) = record {
    alike = λ e. refl;
    behind = λ e. absurd (omega arith);
    ahead = λ e. absurd (omega arith);
    apart = λ e. absurd (omega arith);
  }
  reported (some i p f n) (none l) = record {
    alike = λ e. absurd (omega arith);
    behind = λ e. (i, p, f, refl);
    ahead = λ e. absurd (omega arith);
    apart = λ e. absurd (omega arith);
  }
  reported (none k) (some j q g m) = record {
    alike = λ e. absurd (omega arith);
    behind = λ e. absurd (omega arith);
    ahead = λ e. (j, q, g, refl);
    apart = λ e. absurd (omega arith);
  }
  reported (some i p f n) (some j q g m) = record {
    alike = λ e. absurd (omega arith);
    behind = λ e. absurd (omega arith);
    ahead = λ e. absurd (omega arith);
    apart = λ e. (i, p, j, q, f, g, refl);
  }

  pub order_ordered : Ordered a b (order a b)
  unfolding order
  order_ordered = ordered (side R a b lb) (side R b a la)

  pub order_reported : Reported a b (order a b) (compared a b)
  unfolding order compared
  order_reported = reported (side R a b lb) (side R b a la)

-- ---- what is said settles the order and the bytes

-- the lowest place is one
pub lowest_settled : (a b : Knowledge) (i p j q : ℕ) → Lowest a b i p → Lowest a b j q → (i ≡ j) × (p ≡ q)
lowest_settled a b i p j q u v =
    let e : i ≡ j = elim (trichotomy i j) [
      | less l ↦ absurd (omega (arith, u.lacks, v.items i p l))
      | same l ↦ l
      | more l ↦ absurd (omega (arith, v.lacks, u.items j q l))
    ] in
    let w : Lowest a b i q = subst (λ (k : ℕ). Lowest a b k q) (sym e) v in (
      e,
      elim (trichotomy p q) [
        | less l ↦ absurd (omega (arith, u.lacks, w.replicas p l))
        | same l ↦ l
        | more l ↦ absurd (omega (arith, w.lacks, u.replicas q l))
      ],
    )

-- "the lowest item id, then lowest replica id, at which its tick is smaller": it is smaller there, and at no place before
pub lowest_first : (a b : Knowledge) (i p : ℕ) → Lowest a b i p
    → (known a i p < known b i p) × ((j q : ℕ) → known a j q < known b j q → (i < j) ⊎ ((i ≡ j) × (p ≤ q)))
lowest_first a b i p u = (
  u.lacks,
  λ j q h.
      elim (trichotomy i j) [
        | less l ↦ inl l
        | same e ↦ inr (e, among j q h e)
        | more l ↦ absurd (omega (arith, h, u.items j q l))
      ],
)
  where
    among : (j q : ℕ) → known a j q < known b j q → i ≡ j → p ≤ q
    among j q h e =
        let there : known a i q < known b i q = subst (λ (k : ℕ). known a k q < known b k q) (sym e) h in
        elim (trichotomy p q) [
          | less l ↦ omega arith
          | same l ↦ omega arith
          | more l ↦ absurd (omega (arith, there, u.replicas q l))
        ]

module _ (R : Rules) (a b : Knowledge) (la : Lawful R a) (lb : Lawful R b) where
  one_order : {x y : Lack} → Side R a b lb x → Side R b a la y → (m n : ℕ) → Ordered a b m → Ordered a b n → m ≡ n
  one_order (none k) (none l) m n u v = u.alike.1 (k, l) ∙ sym (v.alike.1 (k, l))
  one_order (some i p f o) (none l) m n u v = u.behind.1 (l, o) ∙ sym (v.behind.1 (l, o))
  one_order (none k) (some j q g o) m n u v = u.ahead.1 (k, o) ∙ sym (v.ahead.1 (k, o))
  one_order (some i p f o) (some j q g r) m n u v = u.apart.1 (o, r) ∙ sym (v.apart.1 (o, r))

  pub order_settled : (m n : ℕ) → Ordered a b m → Ordered a b n → m ≡ n
  order_settled m n u v = one_order (side R a b lb) (side R b a la) m n u v

  -- the bytes of a place that was found, whichever lowest place is named
  same_place : (u v : Knowledge) (i p j q : ℕ) (s t : List ℕ) → Lowest u v i p → Lowest u v j q → s ≡ t
      → put_place a b i p s ≡ put_place a b j q t
  same_place u v i p j q s t f g e =
      let w = lowest_settled u v i p j q f g in
      ap (put_place a b i p) e ∙ ap₂ (λ (k r : ℕ). put_place a b k r t) w.0 w.1

  one_report : {x y : Lack} → Side R a b lb x → Side R b a la y → (m : ℕ) (bs cs : List ℕ) → Ordered a b m → Reported a b m bs
      → Reported a b m cs → bs ≡ cs
  one_report (none k) (none l) m bs cs o u v = let e = o.alike.1 (k, l) in u.alike e ∙ sym (v.alike e)
  one_report (some i p f n) (none l) m bs cs o u v =
      let e = o.behind.1 (l, n) in
      let (j, q, g, c) = u.behind e in
      let (j', q', g', c') = v.behind e in
      c ∙ same_place a b j q j' q' [] [] g g' refl ∙ sym c'
  one_report (none k) (some i p f n) m bs cs o u v =
      let e = o.ahead.1 (k, n) in
      let (j, q, g, c) = u.ahead e in
      let (j', q', g', c') = v.ahead e in
      c ∙ same_place b a j q j' q' [] [] g g' refl ∙ sym c'
  one_report (some i p f n) (some j q g r) m bs cs o u v =
      let e = o.apart.1 (n, r) in
      let (i₁, p₁, j₁, q₁, f₁, g₁, c₁) = u.apart e in
      let (i₂, p₂, j₂, q₂, f₂, g₂, c₂) = v.apart e in
      c₁ ∙ same_place a b i₁ p₁ i₂ p₂ _ _ f₁ f₂ (same_place b a j₁ q₁ j₂ q₂ [] [] g₁ g₂ refl) ∙ sym c₂

  pub reported_settled : (m : ℕ) (bs cs : List ℕ) → Ordered a b m → Reported a b m bs → Reported a b m cs → bs ≡ cs
  reported_settled m bs cs o u v = one_report (side R a b lb) (side R b a la) m bs cs o u v

-- ---- lengths

module _ (a b : Knowledge) where
  pub place-length : (i p : ℕ) (t : List ℕ) → length (put_place a b i p t) ≡ 56 + length t
  unfolding put_place
  place-length i p t =
      let ticks = put 8 (known a i p) (put 8 (known b i p) t) in
      omega (
        arith,
        put-length 24 i (put 16 p ticks),
        put-length 16 p ticks,
        put-length 8 (known a i p) (put 8 (known b i p) t),
        put-length 8 (known b i p) t,
      )

  lack-length : (x : Lack) (t : List ℕ) → length (put_lack a b x t) ≤ 56 + length t
  unfolding put_lack
  lack-length nowhere t = omega arith
  lack-length (here i p) t = omega (arith, place-length i p t)

  -- a buffer of 112 bytes is never too short
  pub compared-length : length (compared a b) ≤ 112
  unfolding compared
  compared-length =
      let x = lacking a b 0 highest in
      let y = lacking b a 0 highest in
      omega (arith, lack-length x (put_lack a b y []), lack-length y [])

-- ---- behind and behind

pub knows_carries : (a b c : Knowledge) → Knows a b → Knows b c → Knows a c
knows_carries a b c x y = record { known = λ i p h k small. omega (arith, x.known i p h k small, y.known i p h k small) }

module _ (R : Rules) (a b c : Knowledge) (la : Lawful R a) (lb : Lawful R b) (lc : Lawful R c) where
  pub behind_carries : order a b ≡ 1 → order b c ≡ 1 → order a c ≡ 1
  behind_carries e f =
      let x = (order_ordered R a b la lb).behind.0 e in
      let y = (order_ordered R b c lb lc).behind.0 f in
      (order_ordered R a c la lc).behind.1 (knows_carries c b a y.0 x.0, λ k. x.1 (knows_carries a c b k y.0))

-- the other way round behind is ahead
mirror : (x y : Lack) → (order_of x y ≡ 1) ↔ (order_of y x ≡ 2)
unfolding order_of
mirror nowhere nowhere = fails (λ e. omega arith) (λ e. omega arith)
mirror (here i p) nowhere = holds refl refl
mirror nowhere (here j q) = fails (λ e. omega arith) (λ e. omega arith)
mirror (here i p) (here j q) = fails (λ e. omega arith) (λ e. omega arith)

pub mirrored : (a b : Knowledge) → (order a b ≡ 1) ↔ (order b a ≡ 2)
unfolding order
mirrored a b = mirror (lacking a b 0 highest) (lacking b a 0 highest)

-- ---- the call

compare_of : Parsed Knowledge → Parsed Knowledge → Reply
compare_of p q = first_fault refuses (own_fault p ∷ own_fault q ∷ []) (gives (compared (read_as p) (read_as q)))

module _ (R : Rules) (s t : List ℕ) where
  compare_reply_lem : (p q : Parsed Knowledge) → parse R s ≡ p → parse R t ≡ q → compare_reply R s t ≡ compare_of p q
  unfolding compare_reply compare_of
  compare_reply_lem p q e f = ap₂ compare_of e f

  pub compare_first : (n : ℕ) → parse R s ≡ refused n → compare_reply R s t ≡ refuses n
  unfolding compare_of
  compare_first n e =
      compare_reply_lem (refused n) (parse R t) e refl
      ∙ read_fault Knowledge refuses n (own_fault (parse R t) ∷ []) (gives (compared (read_as (refused n)) (read_as (parse R t))))

  pub compare_second : (a : Knowledge) (n : ℕ) → parse R s ≡ accepted a → parse R t ≡ refused n → compare_reply R s t ≡ refuses n
  unfolding compare_of
  compare_second a n e f =
      let found = gives (compared (read_as (accepted a)) (read_as (refused n))) in
      compare_reply_lem (accepted a) (refused n) e f
      ∙ read_fine refuses a (own_fault (refused n) ∷ []) found
      ∙ read_fault Knowledge refuses n [] found

  pub compare_found : (a b : Knowledge) → parse R s ≡ accepted a → parse R t ≡ accepted b → compare_reply R s t ≡ gives (compared a b)
  unfolding compare_of read_or
  compare_found a b e f =
      let found = gives (compared a b) in
      compare_reply_lem (accepted a) (accepted b) e f
      ∙ read_fine refuses a (own_fault (accepted b) ∷ []) found
      ∙ read_fine refuses b [] found
      ∙ fault_none refuses [] found tt

  pub order_found : (a b : Knowledge) → parse R s ≡ accepted a → parse R t ≡ accepted b → (n old : ℕ)
      → order_value R s t (Written n) old ≡ order a b
  unfolding order_value read_or
  order_found a b e f n old = ap₂ (λ (p q : Parsed Knowledge). order (read_as p) (read_as q)) e f

-- on a refusal, 14 too, the order stays
pub order_stays : (R : Rules) (s t : List ℕ) (a : Answer) (n old : ℕ) → a ≡ Refused n → order_value R s t a old ≡ old
unfolding order_value
order_stays R s t a n old e = ap (λ (x : Answer). order_value R s t x old) e

pub compares : (R : Rules) → Permitted R.limits → CompareSays R
compares R permitted = record {
  one = λ s t n e. compare_first R s t n e;
  other = λ s t a n e f. compare_second R s t a n e f;
  found = λ s t a b x y e f.
      let la = read_lawful R s a permitted x e in
      let lb = read_lawful R t b permitted y f in
      record {
        bytes = compare_found R s t a b e f;
        value = order_found R s t a b e f;
        ordered = order_ordered R a b la lb;
        reported = order_reported R a b la lb;
      };
  carries = λ s t u a b c x y z e f g.
      behind_carries R a b c (read_lawful R s a permitted x e) (read_lawful R t b permitted y f) (read_lawful R u c permitted z g);
}

pub compares_basic : CompareSays basic
compares_basic = compares basic base_permitted
