-- How far two knowledges are alike. At an item to which two cursors have come, the same ids and the same elements are the same ticks, so
-- nothing lacks there either way; up to the next bound of both nothing changes (`going_on`), and where no bound is left nothing lacks at
-- all (`going_done`). So the first lacking place is the first from any item that was come to (`going_stops`).
use Prim.Native.Nat.{ℕ, suc, ◌+◌, ◌*◌, ◌≤◌, ◌<◌}
use mathlib.Core.Path.{◌≡◌, refl, sym, ap, ap₂, ◌∙◌, subst}
use mathlib.Core.Bool.{true, false}
use mathlib.Core.List.{List, ◌∷◌}
use Rattle.std.specs.Prelude.{Some, None}
use native.Mathlib.Omega.{arith}
use lib.Dec.{ltb}
use lib.ListN.{length}
use Rattle.codec.specs.Number.{be_at}
use Rattle.codec.specs.Words.{words3}
use Rattle.codec.specs.declared.Item.{Item}
use Rattle.codec.specs.Ids.{item_of}
use Rattle.codec.proofs.Numbers.{be_below}
use Rattle.layout.specs.Knowledge.{Rules, Element, Knowledge}
use Rattle.layout.specs.Decode.{ids_at, elements_at, decode}
use Rattle.layout.specs.MethodPlaces.{ids_place}
use Rattle.ticks.specs.Meaning.{highest, place, tick_at, vector_at, known}
use Rattle.ticks.specs.Operations.{nowhere, lacking}
use Rattle.ticks.proofs.ForRows.{NothingLacks, Still, lacking_on, lacking_past}
use Rattle.ticks.proofs.LawfulResults.{below_top}
use Rattle.lookup.specs.declared.Cursor.{Cursor}
use Rattle.lookup.specs.Method.{There, elements_here, advanced, Open}
use Rattle.lookup.proofs.Loops.{here_is}
use Rattle.lookup.proofs.Leaf.{read_ids, ids_room, opens_reading, advanced_passes}
use Rattle.lookup.proofs.Leaf.{Stands, stands_start, stands_advanced, stands_elements, stands_still}
use Rattle.compare.specs.declared.Next.{Next}
use Rattle.compare.specs.declared.Next.TheVariants as N
use Rattle.compare.specs.Method.{Reached, GoesOn}

-- ---- the same ids, in the same order

pub record IdsFrom (s t : List ℕ) (r left at : ℕ) : Type 0 where
  pub is : ids_at s left at ≡ ids_at t left at → ids_at s r ids_place ≡ ids_at t r ids_place

pub ids_all : (s t : List ℕ) (r left at : ℕ) → left ≡ r → at ≡ ids_place → IdsFrom s t r left at
ids_all s t r left at e f = record {
  is = λ g. ap₂ (λ n x. ids_at s n x) (sym e) (sym f) ∙ g ∙ ap₂ (λ n x. ids_at t n x) e f;
}

module _ (s t : List ℕ) (r left at : ℕ) (f : IdsFrom s t r left at) where
  pub ids_done : left ≤ 0 → ids_at s r ids_place ≡ ids_at t r ids_place
  unfolding ids_at
  ids_done h =
      let z : left ≡ 0 = omega arith in
      f.is (subst (λ (n : ℕ). ids_at s n at ≡ ids_at t n at) (sym z) refl)

  pub ids_next : (less next : ℕ) → left ≡ suc less → next ≡ at + 16 → be_at s 16 at ≡ be_at t 16 at → IdsFrom s t r less next
  unfolding ids_at
  ids_next less next m o one = record {
    is = λ q.
        let rest : ids_at s less (at + 16) ≡ ids_at t less (at + 16) = subst (λ (x : ℕ). ids_at s less x ≡ ids_at t less x) o q in
        f.is (subst (λ (n : ℕ). ids_at s n at ≡ ids_at t n at) (sym m) (ap₂ (λ (x : ℕ) (xs : List ℕ). x ∷ xs) one rest));
  }

-- ---- the same elements, in the same order

pub record ElementsFrom (s : List ℕ) (a : ℕ) (t : List ℕ) (b left x y : ℕ) : Type 0 where
  pub is : elements_at s left x ≡ elements_at t left y → elements_here s a ≡ elements_here t b

pub elements_all : (s : List ℕ) (a : ℕ) (t : List ℕ) (b n m left x y : ℕ) → There s a n → There t b m → m ≡ n → left ≡ n → x ≡ a + 8
    → y ≡ b + 8 → ElementsFrom s a t b left x y
elements_all s a t b n m left x y p q e f g h = record {
  is = λ i.
      here_is s a n p ∙ ap₂ (λ k z. elements_at s k z) (sym f) (sym g) ∙ i ∙ ap₂ (λ k z. elements_at t k z) (f ∙ sym e) h
      ∙ sym (here_is t b m q);
}

module _ (s : List ℕ) (a : ℕ) (t : List ℕ) (b left x y : ℕ) (f : ElementsFrom s a t b left x y) where
  pub elements_done : left ≤ 0 → elements_here s a ≡ elements_here t b
  unfolding elements_at
  elements_done h =
      let z : left ≡ 0 = omega arith in
      f.is (subst (λ (n : ℕ). elements_at s n x ≡ elements_at t n y) (sym z) refl)

  pub elements_next : (k l c d less next other : ℕ) → left ≡ suc less → next ≡ x + 12 → other ≡ y + 12 → c ≡ be_at s 8 (x + 4)
      → d ≡ be_at t 8 (y + 4) → c ≡ d → k ≡ be_at s 4 x → l ≡ be_at t 4 y → k ≡ l → ElementsFrom s a t b less next other
  unfolding elements_at
  elements_next k l c d less next other m o p ec ed e ek el g =
      let keys : be_at s 4 x ≡ be_at t 4 y = sym ek ∙ g ∙ el in
      let ticks : be_at s 8 (x + 4) ≡ be_at t 8 (y + 4) = sym ec ∙ e ∙ ed in
      let first : ◌≡◌ {A = Element} (record { key = record { 0 = be_at s 4 x }; tick = be_at s 8 (x + 4) })
      (record { key = record { 0 = be_at t 4 y }; tick = be_at t 8 (y + 4) }) =
      ap₂ (λ (i j : ℕ). record { key = record { 0 = i }; tick = j }) keys ticks in
      record {
        is = λ q.
            let rest : elements_at s less (x + 12) ≡ elements_at t less (y + 12) =
            ap (λ (z : ℕ). elements_at s less z) (sym o) ∙ q ∙ ap (λ (z : ℕ). elements_at t less z) p in
            f.is (subst (λ (n : ℕ). elements_at s n x ≡ elements_at t n y) (sym m)
            (ap₂ (λ (v : Element) (vs : List Element). v ∷ vs) first rest));
      }

-- ---- the next bound

pub goes_at : (s : List ℕ) (x : Cursor) (t : List ℕ) (y : Cursor) (i : Item) → elements_here s x.vector ≡ elements_here t y.vector
    → 0 < x.left → 0 < y.left → be_at s 24 x.next ≡ item_of i → be_at t 24 y.next ≡ item_of i → GoesOn s x t y (N.At i)
goes_at s x t y i e f g p q = record {
  done = λ d. absurd (let z : ◌≡◌ {A = ℕ} 0 1 = cc in omega arith);
  on = λ j d.
      let same : i ≡ j = cc in
      let words : item_of i ≡ item_of j = ap (λ (k : Item). item_of k) same in
      (e, (f, (g, (p ∙ words, q ∙ words))));
}

-- ---- from item to item

-- the same ids and the same elements are the same ticks
known_alike : (a b : Knowledge) (i p : ℕ) → a.replicas ≡ b.replicas → vector_at a i ≡ vector_at b i → known a i p ≡ known b i p
unfolding known
known_alike a b i p e f =
    ap₂ (λ (ids : List ℕ) (es : List Element). elim (ltb (place p ids) (length ids)) [ true ↦ tick_at es (place p ids) | false ↦ 0 ]) e f

-- nothing lacks at all, or below an item
reached_whole : (a b : Knowledge) → lacking a b 0 highest ≡ nowhere → Reached a b None
reached_whole a b e = record { whole = λ h. e; from = λ i h. absurd (let q : ◌≡◌ {A = ℕ} 0 1 = cc in omega arith) }

reached_below : (a b : Knowledge) (i : ℕ) (j : Item) → i ≡ item_of j → i ≤ highest → lacking a b 0 highest ≡ lacking a b i highest
    → Reached a b (Some j)
reached_below a b i j e inside below = record {
  whole = λ h. absurd (let q : ◌≡◌ {A = ℕ} 0 1 = cc in omega arith);
  from = λ k h.
      let of-below : j ≡ k = cc in
      let same : i ≡ item_of k = e ∙ ap (λ (l : Item). item_of l) of-below in
      (subst (λ (n : ℕ). n ≤ highest) same inside, below ∙ ap (λ (n : ℕ). lacking a b n highest) same);
}

-- two cursors have come to an item, and nothing lacks below it, either way
pub record Going (s : List ℕ) (r : ℕ) (t : List ℕ) (m : ℕ) (x y : Cursor) (i : ℕ) : Type 0 where
  pub R : Rules
  pub Q : Rules
  pub first : Stands R s r x (suc i)
  pub second : Stands Q t m y (suc i)
  pub ids : (decode s).replicas ≡ (decode t).replicas
  pub inside : i ≤ highest
  pub one : lacking (decode s) (decode t) 0 highest ≡ lacking (decode s) (decode t) i highest
  pub other : lacking (decode t) (decode s) 0 highest ≡ lacking (decode t) (decode s) i highest

pub zero-words : words3 0 0 0 ≡ 0
unfolding words3
zero-words = refl

pub going_starts : (s : List ℕ) (r : ℕ) (c : Cursor) (t : List ℕ) (m : ℕ) (d x y : Cursor) → Open s r c → Open t m d
    → (decode s).replicas ≡ (decode t).replicas → x ≡ advanced s r c (words3 0 0 0) → y ≡ advanced t m d (words3 0 0 0)
    → Going s r t m x y (words3 0 0 0)
going_starts s r c t m d x y o q ids ex ey =
    let i = words3 0 0 0 in
    record {
      R = o.rules;
      Q = q.rules;
      first = subst (λ (z : Cursor). Stands o.rules s r z (suc i)) (sym ex)
          (stands_advanced o.rules s r c 0 (stands_start o.rules s r c o.opens) i (omega arith));
      second = subst (λ (z : Cursor). Stands q.rules t m z (suc i)) (sym ey)
          (stands_advanced q.rules t m d 0 (stands_start q.rules t m d q.opens) i (omega arith));
      ids = ids;
      inside = omega (arith, zero-words);
      one = ap (λ (n : ℕ). lacking (decode s) (decode t) n highest) (sym zero-words);
      other = ap (λ (n : ℕ). lacking (decode t) (decode s) n highest) (sym zero-words);
    }

module _ (s : List ℕ) (r : ℕ) (t : List ℕ) (m : ℕ) (x y : Cursor) (i : ℕ) (g : Going s r t m x y i) where
  abbrev a : Knowledge
  a = decode s

  abbrev b : Knowledge
  b = decode t

  pub going_stops : (j : Item) → i ≡ item_of j → Reached a b (Some j) × Reached b a (Some j)
  going_stops j e = (reached_below a b i j e g.inside g.one, reached_below b a i j e g.inside g.other)

  module _ (e : elements_here s x.vector ≡ elements_here t y.vector) where
    ticks : (p : ℕ) → known a i p ≡ known b i p
    ticks p =
        known_alike a b i p g.ids
        (sym (stands_elements g.R s r x i g.first) ∙ e ∙ stands_elements g.Q t m y i g.second)

    nothing_lacks : NothingLacks a b i
    nothing_lacks = record { known = λ p. omega (arith, ticks p) }

    nothing_lacks_back : NothingLacks b a i
    nothing_lacks_back = record { known = λ p. omega (arith, ticks p) }

    module _ (stop : ℕ) (f : 0 < x.left → stop ≤ be_at s 24 x.next) (h : 0 < y.left → stop ≤ be_at t 24 y.next) where
      still : Still a b i stop
      still = record { first = stands_still g.R s r x i g.first stop f; second = stands_still g.Q t m y i g.second stop h }

      still_back : Still b a i stop
      still_back = record { first = stands_still g.Q t m y i g.second stop h; second = stands_still g.R s r x i g.first stop f }

  pub going_done : (n : Next) → GoesOn s x t y n → n ≡ N.Done → Reached a b None × Reached b a None
  going_done n h d =
      let w = h.done d in
      let none : 0 < x.left → suc highest ≤ be_at s 24 x.next = λ l. absurd (omega (arith, w.1.0)) in
      let none-back : 0 < y.left → suc highest ≤ be_at t 24 y.next = λ l. absurd (omega (arith, w.1.1)) in
      let one_way = lacking_past a b i (suc highest) highest (nothing_lacks w.0) (still w.0 (suc highest) none none-back) (omega arith) in
      let back = lacking_past b a i (suc highest) highest (nothing_lacks_back w.0) (still_back w.0 (suc highest) none none-back) (omega arith) in
      (reached_whole a b (g.one ∙ one_way), reached_whole b a (g.other ∙ back))

  module _ (n : Next) (h : GoesOn s x t y n) (j : Item) (d : n ≡ N.At j) (x' y' : Cursor) (ex : x' ≡ advanced s r x (item_of j))
      (ey : y' ≡ advanced t m y (item_of j)) where
    pub going_on : Going s r t m x' y' (item_of j)
    going_on =
        let stop = item_of j in
        let w = h.on j d in
        let later : suc i ≤ stop = omega (arith, g.first.ahead w.1.0, w.1.1.1.0) in
        let f : 0 < x.left → stop ≤ be_at s 24 x.next = λ q. omega (arith, w.1.1.1.0) in
        let f' : 0 < y.left → stop ≤ be_at t 24 y.next = λ q. omega (arith, w.1.1.1.1) in
        let top : be_at s 24 x.next ≤ highest = below_top (be_at s 24 x.next) (be_below s 24 x.next g.first.reading.bytes) in
        record {
          R = g.R;
          Q = g.Q;
          first = subst (λ (z : Cursor). Stands g.R s r z (suc stop)) (sym ex)
              (stands_advanced g.R s r x (suc i) g.first stop (omega arith));
          second = subst (λ (z : Cursor). Stands g.Q t m z (suc stop)) (sym ey)
              (stands_advanced g.Q t m y (suc i) g.second stop (omega arith));
          ids = g.ids;
          inside = omega (arith, top, w.1.1.1.0);
          one = g.one ∙ lacking_on a b i stop highest (nothing_lacks w.0) (still w.0 stop f f') (omega arith);
          other = g.other ∙ lacking_on b a i stop highest (nothing_lacks_back w.0) (still_back w.0 stop f f') (omega arith);
        }

    pub going_less : x'.left < x.left
    going_less =
        let w = h.on j d in
        subst (λ (z : Cursor). z.left < x.left) (sym ex)
        (advanced_passes s r x (item_of j) g.first.room w.1.0 (omega (arith, w.1.1.1.0)))

-- ---- where the search begins

pub reached_none : (a b : Knowledge) → Reached a b (Some (record { high = 0; middle = 0; low = 0 }))
reached_none a b = reached_below a b 0 (record { high = 0; middle = 0; low = 0 }) (sym zero-words) (omega arith) refl

-- the maps of two knowledges with the same ids
pub maps_same : (s : List ℕ) (r : ℕ) (c : Cursor) (t : List ℕ) (m : ℕ) (d : Cursor) → Open s r c → Open t m d → r ≡ m
    → ids_at s r ids_place ≡ ids_at t r ids_place → (decode s).replicas ≡ (decode t).replicas
maps_same s r c t m d o q e f =
    let x = o.opens in
    let y = q.opens in
    read_ids o.rules s r x.v x.e x.g (opens_reading o.rules s r c x)
    ∙ f ∙ ap (λ (n : ℕ). ids_at t n ids_place) e
    ∙ sym (read_ids q.rules t m y.v y.e y.g (opens_reading q.rules t m d y))

map-room : (s : List ℕ) (r : ℕ) (c : Cursor) → Open s r c → ids_place + 16 * r ≤ length s
map-room s r c o =
    let x = o.opens in
    ids_room o.rules s r x.v x.e x.g (opens_reading o.rules s r c x)

pub same_room : (s : List ℕ) (r : ℕ) (c : Cursor) (t : List ℕ) (m : ℕ) (d : Cursor) → Open s r c → Open t m d → r ≡ m
    → (ids_place + 16 * r ≤ length s) × (ids_place + 16 * r ≤ length t)
same_room s r c t m d o q e = (map-room s r c o, omega (arith, e, map-room t m d q))
