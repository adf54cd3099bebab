-- What suffices for the premises of a round, so that none of them asks more than its words. A server is one of those listed, wherever it
-- stands in the list. A call of another server changes nothing on this one, and a make changes nothing on any. A call that writes is not
-- refused. A make and an apply may stand at any places of a half, whatever stands before, between and behind them; and the five conditions
-- of a round are all that it asks.
use Prim.Native.Nat.{ℕ}
use mathlib.Core.Path.{◌≡◌, refl, sym, ap, subst}
use mathlib.Core.Logic.{inl, inr}
use mathlib.Core.List.{List, [], ◌∷◌, ◌++◌, append_assoc, append-nil}
use lib.ListN.{length}
use Rattle.layout.specs.Knowledge.{Rules, All}
use Rattle.ticks.specs.Meaning.{highest}
use Rattle.replication.specs.Call.{Brought, Call, edit, delete, make, apply}
use Rattle.replication.specs.Machine.{value}
use Rattle.replication.specs.Promise.{ends}
use Rattle.replication.specs.Runner.{one, Writes}
use Rattle.corollaries.specs.Round.{Server, Still, Done, Sent, Delivered, Round}
use Rattle.corollaries.specs.RoundCalls.{AllDone}
use Rattle.replication.proofs.Runner.{writes_exact}

pub server_listed : (p : ℕ) (a b : List ℕ) → Server p (a ++ (p ∷ b))
server_listed p [] b = inl refl
server_listed p (x ∷ a) b = inr (server_listed p a b)

-- ---- calls that change nothing on a server

pub still_other : (p who : ℕ) → (who ≡ p → ⊥)
    → ((item : List ℕ) (b : Brought) (room : ℕ) → Still p (edit who item b room))
    × (((item : List ℕ) (room : ℕ) → Still p (delete who item room)) × ((which room : ℕ) → Still p (apply who which room)))
still_other p who other = ((λ item b room. other), ((λ item room. other), λ which room. other))

pub still_make : (p who : ℕ) (knowledge first last : List ℕ) (room : ℕ) → Still p (make who knowledge first last room)
still_make p who knowledge first last room = tt

module _ (R : Rules) where
  -- ---- calls that are not refused

  pub done_writes : (calls : List Call) (c : Call) (bs : List ℕ) → Writes R (ends R calls) c bs → Done R calls c
  done_writes calls c bs w = (bs, (writes_exact R (ends R calls) c bs).1 w)

  -- each of some calls, after those before it
  pub all_done : (cs before : List Call)
      → ((a : List Call) (c : Call) (b : List Call) → cs ≡ a ++ (c ∷ b) → Done R (before ++ a) c) → AllDone R before cs
  all_done [] before each = tt
  all_done (c ∷ cs) before each = (
    subst (λ (l : List Call). Done R l c) (append-nil before) (each [] c cs refl),
    all_done cs (before ++ one c)
        (λ a x b e.
        subst (λ (l : List Call). Done R l x) (sym (append_assoc before (one c) a)) (each (c ∷ a) x b (ap (λ (l : List Call). c ∷ l) e))),
  )

  -- ---- a make and an apply, at any places

  abbrev pub sent_there : (before earlier later : List Call) (who : ℕ) (knowledge first last : List ℕ) (room n : ℕ)
      → value 0 first ≡ 0 → value 0 last ≡ highest → Done R (before ++ earlier) (make who knowledge first last room)
      → length (ends R (before ++ earlier)).batches ≡ n → Sent R before (earlier ++ (make who knowledge first last room ∷ later)) who n
  sent_there before earlier later who knowledge first last room n lowest top written count = record {
    earlier = earlier;
    later = later;
    knowledge = knowledge;
    first = first;
    last = last;
    room = room;
    is = refl;
    done = written;
    number = count;
    lowest = lowest;
    top = top;
  }

  abbrev pub delivered_there : (before earlier later : List Call) (maker taker n room : ℕ) → Sent R before earlier maker n
      → Done R (before ++ earlier) (apply taker n room) → Delivered R before (earlier ++ (apply taker n room ∷ later)) maker taker
  delivered_there before earlier later maker taker n room sent taken = record {
    earlier = earlier;
    later = later;
    number = n;
    room = room;
    is = refl;
    done = taken;
    sent = sent;
  }

  -- ---- a round

  pub round_from : (before gather spread : List Call) (centre : ℕ) (districts : List ℕ)
      → ((d : ℕ) → Server d districts → Delivered R before gather d centre × All (Still d) gather) → All (Still centre) spread
      → ((d : ℕ) → Server d districts
      → (x : Delivered R (before ++ gather) spread centre d) × (All (Still d) x.earlier × All (Still d) x.later))
      → Round R before gather spread centre districts
  round_from before gather spread centre districts first rests second = record {
    arrives = λ d s. (first d s).0;
    waits = λ d s. (first d s).1;
    rests = rests;
    takes = λ d s. (second d s).0;
    quiet = λ d s. (second d s).1;
  }
