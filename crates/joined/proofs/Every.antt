-- Every list of given calls is one that a program can make (`reached_every`), so `Reached` leaves out no list, no replica, no batch and no
-- buffer: what `demand3_on_code` says of reached worlds is said of all. It holds because a C function tells something whatever it is given:
-- the three equations of its contract say what.
use Prim.Native.Nat.{ℕ, ◌≤◌}
use mathlib.Core.Path.{◌≡◌, refl, sym, ap, ◌∙◌, subst}
use mathlib.Core.Logic.{inl, inr}
use mathlib.Core.List.{List, [], ◌∷◌, ◌++◌, append_assoc, append-nil}
use mathlib.Core.Option.{Option, none, some}
use native.Mathlib.Omega.{arith}
use lib.ListN.{length, take, drop, replicate, length-replicate}
use lib.Seq.{take-append_seam}
use Rattle.codec.specs.Number.{put}
use Rattle.codec.specs.Reply.{Reply, answer, after, number_of, written_of, gives}
use Rattle.codec.proofs.Replies.{number_fits, after_fits}
use Rattle.layout.specs.Knowledge.{basic, base, All}
use Rattle.replication.specs.Call.{ReplicaId, Call, edit, delete, make, apply, Given}
use Rattle.replication.specs.Calls.{new_reply, edit_reply, delete_reply, make_reply, apply_reply}
use Rattle.replication.specs.Lists.{World, start, batch_number, keep}
use Rattle.replication.specs.Runner.{one}
use Rattle.replication.proofs.Demand3.{begin}
use Rattle.replication.proofs.Runner.{keep_leaves}
use Rattle.joined.specs.Step.{Called}
use Rattle.joined.specs.Program.{Begun, Makes, Keeps, Reached, begun, called, passed}
use Rattle.joined.proofs.Steps.{new_called, edit_called, delete_called, make_called, apply_called}
use Rattle.joined.proofs.OnCode.{zero_or}

-- ---- one call

-- what a C function tells with a given buffer, where 0 is behind the pointer
told_of : (reply : Reply) (out : List ℕ)
    → Called reply (number_of (answer reply (length out))) 0 (written_of (answer reply (length out)) 0) out (after reply out)
told_of reply out = record { returned = refl; told = refl; buffer = refl }

-- whatever the number is, there is something to keep
keeps_some : (c : Call) (number written : ℕ) (left : List ℕ) (w : World) → (next : World) × Keeps c number written left w next
keeps_some c number written left w =
    elim (zero_or number) [
      | inl e ↦ (
        keep w c (some (take written left)),
        record { taken = λ z. keep_leaves w c (take written left); same = λ h. absurd (h e) },
      )
      | inr e ↦ (w, record { taken = λ z. absurd (e z); same = λ h. refl })
    ]

module _ (calls : List Call) (w : World) (r : Reached calls w) where
  -- a call with a reply, made with a buffer of zeros
  makes_some : (c : Call) (reply : Reply) (out : List ℕ) → Given c
      → Makes w c (number_of (answer reply (length out))) 0 (written_of (answer reply (length out)) 0) out (after reply out)
      → (next : World) × Reached (calls ++ one c) next
  makes_some c reply out g m =
      let number = number_of (answer reply (length out)) in
      let written = written_of (answer reply (length out)) 0 in
      let k = keeps_some c number written (after reply out) w in
      (k.0, called calls w k.0 c number 0 written out (after reply out) r g m k.1)

  module _ (room : ℕ) where
    abbrev zeros : List ℕ
    zeros = replicate room 0

    abbrev number : Reply → ℕ
    number reply = number_of (answer reply (length zeros))

    abbrev written : Reply → ℕ
    written reply = written_of (answer reply (length zeros)) 0

    apply_more : (who which : ℕ) → ReplicaId who → (o : Option (List ℕ)) → batch_number which w.batches ≡ o
        → (next : World) × Reached (calls ++ one (apply who which room)) next
    apply_more who which g none e = (w, passed calls w who which room r g e)
    apply_more who which g (some batch) e =
        let s = w.stores who in
        let reply = apply_reply base s batch in
        makes_some (apply who which room) reply zeros g (
          length-replicate room 0,
          (batch, (e, apply_called (number reply) 0 (written reply) zeros (after reply zeros) s batch (told_of reply zeros))),
        )

  more : (c : Call) → Given c → (next : World) × Reached (calls ++ one c) next
  more (edit who item brought room) g =
      let s = w.stores who in
      let reply = edit_reply base s item brought in
      makes_some (edit who item brought room) reply (zeros room) g (
        length-replicate room 0,
        edit_called (number room reply) 0 (written room reply) (zeros room) (after reply (zeros room)) s item brought.tag
            (told_of reply (zeros room)),
      )
  more (delete who item room) g =
      let s = w.stores who in
      let reply = delete_reply base s item in
      makes_some (delete who item room) reply (zeros room) g (
        length-replicate room 0,
        delete_called (number room reply) 0 (written room reply) (zeros room) (after reply (zeros room)) s item (told_of reply (zeros room)),
      )
  more (make who knowledge first last room) g =
      let s = w.stores who in
      let reply = make_reply basic s knowledge first last in
      makes_some (make who knowledge first last room) reply (zeros room) g (
        length-replicate room 0,
        make_called (number room reply) 0 (written room reply) (zeros room) (after reply (zeros room)) s knowledge first last
            (told_of reply (zeros room)),
      )
  more (apply who which room) g = apply_more room who which g (batch_number which w.batches) refl

-- ---- the beginning: new, with a buffer that is just long enough

begun_every : (p : ℕ) → ReplicaId p → Begun p (start.stores p)
begun_every p small =
    let out = start.stores p in
    let reply = new_reply (put 16 p []) in
    let fits : length out ≤ length out = omega arith in
    let g : reply ≡ gives out = begin p small in
    record {
      number = number_of (answer reply (length out));
      old = 0;
      written = written_of (answer reply (length out)) 0;
      out = out;
      left = after reply out;
      called = new_called (number_of (answer reply (length out))) 0 (written_of (answer reply (length out)) 0) out (after reply out) (put 16 p [])
          (told_of reply out);
      fine = ap (λ (x : Reply). number_of (answer x (length out))) g ∙ (number_fits out (length out) 0 fits).0;
      taken = sym (ap (λ (n : ℕ). take n (after reply out)) (ap (λ (x : Reply). written_of (answer x (length out)) 0) g ∙ (number_fits out (length out) 0 fits).1)
          ∙ (ap (take (length out)) (ap (λ (x : Reply). after x out) g ∙ after_fits out out fits) ∙ take-append_seam out (drop (length out) out)));
    }

start_none : start.batches ≡ []
unfolding start
start_none = refl

-- ---- every list

after_every : (before calls : List Call) (w : World) → Reached before w → All Given calls → (v : World) × Reached (before ++ calls) v
after_every before [] w r g = (w, subst (λ (l : List Call). Reached l w) (sym (append-nil before)) r)
after_every before (c ∷ cs) w r g =
    let m = more before w r c g.0 in
    let v = after_every (before ++ one c) cs m.0 m.1 g.1 in
    (v.0, subst (λ (l : List Call). Reached l v.0) (append_assoc before (one c) cs) v.1)

pub reached_every : (calls : List Call) → All Given calls → (w : World) × Reached calls w
reached_every calls g = after_every [] calls start (begun start begun_every start_none) g
