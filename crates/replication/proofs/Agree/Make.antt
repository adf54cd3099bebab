-- A make keeps bytes and machine together. Learned is the store's knowledge projected, so inside the span its ticks are
-- the maker's in the machine and outside they are 0; the records are the store's of the span but for those that needed
-- contains. Nothing else changes.
use Prim.Native.Nat.{ℕ, ◌≤◌, ◌<◌, ◌^◌}
use mathlib.Core.Path.{◌≡◌, refl, ap, ◌∙◌, subst}
use mathlib.Core.List.{List, [], ◌∷◌, ◌++◌}
use mathlib.Core.Option.{some}
use native.Mathlib.Omega.{arith}
use lib.ListN.{length}
use Rattle.codec.specs.Number.{Bytes}
use Rattle.layout.specs.Knowledge.{Rules, Knowledge, Lawful}
use Rattle.layout.specs.Permitted.{Permitted}
use Rattle.layout.proofs.Exact.{exact}
use Rattle.ticks.specs.Meaning.{highest}
use Rattle.ticks.specs.Operations.{normalise}
use Rattle.ticks.specs.Calls.{id_of}
use Rattle.ticks.proofs.Operations.{known_project_inside}
use Rattle.ticks.proofs.LawfulResults.{below_top}
use Rattle.ticks.proofs.ForCalls.{Within}
use Rattle.replication.specs.BatchFormat.{encode_batch}
use Rattle.replication.specs.Operate.{made}
use Rattle.replication.specs.Machine.{Ticks, Remembered, State, value, acts}
use Rattle.replication.specs.Lists.{World, keep}
use Rattle.replication.proofs.Agree.Arguments.{id_value, id_below}
use Rattle.replication.proofs.Tables.Selected.{kept, find_selected}
use Rattle.replication.proofs.Agree.Lines.{MakeMet}
use Rattle.replication.proofs.Contents.Make.{made_lawful}
use Rattle.replication.proofs.Agree.Invariant.{StoreFollows, BatchFollows, Paired, Follows}
use Rattle.replication.proofs.Machine.Laws.{Good}
use Rattle.replication.specs.Record.{Rec}
use Rattle.replication.specs.Call.{make}

paired_add : (R : Rules) (vs : List Rec) (s : List ℕ) (b : Remembered) (ss : List (List ℕ)) (ms : List Remembered)
    → BatchFollows R.limits s vs b → Paired R.limits vs ss ms → Paired R.limits vs (ss ++ (s ∷ [])) (ms ++ (b ∷ []))
paired_add R vs s b [] [] f p = (f, tt)
paired_add R vs s b [] (m ∷ ms) f p = absurd p
paired_add R vs s b (x ∷ ss) [] f p = absurd p
paired_add R vs s b (x ∷ ss) (m ∷ ms) f p = (p.0, paired_add R vs s b ss ms f p.1)

module _ (R : Rules) (s bs : List ℕ) (vs : List Rec) (k : Ticks) (who : ℕ) (given : Knowledge) (first last : ℕ)
    (f : StoreFollows R.limits s vs k who) (lawful : Lawful R given) (span : first ≤ last) (top : last ≤ highest) where
  pub made_follows : Within R.limits (made f.st given first last).needed
      → Within R.limits (made f.st given first last).learned → length (made f.st given first last).records ≤ R.limits.records
      → bs ≡ encode_batch (made f.st given first last) → BatchFollows R.limits bs vs (record { first = first; last = last; ticks = k })
  unfolding made
  made_follows needed learned count bytes =
      record {
        b = made f.st given first last;
        bytes = bytes;
        valid = made_lawful R f.st given first last f.valid lawful span top needed learned count;
        first = refl;
        last = refl;
        top = top;
        inside =
            λ i q a b. known_project_inside first last f.st.knowledge i q (omega (arith, b, top)) a b ∙ f.ticks i q (omega (arith, b, top));
        records =
            λ i. find_selected first last (normalise given) 0 i f.st.records f.valid.rising
            ∙ ap (kept first last (normalise given)) (f.records i);
      }

module _ (R : Rules) (permitted : Permitted R.limits) (w : World) (m : State) (f : Follows R.limits w m) (who : ℕ)
    (knowledge first last : List ℕ) (room : ℕ) (small : who < 256 ^ 16) (bytes_k : Bytes knowledge) (bytes_f : Bytes first) (bytes_l : Bytes last) where
  pub make_follows : (bs : List ℕ) → Good (acts m (make who knowledge first last room))
      → MakeMet R (f.stores who small).st knowledge first last bs
      → Follows R.limits (keep w (make who knowledge first last room) (some bs)) (acts m (make who knowledge first last room))
  unfolding keep acts
  make_follows bs good h =
      record {
        good = good;
        items = f.items;
        stores = f.stores;
        batches = paired_add R m.versions bs (record { first = value 0 first; last = value 0 last; ticks = m.ticks who }) w.batches m.batches moved f.batches;
      }
    where
      made_one : BatchFollows R.limits bs m.versions (record { first = id_of 24 first; last = id_of 24 last; ticks = m.ticks who })
      made_one =
          made_follows R (w.stores who) bs m.versions (m.ticks who) who h.given (id_of 24 first) (id_of 24 last) (f.stores who small)
          ((exact R permitted knowledge h.given bytes_k).0 h.reads).1 h.span (below_top (id_of 24 last) (id_below 24 last bytes_l)) h.needed h.learned h.records h.bytes

      moved : BatchFollows R.limits bs m.versions (record { first = value 0 first; last = value 0 last; ticks = m.ticks who })
      moved =
          subst (λ (x : ℕ). BatchFollows R.limits bs m.versions (record { first = x; last = value 0 last; ticks = m.ticks who })) (id_value 24 first h.first24)
          (subst (λ (x : ℕ). BatchFollows R.limits bs m.versions (record { first = id_of 24 first; last = x; ticks = m.ticks who })) (id_value 24 last h.last24) made_one)
