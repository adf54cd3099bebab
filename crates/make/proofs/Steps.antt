-- The steps of make before the batch is made: 15 for the store, the given knowledge's own number, 17 for the span. Accepted inputs and a right
-- span give the parts of the batch that `made` is, and what is left of the call is then the reply of that batch.
use Prim.Native.Nat.{ℕ, ◌+◌, ◌-◌}
use mathlib.Core.Path.{◌≡◌, refl, sym, ap, ap₂, ◌∙◌, subst}
use mathlib.Core.Bool.{true, false}
use mathlib.Core.List.{List}
use Rattle.std.specs.Prelude.{Result, Ok, Err}
use native.Mathlib.Omega.{arith}
use lib.ListN.{length, take, drop}
use Rattle.codec.specs.Number.{Bytes}
use Rattle.codec.specs.Parsed.{accepted}
use Rattle.codec.specs.Reply.{Reply}
use Rattle.codec.specs.Ids.{item_of, InWords, item_read}
use Rattle.codec.specs.MethodEnded.{Ended}
use Rattle.codec.specs.Answer.{Answer}
use Rattle.codec.specs.Answer as A
use Rattle.codec.specs.declared.Item.{Item}
use Rattle.codec.specs.declared.Refusal.{Refusal}
use Rattle.codec.specs.Refusal.{number}
use Rattle.codec.proofs.Ended.{ended_refused}
use Rattle.codec.proofs.Ids.{item_there}
use Rattle.layout.specs.Knowledge as K
use Rattle.layout.specs.Knowledge.{Rules, any_id}
use Rattle.layout.specs.declared.Limits.{Limits}
use Rattle.layout.specs.Permitted.{rules_within}
use Rattle.layout.specs.Decode.{decode}
use Rattle.layout.specs.Parse.{checked_by, parse}
use Rattle.layout.proofs.Within.{within_permitted}
use Rattle.layout.proofs.Places.{places}
use Rattle.lookup.proofs.Span.{item_id}
use Rattle.ticks.specs.Calls.{id_of, wrong_span}
use Rattle.ticks.specs.Meaning.{Normal}
use Rattle.ticks.specs.Operations.{normalise}
use Rattle.ticks.proofs.ForCalls.{span_right}
use Rattle.ticks.proofs.ForCode.{refusing}
use Rattle.lookup.specs.declared.Cursor.{Cursor}
use Rattle.lookup.specs.declared.View.{View}
use Rattle.lookup.specs.Opened.{opened_of}
use Rattle.lookup.specs.Method.{open_of, Opens}
use Rattle.lookup.proofs.Calls.{opens, opens_refused}
use Rattle.lookup.proofs.Leaf.{opens_reading}
use Rattle.replication.specs.BatchFormat.{Batch}
use Rattle.replication.specs.Operate.{selected, made}
use Rattle.replication.specs.OpenStore.{knowledge_length, store_count, store_knowledge, store_table}
use Rattle.replication.specs.MethodOpening.{store_at}
use Rattle.replication.specs.MethodRecords.{shaped_at}
use Rattle.replication.specs.MethodTable.{recs_of, table_at}
use Rattle.replication.specs.MethodReplies.{batch_reply}
use Rattle.replication.specs.Calls.{make_reply}
use Rattle.replication.proofs.Contents.Valid.{store_exact}
use Rattle.replication.proofs.Opening.Store.{store_walked}
use Rattle.replication.proofs.Opening.Calls.{make_left}
use Rattle.replication.proofs.Refusals.Make.{make_store, make_own, make_17}
use Rattle.replication.proofs.Refusals.Tests.{means_span}
use Rattle.records_select.proofs.SelectedTables.{selected_needed, selected_fewer}
use Rattle.results.specs.MethodOpened.{limits_of}
use Rattle.store_open.specs.declared.KnowledgePart.{KnowledgePart}
use Rattle.store_open.specs.declared.OpenStore.{OpenStore}
use Rattle.store_open.specs.Method.{own_bytes, store_opened}
use Rattle.store_open.proofs.Opened.{StoreOpen, store_open, store_closed}
use Rattle.make.specs.declared.Task.{Task}
use Rattle.make.specs.Method.{Inputs, task_of, chosen_places, made_of, made_reply, Parts}

-- ---- from accepted inputs on

module _ (limits : Limits) (s : List ℕ) (own : KnowledgePart) (k : List ℕ) (given : View) (h : Inputs (limits_of limits) s own k given)
    (first last out : List ℕ) where
  abbrev L : K.Limits
  L = limits_of limits

  read : parse (any_id L) k ≡ accepted (decode k)
  read =
      let o = h.theirs in
      let stand = places (any_id L) k given.r o.v o.e o.g (opens_reading (any_id L) k given.r given.start o) in
      stand.read ∙ ap accepted (sym stand.value)

  pub make_no_span : wrong_span first last ≡ true → Ended (make_reply (any_id L) s k first last) out out (A.Refused 17)
  make_no_span e =
      ended_refused (make_reply (any_id L) s k first last) out 17
      ((make_17 (any_id L) s k first last (store_at L s) (decode k) h.value read).1 ((means_span first last).yes e))

  module _ (right : wrong_span first last ≡ false) (f l : Item) (ef : f ≡ item_read first) (el : l ≡ item_read last) where
    abbrev work : Task
    work = task_of own given f l limits

    abbrev batch : Batch
    batch = made_of s k work

    first_item_lem : item_of f ≡ id_of 24 first
    first_item_lem = ap item_of ef ∙ item_id first (span_right first last right).0

    last_item : item_of l ≡ id_of 24 last
    last_item = ap item_of el ∙ item_id last (span_right first last right).1.0

    place : store_knowledge + own.length ≡ store_table s
    place = ap (λ (n : ℕ). store_knowledge + n) h.size

    shaped : shaped_at s 0 (store_count s) (store_knowledge + own.length) ≡ true
    shaped = ap (shaped_at s 0 (store_count s)) place ∙ h.ordered

    made_records : batch.records ≡ selected (item_of f) (item_of l) (normalise (decode k)) (store_at L s).records
    unfolding made
    made_records = refl

    carried : recs_of s (chosen_places s k work) ≡ batch.records
    carried =
        selected_needed s work.table k given.r given.start (item_of f) (item_of l) (any_id L) (store_count s) h.theirs shaped h.bytes
        ∙ ap (selected (item_of f) (item_of l) (normalise (decode k))) (ap (table_at s) place ∙ h.records)
        ∙ sym made_records

    -- mine is the part of the store's bytes that code takes
    module _ (begins : InWords f) (words : InWords l) (mine : List ℕ) (em : mine ≡ take (work.table - store_knowledge) (drop store_knowledge s)) where
      own_part : mine ≡ own_bytes s
      own_part =
          let e : work.table - store_knowledge ≡ knowledge_length s = omega (arith, h.size) in
          em ∙ ap (λ (n : ℕ). take n (drop store_knowledge s)) e

      pub parts : Parts s mine k work
      parts = record {
        bytes = h.bytes;
        begins = begins;
        words = words;
        rises = omega (arith, first_item_lem, last_item, (span_right first last right).1.1);
        records = carried;
        fewer =
            omega (arith, selected_fewer s work.table k given.r given.start (item_of f) (item_of l) (store_count s) shaped, h.count);
        theirs = h.theirs;
        opens = subst (λ (x : List ℕ). Opens (any_id L) x own.view.r own.view.start) (sym own_part) h.opens;
        knowledge = h.knowledge ∙ ap decode (sym own_part);
        normal =
            subst Normal (h.knowledge ∙ ap decode (sym own_part))
            ((store_exact L s (store_at L s) h.opens.permitted h.bytes).0 h.value).1.normal;
      }

    pub make_ends : (u : List ℕ) (a : Answer) → Ended (made_reply s k work) out u a → Ended (make_reply (any_id L) s k first last) out u a
    make_ends u a e =
        subst (λ (reply : Reply). Ended reply out u a)
        (ap₂ (λ (x y : ℕ). batch_reply L (made (store_at L s) (decode k) x y)) first_item_lem last_item
        ∙ sym (make_left (any_id L) s (store_at L s) h.value k (decode k) read first last right)) e

-- ---- the checks of store and knowledge

module _ (limits : Limits) (s k first last : List ℕ) (o : Result OpenStore Refusal) (e : o ≡ store_opened (limits_of limits) s) (out : List ℕ) where
  abbrev M : K.Limits
  M = limits_of limits

  abbrev R : Rules
  R = any_id M

  abbrev a : ℕ
  a = limits.replicas

  abbrev b : ℕ
  b = limits.ranges

  abbrev n : ℕ
  n = limits.records

  pub make_not_store : (x : Refusal) → o ≡ Err x → Ended (make_reply R s k first last) out out (A.Refused (number x))
  make_not_store x f =
      ended_refused (make_reply R s k first last) out (number x)
      (make_store R s k first last (number x) (store_closed a b n s x (sym e ∙ f)))

  module _ (y : Bytes s) (x : OpenStore) (f : o ≡ Ok x) (q : Result View Refusal)
      (g : opened_of q ≡ open_of (checked_by (rules_within a b) k)) where
    opened : StoreOpen M s x.own x.count
    opened = store_open a b n s y x (sym e ∙ f)

    pub make_not_read : (j : Refusal) → q ≡ Err j → Ended (make_reply R s k first last) out out (A.Refused (number j))
    make_not_read j h =
        ended_refused (make_reply R s k first last) out (number j)
        ((make_own R s k first last (store_at M s) (number j) (number j) opened.value
        (refusing R k (number j) (opens_refused R (within_permitted a b n) k q g j h))).1 refl)

    pub make_inputs : Bytes k → (v : View) → q ≡ Ok v → Inputs M s x.own k v
    make_inputs z v h = record {
      bytes = y;
      value = opened.value;
      size = opened.length;
      inside = omega (arith, opened.length, opened.tests.inside);
      opens = opened.opens;
      knowledge = opened.knowledge;
      records = store_walked M s opened.tests;
      ordered = opened.tests.ordered;
      count = opened.tests.count;
      theirs = opens R (within_permitted a b n) k q g z v h;
    }
