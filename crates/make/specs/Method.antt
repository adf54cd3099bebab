-- What a make has at hand, step by step, once its inputs are accepted. There is nothing to believe here: the call's contract cites the reply
-- of `replication` (`make_reply`, specs/Calls.antt).
use Rattle.std.specs.Prelude.{ℕ, ◌+◌, ◌≤◌, ◌≡◌, Bool, true, false, List, eqb, length}
use Rattle.codec.specs.Number.{Bytes}
use Rattle.codec.specs.Parsed.{accepted}
use Rattle.codec.specs.Reply.{Reply}
use Rattle.codec.specs.MethodEnded.{End}
use Rattle.codec.specs.declared.Item.{Item}
use Rattle.codec.specs.declared.Span.{Span}
use Rattle.codec.specs.Ids.{item_of, InWords}
use Rattle.layout.specs.Knowledge as K
use Rattle.layout.specs.Knowledge.{any_id}
use Rattle.layout.specs.declared.Limits.{Limits}
use Rattle.layout.specs.Decode.{decode}
use Rattle.ticks.specs.Meaning.{highest, Normal}
use Rattle.ticks.specs.Operations.{normalise}
use Rattle.lookup.specs.declared.View.{View}
use Rattle.lookup.specs.Method.{Opens}
use Rattle.replication.specs.BatchFormat.{Batch}
use Rattle.replication.specs.Operate.{made}
use Rattle.replication.specs.OpenStore.{knowledge_length, store_count, store_knowledge, store_table, open_store}
use Rattle.replication.specs.MethodOpening.{store_at}
use Rattle.replication.specs.MethodRecords.{shaped_at}
use Rattle.replication.specs.MethodTable.{recs_of, table_at}
use Rattle.replication.specs.MethodReplies.{batch_reply}
use Rattle.store_open.specs.declared.KnowledgePart.{KnowledgePart}
use Rattle.store_open.specs.Method.{own_bytes}
use Rattle.records_select.specs.MethodSelect.{select_places}
use Rattle.results.specs.MethodOpened.{limits_of, result_of, copied_end, projected_end}
use Rattle.make.specs.declared.Task.{Task}

-- ---- inputs that are accepted

-- limits accept the store s, with its own knowledge, and the given knowledge k
pub record Inputs (L : K.Limits) (s : List ℕ) (own : KnowledgePart) (k : List ℕ) (given : View) : Type 0 where
  pub bytes : Bytes s
  pub value : open_store L s ≡ accepted (store_at L s)
  pub size : own.length ≡ knowledge_length s
  pub inside : store_knowledge + own.length ≤ length s
  pub opens : Opens (any_id L) (own_bytes s) own.view.r own.view.start
  pub knowledge : (store_at L s).knowledge ≡ decode (own_bytes s)
  pub records : table_at s (store_table s) ≡ (store_at L s).records
  pub ordered : shaped_at s 0 (store_count s) (store_table s) ≡ true
  pub count : store_count s ≤ L.records
  pub theirs : Opens (any_id L) k given.r given.start

-- what a make of them goes by
abbrev pub task_of : KnowledgePart → View → Item → Item → Limits → Task
task_of own given first last limits = record {
  table = store_knowledge + own.length;
  own = own.view;
  given = given;
  span = record { first = first; last = last };
  limits = limits;
}

-- ---- what the batch is made of

-- the batch that is made of a store s for the given knowledge k
abbrev pub made_of : List ℕ → List ℕ → Task → Batch
made_of s k w = made (store_at (limits_of w.limits) s) (decode k) (item_of w.span.first) (item_of w.span.last)

-- what the call comes to, and what needed alone comes to
abbrev pub made_reply : List ℕ → List ℕ → Task → Reply
made_reply s k w = batch_reply (limits_of w.limits) (made_of s k w)

abbrev pub needed_reply : List ℕ → Task → Reply
needed_reply k w = result_of w.limits (normalise (decode k))

-- is a span all ids
unfoldable pub all_ids : Span → Bool
all_ids x = elim (eqb (item_of x.first) 0) [ true ↦ eqb (item_of x.last) highest | false ↦ false ]

-- what is left of a buffer into which learned is written: mine, the store's own knowledge, as it stands or projected
unfoldable pub learned_end : List ℕ → Task → List ℕ → End
learned_end mine w out =
    elim (all_ids w.span) [ true ↦ copied_end mine out | false ↦ projected_end w.limits mine w.own w.span out ]

-- the places of its records in s: those of the span that the knowledge k lacks
abbrev pub chosen_places : List ℕ → List ℕ → Task → List ℕ
chosen_places s k w = select_places s w.table k w.given.r w.given.start (item_of w.span.first) (item_of w.span.last)

-- a span, the records in it, no more of them than the limit, the given knowledge k, and mine, the store's own one, in normal form
pub record Parts (s mine k : List ℕ) (w : Task) : Type 0 where
  pub bytes : Bytes s
  pub begins : InWords w.span.first
  pub words : InWords w.span.last
  pub rises : item_of w.span.first ≤ item_of w.span.last
  pub records : recs_of s (chosen_places s k w) ≡ (made_of s k w).records
  pub fewer : length (chosen_places s k w) ≤ (limits_of w.limits).records
  pub theirs : Opens (any_id (limits_of w.limits)) k w.given.r w.given.start
  pub opens : Opens (any_id (limits_of w.limits)) mine w.own.r w.own.start
  pub knowledge : (store_at (limits_of w.limits) s).knowledge ≡ decode mine
  pub normal : Normal (decode mine)
