-- The check of a store and of a batch in the order of the code: each test once, and the value at its places with no test. There is
-- nothing to believe here: the laws `opened_store` and `opened_batch` say that this is opening (specs/OpenStore.antt, specs/OpenBatch.antt).
use Rattle.std.specs.Prelude.{ℕ, Bool, true, false, List, eqb, leb, length, take, drop}
use Rattle.codec.specs.Number.{be_at}
use Rattle.codec.specs.Parsed.{Parsed, accepted, refused}
use Rattle.layout.specs.Knowledge.{Limits, any_id, Knowledge}
use Rattle.layout.specs.Parse.{parse}
use Rattle.ticks.specs.Written.{is_normal, eq_knowledge}
use Rattle.ticks.specs.Operations.{own_alike, project}
use Rattle.ticks.specs.Calls.{read_as}
use Rattle.replication.specs.Formats.{Store}
use Rattle.replication.specs.BatchFormat.{Batch}
use Rattle.replication.specs.Reading.{both}
use Rattle.replication.specs.MethodRecords.{records_at, shaped_at, each}
use Rattle.replication.specs.OpenStore.{own_id, knowledge_length, store_count, store_knowledge, store_table, versions_in}
use Rattle.replication.specs.OpenBatch.{first_id, last_id, needed_length, learned_length, batch_count, batch_needed, batch_learned, batch_table}
use Rattle.replication.specs.OpenBatch.{carried}

-- the value where the test holds, else the number
unfoldable pub accepted_if : {A : Type 0} → ℕ → Bool → A → Parsed A
accepted_if n true x = accepted x
accepted_if n false x = refused n

unfoldable pub is_accepted : {A : Type 0} → Parsed A → Bool
is_accepted (accepted x) = true
is_accepted (refused n) = false

-- ---- stores

-- the knowledge of a store, read from its part of the bytes
abbrev pub store_read : Limits → List ℕ → Parsed Knowledge
store_read L s = parse (any_id L) (take (knowledge_length s) (drop store_knowledge s))

-- the value in the bytes of a store, by places and with no test; an empty knowledge where the bytes of its knowledge are refused
unfoldable pub store_at : Limits → List ℕ → Store
store_at L s =
    record {
      own = own_id s;
      knowledge = read_as (store_read L s);
      records = records_at s (store_count s) (store_table s);
    }

unfoldable pub is_store : Limits → List ℕ → Bool
is_store L s =
    both (leb store_knowledge (length s))
    (both (eqb (be_at s 1 0) 3)
    (both (leb (store_table s) (length s))
    (both (leb (store_count s) L.records)
    (both (shaped_at s 0 (store_count s) (store_table s))
    (both (is_accepted (store_read L s))
    (both (is_normal (read_as (store_read L s)))
    (both (own_alike (own_id s) (read_as (store_read L s)))
    (each (versions_in (read_as (store_read L s))) (records_at s (store_count s) (store_table s))))))))))

-- ---- batches

-- the two knowledges of a batch, read from their parts of the bytes
abbrev pub needed_read : Limits → List ℕ → Parsed Knowledge
needed_read L s = parse (any_id L) (take (needed_length s) (drop batch_needed s))

abbrev pub learned_read : Limits → List ℕ → Parsed Knowledge
learned_read L s = parse (any_id L) (take (learned_length s) (drop (batch_learned s) s))

-- the value in the bytes of a batch, as of a store
unfoldable pub batch_at : Limits → List ℕ → Batch
batch_at L s =
    record {
      first = first_id s;
      last = last_id s;
      needed = read_as (needed_read L s);
      learned = read_as (learned_read L s);
      records = records_at s (batch_count s) (batch_table s);
    }

-- projecting onto the span leaves the knowledge as it is
unfoldable pub unchanged : ℕ → ℕ → Knowledge → Bool
unchanged first last k = eq_knowledge (project first last k) k

unfoldable pub is_batch : Limits → List ℕ → Bool
is_batch L s =
    both (leb batch_needed (length s))
    (both (eqb (be_at s 1 0) 4)
    (both (leb (batch_table s) (length s))
    (both (leb (batch_count s) L.records)
    (both (leb (first_id s) (last_id s))
    (both (shaped_at s 0 (batch_count s) (batch_table s))
    (both (is_accepted (needed_read L s))
    (both (is_normal (read_as (needed_read L s)))
    (both (is_accepted (learned_read L s))
    (both (is_normal (read_as (learned_read L s)))
    (both (unchanged (first_id s) (last_id s) (read_as (learned_read L s)))
    (each (carried (batch_at L s)) (records_at s (batch_count s) (batch_table s)))))))))))))
