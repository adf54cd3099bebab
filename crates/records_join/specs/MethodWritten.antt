-- A record that is written, by its words, and the bytes of its versions. There is nothing to believe here: the contract of `write_record` has
-- the record's bytes by `replication`, and the law `record_table` says that they are read as the record.
use Rattle.std.specs.Prelude.{List, ℕ}
use Rattle.codec.specs.Number.{put}
use Rattle.codec.specs.Ids.{item_of, replica_of}
use Rattle.codec.specs.Words.{words2}
use Rattle.replication.specs.Record.{Rec}
use Rattle.records_join.specs.declared.RecordWords.{RecordWords}
use Rattle.records_join.specs.declared.VersionWords.{VersionWords}

unfoldable pub record_of : RecordWords → Rec
record_of w =
    record {
      item = item_of w.item;
      change_replica = replica_of w.change.replica;
      change_tick = w.change.tick;
      create_replica = replica_of w.create.replica;
      create_tick = w.create.tick;
      content = record { deleted = w.deleted; tag = words2 w.tag.high w.tag.low };
    }

-- the bytes of a version, but for its item, in front of t; and of a change and a create version
abbrev pub put_version : VersionWords → List ℕ → List ℕ
put_version v t = put 16 (replica_of v.replica) (put 8 v.tick t)

abbrev pub put_versions : VersionWords → VersionWords → List ℕ → List ℕ
put_versions change create t = put_version change (put_version create t)
