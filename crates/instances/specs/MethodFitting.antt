-- Nothing to believe: do the values of a store or batch have room in their fields, its knowledge aside.
use Rattle.std.specs.Prelude.{◌^◌, Bool, true, List, [], ◌∷◌, ltb, length}
use Rattle.replication.specs.Record.{Rec}
use Rattle.replication.specs.Formats.{Store}
use Rattle.replication.specs.BatchFormat.{Batch}
use Rattle.replication.specs.Reading.{both}

unfoldable pub fitting : Rec → Bool
fitting r =
    both (ltb r.item (256 ^ 24))
    (both (ltb r.change_replica (256 ^ 16))
    (both (ltb r.change_tick (256 ^ 8))
    (both (ltb r.create_replica (256 ^ 16)) (both (ltb r.create_tick (256 ^ 8)) (ltb r.content.tag (256 ^ 16))))))

unfoldable pub all_fitting : List Rec → Bool
all_fitting [] = true
all_fitting (r ∷ rs) = both (fitting r) (all_fitting rs)

unfoldable pub fitting_table : List Rec → Bool
fitting_table rs = both (ltb (length rs) (256 ^ 4)) (all_fitting rs)

unfoldable pub fitting_store : Store → Bool
fitting_store st = both (ltb st.own (256 ^ 16)) (fitting_table st.records)

unfoldable pub fitting_batch : Batch → Bool
fitting_batch b = both (ltb b.first (256 ^ 24)) (both (ltb b.last (256 ^ 24)) (fitting_table b.records))
