-- The small limits are permitted, so demand 3 holds under them.
use lib.Dec.{lit≤}
use Rattle.layout.specs.Permitted.{longest, Permitted}
use Rattle.small_limits.specs.Small.{small}

pub small_permitted : Permitted small
unfolding longest
small_permitted = record { some_replica = lit≤ tt; some_range = lit≤ tt; replicas = lit≤ tt; ranges = lit≤ tt; records = lit≤ tt; lengths = lit≤ tt }
