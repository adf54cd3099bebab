-- The number of each refusal: document 01's table "Where a fault is caught".
use Rattle.std.specs.Prelude.{ℕ}
use Rattle.codec.specs.declared.Refusal.{Refusal}
use Rattle.codec.specs.declared.Refusal.TheVariants.{EndsInside, FixedFieldDiffers, CountBeyondLimits, FirstVectorNotEmpty, ReplicaTwice, WrongKey, TickTooLarge, BoundNotAbove, WrongIndex, BytesLeftOver}
use Rattle.codec.specs.declared.Refusal.TheVariants.{TooManyReplicas, TooManyRanges, TooManyRecords, BufferTooShort, StoreNotValid, BatchNotValid, WrongIds, NotCovered, NoLiveItem, TicksExhausted}

unfoldable pub number : Refusal → ℕ
number EndsInside = 1
number FixedFieldDiffers = 2
number CountBeyondLimits = 3
number FirstVectorNotEmpty = 4
number ReplicaTwice = 5
number WrongKey = 6
number TickTooLarge = 7
number BoundNotAbove = 8
number WrongIndex = 9
number BytesLeftOver = 10
number TooManyReplicas = 11
number TooManyRanges = 12
number TooManyRecords = 13
number BufferTooShort = 14
number StoreNotValid = 15
number BatchNotValid = 16
number WrongIds = 17
number NotCovered = 18
number NoLiveItem = 19
number TicksExhausted = 20
