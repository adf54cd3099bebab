-- 14 is the number of just one refusal.
use Rattle.std.proofs.Common.{◌≡◌, refl, arith}
use Rattle.codec.specs.declared.Refusal.{Refusal}
use Rattle.codec.specs.declared.Refusal.TheVariants.{EndsInside, FixedFieldDiffers, CountBeyondLimits, FirstVectorNotEmpty, ReplicaTwice, WrongKey, TickTooLarge, BoundNotAbove, WrongIndex, BytesLeftOver}
use Rattle.codec.specs.declared.Refusal.TheVariants.{TooManyReplicas, TooManyRanges, TooManyRecords, BufferTooShort, StoreNotValid, BatchNotValid, WrongIds, NotCovered, NoLiveItem, TicksExhausted}
use Rattle.codec.specs.Refusal.{number}

short_only : (e : Refusal) → number e ≡ 14 → e ≡ BufferTooShort
unfolding number
short_only EndsInside z = absurd (omega (arith, z))
short_only FixedFieldDiffers z = absurd (omega (arith, z))
short_only CountBeyondLimits z = absurd (omega (arith, z))
short_only FirstVectorNotEmpty z = absurd (omega (arith, z))
short_only ReplicaTwice z = absurd (omega (arith, z))
short_only WrongKey z = absurd (omega (arith, z))
short_only TickTooLarge z = absurd (omega (arith, z))
short_only BoundNotAbove z = absurd (omega (arith, z))
short_only WrongIndex z = absurd (omega (arith, z))
short_only BytesLeftOver z = absurd (omega (arith, z))
short_only TooManyReplicas z = absurd (omega (arith, z))
short_only TooManyRanges z = absurd (omega (arith, z))
short_only TooManyRecords z = absurd (omega (arith, z))
short_only BufferTooShort z = refl
short_only StoreNotValid z = absurd (omega (arith, z))
short_only BatchNotValid z = absurd (omega (arith, z))
short_only WrongIds z = absurd (omega (arith, z))
short_only NotCovered z = absurd (omega (arith, z))
short_only NoLiveItem z = absurd (omega (arith, z))
short_only TicksExhausted z = absurd (omega (arith, z))

pub not_short : (e : Refusal) → (e ≡ BufferTooShort → ⊥) → number e ≡ 14 → ⊥
not_short e f z = f (short_only e z)
