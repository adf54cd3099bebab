-- `check_fields::field_at` meets its contract: each size has its reading.
use Rattle.check_fields.specs.Method.{field_of}
use Rattle.check_fields.proofs.field_at.Goals as goal

pub returns-in-One : goal.returns-in-One
unfolding field_of
returns-in-One c = rw (c.in-One.is, field_of) c.fixed.ensures

pub returns-in-Two : goal.returns-in-Two
unfolding field_of
returns-in-Two c = rw (c.in-Two.is, field_of) c.fixed-in-Two.ensures

pub returns-in-Four : goal.returns-in-Four
unfolding field_of
returns-in-Four c = rw (c.in-Four.is, field_of) c.fixed-in-Four.ensures
