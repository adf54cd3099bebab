-- `codec::read` meets its contract: where a byte is missing the number is 0, and else it is that of the part.
use Rattle.std.proofs.Common.{ℕ, sym, ap, ◌∙◌}
use Rattle.codec.specs.Total.{read_at}
use Rattle.codec.proofs.Numbers.{power_positive}
use Rattle.codec.proofs.Reading.{be_of_part, eight_read, four_read}
use Rattle.codec.proofs.Total.{read_missing}
use Rattle.codec.proofs.read.Goals as goal

pub returns-then-beyond-clause-value : goal.returns-then-beyond-clause-value
returns-then-beyond-clause-value g c =
    sym (read_missing _ _ _ (c.beyond.ensures.0 c.if-beyond.true))
    ∙ ap (λ (n : ℕ). read_at c.args.s.now n c.args.at) c.min-n.ensures

pub returns-then-beyond-clause-upper_bound : goal.returns-then-beyond-clause-upper_bound
returns-then-beyond-clause-upper_bound g c = power_positive _

pub returns-in-8-clause-value : goal.returns-in-8-clause-value
returns-in-8-clause-value g c =
    eight_read _ _ _ _ _ c.in-8.is (c.beyond.ensures.1 c.if-beyond.false) c.four.ensures.0 c.four-in-8.ensures.0
    ∙ ap (λ (n : ℕ). read_at c.args.s.now n c.args.at) c.min-n.ensures

pub returns-in-4-clause-value : goal.returns-in-4-clause-value
returns-in-4-clause-value g c =
    four_read _ _ _ _ c.in-4.is (c.beyond.ensures.1 c.if-beyond.false) c.four-in-4.ensures.0
    ∙ ap (λ (n : ℕ). read_at c.args.s.now n c.args.at) c.min-n.ensures

pub returns-in_default-clause-value : goal.returns-in_default-clause-value
returns-in_default-clause-value g c =
    c.big_endian.ensures.0
    ∙ be_of_part _ _ _ (c.beyond.ensures.1 c.if-beyond.false)
    ∙ ap (λ (n : ℕ). read_at c.args.s.now n c.args.at) c.min-n.ensures
