-- `check_fields::number` meets its contract: it makes the definition's test.
use Rattle.std.proofs.Common.{◌≡◌, ℕ, min, sym, ap, ◌∙◌, arith}
use Rattle.codec.specs.Total.{read_at}
use Rattle.codec.specs.Refusal.{number as refusal}
use Rattle.layout.specs.Got.{got_of}
use Rattle.check_fields.proofs.Steps.{number_short, number_is}
use Rattle.check_fields.proofs.number.Goals as goal

pub returns-then-beyond : goal.returns-then-beyond
unfolding got_of refusal
returns-then-beyond g c = sym (number_short _ _ _ _ (c.beyond.ensures.0 c.if-beyond.true))

pub returns : goal.returns
unfolding got_of
returns g c =
    let width : min g.row.N 8 ≡ g.row.N = omega arith in
    number_is _ _ _ _ _ (c.beyond.ensures.1 c.if-beyond.false)
    (c.read.ensures.value ∙ ap (λ (n : ℕ). read_at c.args.s.now n c.args.at) width)
