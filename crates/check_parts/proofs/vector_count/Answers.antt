-- `check_parts::vector_count` meets its contract: the count, then its limits.
use Rattle.std.proofs.Common.{◌+◌, ◌∙◌, ap}
use Rattle.layout.specs.Got.{Got}
use Rattle.layout.specs.Parse.{vector_count}
use Rattle.layout.specs.Read.{◌▷◌, limit}
use Rattle.check_fields.proofs.Steps.{limited}
use Rattle.check_parts.proofs.vector_count.Goals as goal

pub returns : goal.returns
unfolding vector_count
returns c =
    limited _ _ _ _ c.in_limits.ensures ∙ ap (λ (k : Got). k ▷ limit 1 (c.args.most + 1)) c.count_of_vectors.ensures
