use Rattle.std.proofs.Common.{◌≡◌, drop}
use Rattle.tiger_base.specs.Records.{same_want}
use Rattle.cub_rules.specs.Fresh.{first_part}
use Rattle.cub_rules.proofs.parts.find_in_order.Given as goal

abbrev pub invariant-loop-i : goal.invariant-loop-i
invariant-loop-i l =
    first_part (λ k. same_want l.want k.stored.want) (drop l.i l.items) ≡ first_part (λ k. same_want l.want k.stored.want) l.items
