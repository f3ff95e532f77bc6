use Rattle.std.proofs.Common.{List, ap, ◌∙◌}
use Rattle.std.proofs.lemmas.List.{take_rest}
use Rattle.tiger_base.specs.Records.{same_want}
use Rattle.cub_rules.specs.declared.parts.KeptPart.{KeptPart}
use Rattle.cub_rules.specs.Fresh.{first_part}
use Rattle.cub_rules.proofs.Finding.{passed_before}
use Rattle.cub_rules.proofs.parts.find_by_leaving.Goals as goal

pub returns-then-items-far : goal.returns-then-items-far
returns-then-items-far c =
    c.find_in_order.ensures
    ∙ (ap (λ (ks : List KeptPart). first_part (λ k. same_want c.args.want k.stored.want) ks) (take_rest c.args.items.now c.saturating_sub-far.result)
    ∙ passed_before c.args.want c.args.leaving c.saturating_sub-far.result c.index-items-far.result c.args.items.now c.requires.order c.requires.above c.if-far-items.true c.if-items-far.true)
