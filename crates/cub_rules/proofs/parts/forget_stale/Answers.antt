use Rattle.std.proofs.Common.{rules, tests, not}
use Rattle.std.proofs.lemmas.Fn.{filter_same}
use Rattle.cub_rules.specs.declared.parts.KeptPart.{KeptPart}
use Rattle.cub_rules.specs.Fresh.{is_stale_here}
use Rattle.cub_rules.proofs.parts.forget_stale.Goals as goal

pub returns : goal.returns
returns c =
    filter_same _ (λ (k : KeptPart). not (is_stale_here c.args.plan.now.params c.args.reading k.stored)) _ (λ x b q h. search (rules, tests)) _ _ c.retain.ensures.filtered
