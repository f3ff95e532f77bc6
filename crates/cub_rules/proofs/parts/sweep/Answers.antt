use Rattle.std.proofs.Common.{rules, tests}
use Rattle.std.proofs.lemmas.Fn.{filter_same}
use Rattle.cub_rules.specs.Fresh.{is_fresh}
use Rattle.cub_rules.proofs.parts.sweep.Goals as goal

pub returns-clause-left : goal.returns-clause-left
returns-clause-left c = filter_same _ (is_fresh c.args.forgotten_to.now) _ (λ x b q h. search (rules, tests)) _ _ c.retain.ensures.filtered
