use Rattle.std.proofs.Common.{rules}
use Rattle.ring_links.proofs.Steps.{begins, forks}
use Rattle.ring_links.proofs.opening.Way.new.Goals as goal

pub with_rule-requires : goal.with_rule-requires
with_rule-requires g c = begins

pub another-other_pass-requires-clause-rule : goal.another-other_pass-requires-clause-rule
another-other_pass-requires-clause-rule g c = forks _ _ (search rules) (search rules)
