use Rattle.std.proofs.Common.{subst}
use Rattle.tests_of_rings.specs.Toys.{LeadFrom}
use Rattle.tests_of_rings.proofs.workers.worked_text.Goals as goal

pub run_workers-requires-clause-stand : goal.run_workers-requires-clause-stand
run_workers-requires-clause-stand g c κs within n s e = subst (λ t. LeadFrom t n s.out s.relay) c.new-links.ensures (c.in_ok-nodes.ensures.stand n s e)
