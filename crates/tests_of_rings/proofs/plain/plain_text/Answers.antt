use Rattle.std.proofs.Common.{subst}
use Rattle.tests_of_rings.specs.Toys.{LeadFrom}
use Rattle.tests_of_rings.proofs.plain.plain_text.Goals as goal

pub run_plain-requires-clause-stand : goal.run_plain-requires-clause-stand
run_plain-requires-clause-stand c n s e = subst (λ t. LeadFrom t n s.out s.relay) c.new-links.ensures (c.in_ok-nodes.ensures.stand n s e)
