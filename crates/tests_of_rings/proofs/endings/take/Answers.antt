use Rattle.std.proofs.Common.{refl}
use Rattle.slot_plan.specs.Samples.{small}
use Rattle.tests_of_rings.proofs.endings.take.Goals as goal

-- in the small plan link 28 leads from cub 2 to cub 3, and link 26 from cub 1 to cub 2
pub take-requires-clause-in_link : goal.take-requires-clause-in_link
take-requires-clause-in_link c = (small, 2, (3, refl), (1, refl))
