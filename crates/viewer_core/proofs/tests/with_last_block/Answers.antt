use Rattle.std.proofs.Common.{refl}
use Rattle.slot_plan.specs.Samples.{small}
use Rattle.viewer_core.proofs.tests.with_last_block.Goals as goal

-- the last of the small plan's 18 nodes are the viewers, and links 16 to 23 lead there
pub told-requires-clause-in_link : goal.told-requires-clause-in_link
told-requires-clause-in_link c = (small, 17, refl, (0, refl))

pub told-requires-2-clause-in_link : goal.told-requires-2-clause-in_link
told-requires-2-clause-in_link c = (small, 17, refl, (2, refl))
