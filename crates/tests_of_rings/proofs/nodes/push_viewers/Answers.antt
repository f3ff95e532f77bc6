use Rattle.std.proofs.Common.{refl}
use Rattle.std.proofs.lemmas.Option.{slice_get_read}
use Rattle.slot_plan.specs.Samples.{small}
use Rattle.tests_of_rings.proofs.nodes.push_viewers.Goals as goal

-- the last of the 18 nodes of the small plan are the viewers, and link 16 leads there
pub told-requires-clause-in_link : goal.told-requires-clause-in_link
told-requires-clause-in_link c =
    let here = c.in-Some.ensures.item in
    (small, 17, c.requires 17 _ (slice_get_read c.args.nodes.now.items _ 17 c.in-Some.viewers.now refl here.3.0 here.1), (0, refl))
