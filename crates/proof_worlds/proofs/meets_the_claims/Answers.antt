use Rattle.proof_worlds.proofs.Worlds.{meets}
use Rattle.proof_worlds.proofs.meets_the_claims.Goals as goal

pub returns : goal.returns
returns g c =
    meets _ c.args.world.now c.is_what_its_events_make.ensures c.accepted_lists_meet_the_claims.ensures c.requires.counted c.requires.files
