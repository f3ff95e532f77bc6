use Rattle.proof_worlds.proofs.Worlds.{never_wrongly, rightly}
use Rattle.proof_worlds.proofs.is_rightly_served.Goals as goal

pub returns-clause-never_wrongly : goal.returns-clause-never_wrongly
returns-clause-never_wrongly g c =
    never_wrongly _ c.args.world.now c.is_what_its_events_make.ensures c.accepted_lists_are_never_wrongly_served.ensures c.requires.counted c.requires.files

pub returns-clause-rightly : goal.returns-clause-rightly
returns-clause-rightly g c =
    rightly _ c.args.world.now c.is_what_its_events_make.ensures c.accepted_lists_are_rightly_served.ensures c.requires.counted c.requires.files
