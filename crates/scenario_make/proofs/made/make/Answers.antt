use Rattle.scenario_make.specs.Draws.{generator_of}
use Rattle.scenario_make.proofs.Making.{Follow, made-said, made-contents, as_many, none_empty, all_short}
use Rattle.scenario_make.proofs.Sounds.{made-sound}
use Rattle.scenario_make.proofs.made.make.Goals as goal

pub returns-clause-said : goal.returns-clause-said
unfolding generator_of
returns-clause-said c =
    let follow : Follow c.new-generator.result c.offsets.new.generator c.files.new.generator c.events.new.generator c.deaths.new.generator =
    record { files = c.in_ok-offsets.ensures.after; events = c.in_ok-files.ensures.after; deaths = c.in_ok-events.ensures.after; faults = c.in_ok-deaths.ensures.after } in
    made-said c.args.number c.new-generator.result c.offsets.new.generator c.files.new.generator c.events.new.generator c.deaths.new.generator c.made_plan.result.params
    c.in_ok-offsets.offsets c.in_ok-deaths.deaths c.in_ok-cuts.cuts c.in_ok-backs.backs c.in_ok-faults.faults c.in_ok-files.files.lines c.in_ok-events.events c.new-generator.ensures follow c.made_plan.ensures
    c.in_ok-offsets.ensures.offsets c.in_ok-files.ensures.lines c.in_ok-events.ensures.events c.in_ok-deaths.ensures.deaths c.in_ok-cuts.ensures c.in_ok-backs.ensures c.in_ok-faults.ensures.faults

pub returns-clause-library : goal.returns-clause-library
unfolding generator_of
returns-clause-library c =
    made-contents c.args.number c.new-generator.result c.offsets.new.generator c.in_ok-files.files.library c.new-generator.ensures c.in_ok-offsets.ensures.after c.in_ok-files.ensures.library

pub returns-clause-sound : goal.returns-clause-sound
returns-clause-sound c = made-sound _ c.args.number (returns-clause-said c)

pub returns-clause-all : goal.returns-clause-all
returns-clause-all c = as_many c.offsets.new.generator c.in_ok-files.files.library c.in_ok-files.files.lines c.in_ok-files.ensures.library c.in_ok-files.ensures.lines

pub returns-clause-filled : goal.returns-clause-filled
returns-clause-filled c = none_empty c.offsets.new.generator c.in_ok-files.files.library c.in_ok-files.ensures.library

pub returns-clause-short : goal.returns-clause-short
returns-clause-short c = all_short c.offsets.new.generator c.in_ok-files.files.library c.in_ok-files.ensures.library
