use Rattle.serde_json.specs.View.{view}
use Rattle.scenario_read.proofs.Sounds.{read-sound}
use Rattle.scenario_read.proofs.reading.read_scenario.Goals as goal

pub returns-in-Some-clause-sound : goal.returns-in-Some-clause-sound
returns-in-Some-clause-sound c = read-sound c.scenario_of.result (view c.in-Some.value) c.scenario_of.ensures
