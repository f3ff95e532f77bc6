use Rattle.kept_worlds.proofs.Worked.{dies-later, dies-at_once, dies-in_event}
use Rattle.kept_worlds.proofs.merge_rows.idle_deaths.Goals as goal

pub returns-clause-later : goal.returns-clause-later
returns-clause-later c = dies-later

pub returns-clause-same_beat : goal.returns-clause-same_beat
returns-clause-same_beat c = dies-at_once

pub returns-clause-in_event : goal.returns-clause-in_event
returns-clause-in_event c = dies-in_event
