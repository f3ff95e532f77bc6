use Rattle.run_promises.specs.Samples.{one_log}
use Rattle.run_promises.proofs.Worked as worked
use Rattle.run_promises.proofs.rows.one_viewer_is_served.Goals as goal

pub returns-clause-kept : goal.returns-clause-kept
returns-clause-kept c k p s = worked.one_viewer_is_kept_well k p s

pub returns-clause-promises : goal.returns-clause-promises
returns-clause-promises c k p s = worked.promises k p s

pub returns-clause-presses : goal.returns-clause-presses
returns-clause-presses c k p s = worked.presses k p s one_log

pub returns-clause-house : goal.returns-clause-house
returns-clause-house c k p s = worked.house k p s one_log

pub returns-clause-sound : goal.returns-clause-sound
returns-clause-sound c k p s = worked.sound k p s one_log

pub returns-clause-served : goal.returns-clause-served
returns-clause-served c k p s = worked.served_in_full k p s

pub returns-clause-settled : goal.returns-clause-settled
returns-clause-settled c k p s = worked.settled k p s

pub returns-clause-came : goal.returns-clause-came
returns-clause-came c k p s = worked.came k p s

pub returns-clause-not_over : goal.returns-clause-not_over
returns-clause-not_over c k p s = worked.not_over k p s
