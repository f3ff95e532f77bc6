use Rattle.audit_verdict.specs.Clocks.{ShowClocks}
use Rattle.audit_verdict.proofs.Readings.{lines_of_beats}
use Rattle.audit_verdict.proofs.Decided.{inside_log, readings_told, untimed_told}
use Rattle.audit_verdict.proofs.Needed.{few_journals}
use Rattle.audit_verdict.proofs.orders.untimed.Goals as goal

pub first_untimed-requires : goal.first_untimed-requires
first_untimed-requires c = few_journals c.args.kept.now c.requires.writable

pub first_false_reading-requires-clause-course : goal.first_false_reading-requires-clause-course
first_false_reading-requires-clause-course c = c.requires.writable.course

pub first_false_reading-requires-clause-beats : goal.first_false_reading-requires-clause-beats
first_false_reading-requires-clause-beats c =
    lines_of_beats c.args.kept.now c.args.log.now c.requires.writable.course c.requires.told

pub logged-requires : goal.logged-requires
logged-requires c =
    inside_log (ShowClocks c.args.kept.now.course) c.args.log.now c.first_false_reading.result c.first_false_reading.ensures

pub returns-in-Some : goal.returns-in-Some
returns-in-Some c =
    untimed_told c.args.kept.now c.in-Some.found c.at_time.result c.in-Some.ensures c.at_time.ensures

pub returns-in-None : goal.returns-in-None
returns-in-None c =
    readings_told c.args.kept.now _ c.first_false_reading.result c.logged.result c.in-None.ensures c.requires.told c.first_false_reading.ensures
    (c.logged.ensures c.args.kept.now c.requires.told c.in-None.ensures)
