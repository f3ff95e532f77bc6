use Rattle.audit_verdict.proofs.AtPlaces.{logged_line}
use Rattle.audit_verdict.proofs.logged.entry_in.Goals as goal

pub returns : goal.returns
returns c = λ k told timed.
    logged_line c.args.log.now c.args.i c.line_at-line.result c.count_before-place.result c.requires c.line_at-line.ensures
    c.count_before-place.ensures k told timed
