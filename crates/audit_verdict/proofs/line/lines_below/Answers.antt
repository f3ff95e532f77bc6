use Rattle.std.proofs.Common.{◌<◌, [], sym, ◌∙◌, arith}
use Rattle.audit_verdict.proofs.Told.{lines_more}
use Rattle.audit_verdict.proofs.line.lines_below.Goals as goal

pub loop-i-preserved : goal.loop-i-preserved
loop-i-preserved c =
    let js = c.args.journals.now in
    let i = c.loop-i.i in
    let low : i < c.args.n = c.loop-i-test.true in
    let before = c.loop-i.invariant.counted in
    let long = c.length_at.ensures [] in
    let more = c.in_ok-more.ensures in
    let next = c.in_ok-lines.ensures in
    record { counted = omega (arith, next, more, long, before) ∙ sym (lines_more js i [] (omega (arith, low, c.requires))) }
