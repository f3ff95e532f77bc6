use Rattle.std.proofs.lemmas.Bool.{both_ways}
use Rattle.audit_blocks.specs.Verdicts.{IsServedIn, IsPutHere}
use Rattle.audit_blocks.proofs.Claiming.{at_line, log_is_put, wrong_entry, right_entry, all_right_entries}
use Rattle.audit_blocks.proofs.unserved.first_unserved.Goals as goal

pub loop-i-init : goal.loop-i-init
loop-i-init c = record { right = tt }

pub returns-then-not-is_served_entry : goal.returns-then-not-is_served_entry
returns-then-not-is_served_entry c =
    let k = c.args.kept.now in
    let lines = c.args.log.now in
    let x = c.line_at-line.result in
    let put = at_line (IsPutHere k) lines c.loop-i.i x (log_is_put k _ c.requires.told) c.loop-i-test.true c.line_at-line.ensures in
    wrong_entry (IsServedIn k) lines c.loop-i.i x c.loop-i-test.true c.line_at-line.ensures c.loop-i.invariant.right
    (λ r. both_ways c.is_served_entry.result c.if-not-is_served_entry.true ((c.is_served_entry.ensures put).1 r))

pub loop-i-preserved : goal.loop-i-preserved
loop-i-preserved c =
    let k = c.args.kept.now in
    let lines = c.args.log.now in
    let x = c.line_at-line.result in
    let put = at_line (IsPutHere k) lines c.loop-i.i x (log_is_put k _ c.requires.told) c.loop-i-test.true c.line_at-line.ensures in
    record {
      right = right_entry (IsServedIn k) lines c.loop-i.i x c.loop-i-test.true c.line_at-line.ensures c.loop-i.invariant.right
          ((c.is_served_entry.ensures put).0 c.if-not-is_served_entry.false);
    }

pub returns : goal.returns
returns c = all_right_entries (IsServedIn c.args.kept.now) c.args.log.now c.loop-i.i c.loop-i-test.false c.loop-i.invariant.right
