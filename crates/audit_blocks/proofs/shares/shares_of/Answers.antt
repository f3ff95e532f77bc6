use Rattle.std.proofs.Common.{List, sym, subst, take}
use Rattle.run_facts.specs.Order.{Noted}
use Rattle.audit_frame.specs.Lines.{told_by}
use Rattle.audit_frame.proofs.Deciding.{all_lines, line_more}
use Rattle.audit_blocks.specs.Shares.{AreSharesOf}
use Rattle.audit_blocks.proofs.Sharing.{no_shares}
use Rattle.audit_blocks.proofs.shares.shares_of.Goals as goal

pub loop-i-init : goal.loop-i-init
loop-i-init c = record { counted = no_shares c.args.kept.now _ c.of_nothing-shares.ensures }

pub loop-i-preserved : goal.loop-i-preserved
loop-i-preserved c = record {
  counted = subst (λ (log : List Noted). AreSharesOf c.args.kept.now log c.in_ok-shares.shares)
      (sym (line_more c.args.log.now c.loop-i.i c.line_at.result c.loop-i-test.true c.line_at.ensures))
      (c.in_ok-shares.ensures (take c.loop-i.i (told_by c.args.log.now)) c.loop-i.invariant.counted);
}

pub returns : goal.returns
returns c =
    subst (λ (log : List Noted). AreSharesOf c.args.kept.now log c.loop-i.shares) (all_lines c.args.log.now c.loop-i.i c.loop-i-test.false)
    c.loop-i.invariant.counted
