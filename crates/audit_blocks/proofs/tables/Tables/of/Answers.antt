use Rattle.std.proofs.Common.{[], refl}
use Rattle.audit_blocks.proofs.Noting.{all_taken, journal_taken}
use Rattle.audit_blocks.proofs.tables.Tables.of.Goals as goal

pub loop-n-init : goal.loop-n-init
loop-n-init c = record { told = ([], c.new-tables.ensures c.args.plan.now.params, refl) }

pub loop-n-preserved : goal.loop-n-preserved
loop-n-preserved c = record {
  told = journal_taken c.args.plan.now.params c.loop-n.n c.args.journals.now c.index-journals-n.result _ _ c.loop-n-test.true
      c.index-journals-n.is c.in_ok-take_journal.ensures c.loop-n.invariant.told;
}

pub returns : goal.returns
returns c = all_taken c.args.plan.now.params c.loop-n.n c.args.journals.now _ c.loop-n-test.false c.loop-n.invariant.told
