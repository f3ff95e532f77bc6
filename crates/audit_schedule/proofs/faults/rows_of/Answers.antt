use Rattle.audit_schedule.proofs.Rowed.{all_rows, no_rows, one_row_more}
use Rattle.audit_schedule.proofs.faults.rows_of.Goals as goal

pub loop-fault-init : goal.loop-fault-init
loop-fault-init c = record { stand = no_rows _ c.new-rows.ensures.items }

pub loop-fault-preserved : goal.loop-fault-preserved
loop-fault-preserved c = record {
  stand = one_row_more c.loop-fault.fault-index c.args.faults.now _ _ _ c.loop-fault-test.true c.in_ok-push_fault.ensures
      c.loop-fault.invariant.stand;
}

pub returns : goal.returns
returns c = all_rows c.loop-fault.fault-index c.args.faults.now _ c.loop-fault-test.false c.loop-fault.invariant.stand
