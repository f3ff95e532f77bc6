use Rattle.audit_frame.specs.declared.records.By.TheVariants as way
use Rattle.audit_frame.proofs.Joined.{ok_always}
use Rattle.audit_waits.proofs.cubs.Cubs.take_death.Goals as goal

pub returns-clause-records : goal.returns-clause-records
returns-clause-records c = ok_always c.add.result _ (c.clear.ensures way.Slot)
