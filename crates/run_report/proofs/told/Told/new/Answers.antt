use Rattle.run_report.proofs.Fronts.{none_told}
use Rattle.run_report.proofs.told.Told.new.Goals as goal

pub returns : goal.returns
returns c = λ p. none_told p _ c.new.ensures c.new-2.ensures c.new-3.ensures c.new-4.ensures c.new-5.ensures
