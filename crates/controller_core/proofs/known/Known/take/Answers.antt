use Rattle.std.proofs.Common.{rules}
use Rattle.controller_core.proofs.InForm.{placed_in_form}
use Rattle.controller_core.proofs.known.Known.take.Goals as goal

pub returns-in-Placed-clause-in_form : goal.returns-in-Placed-clause-in_form
returns-in-Placed-clause-in_form c =
    placed_in_form c.args.plan.now.params c.in-Placed.tenancy c.args.self.now c.place.new.self c.place.result (search rules) c.requires c.place.ensures.placed c.place.ensures.err
