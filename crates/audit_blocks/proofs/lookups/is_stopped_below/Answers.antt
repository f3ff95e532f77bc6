use Rattle.std.proofs.Common.{ℕ, ◌∙◌, ap}
use Rattle.std.specs.Prelude.{Option}
use Rattle.audit_blocks.specs.Told.{is_stop_below}
use Rattle.audit_blocks.proofs.Bridging.{stop_lines}
use Rattle.audit_blocks.proofs.lookups.is_stopped_below.Goals as goal

pub returns : goal.returns
returns c =
    let k = c.args.k.now in
    let p = k.course.plan.params in
    c.is_stop_below.ensures
    ∙ (ap (λ (o : Option ℕ). is_stop_below p c.args.time o) c.get.ensures
    ∙ (c.requires.stopped c.args.v.0 c.args.time ∙ stop_lines p c.args.v.0 c.args.time k.journals))
