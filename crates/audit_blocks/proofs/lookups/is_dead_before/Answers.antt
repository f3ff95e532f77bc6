use Rattle.std.proofs.Common.{ℕ, ◌+◌, ◌∙◌, ap, List, nat_le}
use Rattle.std.specs.List.{list_any}
use Rattle.slot_plan.specs.Times.{time_of}
use Rattle.audit_blocks.proofs.Bridging.{death_lines}
use Rattle.audit_blocks.proofs.lookups.is_dead_before.Goals as goal

pub returns : goal.returns
returns c =
    let k = c.args.k.now in
    let p = k.course.plan.params in
    let test = λ (b : ℕ). nat_le (time_of p b + c.args.span) c.args.time in
    c.some_before.ensures
    ∙ (ap (λ (bs : List ℕ). list_any test bs) (c.under.ensures ∙ c.requires.told.died c.args.node)
    ∙ death_lines c.args.node test k.journals)
