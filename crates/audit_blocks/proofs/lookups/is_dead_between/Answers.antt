use Rattle.std.proofs.Common.{ℕ, ◌+◌, ◌∙◌, ◌&&◌, ap, List, nat_lt}
use Rattle.std.specs.List.{list_any}
use Rattle.slot_plan.specs.Times.{time_of}
use Rattle.run_model.specs.Served.{journal_at}
use Rattle.audit_blocks.proofs.Answering.{grouped_deaths}
use Rattle.audit_blocks.proofs.Bridging.{death_lines}
use Rattle.audit_blocks.proofs.lookups.is_dead_between.Goals as goal

pub returns : goal.returns
returns c =
    let k = c.args.k.now in
    let p = k.course.plan.params in
    let test = λ (b : ℕ). nat_lt c.args.time (time_of p b + c.args.span) && nat_lt (time_of p b) c.args.end in
    c.some_between.ensures
    ∙ (ap (λ (bs : List ℕ). list_any test bs) (c.under.ensures ∙ c.requires.told.died c.args.node)
    ∙ (death_lines c.args.node test k.journals ∙ grouped_deaths p c.args.span c.args.time c.args.end (journal_at k.journals c.args.node)))
