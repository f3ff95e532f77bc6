use Rattle.std.proofs.Common.{ℕ, ◌/◌, nat_le, ap, ◌∙◌}
use Rattle.audit_frame.proofs.Spans.{within_is}
use Rattle.audit_frame.proofs.within.is_within.Goals as goal

pub returns : goal.returns
returns c =
    let p = c.args.plan.now.params in
    ap (λ (late : ℕ). nat_le late (c.args.span / p.beat)) c.beats_behind-late.ensures
    ∙ within_is p c.args.beat c.args.other c.args.span c.args.plan.now.sound.ranges.beat.0
