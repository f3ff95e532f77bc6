use Rattle.std.proofs.Common.{sym, ap, ◌∙◌}
use Rattle.tiger_base.specs.declared.number.Stamp.{Stamp}
use Rattle.run_model.proofs.Reflects.{equal}
use Rattle.audit_verdict.proofs.clocks.shows_clock.Goals as goal

pub returns : goal.returns
returns c =
    let shown = ap (λ (s : Stamp). s.reading) c.stamp.ensures.stamp in
    let same = equal c.stamp.result.reading c.args.line.now.entry.now.stamp.reading in
    ((λ h. sym (same.0 h) ∙ shown), (λ e. same.1 (shown ∙ sym e)))
