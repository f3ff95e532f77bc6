use Rattle.std.proofs.Common.{◌∙◌, ◌+◌, ◌-◌, length, sym, ap, arith}
use Rattle.std.specs.List.{fold}
use Rattle.net_run.specs.declared.peak.Peak.{Peak}
use Rattle.net_run.specs.Peaks.{higher}
use Rattle.net_run.proofs.Loads.{peaks_in, peak_turn}
use Rattle.net_run.proofs.peak.Peak.or_higher.Goals as goal

pub loop-k-preserved : goal.loop-k-preserved
loop-k-preserved c =
    ap (λ (p : Peak). fold higher p (peaks_in c.args.row.now (c.loop-k.k + 1) (length c.args.row.now - (c.loop-k.k + 1)))) c.or_higher_one-peak.ensures
    ∙ sym (peak_turn c.loop-k.peak c.args.row.now c.loop-k.k (length c.args.row.now) (omega arith)) ∙ c.loop-k.invariant
