use Rattle.std.proofs.Common.{ℕ, ◌+◌, ◌<◌, Bool, None, take, sym, ap, ◌∙◌, arith}
use Rattle.std.specs.Prelude.{if◌then◌else◌}
use Rattle.audit_verdict.specs.Telling.{death_lines}
use Rattle.audit_verdict.proofs.Told.{deaths_more, few_deaths}
use Rattle.audit_verdict.proofs.line.deaths_below.Goals as goal

pub with_death-count-requires : goal.with_death-count-requires
with_death-count-requires c = let few = c.loop-i.invariant.few in omega (arith, few)

pub loop-i-preserved : goal.loop-i-preserved
loop-i-preserved c =
    let ds = c.args.deaths.now in
    let i = c.loop-i.i in
    let low : i < c.args.n = c.loop-i-test.true in
    let counted =
    c.with_death-count.ensures
    ∙ ap (λ (n : ℕ). if c.dies_at.result then n + 1 else n) c.loop-i.invariant.counted
    ∙ ap (λ (b : Bool). if b then death_lines (take i ds) + 1 else death_lines (take i ds)) (c.dies_at.ensures None)
    ∙ sym (deaths_more ds i None (omega (arith, low, c.requires))) in
    let few = few_deaths ds (i + 1) in
    record { counted = counted; few = omega (arith, counted, few) }
