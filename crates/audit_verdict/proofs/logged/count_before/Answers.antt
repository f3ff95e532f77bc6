use Rattle.std.proofs.Common.{ℕ, ◌+◌, ◌<◌, sym, ap, ◌∙◌, arith}
use Rattle.std.specs.Prelude.{◌==◌, if◌then◌else◌}
use Rattle.audit_verdict.proofs.AtPlaces.{few_counted, one_counted}
use Rattle.audit_verdict.proofs.logged.count_before.Goals as goal

pub with_line-count-requires : goal.with_line-count-requires
with_line-count-requires c = let few = c.loop-j.invariant.few in omega (arith, few)

pub loop-j-preserved : goal.loop-j-preserved
loop-j-preserved c =
    let lines = c.args.log.now in
    let x = c.line_at.result in
    let node = c.args.node.0 in
    let low : c.loop-j.j < c.args.i = c.loop-j-test.true in
    let counted =
    c.with_line-count.ensures
    ∙ ap (λ (n : ℕ). if x.node.0 == node then n + 1 else n) c.loop-j.invariant.counted
    ∙ sym (one_counted lines node c.loop-j.j x (omega (arith, low, c.requires)) c.line_at.ensures) in
    record { counted = counted; few = few_counted lines node (c.loop-j.j + 1) _ counted }
