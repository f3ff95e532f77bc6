use Rattle.std.proofs.Common.{◌≡◌, ◌+◌, ◌-◌, ◌∙◌, suc, sym, ap, arith}
use Rattle.node_kit.specs.declared.course.Course.{Course}
use Rattle.run_report.specs.Outcomes.{piece_sent}
use Rattle.run_report.proofs.Came.{one_more}
use Rattle.run_report.proofs.found.pieces_sent.Goals as goal

pub loop-k-preserved : goal.loop-k-preserved
loop-k-preserved c =
    let i = c.args.index.now in
    let p = i.course.plan.params in
    let k = c.loop-k.k in
    let same : c.course.result.now.plan.params.pieces ≡ p.pieces = ap (λ (x : Course). x.plan.params.pieces) c.course.ensures in
    let count : p.pieces + 1 - k ≡ suc (p.pieces + 1 - (k + 1)) = omega (arith, c.loop-k-test.true) in
    sym (one_more (piece_sent p i.journals c.args.v.0 c.args.visit) c.loop-k.sent c.push.new.self k (p.pieces + 1 - k) (p.pieces + 1 - (k + 1))
    c.in-Some.beat count (sym c.piece_sent.ensures ∙ c.in-Some.is) c.in_ok-push-in-Some.ensures.ok)
    ∙ c.loop-k.invariant
