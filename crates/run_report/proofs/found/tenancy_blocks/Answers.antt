use Rattle.std.proofs.Common.{◌≡◌, ◌∙◌, false, sym, ap, arith}
use Rattle.node_kit.specs.declared.course.Course.{Course}
use Rattle.run_report.specs.Outcomes.{is_settled, settled_block, blocks_of}
use Rattle.run_report.proofs.Ranges.{flat_map-range_with_len_push}
use Rattle.run_report.proofs.Settled.{all_before}
use Rattle.run_report.proofs.found.tenancy_blocks.Goals as goal

pub loop-visit-preserved : goal.loop-visit-preserved
loop-visit-preserved c =
    let t = c.args.t.now in
    let i = c.args.index.now in
    flat_map-range_with_len_push (settled_block i.course c.args.catalogue.now i.journals t) t.first c.loop-visit.visit _ _ (omega arith)
    c.loop-visit.invariant c.in_ok-push_block.ensures

pub returns-then-not-is_settled : goal.returns-then-not-is_settled
unfolding blocks_of
returns-then-not-is_settled c =
    let t = c.args.t.now in
    let i = c.args.index.now in
    let late : is_settled i.course t.slot.0 c.loop-visit.visit ≡ false =
    ap (λ (x : Course). is_settled x t.slot.0 c.loop-visit.visit) (sym c.course.ensures) ∙ (sym c.is_settled.ensures ∙ c.if-not-is_settled.true) in
    c.loop-visit.invariant
    ∙ all_before i.course c.args.catalogue.now i.journals t c.loop-visit.visit c.loop-visit.auto.visit (omega arith) late
