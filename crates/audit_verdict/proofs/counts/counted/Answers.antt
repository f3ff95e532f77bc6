use Rattle.std.proofs.Common.{ℕ, ap, subst, ◌∙◌}
use Rattle.node_kit.specs.Links.{viewers_of}
use Rattle.audit_frame.specs.Lines.{told_by}
use Rattle.audit_verdict.specs.Counting.{AreCountsIn}
use Rattle.audit_verdict.proofs.Counted.{all_counted, are_below, line_counted}
use Rattle.audit_verdict.proofs.counts.counted.Goals as goal

pub loop-i-init : goal.loop-i-init
loop-i-init c = record { counted = c.nothing-counts.ensures _ }

pub with-counts-requires-clause-all : goal.with-counts-requires-clause-all
with-counts-requires-clause-all c = (are_below _ c.args.log.now c.loop-i.i c.loop-i.counts c.loop-i.invariant.counted).all

pub with-counts-requires-clause-puts : goal.with-counts-requires-clause-puts
with-counts-requires-clause-puts c = (are_below _ c.args.log.now c.loop-i.i c.loop-i.counts c.loop-i.invariant.counted).puts

pub with-counts-requires-clause-stops : goal.with-counts-requires-clause-stops
with-counts-requires-clause-stops c = (are_below _ c.args.log.now c.loop-i.i c.loop-i.counts c.loop-i.invariant.counted).stops

pub with-counts-requires-clause-deaths : goal.with-counts-requires-clause-deaths
with-counts-requires-clause-deaths c = (are_below _ c.args.log.now c.loop-i.i c.loop-i.counts c.loop-i.invariant.counted).deaths

pub with-counts-requires-clause-blocks : goal.with-counts-requires-clause-blocks
with-counts-requires-clause-blocks c = (are_below _ c.args.log.now c.loop-i.i c.loop-i.counts c.loop-i.invariant.counted).blocks

pub with-counts-requires-clause-pieces : goal.with-counts-requires-clause-pieces
with-counts-requires-clause-pieces c = (are_below _ c.args.log.now c.loop-i.i c.loop-i.counts c.loop-i.invariant.counted).pieces

pub loop-i-preserved : goal.loop-i-preserved
loop-i-preserved c = record {
  counted = line_counted _ c.args.log.now c.loop-i.i c.line_at.result _ c.loop-i-test.true c.line_at.ensures
      (c.with-counts.ensures _ c.loop-i.invariant.counted);
}

pub returns : goal.returns
returns c =
    subst (λ (n : ℕ). AreCountsIn n (told_by c.args.log.now) c.loop-i.counts)
    (c.viewers-viewers.ensures ∙ ap viewers_of c.new.ensures)
    (all_counted _ c.args.log.now c.loop-i.i c.loop-i.counts c.loop-i-test.false c.loop-i.invariant.counted)
