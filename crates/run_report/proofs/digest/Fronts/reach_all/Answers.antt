use Rattle.std.proofs.Common.{refl, sym, ◌∙◌, arith}
use Rattle.run_report.specs.Digests.{got_spans}
use Rattle.run_report.proofs.Hashing.{got-more, got-same}
use Rattle.run_report.proofs.digest.Fronts.reach_all.Goals as goal
use Rattle.run_report.proofs.digest.Fronts.reach_all.Goals.{then-is_got+in_ok-reach, else-is_got}

pub loop-block-init : goal.loop-block-init
unfolding got_spans
loop-block-init c = record { library = refl; spans = refl; len = omega arith; few = omega arith }

pub overflow_add-n : goal.overflow_add-n
overflow_add-n c = omega (arith, c.loop-block.invariant.few)

pub loop-block-preserved : goal.loop-block-preserved
loop-block-preserved c =
    elim c.if-is_got.branch [
      | then-is_got+in_ok-reach w ↦ rw (w.self-is, w.n-is) (record {
        library = w.in_ok-reach.ensures.library ∙ c.loop-block.invariant.library;
        spans = w.in_ok-reach.ensures.spans ∙ got-more c.args.outcome.now.blocks _ c.loop-block.block-index _ _ c.as_slice-block-items.ensures (omega arith)
            c.block-item.is (sym c.is_got.ensures ∙ w.if-is_got.true) c.loop-block.invariant.spans;
        len = w.in_ok-reach.ensures.len;
        few = omega (arith, c.loop-block.invariant.few);
      })
      | else-is_got w ↦ rw (w.self-is, w.n-is) (record {
        library = c.loop-block.invariant.library;
        spans = got-same c.args.outcome.now.blocks _ c.loop-block.block-index _ _ c.as_slice-block-items.ensures (omega arith)
            c.block-item.is (sym c.is_got.ensures ∙ w.if-is_got.false) c.loop-block.invariant.spans;
        len = c.loop-block.invariant.len;
        few = omega (arith, c.loop-block.invariant.few);
      })
    ]
