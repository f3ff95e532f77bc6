use Rattle.std.proofs.Common.{◌∙◌, arith}
use Rattle.run_report.proofs.Telling.{place-inside, read-more, died-more, all_picked, read_all, died_all}
use Rattle.run_report.proofs.told.Told.read.Goals as goal

pub bounds-as_slice-place : goal.bounds-as_slice-place
bounds-as_slice-place c =
    place-inside c.args.journal.now c.as_slice.result.now c.telling-place-items.result.now c.loop-place.place-index
    c.telling-place-items.ensures c.as_slice.ensures c.loop-place-test.true

pub offset_bounds-as_slice-place : goal.offset_bounds-as_slice-place
offset_bounds-as_slice-place c = omega (arith, bounds-as_slice-place c, c.as_slice.type_inv)

pub loop-place-preserved : goal.loop-place-preserved
loop-place-preserved c = (
  read-more c.args.journal.now c.as_slice.result.now c.telling-place-items.result.now c.loop-place.place-index _
      c.telling-place-items.ensures c.as_slice.ensures c.loop-place-test.true c.args.plan.now.params c.args.role _ _ _
      c.loop-place.invariant.0 c.in_ok-keep.ensures,
  died-more c.args.journal.now c.as_slice.result.now c.telling-place-items.result.now c.loop-place.place-index _
      c.telling-place-items.ensures c.as_slice.ensures c.loop-place-test.true _ _
      c.loop-place.invariant.1 c.in_ok-push_death.ensures,
)

pub returns-clause-told : goal.returns-clause-told
returns-clause-told c =
    let picks = all_picked c.args.journal.now _ _ c.telling-place-items.ensures c.loop-place-test.false in
    read_all c.args.plan.now.params c.args.role c.args.journal.now _ _ _ picks c.loop-place.invariant.0

pub returns-clause-deaths : goal.returns-clause-deaths
returns-clause-deaths c =
    let picks = all_picked c.args.journal.now _ _ c.telling-place-items.ensures c.loop-place-test.false in
    c.loop-place.invariant.1 ∙ died_all c.args.journal.now _ picks
