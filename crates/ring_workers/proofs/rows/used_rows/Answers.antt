use Rattle.std.proofs.Common.{length, refl, arith}
use Rattle.std.proofs.lemmas.Option.{slice_get_read}
use Rattle.ring_workers.proofs.Places.{empty-none, empty-more}
use Rattle.ring_workers.proofs.rows.used_rows.Goals as goal

pub loop-place-init : goal.loop-place-init
loop-place-init g c = empty-none 0 c.args.rows.now

pub loop-place-preserved : goal.loop-place-preserved
loop-place-preserved g c =
    empty-more c.loop-place.used c.used_to-used.result c.loop-place.place c.args.rows.now c.index-rows-place.result
    (slice_get_read c.args.rows.now (length c.args.rows.now) c.loop-place.place c.index-rows-place.result refl c.loop-place-test.true c.index-rows-place.is) c.used_to-used.ensures c.loop-place.invariant

pub returns : goal.returns
returns g c q row low high there = c.loop-place.invariant q row low (omega (arith, high, c.loop-place-test.false)) there
