use Rattle.std.proofs.Common.{◌≡◌, ◌∙◌, true, List, ap, arith, eq-eqb, length, subst}
use Rattle.std.specs.Prelude.{slice_set}
use Rattle.net_schedule.specs.declared.ring.Own.{Own}
use Rattle.net_schedule.specs.Cubs.{is_of}
use Rattle.net_schedule.proofs.Lists.{set_front}
use Rattle.net_schedule.proofs.entries.set_state.Goals as goal

pub returns-then-o-v : goal.returns-then-o-v
returns-then-o-v c =
    let own = c.loop-place.own.items in
    let d = c.index_mut-o.result.now in
    let here = subst (λ (o : Own). is_of c.args.v o ≡ true) c.index_mut-o.ensures.value (eq-eqb _ _ c.if-o-v.true) in
    ap (λ (o : Own). slice_set own c.loop-place.place (record o { state = c.args.state })) c.index_mut-o.ensures.value
    ∙ set_front own c.loop-place.place d c.args.v c.args.state (omega (arith, c.loop-place-test.true, c.len-place-end.ensures, ap (λ (xs : List Own). length xs) c.loop-place.invariant.same)) here
    ∙ c.loop-place.invariant.none
