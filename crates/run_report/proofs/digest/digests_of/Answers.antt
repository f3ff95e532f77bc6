use Rattle.std.proofs.Common.{◌∙◌, ◌<◌, length, refl, sym, ap, subst, arith}
use Rattle.std.proofs.lemmas.List.{length-set}
use Rattle.run_report.specs.Digests.{digest_of, digests_of}
use Rattle.run_report.specs.Turns.{AreTurns}
use Rattle.run_report.proofs.Filling.{turn-low, filled-more, all-filled}
use Rattle.run_report.proofs.Hashing.{wanted-there, as-many}
use Rattle.run_report.proofs.digest.digests_of.Goals as goal

pub bounds-outcomes-place : goal.bounds-outcomes-place
bounds-outcomes-place c =
    turn-low (length c.args.outcomes.now) c.as_slice-turn-items.result.now c.loop-turn.turn-index c.turn-item.result
    (subst (AreTurns (length c.args.outcomes.now)) (sym c.as_slice-turn-items.ensures.value) c.in_ok-turns.ensures)
    (omega arith) c.turn-item.is

pub offset_bounds-outcomes-place : goal.offset_bounds-outcomes-place
offset_bounds-outcomes-place c =
    let low : c.turn-item.result.place < length c.args.outcomes.now =
    turn-low (length c.args.outcomes.now) c.as_slice-turn-items.result.now c.loop-turn.turn-index c.turn-item.result
    (subst (AreTurns (length c.args.outcomes.now)) (sym c.as_slice-turn-items.ensures.value) c.in_ok-turns.ensures)
    (omega arith) c.turn-item.is in
    omega (arith, low)

pub index_mut-requires : goal.index_mut-requires
index_mut-requires c =
    let low : c.turn-item.result.place < length c.args.outcomes.now =
    turn-low (length c.args.outcomes.now) c.as_slice-turn-items.result.now c.loop-turn.turn-index c.turn-item.result
    (subst (AreTurns (length c.args.outcomes.now)) (sym c.as_slice-turn-items.ensures.value) c.in_ok-turns.ensures)
    (omega arith) c.turn-item.is in
    omega (arith, low, c.loop-turn.invariant.len)

pub loop-turn-preserved : goal.loop-turn-preserved
loop-turn-preserved c =
    let low : c.turn-item.result.place < length c.args.outcomes.now =
    turn-low (length c.args.outcomes.now) c.as_slice-turn-items.result.now c.loop-turn.turn-index c.turn-item.result
    (subst (AreTurns (length c.args.outcomes.now)) (sym c.as_slice-turn-items.ensures.value) c.in_ok-turns.ensures)
    (omega arith) c.turn-item.is in
    record {
      library = c.in_ok-digests.ensures.library ∙ c.loop-turn.invariant.library;
      len = length-set c.loop-turn.digests.items c.turn-item.result.place c.in_ok-digests.field-0 ∙ c.loop-turn.invariant.len;
      filled = filled-more (digests_of c.args.library.now c.args.outcomes.now) c.loop-turn.digests.items _
          c.as_slice-turn-items.result.now c.loop-turn.turn-index c.turn-item.result c.in_ok-digests.field-0
          (omega arith) c.turn-item.is (omega (arith, low, c.loop-turn.invariant.len)) refl
          (wanted-there c.args.library.now c.args.outcomes.now c.turn-item.result.place c.index-outcomes-place.result c.in_ok-digests.field-0
          low c.index-outcomes-place.is
          (c.in_ok-digests.ensures.digest ∙ ap (λ l. digest_of l c.index-outcomes-place.result) c.loop-turn.invariant.library))
          c.loop-turn.invariant.filled;
    }

pub returns : goal.returns
returns c =
    let wanted = digests_of c.args.library.now c.args.outcomes.now in
    let many = as-many c.args.library.now c.args.outcomes.now in
    all-filled wanted c.loop-turn.digests.items c.as_slice-turn-items.result.now c.loop-turn.turn-index
    (subst (AreTurns (length wanted)) (sym c.as_slice-turn-items.ensures.value)
    (subst (λ n. AreTurns n c.in_ok-turns.turns.items) (sym many) c.in_ok-turns.ensures))
    (omega arith) (c.loop-turn.invariant.len ∙ sym many) c.loop-turn.invariant.filled
