use Rattle.std.proofs.Common.{Option, refl, sym, subst}
use Rattle.slot_plan.specs.Keys.{Key}
use Rattle.partial_view.specs.Free.{IsTakenTo}
use Rattle.partial_view.proofs.Frees.{taken_none, taken_to}
use Rattle.partial_view.proofs.full_disks.FullDisks.taken_to.Goals as goal

pub returns-in_err-known-clause-taken : goal.returns-in_err-known-clause-taken
returns-in_err-known-clause-taken c = λ p lines full.
    subst (λ (o : Option Key). IsTakenTo p c.args.disk.0 c.args.reading o lines) (sym c.from_residual.ensures) (taken_none p lines c.args.disk.0 c.args.reading)

pub returns-clause-taken : goal.returns-clause-taken
returns-clause-taken c = λ p lines full.
    taken_to p lines c.args.disk.0 c.args.reading c.in_ok-known.field-0 (c.in_ok-known.ensures p lines full c.in_ok-known.field-0 refl)

pub returns-clause-entered : goal.returns-clause-entered
returns-clause-entered c = λ p lines full. (c.in_ok-known.ensures p lines full c.in_ok-known.field-0 refl).1.entered
