use Rattle.std.proofs.Common.{refl}
use Rattle.audit_waits.proofs.Seeing.{missed_nobodys, none_before, sought_at}
use Rattle.audit_waits.proofs.so_far.SoFar.are_visits_taken.Goals as goal

pub returns-then-tick-mark : goal.returns-then-tick-mark
returns-then-tick-mark c = (
  (λ t k o. none_before c.args.plan.now.params c.args.self.now.holders c.args.disk.0 c.args.tick.reading c.args.mark c.requires.mark c.requires.by_now
      c.if-tick-mark.true k (missed_nobodys c.args.plan.now.params c.args.self.now c.args.tick.cub.0 c.args.tick.beat c.args.tick.reading c.args.disk.0 k o)),
  (λ none. refl),
)

pub are_taken_behind-requires-clause-sought : goal.are_taken_behind-requires-clause-sought
are_taken_behind-requires-clause-sought c = λ k o.
    (sought_at c.args.plan.now.params c.args.self.now.holders c.args.disk.0 c.args.tick.reading c.args.mark c.requires.mark c.requires.by_now).0 k
    (missed_nobodys c.args.plan.now.params c.args.self.now c.args.tick.cub.0 c.args.tick.beat c.args.tick.reading c.args.disk.0 k o)

pub are_taken_behind-requires-clause-entered : goal.are_taken_behind-requires-clause-entered
are_taken_behind-requires-clause-entered c =
    (sought_at c.args.plan.now.params c.args.self.now.holders c.args.disk.0 c.args.tick.reading c.args.mark c.requires.mark c.requires.by_now).1
