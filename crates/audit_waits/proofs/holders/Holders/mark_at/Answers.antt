use Rattle.std.proofs.Common.{Option, subst, sym}
use Rattle.std.specs.Option.{ForSome}
use Rattle.slot_plan.specs.Keys.{Key}
use Rattle.audit_waits.specs.Seen.{IsIn, IsSoughtBehind, is_nobodys}
use Rattle.audit_waits.proofs.Seeing.{sought_by}
use Rattle.audit_waits.proofs.holders.Holders.mark_at.Goals as goal

pub mark_behind-requires-clause-sought : goal.mark_behind-requires-clause-sought
mark_behind-requires-clause-sought c =
    let p = c.args.plan.now.params in
    subst (λ (o : Option Key). IsSoughtBehind p c.args.reading c.args.disk.0 (is_nobodys c.args.self.now) o) (sym c.mark_last.ensures)
    (sought_by p c.args.self.now c.args.disk.0 c.args.reading c.args.mark c.requires.mark).0

pub mark_behind-requires-clause-entered : goal.mark_behind-requires-clause-entered
mark_behind-requires-clause-entered c =
    let p = c.args.plan.now.params in
    subst (λ (o : Option Key). ForSome o (IsIn p c.args.reading)) (sym c.mark_last.ensures)
    (sought_by p c.args.self.now c.args.disk.0 c.args.reading c.args.mark c.requires.mark).1
