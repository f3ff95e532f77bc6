use Rattle.slot_plan.specs.Keys.{is_behind}
use Rattle.slot_plan.proofs.Next.{finds_none, finds_first, finds_second, found_is_least}
use Rattle.slot_plan.proofs.plan.Plan.next_window_visit.Goals as goal

pub returns-in_err-first-clause-next : goal.returns-in_err-first-clause-next
returns-in_err-first-clause-next c =
    finds_none c.args.self.now.params c.args.reading c.args.disk.0 c.args.after _ _ c.search_start-from.ensures c.from_residual.ensures c.in_err-first.ensures.between

pub returns-in_err-first-clause-visit : goal.returns-in_err-first-clause-visit
returns-in_err-first-clause-visit c =
    let p = c.args.self.now.params in
    found_is_least p c.args.reading c.args.disk.0 (is_behind p c.args.after) _ c.args.self.now.sound (returns-in_err-first-clause-next c)

pub returns-then-is_behind-clause-next : goal.returns-then-is_behind-clause-next
returns-then-is_behind-clause-next c =
    finds_first c.args.self.now.params c.args.reading c.args.disk.0 c.args.after _ _ _ c.args.self.now.sound c.search_start-from.ensures
    c.in_ok-first.ensures.between c.is_behind.ensures c.if-is_behind.true

pub returns-then-is_behind-clause-visit : goal.returns-then-is_behind-clause-visit
returns-then-is_behind-clause-visit c =
    let p = c.args.self.now.params in
    found_is_least p c.args.reading c.args.disk.0 (is_behind p c.args.after) _ c.args.self.now.sound (returns-then-is_behind-clause-next c)

pub returns-else-is_behind-clause-next : goal.returns-else-is_behind-clause-next
returns-else-is_behind-clause-next c =
    finds_second c.args.self.now.params c.args.reading c.args.disk.0 c.args.after _ _ _ _ _ c.args.self.now.sound c.search_start-from.ensures
    c.in_ok-first.ensures.between c.is_behind.ensures c.if-is_behind.false c.due.ensures.due c.first_between-else-is_behind.ensures.between

pub returns-else-is_behind-clause-visit : goal.returns-else-is_behind-clause-visit
returns-else-is_behind-clause-visit c =
    let p = c.args.self.now.params in
    found_is_least p c.args.reading c.args.disk.0 (is_behind p c.args.after) _ c.args.self.now.sound (returns-else-is_behind-clause-next c)
