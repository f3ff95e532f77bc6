use Rattle.std.proofs.Common.{Bool, IsTrue, sym, subst, ◌∙◌, arith}
use Rattle.std.specs.Prelude.{◌↔◌}
use Rattle.audit_schedule.specs.Fair.{IsAskedFor, PutIsFairSoFar}
use Rattle.audit_schedule.proofs.Judged.{fair_put}
use Rattle.audit_schedule.proofs.Ordered.{asked_by_table}
use Rattle.audit_schedule.proofs.puts.SoFar.may_put.Goals as goal

pub is_asked_for-asked-requires-clause-first : goal.is_asked_for-asked-requires-clause-first
is_asked_for-asked-requires-clause-first c = c.requires.0

pub is_asked_for-asked-requires-clause-last : goal.is_asked_for-asked-requires-clause-last
is_asked_for-asked-requires-clause-last c = c.requires.1

pub is_in_window-within-requires-clause-first : goal.is_in_window-within-requires-clause-first
is_in_window-within-requires-clause-first c = c.requires.0

pub is_cub_for-may-requires : goal.is_cub_for-may-requires
is_cub_for-may-requires c = c.requires.0

pub returns : goal.returns
returns c = λ orders m all h.
    let p = c.args.plan.now.params in
    let t = c.args.t.now in
    let asked = subst (λ (b : Bool). IsTrue b ↔ IsAskedFor p orders t) (sym c.is_asked_for-asked.ensures)
    (asked_by_table p orders t c.args.asks.now all) in
    let put = h.put t.instance.0 ∙ sym c.has-again.ensures in
    subst (λ (b : Bool). IsTrue b ↔ PutIsFairSoFar p orders m c.args.node.0 c.args.reading t) (sym c.are_all.ensures)
    (fair_put p orders m c.args.node.0 c.args.reading t _ _ _ _ _ (c.is_free-free.ensures m h) asked
    (omega (arith, c.if-t-plan.false)) c.is_in_window-within.ensures (c.is_cub_for-may.ensures m h) put)
