use Rattle.std.proofs.Common.{is_some, ap, sym, ◌∙◌, arith}
use Rattle.tiger_base.specs.Records.{same_want, want_of_piece}
use Rattle.mirror_schedule.proofs.Places.{find_here, find_further, find_past}
use Rattle.mirror_schedule.proofs.Timed.{untimed-any}
use Rattle.mirror_schedule.proofs.row.has_for.Goals as goal

pub returns-then-asks_for : goal.returns-then-asks_for
returns-then-asks_for c =
    ap is_some (find_here (λ x. same_want c.args.want.now (want_of_piece x.0)) c.args.items.now.items c.loop-i.i _ (omega arith) c.index.ensures (sym c.asks_for.ensures ∙ c.if-asks_for.true) ∙ c.loop-i.invariant)
    ∙ untimed-any (λ x. same_want c.args.want.now (want_of_piece x)) c.args.items.now.items

pub loop-i-preserved : goal.loop-i-preserved
loop-i-preserved c =
    find_further (λ x. same_want c.args.want.now (want_of_piece x.0)) c.args.items.now.items c.loop-i.i _ (omega arith) c.index.ensures (sym c.asks_for.ensures ∙ c.if-asks_for.false) ∙ c.loop-i.invariant

pub returns : goal.returns
returns c =
    ap is_some (find_past (λ x. same_want c.args.want.now (want_of_piece x.0)) c.args.items.now.items c.loop-i.i (omega arith) ∙ c.loop-i.invariant)
    ∙ untimed-any (λ x. same_want c.args.want.now (want_of_piece x)) c.args.items.now.items
