use Rattle.std.proofs.Common.{refl, sym, ◌∙◌}
use Rattle.audit_orders.proofs.Following.{first_gone_there, none_gone_more, none_gone}
use Rattle.audit_orders.proofs.foreign.first_gone.Goals as goal

pub loop-i-init : goal.loop-i-init
loop-i-init c = record { none = refl }

pub returns-then-is_gone : goal.returns-then-is_gone
returns-then-is_gone c =
    first_gone_there c.args.journal.now c.loop-i.i c.entry_at-e.result c.loop-i-test.true c.entry_at-e.ensures (sym c.is_gone.ensures ∙ c.if-is_gone.true)
    c.loop-i.invariant.none

pub loop-i-preserved : goal.loop-i-preserved
loop-i-preserved c = record {
  none = none_gone_more c.args.journal.now c.loop-i.i c.entry_at-e.result c.loop-i-test.true c.entry_at-e.ensures
      (sym c.is_gone.ensures ∙ c.if-is_gone.false) c.loop-i.invariant.none;
}

pub returns : goal.returns
returns c = none_gone c.args.journal.now c.loop-i.i c.loop-i-test.false c.loop-i.invariant.none
