use Rattle.std.proofs.Common.{List, subst}
use Rattle.std.proofs.lemmas.List.{take_all}
use Rattle.node_kit.specs.declared.journal.Entry.{Entry}
use Rattle.run_model.specs.Slots.{Walks, beat_entries}
use Rattle.run_model.proofs.Walking.{walks_more, walks_none}
use Rattle.run_model.proofs.slots.Walk.journal.Goals as goal

pub loop-e-init : goal.loop-e-init
loop-e-init c n = walks_none c.args.self.now

pub loop-e-preserved : goal.loop-e-preserved
loop-e-preserved c n =
    walks_more c.args.self.now c.loop-e.self c.entry_in.new.self c.args.beat n c.loop-e.e-index c.args.journal.now _
    (c.in_ok-entry_in.ensures n) c.loop-e-test.true (c.loop-e.invariant n)

pub returns : goal.returns
returns c n =
    subst (λ (es : List Entry). Walks c.args.self.now c.loop-e.self (beat_entries c.args.beat n es))
    (take_all c.loop-e.e-index c.args.journal.now c.loop-e-test.false) (c.loop-e.invariant n)
