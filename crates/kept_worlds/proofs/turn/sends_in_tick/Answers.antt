use Rattle.std.proofs.Common.{ap, sym, ◌∙◌, Option}
use Rattle.tiger_base.specs.declared.message.Note.{Note}
use Rattle.kept_worlds.proofs.Turning.{sends_by, turn-turn, turn-ends}
use Rattle.kept_worlds.proofs.turn.sends_in_tick.Goals as goal

pub loop-entry-preserved : goal.loop-entry-preserved
loop-entry-preserved c =
    let t = turn-turn c.args.beat c.loop-entry.entry-index c.args.entries.now _ c.loop-entry.turn c.behind-turn.result
    c.loop-entry-test.true c.behind-turn.ensures c.loop-entry.invariant.left c.loop-entry.invariant.few in
    record { left = t.left; few = t.few }

pub returns-in-Some : goal.returns-in-Some
returns-in-Some c =
    sym (ap (λ (o : Option Note). sends_by o c.loop-entry.turn.sends) c.in-Some.is)
    ∙ turn-ends c.args.beat c.loop-entry.entry-index c.args.entries.now c.loop-entry.turn c.loop-entry-test.false c.loop-entry.invariant.left

pub returns-in-None : goal.returns-in-None
returns-in-None c =
    sym (ap (λ (o : Option Note). sends_by o c.loop-entry.turn.sends) c.in-None.is)
    ∙ turn-ends c.args.beat c.loop-entry.entry-index c.args.entries.now c.loop-entry.turn c.loop-entry-test.false c.loop-entry.invariant.left
