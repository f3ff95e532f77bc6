use Rattle.std.proofs.Common.{ap, sym, ◌∙◌}
use Rattle.node_kit.specs.Life.{Lifetime, ends_in}
use Rattle.kept_worlds.proofs.Turning.{get-cut, get-whole}
use Rattle.kept_worlds.proofs.telling.get_act.Goals as goal

pub returns-in-Some : goal.returns-in-Some
returns-in-Some c =
    get-cut c.args.course.now c.args.node.0 c.args.beat c.args.link c.args.message.now c.args.number c.args.behind.now c.in-Some.sends
    (ap (λ (q : Lifetime). ends_in q c.args.beat) (sym c.requires) ∙ sym c.ends_in.ensures ∙ c.if-ends_in.true)
    (sym c.sends_in_take.ensures ∙ c.in-Some.is)

pub returns-in_default : goal.returns-in_default
returns-in_default c =
    get-whole c.args.course.now c.args.node.0 c.args.beat c.args.link c.args.message.now c.args.number c.args.behind.now
    (sym c.sends_in_take.ensures ∙ c.in_default.is)
