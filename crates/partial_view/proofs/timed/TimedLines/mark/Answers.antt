use Rattle.std.proofs.Common.{◌∙◌, sym, ap, subst, List, get_or}
use Rattle.partial_view.specs.declared.line.Line.{Line}
use Rattle.partial_view.specs.Lines.{marked}
use Rattle.partial_view.specs.Dues.{AreDues}
use Rattle.partial_view.proofs.Dues.{dues-marked, marked-there}
use Rattle.partial_view.proofs.timed.TimedLines.mark.Goals as goal

pub invariant_of-self : goal.invariant_of-self
invariant_of-self c =
    subst (λ (ls : List Line). AreDues c.self.inside.plan.params ls c.self.inside.dues) (sym c.set.ensures)
    (dues-marked c.self.inside.plan.params c.args.flag c.self.inside.lines c.self.inside.dues c.args.place _ c.marked-line.result c.self.invariant
    (c.marked-line.ensures ∙ ap (λ (ls : List Line). marked c.args.flag (get_or ls c.args.place _)) c.as_slice.ensures.lines))

pub returns : goal.returns
returns c =
    marked-there c.self.inside.plan.params c.args.flag c.self.inside.lines c.args.place _ c.marked-line.result c.set.new.self c.self.view_is
    (c.marked-line.ensures ∙ ap (λ (ls : List Line). marked c.args.flag (get_or ls c.args.place _)) c.as_slice.ensures.lines) c.set.ensures c.requires
