use Rattle.std.proofs.Common.{◌∙◌, sym, subst}
use Rattle.ring_workers.specs.Runs.{IsRunOf}
use Rattle.ring_workers.proofs.Whole.{all-lined, run-whole}
use Rattle.ring_workers.proofs.run.run_named.Goals as goal

pub close_all-requires : goal.close_all-requires
close_all-requires g c =
    let W = g.W.Named in
    all-lined g.M.Message.note_of g.T.Node.step g.T.Node.stands_at W.course W.opening W.line W.home c.in_ok-parts.parts.items c.in_ok-parts.ensures _ _ c.in_ok-nodes.ensures.outs c.in_ok-nodes.ensures.ins

pub returns : goal.returns
returns g c =
    let W = g.W.Named in
    let sorted = c.in_ok-nodes.ensures in
    let r = c.requires in
    subst (λ js. IsRunOf g.M.Message.note_of g.T.Node.step c.args.course.now c.args.nodes.items c.in_ok-nodes.field-0.nodes.items js) (sym c.new.ensures)
    (run-whole g.M.Message.note_of g.T.Node.step g.T.Node.stands_at W.course W.opening W.line W.home c.in_ok-parts.parts.items c.in_ok-parts.ensures
    c.args.course.now c.args.nodes.items c.in_ok-nodes.field-0.nodes.items c.in_ok-nodes.field-0.journals.items c.in_ok-nodes.field-0.outs.items c.in_ok-nodes.field-0.ins.items c.args.links.now c.args.homes.now
    r.course r.named r.opening r.links r.homes (sym c.args.nodes.ok.0 ∙ r.count) sorted.outs sorted.ins c.in_ok-close_all.ensures sorted.size sorted.wrote sorted.nodes sorted.journals)
