use Rattle.std.proofs.Common.{[], ◌∷◌, ap, ◌∙◌}
use Rattle.ring_cells.specs.Shares.{Entrance, Exit}
use Rattle.tests_of_rings.proofs.Disks.{pushed, disk-members, disk-given, fresh-in, fresh-out, leads_out}
use Rattle.tests_of_rings.proofs.shares.disk_share.Goals as goal

pub new-requires-4-clause-members : goal.new-requires-4-clause-members
new-requires-4-clause-members g c =
    disk-members g.W.Named.home _ _ c.requires.params c.requires.home (pushed _ _ _ c.new-numbers.ensures.items c.in_ok-push-5.ensures.items)

pub new-requires-4-clause-given : goal.new-requires-4-clause-given
new-requires-4-clause-given g c =
    disk-given _ _ _ _ _ _ (pushed _ _ _ c.new-numbers.ensures.items c.in_ok-push-5.ensures.items) (pushed _ _ _ c.new-nodes.ensures.items c.in_ok-push-4.ensures.items) c.requires.opens (leads_out _ c.requires.params)

pub new-requires-4-clause-ins : goal.new-requires-4-clause-ins
new-requires-4-clause-ins g c =
    let is = c.new.ensures in
    fresh-in g.W.Named.line c.args.course.now _ _ c.new.result c.requires.params (pushed _ _ _ c.new-numbers.ensures.items c.in_ok-push-5.ensures.items)
    (pushed _ _ _ c.new-ins.ensures.items c.in_ok-push.ensures.items)
    (ap (λ (i : Entrance _). i.link) is) (ap (λ (i : Entrance _). i.line) is ∙ c.requires.into) (ap (λ (i : Entrance _). i.flights) is ∙ c.requires.unused.0)

pub new-requires-4-clause-outs : goal.new-requires-4-clause-outs
new-requires-4-clause-outs g c =
    let is = c.new-2.ensures in
    fresh-out g.W.Named.line c.args.course.now _ _ c.new-2.result c.requires.params (pushed _ _ _ c.new-numbers.ensures.items c.in_ok-push-5.ensures.items)
    (pushed _ _ _ c.new-outs.ensures.items c.in_ok-push-3.ensures.items ∙ ap (λ r. r ∷ []) (c.new-3.ensures ∙ pushed _ _ _ c.new-row.ensures.items c.in_ok-push-2.ensures.items))
    (ap (λ (o : Exit _). o.link) is) (ap (λ (o : Exit _). o.line) is ∙ c.requires.out) (ap (λ (o : Exit _). o.flights) is) (ap (λ (o : Exit _). o.closed) is)
