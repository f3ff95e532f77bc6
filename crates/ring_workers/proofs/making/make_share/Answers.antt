use Rattle.std.proofs.Common.{ℕ, List, sym, subst, ◌∙◌}
use Rattle.tiger_base.specs.declared.number.NodeNo.{NodeNo}
use Rattle.ring_cells.specs.Cells.{IsMembership}
use Rattle.ring_cells.specs.Opens.{AreFreshIns, AreFreshOuts}
use Rattle.ring_workers.specs.Ends.{AreTaken}
use Rattle.ring_workers.proofs.Members.{members-as}
use Rattle.ring_workers.proofs.InRows.{named-unsent}
use Rattle.ring_workers.proofs.Opening.{named-left}
use Rattle.ring_workers.proofs.Places.{on-ok, slots-left, all-given}
use Rattle.ring_workers.proofs.making.make_share.Goals as goal

pub entrances-requires-clause-members : goal.entrances-requires-clause-members
entrances-requires-clause-members g c =
    members-as c.args.course.now.plan.params c.args.homes.now c.args.share c.args.links.now c.as_slice-2.result.now c.requires.links (c.as_slice-2.ensures.value ∙ c.in_ok-numbers.ensures)

pub exits-requires-clause-members : goal.exits-requires-clause-members
exits-requires-clause-members g c =
    members-as c.args.course.now.plan.params c.args.homes.now c.args.share c.args.links.now c.as_slice-3.result.now c.requires.links (c.as_slice-3.ensures.value ∙ c.in_ok-numbers.ensures)

pub exits-requires-clause-unsent : goal.exits-requires-clause-unsent
exits-requires-clause-unsent g c = named-unsent g.W.Named.line _ c.requires.outs

pub new-requires-clause-members : goal.new-requires-clause-members
new-requires-clause-members g c =
    subst (λ (h : ℕ → ℕ). IsMembership h c.args.course.now.plan.params c.args.share c.in_ok-numbers.numbers.items) (sym c.requires.home)
    (members-as c.args.course.now.plan.params c.args.homes.now c.args.share c.args.links.now c.in_ok-numbers.numbers.items c.requires.links c.in_ok-numbers.ensures)

pub new-requires-clause-given : goal.new-requires-clause-given
new-requires-clause-given g c =
    all-given g.T.Node.stands_at c.args.course.now.plan.params g.W.Named.opening c.args.slots.now.items c.in_ok-numbers.numbers.items c.in_ok-nodes.nodes.items c.requires.some c.requires.stand c.requires.slots
    (subst (λ (ns : List NodeNo). AreTaken c.args.slots.now.items ns c.in_ok-nodes.nodes.items) c.as_slice.ensures.value c.in_ok-nodes.ensures.nodes)

pub new-requires-clause-ins : goal.new-requires-clause-ins
new-requires-clause-ins g c =
    subst (λ (ns : List NodeNo). AreFreshIns g.W.Named.line c.args.course.now ns c.in_ok-into.into.items) c.as_slice-2.ensures.value
    (c.in_ok-into.ensures.fresh g.W.Named.line c.requires.ins)

pub new-requires-clause-outs : goal.new-requires-clause-outs
new-requires-clause-outs g c =
    subst (λ (ns : List NodeNo). AreFreshOuts g.W.Named.line c.args.course.now ns c.in_ok-out_of.out_of.items) c.as_slice-3.ensures.value
    (c.in_ok-out_of.ensures.fresh g.W.Named.line c.requires.outs)

pub returns-clause-slots : goal.returns-clause-slots
returns-clause-slots g c =
    on-ok c.new.result _ (slots-left g.W.Named.opening c.args.slots.now.items c.take_nodes.new.slots.items c.in_ok-nodes.ensures.left c.requires.slots)

pub returns-clause-outs : goal.returns-clause-outs
returns-clause-outs g c = on-ok c.new.result _ (named-left g.W.Named.line c.args.outs.now.items c.exits.new.ends.items c.requires.outs c.in_ok-out_of.ensures.left)

pub returns-clause-ins : goal.returns-clause-ins
returns-clause-ins g c = on-ok c.new.result _ (named-left g.W.Named.line c.args.ins.now.items c.entrances.new.ends.items c.requires.ins c.in_ok-into.ensures.left)
