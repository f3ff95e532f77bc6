use Rattle.std.proofs.Common.{◌≡◌, ◌<◌, ◌∙◌, Some, length, ap, sym, subst}
use Rattle.std.specs.Prelude.{slice_get}
use Rattle.std.proofs.lemmas.Option.{slice_get_read}
use Rattle.world.specs.Posting.{AreInOrder}
use Rattle.world.proofs.Kept.{few_links, is_sound, is_within, in_order, fault_is, fault_found, act_same}
use Rattle.world.proofs.machine.Machine.fault.Goals as goal

pub act_fault-requires-clause-few : goal.act_fault-requires-clause-few
act_fault-requires-clause-few g c =
    let sound = is_sound g.T.Node.stands_at _ c.args.self.now c.self.inside.plan.sound c.self.view_is c.self.invariant c.requires.whole c.args.event c.requires.event in
    few_links c.self.inside.plan.params _ c.self.inside.plan.sound (ap length c.as_slice.ensures.value ∙ sound.links)

pub act_fault-requires-clause-order : goal.act_fault-requires-clause-order
act_fault-requires-clause-order g c =
    subst AreInOrder (sym c.as_slice.ensures.value)
    (in_order g.T.Node.stands_at _ c.args.self.now c.self.inside.plan.sound c.self.view_is c.self.invariant c.requires.whole c.args.event c.requires.event)

pub returns-in-Some-fault : goal.returns-in-Some-fault
returns-in-Some-fault g c =
    let low : c.receiver-node.result.0 < length c.self.inside.members.items = is_within g.T.Node.stands_at _ c.args.self.now c.self.inside.plan.sound c.self.view_is c.self.invariant c.requires.whole c.args.event c.requires.event c.receiver-node.result.0 c.receiver-node.ensures in
    let all = c.as_slice-members.ensures.value in
    let here : slice_get c.as_slice-members.result.now c.receiver-node.result.0 ≡ Some c.index-members-node.result = slice_get_read _ (length c.self.inside.members.items) _ _ (sym (ap length all)) low c.index-members-node.is in
    fault_is g.T.Node.stands_at _ c.args.self.now c.self.inside.plan.sound c.self.view_is c.self.invariant c.requires.whole c.args.event c.requires.event _
    (sym (fault_found c.self.inside.plan.params (record { beat = c.self.inside.beat; beings = c.self.inside.members.items; ways = c.self.inside.channels.items; events = c.self.inside.events.items }) c.args.event _ _ _ _ _ _ c.beat_fault.ensures c.in_default.is all c.missed_fault.ensures c.in_default-missed_fault.is c.receiver-node.ensures here (sym c.in-Some-fault.is ∙ c.fault.ensures)))

pub returns : goal.returns
returns g c =
    let low : c.receiver-node.result.0 < length c.self.inside.members.items = is_within g.T.Node.stands_at _ c.args.self.now c.self.inside.plan.sound c.self.view_is c.self.invariant c.requires.whole c.args.event c.requires.event c.receiver-node.result.0 c.receiver-node.ensures in
    let all = c.as_slice-members.ensures.value in
    let here : slice_get c.as_slice-members.result.now c.receiver-node.result.0 ≡ Some c.index-members-node.result = slice_get_read _ (length c.self.inside.members.items) _ _ (sym (ap length all)) low c.index-members-node.is in
    fault_is g.T.Node.stands_at _ c.args.self.now c.self.inside.plan.sound c.self.view_is c.self.invariant c.requires.whole c.args.event c.requires.event _
    (c.act_fault.ensures ∙ act_same c.self.inside.plan.params c.args.event _ _ _ _ c.as_slice.ensures.value all ∙ sym (fault_found c.self.inside.plan.params (record { beat = c.self.inside.beat; beings = c.self.inside.members.items; ways = c.self.inside.channels.items; events = c.self.inside.events.items }) c.args.event _ _ _ _ _ _ c.beat_fault.ensures c.in_default.is all c.missed_fault.ensures c.in_default-missed_fault.is c.receiver-node.ensures here (sym c.in_default-fault.is ∙ c.fault.ensures)))
