use Rattle.std.proofs.Common.{◌∙◌, ◌++◌, ◌∷◌, [], ap}
use Rattle.world.specs.Running.{Running}
use Rattle.world.proofs.Kept.{kept_spoilt, is_ready, kept_after, after_is}
use Rattle.world.proofs.machine.Machine.happen.Goals as goal

pub happen-requires : goal.happen-requires
happen-requires g c =
    is_ready g.T.Node.stands_at _ c.args.self.now c.self.inside.plan.sound c.self.view_is c.self.invariant c.requires.whole c.args.event c.requires.event c.requires.faultless
    c.receiver-node.result.0 c.receiver-node.ensures

pub invariant_of-self-in_err-happen : goal.invariant_of-self-in_err-happen
invariant_of-self-in_err-happen g c = kept_spoilt g.T.Node.stands_at _ _ _ _ c.self.invariant c.in_err-happen.ensures.journals

pub invariant_of-self-2 : goal.invariant_of-self-2
invariant_of-self-2 g c =
    kept_after g.T.Node.stands_at _ c.args.self.now c.self.inside.plan.sound c.self.view_is c.self.invariant c.requires.whole c.args.event c.requires.event c.requires.faultless
    g.M.Message.note_of g.T.Node.step c.receiver-node.result.0 c.receiver-node.ensures _ _ c.in_ok-happen.ensures.moved _
    (c.in_ok-push.ensures.items ∙ ap (λ es. es ++ c.args.event ∷ []) c.in_ok-reserve.ensures.items)

pub returns-clause-done : goal.returns-clause-done
returns-clause-done g c =
    after_is g.T.Node.stands_at _ c.args.self.now c.self.inside.plan.sound c.self.view_is c.self.invariant c.requires.whole c.args.event c.requires.event c.requires.faultless
    g.M.Message.note_of g.T.Node.step c.receiver-node.result.0 c.receiver-node.ensures _ _ c.in_ok-happen.ensures.moved _
    (c.in_ok-push.ensures.items ∙ ap (λ es. es ++ c.args.event ∷ []) c.in_ok-reserve.ensures.items)

pub returns-clause-last : goal.returns-clause-last
returns-clause-last g c =
    c.in_ok-push.ensures.items ∙ ap (λ es. es ++ c.args.event ∷ []) c.in_ok-reserve.ensures.items
    ∙ ap (λ (r : Running g.row.M.Denot g.row.T.Denot). r.machine.events ++ c.args.event ∷ []) c.self.view_is
