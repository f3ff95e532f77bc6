use Rattle.std.proofs.Common.{◌∙◌, sym, subst}
use Rattle.std.proofs.lemmas.Result.{on_ok_weaker}
use Rattle.world.specs.Moving.{CanTake}
use Rattle.world.proofs.Moves.{taken_in, ticked_in, died_in, ended_in, returned_in}
use Rattle.world.proofs.happening.happen_to.Goals as goal

pub take_next-requires-clause-stands : goal.take_next-requires-clause-stands
take_next-requires-clause-stands g c =
    let r = c.requires.place in
    let takes = subst (CanTake r.params r.number c.args.channels.now.items) c.in-Get.is c.requires.takes in
    record {
      place = record { params = r.params; number = r.number; here = r.here; all = r.all ∙ sym c.args.channels.now.ok.0 };
      leads = takes.0;
    }

pub end_in-requires : goal.end_in-requires
end_in-requires g c =
    let r = c.requires.place in
    record {
      beat = c.requires.beat;
      reading = c.requires.reading;
      ticked = c.requires.ticked;
      place = r;
      takes = subst (CanTake r.params r.number c.args.channels.now.items) c.in-DieIn.is c.requires.takes;
    }

pub returns-in-Get-clause-lived : goal.returns-in-Get-clause-lived
returns-in-Get-clause-lived g c =
    on_ok_weaker c.take_next.result (λ t. taken_in _ _ _ c.args.plan.now.params c.args.node.0 c.args.event c.in-Get.link c.in-Get.number _ _ _ _ c.in-Get.is t) c.take_next.ensures.lived

pub returns-in-Tick-clause-lived : goal.returns-in-Tick-clause-lived
returns-in-Tick-clause-lived g c =
    on_ok_weaker c.tick.result (λ l. ticked_in _ _ _ c.args.plan.now.params c.args.node.0 c.args.event c.in-Tick.field-0 _ _ _ _ c.in-Tick.is l) c.tick.ensures.lived

pub returns-in-Die-clause-lived : goal.returns-in-Die-clause-lived
returns-in-Die-clause-lived g c =
    on_ok_weaker c.die.result (λ d. died_in _ _ _ c.args.plan.now.params c.args.node.0 c.args.event c.in-Die.field-0 _ _ _ c.in-Die.is d) c.die.ensures.died

pub returns-in-DieIn-clause-lived : goal.returns-in-DieIn-clause-lived
returns-in-DieIn-clause-lived g c =
    on_ok_weaker c.end_in.result (λ l. ended_in _ _ _ c.args.plan.now.params c.args.node.0 c.args.event c.in-DieIn.last c.in-DieIn.sends _ _ _ _ c.in-DieIn.is l) c.end_in.ensures.lived

pub returns-in_ok-drop_lost-in-Return-clause-lived : goal.returns-in_ok-drop_lost-in-Return-clause-lived
returns-in_ok-drop_lost-in-Return-clause-lived g c =
    returned_in _ _ _ c.args.plan.now.params c.args.node.0 c.args.event c.in-Return.field-0 _ _ _ _ c.in-Return.is c.come_back.ensures c.in_ok-drop_lost-in-Return.ensures
