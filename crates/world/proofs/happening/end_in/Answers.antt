use Rattle.std.proofs.Common.{◌∙◌, sym, subst}
use Rattle.std.proofs.lemmas.Result.{on_ok_weaker}
use Rattle.world.specs.Moving.{CanTakeLast}
use Rattle.world.proofs.Moves.{taken_last, ticked_last}
use Rattle.world.proofs.happening.end_in.Goals as goal

pub take_next-requires-clause-stands : goal.take_next-requires-clause-stands
take_next-requires-clause-stands g c =
    let r = c.requires.place in
    let takes = subst (CanTakeLast r.params r.number c.args.channels.now.items) c.in-Get.is c.requires.takes in
    record {
      place = record { params = r.params; number = r.number; here = r.here; all = r.all ∙ sym c.args.channels.now.ok.0 };
      leads = takes.0;
    }

pub returns-in-Get-clause-lived : goal.returns-in-Get-clause-lived
returns-in-Get-clause-lived g c =
    on_ok_weaker c.take_next.result (λ t. taken_last _ _ _ c.args.stamp c.args.last c.in-Get.link c.in-Get.number c.args.sends _ _ _ _ c.in-Get.is t) c.take_next.ensures.lived

pub returns-in-Tick-clause-lived : goal.returns-in-Tick-clause-lived
returns-in-Tick-clause-lived g c =
    on_ok_weaker c.tick.result (λ l. ticked_last _ _ _ c.args.stamp c.args.last c.in-Tick.field-0 c.args.sends _ _ _ _ c.in-Tick.is l) c.tick.ensures.lived
