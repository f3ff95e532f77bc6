use Rattle.std.proofs.Common.{[], ◌∷◌, length-append, arith, sym, ◌∙◌}
use Rattle.scenario_read.specs.ReadFaults.{read_fault_after}
use Rattle.scenario_read.proofs.Loop.{GoesOn-more, GoesOn-fault, GoesOn-all}
use Rattle.scenario_read.proofs.read_faults.read_faults_after.Goals as goal

pub returns-in_default : goal.returns-in_default
returns-in_default c =
    let refused = sym c.read_fault_of.ensures ∙ c.in_default.is in
    rw c.broken.ensures (GoesOn-fault 12 (read_fault_after c.args.disks c.args.beats) c.loop-value.faults.items c.args.values.now c.loop-value.value-index c.value-item.result c.len.result (omega (arith, c.len.ensures, c.loop-value.faults.ok.0)) (omega arith) c.value-item.is refused c.loop-value.invariant.meaning)

pub loop-value-preserved : goal.loop-value-preserved
loop-value-preserved c =
    let front = c.loop-value.faults.items in
    let fault = c.in-Some.fault in
    let means = sym c.read_fault_of.ensures ∙ c.in-Some.is in
    record {
      count = rw c.in_ok-push.ensures.items (omega (arith, length-append front (fault ∷ [])));
      meaning = rw c.in_ok-push.ensures.items (GoesOn-more 12 (read_fault_after c.args.disks c.args.beats) front c.args.values.now c.loop-value.value-index c.value-item.result fault (omega arith) c.value-item.is means c.loop-value.invariant.meaning);
    }

pub returns : goal.returns
returns c = GoesOn-all 12 (read_fault_after c.args.disks c.args.beats) c.loop-value.faults.items c.args.values.now c.loop-value.value-index (omega arith) c.loop-value.invariant.meaning
