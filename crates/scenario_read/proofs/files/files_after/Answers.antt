use Rattle.std.proofs.Common.{[], ◌∷◌, length-append, arith}
use Rattle.std.proofs.lemmas.Result.{err_from_is_err_and}
use Rattle.serde_json.specs.View.{view}
use Rattle.scenario_read.specs.Files.{file_after}
use Rattle.scenario_read.specs.Fault.{broken}
use Rattle.scenario_read.proofs.Inversions.{found-ok}
use Rattle.scenario_read.proofs.Loop.{GoesOn-more, GoesOn-stop, GoesOn-all}
use Rattle.scenario_read.proofs.files.files_after.Goals as goal

pub returns-in_err-file-clause-gives : goal.returns-in_err-file-clause-gives
returns-in_err-file-clause-gives c =
    let p = err_from_is_err_and c.from_residual.result c.from_residual.ensures.1 in
    rw (p.1, p.2) (GoesOn-stop 8 (file_after c.args.disks) c.loop-value.files.items c.args.values.now c.loop-value.value-index c.value-item.result c.in_err-file.field-0.0 c.len.result (omega (arith, c.len.ensures, c.loop-value.files.ok.0)) (omega arith) c.value-item.is c.in_err-file.ensures c.loop-value.invariant.meaning)

pub loop-value-preserved : goal.loop-value-preserved
loop-value-preserved c =
    let front = c.loop-value.files.items in
    let file = c.in_ok-file.file in
    let means = found-ok (file_after c.args.disks front (view c.value-item.result)) (broken 8 c.len.result) file c.in_ok-file.ensures in
    record {
      count = rw c.in_ok-push.ensures.items (omega (arith, length-append front (file ∷ [])));
      meaning = rw c.in_ok-push.ensures.items (GoesOn-more 8 (file_after c.args.disks) front c.args.values.now c.loop-value.value-index c.value-item.result file (omega arith) c.value-item.is means c.loop-value.invariant.meaning);
    }

pub returns-clause-gives : goal.returns-clause-gives
returns-clause-gives c = GoesOn-all 8 (file_after c.args.disks) c.loop-value.files.items c.args.values.now c.loop-value.value-index (omega arith) c.loop-value.invariant.meaning
