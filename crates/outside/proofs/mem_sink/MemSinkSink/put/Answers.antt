use Rattle.std.proofs.Common.{◌≡◌, ◌++◌, take, drop, sym, ap, arith}
use Rattle.std.proofs.lemmas.List.{take-append-drop}
use Rattle.std.proofs.lemmas.Grind.{common_steps}
use Rattle.outside.specs.Memory.{MemorySink}
use Rattle.outside.proofs.mem_sink.MemSinkSink.put.Goals as goal

pub returns-in_ok-extend_from_slice-in-Some-clause-cause : goal.returns-in_ok-extend_from_slice-in-Some-clause-cause
returns-in_ok-extend_from_slice-in-Some-clause-cause c =
    let kept = c.min-keep.result in
    let piece = c.args.piece.now in
    let grown : c.extend_from_slice-in-Some.new.self.items ≡ c.args.self.now.bytes ++ take kept piece = grind (arith, common_steps) in
    let before = ap (λ (m : MemorySink). m.faults) c.self.view_is in
    (omega arith, (take kept piece, drop kept piece, sym (take-append-drop kept piece), grown))
