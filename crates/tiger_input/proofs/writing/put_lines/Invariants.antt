use Rattle.std.proofs.Common.{◌≡◌, ◌≤◌, ◌-◌, length, take}
use Rattle.outside.specs.Written.{Appended}
use Rattle.tiger_input.proofs.writing.put_lines.Given as goal

abbrev pub invariant-loop-done : goal.invariant-loop-done
invariant-loop-done g l =
    let state = g.K.Sink.state in
    record {
      within : l.done ≤ length l.text;
      written : Appended (state l.fn.out).written (state l.out).written (take l.done l.text);
      no_fault : (state l.out).faults ≡ (state l.fn.out).faults;
    }

abbrev pub decreases-loop-done : goal.decreases-loop-done
decreases-loop-done g l = length l.text - l.done
