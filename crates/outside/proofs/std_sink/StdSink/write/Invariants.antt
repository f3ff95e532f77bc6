use Rattle.std.proofs.Common.{◌-◌, length}
use Rattle.outside.proofs.std_sink.StdSink.write.Given as goal

abbrev pub decreases-loop-done : goal.decreases-loop-done
decreases-loop-done g l = length l.piece - l.done
