use Rattle.std.proofs.Common.{ℕ}
use Rattle.std.proofs.lemmas.Result.{on_ok_weaker}
use Rattle.audit_frame.specs.Tables.{mark_under}
use Rattle.audit_blocks.proofs.Keepings.{stop_kept, stop_left}
use Rattle.audit_blocks.proofs.keeping.keep_stop.Goals as goal

pub returns-in-Gone : goal.returns-in-Gone
returns-in-Gone c = on_ok_weaker c.keep_earlier.result (λ kept p q time.
    stop_kept p q time c.args.line.now.entry.now.stamp.beat c.in-Gone.v _ (λ (n : ℕ). mark_under n c.args.stops.now) _ c.in-Gone.is (kept q))
    c.keep_earlier.ensures

pub returns-in_default : goal.returns-in_default
returns-in_default c = λ p q time. stop_left q _ _ _ c.in_default.not-Gone
