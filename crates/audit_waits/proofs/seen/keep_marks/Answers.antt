use Rattle.std.proofs.lemmas.Result.{on_ok_weaker}
use Rattle.audit_waits.proofs.Seeing.{marks_kept}
use Rattle.audit_waits.proofs.seen.keep_marks.Goals as goal

pub returns-then-kept : goal.returns-then-kept
returns-then-kept c = λ p old new keeps all. marks_kept p old new _ (keeps c.if-kept.true) all

pub returns : goal.returns
returns c = on_ok_weaker c.forget.result (λ forgot p old new keeps all. forgot p new) c.forget.ensures
