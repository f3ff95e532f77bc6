use Rattle.std.proofs.lemmas.Result.{on_ok_weaker}
use Rattle.audit_frame.specs.Lines.{noted_line}
use Rattle.audit_blocks.proofs.Keepings.{death_kept, death_left}
use Rattle.audit_blocks.proofs.keeping.keep_death.Goals as goal

pub returns-in-Died : goal.returns-in-Died
returns-in-Died c = on_ok_weaker c.push.result (λ pushed n. death_kept n (noted_line c.args.line.now) _ _ c.in-Died.is (pushed n)) c.push.ensures

pub returns-in_default : goal.returns-in_default
returns-in_default c = λ n. death_left n (noted_line c.args.line.now) _ c.in_default.not-Died
