use Rattle.std.proofs.lemmas.Result.{on_ok_weaker}
use Rattle.audit_blocks.proofs.Carried.{visit_said, no_visit}
use Rattle.audit_blocks.proofs.keeping.keep_visit.Goals as goal

pub returns-in-Some : goal.returns-in-Some
returns-in-Some c = on_ok_weaker c.keep_if_visited.result (λ kept v n. visit_said v n c.in-Some.cargo c.args.got _ _ c.in-Some.is (kept v n))
    c.keep_if_visited.ensures

pub returns-in-None : goal.returns-in-None
returns-in-None c = λ v n. no_visit v n c.args.got _ c.in-None.is
