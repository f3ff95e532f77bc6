-- A verdict that is no Yes names the first broken clause.
use Rattle.std.proofs.Common.{◌≡◌, subst}
use Rattle.node_kit.specs.declared.course.Kept.{Kept}
use Rattle.audit_verdict.specs.Verdicts.{IsFirstBroken, IsVerdictOn}
use Rattle.audit_verdict.specs.declared.clause.Clause.{Clause}
use Rattle.audit_verdict.specs.declared.place.Place.{Place}
use Rattle.audit_verdict.specs.declared.verdict.Verdict.{Verdict}
use Rattle.audit_verdict.specs.declared.verdict.Verdict.TheVariants as verdict

pub no_told : (k : Kept) (v : Verdict) (c : Clause) (here : Place) → v ≡ verdict.No c here → IsVerdictOn k v → IsFirstBroken k c here
no_told k v c here is said = subst (λ (w : Verdict). IsVerdictOn k w) is said
