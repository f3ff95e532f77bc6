-- What a line `missing` of the report stands for: a visit that is excused, and by the reason that is printed.
use Rattle.std.specs.Prelude.{◌≡◌, ℕ, List, Some}
use Rattle.tiger_base.specs.declared.tenancy.Tenancy.{Tenancy}
use Rattle.slot_plan.specs.declared.params.Params.{Params}
use Rattle.node_kit.specs.declared.course.Kept.{Kept}
use Rattle.node_kit.specs.declared.journal.Entry.{Entry}
use Rattle.run_model.specs.Fronts.{AnyByRecursion}
use Rattle.run_model.specs.Served.{IsPut}
use Rattle.run_model.specs.Excuses.{IsFailedRead, LostInPieces, LostInDeath, WasStopped}
use Rattle.run_report.specs.declared.outcome.BlockKind.TheVariants as kind
use Rattle.run_report.specs.declared.outcome.Reason.{Reason}
use Rattle.run_report.specs.declared.outcome.Reason.TheVariants as reason
use Rattle.run_report.specs.Outcomes.{kind_of}
use Rattle.run_promises.specs.Served.{IsSettledVisit}

-- a read of the whole block failed, at whichever cub
abbrev pub AReadFailed : List (List Entry) → Tenancy → ℕ → Type 0
AReadFailed journals t visit =
    AnyByRecursion (λ journal. AnyByRecursion (λ e. IsFailedRead t.instance.0 visit 0 e.what) journal) journals

-- what a printed reason stands for
abbrev pub IsTrueReason : Params → List (List Entry) → Tenancy → ℕ → Reason → Type 0
IsTrueReason p journals t visit reason.Read = AReadFailed journals t visit
IsTrueReason p journals t visit reason.Dead = LostInDeath p journals t visit
IsTrueReason p journals t visit reason.Piece = LostInPieces p journals t visit

-- a settled visit that the report calls missing is excused by the reason that is printed, and its viewer was not
-- stopped before it was over
abbrev pub EachReasonIsTrue : Kept → Type 0
EachReasonIsTrue k = (t : Tenancy) (visit : ℕ) (why : Reason) → IsPut k.journals t → IsSettledVisit k t visit
    → kind_of k.course.plan.params k.catalogue k.journals t visit ≡ Some (kind.Missing why)
    → IsTrueReason k.course.plan.params k.journals t visit why × ¬ WasStopped k.course.plan.params k.journals t visit
