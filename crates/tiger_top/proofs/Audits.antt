-- How an audit ends, as a status of all commands.
use Rattle.std.proofs.Common.{◌≡◌, ℕ, List, ap, subst, inl, inr, ◌⊎◌, ⊎_elim}
use Rattle.outside.specs.Told.{FilesState}
use Rattle.tiger_audit.specs.declared.status.AuditStatus.{AuditStatus}
use Rattle.tiger_audit.specs.declared.status.AuditStatus.TheVariants as audits
use Rattle.tiger_audit.specs.Ends.{AuditCause}
use Rattle.tiger_audit.specs.Statuses.{IsAuditRefusal}
use Rattle.tiger_input.specs.declared.status.Status.{Status}
use Rattle.tiger_input.specs.declared.status.Status.TheVariants as statuses
use Rattle.tiger_top.specs.declared.status.TopStatus.TheVariants as tops
use Rattle.tiger_top.specs.Statuses.{OfAudit, IsTopRefusal, IsDoneOrNoMemory, top_by_audit}

pub of_audited : (P : AuditStatus → Type 0) (end : AuditStatus) → P end → OfAudit P (top_by_audit end)
of_audited P (audits.Run status) holds = holds
of_audited P (audits.Journal line) holds = holds
of_audited P (audits.Audit c here line) holds = holds

-- the words are known
pub audit_known : (end : AuditStatus) (name : List ℕ) (old new : FilesState) → AuditCause name old new end
    → top_by_audit end ≡ tops.Tiger statuses.Words → ⊥
audit_known (audits.Run status) name old new cause is =
    let words : status ≡ statuses.Words = cc in
    subst (λ (s : Status). AuditCause name old new (audits.Run s)) words cause
audit_known (audits.Journal line) name old new cause is = absurd (cc)
audit_known (audits.Audit c here line) name old new cause is = absurd (cc)

pub audit_refuses : (end : AuditStatus) → IsTopRefusal (top_by_audit end) → IsAuditRefusal end
audit_refuses (audits.Run status) refusal = refusal
audit_refuses (audits.Journal line) refusal = refusal
audit_refuses (audits.Audit c here line) refusal = refusal

pub audit_done_or_no_memory : (end : AuditStatus) → (end ≡ audits.Run statuses.Done) ⊎ (end ≡ audits.Run statuses.NoMemory)
    → IsDoneOrNoMemory (top_by_audit end)
audit_done_or_no_memory end either = ⊎_elim (λ e. inl (ap top_by_audit e)) (λ e. inr (ap top_by_audit e)) either
