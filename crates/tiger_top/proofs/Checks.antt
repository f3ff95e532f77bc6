-- How a check ends, as a status of all commands.
use Rattle.std.proofs.Common.{◌≡◌, ℕ, List, ap, subst, inl, inr, ◌⊎◌, ⊎_elim}
use Rattle.outside.specs.Told.{FilesState}
use Rattle.tiger_check.specs.declared.status.CheckStatus.{CheckStatus}
use Rattle.tiger_check.specs.declared.status.CheckStatus.TheVariants as checks
use Rattle.tiger_check.specs.Statuses.{as_run, IsCheckRefusal}
use Rattle.tiger_input.specs.declared.status.Status.{Status}
use Rattle.tiger_input.specs.declared.status.Status.TheVariants as statuses
use Rattle.tiger_input.specs.Ending.{EndsInputs}
use Rattle.tiger_top.specs.declared.status.TopStatus.TheVariants as tops
use Rattle.tiger_top.specs.Statuses.{OfCheck, IsTopRefusal, IsDoneOrNoMemory, top_by_check}

pub of_end : (P : CheckStatus → Type 0) (end : CheckStatus) → P end → OfCheck P (top_by_check end)
of_end P (checks.Run status) holds = holds
of_end P (checks.Unsound fault) holds = holds

-- the words are known
pub known : (end : CheckStatus) (name : List ℕ) (old new : FilesState) → EndsInputs name old new (as_run end)
    → top_by_check end ≡ tops.Tiger statuses.Words → ⊥
known (checks.Run status) name old new ends is =
    let words : status ≡ statuses.Words = cc in
    subst (λ (s : Status). EndsInputs name old new s) words ends
known (checks.Unsound fault) name old new ends is = absurd (cc)

pub refuses : (end : CheckStatus) → IsTopRefusal (top_by_check end) → IsCheckRefusal end
refuses (checks.Run status) refusal = refusal
refuses (checks.Unsound fault) refusal = refusal

pub done_or_no_memory : (end : CheckStatus) → (end ≡ checks.Run statuses.Done) ⊎ (end ≡ checks.Run statuses.NoMemory) → IsDoneOrNoMemory (top_by_check end)
done_or_no_memory end either = ⊎_elim (λ e. inl (ap top_by_check e)) (λ e. inr (ap top_by_check e)) either
