-- What was read of a plan in memory is told, and why it was refused.
use Rattle.std.proofs.Common.{◌≡◌, ◌++◌, ℕ, List, arith, inl, inr}
use Rattle.outside.specs.Memory.{MemoryFiles, MemorySink, Entries, told_of, source_of, sunk_in}
use Rattle.net_read.specs.Plans.{NetSaid, IsNetPlan}
use Rattle.net_run.specs.Text.{net_text}
use Rattle.tiger_input.proofs.Told.{is_told, is_absent, has_bytes}
use Rattle.tiger_net.specs.declared.stop.NetRule.{NetRule}
use Rattle.tiger_net.specs.declared.stop.NetRule.TheVariants as rules
use Rattle.tiger_net.specs.Lines.{HasLines}
use Rattle.tiger_net.specs.Stops.{BreaksNetRule, rule_number}
use Rattle.tiger_input.specs.declared.status.Status.TheVariants as statuses
use Rattle.tiger_input.specs.Ending.{IsWritten}
use Rattle.tiger_top.specs.declared.status.TopStatus.{TopStatus}
use Rattle.tiger_top.specs.declared.status.TopStatus.TheVariants as tops
use Rattle.tiger_top.specs.Ends.{NetCause, IsRunnableNet}
use Rattle.net_promises.specs.Calls.{IsToldPlan, IsPlanCause}
use Rattle.net_promises.proofs.Means.{meaning-sound}

-- ---- the plan

-- what was read is told, and meets every condition of a plan
told_plan : (entries : Entries) (name : List ℕ) (P : List ℕ → Type 0) (Q : NetSaid → Type 0) → HasLines (told_of entries name) P
    → ((plan : NetSaid) → IsNetPlan plan → P (net_text plan) → Q plan) → IsToldPlan entries name Q
told_plan entries name P Q h from = record {
  text = h.bytes;
  is_told = is_told entries name h.bytes h.read.0;
  is_short = h.read.1;
  plan = h.plan;
  means = h.means;
  holds = from h.plan (meaning-sound h.bytes h.plan h.means) h.holds;
}

-- its lines stand behind what the output had
pub lines_written : (entries : Entries) (name : List ℕ) (old new : MemorySink) → HasLines (told_of entries name) (IsWritten (sunk_in old) (sunk_in new))
    → IsToldPlan entries name (λ plan. new.bytes ≡ old.bytes ++ net_text plan)
lines_written entries name old new h =
    told_plan entries name (IsWritten (sunk_in old) (sunk_in new)) (λ plan. new.bytes ≡ old.bytes ++ net_text plan) h (λ plan is written. written)

-- and what is true of every plan is true of it
pub told_of_plan : (entries : Entries) (name : List ℕ) (P : List ℕ → Type 0) (Q : NetSaid → Type 0) → HasLines (told_of entries name) P
    → ((plan : NetSaid) → IsNetPlan plan → Q plan) → IsToldPlan entries name Q
told_of_plan entries name P Q h law = told_plan entries name P Q h (λ plan is holds. law plan is)

pub runnable : (entries : Entries) (name : List ℕ) (P : NetSaid → Type 0) → IsToldPlan entries name P → IsRunnableNet (told_of entries name)
runnable entries name P h = record { plan_bytes = h.text; is_told = h.is_told; is_short = h.is_short; plan = h.plan; is_sound = h.means }

-- ---- why it was refused

module _ (old new : MemoryFiles) (name : List ℕ) where
  rule_cause : (number : ℕ) (rule : NetRule) → number ≡ rule_number rule → BreaksNetRule (told_of old.entries name) rule
      → IsPlanCause old new name (tops.Net number)
  rule_cause number rules.Json e h = inl (e, (h.bytes, is_told old.entries name h.bytes h.read.0, h.means))
  rule_cause number rules.Form e h = inr (e, (h.bytes, is_told old.entries name h.bytes h.read.0, h.means))

  pub plan_cause : (status : TopStatus) → NetCause name (source_of old) (source_of new) status → IsPlanCause old new name status
  plan_cause (tops.Tiger (statuses.Absent file)) cause = is_absent old.entries name cause.1.1
  plan_cause (tops.Tiger (statuses.ReadFault file)) cause = cause.1
  plan_cause (tops.Tiger (statuses.TooLong file given most)) cause =
      let longer = cause.1.1.0 in
      let has = has_bytes old.entries name given cause.1.1.1 in
      (has.0, has.1, omega (arith, longer, has.2))
  plan_cause (tops.Tiger statuses.Words) cause = cause
  plan_cause (tops.Tiger (statuses.Scenario fault)) cause = cause
  plan_cause (tops.Tiger statuses.Done) cause = tt
  plan_cause (tops.Tiger statuses.WriteFault) cause = tt
  plan_cause (tops.Tiger statuses.NoMemory) cause = tt
  plan_cause (tops.Net rule) cause = rule_cause rule cause.0 cause.1 cause.2
  plan_cause tops.Device cause = cause
  plan_cause (tops.Damaged disk at kept found) cause = cause
  plan_cause tops.ImageExists cause = cause
  plan_cause (tops.Unsound fault) cause = cause
  plan_cause (tops.Journal line) cause = cause
  plan_cause (tops.Audit c here line) cause = cause
