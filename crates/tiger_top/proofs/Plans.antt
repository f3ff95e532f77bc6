-- Bytes that break a rule, and outputs that hold lines.
use Rattle.std.proofs.Common.{◌≡◌, ℕ, List, length, Err, ap, sym, ◌∙◌, arith}
use Rattle.outside.specs.Told.{bytes}
use Rattle.net_read.specs.declared.fault.NetFault.TheVariants as faults
use Rattle.net_read.specs.Meaning.{net_meaning}
use Rattle.tiger_net.specs.declared.stop.NetRule.{NetRule}
use Rattle.tiger_net.specs.declared.stop.NetRule.TheVariants as rules
use Rattle.tiger_net.specs.Stops.{BreaksNetRule, rule_number}
use Rattle.tiger_net.proofs.Plans.{not_both, breaks_one}
use Rattle.tiger_top.specs.Ends.{IsRunnableNet}

-- a number is that of one rule
pub no_number : (rule : NetRule) → 3 ≡ rule_number rule → ⊥
no_number rules.Json e = omega (arith, e)
no_number rules.Form e = omega (arith, e)

pub other_number : (text : List ℕ) (rule : NetRule) → 1 ≡ rule_number rule → BreaksNetRule (bytes text) rule → net_meaning text ≡ Err faults.BadForm → ⊥
other_number text rules.Json e h means =
    let same : faults.NoJson ≡ faults.BadForm = breaks_one text rules.Json faults.BadForm h means in
    absurd (cc)
other_number text rules.Form e h means = omega (arith, e)

-- a runnable plan is that of the told bytes
told_bytes : (a b : List ℕ) → bytes a ≡ bytes b → a ≡ b
told_bytes a b e = cc

pub runnable_bytes : (text : List ℕ) (h : IsRunnableNet (bytes text)) → length text ≡ length h.plan_bytes
runnable_bytes text h = ap length (told_bytes text h.plan_bytes h.is_told)

pub runs_none : (text : List ℕ) → IsRunnableNet (bytes text) → net_meaning text ≡ Err faults.BadForm → ⊥
runs_none text h means =
    not_both h.plan faults.BadForm (sym h.is_sound ∙ ap net_meaning (sym (told_bytes text h.plan_bytes h.is_told)) ∙ means)
