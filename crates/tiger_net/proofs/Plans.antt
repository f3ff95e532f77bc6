-- Bytes mean one plan, or none.
use Rattle.std.proofs.Common.{◌≡◌, ℕ, List, Ok, Err, ap, sym, ◌∙◌}
use Rattle.std.specs.Prelude.{Result}
use Rattle.outside.specs.Told.{bytes}
use Rattle.net_read.specs.declared.fault.NetFault.{NetFault}
use Rattle.net_read.specs.Meaning.{net_meaning}
use Rattle.net_read.specs.Plans.{NetSaid}
use Rattle.tiger_net.specs.declared.stop.NetRule.{NetRule}
use Rattle.tiger_net.specs.Lines.{HasLines}
use Rattle.tiger_net.specs.Stops.{broken_by, BreaksNetRule}

abbrev a_plan : NetSaid → Result NetSaid NetFault
a_plan p = Ok p

abbrev no_plan : NetFault → Result NetSaid NetFault
no_plan f = Err f

same_plan : (p q : NetSaid) → a_plan p ≡ a_plan q → p ≡ q
same_plan p q e = cc

pub not_both : (p : NetSaid) (f : NetFault) → a_plan p ≡ no_plan f → ⊥
not_both p f e = absurd (cc)

-- the plan that was read is the one that the told bytes mean
pub plan_is : (text : List ℕ) (plan : NetSaid) (P : List ℕ → Type 0) (h : HasLines (bytes text) P) → net_meaning text ≡ Ok plan → h.plan ≡ plan
plan_is text plan P h means =
    let e : a_plan h.plan ≡ a_plan plan = sym h.means ∙ ap net_meaning h.read.0 ∙ means in
    same_plan h.plan plan e

-- told bytes that mean none have no lines
pub means_none : (text : List ℕ) (f : NetFault) (P : List ℕ → Type 0) → HasLines (bytes text) P → net_meaning text ≡ Err f → ⊥
means_none text f P h means =
    let e : a_plan h.plan ≡ no_plan f = sym h.means ∙ ap net_meaning h.read.0 ∙ means in
    not_both h.plan f e

-- told bytes that mean a plan break no rule
pub breaks_none : (text : List ℕ) (plan : NetSaid) (rule : NetRule) → BreaksNetRule (bytes text) rule → net_meaning text ≡ Ok plan → ⊥
breaks_none text plan rule h means =
    let e : a_plan plan ≡ no_plan (broken_by rule) = sym means ∙ ap net_meaning (sym h.read.0) ∙ h.means in
    not_both plan (broken_by rule) e

-- told bytes break one rule
pub breaks_one : (text : List ℕ) (rule : NetRule) (f : NetFault) → BreaksNetRule (bytes text) rule → net_meaning text ≡ Err f → broken_by rule ≡ f
breaks_one text rule f h means =
    let e : no_plan (broken_by rule) ≡ no_plan f = sym h.means ∙ ap net_meaning h.read.0 ∙ means in
    cc
