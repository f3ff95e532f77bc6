use Rattle.std.proofs.Common.{◌≡◌, ℕ, List, [], Some, None, slice_get, refl, sym, subst, arith}
use Rattle.audit_text.specs.Texts.{items_in, parts_of}
use Rattle.audit_text.specs.declared.item.Item.TheVariants as item
use Rattle.slot_plan.specs.Conditions.{IsPlan}
use Rattle.slot_plan.specs.Samples.{small}
use Rattle.node_kit.specs.declared.course.Kept.{Kept}
use Rattle.node_kit.specs.declared.journal.Entry.{Entry}
use Rattle.run_model.specs.Samples.{dying, kept}
use Rattle.audit_verdict.proofs.rows.lines.Goals as goal

abbrev run : Kept → IsPlan small → Kept
run k plan = kept k plan 10 (dying (Some 4) None None) [] []

pub returns-clause-death : goal.returns-clause-death
unfolding items_in
returns-clause-death c k plan = record { beat = 4; here = refl; left = None; back = None; says = (5, refl, refl) }

pub returns-clause-line_before : goal.returns-clause-line_before
unfolding items_in
returns-clause-line_before c k plan h =
    let line = h.says.1 in
    let there : h.says.0 ≡ 4 = omega (arith, line) in
    let at = subst (λ (i : ℕ). slice_get (items_in (parts_of (run k plan))) i
    ≡ Some (item.Death (record { 0 = 0 }) h.beat h.left h.back)) there h.says.2 in
    absurd (cc at)

pub returns-clause-no_death : goal.returns-clause-no_death
returns-clause-no_death c k plan line h = let none = h.here in absurd (cc none)

pub returns-clause-no_order : goal.returns-clause-no_order
returns-clause-no_order c k plan line h = let there = h.there in omega (arith, there)

pub returns-clause-no_entry : goal.returns-clause-no_entry
returns-clause-no_entry c k plan line h =
    let both : Some [] ≡ Some h.journal = h.here in
    let none : [] ≡ h.journal = cc in
    let at = subst (λ (q : List Entry). slice_get q 0 ≡ Some h.entry) (sym none) h.at in
    absurd (cc at)
