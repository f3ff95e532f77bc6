-- The claim on views and the one on what is local, entry by entry together.
use Rattle.std.proofs.Common.{Bool, ◌≡◌, ◌&&◌, IsTrue, List, [], ◌∷◌, sym, ◌∙◌}
use Rattle.std.specs.Prelude.{◌↔◌}
use Rattle.slot_plan.specs.declared.params.Params.{Params}
use Rattle.run_facts.specs.Order.{Noted}
use Rattle.run_model.specs.Fronts.{AtEach}
use Rattle.run_model.specs.Moments.{Moment, opening, next_moment}
use Rattle.run_model.specs.Parts.{IsLocal, ViewsArePart}
use Rattle.run_model.proofs.Reflects.{and_both, and_left, and_right}
use Rattle.audit_frame.proofs.Deciding.{GoesBySteps}
use Rattle.audit_views.specs.Verdicts.{ArePartAndLocal}
use Rattle.audit_views.proofs.Bringing.{local_goes_by_steps}
use Rattle.audit_views.proofs.Steps.{views_go_by_steps}

-- all views are part behind an entry, and the entry is local
abbrev pub IsFine : Params → Moment → Noted → Type 0
IsFine p m x = ViewsArePart p (next_moment m x) × IsLocal p m x

each_both : (R Q : Moment → Noted → Type 0) (m : Moment) (log : List Noted) → AtEach R next_moment m log → AtEach Q next_moment m log
    → AtEach (λ n x. R n x × Q n x) next_moment m log
each_both R Q m [] a b = tt
each_both R Q m (x ∷ xs) a b = ((a.0, b.0), each_both R Q (next_moment m x) xs a.1 b.1)

each_left : (R Q : Moment → Noted → Type 0) (m : Moment) (log : List Noted) → AtEach (λ n x. R n x × Q n x) next_moment m log
    → AtEach R next_moment m log
each_left R Q m [] h = tt
each_left R Q m (x ∷ xs) h = (h.0.0, each_left R Q (next_moment m x) xs h.1)

each_right : (R Q : Moment → Noted → Type 0) (m : Moment) (log : List Noted) → AtEach (λ n x. R n x × Q n x) next_moment m log
    → AtEach Q next_moment m log
each_right R Q m [] h = tt
each_right R Q m (x ∷ xs) h = (h.0.1, each_right R Q (next_moment m x) xs h.1)

pub both_go_by_steps : (p : Params) → GoesBySteps (ArePartAndLocal p) (IsFine p) next_moment opening
both_go_by_steps p log =
    let part = λ (m : Moment) (x : Noted). ViewsArePart p (next_moment m x) in (
      (λ h. each_both part (IsLocal p) opening log ((views_go_by_steps p log).0 h.0) ((local_goes_by_steps p log).0 h.1)),
      (λ h. (
        (views_go_by_steps p log).1 (each_left part (IsLocal p) opening log h),
        (local_goes_by_steps p log).1 (each_right part (IsLocal p) opening log h),
      )),
    )

-- what two tests say of an entry
pub both_judged : (p : Params) (m : Moment) (x : Noted) (local part fine : Bool) → fine ≡ (local && part)
    → IsTrue local ↔ IsLocal p m x → IsTrue part ↔ ViewsArePart p (next_moment m x) → IsTrue fine ↔ IsFine p m x
both_judged p m x local part fine is a b = (
  (λ t. (b.0 (and_right local part (sym is ∙ t)), a.0 (and_left local part (sym is ∙ t)))),
  (λ h. is ∙ and_both local part (a.1 h.1) (b.1 h.0)),
)
