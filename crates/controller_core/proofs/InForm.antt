-- The tenancies that a controller knows stay in form.
use Rattle.std.proofs.Common.{◌≡◌, ℕ, ◌≤◌, List, [], ◌∷◌, Bool, true, false, cond, nat_lt, nat_le, ◌&&◌, Option, Some, None, IsTrue, IfSome, arith, sym, subst, ◌==◌}
use Rattle.std.specs.Prelude.{find, All, OnOk, OnErr, Result, Ok, Err}
use Rattle.std.proofs.lemmas.Grind.{common_steps}
use Rattle.std.proofs.lemmas.List.Elements.{All-head, All-tail, All-push}
use Rattle.tiger_base.specs.declared.number.Instance.{Instance}
use Rattle.tiger_base.specs.declared.number.NoMemory.{NoMemory}
use Rattle.tiger_base.specs.declared.tenancy.Tenancy.{Tenancy}
use Rattle.tiger_base.specs.Limits.{most_visit}
use Rattle.slot_plan.specs.declared.params.Params.{Params}
use Rattle.node_kit.specs.Form.{is_tenancy}
use Rattle.controller_core.specs.declared.known.Known.{Known}
use Rattle.controller_core.specs.State.{AreInForm, tenancy_of}
use Rattle.controller_core.specs.Rules.{placed_once, placing}

found_passes : {X : Type 0} (P : X → Type 0) (test : X → Bool) (xs : List X) → All P xs → IfSome (find test xs) P
found_passes P test [] h = tt
found_passes P test (x ∷ xs) h =
    elim (test x) as (λ b. IfSome (cond b (Some x) (find test xs)) P) [ true ↦ All-head P x xs h | false ↦ found_passes P test xs (All-tail P x xs h) ]

pub found_in_form : (p : Params) (known : Known) (v : Instance) → AreInForm p known → IfSome (tenancy_of known.placed v) (λ t. IsTrue (is_tenancy p t))
found_in_form p known v h = found_passes (λ t. IsTrue (is_tenancy p t)) (λ t. t.instance.0 == v.0) known.placed h

placed_once_in_form : (p : Params) (t : Tenancy) (o : Option Tenancy) (known : Known) → IsTrue (is_tenancy p t) → AreInForm p known
    → AreInForm p (placed_once t o known)
placed_once_in_form p t None known form h = All-push (λ t. IsTrue (is_tenancy p t)) known.placed t h form
placed_once_in_form p t (Some other) known form h = h

pub placing_in_form : (p : Params) (t : Tenancy) (known : Known) → IsTrue (is_tenancy p t) → AreInForm p known → AreInForm p (placing t known)
unfolding placing
placing_in_form p t known form h = placed_once_in_form p t (tenancy_of known.placed t.instance) known form h

-- whether there was memory for it or not
pub placed_in_form : (p : Params) (t : Tenancy) (old new : Known) (r : Result Unit NoMemory) → IsTrue (is_tenancy p t) → AreInForm p old
    → OnOk r (new ≡ placing t old) → OnErr r (new ≡ old) → AreInForm p new
placed_in_form p t old new (Ok x) form h ok err = subst (λ k. AreInForm p k) (sym ok) (placing_in_form p t old form h)
placed_in_form p t old new (Err x) form h ok err = subst (λ k. AreInForm p k) (sym err) h

-- a tenancy that is not over by a visit has no later last visit than there can be
pub visit_in_form : (p : Params) (t : Tenancy) (n : ℕ) → IsTrue (is_tenancy p t) → nat_lt t.last n ≡ false → n ≤ most_visit
visit_in_form p t n form over = grind (arith, common_steps)

pub tag_in_form : (p : Params) (t : Tenancy) (n : ℕ) → IsTrue (is_tenancy p t) → nat_lt t.last n ≡ false → IsTrue (nat_lt t.slot.0 p.slots && nat_le n most_visit)
tag_in_form p t n form over = grind (arith, common_steps)
