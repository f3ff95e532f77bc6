-- What a controller knows after a message, and what its journal then tells of it.
use Rattle.std.proofs.Common.{◌≡◌, List, [], ◌∷◌, Bool, true, false, cond, ◌==◌, Option, Some, None, refl, sym, ap, ◌∙◌}
use Rattle.std.specs.Prelude.{find}
use Rattle.std.specs.Option.{option_or}
use Rattle.tiger_base.specs.declared.number.Instance.{Instance}
use Rattle.tiger_base.specs.declared.number.LinkNo.{LinkNo}
use Rattle.tiger_base.specs.declared.tenancy.Tenancy.{Tenancy}
use Rattle.tiger_base.specs.declared.message.Msg.{Msg}
use Rattle.tiger_base.specs.declared.message.Msg.TheVariants as msg
use Rattle.tiger_base.specs.Notes.{noted}
use Rattle.slot_plan.specs.declared.params.Params.{Params}
use Rattle.node_kit.specs.declared.journal.What.TheVariants as what
use Rattle.node_kit.specs.Form.{is_in_form, is_tenancy}
use Rattle.run_facts.specs.Commanded.{place_of}
use Rattle.controller_core.specs.declared.known.Known.{Known}
use Rattle.controller_core.specs.State.{AreInForm, tenancy_of}
use Rattle.controller_core.specs.Rules.{placed_once, placing, hearing, taking}
use Rattle.controller_core.specs.Taken.{place_told}
use Rattle.controller_core.proofs.InForm.{placing_in_form}
use Rattle.controller_core.proofs.Keeping as keeping

once_gone : (t : Tenancy) (o : Option Tenancy) (known : Known) → (placed_once t o known).gone ≡ known.gone
once_gone t None known = refl
once_gone t (Some other) known = refl

hearing_gone : (m : Msg) (known : Known) → (hearing m known).gone ≡ known.gone
unfolding hearing placing
hearing_gone (msg.Placed t) known = once_gone t (tenancy_of known.placed t.instance) known
hearing_gone other known = refl

if_gone : (b : Bool) (k known : Known) → k.gone ≡ known.gone → (cond b k known).gone ≡ known.gone
if_gone true k known e = e
if_gone false k known e = refl

pub taking_gone : (p : Params) (m : Msg) (known : Known) → (taking p m known).gone ≡ known.gone
unfolding taking
taking_gone p m known = if_gone (is_in_form p (noted m)) (hearing m known) known (hearing_gone m known)

hearing_in_form : (p : Params) (m : Msg) (known : Known) → is_in_form p (noted m) ≡ true → AreInForm p known → AreInForm p (hearing m known)
unfolding hearing
hearing_in_form p (msg.Placed t) known form kept = placing_in_form p t known form kept
hearing_in_form p other known form kept = kept

if_in_form : (p : Params) (b : Bool) (k known : Known) → (b ≡ true → AreInForm p k) → AreInForm p known → AreInForm p (cond b k known)
if_in_form p true k known h kept = h refl
if_in_form p false k known h kept = kept

pub taking_in_form : (p : Params) (m : Msg) (known : Known) → AreInForm p known → AreInForm p (taking p m known)
unfolding taking
taking_in_form p m known kept =
    if_in_form p (is_in_form p (noted m)) (hearing m known) known (λ form. hearing_in_form p m known form kept) kept

-- the tenancy of an instance among those that are told
abbrev pub found : Instance → List Tenancy → Option Tenancy
found v ts = find (λ t. t.instance.0 == v.0) ts

found_if : (v : Instance) (t : Tenancy) (b : Bool) → found v (cond b (t ∷ []) []) ≡ cond b (cond (t.instance.0 == v.0) (Some t) None) None
found_if v t true = refl
found_if v t false = refl

-- the place that the journal tells of a message is the one that the message tells
place_is : (p : Params) (link : LinkNo) (m : Msg) (v : Instance) → found v (place_of p (what.Got link (noted m))) ≡ place_told p v m
place_is p link (msg.Placed t) v = found_if v t (is_tenancy p t)
place_is p link other v = refl

-- what a message tells is what is known after it
pub taking_tells : (p : Params) (link : LinkNo) (m : Msg) (known : Known) (v : Instance)
    → option_or (tenancy_of known.placed v) (found v (place_of p (what.Got link (noted m)))) ≡ tenancy_of (taking p m known).placed v
taking_tells p link m known v =
    ap (λ o. option_or (tenancy_of known.placed v) o) (place_is p link m v) ∙ sym (keeping.taking_tells p m known v)
