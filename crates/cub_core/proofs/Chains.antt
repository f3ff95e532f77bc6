-- The steps of a tick one after another, each of which was done.
use Rattle.std.proofs.Common.{◌≡◌, ℕ, Bool, false, Result, Ok, Err, OnOk, is_err, ◌≤◌, List, ◌++◌, append_assoc, ap, sym, subst, ◌∙◌}
use Rattle.std.proofs.lemmas.List.{append-nil}
use Rattle.tiger_base.specs.declared.number.Stamp.{Stamp}
use Rattle.tiger_base.specs.declared.message.Msg.{Msg}
use Rattle.tiger_base.specs.Limits.{most_reading}
use Rattle.slot_plan.specs.declared.params.Params.{Params}
use Rattle.node_kit.specs.declared.outbox.Out.{Out}
use Rattle.node_kit.specs.Steps.{Deed}
use Rattle.node_kit.specs.declared.site.Site.{Site}
use Rattle.node_kit.specs.Deeds.{Did, then_do}
use Rattle.cub_rules.specs.declared.store.Store.{Store}
use Rattle.cub_rules.specs.State.{IsStoreOf}
use Rattle.cub_rules.specs.Ticks.{releasing, believing, inserting, splitting, forwarding, reading, serving, beating, ticking}
use Rattle.cub_changes.proofs.Stores.{IsRule}
use Rattle.cub_changes.proofs.Rules.{inserting_right, releasing_right, believing_right, splitting_right, forwarding_right, reading_right}

-- what the cub of a site may keep
abbrev pub IsKept : Site → Store → Type 0
IsKept site h = IsStoreOf site.plan.params site.cub.0 h

-- a rule that was followed leaves what the cub may keep
pub followed : (p : Params) (c : ℕ) (rule : Store → Deed Msg Store) (h new : Store) → IsRule p c rule → IsStoreOf p c h → new ≡ (rule h).state → IsStoreOf p c new
followed p c rule h new right kept is = subst (IsStoreOf p c) (sym is) (right h kept).keeps

pub released : (site : Site) (stamp : Stamp) {h new : Store} → IsKept site h → new ≡ (releasing site.plan.params stamp h).state → IsKept site new
released site stamp {h} {new} kept is =
    followed site.plan.params site.cub.0 (releasing site.plan.params stamp) h new (releasing_right site.plan.params site.cub.0 stamp) kept is

pub watched : (site : Site) (stamp : Stamp) {h new : Store} → IsKept site h
    → new ≡ (believing site.plan.params site.cub.0 stamp h).state → IsKept site new
watched site stamp {h} {new} kept is =
    let rule = believing site.plan.params site.cub.0 stamp in
    followed site.plan.params site.cub.0 rule h new (believing_right site.plan.params site.cub.0 stamp) kept is

pub inserted : (site : Site) (stamp : Stamp) {h new : Store} → stamp.reading ≤ most_reading → IsKept site h
    → new ≡ (inserting site.plan.params site.cub.0 stamp h).state → IsKept site new
inserted site stamp {h} {new} short kept is =
    let rule = inserting site.plan.params site.cub.0 stamp in
    followed site.plan.params site.cub.0 rule h new (inserting_right site.plan.params site.cub.0 stamp site.plan.sound site.inside short) kept is

pub split : (site : Site) (stamp : Stamp) {h new : Store} → IsKept site h
    → new ≡ (splitting site.plan.params site.cub.0 stamp h).state → IsKept site new
split site stamp {h} {new} kept is =
    let rule = splitting site.plan.params site.cub.0 stamp in
    followed site.plan.params site.cub.0 rule h new (splitting_right site.plan.params site.cub.0 stamp site.plan.sound site.inside) kept is

pub forwarded : (site : Site) (stamp : Stamp) {h new : Store} → IsKept site h
    → new ≡ (forwarding site.plan.params site.cub.0 stamp h).state → IsKept site new
forwarded site stamp {h} {new} kept is =
    let rule = forwarding site.plan.params site.cub.0 stamp in
    followed site.plan.params site.cub.0 rule h new (forwarding_right site.plan.params site.cub.0 stamp site.plan.sound site.inside) kept is

pub asked : (site : Site) (stamp : Stamp) {h new : Store} → IsKept site h
    → new ≡ (reading site.plan.params stamp h).state → IsKept site new
asked site stamp {h} {new} kept is =
    followed site.plan.params site.cub.0 (reading site.plan.params stamp) h new (reading_right site.plan.params site.cub.0 stamp site.plan.sound site.inside) kept is

-- release puts nothing out
release_did : (p : Params) (stamp : Stamp) (h new : Store) (outs : List (Out Msg)) → new ≡ (releasing p stamp h).state → Did (releasing p stamp h) outs outs new
unfolding releasing
release_did p stamp h new outs is = (sym (append-nil outs), is)

-- two rules that were followed one after the other
both_did : (f g : Store → Deed Msg Store) (h : Store) {middle new : Store} (before : List (Out Msg)) {between after : List (Out Msg)}
    → Did (f h) before between middle → Did (g middle) between after new → Did (then_do f g h) before after new
both_did f g h {middle} {new} before {between} {after} first second =
    let next : Did (g (f h).state) between after new = subst (λ s. Did (g s) between after new) first.1 second in
    (next.0 ∙ (ap (λ o. o ++ (g (f h).state).outs) first.0 ∙ append_assoc before (f h).outs (g (f h).state).outs), next.1)

-- the steps from the fourth on, from the third on, and from the second on
abbrev late : Params → ℕ → Stamp → Store → Deed Msg Store
late p c stamp = then_do (splitting p c stamp) (then_do (forwarding p c stamp) (then_do (reading p stamp) (then_do (serving p c stamp) (beating p c stamp))))

abbrev from_insertion : Params → ℕ → Stamp → Store → Deed Msg Store
from_insertion p c stamp = then_do (inserting p c stamp) (late p c stamp)

abbrev from_deadman : Params → ℕ → Stamp → Store → Deed Msg Store
from_deadman p c stamp = then_do (believing p c stamp) (from_insertion p c stamp)

late_did : (p : Params) (c : ℕ) (stamp : Stamp) (h4 : Store) (o3 : List (Out Msg)) {h5 h6 h7 h8 : Store} {o4 o5 o6 o7 o8 : List (Out Msg)}
    → Did (splitting p c stamp h4) o3 o4 h5 → Did (forwarding p c stamp h5) o4 o5 h6 → Did (reading p stamp h6) o5 o6 h7
    → Did (serving p c stamp h7) o6 o7 h8 → Did (beating p c stamp h8) o7 o8 h8 → Did (late p c stamp h4) o3 o8 h8
late_did p c stamp h4 o3 {h5} {h6} {h7} {h8} {o4} {o5} {o6} s f r v b =
    let last = both_did (serving p c stamp) (beating p c stamp) h7 o6 v b in
    let third = both_did (reading p stamp) (then_do (serving p c stamp) (beating p c stamp)) h6 o5 r last in
    let second = both_did (forwarding p c stamp) (then_do (reading p stamp) (then_do (serving p c stamp) (beating p c stamp))) h5 o4 f third in
    both_did (splitting p c stamp) (then_do (forwarding p c stamp) (then_do (reading p stamp) (then_do (serving p c stamp) (beating p c stamp)))) h4 o3 s second

-- and all of them
pub tick_did : (p : Params) (c : ℕ) (stamp : Stamp) (h1 : Store) (o1 : List (Out Msg)) {h2 h3 h4 h5 h6 h7 h8 : Store} {o2 o3 o4 o5 o6 o7 o8 : List (Out Msg)}
    → h2 ≡ (releasing p stamp h1).state → Did (believing p c stamp h2) o1 o2 h3 → Did (inserting p c stamp h3) o2 o3 h4
    → Did (splitting p c stamp h4) o3 o4 h5 → Did (forwarding p c stamp h5) o4 o5 h6 → Did (reading p stamp h6) o5 o6 h7
    → Did (serving p c stamp h7) o6 o7 h8 → Did (beating p c stamp h8) o7 o8 h8 → Did (ticking p c stamp h1) o1 o8 h8
unfolding ticking
tick_did p c stamp h1 o1 {h2} {h3} {h4} {h5} {h6} {h7} {h8} {o2} {o3} release w i s f r v b =
    let third = both_did (inserting p c stamp) (late p c stamp) h3 o2 i (late_did p c stamp h4 o3 s f r v b) in
    let second = both_did (believing p c stamp) (from_insertion p c stamp) h2 o1 w third in
    both_did (releasing p stamp) (from_deadman p c stamp) h1 o1 (release_did p stamp h1 h2 o1 release) second

-- what holds of an `Ok`, where it is no `Err`
pub where_ok : {T E P : Type 0} (r : Result T E) (b : Bool) → b ≡ is_err r → b ≡ false → OnOk r P → P
where_ok (Ok x) b same past held = held
where_ok (Err x) b same past held = absurd (cc)
