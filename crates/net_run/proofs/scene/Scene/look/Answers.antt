use Rattle.std.proofs.Common.{◌≡◌, ◌≤◌, ◌∙◌, ℕ, List, length, sym, ap, subst}
use Rattle.std.specs.List.{fold}
use Rattle.net_schedule.specs.Rings.{most_quanta}
use Rattle.net_run.specs.declared.peak.Peak.{Peak}
use Rattle.net_run.specs.Peaks.{higher, peak_after}
use Rattle.net_run.specs.Runs.{Scene}
use Rattle.net_run.proofs.Loads.{peaks_in, peak_is, peak_stays}
use Rattle.net_run.proofs.Scenes.{row_few, scene_looked}
use Rattle.net_run.proofs.scene.Scene.look.Goals as goal

pub or_higher-self-inside-requires : goal.or_higher-self-inside-requires
or_higher-self-inside-requires c = subst (λ (xs : List ℕ). length xs ≤ most_quanta) (sym c.as_slice.ensures.value) (row_few _ _ _ _ _ c.self.invariant)

pub invariant_of-self : goal.invariant_of-self
invariant_of-self c =
    let p = c.self.inside.peak in
    scene_looked _ _ c.self.inside.peak _ c.self.inside.row.items _ c.self.invariant
    (c.or_higher-self-inside.ensures ∙ ap (λ (xs : List ℕ). fold higher c.self.inside.peak (peaks_in xs 0 (length xs))) c.as_slice.ensures.value)

pub returns-then-self : goal.returns-then-self
returns-then-self c =
    let q : _ ≡ peak_after c.self.inside.peak c.self.inside.world =
    c.or_higher-self-inside.ensures ∙ ap (λ (xs : List ℕ). fold higher c.self.inside.peak (peaks_in xs 0 (length xs))) c.as_slice.ensures.value ∙ peak_is c.self.inside.peak c.self.inside.world c.self.inside.row.items c.self.invariant.carried in
    subst (λ (s : Scene). ◌≡◌ {A = Scene} (record { world = c.self.inside.world; peak = c.or_higher-self-inside.result }) (record s { peak = peak_after s.peak s.world })) c.self.view_is
    (ap (λ (x : Peak). record { world = c.self.inside.world; peak = x }) q)

pub returns-else-self : goal.returns-else-self
returns-else-self c =
    let q = peak_stays c.self.inside.peak c.self.inside.world c.self.inside.row.items c.self.invariant.carried (c.self.invariant.seen c.if-self.false) in
    subst (λ (s : Scene). s ≡ record s { peak = peak_after s.peak s.world }) c.self.view_is
    (ap (λ (x : Peak). record { world = c.self.inside.world; peak = x }) q)
