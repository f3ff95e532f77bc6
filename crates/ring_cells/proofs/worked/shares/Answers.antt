use Rattle.std.proofs.Common.{◌≡◌, ◌≢◌, ℕ, ◌+◌, ◌<◌, [], ◌∷◌, map, true, false, Some, refl, ap, sym, subst, arith, cond}
use Rattle.std.specs.Prelude.{nat_lt}
use Rattle.std.proofs.lemmas.Bool.{ne_eqb}
use Rattle.std.proofs.lemmas.Bool.Decides.{nat_tests}
use Rattle.std.proofs.lemmas.Option.{none-some}
use Rattle.tiger_base.specs.declared.number.NodeNo.{NodeNo}
use Rattle.link_timing.specs.Clock.{new_clock}
use Rattle.node_kit.specs.declared.course.Course.{Course}
use Rattle.node_kit.specs.Life.{lifetime_of}
use Rattle.node_kit.specs.Links.{links_of, link_count, ends_of, controller_of}
use Rattle.node_kit.proofs.Ring.{ends_counted}
use Rattle.node_kit.proofs.Rows.{get-each_below}
use Rattle.node_kit.proofs.Ways.{links_sound}
use Rattle.run_facts.specs.Accounts.{HasCutIn, OnLink}
use Rattle.run_facts.specs.Beats.{pass}
use Rattle.run_facts.specs.Rings.{Traffic}
use Rattle.run_facts.proofs.Rows.{same-element}
use Rattle.ring_cells.specs.Rest.{with_five, node_count, made_up}
use Rattle.ring_cells.proofs.Resting.{rests, holds-below, ends-held}
use Rattle.ring_cells.proofs.Tried.{none-made_up}
use Rattle.ring_cells.proofs.worked.shares.Goals as goal

-- link 0 leads from the controller to cub 0
first-link : (c : Course) → (0 < c.plan.params.cubs) × (ends_of (links_of c.plan.params) 0 ≡ Some (controller_of (links_of c.plan.params), 0))
first-link c =
    let sound = links_sound c.plan.params c.plan.sound in
    let ring = sound.ring in
    let some : 0 < c.plan.params.cubs = omega (arith, ring) in
    let low : nat_lt 0 c.plan.params.cubs ≡ true = grind (arith, nat_tests, some) in
    (some, rw low refl)

pub returns-clause-rests : goal.returns-clause-rests
returns-clause-rests c = rests

pub returns-clause-made_up : goal.returns-clause-made_up
returns-clause-made_up c course line_of note step is h =
    let p = course.plan.params in
    let ends = (first-link course).1 in
    let held = ends-held course 0 (controller_of (links_of p)) 0 ends in
    let w = h.inner 0 (controller_of (links_of p)) 0 held.0 held.1 ends in
    let there = get-each_below (with_five course) (link_count (links_of p)) 0 (ends_counted (links_of p) 0 (controller_of (links_of p), 0) ends) in
    let same : w.traffic ≡ with_five course 0 = same-element (made_up course).channels 0 w.traffic (with_five course 0) w.here there in
    let on = subst (λ (t : Traffic ℕ). OnLink (lifetime_of course 0) (HasCutIn {M = ℕ} 0 []) p.delay (new_clock 0 course.delay p.delay) [] [] t.clock (map pass t.flights) 0) same w.account in
    none-made_up _ on.gone on.split

pub returns-clause-left_out : goal.returns-clause-left_out
returns-clause-left_out c course line_of note step is h =
    let at = h.here 0 (record { 0 = 0 }) (get-each_below {A = NodeNo} (λ k. record { 0 = k }) (node_count course) 0 (omega arith)) in
    none-some _ at.state

pub returns-clause-ahead : goal.returns-clause-ahead
returns-clause-ahead c course line_of note step is h =
    let high = (h.soon 0 (holds-below (node_count course) 0 (omega arith))).1 in omega (arith, high)

pub returns-clause-no_port : goal.returns-clause-no_port
returns-clause-no_port c course line_of note step is h =
    let p = course.plan.params in
    let f = first-link course in
    let some = f.0 in
    let ne : 0 ≢ controller_of (links_of p) = λ e. absurd (omega (arith, some, e)) in
    let w = h.into 0 (controller_of (links_of p)) 0 (ap (λ b. cond b true false) (ne_eqb 0 (controller_of (links_of p)) ne)) refl f.1 in
    none-some _ w.there
