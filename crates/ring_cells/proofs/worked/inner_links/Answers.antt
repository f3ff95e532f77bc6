use Rattle.std.proofs.Common.{◌≡◌, ℕ, List, [], ◌∷◌, map, refl, subst, arith}
use Rattle.link_timing.proofs.Arrivals.{IsClock-new_clock}
use Rattle.node_kit.specs.declared.course.Course.{Course}
use Rattle.node_kit.specs.Courses.{IsCourse}
use Rattle.node_kit.specs.Life.{lifetime_of, trimmed}
use Rattle.node_kit.specs.Rows.{each_below}
use Rattle.node_kit.proofs.Rows.{get-each_below}
use Rattle.run_facts.specs.Accounts.{HasCutIn, OnLink}
use Rattle.run_facts.specs.Beats.{pass}
use Rattle.run_facts.specs.Events.{Dated, kept_outs}
use Rattle.run_facts.specs.Rings.{Traffic}
use Rattle.run_facts.proofs.Links.{link-opens}
use Rattle.run_facts.proofs.Rows.{same-element}
use Rattle.ring_engine.proofs.Channels.{sends-on}
use Rattle.ring_cells.specs.Rest.{idle_wire, busy_wire}
use Rattle.ring_cells.specs.Samples.{fresh_clock, one_tick}
use Rattle.ring_cells.proofs.Tried.{none-gone, none-made_up}
use Rattle.ring_cells.proofs.worked.inner_links.Goals as goal

abbrev message : List (Dated ℕ)
message = (record { beat = 0; item = 5 }) ∷ []

opens : (c : Course) → IsCourse c → OnLink {X = ℕ} (lifetime_of c 1) (HasCutIn {M = ℕ} 16 []) c.plan.params.delay (fresh_clock c) [] [] (fresh_clock c) [] 0
opens c course =
    let delay = c.plan.sound.ranges.delay in
    link-opens (lifetime_of c 1) (HasCutIn {M = ℕ} 16 []) (fresh_clock c) (IsClock-new_clock 16 c.delay c.plan.params.delay delay.0 delay.1 course.delay)

pub returns-clause-sent : goal.returns-clause-sent
unfolding kept_outs trimmed
returns-clause-sent c note course is =
    let sent = sends-on (lifetime_of course 1) (HasCutIn {M = ℕ} 16 []) course.plan.params.delay (fresh_clock course) [] [] (idle_wire course) 0 0 message (refl, tt) (omega arith) (omega arith) (omega arith) (opens course is) in
    record { traffic = busy_wire course; here = get-each_below (λ l. busy_wire course) 17 16 (omega arith); calm = omega arith; account = sent.0 }

pub returns-clause-unsent : goal.returns-clause-unsent
returns-clause-unsent c note course is =
    record { traffic = idle_wire course; here = get-each_below (λ l. idle_wire course) 17 16 (omega arith); calm = omega arith; account = opens course is }

pub returns-clause-lost : goal.returns-clause-lost
unfolding kept_outs trimmed
returns-clause-lost c note course is h =
    let same : h.traffic ≡ idle_wire course = same-element (each_below (λ l. idle_wire course) 17) 16 h.traffic (idle_wire course) h.here (get-each_below (λ l. idle_wire course) 17 16 (omega arith)) in
    let on = subst (λ (t : Traffic ℕ). OnLink (lifetime_of course 1) (HasCutIn {M = ℕ} 16 []) course.plan.params.delay (fresh_clock course) message [] t.clock (map pass t.flights) 0) same h.account in
    none-gone _ on.gone on.behind on.split

pub returns-clause-made_up : goal.returns-clause-made_up
returns-clause-made_up c note course is h =
    let same : h.traffic ≡ busy_wire course = same-element (each_below (λ l. busy_wire course) 17) 16 h.traffic (busy_wire course) h.here (get-each_below (λ l. busy_wire course) 17 16 (omega arith)) in
    let on = subst (λ (t : Traffic ℕ). OnLink (lifetime_of course 1) (HasCutIn {M = ℕ} 16 []) course.plan.params.delay (fresh_clock course) [] [] t.clock (map pass t.flights) 0) same h.account in
    none-made_up _ on.gone on.split
