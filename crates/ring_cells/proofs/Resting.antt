-- A share of all nodes before the first beat.
use Rattle.std.proofs.Common.{◌≡◌, ◌≢◌, ℕ, zero, suc, ◌+◌, ◌<◌, ◌≤◌, List, [], ◌∷◌, ◌++◌, length, true, false, Some, refl, ap, sym, ◌∙◌, subst, arith, cond, ⊎_elim}
use Rattle.std.specs.Prelude.{slice_get, ◌==◌}
use Rattle.std.proofs.lemmas.Bool.{cases_Bool, eq-eqb}
use Rattle.std.proofs.lemmas.Option.{none-some}
use Rattle.tiger_base.specs.declared.number.NodeNo.{NodeNo}
use Rattle.tiger_base.specs.declared.message.Note.{Note}
use Rattle.link_timing.specs.Clock.{new_clock}
use Rattle.link_timing.proofs.Arrivals.{IsClock-new_clock}
use Rattle.node_kit.specs.declared.course.Course.{Course}
use Rattle.node_kit.specs.Courses.{IsCourse, stamp_in}
use Rattle.node_kit.specs.Life.{lifetime_of}
use Rattle.node_kit.specs.Links.{links_of, link_count, ends_of, viewers_of}
use Rattle.node_kit.specs.Rows.{each_below}
use Rattle.node_kit.specs.Steps.{Input, Deed}
use Rattle.node_kit.proofs.Ring.{ends_counted, from_counted, to_counted}
use Rattle.node_kit.proofs.Rows.{get-below, get-each_below, length-each_below}
use Rattle.node_kit.proofs.Ways.{links_sound}
use Rattle.run_facts.specs.Accounts.{HasCutIn, OnLink}
use Rattle.run_facts.specs.Rings.{Traffic}
use Rattle.run_facts.proofs.Links.{link-opens}
use Rattle.run_facts.proofs.Rows.{same-element}
use Rattle.run_facts.proofs.Timelines.{timeline-opens}
use Rattle.ring_engine.specs.Places.{new_channel}
use Rattle.ring_links.specs.Ends.{LineId}
use Rattle.ring_cells.specs.Rest.{node_count, numbers_below, at_rest, AreShare}
use Rattle.ring_cells.specs.Shares.{holds}
use Rattle.ring_cells.proofs.Rows.{held-at}

-- the number at each place is that of the place
pub number-below : (n q : ℕ) (m : NodeNo) → slice_get (numbers_below n) q ≡ Some m → m.0 ≡ q
number-below n q m e =
    let low = get-below (numbers_below n) q m e in
    let size = length-each_below {A = NodeNo} (λ k. record { 0 = k }) n in
    let same : ◌≡◌ {A = NodeNo} m (record { 0 = q }) = same-element (numbers_below n) q m (record { 0 = q }) e (get-each_below {A = NodeNo} (λ k. record { 0 = k }) n q (omega (arith, low, size))) in
    ap (λ (x : NodeNo). x.0) same

pub holds-below : (n k : ℕ) → k < n → holds (numbers_below n) k ≡ true
holds-below n k low = held-at (numbers_below n) k (record { 0 = k }) (get-each_below {A = NodeNo} (λ j. record { 0 = j }) n k low)

-- each link has both its ends among all nodes
pub ends-held : (c : Course) (l from to : ℕ) → ends_of (links_of c.plan.params) l ≡ Some (from, to)
    → (holds (numbers_below (node_count c)) from ≡ true) × (holds (numbers_below (node_count c)) to ≡ true)
ends-held c l from to ends =
    let sound = links_sound c.plan.params c.plan.sound in
    let a = from_counted (links_of c.plan.params) from to l sound ends in
    let b = to_counted (links_of c.plan.params) from to l sound ends in
    (holds-below (node_count c) from (omega (arith, a)), holds-below (node_count c) to (omega (arith, b)))

not-both : (b : _) → b ≡ true → b ≡ false → ⊥
not-both b h g = let q : true ≡ false = sym h ∙ g in absurd (cc)

pub rests : AreShare at_rest node_count 0
rests c line_of note step course =
    let p = c.plan.params in
    let delay = c.plan.sound.ranges.delay in
    let n = node_count c in
    record {
      here = λ q m seat.
          let low = get-below (numbers_below n) q m seat in
          let size = length-each_below {A = NodeNo} (λ k. record { 0 = k }) n in
          let inside : q < n = omega (arith, low, size) in
          let same : q ≡ m.0 = sym (number-below n q m seat) in
          record {
            state = get-each_below (λ k. k) n q inside ∙ ap Some same;
            life = get-each_below (lifetime_of c) n q inside ∙ ap (λ k. Some (lifetime_of c k)) same;
            journal = get-each_below (λ k. []) n q inside;
          };
      soon = λ k held. (omega arith, omega arith);
      fair = λ k held. tt;
      whole = λ k held. tt;
      timeline = λ k held. timeline-opens (stamp_in c k) p k (lifetime_of c k);
      inner = λ l from to inside inside' ends. record {
        traffic = new_channel c l;
        here = get-each_below (new_channel c) (link_count (links_of p)) l (ends_counted (links_of p) l (from, to) ends);
        calm = omega arith;
        account = link-opens (lifetime_of c to) (HasCutIn {M = ℕ} l []) (new_clock l c.delay p.delay) (IsClock-new_clock l c.delay p.delay delay.0 delay.1 course.delay);
      };
      into = λ l from to out inside ends. absurd (not-both _ (ends-held c l from to ends).0 out);
      out_of = λ l from to inside out ends. absurd (not-both _ (ends-held c l from to ends).1 out);
    }
