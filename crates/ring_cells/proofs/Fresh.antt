-- A share before its first beat.
use Rattle.std.proofs.Common.{◌≡◌, ℕ, ◌+◌, ◌<◌, ◌≤◌, List, [], ◌∷◌, ◌++◌, map, length, true, false, Some, refl, ap, sym, ◌∙◌, subst, arith, inl, append-nil}
use Rattle.std.specs.Prelude.{slice_get, nat_lt, ◌==◌, ◌&&◌}
use Rattle.std.specs.List.{AllByRecursion}
use Rattle.std.proofs.lemmas.Bool.Decides.{nat_tests}
use Rattle.std.proofs.lemmas.List.{length-map}
use Rattle.tiger_base.specs.declared.number.LinkNo.{LinkNo}
use Rattle.tiger_base.specs.declared.number.NodeNo.{NodeNo}
use Rattle.tiger_base.specs.declared.message.Note.{Note}
use Rattle.slot_plan.specs.declared.params.Params.{Params}
use Rattle.link_timing.specs.Clock.{Clock, new_clock}
use Rattle.link_timing.proofs.Arrivals.{IsClock-new_clock}
use Rattle.node_kit.specs.declared.course.Course.{Course}
use Rattle.node_kit.specs.declared.journal.Entry.{Entry}
use Rattle.node_kit.specs.Courses.{IsCourse, Setting, setting_of, stamp_in}
use Rattle.node_kit.specs.Life.{Lifetime, lifetime_of}
use Rattle.node_kit.specs.Links.{Links, links_of, ends_of, link_count, viewers_of}
use Rattle.node_kit.specs.Rows.{each_below}
use Rattle.node_kit.specs.Steps.{Input, Deed}
use Rattle.node_kit.proofs.Ring.{ends_counted}
use Rattle.node_kit.proofs.Rows.{get-below, get-each_below, length-each_below}
use Rattle.run_facts.specs.declared.mail.Flight.{Flight}
use Rattle.run_facts.specs.Accounts.{HasCutIn, IsTimeline, OnLink}
use Rattle.run_facts.specs.Beats.{pass, opening_of}
use Rattle.run_facts.specs.Paced.{Passage}
use Rattle.run_facts.specs.Rings.{Traffic, Ring}
use Rattle.run_facts.proofs.Kept.{firsts}
use Rattle.run_facts.proofs.Links.{link-opens}
use Rattle.run_facts.proofs.Rows.{same-element}
use Rattle.run_facts.proofs.Timelines.{timeline-opens}
use Rattle.ring_engine.specs.Places.{new_channel}
use Rattle.ring_engine.specs.Traffic.{IsOpen}
use Rattle.ring_engine.proofs.Arriving.{open-new}
use Rattle.ring_engine.proofs.Running.{opening-channel}
use Rattle.ring_links.specs.Ends.{LineId}
use Rattle.ring_links.specs.Flights.{IsOrdered}
use Rattle.ring_cells.specs.Flows.{Outflow}
use Rattle.ring_cells.specs.Kept.{IsInflow, IsOutflow}
use Rattle.ring_cells.specs.Cells.{IsAtWork, IsMembership}
use Rattle.ring_cells.specs.Opens.{AreGiven, AreFreshIns, AreFreshOuts, IsFreshIn, IsFreshOut}
use Rattle.ring_cells.specs.Shares.{Entrance, Exit, inflow_of, outflow_of, holds, come_to}
use Rattle.ring_cells.proofs.Pouring.{get-map, get-there}
use Rattle.ring_cells.proofs.Rows.{has-place, both-true, come-none}

inflow-fresh : {M : Type 0} (line_of : ℕ → LineId) (life : Lifetime) (i : Entrance M) (t : Traffic M) → t.flights ≡ [] → IsFreshIn line_of i → IsInflow line_of life 0 [] (inflow_of i t)
inflow-fresh {M} line_of life i t none h = record {
  its_line = h.its_line;
  ordered = subst IsOrdered (sym h.flights) tt;
  gone = [];
  split = ap (map pass) h.flights ∙ sym (ap (map pass) none);
  got_is = inl refl;
  behind = tt;
  ahead = subst (λ (ws : List (Flight M)). AllByRecursion (λ (f : Passage M). 0 ≤ f.arrival) (map pass ws)) (sym none) tt;
  far = omega arith;
}

opens-link : {M : Type 0} (c : Course) (life : Lifetime) (Came : Type 0) (l : ℕ) → IsCourse c → OnLink {X = M} life Came c.plan.params.delay (new_clock l c.delay c.plan.params.delay) [] [] (new_clock l c.delay c.plan.params.delay) [] 0
opens-link c life Came l course =
    let delay = c.plan.sound.ranges.delay in
    link-opens life Came (new_clock l c.delay c.plan.params.delay) (IsClock-new_clock l c.delay c.plan.params.delay delay.0 delay.1 course.delay)

pub outflow-opens : {M S : Type 0} (line_of : ℕ → LineId) (note : M → Note) (step : S → Input M → Deed M S) (c : Course) (n : ℕ) (first : S) (o : Outflow M) → IsCourse c
    → o.line ≡ line_of o.link.0 → o.flights ≡ [] → o.closed ≡ 0 → o.clock ≡ new_clock o.link.0 c.delay c.plan.params.delay → IsOutflow line_of note step c n first 0 [] o
outflow-opens {M} line_of note step c n first o course line none closed clock =
    let last = ap (λ (k : Clock). k.last_send) clock in
    record {
      its_line = line;
      its_closed = closed;
      calm = omega (arith, last);
      account = subst (λ (fs : List (Flight M)). OnLink {X = M} (lifetime_of c n) ⊥ c.plan.params.delay (new_clock o.link.0 c.delay c.plan.params.delay) [] [] o.clock (map pass fs) 0) (sym none)
          (subst (λ (k : Clock). OnLink {X = M} (lifetime_of c n) ⊥ c.plan.params.delay (new_clock o.link.0 c.delay c.plan.params.delay) [] [] k [] 0) (sym clock) (opens-link c (lifetime_of c n) ⊥ o.link.0 course));
    }

outflow-fresh : {M S : Type 0} (line_of : ℕ → LineId) (note : M → Note) (step : S → Input M → Deed M S) (c : Course) (n l : ℕ) (first : S) (o : Exit M) → IsCourse c → IsFreshOut line_of o
    → o.link ≡ record { 0 = l } → IsOutflow line_of note step c n first 0 [] (outflow_of o (new_channel c l))
outflow-fresh line_of note step c n l first o course h number =
    outflow-opens line_of note step c n first (outflow_of o (new_channel c l)) course h.its_line (append-nil o.flights ∙ h.flights) h.closed
    (ap (λ (k : LinkNo). new_clock k.0 c.delay c.plan.params.delay) (sym number))

-- a fresh share of these members is at work in beat 0
pub work-opens : {M S : Type 0} (note : M → Note) (step : S → Input M → Deed M S) (stands : S → Params → ℕ → Type 0) (courses : List Course) (c : Course) (opened : List S) (line_of : ℕ → LineId) (home : ℕ → ℕ) (number : ℕ)
    (numbers : List NodeNo) (dials : List Setting) (links : Links) (nodes : List S) (lives : List Lifetime) (journals : List (List Entry)) (channels : List (Traffic M)) (ins : List (Entrance M)) (outs : List (List (Exit M)))
    → courses ≡ c ∷ [] → IsCourse c → links ≡ links_of c.plan.params → dials ≡ map (λ (n : NodeNo). setting_of c n.0) numbers → lives ≡ map (λ (n : NodeNo). lifetime_of c n.0) numbers
    → journals ≡ each_below (λ _. []) (length numbers) → channels ≡ each_below (new_channel c) (link_count links) → IsMembership home c.plan.params number numbers
    → AreGiven stands c.plan.params opened numbers nodes → AreFreshIns line_of c numbers ins → AreFreshOuts line_of c numbers outs
    → IsAtWork note step stands courses opened line_of numbers dials links 0 0 (record { nodes = nodes; lives = lives; journals = journals; channels = channels }) ins outs
work-opens {M} {S} note step stands courses c opened line_of home number numbers dials links nodes lives journals channels ins outs named course same dialled lived wrote new members given fresh_ins fresh_outs =
    let p = c.plan.params in
    let opens = firsts opened given.some in
    let count : channels ≡ each_below (new_channel c) (link_count (links_of p)) = new ∙ ap (λ t. each_below (new_channel c) (link_count t)) same in
    let channel_at : (l from to : ℕ) → ends_of (links_of p) l ≡ Some (from, to) → slice_get channels l ≡ Some (new_channel c l) = λ l from to ends.
    ap (λ ts. slice_get ts l) count ∙ get-each_below (new_channel c) (link_count (links_of p)) l (ends_counted (links_of p) l (from, to) ends) in
    let opens_at : (q : ℕ) (n : NodeNo) → slice_get numbers q ≡ Some n → slice_get opened n.0 ≡ Some (opens.0 n.0) = λ q n seat.
    (let size = given.size in
    let low = get-below numbers q n seat in
    let s = get-there nodes q (omega (arith, low, size)) in
    let is = given.each q n s.0 seat s.1 in
    opens.1 n.0 (get-below opened n.0 s.0 is.0)) in
    record {
      course = c;
      named = named;
      is_course = course;
      dialled = dialled;
      links_are = same;
      first = opens.0;
      opens = λ k held. (let seat = has-place numbers k held in opens_at seat.0 (record { 0 = k }) seat.1);
      inside = λ k held.
          let t = both-true (nat_lt k (viewers_of (links_of p) + 1)) (home k == number) (sym (members.theirs k) ∙ held) in
          let low = t.0 in grind (arith, nat_tests, low);
      seated = record { once = members.once; ins_lead = fresh_ins.lead; ins_apart = fresh_ins.apart; outs_lead = fresh_outs.lead; outs_apart = fresh_outs.apart };
      senders = fresh_outs.senders;
      manned = record {
        stand = λ q n s seat e. (given.each q n s seat e).1;
        nodes = given.size;
        lives = ap length lived ∙ length-map numbers (λ (n : NodeNo). lifetime_of c n.0);
        journals = ap length wrote ∙ length-each_below (λ _. []) (length numbers);
        channels = sym (ap length count ∙ length-each_below (new_channel c) (link_count (links_of p)));
        are_open = λ l t e. subst (λ (x : Traffic M). IsOpen 0 x.clock) (opening-channel c (link_count (links_of p)) channels count l t e) (open-new l c.delay p.delay course.delay);
      };
      events = λ k. [];
      share = record {
        here = λ q n seat.
            let size = given.size in
            let low = get-below numbers q n seat in
            let s = get-there nodes q (omega (arith, low, size)) in
            let is : s.0 ≡ opens.0 n.0 = same-element opened n.0 s.0 (opens.0 n.0) (given.each q n s.0 seat s.1).0 (opens_at q n seat) in
            record {
              state = s.1 ∙ ap Some is;
              life = ap (λ ls. slice_get ls q) lived ∙ get-map (λ (x : NodeNo). lifetime_of c x.0) numbers q n seat;
              journal = ap (λ js. slice_get js q) wrote ∙ get-each_below (λ _. []) (length numbers) q low;
            };
        soon = λ k held. let e = come-none numbers 0 k in (omega arith, omega (arith, e));
        fair = λ k held. tt;
        whole = λ k held. tt;
        timeline = λ k held. subst (λ x. IsTimeline {M = M} (stamp_in c k) p k (lifetime_of c k) x []) (sym (come-none numbers 0 k)) (timeline-opens (stamp_in c k) p k (lifetime_of c k));
        inner = λ l from to inside inside' ends. record {
          traffic = new_channel c l;
          here = channel_at l from to ends;
          calm = omega arith;
          account = subst (λ x. OnLink {X = M} (lifetime_of c to) (HasCutIn {M = M} l []) p.delay (new_clock l c.delay p.delay) [] [] (new_clock l c.delay p.delay) [] x) (sym (come-none numbers 0 to)) (opens-link c (lifetime_of c to) (HasCutIn {M = M} l []) l course);
        };
        into = λ l from to out inside ends.
            let w = fresh_ins.all l from to out inside ends in
            record {
              place = w.place;
              port = w.port;
              there = w.there;
              number = w.number;
              traffic = new_channel c l;
              here = channel_at l from to ends;
              flow = subst (λ x. IsInflow line_of (lifetime_of c to) x [] (inflow_of w.port (new_channel c l))) (sym (come-none numbers 0 to))
                  (inflow-fresh line_of (lifetime_of c to) w.port (new_channel c l) refl (fresh_ins.fresh w.place w.port w.there));
            };
        out_of = λ l from to inside out ends.
            let w = fresh_outs.all l from to inside out ends in
            record {
              member = w.member;
              is_from = w.is_from;
              row = w.row;
              its_row = w.its_row;
              place = w.place;
              port = w.port;
              there = w.there;
              number = w.number;
              traffic = new_channel c l;
              here = channel_at l from to ends;
              all_out = refl;
              flow = subst (λ x. IsOutflow line_of note step c from (opens.0 from) x [] (outflow_of w.port (new_channel c l))) (sym (come-none numbers 0 from))
                  (outflow-fresh line_of note step c from l (opens.0 from) w.port course (fresh_outs.fresh w.member w.place w.row w.port w.its_row w.there) w.number);
            };
      };
    }
