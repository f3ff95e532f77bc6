-- What the two ends of a link show is the link's account.
use Rattle.std.proofs.Common.{◌≡◌, ℕ, ◌<◌, ◌≤◌, List, [], ◌∷◌, ◌++◌, map, refl, ap, sym, ◌∙◌, subst, arith, append_assoc}
use Rattle.std.proofs.lemmas.List.{map-append}
use Rattle.std.specs.List.{AllByRecursion}
use Rattle.tiger_base.specs.declared.message.Note.{Note}
use Rattle.link_timing.specs.Clock.{new_clock}
use Rattle.node_kit.specs.declared.course.Course.{Course}
use Rattle.node_kit.specs.Life.{lifetime_of}
use Rattle.node_kit.specs.Steps.{Input, Deed}
use Rattle.run_facts.specs.declared.mail.Flight.{Flight}
use Rattle.run_facts.specs.Accounts.{HasCutIn, OnLink}
use Rattle.run_facts.specs.Beats.{opening_of, pass}
use Rattle.run_facts.specs.Events.{NodeEvent, sends_along, takes_along}
use Rattle.run_facts.specs.Paced.{Passage}
use Rattle.run_facts.specs.Rings.{Traffic}
use Rattle.run_facts.proofs.Rows.{all-append}
use Rattle.ring_links.specs.Ends.{LineId}
use Rattle.ring_links.specs.Flights.{IsOrdered, IsFront}
use Rattle.ring_cells.specs.Flows.{Inflow, Outflow}
use Rattle.ring_cells.specs.Kept.{IsInflow, IsOutflow}
use Rattle.ring_cells.proofs.Inflows.{behind-late}

none-gone : {M : Type 0} (gone : List (Passage M)) → AllByRecursion (λ (f : Passage M). f.arrival < 0) gone → gone ≡ []
none-gone [] h = refl
none-gone (g ∷ gs) h = let low = h.0 in absurd (omega (arith, low))

-- the link at the end: what waits at its receiver, and then what was not received, is under way
abbrev pub traffic_of : {M : Type 0} (i : Inflow M) (o : Outflow M) → IsFront i.closed i.flights o.flights → Traffic M
traffic_of i o front = record { clock = o.clock; flights = i.waiting ++ front.0 }

pub link-meets : {M S : Type 0} (line : ℕ → LineId) (note : M → Note) (step : S → Input M → Deed M S) (c : Course) (from to l beats : ℕ) (first : S)
    (sender receiver : List (NodeEvent M)) (i : Inflow M) (o : Outflow M) → i.link.0 ≡ l → o.link.0 ≡ l
    → IsInflow line (lifetime_of c to) beats receiver i → IsOutflow line note step c from first beats sender o → (front : IsFront i.closed i.flights o.flights) → IsOrdered o.flights
    → OnLink (lifetime_of c to) (HasCutIn l receiver) c.plan.params.delay (new_clock l c.delay c.plan.params.delay) (sends_along note step l sender (opening_of c from first)) (takes_along l receiver)
    (traffic_of i o front).clock (map pass (traffic_of i o front).flights) beats
link-meets {M} {S} line note step c from to l beats first sender receiver i o il ol received sent front ordered =
    let life = lifetime_of c to in
    let most = c.plan.params.delay in
    let rest : List (Flight M) = front.0 in
    let account = sent.account in
    let way : map pass (i.waiting ++ rest) ≡ map pass i.waiting ++ map pass rest = map-append pass i.waiting rest in
    let none = none-gone account.gone account.behind in
    let all : map pass o.flights ≡ received.gone ++ map pass (i.waiting ++ rest) =
    ap (map pass) front.1 ∙ map-append pass i.flights rest ∙ ap (λ q. q ++ map pass rest) received.split
    ∙ append_assoc received.gone (map pass i.waiting) (map pass rest) ∙ ap (λ q. received.gone ++ q) (sym way) in
    let made : OnLink life (HasCutIn i.link.0 receiver) most (new_clock o.link.0 c.delay most) (sends_along note step o.link.0 sender (opening_of c from first)) (takes_along i.link.0 receiver) o.clock
    (map pass (i.waiting ++ rest)) beats = record {
      clocked = account.clocked;
      is_clock = account.is_clock;
      same_most = account.same_most;
      timely = account.timely;
      rising = account.rising;
      capped = account.capped;
      gone = received.gone;
      split = account.split ∙ ap (λ q. q ++ map pass o.flights) none ∙ all;
      got_is = received.got_is;
      behind = received.behind;
      ahead = subst (AllByRecursion (λ (f : Passage M). beats ≤ f.arrival)) (sym way)
          (all-append (λ (f : Passage M). beats ≤ f.arrival) (map pass i.waiting) (map pass rest) received.ahead
          (behind-late i.closed beats i.flights rest received.far front.2 (subst IsOrdered front.1 ordered)));
    } in
    subst (λ k. OnLink life (HasCutIn l receiver) most (new_clock k c.delay most) (sends_along note step k sender (opening_of c from first)) (takes_along l receiver) o.clock (map pass (i.waiting ++ rest)) beats) ol
    (subst (λ k. OnLink life (HasCutIn k receiver) most (new_clock o.link.0 c.delay most) (sends_along note step o.link.0 sender (opening_of c from first)) (takes_along k receiver) o.clock (map pass (i.waiting ++ rest)) beats) il made)
