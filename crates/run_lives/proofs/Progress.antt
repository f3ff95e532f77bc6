-- How far a run of nodes of any lives has come: the events of each node and the account of each link, of which a ring
-- is
-- what they make.
use Rattle.std.proofs.Common.{◌≡◌, ℕ, ◌+◌, ◌<◌, ◌≤◌, List, map, length, Option, Some, None, ap, ◌∙◌, subst}
use Rattle.std.proofs.Common.{arith}
use Rattle.std.specs.Prelude.{slice_get}
use Rattle.tiger_base.specs.declared.message.Note.{Note}
use Rattle.link_timing.specs.Clock.{new_clock}
use Rattle.node_kit.specs.declared.course.Course.{Course}
use Rattle.node_kit.specs.Courses.{IsCourse, stamp_in}
use Rattle.node_kit.specs.Life.{Lifetime, lifetime_of}
use Rattle.node_kit.specs.Links.{links_of, ends_of, viewers_of}
use Rattle.node_kit.specs.Steps.{Input, Deed}
use Rattle.node_kit.proofs.Ring.{from_counted}
use Rattle.node_kit.proofs.Ways.{links_sound}
use Rattle.run_facts.specs.Accounts.{AreWhole, HasCutIn, OnLink, IsTimeline, AreAccounted}
use Rattle.run_facts.specs.Beats.{opening_of, pass}
use Rattle.run_facts.specs.Events.{NodeEvent, Dated, after_all, AreFair, sends_along, takes_along}
use Rattle.run_facts.specs.Histories.{below}
use Rattle.run_facts.specs.Rings.{Traffic, Ring, IsAt}
use Rattle.run_facts.proofs.Accounts.{clock-of}
use Rattle.run_facts.proofs.Progress.{next_of, next-none}

-- a link between two nodes whose events are known
pub record OnChannel {M S : Type 0} (note : M → Note) (step : S → Input M → Deed M S) (c : Course) (first : ℕ → S)
    (events : ℕ → List (NodeEvent M))
    (b n l from to : ℕ) (channels : List (Traffic M)) : Type 0 where
  pub traffic : Traffic M
  pub here : slice_get channels l ≡ Some traffic
  pub calm : traffic.clock.last_send ≤ b
  pub account : OnLink (lifetime_of c to) (HasCutIn l (events to)) c.plan.params.delay
      (new_clock l c.delay c.plan.params.delay)
      (sends_along note step l (events from) (opening_of c from (first from))) (takes_along l (events to)) traffic.clock
      (map pass traffic.flights) (next_of b n to)

-- what happened to the nodes, of which those below n have come through beat b
pub record Progress {M S : Type 0} (note : M → Note) (step : S → Input M → Deed M S) (c : Course) (count : ℕ)
    (first : ℕ → S) (b n : ℕ) (r : Ring M S) : Type 0 where
  pub events : ℕ → List (NodeEvent M)
  pub size : length r.journals ≡ count
  pub here : (k : ℕ) → k < count → IsAt r k (after_all note step (events k) (opening_of c k (first k)))
  pub fair : (k : ℕ) → k < count → AreFair note step c.plan.params k (events k) (opening_of c k (first k))
  pub whole : (k : ℕ) → k < count → AreWhole note step (events k) (opening_of c k (first k))
  pub timeline : (k : ℕ) → k < count → IsTimeline (stamp_in c k) c.plan.params k (lifetime_of c k) (next_of b n k)
      (events k)
  pub links : (l from to : ℕ) → from < count → to < count → ends_of (links_of c.plan.params) l ≡ Some (from, to)
      → OnChannel note step c first events b n l from to r.channels

-- how many messages were sent on a link in beats below the return of its receiver, if that returns
abbrev lost_to : {X : Type 0} → Option ℕ → List (Dated X) → ℕ
lost_to None ds = 0
lost_to (Some back) ds = below back ds

abbrev lost_on : {X : Type 0} → (ℕ → Lifetime) → (ℕ → List (Dated X)) → Option (ℕ × ℕ) → ℕ
lost_on life sends None = 0
lost_on life sends (Some ends) = lost_to (life ends.1).back (sends ends.0)

module _ {M S : Type 0} (note : M → Note) (step : S → Input M → Deed M S) (c : Course) (count : ℕ)
    (first : ℕ → S) (r : Ring M S) (st : Progress note step c count first c.beats 0 r) where
  abbrev sends_at : ℕ → ℕ → List (Dated M)
  sends_at l from = sends_along note step l (st.events from) (opening_of c from (first from))

  abbrev pub lost_of : ℕ → ℕ
  lost_of l = lost_on (lifetime_of c) (sends_at l) (ends_of (links_of c.plan.params) l)

  -- the accounts at the end
  pub progress-accounts : IsCourse c → count ≡ viewers_of (links_of c.plan.params) + 1
      → AreAccounted note step c.plan.params (stamp_in c) (lifetime_of c) (λ l. new_clock l c.delay c.plan.params.delay)
      count c.beats first lost_of st.events
  progress-accounts course size = record {
    clock = λ n. clock-of c n course;
    fair = st.fair;
    whole = st.whole;
    timeline = λ n low. subst (λ q. IsTimeline (stamp_in c n) c.plan.params n (lifetime_of c n) q (st.events n))
        (next-none c.beats n) (st.timeline n low);
    senders = λ l from to ends. let low = from_counted (links_of c.plan.params) from to l
        (links_sound c.plan.params c.plan.sound) ends in omega (arith, low, size);
    links = λ l from to low_from low_to ends.
        let on = st.links l from to low_from low_to ends in (
          on.traffic.clock,
          map pass on.traffic.flights,
          subst (λ q. OnLink (lifetime_of c to) (HasCutIn l (st.events to)) c.plan.params.delay
              (new_clock l c.delay c.plan.params.delay) (sends_at l from) (takes_along l (st.events to))
              on.traffic.clock (map pass on.traffic.flights) q) (next-none c.beats to) on.account,
        );
    lost_is = λ l from to back low_from low_to ends is.
        ap (lost_on (lifetime_of c) (sends_at l)) ends ∙ ap (λ o. lost_to o (sends_at l from)) is;
  }
