-- A share that waits keeps what it keeps, whatever comes in through its ports.
use Rattle.std.proofs.Common.{◌≡◌, ◌≢◌, ℕ, List, length, true, false, Some, refl, ap, sym, ◌∙◌, subst}
use Rattle.std.specs.Prelude.{slice_get}
use Rattle.tiger_base.specs.declared.number.LinkNo.{LinkNo}
use Rattle.tiger_base.specs.declared.number.NodeNo.{NodeNo}
use Rattle.tiger_base.specs.declared.message.Note.{Note}
use Rattle.slot_plan.specs.declared.params.Params.{Params}
use Rattle.node_kit.specs.declared.course.Course.{Course}
use Rattle.node_kit.specs.declared.journal.Entry.{Entry}
use Rattle.node_kit.specs.Life.{Lifetime, lifetime_of}
use Rattle.node_kit.specs.Links.{links_of, ends_of}
use Rattle.node_kit.specs.Steps.{Input, Deed}
use Rattle.run_facts.specs.Events.{NodeEvent}
use Rattle.run_facts.specs.Rings.{Traffic, Ring}
use Rattle.ring_links.specs.Ends.{LineId}
use Rattle.ring_cells.proofs.Inflows.{inflow-waits}
use Rattle.ring_engine.specs.Passing.{IsManned}
use Rattle.ring_cells.specs.Shares.{Entrance, Exit, inflow_of, holds, IsEntering, IsShare, IsFitted, HasPoured, links_in, AreApart}
use Rattle.ring_cells.proofs.Pouring.{same-port, open-poured}
use Rattle.ring_cells.proofs.Turning.{same-ends, held-not}

-- the members with other traffic
abbrev pub with_channels : {M S : Type 0} → Ring M S → List (Traffic M) → Ring M S
with_channels r ts = record { nodes = r.nodes; lives = r.lives; journals = r.journals; channels = ts }

module _ {M : Type 0} (p : Params) (numbers : List NodeNo) (ins ins' : List (Entrance M)) (outs : List (List (Exit M)))
    (channels channels' : List (Traffic M)) (poured : HasPoured channels ins channels' ins') where
  pub wait-seated : IsFitted p numbers ins outs → IsFitted p numbers ins' outs
  wait-seated h = record {
    once = h.once;
    ins_lead = λ q j there. (let i = same-port ins ins' poured.same_links q j there in subst (IsEntering p numbers) i.2 (h.ins_lead q i.0 i.1));
    ins_apart = subst AreApart (sym poured.same_links) h.ins_apart;
    outs_lead = h.outs_lead;
    outs_apart = h.outs_apart;
  }

  -- a link that does not enter
  not-in : IsFitted p numbers ins outs → (l from to : ℕ) → ends_of (links_of p) l ≡ Some (from, to) → holds numbers from ≡ true
      → (q : ℕ) (i : Entrance M) → slice_get ins q ≡ Some i → i.link.0 ≢ l
  not-in seated l from to ends inside q i there same =
      let w = seated.ins_lead q i there in
      let both = same-ends (ends_of (links_of p) l) w.from w.to from to (ap (ends_of (links_of p)) (sym same) ∙ w.ends) ends in
      held-not numbers from w.from inside w.outside both.0

pub wait-manned : {M S : Type 0} (stands : S → Params → ℕ → Type 0) (p : Params) (numbers : List NodeNo) (b : ℕ) (ring : Ring M S) (channels' : List (Traffic M)) (ins ins' : List (Entrance M))
    → HasPoured ring.channels ins channels' ins' → IsManned stands p numbers b ring → IsManned stands p numbers b (with_channels ring channels')
wait-manned stands p numbers b ring channels' ins ins' poured h = record {
  stand = h.stand;
  nodes = h.nodes;
  lives = h.lives;
  journals = h.journals;
  channels = h.channels ∙ sym poured.same_size;
  are_open = open-poured b ring.channels channels' ins ins' poured h.are_open;
}

pub wait-share : {M S : Type 0} (note : M → Note) (step : S → Input M → Deed M S) (c : Course) (first : ℕ → S) (line_of : ℕ → LineId) (numbers : List NodeNo) (b : ℕ) (at : ℕ → ℕ)
    (events : ℕ → List (NodeEvent M)) (ring : Ring M S) (channels' : List (Traffic M)) (ins ins' : List (Entrance M)) (outs : List (List (Exit M)))
    → IsFitted c.plan.params numbers ins outs → HasPoured ring.channels ins channels' ins' → IsShare note step c first line_of numbers b at events ring ins outs
    → IsShare note step c first line_of numbers b at events (with_channels ring channels') ins' outs
wait-share note step c first line_of numbers b at events ring channels' ins ins' outs seated poured st = record {
  here = λ q n there. (let h = st.here q n there in record { state = h.state; life = h.life; journal = h.journal });
  soon = st.soon;
  fair = st.fair;
  whole = st.whole;
  timeline = st.timeline;
  inner = λ l from to inside inside' ends.
      let w = st.inner l from to inside inside' ends in
      let not = not-in c.plan.params numbers ins ins' outs ring.channels channels' poured seated l from to ends inside in
      record { traffic = w.traffic; here = poured.others l not ∙ w.here; calm = w.calm; account = w.account };
  into = λ l from to out inside ends.
      let w = st.into l from to out inside ends in
      let more = poured.each w.place w.port w.traffic w.there (ap (λ (k : LinkNo). slice_get ring.channels k.0) w.number ∙ w.here) in
      record {
        place = w.place;
        port = more.port;
        there = more.there;
        number = more.received.same_link ∙ w.number;
        traffic = more.traffic;
        here = ap (λ (k : LinkNo). slice_get channels' k.0) (sym w.number) ∙ more.here;
        flow = inflow-waits line_of (lifetime_of c to) (at to) (events to) (inflow_of w.port w.traffic) (inflow_of more.port more.traffic) w.flow more.received;
      };
  out_of = λ l from to inside out ends.
      let w = st.out_of l from to inside out ends in
      let not = not-in c.plan.params numbers ins ins' outs ring.channels channels' poured seated l from to ends inside in
      record {
        member = w.member;
        is_from = w.is_from;
        row = w.row;
        its_row = w.its_row;
        place = w.place;
        port = w.port;
        there = w.there;
        number = w.number;
        traffic = w.traffic;
        here = poured.others l not ∙ w.here;
        all_out = w.all_out;
        flow = w.flow;
      };
}
