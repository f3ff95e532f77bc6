-- A turn of one member keeps what its share keeps.
use Rattle.std.proofs.Common.{◌≡◌, ◌≢◌, ℕ, ◌+◌, ◌<◌, ◌≤◌, List, [], ◌∷◌, ◌++◌, map, filter, length, Bool, true, false, Option, Some, None, refl, ap, sym, ◌∙◌, subst, arith, cond, ⊎_elim, append-nil, append_assoc, inl, inr}
use Rattle.std.specs.Prelude.{slice_get, ◌==◌, ◌⊎◌}
use Rattle.std.specs.List.{AllByRecursion}
use Rattle.std.proofs.lemmas.Bool.{cases_Bool, cases_eq, eq-eqb, ne_eqb}
use Rattle.std.proofs.lemmas.Option.{none-some}
use Rattle.tiger_base.specs.declared.number.LinkNo.{LinkNo}
use Rattle.tiger_base.specs.declared.number.NodeNo.{NodeNo}
use Rattle.tiger_base.specs.declared.number.Stamp.{Stamp}
use Rattle.tiger_base.specs.declared.message.Note.{Note}
use Rattle.tiger_base.specs.Limits.{most_beats}
use Rattle.link_timing.specs.Clock.{Clock, new_clock, arrival_at}
use Rattle.node_kit.specs.declared.course.Course.{Course}
use Rattle.node_kit.specs.Courses.{IsCourse, stamp_in}
use Rattle.node_kit.specs.Life.{lifetime_of, death_of, cut_of, back_of}
use Rattle.node_kit.specs.Links.{links_of, ends_of, link_count, leads_to, IsInLink, in_links_of}
use Rattle.node_kit.specs.Steps.{Input, Deed}
use Rattle.node_kit.proofs.Ring.{ends_counted}
use Rattle.node_kit.proofs.Rows.{get-below, links_into-lead}
use Rattle.run_facts.specs.declared.mail.Flight.{Flight}
use Rattle.run_facts.specs.declared.mail.Letter.{Letter}
use Rattle.run_facts.specs.Accounts.{AreWhole, HasCutIn, arriving, IsTimeline, OnLink, Rising}
use Rattle.run_facts.specs.Beats.{beat_events, opening_of, pass, bring, on_link}
use Rattle.run_facts.specs.Events.{NodeEvent, Past, Dated, after_all, AreFair, sends_along, takes_along, stamp_at}
use Rattle.run_facts.specs.Rings.{Traffic, Ring, IsAt}
use Rattle.run_facts.proofs.Along.{after_all-append, fair-append, sends-in_beat, sends-none}
use Rattle.run_facts.proofs.InLinks.{has_link, has-into, into-rises}
use Rattle.run_facts.proofs.Links.{arriving-now}
use Rattle.run_facts.proofs.Rows.{all-weaker, same-element}
use Rattle.run_lives.proofs.Beating.{beat-lives}
use Rattle.run_lives.proofs.Bringing.{got-lives}
use Rattle.run_lives.proofs.Standing.{StandsAs, stands}
use Rattle.run_lives.proofs.Wholes.{whole-append, beat-is_whole, beat-stamped}
use Rattle.ring_engine.specs.Traffic.{after_arrivals, after_sending, collected}
use Rattle.ring_engine.specs.Turns.{Scene, turn}
use Rattle.ring_engine.specs.Whole.{with_node}
use Rattle.ring_engine.proofs.Channels.{sent_all, sends-on, collected-at, collected-link, collected-rises}
use Rattle.ring_engine.proofs.Running.{get-set_same, elsewhere, turn-past}
use Rattle.ring_engine.proofs.Progressing.{more, more-here, with-more, channels-turn, receives-own, sends-more, same-past}
use Rattle.ring_links.specs.Ends.{LineId}
use Rattle.ring_cells.specs.Flows.{Outflow, done}
use Rattle.ring_cells.specs.Kept.{IsInflow, IsOutflow}
use Rattle.ring_cells.proofs.Inflows.{inflow-passes}
use Rattle.ring_cells.proofs.Outflows as flows
use Rattle.ring_cells.specs.Shares.{Entrance, Exit, inflow_of, outflow_of, holds, IsInner, IsEntrance, IsExit, IsShare, IsLeaving, AreClosedTo, gone_out, emptied_out, HasEnded}
use Rattle.ring_cells.proofs.Rows.{held-at}

-- the ends of a link are two nodes and no others
pub same-ends : (o : Option (ℕ × ℕ)) (a b c d : ℕ) → o ≡ Some (a, b) → o ≡ Some (c, d) → (a ≡ c) × (b ≡ d)
same-ends o a b c d h g =
    let both : Some (a, b) ≡ Some (c, d) = sym h ∙ g in (
      ap (λ o. (elim o as (λ _. ℕ) [ Some q ↦ q.0 | None ↦ 0 ])) both,
      ap (λ o. (elim o as (λ _. ℕ) [ Some q ↦ q.1 | None ↦ 0 ])) both,
    )

pub held-not : (numbers : List NodeNo) (j k : ℕ) → holds numbers j ≡ true → holds numbers k ≡ false → k ≢ j
held-not numbers j k in_it out same = let q : true ≡ false = sym in_it ∙ ap (holds numbers) (sym same) ∙ out in absurd (cc)

-- node n has come through one beat more
abbrev pub come_on : ℕ → ℕ → (ℕ → ℕ) → ℕ → ℕ
come_on n b at k = cond (k == n) (b + 1) (at k)

on-here : (n b : ℕ) (at : ℕ → ℕ) (k : ℕ) → k ≡ n → come_on n b at k ≡ b + 1
on-here n b at k same = ap (λ q. cond q (b + 1) (at k)) (eq-eqb k n same)

on-other : (n b : ℕ) (at : ℕ → ℕ) (k : ℕ) → k ≢ n → come_on n b at k ≡ at k
on-other n b at k other = ap (λ q. cond q (b + 1) (at k)) (ne_eqb k n other)

abbrev outflow_with : {M : Type 0} → Exit M → ℕ → Clock → List (Flight M) → Outflow M
outflow_with o closed clock flights = record { link = o.link; line = o.line; flights = flights; closed = closed; clock = clock }

-- what was sent, seen as the link's traffic and as the end of a link that leaves
as-sent : {M : Type 0} (o : Exit M) (ds : List (Dated M)) (t : Traffic M) → outflow_of o (sent_all ds t) ≡ flows.sent_all ds (outflow_of o t)
as-sent o [] t = refl
as-sent {M} o (d ∷ ds) t =
    let u : Traffic M = after_sending d.beat d.item t in
    let f : Flight M = record { sent = d.beat; arrival = arrival_at t.clock d.beat; msg = d.item } in
    as-sent o ds u ∙ ap (flows.sent_all ds) (ap (outflow_with o o.closed u.clock) (sym (append_assoc o.flights t.flights (f ∷ []))))

module _ {M S : Type 0} (note : M → Note) (step : S → Input M → Deed M S) (c : Course) (course : IsCourse c) (first : ℕ → S) (line_of : ℕ → LineId)
    (numbers : List NodeNo) (b : ℕ) (at : ℕ → ℕ) (events : ℕ → List (NodeEvent M)) (ring : Ring M S) (ins : List (Entrance M)) (outs : List (List (Exit M)))
    (st : IsShare note step c first line_of numbers b at events ring ins outs)
    (once : (q r : ℕ) (n : NodeNo) → slice_get numbers q ≡ Some n → slice_get numbers r ≡ Some n → q ≡ r)
    (q : ℕ) (m : NodeNo) (seat : slice_get numbers q ≡ Some m) (now : at m.0 ≡ b) (early : b ≤ most_beats) (shut : AreClosedTo b ins)
    (past : Past S) (stood : IsAt ring q past) where
  abbrev n : ℕ
  n = m.0

  abbrev pub its_links : List LinkNo
  its_links = in_links_of (links_of c.plan.params) n

  abbrev letters : List (Letter M)
  letters = collected b its_links ring.channels

  abbrev pub its_events : List (NodeEvent M)
  its_events = beat_events note step (stamp_in c n b) letters past

  abbrev pub then_events : ℕ → List (NodeEvent M)
  then_events k = events k ++ more n its_events k

  abbrev pub its_scene : Scene M S
  its_scene = turn note step (stamp_in c n b) its_links (record { past = past; channels = ring.channels })

  abbrev pub then_at : ℕ → ℕ
  then_at = come_on n b at

  mine : holds numbers n ≡ true
  mine = held-at numbers q m seat

  is : past ≡ after_all note step (events n) (opening_of c n (first n))
  is = same-past ring q past _ stood (st.here q m seat)

  timeline_b : IsTimeline (stamp_in c n) c.plan.params n (lifetime_of c n) b (events n)
  timeline_b = subst (λ k. IsTimeline (stamp_in c n) c.plan.params n (lifetime_of c n) k (events n)) now (st.timeline n mine)

  stands_so : StandsAs (lifetime_of c n) past.life b
  stands_so = subst (λ (x : Past S). StandsAs (lifetime_of c n) x.life b) (sym is)
      (stands note step (stamp_in c n) (first n) (lifetime_of c n) b (events n) c.plan.params n timeline_b)

  rises : Rising (λ (x : Letter M). x.link.0) letters
  rises = collected-rises b its_links ring.channels (into-rises (links_of c.plan.params) n (link_count (links_of c.plan.params)))

  lead : AllByRecursion (λ (x : Letter M). IsInLink c.plan.params n x.link.0) letters
  lead = collected-link (λ k. IsInLink c.plan.params n k.0) b its_links ring.channels (links_into-lead c.plan.params n (link_count (links_of c.plan.params)))

  dated : AllByRecursion (λ (e : NodeEvent M). (stamp_at e).beat ≡ b) its_events
  dated = all-weaker (λ (e : NodeEvent M). stamp_at e ≡ stamp_in c n b) (λ e. (stamp_at e).beat ≡ b) its_events (λ e h. ap (λ (s : Stamp). s.beat) h) (beat-stamped note step (stamp_in c n b) letters past)

  leads : (l from to : ℕ) → ends_of (links_of c.plan.params) l ≡ Some (from, to) → has_link l its_links ≡ (to == n)
  leads l from to ends = has-into (links_of c.plan.params) n l (link_count (links_of c.plan.params)) (ends_counted (links_of c.plan.params) l (from, to) ends) ∙ ap (leads_to n) ends

  events-other : (k : ℕ) → k ≢ n → events k ≡ then_events k
  events-other k other = with-more n its_events (events k) k other

  events-here : events n ++ its_events ≡ then_events n
  events-here = ap (λ es. events n ++ es) (sym (more-here n its_events n refl))

  -- the events of a node stay as they are, or it is the member that had its turn
  by-turn : (P : ℕ → ℕ → List (NodeEvent M) → Type 0) → P n (b + 1) (events n ++ its_events) → (k : ℕ) → (k ≢ n → P k (at k) (events k)) → P k (then_at k) (then_events k)
  by-turn P here k other = ⊎_elim
      (λ (same : k ≡ n). subst (λ j. P j (then_at j) (then_events j)) (sym same)
      (subst (λ x. P n x (then_events n)) (sym (on-here n b at n refl)) (subst (P n (b + 1)) events-here here)))
      (λ (ne : k ≢ n). subst (λ x. P k x (then_events k)) (sym (on-other n b at k ne)) (subst (P k (at k)) (events-other k ne) (other ne)))
      (cases_eq k n)

  -- what the turn makes of a link
  pub link-then : (l from to : ℕ) (t : Traffic M) → ends_of (links_of c.plan.params) l ≡ Some (from, to) → slice_get ring.channels l ≡ Some t
      → slice_get its_scene.channels l ≡ Some (sent_all (sends_along note step l its_events past) (cond (to == n) (after_arrivals b t) t))
  link-then l from to t ends there =
      channels-turn note step (stamp_in c n b) its_links past ring.channels l t there
      ∙ ap (λ x. Some (sent_all (sends_along note step l its_events past) (cond x (after_arrivals b t) t))) (leads l from to ends)

  -- the receiver's part of an account
  received : (l from to : ℕ) (t : Traffic M) → ends_of (links_of c.plan.params) l ≡ Some (from, to) → slice_get ring.channels l ≡ Some t → (start : Clock) (sent : List (Dated M))
      → OnLink (lifetime_of c to) (HasCutIn l (events to)) c.plan.params.delay start sent (takes_along l (events to)) t.clock (map pass t.flights) (at to)
      → OnLink (lifetime_of c to) (HasCutIn l (then_events to)) c.plan.params.delay start sent (takes_along l (then_events to)) (cond (to == n) (after_arrivals b t) t).clock
      (map pass (cond (to == n) (after_arrivals b t) t).flights) (then_at to)
  received l from to t ends there start sent on =
      let Known : Bool → ℕ → ℕ → List (NodeEvent M) → Type 0 = λ x k next es.
      OnLink (lifetime_of c k) (HasCutIn l es) c.plan.params.delay start sent (takes_along l es) (cond x (after_arrivals b t) t).clock (map pass (cond x (after_arrivals b t) t).flights) next in
      ⊎_elim
      (λ (same : to ≡ n).
      let ends_n : ends_of (links_of c.plan.params) l ≡ Some (from, n) = ends ∙ ap (λ k. Some (from, k)) same in
      let on_n = subst (λ k. OnLink (lifetime_of c k) (HasCutIn l (events k)) c.plan.params.delay start sent (takes_along l (events k)) t.clock (map pass t.flights) (at k)) same on in
      let on_b = subst (λ x. OnLink (lifetime_of c n) (HasCutIn l (events n)) c.plan.params.delay start sent (takes_along l (events n)) t.clock (map pass t.flights) x) now on_n in
      let made = receives-own note step c b n l start sent (events n) past ring.channels t there course stands_so (leads l from n ends_n ∙ eq-eqb n n refl) timeline_b on_b in
      subst (λ x. Known x to (then_at to) (then_events to)) (sym (eq-eqb to n same))
      (subst (λ k. Known true k (then_at k) (then_events k)) (sym same)
      (subst (λ x. Known true n x (then_events n)) (sym (on-here n b at n refl)) (subst (Known true n (b + 1)) events-here made))))
      (λ (other : to ≢ n).
      subst (λ x. Known x to (then_at to) (then_events to)) (sym (ne_eqb to n other))
      (subst (λ x. Known false to x (then_events to)) (sym (on-other n b at to other)) (subst (Known false to (at to)) (events-other to other) on)))
      (cases_eq to n)

  same-clock : (x : Bool) (t : Traffic M) → (cond x (after_arrivals b t) t).clock ≡ t.clock
  same-clock true t = refl
  same-clock false t = refl

  then-low : (k : ℕ) → holds numbers k ≡ true → (b ≤ then_at k) × (then_at k ≤ b + 1)
  then-low k held = by-turn (λ j x es. (b ≤ x) × (x ≤ b + 1)) (omega arith, omega arith) k (λ other. st.soon k held)

  module _ (fair : AreFair note step c.plan.params n its_events past) (row row' : List (Exit M)) (channels' : List (Traffic M)) (outs' : List (List (Exit M)))
      (its_row : (r : List (Exit M)) → slice_get outs q ≡ Some r → r ≡ row)
      (row_leads : (r : ℕ) (o : Exit M) → slice_get row r ≡ Some o → IsLeaving c.plan.params numbers m o.link)
      (ended : HasEnded b row its_scene.channels row' channels')
      (then_row : slice_get outs q ≡ Some row → slice_get outs' q ≡ Some row')
      (other_rows : (r : ℕ) → r ≢ q → slice_get outs' r ≡ slice_get outs r) where
    -- but for the links that leave from the member
    link-still : (l from to : ℕ) → ends_of (links_of c.plan.params) l ≡ Some (from, to) → (from ≢ n) ⊎ (holds numbers to ≡ true)
        → slice_get channels' l ≡ slice_get its_scene.channels l
    link-still l from to ends which = ended.others l (λ r o e same.
        let w = row_leads r o e in
        let both = same-ends (ends_of (links_of c.plan.params) l) n w.to from to (ap (ends_of (links_of c.plan.params)) (sym same) ∙ w.ends) ends in
        ⊎_elim
        (λ (other : from ≢ n). absurd (other (sym both.0)))
        (λ (inside : holds numbers to ≡ true). absurd (held-not numbers to w.to inside w.outside both.1))
        which)

    pub inner-turn : (l from to : ℕ) → holds numbers from ≡ true → holds numbers to ≡ true → ends_of (links_of c.plan.params) l ≡ Some (from, to)
        → IsInner note step c first b then_at then_events channels' l from to
    inner-turn l from to inside inside' ends =
        let old = st.inner l from to inside inside' ends in
        let t = old.traffic in
        let t1 : Traffic M = cond (to == n) (after_arrivals b t) t in
        let start = new_clock l c.delay c.plan.params.delay in
        let old_sent = sends_along note step l (events from) (opening_of c from (first from)) in
        let ds = sends_along note step l its_events past in
        let got = received l from to t ends old.here start old_sent old.account in
        let calm : t1.clock.last_send ≤ b = subst (λ (k : Clock). k.last_send ≤ b) (sym (same-clock (to == n) t)) old.calm in
        let sent = sends-on (lifetime_of c to) (HasCutIn l (then_events to)) c.plan.params.delay start old_sent (takes_along l (then_events to)) t1 (then_at to) b ds
        (sends-in_beat note step l b its_events past dated) calm early (then-low to inside').1 got in
        record {
          traffic = sent_all ds t1;
          here = link-still l from to ends (inr inside') ∙ link-then l from to t ends old.here;
          calm = sent.1;
          account = subst (λ ss. OnLink (lifetime_of c to) (HasCutIn l (then_events to)) c.plan.params.delay start ss (takes_along l (then_events to)) (sent_all ds t1).clock (map pass (sent_all ds t1).flights) (then_at to))
              (sends-more note step c first events n l from to its_events past is fair ends) sent.0;
        }

    -- a port through which letters come to the member, and to another
    entrance-own : (l from : ℕ) → holds numbers from ≡ false → ends_of (links_of c.plan.params) l ≡ Some (from, n) → IsEntrance line_of c then_at then_events channels' ins l n
    entrance-own l from out ends =
        let old = st.into l from n out mine ends in
        let t = old.traffic in
        let other : from ≢ n = held-not numbers n from mine out in
        let there : slice_get channels' l ≡ Some (after_arrivals b t) = link-still l from n ends (inl other) ∙ link-then l from n t ends old.here
        ∙ ap (λ ds. Some (sent_all ds (cond (n == n) (after_arrivals b t) t))) (sends-none note step c.plan.params n from n l its_events past ends other fair)
        ∙ ap (λ x. Some (cond x (after_arrivals b t) t)) (eq-eqb n n refl) in
        let flow : IsInflow line_of (lifetime_of c n) b (events n) (inflow_of old.port t) = subst (λ x. IsInflow line_of (lifetime_of c n) x (events n) (inflow_of old.port t)) now old.flow in
        let arrive : map (bring b) (filter (on_link old.port.link.0) letters) ≡ arriving b (map pass t.flights) =
        subst (λ (k : LinkNo). map (bring b) (filter (on_link k.0) letters) ≡ arriving b (map pass t.flights)) (sym old.number)
        (collected-at b l its_links ring.channels t old.here flow.ahead ∙ ap (λ x. cond x (arriving b (map pass t.flights)) []) (leads l from n ends ∙ eq-eqb n n refl)) in
        let got = got-lives note step (stamp_in c n) c.plan.params n (death_of c n) (cut_of c n) (back_of c n) (course.returns_later n) (λ k. refl) b letters past rises stands_so
        old.port.link.0 flow.gone (arriving b (map pass t.flights)) (events n) timeline_b (arriving-now b (map pass t.flights) flow.ahead) arrive flow.got_is in
        let passes : IsInflow line_of (lifetime_of c n) (b + 1) (events n ++ its_events) (inflow_of old.port (after_arrivals b t)) =
        inflow-passes line_of (lifetime_of c n) b (events n) its_events (inflow_of old.port t) flow (shut old.place old.port old.there) got in
        record {
          place = old.place;
          port = old.port;
          there = old.there;
          number = old.number;
          traffic = after_arrivals b t;
          here = there;
          flow = by-turn (λ j x es. IsInflow line_of (lifetime_of c j) x es (inflow_of old.port (after_arrivals b t))) passes n (λ ne. absurd (ne refl));
        }

    pub entrance-turn : (l from to : ℕ) → holds numbers from ≡ false → holds numbers to ≡ true → ends_of (links_of c.plan.params) l ≡ Some (from, to)
        → IsEntrance line_of c then_at then_events channels' ins l to
    entrance-turn l from to out inside ends = ⊎_elim
        (λ (same : to ≡ n). subst (IsEntrance line_of c then_at then_events channels' ins l) (sym same) (entrance-own l from out (ends ∙ ap (λ k. Some (from, k)) same)))
        (λ (other : to ≢ n).
        let old = st.into l from to out inside ends in
        let t = old.traffic in
        let not_n : from ≢ n = held-not numbers n from mine out in
        record {
          place = old.place;
          port = old.port;
          there = old.there;
          number = old.number;
          traffic = t;
          here = link-still l from to ends (inl not_n) ∙ link-then l from to t ends old.here
              ∙ ap (λ ds. Some (sent_all ds (cond (to == n) (after_arrivals b t) t))) (sends-none note step c.plan.params n from to l its_events past ends not_n fair)
              ∙ ap (λ x. Some (cond x (after_arrivals b t) t)) (ne_eqb to n other);
          flow = subst (λ x. IsInflow line_of (lifetime_of c to) x (then_events to) (inflow_of old.port t)) (sym (on-other n b at to other))
              (subst (λ es. IsInflow line_of (lifetime_of c to) (at to) es (inflow_of old.port t)) (events-other to other) old.flow);
        })
        (cases_eq to n)

    -- a port through which messages of the member go, and those of another
    exit-own : (l to : ℕ) → holds numbers to ≡ false → ends_of (links_of c.plan.params) l ≡ Some (n, to)
        → IsExit line_of note step c first numbers then_at then_events channels' outs' l n
    exit-own l to out ends =
        let old = st.out_of l n to mine out ends in
        let t = old.traffic in
        let o = old.port in
        let ds = sends_along note step o.link.0 its_events past in
        let t2 : Traffic M = sent_all ds t in
        let place_is : old.member ≡ q = once old.member q m old.is_from seat in
        let row_is : old.row ≡ row = its_row old.row (ap (slice_get outs) (sym place_is) ∙ old.its_row) in
        let there : slice_get row old.place ≡ Some o = ap (λ r. slice_get r old.place) (sym row_is) ∙ old.there in
        let not_n : to ≢ n = held-not numbers n to mine out in
        let scene_at : slice_get its_scene.channels o.link.0 ≡ Some t2 = ap (λ (k : LinkNo). slice_get its_scene.channels k.0) old.number ∙ link-then l n to t ends old.here
        ∙ ap (λ x. Some (sent_all (sends_along note step l its_events past) (cond x (after_arrivals b t) t))) (ne_eqb to n not_n)
        ∙ ap (λ (k : LinkNo). Some (sent_all (sends_along note step k.0 its_events past) t)) (sym old.number) in
        let each = ended.each old.place o t2 (get-below row old.place o there) there scene_at in
        let flow_b : IsOutflow line_of note step c n (first n) b (events n) (outflow_of o t) =
        subst (λ x. IsOutflow line_of note step c n (first n) x (events n) (outflow_of o t)) now old.flow in
        let passes : IsOutflow line_of note step c n (first n) (b + 1) (events n ++ its_events) (done b (flows.sent_all ds (outflow_of o t))) =
        flows.outflow-passes line_of note step c n (first n) b (events n) its_events past (outflow_of o t) is early (sends-in_beat note step o.link.0 b its_events past dated) flow_b in
        let same : done b (flows.sent_all ds (outflow_of o t)) ≡ outflow_of (gone_out b o t2) (emptied_out t2) =
        ap (done b) (sym (as-sent o ds t))
        ∙ ap (outflow_with o (b + 1) t2.clock) (sym (append-nil (o.flights ++ t2.flights))) in
        let flow = subst (IsOutflow line_of note step c n (first n) (b + 1) (events n ++ its_events)) same passes in
        record {
          member = q;
          is_from = seat;
          row = row';
          its_row = then_row (ap (slice_get outs) (sym place_is) ∙ old.its_row ∙ ap Some row_is);
          place = old.place;
          port = gone_out b o t2;
          there = each.0;
          number = old.number;
          traffic = emptied_out t2;
          here = ap (λ (k : LinkNo). slice_get channels' k.0) (sym old.number) ∙ each.1;
          all_out = refl;
          flow = by-turn (λ j x es. IsOutflow line_of note step c j (first j) x es (outflow_of (gone_out b o t2) (emptied_out t2))) flow n (λ ne. absurd (ne refl));
        }

    pub exit-turn : (l from to : ℕ) → holds numbers from ≡ true → holds numbers to ≡ false → ends_of (links_of c.plan.params) l ≡ Some (from, to)
        → IsExit line_of note step c first numbers then_at then_events channels' outs' l from
    exit-turn l from to inside out ends = ⊎_elim
        (λ (same : from ≡ n). subst (IsExit line_of note step c first numbers then_at then_events channels' outs' l) (sym same) (exit-own l to out (ends ∙ ap (λ k. Some (k, to)) same)))
        (λ (other : from ≢ n).
        let old = st.out_of l from to inside out ends in
        let t = old.traffic in
        let not_n : to ≢ n = held-not numbers n to mine out in
        let not_q : old.member ≢ q = λ same.
        other (ap (λ (o : Option NodeNo). (elim o as (λ _. ℕ) [ Some x ↦ x.0 | None ↦ 0 ])) (sym old.is_from ∙ ap (slice_get numbers) same ∙ seat)) in
        record {
          member = old.member;
          is_from = old.is_from;
          row = old.row;
          its_row = other_rows old.member not_q ∙ old.its_row;
          place = old.place;
          port = old.port;
          there = old.there;
          number = old.number;
          traffic = t;
          here = link-still l from to ends (inl other) ∙ link-then l from to t ends old.here
              ∙ ap (λ ds. Some (sent_all ds (cond (to == n) (after_arrivals b t) t))) (sends-none note step c.plan.params n from to l its_events past ends other fair)
              ∙ ap (λ x. Some (cond x (after_arrivals b t) t)) (ne_eqb to n not_n);
          all_out = old.all_out;
          flow = subst (λ x. IsOutflow line_of note step c from (first from) x (then_events from) (outflow_of old.port t)) (sym (on-other n b at from other))
              (subst (λ es. IsOutflow line_of note step c from (first from) (at from) es (outflow_of old.port t)) (events-other from other) old.flow);
        })
        (cases_eq from n)

    abbrev pub then_ring : Ring M S
    then_ring = with_node ring q its_scene.past.state its_scene.past.life its_scene.past.journal channels'

    after-turn : its_scene.past ≡ after_all note step (events n ++ its_events) (opening_of c n (first n))
    after-turn = turn-past note step (stamp_in c n b) its_links (record { past = past; channels = ring.channels })
        ∙ ap (after_all note step its_events) is ∙ sym (after_all-append note step (events n) its_events (opening_of c n (first n)))

    here-own : IsAt then_ring q (after_all note step (then_events n) (opening_of c n (first n)))
    here-own = subst (λ (x : Past S). IsAt then_ring q x) (after-turn ∙ ap (λ es. after_all note step es (opening_of c n (first n))) events-here) (record {
      state = get-set_same ring.nodes q its_scene.past.state _ stood.state;
      life = get-set_same ring.lives q its_scene.past.life _ stood.life;
      journal = get-set_same ring.journals q its_scene.past.journal _ stood.journal;
    })

    here-turn : (r : ℕ) (k : NodeNo) → slice_get numbers r ≡ Some k → IsAt then_ring r (after_all note step (then_events k.0) (opening_of c k.0 (first k.0)))
    here-turn r k there = ⊎_elim
        (λ (same : r ≡ q).
        let is_m : m ≡ k = same-element numbers q m k seat (ap (slice_get numbers) (sym same) ∙ there) in
        subst (λ x. IsAt then_ring x (after_all note step (then_events k.0) (opening_of c k.0 (first k.0)))) (sym same)
        (subst (λ (x : NodeNo). IsAt then_ring q (after_all note step (then_events x.0) (opening_of c x.0 (first x.0)))) is_m here-own))
        (λ (other : r ≢ q).
        let not_n : k.0 ≢ n = λ e. other (once r q m (there ∙ ap (λ (x : ℕ). Some (record { 0 = x })) e) seat) in
        subst (λ es. IsAt then_ring r (after_all note step es (opening_of c k.0 (first k.0)))) (events-other k.0 not_n)
        (elsewhere ring q r its_scene.past.state its_scene.past.life its_scene.past.journal channels' _ other (st.here r k there)))
        (cases_eq r q)

    -- a turn of one member keeps what the share keeps
    pub turn-share : IsShare note step c first line_of numbers b then_at then_events then_ring ins outs'
    turn-share = record {
      here = here-turn;
      soon = then-low;
      fair = λ k held. by-turn (λ j x es. AreFair note step c.plan.params j es (opening_of c j (first j)))
          (fair-append note step c.plan.params n (events n) its_events (opening_of c n (first n)) (st.fair n mine) (subst (AreFair note step c.plan.params n its_events) is fair)) k (λ other. st.fair k held);
      whole = λ k held. by-turn (λ j x es. AreWhole note step es (opening_of c j (first j)))
          (whole-append note step (events n) its_events (opening_of c n (first n)) (st.whole n mine) (subst (AreWhole note step its_events) is (beat-is_whole note step (stamp_in c n b) letters past))) k (λ other. st.whole k held);
      timeline = λ k held. by-turn (λ j x es. IsTimeline (stamp_in c j) c.plan.params j (lifetime_of c j) x es)
          (beat-lives note step (stamp_in c n) c.plan.params n (death_of c n) (cut_of c n) (back_of c n) (course.returns_later n) (λ k. refl) b letters past lead rises stands_so (events n) timeline_b) k (λ other. st.timeline k held);
      inner = inner-turn;
      into = entrance-turn;
      out_of = exit-turn;
    }
