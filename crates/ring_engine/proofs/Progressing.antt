-- The progress of a run, node by node and link by link.
use Rattle.std.proofs.Common.{add-one, ◌≡◌, ◌≢◌, ℕ, zero, suc, ◌+◌, ◌<◌, ◌≤◌, List, [], ◌++◌, map, filter, length, Bool, true, false, Some, None, refl, ap, sym, ◌∙◌, subst, arith, cond, ⊎_elim, append-nil}
use Rattle.std.specs.Prelude.{slice_get, nat_lt, ◌==◌}
use Rattle.std.specs.List.{AllByRecursion}
use Rattle.std.proofs.lemmas.Bool.{cases_Bool, cases_eq, eq-eqb, ne_eqb}
use Rattle.std.proofs.lemmas.Bool.Decides.{nat_tests}
use Rattle.tiger_base.specs.declared.number.Stamp.{Stamp}
use Rattle.tiger_base.specs.declared.number.LinkNo.{LinkNo}
use Rattle.tiger_base.specs.declared.message.Note.{Note}
use Rattle.tiger_base.specs.Limits.{most_beats}
use Rattle.link_timing.specs.Clock.{Clock, new_clock}
use Rattle.link_timing.proofs.Arrivals.{IsClock-new_clock}
use Rattle.node_kit.specs.declared.course.Course.{Course}
use Rattle.node_kit.specs.declared.journal.Entry.{Entry}
use Rattle.node_kit.specs.Courses.{IsCourse, stamp_in}
use Rattle.node_kit.specs.Life.{lifetime_of, death_of, cut_of, back_of}
use Rattle.node_kit.specs.Links.{links_of, ends_of, link_count, IsInLink, in_links_of}
use Rattle.node_kit.specs.Steps.{Input, Deed}
use Rattle.node_kit.proofs.Ring.{ends_counted}
use Rattle.run_facts.specs.Events.{NodeEvent, Past, Dated, after_all, stamp_at, AreFair, sends_along, takes_along}
use Rattle.run_facts.proofs.Rows.{all-weaker, same-element}
use Rattle.run_facts.proofs.Along.{after_all-append, sends-append, fair-append, sends-in_beat, sends-none}
use Rattle.run_facts.proofs.Links.{link-opens}
use Rattle.run_facts.specs.Accounts.{arriving, AreWhole, HasCutIn, OnLink, IsTimeline}
use Rattle.run_facts.proofs.Timelines.{timeline-opens}
use Rattle.run_facts.specs.declared.mail.Letter.{Letter}
use Rattle.ring_engine.specs.Traffic.{after_arrivals, collected, after_collecting}
use Rattle.run_facts.specs.Rings.{Traffic, Ring, IsAt}
use Rattle.ring_engine.specs.Turns.{Scene, turn}
use Rattle.run_facts.specs.Beats.{beat_events, opening_of, pass, bring, on_link}
use Rattle.ring_engine.specs.Places.{new_channel}
use Rattle.ring_engine.specs.Whole.{opening_ring, with_node, brought_to, HasTurn, HaveTurns, HavePassed, IsWholeRun}
use Rattle.node_kit.proofs.Rows.{get-each_below, length-each_below, links_into-lead}
use Rattle.run_facts.proofs.Beats.{under_way-waiting}
use Rattle.ring_engine.proofs.Running.{get-set_same, length-set_at, elsewhere, turn-past}
use Rattle.ring_engine.proofs.Channels.{sent_all, happen-at, sends-on, emptied-at, collected-at, collected-link, collected-rises}
use Rattle.run_facts.proofs.InLinks.{has_link, has-into, into-rises}
use Rattle.run_facts.proofs.Progress.{next_of, next-here, next-then, next-other, next-low, next-none}
use Rattle.run_lives.proofs.Beating.{beat-lives}
use Rattle.run_lives.proofs.Bringing.{link-lives}
use Rattle.run_lives.proofs.Progress.{OnChannel, Progress}
use Rattle.run_lives.proofs.Standing.{StandsAs, stands}
use Rattle.run_lives.proofs.Wholes.{whole-append, beat-is_whole, beat-stamped}

-- the events that node k has besides, where node n has its turn
abbrev pub more : {M : Type 0} → ℕ → List (NodeEvent M) → ℕ → List (NodeEvent M)
more n es k = cond (k == n) es []

pub more-here : {M : Type 0} (n : ℕ) (es : List (NodeEvent M)) (k : ℕ) → k ≡ n → more n es k ≡ es
more-here n es k same = ap (λ b. cond b es []) (eq-eqb k n same)

more-other : {M : Type 0} (n : ℕ) (es : List (NodeEvent M)) (k : ℕ) → k ≢ n → more n es k ≡ []
more-other n es k other = ap (λ b. cond b es []) (ne_eqb k n other)

pub with-more : {M : Type 0} (n : ℕ) (es old : List (NodeEvent M)) (k : ℕ) → k ≢ n → old ≡ old ++ more n es k
with-more n es old k other = sym (append-nil old) ∙ ap (λ q. old ++ q) (sym (more-other n es k other))

-- the links in a turn
pub channels-turn : {M S : Type 0} (note : M → Note) (step : S → Input M → Deed M S) (stamp : Stamp) (links : List LinkNo) (past : Past S) (ts : List (Traffic M)) (l : ℕ) (t : Traffic M)
    → slice_get ts l ≡ Some t
    → slice_get (turn note step stamp links (record { past = past; channels = ts })).channels l
    ≡ Some (sent_all (sends_along note step l (beat_events note step stamp (collected stamp.beat links ts) past) past) (cond (has_link l links) (after_arrivals stamp.beat t) t))
unfolding turn
channels-turn note step stamp links past ts l t h =
    happen-at note step l (beat_events note step stamp (collected stamp.beat links ts) past) (record { past = past; channels = after_collecting stamp.beat links ts })
    (cond (has_link l links) (after_arrivals stamp.beat t) t) (emptied-at stamp.beat l links ts t h)

-- the receiver's part
pub receives-own : {M S : Type 0} (note : M → Note) (step : S → Input M → Deed M S) (c : Course) (b n l : ℕ) (start : Clock) (sent : List (Dated M)) (old : List (NodeEvent M))
    (past : Past S) (ts : List (Traffic M)) (t : Traffic M) → slice_get ts l ≡ Some t → IsCourse c → StandsAs (lifetime_of c n) past.life b
    → has_link l (in_links_of (links_of c.plan.params) n) ≡ true → IsTimeline (stamp_in c n) c.plan.params n (lifetime_of c n) b old
    → OnLink (lifetime_of c n) (HasCutIn l old) c.plan.params.delay start sent (takes_along l old) t.clock (map pass t.flights) b
    → OnLink (lifetime_of c n) (HasCutIn l (old ++ beat_events note step (stamp_in c n b) (collected b (in_links_of (links_of c.plan.params) n) ts) past)) c.plan.params.delay start sent
    (takes_along l (old ++ beat_events note step (stamp_in c n b) (collected b (in_links_of (links_of c.plan.params) n) ts) past))
    t.clock (map pass (after_arrivals b t).flights) (b + 1)
receives-own {M} {S} note step c b n l start sent old past ts t here course stands leads timeline on =
    let p = c.plan.params in
    let links = in_links_of (links_of p) n in
    let letters = collected b links ts in
    let new = old ++ beat_events note step (stamp_in c n b) letters past in
    let arrive : map (bring b) (filter (on_link l) letters) ≡ arriving b (map pass t.flights) =
    collected-at b l links ts t here on.ahead ∙ ap (λ q. cond q (arriving b (map pass t.flights)) []) leads in
    subst (λ fs. OnLink (lifetime_of c n) (HasCutIn l new) p.delay start sent (takes_along l new) t.clock fs (b + 1)) (sym (under_way-waiting b t.flights))
    (link-lives note step (stamp_in c n) p n (death_of c n) (cut_of c n) (back_of c n) (course.returns_later n) (λ k. refl) b letters past
    (collected-rises b links ts (into-rises (links_of p) n (link_count (links_of p)))) stands l p.delay start sent old t.clock (map pass t.flights) timeline arrive on)

receives : {M S : Type 0} (note : M → Note) (step : S → Input M → Deed M S) (c : Course) (b n l to : ℕ) (start : Clock) (sent : List (Dated M)) (old : List (NodeEvent M))
    (past : Past S) (ts : List (Traffic M)) (t : Traffic M) → slice_get ts l ≡ Some t → IsCourse c → StandsAs (lifetime_of c n) past.life b
    → has_link l (in_links_of (links_of c.plan.params) n) ≡ (to == n)
    → IsTimeline (stamp_in c to) c.plan.params to (lifetime_of c to) (next_of b n to) old
    → OnLink (lifetime_of c to) (HasCutIn l old) c.plan.params.delay start sent (takes_along l old) t.clock (map pass t.flights) (next_of b n to)
    → OnLink (lifetime_of c to) (HasCutIn l (old ++ more n (beat_events note step (stamp_in c n b) (collected b (in_links_of (links_of c.plan.params) n) ts) past) to)) c.plan.params.delay start sent
    (takes_along l (old ++ more n (beat_events note step (stamp_in c n b) (collected b (in_links_of (links_of c.plan.params) n) ts) past) to))
    (cond (has_link l (in_links_of (links_of c.plan.params) n)) (after_arrivals b t) t).clock
    (map pass (cond (has_link l (in_links_of (links_of c.plan.params) n)) (after_arrivals b t) t).flights) (next_of b (suc n) to)
receives {M} {S} note step c b n l to start sent old past ts t here course stands leads timeline on =
    let p = c.plan.params in
    let links = in_links_of (links_of p) n in
    let es = beat_events note step (stamp_in c n b) (collected b links ts) past in
    let Known : Bool → ℕ → List (NodeEvent M) → ℕ → Type 0 = λ q k new next.
    OnLink (lifetime_of c k) (HasCutIn l new) p.delay start sent (takes_along l new) (cond q (after_arrivals b t) t).clock (map pass (cond q (after_arrivals b t) t).flights) next in
    ⊎_elim
    (λ (is_n : to ≡ n).
    let yes_link : has_link l links ≡ true = leads ∙ eq-eqb to n is_n in
    let now : next_of b n to ≡ b = ap (next_of b n) is_n ∙ next-here b n in
    let then_next : b + 1 ≡ next_of b (suc n) to = sym (next-then b n) ∙ sym (ap (next_of b (suc n)) is_n) in
    let on_b = subst (λ q. OnLink (lifetime_of c to) (HasCutIn l old) p.delay start sent (takes_along l old) t.clock (map pass t.flights) q) now on in
    let on_n = subst (λ k. OnLink (lifetime_of c k) (HasCutIn l old) p.delay start sent (takes_along l old) t.clock (map pass t.flights) b) is_n on_b in
    let timeline_b = subst (λ q. IsTimeline (stamp_in c to) p to (lifetime_of c to) q old) now timeline in
    let timeline_n = subst (λ k. IsTimeline (stamp_in c k) p k (lifetime_of c k) b old) is_n timeline_b in
    let made = receives-own note step c b n l start sent old past ts t here course stands yes_link timeline_n on_n in
    subst (λ q. Known q to (old ++ more n es to) (next_of b (suc n) to)) (sym yes_link)
    (subst (λ q. Known true to (old ++ q) (next_of b (suc n) to)) (sym (more-here n es to is_n))
    (subst (λ q. Known true to (old ++ es) q) then_next
    (subst (λ k. Known true k (old ++ es) (b + 1)) (sym is_n) made))))
    (λ (other : to ≢ n).
    let no_link : has_link l links ≡ false = leads ∙ ne_eqb to n other in
    subst (λ q. Known q to (old ++ more n es to) (next_of b (suc n) to)) (sym no_link)
    (subst (λ q. Known false to q (next_of b (suc n) to)) (with-more n es old to other)
    (subst (λ q. Known false to old q) (sym (next-other b n to other)) on)))
    (cases_eq to n)

-- the sender's part
pub sends-more : {M S : Type 0} (note : M → Note) (step : S → Input M → Deed M S) (c : Course) (first : ℕ → S) (events : ℕ → List (NodeEvent M)) (n l from to : ℕ) (es : List (NodeEvent M)) (past : Past S)
    → past ≡ after_all note step (events n) (opening_of c n (first n)) → AreFair note step c.plan.params n es past → ends_of (links_of c.plan.params) l ≡ Some (from, to)
    → sends_along note step l (events from) (opening_of c from (first from)) ++ sends_along note step l es past
    ≡ sends_along note step l (events from ++ more n es from) (opening_of c from (first from))
sends-more note step c first events n l from to es past is fair ends = ⊎_elim
    (λ (same : from ≡ n).
    ap (λ q. sends_along note step l (events from) (opening_of c from (first from)) ++ sends_along note step l es q) (is ∙ sym (ap (λ k. after_all note step (events k) (opening_of c k (first k))) same))
    ∙ sym (sends-append note step l (events from) es (opening_of c from (first from)))
    ∙ ap (λ q. sends_along note step l (events from ++ q) (opening_of c from (first from))) (sym (more-here n es from same)))
    (λ (other : from ≢ n).
    ap (λ q. sends_along note step l (events from) (opening_of c from (first from)) ++ q) (sends-none note step c.plan.params n from to l es past ends other fair)
    ∙ append-nil (sends_along note step l (events from) (opening_of c from (first from)))
    ∙ ap (λ q. sends_along note step l q (opening_of c from (first from))) (with-more n es (events from) from other))
    (cases_eq from n)

-- a link in a turn
link-turn : {M S : Type 0} (note : M → Note) (step : S → Input M → Deed M S) (c : Course) (first : ℕ → S) (events : ℕ → List (NodeEvent M)) (b n l from to : ℕ) (past : Past S) (ts : List (Traffic M))
    → b ≤ most_beats → IsCourse c → StandsAs (lifetime_of c n) past.life b → past ≡ after_all note step (events n) (opening_of c n (first n))
    → IsTimeline (stamp_in c to) c.plan.params to (lifetime_of c to) (next_of b n to) (events to)
    → AllByRecursion (λ e. (stamp_at e).beat ≡ b) (beat_events note step (stamp_in c n b) (collected b (in_links_of (links_of c.plan.params) n) ts) past)
    → AreFair note step c.plan.params n (beat_events note step (stamp_in c n b) (collected b (in_links_of (links_of c.plan.params) n) ts) past) past
    → ends_of (links_of c.plan.params) l ≡ Some (from, to) → OnChannel note step c first events b n l from to ts
    → OnChannel note step c first (λ k. events k ++ more n (beat_events note step (stamp_in c n b) (collected b (in_links_of (links_of c.plan.params) n) ts) past) k) b (suc n) l from to
    (turn note step (stamp_in c n b) (in_links_of (links_of c.plan.params) n) (record { past = past; channels = ts })).channels
link-turn {M} {S} note step c first events b n l from to past ts early course stands is timeline dated fair ends on =
    let p = c.plan.params in
    let links = in_links_of (links_of p) n in
    let es = beat_events note step (stamp_in c n b) (collected b links ts) past in
    let t = on.traffic in
    let t1 : Traffic M = cond (has_link l links) (after_arrivals b t) t in
    let start = new_clock l c.delay p.delay in
    let old_sent = sends_along note step l (events from) (opening_of c from (first from)) in
    let leads : has_link l links ≡ (to == n) = has-into (links_of p) n l (link_count (links_of p)) (ends_counted (links_of p) l (from, to) ends) ∙ ap (λ o. (elim o as (λ _. Bool) [ Some e ↦ e.1 == n | None ↦ false ])) ends in
    let got = receives note step c b n l to start old_sent (events to) past ts t on.here course stands leads timeline on.account in
    let calm : t1.clock.last_send ≤ b = ⊎_elim
    (λ (q : has_link l links ≡ true). subst (λ (k : Bool). (cond k (after_arrivals b t) t).clock.last_send ≤ b) (sym q) on.calm)
    (λ (q : has_link l links ≡ false). subst (λ (k : Bool). (cond k (after_arrivals b t) t).clock.last_send ≤ b) (sym q) on.calm)
    (cases_Bool (has_link l links)) in
    let next = next-low b (suc n) to in
    let sent = sends-on (lifetime_of c to) (HasCutIn l (events to ++ more n es to)) p.delay start old_sent (takes_along l (events to ++ more n es to)) t1 (next_of b (suc n) to) b (sends_along note step l es past)
    (sends-in_beat note step l b es past dated) calm early next got in
    record {
      traffic = sent_all (sends_along note step l es past) t1;
      here = channels-turn note step (stamp_in c n b) links past ts l t on.here;
      calm = sent.1;
      account = subst (λ q. OnLink (lifetime_of c to) (HasCutIn l (events to ++ more n es to)) p.delay start q (takes_along l (events to ++ more n es to)) (sent_all (sends_along note step l es past) t1).clock
          (map pass (sent_all (sends_along note step l es past) t1).flights) (next_of b (suc n) to))
          (sends-more note step c first events n l from to es past is fair ends) sent.0;
    }

-- the progress with one turn more, by a node at a known point
turn-made : {M S : Type 0} (note : M → Note) (step : S → Input M → Deed M S) (c : Course) (count : ℕ) (first : ℕ → S) (b n : ℕ) (old : Ring M S) (st : Progress note step c count first b n old)
    (past : Past S) → IsCourse c → b ≤ most_beats → n < count → past ≡ after_all note step (st.events n) (opening_of c n (first n))
    → AreFair note step c.plan.params n (beat_events note step (stamp_in c n b) (brought_to c b n old) past) past
    → (scene : Scene M S) → scene ≡ turn note step (stamp_in c n b) (in_links_of (links_of c.plan.params) n) (record { past = past; channels = old.channels })
    → Progress note step c count first b (suc n) (with_node old n scene.past.state scene.past.life scene.past.journal scene.channels)
turn-made {M} {S} note step c count first b n old st past course early below is fair scene turned =
    let p = c.plan.params in
    let stamp = stamp_in c n b in
    let links = in_links_of (links_of p) n in
    let letters = collected b links old.channels in
    let es = beat_events note step stamp letters past in
    let timeline_b = subst (λ q. IsTimeline (stamp_in c n) p n (lifetime_of c n) q (st.events n)) (next-here b n) (st.timeline n below) in
    let stood : StandsAs (lifetime_of c n) past.life b = subst (λ (q : Past S). StandsAs (lifetime_of c n) q.life b) (sym is)
    (stands note step (stamp_in c n) (first n) (lifetime_of c n) b (st.events n) p n timeline_b) in
    let lead : AllByRecursion (λ (x : Letter M). IsInLink p n x.link.0) letters = collected-link (λ k. IsInLink p n k.0) b links old.channels (links_into-lead p n (link_count (links_of p))) in
    let dated = all-weaker (λ (e : NodeEvent M). stamp_at e ≡ stamp) (λ e. (stamp_at e).beat ≡ b) es (λ e q. ap (λ (s : Stamp). s.beat) q) (beat-stamped note step stamp letters past) in
    let new = with_node old n scene.past.state scene.past.life scene.past.journal scene.channels in
    let now : scene.past ≡ after_all note step es past = ap (λ (q : Scene M S). q.past) turned ∙ turn-past note step stamp links (record { past = past; channels = old.channels }) in
    let was = st.here n below in
    let after_n : scene.past ≡ after_all note step (st.events n ++ more n es n) (opening_of c n (first n)) =
    now ∙ ap (after_all note step es) is ∙ sym (after_all-append note step (st.events n) es (opening_of c n (first n)))
    ∙ ap (λ q. after_all note step (st.events n ++ q) (opening_of c n (first n))) (sym (more-here n es n refl)) in
    let here_n : IsAt new n (after_all note step (st.events n ++ more n es n) (opening_of c n (first n))) =
    subst (λ (q : Past S). IsAt new n q) after_n (record {
      state = get-set_same old.nodes n scene.past.state _ was.state;
      life = get-set_same old.lives n scene.past.life _ was.life;
      journal = get-set_same old.journals n scene.past.journal _ was.journal;
    }) in
    let fair_n : AreFair note step p n (st.events n ++ more n es n) (opening_of c n (first n)) =
    subst (λ q. AreFair note step p n (st.events n ++ q) (opening_of c n (first n))) (sym (more-here n es n refl))
    (fair-append note step p n (st.events n) es (opening_of c n (first n)) (st.fair n below) (subst (λ q. AreFair note step p n es q) is fair)) in
    let whole_n : AreWhole note step (st.events n ++ more n es n) (opening_of c n (first n)) =
    subst (λ q. AreWhole note step (st.events n ++ q) (opening_of c n (first n))) (sym (more-here n es n refl))
    (whole-append note step (st.events n) es (opening_of c n (first n)) (st.whole n below) (subst (AreWhole note step es) is (beat-is_whole note step stamp letters past))) in
    let timeline_n : IsTimeline (stamp_in c n) p n (lifetime_of c n) (next_of b (suc n) n) (st.events n ++ more n es n) =
    subst (λ q. IsTimeline (stamp_in c n) p n (lifetime_of c n) (next_of b (suc n) n) (st.events n ++ q)) (sym (more-here n es n refl))
    (subst (λ q. IsTimeline (stamp_in c n) p n (lifetime_of c n) q (st.events n ++ es)) (sym (next-then b n))
    (beat-lives note step (stamp_in c n) p n (death_of c n) (cut_of c n) (back_of c n) (course.returns_later n) (λ k. refl) b letters past lead
    (collected-rises b links old.channels (into-rises (links_of p) n (link_count (links_of p)))) stood (st.events n) timeline_b)) in
    record {
      events = λ k. st.events k ++ more n es k;
      size = length-set_at old.journals n scene.past.journal ∙ st.size;
      here = λ k low. ⊎_elim
          (λ (same : k ≡ n). subst (λ j. IsAt new j (after_all note step (st.events j ++ more n es j) (opening_of c j (first j)))) (sym same) here_n)
          (λ (other : k ≢ n). subst (λ q. IsAt new k (after_all note step q (opening_of c k (first k)))) (with-more n es (st.events k) k other)
          (elsewhere old n k scene.past.state scene.past.life scene.past.journal scene.channels (after_all note step (st.events k) (opening_of c k (first k))) other (st.here k low)))
          (cases_eq k n);
      fair = λ k low. ⊎_elim
          (λ (same : k ≡ n). subst (λ j. AreFair note step p j (st.events j ++ more n es j) (opening_of c j (first j))) (sym same) fair_n)
          (λ (other : k ≢ n). subst (λ q. AreFair note step p k q (opening_of c k (first k))) (with-more n es (st.events k) k other) (st.fair k low))
          (cases_eq k n);
      whole = λ k low. ⊎_elim
          (λ (same : k ≡ n). subst (λ j. AreWhole note step (st.events j ++ more n es j) (opening_of c j (first j))) (sym same) whole_n)
          (λ (other : k ≢ n). subst (λ q. AreWhole note step q (opening_of c k (first k))) (with-more n es (st.events k) k other) (st.whole k low))
          (cases_eq k n);
      timeline = λ k low. ⊎_elim
          (λ (same : k ≡ n). subst (λ j. IsTimeline (stamp_in c j) p j (lifetime_of c j) (next_of b (suc n) j) (st.events j ++ more n es j)) (sym same) timeline_n)
          (λ (other : k ≢ n). subst (λ q. IsTimeline (stamp_in c k) p k (lifetime_of c k) (next_of b (suc n) k) q) (with-more n es (st.events k) k other)
          (subst (λ q. IsTimeline (stamp_in c k) p k (lifetime_of c k) q (st.events k)) (sym (next-other b n k other)) (st.timeline k low)))
          (cases_eq k n);
      links = λ l from to low_from low_to ends.
          subst (λ (q : Scene M S). OnChannel note step c first (λ k. st.events k ++ more n es k) b (suc n) l from to q.channels) (sym turned)
          (link-turn note step c first st.events b n l from to past old.channels early course stood is (st.timeline to low_to) dated fair ends (st.links l from to low_from low_to ends));
    }

pub same-past : {M S : Type 0} (r : Ring M S) (n : ℕ) (x y : Past S) → IsAt r n x → IsAt r n y → x ≡ y
same-past {M} {S} r n x y h g =
    let es : x.state ≡ y.state = same-element r.nodes n x.state y.state h.state g.state in
    let el : x.life ≡ y.life = same-element r.lives n x.life y.life h.life g.life in
    let ej : x.journal ≡ y.journal = same-element r.journals n x.journal y.journal h.journal g.journal in
    let all : ◌≡◌ {A = Past S} (record { state = x.state; life = x.life; journal = x.journal }) (record { state = y.state; life = y.life; journal = y.journal }) = rw (es, el, ej) refl in
    all

-- and by a turn of the run
progress-turn : {M S : Type 0} (note : M → Note) (step : S → Input M → Deed M S) (c : Course) (count : ℕ) (first : ℕ → S) (b n : ℕ) (old new : Ring M S)
    → IsCourse c → b ≤ most_beats → n < count → HasTurn note step c b n old new → Progress note step c count first b n old → Progress note step c count first b (suc n) new
progress-turn {M} {S} note step c count first b n old new course early below h st =
    subst (λ q. Progress note step c count first b (suc n) q) (sym h.after)
    (turn-made note step c count first b n old st h.past course early below (same-past old n h.past _ h.here (st.here n below)) h.fair h.scene h.turned)

progress-turns : {M S : Type 0} (note : M → Note) (step : S → Input M → Deed M S) (c : Course) (count : ℕ) (first : ℕ → S) (b n : ℕ) (old new : Ring M S)
    → IsCourse c → b ≤ most_beats → n ≤ count → HaveTurns note step c b n old new → Progress note step c count first b 0 old → Progress note step c count first b n new
progress-turns note step c count first b zero old new course early low h st = subst (λ q. Progress note step c count first b 0 q) (sym h) st
progress-turns note step c count first b (suc n) old new course early low h st =
    progress-turn note step c count first b n h.0 new course early (omega (arith, low)) h.2 (progress-turns note step c count first b n old h.0 course early (omega (arith, low)) h.1 st)

-- the next beat
next-beat : (b count k : ℕ) → k < count → next_of b count k ≡ next_of (suc b) 0 k
next-beat b count k h =
    let e : nat_lt k count ≡ true = grind (arith, nat_tests, h) in
    let f : nat_lt k 0 ≡ false = grind (arith, nat_tests) in
    let g : b + 1 ≡ suc b = add-one b in
    rw (e, f) g

progress-later : {M S : Type 0} (note : M → Note) (step : S → Input M → Deed M S) (c : Course) (count : ℕ) (first : ℕ → S) (b : ℕ) (r : Ring M S)
    → Progress note step c count first b count r → Progress note step c count first (suc b) 0 r
progress-later note step c count first b r st = record {
  events = st.events;
  size = st.size;
  here = st.here;
  fair = st.fair;
  whole = st.whole;
  timeline = λ k low. subst (λ q. IsTimeline (stamp_in c k) c.plan.params k (lifetime_of c k) q (st.events k)) (next-beat b count k low) (st.timeline k low);
  links = λ l from to low_from low_to ends.
      let on = st.links l from to low_from low_to ends in
      let calm = on.calm in
      record {
        traffic = on.traffic;
        here = on.here;
        calm = omega (arith, calm);
        account = subst (λ q. OnLink (lifetime_of c to) (HasCutIn l (st.events to)) c.plan.params.delay (new_clock l c.delay c.plan.params.delay)
            (sends_along note step l (st.events from) (opening_of c from (first from))) (takes_along l (st.events to)) on.traffic.clock (map pass on.traffic.flights) q)
            (next-beat b count to low_to) on.account;
      };
}

progress-beats : {M S : Type 0} (note : M → Note) (step : S → Input M → Deed M S) (c : Course) (count : ℕ) (first : ℕ → S) (b : ℕ) (old new : Ring M S)
    → IsCourse c → b ≤ most_beats → HavePassed note step c count b old new → Progress note step c count first 0 0 old → Progress note step c count first b 0 new
progress-beats note step c count first zero old new course early h st = subst (λ q. Progress note step c count first 0 0 q) (sym h) st
progress-beats note step c count first (suc b) old new course early h st =
    progress-later note step c count first b new
    (progress-turns note step c count first b count h.0 new course (omega (arith, early)) (omega arith) h.2 (progress-beats note step c count first b old h.0 course (omega (arith, early)) h.1 st))

-- before the first beat
progress-opens : {M S : Type 0} (note : M → Note) (step : S → Input M → Deed M S) (c : Course) (given : List S) (first : ℕ → S)
    → IsCourse c → ((k : ℕ) → k < length given → slice_get given k ≡ Some (first k))
    → Progress note step c (length given) first 0 0 (opening_ring c given)
progress-opens {M} {S} note step c given first course all =
    let p = c.plan.params in
    let delay = c.plan.sound.ranges.delay in
    record {
      events = λ k. [];
      size = length-each_below (λ _. []) (length given);
      here = λ k low. record {
        state = all k low;
        life = get-each_below (lifetime_of c) (length given) k low;
        journal = get-each_below (λ _. []) (length given) k low;
      };
      fair = λ k low. tt;
      whole = λ k low. tt;
      timeline = λ k low. subst (λ q. IsTimeline {M = M} (stamp_in c k) p k (lifetime_of c k) q []) (sym (next-none 0 k)) (timeline-opens (stamp_in c k) p k (lifetime_of c k));
      links = λ l from to low_from low_to ends. record {
        traffic = new_channel c l;
        here = get-each_below (new_channel c) (link_count (links_of p)) l (ends_counted (links_of p) l (from, to) ends);
        calm = omega arith;
        account = subst (λ q. OnLink {X = M} (lifetime_of c to) (HasCutIn {M = M} l []) p.delay (new_clock l c.delay p.delay) [] [] (new_clock l c.delay p.delay) [] q) (sym (next-none 0 to)) (link-opens (lifetime_of c to) (HasCutIn {M = M} l []) (new_clock l c.delay p.delay) (IsClock-new_clock l c.delay p.delay delay.0 delay.1 course.delay));
      };
    }

-- at the end of a whole run
pub progress-ends : {M S : Type 0} (note : M → Note) (step : S → Input M → Deed M S) (c : Course) (given nodes : List S) (journals : List (List Entry)) (first : ℕ → S)
    → IsCourse c → ((k : ℕ) → k < length given → slice_get given k ≡ Some (first k))
    → (whole : IsWholeRun {M = M} note step c given nodes journals)
    → Progress note step c (length given) first c.beats 0 whole.last
progress-ends note step c given nodes journals first course all whole =
    progress-beats note step c (length given) first c.beats (opening_ring c given) whole.last course course.beats whole.passed
    (progress-opens note step c given first course all)
