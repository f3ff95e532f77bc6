-- Shares that hold each node of a run once: at the end they are the whole run.
use Rattle.std.proofs.Common.{◌≡◌, ◌≢◌, ℕ, zero, suc, ◌+◌, ◌<◌, ◌≤◌, List, [], ◌∷◌, ◌++◌, map, length, Bool, true, false, Option, Some, None, refl, ap, sym, ◌∙◌, subst, arith, cond, ⊎_elim, append-nil}
use Rattle.std.specs.Prelude.{slice_get, nat_lt, ◌==◌, ◌&&◌, ◌⊎◌}
use Rattle.std.proofs.lemmas.Bool.{cases_Bool, cases_eq, eq-eqb, ne_eqb, eqb-true}
use Rattle.std.proofs.lemmas.Bool.Decides.{nat_tests}
use Rattle.std.proofs.lemmas.Option.{none-some}
use Rattle.tiger_base.specs.declared.number.LinkNo.{LinkNo}
use Rattle.tiger_base.specs.declared.number.NodeNo.{NodeNo}
use Rattle.tiger_base.specs.declared.message.Note.{Note}
use Rattle.slot_plan.specs.declared.params.Params.{Params}
use Rattle.link_timing.specs.Clock.{new_clock}
use Rattle.node_kit.specs.declared.course.Course.{Course}
use Rattle.node_kit.specs.declared.journal.Entry.{Entry}
use Rattle.node_kit.specs.Courses.{IsCourse, stamp_in}
use Rattle.node_kit.specs.Life.{lifetime_of}
use Rattle.node_kit.specs.Links.{links_of, ends_of, link_count, viewers_of}
use Rattle.node_kit.specs.Rows.{each_below}
use Rattle.node_kit.specs.Steps.{Input, Deed}
use Rattle.node_kit.proofs.Ring.{ends_counted, from_counted, to_counted}
use Rattle.node_kit.proofs.Rows.{get-each_below}
use Rattle.node_kit.proofs.Ways.{links_sound}
use Rattle.run_facts.specs.declared.mail.Flight.{Flight}
use Rattle.run_facts.specs.Accounts.{AreWhole, HasCutIn, IsTimeline, OnLink}
use Rattle.run_facts.specs.Beats.{opening_of, pass}
use Rattle.run_facts.specs.Events.{NodeEvent, Past, after_all, AreFair, sends_along, takes_along}
use Rattle.run_facts.specs.Rings.{Traffic, Ring, IsAt}
use Rattle.run_facts.proofs.Progress.{next-none}
use Rattle.run_facts.proofs.Rows.{same-element}
use Rattle.run_lives.proofs.Progress.{Progress}
use Rattle.ring_links.specs.Ends.{LineId}
use Rattle.ring_links.specs.Flights.{IsFront, IsOrdered}
use Rattle.ring_cells.specs.Kept.{IsInflow, IsOutflow}
use Rattle.ring_cells.proofs.Accounts.{traffic_of, link-meets}
use Rattle.ring_cells.specs.Cells.{Seen, ring_in, IsShareOf, IsMembership}
use Rattle.ring_cells.specs.Meets.{HaveFinished, HasFinished, IsOfMember, IsInPort, IsOutPort, HasMet, HaveMet}
use Rattle.ring_cells.specs.Shares.{Entrance, Exit, inflow_of, outflow_of, holds, come_to, IsShare, IsFitted}
use Rattle.ring_cells.proofs.Rows.{held-at, both-true, come-none}
use Rattle.ring_cells.proofs.Turning.{same-ends}
use Rattle.ring_cells.proofs.Wired.{exit-is, entrance-is}
use Rattle.ring_cells.proofs.Working.{share-at}

-- the same share, if its members began so
share-first : {M S : Type 0} (note : M → Note) (step : S → Input M → Deed M S) (c : Course) (f g : ℕ → S) (line_of : ℕ → LineId) (numbers : List NodeNo) (b : ℕ) (at : ℕ → ℕ)
    (events : ℕ → List (NodeEvent M)) (ring : Ring M S) (ins : List (Entrance M)) (outs : List (List (Exit M)))
    → ((k : ℕ) → holds numbers k ≡ true → f k ≡ g k)
    → IsShare note step c f line_of numbers b at events ring ins outs → IsShare note step c g line_of numbers b at events ring ins outs
share-first note step c f g line_of numbers b at events ring ins outs same st = record {
  here = λ q n seat. subst (λ x. IsAt ring q (after_all note step (events n.0) (opening_of c n.0 x))) (same n.0 (held-at numbers q n seat)) (st.here q n seat);
  soon = st.soon;
  fair = λ k held. subst (λ x. AreFair note step c.plan.params k (events k) (opening_of c k x)) (same k held) (st.fair k held);
  whole = λ k held. subst (λ x. AreWhole note step (events k) (opening_of c k x)) (same k held) (st.whole k held);
  timeline = st.timeline;
  inner = λ l from to inside inside' ends.
      let w = st.inner l from to inside inside' ends in
      record {
        traffic = w.traffic;
        here = w.here;
        calm = w.calm;
        account = subst (λ x. OnLink (lifetime_of c to) (HasCutIn l (events to)) c.plan.params.delay (new_clock l c.delay c.plan.params.delay)
            (sends_along note step l (events from) (opening_of c from x)) (takes_along l (events to)) w.traffic.clock (map pass w.traffic.flights) (at to)) (same from inside) w.account;
      };
  into = st.into;
  out_of = λ l from to inside out ends.
      let w = st.out_of l from to inside out ends in
      record {
        member = w.member;
        is_from = w.is_from;
        row = w.row;
        its_row = w.its_row;
        place = w.place;
        port = w.port;
        there = w.there;
        number = w.number;
        traffic = w.traffic;
        here = w.here;
        all_out = w.all_out;
        flow = subst (λ x. IsOutflow line_of note step c from x (at from) (events from) (outflow_of w.port w.traffic)) (same from inside) w.flow;
      };
}

-- one choice for each element of a list, and for each number below one
abbrev first-then : {B : Type 0} → B → (ℕ → B) → ℕ → B
first-then b f zero = b
first-then b f (suc i) = f i

chosen-at : {A B : Type 0} (none : B) (xs : List A) (P : ℕ → A → B → Type 0) → ((i : ℕ) (x : A) → slice_get xs i ≡ Some x → (b : B) × P i x b)
    → (f : ℕ → B) × ((i : ℕ) (x : A) → slice_get xs i ≡ Some x → P i x (f i))
chosen-at none [] P h = ((λ i. none), λ i x e. absurd (none-some x e))
chosen-at {A} {B} none (y ∷ ys) P h =
    let head = h 0 y refl in
    let tail = chosen-at none ys (λ i. P (suc i)) (λ i x e. h (suc i) x e) in
    (first-then head.0 tail.0, each head tail)
  where
    each : (head : (b : B) × P 0 y b) (tail : (f : ℕ → B) × ((i : ℕ) (x : A) → slice_get ys i ≡ Some x → P (suc i) x (f i)))
        → (i : ℕ) (x : A) → slice_get (y ∷ ys) i ≡ Some x → P i x (first-then head.0 tail.0 i)
    each head tail zero x e = subst (λ z. P 0 z head.0) (let same : y ≡ x = cc in same) head.1
    each head tail (suc i) x e = tail.1 i x e

chosen-below : {B : Type 0} (none : B) (P : ℕ → B → Type 0) (n : ℕ) → ((l : ℕ) → l < n → (b : B) × P l b) → (f : ℕ → B) × ((l : ℕ) → l < n → P l (f l))
chosen-below none P zero h = ((λ l. none), λ l low. absurd (omega (arith, low)))
chosen-below {B} none P (suc n) h =
    let last = h n (omega arith) in
    let rest = chosen-below none P n (λ l low. h l (omega (arith, low))) in (
      (λ l. cond (l == n) last.0 (rest.0 l)),
      λ l low. ⊎_elim
          (λ (same : l ≡ n). subst (λ (t : Bool). P l (cond t last.0 (rest.0 l))) (sym (eq-eqb l n same)) (subst (λ x. P x last.0) (sym same) last.1))
          (λ (other : l ≢ n). subst (λ (t : Bool). P l (cond t last.0 (rest.0 l))) (sym (ne_eqb l n other)) (rest.1 l (omega (arith, low, other))))
          (cases_eq l n),
    )

module _ {M S : Type 0} (note : M → Note) (step : S → Input M → Deed M S) (stands : S → Params → ℕ → Type 0) (c : Course) (courses : List Course) (named : courses ≡ c ∷ [])
    (opened : List S) (line_of : ℕ → LineId) (home : ℕ → ℕ) (first : ℕ → S) (count : ℕ) (size : count ≡ viewers_of (links_of c.plan.params) + 1)
    (opens : (k : ℕ) → k < count → slice_get opened k ≡ Some (first k)) where
  -- a share at the end
  record Ended (i : ℕ) (s : Seen M S) (events : ℕ → List (NodeEvent M)) : Type 0 where
    theirs : (k : ℕ) → holds s.numbers k ≡ (nat_lt k (viewers_of (links_of c.plan.params) + 1) && (home k == i))
    seated : IsFitted c.plan.params s.numbers s.ins s.outs
    share : IsShare note step c first line_of s.numbers c.beats (λ k. c.beats) events (ring_in s) s.ins s.outs

  held-home : (i k : ℕ) (s : Seen M S) (events : ℕ → List (NodeEvent M)) → Ended i s events → holds s.numbers k ≡ true → (k < count) × (home k ≡ i)
  held-home i k s events h held =
      let both = both-true (nat_lt k (viewers_of (links_of c.plan.params) + 1)) (home k == i) (sym (h.theirs k) ∙ held) in
      let low : k < viewers_of (links_of c.plan.params) + 1 = (let t = both.0 in grind (arith, nat_tests, t)) in
      (omega (arith, low, size), eqb-true (home k) i both.1)

  home-held : (i k : ℕ) (s : Seen M S) (events : ℕ → List (NodeEvent M)) → Ended i s events → k < count → home k ≡ i → holds s.numbers k ≡ true
  home-held i k s events h low same =
      let t : nat_lt k (viewers_of (links_of c.plan.params) + 1) ≡ true = grind (arith, nat_tests, low, size) in
      h.theirs k ∙ ap (λ x. x && (home k == i)) t ∙ eq-eqb (home k) i same

  home-other : (i k : ℕ) (s : Seen M S) (events : ℕ → List (NodeEvent M)) → Ended i s events → home k ≢ i → holds s.numbers k ≡ false
  home-other i k s events h other = ⊎_elim
      (λ (t : holds s.numbers k ≡ true). absurd (other (held-home i k s events h t).1))
      (λ (f : holds s.numbers k ≡ false). f)
      (cases_Bool (holds s.numbers k))

  ended-in : (i : ℕ) (s : Seen M S) → HasFinished note step stands courses opened line_of home i s → (e : ℕ → List (NodeEvent M)) × Ended i s e
  ended-in i s h =
      let k = h.kept in
      let w = k.work in
      let same : w.course ≡ c = same-element (w.course ∷ []) 0 w.course c refl (ap (λ (cs : List Course). slice_get cs 0) (sym w.named ∙ named)) in
      let done = h.done in
      let within = k.within in
      let length_is = k.length_is in
      let end : s.next ≡ w.course.beats = omega (arith, done, within, length_is) in
      let at_end : IsShare note step w.course w.first line_of s.numbers w.course.beats (λ x. w.course.beats) w.events (ring_in s) s.ins s.outs =
      share-at note step w.course w.first line_of s.numbers s.next w.course.beats (come_to s.numbers s.next 0) (λ x. w.course.beats) w.events (ring_in s) s.ins s.outs
      (λ x held. come-none s.numbers s.next x ∙ end)
      (λ x held. let e = come-none s.numbers s.next x in (omega (arith, e, end), omega (arith, e, end))) (omega (arith, end)) w.share in
      let firsts_are : ((x : ℕ) → holds s.numbers x ≡ true → w.first x ≡ first x) = λ x held.
      (let t = both-true (nat_lt x (viewers_of (links_of w.course.plan.params) + 1)) (home x == s.number) (sym (k.membership.theirs x) ∙ held) in
      let low : x < viewers_of (links_of w.course.plan.params) + 1 = (let u = t.0 in grind (arith, nat_tests, u)) in
      let many = ap (λ (d : Course). viewers_of (links_of d.plan.params)) same in
      same-element opened x (w.first x) (first x) (w.opens x held) (opens x (omega (arith, low, many, size)))) in
      let begun = share-first note step w.course w.first first line_of s.numbers w.course.beats (λ x. w.course.beats) w.events (ring_in s) s.ins s.outs firsts_are at_end in (
        w.events,
        record {
          theirs = λ x. k.membership.theirs x ∙ ap (λ (d : Course). nat_lt x (viewers_of (links_of d.plan.params) + 1) && (home x == s.number)) same
              ∙ ap (λ n. nat_lt x (viewers_of (links_of c.plan.params) + 1) && (home x == n)) h.its_number;
          seated = subst (λ (d : Course). IsFitted d.plan.params s.numbers s.ins s.outs) same w.seated;
          share = subst (λ (d : Course). IsShare note step d first line_of s.numbers d.beats (λ x. d.beats) w.events (ring_in s) s.ins s.outs) same begun;
        },
      )

  module _ (shares : List (Seen M S)) (ev : ℕ → ℕ → List (NodeEvent M)) (all : (i : ℕ) (s : Seen M S) → slice_get shares i ≡ Some s → Ended i s (ev i)) where
    -- the events of a node
    abbrev events_of : ℕ → List (NodeEvent M)
    events_of k = ev (home k) k

    -- who is a member of a share is so of that which is its home
    member-at : (k i : ℕ) (s : Seen M S) → slice_get shares i ≡ Some s → holds s.numbers k ≡ true → slice_get shares (home k) ≡ Some s
    member-at k i s there held = ap (slice_get shares) (held-home i k s (ev i) (all i s there) held).1 ∙ there

    -- what a member has, of its events
    record IsKnown (k : ℕ) (s : Seen M S) (place : ℕ) : Type 0 where
      at : IsAt (ring_in s) place (after_all note step (events_of k) (opening_of c k (first k)))
      fair : AreFair note step c.plan.params k (events_of k) (opening_of c k (first k))
      whole : AreWhole note step (events_of k) (opening_of c k (first k))
      timeline : IsTimeline (stamp_in c k) c.plan.params k (lifetime_of c k) c.beats (events_of k)

    known-at : (k i : ℕ) (s : Seen M S) (place : ℕ) → slice_get shares i ≡ Some s → slice_get s.numbers place ≡ Some (record { 0 = k }) → IsKnown k s place
    known-at k i s place there seat =
        let held = held-at s.numbers place (record { 0 = k }) seat in
        let e = all (home k) s (member-at k i s there held) in
        record { at = e.share.here place (record { 0 = k }) seat; fair = e.share.fair k held; whole = e.share.whole k held; timeline = e.share.timeline k held }

    -- the account of a link at the end
    record HasAccount (l from to : ℕ) (t : Traffic M) : Type 0 where
      calm : t.clock.last_send ≤ c.beats
      account : OnLink (lifetime_of c to) (HasCutIn l (events_of to)) c.plan.params.delay (new_clock l c.delay c.plan.params.delay)
          (sends_along note step l (events_of from) (opening_of c from (first from))) (takes_along l (events_of to)) t.clock (map pass t.flights) c.beats

    -- of one within a share
    account-within : (l from to : ℕ) → ends_of (links_of c.plan.params) l ≡ Some (from, to) → from < count → to < count → (s : Seen M S) → slice_get shares (home from) ≡ Some s
        → home from ≡ home to → (t : Traffic M) × HasAccount l from to t
    account-within l from to ends low_from low_to s there same =
        let e = all (home from) s there in
        let w = e.share.inner l from to (home-held (home from) from s (ev (home from)) e low_from refl) (home-held (home from) to s (ev (home from)) e low_to (sym same)) ends in (
          w.traffic,
          record {
            calm = w.calm;
            account = subst (λ i. OnLink (lifetime_of c to) (HasCutIn l (ev i to)) c.plan.params.delay (new_clock l c.delay c.plan.params.delay)
                (sends_along note step l (events_of from) (opening_of c from (first from))) (takes_along l (ev i to)) w.traffic.clock (map pass w.traffic.flights) c.beats) same w.account;
          },
        )

    -- of one from one share to another
    account-between : (l from to : ℕ) → ends_of (links_of c.plan.params) l ≡ Some (from, to) → from < count → to < count → home from ≢ home to → HasMet shares l → (t : Traffic M) × HasAccount l from to t
    account-between l from to ends low_from low_to apart met =
        let o = met.is_out in
        let i = met.is_into in
        let eo = all o.share o.seen o.there in
        let ei = all i.share i.seen i.there in
        let lo = eo.seated.outs_lead o.member o.place o.row met.out o.its_row o.here in
        let li = ei.seated.ins_lead i.place met.into i.here in
        let out_ends = same-ends (ends_of (links_of c.plan.params) l) lo.0.0 lo.2.to from to (ap (ends_of (links_of c.plan.params)) (sym o.number) ∙ lo.2.ends) ends in
        let in_ends = same-ends (ends_of (links_of c.plan.params) l) li.from li.to from to (ap (ends_of (links_of c.plan.params)) (sym i.number) ∙ li.ends) ends in
        let from_held : holds o.seen.numbers from ≡ true = subst (λ k. holds o.seen.numbers k ≡ true) out_ends.0 (held-at o.seen.numbers o.member lo.0 lo.1) in
        let to_held : holds i.seen.numbers to ≡ true = subst (λ k. holds i.seen.numbers k ≡ true) in_ends.1 li.inside in
        let from_there = member-at from o.share o.seen o.there from_held in
        let to_there = member-at to i.share i.seen i.there to_held in
        let sender = all (home from) o.seen from_there in
        let receiver = all (home to) i.seen to_there in
        let out = sender.share.out_of l from to (home-held (home from) from o.seen (ev (home from)) sender low_from refl) (home-other (home from) to o.seen (ev (home from)) sender (λ e. apart (sym e))) ends in
        let into = receiver.share.into l from to (home-other (home to) from i.seen (ev (home to)) receiver apart) (home-held (home to) to i.seen (ev (home to)) receiver low_to refl) ends in
        let out_port : out.port ≡ met.out = exit-is line_of note step c first o.seen.numbers (λ k. c.beats) (ev (home from)) o.seen.channels o.seen.ins o.seen.outs l from sender.seated out
        o.member o.place lo.0 o.row met.out lo.1 out_ends.0 o.its_row o.here o.number in
        let in_port : into.port ≡ met.into = entrance-is line_of c (λ k. c.beats) (ev (home to)) i.seen.channels i.seen.numbers i.seen.ins i.seen.outs l to receiver.seated into i.place met.into i.here i.number in
        let sent : IsOutflow line_of note step c from (first from) c.beats (events_of from) (outflow_of met.out out.traffic) =
        subst (λ (x : Exit M). IsOutflow line_of note step c from (first from) c.beats (events_of from) (outflow_of x out.traffic)) out_port out.flow in
        let received : IsInflow line_of (lifetime_of c to) c.beats (events_of to) (inflow_of met.into into.traffic) =
        subst (λ (x : Entrance M). IsInflow line_of (lifetime_of c to) c.beats (events_of to) (inflow_of x into.traffic)) in_port into.flow in
        let all_out : met.out.flights ≡ met.out.flights ++ out.traffic.flights = sym (append-nil met.out.flights) ∙ ap (λ fs. met.out.flights ++ fs) (sym out.all_out) in
        let front : IsFront met.into.closed met.into.flights (met.out.flights ++ out.traffic.flights) = subst (IsFront met.into.closed met.into.flights) all_out met.front in
        let ordered = subst IsOrdered all_out met.ordered in (
          traffic_of (inflow_of met.into into.traffic) (outflow_of met.out out.traffic) front,
          record {
            calm = sent.calm;
            account = link-meets line_of note step c from to l c.beats (first from) (events_of from) (events_of to) (inflow_of met.into into.traffic) (outflow_of met.out out.traffic) i.number o.number received sent front ordered;
          },
        )

    module _ (nodes : List S) (journals : List (List Entry)) (met : HaveMet c.plan.params home shares)
        (node_at : (k : ℕ) → k < count → (x : S) × (slice_get nodes k ≡ Some x) × IsOfMember (λ (s : Seen M S). s.nodes) shares k x)
        (journal_at : (k : ℕ) → k < count → (x : List Entry) × (slice_get journals k ≡ Some x) × IsOfMember (λ (s : Seen M S). s.journals) shares k x) (wrote : length journals ≡ count) where
      low-ends : (l from to : ℕ) → ends_of (links_of c.plan.params) l ≡ Some (from, to) → (from < count) × (to < count)
      low-ends l from to ends =
          let sound = links_sound c.plan.params c.plan.sound in
          let a = from_counted (links_of c.plan.params) from to l sound ends in
          let b = to_counted (links_of c.plan.params) from to l sound ends in
          (omega (arith, a, size), omega (arith, b, size))

      account-of : (l from to : ℕ) → ends_of (links_of c.plan.params) l ≡ Some (from, to) → (t : Traffic M) × HasAccount l from to t
      account-of l from to ends =
          let low = low-ends l from to ends in
          ⊎_elim
          (λ (same : home from ≡ home to).
          let w = (node_at from low.0).2 in
          let there = member-at from w.share w.seen w.there (held-at w.seen.numbers w.place (record { 0 = from }) w.seat) in
          account-within l from to ends low.0 low.1 w.seen there same)
          (λ (other : home from ≢ home to). account-between l from to ends low.0 low.1 other (met l from to ends other))
          (cases_eq (home from) (home to))

      traffic-at : (l : ℕ) (o : Option (ℕ × ℕ)) → ends_of (links_of c.plan.params) l ≡ o
          → (t : Traffic M) × ((from to : ℕ) → ends_of (links_of c.plan.params) l ≡ Some (from, to) → HasAccount l from to t)
      traffic-at l None e = ((record { clock = new_clock l c.delay c.plan.params.delay; flights = [] }), λ from to ends. absurd (none-some (from, to) (sym e ∙ ends)))
      traffic-at l (Some x) e =
          let a = account-of l x.0 x.1 e in (
            a.0,
            λ from to ends.
                let both = same-ends (ends_of (links_of c.plan.params) l) x.0 x.1 from to e ends in
                subst (λ y. HasAccount l y to a.0) both.0 (subst (λ y. HasAccount l x.0 y a.0) both.1 a.1),
          )

      abbrev chosen : (f : ℕ → Traffic M) × ((l : ℕ) → l < link_count (links_of c.plan.params)
          → (from to : ℕ) → ends_of (links_of c.plan.params) l ≡ Some (from, to) → HasAccount l from to (f l))
      chosen = chosen-below (record { clock = new_clock 0 c.delay c.plan.params.delay; flights = [] })
          (λ l t. (from to : ℕ) → ends_of (links_of c.plan.params) l ≡ Some (from, to) → HasAccount l from to t)
          (link_count (links_of c.plan.params)) (λ l low. traffic-at l (ends_of (links_of c.plan.params) l) refl)

      abbrev end_of : ℕ → Past S
      end_of k = after_all note step (events_of k) (opening_of c k (first k))

      -- the nodes and the links at the end
      abbrev end_ring : Ring M S
      end_ring = record {
        nodes = nodes;
        lives = each_below (λ k. (end_of k).life) count;
        journals = journals;
        channels = each_below chosen.0 (link_count (links_of c.plan.params));
      }

      state-at : (k : ℕ) → k < count → slice_get nodes k ≡ Some (end_of k).state
      state-at k low =
          let n = node_at k low in
          let w = n.2 in
          let known = known-at k w.share w.seen w.place w.there w.seat in
          n.1 ∙ ap Some (same-element w.seen.nodes w.place n.0 (end_of k).state w.here known.at.state)

      written-at : (k : ℕ) → k < count → slice_get journals k ≡ Some (end_of k).journal
      written-at k low =
          let n = journal_at k low in
          let w = n.2 in
          let known = known-at k w.share w.seen w.place w.there w.seat in
          n.1 ∙ ap Some (same-element w.seen.journals w.place n.0 (end_of k).journal w.here known.at.journal)

      end-progress : Progress note step c count first c.beats 0 end_ring
      end-progress = record {
        events = events_of;
        size = wrote;
        here = λ k low. record { state = state-at k low; life = get-each_below (λ j. (end_of j).life) count k low; journal = written-at k low };
        fair = λ k low. (let w = (node_at k low).2 in (known-at k w.share w.seen w.place w.there w.seat).fair);
        whole = λ k low. (let w = (node_at k low).2 in (known-at k w.share w.seen w.place w.there w.seat).whole);
        timeline = λ k low.
            let w = (node_at k low).2 in
            subst (λ x. IsTimeline (stamp_in c k) c.plan.params k (lifetime_of c k) x (events_of k)) (sym (next-none c.beats k)) (known-at k w.share w.seen w.place w.there w.seat).timeline;
        links = λ l from to low_from low_to ends.
            let counted = ends_counted (links_of c.plan.params) l (from, to) ends in
            let a = chosen.1 l counted from to ends in
            record {
              traffic = chosen.0 l;
              here = get-each_below chosen.0 (link_count (links_of c.plan.params)) l counted;
              calm = a.calm;
              account = subst (λ x. OnLink (lifetime_of c to) (HasCutIn l (events_of to)) c.plan.params.delay (new_clock l c.delay c.plan.params.delay)
                  (sends_along note step l (events_of from) (opening_of c from (first from))) (takes_along l (events_of to)) (chosen.0 l).clock (map pass (chosen.0 l).flights) x) (sym (next-none c.beats to)) a.account;
            };
      }

  -- shares that have come to their ends, and of which each link between two has met, are the run of all nodes
  pub shares-meet : (shares : List (Seen M S)) → HaveFinished note step stands courses opened line_of home shares → HaveMet c.plan.params home shares
      → (nodes : List S) (journals : List (List Entry)) → length journals ≡ count
      → ((k : ℕ) → k < count → (x : S) × (slice_get nodes k ≡ Some x) × IsOfMember (λ (s : Seen M S). s.nodes) shares k x)
      → ((k : ℕ) → k < count → (x : List Entry) × (slice_get journals k ≡ Some x) × IsOfMember (λ (s : Seen M S). s.journals) shares k x)
      → (r : Ring M S) × (r.nodes ≡ nodes) × (r.journals ≡ journals) × Progress note step c count first c.beats 0 r
  shares-meet shares come met nodes journals wrote node_at journal_at =
      let found = chosen-at {B = ℕ → List (NodeEvent M)} (λ k. []) shares (λ i s e. Ended i s e) (λ i s there. ended-in i s (come i s there)) in
      (end_ring shares found.0 found.1 nodes journals met node_at journal_at wrote, refl, refl, end-progress shares found.0 found.1 nodes journals met node_at journal_at wrote)
