-- Nodes of any lives of which the events and the links' accounts are known have a history, of which the record of a run
-- holds.
use Rattle.std.proofs.Common.{◌≡◌, ℕ, ◌+◌, ◌<◌, ◌≤◌, List, [], ◌∷◌, ◌++◌, filter, length, true, false}
use Rattle.std.proofs.Common.{Option, Some, None, refl, ap, sym, ◌∙◌, subst, arith, ⊎_elim, append_assoc}
use Rattle.std.specs.Prelude.{slice_get, nat_le}
use Rattle.std.specs.List.{AllByRecursion}
use Rattle.std.proofs.lemmas.Bool.{cases_lt, cases_eq}
use Rattle.tiger_base.specs.declared.number.Stamp.{Stamp}
use Rattle.tiger_base.specs.declared.number.LinkNo.{LinkNo}
use Rattle.link_timing.specs.Clock.{Clock}
use Rattle.node_kit.specs.Courses.{ReturnsLater}
use Rattle.node_kit.specs.Life.{Lifetime}
use Rattle.node_kit.specs.Links.{links_of, ends_of}
use Rattle.node_kit.specs.Steps.{IsAllowed}
use Rattle.node_kit.specs.Steps.Input.{Take}
use Rattle.run_facts.specs.Accounts.{open_after, IsLed, LivesBy, event_at}
use Rattle.run_facts.specs.Accounts.{front, HasCutIn, OnLink, IsTimely, history_of, input_in}
use Rattle.run_facts.specs.Events.{NodeEvent, Past, Dated, behind, opening, outs_of}
use Rattle.run_facts.specs.Events.{is_return, is_take_on, sends_along, takes_along}
use Rattle.run_facts.specs.Events.NodeEvent.{Returns}
use Rattle.run_facts.specs.Histories.{History, TakesAt, open_beat, place, sent, CameOn, IsRun}
use Rattle.run_facts.specs.Histories.{below}
use Rattle.run_facts.specs.Paced.{Passage, passages, is_heard, brought, AreGot}
use Rattle.run_facts.specs.Timed.{death_within}
use Rattle.run_facts.proofs.Fronts.{lived}
use Rattle.run_facts.proofs.Indexed.{past-front, passing, count-front, open-all, open-front, sent-all, all-at}
use Rattle.run_facts.proofs.Indexed.{fair-at, front-all, takes-counted, passage-at, sending-at, timely-at}
use Rattle.run_facts.proofs.Keeping.{take-input}
use Rattle.run_facts.proofs.Links.{link-ends}
use Rattle.run_facts.proofs.Recording.{place-takes}
use Rattle.run_facts.proofs.Rows.{all-right, all-given, all-weaker, filter-all}
use Rattle.run_facts.proofs.Timelines.{open-append, rising-counted}
use Rattle.run_lives.proofs.Halves.{TakesFront, IsNotFirst}
use Rattle.run_lives.proofs.Halves.{first-takes}
use Rattle.run_lives.proofs.Missing.{event-first, length-both}
use Rattle.run_lives.proofs.Numbers.{front-first, got-at, place-again, rest-at}
use Rattle.run_lives.proofs.Picking.{is_below}
use Rattle.run_lives.proofs.Returning.{HasReturned}
use Rattle.run_lives.proofs.Returning.{event-next, return-place, taken-first, taken-since}
use Rattle.run_lives.proofs.Sent.{rising-sends, IsParted, parted}
use Rattle.run_lives.proofs.Since.{second-takes}
use Rattle.run_lives.proofs.Standing.{within-of, behind-death}
use Rattle.run_lives.proofs.Counting.{taken-get, taken-or, get-behind, first-missed_of, alive-missed, returns-at}
use Rattle.run_lives.proofs.Counting.{led-by, above}
use Rattle.run_lives.proofs.Lasting.{Known, end-at, around, two, two-died, here, returned-by, ended, death-is, shown}
use Rattle.run_lives.proofs.Lasting.{rises, level, in-beat, dated}

module _ {M S : Type 0} (known : Known M S) where
  abbrev life : ℕ → Lifetime
  life n = lived (known.death n) (known.left n) (known.back n)

  abbrev h : History M S
  h = history_of known.first life known.lost known.events

  abbrev at : ℕ → ℕ → NodeEvent M
  at n i = event_at (known.events n) i

  abbrev again : ℕ → Option ℕ
  again n = death_within known.beats (known.back n)

  -- the way of a link to a node: what was sent on it, and what the node got of that
  record Way (l from n : ℕ) : Type 0 where
    from_low : from < known.nodes
    to_low : n < known.nodes
    ends : ends_of (links_of known.p) l ≡ Some (from, n)

  abbrev sends : ℕ → ℕ → List (Dated M)
  sends l from = sends_along known.note known.step l (known.events from) (opening (known.first from) (life from))

  abbrev flights : ℕ → ℕ → List (Passage M)
  flights l from = passages (known.start l) (sends l from)

  abbrev gets : ℕ → ℕ → List (Dated M)
  gets l n = takes_along l (known.events n)

  module _ (l from n : ℕ) (way : Way l from n) where
    abbrev link : (clock : Clock) × (under_way : List (Passage M))
        × OnLink (life n) (HasCutIn l (known.events n)) known.p.delay (known.start l) (sends l from)
        (gets l n) clock under_way known.beats
    link = known.accounts.links l from n way.from_low way.to_low way.ends

    got-of : AreGot (life n) (HasCutIn l (known.events n)) (filter (is_heard (life n) known.beats) (flights l from))
        (gets l n)
    got-of = link-ends (life n) (HasCutIn l (known.events n)) known.p.delay (known.start l) (sends l from)
        (gets l n) link.0 link.1 known.beats
        link.2

    abbrev NotFirst : Passage M → Type 0
    NotFirst f = IsNotFirst (known.death n) (known.left n) (known.back n) (known.later n) known.beats (HasCutIn l
        (known.events n)) f

    first-of : (w : Option ℕ) → again n ≡ w
        → TakesFront (flights l from) (filter (λ (d : Dated M). is_below w d.beat) (gets l n)) NotFirst
    first-of w there = subst (λ o. TakesFront (flights l from) (filter (λ (d : Dated M). is_below o d.beat) (gets l n))
        NotFirst) there
        (first-takes (known.death n) (known.left n) (known.back n) (known.later n) known.beats (HasCutIn l
        (known.events n)) (flights l from) link.2.rising
        (gets l n) got-of)

    -- a node that does not return gets a front of what is sent
    alone : again n ≡ None → TakesFront (flights l from) (gets l n) NotFirst
    alone there = subst (λ ds. TakesFront (flights l from) ds NotFirst)
        (filter-all (λ (d : Dated M). is_below None d.beat) (gets l n)
        (all-given (λ (d : Dated M). is_below None d.beat ≡ true) (gets l n) (λ d. refl)))
        (first-of None there)

    -- one that returns gets one in its first life, and from its return on one of what is sent from there on
    module _ (w : ℕ) (there : again n ≡ Some w) where
      abbrev its : HasReturned (known.when n) known.beats (two known n way.to_low w there).0 w (known.events n)
      its = (two known n way.to_low w there).1

      abbrev one : List (NodeEvent M)
      one = its.front ++ its.last ∷ []

      of-first : TakesFront (flights l from) (takes_along l one) NotFirst
      of-first = subst (λ ds. TakesFront (flights l from) ds NotFirst)
          (taken-first (known.when n) known.beats (two known n way.to_low w there).0 w (known.events n)
          (dated known n) its l)
          (first-of (Some w) there)

      parts : IsParted w (sends l from) (flights l from)
      parts = parted w (known.start l) (sends l from) (rising-sends known.note known.step l (known.events from)
          (opening (known.first from) (life from)) (rising-counted 0 (known.events from)
          (known.accounts.timeline from way.from_low).counted).1)

      since-by : (o r : Option ℕ) → ReturnsLater o r → r ≡ Some w
          → AreGot (lived o (known.left n) r) (HasCutIn l (known.events n))
          (filter (is_heard (lived o (known.left n) r) known.beats) (flights l from)) (gets l n)
          → TakesFront parts.rest (filter (λ (d : Dated M). nat_le w d.beat) (gets l n)) (λ f. known.beats ≤ f.arrival)
      since-by o None l is got = absurd (let q : None ≡ Some w = is in cc)
      since-by None (Some r) l is got = absurd l
      since-by (Some d) (Some r) lat is got =
          let one : Some r ≡ Some w = is in
          let same : r ≡ w = cc in
          let apart : d + 2 ≤ w = omega (arith, lat, same) in
          second-takes d (known.left n) w apart known.beats (HasCutIn l (known.events n)) (flights l from)
          (all-weaker (IsTimely known.p.delay) (λ (f : Passage M). f.sent < f.arrival) (flights l from) (λ f t. t.0)
          link.2.timely) link.2.rising parts.before parts.rest parts.all parts.low parts.high (gets l n)
          (subst (λ k. AreGot (lived (Some d) (known.left n) (Some k)) (HasCutIn l (known.events n))
          (filter (is_heard (lived (Some d) (known.left n) (Some k)) known.beats) (flights l from))
          (gets l n)) same got)

      of-second : TakesFront parts.rest (takes_along l its.rest) (λ f. known.beats ≤ f.arrival)
      of-second = subst (λ ds. TakesFront parts.rest ds (λ (f : Passage M). known.beats ≤ f.arrival))
          (taken-since (known.when n) known.beats (two known n way.to_low w there).0 w (known.events n)
          (dated known n) its l)
          (since-by (known.death n) (known.back n) (known.later n) (within-of known.beats w
          (known.back n) there).0 got-of)

      lost-is : known.lost l ≡ length parts.before
      lost-is = known.accounts.lost_is l from n w way.from_low way.to_low way.ends (within-of known.beats w
          (known.back n) there).0
          ∙ sym parts.count

    -- the number of a message that is taken before the return
    number-before : (i : ℕ) → i ≤ length (known.events n) → ((j : ℕ) → j < i → is_return (at n j) ≡ false)
        → place l h n i ≡ passing (is_take_on l) (front i (known.events n))
    number-before i hi up = place-takes l h n i up ∙ count-front
        (is_take_on l) known.first life known.lost known.events n i hi

    -- what was got as number k of the link was sent as that
    came-by : (k now : ℕ) (msg : M) (f : Passage M) → slice_get (flights l from) k ≡ Some f
        → brought f ≡ record { beat = now; item = msg } → (number : ℕ) → number ≡ k
        → CameOn known.note known.step known.p known.nodes h n l number now msg
    came-by k now msg f there is number same =
        let when_it : f.arrival ≡ now = ap (λ (d : Dated M). d.beat) is in
        let what_it : f.item ≡ msg = ap (λ (d : Dated M). d.item) is in
        let timely = timely-at known.p.delay (flights l from) k f link.2.timely there in
        let early = timely.0 in
        let late = timely.1 in
        record {
          from = from;
          known = way.from_low;
          ends = way.ends;
          when = f.sent;
          was_sent = ap (λ q. slice_get (sent known.note known.step l h from (length (known.events from))) q) same
              ∙ ap (λ q. slice_get q k) (sent-all known.note known.step l known.first life known.lost known.events from)
              ∙ passage-at (known.start l) (sends l from) k f there
              ∙ ap (λ q. Some (record { beat = f.sent; item = q })) what_it;
          later = omega (arith, early, when_it);
          soon = omega (arith, late, when_it);
        }

    -- a message that is taken, by its number
    module _ (i : ℕ) (stamp : Stamp) (via : LinkNo) (msg : M) (on : via.0 ≡ l) (hi : i < length (known.events n))
        (took : input_in (at n i) ≡ Some (Take stamp via msg)) where
      abbrev its_message : Dated M
      its_message = record { beat = stamp.beat; item = msg }

      came-alone : again n ≡ None → CameOn known.note known.step known.p known.nodes h n l
          (place l h n i) stamp.beat msg
      came-alone there =
          let k = passing (is_take_on l) (front i (known.events n)) in
          let f = taken-get (flights l from) (gets l n) NotFirst k its_message (alone there)
          (got-at l (known.events n) i stamp via msg hi on took) in
          came-by k stamp.beat msg f.0 f.1 f.2 (place l h n i)
          (number-before i (omega (arith, hi)) (λ j below. all-at (λ e. is_return e ≡ false) (known.events n) j
          (omega (arith, below, hi)) (here known n way.to_low there)))

      came-first : (w : ℕ) (there : again n ≡ Some w) → i < length (one w there)
          → CameOn known.note known.step known.p known.nodes h n l (place l h n i) stamp.beat msg
      came-first w there low =
          let es = one w there in
          let t = its w there in
          let more = Returns (known.when n w) ∷ t.rest in
          let k = passing (is_take_on l) (front i es) in
          let event_is : (j : ℕ) → j < length es → at n j ≡ event_at es j = λ j lj.
          ap (λ qs. event_at qs j) t.parts ∙ event-first es more j lj in
          let f = taken-get (flights l from) (takes_along l es) NotFirst k its_message (of-first w there)
          (got-at l es i stamp via msg low on (ap (λ e. input_in e) (sym (event_is i low)) ∙ took)) in
          let fronts : front i (known.events n) ≡ front i es = ap (front i) t.parts
          ∙ front-first es more i (omega (arith, low)) in
          came-by k stamp.beat msg f.0 f.1 f.2 (place l h n i)
          (number-before i (omega (arith, hi)) (λ j below.
          let lj : j < length es = omega (arith, below, low) in
          ap (λ e. is_return e) (event_is j lj) ∙ all-at (λ e. is_return e ≡ false) es j lj t.here_first)
          ∙ ap (passing (is_take_on l)) fronts)

      came-since : (w : ℕ) (there : again n ≡ Some w) (j : ℕ) → i ≡ length (one w there) + 1 + j
          → CameOn known.note known.step known.p known.nodes h n l (place l h n i) stamp.beat msg
      came-since w there j is =
          let es = one w there in
          let t = its w there in
          let k = passing (is_take_on l) (front j t.rest) in
          let both = ap length t.parts ∙ length-both es (Returns (known.when n w) ∷ t.rest) in
          let low : j < length t.rest = omega (arith, both, is, hi) in
          let event_is : at n i ≡ event_at t.rest j = ap (at n) is
          ∙ rest-at known.first life known.lost known.events n es t.rest (known.when n w) t.parts t.here_rest j in
          let f = taken-get (parts w there).rest (takes_along l t.rest) (λ f. known.beats ≤ f.arrival) k its_message
          (of-second w there)
          (got-at l t.rest j stamp via msg low on (ap (λ e. input_in e) (sym event_is) ∙ took)) in
          let before = (parts w there).before in
          let there_is : slice_get (flights l from) (length before + k) ≡ Some f.0 =
          ap (λ fs. slice_get fs (length before + k)) (parts w there).all
          ∙ get-behind before (parts w there).rest k ∙ f.1 in
          let number = ap (place l h n) is
          ∙ place-again known.first life known.lost known.events n es t.rest (known.when n w) t.parts t.here_rest l j
          (omega (arith, low)) in
          let same = lost-is w there in
          came-by (length before + k) stamp.beat msg f.0 there_is f.2 (place l h n i) (omega (arith, number, same))

      came-back : (w : ℕ) (there : again n ≡ Some w) → CameOn known.note known.step known.p known.nodes h n l
          (place l h n i) stamp.beat msg
      came-back w there = ⊎_elim
          (λ (low : i < length (one w there)). came-first w there low)
          (λ (high : length (one w there) ≤ i). ⊎_elim
          (λ (same : i ≡ length (one w there)).
          let t = its w there in
          let is : at n i ≡ Returns (known.when n w) = ap (at n) same ∙ ap (λ es. event_at es (length
          (one w there))) t.parts
          ∙ event-next (one w there) t.rest (Returns (known.when n w)) in
          let none : None ≡ Some (Take stamp via msg) = sym (ap (λ e. input_in e) is) ∙ took in absurd (cc))
          (λ (other : i ≡ length (one w there) → ⊥).
          let j = above (length (one w there) + 1) i (omega (arith, high, other)) in came-since w there j.0 j.1)
          (cases_eq i (length (one w there))))
          (cases_lt i (length (one w there)))

      came-any : (o : Option ℕ) → again n ≡ o → CameOn known.note known.step known.p known.nodes h n l
          (place l h n i) stamp.beat msg
      came-any None there = came-alone there
      came-any (Some w) there = came-back w there

    module _ (k : ℕ) (f : Passage M) (there : slice_get (flights l from) k ≡ Some f) where
      -- what arrives before the beat that is open before a return was taken by then
      arrived-first : (w : ℕ) (there_is : again n ≡ Some w) → f.arrival < open_after 0 (one w there_is)
          → k < length (takes_along l (one w there_is))
      arrived-first w there_is early =
          let t = its w there_is in
          let d = (two known n way.to_low w there_is).0 in
          let died = within-of known.beats d (known.death n) (two-died known n way.to_low w there_is) in
          let low_d = died.1 in
          let opened : open_after 0 (one w there_is) ≡ behind t.last d =
          open-append 0 t.front (t.last ∷ []) ∙ ap (behind t.last) t.opens_first in
          let up = behind-death t.last d t.died in
          let all : known.events n ≡ t.front ++ t.last ∷ (Returns (known.when n w) ∷ t.rest) =
          t.parts ∙ append_assoc t.front (t.last ∷ []) (Returns (known.when n w) ∷ t.rest) in
          let lives = (all-right (LivesBy (life n)) t.front (t.last ∷ (Returns (known.when n w) ∷ t.rest))
          (subst (AllByRecursion (LivesBy (life n))) all (known.accounts.timeline n way.to_low).lived)).0 in
          ⊎_elim
          (λ (low : k < length (takes_along l (one w there_is))). low)
          (λ (why : NotFirst f). absurd (first-missed_of (known.death n) (known.left n) (known.back n)
          (known.later n) known.beats l d died.0
          (known.events n) t.front (Returns (known.when n w) ∷ t.rest) t.last all t.alive (refl, t.alive_rest) t.died lives f
          (omega (arith, early, opened, up, low_d)) (omega (arith, early, opened)) why))
          (taken-or (flights l from) (takes_along l (one w there_is)) NotFirst k f (of-first w there_is) there)

    -- a message that arrives before the beat that is open at the end was taken, or lost by the return
    module _ (k : ℕ) (f : Passage M) (there : slice_get (flights l from) k ≡ Some f)
        (soon : f.arrival < open_after 0 (known.events n)) where
      number-all : again n ≡ None → place l h n (length (known.events n)) ≡ length (gets l n)
      number-all none = number-before (length (known.events n)) (omega arith)
          (λ j below. all-at (λ e. is_return e ≡ false) (known.events n) j below (here known n way.to_low none))
          ∙ ap (passing (is_take_on l)) (front-all (known.events n)) ∙ takes-counted l (known.events n)

      arrived-alone : (o : Option ℕ) → death_within known.beats (known.death n) ≡ o → again n ≡ None
          → k < place l h n (length (known.events n))
      arrived-alone None is none =
          let number = number-all none in
          let opened = (end-at known n way.to_low None None is none).2 in
          ⊎_elim
          (λ (low : k < length (gets l n)). omega (arith, low, number))
          (λ (why : NotFirst f). absurd (alive-missed (known.death n) (known.left n) (known.back n)
          (known.later n) known.beats
          (HasCutIn l (known.events n)) f is (omega (arith, soon, opened)) why))
          (taken-or (flights l from) (gets l n) NotFirst k f (alone none) there)
      arrived-alone (Some d) is none =
          let number = number-all none in
          let a = around known n way.to_low d None is none in
          let parts : known.events n ≡ a.front ++ a.last ∷ [] = a.parts ∙ ap (λ qs. a.front ++ a.last ∷ qs) a.go_on in
          let died = within-of known.beats d (known.death n) is in
          let low_d = died.1 in
          let opened : open_after 0 (known.events n) ≡ behind a.last d = ap (open_after 0) parts
          ∙ open-append 0 a.front (a.last ∷ []) ∙ ap (behind a.last) a.opens in
          let up = behind-death a.last d a.died in
          let lives = (all-right (LivesBy (life n)) a.front (a.last ∷ [])
          (subst (AllByRecursion (LivesBy (life n))) parts (known.accounts.timeline n way.to_low).lived)).0 in
          ⊎_elim
          (λ (low : k < length (gets l n)). omega (arith, low, number))
          (λ (why : NotFirst f). absurd (first-missed_of (known.death n) (known.left n) (known.back n)
          (known.later n) known.beats l d died.0
          (known.events n) a.front [] a.last parts a.alive tt a.died lives f (omega (arith, soon, opened, up, low_d))
          (omega (arith, soon, opened)) why))
          (taken-or (flights l from) (gets l n) NotFirst k f (alone none) there)

      arrived-back : (w : ℕ) → again n ≡ Some w → k < place l h n (length (known.events n))
      arrived-back w again_is =
          let t = its w again_is in
          let es = one w again_is in
          let both = ap length t.parts ∙ length-both es (Returns (known.when n w) ∷ t.rest) in
          let last : length (known.events n) ≡ length es + 1 + length t.rest = omega (arith, both) in
          let number = ap (place l h n) last
          ∙ place-again known.first life known.lost known.events n es t.rest (known.when n w) t.parts t.here_rest l
          (length t.rest)
          (omega arith) in
          let all : passing (is_take_on l) (front (length t.rest) t.rest) ≡ length (takes_along l t.rest) =
          ap (passing (is_take_on l)) (front-all t.rest) ∙ takes-counted l t.rest in
          let before = (parts w again_is).before in
          let lost_are = lost-is w again_is in
          let opened = t.opens in
          ⊎_elim
          (λ (low : k < length before). omega (arith, low, number, lost_are))
          (λ (high : length before ≤ k).
          let j = above (length before) k high in
          let same = j.1 in
          let found : slice_get (parts w again_is).rest j.0 ≡ Some f =
          sym (get-behind before (parts w again_is).rest j.0)
          ∙ ap (λ fs. slice_get fs (length before + j.0)) (sym (parts w again_is).all)
          ∙ ap (slice_get (flights l from)) (sym same) ∙ there in
          ⊎_elim
          (λ (low : j.0 < length (takes_along l t.rest)). omega (arith, low, same, number, all, lost_are))
          (λ (late : known.beats ≤ f.arrival). absurd (omega (arith, late, soon, opened)))
          (taken-or (parts w again_is).rest (takes_along l t.rest) (λ f. known.beats ≤ f.arrival) j.0 f
          (of-second w again_is)
          found))
          (cases_lt k (length before))

      arrived : (o : Option ℕ) → again n ≡ o → k < place l h n (length (known.events n))
      arrived None none = arrived-alone (death_within known.beats (known.death n)) refl none
      arrived (Some w) again_is = arrived-back w again_is

  came : (n i : ℕ) (stamp : Stamp) (via : LinkNo) (msg : M) → n < known.nodes → i < length (known.events n)
      → TakesAt (at n i) stamp via msg
      → CameOn known.note known.step known.p known.nodes h n via.0 (place via.0 h n i) stamp.beat msg
  came n i stamp via msg low hi took =
      let lead = led-by known.p n (at n i) stamp via msg
      (all-at (IsLed known.p n) (known.events n) i hi (known.accounts.timeline n low).led) took in
      let way : Way via.0 lead.0 n =
      record { from_low = known.accounts.senders via.0 lead.0 n lead.1; to_low = low; ends = lead.1 } in
      came-any via.0 lead.0 n way i stamp via msg refl hi (take-input (at n i) stamp via msg took) (again n) refl

  arrive : (l from n k date : ℕ) (msg : M) → from < known.nodes → n < known.nodes → ends_of
      (links_of known.p) l ≡ Some (from, n)
      → slice_get (sent known.note known.step l h from (length (known.events from))) k ≡ Some
      (record { beat = date; item = msg })
      → date + known.p.delay < open_beat h n (length (known.events n)) → k < place l h n (length (known.events n))
  arrive l from n k date msg low_from low ends was due =
      let way : Way l from n = record { from_low = low_from; to_low = low; ends = ends } in
      let passage = sending-at (known.start l) (sends l from) k (record { beat = date; item = msg })
      (ap (λ q. slice_get q k) (sym (sent-all known.note known.step l known.first life known.lost known.events from))
      ∙ was) in
      let timely = timely-at known.p.delay (flights l from) k passage.0 (link l from n way).2.timely passage.1 in
      let soon = timely.1 in
      let dated_so = passage.2 in
      let all = open-all known.first life known.lost known.events n in
      arrived l from n way k passage.0 passage.1 (omega (arith, soon, dated_so, due, all)) (again n) refl

  in-time : (l from n i k date : ℕ) (msg : M) → from < known.nodes → n < known.nodes → ends_of
      (links_of known.p) l ≡ Some (from, n)
      → i < length (known.events n) → is_return (at n i) ≡ true
      → slice_get (sent known.note known.step l h from (length (known.events from))) k ≡ Some
      (record { beat = date; item = msg })
      → date + known.p.delay < open_beat h n i → k < place l h n i
  in-time l from n i k date msg low_from low ends hi back was due = by-return (again n) refl
    where
      by-return : (o : Option ℕ) → again n ≡ o → k < place l h n i
      by-return None none =
          let q : true ≡ false = sym back ∙ all-at (λ e. is_return e ≡ false) (known.events n) i hi (here known n low none) in
          absurd (cc)
      by-return (Some w) there =
          let way : Way l from n = record { from_low = low_from; to_low = low; ends = ends } in
          let t = its l from n way w there in
          let es = one l from n way w there in
          let more = Returns (known.when n w) ∷ t.rest in
          let end = subst (λ qs. i < length qs → is_return (event_at qs i) ≡ true → i ≡ length es) (sym t.parts)
          (return-place es t.rest (Returns (known.when n w)) i t.here_first t.here_rest) hi back in
          let fronts : front i (known.events n) ≡ es =
          ap (front i) t.parts ∙ front-first es more i (omega (arith, end)) ∙ ap (λ j. front j es) end ∙ front-all es in
          let number = number-before l from n way i (omega (arith, hi)) (λ j below.
          let lj : j < length es = omega (arith, below, end) in
          ap (λ qs. is_return (event_at qs j)) t.parts ∙ ap (λ e. is_return e) (event-first es more j lj)
          ∙ all-at (λ e. is_return e ≡ false) es j lj t.here_first) in
          let taken : passing (is_take_on l) (front i (known.events n)) ≡ length (takes_along l es) =
          ap (passing (is_take_on l)) fronts ∙ takes-counted l es in
          let passage = sending-at (known.start l) (sends l from) k (record { beat = date; item = msg })
          (ap (λ q. slice_get q k) (sym (sent-all known.note known.step l known.first life known.lost known.events from))
          ∙ was) in
          let timely = timely-at known.p.delay (flights l from) k passage.0 (link l from n way).2.timely passage.1 in
          let soon = timely.1 in
          let dated_so = passage.2 in
          let opened : open_beat h n i ≡ open_after 0 es =
          open-front known.first life known.lost known.events n i (omega (arith, hi)) ∙ ap (open_after 0) fronts in
          let found = arrived-first l from n way k passage.0 passage.1 w there (omega (arith, soon, dated_so, due, opened)) in
          omega (arith, found, number, taken)

  before : (l from n i : ℕ) (stamp : Stamp) → from < known.nodes → n < known.nodes → ends_of
      (links_of known.p) l ≡ Some (from, n)
      → i < length (known.events n) → at n i ≡ Returns stamp
      → known.lost l ≡ below stamp.beat (sent known.note known.step l h from (length (known.events from)))
  before l from n i stamp low_from low ends hi is =
      let lives = subst (λ (e : NodeEvent M). LivesBy (life n) e) is
      (all-at (LivesBy (life n)) (known.events n) i hi (known.accounts.timeline n low).lived) in
      known.accounts.lost_is l from n stamp.beat low_from low ends (returns-at (known.death n) (known.left n)
      (known.back n) stamp.beat lives)
      ∙ ap (below stamp.beat) (sym (sent-all known.note known.step l known.first life known.lost known.events from))

  -- the history of these events is a run
  pub run-lives : IsRun known.note known.step known.p known.nodes (history_of known.first (λ n. lived (known.death n)
      (known.left n) (known.back n)) known.lost known.events)
  run-lives = record {
    in_beat = in-beat known;
    returned = λ n i low hi up. returned-by known n i low hi up (again n) refl;
    reads = shown known;
    rising = rises known;
    level = level known;
    ended = ended known;
    once = λ n j i low hj hi dj di.
        let k = death-is known n low in k.1 j hj dj ∙ sym (k.1 i hi di);
    fair = λ n i low hi.
        subst (λ (s : Past S). AllByRecursion (IsAllowed known.note known.p n) (outs_of known.step (at n i) s))
        (sym (past-front known.note known.step known.first life known.lost known.events n i (omega (arith, hi))))
        (fair-at known.note known.step known.p n (known.events n) (opening (known.first n) (life n)) i hi
        (known.accounts.fair n low));
    carried = came;
    arrives = arrive;
    in_time = in-time;
    before = before;
  }
