-- A controller follows its orders in every run: its journal does after each of its events.
use Rattle.std.proofs.Common.{◌≡◌, ℕ, zero, suc, ◌+◌, ◌<◌, ◌≤◌, List, [], ◌∷◌, ◌++◌, Bool, true, false, cond, nat_lt, IsTrue, arith, refl, sym, ap, subst, ◌∙◌}
use Rattle.std.proofs.lemmas.Bool.{le-ltb}
use Rattle.std.proofs.lemmas.List.Elements.{All-nil}
use Rattle.tiger_base.specs.declared.number.LinkNo.{LinkNo}
use Rattle.tiger_base.specs.declared.number.Stamp.{Stamp}
use Rattle.tiger_base.specs.declared.tenancy.Tenancy.{Tenancy}
use Rattle.tiger_base.specs.declared.message.Msg.{Msg}
use Rattle.tiger_base.specs.Notes.{noted}
use Rattle.slot_plan.specs.declared.params.Params.{Params}
use Rattle.slot_plan.specs.Conditions.{IsPlan}
use Rattle.node_kit.specs.declared.course.Order.{Order}
use Rattle.node_kit.specs.declared.journal.Entry.{Entry}
use Rattle.node_kit.specs.Form.{is_tenancy}
use Rattle.node_kit.specs.Steps.Input.{Take, Tick}
use Rattle.run_facts.specs.Events.{NodeEvent, Past, after, after_input, kept_outs, is_tick, is_death, stamp_at}
use Rattle.run_facts.specs.Events.NodeEvent.{Does, Ends, Dies, Returns}
use Rattle.run_facts.specs.Histories.{History, past, last_of, ticks}
use Rattle.run_facts.specs.Commanded.{IsCommanded, starts_sent, starts_ordered, gone_in, gone_before}
use Rattle.controller_core.specs.declared.known.Known.{Known}
use Rattle.controller_core.specs.Orders.{AreOrders}
use Rattle.controller_core.specs.State.{ControllerState, fresh_controller, is_gone, tenancy_of}
use Rattle.controller_core.specs.Rules.{controller_step, commanding, taking}
use Rattle.proof_controller.specs.Follows.{IsControllersRun, ControllersFollow, ControllersKnowPlaces}
use Rattle.proof_controller.proofs.Carrying.{one_if}
use Rattle.proof_controller.proofs.Grown.{places_got_all}
use Rattle.proof_controller.proofs.Taking.{found}
use Rattle.proof_controller.proofs.Events.{Followed, got, entries, took, ticked}

-- a controller that knows so much
abbrev knowing : Params → List Order → Known → ControllerState
knowing p os known = record { params = p; orders = os; known = known }

none_ordered : (p : Params) (b : ℕ) (os : List Order) → starts_sent p b [] ≡ cond (nat_lt b 0) (starts_ordered p b os) []
unfolding starts_sent
none_ordered p b os = rw (never b) refl
  where
    never : (b : ℕ) → nat_lt b 0 ≡ false
    never b = le-ltb b 0 (omega arith)

-- before the first event
followed_first : (p : Params) (os : List Order) (reading : ℕ → ℕ) → Followed p os reading 0 (record { placed = []; gone = [] }) []
unfolding gone_in gone_before
followed_first p os reading = record {
  in_form = All-nil (λ (t : Tenancy). IsTrue (is_tenancy p t));
  by = tt;
  gone_is = λ v. refl;
  gone_early = λ v. refl;
  places_are = λ v. refl;
  starts_are = λ b. none_ordered p b os;
  stops_are = λ v b. let e : nat_lt b 0 ≡ false = le-ltb b 0 (omega arith) in rw e refl;
  once = λ v. refl;
}

-- the state and the journal of a controller after an event
record IsAt (p : Params) (os : List Order) (known : Known) (journal : List Entry) (now : Past ControllerState) : Type 0 where
  here : now.state ≡ knowing p os known
  wrote : now.journal ≡ journal

after_take : (p : Params) (os : List Order) (known : Known) (now : Past ControllerState) (stamp : Stamp) (link : LinkNo) (m : Msg)
    → now.state ≡ knowing p os known
    → IsAt p os (taking p m known) (now.journal ++ got stamp link m ∷ []) (after noted controller_step (Does (Take stamp link m)) now)
unfolding after_input kept_outs
after_take p os known now stamp link m e =
    record { here = ap (λ (s : ControllerState). (controller_step s (Take stamp link m)).state) e; wrote = refl }

after_tick : (p : Params) (os : List Order) (known : Known) (now : Past ControllerState) (stamp : Stamp) → now.state ≡ knowing p os known
    → IsAt p os (commanding p os stamp known).state (now.journal ++ entries stamp (commanding p os stamp known).outs)
    (after noted controller_step (Does (Tick stamp)) now)
unfolding after_input kept_outs
after_tick p os known now stamp e = record {
  here = ap (λ (s : ControllerState). (controller_step s (Tick stamp)).state) e;
  wrote = ap (λ (s : ControllerState). now.journal ++ entries stamp (controller_step s (Tick stamp)).outs) e;
}

-- before the event of number i
record Reached (p : Params) (os : List Order) (reading : ℕ → ℕ) (h : History Msg ControllerState) (n i : ℕ) : Type 0 where
  known : Known
  here : (past noted controller_step h n i).state ≡ knowing p os known
  followed : Followed p os reading (ticks h n i) known (past noted controller_step h n i).journal

reached_first : (p : Params) (os : List Order) (reading : ℕ → ℕ) (h : History Msg ControllerState) (n : ℕ) → h.first n ≡ fresh_controller p os
    → Reached p os reading h n 0
reached_first p os reading h n opens = record {
  known = record { placed = []; gone = [] };
  here = opens;
  followed = followed_first p os reading;
}

-- where the next event takes a message
reached_by_take : (p : Params) (os : List Order) (beats : ℕ) (reading : ℕ → ℕ) (h : History Msg ControllerState) (n i : ℕ) (stamp : Stamp) (link : LinkNo) (m : Msg)
    → IsControllersRun beats reading h n → i < h.count n → h.event n i ≡ Does (Take stamp link m) → Reached p os reading h n i
    → Reached p os reading h n (suc i)
reached_by_take p os beats reading h n i stamp link m run inside e r =
    let now = past noted controller_step h n i in
    let at_beat : ticks h n i ≡ stamp.beat = sym (run.in_beat i inside) ∙ ap (λ (x : NodeEvent Msg). (stamp_at x).beat) e in
    let next = after_take p os r.known now stamp link m r.here in
    let step : past noted controller_step h n (suc i) ≡ after noted controller_step (Does (Take stamp link m)) now =
    ap (λ (x : NodeEvent Msg). after noted controller_step x now) e in
    let same : ticks h n (suc i) ≡ stamp.beat = ap (λ (x : NodeEvent Msg). cond (is_tick x) (suc (ticks h n i)) (ticks h n i)) e ∙ at_beat in
    let followed = took p os reading r.known now.journal stamp link m
    (subst (λ t. Followed p os reading t r.known now.journal) at_beat r.followed) in
    record {
      known = taking p m r.known;
      here = ap (λ (x : Past ControllerState). x.state) step ∙ next.here;
      followed =
          subst (λ t. Followed p os reading t (taking p m r.known) (past noted controller_step h n (suc i)).journal) (sym same)
          (subst (λ j. Followed p os reading stamp.beat (taking p m r.known) j) (sym (ap (λ (x : Past ControllerState). x.journal) step ∙ next.wrote)) followed);
    }

-- where it is a tick
reached_by_tick : (p : Params) (os : List Order) (beats : ℕ) (reading : ℕ → ℕ) (h : History Msg ControllerState) (n i : ℕ) (stamp : Stamp)
    → IsPlan p → AreOrders p os → IsControllersRun beats reading h n → i < h.count n → h.event n i ≡ Does (Tick stamp)
    → Reached p os reading h n i → Reached p os reading h n (suc i)
reached_by_tick p os beats reading h n i stamp plan are run inside e r =
    let now = past noted controller_step h n i in
    let d = commanding p os stamp r.known in
    let at_beat : ticks h n i ≡ stamp.beat = sym (run.in_beat i inside) ∙ ap (λ (x : NodeEvent Msg). (stamp_at x).beat) e in
    let read : stamp.reading ≡ reading stamp.beat =
    sym (ap (λ (x : NodeEvent Msg). (stamp_at x).reading) e)
    ∙ (run.reads i inside (ap (λ (x : NodeEvent Msg). is_tick x) e) ∙ ap (λ (x : NodeEvent Msg). reading (stamp_at x).beat) e) in
    let next = after_tick p os r.known now stamp r.here in
    let step : past noted controller_step h n (suc i) ≡ after noted controller_step (Does (Tick stamp)) now =
    ap (λ (x : NodeEvent Msg). after noted controller_step x now) e in
    let one_more : ticks h n (suc i) ≡ suc (ticks h n i) = ap (λ (x : NodeEvent Msg). cond (is_tick x) (suc (ticks h n i)) (ticks h n i)) e in
    let same : ticks h n (suc i) ≡ stamp.beat + 1 = omega arith in
    let followed = ticked p os reading r.known now.journal stamp plan are (sym read)
    (subst (λ t. Followed p os reading t r.known now.journal) at_beat r.followed) in
    record {
      known = d.state;
      here = ap (λ (x : Past ControllerState). x.state) step ∙ next.here;
      followed =
          subst (λ t. Followed p os reading t d.state (past noted controller_step h n (suc i)).journal) (sym same)
          (subst (λ j. Followed p os reading (stamp.beat + 1) d.state j) (sym (ap (λ (x : Past ControllerState). x.journal) step ∙ next.wrote)) followed);
    }

-- where it is a return, nothing changes
reached_by_return : (p : Params) (os : List Order) (reading : ℕ → ℕ) (h : History Msg ControllerState) (n i : ℕ)
    (stamp : Stamp) → h.event n i ≡ Returns stamp → Reached p os reading h n i → Reached p os reading h n (suc i)
reached_by_return p os reading h n i stamp e r =
    let step : past noted controller_step h n (suc i) ≡ past noted controller_step h n i =
    ap (λ (x : NodeEvent Msg). after noted controller_step x (past noted controller_step h n i)) e in
    let same : ticks h n (suc i) ≡ ticks h n i =
    ap (λ (x : NodeEvent Msg). cond (is_tick x) (suc (ticks h n i)) (ticks h n i)) e in
    record {
      known = r.known;
      here = ap (λ (x : Past ControllerState). x.state) step ∙ r.here;
      followed =
          subst (λ t. Followed p os reading t r.known (past noted controller_step h n (suc i)).journal) (sym same)
          (subst (λ j. Followed p os reading (ticks h n i) r.known j)
          (sym (ap (λ (x : Past ControllerState). x.journal) step)) r.followed);
    }

by_event : (p : Params) (os : List Order) (beats : ℕ) (reading : ℕ → ℕ) (h : History Msg ControllerState) (n i : ℕ) (x : NodeEvent Msg)
    → IsPlan p → AreOrders p os → IsControllersRun beats reading h n → i < h.count n → h.event n i ≡ x
    → Reached p os reading h n i → Reached p os reading h n (suc i)
by_event p os beats reading h n i (Does (Take stamp link m)) plan are run inside e r = reached_by_take p os beats reading h n i stamp link m run inside e r
by_event p os beats reading h n i (Does (Tick stamp)) plan are run inside e r = reached_by_tick p os beats reading h n i stamp plan are run inside e r
by_event p os beats reading h n i (Ends input sends) plan are run inside e r =
    absurd (let dead = ap (λ (x : NodeEvent Msg). is_death x) e in let alive = run.lives i inside in cc)
by_event p os beats reading h n i (Dies stamp) plan are run inside e r =
    absurd (let dead = ap (λ (x : NodeEvent Msg). is_death x) e in let alive = run.lives i inside in cc)
by_event p os beats reading h n i (Returns stamp) plan are run inside e r =
    reached_by_return p os reading h n i stamp e r

reached : (p : Params) (os : List Order) (beats : ℕ) (reading : ℕ → ℕ) (h : History Msg ControllerState) (n i : ℕ)
    → IsPlan p → AreOrders p os → h.first n ≡ fresh_controller p os → IsControllersRun beats reading h n → i ≤ h.count n
    → Reached p os reading h n i
reached p os beats reading h n zero plan are opens run inside = reached_first p os reading h n opens
reached p os beats reading h n (suc i) plan are opens run inside =
    by_event p os beats reading h n i (h.event n i) plan are run (omega arith) refl (reached p os beats reading h n i plan are opens run (omega arith))

at_most_one : (b : Bool) (n : ℕ) → n ≡ one_if b → n ≤ 1
at_most_one true n e = omega arith
at_most_one false n e = omega arith

commanded : (p : Params) (os : List Order) (reading : ℕ → ℕ) (beats : ℕ) (known : Known) (journal : List Entry)
    → Followed p os reading beats known journal → IsCommanded p beats reading os journal
commanded p os reading beats known journal f = record {
  starts = λ b. f.starts_are b;
  stops = λ v b. f.stops_are v b;
  once = λ v. at_most_one (is_gone known.gone (record { 0 = v })) _ (f.once (record { 0 = v }));
}

-- at the end
ended : (p : Params) (os : List Order) (beats : ℕ) (reading : ℕ → ℕ) (h : History Msg ControllerState) (n : ℕ)
    → IsPlan p → AreOrders p os → h.first n ≡ fresh_controller p os → IsControllersRun beats reading h n
    → (known : Known) × ((last_of noted controller_step h n).state ≡ knowing p os known)
    × Followed p os reading beats known (last_of noted controller_step h n).journal
ended p os beats reading h n plan are opens run =
    let r = reached p os beats reading h n (h.count n) plan are opens run (omega arith) in
    (r.known, r.here, subst (λ t. Followed p os reading t r.known (last_of noted controller_step h n).journal) run.all_beats r.followed)

pub controllers_follow : ControllersFollow
controllers_follow p os beats reading h n plan are opens run =
    let end = ended p os beats reading h n plan are opens run in
    commanded p os reading beats end.0 (last_of noted controller_step h n).journal end.2

pub controllers_know_places : ControllersKnowPlaces
controllers_know_places p os beats reading h n plan are opens run v =
    let end = ended p os beats reading h n plan are opens run in
    let journal = (last_of noted controller_step h n).journal in
    ap (λ (s : ControllerState). tenancy_of s.known.placed v) end.1
    ∙ (sym (end.2.places_are v) ∙ sym (ap (λ ts. found v ts) (places_got_all p beats journal end.2.by)))
