-- What a machine accepts is a run.
use Rattle.std.proofs.Common.{◌≡◌, ℕ, zero, suc, ◌<◌, ◌≤◌, List, [], ◌∷◌, ◌++◌, length, map, Bool, true, false, Option}
use Rattle.std.proofs.Common.{Some, None, refl, ap, sym, ◌∙◌, subst, arith, ⊎_elim, inl, get_or}
use Rattle.std.specs.Prelude.{slice_get, option_map}
use Rattle.std.proofs.lemmas.Option.{none-some, slice_get-map, slice_get-get_or, slice_get_within}
use Rattle.std.proofs.lemmas.Bool.{cases_Bool}
use Rattle.std.proofs.lemmas.List.{length-map}
use Rattle.tiger_base.specs.declared.message.Note.{Note}
use Rattle.tiger_base.specs.declared.number.Stamp.{Stamp}
use Rattle.tiger_base.specs.Limits.{most_reading}
use Rattle.slot_plan.specs.declared.params.Params.{Params}
use Rattle.node_kit.specs.Links.{links_of, link_count, ends_of}
use Rattle.node_kit.proofs.Ring.{ends_counted}
use Rattle.node_kit.specs.Steps.{Input, Deed}
use Rattle.run_facts.specs.Events.{stamp_at, is_death, is_return, IsPlain, NodeEvent, Past, Dated, opening, sends_along}
use Rattle.run_facts.specs.Events.NodeEvent.{Does, Ends, Dies, Returns}
use Rattle.run_facts.specs.Histories.{last_of, below}
use Rattle.run_facts.specs.Accounts.{history_of, event_at, front}
use Rattle.run_facts.proofs.Rows.{same-element}
use Rattle.run_facts.proofs.Indexed.{last-all, all-at, front-more, front-all}
use Rattle.ring_world.specs.declared.event.Event.{Event}
use Rattle.ring_world.specs.Machine.{Machine, Being, being, empty_ways, opening_machine, undying}
use Rattle.ring_world.specs.Laws.{IsPlace, IsDeadBy, HasDiedIn, HasCome, AcceptedListsAreRuns}
use Rattle.ring_world.proofs.Deaths.{HasDied, died-opens}
use Rattle.ring_world.proofs.Telling.{IsTold, ticked-told, run-of_told}
use Rattle.ring_world.proofs.Moving.{Holds}
use Rattle.node_kit.specs.Rows.{each_below}
use Rattle.ring_world.proofs.Accepting.{some-same}
use Rattle.ring_world.proofs.Merging.{AreLost, IsAhead, ahead-of}
use Rattle.run_facts.proofs.Plain.{plain-run}

-- before the first event
empty-at : {M : Type 0} (count l : ℕ) → l < count → slice_get (empty_ways {M = M} count) l ≡ Some (record { gone = 0; under_way = [] })
empty-at zero l h = absurd (omega (arith, h))
empty-at (suc k) zero h = refl
empty-at (suc k) (suc l) h = empty-at k l (omega (arith, h))

opens-alive : {S : Type 0} (given : List S) (k : ℕ) (a : Being S) → slice_get (map being given) k ≡ Some a
    → a.died ≡ None
opens-alive [] k a here = absurd (none-some a here)
opens-alive {S} (s ∷ ss) zero a here = let q : being s ≡ a = some-same (being s) a here in ap (λ (b : Being S). b.died) (sym q)
opens-alive (s ∷ ss) (suc k) a here = opens-alive ss k a here

pub holds-opens : {M S : Type 0} (note : M → Note) (step : S → Input M → Deed M S) (stands : S → Params → ℕ → Type 0) (p : Params) (given : List S) (first : ℕ → S)
    → ((k : ℕ) → k < length given → slice_get given k ≡ Some (first k)) → ((n : ℕ) (s : S) → slice_get given n ≡ Some s → stands s p n)
    → Holds {M = M} note step stands p (length given) first (opening_machine p given) (λ _. [])
holds-opens {M} {S} note step stands p given first all stand = record {
  size = length-map given being;
  apart = λ cub a b low here there. inl (opens-alive given cub a here);
  node = λ n low. (
    being (first n),
    slice_get-map being given n ∙ ap (option_map being) (all n low),
    record {
      past = refl;
      ticked = refl;
      high = omega arith;
      low = λ _. omega arith;
      early = tt;
      counted = tt;
      shown = tt;
      rising = tt;
      last = tt;
      deaths = died-opens;
      stands_here = stand n (first n) (all n low);
      fair = tt;
      led = tt;
      brief = tt;
    },
  );
  way = λ l from to ends. (
    record { gone = 0; under_way = [] },
    empty-at (link_count (links_of p)) l (ends_counted (links_of p) l (from, to) ends),
    record {
      gone = [];
      split = refl;
      number = refl;
      before = tt;
      old = tt;
      young = tt;
      rising = tt;
      place = λ lost is. refl;
      came = λ lost is i stamp link msg low. absurd (omega (arith, low));
      timely = λ lost is i stamp k d low. absurd (omega (arith, low));
    },
  );
}

each-front : {M : Type 0} (es : List (NodeEvent M)) (i : ℕ) → i ≤ length es → each_below (event_at es) i ≡ front i es
each-front es zero h = refl
each-front es (suc i) h =
    ap (λ fs. fs ++ event_at es i ∷ []) (each-front es i (omega (arith, h))) ∙ sym (front-more i es (omega (arith, h)))

-- the events by their numbers are the events
each-event : {M : Type 0} (es : List (NodeEvent M)) → each_below (event_at es) (length es) ≡ es
each-event es = each-front es (length es) (omega arith) ∙ front-all es

-- the beat of the first return among events
abbrev back_in : {M : Type 0} → List (NodeEvent M) → Option ℕ
back_in [] = None
back_in (Does i ∷ es) = back_in es
back_in (Ends i sends ∷ es) = back_in es
back_in (Dies stamp ∷ es) = back_in es
back_in (Returns stamp ∷ es) = Some stamp.beat

abbrev below_back : {M : Type 0} → Option ℕ → List (Dated M) → ℕ
below_back None sent = 0
below_back (Some back) sent = below back sent

-- the first return is an event, and a return is in the beat of the first, if there is one alone
back-found : {M : Type 0} (es : List (NodeEvent M)) (i : ℕ) (stamp : Stamp) → i < length es → event_at es i ≡ Returns stamp
    → (j : ℕ) × (first : Stamp) × (j < length es) × (event_at es j ≡ Returns first) × (back_in es ≡ Some first.beat)
back-found [] i stamp low is = absurd (omega (arith, low))
back-found (Returns first ∷ es) i stamp low is = (0, first, omega arith, refl, refl)
back-found (Does d ∷ es) zero stamp low is = absurd (cc)
back-found (Does d ∷ es) (suc i) stamp low is =
    let r = back-found es i stamp (omega (arith, low)) is in let b = r.2 in (suc r.0, r.1, omega (arith, b), r.3, r.4)
back-found (Ends d sends ∷ es) zero stamp low is = absurd (cc)
back-found (Ends d sends ∷ es) (suc i) stamp low is =
    let r = back-found es i stamp (omega (arith, low)) is in let b = r.2 in (suc r.0, r.1, omega (arith, b), r.3, r.4)
back-found (Dies d ∷ es) zero stamp low is = absurd (cc)
back-found (Dies d ∷ es) (suc i) stamp low is =
    let r = back-found es i stamp (omega (arith, low)) is in let b = r.2 in (suc r.0, r.1, omega (arith, b), r.3, r.4)

-- a node returns once: its returns stand behind one death
one-return : {M : Type 0} (dead : Bool) (death : Option ℕ) (es : List (NodeEvent M)) → HasDied dead death es → (j i : ℕ)
    → j < length es → i < length es → is_return (event_at es j) ≡ true → is_return (event_at es i) ≡ true → j ≡ i
one-return dead death es h j i low high first second =
    let one = h.returned j low first in
    let two = h.returned i high second in
    let next_one = one.next in
    let next_two = two.next in
    let same = h.once one.last two.last (record { low = omega (arith, next_one, low); died = one.died })
    (record { low = omega (arith, next_two, high); died = two.died }) in
    omega (arith, next_one, next_two, same)

back-is : {M : Type 0} (dead : Bool) (death : Option ℕ) (es : List (NodeEvent M)) → HasDied dead death es → (i : ℕ) (stamp : Stamp)
    → i < length es → event_at es i ≡ Returns stamp → back_in es ≡ Some stamp.beat
back-is {M} dead death es h i stamp low is =
    let f = back-found es i stamp low is in
    let same = one-return dead death es h f.0 i f.2 low (ap is_return f.3) (ap is_return is) in
    let both : ◌≡◌ {A = NodeEvent M} (Returns f.1) (Returns stamp) = sym f.3 ∙ ap (event_at es) same ∙ is in
    f.4 ∙ ap (λ (e : NodeEvent M). Some (stamp_at e).beat) both

-- how many messages were sent on each link below the return of its receiver
abbrev lost_to : {M : Type 0} → (ℕ → List (Dated M)) → (ℕ → List (NodeEvent M)) → Option (ℕ × ℕ) → ℕ
lost_to sent es None = 0
lost_to sent es (Some ends) = below_back (back_in (es ends.1)) (sent ends.0)

abbrev lost_by : {M S : Type 0} → (M → Note) → (S → Input M → Deed M S) → Params → (ℕ → S) → (ℕ → List (NodeEvent M)) → ℕ → ℕ
lost_by note step p first es l =
    lost_to (λ from. sends_along note step l (es from) (opening (first from) undying)) es (ends_of (links_of p) l)

module _ {M S : Type 0} (note : M → Note) (step : S → Input M → Deed M S) (stands : S → Params → ℕ → Type 0) (p : Params)
    (nodes beats : ℕ) (place : IsPlace p nodes beats) (first : ℕ → S) (m : Machine M S) (es : ℕ → List (NodeEvent M))
    (h : Holds note step stands p nodes first m es) where
  pub lost-right : AreLost note step p first (lost_by note step p first es) es
  lost-right l from to ends i stamp low is =
      let sent = λ (k : ℕ). sends_along note step l (es k) (opening (first k) undying) in
      let line = (h.node to (place.linked l from to ends).1) in
      ap (lost_to sent es) ends
      ∙ ap (λ o. below_back o (sent from)) (back-is line.0.dead line.0.died (es to) line.2.deaths i stamp low is)

  pub told-of : IsTold note step p (λ _. undying) nodes m.beat first (lost_by note step p first es) es
  told-of = record {
    counted = λ n low. (h.node n low).2.counted;
    shown = λ n low. (h.node n low).2.shown;
    rising = λ n low. (h.node n low).2.rising;
    early = λ n low. (h.node n low).2.early;
    low = λ n low up.
        let own = h.node n low in
        let line = own.2 in
        ⊎_elim
        (λ (dead : own.0.dead ≡ true).
        let final = line.deaths.final dead in
        let end = final.1 in
        let q = up final.0 (record { low = omega (arith, end); died = final.2 }) in
        absurd (omega (arith, q, end)))
        (λ (lives : own.0.dead ≡ false). let q = line.low lives in let ticked = line.ticked in omega (arith, q, ticked))
        (cases_Bool own.0.dead);
    deaths = λ n low. let own = h.node n low in (own.0.dead, own.0.died, own.2.deaths);
    fair = λ n low. (h.node n low).2.fair;
    led = λ n low. (h.node n low).2.led;
    senders = λ l from to ends. (place.linked l from to ends).0;
    links = λ l from to low_from low_to ends.
        let on = (h.way l from to ends).2 in
        let right = lost-right l from to ends in
        let number = on.number in
        let next = on.place (lost_by note step p first es l) right in
        record {
          gone = on.gone;
          left = (h.way l from to ends).0.under_way;
          split = on.split;
          number = omega (arith, number, next);
          young = on.young;
          came = on.came (lost_by note step p first es l) right;
          timely = on.timely (lost_by note step p first es l) right;
          lost_is = right;
        };
  }

firsts : {S : Type 0} (given : List S) → 1 ≤ length given → (first : ℕ → S) × ((k : ℕ) → k < length given → slice_get given k ≡ Some (first k))
firsts [] h = absurd (omega (arith, h))
firsts {S} (x ∷ xs) h = ((λ k. get_or (x ∷ xs) k x), (λ k low. slice_get-get_or (x ∷ xs) k x low))

module _ {M S : Type 0} (note : M → Note) (step : S → Input M → Deed M S) (stands : S → Params → ℕ → Type 0) (p : Params) (beats : ℕ) (given : List S)
    (events : List Event) (m : Machine M S) (place : IsPlace p (length given) beats) (first : ℕ → S) (starts : (k : ℕ) → k < length given → slice_get given k ≡ Some (first k))
    (r : IsAhead note step stands p (length given) first (opening_machine p given) m (λ _. []) events) where
  abbrev es : ℕ → List (NodeEvent M)
  es = r.gs

  abbrev h : Holds note step stands p (length given) first m es
  h = r.holds

  abbrev lost : ℕ → ℕ
  lost = lost_by note step p first es

  ends-at : (n : ℕ) (low : n < length given) → slice_get m.beings n ≡ Some (h.node n low).0
      → (h.node n low).0.past ≡ last_of note step (history_of first (λ _. undying) lost es) n
  ends-at n low at = (h.node n low).2.past ∙ sym (last-all note step first (λ _. undying) lost es n)

  own-deaths : (n : ℕ) (b : Being S) → n < length given → slice_get m.beings n ≡ Some b → HasDied b.dead b.died (es n)
  own-deaths n b low at =
      let own = h.node n low in
      let same : own.0 ≡ b = same-element m.beings n own.0 b own.1 at in
      subst (λ (c : Being S). HasDied c.dead c.died (es n)) same own.2.deaths

  dead-by : (n : ℕ) (b : Being S) → n < length given → slice_get m.beings n ≡ Some b
      → IsDeadBy (history_of first (λ _. undying) lost es) n b.dead
  dead-by n b low at =
      let deaths = own-deaths n b low at in
      record {
        died = deaths.final;
        up = λ lives i here died. deaths.up lives i (record { low = here; died = died });
      }

  died-in : (n : ℕ) (death : Option ℕ) (dead : Bool) → HasDied dead death (es n)
      → HasDiedIn (history_of first (λ _. undying) lost es) n death
  died-in n None dead deaths = λ i here. all-at (λ e. is_death e ≡ false) (es n) i here (deaths.never refl)
  died-in n (Some d) dead deaths = let one = deaths.when d refl in (one.0, one.1.low, one.1.died, one.2)

  pub come-of : HasCome note step p given events m
  come-of =
      let t = told-of note step stands p (length given) beats place first m es h in
      let right = lost-right note step stands p (length given) beats place first m es h in
      let run = run-of_told note step p (λ _. undying) (length given) m.beat first lost es t in
      record {
        history = history_of first (λ _. undying) lost es;
        theirs = record {
          opens = λ n s at. (same-element given n (first n) s (starts n (slice_get_within given n s at)) at, refl);
          writes = λ n low. let own = h.node n low in
              slice_get-map (λ (b : Being S). b.past.journal) m.beings n ∙ ap (option_map (λ (b : Being S). b.past.journal)) own.1
              ∙ ap (λ (s : Past S). Some s.journal) (ends-at n low own.1);
          ends = λ n low. let own = h.node n low in
              slice_get-map (λ (b : Being S). b.past.state) m.beings n ∙ ap (option_map (λ (b : Being S). b.past.state)) own.1
              ∙ ap (λ (s : Past S). Some s.state) (ends-at n low own.1);
        };
        run = run;
        plain = λ whole. plain-run note step p (length given) (history_of first (λ _. undying) lost es)
            (λ n i low at. all-at IsPlain (es n) i at (r.plain whole (λ k. tt) n)) run;
        happened = r.happened;
        merged = record {
          merged = r.merged;
          told = r.same lost right;
          of_nodes = r.within;
          rising = r.rising;
          each = λ n low. sym (r.parts n) ∙ sym (each-event (es n));
        };
        each_has_being = h.size;
        early = λ n i low at. all-at (λ e. (stamp_at e).beat ≤ m.beat) (es n) i at (h.node n low).2.early;
        ticked = λ n low up. ticked-told note step p (λ _. undying) (length given) m.beat first lost es t n low up;
        short = λ n i low at. all-at (λ e. (stamp_at e).reading ≤ most_reading) (es n) i at (h.node n low).2.brief;
        dead = dead-by;
        died = λ n b low at. died-in n b.died b.dead (own-deaths n b low at);
        calm = λ none n i low at. all-at (λ e. is_death e ≡ false) (es n) i at (r.calm none (λ k. tt) n);
        apart = h.apart;
      }

pub accepted-runs : {M S : Type 0} (note : M → Note) (step : S → Input M → Deed M S) (stands : S → Params → ℕ → Type 0) → AcceptedListsAreRuns note step stands
accepted-runs {M} {S} note step stands p beats given events m lawful place stand accepts =
    let two = place.two_cubs in
    let cubs = place.cubs in
    let opens = firsts given (omega (arith, two, cubs)) in
    let start = holds-opens note step stands p given opens.0 opens.1 stand in
    come-of note step stands p beats given events m place opens.0 opens.1
    (ahead-of note step stands p (length given) beats lawful place opens.0 (opening_machine p given) (λ _. []) events m start accepts)
