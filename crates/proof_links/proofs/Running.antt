-- The laws of the run: how far cubs are apart, and what deaths and returns end and begin.
use Rattle.std.proofs.Common.{◌≡◌, ℕ, suc, ◌+◌, ◌-◌, ◌<◌, ◌≤◌, Bool, List, true, false, None, cond, refl, sym, ap, subst, ◌∙◌, arith, ⊎_elim, inl, inr, eq-or-lt_of_le}
use Rattle.std.specs.Prelude.{◌⊎◌}
use Rattle.std.proofs.lemmas.Bool.{cases_Bool, cases_lt, ne_eqb}
use Rattle.tiger_base.specs.declared.number.Stamp.{Stamp}
use Rattle.tiger_base.specs.declared.message.Msg.{Msg}
use Rattle.slot_plan.specs.declared.params.Params.{Params}
use Rattle.slot_plan.specs.Conditions.{IsPlan}
use Rattle.slot_plan.specs.Times.{time_of}
use Rattle.node_kit.specs.declared.course.Order.{Order}
use Rattle.node_kit.specs.Steps.{Deed, Input, stamp_of}
use Rattle.node_kit.specs.Steps.Input.{Tick}
use Rattle.run_facts.specs.Events.{NodeEvent, is_death, is_return, is_tick, is_tick_input}
use Rattle.run_facts.specs.Events.NodeEvent.{Does, Ends, Dies, Returns}
use Rattle.run_facts.specs.Histories.{History, beat, open_beat, reading, ticks}
use Rattle.disk_core.specs.State.{DiskState}
use Rattle.proof_lives.specs.Histories.{acting, first_events, later_lives_of}
use Rattle.proof_lives.specs.Lives.{BeganLate, Lives, beat_at, cut_in, reading_at, ticks_at}
use Rattle.proof_lives.specs.Facts.{TickAt, TickedAt, TookMessage}
use Rattle.proof_lives.specs.FactsBy.{IsInOneLife}
use Rattle.proof_lives.specs.TwoLifeRun.{WhichLife, event_in, life_in}
use Rattle.proof_lives.specs.TwoLifeRun.WhichLife.{First, Later}
use Rattle.proof_lives.proofs.Acting.{most_act, ticks_acting}
use Rattle.proof_lives.proofs.Order as order
use Rattle.proof_lives.proofs.Order.{tick_of, ticked_before}
use Rattle.proof_lives.proofs.Returns.{died, first_back, first_ended, first_here, first_low, later_alive, no_death_back, open_first, opens_by, opens_rise}
use Rattle.proof_lives.proofs.States.{stamp_made}
use Rattle.proof_lives.proofs.TwoLives.{beat_in, begins_anew, reading_in}
use Rattle.proof_schedule.specs.Facts.{Ended, IsFirstLife, LastReturn, LivedTo, DiedBy}
use Rattle.proof_schedule.specs.RunLaws.{RunLaws}
use Rattle.proof_facts.specs.Beside.{Additions}
use Rattle.proof_facts.specs.Facts.{beyond_with, facts_of}
use Rattle.proof_facts.specs.Lives.{lives_of, CameAt, DiedAt}
use Rattle.proof_facts.specs.Rings.{IsRingWith, IsUpTo}
use Rattle.proof_links.proofs.Lives.{EndsInDeath, LivesOn}
use Rattle.proof_links.proofs.Carrying.{came_to, not_behind}
use Rattle.proof_links.proofs.Nodes.{after_tick, all_act, before, began_late, cub_inside, how, is_up, lived, one_life, rises, ticks_at as tick_event, whole_alive}

-- an event that ticks is no return
no_back : (e : NodeEvent Msg) → is_tick e ≡ true → is_return e ≡ true → ⊥
no_back (Does i) t b = absurd (cc)
no_back (Ends i sends) t b = absurd (cc)
no_back (Dies stamp) t b = absurd (cc)
no_back (Returns stamp) t b = absurd (cc)

module _ {S : Type 0} {step : S → Input Msg → Deed Msg S} {p : Params} {orders : List Order} {disk_at : ℕ → DiskState}
    {added : Additions} {h : History Msg S} (plan : IsPlan p) (ring : IsRingWith step p orders disk_at added h) where
  abbrev lives : Lives
  lives = lives_of h

  -- ---- ticks, by the life that they are in

  -- A tick of either life is one of the facts.
  pub joined_tick : (w : WhichLife) {c b l : ℕ} → TickedAt p (life_in h w) c b l → (facts_of p orders h).Ticked c b l
  joined_tick First t = inl t
  joined_tick Later t = inr t

  came_whole : (w : WhichLife) {c b l : ℕ} → TickedAt p (life_in h w) c b l → CameAt p h c b
  came_whole w t = came_to plan ring w (record { small = t.small; at = t.at; done = t.done; is = t.is })

  -- A cub that ended a beat came to its tick.
  pub came : {c b l : ℕ} → (facts_of p orders h).Ticked c b l → CameAt p h c b
  came t = ⊎_elim (λ q. came_whole First q) (λ q. came_whole Later q) t

  -- A cub's readings never fall, whichever its ticks' lives are.
  pub readings_rise : (w u : WhichLife) {c a b l m : ℕ} → TickAt p (life_in h w) c a l → TickAt p (life_in h u) c b m → a ≤ b
      → l ≤ m
  readings_rise w u {c} {a} {b} {l} {m} v t le =
      let inside = cub_inside plan ring c v.small in
      let i : ℕ = event_in h w c v.at in
      let j : ℕ = event_in h u c t.at in
      let vd = (before plan ring w c v.at inside v.done).done in
      let td = (before plan ring u c t.at inside t.done).done in
      let vb : beat h c i ≡ a = beat_in h w c v.at ∙ ap (λ (x : Input Msg). (stamp_of x).beat) v.is in
      let tb : beat h c j ≡ b = beat_in h u c t.at ∙ ap (λ (x : Input Msg). (stamp_of x).beat) t.is in
      let vr : reading h c i ≡ l = reading_in h w c v.at ∙ ap (λ (x : Input Msg). (stamp_of x).reading) v.is in
      let tr : reading h c j ≡ m = reading_in h u c t.at ∙ ap (λ (x : Input Msg). (stamp_of x).reading) t.is in
      ⊎_elim
      (λ (less : j < i).
      let ends = after_tick plan ring c j inside td
      (tick_event plan ring u c t.at inside t.done ∙ ap is_tick_input t.is) in
      let rise = opens_rise ring.run c inside (suc j) i less (omega arith) in
      let by = opens_by ring.run c inside i vd in
      absurd (omega arith))
      (λ (by : i ≤ j). let rise = ring.run.rising c i j inside by td in omega arith)
      (cases_lt j i)

  -- A reading is the true time of its beat, or at most the skew above it.
  reads_in : (w : WhichLife) {c b l : ℕ} → TickedAt p (life_in h w) c b l
      → (time_of p b ≤ l) × (l ≤ time_of p b + p.skew)
  reads_in w {c} {b} {l} t =
      let inputs : ℕ → Input Msg = (life_in h w).input c in
      let r = (lived plan ring w c t.small).reads t.at t.done in
      let tb : time_of p (beat_at inputs t.at) ≡ time_of p b = ap (λ (i : Input Msg). time_of p (stamp_of i).beat) t.is in
      let tr : reading_at inputs t.at ≡ l = ap (λ (i : Input Msg). (stamp_of i).reading) t.is in
      let r0 = r.0 in
      let r1 = r.1 in
      (omega arith, omega arith)

  pub reads : {c b l : ℕ} → (facts_of p orders h).Ticked c b l → (time_of p b ≤ l) × (l ≤ time_of p b + p.skew)
  reads t = ⊎_elim (λ q. reads_in First q) (λ q. reads_in Later q) t

  -- ---- deaths and returns

  -- A cub returns in one beat, two beats after its death or more.
  pub return_is : {c v : ℕ} → BeganLate p (later_lives_of h) c v → v ≡ beat h c (first_events h c)
  return_is {c} {v} back =
      let a = begins_anew ring.run c (cub_inside plan ring c back.small) back.done in sym back.in_beat ∙ a.in_beat

  -- A cub dies in the last event of its first life.
  pub death_is : {c a : ℕ} (d : DiedAt p h c a) → d.at + 1 ≡ first_events h c
  death_is {c} {a} d =
      let inside = cub_inside plan ring c d.small in
      ⊎_elim
      (λ (early : d.at < first_events h c). first_ended ring.run c inside d.at early d.death)
      (λ (le : first_events h c ≤ d.at). ⊎_elim
      (λ (same : first_events h c ≡ d.at).
      let done = d.done in
      let back = first_back ring.run c inside (omega arith) in
      absurd (no_death_back (h.event c d.at) d.death (ap (λ k. is_return (h.event c k)) (sym same) ∙ back)))
      (λ (late : first_events h c < d.at).
      let z : true ≡ false = sym d.death ∙ later_alive ring.run c inside d.at late d.done in absurd (cc))
      (eq-or-lt_of_le le))
      (cases_lt d.at (first_events h c))

  -- A cub that comes to a tick after the beat of its death has come back since.
  pub again : {c b a : ℕ} → CameAt p h c b → DiedAt p h c a → a < b
      → (v : ℕ) × BeganLate p (later_lives_of h) c v × (a < v) × (v ≤ b)
  again {c} {b} {a} t d less =
      let inside = cub_inside plan ring c t.small in
      let end = death_is d in
      let db = d.in_beat in
      let tb = t.in_beat in
      let td = t.done in
      ⊎_elim
      (λ (early : t.at < first_events h c).
      let r = rises plan ring c t.at d.at inside (omega arith) d.done in absurd (omega arith))
      (λ (le : first_events h c ≤ t.at). ⊎_elim
      (λ (same : first_events h c ≡ t.at).
      let back = first_back ring.run c inside (omega arith) in
      absurd (no_back (h.event c t.at) t.tick (ap (λ k. is_return (h.event c k)) (sym same) ∙ back)))
      (λ (late : first_events h c < t.at).
      let some : 0 < (later_lives_of h).count c = omega arith in
      let new = begins_anew ring.run c inside some in
      let apart = new.apart d.at (omega arith) in
      let r = rises plan ring c (first_events h c) t.at inside (omega arith) td in
      (beat h c (first_events h c), began_late plan ring c t.small some, omega arith, omega arith))
      (eq-or-lt_of_le le))
      (cases_lt t.at (first_events h c))

  -- In its first life a cub comes to no tick after the beat of its death.
  pub last : {c b a : ℕ} → CameAt p h c b → DiedAt p h c a → IsFirstLife (facts_of p orders h) c b → b ≤ a
  last {c} {b} {a} t d first = ⊎_elim
      (λ (less : a < b).
      let r = again t d less in
      let low = first r.0 r.1 in
      let by = r.3 in
      absurd (omega arith))
      (λ (le : b ≤ a). le)
      (cases_lt a b)

  -- Who comes back has died.
  pub returned : {c v : ℕ} → BeganLate p (later_lives_of h) c v → DiedBy (facts_of p orders h) c v
  returned {c} {v} back =
      let inside = cub_inside plan ring c back.small in
      let some = back.done in
      let d = died ring.run c inside (omega arith) in
      let next = d.next in
      let apart = d.apart in
      let is = return_is back in
      record {
        beat = beat h c d.at;
        died = record { small = back.small; at = d.at; done = omega arith; death = d.death; in_beat = refl };
        by = omega arith;
      }

  -- By each beat a cub has not come back, or there is a last time.
  pub returns : (c b : ℕ) → IsFirstLife (facts_of p orders h) c b ⊎ LastReturn (facts_of p orders h) c b
  returns c b = ⊎_elim
      (λ (none : (later_lives_of h).count c < 1). inl (λ v back. let some = back.done in absurd (omega arith)))
      (λ (some : 1 ≤ (later_lives_of h).count c). ⊎_elim
      (λ (less : b < beat h c (first_events h c)). inl (λ v back. let is = return_is back in omega arith))
      (λ (by : beat h c (first_events h c) ≤ b). ⊎_elim
      (λ (small : c < p.cubs). inr (record {
        beat = beat h c (first_events h c);
        returned = began_late plan ring c small (omega arith);
        by = by;
        last = λ v back le. let is = return_is back in omega arith;
      }))
      (λ (other : p.cubs ≤ c). inl (λ v back. let small = back.small in absurd (omega arith)))
      (cases_lt c p.cubs))
      (cases_lt b (beat h c (first_events h c))))
      (cases_lt ((later_lives_of h).count c) 1)

  -- ---- who has ended which beat

  -- No death cuts off an input that is not the last one.
  whole_early : (w : WhichLife) (c j : ℕ) → j + 1 < (life_in h w).count c → cut_in (life_in h w) c j ≡ None
  whole_early w c j more =
      ap (λ (t : Bool). cond t ((life_in h w).cut c) None) (ne_eqb (suc j) ((life_in h w).count c) (λ q. omega arith))

  -- A cub ended beat a in a life.
  pub record EndedIn (w : WhichLife) (d a : ℕ) : Type 0 where
    pub reading : ℕ
    pub ticked : TickedAt p (life_in h w) d a reading

  -- A cub ended in a life the beats of the ticks among its first inputs there, if no death cuts these off.
  pub ended_in : (w : WhichLife) (d a i : ℕ) → d < p.cubs → i ≤ (life_in h w).count d
      → ((j : ℕ) → j < i → cut_in (life_in h w) d j ≡ None) → beat_at ((life_in h w).input d) 0 ≤ a
      → a < beat_at ((life_in h w).input d) 0 + ticks_at ((life_in h w).input d) i → EndedIn w d a
  ended_in w d a i small low whole from less =
      let inputs : ℕ → Input Msg = (life_in h w).input d in
      let t = ticked_before inputs i (a - beat_at inputs 0) (omega arith) in
      let tb = t.before in
      let number = t.number in
      let s = tick_of (inputs t.at) t.tick in
      let in_it = (lived plan ring w d small).in_beat t.at (omega arith) in
      let eb : beat_at inputs t.at ≡ a = omega arith in
      let sb : s.0.beat ≡ a = sym (ap (λ (i : Input Msg). (stamp_of i).beat) s.1) ∙ eb in
      record {
        reading = s.0.reading;
        ticked = record {
          small = small;
          at = t.at;
          done = omega arith;
          is = s.1 ∙ ap (λ (q : Stamp). Tick q) (stamp_made s.0 a sb);
          whole = whole t.at tb;
        };
      }

  -- A first life begins in beat 0.
  pub first_opens : (c : ℕ) → c < p.cubs → 0 < acting h c → beat_at (lives.input c) 0 ≡ 0
  first_opens c small some =
      let inside = cub_inside plan ring c small in
      let b = before plan ring First c 0 inside some in
      let in_it = beat_in h First c 0 in
      let opened = ring.run.in_beat c 0 inside b.done (first_here ring.run c inside 0 b.low) in
      omega arith

  -- A life began by each beat that is of one life with an input of it.
  pub opened_by : (w : WhichLife) (c i b : ℕ) → c < p.cubs → i < (life_in h w).count c
      → b ≤ beat_at ((life_in h w).input c) i
      → IsInOneLife (beyond_with p orders added h) c b (beat_at ((life_in h w).input c) i)
      → beat_at ((life_in h w).input c) 0 ≤ b
  opened_by First c i b small low le one = let z = first_opens c small (omega arith) in omega arith
  opened_by Later c i b small low le one =
      let some : 0 < (later_lives_of h).count c = omega arith in
      let late = began_late plan ring c small some in
      let in_it = late.in_beat in
      let rise = order.beats_rise p ((later_lives_of h).count c) ((later_lives_of h).input c) (lived plan ring Later c small) 0 i
      (omega arith) low in
      let by = one (beat h c (first_events h c)) late (omega arith) in
      omega arith

  -- A cub that takes a message has ended each lower beat of that life.
  pub ended_before : (w : WhichLife) {c b y : ℕ} {m : Msg} → TookMessage p (life_in h w) c m y → b < y
      → IsInOneLife (beyond_with p orders added h) c b y → EndedIn w c b
  ended_before w {c} {b} {y} {m} g low one =
      let inputs : ℕ → Input Msg = (life_in h w).input c in
      let yb : beat_at inputs g.at ≡ y = ap (λ (i : Input Msg). (stamp_of i).beat) g.is in
      let in_it = (lived plan ring w c g.small).in_beat g.at g.done in
      let from = opened_by w c g.at b g.small g.done (omega arith)
      (subst (λ x. IsInOneLife (beyond_with p orders added h) c b x) (sym yb) one) in
      let done = g.done in
      ended_in w c b g.at g.small (omega arith) (λ j less. whole_early w c j (omega arith)) from (omega arith)

  joined_end : (w : WhichLife) {c b : ℕ} → EndedIn w c b → Ended (facts_of p orders h) c b
  joined_end w e = record { reading = e.reading; ticked = joined_tick w e.ticked }

  -- The ticks of a first life are those of its events.
  first_ticks : (d i : ℕ) → d < p.cubs → i ≤ acting h d → ticks h d i ≡ ticks_at (lives.input d) i
  first_ticks d i small low =
      let inside = cub_inside plan ring d small in
      ticks_acting h d (first_here ring.run d inside) (first_ended ring.run d inside) i low

  -- A cub ended in its first life the beats that its ticks before an event count, if none of the events before it is a death.
  ended_first : (d a n : ℕ) → d < p.cubs → n ≤ acting h d → ((j : ℕ) → j < n → is_death (h.event d j) ≡ false)
      → a < ticks h d n → EndedIn First d a
  ended_first d a n small low alive less =
      let inside = cub_inside plan ring d small in
      let same = first_ticks d n small low in
      ⊎_elim
      (λ (some : 0 < n).
      let opens = first_opens d small (omega arith) in
      ended_in First d a n small low
      (λ j below. whole_alive plan ring First d j inside (omega arith) (alive j below)) (omega arith) (omega arith))
      (λ (none : n ≤ 0).
      let z : n ≡ 0 = omega arith in
      let q : ticks h d n ≡ 0 = ap (ticks h d) z in
      absurd (omega arith))
      (cases_lt 0 n)

  -- A cub that lives on is in its first life.
  living : (d a : ℕ) → d < p.cubs → LivesOn h d → a < open_beat h d (h.count d) → LivedTo (facts_of p orders h) d a
  living d a small l up =
      let inside = cub_inside plan ring d small in
      let one = one_life plan ring d inside l in
      let all = all_act plan ring d inside l in
      let opened = open_first ring.run d inside (h.count d) (omega arith) in
      let e = ended_first d a (h.count d) small (omega arith) l.none (omega arith) in
      record {
        reading = e.reading;
        ticked = inl e.ticked;
        first = λ v back. let some = back.done in absurd (omega arith);
      }

  -- One that dies has ended each lower beat than that of its death in its first life.
  dying : (d a : ℕ) → d < p.cubs → EndsInDeath h d
      → LivedTo (facts_of p orders h) d a ⊎ DiedBy (facts_of p orders h) d a
  dying d a small e =
      let inside = cub_inside plan ring d small in
      let n : ℕ = e.at in
      let last = e.last in
      let most = first_low ring.run d inside in
      let in_it = ring.run.in_beat d n inside (omega arith) (first_here ring.run d inside n (omega arith)) in
      let opened = open_first ring.run d inside n (omega arith) in
      let acts = most_act h d (first_here ring.run d inside) (first_ended ring.run d inside) in
      ⊎_elim
      (λ (less : a < ticks h d n).
      let q = ended_first d a n small (omega arith) (λ j below. alive_before j below) less in
      inl (record {
        reading = q.reading;
        ticked = inl q.ticked;
        first = λ v back.
            let new = begins_anew ring.run d inside back.done in
            let apart = new.apart n (omega arith) in
            let is = return_is back in
            omega arith;
      }))
      (λ (more : ticks h d n ≤ a).
      inr (record {
        beat = beat h d n;
        died = record { small = small; at = n; done = omega arith; death = e.death; in_beat = refl };
        by = omega arith;
      }))
      (cases_lt a (ticks h d n))
    where
      alive_before : (j : ℕ) → j < e.at → is_death (h.event d j) ≡ false
      alive_before j below = ⊎_elim
          (λ (t : is_death (h.event d j) ≡ true).
          let last = e.last in
          let z = first_ended ring.run d (cub_inside plan ring d small) j (omega arith) t in absurd (omega arith))
          (λ (f : is_death (h.event d j) ≡ false). f)
          (cases_Bool (is_death (h.event d j)))

  -- If a cub is not behind beat b unless it dies, it has ended each lower beat in its first life, or
  -- died by then.
  pub lived_or_died : (d a b : ℕ) → d < p.cubs → a < b → (LivesOn h d → b ≤ open_beat h d (h.count d))
      → LivedTo (facts_of p orders h) d a ⊎ DiedBy (facts_of p orders h) d a
  lived_or_died d a b small low up = ⊎_elim
      (λ (l : LivesOn h d). let r = up l in inl (living d a small l (omega arith)))
      (λ (e : EndsInDeath h d). dying d a small e)
      (how plan ring d (cub_inside plan ring d small))

  -- Before a cub comes to the tick of a beat, each cub has ended each lower beat in its first life,
  -- or died.
  pub up : {c b d a : ℕ} → CameAt p h c b → a < b → d < p.cubs
      → LivedTo (facts_of p orders h) d a ⊎ DiedBy (facts_of p orders h) d a
  up {c} {b} {d} {a} w low small =
      lived_or_died d a b small low
      (λ lives. not_behind plan ring c b d w (cub_inside plan ring d small) (is_up plan ring d lives))

  -- If each node that is up has ended each beat below end, each cub has ended beat b below it in its
  -- first life, or died by then.
  pub ends : {end c b : ℕ} → IsUpTo p end h → b < end → c < p.cubs
      → LivedTo (facts_of p orders h) c b ⊎ DiedBy (facts_of p orders h) c b
  ends {end} {c} {b} whole low small =
      lived_or_died c b end small low
      (λ lives. whole.until c (cub_inside plan ring c small) (is_up plan ring c lives))

  -- The laws of the run.
  pub run_laws : RunLaws p (facts_of p orders h)
  run_laws = record {
    came = came;
    up = λ w low small. up w low small;
    last = λ w d first. last w d first;
    again = λ w d after. again w d after;
    returned = λ back. returned back;
    returns = returns;
    apart = λ d e to. ring.deaths.apart _ _ d.at e.at d.small e.small d.done e.done d.death e.death to;
    got_ended = λ g low one. ⊎_elim (λ q. joined_end First (ended_before First q low one))
        (λ q. joined_end Later (ended_before Later q low one)) g;
    reached_ended = λ g low one. ⊎_elim (λ q. joined_end First (ended_before First q.took low one))
        (λ q. joined_end Later (ended_before Later q.took low one)) g;
    reads = reads;
  }
