-- Below the beat of any event each cub has ended each beat, or was dead in it; and a whole tick of a first life is of a
-- lower beat than the cub's death.
use Rattle.std.proofs.Common.{◌≡◌, ℕ, zero, suc, ◌+◌, ◌-◌, ◌<◌, ◌≤◌, List, true, false, refl, sym, ap, subst, ◌∙◌, arith, ⊎_elim, inl, inr, eq-or-lt_of_le}
use Rattle.std.specs.Prelude.{◌⊎◌}
use Rattle.std.proofs.lemmas.Bool.{cases_Bool, cases_lt, true≢false}
use Rattle.tiger_base.specs.declared.number.Stamp.{Stamp}
use Rattle.tiger_base.specs.declared.message.Msg.{Msg}
use Rattle.slot_plan.specs.declared.params.Params.{Params}
use Rattle.node_kit.specs.declared.course.Order.{Order}
use Rattle.node_kit.specs.Steps.{Deed, Input, stamp_of}
use Rattle.node_kit.specs.Steps.Input.{Tick}
use Rattle.run_facts.specs.Events.{NodeEvent, is_tick, is_death, is_return, stamp_at, is_tick_input}
use Rattle.run_facts.specs.Events.NodeEvent.{Does, Ends, Dies, Returns}
use Rattle.run_facts.specs.Histories.{History, IsUp, beat, open_beat}
use Rattle.run_facts.proofs.Counts.{count-numbered}
use Rattle.disk_core.specs.State.{DiskState}
use Rattle.proof_lives.specs.Facts.{TickedAt}
use Rattle.proof_lives.specs.Histories.{cut_of_event, first_events, input_of}
use Rattle.proof_lives.specs.Lives.{Lives, BeganLate, beat_at}
use Rattle.proof_lives.specs.TwoLifeRun.{WhichLife, event_in, life_in}
use Rattle.proof_lives.specs.TwoLifeRun.WhichLife.{First, Later}
use Rattle.proof_lives.proofs.Acting.{acts_at, alive_whole}
use Rattle.proof_lives.proofs.Carrying.{tick_same}
use Rattle.proof_lives.proofs.Order.{beats_rise, ticked_before}
use Rattle.proof_lives.proofs.Returns.{died, ends_beat, first_back, first_ended, first_here, first_low, later_alive, open_first, open_later, opens_by, opens_rise}
use Rattle.proof_lives.proofs.States.{stamp_made}
use Rattle.proof_lives.proofs.TwoLives.{beat_in, begins_anew, cut_in_run, has_acted, input_in, lived_in, of_life, within_run}
use Rattle.proof_schedule.specs.Facts.{Ended, IsFirstLife}
use Rattle.proof_moments.specs.Ties.{IsDeadIn}
use Rattle.proof_facts.specs.Beside.{Additions}
use Rattle.proof_facts.specs.Facts.{facts_of}
use Rattle.proof_facts.specs.Lives.{later_from, later_lives_of, lives_of, DiedAt}
use Rattle.proof_facts.specs.Rings.{IsRingWith, node_count}
use Rattle.proof_journals.proofs.BothLives.{by_life, in_life}
use Rattle.proof_journals.proofs.Living.{tick_is, whole_lives}

-- No event is both a death and a return.
apart_from_return : (e : NodeEvent Msg) → is_death e ≡ true → is_return e ≡ true → ⊥
apart_from_return (Does i) d b = absurd (cc)
apart_from_return (Ends i sends) d b = absurd (cc)
apart_from_return (Dies stamp) d b = absurd (cc)
apart_from_return (Returns stamp) d b = absurd (cc)

module _ {S : Type 0} {step : S → Input Msg → Deed Msg S} {p : Params} {orders : List Order}
    {disk_at : ℕ → DiskState} {added : Additions} {h : History Msg S}
    (ring : IsRingWith step p orders disk_at added h) where
  -- ---- deaths and returns

  -- A node dies in one of its first events, or in none of them.
  died_among : (c k : ℕ)
      → ((i : ℕ) × (i < k) × (is_death (h.event c i) ≡ true)) ⊎ ((i : ℕ) → i < k → is_death (h.event c i) ≡ false)
  died_among c zero = inr (λ i low. absurd (omega arith))
  died_among c (suc m) = ⊎_elim
      (λ d. let less = d.1 in inl (d.0, (let z : d.0 < suc m = omega arith in z), d.2))
      (λ none. ⊎_elim
      (λ (t : is_death (h.event c m) ≡ true). inl (m, (let z : m < suc m = omega arith in z), t))
      (λ (f : is_death (h.event c m) ≡ false). inr (λ i low. ⊎_elim
      (λ (q : i ≡ m). ap (λ (j : ℕ). is_death (h.event c j)) q ∙ f)
      (λ (l : i < m). none i l)
      (eq-or-lt_of_le (let z : i ≤ m = omega arith in z))))
      (cases_Bool (is_death (h.event c m))))
      (died_among c m)

  -- A death is the last event before a return, if one comes.
  pub death_first : (c i : ℕ) → c < node_count p → i < h.count c → is_death (h.event c i) ≡ true
      → i + 1 ≡ first_events h c
  death_first c i known low dead = ⊎_elim
      (λ (l : i < first_events h c). first_ended ring.run c known i l dead)
      (λ (le : first_events h c ≤ i). ⊎_elim
      (λ (e : first_events h c ≡ i).
      let back = first_back ring.run c known (omega arith) in
      absurd (apart_from_return (h.event c i) dead (subst (λ k. is_return (h.event c k) ≡ true) e back)))
      (λ (more : first_events h c < i).
      absurd (true≢false (sym dead ∙ later_alive ring.run c known i more low)))
      (eq-or-lt_of_le le))
      (cases_lt i (first_events h c))

  -- A cub that has a later life came back when that begins.
  pub came_back : (c : ℕ) → c < p.cubs → 0 < (later_lives_of h).count c
      → BeganLate p (later_lives_of h) c (beat_at ((later_lives_of h).input c) 0)
  came_back c small some =
      let known : c < node_count p = omega arith in
      let anew = begins_anew ring.run c known some in
      let d = died ring.run c known (omega arith) in
      let next = d.next in
      let far = anew.apart d.at (omega arith) in
      let same = anew.in_beat in
      record { small = small; done = some; in_beat = refl; later = omega arith }

  -- ---- ended beats

  -- A tick that is no death ends its beat, in whichever life it is.
  ended_by : (c i b : ℕ) → c < p.cubs → i < h.count c → is_tick (h.event c i) ≡ true → is_death (h.event c i) ≡ false
      → beat h c i ≡ b → Ended (facts_of p orders h) c b
  ended_by c i b small done tick alive when =
      let known : c < node_count p = omega arith in
      let l = of_life ring.run c known i done (tick_is (h.event c i) tick).1 in
      let lives : Lives = life_in h l.which in
      let stamp : Stamp = stamp_at (h.event c i) in
      let is : lives.input c l.at ≡ Tick (record { beat = b; reading = stamp.reading }) =
      input_in h l.which c l.at
      ∙ ap (λ (j : ℕ). input_of (h.event c j)) (sym l.is)
      ∙ (tick_is (h.event c i) tick).0
      ∙ ap (λ (s : Stamp). Tick s) (stamp_made stamp b when) in
      let whole = cut_in_run ring.run c known l.which l.at l.done
      ∙ ap (λ (j : ℕ). cut_of_event (h.event c j)) (sym l.is)
      ∙ alive_whole (h.event c i) alive in
      record {
        reading = stamp.reading;
        ticked = in_life h (λ x. TickedAt p x c b stamp.reading) l.which
            (record { small = small; at = l.at; done = l.done; is = is; whole = whole });
      }

  -- Before a return there is the tick of each beat below the open one.
  record IsTickIn (c i b : ℕ) : Type 0 where
    at : ℕ
    before : at < i
    tick : is_tick (h.event c at) ≡ true
    when : beat h c at ≡ b

  first_tick : (c i b : ℕ) → c < node_count p → i ≤ first_events h c → b < open_beat h c i → IsTickIn c i b
  first_tick c i b known low less =
      let same = open_first ring.run c known i low in
      let k = count-numbered is_tick h c i b (omega arith) in
      let kb = k.before in
      let most = first_low ring.run c known in
      let here = first_here ring.run c known k.at (omega arith) in
      let in_it = ring.run.in_beat c k.at known (omega arith) here in
      let opened = open_first ring.run c known k.at (omega arith) in
      let number = k.number in
      record { at = k.at; before = omega arith; tick = k.passes; when = omega arith }

  -- So each beat below that of its death a cub ended,
  ended_first : (c b d : ℕ) → c < p.cubs → d < h.count c → is_death (h.event c d) ≡ true → b < beat h c d
      → Ended (facts_of p orders h) c b
  ended_first c b d small done dead less =
      let known : c < node_count p = omega arith in
      let last = death_first c d known done dead in
      let in_it = ring.run.in_beat c d known done (first_here ring.run c known d (omega arith)) in
      let t = first_tick c d b known (omega arith) (omega arith) in
      let before = t.before in
      ended_by c t.at b small (omega arith) t.tick
      (⊎_elim
      (λ (u : is_death (h.event c t.at) ≡ true).
      let same = ring.run.once c t.at d known (omega arith) done u dead in absurd (omega arith))
      (λ (f : is_death (h.event c t.at) ≡ false). f)
      (cases_Bool (is_death (h.event c t.at)))) t.when

  -- and each below its open one, if it never dies.
  ended_alive : (c b : ℕ) → c < p.cubs → ((i : ℕ) → i < h.count c → is_death (h.event c i) ≡ false)
      → b < open_beat h c (h.count c) → Ended (facts_of p orders h) c b
  ended_alive c b small alive less =
      let known : c < node_count p = omega arith in
      let all : h.count c ≤ first_events h c = ⊎_elim
      (λ (l : first_events h c < h.count c).
      let d = died ring.run c known l in
      let next = d.next in
      absurd (true≢false (sym d.death ∙ alive d.at (omega arith))))
      (λ (g : h.count c ≤ first_events h c). g)
      (cases_lt (first_events h c) (h.count c)) in
      let t = first_tick c (h.count c) b known all less in
      ended_by c t.at b small t.before t.tick (alive t.at t.before) t.when

  -- So is each from its return on.
  ended_later : (c b : ℕ) → c < p.cubs → 0 < (later_lives_of h).count c
      → beat_at ((later_lives_of h).input c) 0 ≤ b → b < open_beat h c (h.count c) → Ended (facts_of p orders h) c b
  ended_later c b small some since less =
      let known : c < node_count p = omega arith in
      let lives : Lives = later_lives_of h in
      let anew = begins_anew ring.run c known some in
      let first = anew.in_beat in
      let all : later_from h c + lives.count c ≡ h.count c = omega arith in
      let opened = open_later ring.run c known (lives.count c) (omega arith) in
      let same : open_beat h c (later_from h c + lives.count c) ≡ open_beat h c (h.count c) = ap (open_beat h c) all in
      let w : ℕ = beat_at (lives.input c) 0 in
      let t = ticked_before (lives.input c) (lives.count c) (b - w) (omega arith) in
      let number = t.number in
      let life = lived_in ring.run c known Later (λ i low. ring.short c i known low) in
      let when = life.in_beat t.at t.before in
      let e : ℕ = event_in h Later c t.at in
      let done = within_run ring.run c known Later t.at t.before in
      let acts = has_acted ring.run c known Later t.at t.before in
      let in_it = beat_in h Later c t.at in
      ended_by c e b small done (tick_same (h.event c e) acts ∙ t.tick)
      (later_alive ring.run c known e (omega arith) done) (omega arith)

  -- ---- dead in a beat

  -- A cub that died and has not come back by a beat is dead in it.
  dead_in : (c b d : ℕ) → c < p.cubs → d < h.count c → is_death (h.event c d) ≡ true → beat h c d ≤ b
      → IsFirstLife (facts_of p orders h) c b → IsDeadIn (facts_of p orders h) c b
  dead_in c b d small done dead late away = record {
    died = record {
      beat = beat h c d;
      died = record { small = small; at = d; done = done; death = dead; in_beat = refl };
      by = late;
    };
    away = away;
  }

  -- A cub that died is up if it has a later life.
  up_later : (c d : ℕ) → c < p.cubs → d < h.count c → is_death (h.event c d) ≡ true
      → 0 < (later_lives_of h).count c → IsUp h c
  up_later c d small done dead some i low died_too =
      let last = death_first c i (omega arith) low died_too in omega arith

  since_death : (n i c b d : ℕ) → n < node_count p → i < h.count n → b < beat h n i → c < p.cubs → d < h.count c
      → is_death (h.event c d) ≡ true → beat h c d ≤ b
      → Ended (facts_of p orders h) c b ⊎ IsDeadIn (facts_of p orders h) c b
  since_death n i c b d known low less small done dead late =
      let lives : Lives = later_lives_of h in
      let w : ℕ = beat_at (lives.input c) 0 in
      ⊎_elim
      (λ (some : 0 < lives.count c). ⊎_elim
      (λ (l : b < w). inr (dead_in c b d small done dead late (λ x back. let e = back.in_beat in omega arith)))
      (λ (g : w ≤ b).
      let up = ring.run.level n c i known (omega arith) low (up_later c d small done dead some) in
      inl (ended_later c b small some g (omega arith)))
      (cases_lt b w))
      (λ (none : lives.count c ≤ 0).
      inr (dead_in c b d small done dead late (λ x back. let some = back.done in absurd (omega arith))))
      (cases_lt 0 (lives.count c))

  pub ended_or_dead : (n i c b : ℕ) → n < node_count p → i < h.count n → b < beat h n i → c < p.cubs
      → Ended (facts_of p orders h) c b ⊎ IsDeadIn (facts_of p orders h) c b
  ended_or_dead n i c b known low less small = ⊎_elim
      (λ d. ⊎_elim
      (λ (early : b < beat h c d.0). inl (ended_first c b d.0 small d.1 d.2 early))
      (λ (late : beat h c d.0 ≤ b). since_death n i c b d.0 known low less small d.1 d.2 late)
      (cases_lt b (beat h c d.0)))
      (λ alive.
      let up = ring.run.level n c i known (omega arith) low
      (λ j j_low dead. absurd (true≢false (sym dead ∙ alive j j_low))) in
      inl (ended_alive c b small alive (omega arith)))
      (died_among c (h.count c))

  -- ---- ticks before a death

  -- A whole tick of a first life is of a lower beat than the death.
  first_below_death : (c b l a : ℕ) → TickedAt p (lives_of h) c b l → DiedAt p h c a → b < a
  first_below_death c b l a w d =
      let known : c < node_count p = let small = w.small in omega arith in
      let done = within_run ring.run c known First w.at w.done in
      let acts = has_acted ring.run c known First w.at w.done in
      let alive = whole_lives (h.event c w.at) acts (sym (cut_in_run ring.run c known First w.at w.done) ∙ w.whole) in
      let last = death_first c d.at known d.done d.death in
      let in_first = (acts_at h c (first_here ring.run c known) (first_ended ring.run c known) w.at w.done).done in
      let tick : is_tick (h.event c w.at) ≡ true = tick_same (h.event c w.at) acts ∙ ap is_tick_input w.is in
      let when : beat h c w.at ≡ b = beat_in h First c w.at ∙ ap (λ (q : Input Msg). (stamp_of q).beat) w.is in
      let died_when = d.in_beat in
      ⊎_elim
      (λ (e : w.at ≡ d.at).
      absurd (true≢false (sym d.death ∙ ap (λ (i : ℕ). is_death (h.event c i)) (sym e) ∙ alive)))
      (λ (less : w.at < d.at).
      let ends = ends_beat ring.run c known w.at done tick in
      let ddone = d.done in
      let rise = opens_rise ring.run c known (suc w.at) d.at less (omega arith) in
      let by = opens_by ring.run c known d.at d.done in
      omega arith)
      (eq-or-lt_of_le (let z : w.at ≤ d.at = omega arith in z))

  -- In a later life there is no such tick.
  pub tick_below_death : (c b l a : ℕ) → (facts_of p orders h).Ticked c b l → IsFirstLife (facts_of p orders h) c b
      → DiedAt p h c a → b < a
  tick_below_death c b l a k first d = by_life h (λ lives. TickedAt p lives c b l)
      (λ which w. of_first which w)
      k
    where
      of_first : (which : WhichLife) → TickedAt p (life_in h which) c b l → b < a
      of_first First w = first_below_death c b l a w d
      of_first Later w =
          let lives : Lives = later_lives_of h in
          let known : c < node_count p = let small = w.small in omega arith in
          let some : 0 < lives.count c = let done = w.done in omega arith in
          let life = lived_in ring.run c known Later (λ i low. ring.short c i known low) in
          let rise = beats_rise p (lives.count c) (lives.input c) life 0 w.at (omega arith) w.done in
          let when : beat_at (lives.input c) w.at ≡ b = ap (λ (q : Input Msg). (stamp_of q).beat) w.is in
          let before = first _ (came_back c w.small some) in
          absurd (omega arith)
