-- A prefix of a run, up to the middle of a beat, meets all laws too.
use Rattle.std.proofs.Common.{ℕ, ◌<◌, ◌≤◌, arith, ⊎_elim, inl, inr}
use Rattle.tiger_base.specs.declared.tenancy.Ask.{Ask}
use Rattle.tiger_base.specs.declared.tenancy.Tenancy.{Tenancy}
use Rattle.slot_plan.specs.declared.params.Params.{Params}
use Rattle.slot_plan.proofs.Times.{time_below}
use Rattle.proof_schedule.specs.Facts.{Facts, Ended, LivedTo, GotBy, GotTagBy, GotBareBy, PassedBy, ReachedBy, BelievedBy, DiedBy, GoneBefore, Late, IsReleasedBy, IsUnheld, Cut, Entered, EnteredBy, EnteredAmong, Knows, Takes}
use Rattle.proof_schedule.specs.RunLaws.{IsTick, RunLaws}
use Rattle.proof_schedule.specs.LinkLaws.{WasSent, LinkLaws}
use Rattle.proof_schedule.specs.StateLaws.{StateLaws, PutsForDead, Stands, Inserts, Forwards, Sends, Found, Meeting, IsShown}
use Rattle.proof_schedule.specs.StartLaws.{StartLaws, IsPlacedBy, Comes, Waits}
use Rattle.proof_schedule.specs.WatchLaws.{WatchLaws}
use Rattle.proof_schedule.specs.StopLaws.{StopLaws}
use Rattle.proof_schedule.specs.HoldLaws.{HoldLaws, IsPass}
use Rattle.proof_schedule.specs.Laws.{Laws}
use Rattle.proof_schedule.proofs.Room.{Room}

-- The prefix of a run up to the middle of beat b: in beat b the messages are taken, and nobody has
-- ticked. What cubs do in a tick is kept of lower beats, and what comes of a message of beat b too.
-- Orders, starts, heartbeats, deaths and returns are kept whole, since no law needs less.
abbrev pub prefix : Facts → ℕ → Facts
prefix r b = record {
  Came = λ c y. r.Came c y × (y ≤ b);
  Ticked = λ c y l. r.Ticked c y l × (y < b);
  Put = λ c t y. r.Put c t y × (y < b);
  Inserted = λ c t n y. r.Inserted c t n y × (y < b);
  Took = λ c t n y. r.Took c t n y × (y ≤ b);
  Shows = λ c t n y. r.Shows c t n y × (y < b);
  Sent = λ a k t m y. r.Sent a k t m y × (y < b);
  Got = λ c t m y. r.Got c t m y × (y ≤ b);
  Begun = r.Begun;
  Asked = r.Asked;
  AskedApart = r.AskedApart;
  Gone = λ v y. r.Gone v y × (y ≤ b);
  StoppedAt = λ v s n y. r.StoppedAt v s n y × (y ≤ b);
  StoppedWaiting = λ v d y. r.StoppedWaiting v d y × (y ≤ b);
  Told = λ a k v s q y. r.Told a k v s q y × (y ≤ b);
  Reached = λ c v y. r.Reached c v y × (y ≤ b);
  GotTag = λ c v s q y. r.GotTag c v s q y × (y ≤ b);
  GotBare = λ c v y. r.GotBare c v y × (y ≤ b);
  Passed = λ c v s q y. r.Passed c v s q y × (y ≤ b);
  Died = r.Died;
  Returned = r.Returned;
  Beat = r.Beat;
  Heard = r.Heard;
  Believed = λ c y. r.Believed c y × (y < b);
}

-- From the prefix to the run.
module _ (p : Params) (r : Facts) (b : ℕ) where
  -- A deschedule that came.
  pub run_reached : {c v y : ℕ} → ReachedBy (prefix r b) c v y → ReachedBy r c v y
  run_reached k = record { beat = k.beat; reached = k.reached.0; by = k.by }

  -- A deschedule that was passed on.
  pub run_passed : {c v y : ℕ} → PassedBy (prefix r b) c v y → PassedBy r c v y
  run_passed k = record { slot = k.slot; visit = k.visit; beat = k.beat; passed = k.passed.0; by = k.by }

  -- A stop that is long ago.
  pub run_late : {v y : ℕ} → Late p (prefix r b) v y → Late p r v y
  run_late k = record { beat = k.beat; gone = k.gone.0; late = k.late }

  -- A cut.
  pub run_cut : {c v y : ℕ} → Cut p (prefix r b) c v y → Cut p r c v y
  run_cut k = ⊎_elim (λ a. inl (run_reached a)) (λ a. inr (run_late a)) k

  -- A record that entered.
  pub run_entered : {c n y : ℕ} {t : Tenancy} → Entered (prefix r b) c t n y → Entered r c t n y
  run_entered k = ⊎_elim (λ a. inl a.0) (λ a. inr a.0) k

  -- A record that entered by a beat.
  pub run_entered_by : {c n y : ℕ} {t : Tenancy} → EnteredBy (prefix r b) c t n y
      → EnteredBy r c t n y
  run_entered_by k =
      record { beat = k.beat; entered = run_entered k.entered; by = k.by; life = k.life }

  -- What a cub knows.
  pub run_knows : {c n y : ℕ} {t : Tenancy} → Knows p (prefix r b) c t n y → Knows p r c t n y
  run_knows k = ⊎_elim (λ a. inl (run_entered_by a)) (λ a. inr (run_cut a)) k

  -- What a cub that got a state has.
  pub run_takes : {c n y : ℕ} {t : Tenancy} → Takes p (prefix r b) c t n y → Takes p r c t n y
  run_takes k = ⊎_elim (λ a. inl (run_entered_by a)) (λ a. inr (⊎_elim (λ w. inl (run_passed w)) (λ w. inr (run_late w)) a)) k

-- From the run to the prefix.
module _ (p : Params) (room : Room p) (r : Facts) (b : ℕ) where
  -- A tick.
  prefix_ended : {c y : ℕ} → y < b → Ended r c y → Ended (prefix r b) c y
  prefix_ended l k = record { reading = k.reading; ticked = (k.ticked, l) }

  -- A tick of a first life.
  prefix_lived : {c y : ℕ} → y < b → LivedTo r c y → LivedTo (prefix r b) c y
  prefix_lived l k = record { reading = k.reading; ticked = (k.ticked, l); first = k.first }

  -- A death.
  prefix_died : {c y : ℕ} → DiedBy r c y → DiedBy (prefix r b) c y
  prefix_died k = record { beat = k.beat; died = k.died; by = k.by }

  -- A deschedule that came.
  pub prefix_reached : {c v y : ℕ} → y ≤ b → ReachedBy r c v y → ReachedBy (prefix r b) c v y
  prefix_reached l k = let by = k.by in record { beat = k.beat; reached = (k.reached, omega arith); by = by }

  -- A deschedule that was passed on.
  pub prefix_passed : {c v y : ℕ} → y ≤ b → PassedBy r c v y → PassedBy (prefix r b) c v y
  prefix_passed l k = let by = k.by in record { slot = k.slot; visit = k.visit; beat = k.beat; passed = (k.passed, omega arith); by = by }

  -- A deschedule that came with a tag.
  prefix_tag : {c v s q y : ℕ} → y ≤ b → GotTagBy r c v s q y → GotTagBy (prefix r b) c v s q y
  prefix_tag l k = let by = k.by in record { beat = k.beat; got = (k.got, omega arith); by = by }

  -- A deschedule that came without a tag.
  prefix_bare : {c v y : ℕ} → y ≤ b → GotBareBy r c v y → GotBareBy (prefix r b) c v y
  prefix_bare l k = let by = k.by in record { beat = k.beat; got = (k.got, omega arith); by = by }

  -- A state that came.
  prefix_got : {c m y : ℕ} {t : Tenancy} → y ≤ b → GotBy r c t m y → GotBy (prefix r b) c t m y
  prefix_got l k = let by = k.by in record { beat = k.beat; got = (k.got, omega arith); by = by }

  -- A belief.
  prefix_believed : {c y : ℕ} → y < b → BelievedBy r c y → BelievedBy (prefix r b) c y
  prefix_believed l k = let by = k.by in record { beat = k.beat; believed = (k.believed, omega arith); by = by }

  -- A stop.
  pub prefix_gone : {v y : ℕ} → y ≤ b → GoneBefore r v y → GoneBefore (prefix r b) v y
  prefix_gone l k = let before = k.before in record { beat = k.beat; gone = (k.gone, omega arith); before = before }

  -- What was over by a beat had begun before it.
  prefix_released : {c v y : ℕ} → y ≤ b → IsReleasedBy p r c v y → IsReleasedBy p (prefix r b) c v y
  prefix_released {c} {v} {y} l k =
      let over = k.over in
      let before = time_below p k.beat y (omega (arith, room)) in
      record { beat = k.beat; reached = (k.reached, omega arith); over = over }

  -- A stop that is long ago.
  pub prefix_late : {v y : ℕ} → y ≤ b → Late p r v y → Late p (prefix r b) v y
  prefix_late {v} {y} l k =
      let late = k.late in
      let before = time_below p k.beat y (omega (arith, room)) in
      record { beat = k.beat; gone = (k.gone, omega arith); late = late }

  -- A cut.
  pub prefix_cut : {c v y : ℕ} → y ≤ b → Cut p r c v y → Cut p (prefix r b) c v y
  prefix_cut l k = ⊎_elim (λ a. inl (prefix_reached l a)) (λ a. inr (prefix_late l a)) k

  -- A hold that was over.
  prefix_unheld : {c v x y : ℕ} → y ≤ b → IsUnheld p r c v x y → IsUnheld p (prefix r b) c v x y
  prefix_unheld l k = λ e w le life. prefix_released l (k e w.0 le life)

  -- A record that entered.
  prefix_entered : {c n y : ℕ} {t : Tenancy} → y < b → Entered r c t n y
      → Entered (prefix r b) c t n y
  prefix_entered l k = ⊎_elim (λ a. inl (a, omega arith)) (λ a. inr (a, omega arith)) k

  -- A record that entered by a beat.
  pub prefix_entered_by : {c n y : ℕ} {t : Tenancy} → y < b → EnteredBy r c t n y
      → EnteredBy (prefix r b) c t n y
  prefix_entered_by l k =
      let by = k.by in
      let entered = prefix_entered (omega arith) k.entered in
      record { beat = k.beat; entered = entered; by = by; life = k.life }

  -- A record that a message finds.
  prefix_among : {c n x y : ℕ} {t : Tenancy} → y ≤ b → EnteredAmong r c t n x y
      → EnteredAmong (prefix r b) c t n x y
  prefix_among l k = ⊎_elim (λ a. let a1 = a.1 in inl ((a.0, omega arith), a1)) (λ a. let a1 = a.1 in inr ((a.0, omega arith), a1)) k

  -- What a cub that got a state has.
  pub prefix_takes : {c n y : ℕ} {t : Tenancy} → y < b → Takes p r c t n y
      → Takes p (prefix r b) c t n y
  prefix_takes l k = ⊎_elim
      (λ a. inl (prefix_entered_by l a))
      (λ a. inr (⊎_elim (λ w. inl (prefix_passed (omega arith) w)) (λ w. inr (prefix_late (omega arith) w)) a))
      k

  -- States that went out to both.
  pub prefix_sends : {a m y : ℕ} {t : Tenancy} → y < b → Sends r a t m y
      → Sends (prefix r b) a t m y
  prefix_sends l k = let by = k.by in record { beat = k.beat; near = (k.near, omega arith); far = (k.far, omega arith); by = by }

  -- A state that came, with its sending.
  prefix_sent : {c m y : ℕ} {t : Tenancy} → y ≤ b → WasSent p r c t m y
      → WasSent p (prefix r b) c t m y
  prefix_sent l k =
      let later = k.later in
      record {
        from = k.from;
        ahead = k.ahead;
        beat = k.beat;
        sent = (k.sent, omega arith);
        to = k.to;
        later = later;
        soon = k.soon;
        life = k.life;
      }

  -- A tick, also one that is cut off.
  prefix_tick : {c y l : ℕ} → y ≤ b → IsTick p r c y l → IsTick p (prefix r b) c y l
  prefix_tick l k = record { came = (k.came, l); low = k.low; high = k.high }

  -- A record that stands in a view.
  prefix_stands : {c s n y : ℕ} → y < b → Stands p r c s n y → Stands p (prefix r b) c s n y
  prefix_stands l k =
      let by = k.by in
      record {
        holder = k.holder;
        slot = k.slot;
        beat = k.beat;
        entered = prefix_entered (omega arith) k.entered;
        by = by;
        since = prefix_unheld (omega arith) k.since;
        life = k.life;
      }

  -- A Put for a dead cub.
  prefix_for_dead : {c x : ℕ} {t : Tenancy} → x < b → PutsForDead p r c t x
      → PutsForDead p (prefix r b) c t x
  prefix_for_dead l k = record {
    next = k.next;
    believed = prefix_believed l k.believed;
    second = λ more. ⊎_elim (λ a. inl (a, l)) (λ a. inr (prefix_stands l a)) (k.second more);
  }

  -- A Put.
  prefix_inserts : {c x : ℕ} {t : Tenancy} → x < b → Inserts p r c t x
      → Inserts p (prefix r b) c t x
  prefix_inserts l k = record {
    reading = k.reading;
    tick = prefix_tick (omega arith) k.tick;
    whole = ⊎_elim (λ a. inl (a, l)) (λ a. inr a) k.whole;
    above = k.above;
    below = k.below;
    within = k.within;
    entered = (k.entered, l);
    first = k.first;
    who = ⊎_elim (λ a. inl (record { own = a.own; sent = (a.sent, l) })) (λ a. inr (prefix_for_dead l a)) k.who;
  }

  -- A state that is forwarded.
  prefix_forwards : {a m x : ℕ} {t : Tenancy} → x < b → Forwards p r a t m x
      → Forwards p (prefix r b) a t m x
  prefix_forwards l k = let by = k.by in record {
    visit = k.visit;
    next = k.next;
    more = k.more;
    own = k.own;
    beat = k.beat;
    entered = prefix_entered (omega arith) k.entered;
    by = by;
    reading = k.reading;
    tick = prefix_tick (omega arith) k.tick;
    soon = k.soon;
    fresh = ⊎_elim (λ a. inl a) (λ a. let next = a.next in inr (record { beat = a.beat; reading = a.reading; ticked = (a.ticked, omega arith); next = next; early = a.early })) k.fresh;
    since = prefix_unheld (omega arith) k.since;
    life = k.life;
  }

  -- A record that a state finds.
  prefix_found : {c s n y from ahead sent : ℕ} → y ≤ b → Found p r c s n y from ahead sent
      → Found p (prefix r b) c s n y from ahead sent
  prefix_found {c} {s} {n} {y} l k =
      let most : k.beat ≤ y = ⊎_elim (λ a. a.1) (λ a. let a1 = a.1 in omega arith) k.entered in
      record {
        holder = k.holder;
        slot = k.slot;
        beat = k.beat;
        entered = prefix_among l k.entered;
        behind = λ u q x w le life. prefix_released (omega arith) (k.behind u q x w.0 le life);
        since = λ e w le life. prefix_released (omega arith) (k.since e w.0 le life);
        life = k.life;
      }

  -- A state and what it finds.
  prefix_meeting : {c m y : ℕ} {t : Tenancy} → y ≤ b → Meeting p r c t m y
      → Meeting p (prefix r b) c t m y
  prefix_meeting l k = let later = k.later in record {
    from = k.from;
    ahead = k.ahead;
    beat = k.beat;
    sent = (k.sent, omega arith);
    to = k.to;
    later = later;
    soon = k.soon;
    tags = λ v s q x w le life. prefix_tag l (k.tags v s q x w.0 le life);
    places = λ n given let_in. ⊎_elim
        (λ a. inl (prefix_found l a))
        (λ a. inr (prefix_passed l a))
        (k.places n given let_in);
  }

  -- A record that is in a view after a tick.
  prefix_shown : {c n y : ℕ} {t : Tenancy} → y < b → IsShown p r c t n y
      → IsShown p (prefix r b) c t n y
  prefix_shown l k = let by = k.by in record {
    reading = k.reading;
    ticked = (k.ticked, l);
    undue = k.undue;
    beat = k.beat;
    entered = prefix_entered (omega arith) k.entered;
    by = by;
    since = prefix_unheld (omega arith) k.since;
    life = k.life;
  }

  -- An instance that is placed.
  prefix_placed : {c v y : ℕ} → y < b → IsPlacedBy r c v y → IsPlacedBy (prefix r b) c v y
  prefix_placed l k = let by = k.by in
      record { beat = k.beat; tenancy = k.tenancy; same = k.same; visit = k.visit; how = ⊎_elim (λ a. inl (a, omega arith)) (λ a. inr (a, omega arith)) k.how; by = by }

  -- The start of a Put.
  prefix_comes : {c x : ℕ} {t : Tenancy} → x < b → Comes p r c t x → Comes p (prefix r b) c t x
  prefix_comes l k = let before = k.before in record {
    ask = k.ask;
    asked = k.asked;
    start = k.start;
    came = k.came;
    before = before;
    since = prefix_unheld (omega arith) k.since;
    unshown = λ u n y w same le. ⊎_elim
        (λ a.
        let early = a.before in
        inl (record { beat = a.beat; reading = a.reading; ticked = (a.ticked, omega arith); before = early; due = a.due }))
        (λ a. inr (prefix_released (omega arith) a))
        (k.unshown u n y w.0 same le);
  }

  -- A deschedule that is passed on.
  prefix_pass : {c v s q y : ℕ} → y ≤ b → IsPass p r c v s q y → IsPass p (prefix r b) c v s q y
  prefix_pass l k = record {
    at = k.at;
    reached = prefix_reached l k.reached;
    how = ⊎_elim
        (λ a. inl (record { visit = a.visit; got = (a.got, l); which = a.which }))
        (λ o. inr (⊎_elim
        (λ a. inl (record {
          got = (a.got, l);
          tenancy = a.tenancy;
          same = a.same;
          slot = a.slot;
          visit = a.visit;
          beat = a.beat;
          entered = prefix_among l a.entered;
          life = a.life;
          which = a.which;
        }))
        (λ a. inr (record {
          tenancy = a.tenancy;
          same = a.same;
          slot = a.slot;
          visit = a.visit;
          got = (a.got, l);
          which = a.which;
          unplaced = ⊎_elim
              (λ u.
              let by = u.by in
              inl (record { beat = u.beat; got = (u.got, omega arith); by = by; life = u.life }))
              (λ u.
              let got = prefix_tag l u.got in
              inr (record { slot = u.slot; visit = u.visit; got = got; away = u.away }))
              a.unplaced;
        }))
        o))
        k.how;
  }

  -- Each law of the run is one of its prefix: what a law's premises say is in the run, and what it
  -- concludes is in the prefix, since it is of no later beat.
  module _ (law : Laws p r) where
    -- The runner and the clocks.
    prefix_run : RunLaws p (prefix r b)
    prefix_run = record {
      came = λ w. let l = w.1 in (law.run.came w.0, omega arith);
      up = λ w less small. let l = w.1 in ⊎_elim
          (λ k. inl (prefix_lived (omega arith) k))
          (λ k. inr (prefix_died k))
          (law.run.up w.0 less small);
      last = λ w d first. law.run.last w.0 d first;
      again = λ w d l. law.run.again w.0 d l;
      returned = λ w. prefix_died (law.run.returned w);
      returns = λ c y. ⊎_elim
          (λ k. inl k)
          (λ k. inr (record { beat = k.beat; returned = k.returned; by = k.by; last = k.last }))
          (law.run.returns c y);
      apart = λ d e same. law.run.apart d e same;
      got_ended = λ w less life.
          let l = w.1 in
          prefix_ended (omega arith) (law.run.got_ended w.0 less life);
      reached_ended = λ w less life.
          let l = w.1 in
          prefix_ended (omega arith) (law.run.reached_ended w.0 less life);
      reads = λ w. law.run.reads w.0;
    }

    -- Records and states.
    prefix_states : StateLaws p (prefix r b)
    prefix_states = record {
      inserts = λ w. prefix_inserts w.1 (law.states.inserts w.0);
      inserted = λ w. let k = law.states.inserted w.0 in ((k.0, w.1), k.1);
      free = λ w e le slot. let l = w.1 in ⊎_elim (λ k. inl k) (λ k. inr (prefix_reached (omega arith) k)) (law.states.free w.0 (run_entered p r b e) le slot);
      taken = λ w. let k = law.states.taken w.0 in record { visit = k.visit; got = (k.got, w.1); given = k.given };
      meets = λ w low high. prefix_meeting w.1 (law.states.meets w.0 low high);
      late = λ w back le. law.states.late w.0 back le;
      sends = λ w. ⊎_elim (λ k. inl (record { put = (k.put, w.1); first = k.first; near = k.near; own = k.own })) (λ k. inr (prefix_forwards w.1 k)) (law.states.sends w.0);
      ahead = λ w. law.states.ahead w.0;
      forwards = λ e le w first own more undue soon. let l = w.1 in ⊎_elim
          (λ k. inl (prefix_sends l k))
          (λ k. inr (prefix_reached (omega arith) k))
          (law.states.forwards (run_entered p r b e) le w.0 first own more undue soon);
      shows = λ w. prefix_shown w.1 (law.states.shows w.0);
    }

    -- Starts.
    prefix_starts : StartLaws p (prefix r b)
    prefix_starts = record {
      comes = λ w. prefix_comes w.1 (law.starts.comes w.0);
      one_order = λ a o same. law.starts.one_order a o same;
      gone_after = λ a w. law.starts.gone_after a w.0;
      once = λ w u same. law.starts.once w.0 u.0 same;
      waits = λ s n k le w first slot window. let l = w.1 in ⊎_elim
          (λ a. inl (prefix_stands l a))
          (λ o. inr (⊎_elim (λ a. inl (prefix_placed l a)) (λ a. inr (prefix_reached (omega arith) a)) o))
          (law.starts.waits s n (run_waits k) le w.0 first slot window);
    }
      where
        -- A start that waits.
        run_waits : {c n y x : ℕ} {ask : Ask} → Waits p (prefix r b) c ask n y x
            → Waits p r c ask n y x
        run_waits k = record {
          disk = k.disk;
          how = ⊎_elim (λ a. inl a) (λ a. let w = a.2 in inr (a.0, a.1, record { beat = w.beat; believed = w.believed.0; by = w.by })) k.how;
        }

    -- Heartbeats and belief.
    prefix_watch : WatchLaws p (prefix r b)
    prefix_watch = record {
      beats = λ w first heart. law.watch.beats w.0 first heart;
      silent = λ w.
          let k = law.watch.silent w.0 in
          let l = w.1 in
          let tick = prefix_tick (omega arith) k.tick in
          record {
            reading = k.reading;
            tick = tick;
            long = k.long;
            since = k.since;
            back = k.back;
          };
    }

    -- The controller.
    prefix_stops : StopLaws p (prefix r b)
    prefix_stops = record {
      how = λ w. ⊎_elim (λ k. inl (k.0, k.1, (k.2, w.1))) (λ k. inr (k.0, (k.1, w.1))) (law.stops.how w.0);
      gone_at = λ w. (law.stops.gone_at w.0, w.1);
      gone_waiting = λ w. (law.stops.gone_waiting w.0, w.1);
      gone_once = λ w u. law.stops.gone_once w.0 u.0;
      one_place = λ w u. law.stops.one_place w.0 u.0;
      one_way = λ w u. law.stops.one_way w.0 u.0;
      place = λ w. let l = w.1 in let k = law.stops.place w.0 in let before = k.before in record {
        cub = k.cub;
        tenancy = k.tenancy;
        beat = k.beat;
        put = (k.put, omega arith);
        before = before;
        same = k.same;
        slot = k.slot;
        low = k.low;
        high = k.high;
        last = k.last;
      };
      waiting = λ w. let k = law.stops.waiting w.0 in record { ask = k.ask; beat = k.beat; begun = k.begun; same = k.same; disk = k.disk };
      unplaced = λ w u same. law.stops.unplaced w.0 u.0 same;
      unheard = λ w u next same. law.stops.unheard w.0 u.0 next same;
      up = λ w less small. let l = w.1 in ⊎_elim
          (λ k. inl (prefix_lived (omega arith) k))
          (λ k. inr (prefix_died k))
          (law.stops.up w.0 less small);
    }

    -- The links.
    prefix_links : LinkLaws p (prefix r b)
    prefix_links = record {
      carried = λ w. prefix_sent w.1 (law.links.carried w.0);
      arrives = λ c e w to came life late.
          let l = came.1 in
          prefix_got (omega arith) (law.links.arrives c e w.0 to came.0 life late);
      asked_from = λ w. let k = law.links.asked_from w in record { beat = k.beat; begun = k.begun; later = k.later; soon = k.soon };
      apart_from = λ w. let k = law.links.apart_from w in record { beat = k.beat; begun = k.begun; later = k.later; soon = k.soon };
      heard = λ c e w next came life late.
          let k = law.links.heard c e w next came.0 life late in
          record { beat = k.beat; heard = k.heard; after = k.after; by = k.by };
      tag_from = λ w. let l = w.1 in ⊎_elim
          (λ k.
          let later = k.later in
          inl (record {
            beat = k.beat;
            stopped = (k.stopped, omega arith);
            to = k.to;
            later = later;
            soon = k.soon;
            life = k.life;
          }))
          (λ k.
          let later = k.later in
          inr (record {
            from = k.from;
            ahead = k.ahead;
            beat = k.beat;
            told = (k.told, omega arith);
            to = k.to;
            later = later;
            soon = k.soon;
            life = k.life;
          }))
          (law.links.tag_from w.0);
      bare_from = λ w.
          let l = w.1 in
          let k = law.links.bare_from w.0 in
          let later = k.later in
          record {
            disk = k.disk;
            beat = k.beat;
            stopped = (k.stopped, omega arith);
            to = k.to;
            later = later;
            soon = k.soon;
            life = k.life;
          };
      told_arrives = λ c e w to came life late.
          let l = came.1 in
          prefix_tag (omega arith) (law.links.told_arrives c e w.0 to came.0 life late);
      tag_arrives = λ c e w to came life late.
          let l = came.1 in
          prefix_tag (omega arith) (law.links.tag_arrives c e w.0 to came.0 life late);
      bare_arrives = λ c e w to came life late.
          let l = came.1 in
          prefix_bare (omega arith) (law.links.bare_arrives c e w.0 to came.0 life late);
    }

    -- Deschedules.
    prefix_holds : HoldLaws p (prefix r b)
    prefix_holds = record {
      reached = λ w. ⊎_elim (λ k. inl (k.0, k.1, (k.2, w.1))) (λ k. inr (k, w.1)) (law.holds.reached w.0);
      reached_tag = λ w. (law.holds.reached_tag w.0, w.1);
      reached_bare = λ w. (law.holds.reached_bare w.0, w.1);
      pass = λ w. prefix_pass w.1 (law.holds.pass w.0);
      passes = λ w came le life soon.
          let k = law.holds.passes w.0 came.0 le life soon in
          ((k.0, w.1), (k.1, w.1));
      told = λ w. let k = law.holds.told w.0 in record { visit = k.visit; next = k.next; passed = (k.passed, w.1); ahead = k.ahead; soon = k.soon };
      told_next = λ w. (law.holds.told_next w.0, w.1);
      tag_passes = λ w to. prefix_passed w.1 (law.holds.tag_passes w.0 to);
      record_passes = λ w e life undue. ⊎_elim
          (λ k. inl (prefix_passed w.1 k))
          (λ k. inr (k.0, k.1, prefix_tag w.1 k.2))
          (law.holds.record_passes w.0 (run_among e) life undue);
      pass_once = λ w u le life.
          let l = u.1 in
          ⊎_elim
          (λ k. inl k)
          (λ k. inr (prefix_released l k))
          (law.holds.pass_once w.0 u.0 le life);
      took = λ w u less life. prefix_released w.1 (law.holds.took w.0 u.0 less life);
    }
      where
        -- A record that a message finds.
        run_among : {c n x y : ℕ} {t : Tenancy} → EnteredAmong (prefix r b) c t n x y
            → EnteredAmong r c t n x y
        run_among k = ⊎_elim (λ a. inl (a.0.0, a.1)) (λ a. inr (a.0.0, a.1)) k

    -- So the prefix meets all laws.
    pub prefix_laws : Laws p (prefix r b)
    prefix_laws = record {
      run = prefix_run;
      links = prefix_links;
      states = prefix_states;
      starts = prefix_starts;
      watch = prefix_watch;
      stops = prefix_stops;
      holds = prefix_holds;
    }
