-- The facts of a worked run meet the laws of one schedule.
use Rattle.std.proofs.Common.{◌≡◌, ℕ, ◌+◌, ◌*◌, ◌<◌, ◌≤◌, refl, sym, ap, subst, ◌∙◌, arith, ⊎_elim, inl, inr}
use Rattle.std.specs.Prelude.{◌⊎◌, List}
use Rattle.tiger_base.specs.declared.tenancy.Tenancy.{Tenancy}
use Rattle.slot_plan.specs.Times.{time_of, due, cub_of}
use Rattle.proof_schedule.specs.Facts.{Facts, Entered, IsBeside, IsGiven}
use Rattle.proof_schedule.specs.RunLaws.{IsTick}
use Rattle.proof_schedule.specs.LinkLaws.{LinkLaws, WasSent}
use Rattle.proof_schedule.specs.StateLaws.{StateLaws, Inserts, Meeting, SendsFirst, Forwards}
use Rattle.proof_schedule.specs.StartLaws.{StartLaws, Comes}
use Rattle.proof_schedule.specs.WatchLaws.{WatchLaws, IsSilence}
use Rattle.proof_schedule.specs.Laws.{Laws}
use Rattle.proof_schedule.specs.Logs.{Fact, facts_in, Came, Ticked, Put, Inserted, Took, Shows, Sent, Got, Begun, Asked, AskedApart, Gone, StoppedAt, StoppedWaiting, Told, Reached, GotTag, GotBare, Passed, Beat, Heard, Believed}
use Rattle.proof_schedule.proofs.Unstopped.{IsWithoutStops, no_stops, no_holds}
use Rattle.proof_service.specs.Example.{plan, order}
use Rattle.proof_service.proofs.ExampleFacts.{viewer_from, IsState, IsOn, IsWorked, IsTimed}
use Rattle.proof_service.proofs.ExampleLives.{one_or_two, on_other, back_is, first_other, same_since, on_before, runs}
use Rattle.proof_service.proofs.ExamplePlan.{time_is, due_is, cub_1, cub_2, one_before}

module _ (first long back : ℕ) (log : List Fact)
    (at : IsTimed first long back) (is : IsWorked first long back log) where
  abbrev r : Facts
  r = facts_in log

  abbrev viewer : Tenancy
  viewer = viewer_from first

  -- So that cub's number is the state's.
  its_cub : {k m : ℕ} → IsState first k m → cub_of plan k ≡ k
  its_cub w = ⊎_elim (λ e. rw e cub_1) (λ e. rw e cub_2) (one_or_two {first = first} w)

  -- The few facts, one by one.
  pub put_in : r.Put 0 viewer (first * 100 + 1)
  put_in = is.few (Put 0 viewer (first * 100 + 1)) (3, omega arith, refl)

  pub inserted_in : r.Inserted 0 viewer first (first * 100 + 1)
  inserted_in = is.few (Inserted 0 viewer first (first * 100 + 1)) (4, omega arith, refl)

  begun_in : r.Begun order (first * 100)
  begun_in = is.few (Begun order (first * 100)) (0, omega arith, refl)

  -- The states that went out, came, and were taken.
  sent_in : {k m : ℕ} → IsState first k m → r.Sent 0 k viewer m (first * 100 + 1)
  sent_in w = ⊎_elim
      (λ a. rw (a.0, a.1) (is.few (Sent 0 1 viewer first (first * 100 + 1)) (5, omega arith, refl)))
      (λ o. ⊎_elim
      (λ a. rw (a.0, a.1)
      (is.few (Sent 0 1 viewer (first + 1) (first * 100 + 1)) (6, omega arith, refl)))
      (λ a. rw (a.0, a.1)
      (is.few (Sent 0 2 viewer (first + 1) (first * 100 + 1)) (7, omega arith, refl)))
      o)
      w

  got_in : {c m : ℕ} → IsState first c m → r.Got c viewer m (first * 100 + 2)
  got_in w = ⊎_elim
      (λ a. rw (a.0, a.1) (is.few (Got 1 viewer first (first * 100 + 2)) (8, omega arith, refl)))
      (λ o. ⊎_elim
      (λ a. rw (a.0, a.1)
      (is.few (Got 1 viewer (first + 1) (first * 100 + 2)) (9, omega arith, refl)))
      (λ a. rw (a.0, a.1)
      (is.few (Got 2 viewer (first + 1) (first * 100 + 2)) (10, omega arith, refl)))
      o)
      w

  pub took_in : {c n : ℕ} → IsState first c n → r.Took c viewer n (first * 100 + 2)
  took_in w = ⊎_elim
      (λ a. rw (a.0, a.1) (is.few (Took 1 viewer first (first * 100 + 2)) (11, omega arith, refl)))
      (λ o. ⊎_elim
      (λ a. rw (a.0, a.1)
      (is.few (Took 1 viewer (first + 1) (first * 100 + 2)) (12, omega arith, refl)))
      (λ a. rw (a.0, a.1)
      (is.few (Took 2 viewer (first + 1) (first * 100 + 2)) (13, omega arith, refl)))
      o)
      w

  -- Nothing is stopped.
  pub none : IsWithoutStops r
  none = record {
    gone = λ v z h. is.its (Gone v z) h;
    at = λ v s n z h. is.its (StoppedAt v s n z) h;
    waiting = λ v d z h. is.its (StoppedWaiting v d z) h;
    told = λ a k v s q x h. is.its (Told a k v s q x) h;
    reached = λ c v y h. is.its (Reached c v y) h;
    tag = λ c v s q y h. is.its (GotTag c v s q y) h;
    bare = λ c v y h. is.its (GotBare c v y) h;
    passed = λ c v s q y h. is.its (Passed c v s q y) h;
  }

  -- A state that came was sent by cub 0.
  state_sent : {c m : ℕ} → IsState first c m → WasSent plan r c viewer m (first * 100 + 2)
  state_sent {c} {m} w =
      let sum : 0 + c ≡ c = omega arith in
      let beat = first * 100 + 1 in
      record {
        from = 0;
        ahead = c;
        beat = first * 100 + 1;
        sent = sent_in w;
        to = sym (ap (λ v. cub_of plan v) sum ∙ its_cub w);
        later = omega arith;
        soon = omega arith;
        life = same_since first long back log at is c beat (first * 100 + 2) (omega arith);
      }

  -- The links: states and heartbeats come a beat later.
  links : LinkLaws plan r
  links = record {
    carried = λ {c} {t} {m} {y} h.
        let k = is.its (Got c t m y) h in
        rw (k.0, k.1) (state_sent k.2);
    arrives = λ {a} {k} {t} {m} {x} c b h to w same late.
        let o = is.its (Sent a k t m x) h in
        let from = o.0 in
        let when = o.2 in
        let sum : a + k ≡ k = omega arith in
        let here : c ≡ k = to ∙ ap (λ v. cub_of plan v) sum ∙ its_cub o.3 in
        record { beat = first * 100 + 2; got = rw (o.1, here) (got_in o.3); by = omega arith };
    asked_from = λ {c} {ask} {y} h.
        let k = is.its (Asked c ask y) h in
        let when = k.2 in
        record {
          beat = first * 100;
          begun = rw k.1 begun_in;
          later = omega arith;
          soon = omega arith;
        };
    apart_from = λ {c} {ask} {y} h.
        let k = is.its (AskedApart c ask y) h in
        let when = k.2 in
        record {
          beat = first * 100;
          begun = rw k.1 begun_in;
          later = omega arith;
          soon = omega arith;
        };
    heard = λ {a} {x} c b h to w same late.
        let k = is.its (Beat a x) h in
        let up = is.its (Came c b) w in
        let then = on_before first long back log at is c x (x + 1) b up.1 same in
        let on = then (omega arith) (omega arith) in
        let next = subst (λ v. IsOn long back v (x + 1)) to on in
        let hears = subst (λ v. r.Heard v (x + 1)) (sym to) (is.hears a x k.0 k.1 next) in
        record { beat = x + 1; heard = hears; after = omega arith; by = omega arith };
    tag_from = λ {c} {v} {s} {q} {y} h. absurd (none.tag c v s q y h);
    bare_from = λ {c} {v} {y} h. absurd (none.bare c v y h);
    told_arrives = λ {a} {k} {v} {s} {q} {x} c b h to w same late.
        absurd (none.told a k v s q x h);
    tag_arrives = λ {v} {s} {n} {x} c b h to w same late. absurd (none.at v s n x h);
    bare_arrives = λ {v} {d} {x} c b h to w same late. absurd (none.waiting v d x h);
  }

  -- The Put is in a tick of cub 0,
  put_tick : IsTick plan r 0 (first * 100 + 1) ((first * 100 + 1) * 10000)
  put_tick =
      let time = time_is (first * 100 + 1) in
      let high = at.high in
      let beat = first * 100 + 1 in
      let on = on_other first long back log at is 0 beat (λ e. omega arith) (omega arith) in
      record {
        came = is.came 0 (first * 100 + 1) (omega arith) on;
        low = omega arith;
        high = omega arith;
      }

  -- in the window, at a visit of that.
  put_is : Inserts plan r 0 viewer (first * 100 + 1)
  put_is =
      let visit = due_is first in
      let high = at.high in
      let beat = first * 100 + 1 in
      let on = on_other first long back log at is 0 beat (λ e. omega arith) (omega arith) in
      record {
        reading = (first * 100 + 1) * 10000;
        tick = put_tick;
        whole = inl (is.ticked 0 (first * 100 + 1) (omega arith) on);
        above = omega arith;
        below = omega arith;
        within = omega arith;
        entered = inserted_in;
        first = first_other first long back log at is 0 (first * 100 + 1) (λ e. omega arith);
        who = inl (record { own = sym at.first_cub; sent = sent_in (inl (refl, refl)) });
      }

  -- What a state gives is taken: of the first visit the backup record and the own record of the
  -- second, of that its own and its backup record.
  given : {c m n : ℕ} → IsState first c m → IsGiven plan c viewer m n → IsState first c n
  given {c} {m} {n} w k = ⊎_elim
      (λ a. rw a.0 w)
      (λ a.
      let next = a.0 in
      let last = a.1 in
      ⊎_elim
      (λ o. let here = o.1 in inr (inl (o.0, omega arith)))
      (λ o.
      let later : m ≡ first + 1 = ⊎_elim (λ e. e.1) (λ e. e.1) o in
      absurd (omega arith))
      w)
      k

  -- Each record that was taken is one that the state of its visit gives.
  beside : {c n : ℕ} → IsState first c n → IsBeside plan c n
  beside w = ⊎_elim
      (λ a. rw (a.0, a.1) (inr (sym at.second_cub)))
      (λ o. ⊎_elim
      (λ a. rw (a.0, a.1) (inl (sym at.second_cub)))
      (λ a. rw (a.0, a.1) (inr (sym at.third_cub)))
      o)
      w

  -- A state finds what it gives in its place.
  meets : {c m : ℕ} → IsState first c m → Meeting plan r c viewer m (first * 100 + 2)
  meets {c} {m} w =
      let o = state_sent w in
      let beat = first * 100 + 2 in
      record {
        from = o.from;
        ahead = o.ahead;
        beat = o.beat;
        sent = o.sent;
        to = o.to;
        later = o.later;
        soon = o.soon;
        tags = λ v s q x h le same. absurd (none.told o.from o.ahead v s q x h);
        places = λ n k let_in. inl (record {
          holder = viewer;
          slot = refl;
          beat = first * 100 + 2;
          entered = inl (took_in (given w k), omega arith);
          behind = λ u q x h le same. absurd (none.told o.from o.ahead 0 u q x h);
          since = λ b h l same. absurd (none.reached c 0 b h);
          life = same_since first long back log at is c beat beat (omega arith);
        });
      }

  -- The state of the first visit goes out at the Put, and those of the second in the same tick.
  sends : {k m : ℕ} → IsState first k m
      → SendsFirst plan r 0 k viewer m (first * 100 + 1)
      ⊎ Forwards plan r 0 viewer m (first * 100 + 1)
  sends {k} {m} w = ⊎_elim
      (λ a. inl (record { put = put_in; first = a.1; near = a.0; own = sym at.first_cub }))
      (λ o.
      let later : m ≡ first + 1 = ⊎_elim (λ e. e.1) (λ e. e.1) o in
      let visit = due_is (first + 1) in
      let tick = put_tick in
      let low = tick.low in
      let beat = first * 100 + 1 in
      rw later (inr (record {
        visit = first;
        next = refl;
        more = omega arith;
        own = sym at.first_cub;
        beat = first * 100 + 1;
        entered = inr inserted_in;
        by = omega arith;
        reading = (first * 100 + 1) * 10000;
        tick = put_tick;
        soon = omega arith;
        fresh = inl refl;
        since = λ x h le same. absurd (none.reached 0 0 x h);
        life = same_since first long back log at is 0 beat beat (omega arith);
      })))
      w

  -- All records are of the viewer.
  pub entered_its : {c n y : ℕ} {t : Tenancy} → Entered r c t n y → t ≡ viewer
  entered_its {c} {n} {y} {t} h = ⊎_elim
      (λ k. (is.its (Took c t n y) k).0)
      (λ k. (is.its (Inserted c t n y) k).1)
      h

  -- Cub 0 has its own record of the first visit by its Put.
  own_its : {a n y : ℕ} {t : Tenancy} → Entered r a t n y → a ≡ cub_of plan n → n ≡ first
      → (a ≡ 0) × (y ≡ first * 100 + 1)
  own_its {a} {n} {y} {t} h own same = ⊎_elim
      (λ k.
      let zero_cub : a ≡ 0 = own ∙ ap (λ v. cub_of plan v) same ∙ at.first_cub in
      let which = one_or_two {first = first} (is.its (Took a t n y) k).2 in
      absurd (⊎_elim (λ e. omega arith) (λ e. omega arith) which))
      (λ k. let o = is.its (Inserted a t n y) k in (o.0, o.3))
      h

  -- A record of another visit than the last is of the first.
  own_low : {a n y : ℕ} {t : Tenancy} → Entered r a t n y → n < t.last → t.last ≡ first + 1
      → n ≡ first
  own_low {a} {n} {y} {t} h more last = ⊎_elim
      (λ k. ⊎_elim
      (λ e. e.1)
      (λ o.
      let later : n ≡ first + 1 = ⊎_elim (λ e. e.1) (λ e. e.1) o in
      absurd (omega arith))
      (is.its (Took a t n y) k).2)
      (λ k. (is.its (Inserted a t n y) k).2)
      h

  -- What is taken is due long after the return.
  late : {c n x : ℕ} → IsState first c n → r.Returned c x
      → time_of plan x + 7004000 ≤ due plan 1 n
  late {c} {n} {x} w again =
      let early = (back_is first long back log at is again).2 in
      let when = (back_is first long back log at is again).1 in
      let time = time_is x in
      let visit = due_is n in
      let low : first ≤ n = ⊎_elim
      (λ e. let e1 = e.1 in omega arith)
      (λ o. ⊎_elim (λ e. let e1 = e.1 in omega arith) (λ e. let e1 = e.1 in omega arith) o)
      w in
      omega arith

  -- Records and states.
  states : StateLaws plan r
  states = record {
    inserts = λ {c} {t} {x} h. let k = is.its (Put c t x) h in rw (k.0, k.1, k.2) put_is;
    inserted = λ {c} {t} {n} {x} h.
        let k = is.its (Inserted c t n x) h in
        (rw (k.0, k.1, k.3) put_in, rw (k.0, k.1, k.2) (inl (refl, inl (sym at.first_cub))));
    free = λ {c} {t} {u} {x} {y} h e le slot.
        let same = entered_its e ∙ sym (is.its (Put c t x) h).1 in
        inl (ap (λ (v : Tenancy). v.instance.0) same);
    taken = λ {c} {t} {n} {y} h.
        let k = is.its (Took c t n y) h in
        rw (k.0, k.1) (record { visit = n; got = got_in k.2; given = inl (refl, beside k.2) });
    meets = λ {c} {m} {y} {t} h low high.
        let k = is.its (Got c t m y) h in
        rw (k.0, k.1) (meets k.2);
    late = λ {c} {n} {y} {w} {t} h again le.
        let k = is.its (Took c t n y) h in
        let far = late k.2 again in
        rw k.0 (omega arith);
    sends = λ {a} {k} {t} {m} {x} h.
        let o = is.its (Sent a k t m x) h in
        rw (o.0, o.1, o.2) (sends o.3);
    ahead = λ {a} {k} {m} {x} {t} h. one_or_two {first = first} (is.its (Sent a k t m x) h).3;
    forwards = λ {a} {t} {n} {y} {b} {l} e le w always own more undue soon.
        let same = entered_its e in
        let last : t.last ≡ first + 1 = ap (λ (v : Tenancy). v.last) same in
        let low : n ≡ first = own_low e more last in
        let o = own_its e own low in
        let when = o.1 in
        inl (rw (o.0, same, low) (record {
          beat = first * 100 + 1;
          near = sent_in (inr (inl (refl, refl)));
          far = sent_in (inr (inr (refl, refl)));
          by = omega arith;
        }));
    shows = λ {c} {n} {b} {t} h. absurd (is.its (Shows c t n b) h);
  }

  -- The start of the Put is the one order's.
  start_is : Comes plan r 0 viewer (first * 100 + 1)
  start_is = record {
    ask = order;
    asked = record { instance = refl; file = refl; count = omega arith; disk = sym at.disk };
    start = first * 100 + 1;
    came = inl (is.few (Asked 0 order (first * 100 + 1)) (1, omega arith, refl));
    before = omega arith;
    since = λ x h le same. absurd (none.reached 0 0 x h);
    unshown = λ u n y h same le.
        let which = one_or_two {first = first} (is.its (Took 0 u n y) h).2 in
        absurd (⊎_elim (λ e. omega arith) (λ e. omega arith) which);
  }

  -- Starts: the plain one is put in the beat in which it came.
  starts : StartLaws plan r
  starts = record {
    one_order = λ {a} {b} {x} {y} h k same.
        let o = is.its (Begun a x) h in
        let u = is.its (Begun b y) k in
        (u.0 ∙ sym o.0, u.1 ∙ sym o.1);
    gone_after = λ {ask} {o} {z} h k. absurd (none.gone ask.instance.0 z k);
    comes = λ {c} {t} {x} h. let k = is.its (Put c t x) h in rw (k.0, k.1, k.2) start_is;
    once = λ {c} {t} {u} {x} {y} h k same.
        let o = is.its (Put c t x) h in
        let v = is.its (Put c u y) k in
        (v.1 ∙ sym o.1, v.2 ∙ sym o.2);
    waits = λ {c} {ask} {y} {b} {l} s n k le w always slot window. ⊎_elim
        (λ (a : r.Asked c ask y × (c ≡ cub_of plan n)).
        let o = is.its (Asked c ask y) a.0 in
        let when = o.2 in
        inr (inl (rw (o.0, o.1) (record {
          beat = first * 100 + 1;
          tenancy = viewer;
          same = refl;
          visit = first;
          how = inl put_in;
          by = omega arith;
        }))))
        (λ a.
        let one = (is.its (AskedApart c ask y) a.0).0 in
        let two = (is.its (Believed c a.2.beat) a.2.believed).0 in
        absurd (omega arith))
        k.how;
  }

  -- Cub 2 believes that cub 1 is dead: of its last heartbeat it heard in beat 20.
  silence : IsSilence plan r 2 121
  silence =
      let time = time_is 121 in
      let high = at.high in
      let on = on_other first long back log at is 2 121 (λ e. omega arith) (omega arith) in
      record {
        reading = 1210000;
        tick = record {
          came = is.came 2 121 (omega arith) on;
          low = omega arith;
          high = omega arith;
        };
        long = omega arith;
        since = λ y h le.
            let k = is.its (Heard 2 y) h in
            let one : k.0 ≡ 1 = one_before k.0 1 k.2 (omega arith) (sym k.4 ∙ sym cub_2) in
            let sent : k.1 < 20 = ⊎_elim (λ o. o.1) (λ o. absurd (o.0 one)) k.3 in
            let when = k.5 in
            let t = time_is y in
            omega arith;
        back = λ x h le. let one = (back_is first long back log at is h).0 in absurd (omega arith);
      }

  -- Heartbeats and belief.
  watch : WatchLaws plan r
  watch = record {
    beats = λ {c} {b} {l} h always heart.
        let k = is.its (Ticked c b l) h in
        ⊎_elim
        (λ o. is.beats c b k.0 o)
        (λ o.
        let low = o.1 in
        let high = o.2 in
        let returned = is.returned (omega arith) in
        let m = always back (subst (λ v. r.Returned v back) (sym o.0) returned) in
        absurd (omega arith))
        k.1;
    silent = λ {c} {b} h. let k = is.its (Believed c b) h in rw (k.0, k.1) silence;
  }

  -- So all laws of the schedule are met.
  pub laws : Laws plan r
  laws = record {
    run = runs first long back log at is;
    links = links;
    states = states;
    starts = starts;
    watch = watch;
    stops = no_stops plan r none;
    holds = no_holds plan r none;
  }
