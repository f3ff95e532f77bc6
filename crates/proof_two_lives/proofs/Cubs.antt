-- The laws of records, starts, heartbeats and deschedules of first lives and of later ones are laws of both.
use Rattle.std.proofs.Common.{ℕ, ◌≤◌, arith, ⊎_elim, inl, inr}
use Rattle.std.specs.Prelude.{◌⊎◌}
use Rattle.tiger_base.specs.declared.tenancy.Ask.{Ask}
use Rattle.tiger_base.specs.declared.tenancy.Tenancy.{Tenancy}
use Rattle.slot_plan.specs.declared.params.Params.{Params}
use Rattle.proof_schedule.specs.Facts.{Facts, BelievedBy, IsFirstLife}
use Rattle.proof_schedule.specs.Laws.{Laws}
use Rattle.proof_schedule.specs.HoldLaws.{HoldLaws}
use Rattle.proof_schedule.specs.StartLaws.{Waits}
use Rattle.proof_schedule.specs.StateLaws.{StateLaws, SendsFirst, Forwards}
use Rattle.proof_schedule.specs.WatchLaws.{WatchLaws}
use Rattle.proof_two_lives.specs.Laws.{CubLaws, CubRest, LifeLaws, RingLaws}
use Rattle.proof_two_lives.specs.TwoLives.{AreOfLives, CameBackBy, among, beside, joined_facts}
use Rattle.proof_two_lives.proofs.Forward.{heard_of, believed_of, placed_of, reached_of, sends_of, sends_first_of, shows_slot_of, taken_of}
use Rattle.proof_two_lives.proofs.Holding as holding
use Rattle.proof_two_lives.proofs.Joined.{first_life, later_life}
use Rattle.proof_two_lives.proofs.OneLife.{IsOneLife, in_first_life, kept_entered, comes_of, forwards_of, inserts_of, meeting_of, shown_of, silence_of, stands_of}

-- The laws of the schedule are those of cubs, and those of the runner, the links and the
-- controller.
pub laws_of : {p : Params} {r : Facts} → RingLaws p r → CubLaws p r → Laws p r
laws_of ring cubs = record {
  run = ring.run;
  links = ring.links;
  states = cubs.states;
  starts = record {
    one_order = ring.one_order;
    gone_after = ring.gone_after;
    comes = cubs.rest.comes;
    once = cubs.rest.once;
    waits = cubs.rest.waits;
  };
  watch = cubs.rest.watch;
  stops = ring.stops;
  holds = cubs.rest.holds;
}

-- What goes out goes out by a Put or by an own record.
sent_of : {p : Params} {x j : Facts} {In : ℕ → ℕ → Type 0} {a k m y : ℕ} {t : Tenancy}
    → IsOneLife x j In
    → SendsFirst p (beside j x) a k t m y ⊎ Forwards p (beside j x) a t m y
    → SendsFirst p j a k t m y ⊎ Forwards p j a t m y
sent_of one h =
    ⊎_elim (λ k. inl (sends_first_of one.facts k)) (λ k. inr (forwards_of one k)) h

module _ (p : Params) (r s : Facts) (firsts : AreOfLives r (IsFirstLife r))
    (laters : AreOfLives s (CameBackBy r))
    (first : LifeLaws p r (among r (joined_facts r s)))
    (later : LifeLaws p (beside r s) (among (beside r s) (joined_facts r s))) where
  abbrev J : Facts
  J = joined_facts r s

  abbrev f : IsOneLife r J (IsFirstLife r)
  f = first_life firsts laters

  abbrev g : IsOneLife s J (CameBackBy r)
  g = later_life firsts laters

  -- A cub that has come back puts nothing.
  put_first : (c : ℕ) (t : Tenancy) (x : ℕ) → J.Put c t x → r.Put c t x
  put_first c t x h = ⊎_elim
      (λ a. a)
      (λ a.
      let k = laters.put c t x a in
      let by = k.by in
      let before = (later.states.inserts a).first k.beat k.returned in
      absurd (omega arith))
      h

  put_in : {c x : ℕ} {t : Tenancy} → J.Put c t x → IsFirstLife r c x
  put_in {c} {x} {t} h = firsts.put c t x (put_first c t x h)

  states : StateLaws p J
  states = record {
    inserts = λ {c} {t} {x} k. inserts_of f (first.states.inserts (put_first c t x k));
    inserted = λ k. ⊎_elim
        (λ a. let h = first.states.inserted a in (inl h.0, h.1))
        (λ a. let h = later.states.inserted a in (inr h.0, h.1))
        k;
    free = λ {c} {t} {u} {x} {y} k e le slot.
        let here = put_in k in
        ⊎_elim
        (λ a. inl a)
        (λ a. inr (reached_of f.facts a))
        (first.states.free (put_first c t x k) (in_first_life here (kept_entered f here le e)) le slot);
    taken = λ k. ⊎_elim
        (λ a. taken_of f.facts (first.states.taken a))
        (λ a. taken_of g.facts (later.states.taken a))
        k;
    meets = λ k low high. ⊎_elim
        (λ a. meeting_of f (first.states.meets a low high))
        (λ a. meeting_of g (later.states.meets a low high))
        k;
    late = λ k back le. ⊎_elim
        (λ a. first.states.late a back le)
        (λ a. later.states.late a back le)
        k;
    sends = λ k. ⊎_elim
        (λ a. sent_of f (first.states.sends a))
        (λ a. sent_of g (later.states.sends a))
        k;
    ahead = λ k. ⊎_elim (λ a. first.states.ahead a) (λ a. later.states.ahead a) k;
    forwards = λ {a} {t} {n} {y} {b} {l} e le tick here own more undue soon.
        ⊎_elim
        (λ k. inl (sends_of f.facts k))
        (λ k. inr (reached_of f.facts k))
        (first.states.forwards
        (in_first_life here (kept_entered f here le e))
        le
        (in_first_life here (f.kept.ticked here (omega arith) tick))
        here own more undue soon);
    shows = λ k. ⊎_elim
        (λ a. shown_of f (first.states.shows a))
        (λ a. shown_of g (later.states.shows a))
        k;
  }

  -- In a first life all that is told of a cub is told of that life.
  ticked_first : (c b l : ℕ) → IsFirstLife r c b → J.Ticked c b l → r.Ticked c b l
  ticked_first c b l here tick = in_first_life here (f.kept.ticked here (omega arith) tick)

  believed_first : {c b : ℕ} → IsFirstLife r c b → BelievedBy J c b → BelievedBy r c b
  believed_first here h =
      let by = h.by in
      record {
        beat = h.beat;
        believed = in_first_life here (f.kept.believed here by h.believed);
        by = by;
      }

  waits_first : {c : ℕ} {ask : Ask} {n y b : ℕ} → IsFirstLife r c b → y ≤ b
      → Waits p J c ask n y b → Waits p r c ask n y b
  waits_first here le h = record {
    disk = h.disk;
    how = ⊎_elim
        (λ k. inl (in_first_life here (f.kept.asked here le k.0), k.1))
        (λ k. inr (in_first_life here (f.kept.apart here le k.0), k.1, believed_first here k.2))
        h.how;
  }

  watch : WatchLaws p J
  watch = record {
    beats = λ {c} {b} {l} tick here due.
        inl (first.rest.watch.beats (ticked_first c b l here tick) here due);
    silent = λ {c} {b} k. ⊎_elim
        (λ a. silence_of f (firsts.believed c b a) (first.rest.watch.silent a))
        (λ a. silence_of g (laters.believed c b a) (later.rest.watch.silent a))
        k;
  }

  holds : HoldLaws p J
  holds =
      let a = first.rest.holds in
      let b = later.rest.holds in
      record {
        reached = λ k. ⊎_elim (λ h. holding.reached f a h) (λ h. holding.reached g b h) k;
        reached_tag = λ k. ⊎_elim
            (λ h. inl (a.reached_tag h))
            (λ h. inr (b.reached_tag h))
            k;
        reached_bare = λ k. ⊎_elim
            (λ h. inl (a.reached_bare h))
            (λ h. inr (b.reached_bare h))
            k;
        pass = λ k. ⊎_elim (λ h. holding.pass f a h) (λ h. holding.pass g b h) k;
        passes = λ k came le same soon. ⊎_elim
            (λ h. holding.passes f a h came le same soon)
            (λ h. holding.passes g b h came le same soon)
            k;
        told = λ k. ⊎_elim (λ h. holding.told f a h) (λ h. holding.told g b h) k;
        told_next = λ k. ⊎_elim
            (λ h. inl (a.told_next h))
            (λ h. inr (b.told_next h))
            k;
        tag_passes = λ k near. ⊎_elim
            (λ h. holding.tag_passes f a h near)
            (λ h. holding.tag_passes g b h near)
            k;
        record_passes = λ k e same undue. ⊎_elim
            (λ h. holding.record_passes f a h e same undue)
            (λ h. holding.record_passes g b h e same undue)
            k;
        pass_once = λ k m le same. ⊎_elim
            (λ h. holding.pass_once f a k h le same)
            (λ h. holding.pass_once g b k h le same)
            m;
        took = λ k reached before same. ⊎_elim
            (λ h. holding.took f a h reached before same)
            (λ h. holding.took g b h reached before same)
            k;
      }

  rest : CubRest p J
  rest = record {
    watch = watch;
    holds = holds;
    comes = λ {c} {t} {x} k.
        let here = put_in k in
        comes_of f here here (first.rest.comes (put_first c t x k));
    once = λ {c} {t} {u} {x} {y} k m same.
        first.rest.once (put_first c t x k) (put_first c u y m) same;
    waits = λ {c} {ask} {y} {b} {l} v n k le tick here slot window.
        ⊎_elim
        (λ h. inl (stands_of f h))
        (λ h. inr (⊎_elim (λ a. inl (placed_of f.facts a)) (λ a. inr (reached_of f.facts a)) h))
        (first.rest.waits v n (waits_first here le k) le (ticked_first c b l here tick) here slot
        window);
    waits_shown = λ {c} {ask} {y} {b} {l} v n k le tick here slot window.
        ⊎_elim
        (λ h. inl (shows_slot_of f.facts h))
        (λ h. inr (⊎_elim (λ a. inl (placed_of f.facts a)) (λ a. inr (reached_of f.facts a)) h))
        (first.rest.waits_shown v n (waits_first here le k) le (ticked_first c b l here tick) here
        slot window);
    watches = λ {c} {b} {l} tick here.
        ⊎_elim
        (λ h. inl (believed_of f.facts h))
        (λ h. inr (⊎_elim (λ a. inl (heard_of f.facts a)) (λ a. inr a) h))
        (first.rest.watches (ticked_first c b l here tick) here);
  }

  pub cub_laws : CubLaws p J
  cub_laws = record { states = states; rest = rest }
