-- The facts of one life of each cub are facts of both, and so is what is said of them.
use Rattle.std.proofs.Common.{ℕ, ⊎_elim, inl, inr}
use Rattle.tiger_base.specs.declared.tenancy.Ask.{Ask}
use Rattle.tiger_base.specs.declared.tenancy.Tenancy.{Tenancy}
use Rattle.slot_plan.specs.declared.params.Params.{Params}
use Rattle.proof_schedule.specs.Facts.{Facts, Entered, EnteredAmong, GotTagBy, ReachedBy, PassedBy, BelievedBy, IsReleasedBy}
use Rattle.proof_schedule.specs.RunLaws.{IsTick}
use Rattle.proof_schedule.specs.StateLaws.{PutsOwn, Taken, WasEarly, SendsFirst, Sends}
use Rattle.proof_schedule.specs.StartLaws.{HadLeft, IsPlacedBy}
use Rattle.proof_schedule.specs.HoldLaws.{ForTag, ForRecord, ForState, GotBareInLife, IsStray, IsPass, IsTold}
use Rattle.proof_service.specs.ServiceLaws.{HeardTill}
use Rattle.proof_two_lives.specs.Laws.{ShowsSlot}
use Rattle.proof_two_lives.specs.TwoLives.{beside}

-- Each fact of x is one of j.
pub record AreFactsOf (x j : Facts) : Type 0 where
  pub ticked : {c b l : ℕ} → x.Ticked c b l → j.Ticked c b l
  pub put : {c b : ℕ} {t : Tenancy} → x.Put c t b → j.Put c t b
  pub inserted : {c n b : ℕ} {t : Tenancy} → x.Inserted c t n b → j.Inserted c t n b
  pub took : {c n b : ℕ} {t : Tenancy} → x.Took c t n b → j.Took c t n b
  pub shows : {c n b : ℕ} {t : Tenancy} → x.Shows c t n b → j.Shows c t n b
  pub sent : {a k m b : ℕ} {t : Tenancy} → x.Sent a k t m b → j.Sent a k t m b
  pub got : {c m b : ℕ} {t : Tenancy} → x.Got c t m b → j.Got c t m b
  pub asked : {c b : ℕ} {ask : Ask} → x.Asked c ask b → j.Asked c ask b
  pub apart : {c b : ℕ} {ask : Ask} → x.AskedApart c ask b → j.AskedApart c ask b
  pub told : {a k v s q b : ℕ} → x.Told a k v s q b → j.Told a k v s q b
  pub reached : {c v b : ℕ} → x.Reached c v b → j.Reached c v b
  pub tag : {c v s q b : ℕ} → x.GotTag c v s q b → j.GotTag c v s q b
  pub bare : {c v b : ℕ} → x.GotBare c v b → j.GotBare c v b
  pub passed : {c v s q b : ℕ} → x.Passed c v s q b → j.Passed c v s q b
  pub beat : {c b : ℕ} → x.Beat c b → j.Beat c b
  pub heard : {c b : ℕ} → x.Heard c b → j.Heard c b
  pub believed : {c b : ℕ} → x.Believed c b → j.Believed c b

module _ {x j : Facts} (of : AreFactsOf x j) where
  abbrev X : Facts
  X = beside j x

  pub tick_of : {p : Params} {c b l : ℕ} → IsTick p X c b l → IsTick p j c b l
  tick_of h = record { came = h.came; low = h.low; high = h.high }

  -- ---- records

  pub entered_of : {c n y : ℕ} {t : Tenancy} → Entered X c t n y → Entered j c t n y
  entered_of h = ⊎_elim (λ a. inl (of.took a)) (λ a. inr (of.inserted a)) h

  pub entered_among_of : {c n b y : ℕ} {t : Tenancy} → EnteredAmong X c t n b y
      → EnteredAmong j c t n b y
  entered_among_of h =
      ⊎_elim (λ a. inl (of.took a.0, a.1)) (λ a. inr (of.inserted a.0, a.1)) h

  pub taken_of : {p : Params} {c n y : ℕ} {t : Tenancy} → Taken p X c t n y → Taken p j c t n y
  taken_of h = record { visit = h.visit; got = of.got h.got; given = h.given }

  pub puts_own_of : {p : Params} {c x : ℕ} {t : Tenancy} → PutsOwn p X c t x → PutsOwn p j c t x
  puts_own_of h = record { own = h.own; sent = of.sent h.sent }

  pub early_of : {p : Params} {a m x : ℕ} {t : Tenancy} → WasEarly p X a t m x
      → WasEarly p j a t m x
  early_of h = record {
    beat = h.beat;
    reading = h.reading;
    ticked = of.ticked h.ticked;
    next = h.next;
    early = h.early;
  }

  pub sends_first_of : {p : Params} {a k m x : ℕ} {t : Tenancy} → SendsFirst p X a k t m x
      → SendsFirst p j a k t m x
  sends_first_of h = record { put = of.put h.put; first = h.first; near = h.near; own = h.own }

  pub sends_of : {a m b : ℕ} {t : Tenancy} → Sends X a t m b → Sends j a t m b
  sends_of h =
      record { beat = h.beat; near = of.sent h.near; far = of.sent h.far; by = h.by }

  pub shows_slot_of : {c s n b : ℕ} → ShowsSlot X c s n b → ShowsSlot j c s n b
  shows_slot_of h = record { holder = h.holder; slot = h.slot; shows = of.shows h.shows }

  -- ---- starts and belief

  pub had_left_of : {p : Params} {c s n b : ℕ} → HadLeft p X c s n b → HadLeft p j c s n b
  had_left_of h = record {
    beat = h.beat;
    reading = h.reading;
    ticked = of.ticked h.ticked;
    before = h.before;
    due = h.due;
  }

  pub placed_of : {c v b : ℕ} → IsPlacedBy X c v b → IsPlacedBy j c v b
  placed_of h = record {
    beat = h.beat;
    tenancy = h.tenancy;
    same = h.same;
    visit = h.visit;
    how = ⊎_elim (λ a. inl (of.put a)) (λ a. inr (of.got a)) h.how;
    by = h.by;
  }

  pub believed_of : {c b : ℕ} → BelievedBy X c b → BelievedBy j c b
  believed_of h = record { beat = h.beat; believed = of.believed h.believed; by = h.by }

  pub heard_of : {p : Params} {c b l : ℕ} → HeardTill p X c b l → HeardTill p j c b l
  heard_of h = record { beat = h.beat; heard = of.heard h.heard; by = h.by; till = h.till }

  -- ---- deschedules

  pub reached_of : {c v b : ℕ} → ReachedBy X c v b → ReachedBy j c v b
  reached_of h = record { beat = h.beat; reached = of.reached h.reached; by = h.by }

  pub released_of : {p : Params} {c v b : ℕ} → IsReleasedBy p X c v b → IsReleasedBy p j c v b
  released_of h = record { beat = h.beat; reached = of.reached h.reached; over = h.over }

  pub tag_of : {c v s q b : ℕ} → GotTagBy X c v s q b → GotTagBy j c v s q b
  tag_of h = record { beat = h.beat; got = of.tag h.got; by = h.by }

  pub passed_of : {c v b : ℕ} → PassedBy X c v b → PassedBy j c v b
  passed_of h = record {
    slot = h.slot;
    visit = h.visit;
    beat = h.beat;
    passed = of.passed h.passed;
    by = h.by;
  }

  for_tag_of : {c v s q y : ℕ} → ForTag X c v s q y → ForTag j c v s q y
  for_tag_of h = record { visit = h.visit; got = of.tag h.got; which = h.which }

  for_record_of : {c v s q y : ℕ} → ForRecord X c v s q y → ForRecord j c v s q y
  for_record_of h = record {
    got = of.bare h.got;
    tenancy = h.tenancy;
    same = h.same;
    slot = h.slot;
    visit = h.visit;
    beat = h.beat;
    entered = entered_among_of h.entered;
    life = h.life;
    which = h.which;
  }

  bare_of : {c v b : ℕ} → GotBareInLife X c v b → GotBareInLife j c v b
  bare_of h = record { beat = h.beat; got = of.bare h.got; by = h.by; life = h.life }

  stray_of : {p : Params} {c v b : ℕ} → IsStray p X c v b → IsStray p j c v b
  stray_of h = record { slot = h.slot; visit = h.visit; got = tag_of h.got; away = h.away }

  for_state_of : {p : Params} {c v s q y : ℕ} → ForState p X c v s q y → ForState p j c v s q y
  for_state_of h = record {
    tenancy = h.tenancy;
    same = h.same;
    slot = h.slot;
    visit = h.visit;
    got = of.got h.got;
    which = h.which;
    unplaced = ⊎_elim (λ a. inl (bare_of a)) (λ a. inr (stray_of a)) h.unplaced;
  }

  pub pass_of : {p : Params} {c v s q y : ℕ} → IsPass p X c v s q y → IsPass p j c v s q y
  pass_of h = record {
    at = h.at;
    reached = reached_of h.reached;
    how = ⊎_elim
        (λ a. inl (for_tag_of a))
        (λ k. inr (⊎_elim (λ a. inl (for_record_of a)) (λ a. inr (for_state_of a)) k))
        h.how;
  }

  pub told_of : {p : Params} {a k v s q x : ℕ} → IsTold p X a k v s q x → IsTold p j a k v s q x
  told_of h = record {
    visit = h.visit;
    next = h.next;
    passed = of.passed h.passed;
    ahead = h.ahead;
    soon = h.soon;
  }
