-- One life of each cub among two: what both tell of a beat of that life is told of it.
use Rattle.std.proofs.Common.{ℕ, ◌≤◌, arith, ⊎_elim, inl, inr}
use Rattle.std.specs.Prelude.{◌⊎◌}
use Rattle.tiger_base.specs.declared.tenancy.Ask.{Ask}
use Rattle.tiger_base.specs.declared.tenancy.Tenancy.{Tenancy}
use Rattle.slot_plan.specs.declared.params.Params.{Params}
use Rattle.slot_plan.proofs.Times.{time_mono}
use Rattle.proof_schedule.specs.Facts.{Facts, Entered, EnteredAmong, IsUnheld, IsFirstLife, IsSameLife}
use Rattle.proof_schedule.specs.StateLaws.{Stands, PutsForDead, Inserts, Forwards, Found, Meeting, IsShown}
use Rattle.proof_schedule.specs.StartLaws.{Comes}
use Rattle.proof_schedule.specs.WatchLaws.{IsSilence}
use Rattle.proof_schedule.proofs.Lives.{ReturnAfter, first_same_life}
use Rattle.proof_two_lives.specs.TwoLives.{AreOfLives, among, beside}
use Rattle.proof_two_lives.proofs.Forward.{AreFactsOf, tick_of, entered_of, entered_among_of, puts_own_of, early_of, had_left_of, believed_of, released_of, tag_of, passed_of}

-- What j tells of a beat that is not behind one of this life is told of this life, or the cub came
-- back between them.
pub record AreKept (x j : Facts) (In : ℕ → ℕ → Type 0) : Type 0 where
  pub ticked : {c y b l : ℕ} → In c b → y ≤ b → j.Ticked c y l
      → x.Ticked c y l ⊎ ReturnAfter j c y b
  pub inserted : {c n y b : ℕ} {t : Tenancy} → In c b → y ≤ b → j.Inserted c t n y
      → x.Inserted c t n y ⊎ ReturnAfter j c y b
  pub took : {c n y b : ℕ} {t : Tenancy} → In c b → y ≤ b → j.Took c t n y
      → x.Took c t n y ⊎ ReturnAfter j c y b
  pub asked : {c y b : ℕ} {ask : Ask} → In c b → y ≤ b → j.Asked c ask y
      → x.Asked c ask y ⊎ ReturnAfter j c y b
  pub apart : {c y b : ℕ} {ask : Ask} → In c b → y ≤ b → j.AskedApart c ask y
      → x.AskedApart c ask y ⊎ ReturnAfter j c y b
  pub reached : {c v y b : ℕ} → In c b → y ≤ b → j.Reached c v y
      → x.Reached c v y ⊎ ReturnAfter j c y b
  pub passed : {c v s q y b : ℕ} → In c b → y ≤ b → j.Passed c v s q y
      → x.Passed c v s q y ⊎ ReturnAfter j c y b
  pub heard : {c y b : ℕ} → In c b → y ≤ b → j.Heard c y → x.Heard c y ⊎ ReturnAfter j c y b
  pub believed : {c y b : ℕ} → In c b → y ≤ b → j.Believed c y
      → x.Believed c y ⊎ ReturnAfter j c y b

-- The facts x are of one life of each cub, whose beats In tells, among the facts j of all.
pub record IsOneLife (x j : Facts) (In : ℕ → ℕ → Type 0) : Type 0 where
  pub facts : AreFactsOf x j
  pub lives : AreOfLives x In
  pub kept : AreKept x j In
  pub on : {c y b : ℕ} → In c y → y ≤ b → IsSameLife j c y b → In c b

-- Beats of one life have no return between them.
pub in_same_life : {j : Facts} {c y b : ℕ} {A : Type 0} → IsSameLife j c y b
    → A ⊎ ReturnAfter j c y b → A
in_same_life same h = ⊎_elim
    (λ a. a)
    (λ k. let before = same k.beat k.returned k.by in let after = k.after in absurd (omega arith))
    h

-- Nor has a beat of a first life one before it.
pub in_first_life : {j : Facts} {c y b : ℕ} {A : Type 0} → IsFirstLife j c b
    → A ⊎ ReturnAfter j c y b → A
in_first_life {j} {c} {y} {b} {A} first h = in_same_life (first_same_life j c b first y) h

module _ {x j : Facts} {In : ℕ → ℕ → Type 0} (one : IsOneLife x j In) where
  abbrev X : Facts
  X = beside j x

  abbrev A : Facts
  A = among X j

  -- What a cub sent in any life is told of all.
  among_facts : AreFactsOf A j
  among_facts = record {
    ticked = λ a. one.facts.ticked a;
    put = λ a. one.facts.put a;
    inserted = λ a. one.facts.inserted a;
    took = λ a. one.facts.took a;
    shows = λ a. one.facts.shows a;
    sent = λ a. a;
    got = λ a. one.facts.got a;
    asked = λ a. one.facts.asked a;
    apart = λ a. one.facts.apart a;
    told = λ a. a;
    reached = λ a. one.facts.reached a;
    tag = λ a. one.facts.tag a;
    bare = λ a. one.facts.bare a;
    passed = λ a. one.facts.passed a;
    beat = λ a. one.facts.beat a;
    heard = λ a. one.facts.heard a;
    believed = λ a. one.facts.believed a;
  }

  pub entered_in : {c n y : ℕ} {t : Tenancy} → Entered X c t n y → In c y
  entered_in {c} {n} {y} {t} h = ⊎_elim
      (λ a. one.lives.took c t n y a)
      (λ a. one.lives.inserted c t n y a)
      h

  pub kept_entered : {c n y b : ℕ} {t : Tenancy} → In c b → y ≤ b → Entered j c t n y
      → Entered X c t n y ⊎ ReturnAfter j c y b
  kept_entered here le h = ⊎_elim
      (λ a. ⊎_elim (λ k. inl (inl k)) (λ k. inr k) (one.kept.took here le a))
      (λ a. ⊎_elim (λ k. inl (inr k)) (λ k. inr k) (one.kept.inserted here le a))
      h

  -- A hold that is over in one life is over by all facts.
  pub unheld_of : {p : Params} {c v b y : ℕ} → In c b → IsUnheld p X c v b y → IsUnheld p j c v b y
  unheld_of here h x reached le same =
      released_of one.facts (h x (in_same_life same (one.kept.reached here le reached)) le same)

  -- ---- records

  pub stands_of : {p : Params} {c s n b : ℕ} → Stands p X c s n b → Stands p j c s n b
  stands_of h = record {
    holder = h.holder;
    slot = h.slot;
    beat = h.beat;
    entered = entered_of one.facts h.entered;
    by = h.by;
    since = unheld_of (one.on (entered_in h.entered) h.by h.life) h.since;
    life = h.life;
  }

  for_dead_of : {p : Params} {c x : ℕ} {t : Tenancy} → PutsForDead p X c t x
      → PutsForDead p j c t x
  for_dead_of h = record {
    next = h.next;
    believed = believed_of one.facts h.believed;
    second = λ l. ⊎_elim
        (λ a. inl (one.facts.inserted a))
        (λ a. inr (stands_of a))
        (h.second l);
  }

  pub inserts_of : {p : Params} {c x : ℕ} {t : Tenancy} → Inserts p X c t x → Inserts p j c t x
  inserts_of h = record {
    reading = h.reading;
    tick = tick_of one.facts h.tick;
    whole = ⊎_elim (λ a. inl (one.facts.ticked a)) (λ a. inr a) h.whole;
    above = h.above;
    below = h.below;
    within = h.within;
    entered = one.facts.inserted h.entered;
    first = h.first;
    who = ⊎_elim (λ a. inl (puts_own_of one.facts a)) (λ a. inr (for_dead_of a)) h.who;
  }

  pub forwards_of : {p : Params} {a m x : ℕ} {t : Tenancy} → Forwards p X a t m x
      → Forwards p j a t m x
  forwards_of h = record {
    visit = h.visit;
    next = h.next;
    more = h.more;
    own = h.own;
    beat = h.beat;
    entered = entered_of one.facts h.entered;
    by = h.by;
    reading = h.reading;
    tick = tick_of one.facts h.tick;
    soon = h.soon;
    fresh = ⊎_elim (λ a. inl a) (λ a. inr (early_of one.facts a)) h.fresh;
    since = unheld_of (one.on (entered_in h.entered) h.by h.life) h.since;
    life = h.life;
  }

  pub shown_of : {p : Params} {c n b : ℕ} {t : Tenancy} → IsShown p X c t n b
      → IsShown p j c t n b
  shown_of h = record {
    reading = h.reading;
    ticked = one.facts.ticked h.ticked;
    undue = h.undue;
    beat = h.beat;
    entered = entered_of one.facts h.entered;
    by = h.by;
    since = unheld_of (one.on (entered_in h.entered) h.by h.life) h.since;
    life = h.life;
  }

  -- ---- states that meet records

  among_in : {c n b y : ℕ} {t : Tenancy} → EnteredAmong X c t n b y → In c b × (b ≤ y)
  among_in {c} {n} {b} {y} {t} h = ⊎_elim
      (λ a. (one.lives.took c t n b a.0, a.1))
      (λ a. let before = a.1 in (one.lives.inserted c t n b a.0, omega arith))
      h

  found_of : {p : Params} {c s n y from ahead sent : ℕ} → Found p A c s n y from ahead sent
      → Found p j c s n y from ahead sent
  found_of {p} {c} {s} {n} {y} {from} {ahead} {sent} h =
      let start = among_in h.entered in
      let here = one.on start.0 start.1 h.life in
      record {
        holder = h.holder;
        slot = h.slot;
        beat = h.beat;
        entered = entered_among_of one.facts h.entered;
        behind = λ u q x told le same. released_of among_facts (h.behind u q x told le same);
        since = λ b reached before same.
            let le : b ≤ y = omega arith in
            let own = in_same_life same (one.kept.reached here le reached) in
            released_of among_facts (h.since b own before same);
        life = h.life;
      }

  pub meeting_of : {p : Params} {c m y : ℕ} {t : Tenancy} → Meeting p A c t m y
      → Meeting p j c t m y
  meeting_of h = record {
    from = h.from;
    ahead = h.ahead;
    beat = h.beat;
    sent = h.sent;
    to = h.to;
    later = h.later;
    soon = h.soon;
    tags = λ v s q x told le same. tag_of among_facts (h.tags v s q x told le same);
    places = λ n given let_in. ⊎_elim
        (λ a. inl (found_of a))
        (λ a. inr (passed_of among_facts a))
        (h.places n given let_in);
  }

  -- ---- starts and belief

  pub comes_of : {p : Params} {c x : ℕ} {t : Tenancy} → In c x → IsFirstLife j c x
      → Comes p X c t x → Comes p j c t x
  comes_of here first h = record {
    ask = h.ask;
    asked = h.asked;
    start = h.start;
    came = ⊎_elim (λ a. inl (one.facts.asked a)) (λ a. inr (one.facts.apart a)) h.came;
    before = h.before;
    since = unheld_of here h.since;
    unshown = λ u n y took same le. ⊎_elim
        (λ a. inl (had_left_of one.facts a))
        (λ a. inr (released_of one.facts a))
        (h.unshown u n y (in_first_life first (one.kept.took here le took)) same le);
  }

  pub silence_of : {p : Params} {c b : ℕ} → In c b → IsSilence p X c b → IsSilence p j c b
  silence_of {p} {c} {b} here h = record {
    reading = h.reading;
    tick = tick_of one.facts h.tick;
    long = h.long;
    since = λ y heard le. ⊎_elim
        (λ a. h.since y a le)
        (λ k.
        let after = k.after in
        let rise = time_mono p y k.beat (omega arith) in
        let back = h.back k.beat k.returned k.by in
        omega arith)
        (one.kept.heard here le heard);
    back = h.back;
  }
