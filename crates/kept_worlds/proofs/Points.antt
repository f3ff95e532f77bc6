-- A machine beside the numbers of the events that come next, and what of it is known before the next one.
use Rattle.std.proofs.Common.{◌≡◌, ℕ, zero, suc, ◌+◌, ◌%◌, ◌<◌, ◌≤◌, List, [], ◌∷◌, length, Bool, true, false, Option, Some, None}
use Rattle.std.proofs.Common.{refl, ap, sym, ◌∙◌, subst, arith, ⊎_elim}
use Rattle.std.specs.Prelude.{slice_get, nat_lt}
use Rattle.std.proofs.Math.Nat.{mod-lt}
use Rattle.std.proofs.lemmas.Option.{slice_get_within}
use Rattle.std.proofs.lemmas.Bool.{cases_Bool, cases_lt}
use Rattle.std.proofs.lemmas.Bool.Decides.{nat_tests}
use Rattle.tiger_base.specs.declared.message.Note.{Note}
use Rattle.tiger_base.specs.declared.number.Stamp.{Stamp}
use Rattle.slot_plan.specs.declared.params.Params.{Params}
use Rattle.node_kit.specs.Links.{links_of, ends_of}
use Rattle.node_kit.specs.Steps.{Input, Deed}
use Rattle.run_facts.specs.Events.{NodeEvent, behind, opening, stamp_at, is_death, is_return, sends_along}
use Rattle.run_facts.specs.Events.NodeEvent.{Dies}
use Rattle.run_facts.specs.Accounts.{AreAlive, event_at, open_after}
use Rattle.run_facts.specs.Histories.{History, IsBack, IsRun, beat, open_beat, place, place_behind, reading, sent}
use Rattle.run_facts.proofs.Rows.{same-element}
use Rattle.run_facts.proofs.Indexed.{all-at}
use Rattle.run_facts.proofs.Timelines.{open-append}
use Rattle.run_facts.proofs.Listed.{listed, listed-all, listed-length, listed-sends}
use Rattle.ring_world.specs.declared.event.Act.{Act}
use Rattle.ring_world.specs.declared.event.Event.{Event}
use Rattle.ring_world.specs.Machine.{Machine, Being, undying, node_of}
use Rattle.ring_world.specs.Faults.{has_done, life_fault, node_fault, missed_fault, take_fault, late_fault, death_fault, fault_of}
use Rattle.ring_world.specs.Laws.{IsPlace}
use Rattle.ring_world.specs.Merging.{place_along}
use Rattle.ring_world.proofs.Deaths.{HasDied, IsDeathAt, beat_at}
use Rattle.ring_world.proofs.Ways.{place-append}
use Rattle.ring_world.proofs.Steps.{IsLifeline}
use Rattle.ring_world.proofs.Moving.{Holds}
use Rattle.kept_worlds.specs.Merges.{LivesThrough, MayHappen}
use Rattle.kept_worlds.proofs.Lifeless.{sends-twin}
use Rattle.kept_worlds.proofs.Faultless.{none-beat, none-missed, none-node, none-all}
use Rattle.kept_worlds.proofs.Numbers.{listed-more}
use Rattle.run_facts.proofs.Passing.{opens_by}
use Rattle.kept_worlds.proofs.Returning.{number_of}

-- a node of whatever state may stand anywhere: what is asked of nodes is a run's own record
abbrev pub anywhere : {S : Type 0} → S → Params → ℕ → Type 0
anywhere s p n = Unit {0}

-- of a node before its event of a number, the being knows when the one before it was
abbrev pub IsLatest : {M S : Type 0} → History M S → ℕ → ℕ → Being S → Type 0
IsLatest h n zero b = (b.acted ≡ 0) × (b.reading ≡ 0)
IsLatest h n (suc i) b = (b.acted ≡ suc (beat h n i)) × (b.reading ≡ reading h n i)

-- what was sent and taken by the events below a number, in lists
pub sends-listed : {M S : Type 0} (note : M → Note) (step : S → Input M → Deed M S) (l : ℕ) (h : History M S) (n i : ℕ)
    → sends_along note step l (listed h n 0 i) (opening (h.first n) undying) ≡ sent note step l h n i
sends-listed note step l h n i =
    sends-twin note step l (listed h n 0 i) (opening (h.first n) undying) (opening (h.first n) (h.life n))
    (record { state = refl; journal = refl })
    ∙ sym (listed-sends note step l h n 0 i i (omega arith))

pub place-listed : {M S : Type 0} (l : ℕ) (h : History M S) (n i : ℕ)
    → place_along l (h.before l) 0 (listed h n 0 i) ≡ place l h n i
place-listed l h n zero = refl
place-listed l h n (suc i) =
    ap (place_along l (h.before l) 0) (listed-more h n 0 i i (omega arith))
    ∙ place-append l (h.before l) 0 (listed h n 0 i) (h.event n i ∷ [])
    ∙ ap (λ (k : ℕ). place_behind l (h.before l) (h.event n i) k) (place-listed l h n i)

pub open-listed : {M S : Type 0} (h : History M S) (n i : ℕ) → open_after 0 (listed h n 0 i) ≡ open_beat h n i
open-listed h n zero = refl
open-listed h n (suc i) =
    ap (open_after 0) (listed-more h n 0 i i (omega arith))
    ∙ open-append 0 (listed h n 0 i) (h.event n i ∷ [])
    ∙ ap (behind (h.event n i)) (open-listed h n i)

-- the event of a number is the history's
listed-at : {M S : Type 0} (h : History M S) (n i k j m : ℕ) → i + j ≡ m → j < k
    → event_at (listed h n i k) j ≡ h.event n m
listed-at h n i zero j m e low = absurd (omega (arith, low))
listed-at h n i (suc k) zero m e low = let same : i ≡ m = omega (arith, e) in ap (h.event n) same
listed-at h n i (suc k) (suc j) m e low = listed-at h n (suc i) k j m (omega (arith, e)) (omega (arith, low))

-- who has no death among its events is not dead, and has never died
pub never-died : {M : Type 0} (dead : Bool) (death : Option ℕ) (es : List (NodeEvent M)) → HasDied dead death es
    → AreAlive es → (dead ≡ false) × (death ≡ None)
never-died {M} dead death es h alive = (by_dead dead h, by_death death h)
  where
    living : (i : ℕ) → i < length es → is_death (event_at es i) ≡ true → ⊥
    living i low died = let q : true ≡ false = sym died ∙ all-at (λ (e : NodeEvent M). is_death e ≡ false) es i low alive in
        absurd (cc)

    by_dead : (d : Bool) → HasDied d death es → d ≡ false
    by_dead true k = let one = k.final refl in let end = one.1 in absurd (living one.0 (omega (arith, end)) one.2)
    by_dead false k = refl

    by_death : (d : Option ℕ) → HasDied dead d es → d ≡ None
    by_death None k = refl
    by_death (Some d) k = let one = k.when d refl in absurd (living one.0 one.1.low one.1.died)

module _ {M S : Type 0} (note : M → Note) (step : S → Input M → Deed M S) (p : Params) (nodes beats : ℕ) (h : History M S)
    (place : IsPlace p nodes beats) (run : IsRun note step p nodes h) (may : MayHappen p nodes beats h) where
  -- the machine has come through the events below these numbers
  pub record IsAt (m : Machine M S) (es : ℕ → List (NodeEvent M)) (at : ℕ → ℕ) : Type 0 where
    pub holds : Holds note step anywhere p nodes h.first m es
    pub told : (k : ℕ) → k < nodes → es k ≡ listed h k 0 (at k)
    pub within : (k : ℕ) → k < nodes → at k ≤ h.count k
    pub last : (k : ℕ) (c : Being S) → k < nodes → slice_get m.beings k ≡ Some c → IsLatest h k (at k) c
    pub away : (k : ℕ) (c : Being S) → k < nodes → slice_get m.beings k ≡ Some c
        → ((j : ℕ) → j < at k → is_return (h.event k j) ≡ false) → c.returned ≡ false

  -- the next event of node n comes before all that are left, and is no earlier than those of the machine
  pub record IsNext (m : Machine M S) (at : ℕ → ℕ) (n : ℕ) : Type 0 where
    pub low : n < nodes
    pub here : at n < h.count n
    pub goes : m.beat ≤ beat h n (at n)
    pub first : (k j : ℕ) → k < nodes → at k ≤ j → j < h.count k → beat h n (at n) ≤ beat h k j

  latest-reading : (n i : ℕ) (b : Being S) → n < nodes → i < h.count n → IsLatest h n i b → b.reading ≤ reading h n i
  latest-reading n zero b low here latest = let none = latest.1 in omega (arith, none)
  latest-reading n (suc i) b low here latest =
      let same = latest.1 in
      let up = run.rising n i (suc i) low (omega arith) here in
      omega (arith, same, up)

  latest-acted : (n i : ℕ) (stamp : Stamp) (b : Being S) → n < nodes → i < h.count n → h.event n i ≡ Dies stamp
      → IsLatest h n i b → b.acted ≤ beat h n i
  latest-acted n zero stamp b low here is latest = let none = latest.0 in omega (arith, none)
  latest-acted n (suc i) stamp b low here is latest =
      let same = latest.0 in
      let idle = may.idle n i (suc i) stamp low (omega arith) here is in
      omega (arith, same, idle)

  module _ (m : Machine M S) (es : ℕ → List (NodeEvent M)) (at : ℕ → ℕ) (point : IsAt m es at) where
    -- the being of a node, and its line
    line-of : (k : ℕ) (c : Being S) → k < nodes → slice_get m.beings k ≡ Some c
        → IsLifeline note step anywhere p k m.beat (h.first k) c (es k)
    line-of k c low here =
        let own = point.holds.node k low in
        let same : own.0 ≡ c = same-element m.beings k own.0 c own.1 here in
        subst (λ (a : Being S). IsLifeline note step anywhere p k m.beat (h.first k) a (es k)) same own.2

    -- its events by their numbers
    pub size-of : (k : ℕ) → k < nodes → length (es k) ≡ at k
    size-of k low = ap length (point.told k low) ∙ listed-length h k 0 (at k)

    pub event-of : (k j : ℕ) → k < nodes → j < at k → event_at (es k) j ≡ h.event k j
    event-of k j low high =
        ap (λ q. event_at q j) (point.told k low) ∙ listed-at h k 0 (at k) j j (omega arith) high

    -- a death among them
    death-of : (k j : ℕ) → k < nodes → j < at k → is_death (h.event k j) ≡ true → IsDeathAt (es k) j
    death-of k j low high died =
        let size = size-of k low in
        record { low = omega (arith, size, high); died = ap is_death (event-of k j low high) ∙ died }

    -- and one that is found there
    death-is : (k j : ℕ) → k < nodes → IsDeathAt (es k) j → (j < at k) × (is_death (h.event k j) ≡ true)
    death-is k j low one =
        let size = size-of k low in
        let here = one.low in
        let high : j < at k = omega (arith, here, size) in
        (high, ap is_death (sym (event-of k j low high)) ∙ one.died)

    pub ticked-at : (k : ℕ) (c : Being S) → k < nodes → slice_get m.beings k ≡ Some c → c.ticked ≡ open_beat h k (at k)
    ticked-at k c low here =
        (line-of k c low here).ticked ∙ ap (open_after 0) (point.told k low) ∙ open-listed h k (at k)

    -- who lives through the history is not dead, and has never died
    pub spared : (k : ℕ) (c : Being S) → k < nodes → slice_get m.beings k ≡ Some c → LivesThrough h k
        → (c.dead ≡ false) × (c.died ≡ None)
    spared k c low here through =
        let within = point.within k low in
        let alive : AreAlive (es k) = subst AreAlive (sym (point.told k low))
        (listed-all h (λ e. is_death e ≡ false) k 0 (at k) (at k) (omega arith) (λ j _ high. through j (omega (arith, high, within)))) in
        never-died c.dead c.died (es k) (line-of k c low here).deaths alive

    pub sent-here : (l from to : ℕ) → ends_of (links_of p) l ≡ Some (from, to)
        → sends_along note step l (es from) (opening (h.first from) undying) ≡ sent note step l h from (at from)
    sent-here l from to ends =
        ap (λ q. sends_along note step l q (opening (h.first from) undying)) (point.told from (place.linked l from to ends).0)
        ∙ sends-listed note step l h from (at from)

    pub taken-here : (l k : ℕ) → k < nodes → place_along l (h.before l) 0 (es k) ≡ number_of l h k (at k)
    taken-here l k low = ap (place_along l (h.before l) 0) (point.told k low) ∙ place-listed l h k (at k)

    module _ (n : ℕ) (next : IsNext m at n) where
      -- the being of the node
      abbrev pub own : Being S
      own = (point.holds.node n next.low).0

      pub own-at : slice_get m.beings n ≡ Some own
      own-at = (point.holds.node n next.low).1

      own-line : IsLifeline note step anywhere p n m.beat (h.first n) own (es n)
      own-line = line-of n own next.low own-at

      -- it lives, if its next event is no return
      pub own-lives : is_return (h.event n (at n)) ≡ false → own.dead ≡ false
      own-lives here = ⊎_elim
          (λ (dead : own.dead ≡ true).
          let last = own-line.deaths.final dead in
          let end = last.1 in
          let size = size-of n next.low in
          let one = death-is n last.0 next.low (record { low = omega (arith, end); died = last.2 }) in
          let more = next.here in
          let next_one : last.0 + 1 ≡ at n = omega (arith, end, size) in
          ⊎_elim
          (λ (over : last.0 + 1 ≡ h.count n). absurd (omega (arith, over, next_one, more)))
          (λ (back : is_return (h.event n (last.0 + 1)) ≡ true).
          let q : true ≡ false = sym back ∙ subst (λ k. is_return (h.event n k) ≡ false) (sym next_one) here in absurd (cc))
          (run.ended n last.0 next.low (omega (arith, next_one, more)) one.1))
          (λ (lives : own.dead ≡ false). lives)
          (cases_Bool own.dead)

      -- and has never died, if that is a death
      pub own-undied : is_death (h.event n (at n)) ≡ true → own.died ≡ None
      own-undied died = by_death own.died refl
        where
          by_death : (d : Option ℕ) → own.died ≡ d → d ≡ None
          by_death None e = refl
          by_death (Some d) e =
              let one = own-line.deaths.when d e in
              let there = death-is n one.0 next.low one.1 in
              let before = there.0 in
              let here = next.here in
              let same = run.once n one.0 (at n) next.low (omega (arith, before, here)) here there.1 died in
              absurd (omega (arith, same, before))

      -- a node that returns is dead, since two beats or more, and has not returned before
      pub own-dead : is_return (h.event n (at n)) ≡ true
          → (own.dead ≡ true) × (d : ℕ) × (own.died ≡ Some d) × (d + 2 ≤ beat h n (at n))
      own-dead back =
          let dead = ⊎_elim
          (λ (dead : own.dead ≡ true). dead)
          (λ (lives : own.dead ≡ false).
          let more = own-line.deaths.up lives behind_it.last last-death in
          let size = size-of n next.low in
          absurd (omega (arith, more, size, next_one)))
          (cases_Bool own.dead) in
          let died = by_death own.died refl in
          (dead, died.0, died.1, died.2)
        where
          behind_it : IsBack h n (at n)
          behind_it = run.returned n (at n) next.low next.here back

          next_one : at n ≡ suc behind_it.last
          next_one = behind_it.next

          last-death : IsDeathAt (es n) behind_it.last
          last-death = death-of n behind_it.last next.low (omega (arith, next_one)) behind_it.died

          by_death : (o : Option ℕ) → own.died ≡ o → (d : ℕ) × (o ≡ Some d) × (d + 2 ≤ beat h n (at n))
          by_death None e =
              let q : true ≡ false = sym last-death.died
              ∙ all-at (λ (x : NodeEvent M). is_death x ≡ false) (es n) behind_it.last last-death.low (own-line.deaths.never e) in
              absurd (cc)
          by_death (Some d) e =
              let one = own-line.deaths.when d e in
              let same = own-line.deaths.once one.0 behind_it.last one.1 last-death in
              let dated : beat_at (es n) behind_it.last ≡ d = ap (beat_at (es n)) (sym same) ∙ one.2 in
              let theirs : beat_at (es n) behind_it.last ≡ beat h n behind_it.last =
              ap (λ (x : NodeEvent M). (stamp_at x).beat) (event-of n behind_it.last next.low (omega (arith, next_one))) in
              let apart = behind_it.apart in
              (d, refl, omega (arith, dated, theirs, apart))

      pub own-first : is_return (h.event n (at n)) ≡ true → own.returned ≡ false
      own-first back = point.away n own next.low own-at (λ j low. ⊎_elim
          (λ (t : is_return (h.event n j) ≡ true).
          let here = next.here in
          let one = run.returned n j next.low (omega (arith, low, here)) t in
          let two = run.returned n (at n) next.low here back in
          let next_one = one.next in
          let next_two = two.next in
          let same = run.once n one.last two.last next.low (omega (arith, next_one, low, here)) (omega (arith, next_two, here))
          one.died two.died in
          absurd (omega (arith, same, next_one, next_two, low)))
          (λ (f : is_return (h.event n j) ≡ false). f)
          (cases_Bool (is_return (h.event n j))))

      own-open : own.ticked ≡ open_beat h n (at n)
      own-open = ticked-at n own next.low own-at

      pub own-ticked : is_return (h.event n (at n)) ≡ false → own.ticked ≡ beat h n (at n)
      own-ticked here = own-open ∙ sym (run.in_beat n (at n) next.low next.here here)

      pub own-done : own.ticked ≤ beat h n (at n)
      own-done = let a = own-open in let b = opens_by run n next.low (at n) next.here in omega (arith, a, b)

      pub own-read : own.reading ≤ reading h n (at n)
      own-read = latest-reading n (at n) own next.low next.here (point.last n own next.low own-at)

      pub own-acted : (stamp : Stamp) → h.event n (at n) ≡ Dies stamp → own.acted ≤ beat h n (at n)
      own-acted stamp is = latest-acted n (at n) stamp own next.low next.here is (point.last n own next.low own-at)

      -- a death of who is not dead is followed by more
      goes-on : (k : ℕ) (c : Being S) (j : ℕ) → k < nodes → slice_get m.beings k ≡ Some c → c.dead ≡ false → j < at k
          → is_death (h.event k j) ≡ true → j + 1 < at k
      goes-on k c j low here lives high died =
          let more = (line-of k c low here).deaths.up lives j (death-of k j low high died) in
          let size = size-of k low in
          omega (arith, more, size)

      -- who lives has ticked in each beat before
      pub reached : (k : ℕ) (c : Being S) → k < nodes → slice_get m.beings k ≡ Some c → c.dead ≡ false
          → beat h n (at n) ≤ c.ticked
      reached k c low here lives =
          let ticked = ticked-at k c low here in
          ⊎_elim
          (λ (more : at k < h.count k).
          let later = next.first k (at k) low (omega arith) more in
          let up : is_return (h.event k (at k)) ≡ false = ⊎_elim
          (λ (back : is_return (h.event k (at k)) ≡ true).
          let one = run.returned k (at k) low more back in
          let after = one.next in
          let on = goes-on k c one.last low here lives (omega (arith, after)) one.died in
          absurd (omega (arith, on, after)))
          (λ (f : is_return (h.event k (at k)) ≡ false). f)
          (cases_Bool (is_return (h.event k (at k)))) in
          let counted = run.in_beat k (at k) low more up in
          omega (arith, later, counted, ticked))
          (λ (none : h.count k ≤ at k).
          let within = point.within k low in
          let all : at k ≡ h.count k = omega (arith, none, within) in
          let level = run.level n k (at n) next.low low next.here (λ j high died.
          let on = goes-on k c j low here lives (omega (arith, high, all)) died in omega (arith, on, all)) in
          let same : open_beat h k (h.count k) ≡ open_beat h k (at k) = ap (open_beat h k) (sym all) in
          omega (arith, level, same, ticked))
          (cases_lt (at k) (h.count k))

      -- one of the first two cubs lives through the history, so the beat is the machine's or the next
      by-cub : (k : ℕ) → k < nodes → LivesThrough h k → beat h n (at n) ≤ suc m.beat
      by-cub k low through =
          let theirs = point.holds.node k low in
          let up = reached k theirs.0 low theirs.1 (spared k theirs.0 low theirs.1 through).0 in
          let high = theirs.2.high in
          omega (arith, up, high)

      pub soon : beat h n (at n) ≤ suc m.beat
      soon =
          let two = place.two_cubs in
          let cubs = place.cubs in
          let some : 0 < p.cubs = omega (arith, two) in
          let after : (0 + 1) % p.cubs < p.cubs = mod-lt (0 + 1) some in
          ⊎_elim
          (λ (through : LivesThrough h 0). by-cub 0 (omega (arith, two, cubs)) through)
          (λ (through : LivesThrough h ((0 + 1) % p.cubs)). by-cub ((0 + 1) % p.cubs) (omega (arith, after, cubs)) through)
          (may.apart 0 some)

      pub none-of_missed : missed_fault m.beat (beat h n (at n)) m.beings ≡ None
      none-of_missed = none-missed m.beat (beat h n (at n)) m.beings (λ k c here lives.
          let within = slice_get_within m.beings k c here in
          let size = point.holds.size in
          reached k c (omega (arith, within, size)) here lives)

      pub undone : nat_lt (beat h n (at n)) own.ticked ≡ false
      undone = let low = own-done in grind (arith, nat_tests, low)

      -- an act of the node has no fault, if its kind has none
      pub none-of_act : (a : Act) → node_of p a ≡ n → life_fault n a (beat h n (at n)) own ≡ None → has_done a (beat h n (at n)) own ≡ false
          → take_fault m.ways (beat h n (at n)) a ≡ None → late_fault p m.ways (beat h n (at n)) a ≡ None
          → death_fault p m.beings a ≡ None
          → fault_of p m (record { stamp = stamp_at (h.event n (at n)); act = a }) ≡ None
      none-of_act a theirs life free take late death =
          let e : Event = record { stamp = stamp_at (h.event n (at n)); act = a } in
          let shown = run.reads n (at n) next.low next.here in
          let node : node_fault p (node_of p a) e (slice_get m.beings (node_of p a)) ≡ None =
          ap (λ k. node_fault p k e (slice_get m.beings k)) theirs ∙ ap (node_fault p n e) own-at
          ∙ none-node p n e own life free shown.0 shown.1 own-read in
          none-all p m e (none-beat m.beat (beat h n (at n)) next.goes soon) none-of_missed node take late death
