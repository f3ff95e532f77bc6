-- The scenario that is made of a number breaks no rule, whatever the number is.
use Rattle.std.proofs.Common.{◌≡◌, ◌≢◌, ℕ, zero, suc, ◌+◌, ◌*◌, ◌%◌, ◌<◌, ◌≤◌, List, [], ◌∷◌, ◌++◌, length, get_or, map, Option, Some, None, slice_get, ◌⊎◌, inl, inr, ap, sym, ◌∙◌, refl, subst, arith, Bool, true, false, length-append, lit≤, lit<, append_assoc}
use Rattle.std.specs.Prelude.{◌==◌, nat_lt, is_some, IfSome, if◌then◌else◌, codes, option_and_then}
use Rattle.std.specs.Fmt.{decimal}
use Rattle.std.specs.List.{All, count_by, range_with_len}
use Rattle.std.proofs.lemmas.Bool.{eqb-true, ne_eqb, lt-ltb}
use Rattle.std.proofs.lemmas.Fmt.{length-decimal-le}
use Rattle.std.proofs.lemmas.List.{length-replicate, get_or-replicate}
use Rattle.std.proofs.lemmas.List.Elements.{All-map, All-weaker}
use Rattle.std.proofs.lemmas.List.FromFn.{length-range_with_len, get_or-range_with_len, length-map-range_with_len, get_or-map-range_with_len}
use Rattle.std.proofs.lemmas.List.Sums.{count_by-le-length}
use Rattle.std.proofs.lemmas.Option.{slice_get-get_or}
use Rattle.tiger_base.specs.Limits.{most_beats, most_file}
use Rattle.rand_pcg.specs.Lcg.{Lcg}
use Rattle.link_timing.specs.Clock.{FixedIsWithin}
use Rattle.slot_plan.specs.Times.{disk_count, time_of}
use Rattle.scenario_read.specs.declared.scenario.ScEvent.{ScEvent}
use Rattle.scenario_read.specs.declared.scenario.ScEvent.TheVariants.{Begin, Finish}
use Rattle.scenario_read.specs.declared.scenario.Scenario.{Scenario}
use Rattle.scenario_read.specs.Events.{beat_of, starts_in, most_blocks}
use Rattle.scenario_read.specs.Meaning.{Said, said_by, of_none}
use Rattle.scenario_read.specs.Sound.{AreEvents, IsFile, IsReadFault, IsScenario}
use Rattle.scenario_read.specs.Deaths.{most_left}
use Rattle.scenario_make.specs.Draws.{after, draw, generator_of}
use Rattle.scenario_make.specs.Events.{at_start, beat_by, events_at, events_by}
use Rattle.scenario_make.specs.Files.{at_file, line_by, bytes_of, length_by, lines_by, contents_by}
use Rattle.scenario_make.specs.Made.{made_plan, scenario_by, made_scenario}
use Rattle.scenario_make.specs.Troubles.{offsets_by, death_among, two_deaths, first_death, second_death, deaths_by, fault_by, faults_by}
use Rattle.scenario_make.proofs.Drawing.{draw-below}
use Rattle.scenario_make.proofs.EventLists.{AreGood, good-nil, good-weaker, good-begin, good-finish}
use Rattle.scenario_make.proofs.Growing.{events_by-none, events_by-more, beat_by-none, beat_by-more}
use Rattle.node_kit.specs.declared.course.Course.{Course}
use Rattle.node_kit.specs.Life.{of_cub}
use Rattle.std.proofs.lemmas.Bool.Decides.{nat_tests}

-- the beat in which a cub dies
abbrev death_in : Said → ℕ → Option ℕ
death_in q n = if nat_lt n q.plan.cubs then option_and_then (λ d. d) (slice_get q.deaths n) else None

-- what a scenario says breaks no rule
record IsSound (q : Said) : Type 0 where
  low : 1 ≤ q.beats
  high : q.beats ≤ most_beats
  offsets : length q.offsets ≡ q.plan.cubs + 1
  skewed : All (λ o. o ≤ q.plan.skew) q.offsets
  by_cub : length q.deaths ≡ q.plan.cubs
  cuts : of_none q.plan.cubs ≡ q.cuts
  backs : of_none q.plan.cubs ≡ q.backs
  delay : FixedIsWithin q.delay q.plan.delay
  product : q.beats * q.plan.cubs ≤ 2000000
  some_file : 1 ≤ length q.files
  few_files : length q.files ≤ 64
  files : All (IsFile (disk_count q.plan)) q.files
  events : AreEvents q.beats (length q.files) q.events
  blocks : most_blocks q.plan q.beats (starts_in q.events) ≤ 400000
  few_deaths : count_by is_some q.deaths ≤ 32
  deaths : All (λ d. IfSome d (λ beat. beat < q.beats)) q.deaths
  apart : (n : ℕ) → n < q.plan.cubs → (death_in q n ≡ None) ⊎ (death_in q ((n + 1) % q.plan.cubs) ≡ None)
  few_faults : length q.faults ≤ 1000
  faults : All (IsReadFault (disk_count q.plan) q.beats) q.faults

-- a row that says nothing of each cub has as many elements, and none for any node
none_in : (c : Course) (n : ℕ) → of_cub c (of_none c.plan.params.cubs) n ≡ None
none_in c n = by (nat_lt n c.plan.params.cubs) refl
  where
    by : (b : Bool) → nat_lt n c.plan.params.cubs ≡ b → of_cub c (of_none c.plan.params.cubs) n ≡ None
    by false e = rw e refl
    by true e =
        let cubs = c.plan.params.cubs in
        let low : n < cubs = grind (arith, nat_tests, e) in
        let inside : n < length (of_none cubs) = rw (length-replicate {A = Option ℕ} cubs None) low in
        rw (e, slice_get-get_or (of_none cubs) n None inside, get_or-replicate {A = Option ℕ} cubs n None None low) refl

none_of : (c : Course) (row : List (Option ℕ)) → of_none c.plan.params.cubs ≡ row → (n : ℕ) → of_cub c row n ≡ None
none_of c row e n = subst (λ (row : List (Option ℕ)). of_cub c row n ≡ None) e (none_in c n)

length_none : (cubs : ℕ) (row : List (Option ℕ)) → of_none cubs ≡ row → length row ≡ cubs
length_none cubs row e = rw (← e) (length-replicate {A = Option ℕ} cubs None)

-- and keeps to whatever its elements keep to
all_of_none : (P : ℕ → Type 0) (cubs : ℕ) → All (λ o. IfSome o P) (of_none cubs)
all_of_none P cubs i d low = rw (get_or-replicate {A = Option ℕ} cubs i None d (omega (arith, low, length-replicate {A = Option ℕ} cubs None))) tt

scenario-sound : (s : Scenario) → IsSound (said_by s) → IsScenario s
scenario-sound s q =
    let p = s.course.plan.params in
    let cuts = none_of s.course s.course.cuts q.cuts in
    let backs = none_of s.course s.course.backs q.backs in
    record {
      course = record {
        beats = q.high;
        offsets = q.offsets;
        skewed = q.skewed;
        deaths = q.by_cub;
        cuts = length_none p.cubs s.course.cuts q.cuts;
        backs = length_none p.cubs s.course.backs q.backs;
        cut_deaths = λ n. rw (cuts n) tt;
        returns_later = λ n. rw (backs n) tt;
        delay = q.delay;
      };
      few_after = subst (λ (row : List (Option ℕ)). All (λ o. IfSome o (λ k. k ≤ most_left)) row) q.cuts (all_of_none (λ k. k ≤ most_left) p.cubs);
      backs = subst (λ (row : List (Option ℕ)). All (λ o. IfSome o (λ b. b < s.course.beats)) row) q.backs (all_of_none (λ b. b < s.course.beats) p.cubs);
      beats = q.low;
      product = q.product;
      some_file = q.some_file;
      few_files = q.few_files;
      files = q.files;
      events = q.events;
      blocks = q.blocks;
      few_deaths = q.few_deaths;
      deaths = q.deaths;
      apart = q.apart;
      few_faults = q.few_faults;
      faults = q.faults;
    }

-- what holds of the thing of each number below n holds of all
all_by : {X : Type 0} (P : X → Type 0) (f : ℕ → X) (n : ℕ) → ((k : ℕ) → k < n → P (f k)) → All P (map f (range_with_len 0 n))
all_by P f n each =
    All-map P f (range_with_len 0 n) (λ k d h.
    let small : k < n = omega (arith, length-range_with_len 0 n) in
    let none : k ≡ 0 + k = omega arith in
    let e : k ≡ get_or (range_with_len 0 n) k d = none ∙ sym (get_or-range_with_len 0 n k d small) in
    subst (λ (i : ℕ). P (f i)) e (each k small))

-- ---- the clocks

length-offsets_by : (g : Lcg) (n : ℕ) → length (offsets_by g n) ≡ n
unfolding offsets_by
length-offsets_by g n = length-map-range_with_len (λ (i : ℕ). draw g i 4001) 0 n

offsets-skewed : (g : Lcg) (n : ℕ) → All (λ o. o ≤ 4000) (offsets_by g n)
unfolding offsets_by
offsets-skewed g n = all_by (λ o. o ≤ 4000) (λ (i : ℕ). draw g i 4001) n (λ k _. let below = draw-below g k 4001 (lit≤ tt) in omega arith)

-- ---- the files

pub length-lines_by : (g : Lcg) (n : ℕ) → length (lines_by g n) ≡ n
unfolding lines_by
length-lines_by g n = length-map-range_with_len (λ (i : ℕ). line_by (at_file g i) i) 0 n

line-file : (g : Lcg) (i : ℕ) → i < 8 → IsFile 56 (line_by g i)
unfolding line_by
line-file g i small =
    let digits : length (decimal i) ≤ 20 = length-decimal-le 20 i (lit< tt) (omega arith) (omega arith) in
    let all : length (codes "made" ++ decimal i) ≡ 4 + length (decimal i) = length-append (codes "made") (decimal i) in
    record { named = rw all (omega arith); short = rw all (omega arith); on_disk = draw-below g 2 56 (lit≤ tt) }

lines-files : (g : Lcg) → All (IsFile 56) (lines_by g 8)
unfolding lines_by
lines-files g = all_by (IsFile 56) (λ (i : ℕ). line_by (at_file g i) i) 8 (λ k small. line-file (at_file g k) k small)

pub length-contents_by : (g : Lcg) (n : ℕ) → length (contents_by g n) ≡ n
unfolding contents_by
length-contents_by g n = length-map-range_with_len (λ (i : ℕ). bytes_of i (length_by (at_file g i))) 0 n

length-bytes_of : (i len : ℕ) → length (bytes_of i len) ≡ len
unfolding bytes_of
length-bytes_of i len = length-map-range_with_len (λ (j : ℕ). (31 * i + 7 * j) % 251) 0 len

length_by-range : (g : Lcg) → (1 ≤ length_by g) × (length_by g ≤ 3776)
unfolding length_by
length_by-range g =
    let blocks = draw-below g 0 40 (lit≤ tt) in
    let lacking = draw-below g 1 64 (lit≤ tt) in
    (omega arith, omega arith)

pub contents-filled : (g : Lcg) (n : ℕ) → All (λ bytes. 1 ≤ length bytes) (contents_by g n)
unfolding contents_by
contents-filled g n =
    all_by (λ bytes. 1 ≤ length bytes) (λ (i : ℕ). bytes_of i (length_by (at_file g i))) n
    (λ k _. rw (length-bytes_of k (length_by (at_file g k))) (length_by-range (at_file g k)).0)

pub contents-short : (g : Lcg) (n : ℕ) → All (λ bytes. length bytes ≤ most_file) (contents_by g n)
unfolding contents_by
contents-short g n =
    all_by (λ bytes. length bytes ≤ most_file) (λ (i : ℕ). bytes_of i (length_by (at_file g i))) n
    (λ k _. rw (length-bytes_of k (length_by (at_file g k))) (let range = length_by-range (at_file g k) in omega (arith, range.1)))

-- ---- the events

beat_by-small : (g : Lcg) (n : ℕ) → beat_by g n ≤ 9 * n
beat_by-small g zero = rw (beat_by-none g) (omega arith)
beat_by-small g (suc n) =
    let before = beat_by-small g n in
    let rise = draw-below (at_start g n) 0 10 (lit≤ tt) in
    let more = beat_by-more g n in
    let e : n + 1 ≡ suc n = omega arith in
    let now : beat_by g (n + 1) ≤ 9 * (n + 1) = omega arith in
    subst (λ (m : ℕ). beat_by g m ≤ 9 * m) e now

good-start : (g : Lcg) (most n before beat : ℕ) (events : List ScEvent) → AreGood most n before events → before ≤ beat
    → AreGood (most + 2) (n + 1) beat (events ++ events_at g n beat)
unfolding events_at
good-start g most n before beat events good le = tail (n % 5 == 4)
  where
    start : ScEvent
    start = Begin beat (record { 0 = draw g 1 8 })

    begun : AreGood (most + 1) (n + 1) beat (events ++ start ∷ [])
    begun = good-begin most n before beat (record { 0 = draw g 1 8 }) events good le (draw-below g 1 8 (lit≤ tt))

    stop : ScEvent
    stop = Finish beat (record { 0 = draw g 2 (n + 1) })

    stopped : AreGood (most + 1 + 1) (n + 1) beat ((events ++ start ∷ []) ++ stop ∷ [])
    stopped = good-finish (most + 1) (n + 1) beat (draw g 2 (n + 1)) (events ++ start ∷ []) begun (draw-below g 2 (n + 1) (omega arith))

    tail : (p : Bool) → AreGood (most + 2) (n + 1) beat (events ++ start ∷ (if p then stop ∷ [] else []))
    tail true =
        good-weaker (most + 1 + 1) (most + 2) (n + 1) beat (events ++ start ∷ stop ∷ [])
        (subst (λ (es : List ScEvent). AreGood (most + 1 + 1) (n + 1) beat es) (append_assoc events (start ∷ []) (stop ∷ [])) stopped) (omega arith)
    tail false = good-weaker (most + 1) (most + 2) (n + 1) beat (events ++ start ∷ []) begun (omega arith)

good-events : (g : Lcg) (n : ℕ) → AreGood (2 * n) n (beat_by g n) (events_by g n)
good-events g zero =
    subst (λ (es : List ScEvent). AreGood 0 0 (beat_by g 0) es) (sym (events_by-none g))
    (subst (λ (b : ℕ). AreGood 0 0 b []) (sym (beat_by-none g)) good-nil)
good-events g (suc n) =
    let rise = beat_by-more g n in
    let le : beat_by g n ≤ beat_by g (n + 1) = omega arith in
    let here = good-start (at_start g n) (2 * n) n (beat_by g n) (beat_by g (n + 1)) (events_by g n) (good-events g n) le in
    let all = subst (λ (es : List ScEvent). AreGood (2 * n + 2) (n + 1) (beat_by g (n + 1)) es) (sym (events_by-more g n)) here in
    let e : n + 1 ≡ suc n = omega arith in
    subst (λ (m : ℕ). AreGood (2 * m) m (beat_by g m) (events_by g m)) e
    (good-weaker (2 * n + 2) (2 * (n + 1)) (n + 1) (beat_by g (n + 1)) (events_by g (n + 1)) all (omega arith))

events-sound : (g : Lcg) → AreEvents 6000 8 (events_by g 300)
events-sound g =
    let good = good-events g 300 in
    let beats = beat_by-small g 300 in
    record {
      few = omega (arith, good.few);
      early = All-weaker (λ e. beat_of e ≤ beat_by g 300) (λ e. beat_of e < 6000) (λ e low. omega arith) (events_by g 300) good.early;
      in_order = good.in_order;
      within = good.within;
      started = good.started.stops;
      few_starts = omega (arith, good.count);
    }

-- ---- the deaths

length-two_deaths : (first second : ℕ × ℕ) (n : ℕ) → length (two_deaths first second n) ≡ n
unfolding two_deaths
length-two_deaths first second n = length-map-range_with_len (death_among first second) 0 n

deaths-early : (first second : ℕ × ℕ) (beats n : ℕ) → first.1 < beats → second.1 < beats
    → All (λ d. IfSome d (λ beat. beat < beats)) (two_deaths first second n)
unfolding two_deaths
deaths-early first second beats n one other =
    all_by (λ d. IfSome d (λ beat. beat < beats)) (death_among first second) n (λ k _. each (k == first.0) (k == second.0))
  where
    each : (p q : Bool) → IfSome (if p then Some first.1 else if q then Some second.1 else None) (λ beat. beat < beats)
    each true q = one
    each false true = other
    each false false = tt

none_or : (first second : ℕ × ℕ) (cub : ℕ) → (death_among first second cub ≡ None) ⊎ ((cub ≡ first.0) ⊎ (cub ≡ second.0))
none_or first second cub = by (cub == first.0) (cub == second.0) (eqb-true cub first.0) (eqb-true cub second.0)
  where
    by : (p q : Bool) → (p ≡ true → cub ≡ first.0) → (q ≡ true → cub ≡ second.0)
        → ((if p then Some first.1 else if q then Some second.1 else None) ≡ None) ⊎ ((cub ≡ first.0) ⊎ (cub ≡ second.0))
    by true q one other = inr (inl (one refl))
    by false true one other = inr (inr (other refl))
    by false false one other = inl refl

none_if : (first second : ℕ × ℕ) (cub : ℕ) → cub ≢ first.0 → cub ≢ second.0 → death_among first second cub ≡ None
none_if first second cub one other = rw (ne_eqb cub first.0 one, ne_eqb cub second.0 other) refl

two_deaths-at : (first second : ℕ × ℕ) (n k : ℕ) → k < n → slice_get (two_deaths first second n) k ≡ Some (death_among first second k)
unfolding two_deaths
two_deaths-at first second n k small =
    let inside : k < length (map (death_among first second) (range_with_len 0 n)) = rw (length-map-range_with_len (death_among first second) 0 n) small in
    slice_get-get_or (map (death_among first second) (range_with_len 0 n)) k None inside
    ∙ ap (λ d. Some d) (get_or-map-range_with_len (death_among first second) 0 n k k None small (omega arith))

-- beside neither of the two cubs is one of them
apart : (a d n : ℕ) → a < 14 → d < 11 → (n ≡ a) ⊎ (n ≡ (a + 2 + d) % 14) → ((n + 1) % 14 ≢ a) × ((n + 1) % 14 ≢ (a + 2 + d) % 14)
apart a d n small far (inl e) = ((λ f. omega arith), (λ f. omega arith))
apart a d n small far (inr e) = ((λ f. omega arith), (λ f. omega arith))

death-found : (number : ℕ) (g : Lcg) (n : ℕ) → n < 14
    → death_in (scenario_by number g) n ≡ death_among (first_death (after 699 g)) (second_death (after 699 g)) n
unfolding made_plan deaths_by
death-found number g n small =
    rw (lt-ltb n 14 small, two_deaths-at (first_death (after 699 g)) (second_death (after 699 g)) 14 n small) refl

deaths-apart : (number : ℕ) (g : Lcg) (n : ℕ) → n < 14
    → (death_in (scenario_by number g) n ≡ None) ⊎ (death_in (scenario_by number g) ((n + 1) % 14) ≡ None)
deaths-apart number g n small =
    elim (none_or one other n) [
      | inl e ↦ inl (death-found number g n small ∙ e)
      | inr is ↦
          (let far = apart (draw h 0 14) (draw h 2 11) n (draw-below h 0 14 (lit≤ tt)) (draw-below h 2 11 (lit≤ tt)) is in
          let next : (n + 1) % 14 < 14 = omega arith in
          inr (death-found number g ((n + 1) % 14) next ∙ none_if one other ((n + 1) % 14) far.0 far.1))
    ]
  where
    h : Lcg
    h = after 699 g

    one : ℕ × ℕ
    one = first_death (after 699 g)

    other : ℕ × ℕ
    other = second_death (after 699 g)

-- ---- the read faults

length-faults_by : (g : Lcg) (n : ℕ) → length (faults_by g n) ≡ n
unfolding faults_by
length-faults_by g n = length-map-range_with_len (λ (i : ℕ). fault_by (after (3 * i) g)) 0 n

fault-sound : (g : Lcg) → IsReadFault 56 6000 (fault_by g)
unfolding fault_by
fault-sound g =
    let from = draw-below g 1 5000 (lit≤ tt) in
    let more = draw-below g 2 200 (lit≤ tt) in
    record { of_disk = draw-below g 0 56 (lit≤ tt); some = omega arith; early = omega arith }

faults-sound : (g : Lcg) (n : ℕ) → All (IsReadFault 56 6000) (faults_by g n)
unfolding faults_by
faults-sound g n = all_by (IsReadFault 56 6000) (λ (i : ℕ). fault_by (after (3 * i) g)) n (λ k _. fault-sound (after (3 * k) g))

-- ---- the whole

sound-by : (number : ℕ) (g : Lcg) → IsSound (scenario_by number g)
unfolding made_plan deaths_by most_blocks time_of
sound-by number g =
    let named = length-lines_by (after 15 g) 8 in
    let h = after 699 g in
    let early = draw-below h 1 1000 (lit≤ tt) in
    let late = draw-below h 3 1000 (lit≤ tt) in
    let cubs = length-two_deaths (first_death h) (second_death h) 14 in
    record {
      low = lit≤ tt;
      high = lit≤ tt;
      offsets = length-offsets_by g 15;
      skewed = offsets-skewed g 15;
      by_cub = cubs;
      cuts = refl;
      backs = refl;
      delay = tt;
      product = lit≤ tt;
      some_file = omega arith;
      few_files = omega arith;
      files = lines-files (after 15 g);
      events = subst (λ (n : ℕ). AreEvents 6000 n (events_by (after 39 g) 300)) (sym named) (events-sound (after 39 g));
      blocks = subst (λ (n : ℕ). n * 61 ≤ 400000) (sym (good-events (after 39 g) 300).count) (lit≤ tt);
      few_deaths = omega (arith, count_by-le-length is_some (two_deaths (first_death h) (second_death h) 14));
      deaths = deaths-early (first_death h) (second_death h) 6000 14 (omega arith) (omega arith);
      apart = deaths-apart number g;
      few_faults = omega (arith, length-faults_by (after 703 g) 10);
      faults = faults-sound (after 703 g) 10;
    }

-- what says what is made of a number breaks no rule
pub made-sound : (s : Scenario) (number : ℕ) → said_by s ≡ made_scenario number → IsScenario s
unfolding made_scenario
made-sound s number e = scenario-sound s (subst (λ (q : Said). IsSound q) (sym e) (sound-by number (generator_of number)))
