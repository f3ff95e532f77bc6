-- A scenario that was read breaks no rule.
use Rattle.std.proofs.Common.{◌≡◌, ℕ, ◌+◌, ◌%◌, ◌<◌, nat_lt, Bool, true, false, cond, List, length, Option, Some, None, codes, Result, Ok, Err, refl, subst, arith, ⊎_elim, inl, inr}
use Rattle.std.specs.Prelude.{IfOk, slice_get}
use Rattle.std.proofs.lemmas.Bool.Decides.{nat_tests}
use Rattle.std.proofs.lemmas.Option.{slice_get-get_or}
use Rattle.serde_json.specs.Data.{Data}
use Rattle.serde_json.specs.Find.{get}
use Rattle.slot_plan.specs.Times.{disk_count}
use Rattle.slot_plan.specs.declared.params.Params.{Params}
use Rattle.node_kit.specs.declared.course.Course.{Course}
use Rattle.node_kit.specs.Courses.{CutsDeath, ReturnsLater}
use Rattle.node_kit.specs.Life.{of_cub, death_of, lifetime_of}
use Rattle.scenario_read.specs.declared.stop.ReadStop.{ReadStop}
use Rattle.scenario_read.specs.declared.scenario.Scenario.{Scenario}
use Rattle.scenario_read.specs.Fault.{◌>>=◌, GivesAs, broken, keeps, found}
use Rattle.scenario_read.specs.Plan.{plan_of}
use Rattle.scenario_read.specs.Timing.{beats_of, links_of, offsets_of}
use Rattle.scenario_read.specs.Files.{files_of}
use Rattle.scenario_read.specs.Events.{starts_in, events_of, few_blocks}
use Rattle.scenario_read.specs.Deaths.{deaths_of}
use Rattle.scenario_read.specs.ReadFaults.{read_faults_of}
use Rattle.scenario_read.specs.Meaning.{Said, said_by, has_keys, scenario_of}
use Rattle.scenario_read.specs.Sound.{IsScenario}
use Rattle.scenario_read.proofs.Inversions.{bind-ok, means, ok-same}
use Rattle.scenario_read.proofs.FileFacts.{beats_of-sound, links_of-sound, offsets_of-sound, files_of-sound, read_faults_of-sound}
use Rattle.scenario_read.proofs.EventFacts.{events_of-sound, few_blocks-sound}
use Rattle.scenario_read.proofs.DeathFacts.{deaths_of-sound}

-- what each part of a scenario's object means
pub record AreParts (d : Data) (said : Said) : Type 0 where
  pub beats : beats_of said.plan.cubs d ≡ Ok said.beats
  pub delay : links_of said.plan.delay d ≡ Ok said.delay
  pub offsets : offsets_of said.plan d ≡ Ok said.offsets
  pub files : files_of (disk_count said.plan) d ≡ Ok said.files
  pub events : events_of said.beats (length said.files) d ≡ Ok said.events
  pub blocks : few_blocks said.plan said.beats (starts_in said.events) ≡ Ok tt
  pub deaths : deaths_of said.plan.cubs said.beats d ≡ Ok (record { deaths = said.deaths; cuts = said.cuts; backs = said.backs })
  pub faults : read_faults_of (disk_count said.plan) said.beats d ≡ Ok said.faults

same-parts : (d : Data) (a b : Said) → means a ≡ means b → AreParts d a → AreParts d b
same-parts d a b e parts = subst (AreParts d) (ok-same a b e) parts

pub scenario_of-parts : (d : Data) (said : Said) → scenario_of d ≡ Ok said → AreParts d said
unfolding scenario_of
scenario_of-parts d said e =
    let keys = bind-ok (keeps (has_keys d) (broken 2 0)) _ said e in
    let plan = bind-ok (found (get (codes "plan") d) (broken 3 0) >>= plan_of) _ said keys.2 in
    let p : Params = plan.0 in
    let beats = bind-ok (beats_of p.cubs d) _ said plan.2 in
    let delay = bind-ok (links_of p.delay d) _ said beats.2 in
    let offsets = bind-ok (offsets_of p d) _ said delay.2 in
    let files = bind-ok (files_of (disk_count p) d) _ said offsets.2 in
    let events = bind-ok (events_of beats.0 (length files.0) d) _ said files.2 in
    let blocks = bind-ok (few_blocks p beats.0 (starts_in events.0)) _ said events.2 in
    let deaths = bind-ok (deaths_of p.cubs beats.0 d) _ said blocks.2 in
    let faults = bind-ok (read_faults_of (disk_count p) beats.0 d) _ said deaths.2 in
    let whole : Said = record { plan = p; beats = beats.0; offsets = offsets.0; deaths = deaths.0.deaths; cuts = deaths.0.cuts; backs = deaths.0.backs; faults = faults.0; delay = delay.0; files = files.0; events = events.0 } in
    same-parts d whole said faults.2
    (record { beats = beats.1; delay = delay.1; offsets = offsets.1; files = files.1; events = events.1; blocks = blocks.1; deaths = deaths.1; faults = faults.1 })

never : (b : Bool) → cond {A = Option ℕ} b None None ≡ None
never true = refl
never false = refl

-- the death of a cub, where the list by cub has none for it
no_death_of : (c : Course) (n : ℕ) → slice_get c.deaths n ≡ Some None → (lifetime_of c n).death ≡ None
no_death_of c n e = rw e (never (nat_lt n c.plan.params.cubs))

-- where a row has no element for a node that is no cub, and else its own
of_row : (c : Course) (row : List (Option ℕ)) (n : ℕ) (low : nat_lt n c.plan.params.cubs ≡ true) (x : Option ℕ) → slice_get row n ≡ Some x → of_cub c row n ≡ x
of_row c row n low x e = rw (low, e) refl

-- a row that has an element for each cub has one at its place
row_get : (row : List (Option ℕ)) (n : ℕ) → n < length row → (x : Option ℕ) × (slice_get row n ≡ Some x)
row_get row n low = (_, slice_get-get_or row n None low)

-- what holds of a cub's death and another part of it in the rows holds of each node
of_both : (P : Option ℕ → Option ℕ → Type 0) → P None None → (c : Course) (row : List (Option ℕ))
    → length c.deaths ≡ c.plan.params.cubs → length row ≡ c.plan.params.cubs
    → ((n : ℕ) → n < c.plan.params.cubs → (death other : Option ℕ) → slice_get c.deaths n ≡ Some death → slice_get row n ≡ Some other → P death other)
    → (n : ℕ) → P (death_of c n) (of_cub c row n)
of_both P none c row one two each n = by (nat_lt n c.plan.params.cubs) refl
  where
    by : (b : Bool) → nat_lt n c.plan.params.cubs ≡ b → P (death_of c n) (of_cub c row n)
    by false e = rw e none
    by true e =
        let low : n < c.plan.params.cubs = grind (arith, nat_tests, e) in
        let d = row_get c.deaths n (omega (arith, low, one)) in
        let k = row_get row n (omega (arith, low, two)) in
        let death = of_row c c.deaths n e d.0 d.1 in
        let other = of_row c row n e k.0 k.1 in
        rw (death, other) (each n low d.0 k.0 d.1 k.1)

pub parts-sound : (d : Data) (s : Scenario) → AreParts d (said_by s) → IsScenario s
parts-sound d s parts =
    let p = s.course.plan.params in
    let ranges = s.course.plan.sound.ranges in
    let beats = beats_of-sound p.cubs d s.course.beats parts.beats in
    let offsets = offsets_of-sound p d s.course.offsets parts.offsets in
    let files = files_of-sound (disk_count p) d s.files parts.files in
    let deaths = deaths_of-sound p.cubs s.course.beats d (record { deaths = s.course.deaths; cuts = s.course.cuts; backs = s.course.backs }) (omega (arith, ranges.cubs.0)) parts.deaths in
    let faults = read_faults_of-sound (disk_count p) s.course.beats d s.course.faults parts.faults in
    record {
      course = record {
        beats = beats.few;
        offsets = offsets.count;
        skewed = offsets.skewed;
        deaths = deaths.count;
        cuts = deaths.cut_count;
        backs = deaths.back_count;
        cut_deaths = of_both CutsDeath tt s.course s.course.cuts deaths.count deaths.cut_count deaths.cut_deaths;
        returns_later = of_both ReturnsLater tt s.course s.course.backs deaths.count deaths.back_count deaths.returns_later;
        delay = links_of-sound p.delay d s.course.delay parts.delay;
      };
      beats = beats.some;
      product = beats.product;
      some_file = files.low;
      few_files = files.high;
      files = files.kept;
      events = events_of-sound s.course.beats (length s.files) d s.events parts.events;
      blocks = few_blocks-sound p s.course.beats (starts_in s.events) tt parts.blocks;
      few_deaths = deaths.few;
      deaths = deaths.early;
      few_after = deaths.few_after;
      apart = λ n lt. ⊎_elim
          (λ (x : slice_get s.course.deaths n ≡ Some None). inl (no_death_of s.course n x))
          (λ (y : slice_get s.course.deaths ((n + 1) % p.cubs) ≡ Some None). inr (no_death_of s.course ((n + 1) % p.cubs) y))
          (deaths.apart n lt);
      backs = deaths.early_back;
      few_faults = faults.high;
      faults = faults.kept;
    }

-- what was read breaks no rule
pub read-sound : (r : Result Scenario ReadStop) (d : Data) → GivesAs said_by r (scenario_of d) → IfOk r IsScenario
read-sound (Ok s) d gives = parts-sound d s (scenario_of-parts d (said_by s) gives)
read-sound (Err stop) d gives = tt
