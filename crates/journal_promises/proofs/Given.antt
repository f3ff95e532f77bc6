-- What a run of a ring was given is writable, and so is all that is kept of it; and its journals tell its returns.
use Rattle.std.proofs.Common.{◌≡◌, ℕ, zero, suc, ◌<◌, ◌≤◌, List, [], ◌∷◌, length, map, option_map, Option, Some, None, refl, sym, ap, ◌∙◌, subst, arith}
use Rattle.std.specs.Prelude.{slice_get, IfSome}
use Rattle.std.specs.List.{All, AllByRecursion}
use Rattle.std.proofs.lemmas.List.{length-map}
use Rattle.std.proofs.lemmas.List.Elements.{recursion_from_All}
use Rattle.std.proofs.lemmas.Option.{same_Some, slice_get-map, slice_get_within}
use Rattle.json_look.proofs.Inversions.{map-some}
use Rattle.tiger_base.specs.Limits.{most_file, most_reading}
use Rattle.tiger_base.specs.declared.message.Msg.{Msg}
use Rattle.tiger_base.specs.declared.number.DiskNo.{DiskNo}
use Rattle.tiger_base.specs.Notes.{noted}
use Rattle.slot_plan.specs.declared.params.Params.{Params}
use Rattle.slot_plan.specs.Times.{disk_count}
use Rattle.stripe_layout.specs.declared.catalogue.Catalogue.{Catalogue}
use Rattle.stripe_layout.specs.declared.catalogue.FileInfo.{FileInfo}
use Rattle.node_kit.specs.declared.course.Course.{Course}
use Rattle.node_kit.specs.declared.course.Kept.{Kept}
use Rattle.node_kit.specs.declared.course.Order.{Order}
use Rattle.node_kit.specs.declared.course.ReadFault.{ReadFault}
use Rattle.node_kit.specs.declared.journal.Entry.{Entry}
use Rattle.node_kit.specs.Courses.{IsCourse}
use Rattle.node_kit.specs.Life.{back_of, lifetime_of}
use Rattle.run_facts.specs.Histories.{History, beat, reading, last_of}
use Rattle.run_facts.proofs.Rows.{all-both, all-weaker}
use Rattle.run_model.specs.Runs.{TellsReturn}
use Rattle.scenario_read.specs.declared.scenario.FileLine.{FileLine}
use Rattle.scenario_read.specs.declared.scenario.Scenario.{Scenario}
use Rattle.scenario_read.specs.Orders.{IsCatalogueOf, orders_from}
use Rattle.scenario_read.specs.Sound.{IsFile, IsReadFault, IsScenario}
use Rattle.ring_nodes.specs.declared.nodes.AnyNode.{AnyNode}
use Rattle.ring_nodes.specs.AllNodes.{any_step, image_at, images_of}
use Rattle.ring_nodes.proofs.Numbered.{length-numbered, opening_count}
use Rattle.ring_facts.specs.Rings.{IsRingRun}
use Rattle.ring_facts.specs.Steps.{ring_of}
use Rattle.audit_read.specs.Writable.{AreOrders, IsDeath, ReturnsIn, IsEntry, IsFault, IsJournal, IsWritable, node_count, starts_in}
use Rattle.audit_read.specs.Writable as writable
use Rattle.journal_promises.specs.Numbers.{HasNumbers}
use Rattle.journal_promises.specs.Runs.{KeptRunsAreWritable, KeptRunsTellReturns}
use Rattle.journal_promises.proofs.Nodes.{AreOrdersWithin, IsACub, IsSteady, TickedLast}
use Rattle.journal_promises.proofs.Written.{IsEntryWritable, all_at, journal_writable, steady}
use Rattle.journal_promises.proofs.Orders.{HasFile, digests_count, events_writable, orders_within}
use Rattle.journal_promises.proofs.Openings.{opens_cubs, opens_fresh, opens_steady, reading_low}
use Rattle.journal_promises.proofs.Fitting.{IsFewLeft, all_numbers}
use Rattle.journal_promises.proofs.Returning.{tells}

-- ---- lists

all_by_place : {X : Type 0} (P : X → Type 0) (xs : List X) → ((k : ℕ) (x : X) → slice_get xs k ≡ Some x → P x) → AllByRecursion P xs
all_by_place P [] each = tt
all_by_place P (x ∷ xs) each = (each 0 x refl, all_by_place P xs (λ k y at. each (suc k) y at))

some_at : {X : Type 0} (xs : List X) (k : ℕ) → k < length xs → (x : X) × (slice_get xs k ≡ Some x)
some_at [] k low = absurd (omega (arith, low))
some_at (x ∷ xs) zero low = (x, refl)
some_at (x ∷ xs) (suc k) low = some_at xs k (omega (arith, low))

all_here : {X : Type 0} (P : X → Type 0) (xs : List X) (k : ℕ) (x : X) → All P xs → slice_get xs k ≡ Some x → P x
all_here P xs k x all at = all_at P xs k x (recursion_from_All P xs all) at

-- ---- what is given

-- a death and a return that are given are of a beat of the run
abbrev IsEarly : ℕ → Option ℕ → Type 0
IsEarly beats o = IfSome o (λ beat. beat < beats)

death_given : (beats : ℕ) (o : Option ℕ) → IsEarly beats o → IsDeath beats o
death_given beats None early = tt
death_given beats (Some beat) early = early

return_given : (beats : ℕ) (o : Option ℕ) → IsEarly beats o → ReturnsIn beats o
return_given beats None early = tt
return_given beats (Some beat) early = early

fault_given : (p : Params) (beats : ℕ) (f : ReadFault) → IsReadFault (disk_count p) beats f → IsFault p beats f
fault_given p beats f is = (is.of_disk, is.some, is.early)

same_head : {X : Type 0} (x y : X) (xs ys : List X) → x ∷ xs ≡ y ∷ ys → (x ≡ y) × (xs ≡ ys)
same_head x y xs ys same = (cc, cc)

files_given : (p : Params) (files : List FileInfo) (lines : List FileLine) → map (λ info. info.disk) files ≡ map (λ line. line.disk) lines
    → AllByRecursion (λ f. 1 ≤ f.len) files → AllByRecursion (IsFile (disk_count p)) lines → AllByRecursion (writable.IsFile p) files
files_given p [] lines same filled are = tt
files_given p (f ∷ fs) [] same filled are = absurd (cc)
files_given p (f ∷ fs) (l ∷ ls) same filled are =
    let both = same_head f.disk l.disk (map (λ (info : FileInfo). info.disk) fs) (map (λ (line : FileLine). line.disk) ls) same in
    ((filled.0, subst (λ (d : DiskNo). d.0 < disk_count p) (sym both.0) are.0.on_disk), files_given p fs ls both.1 filled.1 are.1)

-- each file of the scenario stands in the catalogue, and is not too long
file_given : (s : Scenario) (library : List (List ℕ)) (c : Catalogue) → All (λ bytes. length bytes ≤ most_file) library → IsCatalogueOf s library c
    → (file : ℕ) → file < length s.files → HasFile c file
file_given s library c short is file low =
    let disks = is.first_disks in
    let same : length c.files ≡ length s.files =
    sym (length-map c.files (λ (info : FileInfo). info.disk)) ∙ ap length disks ∙ length-map s.files (λ (line : FileLine). line.disk) in
    let info = some_at c.files file (omega (arith, same, low)) in
    let there : option_map (λ (bytes : List ℕ). length bytes) (slice_get library file) ≡ Some info.0.len =
    sym (slice_get-map (λ (bytes : List ℕ). length bytes) library file)
    ∙ ap (λ (ns : List ℕ). slice_get ns file) is.lengths
    ∙ slice_get-map (λ (x : FileInfo). x.len) c.files file
    ∙ ap (λ (o : Option FileInfo). option_map (λ (x : FileInfo). x.len) o) info.1 in
    let m = map-some (λ (bytes : List ℕ). length bytes) (slice_get library file) info.0.len there in
    let most : length m.0 ≤ most_file = all_here (λ (bytes : List ℕ). length bytes ≤ most_file) library file m.0 short m.1 in
    let len = m.2 in
    record { info = info.0; there = info.1; short = omega (arith, most, len) }

module _ (G : Type 0) (s : Scenario) (library : List (List ℕ)) (k : Kept) (scenario : IsScenario s)
    (short : All (λ bytes. length bytes ≤ most_file) library) (run : IsRingRun G s library k) where
  abbrev p : Params
  p = k.course.plan.params

  abbrev h : History Msg (AnyNode G)
  h = run.steps.kept.lived.history

  abbrev given : List (AnyNode G)
  given = ring_of G k.course k.catalogue library k.orders

  -- what holds of the scenario's course holds of the one that is kept
  of_course : (P : Course → Type 0) → P s.course → P k.course
  of_course P holds = subst P (sym run.course) holds

  pub course : IsCourse k.course
  course = of_course IsCourse scenario.course

  block : k.catalogue.block ≡ p.block
  block = of_course (λ c. k.catalogue.block ≡ c.plan.params.block) run.catalogue.block

  orders : AreOrders p k.course.beats k.catalogue.files [] k.orders
  orders =
      subst (λ (os : List Order). AreOrders p k.course.beats k.catalogue.files [] os) (sym run.orders)
      (of_course (λ c. AreOrders c.plan.params c.beats k.catalogue.files [] (orders_from k.catalogue 0 s.events))
      (events_writable s.course.plan.params s.course.beats k.catalogue run.catalogue.block (length s.files)
      (λ file low. file_given s library k.catalogue short run.catalogue file low) s.events scenario.events))

  within : AreOrdersWithin k.orders
  within = orders_within p k.course.beats k.catalogue.files [] k.orders orders

  images : length (images_of p k.catalogue library) ≡ disk_count p
  images = length-numbered (image_at p k.catalogue library) (disk_count p)

  size : length given ≡ node_count p
  size = opening_count p k.course.faults (images_of p k.catalogue library) k.orders given images refl

  -- ---- journals

  opens : (n : ℕ) → n < length given → IsSteady p n (h.first n)
  opens n low =
      let g = some_at given n low in
      let is = (run.steps.kept.lived.theirs.opens n g.0 g.1).0 in
      subst (λ (s : AnyNode G). IsSteady p n s) (sym is)
      (opens_steady G p k.course.faults (images_of p k.catalogue library) k.orders within k.course.plan.sound images n g.0 g.1)

  short_readings : (n i : ℕ) → n < length given → i < h.count n → reading h n i ≤ most_reading
  short_readings n i inside low =
      reading_low k.course (beat h n i) (reading h n i) course (run.steps.kept.lived.complete.early n i inside low) (run.steps.kept.lived.run.reads n i inside low).1

  -- the journal of a node is what its events wrote
  record WroteAll (n : ℕ) (journal : List Entry) : Type 0 where
    inside : n < length given
    wrote : (last_of noted any_step h n).journal ≡ journal

  wrote_all : (n : ℕ) (journal : List Entry) → slice_get k.journals n ≡ Some journal → WroteAll n journal
  wrote_all n journal at =
      let there = slice_get_within k.journals n journal at in
      let all = run.steps.kept.each_has_journal in
      let inside : n < length given = omega (arith, there, all) in
      record {
        inside = inside;
        wrote = same_Some (last_of noted any_step h n).journal journal (sym (run.steps.kept.lived.theirs.writes n inside) ∙ at);
      }

  journal_given : (n : ℕ) (journal : List Entry) → slice_get k.journals n ≡ Some journal → IsJournal p k.course.beats journal
  journal_given n journal at =
      let all = wrote_all n journal at in
      all-both (λ (e : Entry). e.stamp.beat < k.course.beats) (IsEntryWritable p) journal (run.timed n journal at).early
      (subst (λ (j : List Entry). AllByRecursion (IsEntryWritable p) j) all.wrote
      (journal_writable p h (length given) run.steps.kept.lived.run opens short_readings n all.inside))

  -- ---- returns

  lives : (n : ℕ) → n < length given → h.life n ≡ lifetime_of k.course n
  lives n low = let g = some_at given n low in (run.steps.kept.lived.theirs.opens n g.0 g.1).1

  fresh : (n : ℕ) → n < length given → TickedLast None (h.first n)
  fresh n low =
      let g = some_at given n low in
      subst (TickedLast None) (sym (run.steps.kept.lived.theirs.opens n g.0 g.1).0)
      (opens_fresh G p k.course.faults (images_of p k.catalogue library) k.orders within n g.0 g.1)

  cubs : (n : ℕ) → n < length given → n < p.cubs → IsACub (h.first n)
  cubs n low cub =
      let g = some_at given n low in
      subst (λ (s : AnyNode G). IsACub s) (sym (run.steps.kept.lived.theirs.opens n g.0 g.1).0)
      (opens_cubs G p k.course.faults (images_of p k.catalogue library) k.orders within k.course.plan.sound images n g.0 g.1 cub)

  pub returns_told : (n : ℕ) (journal : List Entry) → slice_get k.journals n ≡ Some journal
      → TellsReturn k.course.beats (back_of k.course n) journal
  returns_told n journal at =
      let all = wrote_all n journal at in
      subst (TellsReturn k.course.beats (back_of k.course n)) all.wrote
      (tells k.course h (length given) run.steps.kept.lived.run run.steps.kept.lived.complete lives
      (steady p h (length given) run.steps.kept.lived.run opens short_readings) short_readings cubs fresh n all.inside)

  -- ---- all of it

  deaths : AllByRecursion (IsDeath k.course.beats) k.course.deaths
  deaths =
      of_course (λ c. AllByRecursion (IsDeath c.beats) c.deaths)
      (all-weaker (IsEarly s.course.beats) (IsDeath s.course.beats) s.course.deaths (λ o early. death_given s.course.beats o early)
      (recursion_from_All (IsEarly s.course.beats) s.course.deaths scenario.deaths))

  returns : AllByRecursion (ReturnsIn k.course.beats) k.course.backs
  returns =
      of_course (λ c. AllByRecursion (ReturnsIn c.beats) c.backs)
      (all-weaker (IsEarly s.course.beats) (ReturnsIn s.course.beats) s.course.backs (λ o early. return_given s.course.beats o early)
      (recursion_from_All (IsEarly s.course.beats) s.course.backs scenario.backs))

  faults : AllByRecursion (IsFault p k.course.beats) k.course.faults
  faults =
      of_course (λ c. AllByRecursion (IsFault c.plan.params c.beats) c.faults)
      (all-weaker (IsReadFault (disk_count s.course.plan.params) s.course.beats) (IsFault s.course.plan.params s.course.beats) s.course.faults
      (λ f is. fault_given s.course.plan.params s.course.beats f is)
      (recursion_from_All (IsReadFault (disk_count s.course.plan.params) s.course.beats) s.course.faults scenario.faults))

  files : AllByRecursion (writable.IsFile p) k.catalogue.files
  files =
      of_course (λ c. AllByRecursion (writable.IsFile c.plan.params) k.catalogue.files)
      (files_given s.course.plan.params k.catalogue.files s.files run.catalogue.first_disks
      (recursion_from_All (λ (f : FileInfo). 1 ≤ f.len) k.catalogue.files k.catalogue.sound.lengths)
      (recursion_from_All (IsFile (disk_count s.course.plan.params)) s.files scenario.files))

  few_left : AllByRecursion IsFewLeft k.course.cuts
  few_left = of_course (λ c. AllByRecursion IsFewLeft c.cuts) (recursion_from_All IsFewLeft s.course.cuts scenario.few_after)

  nodes : length k.journals ≡ node_count p
  nodes = run.steps.kept.each_has_journal ∙ size

  pub kept_writable : HasNumbers k → IsWritable k
  kept_writable numbers = record {
    course = course;
    lasting = of_course (λ c. 1 ≤ c.beats) scenario.beats;
    deaths = deaths;
    returns = returns;
    faults = faults;
    block = block;
    disks = of_course (λ c. k.catalogue.disks ≡ disk_count c.plan.params) run.catalogue.disks;
    files = files;
    orders = orders;
    nodes = nodes;
    journals = all_by_place (IsJournal p k.course.beats) k.journals journal_given;
    digests = ap length run.digests ∙ digests_count library k.course k.catalogue k.orders k.journals;
    numbers = all_numbers k course nodes deaths few_left returns numbers;
  }

pub kept_runs_are_writable : (G : Type 0) → KeptRunsAreWritable G
kept_runs_are_writable G s library k scenario short run numbers = kept_writable G s library k scenario short run numbers

pub kept_runs_tell_returns : (G : Type 0) → KeptRunsTellReturns G
kept_runs_tell_returns G s library k scenario short run n journal at = returns_told G s library k scenario short run n journal at
