-- What is made of a number, from what its parts are.
use Rattle.std.proofs.Common.{◌≡◌, ℕ, ◌≤◌, List, length, Option, ap, sym, ◌∙◌, refl, subst}
use Rattle.std.specs.List.{All}
use Rattle.tiger_base.specs.Limits.{most_file}
use Rattle.rand_pcg.specs.Lcg.{Lcg}
use Rattle.link_timing.specs.declared.Delay.TheVariants.{Drawn}
use Rattle.slot_plan.specs.declared.params.Params.{Params}
use Rattle.node_kit.specs.declared.course.ReadFault.{ReadFault}
use Rattle.scenario_read.specs.declared.scenario.FileLine.{FileLine}
use Rattle.scenario_read.specs.declared.scenario.ScEvent.{ScEvent}
use Rattle.scenario_read.specs.Meaning.{Said, of_none}
use Rattle.scenario_make.specs.Draws.{after, generator_of}
use Rattle.scenario_make.specs.Events.{events_by}
use Rattle.scenario_make.specs.Files.{lines_by, contents_by}
use Rattle.scenario_make.specs.Made.{made_plan, made_scenario, made_library}
use Rattle.scenario_make.specs.Troubles.{offsets_by, deaths_by, faults_by}
use Rattle.scenario_make.proofs.Drawing.{after-after}
use Rattle.scenario_make.proofs.Sounds.{length-lines_by, length-contents_by, contents-filled, contents-short}

-- the generators behind the parts
pub record Follow (g h i j k : Lcg) : Type 0 where
  pub files : h ≡ after 15 g
  pub events : i ≡ after 24 h
  pub deaths : j ≡ after 660 i
  pub faults : k ≡ after 4 j

pub made-said : (number : ℕ) (g h i j k : Lcg) (plan : Params) (offsets : List ℕ) (deaths cuts backs : List (Option ℕ)) (faults : List ReadFault) (files : List FileLine)
    (events : List ScEvent) → g ≡ generator_of number → Follow g h i j k → plan ≡ made_plan → offsets ≡ offsets_by g 15 → files ≡ lines_by h 8
    → events ≡ events_by i 300 → deaths ≡ deaths_by j → cuts ≡ of_none 14 → backs ≡ of_none 14 → faults ≡ faults_by k 10
    → ◌≡◌ {A = Said} (record { plan = plan; beats = 6000; offsets = offsets; deaths = deaths; cuts = cuts; backs = backs; faults = faults; delay = Drawn number; files = files; events = events })
    (made_scenario number)
unfolding made_scenario
made-said number g h i j k plan offsets deaths cuts backs faults files events start f p o l e d a b r =
    let first = f.files ∙ ap (after 15) start in
    let second = f.events ∙ ap (after 24) first ∙ after-after (generator_of number) 15 24 in
    let third = f.deaths ∙ ap (after 660) second ∙ after-after (generator_of number) 39 660 in
    let fourth = f.faults ∙ ap (after 4) third ∙ after-after (generator_of number) 699 4 in
    let o' = o ∙ ap (λ (x : Lcg). offsets_by x 15) start in
    let l' = l ∙ ap (λ (x : Lcg). lines_by x 8) first in
    let e' = e ∙ ap (λ (x : Lcg). events_by x 300) second in
    let d' = d ∙ ap deaths_by third in
    let r' = r ∙ ap (λ (x : Lcg). faults_by x 10) fourth in
    rw (p, o', l', e', d', a, b, r') refl

pub made-contents : (number : ℕ) (g h : Lcg) (library : List (List ℕ)) → g ≡ generator_of number → h ≡ after 15 g → library ≡ contents_by h 8
    → library ≡ made_library number
unfolding made_library
made-contents number g h library start first e = e ∙ ap (λ (x : Lcg). contents_by x 8) (first ∙ ap (after 15) start)

pub as_many : (h : Lcg) (library : List (List ℕ)) (files : List FileLine) → library ≡ contents_by h 8 → files ≡ lines_by h 8 → length library ≡ length files
as_many h library files e f = ap length e ∙ length-contents_by h 8 ∙ sym (ap length f ∙ length-lines_by h 8)

pub none_empty : (h : Lcg) (library : List (List ℕ)) → library ≡ contents_by h 8 → All (λ bytes. 1 ≤ length bytes) library
none_empty h library e = subst (λ (l : List (List ℕ)). All (λ bytes. 1 ≤ length bytes) l) (sym e) (contents-filled h 8)

pub all_short : (h : Lcg) (library : List (List ℕ)) → library ≡ contents_by h 8 → All (λ bytes. length bytes ≤ most_file) library
all_short h library e = subst (λ (l : List (List ℕ)). All (λ bytes. length bytes ≤ most_file) l) (sym e) (contents-short h 8)
