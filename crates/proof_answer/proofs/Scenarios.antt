-- A scenario is what it says, since there is one proof that a plan is sound.
use Rattle.std.proofs.Common.{◌≡◌, refl, ap, subst}
use Rattle.slot_plan.specs.declared.params.Params.{Params}
use Rattle.slot_plan.specs.declared.plan.Plan.{Plan}
use Rattle.slot_plan.specs.Conditions.{IsPlan}
use Rattle.node_kit.specs.declared.course.Course.{Course}
use Rattle.scenario_read.specs.declared.scenario.Scenario.{Scenario}
use Rattle.scenario_read.specs.Meaning.{Said}
use Rattle.proof_answer.specs.KeptAnswers.{ScenariosAreWhatTheySay}
use denote.Struct.Props.{props}

-- two proofs that numbers make a plan are the same
sound_once : (p : Params) → IsProp (IsPlan p)
sound_once p = hlevel props

-- plans of the same numbers are the same
abbrev plan_of : (p : Params) → IsPlan p → Plan
plan_of p sound = record { params = p; sound = sound }

same_plan : (p q : Params) (a : IsPlan p) (b : IsPlan q) → p ≡ q → plan_of p a ≡ plan_of q b
same_plan p q a b same =
    subst (λ (r : Params). (c : IsPlan r) → plan_of p a ≡ plan_of r c) same (λ c. ap (plan_of p) (sound_once p a c)) b

pub scenarios_are_what_they_say : ScenariosAreWhatTheySay
scenarios_are_what_they_say s t same =
    let plan : s.course.plan ≡ t.course.plan =
    same_plan s.course.plan.params t.course.plan.params s.course.plan.sound t.course.plan.sound (ap (λ (x : Said). x.plan) same) in
    let course : ◌≡◌ {A = Course}
    (record { plan = s.course.plan; beats = s.course.beats; offsets = s.course.offsets; deaths = s.course.deaths; cuts = s.course.cuts; backs = s.course.backs; faults = s.course.faults; delay = s.course.delay })
    (record { plan = t.course.plan; beats = t.course.beats; offsets = t.course.offsets; deaths = t.course.deaths; cuts = t.course.cuts; backs = t.course.backs; faults = t.course.faults; delay = t.course.delay }) =
    rw (plan, ap (λ (x : Said). x.beats) same, ap (λ (x : Said). x.offsets) same, ap (λ (x : Said). x.deaths) same, ap (λ (x : Said). x.cuts) same, ap (λ (x : Said). x.backs) same, ap (λ (x : Said). x.faults) same, ap (λ (x : Said). x.delay) same) refl in
    let whole : ◌≡◌ {A = Scenario} (record { course = s.course; files = s.files; events = s.events }) (record { course = t.course; files = t.files; events = t.events }) =
    rw (course, ap (λ (x : Said). x.files) same, ap (λ (x : Said). x.events) same) refl in
    whole
