-- That a scenario that is refused by rule 4 has a plan with numbers in their ranges, of which the refusal names the first
-- false condition.
use Rattle.std.proofs.Common.{◌≡◌, ℕ, ◌*◌, nat_le, Bool, true, false, List, [], ◌∷◌, ◌++◌, length, Option, Some, None, option_and_then, codes, Result, Ok, Err, refl, subst, arith}
use Rattle.serde_json.specs.Data.{Data}
use Rattle.serde_json.specs.Find.{get}
use Rattle.tiger_base.specs.Limits.{most_beats}
use Rattle.json_look.specs.Json.{json_of, has_only, is_one_of, ranged_at, sized_array}
use Rattle.slot_plan.specs.declared.params.Params.{Params}
use Rattle.slot_plan.specs.declared.params.PlanFault.{PlanFault}
use Rattle.slot_plan.specs.Conditions.{plan_fault}
use Rattle.slot_plan.specs.Times.{disk_count}
use Rattle.scenario_read.specs.declared.stop.ScenarioFault.{ScenarioFault}
use Rattle.scenario_read.specs.Fault.{◌>>=◌, broken, exceeded, keeps, found}
use Rattle.scenario_read.specs.Items.{items_after, items_of, given_or}
use Rattle.scenario_read.specs.Plan.{plan_key, plan_keys, params_of, meets, is_object, plan_of}
use Rattle.scenario_read.specs.Timing.{beats_of, delay_of, links_of, offset_after, offsets_of}
use Rattle.scenario_read.specs.Files.{file_after, files_of}
use Rattle.scenario_read.specs.Events.{starts_in, event_after, events_of, most_blocks, few_blocks}
use Rattle.scenario_read.specs.Deaths.{death_after, deaths_given, deaths_of}
use Rattle.scenario_read.specs.ReadFaults.{read_fault_after, read_faults_of}
use Rattle.scenario_read.specs.Meaning.{Said, has_keys, scenario_of, meaning}
use Rattle.scenario_read.proofs.Inversions.{means}
use Rattle.scenario_check.specs.Numbers.{value_of, numbers_under, plan_numbers}

-- ---- rules that are not the fourth

-- if it is refused, it is by another rule than the fourth
abbrev Spares : {A : Type 0} → Result A ScenarioFault → Type 0
Spares (Ok x) = Unit {0}
Spares (Err e) = e.rule ≡ 4 → ⊥

then : {A B : Type 0} (r : Result A ScenarioFault) (f : A → Result B ScenarioFault) → Spares r → ((x : A) → Spares (f x)) → Spares (r >>= f)
then (Ok x) f first rest = rest x
then (Err e) f first rest = first

found-spares : {A : Type 0} (o : Option A) (rule item : ℕ) → (rule ≡ 4 → ⊥) → Spares (found o (broken rule item))
found-spares (Some x) rule item other = tt
found-spares None rule item other = other

keeps-spares : (b : Bool) (fault : ScenarioFault) → (fault.rule ≡ 4 → ⊥) → Spares (keeps b fault)
keeps-spares true fault other = tt
keeps-spares false fault other = other

items_after-spares : {X : Type 0} (rule : ℕ) (next : List X → Data → Option X) (front : List X) (ds : List Data) → (rule ≡ 4 → ⊥)
    → Spares (items_after rule next front ds)
unfolding items_after
items_after-spares rule next front [] other = tt
items_after-spares rule next front (d ∷ ds) other =
    then (found (next front d) (broken rule (length front))) _ (found-spares (next front d) rule (length front) other)
    (λ x. items_after-spares rule next (front ++ x ∷ []) ds other)

items_of-spares : {X : Type 0} (rule least most beyond : ℕ) (next : List X → Data → Option X) (d : Data) → (rule ≡ 4 → ⊥)
    → Spares (items_of rule least most beyond next d)
unfolding items_of
items_of-spares rule least most beyond next d other =
    then (found (sized_array least most d) (broken rule beyond)) _ (found-spares (sized_array least most d) rule beyond other)
    (λ ds. items_after-spares rule next [] ds other)

given-spares : {X : Type 0} (absent : X) (meaning : Data → Result X ScenarioFault) (o : Option Data) → ((d : Data) → Spares (meaning d))
    → Spares (given_or absent meaning o)
given-spares absent meaning None all = tt
given-spares absent meaning (Some d) all = all d

key-spares : (item : ℕ) (name : List ℕ) (low high : ℕ) (d : Data) → Spares (plan_key item name low high d)
unfolding plan_key
key-spares item name low high d = found-spares (ranged_at name low high d) 3 item (λ e. omega (arith, e))

params_of-spares : (d : Data) → Spares (params_of d)
unfolding params_of
params_of-spares d =
    then (plan_key 1 (codes "cubs") 3 64 d) _ (key-spares 1 (codes "cubs") 3 64 d) (λ cubs.
    then (plan_key 2 (codes "disks") 1 8 d) _ (key-spares 2 (codes "disks") 1 8 d) (λ disks.
    then (plan_key 3 (codes "slots") 1 4096 d) _ (key-spares 3 (codes "slots") 1 4096 d) (λ slots.
    then (plan_key 4 (codes "play") 10000 100000000 d) _ (key-spares 4 (codes "play") 10000 100000000 d) (λ play.
    then (plan_key 5 (codes "pieces") 1 8 d) _ (key-spares 5 (codes "pieces") 1 8 d) (λ pieces.
    then (plan_key 6 (codes "block") 1 1048576 d) _ (key-spares 6 (codes "block") 1 1048576 d) (λ block.
    then (plan_key 7 (codes "beat") 1 1000000 d) _ (key-spares 7 (codes "beat") 1 1000000 d) (λ beat.
    then (plan_key 8 (codes "delay") 1 16 d) _ (key-spares 8 (codes "delay") 1 16 d) (λ delay.
    then (plan_key 9 (codes "skew") 0 1000000 d) _ (key-spares 9 (codes "skew") 0 1000000 d) (λ skew.
    then (plan_key 10 (codes "window_a") 1 1000000000 d) _ (key-spares 10 (codes "window_a") 1 1000000000 d) (λ window_a.
    then (plan_key 11 (codes "window_b") 1 1000000000 d) _ (key-spares 11 (codes "window_b") 1 1000000000 d) (λ window_b.
    then (plan_key 12 (codes "read_lead") 1 1000000000 d) _ (key-spares 12 (codes "read_lead") 1 1000000000 d) (λ read_lead.
    then (plan_key 13 (codes "min_lead") 1 1000000000 d) _ (key-spares 13 (codes "min_lead") 1 1000000000 d) (λ min_lead.
    then (plan_key 14 (codes "max_lead") 1 10000000000 d) _ (key-spares 14 (codes "max_lead") 1 10000000000 d) (λ max_lead.
    then (plan_key 15 (codes "batch") 1 100000 d) _ (key-spares 15 (codes "batch") 1 100000 d) (λ batch.
    then (plan_key 16 (codes "heart") 1 100000 d) _ (key-spares 16 (codes "heart") 1 100000 d) (λ heart.
    then (plan_key 17 (codes "deadman") 1 1000000000 d) _ (key-spares 17 (codes "deadman") 1 1000000000 d) (λ deadman.
    then (plan_key 18 (codes "hold") 1 1000000000 d) _ (key-spares 18 (codes "hold") 1 1000000000 d) (λ hold.
    tt))))))))))))))))))

beats_of-spares : (cubs : ℕ) (d : Data) → Spares (beats_of cubs d)
unfolding beats_of
beats_of-spares cubs d =
    then (found (ranged_at (codes "beats") 1 most_beats d) (broken 5 0)) _ (found-spares (ranged_at (codes "beats") 1 most_beats d) 5 0 (λ e. omega (arith, e)))
    (λ beats. then (keeps (nat_le (beats * cubs) 2000000) (exceeded 5 (beats * cubs) 2000000)) _
    (keeps-spares (nat_le (beats * cubs) 2000000) (exceeded 5 (beats * cubs) 2000000) (λ e. omega (arith, e))) (λ t. tt))

links_of-spares : (most : ℕ) (d : Data) → Spares (links_of most d)
unfolding links_of
links_of-spares most d = found-spares (option_and_then (delay_of most) (get (codes "links") d)) 6 0 (λ e. omega (arith, e))

offsets_of-spares : (p : Params) (d : Data) → Spares (offsets_of p d)
unfolding offsets_of
offsets_of-spares p d = given-spares _ _ (get (codes "offsets") d) (λ v. items_of-spares 7 _ _ _ (offset_after p.skew) v (λ e. omega (arith, e)))

files_of-spares : (disks : ℕ) (d : Data) → Spares (files_of disks d)
unfolding files_of
files_of-spares disks d =
    then (found (get (codes "files") d) (broken 8 64)) _ (found-spares (get (codes "files") d) 8 64 (λ e. omega (arith, e)))
    (λ v. items_of-spares 8 1 64 64 (file_after disks) v (λ e. omega (arith, e)))

events_of-spares : (beats files : ℕ) (d : Data) → Spares (events_of beats files d)
unfolding events_of
events_of-spares beats files d =
    then (found (get (codes "events") d) (broken 9 4000)) _ (found-spares (get (codes "events") d) 9 4000 (λ e. omega (arith, e)))
    (λ v. items_of-spares 9 0 4000 4000 (event_after beats files) v (λ e. omega (arith, e)))

few_blocks-spares : (p : Params) (beats starts : ℕ) → Spares (few_blocks p beats starts)
unfolding few_blocks
few_blocks-spares p beats starts =
    keeps-spares (nat_le (most_blocks p beats starts) 400000) (exceeded 10 (most_blocks p beats starts) 400000) (λ e. omega (arith, e))

deaths_given-spares : (cubs beats : ℕ) (d : Data) → Spares (deaths_given cubs beats d)
unfolding deaths_given
deaths_given-spares cubs beats d =
    given-spares _ _ (get (codes "deaths") d) (λ v. items_of-spares 11 0 32 32 (death_after cubs beats) v (λ e. omega (arith, e)))

deaths_of-spares : (cubs beats : ℕ) (d : Data) → Spares (deaths_of cubs beats d)
unfolding deaths_of
deaths_of-spares cubs beats d = then (deaths_given cubs beats d) _ (deaths_given-spares cubs beats d) (λ deaths. tt)

read_faults_of-spares : (disks beats : ℕ) (d : Data) → Spares (read_faults_of disks beats d)
unfolding read_faults_of
read_faults_of-spares disks beats d =
    given-spares _ _ (get (codes "read_faults") d) (λ v. items_of-spares 12 0 1000 1000 (read_fault_after disks beats) v (λ e. omega (arith, e)))

-- ---- the fourth rule

-- if it is refused by the fourth rule, these are the numbers of a plan, and the refusal names their first false condition
abbrev Names : {A : Type 0} → Result A ScenarioFault → Option Params → Type 0
Names (Ok x) o = Unit {0}
Names (Err e) o =
    e.rule ≡ 4 → (p : Params) × (o ≡ Some p) × (plan_fault p ≡ Some (record { condition = e.item; left = e.left; right = e.right }))

spared : {A : Type 0} (r : Result A ScenarioFault) (o : Option Params) → Spares r → Names r o
spared (Ok x) o other = tt
spared (Err e) o other = λ four. absurd (other four)

spared_then : {A B : Type 0} (r : Result A ScenarioFault) (f : A → Result B ScenarioFault) (o : Option Params) → Spares r
    → ((x : A) → Names (f x) o) → Names (r >>= f) o
spared_then (Ok x) f o first rest = rest x
spared_then (Err e) f o first rest = λ four. absurd (first four)

named_then : {A B : Type 0} (r : Result A ScenarioFault) (f : A → Result B ScenarioFault) (o : Option Params) → Names r o
    → ((x : A) → Spares (f x)) → Names (r >>= f) o
named_then (Ok x) f o first rest = spared (f x) o (rest x)
named_then (Err e) f o first rest = first

meets-named : (p : Params) (o : Option PlanFault) → plan_fault p ≡ o → Names (meets o >>= λ t. means p) (Some p)
meets-named p None e = tt
meets-named p (Some fault) e = λ four. (p, refl, e)

params-named : (d : Data) (r : Result Params ScenarioFault) → Spares r
    → Names (r >>= λ p. keeps (has_only (is_one_of plan_keys) d) (broken 3 19) >>= λ t. meets (plan_fault p) >>= λ u. means p) (value_of r)
params-named d (Ok p) other =
    spared_then (keeps (has_only (is_one_of plan_keys) d) (broken 3 19)) _ (Some p)
    (keeps-spares (has_only (is_one_of plan_keys) d) (broken 3 19) (λ e. omega (arith, e))) (λ t. meets-named p (plan_fault p) refl)
params-named d (Err e) other = λ four. absurd (other four)

plan_of-named : (d : Data) → Names (plan_of d) (value_of (params_of d))
unfolding plan_of
plan_of-named d =
    spared_then (keeps (is_object d) (broken 3 0)) _ (value_of (params_of d)) (keeps-spares (is_object d) (broken 3 0) (λ e. omega (arith, e)))
    (λ t. params-named d (params_of d) (params_of-spares d))

found-named : (o : Option Data) → Names (found o (broken 3 0) >>= plan_of) (option_and_then (λ plan. value_of (params_of plan)) o)
found-named (Some plan) = plan_of-named plan
found-named None = λ four. absurd (omega (arith, four))

scenario_of-named : (d : Data) → Names (scenario_of d) (numbers_under d)
unfolding scenario_of
scenario_of-named d =
    spared_then (keeps (has_keys d) (broken 2 0)) _ (numbers_under d) (keeps-spares (has_keys d) (broken 2 0) (λ e. omega (arith, e)))
    (λ t. named_then (found (get (codes "plan") d) (broken 3 0) >>= plan_of) _ (numbers_under d) (found-named (get (codes "plan") d))
    (λ (p : Params). then (beats_of p.cubs d) _ (beats_of-spares p.cubs d)
    (λ (beats : ℕ). then (links_of p.delay d) _ (links_of-spares p.delay d)
    (λ delay. then (offsets_of p d) _ (offsets_of-spares p d)
    (λ offsets. then (files_of (disk_count p) d) _ (files_of-spares (disk_count p) d)
    (λ files. then (events_of beats (length files) d) _ (events_of-spares beats (length files) d)
    (λ events. then (few_blocks p beats (starts_in events)) _ (few_blocks-spares p beats (starts_in events))
    (λ blocks. then (deaths_of p.cubs beats d) _ (deaths_of-spares p.cubs beats d)
    (λ deaths. then (read_faults_of (disk_count p) beats d) _ (read_faults_of-spares (disk_count p) beats d) (λ faults. tt))))))))))

bytes-named : (o : Option Data) → Names (found o (broken 1 0) >>= scenario_of) (option_and_then numbers_under o)
bytes-named (Some d) = scenario_of-named d
bytes-named None = λ four. absurd (omega (arith, four))

meaning-named : (bytes : List ℕ) → Names (meaning bytes) (plan_numbers bytes)
unfolding meaning plan_numbers
meaning-named bytes = bytes-named (json_of bytes)

-- the numbers of a plan that is refused for a condition, and what the refusal names of them
pub refused_plan : (bytes : List ℕ) (fault : ScenarioFault) → meaning bytes ≡ Err fault → fault.rule ≡ 4
    → (p : Params) × (plan_numbers bytes ≡ Some p) × (plan_fault p ≡ Some (record { condition = fault.item; left = fault.left; right = fault.right }))
refused_plan bytes fault e four =
    subst (λ (r : Result Said ScenarioFault). Names r (plan_numbers bytes)) e (meaning-named bytes) four
