-- A writable value is the only one that has its text: the text has all its parts, and there is one proof that a plan is sound.
use Rattle.std.proofs.Common.{◌≡◌, ℕ, List, refl, sym, ap, ◌∙◌, subst}
use Rattle.slot_plan.specs.declared.params.Params.{Params}
use Rattle.slot_plan.specs.declared.plan.Plan.{Plan}
use Rattle.slot_plan.specs.Conditions.{IsPlan}
use Rattle.slot_plan.specs.Times.{disk_count}
use Rattle.stripe_layout.specs.declared.catalogue.Catalogue.{Catalogue}
use Rattle.stripe_layout.specs.declared.catalogue.FileInfo.{FileInfo}
use Rattle.stripe_layout.specs.Layout.{IsCatalogue}
use Rattle.node_kit.specs.declared.course.Course.{Course}
use Rattle.node_kit.specs.declared.course.Kept.{Kept}
use Rattle.audit_text.specs.Laws.{FitsTypes}
use Rattle.audit_text.specs.Texts.{Parts, parts_of, text_of}
use Rattle.audit_text.proofs.Gathering.{one_value}
use Rattle.audit_read.specs.Writable.{IsWritable}
use denote.Struct.Props.{props}

-- two proofs that numbers make a plan, or a catalogue, are the same
plan_once : (p : Params) → IsProp (IsPlan p)
plan_once p = hlevel props

catalogue_once : (files : List FileInfo) (block disks : ℕ) → IsProp (IsCatalogue files block disks)
catalogue_once files block disks = hlevel props

abbrev plan_of : (p : Params) → IsPlan p → Plan
plan_of p sound = record { params = p; sound = sound }

same_plan : (p q : Params) (a : IsPlan p) (b : IsPlan q) → p ≡ q → plan_of p a ≡ plan_of q b
same_plan p q a b same =
    subst (λ (r : Params). (c : IsPlan r) → plan_of p a ≡ plan_of r c) same (λ c. ap (plan_of p) (plan_once p a c)) b

abbrev made : (files : List FileInfo) (block disks : ℕ) → IsCatalogue files block disks → Catalogue
made files block disks sound = record { files = files; block = block; disks = disks; sound = sound }

same_catalogue : (f g : List FileInfo) (k l d e : ℕ) (s : IsCatalogue f k d) (t : IsCatalogue g l e) → f ≡ g → k ≡ l → d ≡ e
    → made f k d s ≡ made g l e t
same_catalogue f g k l d e s t same_files same_block same_disks =
    let one = made f k d s in
    let again : (u : IsCatalogue f k d) → one ≡ made f k d u = λ u. ap (made f k d) (catalogue_once f k d s u) in
    let disks = subst (λ (j : ℕ). (u : IsCatalogue f k j) → one ≡ made f k j u) same_disks again in
    let block = subst (λ (j : ℕ). (u : IsCatalogue f j e) → one ≡ made f j e u) same_block disks in
    let files = subst (λ (h : List FileInfo). (u : IsCatalogue h l e) → one ≡ made h l e u) same_files block in
    files t

-- what is asked of a value so that its text has all its parts
types_fit : (k : Kept) → IsWritable k → FitsTypes k
types_fit k w = record {
  numbers = w.numbers;
  cubs = w.course.deaths;
  cuts = w.course.cuts;
  backs = w.course.backs;
  cut_deaths = w.course.cut_deaths;
  returns_later = w.course.returns_later;
}

pub same_kept : (j k : Kept) → IsWritable j → IsWritable k → text_of j ≡ text_of k → j ≡ k
same_kept j k w v same =
    let parts : parts_of j ≡ parts_of k = one_value j k (types_fit j w) (types_fit k v) same in
    let params : j.course.plan.params ≡ k.course.plan.params = ap (λ (q : Parts). q.params) parts in
    let plan : j.course.plan ≡ k.course.plan = same_plan j.course.plan.params k.course.plan.params j.course.plan.sound k.course.plan.sound params in
    let course : ◌≡◌ {A = Course}
    (record { plan = j.course.plan; beats = j.course.beats; offsets = j.course.offsets; deaths = j.course.deaths; cuts = j.course.cuts; backs = j.course.backs; faults = j.course.faults; delay = j.course.delay })
    (record { plan = k.course.plan; beats = k.course.beats; offsets = k.course.offsets; deaths = k.course.deaths; cuts = k.course.cuts; backs = k.course.backs; faults = k.course.faults; delay = k.course.delay }) =
    rw (plan, ap (λ (q : Parts). q.beats) parts, ap (λ (q : Parts). q.offsets) parts, ap (λ (q : Parts). q.deaths) parts, ap (λ (q : Parts). q.cuts) parts, ap (λ (q : Parts). q.backs) parts, ap (λ (q : Parts). q.faults) parts, ap (λ (q : Parts). q.delay) parts) refl in
    let block : j.catalogue.block ≡ k.catalogue.block = w.block ∙ ap (λ (p : Params). p.block) params ∙ sym v.block in
    let disks : j.catalogue.disks ≡ k.catalogue.disks = w.disks ∙ ap disk_count params ∙ sym v.disks in
    let catalogue : j.catalogue ≡ k.catalogue =
    same_catalogue j.catalogue.files k.catalogue.files j.catalogue.block k.catalogue.block j.catalogue.disks k.catalogue.disks j.catalogue.sound k.catalogue.sound (ap (λ (q : Parts). q.files) parts) block disks in
    let whole : ◌≡◌ {A = Kept}
    (record { course = j.course; catalogue = j.catalogue; orders = j.orders; journals = j.journals; digests = j.digests })
    (record { course = k.course; catalogue = k.catalogue; orders = k.orders; journals = k.journals; digests = k.digests }) =
    rw (course, catalogue, ap (λ (q : Parts). q.orders) parts, ap (λ (q : Parts). q.journals) parts, ap (λ (q : Parts). q.digests) parts) refl in
    whole
