-- What is kept of two runs of one scenario over one library is the same.
use Rattle.std.proofs.Common.{◌≡◌, ℕ, List, refl, ap, sym, subst, ◌∙◌}
use Rattle.tiger_base.specs.declared.message.Msg.{Msg}
use Rattle.tiger_base.specs.Notes.{noted}
use Rattle.stripe_layout.specs.declared.catalogue.Catalogue.{Catalogue}
use Rattle.node_kit.specs.declared.course.Course.{Course}
use Rattle.node_kit.specs.declared.course.Kept.{Kept}
use Rattle.node_kit.specs.declared.course.Order.{Order}
use Rattle.node_kit.specs.declared.journal.Entry.{Entry}
use Rattle.node_kit.specs.Courses.{IsCourse}
use Rattle.scenario_read.specs.Orders.{orders_from}
use Rattle.ring_nodes.specs.declared.nodes.AnyNode.{AnyNode}
use Rattle.ring_nodes.specs.AllNodes.{any_step}
use Rattle.ring_facts.specs.Steps.{HasRun, ring_of}
use Rattle.proof_answer.proofs.Catalogues.{catalogues-are-one}
use Rattle.proof_answer.proofs.One.{runs-are-one}
use Rattle.proof_answer.specs.KeptAnswers.{KeptRunsAreOne}

-- the journals of a course are determined by what its nodes open with
same_journals : (G : Type 0) (c : Course) (catalogue : Catalogue) (library : List (List ℕ)) (orders : List Order) (js ks : List (List Entry))
    → IsCourse c → HasRun G c catalogue library orders js → HasRun G c catalogue library orders ks → js ≡ ks
same_journals G c catalogue library orders js ks course one two =
    (runs-are-one Msg (AnyNode G) noted (any_step {G = G}) c (ring_of G c catalogue library orders) one.nodes two.nodes js
    ks course one.kept two.kept).1

pub kept_runs_are_one : (G : Type 0) → KeptRunsAreOne G
kept_runs_are_one G s library one two sound a b =
    let course : one.course ≡ two.course = a.course ∙ sym b.course in
    let catalogue : one.catalogue ≡ two.catalogue =
    catalogues-are-one one.catalogue two.catalogue (sym a.catalogue.lengths ∙ b.catalogue.lengths) (a.catalogue.first_disks ∙ sym b.catalogue.first_disks)
    (a.catalogue.block ∙ sym b.catalogue.block) (a.catalogue.disks ∙ sym b.catalogue.disks) in
    let orders : one.orders ≡ two.orders = a.orders ∙ ap (λ (c : Catalogue). orders_from c 0 s.events) catalogue ∙ sym b.orders in
    let moved : HasRun G one.course one.catalogue library one.orders two.journals =
    subst (λ (c : Course). HasRun G c one.catalogue library one.orders two.journals) (sym course)
    (subst (λ (l : Catalogue). HasRun G two.course l library one.orders two.journals) (sym catalogue)
    (subst (λ (o : List Order). HasRun G two.course two.catalogue library o two.journals) (sym orders) b.steps)) in
    let is_course : IsCourse one.course = subst IsCourse (sym a.course) sound.course in
    let journals : one.journals ≡ two.journals =
    same_journals G one.course one.catalogue library one.orders one.journals two.journals is_course a.steps moved in
    let digests : one.digests ≡ two.digests =
    a.digests ∙ rw (course, catalogue, orders, journals) refl ∙ sym b.digests in
    let whole : ◌≡◌ {A = Kept}
    (record { course = one.course; catalogue = one.catalogue; orders = one.orders; journals = one.journals; digests = one.digests })
    (record { course = two.course; catalogue = two.catalogue; orders = two.orders; journals = two.journals; digests = two.digests }) =
    rw (course, catalogue, orders, journals, digests) refl in
    whole
