use Rattle.std.proofs.Common.{◌≡◌, ◌∙◌, refl}
use Rattle.std.proofs.lemmas.Result.{IfOk-weaker}
use Rattle.ring_nodes.specs.AllNodes.{image_at, images_of}
use Rattle.ring_nodes.proofs.Numbered.{length-numbered}
use Rattle.ring_facts.specs.Steps.{ring_of}
use Rattle.proof_answer.proofs.Kepts.{kept_runs_are_one}
use Rattle.kept_worlds.proofs.Worlds.{kept-worlds}
use Rattle.proof_ring.proofs.Kept.{kept_runs_believe_in_time, kept_runs_meet_the_claims}
use Rattle.tiger_ring.proofs.Rings.{ring_run}
use Rattle.tiger_ring.proofs.run.run_with_outcomes.Goals as goal

pub make_nodes-requires-clause-images : goal.make_nodes-requires-clause-images
make_nodes-requires-clause-images g c =
    let p = c.args.scenario.course.plan.params in
    let library = c.args.library.now in
    let images : c.as_slice-2.result.now ≡ images_of p c.in_ok-catalogue.catalogue library = c.as_slice-2.ensures.value ∙ c.in_ok-images.ensures in
    rw images (length-numbered (image_at p c.in_ok-catalogue.catalogue library) _)

pub returns-clause-ran : goal.returns-clause-ran
returns-clause-ran g c =
    let s = c.args.scenario in
    let library = c.args.library.now in
    let catalogue = c.in_ok-catalogue.catalogue in
    let images : c.as_slice-2.result.now ≡ images_of s.course.plan.params catalogue library = c.as_slice-2.ensures.value ∙ c.in_ok-images.ensures in
    let opened : c.in_ok-nodes.nodes.items ≡ ring_of _ s.course catalogue library c.in_ok-orders.orders =
    c.in_ok-nodes.ensures.nodes ∙ rw (images, c.in_ok-given.ensures, c.as_slice.ensures) refl in
    let ran = rw (opened, c.in_ok-orders.ensures.orders) at c.run_nodes.ensures.ran in
    IfOk-weaker c.run_nodes.result _ _
    (λ run kept. ring_run g.row.G.Denot s library catalogue run.kept c.requires.scenario c.requires.short c.in_ok-catalogue.ensures kept)
    ran

pub returns-clause-only : goal.returns-clause-only
returns-clause-only g c =
    IfOk-weaker c.run_nodes.result _ _
    (λ run ran. λ other again. kept_runs_are_one g.row.G.Denot c.args.scenario c.args.library.now other run.kept c.requires.scenario again ran)
    (returns-clause-ran g c)

pub returns-clause-world : goal.returns-clause-world
returns-clause-world g c =
    IfOk-weaker c.run_nodes.result _ _
    (λ run ran. kept-worlds g.row.G.Denot c.args.scenario c.args.library.now run.kept c.requires.scenario ran)
    (returns-clause-ran g c)

pub returns-clause-claims : goal.returns-clause-claims
returns-clause-claims g c =
    IfOk-weaker c.run_nodes.result _ _
    (λ run ran. kept_runs_meet_the_claims g.row.G.Denot c.args.scenario c.args.library.now run.kept c.requires.scenario c.requires.short ran)
    (returns-clause-ran g c)

pub returns-clause-belief_in_time : goal.returns-clause-belief_in_time
returns-clause-belief_in_time g c =
    IfOk-weaker c.run_nodes.result _ _
    (λ run ran. kept_runs_believe_in_time g.row.G.Denot c.args.scenario c.args.library.now run.kept c.requires.scenario c.requires.short ran)
    (returns-clause-ran g c)
