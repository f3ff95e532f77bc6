-- From the whole run to the words of runs: that its history keeps the course, and what its journals are.
use Rattle.std.proofs.Common.{◌≡◌, ◌+◌, List, length, ap, sym, ◌∙◌, subst, arith}
use Rattle.tiger_base.specs.declared.message.Note.{Note}
use Rattle.node_kit.specs.declared.course.Course.{Course}
use Rattle.node_kit.specs.declared.journal.Entry.{Entry}
use Rattle.node_kit.specs.Courses.{IsCourse}
use Rattle.node_kit.specs.Life.{lifetime_of}
use Rattle.node_kit.specs.Links.{links_of, viewers_of}
use Rattle.node_kit.specs.Steps.{Input, Deed}
use Rattle.run_facts.specs.Kept.{HaveKept}
use Rattle.run_facts.specs.Carried.{AreCarried}
use Rattle.run_facts.specs.Paced.{ArePaced}
use Rattle.run_facts.specs.Timed.{AreTimed}
use Rattle.ring_engine.specs.Whole.{IsWholeRun}
use Rattle.ring_engine.proofs.Progressing.{progress-ends}
use Rattle.run_facts.proofs.Kept.{firsts}
use Rattle.run_lives.proofs.Kept.{carried-run, paced-run, timed-run, kept-run}

pub kept-whole : {M S : Type 0} (note : M → Note) (step : S → Input M → Deed M S) (c : Course) (given nodes : List S) (journals : List (List Entry)) → IsCourse c
    → length given ≡ viewers_of (links_of c.plan.params) + 1 → length nodes ≡ length given → IsWholeRun {M = M} note step c given nodes journals
    → HaveKept {M = M} note step c given nodes journals
kept-whole {M} note step c given nodes journals course size back whole =
    let opens = firsts given (omega (arith, size)) in
    subst (λ js. HaveKept {M = M} note step c given nodes js) (sym whole.same_journals)
    (subst (λ ns. HaveKept {M = M} note step c given ns whole.last.journals) (sym whole.same_nodes)
    (kept-run note step c given opens.0 whole.last course size (progress-ends note step c given nodes journals opens.0 course opens.1 whole) opens.1 (ap length (sym whole.same_nodes) ∙ back)))

pub carried-whole : {M S : Type 0} (note : M → Note) (step : S → Input M → Deed M S) (c : Course) (given nodes : List S) (journals : List (List Entry)) → IsCourse c
    → length given ≡ viewers_of (links_of c.plan.params) + 1 → IsWholeRun {M = M} note step c given nodes journals → AreCarried c.plan.params c.beats (lifetime_of c) journals
carried-whole note step c given nodes journals course size whole =
    let opens = firsts given (omega (arith, size)) in
    subst (AreCarried c.plan.params c.beats (lifetime_of c)) (sym whole.same_journals)
    (carried-run note step c given opens.0 whole.last course size (progress-ends note step c given nodes journals opens.0 course opens.1 whole))

pub paced-whole : {M S : Type 0} (note : M → Note) (step : S → Input M → Deed M S) (c : Course) (given nodes : List S) (journals : List (List Entry)) → IsCourse c
    → length given ≡ viewers_of (links_of c.plan.params) + 1 → IsWholeRun {M = M} note step c given nodes journals → ArePaced c journals
paced-whole note step c given nodes journals course size whole =
    let opens = firsts given (omega (arith, size)) in
    subst (ArePaced c) (sym whole.same_journals)
    (paced-run note step c given opens.0 whole.last course size (progress-ends note step c given nodes journals opens.0 course opens.1 whole))

pub timed-whole : {M S : Type 0} (note : M → Note) (step : S → Input M → Deed M S) (c : Course) (given nodes : List S) (journals : List (List Entry)) → IsCourse c
    → length given ≡ viewers_of (links_of c.plan.params) + 1 → IsWholeRun {M = M} note step c given nodes journals → AreTimed c.plan.params c.beats (lifetime_of c) journals
timed-whole note step c given nodes journals course size whole =
    let opens = firsts given (omega (arith, size)) in
    subst (AreTimed c.plan.params c.beats (lifetime_of c)) (sym whole.same_journals)
    (timed-run note step c given opens.0 whole.last course size (progress-ends note step c given nodes journals opens.0 course opens.1 whole))
