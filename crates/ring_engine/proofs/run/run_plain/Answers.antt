use Rattle.std.proofs.Common.{◌∙◌, ◌+◌, refl, ap, sym, arith}
use Rattle.node_kit.specs.Links.{link_count, viewers_of}
use Rattle.node_kit.specs.Courses.{setting_of}
use Rattle.ring_engine.specs.Places.{new_channel, numbered}
use Rattle.run_facts.specs.Rings.{Ring}
use Rattle.node_kit.specs.Rows.{each_below}
use Rattle.node_kit.specs.Life.{lifetime_of}
use Rattle.ring_engine.proofs.Reaching.{sound-at-hand, all-turns, all-lived}
use Rattle.ring_engine.proofs.Running.{come-open, sound-open, come-more, sound-later, ended-at, ring-opens, passed-on, whole-run}
use Rattle.ring_engine.proofs.Wholes.{kept-whole, carried-whole, paced-whole, timed-whole}
use Rattle.ring_engine.proofs.run.run_plain.Goals as goal

pub loop-beat-init : goal.loop-beat-init
loop-beat-init g c =
    let lives = c.in_ok-lives.ensures ∙ ap (each_below (lifetime_of c.args.course.now)) (sym c.requires.count) in
    let journals = c.in_ok-journals.ensures ∙ ap (each_below (λ _. _)) (sym c.requires.count) in
    let channels = c.in_ok-mail.ensures.channels ∙ ap (λ t. each_below (new_channel c.args.course.now) (link_count t)) c.requires.links in
    record {
      sound = sound-open _ c.args.course.now _ _ _ _ _ c.requires.course c.requires.stand c.args.nodes.ok.0 lives journals channels;
      passed = ring-opens c.args.course.now _ _ _ _ _ c.args.nodes.ok.0 lives journals channels;
      come = come-open _ _ c.args.course.now _ _ _ _ _ c.args.nodes.ok.0 lives journals;
      links = c.in_ok-mail.ensures.links;
      outputs = c.new-outputs.ensures;
    }

pub pass_from-requires-clause-ready : goal.pass_from-requires-clause-ready
pass_from-requires-clause-ready g c =
    let sound = c.loop-beat.invariant.sound in
    sound-at-hand g.T.Node.stands_at c.args.course.now _ c.loop-beat.beat _ _ c.loop-beat.mail.links
    (record { nodes = c.loop-beat.nodes.items; lives = c.loop-beat.lives.items; journals = c.loop-beat.journals.items; channels = c.loop-beat.mail.channels })
    (c.loop-beat.invariant.links ∙ c.requires.links) (c.requires.count ∙ ap (λ t. viewers_of t + 1) (sym c.loop-beat.invariant.links)) (c.as_slice.ensures.value ∙ c.in_ok-numbers.ensures ∙ ap (each_below numbered) (sym c.requires.count)) (c.as_slice-in-loop-beat.ensures.value ∙ c.in_ok-dials.ensures ∙ ap (each_below (setting_of c.args.course.now)) (sym c.requires.count)) sound

pub loop-beat-preserved : goal.loop-beat-preserved
loop-beat-preserved g c =
    let inv = c.loop-beat.invariant in
    let come = all-turns g.M.Message.note_of g.T.Node.step g.T.Node.stands_at c.args.course.now _ c.loop-beat.beat _ _ c.loop-beat.mail.links _ _
    (inv.links ∙ c.requires.links) (c.as_slice.ensures.value ∙ c.in_ok-numbers.ensures ∙ ap (each_below numbered) (sym c.requires.count)) (c.as_slice-in-loop-beat.ensures.value ∙ c.in_ok-dials.ensures ∙ ap (each_below (setting_of c.args.course.now)) (sym c.requires.count)) inv.sound c.in_ok-pass_from.ensures.turns in
    record {
      sound = sound-later _ _ _ _ _ _ refl come.midway.sound;
      passed = passed-on _ _ _ _ _ _ _ _ _ refl come.turns inv.passed;
      come = come-more _ _ _ _ _ _ _ (all-lived _ _ _ _ _ _ _ _ inv.sound.nodes come) inv.come;
      links = c.in_ok-pass_from.ensures.links ∙ inv.links;
      outputs = c.in_ok-pass_from.ensures.outputs;
    }

pub returns-clause-runs : goal.returns-clause-runs
returns-clause-runs g c =
    let r : Ring _ _ = record { nodes = c.loop-beat.nodes.items; lives = c.loop-beat.lives.items; journals = c.loop-beat.journals.items; channels = c.loop-beat.mail.channels } in
    ended-at _ _ _ c.loop-beat.beat _ r _ (omega (arith, c.loop-beat.auto.beat-end, c.loop-beat-test.false)) c.new-2.ensures c.loop-beat.invariant.come

pub returns-clause-whole : goal.returns-clause-whole
returns-clause-whole g c =
    let r : Ring _ _ = record { nodes = c.loop-beat.nodes.items; lives = c.loop-beat.lives.items; journals = c.loop-beat.journals.items; channels = c.loop-beat.mail.channels } in
    whole-run _ _ _ _ c.loop-beat.beat _ r _ c.args.nodes.ok.0 (omega (arith, c.loop-beat.auto.beat-end, c.loop-beat-test.false)) c.new-2.ensures c.loop-beat.invariant.passed

pub returns-clause-kept : goal.returns-clause-kept
returns-clause-kept g c =
    kept-whole _ _ c.args.course.now c.args.nodes.items _ _ c.requires.course (sym c.args.nodes.ok.0 ∙ c.requires.count ∙ ap (λ t. viewers_of t + 1) c.requires.links)
    (c.loop-beat.invariant.sound.nodes ∙ c.args.nodes.ok.0) (returns-clause-whole g c)

pub returns-clause-carried : goal.returns-clause-carried
returns-clause-carried g c =
    carried-whole _ _ c.args.course.now c.args.nodes.items _ _ c.requires.course (sym c.args.nodes.ok.0 ∙ c.requires.count ∙ ap (λ t. viewers_of t + 1) c.requires.links) (returns-clause-whole g c)

pub returns-clause-paced : goal.returns-clause-paced
returns-clause-paced g c =
    paced-whole _ _ c.args.course.now c.args.nodes.items _ _ c.requires.course (sym c.args.nodes.ok.0 ∙ c.requires.count ∙ ap (λ t. viewers_of t + 1) c.requires.links) (returns-clause-whole g c)

pub returns-clause-timed : goal.returns-clause-timed
returns-clause-timed g c =
    timed-whole _ _ c.args.course.now c.args.nodes.items _ _ c.requires.course (sym c.args.nodes.ok.0 ∙ c.requires.count ∙ ap (λ t. viewers_of t + 1) c.requires.links) (returns-clause-whole g c)
