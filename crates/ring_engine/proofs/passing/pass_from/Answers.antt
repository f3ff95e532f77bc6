use Rattle.std.proofs.Common.{◌≡◌, ◌+◌, ◌<◌, ◌≤◌, ◌∙◌, Some, length, refl, ap, sym, subst, arith}
use Rattle.std.specs.Prelude.{slice_get, slice_set}
use Rattle.std.proofs.lemmas.Option.{slice_get_read}
use Rattle.node_kit.specs.Links.{Links, in_links_of, viewers_of}
use Rattle.ring_engine.specs.Idle.{AreIdle}
use Rattle.ring_engine.specs.Passing.{TookTurn, HaveTakenTurns}
use Rattle.ring_engine.specs.Turns.{scene, IsReadyFor}
use Rattle.ring_engine.proofs.Reaching.{reach-none, reach-on, reach-to, ready-for}
use Rattle.ring_engine.proofs.Running.{length-set_at}
use Rattle.ring_engine.proofs.passing.pass_from.Goals as goal

pub next_busy-n-requires-clause-from : goal.next_busy-n-requires-clause-from
next_busy-n-requires-clause-from g c = omega (arith, c.requires.first, c.requires.ready.manned.nodes, ap length c.as_slice.ensures.value)

pub next_busy-n-requires-clause-numbers : goal.next_busy-n-requires-clause-numbers
next_busy-n-requires-clause-numbers g c = omega (arith, c.requires.ready.manned.nodes, ap length c.as_slice.ensures.value)

pub next_busy-n-requires-clause-dials : goal.next_busy-n-requires-clause-dials
next_busy-n-requires-clause-dials g c = omega (arith, c.requires.ready.clocks, c.requires.ready.manned.nodes, ap length c.as_slice.ensures.value)

pub next_busy-n-requires-clause-lives : goal.next_busy-n-requires-clause-lives
next_busy-n-requires-clause-lives g c = omega (arith, c.requires.ready.manned.lives, c.requires.ready.manned.nodes, ap length c.as_slice.ensures.value, ap length c.as_slice-2.ensures.value)

pub loop-n-init : goal.loop-n-init
loop-n-init g c =
    let h = c.next_busy-n.ensures in
    let ready = c.requires.ready in
    record {
      reach = reach-to g.M.Message.note_of g.T.Node.step g.T.Node.stands_at c.args.numbers.now c.args.dials.now c.args.mail.now.links c.args.beat c.args.first c.args.first c.next_busy-n.result _ _ _
          (record { nodes = c.args.nodes.now.items; lives = c.args.lives.now.items; journals = c.args.journals.now.items; channels = c.args.mail.now.channels })
          c.as_slice.ensures.value c.as_slice-2.ensures.value h.from h.inside h.idle
          (reach-none g.M.Message.note_of g.T.Node.step g.T.Node.stands_at c.args.numbers.now c.args.dials.now c.args.mail.now.links c.args.beat c.args.first _ ready);
      inside = omega (arith, h.inside, ready.manned.nodes, ap length c.as_slice.ensures.value);
      links = refl;
      outputs = c.requires.outputs;
    }

pub bounds-dials-n : goal.bounds-dials-n
bounds-dials-n g c =
    let ready = c.loop-n.invariant.reach.ready in
    omega (arith, ready.clocks, ready.manned.nodes, c.loop-n-test.true, c.loop-n.nodes.ok.0, c.len.ensures)

pub number_at-number-requires : goal.number_at-number-requires
number_at-number-requires g c =
    let ready = c.loop-n.invariant.reach.ready in
    omega (arith, ready.manned.nodes, c.loop-n-test.true, c.loop-n.nodes.ok.0, c.len.ensures)

pub live-requires-clause-number : goal.live-requires-clause-number
live-requires-clause-number g c =
    let low = c.loop-n.invariant.reach.ready.inside c.loop-n.n _ (sym c.number_at-number.ensures) in
    omega (arith, low, ap viewers_of c.loop-n.invariant.links)

pub live-requires-clause-ready : goal.live-requires-clause-ready
live-requires-clause-ready g c =
    let ready = c.loop-n.invariant.reach.ready in
    let low : c.loop-n.n < length c.args.numbers.now = omega (arith, c.loop-n-test.true, ready.manned.nodes, c.loop-n.nodes.ok.0, c.len.ensures) in
    let node : slice_get c.loop-n.nodes.items c.loop-n.n ≡ Some c.index_mut.result.now = slice_get_read _ (length c.loop-n.nodes.items) _ _ refl (omega (arith, low, ready.manned.nodes)) c.index_mut.ensures.value in
    subst (λ (t : Links). IsReadyFor g.T.Node.stands_at c.stamp-stamp.result.beat (in_links_of t c.number_at-number.result.0) (scene c.index_mut.result.now c.index_mut-in-loop-n.result.now c.index_mut-in-loop-n-2.result.now c.loop-n.mail.channels)) (sym c.loop-n.invariant.links)
    (ready-for g.M.Message.note_of g.T.Node.step g.T.Node.stands_at c.args.numbers.now c.args.dials.now c.args.mail.now.links c.args.beat c.loop-n.n
    (record { nodes = c.loop-n.nodes.items; lives = c.loop-n.lives.items; journals = c.loop-n.journals.items; channels = c.loop-n.mail.channels })
    _ _ _ _ _ _ (sym c.number_at-number.ensures) c.stamp-stamp.ensures.stamp node ready)

pub next_busy-n-requires-in-loop-n-clause-from : goal.next_busy-n-requires-in-loop-n-clause-from
next_busy-n-requires-in-loop-n-clause-from g c = omega (arith, c.loop-n-test.true, length-set_at c.loop-n.nodes.items c.loop-n.n c.live.new.node, c.loop-n.nodes.ok.0, c.len.ensures, ap length c.as_slice-in-loop-n.ensures.value)

pub next_busy-n-requires-in-loop-n-clause-numbers : goal.next_busy-n-requires-in-loop-n-clause-numbers
next_busy-n-requires-in-loop-n-clause-numbers g c = omega (arith, c.loop-n.invariant.reach.ready.manned.nodes, length-set_at c.loop-n.nodes.items c.loop-n.n c.live.new.node, ap length c.as_slice-in-loop-n.ensures.value)

pub next_busy-n-requires-in-loop-n-clause-dials : goal.next_busy-n-requires-in-loop-n-clause-dials
next_busy-n-requires-in-loop-n-clause-dials g c = omega (arith, c.loop-n.invariant.reach.ready.clocks, c.loop-n.invariant.reach.ready.manned.nodes, length-set_at c.loop-n.nodes.items c.loop-n.n c.live.new.node, ap length c.as_slice-in-loop-n.ensures.value)

pub next_busy-n-requires-in-loop-n-clause-lives : goal.next_busy-n-requires-in-loop-n-clause-lives
next_busy-n-requires-in-loop-n-clause-lives g c = omega (arith, c.loop-n.invariant.reach.ready.manned.lives, c.loop-n.invariant.reach.ready.manned.nodes, length-set_at c.loop-n.nodes.items c.loop-n.n c.live.new.node, length-set_at c.loop-n.lives.items c.loop-n.n c.live.new.life, ap length c.as_slice-in-loop-n.ensures.value, ap length c.as_slice-in-loop-n-2.ensures.value)

pub loop-n-preserved : goal.loop-n-preserved
loop-n-preserved g c =
    let inv = c.loop-n.invariant in
    let ready = inv.reach.ready in
    let low : c.loop-n.n < length c.args.numbers.now = omega (arith, c.loop-n-test.true, ready.manned.nodes, c.loop-n.nodes.ok.0, c.len.ensures) in
    let dial = slice_get_read c.args.dials.now (length c.args.dials.now) c.loop-n.n _ refl (omega (arith, low, ready.clocks)) c.index-dials-n.is in
    let node : slice_get c.loop-n.nodes.items c.loop-n.n ≡ Some c.index_mut.result.now = slice_get_read _ (length c.loop-n.nodes.items) _ _ refl (omega (arith, low, ready.manned.nodes)) c.index_mut.ensures.value in
    let life : slice_get c.loop-n.lives.items c.loop-n.n ≡ Some c.index_mut-in-loop-n.result.now = slice_get_read _ (length c.loop-n.lives.items) _ _ refl (omega (arith, low, ready.manned.lives)) c.index_mut-in-loop-n.ensures.value in
    let journal : slice_get c.loop-n.journals.items c.loop-n.n ≡ Some c.index_mut-in-loop-n-2.result.now = slice_get_read _ (length c.loop-n.journals.items) _ _ refl (omega (arith, low, ready.manned.journals)) c.index_mut-in-loop-n-2.ensures.value in
    let took = subst (λ (t : Links). TookTurn g.M.Message.note_of g.T.Node.step g.T.Node.stands_at c.args.numbers.now c.args.dials.now t c.args.beat c.loop-n.n
    (record { nodes = c.loop-n.nodes.items; lives = c.loop-n.lives.items; journals = c.loop-n.journals.items; channels = c.loop-n.mail.channels })
    (record {
      nodes = slice_set c.loop-n.nodes.items c.loop-n.n c.live.new.node;
      lives = slice_set c.loop-n.lives.items c.loop-n.n c.live.new.life;
      journals = slice_set c.loop-n.journals.items c.loop-n.n c.live.new.journal;
      channels = c.live.new.mail.channels;
    })) inv.links (record {
      number = _;
      seat = sym c.number_at-number.ensures;
      dial = _;
      clock = dial;
      stamp = c.stamp-stamp.result;
      shown = c.stamp-stamp.ensures.stamp;
      state = _;
      life = _;
      journal = _;
      node_is = node;
      life_is = life;
      journal_is = journal;
      then_state = c.live.new.node;
      then_life = c.live.new.life;
      then_journal = c.live.new.journal;
      then_channels = c.live.new.mail.channels;
      turned = c.in_ok-live.ensures.turn;
      keeps = c.in_ok-live.ensures.keeps;
      after = refl;
    }) in
    let h = c.next_busy-n-in-loop-n.ensures in
    let one = reach-on g.M.Message.note_of g.T.Node.step g.T.Node.stands_at c.args.numbers.now c.args.dials.now c.args.mail.now.links c.args.beat c.args.first c.loop-n.n _ _ _ inv.reach took in
    let idle = subst (λ (t : Links). AreIdle g.T.Node.step c.args.beat (c.loop-n.n + 1) c.next_busy-n-in-loop-n.result t c.args.numbers.now c.args.dials.now c.as_slice-in-loop-n.result.now c.as_slice-in-loop-n-2.result.now c.live.new.mail.channels)
    (c.in_ok-live.ensures.links ∙ inv.links) h.idle in
    let come = reach-to g.M.Message.note_of g.T.Node.step g.T.Node.stands_at c.args.numbers.now c.args.dials.now c.args.mail.now.links c.args.beat c.args.first (c.loop-n.n + 1) c.next_busy-n-in-loop-n.result _ _ _ _
    c.as_slice-in-loop-n.ensures.value c.as_slice-in-loop-n-2.ensures.value h.from h.inside idle one in
    record {
      reach = come;
      inside = omega (arith, h.inside, ap length c.as_slice-in-loop-n.ensures.value, come.ready.manned.nodes);
      links = c.in_ok-live.ensures.links ∙ inv.links;
      outputs = c.in_ok-live.ensures.outputs;
    }

pub returns-clause-turns : goal.returns-clause-turns
returns-clause-turns g c =
    let inv = c.loop-n.invariant in
    let all : c.loop-n.n ≡ length c.args.numbers.now = omega (arith, c.loop-n-test.false, inv.inside, inv.reach.ready.manned.nodes, c.loop-n.nodes.ok.0, c.len.ensures) in
    subst (λ k. HaveTakenTurns g.M.Message.note_of g.T.Node.step g.T.Node.stands_at c.args.numbers.now c.args.dials.now c.args.mail.now.links c.args.beat c.args.first k
    (record { nodes = c.args.nodes.now.items; lives = c.args.lives.now.items; journals = c.args.journals.now.items; channels = c.args.mail.now.channels })
    (record { nodes = c.loop-n.nodes.items; lives = c.loop-n.lives.items; journals = c.loop-n.journals.items; channels = c.loop-n.mail.channels })) all inv.reach.turns
