use Rattle.std.proofs.Common.{◌≡◌, ap, sym, ◌∙◌, arith}
use Rattle.scenario_make.specs.Events.{at_start, events_by}
use Rattle.scenario_make.proofs.Growing.{events_by-none, events_by-step, beat_by-none, beat_by-step, at_start-none, at_start-more, at_start-all}
use Rattle.scenario_make.proofs.events.events.Goals as goal

pub loop-start-init : goal.loop-start-init
loop-start-init c = record {
  events = c.new-events.ensures.items ∙ sym (events_by-none c.args.generator.now);
  generator = sym (at_start-none c.args.generator.now);
  beat = sym (beat_by-none c.args.generator.now);
  early = omega arith;
}

pub loop-start-preserved : goal.loop-start-preserved
loop-start-preserved c =
    let g = c.args.generator.now in
    let h = c.loop-start.generator in
    let n = c.loop-start.start in
    let at = c.loop-start.invariant.generator in
    let beat = beat_by-step g h n c.loop-start.beat c.in_ok-beat.beat c.loop-start.invariant.beat at c.in_ok-beat.ensures.beat in
    record {
      events = events_by-step g h n c.in_ok-beat.beat c.loop-start.events.items c.push_start.new.events.items c.loop-start.invariant.events at beat c.in_ok-beat.ensures.events;
      generator = at_start-more g h c.push_start.new.generator n at c.in_ok-beat.ensures.after;
      beat = beat;
      early = omega (arith, c.loop-start.invariant.early, c.in_ok-beat.ensures.soon);
    }

pub returns : goal.returns
returns c =
    let g = c.args.generator.now in
    let all : c.loop-start.start ≡ 300 = omega arith in
    record {
      events = c.new.ensures ∙ c.loop-start.invariant.events ∙ ap (events_by g) all;
      after = c.loop-start.invariant.generator ∙ ap (at_start g) all ∙ at_start-all g;
    }
