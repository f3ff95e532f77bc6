use Rattle.std.proofs.Common.{◌≡◌, sym, ap, ◌∙◌, ℕ, arith}
use Rattle.scenario_make.specs.Draws.{after}
use Rattle.scenario_make.specs.Troubles.{offsets_by}
use Rattle.scenario_make.proofs.Drawing.{after-none, after_more}
use Rattle.scenario_make.proofs.Growing.{offsets_by-none, offsets_by-step}
use Rattle.scenario_make.proofs.troubles.offsets.Goals as goal

pub loop-clock-init : goal.loop-clock-init
loop-clock-init c = record {
  offsets = c.new-offsets.ensures.items ∙ sym (offsets_by-none c.args.generator.now);
  generator = sym (after-none c.args.generator.now);
}

pub loop-clock-preserved : goal.loop-clock-preserved
loop-clock-preserved c =
    let g = c.args.generator.now in
    let n = c.loop-clock.clock in
    let at = c.loop-clock.invariant.generator in
    record {
      offsets = offsets_by-step g c.loop-clock.generator n c.draw.result c.loop-clock.offsets.items c.push.new.self.items c.loop-clock.invariant.offsets at c.draw.ensures.value c.in_ok-push.ensures.items;
      generator = after_more g c.loop-clock.generator c.draw.new.generator n at c.draw.ensures.after;
    }

pub returns : goal.returns
returns c =
    let g = c.args.generator.now in
    let all : c.loop-clock.clock ≡ 15 = omega arith in
    record {
      offsets = c.new.ensures ∙ c.loop-clock.invariant.offsets ∙ ap (offsets_by g) all;
      after = c.loop-clock.invariant.generator ∙ ap (λ (n : ℕ). after n g) all;
    }
