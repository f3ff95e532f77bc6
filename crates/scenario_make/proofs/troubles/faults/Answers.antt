use Rattle.std.proofs.Common.{◌≡◌, ◌*◌, sym, ap, ◌∙◌, ℕ, arith}
use Rattle.scenario_make.specs.Draws.{after}
use Rattle.scenario_make.specs.Troubles.{faults_by}
use Rattle.scenario_make.proofs.Drawing.{after-none}
use Rattle.scenario_make.proofs.Growing.{faults_by-none, faults_by-step, after_threes}
use Rattle.scenario_make.proofs.troubles.faults.Goals as goal

pub loop-fault-init : goal.loop-fault-init
loop-fault-init c = record {
  faults = c.new-faults.ensures.items ∙ sym (faults_by-none c.args.generator.now);
  generator = sym (after-none c.args.generator.now);
}

pub loop-fault-preserved : goal.loop-fault-preserved
loop-fault-preserved c =
    let g = c.args.generator.now in
    let n = c.loop-fault.fault in
    let at = c.loop-fault.invariant.generator in
    record {
      faults = faults_by-step g c.loop-fault.generator n c.drawn_fault.result c.loop-fault.faults.items c.push.new.self.items c.loop-fault.invariant.faults at c.drawn_fault.ensures.fault c.in_ok-push.ensures.items;
      generator = after_threes g c.loop-fault.generator c.drawn_fault.new.generator n at c.drawn_fault.ensures.after;
    }

pub returns : goal.returns
returns c =
    let g = c.args.generator.now in
    let all : c.loop-fault.fault ≡ 10 = omega arith in
    record {
      faults = c.new.ensures ∙ c.loop-fault.invariant.faults ∙ ap (faults_by g) all;
      after = c.loop-fault.invariant.generator ∙ ap (λ (n : ℕ). after (3 * n) g) all;
    }
