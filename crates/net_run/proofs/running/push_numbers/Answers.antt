use Rattle.std.proofs.Common.{◌≡◌, ◌++◌, ◌∙◌, ◌-◌, ℕ, ap, arith}
use Rattle.std.specs.List.{range_with_len}
use Rattle.net_run.proofs.Ranges.{numbers_more, below_more}
use Rattle.net_run.proofs.running.push_numbers.Goals as goal

pub loop-number-preserved : goal.loop-number-preserved
loop-number-preserved c = record {
  out = numbers_more c.args.out.now.items c.loop-number.out.items c.push_back.new.self.items c.args.first c.loop-number.number (omega arith) c.loop-number.invariant.out c.in_ok-push_back.ensures.items;
  few = omega (arith, c.loop-number.invariant.few, c.loop-number-test.true, c.loop-number.auto.number-end);
  low = λ h. below_more c.args.end c.loop-number.number c.loop-number.out.items c.push_back.new.self.items (omega arith) c.in_ok-push_back.ensures.items (c.loop-number.invariant.low h);
}

pub returns-clause-ok : goal.returns-clause-ok
returns-clause-ok c =
    let count : c.loop-number.number - c.args.first ≡ c.args.end - c.args.first = omega (arith, c.loop-number.invariant.few, c.loop-number-test.false) in
    c.loop-number.invariant.out ∙ ap (λ (n : ℕ). c.args.out.now.items ++ range_with_len c.args.first n) count
