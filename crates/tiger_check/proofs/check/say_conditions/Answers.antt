use Rattle.std.proofs.Common.{List, ℕ, string_bytes}
use Rattle.scenario_check.specs.Lines.{plan_lines}
use Rattle.scenario_check.specs.Numbers.{OfPlan}
use Rattle.tiger_check.proofs.Endings.{wrote_said, of_plan}
use Rattle.tiger_check.proofs.check.say_conditions.Goals as goal

pub returns-clause-said : goal.returns-clause-said
returns-clause-said g c =
    let out = g.K.Sink.state in
    let bytes = c.args.bytes.now in
    let fault = c.args.fault in
    let text = string_bytes c.in-Ok.text in
    wrote_said c.written.result (out c.args.out.now) (out c.written.new.out) text (λ (P : List ℕ → Type 0). OfPlan bytes fault (λ p. P (plan_lines p)))
    (of_plan bytes fault text c.in-Ok.ensures) (rw c.as_bytes.ensures.value at c.written.ensures.wrote)
