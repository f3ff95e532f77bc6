use Rattle.std.proofs.Common.{List, ℕ}
use Rattle.scenario_check.specs.Lines.{plan_lines}
use Rattle.scenario_check.specs.Numbers.{OfPlan}
use Rattle.tiger_check.specs.Ends.{OfSaid}
use Rattle.tiger_check.specs.declared.status.CheckStatus.TheVariants as ends
use Rattle.tiger_check.proofs.Endings.{refused_ends, refused_sinks, said_ends, said_refuses, said_condition, said_sinks, unsound_sinks, unsound_ends, unsound_names, unsound_refuses, completes}
use Rattle.tiger_check.proofs.check.write_check.Goals as goal

-- all inputs were read
pub returns-in-Ok-clause-input : goal.returns-in-Ok-clause-input
returns-in-Ok-clause-input g c =
    let files = g.F.Files.state in
    let out = g.K.Sink.state in
    said_ends c.say_scenario.result c.args.name.now (files c.args.files.now) (files c.read_checked.new.files) (out c.args.out.now) (out c.say_scenario.new.out)
    (OfSaid c.in-Ok.inputs) c.say_scenario.ensures.said

pub returns-in-Ok-clause-sink : goal.returns-in-Ok-clause-sink
returns-in-Ok-clause-sink g c =
    let files = g.F.Files.state in
    let out = g.K.Sink.state in
    said_sinks c.say_scenario.result c.args.name.now (files c.args.files.now) (files c.read_checked.new.files) (out c.args.out.now) (out c.say_scenario.new.out)
    c.in-Ok.inputs c.in-Ok.ensures.read c.in-Ok.ensures.counted c.say_scenario.ensures.said

pub returns-in-Ok-clause-conditions : goal.returns-in-Ok-clause-conditions
returns-in-Ok-clause-conditions g c =
    let out = g.K.Sink.state in
    said_condition c.say_scenario.result (out c.args.out.now) (out c.say_scenario.new.out) (OfSaid c.in-Ok.inputs) c.say_scenario.ensures.said

pub returns-in-Ok-clause-silent : goal.returns-in-Ok-clause-silent
returns-in-Ok-clause-silent g c = λ refusal.
    let out = g.K.Sink.state in
    absurd (said_refuses c.say_scenario.result (out c.args.out.now) (out c.say_scenario.new.out) (OfSaid c.in-Ok.inputs) c.say_scenario.ensures.said refusal)

pub returns-in-Ok-clause-complete : goal.returns-in-Ok-clause-complete
returns-in-Ok-clause-complete g c = λ runnable read put.
    let files = g.F.Files.state in
    let out = g.K.Sink.state in
    completes (ends.Run c.say_scenario.result) c.args.name.now (files c.args.files.now) (files c.read_checked.new.files) (out c.args.out.now) (out c.say_scenario.new.out)
    runnable read put (returns-in-Ok-clause-input g c) (returns-in-Ok-clause-sink g c)

-- an input was refused, for no condition of a plan
pub returns-in-Err-Input-clause-input : goal.returns-in-Err-Input-clause-input
returns-in-Err-Input-clause-input g c =
    let files = g.F.Files.state in
    let cause = rw c.in-Err-Input.field-0-is at c.in-Err-Input.ensures.cause in
    refused_ends c.in-Err-Input.status c.args.name.now (files c.args.files.now) (files c.read_checked.new.files) cause

pub returns-in-Err-Input-clause-sink : goal.returns-in-Err-Input-clause-sink
returns-in-Err-Input-clause-sink g c =
    let files = g.F.Files.state in
    let cause = rw c.in-Err-Input.field-0-is at c.in-Err-Input.ensures.cause in
    refused_sinks c.in-Err-Input.status c.args.name.now (files c.args.files.now) (files c.read_checked.new.files) (g.K.Sink.state c.args.out.now) cause

pub returns-in-Err-Input-clause-conditions : goal.returns-in-Err-Input-clause-conditions
returns-in-Err-Input-clause-conditions g c = rw c.in-Err-Input.field-0-is at c.in-Err-Input.ensures.kept

pub returns-in-Err-Input-clause-complete : goal.returns-in-Err-Input-clause-complete
returns-in-Err-Input-clause-complete g c = λ runnable read put.
    let files = g.F.Files.state in
    let out = g.K.Sink.state in
    completes (ends.Run c.in-Err-Input.status) c.args.name.now (files c.args.files.now) (files c.read_checked.new.files) (out c.args.out.now) (out c.args.out.now)
    runnable read put (returns-in-Err-Input-clause-input g c) (returns-in-Err-Input-clause-sink g c)

-- a condition of the plan is false
pub returns-in-Err-Plan-clause-input : goal.returns-in-Err-Plan-clause-input
returns-in-Err-Plan-clause-input g c =
    let files = g.F.Files.state in
    let out = g.K.Sink.state in
    let cause = rw c.in-Err-Plan.field-0-is at c.in-Err-Plan.ensures.cause in
    let said = rw c.as_slice.ensures.value at c.say_conditions.ensures.said in
    rw c.unsound_unless.ensures
    (unsound_ends c.say_conditions.result c.args.name.now (files c.args.files.now) (files c.read_checked.new.files) (out c.args.out.now) (out c.say_conditions.new.out)
    c.in-Err-Plan.fault (λ (P : List ℕ → Type 0). OfPlan c.in-Err-Plan.bytes.items c.in-Err-Plan.fault (λ p. P (plan_lines p))) cause said)

pub returns-in-Err-Plan-clause-sink : goal.returns-in-Err-Plan-clause-sink
returns-in-Err-Plan-clause-sink g c =
    let files = g.F.Files.state in
    let out = g.K.Sink.state in
    let kept = rw c.in-Err-Plan.field-0-is at c.in-Err-Plan.ensures.kept in
    let said = rw c.as_slice.ensures.value at c.say_conditions.ensures.said in
    rw c.unsound_unless.ensures
    (unsound_sinks c.say_conditions.result c.args.name.now c.in-Err-Plan.bytes.items (files c.args.files.now) (files c.read_checked.new.files) (out c.args.out.now) (out c.say_conditions.new.out)
    c.in-Err-Plan.fault kept said)

pub returns-in-Err-Plan-clause-conditions : goal.returns-in-Err-Plan-clause-conditions
returns-in-Err-Plan-clause-conditions g c =
    let out = g.K.Sink.state in
    let said = rw c.as_slice.ensures.value at c.say_conditions.ensures.said in
    rw c.unsound_unless.ensures
    (unsound_names c.say_conditions.result (out c.args.out.now) (out c.say_conditions.new.out) c.in-Err-Plan.fault (λ (P : List ℕ → Type 0). OfPlan c.in-Err-Plan.bytes.items c.in-Err-Plan.fault (λ p. P (plan_lines p))) said)

pub returns-in-Err-Plan-clause-silent : goal.returns-in-Err-Plan-clause-silent
returns-in-Err-Plan-clause-silent g c = λ refusal.
    let out = g.K.Sink.state in
    let said = rw c.as_slice.ensures.value at c.say_conditions.ensures.said in
    let refused = rw c.unsound_unless.ensures at refusal in
    absurd (unsound_refuses c.say_conditions.result (out c.args.out.now) (out c.say_conditions.new.out) c.in-Err-Plan.fault (λ (P : List ℕ → Type 0). OfPlan c.in-Err-Plan.bytes.items c.in-Err-Plan.fault (λ p. P (plan_lines p))) said refused)

pub returns-in-Err-Plan-clause-complete : goal.returns-in-Err-Plan-clause-complete
returns-in-Err-Plan-clause-complete g c = λ runnable read put.
    let files = g.F.Files.state in
    let out = g.K.Sink.state in
    completes c.unsound_unless.result c.args.name.now (files c.args.files.now) (files c.read_checked.new.files) (out c.args.out.now) (out c.say_conditions.new.out)
    runnable read put (returns-in-Err-Plan-clause-input g c) (returns-in-Err-Plan-clause-sink g c)
