use Rattle.std.proofs.Common.{ℕ, List, subst, ◌∙◌, arith}
use Rattle.run_report.specs.Text.{summary_text}
use Rattle.tiger_run.specs.Ending.{IsRunOf}
use Rattle.tiger_run.proofs.Endings.{few_orders, EndsSink-wrote}
use Rattle.tiger_run.proofs.top.run_made.Goals as goal

pub summary_of-requires-clause-orders : goal.summary_of-requires-clause-orders
summary_of-requires-clause-orders g c =
    let few = few_orders _ c.in-Ok.field-0.scenario c.in-Ok.field-0.library _ c.in-Ok.ensures.sound c.in-Ok-run_with_outcomes.ensures.ran in
    omega arith

pub returns-clause-ran : goal.returns-clause-ran
returns-clause-ran g c =
    let made = c.in-Ok.field-0 in
    let run : IsRunOf g.row.G.Denot made.scenario made.library c.in-Ok-run_with_outcomes.run'.kept = record {
      sound = c.in-Ok.ensures.sound;
      ran = c.in-Ok-run_with_outcomes.ensures.ran;
      only = c.in-Ok-run_with_outcomes.ensures.only;
      world = c.in-Ok-run_with_outcomes.ensures.world;
      claims = c.in-Ok-run_with_outcomes.ensures.claims;
      belief_in_time = c.in-Ok-run_with_outcomes.ensures.belief_in_time;
    } in
    record {
      scenario = made.scenario;
      made = c.in-Ok.ensures.said;
      run = subst (λ (l : List (List ℕ)). IsRunOf g.row.G.Denot made.scenario l c.in-Ok-run_with_outcomes.run'.kept) c.in-Ok.ensures.library run;
    }

pub returns-clause-sink : goal.returns-clause-sink
returns-clause-sink g c =
    EndsSink-wrote (g.K.Sink.state c.args.out.now) (g.K.Sink.state c.written.new.out) summary_text c.in-Ok-run_with_outcomes.run'.kept c.as_slice-2.result.now c.written.result (c.as_slice-2.ensures.value ∙ c.in-Ok-summary_of.ensures) c.written.ensures.wrote
