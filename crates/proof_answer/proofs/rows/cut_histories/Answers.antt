use Rattle.std.proofs.Common.{ℕ, ap, arith}
use Rattle.run_facts.specs.Events.{NodeEvent, is_death, stamp_at}
use Rattle.run_facts.specs.Events.NodeEvent.{Does, Ends, Dies, Returns}
use Rattle.proof_answer.proofs.rows.cut_histories.Goals as goal

-- how many messages a death leaves
abbrev sends_in : NodeEvent ℕ → ℕ
sends_in (Does i) = 0
sends_in (Ends i sends) = sends
sends_in (Dies stamp) = 0
sends_in (Returns stamp) = 0

pub returns-clause-more_sends : goal.returns-clause-more_sends
returns-clause-more_sends c p h =
    let shown = ap sends_in (h.events 0 4 (omega arith) (omega arith)) in omega (arith, shown)

pub returns-clause-whole_step : goal.returns-clause-whole_step
returns-clause-whole_step c p h =
    let shown = ap (λ (e : NodeEvent ℕ). is_death e) (h.events 0 4 (omega arith) (omega arith)) in absurd (cc)

pub returns-clause-early_return : goal.returns-clause-early_return
returns-clause-early_return c p h =
    let shown = ap (λ (e : NodeEvent ℕ). (stamp_at e).beat) (h.events 1 2 (omega arith) (omega arith)) in
    omega (arith, shown)
