use Rattle.std.proofs.Common.{◌∙◌, sym}
use Rattle.std.proofs.lemmas.Result.{IfOk-weaker}
use Rattle.node_kit.specs.declared.course.Ran.{Ran}
use Rattle.ring_workers.specs.Runs.{IsRunOf}
use Rattle.ring_workers.proofs.Opening.{outs-named, ins-named}
use Rattle.ring_workers.proofs.run.run_workers.Goals as goal

pub run_named-requires-clause-outs : goal.run_named-requires-clause-outs
run_named-requires-clause-outs g c κs within = outs-named _ _ c.in_ok-outs.ensures

pub run_named-requires-clause-ins : goal.run_named-requires-clause-ins
run_named-requires-clause-ins g c κs within = ins-named _ _ c.in_ok-outs.ensures

pub returns-clause-journals : goal.returns-clause-journals
returns-clause-journals g c = IfOk-weaker _ _ _ (λ (r : Ran _) (h : IsRunOf _ _ _ _ _ _). h.kept.each_has_journal ∙ sym c.args.nodes.ok.0) c.run_named.ensures

pub returns-clause-nodes : goal.returns-clause-nodes
returns-clause-nodes g c = IfOk-weaker _ _ _ (λ (r : Ran _) (h : IsRunOf _ _ _ _ _ _). r.nodes.ok.0 ∙ h.kept.each_is_back ∙ sym c.args.nodes.ok.0) c.run_named.ensures

pub returns-clause-kept : goal.returns-clause-kept
returns-clause-kept g c = IfOk-weaker _ _ _ (λ (r : Ran _) (h : IsRunOf _ _ _ _ _ _). h.kept) c.run_named.ensures

pub returns-clause-carried : goal.returns-clause-carried
returns-clause-carried g c = IfOk-weaker _ _ _ (λ (r : Ran _) (h : IsRunOf _ _ _ _ _ _). h.carried) c.run_named.ensures

pub returns-clause-paced : goal.returns-clause-paced
returns-clause-paced g c = IfOk-weaker _ _ _ (λ (r : Ran _) (h : IsRunOf _ _ _ _ _ _). h.paced) c.run_named.ensures

pub returns-clause-timed : goal.returns-clause-timed
returns-clause-timed g c = IfOk-weaker _ _ _ (λ (r : Ran _) (h : IsRunOf _ _ _ _ _ _). h.timed) c.run_named.ensures
