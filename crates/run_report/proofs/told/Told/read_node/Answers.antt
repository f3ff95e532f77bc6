use Rattle.std.proofs.Common.{◌≡◌, [], refl, ap, sym, ◌∙◌}
use Rattle.std.proofs.lemmas.Bool.{ltb-true, ltb-false}
use Rattle.std.proofs.lemmas.Result.{IfOk-weaker}
use Rattle.run_model.specs.Served.{journal_at}
use Rattle.run_report.specs.Tables.{deaths_in}
use Rattle.run_report.proofs.Fronts.{told_more, journal-there, journal-past}
use Rattle.run_report.proofs.Telling.{none_read, none_died}
use Rattle.run_report.proofs.told.Told.read_node.Goals as goal
use Rattle.run_report.proofs.told.Told.read_node.Goals.{In-Some, In-None}

its-journal : (c : In-Some) → c.in-Some.journal.now ≡ journal_at c.args.journals.now c.args.node
its-journal c =
    journal-there c.args.journals.now c.args.node _ (ltb-true _ _ (sym c.in-Some.ensures.lookup.0))
    c.in-Some.ensures.lookup.1

pub returns-in-Some-clause-told : goal.returns-in-Some-clause-told
returns-in-Some-clause-told c =
    let own = its-journal (goal.at.returns-in-Some-clause-told c).In-Some in
    IfOk-weaker c.read.result _ _ (λ _ read. told_more c.args.plan.now.params c.args.journals.now c.args.node _ _ _ _
    c.role_of.ensures own read c.requires) c.read.ensures.told

pub returns-in-Some-clause-deaths : goal.returns-in-Some-clause-deaths
returns-in-Some-clause-deaths c =
    let own = its-journal (goal.at.returns-in-Some-clause-deaths c).In-Some in
    IfOk-weaker c.read.result _ _ (λ _ died. died ∙ ap deaths_in own) c.read.ensures.deaths

no-journal : (c : In-None) → [] ≡ journal_at c.args.journals.now c.args.node
no-journal c = journal-past c.args.journals.now c.args.node (ltb-false _ _ (sym c.in-None.ensures.lookup.0))

pub returns-in-None-clause-told : goal.returns-in-None-clause-told
returns-in-None-clause-told c =
    let none = no-journal (goal.at.returns-in-None-clause-told c).In-None in
    told_more c.args.plan.now.params c.args.journals.now c.args.node _ _ _ _ refl none
    (none_read c.args.plan.now.params _ c.args.self.now) c.requires

pub returns-in-None-clause-deaths : goal.returns-in-None-clause-deaths
returns-in-None-clause-deaths c =
    let none = no-journal (goal.at.returns-in-None-clause-deaths c).In-None in
    c.new-in-None.ensures ∙ c.new.ensures.items ∙ none_died ∙ ap deaths_in none
