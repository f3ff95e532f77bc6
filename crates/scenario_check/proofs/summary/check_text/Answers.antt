use Rattle.std.proofs.lemmas.Result.{IfOk-weaker}
use Rattle.scenario_check.proofs.summary.check_text.Goals as goal

pub returns : goal.returns
returns c =
    IfOk-weaker c.catalogue_text.result _ _
    (λ text holds. record { catalogue = c.in_ok-catalogue.catalogue; is = c.in_ok-catalogue.ensures; holds = holds }) c.catalogue_text.ensures
