use Rattle.std.proofs.Common.{codes, string_bytes}
use Rattle.std.specs.Fmt.{decimal}
use Rattle.scenario_check.specs.Lines.{viewers_text}
use Rattle.scenario_check.proofs.Pushes.{two_and_one}
use Rattle.scenario_check.proofs.summary.push_viewers.Goals as goal

pub returns : goal.returns
unfolding viewers_text
returns c =
    let crowd = c.args.crowd in
    two_and_one c.push_number.result (string_bytes c.args.text.now) (string_bytes c.push_two.new.text) (string_bytes c.push_number.new.text)
    (codes "warning viewers ") (decimal crowd.viewers) (codes " slots ") (decimal c.args.plan.now.params.slots) (codes " beat ") (decimal crowd.beat)
    c.in_ok-push_two.ensures c.push_number.ensures
