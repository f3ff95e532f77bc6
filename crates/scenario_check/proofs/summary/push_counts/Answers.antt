use Rattle.std.proofs.Common.{codes, string_bytes}
use Rattle.std.specs.Fmt.{decimal}
use Rattle.scenario_check.specs.Lines.{sizes_text}
use Rattle.scenario_check.proofs.Pushes.{two_and_two}
use Rattle.scenario_check.proofs.summary.push_counts.Goals as goal

pub returns : goal.returns
unfolding sizes_text
returns c =
    let p = c.args.plan.now.params in
    two_and_two c.push_two-2.result (string_bytes c.args.text.now) (string_bytes c.push_two.new.text) (string_bytes c.push_two-2.new.text)
    (codes "scenario cubs ") (decimal p.cubs) (codes " slots ") (decimal p.slots) (codes " starts ") (decimal c.args.starts) (codes " beats ") (decimal c.args.beats)
    c.in_ok-push_two.ensures c.push_two-2.ensures
