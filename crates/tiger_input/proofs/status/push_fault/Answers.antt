use Rattle.std.proofs.Common.{codes, string_bytes}
use Rattle.tiger_input.specs.Statuses.{worded}
use Rattle.tiger_input.proofs.Texts.{four_pushed}
use Rattle.tiger_input.proofs.status.push_fault.Goals as goal

pub returns : goal.returns
returns c =
    let fault = c.args.fault.now in
    four_pushed c.push_number-4.result (string_bytes c.args.text.now) (string_bytes c.push_number.new.text) (string_bytes c.push_number-2.new.text) (string_bytes c.push_number-3.new.text) (string_bytes c.push_number-4.new.text)
    (worded (codes "tiger: scenario rule ") fault.rule) (worded (codes " item ") fault.item) (worded (codes " left ") fault.left) (worded (codes " right ") fault.right)
    c.in_ok-push_number.ensures c.in_ok-push_number-2.ensures c.in_ok-push_number-3.ensures c.push_number-4.ensures
