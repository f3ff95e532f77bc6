use Rattle.std.proofs.Common.{codes, string_bytes}
use Rattle.tiger_input.specs.Statuses.{worded}
use Rattle.tiger_audit.specs.Statuses.{line_words}
use Rattle.tiger_audit.proofs.Texts.{three_pushed}
use Rattle.tiger_audit.proofs.place.push_tick.Goals as goal

pub returns : goal.returns
returns c =
    three_pushed c.push_line.result (string_bytes c.args.text.now) (string_bytes c.push_number.new.text) (string_bytes c.push_number-2.new.text) (string_bytes c.push_line.new.text)
    (worded (codes "the tick of cub ") c.args.cub.0) (worded (codes " in beat ") c.args.beat) (line_words (codes ", behind line ") c.args.line)
    c.in_ok-push_number.ensures c.in_ok-push_number-2.ensures c.push_line.ensures
