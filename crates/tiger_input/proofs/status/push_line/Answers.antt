use Rattle.std.proofs.Common.{◌++◌, codes, string_bytes}
use Rattle.tiger_input.specs.Statuses.{input_text}
use Rattle.tiger_input.proofs.Texts.{pushed, pushed_then}
use Rattle.tiger_input.proofs.status.push_line.Goals as goal

pub returns-in_ok-push_input-in-ReadFault : goal.returns-in_ok-push_input-in-ReadFault
returns-in_ok-push_input-in-ReadFault c =
    rw c.in-ReadFault.is (pushed_then c.push_str-in-ReadFault.result (string_bytes c.args.text.now) (string_bytes c.push_input-in-ReadFault.new.text) (string_bytes c.push_str-in-ReadFault.new.self)
    (codes "tiger: read fault " ++ input_text c.in-ReadFault.file) (codes "\n") c.in_ok-push_input-in-ReadFault.ensures c.push_str-in-ReadFault.ensures.bytes)

pub returns-in-NoMemory : goal.returns-in-NoMemory
returns-in-NoMemory c =
    rw c.in-NoMemory.is (pushed c.push_str-in-NoMemory.result (string_bytes c.args.text.now) (string_bytes c.push_str-in-NoMemory.new.self) (codes "tiger: no memory\n") c.push_str-in-NoMemory.ensures.bytes)
