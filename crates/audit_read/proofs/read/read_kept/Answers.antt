use Rattle.audit_read.proofs.Fronts.{fault_at_end, whole_is, text_is, empty_from, not_empty, not_whole}
use Rattle.audit_read.proofs.read.read_kept.Goals as goal
use Rattle.audit_read.proofs.read.read_kept.Goals.{in_default-via-in-Whole+else-is_empty, in_default-via-in_default}

pub returns-in_ok-finish-in-Whole-clause-writable : goal.returns-in_ok-finish-in-Whole-clause-writable
returns-in_ok-finish-in-Whole-clause-writable c =
    let done = c.in_ok-finish-in-Whole in
    let read = c.in_ok-read in
    whole_is c.args.bytes.now c.read_lines.new.draft read.read.0 read.read.1.now c.in-Whole.told done.field-0
    read.ensures.reached c.in-Whole.is done.ensures.parts done.ensures.block done.ensures.disks

pub returns-in_ok-finish-in-Whole-clause-exact : goal.returns-in_ok-finish-in-Whole-clause-exact
returns-in_ok-finish-in-Whole-clause-exact c =
    let done = c.in_ok-finish-in-Whole in
    let read = c.in_ok-read in
    text_is c.args.bytes.now c.read_lines.new.draft read.read.0 read.read.1.now c.in-Whole.told done.field-0
    read.ensures.reached c.in-Whole.is (empty_from read.read.1.now c.is_empty.result c.is_empty.ensures c.if-is_empty.true) done.ensures.parts

pub returns-in_default-clause-cause : goal.returns-in_default-clause-cause
returns-in_default-clause-cause c =
    let read = c.in_ok-read in
    let rest = read.read.1.now in
    fault_at_end c.args.bytes.now c.read_lines.new.draft read.read.0 rest read.ensures.reached read.ensures.last
    (elim c.in_default.branch [
      | in_default-via-in-Whole+else-is_empty w ↦ λ whole ended. not_empty rest w.is_empty.result w.is_empty.ensures w.if-is_empty.false ended
      | in_default-via-in_default w ↦ λ whole ended. not_whole c.read_lines.new.draft (λ t e. w.in_default.not-Whole t e) whole
    ])
