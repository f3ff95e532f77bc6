use Rattle.audit_text.proofs.Digits.{one_pushed}
use Rattle.audit_text.proofs.writing.push_one.Goals as goal

pub returns : goal.returns
returns c = one_pushed _ c.args.n _ _ _ c.requires c.digit.ensures c.extend_from_slice.ensures.items
