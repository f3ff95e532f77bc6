use Rattle.audit_text.proofs.Digits.{two_pushed}
use Rattle.audit_text.proofs.writing.push_two.Goals as goal

pub returns : goal.returns
returns c = two_pushed _ c.args.n _ _ _ _ c.requires.from c.requires.below c.digit.ensures c.digit-2.ensures c.extend_from_slice.ensures.items
