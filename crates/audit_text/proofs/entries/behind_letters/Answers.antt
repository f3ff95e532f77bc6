use Rattle.std.proofs.lemmas.Bool.{eqb-true, eq-eqb}
use Rattle.std.proofs.lemmas.Slice.Eq.{strip_prefix_is}
use Rattle.audit_text.specs.Words.{letters}
use Rattle.audit_text.proofs.Taking.{letters_taken}
use Rattle.audit_text.proofs.entries.behind_letters.Goals as goal

pub returns : goal.returns
returns c =
    letters_taken _ c.args.bytes.now c.letters.result.now (letters c.args.word) c.strip_prefix.result c.letters.ensures
    (strip_prefix_is (λ a b. (eqb-true a b, eq-eqb a b)) c.args.bytes.now c.letters.result.now c.strip_prefix.result c.strip_prefix.ensures.cases)
