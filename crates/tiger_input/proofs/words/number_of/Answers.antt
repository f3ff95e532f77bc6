use Rattle.std.proofs.Common.{sym, ◌∙◌}
use Rattle.std.proofs.lemmas.Bool.{false≢true}
use Rattle.tiger_input.proofs.DecimalLemmas.{decimal-parsed, IsPlainWord-decimal, decimal-refused}
use Rattle.tiger_input.proofs.words.number_of.Goals as goal

pub returns-then-is_plain : goal.returns-then-is_plain
returns-then-is_plain c = decimal-parsed c.args.word.now c.parse.result c.in-Ok.number c.parse.ensures.value.0 c.in-Ok.is (rw c.as_bytes.ensures.value at (c.is_plain.ensures.0 c.if-is_plain.true))

pub returns-else-is_plain : goal.returns-else-is_plain
returns-else-is_plain c = λ n lt is. false≢true (sym c.if-is_plain.false ∙ c.is_plain.ensures.1 (rw (c.as_bytes.ensures.value, is) (IsPlainWord-decimal n lt)))

pub returns-in-Err : goal.returns-in-Err
returns-in-Err c = λ n lt is. decimal-refused c.args.word.now c.parse.result c.in-Err.field-0 n c.parse.ensures.value.0 c.in-Err.is lt is
