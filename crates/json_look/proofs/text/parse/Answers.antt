use Rattle.std.proofs.Common.{sym, ◌∙◌}
use Rattle.std.proofs.lemmas.Bool.{false≢true}
use Rattle.json_look.proofs.JsonLemmas.{json_of-text, json_of-none}
use Rattle.json_look.proofs.text.parse.Goals as goal

pub returns-in-Ok : goal.returns-in-Ok
returns-in-Ok c = sym (json_of-text _ _ c.in-Ok.ensures.ok.0 c.in-Ok.ensures.ok.1)

pub returns-else-is_memory : goal.returns-else-is_memory
returns-else-is_memory c =
    let refused = c.in-Err.ensures.err (λ m. absurd (false≢true (sym c.if-is_memory.false ∙ c.is_memory.ensures.1 m))) in
    sym (json_of-none c.args.bytes.now (λ text. refused text))
