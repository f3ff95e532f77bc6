use Rattle.std.proofs.Common.{sym, ◌∙◌}
use Rattle.tiger_input.proofs.WordLists.{three_words, IsRun-from}
use Rattle.tiger_input.proofs.words.run_in.Goals as goal

pub returns-in-Some : goal.returns-in-Some
returns-in-Some c =
    let all = three_words c.args.words.now c.command-item.result c.name-item.result c.workers-item.result c.in-len3.len_at_least c.in-len3.len_below c.command-item.is c.name-item.is c.workers-item.is in
    rw c.as_str-in-Some.ensures.value (IsRun-from c.args.words.now c.command-item.result c.name-item.result c.workers-item.result c.in-Some.workers all (sym c.as_str.ensures.value ∙ c.is_run.ensures.0 c.if-not-is_run.false) (sym c.as_str-in-len3.ensures.value ∙ c.in-Some.ensures.2) c.in-Some.ensures.0 c.in-Some.ensures.1)
