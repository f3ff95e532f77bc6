use Rattle.std.proofs.Common.{◌≡◌, ◌∙◌, ◌++◌, List, ap, rules}
use Rattle.std.proofs.lemmas.Fn.{always_returns_same}
use Rattle.node_kit.specs.declared.journal.Entry.{Entry}
use Rattle.audit_frame.specs.declared.lines.Line.{Line}
use Rattle.audit_frame.specs.Lines.{told_by, journals_told}
use Rattle.audit_frame.proofs.Gathered.{sorted_lines}
use Rattle.audit_frame.proofs.lines.lines_of.Goals as goal

pub returns : goal.returns
returns c =
    let key = λ (l : Line). l.entry.now.stamp.beat in
    let beats = c.args.kept.now.course.beats in
    let calls = always_returns_same _ (λ a r. r ≡ key a.0.now) _ (λ a r q k. search rules) in
    let told = c.in_ok-push_journals.ensures
    ∙ ap (λ (q : List Line). told_by q ++ journals_told beats 0 c.as_slice.result.now) c.new-lines.ensures.items
    ∙ ap (λ (js : List (List Entry)). journals_told beats 0 js) c.as_slice.ensures in
    sorted_lines beats c.args.kept.now.journals _ _ told
    c.in_ok-sort_by_cached_key.ensures.permutation (c.in_ok-sort_by_cached_key.ensures.sorted key calls) (c.in_ok-sort_by_cached_key.ensures.stable key calls)
