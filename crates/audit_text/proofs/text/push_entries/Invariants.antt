use Rattle.std.proofs.Common.{◌≡◌, ◌++◌, drop}
use Rattle.audit_text.specs.Texts.{entry_items, text_in}
use Rattle.audit_text.proofs.text.push_entries.Given as goal

-- with what is left, it will be the whole
abbrev pub invariant-loop-entry : goal.invariant-loop-entry
invariant-loop-entry l =
    l.text.items ++ text_in (entry_items (drop l.entry-index l.entries)) ≡ l.fn.text.items ++ text_in (entry_items l.entries)
