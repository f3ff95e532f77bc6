use Rattle.std.proofs.Common.{◌≡◌, ◌++◌, drop}
use Rattle.audit_text.specs.Texts.{node_items, text_in}
use Rattle.audit_text.proofs.text.push_nodes.Given as goal

-- with what is left, it will be the whole
abbrev pub invariant-loop-journal : goal.invariant-loop-journal
invariant-loop-journal l =
    (l.node ≡ l.journal-index)
    × (l.text.items ++ text_in (node_items l.node (drop l.journal-index l.journals)) ≡ l.fn.text.items ++ text_in (node_items 0 l.journals))
