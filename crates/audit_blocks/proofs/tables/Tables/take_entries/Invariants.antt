use Rattle.std.proofs.Common.{List, ◌++◌, take}
use Rattle.run_facts.specs.Order.{Noted}
use Rattle.audit_blocks.specs.Entries.{journal_noted}
use Rattle.audit_blocks.specs.Told.{AreToldBy}
use Rattle.audit_blocks.proofs.tables.Tables.take_entries.Given as goal

-- whatever they told of before, they tell of the entries so far too
abbrev pub invariant-loop-entry : goal.invariant-loop-entry
invariant-loop-entry l = record {
  told : (log : List Noted) → AreToldBy l.plan.params log l.fn.self
      → AreToldBy l.plan.params (log ++ journal_noted l.node.0 (take l.entry-index l.entries)) l.self;
}
