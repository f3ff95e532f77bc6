use Rattle.std.proofs.Common.{List, ◌++◌, sym, subst, append-nil}
use Rattle.std.proofs.lemmas.List.{take_all}
use Rattle.node_kit.specs.declared.journal.Entry.{Entry}
use Rattle.run_facts.specs.Order.{Noted}
use Rattle.audit_blocks.specs.Entries.{journal_noted}
use Rattle.audit_blocks.specs.Told.{AreToldBy}
use Rattle.audit_blocks.proofs.Noting.{entry_taken}
use Rattle.audit_blocks.proofs.tables.Tables.take_entries.Goals as goal

pub loop-entry-init : goal.loop-entry-init
loop-entry-init c = record {
  told = λ log h. subst (λ (told : List Noted). AreToldBy c.args.plan.now.params told c.args.self.now) (sym (append-nil log)) h;
}

pub loop-entry-preserved : goal.loop-entry-preserved
loop-entry-preserved c = record {
  told = λ log h. entry_taken c.args.plan.now.params c.args.node.0 c.loop-entry.entry-index c.args.entries.now _ _ _ log
      c.loop-entry-test.true c.in_ok-take.ensures (c.loop-entry.invariant.told log h);
}

pub returns : goal.returns
returns c = λ log h.
    subst (λ (es : List Entry). AreToldBy c.args.plan.now.params (log ++ journal_noted c.args.node.0 es) c.loop-entry.self)
    (take_all c.loop-entry.entry-index c.args.entries.now c.loop-entry-test.false) (c.loop-entry.invariant.told log h)
