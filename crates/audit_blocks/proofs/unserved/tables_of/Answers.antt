use Rattle.std.proofs.Common.{List, subst}
use Rattle.std.proofs.lemmas.Result.{IfOk-weaker}
use Rattle.node_kit.specs.declared.journal.Entry.{Entry}
use Rattle.audit_blocks.specs.Entries.{journals_noted}
use Rattle.audit_blocks.specs.Told.{AreToldBy}
use Rattle.audit_blocks.proofs.unserved.tables_of.Goals as goal

pub returns : goal.returns
returns c =
    let p = c.args.kept.now.course.plan.params in
    IfOk-weaker c.of.result _ _ (λ tables told.
    subst (λ (journals : List (List Entry)). AreToldBy p (journals_noted 0 journals) tables) c.as_slice.ensures told) c.of.ensures
