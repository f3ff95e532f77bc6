use Rattle.audit_blocks.proofs.Opening.{nothing_told}
use Rattle.audit_blocks.proofs.tables.Tables.new.Goals as goal

pub returns : goal.returns
returns c = λ p. nothing_told p _ c.new.ensures c.new-2.ensures c.new-3.ensures c.new-4.ensures c.new-5.ensures c.new-6.ensures c.new-7.ensures
    c.new-8.ensures c.new-9.ensures c.new-10.ensures
