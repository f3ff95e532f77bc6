use Rattle.std.proofs.Common.{refl}
use Rattle.tiger_top.proofs.rows.audited_ends.Goals as goal

pub returns-clause-lines : goal.returns-clause-lines
returns-clause-lines c = refl

pub returns-clause-clause_exit : goal.returns-clause-clause_exit
returns-clause-clause_exit c = refl

pub returns-clause-text_line : goal.returns-clause-text_line
returns-clause-text_line c = refl

pub returns-clause-text_exit : goal.returns-clause-text_exit
returns-clause-text_exit c = refl

pub returns-clause-refuses : goal.returns-clause-refuses
returns-clause-refuses c = tt

pub returns-clause-refuses_text : goal.returns-clause-refuses_text
returns-clause-refuses_text c = tt

pub returns-clause-text : goal.returns-clause-text
returns-clause-text c = refl

pub returns-clause-run : goal.returns-clause-run
returns-clause-run c = refl

pub returns-clause-rule : goal.returns-clause-rule
returns-clause-rule c h = h

pub returns-clause-no_tigers : goal.returns-clause-no_tigers
returns-clause-no_tigers c h = h

pub returns-clause-no_disks : goal.returns-clause-no_disks
returns-clause-no_disks c h = h

pub returns-clause-no_check : goal.returns-clause-no_check
returns-clause-no_check c h = h
