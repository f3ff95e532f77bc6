use Rattle.std.proofs.Common.{refl}
use Rattle.node_kit.proofs.worked.insertions.Goals as goal

pub returns-clause-lost : goal.returns-clause-lost
returns-clause-lost c t ahead told = refl

pub returns-clause-unplaced : goal.returns-clause-unplaced
returns-clause-unplaced c t ahead told = refl

pub returns-clause-whole : goal.returns-clause-whole
returns-clause-whole c t ahead told = refl

pub returns-clause-second : goal.returns-clause-second
returns-clause-second c t ahead told = refl

pub returns-clause-for_dead : goal.returns-clause-for_dead
returns-clause-for_dead c t told = refl

pub returns-clause-kept : goal.returns-clause-kept
returns-clause-kept c t ahead told e = absurd (cc)
