use Rattle.std.proofs.Common.{[], refl}
use Rattle.tiger_input.specs.Samples.{film}
use Rattle.tiger_input.proofs.rows.telling_all.Goals as goal

pub returns-clause-no_files : goal.returns-clause-no_files
returns-clause-no_files c name none = absurd (cc)

pub returns-clause-real_files : goal.returns-clause-real_files
returns-clause-real_files c all = all [] refl

pub returns-clause-one_untold : goal.returns-clause-one_untold
returns-clause-one_untold c all = all film refl
