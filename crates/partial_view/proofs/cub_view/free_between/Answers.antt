use Rattle.std.proofs.Common.{arith}
use Rattle.partial_view.proofs.cub_view.free_between.Goals as goal

pub returns-clause-others : goal.returns-clause-others
returns-clause-others c = λ due late known. c.longer.ensures due (λ behind. late) (c.cut_at.ensures.others due known)

pub returns-clause-new : goal.returns-clause-new
returns-clause-new c = λ pending. c.longer.ensures c.args.next (λ behind. absurd (omega (arith, behind))) c.cut_at.ensures.new
