use Rattle.std.proofs.Common.{◌∙◌, ℕ, ap, nat_lt}
use Rattle.mirror_schedule.specs.Pieces.{is_in, is_same}
use Rattle.mirror_schedule.proofs.InRows.{counted_any}
use Rattle.mirror_schedule.proofs.pieces.PieceView.remove.Goals as goal

pub returns-clause-found : goal.returns-clause-found
unfolding is_in
returns-clause-found c = ap (λ (n : ℕ). nat_lt 0 n) c.leave_out.ensures.count ∙ counted_any (is_same c.args.piece) c.args.self.now.items
