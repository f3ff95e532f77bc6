use Rattle.std.proofs.Common.{◌∙◌, ap}
use Rattle.std.specs.List.{list_any}
use Rattle.tiger_base.specs.Records.{same_want, want_of_piece}
use Rattle.mirror_schedule.specs.Pieces.{Pieces}
use Rattle.mirror_schedule.proofs.pieces.PieceView.has_for.Goals as goal

pub returns : goal.returns
returns c = c.has_for.ensures ∙ ap (λ (m : Pieces). list_any (λ x. same_want c.args.want.now (want_of_piece x)) m.items) c.self.view_is
