use Rattle.std.proofs.Common.{◌∙◌, ap, sym}
use Rattle.std.specs.List.{list_any}
use Rattle.mirror_schedule.specs.Pieces.{Pieces, is_of}
use Rattle.mirror_schedule.proofs.Listings.{untimed_any}
use Rattle.mirror_schedule.proofs.pieces.PieceView.has_of.Goals as goal

pub returns : goal.returns
returns c =
    c.has_of.ensures
    ∙ (sym (untimed_any (is_of c.args.instance) c.self.inside.items) ∙ ap (λ (m : Pieces). list_any (is_of c.args.instance) m.items) c.self.view_is)
