use Rattle.std.proofs.Common.{ℕ, List, ◌∙◌, ap, find, sym}
use Rattle.tiger_base.specs.declared.tenancy.PieceState.{PieceState}
use Rattle.mirror_schedule.specs.Listings.{piece_stands}
use Rattle.mirror_schedule.specs.TimedPieces.{timed_behind}
use Rattle.mirror_schedule.proofs.InRows.{find_left}
use Rattle.mirror_schedule.proofs.listing.Listing.next_behind.Goals as goal

pub returns : goal.returns
returns c =
    c.next_standing.ensures
    ∙ (sym (find_left (piece_stands c.self.inside.rows.items) (timed_behind c.args.given) c.self.inside.agenda)
    ∙ ap (λ (ys : List (PieceState × ℕ)). find (timed_behind c.args.given) ys) c.self.view_is)
