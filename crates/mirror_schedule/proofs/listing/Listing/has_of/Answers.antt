use Rattle.std.proofs.Common.{ℕ, List, ◌∙◌, ap}
use Rattle.std.specs.List.{list_any}
use Rattle.tiger_base.specs.declared.tenancy.PieceState.{PieceState}
use Rattle.mirror_schedule.specs.Pieces.{is_of}
use Rattle.mirror_schedule.proofs.Listings.{owned}
use Rattle.mirror_schedule.proofs.listing.Listing.has_of.Goals as goal

pub returns : goal.returns
returns c =
    c.has_of.ensures
    ∙ (owned c.self.inside.rows.items c.self.inside.agenda c.self.invariant c.args.instance
    ∙ ap (λ (ys : List (PieceState × ℕ)). list_any (λ x. is_of c.args.instance x.0) ys) c.self.view_is)
