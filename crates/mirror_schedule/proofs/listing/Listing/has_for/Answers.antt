use Rattle.std.proofs.Common.{ℕ, List, ◌∙◌, ap}
use Rattle.std.specs.List.{list_any}
use Rattle.tiger_base.specs.Records.{same_want, want_of_piece}
use Rattle.tiger_base.specs.declared.tenancy.PieceState.{PieceState}
use Rattle.mirror_schedule.specs.Timed.{untimed}
use Rattle.mirror_schedule.proofs.Listings.{asked}
use Rattle.mirror_schedule.proofs.listing.Listing.has_for.Goals as goal

pub returns : goal.returns
returns c =
    c.has_for.ensures
    ∙ (asked c.self.inside.rows.items c.self.inside.agenda c.self.invariant c.args.want.now
    ∙ ap (λ (ys : List (PieceState × ℕ)). list_any (λ x. same_want c.args.want.now (want_of_piece x)) (untimed ys)) c.self.view_is)
