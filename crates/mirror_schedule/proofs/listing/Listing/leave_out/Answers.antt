use Rattle.std.proofs.Common.{ℕ, List, ◌∙◌, ap, count_by, not, sym}
use Rattle.std.specs.List.{filter}
use Rattle.tiger_base.specs.declared.tenancy.PieceState.{PieceState}
use Rattle.mirror_schedule.specs.Choices.{covers}
use Rattle.mirror_schedule.proofs.Listings.{count_struck, listing_left, seen_struck}
use Rattle.mirror_schedule.proofs.listing.Listing.leave_out.Goals as goal

-- nothing is wanted
pub invariant_of-self : goal.invariant_of-self
invariant_of-self c =
    listing_left c.self.inside.rows.items c.self.inside.agenda c.self.invariant c.args.wanted.now _ c.strike_out-count.ensures.own c.strike_out-count.ensures.others

pub returns-then-count-eq0-clause-count : goal.returns-then-count-eq0-clause-count
returns-then-count-eq0-clause-count c =
    sym c.if-count-eq0.true
    ∙ (c.strike_out-count.ensures.count
    ∙ (count_struck c.self.inside.rows.items c.self.inside.agenda c.self.invariant c.args.wanted.now
    ∙ ap (λ (ys : List (PieceState × ℕ)). count_by (λ x. covers c.args.wanted.now x.0) ys) c.self.view_is))

pub returns-then-count-eq0-clause-left : goal.returns-then-count-eq0-clause-left
returns-then-count-eq0-clause-left c =
    seen_struck c.self.inside.rows.items c.self.inside.agenda c.self.invariant c.args.wanted.now _ c.strike_out-count.ensures.own c.strike_out-count.ensures.others
    ∙ ap (λ (ys : List (PieceState × ℕ)). filter (λ x. not (covers c.args.wanted.now x.0)) ys) c.self.view_is

-- something is
pub drop_gone-requires : goal.drop_gone-requires
drop_gone-requires c =
    listing_left c.self.inside.rows.items c.self.inside.agenda c.self.invariant c.args.wanted.now _ c.strike_out-count.ensures.own c.strike_out-count.ensures.others

pub invariant_of-self-2 : goal.invariant_of-self-2
invariant_of-self-2 c = c.drop_gone.ensures.listing

pub returns-clause-count : goal.returns-clause-count
returns-clause-count c =
    c.strike_out-count.ensures.count
    ∙ (count_struck c.self.inside.rows.items c.self.inside.agenda c.self.invariant c.args.wanted.now
    ∙ ap (λ (ys : List (PieceState × ℕ)). count_by (λ x. covers c.args.wanted.now x.0) ys) c.self.view_is)

pub returns-clause-left : goal.returns-clause-left
returns-clause-left c =
    c.drop_gone.ensures.same
    ∙ (seen_struck c.self.inside.rows.items c.self.inside.agenda c.self.invariant c.args.wanted.now _ c.strike_out-count.ensures.own c.strike_out-count.ensures.others
    ∙ ap (λ (ys : List (PieceState × ℕ)). filter (λ x. not (covers c.args.wanted.now x.0)) ys) c.self.view_is)
