use Rattle.std.proofs.Common.{◌∙◌, ℕ, List, ap, sym, is_some, nat_le}
use Rattle.tiger_base.specs.declared.tenancy.PieceState.{PieceState}
use Rattle.mirror_schedule.specs.Sorted.{first_if}
use Rattle.mirror_schedule.proofs.Agendas.{front_due, front_none_due}
use Rattle.mirror_schedule.proofs.agenda.Agenda.is_due.Goals as goal

pub returns-in-Some : goal.returns-in-Some
returns-in-Some c =
    front_due c.args.time c.self.inside.ranks.keys c.in-Some.front (sym c.in-Some.is ∙ c.self.invariant)
    ∙ ap (λ (xs : List (PieceState × ℕ)). is_some (first_if (λ x. nat_le x.1 c.args.time) xs)) c.self.view_is

pub returns-in-None : goal.returns-in-None
returns-in-None c =
    front_none_due c.args.time c.self.inside.ranks.keys (sym c.in-None.is ∙ c.self.invariant)
    ∙ ap (λ (xs : List (PieceState × ℕ)). is_some (first_if (λ x. nat_le x.1 c.args.time) xs)) c.self.view_is
