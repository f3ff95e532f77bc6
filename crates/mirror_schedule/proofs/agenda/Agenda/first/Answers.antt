use Rattle.std.proofs.Common.{◌∙◌, ℕ, List, Some, true, ap}
use Rattle.tiger_base.specs.declared.tenancy.PieceState.{PieceState}
use Rattle.mirror_schedule.specs.Sorted.{first_if}
use Rattle.mirror_schedule.proofs.Agendas.{first_mapped, none_mapped}
use Rattle.mirror_schedule.proofs.agenda.Agenda.first.Goals as goal

pub returns-in-Some : goal.returns-in-Some
returns-in-Some c =
    ap (λ (x : PieceState × ℕ). Some x) c.timed_of.ensures
    ∙ (first_mapped c.self.inside.ranks.keys c.in-Some.rank.now c.in-Some.ensures.first ∙ ap (λ (xs : List (PieceState × ℕ)). first_if (λ x. true) xs) c.self.view_is)

pub returns-in-None : goal.returns-in-None
returns-in-None c =
    none_mapped c.self.inside.ranks.keys (λ l. cc (c.in-None.ensures.variant.1 l)) ∙ ap (λ (xs : List (PieceState × ℕ)). first_if (λ x. true) xs) c.self.view_is
