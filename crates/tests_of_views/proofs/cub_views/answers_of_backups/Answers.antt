use Rattle.std.proofs.Common.{ap}
use Rattle.tiger_base.specs.declared.tenancy.Kind.{Kind}
use Rattle.tiger_base.specs.Kinds.{is_own}
use Rattle.partial_view.specs.Views.{Seen}
use Rattle.tests_of_views.proofs.Asked.{two_asked}
use Rattle.tests_of_views.proofs.cub_views.answers_of_backups.Goals as goal

pub set_asked_before-requires : goal.set_asked_before-requires
set_asked_before-requires c =
    two_asked c.record.result c.record-2.result c.new-view.result c.add.new.self c.add-2.new.self c.args.asked_before (ap (λ (s : Seen). s.lines) c.new-view.ensures)
    (ap (λ (k : Kind). is_own k) c.record.ensures.kind) (ap (λ (k : Kind). is_own k) c.record-2.ensures.kind) c.in_ok-add.ensures.ok c.in_ok-add-2.ensures.ok
