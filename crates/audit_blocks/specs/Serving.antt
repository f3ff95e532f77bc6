-- Whether a visit was served, as tests.
use Rattle.std.specs.Prelude.{ℕ, ◌+◌, ◌*◌, Bool, ◌||◌, not, nat_le}
use Rattle.tiger_base.specs.declared.tenancy.Tenancy.{Tenancy}
use Rattle.slot_plan.specs.Times.{due, time_of}
use Rattle.node_kit.specs.declared.course.Kept.{Kept}
use Rattle.run_model.specs.Tests.{came, was_stopped, has_excuse, some_tenancy}

-- the true time at which the last beat of a run ends
abbrev pub end_of_run : Kept → ℕ
end_of_run k = time_of k.course.plan.params k.course.beats

-- a visit of a tenancy is settled then
abbrev pub is_settled_at : Kept → Tenancy → ℕ → Bool
is_settled_at k t visit =
    nat_le (due k.course.plan.params t.slot.0 visit + 2 * k.course.plan.params.play) (end_of_run k)

-- nothing is asked of a visit and of all later ones
unfoldable pub needs_none_from : Kept → Tenancy → ℕ → Bool
needs_none_from k t visit = not (is_settled_at k t visit) || was_stopped k.course.plan.params k.journals t visit

-- a visit of an instance was delivered or is excused
unfoldable pub is_served_at : Kept → ℕ → ℕ → Bool
is_served_at k v visit =
    some_tenancy k.journals v visit (came k.course.plan.params k.catalogue k.journals visit)
    || some_tenancy k.journals v visit (has_excuse k.course.plan.params k.journals visit)
