-- What a walk keeps of the entries that it has passed, so far as later Puts are judged by it.
use Rattle.std.specs.Prelude.{◌≡◌, ℕ, List, Option}
use Rattle.tiger_base.specs.declared.tenancy.Tenancy.{Tenancy}
use Rattle.run_model.specs.Schedule.{is_stopped}
use Rattle.run_model.specs.Moments.{Moment}
use Rattle.audit_frame.specs.Tables.{Tenancies, has_number, has_pair, seat_under, unless_by, seat_by}

-- a tenancy, unless its instance was stopped
abbrev pub unless_in : List ℕ → Option Tenancy → Option Tenancy
unless_in stopped = unless_by (λ v. has_number v stopped)

-- the tenancy of a slot after a Put: a stopped instance gets no seat
abbrev pub seat_after : List ℕ → Tenancies → Tenancy → ℕ → Option Tenancy
seat_after stopped = seat_by (λ v. has_number v stopped)

-- four tables tell the parts of a moment by which a Put is judged
pub record TellsPuts (seats : Tenancies) (gone puts : List ℕ) (beliefs : List (ℕ × ℕ)) (m : Moment) : Type 0 where
  pub holder : (slot : ℕ) → m.schedule.holder slot ≡ unless_in gone (seat_under slot seats)
  pub stopped : (v : ℕ) → is_stopped v m.schedule.stops ≡ has_number v gone
  pub put : (v : ℕ) → m.put v ≡ has_number v puts
  pub believed : (c d : ℕ) → m.believed c d ≡ has_pair c d beliefs
