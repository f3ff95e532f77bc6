-- One name to unfold where a proof computes on a worked log, and what such a log says of its few entries.
use Rattle.std.proofs.Common.{◌≡◌, ℕ, zero, suc, ◌<◌, IsTrue, List, sym, subst, ⊎_elim, arith}
use Rattle.std.proofs.lemmas.Bool.{cases_eq}
use Rattle.tiger_base.specs.declared.tenancy.Ask.{Ask}
use Rattle.slot_plan.specs.Samples.{small}
use Rattle.slot_plan.specs.Times.{time_of, first_due, due, cub_of, disk_of, in_window, takeover}
use Rattle.stripe_layout.specs.Layout.{block_span}
use Rattle.stripe_layout.specs.Places.{place_of}
use Rattle.mirror_pieces.specs.Pieces.{piece_start, piece_end, piece_of, leaving}
use Rattle.node_kit.specs.declared.journal.Entry.{Entry}
use Rattle.node_kit.specs.Life.{acts}
use Rattle.run_facts.specs.Carried.{sent_on, got_on}
use Rattle.run_model.specs.Schedule.{after_entry}
use Rattle.run_model.specs.Views.{same_record}
use Rattle.run_model.specs.Moments.{moment_at, next_moment}
use Rattle.run_model.specs.Orders.{IsOrdered}
use Rattle.run_model.specs.Served.{IsDelivered, journal_at, wholes_got, pieces_got}
use Rattle.run_model.specs.Excuses.{IsExcused}
use Rattle.run_model.specs.Samples.{IsOfTen, ten, begins}
use Rattle.run_model.specs.Tests.{some_tenancy, was_sent, came_whole, piece_came, came_in_pieces, came, piece_is_lost, lost_in_pieces, lost_in_death, was_stopped, has_excuse, is_timed}
use Rattle.run_model.proofs.Deliveries.{delivered}
use Rattle.run_model.proofs.Reasons.{excused}

-- `unfolding on_samples` lets a proof compute each definition of this crate on a log that is written out
unfoldable pub on_samples : Unit {0}
unfolding time_of first_due due cub_of disk_of in_window takeover block_span place_of piece_start piece_end piece_of leaving after_entry same_record moment_at next_moment journal_at wholes_got pieces_got was_sent came_whole piece_came came_in_pieces came piece_is_lost lost_in_pieces lost_in_death was_stopped has_excuse acts sent_on got_on is_timed
on_samples = tt

-- a visit is delivered, or excused, in these journals if the test says so, and the other way round
pub by-test : (s : IsOfTen) (journals : List (List Entry)) → IsTrue (some_tenancy journals 0 0 (came small (ten s) journals 0))
    → IsDelivered small (ten s) journals 0 0
by-test s journals h = (delivered small (ten s) journals 0 0).0 h

pub to-test : (s : IsOfTen) (journals : List (List Entry)) → IsDelivered small (ten s) journals 0 0
    → IsTrue (some_tenancy journals 0 0 (came small (ten s) journals 0))
to-test s journals h = (delivered small (ten s) journals 0 0).1 h

pub excuse-by-test : (visit : ℕ) (journals : List (List Entry)) → IsTrue (some_tenancy journals 0 visit (has_excuse small journals visit))
    → IsExcused small journals 0 visit
excuse-by-test visit journals h = (excused small journals 0 visit).0 h

pub excuse-to-test : (visit : ℕ) (journals : List (List Entry)) → IsExcused small journals 0 visit
    → IsTrue (some_tenancy journals 0 visit (has_excuse small journals visit))
excuse-to-test visit journals h = (excused small journals 0 visit).1 h

-- if one start alone is ordered, what is ordered is that
pub only-order : (a b : Ask) → IsOrdered (begins a) b → a ≡ b
only-order a b o = ⊎_elim (λ e. cc) (λ n. absurd n) o

-- what holds of each of the eight cubs
abbrev AllBelow : (ℕ → Type 0) → ℕ → Type 0
AllBelow P zero = Unit {0}
AllBelow P (suc n) = P n × AllBelow P n

below : (P : ℕ → Type 0) (n : ℕ) → AllBelow P n → (c : ℕ) → c < n → P c
below P zero h c l = absurd (omega arith)
below P (suc n) h c l = ⊎_elim
    (λ (e : c ≡ n). subst P (sym e) h.0)
    (λ (ne : c ≡ n → ⊥). below P n h.1 c (omega arith))
    (cases_eq c n)

pub of-eight : (P : ℕ → Type 0) → P 0 → P 1 → P 2 → P 3 → P 4 → P 5 → P 6 → P 7 → (c : ℕ) → c < 8 → P c
of-eight P p0 p1 p2 p3 p4 p5 p6 p7 = below P 8 (p7, (p6, (p5, (p4, (p3, (p2, (p1, (p0, tt))))))))
