-- What journals tell of each instance and visit, whatever the deaths are.
use Rattle.std.specs.Prelude.{◌≡◌, ℕ, ◌==◌, List, ◌++◌, is_some, find, option_map, if◌then◌else◌}
use Rattle.std.specs.List.{flat_map}
use Rattle.slot_plan.specs.declared.params.Params.{Params}
use Rattle.node_kit.specs.Links.{links_of, controller_of, viewers_of}
use Rattle.node_kit.specs.declared.journal.Entry.{Entry}
use Rattle.run_facts.specs.Commanded.{is_gone_of}
use Rattle.run_model.specs.Served.{whole_in, piece_in, pieces_numbered, journal_at}
use Rattle.run_model.specs.Tests.{read_failed}
use Rattle.run_report.specs.declared.told.Role.{Role}
use Rattle.run_report.specs.declared.told.Role.TheVariants as role
use Rattle.run_report.specs.declared.told.Told.{Told}
use Rattle.run_report.specs.Outcomes.{put_by, earliest, first_sent}
use Rattle.run_report.specs.Tables.{beat_under, key_at, put_under}

-- the role of a node
abbrev pub role_of : Params → ℕ → Role
role_of p n =
    if n == controller_of (links_of p) then role.Controller
    else if n == viewers_of (links_of p) then role.Viewers
    else role.Other

-- tables tell what these entries do: all of them of Puts and of failed reads, the controller's of stops, and the
-- viewers' of what was got
pub record TellsOf (p : Params) (all controller viewers : List Entry) (t : Told) : Type 0 where
  pub put : (v : ℕ) → put_under v t.puts ≡ earliest (flat_map (λ e. put_by p v e.stamp.beat e.what) all)
  pub stop : (v : ℕ) → beat_under (key_at v 0 0) t.stops
      ≡ option_map (λ e. e.stamp.beat) (find (λ e. is_gone_of v e.what) controller)
  pub whole : (v visit : ℕ) → beat_under (key_at v visit 0) t.wholes ≡ first_sent (flat_map (λ e. whole_in v visit e.what) viewers)
  pub piece : (v visit k : ℕ) → beat_under (key_at v visit k) t.pieces
      ≡ first_sent (pieces_numbered k (flat_map (λ e. piece_in v visit e.what) viewers))
  pub failed : (v visit : ℕ) → is_some (beat_under (key_at v visit 0) t.failed) ≡ read_failed v visit 0 all

-- the controller's entries, and the viewers', once a node of this role has written more
abbrev pub of_controller : Role → List Entry → List Entry → List Entry
of_controller role.Controller before es = before ++ es
of_controller _ before es = before

abbrev pub of_viewers : Role → List Entry → List Entry → List Entry
of_viewers role.Viewers before es = before ++ es
of_viewers _ before es = before

-- entries of a node of this role were read: the tables tell of these too, whatever they told before
abbrev pub HasRead : Params → Role → List Entry → Told → Told → Type 0
HasRead p role es old new =
    (all controller viewers : List Entry) → TellsOf p all controller viewers old
    → TellsOf p (all ++ es) (of_controller role controller es) (of_viewers role viewers es) new

-- the tables tell what these journals do
abbrev pub IsToldBy : Params → List (List Entry) → Told → Type 0
IsToldBy p journals t =
    TellsOf p (flat_map (λ journal. journal) journals) (journal_at journals (controller_of (links_of p)))
    (journal_at journals (viewers_of (links_of p))) t
