-- Where a kept run is not timed, and what a walk along a journal tests of each entry.
use Rattle.std.specs.Prelude.{◌≡◌, ℕ, ◌+◌, ◌%◌, ◌<◌, Bool, true, false, not, ◌&&◌, ◌||◌, ◌==◌, nat_lt, nat_le, List, Option, Some, None, is_some, slice_get, ◌⊎◌, if◌then◌else◌}
use Rattle.slot_plan.specs.declared.params.Params.{Params}
use Rattle.node_kit.specs.declared.course.Course.{Course}
use Rattle.node_kit.specs.declared.course.Kept.{Kept}
use Rattle.node_kit.specs.declared.journal.Entry.{Entry}
use Rattle.node_kit.specs.Life.{Lifetime, death_of, cut_of, back_of, lifetime_of}
use Rattle.run_facts.specs.Timed.{IsTimed, AreTimed, DieApart, is_died, death_within}
use Rattle.run_model.specs.Runs.{IsTimedRun}
use Rattle.run_model.specs.Tests.{is_read, is_until, stands_later}
use Rattle.audit_orders.specs.Breaches.{DecidesList}
use Rattle.audit_orders.specs.Returning.{IsFirstUntold}
use Rattle.audit_orders.specs.declared.flaw.Flaw.{Flaw}
use Rattle.audit_orders.specs.declared.timing.SoFar.{SoFar}
use Rattle.audit_orders.specs.declared.timing.Term.{Term}
use Rattle.audit_orders.specs.declared.timing.Untimed.{Untimed}
use Rattle.audit_orders.specs.declared.timing.Untimed.TheVariants as untimed

-- a journal is timed as that of a node of the course is to be
abbrev pub IsTimedIn : Course → ℕ → List Entry → Type 0
IsTimedIn c n journal = IsTimed c.plan.params c.beats (lifetime_of c n) journal

-- the journals of the nodes below a number are timed
abbrev pub AreTimedBelow : Course → ℕ → List (List Entry) → Type 0
AreTimedBelow c n journals =
    (m : ℕ) (journal : List Entry) → m < n → slice_get journals m ≡ Some journal → IsTimedIn c m journal

-- the journal of a node is the first that is not timed, with this flaw
pub record IsFirstFlaw (c : Course) (journals : List (List Entry)) (n : ℕ) (found : Flaw) : Type 0 where
  pub lower : AreTimedBelow c n journals
  pub journal : List Entry
  pub here : slice_get journals n ≡ Some journal
  pub flawed : DecidesList (IsTimedIn c n) journal (Some found)

-- a cub, or the next one in the ring, has no death
abbrev pub OneLives : Course → ℕ → Type 0
OneLives c n = (death_of c n ≡ None) ⊎ (death_of c ((n + 1) % c.plan.params.cubs) ≡ None)

-- a cub is the first of which this is not so
pub record IsFirstPair (c : Course) (n : ℕ) : Type 0 where
  pub cub : n < c.plan.params.cubs
  pub lower : (m : ℕ) → m < n → OneLives c m
  pub both : OneLives c n → ⊥

-- and this says so
abbrev pub IsPairAt : Course → Untimed → Type 0
IsPairAt c (untimed.Journal node found) = ⊥
IsPairAt c (untimed.Neighbours cub) = IsFirstPair c cub.0
IsPairAt c (untimed.Return node i) = ⊥

-- the journal of a node is the first that does not tell its return, and this says so
abbrev pub IsReturnAt : Course → List (List Entry) → Untimed → Type 0
IsReturnAt c journals (untimed.Journal node found) = ⊥
IsReturnAt c journals (untimed.Neighbours cub) = ⊥
IsReturnAt c journals (untimed.Return node i) = IsFirstUntold c journals node.0 i

-- the journals of a course are timed
abbrev pub AreTimedIn : Course → List (List Entry) → Type 0
AreTimedIn c journals = AreTimed c.plan.params c.beats (lifetime_of c) journals

-- journals of a course are not timed here
abbrev pub IsUntimedAt : Course → List (List Entry) → Untimed → Type 0
IsUntimedAt c journals (untimed.Journal node found) = IsFirstFlaw c journals node.0 found
IsUntimedAt c journals (untimed.Neighbours cub) = AreTimedIn c journals × IsFirstPair c cub.0
IsUntimedAt c journals (untimed.Return node i) =
    AreTimedIn c journals × (DieApart c.plan.params (lifetime_of c) × IsFirstUntold c journals node.0 i)

-- an answer decides whether a kept run is timed
abbrev pub DecidesTimed : Kept → Option Untimed → Type 0
DecidesTimed k None = IsTimedRun k
DecidesTimed k (Some place) = IsUntimedAt k.course k.journals place

-- ---- what is tested of an entry

-- the life that this says of a node, and what it says of one of a course
abbrev pub life_of_term : Term → Lifetime
life_of_term term = record { death = term.death; left = term.left; back = term.back; over = false }

abbrev pub term_of : Course → ℕ → Term
term_of c n = record { death = death_of c n; left = cut_of c n; back = back_of c n }

-- what is known before the first entry, and after one more
abbrev pub nothing_yet : SoFar
nothing_yet = record { last = record { beat = 0; reading = 0 }; died = false }

abbrev pub next_so_far : SoFar → Entry → SoFar
next_so_far s e = record { last = e.stamp; died = s.died || is_died e.what }

-- whether an entry may stand behind a death
abbrev pub is_behind : Option ℕ → Entry → Bool
is_behind None e = false
is_behind (Some back) e = stands_later back e

-- whether an entry may stand before a death, or is that death
abbrev pub comes_to : Option ℕ → ℕ → Entry → Bool
comes_to left death e = if is_died e.what then e.stamp.beat == death else is_until left death e.stamp.beat

-- whether an entry may come next, as deaths go: a node with no death in the run writes none
abbrev pub may_stand : Option ℕ → Option ℕ → Option ℕ → Bool → Entry → Bool
may_stand None left back died e = not (is_died e.what)
may_stand (Some death) left back true e = is_behind back e
may_stand (Some death) left back false e = comes_to left death e

-- whether an entry may come next
unfoldable pub may_come : Params → ℕ → Term → SoFar → Entry → Bool
may_come p beats term s e =
    is_read p e
    && (nat_le s.last.beat e.stamp.beat
    && (nat_le s.last.reading e.stamp.reading
    && (nat_lt e.stamp.beat beats
    && may_stand (death_within beats term.death) term.left term.back s.died e)))

-- whether a journal may end: it has its death, if there is one
abbrev pub may_end : Option ℕ → Bool → Bool
may_end None died = true
may_end (Some death) died = died

-- whether two nodes have a death
abbrev pub both_die : Course → ℕ → Bool
both_die c n = is_some (death_of c n) && is_some (death_of c ((n + 1) % c.plan.params.cubs))
