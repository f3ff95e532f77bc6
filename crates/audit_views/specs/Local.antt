-- What is local to a cub as it is judged entry by entry, and what a walk keeps for that.
use Rattle.std.specs.Prelude.{◌≡◌, ℕ, ◌+◌, ◌-◌, ◌%◌, Bool, false, ◌&&◌, ◌||◌, ◌==◌, nat_le, nat_lt, List, IsTrue, ◌↔◌}
use Rattle.tiger_base.specs.declared.message.Note.{Note}
use Rattle.tiger_base.specs.declared.message.Note.TheVariants as note
use Rattle.tiger_base.specs.declared.tenancy.Rec.{Rec}
use Rattle.tiger_base.specs.declared.tenancy.State.{State}
use Rattle.tiger_base.specs.declared.tenancy.Tenancy.{Tenancy}
use Rattle.tiger_base.specs.Records.{own_of}
use Rattle.slot_plan.specs.declared.params.Params.{Params}
use Rattle.slot_plan.specs.Times.{due}
use Rattle.node_kit.specs.declared.journal.What.{What}
use Rattle.node_kit.specs.declared.journal.What.TheVariants as what
use Rattle.node_kit.specs.Links.{links_of, ends_of}
use Rattle.run_model.specs.Fronts.{AnyByRecursion}
use Rattle.run_model.specs.Moments.{Moment}
use Rattle.run_model.specs.Parts.{is_from_before}
use Rattle.audit_frame.specs.Records.{is_same}
use Rattle.audit_frame.specs.declared.records.Held.{Held}
use Rattle.audit_views.specs.Standing.{has_record}

-- ---- what is brought

-- an entry of a cub brings it a tenancy at exactly this visit: a viewer state that came from one of the two cubs before,
-- or a Put of its own
abbrev pub BringsAt : Params → ℕ → Tenancy → ℕ → What → Type 0
BringsAt p c t visit (what.Got link (note.ViewerState state)) =
    (state.tenancy ≡ t) × (state.visit ≡ visit) × IsTrue (is_from_before p c (ends_of (links_of p) link.0))
BringsAt p c t visit (what.Put put) = (put ≡ t) × (t.first ≡ visit)
BringsAt p c t visit other = ⊥

-- whether a state, or a note, that a node gets on a link brings it a record
abbrev pub state_brings : Params → ℕ → ℕ → State → ℕ → Rec → Bool
state_brings p n link s c q =
    is_from_before p n (ends_of (links_of p) link) && is_same n (own_of s.tenancy s.visit) c q

abbrev pub note_brings : Params → ℕ → ℕ → Note → ℕ → Rec → Bool
note_brings p n link (note.ViewerState s) c q = state_brings p n link s c q
note_brings p n link other c q = false

-- whether a node is one of the two cubs before another
abbrev pub is_before : Params → ℕ → ℕ → Bool
is_before p from n = nat_lt from p.cubs && (((from + 1) % p.cubs == n) || ((from + 2) % p.cubs == n))

-- ---- what a walk keeps

-- a table tells what was brought to each cub, as own records
abbrev pub TellsBrought : Params → List Held → Moment → Type 0
TellsBrought p brought m =
    (c : ℕ) (t : Tenancy) (visit : ℕ)
    → IsTrue (has_record c (own_of t visit) brought) ↔ AnyByRecursion (λ e. BringsAt p c t visit e.what) (m.journal c)

-- ---- how an entry is judged

-- whether a table has the own record of a cub at a visit, or at the one before it
abbrev pub has_by : ℕ → Tenancy → ℕ → List Held → Bool
has_by c t visit held =
    has_record c (own_of t visit) held || (nat_lt 0 visit && has_record c (own_of t (visit - 1)) held)

-- whether a record is taken no sooner than it may be
abbrev pub is_soon : Params → ℕ → Rec → Bool
is_soon p reading r = nat_le (due p r.tenancy.slot.0 r.visit) (reading + p.max_lead + p.play + p.skew)
