-- Parts that a cub has stored, beside the ends of their visits' play times and when they leave, and which of them are
-- not forgotten.
use Rattle.std.specs.Prelude.{◌≡◌, ℕ, ◌+◌, ◌≤◌, Bool, true, ◌==◌, ◌&&◌, List, Option, nat_le, nat_lt, filter, map, find, option_map}
use Rattle.std.specs.List.{All, AllByRecursion}
use Rattle.std.specs.List.Sorted.{IsNonDecreasingBy}
use Rattle.tiger_base.specs.declared.tenancy.Want.{Want}
use Rattle.tiger_base.specs.Span.{LibraryPart}
use Rattle.instance_marks.specs.Marks.{IsNoted}
use Rattle.slot_plan.specs.declared.params.Params.{Params}
use Rattle.slot_plan.specs.Times.{due}
use Rattle.mirror_pieces.specs.Pieces.{leaving}
use Rattle.mirror_schedule.specs.Timed.{has_same_times}
use Rattle.node_kit.specs.Form.{is_place}
use Rattle.cub_rules.specs.declared.parts.KeptPart.{KeptPart}
use Rattle.cub_rules.specs.declared.store.StoredPart.{StoredPart}

-- the end of the play time of a want's visit
abbrev pub end_of : Params → Want → ℕ
end_of p want = due p want.slot.0 want.visit + p.play

-- when what is wanted leaves: a block when its visit is due, and its pieces one after another over the play time
abbrev pub leaves_at : Params → Want → ℕ
leaves_at p want = leaving (due p want.slot.0 want.visit) want.piece p.play p.pieces

-- whether blocks and pieces leave at the same times under two plans
abbrev pub leaves_alike : Params → Params → Bool
leaves_alike p q = has_same_times p q && p.pieces == q.pieces

-- whether the end beside a part comes after a time
abbrev pub is_fresh : ℕ → KeptPart → Bool
is_fresh time k = nat_lt time k.end

-- the parts whose ends do
abbrev pub fresh_parts : ℕ → List KeptPart → List StoredPart
fresh_parts time ks = map (λ k. k.stored) (filter (is_fresh time) ks)

-- the end beside a part is that of its visit under a plan's numbers, and the top is no earlier than it leaves
pub record IsTimed (p : Params) (k : KeptPart) : Type 0 where
  pub end : k.end ≡ end_of p k.stored.want
  pub top : leaves_at p k.stored.want ≤ k.top

-- If they are timed, their ends and tops are those under a plan's numbers. No top falls.
pub record AreKept (p : Params) (timed : Bool) (ks : List KeptPart) : Type 0 where
  pub exact : timed ≡ true → All (IsTimed p) ks
  pub order : IsNonDecreasingBy (λ k. k.top) ks

-- each instance that a part is of is noted
abbrev pub ArePartsNoted : List Bool → List KeptPart → Type 0
ArePartsNoted marks ks = AllByRecursion (λ k. IsNoted marks k.stored.want.instance) ks

-- parts that are kept so, and whose instances are noted
pub record AreKeptPartsNoted (p : Params) (timed : Bool) (marks : List Bool) (ks : List KeptPart) : Type 0 where
  pub kept : AreKept p timed ks
  pub noted : ArePartsNoted marks ks

-- the first part that passes a test, which may look at what stands beside it
abbrev pub first_part : (KeptPart → Bool) → List KeptPart → Option LibraryPart
first_part test ks = option_map (λ k. k.stored.part) (find test ks)

-- whether a part is of a visit of a plan, and the play time of this visit is over
abbrev pub is_stale_here : Params → ℕ → StoredPart → Bool
is_stale_here p reading x = is_place p x.want.slot.0 x.want.visit && nat_le (end_of p x.want) reading
