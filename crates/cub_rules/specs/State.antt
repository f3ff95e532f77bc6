-- What a cub keeps, and what always holds of it.
use Rattle.std.specs.Prelude.{◌≡◌, ℕ, ◌+◌, ◌≤◌, ◌<◌, [], false, Bool, ◌&&◌, nat_le, IsTrue, Option, Some, None}
use Rattle.std.specs.List.{AllByRecursion}
use Rattle.tiger_base.specs.declared.tenancy.Ask.{Ask}
use Rattle.tiger_base.specs.declared.tenancy.Kind.{Kind}
use Rattle.tiger_base.specs.declared.tenancy.Kind.TheVariants.{Own, Backup}
use Rattle.tiger_base.specs.declared.tenancy.PieceState.{PieceState}
use Rattle.tiger_base.specs.declared.tenancy.Rec.{Rec}
use Rattle.tiger_base.specs.Limits.{most_blocks}
use Rattle.slot_plan.specs.declared.params.Params.{Params}
use Rattle.slot_plan.specs.Conditions.{IsPlan}
use Rattle.slot_plan.specs.Times.{cub_of}
use Rattle.node_kit.specs.Form.{is_tenancy, is_place, is_piece}
use Rattle.partial_view.specs.declared.line.Line.{Line}
use Rattle.mirror_schedule.specs.Splits.{Split}
use Rattle.cub_rules.specs.declared.store.Store.{Store}
use Rattle.cub_rules.specs.declared.store.StoredPart.{StoredPart}
use Rattle.cub_rules.specs.Comebacks.{comeback_at}

-- the visit that a record lets its cub care for itself: an own record's visit, and the one behind a backup record's
abbrev pub visit_here : Kind → ℕ → ℕ
visit_here Own visit = visit
visit_here Backup visit = visit + 1

-- a start has from 1 to as many blocks as the longest file has
abbrev pub is_ask : Ask → Bool
is_ask a = nat_le 1 a.count && nat_le a.count most_blocks

abbrev pub IsAsk : Ask → Type 0
IsAsk a = IsTrue (is_ask a)

-- a record of a visit of its tenancy, which is in form, on a cub that records of its kind and visit belong to
pub record IsRecordOf (p : Params) (cub : ℕ) (r : Rec) : Type 0 where
  pub in_form : IsTrue (is_tenancy p r.tenancy)
  pub begun : r.tenancy.first ≤ r.visit
  pub not_over : r.visit ≤ r.tenancy.last
  pub here : cub_of p (visit_here r.kind r.visit) ≡ cub

abbrev pub IsLineOf : Params → ℕ → Line → Type 0
IsLineOf p cub x = IsRecordOf p cub x.rec

-- a piece record in form, on the cub of its piece
pub record IsPieceAt (p : Params) (cub : ℕ) (x : PieceState) : Type 0 where
  pub in_form : IsTrue (is_piece p x)
  pub here : cub_of p (x.visit + x.piece) ≡ cub

-- a remembered split is of a slot of the plan, and its visit is not too large
abbrev pub IsSplitHere : Params → Split → Type 0
IsSplitHere p x = IsTrue (is_place p x.1.0 x.2)

-- a stored part is of a slot of the plan, and its visit is not too large
abbrev pub IsPartHere : Params → StoredPart → Type 0
IsPartHere p x = IsTrue (is_place p x.want.slot.0 x.want.visit)

-- what a cub of a plan may keep
pub record IsStoreOf (p : Params) (cub : ℕ) (h : Store) : Type 0 where
  pub view_plan : h.view.params ≡ p
  pub pieces_plan : h.pieces.params ≡ p
  pub unasked_plan : h.unasked.params ≡ p
  pub lines : AllByRecursion (IsLineOf p cub) h.view.lines
  pub waiting : AllByRecursion IsAsk h.starts.waiting
  pub redundant : AllByRecursion IsAsk h.starts.redundant
  pub pieces : AllByRecursion (IsPieceAt p cub) h.pieces.items
  pub unasked : AllByRecursion (IsPieceAt p cub) h.unasked.items
  pub splits : AllByRecursion (IsSplitHere p) h.splits
  pub parts : AllByRecursion (IsPartHere p) h.parts

-- what a cub keeps at first: nothing, and its predecessor was last heard at a reading
abbrev pub opening_store : Params → ℕ → Store
opening_store p heard = record {
  view = record { params = p; lines = [] };
  starts = record { waiting = []; redundant = [] };
  held = [];
  watch = record { heard = heard; timeout = p.deadman };
  believes = false;
  pieces = record { params = p; items = [] };
  unasked = record { params = p; items = [] };
  splits = [];
  parts = [];
  comeback = None;
  handback = None;
}

-- what a cub keeps that came back at a reading: nothing but what is otherwise from then on
abbrev pub returning_store : Params → ℕ → Store
returning_store p reading = record (opening_store p reading) { comeback = Some (comeback_at p reading) }

-- a cub: its plan, its number, what it keeps, and the beat of its last tick, if it has ticked
pub record CubState : Type 0 where
  pub params : Params
  pub cub : ℕ
  pub store : Store
  pub last : Option ℕ

-- it is the cub of that number in a ring with these numbers
pub record IsCub (s : CubState) (p : Params) (n : ℕ) : Type 0 where
  pub params : s.params ≡ p
  pub number : s.cub ≡ n
  pub plan : IsPlan s.params
  pub inside : s.cub < s.params.cubs
  pub store : IsStoreOf s.params s.cub s.store
