-- Each viewer that was put gets its file's blocks, or there is an excuse; and the viewers get nothing else.
use Rattle.std.specs.Prelude.{◌≡◌, ℕ, ◌-◌, ◌≤◌, ◌==◌, List, Some, ◌⊎◌, if◌then◌else◌}
use Rattle.std.specs.List.{AllByRecursion}
use Rattle.tiger_base.specs.declared.tenancy.Tenancy.{Tenancy}
use Rattle.tiger_base.specs.declared.tenancy.Want.{Want}
use Rattle.tiger_base.specs.declared.part.Span.{Span}
use Rattle.tiger_base.specs.declared.message.Note.TheVariants as note
use Rattle.slot_plan.specs.declared.params.Params.{Params}
use Rattle.stripe_layout.specs.Places.{place_of}
use Rattle.stripe_layout.specs.declared.catalogue.Catalogue.{Catalogue}
use Rattle.stripe_layout.specs.declared.place.Place.{Place}
use Rattle.mirror_pieces.specs.Pieces.{piece_of}
use Rattle.node_kit.specs.declared.journal.What.{What}
use Rattle.node_kit.specs.declared.journal.What.TheVariants as what
use Rattle.node_kit.specs.declared.journal.Entry.{Entry}
use Rattle.node_kit.specs.Links.{links_of, viewers_of}
use Rattle.run_facts.specs.Order.{Noted}
use Rattle.run_model.specs.Served.{IsVisitOf, IsDelivered, IsSettled, want_of_visit}
use Rattle.run_model.specs.Excuses.{IsExcused}

-- each visit of a tenancy that is settled at the end of the run was delivered, or is excused
abbrev pub IsServed : Params → Catalogue → List (List Entry) → ℕ → Tenancy → Type 0
IsServed p catalogue journals end t =
    (visit : ℕ) → t.first ≤ visit → visit ≤ t.last → IsSettled p end t.slot.0 visit
    → IsDelivered p catalogue journals t.instance.0 visit ⊎ IsExcused p journals t.instance.0 visit

-- and so for the tenancy of an entry that puts one
abbrev pub IsServedIfPut : Params → Catalogue → List (List Entry) → ℕ → What → Type 0
IsServedIfPut p catalogue journals end (what.Put t) = IsServed p catalogue journals end t
IsServedIfPut p catalogue journals end other = Unit {0}

-- What the viewers got is of a visit of a tenancy that was put: it is exactly what the tenancy wants there, and the part
-- is the span of the tenancy's block, or of the piece of it.
pub record IsOfVisit (p : Params) (catalogue : Catalogue) (journals : List (List Entry)) (want : Want) (part : Span) : Type 0 where
  pub tenancy : Tenancy
  pub visited : IsVisitOf journals want.instance.0 want.visit tenancy
  pub wanted : want ≡ want_of_visit tenancy want.visit want.piece
  pub block : Place
  pub place : place_of catalogue tenancy.file (want.visit - tenancy.first) ≡ Some block
  pub span : part ≡ (if want.piece == 0 then block.span else piece_of block.span p.pieces want.piece)

-- a whole block is got as piece 0, and a piece by its number from 1 on
abbrev pub IsOfPutTenancy : Params → Catalogue → List (List Entry) → What → Type 0
IsOfPutTenancy p catalogue journals (what.Got link (note.Whole want sent part)) =
    (want.piece ≡ 0) × IsOfVisit p catalogue journals want part
IsOfPutTenancy p catalogue journals (what.Got link (note.Piece want sent part)) =
    (1 ≤ want.piece) × ((want.piece ≤ p.pieces) × IsOfVisit p catalogue journals want part)
IsOfPutTenancy p catalogue journals other = Unit {0}

abbrev pub IsOfPutIfViewers : Params → Catalogue → List (List Entry) → Noted → Type 0
IsOfPutIfViewers p catalogue journals x =
    x.node ≡ viewers_of (links_of p) → IsOfPutTenancy p catalogue journals x.entry.what

-- each tenancy that a log puts is served by the end, and all that the viewers get is of such a tenancy
pub record AreServed (p : Params) (catalogue : Catalogue) (journals : List (List Entry)) (end : ℕ) (log : List Noted) : Type 0 where
  pub settled : AllByRecursion (λ x. IsServedIfPut p catalogue journals end x.entry.what) log
  pub got : AllByRecursion (IsOfPutIfViewers p catalogue journals) log
