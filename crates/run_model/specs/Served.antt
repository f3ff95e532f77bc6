-- A visit's block is delivered: the viewers got it once, whole or in all its pieces, sent by the cubs whose turn it was
-- and when it was due; and a visit is settled once nothing of it can come any more.
use Rattle.std.specs.Prelude.{◌≡◌, ℕ, ◌+◌, ◌-◌, ◌*◌, ◌<◌, ◌≤◌, ◌&&◌, ◌==◌, List, [], ◌∷◌, filter, Some, slice_get, unwrap_or, if◌then◌else◌, ◌⊎◌}
use Rattle.std.specs.List.{flat_map}
use Rattle.tiger_base.specs.declared.number.LinkNo.{LinkNo}
use Rattle.tiger_base.specs.declared.tenancy.Tenancy.{Tenancy}
use Rattle.tiger_base.specs.declared.tenancy.Want.{Want}
use Rattle.tiger_base.specs.declared.part.Span.{Span}
use Rattle.tiger_base.specs.declared.message.Note.{Note}
use Rattle.tiger_base.specs.declared.message.Note.TheVariants as note
use Rattle.slot_plan.specs.declared.params.Params.{Params}
use Rattle.slot_plan.specs.Times.{due, cub_of, time_of}
use Rattle.stripe_layout.specs.Places.{place_of}
use Rattle.stripe_layout.specs.declared.catalogue.Catalogue.{Catalogue}
use Rattle.stripe_layout.specs.declared.place.Place.{Place}
use Rattle.mirror_pieces.specs.Pieces.{piece_of, leaving}
use Rattle.node_kit.specs.declared.journal.What.{What}
use Rattle.node_kit.specs.declared.journal.What.TheVariants as what
use Rattle.node_kit.specs.declared.journal.Entry.{Entry}
use Rattle.node_kit.specs.Links.{links_of, viewers_of}
use Rattle.run_model.specs.declared.parcels.Parcel.{Parcel}
use Rattle.run_model.specs.Fronts.{AnyByRecursion}

-- the journal of a node
unfoldable pub journal_at : List (List Entry) → ℕ → List Entry
journal_at journals n = unwrap_or (slice_get journals n) []

-- a cub put the tenancy
abbrev pub IsPut : List (List Entry) → Tenancy → Type 0
IsPut journals t = AnyByRecursion (λ journal. AnyByRecursion (λ e. e.what ≡ what.Put t) journal) journals

-- it is the tenancy of an instance that was put, and the visit is one of its visits
pub record IsVisitOf (journals : List (List Entry)) (v visit : ℕ) (t : Tenancy) : Type 0 where
  pub put : IsPut journals t
  pub instance : t.instance.0 ≡ v
  pub first : t.first ≤ visit
  pub last : visit ≤ t.last

-- the parcel of an entry that says that a whole block, or a piece, of an instance was got at a visit
abbrev pub whole_in : ℕ → ℕ → What → List Parcel
whole_in v visit (what.Got link (note.Whole want sent part)) =
    if want.instance.0 == v && want.visit == visit then (record { link = link; want = want; sent = sent; span = part }) ∷ [] else []
whole_in v visit other = []

abbrev pub piece_in : ℕ → ℕ → What → List Parcel
piece_in v visit (what.Got link (note.Piece want sent part)) =
    if want.instance.0 == v && want.visit == visit then (record { link = link; want = want; sent = sent; span = part }) ∷ [] else []
piece_in v visit other = []

-- the whole blocks, the pieces, and the pieces of one number, that the viewers' journal says were got
unfoldable pub wholes_got : Params → List (List Entry) → ℕ → ℕ → List Parcel
wholes_got p journals v visit = flat_map (λ e. whole_in v visit e.what) (journal_at journals (viewers_of (links_of p)))

unfoldable pub pieces_got : Params → List (List Entry) → ℕ → ℕ → List Parcel
pieces_got p journals v visit = flat_map (λ e. piece_in v visit e.what) (journal_at journals (viewers_of (links_of p)))

abbrev pub pieces_numbered : ℕ → List Parcel → List Parcel
pieces_numbered k pieces = filter (λ x. x.want.piece == k) pieces

-- what is wanted at a visit of a tenancy: the visit's block, whole or in a piece
abbrev pub want_of_visit : Tenancy → ℕ → ℕ → Want
want_of_visit t visit piece = record {
  instance = t.instance;
  slot = t.slot;
  visit = visit;
  file = t.file;
  block = visit - t.first;
  piece = piece;
}

-- a note was sent on a link by a cub in a beat whose true time is at most the skew before a time, and less than a
-- beat after it
pub record WasSent (p : Params) (journals : List (List Entry)) (cub : ℕ) (link : LinkNo) (message : Note) (beat time : ℕ) : Type 0 where
  pub says : AnyByRecursion (λ e. (e.stamp.beat ≡ beat) × (e.what ≡ what.Sent link message)) (journal_at journals cub)
  pub low : time ≤ time_of p beat + p.skew
  pub high : time_of p beat < time + p.beat

-- the block came whole, once and alone: it names the tenancy's file, slot and block and has the block's span, and
-- the cub of the visit sent it when it was due
pub record CameWhole (p : Params) (c : Catalogue) (journals : List (List Entry)) (t : Tenancy) (visit : ℕ) : Type 0 where
  pub block : Place
  pub parcel : Parcel
  pub place : place_of c t.file (visit - t.first) ≡ Some block
  pub once : wholes_got p journals t.instance.0 visit ≡ parcel ∷ []
  pub alone : pieces_got p journals t.instance.0 visit ≡ []
  pub want : parcel.want ≡ want_of_visit t visit 0
  pub span : parcel.span ≡ block.span
  pub sent : WasSent p journals (cub_of p visit) parcel.link (note.Whole parcel.want parcel.sent parcel.span) parcel.sent (due p t.slot.0 visit)

-- piece k of a block came once: it names the same and has the piece's span, and the k-th cub after that of the visit
-- sent it when it was to leave
pub record PieceCame (p : Params) (journals : List (List Entry)) (t : Tenancy) (visit : ℕ) (block : Span) (k : ℕ) : Type 0 where
  pub parcel : Parcel
  pub once : pieces_numbered k (pieces_got p journals t.instance.0 visit) ≡ parcel ∷ []
  pub want : parcel.want ≡ want_of_visit t visit k
  pub span : parcel.span ≡ piece_of block p.pieces k
  pub sent : WasSent p journals (cub_of p (visit + k)) parcel.link (note.Piece parcel.want parcel.sent parcel.span) parcel.sent
      (leaving (due p t.slot.0 visit) k p.play p.pieces)

-- the block came in pieces and not whole: each of its pieces came
pub record CameInPieces (p : Params) (c : Catalogue) (journals : List (List Entry)) (t : Tenancy) (visit : ℕ) : Type 0 where
  pub block : Place
  pub place : place_of c t.file (visit - t.first) ≡ Some block
  pub none : wholes_got p journals t.instance.0 visit ≡ []
  pub pieces : (k : ℕ) → 1 ≤ k → k ≤ p.pieces → PieceCame p journals t visit block.span k

-- the visit of an instance is delivered: its block came whole, or in pieces
pub record IsDelivered (p : Params) (c : Catalogue) (journals : List (List Entry)) (v visit : ℕ) : Type 0 where
  pub tenancy : Tenancy
  pub visited : IsVisitOf journals v visit tenancy
  pub came : CameWhole p c journals tenancy visit ⊎ CameInPieces p c journals tenancy visit

-- a visit of a slot is settled at a time: it is two block play times after the visit is due, or later
abbrev pub IsSettled : Params → ℕ → ℕ → ℕ → Type 0
IsSettled p end slot visit = due p slot visit + 2 * p.play ≤ end
