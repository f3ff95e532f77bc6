-- What entries tell of bytes of blocks that were sent and got.
use Rattle.std.specs.Prelude.{ℕ, Bool, true, false, not, ◌==◌, ◌&&◌, List, [], ◌∷◌, Option, Some, None, if◌then◌else◌}
use Rattle.tiger_base.specs.declared.number.LinkNo.{LinkNo}
use Rattle.tiger_base.specs.declared.message.Note.{Note}
use Rattle.tiger_base.specs.declared.message.Note.TheVariants as note
use Rattle.slot_plan.specs.declared.params.Params.{Params}
use Rattle.node_kit.specs.declared.journal.What.{What}
use Rattle.node_kit.specs.declared.journal.What.TheVariants as what
use Rattle.node_kit.specs.Links.{links_of, viewers_of}
use Rattle.run_facts.specs.Order.{Noted}
use Rattle.run_model.specs.declared.parcels.Parcel.{Parcel}
use Rattle.audit_blocks.specs.declared.receipts.Receipt.{Receipt}
use Rattle.audit_blocks.specs.declared.cargo.Cargo.{Cargo}

-- what a message carries of a block
abbrev pub cargo_in : LinkNo → Note → Option Cargo
cargo_in link (note.Whole want sent part) =
    Some (record { whole = true; receipt = record { link = link; want = want; sent = sent; part = part } })
cargo_in link (note.Piece want sent part) =
    Some (record { whole = false; receipt = record { link = link; want = want; sent = sent; part = part } })
cargo_in link other = None

-- and what an entry says was sent, and was got
abbrev pub cargo_sent : What → Option Cargo
cargo_sent (what.Sent link k) = cargo_in link k
cargo_sent other = None

abbrev pub cargo_taken : What → Option Cargo
cargo_taken (what.Got link k) = cargo_in link k
cargo_taken other = None

-- what the viewers get
abbrev pub cargo_got : Params → Noted → Option Cargo
cargo_got p x = if x.node == viewers_of (links_of p) then cargo_taken x.entry.what else None

-- a message as a parcel
abbrev pub parcel_of : Receipt → Parcel
parcel_of r = record { link = r.link; want = r.want; sent = r.sent; span = r.part }

-- the whole block, and the piece, that it is for a visit of an instance
abbrev pub is_for : ℕ → ℕ → Receipt → Bool
is_for v visit r = (r.want.instance.0 == v) && (r.want.visit == visit)

abbrev pub whole_for : ℕ → ℕ → Option Cargo → List Parcel
whole_for v visit None = []
whole_for v visit (Some c) = if c.whole && is_for v visit c.receipt then parcel_of c.receipt ∷ [] else []

abbrev pub piece_for : ℕ → ℕ → Option Cargo → List Parcel
piece_for v visit None = []
piece_for v visit (Some c) = if not c.whole && is_for v visit c.receipt then parcel_of c.receipt ∷ [] else []

abbrev pub numbered_for : ℕ → ℕ → ℕ → Option Cargo → List Parcel
numbered_for v visit k None = []
numbered_for v visit k (Some c) =
    if not c.whole && (is_for v visit c.receipt && (c.receipt.want.piece == k)) then parcel_of c.receipt ∷ [] else []
