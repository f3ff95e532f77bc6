-- Whether what the viewers got is of a visit of a tenancy that was put, as tests.
use Rattle.std.specs.Prelude.{◌-◌, Bool, false, ◌==◌, ◌&&◌, nat_le, List, Option, Some, None, if◌then◌else◌}
use Rattle.tiger_base.specs.Records.{same_want}
use Rattle.tiger_base.specs.declared.tenancy.Tenancy.{Tenancy}
use Rattle.tiger_base.specs.declared.part.Span.{Span}
use Rattle.slot_plan.specs.declared.params.Params.{Params}
use Rattle.stripe_layout.specs.Places.{place_of}
use Rattle.stripe_layout.specs.declared.catalogue.Catalogue.{Catalogue}
use Rattle.stripe_layout.specs.declared.place.Place.{Place}
use Rattle.mirror_pieces.specs.Pieces.{piece_of}
use Rattle.node_kit.specs.declared.journal.Entry.{Entry}
use Rattle.run_model.specs.Served.{want_of_visit}
use Rattle.run_model.specs.Tests.{same_span, some_tenancy}
use Rattle.audit_blocks.specs.declared.cargo.Cargo.{Cargo}

-- a whole block is piece 0, and a piece is one of the pieces of a block
abbrev pub is_in_shape : Params → Cargo → Bool
is_in_shape p c =
    if c.whole then c.receipt.want.piece == 0
    else nat_le 1 c.receipt.want.piece && nat_le c.receipt.want.piece p.pieces

-- it has the bytes of a block, or of the piece of it
abbrev pub has_span : Params → Span → Cargo → Bool
has_span p block c =
    if c.whole then same_span c.receipt.part block
    else same_span c.receipt.part (piece_of block p.pieces c.receipt.want.piece)

abbrev pub fits_place : Params → Option Place → Cargo → Bool
fits_place p None c = false
fits_place p (Some place) c = has_span p place.span c

-- a tenancy wants it at its visit, and the block that the tenancy has there has its bytes
abbrev pub fits_tenancy : Params → Catalogue → Cargo → Tenancy → Bool
fits_tenancy p catalogue c t =
    same_want c.receipt.want (want_of_visit t c.receipt.want.visit c.receipt.want.piece)
    && fits_place p (place_of catalogue t.file (c.receipt.want.visit - t.first)) c

abbrev pub is_rightful : Params → Catalogue → List (List Entry) → Cargo → Bool
is_rightful p catalogue journals c =
    is_in_shape p c && some_tenancy journals c.receipt.want.instance.0 c.receipt.want.visit (fits_tenancy p catalogue c)
