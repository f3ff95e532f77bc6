-- A test of what the viewers got, by which a worked log is shown to break the claim on delivery.
use Rattle.std.proofs.Common.{◌≡◌, Bool, false, ◌&&◌, IsTrue, Option, Some, None, if◌then◌else◌}
use Rattle.std.specs.Prelude.{◌==◌, ◌-◌, List}
use Rattle.tiger_base.specs.declared.tenancy.Tenancy.{Tenancy}
use Rattle.tiger_base.specs.declared.tenancy.Want.{Want}
use Rattle.tiger_base.specs.declared.part.Span.{Span}
use Rattle.tiger_base.specs.Records.{same_want}
use Rattle.slot_plan.specs.declared.params.Params.{Params}
use Rattle.stripe_layout.specs.Places.{place_of}
use Rattle.stripe_layout.specs.declared.catalogue.Catalogue.{Catalogue}
use Rattle.stripe_layout.specs.declared.place.Place.{Place}
use Rattle.mirror_pieces.specs.Pieces.{piece_of}
use Rattle.node_kit.specs.declared.journal.Entry.{Entry}
use Rattle.run_model.specs.Served.{want_of_visit}
use Rattle.run_model.specs.Tests.{same_span, some_tenancy}
use Rattle.run_model.proofs.Deliveries.{want_same, span_same, tenancy_gives}
use Rattle.run_model.proofs.Reflects.{and_both}
use Rattle.run_claims.specs.Served.{IsOfVisit}

-- whether a part has the bytes of the block at a place, or of the wanted piece of it; no part is at no place
abbrev pub fits : Params → Want → Span → Option Place → Bool
fits p want part None = false
fits p want part (Some block) =
    same_span part (if want.piece == 0 then block.span else piece_of block.span p.pieces want.piece)

-- whether it is what a tenancy wants, with the bytes that the tenancy's file has there
abbrev pub is_what_it_wants : Params → Catalogue → Want → Span → Tenancy → Bool
is_what_it_wants p catalogue want part t =
    same_want want (want_of_visit t want.visit want.piece) && fits p want part (place_of catalogue t.file (want.visit - t.first))

fitting : (p : Params) (want : Want) (part : Span) (place : Option Place) (block : Place) → place ≡ Some block
    → part ≡ (if want.piece == 0 then block.span else piece_of block.span p.pieces want.piece)
    → IsTrue (fits p want part place)
fitting p want part place block e s =
    rw e ((span_same part (if want.piece == 0 then block.span else piece_of block.span p.pieces want.piece)).1 s)

-- what is of a visit of some tenancy that was put passes the test for one of them
pub passes-for-some : (p : Params) (catalogue : Catalogue) (journals : List (List Entry)) (want : Want) (part : Span) → IsOfVisit p catalogue journals want part
    → IsTrue (some_tenancy journals want.instance.0 want.visit (is_what_it_wants p catalogue want part))
passes-for-some p catalogue journals want part o =
    let t = o.tenancy in
    let w = want_of_visit t want.visit want.piece in
    let place = place_of catalogue t.file (want.visit - t.first) in
    tenancy_gives journals want.instance.0 want.visit (is_what_it_wants p catalogue want part) t o.visited
    (and_both (same_want want w) (fits p want part place) ((want_same want w).1 o.wanted) (fitting p want part place o.block o.place o.span))
