-- The test of what the viewers got is true exactly of what is of a visit of a tenancy that was put.
use Rattle.std.proofs.Common.{◌≡◌, ℕ, ◌-◌, ◌≤◌, Bool, true, false, ◌&&◌, ◌==◌, IsTrue, nat_le, cond, List, Option, Some, None, refl, sym, ap, subst, ◌∙◌, arith}
use Rattle.std.specs.Prelude.{◌↔◌}
use Rattle.std.proofs.lemmas.Bool.{eqb-true, eq-eqb, false≢true, both_ways}
use Rattle.tiger_base.specs.Records.{same_want}
use Rattle.tiger_base.specs.declared.message.Note.TheVariants as note
use Rattle.tiger_base.specs.declared.part.Span.{Span}
use Rattle.slot_plan.specs.declared.params.Params.{Params}
use Rattle.stripe_layout.specs.Places.{place_of}
use Rattle.stripe_layout.specs.declared.catalogue.Catalogue.{Catalogue}
use Rattle.stripe_layout.specs.declared.place.Place.{Place}
use Rattle.mirror_pieces.specs.Pieces.{piece_of}
use Rattle.node_kit.specs.declared.journal.Entry.{Entry}
use Rattle.node_kit.specs.declared.journal.What.{What}
use Rattle.node_kit.specs.declared.journal.What.TheVariants as what
use Rattle.node_kit.specs.Links.{links_of, viewers_of}
use Rattle.run_facts.specs.Order.{Noted}
use Rattle.run_model.specs.Served.{want_of_visit}
use Rattle.run_model.specs.Tests.{same_span, some_tenancy}
use Rattle.run_model.proofs.Deliveries.{want_same, span_same, tenancy_found, tenancy_gives}
use Rattle.run_model.proofs.Reflects.{and_both, and_left, and_right, at_most, equal}
use Rattle.run_claims.specs.Served.{IsOfVisit, IsOfPutTenancy, IsOfPutIfViewers}
use Rattle.audit_blocks.specs.declared.cargo.Cargo.{Cargo}
use Rattle.audit_blocks.specs.Cargo.{cargo_taken, cargo_got}
use Rattle.audit_blocks.specs.Rightful.{is_in_shape, has_span, fits_place, fits_tenancy, is_rightful}

-- a block that is there, with the bytes that came
placed : (p : Params) (c : Cargo) (o : Option Place) → IsTrue (fits_place p o c) → (block : Place) × (o ≡ Some block) × IsTrue (has_span p block.span c)
placed p c None h = absurd (false≢true h)
placed p c (Some block) h = (block, refl, h)

of_visit : (p : Params) (catalogue : Catalogue) (journals : List (List Entry)) (c : Cargo)
    → ((b : Span) → IsTrue (has_span p b c) ↔ (c.receipt.part ≡ cond (c.receipt.want.piece == 0) b (piece_of b p.pieces c.receipt.want.piece)))
    → IsTrue (some_tenancy journals c.receipt.want.instance.0 c.receipt.want.visit (fits_tenancy p catalogue c))
    ↔ IsOfVisit p catalogue journals c.receipt.want c.receipt.part
of_visit p catalogue journals c spans = (
  (λ h.
      let q = tenancy_found journals c.receipt.want.instance.0 c.receipt.want.visit (fits_tenancy p catalogue c) h in
      let wanted = same_want c.receipt.want (want_of_visit q.0 c.receipt.want.visit c.receipt.want.piece) in
      let place = place_of catalogue q.0.file (c.receipt.want.visit - q.0.first) in
      let at = placed p c place (and_right wanted (fits_place p place c) q.2) in
      record {
        tenancy = q.0;
        visited = q.1;
        wanted = (want_same c.receipt.want (want_of_visit q.0 c.receipt.want.visit c.receipt.want.piece)).0 (and_left wanted (fits_place p place c) q.2);
        block = at.0;
        place = at.1;
        span = (spans at.0.span).0 at.2;
      }),
  (λ g.
      let t = g.tenancy in
      let wanted = same_want c.receipt.want (want_of_visit t c.receipt.want.visit c.receipt.want.piece) in
      let place = place_of catalogue t.file (c.receipt.want.visit - t.first) in
      tenancy_gives journals c.receipt.want.instance.0 c.receipt.want.visit (fits_tenancy p catalogue c) t g.visited
      (and_both wanted (fits_place p place c) ((want_same c.receipt.want (want_of_visit t c.receipt.want.visit c.receipt.want.piece)).1 g.wanted)
      (subst (λ (o : Option Place). IsTrue (fits_place p o c)) (sym g.place) ((spans g.block.span).1 g.span)))),
)

-- ---- a whole block, and a piece

whole_spans : (p : Params) (c : Cargo) → c.whole ≡ true → c.receipt.want.piece ≡ 0 → (b : Span)
    → IsTrue (has_span p b c) ↔ (c.receipt.part ≡ cond (c.receipt.want.piece == 0) b (piece_of b p.pieces c.receipt.want.piece))
whole_spans p c whole none b =
    let chosen : cond (c.receipt.want.piece == 0) b (piece_of b p.pieces c.receipt.want.piece) ≡ b =
    ap (λ (t : Bool). cond t b (piece_of b p.pieces c.receipt.want.piece)) (eq-eqb c.receipt.want.piece 0 none) in
    let tested : has_span p b c ≡ same_span c.receipt.part b =
    ap (λ (t : Bool). cond t (same_span c.receipt.part b) (same_span c.receipt.part (piece_of b p.pieces c.receipt.want.piece))) whole in (
      (λ h. (span_same c.receipt.part b).0 (sym tested ∙ h) ∙ sym chosen),
      (λ e. tested ∙ (span_same c.receipt.part b).1 (e ∙ chosen)),
    )

piece_spans : (p : Params) (c : Cargo) → c.whole ≡ false → 1 ≤ c.receipt.want.piece → (b : Span)
    → IsTrue (has_span p b c) ↔ (c.receipt.part ≡ cond (c.receipt.want.piece == 0) b (piece_of b p.pieces c.receipt.want.piece))
piece_spans p c whole some b =
    let part = piece_of b p.pieces c.receipt.want.piece in
    let chosen : cond (c.receipt.want.piece == 0) b part ≡ part =
    ap (λ (t : Bool). cond t b part) (not_zero c.receipt.want.piece some) in
    let tested : has_span p b c ≡ same_span c.receipt.part part =
    ap (λ (t : Bool). cond t (same_span c.receipt.part b) (same_span c.receipt.part part)) whole in (
      (λ h. (span_same c.receipt.part part).0 (sym tested ∙ h) ∙ sym chosen),
      (λ e. tested ∙ (span_same c.receipt.part part).1 (e ∙ chosen)),
    )
  where
    not_zero : (n : ℕ) → 1 ≤ n → (n == 0) ≡ false
    not_zero n le = go (n == 0) refl where
      go : (b : Bool) → (n == 0) ≡ b → b ≡ false
      go true e = let none = eqb-true n 0 e in absurd (omega (arith, none, le))
      go false e = refl

whole_rightful : (p : Params) (catalogue : Catalogue) (journals : List (List Entry)) (c : Cargo) → c.whole ≡ true
    → IsTrue (is_rightful p catalogue journals c) ↔ ((c.receipt.want.piece ≡ 0) × IsOfVisit p catalogue journals c.receipt.want c.receipt.part)
whole_rightful p catalogue journals c whole =
    let some = some_tenancy journals c.receipt.want.instance.0 c.receipt.want.visit (fits_tenancy p catalogue c) in
    let shape : is_in_shape p c ≡ (c.receipt.want.piece == 0) =
    ap (λ (t : Bool). cond t (c.receipt.want.piece == 0) (nat_le 1 c.receipt.want.piece && nat_le c.receipt.want.piece p.pieces)) whole in (
      (λ h.
          let none = (equal c.receipt.want.piece 0).0 (sym shape ∙ and_left (is_in_shape p c) some h) in
          (none, (of_visit p catalogue journals c (whole_spans p c whole none)).0 (and_right (is_in_shape p c) some h))),
      (λ g. and_both (is_in_shape p c) some (shape ∙ (equal c.receipt.want.piece 0).1 g.0)
          ((of_visit p catalogue journals c (whole_spans p c whole g.0)).1 g.1)),
    )

piece_rightful : (p : Params) (catalogue : Catalogue) (journals : List (List Entry)) (c : Cargo) → c.whole ≡ false
    → IsTrue (is_rightful p catalogue journals c)
    ↔ ((1 ≤ c.receipt.want.piece) × ((c.receipt.want.piece ≤ p.pieces) × IsOfVisit p catalogue journals c.receipt.want c.receipt.part))
piece_rightful p catalogue journals c whole =
    let some = some_tenancy journals c.receipt.want.instance.0 c.receipt.want.visit (fits_tenancy p catalogue c) in
    let low = nat_le 1 c.receipt.want.piece in
    let high = nat_le c.receipt.want.piece p.pieces in
    let shape : is_in_shape p c ≡ (low && high) =
    ap (λ (t : Bool). cond t (c.receipt.want.piece == 0) (low && high)) whole in (
      (λ h.
          let formed = sym shape ∙ and_left (is_in_shape p c) some h in
          let first = (at_most 1 c.receipt.want.piece).0 (and_left low high formed) in (
            first,
            (
              (at_most c.receipt.want.piece p.pieces).0 (and_right low high formed),
              (of_visit p catalogue journals c (piece_spans p c whole first)).0 (and_right (is_in_shape p c) some h),
            ),
          )),
      (λ g. and_both (is_in_shape p c) some
          (shape ∙ and_both low high ((at_most 1 c.receipt.want.piece).1 g.0) ((at_most c.receipt.want.piece p.pieces).1 g.1.0))
          ((of_visit p catalogue journals c (piece_spans p c whole g.0)).1 g.1.1)),
    )

-- ---- an entry

some_is : (c d : Cargo) → Some c ≡ Some d → c ≡ d
some_is c d e = cc

none_is_some : (c : Cargo) → ◌≡◌ {A = Option Cargo} None (Some c) → ⊥
none_is_some c e = absurd (cc)

taken_rightful : (p : Params) (catalogue : Catalogue) (journals : List (List Entry)) (w : What) (c : Cargo) → cargo_taken w ≡ Some c
    → IsTrue (is_rightful p catalogue journals c) ↔ IsOfPutTenancy p catalogue journals w
taken_rightful p catalogue journals (what.Got link (note.Whole want sent part)) c e =
    subst (λ (d : Cargo). IsTrue (is_rightful p catalogue journals d) ↔ ((want.piece ≡ 0) × IsOfVisit p catalogue journals want part))
    (some_is _ _ e)
    (whole_rightful p catalogue journals (record { whole = true; receipt = record { link = link; want = want; sent = sent; part = part } }) refl)
taken_rightful p catalogue journals (what.Got link (note.Piece want sent part)) c e =
    subst (λ (d : Cargo). IsTrue (is_rightful p catalogue journals d)
    ↔ ((1 ≤ want.piece) × ((want.piece ≤ p.pieces) × IsOfVisit p catalogue journals want part)))
    (some_is _ _ e)
    (piece_rightful p catalogue journals (record { whole = false; receipt = record { link = link; want = want; sent = sent; part = part } }) refl)
taken_rightful p catalogue journals (what.Got link other) c e = absurd (none_is_some c e)
taken_rightful p catalogue journals other c e = absurd (none_is_some c e)

none_taken : (p : Params) (catalogue : Catalogue) (journals : List (List Entry)) (w : What) → cargo_taken w ≡ None
    → IsOfPutTenancy p catalogue journals w
none_taken p catalogue journals (what.Got link (note.Whole want sent part)) e = absurd (none_is_some _ (sym e))
none_taken p catalogue journals (what.Got link (note.Piece want sent part)) e = absurd (none_is_some _ (sym e))
none_taken p catalogue journals (what.Got link other) e = tt
none_taken p catalogue journals other e = tt

pub rightful_entry : (p : Params) (catalogue : Catalogue) (journals : List (List Entry)) (x : Noted) (o : Option Cargo) (c : Cargo) (r : Bool)
    → o ≡ cargo_got p x → o ≡ Some c → r ≡ is_rightful p catalogue journals c → IsTrue r ↔ IsOfPutIfViewers p catalogue journals x
rightful_entry p catalogue journals x o c r got is tested = go (x.node == viewers_of (links_of p)) refl (sym got ∙ is) where
  go : (b : Bool) → (x.node == viewers_of (links_of p)) ≡ b → cond b (cargo_taken x.entry.what) None ≡ Some c
      → IsTrue r ↔ IsOfPutIfViewers p catalogue journals x
  go true here e =
      let law = taken_rightful p catalogue journals x.entry.what c e in (
        (λ t viewers. law.0 (sym tested ∙ t)),
        (λ f. tested ∙ law.1 (f (eqb-true x.node (viewers_of (links_of p)) here))),
      )
  go false here e = absurd (none_is_some c e)

pub other_entry : (p : Params) (catalogue : Catalogue) (journals : List (List Entry)) (x : Noted) (o : Option Cargo)
    → o ≡ cargo_got p x → o ≡ None → IsTrue true ↔ IsOfPutIfViewers p catalogue journals x
other_entry p catalogue journals x o got is = ((λ t. go (x.node == viewers_of (links_of p)) refl (sym got ∙ is)), (λ f. refl)) where
  go : (b : Bool) → (x.node == viewers_of (links_of p)) ≡ b → cond b (cargo_taken x.entry.what) None ≡ None
      → IsOfPutIfViewers p catalogue journals x
  go true here e viewers = none_taken p catalogue journals x.entry.what e
  go false here e viewers = absurd (both_ways (x.node == viewers_of (links_of p)) here (eq-eqb x.node (viewers_of (links_of p)) viewers))
