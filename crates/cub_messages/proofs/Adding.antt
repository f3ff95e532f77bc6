-- What adding a record tells of the view.
use Rattle.std.proofs.Common.{◌≡◌, ◌==◌, ℕ, Bool, true, false, cond, Option, Some, None, is_some, List, refl, sym, ap, ◌∙◌}
use Rattle.std.proofs.lemmas.Bool.{both_ways}
use Rattle.std.proofs.lemmas.List.{append-nil}
use Rattle.tiger_base.specs.declared.number.Instance.{Instance}
use Rattle.tiger_base.specs.declared.tenancy.PieceState.{PieceState}
use Rattle.tiger_base.specs.declared.tenancy.Rec.{Rec}
use Rattle.tiger_base.specs.declared.message.Msg.{Msg}
use Rattle.slot_plan.specs.declared.params.Params.{Params}
use Rattle.node_kit.specs.declared.outbox.Out.{Out}
use Rattle.partial_view.specs.declared.line.Line.{Line}
use Rattle.partial_view.specs.declared.view.Added.{Added}
use Rattle.partial_view.specs.declared.view.Added.TheVariants.{New, Known, Other}
use Rattle.partial_view.specs.Lines.{visit_of, instance_of}
use Rattle.partial_view.specs.Views.{Seen, line_at, with_record}
use Rattle.partial_view.specs.Adding.{answer_at, answer_to}
use Rattle.mirror_schedule.specs.Sorted.{gap_from, with_one}
use Rattle.mirror_schedule.specs.Pieces.{IsPieces, Pieces, comes_before, is_in, with_piece}
use Rattle.mirror_schedule.proofs.Orders.{with_one-there}
use Rattle.mirror_schedule.proofs.PieceLists.{is_in-new}
use Rattle.node_kit.specs.Deeds.{Did}
use Rattle.cub_rules.specs.declared.store.Store.{Store}
use Rattle.cub_rules.specs.Records.{took, view_with, pieces_with}

pub new_where_none : (r : Rec) (lines : List Line) → New ≡ answer_to r lines → is_some (line_at (visit_of r) lines) ≡ false
new_where_none r lines e = by_line (line_at (visit_of r) lines) e
  where
    known : (b : Bool) (v : Instance) → New ≡ cond b Known (Other v) → true ≡ false
    known true v e = absurd (cc)
    known false v e = absurd (cc)

    by_line : (o : Option Line) → New ≡ answer_at r.tenancy.instance o → is_some o ≡ false
    by_line None e = refl
    by_line (Some x) e = known ((instance_of x).0 == r.tenancy.instance.0) (instance_of x) e

pub known_where_some : (r : Rec) (lines : List Line) (a : Added) → a ≡ answer_to r lines → (a ≡ New → ⊥) → is_some (line_at (visit_of r) lines) ≡ true
known_where_some r lines a e not_new = by_line (line_at (visit_of r) lines) e
  where
    by_line : (o : Option Line) → a ≡ answer_at r.tenancy.instance o → is_some o ≡ true
    by_line None e = absurd (not_new e)
    by_line (Some x) e = refl

-- a record that is there already changes nothing
pub known_took : (r : Rec) (h : Store) (view : Seen) (outs : List (Out Msg)) → is_some (line_at (visit_of r) h.view.lines) ≡ true → view ≡ view_with r h.view
    → Did (took r h) outs outs (record h { view = view })
unfolding took with_record
known_took r h view outs there is =
    let same : view ≡ h.view = is ∙ rw there refl in
    rw there (sym (append-nil outs), ap (λ (v : Seen). record h { view = v }) same)

-- a piece that is there already stays as it is
pub known_piece : (p : Params) (x : PieceState) (items : List PieceState) → IsPieces p items → is_in x items ≡ true → with_piece p x items ≡ items
unfolding with_piece
known_piece p x items h there = by_gap (gap_from (comes_before p) x 0 items) refl
  where
    by_gap : (o : Option ℕ) → gap_from (comes_before p) x 0 items ≡ o → with_one (comes_before p) x items ≡ items
    by_gap None e = with_one-there (comes_before p) x 0 items e
    by_gap (Some place) e = absurd (both_ways (is_in x items) (is_in-new p x items place h e) there)

-- a set with a piece more, or the same one where the piece is there already
pub added_is : (x : PieceState) (ps after : Pieces) → IsPieces ps.params ps.items → after ≡ pieces_with x ps → after ≡ cond (is_in x ps.items) ps (pieces_with x ps)
added_is x ps after h e = by_test (is_in x ps.items) refl
  where
    by_test : (t : Bool) → is_in x ps.items ≡ t → after ≡ cond t ps (pieces_with x ps)
    by_test true there = e ∙ ap (λ (xs : List PieceState). record ps { items = xs }) (known_piece ps.params x ps.items h there)
    by_test false there = e
