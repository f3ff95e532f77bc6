-- A want of a whole block is of none of a cub's piece records.
use Rattle.std.proofs.Common.{◌≡◌, ◌≤◌, ◌==◌, ◌&&◌, ◌||◌, nat_le, ℕ, Bool, true, false, List, [], ◌∷◌, refl, sym, ap, ◌∙◌, arith}
use Rattle.std.specs.List.{list_any, AllByRecursion}
use Rattle.std.proofs.lemmas.Bool.{and_parts, leb-true, ne_eqb}
use Rattle.tiger_base.specs.declared.tenancy.PieceState.{PieceState}
use Rattle.tiger_base.specs.declared.tenancy.Want.{Want}
use Rattle.tiger_base.specs.Records.{same_want, want_of_piece}
use Rattle.slot_plan.specs.declared.params.Params.{Params}
use Rattle.node_kit.specs.Form.{is_tenancy}
use Rattle.partial_view.specs.Views.{line_at}
use Rattle.cub_rules.specs.declared.store.Store.{Store}
use Rattle.cub_rules.specs.State.{IsStoreOf, IsPieceAt}
use Rattle.cub_rules.specs.Messages.{is_block_of, is_wanted}

and_never : (b : Bool) → (b && false) ≡ false
and_never true = refl
and_never false = refl

or_never : (b : Bool) → (b || false) ≡ b
or_never true = refl
or_never false = refl

-- wants of other pieces are not the same
others_differ : (a b : Want) → (a.piece == b.piece) ≡ false → same_want a b ≡ false
others_differ a b e =
    let rest = a.instance.0 == b.instance.0 && a.slot.0 == b.slot.0 && a.visit == b.visit && a.file.0 == b.file.0 && a.block == b.block in
    ap (λ (t : Bool). rest && t) e ∙ and_never rest

-- a piece record's piece is never 0
piece_is_some : (p : Params) (cub : ℕ) (x : PieceState) → IsPieceAt p cub x → 1 ≤ x.piece
piece_is_some p cub x h =
    let of_piece = nat_le 1 x.piece && nat_le x.piece p.pieces in
    let of_visit = nat_le x.tenancy.first x.visit && nat_le x.visit x.tenancy.last in
    leb-true _ _ (and_parts (nat_le 1 x.piece) (nat_le x.piece p.pieces) (and_parts (is_tenancy p x.tenancy && of_visit) of_piece h.in_form).1).0

-- no piece record is of a whole block
no_piece_of : (p : Params) (cub : ℕ) (want : Want) (xs : List PieceState) → want.piece ≡ 0 → AllByRecursion (IsPieceAt p cub) xs
    → list_any (λ x. same_want want (want_of_piece x)) xs ≡ false
no_piece_of p cub want [] none all = refl
no_piece_of p cub want (x ∷ xs) none all =
    let some = piece_is_some p cub x all.0 in
    let differ = others_differ want (want_of_piece x) (ne_eqb want.piece x.piece (λ e. absurd (omega (arith, none, e, some)))) in
    ap (λ (t : Bool). t || list_any (λ y. same_want want (want_of_piece y)) xs) differ ∙ no_piece_of p cub want xs none all.1

-- so a whole block is looked for among the records alone
pub block_alone : (p : Params) (cub : ℕ) (want : Want) (h : Store) → IsStoreOf p cub h → want.piece ≡ 0
    → is_block_of want (line_at (want.slot, want.visit) h.view.lines) ≡ is_wanted want h
unfolding is_wanted
block_alone p cub want h kept none =
    let of_record = is_block_of want (line_at (want.slot, want.visit) h.view.lines) in
    sym (ap (λ (t : Bool). of_record || t) (no_piece_of p cub want h.pieces.items none kept.pieces) ∙ or_never of_record)
