-- Tests of which the first is settled.
use Rattle.std.proofs.Common.{◌≡◌, ◌≤◌, Bool, true, false, ◌&&◌, ◌==◌, nat_le, cond, ap, sym, ◌∙◌}
use Rattle.slot_plan.specs.declared.params.Params.{Params}
use Rattle.run_model.proofs.Reflects.{and_left, and_right, at_most}
use Rattle.audit_blocks.specs.declared.cargo.Cargo.{Cargo}
use Rattle.audit_blocks.specs.Rightful.{is_in_shape}

pub both_true : (shape r a rest : Bool) → r ≡ shape → r ≡ true → a ≡ rest → a ≡ (shape && rest)
both_true shape r a rest e t h = h ∙ ap (λ (b : Bool). b && rest) (sym t ∙ e)

pub first_not : (shape r rest : Bool) → r ≡ shape → r ≡ false → false ≡ (shape && rest)
first_not shape r rest e f = ap (λ (b : Bool). b && rest) (sym f ∙ e)

-- a piece that is in shape has a number of the pieces
numbered : (p : Params) (c : Cargo) → c.whole ≡ false → is_in_shape p c ≡ true
    → (nat_le 1 c.receipt.want.piece && nat_le c.receipt.want.piece p.pieces) ≡ true
numbered p c piece shape =
    sym (ap (λ (t : Bool). cond t (c.receipt.want.piece == 0) (nat_le 1 c.receipt.want.piece && nat_le c.receipt.want.piece p.pieces)) piece)
    ∙ shape

pub shape_first : (p : Params) (c : Cargo) → c.whole ≡ false → is_in_shape p c ≡ true → 1 ≤ c.receipt.want.piece
shape_first p c piece shape =
    (at_most 1 c.receipt.want.piece).0
    (and_left (nat_le 1 c.receipt.want.piece) (nat_le c.receipt.want.piece p.pieces) (numbered p c piece shape))

pub shape_last : (p : Params) (c : Cargo) → c.whole ≡ false → is_in_shape p c ≡ true → c.receipt.want.piece ≤ p.pieces
shape_last p c piece shape =
    (at_most c.receipt.want.piece p.pieces).0
    (and_right (nat_le 1 c.receipt.want.piece) (nat_le c.receipt.want.piece p.pieces) (numbered p c piece shape))
