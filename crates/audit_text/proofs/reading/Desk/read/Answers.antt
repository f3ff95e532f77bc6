use Rattle.std.proofs.Common.{◌≡◌, ◌∙◌, ◌++◌, List, ℕ, sym, ap, Some}
use Rattle.std.proofs.lemmas.Bool.{both_ways}
use Rattle.audit_text.specs.declared.item.Item.{Item}
use Rattle.audit_text.specs.Fits.{ItemFits}
use Rattle.audit_text.specs.Lines.{line_of}
use Rattle.audit_text.specs.Reading.{word_in, item_by}
use Rattle.audit_text.proofs.Again.{line_again}
use Rattle.audit_text.proofs.reading.Desk.read.Goals as goal
use Rattle.audit_text.proofs.reading.Desk.read.Goals.{In_ok-item}

-- what was read is the item whose line it is
is_item : (c : In_ok-item) (i : Item) → ItemFits i → c.args.line.now ≡ line_of i → c.in_ok-item.item ≡ i
is_item c i fits is =
    c.in_ok-item.ensures
    ∙ ap (λ w. item_by w c.args.line.now c.as_slice-ns.result.now) c.word_in.ensures
    ∙ ap (item_by (word_in c.args.line.now) c.args.line.now) (c.as_slice-ns.ensures.value ∙ c.in_ok-read_numbers.ensures)
    ∙ line_again i c.args.line.now fits is

pub returns-then-is_same-clause-only : goal.returns-then-is_same-clause-only
returns-then-is_same-clause-only c i fits is = ap (λ (x : Item). Some x) (is_item (goal.at.returns-then-is_same-clause-only c).In_ok-item i fits is)

pub returns-else-is_same-clause-only : goal.returns-else-is_same-clause-only
returns-else-is_same-clause-only c i fits is =
    let same : c.as_slice.result.now ≡ c.args.line.now =
    c.as_slice.ensures.value ∙ c.in_ok-push_item.ensures
    ∙ ap (λ (q : List ℕ). q ++ line_of c.in_ok-item.item) c.clear.ensures.items
    ∙ ap line_of (is_item (goal.at.returns-else-is_same-clause-only c).In_ok-item i fits is) ∙ sym is in
    absurd (both_ways _ c.if-is_same.false (c.is_same.ensures.1 same))
