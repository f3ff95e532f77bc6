use Rattle.std.proofs.Common.{◌≡◌, ◌∙◌, ℕ, List, Bool, false, IsTrue, Option, Some, None, Result, Ok, Err, sym, subst}
use Rattle.std.specs.Prelude.{IfOk, if◌then◌else◌}
use Rattle.std.proofs.lemmas.Bool.{both_ways}
use Rattle.node_kit.specs.declared.journal.Entry.{Entry}
use Rattle.audit_text.specs.declared.item.Item.{Item}
use Rattle.audit_text.specs.declared.item.Item.TheVariants as item
use Rattle.audit_text.specs.Fits.{ItemFits}
use Rattle.audit_text.specs.Lines.{line_of}
use Rattle.audit_text.proofs.Feeds.{one_line}
use Rattle.audit_read.specs.Cuts.{Says}
use Rattle.audit_read.specs.Drafts.{Admits, IsNext, IsRead}
use Rattle.audit_read.specs.declared.draft.Draft.{Draft}
use Rattle.audit_read.proofs.read.read_next.Goals as goal

-- a line that says what does not fit is the line of nothing that fits
not_fitting : (d : Draft) (line : List ℕ) (o : Option Item) (i : Item) (whole : Bool)
    → ((x : Item) → ItemFits x → line ≡ line_of x → o ≡ Some x) → o ≡ Some i
    → (IsTrue whole → ItemFits i) × (ItemFits i → IsTrue whole) → whole ≡ false → IsRead d line None
not_fitting d line o i whole only is fits not = λ x fit said admits.
    let same : x ≡ i = one_of x i (sym (only x fit said) ∙ is) in
    both_ways whole not (fits.1 (subst ItemFits same fit)) where
      one_of : (x i : Item) → ◌≡◌ {A = Option Item} (Some x) (Some i) → x ≡ i
      one_of x i e = cc

pub returns-then-not-item_fits : goal.returns-then-not-item_fits
returns-then-not-item_fits c =
    not_fitting c.args.draft.now c.args.line.now c.in_ok-item.field-0 c.in-Some-2.item c.item_fits.result
    c.in_ok-item.ensures.only c.in-Some-2.is c.item_fits.ensures c.if-not-item_fits.true

-- the entry that the line says is the only item that it is the line of
entry_read : (d : Draft) (line : List ℕ) (e : Entry) (o : Option Draft) → (line ≡ line_of (item.Entry e)) × ItemFits (item.Entry e)
    → IsNext d (item.Entry e) o → IsRead d line o
entry_read d line e None said next = λ i fit is admits.
    next (subst (λ (x : Item). Admits d x) (one_line i (item.Entry e) fit said.1 (sym is ∙ said.0)) admits)
entry_read d line e (Some x) said next = (item.Entry e, (said.1, said.0, next.0, next.1))

entry_done : {E : Type 0} (d after : Draft) (line : List ℕ) (e : Entry) (r : Result Bool E) → (line ≡ line_of (item.Entry e)) × ItemFits (item.Entry e)
    → IfOk r (λ b. IsNext d (item.Entry e) (if b then Some after else None))
    → IfOk r (λ b. IsRead d line (if b then Some after else None))
entry_done d after line e (Ok b) said next = entry_read d line e (if b then Some after else None) said next
entry_done d after line e (Err x) said next = tt

pub returns-in-Some : goal.returns-in-Some
returns-in-Some c =
    entry_done c.args.draft.now _ c.args.line.now c.in-Some.entry c.entry.result
    (subst (λ (o : Option Entry). Says c.args.line.now o) c.in-Some.is c.requires.says) c.entry.ensures
