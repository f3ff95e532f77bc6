-- Worked texts that are no value's.
use Rattle.std.proofs.Common.{◌≡◌, ℕ, List, [], refl, sym, ap, ◌∙◌, arith, codes}
use Rattle.std.specs.Prelude.{slice_index_or}
use Rattle.std.proofs.lemmas.Fmt.{decimal_digit}
use Rattle.audit_text.specs.declared.item.Item.{Item}
use Rattle.audit_text.specs.declared.item.Item.TheVariants as item
use Rattle.audit_text.specs.Lines.{line_of}
use Rattle.audit_read.specs.Begun.{IsFaultyAt}
use Rattle.audit_read.specs.Drafts.{Admits}
use Rattle.audit_read.specs.declared.draft.Draft.TheVariants as draft
use Rattle.audit_text.proofs.Feeds.{from_test}
use Rattle.audit_read.proofs.Fronts.{at_start, at_next, fault_at_end, fault_at_line}

pub empty_faulty : IsFaultyAt [] 1
empty_faulty = fault_at_end [] draft.Empty 1 [] (at_start []) tt (λ whole ended. whole)

pub unended_faulty : IsFaultyAt (codes "tiger 1") 1
unended_faulty =
    let bytes : List ℕ = codes "tiger 1" in
    fault_at_end bytes draft.Empty 1 bytes (at_start bytes) (from_test bytes refl) (λ whole ended. whole)

form_line : line_of item.Version ≡ codes "tiger 1"
unfolding line_of
form_line = rw (decimal_digit 1 (omega arith)) refl

no_other_form : (i : Item) → codes "tiger 2" ≡ line_of i → Admits draft.Empty i → ⊥
no_other_form item.Version said admits = omega (arith, ap (λ (q : List ℕ). slice_index_or q 6 0) (said ∙ form_line))
no_other_form i said admits = admits

pub other_faulty : IsFaultyAt (codes "tiger 2\n") 1
other_faulty =
    let bytes : List ℕ = codes "tiger 2\n" in
    let first : List ℕ = codes "tiger 2" in
    fault_at_line bytes draft.Empty 1 bytes first [] (at_start bytes) refl (from_test first refl) (λ i fits said admits. no_other_form i said admits)

pub early_faulty : IsFaultyAt (codes "tiger 1\n") 2
early_faulty =
    let bytes : List ℕ = codes "tiger 1\n" in
    let first : List ℕ = codes "tiger 1" in
    fault_at_end bytes draft.Begun 2 []
    (at_next bytes draft.Empty draft.Begun 1 bytes first [] (at_start bytes) refl (item.Version, (tt, sym form_line, tt, refl)))
    tt (λ whole ended. whole)
