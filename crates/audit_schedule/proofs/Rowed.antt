-- The read faults of each disk stand in a row of its own.
use Rattle.std.proofs.Common.{◌≡◌, ℕ, ◌+◌, ◌<◌, ◌≤◌, Bool, true, false, ◌&&◌, ◌||◌, ◌==◌, nat_le, nat_lt, List, [], ◌∷◌, ◌++◌, length, take, get_or, refl, sym, ap, subst, ◌∙◌}
use Rattle.std.specs.List.{list_any}
use Rattle.std.proofs.lemmas.Bool.{eqb-true, eqb-false}
use Rattle.std.proofs.lemmas.List.{take_more, take_all}
use Rattle.std.proofs.lemmas.List.Folds.{list_any-append}
use Rattle.node_kit.specs.declared.course.ReadFault.{ReadFault}
use Rattle.audit_frame.proofs.Added.{or_false}
use Rattle.audit_schedule.specs.Failures.{lasts_at}
use Rattle.audit_schedule.specs.DiskRows.{AreFaultRows, HasTakenFault}

-- ---- a fault more

some_more : (test : ReadFault → Bool) (faults : List ReadFault) (f : ReadFault) → list_any test (faults ++ f ∷ []) ≡ (list_any test faults || test f)
some_more test faults f = list_any-append test faults (f ∷ []) ∙ ap (λ (b : Bool). list_any test faults || b) (or_false (test f))

-- one of another disk
other_disk : (disk beat : ℕ) (f : ReadFault) → (f.disk.0 == disk) ≡ false → lasts_at disk beat f ≡ false
other_disk disk beat f e = ap (λ (b : Bool). b && ((nat_le f.from beat) && (nat_lt beat f.until))) e

pub row_taken : (f : ReadFault) (front : List ReadFault) (old new : List (List ReadFault)) → HasTakenFault f.disk.0 f old new
    → AreFaultRows old front → AreFaultRows new (front ++ f ∷ [])
row_taken f front old new taken before disk beat = go (f.disk.0 == disk) refl where
  go : (b : Bool) → (f.disk.0 == disk) ≡ b
      → list_any (lasts_at disk beat) (get_or new disk []) ≡ list_any (lasts_at disk beat) (front ++ f ∷ [])
  go true e =
      let same : f.disk.0 ≡ disk = eqb-true f.disk.0 disk e in
      let here : get_or new disk [] ≡ get_or old disk [] ++ f ∷ [] =
      subst (λ (d : ℕ). get_or new d [] ≡ get_or old d [] ++ f ∷ []) same taken.here in
      ap (list_any (lasts_at disk beat)) here
      ∙ (some_more (lasts_at disk beat) (get_or old disk []) f
      ∙ (ap (λ (b : Bool). b || lasts_at disk beat f) (before disk beat)
      ∙ sym (some_more (lasts_at disk beat) front f)))
  go false e =
      ap (list_any (lasts_at disk beat)) (taken.beside disk (λ g. eqb-false f.disk.0 disk e (sym g)))
      ∙ (before disk beat
      ∙ (sym (or_false (list_any (lasts_at disk beat) front))
      ∙ (ap (λ (b : Bool). list_any (lasts_at disk beat) front || b) (sym (other_disk disk beat f e))
      ∙ sym (some_more (lasts_at disk beat) front f))))

-- a fault more in a row, once there is one
pub taken_here : (place : ℕ) (f : ReadFault) (old mid new : List (List ReadFault)) → ((n : ℕ) → get_or mid n [] ≡ get_or old n [])
    → HasTakenFault place f mid new → HasTakenFault place f old new
taken_here place f old mid new same taken = record {
  here = taken.here ∙ ap (λ (row : List ReadFault). row ++ f ∷ []) (same place);
  beside = λ k apart. taken.beside k apart ∙ same k;
}

-- ---- all faults

pub no_rows : (rows : List (List ReadFault)) → rows ≡ [] → AreFaultRows rows []
no_rows rows e disk beat = ap (λ (rs : List (List ReadFault)). list_any (lasts_at disk beat) (get_or rs disk [])) e

pub one_row_more : (i : ℕ) (faults : List ReadFault) (d : ReadFault) (old new : List (List ReadFault)) → i < length faults
    → HasTakenFault (get_or faults i d).disk.0 (get_or faults i d) old new → AreFaultRows old (take i faults)
    → AreFaultRows new (take (i + 1) faults)
one_row_more i faults d old new low taken before =
    subst (λ (fs : List ReadFault). AreFaultRows new fs) (sym (take_more faults i d low))
    (row_taken (get_or faults i d) (take i faults) old new taken before)

pub all_rows : (i : ℕ) (faults : List ReadFault) (rows : List (List ReadFault)) → length faults ≤ i → AreFaultRows rows (take i faults)
    → AreFaultRows rows faults
all_rows i faults rows over before = subst (λ (fs : List ReadFault). AreFaultRows rows fs) (take_all i faults over) before

-- ---- what is asked

pub row_tells : (disk beat : ℕ) (view all : List ReadFault) (rows : List (List ReadFault)) (r : Bool) → all ≡ view → AreFaultRows rows all
    → r ≡ list_any (lasts_at disk beat) (get_or rows disk []) → r ≡ list_any (lasts_at disk beat) view
row_tells disk beat view all rows r is stand told =
    told ∙ (stand disk beat ∙ ap (list_any (lasts_at disk beat)) is)
