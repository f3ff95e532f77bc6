-- Split visits whose instances are noted, as some come and others go.
use Rattle.std.proofs.Common.{◌≡◌, ℕ, ◌==◌, Bool, false, List, [], ◌∷◌, length, take, sym, subst}
use Rattle.std.specs.List.{AllByRecursion, filter, insert, remove}
use Rattle.std.proofs.Math.Seq.{take-length}
use Rattle.tiger_base.specs.declared.number.Instance.{Instance}
use Rattle.instance_marks.specs.Marks.{IsNoted}
use Rattle.mirror_schedule.specs.Splits.{Split, AreNoted, is_of}
use Rattle.mirror_schedule.proofs.Orders.{all_filter, all_more}
use Rattle.mirror_schedule.proofs.Timed.{all_insert, all_remove}

pub noted_left : (marks : List Bool) (keep : Split × ℕ → Bool) (items now : List (Split × ℕ)) → now ≡ filter keep items → AreNoted marks items → AreNoted marks now
noted_left marks keep items now e h =
    subst (λ (ys : List (Split × ℕ)). AreNoted marks ys) (sym e) (all_filter (λ x. IsNoted marks x.0.0) keep items h)

pub noted_still : (marks grown : List Bool) (items : List (Split × ℕ)) → ((v : Instance) → IsNoted marks v → IsNoted grown v) → AreNoted marks items → AreNoted grown items
noted_still marks grown items keeps h = all_more (λ x. IsNoted marks x.0.0) (λ x. IsNoted grown x.0.0) (λ x g. keeps x.0.0 g) items h

pub noted_more : (marks : List Bool) (items now : List (Split × ℕ)) (place : ℕ) (x : Split × ℕ) → now ≡ insert items place x → AreNoted marks items → IsNoted marks x.0.0 → AreNoted marks now
noted_more marks items now place x e h own =
    subst (λ (ys : List (Split × ℕ)). AreNoted marks ys) (sym e) (all_insert (λ y. IsNoted marks y.0.0) items place x h own)

pub noted_fewer : (marks : List Bool) (items now : List (Split × ℕ)) (place : ℕ) → now ≡ remove items place → AreNoted marks items → AreNoted marks now
noted_fewer marks items now place e h =
    subst (λ (ys : List (Split × ℕ)). AreNoted marks ys) (sym e) (all_remove (λ y. IsNoted marks y.0.0) items place h)

-- none is of an instance that is not noted
none_of : (marks : List Bool) (v : Instance) (items : List (Split × ℕ)) → ((w : Instance) → IsNoted marks w → (w.0 == v.0) ≡ false) → AreNoted marks items → AllByRecursion (λ x. is_of v x.0 ≡ false) items
none_of marks v items none h = all_more (λ x. IsNoted marks x.0.0) (λ x. is_of v x.0 ≡ false) (λ x g. none x.0.0 g) items h

pub none_taken : (marks : List Bool) (v : Instance) (items : List (Split × ℕ)) → ((w : Instance) → IsNoted marks w → (w.0 == v.0) ≡ false) → AreNoted marks items → AllByRecursion (λ x. is_of v x.0 ≡ false) (take (length items) items)
none_taken marks v items none h = subst (λ (ys : List (Split × ℕ)). AllByRecursion (λ x. is_of v x.0 ≡ false) ys) (sym (take-length items)) (none_of marks v items none h)

-- those of other instances stay noted without one
pub noted_without : (marks now : List Bool) (v : Instance) (items : List (Split × ℕ)) → ((w : Instance) → IsNoted marks w → (w.0 == v.0) ≡ false → IsNoted now w) → AllByRecursion (λ x. is_of v x.0 ≡ false) (take (length items) items) → AreNoted marks items
    → AreNoted now items
noted_without marks now v items keeps none h = both items (subst (λ (ys : List (Split × ℕ)). AllByRecursion (λ x. is_of v x.0 ≡ false) ys) (take-length items) none) h
  where
    both : (xs : List (Split × ℕ)) → AllByRecursion (λ x. is_of v x.0 ≡ false) xs → AreNoted marks xs → AreNoted now xs
    both [] g h = tt
    both (x ∷ xs) g h = (keeps x.0.0 h.0 g.0, both xs g.1 h.1)
