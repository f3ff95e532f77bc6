-- Rows of instances, of which one is changed.
use Rattle.std.proofs.Common.{◌≡◌, ◌≢◌, ℕ, zero, suc, [], ◌∷◌, ◌++◌, Bool, true, false, ◌==◌, ◌&&◌, Option, Some, None, if◌then◌else◌, refl, sym, ap, subst, ◌∙◌}
use Rattle.std.specs.Prelude.{slice_get, slice_set, unwrap_or}
use Rattle.std.specs.Option.{option_or}
use Rattle.std.proofs.lemmas.Bool.{eqb-true, eq-eqb, false≢true}
use Rattle.std.proofs.lemmas.Option.{none-some}
use Rattle.visit_rows.specs.Rows.{Position, is_position, thing_at, row_with}
use Rattle.visit_rows.proofs.Under.{or_none}
use Rattle.visit_rows.proofs.Rows.{first_stays}
use Rattle.run_report.specs.declared.firsts.Key.{Key}
use Rattle.run_report.specs.Tables.{RowBeats, Beats, row_of, beat_under, is_same, HasKeptAt}

-- an empty row more
row-pushed : (rows : Beats) (v : ℕ) → row_of (rows ++ [] ∷ []) v ≡ row_of rows v
row-pushed [] zero = refl
row-pushed [] (suc v) = refl
row-pushed (r ∷ rs) zero = refl
row-pushed (r ∷ rs) (suc v) = row-pushed rs v

pub row-more : (rows new : Beats) (row : RowBeats) → new ≡ rows ++ row ∷ [] → row ≡ [] → (v : ℕ)
    → row_of new v ≡ row_of rows v
row-more rows new row e none v =
    ap (λ (q : Beats). row_of q v) (e ∙ ap (λ (r : RowBeats). rows ++ r ∷ []) none) ∙ row-pushed rows v

row-set : (rows : Beats) (n : ℕ) (t new : RowBeats) → slice_get rows n ≡ Some t
    → row_of (slice_set rows n new) n ≡ new
row-set [] n t new at = absurd (none-some t at)
row-set (r ∷ rs) zero t new at = refl
row-set (r ∷ rs) (suc n) t new at = row-set rs n t new at

row-other : (rows : Beats) (n v : ℕ) (new : RowBeats) → n ≢ v
    → row_of (slice_set rows n new) v ≡ row_of rows v
row-other [] n v new other = refl
row-other (r ∷ rs) zero zero new other = absurd (other refl)
row-other (r ∷ rs) zero (suc v) new other = refl
row-other (r ∷ rs) (suc n) zero new other = refl
row-other (r ∷ rs) (suc n) (suc v) new other = row-other rs n v new (λ e. other (ap suc e))

pub kept-row : (rows : Beats) (n : ℕ) (p : Position) (beat : ℕ) (old new : RowBeats)
    → slice_get rows n ≡ Some old → new ≡ row_with p beat old → HasKeptAt n p beat rows (slice_set rows n new)
kept-row rows n p beat old new at kept v q = by_test (n == v) refl
  where
    by_test : (b : Bool) → (n == v) ≡ b → thing_at q (row_of (slice_set rows n new) v)
        ≡ option_or (thing_at q (row_of rows v)) (if b && is_position p q then Some beat else None)
    by_test true f =
        let here : v ≡ n = sym (eqb-true n v f) in
        subst (λ (x : ℕ). thing_at q (row_of (slice_set rows n new) x)
        ≡ option_or (thing_at q (row_of rows x)) (if is_position p q then Some beat else None))
        (sym here)
        (ap (thing_at q) (row-set rows n old new at)
        ∙ (ap (thing_at q) kept
        ∙ (first_stays p q beat old
        ∙ ap (λ (row : RowBeats). option_or (thing_at q row) (if is_position p q then Some beat else None))
        (sym (ap (λ (o : Option RowBeats). unwrap_or o []) at)))))
    by_test false f =
        ap (thing_at q) (row-other rows n v new (λ e. false≢true (sym f ∙ eq-eqb n v e)))
        ∙ sym (or_none (thing_at q (row_of rows v)))

-- the same by keys, of rows that are those of a table but for empty ones
pub kept-key : (k q : Key) (beat : ℕ) (old mid new : Beats) → ((v : ℕ) → row_of mid v ≡ row_of old v)
    → HasKeptAt k.instance.0 (k.visit, k.piece) beat mid new
    → beat_under q new ≡ option_or (beat_under q old) (if is_same k q then Some beat else None)
kept-key k q beat old mid new same kept =
    kept q.instance.0 (q.visit, q.piece)
    ∙ (ap (λ (row : RowBeats). option_or (thing_at (q.visit, q.piece) row) (if here && there then Some beat else None))
    (same q.instance.0)
    ∙ ap (λ (b : Bool). option_or (beat_under q old) (if b then Some beat else None))
    (and_assoc here (k.visit == q.visit) (k.piece == q.piece)))
  where
    here : Bool
    here = k.instance.0 == q.instance.0

    there : Bool
    there = k.visit == q.visit && k.piece == q.piece

    and_assoc : (a b c : Bool) → (a && (b && c)) ≡ (a && b && c)
    and_assoc true b c = refl
    and_assoc false b c = refl
