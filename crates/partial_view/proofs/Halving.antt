-- What a comparison with a line that stands beside its due time says.
use Rattle.std.proofs.Common.{◌≡◌, ℕ, ◌<◌, ◌≤◌, Bool, true, false, not, nat_le, List, length, get_or, refl, sym, ap, ◌∙◌, arith}
use Rattle.std.proofs.lemmas.Bool.{le-leb, lt-leb, leb-true, leb-false}
use Rattle.slot_plan.specs.declared.params.Params.{Params}
use Rattle.slot_plan.specs.Keys.{Key, is_earlier, due_of}
use Rattle.partial_view.specs.declared.line.Line.{Line}
use Rattle.partial_view.specs.Dues.{AreTimed}
use Rattle.partial_view.specs.Lines.{key_of}
use Rattle.partial_view.specs.Views.{place_of, place_from}
use Rattle.partial_view.proofs.Dues.{as-many, due-any, with-line}
use Rattle.partial_view.proofs.Places.{above_by, below_by, place_most, above_from, below_from, from_most}

-- a test of numbers that was made
pub yes_le : {b : Bool} {m n : ℕ} → b ≡ nat_le m n → b ≡ true → m ≤ n
yes_le e h = leb-true _ _ (sym e ∙ h)

pub no_le : {b : Bool} {m n : ℕ} → b ≡ nat_le m n → b ≡ false → n < m
no_le e h = leb-false _ _ (sym e ∙ h)

-- what a comparison with the line at a place says of how many come before
module _ (p : Params) (k : Key) (lines : List Line) (dues : List ℕ) (i : ℕ) (timed : AreTimed p lines dues) where
  pub past_by : length dues ≤ i → true ≡ nat_le (place_of p k lines) i
  past_by l =
      sym (le-leb _ _ (omega (arith, l, as-many p lines dues timed.0, place_most p k lines)))

  told_by : (d : Line) (j : Key) (b : Bool) → j ≡ key_of (get_or lines i d) → i < length lines → b ≡ is_earlier p j k → not b ≡ nat_le (place_of p k lines) i
  told_by d j true e l is =
      let above = above_by p k lines i d j e timed.1 l is refl in
      sym (lt-leb _ _ (omega (arith, above)))
  told_by d j false e l is =
      sym (le-leb _ _ (below_by p k lines i d j e timed.1 l is refl))

  pub is_by-told : (due there : ℕ) (d : Line) (n : ℕ) (j : Key) {b : Bool} → there ≡ get_or dues i n → j ≡ key_of (get_or lines i d) → i < length dues → due ≡ due_of p k
      → ((q : Params) → there ≡ due_of q j → due ≡ due_of q k → b ≡ is_earlier q j k) → not b ≡ nat_le (place_of p k lines) i
  is_by-told due there d n j {b} here e l is tells =
      let inside : i < length lines = omega (arith, l, as-many p lines dues timed.0) in
      told_by d j b e inside (tells p (due-any p lines dues i there n d timed.0 inside here ∙ ap (due_of p) (sym e)) is)

-- and of how many are due before a time
module _ (p : Params) (time : ℕ) (lines : List Line) (dues : List ℕ) (i : ℕ) (timed : AreTimed p lines dues) where
  pub past_due : length dues ≤ i → true ≡ nat_le (place_from p time lines) i
  past_due l =
      sym (le-leb _ _ (omega (arith, l, as-many p lines dues timed.0, from_most p time lines)))

  pub due_told : (there n : ℕ) → there ≡ get_or dues i n → i < length dues → nat_le time there ≡ nat_le (place_from p time lines) i
  due_told there n here l = with-line lines i _ inside (λ d. cases d (nat_le time there) refl)
    where
      inside : i < length lines
      inside = omega (arith, l, as-many p lines dues timed.0)

      due_here : (d : Line) → there ≡ due_of p (key_of (get_or lines i d))
      due_here d = due-any p lines dues i there n d timed.0 inside here

      cases : (d : Line) (b : Bool) → nat_le time there ≡ b → nat_le time there ≡ nat_le (place_from p time lines) i
      cases d true h =
          h ∙ sym (le-leb _ _ (below_from p time lines i d (key_of (get_or lines i d)) refl timed.1 inside (omega (arith, leb-true _ _ h, due_here d))))
      cases d false h =
          let above = above_from p time lines i d (key_of (get_or lines i d)) refl timed.1 inside (omega (arith, leb-false _ _ h, due_here d)) in
          h ∙ sym (lt-leb _ _ (omega (arith, above)))
