-- The buckets beside a span have no line of its instance: a search for one passes over them.
use Rattle.std.proofs.Common.{◌≡◌, ℕ, ◌+◌, ◌-◌, ◌<◌, ◌≤◌, zero, suc, List, [], ◌∷◌, length, get_or, drop, Option, Some, None, refl, sym, ap, subst, ◌∙◌, arith}
use Rattle.tiger_base.specs.declared.number.Instance.{Instance}
use Rattle.slot_plan.specs.declared.params.Params.{Params}
use Rattle.partial_view.specs.declared.line.Line.{Line}
use Rattle.partial_view.specs.declared.spread.Span.{Span}
use Rattle.partial_view.specs.Views.{Seen, first_of}
use Rattle.partial_view.specs.Wheel.{all_lines, IsWheel, sooner}
use Rattle.partial_view.specs.Spread.{IsInSpan, AreInSpan}
use Rattle.partial_view.proofs.Soonest.{of-init, of-step}
use Rattle.partial_view.proofs.Within.{in-bucket, none-in}

get-own : (bs : List Seen) (i : ℕ) (d : Seen) → i < length bs → get_or bs i d ≡ get_or bs i (get_or bs i d)
get-own [] i d l = absurd (omega arith)
get-own (b ∷ bs) zero d l = refl
get-own (b ∷ bs) (suc i) d l = get-own bs i d (omega arith)

module _ (p : Params) (bs : List Seen) (v : Instance) (span : Option Span) (h : IsWheel p bs) (within : AreInSpan p v span (all_lines p bs)) where
  passed : (i : ℕ) → i < length bs → (IsInSpan span i → ⊥) → first_of v (all_lines p (drop (suc i) bs)) ≡ first_of v (all_lines p (drop i bs))
  passed i l out =
      let b = get_or bs i (record { params = p; lines = [] }) in
      let own : b ≡ get_or bs i b = get-own bs i (record { params = p; lines = [] }) l in
      let one : suc i - 1 ≡ i = omega arith in
      let e : b ≡ get_or bs (suc i - 1) b = own ∙ ap (λ (n : ℕ). get_or bs n b) (sym one) in
      of-step p bs (suc i) b h (omega arith) (omega (arith, l)) e v refl (none-in v span i b.lines out (in-bucket p v span bs i b h l own within)) refl
      ∙ ap (λ (n : ℕ). first_of v (all_lines p (drop n bs))) one

  behind : (k to : ℕ) → to + k ≡ length bs → ((i : ℕ) → to ≤ i → i < length bs → IsInSpan span i → ⊥) → None ≡ first_of v (all_lines p (drop to bs))
  behind zero to e out =
      let all : length bs ≡ to = omega (arith, e) in
      of-init p bs v ∙ ap (λ n. first_of v (all_lines p (drop n bs))) all
  behind (suc k) to e out =
      behind k (suc to) (omega (arith, e)) (λ i from l. out i (omega (arith, from)) l) ∙ passed to (omega (arith, e)) (out to (omega arith) (omega (arith, e)))

  -- behind the span the search finds nothing
  pub none-behind : (to : ℕ) → to ≤ length bs → ((i : ℕ) → to ≤ i → i < length bs → IsInSpan span i → ⊥) → None ≡ first_of v (all_lines p (drop to bs))
  none-behind to l out = behind (length bs - to) to (omega (arith, l)) out

  -- and below it nothing more
  pub none-below : (from : ℕ) → from ≤ length bs → ((i : ℕ) → i < from → IsInSpan span i → ⊥) → first_of v (all_lines p (drop from bs)) ≡ first_of v (all_lines p bs)
  none-below zero l out = refl
  none-below (suc from) l out = passed from (omega (arith, l)) (out from (omega arith)) ∙ none-below from (omega (arith, l)) (λ i below. out i (omega (arith, below)))
