-- What lines give and become of which none passes a test.
use Rattle.std.proofs.Common.{◌≡◌, Bool, false, cond, refl, List, [], ◌∷◌, map, ap}
use Rattle.std.specs.List.{AllByRecursion, flat_map}
use Rattle.partial_view.specs.declared.line.Line.{Line}

-- lines of which none passes a test give nothing, and become nothing else
pub none_given : {X : Type 0} (test : Line → Bool) (f : Line → List X) (lines : List Line) → AllByRecursion (λ x. test x ≡ false) lines → flat_map (λ x. cond (test x) (f x) []) lines ≡ []
none_given test f [] h = refl
none_given test f (x ∷ xs) h = rw (h.0) (none_given test f xs h.1)

pub none_changed : (test : Line → Bool) (f : Line → Line) (lines : List Line) → AllByRecursion (λ x. test x ≡ false) lines → map (λ x. cond (test x) (f x) x) lines ≡ lines
none_changed test f [] h = refl
none_changed test f (x ∷ xs) h = rw (h.0) (ap (λ zs. x ∷ zs) (none_changed test f xs h.1))
