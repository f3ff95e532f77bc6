-- Three texts that are pushed one after the other.
use Rattle.std.proofs.Common.{◌≡◌, List, ℕ, ◌++◌, Result, Ok, Err, OnOk, ◌∙◌, append_assoc}

pub three_pushed : {A E : Type 0} (r : Result A E) (s t u v a b c : List ℕ) → t ≡ s ++ a → u ≡ t ++ b → OnOk r (v ≡ u ++ c) → OnOk r (v ≡ s ++ (a ++ b ++ c))
three_pushed (Ok x) s t u v a b c e f g = g ∙ rw (f, e) (simp append_assoc)
three_pushed (Err x) s t u v a b c e f g = tt
