-- Texts that are pushed one after the other.
use Rattle.std.proofs.Common.{◌≡◌, List, ℕ, ◌++◌, Result, Ok, Err, OnOk, cond, ◌∙◌, append_assoc}
use Rattle.std.specs.Prelude.{is_ok}

-- four texts, the last where that went well
pub four_pushed : {A E : Type 0} (r : Result A E) (s t u v w a b c d : List ℕ) → t ≡ s ++ a → u ≡ t ++ b → v ≡ u ++ c → w ≡ cond (is_ok r) (v ++ d) v
    → OnOk r (w ≡ s ++ (a ++ b ++ c ++ d))
four_pushed (Ok x) s t u v w a b c d e f g h = h ∙ rw (g, f, e) (simp append_assoc)
four_pushed (Err x) s t u v w a b c d e f g h = tt
