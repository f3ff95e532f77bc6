-- Texts that are pushed one after the other.
use Rattle.std.proofs.Common.{◌≡◌, List, ℕ, ◌++◌, Result, Ok, Err, OnOk, cond, ◌∙◌, append_assoc}
use Rattle.std.specs.Prelude.{is_ok}

-- one text was pushed, where that went well
pub pushed : {A E : Type 0} (r : Result A E) (old new text : List ℕ) → new ≡ cond (is_ok r) (old ++ text) old → OnOk r (new ≡ old ++ text)
pushed (Ok x) old new text e = e
pushed (Err x) old new text e = tt

-- and then another
pub pushed_then : {A E : Type 0} (r : Result A E) (old mid new text more : List ℕ) → mid ≡ old ++ text → new ≡ cond (is_ok r) (mid ++ more) mid → OnOk r (new ≡ old ++ (text ++ more))
pushed_then (Ok x) old mid new text more e f = f ∙ rw e (append_assoc old text more)
pushed_then (Err x) old mid new text more e f = tt

-- four texts one after the other
pub four_pushed : {A E : Type 0} (r : Result A E) (s t u v w a b c d : List ℕ) → t ≡ s ++ a → u ≡ t ++ b → v ≡ u ++ c → OnOk r (w ≡ v ++ d) → OnOk r (w ≡ s ++ (a ++ b ++ c ++ d))
four_pushed (Ok x) s t u v w a b c d e f g h = h ∙ rw (g, f, e) (simp append_assoc)
four_pushed (Err x) s t u v w a b c d e f g h = tt
