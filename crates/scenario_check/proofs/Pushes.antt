-- Numbers behind words that are pushed one after the other.
use Rattle.std.proofs.Common.{◌≡◌, List, ℕ, ◌++◌, Result, Ok, Err, OnOk, ◌∙◌, append_assoc}

-- two numbers behind words, and then two more
pub two_and_two : {A E : Type 0} (r : Result A E) (s t u a k b l c m d n : List ℕ) → t ≡ s ++ (a ++ k ++ b ++ l) → OnOk r (u ≡ t ++ (c ++ m ++ d ++ n))
    → OnOk r (u ≡ s ++ (a ++ k ++ b ++ l ++ c ++ m ++ d ++ n))
two_and_two (Ok x) s t u a k b l c m d n e f = f ∙ rw e (simp append_assoc)
two_and_two (Err x) s t u a k b l c m d n e f = tt

-- two numbers behind words, and then one more
pub two_and_one : {A E : Type 0} (r : Result A E) (s t u a k b l c m : List ℕ) → t ≡ s ++ (a ++ k ++ b ++ l) → OnOk r (u ≡ t ++ (c ++ m))
    → OnOk r (u ≡ s ++ (a ++ k ++ b ++ l ++ c ++ m))
two_and_one (Ok x) s t u a k b l c m e f = f ∙ rw e (simp append_assoc)
two_and_one (Err x) s t u a k b l c m e f = tt
