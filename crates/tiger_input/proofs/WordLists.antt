-- Lists of words.
use Rattle.std.proofs.Common.{◌≡◌, ℕ, ◌≤◌, ◌<◌, List, [], ◌∷◌, length, get_or, refl, ap, ◌∙◌, String, Global, string_bytes, codes, arith}
use Rattle.std.specs.Fmt.{decimal}
use Rattle.tiger_input.specs.Words.{IsRun, texts_of}

pub three_words : (words : List (String Global)) (a b c : String Global) → 3 ≤ length words → length words < 4
    → a ≡ get_or words 0 a → b ≡ get_or words 1 b → c ≡ get_or words 2 c → words ≡ a ∷ b ∷ c ∷ []
three_words [] a b c low high is_a is_b is_c = absurd (omega arith)
three_words (x ∷ []) a b c low high is_a is_b is_c = absurd (omega arith)
three_words (x ∷ y ∷ []) a b c low high is_a is_b is_c = absurd (omega arith)
three_words (x ∷ y ∷ z ∷ []) a b c low high is_a is_b is_c = rw (is_a, is_b, is_c) refl
three_words (x ∷ y ∷ z ∷ w ∷ ws) a b c low high is_a is_b is_c = absurd (omega arith)

pub IsRun-from : (words : List (String Global)) (command name workers : String Global) (n : ℕ) → words ≡ command ∷ name ∷ workers ∷ []
    → string_bytes command ≡ codes "run" → string_bytes workers ≡ decimal n → 1 ≤ n → n ≤ 64 → IsRun (texts_of words) (string_bytes name) n
IsRun-from words command name workers n is run number low high = record {
  form = ap texts_of is ∙ rw (run, number) refl;
  some = low;
  few = high;
}

-- words name one scenario
pub IsRun-name : (words : List (List ℕ)) (name other : List ℕ) (n m : ℕ) → IsRun words name n → IsRun words other m → name ≡ other
IsRun-name words name other n m a b = let e = a.form in let f = b.form in cc
