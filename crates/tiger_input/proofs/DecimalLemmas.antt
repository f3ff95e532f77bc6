-- Words that are numbers in decimal.
use Rattle.std.proofs.Common.{◌≡◌, ◌≢◌, ℕ, zero, suc, ◌^◌, ◌<◌, List, drop, get_or, cond, eqb, false, Result, Ok, Err, refl, sym, ap, ◌∙◌, arith}
use Rattle.std.specs.Fmt.{decimal}
use Rattle.std.specs.Str.Parse.{ParsesUnsigned, AllDigits, digits_value, without_leading_plus}
use Rattle.std.proofs.lemmas.Fmt.{decimal-digits_value, decimal_digit, first_decimal, parse-decimal}
use Rattle.std.proofs.lemmas.Str.Parse.{IsNumeralModel}
use Rattle.std.proofs.lemmas.Result.{OkIff-at_ok}
use Rattle.std.proofs.lemmas.Bool.Decides.{nat_tests}
use Rattle.tiger_input.specs.Words.{IsPlainWord}

model : IsNumeralModel (AllDigits 10) (digits_value 10)
model = record { to = λ ds h. h; from = λ ds h. h; same = λ ds h. refl }

without_leading_plus-plain : (word : List ℕ) → get_or word 0 0 ≢ 43 → without_leading_plus word ≡ word
without_leading_plus-plain word apart =
    let no : eqb (get_or word 0 0) 43 ≡ false = grind (arith, nat_tests) in
    ap (λ b. drop (cond b 1 0) word) no

pub decimal-parsed : {E : Type 0} (word : List ℕ) (r : Result ℕ E) (n : ℕ) → ParsesUnsigned 64 10 word r → r ≡ Ok n → IsPlainWord word → word ≡ decimal n
decimal-parsed word r n parsed ok plain =
    let facts = OkIff-at_ok r _ _ n parsed ok in
    let same = without_leading_plus-plain word plain.0 in
    let numeral = rw same at facts.0 in
    sym (ap decimal (rw same at facts.1) ∙ decimal-digits_value model word numeral.0.1 numeral.0.0 plain.1 numeral.1)

pub IsPlainWord-decimal : (n : ℕ) → n < 2 ^ 64 → IsPlainWord (decimal n)
IsPlainWord-decimal zero lt = rw (decimal_digit 0 (omega arith)) (λ e. absurd (omega arith), λ e. refl)
IsPlainWord-decimal (suc n) lt =
    let first = first_decimal (suc n) (omega arith) lt in
    (λ e. absurd (omega arith), λ e. absurd (omega arith))

pub decimal-refused : {E : Type 0} (word : List ℕ) (r : Result ℕ E) (e : E) (n : ℕ) → ParsesUnsigned 64 10 word r → r ≡ Err e → n < 2 ^ 64 → word ≡ decimal n → ⊥
decimal-refused word r e n parsed err lt is =
    let ok = parse-decimal 64 n word r lt lt is parsed in
    cc
