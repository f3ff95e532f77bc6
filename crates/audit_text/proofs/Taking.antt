-- What is taken from the front of a line: digits, numbers, and fields side by side.
use Rattle.std.proofs.Common.{◌≡◌, ℕ, ◌+◌, ◌*◌, ◌/◌, ◌%◌, ◌<◌, ◌≤◌, List, [], ◌∷◌, ◌++◌, Option, Some, None, Bor, refl, sym, ap, ◌∙◌, append_assoc, append-nil, arith}
use Rattle.std.specs.Prelude.{codes, IfSome, MatchOption}
use Rattle.std.specs.Fmt.{decimal}
use Rattle.std.proofs.lemmas.Fmt.{decimal_digit, decimal_step}
use Rattle.std.proofs.lemmas.List.Concat.{flat_map-append}
use Rattle.node_kit.specs.declared.journal.Entry.{Entry}
use Rattle.audit_text.specs.declared.item.Item.TheVariants as item
use Rattle.audit_text.specs.declared.item.Word.{Word}
use Rattle.audit_text.specs.Fields.{what_fields, what_word}
use Rattle.audit_text.specs.Lines.{spaced, line_of}
use Rattle.audit_text.specs.Words.{letters}

-- a number with a digit more
digit_more : (n d : ℕ) → 1 ≤ n → n < 1000000000000000000 → d < 10 → decimal (n * 10 + d) ≡ decimal n ++ (48 + d) ∷ []
digit_more n d from below low =
    let front : (n * 10 + d) / 10 ≡ n = omega (arith, low) in
    let last : (n * 10 + d) % 10 ≡ d = omega (arith, low) in
    decimal_step (n * 10 + d) (omega (arith, from)) (omega (arith, below, low)) ∙ rw (front, last) refl

pub digit_taken : (whole : List ℕ) (n d : ℕ) (rest behind : List ℕ) → whole ≡ decimal n ++ rest → rest ≡ (48 + d) ∷ behind
    → 1 ≤ n → n < 1000000000000000000 → d < 10 → whole ≡ decimal (n * 10 + d) ++ behind
digit_taken whole n d rest behind same is from below low =
    same ∙ ap (λ (q : List ℕ). decimal n ++ q) is
    ∙ sym (append_assoc (decimal n) ((48 + d) ∷ []) behind)
    ∙ ap (λ (q : List ℕ). q ++ behind) (sym (digit_more n d from below low))

-- a number behind a space
behind_space : (n : ℕ) (rest : List ℕ) → spaced (n ∷ []) ++ rest ≡ 32 ∷ (decimal n ++ rest)
behind_space n rest = ap (λ (q : List ℕ). 32 ∷ (q ++ rest)) (append-nil (decimal n))

pub zero_taken : (bytes digits rest : List ℕ) (s d : ℕ) → bytes ≡ s ∷ digits → s ≡ 32 → digits ≡ (48 + d) ∷ rest → d ≡ 0
    → bytes ≡ spaced (0 ∷ []) ++ rest
zero_taken bytes digits rest s d is space front zero =
    is ∙ ap (λ (k : ℕ). k ∷ digits) space
    ∙ ap (λ (q : List ℕ). 32 ∷ q) (front ∙ ap (λ (k : ℕ). (48 + k) ∷ rest) zero)
    ∙ ap (λ (q : List ℕ). 32 ∷ (q ++ rest)) (sym (decimal_digit 0 (omega arith))) ∙ sym (behind_space 0 rest)

pub number_taken : (bytes digits rest more : List ℕ) (s d n : ℕ) → bytes ≡ s ∷ digits → s ≡ 32 → digits ≡ (48 + d) ∷ rest → d < 10
    → decimal d ++ rest ≡ decimal n ++ more → bytes ≡ spaced (n ∷ []) ++ more
number_taken bytes digits rest more s d n is space front low same =
    is ∙ ap (λ (k : ℕ). k ∷ digits) space
    ∙ ap (λ (q : List ℕ). 32 ∷ q) (front ∙ ap (λ (q : List ℕ). q ++ rest) (sym (decimal_digit d low)) ∙ same)
    ∙ sym (behind_space n more)

-- the number that these digits are, if they are one
pub digits_taken : (bytes digits rest : List ℕ) (s d : ℕ) (r : Option (ℕ × Bor (List ℕ))) → bytes ≡ s ∷ digits → s ≡ 32
    → digits ≡ (48 + d) ∷ rest → d < 10 → IfSome r (λ x. decimal d ++ rest ≡ decimal x.0 ++ x.1.now)
    → IfSome r (λ x. bytes ≡ spaced (x.0 ∷ []) ++ x.1.now)
digits_taken bytes digits rest s d None is space front low same = tt
digits_taken bytes digits rest s d (Some x) is space front low same = number_taken bytes digits rest x.1.now s d x.0 is space front low same

-- fields, and fields behind them
pub joined : (xs ys bytes mid rest : List ℕ) → bytes ≡ spaced xs ++ mid → mid ≡ spaced ys ++ rest → bytes ≡ spaced (xs ++ ys) ++ rest
joined xs ys bytes mid rest first second =
    first ∙ ap (λ (q : List ℕ). spaced xs ++ q) second
    ∙ sym (append_assoc (spaced xs) (spaced ys) rest)
    ∙ ap (λ (q : List ℕ). q ++ rest) (sym (flat_map-append (λ (n : ℕ). codes " " ++ decimal n) xs ys))

-- the letters of a word, if they stand in front
pub letters_taken : (P : Type 0) (bytes found word : List ℕ) (r : Option (Bor (List ℕ))) → found ≡ word
    → MatchOption r P (λ x. bytes ≡ found ++ x.now) → IfSome r (λ x. bytes ≡ word ++ x.now)
letters_taken P bytes found word None same is = tt
letters_taken P bytes found word (Some x) same is = is ∙ ap (λ (q : List ℕ). q ++ x.now) same

-- an entry's word and its fields
pub entry_taken : (e : Entry) (w : Word) (bytes a b d rest : List ℕ) → bytes ≡ letters w ++ a → a ≡ spaced (e.stamp.beat ∷ []) ++ b
    → b ≡ spaced (e.stamp.reading ∷ []) ++ d → what_word e.what ≡ w → d ≡ spaced (what_fields e.what) ++ rest
    → bytes ≡ line_of (item.Entry e) ++ rest
unfolding line_of
entry_taken e w bytes a b d rest is beat reading said what =
    let fields : List ℕ = e.stamp.beat ∷ e.stamp.reading ∷ what_fields e.what in
    is
    ∙ ap (λ (q : List ℕ). letters w ++ q)
    (joined (e.stamp.beat ∷ []) (e.stamp.reading ∷ what_fields e.what) a b rest beat (joined (e.stamp.reading ∷ []) (what_fields e.what) b d rest reading what))
    ∙ ap (λ (v : Word). letters v ++ (spaced fields ++ rest)) (sym said)
    ∙ sym (append_assoc (letters (what_word e.what)) (spaced fields) rest)
