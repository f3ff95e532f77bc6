-- No line has a line feed in it, so a text has its lines alone.
use Rattle.std.proofs.Common.{◌≡◌, ℕ, suc, ◌+◌, ◌/◌, ◌%◌, ◌<◌, ◌^◌, Bool, true, false, cond, List, [], ◌∷◌, ◌++◌, Option, Some, is_some, refl, sym, ap, ◌∙◌, arith, eqb, append_assoc, length, drop, slice_index, slice_index_or}
use Rattle.std.specs.List.{AllByRecursion}
use Rattle.std.specs.Fmt.{decimal}
use Rattle.std.proofs.lemmas.Bool.{both_ways}
use Rattle.std.proofs.lemmas.Fmt.{decimal_by_steps}
use Rattle.hex.proofs.HexLemmas.{IsDigits-lower_digits}
use Rattle.hex.specs.Hex.{encode_with, encode_lower, lower_digits, hex_digit_value, IsBytes}
use Rattle.audit_text.specs.declared.item.Item.{Item}
use Rattle.audit_text.specs.declared.item.Item.TheVariants as item
use Rattle.audit_text.specs.declared.item.Word.{Word}
use Rattle.audit_text.specs.declared.item.Word.TheVariants as word
use Rattle.audit_text.specs.Fields.{fields_of, word_of}
use Rattle.audit_text.specs.Fits.{IsLong, ItemFits}
use Rattle.audit_text.specs.Lines.{spaced, behind_word, line_of}
use Rattle.audit_text.specs.Reading.{item_in}
use Rattle.audit_text.specs.Scanning.{numbers_in}
use Rattle.audit_text.specs.Texts.{text_in}
use Rattle.audit_text.specs.Words.{letters}
use Rattle.audit_text.proofs.Again.{fields_long, line_again}

abbrev pub FeedFree : List ℕ → Type 0
FeedFree bytes = AllByRecursion (λ b. b ≡ 10 → ⊥) bytes

free-append : (xs ys : List ℕ) → FeedFree xs → FeedFree ys → FeedFree (xs ++ ys)
free-append [] ys f g = g
free-append (x ∷ xs) ys f g = (f.0, free-append xs ys f.1 g)

-- of letters that are written out it is computed
abbrev pub has_none : List ℕ → Bool
has_none [] = true
has_none (b ∷ bs) = cond (eqb b 10) false (has_none bs)

pub from_test : (bs : List ℕ) → has_none bs ≡ true → FeedFree bs
from_test [] h = tt
from_test (b ∷ bs) h = go (eqb b 10) refl (λ (k : has_none bs ≡ true). from_test bs k) h where
  go : (t : Bool) → eqb b 10 ≡ t → (has_none bs ≡ true → FeedFree bs) → cond t false (has_none bs) ≡ true → FeedFree (b ∷ bs)
  go true e rest h = absurd (both_ways false refl h)
  go false e rest h = (λ is. both_ways (eqb b 10) e (ap (λ (n : ℕ). eqb n 10) is), rest h)

word_free : (w : Word) → FeedFree (letters w)
word_free word.Tiger = from_test (letters word.Tiger) refl
word_free word.Plan = from_test (letters word.Plan) refl
word_free word.Beats = from_test (letters word.Beats) refl
word_free word.Fixed = from_test (letters word.Fixed) refl
word_free word.Drawn = from_test (letters word.Drawn) refl
word_free word.Offsets = from_test (letters word.Offsets) refl
word_free word.Death = from_test (letters word.Death) refl
word_free word.Fault = from_test (letters word.Fault) refl
word_free word.File = from_test (letters word.File) refl
word_free word.Begin = from_test (letters word.Begin) refl
word_free word.Finish = from_test (letters word.Finish) refl
word_free word.Node = from_test (letters word.Node) refl
word_free word.Got = from_test (letters word.Got) refl
word_free word.Sent = from_test (letters word.Sent) refl
word_free word.Took = from_test (letters word.Took) refl
word_free word.Dropped = from_test (letters word.Dropped) refl
word_free word.Queued = from_test (letters word.Queued) refl
word_free word.Unqueued = from_test (letters word.Unqueued) refl
word_free word.Put = from_test (letters word.Put) refl
word_free word.Gone = from_test (letters word.Gone) refl
word_free word.ReadFailed = from_test (letters word.ReadFailed) refl
word_free word.Believed = from_test (letters word.Believed) refl
word_free word.Died = from_test (letters word.Died) refl
word_free word.Returned = from_test (letters word.Returned) refl
word_free word.Digest = from_test (letters word.Digest) refl
word_free word.End = from_test (letters word.End) refl

abbrev AreFree : ℕ → List ℕ → Type 0
AreFree n digits = FeedFree digits

digit_free : (n : ℕ) → FeedFree ((48 + n) ∷ [])
digit_free n = (λ is. omega (arith, is), tt)

decimal_free : (n : ℕ) → n < 2 ^ 64 → FeedFree (decimal n)
decimal_free n small =
    decimal_by_steps AreFree (λ m low. digit_free m) (λ m digits high before. free-append digits ((48 + m % 10) ∷ []) before (digit_free (m % 10))) n small

spaced_free : (ns : List ℕ) → AllByRecursion IsLong ns → FeedFree (spaced ns)
spaced_free [] f = tt
spaced_free (n ∷ ns) f = (λ is. omega (arith, is), free-append (decimal n) (spaced ns) (decimal_free n f.0) (spaced_free ns f.1))

hex_digit_free : (d : ℕ) → d < 16 → slice_index lower_digits d ≡ 10 → ⊥
hex_digit_free d small is = never (sym (ap hex_digit_value is) ∙ IsDigits-lower_digits d small) where
  never : hex_digit_value 10 ≡ Some d → ⊥
  never e = both_ways false refl (ap (λ (o : Option ℕ). is_some o) e)

encoded_free : (bytes : List ℕ) → IsBytes bytes → FeedFree (encode_lower bytes)
unfolding encode_with
encoded_free [] f = tt
encoded_free (b ∷ bytes) f =
    (hex_digit_free (b / 16) (omega (arith, f 0)), (hex_digit_free (b % 16) (omega arith), encoded_free bytes (λ i. f (suc i))))

behind_free : (i : Item) → ItemFits i → FeedFree (behind_word i)
behind_free item.Version f = spaced_free (fields_of item.Version) (fields_long item.Version f)
behind_free (item.Plan p) f = spaced_free (fields_of (item.Plan p)) (fields_long (item.Plan p) f)
behind_free (item.Beats n) f = spaced_free (fields_of (item.Beats n)) (fields_long (item.Beats n) f)
behind_free (item.Delay d) f = spaced_free (fields_of (item.Delay d)) (fields_long (item.Delay d) f)
behind_free (item.Offsets offsets) f = spaced_free offsets (fields_long (item.Offsets offsets) f)
behind_free (item.Death cub beat left back) f = spaced_free (fields_of (item.Death cub beat left back)) (fields_long (item.Death cub beat left back) f)
behind_free (item.Fault x) f = spaced_free (fields_of (item.Fault x)) (fields_long (item.Fault x) f)
behind_free (item.File x) f = spaced_free (fields_of (item.File x)) (fields_long (item.File x) f)
behind_free (item.Order o) f = spaced_free (fields_of (item.Order o)) (fields_long (item.Order o) f)
behind_free (item.Node n) f = spaced_free (fields_of (item.Node n)) (fields_long (item.Node n) f)
behind_free (item.Entry e) f = spaced_free (fields_of (item.Entry e)) (fields_long (item.Entry e) f)
behind_free (item.Digest d) f = (λ is. omega (arith, is), encoded_free d.0 f.1)
behind_free item.End f = tt

pub line_free : (i : Item) → ItemFits i → FeedFree (line_of i)
unfolding line_of
line_free i f = free-append (letters (word_of i)) (behind_word i) (word_free (word_of i)) (behind_free i f)

-- two texts whose first lines are free of line feeds have one first line and one rest

cut : (a b x y : List ℕ) → FeedFree a → FeedFree b → a ++ 10 ∷ x ≡ b ++ 10 ∷ y → (a ≡ b) × (x ≡ y)
cut [] [] x y f g e = (refl, ap (λ (q : List ℕ). drop 1 q) e)
cut [] (c ∷ b) x y f g e = absurd (g.0 (sym (ap (λ (q : List ℕ). slice_index_or q 0 0) e)))
cut (c ∷ a) [] x y f g e = absurd (f.0 (ap (λ (q : List ℕ). slice_index_or q 0 0) e))
cut (c ∷ a) (d ∷ b) x y f g e =
    let both : (a ≡ b) × (x ≡ y) = cut a b x y f.1 g.1 (ap (λ (q : List ℕ). drop 1 q) e) in
    let first : c ≡ d = ap (λ (q : List ℕ). slice_index_or q 0 0) e in
    (rw (first, both.0) refl, both.1)

-- no two items have one line
pub one_line : (i j : Item) → ItemFits i → ItemFits j → line_of i ≡ line_of j → i ≡ j
one_line i j f g same =
    sym (line_again i (line_of i) f refl) ∙ ap (λ (q : List ℕ). item_in q (numbers_in q)) same ∙ line_again j (line_of j) g refl

longer : (line rest : List ℕ) → (line ++ 10 ∷ []) ++ rest ≡ line ++ 10 ∷ rest
longer line rest = append_assoc line (10 ∷ []) rest

empty-no-text : (line rest : List ℕ) → [] ≡ line ++ 10 ∷ rest → ⊥
empty-no-text [] rest e = omega (arith, ap (λ (q : List ℕ). length q) e)
empty-no-text (b ∷ line) rest e = omega (arith, ap (λ (q : List ℕ). length q) e)

-- and no two lists of items one text
pub same_items : (xs ys : List Item) → AllByRecursion ItemFits xs → AllByRecursion ItemFits ys → text_in xs ≡ text_in ys → xs ≡ ys
same_items [] [] f g e = refl
same_items [] (y ∷ ys) f g e = absurd (empty-no-text (line_of y) (text_in ys) (e ∙ longer (line_of y) (text_in ys)))
same_items (x ∷ xs) [] f g e = absurd (empty-no-text (line_of x) (text_in xs) (sym e ∙ longer (line_of x) (text_in xs)))
same_items (x ∷ xs) (y ∷ ys) f g e =
    let parted : (line_of x ≡ line_of y) × (text_in xs ≡ text_in ys) =
    cut (line_of x) (line_of y) (text_in xs) (text_in ys) (line_free x f.0) (line_free y g.0)
    (sym (longer (line_of x) (text_in xs)) ∙ e ∙ longer (line_of y) (text_in ys)) in
    rw (one_line x y f.0 g.0 parted.0, same_items xs ys f.1 g.1 parted.1) refl
