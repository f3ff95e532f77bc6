-- The place of the last line feed, found from the end of a text.
use Rattle.std.proofs.Common.{◌≡◌, ℕ, zero, suc, ◌+◌, ◌-◌, ◌<◌, ◌≤◌, ◌==◌, List, [], ◌∷◌, Bool, true, false, cond, length, drop, slice_index_or, Option, Some, None, refl, sym, ap, subst, ◌∙◌, ⊎_elim, arith}
use Rattle.std.proofs.lemmas.Bool.{cases_Bool, eqb-true}
use Rattle.std.proofs.lemmas.List.{drop_all}
use Rattle.std.specs.Option.{option_or}
use Rattle.tiger_input.specs.Puts.{one_further, last_position}

abbrev is_feed : ℕ → Bool
is_feed byte = byte == 10

-- what the elements behind the first one tell of all
one_more : (x : ℕ) (xs : List ℕ) (o : Option ℕ) → last_position is_feed xs ≡ o
    → last_position is_feed (x ∷ xs) ≡ option_or (one_further o) (cond (is_feed x) (Some 0) None)
unfolding last_position
one_more x xs o e = ap (λ (found : Option ℕ). option_or (one_further found) (cond (is_feed x) (Some 0) None)) e

none_is_not_some : (k : ℕ) → last_position is_feed [] ≡ Some k → ⊥
unfolding last_position
none_is_not_some k e = absurd (cc)

-- what is found behind the first elements is found in the whole
found_behind : (i k : ℕ) (xs : List ℕ) → last_position is_feed (drop i xs) ≡ Some k → last_position is_feed xs ≡ Some (k + i)
found_behind zero k xs e = e ∙ ap (λ n. Some n) (omega arith)
found_behind (suc i) k [] e = absurd (none_is_not_some k e)
found_behind (suc i) k (x ∷ xs) e = one_more x xs (Some (k + i)) (found_behind i k xs e) ∙ ap (λ n. Some n) (omega arith)

-- the element at a place, and what stands behind it
split_at : (i : ℕ) (xs : List ℕ) → i < length xs → drop i xs ≡ slice_index_or xs i 0 ∷ drop (suc i) xs
split_at i [] short = absurd (omega (arith, short))
split_at zero (x ∷ xs) short = refl
split_at (suc i) (x ∷ xs) short = split_at i xs (omega (arith, short))

none_here : (text : List ℕ) (i : ℕ) → i < length text → last_position is_feed (drop (suc i) text) ≡ None → is_feed (slice_index_or text i 0) ≡ false
    → last_position is_feed (drop i text) ≡ None
none_here text i short none fails =
    ap (last_position is_feed) (split_at i text short)
    ∙ one_more (slice_index_or text i 0) (drop (suc i) text) None none
    ∙ ap (λ b. cond b (Some 0) None) fails

here : (text : List ℕ) (i : ℕ) → i < length text → last_position is_feed (drop (suc i) text) ≡ None → is_feed (slice_index_or text i 0) ≡ true
    → last_position is_feed text ≡ Some i
here text i short none passes =
    found_behind i 0 text
    (ap (last_position is_feed) (split_at i text short)
    ∙ one_more (slice_index_or text i 0) (drop (suc i) text) None none
    ∙ ap (λ b. cond b (Some 0) None) passes)
    ∙ ap (λ n. Some n) (omega arith)

-- ---- the loop from the end

back_one : (n : ℕ) → 1 ≤ n → suc (n - 1) ≡ n
back_one n some = omega (arith, some)

is_10 : (byte : ℕ) → byte ≡ 10 → is_feed byte ≡ true
is_10 byte e = rw e refl

is_not_10 : (byte : ℕ) → (byte ≡ 10 → ⊥) → is_feed byte ≡ false
is_not_10 byte other = ⊎_elim (λ (t : is_feed byte ≡ true). absurd (other (eqb-true byte 10 t))) (λ (f : is_feed byte ≡ false). f) (cases_Bool (is_feed byte))

pub none_at_end : (text : List ℕ) → last_position is_feed (drop (length text) text) ≡ None
unfolding last_position
none_at_end text = ap (last_position is_feed) (drop_all (length text) text (omega arith))

pub none_before : (text : List ℕ) (n : ℕ) → last_position is_feed (drop n text) ≡ None → 1 ≤ n → n ≤ length text
    → (slice_index_or text (n - 1) 0 ≡ 10 → ⊥) → last_position is_feed (drop (n - 1) text) ≡ None
none_before text n none some within other =
    none_here text (n - 1) (omega (arith, some, within))
    (subst (λ k. last_position is_feed (drop k text) ≡ None) (sym (back_one n some)) none)
    (is_not_10 (slice_index_or text (n - 1) 0) other)

pub found_at : (text : List ℕ) (n : ℕ) → last_position is_feed (drop n text) ≡ None → 1 ≤ n → n ≤ length text
    → slice_index_or text (n - 1) 0 ≡ 10 → last_position is_feed text ≡ Some (n - 1)
found_at text n none some within e =
    here text (n - 1) (omega (arith, some, within))
    (subst (λ k. last_position is_feed (drop k text) ≡ None) (sym (back_one n some)) none)
    (is_10 (slice_index_or text (n - 1) 0) e)

pub none_in_all : (text : List ℕ) (n : ℕ) → last_position is_feed (drop n text) ≡ None → n ≤ 0 → last_position is_feed text ≡ None
none_in_all text zero none end = none
none_in_all text (suc n) none end = absurd (omega (arith, end))
