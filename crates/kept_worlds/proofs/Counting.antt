-- What a table counts under each link after one message more.
use Rattle.std.proofs.Common.{◌≡◌, ℕ, ◌+◌, Bool, true, false, Some, refl, ap, sym, ◌∙◌, cond, Less, Equal, Greater, nat_lt, ⊎_elim, arith}
use Rattle.std.specs.Prelude.{◌==◌, if◌then◌else◌, ◌&&◌}
use Rattle.std.specs.Map.{lookup}
use Rattle.std.specs.Ordering.{is_eq, nat_cmp}
use Rattle.std.proofs.lemmas.Bool.{cases_Bool}
use Rattle.std.proofs.lemmas.Bool.Decides.{nat_tests}
use Rattle.kept_worlds.specs.Telling.{Numbers, counted_on, or_none}

-- two numbers compare equal if they are the same
pub cmp-eq : (a b : ℕ) → is_eq (nat_cmp a b) ≡ (a == b)
cmp-eq a b = by_tests (nat_lt a b) (a == b) (not_both a b)
  where
    not_both : (a b : ℕ) → (nat_lt a b && (a == b)) ≡ false
    not_both a b = grind (arith, nat_tests)

    by_tests : (x y : Bool) → (x && y) ≡ false → is_eq (cond x Less (cond y Equal Greater)) ≡ y
    by_tests true true e = sym e
    by_tests true false e = refl
    by_tests false true e = refl
    by_tests false false e = refl

-- one more is counted under a link
pub counted-next : (l link number : ℕ) (old mid new : Numbers) → mid ≡ old → number ≡ counted_on link old
    → lookup (λ q. is_eq (nat_cmp l q)) new
    ≡ cond (is_eq (nat_cmp link l)) (Some (number + 1)) (lookup (λ q. is_eq (nat_cmp l q)) mid)
    → counted_on l new ≡ (if link == l then counted_on link old + 1 else counted_on l old)
counted-next l link number old mid new view is e =
    let here : is_eq (nat_cmp link l) ≡ (link == l) = cmp-eq link l in
    ap or_none e ∙ ap (λ t. or_none (cond t (Some (number + 1)) (lookup (λ q. is_eq (nat_cmp l q)) mid))) here ∙ ⊎_elim
    (λ (t : (link == l) ≡ true). rw t (ap (λ k. k + 1) is))
    (λ (t : (link == l) ≡ false). rw t (ap (counted_on l) view))
    (cases_Bool (link == l))

-- so if the number with one more is known by another name
pub counted-more : (l link number more : ℕ) (old mid new : Numbers) → mid ≡ old → number ≡ counted_on link old → more ≡ number + 1
    → lookup (λ q. is_eq (nat_cmp l q)) new
    ≡ cond (is_eq (nat_cmp link l)) (Some more) (lookup (λ q. is_eq (nat_cmp l q)) mid)
    → counted_on l new ≡ (if link == l then counted_on link old + 1 else counted_on l old)
counted-more l link number more old mid new seen is next updates =
    counted-next l link number old mid new seen is
    (updates ∙ ap (λ k. cond (is_eq (nat_cmp link l)) (Some k) (lookup (λ q. is_eq (nat_cmp l q)) mid)) next)
