-- A claim on a list that goes by steps and asks something of the end, walked along the list: where a step fails, that
-- element breaks the claim.
use Rattle.std.proofs.Common.{◌≡◌, ℕ, ◌+◌, ◌<◌, ◌≤◌, List, [], ◌∷◌, ◌++◌, length, take, sym, ap, subst, ◌∙◌, append_assoc}
use Rattle.std.specs.Prelude.{◌↔◌, slice_index_or}
use Rattle.std.specs.List.{fold}
use Rattle.std.proofs.lemmas.List.{take_more, take_all}
use Rattle.std.proofs.lemmas.List.Sums.{fold-append}
use Rattle.run_model.specs.Fronts.{AtEach}
use Rattle.run_model.proofs.Fronts.{at_each_after, at_each_more}
use Rattle.audit_orders.specs.Breaches.{CanGoOn, IsBreach, IsUnfinished}

-- a claim holds of a list exactly if each element may come in the state that those before it make, and the list may end
-- in the last state; and what may come can be gone on with so that the claim holds
pub record GoesToAnEnd {X S : Type 0} (Claim : List X → Type 0) (R : S → X → Type 0) (f : S → X → S) (s : S) (E : S → Type 0) : Type 0 where
  pub law : (xs : List X) → Claim xs ↔ (AtEach R f s xs × E (fold f s xs))
  pub can : (xs : List X) → AtEach R f s xs → CanGoOn Claim xs

-- one element more
pub one_more : {X : Type 0} (xs : List X) (i : ℕ) (x : X) → i < length xs → ((d : X) → slice_index_or xs i d ≡ x)
    → take (i + 1) xs ≡ take i xs ++ x ∷ []
one_more {X} xs i x low is = take_more xs i x low ∙ ap (λ (y : X). take i xs ++ y ∷ []) (is x)

pub state_more : {X S : Type 0} (f : S → X → S) (s : S) (xs : List X) (i : ℕ) (x : X) → i < length xs → ((d : X) → slice_index_or xs i d ≡ x)
    → fold f s (take (i + 1) xs) ≡ f (fold f s (take i xs)) x
state_more {X} {S} f s xs i x low is =
    ap (λ (ys : List X). fold f s ys) (one_more xs i x low is) ∙ fold-append f s (take i xs) (x ∷ [])

pub right_more : {X S : Type 0} (R : S → X → Type 0) (f : S → X → S) (s : S) (xs : List X) (i : ℕ) (x : X) → i < length xs
    → ((d : X) → slice_index_or xs i d ≡ x) → AtEach R f s (take i xs) → R (fold f s (take i xs)) x → AtEach R f s (take (i + 1) xs)
right_more {X} {S} R f s xs i x low is right here =
    subst (λ (ys : List X). AtEach R f s ys) (sym (one_more xs i x low is)) (at_each_more R f s (take i xs) (x ∷ []) right (here, tt))

-- one that may not come
pub breach_here : {X S : Type 0} (Claim : List X → Type 0) (R : S → X → Type 0) (f : S → X → S) (s : S) (E : S → Type 0)
    → GoesToAnEnd Claim R f s E → (xs : List X) (i : ℕ) (x : X) → i < length xs → ((d : X) → slice_index_or xs i d ≡ x)
    → AtEach R f s (take i xs) → (R (fold f s (take i xs)) x → ⊥) → IsBreach Claim xs i
breach_here {X} {S} Claim R f s E goes xs i x low is right wrong = record {
  inside = low;
  before = goes.can (take i xs) right;
  with_it = λ more. wrong (at_each_after R f s (take i xs) x more.0
      (subst (λ (ys : List X). AtEach R f s ys)
      (ap (λ (ys : List X). ys ++ more.0) (one_more xs i x low is) ∙ append_assoc (take i xs) (x ∷ []) more.0)
      ((goes.law (take (i + 1) xs ++ more.0)).0 more.1).0));
}

-- the end of a walk on which each element may come
pub done_here : {X S : Type 0} (Claim : List X → Type 0) (R : S → X → Type 0) (f : S → X → S) (s : S) (E : S → Type 0)
    → GoesToAnEnd Claim R f s E → (xs : List X) (i : ℕ) → length xs ≤ i → AtEach R f s (take i xs) → E (fold f s (take i xs)) → Claim xs
done_here {X} {S} Claim R f s E goes xs i over right ends =
    subst Claim (take_all i xs over) ((goes.law (take i xs)).1 (right, ends))

pub unfinished_here : {X S : Type 0} (Claim : List X → Type 0) (R : S → X → Type 0) (f : S → X → S) (s : S) (E : S → Type 0)
    → GoesToAnEnd Claim R f s E → (xs : List X) (i : ℕ) → length xs ≤ i → AtEach R f s (take i xs) → (E (fold f s (take i xs)) → ⊥)
    → IsUnfinished Claim xs
unfinished_here {X} {S} Claim R f s E goes xs i over right not_yet =
    let all = take_all i xs over in
    record {
      more = subst (λ (ys : List X). CanGoOn Claim ys) all (goes.can (take i xs) right);
      not_yet = λ claim. not_yet ((goes.law (take i xs)).0 (subst Claim (sym all) claim)).1;
    }
