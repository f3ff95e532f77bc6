-- What the list of a number is after one thing more, and after it is taken out.
use Rattle.std.proofs.Common.{◌≡◌, ℕ, Bool, true, false, ◌==◌, cond, List, [], ◌∷◌, ◌++◌, Some, None, if◌then◌else◌, refl, sym, ap, ◌∙◌, append-nil}
use Rattle.std.specs.Cmp.{unsigned_tied}
use Rattle.std.specs.Map.{lookup}
use Rattle.std.specs.Ordering.{is_eq, nat_cmp}
use Rattle.std.proofs.lemmas.Bool.{eqb-true}
use Rattle.audit_blocks.specs.Groups.{GroupsOf, things_of, group_under}

pub group_removed : {T : Type 0} (number n : ℕ) (old mid new : GroupsOf T) → mid ≡ old
    → lookup (λ k. is_eq (nat_cmp n k)) new ≡ cond (is_eq (nat_cmp number n)) None (lookup (λ k. is_eq (nat_cmp n k)) mid)
    → group_under n new ≡ (if number == n then [] else group_under n old)
group_removed {T} number n old mid new view e =
    ap things_of e
    ∙ (ap (λ (b : Bool). things_of (cond b None (lookup (λ k. is_eq (nat_cmp n k)) mid))) (unsigned_tied number n)
    ∙ (ap (λ (rows : GroupsOf T). things_of (cond (number == n) None (lookup (λ k. is_eq (nat_cmp n k)) rows))) view
    ∙ by (number == n)))
  where
    by : (b : Bool) → things_of (cond b None (lookup (λ k. is_eq (nat_cmp n k)) old)) ≡ cond b [] (group_under n old)
    by true = refl
    by false = refl

pub group_pushed : {T : Type 0} (number n : ℕ) (item : T) (old rest mid new : GroupsOf T) (taken pushed : List T) → mid ≡ rest
    → taken ≡ group_under number old → group_under n rest ≡ (if number == n then [] else group_under n old)
    → pushed ≡ taken ++ item ∷ []
    → lookup (λ k. is_eq (nat_cmp n k)) new ≡ cond (is_eq (nat_cmp number n)) (Some pushed) (lookup (λ k. is_eq (nat_cmp n k)) mid)
    → group_under n new ≡ group_under n old ++ (if number == n then item ∷ [] else [])
group_pushed {T} number n item old rest mid new taken pushed view was left now e =
    ap things_of e
    ∙ (ap (λ (b : Bool). things_of (cond b (Some pushed) (lookup (λ k. is_eq (nat_cmp n k)) mid))) (unsigned_tied number n)
    ∙ (ap (λ (rows : GroupsOf T). things_of (cond (number == n) (Some pushed) (lookup (λ k. is_eq (nat_cmp n k)) rows))) view
    ∙ by (number == n) refl left))
  where
    by : (b : Bool) → (number == n) ≡ b → group_under n rest ≡ cond b [] (group_under n old)
        → things_of (cond b (Some pushed) (lookup (λ k. is_eq (nat_cmp n k)) rest)) ≡ group_under n old ++ cond b (item ∷ []) []
    by true f l = now ∙ (ap (λ (xs : List T). xs ++ item ∷ []) was
        ∙ ap (λ (k : ℕ). group_under k old ++ item ∷ []) (eqb-true number n f))
    by false f l = l ∙ sym (append-nil (group_under n old))
