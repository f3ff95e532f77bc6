-- Elements of lists, and where lists are cut.
use Rattle.std.proofs.Common.{ap, ◌≡◌, List, [], ◌∷◌, ◌++◌, Bool, true, refl, sym, subst, ◌∙◌, ⊎_elim, inl, inr, append-nil}
use Rattle.lists.specs.Elements.{In}
use Rattle.lists.proofs.Elements.{in_right}
use Rattle.proof_journals.proofs.Ones.{IsOne}
use Rattle.proof_journals.proofs.Cuts.{IsAhead, two_cuts}

-- An element of a list is one of any list that is the same.
pub moved : {X : Type 0} (x : X) {xs ys : List X} → xs ≡ ys → In x xs → In x ys
moved {X} x e i = subst (λ (l : List X). In x l) e i

-- Lists with the same head and the same whole have the same tail.
pub tail_same : {X : Type 0} (x : X) (ys zs : List X) → x ∷ ys ≡ x ∷ zs → ys ≡ zs
tail_same x ys zs e = cc

-- Nothing stands behind the only element of a list.
pub none_more : {X : Type 0} (part : List X) (x : X) (rest : List X) (z y : X) → part ++ x ∷ rest ≡ z ∷ [] → In y rest
    → ⊥
none_more [] x rest z y e i = let none : rest ≡ [] = cc in moved y none i
none_more (w ∷ ws) x rest z y e i =
    let none : ws ++ x ∷ rest ≡ [] = cc in
    moved x none (in_right x ws (x ∷ rest) (inl refl))

-- Of two lists behind one another, an element that is none of the first stands in the second,
pub past_front : {X : Type 0} (xs ys part : List X) (x : X) (back : List X) → part ++ x ∷ back ≡ xs ++ ys → (In x xs → ⊥)
    → (mid : List X) × (part ≡ xs ++ mid) × (mid ++ x ∷ back ≡ ys)
past_front [] ys part x back e outside = (part, refl, e)
past_front (z ∷ zs) ys [] x back e outside = let head : x ≡ z = cc in absurd (outside (inl head))
past_front (z ∷ zs) ys (w ∷ ws) x back e outside =
    let head : w ≡ z = cc in
    let tail : ws ++ x ∷ back ≡ zs ++ ys = cc in
    let r = past_front zs ys ws x back tail (λ i. outside (inr i)) in
    (r.0, ap (λ l. w ∷ l) r.1 ∙ ap (λ v. v ∷ zs ++ r.0) head, r.2)

-- and one that is none of the second in the first.
pub in_front : {X : Type 0} (xs ys part : List X) (x : X) (back : List X) → part ++ x ∷ back ≡ xs ++ ys → (In x ys → ⊥)
    → (rest : List X) × (part ++ x ∷ rest ≡ xs) × (rest ++ ys ≡ back)
in_front [] ys part x back e outside = absurd (outside (moved x e (in_right x part (x ∷ back) (inl refl))))
in_front (z ∷ zs) ys [] x back e outside =
    let head : x ≡ z = cc in
    let tail : back ≡ zs ++ ys = cc in
    (zs, ap (λ v. v ∷ zs) head, sym tail)
in_front (z ∷ zs) ys (w ∷ ws) x back e outside =
    let head : w ≡ z = cc in
    let tail : ws ++ x ∷ back ≡ zs ++ ys = cc in
    let r = in_front zs ys ws x back tail outside in
    (r.0, ap (λ l. w ∷ l) r.1 ∙ ap (λ v. v ∷ zs) head, r.2)

-- If at most one element passes, none behind one that passes does.
pub one_behind : {X : Type 0} (test : X → Bool) (front : List X) (x : X) (back : List X) (y : X)
    → IsOne test (front ++ x ∷ back) → test x ≡ true → In y back → test y ≡ true → ⊥
one_behind test [] x back y one t i s = one.0 t y i s
one_behind test (z ∷ zs) x back y one t i s = one_behind test zs x back y one.1 t i s

-- If none of the first is P and none of the rest is Q, then no Q stands behind a P.
pub none_behind : {X : Type 0} (P Q : X → Type 0) (first rest part : List X) (x : X) (back : List X) (y : X)
    → ((z : X) → In z first → P z → ⊥) → ((z : X) → In z rest → Q z → ⊥)
    → part ++ x ∷ back ≡ first ++ rest → P x → In y back → Q y → ⊥
none_behind {X} P Q first rest part x back y no_p no_q e px i qy = ⊎_elim
    (λ (a : IsAhead part (x ∷ back) first rest). inside a.between a.front a.back)
    (λ (a : IsAhead first rest part (x ∷ back)). no_q y (moved y a.back (in_right y a.between (x ∷ back) (inr i))) qy)
    (two_cuts part (x ∷ back) first rest e)
  where
    inside : (bs : List X) → part ++ bs ≡ first → bs ++ rest ≡ x ∷ back → ⊥
    inside [] f b = no_q y (moved y (sym b) (inr i)) qy
    inside (z ∷ bs) f b =
        let same : z ≡ x = cc in
        no_p x (moved x f (in_right x part (z ∷ bs) (inl (sym same)))) px

-- A list is cut in one place between what is early and what is not.
pub same_cut : {X : Type 0} (Early : X → Type 0) (xs ys zs ws : List X) → xs ++ ys ≡ zs ++ ws
    → ((x : X) → In x xs → Early x) → ((x : X) → In x ys → Early x → ⊥)
    → ((x : X) → In x zs → Early x) → ((x : X) → In x ws → Early x → ⊥) → xs ≡ zs
same_cut {X} Early xs ys zs ws e early late first last = ⊎_elim
    (λ (a : IsAhead xs ys zs ws). no_more xs ys zs ws a.between a.front a.back late first)
    (λ (a : IsAhead zs ws xs ys). sym (no_more zs ws xs ys a.between a.front a.back last early))
    (two_cuts xs ys zs ws e)
  where
    no_more : (xs ys zs ws bs : List X) → xs ++ bs ≡ zs → bs ++ ws ≡ ys → ((x : X) → In x ys → Early x → ⊥)
        → ((x : X) → In x zs → Early x) → xs ≡ zs
    no_more xs ys zs ws [] f b late first = sym (append-nil xs) ∙ f
    no_more xs ys zs ws (x ∷ bs) f b late first =
        absurd (late x (moved x b (inl refl)) (first x (moved x f (in_right x xs (x ∷ bs) (inl refl)))))
