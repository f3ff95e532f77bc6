-- Each step of a seat keeps the rule of the word.
use Rattle.std.proofs.Common.{◌≡◌, ◌≢◌, ℕ, zero, suc, true, false, true≢false, List, [], ◌∷◌, ◌++◌, slice_index, slice_set, set, sym, refl, ap, ◌∙◌, subst, ⊎_elim, append_assoc, append-nil}
use mathlib.Core.Option.{some, some-ne-none}
use mathlib.Core.List.{IsPrefix}
use lib.ListN.{get_elem?}
use Rattle.atomic_table.specs.Table.{Me, step, keeps, opening, Allows, Splits, Joins}
use Rattle.atomic_table.proofs.Lists.{at_set, at_snoc}
use Rattle.ring_links.specs.declared.board.Knows.{Knows}
use Rattle.ring_links.specs.Marked.{knows, IsLast, Fits, Marked, Marks, Looks, Agrees}

abbrev All : (ℕ → Knows → Type 0) → List Knows → Type 0
All F views = (port : ℕ) (v : Knows) → get_elem? views port ≡ some v → F port v

all_set : (F : ℕ → Knows → Type 0) (views : List Knows) (port : ℕ) (w : Knows) → F port w → ((j : ℕ) (u : Knows) → j ≢ port → get_elem? views j ≡ some u → F j u) → All F (set views port w)
all_set F views port w mine others j u e = ⊎_elim (λ (x : (j ≡ port) × (w ≡ u)). subst (λ (y : ℕ × Knows). F y.0 y.1) (λ i. (sym x.0 i, x.1 i)) mine)
    (λ (x : (j ≢ port) × (get_elem? views j ≡ some u)). others j u x.0 x.1) (at_set views port j w u e)

all_one : (F : ℕ → Knows → Type 0) (w : Knows) → F 0 w → All F (w ∷ [])
all_one F w h zero u e = subst (λ (y : Knows). F 0 y) (mathlib.Core.Option.some-injective w u e) h
all_one F w h (suc j) u e = absurd (some-ne-none u (sym e))

longer : (xs ys zs : List ℕ) → IsPrefix xs ys → IsPrefix xs (ys ++ zs)
longer xs ys zs p = (p.0 ++ zs, sym (append_assoc xs p.0 zs) ∙ ap (λ l. l ++ zs) p.1)

whole : (xs : List ℕ) → IsPrefix xs xs
whole xs = ([], append-nil xs)

nothing : (xs : List ℕ) → IsPrefix [] xs
nothing xs = (xs, refl)

pub begins : Marked (opening (0 ∷ []) [] (knows true (0 ∷ []) []))
begins = (0, 0 ∷ [], 0, refl, ([], refl), all_one (Fits 0 (0 ∷ [])) (knows true (0 ∷ []) []) ((λ _. (refl, refl)), whole (0 ∷ []), nothing (0 ∷ [])))

one_word : (ws : List ℕ) (word n : ℕ) → ws ≡ word ∷ [] → slice_set ws 0 n ≡ n ∷ []
one_word ws word n e = ap (λ l. slice_set l 0 n) e

pub marks : (slots id word : ℕ) (me : Me ℕ Knows) → me.0.writes ≡ true
    → Allows Marked slots id me 0 (λ _. word) (λ _. Marks (step slots 0 word 0 mathlib.Core.Option.none) me word)
marks slots id word me may s h _ at _ = let v : Knows = me.0 in let log : List ℕ = h.1 in let log' : List ℕ = log ++ word ∷ [] in let w : Knows = knows v.writes (v.marks ++ word ∷ []) v.told in
    let mine = h.5 id v at in let is : v.marks ≡ log = (mine.0 may).1 in let new : v.marks ++ word ∷ [] ≡ log' = ap (λ l. l ++ word ∷ []) is in (
      w,
      keeps,
      tt,
      (
        h.0,
        log',
        word,
        one_word s.words h.2 word h.3,
        (log, refl),
        all_set (Fits h.0 log') s.views id w ((λ _. ((mine.0 may).0, new)), subst (λ l. IsPrefix l log') (sym new) (whole log'), longer v.told log (word ∷ []) mine.2)
            (λ j u other e. ((λ p. absurd (other (((h.5 j u e).0 p).0 ∙ sym (mine.0 may).0))), longer u.marks log (word ∷ []) (h.5 j u e).1, longer u.told log (word ∷ []) (h.5 j u e).2)),
      ),
      (refl, refl),
    )

pub looks : (slots id : ℕ) (me : Me ℕ Knows) → Allows Marked slots id me 0 (λ n. n) (Looks (step slots 0 0 0 mathlib.Core.Option.none) me)
looks slots id me s h _ at _ = let v : Knows = me.0 in let log : List ℕ = h.1 in let w : Knows = knows v.writes log v.told in let mine = h.5 id v at in
    let found : slice_index s.words 0 ≡ h.2 = ap (λ l. slice_index l 0) h.3 in (
      w,
      keeps,
      tt,
      (
        h.0,
        log,
        h.2,
        one_word s.words h.2 (slice_index s.words 0) h.3 ∙ ap (λ n. n ∷ []) found,
        h.4,
        all_set (Fits h.0 log) s.views id w ((λ p. ((mine.0 p).0, refl)), whole log, mine.2) (λ j u other e. h.5 j u e),
      ),
      (refl, mine.1, subst (IsLast log) (sym found) h.4, refl),
    )

pub agrees : (slots id : ℕ) (me : Me ℕ Knows) → me.0.writes ≡ true → Allows Marked slots id me 0 (λ n. n) (Agrees (step slots 0 0 0 mathlib.Core.Option.none) me)
agrees slots id me may s h _ at _ = let v : Knows = me.0 in let log : List ℕ = h.1 in let mine = h.5 id v at in
    let found : slice_index s.words 0 ≡ h.2 = ap (λ l. slice_index l 0) h.3 in (
      v,
      keeps,
      tt,
      (
        h.0,
        log,
        h.2,
        one_word s.words h.2 (slice_index s.words 0) h.3 ∙ ap (λ n. n ∷ []) found,
        h.4,
        all_set (Fits h.0 log) s.views id v mine (λ j u other e. h.5 j u e),
      ),
      (refl, subst (IsPrefix v.told) (sym (mine.0 may).1) mine.2),
    )

pub splits : (id : ℕ) (v : Knows) → Splits {S = ℕ} Marked id v v (knows false v.marks [])
splits id v s h at = let log : List ℕ = h.1 in let r : Knows = knows false v.marks [] in let mine = h.5 id v at in let vs : List Knows = set s.views id v in
    let old : All (Fits h.0 log) vs = all_set (Fits h.0 log) s.views id v mine (λ j u other e. h.5 j u e) in
    let fits : (j : ℕ) → Fits h.0 log j r = λ j. ((λ p. absurd (true≢false (sym p))), mine.1, nothing log) in (
      h.0,
      log,
      h.2,
      h.3,
      h.4,
      λ j u e. ⊎_elim (λ x. old j u x) (λ (is : r ≡ u). subst (λ (y : Knows). Fits h.0 log j y) is (fits j)) (at_snoc vs r u j e),
    )

pub joins : (id : ℕ) (v : Knows) (other : ℕ) (u : Knows) → Joins {S = ℕ} Marked id v other u (knows v.writes v.marks u.marks) (knows false [] [])
joins id v other u s h at two at' = let log : List ℕ = h.1 in let both : Knows = knows v.writes v.marks u.marks in let mine = h.5 id v at in let vs : List Knows = set s.views id both in
    let was : get_elem? s.views other ≡ some u = ⊎_elim (λ x. absurd (two x.0)) (λ x. x.1) (at_set s.views id other both u at') in let theirs = h.5 other u was in
    let now : All (Fits h.0 log) vs = all_set (Fits h.0 log) s.views id both (mine.0, mine.1, theirs.1) (λ j y _ e. h.5 j y e) in (
      h.0,
      log,
      h.2,
      h.3,
      h.4,
      all_set (Fits h.0 log) vs other (knows false [] []) ((λ p. absurd (true≢false (sym p))), nothing log, nothing log) (λ j y _ e. now j y e),
    )
