-- A record that a journal tells of was told of by a front of it, or was taken behind that front.
use Rattle.std.proofs.Common.{◌≡◌, List, [], ◌∷◌, ◌++◌, Bool, true, false, refl, sym, ap, ◌∙◌, ⊎_elim, inl, inr}
use Rattle.std.specs.Prelude.{◌⊎◌}
use Rattle.std.specs.List.{list_any}
use Rattle.std.proofs.lemmas.Bool.{or_left, true≢false, false_from_ne_true}
use Rattle.std.proofs.lemmas.List.Folds.{list_any-append}
use Rattle.tiger_base.specs.declared.tenancy.Rec.{Rec}
use Rattle.node_kit.specs.declared.journal.What.{What}
use Rattle.node_kit.specs.declared.journal.What.TheVariants as what
use Rattle.node_kit.specs.declared.journal.Entry.{Entry}
use Rattle.run_model.specs.Views.{records_of, taken_by, drops}
use Rattle.lists.specs.Elements.{In}
use Rattle.proof_moments.proofs.Lists.{any_passes}
use Rattle.lists.proofs.Elements.{chosen, in_left, in_right, in_cases}

taken_is : (w : What) (es : List Entry) (q : Rec) → In q (taken_by w es) → w ≡ what.Took q
taken_is (what.Took r) es q i = chosen (λ (rs : List Rec). In q rs → what.Took r ≡ what.Took q) (list_any (λ (e : Entry). drops r e.what) es) [] (r ∷ [])
    (λ _ k. absurd k)
    (λ _ k. ⊎_elim (λ e. ap (λ (x : Rec). what.Took x) (sym e)) (λ n. absurd n) k)
    i
taken_is other es q i = absurd i

-- what no entry of a list drops, none of its front drops
taken_before : (w : What) (es fs : List Entry) (q : Rec) → In q (taken_by w (es ++ fs)) → In q (taken_by w es)
taken_before (what.Took r) es fs q i = chosen (λ (rs : List Rec). In q rs → In q (taken_by (what.Took r) es)) (list_any (λ (e : Entry). drops r e.what) (es ++ fs)) [] (r ∷ [])
    (λ _ k. absurd k)
    (λ none k.
    let test : Entry → Bool = λ e. drops r e.what in
    let fresh : list_any test es ≡ false = false_from_ne_true (list_any test es) (λ t. true≢false (sym (list_any-append test es fs ∙ or_left (list_any test es) (list_any test fs) t) ∙ none)) in
    chosen (λ (rs : List Rec). In q rs) (list_any test es) [] (r ∷ []) (λ t. absurd (true≢false (sym t ∙ fresh))) (λ _. k))
    i
taken_before other es fs q i = absurd i

pub was_taken : (es : List Entry) (q : Rec) → In q (records_of es) → (e : Entry) × In e es × (e.what ≡ what.Took q)
was_taken [] q i = absurd i
was_taken (x ∷ xs) q i = ⊎_elim
    (λ k. (x, inl refl, taken_is x.what xs q k))
    (λ k. let r = was_taken xs q k in (r.0, inr r.1, r.2))
    (in_cases q (taken_by x.what xs) (records_of xs) i)

-- of what a journal tells behind a death, nothing was taken before it
none_taken : (w : What) (xs ys : List Entry) (d : Entry) (q : Rec) → d.what ≡ what.Died → In q (taken_by w (xs ++ d ∷ ys)) → ⊥
none_taken (what.Took r) xs ys d q is i =
    let dropped : list_any (λ (e : Entry). drops r e.what) (xs ++ d ∷ ys) ≡ true = any_passes (λ (e : Entry). drops r e.what) (xs ++ d ∷ ys) d (in_right d xs (d ∷ ys) (inl refl)) (ap (drops r) is) in
    chosen (λ (rs : List Rec). In q rs → ⊥) (list_any (λ (e : Entry). drops r e.what) (xs ++ d ∷ ys)) [] (r ∷ [])
    (λ _ k. k)
    (λ none k. true≢false (sym dropped ∙ none))
    i
none_taken other xs ys d q is i = i

pub taken_since : (xs ys : List Entry) (d : Entry) (q : Rec) → d.what ≡ what.Died → In q (records_of (xs ++ d ∷ ys)) → (e : Entry) × In e ys × (e.what ≡ what.Took q)
taken_since [] ys d q is i = ⊎_elim
    (λ k. let e : what.Died ≡ what.Took q = sym is ∙ taken_is d.what ys q k in absurd (cc))
    (λ k. was_taken ys q k)
    (in_cases q (taken_by d.what ys) (records_of ys) i)
taken_since (x ∷ xs) ys d q is i = ⊎_elim
    (λ k. absurd (none_taken x.what xs ys d q is k))
    (λ k. taken_since xs ys d q is k)
    (in_cases q (taken_by x.what (xs ++ d ∷ ys)) (records_of (xs ++ d ∷ ys)) i)

pub records_cut : (xs ys : List Entry) (q : Rec) → In q (records_of (xs ++ ys)) → In q (records_of xs) ⊎ ((e : Entry) × In e ys × (e.what ≡ what.Took q))
records_cut [] ys q i = inr (was_taken ys q i)
records_cut (x ∷ xs) ys q i = ⊎_elim
    (λ k. inl (in_left q (taken_by x.what xs) (records_of xs) (taken_before x.what xs ys q k)))
    (λ k. ⊎_elim (λ l. inl (in_right q (taken_by x.what xs) (records_of xs) l)) (λ l. inr l) (records_cut xs ys q k))
    (in_cases q (taken_by x.what (xs ++ ys)) (records_of (xs ++ ys)) i)
