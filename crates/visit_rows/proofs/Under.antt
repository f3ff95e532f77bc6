-- What a list in order has under each key, once a thing is kept under one unless one stands there.
use Rattle.std.proofs.Common.{◌≡◌, List, [], ◌∷◌, Less, Equal, Greater, Bool, true, false, cond, Option, Some, None, refl, sym, ap, ◌∙◌}
use Rattle.std.specs.declared.cmp.Ordering.{Ordering}
use Rattle.std.specs.Ordering.{is_eq, match_ordering}
use Rattle.std.specs.Option.{option_or}
use Rattle.std.specs.Map.{lookup}
use Rattle.std.specs.BTreeMap.{insert_entry}

pub or_none : {X : Type 0} (o : Option X) → option_or o None ≡ o
or_none None = refl
or_none (Some x) = refl

-- the order's equal keys are the same
module _ {K X : Type 0} (cmp : K → K → Ordering) (exact : (a b : K) → is_eq (cmp a b) ≡ true → a ≡ b) (q k : K) (x : X) where
  abbrev under : K → List (K × X) → Option X
  under a es = lookup (λ b. is_eq (cmp a b)) es

  -- a new entry in front: none stands under its key yet
  in_front : (b : Bool) → is_eq (cmp q k) ≡ b → (es : List (K × X)) → under k es ≡ None
      → cond b (Some x) (under q es) ≡ option_or (under q es) (cond b (Some x) None)
  in_front true is es none = let same : under q es ≡ None = ap (λ a. under a es) (exact q k is) ∙ none in rw same refl
  in_front false is es none = sym (or_none (under q es))

  head_none : (b : Bool) (y : X) (o : Option X) → cond b (Some y) o ≡ None → (b ≡ false) × (o ≡ None)
  head_none true y o e = absurd (cc)
  head_none false y o e = (refl, e)

  behind_head : (b : Bool) (y : X) (a c o : Option X) → a ≡ option_or c o → cond b (Some y) a ≡ option_or (cond b (Some y) c) o
  behind_head true y a c o e = refl
  behind_head false y a c o e = e

  module _ (b : Bool) (is : is_eq (cmp q k) ≡ b) where
    abbrev Gives : List (K × X) → List (K × X) → Type 0
    Gives es new = under q new ≡ option_or (under q es) (cond b (Some x) None)

    front : (es : List (K × X)) → under k es ≡ None → Gives es ((k, x) ∷ es)
    front es none = ap (λ t. cond t (Some x) (under q es)) is ∙ in_front b is es none

    at_entry : (e : K × X) (es : List (K × X)) (o : Ordering) → cmp k e.0 ≡ o → is_eq (cmp k e.0) ≡ false
        → under k (e ∷ es) ≡ None → Gives es (insert_entry cmp es k x)
        → Gives (e ∷ es) (match_ordering o ((k, x) ∷ e ∷ es) ((e.0, x) ∷ es) (e ∷ insert_entry cmp es k x))
    at_entry e es Less at differs none rest = front (e ∷ es) none
    at_entry e es Equal at differs none rest = absurd (let h = ap is_eq at in cc)
    at_entry e es Greater at differs none rest =
        behind_head (is_eq (cmp q e.0)) e.1 _ (under q es) (cond b (Some x) None) rest

    -- nothing stood there
    pub under-inserted : (es : List (K × X)) → under k es ≡ None → Gives es (insert_entry cmp es k x)
    under-inserted [] none = front [] none
    under-inserted (e ∷ es) none =
        let h = head_none (is_eq (cmp k e.0)) e.1 (under k es) none in
        at_entry e es (cmp k e.0) refl h.0 none (under-inserted es h.1)

    -- something stands there already
    pub under-there : (es : List (K × X)) (other : X) → under k es ≡ Some other → Gives es es
    under-there es other there = by_test b is
      where
        by_test : (t : Bool) → is_eq (cmp q k) ≡ t → under q es ≡ option_or (under q es) (cond t (Some x) None)
        by_test true same =
            let here : under q es ≡ Some other = ap (λ a. under a es) (exact q k same) ∙ there in rw here refl
        by_test false same = sym (or_none (under q es))
