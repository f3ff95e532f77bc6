-- The entries of all journals that are one node's are its journal.
use Rattle.std.proofs.Common.{◌≡◌, ℕ, zero, suc, ◌+◌, ◌<◌, Bool, true, false, ◌&&◌, ◌||◌, ◌==◌, cond, List, [], ◌∷◌, ◌++◌, filter, refl, ap, ◌∙◌, arith, append-nil}
use Rattle.std.specs.List.{list_any, flat_map}
use Rattle.std.proofs.lemmas.Bool.{eqb-true, eq-eqb}
use Rattle.std.proofs.lemmas.List.Elements.{filter-append}
use Rattle.std.proofs.lemmas.List.Folds.{list_any-append}
use Rattle.node_kit.specs.declared.journal.Entry.{Entry}
use Rattle.run_facts.specs.Order.{Noted}
use Rattle.run_model.specs.Served.{journal_at}
use Rattle.audit_frame.specs.Lines.{noted_by}
use Rattle.audit_blocks.specs.Entries.{journal_noted, journals_noted}

abbrev is_of_node : ℕ → Noted → Bool
is_of_node c x = x.node == c

one_journal : (c n : ℕ) (b : Bool) → (n == c) ≡ b → (es : List Entry)
    → filter (is_of_node c) (journal_noted n es) ≡ cond b (journal_noted n es) []
one_journal c n true e [] = refl
one_journal c n false e [] = refl
one_journal c n true e (x ∷ xs) =
    ap (λ (b : Bool). cond b (noted_by n x ∷ filter (is_of_node c) (journal_noted n xs)) (filter (is_of_node c) (journal_noted n xs))) e
    ∙ ap (λ (q : List Noted). noted_by n x ∷ q) (one_journal c n true e xs)
one_journal c n false e (x ∷ xs) =
    ap (λ (b : Bool). cond b (noted_by n x ∷ filter (is_of_node c) (journal_noted n xs)) (filter (is_of_node c) (journal_noted n xs))) e
    ∙ one_journal c n false e xs

pub apart : (k c : ℕ) → (k ≡ c → ⊥) → (k == c) ≡ false
apart k c other = go (k == c) refl where
  go : (b : Bool) → (k == c) ≡ b → b ≡ false
  go true e = absurd (other (eqb-true k c e))
  go false e = refl

other_first : (c k : ℕ) (j : List Entry) (js : List (List Entry)) → (k ≡ c → ⊥)
    → filter (is_of_node c) (journals_noted k (j ∷ js)) ≡ filter (is_of_node c) (journals_noted (k + 1) js)
other_first c k j js other =
    filter-append (is_of_node c) (journal_noted k j) (journals_noted (k + 1) js)
    ∙ ap (λ (q : List Noted). q ++ filter (is_of_node c) (journals_noted (k + 1) js)) (one_journal c k false (apart k c other) j)

none_behind : (c k : ℕ) (js : List (List Entry)) → c < k → filter (is_of_node c) (journals_noted k js) ≡ []
none_behind c k [] l = refl
none_behind c k (j ∷ js) l =
    other_first c k j js (λ (e : k ≡ c). omega (arith, e, l)) ∙ none_behind c (k + 1) js (omega (arith, l))

from_node : (c k m : ℕ) (js : List (List Entry)) → c ≡ k + m → filter (is_of_node c) (journals_noted k js) ≡ journal_noted c (journal_at js m)
unfolding journal_at
from_node c k zero [] e = refl
from_node c k (suc m) [] e = refl
from_node c k zero (j ∷ js) e =
    let same : k ≡ c = omega (arith, e) in
    filter-append (is_of_node c) (journal_noted k j) (journals_noted (k + 1) js)
    ∙ (ap (λ (q : List Noted). q ++ filter (is_of_node c) (journals_noted (k + 1) js)) (one_journal c k true (eq-eqb k c same) j)
    ∙ (ap (λ (q : List Noted). journal_noted k j ++ q) (none_behind c (k + 1) js (omega (arith, e)))
    ∙ (append-nil (journal_noted k j) ∙ ap (λ (n : ℕ). journal_noted n j) same)))
from_node c k (suc m) (j ∷ js) e =
    other_first c k j js (λ (same : k ≡ c). omega (arith, e, same)) ∙ from_node c (k + 1) m js (omega (arith, e))

pub of_node : (c : ℕ) (js : List (List Entry)) → filter (is_of_node c) (journals_noted 0 js) ≡ journal_noted c (journal_at js c)
of_node c js = from_node c 0 c js (omega arith)

-- ---- what is told of one node

any_noted : (f : Noted → Bool) (g : Entry → Bool) (n : ℕ) → ((e : Entry) → f (noted_by n e) ≡ g e) → (es : List Entry)
    → list_any f (journal_noted n es) ≡ list_any g es
any_noted f g n same [] = refl
any_noted f g n same (e ∷ es) =
    ap (λ (b : Bool). b || list_any f (journal_noted n es)) (same e) ∙ ap (λ (b : Bool). g e || b) (any_noted f g n same es)

any_of_node : (c : ℕ) (f : Noted → Bool) (log : List Noted) → list_any (λ x. is_of_node c x && f x) log ≡ list_any f (filter (is_of_node c) log)
any_of_node c f [] = refl
any_of_node c f (x ∷ xs) = go (is_of_node c x) (any_of_node c f xs) where
  go : (b : Bool) → list_any (λ y. is_of_node c y && f y) xs ≡ list_any f (filter (is_of_node c) xs)
      → ((b && f x) || list_any (λ y. is_of_node c y && f y) xs) ≡ list_any f (cond b (x ∷ filter (is_of_node c) xs) (filter (is_of_node c) xs))
  go true h = ap (λ (r : Bool). f x || r) h
  go false h = h

pub any_at : (c : ℕ) (f : Noted → Bool) (g : Entry → Bool) (js : List (List Entry)) → ((e : Entry) → f (noted_by c e) ≡ g e)
    → list_any (λ x. (x.node == c) && f x) (journals_noted 0 js) ≡ list_any g (journal_at js c)
any_at c f g js same =
    any_of_node c f (journals_noted 0 js) ∙ (ap (λ (q : List Noted). list_any f q) (of_node c js) ∙ any_noted f g c same (journal_at js c))

flat_noted : {A : Type 0} (f : Noted → List A) (g : Entry → List A) (n : ℕ) → ((e : Entry) → f (noted_by n e) ≡ g e) → (es : List Entry)
    → flat_map f (journal_noted n es) ≡ flat_map g es
flat_noted f g n same [] = refl
flat_noted {A} f g n same (e ∷ es) =
    ap (λ (q : List A). q ++ flat_map f (journal_noted n es)) (same e) ∙ ap (λ (q : List A). g e ++ q) (flat_noted f g n same es)

flat_of_node : {A : Type 0} (c : ℕ) (f : Noted → List A) (log : List Noted)
    → flat_map (λ x. cond (is_of_node c x) (f x) []) log ≡ flat_map f (filter (is_of_node c) log)
flat_of_node c f [] = refl
flat_of_node {A} c f (x ∷ xs) = go (is_of_node c x) (flat_of_node c f xs) where
  go : (b : Bool) → flat_map (λ y. cond (is_of_node c y) (f y) []) xs ≡ flat_map f (filter (is_of_node c) xs)
      → (cond b (f x) [] ++ flat_map (λ y. cond (is_of_node c y) (f y) []) xs)
      ≡ flat_map f (cond b (x ∷ filter (is_of_node c) xs) (filter (is_of_node c) xs))
  go true h = ap (λ (r : List A). f x ++ r) h
  go false h = h

pub flat_alike : {A X : Type 0} (f g : X → List A) → ((x : X) → f x ≡ g x) → (xs : List X) → flat_map f xs ≡ flat_map g xs
flat_alike f g same [] = refl
flat_alike {A} f g same (x ∷ xs) =
    ap (λ (q : List A). q ++ flat_map f xs) (same x) ∙ ap (λ (q : List A). g x ++ q) (flat_alike f g same xs)

pub flat_at : {A : Type 0} (c : ℕ) (f : Noted → List A) (g : Entry → List A) (js : List (List Entry)) → ((e : Entry) → f (noted_by c e) ≡ g e)
    → flat_map (λ x. cond (x.node == c) (f x) []) (journals_noted 0 js) ≡ flat_map g (journal_at js c)
flat_at {A} c f g js same =
    flat_of_node c f (journals_noted 0 js)
    ∙ (ap (λ (q : List Noted). flat_map f q) (of_node c js) ∙ flat_noted f g c same (journal_at js c))

-- ---- and what is told of all

pub any_anywhere : (f : Noted → Bool) (g : Entry → Bool) → ((n : ℕ) (e : Entry) → f (noted_by n e) ≡ g e) → (k : ℕ) (js : List (List Entry))
    → list_any f (journals_noted k js) ≡ list_any (λ j. list_any g j) js
any_anywhere f g same k [] = refl
any_anywhere f g same k (j ∷ js) =
    list_any-append f (journal_noted k j) (journals_noted (k + 1) js)
    ∙ (ap (λ (b : Bool). b || list_any f (journals_noted (k + 1) js)) (any_noted f g k (same k) j)
    ∙ ap (λ (b : Bool). list_any g j || b) (any_anywhere f g same (k + 1) js))

pub any_alike : {X : Type 0} (f g : X → Bool) → ((x : X) → f x ≡ g x) → (xs : List X) → list_any f xs ≡ list_any g xs
any_alike f g same [] = refl
any_alike f g same (x ∷ xs) =
    ap (λ (b : Bool). b || list_any f xs) (same x) ∙ ap (λ (b : Bool). g x || b) (any_alike f g same xs)

pub any_flat : {A X : Type 0} (q : A → Bool) (f : X → List A) (xs : List X) → list_any q (flat_map f xs) ≡ list_any (λ x. list_any q (f x)) xs
any_flat q f [] = refl
any_flat q f (x ∷ xs) =
    list_any-append q (f x) (flat_map f xs) ∙ ap (λ (b : Bool). list_any q (f x) || b) (any_flat q f xs)
