-- Lists and tests with one thing more.
use Rattle.std.proofs.Common.{◌≡◌, Bool, true, false, ◌&&◌, ◌||◌, List, [], ◌∷◌, ◌++◌, refl, ap, sym, subst, ◌∙◌}
use Rattle.std.specs.Prelude.{Option}
use Rattle.std.specs.List.{list_any, flat_map}
use Rattle.std.proofs.lemmas.List.{flat_map_more}
use Rattle.std.proofs.lemmas.List.Folds.{list_any-append}
use Rattle.run_facts.specs.Order.{Noted}
use Rattle.run_model.specs.declared.parcels.Parcel.{Parcel}
use Rattle.audit_blocks.specs.declared.receipts.Came.{Came}
use Rattle.audit_blocks.specs.Told.{TellsCame}

pub or_false : (b : Bool) → (b || false) ≡ b
or_false true = refl
or_false false = refl

pub and_true : (b : Bool) → (b && true) ≡ b
and_true true = refl
and_true false = refl

pub and_false : (b : Bool) → (b && false) ≡ false
and_false true = refl
and_false false = refl

pub grown : {A X : Type 0} (f : X → List A) (log : List X) (x : X) (old new : List A) → new ≡ old ++ f x → old ≡ flat_map f log
    → new ≡ flat_map f (log ++ x ∷ [])
grown {A} f log x old new e h = e ∙ (ap (λ (q : List A). q ++ f x) h ∙ flat_map_more f [] log x)

pub noticed : {X : Type 0} (test : X → Bool) (log : List X) (x : X) (was is : Bool) → is ≡ (was || test x) → was ≡ list_any test log
    → is ≡ list_any test (log ++ x ∷ [])
noticed test log x was is e h =
    e ∙ (ap (λ (b : Bool). b || test x) h
    ∙ sym (list_any-append test log (x ∷ []) ∙ ap (λ (b : Bool). list_any test log || b) (or_false (test x))))

pub came_grown : (f : Noted → List Parcel) (log : List Noted) (x : Noted) (new : Option Came) (here : List Parcel) → here ≡ f x
    → TellsCame new (flat_map f log ++ here) → TellsCame new (flat_map f (log ++ x ∷ []))
came_grown f log x new here is h =
    subst (λ (ps : List Parcel). TellsCame new ps)
    (ap (λ (q : List Parcel). flat_map f log ++ q) is ∙ flat_map_more f [] log x) h
