-- Rows of places, which are filled and emptied one at a time.
use Rattle.std.proofs.Common.{◌≡◌, ◌≢◌, ℕ, ◌+◌, ◌≤◌, List, [], ◌∷◌, ◌++◌, length, Option, Some, None, Result, Ok, Err, OnOk, refl, ap, sym, ◌∙◌, subst, arith, ⊎_elim, inr}
use Rattle.std.specs.Prelude.{slice_get, ◌⊎◌}
use Rattle.std.proofs.lemmas.Bool.{cases_eq}
use Rattle.std.proofs.lemmas.Option.{none-some}
use Rattle.tiger_base.specs.declared.number.NodeNo.{NodeNo}
use Rattle.node_kit.proofs.Rows.{get-pushed}
use Rattle.run_facts.proofs.Rows.{same-element}
use Rattle.slot_plan.specs.declared.params.Params.{Params}
use Rattle.node_kit.specs.Rows.{AllStand}
use Rattle.ring_cells.specs.Opens.{AreGiven}
use Rattle.ring_workers.specs.Ends.{HasEnd, AreLeft, AreSlots, AreTaken}
use Rattle.ring_cells.specs.Shares.{Exit}
use Rattle.ring_workers.specs.Rows.{IsOfNode, AreEmptyFrom}
use Rattle.ring_workers.proofs.Walks.{next-at}

-- what holds however a call ends
pub on-ok : {T E : Type 0} (r : Result T E) (P : Type 0) → P → OnOk r P
on-ok (Ok x) P h = h
on-ok (Err e) P h = tt

pub left-all : {A : Type 0} (ends : List (Option A)) → AreLeft ends ends
left-all ends l e h = h

pub left-on : {A : Type 0} (a b c : List (Option A)) → AreLeft a b → AreLeft b c → AreLeft a c
left-on a b c h g l e there = h l e (g l e there)

-- none is there
pub none-there : {A : Type 0} (ends : List (Option A)) → ends ≡ [] → (l : ℕ) (e : A) → HasEnd ends l e → ⊥
none-there ends none l e h = none-some (Some e) (subst (λ q. HasEnd q l e) none h)

pub none-pushed : {A : Type 0} (ends ends' : List (Option A)) → ends' ≡ ends ++ None ∷ [] → ((l : ℕ) (e : A) → HasEnd ends l e → ⊥) → (l : ℕ) (e : A) → HasEnd ends' l e → ⊥
none-pushed ends ends' all h l e there = ⊎_elim
    (λ (old : HasEnd ends l e). h l e old)
    (λ (new : (l ≡ length ends) × (None ≡ Some e)). none-some e new.1)
    (get-pushed ends None (Some e) l (subst (λ q. HasEnd q l e) all there))

-- each stands at its own number
pub slots-none : {A : Type 0} (all : List A) (slots : List (Option A)) → slots ≡ [] → AreSlots all slots
slots-none all slots none k x there = absurd (none-there slots none k x there)

pub slots-more : {A : Type 0} (all : List A) (slots slots' : List (Option A)) (x : A) → slots' ≡ slots ++ Some x ∷ [] → slice_get all (length slots) ≡ Some x → AreSlots all slots
    → AreSlots all slots'
slots-more all slots slots' x pushed at h k y there = ⊎_elim
    (λ (old : HasEnd slots k y). h k y old)
    (λ (new : (k ≡ length slots) × (Some x ≡ Some y)). ap (slice_get all) new.0 ∙ at ∙ new.1)
    (get-pushed slots (Some x) (Some y) k (subst (λ q. HasEnd q k y) pushed there))

pub slots-left : {A : Type 0} (all : List A) (slots slots' : List (Option A)) → AreLeft slots slots' → AreSlots all slots → AreSlots all slots'
slots-left all slots slots' left h k x there = h k x (left k x there)

-- what was taken, one after another
pub none-taken : {A : Type 0} (slots : List (Option A)) (numbers : List NodeNo) (taken : List A) → taken ≡ []
    → (q : ℕ) (n : NodeNo) (x : A) → slice_get numbers q ≡ Some n → slice_get taken q ≡ Some x → HasEnd slots n.0 x
none-taken slots numbers taken none q n x seat there = absurd (none-some x (sym (ap (λ xs. slice_get xs q) none) ∙ there))

pub more-taken : {A : Type 0} (slots : List (Option A)) (numbers : List NodeNo) (taken taken' : List A) (m : NodeNo) (x : A) → taken' ≡ taken ++ x ∷ []
    → slice_get numbers (length taken) ≡ Some m → HasEnd slots m.0 x
    → ((q : ℕ) (n : NodeNo) (y : A) → slice_get numbers q ≡ Some n → slice_get taken q ≡ Some y → HasEnd slots n.0 y)
    → (q : ℕ) (n : NodeNo) (y : A) → slice_get numbers q ≡ Some n → slice_get taken' q ≡ Some y → HasEnd slots n.0 y
more-taken {A} slots numbers taken taken' m x pushed at here h q n y seat there = ⊎_elim
    (λ (old : slice_get taken q ≡ Some y). h q n y seat old)
    (λ (new : (q ≡ length taken) × (x ≡ y)).
    let is : m ≡ n = same-element numbers (length taken) m n at (ap (slice_get numbers) (sym new.0) ∙ seat) in
    subst (λ (z : A). HasEnd slots n.0 z) new.1 (subst (λ (z : NodeNo). HasEnd slots z.0 x) is here))
    (get-pushed taken x y q (ap (λ xs. slice_get xs q) (sym pushed) ∙ there))

-- what stands at all places, one after another
pub none-stands : {A : Type 0} (slots : List (Option A)) (all : List A) → all ≡ [] → (k : ℕ) (x : A) → slice_get all k ≡ Some x → HasEnd slots k x
none-stands slots all none k x there = absurd (none-some x (sym (ap (λ xs. slice_get xs k) none) ∙ there))

pub more-stands : {A : Type 0} (slots : List (Option A)) (all all' : List A) (x : A) → all' ≡ all ++ x ∷ [] → HasEnd slots (length all) x
    → ((k : ℕ) (y : A) → slice_get all k ≡ Some y → HasEnd slots k y) → (k : ℕ) (y : A) → slice_get all' k ≡ Some y → HasEnd slots k y
more-stands {A} slots all all' x pushed here h k y there = ⊎_elim
    (λ (old : slice_get all k ≡ Some y). h k y old)
    (λ (new : (k ≡ length all) × (x ≡ y)). subst (λ (z : A). HasEnd slots k z) new.1 (subst (λ n. HasEnd slots n x) (sym new.0) here))
    (get-pushed all x y k (ap (λ xs. slice_get xs k) (sym pushed) ∙ there))

-- a thing is put in at the number at its place
pub put-of-node : {A : Type 0} (numbers : List NodeNo) (things done : List A) (x : A) (rest rest' : List A) (n : NodeNo) (was slots slots' : List (Option A)) → done ++ rest ≡ things → rest ≡ x ∷ rest'
    → slice_get numbers (length done) ≡ Some n → ((k : ℕ) (y : A) → HasEnd slots k y → (HasEnd was k y) ⊎ (IsOfNode numbers things k y))
    → ((k : ℕ) (y : A) → HasEnd slots' k y → (HasEnd slots k y) ⊎ ((n.0 ≡ k) × (y ≡ x))) → (k : ℕ) (y : A) → HasEnd slots' k y → (HasEnd was k y) ⊎ (IsOfNode numbers things k y)
put-of-node numbers things done x rest rest' n was slots slots' whole next seat h put k y there = ⊎_elim
    (λ (old : HasEnd slots k y). h k y old)
    (λ (new : (n.0 ≡ k) × (y ≡ x)). inr (record {
      place = length done;
      seat = seat ∙ ap (λ (m : ℕ). Some (record { 0 = m })) new.0;
      here = next-at things done x rest rest' (length done) whole next refl ∙ ap Some (sym new.1);
    }))
    (put k y there)

-- the nodes that were taken are those with which the run opens
pub all-given : {S : Type 0} (stands : S → Params → ℕ → Type 0) (p : Params) (opened : List S) (slots : List (Option S)) (numbers : List NodeNo) (taken : List S) → 1 ≤ length opened
    → AllStand stands p opened → AreSlots opened slots → AreTaken slots numbers taken → AreGiven stands p opened numbers taken
all-given stands p opened slots numbers taken some stand all h = record {
  some = some;
  size = h.size;
  each = λ q n s seat there. (let at = all n.0 s (h.each q n s seat there) in (at, stand n.0 s at));
}

module _ {M : Type 0} where
  -- rows that are empty
  pub empty-open : (rows : List (List (Exit M))) → rows ≡ [] → (q : ℕ) (row : List (Exit M)) → slice_get rows q ≡ Some row → row ≡ []
  empty-open rows none q row there = absurd (none-some row (sym (ap (λ xs. slice_get xs q) none) ∙ there))

  pub empty-pushed : (rows rows' : List (List (Exit M))) (new : List (Exit M)) → rows' ≡ rows ++ new ∷ [] → new ≡ []
      → ((q : ℕ) (row : List (Exit M)) → slice_get rows q ≡ Some row → row ≡ []) → (q : ℕ) (row : List (Exit M)) → slice_get rows' q ≡ Some row → row ≡ []
  empty-pushed rows rows' new pushed none h q row there = ⊎_elim
      (λ (old : slice_get rows q ≡ Some row). h q row old)
      (λ (last : (q ≡ length rows) × (new ≡ row)). sym last.1 ∙ none)
      (get-pushed rows new row q (ap (λ xs. slice_get xs q) (sym pushed) ∙ there))

  pub empty-none : (from : ℕ) (rows : List (List (Exit M))) → AreEmptyFrom from 0 rows
  empty-none from rows q row low high there = absurd (omega (arith, high))

  pub empty-more : (used used' place : ℕ) (rows : List (List (Exit M))) (row : List (Exit M)) → slice_get rows place ≡ Some row
      → (used' ≡ place + 1) ⊎ ((used' ≡ used) × (row ≡ [])) → AreEmptyFrom used place rows → AreEmptyFrom used' (place + 1) rows
  empty-more used used' place rows row at is h q r low high there = ⊎_elim
      (λ (new : used' ≡ place + 1). absurd (omega (arith, new, low, high)))
      (λ (same : (used' ≡ used) × (row ≡ [])). ⊎_elim
      (λ (here : q ≡ place). same-element rows place r row (ap (slice_get rows) (sym here) ∙ there) at ∙ same.1)
      (λ (other : q ≢ place). let e = same.0 in h q r (omega (arith, e, low)) (omega (arith, high, other)) there)
      (cases_eq q place))
      is
