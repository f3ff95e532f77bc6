-- Wants that are the same, and the part that is found for a want among those that are stored.
use Rattle.std.proofs.Common.{◌≡◌, ℕ, List, [], ◌∷◌, Bool, true, false, Some, refl, sym, ap, subst, ◌∙◌, ⊎_elim, inl, inr}
use Rattle.std.specs.List.{list_any}
use Rattle.std.proofs.lemmas.Bool.{cases_Bool, eqb-true, eq-eqb, and_parts, or_left, or_right}
use Rattle.tiger_base.specs.Span.{LibraryPart}
use Rattle.tiger_base.specs.declared.tenancy.PieceState.{PieceState}
use Rattle.tiger_base.specs.declared.tenancy.Want.{Want}
use Rattle.tiger_base.specs.Records.{want_of_piece, same_want}
use Rattle.cub_rules.specs.declared.store.Store.{Store}
use Rattle.cub_rules.specs.declared.store.StoredPart.{StoredPart}
use Rattle.cub_rules.specs.Records.{stored_for}
use Rattle.cub_rules.specs.Messages.{is_wanted}
use Rattle.lists.specs.Elements.{In}
use Rattle.proof_parts.specs.Parts.{IsFound}

-- a want by its numbers
abbrev made : ℕ → ℕ → ℕ → ℕ → ℕ → ℕ → Want
made v s n f b j = record {
  instance = record { 0 = v };
  slot = record { 0 = s };
  visit = n;
  file = record { 0 = f };
  block = b;
  piece = j;
}

same_made : {a b c d e f g h k l m n : ℕ} → a ≡ g → b ≡ h → c ≡ k → d ≡ l → e ≡ m → f ≡ n
    → made a b c d e f ≡ made g h k l m n
same_made i j k l m n = cc

-- a stored part by its want and its bytes
abbrev stored : Want → LibraryPart → StoredPart
stored w part = record { want = w; part = part }

same_part : {v w : Want} {a b : LibraryPart} → v ≡ w → a ≡ b → stored v a ≡ stored w b
same_part i j = cc

-- two wants with the same numbers are one
pub one_want : (a b : Want) → same_want a b ≡ true → a ≡ b
one_want a b e =
    let f = and_parts _ _ e in
    let g = and_parts _ _ f.0 in
    let h = and_parts _ _ g.0 in
    let i = and_parts _ _ h.0 in
    let j = and_parts _ _ i.0 in
    same_made (eqb-true _ _ j.0) (eqb-true _ _ j.1) (eqb-true _ _ i.1) (eqb-true _ _ h.1) (eqb-true _ _ g.1)
    (eqb-true _ _ f.1)

-- a want is the same as itself
pub same_self : (w : Want) → same_want w w ≡ true
same_self w =
    rw (
      eq-eqb w.instance.0 w.instance.0 refl,
      eq-eqb w.slot.0 w.slot.0 refl,
      eq-eqb w.visit w.visit refl,
      eq-eqb w.file.0 w.file.0 refl,
      eq-eqb w.block w.block refl,
      eq-eqb w.piece w.piece refl,
    ) refl

-- While a part of a want is stored, one is found for it, and that is a part of the want.
pub found : (want : Want) (x : StoredPart) (xs : List StoredPart) → In x xs → x.want ≡ want → IsFound want xs
unfolding stored_for
found want x [] k e = absurd k
found want x (z ∷ zs) k e = ⊎_elim
    (λ (t : same_want want z.want ≡ true). record {
      part = z.part;
      found = rw t refl;
      there = inl (ap (λ (w : Want). record { want = w; part = z.part }) (one_want want z.want t));
    })
    (λ (f : same_want want z.want ≡ false).
    let later : In x zs = ⊎_elim
    (λ (q : x ≡ z).
    let no : true ≡ false = sym (same_self want)
    ∙ (ap (λ (w : Want). same_want want w) (sym e ∙ ap (λ (y : StoredPart). y.want) q) ∙ f) in
    absurd (cc))
    (λ q. q)
    k in
    let r = found want x zs later e in
    record { part = r.part; found = rw f r.found; there = inr r.there })
    (cases_Bool (same_want want z.want))

-- what is found for a want is stored for it
pub found_there : (want : Want) (part : LibraryPart) (xs : List StoredPart) → stored_for want xs ≡ Some part
    → In (record { want = want; part = part }) xs
unfolding stored_for
found_there want part [] e = absurd (cc)
found_there want part (z ∷ zs) e = ⊎_elim
    (λ (t : same_want want z.want ≡ true).
    let first : stored_for want (z ∷ zs) ≡ Some z.part = rw t refl in
    let is : Some z.part ≡ Some part = sym first ∙ e in
    let same : z.part ≡ part = cc in
    inl (same_part (one_want want z.want t) (sym same)))
    (λ (f : same_want want z.want ≡ false).
    let later : stored_for want (z ∷ zs) ≡ stored_for want zs = rw f refl in
    inr (found_there want part zs (sym later ∙ e)))
    (cases_Bool (same_want want z.want))

any_in : {X : Type 0} (test : X → Bool) (x : X) (xs : List X) → In x xs → test x ≡ true → list_any test xs ≡ true
any_in test x [] h e = absurd h
any_in {X} test x (z ∷ zs) h e = ⊎_elim
    (λ (q : x ≡ z). or_left (test z) (list_any test zs) (subst (λ (v : X). test v ≡ true) q e))
    (λ k. or_right (test z) (list_any test zs) (any_in test x zs k e))
    h

-- a piece whose record is there is wanted
pub wanted_piece : (x : PieceState) (h : Store) → In x h.pieces.items → is_wanted (want_of_piece x) h ≡ true
unfolding is_wanted
wanted_piece x h there =
    or_right _ _ (any_in (λ (z : PieceState). same_want (want_of_piece x) (want_of_piece z)) x h.pieces.items there
    (same_self (want_of_piece x)))
