-- Whoever hears the same takes alike: it misses only what its death came before.
use Rattle.std.proofs.Common.{◌≡◌, ℕ, List, [], ◌∷◌, ◌++◌, filter, map, Bool, true, false, refl, ap, sym, ◌∙◌}
use Rattle.std.proofs.Common.{append-nil, ⊎_elim, inl, inr}
use Rattle.std.specs.Prelude.{◌⊎◌, ◌&&◌, not, nat_lt}
use Rattle.std.specs.List.{AllByRecursion}
use Rattle.std.proofs.lemmas.Bool.{cases_Bool}
use Rattle.std.proofs.lemmas.List.{map-append}
use Rattle.std.proofs.lemmas.List.Elements.{filter-append}
use Rattle.node_kit.specs.Life.{Lifetime, ends_in}
use Rattle.run_facts.specs.Events.{NodeEvent, Dated, takes_along}
use Rattle.run_facts.specs.Paced.{AreGot, AreMissed, Passage, brought}
use Rattle.run_facts.proofs.Rows.{filter-none}
use Rattle.proof_answer.proofs.Alike.{AreAlikeOn, is_ending, is_other}
use Rattle.proof_answer.proofs.Dated.{dated_below}
use Rattle.proof_answer.proofs.Turning.{IsCutAmong, dated}

-- what passes two tests passes one of what passes the other
filter-and : {X : Type 0} (p q : X → Bool) (xs : List X) → filter (λ x. p x && q x) xs ≡ filter p (filter q xs)
filter-and p q [] = refl
filter-and p q (x ∷ xs) = ⊎_elim
    (λ (e : p x ≡ true). ⊎_elim
    (λ (f : q x ≡ true). rw (e, f, e) (ap (λ ys. x ∷ ys) (filter-and p q xs)))
    (λ (f : q x ≡ false). rw (e, f) (filter-and p q xs))
    (cases_Bool (q x)))
    (λ (e : p x ≡ false). ⊎_elim
    (λ (f : q x ≡ true). rw (e, f, e) (filter-and p q xs))
    (λ (f : q x ≡ false). rw (e, f) (filter-and p q xs))
    (cases_Bool (q x)))
    (cases_Bool (p x))

-- passages in lists, by the beats in which they are brought
parts : {X : Type 0} (test : ℕ → Bool) (xs ys : List (Passage X))
    → dated test (map brought (xs ++ ys)) ≡ dated test (map brought xs) ++ dated test (map brought ys)
parts {X} test xs ys =
    ap (dated test) (map-append brought xs ys)
    ∙ filter-append (λ (d : Dated X). test d.beat) (map brought xs) (map brought ys)

none-brought : {X : Type 0} (test : ℕ → Bool) (xs : List (Passage X))
    → AllByRecursion (λ (f : Passage X). test f.arrival ≡ false) xs → dated test (map brought xs) ≡ []
none-brought {X} test xs h = filter-none (λ (d : Dated X). test d.beat) (map brought xs) (each xs h)
  where
    each : (ys : List (Passage X)) → AllByRecursion (λ (f : Passage X). test f.arrival ≡ false) ys
        → AllByRecursion (λ (d : Dated X). test d.beat ≡ false) (map brought ys)
    each [] h = tt
    each (y ∷ ys) h = (h.0, each ys h.1)

module _ {X : Type 0} (life : Lifetime) (b : ℕ) where
  not-other : (xs : List (Passage X)) → AllByRecursion (λ (f : Passage X). ends_in life f.arrival ≡ true) xs
      → AllByRecursion (λ (f : Passage X). is_other life b f.arrival ≡ false) xs
  not-other [] h = tt
  not-other (x ∷ xs) h = (ap (λ (t : Bool). not t && nat_lt x.arrival b) h.0, not-other xs h.1)

  not-ending : (xs : List (Passage X)) → AllByRecursion (λ (f : Passage X). ends_in life f.arrival ≡ false) xs
      → AllByRecursion (λ (f : Passage X). is_ending life b f.arrival ≡ false) xs
  not-ending [] h = tt
  not-ending (x ∷ xs) h = (ap (λ (t : Bool). t && nat_lt x.arrival b) h.0, not-ending xs h.1)

  -- in each beat but that of the death all that is heard is got
  others-missed : (heard : List (Passage X)) (got : List (Dated X)) → AreMissed life heard got
      → dated (is_other life b) got ≡ dated (is_other life b) (map brought heard)
  others-missed heard got m =
      let test = is_other life b in
      let early = dated test (map brought m.early) in
      let late = dated test (map brought m.late) in
      ap (dated test) m.kept
      ∙ parts test m.early m.late
      ∙ ap (λ ds. early ++ (ds ++ late)) (sym (none-brought test m.missed (not-other m.missed m.cut_off)))
      ∙ ap (λ ds. early ++ ds) (sym (parts test m.missed m.late))
      ∙ sym (parts test m.early (m.missed ++ m.late))
      ∙ ap (λ ps. dated test (map brought ps)) (sym m.split)

  -- and in that one a front of it
  ending-missed : (heard : List (Passage X)) (got : List (Dated X)) → (m : AreMissed life heard got)
      → dated (is_ending life b) got ++ dated (is_ending life b) (map brought m.missed)
      ≡ dated (is_ending life b) (map brought heard)
  ending-missed heard got m =
      let test = is_ending life b in
      let early = dated test (map brought m.early) in
      let missed = dated test (map brought m.missed) in
      let none = none-brought test m.late (not-ending m.late m.beyond) in
      ap (λ ds. dated test ds ++ missed) m.kept
      ∙ ap (λ ds. ds ++ missed) (parts test m.early m.late ∙ ap (λ ds. early ++ ds) none ∙ append-nil early)
      ∙ ap (λ ds. early ++ ds) (sym (append-nil missed) ∙ ap (λ ds. missed ++ ds) (sym none))
      ∙ ap (λ ds. early ++ ds) (sym (parts test m.missed m.late))
      ∙ sym (parts test m.early (m.missed ++ m.late))
      ∙ ap (λ ps. dated test (map brought ps)) (sym m.split)

  others-got : (Came : Type 0) (heard : List (Passage X)) (got : List (Dated X)) → AreGot life Came heard got
      → dated (is_other life b) got ≡ dated (is_other life b) (map brought heard)
  others-got Came heard got h = ⊎_elim
      (λ (all : got ≡ map brought heard). ap (dated (is_other life b)) all)
      (λ (missed : Came × AreMissed life heard got). others-missed heard got missed.1)
      h

  ending-got : (Came : Type 0) (heard : List (Passage X)) (got : List (Dated X)) → AreGot life Came heard got
      → (rest : List (Dated X))
      × (dated (is_ending life b) got ++ rest ≡ dated (is_ending life b) (map brought heard))
      × ((rest ≡ []) ⊎ Came)
  ending-got Came heard got h = ⊎_elim
      (λ (all : got ≡ map brought heard).
      ([], append-nil (dated (is_ending life b) got) ∙ ap (dated (is_ending life b)) all, inl refl))
      (λ (missed : Came × AreMissed life heard got).
      (dated (is_ending life b) (map brought missed.1.missed), ending-missed heard got missed.1, inr missed.0))
      h

-- two lists of events take alike on a link if the node hears the same there
pub alike-heard : {M : Type 0} (life : Lifetime) (b l : ℕ) (es fs : List (NodeEvent M)) (one two : List (Passage M))
    → AreGot life (IsCutAmong l es) one (takes_along l es) → AreGot life (IsCutAmong l fs) two (takes_along l fs)
    → dated_below b (map brought one) ≡ dated_below b (map brought two) → AreAlikeOn life b l es fs
alike-heard {M} life b l es fs one two got_one got_two same =
    let mine = ending-got life b (IsCutAmong l es) one (takes_along l es) got_one in
    let theirs = ending-got life b (IsCutAmong l fs) two (takes_along l fs) got_two in
    let both : (test : ℕ → Bool) → dated (λ x. test x && nat_lt x b) (map brought one) ≡ dated (λ x. test x && nat_lt x b) (map brought two) =
    λ test.
    let split : (ps : List (Passage M)) → dated (λ x. test x && nat_lt x b) (map brought ps) ≡ dated test (dated_below b (map brought ps)) =
    λ ps. filter-and (λ (d : Dated M). test d.beat) (λ (d : Dated M). nat_lt d.beat b) (map brought ps) in
    split one ∙ ap (dated test) same ∙ sym (split two) in
    record {
      others = others-got life b (IsCutAmong l es) one (takes_along l es) got_one
          ∙ both (λ x. not (ends_in life x))
          ∙ sym (others-got life b (IsCutAmong l fs) two (takes_along l fs) got_two);
      one = mine.0;
      two = theirs.0;
      ending = mine.1 ∙ both (λ x. ends_in life x) ∙ sym theirs.1;
      one_cut = mine.2;
      two_cut = theirs.2;
    }
