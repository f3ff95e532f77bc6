-- What a receiver of any life gets on a link: in its first life a front of what is sent, and from its return on a
-- front of
-- what is sent from there on.
use Rattle.std.proofs.Common.{◌≡◌, ℕ, ◌≤◌, List, [], ◌∷◌, ◌++◌, map, filter, Bool, true, false, cond, ◌&&◌}
use Rattle.std.proofs.Common.{Option, Some, None, refl, ap, sym, ◌∙◌, subst, arith, append_assoc, append-nil, ⊎_elim}
use Rattle.std.proofs.Common.{inl, inr}
use Rattle.std.specs.Prelude.{nat_lt, ◌==◌, is_some, ◌⊎◌}
use Rattle.std.specs.List.{AllByRecursion}
use Rattle.std.proofs.lemmas.Bool.{cases_Bool, and_parts, eqb-true, ltb-true}
use Rattle.std.proofs.lemmas.List.Elements.{filter-append}
use Rattle.node_kit.specs.Courses.{ReturnsLater}
use Rattle.node_kit.specs.Life.{Lifetime, ends_in}
use Rattle.run_facts.specs.Accounts.{Rising}
use Rattle.run_facts.specs.Events.{Dated}
use Rattle.run_facts.specs.Paced.{Passage, is_heard, brought, AreMissed, AreGot}
use Rattle.run_facts.proofs.Fronts.{lived}
use Rattle.run_facts.proofs.Rows.{all-append, all-right, all-weaker, all-both, all-filter, all-given, filter-none}
use Rattle.run_facts.proofs.Rows.{rising-right}
use Rattle.run_lives.proofs.Ending.{ends-parts}
use Rattle.run_lives.proofs.Picking.{filter-map, filter-twice, filter-passes, rising-filter, HasFront, has-front}
use Rattle.run_lives.proofs.Picking.{is_below}
use Rattle.run_lives.proofs.Picking.{lives_in, low-or, is_first, first-down, first-heard, first-below, again}

-- what is got is a front of what is sent, and why the rest is not
pub record TakesFront {X : Type 0} (fs : List (Passage X)) (gs : List (Dated X)) (Why : Passage X → Type 0)
    : Type 0 where
  pub early : List (Passage X)
  pub rest : List (Passage X)
  pub all : fs ≡ early ++ rest
  pub got : gs ≡ map brought early
  pub why : AllByRecursion Why rest

-- the beat in which a death cuts a node off
pub ends-at : (death left back : Option ℕ) (b : ℕ) → ends_in (lived death left back) b ≡ true
    → (d : ℕ) × (death ≡ Some d) × (b ≡ d) × (is_some left ≡ true)
ends-at None left back b h = absurd (cc)
ends-at (Some d) left back b h =
    let both = ends-parts _ left h in
    (d, refl, eqb-true b d (and_parts (b == d) true both.0).0, both.1)

ends-not : (d : ℕ) (left back : Option ℕ) (b : ℕ) → is_some left ≡ true → ends_in (lived (Some d) left back) b ≡ false
    → (b == d) ≡ false
ends-not d left back b some h = ⊎_elim
    (λ (e : (b == d) ≡ true).
    let q : is_some left ≡ false = sym (ap (λ t. is_some (cond (t && true) left None)) e) ∙ h in
    let bad : true ≡ false = sym some ∙ q in absurd (cc))
    (λ (e : (b == d) ≡ false). e)
    (cases_Bool (b == d))

module _ (death left back : Option ℕ) (later : ReturnsLater death back) (beats : ℕ) where
  abbrev its_life : Lifetime
  its_life = lived death left back

  abbrev its_return : Option ℕ
  its_return = again death left back later beats

  abbrev firsts : {X : Type 0} → Passage X → Bool
  firsts f = is_first death left back later beats f

  -- why something is not got in the first life: it is not heard there, or its turn had not come when the death came
  abbrev pub IsNotFirst : {X : Type 0} → (Came : Type 0) → Passage X → Type 0
  IsNotFirst Came f = (firsts f ≡ false) ⊎ (Came × (ends_in its_life f.arrival ≡ true))

  abbrev kept : {X : Type 0} → Passage X → Bool
  kept f = is_below its_return f.arrival

  first-kept : {X : Type 0} (fs : List (Passage X))
      → filter kept (filter (is_heard its_life beats) fs) ≡ filter firsts fs
  first-kept fs = filter-twice kept (is_heard its_life beats) firsts fs
      (all-given (λ f. (kept f ≡ true → is_heard its_life beats f ≡ firsts f) × (kept f ≡ false → firsts f ≡ false)) fs
      (λ f. (first-heard death left back later beats f, first-below death left back later beats f)))

  -- behind something missed nothing is got in the first life
  behind-by : (o : Option ℕ) → death ≡ o → {X : Type 0} (m g : Passage X) → ends_in its_life m.arrival ≡ true
      → m.arrival ≤ g.arrival → ends_in its_life g.arrival ≡ false → is_heard its_life beats g ≡ true → kept g ≡ false
  behind-by None is m g cut up beyond heard =
      let at = ends-at death left back m.arrival cut in
      let q : None ≡ Some at.0 = sym is ∙ at.1 in absurd (cc)
  behind-by (Some d) is m g cut up beyond heard = ⊎_elim
      (λ (k : kept g ≡ true).
      let lives : lives_in death left g.arrival ≡ true =
      (and_parts (nat_lt g.arrival beats) (lives_in death left g.arrival)
      (sym (first-heard death left back later beats g k) ∙ heard)).1 in
      let at = ends-at death left back m.arrival cut in
      let one : Some d ≡ Some at.0 = sym is ∙ at.1 in
      let same : d ≡ at.0 = cc in
      let there = at.2 in
      let other = ends-not d left back g.arrival at.3
      (subst (λ o. ends_in (lived o left back) g.arrival ≡ false) is beyond) in
      ⊎_elim
      (λ (e : nat_lt g.arrival d ≡ true).
      let low = ltb-true _ _ e in absurd (omega (arith, low, up, there, same)))
      (λ (e : ((g.arrival == d) ≡ true) × (is_some left ≡ true)).
      let q : true ≡ false = sym e.0 ∙ other in absurd (cc))
      (low-or (nat_lt g.arrival d) (g.arrival == d) (is_some left)
      (subst (λ o. lives_in o left g.arrival ≡ true) is lives)))
      (λ (k : kept g ≡ false). k)
      (cases_Bool (kept g))

  module _ {X : Type 0} (Came : Type 0) (fs : List (Passage X)) (rises : Rising (λ (f : Passage X). f.arrival) fs) where
    abbrev heard : List (Passage X)
    heard = filter (is_heard its_life beats) fs

    front : HasFront firsts fs
    front = has-front firsts fs (first-down death left back later beats) rises

    all-taken : TakesFront fs (filter (λ (d : Dated X). is_below its_return d.beat) (map brought heard))
        (IsNotFirst Came)
    all-taken = record {
      early = filter firsts fs;
      rest = front.rest;
      all = front.all;
      got = filter-map (is_below its_return) heard ∙ ap (map brought) (first-kept fs);
      why = all-weaker (λ (f : Passage X). firsts f ≡ false) (IsNotFirst Came) front.rest (λ f h. inl h) front.none;
    }

    some-taken : (early missed late : List (Passage X)) → Came → heard ≡ early ++ (missed ++ late)
        → AllByRecursion (λ (f : Passage X). ends_in its_life f.arrival ≡ true) missed
        → AllByRecursion (λ (f : Passage X). ends_in its_life f.arrival ≡ false) late
        → TakesFront fs (filter (λ (d : Dated X). is_below its_return d.beat) (map brought (early ++ late)))
        (IsNotFirst Came)
    some-taken early [] late came split cut beyond =
        subst (λ ps. TakesFront fs (filter (λ (d : Dated X). is_below its_return d.beat) (map brought ps))
        (IsNotFirst Came)) split all-taken
    some-taken early (m ∷ ms) late came split cut beyond =
        let missed = m ∷ ms in
        let up : AllByRecursion (λ (g : Passage X). m.arrival ≤ g.arrival) late =
        all-right (λ (g : Passage X). m.arrival ≤ g.arrival) ms late
        (rising-right (λ (f : Passage X). f.arrival) early (missed ++ late)
        (subst (Rising (λ (f : Passage X). f.arrival)) split
        (rising-filter (λ (f : Passage X). f.arrival) (is_heard its_life beats) fs rises))).0 in
        let passes : AllByRecursion (λ (g : Passage X). is_heard its_life beats g ≡ true) late =
        all-right (λ (g : Passage X). is_heard its_life beats g ≡ true) missed late
        (all-right (λ (g : Passage X). is_heard its_life beats g ≡ true) early (missed ++ late)
        (subst (AllByRecursion (λ (g : Passage X). is_heard its_life beats g ≡ true)) split
        (filter-passes (is_heard its_life beats) fs))) in
        let gone : filter kept late ≡ [] = filter-none kept late
        (all-weaker (λ (g : Passage X). (m.arrival ≤ g.arrival) × ((ends_in its_life g.arrival ≡ false)
        × (is_heard its_life beats g ≡ true))) (λ g. kept g ≡ false) late
        (λ g h. behind-by death refl m g cut.0 h.0 h.1.0 h.1.1)
        (all-both (λ (g : Passage X). m.arrival ≤ g.arrival)
        (λ g. (ends_in its_life g.arrival ≡ false) × (is_heard its_life beats g ≡ true)) late up
        (all-both (λ (g : Passage X). ends_in its_life g.arrival ≡ false) (λ g. is_heard its_life beats g ≡ true) late
        beyond passes))) in
        let parts : filter firsts fs ≡ filter kept early ++ filter kept (missed ++ late) =
        sym (first-kept fs) ∙ ap (filter kept) split ∙ filter-append kept early (missed ++ late) in
        record {
          early = filter kept early;
          rest = filter kept (missed ++ late) ++ front.rest;
          all = front.all ∙ ap (λ ps. ps ++ front.rest) parts
              ∙ append_assoc (filter kept early) (filter kept (missed ++ late)) front.rest;
          got = filter-map (is_below its_return) (early ++ late) ∙ ap (map brought) (filter-append kept early late
              ∙ ap (λ ps. filter kept early ++ ps) gone ∙ append-nil (filter kept early));
          why = all-append (IsNotFirst Came) (filter kept (missed ++ late)) front.rest
              (subst (AllByRecursion (IsNotFirst Came))
              (sym (filter-append kept missed late ∙ ap (λ ps. filter kept missed ++ ps) gone
              ∙ append-nil (filter kept missed)))
              (all-filter (IsNotFirst Came) kept missed
              (all-weaker (λ (f : Passage X). ends_in its_life f.arrival ≡ true) (IsNotFirst Came) missed
              (λ f h. inr (came, h)) cut)))
              (all-weaker (λ (f : Passage X). firsts f ≡ false) (IsNotFirst Came) front.rest (λ f h. inl h) front.none);
        }

    pub first-takes : (got : List (Dated X)) → AreGot its_life Came heard got
        → TakesFront fs (filter (λ (d : Dated X). is_below its_return d.beat) got) (IsNotFirst Came)
    first-takes got h = ⊎_elim
        (λ (all : got ≡ map brought heard).
        subst (λ ds. TakesFront fs (filter (λ (d : Dated X). is_below its_return d.beat) ds) (IsNotFirst Came))
        (sym all)
        all-taken)
        (λ (some : Came × AreMissed its_life heard got).
        let m = some.1 in
        subst (λ ds. TakesFront fs (filter (λ (d : Dated X). is_below its_return d.beat) ds) (IsNotFirst Came))
        (sym m.kept) (some-taken m.early m.missed m.late some.0 m.split m.cut_off m.beyond))
        h
