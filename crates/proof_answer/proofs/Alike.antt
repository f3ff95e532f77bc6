-- Two lists of events of one node that take alike below a beat: the same, but for what a death came before.
use Rattle.std.proofs.Common.{◌≡◌, ℕ, List, [], ◌∷◌, ◌++◌, Bool, false, refl}
use Rattle.std.proofs.Common.{ap, sym, ◌∙◌, append_assoc, ⊎_elim, inl, inr}
use Rattle.std.specs.Prelude.{◌⊎◌, ◌&&◌, not, nat_lt}
use Rattle.std.specs.List.{AllByRecursion}
use Rattle.std.proofs.lemmas.List.{append_cancel_left}
use Rattle.std.proofs.lemmas.List.Elements.{filter-append}
use Rattle.node_kit.specs.Life.{Lifetime, ends_in}
use Rattle.run_facts.specs.Events.{NodeEvent, Dated, IsCutUpTo, stamp_at, take_on, takes_along}
use Rattle.run_facts.proofs.Rows.{filter-none}
use Rattle.proof_answer.proofs.Turning.{IsCutAmong, dated, takes-dated}

-- a beat below another is one in which the death is to cut the node off, or it is not
abbrev pub is_ending : Lifetime → ℕ → ℕ → Bool
is_ending life b beat = ends_in life beat && nat_lt beat b

abbrev pub is_other : Lifetime → ℕ → ℕ → Bool
is_other life b beat = not (ends_in life beat) && nat_lt beat b

-- On link l they take the same below a beat, apart from that in which the death is to cut the node off. In that one
-- they take fronts of the same, and all of it but where the death comes at the turn of link l or of a lower one.
pub record AreAlikeOn {M : Type 0} (life : Lifetime) (b l : ℕ) (es fs : List (NodeEvent M)) : Type 0 where
  pub others : dated (is_other life b) (takes_along l es) ≡ dated (is_other life b) (takes_along l fs)
  pub one : List (Dated M)
  pub two : List (Dated M)
  pub ending : dated (is_ending life b) (takes_along l es) ++ one ≡ dated (is_ending life b) (takes_along l fs) ++ two
  pub one_cut : (one ≡ []) ⊎ IsCutAmong l es
  pub two_cut : (two ≡ []) ⊎ IsCutAmong l fs

abbrev pub TakeAlike : {M : Type 0} → Lifetime → ℕ → List (NodeEvent M) → List (NodeEvent M) → Type 0
TakeAlike life b es fs = (l : ℕ) → AreAlikeOn life b l es fs

pub alike-back : {M : Type 0} (life : Lifetime) (b : ℕ) (es fs : List (NodeEvent M)) → TakeAlike life b es fs
    → TakeAlike life b fs es
alike-back life b es fs same l =
    let h = same l in
    record {
      others = sym h.others;
      one = h.two;
      two = h.one;
      ending = sym h.ending;
      one_cut = h.two_cut;
      two_cut = h.one_cut;
    }

-- these events lie in no beat that passes a test, or in which the death is to cut the node off
abbrev AreOutside : {M : Type 0} → (ℕ → Bool) → List (NodeEvent M) → Type 0
AreOutside test es = AllByRecursion (λ e. test (stamp_at e).beat ≡ false) es

abbrev pub AreUnended : {M : Type 0} → Lifetime → List (NodeEvent M) → Type 0
AreUnended life es = AreOutside (λ x. ends_in life x) es

-- so nothing is taken in them in a beat that passes it
none-taken : {M : Type 0} (test : ℕ → Bool) (l : ℕ) (es : List (NodeEvent M)) → AreOutside test es
    → dated test (takes_along l es) ≡ []
none-taken {M} test l es h =
    filter-none (λ (d : Dated M). test d.beat) (takes_along l es) (takes-dated (λ x. test x ≡ false) l es h)

-- lists that take nothing on a link are alike on it
pub alike-none : {M : Type 0} (life : Lifetime) (b l : ℕ) (es fs : List (NodeEvent M)) → takes_along l es ≡ []
    → takes_along l fs ≡ [] → AreAlikeOn life b l es fs
alike-none life b l es fs none also = record {
  others = ap (dated (is_other life b)) (none ∙ sym also);
  one = [];
  two = [];
  ending = ap (λ ds. dated (is_ending life b) ds ++ []) (none ∙ sym also);
  one_cut = inl refl;
  two_cut = inl refl;
}

module _ {M : Type 0} (life : Lifetime) (b l : ℕ) (e : NodeEvent M) (es fs : List (NodeEvent M))
    (same : AreAlikeOn life b l (e ∷ es) (e ∷ fs)) where
  abbrev split : (test : ℕ → Bool) (gs : List (NodeEvent M))
      → dated test (takes_along l (e ∷ gs)) ≡ dated test (take_on l e) ++ dated test (takes_along l gs)
  split test gs = filter-append (λ (d : Dated M). test d.beat) (take_on l e) (takes_along l gs)

  others-behind : dated (is_other life b) (takes_along l es) ≡ dated (is_other life b) (takes_along l fs)
  others-behind =
      let test = is_other life b in
      append_cancel_left (dated test (take_on l e)) (dated test (takes_along l es)) (dated test (takes_along l fs))
      (sym (split test es) ∙ same.others ∙ split test fs)

  ending-behind : dated (is_ending life b) (takes_along l es) ++ same.one
      ≡ dated (is_ending life b) (takes_along l fs) ++ same.two
  ending-behind =
      let test = is_ending life b in
      let here = dated test (take_on l e) in
      let left = dated test (takes_along l es) in
      let right = dated test (takes_along l fs) in
      append_cancel_left here (left ++ same.one) (right ++ same.two)
      (sym (append_assoc here left same.one)
      ∙ sym (ap (λ ds. ds ++ same.one) (split test es))
      ∙ same.ending
      ∙ ap (λ ds. ds ++ same.two) (split test fs)
      ∙ append_assoc here right same.two)

  behind-cut : (gs : List (NodeEvent M)) (ds : List (Dated M)) → (IsCutUpTo l e → ⊥)
      → (ds ≡ []) ⊎ IsCutAmong l (e ∷ gs) → (ds ≡ []) ⊎ IsCutAmong l gs
  behind-cut gs ds whole cut = ⊎_elim
      (λ (none : ds ≡ []). inl none)
      (λ (among : IsCutAmong l (e ∷ gs)). ⊎_elim (λ here. absurd (whole here)) (λ more. inr more) among)
      cut

  -- behind an event in which no death comes they are alike still
  pub alike-behind : (IsCutUpTo l e → ⊥) → AreAlikeOn life b l es fs
  alike-behind whole = record {
    others = others-behind;
    one = same.one;
    two = same.two;
    ending = ending-behind;
    one_cut = behind-cut es same.one whole same.one_cut;
    two_cut = behind-cut fs same.two whole same.two_cut;
  }

  unended : (gs : List (NodeEvent M)) → AreUnended life gs → AreOutside (is_ending life b) gs
  unended [] h = tt
  unended (g ∷ gs) h = (ap (λ (x : Bool). x && nat_lt (stamp_at g).beat b) h.0, unended gs h.1)

  -- and behind a death, since nothing comes behind it in its beat
  pub alike-ended : AreUnended life es → AreUnended life fs → AreAlikeOn life b l es fs
  alike-ended left right =
      let test = is_ending life b in
      let mine = none-taken test l es (unended es left) in
      let theirs = none-taken test l fs (unended fs right) in
      record {
        others = others-behind;
        one = [];
        two = [];
        ending = ap (λ ds. ds ++ []) (mine ∙ sym theirs);
        one_cut = inl refl;
        two_cut = inl refl;
      }
