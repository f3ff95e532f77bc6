-- What the next event of a node takes, if a message on a link is the next there in the open beat: that message, or one
-- on a lower link.
use Rattle.std.proofs.Common.{◌≡◌, ℕ, suc, ◌≤◌, List, [], ◌∷◌, ◌++◌, filter, Bool, true, false, Option, Some, refl}
use Rattle.std.proofs.Common.{ap, sym, ◌∙◌, subst, arith, cond, ⊎_elim}
use Rattle.std.specs.Prelude.{◌==◌, ◌⊎◌}
use Rattle.std.specs.List.{AllByRecursion}
use Rattle.std.proofs.lemmas.Bool.{cases_Bool, eq-eqb, eqb-true}
use Rattle.tiger_base.specs.declared.number.Stamp.{Stamp}
use Rattle.tiger_base.specs.declared.number.LinkNo.{LinkNo}
use Rattle.node_kit.specs.Life.{Lifetime, ends_in}
use Rattle.node_kit.specs.Steps.{Input, stamp_of}
use Rattle.node_kit.specs.Steps.Input.{Take, Tick}
use Rattle.run_facts.specs.Events.{NodeEvent, Dated, IsCutUpTo, behind, input_on, is_tick_input, stamp_at, take_on}
use Rattle.run_facts.specs.Events.{takes_along}
use Rattle.run_facts.specs.Events.NodeEvent.{Does, Ends, Dies, Returns}
use Rattle.run_facts.specs.Accounts.{AreCounted, AreInTurn, AreTurns, IsOpen, LivesBy, input_in}
use Rattle.run_facts.proofs.Timelines.{rising-counted}
use Rattle.proof_answer.proofs.Lists.{all-filter}

-- what has a date that passes a test
abbrev pub dated : {X : Type 0} → (ℕ → Bool) → List (Dated X) → List (Dated X)
dated test ds = filter (λ d. test d.beat) ds

-- an input takes a message on this link or on a lower one
abbrev pub IsTakeUpTo : {M : Type 0} → ℕ → Input M → Type 0
IsTakeUpTo l (Take stamp link msg) = link.0 ≤ l
IsTakeUpTo l (Tick stamp) = ⊥

-- in one of these events a message is taken on link l or on a lower one, and the node's death comes
abbrev pub IsCutAmong : {M : Type 0} → ℕ → List (NodeEvent M) → Type 0
IsCutAmong l [] = ⊥
IsCutAmong l (e ∷ es) = IsCutUpTo l e ⊎ IsCutAmong l es

-- what an event with this input takes, when it happens, and which beat is open behind it
pub input-taken : {M : Type 0} (l : ℕ) (e : NodeEvent M) (i : Input M) → input_in e ≡ Some i
    → take_on l e ≡ input_on l i
input-taken l (Does x) i is = let q : x ≡ i = cc in ap (input_on l) q
input-taken l (Ends x sends) i is = let q : x ≡ i = cc in ap (input_on l) q
input-taken l (Dies s) i is = absurd (cc)
input-taken l (Returns s) i is = absurd (cc)

pub input-open : {M : Type 0} (t : ℕ) (e : NodeEvent M) (i : Input M) → input_in e ≡ Some i → IsOpen t e
    → (stamp_of i).beat ≡ t
input-open t (Does x) i is h = let q : x ≡ i = cc in ap (λ y. (stamp_of y).beat) (sym q) ∙ h
input-open t (Ends x sends) i is h = let q : x ≡ i = cc in ap (λ y. (stamp_of y).beat) (sym q) ∙ h
input-open t (Dies s) i is h = absurd (cc)
input-open t (Returns s) i is h = absurd (cc)

input-behind : {M : Type 0} (t : ℕ) (e : NodeEvent M) (i : Input M) → input_in e ≡ Some i
    → behind e t ≡ cond (is_tick_input i) (suc t) t
input-behind t (Does x) i is = let q : x ≡ i = cc in ap (λ y. cond (is_tick_input y) (suc t) t) q
input-behind t (Ends x sends) i is = let q : x ≡ i = cc in ap (λ y. cond (is_tick_input y) (suc t) t) q
input-behind t (Dies s) i is = absurd (cc)
input-behind t (Returns s) i is = absurd (cc)

-- what is taken in its beat behind a message came on no lower link
takes-turn : {M : Type 0} (s : Stamp) (k : LinkNo) (m : M) (l : ℕ) (es : List (NodeEvent M))
    → AllByRecursion (λ f. AreTurns (Some (Take s k m)) (input_in f)) es
    → AllByRecursion (λ (d : Dated M). s.beat ≡ d.beat → k.0 ≤ l) (takes_along l es)
takes-turn s k m l [] h = tt
takes-turn s k m l (Does (Take a o x) ∷ es) h = ⊎_elim
    (λ (e : (o.0 == l) ≡ true).
    let same : o.0 ≡ l = eqb-true _ _ e in
    rw e ((λ now. let turn = h.0 now in omega (arith, turn, same)), takes-turn s k m l es h.1))
    (λ (e : (o.0 == l) ≡ false). rw e (takes-turn s k m l es h.1))
    (cases_Bool (o.0 == l))
takes-turn s k m l (Does (Tick a) ∷ es) h = takes-turn s k m l es h.1
takes-turn s k m l (Ends (Take a o x) sends ∷ es) h = ⊎_elim
    (λ (e : (o.0 == l) ≡ true).
    let same : o.0 ≡ l = eqb-true _ _ e in
    rw e ((λ now. let turn = h.0 now in omega (arith, turn, same)), takes-turn s k m l es h.1))
    (λ (e : (o.0 == l) ≡ false). rw e (takes-turn s k m l es h.1))
    (cases_Bool (o.0 == l))
takes-turn s k m l (Ends (Tick a) sends ∷ es) h = takes-turn s k m l es h.1
takes-turn s k m l (Dies a ∷ es) h = takes-turn s k m l es h.1
takes-turn s k m l (Returns a ∷ es) h = takes-turn s k m l es h.1

-- what is taken in these events is taken in their beats
pub takes-dated : {M : Type 0} (P : ℕ → Type 0) (l : ℕ) (es : List (NodeEvent M))
    → AllByRecursion (λ e. P (stamp_at e).beat) es
    → AllByRecursion (λ (d : Dated M). P d.beat) (takes_along l es)
takes-dated P l [] h = tt
takes-dated P l (Does (Take a o x) ∷ es) h = ⊎_elim
    (λ (e : (o.0 == l) ≡ true). rw e (h.0, takes-dated P l es h.1))
    (λ (e : (o.0 == l) ≡ false). rw e (takes-dated P l es h.1))
    (cases_Bool (o.0 == l))
takes-dated P l (Does (Tick a) ∷ es) h = takes-dated P l es h.1
takes-dated P l (Ends (Take a o x) sends ∷ es) h = ⊎_elim
    (λ (e : (o.0 == l) ≡ true). rw e (h.0, takes-dated P l es h.1))
    (λ (e : (o.0 == l) ≡ false). rw e (takes-dated P l es h.1))
    (cases_Bool (o.0 == l))
takes-dated P l (Ends (Tick a) sends ∷ es) h = takes-dated P l es h.1
takes-dated P l (Dies a ∷ es) h = takes-dated P l es h.1
takes-dated P l (Returns a ∷ es) h = takes-dated P l es h.1

-- a message that passes the test is the first on its link
pub head-taken : {M : Type 0} (test : ℕ → Bool) (s : Stamp) (k : LinkNo) (m : M) (e : NodeEvent M)
    (es : List (NodeEvent M)) → input_in e ≡ Some (Take s k m) → test s.beat ≡ true
    → dated test (takes_along k.0 (e ∷ es)) ≡ (record { beat = s.beat; item = m }) ∷ dated test (takes_along k.0 es)
head-taken test s k m e es is here =
    let own : (k.0 == k.0) ≡ true = eq-eqb k.0 k.0 refl in
    ap (λ ds. dated test (ds ++ takes_along k.0 es)) (input-taken k.0 e (Take s k m) is) ∙ rw (own, here) refl

-- what behind an input is in turn with it
turns-of : {M : Type 0} (f : NodeEvent M) (fs : List (NodeEvent M)) (j : Input M) → input_in f ≡ Some j
    → AreInTurn (f ∷ fs) → AllByRecursion (λ g. AreTurns (Some j) (input_in g)) fs
turns-of {M} f fs j is h =
    subst (λ (a : Option (Input M)). AllByRecursion (λ g. AreTurns a (input_in g)) fs) is h.0

-- what is behind a tick lies in later beats
behind-tick : {M : Type 0} (t : ℕ) (f : NodeEvent M) (fs : List (NodeEvent M)) (r : Stamp) → input_in f ≡ Some (Tick r)
    → AreCounted t (f ∷ fs) → AllByRecursion (λ (g : NodeEvent M). suc t ≤ (stamp_at g).beat) fs
behind-tick t f fs r is counted =
    (rising-counted (suc t) fs (subst (λ u. AreCounted u fs) (input-behind t f (Tick r) is) counted.1)).0

module _ {M : Type 0} (l t : ℕ) (f : NodeEvent M) (fs : List (NodeEvent M)) (counted : AreCounted t (f ∷ fs))
    (in_turn : AreInTurn (f ∷ fs)) where
  -- if what is next on link l is taken in the open beat
  take-lower : (test : ℕ → Bool) (r : Stamp) (o : LinkNo) (x : M) (d : Dated M) (ds : List (Dated M))
      → input_in f ≡ Some (Take r o x) → d.beat ≡ t → dated test (takes_along l (f ∷ fs)) ≡ d ∷ ds → o.0 ≤ l
  take-lower test r o x d ds is now shown = ⊎_elim
      (λ (q : (o.0 == l) ≡ true). let own : o.0 ≡ l = eqb-true _ _ q in omega (arith, own))
      (λ (q : (o.0 == l) ≡ false).
      let Turn : Dated M → Type 0 = λ y. r.beat ≡ y.beat → o.0 ≤ l in
      let none : input_on l (Take r o x) ≡ [] = rw q refl in
      let other : take_on l f ≡ [] = input-taken l f (Take r o x) is ∙ none in
      let behind_it : dated test (takes_along l fs) ≡ d ∷ ds =
      ap (λ ys. dated test (ys ++ takes_along l fs)) (sym other) ∙ shown in
      let turns = all-filter Turn (λ y. test y.beat) (takes_along l fs)
      (takes-turn r o x l fs (turns-of f fs (Take r o x) is in_turn)) in
      (subst (AllByRecursion Turn) behind_it turns).0 (input-open t f (Take r o x) is counted.0 ∙ sym now))
      (cases_Bool (o.0 == l))

  tick-ends : (test : ℕ → Bool) (r : Stamp) (d : Dated M) (ds : List (Dated M)) → input_in f ≡ Some (Tick r)
      → d.beat ≡ t → dated test (takes_along l (f ∷ fs)) ≡ d ∷ ds → ⊥
  tick-ends test r d ds is now shown =
      let Late : Dated M → Type 0 = λ y. suc t ≤ y.beat in
      let other : take_on l f ≡ [] = input-taken l f (Tick r) is in
      let behind_it : dated test (takes_along l fs) ≡ d ∷ ds =
      ap (λ ys. dated test (ys ++ takes_along l fs)) (sym other) ∙ shown in
      let late = all-filter Late (λ y. test y.beat) (takes_along l fs)
      (takes-dated (λ y. suc t ≤ y) l fs (behind-tick t f fs r is counted)) in
      let low = (subst (AllByRecursion Late) behind_it late).0 in
      omega (arith, low, now)

  pub next-lower : (test : ℕ → Bool) (j : Input M) (d : Dated M) (ds : List (Dated M)) → input_in f ≡ Some j
      → d.beat ≡ t → dated test (takes_along l (f ∷ fs)) ≡ d ∷ ds → IsTakeUpTo l j
  next-lower test (Take r o x) d ds is now shown = take-lower test r o x d ds is now shown
  next-lower test (Tick r) d ds is now shown = absurd (tick-ends test r d ds is now shown)

-- an event in which a death comes at the turn of link l or of a lower one, from a beat on and in turn with an input
record CutAt {M : Type 0} (life : Lifetime) (l low : ℕ) (before : Option (Input M)) : Type 0 where
  stamp : Stamp
  link : LinkNo
  msg : M
  ends : ends_in life stamp.beat ≡ true
  up_to : link.0 ≤ l
  late : low ≤ stamp.beat
  turn : AreTurns before (Some (Take stamp link msg))

cut-here : {M : Type 0} (life : Lifetime) (l low : ℕ) (before : Option (Input M)) (e : NodeEvent M) → IsCutUpTo l e
    → LivesBy life e → low ≤ (stamp_at e).beat → AreTurns before (input_in e) → CutAt life l low before
cut-here life l low before (Does i) cut lived late turn = absurd cut
cut-here life l low before (Ends (Take s k m) sends) cut lived late turn =
    record { stamp = s; link = k; msg = m; ends = lived.1; up_to = cut; late = late; turn = turn }
cut-here life l low before (Ends (Tick s) sends) cut lived late turn = absurd cut
cut-here life l low before (Dies s) cut lived late turn = absurd cut
cut-here life l low before (Returns s) cut lived late turn = absurd cut

cut-among : {M : Type 0} (life : Lifetime) (l low : ℕ) (before : Option (Input M)) (es : List (NodeEvent M))
    → IsCutAmong l es → AllByRecursion (LivesBy life) es → AllByRecursion (λ e. low ≤ (stamp_at e).beat) es
    → AllByRecursion (λ e. AreTurns before (input_in e)) es → CutAt life l low before
cut-among life l low before [] cut lived late turn = absurd cut
cut-among life l low before (e ∷ es) cut lived late turn = ⊎_elim
    (λ here. cut-here life l low before e here lived.0 late.0 turn.0)
    (λ more. cut-among life l low before es more lived.1 late.1 turn.1)
    cut

-- a death comes in one beat
abbrev pub EndsOnce : Lifetime → Type 0
EndsOnce life = (a b : ℕ) → ends_in life a ≡ true → ends_in life b ≡ true → a ≡ b

module _ {M : Type 0} (life : Lifetime) (once : EndsOnce life) (l t : ℕ) (ending : ends_in life t ≡ true)
    (f : NodeEvent M) (fs : List (NodeEvent M)) (counted : AreCounted t (f ∷ fs)) (in_turn : AreInTurn (f ∷ fs))
    (lived : AllByRecursion (LivesBy life) (f ∷ fs)) where
  -- if in the open beat a death comes at the turn of link l or of a lower one
  own-lower : (g : NodeEvent M) (j : Input M) → input_in g ≡ Some j → IsCutUpTo l g → IsTakeUpTo l j
  own-lower (Ends (Take r o x) sends) j is cut =
      let q : Take r o x ≡ j = cc in subst (λ (i : Input M). IsTakeUpTo l i) q cut
  own-lower (Ends (Tick r) sends) j is cut = absurd cut
  own-lower (Does i) j is cut = absurd cut
  own-lower (Dies s) j is cut = absurd cut
  own-lower (Returns s) j is cut = absurd cut

  later-lower : (j : Input M) → input_in f ≡ Some j → IsCutAmong l fs → IsTakeUpTo l j
  later-lower (Take r o x) is cut =
      let none : AllByRecursion (λ (g : NodeEvent M). 0 ≤ (stamp_at g).beat) fs = all-zero fs in
      let found = cut-among life l 0 (Some (Take r o x)) fs cut lived.1 none (turns-of f fs (Take r o x) is in_turn) in
      let now = input-open t f (Take r o x) is counted.0 in
      let turn = found.turn (now ∙ once t found.stamp.beat ending found.ends) in
      let up_to = found.up_to in
      omega (arith, turn, up_to)
    where
      all-zero : (gs : List (NodeEvent M)) → AllByRecursion (λ (g : NodeEvent M). 0 ≤ (stamp_at g).beat) gs
      all-zero [] = tt
      all-zero (g ∷ gs) = (omega arith, all-zero gs)
  later-lower (Tick r) is cut =
      let found = cut-among life l (suc t) (Some (Tick r)) fs cut lived.1 (behind-tick t f fs r is counted)
      (turns-of f fs (Tick r) is in_turn) in
      let late = found.late in
      let same = once t found.stamp.beat ending found.ends in
      absurd (omega (arith, late, same))

  pub cut-lower : (j : Input M) → input_in f ≡ Some j → IsCutAmong l (f ∷ fs) → IsTakeUpTo l j
  cut-lower j is cut = ⊎_elim (λ here. own-lower f j is here) (λ more. later-lower j is more) cut
