-- A node's events below a beat are determined by what it takes on each link below it, and by its own steps.
use Rattle.std.proofs.Common.{◌≡◌, ℕ, ◌+◌, ◌<◌, ◌≤◌, List, [], ◌∷◌, ◌++◌, Bool, true, false, Option, Some, refl}
use Rattle.std.proofs.Common.{ap, sym, ◌∙◌, subst, arith, cond, ⊎_elim}
use Rattle.std.specs.Prelude.{◌⊎◌, ◌&&◌, not, nat_lt}
use Rattle.std.proofs.lemmas.Bool.{cases_Bool}
use Rattle.tiger_base.specs.declared.number.Stamp.{Stamp}
use Rattle.tiger_base.specs.declared.number.LinkNo.{LinkNo}
use Rattle.tiger_base.specs.declared.message.Note.{Note}
use Rattle.node_kit.specs.Courses.{ReturnsLater}
use Rattle.node_kit.specs.Life.{Lifetime, acts, dies, ends_in}
use Rattle.node_kit.specs.Steps.{Input, Deed, stamp_of}
use Rattle.node_kit.specs.Steps.Input.{Take, Tick}
use Rattle.run_facts.specs.Events.{NodeEvent, Past, Dated, after, behind, event_of, is_return, stamp_at}
use Rattle.run_facts.specs.Events.{takes_along}
use Rattle.run_facts.specs.Events.NodeEvent.{Does, Ends, Dies, Returns}
use Rattle.run_facts.specs.Accounts.{AreCounted, IsOpen, IsWhole, LivesBy, input_in}
use Rattle.run_facts.proofs.Rows.{all-weaker}
use Rattle.run_facts.proofs.Timelines.{rising-counted}
use Rattle.proof_answer.proofs.Alike.{AreUnended, TakeAlike, alike-back, alike-behind, alike-ended, is_ending, is_other}
use Rattle.proof_answer.proofs.Dated.{events_below}
use Rattle.proof_answer.proofs.Left.{AreLeft, left-behind, none-below, stamp-same}
use Rattle.proof_answer.proofs.Lifetimes.{life_of, ends-when, returns-when}
use Rattle.proof_answer.proofs.Lists.{head-tail, some-same}
use Rattle.proof_answer.proofs.Stages.{Stage, next_stage, returns-alike}
use Rattle.proof_answer.proofs.Stages.Stage.{Alive, Dead, Back}
use Rattle.proof_answer.proofs.Turning.{EndsOnce, IsCutAmong, IsTakeUpTo, cut-lower, dated, head-taken, input-open, next-lower}

link-same : (k l : LinkNo) → k.0 ≡ l.0 → k ≡ l
link-same k l h = let q : ◌≡◌ {A = LinkNo} (record { 0 = k.0 }) (record { 0 = l.0 }) = rw h refl in q

nothing-first : {X : Type 0} (x : X) (xs ys : List X) → x ∷ xs ≡ [] ++ ys → ys ≡ [] → ⊥
nothing-first x xs ys h none = let q : x ∷ xs ≡ [] = h ∙ none in absurd (cc)

input-stamp : {M : Type 0} (e : NodeEvent M) (i : Input M) → input_in e ≡ Some i → stamp_of i ≡ stamp_at e
input-stamp (Does x) i is = let q : x ≡ i = cc in ap stamp_of (sym q)
input-stamp (Ends x sends) i is = let q : x ≡ i = cc in ap stamp_of (sym q)
input-stamp (Dies s) i is = absurd (cc)
input-stamp (Returns s) i is = absurd (cc)

module _ {M S : Type 0} (note : M → Note) (step : S → Input M → Deed M S) (shows : ℕ → ℕ) (death left back : Option ℕ)
    (later : ReturnsLater death back) (beats b : ℕ) where
  abbrev life : Lifetime
  life = life_of death left back

  ends-once : EndsOnce life
  ends-once x y one two = some-same x y (sym (ends-when death left back x one) ∙ ends-when death left back y two)

  module _ (s : Stage) (t : ℕ) (past : Past S) where
    abbrev Left : List (NodeEvent M) → Type 0
    Left es = AreLeft note step shows life beats s t past es

    -- the next events of two lists have the same stamp, if they are in one beat
    one-stamp : (e f : NodeEvent M) (es fs : List (NodeEvent M)) → Left (e ∷ es) → Left (f ∷ fs)
        → (stamp_at e).beat ≡ (stamp_at f).beat → stamp_at e ≡ stamp_at f
    one-stamp e f es fs h g same =
        stamp-same (stamp_at e) (stamp_at f) same (h.stamped.0 ∙ ap shows same ∙ sym g.stamped.0)

    module _ (here : nat_lt t b ≡ true) where
      in-ending : ends_in life t ≡ true → is_ending life b t ≡ true
      in-ending h = ap (λ (x : Bool). x && nat_lt t b) h ∙ here

      in-other : ends_in life t ≡ false → is_other life b t ≡ true
      in-other h = ap (λ (x : Bool). not x && nat_lt t b) h ∙ here

      module _ (e : NodeEvent M) (es : List (NodeEvent M)) (f : NodeEvent M) (fs : List (NodeEvent M))
          (h : Left (e ∷ es)) (g : Left (f ∷ fs)) (same : TakeAlike life b (e ∷ es) (f ∷ fs)) where
        -- what the first list takes next, the second takes next, or its death comes first
        front-lower : (l : ℕ) (j : Input M) (d : Dated M) (ds : List (Dated M)) → input_in f ≡ Some j → d.beat ≡ t
            → ends_in life t ≡ true → (xs ys : List (Dated M))
            → dated (is_ending life b) (takes_along l (f ∷ fs)) ≡ xs → d ∷ ds ≡ xs ++ ys
            → (ys ≡ []) ⊎ IsCutAmong l (f ∷ fs) → IsTakeUpTo l j
        front-lower l j d ds is now ending [] ys shown split cut = ⊎_elim
            (λ (none : ys ≡ []). absurd (nothing-first d ds ys split none))
            (λ among. cut-lower life ends-once l t ending f fs g.counted g.in_turn g.lived j is among)
            cut
        front-lower l j d ds is now ending (x ∷ xs) ys shown split cut =
            let first = ap (λ (y : Dated M). y.beat) (head-tail d x ds (xs ++ ys) split).0 in
            next-lower l t f fs g.counted g.in_turn (is_ending life b) j x xs is (sym first ∙ now) shown

        -- so if the first takes a message, the second takes one on no higher link
        takes-lower : (r : Stamp) (k : LinkNo) (m : M) (j : Input M) → input_in e ≡ Some (Take r k m)
            → input_in f ≡ Some j → IsTakeUpTo k.0 j
        takes-lower r k m j mine theirs =
            let now : r.beat ≡ t = input-open t e (Take r k m) mine h.counted.0 in
            let first : Dated M = record { beat = r.beat; item = m } in
            let on = same k.0 in
            ⊎_elim
            (λ (ending : ends_in life t ≡ true).
            let within : is_ending life b r.beat ≡ true = ap (is_ending life b) now ∙ in-ending ending in
            let rest = dated (is_ending life b) (takes_along k.0 es) in
            let taken = head-taken (is_ending life b) r k m e es mine within in
            front-lower k.0 j first (rest ++ on.one) theirs now ending
            (dated (is_ending life b) (takes_along k.0 (f ∷ fs))) on.two refl
            (sym (ap (λ ds. ds ++ on.one) taken) ∙ on.ending) on.two_cut)
            (λ (other : ends_in life t ≡ false).
            let within : is_other life b r.beat ≡ true = ap (is_other life b) now ∙ in-other other in
            let rest = dated (is_other life b) (takes_along k.0 es) in
            let taken = head-taken (is_other life b) r k m e es mine within in
            next-lower k.0 t f fs g.counted g.in_turn (is_other life b) j first rest theirs now
            (sym on.others ∙ taken))
            (cases_Bool (ends_in life t))

        -- two messages that are next on one link are the same
        one-message : (r : Stamp) (k : LinkNo) (m : M) (q : Stamp) (o : LinkNo) (x : M)
            → input_in e ≡ Some (Take r k m) → input_in f ≡ Some (Take q o x) → k.0 ≡ o.0 → m ≡ x
        one-message r k m q o x mine theirs number =
            let now : r.beat ≡ t = input-open t e (Take r k m) mine h.counted.0 in
            let then : q.beat ≡ t = input-open t f (Take q o x) theirs g.counted.0 in
            let first : Dated M = record { beat = r.beat; item = m } in
            let other : Dated M = record { beat = q.beat; item = x } in
            let on = same k.0 in
            let taken : (test : ℕ → Bool) → test t ≡ true
            → dated test (takes_along k.0 (e ∷ es)) ≡ first ∷ dated test (takes_along k.0 es) =
            λ test within. head-taken test r k m e es mine (ap test now ∙ within) in
            let also : (test : ℕ → Bool) → test t ≡ true
            → dated test (takes_along k.0 (f ∷ fs)) ≡ other ∷ dated test (takes_along k.0 fs) =
            λ test within. subst (λ l. dated test (takes_along l (f ∷ fs)) ≡ other ∷ dated test (takes_along l fs))
            (sym number) (head-taken test q o x f fs theirs (ap test then ∙ within)) in
            let item = ap (λ (y : Dated M). y.item) in
            ⊎_elim
            (λ (ending : ends_in life t ≡ true).
            let test = is_ending life b in
            let within = in-ending ending in
            item (head-tail first other (dated test (takes_along k.0 es) ++ on.one)
            (dated test (takes_along k.0 fs) ++ on.two)
            (sym (ap (λ ds. ds ++ on.one) (taken test within))
            ∙ on.ending
            ∙ ap (λ ds. ds ++ on.two) (also test within))).0)
            (λ (outside : ends_in life t ≡ false).
            let test = is_other life b in
            let within = in-other outside in
            item (head-tail first other (dated test (takes_along k.0 es)) (dated test (takes_along k.0 fs))
            (sym (taken test within) ∙ on.others ∙ also test within)).0)
            (cases_Bool (ends_in life t))

      -- the next inputs of two lists that take alike are the same
      one-input : (e : NodeEvent M) (es : List (NodeEvent M)) (f : NodeEvent M) (fs : List (NodeEvent M))
          → Left (e ∷ es) → Left (f ∷ fs) → TakeAlike life b (e ∷ es) (f ∷ fs) → (i j : Input M)
          → input_in e ≡ Some i → input_in f ≡ Some j → i ≡ j
      one-input e es f fs h g same i j mine theirs =
          let back_again = alike-back life b (e ∷ es) (f ∷ fs) same in
          let beats_same : (stamp_at e).beat ≡ (stamp_at f).beat =
          ap (λ (q : Stamp). q.beat) (sym (input-stamp e i mine))
          ∙ input-open t e i mine h.counted.0 ∙ sym (input-open t f j theirs g.counted.0)
          ∙ ap (λ (q : Stamp). q.beat) (input-stamp f j theirs) in
          let stamps : stamp_of i ≡ stamp_of j =
          input-stamp e i mine ∙ one-stamp e f es fs h g beats_same ∙ sym (input-stamp f j theirs) in
          by_inputs i j mine theirs stamps back_again
        where
          by_inputs : (i j : Input M) → input_in e ≡ Some i → input_in f ≡ Some j → stamp_of i ≡ stamp_of j
              → TakeAlike life b (f ∷ fs) (e ∷ es) → i ≡ j
          by_inputs (Take r k m) (Take q o x) mine theirs stamps again =
              let low = takes-lower e es f fs h g same r k m (Take q o x) mine theirs in
              let high = takes-lower f fs e es g h again q o x (Take r k m) theirs mine in
              let number : k.0 ≡ o.0 = omega (arith, low, high) in
              let link = link-same k o number in
              let item = one-message e es f fs h g same r k m q o x mine theirs number in
              rw (stamps, link, item) refl
          by_inputs (Take r k m) (Tick q) mine theirs stamps again =
              absurd (takes-lower e es f fs h g same r k m (Tick q) mine theirs)
          by_inputs (Tick r) (Take q o x) mine theirs stamps again =
              absurd (takes-lower f fs e es g h again q o x (Tick r) theirs mine)
          by_inputs (Tick r) (Tick q) mine theirs stamps again = ap Tick stamps

      -- an event with an input is what the node's steps and its life make of this
      whole-input : (e : NodeEvent M) (i : Input M) → input_in e ≡ Some i → IsWhole step e past
          → event_of step i past ≡ e
      whole-input (Does x) i is whole =
          let q : i ≡ x = cc in ap (λ (y : Input M). event_of step y past) q ∙ whole
      whole-input (Ends x sends) i is whole =
          let q : i ≡ x = cc in ap (λ (y : Input M). event_of step y past) q ∙ whole
      whole-input (Dies r) i is whole = absurd (cc)
      whole-input (Returns r) i is whole = absurd (cc)

      input-acts : (e : NodeEvent M) (i : Input M) → input_in e ≡ Some i → LivesBy life e → IsOpen t e
          → acts life t ≡ true
      input-acts (Does x) i is lives now = ap (acts life) (sym now) ∙ lives
      input-acts (Ends x sends) i is lives now = ap (acts life) (sym now) ∙ lives.0
      input-acts (Dies r) i is lives now = absurd (cc)
      input-acts (Returns r) i is lives now = absurd (cc)

      -- where one list has an input next, the other does not die next, and where one has a return, the other has it
      input-or-death : (e : NodeEvent M) (es : List (NodeEvent M)) (r : Stamp) (fs : List (NodeEvent M)) (i : Input M)
          → Left (e ∷ es) → Left (Dies r ∷ fs) → input_in e ≡ Some i → ⊥
      input-or-death e es r fs i h g is =
          let live = input-acts e i is h.lived.0 h.counted.0 in
          let idle : acts life t ≡ false = ap (acts life) (sym g.counted.0) ∙ g.lived.0.0 in
          let q : true ≡ false = sym live ∙ idle in absurd (cc)

      return-or-not : (e : NodeEvent M) (es : List (NodeEvent M)) (r : Stamp) (fs : List (NodeEvent M)) → Left (e ∷ es)
          → Left (Returns r ∷ fs) → is_return e ≡ false → ⊥
      return-or-not e es r fs h g is =
          let q : false ≡ true = sym is ∙ returns-alike s e (Returns r) h.goes_on.0 g.goes_on.0 in absurd (cc)

      one-step : (e : NodeEvent M) (es : List (NodeEvent M)) (f : NodeEvent M) (fs : List (NodeEvent M))
          → Left (e ∷ es) → Left (f ∷ fs) → TakeAlike life b (e ∷ es) (f ∷ fs) → (i j : Input M)
          → input_in e ≡ Some i → input_in f ≡ Some j → e ≡ f
      one-step e es f fs h g same i j mine theirs =
          sym (whole-input e i mine h.whole.0)
          ∙ ap (λ (y : Input M). event_of step y past) (one-input e es f fs h g same i j mine theirs)
          ∙ whole-input f j theirs g.whole.0

      -- two lists that take alike begin with the same event
      one-head : (e : NodeEvent M) (es : List (NodeEvent M)) (f : NodeEvent M) (fs : List (NodeEvent M))
          → Left (e ∷ es) → Left (f ∷ fs) → TakeAlike life b (e ∷ es) (f ∷ fs) → e ≡ f
      one-head (Does i) es (Does j) fs h g same = one-step (Does i) es (Does j) fs h g same i j refl refl
      one-head (Does i) es (Ends j k) fs h g same = one-step (Does i) es (Ends j k) fs h g same i j refl refl
      one-head (Does i) es (Dies r) fs h g same = absurd (input-or-death (Does i) es r fs i h g refl)
      one-head (Does i) es (Returns r) fs h g same = absurd (return-or-not (Does i) es r fs h g refl)
      one-head (Ends i k) es (Does j) fs h g same = one-step (Ends i k) es (Does j) fs h g same i j refl refl
      one-head (Ends i k) es (Ends j o) fs h g same = one-step (Ends i k) es (Ends j o) fs h g same i j refl refl
      one-head (Ends i k) es (Dies r) fs h g same = absurd (input-or-death (Ends i k) es r fs i h g refl)
      one-head (Ends i k) es (Returns r) fs h g same = absurd (return-or-not (Ends i k) es r fs h g refl)
      one-head (Dies r) es (Does j) fs h g same = absurd (input-or-death (Does j) fs r es j g h refl)
      one-head (Dies r) es (Ends j k) fs h g same = absurd (input-or-death (Ends j k) fs r es j g h refl)
      one-head (Dies r) es (Dies q) fs h g same =
          ap Dies (one-stamp (Dies r) (Dies q) es fs h g (h.counted.0 ∙ sym g.counted.0))
      one-head (Dies r) es (Returns q) fs h g same = absurd (return-or-not (Dies r) es q fs h g refl)
      one-head (Returns r) es (Does j) fs h g same = absurd (return-or-not (Does j) fs r es g h refl)
      one-head (Returns r) es (Ends j k) fs h g same = absurd (return-or-not (Ends j k) fs r es g h refl)
      one-head (Returns r) es (Dies q) fs h g same = absurd (return-or-not (Dies q) fs r es g h refl)
      one-head (Returns r) es (Returns q) fs h g same =
          let mine = returns-when death left back r.beat h.lived.0 in
          let theirs = returns-when death left back q.beat g.lived.0 in
          ap Returns (one-stamp (Returns r) (Returns q) es fs h g (some-same r.beat q.beat (sym mine ∙ theirs)))

  -- an event that is no return is in the open beat
  open-here : (t : ℕ) (e : NodeEvent M) → is_return e ≡ false → IsOpen t e → (stamp_at e).beat ≡ t
  open-here t (Does i) is now = now
  open-here t (Ends i sends) is now = now
  open-here t (Dies r) is now = now
  open-here t (Returns r) is now = absurd (cc)

  -- while beats are left, so are events
  more-here : (t : ℕ) (f : NodeEvent M) → is_return f ≡ false → IsOpen t f → (stamp_at f).beat < beats → t ≡ beats → ⊥
  more-here t f is now early all = let at = open-here t f is now in omega (arith, at, early, all)

  more-back : (f : NodeEvent M) → is_return f ≡ true → LivesBy life f → (stamp_at f).beat < beats
      → ((w : ℕ) → back ≡ Some w → beats ≤ w) → ⊥
  more-back (Returns r) is lives early none =
      let high = none r.beat (returns-when death left back r.beat lives) in omega (arith, early, high)
  more-back (Does i) is lives early none = absurd (cc)
  more-back (Ends i sends) is lives early none = absurd (cc)
  more-back (Dies r) is lives early none = absurd (cc)

  more-left : (s : Stage) (t : ℕ) (past : Past S) (f : NodeEvent M) (fs : List (NodeEvent M))
      → AreLeft note step shows life beats s t past [] → AreLeft note step shows life beats s t past (f ∷ fs) → ⊥
  more-left Alive t past f fs h g = more-here t f g.goes_on.0 g.counted.0 g.early.0 h.goes_on
  more-left Dead t past f fs h g = more-back f g.goes_on.0 g.lived.0 g.early.0 h.goes_on
  more-left Back t past f fs h g = more-here t f g.goes_on.0.0 g.counted.0 g.early.0 h.goes_on

  -- behind a death in the middle of a beat nothing lies in this beat
  apart : (x y : ℕ) → death ≡ Some x → back ≡ Some y → x + 2 ≤ y
  apart x y dies returns =
      subst (λ (w : Option ℕ). ReturnsLater (Some x) w) returns (subst (λ (d : Option ℕ). ReturnsLater d back) dies later)

  behind-return : (x : ℕ) (r : Stamp) (es : List (NodeEvent M)) → ends_in life x ≡ true → LivesBy {M = M} life (Returns r)
      → AreCounted r.beat es
      → AreUnended {M = M} life (Returns r ∷ es)
  behind-return x r es ending lives counted =
      let far = apart x r.beat (ends-when death left back x ending) (returns-when death left back r.beat lives) in
      let unended : (y : ℕ) → r.beat ≤ y → ends_in life y ≡ false = λ y low. ⊎_elim
      (λ (t : ends_in life y ≡ true). let same = ends-once x y ending t in absurd (omega (arith, same, far, low)))
      (λ (f : ends_in life y ≡ false). f)
      (cases_Bool (ends_in life y)) in
      let own : r.beat ≤ r.beat = omega arith in (
        unended r.beat own,
        all-weaker (λ (g : NodeEvent M). r.beat ≤ (stamp_at g).beat) (λ g. ends_in life (stamp_at g).beat ≡ false) es
            (λ g low. unended (stamp_at g).beat low) (rising-counted r.beat es counted).0,
      )

  behind-end : (x t : ℕ) (past : Past S) (es : List (NodeEvent M)) → ends_in life x ≡ true
      → AreLeft note step shows life beats Dead t past es
      → AreUnended {M = M} life es
  behind-end x t past [] ending h = tt
  behind-end x t past (Returns r ∷ es) ending h = behind-return x r es ending h.lived.0 h.counted.1
  behind-end x t past (Does i ∷ es) ending h = let q = h.goes_on.0 in absurd (cc)
  behind-end x t past (Ends i sends ∷ es) ending h = let q = h.goes_on.0 in absurd (cc)
  behind-end x t past (Dies r ∷ es) ending h = let q = h.goes_on.0 in absurd (cc)

  -- behind the same event two lists take alike
  alike-next : (s : Stage) (t : ℕ) (past : Past S) (e : NodeEvent M) (es fs : List (NodeEvent M))
      → AreLeft note step shows life beats s t past (e ∷ es) → AreLeft note step shows life beats s t past (e ∷ fs)
      → TakeAlike life b (e ∷ es) (e ∷ fs) → TakeAlike life b es fs
  alike-next s t past (Ends i sends) es fs h g same =
      let e : NodeEvent M = Ends i sends in
      let beat = (stamp_of i).beat in
      let one = left-behind note step shows life beats s t past e es h in
      let two = left-behind note step shows life beats s t past e fs g in
      λ l. alike-ended life b l e es fs (same l)
      (behind-end beat (behind e t) (after note step e past) es h.lived.0.1 one)
      (behind-end beat (behind e t) (after note step e past) fs h.lived.0.1 two)
  alike-next s t past (Does i) es fs h g same = λ l. alike-behind life b l (Does i) es fs (same l) (λ cut. cut)
  alike-next s t past (Dies r) es fs h g same = λ l. alike-behind life b l (Dies r) es fs (same l) (λ cut. cut)
  alike-next s t past (Returns r) es fs h g same = λ l. alike-behind life b l (Returns r) es fs (same l) (λ cut. cut)

  both-below : (e : NodeEvent M) (es fs : List (NodeEvent M)) → events_below b es ≡ events_below b fs
      → events_below b (e ∷ es) ≡ events_below b (e ∷ fs)
  both-below e es fs same = ap (λ (gs : List (NodeEvent M)). cond (nat_lt (stamp_at e).beat b) (e ∷ gs) gs) same

  -- the events of two lists that take alike below a beat are the same below it
  pub one-below : (s : Stage) (t : ℕ) (past : Past S) (es fs : List (NodeEvent M))
      → AreLeft note step shows life beats s t past es → AreLeft note step shows life beats s t past fs
      → TakeAlike life b es fs → events_below b es ≡ events_below b fs
  one-below s t past [] [] h g same = refl
  one-below s t past [] (f ∷ fs) h g same = absurd (more-left s t past f fs h g)
  one-below s t past (e ∷ es) [] h g same = absurd (more-left s t past e es g h)
  one-below s t past (e ∷ es) (f ∷ fs) h g same = ⊎_elim
      (λ (here : nat_lt t b ≡ true).
      let q : f ≡ e = sym (one-head s t past here e es f fs h g same) in
      let theirs = subst (λ (x : NodeEvent M). AreLeft note step shows life beats s t past (x ∷ fs)) q g in
      let alike = subst (λ (x : NodeEvent M). TakeAlike life b (e ∷ es) (x ∷ fs)) q same in
      subst (λ (x : NodeEvent M). events_below b (e ∷ es) ≡ events_below b (x ∷ fs)) (sym q)
      (both-below e es fs
      (one-below (next_stage s e) (behind e t) (after note step e past) es fs
      (left-behind note step shows life beats s t past e es h)
      (left-behind note step shows life beats s t past e fs theirs)
      (alike-next s t past e es fs h theirs alike))))
      (λ (over : nat_lt t b ≡ false).
      none-below note step shows life beats s t past b (e ∷ es) over h
      ∙ sym (none-below note step shows life beats s t past b (f ∷ fs) over g))
      (cases_Bool (nat_lt t b))
