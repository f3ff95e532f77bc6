-- A beat in which its death is to cut a node off: what it takes before its death comes, and its last event.
use Rattle.std.proofs.Common.{◌≡◌, ℕ, suc, ◌<◌, ◌≤◌, List, [], ◌∷◌, ◌++◌, map, filter, Bool, true, false, not}
use Rattle.std.proofs.Common.{◌&&◌, ◌||◌, Option, Some, None, refl, ap, sym, ◌∙◌, subst, cond, arith, append-nil}
use Rattle.std.proofs.Common.{⊎_elim, inl, inr}
use Rattle.std.specs.Prelude.{◌==◌, is_some, nat_lt, nat_le, min, ◌⊎◌}
use Rattle.std.specs.List.{AllByRecursion}
use Rattle.std.proofs.lemmas.Bool.{cases_Bool, cases_lt, and_parts, eqb-true}
use Rattle.std.proofs.lemmas.Bool.Decides.{nat_tests}
use Rattle.tiger_base.specs.declared.number.Stamp.{Stamp}
use Rattle.tiger_base.specs.declared.number.LinkNo.{LinkNo}
use Rattle.tiger_base.specs.declared.message.Note.{Note}
use Rattle.slot_plan.specs.declared.params.Params.{Params}
use Rattle.node_kit.specs.declared.outbox.Out.{Out}
use Rattle.node_kit.specs.Outputs.{send_count}
use Rattle.node_kit.specs.Life.{Lifetime, acts, dies, returns, hears, ends_in, left_in, cut_by, cut_to}
use Rattle.node_kit.specs.Links.{IsInLink}
use Rattle.node_kit.specs.Steps.{Input, Deed, stamp_of}
use Rattle.node_kit.specs.Steps.Input.{Take, Tick}
use Rattle.run_facts.specs.declared.mail.Letter.{Letter}
use Rattle.run_facts.specs.Accounts.{input_in, AreTurns, IsInTurn, AreInTurn}
use Rattle.run_facts.specs.Accounts.{Rising, AreAlive, IsLed, is_caught, HasCutIn, IsTakeAt}
use Rattle.run_facts.specs.Beats.{is_taken, letter_events, return_events, end_events, beat_events, bring, on_link}
use Rattle.run_facts.specs.Events.{NodeEvent, Past, after, after_all, after_cut, event_to, event_of, is_tick_input}
use Rattle.run_facts.specs.Events.{takes_along, is_death}
use Rattle.run_facts.specs.Events.NodeEvent.{Does, Ends, Dies, Returns}
use Rattle.run_facts.specs.Paced.{Passage, brought}
use Rattle.node_kit.specs.Courses.{ReturnsLater}
use Rattle.run_lives.proofs.Alike.{IsOfLife, life-of-event, life-of-events, over-event, over-events, acts-of, dies-of}
use Rattle.run_lives.proofs.Alike.{returns-of, hears-of, ends-of}
use Rattle.run_facts.proofs.Along.{after_all-append}
use Rattle.run_facts.proofs.Beats.{last-acting, last-idle}
use Rattle.run_facts.proofs.Fronts.{lived}
use Rattle.run_facts.proofs.Rows.{all-weaker}

-- it acts while its death has not come, and not any more behind that
acts-by : (a i s o z : Bool) → (i && not o) ≡ true → s ≡ true → (a || (i && (s && not o)) || z) ≡ true
acts-by true i s o z h g = refl
acts-by false true true false z h g = refl
acts-by false true false false z h g = absurd (cc)
acts-by false true s true z h g = absurd (cc)
acts-by false false s o z h g = absurd (cc)

pub ends-parts : (t : Bool) (a : Option ℕ) → is_some (cond t a None) ≡ true → (t ≡ true) × (is_some a ≡ true)
ends-parts true a h = (refl, h)
ends-parts false a h = absurd (cc)

pub ends-acts : (now : Lifetime) (b : ℕ) → ends_in now b ≡ true → acts now b ≡ true
unfolding acts
ends-acts now b h =
    let both = ends-parts _ now.left h in
    acts-by _ _ (is_some now.left) now.over _ both.0 both.1

cut-always : (t : Bool) (x : Option ℕ) → cond (t || true) x None ≡ x
cut-always true x = refl
cut-always false x = refl

cut-some : {M : Type 0} (o : Option ℕ) (outs : List (Out M)) → is_some o ≡ true
    → (sends : ℕ) × (cut_by o true outs ≡ Some sends)
cut-some None outs h = absurd (cc)
cut-some (Some k) outs h =
    (min k (send_count outs), cut-always (nat_lt k (send_count outs)) (Some (min k (send_count outs))))

-- who is cut off in a beat does not die apart from its events
undying-by : (i s : Bool) → s ≡ true → (i && not s) ≡ false
undying-by true true h = refl
undying-by false true h = refl
undying-by i false h = absurd (cc)

pub ends-undying : (now : Lifetime) (b : ℕ) → ends_in now b ≡ true → dies now b ≡ false
unfolding dies
ends-undying now b h = undying-by _ (is_some now.left) (ends-parts _ now.left h).1

take-alive : {M : Type 0} (stamp : Stamp) (p : Params) (n : ℕ) (e : NodeEvent M) → IsTakeAt stamp p n e
    → is_death e ≡ false
take-alive stamp p n (Does (Take s link msg)) h = refl
take-alive stamp p n (Does (Tick s)) h = absurd h
take-alive stamp p n (Ends i k) h = absurd h
take-alive stamp p n (Dies s) h = absurd h
take-alive stamp p n (Returns s) h = absurd h

module _ {M S : Type 0} (note : M → Note) (step : S → Input M → Deed M S) (stamp : Stamp) where
  -- who does not act takes nothing
  pub letters-idle : (ls : List (Letter M)) (past : Past S) → acts past.life stamp.beat ≡ false
      → letter_events note step stamp ls past ≡ []
  letters-idle [] past h = refl
  letters-idle (x ∷ xs) past h =
      let e : is_taken past.life x.sent stamp.beat ≡ false = ap (λ b. b && hears past.life x.sent stamp.beat) h in
      rw e (letters-idle xs past h)

  -- of what a link brings in events of the beat a front is taken, and the rest missed its turn by the death
  pub record CutTakes (life : Lifetime) (l : ℕ) (ls : List (Letter M)) (es : List (NodeEvent M)) : Type 0 where
    pub early : List (Passage M)
    pub missed : List (Passage M)
    pub split : filter (is_caught life) (map (bring stamp.beat) (filter (on_link l) ls)) ≡ early ++ missed
    pub taken : takes_along l es ≡ map brought early
    pub why : (missed ≡ []) ⊎ HasCutIn l es

  higher : (l : ℕ) (link : LinkNo) (ls : List (Letter M)) → l < link.0
      → AllByRecursion (λ (x : Letter M). link.0 ≤ x.link.0) ls → filter (on_link l) ls ≡ []
  higher l link [] above h = refl
  higher l link (x ∷ xs) above h = ⊎_elim
      (λ (e : (x.link.0 == l) ≡ true). let q = eqb-true x.link.0 l e in let low = h.0 in
      absurd (omega (arith, q, low, above)))
      (λ (e : (x.link.0 == l) ≡ false). rw e (higher l link xs above h.1))
      (cases_Bool (x.link.0 == l))

  -- a message that is not heard
  lost-on : (life : Lifetime) (l : ℕ) (x : Letter M) (xs : List (Letter M)) (es : List (NodeEvent M))
      → is_taken life x.sent stamp.beat ≡ false → CutTakes life l xs es → CutTakes life l (x ∷ xs) es
  lost-on life l x xs es lost rest = ⊎_elim
      (λ (q : (x.link.0 == l) ≡ true). record {
        early = rest.early;
        missed = rest.missed;
        split = rw (q, lost) rest.split;
        taken = rest.taken;
        why = rest.why;
      })
      (λ (q : (x.link.0 == l) ≡ false). record {
        early = rest.early;
        missed = rest.missed;
        split = rw q rest.split;
        taken = rest.taken;
        why = rest.why;
      })
      (cases_Bool (x.link.0 == l))

  later-cut : (l : ℕ) (e : NodeEvent M) (es : List (NodeEvent M)) → HasCutIn l es → HasCutIn l (e ∷ es)
  later-cut l e es h = let low = h.1 in (suc h.0, omega (arith, low), h.2)

  -- a message that is taken in a whole step
  whole-on : (life : Lifetime) (l : ℕ) (x : Letter M) (xs : List (Letter M)) (es : List (NodeEvent M))
      → is_taken life x.sent stamp.beat ≡ true → CutTakes life l xs es
      → CutTakes life l (x ∷ xs) (Does (Take stamp x.link x.msg) ∷ es)
  whole-on life l x xs es heard rest =
      let one : NodeEvent M = Does (Take stamp x.link x.msg) in
      let why : (rest.missed ≡ []) ⊎ HasCutIn l (one ∷ es) = ⊎_elim
      (λ (none : rest.missed ≡ []). inl none) (λ (cut : HasCutIn l es). inr (later-cut l one es cut)) rest.why in
      ⊎_elim
      (λ (q : (x.link.0 == l) ≡ true). record {
        early = bring stamp.beat x ∷ rest.early;
        missed = rest.missed;
        split = rw (q, heard) (ap (λ ps. bring stamp.beat x ∷ ps) rest.split);
        taken = rw q (ap (λ ds. (record { beat = stamp.beat; item = x.msg }) ∷ ds) rest.taken);
        why = why;
      })
      (λ (q : (x.link.0 == l) ≡ false). record {
        early = rest.early;
        missed = rest.missed;
        split = rw q rest.split;
        taken = rw q rest.taken;
        why = why;
      })
      (cases_Bool (x.link.0 == l))

  -- and one in whose step the death comes
  cut-on : (life : Lifetime) (l k : ℕ) (x : Letter M) (xs : List (Letter M))
      → is_taken life x.sent stamp.beat ≡ true → AllByRecursion (λ (y : Letter M). x.link.0 ≤ y.link.0) xs
      → CutTakes life l (x ∷ xs) (Ends (Take stamp x.link x.msg) k ∷ [])
  cut-on life l k x xs heard rises =
      let rest = filter (is_caught life) (map (bring stamp.beat) (filter (on_link l) xs)) in
      ⊎_elim
      (λ (q : (x.link.0 == l) ≡ true).
      let same = eqb-true x.link.0 l q in
      record {
        early = bring stamp.beat x ∷ [];
        missed = rest;
        split = rw (q, heard) refl;
        taken = rw q refl;
        why = inr (0, omega arith, omega (arith, same));
      })
      (λ (q : (x.link.0 == l) ≡ false). ⊎_elim
      (λ (high : l < x.link.0).
      let none = higher l x.link xs high rises in
      record {
        early = [];
        missed = [];
        split = rw (q, none) refl;
        taken = rw q refl;
        why = inl refl;
      })
      (λ (low : x.link.0 ≤ l). record {
        early = [];
        missed = rest;
        split = rw q refl;
        taken = rw q refl;
        why = inr (0, omega arith, low);
      })
      (cases_lt l x.link.0))
      (cases_Bool (x.link.0 == l))

  event-is : (i : Input M) (past : Past S)
      → event_of step i past ≡ event_to i (cut_to past.life (stamp_of i) (is_tick_input i) (step past.state i).outs)
  unfolding event_of
  event-is i past = refl

  over-cut : (i : Input M) (k : ℕ) (past : Past S) → (after note step (Ends i k) past).life.over ≡ true
  unfolding after_cut
  over-cut i k past = refl

  -- a life of which the death has come in an event does not act any more
  abbrev pub IsOver : Lifetime → Type 0
  IsOver life = (now : Lifetime) → IsOfLife life now → now.over ≡ true → acts now stamp.beat ≡ false

  by-cut : (life : Lifetime) (l : ℕ) (x : Letter M) (xs : List (Letter M)) (past : Past S)
      → is_taken life x.sent stamp.beat ≡ true → is_taken past.life x.sent stamp.beat ≡ true
      → AllByRecursion (λ (y : Letter M). x.link.0 ≤ y.link.0) xs → IsOfLife life past.life → IsOver life
      → CutTakes life l xs (letter_events note step stamp xs (after note step (Does (Take stamp x.link x.msg)) past))
      → (o : Option ℕ) → event_of step (Take stamp x.link x.msg) past ≡ event_to (Take stamp x.link x.msg) o
      → CutTakes life l (x ∷ xs) (letter_events note step stamp (x ∷ xs) past)
  by-cut life l x xs past heard was rises of_life dead rest None is =
      let one : NodeEvent M = Does (Take stamp x.link x.msg) in
      let more = letter_events note step stamp xs (after note step one past) in
      let same : letter_events note step stamp (x ∷ xs) past ≡ one ∷ more = rw (was, is) refl in
      subst (CutTakes life l (x ∷ xs)) (sym same) (whole-on life l x xs more heard rest)
  by-cut life l x xs past heard was rises of_life dead rest (Some k) is =
      let i : Input M = Take stamp x.link x.msg in
      let last : NodeEvent M = Ends i k in
      let idle = dead (after note step last past).life (life-of-event note step life last past of_life)
      (over-cut i k past) in
      let none = letters-idle xs (after note step last past) idle in
      let same : letter_events note step stamp (x ∷ xs) past ≡ last ∷ [] = rw (was, is) (ap (λ es. last ∷ es) none) in
      subst (CutTakes life l (x ∷ xs)) (sym same) (cut-on life l k x xs heard rises)

  pub cut-takes : (life : Lifetime) (l : ℕ) (ls : List (Letter M)) (past : Past S)
      → Rising (λ (x : Letter M). x.link.0) ls → IsOfLife life past.life → past.life.over ≡ life.over → IsOver life
      → CutTakes life l ls (letter_events note step stamp ls past)
  cut-takes life l [] past rises of_life over dead =
      record { early = []; missed = []; split = refl; taken = refl; why = inl refl }
  cut-takes life l (x ∷ xs) past rises of_life over dead =
      let i : Input M = Take stamp x.link x.msg in
      let one : NodeEvent M = Does i in
      let was : is_taken past.life x.sent stamp.beat ≡ is_taken life x.sent stamp.beat =
      rw (acts-of life past.life stamp.beat of_life over, hears-of life past.life x.sent stamp.beat of_life) refl in
      let rest = cut-takes life l xs (after note step one past) rises.1 (life-of-event note step life one past of_life)
      (over-event note step one past refl ∙ over) dead in
      ⊎_elim
      (λ (e : is_taken life x.sent stamp.beat ≡ true). by-cut life l x xs past e (was ∙ e) rises.0 of_life dead rest
      (cut_to past.life stamp false (step past.state i).outs) (event-is i past))
      (λ (e : is_taken life x.sent stamp.beat ≡ false).
      let same : letter_events note step stamp (x ∷ xs) past ≡ letter_events note step stamp xs past = rw (was
      ∙ e) refl in
      subst (CutTakes life l (x ∷ xs)) (sym same)
      (lost-on life l x xs _ e (cut-takes life l xs past rises.1 of_life over dead)))
      (cases_Bool (is_taken life x.sent stamp.beat))

  -- letters that come by link are taken in turn, cut off or not
  input-to : (i : Input M) (o : Option ℕ) → input_in (event_to i o) ≡ Some i
  input-to i None = refl
  input-to i (Some k) = refl

  input-of : (i : Input M) (past : Past S) → input_in (event_of step i past) ≡ Some i
  input-of i past = ap (λ (e : NodeEvent M). input_in e) (event-is i past)
      ∙ input-to i (cut_to past.life (stamp_of i) (is_tick_input i) (step past.state i).outs)

  letters-behind : (link : LinkNo) (msg : M) (ls : List (Letter M)) (past : Past S)
      → AllByRecursion (λ (x : Letter M). link.0 ≤ x.link.0) ls
      → AllByRecursion (λ (f : NodeEvent M). AreTurns (Some (Take stamp link msg)) (input_in f))
      (letter_events note step stamp ls past)
  letters-behind link msg [] past h = tt
  letters-behind link msg (x ∷ xs) past h =
      let i : Input M = Take stamp x.link x.msg in
      let one : NodeEvent M = event_of step i past in
      let turns : AreTurns (Some (Take stamp link msg)) (input_in one) =
      subst (λ q. AreTurns (Some (Take stamp link msg)) q) (sym (input-of i past)) (λ q. h.0) in
      ⊎_elim
      (λ (e : is_taken past.life x.sent stamp.beat ≡ true). rw e
      (turns, letters-behind link msg xs (after note step one past) h.1))
      (λ (e : is_taken past.life x.sent stamp.beat ≡ false). rw e (letters-behind link msg xs past h.1))
      (cases_Bool (is_taken past.life x.sent stamp.beat))

  pub letters-turn : (ls : List (Letter M)) (past : Past S) → Rising (λ (x : Letter M). x.link.0) ls
      → AreInTurn (letter_events note step stamp ls past)
  letters-turn [] past r = tt
  letters-turn (x ∷ xs) past r =
      let i : Input M = Take stamp x.link x.msg in
      let one : NodeEvent M = event_of step i past in
      let more = letter_events note step stamp xs (after note step one past) in
      let first : AllByRecursion (IsInTurn one) more =
      subst (λ q. AllByRecursion (λ (f : NodeEvent M). AreTurns q (input_in f)) more) (sym (input-of i past))
      (letters-behind x.link x.msg xs (after note step one past) r.0) in
      ⊎_elim
      (λ (e : is_taken past.life x.sent stamp.beat ≡ true). rw e
      (first, letters-turn xs (after note step one past) r.1))
      (λ (e : is_taken past.life x.sent stamp.beat ≡ false). rw e (letters-turn xs past r.1))
      (cases_Bool (is_taken past.life x.sent stamp.beat))

  -- the events of a beat's letters: whole steps, and perhaps one behind them in which the death comes
  pub record CutLast (p : Params) (n : ℕ) (early : List (NodeEvent M)) (es : List (NodeEvent M)) : Type 0 where
    pub link : LinkNo
    pub msg : M
    pub sends : ℕ
    pub all : es ≡ early ++ Ends (Take stamp link msg) sends ∷ []
    pub leads : IsInLink p n link.0

  pub record CutLetters (p : Params) (n : ℕ) (past : Past S) (es : List (NodeEvent M)) : Type 0 where
    pub early : List (NodeEvent M)
    pub takes : AllByRecursion (IsTakeAt stamp p n) early
    pub rest : (es ≡ early) ⊎ CutLast p n early es

  one-more : (p : Params) (n : ℕ) (x : Letter M) (past : Past S) (es : List (NodeEvent M)) → IsInLink p n x.link.0
      → CutLetters p n (after note step (Does (Take stamp x.link x.msg)) past) es
      → CutLetters p n past (Does (Take stamp x.link x.msg) ∷ es)
  one-more p n x past es leads rest =
      let one : NodeEvent M = Does (Take stamp x.link x.msg) in
      record {
        early = one ∷ rest.early;
        takes = ((refl, leads), rest.takes);
        rest = ⊎_elim
            (λ (all : es ≡ rest.early). inl (ap (λ qs. one ∷ qs) all))
            (λ (cut : CutLast p n rest.early es). inr (record {
              link = cut.link;
              msg = cut.msg;
              sends = cut.sends;
              all = ap (λ qs. one ∷ qs) cut.all;
              leads = cut.leads;
            }))
            rest.rest;
      }

  letters-by : (p : Params) (n : ℕ) (life : Lifetime) (x : Letter M) (xs : List (Letter M)) (past : Past S)
      → is_taken past.life x.sent stamp.beat ≡ true → IsInLink p n x.link.0 → IsOfLife life past.life → IsOver life
      → CutLetters p n (after note step (Does (Take stamp x.link x.msg)) past)
      (letter_events note step stamp xs (after note step (Does (Take stamp x.link x.msg)) past))
      → (o : Option ℕ) → event_of step (Take stamp x.link x.msg) past ≡ event_to (Take stamp x.link x.msg) o
      → CutLetters p n past (letter_events note step stamp (x ∷ xs) past)
  letters-by p n life x xs past was leads of_life dead rest None is =
      let one : NodeEvent M = Does (Take stamp x.link x.msg) in
      let more = letter_events note step stamp xs (after note step one past) in
      let same : letter_events note step stamp (x ∷ xs) past ≡ one ∷ more = rw (was, is) refl in
      subst (CutLetters p n past) (sym same) (one-more p n x past more leads rest)
  letters-by p n life x xs past was leads of_life dead rest (Some k) is =
      let last : NodeEvent M = Ends (Take stamp x.link x.msg) k in
      let idle = dead (after note step last past).life (life-of-event note step life last past of_life)
      (over-cut (Take stamp x.link x.msg) k past) in
      let none = letters-idle xs (after note step last past) idle in
      let same : letter_events note step stamp (x ∷ xs) past ≡ last ∷ [] = rw (was, is) (ap (λ es. last ∷ es) none) in
      record {
        early = [];
        takes = tt;
        rest = inr (record { link = x.link; msg = x.msg; sends = k; all = same; leads = leads });
      }

  pub cut-letters : (p : Params) (n : ℕ) (life : Lifetime) (ls : List (Letter M)) (past : Past S)
      → AllByRecursion (λ (x : Letter M). IsInLink p n x.link.0) ls → IsOfLife life past.life → IsOver life
      → CutLetters p n past (letter_events note step stamp ls past)
  cut-letters p n life [] past lead of_life dead = record { early = []; takes = tt; rest = inl refl }
  cut-letters p n life (x ∷ xs) past lead of_life dead =
      let i : Input M = Take stamp x.link x.msg in
      let one : NodeEvent M = Does i in
      let rest = cut-letters p n life xs (after note step one past) lead.1
      (life-of-event note step life one past of_life) dead in
      ⊎_elim
      (λ (e : is_taken past.life x.sent stamp.beat ≡ true). letters-by p n life x xs past e lead.0 of_life dead rest
      (cut_to past.life stamp false (step past.state i).outs) (event-is i past))
      (λ (e : is_taken past.life x.sent stamp.beat ≡ false).
      let same : letter_events note step stamp (x ∷ xs) past ≡ letter_events note step stamp xs past = rw e refl in
      subst (CutLetters p n past) (sym same) (cut-letters p n life xs past lead.1 of_life dead))
      (cases_Bool (is_taken past.life x.sent stamp.beat))

  -- its death comes in the tick, if it has not come before
  tick-ends : (past : Past S) → ends_in past.life stamp.beat ≡ true
      → (sends : ℕ) × (event_of step (Tick stamp) past ≡ Ends (Tick stamp) sends)
  unfolding event_of cut_to
  tick-ends past h =
      let c = cut-some (left_in past.life stamp.beat) (step past.state (Tick stamp)).outs h in
      (c.0, ap (event_to (Tick stamp)) c.1)

  -- a node's beat in which its death cuts it off: whole steps, and a last one in which the death comes
  pub record CutBeat (p : Params) (n : ℕ) (es : List (NodeEvent M)) : Type 0 where
    pub early : List (NodeEvent M)
    pub takes : AllByRecursion (IsTakeAt stamp p n) early
    pub input : Input M
    pub sends : ℕ
    pub all : es ≡ early ++ Ends input sends ∷ []
    pub at : stamp_of input ≡ stamp
    pub leads : IsLed p n (Ends input sends)

  pub cut-beat : (p : Params) (n : ℕ) (life : Lifetime) (ls : List (Letter M)) (past : Past S)
      → AllByRecursion (λ (x : Letter M). IsInLink p n x.link.0) ls → IsOfLife life past.life
      → past.life.over ≡ life.over → ends_in life stamp.beat ≡ true → returns life stamp.beat ≡ false → IsOver life
      → CutBeat p n (beat_events note step stamp ls past)
  unfolding beat_events
  cut-beat p n life ls past lead of_life over ended here dead =
      let es = letter_events note step stamp ls past in
      let c = cut-letters p n life ls past lead of_life dead in
      let stays : returns past.life stamp.beat ≡ false = returns-of life past.life stamp.beat of_life ∙ here in
      let none : return_events {M = M} stamp past ≡ [] = rw stays refl in
      ⊎_elim
      (λ (all : es ≡ c.early).
      let then_past = after_all note step c.early past in
      let alive : AreAlive c.early = all-weaker (IsTakeAt stamp p n) (λ e. is_death e ≡ false) c.early
      (λ e h. take-alive stamp p n e h) c.takes in
      let still = ends-of life then_past.life stamp.beat (life-of-events note step life c.early past of_life)
      (over-events note step c.early past alive ∙ over) ∙ ended in
      let tick = tick-ends then_past still in
      let end : end_events step stamp then_past ≡ Ends (Tick stamp) tick.0 ∷ [] =
      last-acting step stamp then_past (ends-acts then_past.life stamp.beat still)
      ∙ ap (λ (e : NodeEvent M). e ∷ []) tick.1 in
      record {
        early = c.early;
        takes = c.takes;
        input = Tick stamp;
        sends = tick.0;
        all = ap (λ qs. qs ++ (es ++ end_events step stamp (after_all note step es past))) none
            ∙ ap (λ qs. qs ++ end_events step stamp (after_all note step qs past)) all
            ∙ ap (λ qs. c.early ++ qs) end;
        at = refl;
        leads = tt;
      })
      (λ (cut : CutLast p n c.early es).
      let last : NodeEvent M = Ends (Take stamp cut.link cut.msg) cut.sends in
      let known = c.early ++ last ∷ [] in
      let then_past = after_all note step known past in
      let mine = life-of-events note step life known past of_life in
      let over_now : then_past.life.over ≡ true =
      ap (λ (q : Past S). q.life.over) (after_all-append note step c.early (last ∷ []) past)
      ∙ over-cut (Take stamp cut.link cut.msg) cut.sends (after_all note step c.early past) in
      let idle = dead then_past.life mine over_now in
      let undead = dies-of life then_past.life stamp.beat mine ∙ ends-undying life stamp.beat ended in
      let end : end_events step stamp then_past ≡ [] = last-idle step stamp then_past idle undead in
      record {
        early = c.early;
        takes = c.takes;
        input = Take stamp cut.link cut.msg;
        sends = cut.sends;
        all = ap (λ qs. qs ++ (es ++ end_events step stamp (after_all note step es past))) none
            ∙ ap (λ qs. qs ++ end_events step stamp (after_all note step qs past)) cut.all
            ∙ ap (λ qs. known ++ qs) end ∙ append-nil known;
        at = refl;
        leads = cut.leads;
      })
      c.rest

-- the death has come in an event of the beat: the node does not act any more, since it returns later
over-idle : (a i s z : Bool) → a ≡ false → z ≡ false → (a || (i && (s && not true)) || z) ≡ false
over-idle false true true false h g = refl
over-idle false true false false h g = refl
over-idle false false s false h g = refl
over-idle true i s z h g = absurd (cc)
over-idle false true true true h g = absurd (cc)
over-idle false true false true h g = absurd (cc)
over-idle false false s true h g = absurd (cc)

pub over-dead : (death left back : Option ℕ) (b : ℕ) → ends_in (lived death left back) b ≡ true
    → ReturnsLater death back → (now : Lifetime) → IsOfLife (lived death left back) now → now.over ≡ true
    → acts now b ≡ false
unfolding acts
over-dead None left back b ended later now h over = absurd (cc)
over-dead (Some d) left None b ended later now h over =
    let at = ends-parts _ left ended in
    let same : b ≡ d = eqb-true b d (and_parts (b == d) true at.0).0 in
    let past : nat_lt b d ≡ false = grind (arith, nat_tests, same) in
    rw (h.death, h.back, over) (over-idle (nat_lt b d) (b == d) (is_some now.left) false past refl)
over-dead (Some d) left (Some w) b ended later now h over =
    let at = ends-parts _ left ended in
    let same : b ≡ d = eqb-true b d (and_parts (b == d) true at.0).0 in
    let past : nat_lt b d ≡ false = grind (arith, nat_tests, same) in
    let away : nat_le w b ≡ false = grind (arith, nat_tests, same, later) in
    rw (h.death, h.back, over) (over-idle (nat_lt b d) (b == d) (is_some now.left) (nat_le w b) past away)
