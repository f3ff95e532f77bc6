-- The message of a number among those that are a front of what is sent, and why one was not got.
use Rattle.std.proofs.Common.{◌≡◌, ℕ, zero, suc, ◌+◌, ◌<◌, ◌≤◌, List, [], ◌∷◌, ◌++◌, map, length, true, false}
use Rattle.std.proofs.Common.{Option, Some, None, refl, ap, sym, ◌∙◌, subst, cond, arith, ⊎_elim, inl, inr}
use Rattle.std.specs.Prelude.{slice_get, nat_lt, is_some, ◌&&◌, ◌⊎◌}
use Rattle.std.specs.List.{AllByRecursion}
use Rattle.std.proofs.lemmas.Bool.{cases_Bool, cases_lt, eq-eqb, eqb-true}
use Rattle.std.proofs.lemmas.Bool.Decides.{nat_tests}
use Rattle.std.proofs.lemmas.List.{length-map}
use Rattle.std.proofs.lemmas.Option.{none-some}
use Rattle.tiger_base.specs.declared.number.Stamp.{Stamp}
use Rattle.tiger_base.specs.declared.number.LinkNo.{LinkNo}
use Rattle.tiger_base.specs.declared.message.Note.{Note}
use Rattle.slot_plan.specs.declared.params.Params.{Params}
use Rattle.node_kit.specs.Courses.{ReturnsLater}
use Rattle.node_kit.specs.Life.{returns, ends_in}
use Rattle.node_kit.specs.Links.{IsInLink}
use Rattle.node_kit.specs.Steps.{Input, Deed}
use Rattle.node_kit.specs.Steps.Input.{Take, Tick}
use Rattle.run_facts.specs.Accounts.{IsLed, LivesBy, IsWhole, AreWhole, AreAlive, event_at}
use Rattle.run_facts.specs.Accounts.{front, HasCutIn}
use Rattle.run_facts.specs.Events.{NodeEvent, Past, Dated, after, after_all, behind, is_death}
use Rattle.run_facts.specs.Events.{IsCutUpTo}
use Rattle.run_facts.specs.Events.NodeEvent.{Does, Ends, Dies, Returns}
use Rattle.run_facts.specs.Histories.{TakesAt}
use Rattle.run_facts.specs.Paced.{Passage, brought}
use Rattle.run_facts.specs.Timed.{death_within}
use Rattle.run_facts.proofs.Fronts.{lived}
use Rattle.run_lives.proofs.Ending.{ends-parts}
use Rattle.run_lives.proofs.Halves.{TakesFront, IsNotFirst, ends-at}
use Rattle.run_lives.proofs.Missing.{length-both}
use Rattle.run_lives.proofs.Picking.{lives_in, is_first}
use Rattle.run_lives.proofs.Turning.{cut-last}

-- the message of a number among those that are a front of what is sent
pub front-get : {X : Type 0} (early rest : List (Passage X)) (k : ℕ) (d : Dated X) → slice_get
    (map brought early) k ≡ Some d
    → (f : Passage X) × (slice_get (early ++ rest) k ≡ Some f) × (brought f ≡ d)
front-get [] rest k d h = absurd (none-some d h)
front-get (f ∷ fs) rest zero d h = (f, refl, (let q : brought f ≡ d = cc in q))
front-get (f ∷ fs) rest (suc k) d h = front-get fs rest k d h

pub taken-get : {X : Type 0} (fs : List (Passage X)) (gs : List (Dated X)) (Why : Passage X → Type 0) (k : ℕ)
    (d : Dated X) → TakesFront fs gs Why → slice_get gs k ≡ Some d
    → (f : Passage X) × (slice_get fs k ≡ Some f) × (brought f ≡ d)
taken-get {X} fs gs Why k d t h =
    let got = front-get t.early t.rest k d (ap (λ qs. slice_get qs k) (sym t.got) ∙ h) in
    (got.0, ap (λ qs. slice_get qs k) t.all ∙ got.1, got.2)

-- what was sent as some number was got, or there is a reason why not
pub get-parts : {X : Type 0} (Why : Passage X → Type 0) (early rest : List (Passage X)) (k : ℕ) (f : Passage X)
    → AllByRecursion Why rest → slice_get (early ++ rest) k ≡ Some f → (k < length early) ⊎ Why f
get-parts Why [] [] k f why h = absurd (none-some f h)
get-parts Why [] (r ∷ rs) zero f why h = inr (let same : r ≡ f = cc in subst Why same why.0)
get-parts Why [] (r ∷ rs) (suc k) f why h = ⊎_elim
    (λ (low : k < 0). absurd (omega (arith, low)))
    (λ (is : Why f). inr is)
    (get-parts Why [] rs k f why.1 h)
get-parts Why (e ∷ es) rest zero f why h = inl (omega arith)
get-parts Why (e ∷ es) rest (suc k) f why h = ⊎_elim
    (λ (low : k < length es). inl (omega (arith, low)))
    (λ (is : Why f). inr is)
    (get-parts Why es rest k f why h)

pub taken-or : {X : Type 0} (fs : List (Passage X)) (gs : List (Dated X)) (Why : Passage X → Type 0) (k : ℕ)
    (f : Passage X) → TakesFront fs gs Why → slice_get fs k ≡ Some f → (k < length gs) ⊎ Why f
taken-or {X} fs gs Why k f t h =
    let count : length gs ≡ length t.early = ap length t.got ∙ length-map t.early brought in
    ⊎_elim
    (λ (low : k < length t.early). inl (omega (arith, low, count)))
    (λ (is : Why f). inr is)
    (get-parts Why t.early t.rest k f t.why (ap (λ qs. slice_get qs k) (sym t.all) ∙ h))

-- and behind others
pub get-behind : {X : Type 0} (before rest : List X) (k : ℕ) → slice_get (before ++ rest)
    (length before + k) ≡ slice_get rest k
get-behind [] rest k = let e : 0 + k ≡ k = omega arith in ap (slice_get rest) e
get-behind (b ∷ bs) rest k =
    let e : suc (length bs) + k ≡ suc (length bs + k) = omega arith in
    ap (slice_get (b ∷ (bs ++ rest))) e ∙ get-behind bs rest k

-- a death that comes in a take or apart from its events leaves its beat open, and one that comes in the tick does not
pub death-opens : {M : Type 0} (d : ℕ) (left back : Option ℕ) (e : NodeEvent M) → is_death e ≡ true
    → LivesBy (lived (Some d) left back) e
    → (behind e d ≡ d)
    ⊎ ((behind e d ≡ suc d) × (is_some left ≡ true) × ((l : ℕ) → IsCutUpTo l e → ⊥))
death-opens d left back (Does i) h lives = absurd (cc)
death-opens d left back (Ends (Take s link msg) k) h lives = inl refl
death-opens d left back (Ends (Tick s) k) h lives = inr (refl, (ends-parts _ left lives.1).1, λ l q. q)
death-opens d left back (Dies s) h lives = inl refl
death-opens d left back (Returns s) h lives = absurd (cc)

-- so nothing that arrives before the beat that is open behind it was missed in the first life
pub first-missed : {M X : Type 0} (d : ℕ) (left back : Option ℕ) (later : ReturnsLater (Some d) back) (beats l : ℕ)
    (es front more : List (NodeEvent M)) (last : NodeEvent M)
    → es ≡ front ++ last ∷ more → AreAlive front → AreAlive more → is_death last ≡ true
    → LivesBy (lived (Some d) left back) last
    → (f : Passage X) → f.arrival < beats → f.arrival < behind last d
    → IsNotFirst (Some d) left back later beats (HasCutIn l es) f → ⊥
first-missed {M} d left back later beats l es front behind_it last parts alive on died lives f soon opened why = ⊎_elim
    (λ (out : is_first (Some d) left back later beats f ≡ false).
    let early : nat_lt f.arrival beats ≡ true = grind (arith, nat_tests, soon) in
    let not_there : lives_in (Some d) left f.arrival ≡ false =
    sym (ap (λ b. b && lives_in (Some d) left f.arrival) early) ∙ out in
    ⊎_elim
    (λ (same : behind last d ≡ d).
    let low : f.arrival < d = omega (arith, opened, same) in
    let q : true ≡ false = sym (lives-low d left f.arrival low) ∙ not_there in absurd (cc))
    (λ (more : (behind last d ≡ suc d) × (is_some left ≡ true) × ((k : ℕ) → IsCutUpTo k last → ⊥)).
    let up = more.0 in
    let q : true ≡ false = sym (lives-up d left f.arrival (omega (arith, opened, up)) more.1) ∙ not_there in
    absurd (cc))
    (death-opens d left back last died lives))
    (λ (cut : HasCutIn l es × (ends_in (lived (Some d) left back) f.arrival ≡ true)).
    let at = ends-at (Some d) left back f.arrival cut.1 in
    let one : Some d ≡ Some at.0 = at.1 in
    let is : d ≡ at.0 = cc in
    let there = at.2 in
    ⊎_elim
    (λ (same : behind last d ≡ d). absurd (omega (arith, opened, same, is, there)))
    (λ (more : (behind last d ≡ suc d) × (is_some left ≡ true) × ((k : ℕ) → IsCutUpTo k last → ⊥)).
    more.2 l (cut-last l front behind_it last alive on (subst (HasCutIn l) parts cut.0)))
    (death-opens d left back last died lives))
    why
  where
    lives-low : (d : ℕ) (left : Option ℕ) (b : ℕ) → b < d → lives_in (Some d) left b ≡ true
    lives-low d left b low = let e : nat_lt b d ≡ true = grind (arith, nat_tests, low) in rw e refl

    lives-up : (d : ℕ) (left : Option ℕ) (b : ℕ) → b ≤ d → is_some left ≡ true → lives_in (Some d) left b ≡ true
    lives-up d left b up some = ⊎_elim
        (λ (low : b < d). lives-low d left b low)
        (λ (high : d ≤ b).
        let same : b ≡ d = omega (arith, up, high) in
        let e : nat_lt b d ≡ false = grind (arith, nat_tests, same) in
        rw (e, eq-eqb b d same, some) refl)
        (cases_lt b d)

-- so with a death that is known by another name
pub first-missed_of : {M X : Type 0} (death left back : Option ℕ) (later : ReturnsLater death back) (beats l d : ℕ)
    → death ≡ Some d → (es front more : List (NodeEvent M)) (last : NodeEvent M)
    → es ≡ front ++ last ∷ more → AreAlive front → AreAlive more → is_death last ≡ true
    → LivesBy (lived death left back) last
    → (f : Passage X) → f.arrival < beats → f.arrival < behind last d
    → IsNotFirst death left back later beats (HasCutIn l es) f → ⊥
first-missed_of None left back later beats l d is es front more last parts alive on died lives f soon opened why =
    absurd (let q : None ≡ Some d = is in cc)
first-missed_of {M} (Some x) left back later beats l d is es front more last parts alive on died lives f soon opened why =
    let one : Some x ≡ Some d = is in
    let same : x ≡ d = cc in
    first-missed x left back later beats l es front more last parts alive on died lives f soon
    (subst (λ k. f.arrival < behind last k) (sym same) opened) why

-- and nothing was missed by a node that does not die within the beats
pub alive-missed : {X : Type 0} (death left back : Option ℕ) (later : ReturnsLater death back) (beats : ℕ)
    (Came : Type 0)
    (f : Passage X) → death_within beats death ≡ None → f.arrival < beats
    → IsNotFirst death left back later beats Came f → ⊥
alive-missed None left back later beats Came f is soon why = ⊎_elim
    (λ (out : is_first None left back later beats f ≡ false).
    let early : nat_lt f.arrival beats ≡ true = grind (arith, nat_tests, soon) in
    let q : true ≡ false = sym (ap (λ b. b && true) early) ∙ out in absurd (cc))
    (λ (cut : Came × (ends_in (lived None left back) f.arrival ≡ true)).
    let at = ends-at None left back f.arrival cut.1 in absurd (let q : None ≡ Some at.0 = at.1 in cc))
    why
alive-missed (Some d) left back later beats Came f is soon why =
    let far : beats ≤ d = beyond-of beats d is in
    ⊎_elim
    (λ (out : is_first (Some d) left back later beats f ≡ false).
    let early : nat_lt f.arrival beats ≡ true = grind (arith, nat_tests, soon) in
    let below_it : nat_lt f.arrival d ≡ true = grind (arith, nat_tests, soon, far) in
    let lives : lives_in (Some d) left f.arrival ≡ true = rw below_it refl in
    let q : true ≡ false = sym (ap (λ b. b && lives_in (Some d) left f.arrival) early ∙ lives) ∙ out in absurd (cc))
    (λ (cut : Came × (ends_in (lived (Some d) left back) f.arrival ≡ true)).
    let at = ends-at (Some d) left back f.arrival cut.1 in
    let one : Some d ≡ Some at.0 = at.1 in
    let is : d ≡ at.0 = cc in
    let there = at.2 in
    absurd (omega (arith, there, is, soon, far)))
    why
  where
    beyond-of : (beats d : ℕ) → death_within beats (Some d) ≡ None → beats ≤ d
    beyond-of beats d h = ⊎_elim
        (λ (e : nat_lt d beats ≡ true).
        let q : Some d ≡ None = sym (ap (λ t. cond t (Some d) None) e) ∙ h in absurd (cc))
        (λ (e : nat_lt d beats ≡ false). grind (arith, nat_tests, e))
        (cases_Bool (nat_lt d beats))

-- a return is in the beat that the life has for it
pub returns-at : (death left back : Option ℕ) (b : ℕ) → returns (lived death left back) b ≡ true → back ≡ Some b
unfolding returns
returns-at death left None b h = absurd (cc)
returns-at death left (Some w) b h = ap Some (sym (eqb-true b w h))

-- each event is as it is told of all
pub whole-at : {M S : Type 0} (note : M → Note) (step : S → Input M → Deed M S) (es : List (NodeEvent M)) (s : Past S)
    (i : ℕ) → i < length es → AreWhole note step es s
    → IsWhole step (event_at es i) (after_all note step (front i es) s)
whole-at note step [] s i low h = absurd (omega (arith, low))
whole-at note step (e ∷ es) s zero low h = h.0
whole-at note step (e ∷ es) s (suc i) low h = whole-at note step es (after note step e s) i (omega (arith, low)) h.1

pub led-by : {M : Type 0} (p : Params) (n : ℕ) (e : NodeEvent M) (stamp : Stamp) (link : LinkNo) (msg : M)
    → IsLed p n e → TakesAt e stamp link msg → IsInLink p n link.0
led-by {M} p n e stamp link msg led took = ⊎_elim
    (λ (is : e ≡ Does (Take stamp link msg)). subst (λ (f : NodeEvent M). IsLed p n f) is led)
    (λ (cut : (sends : ℕ) × (e ≡ Ends (Take stamp link msg) sends)).
    subst (λ (f : NodeEvent M). IsLed p n f) cut.1 led)
    took

pub above : (a b : ℕ) → a ≤ b → (j : ℕ) × (b ≡ a + j)
above zero b low = (b, omega arith)
above (suc a) zero low = absurd (omega (arith, low))
above (suc a) (suc b) low = let more = above a b (omega (arith, low)) in let is = more.1 in (more.0, omega (arith, is))

pub length-one : {M : Type 0} (front : List (NodeEvent M)) (last : NodeEvent M) → length (front ++ last ∷ []) ≡ suc
    (length front)
length-one front last = let both = length-both front (last ∷ []) in omega (arith, both)
