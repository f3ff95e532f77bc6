-- A node's beat, to which letters come: which events it has, when, and what they take.
use Rattle.std.proofs.Common.{◌≡◌, ℕ, List, [], ◌∷◌, ◌++◌, map, true, false, refl, ap, ◌∙◌, arith}
use Rattle.std.proofs.Common.{◌≤◌, filter, ⊎_elim, append-nil}
use Rattle.std.specs.Prelude.{nat_le, ◌==◌, if◌then◌else◌}
use Rattle.std.specs.List.{AllByRecursion}
use Rattle.tiger_base.specs.declared.number.Stamp.{Stamp}
use Rattle.tiger_base.specs.declared.number.LinkNo.{LinkNo}
use Rattle.tiger_base.specs.declared.message.Note.{Note}
use Rattle.slot_plan.specs.declared.params.Params.{Params}
use Rattle.node_kit.specs.Life.{Lifetime, acts, dies, spent}
use Rattle.node_kit.proofs.Whole.{spent-nothing}
use Rattle.node_kit.specs.Links.{IsInLink}
use Rattle.node_kit.specs.Steps.{Input, Deed, Rests, entry_of}
use Rattle.node_kit.specs.Steps.Input.{Take, Tick}
use Rattle.run_facts.specs.declared.mail.Flight.{Flight}
use Rattle.run_facts.specs.declared.mail.Letter.{Letter}
use Rattle.run_facts.specs.Beats.{arrived, is_taken, end_events, under_way}
use Rattle.run_facts.specs.Beats.{pass, bring, on_link}
use Rattle.run_facts.specs.Events.{NodeEvent, Past, after, after_all, after_input, event_of, kept_outs}
use Rattle.run_facts.specs.Events.{outs_of, takes_along}
use Rattle.run_facts.specs.Events.NodeEvent.{Does, Dies}
use Rattle.std.proofs.lemmas.Bool.{cases_Bool}
use Rattle.std.proofs.lemmas.Bool.Decides.{nat_tests}
use Rattle.run_facts.specs.Paced.{Passage}
use Rattle.run_facts.specs.Accounts.{Rising, arriving, waiting, IsInTurn, AreInTurn, IsTakeAt}

-- the events of a node's beat, if its life is whole: each message that it takes is one step, and so is its tick
abbrev pub whole_letters : {M S : Type 0} → (M → Note) → (S → Input M → Deed M S) → Stamp → List (Letter M) → Past S
    → List (NodeEvent M)
whole_letters note step stamp [] past = []
whole_letters note step stamp (l ∷ ls) past =
    if is_taken past.life l.sent stamp.beat then
    Does (Take stamp l.link l.msg) ∷ whole_letters note step stamp ls
    (after note step (Does (Take stamp l.link l.msg)) past)
    else whole_letters note step stamp ls past

unfoldable pub whole_end : {M : Type 0} → Stamp → Lifetime → List (NodeEvent M)
whole_end stamp life =
    if acts life stamp.beat then Does (Tick stamp) ∷ [] else if dies life stamp.beat then Dies stamp ∷ [] else []

unfoldable pub whole_beat : {M S : Type 0} → (M → Note) → (S → Input M → Deed M S) → Stamp → List (Letter M) → Past S
    → List (NodeEvent M)
whole_beat note step stamp letters past =
    whole_letters note step stamp letters past
    ++ whole_end stamp (after_all note step (whole_letters note step stamp letters past) past).life

-- the end of a beat, cut off or not
pub last-acting : {M S : Type 0} (step : S → Input M → Deed M S) (stamp : Stamp) (past : Past S)
    → acts past.life stamp.beat ≡ true → end_events step stamp past ≡ event_of step (Tick stamp) past ∷ []
unfolding end_events
last-acting step stamp past live = rw live refl

pub last-dying : {M S : Type 0} (step : S → Input M → Deed M S) (stamp : Stamp) (past : Past S)
    → acts past.life stamp.beat ≡ false → dies past.life stamp.beat ≡ true
    → end_events step stamp past ≡ Dies stamp ∷ []
unfolding end_events
last-dying step stamp past idle dead = rw (idle, dead) refl

pub last-idle : {M S : Type 0} (step : S → Input M → Deed M S) (stamp : Stamp) (past : Past S)
    → acts past.life stamp.beat ≡ false → dies past.life stamp.beat ≡ false
    → end_events step stamp past ≡ []
unfolding end_events
last-idle step stamp past idle undead = rw (idle, undead) refl

-- the end of a beat where the node acts, where it dies, and where it is dead
pub end-acting : {M : Type 0} (stamp : Stamp) (life : Lifetime) → acts life stamp.beat ≡ true
    → whole_end {M = M} stamp life ≡ Does (Tick stamp) ∷ []
unfolding whole_end
end-acting stamp life live = rw live refl

-- the tick of a node that rests leaves no trace
pub rests-past : {M S : Type 0} (note : M → Note) (step : S → Input M → Deed M S) (stamp : Stamp) (past : Past S)
    → Rests step stamp past.state
    → after note step (Does (Tick stamp)) past ≡ past
unfolding after_input kept_outs
rests-past {M} {S} note step stamp past quiet =
    let still = spent-nothing M past.life stamp in
    let gone : record past { life = spent {M = M} past.life stamp []; journal = past.journal ++ [] } ≡ past =
    rw (still, append-nil past.journal) refl in
    ap (λ (d : Deed M S). record {
      state = d.state;
      life = spent past.life stamp d.outs;
      journal = past.journal
          ++ map (entry_of note stamp) d.outs;
    }) quiet ∙ gone

pub rests-outs : {M S : Type 0} (step : S → Input M → Deed M S) (stamp : Stamp) (past : Past S)
    → Rests step stamp past.state → outs_of step (Does (Tick stamp)) past ≡ []
unfolding kept_outs
rests-outs {M} {S} step stamp past quiet = ap (λ (d : Deed M S). d.outs) quiet

pub under_way-waiting : {M : Type 0} (beat : ℕ) (fs : List (Flight M))
    → map pass (under_way beat fs) ≡ waiting beat (map pass fs)
under_way-waiting beat [] = refl
under_way-waiting beat (f ∷ fs) = ⊎_elim
    (λ (e : nat_le f.arrival beat ≡ true). rw e (under_way-waiting beat fs))
    (λ (e : nat_le f.arrival beat ≡ false). rw e refl)
    (cases_Bool (nat_le f.arrival beat))

pub arrived-brings : {M : Type 0} (link : LinkNo) (beat : ℕ) (fs : List (Flight M))
    → AllByRecursion (λ (f : Passage M). beat ≤ f.arrival) (map pass fs)
    → map (bring beat) (arrived link beat fs) ≡ arriving beat (map pass fs)
arrived-brings link beat [] h = refl
arrived-brings {M} link beat (f ∷ fs) h = ⊎_elim
    (λ (e : nat_le f.arrival beat ≡ true).
    let low = h.0 in
    let now : beat ≡ f.arrival = grind (arith, nat_tests, e, low) in
    rw e (ap (λ a. (record { sent = f.sent; arrival = a; item = f.msg }) ∷ map (bring beat) (arrived link beat fs)) now
    ∙ ap (λ ps. pass f ∷ ps) (arrived-brings link beat fs h.1)))
    (λ (e : nat_le f.arrival beat ≡ false). rw e refl)
    (cases_Bool (nat_le f.arrival beat))

pub all-on : {M : Type 0} (l : ℕ) (link : LinkNo) (beat : ℕ) (fs : List (Flight M)) → (link.0 == l) ≡ true
    → filter (on_link l) (arrived link beat fs) ≡ arrived link beat fs
all-on l link beat [] h = refl
all-on l link beat (f ∷ fs) h = ⊎_elim
    (λ (e : nat_le f.arrival beat ≡ true). rw (e, h)
    (ap (λ ls. (record { link = link; sent = f.sent; msg = f.msg }) ∷ ls) (all-on l link beat fs h)))
    (λ (e : nat_le f.arrival beat ≡ false). rw e refl)
    (cases_Bool (nat_le f.arrival beat))

pub none-on : {M : Type 0} (l : ℕ) (link : LinkNo) (beat : ℕ) (fs : List (Flight M)) → (link.0 == l) ≡ false
    → filter (on_link l) (arrived link beat fs) ≡ []
none-on l link beat [] h = refl
none-on l link beat (f ∷ fs) h = ⊎_elim
    (λ (e : nat_le f.arrival beat ≡ true). rw (e, h) (none-on l link beat fs h))
    (λ (e : nat_le f.arrival beat ≡ false). rw e refl)
    (cases_Bool (nat_le f.arrival beat))

pub arriving-none : {M : Type 0} (beat : ℕ) (fs : List (Passage M)) → arriving beat (waiting beat fs) ≡ []
arriving-none beat [] = refl
arriving-none beat (f ∷ fs) = ⊎_elim
    (λ (e : nat_le f.arrival beat ≡ true). rw e (arriving-none beat fs))
    (λ (e : nat_le f.arrival beat ≡ false). rw (e, e) refl)
    (cases_Bool (nat_le f.arrival beat))

pub all-waiting : {M : Type 0} (P : Passage M → Type 0) (beat : ℕ) (fs : List (Passage M)) → AllByRecursion P fs
    → AllByRecursion P (waiting beat fs)
all-waiting P beat [] h = tt
all-waiting P beat (f ∷ fs) h = ⊎_elim
    (λ (e : nat_le f.arrival beat ≡ true). rw e (all-waiting P beat fs h.1))
    (λ (e : nat_le f.arrival beat ≡ false). rw e h)
    (cases_Bool (nat_le f.arrival beat))

-- so the letters come by link
pub arrived-link : {M : Type 0} (P : LinkNo → Type 0) (link : LinkNo) (beat : ℕ) (fs : List (Flight M)) → P link
    → AllByRecursion (λ (x : Letter M). P x.link) (arrived link beat fs)
arrived-link P link beat [] h = tt
arrived-link P link beat (f ∷ fs) h = ⊎_elim
    (λ (e : nat_le f.arrival beat ≡ true). rw e (h, arrived-link P link beat fs h))
    (λ (e : nat_le f.arrival beat ≡ false). rw e tt)
    (cases_Bool (nat_le f.arrival beat))

-- the events that letters bring
pub events-takes : {M S : Type 0} (note : M → Note) (step : S → Input M → Deed M S) (stamp : Stamp) (p : Params) (n : ℕ)
    (ls : List (Letter M)) (past : Past S)
    → AllByRecursion (λ (x : Letter M). IsInLink p n x.link.0) ls
    → AllByRecursion (IsTakeAt stamp p n) (whole_letters note step stamp ls past)
events-takes note step stamp p n [] past h = tt
events-takes note step stamp p n (x ∷ xs) past h = ⊎_elim
    (λ (e : is_taken past.life x.sent stamp.beat ≡ true). rw e
    ((refl, h.0), events-takes note step stamp p n xs (after note step (Does (Take stamp x.link x.msg)) past) h.1))
    (λ (e : is_taken past.life x.sent stamp.beat ≡ false). rw e (events-takes note step stamp p n xs past h.1))
    (cases_Bool (is_taken past.life x.sent stamp.beat))

pub events-behind : {M S : Type 0} (note : M → Note) (step : S → Input M → Deed M S) (stamp : Stamp) (link : LinkNo)
    (msg : M) (ls : List (Letter M)) (past : Past S)
    → AllByRecursion (λ (x : Letter M). link.0 ≤ x.link.0) ls
    → AllByRecursion (IsInTurn (Does (Take stamp link msg))) (whole_letters note step stamp ls past)
events-behind note step stamp link msg [] past h = tt
events-behind note step stamp link msg (x ∷ xs) past h = ⊎_elim
    (λ (e : is_taken past.life x.sent stamp.beat ≡ true). rw e (
      (λ q. h.0),
      events-behind note step stamp link msg xs (after note step (Does (Take stamp x.link x.msg)) past)
          h.1,
    ))
    (λ (e : is_taken past.life x.sent stamp.beat ≡ false). rw e (events-behind note step stamp link msg xs past h.1))
    (cases_Bool (is_taken past.life x.sent stamp.beat))

pub events-in_turn : {M S : Type 0} (note : M → Note) (step : S → Input M → Deed M S) (stamp : Stamp)
    (ls : List (Letter M)) (past : Past S)
    → Rising (λ (x : Letter M). x.link.0) ls → AreInTurn (whole_letters note step stamp ls past)
events-in_turn note step stamp [] past r = tt
events-in_turn note step stamp (x ∷ xs) past r = ⊎_elim
    (λ (e : is_taken past.life x.sent stamp.beat ≡ true).
    rw e (
      events-behind note step stamp x.link x.msg xs (after note step (Does (Take stamp x.link x.msg)) past) r.0,
      events-in_turn note step stamp xs (after note step (Does (Take stamp x.link x.msg)) past) r.1,
    ))
    (λ (e : is_taken past.life x.sent stamp.beat ≡ false). rw e (events-in_turn note step stamp xs past r.1))
    (cases_Bool (is_taken past.life x.sent stamp.beat))

pub end-takes : {M : Type 0} (stamp : Stamp) (life : Lifetime) (l : ℕ)
    → takes_along {M = M} l (whole_end stamp life) ≡ []
unfolding whole_end
end-takes stamp life l = ⊎_elim
    (λ (e : acts life stamp.beat ≡ true). rw e refl)
    (λ (e : acts life stamp.beat ≡ false). ⊎_elim
    (λ (q : dies life stamp.beat ≡ true). rw (e, q) refl)
    (λ (q : dies life stamp.beat ≡ false). rw (e, q) refl)
    (cases_Bool (dies life stamp.beat)))
    (cases_Bool (acts life stamp.beat))
