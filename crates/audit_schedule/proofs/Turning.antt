-- That visits are served in order goes by steps.
use Rattle.std.proofs.Common.{◌≡◌, ℕ, Bool, true, false, cond, List, [], ◌∷◌, ◌++◌, append_assoc, append-nil, sym, ap, subst, ◌∙◌}
use Rattle.std.specs.Prelude.{◌==◌}
use Rattle.std.specs.List.{AllByRecursion, fold}
use Rattle.std.proofs.lemmas.List.Concat.{flat_map-append}
use Rattle.tiger_base.specs.declared.tenancy.Want.{Want}
use Rattle.slot_plan.specs.declared.params.Params.{Params}
use Rattle.node_kit.specs.declared.journal.What.{What}
use Rattle.node_kit.specs.declared.journal.What.TheVariants as what
use Rattle.node_kit.specs.Links.{links_of, viewers_of}
use Rattle.run_facts.specs.Events.{Dated}
use Rattle.run_facts.specs.Order.{Noted, beat_of}
use Rattle.run_facts.proofs.Rows.{all-append, all-left, all-right}
use Rattle.run_model.specs.Fronts.{AtEach}
use Rattle.run_claims.specs.Deliveries.{sent_by, got_by, sent_in, got_in}
use Rattle.run_claims.specs.Turns.{AreInTurn, IsGotBefore}
use Rattle.audit_frame.proofs.Deciding.{GoesBySteps}
use Rattle.audit_schedule.specs.Turns.{IsInTurnHere, sent_here, got_here, with_entry}
use Rattle.audit_schedule.proofs.Paired.{Pairs, pairs_with_none, pairs_with_both, pairs_with_first, pairs_with_second, turn, turn_back}

-- ---- what a log with an entry more sends and gets

got_both : (p : Params) (front back : List Noted) → got_in p (front ++ back) ≡ got_in p front ++ got_in p back
got_both p front back = flat_map-append (got_here p) front back

sent_both : (front back : List Noted) → sent_in (front ++ back) ≡ sent_in front ++ sent_in back
sent_both front back = flat_map-append sent_here front back

pub got_more : (p : Params) (front : List Noted) (x : Noted) → got_in p (with_entry front x) ≡ got_in p front ++ got_here p x
got_more p front x = got_both p front (x ∷ []) ∙ ap (λ (q : List (Dated Want)). got_in p front ++ q) (append-nil (got_here p x))

pub sent_more : (front : List Noted) (x : Noted) → sent_in (with_entry front x) ≡ sent_in front ++ sent_here x
sent_more front x = sent_both front (x ∷ []) ∙ ap (λ (q : List (Dated Want)). sent_in front ++ q) (append-nil (sent_here x))

-- no entry both sends and gets
apart : (b : Bool) (beat : ℕ) (w : What) → Pairs IsGotBefore (cond b (got_by beat w) []) (sent_by beat w)
apart true beat (what.Sent link n) = tt
apart false beat (what.Sent link n) = tt
apart b beat (what.Got link n) = pairs_with_none IsGotBefore (cond b (got_by beat (what.Got link n)) [])
apart true beat other = tt
apart false beat other = tt

-- ---- one step

in_turn_front : (p : Params) (front back : List Noted) → AreInTurn p (front ++ back) → AreInTurn p front
in_turn_front p front back h =
    let all : Pairs IsGotBefore (got_in p front ++ got_in p back) (sent_in front ++ sent_in back) =
    subst (λ (gs : List (Dated Want)). Pairs IsGotBefore gs (sent_in front ++ sent_in back)) (got_both p front back)
    (subst (λ (ss : List (Dated Want)). Pairs IsGotBefore (got_in p (front ++ back)) ss) (sent_both front back) h) in
    pairs_with_first IsGotBefore (got_in p front) (sent_in front) (sent_in back)
    (all-left (λ g. AllByRecursion (IsGotBefore g) (sent_in front ++ sent_in back)) (got_in p front) (got_in p back) all)

step_there : (p : Params) (front : List Noted) (x : Noted) → AreInTurn p (with_entry front x) → IsInTurnHere p front x
step_there p front x h =
    let all : Pairs IsGotBefore (got_in p front ++ got_here p x) (sent_in front ++ sent_here x) =
    subst (λ (gs : List (Dated Want)). Pairs IsGotBefore gs (sent_in front ++ sent_here x)) (got_more p front x)
    (subst (λ (ss : List (Dated Want)). Pairs IsGotBefore (got_in p (with_entry front x)) ss) (sent_more front x) h) in
    record {
      sent = turn IsGotBefore (got_in p front) (sent_here x) (pairs_with_second IsGotBefore (got_in p front) (sent_in front) (sent_here x)
          (all-left (λ g. AllByRecursion (IsGotBefore g) (sent_in front ++ sent_here x)) (got_in p front) (got_here p x) all));
      got = pairs_with_first IsGotBefore (got_here p x) (sent_in front) (sent_here x)
          (all-right (λ g. AllByRecursion (IsGotBefore g) (sent_in front ++ sent_here x)) (got_in p front) (got_here p x) all);
    }

step_back : (p : Params) (front : List Noted) (x : Noted) → AreInTurn p front → IsInTurnHere p front x → AreInTurn p (with_entry front x)
step_back p front x h here =
    let before : Pairs IsGotBefore (got_in p front) (sent_in front ++ sent_here x) =
    pairs_with_both IsGotBefore (got_in p front) (sent_in front) (sent_here x) h
    (turn_back IsGotBefore (got_in p front) (sent_here x) here.sent) in
    let now : Pairs IsGotBefore (got_here p x) (sent_in front ++ sent_here x) =
    pairs_with_both IsGotBefore (got_here p x) (sent_in front) (sent_here x) here.got
    (apart (x.node == viewers_of (links_of p)) (beat_of x) x.entry.what) in
    subst (λ (ss : List (Dated Want)). Pairs IsGotBefore (got_in p (with_entry front x)) ss) (sym (sent_more front x))
    (subst (λ (gs : List (Dated Want)). Pairs IsGotBefore gs (sent_in front ++ sent_here x)) (sym (got_more p front x))
    (all-append (λ g. AllByRecursion (IsGotBefore g) (sent_in front ++ sent_here x)) (got_in p front) (got_here p x) before now))

-- ---- all steps

to_turns : (p : Params) (front xs : List Noted) → AreInTurn p (front ++ xs) → AtEach (IsInTurnHere p) with_entry front xs
to_turns p front [] h = tt
to_turns p front (x ∷ xs) h =
    let all : AreInTurn p (with_entry front x ++ xs) =
    subst (λ (log : List Noted). AreInTurn p log) (sym (append_assoc front (x ∷ []) xs)) h in
    (step_there p front x (in_turn_front p (with_entry front x) xs all), to_turns p (with_entry front x) xs all)

from_turns : (p : Params) (front xs : List Noted) → AreInTurn p front → AtEach (IsInTurnHere p) with_entry front xs
    → AreInTurn p (front ++ xs)
from_turns p front [] h g = subst (λ (log : List Noted). AreInTurn p log) (sym (append-nil front)) h
from_turns p front (x ∷ xs) h g =
    subst (λ (log : List Noted). AreInTurn p log) (append_assoc front (x ∷ []) xs)
    (from_turns p (with_entry front x) xs (step_back p front x h g.0) g.1)

pub turns_go_by_steps : (p : Params) → GoesBySteps (AreInTurn p) (IsInTurnHere p) with_entry []
turns_go_by_steps p log = ((λ h. to_turns p [] log h), (λ h. from_turns p [] log tt h))

-- the state is the front itself
pub front_is : (front xs : List Noted) → fold with_entry front xs ≡ front ++ xs
front_is front [] = sym (append-nil front)
front_is front (x ∷ xs) = front_is (with_entry front x) xs ∙ append_assoc front (x ∷ []) xs
