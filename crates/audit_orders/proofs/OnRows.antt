-- Journals of a worked run that pass the tests of a walk are timed, or stand at their ends of the links.
use Rattle.std.proofs.Common.{◌≡◌, ℕ, ◌+◌, ◌<◌, Bool, true, ◌&&◌, IsTrue, List, [], ◌∷◌, take, subst, arith}
use Rattle.std.specs.List.{fold}
use Rattle.slot_plan.specs.declared.params.Params.{Params}
use Rattle.node_kit.specs.declared.course.Course.{Course}
use Rattle.node_kit.specs.declared.journal.Entry.{Entry}
use Rattle.node_kit.specs.Links.{links_of}
use Rattle.run_facts.specs.Timed.{death_within}
use Rattle.run_model.specs.Fronts.{AtEach}
use Rattle.run_model.specs.Tests.{at_its_end, each_from}
use Rattle.run_model.proofs.Reflects.{and_left, and_right}
use Rattle.run_model.proofs.Timely.{numbered_found}
use Rattle.audit_orders.specs.Carrying.{AreAtEnds, AllAtEnds, IsStrayEntry}
use Rattle.audit_orders.specs.Timing.{AreTimedIn, may_come, may_end, next_so_far, nothing_yet, term_of}
use Rattle.audit_orders.specs.declared.timing.SoFar.{SoFar}
use Rattle.audit_orders.specs.declared.timing.Term.{Term}
use Rattle.audit_orders.proofs.Delivering.{at_end}
use Rattle.audit_orders.proofs.Earliest.{in_front, nowhere_stray}
use Rattle.audit_orders.proofs.Timely.{May, Ends, timed_goes}

-- whether each of these entries may come, and a journal may end behind them
abbrev pub all_come : Params → ℕ → Term → SoFar → List Entry → Bool
all_come p beats term s [] = may_end (death_within beats term.death) s.died
all_come p beats term s (e ∷ es) = may_come p beats term s e && all_come p beats term (next_so_far s e) es

steps_of : (p : Params) (beats : ℕ) (term : Term) (s : SoFar) (es : List Entry) → IsTrue (all_come p beats term s es)
    → AtEach (May p beats term) next_so_far s es × Ends beats term (fold next_so_far s es)
steps_of p beats term s [] h = (tt, h)
steps_of p beats term s (e ∷ es) h =
    let a = may_come p beats term s e in
    let b = all_come p beats term (next_so_far s e) es in
    let rest = steps_of p beats term (next_so_far s e) es (and_right a b h) in
    ((and_left a b h, rest.0), rest.1)

abbrev pub comes_in : Course → ℕ → List Entry → Bool
comes_in c n journal = all_come c.plan.params c.beats (term_of c n) nothing_yet journal

pub timed_if : (c : Course) (journals : List (List Entry)) → IsTrue (each_from (comes_in c) 0 journals) → AreTimedIn c journals
timed_if c journals h n journal at =
    let here = numbered_found (comes_in c) 0 journals h n journal at in
    let same : 0 + n ≡ n = omega arith in
    let p = c.plan.params in
    ((timed_goes p c.beats (term_of c n)).law journal).1
    (steps_of p c.beats (term_of c n) nothing_yet journal (subst (λ (k : ℕ). IsTrue (comes_in c k journal)) same here))

-- ---- ends of links

-- whether each of these entries of a node stands at its end of its link
abbrev pub ends_in : Params → ℕ → List Entry → Bool
ends_in p n [] = true
ends_in p n (e ∷ es) = at_its_end (links_of p) n e.what && ends_in p n es

at_ends_of : (p : Params) (n : ℕ) (es : List Entry) → IsTrue (ends_in p n es) → AreAtEnds p n es
at_ends_of p n [] h = tt
at_ends_of p n (e ∷ es) h =
    let a = at_its_end (links_of p) n e.what in
    ((at_end p n e.what).0 (and_left a (ends_in p n es) h), at_ends_of p n es (and_right a (ends_in p n es) h))

pub ends_if : (p : Params) (journals : List (List Entry)) → IsTrue (each_from (ends_in p) 0 journals) → AllAtEnds p journals
ends_if p journals h n journal at =
    let same : 0 + n ≡ n = omega arith in
    at_ends_of p n journal
    (subst (λ (k : ℕ). IsTrue (ends_in p k journal)) same (numbered_found (ends_in p) 0 journals h n journal at))

-- no entry of the nodes below one is at the wrong end
pub ends_below : (c : Course) (journals : List (List Entry)) (n : ℕ) → IsTrue (each_from (ends_in c.plan.params) 0 (take n journals))
    → (m j : ℕ) → m < n → IsStrayEntry c journals m j → ⊥
ends_below c journals n h m j low s =
    nowhere_stray c (take n journals) (ends_if c.plan.params (take n journals) h) m j
    (record { journal = s.journal; here = in_front journals n m s.journal low s.here; entry = s.entry; at = s.at; stray = s.stray })
