-- A link in the beat in which its receiver's death cuts it off: what is heard and not got missed its turn.
use Rattle.std.proofs.Common.{◌≡◌, ℕ, zero, suc, ◌+◌, ◌<◌, List, [], ◌∷◌, ◌++◌, map, filter, length, true, refl, ap}
use Rattle.std.proofs.Common.{sym}
use Rattle.std.proofs.Common.{◌∙◌, subst, arith, append_assoc, append-nil, ⊎_elim, inl, inr}
use Rattle.std.specs.Prelude.{◌⊎◌}
use Rattle.std.specs.List.{AllByRecursion}
use Rattle.std.proofs.lemmas.List.{map-append}
use Rattle.std.proofs.lemmas.List.Elements.{filter-append}
use Rattle.link_timing.specs.Clock.{Clock}
use Rattle.node_kit.specs.Life.{Lifetime, ends_in}
use Rattle.run_facts.specs.Accounts.{Rising, is_caught, arriving, waiting, event_at, HasCutIn, OnLink}
use Rattle.run_facts.specs.Events.{NodeEvent, Dated, takes_along, IsCutUpTo}
use Rattle.run_facts.specs.Paced.{Passage, brought, AreGot, AreMissed}
use Rattle.run_facts.proofs.Along.{takes-append}
use Rattle.run_facts.proofs.Links.{arriving-waiting, arriving-low, waiting-high}
use Rattle.run_facts.proofs.Rows.{all-append, all-filter, all-right, all-weaker, rising-right}

-- a death that came is among more events too
pub event-first : {M : Type 0} (es fs : List (NodeEvent M)) (i : ℕ) → i < length es → event_at
    (es ++ fs) i ≡ event_at es i
event-first [] fs i low = absurd (omega (arith, low))
event-first (e ∷ es) fs zero low = refl
event-first (e ∷ es) fs (suc i) low = event-first es fs i (omega (arith, low))

pub event-behind : {M : Type 0} (es fs : List (NodeEvent M)) (i : ℕ) → event_at (es ++ fs)
    (length es + i) ≡ event_at fs i
event-behind [] fs i = let e : 0 + i ≡ i = omega arith in ap (event_at fs) e
event-behind (e ∷ es) fs i =
    let q : suc (length es) + i ≡ suc (length es + i) = omega arith in
    ap (event_at (e ∷ (es ++ fs))) q ∙ event-behind es fs i

pub length-both : {M : Type 0} (es fs : List (NodeEvent M)) → length (es ++ fs) ≡ length es + length fs
length-both [] fs = omega arith
length-both (e ∷ es) fs = let h = length-both es fs in omega (arith, h)

pub cut-stays : {M : Type 0} (l : ℕ) (es fs : List (NodeEvent M)) → HasCutIn l es → HasCutIn l (es ++ fs)
cut-stays l es fs h =
    let more = length-both es fs in
    let low = h.1 in
    (h.0, omega (arith, low, more), subst (IsCutUpTo l) (sym (event-first es fs h.0 h.1)) h.2)

pub cut-behind : {M : Type 0} (l : ℕ) (es fs : List (NodeEvent M)) → HasCutIn l fs → HasCutIn l (es ++ fs)
cut-behind l es fs h =
    let more = length-both es fs in
    let low = h.1 in
    (length es + h.0, omega (arith, low, more), subst (IsCutUpTo l) (sym (event-behind es fs h.0)) h.2)

-- the receiver's turn in that beat: a front of what it hears is got, and the rest missed its turn
pub got-misses : {M : Type 0} (life : Lifetime) (l next : ℕ) (old new : List (NodeEvent M))
    (gone more early missed : List (Passage M)) → ends_in life next ≡ true → (HasCutIn l old → ⊥)
    → AllByRecursion (λ (f : Passage M). f.arrival ≡ next) more
    → filter (is_caught life) more ≡ early ++ missed → takes_along l new ≡ map brought early
    → (missed ≡ []) ⊎ HasCutIn l new → AreGot life (HasCutIn l old) (filter (is_caught life) gone) (takes_along l old)
    → AreGot life (HasCutIn l (old ++ new)) (filter (is_caught life) (gone ++ more)) (takes_along l (old ++ new))
got-misses {M} life l next old new gone more early missed ended uncut now split taken why was =
    let heard = filter (is_caught life) gone in
    let whole : filter (is_caught life) (gone ++ more) ≡ heard ++ (early ++ missed) =
    filter-append (is_caught life) gone more ∙ ap (λ ps. heard ++ ps) split in
    let all : takes_along l old ≡ map brought heard = ⊎_elim
    (λ (q : takes_along l old ≡ map brought heard). q)
    (λ (q : HasCutIn l old × AreMissed life heard (takes_along l old)). absurd (uncut q.0))
    was in
    let got : takes_along l (old ++ new) ≡ map brought (heard ++ early) =
    takes-append l old new ∙ ap (λ ds. ds ++ takes_along l new) all ∙ ap (λ ds. map brought heard ++ ds) taken
    ∙ sym (map-append brought heard early) in
    let cut : AllByRecursion (λ (f : Passage M). ends_in life f.arrival ≡ true) missed =
    all-right (λ (f : Passage M). ends_in life f.arrival ≡ true) early missed
    (subst (AllByRecursion (λ (f : Passage M). ends_in life f.arrival ≡ true)) split
    (all-filter (λ (f : Passage M). ends_in life f.arrival ≡ true) (is_caught life) more
    (all-weaker (λ (f : Passage M). f.arrival ≡ next) (λ f. ends_in life f.arrival ≡ true) more
    (λ f e. ap (ends_in life) e ∙ ended) now))) in
    subst (λ ps. AreGot life (HasCutIn l (old ++ new)) ps (takes_along l (old ++ new))) (sym whole) (⊎_elim
    (λ (none : missed ≡ []). inl
    (got ∙ ap (λ ps. map brought (heard ++ ps)) (sym (ap (λ ps. early ++ ps) none ∙ append-nil early))))
    (λ (came : HasCutIn l new). inr (
      cut-behind l old new came,
      record {
        early = heard ++ early;
        missed = missed;
        late = [];
        split = sym (append_assoc heard early missed) ∙ ap (λ ps. (heard ++ early) ++ ps) (sym (append-nil missed));
        kept = got ∙ ap (map brought) (sym (append-nil (heard ++ early)));
        cut_off = cut;
        beyond = tt;
      },
    ))
    why)

-- a link's account goes on with the beat in which what arrives has come, if what is got of that is known
pub link-goes : {X : Type 0} (life : Lifetime) (Came Also : Type 0) (most : ℕ) (start : Clock) (sent got now : List
    (Dated X))
    (clock : Clock) (flights : List (Passage X)) (next : ℕ)
    → (on : OnLink life Came most start sent got clock flights next)
    → AreGot life Also (filter (is_caught life) (on.gone ++ arriving next flights)) now
    → OnLink life Also most start sent now clock (waiting next flights) (next + 1)
link-goes {X} life Came Also most start sent got now clock flights next on is =
    let more = arriving next flights in
    record {
      clocked = on.clocked;
      is_clock = on.is_clock;
      same_most = on.same_most;
      timely = on.timely;
      rising = on.rising;
      capped = on.capped;
      gone = on.gone ++ more;
      split = on.split ∙ ap (λ ps. on.gone ++ ps) (arriving-waiting next flights)
          ∙ sym (append_assoc on.gone more (waiting next flights));
      got_is = is;
      behind = all-append (λ (f : Passage X). f.arrival < next + 1) on.gone more
          (all-weaker (λ (f : Passage X). f.arrival < next) (λ (f : Passage X). f.arrival < next + 1) on.gone
          (λ f l. omega (arith, l)) on.behind) (arriving-low next flights);
      ahead = waiting-high next flights
          (rising-right (λ (f : Passage X). f.arrival) on.gone flights
          (subst (Rising (λ (f : Passage X). f.arrival)) on.split on.rising));
    }
