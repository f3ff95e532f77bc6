-- What is so of a worked log is so of the account of its run, if the log is in order: so each claim is proved of a log that is
-- written out.
use Rattle.std.proofs.Common.{◌≡◌, ℕ, ◌<◌, ◌≤◌, Bool, true, false, ◌&&◌, ◌||◌, IsTrue, nat_lt, nat_le, List, [], ◌∷◌, refl, sym, subst, ⊎_elim}
use Rattle.std.specs.Prelude.{◌==◌}
use Rattle.std.specs.List.{list_all}
use Rattle.std.proofs.lemmas.Bool.{cases_Bool, false≢true}
use Rattle.slot_plan.specs.Samples.{small}
use Rattle.slot_plan.specs.Times.{time_of}
use Rattle.node_kit.specs.declared.course.Order.{Order}
use Rattle.node_kit.specs.declared.course.ReadFault.{ReadFault}
use Rattle.node_kit.specs.declared.journal.What.{What}
use Rattle.node_kit.specs.declared.journal.What.TheVariants as what
use Rattle.node_kit.specs.declared.journal.Entry.{Entry}
use Rattle.run_facts.specs.Commanded.{AreCommanded}
use Rattle.run_facts.specs.Order.{Noted, beat_of, order_of, IsNotAfter, IsInOrder}
use Rattle.run_facts.proofs.Orders.{order_found}
use Rattle.run_model.specs.Fronts.{Always}
use Rattle.run_model.specs.Moments.{Moment, next_moment, opening}
use Rattle.run_model.specs.Orders.{PutsAreFair}
use Rattle.run_model.specs.Parts.{ViewsArePart, ViewsAreAlwaysPart, EntriesAreLocal}
use Rattle.run_model.specs.Views.{recorded}
use Rattle.run_model.specs.Samples.{IsOfTen, ten, all}
use Rattle.run_model.proofs.Reflects.{and_left, and_right, both, either, equal, less, at_most, all_found}
use Rattle.run_claims.specs.Patience.{NobodyIsPassedOver}
use Rattle.run_claims.specs.Returns.{NobodyComesBack}
use Rattle.run_claims.specs.Samples.{once}
use Rattle.run_claims.specs.Truths.{BeliefsAreTrue, FailuresAreTrue}
use Rattle.run_claims.specs.Turns.{AreInTurn}
use Rattle.spare_claims.specs.Claims.{AreAskedOnce, MeetsSpareClaims}
use Rattle.spare_claims.specs.Delivery.{AreSpareServed, disk_deaths}
use Rattle.spare_claims.specs.Samples.{right, run_of, Nine, MeetsOneOf, BreaksOnly}
use Rattle.spare_claims.specs.Samples.Nine.{Puts, Views, Returns, Asks, Beliefs, Faults, Blocks, Turns, Starts}

-- ---- a log in order is the order of its own journals

abbrev is_not_after : Noted → Noted → Bool
is_not_after x y = nat_lt (beat_of x) (beat_of y) || ((beat_of x == beat_of y) && nat_le x.node y.node)

-- whether each entry is of one of the eighteen nodes and of a beat below a number, and none stands behind a later one
abbrev pub is_in_order : ℕ → List Noted → Bool
is_in_order beats [] = true
is_in_order beats (x ∷ xs) = nat_lt x.node 18 && (nat_lt (beat_of x) beats && (list_all (is_not_after x) xs && is_in_order beats xs))

not_after : (x y : Noted) → IsTrue (is_not_after x y) → IsNotAfter x y
not_after x y h =
    (either (nat_lt (beat_of x) (beat_of y)) ((beat_of x == beat_of y) && nat_le x.node y.node)
    (beat_of x < beat_of y) ((beat_of x ≡ beat_of y) × (x.node ≤ y.node)) (less (beat_of x) (beat_of y))
    (both (beat_of x == beat_of y) (nat_le x.node y.node) (beat_of x ≡ beat_of y) (x.node ≤ y.node)
    (equal (beat_of x) (beat_of y)) (at_most x.node y.node))).0 h

in_order : (beats : ℕ) (log : List Noted) → IsTrue (is_in_order beats log) → IsInOrder 18 beats log
in_order beats [] h = tt
in_order beats (x ∷ xs) h =
    let a = nat_lt x.node 18 in
    let b = nat_lt (beat_of x) beats in
    let c = list_all (is_not_after x) xs in
    let d = is_in_order beats xs in
    let h1 = and_right a (b && (c && d)) h in
    let h2 = and_right b (c && d) h1 in (
      (less x.node 18).0 (and_left a (b && (c && d)) h),
      (less (beat_of x) beats).0 (and_left b (c && d) h1),
      all_found (IsNotAfter x) (is_not_after x) (not_after x) xs (and_left c d h2),
      in_order beats xs (and_right c d h2),
    )

log_is : (beats : ℕ) (log : List Noted) → IsTrue (is_in_order beats log) → order_of beats (all log) ≡ log
log_is beats log h = order_found 18 beats log (in_order beats log h)

-- ---- what the claims say of a log

-- what one of the nine says of a run with these journals, if this is its log
abbrev pub Says : Nine → IsOfTen → List ReadFault → List Order → ℕ → List (List Entry) → List Noted → Type 0
Says Puts sound faults orders beats journals log = PutsAreFair small orders log
Says Views sound faults orders beats journals log = ViewsAreAlwaysPart small log × EntriesAreLocal small log
Says Returns sound faults orders beats journals log = NobodyComesBack small log
Says Asks sound faults orders beats journals log = AreAskedOnce small log
Says Beliefs sound faults orders beats journals log = BeliefsAreTrue log
Says Faults sound faults orders beats journals log = FailuresAreTrue small faults log
Says Blocks sound faults orders beats journals log =
    AreSpareServed small (ten sound) journals (disk_deaths faults beats) (time_of small beats) log
Says Turns sound faults orders beats journals log = AreInTurn small log
Says Starts sound faults orders beats journals log =
    NobodyIsPassedOver small orders (once 1 10000) log × AreCommanded small beats right orders journals

-- of a log those of the nine are so that are wanted
pub record AreSo (Wanted : Nine → Type 0) (sound : IsOfTen) (faults : List ReadFault) (orders : List Order) (beats : ℕ) (log : List Noted) : Type 0 where
  pub puts : Wanted Puts → PutsAreFair small orders log
  pub always : Wanted Views → ViewsAreAlwaysPart small log
  pub local : Wanted Views → EntriesAreLocal small log
  pub returns : Wanted Returns → NobodyComesBack small log
  pub asks : Wanted Asks → AreAskedOnce small log
  pub beliefs : Wanted Beliefs → BeliefsAreTrue log
  pub failures : Wanted Faults → FailuresAreTrue small faults log
  pub blocks : Wanted Blocks → AreSpareServed small (ten sound) (all log) (disk_deaths faults beats) (time_of small beats) log
  pub turns : Wanted Turns → AreInTurn small log
  pub patient : Wanted Starts → NobodyIsPassedOver small orders (once 1 10000) log
  pub commanded : Wanted Starts → AreCommanded small beats right orders (all log)

module _ (sound : IsOfTen) (faults : List ReadFault) (orders : List Order) (beats : ℕ) (log : List Noted) where
  chosen : (Wanted : Nine → Type 0) → AreSo Wanted sound faults orders beats log → (one : Nine) → Wanted one
      → Says one sound faults orders beats (all log) log
  chosen Wanted h Puts w = h.puts w
  chosen Wanted h Views w = (h.always w, h.local w)
  chosen Wanted h Returns w = h.returns w
  chosen Wanted h Asks w = h.asks w
  chosen Wanted h Beliefs w = h.beliefs w
  chosen Wanted h Faults w = h.failures w
  chosen Wanted h Blocks w = h.blocks w
  chosen Wanted h Turns w = h.turns w
  chosen Wanted h Starts w = (h.patient w, h.commanded w)

  met : (one : Nine) → Says one sound faults orders beats (all log) (order_of beats (all log))
      → MeetsOneOf one (run_of sound faults orders beats log)
  met Puts h = h
  met Views h = record { always = h.0; local = h.1 }
  met Returns h = h
  met Asks h = h
  met Beliefs h = h
  met Faults h = h
  met Blocks h = h
  met Turns h = h
  met Starts h = record { patient = h.0; commanded = h.1 }

  -- the account of a log in order meets what is so of the log, and breaks what is not
  pub meets_all : IsTrue (is_in_order beats log) → AreSo (λ one. Unit {0}) sound faults orders beats log
      → MeetsSpareClaims (run_of sound faults orders beats log)
  meets_all rising h =
      let e = log_is beats log rising in
      let each : (one : Nine) → MeetsOneOf one (run_of sound faults orders beats log) =
      λ one. met one (subst (λ (l : List Noted). Says one sound faults orders beats (all log) l) (sym e) (chosen (λ other. Unit {0}) h one tt)) in
      record {
        free = each Puts;
        part = each Views;
        no_return = each Returns;
        asked_once = each Asks;
        true_belief = each Beliefs;
        true_faults = each Faults;
        delivery = each Blocks;
        in_order = each Turns;
        starts = each Starts;
      }

  pub breaks_only : (one : Nine) → IsTrue (is_in_order beats log)
      → (MeetsSpareClaims (run_of sound faults orders beats log)
      → Says one sound faults orders beats (all log) (order_of beats (all log)))
      → (Says one sound faults orders beats (all log) log → ⊥)
      → AreSo (λ other. other ≡ one → ⊥) sound faults orders beats log → BreaksOnly one (run_of sound faults orders beats log)
  breaks_only one rising said broken h =
      let e = log_is beats log rising in (
        (λ nine. broken (subst (λ (l : List Noted). Says one sound faults orders beats (all log) l) e (said nine))),
        (λ other n. met other (subst (λ (l : List Noted). Says other sound faults orders beats (all log) l) (sym e) (chosen (λ any. any ≡ one → ⊥) h other n))),
      )

-- ---- nobody takes a record

abbrev takes_none : What → Bool
takes_none (what.Took r) = false
takes_none other = true

abbrev pub take_none : List Noted → Bool
take_none log = list_all (λ x. takes_none x.entry.what) log

recorded_none : (w : What) → IsTrue (takes_none w) → recorded [] w ≡ []
recorded_none (what.Took r) h = absurd (false≢true h)
recorded_none (what.Dropped r) h = refl
recorded_none what.Died h = refl
recorded_none what.Returned h = refl
recorded_none other h = refl

no_views : (m : Moment) → ((c : ℕ) → m.records c ≡ []) → ViewsArePart small m
no_views m none c low = rw (none c) tt

still_none : (m : Moment) (x : Noted) → IsTrue (takes_none x.entry.what) → ((c : ℕ) → m.records c ≡ []) → (c : ℕ)
    → (next_moment m x).records c ≡ []
unfolding next_moment
still_none m x h none c = ⊎_elim
    (λ (t : (x.node == c) ≡ true). rw (t, none c) (recorded_none x.entry.what h))
    (λ (f : (x.node == c) ≡ false). rw f (none c))
    (cases_Bool (x.node == c))

always_none : (log : List Noted) (m : Moment) → ((c : ℕ) → m.records c ≡ []) → IsTrue (take_none log)
    → Always (ViewsArePart small) next_moment m log
always_none [] m none h = no_views m none
always_none (x ∷ xs) m none h =
    let one = and_left (takes_none x.entry.what) (take_none xs) h in
    (no_views m none, always_none xs (next_moment m x) (still_none m x one none) (and_right (takes_none x.entry.what) (take_none xs) h))

pub no_views_at_all : (log : List Noted) → IsTrue (take_none log) → ViewsAreAlwaysPart small log
no_views_at_all log h = always_none log opening (λ c. refl) h
