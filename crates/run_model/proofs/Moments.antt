-- The moment after some entries is the same, entry by entry and each part by itself.
use Rattle.std.proofs.Common.{◌≡◌, ℕ, Bool, true, false, not, ◌&&◌, ◌||◌, List, [], ◌∷◌, ◌++◌, filter, refl, sym, ap, subst, ◌∙◌, cond, append_assoc, append-nil}
use Rattle.std.specs.Prelude.{◌==◌, ◌↔◌, if◌then◌else◌}
use Rattle.std.specs.List.{fold, list_any}
use Rattle.std.proofs.lemmas.List.{map-append}
use Rattle.std.proofs.lemmas.List.Elements.{filter-append}
use Rattle.std.proofs.lemmas.List.Folds.{list_any-append}
use Rattle.std.proofs.lemmas.List.Sums.{fold-append}
use Rattle.tiger_base.specs.declared.tenancy.Rec.{Rec}
use Rattle.slot_plan.specs.declared.params.Params.{Params}
use Rattle.node_kit.specs.declared.journal.What.{What}
use Rattle.node_kit.specs.declared.journal.What.TheVariants as what
use Rattle.node_kit.specs.declared.journal.Entry.{Entry}
use Rattle.node_kit.specs.declared.course.Order.{Order}
use Rattle.run_facts.specs.Order.{Noted, beat_of, journal_of}
use Rattle.run_facts.specs.Timed.{is_died}
use Rattle.run_model.specs.Fronts.{OfEachFront, OfEachEntry}
use Rattle.run_model.specs.Schedule.{empty_schedule, after_entry}
use Rattle.run_model.specs.Views.{same_record, drops, taken_by, records_of, recorded}
use Rattle.run_model.specs.Moments.{Moment, is_belief_of, is_put_of, moment_at, moment_of, opening, next_moment, AlwaysHolds, HoldsAtEach}
use Rattle.run_model.specs.Parts.{ViewsArePart, ViewsAreAlwaysPart, IsLocal, EntriesAreLocal}
use Rattle.run_model.specs.Orders.{EntryIsFair, PutsAreFair}
use Rattle.run_model.proofs.Fronts.{always_after, always_from, at_each_after, at_each_from}

or_false : (b : Bool) → (b || false) ≡ b
or_false true = refl
or_false false = refl

or_true : (b : Bool) → (b || true) ≡ true
or_true true = refl
or_true false = refl

-- an entry that drops none of what is taken leaves it
taken_kept : (w : What) (e : Entry) (es : List Entry) → ((r : Rec) → drops r e.what ≡ false) → taken_by w (es ++ e ∷ []) ≡ taken_by w es
taken_kept (what.Took r) e es h = rw (list_any-append (λ f. drops r f.what) es (e ∷ []), h r, or_false) refl
taken_kept other e es h = refl

unless_dropped : (f : Rec → Bool) (q : Rec) (a b : Bool) → b ≡ f q → cond (a || b) [] (q ∷ []) ≡ filter (λ x. not (f x)) (cond a [] (q ∷ []))
unless_dropped f q true b h = refl
unless_dropped f q false true h = rw (sym h) refl
unless_dropped f q false false h = rw (sym h) refl

taken_dropped : (w : What) (r : Rec) (e : Entry) (es : List Entry) → e.what ≡ what.Dropped r → taken_by w (es ++ e ∷ []) ≡ filter (λ q. not (same_record r q)) (taken_by w es)
taken_dropped (what.Took q) r e es h =
    rw (list_any-append (λ f. drops q f.what) es (e ∷ []), h, or_false)
    (unless_dropped (same_record r) q (list_any (λ f. drops q f.what) es) (same_record r q) refl)
taken_dropped other r e es h = refl

-- the records after one more entry: it drops some of them, or takes one, or neither
records_dropped : (r : Rec) (e : Entry) (es : List Entry) → e.what ≡ what.Dropped r → records_of (es ++ e ∷ []) ≡ filter (λ q. not (same_record r q)) (records_of es)
records_dropped r e [] h = rw h refl
records_dropped r e (d ∷ ds) h =
    rw (taken_dropped d.what r e ds h, records_dropped r e ds h)
    (sym (filter-append (λ q. not (same_record r q)) (taken_by d.what ds) (records_of ds)))

records_kept : (e : Entry) (es : List Entry) → ((r : Rec) → drops r e.what ≡ false) → records_of (es ++ e ∷ []) ≡ records_of es ++ taken_by e.what []
records_kept e [] h = append-nil (taken_by e.what [])
records_kept e (d ∷ ds) h =
    rw (taken_kept d.what e ds h, records_kept e ds h) (sym (append_assoc (taken_by d.what ds) (records_of ds) (taken_by e.what [])))

-- an entry that empties the view leaves none
taken_gone : (w : What) (e : Entry) (es : List Entry) → ((r : Rec) → drops r e.what ≡ true) → taken_by w (es ++ e ∷ []) ≡ []
taken_gone (what.Took r) e es h = rw (list_any-append (λ f. drops r f.what) es (e ∷ []), h r, or_true) refl
taken_gone other e es h = refl

records_gone : (e : Entry) (es : List Entry) → taken_by e.what [] ≡ [] → ((r : Rec) → drops r e.what ≡ true) → records_of (es ++ e ∷ []) ≡ []
records_gone e [] none h = rw none refl
records_gone e (d ∷ ds) none h = rw (taken_gone d.what e ds h, records_gone e ds none h) refl

records_by : (w : What) (e : Entry) (es : List Entry) → e.what ≡ w → records_of (es ++ e ∷ []) ≡ recorded (records_of es) w
records_by (what.Dropped r) e es h = records_dropped r e es h
records_by (what.Took q) e es h = records_kept e es (λ r. rw h refl) ∙ rw h refl
records_by what.Died e es h = records_gone e es (rw h refl) (λ r. rw h refl)
records_by what.Returned e es h = records_gone e es (rw h refl) (λ r. rw h refl)
records_by other e es h = records_kept e es (λ r. rw h refl) ∙ rw h (append-nil (records_of es))

pub records_more : (e : Entry) (es : List Entry) → records_of (es ++ e ∷ []) ≡ recorded (records_of es) e.what
records_more e es = records_by e.what e es refl

-- a node's journal after one more entry: the entry is the node's, or it is not
journal_mine : (n : ℕ) (front : List Noted) (x : Noted) → (x.node == n) ≡ true → journal_of n (front ++ x ∷ []) ≡ journal_of n front ++ x.entry ∷ []
journal_mine n front x h =
    rw (filter-append (λ y. y.node == n) front (x ∷ []), h, map-append) refl

journal_other : (n : ℕ) (front : List Noted) (x : Noted) → (x.node == n) ≡ false → journal_of n (front ++ x ∷ []) ≡ journal_of n front
journal_other n front x h =
    rw (filter-append (λ y. y.node == n) front (x ∷ []), h, append-nil (filter (λ y. y.node == n) front)) refl

-- what is computed of a node's journal, after one more entry
by_node : {X : Type 0} (f : List Entry → X) (n : ℕ) (front : List Noted) (x : Noted) (b : Bool) → (x.node == n) ≡ b
    → f (journal_of n (front ++ x ∷ [])) ≡ cond b (f (journal_of n front ++ x.entry ∷ [])) (f (journal_of n front))
by_node f n front x true h = ap f (journal_mine n front x h)
by_node f n front x false h = ap f (journal_other n front x h)

journal_next : (n : ℕ) (front : List Noted) (x : Noted)
    → (if x.node == n then journal_of n front ++ x.entry ∷ [] else journal_of n front) ≡ journal_of n (front ++ x ∷ [])
journal_next n front x = sym (by_node (λ j. j) n front x (x.node == n) refl)

records_next : (n : ℕ) (front : List Noted) (x : Noted)
    → (if x.node == n then recorded (records_of (journal_of n front)) x.entry.what else records_of (journal_of n front))
    ≡ records_of (journal_of n (front ++ x ∷ []))
records_next n front x =
    rw (← records_more x.entry (journal_of n front)) (sym (by_node records_of n front x (x.node == n) refl))

any_next : (test : Entry → Bool) (n : ℕ) (front : List Noted) (x : Noted)
    → (list_any test (journal_of n front) || ((x.node == n) && test x.entry)) ≡ list_any test (journal_of n (front ++ x ∷ []))
any_next test n front x = go (x.node == n) refl where
  go : (b : Bool) → (x.node == n) ≡ b → (list_any test (journal_of n front) || (b && test x.entry)) ≡ list_any test (journal_of n (front ++ x ∷ []))
  go true h = rw (journal_mine n front x h, list_any-append test (journal_of n front) (x.entry ∷ []), or_false) refl
  go false h = rw (journal_other n front x h, or_false) refl

put_next : (v : ℕ) (front : List Noted) (x : Noted)
    → (list_any (λ y. is_put_of v y.entry.what) front || is_put_of v x.entry.what) ≡ list_any (λ y. is_put_of v y.entry.what) (front ++ x ∷ [])
put_next v front x = rw (list_any-append (λ y. is_put_of v y.entry.what) front (x ∷ []), or_false) refl

-- the moment after one more entry
pub moment_next : (front : List Noted) (x : Noted) → next_moment (moment_at front) x ≡ moment_at (front ++ x ∷ [])
unfolding next_moment moment_at
moment_next front x =
    let schedule = sym (fold-append after_entry empty_schedule front (x ∷ [])) in
    let beat = sym (fold-append (λ (b : ℕ) (y : Noted). beat_of y) 0 front (x ∷ [])) in
    λ i. record {
      schedule = schedule i;
      journal = λ n. journal_next n front x i;
      records = λ n. records_next n front x i;
      dead = λ n. any_next (λ e. is_died e.what) n front x i;
      believed = λ n d. any_next (λ e. is_belief_of d e.what) n front x i;
      put = λ v. put_next v front x i;
      beat = beat i;
    }

moments_on : (front back : List Noted) → fold next_moment (moment_at front) back ≡ moment_at (front ++ back)
moments_on front [] = rw (append-nil front) refl
moments_on front (x ∷ xs) = rw (moment_next front x) (moments_on (front ++ x ∷ []) xs ∙ rw (append_assoc front (x ∷ []) xs) refl)

at_the_opening : moment_at [] ≡ opening
unfolding moment_at
at_the_opening = refl

-- the moment after some entries is the same, entry by entry and each part by itself
pub moments_are_fronts : (front : List Noted) → moment_of front ≡ moment_at front
moments_are_fronts front = rw (← at_the_opening) (moments_on [] front)

-- for any fact of moments: it holds always where it holds at each front
pub always_is_each_front : (P : Moment → Type 0) (log : List Noted) → AlwaysHolds P log ↔ OfEachFront (λ front. P (moment_at front)) log
always_is_each_front P log = (
  (λ h. λ front back e. subst P (moments_are_fronts front) (always_after P next_moment opening front back (subst (λ l. AlwaysHolds P l) (sym e) h))),
  (λ h. always_from P next_moment opening log (λ front back e. subst P (sym (moments_are_fronts front)) (h front back e))),
)

-- and for any fact of an entry and the moment before it
pub each_is_each_entry : (R : Moment → Noted → Type 0) (log : List Noted) → HoldsAtEach R log ↔ OfEachEntry (λ front x. R (moment_at front) x) log
each_is_each_entry R log = (
  (λ h. λ front x back e. subst (λ m. R m x) (moments_are_fronts front) (at_each_after R next_moment opening front x back (subst (λ l. HoldsAtEach R l) (sym e) h))),
  (λ h. at_each_from R next_moment opening log (λ front x back e. subst (λ m. R m x) (sym (moments_are_fronts front)) (h front x back e))),
)

pub part_at_fronts : (p : Params) (log : List Noted) → ViewsAreAlwaysPart p log ↔ OfEachFront (λ front. ViewsArePart p (moment_at front)) log
part_at_fronts p log = always_is_each_front (ViewsArePart p) log

pub local_at_fronts : (p : Params) (log : List Noted) → EntriesAreLocal p log ↔ OfEachEntry (λ front x. IsLocal p (moment_at front) x) log
local_at_fronts p log = each_is_each_entry (IsLocal p) log

pub fair_at_fronts : (p : Params) (orders : List Order) (log : List Noted)
    → PutsAreFair p orders log
    ↔ OfEachEntry (λ front x. EntryIsFair p orders log (moment_at front) x.node x.entry.stamp.reading x.entry.what) log
fair_at_fronts p orders log = each_is_each_entry (λ m x. EntryIsFair p orders log m x.node x.entry.stamp.reading x.entry.what) log
