-- That no other entry of a log puts an instance is the same as that no entry before a Put does: so fair Puts go by steps.
use Rattle.std.proofs.Common.{◌≡◌, ℕ, ◌+◌, ◌≤◌, Bool, true, false, ◌||◌, cond, List, [], ◌∷◌, length, filter, refl, ap, subst, arith}
use Rattle.std.specs.Prelude.{◌==◌}
use Rattle.std.proofs.lemmas.Bool.{eqb-true}
use Rattle.tiger_base.specs.declared.tenancy.Tenancy.{Tenancy}
use Rattle.slot_plan.specs.declared.params.Params.{Params}
use Rattle.node_kit.specs.declared.journal.What.{What}
use Rattle.node_kit.specs.declared.journal.What.TheVariants as what
use Rattle.node_kit.specs.declared.course.Order.{Order}
use Rattle.run_facts.specs.Order.{Noted}
use Rattle.run_model.specs.Fronts.{AtEach}
use Rattle.run_model.specs.Moments.{Moment, next_moment, opening, is_put_of}
use Rattle.run_model.specs.Orders.{EntryIsFair, PutsAreFair}
use Rattle.run_model.proofs.Reflects.{equal}
use Rattle.audit_frame.proofs.Deciding.{GoesBySteps}
use Rattle.audit_schedule.specs.Fair.{WhatIsFairSoFar, IsFairSoFar}

-- how many entries put an instance
abbrev puts : ℕ → List Noted → ℕ
puts v log = length (filter (λ x. is_put_of v x.entry.what) log)

abbrev one_if : Bool → ℕ
one_if b = cond b 1 0

counted : (b : Bool) (x : Noted) (ys : List Noted) → length (cond b (x ∷ ys) ys) ≡ one_if b + length ys
counted true x ys = omega arith
counted false x ys = omega arith

puts_cons : (v : ℕ) (x : Noted) (xs : List Noted) → puts v (x ∷ xs) ≡ one_if (is_put_of v x.entry.what) + puts v xs
puts_cons v x xs = counted (is_put_of v x.entry.what) x (filter (λ y. is_put_of v y.entry.what) xs)

or_at_most : (a b : Bool) → one_if (a || b) ≤ one_if a + one_if b
or_at_most true b = omega arith
or_at_most false true = omega arith
or_at_most false false = omega arith

none : (b : Bool) → one_if b ≤ 0 → b ≡ false
none true h = absurd (omega (arith, h))
none false h = refl

at_most_one : (b : Bool) → one_if b ≤ 1
at_most_one true = omega arith
at_most_one false = omega arith

together : (a b : Bool) (n : ℕ) → one_if a + one_if b ≤ 1 → one_if (a || b) + n ≤ 1 → one_if a + (one_if b + n) ≤ 1
together true true n h g = absurd (omega (arith, h))
together true false n h g = omega (arith, g)
together false b n h g = omega (arith, g)

puts_itself : (t : Tenancy) → is_put_of t.instance.0 (what.Put t) ≡ true
puts_itself t = (equal t.instance.0 t.instance.0).1 refl

abbrev Fair : Params → List Order → List Noted → Moment → Noted → Type 0
Fair p orders log m x = EntryIsFair p orders log m x.node x.entry.stamp.reading x.entry.what

-- ---- from the whole log to each entry

fair_here : (p : Params) (orders : List Order) (log : List Noted) (m : Moment) (c reading : ℕ) (w : What) (rest : ℕ → ℕ)
    → ((v : ℕ) → one_if (m.put v) + (one_if (is_put_of v w) + rest v) ≤ puts v log)
    → EntryIsFair p orders log m c reading w → WhatIsFairSoFar p orders m c reading w
fair_here p orders log m c reading (what.Put t) rest most fair =
    let itself : one_if (is_put_of t.instance.0 (what.Put t)) ≡ 1 = ap one_if (puts_itself t) in
    record {
      free = fair.free;
      asked = (fair.rightly.ask, fair.rightly.ordered, fair.rightly.asked);
      slot = fair.rightly.slot;
      window = fair.rightly.window;
      cub = fair.rightly.cub;
      new = none (m.put t.instance.0) (omega (arith, most t.instance.0, itself, fair.rightly.once));
    }
fair_here p orders log m c reading other rest most fair = tt

to_steps : (p : Params) (orders : List Order) (log : List Noted) (m : Moment) (xs : List Noted)
    → ((v : ℕ) → one_if (m.put v) + puts v xs ≤ puts v log)
    → AtEach (Fair p orders log) next_moment m xs → AtEach (IsFairSoFar p orders) next_moment m xs
unfolding next_moment
to_steps p orders log m [] most h = tt
to_steps p orders log m (x ∷ xs) most h = (
  fair_here p orders log m x.node x.entry.stamp.reading x.entry.what (λ v. puts v xs) (λ v. omega (arith, most v, puts_cons v x xs)) h.0,
  to_steps p orders log (next_moment m x) xs (λ v. omega (arith, most v, puts_cons v x xs, or_at_most (m.put v) (is_put_of v x.entry.what))) h.1,
)

-- ---- and back

-- an entry that is fair so far puts no instance a second time
puts_once : (p : Params) (orders : List Order) (m : Moment) (c reading : ℕ) (w : What) → WhatIsFairSoFar p orders m c reading w
    → (v : ℕ) → one_if (m.put v) + one_if (is_put_of v w) ≤ 1
puts_once p orders m c reading (what.Put t) h v = go (t.instance.0 == v) refl where
  go : (b : Bool) → (t.instance.0 == v) ≡ b → one_if (m.put v) + one_if b ≤ 1
  go true e =
      let fresh : m.put v ≡ false = subst (λ (u : ℕ). m.put u ≡ false) (eqb-true t.instance.0 v e) h.new in
      let zero : one_if (m.put v) ≡ 0 = ap one_if fresh in
      omega (arith, zero)
  go false e = omega (arith, at_most_one (m.put v))
puts_once p orders m c reading other h v = omega (arith, at_most_one (m.put v))

put_at_most_once : (p : Params) (orders : List Order) (m : Moment) (xs : List Noted) → AtEach (IsFairSoFar p orders) next_moment m xs
    → (v : ℕ) → one_if (m.put v) + puts v xs ≤ 1
unfolding next_moment
put_at_most_once p orders m [] h v = omega (arith, at_most_one (m.put v))
put_at_most_once p orders m (x ∷ xs) h v =
    let later = put_at_most_once p orders (next_moment m x) xs h.1 v in
    let now = puts_once p orders m x.node x.entry.stamp.reading x.entry.what h.0 v in
    omega (arith, puts_cons v x xs, together (m.put v) (is_put_of v x.entry.what) (puts v xs) now later)

fair_again : (p : Params) (orders : List Order) (log : List Noted) (m : Moment) (c reading : ℕ) (w : What) → ((v : ℕ) → puts v log ≤ 1)
    → WhatIsFairSoFar p orders m c reading w → EntryIsFair p orders log m c reading w
fair_again p orders log m c reading (what.Put t) once h = record {
  free = h.free;
  rightly = record {
    ask = h.asked.0;
    ordered = h.asked.1;
    asked = h.asked.2;
    slot = h.slot;
    window = h.window;
    cub = h.cub;
    once = once t.instance.0;
  };
}
fair_again p orders log m c reading other once h = tt

from_steps : (p : Params) (orders : List Order) (log : List Noted) (m : Moment) (xs : List Noted) → ((v : ℕ) → puts v log ≤ 1)
    → AtEach (IsFairSoFar p orders) next_moment m xs → AtEach (Fair p orders log) next_moment m xs
from_steps p orders log m [] once h = tt
from_steps p orders log m (x ∷ xs) once h = (
  fair_again p orders log m x.node x.entry.stamp.reading x.entry.what once h.0,
  from_steps p orders log (next_moment m x) xs once h.1,
)

pub puts_go_by_steps : (p : Params) (orders : List Order)
    → GoesBySteps (PutsAreFair p orders) (IsFairSoFar p orders) next_moment opening
puts_go_by_steps p orders log = (
  (λ h. to_steps p orders log opening log (λ v. omega arith) h),
  (λ h. from_steps p orders log opening log (λ v. omega (arith, put_at_most_once p orders opening log h v)) h),
)
