-- What is found in one bucket alone: the lines that are due in a turn all stand in one.
use Rattle.std.proofs.Common.{◌≡◌, ◌==◌, ℕ, ◌+◌, ◌<◌, ◌≤◌, Bool, true, false, cond, nat_le, ◌&&◌, min, List, [], ◌∷◌, find, Some, None, refl, sym, ap, subst, arith, eq-eqb}
use Rattle.std.specs.List.{AllByRecursion, filter}
use Rattle.std.proofs.lemmas.Bool.{both_ways, leb-true, leb-false, le-leb}
use Rattle.slot_plan.specs.declared.params.Params.{Params}
use Rattle.slot_plan.specs.Keys.{due_of, is_earlier}
use Rattle.slot_plan.proofs.Keys.{earlier_due}
use Rattle.partial_view.specs.declared.line.Line.{Line}
use Rattle.partial_view.specs.declared.turn.Turn.{Turn}
use Rattle.partial_view.specs.Lines.{key_of}
use Rattle.partial_view.specs.Views.{IsBefore, IsWalk}
use Rattle.partial_view.specs.Wheel.{bucket_of, bucket_lines, IsTurnOf}
use Rattle.partial_view.specs.Work.{is_between, first_between, NoneBetween}

-- the due time of a line
abbrev pub due : Params → Line → ℕ
due p x = due_of p (key_of x)

-- what holds of all lines holds of the one that is found, which passes the test
pub found-holds : (P : Line → Type 0) (test : Line → Bool) (lines : List Line) (x : Line) → AllByRecursion P lines → find test lines ≡ Some x → P x
found-holds P test [] x h e = absurd (cc)
found-holds P test (y ∷ ys) x h e = at_test (test y) e (found-holds P test ys x h.1)
  where
    at_test : (t : Bool) → cond t (Some y) (find test ys) ≡ Some x → (find test ys ≡ Some x → P x) → P x
    at_test true f rest = subst P (let same : y ≡ x = cc in same) h.0
    at_test false f rest = rest f

pub found-passes : (test : Line → Bool) (lines : List Line) (x : Line) → find test lines ≡ Some x → test x ≡ true
found-passes test [] x e = absurd (cc)
found-passes test (y ∷ ys) x e = at_test (test y) refl e (found-passes test ys x)
  where
    at_test : (t : Bool) → test y ≡ t → cond t (Some y) (find test ys) ≡ Some x → (find test ys ≡ Some x → test x ≡ true) → test x ≡ true
    at_test true is f rest = subst (λ z. test z ≡ true) (let same : y ≡ x = cc in same) is
    at_test false is f rest = rest f

-- what is found of some of the lines is found of all, if only those pass
found-in-at : (test part : Line → Bool) (y : Line) (ys : List Line) (a b : Bool) → (a ≡ true → b ≡ true) → test y ≡ a → find test (filter part ys) ≡ find test ys
    → find test (cond b (y ∷ filter part ys) (filter part ys)) ≡ cond a (Some y) (find test ys)
found-in-at test part y ys true true h is r = rw is refl
found-in-at test part y ys false true h is r = rw is r
found-in-at test part y ys false false h is r = r
found-in-at test part y ys true false h is r = absurd (both_ways false refl (h refl))

pub found-in : (test part : Line → Bool) (lines : List Line) → ((y : Line) → test y ≡ true → part y ≡ true) → find test (filter part lines) ≡ find test lines
found-in test part [] h = refl
found-in test part (y ∷ ys) h = found-in-at test part y ys (test y) (part y) (h y) refl (found-in test part ys h)

-- a line that passes a test, and is due from one time to another
pub between-low : (p : Params) (test : Line → Bool) (from to : ℕ) (x : Line) → is_between p test from to x ≡ true → from ≤ due p x
between-low p test from to x h = leb-true _ _ (middle (test x) (nat_le from (due p x)) (nat_le (due p x) to) h)
  where
    middle : (a b c : Bool) → (a && b && c) ≡ true → b ≡ true
    middle a true c e = refl
    middle true false c e = e
    middle false false c e = e

pub between-high : (p : Params) (test : Line → Bool) (from to : ℕ) (x : Line) → is_between p test from to x ≡ true → due p x ≤ to
between-high p test from to x h = leb-true _ _ (last (test x) (nat_le from (due p x)) (nat_le (due p x) to) h)
  where
    last : (a b c : Bool) → (a && b && c) ≡ true → c ≡ true
    last a b true e = refl
    last true true false e = e
    last true false false e = e
    last false true false e = e
    last false false false e = e

-- what is due in a turn is found in its bucket
in-bucket : (p : Params) (time : ℕ) (turn : Turn) (x : Line) → IsTurnOf p time turn → time ≤ due p x → due p x ≤ turn.last → bucket_of p (key_of x) ≡ turn.bucket
unfolding bucket_of
in-bucket p time turn x h low high = h.0 (due p x) (let first = h.1 in omega (arith, first, low)) high

pub first-in-turn : (p : Params) (test : Line → Bool) (turn : Turn) (from to : ℕ) (lines : List Line) → IsTurnOf p from turn
    → first_between p test from (min to turn.last) (bucket_lines p turn.bucket lines) ≡ first_between p test from (min to turn.last) lines
unfolding first_between
first-in-turn p test turn from to lines h =
    found-in (is_between p test from (min to turn.last)) (λ x. bucket_of p (key_of x) == turn.bucket) lines
    (λ y passes. let high = between-high p test from (min to turn.last) y passes in
    eq-eqb _ _ (in-bucket p from turn y h (between-low p test from (min to turn.last) y passes) (omega (arith, high))))

-- a line that is found by an earlier time is found by a later one too, since the lines before it are due before it
pub between-is : (p : Params) (test : Line → Bool) (from to : ℕ) (x : Line) → test x ≡ true → from ≤ due p x → due p x ≤ to → is_between p test from to x ≡ true
between-is p test from to x is low high = rw (is, le-leb _ _ low, le-leb _ _ high) refl

pub between-test : (p : Params) (test : Line → Bool) (from to : ℕ) (x : Line) → is_between p test from to x ≡ true → test x ≡ true
between-test p test from to x h = first (test x) (nat_le from (due p x)) (nat_le (due p x) to) h
  where
    first : (a b c : Bool) → (a && b && c) ≡ true → a ≡ true
    first true b c e = refl
    first false b c e = e

module _ (p : Params) (test : Line → Bool) (from soon to : ℕ) where
  later-too : (x : Line) → soon ≤ to → is_between p test from soon x ≡ true → is_between p test from to x ≡ true
  later-too x le h =
      let high = between-high p test from soon x h in
      between-is p test from to x (between-test p test from soon x h) (between-low p test from soon x h) (omega (arith, high, le))

  after-soon : (x : Line) → is_between p test from soon x ≡ false → is_between p test from to x ≡ true → soon < due p x
  after-soon x not_soon h = at_test (nat_le (due p x) soon) refl
    where
      at_test : (t : Bool) → nat_le (due p x) soon ≡ t → soon < due p x
      at_test true is = absurd (both_ways (is_between p test from soon x) not_soon (between-is p test from soon x (between-test p test from to x h) (between-low p test from to x h) (leb-true _ _ is)))
      at_test false is = leb-false _ _ is

  soon-at : (x y : Line) (ys : List Line) (a b : Bool) → is_between p test from soon y ≡ a → is_between p test from to y ≡ b → soon ≤ to → IsBefore p (key_of y) ys
      → cond a (Some y) (find (is_between p test from soon) ys) ≡ Some x → (find (is_between p test from soon) ys ≡ Some x → find (is_between p test from to) ys ≡ Some x)
      → cond b (Some y) (find (is_between p test from to) ys) ≡ Some x
  soon-at x y ys true true ia ib le w e rest = e
  soon-at x y ys false false ia ib le w e rest = rest e
  soon-at x y ys true false ia ib le w e rest = absurd (both_ways (is_between p test from to y) ib (later-too y le ia))
  soon-at x y ys false true ia ib le w e rest =
      let order = earlier_due p (key_of y) (key_of x) (found-holds (λ z. is_earlier p (key_of y) (key_of z) ≡ true) (is_between p test from soon) ys x w e) in
      let high = between-high p test from soon x (found-passes (is_between p test from soon) ys x e) in
      let late = after-soon y ia ib in
      absurd (omega (arith, order, high, late))

  soon-all : (x : Line) (lines : List Line) → soon ≤ to → IsWalk p lines → find (is_between p test from soon) lines ≡ Some x → find (is_between p test from to) lines ≡ Some x
  soon-all x [] le w e = absurd (cc)
  soon-all x (y ∷ ys) le w e = soon-at x y ys (is_between p test from soon y) (is_between p test from to y) refl refl le w.1 e (soon-all x ys le w.2)

pub first-soon : (p : Params) (test : Line → Bool) (from soon to : ℕ) (x : Line) (lines : List Line) → soon ≤ to → IsWalk p lines → first_between p test from soon lines ≡ Some x → first_between p test from to lines ≡ Some x
unfolding first_between
first-soon p test from soon to x lines le w e = soon-all p test from soon to x lines le w e

-- if none is found up to a time, the search goes on behind it
pub none-passes : (test : Line → Bool) (lines : List Line) → find test lines ≡ None → AllByRecursion (λ y. test y ≡ false) lines
none-passes test [] e = tt
none-passes test (y ∷ ys) e = at_test (test y) refl e (none-passes test ys)
  where
    at_test : (t : Bool) → test y ≡ t → cond t (Some y) (find test ys) ≡ None → (find test ys ≡ None → AllByRecursion (λ z. test z ≡ false) ys) → AllByRecursion (λ z. test z ≡ false) (y ∷ ys)
    at_test true is f rest = absurd (cc)
    at_test false is f rest = (is, rest f)

same-found : (test other : Line → Bool) (lines : List Line) → AllByRecursion (λ y. test y ≡ other y) lines → find test lines ≡ find other lines
same-found test other [] h = refl
same-found test other (y ∷ ys) h = rw h.0 (ap (λ o. cond (other y) (Some y) o) (same-found test other ys h.1))

same-test : (a b : Bool) → (a ≡ true → b ≡ true) → (b ≡ true → a ≡ true) → a ≡ b
same-test true true f g = refl
same-test false false f g = refl
same-test true false f g = sym (f refl)
same-test false true f g = g refl

pub first-on : (p : Params) (test : Line → Bool) (from last to : ℕ) (lines : List Line) → from ≤ last → first_between p test from (min to last) lines ≡ None → last < to
    → first_between p test (last + 1) to lines ≡ first_between p test from to lines
unfolding first_between
first-on p test from last to lines le none more =
    same-found (is_between p test (last + 1) to) (is_between p test from to) lines
    (all-on lines (none-passes (is_between p test from (min to last)) lines none))
  where
    on : (y : Line) → is_between p test from (min to last) y ≡ false → is_between p test (last + 1) to y ≡ is_between p test from to y
    on y h =
        same-test (is_between p test (last + 1) to y) (is_between p test from to y)
        (λ is. let low = between-low p test (last + 1) to y is in between-is p test from to y (between-test p test (last + 1) to y is) (omega (arith, low, le)) (between-high p test (last + 1) to y is))
        (λ is. let late = after-soon p test from (min to last) to y h is in between-is p test (last + 1) to y (between-test p test from to y is) (omega (arith, late, more)) (between-high p test from to y is))

    all-on : (ls : List Line) → AllByRecursion (λ y. is_between p test from (min to last) y ≡ false) ls → AllByRecursion (λ y. is_between p test (last + 1) to y ≡ is_between p test from to y) ls
    all-on [] h = tt
    all-on (y ∷ ys) h = (on y h.0, all-on ys h.1)

-- and behind the last time nothing is found
pub first-past : (p : Params) (test : Line → Bool) (from to : ℕ) (lines : List Line) → to < from → None ≡ first_between p test from to lines
unfolding first_between
first-past p test from to [] past = refl
first-past p test from to (y ∷ ys) past = at_test (is_between p test from to y) refl (first-past p test from to ys past)
  where
    at_test : (t : Bool) → is_between p test from to y ≡ t → None ≡ find (is_between p test from to) ys → None ≡ cond t (Some y) (find (is_between p test from to) ys)
    at_test true is rest =
        let low = between-low p test from to y is in
        let high = between-high p test from to y is in
        absurd (omega (arith, low, high, past))
    at_test false is rest = rest

pub first-empty : (p : Params) (test : Line → Bool) (from to : ℕ) {lines : List Line} → lines ≡ [] → None ≡ first_between p test from to lines
unfolding first_between
first-empty p test from to {lines} e = ap (λ (ls : List Line). first_between p test from to ls) (sym e)

-- before the next line of a turn's bucket, or the end of the turn, no line is due
pub none-in-turn : (p : Params) (turn : Turn) (time next : ℕ) (lines : List Line) → IsTurnOf p time turn → next ≤ turn.last + 1
    → NoneBetween p time next (bucket_lines p turn.bucket lines) → NoneBetween p time next lines
none-in-turn p turn time next [] h le here = tt
none-in-turn p turn time next (y ∷ ys) h le here =
    at_test (bucket_of p (key_of y) == turn.bucket) refl here (none-in-turn p turn time next ys h le)
  where
    after : (bucket_of p (key_of y) == turn.bucket) ≡ false → time ≤ due p y → next ≤ due p y
    after is low = at_last (nat_le (due p y) turn.last) refl
      where
        at_last : (t : Bool) → nat_le (due p y) turn.last ≡ t → next ≤ due p y
        at_last true early = absurd (both_ways (bucket_of p (key_of y) == turn.bucket) is (eq-eqb _ _ (in-bucket p time turn y h low (leb-true _ _ early))))
        at_last false late = let lt = leb-false _ _ late in omega (arith, lt, le)

    at_test : (t : Bool) → (bucket_of p (key_of y) == turn.bucket) ≡ t → NoneBetween p time next (cond t (y ∷ bucket_lines p turn.bucket ys) (bucket_lines p turn.bucket ys))
        → (NoneBetween p time next (bucket_lines p turn.bucket ys) → NoneBetween p time next ys) → NoneBetween p time next (y ∷ ys)
    at_test true is r rest = (r.0, rest r.1)
    at_test false is r rest = (after is, rest r)

-- what holds up to a time holds up to an earlier one
pub none-sooner : (p : Params) (time next soon : ℕ) (lines : List Line) → soon ≤ next → NoneBetween p time next lines → NoneBetween p time soon lines
none-sooner p time next soon [] le h = tt
none-sooner p time next soon (y ∷ ys) le h = ((λ low. let late = h.0 low in omega (arith, late, le)), none-sooner p time next soon ys le h.1)

-- what is found in a turn is due in it
pub turn-found : (p : Params) (test : Line → Bool) (turn : Turn) (from to : ℕ) (x : Line) (lines : List Line) → IsTurnOf p from turn → first_between p test from (min to turn.last) lines ≡ Some x → IsTurnOf p (due p x) turn
unfolding first_between
turn-found p test turn from to x lines h e =
    let passes = found-passes (is_between p test from (min to turn.last)) lines x e in
    let low = between-low p test from (min to turn.last) x passes in
    let high = between-high p test from (min to turn.last) x passes in
    let first = h.1 in
    (h.0, omega (arith, first, low), omega (arith, high))
