-- Disks stay full where a view changes, as long as no visit in the window becomes free.
use Rattle.std.proofs.Common.{◌≡◌, ℕ, ◌+◌, ◌<◌, ◌≤◌, Bool, true, false, cond, not, IsTrue, List, [], ◌∷◌, ◌++◌, Option, Some, None, Result, Ok, Err, OnOk, OnErr, is_some, refl, sym, ap, subst, ⊎_elim, arith}
use Rattle.std.specs.List.{AllByRecursion, filter, find}
use Rattle.std.specs.Option.{ForSome}
use Rattle.std.proofs.lemmas.Bool.{and_from, both_ways, eqb-true, le-leb, lt-ltb, cases_lt}
use Rattle.std.proofs.lemmas.Option.{same_Some}
use Rattle.tiger_base.specs.declared.tenancy.Rec.{Rec}
use Rattle.slot_plan.specs.declared.params.Params.{Params}
use Rattle.slot_plan.specs.Keys.{Key, due_of, is_earlier, is_behind}
use Rattle.slot_plan.specs.Searches.{EntersFrom}
use Rattle.slot_plan.specs.Times.{in_window}
use Rattle.slot_plan.specs.Windows.{IsOpen}
use Rattle.slot_plan.proofs.Keys.{due_earlier}
use Rattle.slot_plan.proofs.Times.{window_parts}
use Rattle.partial_view.specs.declared.full_disks.FullDisk.{FullDisk}
use Rattle.partial_view.specs.declared.full_disks.FullDisks.{FullDisks}
use Rattle.partial_view.specs.declared.line.Line.{Line}
use Rattle.partial_view.specs.declared.line.Flag.{Flag}
use Rattle.partial_view.specs.Free.{is_free, IsFullAt, IsTakenTo, HasEntered, IsFull, IsKnown, AreFull, is_disk, others}
use Rattle.partial_view.specs.Lines.{key_of, visit_of, marked, unmarked, same, is_at}
use Rattle.partial_view.specs.Views.{line_at, with_mark, without, with_line, with_record}
use Rattle.partial_view.proofs.Order.{same_is, key_of-marked, all_append, all_filter, all_implies}

-- a test that fails fails where it would have to pass
contra : (a b : Bool) → (b ≡ true → a ≡ true) → not a ≡ true → not b ≡ true
contra true true h n = n
contra true false h n = refl
contra false true h n = h refl
contra false false h n = refl

-- a visit that is free now was free before if no line of it went
freed : (k : Key) (before now : List Line) → (is_some (line_at k before) ≡ true → is_some (line_at k now) ≡ true) → is_free now k ≡ true → is_free before k ≡ true
unfolding is_free
freed k before now there h = contra (is_some (line_at k now)) (is_some (line_at k before)) there h

-- what is found in a list is found in one whose first element passes the test alike, if that holds of the rest
at_head : (b c : Bool) (y z : Line) (o q : Option Line) → b ≡ c → (is_some o ≡ true → is_some q ≡ true) → is_some (cond b (Some y) o) ≡ true → is_some (cond c (Some z) q) ≡ true
at_head true c y z o q e f h = subst (λ (t : Bool). is_some (cond t (Some z) q) ≡ true) e refl
at_head false c y z o q e f h = subst (λ (t : Bool). is_some (cond t (Some z) q) ≡ true) e (f h)

-- a visit that has a line has one where a line is added, where a flag is set, and where that of another visit is removed
there_line : (p : Params) (x : Line) (k : Key) (lines : List Line) → is_some (line_at k lines) ≡ true → is_some (line_at k (with_line p x lines)) ≡ true
unfolding line_at with_line
there_line p x k [] h = absurd (both_ways false refl h)
there_line p x k (y ∷ ys) h =
    elim (is_earlier p (key_of x) (key_of y)) as (λ t. is_some (find (is_at k) (cond t (x ∷ y ∷ ys) (y ∷ with_line p x ys))) ≡ true) [
      | true ↦ elim (is_at k x) as (λ b. is_some (cond b (Some x) (find (is_at k) (y ∷ ys))) ≡ true) [ true ↦ refl | false ↦ h ]
      | false ↦ at_head (is_at k y) (is_at k y) y y (find (is_at k) ys) (find (is_at k) (with_line p x ys)) refl (there_line p x k ys) h
    ]

there_record : (p : Params) (r : Rec) (k : Key) (lines : List Line) → is_some (line_at k lines) ≡ true → is_some (line_at k (with_record p r lines)) ≡ true
unfolding with_record
there_record p r k lines h =
    elim (is_some (line_at (visit_of r) lines)) as (λ t. is_some (line_at k (cond t lines (with_line p (unmarked r) lines))) ≡ true) [
      | true ↦ h
      | false ↦ there_line p (unmarked r) k lines h
    ]

there_mark : (j : Key) (flag : Flag) (k : Key) (lines : List Line) → is_some (line_at k lines) ≡ true → is_some (line_at k (with_mark j flag lines)) ≡ true
unfolding line_at with_mark
there_mark j flag k [] h = h
there_mark j flag k (y ∷ ys) h =
    elim (is_at j y) as (λ t. is_some (find (is_at k) (cond t (marked flag y) y ∷ with_mark j flag ys)) ≡ true) [
      | true ↦ at_head (is_at k y) (is_at k (marked flag y)) y (marked flag y) (find (is_at k) ys) (find (is_at k) (with_mark j flag ys)) (ap (λ (q : Key). same k q) (sym (key_of-marked flag y))) (there_mark j flag k ys) h
      | false ↦ at_head (is_at k y) (is_at k y) y y (find (is_at k) ys) (find (is_at k) (with_mark j flag ys)) refl (there_mark j flag k ys) h
    ]

left_head : (j k : Key) (y : Line) (ys rest : List Line) (b : Bool) → is_at j y ≡ b → same k j ≡ false
    → (is_some (find (is_at k) ys) ≡ true → is_some (find (is_at k) rest) ≡ true)
    → is_some (find (is_at k) (y ∷ ys)) ≡ true → is_some (find (is_at k) (cond (not b) (y ∷ rest) rest)) ≡ true
left_head j k y ys rest false e apart f h = at_head (is_at k y) (is_at k y) y y (find (is_at k) ys) (find (is_at k) rest) refl f h
left_head j k y ys rest true e apart f h =
    let other : is_at k y ≡ false = subst (λ (q : Key). same k q ≡ false) (same_is j (key_of y) e) apart in
    f (subst (λ (t : Bool). is_some (cond t (Some y) (find (is_at k) ys)) ≡ true) other h)

there_without : (j k : Key) (lines : List Line) → same k j ≡ false → is_some (line_at k lines) ≡ true → is_some (line_at k (without j lines)) ≡ true
unfolding line_at without
there_without j k [] apart h = h
there_without j k (y ∷ ys) apart h = left_head j k y ys (filter (λ x. not (is_at j x)) ys) (is_at j y) refl apart (there_without j k ys apart) h

-- what is in the window is not a visit that is due before it
apart_due : (p : Params) (j k : Key) (reading : ℕ) → due_of p j ≤ reading + p.window_b → IsTrue (in_window p reading k.0.0 k.1) → same k j ≡ false
apart_due p j k reading gone inside = cases (same k j) refl
  where
    cases : (t : Bool) → same k j ≡ t → same k j ≡ false
    cases false e = e
    cases true e =
        let one : due_of p k ≡ due_of p j = ap (λ (q : Key). due_of p q) (same_is k j e) in
        let later : reading + p.window_b < due_of p k = (window_parts p reading k.0.0 k.1 inside).1 in
        absurd (omega (arith, one, gone, later))

-- what has entered at a reading has at a later one
entered_later : (p : Params) (low high : ℕ) (k : Key) → low ≤ high → HasEntered p low k → HasEntered p high k
entered_later p low high k later h = (h.0, omega (arith, h.1, later))

-- the disks stay full from a time on if no visit that is in the window then becomes free
full_by : (p : Params) (low high : ℕ) (before now : List Line) (disks : List FullDisk) → low ≤ high
    → ((reading : ℕ) (k : Key) → high ≤ reading → IsTrue (in_window p reading k.0.0 k.1) → is_free now k ≡ true → is_free before k ≡ true)
    → AllByRecursion (IsFull p low before) disks → AllByRecursion (IsFull p high now) disks
full_by p low high before now disks later frees h =
    all_implies (IsFull p low before) (IsFull p high now)
    (λ x f. record {
      frees = λ reading late k o. f.frees reading (omega (arith, later, late)) k (record { in_plan = o.in_plan; on_disk = o.on_disk; window = o.window; passes = frees reading k late o.window o.passes });
      entered = λ k e. entered_later p low high k later (f.entered k e);
    })
    disks h

pub full_record : (p q : Params) (full : FullDisks) (r : Rec) (lines : List Line) → AreFull p full lines → AreFull p full (with_record q r lines)
full_record p q full r lines h =
    full_by p full.from full.from lines (with_record q r lines) full.disks.items (omega arith) (λ reading k late inside free. freed k lines (with_record q r lines) (there_record q r k lines) free) h

pub full_mark : (p : Params) (full : FullDisks) (j : Key) (flag : Flag) (lines : List Line) → AreFull p full lines → AreFull p full (with_mark j flag lines)
full_mark p full j flag lines h =
    full_by p full.from full.from lines (with_mark j flag lines) full.disks.items (omega arith) (λ reading k late inside free. freed k lines (with_mark j flag lines) (there_mark j flag k lines) free) h

pub full_without : (p : Params) (high : ℕ) (full : FullDisks) (j : Key) (lines : List Line) → full.from ≤ high → due_of p j ≤ high + p.window_b → AreFull p full lines
    → AreFull p (record full { from = high }) (without j lines)
full_without p high full j lines later gone h =
    full_by p full.from high lines (without j lines) full.disks.items later
    (λ reading k late inside free. freed k lines (without j lines) (there_without j k lines (apart_due p j k reading (omega (arith, gone, late)) inside)) free) h

pub full_later : (p : Params) (high : ℕ) (full : FullDisks) (lines : List Line) → full.from ≤ high → AreFull p full lines → AreFull p (record full { from = high }) lines
full_later p high full lines later h = full_by p full.from high lines lines full.disks.items later (λ reading k late inside free. free) h

pub full_none : (p : Params) (full : FullDisks) (lines : List Line) → full.disks.items ≡ [] → AreFull p full lines
full_none p full lines e = subst (λ (xs : List FullDisk). AllByRecursion (IsFull p full.from lines) xs) (sym e) tt

-- a visit that is free comes into the window after a reading at which the disk is full
enters_after : (p : Params) (disk reading r : ℕ) (lines : List Line) (k : Key) → IsFullAt p disk reading lines → reading ≤ r → IsOpen p r disk (is_free lines) k → reading + p.window_a < due_of p k
unfolding in_window
enters_after p disk reading r lines k full late o =
    let high : reading + p.window_b < due_of p k = omega (arith, (window_parts p r k.0.0 k.1 o.window).1, late) in
    ⊎_elim (λ l. l)
    (λ low. absurd (full k (record { in_plan = o.in_plan; on_disk = o.on_disk; passes = o.passes; window = and_from _ _ (le-leb _ _ low) (lt-ltb _ _ high) })))
    (cases_lt (reading + p.window_a) (due_of p k))

-- what comes into the window after a reading comes behind what entered before
behind_entered : (p : Params) (reading : ℕ) (last : Option Key) (k : Key) → ForSome last (HasEntered p reading) → reading + p.window_a < due_of p k → is_behind p last k ≡ true
unfolding is_behind
behind_entered p reading None k entered later = refl
behind_entered p reading (Some a) k entered later = due_earlier p a k (omega (arith, (entered a refl).1, later))

-- a disk is full from a reading on at which it is
pub full_from : (p : Params) (reading : ℕ) (lines : List Line) (x : FullDisk) → EntersFrom p x.disk.0 reading x.until → IsFullAt p x.disk.0 reading lines → ForSome x.last (HasEntered p reading)
    → IsFull p reading lines x
full_from p reading lines x enters full entered = record {
  frees = λ r late k o.
      let after = enters_after p x.disk.0 reading r lines k full late o in
      (omega (arith, enters k o.in_plan o.on_disk after, (window_parts p r k.0.0 k.1 o.window).0), behind_entered p reading x.last k entered after);
  entered = entered;
}

-- what is known of the first of the disks that is the one
known_head : (p : Params) (lines : List Line) (disk reading : ℕ) (x : FullDisk) (rest : Option FullDisk) (b : Bool) → is_disk disk x ≡ b → IsFull p reading lines x
    → ForSome rest (IsKnown p disk reading lines) → ForSome (cond b (Some x) rest) (IsKnown p disk reading lines)
known_head p lines disk reading x rest true is full more y e =
    subst (λ (z : FullDisk). IsKnown p disk reading lines z) (same_Some x y e) (eqb-true _ _ is, full)
known_head p lines disk reading x rest false is full more y e = more y e

pub known_of : (p : Params) (lines : List Line) (disk reading : ℕ) (disks : List FullDisk) → AllByRecursion (IsFull p reading lines) disks
    → ForSome (find (is_disk disk) disks) (IsKnown p disk reading lines)
known_of p lines disk reading [] h y e = absurd (cc)
known_of p lines disk reading (x ∷ xs) h y e = known_head p lines disk reading x (find (is_disk disk) xs) (is_disk disk x) refl h.0 (known_of p lines disk reading xs h.1) y e

-- so no visit is free before its time, and one that is comes behind its last visit
pub full_before : (p : Params) (lines : List Line) (disk reading : ℕ) (x : FullDisk) → IsKnown p disk reading lines x → reading < x.until → IsFullAt p disk reading lines
full_before p lines disk reading x known early =
    subst (λ (d : ℕ). IsFullAt p d reading lines) known.0 (λ k o. absurd (omega (arith, early, (known.1.frees reading (omega arith) k o).0)))

pub taken_to : (p : Params) (lines : List Line) (disk reading : ℕ) (x : FullDisk) → IsKnown p disk reading lines x → IsTakenTo p disk reading x.last lines
taken_to p lines disk reading x known =
    subst (λ (d : ℕ). IsTakenTo p d reading x.last lines) known.0 (λ k o. (known.1.frees reading (omega arith) k o).1)

pub taken_none : (p : Params) (lines : List Line) (disk reading : ℕ) → IsTakenTo p disk reading None lines
unfolding is_behind
taken_none p lines disk reading k o = refl

-- one disk more, whether there was memory for it or not
pub full_put : {T E : Type 0} (p : Params) (lines : List Line) (from : ℕ) (x : FullDisk) (old new : List FullDisk) (r : Result T E)
    → OnOk r (new ≡ others x.disk.0 old ++ x ∷ []) → OnErr r (new ≡ others x.disk.0 old)
    → AllByRecursion (IsFull p from lines) old → IsFull p from lines x → AllByRecursion (IsFull p from lines) new
full_put p lines from x old new (Ok t) ok err h here =
    let left = all_filter (IsFull p from lines) (λ y. not (is_disk x.disk.0 y)) old h in
    subst (λ (ys : List FullDisk). AllByRecursion (IsFull p from lines) ys) (sym ok) (all_append (IsFull p from lines) (others x.disk.0 old) (x ∷ []) left (here, tt))
full_put p lines from x old new (Err t) ok err h here =
    subst (λ (ys : List FullDisk). AllByRecursion (IsFull p from lines) ys) (sym err) (all_filter (IsFull p from lines) (λ y. not (is_disk x.disk.0 y)) old h)
