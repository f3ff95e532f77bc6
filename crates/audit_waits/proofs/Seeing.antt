-- What is known of a disk's visits stays true, and what a search along them tells.
use Rattle.std.proofs.Common.{◌≡◌, ℕ, zero, suc, ◌+◌, ◌<◌, ◌≤◌, Bool, true, false, cond, not, ◌||◌, IsTrue, nat_le, List, [], ◌∷◌, ◌++◌, take, Option, Some, None, get_or, replicate, refl, sym, ap, subst, ◌∙◌, ⊎_elim, arith}
use Rattle.std.specs.Prelude.{slice_set}
use Rattle.std.specs.Option.{ForSome}
use Rattle.std.proofs.lemmas.Bool.{and_from, false≢true, le-leb, lt-ltb, leb-true, cases_lt}
use Rattle.slot_plan.specs.declared.params.Params.{Params}
use Rattle.slot_plan.specs.Keys.{Key, due_of, is_behind}
use Rattle.slot_plan.specs.Searches.{EntersFrom}
use Rattle.slot_plan.specs.Times.{in_window}
use Rattle.slot_plan.specs.Windows.{IsOpen}
use Rattle.slot_plan.proofs.Keys.{due_earlier}
use Rattle.slot_plan.proofs.Times.{window_parts}
use Rattle.audit_waits.specs.Holders.{has_its_visit, holder_in}
use Rattle.audit_waits.specs.Seen.{AreMarks, IsIn, IsMark, IsSoughtBehind, KeepsVisits, is_nobodys, mark_last, nothing_seen}
use Rattle.audit_waits.specs.Ticks.{is_missed_by}
use Rattle.audit_waits.specs.declared.holders.Holders.{Holders}
use Rattle.audit_waits.specs.declared.seen.Mark.{Mark}
use Rattle.audit_waits.specs.declared.so_far.SoFar.{SoFar}

with_test : (p : Params) (reading disk : ℕ) (test other : Key → Bool) (k : Key) → IsOpen p reading disk test k → other k ≡ true → IsOpen p reading disk other k
with_test p reading disk test other k o t = record { in_plan = o.in_plan; on_disk = o.on_disk; window = o.window; passes = t }

-- ---- at a later reading

-- what is in the window at a reading was in it at an earlier one, or came in behind that
was_open : (p : Params) (disk early late : ℕ) (test : Key → Bool) (k : Key) (P : Type 0) → early ≤ late → IsOpen p late disk test k
    → (IsOpen p early disk test k → P) → (early + p.window_a < due_of p k → P) → P
unfolding in_window
was_open p disk early late test k P le o inside behind =
    let high : early + p.window_b < due_of p k = omega (arith, (window_parts p late k.0.0 k.1 o.window).1, le) in
    ⊎_elim behind
    (λ low. inside (record { in_plan = o.in_plan; on_disk = o.on_disk; passes = o.passes; window = and_from _ _ (le-leb _ _ low) (lt-ltb _ _ high) }))
    (cases_lt (early + p.window_a) (due_of p k))

behind_in : (p : Params) (reading : ℕ) (last : Option Key) (k : Key) → ForSome last (IsIn p reading) → reading + p.window_a < due_of p k → is_behind p last k ≡ true
unfolding is_behind
behind_in p reading None k entered later = refl
behind_in p reading (Some a) k entered later = due_earlier p a k (omega (arith, (entered a refl).1, later))

in_later : (p : Params) (early late : ℕ) (last : Option Key) → early ≤ late → ForSome last (IsIn p early) → ForSome last (IsIn p late)
in_later p early late last le entered k e = let h = entered k e in (h.0, omega (arith, h.1, le))

-- ---- a mark

-- a search that ended at a visit of nobody's
pub mark_stops : (p : Params) (h : Holders) (disk reading : ℕ) (last : Option Key) → IsSoughtBehind p reading disk (is_nobodys h) last
    → ForSome last (IsIn p reading) → IsMark p h disk (record { from = reading; last = last; until = reading })
mark_stops p h disk reading last sought entered = record {
  nobodys = λ r le k o. (
    le,
    was_open p disk reading r (is_nobodys h) k (is_behind p last k ≡ true) le o (sought k) (behind_in p reading last k entered),
  );
  entered = entered;
}

-- and one that ended where the window does
pub mark_full : (p : Params) (h : Holders) (disk reading until : ℕ) (last : Option Key) → ((k : Key) → IsOpen p reading disk (is_nobodys h) k → ⊥)
    → EntersFrom p disk reading until → ForSome last (IsIn p reading) → IsMark p h disk (record { from = reading; last = last; until = until })
mark_full p h disk reading until last none enters entered = record {
  nobodys = λ r le k o.
      was_open p disk reading r (is_nobodys h) k ((until ≤ r) × (is_behind p last k ≡ true)) le o
      (λ here. absurd (none k here))
      (λ later.
      let comes = enters k o.in_plan o.on_disk later in
      let due = (window_parts p r k.0.0 k.1 o.window).0 in
      (omega (arith, comes, due), behind_in p reading last k entered later));
  entered = entered;
}

-- where a search goes on
pub sought_at : (p : Params) (h : Holders) (disk reading : ℕ) (m : Mark) → IsMark p h disk m → m.from ≤ reading
    → IsSoughtBehind p reading disk (is_nobodys h) m.last × ForSome m.last (IsIn p reading)
sought_at p h disk reading m is le = (
  (λ k o. (is.nobodys reading le k o).1),
  in_later p m.from reading m.last le is.entered,
)

pub sought_by : (p : Params) (h : Holders) (disk reading : ℕ) (m : Mark) → IsMark p h disk m
    → IsSoughtBehind p reading disk (is_nobodys h) (mark_last m reading) × ForSome (mark_last m reading) (IsIn p reading)
unfolding is_behind
sought_by p h disk reading m is = go (nat_le m.from reading) refl where
  go : (b : Bool) → nat_le m.from reading ≡ b
      → IsSoughtBehind p reading disk (is_nobodys h) (cond b m.last None) × ForSome (cond b m.last None) (IsIn p reading)
  go true e = sought_at p h disk reading m is (leb-true m.from reading e)
  go false e = ((λ k o. refl), (λ k none. absurd (cc)))

-- no visit is nobody's before the mark's time
pub none_before : (p : Params) (h : Holders) (disk reading : ℕ) (m : Mark) → IsMark p h disk m → m.from ≤ reading → reading < m.until
    → (k : Key) → IsOpen p reading disk (is_nobodys h) k → ⊥
none_before p h disk reading m is le early k o =
    let until = (is.nobodys reading le k o).0 in
    absurd (omega (arith, early, until))

-- ---- a visit that is missed is nobody's

either_not : (a b : Bool) → not (a || b) ≡ true → not a ≡ true
either_not true b e = e
either_not false b e = refl

pub missed_nobodys : (p : Params) (s : SoFar) (c beat reading disk : ℕ) (k : Key) → IsOpen p reading disk (is_missed_by p s c beat) k
    → IsOpen p reading disk (is_nobodys s.holders) k
missed_nobodys p s c beat reading disk k o =
    with_test p reading disk (is_missed_by p s c beat) (is_nobodys s.holders) k o
    (either_not (has_its_visit (holder_in s.holders k.0.0) k.1) _ o.passes)

-- ---- the marks

pub nothing_known : (p : Params) (h : Holders) (disk : ℕ) → IsMark p h disk nothing_seen
unfolding is_behind
nothing_known p h disk = record { nobodys = λ r le k o. (omega arith, refl); entered = λ k e. absurd (cc) }

same_all : (n i : ℕ) (m : Mark) → get_or (replicate n m) i m ≡ m
same_all zero i m = refl
same_all (suc n) zero m = refl
same_all (suc n) (suc i) m = same_all n i m

none_known : (p : Params) (h : Holders) (n : ℕ) (marks : List Mark) → marks ≡ replicate n nothing_seen → AreMarks p h marks
none_known p h n marks is disk =
    subst (λ (m : Mark). IsMark p h disk m) (sym (ap (λ (ms : List Mark). get_or ms disk nothing_seen) is ∙ same_all n disk nothing_seen))
    (nothing_known p h disk)

take_none : (n : ℕ) (ms : List Mark) → ms ≡ [] → take n ms ≡ []
take_none zero ms e = refl
take_none (suc n) [] e = refl
take_none (suc n) (m ∷ ms) e = absurd (cc)

pub forgotten : (p : Params) (h : Holders) (n k : ℕ) (m : Mark) (old new : List Mark) → old ≡ [] → m ≡ nothing_seen
    → new ≡ take n old ++ replicate k m → AreMarks p h new
forgotten p h n k m old new none is e = none_known p h k new
    (e ∙ ap (λ (xs : List Mark). xs ++ replicate k m) (take_none n old none) ∙ ap (λ (x : Mark). replicate k x) is)

-- what holds of each mark at its place holds still where one is set of which it holds
set_keeps : (F : ℕ → Mark → Type 0) (marks : List Mark) (i : ℕ) (m : Mark) → F i m → ((j : ℕ) → F j (get_or marks j nothing_seen))
    → (j : ℕ) → F j (get_or (slice_set marks i m) j nothing_seen)
set_keeps F [] i m is all j = all j
set_keeps F (x ∷ xs) zero m is all zero = is
set_keeps F (x ∷ xs) zero m is all (suc j) = all (suc j)
set_keeps F (x ∷ xs) (suc i) m is all zero = all zero
set_keeps F (x ∷ xs) (suc i) m is all (suc j) = set_keeps (λ n. F (suc n)) xs i m is (λ k. all (suc k)) j

pub mark_set : (p : Params) (h : Holders) (old new : List Mark) (disk : ℕ) (m : Mark) → new ≡ slice_set old disk m → AreMarks p h old
    → IsMark p h disk m → AreMarks p h new
mark_set p h old new disk m is all here j =
    subst (λ (ms : List Mark). IsMark p h j (get_or ms j nothing_seen)) (sym is)
    (set_keeps (λ n x. IsMark p h n x) old disk m here all j)

-- each tenancy keeps its visits
contra : (a b : Bool) → (IsTrue a → IsTrue b) → not b ≡ true → not a ≡ true
contra true true f e = e
contra true false f e = absurd (false≢true (f refl))
contra false b f e = refl

pub marks_kept : (p : Params) (old new : Holders) (marks : List Mark) → KeepsVisits old new → AreMarks p old marks → AreMarks p new marks
marks_kept p old new marks keeps all disk =
    let is = all disk in
    record {
      nobodys = λ r le k o. is.nobodys r le k (with_test p r disk (is_nobodys new) (is_nobodys old) k o
          (contra (has_its_visit (holder_in old k.0.0) k.1) (has_its_visit (holder_in new k.0.0) k.1) (keeps k) o.passes));
      entered = is.entered;
    }
