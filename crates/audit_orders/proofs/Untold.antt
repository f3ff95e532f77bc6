-- A journal tells its node's return exactly if each entry may stand behind the one before it, and the last one is no death
-- behind which a return is to come.
use Rattle.std.proofs.Common.{◌≡◌, ℕ, ◌+◌, ◌<◌, ◌≤◌, Bool, true, false, ◌&&◌, IsTrue, List, [], ◌∷◌, ◌++◌, length, take, get_or, Option, Some, None, is_some, refl, sym, ap, subst, ◌∙◌, inr, append-nil, arith}
use Rattle.std.specs.Prelude.{◌↔◌}
use Rattle.std.specs.List.{fold}
use Rattle.std.proofs.lemmas.Bool.{false≢true}
use Rattle.std.proofs.lemmas.List.{take_all}
use Rattle.std.proofs.lemmas.List.Sums.{fold-append}
use Rattle.node_kit.specs.declared.course.Course.{Course}
use Rattle.node_kit.specs.declared.journal.Entry.{Entry}
use Rattle.node_kit.specs.declared.journal.What.TheVariants as what
use Rattle.node_kit.specs.Life.{back_of}
use Rattle.run_facts.specs.Timed.{is_died, is_returned, death_within, AreReturned}
use Rattle.run_model.specs.Fronts.{AtEach}
use Rattle.run_model.specs.Runs.{TellsReturn, ends_dead}
use Rattle.run_model.specs.Tests.{may_follow}
use Rattle.run_model.proofs.Fronts.{at_each_more}
use Rattle.run_model.proofs.Reflects.{equal}
use Rattle.run_model.proofs.Timely.{follows}
use Rattle.audit_orders.specs.Returning.{TellReturnsBelow, IsUntoldAt, IsFirstUntold}
use Rattle.audit_orders.proofs.Firsts.{journal_there}
use Rattle.audit_orders.proofs.Walks.{GoesToAnEnd, done_here, unfinished_here}

-- an entry may stand behind one that is a death, or is none; and the last one may be a death, or none
abbrev pub MayFollow : Option ℕ → Bool → Entry → Type 0
MayFollow back died e = IsTrue (may_follow died back e)

abbrev pub died_next : Bool → Entry → Bool
died_next died e = is_died e.what

abbrev pub Closes : ℕ → Option ℕ → Bool → Type 0
Closes beats back died = (died && is_some (death_within beats back)) ≡ false

-- ---- each entry

steps_of : (back : Option ℕ) (died : Bool) (es : List Entry) → AreReturned back died es ↔ AtEach (MayFollow back) died_next died es
steps_of back died [] = ((λ h. tt), (λ h. tt))
steps_of back died (e ∷ es) =
    let first = follows (is_returned e.what) died back e.stamp.beat in
    let rest = steps_of back (is_died e.what) es in (
      (λ h. (first.1 (h.0, h.1), rest.0 h.2)),
      (λ g. let f = first.0 g.0 in (f.0, f.1, rest.1 g.1)),
    )

closes_is : (died : Bool) (within : Option ℕ) → (died ≡ true → within ≡ None) ↔ ((died && is_some within) ≡ false)
closes_is true None = ((λ h. refl), (λ g t. refl))
closes_is true (Some w) = ((λ h. let e : Some w ≡ None = h refl in absurd (cc)), (λ g. absurd (false≢true (sym g))))
closes_is false within = ((λ h. refl), (λ g t. absurd (false≢true t)))

law_of : (beats : ℕ) (back : Option ℕ) (es : List Entry)
    → TellsReturn beats back es ↔ (AtEach (MayFollow back) died_next false es × Closes beats back (fold died_next false es))
law_of beats back es =
    let steps = steps_of back false es in
    let ends = closes_is (fold died_next false es) (death_within beats back) in (
      (λ h. (steps.0 h.behind, ends.0 h.comes)),
      (λ g. record { behind = steps.1 g.0; comes = ends.1 g.1 }),
    )

-- ---- what may stand can be gone on with

-- the entry of a return in a beat
abbrev returning : ℕ → Entry
returning beat = record { stamp = record { beat = beat; reading = 0 }; what = what.Returned }

and_none : (b : Bool) → (b && false) ≡ false
and_none true = refl
and_none false = refl

as_it_is : (back : Option ℕ) (es : List Entry) → AtEach (MayFollow back) died_next false es → AtEach (MayFollow back) died_next false (es ++ [])
as_it_is back es h = subst (λ (xs : List Entry). AtEach (MayFollow back) died_next false xs) (sym (append-nil es)) h

go_on : (beats : ℕ) (back : Option ℕ) (es : List Entry) → AtEach (MayFollow back) died_next false es
    → (rest : List Entry) × AtEach (MayFollow back) died_next false (es ++ rest) × Closes beats back (fold died_next false (es ++ rest))
go_on beats None es h = ([], as_it_is None es h, and_none (fold died_next false (es ++ [])))
go_on beats (Some back) es h = by (fold died_next false es) refl
  where
    by : (b : Bool) → fold died_next false es ≡ b
        → (rest : List Entry) × AtEach (MayFollow (Some back)) died_next false (es ++ rest)
        × Closes beats (Some back) (fold died_next false (es ++ rest))
    by false e = (
      [],
      as_it_is (Some back) es h,
      ap (λ (d : Bool). d && is_some (death_within beats (Some back)))
          (ap (λ (xs : List Entry). fold died_next false xs) (append-nil es) ∙ e),
    )
    by true e = (
      returning back ∷ [],
      at_each_more (MayFollow (Some back)) died_next false es (returning back ∷ []) h
          (subst (λ (d : Bool). MayFollow (Some back) d (returning back)) (sym e) ((equal back back).1 refl), tt),
      ap (λ (d : Bool). d && is_some (death_within beats (Some back))) (fold-append died_next false es (returning back ∷ [])),
    )

pub return_goes : (beats : ℕ) (back : Option ℕ)
    → GoesToAnEnd (TellsReturn beats back) (MayFollow back) died_next false (Closes beats back)
return_goes beats back = record {
  law = law_of beats back;
  can = λ es h.
      let more = go_on beats back es h in
      (more.0, (law_of beats back (es ++ more.0)).1 (more.1, more.2));
}

-- ---- the end of a walk

both_hold : (a b : Bool) → (a && b) ≡ true → a ≡ true
both_hold true b h = refl
both_hold false b h = h

some_entry : (es : List Entry) → fold died_next false es ≡ true → 0 < length es
some_entry [] h = absurd (false≢true h)
some_entry (e ∷ es) h = omega arith

-- the last of some entries is a death if the return is missing
pub last_dies : (beats : ℕ) (back : Option ℕ) (es : List Entry) (i : ℕ) (died r : Bool) → length es ≤ i
    → died ≡ fold died_next false (take i es) → r ≡ (died && is_some (death_within beats back)) → r ≡ true → ends_dead es ≡ true
last_dies beats back es i died r over known is missing =
    ap (fold died_next false) (sym (take_all i es over))
    ∙ (sym known ∙ both_hold died (is_some (death_within beats back)) (sym is ∙ missing))

pub has_last : (beats : ℕ) (back : Option ℕ) (es : List Entry) (i : ℕ) (died r : Bool) → length es ≤ i
    → died ≡ fold died_next false (take i es) → r ≡ (died && is_some (death_within beats back)) → r ≡ true → 0 < length es
has_last beats back es i died r over known is missing = some_entry es (last_dies beats back es i died r over known is missing)

pub return_missing : (beats : ℕ) (back : Option ℕ) (es : List Entry) (i last : ℕ) (died r : Bool) → length es ≤ i
    → died ≡ fold died_next false (take i es) → AtEach (MayFollow back) died_next false (take i es)
    → r ≡ (died && is_some (death_within beats back)) → r ≡ true → length es ≡ last + 1 → IsUntoldAt beats back es last
return_missing beats back es i last died r over known right is missing count = inr (record {
  unfinished = unfinished_here (TellsReturn beats back) (MayFollow back) died_next false (Closes beats back) (return_goes beats back) es i over right
      (λ closes. false≢true (sym closes
      ∙ (ap (λ (d : Bool). d && is_some (death_within beats back)) (sym known) ∙ (sym is ∙ missing))));
  last = count;
  dies = last_dies beats back es i died r over known is missing;
})

pub return_told : (beats : ℕ) (back : Option ℕ) (es : List Entry) (i : ℕ) (died r : Bool) → length es ≤ i
    → died ≡ fold died_next false (take i es) → AtEach (MayFollow back) died_next false (take i es)
    → r ≡ (died && is_some (death_within beats back)) → r ≡ false → TellsReturn beats back es
return_told beats back es i died r over known right is told =
    done_here (TellsReturn beats back) (MayFollow back) died_next false (Closes beats back) (return_goes beats back) es i over right
    (ap (λ (d : Bool). d && is_some (death_within beats back)) (sym known) ∙ (sym is ∙ told))

-- ---- all journals

pub untold_found : (c : Course) (journals : List (List Entry)) (n : ℕ) (journal : List Entry) (i : ℕ) → n < length journals
    → journal ≡ get_or journals n journal → TellReturnsBelow c n journals → IsUntoldAt c.beats (back_of c n) journal i
    → IsFirstUntold c journals n i
untold_found c journals n journal i low is lower untold =
    record { lower = lower; journal = journal; here = journal_there journals n journal low is; untold = untold }
