-- Failures are judged by the asks that met a fault before them.
use Rattle.std.proofs.Common.{◌≡◌, ℕ, ◌+◌, Bool, true, false, ◌&&◌, ◌||◌, IsTrue, nat_le, nat_lt, cond, List, [], ◌∷◌, ◌++◌, refl, sym, ap, subst, ◌∙◌, ⊎_elim}
use Rattle.std.specs.Prelude.{◌==◌, ◌↔◌}
use Rattle.std.specs.List.{list_any}
use Rattle.std.proofs.lemmas.Bool.{eqb-true, eq-eqb, false≢true, both_ways}
use Rattle.tiger_base.specs.declared.number.LinkNo.{LinkNo}
use Rattle.tiger_base.specs.declared.message.Note.{Note}
use Rattle.tiger_base.specs.declared.message.Note.TheVariants as note
use Rattle.tiger_base.specs.Records.{same_want}
use Rattle.tiger_base.specs.declared.tenancy.Want.{Want}
use Rattle.slot_plan.specs.declared.params.Params.{Params}
use Rattle.node_kit.specs.declared.course.ReadFault.{ReadFault}
use Rattle.node_kit.specs.declared.journal.What.{What}
use Rattle.node_kit.specs.declared.journal.What.TheVariants as what
use Rattle.run_facts.specs.Order.{Noted, beat_of}
use Rattle.run_model.specs.Fronts.{AnyByRecursion}
use Rattle.run_model.specs.Moments.{Moment, next_moment, opening}
use Rattle.run_model.proofs.Deliveries.{want_same}
use Rattle.run_model.proofs.Reflects.{and_both, and_left, and_right, or_either, or_first, or_second, any, at_most, less}
use Rattle.run_claims.specs.Truths.{FailuresAreTrue, IsTrueFailure, FailsIn, GetsAsk, Lasts, disk_with}
use Rattle.audit_frame.specs.Wanted.{WantNumbers, has_want}
use Rattle.audit_frame.proofs.Added.{any_before, any_end, any_more, or_false}
use Rattle.audit_frame.proofs.Deciding.{GoesBySteps}
use Rattle.audit_schedule.specs.Failures.{TellsAsks, lasts_at, meets_fault, asks_in_fault, note_in_fault, got_in_fault}

pub failures_go_by_steps : (p : Params) (faults : List ReadFault)
    → GoesBySteps (FailuresAreTrue p faults) (λ m x. IsTrueFailure p faults m x.entry.what) next_moment opening
failures_go_by_steps p faults log = ((λ h. h), (λ h. h))

-- ---- an entry is judged

pub failure_judged : (p : Params) (faults : List ReadFault) (wants : WantNumbers) (m : Moment) (w : What) (want : Want) (r : Bool)
    → w ≡ what.ReadFailed want → r ≡ has_want want wants → TellsAsks p faults wants m → IsTrue r ↔ IsTrueFailure p faults m w
failure_judged p faults wants m w want r is e h =
    subst (λ (v : What). IsTrue r ↔ IsTrueFailure p faults m v) (sym is)
    (subst (λ (b : Bool). IsTrue b ↔ IsTrueFailure p faults m (what.ReadFailed want)) (sym e) (h want))

pub other_judged : (p : Params) (faults : List ReadFault) (m : Moment) (w : What) → ((want : Want) → w ≡ what.ReadFailed want → ⊥)
    → IsTrue true ↔ IsTrueFailure p faults m w
other_judged p faults m (what.ReadFailed want) n = absurd (n want refl)
other_judged p faults m other n = ((λ h. tt), (λ h. refl))

pub no_asks : (p : Params) (faults : List ReadFault) (wants : WantNumbers) → wants ≡ [] → TellsAsks p faults wants opening
no_asks p faults wants e w =
    subst (λ (rows : WantNumbers). IsTrue (has_want w rows) ↔ ⊥) (sym e) ((λ h. false≢true h), (λ h. absurd h))

-- ---- one want

one_want : (a b : Want) → IsTrue (same_want a b) → a ≡ b
one_want a b h = (want_same a b).0 h

want_itself : (a : Want) → IsTrue (same_want a a)
want_itself a = (want_same a a).1 refl

-- ---- an entry that meets a fault

lasts : (disk beat : ℕ) (f : ReadFault) → IsTrue (lasts_at disk beat f) ↔ Lasts disk beat f
lasts disk beat f = (
  (λ h.
      let rest = and_right (f.disk.0 == disk) ((nat_le f.from beat) && (nat_lt beat f.until)) h in (
        eqb-true f.disk.0 disk (and_left (f.disk.0 == disk) ((nat_le f.from beat) && (nat_lt beat f.until)) h),
        (at_most f.from beat).0 (and_left (nat_le f.from beat) (nat_lt beat f.until) rest),
        (less beat f.until).0 (and_right (nat_le f.from beat) (nat_lt beat f.until) rest),
      )),
  (λ h. and_both (f.disk.0 == disk) ((nat_le f.from beat) && (nat_lt beat f.until)) (eq-eqb f.disk.0 disk h.0)
      (and_both (nat_le f.from beat) (nat_lt beat f.until) ((at_most f.from beat).1 h.1) ((less beat f.until).1 h.2))),
)

some_last : (disk beat : ℕ) (faults : List ReadFault) → IsTrue (list_any (lasts_at disk beat) faults) ↔ AnyByRecursion (Lasts disk beat) faults
some_last disk beat faults = any (Lasts disk beat) (lasts_at disk beat) (lasts disk beat) faults

-- what meets a fault is the want's, at its disk
met : (p : Params) (faults : List ReadFault) (n beat : ℕ) (kind : What) (w : Want) → IsTrue (got_in_fault p faults n beat kind w)
    → (n ≡ p.cubs + disk_with p w) × (GetsAsk w kind × AnyByRecursion (Lasts (disk_with p w) beat) faults)
met p faults n beat (what.Got link (note.ReadAsk asked)) w h =
    let same = one_want asked w (and_left (same_want asked w) (meets_fault p faults n beat asked) h) in
    let meets : IsTrue (meets_fault p faults n beat w) =
    subst (λ (a : Want). IsTrue (meets_fault p faults n beat a)) same (and_right (same_want asked w) (meets_fault p faults n beat asked) h) in (
      eqb-true n (p.cubs + disk_with p w) (and_left (n == p.cubs + disk_with p w) (list_any (lasts_at (disk_with p w) beat) faults) meets),
      (same, (some_last (disk_with p w) beat faults).0 (and_right (n == p.cubs + disk_with p w) (list_any (lasts_at (disk_with p w) beat) faults) meets)),
    )
met p faults n beat other w h = absurd (false≢true h)

meets : (p : Params) (faults : List ReadFault) (n beat : ℕ) (kind : What) (w : Want) → n ≡ p.cubs + disk_with p w → GetsAsk w kind
    → AnyByRecursion (Lasts (disk_with p w) beat) faults → IsTrue (got_in_fault p faults n beat kind w)
meets p faults n beat (what.Got link (note.ReadAsk asked)) w at asks all =
    subst (λ (a : Want). IsTrue (asks_in_fault p faults n beat a w)) (sym asks)
    (and_both (same_want w w) (meets_fault p faults n beat w) (want_itself w)
    (and_both (n == p.cubs + disk_with p w) (list_any (lasts_at (disk_with p w) beat) faults) (eq-eqb n (p.cubs + disk_with p w) at)
    ((some_last (disk_with p w) beat faults).1 all)))
meets p faults n beat other w at asks all = absurd asks

-- ---- one entry more

pub got_tells : (p : Params) (faults : List ReadFault) (old new : WantNumbers) (m : Moment) (x : Noted)
    → ((w : Want) → has_want w new ≡ (has_want w old || got_in_fault p faults x.node (beat_of x) x.entry.what w))
    → TellsAsks p faults old m → TellsAsks p faults new (next_moment m x)
unfolding next_moment
got_tells p faults old new m x added h w =
    subst (λ (b : Bool). IsTrue b ↔ AnyByRecursion (FailsIn faults (disk_with p w) w)
    (cond (x.node == p.cubs + disk_with p w) (m.journal (p.cubs + disk_with p w) ++ x.entry ∷ []) (m.journal (p.cubs + disk_with p w))))
    (sym (added w)) (go (x.node == p.cubs + disk_with p w) refl) where
      go : (b : Bool) → (x.node == p.cubs + disk_with p w) ≡ b
          → IsTrue (has_want w old || got_in_fault p faults x.node (beat_of x) x.entry.what w)
          ↔ AnyByRecursion (FailsIn faults (disk_with p w) w)
          (cond b (m.journal (p.cubs + disk_with p w) ++ x.entry ∷ []) (m.journal (p.cubs + disk_with p w)))
      go true e = (
        (λ t. ⊎_elim
            (λ a. any_before (FailsIn faults (disk_with p w) w) (m.journal (p.cubs + disk_with p w)) (x.entry ∷ []) ((h w).0 a))
            (λ a. any_end (FailsIn faults (disk_with p w) w) (m.journal (p.cubs + disk_with p w)) x.entry
            (met p faults x.node (beat_of x) x.entry.what w a).1)
            (or_either (has_want w old) (got_in_fault p faults x.node (beat_of x) x.entry.what w) t)),
        (λ t. ⊎_elim
            (λ a. or_first (has_want w old) (got_in_fault p faults x.node (beat_of x) x.entry.what w) ((h w).1 a))
            (λ a. or_second (has_want w old) (got_in_fault p faults x.node (beat_of x) x.entry.what w)
            (meets p faults x.node (beat_of x) x.entry.what w (eqb-true x.node (p.cubs + disk_with p w) e) a.0 a.1))
            (any_more (FailsIn faults (disk_with p w) w) (m.journal (p.cubs + disk_with p w)) x.entry t)),
      )
      go false e = (
        (λ t. ⊎_elim
            (λ a. (h w).0 a)
            (λ a. absurd (both_ways (x.node == p.cubs + disk_with p w) e
            (eq-eqb x.node (p.cubs + disk_with p w) (met p faults x.node (beat_of x) x.entry.what w a).0)))
            (or_either (has_want w old) (got_in_fault p faults x.node (beat_of x) x.entry.what w) t)),
        (λ t. or_first (has_want w old) (got_in_fault p faults x.node (beat_of x) x.entry.what w) ((h w).1 t)),
      )

not_got : (p : Params) (faults : List ReadFault) (n beat : ℕ) (w : What) (want : Want) → ((link : LinkNo) (k : Note) → w ≡ what.Got link k → ⊥)
    → got_in_fault p faults n beat w want ≡ false
not_got p faults n beat (what.Got link k) want h = absurd (h link k refl)
not_got p faults n beat other want h = refl

pub other_got : (p : Params) (faults : List ReadFault) (old : WantNumbers) (m : Moment) (x : Noted)
    → ((link : LinkNo) (k : Note) → x.entry.what ≡ what.Got link k → ⊥) → TellsAsks p faults old m → TellsAsks p faults old (next_moment m x)
other_got p faults old m x not h = got_tells p faults old old m x
    (λ w. sym (ap (λ (b : Bool). has_want w old || b) (not_got p faults x.node (beat_of x) x.entry.what w not) ∙ or_false (has_want w old))) h

pub note_got : (p : Params) (faults : List ReadFault) (old new : WantNumbers) (m : Moment) (x : Noted) (link : LinkNo) (k : Note)
    → x.entry.what ≡ what.Got link k
    → ((w : Want) → has_want w new ≡ (has_want w old || note_in_fault p faults x.node (beat_of x) k w))
    → TellsAsks p faults old m → TellsAsks p faults new (next_moment m x)
note_got p faults old new m x link k is added h = got_tells p faults old new m x
    (λ w. added w ∙ ap (λ (v : What). has_want w old || got_in_fault p faults x.node (beat_of x) v w) (sym is)) h

-- ---- and one note

not_ask : (p : Params) (faults : List ReadFault) (n beat : ℕ) (k : Note) (w : Want) → ((asked : Want) → k ≡ note.ReadAsk asked → ⊥)
    → note_in_fault p faults n beat k w ≡ false
not_ask p faults n beat (note.ReadAsk asked) w h = absurd (h asked refl)
not_ask p faults n beat other w h = refl

pub other_note : (p : Params) (faults : List ReadFault) (n beat : ℕ) (k : Note) (old : WantNumbers) (w : Want)
    → ((asked : Want) → k ≡ note.ReadAsk asked → ⊥) → has_want w old ≡ (has_want w old || note_in_fault p faults n beat k w)
other_note p faults n beat k old w not =
    sym (ap (λ (b : Bool). has_want w old || b) (not_ask p faults n beat k w not) ∙ or_false (has_want w old))

pub ask_note : (p : Params) (faults : List ReadFault) (n beat : ℕ) (k : Note) (asked : Want) (old new : WantNumbers) (w : Want)
    → k ≡ note.ReadAsk asked → has_want w new ≡ (has_want w old || asks_in_fault p faults n beat asked w)
    → has_want w new ≡ (has_want w old || note_in_fault p faults n beat k w)
ask_note p faults n beat k asked old new w is added =
    added ∙ ap (λ (v : Note). has_want w old || note_in_fault p faults n beat v w) (sym is)

-- ---- and one ask

and_given : (a b : Bool) → b ≡ true → (a && b) ≡ a
and_given true b e = e
and_given false b e = refl

and_refused : (a b : Bool) → b ≡ false → (a && b) ≡ false
and_refused true b e = e
and_refused false b e = refl

pub ask_taken : (p : Params) (faults : List ReadFault) (n beat : ℕ) (asked : Want) (old new : WantNumbers) (w : Want) (r : Bool)
    → r ≡ meets_fault p faults n beat asked → r ≡ true → has_want w new ≡ (has_want w old || same_want asked w)
    → has_want w new ≡ (has_want w old || asks_in_fault p faults n beat asked w)
ask_taken p faults n beat asked old new w r e t added =
    added ∙ ap (λ (b : Bool). has_want w old || b) (sym (and_given (same_want asked w) (meets_fault p faults n beat asked) (sym e ∙ t)))

pub ask_left : (p : Params) (faults : List ReadFault) (n beat : ℕ) (asked : Want) (old : WantNumbers) (w : Want) (r : Bool)
    → r ≡ meets_fault p faults n beat asked → r ≡ false → has_want w old ≡ (has_want w old || asks_in_fault p faults n beat asked w)
ask_left p faults n beat asked old w r e t =
    sym (ap (λ (b : Bool). has_want w old || b) (and_refused (same_want asked w) (meets_fault p faults n beat asked) (sym e ∙ t))
    ∙ or_false (has_want w old))
