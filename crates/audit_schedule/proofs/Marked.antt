-- What one turn of the walk over the order of visits knows and keeps.
use Rattle.std.proofs.Common.{◌≡◌, ℕ, ◌≤◌, Bool, true, false, not, ◌||◌, ◌&&◌, IsTrue, cond, List, [], ◌++◌, Option, Some, None, refl, sym, ap, subst, ◌∙◌}
use Rattle.std.specs.Prelude.{◌==◌, ◌↔◌}
use Rattle.std.specs.List.{AllByRecursion}
use Rattle.std.proofs.lemmas.Bool.{eqb-true}
use Rattle.tiger_base.specs.declared.number.LinkNo.{LinkNo}
use Rattle.tiger_base.specs.declared.message.Note.{Note}
use Rattle.tiger_base.specs.declared.message.Note.TheVariants as note
use Rattle.tiger_base.specs.declared.part.Span.{Span}
use Rattle.tiger_base.specs.declared.tenancy.Want.{Want}
use Rattle.slot_plan.specs.declared.params.Params.{Params}
use Rattle.node_kit.specs.declared.journal.What.{What}
use Rattle.node_kit.specs.declared.journal.What.TheVariants as what
use Rattle.node_kit.specs.Links.{links_of, viewers_of}
use Rattle.run_facts.specs.Events.{Dated}
use Rattle.run_facts.specs.Order.{Noted, beat_of}
use Rattle.run_model.proofs.Reflects.{and_both, and_left, and_right}
use Rattle.run_claims.specs.Deliveries.{carried_by, sent_by, got_by, sent_in, got_in}
use Rattle.run_claims.specs.Turns.{IsGotBefore}
use Rattle.audit_frame.specs.Tables.{MarkNumbers, mark_under}
use Rattle.audit_schedule.specs.Turns.{IsInTurnHere, IsLatestVisit, IsLastGot, TellsTurns, sent_here, got_here, with_entry, dated_if, is_beat, is_low, is_latest, later_of, lowest_of, latest_with, last_with, lowest_with}
use Rattle.audit_schedule.proofs.Serving.{leave_judged, come_judged, latest_more, got_more_marked}
use Rattle.audit_schedule.proofs.Timing.{sent_early, got_early}
use Rattle.audit_schedule.proofs.Turning.{got_more, sent_more}

-- ---- an entry is judged

pub turn_judged : (p : Params) (front : List Noted) (x : Noted) (l c r : Bool) → r ≡ (l && c)
    → IsTrue l ↔ AllByRecursion (λ s. AllByRecursion (λ g. IsGotBefore g s) (got_in p front)) (sent_here x)
    → IsTrue c ↔ AllByRecursion (λ g. AllByRecursion (IsGotBefore g) (sent_in front)) (got_here p x)
    → IsTrue r ↔ IsInTurnHere p front x
turn_judged p front x l c r is a b = (
  (λ t.
      let both : IsTrue (l && c) = sym is ∙ t in
      record { sent = a.0 (and_left l c both); got = b.0 (and_right l c both) }),
  (λ h. is ∙ and_both l c (a.1 h.sent) (b.1 h.got)),
)

pub leaves : (p : Params) (front : List Noted) (b : ℕ) (w : Want) (ts : List (Dated Want)) (o : Option Want) (latest last lowest : MarkNumbers) (r : Bool)
    → ts ≡ dated_if b o → o ≡ Some w
    → r ≡ (not (is_beat (mark_under w.instance.0 last) b) || is_low (mark_under w.instance.0 lowest) w.visit)
    → AllByRecursion (λ y. beat_of y ≤ b) front → TellsTurns p latest last lowest front
    → IsTrue r ↔ AllByRecursion (λ s. AllByRecursion (λ g. IsGotBefore g s) (got_in p front)) ts
leaves p front b w ts o latest last lowest r is some e early h =
    let judged = leave_judged w b (got_in p front) (mark_under w.instance.0 last) (mark_under w.instance.0 lowest) (got_early p b front early)
    (h.got w.instance.0) in
    subst (λ (q : List (Dated Want)). IsTrue r ↔ AllByRecursion (λ s. AllByRecursion (λ g. IsGotBefore g s) (got_in p front)) q)
    (sym (is ∙ ap (dated_if b) some))
    ((λ t. (judged.0 (sym e ∙ t), tt)), (λ all. e ∙ judged.1 all.0))

pub leaves_nothing : (p : Params) (front : List Noted) (b : ℕ) (ts : List (Dated Want)) (o : Option Want) → ts ≡ dated_if b o → o ≡ None
    → IsTrue true ↔ AllByRecursion (λ s. AllByRecursion (λ g. IsGotBefore g s) (got_in p front)) ts
leaves_nothing p front b ts o is none =
    subst (λ (q : List (Dated Want)). IsTrue true ↔ AllByRecursion (λ s. AllByRecursion (λ g. IsGotBefore g s) (got_in p front)) q)
    (sym (is ∙ ap (dated_if b) none)) ((λ t. tt), (λ all. refl))

pub comes : (p : Params) (front : List Noted) (b : ℕ) (w : Want) (ts : List (Dated Want)) (o : Option Want) (latest last lowest : MarkNumbers) (r : Bool)
    → ts ≡ dated_if b o → o ≡ Some w → r ≡ is_latest (mark_under w.instance.0 latest) w.visit
    → AllByRecursion (λ y. beat_of y ≤ b) front → TellsTurns p latest last lowest front
    → IsTrue r ↔ AllByRecursion (λ g. AllByRecursion (IsGotBefore g) (sent_in front)) ts
comes p front b w ts o latest last lowest r is some e early h =
    let judged = come_judged w b (sent_in front) (mark_under w.instance.0 latest) (sent_early b front early) (h.sent w.instance.0) in
    subst (λ (q : List (Dated Want)). IsTrue r ↔ AllByRecursion (λ g. AllByRecursion (IsGotBefore g) (sent_in front)) q)
    (sym (is ∙ ap (dated_if b) some))
    ((λ t. (judged.0 (sym e ∙ t), tt)), (λ all. e ∙ judged.1 all.0))

pub comes_nothing : (p : Params) (front : List Noted) (b : ℕ) (ts : List (Dated Want)) (o : Option Want) → ts ≡ dated_if b o → o ≡ None
    → IsTrue true ↔ AllByRecursion (λ g. AllByRecursion (IsGotBefore g) (sent_in front)) ts
comes_nothing p front b ts o is none =
    subst (λ (q : List (Dated Want)). IsTrue true ↔ AllByRecursion (λ g. AllByRecursion (IsGotBefore g) (sent_in front)) q)
    (sym (is ∙ ap (dated_if b) none)) ((λ t. tt), (λ all. refl))

-- ---- the marks after it

pub sent_marked : (b v : ℕ) (ts : List (Dated Want)) (o : Option Want) (w : Want) (old : MarkNumbers) (new : Option ℕ) → ts ≡ dated_if b o → o ≡ Some w
    → new ≡ cond (w.instance.0 == v) (Some (later_of (mark_under w.instance.0 old) w.visit)) (mark_under v old)
    → new ≡ latest_with (mark_under v old) v ts
sent_marked b v ts o w old new is some e =
    e ∙ go (w.instance.0 == v) refl ∙ sym (ap (latest_with (mark_under v old) v) (is ∙ ap (dated_if b) some)) where
      go : (t : Bool) → (w.instance.0 == v) ≡ t
          → cond t (Some (later_of (mark_under w.instance.0 old) w.visit)) (mark_under v old)
          ≡ cond t (Some (later_of (mark_under v old) w.visit)) (mark_under v old)
      go true e = ap (λ (k : ℕ). Some (later_of (mark_under k old) w.visit)) (eqb-true w.instance.0 v e)
      go false e = refl

pub none_sent : (b v : ℕ) (ts : List (Dated Want)) (o : Option Want) (old : Option ℕ) → ts ≡ dated_if b o → o ≡ None
    → old ≡ latest_with old v ts
none_sent b v ts o old is none = sym (ap (latest_with old v) (is ∙ ap (dated_if b) none))

pub last_marked : (b v : ℕ) (ts : List (Dated Want)) (o : Option Want) (w : Want) (old new : Option ℕ) → ts ≡ dated_if b o → o ≡ Some w
    → new ≡ cond (w.instance.0 == v) (Some b) old → new ≡ last_with old v ts
last_marked b v ts o w old new is some e = e ∙ sym (ap (last_with old v) (is ∙ ap (dated_if b) some))

pub none_last : (b v : ℕ) (ts : List (Dated Want)) (o : Option Want) (old : Option ℕ) → ts ≡ dated_if b o → o ≡ None → old ≡ last_with old v ts
none_last b v ts o old is none = sym (ap (last_with old v) (is ∙ ap (dated_if b) none))

pub lowest_marked : (b v : ℕ) (ts : List (Dated Want)) (o : Option Want) (w : Want) (last old : MarkNumbers) (new : Option ℕ) → ts ≡ dated_if b o
    → o ≡ Some w
    → new ≡ cond (w.instance.0 == v)
    (Some (lowest_of (is_beat (mark_under w.instance.0 last) b) (mark_under w.instance.0 old) w.visit)) (mark_under v old)
    → new ≡ lowest_with (mark_under v last) (mark_under v old) v ts
lowest_marked b v ts o w last old new is some e =
    e ∙ go (w.instance.0 == v) refl ∙ sym (ap (lowest_with (mark_under v last) (mark_under v old) v) (is ∙ ap (dated_if b) some)) where
      go : (t : Bool) → (w.instance.0 == v) ≡ t
          → cond t (Some (lowest_of (is_beat (mark_under w.instance.0 last) b) (mark_under w.instance.0 old) w.visit)) (mark_under v old)
          ≡ cond t (Some (lowest_of (is_beat (mark_under v last) b) (mark_under v old) w.visit)) (mark_under v old)
      go true e = ap (λ (k : ℕ). Some (lowest_of (is_beat (mark_under k last) b) (mark_under k old) w.visit)) (eqb-true w.instance.0 v e)
      go false e = refl

pub none_lowest : (b v : ℕ) (ts : List (Dated Want)) (o : Option Want) (last old : Option ℕ) → ts ≡ dated_if b o → o ≡ None
    → old ≡ lowest_with last old v ts
none_lowest b v ts o last old is none = sym (ap (lowest_with last old v) (is ∙ ap (dated_if b) none))

-- ---- what an entry carries is one thing at most

carried_one : (b : ℕ) (n : Note) → (r : Option Want) × (carried_by b n ≡ dated_if b r)
carried_one b (note.Whole want sent part) = (Some want, refl)
carried_one b (note.Piece want sent part) = (Some want, refl)
carried_one b other = (None, refl)

sent_one : (b : ℕ) (w : What) → (r : Option Want) × (sent_by b w ≡ dated_if b r)
sent_one b (what.Sent link n) = carried_one b n
sent_one b other = (None, refl)

got_one : (t : Bool) (b : ℕ) (w : What) → (r : Option Want) × (cond t (got_by b w) [] ≡ dated_if b r)
got_one true b (what.Got link n) = carried_one b n
got_one true b other = (None, refl)
got_one false b w = (None, refl)

-- ---- the tables after it

pub turns_taken : (p : Params) (front : List Noted) (x : Noted) (l0 l1 l2 a0 a1 a2 b0 b1 b2 : MarkNumbers)
    → ((v : ℕ) → mark_under v l1 ≡ latest_with (mark_under v l0) v (sent_here x)) → l2 ≡ l1
    → ((v : ℕ) → mark_under v a2 ≡ last_with (mark_under v a1) v (got_here p x)) → a1 ≡ a0
    → ((v : ℕ) → mark_under v b2 ≡ lowest_with (mark_under v a1) (mark_under v b1) v (got_here p x)) → b1 ≡ b0
    → AllByRecursion (λ y. beat_of y ≤ beat_of x) front → TellsTurns p l0 a0 b0 front → TellsTurns p l2 a2 b2 (with_entry front x)
turns_taken p front x l0 l1 l2 a0 a1 a2 b0 b1 b2 sent stays got last lowest low early h =
    let s = sent_one (beat_of x) x.entry.what in
    let g = got_one (x.node == viewers_of (links_of p)) (beat_of x) x.entry.what in
    record {
      sent = λ v.
          subst (λ (ss : List (Dated Want)). IsLatestVisit v ss (mark_under v l2)) (sym (sent_more front x))
          (subst (λ (o : Option ℕ). IsLatestVisit v (sent_in front ++ sent_here x) o)
          (sym (ap (mark_under v) stays ∙ sent v))
          (subst (λ (ts : List (Dated Want)). IsLatestVisit v (sent_in front ++ ts) (latest_with (mark_under v l0) v ts)) (sym s.1)
          (latest_more v (beat_of x) s.0 (sent_in front) (mark_under v l0) (h.sent v))));
      got = λ v.
          let before : IsLastGot v (got_in p front) (mark_under v a1) (mark_under v b1) =
          subst (λ (rows : MarkNumbers). IsLastGot v (got_in p front) (mark_under v a1) (mark_under v rows)) (sym low)
          (subst (λ (rows : MarkNumbers). IsLastGot v (got_in p front) (mark_under v rows) (mark_under v b0)) (sym last) (h.got v)) in
          subst (λ (gs : List (Dated Want)). IsLastGot v gs (mark_under v a2) (mark_under v b2)) (sym (got_more p front x))
          (subst (λ (o : Option ℕ). IsLastGot v (got_in p front ++ got_here p x) o (mark_under v b2)) (sym (got v))
          (subst (λ (o : Option ℕ). IsLastGot v (got_in p front ++ got_here p x) (last_with (mark_under v a1) v (got_here p x)) o) (sym (lowest v))
          (subst (λ (ts : List (Dated Want)). IsLastGot v (got_in p front ++ ts) (last_with (mark_under v a1) v ts)
          (lowest_with (mark_under v a1) (mark_under v b1) v ts)) (sym g.1)
          (got_more_marked v (beat_of x) g.0 (got_in p front) (mark_under v a1) (mark_under v b1) (got_early p (beat_of x) front early) before))));
    }

pub no_turns : (p : Params) (latest last lowest : MarkNumbers) → latest ≡ [] → last ≡ [] → lowest ≡ [] → TellsTurns p latest last lowest []
no_turns p latest last lowest a b c = rw (a, b, c) (record { sent = λ v. tt; got = λ v. tt })

-- ---- what an entry carries

pub not_carried : (b : ℕ) (n : Note) → ((want : Want) (sent : ℕ) (part : Span) → n ≡ note.Whole want sent part → ⊥)
    → ((want : Want) (sent : ℕ) (part : Span) → n ≡ note.Piece want sent part → ⊥) → carried_by b n ≡ []
not_carried b (note.Whole want sent part) a c = absurd (a want sent part refl)
not_carried b (note.Piece want sent part) a c = absurd (c want sent part refl)
not_carried b other a c = refl

pub is_sent : (b : ℕ) (w : What) (link : LinkNo) (n : Note) (r : Option Want) → w ≡ what.Sent link n → ((c : ℕ) → carried_by c n ≡ dated_if c r)
    → sent_by b w ≡ dated_if b r
is_sent b w link n r is e = ap (sent_by b) is ∙ e b

pub not_sent : (b : ℕ) (w : What) → ((link : LinkNo) (n : Note) → w ≡ what.Sent link n → ⊥) → sent_by b w ≡ []
not_sent b (what.Sent link n) h = absurd (h link n refl)
not_sent b other h = refl

pub is_got : (b : ℕ) (w : What) (link : LinkNo) (n : Note) (r : Option Want) → w ≡ what.Got link n → ((c : ℕ) → carried_by c n ≡ dated_if c r)
    → got_by b w ≡ dated_if b r
is_got b w link n r is e = ap (got_by b) is ∙ e b

pub not_got_by : (b : ℕ) (w : What) → ((link : LinkNo) (n : Note) → w ≡ what.Got link n → ⊥) → got_by b w ≡ []
not_got_by b (what.Got link n) h = absurd (h link n refl)
not_got_by b other h = refl

pub got_if : (b n k m : ℕ) (gs : List (Dated Want)) (o r : Option Want) → k ≡ m → r ≡ cond (n == k) o None → gs ≡ dated_if b o
    → cond (n == m) gs [] ≡ dated_if b r
got_if b n k m gs o r same e is =
    ap (λ (q : ℕ). cond (n == q) gs []) (sym same) ∙ go (n == k) e where
      go : (t : Bool) → r ≡ cond t o None → cond t gs [] ≡ dated_if b r
      go true f = is ∙ ap (dated_if b) (sym f)
      go false f = ap (dated_if b) (sym f)
