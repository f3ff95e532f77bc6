-- What the tables tell after one entry more.
use Rattle.std.proofs.Common.{◌≡◌, ℕ, Bool, true, false, ◌&&◌, ◌||◌, cond, List, [], ◌∷◌, ◌++◌, append-nil, Option, Some, None, refl, sym, ap, subst, ◌∙◌}
use Rattle.std.specs.Prelude.{◌==◌}
use Rattle.std.specs.List.{AllByRecursion}
use Rattle.std.proofs.lemmas.Bool.{eqb-true, eq-eqb, both_ways}
use Rattle.std.proofs.lemmas.List.Folds.{list_any-append}
use Rattle.tiger_base.specs.Records.{same_want}
use Rattle.tiger_base.specs.declared.number.Instance.{Instance}
use Rattle.tiger_base.specs.declared.number.LinkNo.{LinkNo}
use Rattle.tiger_base.specs.declared.message.Note.{Note}
use Rattle.tiger_base.specs.declared.message.Note.TheVariants as note
use Rattle.tiger_base.specs.declared.part.Span.{Span}
use Rattle.tiger_base.specs.declared.tenancy.Want.{Want}
use Rattle.slot_plan.specs.declared.params.Params.{Params}
use Rattle.node_kit.specs.declared.journal.What.{What}
use Rattle.node_kit.specs.declared.journal.What.TheVariants as what
use Rattle.run_facts.specs.Events.{Dated}
use Rattle.run_facts.specs.Order.{Noted, beat_of}
use Rattle.run_facts.specs.Timed.{is_died}
use Rattle.run_facts.proofs.Rows.{all-append, all-weaker}
use Rattle.run_model.specs.Moments.{Moment, moment_of, opening, next_moment}
use Rattle.run_model.proofs.Reflects.{and_both, and_left, and_right}
use Rattle.run_claims.specs.Deliveries.{sent_by, sent_in}
use Rattle.run_claims.specs.Visits.{AreOfOne, asks_same}
use Rattle.audit_frame.specs.Tables.{has_number}
use Rattle.audit_frame.specs.Wanted.{WantNumbers, has_want}
use Rattle.audit_frame.proofs.Added.{any_before, any_end, or_false, or_none}
use Rattle.audit_frame.proofs.Deciding.{state_more}
use Rattle.audit_visits.specs.Instances.{InstanceRows, instance_under}
use Rattle.audit_visits.specs.Once.{IsOnceBehind, IsAtVisit, IsInstanceAt, TellsServed, has_asked, front_with, read_of}
use Rattle.audit_visits.proofs.Judging.{dated, same_slot}
use Rattle.audit_visits.proofs.Stepping.{sent_more}

pub nothing_served : (rows : InstanceRows) (asked : WantNumbers) (dead : List ℕ) → rows ≡ [] → asked ≡ [] → dead ≡ []
    → TellsServed rows asked dead []
nothing_served rows asked dead a b c = rw (a, b, c) (record {
  instance = λ slot visit. tt;
  ask = λ want. refl;
  death = λ n. refl;
})

-- ---- what an entry leaves alone

-- it sends nothing
sends_nothing : (front : List Noted) (x : Noted) → sent_by (beat_of x) x.entry.what ≡ [] → sent_in (front_with front x) ≡ sent_in front
sends_nothing front x none =
    sent_more front x ∙ ap (λ (q : List (Dated Want)). sent_in front ++ q) none ∙ append-nil (sent_in front)

instance_stays : (rows : InstanceRows) (front : List Noted) (x : Noted) → sent_by (beat_of x) x.entry.what ≡ []
    → ((slot visit : ℕ) → IsInstanceAt slot visit (sent_in front) (instance_under slot visit rows))
    → (slot visit : ℕ) → IsInstanceAt slot visit (sent_in (front_with front x)) (instance_under slot visit rows)
instance_stays rows front x none h slot visit =
    subst (λ (q : List (Dated Want)). IsInstanceAt slot visit q (instance_under slot visit rows)) (sym (sends_nothing front x none)) (h slot visit)

-- it asks no disk
asked_more : (want : Want) (front : List Noted) (x : Noted) → has_asked want (front_with front x) ≡ (has_asked want front || asks_same want x.entry.what)
asked_more want front x =
    list_any-append (λ y. asks_same want y.entry.what) front (x ∷ [])
    ∙ ap (λ (b : Bool). has_asked want front || b) (or_false (asks_same want x.entry.what))

ask_stays : (asked : WantNumbers) (front : List Noted) (x : Noted) → ((want : Want) → asks_same want x.entry.what ≡ false)
    → ((want : Want) → has_want (read_of want) asked ≡ has_asked want front)
    → (want : Want) → has_want (read_of want) asked ≡ has_asked want (front_with front x)
ask_stays asked front x not h want =
    h want ∙ sym (asked_more want front x ∙ ap (λ (b : Bool). has_asked want front || b) (not want) ∙ or_false (has_asked want front))

-- nobody dies in it
dead_more : (n : ℕ) (front : List Noted) (x : Noted)
    → (moment_of (front_with front x)).dead n ≡ ((moment_of front).dead n || ((x.node == n) && is_died x.entry.what))
unfolding next_moment
dead_more n front x = ap (λ (m : Moment). m.dead n) (state_more next_moment opening front x)

death_stays : (dead : List ℕ) (front : List Noted) (x : Noted) → is_died x.entry.what ≡ false
    → ((n : ℕ) → (moment_of front).dead n ≡ has_number n dead)
    → (n : ℕ) → (moment_of (front_with front x)).dead n ≡ has_number n dead
death_stays dead front x not h n =
    dead_more n front x ∙ ap (λ (b : Bool). (moment_of front).dead n || ((x.node == n) && b)) not
    ∙ or_none ((moment_of front).dead n) (x.node == n) ∙ h n

-- ---- something is sent

is_at : (want : Want) (slot visit : ℕ) (b : Bool) → ((want.slot.0 == slot) && (want.visit == visit)) ≡ b → b ≡ true
    → (want.slot.0 ≡ slot) × (want.visit ≡ visit)
is_at want slot visit b is holds =
    let both = is ∙ holds in (
      eqb-true want.slot.0 slot (and_left (want.slot.0 == slot) (want.visit == visit) both),
      eqb-true want.visit visit (and_right (want.slot.0 == slot) (want.visit == visit) both),
    )

not_at : (want : Want) (slot visit : ℕ) → ((want.slot.0 == slot) && (want.visit == visit)) ≡ false
    → (want.slot.0 ≡ slot) × (want.visit ≡ visit) → ⊥
not_at want slot visit not h =
    both_ways ((want.slot.0 == slot) && (want.visit == visit)) not
    (and_both (want.slot.0 == slot) (want.visit == visit) (eq-eqb want.slot.0 slot h.0) (eq-eqb want.visit visit h.1))

row_more : (want : Want) (beat slot visit : ℕ) (sent : List (Dated Want)) (o : Option Instance) (b : Bool)
    → ((want.slot.0 == slot) && (want.visit == visit)) ≡ b → AllByRecursion (AreOfOne (dated beat want)) sent
    → IsInstanceAt slot visit sent o → IsInstanceAt slot visit (sent ++ dated beat want ∷ []) (cond b (Some want.instance) o)
row_more want beat slot visit sent o true is one h =
    let here = is_at want slot visit true is refl in (
      all-append (λ s. IsAtVisit slot visit s → s.item.instance ≡ want.instance) sent (dated beat want ∷ [])
          (all-weaker (AreOfOne (dated beat want)) (λ s. IsAtVisit slot visit s → s.item.instance ≡ want.instance) sent
          (λ s same at_it. sym (same (same_slot want.slot s.item.slot (here.0 ∙ sym at_it.0)) (here.1 ∙ sym at_it.1))) one)
          ((λ at_it. refl), tt),
      any_end (IsAtVisit slot visit) sent (dated beat want) here,
    )
row_more want beat slot visit sent None false is one h =
    all-append (λ s. IsAtVisit slot visit s → ⊥) sent (dated beat want ∷ []) h ((λ here. not_at want slot visit is here), tt)
row_more want beat slot visit sent (Some v) false is one h = (
  all-append (λ s. IsAtVisit slot visit s → s.item.instance ≡ v) sent (dated beat want ∷ []) h.0
      ((λ here. absurd (not_at want slot visit is here)), tt),
  any_before (IsAtVisit slot visit) sent (dated beat want ∷ []) h.1,
)

instance_more : (old new : InstanceRows) (front : List Noted) (x : Noted) (want : Want)
    → sent_by (beat_of x) x.entry.what ≡ dated (beat_of x) want ∷ []
    → ((slot visit : ℕ) → instance_under slot visit new
    ≡ cond ((want.slot.0 == slot) && (want.visit == visit)) (Some want.instance) (instance_under slot visit old))
    → AllByRecursion (λ s. AllByRecursion (AreOfOne s) (sent_in front)) (sent_by (beat_of x) x.entry.what)
    → ((slot visit : ℕ) → IsInstanceAt slot visit (sent_in front) (instance_under slot visit old))
    → (slot visit : ℕ) → IsInstanceAt slot visit (sent_in (front_with front x)) (instance_under slot visit new)
instance_more old new front x want is set one h slot visit =
    let here = (subst (λ (q : List (Dated Want)). AllByRecursion (λ s. AllByRecursion (AreOfOne s) (sent_in front)) q) is one).0 in
    subst (λ (o : Option Instance). IsInstanceAt slot visit (sent_in (front_with front x)) o) (sym (set slot visit))
    (subst (λ (q : List (Dated Want)). IsInstanceAt slot visit q
    (cond ((want.slot.0 == slot) && (want.visit == visit)) (Some want.instance) (instance_under slot visit old)))
    (sym (sent_more front x ∙ ap (λ (q : List (Dated Want)). sent_in front ++ q) is))
    (row_more want (beat_of x) slot visit (sent_in front) (instance_under slot visit old)
    ((want.slot.0 == slot) && (want.visit == visit)) refl here (h slot visit)))

pub sent_kept : (p : Params) (front : List Noted) (x : Noted) (link : LinkNo) (n : Note) (want : Want) (old new : InstanceRows)
    (asked : WantNumbers) (dead : List ℕ) → x.entry.what ≡ what.Sent link n
    → ((beat : ℕ) → sent_by beat (what.Sent link n) ≡ dated beat want ∷ [])
    → ((other : Want) → asks_same other (what.Sent link n) ≡ false)
    → ((slot visit : ℕ) → instance_under slot visit new
    ≡ cond ((want.slot.0 == slot) && (want.visit == visit)) (Some want.instance) (instance_under slot visit old))
    → TellsServed old asked dead front → IsOnceBehind p front (beat_of x) x.entry.what → TellsServed new asked dead (front_with front x)
sent_kept p front x link n want old new asked dead is carries not set h once = record {
  instance = instance_more old new front x want (ap (sent_by (beat_of x)) is ∙ carries (beat_of x)) set once.instance h.instance;
  ask = ask_stays asked front x (λ other. ap (asks_same other) is ∙ not other) h.ask;
  death = death_stays dead front x (ap is_died is) h.death;
}

pub whole_kept : (p : Params) (front : List Noted) (x : Noted) (link : LinkNo) (n : Note) (want : Want) (sent : ℕ) (part : Span)
    (old new : InstanceRows) (asked : WantNumbers) (dead : List ℕ) → n ≡ note.Whole want sent part
    → ((slot visit : ℕ) → instance_under slot visit new
    ≡ cond ((want.slot.0 == slot) && (want.visit == visit)) (Some want.instance) (instance_under slot visit old))
    → x.entry.what ≡ what.Sent link n → TellsServed old asked dead front → IsOnceBehind p front (beat_of x) x.entry.what
    → TellsServed new asked dead (front_with front x)
whole_kept p front x link n want sent part old new asked dead is set sends h once =
    sent_kept p front x link n want old new asked dead sends
    (λ beat. ap (λ (k : Note). sent_by beat (what.Sent link k)) is) (λ other. ap (λ (k : Note). asks_same other (what.Sent link k)) is)
    set h once

pub piece_kept : (p : Params) (front : List Noted) (x : Noted) (link : LinkNo) (n : Note) (want : Want) (sent : ℕ) (part : Span)
    (old new : InstanceRows) (asked : WantNumbers) (dead : List ℕ) → n ≡ note.Piece want sent part
    → ((slot visit : ℕ) → instance_under slot visit new
    ≡ cond ((want.slot.0 == slot) && (want.visit == visit)) (Some want.instance) (instance_under slot visit old))
    → x.entry.what ≡ what.Sent link n → TellsServed old asked dead front → IsOnceBehind p front (beat_of x) x.entry.what
    → TellsServed new asked dead (front_with front x)
piece_kept p front x link n want sent part old new asked dead is set sends h once =
    sent_kept p front x link n want old new asked dead sends
    (λ beat. ap (λ (k : Note). sent_by beat (what.Sent link k)) is) (λ other. ap (λ (k : Note). asks_same other (what.Sent link k)) is)
    set h once

-- ---- a disk is asked

and_true : (b : Bool) → (b && true) ≡ b
and_true true = refl
and_true false = refl

-- that two wants are for one read, by all their numbers, and by those of the read
one_read : (a b : Want) → same_want (read_of a) (read_of b) ≡ ((a.slot.0 == b.slot.0) && (a.visit == b.visit) && (a.piece == b.piece))
one_read a b = ap (λ (q : Bool). q && (a.piece == b.piece))
    (and_true (((a.slot.0 == b.slot.0) && (a.visit == b.visit)) && true) ∙ and_true ((a.slot.0 == b.slot.0) && (a.visit == b.visit)))

pub ask_kept : (front : List Noted) (x : Noted) (link : LinkNo) (n : Note) (want : Want) (rows : InstanceRows)
    (old new : WantNumbers) (dead : List ℕ) (key : Want) → n ≡ note.ReadAsk want → key ≡ read_of want
    → ((w : Want) → has_want w new ≡ (has_want w old || same_want key w))
    → x.entry.what ≡ what.Sent link n → TellsServed rows old dead front → TellsServed rows new dead (front_with front x)
ask_kept front x link n want rows old new dead key is keyed added sends h =
    let asks : x.entry.what ≡ what.Sent link (note.ReadAsk want) = sends ∙ ap (λ (k : Note). what.Sent link k) is in
    record {
      instance = instance_stays rows front x (ap (sent_by (beat_of x)) asks) h.instance;
      ask = λ w.
          added (read_of w)
          ∙ ap (λ (b : Bool). b || same_want key (read_of w)) (h.ask w)
          ∙ ap (λ (k : Want). has_asked w front || same_want k (read_of w)) keyed
          ∙ ap (λ (b : Bool). has_asked w front || b) (one_read want w ∙ sym (ap (asks_same w) asks))
          ∙ sym (asked_more w front x);
      death = death_stays dead front x (ap is_died asks) h.death;
    }

-- ---- another note, or another entry

-- what neither sends anything to the viewers, nor asks a disk, nor is a death
pub plain_kept : (front : List Noted) (x : Noted) (rows : InstanceRows) (asked : WantNumbers) (dead : List ℕ)
    → sent_by (beat_of x) x.entry.what ≡ [] → ((want : Want) → asks_same want x.entry.what ≡ false) → is_died x.entry.what ≡ false
    → TellsServed rows asked dead front → TellsServed rows asked dead (front_with front x)
plain_kept front x rows asked dead none not lives h = record {
  instance = instance_stays rows front x none h.instance;
  ask = ask_stays asked front x not h.ask;
  death = death_stays dead front x lives h.death;
}

-- what a note of no such kind makes plain
record IsPlain (w : What) : Type 0 where
  sends : (beat : ℕ) → sent_by beat w ≡ []
  asks : (want : Want) → asks_same want w ≡ false
  lives : is_died w ≡ false

note_plain : (link : LinkNo) (n : Note)
    → ((want : Want) (sent : ℕ) (part : Span) → n ≡ note.Whole want sent part → ⊥)
    → ((want : Want) (sent : ℕ) (part : Span) → n ≡ note.Piece want sent part → ⊥)
    → ((want : Want) → n ≡ note.ReadAsk want → ⊥)
    → IsPlain (what.Sent link n)
note_plain link (note.Whole want sent part) a b c = absurd (a want sent part refl)
note_plain link (note.Piece want sent part) a b c = absurd (b want sent part refl)
note_plain link (note.ReadAsk want) a b c = absurd (c want refl)
note_plain link other a b c = record { sends = λ beat. refl; asks = λ want. refl; lives = refl }

pub note_kept : (front : List Noted) (x : Noted) (link : LinkNo) (n : Note) (rows : InstanceRows) (asked : WantNumbers) (dead : List ℕ)
    → ((want : Want) (sent : ℕ) (part : Span) → n ≡ note.Whole want sent part → ⊥)
    → ((want : Want) (sent : ℕ) (part : Span) → n ≡ note.Piece want sent part → ⊥)
    → ((want : Want) → n ≡ note.ReadAsk want → ⊥)
    → x.entry.what ≡ what.Sent link n → TellsServed rows asked dead front → TellsServed rows asked dead (front_with front x)
note_kept front x link n rows asked dead a b c sends h =
    let plain : IsPlain x.entry.what = subst IsPlain (sym sends) (note_plain link n a b c) in
    plain_kept front x rows asked dead (plain.sends (beat_of x)) plain.asks plain.lives h

entry_plain : (w : What) → ((link : LinkNo) (n : Note) → w ≡ what.Sent link n → ⊥) → (w ≡ what.Died → ⊥) → IsPlain w
entry_plain (what.Sent link n) a b = absurd (a link n refl)
entry_plain what.Died a b = absurd (b refl)
entry_plain other a b = record { sends = λ beat. refl; asks = λ want. refl; lives = refl }

pub other_kept : (front : List Noted) (x : Noted) (rows : InstanceRows) (asked : WantNumbers) (dead : List ℕ)
    → ((link : LinkNo) (n : Note) → x.entry.what ≡ what.Sent link n → ⊥) → (x.entry.what ≡ what.Died → ⊥)
    → TellsServed rows asked dead front → TellsServed rows asked dead (front_with front x)
other_kept front x rows asked dead a b h =
    let plain = entry_plain x.entry.what a b in plain_kept front x rows asked dead (plain.sends (beat_of x)) plain.asks plain.lives h

-- ---- a death

pub death_kept : (front : List Noted) (x : Noted) (rows : InstanceRows) (asked : WantNumbers) (old new : List ℕ) → x.entry.what ≡ what.Died
    → ((n : ℕ) → has_number n new ≡ (has_number n old || (x.node == n)))
    → TellsServed rows asked old front → TellsServed rows asked new (front_with front x)
death_kept front x rows asked old new is added h = record {
  instance = instance_stays rows front x (ap (sent_by (beat_of x)) is) h.instance;
  ask = ask_stays asked front x (λ want. ap (asks_same want) is) h.ask;
  death = λ n.
      dead_more n front x
      ∙ ap (λ (w : What). (moment_of front).dead n || ((x.node == n) && is_died w)) is
      ∙ ap (λ (b : Bool). (moment_of front).dead n || b) (and_true (x.node == n))
      ∙ ap (λ (b : Bool). b || (x.node == n)) (h.death n) ∙ sym (added n);
}
