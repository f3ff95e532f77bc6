-- An entry is judged by the tables of what stands before it.
use Rattle.std.proofs.Common.{◌≡◌, ℕ, zero, suc, ◌≤◌, Bool, true, false, not, ◌&&◌, ◌||◌, IsTrue, List, Option, Some, None, refl, sym, ap, subst, ◌∙◌, arith}
use Rattle.std.specs.Prelude.{◌==◌, ◌↔◌}
use Rattle.std.specs.List.{AllByRecursion}
use Rattle.std.proofs.lemmas.Bool.{eqb-true, eq-eqb, false≢true}
use Rattle.tiger_base.specs.declared.number.Instance.{Instance}
use Rattle.tiger_base.specs.declared.number.LinkNo.{LinkNo}
use Rattle.tiger_base.specs.declared.number.SlotNo.{SlotNo}
use Rattle.tiger_base.specs.declared.message.Note.{Note}
use Rattle.tiger_base.specs.declared.message.Note.TheVariants as note
use Rattle.tiger_base.specs.declared.part.Span.{Span}
use Rattle.tiger_base.specs.declared.tenancy.Want.{Want}
use Rattle.slot_plan.specs.declared.params.Params.{Params}
use Rattle.slot_plan.specs.Times.{cub_of}
use Rattle.node_kit.specs.declared.journal.What.{What}
use Rattle.node_kit.specs.declared.journal.What.TheVariants as what
use Rattle.run_facts.specs.Events.{Dated}
use Rattle.run_facts.specs.Order.{Noted}
use Rattle.run_facts.proofs.Rows.{all-weaker, all-both}
use Rattle.run_model.proofs.Reflects.{and_both, and_left, and_right}
use Rattle.run_claims.specs.Deliveries.{sent_in}
use Rattle.run_claims.specs.Visits.{AreOfOne}
use Rattle.audit_frame.specs.Tables.{has_number}
use Rattle.audit_frame.specs.Wanted.{WantNumbers, has_want}
use Rattle.audit_frame.proofs.Added.{meet}
use Rattle.audit_visits.specs.Instances.{InstanceRows, instance_under}
use Rattle.audit_visits.specs.Once.{IsOnceBehind, IsAtVisit, IsInstanceAt, TellsServed, read_of}

-- ---- what is sent

pub same_instance : (a b : Instance) → a.0 ≡ b.0 → a ≡ b
same_instance a b e = λ i. record { 0 = e i }

pub same_slot : (a b : SlotNo) → a.0 ≡ b.0 → a ≡ b
same_slot a b e = λ i. record { 0 = e i }

abbrev pub dated : ℕ → Want → Dated Want
dated beat want = record { beat = beat; item = want }

pub send_judged : (beat : ℕ) (want : Want) (v : Instance) (sent : List (Dated Want)) (r : Bool) → r ≡ (v.0 == want.instance.0)
    → IsInstanceAt want.slot.0 want.visit sent (Some v)
    → IsTrue r ↔ AllByRecursion (AreOfOne (dated beat want)) sent
send_judged beat want v sent r is h = (
  (λ t.
      let same : v ≡ want.instance = same_instance v want.instance (eqb-true v.0 want.instance.0 (sym is ∙ t)) in
      all-weaker (λ s. IsAtVisit want.slot.0 want.visit s → s.item.instance ≡ v) (AreOfOne (dated beat want)) sent
      (λ s all slot visit. sym (all (ap (λ (k : SlotNo). k.0) (sym slot), sym visit) ∙ same)) h.0),
  (λ all.
      is ∙ eq-eqb v.0 want.instance.0
      (meet (IsAtVisit want.slot.0 want.visit)
      (λ s. AreOfOne (dated beat want) s × (IsAtVisit want.slot.0 want.visit s → s.item.instance ≡ v)) (v.0 ≡ want.instance.0) sent
      (λ s here both.
      ap (λ (k : Instance). k.0) (sym (both.1 here) ∙ sym (both.0 (same_slot want.slot s.item.slot (sym here.0)) (sym here.1))))
      h.1 (all-both (AreOfOne (dated beat want)) (λ s. IsAtVisit want.slot.0 want.visit s → s.item.instance ≡ v) sent all h.0))),
)

pub first_judged : (beat : ℕ) (want : Want) (sent : List (Dated Want)) → IsInstanceAt want.slot.0 want.visit sent None
    → IsTrue true ↔ AllByRecursion (AreOfOne (dated beat want)) sent
first_judged beat want sent h = (
  (λ t.
      all-weaker (λ s. IsAtVisit want.slot.0 want.visit s → ⊥) (AreOfOne (dated beat want)) sent
      (λ s none slot visit. absurd (none (ap (λ (k : SlotNo). k.0) (sym slot), sym visit))) h),
  (λ all. refl),
)

-- with what the table has under the slot and the visit
pub sent_by_row : (beat : ℕ) (want : Want) (v : Instance) (rows : InstanceRows) (asked : WantNumbers) (dead : List ℕ) (front : List Noted)
    (o : Option Instance) (r : Bool) → o ≡ instance_under want.slot.0 want.visit rows → o ≡ Some v → r ≡ (v.0 == want.instance.0)
    → TellsServed rows asked dead front → IsTrue r ↔ AllByRecursion (AreOfOne (dated beat want)) (sent_in front)
sent_by_row beat want v rows asked dead front o r got some is h =
    send_judged beat want v (sent_in front) r is
    (subst (IsInstanceAt want.slot.0 want.visit (sent_in front)) (sym got ∙ some) (h.instance want.slot.0 want.visit))

pub sent_by_none : (beat : ℕ) (want : Want) (rows : InstanceRows) (asked : WantNumbers) (dead : List ℕ) (front : List Noted)
    (o : Option Instance) → o ≡ instance_under want.slot.0 want.visit rows → o ≡ None
    → TellsServed rows asked dead front → IsTrue true ↔ AllByRecursion (AreOfOne (dated beat want)) (sent_in front)
sent_by_none beat want rows asked dead front o got none h =
    first_judged beat want (sent_in front)
    (subst (IsInstanceAt want.slot.0 want.visit (sent_in front)) (sym got ∙ none) (h.instance want.slot.0 want.visit))

-- ---- what a disk is asked for

not_true : (b : Bool) → IsTrue (not b) → b ≡ false
not_true true h = absurd (false≢true h)
not_true false h = refl

false_not : (b : Bool) → b ≡ false → IsTrue (not b)
false_not true h = absurd (false≢true (sym h))
false_not false h = refl

whole_or : (n : ℕ) (b c : Bool) → (n == 0) ≡ c → IsTrue (c || b) → 1 ≤ n → b ≡ true
whole_or n b true is h some = let none = eqb-true n 0 is in absurd (omega (arith, none, some))
whole_or n b false is h some = h

or_dead : (n : ℕ) (b c : Bool) → (n == 0) ≡ c → (1 ≤ n → b ≡ true) → IsTrue (c || b)
or_dead n b true is h = refl
or_dead n b false is h = h (least n is)
  where
    least : (k : ℕ) → (k == 0) ≡ false → 1 ≤ k
    least zero e = absurd (false≢true (sym e))
    least (suc k) e = omega arith

pub ask_judged : (p : Params) (front : List Noted) (beat : ℕ) (link : LinkNo) (n : Note) (want : Want) (rows : InstanceRows)
    (asked : WantNumbers) (dead : List ℕ) (r : Bool) → n ≡ note.ReadAsk want
    → r ≡ (not (has_want (read_of want) asked) && ((want.piece == 0) || has_number (cub_of p want.visit) dead))
    → TellsServed rows asked dead front → IsTrue r ↔ IsOnceBehind p front beat (what.Sent link n)
ask_judged p front beat link n want rows asked dead r is e h =
    let new = not (has_want (read_of want) asked) in
    let rightly = (want.piece == 0) || has_number (cub_of p want.visit) dead in
    subst (λ (k : Note). IsTrue r ↔ IsOnceBehind p front beat (what.Sent link k)) (sym is) (
      (λ t.
          let both : IsTrue (new && rightly) = sym e ∙ t in
          record {
            instance = tt;
            ask = sym (h.ask want) ∙ not_true (has_want (read_of want) asked) (and_left new rightly both);
            death = λ some. h.death (cub_of p want.visit) ∙ whole_or want.piece (has_number (cub_of p want.visit) dead) (want.piece == 0) refl
                (and_right new rightly both) some;
          }),
      (λ once.
          e ∙ and_both new rightly (false_not (has_want (read_of want) asked) (h.ask want ∙ once.ask))
          (or_dead want.piece (has_number (cub_of p want.visit) dead) (want.piece == 0) refl
          (λ some. sym (h.death (cub_of p want.visit)) ∙ once.death some))),
    )

-- ---- each kind of note and of entry

pub whole_judged : (p : Params) (front : List Noted) (beat : ℕ) (link : LinkNo) (n : Note) (want : Want) (sent : ℕ) (part : Span) (r : Bool)
    → n ≡ note.Whole want sent part → IsTrue r ↔ AllByRecursion (AreOfOne (dated beat want)) (sent_in front)
    → IsTrue r ↔ IsOnceBehind p front beat (what.Sent link n)
whole_judged p front beat link n want sent part r is h =
    subst (λ (k : Note). IsTrue r ↔ IsOnceBehind p front beat (what.Sent link k)) (sym is) (
      (λ t. record { instance = (h.0 t, tt); ask = tt; death = tt }),
      (λ once. h.1 once.instance.0),
    )

pub piece_judged : (p : Params) (front : List Noted) (beat : ℕ) (link : LinkNo) (n : Note) (want : Want) (sent : ℕ) (part : Span) (r : Bool)
    → n ≡ note.Piece want sent part → IsTrue r ↔ AllByRecursion (AreOfOne (dated beat want)) (sent_in front)
    → IsTrue r ↔ IsOnceBehind p front beat (what.Sent link n)
piece_judged p front beat link n want sent part r is h =
    subst (λ (k : Note). IsTrue r ↔ IsOnceBehind p front beat (what.Sent link k)) (sym is) (
      (λ t. record { instance = (h.0 t, tt); ask = tt; death = tt }),
      (λ once. h.1 once.instance.0),
    )

pub note_judged : (p : Params) (front : List Noted) (beat : ℕ) (link : LinkNo) (n : Note)
    → ((want : Want) (sent : ℕ) (part : Span) → n ≡ note.Whole want sent part → ⊥)
    → ((want : Want) (sent : ℕ) (part : Span) → n ≡ note.Piece want sent part → ⊥)
    → ((want : Want) → n ≡ note.ReadAsk want → ⊥)
    → IsTrue true ↔ IsOnceBehind p front beat (what.Sent link n)
note_judged p front beat link (note.Whole want sent part) a b c = absurd (a want sent part refl)
note_judged p front beat link (note.Piece want sent part) a b c = absurd (b want sent part refl)
note_judged p front beat link (note.ReadAsk want) a b c = absurd (c want refl)
note_judged p front beat link other a b c = ((λ t. record { instance = tt; ask = tt; death = tt }), (λ once. refl))

pub sent_judged : (p : Params) (front : List Noted) (beat : ℕ) (w : What) (link : LinkNo) (n : Note) (r : Bool) → w ≡ what.Sent link n
    → IsTrue r ↔ IsOnceBehind p front beat (what.Sent link n) → IsTrue r ↔ IsOnceBehind p front beat w
sent_judged p front beat w link n r is h = subst (λ (v : What). IsTrue r ↔ IsOnceBehind p front beat v) (sym is) h

pub other_judged : (p : Params) (front : List Noted) (beat : ℕ) (w : What) → ((link : LinkNo) (n : Note) → w ≡ what.Sent link n → ⊥)
    → IsTrue true ↔ IsOnceBehind p front beat w
other_judged p front beat (what.Sent link n) a = absurd (a link n refl)
other_judged p front beat other a = ((λ t. record { instance = tt; ask = tt; death = tt }), (λ once. refl))
