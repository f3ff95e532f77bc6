-- That each read is asked for once, over a front of a log and over a front with one entry more.
use Rattle.std.proofs.Common.{◌≡◌, Bool, true, false, ◌&&◌, List, [], ◌∷◌, ◌++◌, refl, ap, ◌∙◌, arith}
use Rattle.std.specs.Prelude.{◌==◌}
use Rattle.std.specs.List.{AllByRecursion}
use Rattle.std.proofs.lemmas.Bool.{eq-eqb}
use Rattle.tiger_base.specs.declared.message.Note.TheVariants as note
use Rattle.tiger_base.specs.declared.number.LinkNo.{LinkNo}
use Rattle.tiger_base.specs.declared.tenancy.Want.{Want}
use Rattle.node_kit.specs.declared.journal.What.{What}
use Rattle.node_kit.specs.declared.journal.What.TheVariants as what
use Rattle.run_facts.specs.Order.{Noted}
use Rattle.run_facts.proofs.Rows.{all-append, all-left, all-right, all-weaker, all-both, all-given}
use Rattle.run_model.proofs.Reflects.{and_both}
use Rattle.run_claims.specs.Visits.{asks_same, IsOnlyAsk}
use Rattle.audit_frame.proofs.Added.{turned}
use Rattle.audit_visits.specs.Once.{IsFirstAsk, front_with}
use Rattle.audit_visits.proofs.Counting.{none_counted, counted_none, none_each, front_counted, last_there, last_any, last_left}

abbrev asks_for : Want → Noted → Bool
asks_for want x = asks_same want x.entry.what

itself : (link : LinkNo) (want : Want) → asks_same want (what.Sent link (note.ReadAsk want)) ≡ true
itself link want =
    and_both ((want.slot.0 == want.slot.0) && (want.visit == want.visit)) (want.piece == want.piece)
    (and_both (want.slot.0 == want.slot.0) (want.visit == want.visit) (eq-eqb want.slot.0 want.slot.0 refl) (eq-eqb want.visit want.visit refl))
    (eq-eqb want.piece want.piece refl)

-- ---- over a front

shorter_one : (front back : List Noted) (w : What) → IsOnlyAsk (front ++ back) w → IsOnlyAsk front w
shorter_one front back (what.Sent link (note.ReadAsk want)) h =
    let fewer = front_counted (asks_for want) front back in omega (arith, fewer, h)
shorter_one front back other h = tt

pub asks_shorter : (front back : List Noted) → AllByRecursion (λ x. IsOnlyAsk (front ++ back) x.entry.what) (front ++ back)
    → AllByRecursion (λ x. IsOnlyAsk front x.entry.what) front
asks_shorter front back h =
    all-weaker (λ x. IsOnlyAsk (front ++ back) x.entry.what) (λ x. IsOnlyAsk front x.entry.what) front
    (λ x only. shorter_one front back x.entry.what only)
    (all-left (λ x. IsOnlyAsk (front ++ back) x.entry.what) front back h)

-- ---- what the entry behind it asks

first_there : (front : List Noted) (x : Noted) (w : What) → x.entry.what ≡ w → IsOnlyAsk (front_with front x) w → IsFirstAsk front w
first_there front x (what.Sent link (note.ReadAsk want)) is h =
    let more = last_there (asks_for want) front x (ap (asks_same want) is ∙ itself link want) in
    counted_none (asks_for want) front (omega (arith, more, h))
first_there front x other is h = tt

pub ask_there : (front : List Noted) (x : Noted) → AllByRecursion (λ y. IsOnlyAsk (front_with front x) y.entry.what) (front_with front x)
    → IsFirstAsk front x.entry.what
ask_there front x h =
    first_there front x x.entry.what refl (all-right (λ y. IsOnlyAsk (front_with front x) y.entry.what) front (x ∷ []) h).0

-- ---- and back

only_last : (front : List Noted) (x : Noted) (w : What) → IsFirstAsk front w → IsOnlyAsk (front_with front x) w
only_last front x (what.Sent link (note.ReadAsk want)) h =
    let none = none_counted (asks_for want) front h in
    let most = last_any (asks_for want) front x in omega (arith, none, most)
only_last front x other h = tt

-- an entry does not ask for what another one asks for
abbrev IsApart : What → What → Type 0
IsApart w (what.Sent link (note.ReadAsk want)) = asks_same want w ≡ false
IsApart w other = Unit {0}

turned_apart : (link : LinkNo) (want : Want) (v : What) → asks_same want v ≡ false → IsApart (what.Sent link (note.ReadAsk want)) v
turned_apart link want (what.Sent other (note.ReadAsk w)) h =
    ap (λ (b : Bool). (b && (want.visit == w.visit)) && (want.piece == w.piece)) (turned want.slot.0 w.slot.0)
    ∙ ap (λ (b : Bool). ((w.slot.0 == want.slot.0) && b) && (want.piece == w.piece)) (turned want.visit w.visit)
    ∙ ap (λ (b : Bool). ((w.slot.0 == want.slot.0) && (w.visit == want.visit)) && b) (turned want.piece w.piece)
    ∙ h
turned_apart link want other h = tt

apart_none : (w : What) → ((want : Want) → asks_same want w ≡ false) → (v : What) → IsApart w v
apart_none w h (what.Sent link (note.ReadAsk want)) = h want
apart_none w h other = tt

apart_front : (front : List Noted) (w : What) → IsFirstAsk front w → AllByRecursion (λ y. IsApart w y.entry.what) front
apart_front front (what.Sent link (note.ReadAsk want)) h =
    all-weaker (λ y. asks_for want y ≡ false) (λ y. IsApart (what.Sent link (note.ReadAsk want)) y.entry.what) front
    (λ y not. turned_apart link want y.entry.what not) (none_each (asks_for want) front h)
apart_front front other h =
    all-given (λ y. IsApart other y.entry.what) front (λ y. apart_none other (λ want. refl) y.entry.what)

only_before : (front : List Noted) (x : Noted) (w : What) → IsOnlyAsk front w → IsApart x.entry.what w → IsOnlyAsk (front_with front x) w
only_before front x (what.Sent link (note.ReadAsk want)) h apart =
    let same = last_left (asks_for want) front x apart in omega (arith, same, h)
only_before front x other h apart = tt

pub asks_longer : (front : List Noted) (x : Noted) → AllByRecursion (λ y. IsOnlyAsk front y.entry.what) front
    → IsFirstAsk front x.entry.what → AllByRecursion (λ y. IsOnlyAsk (front_with front x) y.entry.what) (front_with front x)
asks_longer front x h first =
    all-append (λ y. IsOnlyAsk (front_with front x) y.entry.what) front (x ∷ [])
    (all-weaker (λ y. IsOnlyAsk front y.entry.what × IsApart x.entry.what y.entry.what)
    (λ y. IsOnlyAsk (front_with front x) y.entry.what) front (λ y both. only_before front x y.entry.what both.0 both.1)
    (all-both (λ y. IsOnlyAsk front y.entry.what) (λ y. IsApart x.entry.what y.entry.what) front h (apart_front front x.entry.what first)))
    (only_last front x x.entry.what first, tt)
