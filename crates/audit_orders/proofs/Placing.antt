-- Where instances were put, as the controller knows it, and when a tenancy is over.
use Rattle.std.proofs.Common.{◌≡◌, ℕ, ◌+◌, ◌*◌, ◌<◌, ◌≤◌, Bool, true, false, ◌&&◌, nat_le, cond, List, [], ◌∷◌, ◌++◌, find, Option, Some, None, refl, sym, ap, ◌∙◌, arith}
use Rattle.std.specs.Prelude.{◌==◌}
use Rattle.std.specs.List.{AllByRecursion}
use Rattle.std.specs.Option.{option_or, option_map}
use Rattle.std.proofs.lemmas.Bool.{leb-true, le-leb, both_ways}
use Rattle.std.proofs.Math.Nat.{add-mul}
use Rattle.tiger_base.specs.declared.message.Note.TheVariants as note
use Rattle.tiger_base.specs.declared.tenancy.Tenancy.{Tenancy}
use Rattle.slot_plan.specs.declared.params.Params.{Params}
use Rattle.slot_plan.specs.Times.{due}
use Rattle.node_kit.specs.declared.journal.Entry.{Entry}
use Rattle.node_kit.specs.declared.journal.What.{What}
use Rattle.node_kit.specs.declared.journal.What.TheVariants as what
use Rattle.node_kit.specs.Form.{is_in_form}
use Rattle.run_facts.specs.Commanded.{place_of, places_got, place_known}
use Rattle.run_facts.specs.Timed.{IsNotBelow, AreRising}
use Rattle.audit_orders.specs.Stops.{KnownPlaces, place_under, place_entry_has, first_known, TellsPlaces, by_then}
use Rattle.audit_orders.specs.declared.tables.Known.{Known}

-- ---- where instances were put

-- what is known of an instance from an entry on
known_first : (test : Tenancy → Bool) (t : Tenancy) (k : Known) (rest : List Tenancy) (f s : Bool) → k.tenancy ≡ t → test t ≡ s
    → find test (cond f (t ∷ []) [] ++ rest) ≡ option_or (option_map (λ (x : Known). x.tenancy) (cond (f && s) (Some k) None)) (find test rest)
known_first test t k rest true true same e =
    ap (λ (b : Bool). cond b (Some t) (find test rest)) e ∙ ap (λ (x : Tenancy). Some x) (sym same)
known_first test t k rest true false same e = ap (λ (b : Bool). cond b (Some t) (find test rest)) e
known_first test t k rest false s same e = refl

known_here : (p : Params) (v beat : ℕ) (w : What) (rest : List Tenancy)
    → find (λ (t : Tenancy). t.instance.0 == v) (place_of p w ++ rest)
    ≡ option_or (option_map (λ (x : Known). x.tenancy) (place_entry_has p v beat w)) (find (λ (t : Tenancy). t.instance.0 == v) rest)
known_here p v beat (what.Got link (note.Placed t)) rest =
    known_first (λ (x : Tenancy). x.instance.0 == v) t (record { beat = beat; tenancy = t }) rest (is_in_form p (note.Placed t)) (t.instance.0 == v) refl refl
known_here p v beat (what.Got link other) rest = refl
known_here p v beat other rest = refl

-- what an entry says was got is of its beat
place_beat : (f : Bool) (beat : ℕ) (t : Tenancy) (k : Known) → cond f (Some (record { beat = beat; tenancy = t })) None ≡ Some k → k.beat ≡ beat
place_beat true beat t k e = let same : record { beat = beat; tenancy = t } ≡ k = cc in ap (λ (x : Known). x.beat) (sym same)
place_beat false beat t k e = absurd (cc)

of_its_beat : (p : Params) (v beat : ℕ) (w : What) (k : Known) → place_entry_has p v beat w ≡ Some k → k.beat ≡ beat
of_its_beat p v beat (what.Got link (note.Placed t)) k e = place_beat (is_in_form p (note.Placed t) && (t.instance.0 == v)) beat t k e
of_its_beat p v beat (what.Got link other) k e = absurd (cc)
of_its_beat p v beat other k e = absurd (cc)

not_by : (a b : ℕ) → b < a → nat_le a b ≡ false
not_by a b low = by (nat_le a b) refl
  where
    by : (t : Bool) → nat_le a b ≡ t → t ≡ false
    by true e = let le = leb-true a b e in absurd (omega (arith, le, low))
    by false e = refl

later_known : (p : Params) (beat : ℕ) (es : List Entry) → AllByRecursion (λ (e : Entry). beat < e.stamp.beat) es → places_got p beat es ≡ []
unfolding places_got
later_known p beat [] h = refl
later_known p beat (e ∷ es) h =
    ap (λ (b : Bool). cond b (place_of p e.what) [] ++ places_got p beat es) (not_by e.stamp.beat beat h.0) ∙ later_known p beat es h.1

later_on : (e : Entry) (es : List Entry) → AllByRecursion (IsNotBelow e) es → (b : ℕ) → b < e.stamp.beat
    → AllByRecursion (λ (f : Entry). b < f.stamp.beat) es
later_on e [] h b low = tt
later_on e (f ∷ fs) h b low = let beat = h.0.beat in (omega (arith, beat, low), later_on e fs h.1 b low)

by_then_or : (beat b : ℕ) (o x : Option Known) → ((k : Known) → o ≡ Some k → k.beat ≡ b) → nat_le b beat ≡ true
    → option_or (option_map (λ (k : Known). k.tenancy) o) (by_then beat x) ≡ by_then beat (option_or o x)
by_then_or beat b None x is le = refl
by_then_or beat b (Some k) x is le =
    sym (ap (λ (t : Bool). cond t (Some k.tenancy) None) (ap (λ (n : ℕ). nat_le n beat) (is k refl) ∙ le))

by_then_late : (beat b : ℕ) (o x : Option Known) → ((k : Known) → o ≡ Some k → k.beat ≡ b) → nat_le b beat ≡ false → by_then beat x ≡ None
    → None ≡ by_then beat (option_or o x)
by_then_late beat b None x is le none = sym none
by_then_late beat b (Some k) x is le none =
    sym (ap (λ (t : Bool). cond t (Some k.tenancy) None) (ap (λ (n : ℕ). nat_le n beat) (is k refl) ∙ le))

pub known_by : (p : Params) (v beat : ℕ) (es : List Entry) → AreRising es → place_known p es v beat ≡ by_then beat (first_known p v es)
unfolding places_got
known_by p v beat [] h = refl
known_by p v beat (e ∷ es) h = by (nat_le e.stamp.beat beat) refl (known_by p v beat es h.1)
  where
    by : (t : Bool) → nat_le e.stamp.beat beat ≡ t → find (λ (x : Tenancy). x.instance.0 == v) (places_got p beat es) ≡ by_then beat (first_known p v es)
        → find (λ (x : Tenancy). x.instance.0 == v) (cond t (place_of p e.what) [] ++ places_got p beat es)
        ≡ by_then beat (option_or (place_entry_has p v e.stamp.beat e.what) (first_known p v es))
    by true le rest =
        known_here p v e.stamp.beat e.what (places_got p beat es)
        ∙ ap (option_or (option_map (λ (k : Known). k.tenancy) (place_entry_has p v e.stamp.beat e.what))) rest
        ∙ by_then_or beat e.stamp.beat (place_entry_has p v e.stamp.beat e.what) (first_known p v es) (of_its_beat p v e.stamp.beat e.what) le
    by false le rest =
        let low : beat < e.stamp.beat = above (λ (h : e.stamp.beat ≤ beat). both_ways (nat_le e.stamp.beat beat) le (le-leb e.stamp.beat beat h)) in
        let none = ap (find (λ (x : Tenancy). x.instance.0 == v)) (later_known p beat es (later_on e es h.0 beat low)) in
        none ∙ by_then_late beat e.stamp.beat (place_entry_has p v e.stamp.beat e.what) (first_known p v es) (of_its_beat p v e.stamp.beat e.what) le
        (sym rest ∙ none)
      where
        above : (e.stamp.beat ≤ beat → ⊥) → beat < e.stamp.beat
        above n = omega (arith, n)

or_assoc : (a b c : Option Known) → option_or (option_or a b) c ≡ option_or a (option_or b c)
or_assoc None b c = refl
or_assoc (Some x) b c = refl

or_none : (a : Option Known) → option_or a None ≡ a
or_none None = refl
or_none (Some x) = refl

first_place_more : (p : Params) (v : ℕ) (front : List Entry) (e : Entry)
    → first_known p v (front ++ e ∷ []) ≡ option_or (first_known p v front) (place_entry_has p v e.stamp.beat e.what)
first_place_more p v [] e = or_none (place_entry_has p v e.stamp.beat e.what)
first_place_more p v (f ∷ fs) e =
    ap (option_or (place_entry_has p v f.stamp.beat f.what)) (first_place_more p v fs e)
    ∙ sym (or_assoc (place_entry_has p v f.stamp.beat f.what) (first_known p v fs) (place_entry_has p v e.stamp.beat e.what))

pub place_more : (p : Params) (old new : KnownPlaces) (front : List Entry) (e : Entry)
    → ((v : ℕ) → place_under v new ≡ option_or (place_under v old) (place_entry_has p v e.stamp.beat e.what))
    → TellsPlaces p old front → TellsPlaces p new (front ++ e ∷ [])
place_more p old new front e added h v =
    added v ∙ ap (λ (o : Option Known). option_or o (place_entry_has p v e.stamp.beat e.what)) (h v) ∙ sym (first_place_more p v front e)

pub no_place : (p : Params) (places : KnownPlaces) → places ≡ [] → TellsPlaces p places []
no_place p places e v = ap (place_under v) e

-- ---- when a tenancy is over

pub due_next : (p : Params) (slot n : ℕ) → due p slot (n + 1) ≡ due p slot n + p.play
unfolding due
due_next p slot n =
    let more : (n + 1) * p.play ≡ n * p.play + 1 * p.play = add-mul n 1 p.play in
    omega (arith, more)
