-- That visits are served once goes by steps, each of which looks at one entry and at the front before it.
use Rattle.std.proofs.Common.{◌≡◌, ℕ, List, [], ◌∷◌, ◌++◌, append-nil, refl, sym, ap, subst, ◌∙◌}
use Rattle.std.specs.List.{AllByRecursion}
use Rattle.std.proofs.lemmas.List.Concat.{flat_map-append}
use Rattle.tiger_base.specs.declared.message.Note.TheVariants as note
use Rattle.tiger_base.specs.declared.tenancy.Want.{Want}
use Rattle.slot_plan.specs.declared.params.Params.{Params}
use Rattle.node_kit.specs.declared.journal.What.{What}
use Rattle.node_kit.specs.declared.journal.What.TheVariants as what
use Rattle.run_facts.specs.Events.{Dated}
use Rattle.run_facts.specs.Order.{Noted, beat_of}
use Rattle.run_facts.proofs.Rows.{all-append, all-left, all-right, all-weaker, all-both, all-given}
use Rattle.run_model.specs.Fronts.{AtEach}
use Rattle.run_model.specs.Moments.{Moment, opening, next_moment}
use Rattle.run_model.proofs.Fronts.{at_each_after, at_each_more}
use Rattle.run_claims.specs.Deliveries.{sent_by, sent_in}
use Rattle.run_claims.specs.Visits.{AreOfOne, IsAskForDead, AreServedOnce}
use Rattle.audit_frame.proofs.Deciding.{GoesBySteps}
use Rattle.audit_visits.specs.Once.{IsOnceBehind, front_with}
use Rattle.audit_visits.proofs.Asking.{asks_shorter, ask_there, asks_longer}
use Rattle.audit_visits.proofs.Fronting.{goes_by_fronts}

-- ---- what a log with one entry more sends

abbrev sent_here : Noted → List (Dated Want)
sent_here x = sent_by (beat_of x) x.entry.what

sent_both : (front back : List Noted) → sent_in (front ++ back) ≡ sent_in front ++ sent_in back
sent_both front back = flat_map-append sent_here front back

pub sent_more : (front : List Noted) (x : Noted) → sent_in (front_with front x) ≡ sent_in front ++ sent_here x
sent_more front x = sent_both front (x ∷ []) ∙ ap (λ (q : List (Dated Want)). sent_in front ++ q) (append-nil (sent_here x))

-- ---- that it is of one instance

-- what is sent in one list is of one instance with what is sent in another
abbrev pub AllOfOne : List (Dated Want) → List (Dated Want) → Type 0
AllOfOne xs ys = AllByRecursion (λ x. AllByRecursion (AreOfOne x) ys) xs

one_turned : (a b : Dated Want) → AreOfOne a b → AreOfOne b a
one_turned a b h slot visit = sym (h (sym slot) (sym visit))

all_turned : (xs ys : List (Dated Want)) → AllOfOne xs ys → AllOfOne ys xs
all_turned [] ys h = all-given (λ y. AllByRecursion (AreOfOne y) []) ys (λ y. tt)
all_turned (x ∷ xs) ys h =
    all-both (λ y. AreOfOne y x) (λ y. AllByRecursion (AreOfOne y) xs) ys
    (all-weaker (AreOfOne x) (λ y. AreOfOne y x) ys (λ y one. one_turned x y one) h.0) (all_turned xs ys h.1)

of_parts : (xs ys zs : List (Dated Want)) → AllOfOne xs ys → AllOfOne xs zs → AllOfOne xs (ys ++ zs)
of_parts [] ys zs h g = tt
of_parts (x ∷ xs) ys zs h g = (all-append (AreOfOne x) ys zs h.0 g.0, of_parts xs ys zs h.1 g.1)

of_first : (xs ys zs : List (Dated Want)) → AllOfOne xs (ys ++ zs) → AllOfOne xs ys
of_first xs ys zs h =
    all-weaker (λ x. AllByRecursion (AreOfOne x) (ys ++ zs)) (λ x. AllByRecursion (AreOfOne x) ys) xs (λ x all. all-left (AreOfOne x) ys zs all) h

-- an entry sends one thing at most
own_one : (beat : ℕ) (w : What) → AllOfOne (sent_by beat w) (sent_by beat w)
own_one beat (what.Sent link (note.Whole want sent part)) = (((λ slot visit. refl), tt), tt)
own_one beat (what.Sent link (note.Piece want sent part)) = (((λ slot visit. refl), tt), tt)
own_one beat other = tt

one_shorter : (front back : List Noted) → AllOfOne (sent_in (front ++ back)) (sent_in (front ++ back)) → AllOfOne (sent_in front) (sent_in front)
one_shorter front back h =
    let xs = sent_in front in
    let ys = sent_in back in
    let both : AllOfOne (xs ++ ys) (xs ++ ys) = subst (λ (zs : List (Dated Want)). AllOfOne zs zs) (sent_both front back) h in
    of_first xs xs ys (all-left (λ x. AllByRecursion (AreOfOne x) (xs ++ ys)) xs ys both)

one_there : (front : List Noted) (x : Noted) → AllOfOne (sent_in (front_with front x)) (sent_in (front_with front x))
    → AllOfOne (sent_here x) (sent_in front)
one_there front x h =
    let xs = sent_in front in
    let ys = sent_here x in
    let both : AllOfOne (xs ++ ys) (xs ++ ys) = subst (λ (zs : List (Dated Want)). AllOfOne zs zs) (sent_more front x) h in
    of_first ys xs ys (all-right (λ y. AllByRecursion (AreOfOne y) (xs ++ ys)) xs ys both)

one_longer : (front : List Noted) (x : Noted) → AllOfOne (sent_in front) (sent_in front) → AllOfOne (sent_here x) (sent_in front)
    → AllOfOne (sent_in (front_with front x)) (sent_in (front_with front x))
one_longer front x h here =
    let xs = sent_in front in
    let ys = sent_here x in
    subst (λ (zs : List (Dated Want)). AllOfOne zs zs) (sym (sent_more front x))
    (all-append (λ y. AllByRecursion (AreOfOne y) (xs ++ ys)) xs ys
    (of_parts xs xs ys h (all_turned ys xs here)) (of_parts ys xs ys here (own_one (beat_of x) x.entry.what)))

-- ---- that pieces are of the dead

dead_shorter : (p : Params) (m : Moment) (front back : List Noted)
    → AtEach (λ n y. IsAskForDead p n y.entry.what) next_moment m (front ++ back)
    → AtEach (λ n y. IsAskForDead p n y.entry.what) next_moment m front
dead_shorter p m [] back h = tt
dead_shorter p m (x ∷ xs) back h = (h.0, dead_shorter p (next_moment m x) xs back h.1)

-- ---- all three

-- an entry serves once, behind a front
abbrev pub ServesOnce : Params → List Noted → Noted → Type 0
ServesOnce p front x = IsOnceBehind p front (beat_of x) x.entry.what

served_shorter : (p : Params) (front back : List Noted) → AreServedOnce p (front ++ back) → AreServedOnce p front
served_shorter p front back h = record {
  instance = one_shorter front back h.instance;
  ask = asks_shorter front back h.ask;
  dead = dead_shorter p opening front back h.dead;
}

served_there : (p : Params) (front : List Noted) (x : Noted) → AreServedOnce p (front_with front x) → ServesOnce p front x
served_there p front x h = record {
  instance = one_there front x h.instance;
  ask = ask_there front x h.ask;
  death = at_each_after (λ m y. IsAskForDead p m y.entry.what) next_moment opening front x [] h.dead;
}

served_longer : (p : Params) (front : List Noted) (x : Noted) → AreServedOnce p front → ServesOnce p front x
    → AreServedOnce p (front_with front x)
served_longer p front x h here = record {
  instance = one_longer front x h.instance here.instance;
  ask = asks_longer front x h.ask here.ask;
  dead = at_each_more (λ m y. IsAskForDead p m y.entry.what) next_moment opening front (x ∷ []) h.dead (here.death, tt);
}

pub served_by_steps : (p : Params) → GoesBySteps (AreServedOnce p) (ServesOnce p) front_with []
served_by_steps p =
    goes_by_fronts (AreServedOnce p) (ServesOnce p) (record { instance = tt; ask = tt; dead = tt })
    (λ front back h. served_shorter p front back h) (λ front x h. served_there p front x h)
    (λ front x h here. served_longer p front x h here)
