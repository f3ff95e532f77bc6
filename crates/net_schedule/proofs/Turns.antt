-- A cub's turn leaves what holds between it and its neighbours.
use Rattle.std.proofs.Common.{◌≡◌, ◌∙◌, ℕ, ◌&&◌, Bool, true, false, cond, List, [], ◌∷◌, ◌++◌, map, Some, None, Option, refl, sym, ap, ⊎_elim, inl, eq-eqb}
use Rattle.std.specs.Prelude.{filter, find, ◌⊎◌}
use Rattle.std.specs.List.{AllByRecursion}
use Rattle.net_schedule.specs.declared.ring.NetRing.{NetRing}
use Rattle.net_schedule.specs.declared.ring.Entry.{Entry}
use Rattle.net_schedule.specs.declared.ring.Over.{Over}
use Rattle.net_schedule.specs.declared.ring.NetState.{NetState}
use Rattle.net_schedule.specs.declared.ring.NetState.TheVariants as state
use Rattle.net_schedule.specs.declared.ring.Own.{Own}
use Rattle.net_schedule.specs.declared.packet.Packet.{Packet}
use Rattle.net_schedule.specs.declared.packet.Packet.TheVariants as packet
use Rattle.net_schedule.specs.declared.turn.Turn.{Turn}
use Rattle.net_schedule.specs.declared.turn.Turn.TheVariants as turn
use Rattle.net_schedule.specs.Rings.{reaches, next_of, before}
use Rattle.net_schedule.specs.Cubs.{CubState, IsSound, IsOwnOf, is_of, is_for, is_asked, is_kept, is_live, is_placed, is_waiting, waits, counts, is_far, number_of, put_in, with_state, first_over, answered, answer_to, state_of, asked_entry, asking, reserve_of, release_of, confirm_of, refuse_of, reserving, confirming, renewing, keeping, answering, answer_to_reserve, reserved, confirmed, sending}
use Rattle.net_schedule.specs.Worlds.{turned, telling, goal_of}
use Rattle.net_schedule.specs.Links.{IsAskedFar, IsConfirmed, IsEnded, IsTrueOf, IsLink}
use Rattle.net_schedule.proofs.Finds.{clash, none_any, some_any, put_found, state_found, all_found}
use Rattle.net_schedule.proofs.Sound.{found_all}
use Rattle.net_schedule.proofs.Places.{next_not, before_not}
use Rattle.net_schedule.proofs.Linked.{all_map, all_append, more_sent, link_asked, link_state, link_kept, link_released}

-- a packet that cub c sends: to its successor, or to its predecessor
abbrev pub IsFrom : NetRing → ℕ → Packet → Type 0
IsFrom r c (packet.Reserve v at rate to) = to.0 ≡ next_of r c
IsFrom r c (packet.Confirm v to) = to.0 ≡ before r c
IsFrom r c (packet.Refuse v quantum sum to) = to.0 ≡ before r c
IsFrom r c (packet.Release v to) = to.0 ≡ next_of r c

all_of_map : {X : Type 0} (f : X → Packet) (P : Packet → Type 0) (xs : List X) → ((x : X) → P (f x)) → AllByRecursion P (map f xs)
all_of_map f P [] h = tt
all_of_map f P (x ∷ xs) h = (h x, all_of_map f P xs h)

pub all_from : (s : CubState) (t : Turn) → AllByRecursion (IsFrom s.ring s.no) (telling s t)
all_from s (turn.Ask v at rate) = cases (is_waiting (state_of (answer_to s at rate)))
  where
    cases : (b : Bool) → AllByRecursion (IsFrom s.ring s.no) (cond b (reserve_of s (record { instance = v; at = at; rate = rate }) ∷ []) [])
    cases true = (refl, tt)
    cases false = tt
all_from s (turn.Stop v) = cases (counts (find (is_of v) s.own) && is_far s.ring (find (is_of v) s.own))
  where
    cases : (b : Bool) → AllByRecursion (IsFrom s.ring s.no) (cond b (release_of s v ∷ []) [])
    cases true = (refl, tt)
    cases false = tt
all_from s turn.Renew =
    all_append (IsFrom s.ring s.no) (reserving s) (confirming s)
    (all_of_map (λ (o : Own). reserve_of s o.entry) (IsFrom s.ring s.no) (filter (λ (o : Own). is_waiting o.state) s.own) (λ o. refl))
    (all_of_map (λ (e : Entry). confirm_of s e.instance) (IsFrom s.ring s.no) s.kept (λ e. refl))
all_from s (turn.Take (packet.Reserve v at rate to)) = (cases (is_kept s.kept v) (first_over s at rate), tt)
  where
    cases : (b : Bool) (o : Option Over) → IsFrom s.ring s.no (cond b (confirm_of s v) (answering s v o))
    cases true o = refl
    cases false None = refl
    cases false (Some over) = refl
all_from s (turn.Take (packet.Confirm v to)) = cases (counts (find (is_of v) s.own))
  where
    cases : (b : Bool) → AllByRecursion (IsFrom s.ring s.no) (cond b [] (release_of s v ∷ []))
    cases true = tt
    cases false = (refl, tt)
all_from s (turn.Take (packet.Refuse v quantum sum to)) = tt
all_from s (turn.Take (packet.Release v to)) = tt

-- of two cubs between which it does not stand it tells nothing
pub elsewhere : (r : NetRing) (x d c : ℕ) (own : List Own) (kept : List Entry) → (next_of r x ≡ c → ⊥) → (before r x ≡ d → ⊥) → (p : Packet) → IsFrom r x p → IsTrueOf r d c own kept p
elsewhere r x d c own kept nc nd (packet.Reserve v at rate to) f = λ e. absurd (nc (sym f ∙ e))
elsewhere r x d c own kept nc nd (packet.Confirm v to) f = λ e. absurd (nd (sym f ∙ e))
elsewhere r x d c own kept nc nd (packet.Refuse v quantum sum to) f = tt
elsewhere r x d c own kept nc nd (packet.Release v to) f = λ e. absurd (nc (sym f ∙ e))

-- A turn of another cub.
pub other_turn : (s : CubState) (t : Turn) (d c : ℕ) (own : List Own) (kept : List Entry) (sent : List Packet)
    → (next_of s.ring s.no ≡ c → ⊥) → (before s.ring s.no ≡ d → ⊥) → IsLink s.ring d c own kept sent → IsLink s.ring d c own kept (sent ++ telling s t)
other_turn s t d c own kept sent nc nd h =
    more_sent s.ring d c own kept sent (telling s t) h
    (all_map (IsFrom s.ring s.no) (IsTrueOf s.ring d c own kept) (telling s t) (elsewhere s.ring s.no d c own kept nc nd) (all_from s t))

-- what comes to a cub with its turn: an instance that is new, or a packet that was sent to it
abbrev pub IsFresh : CubState → Turn → Type 0
IsFresh s (turn.Ask v at rate) = is_asked s.own v ≡ false
IsFresh s (turn.Stop v) = Unit {0}
IsFresh s turn.Renew = Unit {0}
IsFresh s (turn.Take p) = (goal_of p).0 ≡ s.no

abbrev pub IsTold : NetRing → ℕ → ℕ → List Own → List Entry → Turn → Type 0
IsTold r d c own kept (turn.Ask v at rate) = Unit {0}
IsTold r d c own kept (turn.Stop v) = Unit {0}
IsTold r d c own kept turn.Renew = Unit {0}
IsTold r d c own kept (turn.Take p) = IsTrueOf r d c own kept p

-- A turn of the owner.
pub own_turn : (s : CubState) (t : Turn) (kept : List Entry) (sent : List Packet) → IsSound s → IsFresh s t → IsTold s.ring s.no (next_of s.ring s.no) s.own kept t
    → IsLink s.ring s.no (next_of s.ring s.no) s.own kept sent → IsLink s.ring s.no (next_of s.ring s.no) (turned s t).own kept (sent ++ telling s t)
own_turn s (turn.Ask v at rate) kept sent sound fresh told h =
    link_asked s.ring s.no (next_of s.ring s.no) (asked_entry s v at rate) s.own kept sent (asking s v at rate) h fresh (near (first_over s at rate) (reaches s.ring at) refl) (more (is_waiting (state_of (answer_to s at rate))) refl)
  where
    o : Own
    o = asked_entry s v at rate

    near : (f : Option Over) (far : Bool) → reaches s.ring at ≡ far → is_placed (state_of (answered f far)) ≡ true → reaches s.ring at ≡ false
    near (Some over) far e p = absurd (clash p refl)
    near None true e p = absurd (clash p refl)
    near None false e p = e

    far_of : (f : Option Over) (far : Bool) → is_waiting (state_of (answered f far)) ≡ true → far ≡ true
    far_of (Some over) far w = absurd (clash w refl)
    far_of None true w = refl
    far_of None false w = absurd (clash w refl)

    found : find (is_of v) (put_in number_of (asked_entry s v at rate) s.own) ≡ Some (asked_entry s v at rate)
    found = put_found number_of (is_of v) (asked_entry s v at rate) s.own (eq-eqb v.0 v.0 refl) (none_any (is_of v) s.own fresh)

    more : (b : Bool) → is_waiting (state_of (answer_to s at rate)) ≡ b
        → AllByRecursion (IsTrueOf s.ring s.no (next_of s.ring s.no) (put_in number_of (asked_entry s v at rate) s.own) kept) (cond b (reserve_of s (record { instance = v; at = at; rate = rate }) ∷ []) [])
    more true w = ((λ e. record { o = asked_entry s v at rate; found = found; same = refl; far = far_of (first_over s at rate) (reaches s.ring at) w }), tt)
    more false w = tt
own_turn s (turn.Stop v) kept sent sound fresh told h = cases (find (is_of v) s.own) refl
  where
    cases : (f : Option Own) → find (is_of v) s.own ≡ f
        → IsLink s.ring s.no (next_of s.ring s.no) (cond (counts f) (record s { own = with_state v state.Stopped s.own }) s).own kept (sent ++ cond (counts f && is_far s.ring f) (release_of s v ∷ []) [])
    cases None e = more_sent s.ring s.no (next_of s.ring s.no) s.own kept sent [] h tt
    cases (Some o) e = live (is_live o.state) refl
      where
        ended : IsEnded (with_state v state.Stopped s.own) v
        ended = record { o = record o { state = state.Stopped }; found = state_found v state.Stopped s.own o e; ended = refl }

        live : (b : Bool) → is_live o.state ≡ b
            → IsLink s.ring s.no (next_of s.ring s.no) (cond b (record s { own = with_state v state.Stopped s.own }) s).own kept (sent ++ cond (b && reaches s.ring o.entry.at) (release_of s v ∷ []) [])
        live false l = more_sent s.ring s.no (next_of s.ring s.no) s.own kept sent [] h tt
        live true l = far (reaches s.ring o.entry.at)
          where
            far : (b : Bool) → IsLink s.ring s.no (next_of s.ring s.no) (with_state v state.Stopped s.own) kept (sent ++ cond b (release_of s v ∷ []) [])
            far true = link_state s.ring s.no (next_of s.ring s.no) v state.Stopped s.own o kept sent (release_of s v ∷ []) h e l (λ p. absurd (clash p refl)) ((λ z. ended), tt)
            far false = link_state s.ring s.no (next_of s.ring s.no) v state.Stopped s.own o kept sent [] h e l (λ p. absurd (clash p refl)) tt
own_turn s turn.Renew kept sent sound fresh told h =
    more_sent s.ring s.no (next_of s.ring s.no) s.own kept sent (renewing s) h
    (all_append (IsTrueOf s.ring s.no (next_of s.ring s.no) s.own kept) (reserving s) (confirming s)
    (all_reserved s.own waiting)
    (all_of_map (λ (e : Entry). confirm_of s e.instance) (IsTrueOf s.ring s.no (next_of s.ring s.no) s.own kept) s.kept (λ e z. absurd (before_not s.ring s.no sound.ring sound.no z))))
  where
    IsGiven : Own → Type 0
    IsGiven o = is_waiting o.state ≡ true → IsAskedFar s.ring s.own o.entry.instance o.entry

    given : (o : Own) → find (is_of o.entry.instance) s.own ≡ Some o → is_waiting o.state ≡ true → IsAskedFar s.ring s.own o.entry.instance o.entry
    given o f w = record { o = o; found = f; same = refl; far = (found_all (IsOwnOf s.ring s.no) (is_of o.entry.instance) s.own o sound.own f).waits w }

    waiting : AllByRecursion (λ (o : Own). is_waiting o.state ≡ true → IsAskedFar s.ring s.own o.entry.instance o.entry) s.own
    waiting = all_found number_of (λ (o : Own). is_waiting o.state ≡ true → IsAskedFar s.ring s.own o.entry.instance o.entry) s.own sound.own_rises given

    all_reserved : (xs : List Own) → AllByRecursion (λ (o : Own). is_waiting o.state ≡ true → IsAskedFar s.ring s.own o.entry.instance o.entry) xs
        → AllByRecursion (IsTrueOf s.ring s.no (next_of s.ring s.no) s.own kept) (map (λ (o : Own). reserve_of s o.entry) (filter (λ (o : Own). is_waiting o.state) xs))
    all_reserved [] g = tt
    all_reserved (o ∷ os) g = pick (is_waiting o.state) refl (all_reserved os g.1)
      where
        pick : (b : Bool) → is_waiting o.state ≡ b → AllByRecursion (IsTrueOf s.ring s.no (next_of s.ring s.no) s.own kept) (map (λ (x : Own). reserve_of s x.entry) (filter (λ (x : Own). is_waiting x.state) os))
            → AllByRecursion (IsTrueOf s.ring s.no (next_of s.ring s.no) s.own kept) (map (λ (x : Own). reserve_of s x.entry) (cond b (o ∷ filter (λ (x : Own). is_waiting x.state) os) (filter (λ (x : Own). is_waiting x.state) os)))
        pick true w rest = ((λ z. g.0 w), rest)
        pick false w rest = rest
own_turn s (turn.Take (packet.Reserve v at rate to)) kept sent sound fresh told h =
    more_sent s.ring s.no (next_of s.ring s.no) (reserved s (record { instance = v; at = at; rate = rate })).own kept sent (answer_to_reserve s (record { instance = v; at = at; rate = rate }) ∷ [])
    (same (is_kept s.kept v) (first_over s at rate)) (answered_far (is_kept s.kept v) (first_over s at rate), tt)
  where
    same : (b : Bool) (o : Option Over) → IsLink s.ring s.no (next_of s.ring s.no) (cond b s (keeping s (record { instance = v; at = at; rate = rate }) o)).own kept sent
    same true o = h
    same false None = h
    same false (Some over) = h

    answered_far : (b : Bool) (o : Option Over) → IsTrueOf s.ring s.no (next_of s.ring s.no) (reserved s (record { instance = v; at = at; rate = rate })).own kept (cond b (confirm_of s v) (answering s v o))
    answered_far true o = λ z. absurd (before_not s.ring s.no sound.ring sound.no z)
    answered_far false None = λ z. absurd (before_not s.ring s.no sound.ring sound.no z)
    answered_far false (Some over) = tt
own_turn s (turn.Take (packet.Confirm v to)) kept sent sound fresh told h =
    let w = told fresh in
    confirmed_case w.o w.found w.held
  where
    confirmed_case : (o : Own) → find (is_of v) s.own ≡ Some o → (find (is_for v) kept ≡ Some o.entry) ⊎ (is_live o.state ≡ false)
        → IsLink s.ring s.no (next_of s.ring s.no) (confirmed s v).own kept (sent ++ sending s (packet.Confirm v to))
    confirmed_case o f k = rw f (by_state o.state refl)
      where
        none : IsLink s.ring s.no (next_of s.ring s.no) s.own kept (sent ++ [])
        none = more_sent s.ring s.no (next_of s.ring s.no) s.own kept sent [] h tt

        release : is_live o.state ≡ false → IsLink s.ring s.no (next_of s.ring s.no) s.own kept (sent ++ release_of s v ∷ [])
        release l = more_sent s.ring s.no (next_of s.ring s.no) s.own kept sent (release_of s v ∷ []) h ((λ z. record { o = o; found = f; ended = l }), tt)

        by_state : (x : NetState) → o.state ≡ x → IsLink s.ring s.no (next_of s.ring s.no) (cond (is_waiting x) (record s { own = with_state v state.Placed s.own }) s).own kept (sent ++ cond (is_live x) [] (release_of s v ∷ []))
        by_state state.Waiting e =
            let l : is_live o.state ≡ true = rw e refl in
            link_state s.ring s.no (next_of s.ring s.no) v state.Placed s.own o kept sent [] h f l (λ p. ⊎_elim (λ y. y) (λ n. absurd (clash l n)) k) tt
        by_state state.Placed e = none
        by_state (state.Full quantum sum) e = release (rw e refl)
        by_state (state.Refused quantum sum) e = release (rw e refl)
        by_state state.Stopped e = release (rw e refl)
own_turn s (turn.Take (packet.Refuse v quantum sum to)) kept sent sound fresh told h = cases (find (is_of v) s.own) refl
  where
    none : IsLink s.ring s.no (next_of s.ring s.no) s.own kept (sent ++ [])
    none = more_sent s.ring s.no (next_of s.ring s.no) s.own kept sent [] h tt

    cases : (f : Option Own) → find (is_of v) s.own ≡ f → IsLink s.ring s.no (next_of s.ring s.no) (cond (waits f) (record s { own = with_state v (state.Refused quantum sum) s.own }) s).own kept (sent ++ [])
    cases None e = none
    cases (Some o) e = by_state o.state refl
      where
        by_state : (x : NetState) → o.state ≡ x → IsLink s.ring s.no (next_of s.ring s.no) (cond (is_waiting x) (record s { own = with_state v (state.Refused quantum sum) s.own }) s).own kept (sent ++ [])
        by_state state.Waiting w = link_state s.ring s.no (next_of s.ring s.no) v (state.Refused quantum sum) s.own o kept sent [] h e (rw w refl) (λ p. absurd (clash p refl)) tt
        by_state state.Placed w = none
        by_state (state.Full q y) w = none
        by_state (state.Refused q y) w = none
        by_state state.Stopped w = none
own_turn s (turn.Take (packet.Release v to)) kept sent sound fresh told h = more_sent s.ring s.no (next_of s.ring s.no) s.own kept sent [] h tt

-- A turn of the successor.
pub kept_turn : (s : CubState) (t : Turn) (own : List Own) (sent : List Packet) → IsSound s → IsFresh s t → IsTold s.ring (before s.ring s.no) s.no own s.kept t
    → IsLink s.ring (before s.ring s.no) s.no own s.kept sent → IsLink s.ring (before s.ring s.no) s.no own (turned s t).kept (sent ++ telling s t)
kept_turn s (turn.Ask v at rate) own sent sound fresh told h =
    more_sent s.ring (before s.ring s.no) s.no own s.kept sent (asking s v at rate) h (more (is_waiting (state_of (answer_to s at rate))))
  where
    more : (b : Bool) → AllByRecursion (IsTrueOf s.ring (before s.ring s.no) s.no own s.kept) (cond b (reserve_of s (record { instance = v; at = at; rate = rate }) ∷ []) [])
    more true = ((λ z. absurd (next_not s.ring s.no sound.ring sound.no z)), tt)
    more false = tt
kept_turn s (turn.Stop v) own sent sound fresh told h = cases (counts (find (is_of v) s.own)) (is_far s.ring (find (is_of v) s.own))
  where
    cases : (b f : Bool) → IsLink s.ring (before s.ring s.no) s.no own (cond b (record s { own = with_state v state.Stopped s.own }) s).kept (sent ++ cond (b && f) (release_of s v ∷ []) [])
    cases false f = more_sent s.ring (before s.ring s.no) s.no own s.kept sent [] h tt
    cases true false = more_sent s.ring (before s.ring s.no) s.no own s.kept sent [] h tt
    cases true true = more_sent s.ring (before s.ring s.no) s.no own s.kept sent (release_of s v ∷ []) h ((λ z. absurd (next_not s.ring s.no sound.ring sound.no z)), tt)
kept_turn s turn.Renew own sent sound fresh told h =
    more_sent s.ring (before s.ring s.no) s.no own s.kept sent (renewing s) h
    (all_append (IsTrueOf s.ring (before s.ring s.no) s.no own s.kept) (reserving s) (confirming s)
    (all_of_map (λ (o : Own). reserve_of s o.entry) (IsTrueOf s.ring (before s.ring s.no) s.no own s.kept) (filter (λ (o : Own). is_waiting o.state) s.own) (λ o z. absurd (next_not s.ring s.no sound.ring sound.no z)))
    (all_confirmed s.kept (all_found (λ (e : Entry). e.instance.0) (λ (e : Entry). IsConfirmed own s.kept e.instance) s.kept sound.kept_rises confirm)))
  where
    confirm : (e : Entry) → find (is_for e.instance) s.kept ≡ Some e → IsConfirmed own s.kept e.instance
    confirm e f = let w = h.asked e.instance e f in record { o = w.o; found = w.found; held = inl (f ∙ ap (λ (x : Entry). Some x) (sym w.same)) }

    all_confirmed : (xs : List Entry) → AllByRecursion (λ (e : Entry). IsConfirmed own s.kept e.instance) xs → AllByRecursion (IsTrueOf s.ring (before s.ring s.no) s.no own s.kept) (map (λ (e : Entry). confirm_of s e.instance) xs)
    all_confirmed [] g = tt
    all_confirmed (e ∷ es) g = ((λ z. g.0), all_confirmed es g.1)
kept_turn s (turn.Take (packet.Reserve v at rate to)) own sent sound fresh told h = cases (is_kept s.kept v) refl (first_over s at rate)
  where
    entry : Entry
    entry = record { instance = v; at = at; rate = rate }

    cases : (b : Bool) → is_kept s.kept v ≡ b → (o : Option Over)
        → IsLink s.ring (before s.ring s.no) s.no own (cond b s (keeping s (record { instance = v; at = at; rate = rate }) o)).kept (sent ++ cond b (confirm_of s v) (answering s v o) ∷ [])
    cases true e o =
        let k = some_any (is_for v) s.kept e in
        let w = h.asked v k.0 k.1 in
        more_sent s.ring (before s.ring s.no) s.no own s.kept sent (confirm_of s v ∷ []) h ((λ z. record { o = w.o; found = w.found; held = inl (k.1 ∙ ap (λ (x : Entry). Some x) (sym w.same)) }), tt)
    cases false e None =
        let none = none_any (is_for v) s.kept e in
        let w = told fresh in
        let found = put_found (λ (x : Entry). x.instance.0) (is_for v) (record { instance = v; at = at; rate = rate }) s.kept (eq-eqb v.0 v.0 refl) none in
        link_kept s.ring (before s.ring s.no) s.no v (record { instance = v; at = at; rate = rate }) own s.kept sent (confirm_of s v ∷ []) h refl none w
        ((λ z. record { o = w.o; found = w.found; held = inl (found ∙ ap (λ (x : Entry). Some x) (sym w.same)) }), tt)
    cases false e (Some over) = more_sent s.ring (before s.ring s.no) s.no own s.kept sent (refuse_of s v over ∷ []) h (tt, tt)
kept_turn s (turn.Take (packet.Confirm v to)) own sent sound fresh told h = cases (waits (find (is_of v) s.own)) (counts (find (is_of v) s.own))
  where
    cases : (b f : Bool) → IsLink s.ring (before s.ring s.no) s.no own (cond b (record s { own = with_state v state.Placed s.own }) s).kept (sent ++ cond f [] (release_of s v ∷ []))
    cases b true = same b (more_sent s.ring (before s.ring s.no) s.no own s.kept sent [] h tt)
      where
        same : (b : Bool) → IsLink s.ring (before s.ring s.no) s.no own s.kept (sent ++ []) → IsLink s.ring (before s.ring s.no) s.no own (cond b (record s { own = with_state v state.Placed s.own }) s).kept (sent ++ [])
        same true g = g
        same false g = g
    cases b false = same b (more_sent s.ring (before s.ring s.no) s.no own s.kept sent (release_of s v ∷ []) h ((λ z. absurd (next_not s.ring s.no sound.ring sound.no z)), tt))
      where
        same : (b : Bool) → IsLink s.ring (before s.ring s.no) s.no own s.kept (sent ++ release_of s v ∷ []) → IsLink s.ring (before s.ring s.no) s.no own (cond b (record s { own = with_state v state.Placed s.own }) s).kept (sent ++ release_of s v ∷ [])
        same true g = g
        same false g = g
kept_turn s (turn.Take (packet.Refuse v quantum sum to)) own sent sound fresh told h = cases (waits (find (is_of v) s.own)) (more_sent s.ring (before s.ring s.no) s.no own s.kept sent [] h tt)
  where
    cases : (b : Bool) → IsLink s.ring (before s.ring s.no) s.no own s.kept (sent ++ []) → IsLink s.ring (before s.ring s.no) s.no own (cond b (record s { own = with_state v (state.Refused quantum sum) s.own }) s).kept (sent ++ [])
    cases true g = g
    cases false g = g
kept_turn s (turn.Take (packet.Release v to)) own sent sound fresh told h = link_released s.ring (before s.ring s.no) s.no v own s.kept sent [] h (told fresh) tt
