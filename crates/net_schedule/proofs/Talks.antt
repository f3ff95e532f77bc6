-- What is under way between a cub and its successor, whichever cub has a turn.
use Rattle.std.proofs.Common.{◌≡◌, ◌∙◌, ℕ, ◌&&◌, ◌||◌, ◌==◌, Bool, true, false, not, cond, List, [], ◌∷◌, ◌++◌, Some, None, Option, refl, sym, ap, subst, eq-eqb}
use Rattle.std.specs.Prelude.{filter, find}
use Rattle.std.specs.List.{list_any}
use Rattle.std.proofs.lemmas.Bool.{eqb-true}
use Rattle.tiger_base.specs.declared.number.Instance.{Instance}
use Rattle.net_schedule.specs.declared.ring.Entry.{Entry}
use Rattle.net_schedule.specs.declared.ring.NetState.{NetState}
use Rattle.net_schedule.specs.declared.ring.NetState.TheVariants as state
use Rattle.net_schedule.specs.declared.ring.Own.{Own}
use Rattle.net_schedule.specs.declared.ring.Over.{Over}
use Rattle.net_schedule.specs.declared.packet.Packet.{Packet}
use Rattle.net_schedule.specs.declared.packet.Packet.TheVariants as packet
use Rattle.net_schedule.specs.declared.turn.Turn.{Turn}
use Rattle.net_schedule.specs.declared.turn.Turn.TheVariants as turn
use Rattle.net_schedule.specs.Rings.{reaches, next_of, before}
use Rattle.net_schedule.specs.Cubs.{CubState, IsSound, is_of, is_for, is_kept, is_live, is_waiting, waits, counts, is_far, number_of, put_in, with_state, first_over, answer_to, state_of, asked_entry, asking, reserve_of, release_of, confirm_of, refuse_of, renewing, keeping, answering, answer_to_reserve, sending}
use Rattle.net_schedule.specs.Worlds.{turned, telling}
use Rattle.net_schedule.specs.Links.{IsLink}
use Rattle.net_schedule.specs.Settled.{is_like, unheard, clears, decides, is_placed_at, IsInTalk}
use Rattle.net_schedule.proofs.Finds.{clash, same_instance, one_some, never, none_any, put_found, put_others, state_found, state_others, released_none, released_others}
use Rattle.net_schedule.proofs.Places.{not_same, differ, next_not, before_not}
use Rattle.net_schedule.proofs.Turns.{IsFresh}

-- ---- tests of two parts

-- A disjunction holds if its second part does.
pub or_right : (a b : Bool) → b ≡ true → (a || b) ≡ true
or_right true b e = refl
or_right false b e = e

-- One holds still if its second part becomes another one that holds if it did.
pub or_more : (a b c : Bool) → (b ≡ true → c ≡ true) → (a || b) ≡ true → (a || c) ≡ true
or_more true b c more e = refl
or_more false b c more e = more e

-- If its first part does not hold, its second does.
pub or_second : (a b : Bool) → a ≡ false → (a || b) ≡ true → b ≡ true
or_second true b fails e = absurd (clash refl fails)
or_second false b fails e = e

-- A conjunction does not hold if its second part does not.
pub and_off : (a b : Bool) → b ≡ false → (a && b) ≡ false
and_off true b e = e
and_off false b e = refl

-- Nor does it beside what does not hold.
pub or_off : (a b : Bool) → b ≡ false → ((a && b) || false) ≡ false
or_off true b e = rw e refl
or_off false b e = refl

-- ---- packets that are like one another

-- a test of packets goes by what makes two of them alike
abbrev pub IsOfLikes : (Packet → Bool) → Type 0
IsOfLikes f = (p q : Packet) → is_like p q ≡ true → f p ≡ f q

-- Equal numbers pass the same tests.
same_tests : (a b x y v c : ℕ) → (x == a && y == b) ≡ true → (a == v && b == c) ≡ (x == v && y == c)
same_tests a b x y v c e = cases (x == a) (y == b) refl refl e
  where
    cases : (s t : Bool) → (x == a) ≡ s → (y == b) ≡ t → (s && t) ≡ true → (a == v && b == c) ≡ (x == v && y == c)
    cases true true es et g = rw (eqb-true x a es, eqb-true y b et) refl
    cases true false es et g = absurd (clash g refl)
    cases false t es et g = absurd (clash g refl)

-- What clears goes by it.
pub clears_likes : (d c : ℕ) (v : Instance) → IsOfLikes (clears d c v)
clears_likes d c v (packet.Reserve u at rate to) (packet.Reserve x place speed on) e = refl
clears_likes d c v (packet.Reserve u at rate to) (packet.Confirm x on) e = absurd (clash e refl)
clears_likes d c v (packet.Reserve u at rate to) (packet.Refuse x quantum sum on) e = absurd (clash e refl)
clears_likes d c v (packet.Reserve u at rate to) (packet.Release x on) e = absurd (clash e refl)
clears_likes d c v (packet.Confirm u to) (packet.Reserve x place speed on) e = absurd (clash e refl)
clears_likes d c v (packet.Confirm u to) (packet.Confirm x on) e = ap (λ (b : Bool). b || false) (same_tests u.0 to.0 x.0 on.0 v.0 d e)
clears_likes d c v (packet.Confirm u to) (packet.Refuse x quantum sum on) e = absurd (clash e refl)
clears_likes d c v (packet.Confirm u to) (packet.Release x on) e = absurd (clash e refl)
clears_likes d c v (packet.Refuse u q y to) (packet.Reserve x place speed on) e = absurd (clash e refl)
clears_likes d c v (packet.Refuse u q y to) (packet.Confirm x on) e = absurd (clash e refl)
clears_likes d c v (packet.Refuse u q y to) (packet.Refuse x quantum sum on) e = refl
clears_likes d c v (packet.Refuse u q y to) (packet.Release x on) e = absurd (clash e refl)
clears_likes d c v (packet.Release u to) (packet.Reserve x place speed on) e = absurd (clash e refl)
clears_likes d c v (packet.Release u to) (packet.Confirm x on) e = absurd (clash e refl)
clears_likes d c v (packet.Release u to) (packet.Refuse x quantum sum on) e = absurd (clash e refl)
clears_likes d c v (packet.Release u to) (packet.Release x on) e = same_tests u.0 to.0 x.0 on.0 v.0 c e

-- What decides goes by it.
pub decides_likes : (d c : ℕ) (v : Instance) → IsOfLikes (decides d c v)
decides_likes d c v (packet.Reserve u at rate to) (packet.Reserve x place speed on) e = ap (λ (b : Bool). b || false) (same_tests u.0 to.0 x.0 on.0 v.0 c e)
decides_likes d c v (packet.Reserve u at rate to) (packet.Confirm x on) e = absurd (clash e refl)
decides_likes d c v (packet.Reserve u at rate to) (packet.Refuse x quantum sum on) e = absurd (clash e refl)
decides_likes d c v (packet.Reserve u at rate to) (packet.Release x on) e = absurd (clash e refl)
decides_likes d c v (packet.Confirm u to) (packet.Reserve x place speed on) e = absurd (clash e refl)
decides_likes d c v (packet.Confirm u to) (packet.Confirm x on) e = ap (λ (b : Bool). b || false) (same_tests u.0 to.0 x.0 on.0 v.0 d e)
decides_likes d c v (packet.Confirm u to) (packet.Refuse x quantum sum on) e = absurd (clash e refl)
decides_likes d c v (packet.Confirm u to) (packet.Release x on) e = absurd (clash e refl)
decides_likes d c v (packet.Refuse u q y to) (packet.Reserve x place speed on) e = absurd (clash e refl)
decides_likes d c v (packet.Refuse u q y to) (packet.Confirm x on) e = absurd (clash e refl)
decides_likes d c v (packet.Refuse u q y to) (packet.Refuse x quantum sum on) e = same_tests u.0 to.0 x.0 on.0 v.0 d e
decides_likes d c v (packet.Refuse u q y to) (packet.Release x on) e = absurd (clash e refl)
decides_likes d c v (packet.Release u to) (packet.Reserve x place speed on) e = absurd (clash e refl)
decides_likes d c v (packet.Release u to) (packet.Confirm x on) e = absurd (clash e refl)
decides_likes d c v (packet.Release u to) (packet.Refuse x quantum sum on) e = absurd (clash e refl)
decides_likes d c v (packet.Release u to) (packet.Release x on) e = refl

-- ---- what is under way after a turn

-- What is under way passes a test still if more is.
pub any_left : (f : Packet → Bool) (xs ys : List Packet) → list_any f xs ≡ true → list_any f (xs ++ ys) ≡ true
any_left f [] ys e = absurd (clash e refl)
any_left f (x ∷ xs) ys e = or_more (f x) (list_any f xs) (list_any f (xs ++ ys)) (λ g. any_left f xs ys g) e

-- It does if what is more does.
pub any_right : (f : Packet → Bool) (xs ys : List Packet) → list_any f ys ≡ true → list_any f (xs ++ ys) ≡ true
any_right f [] ys e = e
any_right f (x ∷ xs) ys e = or_right (f x) (list_any f (xs ++ ys)) (any_right f xs ys e)

-- And it does without all that is like a packet that does not pass it.
any_unlike : (f : Packet → Bool) (p : Packet) (xs : List Packet) → IsOfLikes f → f p ≡ false → list_any f xs ≡ true → list_any f (filter (λ q. not (is_like p q)) xs) ≡ true
any_unlike f p [] likes fails e = absurd (clash e refl)
any_unlike f p (x ∷ xs) likes fails e = cases (is_like p x) refl (f x) refl e (λ g. any_unlike f p xs likes fails g)
  where
    cases : (l : Bool) → is_like p x ≡ l → (b : Bool) → f x ≡ b → (b || list_any f xs) ≡ true
        → (list_any f xs ≡ true → list_any f (filter (λ q. not (is_like p q)) xs) ≡ true)
        → list_any f (cond (not l) (x ∷ filter (λ q. not (is_like p q)) xs) (filter (λ q. not (is_like p q)) xs)) ≡ true
    cases true el true eb g ih = absurd (clash (likes p x el ∙ eb) fails)
    cases true el false eb g ih = ih g
    cases false el true eb g ih = rw eb refl
    cases false el false eb g ih = rw eb (ih g)

-- what comes to a cub with its turn does not pass a test
abbrev pub IsNoneOf : (Packet → Bool) → Turn → Type 0
IsNoneOf f (turn.Ask v at rate) = Unit {0}
IsNoneOf f (turn.Stop v) = Unit {0}
IsNoneOf f turn.Renew = Unit {0}
IsNoneOf f (turn.Take p) = f p ≡ false

-- What passes a test is under way still if what comes with a turn does not pass it.
pub stays : (f : Packet → Bool) (t : Turn) (out more : List Packet) → IsOfLikes f → IsNoneOf f t → list_any f out ≡ true → list_any f (unheard t out ++ more) ≡ true
stays f (turn.Ask v at rate) out more likes fails e = any_left f out more e
stays f (turn.Stop v) out more likes fails e = any_left f out more e
stays f turn.Renew out more likes fails e = any_left f out more e
stays f (turn.Take p) out more likes fails e = any_left f (filter (λ q. not (is_like p q)) out) more (any_unlike f p out likes fails e)

-- ---- what each packet says

says_reserve : (d c : ℕ) (v : Instance) (at rate : ℕ) → list_any (decides d c v) (packet.Reserve v at rate (record { 0 = c }) ∷ []) ≡ true
says_reserve d c v at rate = rw (eq-eqb v.0 v.0 refl, eq-eqb c c refl) refl

says_refuse : (d c : ℕ) (v : Instance) (quantum sum : ℕ) → list_any (decides d c v) (packet.Refuse v quantum sum (record { 0 = d }) ∷ []) ≡ true
says_refuse d c v quantum sum = rw (eq-eqb v.0 v.0 refl, eq-eqb d d refl) refl

says_confirm : (d c : ℕ) (v : Instance) → list_any (decides d c v) (packet.Confirm v (record { 0 = d }) ∷ []) ≡ true
says_confirm d c v = rw (eq-eqb v.0 v.0 refl, eq-eqb d d refl) refl

clears_confirm : (d c : ℕ) (v : Instance) → list_any (clears d c v) (packet.Confirm v (record { 0 = d }) ∷ []) ≡ true
clears_confirm d c v = rw (eq-eqb v.0 v.0 refl, eq-eqb d d refl) refl

clears_release : (d c : ℕ) (v : Instance) → list_any (clears d c v) (packet.Release v (record { 0 = c }) ∷ []) ≡ true
clears_release d c v = rw (eq-eqb v.0 v.0 refl, eq-eqb c c refl) refl

-- ---- a turn between a cub and its successor

-- Neither list changes, and what comes with the turn says nothing of their entries.
talk_quiet : (d c : ℕ) (own : List Own) (kept : List Entry) (t : Turn) (out more : List Packet) → IsInTalk d c own kept out
    → ((u : Instance) → IsNoneOf (clears d c u) t) → ((u : Instance) → IsNoneOf (decides d c u) t) → IsInTalk d c own kept (unheard t out ++ more)
talk_quiet d c own kept t out more h nc nd = record {
  lines = λ u e f. or_more (is_placed_at (find (is_of u) own)) (list_any (clears d c u) out) (list_any (clears d c u) (unheard t out ++ more))
      (λ g. stays (clears d c u) t out more (clears_likes d c u) (nc u) g) (h.lines u e f);
  asks = λ u w. stays (decides d c u) t out more (decides_likes d c u) (nd u) (h.asks u w);
}

-- The entries of one instance change, and what comes with the turn says nothing of others.
talk_of_one : (d c : ℕ) (v : Instance) (own newly : List Own) (kept again : List Entry) (t : Turn) (out more : List Packet) → IsInTalk d c own kept out
    → ((u : Instance) → (v.0 == u.0) ≡ false → find (is_of u) newly ≡ find (is_of u) own)
    → ((u : Instance) → (v.0 == u.0) ≡ false → find (is_for u) again ≡ find (is_for u) kept)
    → ((u : Instance) → (v.0 == u.0) ≡ false → IsNoneOf (clears d c u) t)
    → ((u : Instance) → (v.0 == u.0) ≡ false → IsNoneOf (decides d c u) t)
    → ((e : Entry) → find (is_for v) again ≡ Some e → (is_placed_at (find (is_of v) newly) || list_any (clears d c v) (unheard t out ++ more)) ≡ true)
    → (waits (find (is_of v) newly) ≡ true → list_any (decides d c v) (unheard t out ++ more) ≡ true)
    → IsInTalk d c newly again (unheard t out ++ more)
talk_of_one d c v own newly kept again t out more h eo ek nc nd line ask = record { lines = lines; asks = asks }
  where
    lines : (u : Instance) (e : Entry) → find (is_for u) again ≡ Some e → (is_placed_at (find (is_of u) newly) || list_any (clears d c u) (unheard t out ++ more)) ≡ true
    lines u e f = cases (v.0 == u.0) refl
      where
        cases : (b : Bool) → (v.0 == u.0) ≡ b → (is_placed_at (find (is_of u) newly) || list_any (clears d c u) (unheard t out ++ more)) ≡ true
        cases true eb =
            let same : v ≡ u = same_instance v u (eqb-true v.0 u.0 eb) in
            subst (λ (w : Instance). (is_placed_at (find (is_of w) newly) || list_any (clears d c w) (unheard t out ++ more)) ≡ true) same
            (line e (subst (λ (w : Instance). find (is_for w) again ≡ Some e) (sym same) f))
        cases false eb =
            subst (λ (o : Option Own). (is_placed_at o || list_any (clears d c u) (unheard t out ++ more)) ≡ true) (sym (eo u eb))
            (or_more (is_placed_at (find (is_of u) own)) (list_any (clears d c u) out) (list_any (clears d c u) (unheard t out ++ more))
            (λ g. stays (clears d c u) t out more (clears_likes d c u) (nc u eb) g) (h.lines u e (sym (ek u eb) ∙ f)))

    asks : (u : Instance) → waits (find (is_of u) newly) ≡ true → list_any (decides d c u) (unheard t out ++ more) ≡ true
    asks u w = cases (v.0 == u.0) refl
      where
        cases : (b : Bool) → (v.0 == u.0) ≡ b → list_any (decides d c u) (unheard t out ++ more) ≡ true
        cases true eb =
            let same : v ≡ u = same_instance v u (eqb-true v.0 u.0 eb) in
            subst (λ (z : Instance). list_any (decides d c z) (unheard t out ++ more) ≡ true) same
            (ask (subst (λ (z : Instance). waits (find (is_of z) newly) ≡ true) (sym same) w))
        cases false eb = stays (decides d c u) t out more (decides_likes d c u) (nd u eb) (h.asks u (subst (λ (o : Option Own). waits o ≡ true) (eo u eb) w))

-- A turn of the owner.
pub own_talk : (s : CubState) (t : Turn) (kept : List Entry) (sent out : List Packet) → IsSound s → IsFresh s t
    → IsLink s.ring s.no (next_of s.ring s.no) s.own kept sent → IsInTalk s.no (next_of s.ring s.no) s.own kept out
    → IsInTalk s.no (next_of s.ring s.no) (turned s t).own kept (unheard t out ++ telling s t)
own_talk s (turn.Ask v at rate) kept sent out sound fresh link h =
    talk_of_one s.no (next_of s.ring s.no) v s.own (put_in number_of (asked_entry s v at rate) s.own) kept kept (turn.Ask v at rate) out (asking s v at rate) h
    (λ u eb. put_others number_of (is_of u) (asked_entry s v at rate) s.own eb) (λ u eb. refl) (λ u eb. tt) (λ u eb. tt) line ask
  where
    none : find (is_of v) s.own ≡ None
    none = none_any (is_of v) s.own fresh

    found : find (is_of v) (put_in number_of (asked_entry s v at rate) s.own) ≡ Some (asked_entry s v at rate)
    found = put_found number_of (is_of v) (asked_entry s v at rate) s.own (eq-eqb v.0 v.0 refl) none

    line : (e : Entry) → find (is_for v) kept ≡ Some e
        → (is_placed_at (find (is_of v) (put_in number_of (asked_entry s v at rate) s.own)) || list_any (clears s.no (next_of s.ring s.no) v) (out ++ asking s v at rate)) ≡ true
    line e f = let w = link.asked v e f in absurd (never w.o w.found none)

    told : (b : Bool) → b ≡ true → list_any (decides s.no (next_of s.ring s.no) v) (cond b (reserve_of s (record { instance = v; at = at; rate = rate }) ∷ []) []) ≡ true
    told true e = says_reserve s.no (next_of s.ring s.no) v at rate
    told false e = absurd (clash e refl)

    ask : waits (find (is_of v) (put_in number_of (asked_entry s v at rate) s.own)) ≡ true → list_any (decides s.no (next_of s.ring s.no) v) (out ++ asking s v at rate) ≡ true
    ask w = any_right (decides s.no (next_of s.ring s.no) v) out (asking s v at rate)
        (told (is_waiting (state_of (answer_to s at rate))) (subst (λ (o : Option Own). waits o ≡ true) found w))
own_talk s (turn.Stop v) kept sent out sound fresh link h = cases (find (is_of v) s.own) refl
  where
    cases : (f : Option Own) → find (is_of v) s.own ≡ f
        → IsInTalk s.no (next_of s.ring s.no) (cond (counts f) (record s { own = with_state v state.Stopped s.own }) s).own kept (out ++ cond (counts f && is_far s.ring f) (release_of s v ∷ []) [])
    cases None e = talk_quiet s.no (next_of s.ring s.no) s.own kept (turn.Stop v) out [] h (λ u. tt) (λ u. tt)
    cases (Some o) e = live (is_live o.state)
      where
        found : find (is_of v) (with_state v state.Stopped s.own) ≡ Some (record o { state = state.Stopped })
        found = state_found v state.Stopped s.own o e

        far : (x : Entry) → find (is_for v) kept ≡ Some x → reaches s.ring o.entry.at ≡ true
        far x f =
            let w = link.asked v x f in
            subst (λ (y : Entry). reaches s.ring y.at ≡ true) (sym (ap (λ (z : Own). z.entry) (one_some o w.o e w.found) ∙ w.same)) w.far

        line : (b : Bool) → reaches s.ring o.entry.at ≡ b → (x : Entry) → find (is_for v) kept ≡ Some x
            → (is_placed_at (find (is_of v) (with_state v state.Stopped s.own)) || list_any (clears s.no (next_of s.ring s.no) v) (out ++ cond b (release_of s v ∷ []) [])) ≡ true
        line true eb x f =
            or_right (is_placed_at (find (is_of v) (with_state v state.Stopped s.own))) (list_any (clears s.no (next_of s.ring s.no) v) (out ++ release_of s v ∷ []))
            (any_right (clears s.no (next_of s.ring s.no) v) out (release_of s v ∷ []) (clears_release s.no (next_of s.ring s.no) v))
        line false eb x f = absurd (clash (far x f) eb)

        stop : (b : Bool) → reaches s.ring o.entry.at ≡ b
            → IsInTalk s.no (next_of s.ring s.no) (with_state v state.Stopped s.own) kept (out ++ cond b (release_of s v ∷ []) [])
        stop b eb =
            talk_of_one s.no (next_of s.ring s.no) v s.own (with_state v state.Stopped s.own) kept kept (turn.Stop v) out (cond b (release_of s v ∷ []) []) h
            (λ u eu. state_others v u state.Stopped s.own (differ v.0 u.0 eu)) (λ u eu. refl) (λ u eu. tt) (λ u eu. tt) (line b eb)
            (λ w. absurd (clash (subst (λ (z : Option Own). waits z ≡ true) found w) refl))

        live : (b : Bool)
            → IsInTalk s.no (next_of s.ring s.no) (cond b (record s { own = with_state v state.Stopped s.own }) s).own kept (out ++ cond (b && reaches s.ring o.entry.at) (release_of s v ∷ []) [])
        live false = talk_quiet s.no (next_of s.ring s.no) s.own kept (turn.Stop v) out [] h (λ u. tt) (λ u. tt)
        live true = stop (reaches s.ring o.entry.at) refl
own_talk s turn.Renew kept sent out sound fresh link h = talk_quiet s.no (next_of s.ring s.no) s.own kept turn.Renew out (renewing s) h (λ u. tt) (λ u. tt)
own_talk s (turn.Take (packet.Reserve v at rate to)) kept sent out sound fresh link h = same (is_kept s.kept v) (first_over s at rate)
  where
    off : (to.0 == next_of s.ring s.no) ≡ false
    off = not_same to.0 (next_of s.ring s.no) (λ z. next_not s.ring s.no sound.ring sound.no (sym z ∙ fresh))

    quiet : (more : List Packet) → IsInTalk s.no (next_of s.ring s.no) s.own kept (unheard (turn.Take (packet.Reserve v at rate to)) out ++ more)
    quiet more = talk_quiet s.no (next_of s.ring s.no) s.own kept (turn.Take (packet.Reserve v at rate to)) out more h (λ u. refl) (λ u. or_off (v.0 == u.0) (to.0 == next_of s.ring s.no) off)

    same : (b : Bool) (o : Option Over)
        → IsInTalk s.no (next_of s.ring s.no) (cond b s (keeping s (record { instance = v; at = at; rate = rate }) o)).own kept
        (unheard (turn.Take (packet.Reserve v at rate to)) out ++ answer_to_reserve s (record { instance = v; at = at; rate = rate }) ∷ [])
    same true o = quiet (answer_to_reserve s (record { instance = v; at = at; rate = rate }) ∷ [])
    same false None = quiet (answer_to_reserve s (record { instance = v; at = at; rate = rate }) ∷ [])
    same false (Some over) = quiet (answer_to_reserve s (record { instance = v; at = at; rate = rate }) ∷ [])
own_talk s (turn.Take (packet.Confirm v to)) kept sent out sound fresh link h = cases (find (is_of v) s.own) refl
  where
    one : (newly : List Own) (more : List Packet) → ((u : Instance) → (v.0 == u.0) ≡ false → find (is_of u) newly ≡ find (is_of u) s.own)
        → (is_placed_at (find (is_of v) newly) || list_any (clears s.no (next_of s.ring s.no) v) (unheard (turn.Take (packet.Confirm v to)) out ++ more)) ≡ true
        → waits (find (is_of v) newly) ≡ false
        → IsInTalk s.no (next_of s.ring s.no) newly kept (unheard (turn.Take (packet.Confirm v to)) out ++ more)
    one newly more others line idle =
        talk_of_one s.no (next_of s.ring s.no) v s.own newly kept kept (turn.Take (packet.Confirm v to)) out more h others (λ u eb. refl) (λ u eb. rw eb refl) (λ u eb. rw eb refl)
        (λ x f. line) (λ w. absurd (clash w idle))

    ended : waits (find (is_of v) s.own) ≡ false → IsInTalk s.no (next_of s.ring s.no) s.own kept (unheard (turn.Take (packet.Confirm v to)) out ++ release_of s v ∷ [])
    ended idle =
        one s.own (release_of s v ∷ []) (λ u eb. refl)
        (or_right (is_placed_at (find (is_of v) s.own)) (list_any (clears s.no (next_of s.ring s.no) v) (unheard (turn.Take (packet.Confirm v to)) out ++ release_of s v ∷ []))
        (any_right (clears s.no (next_of s.ring s.no) v) (unheard (turn.Take (packet.Confirm v to)) out) (release_of s v ∷ []) (clears_release s.no (next_of s.ring s.no) v)))
        idle

    cases : (f : Option Own) → find (is_of v) s.own ≡ f
        → IsInTalk s.no (next_of s.ring s.no) (cond (waits f) (record s { own = with_state v state.Placed s.own }) s).own kept (unheard (turn.Take (packet.Confirm v to)) out ++ cond (counts f) [] (release_of s v ∷ []))
    cases None e = ended (rw e refl)
    cases (Some o) e = by_state o.state refl
      where
        idle : (x : NetState) → o.state ≡ x → is_waiting x ≡ false → waits (find (is_of v) s.own) ≡ false
        idle x es ew = subst (λ (z : Option Own). waits z ≡ false) (sym e) (rw es ew)

        by_state : (x : NetState) → o.state ≡ x
            → IsInTalk s.no (next_of s.ring s.no) (cond (is_waiting x) (record s { own = with_state v state.Placed s.own }) s).own kept (unheard (turn.Take (packet.Confirm v to)) out ++ cond (is_live x) [] (release_of s v ∷ []))
        by_state state.Waiting es =
            let found = state_found v state.Placed s.own o e in
            one (with_state v state.Placed s.own) [] (λ u eb. state_others v u state.Placed s.own (differ v.0 u.0 eb))
            (subst (λ (z : Option Own). (is_placed_at z || list_any (clears s.no (next_of s.ring s.no) v) (unheard (turn.Take (packet.Confirm v to)) out ++ [])) ≡ true) (sym found) refl)
            (subst (λ (z : Option Own). waits z ≡ false) (sym found) refl)
        by_state state.Placed es =
            one s.own [] (λ u eb. refl)
            (subst (λ (z : Option Own). (is_placed_at z || list_any (clears s.no (next_of s.ring s.no) v) (unheard (turn.Take (packet.Confirm v to)) out ++ [])) ≡ true) (sym e) (rw es refl))
            (idle state.Placed es refl)
        by_state (state.Full quantum sum) es = ended (idle (state.Full quantum sum) es refl)
        by_state (state.Refused quantum sum) es = ended (idle (state.Refused quantum sum) es refl)
        by_state state.Stopped es = ended (idle state.Stopped es refl)
own_talk s (turn.Take (packet.Refuse v quantum sum to)) kept sent out sound fresh link h = cases (find (is_of v) s.own) refl
  where
    kept_so : (x : Entry) → find (is_for v) kept ≡ Some x → is_placed_at (find (is_of v) s.own) ≡ false
        → list_any (clears s.no (next_of s.ring s.no) v) (unheard (turn.Take (packet.Refuse v quantum sum to)) out ++ []) ≡ true
    kept_so x f idle =
        stays (clears s.no (next_of s.ring s.no) v) (turn.Take (packet.Refuse v quantum sum to)) out [] (clears_likes s.no (next_of s.ring s.no) v) refl
        (or_second (is_placed_at (find (is_of v) s.own)) (list_any (clears s.no (next_of s.ring s.no) v) out) idle (h.lines v x f))

    quiet : waits (find (is_of v) s.own) ≡ false → IsInTalk s.no (next_of s.ring s.no) s.own kept (unheard (turn.Take (packet.Refuse v quantum sum to)) out ++ [])
    quiet idle =
        talk_of_one s.no (next_of s.ring s.no) v s.own s.own kept kept (turn.Take (packet.Refuse v quantum sum to)) out [] h (λ u eb. refl) (λ u eb. refl) (λ u eb. refl) (λ u eb. rw eb refl)
        (λ x f. or_more (is_placed_at (find (is_of v) s.own)) (list_any (clears s.no (next_of s.ring s.no) v) out) (list_any (clears s.no (next_of s.ring s.no) v) (unheard (turn.Take (packet.Refuse v quantum sum to)) out ++ []))
        (λ g. stays (clears s.no (next_of s.ring s.no) v) (turn.Take (packet.Refuse v quantum sum to)) out [] (clears_likes s.no (next_of s.ring s.no) v) refl g) (h.lines v x f))
        (λ w. absurd (clash w idle))

    cases : (f : Option Own) → find (is_of v) s.own ≡ f
        → IsInTalk s.no (next_of s.ring s.no) (cond (waits f) (record s { own = with_state v (state.Refused quantum sum) s.own }) s).own kept (unheard (turn.Take (packet.Refuse v quantum sum to)) out ++ [])
    cases None e = quiet (rw e refl)
    cases (Some o) e = by_state o.state refl
      where
        idle : (x : NetState) → o.state ≡ x → is_waiting x ≡ false → waits (find (is_of v) s.own) ≡ false
        idle x es ew = subst (λ (z : Option Own). waits z ≡ false) (sym e) (rw es ew)

        by_state : (x : NetState) → o.state ≡ x
            → IsInTalk s.no (next_of s.ring s.no) (cond (is_waiting x) (record s { own = with_state v (state.Refused quantum sum) s.own }) s).own kept (unheard (turn.Take (packet.Refuse v quantum sum to)) out ++ [])
        by_state state.Waiting es =
            let found = state_found v (state.Refused quantum sum) s.own o e in
            talk_of_one s.no (next_of s.ring s.no) v s.own (with_state v (state.Refused quantum sum) s.own) kept kept (turn.Take (packet.Refuse v quantum sum to)) out [] h
            (λ u eb. state_others v u (state.Refused quantum sum) s.own (differ v.0 u.0 eb)) (λ u eb. refl) (λ u eb. refl) (λ u eb. rw eb refl)
            (λ x f. or_right (is_placed_at (find (is_of v) (with_state v (state.Refused quantum sum) s.own))) (list_any (clears s.no (next_of s.ring s.no) v) (unheard (turn.Take (packet.Refuse v quantum sum to)) out ++ []))
            (kept_so x f (subst (λ (z : Option Own). is_placed_at z ≡ false) (sym e) (rw es refl))))
            (λ w. absurd (clash w (subst (λ (z : Option Own). waits z ≡ false) (sym found) refl)))
        by_state state.Placed es = quiet (idle state.Placed es refl)
        by_state (state.Full q y) es = quiet (idle (state.Full q y) es refl)
        by_state (state.Refused q y) es = quiet (idle (state.Refused q y) es refl)
        by_state state.Stopped es = quiet (idle state.Stopped es refl)
own_talk s (turn.Take (packet.Release v to)) kept sent out sound fresh link h =
    let off : (to.0 == next_of s.ring s.no) ≡ false = not_same to.0 (next_of s.ring s.no) (λ z. next_not s.ring s.no sound.ring sound.no (sym z ∙ fresh)) in
    talk_quiet s.no (next_of s.ring s.no) s.own kept (turn.Take (packet.Release v to)) out [] h (λ u. and_off (v.0 == u.0) (to.0 == next_of s.ring s.no) off) (λ u. refl)

-- A turn of the successor.
pub kept_talk : (s : CubState) (t : Turn) (own : List Own) (out : List Packet) → IsSound s → IsFresh s t
    → IsInTalk (before s.ring s.no) s.no own s.kept out → IsInTalk (before s.ring s.no) s.no own (turned s t).kept (unheard t out ++ telling s t)
kept_talk s (turn.Ask v at rate) own out sound fresh h = talk_quiet (before s.ring s.no) s.no own s.kept (turn.Ask v at rate) out (asking s v at rate) h (λ u. tt) (λ u. tt)
kept_talk s (turn.Stop v) own out sound fresh h = cases (counts (find (is_of v) s.own))
  where
    cases : (b : Bool) → IsInTalk (before s.ring s.no) s.no own (cond b (record s { own = with_state v state.Stopped s.own }) s).kept (out ++ telling s (turn.Stop v))
    cases true = talk_quiet (before s.ring s.no) s.no own s.kept (turn.Stop v) out (telling s (turn.Stop v)) h (λ u. tt) (λ u. tt)
    cases false = talk_quiet (before s.ring s.no) s.no own s.kept (turn.Stop v) out (telling s (turn.Stop v)) h (λ u. tt) (λ u. tt)
kept_talk s turn.Renew own out sound fresh h = talk_quiet (before s.ring s.no) s.no own s.kept turn.Renew out (renewing s) h (λ u. tt) (λ u. tt)
kept_talk s (turn.Take (packet.Reserve v at rate to)) own out sound fresh h = cases (is_kept s.kept v) refl (first_over s at rate)
  where
    confirmed : (again : List Entry) → ((u : Instance) → (v.0 == u.0) ≡ false → find (is_for u) again ≡ find (is_for u) s.kept)
        → IsInTalk (before s.ring s.no) s.no own again (unheard (turn.Take (packet.Reserve v at rate to)) out ++ confirm_of s v ∷ [])
    confirmed again others =
        talk_of_one (before s.ring s.no) s.no v own own s.kept again (turn.Take (packet.Reserve v at rate to)) out (confirm_of s v ∷ []) h (λ u eb. refl) others (λ u eb. refl) (λ u eb. rw eb refl)
        (λ x f. or_right (is_placed_at (find (is_of v) own)) (list_any (clears (before s.ring s.no) s.no v) (unheard (turn.Take (packet.Reserve v at rate to)) out ++ confirm_of s v ∷ []))
        (any_right (clears (before s.ring s.no) s.no v) (unheard (turn.Take (packet.Reserve v at rate to)) out) (confirm_of s v ∷ []) (clears_confirm (before s.ring s.no) s.no v)))
        (λ w. any_right (decides (before s.ring s.no) s.no v) (unheard (turn.Take (packet.Reserve v at rate to)) out) (confirm_of s v ∷ []) (says_confirm (before s.ring s.no) s.no v))

    cases : (b : Bool) → is_kept s.kept v ≡ b → (o : Option Over)
        → IsInTalk (before s.ring s.no) s.no own (cond b s (keeping s (record { instance = v; at = at; rate = rate }) o)).kept
        (unheard (turn.Take (packet.Reserve v at rate to)) out ++ cond b (confirm_of s v) (answering s v o) ∷ [])
    cases true e o = confirmed s.kept (λ u eb. refl)
    cases false e None =
        confirmed (put_in (λ (x : Entry). x.instance.0) (record { instance = v; at = at; rate = rate }) s.kept)
        (λ u eb. put_others (λ (x : Entry). x.instance.0) (is_for u) (record { instance = v; at = at; rate = rate }) s.kept eb)
    cases false e (Some over) =
        talk_of_one (before s.ring s.no) s.no v own own s.kept s.kept (turn.Take (packet.Reserve v at rate to)) out (refuse_of s v over ∷ []) h (λ u eb. refl) (λ u eb. refl) (λ u eb. refl) (λ u eb. rw eb refl)
        (λ x f. absurd (never x f (none_any (is_for v) s.kept e)))
        (λ w. any_right (decides (before s.ring s.no) s.no v) (unheard (turn.Take (packet.Reserve v at rate to)) out) (refuse_of s v over ∷ []) (says_refuse (before s.ring s.no) s.no v over.quantum over.sum))
kept_talk s (turn.Take (packet.Confirm v to)) own out sound fresh h = cases (waits (find (is_of v) s.own))
  where
    off : (to.0 == before s.ring s.no) ≡ false
    off = not_same to.0 (before s.ring s.no) (λ z. before_not s.ring s.no sound.ring sound.no (sym z ∙ fresh))

    quiet : (more : List Packet) → IsInTalk (before s.ring s.no) s.no own s.kept (unheard (turn.Take (packet.Confirm v to)) out ++ more)
    quiet more = talk_quiet (before s.ring s.no) s.no own s.kept (turn.Take (packet.Confirm v to)) out more h
        (λ u. or_off (v.0 == u.0) (to.0 == before s.ring s.no) off) (λ u. or_off (v.0 == u.0) (to.0 == before s.ring s.no) off)

    cases : (b : Bool) → IsInTalk (before s.ring s.no) s.no own (cond b (record s { own = with_state v state.Placed s.own }) s).kept (unheard (turn.Take (packet.Confirm v to)) out ++ sending s (packet.Confirm v to))
    cases true = quiet (sending s (packet.Confirm v to))
    cases false = quiet (sending s (packet.Confirm v to))
kept_talk s (turn.Take (packet.Refuse v quantum sum to)) own out sound fresh h = cases (waits (find (is_of v) s.own))
  where
    off : (to.0 == before s.ring s.no) ≡ false
    off = not_same to.0 (before s.ring s.no) (λ z. before_not s.ring s.no sound.ring sound.no (sym z ∙ fresh))

    quiet : IsInTalk (before s.ring s.no) s.no own s.kept (unheard (turn.Take (packet.Refuse v quantum sum to)) out ++ [])
    quiet = talk_quiet (before s.ring s.no) s.no own s.kept (turn.Take (packet.Refuse v quantum sum to)) out [] h
        (λ u. refl) (λ u. and_off (v.0 == u.0) (to.0 == before s.ring s.no) off)

    cases : (b : Bool) → IsInTalk (before s.ring s.no) s.no own (cond b (record s { own = with_state v (state.Refused quantum sum) s.own }) s).kept (unheard (turn.Take (packet.Refuse v quantum sum to)) out ++ [])
    cases true = quiet
    cases false = quiet
kept_talk s (turn.Take (packet.Release v to)) own out sound fresh h =
    talk_of_one (before s.ring s.no) s.no v own own s.kept (filter (λ e. not (is_for v e)) s.kept) (turn.Take (packet.Release v to)) out [] h
    (λ u eb. refl) (λ u eb. released_others v u s.kept (differ v.0 u.0 eb)) (λ u eb. rw eb refl) (λ u eb. refl)
    (λ x f. absurd (never x f (released_none v s.kept)))
    (λ w. stays (decides (before s.ring s.no) s.no v) (turn.Take (packet.Release v to)) out [] (decides_likes (before s.ring s.no) s.no v) refl (h.asks v w))

-- A turn of a cub that is neither of both.
pub other_talk : (s : CubState) (t : Turn) (d c : ℕ) (own : List Own) (kept : List Entry) (out : List Packet) → IsFresh s t
    → (s.no ≡ d → ⊥) → (s.no ≡ c → ⊥) → IsInTalk d c own kept out → IsInTalk d c own kept (unheard t out ++ telling s t)
other_talk s t d c own kept out fresh nd nc h = talk_quiet d c own kept t out (telling s t) h (no_clears t fresh) (no_decides t fresh)
  where
    off_d : (to : ℕ) → to ≡ s.no → (to == d) ≡ false
    off_d to e = not_same to d (λ z. nd (sym e ∙ z))

    off_c : (to : ℕ) → to ≡ s.no → (to == c) ≡ false
    off_c to e = not_same to c (λ z. nc (sym e ∙ z))

    no_clears : (t : Turn) → IsFresh s t → (u : Instance) → IsNoneOf (clears d c u) t
    no_clears (turn.Ask v at rate) f u = tt
    no_clears (turn.Stop v) f u = tt
    no_clears turn.Renew f u = tt
    no_clears (turn.Take (packet.Reserve v at rate to)) f u = refl
    no_clears (turn.Take (packet.Confirm v to)) f u = or_off (v.0 == u.0) (to.0 == d) (off_d to.0 f)
    no_clears (turn.Take (packet.Refuse v quantum sum to)) f u = refl
    no_clears (turn.Take (packet.Release v to)) f u = and_off (v.0 == u.0) (to.0 == c) (off_c to.0 f)

    no_decides : (t : Turn) → IsFresh s t → (u : Instance) → IsNoneOf (decides d c u) t
    no_decides (turn.Ask v at rate) f u = tt
    no_decides (turn.Stop v) f u = tt
    no_decides turn.Renew f u = tt
    no_decides (turn.Take (packet.Reserve v at rate to)) f u = or_off (v.0 == u.0) (to.0 == c) (off_c to.0 f)
    no_decides (turn.Take (packet.Confirm v to)) f u = or_off (v.0 == u.0) (to.0 == d) (off_d to.0 f)
    no_decides (turn.Take (packet.Refuse v quantum sum to)) f u = and_off (v.0 == u.0) (to.0 == d) (off_d to.0 f)
    no_decides (turn.Take (packet.Release v to)) f u = refl
