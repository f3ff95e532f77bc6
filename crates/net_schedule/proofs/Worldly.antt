-- What always holds of a ring holds at first, and stays by each turn.
use Rattle.std.proofs.Common.{◌≡◌, ◌∙◌, ℕ, zero, suc, ◌+◌, ◌*◌, ◌-◌, ◌/◌, ◌<◌, ◌≤◌, ◌==◌, Bool, true, false, cond, List, [], ◌∷◌, ◌++◌, map, length, get_or, Some, None, Option, refl, sym, ap, subst, arith, ⊎_elim, inl, inr, ◌%◌, lt_of_mul-lt-mul_right}
use Rattle.std.proofs.Math.Nat.{div-add-mod, mod-lt, mul_comm}
use Rattle.std.specs.Prelude.{◌⊎◌, unwrap_or, find, slice_get, slice_set}
use Rattle.std.specs.List.{AllByRecursion, range_with_len}
use Rattle.std.specs.Option.{is_some}
use Rattle.std.proofs.lemmas.Bool.{eqb-true}
use Rattle.std.proofs.lemmas.List.{get_or-set_same, get_or-set_other, length-set}
use Rattle.tiger_base.specs.declared.number.Instance.{Instance}
use Rattle.net_schedule.specs.declared.ring.NetRing.{NetRing}
use Rattle.net_schedule.specs.declared.ring.Entry.{Entry}
use Rattle.net_schedule.specs.declared.ring.Own.{Own}
use Rattle.net_schedule.specs.declared.ring.Over.{Over}
use Rattle.net_schedule.specs.declared.ring.NetState.TheVariants as state
use Rattle.net_schedule.specs.declared.packet.Packet.{Packet}
use Rattle.net_schedule.specs.declared.packet.Packet.TheVariants as packet
use Rattle.net_schedule.specs.declared.turn.Turn.{Turn}
use Rattle.net_schedule.specs.declared.turn.Turn.TheVariants as turn
use Rattle.net_schedule.specs.declared.world.NetEvent.{NetEvent}
use Rattle.net_schedule.specs.Rings.{IsRing, IsOwnQuantum, IsEntryOf, next_of, before}
use Rattle.net_schedule.specs.Cubs.{CubState, IsSound, IsOwnOf, IsKeptOf, fresh_cub, is_kept, is_asked, is_of, waits, counts, keeping, first_over, CanTake, in_state}
use Rattle.net_schedule.specs.Worlds.{WorldState, fresh_world, cub_at, asked_at, goal_of, actor_of, turn_of, turned, telling, moved, CanTurn, WasSent}
use Rattle.net_schedule.specs.Links.{IsTrueOf, IsLink, IsSeated, IsWorld}
use Rattle.net_schedule.specs.Settled.{under_way, IsInTalk}
use Rattle.net_schedule.proofs.Sound.{found_all, few_before, none_passes}
use Rattle.net_schedule.proofs.Places.{differ, next_not, next_before, before_next, next_low}
use Rattle.net_schedule.proofs.Linked.{all_map, all_append}
use Rattle.net_schedule.proofs.Turns.{IsFrom, IsFresh, IsTold, all_from, own_turn, kept_turn, other_turn}
use Rattle.net_schedule.proofs.Talked.{talk_moved, made_moved, out_moved, made_fresh}

-- a turn leaves a cub in its place
abbrev IsPlacedAs : CubState → CubState → Type 0
IsPlacedAs s n = (n.ring ≡ s.ring) × (n.no ≡ s.no)

either : (s : CubState) (n : CubState) (b : Bool) → IsPlacedAs s n → IsPlacedAs s (cond b n s)
either s n true h = h
either s n false h = (refl, refl)

pub turned_place : (s : CubState) (t : Turn) → IsPlacedAs s (turned s t)
turned_place s (turn.Ask v at rate) = (refl, refl)
turned_place s (turn.Stop v) = either s (in_state s v state.Stopped) (counts (find (is_of v) s.own)) (refl, refl)
turned_place s turn.Renew = (refl, refl)
turned_place s (turn.Take (packet.Reserve v at rate to)) = cases (is_kept s.kept v) (first_over s at rate)
  where
    cases : (b : Bool) (o : Option Over) → IsPlacedAs s (cond b s (keeping s (record { instance = v; at = at; rate = rate }) o))
    cases true o = (refl, refl)
    cases false None = (refl, refl)
    cases false (Some over) = (refl, refl)
turned_place s (turn.Take (packet.Confirm v to)) = either s (in_state s v state.Placed) (waits (find (is_of v) s.own)) (refl, refl)
turned_place s (turn.Take (packet.Refuse v quantum sum to)) = either s (in_state s v (state.Refused quantum sum)) (waits (find (is_of v) s.own)) (refl, refl)
turned_place s (turn.Take (packet.Release v to)) = (refl, refl)

-- the same lemmas of a cub whose ring and number are given
own_turn_at : (r : NetRing) (x : ℕ) (s : CubState) (t : Turn) (kept : List Entry) (sent : List Packet) → s.ring ≡ r → s.no ≡ x → IsSound s → IsFresh s t
    → IsTold r x (next_of r x) s.own kept t → IsLink r x (next_of r x) s.own kept sent → IsLink r x (next_of r x) (turned s t).own kept (sent ++ telling s t)
own_turn_at r x s t kept sent er ex sound fresh =
    subst (λ (q : NetRing). IsTold q x (next_of q x) s.own kept t → IsLink q x (next_of q x) s.own kept sent → IsLink q x (next_of q x) (turned s t).own kept (sent ++ telling s t)) er
    (subst (λ (y : ℕ). IsTold s.ring y (next_of s.ring y) s.own kept t → IsLink s.ring y (next_of s.ring y) s.own kept sent → IsLink s.ring y (next_of s.ring y) (turned s t).own kept (sent ++ telling s t)) ex
    (λ told h. own_turn s t kept sent sound fresh told h))

kept_turn_at : (r : NetRing) (x : ℕ) (s : CubState) (t : Turn) (own : List Own) (sent : List Packet) → s.ring ≡ r → s.no ≡ x → IsSound s → IsFresh s t
    → IsTold r (before r x) x own s.kept t → IsLink r (before r x) x own s.kept sent → IsLink r (before r x) x own (turned s t).kept (sent ++ telling s t)
kept_turn_at r x s t own sent er ex sound fresh =
    subst (λ (q : NetRing). IsTold q (before q x) x own s.kept t → IsLink q (before q x) x own s.kept sent → IsLink q (before q x) x own (turned s t).kept (sent ++ telling s t)) er
    (subst (λ (y : ℕ). IsTold s.ring (before s.ring y) y own s.kept t → IsLink s.ring (before s.ring y) y own s.kept sent → IsLink s.ring (before s.ring y) y own (turned s t).kept (sent ++ telling s t)) ex
    (λ told h. kept_turn s t own sent sound fresh told h))

other_turn_at : (r : NetRing) (x : ℕ) (s : CubState) (t : Turn) (d c : ℕ) (own : List Own) (kept : List Entry) (sent : List Packet) → s.ring ≡ r → s.no ≡ x
    → (next_of r x ≡ c → ⊥) → (before r x ≡ d → ⊥) → IsLink r d c own kept sent → IsLink r d c own kept (sent ++ telling s t)
other_turn_at r x s t d c own kept sent er ex =
    subst (λ (q : NetRing). (next_of q x ≡ c → ⊥) → (before q x ≡ d → ⊥) → IsLink q d c own kept sent → IsLink q d c own kept (sent ++ telling s t)) er
    (subst (λ (y : ℕ). (next_of s.ring y ≡ c → ⊥) → (before s.ring y ≡ d → ⊥) → IsLink s.ring d c own kept sent → IsLink s.ring d c own kept (sent ++ telling s t)) ex
    (λ nc nd h. other_turn s t d c own kept sent nc nd h))

-- what holds of all that was sent holds of each packet
all_at : (P : Packet → Type 0) (xs : List Packet) (n : ℕ) (p : Packet) → AllByRecursion P xs → slice_get xs n ≡ Some p → P p
all_at P [] n p h e = absurd (cc)
all_at P (x ∷ xs) zero p h e = subst P (cc) h.0
all_at P (x ∷ xs) (suc n) p h e = all_at P xs n p h.1 e

told_of : (w : WorldState) (t : Turn) (d : ℕ) → IsWorld w → WasSent w.sent t → d < w.ring.cubs
    → IsTold w.ring d (next_of w.ring d) (cub_at w d).own (cub_at w (next_of w.ring d)).kept t
told_of w (turn.Ask v at rate) d h s low = tt
told_of w (turn.Stop v) d h s low = tt
told_of w turn.Renew d h s low = tt
told_of w (turn.Take p) d h s low = all_at (IsTrueOf w.ring d (next_of w.ring d) (cub_at w d).own (cub_at w (next_of w.ring d)).kept) w.sent s.0 p (h.links d low).told s.1

goal_fresh : (s : CubState) (p : Packet) → CanTake s p → (goal_of p).0 ≡ s.no
goal_fresh s (packet.Reserve v at rate to) h = h.0
goal_fresh s (packet.Confirm v to) h = h
goal_fresh s (packet.Refuse v quantum sum to) h = h
goal_fresh s (packet.Release v to) h = h

fresh_of : (s : CubState) (t : Turn) → CanTurn s t → IsFresh s t
fresh_of s (turn.Ask v at rate) h = h.3
fresh_of s (turn.Stop v) h = tt
fresh_of s turn.Renew h = tt
fresh_of s (turn.Take p) h = goal_fresh s p h

goal_low : (r : NetRing) (x : ℕ) → IsRing r → x < r.cubs → (p : Packet) → IsFrom r x p → (goal_of p).0 < r.cubs
goal_low r x ring low (packet.Reserve v at rate to) f = subst (λ (n : ℕ). n < r.cubs) (sym f) (next_low r x ring low)
goal_low r x ring low (packet.Confirm v to) f = subst (λ (n : ℕ). n < r.cubs) (sym f) (few_before r x ring low)
goal_low r x ring low (packet.Refuse v quantum sum to) f = subst (λ (n : ℕ). n < r.cubs) (sym f) (few_before r x ring low)
goal_low r x ring low (packet.Release v to) f = subst (λ (n : ℕ). n < r.cubs) (sym f) (next_low r x ring low)

-- A ring stays what it is by each turn.
pub world_moved : (w : WorldState) (x : ℕ) (t : Turn) (e : NetEvent) → IsWorld w → x < w.ring.cubs → CanTurn (cub_at w x) t → WasSent w.sent t
    → IsSound (turned (cub_at w x) t) → x ≡ actor_of w e → t ≡ turn_of w e → IsWorld (moved w x t e)
world_moved w x t e h low can sent sound ex et = record {
  ring = h.ring;
  count = length-set w.cubs x (turned (cub_at w x) t) ∙ h.count;
  seated = seated;
  goals = all_append (λ (p : Packet). (goal_of p).0 < w.ring.cubs) w.sent (telling (cub_at w x) t) h.goals
      (all_map (IsFrom w.ring x) (λ (p : Packet). (goal_of p).0 < w.ring.cubs) (telling (cub_at w x) t) (goal_low w.ring x h.ring low) from);
  links = links;
  made = made_moved w x t e h.made ex et;
  talks = λ d less. subst (λ (out : List Packet). IsInTalk d (next_of w.ring d) (cub_at (moved w x t e) d).own (cub_at (moved w x t e) (next_of w.ring d)).kept out)
      (sym (out_moved w x t e h.made ex et)) (talk_moved w x t e h low (fresh_of (cub_at w x) t can) d less);
}
  where
    s : CubState
    s = cub_at w x

    there : x < length w.cubs
    there = subst (λ (n : ℕ). x < n) (sym h.count) low

    seat : IsSeated w x
    seat = h.seated x low

    from : AllByRecursion (IsFrom w.ring x) (telling (cub_at w x) t)
    from = subst (λ (q : NetRing). AllByRecursion (IsFrom q x) (telling (cub_at w x) t)) seat.ring (subst (λ (y : ℕ). AllByRecursion (IsFrom (cub_at w x).ring y) (telling (cub_at w x) t)) seat.no (all_from (cub_at w x) t))

    here : cub_at (moved w x t e) x ≡ turned (cub_at w x) t
    here = get_or-set_same w.cubs x (turned (cub_at w x) t) (fresh_cub w.ring 0) there

    others : (c : ℕ) → (c ≡ x → ⊥) → cub_at (moved w x t e) c ≡ cub_at w c
    others c ne = get_or-set_other w.cubs x c (turned (cub_at w x) t) (fresh_cub w.ring 0) ne

    seated : (c : ℕ) → c < w.ring.cubs → IsSeated (moved w x t e) c
    seated c less = cases (c == x) refl
      where
        cases : (b : Bool) → (c == x) ≡ b → IsSeated (moved w x t e) c
        cases true eb =
            let same : c ≡ x = eqb-true c x eb in
            let place = turned_place (cub_at w x) t in
            let now : cub_at (moved w x t e) c ≡ turned (cub_at w x) t = ap (λ (n : ℕ). cub_at (moved w x t e) n) same ∙ here in
            record {
              ring = ap (λ (y : CubState). y.ring) now ∙ place.0 ∙ seat.ring;
              no = ap (λ (y : CubState). y.no) now ∙ place.1 ∙ seat.no ∙ sym same;
              sound = subst IsSound (sym now) sound;
            }
        cases false eb =
            let old = h.seated c less in
            let now : cub_at (moved w x t e) c ≡ cub_at w c = others c (differ c x eb) in
            record {
              ring = ap (λ (y : CubState). y.ring) now ∙ old.ring;
              no = ap (λ (y : CubState). y.no) now ∙ old.no;
              sound = subst IsSound (sym now) old.sound;
            }

    links : (d : ℕ) → d < w.ring.cubs → IsLink w.ring d (next_of w.ring d) (cub_at (moved w x t e) d).own (cub_at (moved w x t e) (next_of w.ring d)).kept (w.sent ++ telling (cub_at w x) t)
    links d less = cases (d == x) refl (next_of w.ring d == x) refl
      where
        fresh : IsFresh (cub_at w x) t
        fresh = fresh_of (cub_at w x) t can

        join : (own : List Own) (kept : List Entry) → (cub_at (moved w x t e) d).own ≡ own → (cub_at (moved w x t e) (next_of w.ring d)).kept ≡ kept
            → IsLink w.ring d (next_of w.ring d) own kept (w.sent ++ telling (cub_at w x) t)
            → IsLink w.ring d (next_of w.ring d) (cub_at (moved w x t e) d).own (cub_at (moved w x t e) (next_of w.ring d)).kept (w.sent ++ telling (cub_at w x) t)
        join own kept eo ek l = subst (λ (y : List Own). IsLink w.ring d (next_of w.ring d) y (cub_at (moved w x t e) (next_of w.ring d)).kept (w.sent ++ telling (cub_at w x) t)) (sym eo)
            (subst (λ (y : List Entry). IsLink w.ring d (next_of w.ring d) own y (w.sent ++ telling (cub_at w x) t)) (sym ek) l)

        cases : (a : Bool) → (d == x) ≡ a → (b : Bool) → (next_of w.ring d == x) ≡ b
            → IsLink w.ring d (next_of w.ring d) (cub_at (moved w x t e) d).own (cub_at (moved w x t e) (next_of w.ring d)).kept (w.sent ++ telling (cub_at w x) t)
        cases true ea b eb =
            let same : d ≡ x = eqb-true d x ea in
            let far : next_of w.ring d ≡ x → ⊥ = λ z. next_not w.ring d h.ring less (z ∙ sym same) in
            let old = cub_at w (next_of w.ring d) in
            join (turned (cub_at w x) t).own (cub_at w (next_of w.ring d)).kept
            (ap (λ (n : ℕ). (cub_at (moved w x t e) n).own) same ∙ ap (λ (y : CubState). y.own) here)
            (ap (λ (y : CubState). y.kept) (others (next_of w.ring d) far))
            (subst (λ (n : ℕ). IsLink w.ring n (next_of w.ring n) (turned (cub_at w x) t).own (cub_at w (next_of w.ring n)).kept (w.sent ++ telling (cub_at w x) t)) (sym same)
            (own_turn_at w.ring x (cub_at w x) t (cub_at w (next_of w.ring x)).kept w.sent seat.ring seat.no seat.sound fresh (told_of w t x h sent low) (h.links x low)))
        cases false ea true eb =
            let same : next_of w.ring d ≡ x = eqb-true (next_of w.ring d) x eb in
            let mine : d ≡ before w.ring x = sym (before_next w.ring d h.ring less) ∙ ap (λ (n : ℕ). before w.ring n) same in
            let told : IsTold w.ring d x (cub_at w d).own (cub_at w x).kept t = subst (λ (n : ℕ). IsTold w.ring d n (cub_at w d).own (cub_at w n).kept t) same (told_of w t d h sent less) in
            let link : IsLink w.ring d x (cub_at w d).own (cub_at w x).kept w.sent = subst (λ (n : ℕ). IsLink w.ring d n (cub_at w d).own (cub_at w n).kept w.sent) same (h.links d less) in
            let new : IsLink w.ring d x (cub_at w d).own (turned (cub_at w x) t).kept (w.sent ++ telling (cub_at w x) t) =
            subst (λ (n : ℕ). IsTold w.ring n x (cub_at w d).own (cub_at w x).kept t → IsLink w.ring n x (cub_at w d).own (cub_at w x).kept w.sent → IsLink w.ring n x (cub_at w d).own (turned (cub_at w x) t).kept (w.sent ++ telling (cub_at w x) t)) (sym mine)
            (kept_turn_at w.ring x (cub_at w x) t (cub_at w d).own w.sent seat.ring seat.no seat.sound fresh) told link in
            join (cub_at w d).own (turned (cub_at w x) t).kept
            (ap (λ (y : CubState). y.own) (others d (differ d x ea)))
            (ap (λ (n : ℕ). (cub_at (moved w x t e) n).kept) same ∙ ap (λ (y : CubState). y.kept) here)
            (subst (λ (n : ℕ). IsLink w.ring d n (cub_at w d).own (turned (cub_at w x) t).kept (w.sent ++ telling (cub_at w x) t)) (sym same) new)
        cases false ea false eb =
            let nc : next_of w.ring x ≡ next_of w.ring d → ⊥ = λ z. differ d x ea (sym (before_next w.ring d h.ring less) ∙ ap (λ (n : ℕ). before w.ring n) (sym z) ∙ before_next w.ring x h.ring low) in
            let nd : before w.ring x ≡ d → ⊥ = λ z. differ (next_of w.ring d) x eb (ap (λ (n : ℕ). next_of w.ring n) (sym z) ∙ next_before w.ring x h.ring low) in
            join (cub_at w d).own (cub_at w (next_of w.ring d)).kept
            (ap (λ (y : CubState). y.own) (others d (differ d x ea)))
            (ap (λ (y : CubState). y.kept) (others (next_of w.ring d) (differ (next_of w.ring d) x eb)))
            (other_turn_at w.ring x (cub_at w x) t d (next_of w.ring d) (cub_at w d).own (cub_at w (next_of w.ring d)).kept w.sent seat.ring seat.no nc nd (h.links d less))

-- A ring of which nothing was asked is one.
length-range : (a n : ℕ) → length (range_with_len a n) ≡ n
length-range a zero = refl
length-range a (suc n) = ap suc (length-range (a + 1) n)

count_fresh : (f : ℕ → CubState) (xs : List ℕ) → length (map f xs) ≡ length xs
count_fresh f [] = refl
count_fresh f (x ∷ xs) = ap suc (count_fresh f xs)

at_fresh : (f : ℕ → CubState) (a n i : ℕ) (z : CubState) → i < n → get_or (map f (range_with_len a n)) i z ≡ f (a + i)
at_fresh f a zero i z low = absurd (omega (arith, low))
at_fresh f a (suc n) zero z low = ap f (omega arith)
at_fresh f a (suc n) (suc i) z low = at_fresh f (a + 1) n i z (omega (arith, low)) ∙ ap f (omega arith)

fresh_sound : (r : NetRing) (c : ℕ) → IsRing r → c < r.cubs → IsSound (fresh_cub r c)
fresh_sound r c ring low = record { ring = ring; no = low; own = tt; kept = tt; own_rises = tt; kept_rises = tt; fits = λ k own. omega arith }

pub fresh_is_world : (r : NetRing) → IsRing r → IsWorld (fresh_world r)
fresh_is_world r ring = record {
  ring = ring;
  count = count_fresh (fresh_cub r) (range_with_len 0 r.cubs) ∙ length-range 0 r.cubs;
  seated = λ c low. seat c low (at_fresh (fresh_cub r) 0 r.cubs c (fresh_cub r 0) low);
  goals = tt;
  links = λ d low. link d low (at_fresh (fresh_cub r) 0 r.cubs d (fresh_cub r 0) low) (at_fresh (fresh_cub r) 0 r.cubs (next_of r d) (fresh_cub r 0) (next_low r d ring low));
  made = made_fresh r;
  talks = λ d low. talk d (at_fresh (fresh_cub r) 0 r.cubs d (fresh_cub r 0) low) (at_fresh (fresh_cub r) 0 r.cubs (next_of r d) (fresh_cub r 0) (next_low r d ring low));
}
  where
    silent : (d c : ℕ) → IsInTalk d c [] [] (under_way (fresh_world r))
    silent d c = record { lines = λ v e f. absurd (cc); asks = λ v f. absurd (cc) }

    talk : (d : ℕ) → cub_at (fresh_world r) d ≡ fresh_cub r (0 + d) → cub_at (fresh_world r) (next_of r d) ≡ fresh_cub r (0 + next_of r d)
        → IsInTalk d (next_of r d) (cub_at (fresh_world r) d).own (cub_at (fresh_world r) (next_of r d)).kept (under_way (fresh_world r))
    talk d ed en = subst (λ (y : List Own). IsInTalk d (next_of r d) y (cub_at (fresh_world r) (next_of r d)).kept (under_way (fresh_world r))) (sym (ap (λ (y : CubState). y.own) ed))
        (subst (λ (y : List Entry). IsInTalk d (next_of r d) [] y (under_way (fresh_world r))) (sym (ap (λ (y : CubState). y.kept) en)) (silent d (next_of r d)))

    seat : (c : ℕ) → c < r.cubs → cub_at (fresh_world r) c ≡ fresh_cub r (0 + c) → IsSeated (fresh_world r) c
    seat c low e = record {
      ring = ap (λ (y : CubState). y.ring) e;
      no = ap (λ (y : CubState). y.no) e ∙ omega arith;
      sound = subst IsSound (sym e) (fresh_sound r (0 + c) ring (omega (arith, low)));
    }

    empty : (d c : ℕ) → IsLink r d c [] [] []
    empty d c = record { told = tt; placed = λ v o f p far. absurd (cc); asked = λ v e f. absurd (cc) }

    link : (d : ℕ) → d < r.cubs → cub_at (fresh_world r) d ≡ fresh_cub r (0 + d) → cub_at (fresh_world r) (next_of r d) ≡ fresh_cub r (0 + next_of r d)
        → IsLink r d (next_of r d) (cub_at (fresh_world r) d).own (cub_at (fresh_world r) (next_of r d)).kept []
    link d low ed en = subst (λ (y : List Own). IsLink r d (next_of r d) y (cub_at (fresh_world r) (next_of r d)).kept []) (sym (ap (λ (y : CubState). y.own) ed))
        (subst (λ (y : List Entry). IsLink r d (next_of r d) [] y []) (sym (ap (λ (y : CubState). y.kept) en)) (empty d (next_of r d)))

-- A packet that was sent may be taken by the cub that it is for.
pub can_take : (w : WorldState) (n : ℕ) (p : Packet) → IsWorld w → slice_get w.sent n ≡ Some p → ((goal_of p).0 < w.ring.cubs) × CanTake (cub_at w (goal_of p).0) p
can_take w n p h e =
    let low = all_at (λ (q : Packet). (goal_of q).0 < w.ring.cubs) w.sent n p h.goals e in
    (low, take p low e)
  where
    take : (q : Packet) → (goal_of q).0 < w.ring.cubs → slice_get w.sent n ≡ Some q → CanTake (cub_at w (goal_of q).0) q
    take (packet.Confirm v to) low e = sym (h.seated to.0 low).no
    take (packet.Refuse v quantum sum to) low e = sym (h.seated to.0 low).no
    take (packet.Release v to) low e = sym (h.seated to.0 low).no
    take (packet.Reserve v at rate to) low e =
        let seat = h.seated to.0 low in
        let d = before w.ring to.0 in
        let less : before w.ring to.0 < w.ring.cubs = few_before w.ring to.0 h.ring low in
        let next : next_of w.ring (before w.ring to.0) ≡ to.0 = next_before w.ring to.0 h.ring low in
        let far = all_at (IsTrueOf w.ring (before w.ring to.0) (next_of w.ring (before w.ring to.0)) (cub_at w (before w.ring to.0)).own (cub_at w (next_of w.ring (before w.ring to.0))).kept)
        w.sent n (packet.Reserve v at rate to) (h.links (before w.ring to.0) less).told e (sym next) in
        let mine = h.seated (before w.ring to.0) less in
        let entry = found_all (IsOwnOf (cub_at w (before w.ring to.0)).ring (cub_at w (before w.ring to.0)).no) (is_of v) (cub_at w (before w.ring to.0)).own far.o mine.sound.own far.found in (
          sym seat.no,
          subst (λ (q : NetRing). IsKeptOf q (cub_at w to.0).no (record { instance = v; at = at; rate = rate })) (sym seat.ring)
              (subst (λ (y : ℕ). IsKeptOf w.ring y (record { instance = v; at = at; rate = rate })) (sym seat.no)
              (record {
                entry = subst (λ (x : Entry). IsEntryOf w.ring (before w.ring to.0) x) far.same
                    (subst (λ (q : NetRing). IsEntryOf q (before w.ring to.0) far.o.entry) mine.ring
                    (subst (λ (y : ℕ). IsEntryOf (cub_at w (before w.ring to.0)).ring y far.o.entry) mine.no entry.entry));
                reaches = far.far;
              })),
        )

-- The cub of a turn becomes what its call makes of it.
same_at : (xs : List CubState) (i : ℕ) (d e : CubState) → i < length xs → get_or xs i d ≡ get_or xs i e
same_at [] i d e low = absurd (omega (arith, low))
same_at (x ∷ xs) zero d e low = refl
same_at (x ∷ xs) (suc i) d e low = same_at xs i d e (omega (arith, low))

pub acted : (w : WorldState) (x : ℕ) (t : Turn) (e : NetEvent) (old new : CubState) (cubs : List CubState) (sent : List Packet) (events : List NetEvent) → IsWorld w
    → x < w.ring.cubs → CanTurn (cub_at w x) t → WasSent w.sent t → old ≡ get_or w.cubs x old → new ≡ turned old t → IsSound new
    → cubs ≡ slice_set w.cubs x new → sent ≡ w.sent ++ telling old t → events ≡ w.events ++ e ∷ [] → x ≡ actor_of w e → t ≡ turn_of w e
    → IsWorld (record { ring = w.ring; cubs = cubs; sent = sent; events = events })
acted w x t e old new cubs sent events h low can was eo en sound ec es ee ex et =
    let here : old ≡ cub_at w x = eo ∙ same_at w.cubs x old (fresh_cub w.ring 0) (subst (λ (n : ℕ). x < n) (sym h.count) low) in
    let now : new ≡ turned (cub_at w x) t = en ∙ ap (λ (y : CubState). turned y t) here in
    rw (ec, es ∙ ap (λ (y : CubState). w.sent ++ telling y t) here, ee) (rw now (world_moved w x t e h low can was (subst IsSound now sound) ex et))

-- Which cub has a turn, and that it may.
pub ask_low : (w : WorldState) (at : ℕ) → IsWorld w → at < w.ring.cubs * w.ring.quanta → (at / w.ring.quanta < w.ring.cubs) × IsOwnQuantum w.ring (at / w.ring.quanta) at
ask_low w at h low =
    let whole = div-add-mod at w.ring.quanta in
    let rest : at % w.ring.quanta < w.ring.quanta = mod-lt at (omega (arith, h.ring.some_quanta)) in
    let turn : w.ring.quanta * (at / w.ring.quanta) ≡ (at / w.ring.quanta) * w.ring.quanta = mul_comm w.ring.quanta (at / w.ring.quanta) in
    (lt_of_mul-lt-mul_right w.ring.quanta (omega (arith, whole, turn, low)), (omega (arith, whole, turn), omega (arith, whole, turn, rest)))

pub ask_can : (w : WorldState) (v : Instance) (at rate : ℕ) → IsWorld w → at < w.ring.cubs * w.ring.quanta → 1 ≤ rate → rate ≤ w.ring.capacity → asked_at w v ≡ None
    → CanTurn (cub_at w (at / w.ring.quanta)) (turn.Ask v at rate)
ask_can w v at rate h low some few none =
    let place = ask_low w at h low in
    let seat = h.seated (at / w.ring.quanta) place.0 in (
      subst (λ (q : NetRing). IsOwnQuantum q (cub_at w (at / w.ring.quanta)).no at) (sym seat.ring) (subst (λ (n : ℕ). IsOwnQuantum w.ring n at) (sym seat.no) place.1),
      some,
      subst (λ (q : NetRing). rate ≤ q.capacity) (sym seat.ring) few,
      none_passes (λ (c : ℕ). is_asked (cub_at w c).own v) 0 w.ring.cubs (at / w.ring.quanta) none (omega arith) (omega (arith, place.0)),
    )

found_low_in : (p : ℕ → Bool) (a n : ℕ) → find p (range_with_len a n) ≡ None ⊎ ((c : ℕ) × (find p (range_with_len a n) ≡ Some c) × (c < a + n))
found_low_in p a zero = inl refl
found_low_in p a (suc n) = cases (p a) (found_low_in p (a + 1) n)
  where
    cases : (b : Bool) → find p (range_with_len (a + 1) n) ≡ None ⊎ ((c : ℕ) × (find p (range_with_len (a + 1) n) ≡ Some c) × (c < a + 1 + n))
        → cond b (Some a) (find p (range_with_len (a + 1) n)) ≡ None ⊎ ((c : ℕ) × (cond b (Some a) (find p (range_with_len (a + 1) n)) ≡ Some c) × (c < a + suc n))
    cases true r = inr (a, refl, omega arith)
    cases false r = ⊎_elim (λ e. inl e) (λ (w : (c : ℕ) × (find p (range_with_len (a + 1) n) ≡ Some c) × (c < a + 1 + n)). inr (w.0, w.1, omega (arith, w.2))) r

pub asked_low : (w : WorldState) (v : Instance) → IsWorld w → unwrap_or (asked_at w v) 0 < w.ring.cubs
asked_low w v h =
    ⊎_elim
    (λ (e : asked_at w v ≡ None). rw e (omega (arith, h.ring.some_cubs)))
    (λ (c : (c : ℕ) × (asked_at w v ≡ Some c) × (c < 0 + w.ring.cubs)). rw c.1 (omega (arith, c.2)))
    (found_low_in (λ (c : ℕ). is_asked (cub_at w c).own v) 0 w.ring.cubs)

pub asked_some_low : (w : WorldState) (v : Instance) (c : ℕ) → IsWorld w → asked_at w v ≡ Some c → c < w.ring.cubs
asked_some_low w v c h e = subst (λ (o : Option ℕ). unwrap_or o 0 < w.ring.cubs) e (asked_low w v h)

pub index_is : (w : WorldState) (x : ℕ) (s : CubState) → IsWorld w → x < w.ring.cubs → s ≡ get_or w.cubs x s → s ≡ cub_at w x
index_is w x s h low e = e ∙ same_at w.cubs x s (fresh_cub w.ring 0) (subst (λ (n : ℕ). x < n) (sym h.count) low)

-- One more cub of the search for the one that was asked for an instance.
pub asked_step : (w : WorldState) (v : Instance) (i e : ℕ) (s : CubState) (r : Option ℕ) → IsWorld w → i < e → e ≡ w.ring.cubs → s ≡ get_or w.cubs i s → is_asked s.own v ≡ false
    → find (λ (c : ℕ). is_asked (cub_at w c).own v) (range_with_len i (e - i)) ≡ r → find (λ (c : ℕ). is_asked (cub_at w c).own v) (range_with_len (i + 1) (e - (i + 1))) ≡ r
asked_step w v i e s r h less end es idle found =
    let here : s ≡ cub_at w i = index_is w i s h (omega (arith, less, end)) es in
    let none : is_asked (cub_at w i).own v ≡ false = subst (λ (y : CubState). is_asked y.own v ≡ false) here idle in
    let n : e - i ≡ suc (e - (i + 1)) = omega (arith, less) in
    next n none found
  where
    next : e - i ≡ suc (e - (i + 1)) → is_asked (cub_at w i).own v ≡ false → find (λ (c : ℕ). is_asked (cub_at w c).own v) (range_with_len i (e - i)) ≡ r
        → find (λ (c : ℕ). is_asked (cub_at w c).own v) (range_with_len (i + 1) (e - (i + 1))) ≡ r
    next n none b =
        let opened : find (λ (c : ℕ). is_asked (cub_at w c).own v) (range_with_len i (e - i)) ≡ find (λ (c : ℕ). is_asked (cub_at w c).own v) (range_with_len (i + 1) (e - (i + 1))) = rw n (rw none refl) in
        sym opened ∙ b

-- The search ends at a cub that was asked.
pub asked_here : (w : WorldState) (v : Instance) (i e : ℕ) (s : CubState) (r : Option ℕ) → IsWorld w → i < e → e ≡ w.ring.cubs → s ≡ get_or w.cubs i s → is_asked s.own v ≡ true
    → find (λ (c : ℕ). is_asked (cub_at w c).own v) (range_with_len i (e - i)) ≡ r → Some i ≡ r
asked_here w v i e s r h less end es asked found =
    let here : s ≡ cub_at w i = index_is w i s h (omega (arith, less, end)) es in
    let some : is_asked (cub_at w i).own v ≡ true = subst (λ (y : CubState). is_asked y.own v ≡ true) here asked in
    let n : e - i ≡ suc (e - (i + 1)) = omega (arith, less) in
    next n some found
  where
    next : e - i ≡ suc (e - (i + 1)) → is_asked (cub_at w i).own v ≡ true → find (λ (c : ℕ). is_asked (cub_at w c).own v) (range_with_len i (e - i)) ≡ r → Some i ≡ r
    next n some b =
        let opened : find (λ (c : ℕ). is_asked (cub_at w c).own v) (range_with_len i (e - i)) ≡ Some i = rw n (rw some refl) in
        sym opened ∙ b

range_more : (f : ℕ → CubState) (a n : ℕ) → map f (range_with_len a (suc n)) ≡ map f (range_with_len a n) ++ f (a + n) ∷ []
range_more f a zero = ap (λ (m : ℕ). f m ∷ []) (omega arith)
range_more f a (suc n) = ap (λ (xs : List CubState). f a ∷ xs) (range_more f (a + 1) n ∙ ap (λ (m : ℕ). map f (range_with_len (a + 1) n) ++ f m ∷ []) (omega arith))

pub pushed : (r : NetRing) (n : ℕ) (xs ys : List CubState) (s : CubState) → xs ≡ map (fresh_cub r) (range_with_len 0 n) → s ≡ fresh_cub r n → ys ≡ xs ++ s ∷ []
    → ys ≡ map (fresh_cub r) (range_with_len 0 (n + 1))
pushed r n xs ys s ex es ey =
    let more : n + 1 ≡ suc n = omega arith in
    ey ∙ ap (λ (y : CubState). xs ++ y ∷ []) es ∙ ap (λ (zs : List CubState). zs ++ fresh_cub r n ∷ []) ex ∙ sym (ap (λ (m : ℕ). map (fresh_cub r) (range_with_len 0 m)) more ∙ range_more (fresh_cub r) 0 n ∙ ap (λ (m : ℕ). map (fresh_cub r) (range_with_len 0 n) ++ fresh_cub r m ∷ []) (omega arith))

pub made : (r : NetRing) (n : ℕ) (cubs : List CubState) (sent : List Packet) (events : List NetEvent) → IsRing r → n ≡ r.cubs → cubs ≡ map (fresh_cub r) (range_with_len 0 n) → sent ≡ [] → events ≡ []
    → IsWorld (record { ring = r; cubs = cubs; sent = sent; events = events })
made r n cubs sent events ring en ec es ee = rw (ec ∙ ap (λ (m : ℕ). map (fresh_cub r) (range_with_len 0 m)) en, es, ee) (fresh_is_world r ring)

pub none_of : (o : Option ℕ) → is_some o ≡ false → o ≡ None
none_of None e = refl
none_of (Some x) e = absurd (cc)
