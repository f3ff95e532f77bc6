-- What is under way in a ring once a cub had a turn, and once its event is history.
use Rattle.std.proofs.Common.{◌≡◌, ◌∙◌, ℕ, ◌<◌, ◌==◌, Bool, true, false, List, [], ◌∷◌, ◌++◌, refl, sym, ap, subst}
use Rattle.std.proofs.lemmas.Bool.{eqb-true}
use Rattle.std.proofs.lemmas.List.{get_or-set_same, get_or-set_other}
use Rattle.std.proofs.lemmas.List.Sums.{fold_push}
use Rattle.net_schedule.specs.declared.ring.NetRing.{NetRing}
use Rattle.net_schedule.specs.declared.ring.Entry.{Entry}
use Rattle.net_schedule.specs.declared.ring.Own.{Own}
use Rattle.net_schedule.specs.declared.packet.Packet.{Packet}
use Rattle.net_schedule.specs.declared.turn.Turn.{Turn}
use Rattle.net_schedule.specs.declared.world.NetEvent.{NetEvent}
use Rattle.net_schedule.specs.Rings.{next_of, before}
use Rattle.net_schedule.specs.Cubs.{CubState, IsSound, fresh_cub}
use Rattle.net_schedule.specs.Worlds.{WorldState, fresh_world, cub_at, actor_of, turn_of, turned, telling, moved, after}
use Rattle.net_schedule.specs.Links.{IsLink, IsSeated, IsWorld}
use Rattle.net_schedule.specs.Settled.{Traffic, passed, history, unheard, under_way, IsMadeByEvents, IsInTalk}
use Rattle.net_schedule.proofs.Places.{differ, next_not, before_next}
use Rattle.net_schedule.proofs.Turns.{IsFresh}
use Rattle.net_schedule.proofs.Talks.{own_talk, kept_talk, other_talk}

-- ---- the same lemmas of a cub whose ring and number are given

own_talk_at : (r : NetRing) (x : ℕ) (s : CubState) (t : Turn) (kept : List Entry) (sent out : List Packet) → s.ring ≡ r → s.no ≡ x → IsSound s → IsFresh s t
    → IsLink r x (next_of r x) s.own kept sent → IsInTalk x (next_of r x) s.own kept out → IsInTalk x (next_of r x) (turned s t).own kept (unheard t out ++ telling s t)
own_talk_at r x s t kept sent out er ex sound fresh =
    subst (λ (q : NetRing). IsLink q x (next_of q x) s.own kept sent → IsInTalk x (next_of q x) s.own kept out → IsInTalk x (next_of q x) (turned s t).own kept (unheard t out ++ telling s t)) er
    (subst (λ (y : ℕ). IsLink s.ring y (next_of s.ring y) s.own kept sent → IsInTalk y (next_of s.ring y) s.own kept out → IsInTalk y (next_of s.ring y) (turned s t).own kept (unheard t out ++ telling s t)) ex
    (λ link h. own_talk s t kept sent out sound fresh link h))

kept_talk_at : (r : NetRing) (x : ℕ) (s : CubState) (t : Turn) (own : List Own) (out : List Packet) → s.ring ≡ r → s.no ≡ x → IsSound s → IsFresh s t
    → IsInTalk (before r x) x own s.kept out → IsInTalk (before r x) x own (turned s t).kept (unheard t out ++ telling s t)
kept_talk_at r x s t own out er ex sound fresh =
    subst (λ (q : NetRing). IsInTalk (before q x) x own s.kept out → IsInTalk (before q x) x own (turned s t).kept (unheard t out ++ telling s t)) er
    (subst (λ (y : ℕ). IsInTalk (before s.ring y) y own s.kept out → IsInTalk (before s.ring y) y own (turned s t).kept (unheard t out ++ telling s t)) ex
    (λ h. kept_talk s t own out sound fresh h))

-- After a turn each cub and its successor are in talk still.
pub talk_moved : (w : WorldState) (x : ℕ) (t : Turn) (e : NetEvent) → IsWorld w → x < w.ring.cubs → IsFresh (cub_at w x) t
    → (d : ℕ) → d < w.ring.cubs
    → IsInTalk d (next_of w.ring d) (cub_at (moved w x t e) d).own (cub_at (moved w x t e) (next_of w.ring d)).kept (unheard t (under_way w) ++ telling (cub_at w x) t)
talk_moved w x t e h low fresh d less = cases (d == x) refl (next_of w.ring d == x) refl
  where
    seat : IsSeated w x
    seat = h.seated x low

    here : cub_at (moved w x t e) x ≡ turned (cub_at w x) t
    here = get_or-set_same w.cubs x (turned (cub_at w x) t) (fresh_cub w.ring 0) (subst (λ (n : ℕ). x < n) (sym h.count) low)

    others : (c : ℕ) → (c ≡ x → ⊥) → cub_at (moved w x t e) c ≡ cub_at w c
    others c ne = get_or-set_other w.cubs x c (turned (cub_at w x) t) (fresh_cub w.ring 0) ne

    join : (own : List Own) (kept : List Entry) → (cub_at (moved w x t e) d).own ≡ own → (cub_at (moved w x t e) (next_of w.ring d)).kept ≡ kept
        → IsInTalk d (next_of w.ring d) own kept (unheard t (under_way w) ++ telling (cub_at w x) t)
        → IsInTalk d (next_of w.ring d) (cub_at (moved w x t e) d).own (cub_at (moved w x t e) (next_of w.ring d)).kept (unheard t (under_way w) ++ telling (cub_at w x) t)
    join own kept eo ek l =
        subst (λ (y : List Own). IsInTalk d (next_of w.ring d) y (cub_at (moved w x t e) (next_of w.ring d)).kept (unheard t (under_way w) ++ telling (cub_at w x) t)) (sym eo)
        (subst (λ (y : List Entry). IsInTalk d (next_of w.ring d) own y (unheard t (under_way w) ++ telling (cub_at w x) t)) (sym ek) l)

    cases : (a : Bool) → (d == x) ≡ a → (b : Bool) → (next_of w.ring d == x) ≡ b
        → IsInTalk d (next_of w.ring d) (cub_at (moved w x t e) d).own (cub_at (moved w x t e) (next_of w.ring d)).kept (unheard t (under_way w) ++ telling (cub_at w x) t)
    cases true ea b eb =
        let same : d ≡ x = eqb-true d x ea in
        let far : next_of w.ring d ≡ x → ⊥ = λ z. next_not w.ring d h.ring less (z ∙ sym same) in
        join (turned (cub_at w x) t).own (cub_at w (next_of w.ring d)).kept
        (ap (λ (n : ℕ). (cub_at (moved w x t e) n).own) same ∙ ap (λ (y : CubState). y.own) here)
        (ap (λ (y : CubState). y.kept) (others (next_of w.ring d) far))
        (subst (λ (n : ℕ). IsInTalk n (next_of w.ring n) (turned (cub_at w x) t).own (cub_at w (next_of w.ring n)).kept (unheard t (under_way w) ++ telling (cub_at w x) t)) (sym same)
        (own_talk_at w.ring x (cub_at w x) t (cub_at w (next_of w.ring x)).kept w.sent (under_way w) seat.ring seat.no seat.sound fresh (h.links x low) (h.talks x low)))
    cases false ea true eb =
        let same : next_of w.ring d ≡ x = eqb-true (next_of w.ring d) x eb in
        let mine : d ≡ before w.ring x = sym (before_next w.ring d h.ring less) ∙ ap (λ (n : ℕ). before w.ring n) same in
        let talk : IsInTalk d x (cub_at w d).own (cub_at w x).kept (under_way w) = subst (λ (n : ℕ). IsInTalk d n (cub_at w d).own (cub_at w n).kept (under_way w)) same (h.talks d less) in
        let new : IsInTalk d x (cub_at w d).own (turned (cub_at w x) t).kept (unheard t (under_way w) ++ telling (cub_at w x) t) =
        subst (λ (n : ℕ). IsInTalk n x (cub_at w d).own (cub_at w x).kept (under_way w) → IsInTalk n x (cub_at w d).own (turned (cub_at w x) t).kept (unheard t (under_way w) ++ telling (cub_at w x) t)) (sym mine)
        (kept_talk_at w.ring x (cub_at w x) t (cub_at w d).own (under_way w) seat.ring seat.no seat.sound fresh) talk in
        join (cub_at w d).own (turned (cub_at w x) t).kept
        (ap (λ (y : CubState). y.own) (others d (differ d x ea)))
        (ap (λ (n : ℕ). (cub_at (moved w x t e) n).kept) same ∙ ap (λ (y : CubState). y.kept) here)
        (subst (λ (n : ℕ). IsInTalk d n (cub_at w d).own (turned (cub_at w x) t).kept (unheard t (under_way w) ++ telling (cub_at w x) t)) (sym same) new)
    cases false ea false eb =
        join (cub_at w d).own (cub_at w (next_of w.ring d)).kept
        (ap (λ (y : CubState). y.own) (others d (differ d x ea)))
        (ap (λ (y : CubState). y.kept) (others (next_of w.ring d) (differ (next_of w.ring d) x eb)))
        (other_talk (cub_at w x) t d (next_of w.ring d) (cub_at w d).own (cub_at w (next_of w.ring d)).kept (under_way w) fresh
        (λ z. differ d x ea (sym z ∙ seat.no)) (λ z. differ (next_of w.ring d) x eb (sym z ∙ seat.no)) (h.talks d less))

-- ---- a history with one event more

history_more : (r : NetRing) (es : List NetEvent) (e : NetEvent) → history r (es ++ e ∷ []) ≡ passed (history r es) e
unfolding history
history_more r es e = fold_push passed (record { world = fresh_world r; out = [] }) es e

pub made_moved : (w : WorldState) (x : ℕ) (t : Turn) (e : NetEvent) → IsMadeByEvents w → x ≡ actor_of w e → t ≡ turn_of w e → IsMadeByEvents (moved w x t e)
made_moved w x t e made ex et =
    ap (λ (y : Traffic). y.world) (history_more w.ring w.events e) ∙ ap (λ (y : WorldState). after y e) made
    ∙ sym (ap (λ (n : ℕ). moved w n t e) ex ∙ ap (λ (z : Turn). moved w (actor_of w e) z e) et)

-- what is under way then
pub out_moved : (w : WorldState) (x : ℕ) (t : Turn) (e : NetEvent) → IsMadeByEvents w → x ≡ actor_of w e → t ≡ turn_of w e
    → under_way (moved w x t e) ≡ unheard t (under_way w) ++ telling (cub_at w x) t
out_moved w x t e made ex et =
    ap (λ (y : Traffic). y.out) (history_more w.ring w.events e)
    ∙ ap (λ (y : WorldState). unheard (turn_of y e) (under_way w) ++ telling (cub_at y (actor_of y e)) (turn_of y e)) made
    ∙ sym (ap (λ (n : ℕ). unheard t (under_way w) ++ telling (cub_at w n) t) ex ∙ ap (λ (z : Turn). unheard z (under_way w) ++ telling (cub_at w (actor_of w e)) z) et)

-- Nothing is under way in a ring of which nothing was asked.
pub made_fresh : (r : NetRing) → IsMadeByEvents (fresh_world r)
unfolding history
made_fresh r = refl
