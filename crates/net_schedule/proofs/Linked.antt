-- What holds between a cub and its successor stays, whichever of the two has a turn.
use Rattle.std.proofs.Common.{◌≡◌, ◌∙◌, ℕ, ◌==◌, Bool, true, false, not, List, [], ◌∷◌, ◌++◌, Some, None, refl, sym, ap, subst, ⊎_elim, inl, inr, eq-eqb}
use Rattle.std.specs.Prelude.{filter, find}
use Rattle.std.specs.List.{AllByRecursion}
use Rattle.std.proofs.lemmas.Bool.{eqb-true}
use Rattle.tiger_base.specs.declared.number.Instance.{Instance}
use Rattle.net_schedule.specs.declared.ring.NetRing.{NetRing}
use Rattle.net_schedule.specs.declared.ring.Entry.{Entry}
use Rattle.net_schedule.specs.declared.ring.NetState.{NetState}
use Rattle.net_schedule.specs.declared.ring.NetState.TheVariants as state
use Rattle.net_schedule.specs.declared.ring.Own.{Own}
use Rattle.net_schedule.specs.declared.packet.Packet.{Packet}
use Rattle.net_schedule.specs.declared.packet.Packet.TheVariants as packet
use Rattle.net_schedule.specs.Rings.{reaches}
use Rattle.net_schedule.specs.Cubs.{is_of, is_for, is_asked, is_live, is_placed, number_of, put_in, with_state}
use Rattle.net_schedule.specs.Links.{IsAskedFar, IsConfirmed, IsEnded, IsTrueOf, IsLink}
use Rattle.net_schedule.proofs.Finds.{clash, same_instance, one_some, never, none_any, put_found, put_others, state_found, state_others, released_none, released_others}

pub all_map : {X : Type 0} (P Q : X → Type 0) (xs : List X) → ((x : X) → P x → Q x) → AllByRecursion P xs → AllByRecursion Q xs
all_map P Q [] f h = tt
all_map P Q (x ∷ xs) f h = (f x h.0, all_map P Q xs f h.1)

pub all_append : {X : Type 0} (P : X → Type 0) (xs ys : List X) → AllByRecursion P xs → AllByRecursion P ys → AllByRecursion P (xs ++ ys)
all_append P [] ys h g = g
all_append P (x ∷ xs) ys h g = (h.0, all_append P xs ys h.1 g)

-- each entry that was asked for still is, and one that had ended still has
abbrev pub Follows : List Own → List Own → Type 0
Follows old new = (v : Instance) (o : Own) → find (is_of v) old ≡ Some o
    → (n : Own) × (find (is_of v) new ≡ Some n) × (n.entry ≡ o.entry) × (is_live o.state ≡ false → is_live n.state ≡ false)

still_far : (r : NetRing) (old new : List Own) (v : Instance) (e : Entry) → Follows old new → IsAskedFar r old v e → IsAskedFar r new v e
still_far r old new v e f h = let w = f v h.o h.found in record { o = w.0; found = w.1; same = w.2 ∙ h.same; far = h.far }

still_confirmed : (old new : List Own) (kept : List Entry) (v : Instance) → Follows old new → IsConfirmed old kept v → IsConfirmed new kept v
still_confirmed old new kept v f h =
    let w = f v h.o h.found in
    record { o = w.0; found = w.1; held = ⊎_elim (λ k. inl (k ∙ ap (λ (e : Entry). Some e) (sym w.2))) (λ e. inr (w.3 e)) h.held }

still_ended : (old new : List Own) (v : Instance) → Follows old new → IsEnded old v → IsEnded new v
still_ended old new v f h = let w = f v h.o h.found in record { o = w.0; found = w.1; ended = w.3 h.ended }

still_true : (r : NetRing) (d c : ℕ) (old new : List Own) (kept : List Entry) → Follows old new → (p : Packet) → IsTrueOf r d c old kept p → IsTrueOf r d c new kept p
still_true r d c old new kept f (packet.Reserve v at rate to) h = λ e. still_far r old new v (record { instance = v; at = at; rate = rate }) f (h e)
still_true r d c old new kept f (packet.Confirm v to) h = λ e. still_confirmed old new kept v f (h e)
still_true r d c old new kept f (packet.Refuse v quantum sum to) h = tt
still_true r d c old new kept f (packet.Release v to) h = λ e. still_ended old new v f (h e)

-- The owner's entries change.
pub own_changes : (r : NetRing) (d c : ℕ) (old new : List Own) (kept : List Entry) (sent more : List Packet) → IsLink r d c old kept sent → Follows old new
    → ((v : Instance) (o : Own) → find (is_of v) new ≡ Some o → is_placed o.state ≡ true → reaches r o.entry.at ≡ true → find (is_for v) kept ≡ Some o.entry)
    → AllByRecursion (IsTrueOf r d c new kept) more → IsLink r d c new kept (sent ++ more)
own_changes r d c old new kept sent more h f placed told = record {
  told = all_append (IsTrueOf r d c new kept) sent more (all_map (IsTrueOf r d c old kept) (IsTrueOf r d c new kept) sent (still_true r d c old new kept f) h.told) told;
  placed = placed;
  asked = λ v e k. still_far r old new v e f (h.asked v e k);
}

-- Nothing changes, and more is sent.
pub more_sent : (r : NetRing) (d c : ℕ) (own : List Own) (kept : List Entry) (sent more : List Packet) → IsLink r d c own kept sent
    → AllByRecursion (IsTrueOf r d c own kept) more → IsLink r d c own kept (sent ++ more)
more_sent r d c own kept sent more h told = record {
  told = all_append (IsTrueOf r d c own kept) sent more h.told told;
  placed = h.placed;
  asked = h.asked;
}

-- An entry is asked for that was not before.
pub follows_put : (o : Own) (own : List Own) → is_asked own o.entry.instance ≡ false → Follows own (put_in number_of o own)
follows_put o own fresh v x f = cases (is_of v o) refl
  where
    cases : (b : Bool) → is_of v o ≡ b → (n : Own) × (find (is_of v) (put_in number_of o own) ≡ Some n) × (n.entry ≡ x.entry) × (is_live x.state ≡ false → is_live n.state ≡ false)
    cases true t =
        let same : o.entry.instance ≡ v = same_instance o.entry.instance v (eqb-true o.entry.instance.0 v.0 t) in
        let none : find (is_of v) own ≡ None = subst (λ (u : Instance). find (is_of u) own ≡ None) same (none_any (is_of o.entry.instance) own fresh) in
        absurd (never x f none)
    cases false t = (x, put_others number_of (is_of v) o own t ∙ f, refl, λ e. e)

pub link_asked : (r : NetRing) (d c : ℕ) (o : Own) (own : List Own) (kept : List Entry) (sent more : List Packet) → IsLink r d c own kept sent
    → is_asked own o.entry.instance ≡ false → (is_placed o.state ≡ true → reaches r o.entry.at ≡ false)
    → AllByRecursion (IsTrueOf r d c (put_in number_of o own) kept) more → IsLink r d c (put_in number_of o own) kept (sent ++ more)
link_asked r d c o own kept sent more h fresh near told = own_changes r d c own (put_in number_of o own) kept sent more h (follows_put o own fresh) placed told
  where
    placed : (v : Instance) (x : Own) → find (is_of v) (put_in number_of o own) ≡ Some x → is_placed x.state ≡ true → reaches r x.entry.at ≡ true → find (is_for v) kept ≡ Some x.entry
    placed v x f p far = cases (is_of v o) refl
      where
        cases : (b : Bool) → is_of v o ≡ b → find (is_for v) kept ≡ Some x.entry
        cases true t =
            let same : o.entry.instance ≡ v = same_instance o.entry.instance v (eqb-true o.entry.instance.0 v.0 t) in
            let none : find (is_of v) own ≡ None = subst (λ (u : Instance). find (is_of u) own ≡ None) same (none_any (is_of o.entry.instance) own fresh) in
            let one : o ≡ x = one_some o x (put_found number_of (is_of v) o own t none) f in
            absurd (clash far (subst (λ (z : Own). reaches r z.entry.at ≡ false) one (near (subst (λ (z : Own). is_placed z.state ≡ true) (sym one) p))))
        cases false t = h.placed v x (sym (put_others number_of (is_of v) o own t) ∙ f) p far

-- An entry that counts goes into another state.
pub follows_state : (v : Instance) (x : NetState) (own : List Own) (o : Own) → find (is_of v) own ≡ Some o → is_live o.state ≡ true → Follows own (with_state v x own)
follows_state v x own o found live u y f = cases (v.0 == u.0) refl
  where
    cases : (b : Bool) → (v.0 == u.0) ≡ b → (n : Own) × (find (is_of u) (with_state v x own) ≡ Some n) × (n.entry ≡ y.entry) × (is_live y.state ≡ false → is_live n.state ≡ false)
    cases true t =
        let same : v ≡ u = same_instance v u (eqb-true v.0 u.0 t) in
        let one : o ≡ y = one_some o y (subst (λ (w : Instance). find (is_of w) own ≡ Some o) same found) f in (
          record o { state = x },
          subst (λ (w : Instance). find (is_of w) (with_state v x own) ≡ Some (record o { state = x })) same (state_found v x own o found),
          ap (λ (z : Own). z.entry) one,
          λ e. absurd (clash (subst (λ (z : Own). is_live z.state ≡ true) one live) e),
        )
    cases false t = (y, state_others v u x own (λ e. clash (eq-eqb v.0 u.0 e) t) ∙ f, refl, λ e. e)

pub link_state : (r : NetRing) (d c : ℕ) (v : Instance) (x : NetState) (own : List Own) (o : Own) (kept : List Entry) (sent more : List Packet) → IsLink r d c own kept sent
    → find (is_of v) own ≡ Some o → is_live o.state ≡ true → (is_placed x ≡ true → find (is_for v) kept ≡ Some o.entry)
    → AllByRecursion (IsTrueOf r d c (with_state v x own) kept) more → IsLink r d c (with_state v x own) kept (sent ++ more)
link_state r d c v x own o kept sent more h found live held told = own_changes r d c own (with_state v x own) kept sent more h (follows_state v x own o found live) placed told
  where
    placed : (u : Instance) (y : Own) → find (is_of u) (with_state v x own) ≡ Some y → is_placed y.state ≡ true → reaches r y.entry.at ≡ true → find (is_for u) kept ≡ Some y.entry
    placed u y f p far = cases (v.0 == u.0) refl
      where
        cases : (b : Bool) → (v.0 == u.0) ≡ b → find (is_for u) kept ≡ Some y.entry
        cases true t =
            let same : v ≡ u = same_instance v u (eqb-true v.0 u.0 t) in
            let one : record o { state = x } ≡ y = one_some (record o { state = x }) y (subst (λ (w : Instance). find (is_of w) (with_state v x own) ≡ Some (record o { state = x })) same (state_found v x own o found)) f in
            let now = held (subst (λ (z : Own). is_placed z.state ≡ true) (sym one) p) in
            subst (λ (w : Instance). find (is_for w) kept ≡ Some y.entry) same (now ∙ ap (λ (z : Own). Some z.entry) one)
        cases false t = h.placed u y (sym (state_others v u x own (λ e. clash (eq-eqb v.0 u.0 e) t)) ∙ f) p far

-- The successor keeps an entry that was asked for.
pub link_kept : (r : NetRing) (d c : ℕ) (v : Instance) (e : Entry) (own : List Own) (kept : List Entry) (sent more : List Packet) → IsLink r d c own kept sent
    → e.instance ≡ v → find (is_for v) kept ≡ None → IsAskedFar r own v e → AllByRecursion (IsTrueOf r d c own (put_in (λ (x : Entry). x.instance.0) e kept)) more
    → IsLink r d c own (put_in (λ (x : Entry). x.instance.0) e kept) (sent ++ more)
link_kept r d c v e own kept sent more h named none far told = record {
  told = all_append (IsTrueOf r d c own now) sent more (all_map (IsTrueOf r d c own kept) (IsTrueOf r d c own now) sent still h.told) told;
  placed = λ u o f p reach. stays u o.entry (h.placed u o f p reach);
  asked = asked;
}
  where
    now : List Entry
    now = put_in (λ (x : Entry). x.instance.0) e kept

    is_e : is_for v e ≡ true
    is_e = eq-eqb e.instance.0 v.0 (ap (λ (w : Instance). w.0) named)

    stays : (u : Instance) (x : Entry) → find (is_for u) kept ≡ Some x → find (is_for u) (put_in (λ (y : Entry). y.instance.0) e kept) ≡ Some x
    stays u x f = cases (is_for u e) refl
      where
        cases : (b : Bool) → is_for u e ≡ b → find (is_for u) (put_in (λ (y : Entry). y.instance.0) e kept) ≡ Some x
        cases true t =
            let same : v ≡ u = same_instance v u (sym (ap (λ (w : Instance). w.0) named) ∙ eqb-true e.instance.0 u.0 t) in
            absurd (never x f (subst (λ (w : Instance). find (is_for w) kept ≡ None) same none))
        cases false t = put_others (λ (y : Entry). y.instance.0) (is_for u) e kept t ∙ f

    still : (p : Packet) → IsTrueOf r d c own kept p → IsTrueOf r d c own (put_in (λ (y : Entry). y.instance.0) e kept) p
    still (packet.Reserve u at rate to) g = g
    still (packet.Confirm u to) g = λ z. let w = g z in record { o = w.o; found = w.found; held = ⊎_elim (λ k. inl (stays u w.o.entry k)) (λ k. inr k) w.held }
    still (packet.Refuse u quantum sum to) g = tt
    still (packet.Release u to) g = g

    asked : (u : Instance) (x : Entry) → find (is_for u) (put_in (λ (y : Entry). y.instance.0) e kept) ≡ Some x → IsAskedFar r own u x
    asked u x f = cases (is_for u e) refl
      where
        cases : (b : Bool) → is_for u e ≡ b → IsAskedFar r own u x
        cases true t =
            let same : v ≡ u = same_instance v u (sym (ap (λ (w : Instance). w.0) named) ∙ eqb-true e.instance.0 u.0 t) in
            let one : e ≡ x = one_some e x (subst (λ (w : Instance). find (is_for w) (put_in (λ (y : Entry). y.instance.0) e kept) ≡ Some e) same (put_found (λ (y : Entry). y.instance.0) (is_for v) e kept is_e none)) f in
            subst (λ (w : Instance). IsAskedFar r own w x) same (subst (λ (y : Entry). IsAskedFar r own v y) one far)
        cases false t = h.asked u x (sym (put_others (λ (y : Entry). y.instance.0) (is_for u) e kept t) ∙ f)

-- The successor keeps quanta no more for an entry that has ended.
pub link_released : (r : NetRing) (d c : ℕ) (v : Instance) (own : List Own) (kept : List Entry) (sent more : List Packet) → IsLink r d c own kept sent → IsEnded own v
    → AllByRecursion (IsTrueOf r d c own (filter (λ e. not (is_for v e)) kept)) more → IsLink r d c own (filter (λ e. not (is_for v e)) kept) (sent ++ more)
link_released r d c v own kept sent more h over told = record {
  told = all_append (IsTrueOf r d c own (filter (λ e. not (is_for v e)) kept)) sent more (all_map (IsTrueOf r d c own kept) (IsTrueOf r d c own (filter (λ e. not (is_for v e)) kept)) sent still h.told) told;
  placed = placed;
  asked = asked;
}
  where
    others : (u : Instance) → (v.0 == u.0) ≡ false → find (is_for u) (filter (λ e. not (is_for v e)) kept) ≡ find (is_for u) kept
    others u t = released_others v u kept (λ e. clash (eq-eqb v.0 u.0 e) t)

    idle : (x : NetState) → is_live x ≡ false → is_placed x ≡ true → ⊥
    idle state.Placed a b = clash refl a
    idle state.Waiting a b = clash refl a
    idle (state.Full quantum sum) a b = clash b refl
    idle (state.Refused quantum sum) a b = clash b refl
    idle state.Stopped a b = clash b refl

    still : (p : Packet) → IsTrueOf r d c own kept p → IsTrueOf r d c own (filter (λ e. not (is_for v e)) kept) p
    still (packet.Reserve u at rate to) g = g
    still (packet.Confirm u to) g = λ z. cases (v.0 == u.0) refl (g z)
      where
        cases : (b : Bool) → (v.0 == u.0) ≡ b → IsConfirmed own kept u → IsConfirmed own (filter (λ e. not (is_for v e)) kept) u
        cases true t w =
            let same : v ≡ u = same_instance v u (eqb-true v.0 u.0 t) in
            record { o = over.o; found = subst (λ (x : Instance). find (is_of x) own ≡ Some over.o) same over.found; held = inr over.ended }
        cases false t w = record { o = w.o; found = w.found; held = ⊎_elim (λ k. inl (others u t ∙ k)) (λ k. inr k) w.held }
    still (packet.Refuse u quantum sum to) g = tt
    still (packet.Release u to) g = g

    placed : (u : Instance) (o : Own) → find (is_of u) own ≡ Some o → is_placed o.state ≡ true → reaches r o.entry.at ≡ true → find (is_for u) (filter (λ e. not (is_for v e)) kept) ≡ Some o.entry
    placed u o f p far = cases (v.0 == u.0) refl
      where
        cases : (b : Bool) → (v.0 == u.0) ≡ b → find (is_for u) (filter (λ e. not (is_for v e)) kept) ≡ Some o.entry
        cases true t =
            let same : v ≡ u = same_instance v u (eqb-true v.0 u.0 t) in
            let one : over.o ≡ o = one_some over.o o (subst (λ (x : Instance). find (is_of x) own ≡ Some over.o) same over.found) f in
            absurd (idle o.state (subst (λ (z : Own). is_live z.state ≡ false) one over.ended) p)
        cases false t = others u t ∙ h.placed u o f p far

    asked : (u : Instance) (x : Entry) → find (is_for u) (filter (λ e. not (is_for v e)) kept) ≡ Some x → IsAskedFar r own u x
    asked u x f = cases (v.0 == u.0) refl
      where
        cases : (b : Bool) → (v.0 == u.0) ≡ b → IsAskedFar r own u x
        cases true t =
            let same : v ≡ u = same_instance v u (eqb-true v.0 u.0 t) in
            absurd (never x f (subst (λ (w : Instance). find (is_for w) (filter (λ e. not (is_for v e)) kept) ≡ None) same (released_none v kept)))
        cases false t = h.asked u x (sym (others u t) ∙ f)
