-- No quantum of a ring carries more than the capacity, and all that is kept was asked for.
use Rattle.std.proofs.Common.{eq-eqb, eq-zero-or-pos, ◌≡◌, ◌∙◌, ℕ, suc, ◌+◌, ◌*◌, ◌-◌, ◌/◌, ◌%◌, ◌<◌, ◌≤◌, ◌&&◌, ◌||◌, ◌==◌, Bool, true, false, cond, List, [], ◌∷◌, Some, length, refl, sym, ap, subst, arith, ⊎_elim, inl, inr, lt_of_mul-lt-mul_right, suc-mul, add-mul, nat_le, nat_lt}
use Rattle.std.specs.Prelude.{find, sum_by, ◌⊎◌}
use Rattle.std.specs.List.{AllByRecursion}
use Rattle.std.proofs.Math.Nat.{div-add-mod, mod-lt, mul_comm}
use Rattle.std.proofs.lemmas.Bool.{eqb-true, ltb-true, leb-true}
use Rattle.std.proofs.lemmas.Nat.{mod-mul-add}
use Rattle.std.proofs.lemmas.List.Sums.{sum_by-cons}
use Rattle.net_schedule.specs.declared.ring.NetRing.{NetRing}
use Rattle.net_schedule.specs.declared.ring.Entry.{Entry}
use Rattle.net_schedule.specs.declared.ring.NetState.{NetState}
use Rattle.net_schedule.specs.declared.ring.NetState.TheVariants as state
use Rattle.net_schedule.specs.declared.ring.Own.{Own}
use Rattle.net_schedule.specs.Rings.{IsRing, IsOwnQuantum, takes, reaches, quanta_in, next_of, before}
use Rattle.net_schedule.specs.Cubs.{CubState, IsOwnOf, number_of, is_live, is_placed, is_of, is_for, own_rate, kept_rate}
use Rattle.net_schedule.specs.Worlds.{WorldState, cub_at}
use Rattle.net_schedule.specs.Links.{IsSeated, IsWorld}
use Rattle.net_schedule.specs.Claims.{placed_rate, ring_sum, KeepsToCapacity, KeepsWhatIsAsked}
use Rattle.net_schedule.proofs.Finds.{all_found}
use Rattle.net_schedule.proofs.Sound.{found_all, few_before}
use Rattle.net_schedule.proofs.Places.{split, not_same, differ, next_not, next_before, before_next}
use Rattle.net_schedule.proofs.Dominated.{Has, dominated, sum_of_parts, share, share_here, sum_of_shares}

-- an entry of cub d that takes a quantum of cub c is of that cub, or of the one before it and begins behind its first quantum
pub near : (r : NetRing) (d c at k : ℕ) → IsRing r → d < r.cubs → c < r.cubs → IsOwnQuantum r d at → IsOwnQuantum r c k
    → takes r at k ≡ true → (d ≡ c) ⊎ ((next_of r d ≡ c) × (d * r.quanta < at))
near r d c at k ring d< c< own-at own-k t = tests (nat_le at k) (nat_lt k (at + r.quanta)) (nat_lt (k + quanta_in r) (at + r.quanta)) refl refl refl t
  where
    step : suc d ≡ c → next_of r d ≡ c
    step e = let other : ((d + 1) == r.cubs) ≡ false = not_same (d + 1) r.cubs (λ z. omega (arith, z, e, c<)) in rw other (omega (arith, e))

    wrap : suc d ≡ r.cubs → c ≡ 0 → next_of r d ≡ c
    wrap e z = let last : ((d + 1) == r.cubs) ≡ true = eq-eqb (d + 1) r.cubs (omega (arith, e)) in rw last (sym z)

    round : k + r.cubs * r.quanta < at + r.quanta → (d ≡ c) ⊎ ((next_of r d ≡ c) × (d * r.quanta < at))
    round h =
        let e : c + r.cubs < suc (suc d) = lt_of_mul-lt-mul_right r.quanta (omega (arith, h, own-at.1, own-k.0, add-mul c r.cubs r.quanta, suc-mul d r.quanta, suc-mul (suc d) r.quanta)) in
        let none : c ≡ 0 = omega (arith, e, d<) in
        let last : suc d ≡ r.cubs = omega (arith, e, d<) in
        inr (wrap last none, omega (arith, h, ap (λ n. n * r.quanta) last, suc-mul d r.quanta))

    tests : (x y z : Bool) → nat_le at k ≡ x → nat_lt k (at + r.quanta) ≡ y → nat_lt (k + quanta_in r) (at + r.quanta) ≡ z → ((x && y) || z) ≡ true
        → (d ≡ c) ⊎ ((next_of r d ≡ c) × (d * r.quanta < at))
    tests true true z ex ey ez e =
        let low : at ≤ k = leb-true _ _ ex in
        let high : k < at + r.quanta = ltb-true _ _ ey in
        let a : d < suc c = lt_of_mul-lt-mul_right r.quanta (omega (arith, low, own-at.0, own-k.1, suc-mul c r.quanta)) in
        let b : c < suc (suc d) = lt_of_mul-lt-mul_right r.quanta (omega (arith, high, own-at.1, own-k.0, suc-mul d r.quanta, suc-mul (suc d) r.quanta)) in
        ⊎_elim
        (λ (s : d ≡ c). inl s)
        (λ (s : d < c). let next : c ≡ suc d = omega (arith, s, b) in
        inr (step (sym next), omega (arith, high, own-k.0, ap (λ n. n * r.quanta) next, suc-mul d r.quanta)))
        (split d c (omega (arith, a)))
    tests true false true ex ey ez e = round (ltb-true _ _ ez)
    tests false y true ex ey ez e = round (ltb-true _ _ ez)
    tests true false false ex ey ez e = absurd (cc)
    tests false true false ex ey ez e = absurd (cc)
    tests false false false ex ey ez e = absurd (cc)

-- what begins behind the first quantum of its cub reaches into the successor's
pub far_from_first : (r : NetRing) (d at : ℕ) → IsOwnQuantum r d at → d * r.quanta < at → reaches r at ≡ true
far_from_first r d at own less =
    let m = at - d * r.quanta in
    let whole : d * r.quanta + (at - d * r.quanta) ≡ at = omega (arith, less) in
    let rest : at % r.quanta ≡ at - d * r.quanta = ap (λ n. n % r.quanta) (sym whole) ∙ mod-mul-add d r.quanta (at - d * r.quanta) (omega (arith, own.1, less)) in
    let some : (at % r.quanta == 0) ≡ false = not_same (at % r.quanta) 0 (λ e. omega (arith, e, rest, less)) in
    rw some refl

live_of : (x : NetState) → is_placed x ≡ true → is_live x ≡ true
live_of state.Placed e = refl
live_of state.Waiting e = refl
live_of (state.Full quantum sum) e = absurd (cc)
live_of (state.Refused quantum sum) e = absurd (cc)
live_of state.Stopped e = absurd (cc)

-- what counts in a quantum is placed and takes it
counts_so : (r : NetRing) (k : ℕ) (o : Own) → 0 < placed_rate r k o → (is_placed o.state ≡ true) × (takes r o.entry.at k ≡ true)
counts_so r k o some = both (is_placed o.state) (takes r o.entry.at k) refl refl some
  where
    both : (x y : Bool) → is_placed o.state ≡ x → takes r o.entry.at k ≡ y → 0 < cond (x && y) o.entry.rate 0 → (is_placed o.state ≡ true) × (takes r o.entry.at k ≡ true)
    both true true ex ey h = (ex, ey)
    both true false ex ey h = absurd (omega (arith, h))
    both false y ex ey h = absurd (omega (arith, h))

placed_le_own : (r : NetRing) (k : ℕ) (o : Own) → placed_rate r k o ≤ own_rate r k o
placed_le_own r k o =
    ⊎_elim
    (λ z. omega (arith, z))
    (λ some. let h = counts_so r k o some in
    let a : placed_rate r k o ≡ o.entry.rate = rw (h.0, h.1) refl in
    let b : own_rate r k o ≡ o.entry.rate = rw (live_of o.state h.0, h.1) refl in
    omega (arith, a, b))
    (eq-zero-or-pos (placed_rate r k o))

placed_le_kept : (r : NetRing) (k : ℕ) (o : Own) → takes r o.entry.at k ≡ true → is_placed o.state ≡ true → placed_rate r k o ≤ kept_rate r k o.entry
placed_le_kept r k o t p =
    let a : placed_rate r k o ≡ o.entry.rate = rw (p, t) refl in
    let b : kept_rate r k o.entry ≡ o.entry.rate = rw t refl in
    omega (arith, a, b)

sum_le : {X : Type 0} (f g : X → ℕ) (xs : List X) → ((x : X) → f x ≤ g x) → sum_by f xs ≤ sum_by g xs
sum_le f g [] h = omega arith
sum_le f g (x ∷ xs) h = omega (arith, h x, sum_le f g xs h, sum_by-cons f x xs, sum_by-cons g x xs)

sum_none : {X : Type 0} (f : X → ℕ) (xs : List X) → AllByRecursion (λ x. f x ≡ 0) xs → sum_by f xs ≡ 0
sum_none f [] h = refl
sum_none f (x ∷ xs) h = omega (arith, h.0, sum_none f xs h.1, sum_by-cons f x xs)

own_entry : (w : WorldState) (i : ℕ) (o : Own) → IsSeated w i → find (is_of o.entry.instance) (cub_at w i).own ≡ Some o → IsOwnQuantum w.ring i o.entry.at
own_entry w i o seat f =
    subst (λ (q : NetRing). IsOwnQuantum q i o.entry.at) seat.ring
    (subst (λ (n : ℕ). IsOwnQuantum (cub_at w i).ring n o.entry.at) seat.no
    (found_all (IsOwnOf (cub_at w i).ring (cub_at w i).no) (is_of o.entry.instance) (cub_at w i).own o seat.sound.own f).entry.at)

at_before : (w : WorldState) (c k i : ℕ) → IsWorld w → c < w.ring.cubs → i < w.ring.cubs → IsOwnQuantum w.ring c k → next_of w.ring i ≡ c
    → sum_by (placed_rate w.ring k) (cub_at w i).own ≤ sum_by (kept_rate w.ring k) (cub_at w c).kept
at_before w c k i h c< i< own-k next =
    let seat = h.seated i i< in
    dominated number_of (λ (e : Entry). e.instance.0) (placed_rate w.ring k) (kept_rate w.ring k) (cub_at w i).own (cub_at w c).kept seat.sound.own_rises
    (all_found number_of (Has number_of (λ (e : Entry). e.instance.0) (placed_rate w.ring k) (kept_rate w.ring k) (cub_at w c).kept) (cub_at w i).own seat.sound.own_rises
    (λ o f some.
    let p = counts_so w.ring k o some in
    let own = own_entry w i o seat f in
    let far = ⊎_elim
    (λ (same : i ≡ c). absurd (next_not w.ring i h.ring i< (next ∙ sym same)))
    (λ (z : (next_of w.ring i ≡ c) × (i * w.ring.quanta < o.entry.at)). far_from_first w.ring i o.entry.at own z.1)
    (near w.ring i c o.entry.at k h.ring i< c< own own-k p.1) in (
      o.entry,
      subst (λ (n : ℕ). find (is_for o.entry.instance) (cub_at w n).kept ≡ Some o.entry) next ((h.links i i<).placed o.entry.instance o f p.0 far),
      placed_le_kept w.ring k o p.1 p.0,
    )))

elsewhere_none : (w : WorldState) (c k i : ℕ) → IsWorld w → c < w.ring.cubs → i < w.ring.cubs → IsOwnQuantum w.ring c k → (i ≡ c → ⊥) → (next_of w.ring i ≡ c → ⊥)
    → sum_by (placed_rate w.ring k) (cub_at w i).own ≡ 0
elsewhere_none w c k i h c< i< own-k ni nn =
    let seat = h.seated i i< in
    sum_none (placed_rate w.ring k) (cub_at w i).own
    (all_found number_of (λ (o : Own). placed_rate w.ring k o ≡ 0) (cub_at w i).own seat.sound.own_rises
    (λ o f. ⊎_elim
    (λ z. z)
    (λ some. let p = counts_so w.ring k o some in
    ⊎_elim (λ (same : i ≡ c). absurd (ni same)) (λ (z : (next_of w.ring i ≡ c) × (i * w.ring.quanta < o.entry.at)). absurd (nn z.0))
    (near w.ring i c o.entry.at k h.ring i< c< (own_entry w i o seat f) own-k p.1))
    (eq-zero-or-pos (placed_rate w.ring k o))))

pub in_own_quantum : (w : WorldState) (c k : ℕ) → IsWorld w → c < w.ring.cubs → IsOwnQuantum w.ring c k → ring_sum w k ≤ w.ring.capacity
in_own_quantum w c k h c< own-k =
    let seat = h.seated c c< in
    let fits : sum_by (own_rate w.ring k) (cub_at w c).own + sum_by (kept_rate w.ring k) (cub_at w c).kept ≤ w.ring.capacity =
    subst (λ (q : NetRing). sum_by (own_rate q k) (cub_at w c).own + sum_by (kept_rate q k) (cub_at w c).kept ≤ q.capacity) seat.ring
    (seat.sound.fits k (subst (λ (q : NetRing). IsOwnQuantum q (cub_at w c).no k) (sym seat.ring) (subst (λ (n : ℕ). IsOwnQuantum w.ring n k) (sym seat.no) own-k))) in
    let all = sum_of_shares (λ (s : CubState). sum_by (placed_rate w.ring k) s.own) w.cubs _ c (before w.ring c) (sum_by (own_rate w.ring k) (cub_at w c).own) (sum_by (kept_rate w.ring k) (cub_at w c).kept) bound in
    omega (arith, sum_of_parts (placed_rate w.ring k) (λ (s : CubState). s.own) w.cubs, all, fits)
  where
    a : ℕ
    a = sum_by (own_rate w.ring k) (cub_at w c).own

    bound : (i : ℕ) → i < length w.cubs → sum_by (placed_rate w.ring k) (cub_at w i).own
        ≤ share c (sum_by (own_rate w.ring k) (cub_at w c).own) i + share (before w.ring c) (sum_by (kept_rate w.ring k) (cub_at w c).kept) i
    bound i low = cases (i == c) refl (next_of w.ring i == c) refl
      where
        i< : i < w.ring.cubs
        i< = subst (λ (n : ℕ). i < n) h.count low

        cases : (x : Bool) → (i == c) ≡ x → (y : Bool) → (next_of w.ring i == c) ≡ y → sum_by (placed_rate w.ring k) (cub_at w i).own
            ≤ share c (sum_by (own_rate w.ring k) (cub_at w c).own) i + share (before w.ring c) (sum_by (kept_rate w.ring k) (cub_at w c).kept) i
        cases true ex y ey =
            let same : i ≡ c = eqb-true i c ex in
            let one : share c (sum_by (own_rate w.ring k) (cub_at w c).own) i ≡ sum_by (own_rate w.ring k) (cub_at w c).own = ap (share c (sum_by (own_rate w.ring k) (cub_at w c).own)) same ∙ share_here c (sum_by (own_rate w.ring k) (cub_at w c).own) in
            let here : sum_by (placed_rate w.ring k) (cub_at w i).own ≡ sum_by (placed_rate w.ring k) (cub_at w c).own = ap (λ (n : ℕ). sum_by (placed_rate w.ring k) (cub_at w n).own) same in
            omega (arith, one, here, sum_le (placed_rate w.ring k) (own_rate w.ring k) (cub_at w c).own (placed_le_own w.ring k))
        cases false ex true ey =
            let next : next_of w.ring i ≡ c = eqb-true (next_of w.ring i) c ey in
            let mine : i ≡ before w.ring c = sym (before_next w.ring i h.ring i<) ∙ ap (λ (n : ℕ). before w.ring n) next in
            let one : share (before w.ring c) (sum_by (kept_rate w.ring k) (cub_at w c).kept) i ≡ sum_by (kept_rate w.ring k) (cub_at w c).kept
            = ap (share (before w.ring c) (sum_by (kept_rate w.ring k) (cub_at w c).kept)) mine ∙ share_here (before w.ring c) (sum_by (kept_rate w.ring k) (cub_at w c).kept) in
            omega (arith, one, at_before w c k i h c< i< own-k next)
        cases false ex false ey = omega (arith, elsewhere_none w c k i h c< i< own-k (differ i c ex) (differ (next_of w.ring i) c ey))

pub capacity : (w : WorldState) → IsWorld w → KeepsToCapacity w
capacity w h k low =
    let q = w.ring.quanta in
    let split = div-add-mod k w.ring.quanta in
    let rest : k % w.ring.quanta < w.ring.quanta = mod-lt k (omega (arith, h.ring.some_quanta)) in
    let turn : w.ring.quanta * (k / w.ring.quanta) ≡ (k / w.ring.quanta) * w.ring.quanta = mul_comm w.ring.quanta (k / w.ring.quanta) in
    in_own_quantum w (k / w.ring.quanta) k h
    (lt_of_mul-lt-mul_right w.ring.quanta (omega (arith, split, turn, low)))
    (omega (arith, split, turn), omega (arith, split, turn, rest))

pub what_is_asked : (w : WorldState) → IsWorld w → KeepsWhatIsAsked w
what_is_asked w h c low =
    all_found (λ (e : Entry). e.instance.0) (λ (e : Entry). (o : Own) × (find (is_of e.instance) (cub_at w (before w.ring c)).own ≡ Some o) × (o.entry ≡ e)) (cub_at w c).kept (h.seated c low).sound.kept_rises
    (λ e f.
    let d< = few_before w.ring c h.ring low in
    let l = (h.links (before w.ring c) d<).asked e.instance e (subst (λ (n : ℕ). find (is_for e.instance) (cub_at w n).kept ≡ Some e) (sym (next_before w.ring c h.ring low)) f) in
    (l.o, l.found, l.same))
