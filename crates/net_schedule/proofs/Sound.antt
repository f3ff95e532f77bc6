-- A cub stays sound, and its row right, as entries come, end and go.
use Rattle.std.proofs.Common.{◌≡◌, ◌∙◌, ℕ, zero, suc, ◌+◌, ◌-◌, ◌*◌, ◌<◌, ◌≤◌, ◌&&◌, ◌==◌, Bool, true, false, not, cond, List, [], ◌∷◌, length, get_or, Some, None, Option, refl, sym, ap, subst, arith, nat_lt, add-mul, one-mul, ⊎_elim, eq-or-lt_of_le}
use Rattle.std.specs.Prelude.{filter, find, sum_by, option_map}
use Rattle.std.specs.List.{AllByRecursion, range_with_len}
use Rattle.std.proofs.lemmas.Bool.{ltb-false}
use Rattle.std.proofs.lemmas.Nat.{mul-le}
use Rattle.tiger_base.specs.declared.number.Instance.{Instance}
use Rattle.net_schedule.specs.declared.ring.NetRing.{NetRing}
use Rattle.net_schedule.specs.declared.ring.Entry.{Entry}
use Rattle.net_schedule.specs.declared.ring.NetState.{NetState}
use Rattle.net_schedule.specs.declared.ring.NetState.TheVariants as state
use Rattle.net_schedule.specs.declared.ring.Own.{Own}
use Rattle.net_schedule.specs.Rings.{IsRing, IsOwnQuantum, IsEntryOf, takes, before, most_quanta}
use Rattle.net_schedule.specs.Cubs.{waits, CubState, IsSound, HasLoads, IsOwnOf, IsKeptOf, IsMoreBy, is_live, is_waiting, is_of, is_for, is_asked, is_kept, number_of, put_in, with_state, own_rate, kept_rate, carried, first_over, is_over, over_at}
use Rattle.net_schedule.proofs.Lists.{all_put, sum_put, rises_put, all_state, rises_state, sum_ended, sum_same, all_filter, rises_filter, sum_released, not_there}

-- the numbers from a on, n of them, of which none passes a test
pub none_passes : (p : ℕ → Bool) (a n k : ℕ) → find p (range_with_len a n) ≡ None → a ≤ k → k < a + n → p k ≡ false
none_passes p a zero k e low high = absurd (omega (arith, low, high))
none_passes p a (suc n) k e low high = cases (p a) refl e (λ none above. none_passes p (a + 1) n k none above (omega (arith, high)))
  where
    cases : (t : Bool) → p a ≡ t → cond t (Some a) (find p (range_with_len (a + 1) n)) ≡ None
        → (find p (range_with_len (a + 1) n) ≡ None → a + 1 ≤ k → p k ≡ false) → p k ≡ false
    cases true is none more = absurd (cc)
    cases false is none more =
        ⊎_elim
        (λ (same : a ≡ k). subst (λ (i : ℕ). p i ≡ false) same is)
        (λ (less : a < k). more none (omega (arith, less)))
        (eq-or-lt_of_le low)

none_of_map : {X Y : Type 0} (f : X → Y) (o : Option X) → option_map f o ≡ None → o ≡ None
none_of_map f None e = refl
none_of_map f (Some x) e = absurd (cc)

-- an entry that was found to fit does so in each of the cub's quanta
pub fits_too : (s : CubState) (e : Entry) (k : ℕ) → IsSound s → first_over s e.at e.rate ≡ None → IsOwnQuantum s.ring s.no k → carried s k + kept_rate s.ring k e ≤ s.ring.capacity
unfolding first_over
fits_too s e k h none own = cases (takes s.ring e.at k) refl
  where
    cases : (b : Bool) → takes s.ring e.at k ≡ b → carried s k + kept_rate s.ring k e ≤ s.ring.capacity
    cases false eb = let z : kept_rate s.ring k e ≡ 0 = rw eb refl in omega (arith, h.fits k own, z)
    cases true eb =
        let z : kept_rate s.ring k e ≡ e.rate = rw eb refl in
        let o : is_over s e.at e.rate k ≡ false = none_passes (is_over s e.at e.rate) (s.no * s.ring.quanta) s.ring.quanta k (none_of_map (over_at s) (find (is_over s e.at e.rate) (range_with_len (s.no * s.ring.quanta) s.ring.quanta)) none) own.0 own.1 in
        let t : nat_lt s.ring.capacity (carried s k + e.rate) ≡ false = ap (λ (y : Bool). y && nat_lt s.ring.capacity (carried s k + e.rate)) (sym eb) ∙ o in
        omega (arith, ltb-false _ _ t, z)

-- a cub's quanta are below the greatest number of quanta
pub few_quanta : (r : NetRing) (c k : ℕ) → IsRing r → c < r.cubs → k < c * r.quanta + r.quanta → k < most_quanta
few_quanta r c k ring low own =
    omega (arith, own, mul-le (c + 1) r.quanta 64 1000 (omega (arith, low, ring.few_cubs)) ring.few_quanta, add-mul c 1 r.quanta, one-mul r.quanta)

pub few_before : (r : NetRing) (c : ℕ) → IsRing r → c < r.cubs → before r c < r.cubs
few_before r c ring low = cases (c == 0) refl
  where
    cases : (b : Bool) → (c == 0) ≡ b → cond b (r.cubs - 1) (c - 1) < r.cubs
    cases true e = omega (arith, ring.some_cubs)
    cases false e = omega (arith, low)

pub own_low : (s : CubState) (e : Entry) → IsSound s → IsEntryOf s.ring s.no e → e.at < most_quanta
own_low s e h is = few_quanta s.ring s.no e.at h.ring h.no is.at.1

pub kept_low : (s : CubState) (e : Entry) → IsSound s → IsKeptOf s.ring s.no e → e.at < most_quanta
kept_low s e h is = few_quanta s.ring (before s.ring s.no) e.at h.ring (few_before s.ring s.no h.ring h.no) is.entry.at.1

-- a row that an entry was added to, and one that it was taken out of
loads_up : (q first : ℕ) (r : NetRing) (e : Entry) (low high : List ℕ) (f g : ℕ → ℕ) → length low ≡ q → ((i : ℕ) → i < q → get_or low i 0 ≡ f (first + i))
    → IsMoreBy r first e low high → ((k : ℕ) → g k ≡ f k + kept_rate r k e) → (length high ≡ q) × ((i : ℕ) → i < q → get_or high i 0 ≡ g (first + i))
loads_up q first r e low high f g len is more sums =
    (more.len ∙ len, λ i less. omega (arith, more.more i (omega (arith, less, len)), is i less, sums (first + i)))

loads_down : (q first : ℕ) (r : NetRing) (e : Entry) (low high : List ℕ) (f g : ℕ → ℕ) → length high ≡ q → ((i : ℕ) → i < q → get_or high i 0 ≡ f (first + i))
    → IsMoreBy r first e low high → ((k : ℕ) → f k ≡ g k + kept_rate r k e) → (length low ≡ q) × ((i : ℕ) → i < q → get_or low i 0 ≡ g (first + i))
loads_down q first r e low high f g len is more sums =
    (sym more.len ∙ len, λ i less. omega (arith, more.more i (omega (arith, less, len, more.len)), is i less, sums (first + i)))

-- what each entry that counts takes stands in the row
pub has_own : (s : CubState) (loads : List ℕ) (v : Instance) (o : Own) → HasLoads s loads → find (is_of v) s.own ≡ Some o → is_live o.state ≡ true
    → (i : ℕ) → i < length loads → kept_rate s.ring (s.no * s.ring.quanta + i) o.entry ≤ get_or loads i 0
has_own s loads v o h f live i low =
    omega (arith, h.is i (omega (arith, low, h.len)), sum_ended s.ring (s.no * s.ring.quanta + i) v state.Stopped s.own o f live refl)

pub has_kept : (s : CubState) (loads : List ℕ) (v : Instance) (e : Entry) → HasLoads s loads → find (is_for v) s.kept ≡ Some e
    → (i : ℕ) → i < length loads → kept_rate s.ring (s.no * s.ring.quanta + i) e ≤ get_or loads i 0
has_kept s loads v e h f i low =
    omega (arith, h.is i (omega (arith, low, h.len)), sum_released s.ring (s.no * s.ring.quanta + i) v s.kept e h.sound.kept_rises f)

-- Entries come.
pub entered : (s : CubState) (loads new : List ℕ) (o : Own) (own : List Own) → HasLoads s loads → IsOwnOf s.ring s.no o → is_asked s.own o.entry.instance ≡ false
    → first_over s o.entry.at o.entry.rate ≡ None → is_live o.state ≡ true → own ≡ put_in number_of o s.own → IsMoreBy s.ring (s.no * s.ring.quanta) o.entry loads new
    → HasLoads (record { ring = s.ring; no = s.no; own = own; kept = s.kept }) new
entered s loads new o own h mine fresh none live is more =
    let rate : (k : ℕ) → own_rate s.ring k o ≡ kept_rate s.ring k o.entry = λ k. rw live refl in
    let sums : (k : ℕ) → sum_by (own_rate s.ring k) (put_in number_of o s.own) + sum_by (kept_rate s.ring k) s.kept ≡ carried s k + kept_rate s.ring k o.entry
    = λ k. omega (arith, sum_put (own_rate s.ring k) number_of o s.own, rate k) in
    let row = loads_up s.ring.quanta (s.no * s.ring.quanta) s.ring o.entry loads new (carried s) (λ k. sum_by (own_rate s.ring k) (put_in number_of o s.own) + sum_by (kept_rate s.ring k) s.kept) h.len h.is more sums in
    rw is record {
      sound = record {
        ring = h.sound.ring;
        no = h.sound.no;
        own = all_put (IsOwnOf s.ring s.no) number_of o s.own mine h.sound.own;
        kept = h.sound.kept;
        own_rises = rises_put number_of o s.own h.sound.own_rises fresh;
        kept_rises = h.sound.kept_rises;
        fits = λ k own. omega (arith, sums k, fits_too s o.entry k h.sound none own);
      };
      len = row.0;
      is = row.1;
    }

pub entered_idle : (s : CubState) (loads : List ℕ) (o : Own) (own : List Own) → HasLoads s loads → IsOwnOf s.ring s.no o → is_asked s.own o.entry.instance ≡ false
    → is_live o.state ≡ false → own ≡ put_in number_of o s.own → HasLoads (record { ring = s.ring; no = s.no; own = own; kept = s.kept }) loads
entered_idle s loads o own h mine fresh idle is =
    let rate : (k : ℕ) → own_rate s.ring k o ≡ 0 = λ k. rw idle refl in
    let sums : (k : ℕ) → sum_by (own_rate s.ring k) (put_in number_of o s.own) + sum_by (kept_rate s.ring k) s.kept ≡ carried s k
    = λ k. omega (arith, sum_put (own_rate s.ring k) number_of o s.own, rate k) in
    rw is record {
      sound = record {
        ring = h.sound.ring;
        no = h.sound.no;
        own = all_put (IsOwnOf s.ring s.no) number_of o s.own mine h.sound.own;
        kept = h.sound.kept;
        own_rises = rises_put number_of o s.own h.sound.own_rises fresh;
        kept_rises = h.sound.kept_rises;
        fits = λ k own. omega (arith, sums k, h.sound.fits k own);
      };
      len = h.len;
      is = λ i less. h.is i less ∙ sym (sums (s.no * s.ring.quanta + i));
    }

pub kept_too : (s : CubState) (loads new : List ℕ) (e : Entry) (kept : List Entry) → HasLoads s loads → IsKeptOf s.ring s.no e → is_kept s.kept e.instance ≡ false
    → first_over s e.at e.rate ≡ None → kept ≡ put_in (λ (x : Entry). x.instance.0) e s.kept → IsMoreBy s.ring (s.no * s.ring.quanta) e loads new
    → HasLoads (record { ring = s.ring; no = s.no; own = s.own; kept = kept }) new
kept_too s loads new e kept h mine fresh none is more =
    let number : Entry → ℕ = λ (x : Entry). x.instance.0 in
    let sums : (k : ℕ) → sum_by (own_rate s.ring k) s.own + sum_by (kept_rate s.ring k) (put_in (λ (x : Entry). x.instance.0) e s.kept) ≡ carried s k + kept_rate s.ring k e
    = λ k. omega (arith, sum_put (kept_rate s.ring k) (λ (x : Entry). x.instance.0) e s.kept) in
    let row = loads_up s.ring.quanta (s.no * s.ring.quanta) s.ring e loads new (carried s) (λ k. sum_by (own_rate s.ring k) s.own + sum_by (kept_rate s.ring k) (put_in (λ (x : Entry). x.instance.0) e s.kept)) h.len h.is more sums in
    rw is record {
      sound = record {
        ring = h.sound.ring;
        no = h.sound.no;
        own = h.sound.own;
        kept = all_put (IsKeptOf s.ring s.no) (λ (x : Entry). x.instance.0) e s.kept mine h.sound.kept;
        own_rises = h.sound.own_rises;
        kept_rises = rises_put (λ (x : Entry). x.instance.0) e s.kept h.sound.kept_rises fresh;
        fits = λ k own. omega (arith, sums k, fits_too s e k h.sound none own);
      };
      len = row.0;
      is = row.1;
    }

-- An entry ends.
still_own : (r : NetRing) (c : ℕ) (x : NetState) (o : Own) → is_waiting x ≡ false → IsOwnOf r c o → IsOwnOf r c (record o { state = x })
still_own r c x o idle h = record { entry = h.entry; waits = λ e. absurd (clash e idle) }
  where
    clash : {t : Bool} → t ≡ true → t ≡ false → ⊥
    clash a b = cc

idle_state : (x : NetState) → is_live x ≡ false → is_waiting x ≡ false
idle_state state.Placed e = refl
idle_state state.Waiting e = absurd (cc)
idle_state (state.Full quantum sum) e = refl
idle_state (state.Refused quantum sum) e = refl
idle_state state.Stopped e = refl

pub ended : (s : CubState) (loads new : List ℕ) (v : Instance) (x : NetState) (o : Own) (own : List Own) → HasLoads s loads → find (is_of v) s.own ≡ Some o
    → is_live o.state ≡ true → is_live x ≡ false → own ≡ with_state v x s.own → IsMoreBy s.ring (s.no * s.ring.quanta) o.entry new loads
    → HasLoads (record { ring = s.ring; no = s.no; own = own; kept = s.kept }) new
ended s loads new v x o own h f live dead is more =
    let sums : (k : ℕ) → carried s k ≡ (sum_by (own_rate s.ring k) (with_state v x s.own) + sum_by (kept_rate s.ring k) s.kept) + kept_rate s.ring k o.entry
    = λ k. omega (arith, sum_ended s.ring k v x s.own o f live dead) in
    let row = loads_down s.ring.quanta (s.no * s.ring.quanta) s.ring o.entry new loads (carried s) (λ k. sum_by (own_rate s.ring k) (with_state v x s.own) + sum_by (kept_rate s.ring k) s.kept) h.len h.is more sums in
    rw is record {
      sound = record {
        ring = h.sound.ring;
        no = h.sound.no;
        own = all_state (IsOwnOf s.ring s.no) v x s.own (λ y p. still_own s.ring s.no x y (idle_state x dead) p) h.sound.own;
        kept = h.sound.kept;
        own_rises = rises_state v x s.own h.sound.own_rises;
        kept_rises = h.sound.kept_rises;
        fits = λ k mine. omega (arith, sums k, h.sound.fits k mine);
      };
      len = row.0;
      is = row.1;
    }

-- One that waits is placed.
waits_live : (x : NetState) → is_waiting x ≡ true → is_live x ≡ true
waits_live state.Placed e = absurd (cc)
waits_live state.Waiting e = refl
waits_live (state.Full quantum sum) e = absurd (cc)
waits_live (state.Refused quantum sum) e = absurd (cc)
waits_live state.Stopped e = absurd (cc)

pub placed : (s : CubState) (loads : List ℕ) (v : Instance) (o : Own) (own : List Own) → HasLoads s loads → find (is_of v) s.own ≡ Some o
    → is_waiting o.state ≡ true → own ≡ with_state v state.Placed s.own → HasLoads (record { ring = s.ring; no = s.no; own = own; kept = s.kept }) loads
placed s loads v o own h f waits is =
    let sums : (k : ℕ) → sum_by (own_rate s.ring k) (with_state v state.Placed s.own) ≡ sum_by (own_rate s.ring k) s.own
    = λ k. sum_same s.ring k v state.Placed s.own o f (waits_live o.state waits) refl in
    rw is record {
      sound = record {
        ring = h.sound.ring;
        no = h.sound.no;
        own = all_state (IsOwnOf s.ring s.no) v state.Placed s.own (λ y p. still_own s.ring s.no state.Placed y refl p) h.sound.own;
        kept = h.sound.kept;
        own_rises = rises_state v state.Placed s.own h.sound.own_rises;
        kept_rises = h.sound.kept_rises;
        fits = λ k mine. omega (arith, sums k, h.sound.fits k mine);
      };
      len = h.len;
      is = λ i less. h.is i less ∙ ap (λ (n : ℕ). n + sum_by (kept_rate s.ring (s.no * s.ring.quanta + i)) s.kept) (sym (sums (s.no * s.ring.quanta + i)));
    }

-- Quanta are kept no more.
pub released_row : (s : CubState) (loads new : List ℕ) (v : Instance) (e : Entry) (kept : List Entry) → HasLoads s loads → find (is_for v) s.kept ≡ Some e
    → kept ≡ filter (λ x. not (is_for v x)) s.kept → IsMoreBy s.ring (s.no * s.ring.quanta) e new loads
    → HasLoads (record { ring = s.ring; no = s.no; own = s.own; kept = kept }) new
released_row s loads new v e kept h f is more =
    let sums : (k : ℕ) → carried s k ≡ (sum_by (own_rate s.ring k) s.own + sum_by (kept_rate s.ring k) (filter (λ x. not (is_for v x)) s.kept)) + kept_rate s.ring k e
    = λ k. omega (arith, sum_released s.ring k v s.kept e h.sound.kept_rises f) in
    let row = loads_down s.ring.quanta (s.no * s.ring.quanta) s.ring e new loads (carried s) (λ k. sum_by (own_rate s.ring k) s.own + sum_by (kept_rate s.ring k) (filter (λ x. not (is_for v x)) s.kept)) h.len h.is more sums in
    rw is record {
      sound = record {
        ring = h.sound.ring;
        no = h.sound.no;
        own = h.sound.own;
        kept = all_filter (IsKeptOf s.ring s.no) (λ x. not (is_for v x)) s.kept h.sound.kept;
        own_rises = h.sound.own_rises;
        kept_rises = rises_filter (λ (x : Entry). x.instance.0) (λ x. not (is_for v x)) s.kept h.sound.kept_rises;
        fits = λ k mine. omega (arith, sums k, h.sound.fits k mine);
      };
      len = row.0;
      is = row.1;
    }

-- what is found is one of them
pub found_all : {X : Type 0} (P : X → Type 0) (p : X → Bool) (xs : List X) (o : X) → AllByRecursion P xs → find p xs ≡ Some o → P o
found_all P p [] o h f = absurd (cc)
found_all P p (y ∷ ys) o h f = cases (p y) f (λ g. found_all P p ys o h.1 g)
  where
    cases : (b : Bool) → cond b (Some y) (find p ys) ≡ Some o → (find p ys ≡ Some o → P o) → P o
    cases true g ih = subst P (cc) h.0
    cases false g ih = ih g

pub found_low : (s : CubState) (v : Instance) (o : Own) → IsSound s → find (is_of v) s.own ≡ Some o → o.entry.at < most_quanta
found_low s v o h f = own_low s o.entry h (found_all (IsOwnOf s.ring s.no) (is_of v) s.own o h.own f).entry

pub found_kept_low : (s : CubState) (v : Instance) (e : Entry) → IsSound s → find (is_for v) s.kept ≡ Some e → e.at < most_quanta
found_kept_low s v e h f = kept_low s e h (found_all (IsKeptOf s.ring s.no) (is_for v) s.kept e h.kept f)

-- a Release of what is not kept changes nothing
pub unreleased : (s : CubState) (v : Instance) → find (is_for v) s.kept ≡ None → s ≡ record { ring = s.ring; no = s.no; own = s.own; kept = filter (λ e. not (is_for v e)) s.kept }
unreleased s v none = rw (not_there v s.kept none) refl

pub waits_found : (f : Option Own) → waits f ≡ true → (o : Own) × (f ≡ Some o) × (is_waiting o.state ≡ true)
waits_found None e = absurd (cc)
waits_found (Some o) e = (o, refl, e)
