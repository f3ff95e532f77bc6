-- Messages that come in through the ports of a share.
use Rattle.std.proofs.Common.{◌≡◌, ◌≢◌, ℕ, zero, suc, ◌+◌, ◌<◌, ◌≤◌, List, [], ◌∷◌, ◌++◌, map, length, Bool, true, false, Option, Some, None, refl, ap, sym, ◌∙◌, subst, arith, ⊎_elim, inl, inr, append-nil}
use Rattle.std.specs.Prelude.{slice_get, slice_set, ◌⊎◌}
use Rattle.std.proofs.lemmas.Bool.{cases_eq}
use Rattle.std.proofs.lemmas.Option.{none-some}
use Rattle.tiger_base.specs.declared.number.LinkNo.{LinkNo}
use Rattle.link_timing.specs.Clock.{Clock}
use Rattle.node_kit.proofs.Rows.{get-below}
use Rattle.run_facts.specs.declared.mail.Flight.{Flight}
use Rattle.run_facts.specs.Rings.{Traffic}
use Rattle.run_facts.proofs.Rows.{same-element}
use Rattle.ring_engine.specs.Traffic.{changed_at, IsOpen, AreOpen}
use Rattle.ring_engine.proofs.Arriving.{length-changed_at}
use Rattle.ring_engine.proofs.Channels.{get-changed_same, get-changed_other}
use Rattle.ring_engine.proofs.Running.{get-set_same, get-set_other, length-set_at}
use Rattle.ring_links.specs.Flights.{IsOrdered, AllFrom}
use Rattle.ring_cells.specs.Flows.{HasReceived}
use Rattle.ring_cells.proofs.Received.{received-none, received-more}
use Rattle.ring_engine.specs.Traffic.{after_receiving, received_on}
use Rattle.ring_cells.specs.Shares.{Entrance, inflow_of, links_in, AreApart, IsClosedTo, AreClosedTo, AreClosedBelow, FirstShort, AwaitedAt, HasComeIn, HasPoured}

-- what stands at a place, and what is made of it
pub get-map : {A B : Type 0} (f : A → B) (xs : List A) (k : ℕ) (x : A) → slice_get xs k ≡ Some x → slice_get (map f xs) k ≡ Some (f x)
get-map f [] k x there = absurd (none-some x there)
get-map f (y ∷ ys) zero x there = ap (λ z. Some (f z)) (let same : y ≡ x = cc in same)
get-map f (y ∷ ys) (suc k) x there = get-map f ys k x there

pub get-unmap : {A B : Type 0} (f : A → B) (xs : List A) (k : ℕ) (y : B) → slice_get (map f xs) k ≡ Some y → (x : A) × (slice_get xs k ≡ Some x) × (f x ≡ y)
get-unmap f [] k y there = absurd (none-some y there)
get-unmap f (x ∷ xs) zero y there = (x, refl, (let same : f x ≡ y = cc in same))
get-unmap f (x ∷ xs) (suc k) y there = get-unmap f xs k y there

pub get-there : {A : Type 0} (xs : List A) (n : ℕ) → n < length xs → (x : A) × slice_get xs n ≡ Some x
get-there [] n low = absurd (omega (arith, low))
get-there (x ∷ xs) zero low = (x, refl)
get-there (x ∷ xs) (suc n) low = get-there xs n (omega (arith, low))

-- whether one of a row is of a link
pub find-link : {A : Type 0} (f : A → LinkNo) (xs : List A) (l : ℕ) → ((q : ℕ) × (x : A) × (slice_get xs q ≡ Some x) × ((f x).0 ≡ l))
    ⊎ ((q : ℕ) (x : A) → slice_get xs q ≡ Some x → (f x).0 ≢ l)
find-link f [] l = inr (λ q x e same. none-some x e)
find-link {A} f (y ∷ ys) l = ⊎_elim
    (λ (same : (f y).0 ≡ l). inl (0, y, refl, same))
    (λ (other : (f y).0 ≢ l). ⊎_elim
    (λ (found : (q : ℕ) × (x : A) × (slice_get ys q ≡ Some x) × ((f x).0 ≡ l)). inl (suc found.0, found.1, found.2, found.3))
    (λ (none : (q : ℕ) (x : A) → slice_get ys q ≡ Some x → (f x).0 ≢ l). inr (nowhere other none))
    (find-link f ys l))
    (cases_eq (f y).0 l)
  where
    nowhere : (f y).0 ≢ l → ((q : ℕ) (x : A) → slice_get ys q ≡ Some x → (f x).0 ≢ l) → (q : ℕ) (x : A) → slice_get (y ∷ ys) q ≡ Some x → (f x).0 ≢ l
    nowhere other none zero x e = subst (λ z. (f z).0 ≢ l) (let same : y ≡ x = cc in same) other
    nowhere other none (suc q) x e = none q x e

pub map-set : {A B : Type 0} (f : A → B) (xs : List A) (n : ℕ) (x y : A) → slice_get xs n ≡ Some x → f y ≡ f x → map f (slice_set xs n y) ≡ map f xs
map-set f [] n x y e same = refl
map-set f (z ∷ zs) zero x y e same = ap (λ w. w ∷ map f zs) (same ∙ ap f (let is : x ≡ z = cc in is))
map-set f (z ∷ zs) (suc n) x y e same = ap (λ ws. f z ∷ ws) (map-set f zs n x y e same)

module _ {M : Type 0} where
  -- the ports of rows with the same links
  pub same-port : (ins ins' : List (Entrance M)) → links_in ins' ≡ links_in ins → (q : ℕ) (j : Entrance M) → slice_get ins' q ≡ Some j
      → (i : Entrance M) × (slice_get ins q ≡ Some i) × (i.link ≡ j.link)
  same-port ins ins' same q j there =
      get-unmap (λ (i : Entrance M). i.link) ins q j.link (ap (λ ls. slice_get ls q) (sym same) ∙ get-map (λ (i : Entrance M). i.link) ins' q j there)

  pub poured-none : (channels : List (Traffic M)) (ins : List (Entrance M)) → HasPoured channels ins channels ins
  poured-none channels ins = record {
    each = λ q i t there here. record { port = i; there = there; traffic = t; here = here; same_clock = refl; received = received-none (inflow_of i t) };
    others = λ l none. refl;
    same_links = refl;
    same_size = refl;
  }

  pub poured-on : (c1 c2 c3 : List (Traffic M)) (i1 i2 i3 : List (Entrance M)) → HasPoured c1 i1 c2 i2 → HasPoured c2 i2 c3 i3 → HasPoured c1 i1 c3 i3
  poured-on c1 c2 c3 i1 i2 i3 h g = record {
    each = λ q i t there here.
        let a = h.each q i t there here in
        let at = ap (λ (k : LinkNo). slice_get c2 k.0) a.received.same_link ∙ a.here in
        let b = g.each q a.port a.traffic a.there at in
        record {
          port = b.port;
          there = b.there;
          traffic = b.traffic;
          here = ap (λ (k : LinkNo). slice_get c3 k.0) (sym a.received.same_link) ∙ b.here;
          same_clock = b.same_clock ∙ a.same_clock;
          received = received-more (inflow_of i t) (inflow_of a.port a.traffic) (inflow_of b.port b.traffic) a.received b.received;
        };
    others = λ l none.
        g.others l (λ q j there same. let i = same-port i1 i2 h.same_links q j there in none q i.0 i.1 (ap (λ (k : LinkNo). k.0) i.2 ∙ same))
        ∙ h.others l none;
    same_links = g.same_links ∙ h.same_links;
    same_size = g.same_size ∙ h.same_size;
  }

  -- of one port: a message came in, or more was found closed
  only : (p i : Entrance M) (q : ℕ) → slice_get (p ∷ []) q ≡ Some i → (q ≡ 0) × (p ≡ i)
  only p i zero e = (refl, (let same : p ≡ i = cc in same))
  only p i (suc q) e = absurd (none-some i e)

  pub poured-one : (channels : List (Traffic M)) (p p' : Entrance M) (f : Flight M) → p'.link ≡ p.link → p'.line ≡ p.line → p'.closed ≡ p.closed
      → p'.flights ≡ p.flights ++ f ∷ [] → p.closed ≤ f.sent → IsOrdered p'.flights → HasPoured channels (p ∷ []) (received_on p.link f channels) (p' ∷ [])
  unfolding received_on
  poured-one channels p p' f link line closed more later ordered = record {
    each = λ q i t there here.
        let is = only p i q there in
        let here_p : slice_get channels p.link.0 ≡ Some t = ap (λ (x : Entrance M). slice_get channels x.link.0) is.1 ∙ here in
        record {
          port = p';
          there = ap (slice_get (p' ∷ [])) is.0;
          traffic = after_receiving f t;
          here = ap (λ (x : Entrance M). slice_get (changed_at (after_receiving f) channels p.link.0) x.link.0) (sym is.1) ∙ get-changed_same (after_receiving f) channels p.link.0 t here_p;
          same_clock = refl;
          received = subst (λ (x : Entrance M). HasReceived (inflow_of x t) (inflow_of p' (after_receiving f t))) is.1 (record {
            same_link = link;
            same_line = line;
            more = f ∷ [];
            all = more;
            waits = refl;
            rises = omega (arith, closed);
            of_open = (later, tt);
            in_order = λ h. ordered;
          });
        };
    others = λ l none. get-changed_other (after_receiving f) channels p.link.0 l (none 0 p refl);
    same_links = ap (λ (k : LinkNo). k ∷ []) link;
    same_size = length-changed_at (after_receiving f) channels p.link.0;
  }

  pub poured-look : (channels : List (Traffic M)) (p p' : Entrance M) → p'.link ≡ p.link → p'.line ≡ p.line → p'.flights ≡ p.flights → p.closed ≤ p'.closed
      → HasPoured channels (p ∷ []) channels (p' ∷ [])
  poured-look channels p p' link line flights rises = record {
    each = λ q i t there here.
        let is = only p i q there in
        record {
          port = p';
          there = ap (slice_get (p' ∷ [])) is.0;
          traffic = t;
          here = here;
          same_clock = refl;
          received = subst (λ (x : Entrance M). HasReceived (inflow_of x t) (inflow_of p' t)) is.1 (record {
            same_link = link;
            same_line = line;
            more = [];
            all = flights ∙ sym (append-nil p.flights);
            waits = sym (append-nil t.flights);
            rises = rises;
            of_open = tt;
            in_order = λ h. subst IsOrdered (sym flights) h;
          });
        };
    others = λ l none. refl;
    same_links = ap (λ (k : LinkNo). k ∷ []) link;
    same_size = refl;
  }

  -- and of that port among others
  pub poured-at : (channels channels' : List (Traffic M)) (ins : List (Entrance M)) (n : ℕ) (p p' : Entrance M) → AreApart (links_in ins) → slice_get ins n ≡ Some p
      → HasPoured channels (p ∷ []) channels' (p' ∷ []) → HasPoured channels ins channels' (slice_set ins n p')
  poured-at channels channels' ins n p p' apart stood h =
      let link : p'.link ≡ p.link = same-element (p'.link ∷ []) 0 p'.link p.link refl (ap (λ (ls : List LinkNo). slice_get ls 0) h.same_links) in
      record {
        each = λ q i t there here. ⊎_elim
            (λ (same : q ≡ n).
            let is : p ≡ i = same-element ins n p i stood (ap (slice_get ins) (sym same) ∙ there) in
            let here_p : slice_get channels p.link.0 ≡ Some t = ap (λ (x : Entrance M). slice_get channels x.link.0) is ∙ here in
            let a = h.each 0 p t refl here_p in
            let port : p' ≡ a.port = (only p' a.port 0 a.there).1 in
            record {
              port = p';
              there = ap (slice_get (slice_set ins n p')) same ∙ get-set_same ins n p' p stood;
              traffic = a.traffic;
              here = ap (λ (x : Entrance M). slice_get channels' x.link.0) (sym is) ∙ a.here;
              same_clock = a.same_clock;
              received = subst (λ (x : Entrance M). HasReceived (inflow_of x t) (inflow_of p' a.traffic)) is
                  (subst (λ (x : Entrance M). HasReceived (inflow_of p t) (inflow_of x a.traffic)) (sym port) a.received);
            })
            (λ (other : q ≢ n). record {
              port = i;
              there = get-set_other ins n q p' other ∙ there;
              traffic = t;
              here = h.others i.link.0 (λ k j e same.
                  let is : p ≡ j = (only p j k e).1 in
                  let links : ◌≡◌ {A = LinkNo} p.link i.link = ap (λ (x : ℕ). record { 0 = x }) (ap (λ (x : Entrance M). x.link.0) is ∙ same) in
                  other (apart q n i.link (get-map (λ (x : Entrance M). x.link) ins q i there) (get-map (λ (x : Entrance M). x.link) ins n p stood ∙ ap Some links)))
                  ∙ here;
              same_clock = refl;
              received = received-none (inflow_of i t);
            })
            (cases_eq q n);
        others = λ l none. h.others l (λ k j e same.
            let is : p ≡ j = (only p j k e).1 in
            none n p stood (ap (λ (x : Entrance M). x.link.0) is ∙ same));
        same_links = map-set (λ (x : Entrance M). x.link) ins n p p' stood link;
        same_size = h.same_size;
      }

  -- the ports are waited for one after another
  pub closed-none : (b : ℕ) (ins : List (Entrance M)) → AreClosedBelow b 0 ins
  closed-none b ins q i low e = absurd (omega (arith, low))

  pub closed-still : (b n : ℕ) (o : Option LinkNo) (ins ins' : List (Entrance M)) → AwaitedAt b n o ins ins' → AreClosedBelow b n ins → AreClosedBelow b n ins'
  closed-still b n o ins ins' h below q i low e =
      let other : q ≢ n = λ same. absurd (omega (arith, same, low)) in
      below q i low (sym (get-set_other ins n q h.now other) ∙ ap (λ is. slice_get is q) (sym h.changed) ∙ e)

  pub closed-more : (b n : ℕ) (ins ins' : List (Entrance M)) → AwaitedAt b n None ins ins' → AreClosedBelow b n ins → AreClosedBelow b (n + 1) ins'
  closed-more b n ins ins' h below q i low e =
      let e' : slice_get (slice_set ins n h.now) q ≡ Some i = ap (λ is. slice_get is q) (sym h.changed) ∙ e in
      ⊎_elim
      (λ (same : q ≡ n).
      let is : h.now ≡ i = same-element (slice_set ins n h.now) n h.now i (get-set_same ins n h.now h.was h.stood) (ap (slice_get (slice_set ins n h.now)) (sym same) ∙ e') in
      subst (λ (x : Entrance M). b ≤ x.closed) is h.met)
      (λ (other : q ≢ n). closed-still b n None ins ins' h below q i (omega (arith, low, other)) e)
      (cases_eq q n)

  pub closed-all : (b n : ℕ) (ins : List (Entrance M)) → length ins ≤ n → AreClosedBelow b n ins → AreClosedTo b ins
  closed-all b n ins long below q i e = let low = get-below ins q i e in below q i (omega (arith, low, long)) e

  short-in : (b n : ℕ) (l : LinkNo) (ins : List (Entrance M)) (i : Entrance M) → slice_get ins n ≡ Some i → (i.closed < b) × (i.link ≡ l)
      → AreClosedBelow b n ins → FirstShort b l ins
  short-in b n l [] i e short below = absurd (none-some i e)
  short-in b zero l (j ∷ js) i e short below = inl (subst (λ (x : Entrance M). (x.closed < b) × (x.link ≡ l)) (let same : i ≡ j = cc in same) short)
  short-in b (suc n) l (j ∷ js) i e short below = inr (below 0 j (omega arith) refl, short-in b n l js i e short (λ q k low g. below (suc q) k (omega (arith, low)) g))

  pub short-at : (b n : ℕ) (l : LinkNo) (ins ins' : List (Entrance M)) → AwaitedAt b n (Some l) ins ins' → AreClosedBelow b n ins → FirstShort b l ins'
  short-at b n l ins ins' h below =
      let new = slice_set ins n h.now in
      subst (FirstShort b l) (sym h.changed) (short-in b n l new h.now (get-set_same ins n h.now h.was h.stood) h.met
      (λ q j low e. closed-still b n (Some l) ins ins' h below q j low (ap (λ is. slice_get is q) h.changed ∙ e)))

  -- a message may be sent as before
  pub open-poured : (b : ℕ) (channels channels' : List (Traffic M)) (ins ins' : List (Entrance M)) → HasPoured channels ins channels' ins' → AreOpen b channels → AreOpen b channels'
  open-poured b channels channels' ins ins' h was_open k u e =
      let low = get-below channels' k u e in
      let size = h.same_size in
      let was = get-there channels k (omega (arith, low, size)) in
      ⊎_elim
      (λ (found : (q : ℕ) × (i : Entrance M) × (slice_get ins q ≡ Some i) × (i.link.0 ≡ k)).
      let a = h.each found.0 found.1 was.0 found.2 (ap (slice_get channels) found.3 ∙ was.1) in
      let is : a.traffic ≡ u = same-element channels' k a.traffic u (ap (slice_get channels') (sym found.3) ∙ a.here) e in
      subst (λ (x : Traffic M). IsOpen b x.clock) is (subst (IsOpen b) (sym a.same_clock) (was_open k was.0 was.1)))
      (λ (none : (q : ℕ) (i : Entrance M) → slice_get ins q ≡ Some i → i.link.0 ≢ k).
      was_open k u (sym (h.others k none) ∙ e))
      (find-link (λ (i : Entrance M). i.link) ins k)
