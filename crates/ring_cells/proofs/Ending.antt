-- What goes out through the ports of a member at the end of its turn.
use Rattle.std.proofs.Common.{◌≡◌, ◌≢◌, ℕ, zero, suc, ◌+◌, ◌<◌, ◌≤◌, List, [], ◌∷◌, ◌++◌, map, length, Option, Some, None, refl, ap, sym, ◌∙◌, subst, arith, ⊎_elim, append-nil, append_assoc}
use Rattle.std.specs.Prelude.{slice_get, slice_set, drop}
use Rattle.std.specs.List.{AllByRecursion}
use Rattle.std.proofs.lemmas.Bool.{cases_eq}
use Rattle.std.proofs.lemmas.Option.{none-some}
use Rattle.tiger_base.specs.declared.number.LinkNo.{LinkNo}
use Rattle.node_kit.proofs.Rows.{get-below}
use Rattle.run_facts.specs.declared.mail.Flight.{Flight}
use Rattle.run_facts.specs.Rings.{Traffic}
use Rattle.run_facts.proofs.Rows.{same-element}
use Rattle.ring_engine.specs.Traffic.{changed_at, flights_at, IsOpen, AreOpen}
use Rattle.ring_engine.proofs.Arriving.{length-changed_at}
use Rattle.ring_engine.proofs.Channels.{get-changed_same, get-changed_other}
use Rattle.ring_engine.proofs.Running.{get-set_same, get-set_other, length-set_at}
use Rattle.ring_engine.specs.Traffic.{without_oldest, oldest_on, without_oldest_on}
use Rattle.ring_cells.specs.Shares.{Exit, sent_out, closed_out, gone_out, emptied_out, links_out, AreApart, AreOpenTo, IsOpenPlace, HaveEndedTo, HasEnded, HasGoneOut, HasEndedAt}
use Rattle.ring_cells.proofs.Pouring.{get-map, get-unmap, get-there, map-set, find-link}

all-at : {A : Type 0} (P : A → Type 0) (xs : List A) (k : ℕ) (x : A) → AllByRecursion P xs → slice_get xs k ≡ Some x → P x
all-at P [] k x all there = absurd (none-some x there)
all-at P (y ∷ ys) zero x all there = let same : y ≡ x = cc in subst P same all.0
all-at P (y ∷ ys) (suc k) x all there = all-at P ys k x all.1 there

module _ {M : Type 0} where
  -- while messages go out through a port, what went out and what is to go out stay together
  pub record IsGoingOut (o : Exit M) (channels : List (Traffic M)) (o' : Exit M) (channels' : List (Traffic M)) : Type 0 where
    pub same_link : o'.link ≡ o.link
    pub same_line : o'.line ≡ o.line
    pub same_closed : o'.closed ≡ o.closed
    pub left : (t : Traffic M) → slice_get channels o.link.0 ≡ Some t
        → (u : Traffic M) × (slice_get channels' o.link.0 ≡ Some u) × (u.clock ≡ t.clock) × (o'.flights ++ u.flights ≡ o.flights ++ t.flights)
    pub others : (l : ℕ) → l ≢ o.link.0 → slice_get channels' l ≡ slice_get channels l
    pub same_size : length channels' ≡ length channels

  pub going-none : (o : Exit M) (channels : List (Traffic M)) → IsGoingOut o channels o channels
  going-none o channels = record {
    same_link = refl;
    same_line = refl;
    same_closed = refl;
    left = λ t here. (t, here, refl, refl);
    others = λ l other. refl;
    same_size = refl;
  }

  first-rest : (fs : List (Flight M)) (f : Flight M) → slice_get fs 0 ≡ Some f → fs ≡ f ∷ drop 1 fs
  first-rest [] f e = absurd (none-some f e)
  first-rest (g ∷ gs) f e = ap (λ x. x ∷ gs) (let same : g ≡ f = cc in same)

  none-first : (fs : List (Flight M)) → slice_get fs 0 ≡ None → fs ≡ []
  none-first [] e = refl
  none-first (g ∷ gs) e = absurd (none-some g (sym e))

  -- one more goes out
  pub going-more : (o now : Exit M) (channels between : List (Traffic M)) (f : Flight M) → oldest_on o.link between ≡ Some f → IsGoingOut o channels now between
      → IsGoingOut o channels (sent_out f now) (without_oldest_on o.link between)
  unfolding oldest_on without_oldest_on
  going-more o now channels between f oldest h = record {
    same_link = h.same_link;
    same_line = h.same_line;
    same_closed = h.same_closed;
    left = λ t here.
        let u = h.left t here in
        let first : slice_get u.0.flights 0 ≡ Some f = ap (λ (x : Option (Traffic M)). slice_get (flights_at x) 0) (sym u.1) ∙ oldest in (
          without_oldest u.0,
          get-changed_same without_oldest between o.link.0 u.0 u.1,
          u.2,
          append_assoc now.flights (f ∷ []) (drop 1 u.0.flights) ∙ ap (λ fs. now.flights ++ fs) (sym (first-rest u.0.flights f first)) ∙ u.3,
        );
    others = λ l other. get-changed_other without_oldest between o.link.0 l (λ e. other (sym e)) ∙ h.others l other;
    same_size = length-changed_at without_oldest between o.link.0 ∙ h.same_size;
  }

  -- until none is left
  pub going-all : (o now : Exit M) (channels between : List (Traffic M)) → oldest_on o.link between ≡ None → IsGoingOut o channels now between
      → HasGoneOut o channels now (without_oldest_on o.link between)
  unfolding oldest_on without_oldest_on
  going-all o now channels between oldest h = record {
    same_link = h.same_link;
    out = λ t here.
        let u = h.left t here in
        let none : u.0.flights ≡ [] = none-first u.0.flights (ap (λ (x : Option (Traffic M)). slice_get (flights_at x) 0) (sym u.1) ∙ oldest) in
        let all : now.flights ≡ o.flights ++ t.flights = sym (append-nil now.flights) ∙ ap (λ fs. now.flights ++ fs) (sym none) ∙ u.3 in
        let port : now ≡ record { link = o.link; line = o.line; flights = o.flights ++ t.flights; closed = o.closed } =
        λ i. record { link = h.same_link i; line = h.same_line i; flights = all i; closed = h.same_closed i } in
        let rest : drop 1 u.0.flights ≡ [] = ap (drop 1) none in
        let traffic : without_oldest u.0 ≡ emptied_out t = λ i. record { clock = u.2 i; flights = rest i } in (
          port,
          get-changed_same without_oldest between o.link.0 u.0 u.1 ∙ ap Some traffic,
        );
    others = λ l other. get-changed_other without_oldest between o.link.0 l (λ e. other (sym e)) ∙ h.others l other;
    same_size = length-changed_at without_oldest between o.link.0 ∙ h.same_size;
  }

  -- at the ports of a row the turn ends one after another
  pub ended-open : (b : ℕ) (row : List (Exit M)) (channels : List (Traffic M)) → HaveEndedTo b 0 row channels row channels
  ended-open b row channels = record {
    each = λ q o t low e here. absurd (omega (arith, low));
    still = λ q o high e. (e, refl);
    others = λ l none. refl;
    same_links = refl;
    same_size = refl;
  }

  -- the port at the next place, before its turn ends
  pub ended-next : (b n : ℕ) (row now : List (Exit M)) (channels between : List (Traffic M)) (o : Exit M) → HaveEndedTo b n row channels now between
      → slice_get now n ≡ Some o → slice_get row n ≡ Some o
  ended-next b n row now channels between o h e =
      let was = get-unmap (λ (x : Exit M). x.link) row n o.link (ap (λ ls. slice_get ls n) (sym h.same_links) ∙ get-map (λ (x : Exit M). x.link) now n o e) in
      let still = h.still n was.0 (omega arith) was.1 in
      was.1 ∙ ap Some (same-element now n was.0 o still.0 e)

  pub ended-open_at : (b n : ℕ) (row now : List (Exit M)) (channels between : List (Traffic M)) → HaveEndedTo b n row channels now between → AreOpenTo b row → IsOpenPlace b n now
  ended-open_at b n row now channels between h was_open o e = all-at (λ (x : Exit M). x.closed ≤ b) row n o was_open (ended-next b n row now channels between o h e)

  pub ended-more : (b n : ℕ) (row now row' : List (Exit M)) (channels between channels' : List (Traffic M)) → AreApart (links_out row)
      → HaveEndedTo b n row channels now between → HasEndedAt b n now between row' channels' → HaveEndedTo b (n + 1) row channels row' channels'
  ended-more b n row now row' channels between channels' apart h g =
      let p = g.port in
      let mine : slice_get row n ≡ Some p = ended-next b n row now channels between p h g.stood in
      let p' : Exit M = closed_out b g.then_port in
      let new = slice_set now n p' in
      let elsewhere : (q : ℕ) → q ≢ n → slice_get row' q ≡ slice_get now q = λ q other. ap (λ r. slice_get r q) g.changed ∙ get-set_other now n q p' other in
      let apart_from : (q : ℕ) (o : Exit M) → q ≢ n → slice_get row q ≡ Some o → o.link.0 ≢ p.link.0 = λ q o other e same.
      (let links : ◌≡◌ {A = LinkNo} p.link o.link = ap (λ (x : ℕ). record { 0 = x }) (sym same) in
      other (apart q n o.link (get-map (λ (x : Exit M). x.link) row q o e) (get-map (λ (x : Exit M). x.link) row n p mine ∙ ap Some links))) in
      let link : p'.link ≡ p.link = g.out.same_link in
      record {
        each = λ q o t low e here. ⊎_elim
            (λ (same : q ≡ n).
            let is : p ≡ o = same-element row n p o mine (ap (slice_get row) (sym same) ∙ e) in
            let here_p : slice_get between p.link.0 ≡ Some t = (h.still n p (omega arith) mine).1 ∙ ap (λ (x : Exit M). slice_get channels x.link.0) is ∙ here in
            let out = g.out.out t here_p in (
              ap (slice_get row') same ∙ ap (λ r. slice_get r n) g.changed ∙ get-set_same now n p' p g.stood
                  ∙ ap (λ (x : Exit M). Some (closed_out b x)) out.0 ∙ ap (λ (x : Exit M). Some (gone_out b x t)) is,
              ap (λ (x : Exit M). slice_get channels' x.link.0) (sym is) ∙ out.1,
            ))
            (λ (other : q ≢ n).
            let was = h.each q o t (omega (arith, low, other)) e here in
            (elsewhere q other ∙ was.0, g.out.others o.link.0 (apart_from q o other e) ∙ was.1))
            (cases_eq q n);
        still = λ q o high e.
            let other : q ≢ n = λ same. absurd (omega (arith, same, high)) in
            let was = h.still q o (omega (arith, high)) e in
            (elsewhere q other ∙ was.0, g.out.others o.link.0 (apart_from q o other e) ∙ was.1);
        others = λ l none. g.out.others l (λ same. none n p mine (sym same)) ∙ h.others l none;
        same_links = ap links_out g.changed ∙ map-set (λ (x : Exit M). x.link) now n p p' g.stood link ∙ h.same_links;
        same_size = g.out.same_size ∙ h.same_size;
      }

  pub ended-all : (b n : ℕ) (row row' : List (Exit M)) (channels channels' : List (Traffic M)) → length row ≤ n → HaveEndedTo b n row channels row' channels' → HasEnded b row channels row' channels'
  ended-all b n row row' channels channels' long h = record {
    each = λ q o t low e here. h.each q o t (omega (arith, low, long)) e here;
    still = λ q o high e. (let low = get-below row q o e in absurd (omega (arith, low, high)));
    others = h.others;
    same_links = h.same_links;
    same_size = h.same_size;
  }

  -- over the links that leave a message may be sent as before
  pub open-ended : (b : ℕ) (row row' : List (Exit M)) (channels channels' : List (Traffic M)) → HasEnded b row channels row' channels' → AreOpen b channels → AreOpen b channels'
  open-ended b row row' channels channels' h was_open k u e =
      let low = get-below channels' k u e in
      let size = h.same_size in
      let was = get-there channels k (omega (arith, low, size)) in
      ⊎_elim
      (λ (found : (q : ℕ) × (o : Exit M) × (slice_get row q ≡ Some o) × (o.link.0 ≡ k)).
      let at : slice_get channels found.1.link.0 ≡ Some was.0 = ap (slice_get channels) found.3 ∙ was.1 in
      let a = h.each found.0 found.1 was.0 (get-below row found.0 found.1 found.2) found.2 at in
      let is : emptied_out was.0 ≡ u = same-element channels' k (emptied_out was.0) u (ap (slice_get channels') (sym found.3) ∙ a.1) e in
      subst (λ (x : Traffic M). IsOpen b x.clock) is (was_open k was.0 was.1))
      (λ (none : (q : ℕ) (o : Exit M) → slice_get row q ≡ Some o → o.link.0 ≢ k).
      was_open k u (sym (h.others k none) ∙ e))
      (find-link (λ (x : Exit M). x.link) row k)
