-- What is let in and out through the ports of a share, link for link.
use Rattle.std.proofs.Common.{◌≡◌, ℕ, zero, suc, ◌+◌, ◌<◌, ◌≤◌, List, [], ◌∷◌, ◌++◌, map, length, Bool, true, false, Option, Some, None, refl, ap, sym, ◌∙◌, subst, arith}
use Rattle.std.specs.Prelude.{slice_get, slice_set, nat_le, drop, is_some, IfSome, MatchOption}
use Rattle.std.specs.List.{AllByRecursion}
use Rattle.std.proofs.lemmas.Bool.{false≢true, leb-true, leb-false}
use Rattle.std.proofs.lemmas.List.{length-map}
use Rattle.std.proofs.lemmas.Option.{none-some}
use Rattle.tiger_base.specs.declared.number.LinkNo.{LinkNo}
use Rattle.node_kit.proofs.Rows.{get-below}
use Rattle.run_facts.specs.declared.mail.Flight.{Flight}
use Rattle.run_facts.specs.Rings.{Traffic}
use Rattle.run_facts.proofs.Rows.{same-element}
use Rattle.ring_engine.specs.Traffic.{flights_at, without_oldest, oldest_on, without_oldest_on}
use Rattle.ring_engine.proofs.Channels.{get-changed_same}
use Rattle.ring_cells.specs.Shares.{Entrance, Exit, AreApart, AreWired, links_in, links_out, IsClosedTo, AreClosedTo, AreClosedBelow, FirstShort, AwaitedAt, HasPoured, HasGoneOut, sent_out}
use Rattle.ring_cells.proofs.Pouring.{get-there, get-map, closed-more, short-at}
use Rattle.ring_cells.proofs.Ending.{IsGoingOut, going-more, going-all}

-- a link of a row is one of the links
wired : (count : ℕ) (links : List LinkNo) (n : ℕ) (l : LinkNo) → AreWired count links → slice_get links n ≡ Some l → l.0 < count
wired count [] n l all there = absurd (none-some l there)
wired count (k ∷ ks) zero l all there = let same : k ≡ l = cc in subst (λ (x : LinkNo). x.0 < count) same all.0
wired count (k ∷ ks) (suc n) l all there = wired count ks n l all.1 there

-- what is known holds if there is some link
pub some-from : {P : Type 0} (o : Option LinkNo) → P → IfSome o (λ l. P)
some-from None p = tt
some-from (Some l) p = p

module _ {M : Type 0} where
  pub wired-at : (count : ℕ) (ins : List (Entrance M)) (n : ℕ) (i : Entrance M) → AreWired count (links_in ins) → slice_get ins n ≡ Some i → i.link.0 < count
  wired-at count ins n i all there = wired count (links_in ins) n i.link all (get-map (λ (x : Entrance M). x.link) ins n i there)

  pub wired-exit : (count : ℕ) (row : List (Exit M)) (n : ℕ) (o : Exit M) → AreWired count (links_out row) → slice_get row n ≡ Some o → o.link.0 < count
  wired-exit count row n o all there = wired count (links_out row) n o.link all (get-map (λ (x : Exit M). x.link) row n o there)

  -- rows of the same links are as long
  pub ports-kept : (old new : List (Entrance M)) → links_in new ≡ links_in old → length new ≡ length old
  ports-kept old new same = sym (length-map new (λ (x : Entrance M). x.link)) ∙ ap length same ∙ length-map old (λ (x : Entrance M). x.link)

  pub exits-kept : (old new : List (Exit M)) → links_out new ≡ links_out old → length new ≡ length old
  exits-kept old new same = sym (length-map new (λ (x : Exit M). x.link)) ∙ ap length same ∙ length-map old (λ (x : Exit M). x.link)

  pub wired-kept : (old new : List (Traffic M)) (ins ins' : List (Entrance M)) → length new ≡ length old → links_in ins' ≡ links_in ins → AreWired (length old) (links_in ins)
      → AreWired (length new) (links_in ins')
  wired-kept old new ins ins' size same h = subst (λ k. AreWired k (links_in ins')) (sym size) (subst (AreWired (length old)) (sym same) h)

  pub wired-exits : (old new : List (Traffic M)) (row row' : List (Exit M)) → length new ≡ length old → links_out row' ≡ links_out row → AreWired (length old) (links_out row)
      → AreWired (length new) (links_out row')
  wired-exits old new row row' size same h = subst (λ k. AreWired k (links_out row')) (sym size) (subst (AreWired (length old)) (sym same) h)

  -- a port keeps its link
  pub link-kept : (channels channels' : List (Traffic M)) (p p' : Entrance M) → HasPoured channels (p ∷ []) channels' (p' ∷ []) → p'.link.0 ≡ p.link.0
  link-kept channels channels' p p' h =
      ap (λ (k : LinkNo). k.0) (same-element (p'.link ∷ []) 0 p'.link p.link refl (ap (λ (ls : List LinkNo). slice_get ls 0) h.same_links))

  -- of an answer: no port falls short up to one, or that one does
  pub awaited-short : (b n : ℕ) (o : Option LinkNo) (ins ins' : List (Entrance M)) → is_some o ≡ true → AwaitedAt b n o ins ins' → AreClosedBelow b n ins
      → MatchOption o (AreClosedTo b ins') (λ l. FirstShort b l ins')
  awaited-short b n None ins ins' some h below = absurd (false≢true some)
  awaited-short b n (Some l) ins ins' some h below = short-at b n l ins ins' h below

  pub awaited-none : (b n : ℕ) (o : Option LinkNo) (ins ins' : List (Entrance M)) → is_some o ≡ false → AwaitedAt b n o ins ins' → AreClosedBelow b n ins
      → AreClosedBelow b (n + 1) ins'
  awaited-none b n None ins ins' none h below = closed-more b n ins ins' h below
  awaited-none b n (Some l) ins ins' none h below = absurd (false≢true (sym none))

  -- a port through which all has gone out is closed as before
  pub gone-open : (b : ℕ) (o o' : Exit M) (channels channels' : List (Traffic M)) → o.link.0 < length channels → o.closed ≤ b → HasGoneOut o channels o' channels' → o'.closed ≤ b
  gone-open b o o' channels channels' low was_open h =
      let t = get-there channels o.link.0 low in
      subst (λ (x : Exit M). x.closed ≤ b) (sym (h.out t.0 t.1).0) was_open

  -- one that goes out leaves one less
  fewer-after : (fs : List (Flight M)) (f : Flight M) → slice_get fs 0 ≡ Some f → length (drop 1 fs) < length fs
  fewer-after [] f e = absurd (none-some f e)
  fewer-after (g ∷ gs) f e = omega arith

  fewer-in : (o o' : Option (Traffic M)) (f : Flight M) → slice_get (flights_at o) 0 ≡ Some f → ((t : Traffic M) → o ≡ Some t → o' ≡ Some (without_oldest t)) → length (flights_at o') < length (flights_at o)
  fewer-in None o' f e then = absurd (none-some f e)
  fewer-in (Some t) o' f e then =
      subst (λ (x : Option (Traffic M)). length (flights_at x) < length t.flights) (sym (then t refl)) (fewer-after t.flights f e)

  pub oldest-fewer : (link : LinkNo) (ts ts' : List (Traffic M)) (f : Flight M) → Some f ≡ oldest_on link ts → ts' ≡ without_oldest_on link ts
      → length (flights_at (slice_get ts' link.0)) < length (flights_at (slice_get ts link.0))
  unfolding oldest_on without_oldest_on
  oldest-fewer link ts ts' f e left =
      fewer-in (slice_get ts link.0) (slice_get ts' link.0) f (sym e) (λ t here. ap (λ xs. slice_get xs link.0) left ∙ get-changed_same without_oldest ts link.0 t here)

  pub going-to : (o now then : Exit M) (channels between after : List (Traffic M)) (f : Flight M) (link : LinkNo) → link ≡ o.link → Some f ≡ oldest_on link between
      → after ≡ without_oldest_on link between → then ≡ sent_out f now → IsGoingOut o channels now between → IsGoingOut o channels then after
  going-to o now then channels between after f link same oldest left sent h =
      subst (λ x. IsGoingOut o channels x after) (sym sent)
      (subst (IsGoingOut o channels (sent_out f now)) (sym (left ∙ ap (λ l. without_oldest_on l between) same))
      (going-more o now channels between f (sym (oldest ∙ ap (λ l. oldest_on l between) same)) h))

  pub gone-to : (o now : Exit M) (channels between after : List (Traffic M)) (link : LinkNo) → link ≡ o.link → None ≡ oldest_on link between → after ≡ without_oldest_on link between
      → IsGoingOut o channels now between → HasGoneOut o channels now after
  gone-to o now channels between after link same oldest left h =
      subst (HasGoneOut o channels now) (sym (left ∙ ap (λ l. without_oldest_on l between) same))
      (going-all o now channels between (sym (oldest ∙ ap (λ l. oldest_on l between) same)) h)

  -- a port that was waited for is closed to the beat, or falls short
  only-port : (p q : Entrance M) → slice_get (p ∷ []) 0 ≡ Some q → p ≡ q
  only-port p q e = let same : p ≡ q = cc in same

  pub port-rises : (channels channels' : List (Traffic M)) (p p' : Entrance M) → p.link.0 < length channels → HasPoured channels (p ∷ []) channels' (p' ∷ []) → p.closed ≤ p'.closed
  port-rises channels channels' p p' low h =
      let t = get-there channels p.link.0 low in
      let a = h.each 0 p t.0 refl t.1 in
      subst (λ (x : Entrance M). p.closed ≤ x.closed) (sym (only-port p' a.port a.there)) a.received.rises

  pub port-closed : (b n : ℕ) (channels channels' : List (Traffic M)) (ins : List (Entrance M)) (p p' : Entrance M) (closed : Bool) → slice_get ins n ≡ Some p → p.link.0 < length channels
      → HasPoured channels (p ∷ []) channels' (p' ∷ []) → closed ≡ nat_le b p'.closed → closed ≡ true → AwaitedAt b n None ins (slice_set ins n p')
  port-closed b n channels channels' ins p p' closed stood low h test is = record {
    was = p;
    stood = stood;
    now = p';
    changed = refl;
    rises = port-rises channels channels' p p' low h;
    met = leb-true b p'.closed (sym test ∙ is);
  }

  pub port-short : (b n : ℕ) (channels channels' : List (Traffic M)) (ins : List (Entrance M)) (p p' : Entrance M) (closed : Bool) (link : LinkNo) → slice_get ins n ≡ Some p → p.link.0 < length channels
      → HasPoured channels (p ∷ []) channels' (p' ∷ []) → closed ≡ nat_le b p'.closed → closed ≡ false → link ≡ p'.link → AwaitedAt b n (Some link) ins (slice_set ins n p')
  port-short b n channels channels' ins p p' closed link stood low h test is same = record {
    was = p;
    stood = stood;
    now = p';
    changed = refl;
    rises = port-rises channels channels' p p' low h;
    met = (leb-false b p'.closed (sym test ∙ is), sym same);
  }
