-- What the record of a run gives of links: who sent what is taken, in which order, and what comes in time.
use Rattle.std.proofs.Common.{◌≡◌, ℕ, suc, ◌+◌, ◌<◌, ◌≤◌, List, length, true, Some, refl, sym, ap, subst, ◌∙◌, arith, ⊎_elim, inl, inr, eq-or-lt_of_le}
use Rattle.std.specs.Prelude.{◌⊎◌, max, slice_get}
use Rattle.std.proofs.lemmas.Bool.{cases_lt}
use Rattle.tiger_base.specs.declared.number.LinkNo.{LinkNo}
use Rattle.tiger_base.specs.declared.number.Stamp.{Stamp}
use Rattle.tiger_base.specs.declared.message.Msg.{Msg}
use Rattle.tiger_base.specs.Notes.{noted}
use Rattle.slot_plan.specs.declared.params.Params.{Params}
use Rattle.slot_plan.specs.Conditions.{IsPlan}
use Rattle.slot_plan.specs.Times.{cub_of}
use Rattle.node_kit.specs.declared.course.Order.{Order}
use Rattle.node_kit.specs.declared.outbox.Out.{Out}
use Rattle.node_kit.specs.declared.outbox.Out.TheVariants as out
use Rattle.node_kit.specs.Links.{links_of, ends_of}
use Rattle.node_kit.specs.Steps.{Deed, Input, stamp_of}
use Rattle.node_kit.specs.Steps.Input.{Take, Tick}
use Rattle.node_kit.specs.Ways.{way_ahead}
use Rattle.node_kit.proofs.Rows.{get-below}
use Rattle.run_facts.specs.Events.{NodeEvent, Dated, is_return, is_tick, is_tick_input, sends_of, stamp_at}
use Rattle.run_facts.specs.Events.NodeEvent.{Does, Ends, Dies, Returns}
use Rattle.run_facts.specs.Histories.{History, IsUp, TakesAt, below, beat, open_beat, outs, place, sent}
use Rattle.run_facts.proofs.Counts.{sent-numbered, sent-stays}
use Rattle.disk_core.specs.State.{DiskState}
use Rattle.proof_lives.specs.Lives.{Lives, beat_at}
use Rattle.lists.specs.Elements.{In}
use Rattle.proof_lives.specs.Facts.{DidAt, TickAt, TookMessage}
use Rattle.proof_lives.specs.FactsBy.{CameToTick, IsInOneLife}
use Rattle.proof_lives.specs.Histories.{acting, first_events, has_input, input_of, later_from, later_lives_of}
use Rattle.proof_lives.specs.TwoLifeRun.{WhichLife, closes_before, event_in, life_in, opens_with}
use Rattle.proof_lives.specs.TwoLifeRun.WhichLife.{First, Later}
use Rattle.proof_lives.proofs.Carrying.{get_behind, is_take, same_dated, same_ends, sends_in, sends_place, taken_input}
use Rattle.proof_lives.proofs.Numbers.{places_rise, sent_below, sent_since, taken_between}
use Rattle.proof_lives.proofs.Returns.{first_back, first_low, opens_rise}
use Rattle.proof_lives.proofs.TwoLives.{beat_in, begins_anew, input_in, lost_by_return, of_life}
use Rattle.proof_lives.proofs.Order.{tick_of}
use Rattle.proof_lives.proofs.States.{stamp_made}
use Rattle.proof_controller.specs.Controllers.{controller, commands_at}
use Rattle.proof_facts.specs.Beside.{AddedAt, Additions}
use Rattle.proof_facts.specs.Facts.{ToldBack, beyond_with}
use Rattle.proof_facts.specs.Lives.{lives_of, CameAt}
use Rattle.proof_facts.specs.Rings.{IsRingWith, node_count}
use Rattle.proof_links.proofs.Lives.{LivesOn}
use Rattle.proof_links.proofs.Nodes.{added_is, added_out, after_tick, back_out, before, began_late, by_rules, closes_low, controller_inside, cub_inside, did_in, did_it, input_there, lives_on, one_life, rises, sender, stays, takes_at, ticks_at, told_back}
use Rattle.proof_links.proofs.Sending.{IsBack, IsBesideLives, IsOfCub, IsOfDisk, IsOfController, is_added, of_added, of_answer, of_back}
use Rattle.proof_links.proofs.Ways.{way_leads}

-- a message and the beat in which it was sent
abbrev pub dated : ℕ → Msg → Dated Msg
dated b m = record { beat = b; item = m }

pub link_no : (a b : LinkNo) → a.0 ≡ b.0 → a ≡ b
link_no a b e = ap (λ (n : ℕ). record { 0 = n }) e

-- a tick has an input
ticks_act : (e : NodeEvent Msg) → is_tick e ≡ true → has_input e ≡ true
ticks_act (Does i) t = refl
ticks_act (Ends i sends) t = refl
ticks_act (Dies stamp) t = absurd (cc)
ticks_act (Returns stamp) t = absurd (cc)

-- a return is one at its stamp
returns_at : (e : NodeEvent Msg) → is_return e ≡ true → e ≡ Returns (stamp_at e)
returns_at (Does i) t = absurd (cc)
returns_at (Ends i sends) t = absurd (cc)
returns_at (Dies stamp) t = absurd (cc)
returns_at (Returns stamp) t = refl

module _ {S : Type 0} {step : S → Input Msg → Deed Msg S} {p : Params} {orders : List Order} {disk_at : ℕ → DiskState}
    {added : Additions} {h : History Msg S} (plan : IsPlan p) (ring : IsRingWith step p orders disk_at added h) where
  abbrev lives : Lives
  lives = lives_of h

  -- ---- the numbers of what is sent

  -- In its event of number at, node n sends a message on a link; it has a place among what is sent there in that event.
  pub record SentAs (n at place : ℕ) (link : LinkNo) (m : Msg) : Type 0 where
    pub done : at < h.count n
    pub sends : slice_get (sends_of link.0 (beat h n at) (outs noted step h n at)) place ≡ Some (dated (beat h n at) m)

  -- its number among all that the node sends on the link
  abbrev pub number_of : ℕ → ℕ → ℕ → LinkNo → ℕ
  number_of n at place link = length (sent noted step link.0 h n at) + place

  -- What has such a place is among what the node puts out.
  pub is_out : {n at place_there : ℕ} {link : LinkNo} {m : Msg} → SentAs n at place_there link m
      → In (out.Send link m) (outs noted step h n at)
  is_out {n} {at} {place_there} {link} {m} s =
      let r = sends_in link.0 (beat h n at) (outs noted step h n at) (dated (beat h n at) m) place_there s.sends in
      subst (λ (w : LinkNo). In (out.Send w m) (outs noted step h n at)) (link_no r.0 link r.1) r.2

  -- Whatever a node sends has such a place.
  pub sent_as : (n at : ℕ) (link : LinkNo) (m : Msg) → at < h.count n → In (out.Send link m) (outs noted step h n at)
      → (place : ℕ) × SentAs n at place link m
  sent_as n at link m done k =
      let r = sends_place link.0 (beat h n at) (outs noted step h n at) link m refl k in
      (r.0, record { done = done; sends = r.1 })

  -- A message keeps its number after the event in which it is sent.
  numbered : {n at place : ℕ} {link : LinkNo} {m : Msg} (i : ℕ) → SentAs n at place link m → at < i
      → slice_get (sent noted step link.0 h n i) (number_of n at place link) ≡ Some (dated (beat h n at) m)
  numbered {n} {at} {place} {link} {m} i s low =
      let l : ℕ = link.0 in
      let note : Dated Msg = dated (beat h n at) m in
      sent-stays noted step l h n (suc at) i (number_of n at place link) note low
      (get_behind (sent noted step l h n at) (sends_of l (beat h n at) (outs noted step h n at)) place note s.sends)

  -- What is sent in an earlier event has a lower number.
  pub numbers_rise : {n at place : ℕ} {link : LinkNo} {m : Msg} (i other : ℕ) → SentAs n at place link m → at < i
      → number_of n at place link < number_of n i other link
  numbers_rise {n} {at} {place} {link} {m} i other s low =
      let less = get-below (sent noted step link.0 h n i) (number_of n at place link)
      (dated (beat h n at) m) (numbered i s low) in
      omega arith

  -- ---- what came was sent

  -- In its event of number e, of beat b, node n took a message on a link, with the number there that it was sent with.
  pub record Came (n e b : ℕ) (link : LinkNo) (m : Msg) : Type 0 where
    pub from : ℕ
    pub known : from < node_count p
    pub ends : ends_of (links_of p) link.0 ≡ Some (from, n)
    pub at : ℕ
    pub place_there : ℕ
    pub note : SentAs from at place_there link m
    pub sent : In (out.Send link m) (outs noted step h from at)
    pub number : place link.0 h n e ≡ number_of from at place_there link
    pub later : beat h from at < b
    pub soon : b ≤ beat h from at + p.delay

  -- Each message that a node takes came so.
  pub came_in : (n e : ℕ) (stamp : Stamp) (link : LinkNo) (m : Msg) → n < node_count p → e < h.count n
      → TakesAt (h.event n e) stamp link m → Came n e stamp.beat link m
  came_in n e stamp link m inside low took =
      let l : ℕ = link.0 in
      let k = ring.run.carried n e stamp link m inside low took in
      let s = sent-numbered noted step l h k.from (h.count k.from) (place l h n e)
      (dated k.when m) k.was_sent in
      let r = sends_in l (beat h k.from s.at) (outs noted step h k.from s.at)
      (dated k.when m) s.place s.sends in
      let when : k.when ≡ beat h k.from s.at = r.3 in
      let later = k.later in
      let soon = k.soon in
      record {
        from = k.from;
        known = k.known;
        ends = k.ends;
        at = s.at;
        place_there = s.place;
        note = record { done = s.before; sends = s.sends ∙ ap (λ b. Some (dated b m)) when };
        sent = subst (λ (w : LinkNo). In (out.Send w m) (outs noted step h k.from s.at)) (link_no r.0 link r.1) r.2;
        number = s.number;
        later = omega arith;
        soon = omega arith;
      }

  pub came_from : (w : WhichLife) (n i : ℕ) (stamp : Stamp) (link : LinkNo) (m : Msg) → n < node_count p
      → i < (life_in h w).count n
      → (life_in h w).input n i ≡ Take stamp link m → Came n (event_in h w n i) stamp.beat link m
  came_from w n i stamp link m inside low e =
      came_in n (event_in h w n i) stamp link m inside (before plan ring w n i inside low).done
      (takes_at plan ring w n i stamp link m inside low e)

  -- So did a message that a cub took in a beat.
  pub took_from : (w : WhichLife) {c y : ℕ} {m : Msg} (g : TookMessage p (life_in h w) c m y)
      → Came c (event_in h w c g.at) y g.link m
  took_from w {c} {y} {m} g =
      came_from w c g.at (record { beat = y; reading = g.reading }) g.link m (cub_inside plan ring c g.small) g.done g.is

  -- A message that no disk may send came from a cub or from the controller, whichever may send it.
  pub from_either : {n i b : ℕ} {link : LinkNo} {m : Msg} (f : Came n i b link m) → (IsOfDisk m → ⊥)
      → ((f.from < p.cubs) × (IsOfCub m ⊎ IsBack m)) ⊎ ((f.from ≡ controller p) × IsOfController m)
  from_either {n} {i} {b} {link} {m} f no_disk = ⊎_elim
      (λ q. inl q)
      (λ q. ⊎_elim (λ a. absurd (no_disk (of_answer (disk_at a.disk) (lives.input f.from f.at) link m a.answer)))
      (λ a. inr a) q)
      (sender plan ring f.from f.at link m f.known f.note.done f.sent)

  -- A message that neither a disk nor the controller may send came from a cub.
  pub from_cub : {n i b : ℕ} {link : LinkNo} {m : Msg} (f : Came n i b link m) → (IsOfDisk m → ⊥)
      → (IsOfController m → ⊥) → f.from < p.cubs
  from_cub f no_disk no_controller = ⊎_elim (λ q. q.0) (λ q. absurd (no_controller q.1)) (from_either f no_disk)

  -- A message that neither a disk nor a cub may send came from the controller.
  pub from_controller : {n i b : ℕ} {link : LinkNo} {m : Msg} (f : Came n i b link m) → (IsOfDisk m → ⊥)
      → (IsOfCub m → ⊥) → (IsBack m → ⊥) → f.from ≡ controller p
  from_controller f no_disk no_cub no_back = ⊎_elim
      (λ q. ⊎_elim (λ a. absurd (no_cub a)) (λ a. absurd (no_back a)) q.1)
      (λ q. q.0)
      (from_either f no_disk)

  -- Cub c sent a message in its event of number e, as an event of a life.
  pub record DidThere (c e : ℕ) (link : LinkNo) (m : Msg) : Type 0 where
    pub which : WhichLife
    pub did : DidAt p (life_in h which) c (out.Send link m) (beat h c e)
    pub is : e ≡ event_in h which c did.at

  -- What a cub sends in an event it sends in one of its lives, or at its return, or it is added there.
  pub sends_there : (c e : ℕ) (link : LinkNo) (m : Msg) → c < p.cubs → e < h.count c
      → In (out.Send link m) (outs noted step h c e)
      → DidThere c e link m
      ⊎ (ToldBack p (later_lives_of h) c link m (beat h c e) ⊎ AddedAt p lives added c (out.Send link m) (beat h c e))
  sends_there c e link m small low k = ⊎_elim
      (λ q.
      let w : WhichLife = q.0 in
      let x = q.1 in
      let same : beat h c e ≡ beat_at ((life_in h w).input c) x.at = ap (beat h c) x.is ∙ beat_in h w c x.at in
      inl (record {
        which = w;
        did = record { small = small; at = x.at; done = x.done; in_beat = sym same; did = x.did };
        is = x.is;
      }))
      (λ q. inr (⊎_elim (λ b. inl (told_back plan ring c e link m small b)) (λ a. inr a) q))
      (by_rules plan ring c e (out.Send link m) small low k)

  -- So it is among what is known beyond one life, of which life it may be.
  pub beyond_sends : (c e : ℕ) (link : LinkNo) (m : Msg) → c < p.cubs → e < h.count c
      → In (out.Send link m) (outs noted step h c e) → (beyond_with p orders added h).Sends c link m (beat h c e)
  beyond_sends c e link m small low k = ⊎_elim
      (λ q. by_life q.which q.did)
      (λ q. inr (inr q))
      (sends_there c e link m small low k)
    where
      by_life : (w : WhichLife) → DidAt p (life_in h w) c (out.Send link m) (beat h c e)
          → (beyond_with p orders added h).Sends c link m (beat h c e)
      by_life First d = inl d
      by_life Later d = inr (inl d)

  -- A message that tells of no return, and that cannot be added, was sent in a life.
  pub did_there : (c e : ℕ) (link : LinkNo) (m : Msg) → c < p.cubs → e < h.count c
      → In (out.Send link m) (outs noted step h c e) → (IsBesideLives m → ⊥) → DidThere c e link m
  did_there c e link m small low k in_lives = ⊎_elim
      (λ q. q)
      (λ q. absurd (in_lives (⊎_elim
      (λ b. of_back m (subst IsBack (sym b.is) tt))
      (λ a. (of_added m (is_added p c link m (added_is plan ring a))).1)
      q)))
      (sends_there c e link m small low k)

  -- Cub a sent a message in one of its lives, before beat y, and at most the greatest delay before it.
  pub record DidBefore (a : ℕ) (link : LinkNo) (m : Msg) (y : ℕ) : Type 0 where
    pub which : WhichLife
    pub beat : ℕ
    pub did : DidAt p (life_in h which) a (out.Send link m) beat
    pub later : beat < y
    pub soon : y ≤ beat + p.delay

  -- A message that came from a cub was sent so.
  pub did_before : {n i b : ℕ} {link : LinkNo} {m : Msg} (f : Came n i b link m) → f.from < p.cubs → (IsBesideLives m → ⊥)
      → (d : DidBefore f.from link m b) × (d.beat ≡ beat h f.from f.at)
      × (f.at ≡ event_in h d.which f.from d.did.at)
  did_before {n} {i} {b} {link} {m} f small in_lives =
      let d = did_there f.from f.at link m small f.note.done f.sent in_lives in
      (record { which = d.which; beat = beat h f.from f.at; did = d.did; later = f.later; soon = f.soon }, refl, d.is)

  -- The controller sent a message in its event of number at, before beat y and at most the greatest delay before it.
  pub record CommandedBefore (at : ℕ) (link : LinkNo) (m : Msg) (y : ℕ) : Type 0 where
    pub done : at < acting h (controller p)
    pub did : In (out.Send link m) (commands_at p orders (lives.input (controller p)) at)
    pub later : beat_at (lives.input (controller p)) at < y
    pub soon : y ≤ beat_at (lives.input (controller p)) at + p.delay
    pub same : beat_at (lives.input (controller p)) at ≡ beat h (controller p) at

  -- A message that came from the controller was sent so.
  pub commanded_before : {n i b : ℕ} {link : LinkNo} {m : Msg} (f : Came n i b link m) → f.from ≡ controller p
      → CommandedBefore f.at link m b
  commanded_before {n} {i} {b} {link} {m} f e =
      let c : ℕ = controller p in
      let done : f.at < h.count c = subst (λ k. f.at < h.count k) e f.note.done in
      let sent : In (out.Send link m) (outs noted step h c f.at) =
      subst (λ k. In (out.Send link m) (outs noted step h k f.at)) e f.sent in
      let same : beat h f.from f.at ≡ beat_at (lives.input c) f.at =
      ap (λ k. beat h k f.at) e ∙ beat_in h First c f.at in
      let all = lives_on plan ring c (controller_inside plan ring) (omega arith) in
      let later = f.later in
      let soon = f.soon in
      record {
        done = omega arith;
        did = subst (λ (os : List (Out Msg)). In (out.Send link m) os) (ring.rules.controls f.at done) sent;
        later = omega arith;
        soon = omega arith;
        same = sym (beat_in h First c f.at);
      }

  -- ---- what a return loses

  -- The number with which a life opens on a link is that of what was sent below its return.
  lost_is : (l from c : ℕ) → from < node_count p → c < node_count p → ends_of (links_of p) l ≡ Some (from, c)
      → first_events h c < h.count c
      → place l h c (later_from h c) ≡ below (beat h c (first_events h c)) (sent noted step l h from (h.count from))
  lost_is l from c known inside ends low =
      let back = first_back ring.run c inside low in
      lost_by_return ring.run c inside l back
      ∙ ring.run.before l from c (first_events h c) (stamp_at (h.event c (first_events h c))) known inside ends low
      (returns_at (h.event c (first_events h c)) back)

  -- What a cub takes in a life was sent in that life of it.
  pub sent_in_life : (w : WhichLife) {c i b : ℕ} {link : LinkNo} {m : Msg} → c < p.cubs → i < (life_in h w).count c
      → beat_at ((life_in h w).input c) i ≡ b → (f : Came c (event_in h w c i) b link m)
      → IsInOneLife (beyond_with p orders added h) c (beat h f.from f.at) b
  sent_in_life First {c} {i} {b} {link} {m} small low now f v back le =
      let inside = cub_inside plan ring c small in
      let a = begins_anew ring.run c inside back.done in
      let apart = a.apart i (before plan ring First c i inside low).low in
      let in_it = a.in_beat in
      let is = back.in_beat in
      let same = beat_in h First c i in
      absurd (omega arith)
  sent_in_life Later {c} {i} {b} {link} {m} small low now f v back le =
      let inside = cub_inside plan ring c small in
      let a = begins_anew ring.run c inside back.done in
      let in_it = a.in_beat in
      let is = back.in_beat in
      let here = before plan ring Later c i inside low in
      let hd = here.done in
      let lost = lost_is link.0 f.from c f.known inside f.ends (omega arith) in
      let rise = places_rise link.0 h c (later_from h c) (event_in h Later c i)
      (λ k from less. stays plan ring Later c k inside from (omega arith)) (omega arith) in
      let number = f.number in
      ⊎_elim
      (λ (less : beat h f.from f.at < beat h c (first_events h c)).
      let q = sent_below ring.run link.0 f.from f.known (beat h c (first_events h c)) (h.count f.from) f.at f.place_there
      (omega arith) f.note.done
      (get-below (sends_of link.0 (beat h f.from f.at) (outs noted step h f.from f.at)) f.place_there
      (dated (beat h f.from f.at) m) f.note.sends) less in
      absurd (omega arith))
      (λ (more : beat h c (first_events h c) ≤ beat h f.from f.at). omega arith)
      (cases_lt (beat h f.from f.at) (beat h c (first_events h c)))

  -- What is sent to a cub in a life of it has no lower number than that with which the life opens.
  pub opens_below : (w : WhichLife) {a at place_there : ℕ} {link : LinkNo} {m : Msg} (c i : ℕ)
      → SentAs a at place_there link m
      → a < node_count p → ends_of (links_of p) link.0 ≡ Some (a, c) → c < p.cubs → i < (life_in h w).count c
      → IsInOneLife (beyond_with p orders added h) c (beat h a at) (beat_at ((life_in h w).input c) i)
      → place link.0 h c (opens_with h w c) ≤ number_of a at place_there link
  opens_below First c i s known ends small low one = omega arith
  opens_below Later {a} {at} {place_there} {link} {m} c i s known ends small low one =
      let inside = cub_inside plan ring c small in
      let x = before plan ring Later c i inside low in
      let done = x.done in
      let rise = rises plan ring c (first_events h c) (event_in h Later c i) inside (omega arith) done in
      let in_it = beat_in h Later c i in
      let since = one (beat h c (first_events h c)) (began_late plan ring c small (omega arith)) (omega arith) in
      let lost = lost_is link.0 a c known inside ends (omega arith) in
      let most = sent_since ring.run link.0 a known (beat h c (first_events h c)) (h.count a) at (omega arith) s.done since in
      omega arith

  -- ---- what is sent comes in time, and in order

  -- In an event below number e of a life, node c takes what node a sent it, with the number that it was sent with, and in time.
  pub record TakenAs (w : WhichLife) (c e a at place_there : ℕ) (link : LinkNo) (m : Msg) : Type 0 where
    pub when : ℕ
    pub before_it : event_in h w c when < e
    pub stamp : Stamp
    pub done : when < (life_in h w).count c
    pub is : (life_in h w).input c when ≡ Take stamp link m
    pub number : place link.0 h c (event_in h w c when) ≡ number_of a at place_there link
    pub later : beat h a at < stamp.beat
    pub soon : stamp.beat ≤ beat h a at + p.delay

  -- A node that has taken more messages on a link than the number of one has taken that one, if its life opened before that.
  pub taken_as : (w : WhichLife) {a at place_there : ℕ} {link : LinkNo} {m : Msg} (c e : ℕ) → SentAs a at place_there link m
      → c < node_count p → opens_with h w c ≤ e → e ≤ closes_before h w c → ends_of (links_of p) link.0 ≡ Some (a, c)
      → place link.0 h c (opens_with h w c) ≤ number_of a at place_there link
      → number_of a at place_there link < place link.0 h c e → TakenAs w c e a at place_there link m
  taken_as w {a} {at} {place_there} {link} {m} c e s inside from to ends low high =
      let l : ℕ = link.0 in
      let number : ℕ = number_of a at place_there link in
      let t = taken_between l h c (opens_with h w c) e number
      (λ k below_it above_it. stays plan ring w c k inside below_it (omega arith)) from low high in
      let tb = t.before in
      let closes = closes_low plan ring w c inside in
      let q = is_take l (h.event c t.at) t.takes in
      let input = taken_input (h.event c t.at) q.0 q.1 q.2 q.3 in
      let x = input_there plan ring w c t.at inside t.from (omega arith) input.0 in
      let x_is = x.is in
      let k = ring.run.carried c t.at q.0 q.1 q.2 inside (omega arith) q.3 in
      let from_same : k.from ≡ a =
      (same_ends k.from c a c (sym k.ends ∙ ap (λ n. ends_of (links_of p) n) q.4 ∙ ends)).0 in
      let slot : slice_get (sent noted step l h a (h.count a)) number ≡ Some (dated k.when q.2) =
      subst (λ n. slice_get (sent noted step l h a (h.count a)) n ≡ Some (dated k.when q.2)) t.is
      (subst (λ f. slice_get (sent noted step l h f (h.count f)) (place l h c t.at) ≡ Some (dated k.when q.2)) from_same
      (subst (λ n. slice_get (sent noted step n h k.from (h.count k.from))
      (place n h c t.at) ≡ Some (dated k.when q.2)) q.4 k.was_sent)) in
      let both = same_dated (dated (beat h a at) m) (dated k.when q.2)
      (sym (numbered (h.count a) s s.done) ∙ slot) in
      let when : beat h a at ≡ k.when = ap (λ (d : Dated Msg). d.beat) both in
      let item : m ≡ q.2 = ap (λ (d : Dated Msg). d.item) both in
      let later = k.later in
      let soon = k.soon in
      record {
        when = x.at;
        before_it = omega arith;
        stamp = q.0;
        done = x.done;
        is = input_in h w c x.at ∙ ap (λ n. input_of (h.event c n)) (sym x_is) ∙ input.1
            ∙ ap (λ (v : LinkNo). Take q.0 v q.2) (link_no q.1 link q.4)
            ∙ ap (λ (y : Msg). Take q.0 link y) (sym item);
        number = ap (place l h c) (sym x_is) ∙ t.is;
        later = omega arith;
        soon = omega arith;
      }

  -- A cub that comes to its tick of beat b in a life ends it there.
  pub record TicksIn (w : WhichLife) (c b : ℕ) : Type 0 where
    pub opens : opens_with h w c ≤ closes_before h w c
    pub ended : b < open_beat h c (closes_before h w c)

  pub came_ticks : (w : WhichLife) (c b : ℕ) → CameToTick p (life_in h w) c b → TicksIn w c b
  came_ticks w c b t =
      let k = t.tick in
      let inside = cub_inside plan ring c k.small in
      let x = before plan ring w c k.at inside k.done in
      let low = x.low in
      let from = x.from in
      let tick = ticks_at plan ring w c k.at inside k.done ∙ ap is_tick_input k.is in
      let after = after_tick plan ring c (event_in h w c k.at) inside x.done tick in
      let in_it = beat_in h w c k.at in
      let is : beat_at ((life_in h w).input c) k.at ≡ b = ap (λ (i : Input Msg). (stamp_of i).beat) k.is in
      let rise = opens_rise ring.run c inside (suc (event_in h w c k.at)) (closes_before h w c) low
      (closes_low plan ring w c inside) in
      record { opens = omega arith; ended = omega arith }

  -- Before a cub comes to its tick of beat b, each node that lives on has ended each lower beat.
  pub not_behind : (c b n : ℕ) → CameAt p h c b → n < node_count p → IsUp h n → b ≤ open_beat h n (h.count n)
  not_behind c b n w inside up =
      let at = w.in_beat in
      let r = ring.run.level c n w.at (cub_inside plan ring c w.small) inside w.done up in
      omega arith

  -- What is sent to a node is taken by the end of a life that ends the last beat in which it may come, or is lost before it.
  in_time : (w : WhichLife) {a at place_there : ℕ} {link : LinkNo} {m : Msg} (c : ℕ) → SentAs a at place_there link m
      → a < node_count p → c < node_count p → ends_of (links_of p) link.0 ≡ Some (a, c)
      → beat h a at + p.delay < open_beat h c (closes_before h w c)
      → number_of a at place_there link < place link.0 h c (closes_before h w c)
  in_time First {a} {at} {place_there} {link} {m} c s known inside ends due =
      let l : ℕ = link.0 in
      let number : ℕ = number_of a at place_there link in
      let note = numbered (h.count a) s s.done in
      ⊎_elim
      (λ (all : first_events h c ≡ h.count c).
      subst (λ k. number < place l h c k) (sym all)
      (ring.run.arrives l a c number (beat h a at) m known inside ends note
      (subst (λ k. beat h a at + p.delay < open_beat h c k) all due)))
      (λ (less : first_events h c < h.count c).
      ring.run.in_time l a c (first_events h c) number (beat h a at) m known inside ends less
      (first_back ring.run c inside less) note due)
      (eq-or-lt_of_le (first_low ring.run c inside))
  in_time Later {a} {at} {place_there} {link} {m} c s known inside ends due =
      ring.run.arrives link.0 a c (number_of a at place_there link) (beat h a at) m known inside ends
      (numbered (h.count a) s s.done) due

  -- So what is sent to a node that lives on is taken there.
  pub delivered : {a at place_there : ℕ} {link : LinkNo} {m : Msg} (c : ℕ) → SentAs a at place_there link m
      → a < node_count p → c < node_count p → LivesOn h c → ends_of (links_of p) link.0 ≡ Some (a, c)
      → beat h a at + p.delay < open_beat h c (h.count c) → TakenAs First c (h.count c) a at place_there link m
  delivered {a} {at} {place_there} {link} {m} c s known inside lives ends late =
      let all = one_life plan ring c inside lives in
      let due : beat h a at + p.delay < open_beat h c (first_events h c) =
      subst (λ k. beat h a at + p.delay < open_beat h c k) (sym all) late in
      let taken = in_time First c s known inside ends due in
      subst (λ k. TakenAs First c k a at place_there link m) all
      (taken_as First c (first_events h c) s inside (omega arith) (omega arith) ends (omega arith) taken)

  -- In a life cub c takes what node a sent it in beat x, with the number that it was sent with, and in time.
  pub record TakenThere (w : WhichLife) (a at place_there c x : ℕ) (link : LinkNo) (m : Msg) : Type 0 where
    pub beat : ℕ
    pub took : TookMessage p (life_in h w) c m beat
    pub way : took.link ≡ link
    pub number : place link.0 h c (event_in h w c took.at) ≡ number_of a at place_there link
    pub later : x < beat
    pub soon : beat ≤ x + p.delay

  -- Node a sent a message on a link in beat x.
  pub record SentIn (a : ℕ) (link : LinkNo) (m : Msg) (x : ℕ) : Type 0 where
    pub known : a < node_count p
    pub at : ℕ
    pub in_beat : beat h a at ≡ x
    pub place_there : ℕ
    pub note : SentAs a at place_there link m

  -- So it is if it is among what the node puts out, or is told of a cub's lives.
  pub sent_out : (a at : ℕ) (link : LinkNo) (m : Msg) (x : ℕ) → a < node_count p → at < h.count a → beat h a at ≡ x
      → In (out.Send link m) (outs noted step h a at) → SentIn a link m x
  sent_out a at link m x known done in_beat k =
      let s = sent_as a at link m done k in
      record { known = known; at = at; in_beat = in_beat; place_there = s.0; note = s.1 }

  pub did_as : (w : WhichLife) {c x : ℕ} {link : LinkNo} {m : Msg} → DidAt p (life_in h w) c (out.Send link m) x
      → SentIn c link m x
  did_as w {c} {x} {link} {m} d =
      let at = did_in plan ring w d in
      sent_out c (event_in h w c d.at) link m x (cub_inside plan ring c d.small) at.0 at.1 (did_it plan ring w d)

  pub sends_as : {c x : ℕ} {link : LinkNo} {m : Msg} → (beyond_with p orders added h).Sends c link m x → SentIn c link m x
  sends_as {c} {x} {link} {m} s = ⊎_elim
      (λ d. did_as First d)
      (⊎_elim
      (λ d. did_as Later d)
      (⊎_elim
      (λ (b : ToldBack p (later_lives_of h) c link m x).
      let l = b.late in
      let q = back_out plan ring b in
      sent_out c (event_in h Later c 0) link m x (cub_inside plan ring c l.small) q.0 q.1 q.2)
      (λ (a : AddedAt p lives added c (out.Send link m) x).
      let q = added_out plan ring a in
      sent_out c (event_in h First c a.at) link m x (cub_inside plan ring c a.small) q.0 q.1 q.2)))
      s

  pub sends_small : {c x : ℕ} {link : LinkNo} {m : Msg} → (beyond_with p orders added h).Sends c link m x → c < p.cubs
  sends_small s =
      ⊎_elim (λ d. d.small) (⊎_elim (λ d. d.small) (⊎_elim (λ b. b.late.small) (λ a. a.small))) s

  -- What is sent to a cub in a life is taken in it, if the cub comes to its tick of the last beat in which it may come.
  pub reaches : (w : WhichLife) {a x : ℕ} {link : LinkNo} {m : Msg} (c b : ℕ) (s : SentIn a link m x)
      → ends_of (links_of p) link.0 ≡ Some (a, c) → CameToTick p (life_in h w) c b
      → IsInOneLife (beyond_with p orders added h) c x b → x + p.delay ≤ b
      → TakenThere w a s.at s.place_there c x link m
  reaches w {a} {x} {link} {m} c b s ends t one late =
      let small = t.tick.small in
      let inside = cub_inside plan ring c small in
      let ticks = came_ticks w c b t in
      let ended = ticks.ended in
      let same = s.in_beat in
      let now : beat_at ((life_in h w).input c) t.tick.at ≡ b = ap (λ (i : Input Msg). (stamp_of i).beat) t.tick.is in
      let low = opens_below w c t.tick.at s.note s.known ends small t.tick.done
      (subst (λ y. IsInOneLife (beyond_with p orders added h) c (beat h a s.at) y) (sym now)
      (subst (λ y. IsInOneLife (beyond_with p orders added h) c y b) (sym same) one)) in
      let taken = in_time w c s.note s.known inside ends (omega arith) in
      let r = taken_as w c (closes_before h w c) s.note inside ticks.opens (omega arith) ends low taken in
      let later = r.later in
      let soon = r.soon in
      record {
        beat = r.stamp.beat;
        took = record {
          small = small;
          at = r.when;
          done = r.done;
          reading = r.stamp.reading;
          link = link;
          is = r.is;
        };
        way = refl;
        number = r.number;
        later = omega arith;
        soon = omega arith;
      }

  -- So is what a cub sends to one of the next two cubs.
  pub reaches_near : (w : WhichLife) {a k x : ℕ} {m : Msg} (c b : ℕ) (s : SentIn a (way_ahead p a k) m x)
      → a < p.cubs → (k ≡ 1) ⊎ (k ≡ 2) → c ≡ cub_of p (a + k) → CameToTick p (life_in h w) c b
      → IsInOneLife (beyond_with p orders added h) c x b → x + p.delay ≤ b
      → TakenThere w a s.at s.place_there c x (way_ahead p a k) m
  reaches_near w {a} {k} {x} {m} c b s small near to t one late =
      let some : 1 ≤ k = ⊎_elim (λ e. omega arith) (λ e. omega arith) near in
      let few : k ≤ max 2 p.pieces = ⊎_elim (λ e. omega arith) (λ e. omega arith) near in
      let ends = way_leads p a k plan small some few in
      reaches w c b s (ends ∙ ap (λ n. Some (a, n)) (sym to)) t one late

  -- ---- ticks

  -- A cub that came to a tick came to it in a life.
  pub record TickIn (c b : ℕ) : Type 0 where
    pub which : WhichLife
    pub tick : CameToTick p (life_in h which) c b

  pub tick_in : {c b : ℕ} → CameAt p h c b → TickIn c b
  tick_in {c} {b} t =
      let inside = cub_inside plan ring c t.small in
      let q = of_life ring.run c inside t.at t.done (ticks_act (h.event c t.at) t.tick) in
      let w : WhichLife = q.which in
      let tick = sym (ticks_at plan ring w c q.at inside q.done) ∙ ap (λ k. is_tick (h.event c k)) (sym q.is) ∙ t.tick in
      let s = tick_of ((life_in h w).input c q.at) tick in
      let when : s.0.beat ≡ b =
      ap (λ (i : Input Msg). (stamp_of i).beat) (sym s.1) ∙ sym (beat_in h w c q.at) ∙ ap (beat h c) (sym q.is) ∙ t.in_beat in
      record {
        which = w;
        tick = record {
          reading = s.0.reading;
          tick = record {
            small = t.small;
            at = q.at;
            done = q.done;
            is = s.1 ∙ ap (λ (x : Stamp). Tick x) (stamp_made s.0 b when);
          };
        };
      }

  -- And it came to the ticks of its lives.
  pub came_to : (w : WhichLife) {c b l : ℕ} → TickAt p (life_in h w) c b l → CameAt p h c b
  came_to w {c} {b} {l} t =
      let inside = cub_inside plan ring c t.small in
      record {
        small = t.small;
        at = event_in h w c t.at;
        done = (before plan ring w c t.at inside t.done).done;
        tick = ticks_at plan ring w c t.at inside t.done ∙ ap is_tick_input t.is;
        in_beat = beat_in h w c t.at ∙ ap (λ (i : Input Msg). (stamp_of i).beat) t.is;
      }
