-- What an event makes of the nodes and links of a machine, from what it makes of its own node.
use Rattle.std.proofs.Common.{◌≡◌, ℕ, zero, suc, ◌+◌, List, [], ◌∷◌, ◌++◌, true, false, Option, Some, None, refl, ap}
use Rattle.std.proofs.Common.{sym, ◌∙◌, subst, arith, append-nil}
use Rattle.std.specs.Prelude.{slice_get, slice_set, option_map, option_and_then, if◌then◌else◌, ◌==◌}
use Rattle.std.proofs.lemmas.Bool.{eq-eqb, ne_eqb}
use Rattle.std.proofs.lemmas.Option.{none-some}
use Rattle.tiger_base.specs.declared.number.Stamp.{Stamp}
use Rattle.tiger_base.specs.declared.number.LinkNo.{LinkNo}
use Rattle.tiger_base.specs.declared.message.Note.{Note}
use Rattle.slot_plan.specs.declared.params.Params.{Params}
use Rattle.node_kit.specs.Steps.{Input, Deed}
use Rattle.node_kit.specs.Steps.Input.{Take, Tick}
use Rattle.run_facts.specs.Events.{NodeEvent, Past, Dated, event_to, outs_of, stamp_at, is_return}
use Rattle.run_facts.specs.Events.{is_take_on}
use Rattle.run_facts.specs.Events.NodeEvent.{Does, Ends, Dies, Returns}
use Rattle.ring_world.specs.declared.event.Act.TheVariants as act
use Rattle.ring_world.specs.declared.event.Last.{Last}
use Rattle.ring_world.specs.declared.event.Last.TheVariants as last
use Rattle.ring_world.specs.declared.event.Event.{Event}
use Rattle.ring_world.specs.Machine.{Being, Way, each_at, lived, lost_on, gone_on, node_event, first_in, rest_of}
use Rattle.world.specs.Dropping.{freed}
use Rattle.world.specs.Living.{HasLived, died, returned}
use Rattle.world.specs.Moving.{journals_in, HasLivedThrough, HasTaken, HasEndedIn, HasComeThrough, HasLivedIn, HasMoved}
use Rattle.world.specs.Posting.{with_sent, posted}
use Rattle.world.proofs.Lists.{each_twice, each_alike, each_kept, each_one}
use Rattle.world.proofs.Lives.{died_is_lived, returned_is_lived}

-- The oldest message of one link is gone from it, and counted as gone.
abbrev popped : {M : Type 0} → ℕ → ℕ → Way M → Way M
popped link l w = record {
  gone = if link == l then suc w.gone else w.gone;
  under_way = if link == l then rest_of w.under_way else w.under_way;
}

popped_set : {M : Type 0} (link : ℕ) (ways : List (Way M)) (w v : Way M) → slice_get ways link ≡ Some w
    → v ≡ record { gone = w.gone + 1; under_way = rest_of w.under_way } → slice_set ways link v ≡ each_at (popped link) 0 ways
popped_set {M} link ways w v at is =
    let more : w.gone + 1 ≡ suc w.gone = omega arith in
    let same : (link == link) ≡ true = eq-eqb link link refl in
    let here : popped link link w ≡ v = rw same (sym (is ∙ ap (λ t. record { gone = t; under_way = rest_of w.under_way }) more)) in
    let there : (j : ℕ) (y : Way M) → (j ≡ link → ⊥) → popped link j y ≡ y =
    λ j y ne. let other : (link == j) ≡ false = ne_eqb link j (λ e. ne (sym e)) in rw other refl in
    ap (slice_set ways link) (sym here) ∙ each_one (popped link) link 0 ways link w (omega arith) at there

module _ {M S : Type 0} (note : M → Note) (step : S → Input M → Deed M S) (stands : S → Params → ℕ → Type 0) where
  -- The event of a take takes on its link, whether the node dies in it or not.
  takes_on : (stamp : Stamp) (link : LinkNo) (msg : M) (sends : Option ℕ) (l : ℕ)
      → is_take_on l (event_to (Take stamp link msg) sends) ≡ (link.0 == l)
  takes_on stamp link msg None l = refl
  takes_on stamp link msg (Some n) l = refl

  -- A message was taken from its link, and then the node lived through that.
  pub has_taken : (stamp : Stamp) (link : LinkNo) (msg : M) (sends : Option ℕ) (old new : Being S) (ways ways' : List (Way M)) (w v : Way M)
      → slice_get ways link.0 ≡ Some w → Some msg ≡ option_map (λ (d : Dated M). d.item) (first_in w.under_way)
      → v ≡ record { gone = w.gone + 1; under_way = rest_of w.under_way }
      → HasLived note step stands (event_to (Take stamp link msg) sends) old new (slice_set ways link.0 v) ways'
      → HasTaken note step stands stamp link sends old new ways ways'
  has_taken stamp link msg sends old new ways ways' w v at found is lives = by (first_in w.under_way) refl found
    where
      sent : posted (stamp_at (event_to (Take stamp link msg) sends)).beat (outs_of step (event_to (Take stamp link msg) sends) old.past) (slice_set ways link.0 v)
          ≡ each_at (gone_on step (event_to (Take stamp link msg) sends) old.past) 0 ways
      sent =
          let y : NodeEvent M = event_to (Take stamp link msg) sends in
          let outs = outs_of step y old.past in
          ap (posted (stamp_at y).beat outs) (popped_set link.0 ways w v at is)
          ∙ each_twice (popped link.0) (with_sent (stamp_at y).beat outs) (gone_on step y old.past) 0 ways
          (λ l z. let t = takes_on stamp link msg sends l in rw t refl)

      by : (o : Option (Dated M)) → first_in w.under_way ≡ o → Some msg ≡ option_map (λ (d : Dated M). d.item) o
          → HasTaken note step stands stamp link sends old new ways ways'
      by None e q = absurd (none-some msg (sym q))
      by (Some d) e q =
          let same : msg ≡ d.item = cc in
          record {
            first = d;
            here = ap (λ o. option_and_then (λ (y : Way M). first_in y.under_way) o) at ∙ e;
            through = subst (λ (m : M). HasLivedThrough note step stands (event_to (Take stamp link m) sends) old new ways ways') same (record {
              being = lives.being;
              ways = lives.ways ∙ sent;
              stays = lives.stays;
            });
          }

  -- An event that is no return loses nothing.
  unlost : (p : Params) (n : ℕ) (x : NodeEvent M) (old new : Being S) (ways ways' : List (Way M)) → is_return x ≡ false
      → HasLivedThrough note step stands x old new ways ways' → HasComeThrough note step stands p n x old new ways ways'
  unlost p n x old new ways ways' here through = record {
    being = through.being;
    ways = through.ways ∙ each_alike (gone_on step x old.past) (λ l w. gone_on step x old.past l (lost_on p n x l w)) 0 ways
        (λ l w. rw here refl);
    stays = through.stays;
  }

  pub taken_in : (p : Params) (n : ℕ) (e : Event) (link : LinkNo) (number : ℕ) (old new : Being S) (ways ways' : List (Way M)) → e.act ≡ act.Get link number
      → HasTaken note step stands e.stamp link None old new ways ways' → HasLivedIn note step stands p n e old new ways ways'
  taken_in p n e link number old new ways ways' is taken = record {
    event = Does (Take e.stamp link taken.first.item);
    told = let here = taken.here in rw (is, here) refl;
    when = refl;
    through = unlost p n (Does (Take e.stamp link taken.first.item)) old new ways ways' refl taken.through;
  }

  pub taken_last : (stamp : Stamp) (final : Last) (link : LinkNo) (number sends : ℕ) (old new : Being S) (ways ways' : List (Way M)) → final ≡ last.Get link number
      → HasTaken note step stands stamp link (Some sends) old new ways ways' → HasEndedIn note step stands stamp final sends old new ways ways'
  taken_last stamp final link number sends old new ways ways' is taken = record {
    event = Ends (Take stamp link taken.first.item) sends;
    told = let here = taken.here in rw (is, here) refl;
    when = refl;
    whole = refl;
    through = taken.through;
  }

  -- Nothing is taken from a link.
  plainly : (x : NodeEvent M) (past : Past S) (ways : List (Way M)) → ((l : ℕ) → is_take_on l x ≡ false)
      → posted (stamp_at x).beat (outs_of step x past) ways ≡ each_at (gone_on step x past) 0 ways
  plainly x past ways none =
      each_alike (with_sent (stamp_at x).beat (outs_of step x past)) (gone_on step x past) 0 ways (λ l w. let no_take = none l in rw no_take refl)

  ticked_through : (stamp : Stamp) (sends : Option ℕ) (old new : Being S) (ways ways' : List (Way M))
      → HasLived note step stands (event_to (Tick stamp) sends) old new ways ways'
      → HasLivedThrough note step stands (event_to (Tick stamp) sends) old new ways ways'
  ticked_through stamp sends old new ways ways' lives = record {
    being = lives.being;
    ways = lives.ways ∙ plainly (event_to (Tick stamp) sends) old.past ways (λ l. by sends l);
    stays = lives.stays;
  }
    where
      by : (q : Option ℕ) (l : ℕ) → is_take_on {M = M} l (event_to {M = M} (Tick stamp) q) ≡ false
      by None l = refl
      by (Some n) l = refl

  pub ticked_in : (p : Params) (k : ℕ) (e : Event) (n : _) (old new : Being S) (ways ways' : List (Way M)) → e.act ≡ act.Tick n
      → HasLived note step stands (event_to (Tick e.stamp) None) old new ways ways' → HasLivedIn note step stands p k e old new ways ways'
  ticked_in p k e n old new ways ways' is lives = record {
    event = Does (Tick e.stamp);
    told = rw is refl;
    when = refl;
    through = unlost p k (Does (Tick e.stamp)) old new ways ways' refl (ticked_through e.stamp None old new ways ways' lives);
  }

  pub ticked_last : (stamp : Stamp) (final : Last) (n : _) (sends : ℕ) (old new : Being S) (ways ways' : List (Way M)) → final ≡ last.Tick n
      → HasLived note step stands (event_to (Tick stamp) (Some sends)) old new ways ways' → HasEndedIn note step stands stamp final sends old new ways ways'
  ticked_last stamp final n sends old new ways ways' is lives = record {
    event = Ends (Tick stamp) sends;
    told = rw is refl;
    when = refl;
    whole = refl;
    through = ticked_through stamp (Some sends) old new ways ways' lives;
  }

  pub ended_in : (p : Params) (n : ℕ) (e : Event) (final : Last) (sends : ℕ) (old new : Being S) (ways ways' : List (Way M)) → e.act ≡ act.DieIn final sends
      → HasEndedIn note step stands e.stamp final sends old new ways ways' → HasLivedIn note step stands p n e old new ways ways'
  ended_in p n e final sends old new ways ways' is ended = record {
    event = ended.event;
    told = ap (node_event ways e.stamp) is ∙ ended.told;
    when = ended.when;
    through = unlost p n ended.event old new ways ways' ended.whole ended.through;
  }

  still : (x : NodeEvent M) (w : Way M) → ◌≡◌ {A = Way M} (record { gone = w.gone; under_way = w.under_way ++ [] }) w
  still x w = ap (λ ds. record { gone = w.gone; under_way = ds }) (append-nil w.under_way)

  pub died_in : (p : Params) (n : ℕ) (e : Event) (c : _) (old new : Being S) (ways : List (Way M)) → e.act ≡ act.Die c
      → new ≡ died e.stamp old → HasLivedIn note step stands p n e old new ways ways
  died_in p n e c old new ways is dead = record {
    event = Dies e.stamp;
    told = rw is refl;
    when = refl;
    through = unlost p n (Dies e.stamp) old new ways ways refl (record {
      being = dead ∙ died_is_lived note step e.stamp old;
      ways = sym (each_kept (gone_on step (Dies e.stamp) old.past) 0 ways (λ l w. still (Dies e.stamp) w));
      stays = λ q k at. subst (λ (b : Being S). stands b.past.state q k) (sym dead) at;
    });
  }

  pub returned_in : (p : Params) (n : ℕ) (e : Event) (c : _) (old new : Being S) (ways ways' : List (Way M)) → e.act ≡ act.Return c
      → new ≡ returned e.stamp old → ways' ≡ each_at (freed p n e.stamp.beat) 0 ways → HasLivedIn note step stands p n e old new ways ways'
  returned_in p n e c old new ways ways' is back lost = record {
    event = Returns e.stamp;
    told = rw is refl;
    when = refl;
    through = record {
      being = back ∙ returned_is_lived note step e.stamp old;
      ways = lost ∙ each_alike (freed p n e.stamp.beat) (λ l w. gone_on step (Returns e.stamp) old.past l (lost_on p n (Returns e.stamp) l w)) 0 ways
          (λ l w. sym (still (Returns e.stamp) (freed p n e.stamp.beat l w)));
      stays = λ q k at. subst (λ (b : Being S). stands b.past.state q k) (sym back) at;
    };
  }

  pub has_moved : (p : Params) (n : ℕ) (e : Event) (old new : Being S) (beings : List (Being S)) (ways ways' : List (Way M)) → slice_get beings n ≡ Some old
      → HasLivedIn note step stands p n e old new ways ways'
      → HasMoved note step stands p n e beings (slice_set beings n new) ways ways'
  has_moved p n e old new beings ways ways' at lives =
      let x = lives.event in
      let f : ℕ → Being S → Being S = λ k b. if k == n then lived note step x b else b in
      let same : (n == n) ≡ true = eq-eqb n n refl in
      let here : f n old ≡ new = rw same (sym lives.through.being) in
      let there : (j : ℕ) (y : Being S) → (j ≡ n → ⊥) → f j y ≡ y = λ j y ne. let other : (j == n) ≡ false = ne_eqb j n ne in rw other refl in
      record {
        old = old;
        new = new;
        here = at;
        lived_in = lives;
        nodes = ap (slice_set beings n) (sym here) ∙ each_one f n 0 beings n old (omega arith) at there;
      }

-- A node whose journal is the same was put in another's place.
pub journals_set : {S : Type 0} (beings : List (Being S)) (n : ℕ) (old new : Being S) → slice_get beings n ≡ Some old
    → new.past.journal ≡ old.past.journal → journals_in (slice_set beings n new) ≡ journals_in beings
journals_set [] n old new at same = refl
journals_set {S} (b ∷ bs) zero old new at same =
    let eq : b ≡ old = cc in
    ap (λ j. j ∷ journals_in bs) (same ∙ ap (λ (x : Being S). x.past.journal) (sym eq))
journals_set (b ∷ bs) (suc n) old new at same = ap (λ js. b.past.journal ∷ js) (journals_set bs n old new at same)
