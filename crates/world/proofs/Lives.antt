-- What a node's step makes of it as a node of the machine.
use Rattle.std.proofs.Common.{◌≡◌, ℕ, suc, ◌+◌, List, Bool, true, false, Option, Some, None, ◌||◌, refl, ap, sym, ◌∙◌}
use Rattle.std.proofs.Common.{subst, arith}
use Rattle.std.specs.Prelude.{is_some, if◌then◌else◌}
use Rattle.tiger_base.specs.declared.number.Stamp.{Stamp}
use Rattle.tiger_base.specs.declared.number.LinkNo.{LinkNo}
use Rattle.tiger_base.specs.declared.message.Note.{Note}
use Rattle.slot_plan.specs.declared.params.Params.{Params}
use Rattle.node_kit.specs.declared.journal.Entry.{Entry}
use Rattle.node_kit.specs.Outputs.{cut_at}
use Rattle.node_kit.specs.Steps.{Input, Deed, stamp_of, entries_of}
use Rattle.node_kit.specs.Steps.Input.{Take, Tick}
use Rattle.run_facts.specs.Events.{after_input, after_cut, kept_outs, left_outs, event_to, is_tick_input, outs_of, stamp_at}
use Rattle.run_facts.specs.Events.NodeEvent.{Dies, Returns}
use Rattle.ring_world.specs.Machine.{Being, Way, lived}
use Rattle.world.specs.Living.{HasDone, HasLived, left_by, unending, marked, died, returned}
use Rattle.world.specs.Posting.{posted}
use Rattle.world.proofs.Posts.{posted_dying}

or_false : (b : Bool) → b || false ≡ b
or_false true = refl
or_false false = refl

or_true : (b : Bool) → b || true ≡ true
or_true true = refl
or_true false = refl

-- A node of the machine by what is kept of it.
abbrev kept : {S : Type 0} → S → List Entry → ℕ → ℕ → ℕ → Bool → Option ℕ → Bool → Bool → Being S
kept s j t a r d o c k = record {
  past = record { state = s; life = unending c; journal = j };
  ticked = t;
  acted = a;
  reading = r;
  dead = d;
  died = o;
  returned = k;
}

abbrev one_tick_more : {S : Type 0} → Being S → Being S
one_tick_more b = record {
  past = b.past;
  ticked = b.ticked + 1;
  acted = b.acted;
  reading = b.reading;
  dead = b.dead;
  died = b.died;
  returned = b.returned;
}

-- A node of which the open beat is this one.
abbrev open_at : {S : Type 0} → ℕ → Being S → Being S
open_at t b = record {
  past = b.past;
  ticked = t;
  acted = b.acted;
  reading = b.reading;
  dead = b.dead;
  died = b.died;
  returned = b.returned;
}

module _ {M S : Type 0} (note : M → Note) (step : S → Input M → Deed M S) (s : S) (j : List Entry) (t a r : ℕ) (d : Bool)
    (o : Option ℕ) (c k : Bool) where
  abbrev before : Being S
  before = kept s j t a r d o c k

  -- What it has lived through, by an input, whole or with so many messages at its death.
  abbrev stepped : Input M → Option ℕ → Being S
  stepped i q = open_at (if is_tick_input i then suc t else t)
      (marked (stamp_of i) (entries_of note i (left_by q (step s i).outs)) (is_some q)
      (kept (step s i).state j t a r d o c k))

  lived_is : (i : Input M) (q : Option ℕ) → lived note step (event_to i q) before ≡ stepped i q
  unfolding after_input after_cut kept_outs left_outs
  lived_is i None = rw (or_false d, or_false k) refl
  lived_is i (Some n) = rw (or_true d, or_false k) refl

  sent_is : (i : Input M) (q : Option ℕ) (ways : List (Way M))
      → posted (stamp_of i).beat (left_by q (step s i).outs) ways
      ≡ posted (stamp_at (event_to i q)).beat (outs_of step (event_to i q) before.past) ways
  unfolding kept_outs left_outs
  sent_is i None ways = refl
  sent_is i (Some n) ways = posted_dying (stamp_of i).beat (cut_at n (step s i).outs) ways

  has_lived : (stands : S → Params → ℕ → Type 0) (s' : S) (i : Input M) (q : Option ℕ) (wrote : List Entry) (new : Being S)
      (ways ways' : List (Way M)) → HasDone note step stands i q s s' wrote ways ways'
      → new ≡ open_at (if is_tick_input i then suc t else t)
      (marked (stamp_of i) wrote (is_some q) (kept s' j t a r d o c k))
      → HasLived note step stands (event_to i q) before new ways ways'
  has_lived stands s' i q wrote new ways ways' done ends =
      let row = λ (w : List Entry) (st : S). open_at (if is_tick_input i then suc t else t)
      (marked (stamp_of i) w (is_some q) (kept st j t a r d o c k)) in
      record {
        being = ends ∙ ap (λ w. row w s') done.journal
            ∙ ap (row (entries_of note i (left_by q (step s i).outs))) done.state ∙ sym (lived_is i q);
        ways = done.ways ∙ sent_is i q ways;
        stays = λ p n at. subst (λ (b : Being S). stands b.past.state p n) (sym ends) (done.stays p n at);
      }

module _ {M S : Type 0} (note : M → Note) (step : S → Input M → Deed M S) (stands : S → Params → ℕ → Type 0)
    (s s' : S) (j : List Entry) (t a r : ℕ) (d : Bool) (o : Option ℕ) (c k : Bool) (old : Being S)
    (is : kept s j t a r d o c k ≡ old) (sends : Option ℕ) (wrote : List Entry) (ways ways' : List (Way M)) where
  pub has_lived_take : (stamp : Stamp) (link : LinkNo) (msg : M) (new : Being S)
      → HasDone note step stands (Take stamp link msg) sends s s' wrote ways ways'
      → new ≡ marked stamp wrote (is_some sends) (kept s' j t a r d o c k)
      → HasLived note step stands (event_to (Take stamp link msg) sends) old new ways ways'
  has_lived_take stamp link msg new done ends =
      subst (λ (b : Being S). HasLived note step stands (event_to (Take stamp link msg) sends) b new ways ways') is
      (has_lived note step s j t a r d o c k stands s' (Take stamp link msg) sends wrote new ways ways' done ends)

  pub has_lived_tick : (stamp : Stamp) (mid : Being S) (s2 : S) (j2 : List Entry) (t2 a2 r2 : ℕ) (d2 : Bool)
      (o2 : Option ℕ) (c2 k2 : Bool)
      → HasDone note step stands (Tick stamp) sends s s' wrote ways ways'
      → mid ≡ marked stamp wrote (is_some sends) (kept s' j t a r d o c k)
      → kept s2 j2 t2 a2 r2 d2 o2 c2 k2 ≡ mid
      → HasLived note step stands (event_to (Tick stamp) sends) old (kept s2 j2 (t2 + 1) a2 r2 d2 o2 c2 k2) ways ways'
  has_lived_tick stamp mid s2 j2 t2 a2 r2 d2 o2 c2 k2 done ends is2 =
      let more : t + 1 ≡ suc t = omega arith in
      let whole : kept s2 j2 t2 a2 r2 d2 o2 c2 k2 ≡ marked stamp wrote (is_some sends) (kept s' j t a r d o c k) = is2 ∙ ends in
      let new : kept s2 j2 (t2 + 1) a2 r2 d2 o2 c2 k2
      ≡ open_at (suc t) (marked stamp wrote (is_some sends) (kept s' j t a r d o c k)) =
      ap one_tick_more whole ∙ ap (λ n. open_at n (marked stamp wrote (is_some sends) (kept s' j t a r d o c k))) more in
      subst (λ (b : Being S). HasLived note step stands (event_to (Tick stamp) sends) b (kept s2 j2 (t2 + 1) a2 r2 d2 o2 c2 k2) ways ways') is
      (has_lived note step s j t a r d o c k stands s' (Tick stamp) sends wrote (kept s2 j2 (t2 + 1) a2 r2 d2 o2 c2 k2) ways ways' done new)

pub died_is_lived : {M S : Type 0} (note : M → Note) (step : S → Input M → Deed M S) (stamp : Stamp) (b : Being S)
    → died stamp b ≡ lived note step (Dies stamp) b
died_is_lived note step stamp b = rw (or_true b.dead, or_false b.returned) refl

pub returned_is_lived : {M S : Type 0} (note : M → Note) (step : S → Input M → Deed M S) (stamp : Stamp) (b : Being S)
    → returned stamp b ≡ lived note step (Returns stamp) b
returned_is_lived note step stamp b = rw (or_true b.returned) refl
