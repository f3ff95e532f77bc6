-- Each Put, stop, death and belief of a ring has its entry, and what the controller began was ordered.
use Rattle.std.proofs.Common.{◌≡◌, ℕ, ◌+◌, ◌<◌, List, false, refl, sym, ◌∙◌, arith, inl}
use Rattle.std.specs.Prelude.{◌⊎◌}
use Rattle.tiger_base.specs.declared.number.CubNo.{CubNo}
use Rattle.tiger_base.specs.declared.number.LinkNo.{LinkNo}
use Rattle.tiger_base.specs.declared.tenancy.Ask.{Ask}
use Rattle.tiger_base.specs.declared.message.Msg.{Msg}
use Rattle.tiger_base.specs.Notes.{noted}
use Rattle.slot_plan.specs.declared.params.Params.{Params}
use Rattle.slot_plan.specs.Times.{cub_of}
use Rattle.node_kit.specs.declared.course.Order.{Order}
use Rattle.node_kit.specs.declared.journal.Entry.{Entry}
use Rattle.node_kit.specs.declared.journal.What.TheVariants as what
use Rattle.node_kit.specs.declared.outbox.Out.TheVariants as out
use Rattle.node_kit.specs.declared.outbox.Out.{Out}
use Rattle.node_kit.specs.Steps.{Deed, Input, what_of, entry_of}
use Rattle.run_facts.specs.Events.{entries_at, stamp_at}
use Rattle.run_facts.specs.Histories.{History, beat, outs, past, last_of}
use Rattle.run_model.specs.Orders as ordering
use Rattle.disk_core.specs.State.{DiskState}
use Rattle.tiger_base.specs.declared.tenancy.Tenancy.{Tenancy}
use Rattle.proof_lives.specs.Lives.{BeganLate}
use Rattle.proof_lives.specs.TwoLifeRun.{WhichLife, event_in, life_in}
use Rattle.proof_lives.specs.TwoLifeRun.WhichLife.{First, Later}
use Rattle.proof_lives.proofs.TwoLives.{beat_in}
use Rattle.lists.specs.Elements.{In}
use Rattle.proof_lives.specs.Facts.{DidAt}
use Rattle.proof_lives.proofs.Carrying.{before_next}
use Rattle.proof_journals.proofs.Written.{journal_keeps}
use Rattle.proof_journals.proofs.Journals.{inputs_of}
use Rattle.proof_controller.specs.Controllers.{controller, GoneAt}
use Rattle.proof_moments.specs.Ties.{IsLogged, IsGoneOf, Logged}
use Rattle.proof_lives.specs.FactsBy.{WroteBelief}
use Rattle.proof_facts.specs.Beside.{Additions}
use Rattle.proof_facts.specs.Facts.{facts_of, BegunAt}
use Rattle.proof_facts.specs.Lives.{lives_of, later_lives_of, DiedAt}
use Rattle.proof_facts.specs.Rings.{node_count}
use Rattle.proof_journals.specs.Journals.{FactsAreLogged}
use Rattle.proof_journals.proofs.BothLives.{by_life}
use Rattle.proof_lives.proofs.Cuts.{was_put_out}
use Rattle.proof_journals.proofs.Wrote.{death_written}
use Rattle.proof_journals.proofs.Others.{start_ordered}
use Rattle.proof_journals.proofs.Outputs.{believes_predecessor}
use Rattle.proof_journals.proofs.Events.{AreKept, cub_inside, event_of_life, fair, goes_in_event, out_logged, outs_at_input}
use Rattle.proof_journals.proofs.Telling.{ordered_among}
use Rattle.proof_journals.proofs.Lists.{moved}

module _ {S : Type 0} {step : S → Input Msg → Deed Msg S} {p : Params} {orders : List Order}
    {disk_at : ℕ → DiskState} {added : Additions} {h : History Msg S} {journals : List (List Entry)}
    (kept : AreKept step p orders disk_at added h journals) where
  -- What a node put out has an entry of the beat of the event.
  out_logged_in : (n i b : ℕ) (o : Out Msg) → n < node_count p → i < h.count n → In o (outs noted step h n i)
      → beat h n i ≡ b → IsLogged journals n b (λ e. e.what ≡ what_of noted o)
  out_logged_in n i b o known low k when = record {
    entry = entry_of noted (stamp_at (h.event n i)) o;
    stands = out_logged kept n i o known low k;
    beat = when;
    is = refl;
  }

  -- So has what a cub did, in whichever of its lives: an entry of its own, or a message that it sent.
  pub did_logged : (w : WhichLife) (c b : ℕ) (o : Out Msg) → DidAt p (life_in h w) c o b
      → IsLogged journals c b (λ e. e.what ≡ what_of noted o)
  did_logged w c b o d =
      let known = cub_inside kept c d.small in
      out_logged_in c (event_in h w c d.at) b o known (event_of_life kept w c d.at known d.done).0
      (goes_in_event kept w c d.at o d.small d.done d.did)
      (beat_in h w c d.at ∙ d.in_beat)

  pub sent_logged : (c b : ℕ) (link : LinkNo) (m : Msg)
      → DidAt p (lives_of h) c (out.Send link m) b ⊎ DidAt p (later_lives_of h) c (out.Send link m) b
      → IsLogged journals c b (λ e. e.what ≡ what.Sent link (noted m))
  sent_logged c b link m d = by_life h (λ l. DidAt p l c (out.Send link m) b)
      (λ w k. did_logged w c b (out.Send link m) k) d

  put_logged : (c b : ℕ) (t : Tenancy) → (facts_of p orders h).Put c t b
      → IsLogged journals c b (λ e. e.what ≡ what.Put t)
  put_logged c b t d = by_life h (λ l. DidAt p l c (out.Act (what.Put t)) b)
      (λ w k. did_logged w c b (out.Act (what.Put t)) k) d

  gone_logged : (v b : ℕ) → GoneAt p orders (lives_of h) v b → (n : ℕ) × IsLogged journals n b (IsGoneOf v)
  gone_logged v b g =
      let known : controller p < node_count p = omega arith in
      let done = (event_of_life kept First (controller p) g.at known g.done).0 in
      let there = moved (out.Act (what.Gone g.instance)) (sym (kept.ring.rules.controls g.at done)) g.gone in
      let l = out_logged_in (controller p) g.at b (out.Act (what.Gone g.instance)) known done there
      (beat_in h First (controller p) g.at ∙ g.in_beat) in (
        controller p,
        record {
          entry = l.entry;
          stands = l.stands;
          beat = l.beat;
          is = record { instance = g.instance; is = l.is; same = g.same };
        },
      )

  died_logged : (c b : ℕ) → DiedAt p h c b → IsLogged journals c b (λ e. e.what ≡ what.Died)
  died_logged c b d =
      let stamp = stamp_at (h.event c d.at) in
      let e : Entry = record { stamp = stamp; what = what.Died } in
      let there : In e (entries_at noted step (h.event c d.at) (past noted step h c d.at)) =
      death_written step p c (h.event c d.at) (past noted step h c d.at) (fair kept c d.at (cub_inside kept c d.small) d.done) d.death in
      record {
        entry = e;
        stands = record {
          journal = (last_of noted step h c).journal;
          at = kept.are.writes c (cub_inside kept c d.small);
          there = journal_keeps step h c d.at (h.count c) e d.done there;
        };
        beat = d.in_beat;
        is = refl;
      }

  -- The return of a cub is the first thing that it puts out in its later life.
  returned_logged : (c b : ℕ) → BeganLate p (later_lives_of h) c b → IsLogged journals c b (λ e. e.what ≡ what.Returned)
  returned_logged c b w =
      let known = cub_inside kept c w.small in
      out_logged_in c (event_in h Later c 0) b (out.Act what.Returned) known
      (event_of_life kept Later c 0 known w.done).0
      (moved (out.Act what.Returned) (sym (outs_at_input kept Later c 0 w.small w.done)) (inl refl))
      (beat_in h Later c 0 ∙ w.in_beat)

  believed_in : (w : WhichLife) (c d b : ℕ) → WroteBelief p (life_in h w) c b → c ≡ cub_of p (d + 1) → d < p.cubs
      → IsLogged journals c b (λ e. (cub : CubNo) × (e.what ≡ what.Believed cub) × (cub.0 ≡ d))
  believed_in w c d b k behind known =
      let l = did_logged w c b (out.Act (what.Believed k.cub)) k.did in
      let who = believes_predecessor p c ((life_in h w).input c) k.did.at k.cub
      (was_put_out p (life_in h w) c k.did.at (out.Act (what.Believed k.cub)) k.did.did) in
      record {
        entry = l.entry;
        stands = l.stands;
        beat = l.beat;
        is = (k.cub, l.is, who ∙ before_next p d c known behind);
      }

  believed_logged : (c d b : ℕ) → (facts_of p orders h).Believed c b → c ≡ cub_of p (d + 1) → d < p.cubs
      → IsLogged journals c b (λ e. (cub : CubNo) × (e.what ≡ what.Believed cub) × (cub.0 ≡ d))
  believed_logged c d b k behind known = by_life h (λ l. WroteBelief p l c b)
      (λ w x. believed_in w c d b x behind known) k

  begun_ordered : (ask : Ask) (b : ℕ) → BegunAt p orders (lives_of h) ask b → ordering.IsOrdered orders ask
  begun_ordered ask b g = ordered_among orders ask
      (start_ordered p orders (inputs_of h (controller p)) g.at _ ask false g.near)

  pub logged : Logged p (facts_of p orders h) orders journals
  logged = record {
    put = put_logged;
    gone = gone_logged;
    died = died_logged;
    returned = returned_logged;
    believed = believed_logged;
    begun = begun_ordered;
  }

pub facts_are_logged : (S : Type 0) → FactsAreLogged S
facts_are_logged S step p orders disk_at added h journals plan ring are =
    logged (record { plan = plan; ring = ring; are = are })
