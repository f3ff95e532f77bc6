-- In a kept run a cub ticks in each beat that it ends, in its first life or behind its return, and reads what its course says.
use Rattle.std.proofs.Common.{◌≡◌, ℕ, ◌+◌, ◌<◌, ◌≤◌, List, length, Option, Some, None, true, false, refl, sym, ap, subst, ◌∙◌, arith, ⊎_elim, inl, inr, eq-or-lt_of_le}
use Rattle.std.specs.Prelude.{◌⊎◌, nat_le}
use Rattle.std.proofs.lemmas.Bool.{cases_Bool, cases_lt, leb-true}
use Rattle.tiger_base.specs.declared.message.Msg.{Msg}
use Rattle.tiger_base.specs.Notes.{noted}
use Rattle.slot_plan.specs.declared.params.Params.{Params}
use Rattle.node_kit.specs.declared.course.Kept.{Kept}
use Rattle.node_kit.specs.Courses.{reading_of}
use Rattle.node_kit.specs.Life.{Lifetime, acts, back_of, cut_of, death_of, lifetime_of}
use Rattle.node_kit.specs.Steps.{Input, stamp_of}
use Rattle.run_facts.specs.Events.{is_death, is_return}
use Rattle.run_facts.specs.Histories.{History, IsUp, beat, open_beat, past}
use Rattle.run_facts.proofs.Fronts.{lived as mortal}
use Rattle.run_lives.proofs.Deaths.{along}
use Rattle.run_model.specs.Runs.{EndsBeat}
use Rattle.run_model.proofs.Ticking.{ends_below}
use Rattle.scenario_read.specs.declared.scenario.Scenario.{Scenario}
use Rattle.scenario_read.specs.Sound.{IsScenario}
use Rattle.ring_nodes.specs.declared.nodes.AnyNode.{AnyNode}
use Rattle.ring_nodes.specs.AllNodes.{any_step}
use Rattle.proof_schedule.specs.Facts.{DiedBy, Ended, LivedTo}
use Rattle.proof_lives.specs.Facts.{TickedAt}
use Rattle.proof_lives.specs.Histories.{first_events, later_from, later_lives_of}
use Rattle.proof_lives.specs.TwoLifeRun.{WhichLife, event_in, life_in}
use Rattle.proof_lives.specs.TwoLifeRun.WhichLife.{First, Later}
use Rattle.proof_lives.proofs.Returns.{open_back}
use Rattle.proof_lives.proofs.TwoLives.{beat_in, reading_in, within_run}
use Rattle.proof_facts.specs.Facts.{facts_of}
use Rattle.proof_facts.specs.Rings.{IsRingHistory, node_count}
use Rattle.proof_links.proofs.Nodes.{began_late}
use Rattle.proof_links.proofs.Running as running
use Rattle.proof_links.proofs.Staying.{stays}
use Rattle.proof_ring.specs.Runs.{AreShort, disks_of}
use Rattle.proof_ring.proofs.CubLives.{rings_are_histories}
use Rattle.proof_ring.proofs.Runs.{HasRing, back_is, complete, death_is, given, is_ring, life_is, size, up_to}

-- A cub ends a beat if it does not die, or dies in a later one, or returned in that or an earlier one.
abbrev EndsAs : Option ℕ → Option ℕ → ℕ → Type 0
EndsAs death back b =
    (death ≡ None) ⊎ (((d : ℕ) × (death ≡ Some d) × (b < d)) ⊎ ((w : ℕ) × (back ≡ Some w) × (w ≤ b)))

acts_alone : (d : ℕ) (left : Option ℕ) (w b : ℕ) → nat_le w b ≡ false
    → acts (mortal (Some d) left (Some w)) b ≡ acts (mortal (Some d) left None) b
unfolding acts
acts_alone d left w b late = rw late refl

ends_as : (death left back : Option ℕ) (b : ℕ) → EndsBeat (mortal death left back) b → EndsAs death back b
ends_as None left back b ends = inl refl
ends_as (Some d) left None b ends = inr (inl (d, refl, ends_below d left b ends))
ends_as (Some d) left (Some w) b ends = ⊎_elim
    (λ (t : nat_le w b ≡ true). inr (inr (w, refl, leb-true w b t)))
    (λ (f : nat_le w b ≡ false).
    inr (inl (d, refl, ends_below d left b (sym (acts_alone d left w b f) ∙ ends.0, ends.1))))
    (cases_Bool (nat_le w b))

module _ (G : Type 0) (s : Scenario) (library : List (List ℕ)) (k : Kept) (scenario : IsScenario s) (short : AreShort library) (run : HasRing G s library k) where
  abbrev pub p : Params
  p = k.course.plan.params

  abbrev pub h : History Msg (AnyNode G)
  h = run.steps.kept.lived.history

  pub ring : IsRingHistory any_step p k.orders (disks_of k library) h
  ring =
      rings_are_histories G p k.orders (disks_of k library) h k.course.plan.sound (is_ring G s library k scenario short run)

  module _ (c : ℕ) (small : c < p.cubs) where
    inside : c < node_count p
    inside = omega arith

    within : c < length (given G s library k scenario short run)
    within = subst (λ n. c < n) (sym (size G s library k scenario short run)) inside

    -- What it reads at a tick is what its course says.
    reads : (w : WhichLife) {b l : ℕ} → TickedAt p (life_in h w) c b l → l ≡ reading_of k.course c b
    reads w {b} {l} t =
        let e : ℕ = event_in h w c t.at in
        let done = within_run ring.run c inside w t.at t.done in
        let when : beat h c e ≡ b = beat_in h w c t.at ∙ ap (λ (i : Input Msg). (stamp_of i).beat) t.is in
        sym (ap (λ (i : Input Msg). (stamp_of i).reading) t.is) ∙ sym (reading_in h w c t.at)
        ∙ run.steps.kept.keeps.stamped c e within done ∙ ap (reading_of k.course c) when

    ticks_so : {b l : ℕ} → (facts_of p k.orders h).Ticked c b l → (facts_of p k.orders h).Ticked c b (reading_of k.course c b)
    ticks_so {b} {l} t =
        let is : l ≡ reading_of k.course c b = ⊎_elim (λ q. reads First q) (λ q. reads Later q) t in
        subst (λ n. (facts_of p k.orders h).Ticked c b n) is t

    -- One that died in its event of number i, and whose return is in the run, has returned, and has come to a tick since.
    module _ (i w b : ℕ) (low : i < h.count c) (dies : is_death (h.event c i) ≡ true) (back : back_of k.course c ≡ Some w)
        (by : w ≤ b) (early : b < k.course.beats) where
      not_last : i + 1 ≡ h.count c → ⊥
      not_last last =
          let all = complete G s library k scenario short run in
          let life : (past noted any_step h c i).life.back ≡ Some w =
          (along noted any_step (length (given G s library k scenario short run)) k.course.beats h all c within i).back
          ∙ ap (λ (x : Lifetime). x.back) (life_is G s library k scenario short run c within) ∙ back in
          let late = all.comes_back c i w within last dies life in
          omega arith

      returns : is_return (h.event c (i + 1)) ≡ true
      returns = ⊎_elim (λ last. absurd (not_last last)) (λ t. t) (ring.run.ended c i inside low dies)

      more : i + 1 < h.count c
      more = ⊎_elim (λ last. absurd (not_last last)) (λ less. less) (eq-or-lt_of_le (let z : i + 1 ≤ h.count c = omega arith in z))

      first : i + 1 ≡ first_events h c
      first =
          running.death_is k.course.plan.sound ring
          (record { small = small; at = i; done = low; death = dies; in_beat = refl })

      is_up : IsUp h c
      is_up j below death =
          let same = ring.run.once c j i inside below low death dies in
          let m = more in
          omega arith

      back_then : w ≡ beat h c (first_events h c)
      back_then =
          let there = back_is G s library k scenario short run c (i + 1) within more returns in
          let one : Some w ≡ Some (beat h c (i + 1)) = sym back ∙ there in
          let same : w ≡ beat h c (i + 1) = cc in
          same ∙ ap (beat h c) first

      behind_it : 0 < (later_lives_of h).count c
      behind_it =
          let m = more in
          let f = first in
          let is = back_then in
          ⊎_elim
          (λ (some : later_from h c < h.count c). omega arith)
          (λ (none : h.count c ≤ later_from h c).
          let all : h.count c ≡ later_from h c = omega arith in
          let ends = (complete G s library k scenario short run).until_end c within is_up in
          let opened = open_back ring.run c inside (omega arith) in
          let same : open_beat h c (h.count c) ≡ open_beat h c (later_from h c) = ap (open_beat h c) all in
          absurd (omega arith))
          (cases_lt (later_from h c) (h.count c))

      ended_since : Ended (facts_of p k.orders h) c b
      ended_since =
          let is = back_then in
          stays k.course.plan.sound ring (up_to G s library k scenario short run)
          (began_late k.course.plan.sound ring c small behind_it) (omega arith) early

    pub acts_ticks : (b : ℕ) → b < k.course.beats → EndsBeat (lifetime_of k.course c) b
        → (facts_of p k.orders h).Ticked c b (reading_of k.course c b)
    acts_ticks b early ends = ⊎_elim
        (λ (l : LivedTo (facts_of p k.orders h) c b). ticks_so l.ticked)
        (λ (d : DiedBy (facts_of p k.orders h) c b).
        let dead = d.died in
        let by = d.by in
        let when = dead.in_beat in
        let death = death_is G s library k scenario short run c dead.at inside dead.done dead.death in
        ⊎_elim
        (λ (none : death_of k.course c ≡ None).
        let z : None ≡ Some (beat h c dead.at) = sym none ∙ death in absurd (cc))
        (λ more. ⊎_elim
        (λ (q : (d : ℕ) × (death_of k.course c ≡ Some d) × (b < d)).
        let one : Some q.0 ≡ Some (beat h c dead.at) = sym q.1 ∙ death in
        let same : q.0 ≡ beat h c dead.at = cc in
        let less = q.2 in
        absurd (omega arith))
        (λ (q : (w : ℕ) × (back_of k.course c ≡ Some w) × (w ≤ b)).
        ticks_so (ended_since dead.at q.0 b dead.done dead.death q.1 q.2 early).ticked)
        more)
        (ends_as (death_of k.course c) (cut_of k.course c) (back_of k.course c) b ends))
        (running.ends k.course.plan.sound ring (up_to G s library k scenario short run) early small)
