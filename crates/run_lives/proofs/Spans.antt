-- One beat more of a node's events, whatever befalls it in that beat.
use Rattle.std.proofs.Common.{◌≡◌, ℕ, ◌+◌, ◌<◌, ◌≤◌, List, [], ◌∷◌, ◌++◌, true, false, Option, Some, None, refl, ap}
use Rattle.std.proofs.Common.{sym}
use Rattle.std.proofs.Common.{◌∙◌, arith, append_assoc}
use Rattle.std.specs.List.{AllByRecursion}
use Rattle.tiger_base.specs.declared.number.Stamp.{Stamp}
use Rattle.slot_plan.specs.declared.params.Params.{Params}
use Rattle.node_kit.specs.Life.{Lifetime}
use Rattle.run_facts.specs.Accounts.{open_after, AreCounted, AreAlive, AreHere, IsLed, AreInTurn, LivesBy, EndAt}
use Rattle.run_facts.specs.Accounts.{IsTimeline}
use Rattle.run_facts.specs.Events.{NodeEvent, stamp_at, is_death, is_return}
use Rattle.run_facts.specs.Events.NodeEvent.{Returns}
use Rattle.run_facts.specs.Timed.{death_within}
use Rattle.run_facts.proofs.Rows.{all-append, all-weaker, all-both}
use Rattle.run_facts.proofs.Timelines.{counted-append, open-append, turn-append, apart-all}

module _ {M : Type 0} (when : ℕ → Stamp) (p : Params) (n : ℕ) (life : Lifetime) (dated : (b : ℕ) → (when b).beat ≡ b)
    (next : ℕ) where
  -- events of a beat, if a given beat is open before them
  pub record InBeat (since : ℕ) (new : List (NodeEvent M)) : Type 0 where
    pub stamped : AllByRecursion (λ (e : NodeEvent M). stamp_at e ≡ when next) new
    pub counted : AreCounted since new
    pub led : AllByRecursion (IsLed p n) new
    pub in_turn : AreInTurn new
    pub lived : AllByRecursion (LivesBy life) new

  pub beat-more : (es new : List (NodeEvent M)) → InBeat (open_after 0 es) new → IsTimeline when p n life next es
      → EndAt when (next + 1) (death_within (next + 1) life.death) (death_within (next + 1) life.back) (es ++ new)
      → IsTimeline when p n life (next + 1) (es ++ new)
  beat-more es new are timeline ends =
      let now = dated next in
      let beats : AllByRecursion (λ (e : NodeEvent M). (stamp_at e).beat ≡ next) new =
      all-weaker (λ (e : NodeEvent M). stamp_at e ≡ when next) (λ e. (stamp_at e).beat ≡ next) new
      (λ e h. ap (λ (s : Stamp). s.beat) h ∙ now) are.stamped in
      record {
        stamped = all-append (λ (e : NodeEvent M). stamp_at e ≡ when (stamp_at e).beat) es new timeline.stamped
            (all-weaker (λ (e : NodeEvent M). (stamp_at e ≡ when next) × ((stamp_at e).beat ≡ next))
            (λ e. stamp_at e ≡ when (stamp_at e).beat) new (λ e h. h.0 ∙ sym (ap when h.1))
            (all-both (λ (e : NodeEvent M). stamp_at e ≡ when next) (λ e. (stamp_at e).beat ≡ next) new are.stamped
            beats));
        early = all-append (λ (e : NodeEvent M). (stamp_at e).beat < next + 1) es new
            (all-weaker (λ (e : NodeEvent M). (stamp_at e).beat < next) (λ e. (stamp_at e).beat < next + 1) es
            (λ e h. omega (arith, h)) timeline.early)
            (all-weaker (λ (e : NodeEvent M). (stamp_at e).beat ≡ next) (λ e. (stamp_at e).beat < next + 1) new
            (λ e h. omega (arith, h)) beats);
        counted = counted-append 0 es new timeline.counted are.counted;
        led = all-append (IsLed p n) es new timeline.led are.led;
        in_turn = turn-append es new timeline.in_turn are.in_turn (apart-all next es new timeline.early beats);
        lived = all-append (LivesBy life) es new timeline.lived are.lived;
        ends = ends;
      }

  -- a beat that the node ends, before its death
  pub ends-alive : (back later : Option ℕ) (es new : List (NodeEvent M)) → EndAt when next None back es → AreAlive new
      → AreHere new → open_after next new ≡ next + 1 → EndAt when (next + 1) None later (es ++ new)
  ends-alive back later es new old alive here ticked = (
    all-append (λ (e : NodeEvent M). is_death e ≡ false) es new old.0 alive,
    all-append (λ (e : NodeEvent M). is_return e ≡ false) es new old.1 here,
    open-append 0 es new ∙ ap (λ t. open_after t new) old.2 ∙ ticked,
  )

  -- the beat of its death
  pub ends-dead : (back : Option ℕ) (es early : List (NodeEvent M)) (last : NodeEvent M) → EndAt when next None back es
      → AreAlive early → AreHere early → open_after next early ≡ next → is_death last ≡ true → stamp_at last ≡ when next
      → EndAt when (next + 1) (Some next) None (es ++ (early ++ last ∷ []))
  ends-dead back es early last old alive here still died at = (
    es ++ early,
    last,
    [],
    sym (append_assoc es early (last ∷ [])),
    all-append (λ (e : NodeEvent M). is_death e ≡ false) es early old.0 alive,
    all-append (λ (e : NodeEvent M). is_return e ≡ false) es early old.1 here,
    open-append 0 es early ∙ ap (λ t. open_after t early) old.2 ∙ still,
    died,
    at,
    refl,
  )

  -- a beat in which it is dead
  pub ends-gone : (death : ℕ) (es : List (NodeEvent M)) → EndAt when next (Some death) None es
      → EndAt when (next + 1) (Some death) None es
  ends-gone death es old = old

  -- the beat of its return
  pub ends-back : (death : ℕ) (es new : List (NodeEvent M)) → EndAt when next (Some death) None es → death + 2 ≤ next
      → AreAlive new → AreHere new → open_after next new ≡ next + 1
      → EndAt when (next + 1) (Some death) (Some next) (es ++ Returns (when next) ∷ new)
  ends-back death es new old apart alive here ticked =
      let whole : es ++ Returns (when next) ∷ new ≡ old.0 ++ old.1 ∷ (Returns (when next) ∷ new) =
      ap (λ qs. qs ++ Returns (when next) ∷ new) (old.3 ∙ ap (λ q. old.0 ++ old.1 ∷ q) old.9)
      ∙ append_assoc old.0 (old.1 ∷ []) (Returns (when next) ∷ new) in (
        old.0,
        old.1,
        Returns (when next) ∷ new,
        whole,
        old.4,
        old.5,
        old.6,
        old.7,
        old.8,
        (new, refl, alive, here, ticked, apart),
      )

  -- and a beat behind it
  pub ends-up : (death back : ℕ) (es new : List (NodeEvent M)) → EndAt when next (Some death) (Some back) es
      → AreAlive new → AreHere new → open_after next new ≡ next + 1
      → EndAt when (next + 1) (Some death) (Some back) (es ++ new)
  ends-up death back es new old alive here ticked =
      let rest = old.9.0 in
      let whole : es ++ new ≡ old.0 ++ old.1 ∷ (Returns (when back) ∷ (rest ++ new)) =
      ap (λ qs. qs ++ new) (old.3 ∙ ap (λ q. old.0 ++ old.1 ∷ q) old.9.1)
      ∙ append_assoc old.0 (old.1 ∷ (Returns (when back) ∷ rest)) new in (
        old.0,
        old.1,
        Returns (when back) ∷ (rest ++ new),
        whole,
        old.4,
        old.5,
        old.6,
        old.7,
        old.8,
        (
          rest ++ new,
          refl,
          all-append (λ (e : NodeEvent M). is_death e ≡ false) rest new old.9.2 alive,
          all-append (λ (e : NodeEvent M). is_return e ≡ false) rest new old.9.3 here,
          open-append back rest new ∙ ap (λ t. open_after t new) old.9.4 ∙ ticked,
          old.9.5,
        ),
      )
