-- One beat more of a node's events, for any life: it acts, its death cuts it off, it dies, it is dead, or it returns.
use Rattle.std.proofs.Common.{◌≡◌, ℕ, suc, ◌+◌, ◌<◌, ◌≤◌, List, [], ◌∷◌, ◌++◌, true, false, not, Option, Some, None}
use Rattle.std.proofs.Common.{refl}
use Rattle.std.proofs.Common.{ap, sym, ◌∙◌, subst, arith}
use Rattle.std.specs.Prelude.{is_some}
use Rattle.std.specs.List.{AllByRecursion}
use Rattle.tiger_base.specs.declared.number.Stamp.{Stamp}
use Rattle.slot_plan.specs.declared.params.Params.{Params}
use Rattle.node_kit.specs.Life.{Lifetime, acts, dies, returns, ends_in}
use Rattle.node_kit.specs.Steps.{Input, stamp_of}
use Rattle.node_kit.specs.Steps.Input.{Tick}
use Rattle.run_facts.specs.Accounts.{open_after, AreCounted, AreAlive, AreHere, IsLed, AreInTurn, LivesBy, EndAt}
use Rattle.run_facts.specs.Accounts.{IsInTurn, IsTakeAt, IsTimeline}
use Rattle.run_facts.specs.Events.{NodeEvent, stamp_at, is_death, is_return}
use Rattle.run_facts.specs.Events.NodeEvent.{Does, Ends, Dies, Returns}
use Rattle.run_facts.specs.Timed.{death_within}
use Rattle.run_facts.proofs.Fronts.{lived}
use Rattle.run_lives.proofs.Befalls.{IsFirst, IsLast, IsGone, IsUpAgain}
use Rattle.run_facts.proofs.Rows.{all-append, all-weaker}
use Rattle.run_lives.proofs.Spans.{InBeat, beat-more, ends-alive, ends-dead, ends-gone, ends-back, ends-up}
use Rattle.run_facts.proofs.Timelines.{counted-append, open-append, turn-append, take-stamp, take-lives, takes-open}
use Rattle.run_facts.proofs.Timelines.{takes-counted, tick-turn}

module _ {M : Type 0} (when : ℕ → Stamp) (p : Params) (n : ℕ) (death left back : Option ℕ)
    (dated : (b : ℕ) → (when b).beat ≡ b) (next : ℕ) (takes : List (NodeEvent M))
    (taken : AllByRecursion (IsTakeAt (when next) p n) takes) (turn : AreInTurn takes) where
  abbrev pub life : Lifetime
  life = lived death left back

  -- the events of a beat in which it acts
  abbrev pub ticking : List (NodeEvent M)
  ticking = takes ++ Does (Tick (when next)) ∷ []

  alive-ticking : AreAlive ticking
  alive-ticking = all-append (λ (e : NodeEvent M). is_death e ≡ false) takes (Does (Tick (when next)) ∷ [])
      (all-weaker (IsTakeAt (when next) p n) (λ e. is_death e ≡ false) takes
      (λ e h. (take-stamp (when next) p n e h).2) taken) (refl, tt)

  here-ticking : AreHere ticking
  here-ticking = all-append (λ (e : NodeEvent M). is_return e ≡ false) takes (Does (Tick (when next)) ∷ [])
      (all-weaker (IsTakeAt (when next) p n) (λ e. is_return e ≡ false) takes
      (λ e h. (take-stamp (when next) p n e h).4) taken) (refl, tt)

  open-ticking : open_after next ticking ≡ next + 1
  open-ticking =
      let last : suc next ≡ next + 1 = omega arith in
      open-append next takes (Does (Tick (when next)) ∷ []) ∙ ap suc (takes-open (when next) p n next takes taken)
      ∙ last

  in-ticking : acts life next ≡ true → InBeat {M = M} when p n life dated next next ticking
  in-ticking live =
      let now = dated next in
      let none = takes-open (when next) p n next takes taken in
      record {
        stamped = all-append (λ (e : NodeEvent M). stamp_at e ≡ when next) takes (Does (Tick (when next)) ∷ [])
            (all-weaker (IsTakeAt (when next) p n) (λ e. stamp_at e ≡ when next) takes
            (λ e h. (take-stamp (when next) p n e h).0) taken) (refl, tt);
        counted = counted-append next takes (Does (Tick (when next)) ∷ [])
            (subst (λ k. AreCounted k takes) now (takes-counted (when next) p n takes taken)) (now ∙ sym none, tt);
        led = all-append (IsLed p n) takes (Does (Tick (when next)) ∷ [])
            (all-weaker (IsTakeAt (when next) p n) (IsLed p n) takes (λ e h. (take-stamp (when next) p n e h).3) taken)
            (tt, tt);
        in_turn = turn-append takes (Does (Tick (when next)) ∷ []) turn (tt, tt) (tick-turn (when next) takes);
        lived = all-append (LivesBy life) takes (Does (Tick (when next)) ∷ [])
            (all-weaker (IsTakeAt (when next) p n) (LivesBy life) takes
            (λ e h. take-lives (when next) p n life e (ap (acts life) now ∙ live) h) taken)
            (ap (acts life) now ∙ live, tt);
      }

  -- in its first life
  pub step-first : (es : List (NodeEvent M)) → IsFirst death left back next → IsTimeline when p n life next es
      → IsTimeline when p n life (next + 1) (es ++ ticking)
  step-first es is timeline =
      let old : EndAt {M = M} when next None (death_within next back) es =
      subst (λ o. EndAt {M = M} when next o (death_within next back) es) is.before timeline.ends in
      let total : open_after 0 es ≡ next = old.2 in
      beat-more when p n life dated next es ticking
      (subst (λ k. InBeat {M = M} when p n life dated next k ticking) (sym total) (in-ticking is.acts_then)) timeline
      (subst (λ o. EndAt {M = M} when (next + 1) o (death_within (next + 1) back) (es ++ ticking)) (sym is.after)
      (ends-alive when p n life dated next (death_within next back) (death_within (next + 1) back) es ticking old
      alive-ticking here-ticking open-ticking))

  -- dead
  pub step-gone : (es : List (NodeEvent M)) → IsGone death left back next → IsTimeline when p n life next es
      → IsTimeline when p n life (next + 1) es
  step-gone es is timeline = record {
    stamped = timeline.stamped;
    early = all-weaker (λ (e : NodeEvent M). (stamp_at e).beat < next) (λ e. (stamp_at e).beat < next + 1) es
        (λ e h. omega (arith, h)) timeline.early;
    counted = timeline.counted;
    led = timeline.led;
    in_turn = timeline.in_turn;
    lived = timeline.lived;
    ends =
        subst (λ o. EndAt {M = M} when (next + 1) o (death_within (next + 1) back) es) (sym is.after)
        (subst (λ o. EndAt {M = M} when (next + 1) (Some is.died) o es) (sym is.still)
        (ends-gone when p n life dated next is.died es
        (subst (λ o. EndAt {M = M} when next (Some is.died) o es) is.away
        (subst (λ o. EndAt {M = M} when next o (death_within next back) es) is.before timeline.ends))));
  }

  -- returned before
  pub step-up : (es : List (NodeEvent M)) (is : IsUpAgain death left back next) → death_within next back ≡ Some is.again
      → open_after 0 es ≡ next → IsTimeline when p n life next es
      → IsTimeline when p n life (next + 1) (es ++ ticking)
  step-up es is was total timeline =
      let old : EndAt {M = M} when next (Some is.died) (Some is.again) es =
      subst (λ o. EndAt {M = M} when next (Some is.died) o es) was
      (subst (λ o. EndAt {M = M} when next o (death_within next back) es) is.before timeline.ends) in
      beat-more when p n life dated next es ticking
      (subst (λ k. InBeat {M = M} when p n life dated next k ticking) (sym total) (in-ticking is.acts_then)) timeline
      (subst (λ o. EndAt {M = M} when (next + 1) o (death_within (next + 1) back) (es ++ ticking)) (sym is.after)
      (subst (λ o. EndAt {M = M} when (next + 1) (Some is.died) o (es ++ ticking)) (sym is.is_back)
      (ends-up when p n life dated next is.died is.again es ticking old alive-ticking here-ticking open-ticking)))

  -- returns in this beat
  none-turn : (e : NodeEvent M) (es : List (NodeEvent M)) → is_return e ≡ true → AllByRecursion (IsInTurn e) es
  none-turn (Does i) es h = absurd (cc)
  none-turn (Ends i k) es h = absurd (cc)
  none-turn (Dies s) es h = absurd (cc)
  none-turn (Returns s) [] h = tt
  none-turn (Returns s) (f ∷ fs) h = (tt, none-turn (Returns s) fs h)

  pub step-back : (es : List (NodeEvent M)) (is : IsUpAgain death left back next) → is.again ≡ next
      → returns life next ≡ true → death_within next back ≡ None → open_after 0 es ≤ next
      → IsTimeline when p n life next es
      → IsTimeline when p n life (next + 1) (es ++ Returns (when next) ∷ ticking)
  step-back es is same returned was total timeline =
      let now = dated next in
      let apart = is.apart in
      let new : List (NodeEvent M) = Returns (when next) ∷ ticking in
      let old : EndAt {M = M} when next (Some is.died) None es =
      subst (λ o. EndAt {M = M} when next (Some is.died) o es) was
      (subst (λ o. EndAt {M = M} when next o (death_within next back) es) is.before timeline.ends) in
      let tick = in-ticking is.acts_then in
      let ends : EndAt {M = M} when (next + 1) (Some is.died) (Some next) (es ++ new) =
      ends-back when p n life dated next is.died es ticking old (omega (arith, apart, same)) alive-ticking here-ticking
      open-ticking in
      beat-more when p n life dated next es new
      (record {
        stamped = (refl, tick.stamped);
        counted = (omega (arith, now, total), subst (λ k. AreCounted k ticking) (sym now) tick.counted);
        led = (tt, tick.led);
        in_turn = (none-turn (Returns (when next)) ticking refl, tick.in_turn);
        lived = (ap (returns life) now ∙ returned, tick.lived);
      }) timeline
      (subst (λ o. EndAt {M = M} when (next + 1) o (death_within (next + 1) back) (es ++ new)) (sym is.after)
      (subst (λ o. EndAt {M = M} when (next + 1) (Some is.died) o (es ++ new)) (sym is.is_back)
      (subst (λ w. EndAt {M = M} when (next + 1) (Some is.died) (Some w) (es ++ new)) (sym same) ends)))

  -- dies apart from its events
  pub step-dies : (es : List (NodeEvent M)) → IsLast death left back next → is_some left ≡ false
      → IsTimeline when p n life next es → IsTimeline when p n life (next + 1) (es ++ Dies (when next) ∷ [])
  step-dies es is uncut timeline =
      let now = dated next in
      let end : NodeEvent M = Dies (when next) in
      let old : EndAt {M = M} when next None (death_within next back) es =
      subst (λ o. EndAt {M = M} when next o (death_within next back) es) is.before timeline.ends in
      let total : open_after 0 es ≡ next = old.2 in
      let idle : acts life next ≡ false = is.acts_then ∙ uncut in
      let dead : dies life next ≡ true = is.dies_then ∙ ap not uncut in
      beat-more when p n life dated next es (end ∷ [])
      (record {
        stamped = (refl, tt);
        counted = (now ∙ sym total, tt);
        led = (tt, tt);
        in_turn = (tt, tt);
        lived = ((ap (acts life) now ∙ idle, ap (dies life) now ∙ dead), tt);
      }) timeline
      (subst (λ o. EndAt {M = M} when (next + 1) o (death_within (next + 1) back) (es ++ end ∷ [])) (sym is.after)
      (subst (λ o. EndAt {M = M} when (next + 1) (Some next) o (es ++ end ∷ [])) (sym is.later)
      (ends-dead when p n life dated next (death_within next back) es [] end old tt tt refl refl refl)))

  -- its death cuts it off: the last event is the one in which its death comes
  pub step-cut : (es : List (NodeEvent M)) (input : Input M) (sends : ℕ) → stamp_of input ≡ when next
      → IsLed p n (Ends input sends) → AreInTurn (takes ++ Ends input sends ∷ []) → IsLast death left back next
      → is_some left ≡ true → IsTimeline when p n life next es
      → IsTimeline when p n life (next + 1) (es ++ (takes ++ Ends input sends ∷ []))
  step-cut es input sends at leads turns is cut timeline =
      let now = dated next in
      let last : NodeEvent M = Ends input sends in
      let old : EndAt {M = M} when next None (death_within next back) es =
      subst (λ o. EndAt {M = M} when next o (death_within next back) es) is.before timeline.ends in
      let total : open_after 0 es ≡ next = old.2 in
      let none = takes-open (when next) p n next takes taken in
      let beat : (stamp_of input).beat ≡ next = ap (λ (s : Stamp). s.beat) at ∙ now in
      let live : acts life next ≡ true = is.acts_then ∙ cut in
      let ended : ends_in life next ≡ true = is.ends_then ∙ cut in
      let all : InBeat {M = M} when p n life dated next next (takes ++ last ∷ []) = record {
        stamped = all-append (λ (e : NodeEvent M). stamp_at e ≡ when next) takes (last ∷ [])
            (all-weaker (IsTakeAt (when next) p n) (λ e. stamp_at e ≡ when next) takes
            (λ e h. (take-stamp (when next) p n e h).0) taken) (at, tt);
        counted = counted-append next takes (last ∷ [])
            (subst (λ k. AreCounted k takes) now (takes-counted (when next) p n takes taken)) (beat ∙ sym none, tt);
        led = all-append (IsLed p n) takes (last ∷ [])
            (all-weaker (IsTakeAt (when next) p n) (IsLed p n) takes (λ e h. (take-stamp (when next) p n e h).3) taken)
            (leads, tt);
        in_turn = turns;
        lived = all-append (LivesBy life) takes (last ∷ [])
            (all-weaker (IsTakeAt (when next) p n) (LivesBy life) takes
            (λ e h. take-lives (when next) p n life e (ap (acts life) now ∙ live) h) taken)
            ((ap (acts life) beat ∙ live, ap (ends_in life) beat ∙ ended), tt);
      } in
      beat-more when p n life dated next es (takes ++ last ∷ [])
      (subst (λ k. InBeat {M = M} when p n life dated next k (takes ++ last ∷ [])) (sym total) all) timeline
      (subst (λ o. EndAt {M = M} when (next + 1) o (death_within (next + 1) back) (es ++ (takes ++ last ∷ [])))
      (sym is.after)
      (subst (λ o. EndAt {M = M} when (next + 1) (Some next) o (es ++ (takes ++ last ∷ []))) (sym is.later)
      (ends-dead when p n life dated next (death_within next back) es takes last old
      (all-weaker (IsTakeAt (when next) p n) (λ (e : NodeEvent M). is_death e ≡ false) takes
      (λ e h. (take-stamp (when next) p n e h).2) taken)
      (all-weaker (IsTakeAt (when next) p n) (λ (e : NodeEvent M). is_return e ≡ false) takes
      (λ e h. (take-stamp (when next) p n e h).4) taken)
      none refl at)))
