-- How the events of nodes of any lives end, and when they happen.
use Rattle.std.proofs.Common.{◌≡◌, ℕ, ◌+◌, ◌<◌, ◌≤◌, List, [], ◌∷◌, ◌++◌, length, true, false}
use Rattle.std.proofs.Common.{Option, Some, None, refl, ap, sym, ◌∙◌, subst, arith, append_assoc, inl, inr}
use Rattle.std.specs.Prelude.{◌⊎◌}
use Rattle.tiger_base.specs.declared.number.Stamp.{Stamp}
use Rattle.tiger_base.specs.declared.message.Note.{Note}
use Rattle.slot_plan.specs.declared.params.Params.{Params}
use Rattle.slot_plan.specs.Times.{time_of}
use Rattle.link_timing.specs.Clock.{Clock}
use Rattle.node_kit.specs.Courses.{ReturnsLater}
use Rattle.node_kit.specs.Life.{Lifetime}
use Rattle.node_kit.specs.Steps.{Input, Deed}
use Rattle.run_facts.specs.Accounts.{open_after, AreHere, EndAt, event_at}
use Rattle.run_facts.specs.Accounts.{history_of, AreAccounted}
use Rattle.run_facts.specs.Events.{NodeEvent, stamp_at, is_death}
use Rattle.run_facts.specs.Events.{is_return}
use Rattle.run_facts.specs.Events.NodeEvent.{Returns}
use Rattle.run_facts.specs.Histories.{History, IsUp, IsBack, open_beat}
use Rattle.run_facts.specs.Timed.{death_within}
use Rattle.run_facts.proofs.Fronts.{lived}
use Rattle.run_facts.proofs.Indexed.{open-front, open-all, all-at, rising-at}
use Rattle.run_facts.proofs.Indexed.{counted-at}
use Rattle.run_facts.proofs.Timelines.{rising-counted}
use Rattle.run_lives.proofs.Around.{IsAround, around-of, end-of}
use Rattle.run_lives.proofs.Returning.{HasReturned, dies-before, returned-of, here-of, death-place, return-place}
use Rattle.run_lives.proofs.Returning.{event-next}
use Rattle.run_lives.proofs.Counting.{length-one}

-- What is known of nodes of any lives: the events of each, and each link's account.
pub record Known (M S : Type 0) : Type 0 where
  pub note : M → Note
  pub step : S → Input M → Deed M S
  pub p : Params
  pub when : ℕ → ℕ → Stamp
  pub death : ℕ → Option ℕ
  pub left : ℕ → Option ℕ
  pub back : ℕ → Option ℕ
  pub later : (n : ℕ) → ReturnsLater (death n) (back n)
  pub start : ℕ → Clock
  pub nodes : ℕ
  pub beats : ℕ
  pub first : ℕ → S
  pub lost : ℕ → ℕ
  pub events : ℕ → List (NodeEvent M)
  pub accounts : AreAccounted note step p when (λ n. lived (death n) (left n) (back n)) start nodes beats first lost
      events

module _ {M S : Type 0} (known : Known M S) where
  abbrev life : ℕ → Lifetime
  life n = lived (known.death n) (known.left n) (known.back n)

  abbrev h : History M S
  h = history_of known.first life known.lost known.events

  abbrev at : ℕ → ℕ → NodeEvent M
  at n i = event_at (known.events n) i

  abbrev again : ℕ → Option ℕ
  again n = death_within known.beats (known.back n)

  pub dated : (n b : ℕ) → (known.when n b).beat ≡ b
  dated n = (known.accounts.clock n).dated

  -- how the events of a node end
  pub end-at : (n : ℕ) → n < known.nodes → (o w : Option ℕ) → death_within known.beats (known.death n) ≡ o → again n ≡ w
      → EndAt (known.when n) known.beats o w (known.events n)
  end-at n low o w is there = subst (λ q. EndAt {M = M} (known.when n) known.beats o q (known.events n)) there
      (end-of (known.when n) known.p n (life n) known.beats o (known.events n) is (known.accounts.timeline n low))

  pub around : (n : ℕ) → n < known.nodes → (d : ℕ) (w : Option ℕ) → death_within known.beats (known.death n) ≡ Some d
      → again n ≡ w
      → IsAround (known.when n) known.beats d w (known.events n)
  around n low d w is there = around-of (known.when n) known.beats d w (known.events n) (dated n)
      (known.accounts.timeline n low).counted
      (end-at n low (Some d) w is there)

  abbrev pub two : (n : ℕ) → n < known.nodes → (w : ℕ) → again n ≡ Some w → (d : ℕ) × HasReturned
      (known.when n) known.beats d w (known.events n)
  two n low w there = returned-of (known.when n) known.p n (known.death n) (known.left n) (known.back n)
      (known.later n) (dated n) known.beats (known.events n)
      (known.accounts.timeline n low) w there

  -- it died in the beat of its death
  pub two-died : (n : ℕ) (low : n < known.nodes) (w : ℕ) (there : again n ≡ Some w)
      → death_within known.beats (known.death n) ≡ Some (two n low w there).0
  two-died n low w there = (dies-before known.beats (known.death n) (known.back n) w (known.later n) there).1

  pub here : (n : ℕ) → n < known.nodes → again n ≡ None → AreHere (known.events n)
  here n low there = here-of (known.when n) known.p n (known.death n) (known.left n) (known.back n) (known.later n)
      (dated n) known.beats (known.events n)
      (known.accounts.timeline n low) there

  -- when events happen
  pub in-beat : (n i : ℕ) → n < known.nodes → i < length (known.events n) → is_return (at n i) ≡ false
      → (stamp_at (at n i)).beat ≡ open_beat h n i
  in-beat n i low hi up =
      counted-at 0 (known.events n) i hi (known.accounts.timeline n low).counted up
      ∙ sym (open-front known.first life known.lost known.events n i (omega (arith, hi)))

  stamped-at : (n i : ℕ) → n < known.nodes → i < length (known.events n) → stamp_at (at n i) ≡ known.when n (stamp_at
      (at n i)).beat
  stamped-at n i low hi =
      all-at (λ e. stamp_at e ≡ known.when n (stamp_at e).beat) (known.events n) i hi
      (known.accounts.timeline n low).stamped

  pub rises : (n j i : ℕ) → n < known.nodes → j ≤ i → i < length (known.events n)
      → (stamp_at (at n j)).reading ≤ (stamp_at (at n i)).reading
  rises n j i low before hi =
      let up = rising-at (λ e. (stamp_at e).beat) (known.events n) j i before hi
      (rising-counted 0 (known.events n) (known.accounts.timeline n low).counted).1 in
      let one = ap (λ (s : Stamp). s.reading) (stamped-at n j low (omega (arith, before, hi))) in
      let other = ap (λ (s : Stamp). s.reading) (stamped-at n i low hi) in
      let grows = (known.accounts.clock n).grows (stamp_at (at n j)).beat (stamp_at (at n i)).beat up in
      omega (arith, one, other, grows)

  pub shown : (n i : ℕ) → n < known.nodes → i < length (known.events n)
      → (time_of known.p (stamp_at (at n i)).beat ≤ (stamp_at (at n i)).reading)
      × ((stamp_at (at n i)).reading ≤ time_of known.p (stamp_at (at n i)).beat + known.p.skew)
  shown n i low hi =
      let one = ap (λ (s : Stamp). s.reading) (stamped-at n i low hi) in
      let down = (known.accounts.clock n).low (stamp_at (at n i)).beat in
      let up = (known.accounts.clock n).high (stamp_at (at n i)).beat in
      (omega (arith, one, down), omega (arith, one, up))

  -- where its death is
  abbrev DeathIs : ℕ → ℕ → Type 0
  DeathIs n k = (i : ℕ) → i < length (known.events n) → is_death (at n i) ≡ true → i ≡ k

  death-by : (n : ℕ) → n < known.nodes → (o : Option ℕ) → death_within known.beats (known.death n) ≡ o →
      (k : ℕ) × DeathIs n k
  death-by n low None is = (
    0,
    λ i hi died.
        let alive = all-at (λ e. is_death e ≡ false) (known.events n) i hi (end-at n low None (again n) is refl).0 in
        let q : true ≡ false = sym died ∙ alive in absurd (cc),
  )
  death-by n low (Some d) is =
      let a = around n low d (again n) is refl in (
        length a.front,
        λ i hi died. subst (λ es. i < length es → is_death (event_at es i) ≡ true → i ≡ length a.front)
            (sym a.parts) (death-place a.front a.more a.last i a.alive a.alive_more) hi died,
      )

  pub death-is : (n : ℕ) → n < known.nodes → (k : ℕ) × DeathIs n k
  death-is n low = death-by n low (death_within known.beats (known.death n)) refl

  -- behind its death nothing comes, or its return
  ended-by : (n i : ℕ) → n < known.nodes → i < length (known.events n) → is_death (at n i) ≡ true
      → (o w : Option ℕ) → death_within known.beats (known.death n) ≡ o → again n ≡ w
      → (i + 1 ≡ length (known.events n)) ⊎ (is_return (at n (i + 1)) ≡ true)
  ended-by n i low hi died None w is there =
      let alive = all-at (λ e. is_death e ≡ false) (known.events n) i hi (end-at n low None w is there).0 in
      let q : true ≡ false = sym died ∙ alive in absurd (cc)
  ended-by n i low hi died (Some d) None is there =
      let a = around n low d None is there in
      let parts : known.events n ≡ a.front ++ a.last ∷ [] = a.parts ∙ ap (λ qs. a.front ++ a.last ∷ qs) a.go_on in
      let place = subst (λ es. i < length es → is_death (event_at es i) ≡ true → i ≡ length a.front) (sym parts)
      (death-place a.front [] a.last i a.alive tt) hi died in
      let long = ap length parts ∙ length-one a.front a.last in
      inl (omega (arith, place, long))
  ended-by n i low hi died (Some d) (Some w) is there =
      let t = (two n low w there).1 in
      let one = t.front ++ t.last ∷ [] in
      let place = subst (λ es. i < length es → is_death (event_at es i) ≡ true → i ≡ length t.front)
      (sym (t.parts ∙ append_assoc t.front (t.last ∷ []) (Returns (known.when n w) ∷ t.rest)))
      (death-place t.front (Returns (known.when n w) ∷ t.rest) t.last i t.alive (refl, t.alive_rest)) hi died in
      let long = length-one t.front t.last in
      let next : i + 1 ≡ length one = omega (arith, place, long) in
      let back_is : at n (length one) ≡ Returns (known.when n w) =
      ap (λ es. event_at es (length one)) t.parts ∙ event-next one t.rest (Returns (known.when n w)) in
      inr (ap (λ k. is_return (at n k)) next ∙ ap (λ e. is_return e) back_is)

  pub ended : (n i : ℕ) → n < known.nodes → i < length (known.events n) → is_death (at n i) ≡ true
      → (i + 1 ≡ length (known.events n)) ⊎ (is_return (at n (i + 1)) ≡ true)
  ended n i low hi died = ended-by n i low hi died (death_within known.beats (known.death n)) (again n) refl refl

  -- a return is behind it
  pub returned-by : (n i : ℕ) → n < known.nodes → i < length (known.events n) → is_return (at n i) ≡ true
      → (w : Option ℕ) → again n ≡ w → IsBack h n i
  returned-by n i low hi up None there =
      let q : true ≡ false = sym up ∙ all-at (λ e. is_return e ≡ false) (known.events n) i hi (here n low there) in
      absurd (cc)
  returned-by n i low hi up (Some w) there =
      let found = two n low w there in
      let d = found.0 in
      let t = found.1 in
      let one = t.front ++ t.last ∷ [] in
      let place = subst (λ es. i < length es → is_return (event_at es i) ≡ true → i ≡ length one) (sym t.parts)
      (return-place one t.rest (Returns (known.when n w)) i t.here_first t.here_rest) hi up in
      let long = length-one t.front t.last in
      let last_is : at n (length t.front) ≡ t.last =
      ap (λ es. event_at es (length t.front)) (t.parts
      ∙ append_assoc t.front (t.last ∷ []) (Returns (known.when n w) ∷ t.rest))
      ∙ event-next t.front (Returns (known.when n w) ∷ t.rest) t.last in
      let back_is : at n i ≡ Returns (known.when n w) = ap (λ k. at n k) place
      ∙ ap (λ es. event_at es (length one)) t.parts ∙ event-next one t.rest (Returns (known.when n w)) in
      let then_died : (stamp_at (at n (length t.front))).beat ≡ d =
      ap (λ e. (stamp_at e).beat) last_is ∙ ap (λ (s : Stamp). s.beat) t.at ∙ dated n d in
      let then_back : (stamp_at (at n i)).beat ≡ w = ap (λ e. (stamp_at e).beat) back_is ∙ dated n w in
      let apart = t.apart in
      record {
        last = length t.front;
        next = place ∙ long;
        died = ap (λ e. is_death e) last_is ∙ t.died;
        apart = omega (arith, then_died, then_back, apart);
      }

  -- a node that is up has ended all beats
  up-by : (n : ℕ) → n < known.nodes → IsUp h n → (o w : Option ℕ) → death_within known.beats (known.death n) ≡ o
      → again n ≡ w
      → open_after 0 (known.events n) ≡ known.beats
  up-by n low up None w is there = (end-at n low None w is there).2
  up-by n low up (Some d) None is there =
      let a = around n low d None is there in
      let parts : known.events n ≡ a.front ++ a.last ∷ [] = a.parts ∙ ap (λ qs. a.front ++ a.last ∷ qs) a.go_on in
      let long = ap length parts ∙ length-one a.front a.last in
      let died : is_death (at n (length a.front)) ≡ true =
      ap (λ es. is_death (event_at es (length a.front))) parts ∙ ap (λ e. is_death e) (event-next a.front [] a.last)
      ∙ a.died in
      let more = up (length a.front) (omega (arith, long)) died in
      absurd (omega (arith, long, more))
  up-by n low up (Some d) (Some w) is there = (two n low w there).1.opens

  pub up-total : (n : ℕ) → n < known.nodes → IsUp h n → open_beat h n (length (known.events n)) ≡ known.beats
  up-total n low up = open-all known.first life known.lost known.events n
      ∙ up-by n low up (death_within known.beats (known.death n)) (again n) refl refl

  pub level : (n m i : ℕ) → n < known.nodes → m < known.nodes → i < length (known.events n) → IsUp h m
      → (stamp_at (at n i)).beat ≤ open_beat h m (length (known.events m))
  level n m i low low_m hi up =
      let early = all-at (λ e. (stamp_at e).beat < known.beats) (known.events n) i hi
      (known.accounts.timeline n low).early in
      let theirs = up-total m low_m up in
      omega (arith, early, theirs)
