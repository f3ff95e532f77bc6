-- The next event happens to the machine, which is then beside the numbers behind it.
use Rattle.std.proofs.Common.{◌≡◌, ℕ, suc, ◌+◌, ◌<◌, ◌≤◌, List, [], ◌∷◌, ◌++◌, true, false, Some, None, refl, ap, sym, ◌∙◌, subst, arith, ⊎_elim}
use Rattle.std.specs.Prelude.{slice_get, option_map, ◌==◌, if◌then◌else◌}
use Rattle.std.specs.List.{AllByRecursion}
use Rattle.std.proofs.lemmas.Option.{slice_get_within}
use Rattle.std.proofs.lemmas.Bool.{cases_eq, eq-eqb, ne_eqb}
use Rattle.tiger_base.specs.declared.message.Note.{Note}
use Rattle.slot_plan.specs.declared.params.Params.{Params}
use Rattle.node_kit.specs.Steps.{Input, Deed, IsAllowed}
use Rattle.run_facts.specs.Events.{NodeEvent, Past, is_death, is_return, opening, after_all, outs_of, stamp_at}
use Rattle.run_facts.specs.Events.NodeEvent.{Does, Ends, Dies, Returns}
use Rattle.run_facts.specs.Accounts.{IsOpen}
use Rattle.run_facts.specs.Histories.{History, IsRun, beat, past}
use Rattle.run_facts.proofs.Listed.{listed, listed-past}
use Rattle.ring_world.specs.declared.event.Event.{Event}
use Rattle.ring_world.specs.Machine.{Machine, Being, undying, node_event, lived, happened, happens, moved}
use Rattle.ring_world.specs.Faults.{fault_of, IsEventOf}
use Rattle.ring_world.specs.Laws.{IsPlace}
use Rattle.ring_world.specs.Merging.{added, act_of, told_as}
use Rattle.ring_world.proofs.Accepting.{some-same}
use Rattle.ring_world.proofs.Lists.{each-get}
use Rattle.ring_world.proofs.Moving.{IsMove, holds-moved}
use Rattle.ring_world.proofs.Steps.{MayLive, IsDue}
use Rattle.kept_worlds.specs.Merges.{MayHappen}
use Rattle.kept_worlds.proofs.Lifeless.{all-twin, outs-twin}
use Rattle.kept_worlds.proofs.Numbers.{listed-more}
use Rattle.kept_worlds.proofs.Points.{anywhere, IsLatest, IsAt, IsNext, own, own-at, own-dead, own-done, own-lives, own-ticked, own-undied, own-read, reached, none-of_act}
use Rattle.kept_worlds.proofs.Ready.{ready}

-- an event of a node that is not dead, unless it returns, and has never died, if it dies
may-live : {M S : Type 0} (b : Being S) (x : NodeEvent M) → (is_return x ≡ false → b.dead ≡ false)
    → (is_death x ≡ true → b.died ≡ None)
    → (is_return x ≡ true → (b.dead ≡ true) × (d : ℕ) × (b.died ≡ Some d) × (d + 2 ≤ (stamp_at x).beat)) → MayLive b x
may-live b (Does i) up undied dead = up refl
may-live b (Ends i sends) up undied dead = (up refl, undied refl)
may-live b (Dies stamp) up undied dead = (up refl, undied refl)
may-live b (Returns stamp) up undied dead = dead refl

-- an event in the open beat, and a return in that or a later one
pub may-open : {M : Type 0} (t : ℕ) (x : NodeEvent M) → (is_return x ≡ false → t ≡ (stamp_at x).beat) → t ≤ (stamp_at x).beat
    → IsOpen t x
may-open t (Does i) now low = sym (now refl)
may-open t (Ends i sends) now low = sym (now refl)
may-open t (Dies stamp) now low = sym (now refl)
may-open t (Returns stamp) now low = low

-- the numbers behind the next event of node n
abbrev pub beyond : ℕ → (ℕ → ℕ) → ℕ → ℕ
beyond n at k = if k == n then suc (at k) else at k

module _ {M S : Type 0} (note : M → Note) (step : S → Input M → Deed M S) (p : Params) (nodes beats : ℕ) (h : History M S)
    (place : IsPlace p nodes beats) (run : IsRun note step p nodes h) (may : MayHappen p nodes beats h) where
  -- an event of node n is no fault, and behind it the machine is beside the next numbers
  pub record IsStep (m : Machine M S) (es : ℕ → List (NodeEvent M)) (at : ℕ → ℕ) (n : ℕ) (y : NodeEvent M) : Type 0 where
    pub known : IsEventOf p nodes beats (told_as h.before (es n) (record { node = n; event = y }))
    pub free : fault_of p m (told_as h.before (es n) (record { node = n; event = y })) ≡ None
    pub dated : (happens note step p m (told_as h.before (es n) (record { node = n; event = y }))).beat ≡ (stamp_at y).beat
    pub point : IsAt note step p nodes beats h place run may
        (happens note step p m (told_as h.before (es n) (record { node = n; event = y }))) (added n y es) (beyond n at)

  module _ (m : Machine M S) (es : ℕ → List (NodeEvent M)) (at : ℕ → ℕ)
      (point : IsAt note step p nodes beats h place run may m es at)
      (n : ℕ) (next : IsNext note step p nodes beats h place run may m at n) where
    abbrev x : NodeEvent M
    x = h.event n (at n)

    abbrev e : Event
    e = told_as h.before (es n) (record { node = n; event = x })

    abbrev b : Being S
    b = own note step p nodes beats h place run may m es at point n next

    b-at : slice_get m.beings n ≡ Some b
    b-at = own-at note step p nodes beats h place run may m es at point n next

    -- the node puts out what it puts out in the history
    allowed : AllByRecursion (IsAllowed note p n) (outs_of step x b.past)
    allowed =
        let line = (point.holds.node n next.low).2 in
        let start = opening (h.first n) undying in
        let twins = all-twin note step (listed h n 0 (at n)) start (opening (h.first n) (h.life n)) (record { state = refl; journal = refl }) in
        let here : b.past ≡ after_all note step (listed h n 0 (at n)) start =
        line.past ∙ ap (λ q. after_all note step q start) (point.told n next.low) in
        let theirs : past note step h n (at n) ≡ after_all note step (listed h n 0 (at n)) (opening (h.first n) (h.life n)) =
        sym (listed-past note step h n 0 (at n) (at n) (omega arith)) in
        let state : b.past.state ≡ (past note step h n (at n)).state =
        ap (λ (s : Past S). s.state) here ∙ twins.state ∙ sym (ap (λ (s : Past S). s.state) theirs) in
        subst (AllByRecursion (IsAllowed note p n)) (sym (outs-twin step x b.past (past note step h n (at n)) state))
        (run.fair n (at n) next.low next.here)

    due : IsDue note step anywhere p n (beat h n (at n)) b x
    due =
        let shown = run.reads n (at n) next.low next.here in
        let early = may.early n (at n) next.low next.here in
        let short = place.short (beat h n (at n)) early in
        let high = shown.1 in
        record {
          lives = may-live b x (own-lives note step p nodes beats h place run may m es at point n next)
              (own-undied note step p nodes beats h place run may m es at point n next)
              (own-dead note step p nodes beats h place run may m es at point n next);
          dated = refl;
          open_here = may-open b.ticked x (own-ticked note step p nodes beats h place run may m es at point n next)
              (own-done note step p nodes beats h place run may m es at point n next);
          shown = shown;
          later = own-read note step p nodes beats h place run may m es at point n next;
          brief = omega (arith, high, short);
          led = (ready note step p nodes beats h place run may m es at point n next).led;
          stays = tt;
          allowed = allowed;
        }

    move : IsMove note step anywhere p nodes m e n x b
    move =
        let r = ready note step p nodes beats h place run may m es at point n next in
        record {
          within = next.low;
          here = b-at;
          due = due;
          goes = next.goes;
          done = λ k c here lives low. reached note step p nodes beats h place run may m es at point n next k c (within-of k c here) here lives;
          takes = r.takes;
          dies = r.dies;
          aged = r.aged;
        }
      where
        within-of : (k : ℕ) (c : Being S) → slice_get m.beings k ≡ Some c → k < nodes
        within-of k c here =
            let size = point.holds.size in
            let low = slice_get_within m.beings k c here in
            omega (arith, low, size)

    is-moved : happens note step p m e ≡ moved note step p m e n x b.past
    is-moved =
        let r = ready note step p nodes beats h place run may m es at point n next in
        ap (λ k. happened note step p m e k (node_event m.ways e.stamp e.act) (slice_get m.beings k)) r.theirs
        ∙ ap (λ o. happened note step p m e n o (slice_get m.beings n)) r.event
        ∙ ap (λ o. happened note step p m e n (Some x) o) b-at

    behind-told : (k : ℕ) → k < nodes → added n x es k ≡ listed h k 0 (beyond n at k)
    behind-told k low = ⊎_elim
        (λ (same : k ≡ n).
        let t : (k == n) ≡ true = eq-eqb k n same in
        let one : es n ++ x ∷ [] ≡ listed h n 0 (suc (at n)) =
        ap (λ q. q ++ x ∷ []) (point.told n next.low) ∙ sym (listed-more h n 0 (at n) (at n) (omega arith)) in
        rw t (subst (λ q. es q ++ x ∷ [] ≡ listed h q 0 (suc (at q))) (sym same) one))
        (λ (other : k ≡ n → ⊥). let t : (k == n) ≡ false = ne_eqb k n other in rw t (point.told k low))
        (cases_eq k n)

    behind-within : (k : ℕ) → k < nodes → beyond n at k ≤ h.count k
    behind-within k low = ⊎_elim
        (λ (same : k ≡ n).
        let t : (k == n) ≡ true = eq-eqb k n same in
        let here = next.here in
        rw t (subst (λ q. suc (at q) ≤ h.count q) (sym same) (let one : suc (at n) ≤ h.count n = omega (arith, here) in one)))
        (λ (other : k ≡ n → ⊥). let t : (k == n) ≡ false = ne_eqb k n other in rw t (point.within k low))
        (cases_eq k n)

    behind-last : (k : ℕ) (c : Being S) → k < nodes → slice_get (moved note step p m e n x b.past).beings k ≡ Some c
        → IsLatest h k (beyond n at k) c
    behind-last k c low here =
        let theirs = point.holds.node k low in
        let change = λ (j : ℕ) (a : Being S). if j == n then lived note step x a else a in
        let there : slice_get (moved note step p m e n x b.past).beings k ≡ Some (change k theirs.0) =
        each-get change 0 m.beings k k (omega arith) ∙ ap (option_map (change k)) theirs.1 in
        let is : change k theirs.0 ≡ c = some-same (change k theirs.0) c (sym there ∙ here) in
        subst (IsLatest h k (beyond n at k)) is (⊎_elim
        (λ (same : k ≡ n).
        let t : (k == n) ≡ true = eq-eqb k n same in
        rw t (subst (λ q. (suc (stamp_at x).beat ≡ suc (beat h q (at q)))
        × ((stamp_at x).reading ≡ (stamp_at (h.event q (at q))).reading)) (sym same) (refl, refl)))
        (λ (other : k ≡ n → ⊥).
        let t : (k == n) ≡ false = ne_eqb k n other in
        rw t (point.last k theirs.0 low theirs.1))
        (cases_eq k n))

    behind-away : (k : ℕ) (c : Being S) → k < nodes → slice_get (moved note step p m e n x b.past).beings k ≡ Some c
        → ((j : ℕ) → j < beyond n at k → is_return (h.event k j) ≡ false) → c.returned ≡ false
    behind-away k c low here all =
        let theirs = point.holds.node k low in
        let change = λ (j : ℕ) (a : Being S). if j == n then lived note step x a else a in
        let there : slice_get (moved note step p m e n x b.past).beings k ≡ Some (change k theirs.0) =
        each-get change 0 m.beings k k (omega arith) ∙ ap (option_map (change k)) theirs.1 in
        let is : change k theirs.0 ≡ c = some-same (change k theirs.0) c (sym there ∙ here) in
        subst (λ (a : Being S). a.returned ≡ false) is (⊎_elim
        (λ (same : k ≡ n).
        let t : (k == n) ≡ true = eq-eqb k n same in
        let count : beyond n at k ≡ suc (at k) = rw t refl in
        let old = point.away k theirs.0 low theirs.1 (λ j high. all j (omega (arith, high, count))) in
        let new : is_return x ≡ false =
        subst (λ q. is_return (h.event q (at q)) ≡ false) same (all (at k) (omega (arith, count))) in
        rw (t, old, new) refl)
        (λ (other : k ≡ n → ⊥).
        let t : (k == n) ≡ false = ne_eqb k n other in
        let count : beyond n at k ≡ at k = rw t refl in
        let old = point.away k theirs.0 low theirs.1 (λ j high. all j (omega (arith, high, count))) in
        rw (t, old) refl)
        (cases_eq k n))

    pub stepped : IsStep m es at n x
    stepped =
        let r = ready note step p nodes beats h place run may m es at point n next in
        let holds = holds-moved note step anywhere p nodes beats place h.first m es point.holds e n x b move in
        record {
          known = (may.early n (at n) next.low next.here, r.known);
          free = none-of_act note step p nodes beats h place run may m es at point n next (act_of h.before (es n) n x)
              r.theirs r.life r.free r.take r.late r.death;
          dated = ap (λ (q : Machine M S). q.beat) is-moved;
          point = subst (λ (q : Machine M S). IsAt note step p nodes beats h place run may q (added n x es) (beyond n at)) (sym is-moved)
              (record { holds = holds; told = behind-told; within = behind-within; last = behind-last; away = behind-away });
        }
