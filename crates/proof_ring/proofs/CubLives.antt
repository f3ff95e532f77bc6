-- Each node of a ring puts out what its rules say, as far as its death lets it: a cub in its first life, and from its return on.
use Rattle.std.proofs.Common.{◌≡◌, ℕ, zero, suc, ◌+◌, ◌<◌, ◌≤◌, List, true, false, Option, None, refl, sym, ap, ◌∙◌, arith, ⊎_elim, append-nil}
use Rattle.std.specs.Prelude.{◌++◌}
use Rattle.std.proofs.lemmas.Bool.{cases_Bool, cases_lt}
use Rattle.tiger_base.specs.declared.number.Stamp.{Stamp}
use Rattle.tiger_base.specs.declared.message.Msg.{Msg}
use Rattle.tiger_base.specs.Notes.{noted}
use Rattle.slot_plan.specs.declared.params.Params.{Params}
use Rattle.node_kit.specs.declared.course.Order.{Order}
use Rattle.node_kit.specs.declared.outbox.Out.{Out}
use Rattle.node_kit.specs.Steps.{Input, stamp_of}
use Rattle.run_facts.specs.Events.{is_return}
use Rattle.run_facts.specs.Histories.{History, IsRun, outs, past}
use Rattle.cub_rules.specs.declared.store.Store.{Store}
use Rattle.cub_rules.specs.Cubs.{was_away}
use Rattle.cub_rules.specs.State.{opening_store}
use Rattle.disk_core.specs.State.{DiskState}
use Rattle.ring_nodes.specs.declared.nodes.AnyNode.{AnyNode}
use Rattle.ring_nodes.specs.declared.nodes.AnyNode.TheVariants as node
use Rattle.ring_nodes.specs.AllNodes.{any_step}
use Rattle.proof_lives.specs.Lives.{beginning, cut_outs, outs_in, outs_at, store_at}
use Rattle.proof_lives.specs.Histories.{acting, cut_of_event, first_events, has_input, later_from, later_lives_of, lives_of}
use Rattle.proof_lives.specs.TwoLifeRun.{IsTwoLifeRun}
use Rattle.proof_lives.specs.TwoLifeRun.WhichLife.{First, Later}
use Rattle.proof_lives.proofs.Acting.{acts_at, alive_whole, among_acting, most_act, without_input}
use Rattle.proof_lives.proofs.Returns.{died, first_back, first_ended, first_here, later_whole}
use Rattle.proof_lives.proofs.TwoLives.{first_beat, runs_of_two_lives}
use Rattle.proof_lives.proofs.Wrapped.{ActsBack, GoesOn, acts_back, after_death_alone, after_return, away_then, cub_with, last_at, last_from, life_goes_on}
use Rattle.proof_controller.specs.Controllers.{controller}
use Rattle.proof_facts.specs.Rings.{node_count, node_of_disk, return_outs, viewers}
use Rattle.proof_ring.specs.Rings.{IsRing, RingsAreHistories}
use Rattle.proof_ring.proofs.Nodes.{IsCubAt, inputs, cub_begins, cub_goes, cub_puts, cub_tells, controller_puts_out, disk_puts_out, viewers_put_out}

-- what a cub keeps whose life begins in beat 0 is what it keeps at its opening
from_zero : (p : Params) (stamp : Stamp) → stamp.beat ≡ 0 → beginning p stamp ≡ opening_store p 0
from_zero p stamp e = rw e refl

-- the numbers of all events
abbrev each : ℕ → ℕ
each i = i

module _ {G : Type 0} {p : Params} {orders : List Order} {disk_at : ℕ → DiskState} {h : History Msg (AnyNode G)} (ring : IsRing p orders disk_at h) where
  abbrev run_is : IsRun noted any_step p (node_count p) h
  run_is = ring.run

  two : IsTwoLifeRun p (node_count p) h
  two = runs_of_two_lives (AnyNode G) any_step p (node_count p) h ring.run ring.short

  -- ---- a cub's first life

  module _ (c : ℕ) (small : c < p.cubs) where
    inside : c < node_count p
    inside = omega arith

    acts_first : (i : ℕ) → i < acting h c → has_input (h.event c i) ≡ true
    acts_first i low = two.acts First c i inside low

    abbrev firsts : ℕ → Input Msg
    firsts = inputs h c each (λ i. refl) (acting h c) acts_first

    goes_first : (i : ℕ) → i < acting h c → GoesOn (last_at firsts i) (firsts i)
    goes_first i low = life_goes_on (acting h c) firsts (first_beat run_is c inside) i low

    -- It opens as one that begins in beat 0.
    abbrev IsFirst : ℕ → Type 0
    IsFirst i = IsCubAt h c each (λ i. refl) (acting h c) acts_first p (last_at firsts) (λ i. refl) i

    is_first : (i : ℕ) → i < acting h c → IsFirst i
    is_first zero low =
        ring.opens.cubs c small
        ∙ ap (λ (x : Store). node.Cub (cub_with p c x None)) (sym (from_zero p (stamp_of (firsts 0)) (first_beat run_is c inside 0 low)))
    is_first (suc i) low =
        cub_goes h c each (λ i. refl) (acting h c) acts_first p (last_at firsts) (λ i. refl) i (omega arith)
        (goes_first i (omega arith)) (is_first i (omega arith))

    puts_first : (i : ℕ) → i < acting h c → outs noted any_step h c i ≡ outs_in p (lives_of h) c i
    puts_first i low =
        cub_puts h c each (λ i. refl) (acting h c) acts_first p (last_at firsts) (λ i. refl) i low (goes_first i low) (is_first i low)
        ∙ ap (λ (o : Option ℕ). cut_outs o (outs_at p c firsts i)) (sym (two.cut First c i inside low))

    -- ---- its later life

    abbrev before : Option ℕ
    before = last_at firsts (acting h c)

    -- What it kept before an event, since when it has not ticked.
    abbrev Was : ℕ → Type 0
    Was m = (kept : Store) × ((past noted any_step h c m).state ≡ node.Cub (cub_with p c kept before))

    ended : (m : ℕ) → acting h c ≡ m → Was m
    ended zero none =
        (opening_store p 0, ring.opens.cubs c small ∙ ap (λ (k : ℕ). node.Cub (cub_with p c (opening_store p 0) (last_at firsts k))) (sym none))
    ended (suc m) some =
        let low : m < acting h c = omega arith in (
          store_at p c firsts (suc m),
          cub_goes h c each (λ i. refl) (acting h c) acts_first p (last_at firsts) (λ i. refl) m low (goes_first m low) (is_first m low)
              ∙ ap (λ (k : ℕ). node.Cub (cub_with p c (store_at p c firsts (suc m)) (last_at firsts k))) (sym some),
        )

    -- A death apart from an event does nothing.
    no_input : acting h c < first_events h c → has_input (h.event c (acting h c)) ≡ false
    no_input low = ⊎_elim
        (λ (t : has_input (h.event c (acting h c)) ≡ true).
        let z = among_acting h c (first_here run_is c inside) (first_ended run_is c inside) (acting h c) low t in absurd (omega arith))
        (λ (f : has_input (h.event c (acting h c)) ≡ false). f)
        (cases_Bool (has_input (h.event c (acting h c))))

    at_return : Was (first_events h c)
    at_return =
        let most = most_act h c (first_here run_is c inside) (first_ended run_is c inside) in
        let was = ended (acting h c) refl in
        ⊎_elim
        (λ (low : acting h c < first_events h c).
        let e : first_events h c ≡ suc (acting h c) = omega arith in (
          was.0,
          ap (λ (k : ℕ). (past noted any_step h c k).state) e
              ∙ after_death_alone any_step (h.event c (acting h c)) (past noted any_step h c (acting h c)) (no_input low)
              ∙ was.1,
        ))
        (λ (high : first_events h c ≤ acting h c).
        let e : first_events h c ≡ acting h c = ⊎_elim
        (λ (less : first_events h c < acting h c).
        let z = (acts_at h c (first_here run_is c inside) (first_ended run_is c inside) (first_events h c) less).done in absurd (omega arith))
        (λ (le : acting h c ≤ first_events h c). omega arith)
        (cases_lt (first_events h c) (acting h c)) in
        (was.0, ap (λ (k : ℕ). (past noted any_step h c k).state) e ∙ was.1))
        (cases_lt (acting h c) (first_events h c))

    module _ (some : 0 < (later_lives_of h).count c) where
      abbrev top : ℕ
      top = (later_lives_of h).count c

      abbrev since : ℕ → ℕ
      since i = later_from h c + i

      next : (i : ℕ) → since (suc i) ≡ suc (since i)
      next i = omega arith

      acts_later : (i : ℕ) → i < top → has_input (h.event c (since i)) ≡ true
      acts_later i low = two.acts Later c i inside low

      whole_later : (i : ℕ) → i < top → cut_of_event (h.event c (since i)) ≡ None
      whole_later i low = later_whole run_is c inside (since i) (omega arith) (omega arith)

      abbrev later : ℕ → Input Msg
      later = inputs h c since next top acts_later

      abbrev kept : Store
      kept = at_return.0

      it_was : (past noted any_step h c (since 0)).state ≡ node.Cub (cub_with p c kept before)
      it_was =
          let e : since 0 ≡ suc (first_events h c) = omega arith in
          ap (λ (k : ℕ). (past noted any_step h c k).state) e
          ∙ after_return any_step (h.event c (first_events h c)) (past noted any_step h c (first_events h c)) (first_back run_is c inside (omega arith))
          ∙ at_return.1

      -- It has been away, so it comes back by its first input, and by no other.
      comes_back : ActsBack p c top later kept before
      comes_back =
          let new = two.anew c inside some in
          let in_beat = new.in_beat in
          let d = died run_is c inside (omega arith) in
          let apart = d.apart in
          acts_back p c top later (two.lived Later c inside) some new.tick (omega arith) before kept
          (ap (λ (b : ℕ). was_away before b) new.in_beat ∙ away_then run_is c inside (omega arith))

      abbrev IsLater : ℕ → Type 0
      IsLater i = IsCubAt h c since next top acts_later p (last_from before later) (λ i. refl) i

      is_later : (i : ℕ) → i < top → IsLater (suc i)
      is_later zero low = cub_begins h c since next top acts_later p kept before it_was comes_back low
      is_later (suc i) low =
          cub_goes h c since next top acts_later p (last_from before later) (λ i. refl) (suc i) low
          (comes_back.goes_on (suc i) (omega arith) low) (is_later i (omega arith))

      uncut : (i : ℕ) → i < top → outs_at p c later i ≡ outs_in p (later_lives_of h) c i
      uncut i low =
          ap (λ (o : Option ℕ). cut_outs o (outs_at p c later i)) (sym (two.cut Later c i inside low ∙ whole_later i low))

      puts_later : (i : ℕ) → i < top
          → outs noted any_step h c (since i)
          ≡ return_outs p c ((later_lives_of h).input c) i ++ outs_in p (later_lives_of h) c i
      puts_later zero low =
          cub_tells h c since next top acts_later p kept before it_was comes_back low (whole_later 0 low)
          ∙ ap (λ (os : List (Out Msg)). return_outs p c later 0 ++ os) (uncut 0 low)
      puts_later (suc i) low =
          cub_puts h c since next top acts_later p (last_from before later) (λ i. refl) (suc i) low
          (comes_back.goes_on (suc i) (omega arith) low) (is_later i (omega arith))
          ∙ ap (λ (o : Option ℕ). cut_outs o (outs_at p c later (suc i))) (whole_later (suc i) low)
          ∙ uncut (suc i) low

  -- ---- the other nodes, which never die

  module _ (n : ℕ) (known : n < node_count p) (high : p.cubs ≤ n) where
    pub stays_here : (i : ℕ) → i < h.count n → is_return (h.event n i) ≡ false
    stays_here i low = ⊎_elim
        (λ (t : is_return (h.event n i) ≡ true).
        let b = run_is.returned n i known low t in
        let next = b.next in
        let alive = ring.deaths.mortal n b.last known high (omega arith) in
        let z : true ≡ false = sym b.died ∙ alive in absurd (cc))
        (λ (f : is_return (h.event n i) ≡ false). f)
        (cases_Bool (is_return (h.event n i)))

    has : (i : ℕ) → i < h.count n → has_input (h.event n i) ≡ true
    has i low = ⊎_elim
        (λ (t : has_input (h.event n i) ≡ true). t)
        (λ (f : has_input (h.event n i) ≡ false).
        let dies = without_input (h.event n i) f (stays_here i low) in
        let z : true ≡ false = sym dies ∙ ring.deaths.mortal n i known high low in absurd (cc))
        (cases_Bool (has_input (h.event n i)))

    whole : (i : ℕ) → i < h.count n → cut_of_event (h.event n i) ≡ None
    whole i low = alive_whole (h.event n i) (ring.deaths.mortal n i known high low)

pub rings_are_histories : (G : Type 0) → RingsAreHistories G
rings_are_histories G p orders disk_at h plan ring = record {
  run = ring.run;
  deaths = ring.deaths;
  counted = ring.counted;
  short = ring.short;
  rules = record {
    cubs = λ c i small low. puts_first ring c small i low ∙ sym (append-nil (outs_in p (lives_of h) c i));
    few = λ c i small low. tt;
    back = λ c i small low. puts_later ring c small (omega arith) i low;
    disks = λ d i small low.
        let n : ℕ = node_of_disk p d in
        disk_puts_out h n each (λ i. refl) (h.count n) (has ring n (omega arith) (omega arith)) (whole ring n (omega arith) (omega arith))
        (disk_at d) (ring.opens.disks d small) i low;
    are_disks = ring.opens.numbered;
    controls = λ i low.
        let n : ℕ = controller p in
        controller_puts_out h n each (λ i. refl) (h.count n) (has ring n (omega arith) (omega arith)) (whole ring n (omega arith) (omega arith))
        p orders ring.opens.commands i low;
    views = λ i low.
        let n : ℕ = viewers p in
        viewers_put_out h n each (λ i. refl) (h.count n) (has ring n (omega arith) (omega arith)) (whole ring n (omega arith) (omega arith))
        ring.opens.views i low;
  };
}
