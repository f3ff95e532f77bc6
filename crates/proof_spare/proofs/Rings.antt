-- In a ring whose disks may die and of which no node dies each node puts out what its rules say, and a cub what it adds.
use Rattle.std.proofs.Common.{◌≡◌, ℕ, zero, suc, ◌+◌, ◌<◌, ◌≤◌, List, [], ◌++◌, true, false, Option, None, refl, sym, ap, ◌∙◌, arith, ⊎_elim}
use Rattle.std.proofs.lemmas.Bool.{cases_Bool, cases_lt}
use Rattle.tiger_base.specs.declared.number.Stamp.{Stamp}
use Rattle.tiger_base.specs.declared.message.Msg.{Msg}
use Rattle.tiger_base.specs.Notes.{noted}
use Rattle.slot_plan.specs.declared.params.Params.{Params}
use Rattle.node_kit.specs.declared.course.Order.{Order}
use Rattle.node_kit.specs.Steps.{Input, stamp_of}
use Rattle.run_facts.specs.Events.{is_return}
use Rattle.run_facts.specs.Histories.{History, IsRun, outs, past}
use Rattle.cub_rules.specs.declared.store.Store.{Store}
use Rattle.cub_rules.specs.State.{opening_store}
use Rattle.disk_core.specs.State.{DiskState}
use Rattle.disk_death.specs.Spares.{SpareState}
use Rattle.ring_nodes.specs.declared.nodes.AnyNode.{AnyNode}
use Rattle.ring_nodes.specs.declared.nodes.AnyNode.TheVariants as node
use Rattle.ring_nodes.specs.AllNodes.{any_step, opening_controller}
use Rattle.spare_ring.specs.declared.nodes.SpareNode.{SpareNode}
use Rattle.spare_ring.specs.declared.nodes.SpareNode.TheVariants as spare
use Rattle.spare_ring.specs.Nodes.{spare_node_step}
use Rattle.proof_lives.specs.Lives.{beginning, cut_in, cut_outs, outs_in, outs_at}
use Rattle.proof_lives.specs.Histories.{acting, cut_of_event, first_events, has_input, input_of, later_lives_of, lives_of}
use Rattle.proof_lives.specs.TwoLifeRun.{IsTwoLifeRun}
use Rattle.proof_lives.specs.TwoLifeRun.WhichLife.{First}
use Rattle.proof_lives.proofs.Acting.{alive_whole, acts_at, without_input}
use Rattle.proof_lives.proofs.Returns.{first_back, first_ended, first_here, first_low}
use Rattle.proof_lives.proofs.TwoLives.{first_beat, runs_of_two_lives}
use Rattle.proof_lives.proofs.Wrapped.{GoesOn, after_state, cub_with, event_outs, last_at, life_goes_on}
use Rattle.proof_controller.specs.Controllers.{controller}
use Rattle.proof_facts.specs.Rings.{node_count, node_of_disk, viewers}
use Rattle.proof_ring.proofs.Nodes.{controller_puts_out, disk_puts_out, viewers_put_out}
use Rattle.proof_spare.specs.Added.{added_in}
use Rattle.proof_spare.specs.Rings.{IsSpareRing, SpareRingsAreHistories}
use Rattle.proof_spare.proofs.Added.{all_added}
use Rattle.proof_spare.proofs.Cubs.{next_spare, spare_at, spare_puts}

-- what a cub keeps whose life begins in beat 0 is what it keeps at its opening
from_zero : (p : Params) (stamp : Stamp) → stamp.beat ≡ 0 → beginning p stamp ≡ opening_store p 0
from_zero p stamp e = rw e refl

-- the numbers of all events
abbrev each : ℕ → ℕ
each i = i

-- a node that is no cub
abbrev inner_of : {G : Type 0} → SpareNode G → AnyNode G
inner_of (spare.Cub s) = node.Cub s.inner
inner_of (spare.Other s) = s

-- the same events befall other nodes
abbrev others_of : {G : Type 0} → History Msg (SpareNode G) → History Msg (AnyNode G)
others_of h = record { first = λ n. inner_of (h.first n); life = h.life; count = h.count; event = h.event; before = h.before }

module _ {G : Type 0} {p : Params} {orders : List Order} {disk_at : ℕ → DiskState} {deaths : ℕ → List (Option ℕ)} {h : History Msg (SpareNode G)}
    (ring : IsSpareRing p orders disk_at deaths h) where
  abbrev run_is : IsRun noted spare_node_step p (node_count p) h
  run_is = ring.run

  two : IsTwoLifeRun p (node_count p) h
  two = runs_of_two_lives (SpareNode G) spare_node_step p (node_count p) h ring.run ring.short

  -- ---- nobody returns, so each event has an input and is whole

  module _ (n : ℕ) (inside : n < node_count p) where
    stays : (i : ℕ) → i < h.count n → is_return (h.event n i) ≡ false
    stays i low = ⊎_elim
        (λ (t : is_return (h.event n i) ≡ true).
        let b = run_is.returned n i inside low t in
        let next = b.next in
        let alive = ring.alive n b.last inside (omega arith) in
        let z : true ≡ false = sym b.died ∙ alive in absurd (cc))
        (λ (f : is_return (h.event n i) ≡ false). f)
        (cases_Bool (is_return (h.event n i)))

    has : (i : ℕ) → i < h.count n → has_input (h.event n i) ≡ true
    has i low = ⊎_elim
        (λ (t : has_input (h.event n i) ≡ true). t)
        (λ (f : has_input (h.event n i) ≡ false).
        let dies = without_input (h.event n i) f (stays i low) in
        let z : true ≡ false = sym dies ∙ ring.alive n i inside low in absurd (cc))
        (cases_Bool (has_input (h.event n i)))

    whole : (i : ℕ) → i < h.count n → cut_of_event (h.event n i) ≡ None
    whole i low = alive_whole (h.event n i) (ring.alive n i inside low)

    all_first : h.count n ≤ first_events h n
    all_first = ⊎_elim
        (λ (less : first_events h n < h.count n).
        let z : true ≡ false = sym (first_back run_is n inside less) ∙ stays (first_events h n) less in absurd (cc))
        (λ (le : h.count n ≤ first_events h n). le)
        (cases_lt (first_events h n) (h.count n))

    counted : (i : ℕ) → i < acting h n → i < h.count n
    counted i low =
        let done = (acts_at h n (first_here run_is n inside) (first_ended run_is n inside) i low).done in
        let few = first_low run_is n inside in
        omega arith

  -- ---- a cub

  module _ (c : ℕ) (small : c < p.cubs) where
    here : c < node_count p
    here = omega arith

    abbrev inputs : ℕ → Input Msg
    inputs i = input_of (h.event c i)

    goes : (i : ℕ) → i < acting h c → GoesOn (last_at inputs i) (inputs i)
    goes i low = life_goes_on (acting h c) inputs (first_beat run_is c here) i low

    abbrev IsCub : ℕ → Type 0
    IsCub i = (past noted spare_node_step h c i).state ≡ spare.Cub (spare_at p c (deaths c) inputs i)

    is_cub : (i : ℕ) → i < acting h c → IsCub i
    is_cub zero low =
        ring.opens.cubs c small
        ∙ ap (λ (x : Store). spare.Cub (record { inner = cub_with p c x None; deaths = deaths c; remembered = record { params = p; items = [] } }))
        (sym (from_zero p (stamp_of (inputs 0)) (first_beat run_is c here 0 low)))
    is_cub (suc i) low =
        let before : i < acting h c = omega arith in
        after_state spare_node_step (h.event c i) (past noted spare_node_step h c i) (has c here i (counted c here i before))
        ∙ (ap (λ (s : SpareNode G). (spare_node_step s (inputs i)).state) (is_cub i before)
        ∙ ap (λ (s : SpareState). spare.Cub s) (next_spare p c (deaths c) inputs i (goes i before)))

    -- Nothing cuts off what it puts out.
    pub first_whole : (i : ℕ) → i < acting h c → cut_in (lives_of h) c i ≡ None
    first_whole i low = two.cut First c i here low ∙ whole c here i (counted c here i low)

    puts : (i : ℕ) → i < acting h c → outs noted spare_node_step h c i ≡ outs_in p (lives_of h) c i ++ added_in p deaths h c i
    puts i low =
        let low_too = counted c here i low in
        event_outs spare_node_step (h.event c i) (past noted spare_node_step h c i) (has c here i low_too)
        ∙ (ap (λ (o : Option ℕ). cut_outs o (spare_node_step (past noted spare_node_step h c i).state (inputs i)).outs) (whole c here i low_too)
        ∙ (ap (λ (s : SpareNode G). (spare_node_step s (inputs i)).outs) (is_cub i low)
        ∙ (spare_puts p c (deaths c) inputs i (goes i low)
        ∙ ap (λ (o : Option ℕ). cut_outs o (outs_at p c inputs i) ++ added_in p deaths h c i)
        (sym (first_whole i low)))))

  -- It has no later life.
  pub none_later : {c : ℕ} (i : ℕ) → i < (later_lives_of h).count c → c < p.cubs → ⊥
  none_later {c} i low small = let all = all_first c (let here : c < node_count p = omega arith in here) in omega arith

  -- ---- the other nodes

  module _ (n : ℕ) (inside : n < node_count p) (s : AnyNode G) (opens : h.first n ≡ spare.Other s) where
    first_is : (others_of h).first n ≡ s
    first_is = ap (λ (x : SpareNode G). inner_of x) opens

    is_other : (i : ℕ) → i ≤ h.count n
        → (past noted spare_node_step h n i).state ≡ spare.Other (past noted any_step (others_of h) n i).state
    is_other zero low = opens ∙ ap (λ (x : AnyNode G). spare.Other x) (sym first_is)
    is_other (suc i) low =
        let acts = has n inside i (omega arith) in
        after_state spare_node_step (h.event n i) (past noted spare_node_step h n i) acts
        ∙ (ap (λ (x : SpareNode G). (spare_node_step x (input_of (h.event n i))).state) (is_other i (omega arith))
        ∙ ap (λ (x : AnyNode G). spare.Other x) (sym (after_state any_step (h.event n i) (past noted any_step (others_of h) n i) acts)))

    same_outs : (i : ℕ) → i < h.count n → outs noted spare_node_step h n i ≡ outs noted any_step (others_of h) n i
    same_outs i low =
        let acts = has n inside i low in
        event_outs spare_node_step (h.event n i) (past noted spare_node_step h n i) acts
        ∙ (ap (λ (x : SpareNode G). cut_outs (cut_of_event (h.event n i)) (spare_node_step x (input_of (h.event n i))).outs) (is_other i (omega arith))
        ∙ sym (event_outs any_step (h.event n i) (past noted any_step (others_of h) n i) acts))

pub spare_rings_are_histories : (G : Type 0) → SpareRingsAreHistories G
spare_rings_are_histories G p orders disk_at deaths h plan ring = record {
  run = ring.run;
  deaths = record {
    mortal = λ n i inside high low. ring.alive n i inside low;
    apart = λ c d i j small there low high one two next.
        let z : true ≡ false = sym one ∙ ring.alive c i (omega arith) low in absurd (cc);
  };
  counted = ring.counted;
  short = ring.short;
  rules = record {
    cubs = λ c i small low. puts ring c small i low;
    few = λ c i small low. all_added p c (deaths c) _ _ _;
    back = λ c i small low. absurd (none_later ring i low small);
    disks = λ d i small low.
        let n : ℕ = node_of_disk p d in
        same_outs ring n (omega arith) (node.Disk (disk_at d)) (ring.opens.disks d small) i low
        ∙ disk_puts_out (others_of h) n each (λ i. refl) (h.count n) (has ring n (omega arith)) (whole ring n (omega arith))
        (disk_at d) (first_is ring n (omega arith) (node.Disk (disk_at d)) (ring.opens.disks d small)) i low;
    are_disks = ring.opens.numbered;
    controls = λ i low.
        let n : ℕ = controller p in
        same_outs ring n (omega arith) (opening_controller p orders) ring.opens.commands i low
        ∙ controller_puts_out (others_of h) n each (λ i. refl) (h.count n) (has ring n (omega arith)) (whole ring n (omega arith))
        p orders (first_is ring n (omega arith) (opening_controller p orders) ring.opens.commands) i low;
    views = λ i low.
        let n : ℕ = viewers p in
        same_outs ring n (omega arith) (node.Viewers []) ring.opens.views i low
        ∙ viewers_put_out (others_of h) n each (λ i. refl) (h.count n) (has ring n (omega arith)) (whole ring n (omega arith))
        (first_is ring n (omega arith) (node.Viewers []) ring.opens.views) i low;
  };
}
