-- What always holds of a machine that runs, before and after a step.
use Rattle.std.proofs.Common.{◌≡◌, ℕ, zero, suc, ◌<◌, ◌≤◌, List, [], ◌∷◌, ◌++◌, length, map, true, false, Option, Some, None, refl, ap, sym, ◌∙◌, subst, arith}
use Rattle.std.specs.Prelude.{slice_get}
use Rattle.std.specs.Option.{option_or}
use Rattle.std.proofs.Math.Nat.{mul-le-mul}
use Rattle.std.proofs.lemmas.Bool.{OnFalse_at, OnFalse_from}
use Rattle.std.proofs.lemmas.List.{length-map}
use Rattle.tiger_base.specs.Limits.{most_beats}
use Rattle.tiger_base.specs.declared.message.Note.{Note}
use Rattle.slot_plan.specs.declared.params.Params.{Params}
use Rattle.slot_plan.specs.Conditions.{IsPlan}
use Rattle.node_kit.specs.Links.{links_of, link_count}
use Rattle.node_kit.specs.Rows.{AllStand}
use Rattle.node_kit.specs.Steps.{Input, Deed}
use Rattle.node_kit.proofs.Ways.{links_sound}
use Rattle.ring_world.specs.declared.event.Event.{Event}
use Rattle.ring_world.specs.declared.event.StepFault.{StepFault}
use Rattle.ring_world.specs.Machine.{Machine, Being, Way, being, empty_ways, node_of}
use Rattle.ring_world.specs.Faults.{fault_of, beat_fault, missed_fault, node_fault, take_fault, late_fault, death_fault, IsEventOf}
use Rattle.world.specs.Moving.{journals_in, IsReady, HasMoved}
use Rattle.world.specs.Posting.{AreInOrder, IsOrderly}
use Rattle.world.specs.Running.{Running, nodes_of, IsSound, IsKept, stepped}
use Rattle.world.proofs.Sound as sound

pub few_links : (p : Params) (n : ℕ) → IsPlan p → n ≡ link_count (links_of p) → n ≤ 4000
few_links p n plan is =
    let l = links_sound p plan in
    let cubs = l.cubs_high in
    let disks = l.disks_high in
    let reach = l.reach_high in
    let ahead = mul-le-mul {n₁ = (links_of p).cubs} {m₁ = (links_of p).reach} {n₂ = 64} {m₂ = 8} cubs reach in
    omega (arith, is, cubs, disks, ahead)

-- The fault of an event is its node's, or that of its act, if the beat has none.
pub fault_found : {M S : Type 0} (p : Params) (m : Machine M S) (e : Event) (of_beat missed of_node : Option StepFault) (members : List (Being S)) (n : ℕ) (b : Being S)
    → of_beat ≡ beat_fault m.beat e.stamp.beat → of_beat ≡ None → members ≡ m.beings
    → missed ≡ missed_fault m.beat e.stamp.beat members → missed ≡ None
    → n ≡ node_of p e.act → slice_get members n ≡ Some b → of_node ≡ node_fault p n e (Some b)
    → fault_of p m e ≡ option_or of_node (option_or (take_fault m.ways e.stamp.beat e.act) (option_or (late_fault p m.ways e.stamp.beat e.act) (death_fault p m.beings e.act)))
fault_found {M} {S} p m e of_beat missed of_node members n b beat_is no_beat all missed_is no_missed node_is at found =
    let acts = option_or (take_fault m.ways e.stamp.beat e.act) (option_or (late_fault p m.ways e.stamp.beat e.act) (death_fault p m.beings e.act)) in
    let nodes = option_or (node_fault p (node_of p e.act) e (slice_get m.beings (node_of p e.act))) acts in
    let none_missed : missed_fault m.beat e.stamp.beat m.beings ≡ None = ap (missed_fault m.beat e.stamp.beat) (sym all) ∙ sym missed_is ∙ no_missed in
    let one : node_fault p (node_of p e.act) e (slice_get m.beings (node_of p e.act)) ≡ of_node =
    ap (λ k. node_fault p k e (slice_get m.beings k)) (sym node_is) ∙ ap (node_fault p n e) (ap (λ (bs : List (Being S)). slice_get bs n) (sym all) ∙ at) ∙ sym found in
    ap (λ o. option_or o (option_or (missed_fault m.beat e.stamp.beat m.beings) nodes)) (sym beat_is ∙ no_beat)
    ∙ ap (λ o. option_or o nodes) none_missed
    ∙ ap (λ o. option_or o acts) one

pub act_same : {M S : Type 0} (p : Params) (e : Event) (ways ways' : List (Way M)) (members beings : List (Being S)) → ways ≡ ways' → members ≡ beings
    → option_or (take_fault ways e.stamp.beat e.act) (option_or (late_fault p ways e.stamp.beat e.act) (death_fault p members e.act))
    ≡ option_or (take_fault ways' e.stamp.beat e.act) (option_or (late_fault p ways' e.stamp.beat e.act) (death_fault p beings e.act))
act_same {M} {S} p e ways ways' members beings same all =
    ap (λ (ws : List (Way M)). option_or (take_fault ws e.stamp.beat e.act) (option_or (late_fault p ws e.stamp.beat e.act) (death_fault p members e.act))) same
    ∙ ap (λ (bs : List (Being S)). option_or (take_fault ways' e.stamp.beat e.act) (option_or (late_fault p ways' e.stamp.beat e.act) (death_fault p bs e.act))) all

-- A machine that is spoilt keeps what always holds.
pub kept_spoilt : {M S : Type 0} (stands : S → Params → ℕ → Type 0) (r : Running M S) (beings : List (Being S)) (ways : List (Way M)) (events : List Event)
    → IsKept stands r → journals_in beings ≡ journals_in r.machine.beings
    → IsKept stands (record { params = r.params; beats = r.beats; machine = record { beat = r.machine.beat; beings = beings; ways = ways; events = events }; spoilt = true })
kept_spoilt {M} {S} stands r beings ways events kept same =
    let size : length beings ≡ length r.machine.beings =
    sym (length-map beings (λ (b : Being S). b.past.journal)) ∙ ap length same ∙ length-map r.machine.beings (λ (b : Being S). b.past.journal) in
    record {
      few = kept.few;
      early = kept.early;
      nodes = size ∙ kept.nodes;
      sound = OnFalse_from true (IsSound stands r.params (record { beat = r.machine.beat; beings = beings; ways = ways; events = events })) (λ h. absurd (cc));
    }

-- A machine that is not spoilt, with an event that may be asked of it.
module _ {M S : Type 0} (stands : S → Params → ℕ → Type 0) (r now : Running M S) (plan : IsPlan r.params) (is : r ≡ now) (kept : IsKept stands r)
    (whole : now.spoilt ≡ false) (e : Event) (known : IsEventOf now.params (nodes_of now.params) now.beats e) where
  mine : IsEventOf r.params (nodes_of r.params) r.beats e
  mine = subst (λ (q : Running M S). IsEventOf q.params (nodes_of q.params) q.beats e) (sym is) known

  pub is_sound : IsSound stands r.params r.machine
  is_sound = OnFalse_at (ap (λ (q : Running M S). q.spoilt) is ∙ whole) kept.sound

  pub is_within : (n : ℕ) → n ≡ node_of r.params e.act → n < length r.machine.beings
  is_within n at =
      let low = sound.within stands r.params r.beats plan kept.few r.machine kept.nodes is_sound e mine in
      let size = kept.nodes in
      omega (arith, low, size, at)

  pub in_order : AreInOrder r.machine.ways
  in_order = λ l w at. (is_sound.orderly l w at).rising

  -- The first fault that is found is the event's, and if none is, that of its act.
  pub fault_is : (f : Option StepFault) → f ≡ fault_of r.params r.machine e → f ≡ fault_of now.params now.machine e
  fault_is f found = found ∙ ap (λ (q : Running M S). fault_of q.params q.machine e) is

  module _ (none : fault_of now.params now.machine e ≡ None) where
    faultless : fault_of r.params r.machine e ≡ None
    faultless = ap (λ (q : Running M S). fault_of q.params q.machine e) is ∙ none

    pub is_ready : (n : ℕ) → n ≡ node_of r.params e.act → IsReady stands n e r.machine.beings r.machine.ways
    is_ready n at =
        subst (λ k. IsReady stands k e r.machine.beings r.machine.ways) (sym at)
        (sound.ready stands r.params r.beats plan kept.few r.machine kept.nodes is_sound e mine faultless
        (few_links r.params (length r.machine.ways) plan is_sound.links))

    module _ (note : M → Note) (step : S → Input M → Deed M S) (n : ℕ) (at : n ≡ node_of r.params e.act) (beings : List (Being S)) (ways : List (Way M))
        (moved : HasMoved note step stands r.params n e r.machine.beings beings r.machine.ways ways) (events : List Event) (more : events ≡ r.machine.events ++ e ∷ []) where
      abbrev after : Running M S
      after = record { params = r.params; beats = r.beats; machine = record { beat = e.stamp.beat; beings = beings; ways = ways; events = events }; spoilt = false }

      there : HasMoved note step stands r.params (node_of r.params e.act) e r.machine.beings beings r.machine.ways ways
      there = subst (λ k. HasMoved note step stands r.params k e r.machine.beings beings r.machine.ways ways) at moved

      pub kept_after : IsKept stands after
      kept_after =
          let early = mine.0 in
          let few = kept.few in
          record {
            few = kept.few;
            early = omega (arith, early, few);
            nodes = sound.size_after stands r.params r.beats plan kept.few r.machine kept.nodes is_sound e mine faultless note step beings ways there;
            sound = OnFalse_from false (IsSound stands r.params after.machine) (λ _.
                subst (λ es. IsSound stands r.params (record { beat = e.stamp.beat; beings = beings; ways = ways; events = es })) (sym more)
                (sound.sound_after stands r.params r.beats plan kept.few r.machine kept.nodes is_sound e mine faultless note step beings ways there));
          }

      pub after_is : after ≡ stepped note step now e
      after_is =
          ap (λ es. record { params = r.params; beats = r.beats; machine = record { beat = e.stamp.beat; beings = beings; ways = ways; events = es }; spoilt = false }) more
          ∙ ap (λ (m : Machine M S). record { params = r.params; beats = r.beats; machine = m; spoilt = false })
          (sound.happened_is stands r.params r.beats plan kept.few r.machine kept.nodes is_sound e mine faultless note step beings ways there)
          ∙ ap (λ (q : Running M S). stepped note step q e) is

-- The machine before the first event.
empty_way : {M : Type 0} (k l : ℕ) (w : Way M) → slice_get (empty_ways k) l ≡ Some w → w ≡ record { gone = 0; under_way = [] }
empty_way zero l w at = absurd (cc)
empty_way (suc k) zero w at = cc
empty_way (suc k) (suc l) w at = empty_way k l w at

length_empty : (M : Type 0) (k : ℕ) → length (empty_ways {M = M} k) ≡ k
length_empty M zero = refl
length_empty M (suc k) = ap suc (length_empty M k)

get_being : {S : Type 0} (xs : List S) (n : ℕ) (b : Being S) → slice_get (map being xs) n ≡ Some b → (s : S) × (slice_get xs n ≡ Some s) × (b ≡ being s)
get_being [] n b at = absurd (cc)
get_being (x ∷ xs) zero b at = let same : being x ≡ b = cc in (x, refl, sym same)
get_being (x ∷ xs) (suc n) b at = get_being xs n b at

pub kept_fresh : {M S : Type 0} (stands : S → Params → ℕ → Type 0) (p : Params) (beats count : ℕ) (given : List S) (beings : List (Being S)) (ways : List (Way M)) (events : List Event)
    → beats ≤ most_beats → count ≡ nodes_of p → count ≡ length given → AllStand stands p given
    → beings ≡ map being given → ways ≡ empty_ways (link_count (links_of p)) → events ≡ []
    → IsKept stands (record { params = p; beats = beats; machine = record { beat = 0; beings = beings; ways = ways; events = events }; spoilt = false })
kept_fresh {M} {S} stands p beats count given beings ways events few counted whole stand nodes links none = record {
  few = few;
  early = omega arith;
  nodes = ap length nodes ∙ length-map given being ∙ sym whole ∙ counted;
  sound = OnFalse_from false (IsSound stands p (record { beat = 0; beings = beings; ways = ways; events = events })) (λ _. record {
    links = ap length links ∙ length_empty M (link_count (links_of p));
    stand = λ n b at.
        let own = get_being given n b (ap (λ bs. slice_get bs n) (sym nodes) ∙ at) in
        subst (λ (c : Being S). stands c.past.state p n) (sym own.2) (stand n own.0 own.1);
    orderly = λ l w at.
        subst (IsOrderly 0) (sym (empty_way (link_count (links_of p)) l w (ap (λ ws. slice_get ws l) (sym links) ∙ at)))
        (record { rising = tt; sent = tt });
  });
}
