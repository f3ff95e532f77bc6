-- What a world's step makes of what always holds of it.
use Rattle.std.proofs.Common.{◌≡◌, ℕ, ◌+◌, ◌≤◌, List, [], ◌∷◌, ◌++◌, true, false, None, refl, ap, sym, ◌∙◌, subst, arith}
use Rattle.std.specs.Prelude.{Result, Ok, Err, OnOk, IfErr}
use Rattle.tiger_base.specs.Limits.{most_beats}
use Rattle.tiger_base.specs.declared.message.Msg.{Msg}
use Rattle.tiger_base.specs.declared.message.Note.{Note}
use Rattle.tiger_base.specs.Notes.{noted}
use Rattle.slot_plan.specs.declared.params.Params.{Params}
use Rattle.slot_plan.specs.Conditions.{IsPlan}
use Rattle.stripe_layout.specs.declared.catalogue.Catalogue.{Catalogue}
use Rattle.disk_image.specs.Image.{Image}
use Rattle.node_kit.specs.declared.course.Order.{Order}
use Rattle.node_kit.specs.declared.course.ReadFault.{ReadFault}
use Rattle.node_kit.specs.Steps.{Input, Deed}
use Rattle.ring_nodes.specs.declared.nodes.AnyNode.{AnyNode}
use Rattle.ring_nodes.specs.AllNodes.{any_step, node_count, opening_nodes, images_of}
use Rattle.ring_world.specs.declared.event.Event.{Event}
use Rattle.ring_world.specs.Machine.{Machine, happens, journals_of}
use Rattle.ring_world.specs.Faults.{fault_of, IsEventOf, Accepts}
use Rattle.world.specs.declared.error.StepError.{StepError}
use Rattle.world.specs.declared.error.StepError.TheVariants as error
use Rattle.world.specs.Running.{Running, fresh, nodes_of, IsLeft, HasStepped}
use Rattle.world.specs.Worlds.{Opening, first_machine, IsAcceptedFrom, IsWorld, new_world}

-- A machine that accepts events, and one event more that has no fault.
accepts_more : {M S : Type 0} (note : M → Note) (step : S → Input M → Deed M S) (p : Params) (nodes beats : ℕ) (m : Machine M S) (es : List Event) (k : Machine M S) (e : Event)
    → Accepts note step p nodes beats m es k → IsEventOf p nodes beats e → fault_of p k e ≡ None
    → Accepts note step p nodes beats m (es ++ e ∷ []) (happens note step p k e)
accepts_more {M} {S} note step p nodes beats m [] k e is known none =
    subst (λ (q : Machine M S). IsEventOf p nodes beats e × (fault_of p q e ≡ None) × (happens note step p k e ≡ happens note step p q e)) is (known, none, refl)
accepts_more note step p nodes beats m (x ∷ es) k e accepts known none =
    (accepts.0, accepts.1, accepts_more note step p nodes beats (happens note step p m x) es k e accepts.2 known none)

nodes_are : (p : Params) → nodes_of p ≡ node_count p
nodes_are p = omega arith

module _ {G : Type 0} (o : Opening) (old new : Running Msg (AnyNode G)) (e : Event) (was : IsWorld (record { opening = o; running = old })) where
  abbrev World : Running Msg (AnyNode G) → Type 0
  World r = IsWorld (record { opening = o; running = r })

  same_world : new ≡ old → World new
  same_world is = subst World (sym is) was

  stepped_world : IsEventOf old.params (nodes_of old.params) old.beats e → HasStepped noted any_step old e new → World new
  stepped_world known done =
      let whole : old.machine ≡ was.machine = was.whole done.whole in
      let asked : IsEventOf o.params (node_count o.params) o.beats e =
      subst (λ n. IsEventOf o.params n o.beats e) (nodes_are o.params)
      (subst (λ b. IsEventOf o.params (nodes_of o.params) b e) was.beats (subst (λ (p : Params). IsEventOf p (nodes_of p) old.beats e) was.params known)) in
      let none : fault_of o.params was.machine e ≡ None =
      ap (λ (p : Params). fault_of p was.machine e) (sym was.params) ∙ ap (λ (m : Machine Msg (AnyNode G)). fault_of old.params m e) (sym whole) ∙ done.faultless in
      let after : Machine Msg (AnyNode G) = happens noted any_step o.params was.machine e in
      let is : new.machine ≡ happens noted any_step o.params was.machine e =
      ap (λ (r : Running Msg (AnyNode G)). r.machine) done.done
      ∙ ap (λ (p : Params). happens noted any_step p old.machine e) was.params ∙ ap (λ (m : Machine Msg (AnyNode G)). happens noted any_step o.params m e) whole in
      record {
        plan = was.plan;
        few = was.few;
        params = ap (λ (r : Running Msg (AnyNode G)). r.params) done.done ∙ was.params;
        beats = ap (λ (r : Running Msg (AnyNode G)). r.beats) done.done ∙ was.beats;
        machine = happens noted any_step o.params was.machine e;
        accepted = subst (λ es. IsAcceptedFrom o es (happens noted any_step o.params was.machine e)) (sym done.last)
            (accepts_more noted any_step o.params (node_count o.params) o.beats (first_machine o) old.machine.events was.machine e was.accepted asked none);
        journals = ap journals_of is;
        beat = ap (λ (m : Machine Msg (AnyNode G)). m.beat) is;
        whole = λ _. is;
      }

  left_world : (err : StepError) → IsLeft old new err → World new
  left_world error.Spoilt is = same_world is
  left_world (error.Fault fault) is = same_world is
  left_world error.NoMemory spoilt = record {
    plan = was.plan;
    few = was.few;
    params = spoilt.params ∙ was.params;
    beats = spoilt.beats ∙ was.beats;
    machine = was.machine;
    accepted = subst (λ es. IsAcceptedFrom o es was.machine) (sym spoilt.events) was.accepted;
    journals = spoilt.journals ∙ was.journals;
    beat = spoilt.beat ∙ was.beat;
    whole = λ h. let two : true ≡ false = sym spoilt.spoilt ∙ h in absurd (cc);
  }

  pub still_world : (result : Result (Unit {0}) StepError) → IsEventOf old.params (nodes_of old.params) old.beats e
      → IfErr result (IsLeft old new) → OnOk result (HasStepped noted any_step old e new) → World new
  still_world (Ok x) known left done = stepped_world known done
  still_world (Err err) known left done = left_world err left

pub fresh_world : {G : Type 0} (o : Opening) (r : Running Msg (AnyNode G)) → IsPlan o.params → o.beats ≤ most_beats → r ≡ (new_world o).running → IsWorld (record { opening = o; running = r })
fresh_world {G} o r plan few is =
    subst (λ (q : Running Msg (AnyNode G)). IsWorld (record { opening = o; running = q })) (sym is) (record {
      plan = plan;
      few = few;
      params = refl;
      beats = refl;
      machine = first_machine o;
      accepted = refl;
      journals = refl;
      beat = refl;
      whole = λ _. refl;
    })

-- The machine that is made of the nodes as they open, whichever copies of faults and orders the world keeps.
pub fresh_running : {G : Type 0} (p : Params) (beats : ℕ) (faults faults' : List ReadFault) (orders orders' : List Order) (catalogue : Catalogue) (library : List (List ℕ))
    (images : List Image) (nodes : List (AnyNode G)) (r : Running Msg (AnyNode G)) → faults ≡ faults' → orders ≡ orders' → images ≡ images_of p catalogue library
    → nodes ≡ opening_nodes p faults' images orders' → r ≡ fresh p beats nodes
    → r ≡ (new_world {G = G} (record { params = p; beats = beats; faults = faults; orders = orders; catalogue = catalogue; library = library })).running
fresh_running {G} p beats faults faults' orders orders' catalogue library images nodes r same_faults same_orders same_images opens is =
    is ∙ ap (fresh p beats)
    (opens ∙ ap (λ fs. opening_nodes {G = G} p fs images orders') (sym same_faults) ∙ ap (λ os. opening_nodes {G = G} p faults images os) (sym same_orders)
    ∙ ap (λ ms. opening_nodes {G = G} p faults ms orders) same_images)
