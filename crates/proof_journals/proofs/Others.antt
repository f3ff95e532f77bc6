-- What the nodes that are no cubs put out: the controller by its orders, and a disk its answers.
use Rattle.std.proofs.Common.{◌≡◌, ℕ, List, [], ◌∷◌, ◌==◌, nat_lt, filter, Bool, Option, Some, None, refl, ap, subst, ⊎_elim, inl, inr}
use Rattle.std.specs.List.{AllByRecursion}
use Rattle.tiger_base.specs.declared.number.Instance.{Instance}
use Rattle.tiger_base.specs.declared.number.LinkNo.{LinkNo}
use Rattle.tiger_base.specs.declared.number.Stamp.{Stamp}
use Rattle.tiger_base.specs.declared.tenancy.Ask.{Ask}
use Rattle.tiger_base.specs.declared.tenancy.State.{State}
use Rattle.tiger_base.specs.declared.tenancy.Tenancy.{Tenancy}
use Rattle.tiger_base.specs.declared.message.Msg.{Msg}
use Rattle.tiger_base.specs.declared.message.Msg.TheVariants as msg
use Rattle.tiger_base.specs.Notes.{noted}
use Rattle.slot_plan.specs.declared.params.Params.{Params}
use Rattle.node_kit.specs.declared.course.Order.{Order}
use Rattle.node_kit.specs.declared.course.OrderKind.{OrderKind}
use Rattle.node_kit.specs.declared.course.OrderKind.TheVariants.{Begin, Finish}
use Rattle.node_kit.specs.declared.journal.What.{What}
use Rattle.node_kit.specs.declared.journal.What.TheVariants as what
use Rattle.node_kit.specs.declared.outbox.Out.{Out}
use Rattle.node_kit.specs.declared.outbox.Out.TheVariants as out
use Rattle.node_kit.specs.Deeds.{nothing, each_in_turn}
use Rattle.node_kit.specs.Form.{is_in_form}
use Rattle.node_kit.specs.Steps.{Deed, Input}
use Rattle.node_kit.specs.Steps.Input.{Take, Tick}
use Rattle.controller_core.specs.declared.known.Known.{Known}
use Rattle.controller_core.specs.Orders.{orders_in, start_of}
use Rattle.controller_core.specs.Rules.{starts, gone_from, visit_due, stops_start, stops, stopping, carries, carrying, commanding}
use Rattle.controller_core.specs.State.{tenancy_of, is_gone}
use Rattle.disk_core.specs.State.{DiskState}
use Rattle.disk_core.specs.Rules.{answers, asked, disk_step}
use Rattle.lists.specs.Elements.{In}
use Rattle.lists.proofs.Elements.{chosen, in_cases, from_filter}
use Rattle.lists.proofs.Each.{all_in}
use Rattle.proof_controller.specs.Controllers.{command, known_at, commands_at, IsOrdered}

-- The controller tells only of stops, and sends starts as it carries out their orders and no viewer state.
abbrev pub Follows : OrderKind → Out Msg → Type 0
Follows k (out.Act w) = (v : Instance) × (w ≡ what.Gone v)
Follows k (out.Send link (msg.Start redundant ask)) = k ≡ Begin ask
Follows k (out.Send link (msg.ViewerState s)) = ⊥
Follows k other = Unit {0}

starts_follow : (p : Params) (ask : Ask) → AllByRecursion (Follows (Begin ask)) (starts p ask)
unfolding starts
starts_follow p ask = (refl, (refl, tt))

gone_follows : (p : Params) (v w : Instance) (tag : _) (n : ℕ) (known : Known)
    → AllByRecursion (Follows (Finish w)) (gone_from p v tag n known).outs
unfolding gone_from
gone_follows p v w tag n known = ((v, refl), (tt, (tt, tt)))

stops_follow : (p : Params) (orders : List Order) (reading : ℕ) (v : Instance) (o : Option Tenancy) (known : Known)
    → AllByRecursion (Follows (Finish v)) (stops p orders reading v o known).outs
stops_follow p orders reading v (Some t) known =
    chosen (λ (d : Deed Msg Known). AllByRecursion (Follows (Finish v)) d.outs) (nat_lt t.last (visit_due p t reading))
    (nothing known) _
    (λ _. tt) (λ _. gone_follows p v v _ _ known)
stops_follow p orders reading v None known = start_follows (start_of orders v)
  where
    start_follows : (o : Option Ask) → AllByRecursion (Follows (Finish v)) (stops_start p v o known).outs
    start_follows None = tt
    start_follows (Some ask) = gone_follows p v v None ask.disk.0 known

carries_follow : (p : Params) (orders : List Order) (reading : ℕ) (k : OrderKind) (known : Known)
    → AllByRecursion (Follows k) (carries p orders reading k known).outs
unfolding stopping
carries_follow p orders reading (Begin ask) known = starts_follow p ask
carries_follow p orders reading (Finish v) known =
    chosen (λ (d : Deed Msg Known). AllByRecursion (Follows (Finish v)) d.outs) (is_gone known.gone v) (nothing known)
    (stops p orders reading v (tenancy_of known.placed v) known)
    (λ _. tt) (λ _. stops_follow p orders reading v (tenancy_of known.placed v) known)

-- What the controller puts out belongs to one of its orders.
abbrev pub IsOfOrder : List Order → Out Msg → Type 0
IsOfOrder orders o = (x : Order) × In x orders × Follows x.what o

each_of_order : (p : Params) (all orders : List Order) (reading : ℕ) (known : Known) (o : Out Msg)
    → In o (each_in_turn (carrying p all reading) orders known).outs → IsOfOrder orders o
unfolding carrying
each_of_order p all [] reading known o i = absurd i
each_of_order p all (x ∷ xs) reading known o i = ⊎_elim
    (λ k. (
      x,
      inl refl,
      all_in (Follows x.what) o (carries p all reading x.what known).outs
          (carries_follow p all reading x.what known) k,
    ))
    (λ k. let r = each_of_order p all xs reading _ o k in (r.0, inr r.1, r.2))
    (in_cases o (carries p all reading x.what known).outs _ i)

of_order : (p : Params) (orders : List Order) (i : Input Msg) (known : Known) (o : Out Msg)
    → In o (command p orders i known).outs → IsOfOrder orders o
unfolding commanding orders_in
of_order p orders (Take stamp link m) known o i = absurd i
of_order p orders (Tick stamp) known o i =
    let r = each_of_order p orders (filter (λ x. x.beat == stamp.beat) orders) stamp.reading known o i in
    (r.0, (from_filter (λ (x : Order). x.beat == stamp.beat) r.0 orders r.1).0, r.2)

module _ (p : Params) (orders : List Order) (inputs : ℕ → Input Msg) (i : ℕ) where
  -- A start that it sends was ordered.
  pub start_ordered : (link : LinkNo) (ask : Ask) (redundant : Bool)
      → In (out.Send link (msg.Start redundant ask)) (commands_at p orders inputs i) → IsOrdered orders ask
  start_ordered link ask redundant k =
      let r = of_order p orders (inputs i) (known_at p orders inputs i) (out.Send link (msg.Start redundant ask)) k in (
        r.0.beat,
        subst (λ (x : Order). In x orders)
            (ap (λ (w : OrderKind). record { beat = r.0.beat; what = w }) r.2) r.1,
      )

  -- What it writes itself is of a stop.
  pub act_gone : (w : What) → In (out.Act w) (commands_at p orders inputs i) → (v : Instance) × (w ≡ what.Gone v)
  act_gone w k = (of_order p orders (inputs i) (known_at p orders inputs i) (out.Act w) k).2

  -- It sends no viewer state.
  pub commands_no_state : (link : LinkNo) (s : State)
      → In (out.Send link (msg.ViewerState s)) (commands_at p orders inputs i) → ⊥
  commands_no_state link s k = (of_order p orders (inputs i) (known_at p orders inputs i)
      (out.Send link (msg.ViewerState s)) k).2

-- A disk writes nothing itself, and sends no viewer state.
abbrev IsAnswer : Out Msg → Type 0
IsAnswer (out.Act w) = ⊥
IsAnswer (out.Send link (msg.ViewerState s)) = ⊥
IsAnswer other = Unit {0}

answers_only : (s : DiskState) (stamp : Stamp) (m : Msg) → AllByRecursion IsAnswer (answers stamp m s).outs
answers_only s stamp (msg.ReadAsk want) = (tt, tt)
answers_only s stamp other = tt

pub disk_answers : (s : DiskState) (i : Input Msg) → AllByRecursion IsAnswer (disk_step s i).outs
unfolding asked
disk_answers s (Tick stamp) = tt
disk_answers s (Take stamp link m) =
    chosen (λ (d : Deed Msg DiskState). AllByRecursion IsAnswer d.outs) (is_in_form s.params (noted m))
    (answers stamp m s) (nothing s)
    (λ _. answers_only s stamp m) (λ _. tt)

pub disk_no_act : (s : DiskState) (i : Input Msg) (w : What) → In (out.Act w) (disk_step s i).outs → ⊥
disk_no_act s i w k = all_in IsAnswer (out.Act w) (disk_step s i).outs (disk_answers s i) k

pub disk_no_state : (s : DiskState) (i : Input Msg) (link : LinkNo) (q : State)
    → In (out.Send link (msg.ViewerState q)) (disk_step s i).outs → ⊥
disk_no_state s i link q k = all_in IsAnswer (out.Send link (msg.ViewerState q)) (disk_step s i).outs
    (disk_answers s i) k
