-- What the controller sends and writes is of its orders: an instance is started once, and stopped after that.
use Rattle.std.proofs.Common.{◌≡◌, ℕ, zero, suc, ◌%◌, ◌<◌, ◌≤◌, ◌==◌, List, [], ◌∷◌, slice_index_or, Bool, filter, Some, refl, sym, ap, subst, ◌∙◌, arith, inl, inr}
use Rattle.std.specs.Prelude.{slice_get}
use Rattle.std.proofs.lemmas.Bool.{eqb-true, eq-eqb}
use Rattle.std.proofs.lemmas.Option.{none-some}
use Rattle.tiger_base.specs.declared.number.Instance.{Instance}
use Rattle.tiger_base.specs.declared.number.LinkNo.{LinkNo}
use Rattle.tiger_base.specs.declared.number.Stamp.{Stamp}
use Rattle.tiger_base.specs.declared.tenancy.Ask.{Ask}
use Rattle.tiger_base.specs.declared.message.Msg.{Msg}
use Rattle.tiger_base.specs.declared.message.Msg.TheVariants as msg
use Rattle.slot_plan.specs.declared.params.Params.{Params}
use Rattle.slot_plan.specs.Conditions.{IsPlan}
use Rattle.node_kit.specs.declared.course.Order.{Order}
use Rattle.node_kit.specs.declared.course.OrderKind.{OrderKind}
use Rattle.node_kit.specs.declared.course.OrderKind.TheVariants.{Begin, Finish}
use Rattle.node_kit.specs.declared.journal.What.TheVariants as what
use Rattle.node_kit.specs.declared.outbox.Out.{Out}
use Rattle.node_kit.specs.declared.outbox.Out.TheVariants as out
use Rattle.node_kit.specs.Steps.{Input}
use Rattle.node_kit.specs.Steps.Input.{Take, Tick}
use Rattle.node_kit.specs.Ways.{way_to_cub}
use Rattle.controller_core.specs.declared.known.Known.{Known}
use Rattle.controller_core.specs.Orders.{orders_in, Starts}
use Rattle.controller_core.specs.Rules.{starts, commanding}
use Rattle.lists.specs.Elements.{In}
use Rattle.proof_lives.proofs.Carrying.{sends_place}
use Rattle.lists.proofs.Elements.{in_filter, from_filter}
use Rattle.proof_controller.specs.Controllers.{command}
use Rattle.proof_controller.proofs.CommandedOnce.{stopped_in}
use Rattle.proof_controller.proofs.Behind.{each_behind, each_starts}
use Rattle.proof_controller.proofs.Places.{in_place, place_in, get_below}
use Rattle.proof_controller.specs.Orders.{AreCounted}
use Rattle.proof_controller.proofs.Commands.{commanding_out, one_order, start_out}

-- an order of a beat
abbrev pub at_beat : ℕ → OrderKind → Order
at_beat b w = record { beat = b; what = w }

of_beat : (o : Order) (b : ℕ) (w : OrderKind) → o.beat ≡ b → o.what ≡ w → o ≡ at_beat b w
of_beat o b w e f = ap (λ (n : ℕ). at_beat n o.what) e ∙ ap (λ (x : OrderKind). at_beat b x) f

-- an order among those of a beat
in_beat : (orders : List Order) (o : Order) (b : ℕ) (w : OrderKind)
    → In o (filter (λ (q : Order). q.beat == b) orders) → o.what ≡ w → In (at_beat b w) orders
in_beat orders o b w i e =
    let f = from_filter (λ (q : Order). q.beat == b) o orders i in
    subst (λ (q : Order). In q orders) (of_beat o b w (eqb-true _ _ f.1) e) f.0

-- A start goes out at the tick of its order's beat, on a link to a cub.
pub record StartedBy (p : Params) (orders : List Order) (input : Input Msg) (link : LinkNo) (a : Ask) : Type 0 where
  pub stamp : Stamp
  pub tick : input ≡ Tick stamp
  pub ordered : In (at_beat stamp.beat (Begin a)) orders
  pub low : link.0 < p.cubs

pub started_by : (p : Params) (orders : List Order) (input : Input Msg) (known : Known) (link : LinkNo) (a : Ask)
    (x : Bool) → IsPlan p
    → In (out.Send link (msg.Start x a)) (command p orders input known).outs → StartedBy p orders input link a
started_by p orders (Take stamp way m) known link a x plan i = absurd i
started_by p orders (Tick stamp) known link a x plan i =
    let s = start_out p (filter (λ (o : Order). o.beat == stamp.beat) orders) link a x
    (commanding_out p orders stamp known link (msg.Start x a) plan i) in
    record { stamp = stamp; tick = refl; ordered = in_beat orders s.0 stamp.beat (Begin a) s.1 s.2; low = s.3 }

-- At that tick both starts of an order of the beat go out.
pub both_start : (p : Params) (orders : List Order) (stamp : Stamp) (known : Known) (a : Ask) (o : Out Msg)
    → In (at_beat stamp.beat (Begin a)) orders → In o (starts p a)
    → In o (command p orders (Tick stamp) known).outs
unfolding commanding orders_in
both_start p orders stamp known a o i k =
    let q : Order = at_beat stamp.beat (Begin a) in
    each_starts p orders stamp.reading (orders_in stamp.beat orders) known q a o
    (in_filter (λ (w : Order). w.beat == stamp.beat) q orders i (eq-eqb _ _ refl)) refl k

-- The controller writes that an instance is gone at the tick of the beat in which it is ordered to be stopped.
pub record FinishedBy (orders : List Order) (input : Input Msg) (v : Instance) : Type 0 where
  pub stamp : Stamp
  pub tick : input ≡ Tick stamp
  pub ordered : In (at_beat stamp.beat (Finish v)) orders

pub finished_by : (p : Params) (orders : List Order) (input : Input Msg) (known : Known) (v : Instance)
    → In (out.Act (what.Gone v)) (command p orders input known).outs → FinishedBy orders input v
unfolding commanding orders_in
finished_by p orders (Take stamp way m) known v i = absurd i
finished_by p orders (Tick stamp) known v i =
    let s = (stopped_in p orders (Tick stamp) known v (out.Act (what.Gone v)) refl i).stopped in
    let way : LinkNo = way_to_cub p (s.number % p.cubs) in
    let told = s.all (out.Send way (msg.Deschedule v s.tag)) (inr (inl refl)) in
    let place = sends_place way.0 stamp.beat (command p orders (Tick stamp) known).outs way
    (msg.Deschedule v s.tag) refl told in
    let b = each_behind p orders stamp.reading
    (orders_in stamp.beat orders) known way.0 stamp.beat place.0 v s.tag place.1 in
    let among = place_in b.order (orders_in stamp.beat orders) b.at b.is in
    record { stamp = stamp; tick = refl; ordered = in_beat orders b.order stamp.beat (Finish v) among b.what }

-- An element is what stands at its place.
index_is : {X : Type 0} (xs : List X) (k : ℕ) (x d : X) → slice_get xs k ≡ Some x → slice_index_or xs k d ≡ x
index_is [] k x d e = absurd (none-some x e)
index_is (y ∷ ys) zero x d e = cc
index_is (y ∷ ys) (suc k) x d e = index_is ys k x d e

module _ {p : Params} {orders : List Order} (counted : AreCounted p orders) where
  -- An order has a place.
  pub place_of : (a : Ask) (b : ℕ) → In (at_beat b (Begin a)) orders → (k : ℕ) × Starts orders k a
  place_of a b i = let k = in_place (at_beat b (Begin a)) orders i in (k.0, (b, k.1))

  -- An instance is ordered once.
  pub ordered_once : (a b : Ask) (x y : ℕ) → In (at_beat x (Begin a)) orders → In (at_beat y (Begin b)) orders
      → a.instance.0 ≡ b.instance.0 → (b ≡ a) × (y ≡ x)
  ordered_once a b x y i j same =
      let e = one_order p orders (at_beat x (Begin a)) (at_beat y (Begin b)) a b counted i j refl refl same in
      let w : Begin a ≡ Begin b = ap (λ (o : Order). o.what) e in
      let t : a ≡ b = cc in
      (sym t, sym (ap (λ (o : Order). o.beat) e))

  -- It is stopped in the beat of its start or after it.
  pub ordered_before : (a : Ask) (v : Instance) (x z : ℕ) → In (at_beat x (Begin a)) orders
      → In (at_beat z (Finish v)) orders → a.instance.0 ≡ v.0 → x ≤ z
  ordered_before a v x z i j same =
      let n = in_place (at_beat z (Finish v)) orders j in
      let s = counted.given.after_start n.0 v (z, n.1) in
      let b : Ask = s.1 in
      let first = s.3 in
      let once =
      ordered_once a b x first.0 i (place_in (at_beat first.0 (Begin b)) orders s.0 first.1) (same ∙ sym s.4) in
      let d : Order = at_beat z (Finish v) in
      let less = s.2 in
      let r = counted.given.in_time s.0 n.0 d (omega arith) (get_below orders n.0 d n.1) in
      let fb : (slice_index_or orders s.0 d).beat ≡ first.0 =
      ap (λ (o : Order). o.beat) (index_is orders s.0 (at_beat first.0 (Begin b)) d first.1) in
      let lb : (slice_index_or orders n.0 d).beat ≡ z = ap (λ (o : Order). o.beat) (index_is orders n.0 d d n.1) in
      let same_beat = once.1 in
      omega arith
