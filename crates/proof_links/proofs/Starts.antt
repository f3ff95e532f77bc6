-- Starts on their links and in the orders: one that came was begun by the controller, and what is begun is ordered.
use Rattle.std.proofs.Common.{◌≡◌, ℕ, ◌≤◌, List, Bool, false, sym, ap, subst, ◌∙◌, arith}
use Rattle.tiger_base.specs.declared.tenancy.Ask.{Ask}
use Rattle.tiger_base.specs.declared.message.Msg.{Msg}
use Rattle.tiger_base.specs.declared.message.Msg.TheVariants as msg
use Rattle.slot_plan.specs.declared.params.Params.{Params}
use Rattle.slot_plan.specs.Conditions.{IsPlan}
use Rattle.slot_plan.specs.Times.{cub_of}
use Rattle.node_kit.specs.declared.course.Order.{Order}
use Rattle.node_kit.specs.declared.course.OrderKind.TheVariants.{Begin}
use Rattle.node_kit.specs.Steps.{Deed, Input, stamp_of}
use Rattle.node_kit.specs.Ways.{way_to_cub}
use Rattle.run_facts.specs.Histories.{History}
use Rattle.disk_core.specs.State.{DiskState}
use Rattle.controller_core.specs.Orders.{Starts}
use Rattle.proof_lives.specs.Lives.{Lives}
use Rattle.lists.specs.Elements.{In}
use Rattle.proof_lives.specs.Facts.{TookMessage}
use Rattle.proof_lives.specs.TwoLifeRun.{WhichLife, life_in}
use Rattle.proof_controller.specs.Controllers.{controller, known_at, GoneAt}
use Rattle.proof_schedule.specs.LinkLaws.{WasBegun}
use Rattle.proof_facts.specs.Beside.{Additions}
use Rattle.proof_facts.specs.Facts.{BegunAt, facts_of}
use Rattle.proof_facts.specs.Lives.{lives_of}
use Rattle.proof_facts.specs.Rings.{IsRingWith}
use Rattle.proof_links.proofs.Carrying.{commanded_before, from_controller, took_from}
use Rattle.proof_links.proofs.Controllers.{begun_by}
use Rattle.proof_links.proofs.Ordering.{at_beat, started_by, finished_by, ordered_once, ordered_before, place_of}

module _ {S : Type 0} {step : S → Input Msg → Deed Msg S} {p : Params} {orders : List Order} {disk_at : ℕ → DiskState}
    {added : Additions} {h : History Msg S} (plan : IsPlan p) (ring : IsRingWith step p orders disk_at added h) where
  abbrev lives : Lives
  lives = lives_of h

  abbrev inputs : ℕ → Input Msg
  inputs = lives.input (controller p)

  -- A start that came was begun by the controller.
  pub start_from : (w : WhichLife) {c y : ℕ} {ask : Ask} {redundant : Bool}
      → TookMessage p (life_in h w) c (msg.Start redundant ask) y
      → WasBegun p (facts_of p orders h) ask y
  start_from w {c} {y} {ask} {redundant} g =
      let f = took_from plan ring w g in
      let d = commanded_before plan ring f (from_controller plan ring f (λ q. q) (λ q. q) (λ q. q)) in
      let s = started_by p orders (inputs f.at) (known_at p orders inputs f.at) g.link ask redundant plan d.did in
      let b = begun_by plan ring ask s.stamp.beat f.at s.stamp s.ordered d.done s.tick (omega arith) in
      let beat = ap (λ (i : Input Msg). (stamp_of i).beat) s.tick in
      let later = d.later in
      let soon = d.soon in
      record { beat = s.stamp.beat; begun = b; later = omega arith; soon = omega arith }

  -- What is begun is an order of that beat, and has a place among the orders.
  pub begun_ordered : {ask : Ask} {b : ℕ} → BegunAt p orders lives ask b → In (at_beat b (Begin ask)) orders
  begun_ordered {ask} {b} g =
      let s = started_by p orders (inputs g.at) (known_at p orders inputs g.at)
      (way_to_cub p (cub_of p ask.disk.0)) ask false plan g.near in
      let e : s.stamp.beat ≡ b = sym (ap (λ (i : Input Msg). (stamp_of i).beat) s.tick) ∙ g.in_beat in
      subst (λ n. In (at_beat n (Begin ask)) orders) e s.ordered

  pub begun_place : {ask : Ask} {b : ℕ} → BegunAt p orders lives ask b → (k : ℕ) × Starts orders k ask
  begun_place {ask} {b} g = place_of ring.counted ask b (begun_ordered g)

  -- An instance has one order, of one beat, and is stopped in it or after it.
  pub one_begun : {a b : Ask} {x y : ℕ} → BegunAt p orders lives a x → BegunAt p orders lives b y
      → a.instance.0 ≡ b.instance.0 → (b ≡ a) × (y ≡ x)
  one_begun {a} {b} {x} {y} i j same = ordered_once ring.counted a b x y (begun_ordered i) (begun_ordered j) same

  pub gone_after : {ask : Ask} {o z : ℕ} → BegunAt p orders lives ask o → GoneAt p orders lives ask.instance.0 z → o ≤ z
  gone_after {ask} {o} {z} b g =
      let f = finished_by p orders (inputs g.at) (known_at p orders inputs g.at) g.instance g.gone in
      let e : f.stamp.beat ≡ z = sym (ap (λ (i : Input Msg). (stamp_of i).beat) f.tick) ∙ g.in_beat in
      let le = ordered_before ring.counted ask g.instance o f.stamp.beat (begun_ordered b) f.ordered (sym g.same) in
      omega arith
