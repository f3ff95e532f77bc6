-- The stops along the controller's life: each at a tick, and of an instance once.
use Rattle.std.proofs.Common.{◌≡◌, ℕ, zero, suc, ◌<◌, ◌≤◌, List, true, false, Option, Some, None, refl, sym, ap, subst, ◌∙◌, arith, ⊎_elim, inl, eq-or-lt_of_le}
use Rattle.std.proofs.lemmas.Bool.{cases_order}
use Rattle.tiger_base.specs.declared.number.Instance.{Instance}
use Rattle.tiger_base.specs.declared.number.Stamp.{Stamp}
use Rattle.tiger_base.specs.declared.tenancy.Ask.{Ask}
use Rattle.tiger_base.specs.declared.tenancy.Tag.{Tag}
use Rattle.tiger_base.specs.declared.tenancy.Tenancy.{Tenancy}
use Rattle.tiger_base.specs.declared.message.Msg.{Msg}
use Rattle.slot_plan.specs.declared.params.Params.{Params}
use Rattle.node_kit.specs.declared.course.Order.{Order}
use Rattle.node_kit.specs.declared.journal.What.TheVariants as what
use Rattle.node_kit.specs.declared.outbox.Out.{Out}
use Rattle.node_kit.specs.declared.outbox.Out.TheVariants as out
use Rattle.node_kit.specs.Steps.{Input}
use Rattle.node_kit.specs.Steps.Input.{Take, Tick}
use Rattle.controller_core.specs.declared.known.Known.{Known}
use Rattle.controller_core.specs.Orders.{orders_in}
use Rattle.controller_core.specs.State.{is_gone}
use Rattle.controller_core.specs.Rules.{visit_due, commanding}
use Rattle.proof_controller.proofs.Taking.{taking_gone}
use Rattle.lists.specs.Elements.{In}
use Rattle.proof_controller.specs.Controllers.{command, known_at, commands_at}
use Rattle.proof_controller.proofs.Stopping.{each_stops}
use Rattle.proof_controller.specs.Stops.{tag_at, IsStopOf, Speaks, Stopped, AreStops}

pub commanding_stops : (p : Params) (orders : List Order) (stamp : Stamp) (known : Known) → AreStops p orders stamp.reading known (commanding p orders stamp known)
unfolding commanding
commanding_stops p orders stamp known = each_stops p orders stamp.reading (orders_in stamp.beat orders) known

-- an output that speaks of a stop is one of a tick
pub record StoppedIn (p : Params) (orders : List Order) (input : Input Msg) (known : Known) (v : Instance) (o : Out Msg) : Type 0 where
  pub stamp : Stamp
  pub tick : input ≡ Tick stamp
  pub stopped : Stopped p orders stamp.reading known (command p orders input known).outs v o

pub stopped_in : (p : Params) (orders : List Order) (input : Input Msg) (known : Known) (v : Instance) (o : Out Msg) → Speaks v o → In o (command p orders input known).outs → StoppedIn p orders input known v o
stopped_in p orders (Take stamp link m) known v o s i = absurd i
stopped_in p orders (Tick stamp) known v o s i = record { stamp = stamp; tick = refl; stopped = (commanding_stops p orders stamp known).stopped v o s i }

-- who is gone stays gone
pub still_gone : (p : Params) (orders : List Order) (input : Input Msg) (known : Known) (v : Instance) → is_gone known.gone v ≡ true → is_gone (command p orders input known).state.gone v ≡ true
still_gone p orders (Take stamp link m) known v e = ap (λ (gone : List Instance). is_gone gone v) (taking_gone p m known) ∙ e
still_gone p orders (Tick stamp) known v e = (commanding_stops p orders stamp known).grows.gone v e

pub gone_after : (p : Params) (orders : List Order) (input : Input Msg) (known : Known) (v : Instance) → In (out.Act (what.Gone v)) (command p orders input known).outs
    → is_gone (command p orders input known).state.gone v ≡ true
gone_after p orders (Take stamp link m) known v i = absurd i
gone_after p orders (Tick stamp) known v i = (commanding_stops p orders stamp known).after v i

-- a tick changes no place
pub same_places : (p : Params) (orders : List Order) (stamp : Stamp) (known : Known) → (command p orders (Tick stamp) known).state.placed ≡ known.placed
same_places p orders stamp known = (commanding_stops p orders stamp known).grows.placed

module _ (p : Params) (orders : List Order) (inputs : ℕ → Input Msg) where
  pub gone_later : (i j : ℕ) (v : Instance) → i ≤ j → is_gone (known_at p orders inputs i).gone v ≡ true → is_gone (known_at p orders inputs j).gone v ≡ true
  gone_later i zero v low e = let z : i ≡ 0 = omega arith in subst (λ n. is_gone (known_at p orders inputs n).gone v ≡ true) z e
  gone_later i (suc j) v low e = ⊎_elim
      (λ (same : i ≡ suc j). subst (λ n. is_gone (known_at p orders inputs n).gone v ≡ true) same e)
      (λ (less : i < suc j). still_gone p orders (inputs j) (known_at p orders inputs j) v (gone_later i j v (omega arith) e))
      (eq-or-lt_of_le low)

  -- an instance is stopped in an event
  pub stopped_there : (i : ℕ) (v : Instance) (o : Out Msg) → Speaks v o → In o (commands_at p orders inputs i) → StoppedIn p orders (inputs i) (known_at p orders inputs i) v o
  stopped_there i v o s k = stopped_in p orders (inputs i) (known_at p orders inputs i) v o s k

  pub not_after : (i j : ℕ) (v : Instance) (o q : Out Msg) → i < j → StoppedIn p orders (inputs i) (known_at p orders inputs i) v o → StoppedIn p orders (inputs j) (known_at p orders inputs j) v q → ⊥
  not_after i j v o q less s t =
      let said = s.stopped.all (out.Act (what.Gone v)) (inl refl) in
      let gone = gone_later (suc i) j v less (gone_after p orders (inputs i) (known_at p orders inputs i) v said) in
      let z : true ≡ false = sym gone ∙ t.stopped.fresh in
      absurd (cc)

  -- and in no other
  pub same_event : (i j : ℕ) (v : Instance) (o q : Out Msg) → StoppedIn p orders (inputs i) (known_at p orders inputs i) v o → StoppedIn p orders (inputs j) (known_at p orders inputs j) v q → i ≡ j
  same_event i j v o q s t = ⊎_elim
      (λ (e : i ≡ j). e)
      (⊎_elim (λ (l : i < j). absurd (not_after i j v o q l s t)) (λ (g : j < i). absurd (not_after j i v q o g t s)))
      (cases_order i j)

-- of what is known at a reading there is one place of a stop
pub one_stop : (p : Params) (orders : List Order) (r : ℕ) (placed : List Tenancy) (v : Instance) (a b : Option Tag) (n m : ℕ) → IsStopOf p orders r placed v a n → IsStopOf p orders r placed v b m
    → (a ≡ b) × (n ≡ m)
one_stop p orders r placed v a b n m s t = ⊎_elim
    (λ s. ⊎_elim
    (λ t. let e : Some s.0 ≡ Some t.0 = sym s.1 ∙ t.1 in let q : s.0 ≡ t.0 = cc in
    let w : n ≡ m = s.2 ∙ ap (λ (x : Tenancy). visit_due p x r) q ∙ sym t.2 in
    (s.4 ∙ ap (λ (x : Tenancy). Some (tag_at x.slot n)) q ∙ ap (λ (k : ℕ). Some (tag_at t.0.slot k)) w ∙ sym t.4, w))
    (λ t. let e : Some s.0 ≡ None = sym s.1 ∙ t.1 in absurd (cc))
    t)
    (λ s. ⊎_elim
    (λ t. let e : Some t.0 ≡ None = sym t.1 ∙ s.1 in absurd (cc))
    (λ t. let e : Some s.0 ≡ Some t.0 = sym s.2 ∙ t.2 in let q : s.0 ≡ t.0 = cc in (s.4 ∙ sym t.4, s.3 ∙ ap (λ (x : Ask). x.disk.0) q ∙ sym t.3))
    t)
    s
