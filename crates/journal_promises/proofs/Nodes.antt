-- What any node of a ring writes of its own is writable, it sends no start but one that was ordered, and only a cub that was away
-- tells of a return.
use Rattle.std.proofs.Common.{◌≡◌, ℕ, ◌≤◌, ◌==◌, nat_lt, true, List, [], ◌∷◌, Option, Some, None, refl, sym, ap, ◌∙◌, subst}
use Rattle.std.specs.List.{AllByRecursion}
use Rattle.std.proofs.lemmas.Bool.{cond_both}
use Rattle.tiger_base.specs.declared.number.Instance.{Instance}
use Rattle.tiger_base.specs.declared.number.Stamp.{Stamp}
use Rattle.tiger_base.specs.declared.tenancy.Ask.{Ask}
use Rattle.tiger_base.specs.declared.tenancy.Tag.{Tag}
use Rattle.tiger_base.specs.declared.tenancy.Tenancy.{Tenancy}
use Rattle.tiger_base.specs.declared.message.Msg.{Msg}
use Rattle.tiger_base.specs.declared.message.Msg.TheVariants as msg
use Rattle.tiger_base.specs.Limits.{most_reading}
use Rattle.tiger_base.specs.Notes.{noted}
use Rattle.slot_plan.specs.declared.params.Params.{Params}
use Rattle.node_kit.specs.declared.course.Order.{Order}
use Rattle.node_kit.specs.declared.course.OrderKind.{OrderKind}
use Rattle.node_kit.specs.declared.course.OrderKind.TheVariants.{Begin, Finish}
use Rattle.node_kit.specs.declared.journal.What.TheVariants as what
use Rattle.node_kit.specs.declared.outbox.Out.{Out}
use Rattle.node_kit.specs.declared.outbox.Out.TheVariants as out
use Rattle.node_kit.specs.Deeds.{nothing, each_in_turn}
use Rattle.node_kit.specs.Form.{is_in_form}
use Rattle.node_kit.specs.Steps.{Deed, Input, stamp_of}
use Rattle.node_kit.specs.Steps.Input.{Take, Tick}
use Rattle.node_kit.specs.Ways.{way_ahead}
use Rattle.cub_rules.specs.declared.store.Store.{Store}
use Rattle.cub_rules.specs.Comebacks.{comeback_at}
use Rattle.cub_rules.specs.Cubs.{cub_step, deed_of, was_away}
use Rattle.cub_rules.specs.State.{IsCub, returning_store}
use Rattle.cub_changes.proofs.Rules.{cub_stays}
use Rattle.disk_core.specs.Rules.{asked, answers, disk_step}
use Rattle.disk_core.specs.State.{DiskState}
use Rattle.controller_core.specs.declared.known.Known.{Known}
use Rattle.controller_core.specs.Orders.{orders_in, start_of}
use Rattle.controller_core.specs.Rules.{starts, gone_from, visit_due, stops_at, stops_start, stops, stopping, carries, carrying, commanding, controller_step}
use Rattle.controller_core.specs.State.{ControllerState, is_gone, tenancy_of}
use Rattle.ring_nodes.specs.declared.nodes.AnyNode.{AnyNode}
use Rattle.ring_nodes.specs.declared.nodes.AnyNode.TheVariants as node
use Rattle.ring_nodes.specs.AllNodes.{any_step}
use Rattle.lists.proofs.Each.{all_append, all_wider}
use Rattle.proof_lives.proofs.Wrapped.{GoesOn, back_outs, cub_outs, last_behind}
use Rattle.audit_read.specs.Writable.{IsAsk}
use Rattle.journal_promises.proofs.Cubs.{IsFine, AreFine, cub_puts}
use Rattle.journal_promises.proofs.Quiet.{IsQuietOut, AreQuietOuts, deed_quiet}

-- ---- orders

-- a start that is ordered asks for a number of blocks within the limits
abbrev pub IsOrderWithin : OrderKind → Type 0
IsOrderWithin (Begin ask) = IsAsk ask
IsOrderWithin (Finish v) = Unit {0}

abbrev pub AreOrdersWithin : List Order → Type 0
AreOrdersWithin orders = AllByRecursion (λ o. IsOrderWithin o.what) orders

-- ---- the controller

-- what a node that is no cub puts out is fine, and tells of no return
abbrev IsToldSo : Params → Out Msg → Type 0
IsToldSo p o = IsFine p o × IsQuietOut o

abbrev AreToldSo : Params → List (Out Msg) → Type 0
AreToldSo p outs = AllByRecursion (IsToldSo p) outs

all_fine : (p : Params) (outs : List (Out Msg)) → AreToldSo p outs → AreFine p outs
all_fine p outs all = all_wider (IsToldSo p) (IsFine p) (λ o so. so.0) outs all

all_quiet : (p : Params) (outs : List (Out Msg)) → AreToldSo p outs → AreQuietOuts outs
all_quiet p outs all = all_wider (IsToldSo p) IsQuietOut (λ o so. so.1) outs all

gone_fine : (p : Params) (v : Instance) (tag : Option Tag) (n : ℕ) (known : Known) → AreToldSo p (gone_from p v tag n known).outs
unfolding gone_from
gone_fine p v tag n known = ((tt, tt), ((tt, tt), ((tt, tt), tt)))

at_fine : (p : Params) (v : Instance) (t : Tenancy) (n : ℕ) (known : Known) → AreToldSo p (stops_at p v t n known).outs
at_fine p v t n known =
    cond_both (nat_lt t.last n) (nothing known) (gone_from p v (Some (record { slot = t.slot; visit = n })) n known)
    (λ (d : Deed Msg Known). AreToldSo p d.outs) (λ _. tt) (λ _. gone_fine p v (Some (record { slot = t.slot; visit = n })) n known)

start_fine : (p : Params) (v : Instance) (o : Option Ask) (known : Known) → AreToldSo p (stops_start p v o known).outs
start_fine p v None known = tt
start_fine p v (Some ask) known = gone_fine p v None ask.disk.0 known

stops_fine : (p : Params) (orders : List Order) (reading : ℕ) (v : Instance) (o : Option Tenancy) (known : Known)
    → AreToldSo p (stops p orders reading v o known).outs
stops_fine p orders reading v (Some t) known = at_fine p v t (visit_due p t reading) known
stops_fine p orders reading v None known = start_fine p v (start_of orders v) known

stopping_fine : (p : Params) (orders : List Order) (reading : ℕ) (v : Instance) (known : Known)
    → AreToldSo p (stopping p orders reading v known).outs
unfolding stopping
stopping_fine p orders reading v known =
    cond_both (is_gone known.gone v) (nothing known) (stops p orders reading v (tenancy_of known.placed v) known)
    (λ (d : Deed Msg Known). AreToldSo p d.outs) (λ _. tt) (λ _. stops_fine p orders reading v (tenancy_of known.placed v) known)

begin_fine : (p : Params) (ask : Ask) → IsAsk ask → AreToldSo p (starts p ask)
unfolding starts
begin_fine p ask within = ((within, tt), ((within, tt), tt))

carrying_fine : (p : Params) (orders : List Order) (reading : ℕ) (o : Order) (known : Known) → IsOrderWithin o.what
    → AreToldSo p (carrying p orders reading o known).outs
unfolding carrying
carrying_fine p orders reading o known within = by_kind o.what within
  where
    by_kind : (k : OrderKind) → IsOrderWithin k → AreToldSo p (carries p orders reading k known).outs
    by_kind (Begin ask) within = begin_fine p ask within
    by_kind (Finish v) within = stopping_fine p orders reading v known

all_carried : (p : Params) (orders : List Order) (reading : ℕ) (some : List Order) (known : Known) → AreOrdersWithin some
    → AreToldSo p (each_in_turn (carrying p orders reading) some known).outs
all_carried p orders reading [] known within = tt
all_carried p orders reading (o ∷ rest) known within =
    all_append (IsToldSo p) (carrying p orders reading o known).outs (each_in_turn (carrying p orders reading) rest (carrying p orders reading o known).state).outs
    (carrying_fine p orders reading o known within.0) (all_carried p orders reading rest (carrying p orders reading o known).state within.1)

some_within : (beat : ℕ) (orders : List Order) → AreOrdersWithin orders → AreOrdersWithin (orders_in beat orders)
unfolding orders_in
some_within beat [] within = tt
some_within beat (o ∷ rest) within =
    cond_both (o.beat == beat) (o ∷ orders_in beat rest) (orders_in beat rest) AreOrdersWithin
    (λ _. (within.0, some_within beat rest within.1)) (λ _. some_within beat rest within.1)

commanding_fine : (p : Params) (orders : List Order) (stamp : Stamp) (known : Known) → AreOrdersWithin orders
    → AreToldSo p (commanding p orders stamp known).outs
unfolding commanding
commanding_fine p orders stamp known within =
    all_carried p orders stamp.reading (orders_in stamp.beat orders) known (some_within stamp.beat orders within)

controller_fine : (p : Params) (s : ControllerState) (i : Input Msg) → s.params ≡ p → AreOrdersWithin s.orders → AreToldSo p (controller_step s i).outs
controller_fine p s (Take stamp link m) same within = tt
controller_fine p s (Tick stamp) same within =
    subst (λ (q : Params). AreToldSo q (controller_step s (Tick stamp)).outs) same (commanding_fine s.params s.orders stamp s.known within)

-- ---- a disk

answers_fine : (p : Params) (stamp : Stamp) (m : Msg) (s : DiskState) → AreToldSo p (answers stamp m s).outs
answers_fine p stamp (msg.ReadAsk want) s = ((tt, tt), tt)
answers_fine p stamp other s = tt

disk_fine : (p : Params) (s : DiskState) (i : Input Msg) → AreToldSo p (disk_step s i).outs
unfolding asked
disk_fine p s (Take stamp link m) =
    cond_both (is_in_form s.params (noted m)) (answers stamp m s) (nothing s) (λ (d : Deed Msg DiskState). AreToldSo p d.outs)
    (λ _. answers_fine p stamp m s) (λ _. tt)
disk_fine p s (Tick stamp) = tt

-- ---- any node

module _ {G : Type 0} (p : Params) (n : ℕ) where
  -- what is known of node n at each event: a cub is the cub of that number, and a controller has good orders
  abbrev pub IsSteady : AnyNode G → Type 0
  IsSteady (node.Cub s) = IsCub s p n
  IsSteady (node.Disk s) = Unit {0}
  IsSteady (node.Controller s) = (s.params ≡ p) × AreOrdersWithin s.orders
  IsSteady (node.Viewers s) = Unit {0}

  pub stays_steady : (s : AnyNode G) (i : Input Msg) → (stamp_of i).reading ≤ most_reading → IsSteady s → IsSteady (any_step s i).state
  stays_steady (node.Cub s) i short at = cub_stays s i p n short at
  stays_steady (node.Disk s) i short at = tt
  stays_steady (node.Controller s) (Take stamp link m) short at = at
  stays_steady (node.Controller s) (Tick stamp) short at = at
  stays_steady (node.Viewers s) i short at = tt

  pub puts_fine : (s : AnyNode G) (i : Input Msg) → (stamp_of i).reading ≤ most_reading → IsSteady s → AreFine p (any_step s i).outs
  puts_fine (node.Cub s) i short at = cub_puts s i p n short at
  puts_fine (node.Disk s) i short at = all_fine p (disk_step s i).outs (disk_fine p s i)
  puts_fine (node.Controller s) i short at = all_fine p (controller_step s i).outs (controller_fine p s i at.0 at.1)
  puts_fine (node.Viewers s) (Take stamp link m) short at = tt
  puts_fine (node.Viewers s) (Tick stamp) short at = tt

-- ---- returns

-- outputs tell of a return first, and nothing behind that does
pub record TellsBack (outs : List (Out Msg)) : Type 0 where
  pub rest : List (Out Msg)
  pub is : outs ≡ out.Act what.Returned ∷ rest
  pub quiet : AreQuietOuts rest

module _ {G : Type 0} where
  -- a node is a cub
  abbrev pub IsACub : AnyNode G → Type 0
  IsACub (node.Cub s) = Unit {0}
  IsACub other = ⊥

  -- if it is one, it last ticked in this beat
  abbrev pub TickedLast : Option ℕ → AnyNode G → Type 0
  TickedLast last (node.Cub s) = s.last ≡ last
  TickedLast last other = Unit {0}

  pub stays_cub : (s : AnyNode G) (i : Input Msg) → IsACub s → IsACub (any_step s i).state
  stays_cub (node.Cub s) i is = tt
  stays_cub other i is = absurd is

  pub ticks_last : (s : AnyNode G) (i : Input Msg) (last : Option ℕ) → TickedLast last s → TickedLast (last_behind i last) (any_step s i).state
  ticks_last (node.Cub s) (Take stamp link m) last is = is
  ticks_last (node.Cub s) (Tick stamp) last is = refl
  ticks_last (node.Disk s) i last is = tt
  ticks_last (node.Controller s) i last is = tt
  ticks_last (node.Viewers s) i last is = tt

  -- a cub that does not come back by an input tells of no return there
  pub puts_quiet : (p : Params) (n : ℕ) (s : AnyNode G) (i : Input Msg) (last : Option ℕ) → IsSteady p n s → TickedLast last s → GoesOn last i
      → AreQuietOuts (any_step s i).outs
  puts_quiet p n (node.Cub s) i last at is on =
      let same : (cub_step s i).outs ≡ (deed_of s.params s.cub i s.store).outs =
      cub_outs s.params s.cub s.store s.last i (subst (λ o. GoesOn o i) (sym is) on) in
      subst AreQuietOuts (sym same) (deed_quiet s.params s.cub i s.store)
  puts_quiet p n (node.Disk s) i last at is on = all_quiet p (disk_step s i).outs (disk_fine p s i)
  puts_quiet p n (node.Controller s) i last at is on = all_quiet p (controller_step s i).outs (controller_fine p s i at.0 at.1)
  puts_quiet p n (node.Viewers s) (Take stamp link m) last at is on = tt
  puts_quiet p n (node.Viewers s) (Tick stamp) last at is on = tt

  -- one that comes back does so
  pub puts_back : (s : AnyNode G) (stamp : Stamp) (last : Option ℕ) → IsACub s → TickedLast last s → was_away last stamp.beat ≡ true
      → TellsBack (any_step s (Tick stamp)).outs
  puts_back (node.Cub s) stamp last cub is away =
      let after : Deed Msg Store = deed_of s.params s.cub (Tick stamp) (returning_store s.params stamp.reading) in
      record {
        rest = out.Send (way_ahead s.params s.cub 1) (msg.Back (comeback_at s.params stamp.reading).serves) ∷ after.outs;
        is = back_outs s.params s.cub s.store s.last stamp (ap (λ o. was_away o stamp.beat) is ∙ away);
        quiet = (tt, deed_quiet s.params s.cub (Tick stamp) (returning_store s.params stamp.reading));
      }
  puts_back other stamp last cub is away = absurd cub
