-- A run of a plan: what each step makes of the ring, and of the packets that are under way.
use Rattle.std.specs.Prelude.{◌≡◌, ℕ, ◌-◌, ◌%◌, ◌==◌, ◌&&◌, nat_lt, Bool, true, false, if◌then◌else◌, List, [], ◌∷◌, ◌++◌, length, map, filter, Option, Some, None, option_map, unwrap_or}
use Rattle.std.specs.List.{fold, range_with_len, flat_map, AllByRecursion}
use Rattle.std.specs.Option.{is_some}
use Rattle.rand_pcg.specs.Lcg.{Lcg, started, increment_of}
use Rattle.rand_pcg.specs.Pcg.{multiplier_64, pcg32}
use Rattle.net_schedule.specs.declared.ring.Entry.{Entry}
use Rattle.net_schedule.specs.declared.ring.NetState.TheVariants as state
use Rattle.net_schedule.specs.declared.ring.Own.{Own}
use Rattle.net_schedule.specs.declared.world.NetEvent.{NetEvent}
use Rattle.net_schedule.specs.declared.world.NetEvent.TheVariants as event
use Rattle.net_schedule.specs.Worlds.{WorldState, fresh_world, after, asked_at, state_at}
use Rattle.net_read.specs.declared.plan.NetOrder.{NetOrder}
use Rattle.net_read.specs.declared.plan.NetOrder.TheVariants as order
use Rattle.net_read.specs.Orders.{step_of}
use Rattle.net_read.specs.Plans.{NetSaid}
use Rattle.net_run.specs.declared.peak.Peak.{Peak}
use Rattle.net_run.specs.Peaks.{no_peak, peak_after}

-- the ring and the peak so far
pub record Scene : Type 0 where
  pub world : WorldState
  pub peak : Peak

-- A run between two events: the scene, the numbers of the packets that are under way, the oldest first, and the
-- generator, if it is drawn what becomes of them. A number counts the packets from 0 in the order of sending.
pub record Running : Type 0 where
  pub scene : Scene
  pub out : List ℕ
  pub draws : Option Lcg

-- the numbers of what one ring sent more than another
abbrev pub sent_since : WorldState → WorldState → List ℕ
sent_since old new = range_with_len (length old.sent) (length new.sent - length old.sent)

abbrev pub in_world : Scene → NetEvent → Scene
in_world s e = record s { world = after s.world e }

-- An event is done, and what it sends goes to the end of what is under way.
abbrev pub done : Running → NetEvent → Running
done r e = record r {
  scene = in_world r.scene e;
  out = r.out ++ sent_since r.scene.world (after r.scene.world e);
}

-- ---- what is delivered

abbrev pub came : Running → ℕ → Running
came r n = done r (event.Deliver n)

-- what becomes of the oldest packet: without a draw it is delivered; by a draw of 0 it is lost, by 1 it is delivered
-- and goes to the end too, and by 2 or 3 it is delivered
abbrev pub fated : Running → ℕ → Option ℕ → Running
fated r n None = came r n
fated r n (Some draw) =
    if draw == 0 then r
    else if draw == 1 then came (record r { out = r.out ++ n ∷ [] }) n
    else came r n

-- what is drawn for a packet, from 0 to 3
abbrev pub draw_of : Option Lcg → Option ℕ
draw_of draws = option_map (λ g. (pcg32 g).0 % 4) draws

abbrev pub drawn : Option Lcg → Option Lcg
drawn draws = option_map (λ g. (pcg32 g).1) draws

-- the oldest packet that is under way, if there is one, is taken, and meets its fate
abbrev pub taking_first : Running → List ℕ → Running
taking_first r [] = r
taking_first r (n ∷ rest) = fated (record r { out = rest; draws = drawn r.draws }) n (draw_of r.draws)

abbrev pub delivered : Running → Running
delivered r = taking_first r r.out

-- ---- the steps

abbrev pub event_of : NetOrder → NetEvent
event_of (order.Ask step entry) = event.Ask entry.instance entry.at entry.rate
event_of (order.Stop step instance) = event.Stop instance

abbrev pub is_in : ℕ → NetOrder → Bool
is_in i o = step_of o == i

-- an order, if there is one and it is in a step
abbrev pub if_in : ℕ → Option NetOrder → Option NetOrder
if_in i None = None
if_in i (Some o) = if is_in i o then Some o else None

-- what is ordered in a step
abbrev pub ordered : List NetOrder → ℕ → List NetEvent
ordered orders i = map event_of (filter (is_in i) orders)

-- a step behind the first in which all cubs send again what was maybe lost
abbrev pub is_renewal : Option ℕ → ℕ → Bool
is_renewal None i = false
is_renewal (Some k) i = nat_lt 0 i && (i % k == 0)

-- each cub does so, by number
abbrev pub renewals : ℕ → List NetEvent
renewals cubs = map (λ c. event.Renew (record { 0 = c })) (range_with_len 0 cubs)

abbrev pub happened : Running → List NetEvent → Running
happened r es = fold done r es

abbrev pub renewed : NetSaid → Running → ℕ → Running
renewed p r i = if is_renewal p.renew i then happened r (renewals p.ring.cubs) else r

abbrev pub looked : Running → Running
looked r = record r { scene = record r.scene { peak = peak_after r.scene.peak r.scene.world } }

-- A step: what is ordered in it, what is sent again, and a delivery; then the ring is looked at.
abbrev pub stepped : NetSaid → Running → ℕ → Running
stepped p r i = looked (delivered (renewed p (happened r (ordered p.orders i)) i))

abbrev pub generator_of : Option ℕ → Option Lcg
generator_of seed = option_map (λ x. started 64 multiplier_64 x (increment_of 64 2)) seed

abbrev pub begun : NetSaid → Running
begun p = record {
  scene = record { world = fresh_world p.ring; peak = no_peak };
  out = [];
  draws = generator_of p.seed;
}

-- the run, once so many steps are over
unfoldable pub run_to : NetSaid → ℕ → Running
run_to p n = fold (stepped p) (begun p) (range_with_len 0 n)

-- the whole run
abbrev pub run_of : NetSaid → Running
run_of p = run_to p p.steps

-- ---- what is told of it

-- the entry of an ask
abbrev pub entry_of : NetOrder → List Entry
entry_of (order.Ask step entry) = entry ∷ []
entry_of (order.Stop step instance) = []

-- how the entry of an instance stands; that nothing is known of it, and so it waits, never comes (`EachStands`)
abbrev pub standing_of : WorldState → Entry → Own
standing_of w e = record { entry = e; state = unwrap_or (state_at w (asked_at w e.instance) e.instance) state.Waiting }

-- each entry that is asked for, in order, and how it stands in a ring
abbrev pub standings : List NetOrder → WorldState → List Own
standings orders w = map (standing_of w) (flat_map entry_of orders)

-- each entry that is asked for was asked of its cub, so that how it stands is known
abbrev pub EachStands : List NetOrder → WorldState → Type 0
EachStands orders w =
    AllByRecursion (λ e. is_some (state_at w (asked_at w e.instance) e.instance) ≡ true) (flat_map entry_of orders)
