-- A run that passes renewals over: those of which nothing can come any more, and those that would send nothing.
use Rattle.std.specs.Prelude.{ℕ, ◌-◌, ◌==◌, ◌&&◌, ◌||◌, nat_le, Bool, not, if◌then◌else◌, length}
use Rattle.std.specs.List.{fold, range_with_len, list_any}
use Rattle.net_schedule.specs.declared.world.NetEvent.TheVariants as event
use Rattle.net_schedule.specs.Cubs.{CubState, is_waiting}
use Rattle.net_schedule.specs.Worlds.{cub_at}
use Rattle.net_read.specs.Plans.{NetSaid}
use Rattle.net_run.specs.Runs.{Running, done, happened, ordered, is_renewal, delivered, looked}

-- in so many steps no packet comes that is sent now: each step takes one, and as many stand in front of it
abbrev pub has_enough : ℕ → Running → Bool
has_enough left r = nat_le left (length r.out)

-- a cub would send nothing if it renewed
abbrev pub is_quiet : CubState → Bool
is_quiet s = (length s.kept == 0) && not (list_any (λ o. is_waiting o.state) s.own)

-- a cub renews while so many steps are left, unless that would send nothing or nothing of it can come
abbrev pub renewed_by : ℕ → Running → ℕ → Running
renewed_by left r c =
    if has_enough left r || is_quiet (cub_at r.scene.world c) then r
    else done r (event.Renew (record { 0 = c }))

-- each cub of so many does so, by number
abbrev pub renewed_in : ℕ → Running → ℕ → Running
renewed_in left r cubs = fold (renewed_by left) r (range_with_len 0 cubs)

-- the renewals of a step, while so many steps are left, this one counted
abbrev pub shortly_renewed : NetSaid → Running → ℕ → Running
shortly_renewed p r i =
    if is_renewal p.renew i then renewed_in (p.steps - i) r p.ring.cubs else r

abbrev pub shortly_stepped : NetSaid → Running → ℕ → Running
shortly_stepped p r i = looked (delivered (shortly_renewed p (happened r (ordered p.orders i)) i))
