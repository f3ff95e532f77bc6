use Rattle.std.proofs.Common.{◌≡◌, ◌++◌, drop, map, filter}
use Rattle.net_schedule.specs.Cubs.{reserve_of, is_waiting, reserving, IsLonger}
use Rattle.net_schedule.proofs.cub.NetCub.reserve_again.Given as goal

abbrev pub invariant-loop-own : goal.invariant-loop-own
invariant-loop-own l = record {
  rest : l.out.items ++ map (λ o. reserve_of l.self o.entry) (filter (λ o. is_waiting o.state) (drop l.own-index l.self.own)) ≡ l.fn.out.items ++ reserving l.self;
  longer : IsLonger l.fn.out.items l.out.items;
}
