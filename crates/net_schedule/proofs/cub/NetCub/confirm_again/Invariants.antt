use Rattle.std.proofs.Common.{◌≡◌, ◌++◌, drop, map}
use Rattle.net_schedule.specs.Cubs.{confirm_of, confirming, IsLonger}
use Rattle.net_schedule.proofs.cub.NetCub.confirm_again.Given as goal

abbrev pub invariant-loop-entry : goal.invariant-loop-entry
invariant-loop-entry l = record {
  rest : l.out.items ++ map (λ e. confirm_of l.self e.instance) (drop l.entry-index l.self.kept) ≡ l.fn.out.items ++ confirming l.self;
  longer : IsLonger l.fn.out.items l.out.items;
}
