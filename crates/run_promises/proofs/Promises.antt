-- All promises together.
use Rattle.run_promises.specs.Promises.{KeptRunsKeepPromises}
use Rattle.run_promises.proofs.Tried.{each_visit_is_tried, a_free_visit_is_enough, nobody_waits_beside_a_free_slot, an_empty_ring_puts_soon}
use Rattle.run_promises.proofs.Room.{who_finds_room_is_put, the_first_block_is_due_soon}
use Rattle.run_promises.proofs.Served.{what_nothing_hinders_comes, one_death_costs_one_block}
use Rattle.run_promises.proofs.House.{who_presses_play_is_served}
use Rattle.run_promises.proofs.Reports.{each_reason_is_true}
use Rattle.run_promises.proofs.Stops.{a_stopped_viewer_is_gone}

pub kept_runs_keep_promises : KeptRunsKeepPromises
kept_runs_keep_promises k w = record {
  tried = each_visit_is_tried k w;
  enough = a_free_visit_is_enough k w;
  turn = nobody_waits_beside_a_free_slot k w;
  room = who_finds_room_is_put k w;
  empty = an_empty_ring_puts_soon k w;
  soon = the_first_block_is_due_soon k w;
  house = who_presses_play_is_served k w;
  comes = what_nothing_hinders_comes k w;
  one_death = one_death_costs_one_block k w;
  reasons = each_reason_is_true k w;
  stops = a_stopped_viewer_is_gone k w;
}
