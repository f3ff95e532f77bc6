use Rattle.std.proofs.Common.{refl, arith}
use Rattle.slot_plan.specs.Times.{time_of}
use Rattle.run_model.specs.Moments.{next_moment}
use Rattle.run_model.specs.Schedule.{after_entry}
use Rattle.run_claims.proofs.rows.no_return.Goals as goal

pub returns-clause-put_in_time : goal.returns-clause-put_in_time
unfolding next_moment after_entry time_of
returns-clause-put_in_time c = (tt, (((λ e. omega arith), tt), tt))

pub returns-clause-put_late : goal.returns-clause-put_late
unfolding next_moment after_entry time_of
returns-clause-put_late c h = let late = h.1.0.0 refl in omega (arith, late)

pub returns-clause-put_of_other : goal.returns-clause-put_of_other
unfolding next_moment after_entry time_of
returns-clause-put_of_other c = (tt, (((λ e. omega (arith, e)), tt), tt))

pub returns-clause-took_in_time : goal.returns-clause-took_in_time
unfolding next_moment after_entry time_of
returns-clause-took_in_time c = (tt, (((λ e. omega arith), tt), tt))

pub returns-clause-took_late : goal.returns-clause-took_late
unfolding next_moment after_entry time_of
returns-clause-took_late c h = let late = h.1.0.0 refl in omega (arith, late)

pub returns-clause-sent_in_time : goal.returns-clause-sent_in_time
unfolding next_moment after_entry time_of
returns-clause-sent_in_time c = (tt, (((λ e. omega arith), tt), tt))

pub returns-clause-block_late : goal.returns-clause-block_late
unfolding next_moment after_entry time_of
returns-clause-block_late c h = let late = h.1.0.0 refl in omega (arith, late)

pub returns-clause-piece_late : goal.returns-clause-piece_late
unfolding next_moment after_entry time_of
returns-clause-piece_late c h = let late = h.1.0.0 refl in omega (arith, late)
