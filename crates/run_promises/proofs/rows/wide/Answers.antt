use Rattle.std.proofs.Common.{◌≡◌, ℕ, ◌+◌, ◌*◌, arith}
use Rattle.std.proofs.Math.Nat.{div-add-mod}
use Rattle.std.proofs.lemmas.Nat.{mod_below}
use Rattle.slot_plan.specs.Times.{first_due, due, time_of}
use Rattle.slot_plan.proofs.Times.{window_parts}
use Rattle.run_promises.specs.Samples.{window_at}
use Rattle.run_promises.proofs.rows.wide.Goals as goal

pub returns-clause-small : goal.returns-clause-small
returns-clause-small c = omega arith

pub returns-clause-one_beat : goal.returns-clause-one_beat
returns-clause-one_beat c = omega arith

pub returns-clause-too_short : goal.returns-clause-too_short
returns-clause-too_short c h = omega (arith, h)

pub returns-clause-plan : goal.returns-clause-plan
returns-clause-plan c = record {
  ranges = record {
    cubs = (omega arith, omega arith);
    disks = (omega arith, omega arith);
    slots = (omega arith, omega arith);
    play = (omega arith, omega arith);
    pieces = (omega arith, omega arith);
    block = (omega arith, omega arith);
    beat = (omega arith, omega arith);
    delay = (omega arith, omega arith);
    skew = omega arith;
    window_a = (omega arith, omega arith);
    window_b = (omega arith, omega arith);
    read_lead = (omega arith, omega arith);
    min_lead = (omega arith, omega arith);
    max_lead = (omega arith, omega arith);
    batch = (omega arith, omega arith);
    heart = (omega arith, omega arith);
    deadman = (omega arith, omega arith);
    hold = (omega arith, omega arith);
  };
  c1 = omega arith;
  c2 = omega arith;
  c3 = omega arith;
  c4 = omega arith;
  c5 = omega arith;
  c6 = omega arith;
  c7 = omega arith;
  c8 = omega arith;
  c9 = omega arith;
  c10 = omega arith;
  c11 = omega arith;
  c12 = omega arith;
}

-- each due time is that of a beat
due_in_beats : (slot visit : ℕ) → (n : ℕ) × (due (window_at 209999) slot visit ≡ n * 10000)
unfolding due first_due
due_in_beats slot visit =
    let whole = div-add-mod (slot * (8 * 1) * 1000000) 16 in
    let rest = mod_below (slot * (8 * 1) * 1000000) 16 (omega arith) in
    (slot * 50 + visit * 100, omega arith)

pub returns-clause-never : goal.returns-clause-never
unfolding time_of
returns-clause-never c beat slot visit h =
    let w = window_parts (window_at 209999) (time_of (window_at 209999) beat) slot visit h in
    let due = (due_in_beats slot visit).1 in
    let low = w.0 in
    let high = w.1 in
    omega arith
