-- Worked plans and runs for the promises.
use Rattle.std.specs.Prelude.{ℕ, zero, suc, Bool, true, false, List, [], ◌∷◌, Option, None, Some}
use Rattle.tiger_base.specs.declared.message.Note.TheVariants as note
use Rattle.tiger_base.specs.Records.{own_of}
use Rattle.tiger_base.specs.declared.tenancy.Ask.{Ask}
use Rattle.link_timing.specs.declared.Delay.TheVariants as delays
use Rattle.slot_plan.specs.declared.params.Params.{Params}
use Rattle.slot_plan.specs.Conditions.{IsPlan}
use Rattle.slot_plan.specs.Samples.{small}
use Rattle.node_kit.specs.declared.course.Kept.{Kept}
use Rattle.node_kit.specs.declared.course.Order.{Order}
use Rattle.node_kit.specs.declared.course.ReadFault.{ReadFault}
use Rattle.node_kit.specs.declared.journal.What.TheVariants as what
use Rattle.run_facts.specs.Order.{Noted}
use Rattle.node_kit.specs.declared.course.OrderKind.TheVariants as kind
use Rattle.run_promises.specs.Waits.{Wait}
use Rattle.run_model.specs.Samples.{IsOfTen, ten, all, at, ask_for, begins, ordered, starts, seat_in, seated, sends, gets, dies, dying, first_block, put, took, gone, later, three, of_none}

-- the small plan with another play time, beginning of the window and silence after which a cub is believed dead
abbrev pub small_with : ℕ → ℕ → ℕ → Params
small_with play window_a deadman = record {
  cubs = 8;
  disks = 1;
  slots = 16;
  play = play;
  pieces = 2;
  block = 4;
  beat = 10000;
  delay = 2;
  skew = 4000;
  window_a = window_a;
  window_b = 200000;
  read_lead = 100000;
  min_lead = 3000000;
  max_lead = 4000000;
  batch = 20;
  heart = 50;
  deadman = deadman;
  hold = 3000000;
}

-- with another beginning of the window alone
abbrev pub window_at : ℕ → Params
window_at a = small_with 1000000 a 1000000

-- what is kept of a run of 1600 beats over the file of ten bytes, with these deaths, faults and orders, in which all
-- lives are whole and all clocks show the true time
abbrev pub run_of : Kept → IsPlan small → IsOfTen → List (Option ℕ) → List ReadFault → List Order → List Noted
    → Kept
run_of other plan sound deaths faults orders log = record {
  course = record {
    plan = record { params = small; sound = plan };
    beats = 1600;
    offsets = 0 ∷ 0 ∷ 0 ∷ 0 ∷ 0 ∷ 0 ∷ 0 ∷ 0 ∷ 0 ∷ [];
    deaths = deaths;
    cuts = of_none;
    backs = of_none;
    faults = faults;
    delay = delays.Fixed 1;
  };
  catalogue = ten sound;
  orders = orders;
  journals = all log;
  digests = other.digests;
}

-- nobody dies
abbrev pub all_live : List (Option ℕ)
all_live = None ∷ None ∷ None ∷ None ∷ None ∷ None ∷ None ∷ None ∷ []

-- instance 0 is to play the first block of the file
abbrev pub one_block : Ask
one_block = ask_for 0 0 1 0

-- the controller sends the start to a cub in beat 0, the plain one or the redundant one
abbrev pub sends_start : ℕ → Bool → Noted
sends_start cub redundant = at 16 0 (what.Sent (record { 0 = cub }) (note.Start redundant one_block))

-- the start comes to cub 0 and to cub 1; cub 0 puts instance 0 into slot 1 for visit 0, and the block comes
abbrev pub one_log : List Noted
one_log =
    sends_start 0 false ∷ sends_start 1 true ∷ starts 0 1 one_block false ∷ seated ∷ starts 1 1 one_block true
    ∷ sends 0 50 first_block ∷ gets 0 51 first_block ∷ []

-- the run of one viewer
abbrev pub one_viewer : Kept → IsPlan small → IsOfTen → Kept
one_viewer other plan sound = run_of other plan sound all_live [] (begins one_block) one_log

-- and its start, as it waits at a cub in some beats
abbrev pub wait : ℕ → ℕ → ℕ → Wait
wait cub from last = record { ask = one_block; ordered = 0; cub = cub; from = from; last = last }

-- so many starts are ordered in beat 0; and one stop, of instance 0, in a beat
abbrev pub many : ℕ → List Order
many zero = []
many (suc n) = (record { beat = 0; what = kind.Begin (ask_for n 0 1 0) }) ∷ many n

abbrev pub stop_in : ℕ → List Order
stop_in beat = (record { beat = beat; what = kind.Finish (record { 0 = 0 }) }) ∷ []

-- a run in which nothing is written, of these deaths, faults and orders
abbrev pub silent : Kept → IsPlan small → IsOfTen → List (Option ℕ) → List ReadFault → List Order → Kept
silent other plan sound deaths faults orders = run_of other plan sound deaths faults orders []

-- instance 0 is put and stopped in beat 20, and cub 0 keeps a record of it until a beat
abbrev pub stopped_log : ℕ → List Noted
stopped_log beat = put 0 1 three ∷ took 0 1 (own_of three 0) ∷ gone 20 0 ∷ later beat ∷ []

-- ---- runs that break promises

-- the start of one block is ordered in beat 0, and nothing is written
abbrev pub unanswered : Kept → IsPlan small → IsOfTen → Kept
unanswered other plan sound = silent other plan sound all_live [] (begins one_block)

-- cub 0 puts it in a beat into a slot for one visit; nothing else is written, so that no block comes
abbrev pub placed : Kept → IsPlan small → IsOfTen → ℕ → ℕ → ℕ → Kept
placed other plan sound beat slot visit =
    run_of other plan sound all_live [] (begins one_block) (put 0 beat (seat_in slot 0 visit visit) ∷ [])

-- the start of three blocks is put for visits 0, 1 and 2; cub 1 alone dies, and no block comes
abbrev pub two_lost : Kept → IsPlan small → IsOfTen → Kept
two_lost other plan sound =
    run_of other plan sound (dying None (Some 101) None) [] ordered (put 0 1 three ∷ dies 1 101 ∷ [])

-- a stop of instance 0 is ordered in beat 20, in a run with this log
abbrev pub stopped_run : Kept → IsPlan small → IsOfTen → List Noted → Kept
stopped_run other plan sound log = run_of other plan sound all_live [] (stop_in 20) log

-- and nobody carries it out by beat 21
abbrev pub unstopped_log : List Noted
unstopped_log = put 0 1 three ∷ later 21 ∷ []
