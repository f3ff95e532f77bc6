-- Cubs and the links between them meet the laws of splits, mirror states and kills.
use Rattle.std.proofs.Common.{◌≡◌, ℕ, ◌<◌, ◌≤◌, refl, ap, arith, ⊎_elim, inl, inr}
use Rattle.std.specs.Prelude.{◌⊎◌}
use Rattle.std.proofs.lemmas.Bool.{cases_lt}
use Rattle.tiger_base.specs.declared.tenancy.Tenancy.{Tenancy}
use Rattle.tiger_base.specs.declared.message.Msg.{Msg}
use Rattle.slot_plan.specs.declared.params.Params.{Params}
use Rattle.slot_plan.specs.Conditions.{IsPlan}
use Rattle.disk_core.specs.State.{DiskState}
use Rattle.node_kit.specs.Steps.{Input, stamp_of}
use Rattle.proof_lives.specs.Lives.{Lives, AreLives, beat_at}
use Rattle.run_facts.specs.Events.{is_tick_input}
use Rattle.proof_lives.specs.Facts.{TickAt, ReachedAt}
use Rattle.proof_lives.proofs.Beside.{whole_to, whole_tick}
use Rattle.proof_lives.proofs.Cuts.{whole_before, whole_by_tick, goes_whole}
use Rattle.proof_lives.proofs.Fitting.{Fits, alone_fits}
use Rattle.proof_lives.proofs.Order.{beats_rise, behind}
use Rattle.proof_lives.specs.HoldsHere.{AreAllFormed}
use Rattle.proof_lives.proofs.HoldLaws.{reached_at}
use Rattle.proof_lives.proofs.Begun.{IsStop}
use Rattle.proof_pieces.specs.PieceLaws.{IsKilled, IsForgotten}
use Rattle.proof_facts.specs.Blocks.{blocks_by}
use Rattle.proof_facts.specs.Carried.{CubsAreTold}
use Rattle.proof_lives.specs.FactsBy.{Beyond, CameToTick, facts_by, cubs_alone}
use Rattle.proof_facts.specs.Laws.{SplitLaws}
use Rattle.proof_facts.specs.Pieces.{stamp_of as made_stamp, SplitAt, pieces_by}
use Rattle.proof_splits.specs.Splitting.{CubsSplitRightly}
use Rattle.proof_splits.proofs.MirrorStates.{sends_all}
use Rattle.proof_splits.proofs.Remembered.{split_remembered, killed_by}
use Rattle.proof_splits.proofs.Backups.{splits}
use Rattle.proof_splits.proofs.Unsplit.{split_due}
use Rattle.proof_pieces.specs.PieceFacts.{PieceFacts}
use Rattle.proof_splits.proofs.Among.{SendsAreKnown, alone_known}
use Rattle.proof_splits.proofs.Arrivals.{mirrors, mirrored, late, kill_reached, mirror_arrives, killed, dropped}
use Rattle.proof_splits.proofs.LeftVisits.{left}

-- What a cub split before it was reached by a deschedule it has killed by then, or forgotten.
kills : (p : Params) (lives : Lives) → IsPlan p → AreLives p lives → AreAllFormed p lives → (beyond : Beyond)
    → {a : ℕ} {t : Tenancy} {n x y b l : ℕ} → SplitAt p lives a t n x
    → ReachedAt p lives a t.instance.0 y → x < y → TickAt p lives a b l → y ≤ b
    → IsKilled p (facts_by p lives beyond) (pieces_by p lives) a t n x y
    ⊎ IsForgotten p (facts_by p lives beyond) a t n y
kills p lives plan are formed beyond {a} {t} {n} {x} {y} {b} {l} w g less tick le =
    let small : a < p.cubs = w.tick.small in
    let count : ℕ = lives.count a in
    let inputs : ℕ → Input Msg = lives.input a in
    let i : ℕ = w.tick.at in
    let j : ℕ = g.took.at in
    let xb : beat_at inputs i ≡ x = ap (λ (k : Input Msg). (stamp_of k).beat) w.tick.is in
    let yb : beat_at inputs j ≡ y = ap (λ (k : Input Msg). (stamp_of k).beat) g.took.is in
    let later : i < j = ⊎_elim
    (λ (l : i < j). l)
    (λ (q : j ≤ i). let rise = beats_rise p count inputs (are a small) j i q w.tick.done in absurd (omega arith))
    (cases_lt i j) in
    let zb : beat_at inputs tick.at ≡ b = ap (λ (k : Input Msg). (stamp_of k).beat) tick.is in
    let whole = whole_by_tick p lives are a j tick.at small g.took.done tick.done (ap is_tick_input g.took.is)
    (ap is_tick_input tick.is) (omega arith) in
    let stop : IsStop p a inputs j t.instance.0 =
    record {
      stamp = made_stamp y g.took.reading;
      link = g.took.link;
      instance = g.instance;
      tag = g.tag;
      is =
          g.took.is;
      same = g.same;
    } in
    ⊎_elim
    (λ o.
    let after = o.after in
    let by = o.by in
    let high = g.took.done in
    let done : o.at < count = omega arith in
    let above = behind p count inputs (are a small) i o.at o.after done (ap is_tick_input w.tick.is) in
    let below = beats_rise p count inputs (are a small) o.at j o.by g.took.done in
    inl (record {
      beat = beat_at inputs o.at;
      reached = reached_at p lives a o.at t.instance.0 small done o.stop;
      after = omega arith;
      by = omega arith;
      kills = λ k some few. record {
        some = some;
        did = record {
          small = small;
          at = o.at;
          done = done;
          in_beat = refl;
          did = goes_whole p lives a o.at _ (whole_to lives a o.at j o.by g.took.done whole) (o.kills k some few);
        };
      };
    }))
    (λ o.
    let before = o.before in
    let high = g.took.done in
    let done : o.at < count = omega arith in
    let beat : beat_at inputs o.at ≡ o.stamp.beat = ap (λ (k : Input Msg). (stamp_of k).beat) o.is in
    let below = behind p count inputs (are a small) o.at j o.before g.took.done (ap is_tick_input o.is) in
    inr (record {
      beat = o.stamp.beat;
      reading = o.stamp.reading;
      ticked = record { small = small; at = o.at; done = done; is = o.is; whole = whole_before lives a o.at j o.before g.took.done };
      before = omega arith;
      past = o.past;
    }))
    (killed_by p a count inputs (formed a small) (t.instance, t.slot, n) i j g.took.done
    (split_remembered p lives w) later stop)

-- Whatever is known beyond the cubs' lives, if it fits them, cubs are told what other cubs send, and these facts know of that.
pub split_laws : (p : Params) (lives : Lives) → IsPlan p → AreLives p lives → AreAllFormed p lives → (beyond : Beyond)
    → Fits p lives beyond → CubsAreTold p lives beyond → (among : PieceFacts) → SendsAreKnown p beyond among
    → (disk_at : ℕ → DiskState)
    → SplitLaws p (facts_by p lives beyond) (pieces_by p lives) among (blocks_by p lives disk_at) (CameToTick p lives)
split_laws p lives plan are formed beyond fits told among known disk_at = record {
  splits = λ w. splits p plan lives are formed beyond fits.came w;
  left = λ w. left p plan lives are formed beyond told among known disk_at w;
  nothing_spared = λ c t n b w. absurd w;
  mirrors = λ w. mirrors p lives are w;
  mirrored = λ w. mirrored p plan lives are formed beyond fits told among known w;
  late = λ m back le. late p plan lives are formed beyond fits told among known m back le;
  kills = λ w g less up le. kills p lives plan are formed beyond w g less up.tick le;
  kill_reached = λ w. kill_reached p lives are w;
  killed = λ split w to number uses after. killed p plan lives are formed beyond fits told among known split w to number uses after;
  split_due = λ believed entered next tick first left time.
      split_due p plan lives are formed beyond believed entered next tick left time;
  mirrors_due = λ k w tick low high. sends_all p lives _ k w (whole_tick p lives are w.tick tick) low high;
  mirror_arrives = λ d b w to here up life lets after.
      mirror_arrives p plan lives are formed beyond fits told among known d b w to here up life lets after;
  dropped = λ w. dropped p plan lives are formed beyond fits told among known w;
}

-- what is claimed of cubs alone
pub split_rightly : CubsSplitRightly
split_rightly p lives plan are formed told disk_at =
    split_laws p lives plan are formed (cubs_alone p lives) (alone_fits p lives) told (pieces_by p lives)
    (alone_known p lives) disk_at
