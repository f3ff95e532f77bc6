-- Whoever is believed dead is dead, and nothing comes back.
use Rattle.std.proofs.Common.{◌≡◌, ℕ, ◌+◌, ◌*◌, ◌≤◌, List, ◌∷◌, ◌++◌, true, refl, sym, ap, subst, ◌∙◌, arith, mul-le-mul_right}
use Rattle.tiger_base.specs.declared.number.CubNo.{CubNo}
use Rattle.tiger_base.specs.declared.message.Note.TheVariants as note
use Rattle.slot_plan.specs.declared.params.Params.{Params}
use Rattle.slot_plan.specs.Conditions.{IsPlan, longest_way}
use Rattle.slot_plan.specs.Times.{time_of}
use Rattle.slot_plan.proofs.Times.{time_add, time_times, time_mono}
use Rattle.node_kit.specs.declared.course.Order.{Order}
use Rattle.node_kit.specs.declared.journal.What.{What}
use Rattle.node_kit.specs.declared.journal.What.TheVariants as what
use Rattle.node_kit.specs.declared.journal.Entry.{Entry}
use Rattle.run_facts.specs.Order.{Noted, beat_of, order_of}
use Rattle.run_facts.specs.Timed.{is_died}
use Rattle.run_model.specs.Schedule.{Stop, schedule_of}
use Rattle.run_model.specs.Moments.{moment_at}
use Rattle.run_model.proofs.Moments.{each_is_each_entry}
use Rattle.run_claims.specs.Truths.{IsTrueBelief, BeliefsAreTrue}
use Rattle.run_claims.specs.Returns.{IsSoonAfterStops, BringsNobodyBack, NobodyComesBack}
use Rattle.proof_schedule.specs.Facts.{Facts}
use Rattle.proof_moments.specs.Ties.{StandsIn}
use Rattle.proof_moments.specs.Recorded.{IsRecorded, ParcelsAreInTime}
use Rattle.proof_moments.proofs.Lists.{any_passes}
use Rattle.lists.proofs.Each.{all_by}
use Rattle.proof_moments.proofs.Holders.{stop_from}
use Rattle.proof_moments.proofs.Bridge as bridge
use Rattle.proof_moments.proofs.Free as free

pub ways_after : (p : Params) (z x d : ℕ) → x ≤ z + d * p.delay → time_of p x ≤ time_of p z + d * longest_way p
ways_after p z x d l =
    let m = time_mono p x (z + d * p.delay) l in
    let a = time_add p z (d * p.delay) in
    let t = time_times p d in
    omega arith

-- no record enters later than the stop may go round the ring, within a block play time
pub wave_over : (p : Params) → IsPlan p → (z x : ℕ) → x ≤ z + (p.cubs + 2) * p.delay → time_of p x ≤ time_of p z + p.play
wave_over p plan z x l =
    let m = ways_after p z x (p.cubs + 2) l in
    let c8 = plan.c8 in
    let k : (p.cubs + 2) * longest_way p ≤ (p.cubs + 4) * longest_way p = mul-le-mul_right (longest_way p) (omega arith) in
    omega arith

module _ (p : Params) (r : Facts) (orders : List Order) (journals : List (List Entry)) (w : IsRecorded p r orders journals) (beats : ℕ)
    (front : List Noted) (x : Noted) (back : List Noted) (is_log : front ++ x ∷ back ≡ order_of beats journals) where
  stands : StandsIn journals x.node x.entry
  stands = bridge.stands p r orders journals w beats x (free.here p r orders journals w beats front x back is_log)

  dead : (d : CubNo) → x.entry.what ≡ what.Believed d → (moment_at front).dead d.0 ≡ true
  unfolding moment_at
  dead d is =
      let b = w.tells.believed x.node x.entry d stands is in
      let long = w.one.trust x.node d.0 (beat_of x) b.believed b.behind b.known in
      let l = long.long in
      let by = long.died.by in
      let high = bridge.below p r orders journals w beats x (free.here p r orders journals w beats front x back is_log) in
      let y = bridge.logged p r orders journals w beats d.0 long.died.beat (λ e. e.what ≡ what.Died) (w.logged.died d.0 long.died.beat long.died.died) (omega arith) in
      let yb = y.beat in
      let there = free.lower p r orders journals w beats front x back is_log y.entry y.there (omega arith) in
      any_passes (λ (e : Entry). is_died e.what) _ y.entry.entry (bridge.in_journal d.0 front y.entry there y.node) (ap is_died y.is)

  true_belief : (v : What) → x.entry.what ≡ v → IsTrueBelief (moment_at front) v
  true_belief (what.Believed d) is = dead d is
  true_belief other is = tt

  -- whatever is in time after each stop of an instance is soon after its stops so far
  soon : (v span : ℕ) → ((z : ℕ) → r.Gone v z → time_of p (beat_of x) ≤ time_of p z + span) → IsSoonAfterStops p (moment_at front) v span (beat_of x)
  unfolding moment_at
  soon v span h = all_by (λ (stop : Stop). stop.instance ≡ v → time_of p (beat_of x) ≤ time_of p stop.beat + span) (schedule_of front).stops
      (λ stop i same.
      let g = stop_from front stop i in
      let there = (free.before p r orders journals w beats front x back is_log g.entry g.there).0 in
      let gone = w.tells.gone g.entry.node g.entry.entry g.instance (bridge.stands p r orders journals w beats g.entry there) g.is in
      subst (λ (b : ℕ). time_of p (beat_of x) ≤ time_of p b + span) (sym g.beat)
      (h (beat_of g.entry) (subst (λ (n : ℕ). r.Gone n (beat_of g.entry)) (sym g.same ∙ same) gone)))

  none_back : ParcelsAreInTime p r journals → (v : What) → x.entry.what ≡ v → BringsNobodyBack p (moment_at front) (beat_of x) v
  none_back parcels (what.Put t) is = soon t.instance.0 (longest_way p)
      (λ z g.
      let q = w.tells.put x.node x.entry t stands is in
      let l = w.one.put_before x.node (beat_of x) z t q.put g in
      let m = ways_after p z (beat_of x) 1 (omega arith) in
      omega arith)
  none_back parcels (what.Took q) is = soon q.tenancy.instance.0 p.play
      (λ z g.
      let e = w.tells.took x.node x.entry q stands is in
      let l = w.one.over x.node q.visit (beat_of x) z q.tenancy e g in
      wave_over p w.plan z (beat_of x) l)
  none_back parcels (what.Sent link (note.Whole want sent part)) is = soon want.instance.0 p.play (λ z g. parcels.whole x.node x.entry link want sent part z stands is g)
  none_back parcels (what.Sent link (note.Piece want sent part)) is = soon want.instance.0 p.play (λ z g. parcels.piece x.node x.entry link want sent part z stands is g)
  none_back parcels other is = tt

pub beliefs_are_true : (p : Params) (r : Facts) (orders : List Order) (journals : List (List Entry)) (beats : ℕ) → IsRecorded p r orders journals
    → BeliefsAreTrue (order_of beats journals)
beliefs_are_true p r orders journals beats w = (each_is_each_entry (λ m x. IsTrueBelief m x.entry.what) (order_of beats journals)).1
    (λ front x back is_log. true_belief p r orders journals w beats front x back is_log x.entry.what refl)

pub nobody_comes_back : (p : Params) (r : Facts) (orders : List Order) (journals : List (List Entry)) (beats : ℕ) → IsRecorded p r orders journals → ParcelsAreInTime p r journals
    → NobodyComesBack p (order_of beats journals)
nobody_comes_back p r orders journals beats w parcels = (each_is_each_entry (λ m x. BringsNobodyBack p m (beat_of x) x.entry.what) (order_of beats journals)).1
    (λ front x back is_log. none_back p r orders journals w beats front x back is_log parcels x.entry.what refl)
