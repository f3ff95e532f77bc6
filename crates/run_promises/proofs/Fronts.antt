-- What stands at the end of a tick of a cub, and that it stays until the end of a later one.
use Rattle.std.proofs.Common.{◌≡◌, ℕ, ◌<◌, ◌≤◌, true, List, filter, Option, Some, None, refl, sym, ap, subst, ◌∙◌, arith, ⊎_elim, inl, inr, false}
use Rattle.std.specs.Prelude.{◌==◌}
use Rattle.std.proofs.lemmas.Bool.{eqb-true, eq-eqb, ltb-true, lt-ltb, cases_lt}
use Rattle.tiger_base.specs.declared.number.Instance.{Instance}
use Rattle.tiger_base.specs.declared.tenancy.Tenancy.{Tenancy}
use Rattle.node_kit.specs.declared.journal.What.{What}
use Rattle.node_kit.specs.declared.journal.What.TheVariants as what
use Rattle.node_kit.specs.declared.journal.Entry.{Entry}
use Rattle.node_kit.specs.declared.course.Kept.{Kept}
use Rattle.node_kit.specs.Life.{lifetime_of}
use Rattle.run_facts.specs.Order.{Noted, beat_of, journal_of}
use Rattle.run_model.specs.Schedule.{Stop, schedule_of}
use Rattle.run_model.specs.Moments.{moment_at, is_put_of, is_belief_of}
use Rattle.run_model.specs.Orders.{is_up_to, end_of_tick}
use Rattle.run_model.specs.Runs.{EndsBeat}
use Rattle.run_model.proofs.Ticking.{ends_undying, ends_before}
use Rattle.lists.specs.Elements.{In}
use Rattle.proof_moments.proofs.Bridge.{put_is}
use Rattle.proof_moments.proofs.Lists.{any_passes, any_passing}
use Rattle.lists.proofs.Elements.{in_map, from_map, in_filter, from_filter}
use Rattle.proof_moments.proofs.Ticks.{up_to_by, up_to_parts}
use Rattle.proof_moments.proofs.Holders.{who_has, stop_from, stop_in}
use Rattle.run_promises.specs.Kept.{WasPut, WasStopped}
use Rattle.run_promises.specs.Waits.{LivesTo}

-- ---- who was put, who has a slot, and who was stopped

-- an entry of a log puts a tenancy
pub record IsPutBy (log : List Noted) (t : Tenancy) : Type 0 where
  pub entry : Noted
  pub there : In entry log
  pub is : entry.entry.what ≡ what.Put t

-- an entry of a log stops an instance
pub record IsGoneBy (log : List Noted) (v : ℕ) : Type 0 where
  pub entry : Noted
  pub there : In entry log
  pub instance : Instance
  pub is : entry.entry.what ≡ what.Gone instance
  pub same : instance.0 ≡ v

-- who was put at the end of a tick was put by an entry of a beat up to the tick's
pub put_by_tick : (log : List Noted) (c beat v : ℕ) → WasPut (end_of_tick beat c log) v
    → (t : Tenancy) × (q : IsPutBy log t) × (t.instance.0 ≡ v) × (beat_of q.entry ≤ beat)
unfolding moment_at
put_by_tick log c beat v h =
    let q = any_passing (λ (x : Noted). is_put_of v x.entry.what) (filter (is_up_to beat c) log) h in
    let i = from_filter (is_up_to beat c) q.0 log q.1 in
    let t = put_is v q.0.entry.what q.2 in (
      t.0,
      record { entry = q.0; there = i.0; is = t.1 },
      t.2,
      ⊎_elim (λ l. omega arith) (λ e. let same = e.0 in omega arith) (up_to_parts beat c q.0 i.1),
    )

-- who has a slot at the end of a tick was put into it by then
pub holder_by_tick : (log : List Noted) (c beat slot : ℕ) (t : Tenancy) → (end_of_tick beat c log).schedule.holder slot ≡ Some t
    → IsPutBy log t × (t.slot.0 ≡ slot) × WasPut (end_of_tick beat c log) t.instance.0
unfolding moment_at
holder_by_tick log c beat slot t h =
    let q = who_has (filter (is_up_to beat c) log) slot t h in
    let i = from_filter (is_up_to beat c) q.entry log q.there in (
      record { entry = q.entry; there = i.0; is = q.is },
      q.slot,
      any_passes (λ (x : Noted). is_put_of t.instance.0 x.entry.what) (filter (is_up_to beat c) log) q.entry q.there
          (ap (λ (w : What). is_put_of t.instance.0 w) q.is ∙ eq-eqb t.instance.0 t.instance.0 refl),
    )

-- a stop of the schedule at the end of a tick is an entry of its beat, which is up to the tick's
pub stop_by_tick : (log : List Noted) (c beat : ℕ) (stop : Stop) → In stop (end_of_tick beat c log).schedule.stops
    → (g : IsGoneBy log stop.instance) × (stop.beat ≡ beat_of g.entry) × (stop.beat ≤ beat)
unfolding moment_at
stop_by_tick log c beat stop i =
    let w = stop_from (filter (is_up_to beat c) log) stop i in
    let f = from_filter (is_up_to beat c) w.entry log w.there in
    let at = w.beat in (
      record { entry = w.entry; there = f.0; instance = w.instance; is = w.is; same = sym w.same },
      w.beat,
      ⊎_elim (λ l. omega arith) (λ e. let same = e.0 in omega arith) (up_to_parts beat c w.entry f.1),
    )

pub stopped_by_tick : (log : List Noted) (c beat v : ℕ) → WasStopped (end_of_tick beat c log) v → IsGoneBy log v
stopped_by_tick log c beat v h =
    let q = any_passing (λ (stop : Stop). stop.instance == v) (end_of_tick beat c log).schedule.stops h in
    subst (λ (u : ℕ). IsGoneBy log u) (eqb-true q.0.instance v q.2) (stop_by_tick log c beat q.0 q.1).0

-- ---- what stays

later_up_to : (b last c : ℕ) (x : Noted) → b ≤ last → is_up_to b c x ≡ true → is_up_to last c x ≡ true
later_up_to b last c x h t = up_to_by last c x (⊎_elim
    (λ l. let z : beat_of x < last = omega arith in inl z)
    (λ q. let e = q.0 in ⊎_elim
    (λ (l : b < last). let z : beat_of x < last = omega arith in inl z)
    (λ (g : last ≤ b). let z : beat_of x ≡ last = omega arith in inr (z, q.1))
    (cases_lt b last))
    (up_to_parts b c x t))

-- what stands up to the end of a tick stands up to the end of a later one of the same cub
later_front : (log : List Noted) (b last c : ℕ) (x : Noted) → b ≤ last → In x (filter (is_up_to b c) log) → In x (filter (is_up_to last c) log)
later_front log b last c x h i =
    let q = from_filter (is_up_to b c) x log i in
    in_filter (is_up_to last c) x log q.0 (later_up_to b last c x h q.1)

pub put_stays : (log : List Noted) (b last c v : ℕ) → b ≤ last → WasPut (end_of_tick b c log) v → WasPut (end_of_tick last c log) v
unfolding moment_at
put_stays log b last c v h t =
    let q = any_passing (λ (x : Noted). is_put_of v x.entry.what) (filter (is_up_to b c) log) t in
    any_passes (λ (x : Noted). is_put_of v x.entry.what) (filter (is_up_to last c) log) q.0 (later_front log b last c q.0 h q.1) q.2

pub stop_stays : (log : List Noted) (b last c v : ℕ) → b ≤ last → WasStopped (end_of_tick b c log) v → WasStopped (end_of_tick last c log) v
unfolding moment_at
stop_stays log b last c v h t =
    let q = any_passing (λ (stop : Stop). stop.instance == v) (schedule_of (filter (is_up_to b c) log)).stops t in
    let w = stop_from (filter (is_up_to b c) log) q.0 q.1 in
    let i = stop_in (filter (is_up_to last c) log) w.entry w.instance (later_front log b last c w.entry h w.there) w.is in
    any_passes (λ (stop : Stop). stop.instance == v) (schedule_of (filter (is_up_to last c) log)).stops _ i
    (eq-eqb w.instance.0 v (sym w.same ∙ eqb-true q.0.instance v q.2))

-- what a journal has at the end of a tick is an entry of the front
pub in_front_journal : (front : List Noted) (c : ℕ) (e : Entry) → In e (journal_of c front)
    → (x : Noted) × In x front × (x.node ≡ c) × (x.entry ≡ e)
in_front_journal front c e i =
    let m = from_map (λ (x : Noted). x.entry) e (filter (λ (x : Noted). x.node == c) front) i in
    let f = from_filter (λ (x : Noted). x.node == c) m.0 front m.1 in
    (m.0, f.0, eqb-true m.0.node c f.1, sym m.2)

pub into_front_journal : (front : List Noted) (c : ℕ) (x : Noted) → In x front → x.node ≡ c → In x.entry (journal_of c front)
into_front_journal front c x i own =
    in_map (λ (x : Noted). x.entry) x (filter (λ (x : Noted). x.node == c) front)
    (in_filter (λ (x : Noted). x.node == c) x front i (eq-eqb x.node c own))

pub belief_stays : (log : List Noted) (b last c d : ℕ) → b ≤ last → (end_of_tick b c log).believed c d ≡ true
    → (end_of_tick last c log).believed c d ≡ true
unfolding moment_at
belief_stays log b last c d h t =
    let q = any_passing (λ (e : Entry). is_belief_of d e.what) (journal_of c (filter (is_up_to b c) log)) t in
    let x = in_front_journal (filter (is_up_to b c) log) c q.0 q.1 in
    let i = into_front_journal (filter (is_up_to last c) log) c x.0 (later_front log b last c x.0 h x.1) x.2 in
    any_passes (λ (e : Entry). is_belief_of d e.what) (journal_of c (filter (is_up_to last c) log)) x.0.entry i
    (subst (λ (e : Entry). is_belief_of d e.what ≡ true) (sym x.3) q.2)

-- a cub that does not die by the end of a beat ends each beat up to it
pub ends_each : (k : Kept) (c b last : ℕ) → b ≤ last → LivesTo k c last → EndsBeat (lifetime_of k.course c) b
ends_each k c b last low lives = by (lifetime_of k.course c).death refl
  where
    by : (death : Option ℕ) → (lifetime_of k.course c).death ≡ death → EndsBeat (lifetime_of k.course c) b
    by None e = ends_undying (lifetime_of k.course c) b e
    by (Some d) e = let l = lives d e in ends_before (lifetime_of k.course c) d b e (omega (arith, low, l))
