-- An instance is put once: a cub that puts for a dead one had heard of that one's Put.
use Rattle.std.proofs.Common.{◌≡◌, ℕ, ◌+◌, ◌<◌, ◌≤◌, refl, sym, ap, subst, ◌∙◌, arith, ⊎_elim, inl, inr}
use Rattle.tiger_base.specs.declared.tenancy.Tenancy.{Tenancy}
use Rattle.slot_plan.specs.declared.params.Params.{Params}
use Rattle.slot_plan.specs.Times.{due, cub_of}
use Rattle.slot_plan.proofs.Times.{cub_ahead}
use Rattle.proof_schedule.specs.Facts.{Facts, EnteredBy, Late}
use Rattle.proof_schedule.specs.StateLaws.{PutsOwn, PutsForDead}
use Rattle.proof_schedule.specs.Laws.{Laws}
use Rattle.proof_schedule.proofs.Conflicts.{no_conflict}
use Rattle.proof_schedule.proofs.Ends.{end_of}
use Rattle.proof_schedule.proofs.Lives.{first_same_life, first_life_before, first_is_open}
use Rattle.proof_schedule.proofs.Prefix.{prefix, run_passed}
use Rattle.proof_schedule.proofs.Room.{soon_after}
use Rattle.proof_schedule.proofs.Silence.{dead_first, put_heard}
use Rattle.proof_schedule.proofs.Starts.{started, one_cub, not_held}
use Rattle.proof_schedule.proofs.Timely.{put_in_time}
use Rattle.proof_schedule.proofs.Invariant.{Setting, OnceAt}

module _ (p : Params) (r : Facts) (b : ℕ) (law : Laws p r) (g : Setting p (prefix r b)) where
  -- Suppose cub d put u in beat y, and in beat b cub c puts t, of the same instance, for cub d,
  -- which it believes dead.
  module _ (c d y : ℕ) (t u : Tenancy) (i : r.Put c t b) (j : r.Put d u y) (same : u.instance.0 ≡ t.instance.0) (w : PutsForDead p r c t b) (own : PutsOwn p r d u y) where
    -- Both Puts are at visits of one cub, which is d.
    first_cubs : cub_of p u.first ≡ cub_of p t.first
    first_cubs = one_cub p g.ok g.room r law i j same

    -- The state of cub d's Put goes to cub c.
    next_cub : c ≡ cub_of p (u.first + 1)
    next_cub = w.next ∙ sym (cub_ahead p t.first 1) ∙ ap (λ v. cub_of p (v + 1)) (sym first_cubs) ∙ cub_ahead p u.first 1

    -- It has come before beat b, since cub c believes cub d dead.
    heard : y + p.delay < b
    heard =
        let k = w.believed in
        let by = k.by in
        let first = (law.states.inserts j).first in
        let a = put_heard p g.ok g.room r law own first next_cub k.believed in
        omega arith

    -- Cub c's start came before that state: both starts are of one order, and cub d put after its
    -- own had come.
    start_soon : (law.starts.comes i).start + 1 ≤ y + p.delay
    start_soon =
        let a = started p g.ok g.room r law i in
        let o = started p g.ok g.room r law j in
        let beats : o.beat ≡ a.beat = (law.starts.one_order a.begun o.begun (a.instance ∙ sym same ∙ sym o.instance)).1 in
        let soon = a.soon in
        let after = o.after in
        let before = (law.starts.comes j).before in
        omega arith

    -- The state's record did not enter before beat b: the start would have come while that record
    -- was shown, or after a hold.
    not_entered : {k : ℕ} → EnteredBy (prefix r b) c u u.first k → k ≤ b → ⊥
    not_entered {k} e le =
        let by = e.by in
        ⊎_elim
        (λ q. ⊎_elim
        (λ a.
        let early = a.before in
        let undue = a.due in
        let start = start_soon in
        let timely = put_in_time p g.room r law j in
        let high = (law.run.reads a.ticked).1 in
        let m = soon_after p y a.beat (omega arith) in
        let room = g.room in
        let z : ⊥ = omega (arith, room) in z)
        (λ a. not_held p g.ok g.room r law i a)
        ((law.starts.comes i).unshown u u.first e.beat q.0 same (omega arith)))
        (λ q. let l = q.1 in let z = (law.starts.once i (law.states.inserted q.0).0 same).1 in omega arith)
        e.entered

    -- The instance was not stopped a play time before the state came.
    not_late : {k : ℕ} → Late p (prefix r b) u.instance.0 k → k ≤ y + p.delay → ⊥
    not_late {k} e le =
        let l = heard in
        let before : y < b = omega arith in
        let end = end_of p (prefix r b) g {c = d} {x = y} {z = e.beat} {t = u} (j, before) e.gone in
        let soon = end.1.soon in
        let late = e.late in
        let m1 = soon_after p y k le in
        let m2 = soon_after p e.beat y (omega arith) in
        let play = g.room.play in
        omega arith

    -- No deschedule came before the state, since the start does not come after a hold. So the
    -- supposition is absurd.
    again : ⊥
    again =
        let l = heard in
        let z = law.states.inserts i in
        let to : c ≡ cub_of p (d + 1) = next_cub ∙ sym (cub_ahead p u.first 1) ∙ ap (λ v. cub_of p (v + 1)) (sym own.own) in
        let life = first_same_life r c b z.first in
        let got = law.links.arrives c b own.sent to z.tick.came (life y) (omega arith) in
        let by = got.by in
        let until : got.beat ≤ b = omega arith in
        let then = first_life_before r c b got.beat until z.first in
        let let_in = first_is_open p r c got.beat then (due p u.slot.0 u.first) in
        ⊎_elim
        (λ e. not_entered e until)
        (λ o. ⊎_elim
        (λ e.
        let k = run_passed p r b e in
        let kb = k.by in
        let q = (law.holds.pass k.passed).reached in
        let qb = q.by in
        let reached = subst (λ v. r.Reached c v q.beat) same q.reached in
        let over = (law.starts.comes i).since q.beat reached (omega arith) (life q.beat) in
        not_held p g.ok g.room r law i over)
        (λ e. not_late e by)
        o)
        (no_conflict p (prefix r b) g got.beat c u.first u.first u
        (got.got, until) (inl (refl, inr next_cub)) let_in)

  -- So an instance that is put in beat b was not put before: not by the same cub, nor for a dead
  -- cub that had put it, nor by a cub that was dead.
  pub once_at : OnceAt p r b
  once_at c d y t u le i j same =
      let zi = law.states.inserts i in
      let zj = law.states.inserts j in
      let cubs = one_cub p g.ok g.room r law i j same in
      let here : d ≡ c → (d ≡ c) × (u ≡ t) × (y ≡ b) = λ e. let o = law.starts.once i (subst (λ v. r.Put v u y) e j) same in
      (e, o.0, o.1) in
      ⊎_elim
      (λ own. ⊎_elim
      (λ o. here (o.own ∙ cubs ∙ sym own.own))
      (λ o.
      let dead = dead_first p g.ok g.room r law o in
      let long = dead.long in
      let db = dead.died.by in
      let died = subst (λ v. r.Died v dead.died.beat) (cubs ∙ sym own.own) dead.died.died in
      let last = law.run.last zi.tick.came died zi.first in
      absurd (omega arith))
      zj.who)
      (λ w. ⊎_elim
      (λ o. absurd (again c d y t u i j same w o))
      (λ o. here (o.next ∙ sym (cub_ahead p u.first 1) ∙ ap (λ v. cub_of p (v + 1)) cubs ∙ cub_ahead p t.first 1 ∙ sym w.next))
      zj.who)
      zi.who
