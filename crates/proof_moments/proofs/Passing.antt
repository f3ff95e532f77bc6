-- No start is passed over.
use Rattle.std.proofs.Common.{◌≡◌, ℕ, ◌+◌, ◌<◌, ◌≤◌, ◌%◌, List, ◌++◌, filter, not, Bool, true, false, IsTrue, Some, refl, sym, ap, subst, ◌∙◌, arith, ⊎_elim, inl, inr, eq-or-lt_of_le}
use Rattle.std.specs.Prelude.{◌⊎◌, ◌==◌, slice_get}
use Rattle.std.specs.List.{list_any}
use Rattle.std.proofs.lemmas.Bool.{cases_Bool, cases_lt, eqb-true, eq-eqb, true≢false}
use Rattle.std.proofs.Math.Nat.{mod-mod_of_dvd, dvd-mul_right, mod-add-mod}
use Rattle.tiger_base.specs.declared.number.CubNo.{CubNo}
use Rattle.tiger_base.specs.declared.number.LinkNo.{LinkNo}
use Rattle.tiger_base.specs.declared.tenancy.Ask.{Ask}
use Rattle.tiger_base.specs.declared.tenancy.Rec.{Rec}
use Rattle.tiger_base.specs.declared.tenancy.Tenancy.{Tenancy}
use Rattle.tiger_base.specs.declared.message.Note.TheVariants as note
use Rattle.slot_plan.specs.declared.params.Params.{Params}
use Rattle.slot_plan.specs.Times.{time_of, due, cub_of, disk_of, in_window}
use Rattle.slot_plan.proofs.Times.{time_mono, due_later, window_parts, cub_ahead, cub_below}
use Rattle.node_kit.specs.declared.course.Order.{Order}
use Rattle.node_kit.specs.declared.journal.What.{What}
use Rattle.node_kit.specs.declared.journal.What.TheVariants as what
use Rattle.node_kit.specs.declared.journal.Entry.{Entry}
use Rattle.run_facts.specs.Order.{Noted, beat_of, journal_of, order_of}
use Rattle.run_facts.specs.Timed.{is_died}
use Rattle.run_model.specs.Fronts.{AnyByRecursion}
use Rattle.run_model.specs.Schedule.{Stop, schedule_of, is_stopped}
use Rattle.run_model.specs.Views.{records_of}
use Rattle.run_model.specs.Moments.{is_belief_of, is_put_of, moment_at}
use Rattle.run_model.specs.Orders.{IsOrdered, is_up_to, end_of_tick, IsStartOf, IsRecentStop, IsTaken, IsNotPassedOver}
use Rattle.run_claims.specs.Patience.{NobodyIsPassedOver}
use Rattle.proof_schedule.specs.Facts.{Facts, BelievedBy, PutBy, ReachedBy, GoneBefore, DiedLongBefore, IsFirstLife}
use Rattle.proof_schedule.specs.StartLaws.{Waits}
use Rattle.lists.specs.Elements.{In}
use Rattle.proof_moments.specs.Ties.{IsTickBelow, StandsIn, IsCutAt, IsHeldAt, IsPutAt}
use Rattle.proof_moments.specs.Recorded.{IsRecorded}
use Rattle.proof_moments.proofs.Lists.{any_by, any_with, any_passes, any_passing}
use Rattle.lists.proofs.Elements.{in_filter, from_filter, in_cases}
use Rattle.proof_moments.proofs.Holders.{IsReplaced, holder_or, stop_from, stop_in}
use Rattle.proof_moments.proofs.Ticks.{up_to_parts, up_to_by, tick_front}
use Rattle.proof_moments.proofs.Bridge as bridge
use Rattle.proof_moments.proofs.Parts as parts

pub visit_own : (p : Params) (c d visit : ℕ) → disk_of p visit ≡ d → d % p.cubs ≡ c → cub_of p visit ≡ c
unfolding cub_of disk_of
visit_own p c d visit on own = sym (mod-mod_of_dvd p.cubs visit (dvd-mul_right p.cubs p.disks)) ∙ (ap (λ (n : ℕ). n % p.cubs) on ∙ own)

ahead : (p : Params) (d : ℕ) → cub_of p (d % p.cubs + 1) ≡ (d + 1) % p.cubs
unfolding cub_of
ahead p d = mod-add-mod d p.cubs 1

pub visit_next : (p : Params) (c d visit : ℕ) → disk_of p visit ≡ d → (d + 1) % p.cubs ≡ c → cub_of p (visit + 1) ≡ c
visit_next p c d visit on next =
    let own = visit_own p (d % p.cubs) d visit on refl in
    sym (cub_ahead p visit 1) ∙ ap (λ (n : ℕ). cub_of p (n + 1)) own ∙ ahead p d ∙ next

-- what a start's entry is, and a belief's
start_is : (v : ℕ) (how : Bool) (w : What) → IsStartOf v how w → (link : LinkNo) × (a : Ask) × (w ≡ what.Got link (note.Start how a)) × (a.instance.0 ≡ v)
start_is v how (what.Got link (note.Start r a)) h = (link, a, ap (λ (b : Bool). what.Got link (note.Start b a)) h.1, h.0)
start_is v how (what.Got link other) h = absurd h
start_is v how other h = absurd h

belief_is : (d : ℕ) (w : What) → is_belief_of d w ≡ true → (cub : CubNo) × (w ≡ what.Believed cub) × (cub.0 ≡ d)
belief_is d (what.Believed cub) e = (cub, refl, eqb-true _ _ e)
belief_is d other e = absurd (cc)

module _ (p : Params) (r : Facts) (orders : List Order) (journals : List (List Entry)) (w : IsRecorded p r orders journals) (beats c beat reading : ℕ)
    (small : c < p.cubs) (known : beat < beats) (ticked : r.Ticked c beat reading) where
  abbrev log : List Noted
  log = order_of beats journals

  abbrev front : List Noted
  front = filter (is_up_to beat c) log

  abbrev back : List Noted
  back = filter (λ x. not (is_up_to beat c x)) log

  is_log : front ++ back ≡ log
  is_log = tick_front beat c beats journals

  low_of : (y : Noted) → In y front → beat_of y ≤ beat
  low_of y i = ⊎_elim (λ l. let z : beat_of y ≤ beat = omega arith in z) (λ q. let q0 = q.0 in let z : beat_of y ≤ beat = omega arith in z) (up_to_parts beat c y (from_filter (is_up_to beat c) y log i).1)

  there : (y : Noted) → In y log → (beat_of y < beat) ⊎ ((beat_of y ≡ beat) × (y.node ≤ c)) → In y front
  there y i h = in_filter (is_up_to beat c) y log i (up_to_by beat c y h)

  -- an entry of the cub's part of the front, in its journal
  mine : (e : Entry) → In e (journal_of c front) → StandsIn journals c e × (e.stamp.beat ≤ beat)
  mine e i =
      let y = bridge.noted_there c front e i in
      let s = bridge.stands p r orders journals w beats y.0 (bridge.in_log p r orders journals w beats front back is_log y.0 y.1) in
      let l = low_of y.0 y.1 in
      let same : beat_of y.0 ≡ e.stamp.beat = ap (λ (x : Entry). x.stamp.beat) y.3 in
      (subst (λ (x : Entry). StandsIn journals c x) y.3 (subst (λ (n : ℕ). StandsIn journals n y.0.entry) y.2 s), omega arith)

  -- a Put has its entry
  record IsPutThere (d x : ℕ) (t : Tenancy) : Type 0 where
    entry : Noted
    is : entry.entry.what ≡ what.Put t
    beat_is : beat_of entry ≡ x
    at : IsPutAt p r d entry.entry.stamp t
    within : (x < beat) ⊎ ((x ≡ beat) × (d ≤ c)) → In entry front

  put_there : (d x : ℕ) (t : Tenancy) → r.Put d t x → x ≤ beat → IsPutThere d x t
  put_there d x t put by =
      let k = bridge.logged p r orders journals w beats d x (λ e. e.what ≡ what.Put t) (w.logged.put d x t put) (omega arith) in
      let kb = k.beat in
      let kn = k.node in
      let at = w.tells.put k.entry.node k.entry.entry t (bridge.stands p r orders journals w beats k.entry k.there) k.is in
      record {
        entry = k.entry;
        is = k.is;
        beat_is = kb;
        at = subst (λ (n : ℕ). IsPutAt p r n k.entry.entry.stamp t) kn at;
        within = λ h. there k.entry k.there (⊎_elim
            (λ l. let z : beat_of k.entry < beat = omega arith in inl z)
            (λ q. let q0 = q.0 in let q1 = q.1 in let z : beat_of k.entry ≡ beat = omega arith in let n : k.entry.node ≤ c = omega arith in inr (z, n))
            h);
      }

  -- the cub of a visit, or the next one, which believes that cub dead
  abbrev IsHere : ℕ → Type 0
  IsHere n = (c ≡ cub_of p n) ⊎ ((c ≡ cub_of p (n + 1)) × BelievedBy r c beat)

  -- whoever puts in the tick's beat at a visit of these cubs is this cub
  who_here : IsFirstLife r c beat → (d n : ℕ) (t : Tenancy) → IsHere n → cub_of p t.first ≡ cub_of p n → r.Put d t beat → d ≡ c
  who_here first d n t here same put =
      let next : cub_of p (t.first + 1) ≡ cub_of p (n + 1) = sym (cub_ahead p t.first 1) ∙ ap (λ (k : ℕ). cub_of p (k + 1)) same ∙ cub_ahead p n 1 in
      let dead : DiedLongBefore p r c beat → ⊥ =
      λ l. let by = l.died.by in let long = l.long in let e = w.more.ended c beat reading l.died.beat ticked first l.died.died in absurd (omega arith) in
      ⊎_elim
      (λ own. ⊎_elim
      (λ q. q ∙ same ∙ sym own)
      (λ q. absurd (dead (subst (λ (k : ℕ). DiedLongBefore p r k beat) (same ∙ sym own) q.2)))
      (w.one.who d beat t put))
      (λ far. ⊎_elim
      (λ q.
      let b = far.1 in
      let by = b.by in
      let l = w.one.trust c (cub_of p n) b.beat b.believed (far.0 ∙ sym (cub_ahead p n 1)) (cub_below p n w.plan.ranges) in
      let long = l.long in
      let until = l.died.by in
      let e = w.more.put d beat l.died.beat t put (subst (λ (k : ℕ). r.Died k l.died.beat) (sym (q ∙ same)) l.died.died) in
      absurd (omega arith))
      (λ q. q.0 ∙ next ∙ sym far.0)
      (w.one.who d beat t put))
      here

  -- of whom the front tells no death, has not come back
  undied_first : list_any (λ (e : Entry). is_died e.what) (journal_of c front) ≡ false → IsFirstLife r c beat
  undied_first none v back = ⊎_elim
      (λ (later : beat < v). later)
      (λ (by : v ≤ beat).
      let d = w.more.returned c v back in
      let db = d.by in
      let k = bridge.logged p r orders journals w beats c d.beat (λ e. e.what ≡ what.Died) (w.logged.died c d.beat d.died) (omega arith) in
      let kb = k.beat in
      let kn = k.node in
      let before : (beat_of k.entry < beat) ⊎ ((beat_of k.entry ≡ beat) × (k.entry.node ≤ c)) = ⊎_elim
      (λ (e : d.beat ≡ beat). let same : beat_of k.entry ≡ beat = omega arith in let node : k.entry.node ≤ c = omega arith in inr (same, node))
      (λ (l : d.beat < beat). let low : beat_of k.entry < beat = omega arith in inl low)
      (eq-or-lt_of_le (omega arith)) in
      let here = bridge.in_journal c front k.entry (there k.entry k.there before) k.node in
      absurd (true≢false (sym (any_passes (λ (e : Entry). is_died e.what) (journal_of c front) k.entry.entry here (ap is_died k.is)) ∙ none)))
      (cases_lt beat v)

  -- nor has a cub that believes its predecessor dead: that one has died, so this one has not
  believer_first : (n : ℕ) → c ≡ cub_of p (n + 1) → BelievedBy r c beat → IsFirstLife r c beat
  believer_first n next b v back =
      let behind : c ≡ cub_of p (cub_of p n + 1) = next ∙ sym (cub_ahead p n 1) in
      let dead = w.one.trust c (cub_of p n) b.beat b.believed behind (cub_below p n w.plan.ranges) in
      let d = w.more.returned c v back in
      absurd (w.more.apart (cub_of p n) c dead.died.beat d.beat dead.died.died d.died behind)

  -- what its view shows after the tick, its journal tells
  shown_there : (t : Tenancy) (n : ℕ) → r.Shows c t n beat → (j : List Entry) → slice_get journals c ≡ Some j → (q : Rec) × In q (records_of (journal_of c front)) × (q.tenancy ≡ t) × (q.visit ≡ n)
  shown_there t n s j at =
      let k = bridge.journal_cut p r orders journals w beats front back is_log c j at in
      let tail : List Entry = journal_of c back ++ k.0 in
      let cut : IsCutAt journals c beat (journal_of c front) tail = record {
        at = at ∙ ap (λ (l : List Entry). Some l) (sym k.1);
        early = λ e i. (mine e i).1;
        late = λ e i. ⊎_elim
            (λ m.
            let y = bridge.noted_there c back e m in
            let f = from_filter (λ (x : Noted). not (is_up_to beat c x)) y.0 log y.1 in
            let yb : beat_of y.0 ≡ e.stamp.beat = ap (λ (x : Entry). x.stamp.beat) y.3 in
            let yn = y.2 in
            let node : y.0.node ≤ c = omega arith in
            let no : is_up_to beat c y.0 ≡ true → ⊥ = λ u. let z : not (is_up_to beat c y.0) ≡ false = ap not u in true≢false (sym f.1 ∙ z) in
            let g : beat < e.stamp.beat = ⊎_elim
            (λ (h : beat < beat_of y.0). let z : beat < e.stamp.beat = omega arith in z)
            (λ (h : beat_of y.0 ≤ beat). ⊎_elim
            (λ (q : beat_of y.0 ≡ beat). absurd (no (up_to_by beat c y.0 (inr (q, node)))))
            (λ (l : beat_of y.0 < beat). absurd (no (up_to_by beat c y.0 (inl l))))
            (eq-or-lt_of_le h))
            (cases_lt beat (beat_of y.0)) in
            g)
            (λ m. let h = k.2 e m in let g : beat < e.stamp.beat = omega arith in g)
            (in_cases e (journal_of c back) k.0 i);
      } in
      w.keeps.shown c beat reading n t (journal_of c front) tail cut ticked s

  -- a visit in the window that is held and shown is taken at the end of the tick
  seated : IsFirstLife r c beat → (slot n : ℕ) → IsHere n → due p slot n ≤ reading + p.window_a → reading + p.window_b < due p slot n → (j : List Entry) → slice_get journals c ≡ Some j → IsHeldAt p r c slot n beat
      → IsTaken p (moment_at front) c beat slot n
  unfolding moment_at
  seated first slot n here below above j at k =
      let t : Tenancy = k.taken.holder in
      let same = k.taken.slot in
      let held = k.taken.held in
      let x : ℕ = held.beat in
      let by = held.by in
      let low = held.low in
      let high = held.high in
      let c2 = w.plan.c2 in
      let play = w.plan.ranges.play.0 in
      let ticks = w.more.reads c beat reading ticked in
      let ticks0 = ticks.0 in
      let ticks1 = ticks.1 in
      ⊎_elim
      (λ (some : is_stopped t.instance.0 (schedule_of front).stops ≡ true).
      let s = any_passing (λ (stop : Stop). stop.instance == t.instance.0) (schedule_of front).stops some in
      let g = stop_from front s.0 s.1 in
      let gone = w.tells.gone g.entry.node g.entry.entry g.instance (bridge.stands p r orders journals w beats g.entry (bridge.in_log p r orders journals w beats front back is_log g.entry g.there)) g.is in
      let is_v : s.0.instance ≡ t.instance.0 = eqb-true _ _ s.2 in
      let late = k.taken.recent (beat_of g.entry) (subst (λ (v : ℕ). r.Gone v (beat_of g.entry)) (sym g.same ∙ is_v) gone) in
      let soon : time_of p beat ≤ time_of p s.0.beat + p.play = subst (λ (b : ℕ). time_of p beat ≤ time_of p b + p.play) (sym g.beat) (omega arith) in
      let stopped : AnyByRecursion (IsRecentStop p beat t.instance.0) (schedule_of front).stops = any_with (IsRecentStop p beat t.instance.0) (schedule_of front).stops s.0 s.1 (is_v, soon) in
      let q = shown_there t n k.shows j at in
      let q_slot : q.0.tenancy.slot.0 ≡ slot = ap (λ (u : Tenancy). u.slot.0) q.2 ∙ same in
      let q_stopped : AnyByRecursion (IsRecentStop p beat q.0.tenancy.instance.0) (schedule_of front).stops = subst (λ (u : Tenancy). AnyByRecursion (IsRecentStop p beat u.instance.0) (schedule_of front).stops) (sym q.2) stopped in
      inr (any_with (λ (y : Rec). (y.tenancy.slot.0 ≡ slot) × (y.visit ≡ n) × AnyByRecursion (IsRecentStop p beat y.tenancy.instance.0) (schedule_of front).stops) (records_of (journal_of c front)) q.0 q.1 (q_slot, q.3, q_stopped)))
      (λ (none : is_stopped t.instance.0 (schedule_of front).stops ≡ false).
      let put = put_there held.cub x t held.put by in
      let pb = put.beat_is in
      let pa = put.at.above in
      let pl = put.at.low in
      let slot_first : due p t.slot.0 t.first ≡ due p slot t.first = ap (λ s. due p s t.first) same in
      let early : (x < beat) ⊎ ((x ≡ beat) × (held.cub ≤ c)) = ⊎_elim
      (λ (q : x ≡ beat).
      let times : time_of p (beat_of put.entry) ≡ time_of p beat = ap (λ m. time_of p m) (pb ∙ q) in
      let at_first : t.first ≡ n = ⊎_elim
      (λ (e : t.first ≡ n). e)
      (λ (l : t.first < n). let later = due_later p slot t.first n l in absurd (omega arith))
      (eq-or-lt_of_le low) in
      let own : held.cub ≡ c = who_here first held.cub n t here (ap (λ m. cub_of p m) at_first) (subst (λ m. r.Put held.cub t m) q held.put) in
      let le : held.cub ≤ c = omega arith in
      inr (q, le))
      (λ (l : x < beat). inl l)
      (eq-or-lt_of_le by) in
      let i = put.within early in
      let never = parts.never_gone p r orders journals w beats front back is_log t.instance.0 none in
      ⊎_elim
      (λ h. inl (t, subst (λ (s : ℕ). (schedule_of front).holder s ≡ Some t) same h, low, high))
      (λ (u : IsReplaced front t.slot.0 (beat_of put.entry) t).
      let u_at = w.tells.put u.entry.node u.entry.entry u.tenancy (bridge.stands p r orders journals w beats u.entry (bridge.in_log p r orders journals w beats front back is_log u.entry u.there)) u.is in
      let t_put = parts.tells_put p r orders journals w beats front back is_log put.entry t i put.is in
      let ub = u_at.below in
      let uh = u_at.high in
      let u_low = low_of u.entry u.there in
      let times = time_mono p (beat_of u.entry) beat u_low in
      let slot_second : due p u.tenancy.slot.0 u.tenancy.first ≡ due p slot u.tenancy.first = ap (λ m. due p m u.tenancy.first) (u.slot ∙ same) in
      absurd (⊎_elim
      (λ (ends : t.last < u.tenancy.first). let later = due_later p slot n u.tenancy.first (omega arith) in absurd (omega arith))
      (λ (g : GoneBefore r t.instance.0 (beat_of u.entry)). let h = bridge.gone_there p r orders journals w beats front back is_log t.instance.0 u.entry u.there g in never h.0 h.2.instance h.1 h.2.is h.2.same)
      (w.one.free u.entry.node put.entry.node (beat_of u.entry) (beat_of put.entry) u.tenancy t u_at.put t_put u.later (sym u.slot) (λ e. u.other (sym e)))))
      (holder_or front put.entry t (parts.front_rises p r orders journals w beats front back is_log) never (parts.only_put p r orders journals w beats front back is_log put.entry t i put.is) i put.is))
      (cases_Bool (is_stopped t.instance.0 (schedule_of front).stops))

  -- a start that was got, and that waits
  record IsWaiting (ask : Ask) (n : ℕ) : Type 0 where
    start : ℕ
    by : start ≤ beat
    waits : Waits p r c ask n start beat
    here : IsHere n
    first : IsFirstLife r c beat
    journal : List Entry
    at : slice_get journals c ≡ Some journal

  waiting_own : (ask : Ask) (n : ℕ) → IsOrdered orders ask → disk_of p n ≡ ask.disk.0 → ask.disk.0 % p.cubs ≡ c
      → list_any (λ (e : Entry). is_died e.what) (journal_of c front) ≡ false
      → AnyByRecursion (λ (e : Entry). IsStartOf ask.instance.0 false e.what) (journal_of c front) → IsWaiting ask n
  waiting_own ask n ordered on disk undied any =
      let e = any_by (λ (x : Entry). IsStartOf ask.instance.0 false x.what) (journal_of c front) any in
      let s = start_is ask.instance.0 false e.0.what e.2 in
      let m = mine e.0 e.1 in
      let a = w.tells.asked c e.0 s.0 s.1 small m.0 s.2 in
      let same : s.1 ≡ ask = w.keeps.one_order s.1 ask a.1 ordered s.3 in
      let here : c ≡ cub_of p n = sym (visit_own p c ask.disk.0 n on disk) in
      record {
        start = e.0.stamp.beat;
        by = m.1;
        waits = record { disk = sym on; how = inl (subst (λ (x : Ask). r.Asked c x e.0.stamp.beat) same a.0, here) };
        here = inl here;
        first = undied_first undied;
        journal = m.0.journal;
        at = m.0.at;
      }

  waiting_apart : (ask : Ask) (n : ℕ) → IsOrdered orders ask → disk_of p n ≡ ask.disk.0 → (ask.disk.0 + 1) % p.cubs ≡ c
      → list_any (λ (e : Entry). is_belief_of (ask.disk.0 % p.cubs) e.what) (journal_of c front) ≡ true
      → AnyByRecursion (λ (e : Entry). IsStartOf ask.instance.0 true e.what) (journal_of c front) → IsWaiting ask n
  waiting_apart ask n ordered on disk believed any =
      let e = any_by (λ (x : Entry). IsStartOf ask.instance.0 true x.what) (journal_of c front) any in
      let s = start_is ask.instance.0 true e.0.what e.2 in
      let m = mine e.0 e.1 in
      let a = w.tells.apart c e.0 s.0 s.1 small m.0 s.2 in
      let same : s.1 ≡ ask = w.keeps.one_order s.1 ask a.1 ordered s.3 in
      let here : c ≡ cub_of p (n + 1) = sym (visit_next p c ask.disk.0 n on disk) in
      let f = any_passing (λ (x : Entry). is_belief_of (ask.disk.0 % p.cubs) x.what) (journal_of c front) believed in
      let g = belief_is (ask.disk.0 % p.cubs) f.0.what f.2 in
      let k = mine f.0 f.1 in
      let b = w.tells.believed c f.0 g.0 k.0 g.1 in
      let belief : BelievedBy r c beat = record { beat = f.0.stamp.beat; believed = b.believed; by = k.1 } in
      record {
        start = e.0.stamp.beat;
        by = m.1;
        waits = record { disk = sym on; how = inr (subst (λ (x : Ask). r.AskedApart c x e.0.stamp.beat) same a.0, here, belief) };
        here = inr (here, belief);
        first = believer_first n here belief;
        journal = m.0.journal;
        at = m.0.at;
      }

  start_taken : (ask : Ask) (slot n : ℕ) → IsOrdered orders ask → IsWaiting ask n → list_any (λ (x : Noted). is_put_of ask.instance.0 x.entry.what) front ≡ false
      → is_stopped ask.instance.0 (schedule_of front).stops ≡ false → slot < p.slots → disk_of p n ≡ ask.disk.0 → IsTrue (in_window p reading slot n) → IsTaken p (moment_at front) c beat slot n
  start_taken ask slot n ordered k unput unstopped in_plan on window =
      let parts = window_parts p reading slot n window in
      ⊎_elim
      (λ taken. seated k.first slot n k.here parts.0 parts.1 k.journal k.at taken)
      (λ other. absurd (⊎_elim
      (λ (q : PutBy r ask.instance.0 beat).
      let by = q.by in
      let put = put_there q.cub q.beat q.tenancy q.put by in
      let o = w.one.ordered q.cub q.beat q.tenancy q.put in
      let asked : o.ask ≡ ask = w.keeps.one_order o.ask ask (w.logged.begun o.ask o.beat o.begun) ordered (ap (λ i. i.0) o.asked.instance ∙ q.same) in
      let disk : disk_of p q.tenancy.first ≡ ask.disk.0 = sym o.asked.disk ∙ ap (λ (a : Ask). a.disk.0) asked in
      let cubs : cub_of p q.tenancy.first ≡ cub_of p n = visit_own p (ask.disk.0 % p.cubs) ask.disk.0 q.tenancy.first disk refl ∙ sym (visit_own p (ask.disk.0 % p.cubs) ask.disk.0 n on refl) in
      let early : (q.beat < beat) ⊎ ((q.beat ≡ beat) × (q.cub ≤ c)) = ⊎_elim
      (λ (e : q.beat ≡ beat).
      let own = who_here k.first q.cub n q.tenancy k.here cubs (subst (λ m. r.Put q.cub q.tenancy m) e q.put) in
      let le : q.cub ≤ c = omega arith in inr (e, le))
      (λ (l : q.beat < beat). inl l)
      (eq-or-lt_of_le by) in
      true≢false (sym (any_passes (λ (x : Noted). is_put_of ask.instance.0 x.entry.what) front put.entry (put.within early) (ap (is_put_of ask.instance.0) put.is ∙ eq-eqb _ _ q.same)) ∙ unput))
      (λ (q : ReachedBy r c ask.instance.0 beat).
      let g = w.one.cut c ask.instance.0 beat (inl q) in
      let gb = g.before in
      let y0 = w.logged.gone ask.instance.0 g.beat g.gone in
      let y = bridge.logged p r orders journals w beats y0.0 g.beat _ y0.1 (omega arith) in
      let yb = y.beat in
      let l : beat_of y.entry < beat = omega arith in
      true≢false (sym (any_passes (λ (stop : Stop). stop.instance == ask.instance.0) (schedule_of front).stops _ (stop_in front y.entry y.is.instance (there y.entry y.there (inl l)) y.is.is) (eq-eqb _ _ y.is.same)) ∙ unstopped))
      other))
      (w.more.waits c k.start beat reading slot n ask k.waits k.by ticked k.first in_plan parts)

  passes_nobody : IsNotPassedOver p orders (end_of_tick beat c log) c beat reading
  unfolding moment_at
  passes_nobody = record {
    taken = λ ask slot n ordered has unput unstopped in_plan on window. ⊎_elim
        (λ k. start_taken ask slot n ordered (waiting_own ask n ordered on k.0 k.1.0 k.1.1) unput unstopped in_plan on window)
        (λ k. start_taken ask slot n ordered (waiting_apart ask n ordered on k.0 k.1.0 k.1.1) unput unstopped in_plan on window)
        has;
  }

pub nobody_is_passed_over : (p : Params) (r : Facts) (orders : List Order) (journals : List (List Entry)) (beats : ℕ) → IsRecorded p r orders journals
    → NobodyIsPassedOver p orders (IsTickBelow r beats) (order_of beats journals)
nobody_is_passed_over p r orders journals beats w c b l small k =
    passes_nobody p r orders journals w beats c b l small k.1 k.0
