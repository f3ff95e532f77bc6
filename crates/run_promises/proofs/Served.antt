-- What is excused has its cause in what the run was given.
use Rattle.std.proofs.Common.{◌≡◌, ◌≢◌, ℕ, ◌+◌, ◌*◌, ◌%◌, ◌<◌, ◌≤◌, Bool, true, false, List, [], ◌∷◌, cond, Option, Some, None, refl, sym, ap, subst, ◌∙◌, arith, ⊎_elim, inl, inr}
use Rattle.std.specs.Prelude.{◌⊎◌, nat_lt}
use Rattle.std.specs.List.{AllByRecursion}
use Rattle.std.proofs.lemmas.Bool.{cases_Bool, cases_eq, cases_lt, false≢true}
use Rattle.std.proofs.lemmas.Nat.{mod-mul-add}
use Rattle.tiger_base.specs.declared.tenancy.Tenancy.{Tenancy}
use Rattle.tiger_base.specs.declared.tenancy.Want.{Want}
use Rattle.slot_plan.specs.declared.params.Params.{Params}
use Rattle.slot_plan.specs.Conditions.{IsInRange}
use Rattle.slot_plan.specs.Times.{due, cub_of, disk_of, disk_count, time_of, takeover}
use Rattle.slot_plan.proofs.Times.{cub_apart, same_cub, cub_below, disk_below, due_add, due_mono}
use Rattle.mirror_pieces.specs.Pieces.{piece_disk, leaving}
use Rattle.node_kit.specs.declared.course.Kept.{Kept}
use Rattle.node_kit.specs.declared.course.ReadFault.{ReadFault}
use Rattle.node_kit.specs.declared.journal.What.{What}
use Rattle.node_kit.specs.declared.journal.What.TheVariants as what
use Rattle.node_kit.specs.declared.journal.Entry.{Entry}
use Rattle.node_kit.specs.Life.{Lifetime, lifetime_of}
use Rattle.run_facts.specs.Order.{Noted}
use Rattle.run_facts.specs.Timed.{is_died, death_within, IsUntil, IsLater, IsDeathOf, EndsInDeath}
use Rattle.run_model.specs.Excuses.{IsFailedRead, IsDeath, IsStopOf, ReadFailed, DiedAt, LostInPieces, LostInDeath, WasStopped}
use Rattle.run_model.specs.Moments.{moment_at}
use Rattle.run_model.specs.Runs.{order_in}
use Rattle.run_model.specs.Served.{journal_at, IsPut}
use Rattle.run_model.proofs.Moments.{each_is_each_entry}
use Rattle.run_claims.specs.Truths.{Lasts, FailsIn, disk_with, IsTrueFailure}
use Rattle.run_claims.specs.Served.{IsServedIfPut}
use Rattle.lists.specs.Elements.{In}
use Rattle.proof_moments.specs.Ties.{StandsIn}
use Rattle.proof_moments.proofs.Lists.{any_by}
use Rattle.lists.proofs.Elements.{in_cases}
use Rattle.lists.proofs.Each.{all_in}
use Rattle.lists.proofs.Cuts.{cut_by}
use Rattle.proof_moments.proofs.Orders.{noted_at}
use Rattle.run_promises.specs.Kept.{IsKeptWell}
use Rattle.run_promises.specs.Served.{IsSettledVisit, Came, IsNotStoppedBefore, HasNoFault, WhatNothingHindersComes, OnlyOneDies, OneDeathCostsOneBlock}
use Rattle.run_promises.proofs.Journals.{stands_at, stands_some, in_the_order, put_in_order, one_tenancy}
use Rattle.run_promises.proofs.Stops.{stop_is, gone_by, stop_was_ordered}

-- why a visit of a tenancy is excused
abbrev pub IsExcusedBy : Kept → Tenancy → ℕ → Type 0
IsExcusedBy k t visit =
    ReadFailed k.journals (cub_of k.course.plan.params visit) t.instance.0 visit 0
    ⊎ (LostInPieces k.course.plan.params k.journals t visit
    ⊎ (LostInDeath k.course.plan.params k.journals t visit ⊎ WasStopped k.course.plan.params k.journals t visit))

-- a settled visit of a tenancy that was put came, or that tenancy is excused there
pub came_or_excused : (k : Kept) (t : Tenancy) (visit : ℕ) → IsKeptWell k → IsPut k.journals t → IsSettledVisit k t visit → Came k t visit ⊎ IsExcusedBy k t visit
came_or_excused k t visit w put v =
    let p = k.course.plan.params in
    let q = put_in_order k t w put in
    let Is : What → Type 0 = IsServedIfPut p k.catalogue k.journals (time_of p k.course.beats) in
    let here : Is (what.Put t) = subst Is q.is (all_in (λ (x : Noted). Is x.entry.what) q.entry (order_in k) w.claims.delivery.settled q.there) in
    ⊎_elim
    (λ came. inl came)
    (λ x.
    let same : t ≡ x.tenancy = one_tenancy k t x.tenancy w q (put_in_order k x.tenancy w x.visited.put) (sym x.visited.instance) in
    inr (subst (λ (u : Tenancy). IsExcusedBy k u visit) (sym same) x.excuse))
    (here visit v.first v.last v.settled)

-- ---- deaths

died_is : (w : What) → IsDeath w → is_died w ≡ true
died_is what.Died h = refl
died_is other h = absurd h

lives_through : (j : List Entry) (e : Entry) → AllByRecursion (λ (e : Entry). is_died e.what ≡ false) j → In e j → IsDeath e.what → ⊥
lives_through j e none i d = false≢true (sym (all_in (λ (e : Entry). is_died e.what ≡ false) e j none i) ∙ died_is e.what d)

-- nobody dies behind a death
lives_later : (back : Option ℕ) (j : List Entry) (e : Entry) → IsLater back j → In e j → is_died e.what ≡ false
lives_later None j e none i = absurd (subst (λ (es : List Entry). In e es) none i)
lives_later (Some back) j e later i = (all_in (λ (e : Entry). (is_died e.what ≡ false) × (back ≤ e.stamp.beat)) e j later i).0

only_death : (life : Lifetime) (death : ℕ) (j : List Entry) (e : Entry) → EndsInDeath life death j → In e j → IsDeath e.what
    → death ≡ e.stamp.beat
only_death life death j e q i d =
    let died = died_is e.what d in
    let Before : Entry → Type 0 = λ e. (is_died e.what ≡ false) × IsUntil life.left death e.stamp.beat in
    ⊎_elim
    (λ l. absurd (false≢true (sym (all_in Before e q.before q.alone l).0 ∙ died)))
    (λ l. ⊎_elim
    (λ (f : e ≡ q.last). sym q.in_beat ∙ ap (λ (e : Entry). e.stamp.beat) (sym f))
    (λ b. absurd (false≢true (sym (lives_later life.back q.later e q.back b) ∙ died))) l)
    (in_cases e q.before (q.last ∷ q.later) (subst (λ (es : List Entry). In e es) q.all i))

-- a death that is written is one of the life
pub death_is : (beats : ℕ) (life : Lifetime) (death : Option ℕ) (j : List Entry) (e : Entry) → IsDeathOf life (death_within beats death) j → In e j
    → IsDeath e.what → death ≡ Some e.stamp.beat
death_is beats life None j e h i d = absurd (lives_through j e h i d)
death_is beats life (Some death) j e h i d = ⊎_elim
    (λ (l : nat_lt death beats ≡ true).
    let q : EndsInDeath life death j = subst (λ (b : Bool). IsDeathOf life (cond b (Some death) None) j) l h in
    ap (λ (b : ℕ). Some b) (only_death life death j e q i d))
    (λ (g : nat_lt death beats ≡ false). absurd (lives_through j e (subst (λ (b : Bool). IsDeathOf life (cond b (Some death) None) j) g h) i d))
    (cases_Bool (nat_lt death beats))

pub died_at : (k : Kept) (cub : ℕ) (When : ℕ → Type 0) → IsKeptWell k → DiedAt k.course.plan.params k.journals cub When
    → (death : ℕ) × ((lifetime_of k.course cub).death ≡ Some death) × When (time_of k.course.plan.params death)
died_at k cub When w h =
    let e = any_by (λ (e : Entry). IsDeath e.what × When (time_of k.course.plan.params e.stamp.beat)) (journal_at k.journals cub) h in
    let s = stands_at k.journals cub e.0 e.1 in
    (e.0.stamp.beat, death_is k.course.beats (lifetime_of k.course cub) _ s.journal e.0 (w.timed cub s.journal s.at).death s.there e.2.0, e.2.1)

who_died : (k : Kept) (cub n death : ℕ) → OnlyOneDies k cub → n < k.course.plan.params.cubs → (lifetime_of k.course n).death ≡ Some death → n ≡ cub
who_died k cub n death only low is = ⊎_elim (λ e. e) (λ other. let none = only n low other in absurd (cc)) (cases_eq n cub)

-- ---- reads

failed_is : (v visit piece : ℕ) (w : What) → IsFailedRead v visit piece w
    → (want : Want) × (w ≡ what.ReadFailed want) × (want.visit ≡ visit) × (want.piece ≡ piece)
failed_is v visit piece (what.ReadFailed want) h = (want, refl, h.1, h.2)
failed_is v visit piece other h = absurd h

-- a read that failed met a fault of the disk that has what was wanted
fault_of : (k : Kept) (n : ℕ) (e : Entry) (want : Want) → IsKeptWell k → StandsIn k.journals n e → e.what ≡ what.ReadFailed want
    → (f : ReadFault) × In f k.course.faults × (f.disk.0 ≡ disk_with k.course.plan.params want)
fault_of k n e want w s is =
    let p = k.course.plan.params in
    let x = noted_at n e in
    let cut = cut_by x (order_in k) (in_the_order k n e w s) in
    let each = (each_is_each_entry (λ m x. IsTrueFailure p k.course.faults m x.entry.what) (order_in k)).0 w.claims.true_faults cut.front x cut.back cut.is in
    let here : IsTrueFailure p k.course.faults (moment_at cut.front) (what.ReadFailed want) =
    subst (λ (z : What). IsTrueFailure p k.course.faults (moment_at cut.front) z) is each in
    let disk : ℕ = disk_with p want in
    let asked = any_by (FailsIn k.course.faults disk want) _ here in
    let f = any_by (Lasts disk asked.0.stamp.beat) k.course.faults asked.2.1 in
    (f.0, f.1, f.2.0)

mod_of_less : (a b : ℕ) → a < b → a % b ≡ a
mod_of_less a b h = let none : 0 * b + a ≡ a = omega arith in ap (λ (n : ℕ). n % b) (sym none) ∙ mod-mul-add 0 b a h

whole_is_there : (p : Params) (want : Want) → IsInRange p → want.piece ≡ 0 → disk_with p want ≡ disk_of p want.visit
unfolding piece_disk
whole_is_there p want r whole =
    let sum : disk_of p want.visit + want.piece ≡ disk_of p want.visit = omega (arith, whole) in
    ap (λ (d : ℕ). d % disk_count p) sum ∙ mod_of_less (disk_of p want.visit) (disk_count p) (disk_below p want.visit r)

-- the whole block's read did not fail, if its disk has no fault
no_failed_read : (k : Kept) (t : Tenancy) (visit : ℕ) → IsKeptWell k → HasNoFault k visit
    → ReadFailed k.journals (cub_of k.course.plan.params visit) t.instance.0 visit 0 → ⊥
no_failed_read k t visit w none h =
    let p = k.course.plan.params in
    let cub : ℕ = cub_of p visit in
    let e = any_by (λ (e : Entry). IsFailedRead t.instance.0 visit 0 e.what) (journal_at k.journals cub) h in
    let f = failed_is t.instance.0 visit 0 e.0.what e.2 in
    let g = fault_of k cub e.0 f.0 w (stands_at k.journals cub e.0 e.1) f.1 in
    all_in (λ (z : ReadFault). z.disk.0 ≢ disk_of p visit) g.0 k.course.faults none g.1
    (g.2 ∙ whole_is_there p f.0 k.course.plan.sound.ranges f.3 ∙ ap (λ (n : ℕ). disk_of p n) f.2)

-- and no read did, if there is no fault at all
no_fault_no_failure : (k : Kept) (n v visit piece : ℕ) (e : Entry) → IsKeptWell k → k.course.faults ≡ [] → StandsIn k.journals n e → IsFailedRead v visit piece e.what → ⊥
no_fault_no_failure k n v visit piece e w none s h =
    let f = failed_is v visit piece e.what h in
    let g = fault_of k n e f.0 w s f.1 in
    subst (λ (fs : List ReadFault). In g.0 fs) none g.1

-- ---- stops

-- who is not ordered to stop before a visit is over was not stopped before it
no_stop : (k : Kept) (t : Tenancy) (visit : ℕ) → IsKeptWell k
    → IsNotStoppedBefore k t.instance.0 (due k.course.plan.params t.slot.0 visit + k.course.plan.params.play)
    → WasStopped k.course.plan.params k.journals t visit → ⊥
no_stop k t visit w never h =
    let p = k.course.plan.params in
    let v : ℕ = t.instance.0 in
    let s = stands_some (λ (e : Entry). IsStopOf v e.what × (time_of p e.stamp.beat < due p t.slot.0 visit + p.play)) k.journals h in
    let g = gone_by k v s.0 s.1 w s.2 (stop_is v s.1.what s.3.0) in
    let late = never s.1.stamp.beat (stop_was_ordered k v w g) in
    let early = s.3.1 in
    omega arith

-- ---- what comes

pub what_nothing_hinders_comes : (k : Kept) → IsKeptWell k → WhatNothingHindersComes k
what_nothing_hinders_comes k w t visit put v never lives sound =
    let p = k.course.plan.params in
    let d : ℕ = due p t.slot.0 visit in
    let some = k.course.plan.sound.ranges.beat in
    ⊎_elim (λ came. came) (λ x. absurd (⊎_elim
    (λ read. no_failed_read k t visit w sound read)
    (λ y. ⊎_elim
    (λ (pieces : LostInPieces p k.journals t visit).
    let q = died_at k (cub_of p visit) (λ death. death + takeover p ≤ d) w pieces.died in
    let l = lives q.0 q.1 in
    let g = q.2 in
    omega arith)
    (λ z. ⊎_elim
    (λ (death : LostInDeath p k.journals t visit).
    let q = died_at k (cub_of p visit) (λ death. (death < d + p.beat) × (d < death + takeover p)) w death.0 in
    let l = lives q.0 q.1 in
    let g = q.2.0 in
    omega arith)
    (λ stop. no_stop k t visit w never stop) z) y) x))
    (came_or_excused k t visit w put v)

-- ---- one death

-- pieces are lost in two deaths, or in a fault
no_lost_piece : (k : Kept) (t : Tenancy) (cub visit : ℕ) → IsKeptWell k → k.course.faults ≡ [] → OnlyOneDies k cub
    → LostInPieces k.course.plan.params k.journals t visit → ⊥
no_lost_piece k t cub visit w none only h =
    let p = k.course.plan.params in
    let r = k.course.plan.sound.ranges in
    let d : ℕ = due p t.slot.0 visit in
    let whole = died_at k (cub_of p visit) (λ death. death + takeover p ≤ d) w h.died in
    let first = who_died k cub (cub_of p visit) whole.0 only (cub_below p visit r) whole.1 in
    ⊎_elim
    (λ read.
    let s = stands_some (λ (e : Entry). IsFailedRead t.instance.0 visit h.piece e.what) k.journals read in
    no_fault_no_failure k s.0 t.instance.0 visit h.piece s.1 w none s.2 s.3)
    (λ death.
    let q = died_at k (cub_of p (visit + h.piece)) (λ death. death < leaving d h.piece p.play p.pieces + p.beat) w death.0 in
    let second = who_died k cub (cub_of p (visit + h.piece)) q.0 only (cub_below p (visit + h.piece) r) q.1 in
    let low = h.low in
    let high = h.high in
    let few = k.course.plan.sound.c10 in
    cub_apart p visit h.piece (omega arith) (omega arith) (first ∙ sym second))
    h.lost

lost_in_death : (k : Kept) (t : Tenancy) (cub visit : ℕ) → IsKeptWell k
    → IsNotStoppedBefore k t.instance.0 (due k.course.plan.params t.slot.0 visit + k.course.plan.params.play)
    → k.course.faults ≡ [] → OnlyOneDies k cub → IsExcusedBy k t visit → LostInDeath k.course.plan.params k.journals t visit
lost_in_death k t cub visit w never none only x =
    let sound : HasNoFault k visit = subst (λ (fs : List ReadFault). AllByRecursion (λ f. f.disk.0 ≢ disk_of k.course.plan.params visit) fs) (sym none) tt in
    ⊎_elim
    (λ read. absurd (no_failed_read k t visit w sound read))
    (λ y. ⊎_elim
    (λ pieces. absurd (no_lost_piece k t cub visit w none only pieces))
    (λ z. ⊎_elim (λ death. death) (λ stop. absurd (no_stop k t visit w never stop)) z) y)
    x

-- of two visits that one death cost there is a takeover's time between them at most, and a round of the cubs at least
one_cost : (k : Kept) (t : Tenancy) (cub m n : ℕ) → IsKeptWell k → OnlyOneDies k cub → m < n
    → LostInDeath k.course.plan.params k.journals t m → LostInDeath k.course.plan.params k.journals t n
    → k.course.plan.params.cubs * k.course.plan.params.play + 1 < takeover k.course.plan.params + k.course.plan.params.beat
one_cost k t cub m n w only order lm ln =
    let p = k.course.plan.params in
    let r = k.course.plan.sound.ranges in
    let dm = died_at k (cub_of p m) (λ death. (death < due p t.slot.0 m + p.beat) × (due p t.slot.0 m < death + takeover p)) w lm.0 in
    let dn = died_at k (cub_of p n) (λ death. (death < due p t.slot.0 n + p.beat) × (due p t.slot.0 n < death + takeover p)) w ln.0 in
    let cm = who_died k cub (cub_of p m) dm.0 only (cub_below p m r) dm.1 in
    let cn = who_died k cub (cub_of p n) dn.0 only (cub_below p n r) dn.1 in
    let one : cub_of p m ≡ cub_of p n = cm ∙ sym cn in
    let there : (lifetime_of k.course (cub_of p n)).death ≡ Some dm.0 = subst (λ (c : ℕ). (lifetime_of k.course c).death ≡ Some dm.0) one dm.1 in
    let both : Some dm.0 ≡ Some dn.0 = sym there ∙ dn.1 in
    let same : dn.0 ≡ dm.0 = cc in
    let early = dm.2.0 in
    let late : due p t.slot.0 n < time_of p dm.0 + takeover p = subst (λ (d : ℕ). due p t.slot.0 n < time_of p d + takeover p) same dn.2.1 in
    ⊎_elim
    (λ (l : n < m + p.cubs). let e = same_cub p m n one (omega arith) l in absurd (omega arith))
    (λ (g : m + p.cubs ≤ n). let a = due_add p t.slot.0 m p.cubs in let b = due_mono p t.slot.0 (m + p.cubs) n g in omega arith)
    (cases_lt n (m + p.cubs))

pub one_death_costs_one_block : (k : Kept) → IsKeptWell k → OneDeathCostsOneBlock k
one_death_costs_one_block k w t cub m n put vm vn order never none only short =
    let p = k.course.plan.params in
    let sooner = due_mono p t.slot.0 m n (omega arith) in
    let before : IsNotStoppedBefore k t.instance.0 (due p t.slot.0 m + p.play) = λ beat o. let l = never beat o in omega arith in
    ⊎_elim (λ came. inl came)
    (λ xm. ⊎_elim (λ came. inr came)
    (λ xn.
    let cost = one_cost k t cub m n w only order (lost_in_death k t cub m w before none only xm) (lost_in_death k t cub n w never none only xn) in
    absurd (omega arith))
    (came_or_excused k t n w put vn))
    (came_or_excused k t m w put vm)
