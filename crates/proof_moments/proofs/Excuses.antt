-- An excuse of a visit by facts is one by the journals; and whether an instance was stopped in time is told by them.
use Rattle.std.proofs.Common.{◌≡◌, ℕ, zero, suc, ◌+◌, ◌<◌, ◌≤◌, List, [], ◌∷◌, Bool, true, false, refl, sym, ap, subst, ◌∙◌, arith, ⊎_elim, inl, inr}
use Rattle.std.specs.Prelude.{◌⊎◌, ◌&&◌, nat_lt, slice_get, Option, Some, None, unwrap_or}
use Rattle.std.specs.List.{list_any}
use Rattle.std.proofs.lemmas.Bool.{cases_Bool, cases_lt, cases_eq, true≢false, eqb-true, eq-eqb}
use Rattle.std.proofs.lemmas.Option.{none-some}
use Rattle.tiger_base.specs.declared.tenancy.Tenancy.{Tenancy}
use Rattle.slot_plan.specs.declared.params.Params.{Params}
use Rattle.slot_plan.specs.Times.{due, cub_of, time_of, takeover}
use Rattle.slot_plan.proofs.Times.{cub_below}
use Rattle.mirror_pieces.specs.Pieces.{leaving}
use Rattle.node_kit.specs.declared.journal.What.{What}
use Rattle.node_kit.specs.declared.journal.What.TheVariants as what
use Rattle.node_kit.specs.declared.journal.Entry.{Entry}
use Rattle.run_facts.specs.Commanded.{is_gone_of}
use Rattle.run_model.specs.Fronts.{AnyByRecursion}
use Rattle.run_model.specs.Served.{journal_at, IsVisitOf}
use Rattle.run_model.specs.Excuses as at_journals
use Rattle.run_model.proofs.Reflects.{and_left, and_right, and_both, less, any_found}
use Rattle.proof_schedule.specs.Facts.{Facts, enters_from}
use Rattle.proof_pieces.specs.PieceFacts.{PieceFacts}
use Rattle.proof_service.specs.ServiceFacts.{ServiceFacts, serves_from}
use Rattle.proof_service.specs.Blocks as at_facts
use Rattle.lists.specs.Elements.{In}
use Rattle.proof_moments.specs.Ties.{StandsIn, IsLogged}
use Rattle.proof_moments.proofs.Lists.{any_by, any_with, any_passes}
use Rattle.proof_moments.specs.RecordedParcels.{Evidence, AreParcelsRecordedBut}
use Rattle.proof_moments.proofs.Parcels.{journal_is}

-- the list of a node of a number has its journal
in_all : (js : List (List Entry)) (n : ℕ) (j : List Entry) → slice_get js n ≡ Some j → In j js
in_all [] n j at = absurd (none-some j at)
in_all (x ∷ xs) zero j at = inl (sym (ap (λ (o : Option (List Entry)). unwrap_or o x) at))
in_all (x ∷ xs) (suc n) j at = inr (in_all xs n j at)

-- an entry of some journal
pub some_journal : (js : List (List Entry)) (n : ℕ) (e : Entry) (P : Entry → Type 0) → StandsIn js n e → P e
    → AnyByRecursion (λ journal. AnyByRecursion P journal) js
some_journal js n e P s h = any_with (λ (journal : List Entry). AnyByRecursion P journal) js s.journal
    (in_all js n s.journal s.at) (any_with P s.journal e s.there h)

-- an entry of the journal of a node
pub own_journal : (js : List (List Entry)) (n : ℕ) (e : Entry) (P : Entry → Type 0) → StandsIn js n e → P e
    → AnyByRecursion P (journal_at js n)
own_journal js n e P s h = any_with P (journal_at js n) e (subst (λ (j : List Entry). In e j)
    (sym (journal_is js n s.journal s.at)) s.there) h

-- an entry of what stands at a node's place is one of that node's journal
stands_at : (js : List (List Entry)) (n : ℕ) (e : Entry) → In e (journal_at js n) → StandsIn js n e
unfolding journal_at
stands_at js n e i = by (slice_get js n) refl i where
  by : (o : Option (List Entry)) → slice_get js n ≡ o → In e (unwrap_or o []) → StandsIn js n e
  by (Some j) at k = record { journal = j; at = at; there = k }
  by None at k = absurd k

return_is : (v : What) → at_journals.IsReturn v → v ≡ what.Returned
return_is what.Returned h = refl
return_is other h = absurd h

-- Whatever the facts excuse.
module _ (p : Params) (a : Evidence) (r : Facts) (q : PieceFacts) (w : ServiceFacts) (end : ℕ)
    {Excused : Tenancy → ℕ → Type 0}
    (g : AreParcelsRecordedBut p a r q w end Excused) (t : Tenancy) (n : ℕ) where
  -- a death
  died : (c b : ℕ) (When : ℕ → Type 0) → r.Died c b → When (time_of p b) → at_journals.DiedAt p a.journals c When
  died c b When d h =
      let k = g.schedule.logged.died c b d in
      own_journal a.journals c k.entry (λ e. at_journals.IsDeath e.what × When (time_of p e.stamp.beat)) k.stands
      (subst (λ (v : What). at_journals.IsDeath v) (sym k.is) tt, subst (λ (x : ℕ). When (time_of p x)) (sym k.beat) h)

  -- who did not come back so early by the facts did not by the journals
  not_back : (c span time : ℕ) → c < p.cubs → ((x l : ℕ) → r.Returned c x → r.Ticked c x l → time < l + span)
      → at_journals.WasBackBy a.journals c span time → ⊥
  not_back c span time small away b =
      let e = any_by (λ (x : Entry). at_journals.IsReturn x.what × (x.stamp.reading + span ≤ time)) (journal_at a.journals c) b in
      let k = g.schedule.tells.returned c e.0 small (stands_at a.journals c e.0 e.1) (return_is e.0.what e.2.0) in
      let early = e.2.1 in
      let late = away e.0.stamp.beat e.0.stamp.reading k.0 k.1 in
      omega arith

  unserved : at_facts.IsNotBackFor p r t n → at_journals.IsUnservedBack p a.journals t n
  unserved away = ⊎_elim
      (λ (first : n ≡ t.first). inl first)
      (λ (later : n ≡ t.first → ⊥).
      inr (not_back (cub_of p n) (at_journals.serves_after p) (due p t.slot.0 n) (cub_below p n g.schedule.plan.ranges)
      (λ x l back ticked. ⊎_elim
      (λ (soon : due p t.slot.0 n < serves_from p l). let z : due p t.slot.0 n < l + at_journals.serves_after p = omega arith in z)
      (λ first. absurd (later first))
      (away x l back ticked))))
      (cases_eq n t.first)

  -- a read that failed
  failed_entry : (c j b : ℕ) → w.Failed c t n j b → IsLogged a.journals c b
      (λ e. at_journals.IsFailedRead t.instance.0 n j e.what)
  failed_entry c j b f =
      let k = g.ties.logs.failed c n j b t f in
      record {
        entry = k.entry;
        stands = k.stands;
        beat = k.beat;
        is = subst (λ (v : What). at_journals.IsFailedRead
            t.instance.0 n j v) (sym k.is) (refl, refl, refl);
      }

  -- stands in the journal of the cub
  pub read_failed : (c j : ℕ) → at_facts.ReadFailed w end c t n j
      → at_journals.ReadFailed a.journals c t.instance.0 n j
  read_failed c j f =
      let l = failed_entry c j f.beat f.failed in
      own_journal a.journals c l.entry (λ e. at_journals.IsFailedRead t.instance.0 n j e.what) l.stands l.is

  lost : (j : ℕ) → 1 ≤ j → at_facts.PieceIsLost p r w end t n j → at_journals.PieceIsLost p a.journals t n j
  lost zero some h = absurd (omega arith)
  lost (suc k) some h = ⊎_elim
      (λ (f : at_facts.ReadFailed w end (cub_of p (n + suc k)) t n (suc k)).
      let l = failed_entry (cub_of p (n + suc k)) (suc k) f.beat f.failed in
      inl (some_journal a.journals (cub_of p (n + suc k)) l.entry (λ e. at_journals.IsFailedRead t.instance.0 n
      (suc k) e.what) l.stands l.is))
      (λ (d : at_facts.DiedBeforeLeaving p r end (cub_of p (n + suc k)) t n (suc k)).
      let time : ℕ = leaving (due p t.slot.0 n) (suc k) p.play p.pieces in
      inr (
        died (cub_of p (n + suc k)) d.beat (λ death. death < time + p.beat) d.died d.early,
        not_back (cub_of p (n + suc k)) (at_journals.lets_in_after p) time (cub_below p (n + suc k) g.schedule.plan.ranges)
            (λ x l back ticked.
            let late : time < enters_from p l = d.away x l back ticked in
            let z : time < l + at_journals.lets_in_after p = omega arith in z),
      ))
      h

  -- each excuse by facts
  excuse : at_facts.IsExcused p r w end t n
      → at_journals.ReadFailed a.journals (cub_of p n) t.instance.0 n 0
      ⊎ (at_journals.LostInPieces p a.journals t n ⊎ (at_journals.LostInDeath p a.journals t n
      ⊎ at_journals.WasStopped p a.journals t n))
  excuse h = ⊎_elim
      (λ (f : at_facts.ReadFailed w end (cub_of p n) t n 0). inl (read_failed (cub_of p n) 0 f))
      (λ more. ⊎_elim
      (λ (l : at_facts.LostInPieces p r w end t n). inr (inl (record {
        died = died (cub_of p n) l.beat (λ death. death + takeover p ≤ due p t.slot.0 n) l.died l.long;
        away = unserved l.away;
        piece = l.piece;
        low = l.low;
        high = l.high;
        lost = lost l.piece l.low l.lost;
      })))
      (λ (d : at_facts.LostInDeath p r end t n).
      inr (inr (inl (
        died (cub_of p n) d.beat (λ death. (death < due p t.slot.0 n + p.beat)
            × (due p t.slot.0 n < death + takeover p)) d.died (d.early, d.late),
        unserved d.away,
      ))))
      more)
      h

  pub is_excused : IsVisitOf a.journals t.instance.0 n t → at_facts.IsExcused p r w end t n
      → at_journals.IsExcused p a.journals t.instance.0 n
  is_excused v h = record { tenancy = t; visited = v; excuse = excuse h }

  pub stop_excuses : IsVisitOf a.journals t.instance.0 n t → at_journals.WasStopped p a.journals t n
      → at_journals.IsExcused p a.journals t.instance.0 n
  stop_excuses v h = record { tenancy = t; visited = v; excuse = inr (inr (inr h)) }

  -- ---- stops

  abbrev bound : ℕ
  bound = due p t.slot.0 n + p.play

  abbrev stops : Entry → Bool
  stops e = is_gone_of t.instance.0 e.what && nat_lt (time_of p e.stamp.beat) bound

  stop_is : (v : What) → is_gone_of t.instance.0 v ≡ true → at_journals.IsStopOf t.instance.0 v
  stop_is (what.Gone instance) e = eqb-true _ _ e
  stop_is other e = absurd (cc)

  stops_is : (e : Entry) → stops e ≡ true → at_journals.IsStopOf t.instance.0 e.what × (time_of p e.stamp.beat < bound)
  stops_is e h = (
    stop_is e.what (and_left (is_gone_of t.instance.0 e.what) (nat_lt (time_of p e.stamp.beat) bound) h),
    (less (time_of p e.stamp.beat) bound).0 (and_right (is_gone_of t.instance.0 e.what)
        (nat_lt (time_of p e.stamp.beat) bound) h),
  )

  -- the instance was stopped less than a block play time after the visit was due, or not
  pub stopped_or_not : at_journals.WasStopped p a.journals t n ⊎ at_facts.IsUnstopped p r t n
  stopped_or_not = ⊎_elim
      (λ (some : list_any (λ journal. list_any stops journal) a.journals ≡ true).
      inl (any_found (λ journal. AnyByRecursion (λ e. at_journals.IsStopOf t.instance.0 e.what
      × (time_of p e.stamp.beat < bound)) journal) (λ journal. list_any stops journal)
      (λ journal h. any_found (λ e. at_journals.IsStopOf t.instance.0 e.what × (time_of p e.stamp.beat < bound))
      stops stops_is journal h)
      a.journals some))
      (λ (none : list_any (λ journal. list_any stops journal) a.journals ≡ false).
      inr (λ z gone. ⊎_elim
      (λ (early : time_of p z < bound).
      let k = g.schedule.logged.gone t.instance.0 z gone in
      let e : Entry = k.1.entry in
      let at : is_gone_of t.instance.0 e.what ≡ true = ap (is_gone_of t.instance.0) k.1.is.is
      ∙ eq-eqb _ _ k.1.is.same in
      let soon : nat_lt (time_of p e.stamp.beat) bound ≡ true = (less (time_of p e.stamp.beat) bound).1
      (subst (λ (b : ℕ). time_of p b < bound) (sym k.1.beat) early) in
      let stop : stops e ≡ true = and_both (is_gone_of t.instance.0 e.what) (nat_lt (time_of p e.stamp.beat) bound)
      at soon in
      let there : list_any stops k.1.stands.journal ≡ true = any_passes stops k.1.stands.journal e k.1.stands.there
      stop in
      absurd (true≢false (sym (any_passes (λ journal. list_any stops journal) a.journals k.1.stands.journal
      (in_all a.journals k.0 k.1.stands.journal k.1.stands.at) there) ∙ none)))
      (λ late. late)
      (cases_lt (time_of p z) bound)))
      (cases_Bool (list_any (λ journal. list_any stops journal) a.journals))
