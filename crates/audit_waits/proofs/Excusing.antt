-- What cubs have and believe after one entry more, and which of their records excuse.
use Rattle.std.proofs.Common.{◌≡◌, ℕ, ◌+◌, Bool, true, false, not, ◌&&◌, ◌||◌, ◌==◌, IsTrue, cond, List, [], ◌∷◌, ◌++◌, filter, refl, sym, ap, subst, ◌∙◌, ⊎_elim}
use Rattle.std.specs.Prelude.{◌↔◌}
use Rattle.std.specs.List.{list_any}
use Rattle.std.specs.Ordering.{is_eq}
use Rattle.std.proofs.lemmas.Bool.{eqb-true, eq-eqb, false≢true}
use Rattle.std.proofs.lemmas.List.Folds.{list_any-append}
use Rattle.tiger_base.specs.declared.number.CubNo.{CubNo}
use Rattle.tiger_base.specs.declared.tenancy.Rec.{Rec}
use Rattle.slot_plan.specs.declared.params.Params.{Params}
use Rattle.node_kit.specs.declared.journal.What.{What}
use Rattle.node_kit.specs.declared.journal.What.TheVariants as what
use Rattle.run_facts.specs.Order.{Noted}
use Rattle.run_facts.specs.Timed.{is_died}
use Rattle.run_model.specs.Fronts.{AnyByRecursion}
use Rattle.run_model.specs.Schedule.{Stop}
use Rattle.run_model.specs.Views.{same_record, recorded}
use Rattle.run_model.specs.Moments.{Moment, next_moment, opening, is_belief_of, view_of}
use Rattle.run_model.specs.Orders.{IsOfRecentlyStopped, IsRecentStop}
use Rattle.run_model.proofs.Reflects.{and_both, and_left, and_right, or_either, or_first, or_second, any, any_found, at_most, both, equal}
use Rattle.slot_plan.specs.Times.{time_of}
use Rattle.audit_frame.specs.Records.{has_held, held_by, held_cmp, is_held_at, is_same, record_of}
use Rattle.audit_frame.specs.Tables.{has_number, has_pair}
use Rattle.audit_frame.specs.declared.records.By.TheVariants as way
use Rattle.audit_frame.specs.declared.records.Held.{Held}
use Rattle.audit_frame.proofs.Added.{or_false, or_none}
use Rattle.audit_frame.proofs.Kept.{held_again, held_itself, one_held, record_again}
use Rattle.audit_frame.proofs.Keyed.{any_filtered}
use Rattle.audit_frame.proofs.Recorded.{one_record, record_itself, same_turned}
use Rattle.audit_waits.specs.Cubs.{TellsCubs, excuses_in, is_excusing}
use Rattle.audit_waits.specs.Holders.{TellsHolders, is_recent_stop}
use Rattle.audit_waits.specs.declared.cubs.Cubs.{Cubs}
use Rattle.audit_waits.specs.declared.holders.Holders.{Holders}

-- ---- one entry more

cubs_told : (old new : Cubs) (m : Moment) (x : Noted)
    → ((n : ℕ) → has_number n new.dead ≡ (has_number n old.dead || ((x.node == n) && is_died x.entry.what)))
    → ((c d : ℕ) → has_pair c d new.believed ≡ (has_pair c d old.believed || ((x.node == c) && is_belief_of d x.entry.what)))
    → ((c : ℕ) (r : Rec) → has_held way.Slot c r new.records
    ≡ list_any (same_record r) (cond (x.node == c) (recorded (m.records c) x.entry.what) (m.records c)))
    → TellsCubs old m → TellsCubs new (next_moment m x)
unfolding next_moment
cubs_told old new m x dead believed records h = record {
  dead = λ n. ap (λ (b : Bool). b || ((x.node == n) && is_died x.entry.what)) (h.dead n) ∙ sym (dead n);
  believed = λ c d. ap (λ (b : Bool). b || ((x.node == c) && is_belief_of d x.entry.what)) (h.believed c d) ∙ sym (believed c d);
  records = records;
}

-- what an entry leaves as it is
dead_still : (n : ℕ) (old new : List ℕ) (x : Noted) → new ≡ old → is_died x.entry.what ≡ false
    → has_number n new ≡ (has_number n old || ((x.node == n) && is_died x.entry.what))
dead_still n old new x same e =
    ap (has_number n) same ∙ sym (ap (λ (b : Bool). has_number n old || ((x.node == n) && b)) e ∙ or_none (has_number n old) (x.node == n))

belief_still : (c d : ℕ) (old new : List (ℕ × ℕ)) (x : Noted) → new ≡ old → is_belief_of d x.entry.what ≡ false
    → has_pair c d new ≡ (has_pair c d old || ((x.node == c) && is_belief_of d x.entry.what))
belief_still c d old new x same e =
    ap (has_pair c d) same ∙ sym (ap (λ (b : Bool). has_pair c d old || ((x.node == c) && b)) e ∙ or_none (has_pair c d old) (x.node == c))

either_way : (t : Rec → Bool) (b : Bool) (xs : List Rec) → list_any t xs ≡ list_any t (cond b xs xs)
either_way t true xs = refl
either_way t false xs = refl

records_still : (c : ℕ) (r : Rec) (old new : Cubs) (m : Moment) (x : Noted) → new.records ≡ old.records → recorded (m.records c) x.entry.what ≡ m.records c
    → TellsCubs old m → has_held way.Slot c r new.records ≡ list_any (same_record r) (cond (x.node == c) (recorded (m.records c) x.entry.what) (m.records c))
records_still c r old new m x same e h =
    ap (has_held way.Slot c r) same ∙ h.records c r ∙ either_way (same_record r) (x.node == c) (m.records c)
    ∙ ap (λ (xs : List Rec). list_any (same_record r) (cond (x.node == c) xs (m.records c))) (sym e)

-- ---- a record is taken, and dropped

took_here : (r q : Rec) (b : Bool) (xs : List Rec)
    → (list_any (same_record r) xs || (b && same_record q r)) ≡ list_any (same_record r) (cond b (xs ++ q ∷ []) xs)
took_here r q true xs =
    ap (λ (s : Bool). list_any (same_record r) xs || s) (same_turned q r ∙ sym (or_false (same_record r q)))
    ∙ sym (list_any-append (same_record r) xs (q ∷ []))
took_here r q false xs = or_false (list_any (same_record r) xs)

pub took_known : (old new : Cubs) (m : Moment) (x : Noted) (q : Rec) → x.entry.what ≡ what.Took q → new.dead ≡ old.dead → new.believed ≡ old.believed
    → ((c : ℕ) (r : Rec) → has_held way.Slot c r new.records ≡ (has_held way.Slot c r old.records || is_same x.node q c r))
    → TellsCubs old m → TellsCubs new (next_moment m x)
took_known old new m x q is dead believed added h = cubs_told old new m x
    (λ n. dead_still n old.dead new.dead x dead (ap is_died is))
    (λ c d. belief_still c d old.believed new.believed x believed (ap (is_belief_of d) is))
    (λ c r.
    added c r
    ∙ ap (λ (b : Bool). b || is_same x.node q c r) (h.records c r)
    ∙ took_here r q (x.node == c) (m.records c)
    ∙ ap (λ (w : What). list_any (same_record r) (cond (x.node == c) (recorded (m.records c) w) (m.records c))) (sym is))
    h

dropped_here : (r q : Rec) (b : Bool) (xs : List Rec)
    → (list_any (same_record r) xs && not (b && same_record q r)) ≡ list_any (same_record r) (cond b (filter (λ k. not (same_record q k)) xs) xs)
dropped_here r q true xs =
    sym (any_filtered (same_record r) (λ k. not (same_record q k)) (not (same_record q r)) xs
    (λ k e. ap (λ (y : Rec). not (same_record q y)) (sym (one_record r k e))))
dropped_here r q false xs = go (list_any (same_record r) xs) where
  go : (b : Bool) → (b && true) ≡ b
  go true = refl
  go false = refl

pub dropped_known : (old new : Cubs) (m : Moment) (x : Noted) (q : Rec) → x.entry.what ≡ what.Dropped q → new.dead ≡ old.dead → new.believed ≡ old.believed
    → ((c : ℕ) (r : Rec) → has_held way.Slot c r new.records ≡ (has_held way.Slot c r old.records && not (is_same x.node q c r)))
    → TellsCubs old m → TellsCubs new (next_moment m x)
dropped_known old new m x q is dead believed removed h = cubs_told old new m x
    (λ n. dead_still n old.dead new.dead x dead (ap is_died is))
    (λ c d. belief_still c d old.believed new.believed x believed (ap (is_belief_of d) is))
    (λ c r.
    removed c r
    ∙ ap (λ (b : Bool). b && not (is_same x.node q c r)) (h.records c r)
    ∙ dropped_here r q (x.node == c) (m.records c)
    ∙ ap (λ (w : What). list_any (same_record r) (cond (x.node == c) (recorded (m.records c) w) (m.records c))) (sym is))
    h

-- ---- a belief, a death, and any other entry

pub belief_known : (old new : Cubs) (m : Moment) (x : Noted) (cub : CubNo) → x.entry.what ≡ what.Believed cub → new.dead ≡ old.dead → new.records ≡ old.records
    → ((c d : ℕ) → has_pair c d new.believed ≡ (has_pair c d old.believed || ((x.node == c) && (cub.0 == d))))
    → TellsCubs old m → TellsCubs new (next_moment m x)
belief_known old new m x cub is dead records added h = cubs_told old new m x
    (λ n. dead_still n old.dead new.dead x dead (ap is_died is))
    (λ c d. added c d ∙ ap (λ (w : What). has_pair c d old.believed || ((x.node == c) && is_belief_of d w)) (sym is))
    (λ c r. records_still c r old new m x records (ap (recorded (m.records c)) is) h)
    h

and_true : (a b : Bool) → (a || b) ≡ (a || (b && true))
and_true true b = refl
and_true false true = refl
and_true false false = refl

-- a death and a return empty a view
abbrev empties : What → Bool
empties what.Died = true
empties what.Returned = true
empties other = false

emptied : (xs : List Rec) (w : What) → empties w ≡ true → recorded xs w ≡ []
emptied xs what.Died e = refl
emptied xs what.Returned e = refl
emptied xs other e = absurd (false≢true e)

emptied_here : (r : Rec) (b : Bool) (xs : List Rec) → (list_any (same_record r) xs && not b) ≡ list_any (same_record r) (cond b [] xs)
emptied_here r true xs = none (list_any (same_record r) xs) where
  none : (b : Bool) → (b && false) ≡ false
  none true = refl
  none false = refl
emptied_here r false xs = same (list_any (same_record r) xs) where
  same : (b : Bool) → (b && true) ≡ b
  same true = refl
  same false = refl

records_emptied : (c : ℕ) (r : Rec) (old new : Cubs) (m : Moment) (x : Noted) → empties x.entry.what ≡ true
    → ((d : ℕ) (q : Rec) → has_held way.Slot d q new.records ≡ (has_held way.Slot d q old.records && not (x.node == d)))
    → TellsCubs old m → has_held way.Slot c r new.records ≡ list_any (same_record r) (cond (x.node == c) (recorded (m.records c) x.entry.what) (m.records c))
records_emptied c r old new m x is cleared h =
    cleared c r
    ∙ ap (λ (b : Bool). b && not (x.node == c)) (h.records c r)
    ∙ emptied_here r (x.node == c) (m.records c)
    ∙ ap (λ (xs : List Rec). list_any (same_record r) (cond (x.node == c) xs (m.records c))) (sym (emptied (m.records c) x.entry.what is))

pub return_known : (old new : Cubs) (m : Moment) (x : Noted) → x.entry.what ≡ what.Returned → new.dead ≡ old.dead → new.believed ≡ old.believed
    → ((c : ℕ) (r : Rec) → has_held way.Slot c r new.records ≡ (has_held way.Slot c r old.records && not (x.node == c)))
    → TellsCubs old m → TellsCubs new (next_moment m x)
return_known old new m x is dead believed cleared h = cubs_told old new m x
    (λ n. dead_still n old.dead new.dead x dead (ap is_died is))
    (λ c d. belief_still c d old.believed new.believed x believed (ap (is_belief_of d) is))
    (λ c r. records_emptied c r old new m x (ap empties is) cleared h)
    h

pub death_known : (old new : Cubs) (m : Moment) (x : Noted) → x.entry.what ≡ what.Died → new.believed ≡ old.believed
    → ((c : ℕ) (r : Rec) → has_held way.Slot c r new.records ≡ (has_held way.Slot c r old.records && not (x.node == c)))
    → ((n : ℕ) → has_number n new.dead ≡ (has_number n old.dead || (x.node == n)))
    → TellsCubs old m → TellsCubs new (next_moment m x)
death_known old new m x is believed cleared added h = cubs_told old new m x
    (λ n. added n ∙ and_true (has_number n old.dead) (x.node == n)
    ∙ ap (λ (w : What). has_number n old.dead || ((x.node == n) && is_died w)) (sym is))
    (λ c d. belief_still c d old.believed new.believed x believed (ap (is_belief_of d) is))
    (λ c r. records_emptied c r old new m x (ap empties is) cleared h)
    h

other_parts : (w : What) → ((r : Rec) → w ≡ what.Took r → ⊥) → ((r : Rec) → w ≡ what.Dropped r → ⊥) → ((c : CubNo) → w ≡ what.Believed c → ⊥)
    → (w ≡ what.Died → ⊥) → (w ≡ what.Returned → ⊥) → (is_died w ≡ false) × (((d : ℕ) → is_belief_of d w ≡ false) × ((xs : List Rec) → recorded xs w ≡ xs))
other_parts (what.Took r) a b c d e = absurd (a r refl)
other_parts (what.Dropped r) a b c d e = absurd (b r refl)
other_parts (what.Believed k) a b c d e = absurd (c k refl)
other_parts what.Died a b c d e = absurd (d refl)
other_parts what.Returned a b c d e = absurd (e refl)
other_parts other a b c d e = (refl, ((λ k. refl), (λ xs. refl)))

pub other_known : (s : Cubs) (m : Moment) (x : Noted) → ((r : Rec) → x.entry.what ≡ what.Took r → ⊥) → ((r : Rec) → x.entry.what ≡ what.Dropped r → ⊥)
    → ((c : CubNo) → x.entry.what ≡ what.Believed c → ⊥) → (x.entry.what ≡ what.Died → ⊥)
    → (x.entry.what ≡ what.Returned → ⊥) → TellsCubs s m → TellsCubs s (next_moment m x)
other_known s m x a b c d e h =
    let parts = other_parts x.entry.what a b c d e in
    cubs_told s s m x
    (λ n. dead_still n s.dead s.dead x refl parts.0)
    (λ k f. belief_still k f s.believed s.believed x refl (parts.1.0 f))
    (λ k r. records_still k r s s m x refl (parts.1.1 (m.records k)) h)
    h

-- ---- before the first entry

pub cubs_opening : (s : Cubs) → s.dead ≡ [] → s.believed ≡ [] → s.records ≡ [] → TellsCubs s opening
cubs_opening s dead believed records = record {
  dead = λ n. sym (ap (has_number n) dead);
  believed = λ c d. sym (ap (has_pair c d) believed);
  records = λ c r. ap (has_held way.Slot c r) records;
}

-- ---- records that excuse

some_held : (f : Held → Bool) (rows : List Held) → IsTrue (list_any f rows)
    → (s : Held) × IsTrue (f s) × IsTrue (list_any (λ k. is_eq (held_cmp s k)) rows)
some_held f [] h = absurd (false≢true h)
some_held f (s ∷ ss) h = ⊎_elim
    (λ a. (s, a, or_first (is_eq (held_cmp s s)) (list_any (λ k. is_eq (held_cmp s k)) ss) (held_itself s)))
    (λ a. let r = some_held f ss a in (r.0, r.1, or_second (is_eq (held_cmp r.0 s)) (list_any (λ k. is_eq (held_cmp r.0 k)) ss) r.2))
    (or_either (f s) (list_any f ss) h)

some_record : (P : Rec → Type 0) (xs : List Rec) → AnyByRecursion P xs → (r : Rec) × P r × IsTrue (list_any (same_record r) xs)
some_record P [] h = absurd h
some_record P (x ∷ xs) h = ⊎_elim
    (λ a. (x, a, or_first (same_record x x) (list_any (same_record x) xs) (record_itself x)))
    (λ a. let r = some_record P xs a in (r.0, r.1, or_second (same_record r.0 x) (list_any (same_record r.0) xs) r.2))
    h

any_implied : {X : Type 0} (f g : X → Bool) (xs : List X) → ((x : X) → IsTrue (f x) → IsTrue (g x)) → IsTrue (list_any f xs) → IsTrue (list_any g xs)
any_implied f g [] h t = t
any_implied f g (x ∷ xs) h t = ⊎_elim
    (λ a. or_first (g x) (list_any g xs) (h x a))
    (λ a. or_second (g x) (list_any g xs) (any_implied f g xs h a))
    (or_either (f x) (list_any f xs) t)

recent_is : (p : Params) (beat v : ℕ) (stop : Stop) → IsTrue (is_recent_stop p beat v stop) ↔ IsRecentStop p beat v stop
recent_is p beat v stop = both _ _ (stop.instance ≡ v) _ (equal stop.instance v) (at_most (time_of p beat) (time_of p stop.beat + p.play))

-- one record, by its numbers
held_is : (p : Params) (h : Holders) (m : Moment) (beat slot visit : ℕ) (s : Held) → TellsHolders p h m.schedule
    → IsTrue (((s.under == slot) && (s.visit == visit)) && is_excusing p h beat s) ↔ IsOfRecentlyStopped p m beat slot visit (record_of way.Slot s)
held_is p h m beat slot visit s tells =
    let stops = any (IsRecentStop p beat s.beside) (is_recent_stop p beat s.beside) (recent_is p beat s.beside) m.schedule.stops in (
      (λ t.
          let place = and_left ((s.under == slot) && (s.visit == visit)) (is_excusing p h beat s) t in (
            eqb-true s.under slot (and_left (s.under == slot) (s.visit == visit) place),
            eqb-true s.visit visit (and_right (s.under == slot) (s.visit == visit) place),
            stops.0 (subst IsTrue (sym (tells.recent s.beside beat)) (and_right ((s.under == slot) && (s.visit == visit)) (is_excusing p h beat s) t)),
          )),
      (λ t. and_both ((s.under == slot) && (s.visit == visit)) (is_excusing p h beat s)
          (and_both (s.under == slot) (s.visit == visit) (eq-eqb s.under slot t.0) (eq-eqb s.visit visit t.1))
          (subst IsTrue (tells.recent s.beside beat) (stops.1 t.2))),
    )

records_tell : (p : Params) (h : Holders) (s : Cubs) (m : Moment) (c beat slot visit : ℕ) → TellsHolders p h m.schedule → TellsCubs s m
    → IsTrue (list_any (λ x. is_held_at slot c visit x && is_excusing p h beat x) s.records)
    ↔ AnyByRecursion (IsOfRecentlyStopped p m beat slot visit) (m.records c)
records_tell p h s m c beat slot visit holders cubs = (there, back) where
  there : IsTrue (list_any (λ x. is_held_at slot c visit x && is_excusing p h beat x) s.records) → AnyByRecursion (IsOfRecentlyStopped p m beat slot visit) (m.records c)
  there t =
      let x = some_held (λ x. is_held_at slot c visit x && is_excusing p h beat x) s.records t in
      let place = and_left (is_held_at slot c visit x.0) (is_excusing p h beat x.0) x.1 in
      let cub = eqb-true x.0.cub c (and_left (x.0.cub == c) ((x.0.under == slot) && (x.0.visit == visit)) place) in
      let fits = (held_is p h m beat slot visit x.0 holders).0
      (and_both ((x.0.under == slot) && (x.0.visit == visit)) (is_excusing p h beat x.0)
      (and_right (x.0.cub == c) ((x.0.under == slot) && (x.0.visit == visit)) place)
      (and_right (is_held_at slot c visit x.0) (is_excusing p h beat x.0) x.1)) in
      let member : IsTrue (has_held way.Slot x.0.cub (record_of way.Slot x.0) s.records) =
      subst (λ (y : Held). IsTrue (list_any (λ k. is_eq (held_cmp y k)) s.records)) (sym (held_again way.Slot x.0)) x.2 in
      let stands : IsTrue (list_any (same_record (record_of way.Slot x.0)) (m.records c)) =
      subst (λ (k : ℕ). IsTrue (list_any (same_record (record_of way.Slot x.0)) (m.records k))) cub
      (subst IsTrue (cubs.records x.0.cub (record_of way.Slot x.0)) member) in
      any_found (IsOfRecentlyStopped p m beat slot visit) (same_record (record_of way.Slot x.0))
      (λ q e. subst (IsOfRecentlyStopped p m beat slot visit) (one_record (record_of way.Slot x.0) q e) fits) (m.records c) stands

  back : AnyByRecursion (IsOfRecentlyStopped p m beat slot visit) (m.records c) → IsTrue (list_any (λ x. is_held_at slot c visit x && is_excusing p h beat x) s.records)
  back t =
      let r = some_record (IsOfRecentlyStopped p m beat slot visit) (m.records c) t in
      let own = (held_is p h m beat slot visit (held_by way.Slot c r.0) holders).1
      (subst (IsOfRecentlyStopped p m beat slot visit) (sym (record_again way.Slot c r.0)) r.1) in
      let here : IsTrue (is_held_at slot c visit (held_by way.Slot c r.0) && is_excusing p h beat (held_by way.Slot c r.0)) =
      and_both (is_held_at slot c visit (held_by way.Slot c r.0)) (is_excusing p h beat (held_by way.Slot c r.0))
      (and_both (c == c) ((r.0.tenancy.slot.0 == slot) && (r.0.visit == visit)) (eq-eqb c c refl)
      (and_left ((r.0.tenancy.slot.0 == slot) && (r.0.visit == visit)) (is_excusing p h beat (held_by way.Slot c r.0)) own))
      (and_right ((r.0.tenancy.slot.0 == slot) && (r.0.visit == visit)) (is_excusing p h beat (held_by way.Slot c r.0)) own) in
      any_implied (λ k. is_eq (held_cmp (held_by way.Slot c r.0) k)) (λ x. is_held_at slot c visit x && is_excusing p h beat x) s.records
      (λ k e. subst (λ (y : Held). IsTrue (is_held_at slot c visit y && is_excusing p h beat y)) (one_held (held_by way.Slot c r.0) k e) here)
      (subst IsTrue (sym (cubs.records c r.0)) r.2)

pub excuses_is : (p : Params) (h : Holders) (s : Cubs) (m : Moment) (c beat slot visit : ℕ) → TellsHolders p h m.schedule → TellsCubs s m
    → IsTrue (excuses_in p h s c beat slot visit) ↔ AnyByRecursion (IsOfRecentlyStopped p m beat slot visit) (view_of m c)
excuses_is p h s m c beat slot visit holders cubs = records_tell p h s m c beat slot visit holders cubs
