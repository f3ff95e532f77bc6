-- Which starts wait after one entry more.
use Rattle.std.proofs.Common.{◌≡◌, ℕ, Bool, true, false, not, ◌&&◌, ◌||◌, ◌==◌, IsTrue, cond, List, [], ◌∷◌, ◌++◌, refl, sym, ap, subst, ◌∙◌}
use Rattle.std.specs.Prelude.{◌↔◌}
use Rattle.std.proofs.lemmas.Bool.{eqb-true, eq-eqb, false≢true}
use Rattle.std.proofs.lemmas.List.Folds.{list_any-append}
use Rattle.tiger_base.specs.declared.message.Note.{Note}
use Rattle.tiger_base.specs.declared.message.Note.TheVariants as note
use Rattle.tiger_base.specs.declared.number.Instance.{Instance}
use Rattle.tiger_base.specs.declared.number.LinkNo.{LinkNo}
use Rattle.tiger_base.specs.declared.tenancy.Ask.{Ask}
use Rattle.tiger_base.specs.declared.tenancy.Tenancy.{Tenancy}
use Rattle.slot_plan.specs.declared.params.Params.{Params}
use Rattle.node_kit.specs.declared.course.Order.{Order}
use Rattle.node_kit.specs.declared.journal.Entry.{Entry}
use Rattle.node_kit.specs.declared.journal.What.{What}
use Rattle.node_kit.specs.declared.journal.What.TheVariants as what
use Rattle.run_facts.specs.Order.{Noted, beat_of}
use Rattle.run_model.specs.Schedule.{Stop, after_entry, changed, is_stopped}
use Rattle.run_model.specs.Moments.{Moment, next_moment, opening, is_put_of}
use Rattle.run_model.specs.Orders.{IsStartOf}
use Rattle.run_model.proofs.Reflects.{and_both, and_left, and_right, negated, any}
use Rattle.audit_frame.specs.Tables.{has_number, has_pair}
use Rattle.audit_frame.proofs.Added.{or_false}
use Rattle.audit_frame.proofs.Seated.{put_stops}
use Rattle.audit_waits.specs.Starts.{AreDisksOf, AreOrdered, HasEnded, HasLetIn, HasTakenNote, TellsStarts, WaitsFor, cub_for, ends_wait, is_over, is_start_of, note_lets_in, same_way, waiting_in, waits_for, was_got}
use Rattle.audit_waits.specs.declared.starts.Starts.{Starts}

-- ---- tests

pub and_none : (a : Bool) → false ≡ (a && false)
and_none true = refl
and_none false = refl

pub and_all : (a : Bool) → a ≡ (a && true)
and_all true = refl
and_all false = refl

-- what waits, what comes to wait, and what is over
bits : (a g o n s e : Bool) → (((a && (g && not o)) || (a && (n && (s && not o)))) && not e) ≡ (a && ((g || (n && s)) && not (o || e)))
bits false g o n s e = refl
bits true true true true true e = refl
bits true true true true false e = refl
bits true true true false true e = refl
bits true true true false false e = refl
bits true false true true true e = refl
bits true false true true false e = refl
bits true false true false true e = refl
bits true false true false false e = refl
bits true true false n s e = refl
bits true false false true true e = refl
bits true false false true false e = refl
bits true false false false s e = refl

-- ---- one entry more

journal_more : (v : ℕ) (redundant b : Bool) (e : Entry) (es : List Entry)
    → was_got v redundant (cond b (es ++ e ∷ []) es) ≡ (was_got v redundant es || (b && is_start_of v redundant e.what))
journal_more v redundant true e es =
    list_any-append (λ (x : Entry). is_start_of v redundant x.what) es (e ∷ [])
    ∙ ap (λ (b : Bool). was_got v redundant es || b) (or_false (is_start_of v redundant e.what))
journal_more v redundant false e es = sym (or_false (was_got v redundant es))

put_bits : (p t s : Bool) → ((p || t) || s) ≡ ((p || s) || t)
put_bits true t s = refl
put_bits false true true = refl
put_bits false true false = refl
put_bits false false true = refl
put_bits false false false = refl

gone_bits : (p t s : Bool) → ((p || false) || (s || (t || false))) ≡ ((p || s) || t)
gone_bits true t s = refl
gone_bits false t true = refl
gone_bits false true false = refl
gone_bits false false false = refl

other_bits : (p s : Bool) → ((p || false) || s) ≡ ((p || s) || false)
other_bits true s = refl
other_bits false true = refl
other_bits false false = refl

over_by : (m : Moment) (beat v : ℕ) (w : What)
    → ((m.put v || is_put_of v w) || is_stopped v (changed m.schedule beat w).stops) ≡ (is_over m v || ends_wait v w)
over_by m beat v (what.Put t) =
    ap (λ (ss : List Stop). (m.put v || (t.instance.0 == v)) || is_stopped v ss) (put_stops m.schedule beat t)
    ∙ put_bits (m.put v) (t.instance.0 == v) (is_stopped v m.schedule.stops)
over_by m beat v (what.Gone i) =
    ap (λ (b : Bool). (m.put v || false) || b)
    (list_any-append (λ (stop : Stop). stop.instance == v) m.schedule.stops ((record { instance = i.0; beat = beat }) ∷ []))
    ∙ gone_bits (m.put v) (i.0 == v) (is_stopped v m.schedule.stops)
over_by m beat v other = other_bits (m.put v) (is_stopped v m.schedule.stops)

over_more : (m : Moment) (x : Noted) (v : ℕ) → is_over (next_moment m x) v ≡ (is_over m v || ends_wait v x.entry.what)
unfolding next_moment after_entry
over_more m x v = over_by m (beat_of x) v x.entry.what

waits_more : (p : Params) (disks : List (ℕ × ℕ)) (m : Moment) (x : Noted) (redundant : Bool) (disk v : ℕ)
    → waits_for p disks (next_moment m x) redundant disk v
    ≡ (has_pair v disk disks && ((was_got v redundant (m.journal (cub_for p redundant disk))
    || ((x.node == cub_for p redundant disk) && is_start_of v redundant x.entry.what)) && not (is_over m v || ends_wait v x.entry.what)))
unfolding next_moment
waits_more p disks m x redundant disk v =
    ap (λ (b : Bool). has_pair v disk disks && (b && not (is_over (next_moment m x) v)))
    (journal_more v redundant (x.node == cub_for p redundant disk) x.entry (m.journal (cub_for p redundant disk)))
    ∙ ap (λ (b : Bool). has_pair v disk disks && ((was_got v redundant (m.journal (cub_for p redundant disk))
    || ((x.node == cub_for p redundant disk) && is_start_of v redundant x.entry.what)) && not b)) (over_more m x v)

-- whether an entry of a node is a start that comes to wait
abbrev comes_in : Params → Starts → ℕ → What → Bool → ℕ → ℕ → Bool
comes_in p s node w redundant disk v =
    has_pair v disk s.disks && ((node == cub_for p redundant disk) && (is_start_of v redundant w && not (has_number v s.over)))

step_told : (p : Params) (old new : Starts) (m : Moment) (x : Noted) → new.disks ≡ old.disks
    → ((v : ℕ) → has_number v new.over ≡ (has_number v old.over || ends_wait v x.entry.what))
    → ((redundant : Bool) (disk v : ℕ) → has_pair disk v (waiting_in redundant new)
    ≡ ((has_pair disk v (waiting_in redundant old) || comes_in p old x.node x.entry.what redundant disk v) && not (ends_wait v x.entry.what)))
    → TellsStarts p old m → TellsStarts p new (next_moment m x)
step_told p old new m x same over waiting h = record {
  over = λ v. over v ∙ ap (λ (b : Bool). b || ends_wait v x.entry.what) (h.over v) ∙ sym (over_more m x v);
  waiting = λ redundant disk v.
      waiting redundant disk v
      ∙ ap (λ (b : Bool). (b || comes_in p old x.node x.entry.what redundant disk v) && not (ends_wait v x.entry.what)) (h.waiting redundant disk v)
      ∙ ap (λ (b : Bool). (waits_for p old.disks m redundant disk v || (has_pair v disk old.disks
      && ((x.node == cub_for p redundant disk) && (is_start_of v redundant x.entry.what && not b)))) && not (ends_wait v x.entry.what)) (h.over v)
      ∙ bits (has_pair v disk old.disks) (was_got v redundant (m.journal (cub_for p redundant disk))) (is_over m v)
      (x.node == cub_for p redundant disk) (is_start_of v redundant x.entry.what) (ends_wait v x.entry.what)
      ∙ sym (waits_more p old.disks m x redundant disk v)
      ∙ ap (λ (ds : List (ℕ × ℕ)). waits_for p ds (next_moment m x) redundant disk v) (sym same);
}

-- ---- a note that was got

lets_bits : (i a n w o : Bool) → ((i && (a && n)) && (w && not o)) ≡ (a && (n && ((i && w) && not o)))
lets_bits true true true w o = refl
lets_bits true true false w o = refl
lets_bits true false n w o = refl
lets_bits false true true w o = refl
lets_bits false true false w o = refl
lets_bits false false n w o = refl

no_bits : (a n : Bool) → false ≡ (a && (n && false))
no_bits true true = refl
no_bits true false = refl
no_bits false n = refl

lets_is : (p : Params) (s : Starts) (node : ℕ) (link : LinkNo) (n : Note) (redundant : Bool) (disk v : ℕ)
    → note_lets_in p s node n redundant disk v ≡ comes_in p s node (what.Got link n) redundant disk v
lets_is p s node link (note.Start how ask) redundant disk v =
    lets_bits (ask.instance.0 == v) (has_pair v disk s.disks) (node == cub_for p redundant disk) (same_way how redundant) (has_number v s.over)
lets_is p s node link other redundant disk v = no_bits (has_pair v disk s.disks) (node == cub_for p redundant disk)

pub note_told : (p : Params) (old new : Starts) (m : Moment) (x : Noted) (link : LinkNo) (n : Note) → x.entry.what ≡ what.Got link n
    → new.disks ≡ old.disks → new.over ≡ old.over → HasTakenNote p x.node n old new
    → TellsStarts p old m → TellsStarts p new (next_moment m x)
note_told p old new m x link n is same over taken h = step_told p old new m x same
    (λ v. ap (has_number v) over ∙ sym (or_false (has_number v old.over)) ∙ ap (λ (w : What). has_number v old.over || ends_wait v w) (sym is))
    (λ redundant disk v.
    taken redundant disk v
    ∙ ap (λ (b : Bool). has_pair disk v (waiting_in redundant old) || b) (lets_is p old x.node link n redundant disk v)
    ∙ and_all (has_pair disk v (waiting_in redundant old) || comes_in p old x.node (what.Got link n) redundant disk v)
    ∙ ap (λ (w : What). (has_pair disk v (waiting_in redundant old) || comes_in p old x.node w redundant disk v) && not (ends_wait v w)) (sym is))
    h

-- ---- an end

end_bits : (old a n o e : Bool) → (old && not e) ≡ ((old || (a && (n && false))) && not e)
end_bits true a n o e = refl
end_bits false true true o e = refl
end_bits false true false o e = refl
end_bits false false n o e = refl

end_told : (p : Params) (i : ℕ) (old new : Starts) (m : Moment) (x : Noted) (w : What) → x.entry.what ≡ w
    → ((v : ℕ) → ends_wait v w ≡ (i == v)) → ((v : ℕ) (redundant : Bool) → is_start_of v redundant w ≡ false)
    → new.disks ≡ old.disks → HasEnded i old new → TellsStarts p old m → TellsStarts p new (next_moment m x)
end_told p i old new m x w is ends starts same ended h = step_told p old new m x same
    (λ v. ended.over v ∙ ap (λ (b : Bool). has_number v old.over || b) (sym (ends v))
    ∙ ap (λ (k : What). has_number v old.over || ends_wait v k) (sym is))
    (λ redundant disk v.
    ended.waiting redundant disk v
    ∙ ap (λ (b : Bool). has_pair disk v (waiting_in redundant old) && not b) (sym (ends v))
    ∙ end_bits (has_pair disk v (waiting_in redundant old)) (has_pair v disk old.disks) (x.node == cub_for p redundant disk) (has_number v old.over) (ends_wait v w)
    ∙ ap (λ (b : Bool). (has_pair disk v (waiting_in redundant old) || (has_pair v disk old.disks
    && ((x.node == cub_for p redundant disk) && (b && not (has_number v old.over))))) && not (ends_wait v w)) (sym (starts v redundant))
    ∙ ap (λ (k : What). (has_pair disk v (waiting_in redundant old) || comes_in p old x.node k redundant disk v) && not (ends_wait v k)) (sym is))
    h

pub put_told : (p : Params) (old new : Starts) (m : Moment) (x : Noted) (t : Tenancy) → x.entry.what ≡ what.Put t
    → new.disks ≡ old.disks → HasEnded t.instance.0 old new → TellsStarts p old m → TellsStarts p new (next_moment m x)
put_told p old new m x t is same ended h =
    end_told p t.instance.0 old new m x (what.Put t) is (λ v. refl) (λ v redundant. refl) same ended h

pub gone_told : (p : Params) (old new : Starts) (m : Moment) (x : Noted) (i : Instance) → x.entry.what ≡ what.Gone i
    → new.disks ≡ old.disks → HasEnded i.0 old new → TellsStarts p old m → TellsStarts p new (next_moment m x)
gone_told p old new m x i is same ended h =
    end_told p i.0 old new m x (what.Gone i) is (λ v. refl) (λ v redundant. refl) same ended h

-- ---- any other entry

other_parts : (w : What) → ((link : LinkNo) (n : Note) → w ≡ what.Got link n → ⊥) → ((t : Tenancy) → w ≡ what.Put t → ⊥)
    → ((i : Instance) → w ≡ what.Gone i → ⊥) → ((v : ℕ) → ends_wait v w ≡ false) × ((v : ℕ) (redundant : Bool) → is_start_of v redundant w ≡ false)
other_parts (what.Got link n) a b c = absurd (a link n refl)
other_parts (what.Put t) a b c = absurd (b t refl)
other_parts (what.Gone i) a b c = absurd (c i refl)
other_parts other a b c = ((λ v. refl), (λ v redundant. refl))

rest_bits : (old a n o : Bool) → old ≡ ((old || (a && (n && (false && not o)))) && not false)
rest_bits true a n o = refl
rest_bits false true true o = refl
rest_bits false true false o = refl
rest_bits false false n o = refl

pub other_told : (p : Params) (s : Starts) (m : Moment) (x : Noted) → ((link : LinkNo) (n : Note) → x.entry.what ≡ what.Got link n → ⊥)
    → ((t : Tenancy) → x.entry.what ≡ what.Put t → ⊥) → ((i : Instance) → x.entry.what ≡ what.Gone i → ⊥)
    → TellsStarts p s m → TellsStarts p s (next_moment m x)
other_told p s m x a b c h =
    let parts = other_parts x.entry.what a b c in
    step_told p s s m x refl
    (λ v. sym (ap (λ (e : Bool). has_number v s.over || e) (parts.0 v) ∙ or_false (has_number v s.over)))
    (λ redundant disk v.
    rest_bits (has_pair disk v (waiting_in redundant s)) (has_pair v disk s.disks) (x.node == cub_for p redundant disk) (has_number v s.over)
    ∙ ap (λ (q : Bool). (has_pair disk v (waiting_in redundant s) || (has_pair v disk s.disks
    && ((x.node == cub_for p redundant disk) && (q && not (has_number v s.over))))) && not false) (sym (parts.1 v redundant))
    ∙ ap (λ (e : Bool). (has_pair disk v (waiting_in redundant s) || comes_in p s x.node x.entry.what redundant disk v) && not e) (sym (parts.0 v)))
    h

-- ---- before the first entry

pub starts_opening : (p : Params) (s : Starts) → s.over ≡ [] → s.plain ≡ [] → s.spare ≡ [] → TellsStarts p s opening
starts_opening p s over plain spare = record { over = λ v. ap (has_number v) over; waiting = none } where
  none : (redundant : Bool) (disk v : ℕ) → has_pair disk v (waiting_in redundant s) ≡ waits_for p s.disks opening redundant disk v
  none false disk v = ap (has_pair disk v) plain ∙ and_none (has_pair v disk s.disks)
  none true disk v = ap (has_pair disk v) spare ∙ and_none (has_pair v disk s.disks)

-- ---- what a note lets in

pub start_note : (p : Params) (node : ℕ) (n : Note) (how : Bool) (ask : Ask) (old new : Starts) → n ≡ note.Start how ask
    → HasLetIn p how node ask.instance.0 old new → HasTakenNote p node n old new
start_note p node n how ask old new is let_in redundant disk v =
    let_in redundant disk v
    ∙ ap (λ (k : Note). has_pair disk v (waiting_in redundant old) || note_lets_in p old node k redundant disk v) (sym is)

not_start : (p : Params) (s : Starts) (node : ℕ) (n : Note) (redundant : Bool) (disk v : ℕ) → ((how : Bool) (ask : Ask) → n ≡ note.Start how ask → ⊥)
    → note_lets_in p s node n redundant disk v ≡ false
not_start p s node (note.Start how ask) redundant disk v h = absurd (h how ask refl)
not_start p s node other redundant disk v h = refl

pub other_note : (p : Params) (node : ℕ) (n : Note) (s : Starts) → ((how : Bool) (ask : Ask) → n ≡ note.Start how ask → ⊥) → HasTakenNote p node n s s
other_note p node n s h redundant disk v =
    sym (ap (λ (b : Bool). has_pair disk v (waiting_in redundant s) || b) (not_start p s node n redundant disk v h)
    ∙ or_false (has_pair disk v (waiting_in redundant s)))

-- ---- what a start lets in

over_bits : (e x w t : Bool) → (e ≡ true → t ≡ true) → ((e && x) && (w && not t)) ≡ false
over_bits false x w t f = refl
over_bits true x w true f = go x w where
  go : (a b : Bool) → (a && (b && false)) ≡ false
  go true true = refl
  go true false = refl
  go false b = refl
over_bits true x w false f = absurd (false≢true (f refl))

pub over_lets_none : (p : Params) (how : Bool) (node i : ℕ) (s : Starts) → has_number i s.over ≡ true → HasLetIn p how node i s s
over_lets_none p how node i s over redundant disk v =
    sym (ap (λ (b : Bool). has_pair disk v (waiting_in redundant s) || b)
    (over_bits (i == v) (has_pair v disk s.disks && (node == cub_for p redundant disk)) (same_way how redundant) (has_number v s.over)
    (λ e. ap (λ (k : ℕ). has_number k s.over) (sym (eqb-true i v e)) ∙ over))
    ∙ or_false (has_pair disk v (waiting_in redundant s)))

not_over : (s : Starts) (i v : ℕ) → has_number i s.over ≡ false → (i == v) ≡ true → has_number v s.over ≡ false
not_over s i v over e = ap (λ (k : ℕ). has_number k s.over) (sym (eqb-true i v e)) ∙ over

-- ---- an end

-- what waits is ordered
pub are_ordered : (p : Params) (s : Starts) (m : Moment) → TellsStarts p s m → AreOrdered s
are_ordered p s m h redundant disk v waits =
    and_left (has_pair v disk s.disks) _ (sym (h.waiting redundant disk v) ∙ waits)

-- whoever leaves the disks for which his starts were ordered waits for none
left_all : (i n g : ℕ) (old new : Bool) (disks : List (ℕ × ℕ)) → (IsTrue old → IsTrue (has_pair n g disks))
    → new ≡ (old && not ((i == n) && has_pair i g disks)) → new ≡ (old && not (i == n))
left_all i n g old new disks ordered e = e ∙ go old (i == n) refl refl where
  go : (a b : Bool) → old ≡ a → (i == n) ≡ b → (a && not (b && has_pair i g disks)) ≡ (a && not b)
  go false b f h = refl
  go true false f h = refl
  go true true f h =
      ap (λ (k : ℕ). not (has_pair k g disks)) (eqb-true i n h) ∙ ap not (ordered f)

pub has_ended : (i : ℕ) (old new : Starts) → ((n : ℕ) → has_number n new.over ≡ (has_number n old.over || (i == n)))
    → ((g n : ℕ) → has_pair g n new.plain ≡ (has_pair g n old.plain && not ((i == n) && has_pair i g old.disks)))
    → ((g n : ℕ) → has_pair g n new.spare ≡ (has_pair g n old.spare && not ((i == n) && has_pair i g old.disks)))
    → AreOrdered old → HasEnded i old new
has_ended i old new over plain spare ordered = record { over = over; waiting = both } where
  both : (redundant : Bool) (disk n : ℕ) → has_pair disk n (waiting_in redundant new) ≡ (has_pair disk n (waiting_in redundant old) && not (i == n))
  both false disk n = left_all i n disk (has_pair disk n old.plain) (has_pair disk n new.plain) old.disks (ordered false disk n) (plain disk n)
  both true disk n = left_all i n disk (has_pair disk n old.spare) (has_pair disk n new.spare) old.disks (ordered true disk n) (spare disk n)

-- ---- the test in the claim's words

start_is : (v : ℕ) (redundant : Bool) (w : What) → IsTrue (is_start_of v redundant w) ↔ IsStartOf v redundant w
start_is v redundant (what.Got link (note.Start how ask)) = (
  (λ h. (
    eqb-true ask.instance.0 v (and_left (ask.instance.0 == v) (same_way how redundant) h),
    one_way how redundant (and_right (ask.instance.0 == v) (same_way how redundant) h),
  )),
  (λ h. and_both (ask.instance.0 == v) (same_way how redundant) (eq-eqb ask.instance.0 v h.0)
      (subst (λ (b : Bool). IsTrue (same_way how b)) h.1 (own_way how))),
) where
  one_way : (a b : Bool) → IsTrue (same_way a b) → a ≡ b
  one_way true true h = refl
  one_way true false h = absurd (false≢true h)
  one_way false true h = absurd (false≢true h)
  one_way false false h = refl

  own_way : (a : Bool) → IsTrue (same_way a a)
  own_way true = refl
  own_way false = refl
start_is v redundant other = ((λ h. absurd (false≢true h)), (λ h. absurd h))

no_more : (a b : Bool) → (a || b) ≡ false → (a ≡ false) × (b ≡ false)
no_more true b e = absurd (false≢true (sym e))
no_more false b e = (refl, e)

none_of : (a b : Bool) → a ≡ false → b ≡ false → (a || b) ≡ false
none_of true b e f = absurd (false≢true (sym e))
none_of false b e f = f

pub waits_is : (p : Params) (orders : List Order) (disks : List (ℕ × ℕ)) (m : Moment) (redundant : Bool) (disk v : ℕ) → AreDisksOf disks orders
    → IsTrue (waits_for p disks m redundant disk v) ↔ WaitsFor p orders m redundant disk v
waits_is p orders disks m redundant disk v all =
    let journal = m.journal (cub_for p redundant disk) in
    let got = any (λ e. IsStartOf v redundant e.what) (λ e. is_start_of v redundant e.what) (λ e. start_is v redundant e.what) journal in (
      (λ h.
          let rest = and_right (has_pair v disk disks) (was_got v redundant journal && not (is_over m v)) h in
          let over = no_more (m.put v) (is_stopped v m.schedule.stops)
          ((negated (is_over m v)).0 (and_right (was_got v redundant journal) (not (is_over m v)) rest)) in
          record {
            ordered = (all v disk).0 (and_left (has_pair v disk disks) (was_got v redundant journal && not (is_over m v)) h);
            got = got.0 (and_left (was_got v redundant journal) (not (is_over m v)) rest);
            put = over.0;
            stopped = over.1;
          }),
      (λ h. and_both (has_pair v disk disks) (was_got v redundant journal && not (is_over m v)) ((all v disk).1 h.ordered)
          (and_both (was_got v redundant journal) (not (is_over m v)) (got.1 h.got)
          ((negated (is_over m v)).1 (none_of (m.put v) (is_stopped v m.schedule.stops) h.put h.stopped)))),
    )

-- no start waits if none does plainly and none redundantly
pub none_in : (s : Starts) → s.plain ≡ [] → s.spare ≡ [] → (redundant : Bool) → waiting_in redundant s ≡ []
none_in s plain spare false = plain
none_in s plain spare true = spare
