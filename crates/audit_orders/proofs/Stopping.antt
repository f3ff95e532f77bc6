-- What walks along the controller's journal and the orders know of stops, and that it decides them.
use Rattle.std.proofs.Common.{◌≡◌, ℕ, zero, suc, ◌+◌, ◌<◌, ◌≤◌, Bool, true, false, not, ◌&&◌, ◌||◌, nat_lt, nat_le, cond, List, [], ◌∷◌, ◌++◌, length, take, filter, Option, Some, None, is_some, slice_get, MatchOption, refl, sym, ap, subst, ◌∙◌, ⊎_elim, inl, inr, arith}
use Rattle.std.specs.Prelude.{◌==◌, ◌⊎◌, slice_index_or}
use Rattle.std.specs.List.{list_any}
use Rattle.std.proofs.lemmas.Bool.{eqb-true, eq-eqb, ltb-true, lt-ltb, leb-true, le-leb, false≢true, both_ways}
use Rattle.std.proofs.lemmas.List.{length-append, take_all}
use Rattle.std.proofs.lemmas.List.Elements.{filter-append}
use Rattle.std.proofs.lemmas.List.Folds.{list_any-append}
use Rattle.std.proofs.lemmas.Option.{slice_get-get_or}
use Rattle.tiger_base.specs.declared.number.Instance.{Instance}
use Rattle.node_kit.specs.declared.course.Course.{Course}
use Rattle.node_kit.specs.declared.course.Order.{Order}
use Rattle.node_kit.specs.declared.course.OrderKind.{OrderKind}
use Rattle.node_kit.specs.declared.course.OrderKind.TheVariants as kind
use Rattle.node_kit.specs.declared.journal.Entry.{Entry}
use Rattle.node_kit.specs.declared.journal.What.{What}
use Rattle.node_kit.specs.declared.journal.What.TheVariants as what
use Rattle.run_facts.specs.Commanded.{is_gone_of, gone_in, gone_before, is_finish_of, stop_ordered, place_known, is_over}
use Rattle.run_facts.specs.Timed.{AreRising}
use Rattle.run_model.proofs.Reflects.{and_left, and_right}
use Rattle.audit_frame.specs.Tables.{MarkNumbers, mark_under, has_pair}
use Rattle.audit_orders.specs.Commanding.{IsWrongStop, IsStopMissing, AreStopped, clock_of}
use Rattle.audit_orders.specs.Stops.{KnownPlaces, place_under, TellsPlaces, by_then, TellsFinishes, is_mark, is_marked_before, is_marked_by, mark_count, HasStop, TellsGone, mark_after, may_by, wrong_by, missed_stop, missed_by, NoneIsMissed, IsFirstMissed}
use Rattle.audit_orders.specs.declared.tables.Known.{Known}
use Rattle.audit_orders.proofs.Placing.{known_by}

-- ---- which stops were ordered

or_false : (b : Bool) → (b || false) ≡ b
or_false true = refl
or_false false = refl

pub finish_more : (old new : List (ℕ × ℕ)) (front : List Order) (o : Order)
    → ((v beat : ℕ) → has_pair v beat new ≡ (has_pair v beat old || ((o.beat == beat) && is_finish_of v o.what)))
    → TellsFinishes old front → TellsFinishes new (front ++ o ∷ [])
unfolding stop_ordered
finish_more old new front o added h v beat =
    added v beat
    ∙ ap (λ (b : Bool). b || ((o.beat == beat) && is_finish_of v o.what)) (h v beat)
    ∙ ap (λ (b : Bool). stop_ordered front v beat || b) (sym (or_false ((o.beat == beat) && is_finish_of v o.what)))
    ∙ sym (list_any-append (λ (x : Order). (x.beat == beat) && is_finish_of v x.what) front (o ∷ []))

pub no_finish : (finishes : List (ℕ × ℕ)) → finishes ≡ [] → TellsFinishes finishes []
unfolding stop_ordered
no_finish finishes e v beat = ap (has_pair v beat) e

-- ---- which were written

pub no_gone : (marks : MarkNumbers) → marks ≡ [] → TellsGone marks []
unfolding gone_in gone_before
no_gone marks e v = subst (HasStop v []) (sym (ap (mark_under v) e)) (record {
  any = refl;
  in_beat = λ beat. refl;
  before = λ beat. refl;
  count = refl;
})

and_true : (b : Bool) → (b && true) ≡ b
and_true true = refl
and_true false = refl

and_false : (b : Bool) → (b && false) ≡ false
and_false true = refl
and_false false = refl

-- another entry leaves the stop of an instance as it is
other_gone : (v : ℕ) (front : List Entry) (e : Entry) (mark : Option ℕ) → is_gone_of v e.what ≡ false → HasStop v front mark
    → HasStop v (front ++ e ∷ []) mark
unfolding gone_in gone_before
other_gone v front e mark not h = record {
  any = list_any-append (λ (x : Entry). is_gone_of v x.what) front (e ∷ [])
      ∙ ap (λ (b : Bool). list_any (λ (x : Entry). is_gone_of v x.what) front || (b || false)) not
      ∙ or_false (list_any (λ (x : Entry). is_gone_of v x.what) front) ∙ h.any;
  in_beat = λ beat.
      list_any-append (λ (x : Entry). (x.stamp.beat == beat) && is_gone_of v x.what) front (e ∷ [])
      ∙ ap (λ (b : Bool). gone_in front v beat || (b || false)) (ap (λ (b : Bool). (e.stamp.beat == beat) && b) not ∙ and_false (e.stamp.beat == beat))
      ∙ or_false (gone_in front v beat) ∙ h.in_beat beat;
  before = λ beat.
      list_any-append (λ (x : Entry). nat_lt x.stamp.beat beat && is_gone_of v x.what) front (e ∷ [])
      ∙ ap (λ (b : Bool). gone_before front v beat || (b || false)) (ap (λ (b : Bool). nat_lt e.stamp.beat beat && b) not ∙ and_false (nat_lt e.stamp.beat beat))
      ∙ or_false (gone_before front v beat) ∙ h.before beat;
  count = ap length (filter-append (λ (x : Entry). is_gone_of v x.what) front (e ∷ []))
      ∙ length-append (filter (λ (x : Entry). is_gone_of v x.what) front) (filter (λ (x : Entry). is_gone_of v x.what) (e ∷ []))
      ∙ ap (λ (b : Bool). length (filter (λ (x : Entry). is_gone_of v x.what) front) + length (cond b (e ∷ []) [])) not
      ∙ same (length (filter (λ (x : Entry). is_gone_of v x.what) front)) ∙ h.count;
} where
  same : (n : ℕ) → n + 0 ≡ n
  same n = omega arith

-- the first entry that stops it
first_gone : (v : ℕ) (front : List Entry) (e : Entry) → is_gone_of v e.what ≡ true → HasStop v front None
    → HasStop v (front ++ e ∷ []) (Some e.stamp.beat)
unfolding gone_in gone_before
first_gone v front e is h = record {
  any = list_any-append (λ (x : Entry). is_gone_of v x.what) front (e ∷ [])
      ∙ ap (λ (b : Bool). b || (is_gone_of v e.what || false)) h.any ∙ or_false (is_gone_of v e.what) ∙ is;
  in_beat = λ beat.
      list_any-append (λ (x : Entry). (x.stamp.beat == beat) && is_gone_of v x.what) front (e ∷ [])
      ∙ ap (λ (b : Bool). b || (((e.stamp.beat == beat) && is_gone_of v e.what) || false)) (h.in_beat beat)
      ∙ or_false ((e.stamp.beat == beat) && is_gone_of v e.what)
      ∙ ap (λ (b : Bool). (e.stamp.beat == beat) && b) is ∙ and_true (e.stamp.beat == beat);
  before = λ beat.
      list_any-append (λ (x : Entry). nat_lt x.stamp.beat beat && is_gone_of v x.what) front (e ∷ [])
      ∙ ap (λ (b : Bool). b || ((nat_lt e.stamp.beat beat && is_gone_of v e.what) || false)) (h.before beat)
      ∙ or_false (nat_lt e.stamp.beat beat && is_gone_of v e.what)
      ∙ ap (λ (b : Bool). nat_lt e.stamp.beat beat && b) is ∙ and_true (nat_lt e.stamp.beat beat);
  count = ap length (filter-append (λ (x : Entry). is_gone_of v x.what) front (e ∷ []))
      ∙ length-append (filter (λ (x : Entry). is_gone_of v x.what) front) (filter (λ (x : Entry). is_gone_of v x.what) (e ∷ []))
      ∙ ap (λ (b : Bool). length (filter (λ (x : Entry). is_gone_of v x.what) front) + length (cond b (e ∷ []) [])) is
      ∙ ap (λ (n : ℕ). n + 1) h.count;
}

-- an entry is another one, or it stops the instance
gone_split : (n beat : ℕ) (w : What) (mark : Option ℕ)
    → ((is_gone_of n w ≡ false) × (mark_after n beat w mark ≡ mark))
    ⊎ ((v : Instance) × (w ≡ what.Gone v) × (v.0 ≡ n) × (is_gone_of n w ≡ true) × (mark_after n beat w mark ≡ Some beat))
gone_split n beat (what.Gone v) mark = by (v.0 == n) refl
  where
    by : (t : Bool) → (v.0 == n) ≡ t
        → (((v.0 == n) ≡ false) × (cond (v.0 == n) (Some beat) mark ≡ mark))
        ⊎ ((u : Instance) × (what.Gone v ≡ what.Gone u) × (u.0 ≡ n) × ((v.0 == n) ≡ true) × (cond (v.0 == n) (Some beat) mark ≡ Some beat))
    by true e = inr (v, refl, eqb-true v.0 n e, e, ap (λ (t : Bool). cond t (Some beat) mark) e)
    by false e = inl (e, ap (λ (t : Bool). cond t (Some beat) mark) e)
gone_split n beat other mark = inl (refl, refl)

-- an entry that is not wrong stops nobody twice, and only where a stop may take effect
not_some : (o : Option ℕ) (b : Bool) → (is_some o || not b) ≡ false → (o ≡ None) × (b ≡ true)
not_some None true e = (refl, refl)
not_some None false e = absurd (false≢true (sym e))
not_some (Some x) b e = absurd (false≢true (sym e))

rightly : (c : Course) (finishes : List (ℕ × ℕ)) (places : KnownPlaces) (gone : MarkNumbers) (beat : ℕ) (w : What) (v : Instance)
    → wrong_by c finishes places gone beat w ≡ false → w ≡ what.Gone v
    → (mark_under v.0 gone ≡ None) × (may_by c finishes places v.0 beat ≡ true)
rightly c finishes places gone beat w v right is =
    not_some (mark_under v.0 gone) (may_by c finishes places v.0 beat)
    (subst (λ (x : What). wrong_by c finishes places gone beat x ≡ false) is right)

pub gone_more : (c : Course) (finishes : List (ℕ × ℕ)) (places : KnownPlaces) (old new : MarkNumbers) (front : List Entry) (e : Entry)
    → ((n : ℕ) → mark_under n new ≡ mark_after n e.stamp.beat e.what (mark_under n old))
    → wrong_by c finishes places old e.stamp.beat e.what ≡ false → TellsGone old front → TellsGone new (front ++ e ∷ [])
gone_more c finishes places old new front e added right h n = ⊎_elim
    (λ f. subst (HasStop n (front ++ e ∷ [])) (sym (added n ∙ f.1)) (other_gone n front e (mark_under n old) f.0 (h n)))
    (λ f. subst (HasStop n (front ++ e ∷ [])) (sym (added n ∙ f.4))
    (first_gone n front e f.3
    (subst (HasStop n front)
    (subst (λ (k : ℕ). mark_under k old ≡ None) f.2 (rightly c finishes places old e.stamp.beat e.what f.0 right f.1).0) (h n))))
    (gone_split n e.stamp.beat e.what (mark_under n old))

-- each stop that is written may take effect in its beat
abbrev pub AreInTime : Course → List (ℕ × ℕ) → KnownPlaces → MarkNumbers → Type 0
AreInTime c finishes places gone = (v beat : ℕ) → mark_under v gone ≡ Some beat → may_by c finishes places v beat ≡ true

pub in_time_more : (c : Course) (finishes : List (ℕ × ℕ)) (places : KnownPlaces) (old new : MarkNumbers) (e : Entry)
    → ((n : ℕ) → mark_under n new ≡ mark_after n e.stamp.beat e.what (mark_under n old))
    → wrong_by c finishes places old e.stamp.beat e.what ≡ false → AreInTime c finishes places old → AreInTime c finishes places new
in_time_more c finishes places old new e added right h n beat at = ⊎_elim
    (λ f. h n beat (sym (added n ∙ f.1) ∙ at))
    (λ f.
    let some : Some e.stamp.beat ≡ Some beat = sym (added n ∙ f.4) ∙ at in
    let same : e.stamp.beat ≡ beat = cc in
    subst (λ (b : ℕ). may_by c finishes places n b ≡ true) same
    (subst (λ (k : ℕ). may_by c finishes places k e.stamp.beat ≡ true) f.2 (rightly c finishes places old e.stamp.beat e.what f.0 right f.1).1))
    (gone_split n e.stamp.beat e.what (mark_under n old))

pub none_in_time : (c : Course) (finishes : List (ℕ × ℕ)) (places : KnownPlaces) (gone : MarkNumbers) → gone ≡ [] → AreInTime c finishes places gone
none_in_time c finishes places gone e v beat at =
    let none : None ≡ Some beat = sym (ap (mark_under v) e) ∙ at in
    absurd (cc)

-- ---- what the tables decide

-- whether a stop that is ordered may take effect, in the words of the journal
abbrev pub may_take : Course → List Order → List Entry → ℕ → ℕ → Bool
may_take c orders journal v beat =
    nat_lt beat c.beats
    && (stop_ordered orders v beat && not (is_over c.plan.params (clock_of c beat) (place_known c.plan.params journal v beat)))

pub over_is : (c : Course) (places : KnownPlaces) (journal : List Entry) (v beat : ℕ) → TellsPlaces c.plan.params places journal → AreRising journal
    → is_over c.plan.params (clock_of c beat) (by_then beat (place_under v places))
    ≡ is_over c.plan.params (clock_of c beat) (place_known c.plan.params journal v beat)
over_is c places journal v beat tells rises =
    ap (λ (o : Option Known). is_over c.plan.params (clock_of c beat) (by_then beat o)) (tells v)
    ∙ ap (is_over c.plan.params (clock_of c beat)) (sym (known_by c.plan.params v beat journal rises))

pub may_is : (c : Course) (finishes : List (ℕ × ℕ)) (places : KnownPlaces) (orders : List Order) (journal : List Entry) (v beat : ℕ)
    → TellsFinishes finishes orders → TellsPlaces c.plan.params places journal → AreRising journal
    → may_by c finishes places v beat ≡ may_take c orders journal v beat
may_is c finishes places orders journal v beat tells there rises =
    ap (λ (b : Bool). nat_lt beat c.beats && (b && not (is_over c.plan.params (clock_of c beat) (by_then beat (place_under v places))))) (tells v beat)
    ∙ ap (λ (b : Bool). nat_lt beat c.beats && (stop_ordered orders v beat && not b)) (over_is c places journal v beat there rises)

-- ---- an entry that is wrong

weaker : (x a g o : Bool) → (x && (a && o)) ≡ false → (x && (a && (g && o))) ≡ false
weaker false a g o e = refl
weaker true false g o e = refl
weaker true true false o e = refl
weaker true true true o e = e

either_wrong : (c : Course) (finishes : List (ℕ × ℕ)) (places : KnownPlaces) (gone : MarkNumbers) (beat : ℕ) (w : What)
    → wrong_by c finishes places gone beat w ≡ true
    → (v : Instance) × (w ≡ what.Gone v) × ((is_some (mark_under v.0 gone) ≡ true) ⊎ (may_by c finishes places v.0 beat ≡ false))
either_wrong c finishes places gone beat (what.Gone v) e = (v, refl, by (is_some (mark_under v.0 gone)) (may_by c finishes places v.0 beat) e)
  where
    by : (a b : Bool) → (a || not b) ≡ true → (a ≡ true) ⊎ (b ≡ false)
    by true b h = inl refl
    by false true h = absurd (false≢true h)
    by false false h = inr refl
either_wrong c finishes places gone beat other e = absurd (false≢true e)

there : (journal : List Entry) (i : ℕ) (e : Entry) → i < length journal → ((d : Entry) → slice_index_or journal i d ≡ e)
    → slice_get journal i ≡ Some e
there journal i e low is = slice_get-get_or journal i e low ∙ ap (λ (x : Entry). Some x) (is e)

pub wrong_stop_here : (c : Course) (finishes : List (ℕ × ℕ)) (places : KnownPlaces) (gone : MarkNumbers) (orders : List Order)
    (journal : List Entry) (i : ℕ) (e : Entry) → TellsFinishes finishes orders → TellsPlaces c.plan.params places journal → AreRising journal
    → i < length journal → ((d : Entry) → slice_index_or journal i d ≡ e) → TellsGone gone (take i journal)
    → wrong_by c finishes places gone e.stamp.beat e.what ≡ true → IsWrongStop c.plan.params c.beats (clock_of c) orders journal i
wrong_stop_here c finishes places gone orders journal i e tells known rises low is front wrong =
    let f = either_wrong c finishes places gone e.stamp.beat e.what wrong in
    let v = f.0 in
    record {
      entry = e;
      here = there journal i e low is;
      v = v;
      gone = f.1;
      wrong = ⊎_elim
          (λ s. inr ((front v.0).any ∙ s))
          (λ m. inl (weaker (nat_lt e.stamp.beat c.beats) (stop_ordered orders v.0 e.stamp.beat)
          (not (gone_before journal v.0 e.stamp.beat))
          (not (is_over c.plan.params (clock_of c e.stamp.beat) (place_known c.plan.params journal v.0 e.stamp.beat)))
          (sym (may_is c finishes places orders journal v.0 e.stamp.beat tells known rises) ∙ m)))
          f.2;
    }

-- ---- an order whose stop is missing

missed_parts : (a b d : Bool) → (a && (not b && not d)) ≡ true → (a ≡ true) × (b ≡ false) × (d ≡ false)
missed_parts true false false e = (refl, refl, refl)
missed_parts true false true e = absurd (false≢true e)
missed_parts true true d e = absurd (false≢true e)
missed_parts false b d e = absurd (false≢true e)

of_finish : (c : Course) (places : KnownPlaces) (gone : MarkNumbers) (beat : ℕ) (w : OrderKind) → missed_by c places gone beat w ≡ true
    → (v : Instance) × (w ≡ kind.Finish v) × (missed_stop c places gone v.0 beat ≡ true)
of_finish c places gone beat (kind.Finish v) e = (v, refl, e)
of_finish c places gone beat (kind.Begin ask) e = absurd (false≢true e)

-- an order that is there was given
pub is_ordered : (orders : List Order) (j v : ℕ) (o : Order) → slice_get orders j ≡ Some o → is_finish_of v o.what ≡ true → stop_ordered orders v o.beat ≡ true
unfolding stop_ordered
is_ordered [] j v o at is = absurd (cc)
is_ordered (x ∷ xs) zero v o at is =
    let same : o ≡ x = cc in
    ap (λ (b : Bool). b || stop_ordered xs v o.beat)
    (subst (λ (y : Order). ((y.beat == o.beat) && is_finish_of v y.what) ≡ true) same
    (ap (λ (b : Bool). b && is_finish_of v o.what) (eq-eqb o.beat o.beat refl) ∙ is))
is_ordered (x ∷ xs) (suc j) v o at is =
    ap (λ (b : Bool). ((x.beat == o.beat) && is_finish_of v x.what) || b) (is_ordered xs j v o at is)
    ∙ or_true ((x.beat == o.beat) && is_finish_of v x.what)
  where
    or_true : (b : Bool) → (b || true) ≡ true
    or_true true = refl
    or_true false = refl

not_before : (beat : ℕ) (mark : Option ℕ) → is_marked_by beat mark ≡ false → is_marked_before beat mark ≡ false
not_before beat None e = refl
not_before beat (Some b) e = by (nat_lt b beat) refl
  where
    by : (t : Bool) → nat_lt b beat ≡ t → t ≡ false
    by true h = let low = ltb-true b beat h in absurd (both_ways (nat_le b beat) e (le-leb b beat (omega (arith, low))))
    by false h = refl

not_in : (beat : ℕ) (mark : Option ℕ) → is_marked_by beat mark ≡ false → is_mark beat mark ≡ false
not_in beat None e = refl
not_in beat (Some b) e = by (b == beat) refl
  where
    by : (t : Bool) → (b == beat) ≡ t → t ≡ false
    by true h = let same = eqb-true b beat h in absurd (both_ways (nat_le b beat) e (le-leb b beat (omega (arith, same))))
    by false h = refl

pub all_true : (x a g o : Bool) → x ≡ true → a ≡ true → g ≡ false → o ≡ false → (x && (a && (not g && not o))) ≡ true
all_true true true false false e f h k = refl
all_true false a g o e f h k = absurd (false≢true e)
all_true true false g o e f h k = absurd (false≢true f)
all_true true true true o e f h k = absurd (false≢true (sym h))
all_true true true false true e f h k = absurd (false≢true (sym k))

pub missed_here : (c : Course) (places : KnownPlaces) (gone : MarkNumbers) (orders : List Order)
    (journal : List Entry) (j : ℕ) (o : Order) → TellsPlaces c.plan.params places journal → AreRising journal → TellsGone gone journal
    → slice_get orders j ≡ Some o → missed_by c places gone o.beat o.what ≡ true → IsStopMissing c.plan.params c.beats (clock_of c) orders journal j
missed_here c places gone orders journal j o known rises written at missed =
    let f = of_finish c places gone o.beat o.what missed in
    let v = f.0 in
    let parts = missed_parts (nat_lt o.beat c.beats)
    (is_over c.plan.params (clock_of c o.beat) (by_then o.beat (place_under v.0 places))) (is_marked_by o.beat (mark_under v.0 gone)) f.2 in
    let ordered : stop_ordered orders v.0 o.beat ≡ true =
    is_ordered orders j v.0 o at (ap (is_finish_of v.0) f.1 ∙ eq-eqb v.0 v.0 refl) in
    let before : gone_before journal v.0 o.beat ≡ false = (written v.0).before o.beat ∙ not_before o.beat (mark_under v.0 gone) parts.2 in
    let over : is_over c.plan.params (clock_of c o.beat) (place_known c.plan.params journal v.0 o.beat) ≡ false =
    sym (over_is c places journal v.0 o.beat known rises) ∙ parts.1 in
    record {
      order = o;
      here = at;
      v = v;
      finish = f.1;
      effective = all_true (nat_lt o.beat c.beats) (stop_ordered orders v.0 o.beat) (gone_before journal v.0 o.beat)
          (is_over c.plan.params (clock_of c o.beat) (place_known c.plan.params journal v.0 o.beat)) parts.0 ordered before over;
      missing = (written v.0).in_beat o.beat ∙ not_in o.beat (mark_under v.0 gone) parts.2;
    }

pub true_parts : (x a g o : Bool) → (x && (a && (not g && not o))) ≡ true → (x ≡ true) × (a ≡ true) × (g ≡ false) × (o ≡ false)
true_parts true true false false e = (refl, refl, refl, refl)
true_parts false a g o e = absurd (false≢true e)
true_parts true false g o e = absurd (false≢true e)
true_parts true true true o e = absurd (false≢true e)
true_parts true true false true e = absurd (false≢true e)

-- ---- none is wrong and none is missing

pub no_order : (c : Course) (places : KnownPlaces) (gone : MarkNumbers) → NoneIsMissed c places gone []
unfolding stop_ordered
no_order c places gone v beat e = absurd (false≢true e)

finish_is : (v : ℕ) (w : OrderKind) → is_finish_of v w ≡ true → (u : Instance) × (w ≡ kind.Finish u) × (u.0 ≡ v)
finish_is v (kind.Finish u) e = (u, refl, eqb-true u.0 v e)
finish_is v (kind.Begin ask) e = absurd (false≢true e)

or_either : (a b : Bool) → (a || b) ≡ true → (a ≡ true) ⊎ (b ≡ true)
or_either true b e = inl refl
or_either false b e = inr e

pub none_more : (c : Course) (places : KnownPlaces) (gone : MarkNumbers) (front : List Order) (o : Order)
    → missed_by c places gone o.beat o.what ≡ false → NoneIsMissed c places gone front → NoneIsMissed c places gone (front ++ o ∷ [])
unfolding stop_ordered
none_more c places gone front o here h v beat e = ⊎_elim
    (λ f. h v beat f)
    (λ f.
    let mine : ((o.beat == beat) && is_finish_of v o.what) ≡ true = sym (or_false ((o.beat == beat) && is_finish_of v o.what)) ∙ f in
    let same = eqb-true o.beat beat (and_left (o.beat == beat) (is_finish_of v o.what) mine) in
    let u = finish_is v o.what (and_right (o.beat == beat) (is_finish_of v o.what) mine) in
    subst (λ (b : ℕ). missed_stop c places gone v b ≡ false) same
    (subst (λ (k : ℕ). missed_stop c places gone k o.beat ≡ false) u.2
    (subst (λ (w : OrderKind). missed_by c places gone o.beat w ≡ false) u.1 here)))
    (or_either (stop_ordered front v beat) (((o.beat == beat) && is_finish_of v o.what) || false)
    (sym (list_any-append (λ (x : Order). (x.beat == beat) && is_finish_of v x.what) front (o ∷ [])) ∙ e))

not_true : (b : Bool) → (b ≡ true → ⊥) → b ≡ false
not_true true h = absurd (h refl)
not_true false h = refl

-- one that takes effect and is not missed is marked
pub marked_by : (x o m : Bool) → x ≡ true → o ≡ false → (x && (not o && not m)) ≡ false → m ≡ true
marked_by true false true e f h = refl
marked_by true false false e f h = absurd (false≢true (sym h))
marked_by true true m e f h = absurd (false≢true (sym f))
marked_by false o m e f h = absurd (false≢true e)

pub all_stopped : (c : Course) (finishes : List (ℕ × ℕ)) (places : KnownPlaces) (gone : MarkNumbers) (orders : List Order) (journal : List Entry)
    → TellsFinishes finishes orders → TellsPlaces c.plan.params places journal → AreRising journal → TellsGone gone journal
    → AreInTime c finishes places gone → NoneIsMissed c places gone orders → AreStopped c.plan.params c.beats (clock_of c) orders journal
all_stopped c finishes places gone orders journal tells known rises written right none = record {
  stops = λ v beat.
      let h = written v in
      let x = nat_lt beat c.beats in
      let a = stop_ordered orders v beat in
      let g = gone_before journal v beat in
      let o = is_over c.plan.params (clock_of c beat) (place_known c.plan.params journal v beat) in
      let over = over_is c places journal v beat known rises in
      h.in_beat beat ∙ marked v beat (mark_under v gone) refl (x && (a && (not g && not o)))
      -- a stop that is written takes effect
      (λ b at same.
      let may = sym (may_is c finishes places orders journal v beat tells known rises)
      ∙ subst (λ (n : ℕ). may_by c finishes places v n ≡ true) same (right v b at) in
      let before : g ≡ false = h.before beat ∙ ap (is_marked_before beat) at ∙ not_less b beat same in
      all_true x a g o (and_left x (a && not o) may) (and_left a (not o) (and_right x (a && not o) may)) before
      (not_not o (and_right a (not o) (and_right x (a && not o) may))))
      -- one that takes effect is written by then
      (λ t.
      let parts = true_parts x a g o t in
      let missed = none v beat parts.1 in
      let by_now : is_marked_by beat (mark_under v gone) ≡ true = marked_by x o (is_marked_by beat (mark_under v gone)) parts.0 parts.3
      (ap (λ (b : Bool). x && (not b && not (is_marked_by beat (mark_under v gone)))) (sym over) ∙ missed) in
      (by_now, sym (h.before beat) ∙ parts.2));
  once = λ v. let h = (written v).count in few (mark_under v gone) (length (filter (λ (e : Entry). is_gone_of v e.what) journal)) h;
} where
  not_not : (b : Bool) → not b ≡ true → b ≡ false
  not_not true e = absurd (false≢true e)
  not_not false e = refl

  not_less : (b beat : ℕ) → b ≡ beat → nat_lt b beat ≡ false
  not_less b beat same = not_true (nat_lt b beat) (λ t. let low = ltb-true b beat t in absurd (omega (arith, same, low)))

  few : (mark : Option ℕ) (n : ℕ) → n ≡ mark_count mark → n ≤ 1
  few None n e = omega (arith, e)
  few (Some b) n e = omega (arith, e)

  marked : (v beat : ℕ) (mark : Option ℕ) → mark_under v gone ≡ mark → (t : Bool)
      → ((b : ℕ) → mark_under v gone ≡ Some b → b ≡ beat → t ≡ true)
      → (t ≡ true → (is_marked_by beat (mark_under v gone) ≡ true) × (is_marked_before beat (mark_under v gone) ≡ false))
      → is_mark beat (mark_under v gone) ≡ t
  marked v beat None is t yes_if only =
      ap (is_mark beat) is ∙ sym (not_true t (λ e. false≢true (sym (ap (is_marked_by beat) is) ∙ (only e).0)))
  marked v beat (Some b) is t yes_if only = ap (is_mark beat) is ∙ by (b == beat) refl
    where
      equal_by : (b < beat → ⊥) → b ≤ beat → b ≡ beat
      equal_by n le = omega (arith, n, le)

      by : (s : Bool) → (b == beat) ≡ s → s ≡ t
      by true e = sym (yes_if b is (eqb-true b beat e))
      by false e = sym (not_true t (λ y.
          let le = leb-true b beat (sym (ap (is_marked_by beat) is) ∙ (only y).0) in
          let not_low = sym (ap (is_marked_before beat) is) ∙ (only y).1 in
          both_ways (b == beat) e (eq-eqb b beat (equal_by (λ (low : b < beat). both_ways (nat_lt b beat) not_low (lt-ltb b beat low)) le))))

-- ---- the end of the walk

pub order_there : (orders : List Order) (i : ℕ) (o : Order) → i < length orders → ((d : Order) → slice_index_or orders i d ≡ o)
    → slice_get orders i ≡ Some o
order_there orders i o low is = slice_get-get_or orders i o low ∙ ap (λ (x : Order). Some x) (is o)

-- what the look at the orders answers
abbrev pub AnswersMissed : Course → KnownPlaces → MarkNumbers → List Order → Option ℕ → Type 0
AnswersMissed c places gone orders answer =
    MatchOption answer (NoneIsMissed c places gone orders) (IsFirstMissed c places gone orders)

pub none_found : (c : Course) (finishes : List (ℕ × ℕ)) (places : KnownPlaces) (gone : MarkNumbers) (orders : List Order) (journal : List Entry)
    (i : ℕ) (answer : Option ℕ) → TellsFinishes finishes orders → TellsPlaces c.plan.params places journal → AreRising journal
    → length journal ≤ i → TellsGone gone (take i journal) → AreInTime c finishes places gone → AnswersMissed c places gone orders answer
    → answer ≡ None → AreStopped c.plan.params c.beats (clock_of c) orders journal
none_found c finishes places gone orders journal i answer tells known rises over written right says is =
    all_stopped c finishes places gone orders journal tells known rises
    (subst (λ (q : List Entry). TellsGone gone q) (take_all i journal over) written) right (subst (AnswersMissed c places gone orders) is says)
