-- Starts that were sent, beside those that are wanted: beat for beat, and from the first that differs on.
use Rattle.std.proofs.Common.{◌≡◌, ℕ, zero, suc, ◌+◌, ◌%◌, ◌<◌, ◌≤◌, Bool, true, false, nat_lt, cond, List, [], ◌∷◌, ◌++◌, map, length, take, drop, Some, slice_get, refl, sym, ap, subst, ◌∙◌, ⊎_elim, inl, inr, append_assoc, append-nil, arith}
use Rattle.std.specs.Prelude.{◌==◌, ◌⊎◌, slice_index_or}
use Rattle.std.specs.List.{AllByRecursion}
use Rattle.std.specs.List.Sorted.{IsNonDecreasingBy}
use Rattle.std.proofs.lemmas.Bool.{eqb-true, eq-eqb, ltb-true, lt-ltb, ne_eqb, both_ways}
use Rattle.std.proofs.lemmas.Grind.{flat_map-append}
use Rattle.std.proofs.lemmas.List.{map-append, take-append-drop, take_all, append_cancel_left}
use Rattle.tiger_base.specs.declared.tenancy.Ask.{Ask}
use Rattle.slot_plan.specs.declared.params.Params.{Params}
use Rattle.node_kit.specs.declared.course.Order.{Order}
use Rattle.node_kit.specs.declared.course.OrderKind.{OrderKind}
use Rattle.node_kit.specs.declared.course.OrderKind.TheVariants as kind
use Rattle.node_kit.specs.declared.journal.Entry.{Entry}
use Rattle.run_facts.specs.Commanded.{Dispatch, start_of, start_in, starts_sent, starts_for, starts_at, starts_ordered}
use Rattle.run_facts.specs.Events.{Dated}
use Rattle.run_facts.specs.Timed.{IsNotBelow, AreRising}
use Rattle.run_facts.proofs.Rows.{all-append}
use Rattle.audit_orders.specs.Commanding.{IsFrontOf, starts_due, IsWrongStart, IsUnsent, AreSent}
use Rattle.audit_orders.specs.Starts.{wants_by, wanted_from, dated_of, sent_by, all_sent, IsNotNext}
use Rattle.audit_orders.specs.declared.starts.Wanted.{Wanted}

-- ---- beat for beat

-- of dated starts those of a beat
abbrev of_beat : ℕ → List (Dated Dispatch) → List Dispatch
of_beat b [] = []
of_beat b (d ∷ ds) = cond (d.beat == b) (d.item ∷ of_beat b ds) (of_beat b ds)

abbrev date : ℕ → List Dispatch → List (Dated Dispatch)
date beat ds = map (λ d. record { beat = beat; item = d }) ds

with_first : (t : Bool) (x : Dispatch) (xs ys zs : List Dispatch) → zs ≡ xs ++ ys → cond t (x ∷ zs) zs ≡ cond t (x ∷ xs) xs ++ ys
with_first true x xs ys zs e = ap (λ (q : List Dispatch). x ∷ q) e
with_first false x xs ys zs e = e

of_both : (b : ℕ) (xs ys : List (Dated Dispatch)) → of_beat b (xs ++ ys) ≡ of_beat b xs ++ of_beat b ys
of_both b [] ys = refl
of_both b (d ∷ ds) ys = with_first (d.beat == b) d.item (of_beat b ds) (of_beat b ys) (of_beat b (ds ++ ys)) (of_both b ds ys)

of_date : (x b : ℕ) (ds : List Dispatch) (t : Bool) → (x == b) ≡ t → of_beat b (date x ds) ≡ cond t ds []
of_date x b [] true e = refl
of_date x b [] false e = refl
of_date x b (d ∷ ds) true e =
    ap (λ (t : Bool). cond t (d ∷ of_beat b (date x ds)) (of_beat b (date x ds))) e ∙ ap (λ (q : List Dispatch). d ∷ q) (of_date x b ds true e)
of_date x b (d ∷ ds) false e =
    ap (λ (t : Bool). cond t (d ∷ of_beat b (date x ds)) (of_beat b (date x ds))) e ∙ of_date x b ds false e

-- the starts that a journal says were sent in a beat
pub sent_group : (p : Params) (b : ℕ) (journal : List Entry) → starts_sent p b journal ≡ of_beat b (all_sent p journal)
unfolding starts_sent
sent_group p b [] = refl
sent_group p b (e ∷ es) =
    ap (λ (q : List Dispatch). start_in p b e ++ q) (sent_group p b es)
    ∙ ap (λ (q : List Dispatch). q ++ of_beat b (all_sent p es)) (sym (of_date e.stamp.beat b (start_of p e.what) (e.stamp.beat == b) refl))
    ∙ sym (of_both b (sent_by p e.stamp.beat e.what) (all_sent p es))

-- and those that are due in it
abbrev nothing : List Dispatch
nothing = []

nothing_due : (u : Bool) → cond u nothing nothing ≡ nothing
nothing_due true = refl
nothing_due false = refl

due_by : (p : Params) (beats b j beat : ℕ) (ask : Ask) (t s u : Bool) → nat_lt beat beats ≡ t → (beat == b) ≡ s → nat_lt b beats ≡ u
    → of_beat b (map dated_of (cond t
    ((record { beat = beat; to = ask.disk.0 % p.cubs; ask = ask; redundant = false; order = j })
    ∷ (record { beat = beat; to = (ask.disk.0 + 1) % p.cubs; ask = ask; redundant = true; order = j }) ∷ []) []))
    ≡ cond u (cond s (starts_for p (kind.Begin ask)) []) []
due_by p beats b j beat ask true true true e f g = of_date beat b (starts_for p (kind.Begin ask)) true f
due_by p beats b j beat ask true true false e f g =
    absurd (both_ways (nat_lt b beats) g (subst (λ (x : ℕ). nat_lt x beats ≡ true) (eqb-true beat b f) e))
due_by p beats b j beat ask true false true e f g = of_date beat b (starts_for p (kind.Begin ask)) false f
due_by p beats b j beat ask true false false e f g = of_date beat b (starts_for p (kind.Begin ask)) false f
due_by p beats b j beat ask false true true e f g =
    absurd (both_ways (nat_lt beat beats) e (subst (λ (x : ℕ). nat_lt x beats ≡ true) (sym (eqb-true beat b f)) g))
due_by p beats b j beat ask false true false e f g = refl
due_by p beats b j beat ask false false true e f g = refl
due_by p beats b j beat ask false false false e f g = refl

due_none : (s u : Bool) → nothing ≡ cond u (cond s nothing nothing) nothing
due_none true true = refl
due_none true false = refl
due_none false true = refl
due_none false false = refl

due_head : (p : Params) (beats b j beat : ℕ) (w : OrderKind)
    → of_beat b (map dated_of (wants_by p beats j beat w)) ≡ cond (nat_lt b beats) (cond (beat == b) (starts_for p w) []) []
due_head p beats b j beat (kind.Begin ask) = due_by p beats b j beat ask (nat_lt beat beats) (beat == b) (nat_lt b beats) refl refl refl
due_head p beats b j beat (kind.Finish v) = due_none (beat == b) (nat_lt b beats)

due_both : (u : Bool) (xs ys : List Dispatch) → cond u xs [] ++ cond u ys [] ≡ cond u (xs ++ ys) []
due_both true xs ys = refl
due_both false xs ys = refl

pub due_group : (p : Params) (beats b j : ℕ) (orders : List Order)
    → of_beat b (map dated_of (wanted_from p beats j orders)) ≡ starts_due p beats orders b
unfolding starts_ordered
due_group p beats b j [] = sym (nothing_due (nat_lt b beats))
due_group p beats b j (o ∷ os) =
    ap (of_beat b) (map-append dated_of (wants_by p beats j o.beat o.what) (wanted_from p beats (j + 1) os))
    ∙ of_both b (map dated_of (wants_by p beats j o.beat o.what)) (map dated_of (wanted_from p beats (j + 1) os))
    ∙ ap (λ (q : List Dispatch). q ++ of_beat b (map dated_of (wanted_from p beats (j + 1) os))) (due_head p beats b j o.beat o.what)
    ∙ ap (λ (q : List Dispatch). cond (nat_lt b beats) (starts_at p b o) [] ++ q) (due_group p beats b (j + 1) os)
    ∙ due_both (nat_lt b beats) (starts_at p b o) (starts_ordered p b os)

-- ---- what is wanted comes in the order of beats

abbrev AreUp : List Wanted → Type 0
AreUp [] = Unit {0}
AreUp (w ∷ ws) = AllByRecursion (λ (v : Wanted). w.beat ≤ v.beat) ws × AreUp ws

wants_above : (p : Params) (beats j b beat : ℕ) (w : OrderKind) → b ≤ beat → AllByRecursion (λ (v : Wanted). b ≤ v.beat) (wants_by p beats j beat w)
wants_above p beats j b beat (kind.Finish v) h = tt
wants_above p beats j b beat (kind.Begin ask) h = by (nat_lt beat beats)
  where
    by : (t : Bool) → AllByRecursion (λ (v : Wanted). b ≤ v.beat) (cond t
        ((record { beat = beat; to = ask.disk.0 % p.cubs; ask = ask; redundant = false; order = j })
        ∷ (record { beat = beat; to = (ask.disk.0 + 1) % p.cubs; ask = ask; redundant = true; order = j }) ∷ []) [])
    by true = (h, (h, tt))
    by false = tt

all_above : (p : Params) (beats j b : ℕ) (os : List Order) → AllByRecursion (λ (o : Order). b ≤ o.beat) os
    → AllByRecursion (λ (v : Wanted). b ≤ v.beat) (wanted_from p beats j os)
all_above p beats j b [] h = tt
all_above p beats j b (o ∷ os) h =
    all-append (λ (v : Wanted). b ≤ v.beat) (wants_by p beats j o.beat o.what) (wanted_from p beats (j + 1) os)
    (wants_above p beats j b o.beat o.what h.0) (all_above p beats (j + 1) b os h.1)

up_before : (p : Params) (beats j beat : ℕ) (w : OrderKind) (rest : List Wanted) → AllByRecursion (λ (v : Wanted). beat ≤ v.beat) rest
    → AreUp rest → AreUp (wants_by p beats j beat w ++ rest)
up_before p beats j beat (kind.Finish v) rest above up = up
up_before p beats j beat (kind.Begin ask) rest above up = by (nat_lt beat beats)
  where
    by : (t : Bool) → AreUp (cond t
        ((record { beat = beat; to = ask.disk.0 % p.cubs; ask = ask; redundant = false; order = j })
        ∷ (record { beat = beat; to = (ask.disk.0 + 1) % p.cubs; ask = ask; redundant = true; order = j }) ∷ []) [] ++ rest)
    by true = ((omega arith, above), (above, up))
    by false = up

later_orders : (b : ℕ) (os : List Order) → ((j : ℕ) (d : Order) → j < length os → b ≤ (slice_index_or os j d).beat)
    → AllByRecursion (λ (o : Order). b ≤ o.beat) os
later_orders b [] h = tt
later_orders b (o ∷ os) h = (h zero o (omega arith), later_orders b os (λ j d low. h (suc j) d (omega (arith, low))))

pub wanted_up : (p : Params) (beats j : ℕ) (os : List Order) → IsNonDecreasingBy (λ (o : Order). o.beat) os → AreUp (wanted_from p beats j os)
wanted_up p beats j [] h = tt
wanted_up p beats j (o ∷ os) h =
    up_before p beats j o.beat o.what (wanted_from p beats (j + 1) os)
    (all_above p beats (j + 1) o.beat os (later_orders o.beat os (λ i d low. h zero (suc i) d (omega arith) (omega (arith, low)))))
    (wanted_up p beats (j + 1) os (λ i k d le low. h (suc i) (suc k) d (omega (arith, le)) (omega (arith, low))))

drop_up : (n : ℕ) (ws : List Wanted) → AreUp ws → AreUp (drop n ws)
drop_up zero ws h = h
drop_up (suc n) [] h = tt
drop_up (suc n) (w ∷ ws) h = drop_up n ws h.1

-- nothing of a beat stands above it
none_above : (b : ℕ) (ws : List Wanted) → AllByRecursion (λ (v : Wanted). b < v.beat) ws → of_beat b (map dated_of ws) ≡ []
none_above b [] h = refl
none_above b (w ∷ ws) h = by (w.beat == b) refl (none_above b ws h.1)
  where
    by : (t : Bool) → (w.beat == b) ≡ t → of_beat b (map dated_of ws) ≡ [] → cond t ((dated_of w).item ∷ of_beat b (map dated_of ws)) (of_beat b (map dated_of ws)) ≡ []
    by true e rest =
        let same = eqb-true w.beat b e in
        let above = h.0 in
        absurd (omega (arith, same, above))
    by false e rest = rest

raised : (a b : ℕ) (ws : List Wanted) → a < b → AllByRecursion (λ (v : Wanted). b ≤ v.beat) ws → AllByRecursion (λ (v : Wanted). a < v.beat) ws
raised a b [] low h = tt
raised a b (w ∷ ws) low h = let here = h.0 in (omega (arith, low, here), raised a b ws low h.1)

-- a start that is not the next one is not the first of its beat among these
not_next : (s : Dated Dispatch) (ws : List Wanted) (rest : List Dispatch) → IsNotNext s ws → AreUp ws
    → s.item ∷ rest ≡ of_beat s.beat (map dated_of ws) → ⊥
not_next s [] rest h up e = absurd (cc)
not_next s (w ∷ ws) rest h up e = by (w.beat == s.beat) refl e
  where
    by : (t : Bool) → (w.beat == s.beat) ≡ t
        → s.item ∷ rest ≡ cond t ((dated_of w).item ∷ of_beat s.beat (map dated_of ws)) (of_beat s.beat (map dated_of ws)) → ⊥
    by true at is =
        let beat : w.beat ≡ s.beat = eqb-true w.beat s.beat at in
        let item : (dated_of w).item ≡ s.item = cc in
        h.1 (λ i. record { beat = beat i; item = item i })
    by false at is =
        let le = h.0 in
        let low : s.beat < w.beat = above (λ same. both_ways (w.beat == s.beat) at (eq-eqb w.beat s.beat same)) le in
        absurd (cc (is ∙ none_above s.beat ws (raised s.beat w.beat ws low up.0)))
      where
        above : (w.beat ≡ s.beat → ⊥) → s.beat ≤ w.beat → s.beat < w.beat
        above ne le = omega (arith, ne, le)

-- ---- one more

one : (n : ℕ) → n + 1 ≡ suc n
one n = omega arith

take_suc : {X : Type 0} (xs : List X) (n : ℕ) (x : X) → slice_get xs n ≡ Some x → take (suc n) xs ≡ take n xs ++ x ∷ []
take_suc [] n x e = absurd (cc)
take_suc {X} (y ∷ ys) zero x e =
    let same : y ≡ x = cc in
    ap (λ (z : X). z ∷ []) same
take_suc {X} (y ∷ ys) (suc n) x e = ap (λ (zs : List X). y ∷ zs) (take_suc ys n x e)

pub take_at : {X : Type 0} (xs : List X) (n : ℕ) (x : X) → slice_get xs n ≡ Some x → take (n + 1) xs ≡ take n xs ++ x ∷ []
take_at {X} xs n x e = ap (λ (k : ℕ). take k xs) (one n) ∙ take_suc xs n x e

-- what was sent up to an entry
pub sent_more : (p : Params) (front : List Entry) (e : Entry) → all_sent p (front ++ e ∷ []) ≡ all_sent p front ++ sent_by p e.stamp.beat e.what
sent_more p front e =
    flat_map-append (λ (x : Entry). sent_by p x.stamp.beat x.what) front (e ∷ [])
    ∙ ap (λ (q : List (Dated Dispatch)). all_sent p front ++ q) (append-nil (sent_by p e.stamp.beat e.what))

pub next_met : (p : Params) (wanted : List Wanted) (next : ℕ) (front : List Entry) (e : Entry) (w : Wanted) → slice_get wanted next ≡ Some w
    → sent_by p e.stamp.beat e.what ≡ dated_of w ∷ [] → all_sent p front ≡ map dated_of (take next wanted)
    → all_sent p (front ++ e ∷ []) ≡ map dated_of (take (next + 1) wanted)
next_met p wanted next front e w at sends met =
    sent_more p front e
    ∙ ap (λ (q : List (Dated Dispatch)). all_sent p front ++ q) sends
    ∙ ap (λ (q : List (Dated Dispatch)). q ++ dated_of w ∷ []) met
    ∙ sym (map-append dated_of (take next wanted) (w ∷ []))
    ∙ ap (map dated_of) (sym (take_at wanted next w at))

pub other_met : (p : Params) (wanted : List Wanted) (next : ℕ) (front : List Entry) (e : Entry) → sent_by p e.stamp.beat e.what ≡ []
    → all_sent p front ≡ map dated_of (take next wanted) → all_sent p (front ++ e ∷ []) ≡ map dated_of (take next wanted)
other_met p wanted next front e sends met =
    sent_more p front e ∙ ap (λ (q : List (Dated Dispatch)). all_sent p front ++ q) sends ∙ append-nil (all_sent p front) ∙ met

-- ---- what stands from an entry on is of its beat or of later ones

later_on : (e : Entry) (es : List Entry) → AllByRecursion (IsNotBelow e) es → (b : ℕ) → b < e.stamp.beat
    → AllByRecursion (λ (f : Entry). b < f.stamp.beat) es
later_on e [] h b low = tt
later_on e (f ∷ fs) h b low = let beat = h.0.beat in (omega (arith, beat, low), later_on e fs h.1 b low)

pub behind_beat : (journal : List Entry) (i : ℕ) (e : Entry) (b : ℕ) → AreRising journal → i < length journal
    → ((d : Entry) → slice_index_or journal i d ≡ e) → b < e.stamp.beat → AllByRecursion (λ (f : Entry). b < f.stamp.beat) (drop i journal)
behind_beat [] i e b rises low is above = absurd (omega (arith, low))
behind_beat (x ∷ xs) zero e b rises low is above =
    let here : b < x.stamp.beat = subst (λ (y : Entry). b < y.stamp.beat) (sym (is x)) above in
    (here, later_on x xs rises.0 b here)
behind_beat (x ∷ xs) (suc i) e b rises low is above = behind_beat xs i e b rises.1 (omega (arith, low)) is above

pub nothing_behind : (journal : List Entry) (i b : ℕ) → length journal ≤ i → AllByRecursion (λ (f : Entry). b < f.stamp.beat) (drop i journal)
nothing_behind [] zero b h = tt
nothing_behind [] (suc i) b h = tt
nothing_behind (x ∷ xs) zero b h = absurd (omega (arith, h))
nothing_behind (x ∷ xs) (suc i) b h = nothing_behind xs i b (omega (arith, h))

-- entries behind a beat send nothing in it
none_sent : (p : Params) (b : ℕ) (es : List Entry) → AllByRecursion (λ (e : Entry). b < e.stamp.beat) es → of_beat b (all_sent p es) ≡ []
none_sent p b [] h = refl
none_sent p b (e ∷ es) h =
    of_both b (sent_by p e.stamp.beat e.what) (all_sent p es)
    ∙ ap (λ (q : List Dispatch). q ++ of_beat b (all_sent p es))
    (of_date e.stamp.beat b (start_of p e.what) false (ne_eqb e.stamp.beat b (λ same. let low = h.0 in omega (arith, same, low))))
    ∙ none_sent p b es h.1

-- ---- in the beats below one all that is due was sent

above_next : (s : Dated Dispatch) (ws : List Wanted) (a : ℕ) → IsNotNext s ws → AreUp ws → a < s.beat
    → AllByRecursion (λ (v : Wanted). a < v.beat) ws
above_next s [] a h up low = tt
above_next s (w ∷ ws) a h up low =
    let le = h.0 in
    let here : a < w.beat = omega (arith, le, low) in
    (here, raised a w.beat ws here up.0)

first_above : (ws : List Wanted) (n : ℕ) (w : Wanted) (a : ℕ) → slice_get ws n ≡ Some w → AreUp ws → a < w.beat
    → AllByRecursion (λ (v : Wanted). a < v.beat) (drop n ws)
first_above [] n w a e up low = absurd (cc)
first_above (x ∷ xs) zero w a e up low =
    let same : x ≡ w = cc in
    let here : a < x.beat = subst (λ (y : Wanted). a < y.beat) (sym same) low in
    (here, raised a x.beat xs here up.0)
first_above (x ∷ xs) (suc n) w a e up low = first_above xs n w a e up.1 low

still_later : (a b : ℕ) (es : List Entry) → a < b → AllByRecursion (λ (e : Entry). b < e.stamp.beat) es
    → AllByRecursion (λ (e : Entry). a < e.stamp.beat) es
still_later a b [] low h = tt
still_later a b (e ∷ es) low h = let here = h.0 in (omega (arith, low, here), still_later a b es low h.1)

own_beat : (beat : ℕ) (ds : List Dispatch) (s : Dated Dispatch) → date beat ds ≡ s ∷ [] → s.beat ≡ beat
own_beat beat [] s e = absurd (cc)
own_beat beat (d ∷ ds) s e =
    let same : record { beat = beat; item = d } ≡ s = cc in
    sym (ap (λ (x : Dated Dispatch). x.beat) same)

-- what was sent in a beat is what was met of it, if all entries behind are of later beats
sent_met : (p : Params) (b n i : ℕ) (all : List Wanted) (journal : List Entry) → all_sent p (take i journal) ≡ map dated_of (take n all)
    → AllByRecursion (λ (e : Entry). b < e.stamp.beat) (drop i journal) → starts_sent p b journal ≡ of_beat b (map dated_of (take n all))
sent_met p b n i all journal met later =
    sent_group p b journal
    ∙ ap (λ (q : List Entry). of_beat b (all_sent p q)) (sym (take-append-drop i journal))
    ∙ ap (of_beat b) (flat_map-append (λ (x : Entry). sent_by p x.stamp.beat x.what) (take i journal) (drop i journal))
    ∙ of_both b (all_sent p (take i journal)) (all_sent p (drop i journal))
    ∙ ap (λ (q : List Dispatch). of_beat b (all_sent p (take i journal)) ++ q) (none_sent p b (drop i journal) later)
    ∙ append-nil (of_beat b (all_sent p (take i journal)))
    ∙ ap (of_beat b) met

sent_due : (p : Params) (beats b n i : ℕ) (orders : List Order) (journal : List Entry)
    → all_sent p (take i journal) ≡ map dated_of (take n (wanted_from p beats 0 orders))
    → AllByRecursion (λ (e : Entry). b < e.stamp.beat) (drop i journal)
    → AllByRecursion (λ (v : Wanted). b < v.beat) (drop n (wanted_from p beats 0 orders))
    → starts_sent p b journal ≡ starts_due p beats orders b
sent_due p beats b n i orders journal met later above =
    let all = wanted_from p beats 0 orders in
    sent_met p b n i all journal met later
    ∙ sym (append-nil (of_beat b (map dated_of (take n all))))
    ∙ ap (λ (q : List Dispatch). of_beat b (map dated_of (take n all)) ++ q) (sym (none_above b (drop n all) above))
    ∙ sym (of_both b (map dated_of (take n all)) (map dated_of (drop n all)))
    ∙ ap (of_beat b) (sym (map-append dated_of (take n all) (drop n all)))
    ∙ ap (λ (q : List Wanted). of_beat b (map dated_of q)) (take-append-drop n all)
    ∙ due_group p beats b 0 orders

-- ---- the first of those wanted were sent, and then another start

-- of each beat those sent are the first of those due
front_due : (p : Params) (beats b : ℕ) (orders : List Order) (n : ℕ) (journal : List Entry)
    → all_sent p journal ≡ map dated_of (take n (wanted_from p beats 0 orders))
    → starts_sent p b journal ++ of_beat b (map dated_of (drop n (wanted_from p beats 0 orders))) ≡ starts_due p beats orders b
front_due p beats b orders n journal met =
    let all = wanted_from p beats 0 orders in
    ap (λ (q : List Dispatch). q ++ of_beat b (map dated_of (drop n all))) (sent_group p b journal ∙ ap (of_beat b) met)
    ∙ sym (of_both b (map dated_of (take n all)) (map dated_of (drop n all)))
    ∙ ap (of_beat b) (sym (map-append dated_of (take n all) (drop n all)))
    ∙ ap (λ (q : List Wanted). of_beat b (map dated_of q)) (take-append-drop n all)
    ∙ due_group p beats b 0 orders

-- a start is of its own beat
of_itself : (s : Dated Dispatch) → of_beat s.beat (s ∷ []) ≡ s.item ∷ []
of_itself s = ap (λ (t : Bool). cond t (s.item ∷ []) []) (eq-eqb s.beat s.beat refl)

pub surplus : (p : Params) (beats : ℕ) (orders : List Order) (n i : ℕ) (journal : List Entry) (e : Entry) (s : Dated Dispatch)
    → IsNonDecreasingBy (λ (o : Order). o.beat) orders → AreRising journal → i < length journal
    → ((d : Entry) → slice_index_or journal i d ≡ e) → take (i + 1) journal ≡ take i journal ++ e ∷ []
    → all_sent p (take i journal) ≡ map dated_of (take n (wanted_from p beats 0 orders)) → sent_by p e.stamp.beat e.what ≡ s ∷ []
    → IsNotNext s (drop n (wanted_from p beats 0 orders)) → IsWrongStart p beats orders journal i
surplus p beats orders n i journal e s rises rising low is more met sends other =
    let all = wanted_from p beats 0 orders in
    let due = front_due p beats s.beat orders n (take i journal) met in
    let up = drop_up n all (wanted_up p beats 0 orders rises) in
    let own = own_beat e.stamp.beat (start_of p e.what) s sends in
    record {
      inside = low;
      beat = s.beat;
      lower_beats = λ a less.
          sent_due p beats a n i orders journal met (behind_beat journal i e a rising low is (omega (arith, less, own)))
          (above_next s (drop n all) a other up less);
      before = (of_beat s.beat (map dated_of (drop n all)), due);
      with_it = λ f.
          let with_e : starts_sent p s.beat (take (i + 1) journal) ≡ starts_sent p s.beat (take i journal) ++ s.item ∷ [] =
          ap (starts_sent p s.beat) more
          ∙ sent_group p s.beat (take i journal ++ e ∷ [])
          ∙ ap (of_beat s.beat) (sent_more p (take i journal) e ∙ ap (λ (q : List (Dated Dispatch)). all_sent p (take i journal) ++ q) sends)
          ∙ of_both s.beat (all_sent p (take i journal)) (s ∷ [])
          ∙ ap (λ (q : List Dispatch). of_beat s.beat (all_sent p (take i journal)) ++ q) (of_itself s)
          ∙ ap (λ (q : List Dispatch). q ++ s.item ∷ []) (sym (sent_group p s.beat (take i journal))) in
          not_next s (drop n all) f.0 other up
          (append_cancel_left (starts_sent p s.beat (take i journal)) (s.item ∷ f.0) (of_beat s.beat (map dated_of (drop n all)))
          (sym (append_assoc (starts_sent p s.beat (take i journal)) (s.item ∷ []) f.0)
          ∙ ap (λ (q : List Dispatch). q ++ f.0) (sym with_e) ∙ f.1 ∙ sym due));
    }

pub all_met : (p : Params) (beats : ℕ) (orders : List Order) (n : ℕ) (journal : List Entry) → length (wanted_from p beats 0 orders) ≤ n
    → all_sent p journal ≡ map dated_of (take n (wanted_from p beats 0 orders)) → AreSent p beats orders journal
all_met p beats orders n journal over met b =
    let all = wanted_from p beats 0 orders in
    sent_group p b journal ∙ ap (of_beat b) (met ∙ ap (map dated_of) (take_all n all over)) ∙ due_group p beats b 0 orders

-- ---- the first of those wanted were sent, and the next one was not

-- a start that is wanted stands behind those of the orders before its own, and is one of its own order's
record IsPlaced (p : Params) (beats j : ℕ) (orders : List Order) (n : ℕ) (w : Wanted) : Type 0 where
  at : ℕ
  is : w.order ≡ j + at
  order : Order
  here : slice_get orders at ≡ Some order
  beat : order.beat ≡ w.beat
  early : w.beat < beats
  lower : IsFrontOf (wanted_from p beats j (take at orders)) (take n (wanted_from p beats j orders))
  upper : IsFrontOf (take (suc n) (wanted_from p beats j orders)) (wanted_from p beats j (take (suc at) orders))

-- what an order wants is its own
abbrev IsOf : ℕ → ℕ → ℕ → Wanted → Type 0
IsOf beats j beat v = (v.order ≡ j) × (v.beat ≡ beat) × (beat < beats)

own_wants : (p : Params) (beats j beat : ℕ) (w : OrderKind) → AllByRecursion (IsOf beats j beat) (wants_by p beats j beat w)
own_wants p beats j beat (kind.Finish v) = tt
own_wants p beats j beat (kind.Begin ask) = by (nat_lt beat beats) refl
  where
    by : (t : Bool) → nat_lt beat beats ≡ t → AllByRecursion (IsOf beats j beat) (cond t
        ((record { beat = beat; to = ask.disk.0 % p.cubs; ask = ask; redundant = false; order = j })
        ∷ (record { beat = beat; to = (ask.disk.0 + 1) % p.cubs; ask = ask; redundant = true; order = j }) ∷ []) [])
    by true e = let low = ltb-true beat beats e in ((refl, refl, low), ((refl, refl, low), tt))
    by false e = tt

-- an element of two lists behind one another is one of the first, or one of the second
abbrev IsInFirst : (Wanted → Type 0) → List Wanted → List Wanted → ℕ → Wanted → Type 0
IsInFirst P mine rest n w = P w × IsFrontOf (take (suc n) (mine ++ rest)) mine

abbrev IsInSecond : List Wanted → List Wanted → ℕ → Wanted → Type 0
IsInSecond mine rest n w =
    (m : ℕ) × (slice_get rest m ≡ Some w) × (take n (mine ++ rest) ≡ mine ++ take m rest)
    × (take (suc n) (mine ++ rest) ≡ mine ++ take (suc m) rest)

in_either : (P : Wanted → Type 0) (mine rest : List Wanted) (n : ℕ) (w : Wanted) → AllByRecursion P mine → slice_get (mine ++ rest) n ≡ Some w
    → IsInFirst P mine rest n w ⊎ IsInSecond mine rest n w
in_either P [] rest n w h e = inr (n, e, refl, refl)
in_either P (x ∷ xs) rest zero w h e =
    let same : x ≡ w = cc in
    inl (subst P same h.0, (xs, refl))
in_either P (x ∷ xs) rest (suc n) w h e = ⊎_elim
    (λ f. inl (f.0, (f.1.0, ap (λ (q : List Wanted). x ∷ q) f.1.1)))
    (λ f. inr (f.0, f.1, ap (λ (q : List Wanted). x ∷ q) f.2, ap (λ (q : List Wanted). x ∷ q) f.3))
    (in_either P xs rest n w h.1 e)

placed : (p : Params) (beats j : ℕ) (orders : List Order) (n : ℕ) (w : Wanted) → slice_get (wanted_from p beats j orders) n ≡ Some w
    → IsPlaced p beats j orders n w
placed p beats j [] n w e = absurd (cc)
placed p beats j (o ∷ os) n w e =
    let mine = wants_by p beats j o.beat o.what in
    let rest = wanted_from p beats (j + 1) os in
    ⊎_elim
    (λ f.
    let order_is = f.0.0 in
    let beat_is = f.0.1 in
    let low = f.0.2 in
    record {
      at = 0;
      is = omega (arith, order_is);
      order = o;
      here = refl;
      beat = sym beat_is;
      early = omega (arith, low, beat_is);
      lower = (take n (mine ++ rest), refl);
      upper = (f.1.0, f.1.1 ∙ sym (append-nil mine));
    })
    (λ f.
    let h = placed p beats (j + 1) os f.0 w f.1 in
    let order_is = h.is in
    record {
      at = suc h.at;
      is = omega (arith, order_is);
      order = h.order;
      here = h.here;
      beat = h.beat;
      early = h.early;
      lower = (
        h.lower.0,
        append_assoc mine (wanted_from p beats (j + 1) (take h.at os)) h.lower.0
            ∙ ap (λ (q : List Wanted). mine ++ q) h.lower.1 ∙ sym f.2,
      );
      upper = (
        h.upper.0,
        ap (λ (q : List Wanted). q ++ h.upper.0) f.3 ∙ append_assoc mine (take (suc f.0) rest) h.upper.0
            ∙ ap (λ (q : List Wanted). mine ++ q) h.upper.1,
      );
    })
    (in_either (IsOf beats j o.beat) mine rest n w (own_wants p beats j o.beat o.what) e)

-- a front of what is wanted is one beat for beat
front_of_beat : (b : ℕ) (xs ys : List Wanted) → IsFrontOf xs ys → IsFrontOf (of_beat b (map dated_of xs)) (of_beat b (map dated_of ys))
front_of_beat b xs ys h = (
  of_beat b (map dated_of h.0),
  sym (of_both b (map dated_of xs) (map dated_of h.0)) ∙ ap (of_beat b) (sym (map-append dated_of xs h.0)) ∙ ap (λ (q : List Wanted). of_beat b (map dated_of q)) h.1,
)

ordered_group : (p : Params) (beats b : ℕ) (orders : List Order) → b < beats
    → of_beat b (map dated_of (wanted_from p beats 0 orders)) ≡ starts_ordered p b orders
ordered_group p beats b orders low =
    due_group p beats b 0 orders ∙ ap (λ (t : Bool). cond t (starts_ordered p b orders) []) (lt-ltb b beats low)

pub lacking : (p : Params) (beats : ℕ) (orders : List Order) (n i : ℕ) (journal : List Entry) (w : Wanted)
    → IsNonDecreasingBy (λ (o : Order). o.beat) orders → slice_get (wanted_from p beats 0 orders) n ≡ Some w
    → all_sent p (take i journal) ≡ map dated_of (take n (wanted_from p beats 0 orders))
    → AllByRecursion (λ (e : Entry). w.beat < e.stamp.beat) (drop i journal) → IsUnsent p beats orders journal w.order
lacking p beats orders n i journal w rises at met later =
    let all = wanted_from p beats 0 orders in
    let h = placed p beats 0 orders n w at in
    let order_is = h.is in
    let place : w.order ≡ h.at = omega (arith, order_is) in
    let b = h.order.beat in
    let low : b < beats = (let same = h.beat in let early = h.early in omega (arith, same, early)) in
    let later_here = subst (λ (x : ℕ). AllByRecursion (λ (e : Entry). x < e.stamp.beat) (drop i journal)) (sym h.beat) later in
    -- all that was sent in the beat is what was met
    let sent : starts_sent p b journal ≡ of_beat b (map dated_of (take n all)) =
    sent_met p b n i all journal met later_here in
    let lower = front_of_beat b (wanted_from p beats 0 (take h.at orders)) (take n all) h.lower in
    let upper = front_of_beat b (take (suc n) all) (wanted_from p beats 0 (take (suc h.at) orders)) h.upper in
    record {
      order = h.order;
      here = subst (λ (k : ℕ). slice_get orders k ≡ Some h.order) (sym place) h.here;
      early = low;
      lower_beats = λ a less.
          let same = h.beat in
          sent_due p beats a n i orders journal met (still_later a b (drop i journal) less later_here)
          (first_above all n w a at (wanted_up p beats 0 orders rises) (omega (arith, less, same)));
      sent = (
        of_beat b (map dated_of (drop n all)),
        ap (λ (q : List Dispatch). q ++ of_beat b (map dated_of (drop n all))) sent
            ∙ sym (of_both b (map dated_of (take n all)) (map dated_of (drop n all)))
            ∙ ap (of_beat b) (sym (map-append dated_of (take n all) (drop n all)))
            ∙ ap (λ (q : List Wanted). of_beat b (map dated_of q)) (take-append-drop n all)
            ∙ due_group p beats b 0 orders,
      );
      lower = (
        lower.0,
        ap (λ (k : ℕ). starts_ordered p b (take k orders) ++ lower.0) place
            ∙ ap (λ (q : List Dispatch). q ++ lower.0) (sym (ordered_group p beats b (take h.at orders) low)) ∙ lower.1 ∙ sym sent,
      );
      lacks = λ f.
          let up_to : starts_ordered p b (take (w.order + 1) orders) ≡ of_beat b (map dated_of (wanted_from p beats 0 (take (suc h.at) orders))) =
          ap (λ (k : ℕ). starts_ordered p b (take k orders)) (one w.order ∙ ap suc place)
          ∙ sym (ordered_group p beats b (take (suc h.at) orders) low) in
          too_long (of_beat b (map dated_of (take n all))) (w_item w b) upper.0 f.0
          (ap (λ (q : List Dispatch). (q ++ upper.0) ++ f.0) (sym (one_longer w b n all at h.beat))
          ∙ ap (λ (q : List Dispatch). q ++ f.0) (upper.1 ∙ sym up_to) ∙ f.1 ∙ sent);
    }
  where
    w_item : Wanted → ℕ → Dispatch
    w_item v x = (dated_of v).item

    -- a list is not longer than itself
    too_long : (xs : List Dispatch) (x : Dispatch) (ys zs : List Dispatch) → ((xs ++ x ∷ []) ++ ys) ++ zs ≡ xs → ⊥
    too_long xs x ys zs e =
        let same : x ∷ (ys ++ zs) ≡ [] = append_cancel_left xs (x ∷ (ys ++ zs)) []
        (sym (append_assoc xs (x ∷ ys) zs) ∙ ap (λ (q : List Dispatch). q ++ zs) (sym (append_assoc xs (x ∷ []) ys)) ∙ e ∙ sym (append-nil xs)) in
        absurd (cc)

    one_longer : (v : Wanted) (x m : ℕ) (vs : List Wanted) → slice_get vs m ≡ Some v → x ≡ v.beat
        → of_beat x (map dated_of (take (suc m) vs)) ≡ of_beat x (map dated_of (take m vs)) ++ w_item v x ∷ []
    one_longer v x m vs e same =
        ap (λ (q : List Wanted). of_beat x (map dated_of q)) (take_suc vs m v e)
        ∙ ap (of_beat x) (map-append dated_of (take m vs) (v ∷ []))
        ∙ of_both x (map dated_of (take m vs)) (dated_of v ∷ [])
        ∙ ap (λ (t : Bool). of_beat x (map dated_of (take m vs)) ++ cond t ((dated_of v).item ∷ []) []) (eq-eqb v.beat x (sym same))
