-- A walk goes on from tick to tick, and knows at each what the entries up to it tell.
use Rattle.std.proofs.Common.{◌≡◌, ℕ, zero, suc, ◌+◌, ◌<◌, ◌≤◌, Bool, true, false, not, ◌&&◌, ◌==◌, IsTrue, nat_le, nat_lt, cond, List, [], ◌∷◌, length, take, filter, Option, Some, None, is_some, refl, sym, ap, subst, ◌∙◌, ⊎_elim, inl, inr, arith}
use Rattle.std.specs.Prelude.{◌↔◌, ◌⊎◌, slice_index_or}
use Rattle.std.specs.List.{AllByRecursion, fold}
use Rattle.std.proofs.lemmas.Bool.{false≢true, cases_lt}
use Rattle.slot_plan.specs.declared.params.Params.{Params}
use Rattle.tiger_base.specs.declared.number.CubNo.{CubNo}
use Rattle.node_kit.specs.declared.course.Course.{Course}
use Rattle.node_kit.specs.declared.course.Order.{Order}
use Rattle.node_kit.specs.Courses.{reading_of}
use Rattle.node_kit.specs.Life.{lifetime_of}
use Rattle.run_facts.specs.Order.{Noted, IsNotAfter, beat_of}
use Rattle.run_facts.proofs.Rows.{all-append, all-weaker}
use Rattle.run_model.specs.Moments.{Moment, moment_at, next_moment, opening}
use Rattle.run_model.specs.Orders.{IsNotPassedOver, end_of_tick, is_up_to}
use Rattle.run_model.specs.Runs.{EndsBeat}
use Rattle.run_model.proofs.Moments.{moments_are_fronts}
use Rattle.run_model.proofs.Reflects.{at_most, both, either, equal, less}
use Rattle.run_claims.specs.Accounts.{ticks_in}
use Rattle.run_claims.specs.Patience.{NobodyIsPassedOver}
use Rattle.audit_frame.specs.Lines.{noted_line, told_by}
use Rattle.audit_frame.specs.declared.lines.Line.{Line}
use Rattle.audit_frame.proofs.Deciding.{line_more}
use Rattle.audit_frame.proofs.Walking.{state_next}
use Rattle.audit_waits.specs.Ticks.{DecidesPatience, IsNextLine, JudgesTick, NoneIsBehind, SaysBeat, SaysTick, StandsBefore, TellsWaits, last_place}
use Rattle.audit_waits.specs.declared.walk.PassedOver.{PassedOver}
use Rattle.audit_waits.specs.declared.so_far.SoFar.{SoFar}
use Rattle.audit_waits.specs.declared.walk.Walk.{Walk}

-- ---- entries up to a tick

up_is : (b n : ℕ) (x : Noted) → IsTrue (is_up_to b n x) ↔ ((beat_of x < b) ⊎ ((beat_of x ≡ b) × (x.node ≤ n)))
up_is b n x =
    either (nat_lt (beat_of x) b) ((beat_of x == b) && nat_le x.node n) (beat_of x < b) ((beat_of x ≡ b) × (x.node ≤ n))
    (less (beat_of x) b) (both (beat_of x == b) (nat_le x.node n) (beat_of x ≡ b) (x.node ≤ n) (equal (beat_of x) b) (at_most x.node n))

up_to_next_cub : (b n : ℕ) (x : Noted) → IsTrue (is_up_to b n x) → IsTrue (is_up_to b (n + 1) x)
up_to_next_cub b n x h = (up_is b (n + 1) x).1 (⊎_elim (λ l. inl l)
    (λ e. let low = e.1 in inr (e.0, omega (arith, low))) ((up_is b n x).0 h))

up_to_next_beat : (b n : ℕ) (x : Noted) → IsTrue (is_up_to b n x) → IsTrue (is_up_to (b + 1) 0 x)
up_to_next_beat b n x h = (up_is (b + 1) 0 x).1 (inl (⊎_elim
    (λ (l : beat_of x < b). omega (arith, l))
    (λ (e : (beat_of x ≡ b) × (x.node ≤ n)). let same = e.0 in omega (arith, same))
    ((up_is b n x).0 h)))

-- what stands before an entry up to a tick is up to it too
up_to_before : (b n : ℕ) (x y : Noted) → IsNotAfter x y → IsTrue (is_up_to b n y) → IsTrue (is_up_to b n x)
up_to_before b n x y before h = (up_is b n x).1 (⊎_elim
    (λ (l : beat_of x < beat_of y). ⊎_elim
    (λ (m : beat_of y < b). inl (omega (arith, l, m)))
    (λ (e : (beat_of y ≡ b) × (y.node ≤ n)). let same = e.0 in inl (omega (arith, l, same)))
    ((up_is b n y).0 h))
    (λ (s : (beat_of x ≡ beat_of y) × (x.node ≤ y.node)).
    let beats = s.0 in
    let nodes = s.1 in
    ⊎_elim
    (λ (m : beat_of y < b). inl (omega (arith, beats, m)))
    (λ (e : (beat_of y ≡ b) × (y.node ≤ n)).
    let same = e.0 in
    let low = e.1 in
    inr (beats ∙ same, omega (arith, nodes, low)))
    ((up_is b n y).0 h))
    before)

none_behind : (b n : ℕ) (x : Noted) (xs : List Noted) → is_up_to b n x ≡ false → AllByRecursion (IsNotAfter x) xs → filter (is_up_to b n) xs ≡ []
none_behind b n x [] e h = refl
none_behind b n x (y ∷ ys) e h = go (is_up_to b n y) refl (none_behind b n x ys e h.1) where
  go : (t : Bool) → is_up_to b n y ≡ t → filter (is_up_to b n) ys ≡ [] → cond t (y ∷ filter (is_up_to b n) ys) (filter (is_up_to b n) ys) ≡ []
  go true up rest = absurd (false≢true (sym e ∙ up_to_before b n x y h.0 up))
  go false up rest = rest

-- those that were passed are all of them, if the next one is none
pub all_passed : (b n : ℕ) (lines : List Line) (i : ℕ) → NoneIsBehind (told_by lines)
    → AllByRecursion (λ x. IsTrue (is_up_to b n x)) (take i (told_by lines)) → IsNextLine lines i b n None
    → take i (told_by lines) ≡ filter (is_up_to b n) (told_by lines)
all_passed b n [] zero order all end = refl
all_passed b n [] (suc i) order all end = refl
all_passed b n (l ∷ ls) zero order all end = ⊎_elim
    (λ over. absurd (omega (arith, over)))
    (λ next. sym (step (subst (λ (x : Line). is_up_to b n (noted_line x) ≡ false) (sym (next.1.1 l)) next.1.2)))
    end
  where
    step : is_up_to b n (noted_line l) ≡ false → filter (is_up_to b n) (noted_line l ∷ told_by ls) ≡ []
    step e =
        ap (λ (t : Bool). cond t (noted_line l ∷ filter (is_up_to b n) (told_by ls)) (filter (is_up_to b n) (told_by ls))) e
        ∙ none_behind b n (noted_line l) (told_by ls) e order.0
all_passed b n (l ∷ ls) (suc i) order all end =
    ap (λ (xs : List Noted). noted_line l ∷ xs) (all_passed b n ls i order.1 all.1 (⊎_elim
    (λ (over : length (l ∷ ls) ≤ suc i). inl (omega (arith, over)))
    (λ next. let low = next.0 in inr (omega (arith, low), next.1))
    end))
    ∙ sym (ap (λ (t : Bool). cond t (noted_line l ∷ filter (is_up_to b n) (told_by ls)) (filter (is_up_to b n) (told_by ls))) all.0)

-- ---- one entry more

pub entry_passed : (p : Params) (orders : List Order) (lines : List Line) (old new : Walk) (x : Line) (beat cub : ℕ)
    → old.place < length lines → ((d : Line) → slice_index_or lines old.place d ≡ x) → new.place ≡ old.place + 1
    → ((m : Moment) → TellsWaits p orders old.so_far m → TellsWaits p orders new.so_far (next_moment m (noted_line x)))
    → IsTrue (is_up_to beat cub (noted_line x)) → StandsBefore p orders lines old beat cub → StandsBefore p orders lines new beat cub
entry_passed p orders lines old new x beat cub low is place step up h = record {
  inside = omega (arith, place, low);
  tells = subst (λ (i : ℕ). TellsWaits p orders new.so_far (fold next_moment opening (take i (told_by lines)))) (sym place)
      (subst (λ (m : Moment). TellsWaits p orders new.so_far m) (sym (state_next next_moment opening lines old.place x low is))
      (step (fold next_moment opening (take old.place (told_by lines))) h.tells));
  early = subst (λ (i : ℕ). AllByRecursion (λ y. IsTrue (is_up_to beat cub y)) (take i (told_by lines))) (sym place)
      (subst (λ (xs : List Noted). AllByRecursion (λ y. IsTrue (is_up_to beat cub y)) xs) (sym (line_more lines old.place x low is))
      (all-append (λ y. IsTrue (is_up_to beat cub y)) (take old.place (told_by lines)) (noted_line x ∷ []) h.early (up, tt)));
}

-- ---- one tick more

pub next_cub : (p : Params) (orders : List Order) (lines : List Line) (w : Walk) (beat cub : ℕ)
    → StandsBefore p orders lines w beat cub → StandsBefore p orders lines w beat (cub + 1)
next_cub p orders lines w beat cub h = record {
  inside = h.inside;
  tells = h.tells;
  early = all-weaker (λ x. IsTrue (is_up_to beat cub x)) (λ x. IsTrue (is_up_to beat (cub + 1) x)) (take w.place (told_by lines))
      (λ x up. up_to_next_cub beat cub x up) h.early;
}

pub next_beat : (p : Params) (orders : List Order) (lines : List Line) (w : Walk) (beat cub : ℕ)
    → StandsBefore p orders lines w beat cub → StandsBefore p orders lines w (beat + 1) 0
next_beat p orders lines w beat cub h = record {
  inside = h.inside;
  tells = h.tells;
  early = all-weaker (λ x. IsTrue (is_up_to beat cub x)) (λ x. IsTrue (is_up_to (beat + 1) 0 x)) (take w.place (told_by lines))
      (λ x up. up_to_next_beat beat cub x up) h.early;
}

-- a walk that differs in what ticks have seen alone
pub stands_still : (p : Params) (orders : List Order) (lines : List Line) (old new : Walk) (beat cub : ℕ) → new.so_far ≡ old.so_far
    → new.place ≡ old.place → StandsBefore p orders lines old beat cub → StandsBefore p orders lines new beat cub
stands_still p orders lines old new beat cub same place h = record {
  inside = subst (λ (i : ℕ). i ≤ length lines) (sym place) h.inside;
  tells = subst (λ (i : ℕ). TellsWaits p orders new.so_far (fold next_moment opening (take i (told_by lines)))) (sym place)
      (subst (λ (s : SoFar). TellsWaits p orders s (fold next_moment opening (take old.place (told_by lines)))) (sym same) h.tells);
  early = subst (λ (i : ℕ). AllByRecursion (λ y. IsTrue (is_up_to beat cub y)) (take i (told_by lines))) (sym place) h.early;
}

taken_length : (lines : List Line) (i : ℕ) → i ≤ length lines → length (take i (told_by lines)) ≡ i
taken_length [] zero le = refl
taken_length [] (suc i) le = absurd (omega (arith, le))
taken_length (l ∷ ls) zero le = refl
taken_length (l ∷ ls) (suc i) le = ap suc (taken_length ls i (omega (arith, le)))

pub tick_says : (p : Params) (orders : List Order) (ticked : ℕ → ℕ → ℕ → Type 0) (lines : List Line) (w : Walk) (beat cub : ℕ) (answer : Option PassedOver)
    → StandsBefore p orders lines w beat cub → take w.place (told_by lines) ≡ filter (is_up_to beat cub) (told_by lines)
    → ((m : Moment) → TellsWaits p orders w.so_far m → JudgesTick p orders ticked m cub beat w.place answer)
    → SaysTick p orders ticked (told_by lines) cub beat answer
tick_says p orders ticked lines w beat cub answer h all judged =
    let moment : fold next_moment opening (take w.place (told_by lines)) ≡ end_of_tick beat cub (told_by lines) =
    moments_are_fronts (take w.place (told_by lines)) ∙ ap moment_at all in
    let count : w.place ≡ length (filter (is_up_to beat cub) (told_by lines)) =
    sym (taken_length lines w.place h.inside) ∙ ap length all in
    subst (λ (n : ℕ). JudgesTick p orders ticked (end_of_tick beat cub (told_by lines)) cub beat n answer) count
    (subst (λ (m : Moment). JudgesTick p orders ticked m cub beat w.place answer) moment
    (judged (fold next_moment opening (take w.place (told_by lines))) h.tells))

-- ---- a tick of a course is judged

pub rests_then : (p : Params) (orders : List Order) (course : Course) (m : Moment) (cub beat count : ℕ) (r : Bool)
    → IsTrue r ↔ EndsBeat (lifetime_of course cub) beat → not r ≡ true → JudgesTick p orders (ticks_in course) m cub beat count None
rests_then p orders course m cub beat count r is e reading t = absurd (go r (is.1 t.1) e) where
  go : (b : Bool) → b ≡ true → not b ≡ true → ⊥
  go true f g = false≢true g
  go false f g = false≢true f

pub patient_then : (p : Params) (orders : List Order) (course : Course) (m : Moment) (cub beat count shown : ℕ) (r : Bool)
    → shown ≡ reading_of course cub beat → r ≡ true → IsTrue r ↔ IsNotPassedOver p orders m cub beat shown
    → JudgesTick p orders (ticks_in course) m cub beat count None
patient_then p orders course m cub beat count shown r is e judged reading t =
    subst (λ (n : ℕ). IsNotPassedOver p orders m cub beat n) (is ∙ sym t.2) (judged.0 e)

pub passed_then : (p : Params) (orders : List Order) (course : Course) (m : Moment) (cub : CubNo) (beat count shown : ℕ) (ticking r : Bool) (place : Option ℕ)
    → beat < course.beats → IsTrue ticking ↔ EndsBeat (lifetime_of course cub.0) beat → not ticking ≡ false → shown ≡ reading_of course cub.0 beat → r ≡ false
    → place ≡ last_place count → IsTrue r ↔ IsNotPassedOver p orders m cub.0 beat shown
    → JudgesTick p orders (ticks_in course) m cub.0 beat count (Some (record { cub = cub; beat = beat; place = place }))
passed_then p orders course m cub beat count shown ticking r place early is on shows e at judged =
    (refl, refl, at, (shown, (early, is.0 (acting ticking on), shows), (λ patient. false≢true (sym e ∙ judged.1 patient)))) where
      acting : (b : Bool) → not b ≡ false → b ≡ true
      acting true f = refl
      acting false f = absurd (false≢true (sym f))

-- ---- what the ticks of a beat say

pub none_says : (p : Params) (orders : List Order) (ticked : ℕ → ℕ → ℕ → Type 0) (log : List Noted) (cub beat : ℕ) (o : Option PassedOver)
    → is_some o ≡ false → SaysTick p orders ticked log cub beat o → SaysTick p orders ticked log cub beat None
none_says p orders ticked log cub beat None e h = h
none_says p orders ticked log cub beat (Some f) e h = absurd (false≢true (sym e))

pub some_says : (p : Params) (orders : List Order) (ticked : ℕ → ℕ → ℕ → Type 0) (log : List Noted) (cub beat : ℕ) (o : Option PassedOver)
    → is_some o ≡ true → cub < p.cubs → SaysTick p orders ticked log cub beat o
    → ((c : ℕ) → c < cub → SaysTick p orders ticked log c beat None) → SaysBeat p orders ticked log beat o
some_says p orders ticked log cub beat None e low h before = absurd (false≢true e)
some_says p orders ticked log cub beat (Some f) e low h before =
    let same = h.0 in (
      omega (arith, same, low),
      subst (λ (c : ℕ). SaysTick p orders ticked log c beat (Some f)) (sym same) h,
      (λ c less. before c (omega (arith, less, same))),
    )

pub more_ticks : (p : Params) (orders : List Order) (ticked : ℕ → ℕ → ℕ → Type 0) (log : List Noted) (cub beat : ℕ)
    → ((c : ℕ) → c < cub → SaysTick p orders ticked log c beat None) → SaysTick p orders ticked log cub beat None
    → (c : ℕ) → c < cub + 1 → SaysTick p orders ticked log c beat None
more_ticks p orders ticked log cub beat before here c low = ⊎_elim
    (λ (l : c < cub). before c l)
    (λ (g : cub ≤ c). subst (λ (n : ℕ). SaysTick p orders ticked log n beat None) (let same : cub ≡ c = omega (arith, g, low) in same) here)
    (cases_lt c cub)

-- ---- what all ticks say

pub beat_none : (p : Params) (orders : List Order) (ticked : ℕ → ℕ → ℕ → Type 0) (log : List Noted) (beat : ℕ) (o : Option PassedOver)
    → is_some o ≡ false → SaysBeat p orders ticked log beat o → SaysBeat p orders ticked log beat None
beat_none p orders ticked log beat None e h = h
beat_none p orders ticked log beat (Some f) e h = absurd (false≢true (sym e))

pub more_beats : (p : Params) (orders : List Order) (ticked : ℕ → ℕ → ℕ → Type 0) (log : List Noted) (beat : ℕ)
    → ((b : ℕ) → b < beat → SaysBeat p orders ticked log b None) → SaysBeat p orders ticked log beat None
    → (b : ℕ) → b < beat + 1 → SaysBeat p orders ticked log b None
more_beats p orders ticked log beat before here b low = ⊎_elim
    (λ (l : b < beat). before b l)
    (λ (g : beat ≤ b). subst (λ (n : ℕ). SaysBeat p orders ticked log n None) (let same : beat ≡ b = omega (arith, g, low) in same) here)
    (cases_lt b beat)

pub all_say : (p : Params) (orders : List Order) (ticked : ℕ → ℕ → ℕ → Type 0) (log : List Noted) (beats : ℕ)
    → ((cub beat reading : ℕ) → ticked cub beat reading → beat < beats)
    → ((b : ℕ) → b < beats → SaysBeat p orders ticked log b None) → NobodyIsPassedOver p orders ticked log
all_say p orders ticked log beats early says cub beat reading low ticks = says beat (early cub beat reading ticks) cub low reading ticks

pub first_says : (p : Params) (orders : List Order) (ticked : ℕ → ℕ → ℕ → Type 0) (log : List Noted) (beat : ℕ) (o : Option PassedOver)
    → is_some o ≡ true → SaysBeat p orders ticked log beat o → ((b : ℕ) → b < beat → SaysBeat p orders ticked log b None)
    → DecidesPatience p orders ticked log o
first_says p orders ticked log beat None e h before = absurd (false≢true e)
first_says p orders ticked log beat (Some f) e h before =
    let tick = h.1 in
    let same = tick.1 in
    let found = tick.3 in
    record {
      reading = found.0;
      low = h.0;
      ticks = subst (λ (b : ℕ). ticked f.cub.0 b found.0) (sym same) found.1;
      passed_over = subst (λ (b : ℕ). IsNotPassedOver p orders (end_of_tick b f.cub.0 log) f.cub.0 b found.0 → ⊥) (sym same) found.2;
      before = λ cub b reading low ticks comes. ⊎_elim
          (λ (l : b < f.beat). before b (omega (arith, l, same)) cub low reading ticks)
          (λ (q : (b ≡ f.beat) × (cub < f.cub.0)).
          let on : beat ≡ b = sym same ∙ sym q.0 in
          subst (λ (n : ℕ). SaysTick p orders ticked log cub n None) on (h.2 cub q.1) reading ticks)
          comes;
      place = tick.2 ∙ ap (λ (b : ℕ). last_place (length (filter (is_up_to b f.cub.0) log))) (sym same);
    }
