-- A walk along the visits of a tenancy decides whether it is served.
use Rattle.std.proofs.Common.{◌≡◌, ℕ, ◌+◌, ◌*◌, ◌<◌, ◌≤◌, Bool, true, false, not, ◌&&◌, ◌||◌, IsTrue, nat_lt, nat_le, List, [], ◌∷◌, refl, sym, ap, ◌∙◌, ⊎_elim, inl, inr, arith}
use Rattle.std.specs.Prelude.{◌↔◌, ◌⊎◌}
use Rattle.std.specs.List.{list_any}
use Rattle.std.proofs.lemmas.Bool.{ltb-true, lt-ltb, leb-true, le-leb, false≢true, both_ways, cases_lt}
use Rattle.tiger_base.specs.declared.tenancy.Tenancy.{Tenancy}
use Rattle.slot_plan.specs.declared.params.Params.{Params}
use Rattle.slot_plan.specs.Times.{due, cub_of, time_of}
use Rattle.node_kit.specs.declared.course.Kept.{Kept}
use Rattle.node_kit.specs.declared.journal.Entry.{Entry}
use Rattle.run_facts.specs.Commanded.{is_gone_of}
use Rattle.run_model.specs.Excuses.{IsExcused}
use Rattle.run_model.specs.Served.{journal_at, IsPut, IsDelivered, IsSettled}
use Rattle.run_model.specs.Tests.{read_failed, stopped_before, came, was_stopped, lost_in_pieces, lost_in_death, is_unserved_back, has_excuse, some_tenancy}
use Rattle.run_model.proofs.Deliveries.{delivered, tenancy_gives}
use Rattle.run_model.proofs.Reasons.{excused}
use Rattle.run_model.proofs.Reflects.{and_both, and_left, and_right, or_either, or_first, or_second}
use Rattle.run_claims.specs.Served.{IsServed}
use Rattle.audit_blocks.specs.Serving.{end_of_run, is_settled_at, needs_none_from, is_served_at}

-- a visit was delivered or is excused
abbrev pub WasServed : Kept → ℕ → ℕ → Type 0
WasServed k v n =
    IsDelivered k.course.plan.params k.catalogue k.journals v n ⊎ IsExcused k.course.plan.params k.journals v n

-- and so all settled ones below a number
abbrev pub AreServedBelow : Kept → Tenancy → ℕ → Type 0
AreServedBelow k t visit =
    (n : ℕ) → t.first ≤ n → n < visit → IsSettled k.course.plan.params (end_of_run k) t.slot.0 n → WasServed k t.instance.0 n

-- ---- later visits are due later

products_rise : (m n k : ℕ) → m ≤ n → m * k ≤ n * k
products_rise m n k l = grind (arith, l)

pub dues_rise : (p : Params) (slot m n : ℕ) → m ≤ n → due p slot m ≤ due p slot n
unfolding due
dues_rise p slot m n l =
    let up = products_rise m n p.play l in
    omega (arith, up)

any_weaker : {X : Type 0} (f g : X → Bool) → ((x : X) → IsTrue (f x) → IsTrue (g x)) → (xs : List X) → IsTrue (list_any f xs) → IsTrue (list_any g xs)
any_weaker f g w [] h = absurd (false≢true h)
any_weaker f g w (x ∷ xs) h = ⊎_elim
    (λ a. or_first (g x) (list_any g xs) (w x a))
    (λ b. or_second (g x) (list_any g xs) (any_weaker f g w xs b))
    (or_either (f x) (list_any f xs) h)

still_stopped : (p : Params) (v s t : ℕ) → s ≤ t → (journals : List (List Entry)) → IsTrue (list_any (stopped_before p v s) journals)
    → IsTrue (list_any (stopped_before p v t) journals)
still_stopped p v s t le journals h =
    any_weaker (stopped_before p v s) (stopped_before p v t)
    (λ journal. any_weaker (λ e. is_gone_of v e.what && nat_lt (time_of p e.stamp.beat) s)
    (λ e. is_gone_of v e.what && nat_lt (time_of p e.stamp.beat) t)
    (λ e a.
    let low : time_of p e.stamp.beat < s =
    ltb-true (time_of p e.stamp.beat) s (and_right (is_gone_of v e.what) (nat_lt (time_of p e.stamp.beat) s) a) in
    and_both (is_gone_of v e.what) (nat_lt (time_of p e.stamp.beat) t)
    (and_left (is_gone_of v e.what) (nat_lt (time_of p e.stamp.beat) s) a)
    (lt-ltb (time_of p e.stamp.beat) t (omega (arith, low, le)))) journal)
    journals h

pub stopped_later : (p : Params) (journals : List (List Entry)) (t : Tenancy) (m n : ℕ) → m ≤ n → IsTrue (was_stopped p journals t m)
    → IsTrue (was_stopped p journals t n)
unfolding was_stopped
stopped_later p journals t m n le h =
    let later = dues_rise p t.slot.0 m n le in
    still_stopped p t.instance.0 (due p t.slot.0 m + p.play) (due p t.slot.0 n + p.play) (omega (arith, later)) journals h

stop_excuses : (p : Params) (journals : List (List Entry)) (t : Tenancy) (n : ℕ) → IsTrue (was_stopped p journals t n)
    → IsTrue (has_excuse p journals n t)
unfolding has_excuse
stop_excuses p journals t n h =
    let a = read_failed t.instance.0 n 0 (journal_at journals (cub_of p n)) in
    let b = lost_in_pieces p journals t n in
    let c = lost_in_death p journals t n && is_unserved_back p journals t n in
    let d = was_stopped p journals t n in
    or_second a (b || (c || d)) (or_second b (c || d) (or_second c d h))

-- ---- from a visit on nothing is asked

pub settled_is : (k : Kept) (t : Tenancy) (n : ℕ) → IsSettled k.course.plan.params (end_of_run k) t.slot.0 n → IsTrue (is_settled_at k t n)
settled_is k t n h = le-leb _ _ h

pub is_settled_by : (k : Kept) (t : Tenancy) (n : ℕ) → IsTrue (is_settled_at k t n) → IsSettled k.course.plan.params (end_of_run k) t.slot.0 n
is_settled_by k t n h = leb-true _ _ h

off : (b : Bool) → IsTrue (not b) → IsTrue b → ⊥
off true h g = false≢true h
off false h g = false≢true g

pub later_served : (k : Kept) (t : Tenancy) (visit n : ℕ) → IsPut k.journals t → IsTrue (needs_none_from k t visit) → visit ≤ n
    → t.first ≤ n → n ≤ t.last → IsSettled k.course.plan.params (end_of_run k) t.slot.0 n → WasServed k t.instance.0 n
unfolding needs_none_from
later_served k t visit n put none le first last settled =
    let p = k.course.plan.params in
    ⊎_elim
    (λ (unsettled : IsTrue (not (is_settled_at k t visit))).
    let later = dues_rise p t.slot.0 visit n le in
    absurd (off (is_settled_at k t visit) unsettled (settled_is k t visit (omega (arith, later, settled)))))
    (λ (stopped : IsTrue (was_stopped p k.journals t visit)).
    inr ((excused p k.journals t.instance.0 n).0
    (tenancy_gives k.journals t.instance.0 n (has_excuse p k.journals n) t
    (record { put = put; instance = refl; first = first; last = last })
    (stop_excuses p k.journals t n (stopped_later p k.journals t visit n le stopped)))))
    (or_either (not (is_settled_at k t visit)) (was_stopped p k.journals t visit) none)

neither : (a b : Bool) → (a || b) ≡ false → a ≡ false
neither true b h = absurd (false≢true (sym h))
neither false b h = refl

not_off : (b : Bool) → not b ≡ false → b ≡ true
not_off true h = refl
not_off false h = absurd (false≢true (sym h))

-- where something is asked of a visit, it is settled
pub asked_settled : (k : Kept) (t : Tenancy) (visit : ℕ) → needs_none_from k t visit ≡ false
    → IsSettled k.course.plan.params (end_of_run k) t.slot.0 visit
unfolding needs_none_from
asked_settled k t visit h =
    is_settled_by k t visit
    (not_off (is_settled_at k t visit) (neither (not (is_settled_at k t visit)) (was_stopped k.course.plan.params k.journals t visit) h))

-- ---- one visit

pub served_at : (k : Kept) (v n : ℕ) → IsTrue (is_served_at k v n) ↔ WasServed k v n
unfolding is_served_at
served_at k v n =
    let p = k.course.plan.params in
    let came_so = some_tenancy k.journals v n (came p k.catalogue k.journals n) in
    let excused_so = some_tenancy k.journals v n (has_excuse p k.journals n) in (
      (λ h. ⊎_elim
          (λ a. inl ((delivered p k.catalogue k.journals v n).0 a))
          (λ b. inr ((excused p k.journals v n).0 b))
          (or_either came_so excused_so h)),
      (λ g. ⊎_elim
          (λ a. or_first came_so excused_so ((delivered p k.catalogue k.journals v n).1 a))
          (λ b. or_second came_so excused_so ((excused p k.journals v n).1 b))
          g),
    )

-- ---- all visits

pub one_more_served : (k : Kept) (t : Tenancy) (visit : ℕ) → AreServedBelow k t visit → IsTrue (is_served_at k t.instance.0 visit)
    → AreServedBelow k t (visit + 1)
one_more_served k t visit below here n first low settled = ⊎_elim
    (λ (l : n < visit). below n first l settled)
    (λ (g : visit ≤ n).
    let same : n ≡ visit = omega (arith, g, low) in
    (served_at k t.instance.0 n).0 (ap (is_served_at k t.instance.0) same ∙ here))
    (cases_lt n visit)

pub ended_early : (k : Kept) (t : Tenancy) (visit : ℕ) (r : Bool) → r ≡ needs_none_from k t visit → r ≡ true → AreServedBelow k t visit
    → IsPut k.journals t
    → IsTrue true ↔ IsServed k.course.plan.params k.catalogue k.journals (end_of_run k) t
ended_early k t visit r e h below put = (
  (λ yes n first last settled. ⊎_elim
      (λ (l : n < visit). below n first l settled)
      (λ (g : visit ≤ n). later_served k t visit n put (sym e ∙ h) g first last settled)
      (cases_lt n visit)),
  (λ all. refl),
)

pub not_served : (k : Kept) (t : Tenancy) (visit : ℕ) (none at : Bool) → none ≡ needs_none_from k t visit → none ≡ false
    → at ≡ is_served_at k t.instance.0 visit → at ≡ false → t.first ≤ visit → visit ≤ t.last
    → IsTrue false ↔ IsServed k.course.plan.params k.catalogue k.journals (end_of_run k) t
not_served k t visit none at e asked f missing first last = (
  (λ no. absurd (false≢true no)),
  (λ all. absurd (both_ways (is_served_at k t.instance.0 visit) (sym f ∙ missing)
      ((served_at k t.instance.0 visit).1 (all visit first last (asked_settled k t visit (sym e ∙ asked)))))),
)

pub last_decides : (k : Kept) (t : Tenancy) (visit : ℕ) (r : Bool)
    → r ≡ (not (nat_le t.first t.last) || (needs_none_from k t t.last || is_served_at k t.instance.0 t.last))
    → AreServedBelow k t visit → t.last ≤ visit → IsPut k.journals t
    → IsTrue r ↔ IsServed k.course.plan.params k.catalogue k.journals (end_of_run k) t
last_decides k t visit r e below over put =
    let range = nat_le t.first t.last in
    let none = needs_none_from k t t.last in
    let at = is_served_at k t.instance.0 t.last in (
      (λ h n first last settled. ⊎_elim
          (λ (l : n < visit). below n first l settled)
          (λ (g : visit ≤ n).
          let same : n ≡ t.last = omega (arith, g, over, last) in
          ⊎_elim
          (λ a. absurd (off range a (le-leb t.first t.last (omega (arith, first, last)))))
          (λ b. ⊎_elim
          (λ c. later_served k t t.last n put c (omega (arith, same)) first last settled)
          (λ d. (served_at k t.instance.0 n).0 (ap (is_served_at k t.instance.0) same ∙ d))
          (or_either none at b))
          (or_either (not range) (none || at) (sym e ∙ h)))
          (cases_lt n visit)),
      (λ all. e ∙ tested range none refl refl all),
    )
  where
    tested : (b c : Bool) → nat_le t.first t.last ≡ b → needs_none_from k t t.last ≡ c
        → IsServed k.course.plan.params k.catalogue k.journals (end_of_run k) t
        → (not b || (c || is_served_at k t.instance.0 t.last)) ≡ true
    tested false c x y all = refl
    tested true true x y all = refl
    tested true false x y all =
        (served_at k t.instance.0 t.last).1
        (all t.last (leb-true t.first t.last x) (omega arith) (asked_settled k t t.last y))
