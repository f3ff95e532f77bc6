-- What is decided of the log of a kept run is decided of its account, and its lines stand in their order.
use Rattle.std.proofs.Common.{◌≡◌, ℕ, zero, suc, ◌+◌, ◌<◌, ◌≤◌, ◌==◌, Bool, true, false, cond, List, [], ◌∷◌, ◌++◌, map, filter, Option, Some, None, refl, sym, subst, inl, inr, arith}
use Rattle.std.specs.List.{AllByRecursion}
use Rattle.std.proofs.lemmas.Bool.{eqb-true}
use Rattle.node_kit.specs.declared.course.Kept.{Kept}
use Rattle.node_kit.specs.declared.course.Order.{Order}
use Rattle.node_kit.specs.declared.journal.Entry.{Entry}
use Rattle.slot_plan.specs.declared.params.Params.{Params}
use Rattle.run_facts.specs.Order.{IsNotAfter, Noted, beat_of, in_beat, order_from}
use Rattle.run_facts.proofs.Rows.{all-append, all-weaker}
use Rattle.run_model.specs.Runs.{order_in}
use Rattle.run_claims.specs.Accounts.{account_of, ticks_in}
use Rattle.run_claims.specs.Patience.{NobodyIsPassedOver}
use Rattle.audit_frame.specs.Lines.{told_by}
use Rattle.audit_waits.specs.Ticks.{DecidesPatience, IsFirstPassedOver, NoneIsBehind}
use Rattle.audit_waits.specs.Verdicts.{LinesAreInOrder, PatienceOfAccounts, SaysPatience}
use Rattle.audit_waits.specs.declared.walk.PassedOver.{PassedOver}

-- a claim is false at the tick that is named, and so it is false
not_patient : (p : Params) (orders : List Order) (ticked : ℕ → ℕ → ℕ → Type 0) (log : List Noted) (f : PassedOver)
    → IsFirstPassedOver p orders ticked log f → NobodyIsPassedOver p orders ticked log → ⊥
not_patient p orders ticked log f first claim = first.passed_over (claim f.cub.0 f.beat first.reading first.low first.ticks)

refuted : (k : Kept) (log : List Noted) (f : PassedOver) → log ≡ order_in k
    → IsFirstPassedOver k.course.plan.params k.orders (ticks_in k.course) log f
    → NobodyIsPassedOver k.course.plan.params k.orders (ticks_in k.course) (order_in k) → ⊥
refuted k log f is d claim =
    not_patient k.course.plan.params k.orders (ticks_in k.course) (order_in k) f
    (subst (λ (xs : List Noted). IsFirstPassedOver k.course.plan.params k.orders (ticks_in k.course) xs f) is d) claim

says : (k : Kept) (log : List Noted) (answer : Option PassedOver) → log ≡ order_in k
    → DecidesPatience k.course.plan.params k.orders (ticks_in k.course) log answer → SaysPatience (account_of k) answer
says k log None is d = subst (λ (xs : List Noted). NobodyIsPassedOver k.course.plan.params k.orders (ticks_in k.course) xs) is d
says k log (Some f) is d = (refuted k log f is d, (λ fair. refuted k log f is d fair.patient))

pub patience_of_accounts : PatienceOfAccounts
patience_of_accounts k lines answer told d = says k (told_by lines) answer told d

-- ---- the order of all entries

abbrev IsOfTick : ℕ → ℕ → Noted → Type 0
IsOfTick b n x = (beat_of x ≡ b) × (n ≤ x.node)

some_here : (n b : ℕ) (t : Bool) (e : Entry) (es : List Entry) → (e.stamp.beat == b) ≡ t
    → AllByRecursion (λ (x : Noted). (beat_of x ≡ b) × (x.node ≡ n)) (map (λ f. record { node = n; entry = f }) es)
    → AllByRecursion (λ (x : Noted). (beat_of x ≡ b) × (x.node ≡ n)) (map (λ f. record { node = n; entry = f }) (cond t (e ∷ es) es))
some_here n b true e es is rest = ((eqb-true e.stamp.beat b is, refl), rest)
some_here n b false e es is rest = rest

journal_here : (n b : ℕ) (es : List Entry)
    → AllByRecursion (λ (x : Noted). (beat_of x ≡ b) × (x.node ≡ n)) (map (λ f. record { node = n; entry = f }) (filter (λ e. e.stamp.beat == b) es))
journal_here n b [] = tt
journal_here n b (e ∷ es) = some_here n b (e.stamp.beat == b) e (filter (λ f. f.stamp.beat == b) es) refl (journal_here n b es)

beat_here : (b m n : ℕ) (js : List (List Entry)) → m ≤ n → AllByRecursion (IsOfTick b m) (in_beat b n js)
beat_here b m n [] le = tt
beat_here b m n (j ∷ js) le =
    all-append (IsOfTick b m) (map (λ e. record { node = n; entry = e }) (filter (λ e. e.stamp.beat == b) j)) (in_beat b (n + 1) js)
    (all-weaker (λ (x : Noted). (beat_of x ≡ b) × (x.node ≡ n)) (IsOfTick b m) (map (λ e. record { node = n; entry = e }) (filter (λ e. e.stamp.beat == b) j))
    (λ x h. let node = h.1 in (h.0, omega (arith, node, le))) (journal_here n b j))
    (beat_here b m (n + 1) js (omega (arith, le)))

beats_here : (c b k : ℕ) (js : List (List Entry)) → c < b → AllByRecursion (λ (x : Noted). c < beat_of x) (order_from b k js)
beats_here c b zero js low = tt
beats_here c b (suc k) js low =
    all-append (λ (x : Noted). c < beat_of x) (in_beat b 0 js) (order_from (b + 1) k js)
    (all-weaker (IsOfTick b 0) (λ (x : Noted). c < beat_of x) (in_beat b 0 js) (λ x h. let beat = h.0 in omega (arith, beat, low)) (beat_here b 0 0 js (omega arith)))
    (beats_here c (b + 1) k js (omega (arith, low)))

-- one list behind another
one_behind : (xs ys : List Noted) → NoneIsBehind xs → NoneIsBehind ys → AllByRecursion (λ x. AllByRecursion (IsNotAfter x) ys) xs → NoneIsBehind (xs ++ ys)
one_behind [] ys first second all = second
one_behind (x ∷ xs) ys first second all = (all-append (IsNotAfter x) xs ys first.0 all.0, one_behind xs ys first.1 second all.1)

journal_order : (b n : ℕ) (xs : List Noted) → AllByRecursion (λ (x : Noted). (beat_of x ≡ b) × (x.node ≡ n)) xs → NoneIsBehind xs
journal_order b n [] h = tt
journal_order b n (x ∷ xs) h = (
  all-weaker (λ (y : Noted). (beat_of y ≡ b) × (y.node ≡ n)) (IsNotAfter x) xs
      (λ y q.
      let own = h.0.1 in
      let other = q.1 in
      let beat = h.0.0 in
      let same = q.0 in
      inr (omega (arith, beat, same), omega (arith, own, other))) h.1,
  journal_order b n xs h.1,
)

beat_order : (b n : ℕ) (js : List (List Entry)) → NoneIsBehind (in_beat b n js)
beat_order b n [] = tt
beat_order b n (j ∷ js) =
    let here = journal_here n b j in
    one_behind (map (λ e. record { node = n; entry = e }) (filter (λ e. e.stamp.beat == b) j)) (in_beat b (n + 1) js)
    (journal_order b n _ here) (beat_order b (n + 1) js)
    (all-weaker (λ (x : Noted). (beat_of x ≡ b) × (x.node ≡ n)) (λ x. AllByRecursion (IsNotAfter x) (in_beat b (n + 1) js)) _
    (λ x h. all-weaker (IsOfTick b (n + 1)) (IsNotAfter x) (in_beat b (n + 1) js)
    (λ y q.
    let own = h.1 in
    let beat = h.0 in
    let same = q.0 in
    let later = q.1 in
    inr (omega (arith, beat, same), omega (arith, own, later))) (beat_here b (n + 1) (n + 1) js (omega arith))) here)

order_order : (b k : ℕ) (js : List (List Entry)) → NoneIsBehind (order_from b k js)
order_order b zero js = tt
order_order b (suc k) js =
    one_behind (in_beat b 0 js) (order_from (b + 1) k js) (beat_order b 0 js) (order_order (b + 1) k js)
    (all-weaker (IsOfTick b 0) (λ x. AllByRecursion (IsNotAfter x) (order_from (b + 1) k js)) (in_beat b 0 js)
    (λ x h. all-weaker (λ (y : Noted). b < beat_of y) (IsNotAfter x) (order_from (b + 1) k js)
    (λ y low. let beat = h.0 in inl (omega (arith, beat, low))) (beats_here b (b + 1) k js (omega arith)))
    (beat_here b 0 0 js (omega arith)))

pub lines_are_in_order : LinesAreInOrder
lines_are_in_order k lines told = subst (λ (xs : List Noted). NoneIsBehind xs) (sym told) (order_order 0 k.course.beats k.journals)
