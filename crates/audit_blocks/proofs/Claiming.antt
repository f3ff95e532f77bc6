-- What an answer of the walk says of a log and of the claim that all are served.
use Rattle.std.proofs.Common.{◌≡◌, ℕ, zero, suc, ◌+◌, ◌<◌, ◌≤◌, ◌==◌, Bool, true, false, ◌&&◌, IsTrue, cond, List, [], ◌∷◌, ◌++◌, map, filter, take, drop, length, Some, None, refl, sym, ap, subst, ◌∙◌, inl, inr, append_assoc}
use Rattle.std.specs.Prelude.{◌↔◌, slice_index_or}
use Rattle.std.specs.List.{AllByRecursion}
use Rattle.std.proofs.lemmas.List.{take-append-drop}
use Rattle.tiger_base.specs.declared.tenancy.Tenancy.{Tenancy}
use Rattle.slot_plan.specs.declared.params.Params.{Params}
use Rattle.stripe_layout.specs.declared.catalogue.Catalogue.{Catalogue}
use Rattle.node_kit.specs.declared.course.Kept.{Kept}
use Rattle.node_kit.specs.declared.journal.Entry.{Entry}
use Rattle.node_kit.specs.declared.journal.What.{What}
use Rattle.node_kit.specs.declared.journal.What.TheVariants as what
use Rattle.run_facts.specs.Order.{Noted, in_beat, order_from}
use Rattle.run_facts.proofs.Rows.{all-append}
use Rattle.run_model.specs.Fronts.{AnyByRecursion}
use Rattle.run_model.specs.Runs.{order_in}
use Rattle.run_model.specs.Served.{IsPut}
use Rattle.run_model.proofs.Reflects.{and_both, and_left, and_right}
use Rattle.run_claims.specs.Served.{IsServed, IsServedIfPut, IsOfPutIfViewers, AreServed}
use Rattle.audit_frame.specs.Lines.{noted_line, told_by}
use Rattle.audit_frame.specs.declared.lines.Line.{Line}
use Rattle.audit_frame.proofs.Deciding.{line_more, all_lines, each_at}
use Rattle.audit_blocks.specs.Serving.{end_of_run}
use Rattle.audit_blocks.specs.Verdicts.{IsServedEntry, IsServedIn, IsFirstWithout, IsPutIfPut, IsPutHere, DeliveryOfAccounts}

-- ---- an answer and the claim

served_all : (p : Params) (catalogue : Catalogue) (js : List (List Entry)) (end : ℕ) (log : List Noted)
    → AllByRecursion (IsServedEntry p catalogue js end) log → AllByRecursion (λ x. IsServedIfPut p catalogue js end x.entry.what) log
served_all p catalogue js end [] h = tt
served_all p catalogue js end (x ∷ xs) h = (h.0.served, served_all p catalogue js end xs h.1)

of_put_all : (p : Params) (catalogue : Catalogue) (js : List (List Entry)) (end : ℕ) (log : List Noted)
    → AllByRecursion (IsServedEntry p catalogue js end) log → AllByRecursion (IsOfPutIfViewers p catalogue js) log
of_put_all p catalogue js end [] h = tt
of_put_all p catalogue js end (x ∷ xs) h = (h.0.of_put, of_put_all p catalogue js end xs h.1)

all_of : (p : Params) (catalogue : Catalogue) (js : List (List Entry)) (end : ℕ) (log : List Noted)
    → AllByRecursion (λ x. IsServedIfPut p catalogue js end x.entry.what) log → AllByRecursion (IsOfPutIfViewers p catalogue js) log
    → AllByRecursion (IsServedEntry p catalogue js end) log
all_of p catalogue js end [] a b = tt
all_of p catalogue js end (x ∷ xs) a b = (record { served = a.0; of_put = b.0 }, all_of p catalogue js end xs a.1 b.1)

pub all_of_claim : (p : Params) (catalogue : Catalogue) (js : List (List Entry)) (end : ℕ) (log : List Noted)
    → AreServed p catalogue js end log → AllByRecursion (IsServedEntry p catalogue js end) log
all_of_claim p catalogue js end log h = all_of p catalogue js end log h.settled h.got

last_of : (P : Noted → Type 0) (front : List Noted) (x : Noted) → AllByRecursion P (front ++ x ∷ []) → P x
last_of P [] x h = h.0
last_of P (y ∷ ys) x h = last_of P ys x h.1

front_of : (P : Noted → Type 0) (front back : List Noted) → AllByRecursion P (front ++ back) → AllByRecursion P front
front_of P [] back h = tt
front_of P (x ∷ xs) back h = (h.0, front_of P xs back h.1)

not_all : (P : Noted → Type 0) (log : List Noted) (i : ℕ) → IsFirstWithout P log i → AllByRecursion P log → ⊥
not_all P log i first all =
    first.fails (last_of P (take i log) first.entry
    (subst (λ (xs : List Noted). AllByRecursion P xs) first.there
    (front_of P (take (i + 1) log) (drop (i + 1) log)
    (subst (λ (xs : List Noted). AllByRecursion P xs) (sym (take-append-drop (i + 1) log)) all))))

pub delivery_of_accounts : DeliveryOfAccounts
delivery_of_accounts k log None is all =
    let here = subst (λ (xs : List Noted). AllByRecursion (IsServedIn k) xs) is all in
    record {
      settled = served_all k.course.plan.params k.catalogue k.journals (end_of_run k) (order_in k) here;
      got = of_put_all k.course.plan.params k.catalogue k.journals (end_of_run k) (order_in k) here;
    }
delivery_of_accounts k log (Some i) is first = λ claim.
    not_all (IsServedIn k) log i first
    (subst (λ (xs : List Noted). AllByRecursion (IsServedIn k) xs) (sym is)
    (all_of_claim k.course.plan.params k.catalogue k.journals (end_of_run k) (order_in k) claim))

-- ---- the walk

of_told : (P : Noted → Type 0) (lines : List Line) → AllByRecursion P (told_by lines) → AllByRecursion (λ l. P (noted_line l)) lines
of_told P [] h = tt
of_told P (l ∷ ls) h = (h.0, of_told P ls h.1)

pub at_line : (P : Noted → Type 0) (lines : List Line) (i : ℕ) (x : Line) → AllByRecursion P (told_by lines) → i < length lines
    → ((d : Line) → slice_index_or lines i d ≡ x) → P (noted_line x)
at_line P lines i x h low is =
    subst (λ (l : Line). P (noted_line l)) (is x) (each_at (λ l. P (noted_line l)) lines i x (of_told P lines h) low)

pub wrong_entry : (P : Noted → Type 0) (lines : List Line) (i : ℕ) (x : Line) → i < length lines → ((d : Line) → slice_index_or lines i d ≡ x)
    → AllByRecursion P (take i (told_by lines)) → (P (noted_line x) → ⊥) → IsFirstWithout P (told_by lines) i
wrong_entry P lines i x low is before fails = record {
  before = before;
  entry = noted_line x;
  there = line_more lines i x low is;
  fails = fails;
}

pub right_entry : (P : Noted → Type 0) (lines : List Line) (i : ℕ) (x : Line) → i < length lines → ((d : Line) → slice_index_or lines i d ≡ x)
    → AllByRecursion P (take i (told_by lines)) → P (noted_line x) → AllByRecursion P (take (i + 1) (told_by lines))
right_entry P lines i x low is before here =
    subst (λ (xs : List Noted). AllByRecursion P xs) (sym (line_more lines i x low is))
    (all-append P (take i (told_by lines)) (noted_line x ∷ []) before (here, tt))

pub all_right_entries : (P : Noted → Type 0) (lines : List Line) (i : ℕ) → length lines ≤ i → AllByRecursion P (take i (told_by lines))
    → AllByRecursion P (told_by lines)
all_right_entries P lines i over before = subst (λ (xs : List Noted). AllByRecursion P xs) (all_lines lines i over) before

-- ---- one entry

pub entry_judged : (k : Kept) (x : Noted) (a b r : Bool) → r ≡ (a && b)
    → IsTrue a ↔ IsServedIfPut k.course.plan.params k.catalogue k.journals (end_of_run k) x.entry.what
    → IsTrue b ↔ IsOfPutIfViewers k.course.plan.params k.catalogue k.journals x → IsTrue r ↔ IsServedIn k x
entry_judged k x a b r e served of_put = (
  (λ h. record { served = served.0 (and_left a b (sym e ∙ h)); of_put = of_put.0 (and_right a b (sym e ∙ h)) }),
  (λ g. e ∙ and_both a b (served.1 g.served) (of_put.1 g.of_put)),
)

pub put_judged : (k : Kept) (w : What) (t : Tenancy) (r : Bool) → w ≡ what.Put t
    → (IsPut k.journals t → IsTrue r ↔ IsServed k.course.plan.params k.catalogue k.journals (end_of_run k) t)
    → IsPutIfPut k.journals w → IsTrue r ↔ IsServedIfPut k.course.plan.params k.catalogue k.journals (end_of_run k) w
put_judged k w t r is law =
    subst (λ (u : What). IsPutIfPut k.journals u → IsTrue r ↔ IsServedIfPut k.course.plan.params k.catalogue k.journals (end_of_run k) u)
    (sym is) law

pub no_put_judged : (k : Kept) (w : What) → ((t : Tenancy) → w ≡ what.Put t → ⊥)
    → IsTrue true ↔ IsServedIfPut k.course.plan.params k.catalogue k.journals (end_of_run k) w
no_put_judged k (what.Put t) h = absurd (h t refl)
no_put_judged k other h = ((λ a. tt), (λ a. refl))

-- ---- what is put in a log of a run is put in its journals

in_journal : (t : Tenancy) (before after : List Entry) (e : Entry) → e.what ≡ what.Put t → AnyByRecursion (λ f. f.what ≡ what.Put t) (before ++ e ∷ after)
in_journal t [] after e is = inl is
in_journal t (x ∷ xs) after e is = inr (in_journal t xs after e is)

in_journals : (t : Tenancy) (before after : List (List Entry)) (j : List Entry) → AnyByRecursion (λ f. f.what ≡ what.Put t) j
    → IsPut (before ++ j ∷ after) t
in_journals t [] after j h = inl h
in_journals t (x ∷ xs) after j h = inr (in_journals t xs after j h)

put_if_put : (js : List (List Entry)) (w : What) → ((t : Tenancy) → w ≡ what.Put t → IsPut js t) → IsPutIfPut js w
put_if_put js (what.Put t) f = f t refl
put_if_put js other f = tt

abbrev Puts : List (List Entry) → Noted → Type 0
Puts js x = IsPutIfPut js x.entry.what

-- all entries of some journals say so
abbrev SayPuts : List (List Entry) → List (List Entry) → Type 0
SayPuts js part = AllByRecursion (λ journal. AllByRecursion (λ e. IsPutIfPut js e.what) journal) part

journal_says : (js before rest : List (List Entry)) (front back : List Entry) → before ++ (front ++ back) ∷ rest ≡ js
    → AllByRecursion (λ e. IsPutIfPut js e.what) back
journal_says js before rest front [] is = tt
journal_says js before rest front (e ∷ es) is = (
  put_if_put js e.what (λ t put. subst (λ (all : List (List Entry)). IsPut all t) is
      (in_journals t before rest (front ++ e ∷ es) (in_journal t front es e put))),
  journal_says js before rest (front ++ e ∷ []) es
      (ap (λ (j : List Entry). before ++ j ∷ rest) (append_assoc front (e ∷ []) es) ∙ is),
)

journals_say : (js before rest : List (List Entry)) → before ++ rest ≡ js → SayPuts js rest
journals_say js before [] is = tt
journals_say js before (j ∷ rest) is = (
  journal_says js before rest [] j is,
  journals_say js (before ++ j ∷ []) rest (append_assoc before (j ∷ []) rest ∙ is),
)

some_of : (js : List (List Entry)) (n : ℕ) (b : Bool) (e : Entry) (es : List Entry) → IsPutIfPut js e.what
    → AllByRecursion (Puts js) (map (λ f. record { node = n; entry = f }) es)
    → AllByRecursion (Puts js) (map (λ f. record { node = n; entry = f }) (cond b (e ∷ es) es))
some_of js n true e es h rest = (h, rest)
some_of js n false e es h rest = rest

of_journal : (js : List (List Entry)) (n b : ℕ) (es : List Entry) → AllByRecursion (λ e. IsPutIfPut js e.what) es
    → AllByRecursion (Puts js) (map (λ f. record { node = n; entry = f }) (filter (λ e. e.stamp.beat == b) es))
of_journal js n b [] h = tt
of_journal js n b (e ∷ es) h = some_of js n (e.stamp.beat == b) e (filter (λ f. f.stamp.beat == b) es) h.0 (of_journal js n b es h.1)

of_beat : (js : List (List Entry)) (b n : ℕ) (part : List (List Entry)) → SayPuts js part → AllByRecursion (Puts js) (in_beat b n part)
of_beat js b n [] h = tt
of_beat js b n (j ∷ part) h =
    all-append (Puts js) (map (λ e. record { node = n; entry = e }) (filter (λ e. e.stamp.beat == b) j)) (in_beat b (n + 1) part)
    (of_journal js n b j h.0) (of_beat js b (n + 1) part h.1)

of_order : (js : List (List Entry)) (b m : ℕ) (part : List (List Entry)) → SayPuts js part → AllByRecursion (Puts js) (order_from b m part)
of_order js b zero part h = tt
of_order js b (suc m) part h =
    all-append (Puts js) (in_beat b 0 part) (order_from (b + 1) m part) (of_beat js b 0 part h) (of_order js (b + 1) m part h)

pub log_is_put : (k : Kept) (log : List Noted) → log ≡ order_in k → AllByRecursion (IsPutHere k) log
log_is_put k log is = subst (λ (xs : List Noted). AllByRecursion (IsPutHere k) xs) (sym is)
    (of_order k.journals 0 k.course.beats k.journals (journals_say k.journals [] k.journals refl))
