-- The table of the orders' asks has the ask of a tenancy exactly if a start that asks for it was ordered.
use Rattle.std.proofs.Common.{◌≡◌, ℕ, ◌+◌, ◌-◌, ◌<◌, ◌≤◌, Bool, ◌&&◌, ◌||◌, IsTrue, nat_le, List, [], ◌∷◌, length, take, get_or, refl, sym, ap, subst, ◌∙◌, arith}
use Rattle.std.specs.Prelude.{◌↔◌}
use Rattle.std.specs.List.{list_any}
use Rattle.std.proofs.lemmas.Bool.{false≢true}
use Rattle.std.proofs.lemmas.List.{take_more, take_all}
use Rattle.std.proofs.lemmas.List.Folds.{list_any-append}
use Rattle.tiger_base.specs.declared.number.DiskNo.{DiskNo}
use Rattle.tiger_base.specs.declared.number.Instance.{Instance}
use Rattle.tiger_base.specs.declared.tenancy.Ask.{Ask}
use Rattle.tiger_base.specs.declared.tenancy.Tenancy.{Tenancy}
use Rattle.slot_plan.specs.declared.params.Params.{Params}
use Rattle.slot_plan.specs.Times.{disk_of}
use Rattle.node_kit.specs.declared.course.Order.{Order}
use Rattle.node_kit.specs.declared.course.OrderKind.{OrderKind}
use Rattle.node_kit.specs.declared.course.OrderKind.TheVariants as kind
use Rattle.run_model.specs.Orders.{IsOrdered}
use Rattle.run_model.proofs.Reflects.{and_both, and_left, and_right, any, at_most}
use Rattle.audit_frame.specs.Tables.{AskNumbers, has_ask, same_ask}
use Rattle.audit_frame.proofs.Added.{or_false}
use Rattle.audit_frame.proofs.Asked.{one_ask, same_itself}
use Rattle.audit_schedule.specs.Fair.{IsAskedFor, begins_for, AreAsksOf, ask_by}

begun : (a : Ask) (k : OrderKind) → IsTrue (begins_for a k) → k ≡ kind.Begin a
begun a (kind.Begin b) h = ap (λ (q : Ask). kind.Begin q) (one_ask b a h)
begun a (kind.Finish v) h = absurd (false≢true h)

begins_is : (a : Ask) (k : OrderKind) → IsTrue (begins_for a k) ↔ (k ≡ kind.Begin a)
begins_is a k = ((λ h. begun a k h), (λ e. subst (λ (q : OrderKind). IsTrue (begins_for a q)) (sym e) (same_itself a)))

-- ---- the table, one order more

pub finish_adds : (asks : AskNumbers) (w : OrderKind) (v : Instance) → w ≡ kind.Finish v → (a : Ask)
    → has_ask a asks ≡ (has_ask a asks || begins_for a w)
finish_adds asks w v is a =
    sym (ap (λ (k : OrderKind). has_ask a asks || begins_for a k) is ∙ or_false (has_ask a asks))

pub begin_adds : (old new : AskNumbers) (w : OrderKind) (ask : Ask) → w ≡ kind.Begin ask
    → ((a : Ask) → has_ask a new ≡ (has_ask a old || same_ask ask a)) → (a : Ask)
    → has_ask a new ≡ (has_ask a old || begins_for a w)
begin_adds old new w ask is added a = added a ∙ ap (λ (k : OrderKind). has_ask a old || begins_for a k) (sym is)

pub asks_next : (i : ℕ) (orders : List Order) (d : Order) (a : Ask) (was is : Bool) → i < length orders
    → is ≡ (was || begins_for a (get_or orders i d).what) → was ≡ list_any (λ o. begins_for a o.what) (take i orders)
    → is ≡ list_any (λ o. begins_for a o.what) (take (i + 1) orders)
asks_next i orders d a was is low now before =
    let o = get_or orders i d in
    let test = λ (x : Order). begins_for a x.what in
    now ∙ ap (λ (b : Bool). b || begins_for a o.what) before
    ∙ sym (ap (list_any test) (take_more orders i d low) ∙ list_any-append test (take i orders) (o ∷ [])
    ∙ ap (λ (b : Bool). list_any test (take i orders) || b) (or_false (begins_for a o.what)))

pub asks_end : (i : ℕ) (orders : List Order) (asks : AskNumbers) → length orders ≤ i
    → ((a : Ask) → has_ask a asks ≡ list_any (λ o. begins_for a o.what) (take i orders)) → AreAsksOf asks orders
asks_end i orders asks over so_far a =
    subst (λ (b : Bool). IsTrue b ↔ IsOrdered orders a)
    (sym (so_far a ∙ ap (list_any (λ (o : Order). begins_for a o.what)) (take_all i orders over)))
    (any (λ (o : Order). o.what ≡ kind.Begin a) (λ o. begins_for a o.what) (λ o. begins_is a o.what) orders)

-- ---- a tenancy that is asked for

pub ask_is : (p : Params) (t : Tenancy) (count : ℕ) (disk : DiskNo) → count ≡ t.last + 1 - t.first → disk.0 ≡ disk_of p t.first
    → record { instance = t.instance; file = t.file; count = count; disk = disk } ≡ ask_by p t
ask_is p t count disk counted on i = record { instance = t.instance; file = t.file; count = counted i; disk = record { 0 = on i } }

its_ask : (p : Params) (orders : List Order) (t : Tenancy) → (h : IsAskedFor p orders t) → h.0 ≡ ask_by p t
its_ask p orders t h =
    let count : h.0.count ≡ t.last + 1 - t.first = omega (arith, h.2.count) in
    let disk = h.2.disk in
    λ i. record { instance = h.2.instance i; file = h.2.file i; count = count i; disk = record { 0 = disk i } }

pub asked_by_table : (p : Params) (orders : List Order) (t : Tenancy) (asks : AskNumbers) → AreAsksOf asks orders
    → IsTrue (nat_le t.first (t.last + 1) && has_ask (ask_by p t) asks) ↔ IsAskedFor p orders t
asked_by_table p orders t asks all = (
  (λ h.
      let le : t.first ≤ t.last + 1 = (at_most t.first (t.last + 1)).0 (and_left (nat_le t.first (t.last + 1)) (has_ask (ask_by p t) asks) h) in
      let ordered = (all (ask_by p t)).0 (and_right (nat_le t.first (t.last + 1)) (has_ask (ask_by p t) asks) h) in
      (ask_by p t, ordered, record { instance = refl; file = refl; count = omega (arith, le); disk = refl })),
  (λ h.
      let le : t.first ≤ t.last + 1 = omega (arith, h.2.count) in
      and_both (nat_le t.first (t.last + 1)) (has_ask (ask_by p t) asks) ((at_most t.first (t.last + 1)).1 le)
      ((all (ask_by p t)).1 (subst (λ (a : Ask). IsOrdered orders a) (its_ask p orders t h) h.1))),
)
