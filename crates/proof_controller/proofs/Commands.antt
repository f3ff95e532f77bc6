-- What a controller sends: starts of its orders, each once to each cub, and deschedules.
use Rattle.std.proofs.Common.{◌≡◌, ℕ, zero, suc, ◌+◌, ◌<◌, ◌==◌, ◌%◌, nat_lt, List, [], ◌∷◌, ◌++◌, filter, Bool, true, false, Option, Some, None, refl, sym, ap, subst, ◌∙◌, arith, ⊎_elim, inl, inr}
use Rattle.std.specs.Prelude.{◌⊎◌, slice_get}
use Rattle.std.proofs.lemmas.Bool.{cases_Bool, eqb-true}
use Rattle.std.proofs.lemmas.Nat.{mod_below}
use Rattle.std.proofs.lemmas.Option.{none-some}
use Rattle.tiger_base.specs.declared.number.Instance.{Instance}
use Rattle.tiger_base.specs.declared.number.LinkNo.{LinkNo}
use Rattle.tiger_base.specs.declared.number.Stamp.{Stamp}
use Rattle.tiger_base.specs.declared.tenancy.Ask.{Ask}
use Rattle.tiger_base.specs.declared.tenancy.Tag.{Tag}
use Rattle.tiger_base.specs.declared.tenancy.Tenancy.{Tenancy}
use Rattle.tiger_base.specs.declared.message.Msg.{Msg}
use Rattle.tiger_base.specs.declared.message.Msg.TheVariants as msg
use Rattle.slot_plan.specs.declared.params.Params.{Params}
use Rattle.slot_plan.specs.Conditions.{IsPlan}
use Rattle.slot_plan.specs.Times.{cub_of}
use Rattle.slot_plan.proofs.Times.{cub_apart, seven_cubs}
use Rattle.node_kit.specs.declared.course.Order.{Order}
use Rattle.node_kit.specs.declared.course.OrderKind.{OrderKind}
use Rattle.node_kit.specs.declared.course.OrderKind.TheVariants.{Begin, Finish}
use Rattle.node_kit.specs.declared.journal.What.TheVariants as what
use Rattle.node_kit.specs.declared.outbox.Out.{Out}
use Rattle.node_kit.specs.declared.outbox.Out.TheVariants as out
use Rattle.node_kit.specs.Steps.{Deed}
use Rattle.node_kit.specs.Ways.{way_to_cub}
use Rattle.node_kit.specs.Deeds.{nothing, each_in_turn}
use Rattle.run_facts.specs.Events.{Dated, sends_of}
use Rattle.controller_core.specs.declared.known.Known.{Known}
use Rattle.controller_core.specs.Orders.{Starts, orders_in, start_of}
use Rattle.controller_core.specs.State.{tenancy_of, is_gone}
use Rattle.controller_core.specs.Rules.{starts, gone_from, visit_due, stops_start, stops, stopping, carries, carrying, commanding}
use Rattle.lists.specs.Elements.{In}
use Rattle.lists.proofs.Elements.{chosen, in_cases, from_filter}
use Rattle.proof_controller.proofs.StartsOnce.{once_nothing, once_both}
use Rattle.proof_controller.specs.Orders.{StartAt, IsOnce, AreCounted}
use Rattle.proof_controller.proofs.Places.{in_place, AreDistinct, order_made, starts_at, start_sent}

-- a start of one of some orders, on a link to a cub
pub record IsStartOut (p : Params) (os : List Order) (link : LinkNo) (m : Msg) : Type 0 where
  pub order : Order
  pub there : In order os
  pub ask : Ask
  pub what : order.what ≡ Begin ask
  pub redundant : Bool
  pub is : m ≡ msg.Start redundant ask
  pub low : link.0 < p.cubs

-- a deschedule
abbrev pub IsDeschedule : Msg → Type 0
IsDeschedule m = (v : Instance) × (tag : Option Tag) × (m ≡ msg.Deschedule v tag)

abbrev pub IsCommand : Params → List Order → LinkNo → Msg → Type 0
IsCommand p os link m = IsStartOut p os link m ⊎ IsDeschedule m

-- what goes out with a start
pub way_low : (p : Params) (n : ℕ) → IsPlan p → (way_to_cub p (n % p.cubs)).0 < p.cubs
unfolding way_to_cub
way_low p n plan = mod_below n p.cubs (omega (arith, plan.ranges.cubs))

pub starts_out : (p : Params) (ask : Ask) (link : LinkNo) (m : Msg) → IsPlan p → In (out.Send link m) (starts p ask) → (redundant : Bool) × (m ≡ msg.Start redundant ask) × (link.0 < p.cubs)
unfolding starts
starts_out p ask link m plan i = ⊎_elim
    (λ (e : out.Send link m ≡ out.Send (way_to_cub p (ask.disk.0 % p.cubs)) (msg.Start false ask)).
    let z : m ≡ msg.Start false ask = cc in let y : link ≡ way_to_cub p (ask.disk.0 % p.cubs) = cc in
    (false, z, subst (λ (x : LinkNo). x.0 < p.cubs) (sym y) (way_low p ask.disk.0 plan)))
    (λ i. ⊎_elim
    (λ (e : out.Send link m ≡ out.Send (way_to_cub p ((ask.disk.0 + 1) % p.cubs)) (msg.Start true ask)).
    let z : m ≡ msg.Start true ask = cc in let y : link ≡ way_to_cub p ((ask.disk.0 + 1) % p.cubs) = cc in
    (true, z, subst (λ (x : LinkNo). x.0 < p.cubs) (sym y) (way_low p (ask.disk.0 + 1) plan)))
    (λ i. absurd i)
    i)
    i

-- with a stop only deschedules go out
pub gone_out : (p : Params) (v : Instance) (tag : Option Tag) (n : ℕ) (known : Known) (link : LinkNo) (m : Msg) → In (out.Send link m) (gone_from p v tag n known).outs → IsDeschedule m
unfolding gone_from
gone_out p v tag n known link m i = ⊎_elim
    (λ (e : out.Send link m ≡ out.Act (what.Gone v)). absurd (cc))
    (λ i. ⊎_elim
    (λ (e : out.Send link m ≡ out.Send (way_to_cub p (n % p.cubs)) (msg.Deschedule v tag)). let z : m ≡ msg.Deschedule v tag = cc in (v, tag, z))
    (λ i. ⊎_elim
    (λ (e : out.Send link m ≡ out.Send (way_to_cub p ((n + 1) % p.cubs)) (msg.Deschedule v tag)). let z : m ≡ msg.Deschedule v tag = cc in (v, tag, z))
    (λ i. absurd i)
    i)
    i)
    i

pub stops_out : (p : Params) (all : List Order) (r : ℕ) (v : Instance) (t : Option Tenancy) (known : Known) (link : LinkNo) (m : Msg) → In (out.Send link m) (stops p all r v t known).outs → IsDeschedule m
stops_out p all r v (Some t) known link m i =
    let n : ℕ = visit_due p t r in
    let tag : Option Tag = Some (record { slot = t.slot; visit = n }) in
    chosen (λ (d : Deed Msg Known). In (out.Send link m) d.outs → IsDeschedule m) (nat_lt t.last n) (nothing known) (gone_from p v tag n known)
    (λ _ k. absurd k) (λ _ k. gone_out p v tag n known link m k) i
stops_out p all r v None known link m i = by_start (start_of all v) i
  where
    by_start : (a : Option Ask) → In (out.Send link m) (stops_start p v a known).outs → IsDeschedule m
    by_start None k = absurd k
    by_start (Some ask) k = gone_out p v None ask.disk.0 known link m k

pub stopping_out : (p : Params) (all : List Order) (r : ℕ) (v : Instance) (known : Known) (link : LinkNo) (m : Msg) → In (out.Send link m) (stopping p all r v known).outs → IsDeschedule m
unfolding stopping
stopping_out p all r v known link m i =
    chosen (λ (d : Deed Msg Known). In (out.Send link m) d.outs → IsDeschedule m) (is_gone known.gone v) (nothing known) (stops p all r v (tenancy_of known.placed v) known)
    (λ _ k. absurd k) (λ _ k. stops_out p all r v (tenancy_of known.placed v) known link m k) i

-- what goes out with an order, and with orders one after another
pub carries_out : (p : Params) (all os : List Order) (r : ℕ) (o : Order) (w : OrderKind) (known : Known) (link : LinkNo) (m : Msg) → IsPlan p → In o os → o.what ≡ w → In (out.Send link m) (carries p all r w known).outs
    → IsCommand p os link m
carries_out p all os r o (Begin ask) known link m plan there e i =
    let s = starts_out p ask link m plan i in
    inl (record { order = o; there = there; ask = ask; what = e; redundant = s.0; is = s.1; low = s.2 })
carries_out p all os r o (Finish v) known link m plan there e i = inr (stopping_out p all r v known link m i)

pub carrying_out : (p : Params) (all os : List Order) (r : ℕ) (o : Order) (known : Known) (link : LinkNo) (m : Msg) → IsPlan p → In o os → In (out.Send link m) (carrying p all r o known).outs → IsCommand p os link m
unfolding carrying
carrying_out p all os r o known link m plan there i = carries_out p all os r o o.what known link m plan there refl i

pub each_out : (p : Params) (all os : List Order) (r : ℕ) (rest : List Order) (known : Known) (link : LinkNo) (m : Msg) → IsPlan p → ((o : Order) → In o rest → In o os)
    → In (out.Send link m) (each_in_turn (carrying p all r) rest known).outs → IsCommand p os link m
each_out p all os r [] known link m plan wide i = absurd i
each_out p all os r (o ∷ rest) known link m plan wide i =
    ⊎_elim
    (λ k. carrying_out p all os r o known link m plan (wide o (inl refl)) k)
    (λ k. each_out p all os r rest (carrying p all r o known).state link m plan (λ q j. wide q (inr j)) k)
    (in_cases (out.Send link m) (carrying p all r o known).outs (each_in_turn (carrying p all r) rest (carrying p all r o known).state).outs i)

pub commanding_out : (p : Params) (os : List Order) (stamp : Stamp) (known : Known) (link : LinkNo) (m : Msg) → IsPlan p → In (out.Send link m) (commanding p os stamp known).outs
    → IsCommand p (filter (λ o. o.beat == stamp.beat) os) link m
unfolding commanding orders_in
commanding_out p os stamp known link m plan i =
    each_out p os (filter (λ o. o.beat == stamp.beat) os) stamp.reading (filter (λ o. o.beat == stamp.beat) os) known link m plan (λ o j. j) i

-- a start among it is one of the orders'
pub start_out : (p : Params) (os : List Order) (link : LinkNo) (a : Ask) (x : Bool) → IsCommand p os link (msg.Start x a) → (o : Order) × In o os × (o.what ≡ Begin a) × (link.0 < p.cubs)
start_out p os link a x c = ⊎_elim
    (λ s. let is = s.is in let z : a ≡ s.ask = cc in (s.order, s.there, s.what ∙ ap (λ (q : Ask). Begin q) (sym z), s.low))
    (λ d. let e = d.2 in absurd (cc))
    c

-- no two starts are of one instance
pub distinct_from : (os : List Order) → ((j k : ℕ) (a b : Ask) → Starts os j a → Starts os k b → a.instance.0 ≡ b.instance.0 → j ≡ k) → AreDistinct os
distinct_from [] once = tt
distinct_from (o ∷ os) once = (
  (λ q a b i e f same.
      let k = in_place q os i in
      let z = once 0 (suc k.0) a b (o.beat, ap (λ (x : Order). Some x) (order_made o (Begin a) e)) (q.beat, k.1 ∙ ap (λ (x : Order). Some x) (order_made q (Begin b) f)) same in
      omega arith),
  distinct_from os (λ j k a b s t same. let z = once (suc j) (suc k) a b (s.0, s.1) (t.0, t.1) same in omega arith),
)

pub distinct_filter : (test : Order → Bool) (os : List Order) → AreDistinct os → AreDistinct (filter test os)
distinct_filter test [] d = tt
distinct_filter test (o ∷ os) d =
    chosen AreDistinct (test o) (o ∷ filter test os) (filter test os)
    (λ _. ((λ q a b i e f same. d.0 q a b (from_filter test q os i).0 e f same), distinct_filter test os d.1)) (λ _. distinct_filter test os d.1)

pub one_order : (p : Params) (os : List Order) (o q : Order) (a b : Ask) → AreCounted p os → In o os → In q os → o.what ≡ Begin a → q.what ≡ Begin b → a.instance.0 ≡ b.instance.0 → o ≡ q
one_order p os o q a b fine i j e f same =
    let x = in_place o os i in
    let y = in_place q os j in
    let k = fine.given.once x.0 y.0 a b (starts_at os x.0 o a x.1 e) (starts_at os y.0 q b y.1 f) same in
    let z : Some o ≡ Some q = sym x.1 ∙ ap (λ n. slice_get os n) k ∙ y.1 in cc

-- on one link a start goes out once
pub sends_both : (l b : ℕ) (xs ys : List (Out Msg)) → sends_of l b (xs ++ ys) ≡ sends_of l b xs ++ sends_of l b ys
sends_both l b [] ys = refl
sends_both l b (out.Act w ∷ xs) ys = sends_both l b xs ys
sends_both l b (out.Send link m ∷ xs) ys = ⊎_elim
    (λ (t : (link.0 == l) ≡ true). rw t (ap (λ (ds : List (Dated Msg)). (record { beat = b; item = m }) ∷ ds) (sends_both l b xs ys)))
    (λ (t : (link.0 == l) ≡ false). rw t (sends_both l b xs ys))
    (cases_Bool (link.0 == l))

pub once_single : (d : Dated Msg) → IsOnce (d ∷ [])
once_single d v j k s t = let a = zero_only d j v s in let b = zero_only d k v t in omega arith
  where
    zero_only : (d : Dated Msg) (j v : ℕ) → StartAt (d ∷ []) j v → j ≡ 0
    zero_only d zero v s = refl
    zero_only d (suc j) v s = absurd (none-some (record { beat = s.beat; item = msg.Start s.redundant s.ask }) s.at)

pub ways_apart : (p : Params) (n : ℕ) → IsPlan p → n % p.cubs ≡ (n + 1) % p.cubs → ⊥
unfolding cub_of
ways_apart p n plan e = let seven = seven_cubs p plan in cub_apart p n 1 (omega arith) (omega arith) e

pub starts_once : (p : Params) (ask : Ask) (l b : ℕ) → IsPlan p → IsOnce (sends_of l b (starts p ask))
unfolding starts way_to_cub
starts_once p ask l b plan = ⊎_elim
    (λ (t : (ask.disk.0 % p.cubs == l) ≡ true). ⊎_elim
    (λ (u : ((ask.disk.0 + 1) % p.cubs == l) ≡ true). absurd (ways_apart p ask.disk.0 plan (eqb-true _ _ t ∙ sym (eqb-true _ _ u))))
    (λ (u : ((ask.disk.0 + 1) % p.cubs == l) ≡ false). rw (t, u) (once_single (record { beat = b; item = msg.Start false ask })))
    (cases_Bool ((ask.disk.0 + 1) % p.cubs == l)))
    (λ (t : (ask.disk.0 % p.cubs == l) ≡ false). ⊎_elim
    (λ (u : ((ask.disk.0 + 1) % p.cubs == l) ≡ true). rw (t, u) (once_single (record { beat = b; item = msg.Start true ask })))
    (λ (u : ((ask.disk.0 + 1) % p.cubs == l) ≡ false). rw (t, u) once_nothing)
    (cases_Bool ((ask.disk.0 + 1) % p.cubs == l)))
    (cases_Bool (ask.disk.0 % p.cubs == l))

pub carries_once : (p : Params) (all : List Order) (r : ℕ) (w : OrderKind) (known : Known) (l b : ℕ) → IsPlan p → IsOnce (sends_of l b (carries p all r w known).outs)
carries_once p all r (Begin ask) known l b plan = starts_once p ask l b plan
carries_once p all r (Finish v) known l b plan = λ w j k s t.
    let x = start_sent l b (stopping p all r v known).outs j w s in
    let d = stopping_out p all r v known x.0 (msg.Start x.2 x.1) x.3 in
    let e = d.2 in absurd (cc)

pub carrying_once : (p : Params) (all : List Order) (r : ℕ) (o : Order) (known : Known) (l b : ℕ) → IsPlan p → IsOnce (sends_of l b (carrying p all r o known).outs)
unfolding carrying
carrying_once p all r o known l b plan = carries_once p all r o.what known l b plan

pub each_once : (p : Params) (all : List Order) (r : ℕ) (os : List Order) (known : Known) (l b : ℕ) → IsPlan p → AreDistinct os → IsOnce (sends_of l b (each_in_turn (carrying p all r) os known).outs)
each_once p all r [] known l b plan distinct = once_nothing
each_once p all r (o ∷ os) known l b plan distinct =
    let first : List (Out Msg) = (carrying p all r o known).outs in
    let rest : List (Out Msg) = (each_in_turn (carrying p all r) os (carrying p all r o known).state).outs in
    subst IsOnce (sym (sends_both l b first rest))
    (once_both (sends_of l b first) (sends_of l b rest)
    (carrying_once p all r o known l b plan)
    (each_once p all r os (carrying p all r o known).state l b plan distinct.1)
    (λ v i j s t.
    let x = start_sent l b first i v s in
    let y = start_sent l b rest j v t in
    let fx = start_out p (o ∷ []) x.0 x.1 x.2 (carrying_out p all (o ∷ []) r o known x.0 (msg.Start x.2 x.1) plan (inl refl) x.3) in
    let fy = start_out p os y.0 y.1 y.2 (each_out p all os r os (carrying p all r o known).state y.0 (msg.Start y.2 y.1) plan (λ q k. k) y.3) in
    let same : fx.0 ≡ o = ⊎_elim (λ e. e) (λ e. absurd e) fx.1 in
    distinct.0 fy.0 x.1 y.1 fy.1 (ap (λ (q : Order). q.what) (sym same) ∙ fx.2) fy.2 (x.4 ∙ sym y.4)))

pub commanding_once : (p : Params) (os : List Order) (stamp : Stamp) (known : Known) (l b : ℕ) → IsPlan p → AreCounted p os → IsOnce (sends_of l b (commanding p os stamp known).outs)
unfolding commanding orders_in
commanding_once p os stamp known l b plan fine =
    each_once p os stamp.reading (filter (λ o. o.beat == stamp.beat) os) known l b plan (distinct_filter (λ o. o.beat == stamp.beat) os (distinct_from os fine.given.once))
