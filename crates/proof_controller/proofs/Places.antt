-- The places of orders, and of what is sent for them.
use Rattle.std.proofs.Common.{◌≡◌, ℕ, zero, suc, ◌<◌, arith, length, List, [], ◌∷◌, Bool, Some, sym, ap, ◌∙◌, ⊎_elim, inl, inr}
use Rattle.std.specs.Prelude.{slice_get}
use Rattle.std.proofs.lemmas.Option.{none-some}
use Rattle.tiger_base.specs.declared.number.LinkNo.{LinkNo}
use Rattle.tiger_base.specs.declared.tenancy.Ask.{Ask}
use Rattle.tiger_base.specs.declared.message.Msg.{Msg}
use Rattle.tiger_base.specs.declared.message.Msg.TheVariants as msg
use Rattle.node_kit.specs.declared.course.Order.{Order}
use Rattle.node_kit.specs.declared.course.OrderKind.{OrderKind}
use Rattle.node_kit.specs.declared.course.OrderKind.TheVariants.{Begin}
use Rattle.node_kit.specs.declared.outbox.Out.{Out}
use Rattle.node_kit.specs.declared.outbox.Out.TheVariants as out
use Rattle.run_facts.specs.Events.{sends_of}
use Rattle.controller_core.specs.Orders.{Starts}
use Rattle.lists.specs.Elements.{In}
use Rattle.proof_lives.proofs.Carrying.{sends_in}
use Rattle.proof_controller.specs.Orders.{StartAt}

-- elements have places
pub in_place : {X : Type 0} (x : X) (xs : List X) → In x xs → (k : ℕ) × (slice_get xs k ≡ Some x)
in_place x [] i = absurd i
in_place x (y ∷ ys) i = ⊎_elim (λ e. (0, ap (λ z. Some z) (sym e))) (λ e. let r = in_place x ys e in (suc r.0, r.1)) i

pub place_in : {X : Type 0} (x : X) (xs : List X) (k : ℕ) → slice_get xs k ≡ Some x → In x xs
place_in x [] k e = absurd (none-some x e)
place_in x (y ∷ ys) zero e = let z : y ≡ x = cc in inl (sym z)
place_in x (y ∷ ys) (suc k) e = inr (place_in x ys k e)

-- what has a place stands in the list
pub get_below : {X : Type 0} (xs : List X) (k : ℕ) (x : X) → slice_get xs k ≡ Some x → k < length xs
get_below [] k x e = absurd (none-some x e)
get_below (z ∷ zs) zero x e = omega arith
get_below (z ∷ zs) (suc k) x e = let r = get_below zs k x e in omega arith

-- no two starts among them are of one instance
abbrev pub AreDistinct : List Order → Type 0
AreDistinct [] = Unit {0}
AreDistinct (o ∷ os) = ((q : Order) (a b : Ask) → In q os → o.what ≡ Begin a → q.what ≡ Begin b → a.instance.0 ≡ b.instance.0 → ⊥) × AreDistinct os

pub order_made : (o : Order) (w : OrderKind) → o.what ≡ w → o ≡ record { beat = o.beat; what = w }
order_made o w e = ap (λ (x : OrderKind). record { beat = o.beat; what = x }) e

pub starts_at : (os : List Order) (k : ℕ) (o : Order) (a : Ask) → slice_get os k ≡ Some o → o.what ≡ Begin a → Starts os k a
starts_at os k o a e w = (o.beat, e ∙ ap (λ (x : Order). Some x) (order_made o (Begin a) w))

-- a start among what is sent is an output
pub start_sent : (l b : ℕ) (os : List (Out Msg)) (k v : ℕ) → StartAt (sends_of l b os) k v → (link : LinkNo) × (ask : Ask) × (redundant : Bool) × In (out.Send link (msg.Start redundant ask)) os × (ask.instance.0 ≡ v)
start_sent l b os k v s = let r = sends_in l b os (record { beat = s.beat; item = msg.Start s.redundant s.ask }) k s.at in (r.0, s.ask, s.redundant, r.2, s.same)
