-- Relations between what a cub keeps and what it does, which hold of rules if they hold of what the rules are made of.
use Rattle.std.proofs.Common.{◌≡◌, ℕ, List, [], ◌∷◌, ◌++◌, Bool, true, false, cond, is_some, Option, Some, None, refl, inl, inr}
use Rattle.std.proofs.lemmas.Bool.{cond_both}
use Rattle.tiger_base.specs.declared.number.Stamp.{Stamp}
use Rattle.tiger_base.specs.declared.message.Msg.{Msg}
use Rattle.slot_plan.specs.declared.params.Params.{Params}
use Rattle.node_kit.specs.Steps.{Deed}
use Rattle.node_kit.specs.Deeds.{nothing, then_do, each_in_turn}
use Rattle.cub_rules.specs.declared.store.Store.{Store}
use Rattle.cub_changes.specs.Changes.{Change, did}
use Rattle.cub_changes.specs.Causes.{Stage, Cause}
use Rattle.lists.specs.Elements.{In}

-- it holds if nothing is done, and of one deed after another
pub record IsClosed (P : Store → Deed Msg Store → Type 0) : Type 0 where
  pub none : (h : Store) → P h (nothing h)
  pub both : (h : Store) (d e : Deed Msg Store) → P h d → P d.state e → P h (record { outs = d.outs ++ e.outs; state = e.state })

-- it holds of each change that is made in a stage, which began with this store
abbrev pub OfEach : (Store → Deed Msg Store → Type 0) → Params → ℕ → Stamp → Stage → Store → Type 0
OfEach P p c stamp g from = (x : Change) (h : Store) → Cause p c stamp g from x h → P h (did p c stamp x h)

pub none_is : {X : Type 0} (o : Option X) → is_some o ≡ false → o ≡ None
none_is None e = refl
none_is (Some x) e = absurd (cc)

module _ (P : Store → Deed Msg Store → Type 0) (closed : IsClosed P) where
  pub then_by : (f g : Store → Deed Msg Store) (h : Store) → P h (f h) → P (f h).state (g (f h).state) → P h (then_do f g h)
  then_by f g h one two = closed.both h (f h) (g (f h).state) one two

  pub each_by : {A : Type 0} (f : A → Store → Deed Msg Store) (xs : List A) → ((a : A) → In a xs → (h : Store) → P h (f a h))
      → (h : Store)
      → P h (each_in_turn f xs h)
  each_by f [] one h = closed.none h
  each_by f (x ∷ xs) one h =
      then_by f_x (each_in_turn f xs) h (one x (inl refl) h) (each_by f xs (λ a i. one a (inr i)) (f x h).state)
    where
      f_x : Store → Deed Msg Store
      f_x = f x

  pub if_by : (b : Bool) (h : Store) (d e : Deed Msg Store) → (b ≡ true → P h d) → (b ≡ false → P h e) → P h (cond b d e)
  if_by b h d e one two = cond_both b d e (λ (x : Deed Msg Store). P h x) one two
