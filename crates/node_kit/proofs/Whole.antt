-- Whole lives, whose death cuts no event off and which have no return; and what a life leaves whole.
use Rattle.std.proofs.Common.{◌≡◌, ℕ, List, [], ◌-◌, Bool, true, false, arith, Option, Some, None, refl, ap}
use Rattle.std.proofs.Common.{cond}
use Rattle.std.specs.Prelude.{◌==◌, ◌&&◌, is_some}
use Rattle.tiger_base.specs.declared.number.Stamp.{Stamp}
use Rattle.node_kit.specs.declared.outbox.Out.{Out}
use Rattle.node_kit.specs.Life.{Lifetime, mortal, left_in, ends_in, cut_by, cut_to, spent}
use Rattle.node_kit.specs.Life.{fewer}

either : {A : Type 0} (t : Bool) (a : A) → cond t a a ≡ a
either true a = refl
either false a = refl

pub left-none : (o : Option ℕ) (b : ℕ) → left_in (mortal o) b ≡ None
left-none None b = refl
left-none (Some d) b = either (b == d && true) None

pub ends-never : (o : Option ℕ) (b : ℕ) → ends_in (mortal o) b ≡ false
ends-never o b = ap (λ (q : Option ℕ). is_some q) (left-none o b)

-- in a beat in which no death is to cut the node off, nothing is cut off
unended-by : {M : Type 0} (o : Option ℕ) (ticked : Bool) (outs : List (Out M)) → is_some o ≡ false
    → cut_by o ticked outs ≡ None
unended-by None ticked outs h = refl
unended-by (Some k) ticked outs h = absurd (cc)

pub cut-unended : {M : Type 0} (life : Lifetime) (stamp : Stamp) (ticked : Bool) (outs : List (Out M))
    → ends_in life stamp.beat ≡ false → cut_to life stamp ticked outs ≡ None
unfolding cut_to
cut-unended life stamp ticked outs h = unended-by (left_in life stamp.beat) ticked outs h

-- a life in which nothing was sent stays
fewer-none : (o : Option ℕ) → fewer 0 o ≡ o
fewer-none None = refl
fewer-none (Some k) = let e : k - 0 ≡ k = omega arith in ap Some e

pub spent-nothing : (M : Type 0) (life : Lifetime) (stamp : Stamp) → spent {M = M} life stamp [] ≡ life
spent-nothing M life stamp = rw (fewer-none life.left) (by stamp.beat life.death)
  where
    by : (b : ℕ) (d : Option ℕ) → cond (elim d as (λ _. Bool) [ None ↦ false | Some x ↦ b == x ]) life life ≡ life
    by b None = refl
    by b (Some d) = either (b == d) life
