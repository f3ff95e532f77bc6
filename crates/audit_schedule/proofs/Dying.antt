-- Beliefs are judged by the nodes that died before them.
use Rattle.std.proofs.Common.{◌≡◌, ℕ, Bool, true, false, ◌&&◌, ◌||◌, IsTrue, List, [], refl, sym, ap, subst, ◌∙◌}
use Rattle.std.specs.Prelude.{◌==◌, ◌↔◌}
use Rattle.tiger_base.specs.declared.number.CubNo.{CubNo}
use Rattle.node_kit.specs.declared.journal.What.{What}
use Rattle.node_kit.specs.declared.journal.What.TheVariants as what
use Rattle.run_facts.specs.Order.{Noted}
use Rattle.run_facts.specs.Timed.{is_died}
use Rattle.run_model.specs.Moments.{Moment, next_moment, opening}
use Rattle.run_claims.specs.Truths.{BeliefsAreTrue, IsTrueBelief}
use Rattle.audit_frame.specs.Tables.{has_number}
use Rattle.audit_frame.proofs.Added.{or_none}
use Rattle.audit_frame.proofs.Deciding.{GoesBySteps}
use Rattle.audit_schedule.specs.Beliefs.{TellsDead}

pub beliefs_go_by_steps : GoesBySteps BeliefsAreTrue (λ m x. IsTrueBelief m x.entry.what) next_moment opening
beliefs_go_by_steps log = ((λ h. h), (λ h. h))

pub belief_judged : (dead : List ℕ) (m : Moment) (w : What) (cub : CubNo) (r : Bool) → w ≡ what.Believed cub → r ≡ has_number cub.0 dead
    → TellsDead dead m → IsTrue r ↔ IsTrueBelief m w
belief_judged dead m w cub r is e h =
    subst (λ (v : What). IsTrue r ↔ IsTrueBelief m v) (sym is) ((λ t. h cub.0 ∙ sym e ∙ t), (λ t. e ∙ sym (h cub.0) ∙ t))

pub other_judged : (m : Moment) (w : What) → ((cub : CubNo) → w ≡ what.Believed cub → ⊥) → IsTrue true ↔ IsTrueBelief m w
other_judged m (what.Believed cub) n = absurd (n cub refl)
other_judged m other n = ((λ h. tt), (λ h. refl))

pub none_dead : (dead : List ℕ) → dead ≡ [] → TellsDead dead opening
none_dead dead e n = sym (ap (has_number n) e)

and_true : (b : Bool) → (b && true) ≡ b
and_true true = refl
and_true false = refl

pub death_tells : (old new : List ℕ) (m : Moment) (x : Noted) → x.entry.what ≡ what.Died
    → ((n : ℕ) → has_number n new ≡ (has_number n old || (x.node == n))) → TellsDead old m → TellsDead new (next_moment m x)
unfolding next_moment
death_tells old new m x is added h n =
    ap (λ (w : What). m.dead n || ((x.node == n) && is_died w)) is
    ∙ ap (λ (b : Bool). m.dead n || b) (and_true (x.node == n))
    ∙ ap (λ (b : Bool). b || (x.node == n)) (h n) ∙ sym (added n)

not_died : (w : What) → (w ≡ what.Died → ⊥) → is_died w ≡ false
not_died what.Died h = absurd (h refl)
not_died other h = refl

pub other_death_tells : (old : List ℕ) (m : Moment) (x : Noted) → (x.entry.what ≡ what.Died → ⊥) → TellsDead old m
    → TellsDead old (next_moment m x)
unfolding next_moment
other_death_tells old m x not h n =
    ap (λ (b : Bool). m.dead n || ((x.node == n) && b)) (not_died x.entry.what not)
    ∙ or_none (m.dead n) (x.node == n) ∙ h n
