-- What is told of one life of a cub is told of its history, whichever life that is; and which outputs tell of a return or
-- may be added.
use Rattle.std.proofs.Common.{◌≡◌, ℕ, zero, suc, List, [], refl, subst, sym, ⊎_elim, inl, inr}
use Rattle.std.specs.Prelude.{◌⊎◌}
use Rattle.std.specs.List.{AllByRecursion}
use Rattle.tiger_base.specs.declared.message.Msg.{Msg}
use Rattle.tiger_base.specs.declared.message.Msg.TheVariants as msg
use Rattle.slot_plan.specs.declared.params.Params.{Params}
use Rattle.node_kit.specs.declared.journal.What.{What}
use Rattle.node_kit.specs.declared.journal.What.TheVariants as what
use Rattle.node_kit.specs.declared.outbox.Out.{Out}
use Rattle.node_kit.specs.declared.outbox.Out.TheVariants as out
use Rattle.run_facts.specs.Histories.{History}
use Rattle.proof_lives.specs.Lives.{Lives}
use Rattle.proof_facts.specs.Beside.{Additions, IsAddition}
use Rattle.proof_facts.specs.Lives.{lives_of, later_lives_of}
use Rattle.proof_facts.specs.Rings.{return_outs}
use Rattle.lists.specs.Elements.{In}
use Rattle.lists.proofs.Each.{all_in}
use Rattle.proof_lives.specs.TwoLifeRun.{WhichLife, life_in}
use Rattle.proof_lives.specs.TwoLifeRun.WhichLife.{First, Later}

module _ {S : Type 0} (h : History Msg S) where
  -- what goes out at an input before what the cub's rules put out at it: what tells of a return
  abbrev pub before_it : Params → WhichLife → ℕ → ℕ → List (Out Msg)
  before_it p First c i = []
  before_it p Later c i = return_outs p c ((later_lives_of h).input c) i

  -- What is told of one of the lives is told of both together, and what follows from each of them follows from that.
  pub in_life : (F : Lives → Type 0) (w : WhichLife) → F (life_in h w) → F (lives_of h) ⊎ F (later_lives_of h)
  in_life F First x = inl x
  in_life F Later x = inr x

  pub by_life : {X : Type 0} (F : Lives → Type 0) → ((w : WhichLife) → F (life_in h w) → X)
      → F (lives_of h) ⊎ F (later_lives_of h) → X
  by_life F each x = ⊎_elim (λ k. each First k) (λ k. each Later k) x

-- What holds of both holds of each.
pub each_life : {S : Type 0} (h : History Msg S) (F : Lives → Type 0) → F (lives_of h) → F (later_lives_of h)
    → (w : WhichLife) → F (life_in h w)
each_life h F first later First = first
each_life h F first later Later = later

-- What is added at an input of one of a cub's lives: something at those of the first alone.
abbrev pub beside_it : Additions → WhichLife → ℕ → ℕ → List (Out Msg)
beside_it added First c i = added c i
beside_it added Later c i = []

-- An output tells of no return, and may not be added.
abbrev pub IsByRules : Out Msg → Type 0
IsByRules (out.Act what.Returned) = ⊥
IsByRules (out.Send link (msg.Back from)) = ⊥
IsByRules (out.Send link (msg.MirrorState x)) = ⊥
IsByRules (out.Send link (msg.Kill v s n)) = ⊥
IsByRules other = Unit {0}

-- Nothing tells of a return but the first input of a life.
pub nothing_later : {S : Type 0} (h : History Msg S) (p : Params) (w : WhichLife) (c i : ℕ)
    → before_it h p w c (suc i) ≡ []
nothing_later h p First c i = refl
nothing_later h p Later c i = refl

-- So what tells of none is none of those outputs.
pub not_returning : {S : Type 0} (h : History Msg S) (p : Params) (w : WhichLife) (c i : ℕ) (o : Out Msg) → IsByRules o
    → In o (before_it h p w c i) → ⊥
not_returning h p First c i o other k = k
not_returning h p Later c (suc i) o other k = k
not_returning h p Later c zero o other k = ⊎_elim
    (λ (e : o ≡ out.Act what.Returned). subst IsByRules e other)
    (λ r. ⊎_elim (λ e. subst IsByRules e other) (λ none. none) r)
    k

-- Such an output is none of those that are added.
pub not_added : (p : Params) (c : ℕ) (os : List (Out Msg)) (o : Out Msg) → AllByRecursion (IsAddition p c) os → IsByRules o
    → In o os → ⊥
not_added p c os o few by k = ⊎_elim
    (λ a. subst IsByRules a.1.is by)
    (λ a. subst IsByRules a.3.is by)
    (all_in (IsAddition p c) o os few k)

-- Nor is an entry of a cub's own.
abbrev IsMessage : Out Msg → Type 0
IsMessage (out.Act w) = ⊥
IsMessage (out.Send link m) = Unit {0}

pub act_not_added : (p : Params) (c : ℕ) (w : What) → IsAddition p c (out.Act w) → ⊥
act_not_added p c w a = ⊎_elim
    (λ k. subst IsMessage (sym k.1.is) tt)
    (λ k. subst IsMessage (sym k.3.is) tt)
    a
