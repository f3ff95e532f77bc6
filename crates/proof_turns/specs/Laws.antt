-- What a take puts out is of the take, and what the tick right behind it puts out first is not.
use Rattle.std.specs.Prelude.{◌≡◌, ℕ, true, false, List, [], ◌∷◌}
use Rattle.std.specs.List.{AllByRecursion}
use Rattle.tiger_base.specs.declared.number.LinkNo.{LinkNo}
use Rattle.tiger_base.specs.declared.number.Stamp.{Stamp}
use Rattle.tiger_base.specs.declared.message.Msg.{Msg}
use Rattle.tiger_base.specs.declared.message.Note.{Note}
use Rattle.tiger_base.specs.Notes.{noted}
use Rattle.slot_plan.specs.declared.params.Params.{Params}
use Rattle.node_kit.specs.declared.outbox.Out.{Out}
use Rattle.node_kit.specs.Form.{IsInForm}
use Rattle.node_kit.specs.Steps.{Input, Deed, what_of}
use Rattle.node_kit.specs.Steps.Input.{Take, Tick}
use Rattle.cub_rules.specs.State.{CubState}
use Rattle.cub_rules.specs.Cubs.{cub_step}
use Rattle.proof_turns.specs.Turns.{is_of_take}

-- all of some outputs may come of the take of a message
abbrev pub AreOfTake : {M : Type 0} → (M → Note) → Note → List (Out M) → Type 0
AreOfTake note message outs = AllByRecursion (λ o. is_of_take message (what_of note o) ≡ true) outs

-- the first of them, if there is one, may not
abbrev pub BeginsOtherwise : {M : Type 0} → (M → Note) → Note → List (Out M) → Type 0
BeginsOtherwise note message [] = Unit {0}
BeginsOtherwise note message (o ∷ os) = is_of_take message (what_of note o) ≡ false

-- For nodes that stand at their numbers the entries of a take are told from those of the tick right behind it: they stay
-- where they stand, what a take puts out may come of it, and what the tick puts out first may not, if the message is in
-- form.
pub record AreToldApart {M S : Type 0} (note : M → Note) (step : S → Input M → Deed M S)
    (stands : S → Params → ℕ → Type 0) (p : Params) : Type 0 where
  pub stays : (n : ℕ) (s : S) (i : Input M) → stands s p n → stands (step s i).state p n
  pub takes : (n : ℕ) (s : S) (stamp : Stamp) (link : LinkNo) (msg : M) → stands s p n
      → AreOfTake note (note msg) (step s (Take stamp link msg)).outs
  pub ticks : (n : ℕ) (s : S) (stamp now : Stamp) (link : LinkNo) (msg : M) → stands s p n → IsInForm p (note msg)
      → BeginsOtherwise note (note msg) (step (step s (Take stamp link msg)).state (Tick now)).outs

-- whatever a cub puts out when it takes a message may come of the take
abbrev pub TakesWriteTheirOwn : Type 0
TakesWriteTheirOwn =
    (s : CubState) (stamp : Stamp) (link : LinkNo) (m : Msg)
    → AreOfTake noted (noted m) (cub_step s (Take stamp link m)).outs

-- and what it puts out first when it ticks right behind may not
abbrev pub TicksBeginOtherwise : Type 0
TicksBeginOtherwise =
    (s : CubState) (stamp now : Stamp) (link : LinkNo) (m : Msg) → IsInForm s.params (noted m)
    → BeginsOtherwise noted (noted m) (cub_step (cub_step s (Take stamp link m)).state (Tick now)).outs
