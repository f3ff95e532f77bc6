-- The events that a node has left behind some of them, as its course and its life have them, and as its steps do.
use Rattle.std.proofs.Common.{◌≡◌, ℕ, ◌<◌, ◌≤◌, List, [], ◌∷◌, false, refl}
use Rattle.std.proofs.Common.{arith}
use Rattle.std.specs.Prelude.{nat_lt}
use Rattle.std.specs.List.{AllByRecursion}
use Rattle.std.proofs.lemmas.Bool.Decides.{nat_tests}
use Rattle.tiger_base.specs.declared.number.Stamp.{Stamp}
use Rattle.tiger_base.specs.declared.message.Note.{Note}
use Rattle.node_kit.specs.Life.{Lifetime}
use Rattle.node_kit.specs.Steps.{Input, Deed}
use Rattle.run_facts.specs.Events.{NodeEvent, Past, after, behind, stamp_at}
use Rattle.run_facts.specs.Accounts.{AreCounted, AreInTurn, AreWhole, LivesBy}
use Rattle.run_facts.proofs.Rows.{all-weaker, filter-none}
use Rattle.run_facts.proofs.Timelines.{rising-counted}
use Rattle.proof_answer.proofs.Dated.{events_below}
use Rattle.proof_answer.proofs.Stages.{Stage, next_stage, GoesOn}

-- All events that a node has from one on, before which its stage, its open beat and itself are these, up to the end of
-- the beats, or its death if it does not return. Its clock shows these readings, by beat.
pub record AreLeft {M S : Type 0} (note : M → Note) (step : S → Input M → Deed M S) (shows : ℕ → ℕ) (life : Lifetime)
    (beats : ℕ) (s : Stage) (t : ℕ) (past : Past S) (es : List (NodeEvent M)) : Type 0 where
  pub stamped : AllByRecursion (λ e. (stamp_at e).reading ≡ shows (stamp_at e).beat) es
  pub early : AllByRecursion (λ e. (stamp_at e).beat < beats) es
  pub counted : AreCounted t es
  pub in_turn : AreInTurn es
  pub lived : AllByRecursion (LivesBy life) es
  pub whole : AreWhole note step es past
  pub goes_on : GoesOn life.back beats s t es

module _ {M S : Type 0} (note : M → Note) (step : S → Input M → Deed M S) (shows : ℕ → ℕ) (life : Lifetime) (beats : ℕ)
    (s : Stage) (t : ℕ) (past : Past S) where
  -- behind the first of them the others are left
  pub left-behind : (e : NodeEvent M) (es : List (NodeEvent M)) → AreLeft note step shows life beats s t past (e ∷ es)
      → AreLeft note step shows life beats (next_stage s e) (behind e t) (after note step e past) es
  left-behind e es h = record {
    stamped = h.stamped.1;
    early = h.early.1;
    counted = h.counted.1;
    in_turn = h.in_turn.1;
    lived = h.lived.1;
    whole = h.whole.1;
    goes_on = h.goes_on.1;
  }

  -- nothing is left below the beat that is open
  pub none-below : (b : ℕ) (es : List (NodeEvent M)) → nat_lt t b ≡ false
      → AreLeft note step shows life beats s t past es → events_below b es ≡ []
  none-below b es over h =
      let above = (rising-counted t es h.counted).0 in
      let late = all-weaker (λ (e : NodeEvent M). t ≤ (stamp_at e).beat) (λ e. nat_lt (stamp_at e).beat b ≡ false) es
      (λ e low. grind (arith, nat_tests, over, low)) above in
      filter-none (λ e. nat_lt (stamp_at e).beat b) es late

-- two stamps of one clock in one beat are the same
pub stamp-same : (r s : Stamp) → r.beat ≡ s.beat → r.reading ≡ s.reading → r ≡ s
stamp-same r s p q =
    let same : ◌≡◌ {A = Stamp} (record { beat = r.beat; reading = r.reading })
    (record { beat = s.beat; reading = s.reading }) = rw (p, q) refl in
    same
