-- What a node writes and sends does not hang on its life, since what is cut off stands in the events.
use Rattle.std.proofs.Common.{◌≡◌, ℕ, List, [], ◌∷◌, ◌++◌, refl, ap, ◌∙◌}
use Rattle.tiger_base.specs.declared.message.Note.{Note}
use Rattle.node_kit.specs.declared.journal.Entry.{Entry}
use Rattle.node_kit.specs.declared.journal.What.TheVariants as what
use Rattle.node_kit.specs.Outputs.{cut_at, with_death}
use Rattle.node_kit.specs.Steps.{Input, Deed, entries_of}
use Rattle.run_facts.specs.Events.{NodeEvent, Past, after, after_all, after_input, after_cut, kept_outs, left_outs, outs_of, stamp_at, sends_of, sends_along}
use Rattle.run_facts.specs.Events.NodeEvent.{Does, Ends, Dies, Returns}

-- two nodes that are alike but for their lives
pub record AreTwins {S : Type 0} (a b : Past S) : Type 0 where
  pub state : a.state ≡ b.state
  pub journal : a.journal ≡ b.journal

pub outs-twin : {M S : Type 0} (step : S → Input M → Deed M S) (x : NodeEvent M) (a b : Past S) → a.state ≡ b.state
    → outs_of step x a ≡ outs_of step x b
unfolding kept_outs left_outs
outs-twin step (Does i) a b same = ap (λ s. (step s i).outs) same
outs-twin step (Ends i sends) a b same = ap (λ s. cut_at sends (step s i).outs) same
outs-twin step (Dies stamp) a b same = refl
outs-twin step (Returns stamp) a b same = refl

after-twin : {M S : Type 0} (note : M → Note) (step : S → Input M → Deed M S) (x : NodeEvent M) (a b : Past S)
    → AreTwins a b → AreTwins (after note step x a) (after note step x b)
unfolding after_input after_cut kept_outs left_outs
after-twin note step (Does i) a b t = record {
  state = ap (λ s. (step s i).state) t.state;
  journal = ap (λ s. a.journal ++ entries_of note i (step s i).outs) t.state
      ∙ ap (λ j. j ++ entries_of note i (step b.state i).outs) t.journal;
}
after-twin note step (Ends i sends) a b t = record {
  state = ap (λ s. (step s i).state) t.state;
  journal = ap (λ s. a.journal ++ entries_of note i (with_death (cut_at sends (step s i).outs))) t.state
      ∙ ap (λ j. j ++ entries_of note i (with_death (cut_at sends (step b.state i).outs))) t.journal;
}
after-twin note step (Returns stamp) a b t = t
after-twin note step (Dies stamp) a b t = record {
  state = t.state;
  journal = ap (λ (j : List Entry). j ++ (record { stamp = stamp; what = what.Died }) ∷ []) t.journal;
}

pub all-twin : {M S : Type 0} (note : M → Note) (step : S → Input M → Deed M S) (es : List (NodeEvent M)) (a b : Past S)
    → AreTwins a b → AreTwins (after_all note step es a) (after_all note step es b)
all-twin note step [] a b t = t
all-twin note step (e ∷ es) a b t =
    all-twin note step es (after note step e a) (after note step e b) (after-twin note step e a b t)

pub sends-twin : {M S : Type 0} (note : M → Note) (step : S → Input M → Deed M S) (l : ℕ) (es : List (NodeEvent M))
    (a b : Past S) → AreTwins a b → sends_along note step l es a ≡ sends_along note step l es b
sends-twin note step l [] a b t = refl
sends-twin note step l (e ∷ es) a b t =
    let now = (stamp_at e).beat in
    ap (λ os. sends_of l now os ++ sends_along note step l es (after note step e a)) (outs-twin step e a b t.state)
    ∙ ap (λ ds. sends_of l now (outs_of step e b) ++ ds)
    (sends-twin note step l es (after note step e a) (after note step e b) (after-twin note step e a b t))
