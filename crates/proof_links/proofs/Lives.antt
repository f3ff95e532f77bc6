-- A node of a run lives on, or its death is the last event of its first life, or comes in it.
use Rattle.std.proofs.Common.{◌≡◌, ℕ, zero, suc, ◌+◌, ◌<◌, ◌≤◌, true, false, refl, sym, subst, arith, ⊎_elim, inl, inr, eq-or-lt_of_le}
use Rattle.std.specs.Prelude.{◌⊎◌}
use Rattle.std.proofs.lemmas.Bool.{cases_Bool}
use Rattle.tiger_base.specs.declared.message.Msg.{Msg}
use Rattle.tiger_base.specs.Notes.{noted}
use Rattle.slot_plan.specs.declared.params.Params.{Params}
use Rattle.node_kit.specs.Steps.{Deed, Input}
use Rattle.run_facts.specs.Events.{is_death}
use Rattle.run_facts.specs.Histories.{History, IsRun}
use Rattle.proof_lives.specs.Histories.{first_events}
use Rattle.proof_lives.proofs.Returns.{died, first_ended, first_low}

module _ {S : Type 0} (h : History Msg S) (c : ℕ) where
  -- A node lives on.
  pub record LivesOn : Type 0 where
    pub none : (i : ℕ) → i < h.count c → is_death (h.event c i) ≡ false

  -- Or it dies in the last event of its first life.
  pub record EndsInDeath : Type 0 where
    pub at : ℕ
    pub last : first_events h c ≡ at + 1
    pub death : is_death (h.event c at) ≡ true

-- One of the two holds of each node of a run.
pub lives_or_dies : {S : Type 0} {step : S → Input Msg → Deed Msg S} {p : Params} {nodes : ℕ} {h : History Msg S}
    (run : IsRun noted step p nodes h) (c : ℕ) (known : c < nodes) → LivesOn h c ⊎ EndsInDeath h c
lives_or_dies {S} {step} {p} {nodes} {h} run c known =
    let most = first_low run c known in
    ⊎_elim
    (λ (e : first_events h c ≡ h.count c). go (h.count c) refl e)
    (λ (less : first_events h c < h.count c).
    let d = died run c known less in
    inr (record { at = d.at; last = d.next; death = d.death }))
    (eq-or-lt_of_le most)
  where
    lives : (n : ℕ) → h.count c ≡ suc n → first_events h c ≡ h.count c → is_death (h.event c n) ≡ false → LivesOn h c
    lives n e all f = record {
      none = λ i l. ⊎_elim
          (λ (q : i ≡ n). subst (λ x. is_death (h.event c x) ≡ false) (sym q) f)
          (λ (q : i < n). ⊎_elim
          (λ (t : is_death (h.event c i) ≡ true).
          let z = first_ended run c known i (omega arith) t in absurd (omega arith))
          (λ (alive : is_death (h.event c i) ≡ false). alive)
          (cases_Bool (is_death (h.event c i))))
          (eq-or-lt_of_le (let z : i ≤ n = omega arith in z));
    }

    go : (n : ℕ) → h.count c ≡ n → first_events h c ≡ h.count c → LivesOn h c ⊎ EndsInDeath h c
    go zero e all = inl (record { none = λ i l. absurd (omega arith) })
    go (suc n) e all = ⊎_elim
        (λ (t : is_death (h.event c n) ≡ true). inr (record { at = n; last = omega arith; death = t }))
        (λ (f : is_death (h.event c n) ≡ false). inl (lives n e all f))
        (cases_Bool (is_death (h.event c n)))
